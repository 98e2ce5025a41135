use Rattle.std.proofs.Common.{inl, sym, true≢false, ◌∙◌}
use Rattle.members.proofs.BodyRead.{json_of-found, json_of-refused}
use Rattle.members.proofs.in_json.read_json.Goals as goal

pub returns-in-Ok : goal.returns-in-Ok
returns-in-Ok c = inl (sym (json_of-found _ _ c.in-Ok.ensures.ok.0 c.in-Ok.ensures.ok.1))

pub returns-in-Err-2 : goal.returns-in-Err-2
returns-in-Err-2 c =
    inl (sym (json_of-refused _ (c.in-Err.ensures.err (λ m. true≢false (sym (c.is_memory.ensures.1 m) ∙ c.if-is_memory.false)))))
