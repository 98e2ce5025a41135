use Rattle.text_core.proofs.Kit.{IsOk, IsUtf8-from_is_utf8}
use Rattle.text_core.proofs.short_text.ShortText.as_str.Goals as goal
use Rattle.text_core.proofs.Results.{IsOk-from_cases}

pub unwrap-requires : goal.unwrap-requires
unwrap-requires g c =
    IsOk-from_cases _ _ _ c.from_utf8.ensures.cases (λ e q. q.0 (IsUtf8-from_is_utf8 _ c.self.invariant.is_text))
