use Rattle.std.proofs.Common.{◌≡◌, ℕ, List, Some, Ok, true, false, cond, Err, Result, ap, ◌∙◌, rules}
use Rattle.id_ranges.specs.Prelude.{is_not_before, not_before_of}
use Rattle.office_sql.proofs.Types.{RangeFault, BadNotBefore}
use Rattle.office_sql.proofs.Stepping.{same_value}
use Rattle.office_sql.proofs.read.not_before_if_at.Goals as goal

-- what is read is the text
not_before_read : (text not_before : List ℕ) → Ok not_before ≡ not_before_of text → not_before ≡ text
not_before_read text not_before =
    elim (is_not_before text) as (λ b. ◌≡◌ {A = Result (List ℕ) RangeFault} (Ok not_before) (cond b (Ok text) (Err BadNotBefore)) → not_before ≡ text)
    [ true ↦ λ e. same_value e | false ↦ λ e. absurd (let f = e in cc) ]

pub returns-in-Ok : goal.returns-in-Ok
returns-in-Ok c = ap Some (not_before_read c.in-Some.text.now c.in-Ok.not_before c.in-Ok.ensures) ∙ search rules
