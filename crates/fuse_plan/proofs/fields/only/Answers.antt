use Rattle.std.proofs.Common.{Option, sym, ap, ◌∙◌}
use Rattle.std.specs.FinSet as set
use Rattle.fusemap_core.specs.declared.pos.Pos.{Pos}
use Rattle.fusemap_core.specs.Prelude.{is_lock}
use Rattle.fuse_image.specs.Prelude.{Positions, places_where, run}
use Rattle.fuse_plan.proofs.Asked.{none_passes, only_one}
use Rattle.fuse_plan.proofs.fields.only.Goals as goal

pub returns-in-Some : goal.returns-in-Some
returns-in-Some c =
    c.with_run.ensures
    ∙ (ap (λ (s : Positions). set.union s (run c.in-Some.pos 1)) c.empty.ensures
    ∙ (only_one c.in-Some.pos ∙ ap (λ (o : Option Pos). places_where (is_lock o)) (sym c.in-Some.is)))

pub returns-in-None : goal.returns-in-None
returns-in-None c =
    c.empty-in-None.ensures ∙ none_passes (is_lock c.args.pos) (λ p. ap (λ (o : Option Pos). is_lock o p) c.in-None.is)
