use Rattle.text_core.proofs.Kit.{take, AllByRecursion}
use Rattle.office_commands.specs.Prelude.{HasDigest}
use Rattle.office_commands.proofs.wishes.Wishes.fact_digests.Given as goal

abbrev pub invariant-loop-wish : goal.invariant-loop-wish
invariant-loop-wish l = AllByRecursion (λ w. HasDigest w.want) (take l.wish-index l.wishes)
