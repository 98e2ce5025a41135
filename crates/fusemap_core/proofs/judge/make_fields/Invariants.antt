use Rattle.std.proofs.Common.{◌≡◌, take}
use Rattle.fusemap_core.proofs.judge.make_fields.Given as goal

abbrev pub invariant-loop-draft : goal.invariant-loop-draft
invariant-loop-draft l = l.fields.items ≡ take l.draft-index l.drafts
