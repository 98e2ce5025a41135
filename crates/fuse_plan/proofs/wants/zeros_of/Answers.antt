use Rattle.std.proofs.Common.{ap, ◌∙◌}
use Rattle.fusemap_core.specs.Prelude.{field_named}
use Rattle.fuse_plan.specs.declared.wish.Want.{Want}
use Rattle.fuse_plan.specs.Prelude.{asks_zero, at_field, is_to_be_zero}
use Rattle.fuse_plan.proofs.Asked.{none_passes, never}
use Rattle.fuse_plan.proofs.wants.zeros_of.Goals as goal

pub returns-in-Bit : goal.returns-in-Bit
returns-in-Bit c =
    c.empty.ensures ∙ none_passes (λ p. asks_zero c.args.map.now p c.args.wish.now) (λ p.
    ap (λ (want : Want). at_field c.args.map.now (is_to_be_zero p want) c.args.wish.now.field) c.in-Bit.is
    ∙ never (field_named c.args.wish.now.field c.args.map.now.fields))

pub returns-in-Key : goal.returns-in-Key
returns-in-Key c =
    c.empty-in-Key.ensures ∙ none_passes (λ p. asks_zero c.args.map.now p c.args.wish.now) (λ p.
    ap (λ (want : Want). at_field c.args.map.now (is_to_be_zero p want) c.args.wish.now.field) c.in-Key.is
    ∙ never (field_named c.args.wish.now.field c.args.map.now.fields))

pub returns-in-WriteLock : goal.returns-in-WriteLock
returns-in-WriteLock c =
    c.empty-in-WriteLock.ensures ∙ none_passes (λ p. asks_zero c.args.map.now p c.args.wish.now) (λ p.
    ap (λ (want : Want). at_field c.args.map.now (is_to_be_zero p want) c.args.wish.now.field) c.in-WriteLock.is
    ∙ never (field_named c.args.wish.now.field c.args.map.now.fields))

pub returns-in-ReadLock : goal.returns-in-ReadLock
returns-in-ReadLock c =
    c.empty-in-ReadLock.ensures ∙ none_passes (λ p. asks_zero c.args.map.now p c.args.wish.now) (λ p.
    ap (λ (want : Want). at_field c.args.map.now (is_to_be_zero p want) c.args.wish.now.field) c.in-ReadLock.is
    ∙ never (field_named c.args.wish.now.field c.args.map.now.fields))
