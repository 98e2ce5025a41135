use Rattle.std.proofs.Common.{◌≡◌, ◌||◌}
use Rattle.text_core.proofs.Kit.{Bool, option_and_then, ap, ◌∙◌, sym, or_left, same_Some}
use Rattle.fusemap_core.specs.declared.field.Field.{Field}
use Rattle.fusemap_core.specs.Prelude.{holds, read_lock}
use Rattle.fuse_image.specs.Prelude.{is_burnt, sets_meet, places_where}
use Rattle.fuse_image.proofs.redaction.may_be_set.Goals as goal

pub returns-then-meets : goal.returns-then-meets
returns-then-meets c f is =
    let same = same_Some c.get-field.result f (sym c.get-field.ensures.is_it ∙ is) in
    let meets_is : c.meets.result ≡ sets_meet c.args.ones.now (places_where (holds f)) =
    c.meets.ensures ∙ ap (sets_meet c.args.ones.now) (c.positions_of.ensures ∙ ap (λ (g : Field). places_where (holds g)) same) in
    c.if-meets.true ∙ sym (or_left _ _ (sym meets_is ∙ c.if-meets.true))

pub returns-else-meets : goal.returns-else-meets
returns-else-meets c f is =
    let same = same_Some c.get-field.result f (sym c.get-field.ensures.is_it ∙ is) in
    let meets_is : c.meets.result ≡ sets_meet c.args.ones.now (places_where (holds f)) =
    c.meets.ensures ∙ ap (sets_meet c.args.ones.now) (c.positions_of.ensures ∙ ap (λ (g : Field). places_where (holds g)) same) in
    let lock_is = c.read_lock.ensures.lock ∙ ap (option_and_then (read_lock c.args.map.now)) is in
    c.is_burnt.ensures
    ∙ (ap (is_burnt c.args.ones.now) lock_is
    ∙ ap (λ (b : Bool). b || is_burnt c.args.ones.now (read_lock c.args.map.now f)) (sym c.if-meets.false ∙ meets_is))
