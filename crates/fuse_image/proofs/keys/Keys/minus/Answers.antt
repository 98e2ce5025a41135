use Rattle.std.proofs.Common.{List, ℕ, ap₂, ◌∙◌, Option, None, is_some, if◌then◌else◌}
use Rattle.std.specs.FinMap as map
use Rattle.fuse_image.specs.Prelude.{keys_without}
use Rattle.fuse_image.proofs.Tables.{table_is}
use Rattle.fuse_image.proofs.keys.Keys.minus.Goals as goal

abbrev rest : Option (List ℕ) → Option (List ℕ) → Option (List ℕ)
rest own other = if is_some other then None else own

pub returns : goal.returns
unfolding keys_without
returns c = table_is (λ b. rest (map.get c.args.self.now b) (map.get c.args.other.now b))
    (c.unless_there.ensures ∙ ap₂ rest c.get.ensures c.get-2.ensures)
    (c.unless_there-2.ensures ∙ ap₂ rest c.get-3.ensures c.get-4.ensures)
    (c.unless_there-3.ensures ∙ ap₂ rest c.get-5.ensures c.get-6.ensures)
    (c.unless_there-4.ensures ∙ ap₂ rest c.get-7.ensures c.get-8.ensures)
