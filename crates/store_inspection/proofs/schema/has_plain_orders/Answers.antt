-- The orders are plain, one for each key.
use Rattle.std.proofs.Common.{sym, ◌∙◌}
use Rattle.store_inspection.proofs.Schemas.{plain_orders}
use Rattle.store_inspection.proofs.schema.has_plain_orders.Goals as goal

pub returns : goal.returns
returns c = (
  λ b. sym c.as_slice.ensures ∙ c.are_all.ensures.0 b ∙ sym (plain_orders c.args.form),
  λ e. c.are_all.ensures.1 (c.as_slice.ensures ∙ e ∙ plain_orders c.args.form),
)
