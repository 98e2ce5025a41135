-- A table that lacks a part of the form isn't the one described; one that has each part is.
use Rattle.std.proofs.Common.{refl, sym, ap, ◌∙◌}
use Rattle.store_inspection.specs.Prelude.{with_columns, with_table_keys, bare}
use Rattle.store_inspection.proofs.Schemas.{joined, part_of}
use Rattle.store_inspection.proofs.schema.is_table.Goals as goal

pub returns-then-not-has_columns : goal.returns-then-not-has_columns
returns-then-not-has_columns c = (
  λ b. cc,
  λ e. sym c.if-not-has_columns.true ∙ c.has_columns.ensures.1 (part_of (with_columns c.args.form) c.args.form c.args.table.now refl e),
)

pub returns-then-not-has_keys : goal.returns-then-not-has_keys
returns-then-not-has_keys c = (
  λ b. cc,
  λ e. sym c.if-not-has_keys.true ∙ c.has_keys.ensures.1 (part_of (with_table_keys c.args.form) c.args.form c.args.table.now refl e),
)

pub returns-then-not-is_bare : goal.returns-then-not-is_bare
returns-then-not-is_bare c = (λ b. cc, λ e. sym c.if-not-is_bare.true ∙ c.is_bare.ensures.1 (part_of bare c.args.form c.args.table.now refl e))

pub returns : goal.returns
returns c = (
  λ b. joined c.args.form c.args.table.now (c.has_columns.ensures.0 c.if-not-has_columns.false)
      (c.has_keys.ensures.0 c.if-not-has_keys.false) (sym c.as_slice.ensures
      ∙ c.are_all.ensures.0 b) (c.is_bare.ensures.0 c.if-not-is_bare.false),
  λ e. c.are_all.ensures.1 (c.as_slice.ensures ∙ ap (λ t. t.references) e),
)
