-- The parts of a table that a form describes.
use Rattle.std.proofs.Common.{◌≡◌, List, map, sym, ap, ◌∙◌}
use Rattle.sqlite_keyed.proofs.ListLemmas.{map-map}
use Rattle.sqlite_value.specs.Keys.{plain}
use Rattle.office_sql.proofs.Kit.{Table, Reference}
use Rattle.store_inspection.specs.declared.schema.TableForm.{TableForm}
use Rattle.store_inspection.specs.Prelude.{reference_of, table_of_form, with_columns, with_table_keys, bare}

-- each key has a plain order
pub plain_orders : (f : TableForm) → map (λ _. plain) (map (λ places. places.now) f.uniques.now) ≡ map (λ _. plain) f.uniques.now
plain_orders f = map-map _ _ f.uniques.now

-- a table that has each part of a form is the one that the form describes
pub joined : (f : TableForm) (t : Table) → t ≡ with_columns f t → t ≡ with_table_keys f t
    → t.references ≡ map reference_of f.references.now → t ≡ bare t → t ≡ table_of_form f
joined f t columns keys references rest =
    let last : bare (with_table_keys f (with_columns f t)) ≡ table_of_form f =
    ap (λ (r : List Reference). record (table_of_form f) { references = r }) references in
    rest ∙ ap bare keys ∙ ap (λ (x : Table). bare (with_table_keys f x)) columns ∙ last

-- and that one has each part
pub part_of : (part : Table → Table) (f : TableForm) (t : Table) → part (table_of_form f) ≡ table_of_form f → t ≡ table_of_form f → t ≡ part t
part_of part f t has e = e ∙ sym (ap part e ∙ has)
