-- What the texts that read and add maps mean, show, and do.
use Rattle.std.proofs.Common.{◌≡◌, ◌∷◌}
use Rattle.text_core.proofs.Kit.{ℕ, ℤ, pos, not, false, true, List, [], map, refl, sym, ap, ◌∙◌, subst, is_eq, Option, Some, None, option_map, AllByRecursion}
use Rattle.text_core.proofs.Kit.{kept_pass, not-true, and-true}
use Rattle.office_sql.proofs.Kit.{Null, Int, Row, column, has_rowid, without_rowid, Term, lit, col, eval_all, Database, cast_row, next_rowid, all-map, all_both}
use Rattle.office_sql.proofs.Kit.{then-Equal}
use Rattle.sqlite.specs.declared.types.Value.TheVariants.{Text as Words}
use Rattle.sqlite.specs.Order.{value_cmp}
use Rattle.sqlite.specs.Listing.{understood}
use Rattle.sqlite_tied.specs.Compute.{everything}
use Rattle.sqlite_trees.proofs.ListLemmas.{all_weaker}
use Rattle.office_sql.proofs.Types.{OfCustomer, NewMap, MapRow, Link, AddMap, AddLink}
use Rattle.office_tables.specs.Prelude.{map_cmp, has_id, has_body, link_at, with_link, IsFree}
use Rattle.office_tables.proofs.Finding.{find_none}
use Rattle.office_tables.proofs.TotalOrders.{map_total}
use Rattle.office_sql.specs.Prelude.{maps, map_table, office_schema, rows_in, number_in_cell, map_in_row, map_columns, is_parameter, SqlAdds, Wrote, GainsMap}
use Rattle.office_sql.specs.Prelude.{IsMapRow, IsOffice, tables_in}
use Rattle.office_sql.proofs.Inserting.{IsInsert}
use Rattle.office_sql.proofs.Kept.{shows_kept, Shows}
use Rattle.office_sql.proofs.Keyed.{Apart, apart_back, all_sorted}
use Rattle.office_sql.proofs.MapValues.{whole_is, wholes_cmp, numbers_tied}
use Rattle.office_sql.proofs.Offices.{told_stays}
use Rattle.office_sql.proofs.Putting.{IsAlone, row_put}
use Rattle.office_sql.proofs.Reading.{IsRead}
use Rattle.office_sql.proofs.Stepping.{cast_null}
use Rattle.office_sql.proofs.TableOf.{TableOf, AreRowsAs, by_key}
use Rattle.office_sql.proofs.TableRows.{next_is_free}
use Rattle.office_sql.proofs.Values.{text_is}
use Rattle.office_sql.specs.declared.maps.TheConstants.{SELECT_MAP, SELECT_MAP_WITH_BODY, INSERT_INTO_MAP}

abbrev pub as_maps : TableOf MapRow
as_maps = record {
  name = maps;
  Typed = IsMapRow;
  cmp = map_cmp;
  total = map_total;
  value = map_in_row;
  key = 0 ∷ [];
  compared = λ a b e f. then-Equal _ ∙ wholes_cmp (column a 0) (column b 0) e.0 f.0;
  from_office = λ rows are. are;
  for_office = λ rows are. are;
}

alone : IsAlone as_maps
alone = record { validity = λ rows all both. both; told = (λ e. cc, λ e. cc) }

-- ---- what is read

abbrev pub shown : List Term
shown = col 1 0 ∷ col 1 2 ∷ []

abbrev pub id_test : List Term
id_test = is_parameter 0 0 ∷ []

abbrev pub body_test : List Term
body_test = is_parameter 2 0 ∷ []

pub one_read : IsRead office_schema SELECT_MAP.now maps id_test shown (by_key (0 ∷ []))
unfolding understood everything
one_read = record { names = _; is = refl; plain = (refl, refl); unlisted = refl; bare = λ schema base. refl; there = λ db. refl }

pub body_read : IsRead office_schema SELECT_MAP_WITH_BODY.now maps body_test shown (by_key (0 ∷ []))
unfolding understood everything
body_read = record { names = _; is = refl; plain = (refl, refl); unlisted = refl; bare = λ schema base. refl; there = λ db. refl }

-- a row that a query shows
abbrev pub shown_map : Row → MapRow
shown_map r = map_in_row (column r 0 ∷ r)

pub one_shown : (id : ℕ) → Shows as_maps id_test shown (Int (pos id) ∷ []) shown_map (has_id id)
one_shown id = shows_kept as_maps (has_id id) id_test _ (λ r e. and-true _ ∙ whole_is (column r 0) id e.0) shown shown_map (λ r. refl) (λ a b. refl)

pub body_shown : (body : List ℕ) → Shows as_maps body_test shown (Words body ∷ []) shown_map (has_body body)
body_shown body =
    shows_kept as_maps (has_body body) body_test _ (λ r e. and-true _ ∙ text_is (column r 2) body e.1) shown shown_map (λ r. refl) (λ a b. refl)

pub id_shown : (row : Option Row) → option_map (λ r. number_in_cell (column r 0)) row ≡ option_map (λ m. m.id) (option_map shown_map row)
id_shown None = refl
id_shown (Some r) = refl

-- ---- what is written

abbrev pub add_terms : List Term
add_terms = lit Null ∷ lit Null ∷ col 0 0 ∷ col 0 1 ∷ []

pub add_insert : IsInsert office_schema INSERT_INTO_MAP.now maps add_terms 4
unfolding understood everything
add_insert = record { means = record { is = refl; plain = (refl, refl); there = refl; uncounted = refl; unstamped = refl }; one = λ params. refl }

pub add_casts : (m : OfCustomer NewMap) → cast_row map_table (eval_all add_terms (map_columns m ∷ [])) ≡ Null ∷ Null ∷ map_columns m
add_casts m = rw cast_null refl

-- where no row goes, none has the rowid
left_whole : (id : ℤ) (rows : List Row) → without_rowid id rows ≡ rows → AllByRecursion (λ r. has_rowid id r ≡ false) rows
left_whole id rows e =
    all_weaker (λ r. not (has_rowid id r) ≡ true) (λ r. has_rowid id r ≡ false) (λ r h. not-true _ h) rows
    (subst (AllByRecursion (λ r. not (has_rowid id r) ≡ true)) e (kept_pass (λ r. not (has_rowid id r)) rows))

-- the next number is no map's
next_apart : (id : ℕ) (body : List ℕ) (rows : List Row) → AreRowsAs as_maps rows → next_rowid rows ≡ pos id
    → AllByRecursion (Apart map_cmp map_total (record { id = id; body = body })) (map map_in_row rows)
next_apart id body rows are is =
    let m : MapRow = record { id = id; body = body } in
    let others = left_whole (next_rowid rows) rows (next_is_free rows are.rising are.numbered) in
    all-map (Apart map_cmp map_total m) map_in_row rows
    (all_both (λ r. has_rowid (next_rowid rows) r ≡ false) IsMapRow (λ r. Apart map_cmp map_total m (map_in_row r))
    (λ r other whole.
    apart_back map_cmp map_total (map_in_row r) m
    (sym (ap is_eq (wholes_cmp (column r 0) (Int (pos id)) whole.0 refl))
    ∙ ap (λ n. is_eq (value_cmp (column r 0) (Int n))) (sym is) ∙ other))
    rows others are.typed)

pub map_gained : (m : OfCustomer NewMap) (id : ℕ) (old new : Database) → IsOffice old
    → next_rowid (rows_in old.trees maps) ≡ pos id → SqlAdds maps (Null ∷ map_columns m) old new
    → GainsMap m id old new
map_gained m id old new office is adds =
    let rows = rows_in old.trees maps in
    let row : MapRow = record { id = id; body = m.row.body } in
    let apart = next_apart id m.row.body rows (office.rows maps) is in
    let it = row_put as_maps alone row old new office (Null ∷ map_columns m) adds (ap Int is ∙ ap (λ n. Int (pos (number_in_cell (Int n)))) (sym is), refl)
    (ap (λ n. map_in_row (Int n ∷ Null ∷ map_columns m)) is) apart in
    let none = all_weaker (Apart map_cmp map_total row) (λ y. has_id id y ≡ false) (λ y e. sym (numbers_tied id y.id) ∙ e) (map map_in_row rows) apart in
    record {
      office = it.office;
      free = find_none (has_id id) _ (all_sorted map_cmp map_total (λ y. has_id id y ≡ false) (map map_in_row rows) none);
      made = it.tables ∙ ap (λ l. record (tables_in old.trees) { maps = l }) it.placed_is;
      number = is;
      row = adds;
    }

-- the customer's link to the new map can be added
pub link_free : (m : OfCustomer NewMap) (id : ℕ) (old mid : Database) → IsFree (AddMap m) (tables_in old.trees) → GainsMap m id old mid
    → IsFree (AddLink (record { customer = m.customer; row = record { digest = m.row.digest; map = id } })) (tables_in mid.trees)
link_free m id old mid free gains = ap (λ t. link_at m.customer m.row.digest t) gains.made ∙ free

pub map_wrote : (m : OfCustomer NewMap) (id : ℕ) (old mid new : Database) → GainsMap m id old mid
    → Wrote (AddLink (record { customer = m.customer; row = record { digest = m.row.digest; map = id } })) mid new → Wrote (AddMap m) old new
map_wrote m id old mid new gains wrote =
    let link : OfCustomer Link = record { customer = m.customer; row = record { digest = m.row.digest; map = id } } in
    record {
      office = wrote.office;
      made = (id, gains.free, wrote.made ∙ ap (with_link link) gains.made);
      rows = (mid, id, gains.number, gains.row, wrote.rows);
      told = wrote.told ∙ told_stays maps old.trees mid.trees (λ e. cc) (λ e. cc) gains.row.others;
    }
