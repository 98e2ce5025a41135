-- What the steps of an upgrade make of a database, one after another.
use Rattle.std.proofs.Common.{◌≡◌, ◌≢◌, ◌<◌, ℕ, List, [], map, refl, sym, ap, subst, subst₂, ◌∙◌, arith}
use Rattle.std.specs.List.{AllByRecursion}
use Rattle.office_sql.proofs.Kit.{Null, column, Database, Trees, sort_by}
use Rattle.office_tables.specs.Prelude.{seat_cmp, order_cmp, map_cmp, link_cmp, device_cmp, given_cmp, entry_cmp}
use Rattle.office_sql.proofs.Names.{first_by_name}
use Rattle.office_sql.proofs.OrderTexts.{as_orders, orders_validity}
use Rattle.office_sql.proofs.GivenTexts.{as_given, records_validity}
use Rattle.office_sql.proofs.TableOf.{AreRowsAs}
use Rattle.office_sql.specs.Prelude.{OfficeTable, seats, maps, links, orders, devices, given, ledger, order_starts, given_starts, site_texts, seat_in_row}
use Rattle.office_sql.specs.Prelude.{map_in_row, link_in_row, order_in_row, device_in_row, given_in_row, entry_in_row, is_validity_of_order}
use Rattle.office_sql.specs.Prelude.{is_validity_of_given, with_order_not_before, with_given_not_before, rows_in, place_of, AreOfficeRows, AreRowsOf}
use Rattle.office_sql.specs.Prelude.{HaveOneValidityRow, tables_in}
use Rattle.office_store.proofs.ValidityFilled.{FillsGiven, FillsOrders, GainsNone, silent_not_before}
use Rattle.office_store.proofs.Types.{Version, V1a, V1b, V1, V2, V3}
use Rattle.office_store.specs.Prelude.{IsAt, IsRemade, IsTestedFor}
use Rattle.store_inspection.specs.Prelude.{IsBeforeV1, IsFound, KeepsFirst, HasNoValidityRow, count_of, rows_at}
use Rattle.office_store.proofs.Counts.{at_first, first_eight, tables_at}
use Rattle.office_store.proofs.CreateTables.{GainsText, GainsValidityTables}

-- a database of a version is one of a later version: each row stands, and the tables say what they said
pub record IsRaised (version later : Version) (old new : Database) : Type 0 where
  pub is : IsAt later new
  pub tables : tables_at later new.trees ≡ tables_at version old.trees
  pub rows : KeepsFirst (count_of version) old.trees new.trees

-- where the rows of the first version's tables stand
module _ (old new : Trees) (same : KeepsFirst 8 old new) where
  -- they are as the office has them
  office_rows : AreOfficeRows old → AreOfficeRows new
  office_rows rows order_starts = tt
  office_rows rows given_starts = tt
  office_rows rows site_texts = tt
  office_rows rows table = subst (AreRowsOf table) (sym (same table (omega arith))) (rows table)

  same_at : (version later : Version) (table : OfficeTable) → place_of table < 8 → rows_at later new table ≡ rows_at version old table
  same_at version later table low =
      at_first later new table (omega (arith, low, first_eight later)) ∙ same table low
      ∙ sym (at_first version old table (omega (arith, low, first_eight version)))

  -- the tables say what they said, if the beginnings of validity do
  tables_same : (version later : Version) → with_order_not_before (rows_at later new order_starts) ≡ with_order_not_before (rows_at version old order_starts)
      → with_given_not_before (rows_at later new given_starts) ≡ with_given_not_before (rows_at version old given_starts)
      → tables_at later new ≡ tables_at version old
  tables_same version later of_orders of_given i = record {
    seats = sort_by seat_cmp (map seat_in_row (same_at version later seats (omega arith) i));
    orders = map (of_orders i) (sort_by order_cmp (map order_in_row (same_at version later orders (omega arith) i)));
    devices = sort_by device_cmp (map device_in_row (same_at version later devices (omega arith) i));
    given = map (of_given i) (sort_by given_cmp (map given_in_row (same_at version later given (omega arith) i)));
    maps = sort_by map_cmp (map map_in_row (same_at version later maps (omega arith) i));
    links = sort_by link_cmp (map link_in_row (same_at version later links (omega arith) i));
    ledger = sort_by entry_cmp (map entry_in_row (same_at version later ledger (omega arith) i));
  }

-- ---- from a version before the first

module _ (x y : Database) (rows : AreOfficeRows x.trees) (it : IsRemade x y) where
  first_is : IsAt V1 y
  first_is = record { schema = it.tables.0; sound = it.tables.1; rows = office_rows x.trees y.trees it.rows rows; validity = tt }

  pub early_raised : (version : Version) → IsBeforeV1 version → IsRaised version V1 x y
  early_raised V1a early = record { is = first_is; tables = tables_same x.trees y.trees it.rows V1a V1 refl refl; rows = it.rows }
  early_raised V1b early = record { is = first_is; tables = tables_same x.trees y.trees it.rows V1b V1 refl refl; rows = it.rows }
  early_raised _ early = absurd early

-- ---- from the first

module _ (x y mid z : Database) (at : IsAt V1 x) (gains : GainsValidityTables x y)
    (fills_orders : FillsOrders y mid) (fills_given : FillsGiven mid z) where
  first_stand : KeepsFirst 8 x.trees y.trees
  first_stand = first_by_name (λ t. y.trees t.tree ≡ x.trees t.tree) 8 gains.others

  -- once the tables are made, they can be filled
  orders_gain : GainsNone as_orders orders_validity y mid
  orders_gain = fills_orders (record {
    schema = gains.schema;
    rows = subst (AreRowsAs as_orders) (sym (first_stand orders (omega arith))) (at.rows orders);
    none = gains.none.0;
  })

  -- records are not filled with orders
  given_gain : GainsNone as_given records_validity mid z
  given_gain = fills_given (record {
    schema = orders_gain.schema;
    rows = subst (AreRowsAs as_given) (sym (orders_gain.others given (omega arith) (λ e. cc) ∙ first_stand given (omega arith))) (at.rows given);
    none = orders_gain.others given_starts (omega arith) (λ e. cc) ∙ gains.none.1;
  })

  -- what is filled are the tables of validity rows alone
  others_stand : (table : OfficeTable) → place_of table < 8 → rows_in z.trees table ≡ rows_in y.trees table
  others_stand table low =
      given_gain.others table (omega (arith, low)) (λ e. omega (arith, subst (λ t. place_of t < 8) e low))
      ∙ orders_gain.others table (omega (arith, low)) (λ e. omega (arith, subst (λ t. place_of t < 8) e low))

  rows_stand : KeepsFirst 8 x.trees z.trees
  rows_stand table low = others_stand table low ∙ first_stand table low

  validity_rows_stand : rows_in z.trees order_starts ≡ rows_in mid.trees order_starts
  validity_rows_stand = given_gain.others order_starts (omega arith) (λ e. cc)

  -- validity rows with NULL say as much as none
  no_order_validity : with_order_not_before (rows_in z.trees order_starts) ≡ with_order_not_before []
  no_order_validity i o =
      let silent = subst (AllByRecursion (λ s. column s 3 ≡ Null)) (sym validity_rows_stand) orders_gain.silent in
      record o { row = record o.row { not_before = silent_not_before is_validity_of_order (rows_in z.trees order_starts) o silent i } }

  no_given_validity : with_given_not_before (rows_in z.trees given_starts) ≡ with_given_not_before []
  no_given_validity i o = record o {
    row = record o.row { not_before = silent_not_before is_validity_of_given (rows_in z.trees given_starts) o given_gain.silent i };
  }

  pub v1_raised : IsRaised V1 V2 x z
  v1_raised = record {
    is = record {
      schema = given_gain.schema;
      sound = given_gain.sound;
      rows = office_rows x.trees z.trees rows_stand at.rows;
      validity = record {
        orders = subst₂ (HaveOneValidityRow is_validity_of_order order_in_row)
            (sym (others_stand orders (omega arith))) (sym validity_rows_stand) orders_gain.validity;
        given = subst (λ l. HaveOneValidityRow is_validity_of_given given_in_row l (rows_in z.trees given_starts))
            (sym (given_gain.others given (omega arith) (λ e. cc))) given_gain.validity;
      };
    };
    tables = tables_same x.trees z.trees rows_stand V1 V2 no_order_validity no_given_validity;
    rows = rows_stand;
  }

-- ---- from the second

pub v2_raised : (x z : Database) → IsAt V2 x → GainsText x z → IsRaised V2 V3 x z
v2_raised x z at gains =
    let same = first_by_name (λ t. z.trees t.tree ≡ x.trees t.tree) 10 gains.others in
    let first : KeepsFirst 8 x.trees z.trees = λ table low. same table (omega (arith, low)) in
    let of_orders = same order_starts (omega arith) in
    let of_given = same given_starts (omega arith) in
    record {
      is = record {
        schema = gains.schema;
        sound = gains.sound;
        rows = office_rows x.trees z.trees first at.rows;
        validity = record {
          orders = subst₂ (HaveOneValidityRow is_validity_of_order order_in_row) (sym (same orders (omega arith))) (sym of_orders) at.validity.orders;
          given = subst₂ (HaveOneValidityRow is_validity_of_given given_in_row) (sym (same given (omega arith))) (sym of_given) at.validity.given;
        };
      };
      tables = tables_same x.trees z.trees first V2 V3 (ap with_order_not_before of_orders) (ap with_given_not_before of_given);
      rows = same;
    }

-- ---- from the database that was found to the office

-- one that was tested is of its version
pub is_at : (version : Version) (site : List ℕ) (db : Database) → version ≢ V3 → IsTestedFor site version db → IsAt version db
is_at V2 site db earlier tested =
    let found = tested.0.0 in
    record { schema = found.schema; sound = found.sound; rows = found.rows; validity = found.validity (tested.2 (λ e. omega (arith, e))) }
is_at V3 site db earlier tested = absurd (earlier refl)
is_at version site db earlier tested = let found = tested.0.0 in record { schema = found.schema; sound = found.sound; rows = found.rows; validity = tt }

-- where no beginning of validity is told, the tables of a version with the number 1 say what those of the office do
untold : (db : Trees) → HasNoValidityRow db → tables_at V1 db ≡ tables_in db
untold db none i = record {
  seats = sort_by seat_cmp (map seat_in_row (rows_in db seats));
  orders = map (with_order_not_before (sym none.0 i)) (sort_by order_cmp (map order_in_row (rows_in db orders)));
  devices = sort_by device_cmp (map device_in_row (rows_in db devices));
  given = map (with_given_not_before (sym none.1 i)) (sort_by given_cmp (map given_in_row (rows_in db given)));
  maps = sort_by map_cmp (map map_in_row (rows_in db maps));
  links = sort_by link_cmp (map link_in_row (rows_in db links));
  ledger = sort_by entry_cmp (map entry_in_row (rows_in db ledger));
}

pub found_tables : (version : Version) (x : Database) → IsFound version x → tables_at version x.trees ≡ tables_in x.trees
found_tables V2 x found = refl
found_tables V3 x found = refl
found_tables version x found = untold x.trees found.validity
