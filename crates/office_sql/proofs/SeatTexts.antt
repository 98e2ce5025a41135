-- What the texts that read and write a seat mean, show, and do.
use Rattle.std.proofs.Common.{◌≡◌, ◌==◌, ◌∷◌}
use Rattle.text_core.proofs.Kit.{inl, inr, ℕ, pos, Bool, List, [], map, filter, refl, sym, ap, subst, ◌∙◌, Ok, None, MatchBool, tied_itself, nat_list_cmp_total}
use Rattle.text_core.proofs.Kit.{is_eq-slice_cmp, same_text, and-true}
use Rattle.office_sql.proofs.Kit.{Null, Int, Row, column, bytes, Term, lit, col, put_row, without_rowid, next_rowid, cast, cast_row, Database, State, Executes}
use Rattle.office_sql.proofs.Kit.{then-Equal}
use Rattle.sqlite.specs.declared.types.Value.TheVariants.{Text as Words, Blob as Bytes}
use Rattle.sqlite.specs.Kind.TheVariants.{Text}
use Rattle.sqlite.specs.Listing.{understood}
use Rattle.sqlite_tied.specs.Compute.{everything}
use Rattle.office_sql.proofs.Types.{OfCustomer, SeatState, PutSeat}
use Rattle.office_tables.specs.Prelude.{Writes, is_seat, seat_at, seat_cmp}
use Rattle.office_tables.proofs.TotalOrders.{seat_total}
use Rattle.office_sql.specs.Prelude.{seats, office_schema, seat_table, rows_in, is_parameter, passes, whole_value, seat_in_row, seat_columns, IsOffice}
use Rattle.office_sql.specs.Prelude.{IsSeatRow, tables_in, SqlAdds, SameBut, SqlStays, WritesRows, Wrote, LacksSeat}
use Rattle.office_sql.proofs.Finding.{unfound, texts_tied}
use Rattle.office_sql.proofs.Inserting.{IsInsert}
use Rattle.office_sql.proofs.Kept.{shows_kept, Shows}
use Rattle.office_sql.proofs.Offices.{office_stays, told_same}
use Rattle.office_sql.proofs.Putting.{IsAlone, row_put, row_set, unfound_apart}
use Rattle.office_sql.proofs.Reading.{IsRead}
use Rattle.office_sql.proofs.Replacing.{IsUpdate, IsSet, SetsNone, SetsOne, remade, sets}
use Rattle.office_sql.proofs.Stepping.{cast_null, cast_int}
use Rattle.office_sql.proofs.TableOf.{TableOf, by_key}
use Rattle.office_sql.proofs.Values.{text_is, texts_cmp}
use Rattle.office_sql.specs.declared.seats.TheConstants.{SELECT_SEAT, INSERT_INTO_SEAT, UPDATE_OF_SEAT}

abbrev pub as_seats : TableOf (OfCustomer SeatState)
as_seats = record {
  name = seats;
  Typed = IsSeatRow;
  cmp = seat_cmp;
  total = seat_total;
  value = seat_in_row;
  key = 1 ∷ [];
  compared = λ a b e f. then-Equal _ ∙ texts_cmp (column a 1) (column b 1) e f;
  from_office = λ rows are. are;
  for_office = λ rows are. are;
}

alone : IsAlone as_seats
alone = record { validity = λ rows all both. both; told = (λ e. cc, λ e. cc) }

-- ---- what is read

abbrev pub shown : List Term
shown = col 1 1 ∷ col 1 2 ∷ col 1 3 ∷ col 1 4 ∷ col 1 5 ∷ []

abbrev pub one_test : List Term
one_test = is_parameter 1 0 ∷ []

pub one_read : IsRead office_schema SELECT_SEAT.now seats one_test shown (by_key (1 ∷ []))
unfolding understood everything
one_read = record { names = _; is = refl; plain = (refl, refl); unlisted = refl; bare = λ schema base. refl; there = λ db. refl }

passes_seat : (n : List ℕ) (r : Row) → IsSeatRow r → passes one_test (Words n ∷ []) r ≡ is_seat n (seat_in_row r)
passes_seat n r e = and-true _ ∙ text_is (column r 1) n e

pub one_shown : (n : List ℕ) → Shows as_seats one_test shown (Words n ∷ []) (λ r. seat_in_row (Null ∷ r)) (is_seat n)
one_shown n = shows_kept as_seats (is_seat n) one_test _ (passes_seat n) shown (λ r. seat_in_row (Null ∷ r)) (λ r. refl) (λ a b. refl)

-- ---- what is written

abbrev pub add_terms : List Term
add_terms = lit Null ∷ col 0 0 ∷ col 0 1 ∷ col 0 2 ∷ col 0 3 ∷ col 0 4 ∷ []

pub add_insert : IsInsert office_schema INSERT_INTO_SEAT.now seats add_terms 6
unfolding understood everything
add_insert = record { means = record { is = refl; plain = (refl, refl); there = refl; uncounted = refl; unstamped = refl }; one = λ params. refl }

pub add_casts : (s : OfCustomer SeatState) → cast_row seat_table (Null ∷ seat_columns s) ≡ Null ∷ seat_columns s
add_casts s = rw (cast_null, cast_int (pos s.row.last)) refl

abbrev set_shown : List Term
set_shown = col 1 0 ∷ col 1 0 ∷ col 1 1 ∷ col 0 1 ∷ col 0 2 ∷ col 0 3 ∷ col 0 4 ∷ []

set_update : IsUpdate UPDATE_OF_SEAT.now seats one_test set_shown
unfolding understood everything
set_update = record { is = refl; plain = (refl, refl); there = refl; same = λ db. refl }

module _ (s : OfCustomer SeatState) where
  abbrev its : OfCustomer SeatState → Bool
  its = is_seat s.row.name

  abbrev set_columns : Row → Row
  set_columns r = column r 1 ∷ Words s.customer ∷ whole_value s.row.last ∷ Bytes s.row.digest ∷ Words s.row.reply ∷ []

  name_cast : (r : Row) → IsSeatRow r → cast Text (column r 1) ≡ column r 1
  name_cast r t = ap (cast Text) t ∙ sym t

  is_set : IsSet as_seats its one_test set_shown (seat_columns s) set_columns
  is_set = record {
    tested = passes_seat s.row.name;
    evals = λ r. refl;
    casts = λ id r t. rw (cast_int id, cast_int (pos s.row.last), name_cast r t) refl;
    typed = λ id r t. t;
    tied = λ id r t is. tied_itself nat_list_cmp_total (bytes (column r 1));
  }

  -- the setting of a seat's row finds none, or one that it replaces
  pub seat_set : (old new : State) (count : ℕ) → IsOffice old.now
      → Executes UPDATE_OF_SEAT.now (seat_columns s) old new (Ok count)
      → MatchBool (count == 0) (LacksSeat s.row.name old.now new.now)
      (Wrote (PutSeat s) old.now new.now)
  seat_set old new count office ran =
      elim (sets as_seats its (λ a b e f. texts_tied s.row.name a.row.name b.row.name e f) UPDATE_OF_SEAT.now one_test set_shown set_update
      (seat_columns s) set_columns is_set old new count office ran) [ inl none ↦ rw none.counted (lacks none) | inr one ↦ rw one.counted (wrote one) ]
    where
      lacks : SetsNone as_seats its old.now new.now count → LacksSeat s.row.name old.now new.now
      lacks none =
          let it = office_stays old.now new.now office none.stays.schema none.stays.sound none.stays.tables in
          record {
            office = it.0;
            stays = none.stays;
            same = it.1;
            lacks = ap (seat_at s.row.name) it.1 ∙ unfound seat_cmp seat_total its (map seat_in_row (rows_in old.now.trees seats)) none.none;
          }

      wrote : SetsOne as_seats its set_columns old.now new.now count → Wrote (PutSeat s) old.now new.now
      wrote one =
          let name : bytes (column one.was 1) ≡ s.row.name = sym (same_text s.row.name (bytes (column one.was 1)) one.one.passed) in
          let it = row_set as_seats alone s old.now new.now office its set_columns count one (ap (λ n. record s { row = record s.row { name = n } }) name) in
          let columns : set_columns one.was ≡ seat_columns s =
          ap (λ v. v ∷ Words s.customer ∷ whole_value s.row.last ∷ Bytes s.row.digest ∷ Words s.row.reply ∷ []) (one.one.typed ∙ ap Words name) in
          record {
            office = it.office;
            made = it.tables ∙ ap (λ l. record (tables_in old.now.trees) { seats = l }) it.placed_is;
            rows = inr (remade as_seats its set_columns (λ _. seat_columns s) old.now new.now count one columns);
            told = it.told;
          }

  -- a seat that had no row has one
  pub seat_added : (old new : Database) → IsOffice old
      → seat_at s.row.name (tables_in old.trees) ≡ None → SqlAdds seats (seat_columns s) old new
      → Wrote (PutSeat s) old new
  seat_added old new office none adds =
      let it = row_put as_seats alone s old new office (seat_columns s) adds refl refl
      (unfound_apart as_seats s its (λ y. is_eq-slice_cmp s.row.name y.row.name) (rows_in old.trees seats) none) in
      record {
        office = it.office;
        made = it.tables ∙ ap (λ l. record (tables_in old.trees) { seats = l }) it.placed_is;
        rows = inl adds;
        told = it.told;
      }

  same_others : (old mid new : Database) → SqlStays old mid → SameBut seats mid.trees new.trees → SameBut seats old.trees new.trees
  same_others old mid new stays others table other = others table other ∙ stays.tables table

  same_rows : (old mid new : Database) → SqlStays old mid → WritesRows (PutSeat s) mid new → WritesRows (PutSeat s) old new
  same_rows old mid new stays (inl adds) = inl (record {
    schema = adds.schema;
    sound = adds.sound;
    row = subst (λ rows. rows_in new.trees seats ≡ put_row (Int (next_rowid rows) ∷ seat_columns s) rows) (stays.tables seats) adds.row;
    others = same_others old mid new stays adds.others;
  })
  same_rows old mid new stays (inr (r, id, one, numbered, replaces)) = inr (
    r,
    id,
    subst (λ rows. filter (λ x. is_seat s.row.name (seat_in_row x)) rows ≡ r ∷ []) (stays.tables seats) one,
    numbered,
    record {
      schema = replaces.schema;
      sound = replaces.sound;
      row = subst (λ rows. rows_in new.trees seats ≡ put_row (Int id ∷ seat_columns s) (without_rowid id rows)) (stays.tables seats) replaces.row;
      others = same_others old mid new stays replaces.others;
    },
  )

  -- what is put where the setting found none is put
  pub seat_put : (old mid new : Database) → LacksSeat s.row.name old mid → Wrote (PutSeat s) mid new → Wrote (PutSeat s) old new
  seat_put old mid new lacks wrote = record {
    office = wrote.office;
    made = subst (λ t. Writes (PutSeat s) t (tables_in new.trees)) lacks.same wrote.made;
    rows = same_rows old mid new lacks.stays wrote.rows;
    told = wrote.told ∙ told_same old.trees mid.trees lacks.stays.tables;
  }
