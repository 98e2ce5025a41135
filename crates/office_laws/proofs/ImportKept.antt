-- An import of serial numbers keeps the tables sound, and forgets nothing.
use Rattle.std.proofs.Common.{◌≡◌, ℕ, Bool, true, false, List, [], ◌∷◌, map, None, refl, sym, ap, ◌∙◌, subst, ◌&&◌, ◌||◌, is_some, not, if◌then◌else◌}
use Rattle.std.proofs.Common.{option_and_then, Some, Result, Ok, Err}
use Rattle.std.specs.Result.{result_ok}
use Rattle.site_core.specs.Prelude.{IsSection, Ownership, Section}
use Rattle.text_core.specs.Prelude.{result_map}
use Rattle.text_core.proofs.Kit.{none_from_test}
use Rattle.office_laws.proofs.Types.{ImportRow, Given, OfCustomer, NewImport}
use Rattle.office_tables.specs.Prelude.{Tables, given_at, given_by_key, with_given}
use Rattle.office_rules.specs.Prelude.{Effect, record_put, ImportResult, import_effect, merged_rows, import_result, row_of_import, is_conflict, is_present}
use Rattle.office_rules.specs.Prelude.{with_added, with_present, with_import_row, MakesPuts, issued_in, office_sight, IssuedIn, Sight}
use Rattle.office_rules.proofs.GivenRows.{given_with, owned_row}
use Rattle.office_rules.proofs.Refusing.{is_some_map}
use Rattle.office_laws.specs.Prelude.{Grows, IsSound}
use Rattle.office_laws.proofs.GivenLaws.{given_grows, given_sound}
use Rattle.office_laws.proofs.Growing.{grows_itself}
use Rattle.office_laws.proofs.Lasting.{Lasts, lasts_named}
use Rattle.office_laws.proofs.Looking.{gave, issuer_found, puts_of, rows_taken}
use Rattle.office_laws.proofs.Readings.{issuer_owner}

-- a row that is neither present nor at odds has a serial number and a key that aren't given
is_new : (present serial_given key_given : Bool) → present ≡ false
    → (not present && (serial_given || key_given)) ≡ false
    → (serial_given ≡ false) × (key_given ≡ false)
is_new true serial_given key_given absent agrees = cc
is_new false true key_given absent agrees = cc
is_new false false key_given absent agrees = (refl, agrees)

module _ (owners : Ownership) (s : Section) (issuer : List ℕ) (before : Tables)
    (mine : owners.issuer issuer ≡ Some s.name) where
  -- rows that are put into tables, one by one, which have kept all of earlier ones
  abbrev RowsLast : Tables → List ImportRow → Type 0
  RowsLast t rows = (mid : Tables)
      → MakesPuts s (map (λ r. record_put (row_of_import issuer r)) rows) t mid
      → Lasts owners before mid

  -- the rows that an import comes to, where it isn't refused, are put into tables that keep all of earlier ones
  abbrev AllLast : Tables → Result ImportResult (List ℕ) → Type 0
  AllLast t (Err serial) = Unit {0}
  AllLast t (Ok i) = RowsLast t i.added

  with_one_present : (t : Tables) (later : Result ImportResult (List ℕ)) → AllLast t later
      → AllLast t (result_map with_present later)
  with_one_present t (Err serial) last = tt
  with_one_present t (Ok i) last = last

  -- a new row, before those that follow it
  with_one_added : (t : Tables) (r : ImportRow) (later : Result ImportResult (List ℕ))
      → AllLast (with_given (owned_row s.name issuer r) t) later
      → AllLast t (result_map (with_added r) later)
  with_one_added t r (Err serial) last = tt
  with_one_added t r (Ok i) last = λ mid (next, (free, put), later). last mid (subst (λ x.
      MakesPuts s (map (λ r. record_put (row_of_import issuer r)) i.added) x mid) put later)

  all_last : (rows : List ImportRow) (t : Tables) → IsSound owners t → Grows before t
      → AllLast t (import_result (issued_in issuer t) rows)
  all_last [] t sound grows = λ mid is.
      lasts_named is (record { sound = sound; grows = grows })
  all_last (r ∷ rs) t sound grows =
      let given = issued_in issuer t in
      let g : OfCustomer Given = owned_row s.name issuer r in
      elim (is_conflict given r) as (λ b. is_conflict given r ≡ b
      → AllLast t (if b then Err r.serial
      else if is_present given r then result_map with_present (import_result given rs)
      else result_map (with_added r) (import_result (with_import_row r given) rs))) [
        | true ↦ λ _. tt
        | false ↦ λ agrees. elim (is_present given r) as (λ b. is_present given r ≡ b
            → AllLast t (if b then result_map with_present (import_result given rs)
            else result_map (with_added r) (import_result (with_import_row r given) rs))) [
              | true ↦ λ _. with_one_present t (import_result given rs) (all_last rs t sound grows)
              | false ↦ λ absent.
                  let is = is_new (is_present given r) (is_some (given.key_of r.serial))
                  (is_some (given.serial_of r.key)) absent agrees in
                  let new : given_at issuer r.serial t ≡ None = none_from_test _ (sym (is_some_map
                  (λ (o : OfCustomer Given). o.row.key) (given_at issuer r.serial t)) ∙ is.0) in
                  let unbound : given_by_key issuer r.key t ≡ None = none_from_test _ (sym
                  (is_some_map (λ (o : OfCustomer Given). o.row.serial) (given_by_key issuer r.key t))
                  ∙ is.1) in
                  with_one_added t r (import_result (with_import_row r given) rs)
                  (subst (λ known. AllLast (with_given g t) (import_result known rs))
                  (given_with s.name issuer r t new unbound)
                  (all_last rs (with_given g t)
                  (given_sound sound g mine new unbound tt (refl, refl))
                  (given_grows before t g new refl grows)))
            ] refl
      ] refl

module _ {owners : Ownership} {t : Tables} (sound : IsSound owners t) (s : Section)
    (section : IsSection owners s) (seat : List ℕ) where
  pub import_kept : (n : NewImport) (e : Effect) (mid : Tables)
      → import_effect (office_sight s seat t) n ≡ Some e → MakesPuts s e.puts t mid
      → Lasts owners t mid
  import_kept n e mid is puts =
      let v : Sight = office_sight s seat t in
      let i = gave (option_and_then result_ok (merged_rows v n)) _ e is in
      let taken = rows_taken v n i.0 i.1 in
      let found = issuer_found s t n.issuer taken.1 taken.2 in
      let mine = issuer_owner s section n.issuer found.0 in
      let merged : import_result (issued_in n.issuer t) taken.0 ≡ Ok i.0 =
      ap (λ (g : IssuedIn). import_result g taken.0) found.1 ∙ taken.3 in
      let last : RowsLast owners s n.issuer t mine t i.0.added =
      subst (AllLast owners s n.issuer t mine t) merged
      (all_last owners s n.issuer t mine taken.0 t sound (grows_itself t)) in
      last mid (puts_of s t mid i.2 puts)
