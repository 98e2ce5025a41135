-- A walk over the rows of a query, and what it says where the query shows addresses in their order.
use Rattle.std.proofs.Common.{◌≡◌, ◌↔◌, ◌++◌, ℕ, Bool, true, false, true≢false, List, [], ◌∷◌, Option, Some, None, inl, inr, refl, sym, ap, subst, ◌∙◌, Result}
use Rattle.std.proofs.Common.{Ok, Err, IfOk, OnOk, IsTrue}
use Rattle.sqlite.specs.Clock.{timed}
use Rattle.office_sql.proofs.Kit.{Select, Database, Row, overlay, IsAnswer, State, IsUnchanged, Error, Null, command_of, EndsIn, begins_shown, reads_as}
use Rattle.sqlite.specs.Listing.{understood}
use Rattle.sqlite.specs.Query.{Query}
use Rattle.sqlite.specs.State.{Shown}
use Rattle.sqlite_trees.proofs.ListLemmas.{all_weaker}
use Rattle.office_sql.specs.Prelude.{rows_in}
use Rattle.office_sql.specs.OfficeTable as table
use Rattle.office_sql.proofs.LedgerAsked.{IsReadAs}
use Rattle.office_sql.proofs.Visiting.{joined, still}
use Rattle.store_inspection.specs.declared.version.Version.{Version}
use Rattle.store_inspection.specs.Prelude.{shows_again, HasApartAddresses, HasNoRepeat, HasWalked, IsFound}
use Rattle.store_inspection.specs.declared.addresses.TheConstants.{SELECT_ADDRESSES}
use Rattle.store_inspection.proofs.AddressRows.{addresses_body, addresses_read, shows_apart}
use Rattle.store_inspection.proofs.FoundAsked.{of_a_version}
use Rattle.store_inspection.proofs.FoundResults.{iff_then}

-- ---- a row more

-- the rows so far have no repeat, and those that come are asked after this last one
abbrev pub GoesOn : List Row → Option Row → Type 0
GoesOn given last = (more : List Row) → HasNoRepeat None (given ++ more) ↔ HasNoRepeat last more

-- a row that shows something else is the last one then
pub one_more : (given : List Row) (last : Option Row) (row copy : Row) → GoesOn given last → shows_again last row ≡ false → copy ≡ row
    → GoesOn (given ++ row ∷ []) (Some copy)
one_more given last row copy so_far other same more =
    let it = so_far (row ∷ more) in (
      λ none. subst (λ r. HasNoRepeat (Some r) more) (sym same) (it.0 (subst (HasNoRepeat None) (sym (joined given more row)) none)).1,
      λ none. subst (HasNoRepeat None) (joined given more row) (it.1 (other, subst (λ r. HasNoRepeat (Some r) more) same none)),
    )

-- a row that shows the same as the last one is a repeat, whatever comes
pub one_again : (given : List Row) (last : Option Row) (row : Row) → GoesOn given last → shows_again last row ≡ true
    → (more : List Row) → ¬ HasNoRepeat None ((given ++ row ∷ []) ++ more)
one_again given last row so_far again more none =
    true≢false (sym again ∙ ((so_far (row ∷ more)).0 (subst (HasNoRepeat None) (sym (joined given more row)) none)).0)

-- ---- what a walk says

module _ (text : List ℕ) (body : Query) (old new : State) (read : IsReadAs old.now.schema text body) (same : IsUnchanged old new) where
  answers : (first : State) → first.now ≡ old.now → (rows : List Row) → Shown text [] first new rows → IsAnswer body (overlay old.now.trees []) [] rows
  answers first is rows h =
      subst (λ (d : Database). IsAnswer body (overlay d.trees []) [] rows) is
      ((reads_as text [] first new old.now.schema (ap (λ (d : Database). d.schema) is) (Select (record { lets = []; body = body }) read.names)
      read.is read.plain read.unlisted rows h).answer Null)

  -- the walk is over rows that the text means
  pub walked_rows : (apart : Bool) → HasWalked text old new apart
      → (rows : List Row) × IsAnswer body (overlay old.now.trees []) [] rows × (IsTrue apart ↔ HasNoRepeat None rows)
  walked_rows apart (given, inl h) = (given, answers old refl given h.1, (λ _. h.2, λ _. h.0))
  walked_rows apart (given, inr h) =
      let whole = begins_shown text [] new new given h.1 (still old new same) (λ c db it source.
      let is : c.command ≡ Select (record { lets = []; body = body }) read.names =
      ap command_of (sym it.is ∙ ap (λ (d : Database). understood d.schema text) same.0.now_is) ∙ read.is in
      subst (λ k. EndsIn k db (timed [] c.formats it.now)) (sym is) tt) in (
        given ++ whole.0,
        answers new same.0.now_is (given ++ whole.0) whole.1,
        (λ up. absurd (true≢false (sym up ∙ h.0)), λ none. absurd (h.2 whole.0 none)),
      )

-- the walk says of a database that was found whether its addresses are apart
pub walk_tells : (old new : State) → (version : Version) → (IsTrue old.is_open → IsFound version old.now)
    → (r : Result Bool Error) → IfOk r (HasWalked SELECT_ADDRESSES.now old new) → OnOk r (IsUnchanged old new)
    → IfOk r (λ apart. IsTrue apart ↔ HasApartAddresses old.now.trees)
walk_tells old new version found (Ok apart) walked same =
    let it = found same.0.was_open in
    let read = of_a_version SELECT_ADDRESSES.now addresses_body addresses_read old.now.schema (version, it.schema) in
    let rows = walked_rows SELECT_ADDRESSES.now addresses_body old new read same apart walked in
    iff_then rows.2 (shows_apart old.now.trees rows.0 (all_weaker _ _ (λ r e. e.3) (rows_in old.now.trees table.given) (it.rows table.given).typed) rows.1)
walk_tells old new version found (Err e) walked same = tt
