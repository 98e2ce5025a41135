-- What the steps that lack make of a database, by what was found.
use Rattle.std.proofs.Common.{◌≡◌, ◌≢◌, ◌<◌, ◌≤◌, ◌+◌, ◌∙◌, ℕ, List, [], drop, map, sym, ap, subst, refl, arith}
use Rattle.sha2.specs.Sha256.{sha256}
use Rattle.office_sql.proofs.Kit.{Database, State}
use Rattle.site_core.specs.Prelude.{TextOfSite}
use Rattle.sqlite.specs.Store.{Ghosts}
use Rattle.office_sql.proofs.Names.{first_by_name}
use Rattle.office_sql.proofs.Offices.{table_changed, both_validity_rows}
use Rattle.office_sql.specs.Prelude.{OfficeTable, meta, seats, maps, links, orders, devices, given, ledger, order_starts, given_starts, site_texts, no_schema}
use Rattle.office_sql.specs.Prelude.{place_of, rows_in, IsOffice, tables_in}
use Rattle.store_inspection.specs.Prelude.{meta_in, HasMeta, HoldsSite, HoldsSiteText, IsBeforeV1, IsOnlyText, count_of, schema_of, Sees}
use Rattle.office_store.specs.declared.bring.Found.{Found}
use Rattle.office_store.specs.declared.bring.Found.TheVariants.{Nothing, Earlier, Today}
use Rattle.office_store.specs.Prelude.{all_steps, first_step_of, Brings, CanBring, HasRun, HaveRun, IsAt, IsBegun, IsEarly, IsGrown, IsRemade, IsUpgrade}
use Rattle.office_store.specs.Prelude.{IsTestedFor, plain_text, SeesBeforeV1, TellsItself}
use Rattle.office_store.specs.declared.steps.TheConstants.{INSERT_NULL_INTO_GIVEN_START, INSERT_NULL_INTO_ORDER_START}
use Rattle.office_store.proofs.Counts.{first_but, not_site_texts, tables_at}
use Rattle.office_store.proofs.CreateSteps.{HasEmptyTables, creates, makes_table}
use Rattle.office_store.proofs.CreateTables.{create_of, made_by, tables_until, gains_both, gains_text}
use Rattle.office_store.proofs.FoundNothing.{HasNoRow, no_office_rows, no_rows_at}
use Rattle.office_store.proofs.FoundValidity.{office_of}
use Rattle.office_store.proofs.Running.{run_says}
use Rattle.office_store.proofs.Raised.{IsRaised, early_raised, found_tables, is_at, v1_raised, v2_raised}
use Rattle.office_store.proofs.Telling.{site_once}
use Rattle.office_store.proofs.Told.{PutsText, ReplacesName, TellsV1, names_site, puts_none, tells_v1, writes_text}
use Rattle.office_store.proofs.Types.{Version, V1a, V1b, V1, V2, V3}
use Rattle.office_store.proofs.ValidityFilled.{FillsGiven, FillsOrders, given_filled, orders_filled}

-- another table's rows tell of the store what they told
tells_still : (version : Version) (x y : Database) → rows_in y.trees meta ≡ rows_in x.trees meta → TellsItself version x.trees → TellsItself version y.trees
tells_still version x y same told = (told.0, ap (map meta_in) same ∙ told.1)

module _ {S : Type 0} (g : Ghosts S) (text : List ℕ) where
  -- ---- the last two texts

  -- the text is held, and told
  grown : (x y z : Database) → IsOffice x → PutsText text x y → ReplacesName (sha256 text) y z → IsGrown text x.trees z
  grown x y z office puts names =
      let held = table_changed x y office puts.schema puts.sound site_texts puts.others tt (both_validity_rows x office) in
      let told = table_changed y z held.0 names.schema names.sound meta names.others tt (both_validity_rows y held.0) in
      record {
        rows = λ table first last. names.others table first ∙ puts.others table last;
        tables = told.1 ∙ held.1;
        tells = record { holds = subst (IsOnlyText 2 text) (sym (names.others site_texts (λ e. cc))) puts.holds; named = names.told };
        office = told.0;
      }

  pub grows : (version : Version) (older : List ℕ) (x z : Database) → IsOffice x → TellsItself version x.trees → HoldsSiteText older x.trees
      → HaveRun g (drop 15 all_steps) text x z → IsGrown text x.trees z
  grows version older x z office told holds run =
      let puts = writes_text g text x run.0 run.1 office.schema older holds in
      let names = names_site g text run.0 run.2.0 run.2.1 puts.schema version (tells_still version x run.0 (puts.others meta (λ e. cc)) told) in
      subst (IsGrown text x.trees) (sym run.2.2) (grown x run.0 run.2.0 office puts names)

  -- ---- from a version to a store that holds the text

  -- each row but that of meta stands, the tables say what they said, and the store tells of the text
  record Raises (version : Version) (x z : Database) : Type 0 where
    office : IsOffice z
    tables : tables_in z.trees ≡ tables_at version x.trees
    rows : (table : OfficeTable) → place_of table < count_of version → table ≢ meta → rows_in z.trees table ≡ rows_in x.trees table
    tells : HoldsSite text z.trees

  raises_then : (version at : Version) → count_of version ≤ count_of at → (x y z : Database) → IsRaised version at x y → Raises at y z → Raises version x z
  raises_then version at fewer x y z first second = record {
    office = second.office;
    tables = second.tables ∙ first.tables;
    rows = λ table low other. second.rows table (omega (arith, low, fewer)) other ∙ first.rows table low;
    tells = second.tells;
  }

  office_at : (y : Database) → IsAt V3 y → IsOffice y
  office_at y at = record {
    schema = at.schema;
    sound = at.sound;
    rows = at.rows;
    order_validity = at.validity.orders;
    given_validity = at.validity.given;
  }

  raises_v2 : (version : Version) (x z : Database) → IsAt V2 x → TellsItself version x.trees → HaveRun g (drop 13 all_steps) text x z → Raises V2 x z
  raises_v2 version x z at told run =
      let y = run.0 in
      let u = run.2.0 in
      let gains = gains_text x y at.schema (makes_table g (create_of site_texts) text x y run.1) in
      let raised = v2_raised x y at gains in
      let office = office_at y raised.is in
      let none = puts_none g text y u run.2.1 gains.schema gains.none in
      let held = table_changed y u office none.schema none.sound site_texts none.others tt (both_validity_rows y office) in
      let itself = tells_still version x u (none.others meta (λ e. cc) ∙ raised.rows meta (omega arith)) told in
      let it = grows version [] u z held.0 itself none.holds run.2.2 in
      record {
        office = it.office;
        tables = it.tables ∙ held.1 ∙ raised.tables;
        rows = λ table low other.
            let no_text = not_site_texts V2 (λ e. cc) table low in
            it.rows table other no_text ∙ none.others table no_text ∙ raised.rows table low;
        tells = it.tells;
      }

  raises_v1 : (version : Version) (x z : Database) → IsAt V1 x → TellsItself version x.trees → HaveRun g (drop 9 all_steps) text x z → Raises V1 x z
  raises_v1 version x z at told run =
      let one = run.0 in
      let two = run.2.0 in
      let three = run.2.2.0 in
      let four = run.2.2.2.0 in
      let gains = gains_both x one two at.schema (makes_table g (create_of order_starts) text x one run.1)
      (makes_table g (create_of given_starts) text one two run.2.1) in
      let of_orders = run_says g (plain_text INSERT_NULL_INTO_ORDER_START.now) text two three FillsOrders
      (λ old new count ran. orders_filled old new count ran) run.2.2.1 in
      let of_given = run_says g (plain_text INSERT_NULL_INTO_GIVEN_START.now) text three four FillsGiven
      (λ old new count ran. given_filled old new count ran) run.2.2.2.1 in
      let raised = v1_raised x two three four at gains of_orders of_given in
      raises_then V1 V2 (omega arith) x four z raised
      (raises_v2 version four z raised.is (tells_still version x four (raised.rows meta (omega arith)) told) run.2.2.2.2)

  -- ---- from nothing

  -- a store of the first version in which nothing is but that it tells of no site
  record IsNew (x : Database) : Type 0 where
    at : IsAt V1 x
    told : TellsItself V1 x.trees
    none : HasNoRow x.trees

  new_told : (x y : Database) → HasEmptyTables (schema_of V1) x → TellsV1 x y → IsNew y
  new_told x y was tells =
      let none : HasNoRow y.trees =
      λ table low other. first_but 8 9 meta x.trees y.trees tells.others table low other
      ∙ first_by_name (λ t. x.trees t.tree ≡ []) 8 was.empty table low in
      record {
        at = record { schema = tells.schema; sound = tells.sound; rows = no_office_rows y.trees none; validity = tt };
        told = ([], tells.told);
        none = none;
      }

  -- a table more, with no row
  then_made : (table : OfficeTable) {x y : Database} → HasRun g (plain_text (made_by table)) text x y → HasEmptyTables (tables_until (place_of table)) x
      → HasEmptyTables (tables_until (place_of table + 1)) y
  then_made table ran was = (creates g (create_of table) text _ _ ran was).0

  pub begun : (x z : Database) → x.schema ≡ no_schema → HaveRun g all_steps text x z → IsBegun text z
  begun x z bare r0 =
      let r3 = r0.2.2.2 in
      let r6 = r3.2.2.2 in
      let r8 = r6.2.2 in
      let e3 = then_made maps r0.2.2.1 (then_made seats r0.2.1 (then_made meta r0.1 (record { is = bare; empty = tt }))) in
      let e6 = then_made devices r3.2.2.1 (then_made orders r3.2.1 (then_made links r3.1 e3)) in
      let e8 = then_made ledger r6.2.1 (then_made given r6.1 e6) in
      let new = new_told r6.2.0 r8.0 e8 (tells_v1 g text r6.2.0 r8.0 r8.1 e8.is e8.empty.0) in
      let it = raises_v1 V1 r8.0 z new.at new.told r8.2 in
      record {
        office = it.office;
        fresh = record { tables = it.tables ∙ no_rows_at V1 r8.0.trees new.none; tells = it.tells };
      }

-- ---- by what was found

module _ {S : Type 0} (g : Ghosts S) (site : TextOfSite) where
  upgraded : (version : Version) (x z : Database) → IsTestedFor (sha256 site.text) version x → Raises g site.text version x z
      → IsUpgrade version site.text x.trees z
  upgraded version x z tested it = record {
    rows = it.rows;
    tables = it.tables ∙ found_tables version x tested.0.0;
    told = λ told was. subst (λ s. HasMeta V3 s z.trees) (site_once version version (sha256 site.text) told x.trees tested.1 was) it.tells.named;
    holds = it.tells.holds;
    office = it.office;
  }

  -- the steps that lack bring one that isn't early
  pub brings : (found : Found) → ¬ IsEarly found → (x z : Database) → CanBring found site x
      → HaveRun g (drop (first_step_of found) all_steps) site.text x z → Brings found site.text x.trees z
  brings Nothing later x z can run = begun g site.text x z can.0 run
  brings (Earlier V1a) later x z can run = absurd (later tt)
  brings (Earlier V1b) later x z can run = absurd (later tt)
  brings (Earlier V1) later x z can run =
      upgraded V1 x z can.1 (raises_v1 g site.text V1 x z (is_at V1 (sha256 site.text) x can.0 can.1) (sha256 site.text, can.1.1) run)
  brings (Earlier V2) later x z can run =
      upgraded V2 x z can.1 (raises_v2 g site.text V2 x z (is_at V2 (sha256 site.text) x can.0 can.1) (sha256 site.text, can.1.1) run)
  brings (Earlier V3) later x z can run = absurd (can.0 refl)
  brings Today later x z can run =
      let take = can.1.1 in
      grows g site.text V3 take.0 x z (office_of x can.0.0 can.1.0) (sha256 take.0, take.1.named) take.1.holds run

  early_brings : (version : Version) → IsBeforeV1 version → count_of version ≤ 8 → (x y z : Database) → CanBring (Earlier version) site x → IsRemade x y
      → HaveRun g (drop 9 all_steps) site.text y z → IsUpgrade version site.text x.trees z
  early_brings version early fewer x y z can remade run =
      let raised = early_raised x y (is_at version (sha256 site.text) x can.0 can.1).rows remade version early in
      upgraded version x z can.1 (raises_then g site.text version V1 fewer x y z raised
      (raises_v1 g site.text version y z raised.is (tells_still version x y (remade.rows meta (omega arith)) (sha256 site.text, can.1.1)) run))

  -- an early one is remade first
  pub remakes : (found : Found) → IsEarly found → (x y z : Database) → CanBring found site x → IsRemade x y
      → HaveRun g (drop (first_step_of found) all_steps) site.text y z → Brings found site.text x.trees z
  remakes (Earlier V1a) early x y z can remade run = early_brings V1a early (omega arith) x y z can remade run
  remakes (Earlier V1b) early x y z can remade run = early_brings V1b early (omega arith) x y z can remade run
  remakes _ early x y z can remade run = absurd early

-- what was brought is a database of the office
pub office_brought : (found : Found) (text : List ℕ) (x z : Database) → Brings found text x.trees z → IsOffice z
office_brought Nothing text x z it = it.office
office_brought _ text x z it = it.office

-- an early one is of a version before the first
pub sees_early : (found : Found) (site : TextOfSite) (s : State) → IsEarly found → Sees (CanBring found site) s → SeesBeforeV1 s
sees_early (Earlier version) site s early can =
    (version, early, λ up. let it = can up in is_at version (sha256 site.text) s.now it.0 it.1)
sees_early _ site s early can = absurd early
