-- How a connection comes to have the tables of the office.
use Rattle.std.specs.Prelude.{◌≡◌, ◌≢◌, ◌⊎◌, ⊤, false, ℕ, length, List, Option, Some, None, IsTrue, Result, OnOk, IfErr, IsUtf8}
use Rattle.std.specs.List.{AllByRecursion}
use Rattle.sha2.specs.Sha256.{sha256}
use Rattle.site_core.specs.Prelude.{SiteValue, TextOfSite}
use Rattle.sqlite.specs.Order.{Row}
use Rattle.sqlite.specs.Tree.{Trees}
use Rattle.sqlite.specs.Schema.{Schema}
use Rattle.sqlite.specs.Effect.{Database}
use Rattle.sqlite.specs.Store.{Ghosts}
use Rattle.sqlite.specs.Held.{Held, state}
use Rattle.sqlite.specs.State.{State, HasCleanDisk, IsUnchanged, KeepsCommit, Survives}
use Rattle.office_tables.specs.Prelude.{Tables}
use Rattle.office_sql.specs.Prelude.{Rests, IsReady, no_schema, office_over, tables_in}
use Rattle.office_store.specs.declared.adopting.Handed.{Handed}
use Rattle.office_store.specs.declared.adopting.Handed.TheVariants as handed
use Rattle.office_store.specs.declared.fault.OpenFault.{OpenFault}
use Rattle.office_store.specs.declared.fault.OpenFault.TheVariants.{OtherSite, OtherTables, Failed}
use Rattle.office_store.specs.declared.opening.Absent.{Absent}
use Rattle.store_inspection.specs.declared.version.Version.{Version}
use Rattle.store_inspection.specs.declared.version.Version.TheVariants.{V1, V2, V3}
use Rattle.store_inspection.specs.Addresses.{HasApartAddresses}
use Rattle.store_inspection.specs.Found.{HasValidityRows, HasWhole, IsFound}
use Rattle.store_inspection.specs.Meta.{metas_in, HoldsSite, HasMeta, TellNoSite}
use Rattle.office_store.specs.Making.{IsBegun, new_meta}
use Rattle.office_store.specs.Growing.{IsGrown, IsGrownFrom}
use Rattle.office_store.specs.Stores.{HasSchema, IsNoStore, IsTaken, LacksStore}
use Rattle.store_inspection.specs.SiteTexts.{HoldsSiteText, IsOnlyText}
use Rattle.store_inspection.specs.declared.meta.Meta.{Meta}
use Rattle.office_store.specs.Upgrading.{IsUpgrade}
use Rattle.store_inspection.specs.Versions.{number_of_version, schema_of, IsOfNoVersion}

-- a database whose schema is a version's is of that version, if no number of its is below zero
abbrev pub FindsVersion : Database → Type 0
FindsVersion db =
    (version : Version) → db.schema ≡ schema_of version → HasWhole db.trees → IsFound version db

-- no transaction is under way and what was committed is shown; a schema of a version is that of a
-- database of the version, if no number is below zero; and with no schema there is no store yet
pub record CanPrepareTables (s : State) : Type 0 where
  pub mode : s.in_transaction ≡ false
  pub shows_committed : HasCleanDisk s → s.now ≡ s.committed
  pub found : HasCleanDisk s → FindsVersion s.now
  pub bare : HasCleanDisk s → s.now.schema ≡ no_schema → IsNoStore s.now.trees

-- no transaction is under way, what was committed is shown, and the database is found to be one of this version
pub record IsFoundAt (version : Version) (s : State) : Type 0 where
  pub mode : s.in_transaction ≡ false
  pub shows_committed : HasCleanDisk s → s.now ≡ s.committed
  pub found : HasCleanDisk s → IsFound version s.now

-- no two records of the database have one address
abbrev pub IsApartAt : State → Type 0
IsApartAt s = HasCleanDisk s → HasApartAddresses s.now.trees

-- a database of a version, in which no two records have one address
abbrev pub IsFoundApart : Version → Database → Type 0
IsFoundApart version db = IsFound version db × HasApartAddresses db.trees

-- what is tested of a store of an earlier version: no two records have one address, it tells this site,
-- and where its version tells beginnings of validity, none lacks
abbrev pub IsTestedFor : List ℕ → Version → Database → Type 0
IsTestedFor site version db =
    IsFoundApart version db × HasMeta version site db.trees × (number_of_version version ≢ 1 → HasValidityRows db.trees)

-- meta tells this version and another site, which is 32 bytes too
abbrev pub TellsOther : Version → List ℕ → Trees → Type 0
TellsOther version site db =
    (other : List ℕ) × (length other ≡ 32) × HasMeta version other db × (other ≢ site)

-- the store tells of a text of which the site is no growth
abbrev pub HoldsOther : SiteValue → Trees → Type 0
HoldsOther site db = (text : List ℕ) × HoldsSite text db × ¬ IsGrownFrom text site

-- a store of another site, by its version
abbrev pub IsOther : TextOfSite → Version → Trees → Type 0
IsOther site V3 db = HoldsOther site.site db
IsOther site version db = TellsOther version (sha256 site.text) db

-- a database that is a store of another site, of any version
abbrev pub IsOfOtherSite : TextOfSite → Database → Type 0
IsOfOtherSite site db =
    (version : Version) × (db.schema ≡ schema_of version) × IsOther site version db.trees

-- a schema that is neither none nor a version's
abbrev pub IsOtherSchema : Schema → Type 0
IsOtherSchema schema = (schema ≢ no_schema) × IsOfNoVersion schema

-- the beginnings of validity are asked for in a store of the second version and this site, and of
-- the third
abbrev pub AreValidityRowsAsked : List ℕ → Version → Trees → Type 0
AreValidityRowsAsked site V2 db = HasMeta V2 site db
AreValidityRowsAsked site V3 db = ⊤
AreValidityRowsAsked site _ db = ⊥

-- a store whose beginnings of validity are asked for doesn't tell each of them
abbrev pub LacksValidityRows : List ℕ → Version → Trees → Type 0
LacksValidityRows site version db = AreValidityRowsAsked site version db × ¬ HasValidityRows db

-- a store of the third version tells of no text of its site
abbrev pub LacksText : Version → Trees → Type 0
LacksText V3 db = (text : List ℕ) → IsUtf8 text → ¬ HoldsSite text db
LacksText _ db = ⊥

-- rows that aren't a version's: with a number of a map or of an entry below zero, with a meta that
-- tells no site, without a beginning of validity, without the site's text, or with one address in
-- two records
abbrev pub HasOtherRows : List ℕ → Version → Trees → Type 0
HasOtherRows site version db =
    (¬ HasWhole db) ⊎ TellNoSite version (metas_in db) ⊎ LacksValidityRows site version db
    ⊎ LacksText version db ⊎ ¬ HasApartAddresses db

-- the tables are other ones: by their schema, or by the rows in a schema of a version
abbrev pub HasOtherTables : List ℕ → Database → Type 0
HasOtherTables site db =
    IsOtherSchema db.schema
    ⊎ ((version : Version) × (db.schema ≡ schema_of version) × HasOtherRows site version db.trees)

-- what a refused connection shows: the fault of another site comes with such a row of meta alone,
-- that of other tables with other tables alone, and another schema is refused for its tables
pub record IsRefusedFor (site : TextOfSite) (s : State) (fault : OpenFault) : Type 0 where
  pub other_site : HasCleanDisk s → fault ≡ OtherSite → IsOfOtherSite site s.now
  pub other_tables : HasCleanDisk s → fault ≡ OtherTables → HasOtherTables (sha256 site.text) s.now
  pub other_schema : IsTrue s.is_open → IsOtherSchema s.now.schema → fault ≡ OtherTables

-- a store that is refused for what it shows is shown as it was: a failure says nothing
abbrev pub ShowsSame : OpenFault → State → State → Type 0
ShowsSame fault old new = fault ≢ Failed → new.now ≡ old.now

-- a test of a found store: where it is passed this is so of the database; nothing is changed, and a
-- crash leaves nothing new
pub record Examines {S : Type 0} (g : Ghosts S) (site : TextOfSite) (old new : Held S)
    (result : Result (Unit {0}) OpenFault) (Says : Database → Type 0) : Type 0 where
  pub answer : HasCleanDisk (state g new) → OnOk result (Says (state g old).now)
  pub same : HasCleanDisk (state g new) → OnOk result (IsUnchanged (state g old) (state g new))
  pub rests : HasCleanDisk (state g new) → Rests (state g old) (state g new)
  pub mode : new.in_transaction ≡ false
  pub refused : IfErr result (IsRefusedFor site (state g new))
  pub shown : HasCleanDisk (state g new) → IfErr result (λ fault. ShowsSame fault (state g old) (state g new))
  pub crash : Survives (state g old) (state g new) (λ _. ⊥)

-- the tables of a store that had none, whole: all of them, with no row but those that tell of the text
abbrev pub IsMadeFor : List ℕ → Trees → Trees → Type 0
IsMadeFor text before db = IsNoStore before × IsBegun text (office_over db)

-- the tables of a store of an earlier version and this site, upgraded, whole
abbrev pub IsUpgradedFor : List ℕ → Trees → Trees → Type 0
IsUpgradedFor text before db =
    (version : Version) × (version ≢ V3) × HasSchema (schema_of version) before
    × HasMeta version (sha256 text) before × IsUpgrade version text before (office_over db)

-- the store told of a text of which the site is a growth
abbrev pub CanTake : SiteValue → Trees → Type 0
CanTake site db = (text : List ℕ) × HoldsSite text db × IsGrownFrom text site

-- each beginning of validity is told, and the store told of a text of which the site is a growth
abbrev pub IsGrowable : SiteValue → Database → Type 0
IsGrowable site db = HasValidityRows db.trees × CanTake site db.trees

-- the tables of a store that told of another text, of which the site is a growth, with the new text,
-- whole: a store that holds the text stays as it is
abbrev pub IsGrownFor : TextOfSite → Trees → Trees → Type 0
IsGrownFor site before db =
    HasSchema (schema_of V3) before × CanTake site.site before × (¬ HoldsSiteText site.text before)
    × IsGrown site.text before (office_over db)

-- what the one transaction makes of a database
abbrev pub IsPreparedFrom : TextOfSite → Trees → Trees → Type 0
IsPreparedFrom site before db =
    IsMadeFor site.text before db ⊎ IsUpgradedFor site.text before db ⊎ IsGrownFor site before db

-- what the one transaction may leave: it makes that of what was committed
abbrev pub IsPreparedFor : TextOfSite → State → Trees → Type 0
IsPreparedFor site before db = IsPreparedFrom site before.committed.trees db

-- no order and no record has a beginning of validity
abbrev pub AreWithoutNotBefore : Tables → Type 0
AreWithoutNotBefore t =
    AllByRecursion (λ o. o.row.not_before ≡ None) t.orders
    × AllByRecursion (λ g. g.row.not_before ≡ None) t.given

-- tables that come from a store of the first version have no beginning of validity
abbrev pub StaysWithoutNotBefore : Trees → Tables → Type 0
StaysWithoutNotBefore before t = (site : List ℕ) → HasMeta V1 site before → AreWithoutNotBefore t

-- rows that show this text alone, beside a row of meta that names it
abbrev pub IsShownText : List ℕ → List Row → Option Meta → Type 0
IsShownText text rows meta = IsOnlyText 1 text rows × (meta ≡ Some (new_meta (sha256 text)))

-- where a store told of a text, the site is a growth of the one that it is
abbrev pub TakesGrowth : SiteValue → Trees → Type 0
TakesGrowth site before = (older : List ℕ) → HoldsSite older before → IsGrownFrom older site

-- where a store of an earlier version told of itself, it told the SHA-256 of this text
abbrev pub TakesOwn : List ℕ → Trees → Type 0
TakesOwn text before =
    (version : Version) (other : List ℕ) → version ≢ V3 → HasMeta version other before → other ≡ sha256 text

-- a store is shown as it was, and a crash leaves nothing new
pub record IsUntouched (old new : State) : Type 0 where
  pub same : HasCleanDisk new → new.now ≡ old.now
  pub crash : Survives old new (λ _. ⊥)

-- A database that is taken as the store of a site, by the one that was there before. It tells of the site's
-- text; what was there told of none of which the site is no growth, and in an earlier version of this one.
-- No two records have one address. It has the tables that were there, and of the first version no
-- beginning of validity.
pub record IsTakenFor (site : TextOfSite) (before now : Trees) : Type 0 where
  pub tells : HoldsSite site.text now
  pub grown : TakesGrowth site.site before
  pub own : TakesOwn site.text before
  pub apart : HasApartAddresses now
  pub tables : tables_in now ≡ tables_in before
  pub without_not_before : StaysWithoutNotBefore before (tables_in now)

-- An answer leaves the connection open and ready, and its database taken as the store of the site. That was
-- a store of a version, or there was none yet, and no schema. A fault leaves what was committed, and one
-- that is told for what the store shows leaves all as it was. A crash leaves what it left before, or what
-- the one transaction makes.
pub record PreparesTables {S : Type 0} (g : Ghosts S) (site : TextOfSite) (old new : Held S)
    (result : Result (Unit {0}) OpenFault) : Type 0 where
  pub mode : new.in_transaction ≡ false
  pub ready : HasCleanDisk (state g new) → OnOk result (IsTrue (state g new).is_open × IsReady (state g new))
  pub was : HasCleanDisk (state g new) → OnOk result
      ((absent : Absent) → ¬ LacksStore absent (state g old).now → IsTaken absent (state g old).now.trees)
  pub takes : HasCleanDisk (state g new) → OnOk result (IsTakenFor site (state g old).now.trees (state g new).now.trees)
  pub refused : IfErr result (IsRefusedFor site (state g new))
  pub unchanged : HasCleanDisk (state g new)
      → IfErr result (λ _. KeepsCommit (state g old) (state g new))
  pub untouched : IfErr result (λ fault. fault ≢ Failed → IsUntouched (state g old) (state g new))
  pub crash : Survives (state g old) (state g new) (IsPreparedFor site (state g old))

-- a crash after leaves what one before left, or what the one transaction makes: the tables of a
-- store that had none, those of an upgraded one, or those of one with a new text, whole
abbrev pub LeavesAtMost : TextOfSite → State → State → Type 0
LeavesAtMost site before after =
    (db : Trees) → after.may_leave db → before.may_leave db ⊎ IsPreparedFor site before db

module _ {S : Type 0} (g : Ghosts S) where
  -- a connection that is handed back leaves at a crash what was left before, or what the one transaction makes;
  -- a store that is handed back leaves what was left before
  abbrev pub HandedLeaves : TextOfSite → State → Handed S → Type 0
  HandedLeaves site before (handed.Connection c) = HasCleanDisk (state g c) → LeavesAtMost site before (state g c)
  HandedLeaves site before (handed.Store store) = (db : Trees) → g.recovers store db → before.may_leave db

  -- a connection that is handed back has the rows that were committed, while it is open
  abbrev pub HandedKeeps : State → Handed S → Type 0
  HandedKeeps before (handed.Connection c) =
      HasCleanDisk (state g c) → IsTrue (state g c).is_open
      → (state g c).committed.trees ≡ before.committed.trees
  HandedKeeps before (handed.Store store) = ⊤

  -- a connection is handed back for what it shows, and a store because it failed
  abbrev pub IsHandedFor : TextOfSite → OpenFault → Handed S → Type 0
  IsHandedFor site fault (handed.Connection c) = IsRefusedFor site (state g c) fault
  IsHandedFor site fault (handed.Store store) = fault ≡ Failed
