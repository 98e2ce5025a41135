-- What a list of texts makes of a database, and the list of those by which a store comes to be.
use Rattle.std.specs.Prelude.{◌≡◌, ⊤, ℕ, List, [], ◌∷◌, Ok}
use Rattle.sha2.specs.Sha256.{sha256}
use Rattle.sqlite.specs.declared.types.Value.TheVariants.{Text as Words, Blob as Bytes}
use Rattle.sqlite.specs.Order.{Row}
use Rattle.sqlite.specs.Tree.{Trees}
use Rattle.sqlite.specs.Effect.{Database, IsDatabase}
use Rattle.sqlite.specs.Store.{Ghosts}
use Rattle.sqlite.specs.Held.{Held, state}
use Rattle.sqlite.specs.State.{Executes}
use Rattle.office_sql.specs.Prelude.{AreOfficeRows}
use Rattle.store_inspection.specs.declared.version.Version.{Version}
use Rattle.store_inspection.specs.declared.version.Version.TheVariants.{V2, V3}
use Rattle.store_inspection.specs.Found.{HasOneValidityRowEach}
use Rattle.store_inspection.specs.Versions.{schema_of}
use Rattle.office_store.specs.declared.steps.Step.{Step}
use Rattle.office_store.specs.declared.steps.Takes.{Takes}
use Rattle.office_store.specs.declared.steps.Takes.TheVariants.{Nothing, Text, Name}
use Rattle.office_store.specs.declared.steps.TheConstants.{CREATE_META, CREATE_SEAT, CREATE_MAP, CREATE_LINK, CREATE_ORDERS, CREATE_DEVICE, CREATE_GIVEN}
use Rattle.office_store.specs.declared.steps.TheConstants.{CREATE_LEDGER, INSERT_INTO_META, CREATE_ORDER_START, CREATE_GIVEN_START}
use Rattle.office_store.specs.declared.steps.TheConstants.{INSERT_NULL_INTO_ORDER_START, INSERT_NULL_INTO_GIVEN_START, CREATE_SITE_TEXT}
use Rattle.office_store.specs.declared.steps.TheConstants.{INSERT_INTO_SITE_TEXT, UPDATE_OF_SITE_TEXT, UPDATE_OF_META}

-- a text of SQL, and what it takes of the site
pub record SqlText : Type 0 where
  pub sql : List ℕ
  pub takes : Takes

abbrev pub text_of : Step → SqlText
text_of step = record { sql = step.text.now; takes = step.takes }

-- the parameters of a text, by what it takes of the site with this text
abbrev pub taken : Takes → List ℕ → Row
taken Nothing site = []
taken Text site = Words site ∷ []
taken Name site = Bytes (sha256 site) ∷ []

-- the text was run on the one database, and left the other
pub record HasRun {S : Type 0} (g : Ghosts S) (text : SqlText) (site : List ℕ) (before after : Database) : Type 0 where
  pub old : Held S
  pub new : Held S
  pub count : ℕ
  pub was : (state g old).now ≡ before
  pub is : (state g new).now ≡ after
  pub ran : Executes text.sql (taken text.takes site) (state g old) (state g new) (Ok count)

-- the texts were run, one after another
abbrev pub HaveRun : {S : Type 0} → Ghosts S → List SqlText → List ℕ → Database → Database → Type 0
HaveRun g [] site before after = after ≡ before
HaveRun g (text ∷ texts) site before after = (mid : Database) × HasRun g text site before mid × HaveRun g texts site mid after

-- a text that takes nothing
abbrev pub plain_text : List ℕ → SqlText
plain_text sql = record { sql = sql; takes = Nothing }

-- the texts by which a store comes to be, in turn
abbrev pub all_steps : List SqlText
all_steps =
    plain_text CREATE_META.now ∷ plain_text CREATE_SEAT.now ∷ plain_text CREATE_MAP.now ∷ plain_text CREATE_LINK.now
    ∷ plain_text CREATE_ORDERS.now ∷ plain_text CREATE_DEVICE.now ∷ plain_text CREATE_GIVEN.now ∷ plain_text CREATE_LEDGER.now
    ∷ plain_text INSERT_INTO_META.now
    ∷ plain_text CREATE_ORDER_START.now ∷ plain_text CREATE_GIVEN_START.now
    ∷ plain_text INSERT_NULL_INTO_ORDER_START.now ∷ plain_text INSERT_NULL_INTO_GIVEN_START.now
    ∷ plain_text CREATE_SITE_TEXT.now ∷ plain_text INSERT_INTO_SITE_TEXT.now
    ∷ record { sql = UPDATE_OF_SITE_TEXT.now; takes = Text } ∷ record { sql = UPDATE_OF_META.now; takes = Name } ∷ []

-- in a version that has beginnings of validity each order and each record has exactly one
abbrev pub HasValidityRowsAt : Version → Trees → Type 0
HasValidityRowsAt V2 db = HasOneValidityRowEach db
HasValidityRowsAt V3 db = HasOneValidityRowEach db
HasValidityRowsAt _ db = ⊤

-- a database of a version: its rows are the office's, and no beginning of validity lacks
pub record IsAt (version : Version) (db : Database) : Type 0 where
  pub schema : db.schema ≡ schema_of version
  pub sound : IsDatabase db
  pub rows : AreOfficeRows db.trees
  pub validity : HasValidityRowsAt version db.trees
