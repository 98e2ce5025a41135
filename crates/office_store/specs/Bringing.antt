-- How a database comes to be a store of the third version that holds a site's text, by what was found.
use Rattle.std.specs.Prelude.{◌≡◌, ◌≢◌, ℕ, List, IsTrue}
use Rattle.sha2.specs.Sha256.{sha256}
use Rattle.site_core.specs.Prelude.{TextOfSite}
use Rattle.sqlite.specs.Tree.{Trees}
use Rattle.sqlite.specs.Effect.{Database}
use Rattle.sqlite.specs.State.{State}
use Rattle.office_sql.specs.Prelude.{no_schema}
use Rattle.office_store.specs.declared.bring.Found.{Found}
use Rattle.office_store.specs.declared.bring.Found.TheVariants.{Nothing, Earlier, Today}
use Rattle.store_inspection.specs.declared.version.Version.TheVariants.{V2, V3}
use Rattle.store_inspection.specs.SiteTexts.{HoldsSiteText}
use Rattle.store_inspection.specs.Versions.{IsBeforeV1}
use Rattle.office_store.specs.Adopting.{IsFoundApart, IsGrowable, IsTestedFor}
use Rattle.office_store.specs.Making.{IsBegun}
use Rattle.office_store.specs.Stores.{IsNoStore}
use Rattle.office_store.specs.Upgrading.{IsUpgrade}
use Rattle.office_store.specs.Growing.{IsGrown}

-- a store of a version before the first
abbrev pub IsEarly : Found → Type 0
IsEarly (Earlier version) = IsBeforeV1 version
IsEarly _ = ⊥

-- the place of the first step that lacks
abbrev pub first_step_of : Found → ℕ
first_step_of Nothing = 0
first_step_of (Earlier V2) = 13
first_step_of (Earlier _) = 9
first_step_of Today = 15

-- what a database must be that is brought to the text of a site
abbrev pub CanBring : Found → TextOfSite → Database → Type 0
CanBring Nothing site db = (db.schema ≡ no_schema) × IsNoStore db.trees
CanBring (Earlier version) site db = (version ≢ V3) × IsTestedFor (sha256 site.text) version db
CanBring Today site db = IsFoundApart V3 db × IsGrowable site.site db × ¬ HoldsSiteText site.text db.trees

-- what it is then
abbrev pub Brings : Found → List ℕ → Trees → Database → Type 0
Brings Nothing text old new = IsBegun text new
Brings (Earlier version) text old new = IsUpgrade version text old new
Brings Today text old new = IsGrown text old new

-- the database was brought to the text, and that was committed
pub record IsBrought (found : Found) (text : List ℕ) (old new : State) : Type 0 where
  pub was_open : IsTrue old.is_open
  pub is_open : IsTrue new.is_open
  pub brought : Brings found text old.now.trees new.now
  pub committed : new.committed ≡ new.now
