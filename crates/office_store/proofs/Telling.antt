-- What a store tells of itself it tells once.
use Rattle.std.proofs.Common.{◌≡◌, ◌≢◌, ℕ, List, [], ◌∷◌, Option, Some, None, refl, sym, ap, subst, ◌∙◌, arith}
use Rattle.sha2.specs.Sha256.{sha256}
use Rattle.sha2.proofs.Facts256.{length-sha256}
use Rattle.office_sql.proofs.Kit.{Row, Trees}
use Rattle.office_store.proofs.Types.{Meta, Version, V3}
use Rattle.office_store.specs.Prelude.{IsShownText, new_meta}
use Rattle.store_inspection.specs.Prelude.{metas_in, HoldsSite, IsMetaOf, HasMeta, ShowSiteTexts, number_of_version}
use Rattle.store_inspection.proofs.TextShows.{shown_text}

schema_in : List Meta → ℕ
schema_in [] = 0
schema_in (m ∷ _) = m.schema

-- a store tells one version's number
pub told_once : (version version2 : Version) (site other : List ℕ) (db : Trees)
    → HasMeta version site db → HasMeta version2 other db
    → number_of_version version ≡ number_of_version version2
unfolding schema_in
told_once version version2 site other db one two = ap schema_in (sym one ∙ two)

site_in : List Meta → List ℕ
site_in [] = []
site_in (m ∷ _) = m.site

-- a store tells one site
pub site_once : (version version2 : Version) (site other : List ℕ) (db : Trees) → HasMeta version site db → HasMeta version2 other db → site ≡ other
unfolding site_in
site_once version version2 site other db one two = ap site_in (sym one ∙ two)

-- a store of an earlier version isn't of the third
pub not_v3 : (version : Version) (site other : List ℕ) (db : Trees) → version ≢ V3 → HasMeta version site db → HasMeta V3 other db → ⊥
not_v3 V3 site other db earlier one two = earlier refl
not_v3 version site other db earlier one two = omega (arith, told_once version V3 site other db one two)

-- a store without a row of meta tells no version
pub not_silent : (version : Version) (site : List ℕ) (db : Trees) → metas_in db ≡ [] → HasMeta version site db → ⊥
not_silent version site db silent told = let e = sym silent ∙ told in absurd (cc)

-- rows that show a text beside the row of meta that names it are those of a store that tells of it
pub shown_tells : (text : List ℕ) (db : Trees) (meta : Option Meta) (rows : List Row)
    → IsMetaOf (metas_in db) meta × ShowSiteTexts db rows → IsShownText text rows meta
    → HoldsSite text db
shown_tells text db meta rows it shown = record {
  holds = (shown_text text db rows it.1).0 shown.0;
  named = subst (IsMetaOf (metas_in db)) shown.1 it.0;
}

-- the rows of a store that tells of a text show it, beside the row of meta that names it
pub tells_shown : (text : List ℕ) (db : Trees) (meta : Option Meta) (rows : List Row)
    → IsMetaOf (metas_in db) meta × ShowSiteTexts db rows → HoldsSite text db
    → IsShownText text rows meta
tells_shown text db meta rows it tells = ((shown_text text db rows it.1).1 tells.holds, named meta it.0)
  where
    named : (meta : Option Meta) → IsMetaOf (metas_in db) meta → meta ≡ Some (new_meta (sha256 text))
    named (Some m) read = let e = sym read ∙ tells.named in cc
    named None read = absurd (read V3 (sha256 text) (length-sha256 text) tells.named)
