-- The text of its site that a store holds.
use Rattle.std.specs.Prelude.{◌≡◌, ℕ, pos, List, [], ◌∷◌, map, IsPermutation}
use Rattle.sqlite.specs.declared.types.Value.TheVariants.{Int, Text as Words}
use Rattle.sqlite.specs.Order.{Row, column}
use Rattle.sqlite.specs.Tree.{Trees}
use Rattle.office_sql.specs.Prelude.{rows_in, site_texts}

-- the row's id is 1, and this column of it is the text
pub record IsTextAt (place : ℕ) (text : List ℕ) (r : Row) : Type 0 where
  pub id : column r 0 ≡ Int (pos 1)
  pub body : column r place ≡ Words text

-- there is one row, and it has the text
abbrev pub IsOnlyText : ℕ → List ℕ → List Row → Type 0
IsOnlyText place text rows = (r : Row) × (rows ≡ r ∷ []) × IsTextAt place text r

-- site_text: id, body. The id is the rowid
abbrev pub HoldsSiteText : List ℕ → Trees → Type 0
HoldsSiteText text db = IsOnlyText 2 text (rows_in db site_texts)

-- the rows show it, in some order
abbrev pub ShowSiteTexts : Trees → List Row → Type 0
ShowSiteTexts db rows = IsPermutation (map (λ r. column r 0 ∷ column r 2 ∷ []) (rows_in db site_texts)) rows
