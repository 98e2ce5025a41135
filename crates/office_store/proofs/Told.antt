-- What the texts that tell of the store itself do to meta and to the text of the site.
use Rattle.std.proofs.Common.{◌≡◌, ◌≢◌, ◌∙◌, ◌∷◌, ℕ, pos, List, [], map, true, refl, sym, ap, is_eq}
use Rattle.std.proofs.lemmas.Cmp.{tied_itself}
use Rattle.sha2.specs.Sha256.{sha256}
use Rattle.office_sql.proofs.Kit.{Value, Null, Int, Row, column, rowid, Term, lit, col, op2, eval_all, Binary, Eq, Compare, Database, IsDatabase, Trees}
use Rattle.office_sql.proofs.Kit.{has_rowid, put_row, without_rowid, cast_row, value_cmp_total}
use Rattle.sqlite.specs.declared.types.Value.TheVariants.{Text as Words, Blob as Bytes}
use Rattle.sqlite.specs.Listing.{understood}
use Rattle.sqlite.specs.Order.{value_cmp}
use Rattle.sqlite.specs.Store.{Ghosts}
use Rattle.sqlite_tied.specs.Compute.{everything}
use Rattle.office_sql.specs.Prelude.{meta, site_texts, meta_table, site_text_table, office_schema, rows_in, passing, SameBut}
use Rattle.office_sql.specs.Prelude.{number_in_cell}
use Rattle.office_sql.proofs.Inserting.{IsInsert, OthersStay, puts_row}
use Rattle.office_sql.proofs.Names.{same_but}
use Rattle.office_sql.proofs.Replacing.{IsUpdate, replaces}
use Rattle.office_sql.proofs.Stepping.{cast_null, cast_int}
use Rattle.office_sql.proofs.Values.{is_itself}
use Rattle.store_inspection.specs.Prelude.{meta_in, meta_of_version, schema_of, HasMeta, HoldsSiteText}
use Rattle.office_store.specs.declared.steps.TheConstants.{INSERT_INTO_META, INSERT_INTO_SITE_TEXT, UPDATE_OF_META, UPDATE_OF_SITE_TEXT}
use Rattle.office_store.specs.declared.steps.Takes.TheVariants.{Text, Name}
use Rattle.office_store.specs.Prelude.{HasRun, TellsItself, plain_text}
use Rattle.office_store.proofs.Running.{run_says}
use Rattle.office_store.proofs.Types.{Meta, Version, V1, V3}

-- the text is held, and no other table changes
pub record PutsText (text : List ℕ) (old new : Database) : Type 0 where
  pub schema : new.schema ≡ office_schema
  pub sound : IsDatabase new
  pub holds : HoldsSiteText text new.trees
  pub others : SameBut site_texts old.trees new.trees

-- another site is told, and no other table changes
pub record ReplacesName (site : List ℕ) (old new : Database) : Type 0 where
  pub schema : new.schema ≡ office_schema
  pub sound : IsDatabase new
  pub told : HasMeta V3 site new.trees
  pub others : SameBut meta old.trees new.trees

-- ---- the first rows

-- the row of meta, of no site yet
abbrev first_meta : Row
first_meta = Int (pos 1) ∷ Null ∷ Int (pos 1) ∷ Bytes [] ∷ []

abbrev meta_terms : List Term
meta_terms = lit (Int (pos 1)) ∷ lit Null ∷ lit (Int (pos 1)) ∷ lit (Bytes []) ∷ []

meta_insert : IsInsert (schema_of V1) INSERT_INTO_META.now meta meta_terms 4
unfolding understood everything
meta_insert = record { means = record { is = refl; plain = (refl, refl); there = refl; uncounted = refl; unstamped = refl }; one = λ params. refl }

meta_casts : cast_row meta_table (eval_all meta_terms ([] ∷ [])) ≡ first_meta
meta_casts = rw (cast_null, cast_int (pos 1)) refl

-- the first version is told where nothing was
pub record TellsV1 (old new : Database) : Type 0 where
  pub schema : new.schema ≡ schema_of V1
  pub sound : IsDatabase new
  pub told : HasMeta V1 [] new.trees
  pub others : OthersStay (schema_of V1) meta old.trees new.trees

pub tells_v1 : {S : Type 0} (g : Ghosts S) (site : List ℕ) (x y : Database) → HasRun g (plain_text INSERT_INTO_META.now) site x y
    → x.schema ≡ schema_of V1 → rows_in x.trees meta ≡ [] → TellsV1 x y
tells_v1 g site x y = run_says g (plain_text INSERT_INTO_META.now) site x y
    (λ x y. x.schema ≡ schema_of V1 → rows_in x.trees meta ≡ [] → TellsV1 x y)
    (λ old new count ran has none.
    let adds = puts_row (schema_of V1) INSERT_INTO_META.now meta meta_terms 4 meta_insert [] first_meta meta_casts old new count has ran in
    record { schema = adds.schema; sound = adds.sound; told = ap (map meta_in) (adds.rows ∙ ap (put_row first_meta) none); others = adds.others })

-- the row of the site's text, which is none yet
abbrev first_text : Row
first_text = Int (pos 1) ∷ Null ∷ Words [] ∷ []

abbrev text_terms : List Term
text_terms = lit (Int (pos 1)) ∷ lit Null ∷ lit (Words []) ∷ []

text_insert : IsInsert office_schema INSERT_INTO_SITE_TEXT.now site_texts text_terms 3
unfolding understood everything
text_insert = record { means = record { is = refl; plain = (refl, refl); there = refl; uncounted = refl; unstamped = refl }; one = λ params. refl }

text_casts : cast_row site_text_table (eval_all text_terms ([] ∷ [])) ≡ first_text
text_casts = rw (cast_null, cast_int (pos 1)) refl

-- no text is held where there was no row
pub puts_none : {S : Type 0} (g : Ghosts S) (site : List ℕ) (x y : Database) → HasRun g (plain_text INSERT_INTO_SITE_TEXT.now) site x y
    → x.schema ≡ office_schema → rows_in x.trees site_texts ≡ [] → PutsText [] x y
puts_none g site x y = run_says g (plain_text INSERT_INTO_SITE_TEXT.now) site x y
    (λ x y. x.schema ≡ office_schema → rows_in x.trees site_texts ≡ [] → PutsText [] x y)
    (λ old new count ran has none.
    let adds = puts_row office_schema INSERT_INTO_SITE_TEXT.now site_texts text_terms 3 text_insert [] first_text text_casts old new count has ran in
    record {
      schema = adds.schema;
      sound = adds.sound;
      holds = (first_text, adds.rows ∙ ap (put_row first_text) none, record { id = refl; body = refl });
      others = same_but site_texts old.now.trees new.now.trees adds.others;
    })

-- ---- where a table has one row

-- the row that is there alone
abbrev IsAlone : List Row → Meta → Type 0
IsAlone rows m = (r : Row) × (rows ≡ r ∷ []) × (meta_in r ≡ m)

alone : (rows : List Row) (m : Meta) → map meta_in rows ≡ m ∷ [] → IsAlone rows m
alone [] m is = absurd (let none = is in cc)
alone (r ∷ []) m is = (r, refl, cc)
alone (r ∷ s ∷ rows) m is = absurd (let two = is in cc)

-- a number stands for itself alone, unless it is 0
the_number : (n : ℕ) → n ≢ 0 → (v : Value) → number_in_cell v ≡ n → v ≡ Int (pos n)
the_number n some (Int (pos m)) e = ap (λ k. Int (pos k)) e
the_number n some _ e = absurd (some (sym e))

-- the row in place of the one
replaced : (r new : Row) → rowid r ≡ Int (pos 1) → put_row new (without_rowid (pos 1) (r ∷ [])) ≡ new ∷ []
replaced r new id =
    let here : has_rowid (pos 1) r ≡ true = ap (λ v. is_eq (value_cmp v (Int (pos 1)))) id ∙ ap is_eq (tied_itself value_cmp_total (Int (pos 1))) in
    rw here refl

-- the row of meta that tells of a store
abbrev IsMetaRow : Version → List ℕ → List Row → Type 0
IsMetaRow version site rows = (r : Row) × (rows ≡ r ∷ []) × (rowid r ≡ Int (pos 1)) × (meta_in r ≡ meta_of_version version site)

meta_row : (version : Version) (site : List ℕ) (db : Trees) → HasMeta version site db → IsMetaRow version site (rows_in db meta)
meta_row version site db is =
    let it = alone (rows_in db meta) (meta_of_version version site) is in
    (it.0, it.1, the_number 1 (λ e. cc) (column it.0 0) (ap (λ (m : Meta). m.id) it.2), it.2)

-- the row whose id is 1
abbrev first_tests : List Term
first_tests = op2 (Compare Eq Binary) (col 1 0) (lit (Int (pos 1))) ∷ []

one_passes : (params r : Row) → rowid r ≡ Int (pos 1) → passing first_tests params (r ∷ []) ≡ r ∷ []
one_passes params r e = rw (e, is_itself (pos 1)) refl

abbrev name_shown : List Term
name_shown = col 1 0 ∷ col 1 0 ∷ lit Null ∷ lit (Int (pos 3)) ∷ col 0 0 ∷ []

name_update : IsUpdate UPDATE_OF_META.now meta first_tests name_shown
unfolding understood everything
name_update = record { is = refl; plain = (refl, refl); there = refl; same = λ db. refl }

abbrev write_shown : List Term
write_shown = col 1 0 ∷ col 1 0 ∷ lit Null ∷ col 0 0 ∷ []

write_update : IsUpdate UPDATE_OF_SITE_TEXT.now site_texts first_tests write_shown
unfolding understood everything
write_update = record { is = refl; plain = (refl, refl); there = refl; same = λ db. refl }

-- the third version is told of this site, whichever was told
pub names_site : {S : Type 0} (g : Ghosts S) (site : List ℕ) (x y : Database) → HasRun g (record { sql = UPDATE_OF_META.now; takes = Name }) site x y
    → x.schema ≡ office_schema → (version : Version) → TellsItself version x.trees → ReplacesName (sha256 site) x y
names_site g site x y = run_says g (record { sql = UPDATE_OF_META.now; takes = Name }) site x y
    (λ x y. x.schema ≡ office_schema → (version : Version) → TellsItself version x.trees → ReplacesName (sha256 site) x y)
    (λ old new count ran has version itself.
    let it = meta_row version itself.0 old.now.trees itself.1 in
    let r = it.0 in
    let params : Row = Bytes (sha256 site) ∷ [] in
    let columns : Row = Null ∷ Int (pos 3) ∷ Bytes (sha256 site) ∷ [] in
    let row : Row = Int (pos 1) ∷ columns in
    let made = (replaces UPDATE_OF_META.now meta first_tests name_shown name_update params old new count has ran r row columns (pos 1)
    (ap (passing first_tests params) it.1 ∙ one_passes params r it.2)
    (ap (λ v. v ∷ v ∷ Null ∷ Int (pos 3) ∷ Bytes (sha256 site) ∷ []) it.2)
    (rw (cast_int (pos 1), cast_null, cast_int (pos 3)) refl)).0 in
    let is : rows_in new.now.trees meta ≡ row ∷ [] = made.row ∙ ap (λ l. put_row row (without_rowid (pos 1) l)) it.1 ∙ replaced r row it.2 in
    record { schema = made.schema; sound = made.sound; told = ap (map meta_in) is; others = made.others })

-- this text is held, whichever was
pub writes_text : {S : Type 0} (g : Ghosts S) (site : List ℕ) (x y : Database) → HasRun g (record { sql = UPDATE_OF_SITE_TEXT.now; takes = Text }) site x y
    → x.schema ≡ office_schema → (older : List ℕ) → HoldsSiteText older x.trees → PutsText site x y
writes_text g site x y = run_says g (record { sql = UPDATE_OF_SITE_TEXT.now; takes = Text }) site x y
    (λ x y. x.schema ≡ office_schema → (older : List ℕ) → HoldsSiteText older x.trees → PutsText site x y)
    (λ old new count ran has older it.
    let r = it.0 in
    let params : Row = Words site ∷ [] in
    let columns : Row = Null ∷ Words site ∷ [] in
    let row : Row = Int (pos 1) ∷ columns in
    let made = (replaces UPDATE_OF_SITE_TEXT.now site_texts first_tests write_shown write_update params old new count has ran r row columns (pos 1)
    (ap (passing first_tests params) it.1 ∙ one_passes params r it.2.id)
    (ap (λ v. v ∷ v ∷ Null ∷ Words site ∷ []) it.2.id)
    (rw (cast_int (pos 1), cast_null) refl)).0 in
    let is : rows_in new.now.trees site_texts ≡ row ∷ [] = made.row ∙ ap (λ l. put_row row (without_rowid (pos 1) l)) it.1 ∙ replaced r row it.2.id in
    record { schema = made.schema; sound = made.sound; holds = (row, is, record { id = refl; body = refl }); others = made.others })
