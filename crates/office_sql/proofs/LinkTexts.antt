-- What the texts that read and write links mean, show, and do.
use Rattle.std.proofs.Common.{◌≡◌, ◌&&◌, ◌∷◌}
use Rattle.text_core.proofs.Kit.{ℕ, pos, List, [], refl, ap, ap₂, ◌∙◌, ordering_then, and-true}
use Rattle.office_sql.proofs.Kit.{Null, column, Term, lit, col, eval_all, Database, cast_row, then-Equal}
use Rattle.sqlite.specs.declared.types.Value.TheVariants.{Text as Words, Blob as Bytes}
use Rattle.sqlite.specs.Listing.{understood}
use Rattle.sqlite_tied.specs.Compute.{everything}
use Rattle.office_sql.proofs.Types.{OfCustomer, Link, AddLink}
use Rattle.office_tables.specs.Prelude.{link_cmp, is_link, is_of, IsFree}
use Rattle.office_tables.proofs.TotalOrders.{link_total}
use Rattle.office_sql.specs.Prelude.{links, link_table, office_schema, rows_in, link_in_row, link_columns, is_parameter, SqlAdds, Wrote, IsLinkRow, IsOffice}
use Rattle.office_sql.specs.Prelude.{tables_in}
use Rattle.office_sql.proofs.Finding.{texts_same}
use Rattle.office_sql.proofs.Inserting.{IsInsert}
use Rattle.office_sql.proofs.Kept.{shows_kept, Shows}
use Rattle.office_sql.proofs.Putting.{IsAlone, row_put, unfound_apart}
use Rattle.office_sql.proofs.Reading.{IsRead}
use Rattle.office_sql.proofs.Stepping.{cast_null, cast_int}
use Rattle.office_sql.proofs.TableOf.{TableOf, by_key}
use Rattle.office_sql.proofs.Values.{text_is, blob_is, texts_cmp, blobs_cmp}
use Rattle.office_sql.specs.declared.links.TheConstants.{SELECT_LINK, SELECT_LINKS, INSERT_INTO_LINK}

abbrev pub as_links : TableOf (OfCustomer Link)
as_links = record {
  name = links;
  Typed = IsLinkRow;
  cmp = link_cmp;
  total = link_total;
  value = link_in_row;
  key = 1 ∷ 2 ∷ [];
  compared = λ a b e f. ap₂ ordering_then (texts_cmp (column a 1) (column b 1) e.0 f.0) (then-Equal _ ∙ blobs_cmp (column a 2) (column b 2) e.1 f.1);
  from_office = λ rows are. are;
  for_office = λ rows are. are;
}

alone : IsAlone as_links
alone = record { validity = λ rows all both. both; told = (λ e. cc, λ e. cc) }

-- ---- what is read

abbrev pub shown : List Term
shown = col 1 1 ∷ col 1 2 ∷ col 1 3 ∷ []

abbrev pub one_tests : List Term
one_tests = is_parameter 1 0 ∷ is_parameter 2 1 ∷ []

abbrev pub own_test : List Term
own_test = is_parameter 1 0 ∷ []

pub one_read : IsRead office_schema SELECT_LINK.now links one_tests shown (by_key (1 ∷ 2 ∷ []))
unfolding understood everything
one_read = record { names = _; is = refl; plain = (refl, refl); unlisted = refl; bare = λ schema base. refl; there = λ db. refl }

pub own_read : IsRead office_schema SELECT_LINKS.now links own_test shown (by_key (1 ∷ 2 ∷ []))
unfolding understood everything
own_read = record { names = _; is = refl; plain = (refl, refl); unlisted = refl; bare = λ schema base. refl; there = λ db. refl }

pub one_shown : (c d : List ℕ) → Shows as_links one_tests shown (Words c ∷ Bytes d ∷ []) (λ r. link_in_row (Null ∷ r)) (is_link c d)
one_shown c d =
    shows_kept as_links (is_link c d) one_tests _ (λ r e. ap₂ ◌&&◌ (text_is (column r 1) c e.0) (and-true _ ∙ blob_is (column r 2) d e.1))
    shown (λ r. link_in_row (Null ∷ r)) (λ r. refl) (λ a b. refl)

pub own_shown : (c : List ℕ) → Shows as_links own_test shown (Words c ∷ []) (λ r. link_in_row (Null ∷ r)) (is_of c)
own_shown c =
    shows_kept as_links (is_of c) own_test _ (λ r e. and-true _ ∙ text_is (column r 1) c e.0)
    shown (λ r. link_in_row (Null ∷ r)) (λ r. refl) (λ a b. refl)

-- ---- what is written

abbrev pub add_terms : List Term
add_terms = lit Null ∷ col 0 0 ∷ col 0 1 ∷ col 0 2 ∷ []

pub add_insert : IsInsert office_schema INSERT_INTO_LINK.now links add_terms 4
unfolding understood everything
add_insert = record { means = record { is = refl; plain = (refl, refl); there = refl; uncounted = refl; unstamped = refl }; one = λ params. refl }

pub add_casts : (l : OfCustomer Link) → cast_row link_table (eval_all add_terms (link_columns l ∷ [])) ≡ Null ∷ link_columns l
add_casts l = rw (cast_null, cast_int (pos l.row.map)) refl

pub link_wrote : (l : OfCustomer Link) (old new : Database) → IsOffice old
    → IsFree (AddLink l) (tables_in old.trees) → SqlAdds links (link_columns l) old new
    → Wrote (AddLink l) old new
link_wrote l old new office free adds =
    let it = row_put as_links alone l old new office (link_columns l) adds (refl, refl) refl (unfound_apart as_links l (is_link l.customer l.row.digest)
    (λ y. texts_same l.customer l.row.digest y.customer y.row.digest) (rows_in old.trees links) free) in
    record {
      office = it.office;
      made = it.tables ∙ ap (λ l. record (tables_in old.trees) { links = l }) it.placed_is;
      rows = adds;
      told = it.told;
    }
