-- What the text that reads the row of meta means, and shows.
use Rattle.std.proofs.Common.{◌≡◌, ◌≢◌, ◌<◌, ◌≤◌, get_or, ◌∷◌}
use Rattle.text_core.proofs.Kit.{ℕ, length, arith, true, Option, Some, None, IfSome, IfNone, List, [], map, refl, sym, ap, subst, ◌∙◌, IsPermutation}
use Rattle.text_core.proofs.Kit.{IsPermutation-map, IsPermutation-sym, AllByRecursion}
use Rattle.office_sql.proofs.Kit.{Row, Trees, Database, IsSound, Datatype, NotNull, Term, col, eval_all, Binary, one_permutation, Key, ascending, all_both}
use Rattle.office_sql.proofs.Kit.{all_of, all-map, all-permutation, filter_all, overlay, IsAnswer}
use Rattle.sqlite.specs.Listing.{understood}
use Rattle.sqlite_tied.specs.Compute.{everything}
use Rattle.sqlite_trees.proofs.ListLemmas.{map-map}
use Rattle.office_sql.specs.OfficeTable as table
use Rattle.office_sql.specs.Prelude.{env, passes, scan, meta_table, rows_in, tree_of, IsBlob}
use Rattle.store_inspection.proofs.Types.{Version, V1a, Meta}
use Rattle.store_inspection.specs.Prelude.{IsFound, meta_in, meta_of, meta_of_version, metas_in, IsMetaOf, ShowMeta, TellNoSite, schema_of}
use Rattle.store_inspection.specs.declared.meta.TheConstants.{SELECT_META}
use Rattle.store_inspection.proofs.FoundRows.{blob_at}
use Rattle.office_sql.proofs.LedgerAsked.{IsReadAs}
use Rattle.office_sql.proofs.Scan.{Scanned, scanned}

abbrev pub row_shown : List Term
row_shown = col 1 0 ∷ col 1 2 ∷ col 1 3 ∷ []

abbrev pub by_row_id : List (Term × Key)
by_row_id = (col 1 0, ascending Binary) ∷ []

pub row_read : (version : Version) → IsReadAs (schema_of version) SELECT_META.now (scan (tree_of table.meta) [] row_shown by_row_id)
unfolding understood everything
row_read V1a = record { names = _; is = refl; plain = (refl, refl); unlisted = refl; bare = λ schema base. refl }
row_read _ = record { names = _; is = refl; plain = (refl, refl); unlisted = refl; bare = λ schema base. refl }

-- meta, in some order
shows_metas : (all rows : List Row) → Scanned [] row_shown by_row_id [] all rows → IsPermutation (map meta_in all) (map meta_of rows)
shows_metas all rows s =
    let every = filter_all (passes [] []) all (all_of (λ r. passes [] [] r ≡ true) (λ r. refl) all) in
    let same = subst (λ l. IsPermutation l s.kept) every s.same in
    let read : map meta_of rows ≡ map meta_in s.kept = ap (map meta_of) s.shows ∙ map-map meta_of (λ r. eval_all row_shown (env [] r)) s.kept in
    subst (IsPermutation (map meta_in all)) (sym read) (IsPermutation-map meta_in _ _ same)

-- each site in meta is a blob
sites_are_blobs : (version : Version) (db : Trees) → IsSound (schema_of version) db → AllByRecursion (IsBlob 3) (rows_in db table.meta)
sites_are_blobs V1a db sound =
    all_both _ _ (IsBlob 3) (λ r d n.
    blob_at (schema_of V1a) db meta_table r d n 2 (refl, refl, refl) (refl, refl)) (rows_in db table.meta)
    (sound.obeys.rules Datatype).0 (sound.obeys.rules NotNull).0
sites_are_blobs version db sound =
    all_both _ _ (IsBlob 3) (λ r d n.
    blob_at (schema_of version) db meta_table r d n 2 (refl, refl, refl) (refl, refl)) (rows_in db table.meta)
    (sound.obeys.rules Datatype).0 (sound.obeys.rules NotNull).0

-- each site that is shown of meta is a blob
shows_blobs : (all rows : List Row) → AllByRecursion (IsBlob 3) all → Scanned [] row_shown by_row_id [] all rows → AllByRecursion (IsBlob 2) rows
shows_blobs all rows blobs s =
    let every = filter_all (passes [] []) all (all_of (λ r. passes [] [] r ≡ true) (λ r. refl) all) in
    let same = subst (λ l. IsPermutation l s.kept) every s.same in
    subst (AllByRecursion (IsBlob 2)) (sym s.shows) (all-map (IsBlob 2) (λ r.
    eval_all row_shown (env [] r)) s.kept (all-permutation (IsBlob 3) all s.kept same blobs))

-- what is read of the text is meta
pub shows_meta : (version : Version) (db : Database) (rows : List Row) → IsFound version db
    → IsAnswer (scan (tree_of table.meta) [] row_shown by_row_id) (overlay db.trees []) [] rows
    → ShowMeta db.trees rows
shows_meta version db rows found a =
    let s : Scanned [] row_shown by_row_id [] (rows_in db.trees table.meta) rows =
    scanned (overlay db.trees []) [] (tree_of table.meta) [] row_shown by_row_id [] rows a in
    record {
      metas = shows_metas (rows_in db.trees table.meta) rows s;
      blobs = shows_blobs (rows_in db.trees table.meta) rows (sites_are_blobs version db.trees (subst (λ s. IsSound s db.trees) found.schema found.sound)) s;
    }

-- what was read of the rows that are shown was read of meta
pub same_meta : (db : Trees) (rows : List Row) (meta : Option Meta) → ShowMeta db rows → IfSome meta (λ m. map meta_of rows ≡ m ∷ [])
    → IfNone meta (AllByRecursion (IsBlob 2) rows → (version : Version) → TellNoSite version (map meta_of rows)) → IsMetaOf (metas_in db) meta
same_meta db rows (Some m) shown some none = one_permutation m (metas_in db) (IsPermutation-sym _ _ (subst (IsPermutation (metas_in db)) some shown.metas))
same_meta db rows None shown some none = λ version site size ours.
    none shown.blobs version site size
    (one_permutation (meta_of_version version site) (map meta_of rows) (subst (λ l.
    IsPermutation l (map meta_of rows)) ours shown.metas))

-- a list of one row
pub only_row : (rows : List Row) (row : Row) → 1 ≤ length rows → length rows < 2 → row ≡ get_or rows 0 row → rows ≡ row ∷ []
only_row [] row low high is = absurd (omega (arith, low))
only_row (r ∷ []) row low high is = ap (λ x. x ∷ []) (sym is)
only_row (r ∷ s ∷ rows) row low high is = absurd (omega (arith, high))

-- what is read of the one row is read of the rows
pub none_alone : (rows : List Row) (row : Row) (meta : Option Meta) → rows ≡ row ∷ []
    → IfNone meta (IsBlob 2 row → (version : Version) → TellNoSite version (meta_of row ∷ []))
    → IfNone meta (AllByRecursion (IsBlob 2) rows → (version : Version) → TellNoSite version (map meta_of rows))
none_alone rows row (Some m) is none = tt
none_alone rows row None is none = subst (λ l. AllByRecursion (IsBlob 2) l → (version : Version)
    → TellNoSite version (map meta_of l)) (sym is) (λ blobs. none blobs.0)

-- a row of another version or of no site tells no site
pub no_site : (version : Version) (metas : List Meta) (meta : Option Meta) → IsMetaOf metas meta
    → ((site : List ℕ) → meta ≢ Some (meta_of_version version site)) → TellNoSite version metas
no_site version metas (Some m) is never = λ site size ours. never site (cc)
no_site version metas None none never = none version
