-- What a query answers whose matches are those of some rows, one for each, as of one table.
use Rattle.std.proofs.Common.{◌≡◌, ℕ, List, [], ◌∷◌, ◌++◌, map, Bool, true, false, cond, refl, ap, subst, ◌∙◌, IsSorted, if◌then◌else◌, filter, flat_map}
use Rattle.std.proofs.Common.{IsPermutation}
use Rattle.sqlite_keyed.proofs.ListLemmas.{map-map}
use Rattle.office_sql.proofs.Kit.{Key, Collation, Row, Trees, Term, Env, eval_all, Join, inner, end, IsAnswer, Output, output, output_cmp, page, matches}
use Rattle.office_sql.specs.Prelude.{over, over_by, scan, env, passes, passing}
use Rattle.office_sql.proofs.Lists.{unmapped}

-- the rows that are kept, in the order of the answer, each with its environment
pub record Listed (shown : List Term) (keys : List (Term × Key)) (envs : Row → Env) (passed rows : List Row) : Type 0 where
  pub kept : List Row
  pub same : IsPermutation passed kept
  pub sorted : IsSorted (output_cmp (over end [] shown keys)) (map (λ r. output (over end [] shown keys) (envs r)) kept)
  pub shows : rows ≡ map (λ r. eval_all shown (envs r)) kept

-- where the matches are those of some rows, one for each
pub listed : (by : List Collation) (from : Join) (tests shown : List Term) (keys : List (Term
    × Key)) (db : Trees) (params : Row) (envs : Row → Env) (passed rows : List Row)
    → matches db tests from (params ∷ []) ≡ map envs passed → IsAnswer (over_by by from tests shown keys) db params rows → Listed shown keys envs passed rows
listed by from tests shown keys db params envs passed rows are a =
    let q = over_by by from tests shown keys in
    let staged : a.staged ≡ map envs passed = a.grouped ∙ are in
    let kept : a.kept ≡ map (λ r. output q (envs r)) passed = a.distinct ∙ ap (map (output q)) staged ∙ map-map (output q) envs _ in
    let it = unmapped (λ r. output q (envs r)) passed a.ordered (subst (λ k. IsPermutation k a.ordered) kept a.same) in
    record {
      kept = it.0;
      same = it.1;
      sorted = subst (IsSorted (output_cmp q)) it.2 a.sorted;
      shows = a.shown ∙ ap (λ os. page q params (map (λ (o : Output). o.1) os)) it.2 ∙ map-map (λ (o : Output). o.1) (λ r. output q (envs r)) it.0;
    }

pub cut : (f : Row → Env) (p : Row → Bool) (rows : List Row) → flat_map (λ r. if p r then f r ∷ [] else []) rows ≡ map f (filter p rows)
cut f p [] = refl
cut f p (r ∷ rows) =
    elim (p r) as (λ b. cond b (f r ∷ []) [] ++ flat_map (λ x. cond (p x) (f x ∷ []) []) rows ≡ map f (cond b (r ∷ filter p rows) (filter p rows)))
    [ true ↦ ap (λ es. f r ∷ es) (cut f p rows) | false ↦ cut f p rows ]

-- the rows of one table that pass
abbrev pub Scanned : List Term → List Term → List (Term × Key) → Row → List Row → List Row → Type 0
Scanned tests shown keys params all rows = Listed shown keys (env params) (passing tests params all) rows

-- whatever the collations, which only a DISTINCT looks at
pub scanned : (db : Trees) (params : Row) (tree : ℕ) (tests shown : List Term) (keys : List (Term × Key)) (collations : List Collation) (rows : List Row)
    → IsAnswer (record (scan tree tests shown keys) { collations = collations }) db params rows → Scanned tests shown keys params (db tree) rows
scanned db params tree tests shown keys collations rows a =
    listed collations (inner tree end) tests shown keys db params (env params) _ rows (cut (env params) (passes tests params) (db tree)) a
