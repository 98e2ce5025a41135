-- Sets of positions by tests, and what wishes ask for, one wish after another.
use Rattle.std.proofs.Common.{◌≡◌, ◌+◌, ◌<◌, ◌&&◌, ◌||◌, get_or, ◌==◌}
use Rattle.text_core.proofs.Kit.{ℕ, Bool, true, false, not, List, [], length, take, refl, sym, ap, ap₂, ◌∙◌, arith, nat_le, nat_lt, Option, Some, None}
use Rattle.text_core.proofs.Kit.{list_any, option_map_or, and_right, eqb-true, eq-eqb, lt-ltb, le-leb, leb-true, ltb-true, and_parts, and_from, list_any_more}
use Rattle.text_core.proofs.Kit.{one_truth}
use Rattle.std.specs.FinSet as set
use Rattle.fuse_plan.proofs.Types.{Field, Pos, Wish}
use Rattle.fusemap_core.specs.Prelude.{is_lock}
use Rattle.fuse_image.specs.Prelude.{pos_cmp, pos_total, pos_exact, is_place, places_where, contains-places_where, run}
use Rattle.fuse_image.proofs.Sets.{union-empty}
use Rattle.fuse_plan.specs.Prelude.{asked_by}

-- sets by tests that agree are the same
pub same_test : (f g : Pos → Bool) → ((p : Pos) → f p ≡ g p) → places_where f ≡ places_where g
same_test f g agree i = places_where (λ p. agree p i)

-- the set of a test that nothing passes
pub none_passes : (f : Pos → Bool) → ((p : Pos) → f p ≡ false) → set.empty ≡ places_where f
none_passes f none = set.same_set pos_total pos_exact set.empty (places_where f) (λ p.
    set.contains-empty pos_cmp p ∙ sym (contains-places_where f p ∙ and_right (is_place p) (f p) (none p)))

or_within : (x a b : Bool) → ((x && a) || (x && b)) ≡ (x && (a || b))
or_within true a b = refl
or_within false a b = refl

and_not_within : (x a b : Bool) → ((x && a) && not (x && b)) ≡ (x && (a && not b))
and_not_within true a b = refl
and_not_within false a b = refl

pub union-places_where : (f g : Pos → Bool) → set.union (places_where f) (places_where g) ≡ places_where (λ p. f p || g p)
union-places_where f g = set.same_set pos_total pos_exact _ (places_where (λ p. f p || g p)) (λ p.
    set.contains-union pos_total (places_where f) (places_where g) p
    ∙ (ap₂ (λ (a b : Bool). a || b) (contains-places_where f p) (contains-places_where g p)
    ∙ (or_within (is_place p) (f p) (g p) ∙ sym (contains-places_where (λ q. f q || g q) p))))

pub difference-of_tests : (f g : Pos → Bool) → set.difference (places_where f) (places_where g) ≡ places_where (λ p. f p && not (g p))
difference-of_tests f g = set.same_set pos_total pos_exact _ (places_where (λ p. f p && not (g p))) (λ p.
    set.contains-difference pos_total (places_where f) (places_where g) p
    ∙ (ap₂ (λ (a b : Bool). a && not b) (contains-places_where f p) (contains-places_where g p)
    ∙ (and_not_within (is_place p) (f p) (g p) ∙ sym (contains-places_where (λ q. f q && not (g q)) p))))

and_within : (x a b : Bool) → ((x && a) && (x && b)) ≡ (x && (a && b))
and_within true a b = refl
and_within false a b = refl

pub intersection-of_tests : (f g : Pos → Bool) → set.intersection (places_where f) (places_where g) ≡ places_where (λ p. f p && g p)
intersection-of_tests f g = set.same_set pos_total pos_exact _ (places_where (λ p. f p && g p)) (λ p.
    set.contains-intersection pos_total (places_where f) (places_where g) p
    ∙ (ap₂ (λ (a b : Bool). a && b) (contains-places_where f p) (contains-places_where g p)
    ∙ (and_within (is_place p) (f p) (g p) ∙ sym (contains-places_where (λ q. f q && g q) p))))

-- no wish asks for nothing, and one wish more asks for what it asks for
pub asked_by-none : (asks : Pos → Wish → Bool) → set.empty ≡ asked_by asks []
asked_by-none asks = none_passes (λ p. list_any (asks p) []) (λ p. refl)

pub asked_by-more : (asks : Pos → Wish → Bool) (ws : List Wish) (i : ℕ) (w : Wish) → i < length ws → w ≡ get_or ws i w
    → set.union (asked_by asks (take i ws)) (places_where (λ p. asks p w)) ≡ asked_by asks (take (i + 1) ws)
asked_by-more asks ws i w low e =
    union-places_where (λ p. list_any (asks p) (take i ws)) (λ p. asks p w)
    ∙ same_test (λ p. list_any (asks p) (take i ws) || asks p w) (λ p. list_any (asks p) (take (i + 1) ws)) (λ p.
    ap (λ (x : Wish). list_any (asks p) (take i ws) || asks p x) e ∙ sym (list_any_more (asks p) ws i w low))

-- a field of which nothing is asked
pub never : (o : Option Field) → option_map_or (λ f. false) o false ≡ false
never None = refl
never (Some f) = refl

pub in_no_field : (test : Field → Pos → Bool) (o : Option Field) → o ≡ None → set.empty ≡ places_where (λ p. option_map_or (λ g. test g p) o false)
in_no_field test o e = none_passes (λ p. option_map_or (λ g. test g p) o false) (λ p. ap (λ (x : Option Field). option_map_or (λ g. test g p) x false) e)

-- a run of one position
one_at : (a b : ℕ) → (nat_le a b && nat_lt b (a + 1)) ≡ (a == b)
one_at a b = one_truth (nat_le a b && nat_lt b (a + 1)) (a == b)
    (λ h. let parts = and_parts _ _ h in let low = leb-true a b parts.0 in let high = ltb-true b (a + 1) parts.1 in eq-eqb a b (omega (arith, low, high)))
    (λ h. let e = eqb-true a b h in and_from _ _ (le-leb a b (omega (arith, e))) (lt-ltb b (a + 1) (omega (arith, e))))

pub run-one : (q : Pos) → run q 1 ≡ places_where (is_lock (Some q))
run-one q = same_test _ (is_lock (Some q)) (λ p. ap (λ (b : Bool). q.block == p.block && b) (one_at q.bit p.bit))

pub only_one : (q : Pos) → set.union set.empty (run q 1) ≡ places_where (is_lock (Some q))
only_one q = union-empty (run q 1) ∙ run-one q
