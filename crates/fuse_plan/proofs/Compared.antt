-- What is lost and stray, by operations on sets.
use Rattle.std.proofs.Common.{◌≡◌, Bool, true, false, ◌&&◌, ◌||◌, not, refl, sym, ap, ap₂, ◌∙◌, true≢false}
use Rattle.std.specs.FinSet as set
use Rattle.fusemap_core.specs.declared.pos.Pos.{Pos}
use Rattle.fusemap_core.specs.Prelude.{Map}
use Rattle.fuse_image.specs.Prelude.{Positions, pos_total, pos_exact, is_place, places_where, contains-places_where, is_hidden}
use Rattle.fuse_plan.specs.Prelude.{lost, stray}

-- what passes of a set, by position
pub in_retain : (s : Positions) (test : Pos → Bool) (p : Pos) → set.contains (set.retain s test) p ≡ (set.contains s p && test p)
in_retain s test p = set.contains-retain s test p (λ x e. ap test (sym (pos_exact p x e)))

-- the set has positions of the four blocks alone
abbrev pub IsPlaced : Positions → Type 0
IsPlaced s = (p : Pos) → set.contains s p ≡ true → is_place p ≡ true

-- a burnt position x, whether it is a place
lost_at : (b x h o : Bool) → (b ≡ true → x ≡ true) → ((b && not (x && h)) && not o) ≡ (b && (not h && not o))
lost_at false x h o f = refl
lost_at true true h o f = refl
lost_at true false h o f = absurd (true≢false (sym (f refl)))

stray_at : (o n x h : Bool) → (o ≡ true → x ≡ true) → ((o && not n) || (o && (x && h))) ≡ (o && (not n || h))
stray_at false n x h f = refl
stray_at true n true h f = refl
stray_at true n false h f = absurd (true≢false (sym (f refl)))

pub lost_is : (m : Map) (L B ones H : Positions) → IsPlaced B → H ≡ places_where (is_hidden m L) → set.difference (set.difference B H) ones ≡ lost m L B ones
unfolding lost
lost_is m L B ones H k e = set.same_set pos_total pos_exact (set.difference (set.difference B H) ones) (lost m L B ones) (λ p.
    set.contains-difference pos_total (set.difference B H) ones p
    ∙ ap (λ (x : Bool). x && not (set.contains ones p)) (set.contains-difference pos_total B H p
    ∙ ap (λ (x : Bool). set.contains B p && not x) (ap (λ (s : Positions). set.contains s p) e ∙ contains-places_where (is_hidden m L) p))
    ∙ lost_at (set.contains B p) (is_place p) (is_hidden m L p) (set.contains ones p) (k p)
    ∙ sym (in_retain B (λ p. not (is_hidden m L p) && not (set.contains ones p)) p))

pub stray_is : (m : Map) (L B P ones H : Positions) → IsPlaced ones → H ≡ places_where (is_hidden m L)
    → set.union (set.difference ones (set.union B P)) (set.intersection ones H) ≡ stray m L B P ones
unfolding stray
stray_is m L B P ones H k e =
    set.same_set pos_total pos_exact (set.union (set.difference ones (set.union B P)) (set.intersection ones H)) (stray m L B P ones) (λ p.
    set.contains-union pos_total (set.difference ones (set.union B P)) (set.intersection ones H) p
    ∙ ap₂ (λ (x y : Bool). x || y)
    (set.contains-difference pos_total ones (set.union B P) p)
    (set.contains-intersection pos_total ones H p ∙ ap (λ (x : Bool). set.contains ones p && x)
    (ap (λ (s : Positions). set.contains s p) e ∙ contains-places_where (is_hidden m L) p))
    ∙ stray_at (set.contains ones p) (set.contains (set.union B P) p) (is_place p) (is_hidden m L p) (k p)
    ∙ sym (in_retain ones (λ p. not (set.contains (set.union B P) p) || is_hidden m L p) p))
