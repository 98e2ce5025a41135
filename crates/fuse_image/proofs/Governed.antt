-- The positions of fields that pass a test, one field after another, and where the locks of a map lie.
use Rattle.std.proofs.Common.{◌≡◌, ◌+◌, ◌<◌, ◌&&◌, ◌||◌, get_or}
use Rattle.text_core.proofs.Kit.{ℕ, Bool, true, false, List, [], length, take, Option, Some, None, IfSome, refl, sym, ap, ap₂, ◌∙◌, slice_get, list_any}
use Rattle.text_core.proofs.Kit.{list_any_more, and-true, or-false, and_right, slice_get_read, and-or_distrib_left}
use Rattle.std.specs.FinSet as set
use Rattle.fusemap_core.specs.declared.field.Field.{Field}
use Rattle.fusemap_core.specs.declared.pos.Pos.{Pos}
use Rattle.fusemap_core.specs.Prelude.{Map, IsMap, IsSmallPosition, holds, id_at}
use Rattle.fusemap_core.proofs.Bounds.{write_lock_is_small, read_lock_is_small}
use Rattle.fuse_image.specs.declared.locks.Lock.{Lock}
use Rattle.fuse_image.specs.declared.locks.Lock.TheVariants.{Write, Read}
use Rattle.fuse_image.specs.Prelude.{IsPlace, pos_cmp, pos_total, pos_exact, is_place, contains-places_where, run, lock_of, positions_in}

-- no field has no position
pub positions_in-none : (test : Field → Bool) → set.empty ≡ positions_in test []
positions_in-none test = set.same_set pos_total pos_exact set.empty (positions_in test []) (λ p.
    set.contains-empty pos_cmp p ∙ sym (contains-places_where (λ q. list_any (λ f. holds f q && test f) []) p ∙ and_right (is_place p) false refl))

-- one field more, which passes or fails
pub positions_in-passes : (test : Field → Bool) (fields : List Field) (i : ℕ) (f : Field) → i < length fields → f ≡ get_or fields i f → test f ≡ true
    → set.union (positions_in test (take i fields)) (run (record { block = f.block; bit = f.bit }) f.count) ≡ positions_in test (take (i + 1) fields)
positions_in-passes test fields i f low e passes = set.same_set pos_total pos_exact _ (positions_in test (take (i + 1) fields)) (λ p.
    let at : Field → Bool = λ g. holds g p && test g in
    set.contains-union pos_total (positions_in test (take i fields)) (run (record { block = f.block; bit = f.bit }) f.count) p
    ∙ (ap₂ (λ (a b : Bool). a || b)
    (contains-places_where (λ q. list_any (λ g. holds g q && test g) (take i fields)) p)
    (contains-places_where (λ q. holds f q) p ∙ ap (λ (a : Bool). is_place p && a)
    (sym (and-true (holds f p)) ∙ (ap (λ (a : Bool). holds f p && a) (sym passes) ∙ ap at e)))
    ∙ (sym (and-or_distrib_left (is_place p) (list_any at (take i fields)) (at (get_or fields i f)))
    ∙ (ap (λ (a : Bool). is_place p && a) (sym (list_any_more at fields i f low))
    ∙ sym (contains-places_where (λ q. list_any (λ g. holds g q && test g) (take (i + 1) fields)) p)))))

pub positions_in-fails : (test : Field → Bool) (fields : List Field) (i : ℕ) (f : Field) → i < length fields → f ≡ get_or fields i f → test f ≡ false
    → positions_in test (take i fields) ≡ positions_in test (take (i + 1) fields)
positions_in-fails test fields i f low e fails =
    set.same_set pos_total pos_exact (positions_in test (take i fields)) (positions_in test (take (i + 1) fields)) (λ p.
    let at : Field → Bool = λ g. holds g p && test g in
    contains-places_where (λ q. list_any (λ g. holds g q && test g) (take i fields)) p
    ∙ (ap (λ (a : Bool). is_place p && a)
    (sym (or-false (list_any at (take i fields))) ∙ (ap (λ (a : Bool). list_any at (take i fields) || a) (sym (and_right (holds f p) (test f) fails) ∙ ap at e)
    ∙ sym (list_any_more at fields i f low)))
    ∙ sym (contains-places_where (λ q. list_any (λ g. holds g q && test g) (take (i + 1) fields)) p)))

-- a lock of a field of a map is one of the 1,024 positions
place_from_small : (o : Option Pos) → IfSome o IsSmallPosition → IfSome o IsPlace
place_from_small None small = tt
place_from_small (Some p) small = (small.block, small.bit)

slice_get-at : (fields : List Field) (i : ℕ) (f : Field) → i < length fields → f ≡ get_or fields i f → slice_get fields i ≡ Some f
slice_get-at fields i f low e = slice_get_read fields (length fields) i f refl low e

lock_is_place : (m : Map) → IsMap m → (lock : Lock) (i : ℕ) (f : Field) → i < length m.fields → f ≡ get_or m.fields i f → IfSome (lock_of m lock f) IsPlace
lock_is_place m is Write i f low e = place_from_small _ (write_lock_is_small m is (id_at i) f (slice_get-at m.fields i f low e))
lock_is_place m is Read i f low e = place_from_small _ (read_lock_is_small m is (id_at i) f (slice_get-at m.fields i f low e))

pub lock_in_fields : (m : Map) → IsMap m → (fields : List Field) → fields ≡ m.fields → (lock : Lock) (i : ℕ) (f : Field) → i < length fields
    → f ≡ get_or fields i f → IfSome (lock_of m lock f) IsPlace
lock_in_fields m is fields same lock i f low e =
    let low_there : i < length m.fields = rw (← same) low in
    lock_is_place m is lock i f low_there (e ∙ ap (λ (fs : List Field). get_or fs i f) same)
