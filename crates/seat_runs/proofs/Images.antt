-- What is burnt of a chip or is to be burnt, as read-backs come in.
use Rattle.std.proofs.Common.{◌≡◌, if◌then◌else◌, ◌&&◌, ◌||◌}
use Rattle.text_core.proofs.Kit.{◌∙◌, ℕ, Bool, true, false, List, Option, Some, None}
use Rattle.text_core.proofs.Kit.{refl, sym, ap, IfSome, bytes_eq, is_some, not, not-false, option_or, same_text}
use Rattle.text_core.proofs.Kit.{nat_cmp, nat_lt}
use Rattle.std.specs.FinMap as table
use Rattle.std.specs.FinSet as set
use Rattle.fusemap_core.specs.Prelude.{Map}
use Rattle.fuse_image.specs.declared.image.Image.{Image}
use Rattle.fuse_image.specs.declared.pending.Pending.{Pending}
use Rattle.fuse_image.specs.declared.redaction.ReadBack.{ReadBack}
use Rattle.fuse_image.specs.Keys as keys
use Rattle.fuse_image.specs.Prelude.{AreAmong, AreKeys, IsImageWithin, KeyTable, Positions, get-table_where, is_empty, is_hidden_key, keys_without}
use Rattle.fuse_image.specs.Prelude.{no_pending, pos_cmp, pos_total, some_key}
use Rattle.fuse_plan.specs.declared.verdict.Verdict.{Verdict}
use Rattle.fuse_plan.specs.declared.verdict.Verdict.TheVariants.{Fault}
use Rattle.fuse_plan.specs.declared.verdict.ChipFault.TheVariants as chip
use Rattle.fuse_plan.specs.Prelude.{image_after, is_bad_key, is_no_fault, is_other, lost, short_bits, short_keys}
use Rattle.fuse_plan.specs.Prelude.{stray, verdict_of, with_batch}
use Rattle.fuse_plan.proofs.Law.{test_of_key}
use Rattle.office_tables.specs.declared.rows.Batches.{Batches}
use Rattle.office_tables.specs.declared.rows.Batches.TheVariants.{Both, Second}
use Rattle.office_rules.specs.Prelude.{next_batch, with_rest}

-- what is burnt of a chip, with what is to be burnt
abbrev pub all_of : Image → Pending → Image
all_of a w = with_batch a (set.union w.first w.second) w.keys

-- ---- positions
all_at : (a : Image) (w : Pending) (p : _)
    → set.contains (all_of a w).burnt p ≡ (set.contains a.burnt p || (set.contains w.first p || set.contains w.second p))
all_at a w p =
    set.contains-union pos_total a.burnt (set.union w.first w.second) p
    ∙ ap (λ b. set.contains a.burnt p || b) (set.contains-union pos_total w.first w.second p)

after_at : (a : Image) (r : ReadBack) (p : _)
    → set.contains (image_after a r).burnt p ≡ (set.contains a.burnt p || set.contains r.ones p)
after_at a r p = set.contains-union pos_total a.burnt r.ones p

short_at : (batch ones : Positions) (p : _)
    → set.contains (short_bits batch ones) p ≡ (set.contains batch p && not (set.contains ones p))
unfolding short_bits
short_at batch ones p = set.contains-difference pos_total batch ones p

-- what was there, or in a batch of which what reads 1 is there now
first_fact : (a f s o : Bool) → (a || (f || s)) ≡ true → ((a || o) || ((f && not o) || s)) ≡ true
first_fact true f s o h = refl
first_fact false f s true h = refl
first_fact false true s false h = refl
first_fact false false s false h = h

second_fact : (a s o : Bool) → (a || (false || s)) ≡ true → ((a || o) || (false || (s && not o))) ≡ true
second_fact true s o h = refl
second_fact false s true h = refl
second_fact false true false h = refl
second_fact false false false h = h

-- ---- keys
key_fact : (k q s : Option (List ℕ)) → (k ≡ None → (d other : List ℕ) → q ≡ Some d → s ≡ Some other → other ≡ d)
    → IfSome (option_or k q)
    (λ d. option_or (option_or k s) (if is_some s then None else (if is_some k then None else q)) ≡ Some d)
key_fact (Some x) q s right = refl
key_fact None None s right = tt
key_fact None (Some d) None right = refl
key_fact None (Some d) (Some other) right = ap Some (right refl d other refl refl)

known_fact : (k s : Option (List ℕ)) → IfSome (option_or k None) (λ d. option_or (option_or k s) None ≡ Some d)
known_fact (Some x) s = refl
known_fact None s = tt

-- tables at a block
get_union : (t u : KeyTable) (b : ℕ) → table.get (keys.keys_union t u) b
    ≡ (if nat_lt b 4 then option_or (table.get t b) (table.get u b) else None)
unfolding keys.keys_union
get_union t u b = get-table_where (λ c. option_or (table.get t c) (table.get u c)) b

get_without : (t u : KeyTable) (b : ℕ) → table.get (keys_without t u) b
    ≡ (if nat_lt b 4 then (if is_some (table.get u b) then None else table.get t b) else None)
unfolding keys_without
get_without t u b = get-table_where (λ c. if is_some (table.get u c) then None else table.get t c) b

get_short : (known asked shown : KeyTable) (b : ℕ) → table.get (short_keys known asked shown) b
    ≡ (if nat_lt b 4 then (if is_some (table.get shown b) then None else table.get (keys_without asked known) b) else None)
unfolding short_keys
get_short known asked shown b = get_without (keys_without asked known) shown b

-- no key is shown at a block of the batch but the one that is asked for, where none was known
abbrev IsRight : KeyTable → KeyTable → KeyTable → Type 0
IsRight known asked shown = (b : ℕ) → table.get known b ≡ None → (d other : List ℕ) → table.get asked b ≡ Some d
    → table.get shown b ≡ Some other → other ≡ d

first_keys : (known asked shown : KeyTable) → IsRight known asked shown
    → AreAmong (keys.keys_union known asked)
    (keys.keys_union (keys.keys_union known shown) (short_keys known asked shown))
first_keys known asked shown right b =
    rw (
      get_union known asked b,
      get_union (keys.keys_union known shown) (short_keys known asked shown) b,
      get_union known shown b,
      get_short known asked shown b,
      get_without asked known b,
    )
    (by (nat_lt b 4))
  where
    by : (low : Bool)
        → IfSome (if low then option_or (table.get known b) (table.get asked b) else None)
        (λ d. (if low then option_or (if low then option_or (table.get known b) (table.get shown b) else None)
        (if low then (if is_some (table.get shown b) then None
        else (if low then (if is_some (table.get known b) then None else table.get asked b) else None)) else None)
        else None) ≡ Some d)
    by true = key_fact (table.get known b) (table.get asked b) (table.get shown b) (right b)
    by false = tt

second_keys : (known shown : KeyTable)
    → AreAmong (keys.keys_union known table.empty) (keys.keys_union (keys.keys_union known shown) table.empty)
second_keys known shown b =
    rw (
      get_union known table.empty b,
      get_union (keys.keys_union known shown) table.empty b,
      get_union known shown b,
      table.get-empty {X = List ℕ} nat_cmp b,
    )
    (by (nat_lt b 4))
  where
    by : (low : Bool) → IfSome (if low then option_or (table.get known b) None else None)
        (λ d. (if low then option_or (if low then option_or (table.get known b) (table.get shown b) else None) None else None) ≡ Some d)
    by true = known_fact (table.get known b) (table.get shown b)
    by false = tt

-- more keys are asked for
more_keys : (known asked : KeyTable) → AreAmong (keys.keys_union known table.empty) (keys.keys_union known asked)
more_keys known asked b =
    rw (get_union known table.empty b, get_union known asked b, table.get-empty {X = List ℕ} nat_cmp b)
    (by (nat_lt b 4) (table.get known b))
  where
    by : (low : Bool) (k : Option (List ℕ)) → IfSome (if low then option_or k None else None)
        (λ d. (if low then option_or k (table.get asked b) else None) ≡ Some d)
    by true (Some x) = refl
    by true None = tt
    by false k = tt

-- ---- a read-back without a fault shows no wrong key
no_bad : (c d e : Bool) (rest : Verdict) → is_no_fault (if not c then Fault chip.Lost else if not d then Fault chip.Stray
    else if e then Fault chip.Key else rest) ≡ true → e ≡ false
no_bad false d e rest h = cc
no_bad true false e rest h = cc
no_bad true true true rest h = cc
no_bad true true false rest h = refl

right_at : (hidden : Bool) (k q s : Option (List ℕ)) → (if hidden then is_some s else is_other k q s) ≡ false → k ≡ None
    → (d other : List ℕ) → q ≡ Some d → s ≡ Some other → other ≡ d
right_at true k q s good none d other asked shown = let t : is_some s ≡ true = ap is_some shown in cc (t, good)
right_at false k q s good none d other asked shown =
    let t : is_other k q s ≡ not (bytes_eq d other) = rw (none, asked, shown) refl in
    let same : not (bytes_eq d other) ≡ false = sym t ∙ good in
    sym (same_text d other (not-false (bytes_eq d other) same))

right_keys : (m : Map) (a : Image) (batch : Positions) (asked : KeyTable) (r : ReadBack) → AreKeys m asked
    → is_no_fault (verdict_of m a batch asked r) ≡ true → IsRight a.keys asked r.shown
unfolding is_bad_key
right_keys m a batch asked r keys_of right b none d other is_asked is_shown =
    let after = set.union a.burnt r.ones in
    let e = no_bad (is_empty (lost m after a.burnt r.ones)) (is_empty (stray m after a.burnt batch r.ones))
    (some_key m (is_bad_key m after a.keys asked r.shown)) _ right in
    let good = test_of_key m.fields (is_bad_key m after a.keys asked r.shown) b e (keys_of b (ap is_some is_asked)).1 in
    right_at (is_hidden_key m after b) (table.get a.keys b) (table.get asked b) (table.get r.shown b) good none d other
    is_asked is_shown

-- ---- all that is burnt or to be burnt is so behind a read-back without a fault
module _ (m : Map) (a : Image) (r : ReadBack) (w : Pending) where
  abbrev rest : Batches → Image
  rest b = record {
    burnt = short_bits (next_batch b w).burnt r.ones;
    keys = short_keys a.keys (next_batch b w).keys r.shown;
  }

  pub first_stays : AreKeys m w.keys → is_no_fault (verdict_of m a w.first w.keys r) ≡ true
      → IsImageWithin (all_of a w) (all_of (image_after a r) (with_rest Both (rest Both) w))
  first_stays keys_of right = record {
    burnt = set.contains-is_subset pos_total (all_of a w).burnt _ (λ p there.
        all_at (image_after a r) (with_rest Both (rest Both) w) p
        ∙ (rw (after_at a r p, short_at w.first r.ones p)
        (first_fact (set.contains a.burnt p) (set.contains w.first p) (set.contains w.second p) (set.contains r.ones p)
        (sym (all_at a w p) ∙ there))));
    keys = first_keys a.keys w.keys r.shown (right_keys m a w.first w.keys r keys_of right);
  }

  pub second_stays : (w.first ≡ set.empty) → (w.keys ≡ table.empty)
      → IsImageWithin (all_of a w) (all_of (image_after a r) (with_rest Second (rest Second) w))
  second_stays no_first no_key = record {
    burnt = set.contains-is_subset pos_total (all_of a w).burnt _ (λ p there.
        let none : set.contains w.first p ≡ false = ap (λ s. set.contains s p) no_first ∙ set.contains-empty pos_cmp p in
        let was = sym (all_at a w p) ∙ there in
        all_at (image_after a r) (with_rest Second (rest Second) w) p
        ∙ (rw (after_at a r p, short_at w.second r.ones p, set.contains-empty pos_cmp p)
        (second_fact (set.contains a.burnt p) (set.contains w.second p) (set.contains r.ones p) (rw none at was))));
    keys = rw no_key (second_keys a.keys r.shown);
  }

-- nothing was to be burnt, and something is
pub plan_stays : (a : Image) (w : Pending) → IsImageWithin (all_of a no_pending) (all_of a w)
plan_stays a w = record {
  burnt = set.contains-is_subset pos_total (all_of a no_pending).burnt _ (λ p there.
      let was = sym (all_at a no_pending p) ∙ there in
      all_at a w p ∙ by (set.contains a.burnt p) (set.contains w.first p || set.contains w.second p)
      (rw (set.contains-empty pos_cmp p) at was));
  keys = more_keys a.keys w.keys;
}
  where
    by : (x y : Bool) → (x || (false || false)) ≡ true → (x || y) ≡ true
    by true y h = refl
    by false y h = cc
