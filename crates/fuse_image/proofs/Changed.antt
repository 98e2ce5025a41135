-- Words that a loop changes, one after another.
use Rattle.std.proofs.Common.{◌≡◌, ◌+◌, ◌<◌, ◌≤◌, get_or, set as list_set}
use Rattle.text_core.proofs.Kit.{ℕ, List, length, refl, sym, ap, ◌∙◌, inl, inr, arith, cases_eq, get_or-set_at, get_or-set_other, length-set}

-- the first n words are those of `own` changed by f, a function of the index and of the word, and the others are still those of `own`
pub record AreChanged (f : ℕ → ℕ → ℕ) (own words : List ℕ) (n : ℕ) : Type 0 where
  pub count : length words ≡ length own
  pub done : (k : ℕ) → k < n → get_or words k 0 ≡ f k (get_or own k 0)
  pub left : (k : ℕ) → n ≤ k → get_or words k 0 ≡ get_or own k 0

-- no word is changed yet, and one word more
pub AreChanged-none : (f : ℕ → ℕ → ℕ) (own : List ℕ) (n : ℕ) → ((k : ℕ) → k < n → get_or own k 0 ≡ f k (get_or own k 0)) → AreChanged f own own n
AreChanged-none f own n same = record { count = refl; done = same; left = λ k _. refl }

pub AreChanged-more : (f : ℕ → ℕ → ℕ) (own words : List ℕ) (n index x : ℕ) → AreChanged f own words n → index ≡ n → n < length words
    → x ≡ f n (get_or words n 0) → AreChanged f own (list_set words index x) (n + 1)
AreChanged-more f own words n index x are is low changed = record {
  count = length-set words index x ∙ are.count;
  done = λ k below. elim (cases_eq k index) as (λ _. get_or (list_set words index x) k 0 ≡ f k (get_or own k 0)) [
    | inl same ↦
        get_or-set_at words index k x 0 same (omega (arith, is, low))
        ∙ (changed ∙ (ap (f n) (are.left n (omega arith)) ∙ ap (λ (j : ℕ). f j (get_or own j 0)) (sym (same ∙ is))))
    | inr other ↦ get_or-set_other words index k x 0 other ∙ are.done k (omega (arith, below, other, is))
  ];
  left = λ k above. get_or-set_other words index k x 0 (λ same. omega (arith, above, same, is)) ∙ are.left k (omega (arith, above));
}
