-- What is kept under names: one is put, or taken out.
use Rattle.std.proofs.Common.{◌≡◌, BTreeMap}
use Rattle.text_core.proofs.Kit.{◌∙◌, List, ℕ, false, cond, Option, Some, bytes_eq, bytes_eq-Decides, cases_Bool, inl, inr, refl, sym, get, is_at}
use Rattle.text_core.proofs.Kit.{texts_ties, subst}
use Rattle.text_core.specs.declared.name.Name.{Name}
use Rattle.office_tables.specs.Prelude.{text_cmp}
use Rattle.office_tables.proofs.Places.{same_both_ways}

pub at_text : (a o : List ℕ) → is_at (text_cmp a) o ≡ bytes_eq o a
at_text a o = sym (texts_ties a o) ∙ same_both_ways a o

module _ {V : Type 0} where
  -- what is kept under each name fits it
  abbrev pub AllFit : (List ℕ → V → Type 0) → BTreeMap Name V → Type 0
  AllFit Fits c = (name : List ℕ) (v : V) → get text_cmp c name ≡ Some v → Fits name v

  -- under one name it is put or taken out, and what fits the others fits them still
  pub fit_put : (Fits After : List ℕ → V → Type 0) (name : List ℕ) (put : Option V) (c n : BTreeMap Name V)
      → ((other : List ℕ) → bytes_eq other name ≡ false → (v : V) → Fits other v → After other v) → AllFit Fits c
      → ((v : V) → put ≡ Some v → After name v)
      → ((q : List ℕ) → get text_cmp n q ≡ cond (is_at (text_cmp name) q) put (get text_cmp c q)) → AllFit After n
  fit_put Fits After name put c n stay fit own writes other v is =
      elim (cases_Bool (bytes_eq other name)) [
        | inl same ↦ subst (λ k. After k v) (sym ((bytes_eq-Decides other name).0 same))
            (own v (sym (writes other ∙ rw (at_text name other, same) refl) ∙ is))
        | inr apart ↦ stay other apart v (fit other v (sym (writes other ∙ rw (at_text name other, apart) refl) ∙ is))
      ]
