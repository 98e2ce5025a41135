-- The body of each refusal tells its number.
use Rattle.std.proofs.Common.{◌≡◌, ◌⊎◌, ◌++◌, ◌∷◌, [], ℕ, List, append_assoc, inl, inr, refl, sym, ap, ◌∙◌, codes, decimal}
use Rattle.office_commands.specs.declared.refusal.Refusal.{Refusal}
use Rattle.office_commands.specs.declared.refusal.Refusal.TheVariants.{ImportConflict}
use Rattle.office_commands.specs.Prelude.{refusal_body, refusal_number, refusal_row, told_before, told_behind, TellsNumber}
-- passed on, so that a row can name it in its attribute: the text of a number that stands there computes
pub use Rattle.std.specs.Fmt.{digits}

-- a text that begins with a comma or with a closing brace
abbrev Ends : List ℕ → Type 0
Ends text = (next : ℕ) × (rest : List ℕ) × (text ≡ next ∷ rest) × ((next ≡ 44) ⊎ (next ≡ 125))

ends : (r : Refusal) → Ends (told_behind r ++ codes "}")
ends (ImportConflict serial) = (44, _, refl, inl refl)
ends _ = (125, _, refl, inr refl)

-- a body with its first part joined, up to the comma in front of `no`
joined : (name before rest : List ℕ) → codes "{\"error\":\"" ++ (name ++ (codes "\"" ++ (before ++ 44 ∷ rest)))
    ≡ (codes "{\"error\":\"" ++ (name ++ (codes "\"" ++ (before ++ 44 ∷ [])))) ++ rest
joined name before rest =
    sym (ap (λ text. codes "{\"error\":\"" ++ text)
    (append_assoc name (codes "\"" ++ (before ++ 44 ∷ [])) rest
    ∙ ap (λ text. name ++ (codes "\"" ++ text)) (append_assoc before (44 ∷ []) rest)))

pub number_told : (r : Refusal) → TellsNumber (refusal_body r) (refusal_number r)
number_told r =
    let front = codes "{\"error\":\"" ++ ((refusal_row r).name ++ (codes "\"" ++ (told_before r ++ 44 ∷ []))) in
    let behind = ends r in
    record {
      front = front;
      next = behind.0;
      rest = behind.1;
      told = joined (refusal_row r).name (told_before r) _
          ∙ ap (λ text. front ++ (codes "\"no\":" ++ (decimal (refusal_number r) ++ text))) behind.2;
      ends = behind.3;
    }
