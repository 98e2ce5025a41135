-- The maps and the numbers of their texts.
use Rattle.std.proofs.Common.{◌≡◌}
use Rattle.text_core.proofs.Kit.{◌∙◌, ℕ, Bool, true, false, cond, List, Option, Some, None, refl, sym, ap, bytes_eq, find, option_map, BTreeMap, get_by_text}
use Rattle.text_core.proofs.Kit.{is_at, slice_cmp, lookup, update, is_eq, nat_cmp, string_bytes, String, bytes_eq-Decides}
use Rattle.office_tables.specs.declared.rows.MapRow.{MapRow}
use Rattle.office_tables.specs.Prelude.{has_body, has_id, map_cmp, with_row}
use Rattle.memory_keeper.specs.Prelude.{AreFoundByText, without}
use Rattle.memory_keeper.proofs.Alone.{find-placed, find-without, still_alone, alone_without}
use Rattle.office_tables.proofs.Places.{same_both_ways}
use Rattle.memory_keeper.proofs.Keys.{find_map}

-- what a lookup by text finds after the number at a map's text was put there, or taken
abbrev pub WritesAt : {Y : Type 0} → BTreeMap (String Y) ℕ → BTreeMap (String Y) ℕ → List ℕ → Option ℕ → Type 0
WritesAt ids n body w = (text : List ℕ) → get_by_text n text ≡ update bytes_eq (get_by_text ids) body w text

number_of : (b : Bool) (x f : Option MapRow) → option_map (λ (m : MapRow). m.id) (cond b x f)
    ≡ cond b (option_map (λ (m : MapRow). m.id) x) (option_map (λ (m : MapRow). m.id) f)
number_of true x f = refl
number_of false x f = refl

-- a text that has no number is no map's
pub no_map : (f : Option MapRow) → None ≡ option_map (λ (m : MapRow). m.id) f → f ≡ None
no_map None none = refl
no_map (Some m) none = cc

same_text : (rows : List MapRow) (m : MapRow) → find (has_body m.body) rows ≡ None → (text : List ℕ) → has_body text m ≡ true → find (has_body text) rows ≡ None
same_text rows m free text is = rw ((bytes_eq-Decides text m.body).0 is) free

module _ {Y : Type 0} (rows : List MapRow) (ids n : BTreeMap (String Y) ℕ) (found : AreFoundByText rows ids) (m : MapRow) where
  -- a new map is found by its text
  pub found-placed : find (has_id m.id) rows ≡ None → find (has_body m.body) rows ≡ None → WritesAt ids n m.body (Some m.id)
      → AreFoundByText (with_row map_cmp m rows) n
  found-placed free_id free_text writes =
      let free : find (λ y. is_eq (map_cmp m y)) rows ≡ None = find_map m.id rows ∙ free_id in
      record {
        numbers = λ text. writes text
            ∙ (ap (λ b. cond b (Some m.id) (get_by_text ids text)) (same_both_ways m.body text)
            ∙ (ap (λ x. cond (has_body text m) (Some m.id) x) (found.numbers text)
            ∙ (sym (number_of (has_body text m) (Some m) (find (has_body text) rows))
            ∙ sym (ap (option_map (λ (m : MapRow). m.id)) (find-placed (has_body text) map_cmp m rows free (same_text rows m free_text text))))));
        one_text = λ text. still_alone map_cmp (has_body text) m rows free (same_text rows m free_text text) (found.one_text text);
      }

  -- the others are, without a map that is taken out
  pub found-without : (id : ℕ) → find (has_id id) rows ≡ Some m → WritesAt ids n m.body None → AreFoundByText (without (has_id id) rows) n
  found-without id there writes = record {
    numbers = λ text. writes text
        ∙ (ap (λ b. cond b None (get_by_text ids text)) (same_both_ways m.body text)
        ∙ (ap (λ x. cond (has_body text m) None x) (found.numbers text)
        ∙ (sym (number_of (has_body text m) None (find (has_body text) rows))
        ∙ sym (ap (option_map (λ (m : MapRow). m.id)) (find-without (has_body text) (has_id id) m rows there (found.one_text text))))));
    one_text = λ text. alone_without (has_body text) (has_id id) m rows there (found.one_text text);
  }

-- numbers that didn't change find the maps as before
pub found_same : {Y : Type 0} (rows : List MapRow) (ids n : BTreeMap (String Y) ℕ) → AreFoundByText rows ids → n.entries ≡ ids.entries → AreFoundByText rows n
found_same rows ids n found same = record {
  numbers = λ text. ap (λ entries. lookup (is_at (λ key. slice_cmp nat_cmp text (string_bytes key))) entries) same ∙ found.numbers text;
  one_text = found.one_text;
}
