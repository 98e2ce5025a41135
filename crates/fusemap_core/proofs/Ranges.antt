-- The ranges of the numbers that a document gives.
use Rattle.std.proofs.Common.{◌≡◌, ◌≤◌, ◌&&◌, ◌∷◌, if◌then◌else◌}
use Rattle.text_core.proofs.Kit.{ℕ, suc, ℤ, pos, negsuc, List, [], length, Option, Some, None, All, option_map, option_and_then, refl, ap, ◌∙◌, arith, nat_le}
use Rattle.text_core.proofs.Kit.{codes, false, and_parts, leb-true, cond_some, option_and_then_some, All-cons}
use Rattle.std.specs.Option.{option_map_or}
use Rattle.toml.specs.Data.{Data, get, as_bool, as_integer}
use Rattle.members.specs.Prelude.{if_there, integer_within, items_in, name_in, whole_within}
use Rattle.text_core.specs.Prelude.{◌>>=◌, all_of, list_of_length}
use Rattle.fusemap_core.specs.declared.field.Field.{Field}
use Rattle.fusemap_core.specs.Prelude.{Map, IsInRange, largest_integer, words_in, field_in, map_of_document}

-- a number in a range
in_bounds : (least greatest n found : ℕ) → (if nat_le least n && nat_le n greatest then Some n else None) ≡ Some found → (least ≤ found) × (found ≤ greatest)
in_bounds least greatest n found e =
    let chosen = cond_some (nat_le least n && nat_le n greatest) n found e in
    let parts = and_parts (nat_le least n) (nat_le n greatest) chosen.0 in
    let low = leb-true least n parts.0 in
    let high = leb-true n greatest parts.1 in
    (rw (← chosen.1) low, rw (← chosen.1) high)

within_bounds : (least greatest : ℕ) (z : ℤ) (n : ℕ) → integer_within least greatest z ≡ Some n → (least ≤ n) × (n ≤ greatest)
within_bounds least greatest (pos m) n e = in_bounds least greatest m n e
within_bounds least greatest (negsuc m) n e = cc

-- a member that is a whole number lies in its range
whole_member_bounds : (name : List ℕ) (least greatest : ℕ) (d : Data) (n : ℕ) → (get name d >>= whole_within least greatest) ≡ Some n
    → (least ≤ n) × (n ≤ greatest)
whole_member_bounds name least greatest d n e =
    option_and_then_some (whole_within least greatest) (get name d) n e
    (λ found there whole.
    option_and_then_some (integer_within least greatest) (as_integer found) n whole
    (λ z is inside. within_bounds least greatest z n inside))

-- what is read of a first element and of the others
parts_of : {B : Type 0} (first : Option B) (others : Option (List B)) (all : List B) → option_and_then (λ y. option_map (λ ys. y ∷ ys) others) first ≡ Some all
    → (y : B) × (ys : List B) × (first ≡ Some y) × (others ≡ Some ys) × (y ∷ ys ≡ all)
parts_of None others all e = cc
parts_of (Some y) None all e = cc
parts_of (Some y) (Some ys) all e = (y, ys, refl, refl, cc)

-- as many are read as there are
length-all_of : {A B : Type 0} (f : A → Option B) (xs : List A) (ys : List B) → all_of f xs ≡ Some ys → length xs ≡ length ys
length-all_of f [] ys e = let same : [] ≡ ys = cc in ap length same
length-all_of f (x ∷ xs) ys e =
    let parts = parts_of (f x) (all_of f xs) ys e in
    ap suc (length-all_of f xs parts.1 parts.3) ∙ ap length parts.4

All-all_of : {A B : Type 0} (f : A → Option B) (P : B → Type 0) → ((x : A) (y : B) → f x ≡ Some y → P y) → (xs : List A) (ys : List B) → all_of f xs ≡ Some ys
    → All P ys
All-all_of f P each [] ys e = let same : [] ≡ ys = cc in rw (← same) (λ k d low. absurd (omega (arith, low)))
All-all_of f P each (x ∷ xs) ys e =
    let parts = parts_of (f x) (all_of f xs) ys e in
    rw (← parts.4) (All-cons P parts.0 parts.1 (each x parts.0 parts.2) (All-all_of f P each xs parts.1 parts.3))

-- a list of so many items
length_bounds : (least greatest : ℕ) (ds items : List Data) → list_of_length least greatest ds ≡ Some items → (least ≤ length items) × (length items ≤ greatest)
length_bounds least greatest ds items e =
    let chosen = cond_some (nat_le least (length ds) && nat_le (length ds) greatest) ds items e in
    let parts = and_parts (nat_le least (length ds)) (nat_le (length ds) greatest) chosen.0 in
    let low = leb-true least (length ds) parts.0 in
    let high = leb-true (length ds) greatest parts.1 in
    (rw (← chosen.1) low, rw (← chosen.1) high)

list_member_bounds : (name : List ℕ) (least greatest : ℕ) (d : Data) (items : List Data)
    → (get name d >>= items_in >>= list_of_length least greatest) ≡ Some items → (least ≤ length items) × (length items ≤ greatest)
list_member_bounds name least greatest d items e =
    option_and_then_some (list_of_length least greatest) (get name d >>= items_in) items e (λ ds there. length_bounds least greatest ds items)

-- a field has at least one bit
count_of_field : (d : Data) (f : Field) → field_in d ≡ Some f → 1 ≤ f.count
unfolding field_in
count_of_field d f e =
    option_and_then_some _ (get (codes "name") d >>= name_in) f e (λ name is_name e1.
    option_and_then_some _ (get (codes "block") d >>= whole_within 0 largest_integer) f e1 (λ block is_block e2.
    option_and_then_some _ (get (codes "bit") d >>= whole_within 0 largest_integer) f e2 (λ bit is_bit e3.
    option_and_then_some _ (get (codes "count") d >>= whole_within 1 largest_integer) f e3 (λ count is_count e4.
    option_and_then_some _ (if_there (whole_within 0 largest_integer) (get (codes "write") d)) f e4 (λ write is_write e5.
    option_and_then_some _ (if_there (whole_within 0 largest_integer) (get (codes "read") d)) f e5 (λ read is_read e6.
    option_and_then_some _ (option_map_or as_bool (get (codes "key") d) (Some false)) f e6 (λ key is_key e7.
    let same : ◌≡◌ {A = Field} (record { name = name; block = block; bit = bit; count = count; write = write; read = read; key = key }) f = cc in
    rw (← same) (whole_member_bounds (codes "count") 1 largest_integer d count is_count).0)))))))

-- the numbers of a map that a document gives are in range
pub IsInRange-from_map_of : (d : Data) (m : Map) → map_of_document d ≡ Some m → IsInRange m
unfolding map_of_document
IsInRange-from_map_of d m e =
    option_and_then_some _ (get (codes "name") d >>= name_in) m e (λ name is_name e1.
    option_and_then_some _ (get (codes "block") d >>= items_in >>= list_of_length 1 4) m e1 (λ block_items is_blocks e2.
    option_and_then_some _ (all_of words_in block_items) m e2 (λ blocks are_blocks e3.
    option_and_then_some _ (get (codes "field") d >>= items_in >>= list_of_length 1 128) m e3 (λ field_items is_fields e4.
    option_and_then_some _ (all_of field_in field_items) m e4 (λ fields are_fields e5.
    option_and_then_some _ (get (codes "wr") d >>= name_in) m e5 (λ wr is_wr e6.
    option_and_then_some _ (get (codes "rd") d >>= name_in) m e6 (λ rd is_rd e7.
    option_and_then_some _ (if_there name_in (get (codes "coding") d)) m e7 (λ coding is_coding e8.
    let same : ◌≡◌ {A = Map} (record { name = name; blocks = blocks; fields = fields; wr = wr; rd = rd; coding = coding }) m = cc in
    let block_count = length-all_of words_in block_items blocks are_blocks in
    let field_count = length-all_of field_in field_items fields are_fields in
    let block_bounds = list_member_bounds (codes "block") 1 4 d block_items is_blocks in
    let field_bounds = list_member_bounds (codes "field") 1 128 d field_items is_fields in
    rw (← same)
    (record {
      least_blocks = rw (← block_count) block_bounds.0;
      most_blocks = rw (← block_count) block_bounds.1;
      words = All-all_of words_in (λ words. (1 ≤ words) × (words ≤ 8)) (whole_member_bounds (codes "words") 1 8) block_items blocks are_blocks;
      least_fields = rw (← field_count) field_bounds.0;
      most_fields = rw (← field_count) field_bounds.1;
      counts = All-all_of field_in (λ f. 1 ≤ f.count) count_of_field field_items fields are_fields;
    })))))))))
