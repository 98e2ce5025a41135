-- The named members, one name after another, and that none of a request's is a float.
use Rattle.std.proofs.Common.{◌≡◌, ◌∷◌}
use Rattle.text_core.proofs.Kit.{ℕ, List, [], false, Option, Some, None, refl, fold, IfSome, codes, map, option_and_then, AllByRecursion}
use Rattle.serde_json.specs.Data.{Data, null, boolean, number, string, array, object, Num, unsigned, negative, float, Members, no_members}
use Rattle.serde_json.specs.Find.{get, as_str, as_number, as_u64}
use Rattle.serde_json.specs.Written.{has_float, items_have_float, members_have_float}
use Rattle.members.specs.Prelude.{number_within, text_or_null, whole_member}
use Rattle.text_core.specs.Prelude.{chip_of_text, digest_of_text, name_of_text, ◌>>=◌}
use Rattle.station_requests.proofs.Types.{NewDevice, NewOrder}
use Rattle.office_commands.specs.Prelude.{items_of}
use Rattle.office_commands.proofs.Floats.{in_put}
use Rattle.station_requests.specs.Prelude.{block_digest, device_members, new_device_of, LacksFloat, with_block_digests, with_found, named_members, map_members}
use Rattle.station_requests.specs.Prelude.{new_order_of, order_members}

found_no_float : (name : List ℕ) (found : Option Data) (ms : Members)
    → IfSome found (λ v. has_float v ≡ false) → members_have_float ms ≡ false
    → members_have_float (with_found name found ms) ≡ false
found_no_float name None ms lacks all = all
found_no_float name (Some v) ms lacks all = in_put name v ms lacks all

pub all_no_float : (names : List (List ℕ)) (d : Data) (ms : Members) → AllByRecursion (LacksFloat d) names → members_have_float ms ≡ false
    → members_have_float (fold (λ found n. with_found n (get n d) found) ms names) ≡ false
all_no_float [] d ms lacks all = all
all_no_float (name ∷ names) d ms lacks all = all_no_float names d (with_found name (get name d) ms) lacks.1 (found_no_float name (get name d) ms lacks.0 all)

text_lacks : (v : Data) (x : List ℕ) → as_str v ≡ Some x → has_float v ≡ false
text_lacks null x e = refl
text_lacks (boolean b) x e = refl
text_lacks (number n) x e = cc
text_lacks (string s) x e = refl
text_lacks (array ds) x e = cc
text_lacks (object ms) x e = cc

text_found : (found : Option Data) (x : List ℕ) → option_and_then as_str found ≡ Some x → IfSome found (λ v. has_float v ≡ false)
text_found None x e = tt
text_found (Some v) x e = text_lacks v x e

pub bound : {A B : Type 0} (o : Option A) (f : A → Option B) (y : B) → (o >>= f) ≡ Some y → (x : A) × (o ≡ Some x) × (f x ≡ Some y)
bound None f y e = cc
bound (Some x) f y e = (x, refl, e)

pub text_member_lacks : (name : List ℕ) (d : Data) (x : List ℕ) → (get name d >>= as_str) ≡ Some x → LacksFloat d name
text_member_lacks name d x e = text_found (get name d) x e

-- nor is a text of which something is read
pub read_member_lacks : {A : Type 0} (read : List ℕ → Option A) (name : List ℕ) (d : Data) (x : A)
    → (get name d >>= as_str >>= read) ≡ Some x → LacksFloat d name
read_member_lacks read name d x e = let found = bound (get name d >>= as_str) read x e in text_member_lacks name d found.0 found.1

-- nor is a text that may be missing
text_if_found : (found : Option Data) (x : Option (List ℕ)) → text_or_null found ≡ Some x → IfSome found (λ v. has_float v ≡ false)
text_if_found None x e = tt
text_if_found (Some null) x e = refl
text_if_found (Some (boolean b)) x e = cc
text_if_found (Some (number n)) x e = cc
text_if_found (Some (string s)) x e = refl
text_if_found (Some (array ds)) x e = cc
text_if_found (Some (object ms)) x e = cc

number_lacks : (n : Num) (least greatest x : ℕ) → option_and_then (number_within least greatest) (as_u64 n) ≡ Some x → has_float (number n) ≡ false
number_lacks (unsigned n) least greatest x e = refl
number_lacks (negative z) least greatest x e = refl
number_lacks (float f) least greatest x e = cc

whole_lacks : (v : Data) (least greatest x : ℕ)
    → option_and_then (number_within least greatest) (option_and_then as_u64 (as_number v)) ≡ Some x
    → has_float v ≡ false
whole_lacks null least greatest x e = refl
whole_lacks (boolean b) least greatest x e = refl
whole_lacks (number n) least greatest x e = number_lacks n least greatest x e
whole_lacks (string s) least greatest x e = refl
whole_lacks (array ds) least greatest x e = cc
whole_lacks (object ms) least greatest x e = cc

whole_found : (found : Option Data) (least greatest x : ℕ)
    → option_and_then (number_within least greatest)
    (option_and_then as_u64 (option_and_then as_number found)) ≡ Some x
    → IfSome found (λ v. has_float v ≡ false)
whole_found None least greatest x e = tt
whole_found (Some v) least greatest x e = whole_lacks v least greatest x e

pub whole_member_lacks : (name : List ℕ) (least greatest : ℕ) (d : Data) (x : ℕ) → whole_member name least greatest d ≡ Some x → LacksFloat d name
whole_member_lacks name least greatest d x e = whole_found (get name d) least greatest x e

-- what a first step gave, of which something is known, and that the second made the value of it
pub lacks_first : {A B L : Type 0} {o : Option A} (f : A → Option B) {y : B} → ((x : A) → o ≡ Some x → L)
    → (o >>= f) ≡ Some y → L × ((x : A) × (f x ≡ Some y))
lacks_first {o = o} f {y = y} lacks e = let found = bound o f y e in (lacks found.0 found.1, (found.0, found.2))

-- the named members of an order's request are no floats
pub order_lacks_float : (d : Data) (o : NewOrder) → new_order_of d ≡ Some o → LacksFloat d (codes "nr")
    → has_float (object (named_members order_members d)) ≡ false
unfolding new_order_of
order_lacks_float d o order nr =
    let name = lacks_first _ (read_member_lacks name_of_text (codes "name") d) order in
    let issuer = lacks_first _ (read_member_lacks name_of_text (codes "issuer") d) name.1.1 in
    let prefix = lacks_first _ (text_member_lacks (codes "prefix") d) issuer.1.1 in
    let width = lacks_first _ (whole_member_lacks (codes "width") 1 9 d) prefix.1.1 in
    let first = lacks_first _ (whole_member_lacks (codes "first") 0 9007199254740991 d) width.1.1 in
    let quantity = lacks_first _ (whole_member_lacks (codes "quantity") 1 9007199254740991 d) first.1.1 in
    let macs = lacks_first _ (whole_member_lacks (codes "macs") 0 4 d) quantity.1.1 in
    let before = lacks_first _ (text_if_found (get (codes "not_before") d)) macs.1.1 in
    all_no_float order_members d no_members
    (first.0, (issuer.0, (macs.0, (name.0, (before.0, (nr, (prefix.0, (quantity.0, (width.0, tt))))))))) refl

-- the named members of a map's import are no floats
pub map_lacks_float : (d : Data) (text : List ℕ) → (get (codes "text") d >>= as_str) ≡ Some text → LacksFloat d (codes "nr")
    → has_float (object (named_members map_members d)) ≡ false
map_lacks_float d text is nr = all_no_float map_members d no_members (nr, (text_member_lacks (codes "text") d text is, tt)) refl

pub digests_lack_float : (blocks : List (List ℕ)) → items_have_float (items_of (map block_digest blocks)) ≡ false
digests_lack_float [] = refl
digests_lack_float (block ∷ blocks) = digests_lack_float blocks

-- the named members of a registration are no floats, with the digests of its blocks in their place
pub device_lacks_float : (d : Data) (o : NewDevice) → new_device_of d ≡ Some o → LacksFloat d (codes "nr")
    → has_float (with_block_digests device_members d o.blocks) ≡ false
unfolding new_device_of
device_lacks_float d o device nr =
    let chip = lacks_first _ (read_member_lacks chip_of_text (codes "chip") d) device in
    let order = lacks_first _ (read_member_lacks name_of_text (codes "order") d) chip.1.1 in
    let digest = lacks_first _ (read_member_lacks digest_of_text (codes "map") d) order.1.1 in
    let others = all_no_float device_members d no_members (chip.0, (digest.0, (nr, (order.0, tt)))) refl in
    in_put (codes "blocks") (array (items_of (map block_digest o.blocks))) (named_members device_members d) (digests_lack_float o.blocks) others
