-- The named members of a request that takes a device a step on have no float.
use Rattle.std.proofs.Common.{◌≡◌, ℕ, List, [], ◌∷◌, false, Option, Some, refl, sym, subst, ◌∙◌, codes, map, option_map}
use Rattle.std.proofs.lemmas.Bool.{or_from}
use Rattle.serde_json.specs.Data.{Data, array, object, no_members}
use Rattle.serde_json.specs.Find.{as_str, get}
use Rattle.serde_json.specs.Written.{has_float, items_have_float, members_have_float}
use Rattle.text_core.specs.Prelude.{◌>>=◌, all_of, digest_of_text, name_of_text}
use Rattle.text_core.proofs.Kit.{mapped}
use Rattle.members.specs.Prelude.{whole_member}
use Rattle.fuse_plan.specs.Prelude.{number_of_text}
use Rattle.station_requests.proofs.Types.{Want, Wish, Kind}
use Rattle.station_requests.specs.declared.plan.Kind.TheVariants.{Bit, Key, ReadLock, Value, WriteLock}
use Rattle.fuse_plan.specs.declared.wish.Want.TheVariants as want
use Rattle.office_commands.specs.Prelude.{items_of}
use Rattle.office_commands.proofs.Floats.{in_put}
use Rattle.station_requests.specs.Prelude.{act_members, block_digest, with_block_digests, LacksFloat, named_members, kind_of_wish, kind_of_text, named_plan}
use Rattle.station_requests.specs.Prelude.{named_wish, want_of, wish_in, wish_members, wishes_in, wishes_of}
use Rattle.station_requests.proofs.Members.{all_no_float, bound, digests_lack_float, read_member_lacks, whole_member_lacks}

-- the members that each request of a step has
pub act_members_lack : (d : Data) → LacksFloat d (codes "chip") → LacksFloat d (codes "nr") → members_have_float (named_members act_members d) ≡ false
act_members_lack d chip nr = all_no_float act_members d no_members (chip, (nr, tt)) refl

-- the named members of a read-back are no floats, with the digests of its blocks in their place
pub read_back_lacks_float : (d : Data) (blocks : List (List ℕ)) → LacksFloat d (codes "chip") → LacksFloat d (codes "nr") → has_float (with_block_digests act_members d blocks) ≡ false
read_back_lacks_float d blocks chip nr =
    in_put (codes "blocks") (array (items_of (map block_digest blocks))) (named_members act_members d) (digests_lack_float blocks) (act_members_lack d chip nr)

-- the named members of a wish of a kind
of_kind : (kind : Kind) (d : Data) (w : Want) → LacksFloat d (codes "kind") → LacksFloat d (codes "field") → want_of kind d ≡ Some w → has_float (object (named_members (wish_members kind) d)) ≡ false
of_kind Bit d w kind field e =
    let index = mapped (whole_member (codes "index") 0 9007199254740991 d) want.Bit w e in
    all_no_float (wish_members Bit) d no_members (field, (whole_member_lacks (codes "index") 0 9007199254740991 d index.0 index.1, (kind, tt))) refl
of_kind Value d w kind field e =
    let number = mapped (get (codes "value") d >>= as_str >>= number_of_text) want.Value w e in
    all_no_float (wish_members Value) d no_members (field, (kind, (read_member_lacks number_of_text (codes "value") d number.0 number.1, tt))) refl
of_kind Key d w kind field e =
    let digest = mapped (get (codes "key_sha256") d >>= as_str >>= digest_of_text) want.Key w e in
    all_no_float (wish_members Key) d no_members (field, (read_member_lacks digest_of_text (codes "key_sha256") d digest.0 digest.1, (kind, tt))) refl
of_kind WriteLock d w kind field e = all_no_float (wish_members WriteLock) d no_members (field, (kind, tt)) refl
of_kind ReadLock d w kind field e = all_no_float (wish_members ReadLock) d no_members (field, (kind, tt)) refl

wish_lacks : (d : Data) (w : Wish) (named : Data) → wish_in d ≡ Some w → named_wish d ≡ Some named → has_float named ≡ false
wish_lacks d w named wish is =
    let kind = bound (kind_of_wish d) _ w wish in
    let field = bound (get (codes "field") d >>= as_str >>= name_of_text) _ w kind.2 in
    let want = bound (want_of kind.0 d) _ w field.2 in
    let same : Some (object (named_members (wish_members kind.0) d)) ≡ Some named = rw kind.1 at is in
    let its : object (named_members (wish_members kind.0) d) ≡ named = cc in
    subst (λ (v : Data). has_float v ≡ false) its
    (of_kind kind.0 d want.0 (read_member_lacks kind_of_text (codes "kind") d kind.0 kind.1) (read_member_lacks name_of_text (codes "field") d field.0 field.1) want.1)

abbrev with_first : {B : Type 0} → Option (List B) → B → Option (List B)
with_first rest y = option_map (λ ys. y ∷ ys) rest

wishes_lack : (ds : List Data) (ws : List Wish) (named : List Data) → all_of wish_in ds ≡ Some ws
    → all_of named_wish ds ≡ Some named → items_have_float (items_of named) ≡ false
wishes_lack [] ws named wishes is = let same : [] ≡ named = cc in subst (λ (ns : List Data). items_have_float (items_of ns) ≡ false) same refl
wishes_lack (d ∷ ds) ws named wishes is =
    let w = bound (wish_in d) (with_first (all_of wish_in ds)) ws wishes in
    let later = mapped (all_of wish_in ds) (λ ys. w.0 ∷ ys) ws w.2 in
    let first = bound (named_wish d) (with_first (all_of named_wish ds)) named is in
    let others = mapped (all_of named_wish ds) (λ ys. first.0 ∷ ys) named first.2 in
    subst (λ (ns : List Data). items_have_float (items_of ns) ≡ false) others.2
    (or_from (has_float first.0) (items_have_float (items_of others.0))
    (wish_lacks d w.0 first.0 w.1 first.1) (wishes_lack ds later.0 others.0 later.1 others.1))

-- the named members of a plan are no floats
pub plan_lacks_float : (d : Data) (wishes : List Wish) (members : Data) → wishes_of d ≡ Some wishes → named_plan d ≡ Some members
    → LacksFloat d (codes "chip") → LacksFloat d (codes "nr") → has_float members ≡ false
unfolding named_plan
plan_lacks_float d wishes members plan is chip nr =
    let values = bound (wishes_in d) (all_of wish_in) wishes plan in
    let named = mapped (wishes_in d >>= all_of named_wish) _ members is in
    let again = bound (wishes_in d) (all_of named_wish) named.0 named.1 in
    let both : Some again.0 ≡ Some values.0 = sym again.1 ∙ values.1 in
    let same : again.0 ≡ values.0 = cc in
    let those : all_of named_wish values.0 ≡ Some named.0 = subst (λ (ds : List Data). all_of named_wish ds ≡ Some named.0) same again.2 in
    subst (λ (v : Data). has_float v ≡ false) named.2
    (in_put (codes "wishes") (array (items_of named.0)) (named_members act_members d) (wishes_lack values.0 wishes named.0 values.2 those) (act_members_lack d chip nr))
