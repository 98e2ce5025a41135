-- The request that plans a device, from what was read of a body.
use Rattle.std.specs.Prelude.{ℕ, List, [], ◌∷◌, codes, bytes_eq, find, Option, Some, option_map}
use Rattle.serde_json.specs.Data.{Data, array, object, put}
use Rattle.serde_json.specs.Find.{as_array, as_str, get}
use Rattle.text_core.specs.Prelude.{◌>>=◌, all_of, digest_of_text, list_of_length, name_of_text}
use Rattle.office_commands.specs.Prelude.{largest_whole, items_of}
use Rattle.office_commands.specs.declared.command.Action.TheVariants.{Plan}
use Rattle.office_commands.specs.declared.command.Request.{Request}
use Rattle.members.specs.Prelude.{json_items, whole_member}
use Rattle.fuse_plan.specs.Prelude.{number_of_text}
use Rattle.fuse_plan.specs.declared.wish.Want.{Want}
use Rattle.fuse_plan.specs.declared.wish.Wish.{Wish}
use Rattle.fuse_plan.specs.declared.wish.Want.TheVariants as want
use Rattle.station_requests.specs.Act.{act_members, act_of}
use Rattle.station_requests.specs.Digest.{named_members}
use Rattle.station_requests.specs.declared.plan.Kind.{Kind}
use Rattle.station_requests.specs.declared.plan.Kind.TheVariants.{Bit, Value, Key, WriteLock, ReadLock}

-- the kinds of wishes, by their texts
abbrev pub kinds : List (List ℕ × Kind)
kinds = (codes "bit", Bit) ∷ (codes "value", Value) ∷ (codes "key", Key) ∷ (codes "wlock", WriteLock) ∷ (codes "rlock", ReadLock) ∷ []

-- the kind with a text
abbrev pub kind_of_text : List ℕ → Option Kind
kind_of_text text = option_map (λ k. k.1) (find (λ k. bytes_eq text k.0) kinds)

-- the kind that a wish names as its member `kind`
abbrev pub kind_of_wish : Data → Option Kind
kind_of_wish d = get (codes "kind") d >>= as_str >>= kind_of_text

-- what a wish of a kind asks of its field
abbrev pub want_of : Kind → Data → Option Want
want_of Bit d = option_map want.Bit (whole_member (codes "index") 0 largest_whole d)
want_of Value d = option_map want.Value (get (codes "value") d >>= as_str >>= number_of_text)
want_of Key d = option_map want.Key (get (codes "key_sha256") d >>= as_str >>= digest_of_text)
want_of WriteLock d = Some want.WriteLock
want_of ReadLock d = Some want.ReadLock

-- the wish of a JSON value, if its members are of their forms
abbrev pub wish_in : Data → Option Wish
wish_in d = do
  kind ← kind_of_wish d
  field ← get (codes "field") d >>= as_str >>= name_of_text
  want ← want_of kind d
  Some (record { field = field; want = want })

-- the items of a member that is an array of at most 64 wishes
abbrev pub wishes_in : Data → Option (List Data)
wishes_in d = option_map json_items (get (codes "wishes") d >>= as_array) >>= list_of_length 0 64

-- the wishes that they are, if each is one
abbrev pub wishes_of : Data → Option (List Wish)
wishes_of d = wishes_in d >>= all_of wish_in

-- the named members of a wish of a kind
abbrev pub wish_members : Kind → List (List ℕ)
wish_members Bit = codes "field" ∷ codes "index" ∷ codes "kind" ∷ []
wish_members Value = codes "field" ∷ codes "kind" ∷ codes "value" ∷ []
wish_members Key = codes "field" ∷ codes "key_sha256" ∷ codes "kind" ∷ []
wish_members WriteLock = codes "field" ∷ codes "kind" ∷ []
wish_members ReadLock = codes "field" ∷ codes "kind" ∷ []

-- what a repeated wish is known by: the named members of its kind, as they were read
abbrev pub named_wish : Data → Option Data
named_wish d = option_map (λ kind. object (named_members (wish_members kind) d)) (kind_of_wish d)

-- what a repeated plan is known by: its members, and in the wishes' place what each of them is known by
unfoldable pub named_plan : Data → Option Data
named_plan d = option_map (λ wishes. object (put (codes "wishes") (array (items_of wishes)) (named_members act_members d))) (wishes_in d >>= all_of named_wish)

-- the request that a body asks for, if its wishes are of their forms
unfoldable pub plan_device_of : Data → Option Request
plan_device_of d = do
  wishes ← wishes_of d
  members ← named_plan d
  act_of (codes "/v1/plan") members (Plan wishes) d
