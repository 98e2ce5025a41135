-- The requests about orders, from what was read of a body or a query.
use Rattle.std.specs.Prelude.{ℕ, List, [], ◌∷◌, codes, Option, Some}
use Rattle.serde_json.specs.Data.{Data, object}
use Rattle.serde_json.specs.Find.{as_str, get}
use Rattle.text_core.specs.Prelude.{◌>>=◌, name_of_text}
use Rattle.members.specs.Prelude.{text_or_null, whole_member}
use Rattle.office_commands.specs.Prelude.{largest_whole}
use Rattle.office_commands.specs.declared.new_order.NewOrder.{NewOrder}
use Rattle.office_commands.specs.declared.command.Request.{Request}
use Rattle.office_commands.specs.declared.command.Change.TheVariants.{MakeOrder}
use Rattle.station_requests.specs.Change.{request_for}
use Rattle.station_requests.specs.Digest.{named_members}
use Rattle.station_requests.specs.Query.{text_parameter}

-- the order of a JSON value, if its members are of their forms
unfoldable pub new_order_of : Data → Option NewOrder
new_order_of d = do
  name ← get (codes "name") d >>= as_str >>= name_of_text
  issuer ← get (codes "issuer") d >>= as_str >>= name_of_text
  prefix ← get (codes "prefix") d >>= as_str
  width ← whole_member (codes "width") 1 9 d
  first ← whole_member (codes "first") 0 largest_whole d
  quantity ← whole_member (codes "quantity") 1 largest_whole d
  macs ← whole_member (codes "macs") 0 4 d
  not_before ← text_or_null (get (codes "not_before") d)
  Some (record { name = name; issuer = issuer; prefix = prefix; width = width; first = first; quantity = quantity; macs = macs; not_before = not_before })

-- the named members of an order
abbrev pub order_members : List (List ℕ)
order_members = codes "first" ∷ codes "issuer" ∷ codes "macs" ∷ codes "name" ∷ codes "not_before" ∷ codes "nr" ∷ codes "prefix" ∷ codes "quantity" ∷ codes "width" ∷ []

-- the request that a body asks for: the order, known by its named members
unfoldable pub make_order_of : Data → Option Request
make_order_of d = do
  order ← new_order_of d
  request_for (codes "/v1/order") (object (named_members order_members d)) (MakeOrder order) d

-- the name that a query gives
abbrev pub name_parameter : List ℕ → Option (List ℕ)
name_parameter query = text_parameter (codes "name") query >>= name_of_text
