-- What a repeated request is known by.
use Rattle.std.specs.Prelude.{◌≡◌, ℕ, false, List, ◌∷◌, ◌++◌, fold, IfSome, Option, Some, None}
use Rattle.serde_json.specs.Data.{Data, Members, no_members, put}
use Rattle.serde_json.specs.Find.{get}
use Rattle.serde_json.specs.Written.{compact_text, has_float}
use Rattle.sha2.specs.Sha256.{sha256}

-- the members, and this one where there is a value
abbrev pub with_found : List ℕ → Option Data → Members → Members
with_found name None members = members
with_found name (Some value) members = put name value members

-- the members of a value that have one of the names, as they were read, in byte order
abbrev pub named_members : List (List ℕ) → Data → Members
named_members names d = fold (λ members name. with_found name (get name d) members) no_members names

-- SHA-256 of the path, a line feed and the compact JSON of the members
abbrev pub request_digest : List ℕ → Data → List ℕ
request_digest path members = sha256 (path ++ 10 ∷ compact_text members)

-- the member, where there is one, is no float
abbrev pub LacksFloat : Data → List ℕ → Type 0
LacksFloat d name = IfSome (get name d) (λ v. has_float v ≡ false)
