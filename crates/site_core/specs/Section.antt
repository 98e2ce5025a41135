-- A site: its customers and its manager.
use Rattle.std.specs.Prelude.{ℕ, List, ◌∷◌, Bool, bytes_eq, map, Option, Some, None, flat_map}
use Rattle.id_ranges.specs.Prelude.{Pool}

-- a seat: its name, and the SHA-256 of its token
pub record SeatOf : Type 0 where
  pub name : List ℕ
  pub token : List ℕ

-- a customer: its name, its issuers' names, its pools of hardware addresses and its seats, each in the text's order
pub record Section : Type 0 where
  pub name : List ℕ
  pub issuers : List (List ℕ)
  pub pools : List Pool
  pub seats : List SeatOf

-- the customers in the text's order, and the SHA-256 of the manager's token, if there is a manager
pub record SiteValue : Type 0 where
  pub customers : List Section
  pub manager : Option (List ℕ)

-- the seat's token has this digest
abbrev pub has_token : List ℕ → SeatOf → Bool
has_token digest seat = bytes_eq seat.token digest

-- the names of all customers
abbrev pub names_of : SiteValue → List (List ℕ)
names_of site = map (λ s. s.name) site.customers

-- all issuers
abbrev pub issuers_of : SiteValue → List (List ℕ)
issuers_of site = flat_map (λ s. s.issuers) site.customers

-- all pools
abbrev pub pools_of : SiteValue → List Pool
pools_of site = flat_map (λ s. s.pools) site.customers

-- the seats of all customers
abbrev pub seats_of : SiteValue → List SeatOf
seats_of site = flat_map (λ s. s.seats) site.customers

-- the names of the seats of all customers
abbrev pub seat_names_of : SiteValue → List (List ℕ)
seat_names_of site = map (λ seat. seat.name) (seats_of site)

-- a token in front of others, if there is one
abbrev pub with_token : Option (List ℕ) → List (List ℕ) → List (List ℕ)
with_token None tokens = tokens
with_token (Some token) tokens = token ∷ tokens

-- the digests of all tokens, the manager's among them
abbrev pub tokens_of : SiteValue → List (List ℕ)
tokens_of site = with_token site.manager (map (λ seat. seat.token) (seats_of site))
