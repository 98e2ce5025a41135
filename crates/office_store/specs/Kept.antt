-- What the clauses of a keeper see of it.
use Rattle.std.specs.Prelude.{ℕ, List, refl}
use Rattle.std.specs.Coded.{Coded, code_by, coded×, coded_list, coded_ℕ}
use Rattle.sqlite.specs.Held.{Held, held_code}

-- the connection, and the SHA-256 that names the site
pub record Kept (S : Type 0) : Type 0 where
  pub conn : Held S
  pub site : List ℕ

-- how that is coded, by the code of its store
abbrev pub kept_code : {S : Type 0} → Coded S → Coded (Kept S)
kept_code {S} store = code_by (Held S
    × List ℕ) (coded× (held_code store) (coded_list coded_ℕ)) (λ k. (k.conn, k.site)) (λ p.
    record { conn = p.0; site = p.1 }) (λ _. refl)
