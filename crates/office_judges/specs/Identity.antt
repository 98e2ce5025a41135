-- What an identity comes to by the parts of its judgement, before anything is written.
use Rattle.std.specs.Prelude.{◌≡◌, ◌+◌, ◌++◌, ℕ, not, is_some, List, [], ◌∷◌, Some, Result, string_bytes}
use Rattle.fusemap_core.specs.Prelude.{Map}
use Rattle.site_core.specs.Prelude.{Section}
use Rattle.office_tables.specs.declared.rows.Device.{Device}
use Rattle.office_tables.specs.declared.rows.Order.{Order}
use Rattle.office_tables.specs.declared.rows.Write.{Write}
use Rattle.office_tables.specs.declared.rows.Write.TheVariants.{AddGiven, SetCursor}
use Rattle.office_tables.specs.Prelude.{Tables, given_by_key}
use Rattle.office_commands.specs.Prelude.{identity_body}
use Rattle.office_commands.specs.declared.refusal.Refusal.{Refusal}
use Rattle.office_commands.specs.declared.refusal.Refusal.TheVariants.{Exhausted, KeyBound}
use Rattle.office_rules.specs.Prelude.{identified_from, state_refusal, step_of_identity, idevid_of_order, row_of, next_of, Refusals}
use Rattle.office_judges.specs.Judging.{IsUnlessRefused}
use Rattle.office_judges.specs.Stepping.{writes_of}
use Rattle.office_judges.specs.declared.identity.Numbered.{Numbered}
use Rattle.office_judges.specs.declared.judgement.Accepted.{Accepted}

-- what a device gets with a number of its order: its record, and the order's cursor above the
-- number
abbrev pub numbered : Order → ℕ × List ℕ → List ℕ → Numbered
numbered o next key = record {
  idevid = idevid_of_order o next key;
  cursor = record { order = o.name; number = next.0 + 1 };
}

-- what refuses a device a number of its order for this key, in the order of the refusals' numbers
abbrev pub number_refusals : Tables → Device → Order → List ℕ → Refusals
number_refusals t d o key =
    state_refusal identified_from d
    ∷ (not (is_some (next_of t o)), Exhausted)
    ∷ (is_some (given_by_key o.issuer key t), KeyBound)
    ∷ []

-- the lowest of these refusals; or none of them holds, and the device gets the next number
abbrev pub IsNextNumber : Tables → Device → Order → List ℕ → Result Numbered Refusal → Type 0
IsNextNumber t d o key judged = IsUnlessRefused (number_refusals t d o key)
    (λ (n : Numbered). (next : ℕ × List ℕ) × (next_of t o ≡ Some next) × (n ≡ numbered o next key)) judged

-- the writes of a device that gets a number: those of its step, its record, and its order's cursor
abbrev pub number_writes : List ℕ → List ℕ → Numbered → List Write
number_writes customer chip n =
    AddGiven (record { customer = customer; row = row_of n.idevid (Some chip) })
    ∷ SetCursor (record { customer = customer; row = n.cursor })
    ∷ []

-- the device is accepted with what it gets: the body that answers it, and the writes
abbrev pub IsIdentified : Section → List ℕ → Tables → Map → Device → Numbered → Accepted → Type 0
IsIdentified s seat t m d n a =
    (string_bytes a.body ≡ identity_body d.chip n.idevid)
    × (a.writes.items
    ≡ writes_of s.name seat t (step_of_identity n.idevid.serial m d)
    ++ number_writes s.name d.chip n)
