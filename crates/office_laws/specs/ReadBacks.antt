-- What a read-back is answered, by what the chip shows.
use Rattle.std.specs.Prelude.{◌≡◌, ◌↔◌, ℕ, true, List, Some}
use Rattle.fusemap_core.specs.Prelude.{Map}
use Rattle.fuse_image.specs.Prelude.{redacted}
use Rattle.fuse_image.specs.declared.image.Image.{Image}
use Rattle.fuse_image.specs.declared.redaction.ReadBack.{ReadBack}
use Rattle.fuse_plan.specs.Prelude.{seen, with_batch}
use Rattle.office_tables.specs.declared.rows.Device.{Device}
use Rattle.office_tables.specs.declared.rows.DeviceState.{DeviceState}
use Rattle.office_tables.specs.declared.rows.OfCustomer.{OfCustomer}
use Rattle.office_tables.specs.declared.rows.Outcome.{Outcome}
use Rattle.office_tables.specs.declared.rows.Outcome.TheVariants.{Match}
use Rattle.office_tables.specs.Prelude.{Tables, device_at}
use Rattle.office_commands.specs.Prelude.{outcome_body, acceptance}
use Rattle.office_rules.specs.Prelude.{batch_of, known_of, map_named, reads_back}
use Rattle.office_laws.specs.Exchanges.{Exchange, asks}
use Rattle.office_laws.specs.Once.{is_accepted, is_no_repeat}

-- what a device's chip shows where what is known to be burnt and the whole batch that is burnt next
-- are burnt in it, and nothing else
abbrev pub seen_with_batch : Map → Device → ReadBack
seen_with_batch m d = seen m (with_batch (known_of m d) (batch_of m d).burnt (batch_of m d).keys)

-- the reply tells the outcome of a read-back of a device that is there: a match exactly where the
-- words show what the device's chip does with the whole batch
pub record TellsMatch (x : Exchange) (t : Tables) (chip : List ℕ) (words : List (List ℕ))
    : Type 0 where
  pub device : OfCustomer Device
  pub by_map : Map
  pub there : device_at x.0.section.name chip t ≡ Some device
  pub named : map_named x.0.section.name device.row.map t ≡ Some by_map
  pub outcome : Outcome
  pub rest : Image
  pub state : DeviceState
  pub reply : x.1 ≡ acceptance (outcome_body by_map outcome rest state)
  pub matches : (outcome ≡ Match) ↔ (redacted by_map words ≡ seen_with_batch by_map device.row)

-- where an accepted exchange is that of a read-back that is no repeat, its reply does so
abbrev pub MatchesWhereSeen : Exchange → Tables → Type 0
MatchesWhereSeen x t = (number : ℕ) (digest chip : List ℕ) (words : List (List ℕ))
    → x.0.wanted ≡ asks (reads_back number digest chip words)
    → is_accepted x ≡ true → is_no_repeat t x ≡ true → TellsMatch x t chip words
