-- Records of device identities.
use Rattle.std.specs.Prelude.{ℕ, List, codes, Option, Result, Ok, Err, if◌then◌else◌}
use Rattle.text_core.specs.Prelude.{is_serial}
use Rattle.id_ranges.specs.declared.fault.RangeFault.{RangeFault}
use Rattle.id_ranges.specs.declared.fault.RangeFault.TheVariants.{BadText}

-- what a certificate of a device says of it: its issuer, its serial number, its key, its first address, the end of its validity and, where it has one, the
-- beginning
pub record Idevid : Type 0 where
  pub issuer : List ℕ
  pub serial : List ℕ
  pub key : List ℕ
  pub mac : Option ℕ
  pub not_after : List ℕ
  pub not_before : Option (List ℕ)

-- that there is no well-defined end (RFC 5280, section 4.1.2.5), as a device is to work for ever (IEEE 802.1AR-2018, section 8)
abbrev pub no_end : List ℕ
no_end = codes "99991231235959Z"

-- the record with this serial number, if it is one
abbrev pub new_idevid : List ℕ → List ℕ → List ℕ → Option ℕ → Option (List ℕ) → Result Idevid RangeFault
new_idevid issuer serial key mac not_before =
    if is_serial serial
    then Ok (record { issuer = issuer; serial = serial; key = key; mac = mac; not_after = no_end; not_before = not_before })
    else Err BadText
