-- What a site's file comes to where it is checked: the site, or why it isn't accepted; and the line of a site.
use Rattle.std.specs.Prelude.{◌≡◌, ◌⊎◌, ℕ, ◌++◌, ◌∷◌, [], List, length, codes, decimal, nat_lt, Option, Some, None, Result, Ok, Err, if◌then◌else◌}
use Rattle.std.specs.Borrow.{Bor}
use Rattle.std.specs.Str.{is_utf8}
use Rattle.site_core.specs.Prelude.{SiteValue, site_text_limit}
use Rattle.site_faults.specs.Prelude.{IsToldGrowth, site_told, too_long}
use Rattle.site_faults.specs.declared.told.ToldFault.{ToldFault}
use Rattle.station_cli.specs.SiteFile.{site_in}
use Rattle.station_cli.specs.declared.failure.Failure.{Failure}
use Rattle.station_cli.specs.declared.failure.Failure.TheVariants.{CannotRead}

-- the site in the bytes of a file, or the fault of its text with the place. Bytes over the limit have the fault of that
abbrev pub checked_in : Bor (List ℕ) → List ℕ → Result (Result SiteValue ToldFault) Failure
checked_in name bytes =
    if nat_lt site_text_limit (length bytes) then Ok (Err too_long)
    else if is_utf8 bytes then Ok (site_told bytes)
    else Err (CannotRead name)

-- a check comes to this, or memory runs out in it
abbrev pub ChecksTo : Result (Result SiteValue ToldFault) Failure → Result (Result SiteValue ToldFault) Failure → Type 0
ChecksTo wanted result = (result ≡ wanted) ⊎ (result ≡ Ok (Err ToldFault.NoMemory))

-- what two files come to: why the new one isn't accepted, else why the old one has no site, else whether the site grew
abbrev pub IsCheckedFrom : Result SiteValue Failure → Result (Result SiteValue ToldFault) Failure → Result (Result SiteValue ToldFault) Failure → Type 0
IsCheckedFrom old (Err failure) result = result ≡ Err failure
IsCheckedFrom old (Ok (Err fault)) result = result ≡ Ok (Err fault)
IsCheckedFrom (Err failure) (Ok (Ok new)) result = result ≡ Err failure
IsCheckedFrom (Ok old) (Ok (Ok new)) result = (told : Result SiteValue ToldFault) × IsToldGrowth old new told × (result ≡ Ok told)

-- of some bytes of the site's file with this name, and of the old one where one is named, a check tells this
abbrev pub IsToldOf : List ℕ → Option (List ℕ) → Result SiteValue ToldFault → Type 0
IsToldOf site None told =
    (name : Bor (List ℕ)) × (bytes : List ℕ) × (name.now ≡ site) × ChecksTo (checked_in name bytes) (Ok told)
IsToldOf site (Some old) told =
    (name : Bor (List ℕ)) × (bytes : List ℕ) × (old_name : Bor (List ℕ)) × (old_bytes : List ℕ)
    × (name.now ≡ site) × (old_name.now ≡ old)
    × ((told ≡ Err ToldFault.NoMemory) ⊎ IsCheckedFrom (site_in old_name old_bytes) (checked_in name bytes) (Ok told))

-- the line of a site, without its line feed: how many customers it has
abbrev pub site_line : SiteValue → List ℕ
site_line site = codes "ok " ++ decimal (length site.customers)
