-- A hardware address as text.
use Rattle.std.specs.Prelude.{ℕ, ◌+◌, ◌*◌, false, List, slice_index, Option, None, option_map, if◌then◌else◌}
use Rattle.std.specs.Fmt.{digits}
use Rattle.std.specs.List.{list_all}
use Rattle.std.specs.Result.{result_ok}
use Rattle.hex.specs.Hex.{decode_sized}
use Rattle.text_core.specs.Prelude.{is_lower_hex_digit, zero_padded}

-- twelve lowercase hexadecimal digits
abbrev pub mac_text : ℕ → List ℕ
mac_text mac = zero_padded 12 (digits 16 false mac)

-- the number of six bytes, the highest first
abbrev pub mac_of_bytes : List ℕ → ℕ
mac_of_bytes b =
    ((slice_index b 0 * 256 + slice_index b 1) * 256 + slice_index b 2) * 0x100_0000
    + ((slice_index b 3 * 256 + slice_index b 4) * 256 + slice_index b 5)

-- the address of twelve lowercase hexadecimal digits
abbrev pub mac_of_text : List ℕ → Option ℕ
mac_of_text text =
    if list_all is_lower_hex_digit text then option_map mac_of_bytes (result_ok (decode_sized text 6)) else None
