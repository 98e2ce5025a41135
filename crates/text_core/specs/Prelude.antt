-- The words of this crate, passed on from one place. Declares nothing.
pub use Rattle.text_core.specs.Chip.{chip_of_text, is_chip, is_lower_hex_digit}
pub use Rattle.text_core.specs.Digest.{digest_of_text}
pub use Rattle.text_core.specs.InFront.{array_again, length_again}
pub use Rattle.text_core.specs.InPlace.{AreAtFront}
pub use Rattle.text_core.specs.Machines.{Machine, Runs}
pub use Rattle.text_core.specs.Memory.{GivesUnless, result_and_then, result_map}
pub use Rattle.text_core.specs.Name.{is_name, is_name_byte, name_of_text}
pub use Rattle.text_core.specs.Options.{◌>>=◌, all_of, first_that_holds, list_of_length}
pub use Rattle.text_core.specs.Padding.{zero_padded}
pub use Rattle.text_core.specs.Prefix.{is_prefix, prefix_of_text}
pub use Rattle.text_core.specs.Readers.{ReadsItems}
pub use Rattle.text_core.specs.Serial.{is_serial, is_serial_byte, serial_of_text}
pub use Rattle.text_core.specs.ShortBytes.{bytes_within, zeros}
pub use Rattle.text_core.specs.ShortText.{IsShortText}
pub use Rattle.text_core.specs.Time.{is_time, time_of_text}
