use Rattle.std.proofs.Common.{◌≡◌, true, take, min}
use Rattle.std.specs.List.{list_all}
use Rattle.std.specs.Char.{is_ascii_digit}
use Rattle.std.specs.Str.Parse.{digits_value}
use Rattle.http_frames.proofs.fields.read_size.Given as goal

abbrev pub invariant-loop-digit : goal.invariant-loop-digit
invariant-loop-digit l = record {
  capped : l.size ≡ min (digits_value 10 (take l.digit-index l.value)) 65537;
  digits : list_all is_ascii_digit (take l.digit-index l.value) ≡ true;
}
