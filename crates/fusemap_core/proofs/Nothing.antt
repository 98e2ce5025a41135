-- No text at all is no fuse map's.
use Rattle.std.proofs.Common.{◌≡◌, [], Err, None, refl, ap}
use Rattle.std.specs.Result.{result_ok}
use Rattle.toml.specs.Parse.{parse_document, lines, skip_bom}
use Rattle.toml_parser.specs.Lexical.{skip_from}
use Rattle.fusemap_core.specs.Prelude.{map_in, map_of_document, map_read}
use Rattle.fusemap_core.specs.declared.fault.MapFault.TheVariants.{BadMember}

pub nothing_is_refused : map_read [] ≡ Err BadMember
unfolding map_of_document parse_document lines skip_bom skip_from
nothing_is_refused = refl

pub nothing_is_no_map : map_in [] ≡ None
unfolding map_in
nothing_is_no_map = ap result_ok nothing_is_refused
