use Rattle.std.proofs.Common.{◌≡◌, drop, filter_map, option_copied}
use Rattle.std.specs.List.{cons_option}
use Rattle.yield_counts.specs.Changes.{put_of}
use Rattle.yield_counts.proofs.written.devices_in.Given as goal

-- the devices of the list are the one that was found and those of what is left
abbrev pub invariant-loop-write : goal.invariant-loop-write
invariant-loop-write l = filter_map put_of l.fn.writes ≡ cons_option (option_copied l.found) (filter_map put_of (drop l.write-index l.writes))
