use Rattle.std.proofs.Common.{◌∙◌}
use Rattle.memory_keeper.proofs.Keys.{find_map}
use Rattle.memory_keeper.proofs.maps.MapRows.get.Goals as goal

pub returns : goal.returns
returns c = rw (← c.self.view_is) (c.get.ensures ∙ find_map c.args.id c.self.inside.rows)
