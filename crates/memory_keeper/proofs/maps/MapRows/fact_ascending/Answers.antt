use Rattle.memory_keeper.proofs.maps.MapRows.fact_ascending.Goals as goal

pub returns : goal.returns
returns c = rw (← c.self.view_is) c.fact_ascending.ensures
