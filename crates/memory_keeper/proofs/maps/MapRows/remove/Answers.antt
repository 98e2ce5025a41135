use Rattle.text_core.proofs.Kit.{◌∙◌, None, sym, btree_map_updates_text}
use Rattle.memory_keeper.proofs.Absent.{without_none}
use Rattle.memory_keeper.proofs.Keys.{find_map, without_map}
use Rattle.memory_keeper.proofs.Texts.{found-without}
use Rattle.memory_keeper.proofs.maps.MapRows.remove.Goals as goal

pub invariant_of-self : goal.invariant_of-self
invariant_of-self c =
    let rows = c.self.inside.rows in
    rw (c.remove.ensures.other_rows, without_map c.args.id rows)
    (found-without rows c.self.inside.ids c.remove-in-Some.new.self c.self.invariant c.in-Some.map c.args.id
    (sym (find_map c.args.id rows) ∙ (sym c.remove.ensures.removed ∙ c.in-Some.is))
    (btree_map_updates_text c.in-Some.map.body c.self.inside.ids c.remove-in-Some.new.self None (rw c.as_str.ensures at c.remove-in-Some.ensures.updates)))

pub invariant_of-self-in_default : goal.invariant_of-self-in_default
invariant_of-self-in_default c =
    rw c.remove.ensures.other_rows (rw (without_none _ c.self.inside.rows (sym c.remove.ensures.removed ∙ c.in_default.is)) c.self.invariant)
