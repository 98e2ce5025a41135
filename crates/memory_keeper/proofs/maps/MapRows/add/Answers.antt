use Rattle.std.proofs.Common.{◌≡◌, ◌∙◌, Some, None, find, string_bytes}
use Rattle.std.proofs.lemmas.Map.Text.{btree_map_updates_text}
use Rattle.office_tables.specs.Prelude.{has_body, has_id}
use Rattle.memory_keeper.proofs.Keys.{without_map}
use Rattle.memory_keeper.proofs.MapNumbers.{without-placed_map}
use Rattle.memory_keeper.proofs.Texts.{found-placed, found_same, no_map, WritesAt}
use Rattle.memory_keeper.proofs.maps.MapRows.add.Goals as goal

pub invariant_of-self-in-Ok : goal.invariant_of-self-in-Ok
invariant_of-self-in-Ok c =
    let rows = c.self.inside.rows in
    let body = c.args.body in
    let id = c.in-Some.id in
    let free_text : find (has_body body) rows ≡ None = no_map (find (has_body body) rows) (rw (c.as_str.ensures, ← c.self.view_is) at c.in-None.ensures) in
    let free_id : find (has_id id) rows ≡ None = rw (← c.self.view_is) at c.in-Some.ensures.free in
    let key : string_bytes c.into_string-key.result ≡ body = c.into_string-key.ensures ∙ c.in_ok-copy.ensures in
    let writes : WritesAt c.self.inside.ids c.insert-2.new.self body (Some id) =
    rw key at (btree_map_updates_text (string_bytes c.into_string-key.result) c.self.inside.ids c.insert-2.new.self (Some id) c.in-Ok.ensures.updates) in
    rw c.in_ok-insert.ensures.placed (found-placed rows c.self.inside.ids c.insert-2.new.self c.self.invariant
    (record { id = id; body = body }) free_id free_text writes)

pub invariant_of-self-in-Err : goal.invariant_of-self-in-Err
invariant_of-self-in-Err c =
    let rows = c.self.inside.rows in
    let free_id : find (has_id c.in-Some.id) rows ≡ None = rw (← c.self.view_is) at c.in-Some.ensures.free in
    rw (
      c.remove.ensures.other_rows,
      without_map c.in-Some.id c.insert.new.self,
      c.in_ok-insert.ensures.placed,
      without-placed_map (record { id = c.in-Some.id; body = c.args.body }) rows free_id,
    )
    (found_same rows c.self.inside.ids c.insert-2.new.self c.self.invariant c.in-Err.ensures.err)

pub returns-in-Ok-clause-undone : goal.returns-in-Ok-clause-undone
returns-in-Ok-clause-undone c =
    rw (c.in_ok-insert.ensures.placed, ← c.self.view_is)
    (without-placed_map (record { id = c.in-Some.id; body = c.args.body }) c.self.inside.rows (rw (← c.self.view_is) at c.in-Some.ensures.free))

pub returns-in-Err-clause-err : goal.returns-in-Err-clause-err
returns-in-Err-clause-err c =
    let rows = c.self.inside.rows in
    let free_id : find (has_id c.in-Some.id) rows ≡ None = rw (← c.self.view_is) at c.in-Some.ensures.free in
    rw (
      c.remove.ensures.other_rows,
      without_map c.in-Some.id c.insert.new.self,
      c.in_ok-insert.ensures.placed,
      without-placed_map (record { id = c.in-Some.id; body = c.args.body }) rows free_id,
    ) c.self.view_is
