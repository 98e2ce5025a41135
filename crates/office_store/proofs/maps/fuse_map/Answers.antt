-- What is kept is right before the read and after, and the store that answers is open.
use Rattle.std.proofs.Common.{sym, ◌∙◌}
use Rattle.sqlite.specs.Held.{state}
use Rattle.office_sql.specs.Prelude.{tables_in}
use Rattle.office_store.specs.Prelude.{fuse_map_at}
use Rattle.office_store.proofs.maps.fuse_map.Goals as goal

pub returns-in-Ok-clause-asks : goal.returns-in-Ok-clause-asks
returns-in-Ok-clause-asks g c = record {
  answer = λ clean.
      let up = (c.in-Ok.ensures.same clean).0.was_open in
      sym (c.in-Some.ensures.found (fuse_map_at (tables_in (state g.S.Store c.args.conn.now).now.trees)) (c.requires.known up));
  same = c.in-Ok.ensures.same;
  rests = c.ask_open.ensures.rests;
  mode = c.ask_open.ensures.mode;
  crash = c.ask_open.ensures.crash;
}

pub returns-in-Ok-clause-right : goal.returns-in-Ok-clause-right
returns-in-Ok-clause-right g c = λ up clean. c.find.ensures.right (fuse_map_at (tables_in (state g.S.Store c.args.conn.now).now.trees)) (c.requires.known up)

pub returns-in-Err-clause-right : goal.returns-in-Err-clause-right
returns-in-Err-clause-right g c = λ up clean. c.find.ensures.right (fuse_map_at (tables_in (state g.S.Store c.args.conn.now).now.trees)) (c.requires.known up)

pub returns-in-Ok-Some-clause-right : goal.returns-in-Ok-Some-clause-right
returns-in-Ok-Some-clause-right g c = λ up clean.
    let map_of = fuse_map_at (tables_in (state g.S.Store c.args.conn.now).now.trees) in
    c.keep.ensures.right map_of (c.find.ensures.right map_of (c.requires.known up)) (sym (c.in-Ok-Some.ensures.answer clean) ∙ c.in-Ok-Some.field-0-is)

pub returns-in-Ok-None-clause-right : goal.returns-in-Ok-None-clause-right
returns-in-Ok-None-clause-right g c = λ up clean.
    c.find.ensures.right (fuse_map_at (tables_in (state g.S.Store c.args.conn.now).now.trees)) (c.requires.known up)

pub returns-in-Err-read_map-clause-right : goal.returns-in-Err-read_map-clause-right
returns-in-Err-read_map-clause-right g c = λ up clean.
    c.find.ensures.right (fuse_map_at (tables_in (state g.S.Store c.args.conn.now).now.trees))
    (c.requires.known up)
