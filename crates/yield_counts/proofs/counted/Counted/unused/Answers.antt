use Rattle.std.proofs.Common.{rules}
use Rattle.yield_counts.specs.Counts.{has_issued_in}
use Rattle.yield_counts.proofs.counted.Counted.unused.Goals as goal

pub returns-in-Some : goal.returns-in-Some
returns-in-Some g c = record {
  read_only = search rules;
  stays_open = c.requires.open;
  answer = λ is. rw c.in-Some.is at (c.of_range.ensures (has_issued_in (g.K.Keep.tables c.args.self.now)) ((rw c.self.view_is at c.self.invariant) is).left);
}

pub invariant_of-self-2 : goal.invariant_of-self-2
invariant_of-self-2 g c = λ is.
    let read = c.in_ok-left.ensures.read_only in
    let right = c.self.invariant (read.was_open is) in
    rw (read.same is) (record {
      devices = right.devices;
      left = c.keep.ensures (has_issued_in (g.K.Keep.tables c.self.inside.keep)) right.left (c.in_ok-left.ensures.answer is);
      device = right.device;
    })
