use Rattle.yield_counts.proofs.counted.Counted.columns.Goals as goal

pub invariant_of-self-2 : goal.invariant_of-self-2
invariant_of-self-2 g c = λ is.
    let read = c.in_ok-orders.ensures.read_only in
    let right = c.self.invariant (read.was_open is) in
    rw (read.same is) (record {
      devices = c.keep.ensures (g.K.Keep.tables c.self.inside.keep).devices right.devices (c.in_ok-orders.ensures.answer is);
      left = right.left;
      device = right.device;
    })
