use Rattle.yield_counts.proofs.counted.CountedKeep.commit.Goals as goal

pub invariant_of-self : goal.invariant_of-self
invariant_of-self g c = λ is.
    let was = c.commit.ensures.was_open is in
    let right = c.self.invariant was in
    let t = g.K.Keep.tables c.self.inside.keep in
    let written = c.in-Ok.ensures.ok is in
    let can = rw (← c.self.view_is) at c.requires in
    record {
      devices = c.follow_devices.ensures c.args.writes.now t (g.K.Keep.tables c.commit.new.self) (c.fact_ascending.ensures was).devices
          (c.change_of-old.ensures t.devices right.device) written right.devices;
      left = c.follow_given.ensures t (g.K.Keep.tables c.commit.new.self) (can was) written right.left;
      device = tt;
    }

pub invariant_of-self-in-Err : goal.invariant_of-self-in-Err
invariant_of-self-in-Err g c = λ is.
    let right = c.self.invariant (c.commit.ensures.was_open is) in
    rw (c.in-Err.ensures.err is) (record { devices = right.devices; left = right.left; device = tt })
