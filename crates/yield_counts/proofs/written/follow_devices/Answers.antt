use Rattle.std.proofs.Common.{◌∙◌, ap, subst, sym}
use Rattle.yield_counts.specs.Counting.{AreCounted}
use Rattle.yield_counts.proofs.Following.{by_writes, put_each}
use Rattle.yield_counts.proofs.written.follow_devices.Goals as goal

pub returns-in-Nothing : goal.returns-in-Nothing
returns-in-Nothing c = λ writes t after ascending change is right.
    let none = rw c.in-Nothing.is at change in
    let same = by_writes writes t after is ∙ ap (λ ds. put_each ds t.devices) none in
    subst (λ rows. AreCounted rows c.args.counts.now) (sym same) right

pub returns-in-One : goal.returns-in-One
returns-in-One c = λ writes t after ascending change is right.
    let one = rw c.in-One.is at change in
    let put = by_writes writes t after is ∙ ap (λ ds. put_each ds t.devices) one.0 in
    subst (λ rows. AreCounted rows c.put.new.self) (sym put) (c.put.ensures t.devices ascending one.1 right)
