use Rattle.std.proofs.Common.{◌≡◌, ◌∙◌, ◌+◌, ◌++◌, ◌∷◌, [], ap, sym, subst, take, take_all}
use Rattle.std.proofs.lemmas.List.{take_more}
use Rattle.office_tables.specs.Prelude.{IsFree, Tables, Written}
use Rattle.office_tables.proofs.Writing.{Written_last}
use Rattle.yield_counts.specs.Counts.{has_issued_in}
use Rattle.yield_counts.specs.Left.{AreLeft}
use Rattle.yield_counts.proofs.Following.{free_at}
use Rattle.yield_counts.proofs.written.follow_given.Goals as goal

pub loop-write-init : goal.loop-write-init
loop-write-init c = λ t mid can same right. subst (λ (x : Tables). AreLeft (has_issued_in x) c.args.counts.now) (sym same) right

pub loop-write-preserved : goal.loop-write-preserved
loop-write-preserved c = λ t mid can is right.
    let ws = c.args.writes.now in
    let i = c.loop-write.write-index in
    let w = c.write-item.result in
    let more : take (i + 1) ws ≡ take i ws ++ w ∷ [] =
    take_more ws i w c.loop-write-test.true ∙ ap (λ x. take i ws ++ x ∷ []) (sym c.write-item.is) in
    let last = Written_last (take i ws) w t mid (rw more at is) in
    let free : IsFree w last.0 = subst (λ x. IsFree x last.0) (sym c.write-item.is) (free_at ws t can i w c.loop-write-test.true last.0 last.1) in
    c.follow_write.ensures last.0 mid free last.2 (c.loop-write.invariant t last.0 can last.1 right)

pub returns : goal.returns
returns c = λ t after can is right.
    let all = take_all c.loop-write.write-index c.args.writes.now c.loop-write-test.false in
    c.loop-write.invariant t after can (subst (λ ws. Written ws t after) (sym all) is) right
