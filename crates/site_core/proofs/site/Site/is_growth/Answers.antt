use Rattle.site_core.proofs.Growing.{growth_if_managed, no_growth}
use Rattle.site_core.proofs.site.Site.is_growth.Goals as goal

pub returns-then-are_kept : goal.returns-then-are_kept
returns-then-are_kept c =
    let kept = rw (c.customers.ensures.same, c.customers-2.ensures.same) at c.are_kept.ensures in
    let managed = rw (c.manager.ensures, c.manager-then-are_kept.ensures) at c.keeps_manager.ensures in
    growth_if_managed c.args.self.now c.args.new.now c.are_kept.result c.keeps_manager.result kept c.if-are_kept.true managed

pub returns-else-are_kept : goal.returns-else-are_kept
returns-else-are_kept c =
    let kept = rw (c.customers.ensures.same, c.customers-2.ensures.same) at c.are_kept.ensures in
    no_growth c.args.self.now c.args.new.now c.are_kept.result kept c.if-are_kept.false
