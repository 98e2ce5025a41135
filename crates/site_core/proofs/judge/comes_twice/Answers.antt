use Rattle.text_core.proofs.Kit.{rules, ◌∙◌, IfOk, eq_by_cmp, IsFromIterResult, distinct_count, btree_set_len-from_list}
use Rattle.std.proofs.Common.{◌≡◌}
use Rattle.site_core.proofs.Pairs.{has_pair-from_count}
use Rattle.site_core.proofs.judge.comes_twice.Goals as goal

pub returns : goal.returns
returns g c =
    let made : IfOk c.collect.result (IsFromIterResult g.T.Ord.cmp c.args.items.now) = search rules in
    let there : IsFromIterResult g.T.Ord.cmp c.args.items.now c.in_ok-distinct.distinct = rw c.in_ok-distinct.was at made in
    let size : c.len.result ≡ distinct_count (eq_by_cmp g.T.Ord.cmp) c.args.items.now =
    c.len.ensures.len ∙ btree_set_len-from_list g.met.T.Ord.total c.args.items.now c.in_ok-distinct.distinct there in
    rw size (has_pair-from_count (eq_by_cmp g.T.Ord.cmp) c.args.items.now)
