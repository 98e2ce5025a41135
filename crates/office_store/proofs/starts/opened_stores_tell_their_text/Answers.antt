use Rattle.std.proofs.Common.{sym, subst}
use Rattle.office_sql.proofs.Kit.{state}
use Rattle.store_inspection.specs.Prelude.{HoldsSite}
use Rattle.store_inspection.proofs.TextShows.{one_text}
use Rattle.office_store.proofs.starts.opened_stores_tell_their_text.Goals as goal

pub returns : goal.returns
returns g c = λ conn site only holds ours db may.
    let now = (state g.S.Store conn).now.trees in
    subst (HoldsSite site.text) (sym (only db may))
    (subst (λ text. HoldsSite text now) (one_text ours.text site.text now ours.tells.holds holds) ours.tells)
