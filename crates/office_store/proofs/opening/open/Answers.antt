use Rattle.std.proofs.Common.{ap, Err}
use Rattle.office_sql.proofs.Kit.{image_at}
use Rattle.office_store.proofs.TurnedAway.{why_refused}
use Rattle.office_store.proofs.opening.open.Goals as goal

-- the files are gone, and why they came back is told
pub returns-in-Err-clause-refused : goal.returns-in-Err-clause-refused
returns-in-Err-clause-refused g c =
    why_refused _ (image_at g.S.Start) c.args.absent c.args.site.now c.args.path.now c.in-Err.refused c.in-Err.ensures.refused

pub returns-in-Ok-clause-unnamed : goal.returns-in-Ok-clause-unnamed
returns-in-Ok-clause-unnamed g c = λ named. absurd (c.in-Ok.ensures.unnamed named)

pub returns-in-Err-clause-unnamed : goal.returns-in-Err-clause-unnamed
returns-in-Err-clause-unnamed g c = λ named. ap Err (c.in-Err.ensures.unnamed named)
