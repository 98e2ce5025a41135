use Rattle.toml.specs.View.{view}
use Rattle.members.proofs.Reading.{wanted_from_given}
use Rattle.site_faults.proofs.Telling.{text_from_document}
use Rattle.site_faults.proofs.told.text_breach.Goals as goal

pub returns-in-Ok : goal.returns-in-Ok
returns-in-Ok c =
    text_from_document c.args.fault c.args.text.now (view c.in-Ok.document) c.document_breach.result c.if-text-gt-TEXT_LIMIT.false
    (wanted_from_given _ _ _ _ c.in-Ok.ensures) c.document_breach.ensures
