use Rattle.std.proofs.Common.{ap, ◌∙◌}
use Rattle.fuse_image.specs.Prelude.{has_no_key}
use Rattle.fuse_image.proofs.Tables.{no_digest}
use Rattle.fuse_image.proofs.keys.Keys.is_empty.Goals as goal

pub returns : goal.returns
returns c = c.are_none.ensures ∙ no_digest _ c.self.invariant ∙ ap has_no_key c.self.view_is
