use Rattle.std.proofs.Common.{ap, ◌∙◌, reverse}
use Rattle.httparse.specs.Grammar.{trim_ows, skip_ows}
use Rattle.http_frames.proofs.fields.trim.Goals as goal

pub returns : goal.returns
unfolding trim_ows
returns c = c.trim_end.ensures ∙ ap (λ s. reverse (skip_ows (reverse s))) c.trim_start.ensures
