use Rattle.std.proofs.Common.{sym, ap, ◌∙◌}
use Rattle.fuse_image.specs.Prelude.{words_of_set, words_again}
use Rattle.fuse_image.proofs.bits.Bits.to_words.Goals as goal

pub returns : goal.returns
returns c = sym (words_again c.self.inside.words c.self.invariant) ∙ ap words_of_set c.self.view_is
