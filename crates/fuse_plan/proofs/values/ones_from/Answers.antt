use Rattle.std.proofs.Common.{◌∙◌}
use Rattle.fuse_plan.specs.Prelude.{is_one_from}
use Rattle.fuse_plan.proofs.Windows.{words_are}
use Rattle.fuse_plan.proofs.values.ones_from.Goals as goal

pub returns : goal.returns
returns c = c.from_words.ensures ∙ words_are c.words_from.result (is_one_from c.args.value.now c.args.first) c.words_from.ensures
