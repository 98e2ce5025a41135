use Rattle.text_core.proofs.Shorts.{IsShortText-copied}
use Rattle.text_core.proofs.short_text.ShortText.copy_of.Goals as goal

pub invariant_of-result : goal.invariant_of-result
invariant_of-result g c =
    rw (c.copy_from_slice.ensures.after, c.as_bytes.ensures.value) (IsShortText-copied g.row.N c.args.text.now c.utf8.text c.requires)
