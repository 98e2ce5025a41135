-- What a chip shows, and what a read-back says of a batch.
use Rattle.std.specs.Prelude.{ℕ, Bool, true, false, ◌&&◌, ◌||◌, not, List, Option, Some, None, is_some, if◌then◌else◌, bytes_eq}
use Rattle.std.specs.FinSet as set
use Rattle.std.specs.FinMap as map
use Rattle.fusemap_core.specs.Prelude.{Map}
use Rattle.fuse_image.specs.Image as image
use Rattle.fuse_image.specs.Prelude.{KeyTable, has_no_key, keys_union, keys_without, is_hidden, is_hidden_key, Positions, is_empty, some_key}
use Rattle.fuse_image.specs.declared.image.Image.{Image}
use Rattle.fuse_image.specs.declared.redaction.ReadBack.{ReadBack}
use Rattle.fuse_plan.specs.declared.verdict.Verdict.{Verdict}
use Rattle.fuse_plan.specs.declared.verdict.Verdict.TheVariants.{Match, Short, Fault}
use Rattle.fuse_plan.specs.declared.verdict.ChipFault.TheVariants.{Lost, Stray, Key}

-- what a chip shows when it is read back, by what is burnt in it: all that its read locks don't hide
abbrev pub seen : Map → Image → ReadBack
seen m a = record { ones = (image.visible m a).burnt; shown = (image.visible m a).keys }

-- lost: the positions that were burnt, aren't read-protected by what is burnt after the read-back, and read 0
unfoldable pub lost : Map → Positions → Positions → Positions → Positions
lost m after burnt ones = set.retain burnt (λ p. not (is_hidden m after p) && not (set.contains ones p))

-- stray: the positions that read 1 and were neither burnt nor in the batch, or are read-protected
unfoldable pub stray : Map → Positions → Positions → Positions → Positions → Positions
stray m after burnt batch ones =
    set.retain ones (λ p. not (set.contains (set.union burnt batch) p) || is_hidden m after p)

-- a digest is shown, and it is this one
abbrev pub is_digest : List ℕ → Option (List ℕ) → Bool
is_digest digest None = false
is_digest digest (Some shown) = bytes_eq digest shown

-- a readable key block shows another than its known key or nothing; or, where none was known, a key that the batch doesn't ask for
abbrev pub is_other : Option (List ℕ) → Option (List ℕ) → Option (List ℕ) → Bool
is_other (Some known) asked shown = not (is_digest known shown)
is_other None asked None = false
is_other None None (Some shown) = true
is_other None (Some asked) (Some shown) = not (bytes_eq asked shown)

-- a key block that is read-protected shows a key, or a readable one doesn't show what it should
unfoldable pub is_bad_key : Map → Positions → KeyTable → KeyTable → KeyTable → ℕ → Bool
is_bad_key m after known asked shown b =
    if is_hidden_key m after b then is_some (map.get shown b) else is_other (map.get known b) (map.get asked b) (map.get shown b)

-- short: the positions of the batch that read 0, and the keys of the batch that are neither known nor shown
unfoldable pub short_bits : Positions → Positions → Positions
short_bits batch ones = set.difference batch ones

unfoldable pub short_keys : KeyTable → KeyTable → KeyTable → KeyTable
short_keys known asked shown = keys_without (keys_without asked known) shown

-- a match where nothing is left of the batch, and else short, with this rest
abbrev pub short_or_match : Image → Verdict
short_or_match rest = if not (is_empty rest.burnt) || not (has_no_key rest.keys) then Short rest else Match

-- the first of lost, stray, key and short that holds, else a match, by the read locks of what is burnt after the read-back
abbrev pub verdict_under : Map → Positions → Image → Positions → KeyTable → ReadBack → Verdict
verdict_under m after a batch asked r =
    if not (is_empty (lost m after a.burnt r.ones)) then Fault Lost
    else if not (is_empty (stray m after a.burnt batch r.ones)) then Fault Stray
    else if some_key m (is_bad_key m after a.keys asked r.shown) then Fault Key
    else short_or_match (record { burnt = short_bits batch r.ones; keys = short_keys a.keys asked r.shown })

-- the verdict of a read-back on a batch: what is burnt after it is what was burnt and what reads 1
abbrev pub verdict_of : Map → Image → Positions → KeyTable → ReadBack → Verdict
verdict_of m a batch asked r = verdict_under m (set.union a.burnt r.ones) a batch asked r

-- what is known to be burnt after a read-back: what reads 1 is added, and keys of key blocks of which none was known
abbrev pub image_after : Image → ReadBack → Image
image_after a r = record { burnt = set.union a.burnt r.ones; keys = keys_union a.keys r.shown }
