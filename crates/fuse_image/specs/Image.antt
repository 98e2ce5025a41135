-- Images of chips: burnt positions, and a table of the digests of keys.
use Rattle.std.specs.Prelude.{◌≡◌, Bool, true, ◌&&◌, not, None, if◌then◌else◌}
use Rattle.std.specs.FinSet as set
use Rattle.std.specs.FinMap as map
use Rattle.fusemap_core.specs.Prelude.{Map}
use Rattle.fuse_image.specs.declared.image.Image.{Image}
use Rattle.fuse_image.specs.Places.{is_empty}
use Rattle.fuse_image.specs.Keys as keys
use Rattle.fuse_image.specs.Keys.{AreAmong, has_no_key, table_where}
use Rattle.fuse_image.specs.Locks.{is_hidden, is_hidden_key}

-- what is in one of two images: where both have a key, the first one's
abbrev pub image_union : Image → Image → Image
image_union a b = record { burnt = set.union a.burnt b.burnt; keys = keys.keys_union a.keys b.keys }

-- the positions of the first image that the second hasn't, and the keys of the blocks at which the second has none
abbrev pub image_without : Image → Image → Image
image_without a b = record { burnt = set.difference a.burnt b.burnt; keys = keys.keys_without a.keys b.keys }

-- the second image has each position and each key of the first
pub record IsImageWithin (a b : Image) : Type 0 where
  pub burnt : set.is_subset a.burnt b.burnt ≡ true
  pub keys : AreAmong a.keys b.keys

-- the image has neither a position nor a key
abbrev pub has_nothing : Image → Bool
has_nothing a = is_empty a.burnt && has_no_key a.keys

-- what a chip shows: the positions and the keys that its own locks don't hide
abbrev pub visible : Map → Image → Image
visible m a = record {
  burnt = set.retain a.burnt (λ p. not (is_hidden m a.burnt p));
  keys = table_where (λ b. if is_hidden_key m a.burnt b then None else map.get a.keys b);
}
