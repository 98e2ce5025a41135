-- What is burnt, by its columns.
use Rattle.std.specs.Prelude.{ℕ, List}
use Rattle.fusemap_core.specs.Prelude.{Map}
use Rattle.fuse_image.specs.declared.image.Image.{Image}
use Rattle.fuse_columns.specs.BitsColumns.{bits_in}
use Rattle.fuse_columns.specs.KeysColumns.{keys_in}

-- the image that two columns stand for, whatever their bytes are: the burnt positions, and the digests of the keys
abbrev pub image_in : Map → List ℕ → List ℕ → Image
image_in m bits keys = record { burnt = bits_in m bits; keys = keys_in m keys }
