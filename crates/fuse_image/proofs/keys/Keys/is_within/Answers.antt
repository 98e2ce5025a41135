use Rattle.fuse_image.specs.Prelude.{AreAmong, table}
use Rattle.fuse_image.proofs.Tables.{AreAmong-from_each, each_among-from_tables}
use Rattle.fuse_image.proofs.keys.Keys.is_within.Goals as goal

pub returns : goal.returns
returns c =
    let own = c.self.inside.digests in
    let others = c.other.inside.digests in (
      λ is. rw (← c.self.view_is, ← c.other.view_is) (AreAmong-from_each own others (c.are_among.ensures.0 is)),
      λ among.
          let of_tables : AreAmong (table own) (table others) = rw (c.self.view_is, c.other.view_is) among in
          c.are_among.ensures.1 (each_among-from_tables own others of_tables),
    )
