-- The types that code declares and proofs here name, passed on from one place. Declares nothing.
pub use Rattle.fuse_image.specs.declared.image.Image.{Image}
pub use Rattle.fuse_image.specs.declared.pending.Pending.{Pending}
pub use Rattle.fuse_image.specs.declared.redaction.ReadBack.{ReadBack}
pub use Rattle.fuse_plan.specs.declared.fault.PlanFault.{PlanFault}
pub use Rattle.fuse_plan.specs.declared.fault.PlanFault.TheVariants.{UnknownField}
pub use Rattle.fuse_plan.specs.declared.verdict.ChipFault.{ChipFault}
pub use Rattle.fuse_plan.specs.declared.verdict.ChipFault.TheVariants.{Lost, Stray}
pub use Rattle.fuse_plan.specs.declared.verdict.Verdict.{Verdict}
pub use Rattle.fuse_plan.specs.declared.verdict.Verdict.TheVariants.{Fault, Match, Short}
pub use Rattle.fuse_plan.specs.declared.wants.Wants.{Wants}
pub use Rattle.fuse_plan.specs.declared.wish.Want.{Want}
pub use Rattle.fuse_plan.specs.declared.wish.Want.TheVariants.{Bit, Key, ReadLock, Value, WriteLock}
pub use Rattle.fuse_plan.specs.declared.wish.Wish.{Wish}
pub use Rattle.fusemap_core.specs.declared.field.Field.{Field}
pub use Rattle.fusemap_core.specs.declared.pos.Pos.{Pos}
