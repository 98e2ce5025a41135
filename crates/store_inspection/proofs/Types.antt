-- The types that code declares and proofs here name, passed on from one place. Declares nothing.
pub use Rattle.store_inspection.specs.declared.meta.Meta.{Meta}
pub use Rattle.store_inspection.specs.declared.version.Version.{Version}
pub use Rattle.store_inspection.specs.declared.version.Version.TheVariants.{V1a, V2, V3}
