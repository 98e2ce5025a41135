-- The words of this crate, passed on from one place. Declares nothing.
pub use Rattle.store_inspection.specs.Addresses.{address_texts, HasApartAddresses, HasNoRepeat, HasWalked, shows_again}
pub use Rattle.store_inspection.specs.Described.{bare, column_of_form, index_of, reference_of, schema_of_forms, table_of_form, with_columns, with_table_keys}
pub use Rattle.store_inspection.specs.Found.{HasOneValidityRowEach, AreValidityRowsFound, HasValidityRow, HasValidityRows, HasVersionSchema, HasWhole}
pub use Rattle.store_inspection.specs.Found.{HaveValidityRows, is_below, IsFound, IsFoundLater, IsNotBelow, Sees, HasNoValidityRow, Tests}
pub use Rattle.store_inspection.specs.Meta.{HasMeta, HoldsSite, IsMetaOf, IsOfSite, IsOurs, meta_in}
pub use Rattle.store_inspection.specs.Meta.{meta_of, meta_of_version, metas_in, ShowMeta, TellNoSite}
pub use Rattle.store_inspection.specs.SiteTexts.{HoldsSiteText, IsOnlyText, IsTextAt, ShowSiteTexts}
pub use Rattle.store_inspection.specs.Versions.{count_of, first_tables, given_indexes, given_keyed, IsBeforeV1, IsOfNoVersion, KeepsFirst, KeepsFirstBut}
pub use Rattle.store_inspection.specs.Versions.{number_of_version, rows_at, schema_keyed, schema_of}
