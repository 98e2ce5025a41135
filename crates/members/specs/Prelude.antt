-- The words of this crate, passed on from one place. Declares nothing.
pub use Rattle.members.specs.Json.{json_items, json_of, number_within, text_or_null, whole_member}
pub use Rattle.members.specs.Toml.{document_of, if_there, integer_within, items_in, name_in, toml_items, whole_within}
