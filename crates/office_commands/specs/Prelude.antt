-- The words of this crate, passed on from one place. Declares nothing.
pub use Rattle.office_commands.specs.Asked.{HasDigest, IsAction, IsAsked, IsChange, IsCommand}
pub use Rattle.office_commands.specs.DeviceReplies.{batch_data, bits_data, device_data, entry_by, entry_data, fields_of, image_by, items_of, key_at, keys_data}
pub use Rattle.office_commands.specs.DeviceReplies.{devices_data, listed_data}
pub use Rattle.office_commands.specs.DeviceReplies.{ledger_data, pending_by, pending_data, with_digest, with_key_members, word_data, word_list}
unfoldable pub use Rattle.office_commands.specs.DeviceReplies.{device_body, devices_body, ledger_body}
pub use Rattle.office_commands.specs.IdentityReplies.{idevid_in, identity_data, import_data, state_data}
unfoldable pub use Rattle.office_commands.specs.IdentityReplies.{identity_body, import_body, state_body}
pub use Rattle.office_commands.specs.NewOrders.{IsNewOrder}
pub use Rattle.office_commands.specs.Refusals.{numbered_body, refusal_body, refusal_number, refusal_row, refusal_status, RefusalRow, TellsNumber, unkept}
pub use Rattle.office_commands.specs.Refusals.{told_before, told_behind}
pub use Rattle.office_commands.specs.Replies.{acceptance, map_data, members_of, order_data, refusal, text_data, whole_data}
unfoldable pub use Rattle.office_commands.specs.Replies.{map_body, order_body}
pub use Rattle.office_commands.specs.StepReplies.{outcome_data, plan_data}
unfoldable pub use Rattle.office_commands.specs.StepReplies.{outcome_body, plan_body}
pub use Rattle.office_commands.specs.Wholes.{IsRequestNumber, largest_whole}
