-- Nothing that is shown of devices has a float.
use Rattle.std.proofs.Common.{◌≡◌, ◌==◌, ◌∷◌, Ordering, if◌then◌else◌}
use Rattle.text_core.proofs.Kit.{ℕ, suc, Bool, true, false, List, [], map, Option, Some, None, option_map, Less, Equal, Greater, refl, or_from, or_parts}
use Rattle.text_core.proofs.Kit.{match_ordering}
use Rattle.std.specs.FinMap as table
use Rattle.serde_json.specs.Data.{Data, Members, no_members, member, put}
use Rattle.serde_json.specs.Written.{has_float, items_have_float, members_have_float}
use Rattle.fusemap_core.specs.declared.field.Field.{Field}
use Rattle.fusemap_core.specs.Prelude.{Map}
use Rattle.fuse_image.specs.declared.image.Image.{Image}
use Rattle.fuse_image.specs.Prelude.{KeyTable, Positions, words_of_set}
use Rattle.fuse_image.specs.declared.pending.Pending.{Pending}
use Rattle.office_tables.specs.Prelude.{reason_text, state_row}
use Rattle.office_tables.specs.declared.rows.Device.{Device}
use Rattle.office_tables.specs.declared.rows.DeviceState.{DeviceState}
use Rattle.office_tables.specs.declared.rows.NewEntry.{NewEntry}
use Rattle.office_tables.specs.declared.rows.Outcome.{Outcome}
use Rattle.office_commands.specs.Prelude.{text_data, outcome_data, plan_data, items_of, word_data, word_list, bits_data, key_at, with_digest, with_key_members}
use Rattle.office_commands.specs.Prelude.{keys_data, batch_data, device_data, entry_by, entry_data, fields_of, image_by, ledger_data, devices_data}
use Rattle.office_commands.specs.Prelude.{listed_data}

in_words_shown : (is_zero : Bool) (d : Data) (ds : List Data) → has_float d ≡ false → items_have_float (items_of ds) ≡ false
    → items_have_float (items_of (if is_zero then ds else d ∷ ds)) ≡ false
in_words_shown true d ds first others = others
in_words_shown false d ds first others = or_from _ _ first others

in_words : (place : ℕ) (words : List ℕ) → items_have_float (items_of (word_list place words)) ≡ false
in_words place [] = refl
in_words place (word ∷ words) = in_words_shown (word == 0) (word_data place word) (word_list (suc place) words) refl (in_words (suc place) words)

in_bits : (bits : Positions) → has_float (bits_data bits) ≡ false
in_bits bits = in_words 0 (words_of_set bits)

in_put_at : (o : Ordering) (k l : List ℕ) (d e : Data) (ms : Members) → has_float d ≡ false → has_float e ≡ false → members_have_float ms ≡ false
    → members_have_float (put k d ms) ≡ false
    → members_have_float (match_ordering o (member k d (member l e ms)) (member l d ms) (member l e (put k d ms))) ≡ false
in_put_at Less k l d e ms new old others later = or_from _ _ new (or_from _ _ old others)
in_put_at Equal k l d e ms new old others later = or_from _ _ new others
in_put_at Greater k l d e ms new old others later = or_from _ _ old later

-- a member that is no float leaves none
pub in_put : (k : List ℕ) (d : Data) (ms : Members) → has_float d ≡ false → members_have_float ms ≡ false → members_have_float (put k d ms) ≡ false
in_put k d no_members new others = or_from _ _ new refl
in_put k d (member l e ms) new others =
    let parts = or_parts (has_float e) (members_have_float ms) others in
    in_put_at _ k l d e ms new parts.0 parts.1 (in_put k d ms new parts.1)

in_digest : (name : List ℕ) (digest : Option (List ℕ)) (ms : Members) → members_have_float ms ≡ false → members_have_float (with_digest name digest ms) ≡ false
in_digest name None ms others = others
in_digest name (Some digest) ms others = in_put name _ ms refl others

in_fields : (keys : KeyTable) (fields : List Field) (ms : Members) → members_have_float ms ≡ false
    → members_have_float (with_key_members keys fields ms) ≡ false
in_fields keys [] ms others = others
in_fields keys (f ∷ fs) ms others = in_fields keys fs (with_digest f.name (key_at f keys) ms) (in_digest f.name (key_at f keys) ms others)

in_keys : (fields : List Field) (keys : KeyTable) → has_float (keys_data fields keys) ≡ false
in_keys fields keys = in_fields keys fields no_members refl

in_work : (fields : List Field) (bits : Positions) (keys : KeyTable) → has_float (batch_data fields bits keys) ≡ false
in_work fields bits keys = or_from _ _ (in_bits bits) (or_from _ _ (in_keys fields keys) refl)

in_text : (text : Option (List ℕ)) → has_float (text_data text) ≡ false
in_text None = refl
in_text (Some text) = refl

pub in_device : (fields : List Field) (burnt : Image) (pending : Pending) (d : Device) → has_float (device_data fields burnt pending d) ≡ false
in_device fields burnt pending d =
    or_from _ _ (in_bits burnt.burnt)
    (or_from _ _ (in_keys fields burnt.keys)
    (or_from _ _ (or_from _ _ (in_work fields pending.first pending.keys) (or_from _ _ (in_work fields pending.second table.empty) refl))
    (or_from _ _ (in_text (option_map reason_text (state_row d.state).reason)) (or_from _ _ (in_text d.serial) refl))))

in_entry : (fields : List Field) (added : Image) (e : NewEntry) → has_float (entry_data fields added e) ≡ false
in_entry fields added e = or_from _ _ (in_bits added.burnt) (or_from _ _ (in_keys fields added.keys) refl)

in_entries : (m : Option Map) (entries : List NewEntry) → items_have_float (items_of (map (entry_by m) entries)) ≡ false
in_entries m [] = refl
in_entries m (e ∷ es) = or_from _ _ (in_entry (fields_of m) (image_by m e.bits e.keys) e) (in_entries m es)

pub in_ledger : (m : Option Map) (chip : List ℕ) (entries : List NewEntry) → has_float (ledger_data m chip entries) ≡ false
in_ledger m chip entries = or_from _ _ (in_entries m entries) refl

in_listed : (d : Device) → has_float (listed_data d) ≡ false
in_listed d = or_from _ _ (in_text (option_map reason_text (state_row d.state).reason)) (or_from _ _ (in_text d.serial) refl)

in_list : (devices : List Device) → items_have_float (items_of (map listed_data devices)) ≡ false
in_list [] = refl
in_list (d ∷ ds) = or_from _ _ (in_listed d) (in_list ds)

pub in_devices : (devices : List Device) (next : Option (List ℕ)) → has_float (devices_data devices next) ≡ false
in_devices devices next = or_from _ _ (in_list devices) (or_from _ _ (in_text next) refl)

pub in_plan : (fields : List Field) (work : Pending) (state : DeviceState) → has_float (plan_data fields work state) ≡ false
in_plan fields work state = or_from _ _ (in_work fields work.first work.keys) (or_from _ _ (in_work fields work.second table.empty) refl)

pub in_outcome : (fields : List Field) (outcome : Outcome) (rest : Image) (state : DeviceState) → has_float (outcome_data fields outcome rest state) ≡ false
in_outcome fields outcome rest state = or_from _ _ (in_work fields rest.burnt rest.keys) refl
