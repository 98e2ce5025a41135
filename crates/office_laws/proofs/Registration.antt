-- A device as it is registered is what its fuse map asks for.
use Rattle.std.proofs.Common.{◌≡◌, ◌∙◌, ℕ, List, [], ◌∷◌, Option, Some, None, Ok, Err, refl, sym, ap, subst, is_some, option_and_then, Result, nat_cmp}
use Rattle.std.specs.Result.{result_ok}
use Rattle.std.specs.FinMap as table
use Rattle.std.specs.FinSet as set
use Rattle.office_laws.proofs.Types.{MapFault, Image, ReadBack, OfCustomer, Entry, NewDevice}
use Rattle.office_tables.specs.declared.rows.DeviceState.TheVariants.{Registered}
use Rattle.fusemap_core.specs.Prelude.{IsMap, Map, map_in, map_read}
use Rattle.fusemap_core.proofs.Reading.{IsMapText-from_read}
use Rattle.fuse_image.specs.Prelude.{pos_cmp, WordsFitMap, redacted, ReadBackInMap, IsPending, no_pending}
use Rattle.fuse_columns.specs.Prelude.{bits_column, bits_in, image_in, keys_column, keys_in, todo_column, pending_in}
use Rattle.fuse_columns.proofs.LawProofs.{bits_come_back, keys_come_back, work_comes_back}
use Rattle.fuse_image.proofs.InMap.{read_backs_in_map, sets_stay, tables_stay}
use Rattle.office_rules.specs.Prelude.{device_of_registration}
use Rattle.fuse_plan.specs.Prelude.{PendingFitsImage}
use Rattle.office_laws.specs.Prelude.{IsAwaited, AreColumns, FitsFuseMap}
use Rattle.office_laws.proofs.DeviceRows.{columns_alone}
use Rattle.office_laws.proofs.Within.{within_itself}

-- the fuse map of a text is a map
read_is_map : (text : List ℕ) (m : Map) (read : Result Map MapFault) → map_read text ≡ read → result_ok read ≡ Some m → IsMap m
read_is_map text m (Ok found) e is = let same : found ≡ m = cc in (IsMapText-from_read text m (e ∙ ap (λ (x : Map). Ok x) same)).is_map
read_is_map text m (Err fault) e is = cc

pub map_in_is_map : (text : List ℕ) (m : Map) → map_in text ≡ Some m → IsMap m
unfolding map_in
map_in_is_map text m is = read_is_map text m (map_read text) refl is

pub found_is_map : (text : Option (List ℕ)) (m : Map) → option_and_then map_in text ≡ Some m → IsMap m
found_is_map None m is = cc
found_is_map (Some text) m is = map_in_is_map text m is

-- no work lies in a map, and is pending on every chip
pub no_work_lies : (m : Map) → IsPending m no_pending
no_work_lies m = record { first = (sets_stay m).none; second = (sets_stay m).none; keys = (tables_stay m).none }

pub nothing_pending : (m : Map) (known : Image) → PendingFitsImage m known no_pending
nothing_pending m known = record {
  new_first = λ p there. let none = set.contains-empty pos_cmp p in cc (none, there);
  new_second = λ p there. let none = set.contains-empty pos_cmp p in cc (none, there);
  plain = λ p there. let none = set.contains-empty pos_cmp p in cc (none, there);
  locks = λ p there. let none = set.contains-empty pos_cmp p in cc (none, there);
  new_keys = λ block there. let none = ap is_some (table.get-empty {X = List ℕ} nat_cmp block) in cc (none, there);
  keys = ((tables_stay m).none).keys;
  in_sight = record {
    bits = λ p there. let none = set.contains-empty pos_cmp p in cc (none, there);
    keys = λ block there _. let none = ap is_some (table.get-empty {X = List ℕ} nat_cmp block) in cc (none, there);
  };
}

pub registered_kept : (m : Map) → IsMap m → (d : NewDevice) → WordsFitMap m d.blocks → (e : OfCustomer Entry)
    → e.row.bits ≡ (device_of_registration m d (redacted m d.blocks)).bits → e.row.keys ≡ (device_of_registration m d (redacted m d.blocks)).keys
    → FitsFuseMap m (device_of_registration m d (redacted m d.blocks)) (e ∷ [])
registered_kept m is d fit e same_bits same_keys =
    let r : ReadBack = redacted m d.blocks in
    let lies : ReadBackInMap m d.blocks = read_backs_in_map m d.blocks fit in
    let bits : bits_in m (bits_column m r.ones) ≡ r.ones = bits_come_back m is r.ones lies.ones in
    let keys : keys_in m (keys_column m r.shown) ≡ r.shown = keys_come_back m r.shown lies.shown in
    let work : pending_in m (todo_column m no_pending) ≡ no_pending =
    work_comes_back m is no_pending (no_work_lies m) in
    let columns : AreColumns m (bits_column m r.ones) (keys_column m r.shown) =
    record { bits_back = ap (bits_column m) bits; keys_back = ap (keys_column m) keys } in
    record {
      columns = columns;
      todo_back = ap (todo_column m) work;
      entries_columns = (rw (same_bits, same_keys) columns, tt);
      within = (rw (same_bits, same_keys) (within_itself (image_in m (bits_column m r.ones) (keys_column m r.shown))), tt);
      added = rw (same_bits, same_keys) (columns_alone m (bits_column m r.ones) (keys_column m r.shown));
      pending =
          subst (IsAwaited m (image_in m (bits_column m r.ones) (keys_column m r.shown)) Registered) (sym work)
          (record { by_state = refl; pending = nothing_pending m _ });
    }
