-- What isn't there: it isn't found, and isn't taken out.
use Rattle.text_core.proofs.Kit.{Bor, Bool, true, false, cond, List, [], Option, Some, None, refl, sym, ap, find, is_some, is_eq, nat_list_cmp_total}
use Rattle.text_core.proofs.Kit.{option_copied, tied_itself}
use Rattle.std.proofs.Common.{◌≡◌, ◌∷◌, ◌∙◌}
use Rattle.office_tables.specs.Prelude.{device_cmp, is_device, with_row}
use Rattle.office_tables.specs.declared.rows.OfCustomer.{OfCustomer}
use Rattle.office_tables.specs.declared.rows.Device.{Device}
use Rattle.memory_keeper.specs.Prelude.{without}
use Rattle.memory_keeper.proofs.Keys.{without_device}
use Rattle.memory_keeper.proofs.MapNumbers.{without-placed_new}

-- what isn't there isn't found
pub none_copied : {A : Type 0} (found : Option (Bor A)) (rows : Option A) → is_some found ≡ false → option_copied found ≡ rows → rows ≡ None
none_copied None rows none is = sym is
none_copied (Some x) rows none is = cc

-- where nothing is found, nothing is taken out
pub without_none : {A : Type 0} (test : A → Bool) (xs : List A) → find test xs ≡ None → without test xs ≡ xs
without_none test [] none = refl
without_none test (x ∷ xs) none =
    elim (test x) as (λ b. cond b (Some x) (find test xs) ≡ None → cond b xs (x ∷ without test xs) ≡ x ∷ xs) [
      | true ↦ λ none. cc
      | false ↦ λ none. ap (λ rest. x ∷ rest) (without_none test xs none)
    ] none

-- a new device is placed and taken out again
pub without-placed_device : (d : OfCustomer Device) (rows : List (OfCustomer Device)) → find (λ y.
    is_eq (device_cmp d y)) rows ≡ None → without (is_device d.customer d.row.chip) (with_row device_cmp d rows) ≡ rows
without-placed_device d rows free =
    sym (without_device d.customer d.row.chip (with_row device_cmp d rows))
    ∙ without-placed_new device_cmp d rows (rw (tied_itself nat_list_cmp_total d.customer, tied_itself nat_list_cmp_total d.row.chip) refl) free
