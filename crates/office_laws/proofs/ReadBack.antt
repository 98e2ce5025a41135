-- A read-back keeps of its device what its map asks for.
use Rattle.std.proofs.Common.{◌≡◌, ◌∙◌, ◌++◌, ℕ, Bool, true, false, List, [], ◌∷◌, Option, Some, None, refl, sym, ap, subst, ◌&&◌, ◌||◌, not, is_some}
use Rattle.std.proofs.Common.{if◌then◌else◌}
use Rattle.std.specs.List.{AllByRecursion}
use Rattle.std.specs.Option.{option_or}
use Rattle.std.specs.FinMap as table
use Rattle.std.specs.FinSet as set
use Rattle.std.proofs.SliceLists.{all_by_recursion_push}
use Rattle.fusemap_core.specs.Prelude.{IsMap, Map}
use Rattle.fuse_image.specs.Image as image
use Rattle.fuse_image.specs.Prelude.{IsImageWithin, KeyTable, table_where, keys_without, Positions, pos_exact, pos_total, AreBits, AreKeysOf, IsPending}
use Rattle.office_laws.proofs.Types.{Image, ReadBack, Pending, Verdict, Batches, Neither, Device, DeviceState, Entry, OfCustomer}
use Rattle.fuse_plan.specs.declared.verdict.Verdict.TheVariants.{Fault, Match, Short}
use Rattle.office_tables.specs.declared.rows.Batches.TheVariants.{Both, Second}
use Rattle.fuse_image.specs.Keys as keys
use Rattle.fuse_image.proofs.Tables.{get_within, same_table}
use Rattle.fuse_columns.specs.Prelude.{bits_column, image_in, keys_column, todo_column, pending_in}
use Rattle.fuse_columns.proofs.LawProofs.{bits_come_back, bits_lie_in_map, image_comes_back, keys_come_back, keys_lie_in_map, work_comes_back, work_lies_in_map}
use Rattle.fuse_image.proofs.InMap.{sets_stay, tables_stay}
use Rattle.fuse_plan.specs.Prelude.{image_after, short_bits, short_keys, verdict_of, PendingFitsImage, is_no_fault, rest_of}
use Rattle.fuse_plan.proofs.InMap.{rests_in_map}
use Rattle.fuse_plan.proofs.Pending.{first_rest_law, rest_law, second_rest_law}
use Rattle.office_tables.specs.Prelude.{state_row}
use Rattle.office_tables.proofs.Placing.{all_map}
use Rattle.office_rules.specs.Prelude.{known_of, next_batch, pending_after, reads_redacted, state_after, verdict_of_read_back, with_rest}
use Rattle.office_laws.specs.Prelude.{IsAwaited, IsOfBatches, AreColumns}
use Rattle.office_laws.proofs.Additions.{all_added_with}
use Rattle.office_laws.proofs.Plan.{of_its_state}
use Rattle.office_laws.proofs.Registration.{no_work_lies, nothing_pending}
use Rattle.office_laws.proofs.Keeping.{Keeps}
use Rattle.office_laws.proofs.Within.{left_within, within_after, within_both}

-- what is known, with what a read-back added to it, is what is known after it
or_added : (a b : Bool) → (a || ((a || b) && not a)) ≡ (a || b)
or_added true b = refl
or_added false true = refl
or_added false false = refl

bits_added : (s t : Positions) → set.union s (set.difference (set.union s t) s) ≡ set.union s t
bits_added s t = set.same_set pos_total pos_exact (set.union s (set.difference (set.union s t) s)) (set.union s t)
    (λ p. set.contains-union pos_total s (set.difference (set.union s t) s) p
    ∙ (ap (λ b. set.contains s p || b) (set.contains-difference pos_total (set.union s t) s p ∙ ap (λ b.
    b && not (set.contains s p)) (set.contains-union pos_total s t p))
    ∙ (or_added (set.contains s p) (set.contains t p) ∙ sym (set.contains-union pos_total s t p))))

key_added : (a b : Option (List ℕ)) → option_or a (if is_some a then None else option_or a b) ≡ option_or a b
key_added None b = refl
key_added (Some x) b = refl

keys_added : (t u : KeyTable) → keys.keys_union t (keys_without (keys.keys_union t u) t) ≡ keys.keys_union t u
unfolding keys.keys_union keys_without
keys_added t u = same_table
    (λ b. option_or (table.get t b) (table.get (table_where (λ c.
    if is_some (table.get t c) then None else table.get (table_where (λ e. option_or (table.get t e) (table.get u e))) c)) b))
    (λ b. option_or (table.get t b) (table.get u b))
    (λ b low. ap (option_or (table.get t b)) (get_within (λ c.
    if is_some (table.get t c) then None else table.get (table_where (λ e. option_or (table.get t e) (table.get u e))) c) b low
    ∙ ap (λ x. if is_some (table.get t b) then None else x) (get_within (λ e. option_or (table.get t e) (table.get u e)) b low))
    ∙ key_added (table.get t b) (table.get u b))

module _ (m : Map) (a : Image) (r : ReadBack) where
  abbrev verdict : Batches → Pending → Verdict
  verdict b w = verdict_of m a (next_batch b w).burnt (next_batch b w).keys r

  -- what a read-back without a fault leaves of its batch
  rest_is : (b : Batches) (w : Pending) (v : Verdict) → verdict b w ≡ v → is_no_fault v ≡ true
      → rest_of v ≡ record { burnt = short_bits (next_batch b w).burnt r.ones; keys = short_keys a.keys (next_batch b w).keys r.shown }
  rest_is b w v e right = ap rest_of (sym e) ∙ rest_law m a (next_batch b w).burnt (next_batch b w).keys r (ap is_no_fault e ∙ right)

  -- it is pending on the chip as it is then, goes with the batches, and lies in the map
  rest_fits : (b : Batches) (w : Pending) → IsOfBatches b w → PendingFitsImage m a w → (v : Verdict) → verdict b w ≡ v → is_no_fault v ≡ true
      → PendingFitsImage m (image_after a r) (with_rest b (rest_of v) w)
  rest_fits Both w its pending v e right =
      subst (λ (x : Image). PendingFitsImage m (image_after a r) (with_rest Both x w)) (sym (rest_is Both w v e right))
      (first_rest_law m a w r pending (ap is_no_fault e ∙ right))
  rest_fits Second w its pending v e right =
      subst (λ (x : Image). PendingFitsImage m (image_after a r) (with_rest Second x w)) (sym (rest_is Second w v e right)) (second_rest_law m a w r pending)
  rest_fits Neither w its pending v e right = subst (PendingFitsImage m (image_after a r)) (sym its) (nothing_pending m (image_after a r))

  rest_stays : (b : Batches) (rest : Image) (w : Pending) → IsOfBatches b w → IsOfBatches b (with_rest b rest w)
  rest_stays Both rest w its = tt
  rest_stays Second rest w its = (refl, refl)
  rest_stays Neither rest w its = its

  rest_lies : (b : Batches) (w : Pending) → IsPending m w → (v : Verdict) → verdict b w ≡ v → is_no_fault v ≡ true
      → IsPending m (with_rest b (rest_of v) w)
  rest_lies Both w lies v e right = subst (λ (x : Image). IsPending m (with_rest Both x w)) (sym (rest_is Both w v e right)) (rests_in_map m a w r lies).0
  rest_lies Second w lies v e right =
      subst (λ (x : Image). IsPending m (with_rest Second x w)) (sym (rest_is Second w v e right)) (rests_in_map m a w r lies).1
  rest_lies Neither w lies v e right = lies

  -- what is pending after any read-back goes with the device's state, and is pending on the chip as it is then
  pub awaited_after : (state : DeviceState) (w : Pending) → IsAwaited m a state w → (v : Verdict) → verdict (state_row state).pending w ≡ v
      → IsAwaited m (image_after a r) (state_after v state w) (pending_after v state w)
  awaited_after state w was (Fault fault) e = record { by_state = refl; pending = nothing_pending m (image_after a r) }
  awaited_after state w was Match e = record {
    by_state = of_its_state (pending_after Match state w);
    pending = rest_fits (state_row state).pending w was.by_state was.pending Match e refl;
  }
  awaited_after state w was (Short left) e = record {
    by_state = rest_stays (state_row state).pending left w was.by_state;
    pending = rest_fits (state_row state).pending w was.by_state was.pending (Short left) e refl;
  }

  pub lies_after : (state : DeviceState) (w : Pending) → IsPending m w → (v : Verdict) → verdict (state_row state).pending w ≡ v
      → IsPending m (pending_after v state w)
  lies_after state w lies (Fault fault) e = no_work_lies m
  lies_after state w lies v e = rest_lies (state_row state).pending w lies v e refl

module _ (m : Map) (is : IsMap m) (d : Device) (r : ReadBack) where
  pub read_keeps : AreBits m r.ones → AreKeysOf m r.shown → d.serial ≡ None → Keeps m d (reads_redacted r m d).0
  read_keeps ones shown unnumbered =
      let a : Image = known_of m d in
      let b : Image = image_after a r in
      let w : Pending = pending_in m d.todo in
      let v : Verdict = verdict_of_read_back r m d in
      let burnt : AreBits m b.burnt = (sets_stay m).union a.burnt r.ones (bits_lie_in_map m d.bits) ones in
      let known : AreKeysOf m b.keys = (tables_stay m).joined a.keys r.shown (keys_lie_in_map m d.keys) shown in
      let new_bits : AreBits m (set.difference b.burnt a.burnt) = (sets_stay m).difference b.burnt a.burnt burnt in
      let new_keys : AreKeysOf m (keys_without b.keys a.keys) = (tables_stay m).without b.keys a.keys known in
      let back : image_in m (bits_column m b.burnt) (keys_column m b.keys) ≡ b = image_comes_back m is b burnt known in
      let added : image_in m (bits_column m (set.difference b.burnt a.burnt)) (keys_column m (keys_without b.keys a.keys))
      ≡ record { burnt = set.difference b.burnt a.burnt; keys = keys_without b.keys a.keys } =
      image_comes_back m is (record { burnt = set.difference b.burnt a.burnt; keys = keys_without b.keys a.keys }) new_bits new_keys in
      let lies : IsPending m (pending_after v d.state w) = lies_after m a r d.state w (work_lies_in_map m d.todo) v refl in
      let work_back : pending_in m (todo_column m (pending_after v d.state w))
      ≡ pending_after v d.state w = work_comes_back m is (pending_after v d.state w) lies in
      record {
        chip = refl;
        order = refl;
        map = refl;
        serial = λ serial has. has;
        burnt = subst (IsImageWithin a) (sym back) (within_after m a r (keys_lie_in_map m d.keys));
        numbered = λ has. let none : is_some d.serial ≡ false = ap is_some unnumbered in cc (none, has);
        kept = λ es e same_bits same_keys was. record {
          columns =
              record { bits_back = ap (bits_column m) (bits_come_back m is b.burnt burnt); keys_back = ap (keys_column m) (keys_come_back m b.keys known) };
          todo_back = ap (todo_column m) work_back;
          entries_columns = all_by_recursion_push (λ (x : OfCustomer Entry). AreColumns m x.row.bits x.row.keys) es e was.entries_columns
              (rw (same_bits, same_keys) (record {
                bits_back = ap (bits_column m) (bits_come_back m is (set.difference b.burnt a.burnt) new_bits);
                keys_back = ap (keys_column m) (keys_come_back m (keys_without b.keys a.keys) new_keys);
              }));
          within =
              let before : IsImageWithin a b = within_after m a r (keys_lie_in_map m d.keys) in
              let new : IsImageWithin (record { burnt = set.difference b.burnt a.burnt; keys = keys_without b.keys a.keys }) b = left_within b a.burnt a.keys in
              let old : AllByRecursion (λ (x : OfCustomer Entry). IsImageWithin (image_in m x.row.bits x.row.keys) b) es =
              all_map (λ (x : OfCustomer Entry). IsImageWithin (image_in m x.row.bits x.row.keys) a)
              (λ (x : OfCustomer Entry). IsImageWithin (image_in m x.row.bits x.row.keys) b)
              (λ x is. within_both (image_in m x.row.bits x.row.keys) a b is before) es was.within in
              let one : IsImageWithin (image_in m e.row.bits e.row.keys) b =
              rw (same_bits, same_keys) (subst (λ (x : Image). IsImageWithin x b) (sym added) new) in
              subst (λ (now : Image). AllByRecursion (λ (x : OfCustomer Entry). IsImageWithin (image_in m x.row.bits x.row.keys) now) (es ++ e ∷ []))
              (sym back) (all_by_recursion_push (λ (x : OfCustomer Entry). IsImageWithin (image_in m x.row.bits x.row.keys) b) es e old one);
          added =
              let one : image_in m e.row.bits e.row.keys ≡ record { burnt = set.difference b.burnt a.burnt; keys = keys_without b.keys a.keys } =
              rw (same_bits, same_keys) added in
              let joined : image.image_union a (record { burnt = set.difference b.burnt a.burnt; keys = keys_without b.keys a.keys }) ≡ b =
              λ i. record { burnt = bits_added a.burnt r.ones i; keys = keys_added a.keys r.shown i } in
              all_added_with m es e ∙ ((λ i. image.image_union (was.added i) (one i)) ∙ (joined ∙ sym back));
          pending =
              let after : IsAwaited m b (state_after v d.state w) (pending_after v d.state w) = awaited_after m a r d.state w was.pending v refl in
              subst (λ (x : Image). IsAwaited m x (state_after v d.state w) (pending_in m (todo_column m (pending_after v d.state w)))) (sym back)
              (subst (IsAwaited m b (state_after v d.state w)) (sym work_back) after);
        };
      }
