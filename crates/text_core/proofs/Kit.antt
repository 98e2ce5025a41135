-- The words of the kit that are used here and above, and what this crate adds to them, passed on from one place. Declares nothing.
pub use Rattle.std.proofs.Common.{[], ◌∙◌, add-one, All, AllPairs, Any, ap, append-nil, append_assoc, ap₂, arith, bit_and, bit_or, Bool, Bor, bytes_eq, codes}
pub use Rattle.std.proofs.Common.{cond, Decides, decimal, drop, drop-drop, drop-set-lt, eqb, eqb-true, Equal, Err, false, filter, filter_map, find, flat_map}
pub use Rattle.std.proofs.Common.{fold, Greater, IfErr, IfNone, IfOk, IfSome, inl, inr, int_cmp, is_eq, is_ge, is_gt, is_lt, is_some, IsErr, IsErrAnd, IsOk}
pub use Rattle.std.proofs.Common.{IsOkAnd, IsPermutation, IsSome, IsSomeAnd, IsSorted, IsTrue, IsUtf8, le-ltb, length, length-append, length-drop, length-set}
pub use Rattle.std.proofs.Common.{length-take, length-take-le, Less, List, lit≤, ltb, ltb-false, map, map-id, MatchBool, MatchResult, max, min, nat_cmp, nat_eq}
pub use Rattle.std.proofs.Common.{nat_le, nat_lt, negsuc, None, not, Ok, ok_or, OnErr, OnOk, Option, option_and_then, option_copied, option_map, pos, position}
pub use Rattle.std.proofs.Common.{refl, remove, replicate, Result, rules, slice_get, slice_index, slice_index_or, slice_range, slice_set, Some, string_bytes}
pub use Rattle.std.proofs.Common.{subst, subst₂, suc, sum, swap, sym, take, take-append-drop, take_all, tests, true, true≢false, unwrap_or, Vec, vec_capacity}
pub use Rattle.std.proofs.Common.{vec_len, w32, w64, zero, zip, ℕ, ℤ}
pub use Rattle.std.proofs.DigitsParse.{digits_onto-nil, digits_onto_last, digits_onto_step}
pub use Rattle.std.proofs.Math.Bool.{and-or_distrib_left, and-true, or-false, or-true, or_assoc}
pub use Rattle.std.proofs.Math.Facts.{Fits-lt-pow}
pub use Rattle.std.proofs.Math.ListN.{drop_of_length-le}
pub use Rattle.std.proofs.Math.Logic.{∥∥₁_elim, ∥∥₁_map}
pub use Rattle.std.proofs.Math.Nat.{div-div-eq-div-mul, le-max_left, le-max_right, max-eq_left, max-le, mul-le-mul_right, pow-le-pow_right, pow-suc, pow-zero}
pub use Rattle.std.proofs.Math.Pow.{pow_mono}
pub use Rattle.std.proofs.Math.Seq.{drop-append_seam, get_or-append_seam, take-add, take-append_seam, take-suc}
pub use Rattle.std.proofs.lemmas.Bool.{and_from, and_left, and_parts, and_right, both_ways, cases_Bool, cases_eq, cases_lt, cases_order, cond-false, cond-true}
pub use Rattle.std.proofs.lemmas.Bool.{eq-eqb, eqb-false, false_from_ne_true, false≢true, le-leb, leb-false, leb-true, lt-leb, lt-ltb, ltb-true, ne_eqb}
pub use Rattle.std.proofs.lemmas.Bool.{not-false, not-true, not_from_false, not_from_true, or_cases, or_from, or_left, or_parts, or_right, true_from_ne_false}
pub use Rattle.std.proofs.lemmas.Bool.Decides.{Decides-and, Decides-by_and, Decides-eqb, Decides-like, Decides-ltb, Decides-not, nat_tests}
pub use Rattle.std.proofs.lemmas.Cmp.{alike_right, back_total, nat_list_cmp_total, nat_list_eq_equiv, on_total, then_total, tied_back, upto}
pub use Rattle.std.proofs.lemmas.Fmt.{decimal_by_steps, decimal_is_IsNumeral, length-decimal-le}
pub use Rattle.std.proofs.lemmas.Grind.{common_steps, flat_map-append, get_or-set_at}
pub use Rattle.std.proofs.lemmas.Int.{ints, to_z-of_z}
pub use Rattle.std.proofs.lemmas.Int.Digits.{digits_value-lt, digits_value_more, number_lt}
pub use Rattle.std.proofs.lemmas.Iterator.{YieldsList-from_slice, YieldsList-from_zip}
pub use Rattle.std.proofs.lemmas.Iterator.Search.{all_from_yields_List}
pub use Rattle.std.proofs.lemmas.List.{append_cancel_left, at_drop_all, drop-replicate, drop_at, drop_more, flat_map_more, get_or-drop, get_or-set_other}
pub use Rattle.std.proofs.lemmas.List.{get_or-set_same, get_or-take, get_or_append_left, get_or_default, get_or_past, get_or_push, get_or_read, length-map}
pub use Rattle.std.proofs.lemmas.List.{length-replicate, map-append, map-set, map_more, map_push, nil_from_length, replicate-append-replicate, same_lists}
pub use Rattle.std.proofs.lemmas.List.{set-get_or, set_split, take-map, take-replicate, take-take, take_at, take_more, take_rest}
pub use Rattle.std.proofs.lemmas.List.Concat.{get_or-flat_map}
pub use Rattle.std.proofs.lemmas.List.Elements.{All-append, All-cons, All-contains, All-drop, All-from_get_or, All-from_recursion, All-get_or, All-nil}
pub use Rattle.std.proofs.lemmas.List.Elements.{All-push, All-same, All-set, All-take, All-weaker, Contains-append_left, Contains-get_or, filter-append}
pub use Rattle.std.proofs.lemmas.List.Elements.{filter_agree, filter_more, recursion_from_All}
pub use Rattle.std.proofs.lemmas.List.Folds.{Any-from_list_any, drop_split, find-append, find_at, length-flat_map-take, list_all-append, list_any-append}
pub use Rattle.std.proofs.lemmas.List.Folds.{list_any-from_Any, list_any_at, list_any_more, list_any_none}
pub use Rattle.std.proofs.lemmas.List.FromFn.{fill_by_all, get_or-map-range_with_len, get_or-range_with_len, length-map-range_with_len, length-range_with_len}
pub use Rattle.std.proofs.lemmas.List.Kept.{AllPairs-cons, IsStrictlySortedBy-dedup}
pub use Rattle.std.proofs.lemmas.List.Quantifiers.{position-Some}
pub use Rattle.std.proofs.lemmas.List.Sorted.{All-permutation, answers_always, Contains-permutation, IsPartitionPoint-from_clause, IsPermutation-append}
pub use Rattle.std.proofs.lemmas.List.Sorted.{IsPermutation-cons, IsPermutation-keeps, IsPermutation-map, IsPermutation-middle, IsPermutation-refl}
pub use Rattle.std.proofs.lemmas.List.Sorted.{IsPermutation-swap, IsPermutation-sym, IsPermutation-trans, length_permutation, searchable_from_sorted}
pub use Rattle.std.proofs.lemmas.List.Sums.{AllPass-from_list_all, count_by-le-length, fold-append, fold_more, length-filter, passes_at_first}
pub use Rattle.std.proofs.lemmas.List.Sums.{position_or_len_is, sum_by_more, sum_by_more_le}
pub use Rattle.std.proofs.lemmas.Map.{lookup-none}
pub use Rattle.std.proofs.lemmas.Map.Entries.{none_below_head}
pub use Rattle.std.proofs.lemmas.Map.Iter.{rest_all}
pub use Rattle.std.proofs.lemmas.Map.Keys.{apart_from_distinct, IsDistinct-from_apart, IsDistinct-from_sorted, IsDistinct-IsPermutation, Less-from_sorted}
pub use Rattle.std.proofs.lemmas.Map.Keys.{sorted_from_all_adjacent, sorted_head, sorted_tail}
pub use Rattle.std.proofs.lemmas.Map.Lookups.{exact_unsigned}
pub use Rattle.std.proofs.lemmas.Map.Made.{distinct_count-le}
pub use Rattle.std.proofs.lemmas.Map.Steps.{length-le_from_distinct_below}
pub use Rattle.std.proofs.lemmas.Map.Text.{btree_map_updates_text, is_eq-slice_cmp}
pub use Rattle.std.proofs.lemmas.Map.Views.{btree_set_len-from_list, Contains-from_any}
pub use Rattle.std.proofs.lemmas.Nat.{mod_low, mul-add-lt, pow-add, shr_high}
pub use Rattle.std.proofs.lemmas.Nat.Bits.{bit_at-lt, bit_at-zero, bit_at_and, bit_at_cat_high, bit_at_cat_low, bit_at_mask_above, bit_at_mask_below}
pub use Rattle.std.proofs.lemmas.Nat.Bits.{bit_at_mask_inside, bit_at_not, bit_at_or, bit_at_set_other, bit_at_set_same, same_from_bits_below, shr_and_one}
pub use Rattle.std.proofs.lemmas.Option.{cond_some, get_or_from_slice_get, none-some, option_and_then_some, same_Some, slice_get-get_or, slice_get-map}
pub use Rattle.std.proofs.lemmas.Option.{slice_get_cases, slice_get_past, slice_get_read, slice_get_within}
pub use Rattle.std.proofs.lemmas.Result.{IfOk-weaker}
pub use Rattle.std.proofs.lemmas.Slice.{drop-put_mid, take-put_mid}
pub use Rattle.std.proofs.lemmas.Slice.Eq.{bytes_eq-Decides, starts_is}
pub use Rattle.std.proofs.lemmas.Str.{digit_value_digit, is_utf8-from_IsUtf8, IsUtf8-from_ascii, IsUtf8-from_is_utf8}
pub use Rattle.std.proofs.lemmas.Str.Ascii.{IsAscii-cons, IsAscii-nil}
pub use Rattle.std.proofs.lemmas.Str.Parse.{digit_at, digits_value-take-le}
pub use Rattle.std.specs.BTreeMap.{BTreeMap, get, get_by_text, insert_entry, is_at}
pub use Rattle.std.specs.BTreeMap.Range.{entries_between}
pub use Rattle.std.specs.BTreeSet.{BTreeSet, contains, IsFromIterResult}
pub use Rattle.std.specs.Char.{is_ascii_digit}
pub use Rattle.std.specs.Cmp.{Equal-is, IsTotalOrder, nat_cmp_total, tied_itself, tied_then, unsigned_tied}
pub use Rattle.std.specs.Cmp.Derive.{one_truth}
pub use Rattle.std.specs.Cmp.Lexicographic.{bytes_decides, pointwise, slice_cmp, texts_ties}
pub use Rattle.std.specs.FinMap.{nat_cmp-IsAntisymmetric}
pub use Rattle.std.specs.Fmt.{digit_glyph, digits_onto, format_spec, styled_decimal}
pub use Rattle.std.specs.Int.{bit_at, bit_not, from_bool, from_le_bytes, IsInRange, to_le_bytes}
pub use Rattle.std.specs.Int.Bits.{and_lt, or_zero_r}
pub use Rattle.std.specs.Int.Digits.{AllBelowBase, number_from_digits, number_from_digits_after}
pub use Rattle.std.specs.List.{AllAdjacentBelow, AllByRecursion, cons_option, dedup_from, drop-map, IsAllAdjacentAnswer, list_all, list_any, position_or_len}
pub use Rattle.std.specs.List.{range_with_len, starts_with}
pub use Rattle.std.specs.List.Sorted.{IsBinarySearchResult, IsPartitionedBy, IsSortedBy, IsSortedByKey}
pub use Rattle.std.specs.Map.{keys_of, lookup, remove_entry, set_value, update, values_of}
pub use Rattle.std.specs.Map.Iter.{deref_pair}
pub use Rattle.std.specs.Option.{option_map_or, option_or}
pub use Rattle.std.specs.Ordering.{eq_by_cmp, is_le, match_ordering, on, ordering_reverse, ordering_then}
pub use Rattle.std.specs.Prelude.{⊤, Contains, is_none}
pub use Rattle.std.specs.Result.{result_err, result_ok}
pub use Rattle.std.specs.Set.{distinct_count, unique_keys}
pub use Rattle.std.specs.Str.{IsAscii}
pub use Rattle.std.specs.Str.Parse.{AllDigits, digits_value, IsNumeral, without_leading_plus}
pub use Rattle.std.specs.Vec.Iter.{into_iter_items}
pub use Rattle.std.specs.declared.alloc.Global.{Global}
pub use Rattle.std.specs.declared.ops.Bound.TheVariants.{Included}
pub use Rattle.std.specs.declared.string.String.{String}
pub use Rattle.text_core.proofs.Lists.{all_below, find-passes, kept_pass}
pub use Rattle.text_core.proofs.Options.{mapped, none_from_test}
pub use Rattle.text_core.proofs.Results.{IsOk-from_cases}
pub use Rattle.text_core.proofs.Tests.{any_in_range, broken_by, Decides-list_all, in_range_any}
pub use Rattle.text_core.proofs.Texts.{same_text, text_itself}
