-- The names that most proofs cite, passed on from one place: those of the logic and its libraries, and of basics. Declares nothing.
pub use Rattle.std.proofs.Common.{◌≡◌, ℕ, zero, suc, ◌+◌, ◌-◌, ◌*◌, ◌/◌, ◌%◌, ◌^◌, ◌<◌, ◌≤◌, max, Bool, true, false, cond, not, ◌||◌, T, eqb, ltb, leb, ◌↔◌, List, [], ◌∷◌, ◌++◌, map, length, get_or}
pub use Rattle.std.proofs.Common.{take, drop, set, replicate, ℤ, pos, negsuc, ◌+ℤ◌, ◌*ℤ◌, neg_ℤ, nat_abs, is_none, slice_index_or, bit_and, Some, None, Ok, Err, fold, Option, Result, MatchOption}
pub use Rattle.std.proofs.Common.{HoldsAt, ControlFlow, Continue, Break, sym, refl, ap, ◌∙◌, subst, ap₂, true≢false, append_assoc, append-nil, lt_of_lt_of_le, lt_of_le_of_lt, add-zero, add-suc}
pub use Rattle.std.proofs.Common.{mul-le-mul_right, mod-lt, mod-eq_of_lt, mul_assoc, mul_comm, mul-le-mul, pos_of_ne-zero, lt_of_mul-lt-mul_right, suc-add, mul-le-mul_left, mul-lt-mul_of_pos_right}
pub use Rattle.std.proofs.Common.{mul-pos, lt_of_not-le, ne_of_gt, div-add-mod', zero-add, div-le_self, add-one, arith, lit<, le→leb, leb→le, length-append, length-drop, length-set, take-append-drop}
pub use Rattle.std.proofs.Common.{drop_of_length-le, length-take, length-take-le, get_or-drop, take_all, drop-cons, get_or-set_other, take-suc, get_or-set_same, drop-drop, take_at, get_or-append-add}
pub use Rattle.std.proofs.Common.{drop-set-lt, drop_at, pow_pos, pow_mono, pow-add, w8, w64, rules, tests, ltb-false, ltb-true, le-ltb, lt-ltb, eq-eqb, ne_eqb, eqb-true, leb-true}
pub use Rattle.std.specs.List.{AllWithin}
pub use Rattle.std.specs.Simd.{first_chunks}
pub use mathlib.Core.Path.{subst⁻¹}
unfoldable pub use native.Mathlib.Decide.{ℕ_discrete, dec_le, dec_lt}
pub use native.Mathlib.Nat.{le_dest, pow-succ', one-le-pow, le_of_mul-le-mul_left, pow-le-pow_right, div-eq_of_lt, mul-sub}
pub use lib.Arith.{digits_lt, digits_div, digits_mod}
pub use lib.Bits.{and_zero_l, and_zero_r, and_mask, and_block}
unfoldable pub use lib.Count.{count_leading_zeros}
pub use lib.IntN.{sub_ℕ, +ℤ_idr, +ℤ_assoc, zero-*ℤ, *ℤ-zero, *ℤ_comm}
pub use lib.ListN.{length-replicate, get_or-replicate, get_or-eq_default, get_or-append, length-map}
pub use lib.Seq.{take-nil, append_snoc, take-append-le, set_out}
pub use lib.Signed.{le_z, le_z_yes}
pub use mir.ValLaws.{to_z-of_z}
pub use borrow.Author.Tests.{eqb-false, not-false}
pub use borrow.Rule.Slice.PartMut.{put_mid}
pub use Rattle.std.proofs.Props.{props}
pub use Rattle.std.proofs.lemmas.Grind.{flat_map-append}
pub use Rattle.std.proofs.lemmas.Iterator.{YieldsList-from_range, cases_from_any}
pub use Rattle.std.proofs.lemmas.List.{map-append}
pub use Rattle.std.proofs.lemmas.Result.{err_from_is_err_and}
pub use Rattle.basics.specs.Ascending.{list_to}
unfoldable pub use Rattle.basics.specs.Ascending.{ascending}
pub use Rattle.basics.specs.Each.{Each}
pub use Rattle.basics.specs.First.{first, FoundAt}
unfoldable pub use Rattle.basics.specs.First.{first_from, any_to}
pub use Rattle.basics.specs.Least.{least, Least}
unfoldable pub use Rattle.basics.specs.Least.{least_from}
unfoldable pub use Rattle.basics.specs.Pick.{pick}
pub use Rattle.basics.specs.Total.{count_to}
unfoldable pub use Rattle.basics.specs.Total.{sum_to, one}
pub use Rattle.basics.proofs.Ascents.{each_ascending, Listed, listed_start, listed_more, listed_all}
pub use Rattle.basics.proofs.Chunks.{count_chunks, chunk_is}
pub use Rattle.basics.proofs.Digits.{two_digits}
pub use Rattle.basics.proofs.Elements.{each_append, each_at}
pub use Rattle.basics.proofs.Existence.{none_to, any_same}
pub use Rattle.basics.proofs.Firsts.{none_passes, sought_found, sought_none}
pub use Rattle.basics.proofs.LeastOf.{LeastOf, least_of, least_ceil, least_eq, ceil_eq}
pub use Rattle.basics.proofs.Picks.{if_true, if_false, if_eq, if_ne, if_lt, if_ge, by_test, never, both}
pub use Rattle.basics.proofs.Ranges.{any_below}
pub use Rattle.basics.proofs.Roots.{lt_of_squares, le_of_squares}
pub use Rattle.basics.proofs.Stretches.{Wrote, nothing, part, lent_part, next, all_written, put_behind, stretch_long, from_further}
pub use Rattle.basics.proofs.Tests.{leb_same}
pub use Rattle.basics.proofs.Totals.{sum_next, sum_most, sum_step, sum_same, sum_le, one_true, one_false, one_most, count_most}
pub use Rattle.basics.proofs.Values.{values_same, is_values}
unfoldable pub use Rattle.basics.proofs.Values.{values}
