-- What the proofs of this crate speak of: lists, tests and sums, handles, and the words of its specs.
pub use Rattle.atomic_table.proofs.Lists.{at_set, at_snoc, set_here, set_else, one_turn, at_map, at_longer, set_again, at_last}
pub use Rattle.atomic_table.specs.Table.{Allows, Joins, Splits, State, Step, keeps, step}
pub use Rattle.psac_ops.specs.declared.plain.Handle.{Handle}
pub use Rattle.psac_slots.specs.Branches.{is_prefix, stem}
pub use Rattle.psac_slots.specs.Claiming.{entry, Claimed, weight, times, place, Fits, Accounted, DrewBelow, spent, learned, counted, turned, rewound, returned, gave, first_view, Apart, counted_on, drew, left_of, right_of, joined, IsSole}
pub use Rattle.psac_slots.specs.Divided.{Ways, Rights, Own, Beside, Divided, stays, goes, lends, told, left_rights, right_rights, above, comes_back, united, no_rights, Met}
pub use Rattle.psac_slots.specs.Given.{only, by_slot}
pub use Rattle.psac_slots.specs.Handles.{Member, word_of, IsHandle, fresh, slot_times, removed, once_below, later, IsDistinct}
pub use Rattle.psac_slots.specs.Passes.{Pass}
pub use Rattle.psac_slots.specs.Promised.{Promised}
pub use Rattle.psac_slots.specs.declared.full.Full.{Full}
pub use Rattle.psac_slots.specs.declared.view.ClaimView.{ClaimView}
pub use Rattle.std.proofs.Common.{◌≡◌, ◌≢◌, ◌⊎◌, ℕ, zero, suc, ◌<◌, ◌≤◌, List, [], ◌∷◌, ◌++◌, map, length, set, take, drop, Bool, true, false, true≢false, cond, refl, sym, ap, ◌∙◌, subst, inl, inr, ⊎_elim, arith, ◌+◌, ltb, ◌/◌, ◌%◌, length-append, ◌-◌, ◌^◌, Some, length-set, mod-lt, ◌*◌, Option, None, append_assoc, append-nil, get_or}
pub use Rattle.std.proofs.Math.Nat.{add-mod_right, mod-eq_of_lt, pow-suc, div-add-mod'}
pub use Rattle.std.proofs.lemmas.Bool.{lt-ltb, le-ltb, eq-eqb, ne_eqb, cases_order, eqb-true, cases_lt, cases_eq, and_parts, ltb-true, cases_Bool}
pub use Rattle.std.proofs.lemmas.List.{length-map, set_comm, map-append, map-set, set-get_or}
pub use Rattle.std.proofs.lemmas.List.Elements.{All-push}
pub use Rattle.std.proofs.lemmas.List.Sums.{sum_by-cons, sum_by_push, sum_by-append}
pub use Rattle.std.proofs.lemmas.Nat.{mod-mul-add, div-mul-add, pow_pos}
pub use Rattle.std.specs.Option.{is_some}
pub use Rattle.std.specs.Prelude.{filter, sum_by, ◌==◌, not, All, IfSome, slice_index, ◌&&◌, ◌||◌, IfErr, IfOk, IsTrue}
pub use lib.ListN.{get_elem?}
pub use mathlib.Core.Option.{some, some-ne-none, some-injective, none}
