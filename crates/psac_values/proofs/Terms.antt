-- What the proofs of this crate speak of: lists, tests and sums, handles and claims, and the words of its specs.
pub use Rattle.psac_slots.proofs.Terms.{◌≡◌, ◌≢◌, ℕ, suc, ◌+◌, ◌/◌, ◌%◌, ◌<◌, ◌≤◌, ◌++◌, map, Bool, true, false, ltb, refl, sym, ap, ◌∙◌, subst, ⊎_elim, arith, Some, append_assoc, append-nil, ◌-◌, ◌*◌, List, [], ◌∷◌, length, set, take, drop, true≢false, inl, length-set, mod-lt, ◌⊎◌, inr, zero, Option, length-append, ◌^◌, None, get_or, at_longer, at_map, at_set, set_again, set_else, set_here, Allows, Joins, Splits, State, Step, keeps, step, cases_Bool, cases_eq, cases_lt, eq-eqb, eqb-true, le-ltb, lt-ltb, ne_eqb, length-map, map-append, map-set, set-get_or, sum_by-append, sum_by_push, IfSome, cond, filter, not, slice_index, sum_by, ◌&&◌, ◌==◌, ◌||◌, get_elem?, none, some, some-injective, some-ne-none, is_prefix, stem, Accounted, IsSole, counted, entry, place, turned, Divided, Own, Rights, above, comes_back, goes, lends, no_rights, stays, by_slot, only, IsDistinct, IsHandle, Member, fresh, later, once_below, removed, slot_times, word_of}
pub use Rattle.psac_ops.specs.declared.plain.Handle.{Handle}
pub use Rattle.psac_slots.proofs.Carrying.{Ringed, accounted_returned, ringed_returned, ringed_rewound}
pub use Rattle.psac_slots.proofs.Dividing.{Unknown, changes, divides, meets, off, unites}
pub use Rattle.psac_slots.proofs.Given.{filter_all, filter_none, filter_same, filter_twice, filtered, from_here, from_next, held_from, only_none, only_one, removed_none, same_slot}
pub use Rattle.psac_slots.proofs.Kept.{promised, unheld}
pub use Rattle.psac_slots.proofs.Pairs.{entry_at, filter_member, later_member, map_member, member_cases, member_filter, member_left, member_map, member_right, one_after}
pub use Rattle.psac_slots.proofs.Removed.{at_most_once, claimed_entry, found, length-fresh, member_times, removed_else}
pub use Rattle.psac_slots.proofs.Rewinds.{gone_is, rest_is}
pub use Rattle.psac_slots.proofs.Sums.{all_set, at_drop, at_less, at_new, bit, sum_at, sum_set, sum_two}
pub use Rattle.psac_slots.proofs.Tables.{at_mapped, at_past, dropped_at, first_same, fresh_at, handle_at, none_in, one_more, past_entry, place_is, ring_length, same_some, twice, undrawn as undrawn_slot, within}
pub use Rattle.psac_slots.specs.declared.view.ClaimView.{ClaimView}
pub use Rattle.psac_values.specs.Carried.{Carries}
pub use Rattle.psac_values.specs.Knowing.{Has, IsLive, IsOut, Knows, United, all_words, claimed_as, rewritten, took, wrote}
pub use Rattle.psac_values.specs.Promised.{Promised}
pub use Rattle.psac_values.specs.Steps.{Drew, Gave, Lacks, Learned, Loaded, Looked, Marked, Rewound, Seat, Settled, Tells, Wrote, drew, first_mine, first_view, first_words, gave, gave_all, gave_slot, is_fixed, joined, learned, left_of, looked, made_handle, mark, marked, met, new_owned, new_state, now_known, other_owned, other_state, put, repeated, rewound, right_of, spent, wrote_word}
pub use Rattle.psac_values.specs.Valued.{Fits, Made, Meeting, Rule, Stated, Valued, Whole, claims_of, free_word, handle_of, held_times, out_word, rights_of, state_at, value_at, ways}
pub use Rattle.psac_values.specs.declared.view.KnownView.{KnownView}
pub use Rattle.psac_values.specs.declared.view.MetView.{MetView}
pub use Rattle.psac_values.specs.declared.view.OwnedView.{OwnedView}
pub use Rattle.psac_values.specs.declared.view.StateView.{StateView}
pub use Rattle.psac_values.specs.declared.view.ValueView.{ValueView}
