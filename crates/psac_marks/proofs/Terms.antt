-- What the proofs of this crate speak of: lists, tests and sums, handles and claims, and the words of its specs.
pub use Rattle.psac_slots.proofs.Terms.{◌≡◌, ◌≢◌, ℕ, suc, ◌+◌, ◌*◌, ◌<◌, ◌≤◌, List, [], ◌∷◌, ◌++◌, map, length, set, refl, sym, ap, ◌∙◌, subst, ⊎_elim, arith, ◌/◌, ◌%◌, Bool, true, false, Option, Some, None, length-append, inl, length-set, mod-lt, ◌⊎◌, true≢false, inr, zero, ◌-◌, append_assoc, append-nil, ltb, ◌^◌, drop, take, is_some, at_last, at_longer, at_map, at_set, at_snoc, set_again, set_else, set_here, Allows, State, Step, keeps, step, and_parts, cases_Bool, cases_eq, cases_lt, eq-eqb, eqb-true, le-ltb, lt-ltb, ltb-true, ne_eqb, length-map, map-append, map-set, set-get_or, sum_by-append, sum_by-cons, sum_by_push, IfSome, IsTrue, cond, filter, not, slice_index, sum_by, ◌&&◌, ◌==◌, get_elem?, none, some, some-injective, some-ne-none, is_prefix, stem, Accounted, IsSole, counted, entry, place, times, turned, Beside, Divided, Own, Rights, above, comes_back, goes, lends, stays, by_slot, only, IsDistinct, IsHandle, Member, fresh, later, once_below, removed, slot_times, word_of, Pass}
pub use Rattle.psac_ops.specs.declared.plain.Handle.{Handle}
pub use Rattle.psac_slots.proofs.Acts.{one_given, slice_at, sole_parts}
pub use Rattle.psac_slots.proofs.Carrying.{Ringed, accounted_returned, ringed_returned, ringed_rewound}
pub use Rattle.psac_slots.proofs.Dividing.{Strangers, alone_cases, changes, divides, is_above, is_off, meets, off, on_left, on_right, prefix_cut, prefix_short_length, prefix_through, prefix_whole, shared_same, told_cases, unites}
pub use Rattle.psac_slots.proofs.Given.{filter_all, filter_none, filter_twice, filtered, from_here, from_next, only_none, only_one, removed_none, same_slot}
pub use Rattle.psac_slots.proofs.Pairs.{entry_at, filter_member, later_member, map_member, member_cases, member_filter, member_left, member_map, member_right, one_after}
pub use Rattle.psac_slots.proofs.Removed.{at_most_once, claimed_entry, found, length-fresh, member_times, removed_else, removed_gone}
pub use Rattle.psac_slots.proofs.Rewinds.{gone_is, rest_is}
pub use Rattle.psac_slots.proofs.Sums.{all_end, all_set, at_drop, at_new, bit, sum_at, sum_none, sum_set, sum_two}
pub use Rattle.psac_slots.proofs.Tables.{at_mapped, at_past, dropped_at, first_same, fresh_at, handle_at, none_in, none_some, one_more, past_entry, place_is, ring_length, same_some, slot_below, sum_map, twice, undrawn as undrawn_slot, within}
pub use Rattle.psac_slots.proofs.Turns.{prefix_long, prefix_refl, stem_push}
pub use Rattle.psac_slots.specs.declared.view.ClaimView.{ClaimView}
pub use Rattle.psac_marks.specs.Marked.{AreStated, Climbing, Grown, Has, HasOwn, IsStated, Marked, Meeting, Out, Place, Raising, Stating, Supported, Tree, claims_of, free_word, handle_of, held_times, mark_at, marks, marks_of, out_word, own_place, parent_at, parent_word, places, rights_of, shared_place, state_at, states_of, tree_of, ways}
pub use Rattle.psac_marks.specs.Passes.{Bare, Carries, Childless, Claims, IsBusy, IsKept, Keeps, Leads, MayRaise, Owns, Parted, RaisedOne, Rises, United, climbed, one_of, slot_of, took}
pub use Rattle.psac_marks.specs.Promised.{Promised, holders}
pub use Rattle.psac_marks.specs.Steps.{Asked, Cleared, Detached, Drew, Gave, Holds, Hung, IsClosed, Lacks, Loaded, Raised, Regained, Rewound, Seat, Settled, Stated, Tells, asked, blank, cleared, climbs_from, detached, drew, dropping, first_view, first_words, gave, gave_all, goes_over, hang, hung, joined, left_of, met, new_own, new_state, now_shared, other, other_own, other_state, put, raised, regained, released, rewound, right_of, spent, stated, stays_here}
pub use Rattle.psac_marks.specs.declared.view.MarksView.{MarksView}
pub use Rattle.psac_marks.specs.declared.view.MetView.{MetView}
pub use Rattle.psac_marks.specs.declared.view.OwnView.{OwnView}
pub use Rattle.psac_marks.specs.declared.view.SharedView.{SharedView}
pub use Rattle.psac_marks.specs.declared.view.StateView.{StateView}
