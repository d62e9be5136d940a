-- What the proofs of this crate speak of: lists, tests and sums, handles and claims, and the words of its specs.
pub use Rattle.psac_slots.proofs.Terms.{◌≡◌, ◌≢◌, ◌⊎◌, ℕ, suc, ◌+◌, ◌-◌, ◌<◌, ◌≤◌, List, [], ◌∷◌, ◌++◌, map, length, Bool, true, false, true≢false, cond, refl, sym, ap, ◌∙◌, subst, inl, ⊎_elim, arith, Some, append_assoc, set, take, drop, inr, Option, None, length-set, ltb, ◌%◌, length-append, zero, ◌*◌, ◌^◌, mod-lt, div-add-mod', at_last, at_longer, at_map, set_again, set_else, set_here, Allows, State, Step, keeps, step, cases_Bool, cases_eq, cases_lt, eq-eqb, eqb-true, le-ltb, lt-ltb, ltb-true, ne_eqb, length-map, map-append, map-set, set-get_or, sum_by-append, sum_by-cons, sum_by_push, IfErr, IfOk, IfSome, filter, not, slice_index, sum_by, ◌&&◌, ◌==◌, get_elem?, none, some, some-injective, some-ne-none, stem, Accounted, IsSole, counted, entry, place, turned, Divided, Own, Rights, above, comes_back, goes, no_rights, stays, united, Member, fresh, removed, slot_times, word_of}
pub use Rattle.psac_ops.specs.declared.plain.Handle.{Handle}
pub use Rattle.psac_slots.proofs.Acts.{slice_at, sole_parts, tells}
pub use Rattle.psac_slots.proofs.Carrying.{Ringed, accounted_returned, has_room, ringed_returned, ringed_rewound}
pub use Rattle.psac_slots.proofs.Dividing.{Strangers, alone_cases, divides, is_off, none_there, on_left, on_right, shared_same, unites}
pub use Rattle.psac_slots.proofs.Pairs.{filter_member, map_member, member_left, member_right, one_after}
pub use Rattle.psac_slots.proofs.Removed.{at_most_once, claimed_entry, length-fresh, member_times, removed_else, removed_gone}
pub use Rattle.psac_slots.proofs.Rewinds.{gone_is, rest_is}
pub use Rattle.psac_slots.proofs.Sums.{all_set, at_less, sum_at, sum_le, sum_none, sum_set, sum_two}
pub use Rattle.psac_slots.proofs.Tables.{at_mapped, at_past, handle_at, none_in, none_some, one_more, place_is, ring_length, same_some, set_there, slot_below, sum_map, within}
pub use Rattle.psac_slots.proofs.Turns.{stem_push}
pub use Rattle.psac_slots.specs.declared.full.Full.{Full}
pub use Rattle.psac_slots.specs.declared.view.ClaimView.{ClaimView}
pub use Rattle.psac_readers.specs.Chained.{Each, Follows, Knows, Placed, Readable, Seen, Staged, Tells, alive, claims_of, dead_at, deads, head_at, in_set, is_dead, is_live, labelled, linked, mods_of, named, next_at, node_at, rights_of, times, ways}
pub use Rattle.psac_readers.specs.Passes.{Carries, OnWalk, Placing, Walks, found, from_word, has_word, or_empty}
pub use Rattle.psac_readers.specs.Promised.{Promised}
pub use Rattle.psac_readers.specs.Steps.{Began, Came, Drew, Entered, Fine, Freed, Has, Holds, IsSet, Left, Loaded, Noded, Regained, Revived, Rewound, Seat, Swapped, Unlinked, behind, came, chain_of, die, drew, dying, entered, first_view, first_walk, first_words, forget, freed, front, is_settled, joined, known_without, learn, learned, leaving, led_from, left, left_of, lose, new_link, next_live, node_in, noded, now_shared, on_head, other_link, regained, revive, revived, reviving, rewound, right_link, right_of, set_of, settled, spent, swapped, swept, swept_one, take_off, unknown, unlinked, way, without, zeros}
pub use Rattle.psac_readers.specs.Swept.{AllGiven, Going, TakenOff, remaining}
pub use Rattle.psac_readers.specs.Walked.{Answers, Walked, live_in}
pub use Rattle.psac_readers.specs.declared.readers.Link.{Link}
pub use Rattle.psac_readers.specs.declared.view.LinkView.{LinkView}
pub use Rattle.psac_readers.specs.declared.view.ReadersView.{ReadersView}
pub use Rattle.psac_readers.specs.declared.view.SharedView.{SharedView}
pub use Rattle.psac_readers.specs.declared.view.Stage.{Stage}
pub use Rattle.psac_readers.specs.declared.view.Stage.TheVariants.{Claimed, Dead, In, UnderWay}
pub use Rattle.psac_readers.specs.declared.view.WalkView.{WalkView}
