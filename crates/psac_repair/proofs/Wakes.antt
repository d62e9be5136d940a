-- The laws of what blocks read and what is there now.
use Rattle.std.proofs.Common.{◌≡◌, ℕ, Bool, true, false, not, ◌&&◌, [], ◌∷◌, ◌++◌, map, ap, sym, ◌∙◌, refl, inl, inr}
use Rattle.std.specs.Prelude.{ltb}
use Rattle.psac_ops.specs.declared.plain.Handle.{Handle}
use Rattle.psac_ops.specs.declared.plain.Plain.{Plain}
use Rattle.psac_slots.specs.Handles.{Member}
use Rattle.psac_slots.specs.Claiming.{times}
use Rattle.psac_slots.proofs.Pairs.{member_left, member_right}
use Rattle.psac_laws.proofs.Places.{not_both}
use Rattle.psac_marks.specs.Marked as marks_rule
use Rattle.psac_record.specs.Kept.{Kept as Tree, P, links_of, bare}
use Rattle.psac_trace.proofs.Forks.{left_sees, right_sees}
use Rattle.psac_repair.specs.Divided.{neither, writes_slot, has_link}
use Rattle.psac_repair.specs.Planted.{slots}
use Rattle.psac_repair.specs.WatchLaws.{left_view, right_view, QuietReads, NothingWoke, LooksWake, OutsideWoke, StepsWatch, TurnsWatch, SidesWatchUp, RunsWake, SteadyParts, SteadyWatch, SteadyRun}
use Rattle.psac_repair.proofs.Linking.{linked_part}
use Rattle.psac_repair.proofs.Rewiring.{free_first, free_second}
use Rattle.psac_repair.proofs.Parting.{is_in, Sh, L, K}
use Rattle.psac_repair.proofs.Rerunning.{body_linked}
use Rattle.psac_repair.proofs.Dividing.{pair_planted, pair_wired, busy_left, busy_right}
use Rattle.psac_repair.proofs.Watching.{links_stay, watched_on, woken_none, woken_busy, woken_then, woken_looked, quiet_watched}
use Rattle.psac_repair.proofs.Waking.{watched_same, left_back, right_back, steady_joined, woken_joined}
use Rattle.psac_repair.proofs.Awaking.{not_lacked, woken_run}

pub quiet_reads : QuietReads
quiet_reads v m above k closed ns z w = quiet_watched v m closed above k ns z w

pub nothing_woke : NothingWoke
nothing_woke r v n us = woken_none r v n us

pub looks_wake : LooksWake
looks_wake r v u z n us l w = woken_looked r v u z n us l w

pub outside_woke : OutsideWoke
outside_woke r v u n x ws us wider on w = woken_busy r v u n x ws us wider on w

pub steps_watch : StepsWatch
steps_watch r v m us above n t k p w =
    record {
      rest = λ u x a c h.
          watched_on r v u m x (n.slot ∷ us ++ slots k) a k
          (λ s i. w.linked.live s (member_right s (links_of t) (links_of k) i))
          (λ y i. inr (member_right y us (slots k) i))
          (λ y i. w.fits y (inr (member_right y (slots t) (slots k) i)))
          (λ y i b. c.busy y (λ j. p.once.1 y j i) b)
          h;
      both = λ q u z x y a gone made e kept c one two.
          woken_then r q v u z x y us kept
          (links_stay r q t us gone made w.once (linked_part r n t k w.linked) (λ g i. w.fits g (inr (member_left g (slots t) (slots k) i))) (λ g i j. p.apart g i (inr (member_left g (slots t) (slots k) j))) e.relinked e.gone_is)
          (λ g i b. c.busy g (λ j. p.apart g i (inr (member_right g (slots t) (slots k) j))) b)
          (woken_busy r v u x x (n.slot ∷ us ++ slots k) us (λ g i. inr (member_left g us (slots k) i)) (λ g i b. b) one)
          (woken_busy q u z y y (n.slot ∷ us) us (λ g i. inr i) (λ g i b. b) two);
    }

pub turns_watch : TurnsWatch
turns_watch r v m us above n l k p w = steps_watch r v m us above n l k (pair_planted m us above n l k p) (pair_wired r m us above n l k w)

no_and : (b : Bool) → (b && false) ≡ false
no_and true = refl
no_and false = refl

is_not : (b : Bool) → not b ≡ false → b ≡ true
is_not true h = refl
is_not false h = absurd cc

-- what a par doesn't touch neither side does
untouched : (n : Handle) (l k : Tree) (s : ℕ) → writes_slot (bare (P n l k)) s ≡ false → neither (bare l) (bare k) s ≡ true
untouched n l k s t = rw (free_first n l k s t, free_second n l k s t) refl

pub sides_watch : SidesWatchUp
sides_watch r v m us above n l k rooted tidy p w o =
    record {
      left = λ h.
          watched_same v (left_view l k v) m (L m rooted us above n l k p) l
          (λ s i x sx. left_sees (neither (bare l) (bare k)) (writes_slot (bare k)) v s.of x sx (λ has. o.0 s i))
          (λ s i x sx y sy. left_back (neither (bare l) (bare k)) (writes_slot (bare k)) v s.of y sy)
          (λ x i b. busy_left r m us above n l k rooted p w o x (λ j. p.once.1 x i j) b)
          h;
      right = λ h.
          watched_same v (right_view l k v) m (K m rooted us above n l k p) k
          (λ s i x sx. right_sees (neither (bare l) (bare k)) (writes_slot (bare k)) v s.of x sx (λ has e. is_not (writes_slot (bare k) s.of.slot) (ap (λ z. not z && not (writes_slot (bare k) s.of.slot)) (sym (o.1 s i)) ∙ e)))
          (λ s i x sx y sy. right_back (neither (bare l) (bare k)) (writes_slot (bare k)) v s.of y sy)
          (λ x i b. busy_right r m us above n l k rooted p w o x (here x i) b)
          h;
      both = λ a b j x y z ka kb is un marked one two. woken_joined (neither (bare l) (bare k)) (writes_slot (bare k)) v tidy a b j ka kb is un (has_link k) r x y z (n.slot ∷ us) one two marked;
      beside = λ a b j ka kb is un one two.
          steady_joined (neither (bare l) (bare k)) (writes_slot (bare k)) v tidy a b j ka kb is un (writes_slot (bare (P n l k))) (λ s t. untouched n l k s t)
          (λ h x s t. one h x s (free_first n l k h.slot t)) (λ h x s t. two h x s (free_second n l k h.slot t));
    }
  where
    here : (x : ℕ) → Member x (slots k) → (ltb 0 (times x (map marks_rule.ways.slot m.own)) && (not (Sh m rooted us above n l k p x) && not (ltb 0 (times x (slots k))))) ≡ false
    here x i =
        ap (λ b. ltb 0 (times x (map marks_rule.ways.slot m.own)) && (not (Sh m rooted us above n l k p x) && not b)) (is_in x (slots k) i)
        ∙ ap (λ b. ltb 0 (times x (map marks_rule.ways.slot m.own)) && b) (no_and (not (Sh m rooted us above n l k p x)))
        ∙ no_and (ltb 0 (times x (map marks_rule.ways.slot m.own)))

pub runs_wake : RunsWake
runs_wake r q v u m n us above b t ws p w left a =
    woken_run r q v u n us ws a.stays a.learned a.seen a.warned
    (links_stay r q t us (links_of t) [] w.once (body_linked r m us above b t p w) (λ x i. w.fits x (inr i)) (λ x i j. p.apart x i (inr j)) left (λ l i. i))

pub steady_part : SteadyParts
steady_part v u x n t k a b h y s e =
    let p = a h y s (free_first n t k h.slot e) in
    let q = b h y p.0 (free_second n t k h.slot e) in
    (q.0, λ z i. p.1 z (q.1 z i))

pub steady_watch : SteadyWatch
steady_watch v u m x t k a free busy w =
    watched_same v u m x k (λ s i y sy. (a s.of y sy (free s i)).0) (λ s i y sy. (a s.of y sy (free s i)).1) busy w

pub steady_run : SteadyRun
steady_run v u ws k stays learned old h x s e =
    let none : (z : Plain) → Member (h, z) ws → ⊥ = λ z i. not_both (old h z i s.0 s.2) e in (
      (s.0, s.1, stays h s.0 s.2 none, s.3, s.4),
      λ y t. elim (learned h t.0 t.2) [
        | inl c ↦ (t.0, t.1, c, t.3, t.4)
        | inr c ↦ elim c [ inl d ↦ absurd (none d.0 d.1) | inr d ↦ absurd (not_lacked v h s.0 s.2 d) ]
      ],
    )
