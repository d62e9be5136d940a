-- Both sides of a par, and a read block: what each call on them begins with, and what they leave.
use Rattle.std.proofs.Common.{◌≡◌, ℕ, true, false, List, ◌∷◌, ◌++◌, Option, Some, ap, sym, ◌∙◌, subst}
use Rattle.psac_ops.specs.declared.plain.Handle.{Handle}
use Rattle.psac_values.specs.declared.view.ValueView.{ValueView}
use Rattle.psac_marks.specs.Passes.{Owns, Bare}
use Rattle.psac_fork.specs.declared.tables.Pass.{Pass}
use Rattle.psac_fork.specs.Whole.{HasRoom, AreSides}
use Rattle.psac_model.specs.declared.ends.CapKind.{CapKind}
use Rattle.psac_traced.specs.Rec as rec
use Rattle.psac_traced.specs.Rec.{Rec}
use Rattle.psac_traced.specs.Holds.{EachOf}
use Rattle.psac_record.specs.declared.parts.Reading.{Reading}
use Rattle.psac_record.specs.declared.parts.Seen.{Seen}
use Rattle.psac_record.specs.Kept.{Kept, P, R, bare, reads_of}
use Rattle.psac_record.specs.Shown.{kept_of, rec_of}
use Rattle.psac_repair.specs.declared.world.World.{World}
use Rattle.psac_repair.specs.declared.outcome.Outcome.{Outcome}
use Rattle.std.specs.Prelude.{Result, Ok, None, IfOk, IfNone}
use Rattle.psac_repair.specs.Ended.{Ended, Good, then_ended, untried_ended}
use Rattle.psac_repair.specs.Outcomes.{is_good, end_of, pair_ended, block_round}
use Rattle.psac_repair.specs.Marks.{Present}
use Rattle.psac_repair.specs.Seen.{Known}
use Rattle.psac_repair.specs.Changing.{Changed}
use Rattle.psac_repair.specs.Planted.{slots}
use Rattle.psac_repair.specs.Going.{Views, views, Roomy, After, AfterBelow, Looks, Clears}
use Rattle.psac_repair.specs.WalkLaws.{TurnsGo, SidesGo, BlockGoes, Joins, left_side, right_side}
use Rattle.psac_repair.specs.Repairing.{TellsIn, PartIn, BeforeIn, Begins, Left, BeginsPart, LeftPart}
use Rattle.psac_repair.proofs.Called.{looked_begins, looked_leaves, sides_in_turn, sides_at_once, blocks_go}
use Rattle.psac_repair.proofs.Layers.{both_is}
use Rattle.psac_repair.proofs.Walking.{program, good_end, then_good, then_bad, pair_then}

-- where nothing else is seen, a block read what is present
pub seen_present : {X : Type 0} (v : ValueView) (o : Result (Option (List Seen)) X) (found : Option (List Seen)) (reads seen : List Seen) → seen ≡ reads → o ≡ Ok found → found ≡ None → IfOk o (λ f. IfNone f (EachOf (Present v) (reads_of seen))) → EachOf (Present v) (reads_of reads)
seen_present v o found reads seen is done none same =
    let here = subst (λ z. IfOk z (λ f. IfNone f (EachOf (Present v) (reads_of seen)))) done same in
    subst (λ (z : List Seen). EachOf (Present v) (reads_of z)) is (subst (λ f. IfNone f (EachOf (Present v) (reads_of seen))) none here)

module _ (g : World) where
  -- both sides, the left one first

  module _ (n : Handle) (l k rest : Kept) (p : Pass) where
    abbrev Sides : Rec Handle
    Sides = rec.S (bare (P n l k)) (bare rest)

    abbrev T : ValueView → ValueView → (CapKind → ℕ) → Ended → Type 0
    T = PartIn g (bare (P n l k)) (bare rest)

    abbrev Whole : List ℕ → Option Handle → Type 0
    Whole us above = BeforeIn g us above Sides (P n l k) (views p)

    turns : (us : List ℕ) (above : Option Handle) (b : Whole us above) → TurnsGo (program g b.checked) us above n l k rest (views p)
    turns us above b = sides_in_turn (program g b.checked) us above n l k rest (views p) b

    pub left_begins : BeginsPart g (P n l k) rest p → Begins g l p
    left_begins b = (b.0, n.slot ∷ b.1 ++ slots k, Some n, (turns b.1 b.2 b.3).left)

    pub turns_out : (q : Pass) (one o : Outcome) → is_good (end_of one) ≡ false → end_of o ≡ untried_ended (end_of one) → Left g l p q one → LeftPart g (P n l k) rest p q o
    turns_out q one o bad end left us above b =
        let way = turns us above b in
        subst (λ e. After T us above (P n l k) (kept_of o.tree) (views p) (views q) e) (sym end)
        (way.out (kept_of one.tree) (kept_of o.tree) (views q) (end_of one) bad (left (n.slot ∷ us ++ slots k) (Some n) way.left))

    module _ (q : Pass) (one : Outcome) (good : is_good (end_of one) ≡ true) (left : Left g l p q one) where
      abbrev first_one : Kept
      first_one = kept_of one.tree

      abbrev First : List ℕ → Type 0
      First us = After (TellsIn g (bare l)) (n.slot ∷ us ++ slots k) (Some n) l first_one (views p) (views q) (Good (bare first_one))

      first_done : (us : List ℕ) (above : Option Handle) (b : Whole us above) → First us
      first_done us above b =
          subst (λ e. After (TellsIn g (bare l)) (n.slot ∷ us ++ slots k) (Some n) l first_one (views p) (views q) e) (good_end one good)
          (left (n.slot ∷ us ++ slots k) (Some n) (turns us above b).left)

      pub right_begins : BeginsPart g (P n l k) rest p → Begins g k q
      right_begins b = (b.0, n.slot ∷ b.1, Some n, (turns b.1 b.2 b.3).right first_one (views q) (first_done b.1 b.2 b.3))

      module _ (x : Pass) (two o : Outcome) (end : end_of o ≡ pair_ended rec.P (end_of one) (end_of two)) (right : Left g k q x two) where
        abbrev second_one : Kept
        second_one = kept_of two.tree

        end_is : end_of o ≡ then_ended (rec.P (bare first_one)) (end_of two)
        end_is = end ∙ ap (λ e. pair_ended rec.P e (end_of two)) (good_end one good) ∙ pair_then rec.P (bare first_one) (end_of two)

        second_ran : (us : List ℕ) (above : Option Handle) (b : Whole us above) → After (TellsIn g (bare k)) (n.slot ∷ us) (Some n) k second_one (views q) (views x) (end_of two)
        second_ran us above b = right (n.slot ∷ us) (Some n) ((turns us above b).right first_one (views q) (first_done us above b))

        pub turns_undone : is_good (end_of o) ≡ false → LeftPart g (P n l k) rest p x o
        turns_undone bad us above b =
            let worse = then_bad (rec.P (bare first_one)) (end_of two) (sym (ap is_good end_is) ∙ bad) in
            subst (λ e. After T us above (P n l k) (kept_of o.tree) (views p) (views x) e) (sym end_is)
            ((turns us above b).stop first_one second_one (kept_of o.tree) (views q) (views x) (end_of two) (first_done us above b) worse (second_ran us above b))

        module _ (fine : is_good (end_of o) ≡ true) where
          second_good : is_good (end_of two) ≡ true
          second_good = then_good (rec.P (bare first_one)) (end_of two) (sym (ap is_good end_is) ∙ fine)

          second_done : (us : List ℕ) (above : Option Handle) (b : Whole us above) → After (TellsIn g (bare k)) (n.slot ∷ us) (Some n) k second_one (views q) (views x) (Good (bare second_one))
          second_done us above b =
              subst (λ e. After (TellsIn g (bare k)) (n.slot ∷ us) (Some n) k second_one (views q) (views x) e) (good_end two second_good) (second_ran us above b)

          pub turns_owned : BeginsPart g (P n l k) rest p → Owns x.marks.knows n
          turns_owned b =
              (turns b.1 b.2 b.3).owns first_one second_one (views q) (views x) (first_done b.1 b.2 b.3) (second_done b.1 b.2 b.3)

          pub turns_bared : BeginsPart g (P n l k) rest p → Bare x.marks.knows n.slot
          turns_bared b =
              (turns b.1 b.2 b.3).bared first_one second_one (views q) (views x) (first_done b.1 b.2 b.3) (second_done b.1 b.2 b.3)

          pub turns_done : (y : Pass) → Clears n (views x) (views y) → kept_of o.tree ≡ P n first_one second_one → LeftPart g (P n l k) rest p y o
          turns_done y c kept us above b =
              let done = (turns us above b).done first_one second_one (views q) (views x) (views y) (first_done us above b) (second_done us above b) c in
              let ended = end_is ∙ ap (then_ended (rec.P (bare first_one))) (good_end two second_good) in
              subst (λ e. After T us above (P n l k) (kept_of o.tree) (views p) (views y) e) (sym ended)
              (subst (λ z. After T us above (P n l k) z (views p) (views y) (Good (bare (P n first_one second_one)))) (sym kept) done)

  -- both sides at once

  module _ (n : Handle) (l k rest : Kept) (p a c : Pass) (mine : views a ≡ left_side l k (views p)) (theirs : views c ≡ right_side l k (views p)) (room : HasRoom a) (space : HasRoom c) where
    at_once : (us : List ℕ) (above : Option Handle) (b : Whole n l k rest p us above) → SidesGo (program g b.checked) us above n l k rest (views p)
    at_once us above b = sides_at_once (program g b.checked) us above n l k rest (views p) b

    pub left_here : (us : List ℕ) (above : Option Handle) (b : Whole n l k rest p us above)
        → BeforeIn g (n.slot ∷ us) (Some n) (bare l) l (views a)
    left_here us above b =
        subst (λ z. BeforeIn g (n.slot ∷ us) (Some n) (bare l) l z) (sym mine)
        ((at_once us above b).left p.beside (subst Roomy mine room))

    pub right_here : (us : List ℕ) (above : Option Handle) (b : Whole n l k rest p us above)
        → BeforeIn g (n.slot ∷ us) (Some n) (bare k) k (views c)
    right_here us above b =
        subst (λ z. BeforeIn g (n.slot ∷ us) (Some n) (bare k) k z) (sym theirs)
        ((at_once us above b).right p.beside (subst Roomy theirs space))

    pub mine_begins : BeginsPart g (P n l k) rest p → Begins g l a
    mine_begins b = (b.0, n.slot ∷ b.1, Some n, left_here b.1 b.2 b.3)

    pub theirs_begins : BeginsPart g (P n l k) rest p → Begins g k c
    theirs_begins b = (b.0, n.slot ∷ b.1, Some n, right_here b.1 b.2 b.3)

    module _ (d e : Pass) (one two : Outcome) (left : Left g l a d one) (right : Left g k c e two) where
      abbrev left_one : Kept
      left_one = kept_of one.tree

      abbrev right_one : Kept
      right_one = kept_of two.tree

      left_ran : (us : List ℕ) (above : Option Handle) (b : Whole n l k rest p us above) → After (TellsIn g (bare l)) (n.slot ∷ us) (Some n) l left_one (left_side l k (views p)) (views d) (end_of one)
      left_ran us above b =
          subst (λ z. After (TellsIn g (bare l)) (n.slot ∷ us) (Some n) l left_one z (views d) (end_of one)) mine
          (left (n.slot ∷ us) (Some n) (left_here us above b))

      right_ran : (us : List ℕ) (above : Option Handle) (b : Whole n l k rest p us above) → After (TellsIn g (bare k)) (n.slot ∷ us) (Some n) k right_one (right_side l k (views p)) (views e) (end_of two)
      right_ran us above b =
          subst (λ z. After (TellsIn g (bare k)) (n.slot ∷ us) (Some n) k right_one z (views e) (end_of two)) theirs
          (right (n.slot ∷ us) (Some n) (right_here us above b))

      pub sides_join : BeginsPart g (P n l k) rest p → AreSides p.values.knows.claims.branch d e
      sides_join b =
          ((left_ran b.1 b.2 b.3).lasting.stays.branch, (right_ran b.1 b.2 b.3).lasting.stays.branch)

      module _ (x : Pass) (o : Outcome) (end : end_of o ≡ pair_ended rec.P (end_of one) (end_of two)) (joins : Joins (views d) (views e) (views x)) where
        abbrev Below : List ℕ → Ended → Type 0
        Below us z = AfterBelow (T n l k rest p) us n (P n) l k left_one right_one (views p) (views x) z

        sides_below : (us : List ℕ) (above : Option Handle) (b : Whole n l k rest p us above) → Below us (end_of o)
        sides_below us above b =
            subst (Below us) (both_is (end_of one) (end_of two) ∙ sym end)
            ((at_once us above b).both p.beside left_one right_one (views d) (views e) (views x) (end_of one) (end_of two) (left_ran us above b) (right_ran us above b) joins)

        pub sides_undone : is_good (end_of o) ≡ false → LeftPart g (P n l k) rest p x o
        sides_undone bad us above b = (at_once us above b).undone left_one right_one (kept_of o.tree) (views x) (end_of o) bad (sides_below us above b)

        module _ (fine : is_good (end_of o) ≡ true) where
          sides_good : (us : List ℕ) (above : Option Handle) (b : Whole n l k rest p us above) → Below us (Good (rec_of o.tree))
          sides_good us above b = subst (Below us) (good_end o fine) (sides_below us above b)

          pub sides_owned : BeginsPart g (P n l k) rest p → Owns x.marks.knows n
          sides_owned b = (at_once b.1 b.2 b.3).owns left_one right_one (views x) (rec_of o.tree) (sides_good b.1 b.2 b.3)

          pub sides_bared : BeginsPart g (P n l k) rest p → Bare x.marks.knows n.slot
          sides_bared b = (at_once b.1 b.2 b.3).bared left_one right_one (views x) (rec_of o.tree) (sides_good b.1 b.2 b.3)

          pub sides_done : (y : Pass) → Clears n (views x) (views y) → kept_of o.tree ≡ P n left_one right_one → LeftPart g (P n l k) rest p y o
          sides_done y cl kept us above b =
              let done = (at_once us above b).done left_one right_one (views x) (views y) (rec_of o.tree) (sides_good us above b) cl in
              subst (λ z. After (T n l k rest p) us above (P n l k) (kept_of o.tree) (views p) (views y) z) (sym (good_end o fine))
              (subst (λ z. After (T n l k rest p) us above (P n l k) z (views p) (views y) (Good (rec_of o.tree))) (sym kept) done)

  -- a read block

  pub block_known : (c : Reading) (t rest : Kept) (p : Pass) → BeginsPart g (R c t) rest p → Known p.values.knows c.reads
  block_known c t rest p b = (blocks_go (program g b.3.checked) b.1 b.2 c t rest (views p) b.3).0

  changed_at : (v : ValueView) (n : ℕ) (reads again : List Seen) → Changed v reads again → Changed (record v { looks = n }) reads again
  changed_at v n reads again ch = record { links = ch.links; now = record { names = ch.now.names; seen = ch.now.seen }; other = ch.other }

  pub changed_looked : (p q : Pass) (reads again : List Seen) → Looks (views p) (views q) → Changed p.values.knows reads again → Changed q.values.knows reads again
  changed_looked p q reads again a ch = subst (λ (z : Views). Changed z.values reads again) (sym a.1) (changed_at p.values.knows a.0 reads again ch)

  module _ (c : Reading) (t rest : Kept) (p q : Pass) (a : Looks (views p) (views q)) (seen : EachOf (Present p.values.knows) (reads_of c.reads)) where
    abbrev BlockWhole : List ℕ → Option Handle → Type 0
    BlockWhole us above = BeforeIn g us above (rec.S (bare (R c t)) (bare rest)) (R c t) (views p)

    block : (us : List ℕ) (above : Option Handle) (b : BlockWhole us above) → BlockGoes (program g b.checked) us above c t rest (views p)
    block us above b = (blocks_go (program g b.checked) us above c t rest (views p) b).1 seen

    inner_here : (us : List ℕ) (above : Option Handle) (b : BlockWhole us above) → BeforeIn g (c.node.slot ∷ us) (Some c.node) (bare t) t (views q)
    inner_here us above b = looked_begins (program g b.checked) (c.node.slot ∷ us) (Some c.node) (bare t) t (views p) (views q) a (block us above b).body

    pub inner_begins : BeginsPart g (R c t) rest p → Begins g t q
    inner_begins b = (b.0, c.node.slot ∷ b.1, Some c.node, inner_here b.1 b.2 b.3)

    module _ (x : Pass) (one o : Outcome) (end : end_of o ≡ then_ended (block_round c) (end_of one)) (l : Left g t q x one) where
      abbrev body_one : Kept
      body_one = kept_of one.tree

      abbrev Body : List ℕ → Ended → Type 0
      Body us e = After (TellsIn g (bare t)) (c.node.slot ∷ us) (Some c.node) t body_one (views p) (views x) e

      body_ran : (us : List ℕ) (above : Option Handle) (b : BlockWhole us above) → Body us (end_of one)
      body_ran us above b =
          looked_leaves (program g b.checked) (c.node.slot ∷ us) (Some c.node) t body_one (views p) (views q) (views x) (end_of one) a
          (l (c.node.slot ∷ us) (Some c.node) (inner_here us above b))

      pub block_undone : is_good (end_of o) ≡ false → LeftPart g (R c t) rest p x o
      block_undone bad us above b =
          let worse = then_bad (block_round c) (end_of one) (sym (ap is_good end) ∙ bad) in
          subst (λ e. After (PartIn g (bare (R c t)) (bare rest)) us above (R c t) (kept_of o.tree) (views p) (views x) e) (sym end)
          ((block us above b).stop body_one (kept_of o.tree) (views x) (end_of one) worse (body_ran us above b))

      module _ (fine : is_good (end_of o) ≡ true) where
        body_good : end_of one ≡ Good (bare body_one)
        body_good = good_end one (then_good (block_round c) (end_of one) (sym (ap is_good end) ∙ fine))

        body_done : (us : List ℕ) (above : Option Handle) (b : BlockWhole us above) → Body us (Good (bare body_one))
        body_done us above b = subst (Body us) body_good (body_ran us above b)

        pub block_owned : BeginsPart g (R c t) rest p → Owns x.marks.knows c.node
        block_owned b = (block b.1 b.2 b.3).owns body_one (views x) (body_done b.1 b.2 b.3)

        pub block_bared : BeginsPart g (R c t) rest p → Bare x.marks.knows c.node.slot
        block_bared b = (block b.1 b.2 b.3).bared body_one (views x) (body_done b.1 b.2 b.3)

        pub block_done : (y : Pass) → Clears c.node (views x) (views y) → kept_of o.tree ≡ R c body_one → LeftPart g (R c t) rest p y o
        block_done y cl kept us above b =
            let T = PartIn g (bare (R c t)) (bare rest) in
            let done = (block us above b).done body_one (views x) (views y) (body_done us above b) cl in
            subst (λ e. After T us above (R c t) (kept_of o.tree) (views p) (views y) e) (sym (end ∙ ap (then_ended (block_round c)) body_good))
            (subst (λ z. After T us above (R c t) z (views p) (views y) (Good (bare (R c body_one)))) (sym kept) done)
