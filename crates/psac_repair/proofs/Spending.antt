-- How little each call of a repair does, from what its calls do.
use Rattle.std.proofs.Common.{◌≡◌, ℕ, ◌+◌, ◌≤◌, true, false, length, List, [], ◌∷◌, ◌++◌, Option, Some, refl, ap, sym}
use Rattle.std.proofs.Common.{◌∙◌, subst}
use Rattle.psac_ops.specs.declared.plain.Handle.{Handle}
use Rattle.psac_ops.specs.declared.plain.Plain.{Plain}
use Rattle.psac_ops.specs.Named.{value_of}
use Rattle.psac_marks.specs.Steps.{IsClosed}
use Rattle.psac_fork.specs.declared.tables.Pass.{Pass}
use Rattle.psac_traced.specs.Rec as rec
use Rattle.psac_traced.specs.Rec.{Rec}
use Rattle.psac_values.specs.declared.view.ValueView.{ValueView}
use Rattle.psac_model.specs.Tree.{Reads}
use Rattle.psac_traced.specs.Holds.{EachOf}
use Rattle.psac_record.specs.declared.parts.Reading.{Reading}
use Rattle.psac_record.specs.declared.record.Record.{Record}
use Rattle.psac_record.specs.declared.record.Made.{Made}
use Rattle.psac_record.specs.declared.record.Wrote.{Wrote}
use Rattle.psac_record.specs.declared.record.Step.{Step}
use Rattle.psac_record.specs.declared.part.Part.{Part}
use Rattle.psac_record.specs.declared.part.Part.TheVariants as part
use Rattle.psac_record.specs.Opened.{part_of}
use Rattle.psac_record.specs.Kept.{Kept, E, A, W, S, P, R, bare, reads_of}
use Rattle.psac_record.specs.Shown.{kept_of, rec_of}
use Rattle.std.specs.declared.boxed.Box.{Box}
use Rattle.std.specs.declared.alloc.Global.{Global}
use Rattle.psac_repair.specs.declared.world.World.{World}
use Rattle.psac_repair.specs.declared.outcome.Outcome.{Outcome}
use Rattle.psac_repair.specs.Ended.{Ended, Good, Fault, Other, then_ended, untried_ended}
use Rattle.psac_repair.specs.Outcomes.{OnGood, is_body, is_good, end_of, pair_ended, block_round}
use Rattle.psac_repair.specs.Marks.{Nodes, Present, IsMarked}
use Rattle.psac_repair.specs.Planted.{slots, NoneMarked}
use Rattle.psac_repair.specs.FoundLaws.{FrontFounds}
use Rattle.psac_repair.specs.Going.{Views, views, Asks, Looks, Clears}
use Rattle.psac_repair.specs.WalkLaws.{Gone, PartGone, FrontGoes, Joins, left_side, right_side}
use Rattle.psac_repair.specs.Sparing.{IsFounded, Sparing, Since}
use Rattle.psac_repair.specs.Repairing.{BeforeIn, Left, LeftPart, Spares, SparesPart, SparesSince, SparesSides}
use Rattle.psac_repair.proofs.Called.{asked_begins, looked_begins, steps_go, sides_in_turn, blocks_go, bodies_go}
use Rattle.psac_repair.proofs.Called.{made_goes, wrote_goes}
use Rattle.psac_repair.proofs.Visiting.{good_then, bad_told}
use Rattle.psac_repair.proofs.Founds.{made_founds, wrote_founds}
use Rattle.psac_repair.proofs.Sparing.{same_since, since_asked, since_looked, since_founded, since_marked, since_all}
use Rattle.psac_repair.proofs.Sparing.{kept_spares, front_founded, made_spares, wrote_spares}
use Rattle.psac_repair.proofs.Sparing.{step_part, step_rest, step_spares, turn_left, turn_right, turn_spares}
use Rattle.psac_repair.proofs.Sparing.{side_left, side_right, side_spares, block_body, block_spares}
use Rattle.psac_repair.proofs.Walking.{program, good_end, then_good, pair_then, quiet_asked, is_a_body, no_good}

-- how a call ended

good_told : (T : Type 0) (e : Ended) (z : Rec Handle) → e ≡ Good z → T → OnGood e T
good_told T e z is t = subst (λ d. OnGood d T) (sym is) t

pub told_good : (T : Type 0) (e : Ended) (z : Rec Handle) → e ≡ Good z → OnGood e T → T
told_good T e z is t = subst (λ d. OnGood d T) is t

-- the record that is left
new_told : (us : List ℕ) (k u : Kept) (o : Outcome) (z : Rec Handle) (p q : Views) → kept_of o.tree ≡ u
    → end_of o ≡ Good z
    → Sparing us k u p q → OnGood (end_of o) (Sparing us k (kept_of o.tree) p q)
new_told us k u o z p q kept end s =
    good_told (Sparing us k (kept_of o.tree) p q) (end_of o) z end (subst (λ d. Sparing us k d p q) (sym kept) s)

-- the part isn't done
pub pair_bad : (f : Rec Handle → Rec Handle → Rec Handle) (d e : Ended) → is_good d ≡ false
    → is_good (pair_ended f d e) ≡ false
pair_bad f (Good a) e bad = absurd cc
pair_bad f (Fault k n) (Good b) bad = refl
pair_bad f (Fault k n) (Fault j m) bad = refl
pair_bad f (Fault k n) (Other why) bad = refl
pair_bad f (Other why) e bad = refl

-- words were looked at
seen_looked : (v : ValueView) (n : ℕ) (reads : Reads Handle) → EachOf (Present v) reads
    → EachOf (Present (record v { looks = n })) reads
seen_looked v n [] s = tt
seen_looked v n (r ∷ reads) s = (s.0, seen_looked v n reads s.1)

pub untried_bad : (e : Ended) → is_good (untried_ended e) ≡ false
untried_bad (Good r) = refl
untried_bad (Fault k n) = refl
untried_bad (Other why) = refl

module _ (g : World) where
  -- a call that leaves no record

  module _ (q : Pass) (o : Outcome) (bad : is_good (end_of o) ≡ false) where
    abbrev Did : List ℕ → Kept → Views → Type 0
    Did us k p = Sparing us k (kept_of o.tree) p (views q)

    pub stopped_spares : (k : Kept) (p : Pass) → Spares g k p q o
    stopped_spares k p us above b f = bad_told (Did us k (views p)) (end_of o) bad

    pub stopped_part : (k rest : Kept) (p : Pass) → SparesPart g k rest p q o
    stopped_part k rest p us above b f = bad_told (Did us k (views p)) (end_of o) bad

    pub stopped_since : (looks : ℕ) (n : Handle) (k rest : Kept) (p : Pass) → SparesSince looks g n k rest p q o
    stopped_since looks n k rest p before s us above b f m = bad_told (Did us k before) (end_of o) bad

  -- nothing is left to go through

  pub ended_spares : (x : Part) (p : Pass) (o : Outcome) → ((a : Box (Made Record) Global) (b : Record)
      → x ≡ part.Made a b → ⊥)
      → ((a : Box (Wrote Record) Global) (b : Record) → x ≡ part.Wrote a b → ⊥)
      → ((a : Box (Step Record) Global) (b d : Record) → x ≡ part.Step a b d → ⊥) → kept_of o.tree ≡ part_of x
      → end_of o ≡ Good (bare (part_of x)) → Spares g (part_of x) p p o
  ended_spares part.End p o f h i kept end us above b d =
      new_told us E E o (bare E) (views p) (views p) kept end
      (kept_spares us E (views p) (views p) (same_since 0 1 (views p)) tt)
  ended_spares (part.Made a r) p o f h i kept end us above b d = absurd (f a r refl)
  ended_spares (part.Wrote a r) p o f h i kept end us above b d = absurd (h a r refl)
  ended_spares (part.Step a t r) p o f h i kept end us above b d = absurd (i a t r refl)
  ended_spares (part.Both a l r) p o f h i kept end us above b d =
      absurd (no_good (is_a_body g us above (part_of (part.Both a l r)) p b))
  ended_spares (part.Block a t) p o f h i kept end us above b d =
      absurd (no_good (is_a_body g us above (part_of (part.Block a t)) p b))

  -- what was made, and what was written, before the rest

  module _ (f : Kept → Kept) (h : Rec Handle → Rec Handle) (r : Kept) (p : Pass)
      (goes : (us : List ℕ) (above : Option Handle) (b : BeforeIn g us above (bare (f r)) (f r) (views p)) → FrontGoes
      (program g b.checked) us above f h r (views p)) (founds : FrontFounds p.values.knows p.marks.knows f r)
      (more : (us : List ℕ) (u : Kept) (q : Views) → Sparing us r u (views p) q → Sparing us (f r) (f u) (views p) q)
    where
      front_spares : (q : Pass) (one o : Outcome) → kept_of o.tree ≡ f (kept_of one.tree)
          → end_of o ≡ then_ended h (end_of one)
          → Spares g r p q one → Spares g (f r) p q o
      front_spares q one o kept end s us above b d =
          subst (λ e. OnGood e (Sparing us (f r) (kept_of o.tree) (views p) (views q))) (sym end)
          (subst (λ z. OnGood (then_ended h (end_of one)) (Sparing us (f r) z (views p) (views q))) (sym kept)
          (good_then h (end_of one) (more us (kept_of one.tree) (views q))
          (s us above (goes us above b).rest (front_founded f r (views p) founds d))))

  pub made_spared : (m : Handle) (r : Kept) (p q : Pass) (one o : Outcome) → kept_of o.tree ≡ A m (kept_of one.tree)
      → end_of o ≡ then_ended (rec.A m) (end_of one) → Spares g r p q one → Spares g (A m r) p q o
  made_spared m r p q =
      front_spares (A m) (rec.A m) r p (λ us above b. made_goes (program g b.checked) us above m r (views p) b)
      (made_founds p.values.knows p.marks.knows m r) (λ us u x. made_spares us m r u (views p) x) q

  pub wrote_spared : (m : Handle) (x : Plain) (r : Kept) (p q : Pass) (one o : Outcome)
      → kept_of o.tree ≡ W m x (kept_of one.tree)
      → end_of o ≡ then_ended (rec.W m (value_of x)) (end_of one) → Spares g r p q one → Spares g (W m x r) p q o
  wrote_spared m x r p q =
      front_spares (W m x) (rec.W m (value_of x)) r p (λ us above b. wrote_goes (program g b.checked) us above m x r
      (views p) b)
      (wrote_founds p.values.knows p.marks.knows m x r) (λ us u y. wrote_spares us m x r u (views p) y) q

  -- a record none of whose nodes is marked

  module _ (k : Kept) (p q : Pass) (a : Asks (views p) (views q)) (once : q.marks.knows.asks ≤ p.marks.knows.asks + 1)
      (closed : IsClosed p.marks.knows)
      (quiet : (above : Option Handle) → Nodes p.marks.knows above k → NoneMarked p.marks.knows (slots k)) (t : Record)
      (o : Outcome) (is : kept_of t ≡ k) (kept : kept_of o.tree ≡ kept_of t) (end : end_of o ≡ Good (rec_of t)) where
    quiet_told : (us : List ℕ) (above : Option Handle) (stood : Rec Handle) → BeforeIn g us above stood k (views p)
        → OnGood (end_of o) (Sparing us k (kept_of o.tree) (views p) (views q))
    quiet_told us above stood b =
        let s = since_asked (views p) (views q) a once in
        let i = quiet_asked g k p q a closed quiet us above stood b in
        new_told us k k o (rec_of t) (views p) (views q) (kept ∙ is) end
        (kept_spares us k (views p) (views q) s (since_all 0 1 (views p) (views q) s k i.1))

    pub quiet_spared : Spares g k p q o
    quiet_spared us above b f = quiet_told us above (bare k) b

    pub quiet_part : (rest : Kept) → SparesPart g k rest p q o
    quiet_part rest us above b f = quiet_told us above (rec.S (bare k) (bare rest)) b

  -- a body as a part

  pub body_spared : (t rest : Kept) (p q : Pass) (o : Outcome) → is_body t ≡ true → Spares g t p q o
      → SparesPart g t rest p q o
  body_spared t rest p q o is s us above b f =
      s us above (bodies_go (program g b.checked) us above t rest (views p) is b).body f

  -- a part and the rest behind it

  module _ (n : Handle) (t r : Kept) (before p : Pass) (a : Asks (views before) (views p))
      (once : p.marks.knows.asks ≤ before.marks.knows.asks + 1) (marked : IsMarked before.marks.knows n) (q : Pass)
      (one : Outcome)
      (good : is_good (end_of one) ≡ true) (l : LeftPart g t r p q one) (sl : SparesPart g t r p q one) (x : Pass)
      (two o : Outcome) (end : end_of o ≡ pair_ended rec.S (end_of one) (end_of two)) (more : Left g r q x two)
      (sm : Spares g r q x two) (fine : is_good (end_of o) ≡ true) where
    step_second : end_of two ≡ Good (rec_of two.tree)
    step_second =
        let is = end ∙ ap (λ e. pair_ended rec.S e (end_of two)) (good_end one good) ∙ pair_then rec.S
        (rec_of one.tree) (end_of two) in
        good_end two (then_good (rec.S (rec_of one.tree)) (end_of two) (sym (ap is_good is) ∙ fine))

    pub step_spared : (y : Pass) → Clears n (views x) (views y)
        → kept_of o.tree ≡ S n (kept_of one.tree) (kept_of two.tree)
        → Spares g (S n t r) before y o
    step_spared y c kept us above b0 f0 =
        let G = program g b0.checked in
        let s = since_asked (views before) (views p) a once in
        let b = asked_begins G us above (bare (S n t r)) (S n t r) (views before) (views p) a b0 in
        let f = since_founded 0 1 (views before) (views p) s (S n t r) f0 in
        let m = since_marked 0 1 (views before) (views p) s n marked in
        let way = steps_go G us above n t r (views p) b in
        let u = kept_of one.tree in
        let w = kept_of two.tree in
        let wide = n.slot ∷ us ++ slots r in
        let first : PartGone G wide (Some n) r t u (views p) (views q) (Good (bare u)) =
        subst (λ e. PartGone G wide (Some n) r t u (views p) (views q) e) (good_end one good)
        (l wide (Some n) way.part) in
        let one_did = told_good (Sparing wide t u (views p) (views q)) (end_of one) (rec_of one.tree)
        (good_end one good)
        (sl wide (Some n) way.part (step_part G us above n t r (views p) b f m)) in
        let rest = way.rest u (views q) first in
        let second : Gone G (n.slot ∷ us) (Some n) r w (views q) (views x) (Good (bare w)) =
        subst (λ e. Gone G (n.slot ∷ us) (Some n) r w (views q) (views x) e) step_second
        (more (n.slot ∷ us) (Some n) rest) in
        let two_did = told_good (Sparing (n.slot ∷ us) r w (views q) (views x)) (end_of two) (rec_of two.tree)
        step_second
        (sm (n.slot ∷ us) (Some n) rest (step_rest G us above n t r (views p) b f m u (views q) first one_did)) in
        new_told us (S n t r) (S n u w) o (rec_of o.tree) (views before) (views y) kept (good_end o fine)
        (step_spares G us above n t r (views p) b f m u (views q) first one_did w (views x) second two_did
        (views before) s (views y) c)

  -- both sides of a par, the left one first

  module _ (n : Handle) (l k rest : Kept) (p q : Pass) (one : Outcome) (good : is_good (end_of one) ≡ true)
      (left : Left g l p q one) (sl : Spares g l p q one) (x : Pass) (two o : Outcome)
      (end : end_of o ≡ pair_ended rec.P (end_of one) (end_of two)) (right : Left g k q x two) (sr : Spares g k q x two)
      (fine : is_good (end_of o) ≡ true) where
    turn_second : end_of two ≡ Good (rec_of two.tree)
    turn_second =
        let is = end ∙ ap (λ e. pair_ended rec.P e (end_of two)) (good_end one good) ∙ pair_then rec.P
        (rec_of one.tree) (end_of two) in
        good_end two (then_good (rec.P (rec_of one.tree)) (end_of two) (sym (ap is_good is) ∙ fine))

    pub turn_spared : (y : Pass) → Clears n (views x) (views y)
        → kept_of o.tree ≡ P n (kept_of one.tree) (kept_of two.tree)
        → SparesSides g n l k rest p y o
    turn_spared y c kept before s us above b f m =
        let G = program g b.checked in
        let way = sides_in_turn G us above n l k rest (views p) b in
        let u = kept_of one.tree in
        let w = kept_of two.tree in
        let wide = n.slot ∷ us ++ slots k in
        let first : Gone G wide (Some n) l u (views p) (views q) (Good (bare u)) =
        subst (λ e. Gone G wide (Some n) l u (views p) (views q) e) (good_end one good) (left wide (Some n) way.left) in
        let one_did = told_good (Sparing wide l u (views p) (views q)) (end_of one) (rec_of one.tree)
        (good_end one good)
        (sl wide (Some n) way.left (turn_left G us above n l k rest (views p) b f m)) in
        let here = way.right u (views q) first in
        let second : Gone G (n.slot ∷ us) (Some n) k w (views q) (views x) (Good (bare w)) =
        subst (λ e. Gone G (n.slot ∷ us) (Some n) k w (views q) (views x) e) turn_second
        (right (n.slot ∷ us) (Some n) here) in
        let two_did = told_good (Sparing (n.slot ∷ us) k w (views q) (views x)) (end_of two) (rec_of two.tree)
        turn_second
        (sr (n.slot ∷ us) (Some n) here (turn_right G us above n l k rest (views p) b f m u (views q) first one_did)) in
        new_told us (P n l k) (P n u w) o (rec_of o.tree) before (views y) kept (good_end o fine)
        (turn_spares G us above n l k rest (views p) b f m u (views q) first one_did w (views x)
        second two_did before s (views y) c)

  -- and both at once

  module _ (n : Handle) (l k rest : Kept) (p a c : Pass) (mine : views a ≡ left_side l k (views p))
      (theirs : views c ≡ right_side l k (views p)) (d e : Pass) (one two : Outcome) (sl : Spares g l a d one)
      (sr : Spares g k c e two) (x : Pass) (o : Outcome) (end : end_of o ≡ pair_ended rec.P (end_of one) (end_of two))
      (joins : Joins (views d) (views e) (views x)) (fine : is_good (end_of o) ≡ true)
      (here : (us : List ℕ) (above : Option Handle) → BeforeIn g us above (rec.S (bare (P n l k)) (bare rest))
      (P n l k) (views p)
      → BeforeIn g (n.slot ∷ us) (Some n) (bare l) l (views a) × BeforeIn g (n.slot ∷ us) (Some n) (bare k) k
      (views c)) where
    both_fine : (end_of one ≡ Good (rec_of one.tree)) × (end_of two ≡ Good (rec_of two.tree))
    both_fine =
        let first = first_good (end_of one) (end_of two) (sym (ap is_good end) ∙ fine) in
        (good_end one first.0, good_end two first.1)
      where
        first_good : (i j : Ended) → is_good (pair_ended rec.P i j) ≡ true → (is_good i ≡ true) × (is_good j ≡ true)
        first_good (Good y) (Good z) h = (refl, refl)
        first_good (Good y) (Fault k n) h = absurd (no_good h)
        first_good (Good y) (Other why) h = absurd (no_good h)
        first_good (Fault k n) (Good z) h = absurd (no_good h)
        first_good (Fault k n) (Fault j m) h = absurd (no_good h)
        first_good (Fault k n) (Other why) h = absurd (no_good h)
        first_good (Other why) j h = absurd (no_good h)

    pub side_spared : (y : Pass) → Clears n (views x) (views y)
        → kept_of o.tree ≡ P n (kept_of one.tree) (kept_of two.tree)
        → SparesSides g n l k rest p y o
    side_spared y cl kept before s us above b f m =
        let G = program g b.checked in
        let u = kept_of one.tree in
        let w = kept_of two.tree in
        let parts = here us above b in
        let founded_left = subst (λ z. IsFounded z l) (sym mine) (side_left G us above n l k rest (views p) b f m) in
        let founded_right = subst (λ z. IsFounded z k) (sym theirs)
        (side_right G us above n l k rest (views p) b f m) in
        let one_did = told_good (Sparing (n.slot ∷ us) l u (views a) (views d)) (end_of one) (rec_of one.tree)
        both_fine.0
        (sl (n.slot ∷ us) (Some n) parts.0 founded_left) in
        let two_did = told_good (Sparing (n.slot ∷ us) k w (views c) (views e)) (end_of two) (rec_of two.tree)
        both_fine.1
        (sr (n.slot ∷ us) (Some n) parts.1 founded_right) in
        new_told us (P n l k) (P n u w) o (rec_of o.tree) before (views y) kept (good_end o fine)
        (side_spares G us above n l k rest (views p) b f m u w (views d) (views e) (views x)
        (subst (λ z. Sparing (n.slot ∷ us) l u z (views d)) mine one_did)
        (subst (λ z. Sparing (n.slot ∷ us) k w z (views e)) theirs two_did) joins before s (views y) cl)

  -- a part whose node is marked, and was asked

  pub asked_spared : (k rest : Kept) (n : Handle) (p q x : Pass) (o : Outcome) → Asks (views p) (views q)
      → q.marks.knows.asks ≤ p.marks.knows.asks + 1 → IsMarked p.marks.knows n → SparesSince 0 g n k rest q x o
      → SparesPart g k rest p x o
  asked_spared k rest n p q x o a once marked s us above b f =
      let i = since_asked (views p) (views q) a once in
      s (views p) i us above (asked_begins (program g b.checked) us above (rec.S (bare k) (bare rest)) k (views p)
      (views q) a b)
      (since_founded 0 1 (views p) (views q) i k f) (since_marked 0 1 (views p) (views q) i n marked)

  -- a read block whose reads were looked at then

  module _ (c : Reading) (t rest : Kept) (p q x : Pass) (a : Asks (views p) (views q))
      (once : q.marks.knows.asks ≤ p.marks.knows.asks + 1) (marked : IsMarked p.marks.knows c.node)
      (l : Looks (views q) (views x)) (each : x.values.knows.looks ≤ q.values.knows.looks + length c.reads) where
    looked_since : Since (length c.reads) 1 (views p) (views x)
    looked_since = since_looked (length c.reads) 1 (views p) (views q) (views x)
        (since_asked (views p) (views q) a once) l each

    looked_here : (us : List ℕ) (above : Option Handle) → BeforeIn g us above (rec.S (bare (R c t)) (bare rest))
        (R c t) (views p)
        → BeforeIn g us above (rec.S (bare (R c t)) (bare rest)) (R c t) (views x)
    looked_here us above b =
        let G = program g b.checked in
        let stood = rec.S (bare (R c t)) (bare rest) in
        looked_begins G us above stood (R c t) (views q) (views x) l
        (asked_begins G us above stood (R c t) (views p) (views q) a b)

    -- and that is run again
    pub again_spared : (y : Pass) (o : Outcome) → SparesSince (length c.reads) g c.node (R c t) rest x y o
        → SparesPart g (R c t) rest p y o
    again_spared y o s us above b f =
        s (views p) looked_since us above (looked_here us above b)
        (since_founded (length c.reads) 1 (views p) (views x) looked_since (R c t) f)
        (since_marked (length c.reads) 1 (views p) (views x) looked_since c.node marked)

    -- and that read what is present
    pub block_spared : EachOf (Present q.values.knows) (reads_of c.reads) → (z : Pass) (one o : Outcome)
        → end_of o ≡ then_ended (block_round c) (end_of one) → Spares g t x z one → is_good (end_of o) ≡ true
        → (y : Pass)
        → Clears c.node (views z) (views y) → kept_of o.tree ≡ R c (kept_of one.tree) → SparesPart g (R c t) rest p y o
    block_spared seen z one o end s fine y cl kept us above b0 f0 =
        let G = program g b0.checked in
        let b = looked_here us above b0 in
        let f = since_founded (length c.reads) 1 (views p) (views x) looked_since (R c t) f0 in
        let m = since_marked (length c.reads) 1 (views p) (views x) looked_since c.node marked in
        let present : EachOf (Present x.values.knows) (reads_of c.reads) =
        subst (λ (v : Views). EachOf (Present v.values) (reads_of c.reads)) (sym l.1)
        (seen_looked q.values.knows l.0 (reads_of c.reads) seen) in
        let way = (blocks_go G us above c t rest (views x) b).1 present in
        let u = kept_of one.tree in
        let done = good_end one (then_good (block_round c) (end_of one) (sym (ap is_good end) ∙ fine)) in
        let did = told_good (Sparing (c.node.slot ∷ us) t u (views x) (views z)) (end_of one) (rec_of one.tree) done
        (s (c.node.slot ∷ us) (Some c.node) way.body (block_body G us above c t rest (views x) b f m)) in
        new_told us (R c t) (R c u) o (rec_of o.tree) (views p) (views y) kept (good_end o fine)
        (block_spares G us above c t rest (views x) b f m present u (views z) did (views p) looked_since (views y) cl)
