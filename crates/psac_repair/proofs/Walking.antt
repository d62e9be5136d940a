-- What each call of a repair begins with, from what its caller begins with, and what the caller leaves, from what its calls leave.
use Rattle.std.proofs.Common.{◌≡◌, ℕ, ◌-◌, true, false, List, ◌∷◌, ◌++◌, Option, Some, None, refl, ap, sym, ◌∙◌, subst}
use Rattle.psac_ops.specs.declared.plain.Handle.{Handle}
use Rattle.psac_ops.specs.declared.plain.Plain.{Plain}
use Rattle.psac_ops.specs.Named.{value_of}
use Rattle.psac_values.specs.declared.view.ValueView.{ValueView}
use Rattle.psac_readers.specs.declared.view.ReadersView.{ReadersView}
use Rattle.psac_marks.specs.declared.view.MarksView.{MarksView}
use Rattle.psac_marks.specs.Steps.{IsClosed}
use Rattle.psac_marks.specs.Passes.{Owns, Bare, slot_of}
use Rattle.psac_fork.specs.declared.tables.Pass.{Pass}
use Rattle.psac_traced.specs.Rec as rec
use Rattle.psac_traced.specs.Rec.{Rec}
use Rattle.psac_traced.specs.Holds.{EachRead}
use Rattle.psac_trace.specs.Told.{AreChecked}
use Rattle.psac_record.specs.declared.parts.Reading.{Reading}
use Rattle.psac_record.specs.declared.record.Record.{Record}
use Rattle.psac_record.specs.declared.record.Made.{Made}
use Rattle.psac_record.specs.declared.record.Wrote.{Wrote}
use Rattle.psac_record.specs.declared.record.Step.{Step}
use Rattle.psac_record.specs.declared.record.Both.{Both}
use Rattle.psac_record.specs.declared.record.Block.{Block}
use Rattle.psac_record.specs.declared.part.Part.{Part}
use Rattle.psac_record.specs.declared.part.Part.TheVariants as part
use Rattle.psac_record.specs.Opened.{part_of}
use Rattle.psac_record.specs.Kept.{Kept, E, A, W, S, P, R, bare, env_of, reads_of}
use Rattle.psac_model.specs.Fresh.{levels}
use Rattle.psac_record.specs.Shown.{kept_of, rec_of}
use Rattle.psac_repair.specs.declared.world.World.{World}
use Rattle.psac_repair.specs.declared.outcome.Outcome.{Outcome}
use Rattle.psac_repair.specs.declared.outcome.Stop.{Stop}
use Rattle.psac_repair.specs.declared.outcome.Stop.TheVariants as stop
use Rattle.psac_trace.specs.declared.halt.Halt.TheVariants as halt
use Rattle.std.specs.Prelude.{Result, Ok, Err}
use Rattle.std.specs.declared.boxed.Box.{Box}
use Rattle.std.specs.declared.alloc.Global.{Global}
use Rattle.psac_repair.specs.Ended.{Ended, Good, Fault, Other, then_ended}
use Rattle.psac_repair.specs.Outcomes.{is_body, is_good, ended_by, end_of, pair_ended}
use Rattle.psac_repair.specs.Marks.{Nodes, Sits, Present}
use Rattle.psac_repair.specs.Planted.{slots, NoneMarked}
use Rattle.psac_repair.specs.Laws.{Program}
use Rattle.psac_repair.specs.Going.{Views, views, After, AfterBelow, Asks, Looks, Clears}
use Rattle.psac_repair.specs.WalkLaws.{FrontGoes, StepGoes}
use Rattle.psac_repair.specs.Repairing.{setting_of, TellsIn, PartIn, BeforeIn, Begins, Left, BeginsPart, LeftPart}
use Rattle.psac_repair.proofs.Called.{asked_begins, asked_leaves, part_asked_leaves, looked_begins, part_looked_leaves, made_goes, wrote_goes, bodies_go, steps_go}
use Rattle.psac_repair.proofs.Before.{no_pair, no_block}
use Rattle.psac_repair.proofs.Layers.{Q, closed, go, reading, kept_after, kept_pair, kept_block}
use Rattle.psac_laws.proofs.Places.{not_both}
use Rattle.psac_repair.proofs.Watching.{quiet_watched}

-- a part that is a body
pub body_part : (x : Part) → ((a : Box (Both Record) Global) (b d : Record) → x ≡ part.Both a b d → ⊥) → ((a : Box (Block Record) Global) (b : Record) → x ≡ part.Block a b → ⊥) → is_body (part_of x) ≡ true
body_part part.End f h = refl
body_part (part.Made a r) f h = refl
body_part (part.Wrote a r) f h = refl
body_part (part.Step a t r) f h = refl
body_part (part.Both a l r) f h = absurd (f a l r refl)
body_part (part.Block a t) f h = absurd (h a t refl)

-- the node that is asked
pub sits_owned : (m : MarksView) (above : Option Handle) (n h : Handle) → Sits m above n → h ≡ n → Owns m h
sits_owned m above n h s e = (record { node = n; parent = slot_of above }, s.0, sym e)

-- how calls ended

pub no_good : false ≡ true → ⊥
no_good e = not_both e refl

no_bad : true ≡ false → ⊥
no_bad e = not_both refl e

good_by : {A : Type 0} (t : Result A Stop) (r : Rec Handle) → is_good (ended_by t r) ≡ true → ended_by t r ≡ Good r
good_by (Ok a) r g = refl
good_by (Err (stop.Halt (halt.Fault why line))) r g = absurd (no_good g)
good_by (Err (stop.Halt (halt.Full which at))) r g = absurd (no_good g)
good_by (Err (stop.Halt halt.NoMemory)) r g = absurd (no_good g)
good_by (Err stop.Unsettled) r g = absurd (no_good g)

pub good_end : (o : Outcome) → is_good (end_of o) ≡ true → end_of o ≡ Good (rec_of o.tree)
good_end o g = good_by o.told (rec_of o.tree) g

pub then_good : (f : Rec Handle → Rec Handle) (e : Ended) → is_good (then_ended f e) ≡ true → is_good e ≡ true
then_good f (Good r) g = refl
then_good f (Fault k n) g = absurd (no_good g)
then_good f (Other why) g = absurd (no_good g)

pub then_bad : (f : Rec Handle → Rec Handle) (e : Ended) → is_good (then_ended f e) ≡ false → is_good e ≡ false
then_bad f (Good r) g = absurd (no_bad g)
then_bad f (Fault k n) g = refl
then_bad f (Other why) g = refl

pub pair_then : (f : Rec Handle → Rec Handle → Rec Handle) (a : Rec Handle) (e : Ended) → pair_ended f (Good a) e ≡ then_ended (f a) e
pair_then f a (Good b) = refl
pair_then f a (Fault k n) = refl
pair_then f a (Other why) = refl

-- the first part stopped, and the rest was kept
pair_stop : (f : Rec Handle → Rec Handle → Rec Handle) (e : Ended) (b : Rec Handle) → is_good e ≡ false → pair_ended f e (Good b) ≡ e
pair_stop f (Good a) b g = absurd (no_bad g)
pair_stop f (Fault k n) b g = refl
pair_stop f (Other None) b g = refl
pair_stop f (Other (Some c)) b g = refl

abbrev pub of_views : ValueView → ReadersView → MarksView → Views
of_views v r m = record { values = v; readers = r; marks = m }

pub same_views : (p q : Views) → p.values ≡ q.values → p.readers ≡ q.readers → p.marks ≡ q.marks → p ≡ q
same_views p q e f h = ap (λ z. of_views z p.readers p.marks) e ∙ ap (λ z. of_views q.values z p.marks) f ∙ ap (λ z. of_views q.values q.readers z) h

module _ (g : World) where
  abbrev pub program : AreChecked g.funcs.now → Program
  program c = record { setting = setting_of g; funcs = g.funcs.now; main = g.main.now; checked = c; same = refl }

  -- a node was asked

  pub begins_asked : (k : Kept) (p q : Pass) → Asks (views p) (views q) → Begins g k p → Begins g k q
  begins_asked k p q a b = (b.0, b.1, b.2, asked_begins (program b.3.checked) b.1 b.2 (bare k) k (views p) (views q) a b.3)

  pub left_asked : (k : Kept) (p q x : Pass) (o : Outcome) → Asks (views p) (views q) → Left g k q x o → Left g k p x o
  left_asked k p q x o a l us above b =
      let P = program b.checked in
      asked_leaves P us above k (kept_of o.tree) (views p) (views q) (views x) (end_of o) a (l us above (asked_begins P us above (bare k) k (views p) (views q) a b))

  pub part_begins_asked : (k rest : Kept) (p q : Pass) → Asks (views p) (views q) → BeginsPart g k rest p → BeginsPart g k rest q
  part_begins_asked k rest p q a b = (b.0, b.1, b.2, asked_begins (program b.3.checked) b.1 b.2 (rec.S (bare k) (bare rest)) k (views p) (views q) a b.3)

  pub part_left_asked : (k rest : Kept) (p q x : Pass) (o : Outcome) → Asks (views p) (views q) → LeftPart g k rest q x o → LeftPart g k rest p x o
  part_left_asked k rest p q x o a l us above b =
      let P = program b.checked in
      part_asked_leaves P us above k rest (kept_of o.tree) (views p) (views q) (views x) (end_of o) a
      (l us above (asked_begins P us above (rec.S (bare k) (bare rest)) k (views p) (views q) a b))

  -- words were looked at

  pub part_begins_looked : (k rest : Kept) (p q : Pass) → Looks (views p) (views q) → BeginsPart g k rest p → BeginsPart g k rest q
  part_begins_looked k rest p q a b = (b.0, b.1, b.2, looked_begins (program b.3.checked) b.1 b.2 (rec.S (bare k) (bare rest)) k (views p) (views q) a b.3)

  pub part_left_looked : (k rest : Kept) (p q x : Pass) (o : Outcome) → Looks (views p) (views q) → LeftPart g k rest q x o → LeftPart g k rest p x o
  part_left_looked k rest p q x o a l us above b =
      let P = program b.checked in
      part_looked_leaves P us above k rest (kept_of o.tree) (views p) (views q) (views x) (end_of o) a
      (l us above (looked_begins P us above (rec.S (bare k) (bare rest)) k (views p) (views q) a b))

  -- a record none of whose nodes is marked

  module _ (k : Kept) (p q : Pass) (a : Asks (views p) (views q)) (closed : IsClosed p.marks.knows) (quiet : (above : Option Handle) → Nodes p.marks.knows above k → NoneMarked p.marks.knows (slots k)) where
    abbrev IsQuiet : Views → Type 0
    IsQuiet z = NoneMarked z.marks (slots k) × EachRead (Present z.values) (bare k)

    pub quiet_asked : (us : List ℕ) (above : Option Handle) (stood : Rec Handle)
        → BeforeIn g us above stood k (views p) → IsQuiet (views q)
    quiet_asked us above stood b =
        let none = quiet above b.planted.nodes in
        let reads = quiet_watched p.values.knows p.marks.knows closed above k b.planted.nodes none b.watched in
        subst IsQuiet (sym a.1) (none, reads)

    module _ (t : Record) (o : Outcome) (is : kept_of t ≡ k) (kept : kept_of o.tree ≡ kept_of t) (end : end_of o ≡ Good (rec_of t)) where
      ended : end_of o ≡ Good (bare k)
      ended = end ∙ ap (λ (z : Kept). Good (bare z)) is

      pub left_quiet : Left g k p q o
      left_quiet us above b =
          let P = program b.checked in
          let i = quiet_asked us above (bare k) b in
          let here = asked_begins P us above (bare k) k (views p) (views q) a b in
          let done = asked_leaves P us above k k (views p) (views q) (views q) (Good (bare k)) a (kept_after P us above k (views q) here i.0 i.1) in
          subst (λ z. After (TellsIn g (bare k)) us above k z (views p) (views q) (end_of o)) (sym (kept ∙ is))
          (subst (λ z. After (TellsIn g (bare k)) us above k k (views p) (views q) z) (sym ended) done)

      part_as : (rest : Kept) → ((us : List ℕ) (above : Option Handle) → BeforeIn g us above (rec.S (bare k) (bare rest)) k (views q) → IsQuiet (views q) → After (PartIn g (bare k) (bare rest)) us above k k (views q) (views q) (Good (bare k))) → LeftPart g k rest p q o
      part_as rest f us above b =
          let P = program b.checked in
          let stood = rec.S (bare k) (bare rest) in
          let T = PartIn g (bare k) (bare rest) in
          let here = asked_begins P us above stood k (views p) (views q) a b in
          let done = part_asked_leaves P us above k rest k (views p) (views q) (views q) (Good (bare k)) a (f us above here (quiet_asked us above stood b)) in
          subst (λ z. After T us above k z (views p) (views q) (end_of o)) (sym (kept ∙ is)) (subst (λ z. After T us above k k (views p) (views q) z) (sym ended) done)

  pub quiet_sides : (n : Handle) (l k rest : Kept) (p q : Pass) → Asks (views p) (views q) → IsClosed p.marks.knows → ((above : Option Handle) → Nodes p.marks.knows above (P n l k) → NoneMarked p.marks.knows (slots (P n l k))) → (t : Record) (o : Outcome) → kept_of t ≡ P n l k → kept_of o.tree ≡ kept_of t → end_of o ≡ Good (rec_of t) → LeftPart g (P n l k) rest p q o
  quiet_sides n l k rest p q a closed quiet t o is kept end =
      part_as (P n l k) p q a closed quiet t o is kept end rest (λ us above b i. kept_pair (program b.checked) us above n l k rest (views q) b i.0 i.1)

  pub quiet_block : (c : Reading) (t rest : Kept) (p q : Pass) → Asks (views p) (views q) → IsClosed p.marks.knows → ((above : Option Handle) → Nodes p.marks.knows above (R c t) → NoneMarked p.marks.knows (slots (R c t))) → (w : Record) (o : Outcome) → kept_of w ≡ R c t → kept_of o.tree ≡ kept_of w → end_of o ≡ Good (rec_of w) → LeftPart g (R c t) rest p q o
  quiet_block c t rest p q a closed quiet w o is kept end =
      part_as (R c t) p q a closed quiet w o is kept end rest (λ us above b i. kept_block (program b.checked) us above c t rest (views q) b i.0 i.1)

  -- a record of statements is one of a body

  pub is_a_body : (us : List ℕ) (above : Option Handle) (k : Kept) (p : Pass) → BeforeIn g us above (bare k) k (views p) → is_body k ≡ true
  is_a_body us above E p b = refl
  is_a_body us above (A m r) p b = refl
  is_a_body us above (W m x r) p b = refl
  is_a_body us above (S n t r) p b = refl
  is_a_body us above (P n l k) p b =
      let w = program b.checked in
      let a = b.needs in
      let s = a.7 in
      absurd (no_pair w.setting w.funcs (Q w) (closed w) (go w) (reading w) a.0 a.1 a.2 a.3 a.5 a.6 (bare l) (bare k) s.so s.meets s.before s.left_it)
  is_a_body us above (R c t) p b =
      let w = program b.checked in
      let a = b.needs in
      let s = a.7 in
      absurd (no_block w.setting w.funcs (Q w) (closed w) (go w) (reading w) a.0 a.1 a.2 a.3 a.5 a.6 (levels - c.level) c.block (env_of c.env) (reads_of c.reads) (bare t) s.so s.meets s.before s.left_it)

  -- of which nothing is left to go through
  kept_part : (us : List ℕ) (above : Option Handle) (x : Part) (p : Pass) → ((a : Box (Made Record) Global) (b : Record) → x ≡ part.Made a b → ⊥) → ((a : Box (Wrote Record) Global) (b : Record) → x ≡ part.Wrote a b → ⊥) → ((a : Box (Step Record) Global) (b d : Record) → x ≡ part.Step a b d → ⊥) → BeforeIn g us above (bare (part_of x)) (part_of x) (views p) → After (TellsIn g (bare (part_of x))) us above (part_of x) (part_of x) (views p) (views p) (Good (bare (part_of x)))
  kept_part us above part.End p f h i b = kept_after (program b.checked) us above E (views p) b (λ y j. absurd j) tt
  kept_part us above (part.Made a r) p f h i b = absurd (f a r refl)
  kept_part us above (part.Wrote a r) p f h i b = absurd (h a r refl)
  kept_part us above (part.Step a t r) p f h i b = absurd (i a t r refl)
  kept_part us above (part.Both a l r) p f h i b = absurd (no_good (is_a_body us above (part_of (part.Both a l r)) p b))
  kept_part us above (part.Block a t) p f h i b = absurd (no_good (is_a_body us above (part_of (part.Block a t)) p b))

  pub part_left : (x : Part) (p : Pass) (o : Outcome) → ((a : Box (Made Record) Global) (b : Record) → x ≡ part.Made a b → ⊥) → ((a : Box (Wrote Record) Global) (b : Record) → x ≡ part.Wrote a b → ⊥) → ((a : Box (Step Record) Global) (b d : Record) → x ≡ part.Step a b d → ⊥) → kept_of o.tree ≡ part_of x → end_of o ≡ Good (bare (part_of x)) → Left g (part_of x) p p o
  part_left x p o f h i kept end us above b =
      let k = part_of x in
      subst (λ z. After (TellsIn g (bare k)) us above k z (views p) (views p) (end_of o)) (sym kept)
      (subst (λ z. After (TellsIn g (bare k)) us above k k (views p) (views p) z) (sym end) (kept_part us above x p f h i b))

  -- what was made, and what was written, before the rest

  module _ (f : Kept → Kept) (h : Rec Handle → Rec Handle) (r : Kept) (p : Pass) (goes : (us : List ℕ) (above : Option Handle) (b : BeforeIn g us above (bare (f r)) (f r) (views p)) → FrontGoes (program b.checked) us above f h r (views p)) where
    front_begins : Begins g (f r) p → Begins g r p
    front_begins b = (b.0, b.1, b.2, (goes b.1 b.2 b.3).rest)

    front_left : (q : Pass) (one o : Outcome) → kept_of o.tree ≡ f (kept_of one.tree) → end_of o ≡ then_ended h (end_of one) → Left g r p q one → Left g (f r) p q o
    front_left q one o kept end l us above b =
        let T = TellsIn g (bare (f r)) in
        let way = goes us above b in
        let done = way.whole (kept_of one.tree) (views q) (end_of one) (l us above way.rest) in
        subst (λ z. After T us above (f r) z (views p) (views q) (end_of o)) (sym kept)
        (subst (λ z. After T us above (f r) (f (kept_of one.tree)) (views p) (views q) z) (sym end) done)

  pub made_begins : (m : Handle) (r : Kept) (p : Pass) → Begins g (A m r) p → Begins g r p
  made_begins m r p = front_begins (A m) (rec.A m) r p (λ us above b. made_goes (program b.checked) us above m r (views p) b)

  pub made_left : (m : Handle) (r : Kept) (p q : Pass) (one o : Outcome) → kept_of o.tree ≡ A m (kept_of one.tree) → end_of o ≡ then_ended (rec.A m) (end_of one) → Left g r p q one → Left g (A m r) p q o
  made_left m r p q = front_left (A m) (rec.A m) r p (λ us above b. made_goes (program b.checked) us above m r (views p) b) q

  pub wrote_begins : (m : Handle) (x : Plain) (r : Kept) (p : Pass) → Begins g (W m x r) p → Begins g r p
  wrote_begins m x r p = front_begins (W m x) (rec.W m (value_of x)) r p (λ us above b. wrote_goes (program b.checked) us above m x r (views p) b)

  pub wrote_left : (m : Handle) (x : Plain) (r : Kept) (p q : Pass) (one o : Outcome) → kept_of o.tree ≡ W m x (kept_of one.tree) → end_of o ≡ then_ended (rec.W m (value_of x)) (end_of one) → Left g r p q one → Left g (W m x r) p q o
  wrote_left m x r p q = front_left (W m x) (rec.W m (value_of x)) r p (λ us above b. wrote_goes (program b.checked) us above m x r (views p) b) q

  -- a body as a part

  pub body_begins : (t rest : Kept) (p : Pass) → is_body t ≡ true → BeginsPart g t rest p → Begins g t p
  body_begins t rest p is b = (b.0, b.1, b.2, (bodies_go (program b.3.checked) b.1 b.2 t rest (views p) is b.3).body)

  pub body_left : (t rest : Kept) (p q : Pass) (o : Outcome) → is_body t ≡ true → Left g t p q o → LeftPart g t rest p q o
  body_left t rest p q o is l us above b =
      let way = bodies_go (program b.checked) us above t rest (views p) is b in
      way.whole (kept_of o.tree) (views q) (end_of o) (l us above way.body)

  -- a part and the rest behind it

  module _ (n : Handle) (t r : Kept) (p : Pass) where
    abbrev Whole : List ℕ → Option Handle → Type 0
    Whole us above = BeforeIn g us above (bare (S n t r)) (S n t r) (views p)

    steps : (us : List ℕ) (above : Option Handle) (b : Whole us above) → StepGoes (program b.checked) us above n t r (views p)
    steps us above b = steps_go (program b.checked) us above n t r (views p) b

    pub step_begins : Begins g (S n t r) p → BeginsPart g t r p
    step_begins b = (b.0, n.slot ∷ b.1 ++ slots r, Some n, (steps b.1 b.2 b.3).part)

    pub step_out : (q : Pass) (one two o : Outcome) → is_good (end_of one) ≡ false → (z : Rec Handle) → end_of two ≡ Good z → end_of o ≡ pair_ended rec.S (end_of one) (end_of two) → LeftPart g t r p q one → Left g (S n t r) p q o
    step_out q one two o bad z kept end l us above b =
        let way = steps us above b in
        let is = end ∙ ap (pair_ended rec.S (end_of one)) kept ∙ pair_stop rec.S (end_of one) z bad in
        subst (λ e. After (TellsIn g (bare (S n t r))) us above (S n t r) (kept_of o.tree) (views p) (views q) e) (sym is)
        (way.stop (kept_of one.tree) (kept_of o.tree) (views q) (end_of one) bad (l (n.slot ∷ us ++ slots r) (Some n) way.part))

    module _ (q : Pass) (one : Outcome) (good : is_good (end_of one) ≡ true) (l : LeftPart g t r p q one) where
      first : (us : List ℕ) (above : Option Handle) (b : Whole us above) → After (PartIn g (bare t) (bare r)) (n.slot ∷ us ++ slots r) (Some n) t (kept_of one.tree) (views p) (views q) (Good (rec_of one.tree))
      first us above b =
          subst (λ e. After (PartIn g (bare t) (bare r)) (n.slot ∷ us ++ slots r) (Some n) t (kept_of one.tree) (views p) (views q) e) (good_end one good)
          (l (n.slot ∷ us ++ slots r) (Some n) (steps us above b).part)

      pub rest_begins : Begins g (S n t r) p → Begins g r q
      rest_begins b = (b.0, n.slot ∷ b.1, Some n, (steps b.1 b.2 b.3).rest (kept_of one.tree) (views q) (first b.1 b.2 b.3))

      module _ (x : Pass) (two o : Outcome) (end : end_of o ≡ pair_ended rec.S (end_of one) (end_of two)) (more : Left g r q x two) where
        abbrev Below : List ℕ → Ended → Type 0
        Below us e = AfterBelow (TellsIn g (bare (S n t r))) us n (S n) t r (kept_of one.tree) (kept_of two.tree) (views p) (views x) e

        both_below : (us : List ℕ) (above : Option Handle) (b : Whole us above) → Below us (end_of o)
        both_below us above b =
            let way = steps us above b in
            let u = kept_of one.tree in
            let is = end ∙ ap (λ e. pair_ended rec.S e (end_of two)) (good_end one good) ∙ pair_then rec.S (bare u) (end_of two) in
            let rest = way.rest u (views q) (first us above b) in
            subst (Below us) (sym is)
            (way.both u (kept_of two.tree) (views q) (views x) (end_of two) (first us above b) (more (n.slot ∷ us) (Some n) rest))

        pub step_undone : is_good (end_of o) ≡ false → Left g (S n t r) p x o
        step_undone bad us above b = (steps us above b).undone (kept_of one.tree) (kept_of two.tree) (kept_of o.tree) (views x) (end_of o) bad (both_below us above b)

        module _ (fine : is_good (end_of o) ≡ true) where
          both_good : (us : List ℕ) (above : Option Handle) (b : Whole us above) → Below us (Good (rec_of o.tree))
          both_good us above b =
              subst (Below us) (good_end o fine) (both_below us above b)

          pub step_owned : Begins g (S n t r) p → Owns x.marks.knows n
          step_owned b = let a = both_good b.1 b.2 b.3 in (steps b.1 b.2 b.3).owns (kept_of one.tree) (kept_of two.tree) a.gone a.made (views x) a.went

          pub step_bared : Begins g (S n t r) p → Bare x.marks.knows n.slot
          step_bared b = let a = both_good b.1 b.2 b.3 in (steps b.1 b.2 b.3).bared (kept_of one.tree) (kept_of two.tree) a.gone a.made (views x) a.went

          pub step_done : (y : Pass) → Clears n (views x) (views y) → kept_of o.tree ≡ S n (kept_of one.tree) (kept_of two.tree) → Left g (S n t r) p y o
          step_done y c kept us above b =
              let done = (steps us above b).done (kept_of one.tree) (kept_of two.tree) (views x) (views y) (rec_of o.tree) (both_good us above b) c in
              let T = TellsIn g (bare (S n t r)) in
              subst (λ e. After T us above (S n t r) (kept_of o.tree) (views p) (views y) e) (sym (good_end o fine))
              (subst (λ z. After T us above (S n t r) z (views p) (views y) (Good (rec_of o.tree))) (sym kept) done)
