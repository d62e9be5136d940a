-- How little each call of a repair does, where each marked node stands over a block that read other words than are
-- present.
use Rattle.std.proofs.Common.{◌≡◌, ℕ, ◌+◌, ◌≤◌, ◌<◌, true, length, List, ◌∷◌, ◌++◌, Option, Some}
use Rattle.std.proofs.Common.{refl, ap, sym, ◌∙◌, subst, inl, inr, arith}
use Rattle.psac_ops.specs.declared.plain.Handle.{Handle}
use Rattle.psac_ops.specs.declared.plain.Plain.{Plain}
use Rattle.psac_ops.specs.Value.{Value}
use Rattle.psac_slots.specs.Handles.{Member}
use Rattle.psac_slots.specs.Claiming.{times}
use Rattle.psac_laws.proofs.Places.{test_or}
use Rattle.psac_values.specs.declared.view.ValueView.{ValueView}
use Rattle.psac_marks.specs.declared.view.MarksView.{MarksView}
use Rattle.psac_marks.specs.Steps.{other, cleared}
use Rattle.psac_marks.proofs.Counted.{times_in, times_out}
use Rattle.psac_traced.specs.Rec as rec
use Rattle.psac_traced.specs.Mending.{Mending}
use Rattle.psac_traced.specs.Holds.{EachOf}
use Rattle.psac_traced.proofs.Holds.{each_read_more}
use Rattle.psac_record.specs.declared.parts.Reading.{Reading}
use Rattle.psac_record.specs.Kept.{Kept, E, A, W, S, P, R, bare, reads_of}
use Rattle.psac_repair.specs.Ended.{Good}
use Rattle.psac_repair.specs.Divided.{writes_slot}
use Rattle.psac_repair.specs.Marks.{Present, IsMarked}
use Rattle.psac_repair.specs.Planted.{slots}
use Rattle.psac_repair.specs.Rewired.{Unread}
use Rattle.psac_repair.specs.Laws.{Program}
use Rattle.psac_repair.specs.Counted.{done, Spent}
use Rattle.psac_repair.specs.Founded.{AllPresent, Founded, OnlyWoken, Idle}
use Rattle.psac_repair.specs.FoundLaws.{FrontFounds, PartsFound, SidesFound, BlockFounds}
use Rattle.psac_repair.specs.Going.{Views, Asks, Looks, Clears}
use Rattle.psac_repair.specs.WalkLaws.{Here, Gone, PartGone, Joins, left_side, right_side}
use Rattle.psac_repair.specs.Sparing.{IsFounded, Sparing, Since}
use Rattle.psac_repair.proofs.Rewiring.{led_on}
use Rattle.psac_repair.proofs.Unread.{unread_behind, unread_beside}
use Rattle.psac_repair.proofs.Visiting.{made_unread}
use Rattle.psac_repair.proofs.Counting.{none_done, same_block, spent_parts, spent_turns, spent_sides, spent_block}
use Rattle.psac_repair.proofs.Founding.{steps_found, turns_found}
use Rattle.psac_repair.proofs.Founds.{none_founded, fewer_founded, something_runs, made_founds, wrote_founds}
use Rattle.psac_repair.proofs.Founds.{sides_found}
use Rattle.psac_repair.proofs.Founds.{blocks_found}
use Rattle.psac_repair.proofs.Layers.{Q, closed, go, reading}

-- a node that was cleared: of no node more marks are set
pub fewer_marked : (x : ℕ) (m : MarksView) (us : List ℕ) (y : ℕ) → Member y us
    → times y (cleared x m).marked ≤ times y m.marked
fewer_marked x m us y i =
    elim (test_or (other x y)) [
      | inl e ↦ (let d = times_in (other x) y m.marked e in omega (arith, d))
      | inr e ↦ (let d = times_out (other x) y m.marked e in omega (arith, d))
    ]

-- on another view, where what is present is present there too, and on marks of which no more are set
founded_alike : (v u : ValueView) (m n : MarksView) → ((h : Handle) (x : Value Handle) → Present u h x → Present v h x)
    → ((h : Handle) → IsMarked n h → IsMarked m h) → (k : Kept) → Founded v m k → Founded u n k
founded_alike v u m n back marks E f = tt
founded_alike v u m n back marks (A h k) f = founded_alike v u m n back marks k f
founded_alike v u m n back marks (W h x k) f = founded_alike v u m n back marks k f
founded_alike v u m n back marks (S c t k) f = (
  λ i a. f.0 (marks c i) (each_read_more (Present u) (Present v) back (bare (S c t k)) a),
  founded_alike v u m n back marks t f.1,
  founded_alike v u m n back marks k f.2,
)
founded_alike v u m n back marks (P c t k) f = (
  λ i a. f.0 (marks c i) (each_read_more (Present u) (Present v) back (bare (P c t k)) a),
  founded_alike v u m n back marks t f.1,
  founded_alike v u m n back marks k f.2,
)
founded_alike v u m n back marks (R b t) f = (
  λ i a. f.0 (marks b.node i) (each_read_more (Present u) (Present v) back (bare (R b t)) a),
  founded_alike v u m n back marks t f.1,
)

-- a pass that looked and asked

pub same_since : (looks asks : ℕ) (p : Views) → Since looks asks p p
same_since looks asks p =
    record { looked = p.values.looks; asked = p.marks.asks; is = refl; looks = omega arith; asks = omega arith }

pub since_asked : (p q : Views) → Asks p q → q.marks.asks ≤ p.marks.asks + 1 → Since 0 1 p q
since_asked p q a once =
    record {
      looked = p.values.looks;
      asked = a.0;
      is = a.1;
      looks = omega arith;
      asks = subst (λ (z : Views). z.marks.asks ≤ p.marks.asks + 1) a.1 once;
    }

pub since_looked : (looks asks : ℕ) (p q x : Views) → Since 0 asks p q → Looks q x
    → x.values.looks ≤ q.values.looks + looks
    → Since looks asks p x
since_looked looks asks p q x s b more =
    let d = ap (λ (z : Views). z.values.looks) b.1 in
    let e = ap (λ (z : Views). z.values.looks) s.is in
    let f = s.looks in
    record {
      looked = b.0;
      asked = s.asked;
      is = b.1 ∙ ap (λ (z : Views). record z { values = record z.values { looks = b.0 } }) s.is;
      looks = omega (arith, d, e, f, more);
      asks = s.asks;
    }

module _ (looks asks : ℕ) (p q : Views) (s : Since looks asks p q) where
  abbrev later : Views
  later =
      record {
        values = record p.values { looks = s.looked };
        readers = p.readers;
        marks = record p.marks { asks = s.asked };
      }

  pub since_founded : (k : Kept) → IsFounded p k → IsFounded q k
  since_founded k f =
      subst (λ z. IsFounded z k) (sym s.is) (
        each_read_more (λ h x. writes_slot (bare k) h.slot ≡ true → Present p.values h x)
            (λ h x. writes_slot (bare k) h.slot ≡ true → Present later.values h x) (λ h x a e. a e) (bare k) f.0,
        founded_alike p.values later.values p.marks later.marks (λ h x a. a) (λ h i. i) k f.1,
      )

  pub since_marked : (n : Handle) → IsMarked p.marks n → IsMarked q.marks n
  since_marked n i = subst (λ (z : Views). IsMarked z.marks n) (sym s.is) i

  only_later : (u : ValueView) (n : MarksView) (us : List ℕ) (k : Kept) → OnlyWoken later.readers later.marks u n us k
      → OnlyWoken p.readers p.marks u n us k
  only_later u n us k f ns within leads =
      f ns within
      (λ h d l c i e g w low j.
      led_on p.marks later.marks ns (λ a b c. b) (λ y a b. b) (λ y a b. b) c.slot (leads h d l c i e g w low j))

  pub since_only : (u : ValueView) (n : MarksView) (us : List ℕ) (k : Kept) → OnlyWoken q.readers q.marks u n us k
      → OnlyWoken p.readers p.marks u n us k
  since_only u n us k f = only_later u n us k (subst (λ (z : Views). OnlyWoken z.readers z.marks u n us k) s.is f)

  pub since_all : (k : Kept) → AllPresent q.values k → AllPresent p.values k
  since_all k a =
      each_read_more (Present later.values) (Present p.values) (λ h x b. b) (bare k)
      (subst (λ (z : Views). AllPresent z.values k) s.is a)

  pub since_idle : (k new : Kept) → Idle q.values k new → Idle p.values k new
  since_idle k new f e = since_all k (f e)

  pub since_looks : q.values.looks ≤ p.values.looks + looks
  since_looks = subst (λ (z : Views). z.values.looks ≤ p.values.looks + looks) (sym s.is) s.looks

  pub since_asks : q.marks.asks ≤ p.marks.asks + asks
  since_asks = subst (λ (z : Views). z.marks.asks ≤ p.marks.asks + asks) (sym s.is) s.asks

-- a record that is kept

pub kept_spares : (us : List ℕ) (k : Kept) (p q : Views) → Since 0 1 p q → AllPresent p.values k → Sparing us k k p q
kept_spares us k p q s all =
    let looks = since_looks 0 1 p q s in
    let asks = since_asks 0 1 p q s in
    let z = ap (λ (d : Mending Handle). d.visited) (none_done k) in
    record {
      only = since_only 0 1 p q s q.values q.marks us k (none_founded q.readers q.marks q.values us k);
      idle = λ e. all;
      spent = record { looks = omega (arith, looks); asks = omega (arith, asks, z) };
    }

-- what was made, and what was written, before the rest

pub front_founded : (f : Kept → Kept) (k : Kept) (p : Views) → FrontFounds p.values p.marks f k → IsFounded p (f k)
    → IsFounded p k
front_founded f k p a b = (a.coherent b.0, a.founded b.1)

pub made_spares : (us : List ℕ) (m : Handle) (k u : Kept) (p q : Views) → Sparing us k u p q
    → Sparing us (A m k) (A m u) p q
made_spares us m k u p q a =
    let f = made_founds p.values p.marks m k in
    record {
      only = f.only p.readers q.values q.marks us a.only;
      idle = f.idle u a.idle;
      spent = record { looks = a.spent.looks; asks = a.spent.asks };
    }

pub wrote_spares : (us : List ℕ) (m : Handle) (x : Plain) (k u : Kept) (p q : Views) → Sparing us k u p q
    → Sparing us (W m x k) (W m x u) p q
wrote_spares us m x k u p q a =
    let f = wrote_founds p.values p.marks m x k in
    record {
      only = f.only p.readers q.values q.marks us a.only;
      idle = f.idle u a.idle;
      spent = record { looks = a.spent.looks; asks = a.spent.asks };
    }

-- what was spent is told from before the pass looked and asked
earlier : (before p : Views) (z : ValueView) (m y : MarksView) (k new : Kept) → Since 0 1 before p
    → Spent p.values z m y k new → Spent before.values z m y k new
earlier before p z m y k new s a =
    let b = since_looks 0 1 before p s in
    let c = a.looks in
    record { looks = omega (arith, b, c); asks = a.asks }

-- a node is cleared once the parts below it are done
after_clearing : (us : List ℕ) (n : Handle) (k new : Kept) (before p z y : Views) (looks : ℕ) → Since looks 1 before p
    → OnlyWoken p.readers p.marks z.values z.marks us k → Idle p.values k new
    → Spent before.values z.values before.marks z.marks k new → Clears n z y → Sparing us k new before y
after_clearing us n k new before p z y looks s only idle spent c =
    subst (Sparing us k new before) (sym c)
    (record {
      only = since_only looks 1 before p s z.values (cleared n.slot z.marks) us k
          (fewer_founded p.readers p.marks z.marks (cleared n.slot z.marks) z.values us k
          (fewer_marked n.slot z.marks us) only);
      idle = since_idle looks 1 before p s k new idle;
      spent = record { looks = spent.looks; asks = spent.asks };
    })

-- a part and the rest behind it
module _ (g : Program) (us : List ℕ) (above : Option Handle) (n : Handle) (t r : Kept) (p : Views)
    (b : Here g us above (bare (S n t r)) (S n t r) p) (f : IsFounded p (S n t r)) (marked : IsMarked p.marks n) where
  step_founds : PartsFound p.readers p.values p.marks us n (S n) t r
  step_founds =
      steps_found p.readers p.values p.marks us above n t r b.tidy b.owned b.planted b.wired b.ordered b.watched
      marked f.0 f.1

  pub step_part : IsFounded p t
  step_part = step_founds.part

  module _ (u : Kept) (q : Views) (a : PartGone g (n.slot ∷ us ++ slots r) (Some n) r t u p q (Good (bare u)))
      (x : Sparing (n.slot ∷ us ++ slots r) t u p q) where
    pub step_rest : IsFounded q r
    step_rest = step_founds.rest q.values q.marks a.beside.steady a.beside.passed x.only

    step_unread : Unread a.made r
    step_unread =
        made_unread t u r a.made a.went.made_is
        (unread_behind g.setting g.funcs (Q g) (closed g) (go g) (reading g)
        g.same p.values q.values t r u a.lasting.drawn
        b.once b.owned.1 a.lasting.stays b.needs a.tells)

    module _ (w : Kept) (z : Views) (c : Gone g (n.slot ∷ us) (Some n) r w q z (Good (bare w)))
        (y : Sparing (n.slot ∷ us) r w q z) (before : Views) (s : Since 0 1 before p) where
      step_idle : Idle p.values (S n t r) (S n u w)
      step_idle = step_founds.idle q.values u w a.beside.steady x.idle y.idle

      pub step_spares : (e : Views) → Clears n z e → Sparing us (S n t r) (S n u w) before e
      step_spares e cl =
          let more = something_runs p.values (S n t r) (S n u w) (f.1.0 marked) step_idle in
          let spent = spent_parts p.values q.values z.values before.marks p.marks q.marks z.marks n t r u w more
          (since_asks 0 1 before p s) x.spent y.spent in
          after_clearing us n (S n t r) (S n u w) before p z e 0 s
          (step_founds.both q.readers q.values z.values q.marks z.marks a.gone a.made a.relinks step_unread
          a.beside.steady
          c.beside.steady a.beside.passed x.only y.only)
          step_idle (earlier before p z.values before.marks z.marks (S n t r) (S n u w) s spent) cl

-- both sides of a par, one after the other, and at once
module _ (g : Program) (us : List ℕ) (above : Option Handle) (n : Handle) (l k rest : Kept) (p : Views)
    (b : Here g us above (rec.S (bare (P n l k)) (bare rest)) (P n l k) p) (f : IsFounded p (P n l k))
    (marked : IsMarked p.marks n) where
  turn_founds : PartsFound p.readers p.values p.marks us n (P n) l k
  turn_founds =
      turns_found p.readers p.values p.marks us above n l k b.tidy b.owned.0 b.planted b.wired b.ordered b.watched
      marked f.0 f.1

  pub turn_left : IsFounded p l
  turn_left = turn_founds.part

  module _ (u : Kept) (q : Views) (a : Gone g (n.slot ∷ us ++ slots k) (Some n) l u p q (Good (bare u)))
      (x : Sparing (n.slot ∷ us ++ slots k) l u p q) where
    pub turn_right : IsFounded q k
    turn_right = turn_founds.rest q.values q.marks a.beside.steady a.beside.passed x.only

    turn_unread : Unread a.made k
    turn_unread =
        made_unread l u k a.made a.went.made_is
        (unread_beside g.setting g.funcs (Q g) (closed g) (go g) (reading g) g.same p.values q.values l k u (bare rest)
        a.lasting.drawn b.once b.tidy b.owned.0.0 b.owned.0.1 a.lasting.stays b.needs a.tells)

    module _ (w : Kept) (z : Views) (c : Gone g (n.slot ∷ us) (Some n) k w q z (Good (bare w)))
        (y : Sparing (n.slot ∷ us) k w q z) (before : Views) (s : Since 0 1 before p) where
      turn_idle : Idle p.values (P n l k) (P n u w)
      turn_idle = turn_founds.idle q.values u w a.beside.steady x.idle y.idle

      pub turn_spares : (e : Views) → Clears n z e → Sparing us (P n l k) (P n u w) before e
      turn_spares e cl =
          let more = something_runs p.values (P n l k) (P n u w) (f.1.0 marked) turn_idle in
          let asks = since_asks 0 1 before p s in
          let spent = spent_turns p.values q.values z.values before.marks p.marks q.marks z.marks n l k u w more
          (omega (arith, asks)) x.spent y.spent in
          after_clearing us n (P n l k) (P n u w) before p z e 0 s
          (turn_founds.both q.readers q.values z.values q.marks z.marks a.gone a.made a.relinks turn_unread
          a.beside.steady
          c.beside.steady a.beside.passed x.only y.only)
          turn_idle (earlier before p z.values before.marks z.marks (P n l k) (P n u w) s spent) cl

  side_founds : SidesFound p.readers p.values p.marks us n l k
  side_founds =
      sides_found p.readers p.values p.marks us above n l k b.rooted b.planted b.wired b.ordered marked f.0 f.1

  pub side_left : IsFounded (left_side l k p) l
  side_left = side_founds.left

  pub side_right : IsFounded (right_side l k p) k
  side_right = side_founds.right

  module _ (u w : Kept) (a c j : Views) (x : Sparing (n.slot ∷ us) l u (left_side l k p) a)
      (y : Sparing (n.slot ∷ us) k w (right_side l k p) c) (jn : Joins a c j) (before : Views)
      (s : Since 0 1 before p) where
    side_idle : Idle p.values (P n l k) (P n u w)
    side_idle = side_founds.idle u w x.idle y.idle

    pub side_spares : (e : Views) → Clears n j e → Sparing us (P n l k) (P n u w) before e
    side_spares e cl =
        let more = something_runs p.values (P n l k) (P n u w) (f.1.0 marked) side_idle in
        let asks = since_asks 0 1 before p s in
        let spent = spent_sides p.values a.values c.values j.values before.marks p.marks a.marks c.marks j.marks n l
        k u w more
        (omega (arith, asks)) x.spent y.spent jn.values jn.marks in
        after_clearing us n (P n l k) (P n u w) before p j e 0 s
        (side_founds.both a.values c.values j.values a.marks c.marks j.marks jn.united jn.marks x.only y.only)
        side_idle (earlier before p j.values before.marks j.marks (P n l k) (P n u w) s spent) cl

-- a read block that read what is present, and its body
module _ (g : Program) (us : List ℕ) (above : Option Handle) (c : Reading) (t rest : Kept) (p : Views)
    (b : Here g us above (rec.S (bare (R c t)) (bare rest)) (R c t) p) (f : IsFounded p (R c t))
    (marked : IsMarked p.marks c.node) where
  block_founds : BlockFounds p.readers p.values p.marks us c t
  block_founds = blocks_found p.readers p.values p.marks us above c t b.planted marked f.0 f.1

  pub block_body : IsFounded p t
  block_body = block_founds.body

  module _ (present : EachOf (Present p.values) (reads_of c.reads)) (u : Kept) (z : Views)
      (x : Sparing (c.node.slot ∷ us) t u p z) (before : Views) (s : Since (length c.reads) 1 before p) where
    block_idle : Idle p.values (R c t) (R c u)
    block_idle = block_founds.idle u present x.idle

    block_runs : 0 < (done t u).rerun
    block_runs =
        subst (λ d. 0 < d) (ap (λ (d : Mending Handle). d.rerun) (same_block c t u))
        (something_runs p.values (R c t) (R c u) (f.1.0 marked) block_idle)

    pub block_spares : (e : Views) → Clears c.node z e → Sparing us (R c t) (R c u) before e
    block_spares e cl =
        let spent = spent_block before.values p.values z.values before.marks p.marks z.marks c t u block_runs
        (since_asks (length c.reads) 1 before p s) (since_looks (length c.reads) 1 before p s) x.spent in
        after_clearing us c.node (R c t) (R c u) before p z e (length c.reads) s
        (block_founds.same z.values z.marks x.only)
        block_idle spent cl
