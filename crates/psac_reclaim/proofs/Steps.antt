-- What holds on the way holds when the rewinding is done, and after each part.
use Rattle.std.proofs.Common.{◌≡◌, ℕ, ◌+◌, ◌<◌, ◌≤◌, List, [], ◌∷◌, ◌++◌, map, Bool, true, false, cond, refl, sym, ap, ◌∙◌, subst, inl, ⊎_elim, arith}
use Rattle.std.specs.Prelude.{sum_by, ◌==◌}
use Rattle.std.proofs.lemmas.List.Sums.{sum_by-cons, sum_by-append}
use Rattle.std.proofs.lemmas.Bool.{le-ltb, eq-eqb, eqb-true}
use Rattle.psac_ops.specs.declared.plain.Handle.{Handle}
use Rattle.psac_slots.specs.Handles.{Member, once_below}
use Rattle.psac_slots.specs.Claiming as claiming
use Rattle.psac_slots.proofs.Pairs.{member_cases, member_left, member_right, member_map, map_member}
use Rattle.psac_slots.proofs.Removed.{at_most_once}
use Rattle.psac_values.specs.declared.view.ValueView.{ValueView}
use Rattle.psac_values.specs.Steps as values
use Rattle.psac_values.specs.Steps.{made_handle}
use Rattle.psac_values.specs.Knowing.{IsOut}
use Rattle.psac_marks.specs.declared.view.MarksView.{MarksView}
use Rattle.psac_marks.specs.Steps as marks
use Rattle.psac_marks.specs.Passes.{Owns}
use Rattle.psac_readers.specs.declared.view.Stage.{Stage}
use Rattle.psac_readers.specs.declared.view.Stage.TheVariants.{Claimed, UnderWay, In, Dead}
use Rattle.psac_readers.specs.declared.view.LinkView.{LinkView}
use Rattle.psac_readers.specs.declared.view.ReadersView.{ReadersView}
use Rattle.psac_readers.specs.Chained.{named, linked, is_dead, mods_of}
use Rattle.psac_readers.specs.Steps as readers
use Rattle.psac_readers.proofs.Links.{sum_map}
use Rattle.psac_record.specs.Kept.{Stands}
use Rattle.psac_reclaim.specs.Parts.{Outside}
use Rattle.psac_reclaim.specs.Gave.{out_of, ValuesGave, MarksGave, MayRelease, Cleaned, Left, unless_dead, live_part, sets_of}
use Rattle.psac_reclaim.specs.Owed.{entered, ValuesOwed, ReadersOwed, MarksOwed}
use Rattle.psac_reclaim.specs.Going.{ValuesGoing, ReadersGoing, MarksGoing}
use Rattle.psac_reclaim.proofs.Cleaning.{left_on}
use Rattle.psac_reclaim.proofs.Lists.{member_le, member_of, this, this_one, this_in, sum_like}

-- values

pub values_start : (kept gone : List Handle) (v w : ValueView) → ValuesOwed kept gone v → w ≡ values.rewound v → claiming.Accounted w.claims → ValuesGoing kept gone w
values_start kept gone v w o e a = record {
  owed = subst (ValuesOwed kept gone) (sym e) (record { out = o.out; next = o.next });
  once = λ s. let x = a.slots s in let y = at_most_once s w.claims.count in omega (arith, x, y);
  begun = ap (λ (u : ValueView). u.claims.counter) e;
}

pub values_may : (kept here rest : List Handle) (v : ValueView) → ValuesGoing kept (here ++ rest) v → (m : Handle) → Member m here → IsOut m v × (m.generation < 4294967295)
values_may kept here rest v g m i =
    let s = g.owed.out (this m) in
    let p = sum_by-append (this m) here rest in
    let q = member_le (this m) m here i in
    let o = this_one m in
    let r = member_map (made_handle v.fixed) m v.claims.held (this_in m (out_of v) (omega (arith, s, p, q, o))) in
    (r, g.owed.next m (member_left m here rest i))

pub values_step : (kept here rest : List Handle) (v w : ValueView) → ValuesGoing kept (here ++ rest) v → ValuesGave here v w → ValuesGoing kept rest w
values_step kept here rest v w g d = record {
  owed = record {
    out = λ f. let s = g.owed.out f in let t = d.out f in let p = sum_by-append f here rest in omega (arith, s, t, p);
    next = λ m i. g.owed.next m (member_right m here rest i);
  };
  once = λ s. let a = d.once s in let b = g.once s in omega (arith, a, b);
  begun = d.begun;
}

-- nodes

pub marks_start : (kept gone : List Handle) (v w : MarksView) → MarksOwed kept gone v → w ≡ marks.rewound v → marks.Holds w → MarksGoing kept gone w
marks_start kept gone v w o e h = record {
  owed = subst (MarksOwed kept gone) (sym e) (record { out = o.out; next = o.next; dropped = o.dropped; alone = o.alone; families = o.families; marks = o.marks });
  once = h.once;
  owned = h.owned;
  begun = ap (λ (u : MarksView). u.claims.counter) e;
}

node_out : (kept here rest : List Handle) (v : MarksView) → MarksGoing kept (here ++ rest) v → (n : Handle) → Member n here → Member n v.claims.held
node_out kept here rest v g n i =
    let s = g.owed.out (this n) in
    let p = sum_by-append (this n) here rest in
    let q = member_le (this n) n here i in
    let o = this_one n in
    this_in n v.claims.held (omega (arith, s, p, q, o))

pub marks_may : (kept here rest : List Handle) (v : MarksView) → MarksGoing kept (here ++ rest) v → (n : Handle) → Member n here → MayRelease n v
marks_may kept here rest v g n i =
    let out = node_out kept here rest v g n i in
    let down = g.owed.dropped n (member_left n here rest i) in
    record {
      own = g.owned n out;
      out = out;
      dropped = down;
      children = λ o m e. g.owed.families o n.slot m e down;
      next = g.owed.next n (member_left n here rest i);
    }

-- what goes later is of other slots
later_outside : (kept here rest : List Handle) (v : MarksView) → MarksGoing kept (here ++ rest) v → (n : Handle) → Member n rest → Outside here n.slot
later_outside kept here rest v g n i h j e =
    let f : Handle → ℕ = λ (x : Handle). cond (x.slot == n.slot) 1 0 in
    let s = g.owed.out f in
    let p = sum_by-append f here rest in
    let a = member_le f n rest i in
    let b = member_le f h here j in
    let x : f n ≡ 1 = ap {B = ℕ} (λ q. cond q 1 0) (eq-eqb n.slot n.slot refl) in
    let y : f h ≡ 1 = ap {B = ℕ} (λ q. cond q 1 0) (eq-eqb h.slot n.slot e) in
    let few = g.once n.slot in
    absurd (omega (arith, s, p, a, b, x, y, few))

pub marks_step : (kept here rest : List Handle) (v w : MarksView) → MarksGoing kept (here ++ rest) v → MarksGave here v w → MarksGoing kept rest w
marks_step kept here rest v w g d = record {
  owed = record {
    out = λ f. let s = g.owed.out f in let t = d.out f in let p = sum_by-append f here rest in omega (arith, s, t, p);
    next = λ n i. g.owed.next n (member_right n here rest i);
    dropped = λ n i. d.still n.slot (g.owed.dropped n (member_right n here rest i)) (later_outside kept here rest v g n i);
    alone = λ x q. let y = d.dropped x q in let z = g.owed.alone x y.0 in (z.0, ⊎_elim (λ l. absurd (y.1 z.0 l z.2)) (λ r. r) (member_cases z.0 here rest z.1), z.2);
    families = λ o p m e q. let y = d.own o m in let z = d.dropped p q in d.still o.node.slot (g.owed.families o p y.0 e z.0) y.1;
    marks = λ x q. let y = d.marks x q in d.still x (g.owed.marks x y.0) y.1;
  };
  once = λ s. let a = d.once s in let b = g.once s in omega (arith, a, b);
  owned = owned_still;
  begun = d.begun;
}
  where
    held_still : (h : Handle) → Member h w.claims.held → Member h v.claims.held × Outside here h.slot
    held_still h m =
        let t = d.out (this h) in
        let q = member_le (this h) h w.claims.held m in
        let o = this_one h in (
          this_in h v.claims.held (omega (arith, t, q, o)),
          λ x i e.
              let f : Handle → ℕ = λ (y : Handle). cond (y.slot == h.slot) 1 0 in
              let s = d.out f in
              let a = member_le f h w.claims.held m in
              let b = member_le f x here i in
              let k : f h ≡ 1 = ap {B = ℕ} (λ q. cond q 1 0) (eq-eqb h.slot h.slot refl) in
              let j : f x ≡ 1 = ap {B = ℕ} (λ q. cond q 1 0) (eq-eqb x.slot h.slot e) in
              let few = g.once h.slot in
              absurd (omega (arith, s, a, b, k, j, few)),
        )

    owned_still : (h : Handle) → Member h w.claims.held → Owns w h
    owned_still h m =
        let y = held_still h m in
        let o = g.owned h y.0 in
        (o.0, d.stays o.0 o.1 (subst (λ (x : Handle). Outside here x.slot) (sym o.2) y.1), o.2)

-- links

-- the weight of dead links of a set
dead_of : ℕ → LinkView → ℕ
dead_of m k = cond (k.of == m) (is_dead k.stage) 0

dead_of_dead : (k : LinkView) → k.stage ≡ Dead → ◌≡◌ {A = ℕ} (dead_of k.of k) 1
unfolding dead_of
dead_of_dead k d = rw (eq-eqb k.of k.of refl, d) refl

dead_of_in : (m : ℕ) (s : Stands) → dead_of m (entered In s) ≡ 0
unfolding dead_of
dead_of_in m s = by (s.of.slot == m)
  where
    by : (b : Bool) → ◌≡◌ {A = ℕ} (cond b 0 0) 0
    by true = refl
    by false = refl

dead_of_is : (m : ℕ) (k : LinkView) → 0 < dead_of m k → k.of ≡ m
unfolding dead_of
dead_of_is m k p = by (k.of == m) refl p
  where
    by : (b : Bool) → (k.of == m) ≡ b → 0 < cond b (is_dead k.stage) 0 → k.of ≡ m
    by true e p = eqb-true k.of m e
    by false e p = absurd (omega (arith, p))

-- the weight of a dead link of this number and set
dead_at : ℕ → ℕ → LinkView → ℕ
dead_at m l k = cond (k.link == l) (cond (k.of == m) (is_dead k.stage) 0) 0

dead_at_one : (s : Stands) → ◌≡◌ {A = ℕ} (dead_at s.of.slot s.link.index (entered Dead s)) 1
unfolding dead_at
dead_at_one s = rw (eq-eqb s.link.index s.link.index refl, eq-eqb s.of.slot s.of.slot refl) refl

dead_at_is : (m l : ℕ) (k : LinkView) → 0 < dead_at m l k → (k.link ≡ l) × (k.of ≡ m) × (k.stage ≡ Dead)
unfolding dead_at
dead_at_is m l k p = by (k.link == l) (k.of == m) k.stage refl refl refl p
  where
    by : (a b : Bool) (s : Stage) → (k.link == l) ≡ a → (k.of == m) ≡ b → k.stage ≡ s → 0 < cond a (cond b (is_dead s) 0) 0 → (k.link ≡ l) × (k.of ≡ m) × (k.stage ≡ Dead)
    by true true Dead x y z p = (eqb-true k.link l x, eqb-true k.of m y, z)
    by true true Claimed x y z p = absurd (omega (arith, p))
    by true true (UnderWay n) x y z p = absurd (omega (arith, p))
    by true true In x y z p = absurd (omega (arith, p))
    by true false s x y z p = absurd (omega (arith, p))
    by false b s x y z p = absurd (omega (arith, p))

once_low : (k n : ℕ) → 0 < once_below k n → k < n
once_low k n p = by (λ (q : n ≤ k). let z : once_below k n ≡ 0 = ap {B = ℕ} (λ b. cond b 1 0) (le-ltb k n q) in absurd (omega (arith, p, z)))
  where
    by : (n ≤ k → ⊥) → k < n
    by f = omega (arith, f)

sum_nothing : {A : Type 0} (f : A → ℕ) → ((x : A) → f x ≡ 0) → (xs : List A) → sum_by f xs ≡ 0
sum_nothing f z [] = refl
sum_nothing f z (x ∷ xs) = let c = sum_by-cons f x xs in let a = z x in let r = sum_nothing f z xs in omega (arith, c, a, r)

pub readers_start : (kept gone : List Stands) (v w : ReadersView) → ReadersOwed kept gone v → w ≡ readers.rewound v → ((l : ℕ) → sum_by (named l) w.links ≤ 1) → readers.Holds w → claiming.Accounted w.claims → ReadersGoing kept gone w
readers_start kept gone v w o e few h acc = record {
  live = λ g.
      let a = total (unless_dead g) in
      let b = sum_map (entered In) (unless_dead g) kept in
      let c = sum_map (entered Dead) (unless_dead g) gone in
      let d = sum_nothing (λ (s : Stands). unless_dead g (entered Dead s)) (λ s. refl) gone in
      let f = sum_map (entered In) g kept in
      omega (arith, a, b, c, d, f);
  dead = dead_one;
  inside = inside_one;
  low = low_one;
  left = left_one;
  sets = λ m l. subst (λ (u : ReadersView). Member m (mods_of u.walk)) (sym e) (o.sets m (subst (λ (u : ReadersView). m < u.mods) e l));
  once = few;
  begun = ap (λ (u : ReadersView). u.claims.counter) e;
}
  where
    total : (g : LinkView → ℕ) → sum_by g w.links ≡ sum_by g (map (entered In) kept) + sum_by g (map (entered Dead) gone)
    total g = ap (λ (u : ReadersView). sum_by g u.links) e ∙ o.links g

    dead_one : (k : LinkView) → Member k w.links → k.stage ≡ Dead → (s : Stands) × Member s gone × (s.of.slot ≡ k.of)
    dead_one k m d =
        let a = total (dead_of k.of) in
        let b = sum_map (entered In) (dead_of k.of) kept in
        let c = sum_nothing (λ (s : Stands). dead_of k.of (entered In s)) (dead_of_in k.of) kept in
        let q = member_le (dead_of k.of) k w.links m in
        let one = dead_of_dead k d in
        let r = member_of (dead_of k.of) (map (entered Dead) gone) (omega (arith, a, b, c, q, one)) in
        let y = member_map (entered Dead) r.0 gone r.1 in
        (y.0, y.1, ap (λ (x : LinkView). x.of) y.2 ∙ dead_of_is k.of r.0 r.2)

    left_one : (s : Stands) → Member s gone → Left s.of.slot s.link.index w
    left_one s m =
        let f : LinkView → ℕ = dead_at s.of.slot s.link.index in
        let a = total f in
        let q = member_le f (entered Dead s) (map (entered Dead) gone) (map_member (entered Dead) s gone m) in
        let one = dead_at_one s in
        let r = member_of f w.links (omega (arith, a, q, one)) in
        let t = dead_at_is s.of.slot s.link.index r.0 r.2 in
        inl (r.0, r.1, t.0, t.1, t.2)

    low_one : (s : Stands) → Member s gone → s.link.index < w.claims.count
    low_one s m =
        let l = s.link.index in
        let a = total (named l) in
        let q = member_le (named l) (entered Dead s) (map (entered Dead) gone) (map_member (entered Dead) s gone m) in
        let one : named l (entered Dead s) ≡ 1 = ap {B = ℕ} (λ b. cond b 1 0) (eq-eqb l l refl) in
        let z = h.held l in
        let y = acc.slots l in
        let some : 0 < once_below l w.claims.count = omega (arith, a, q, one, z, y) in
        once_low l w.claims.count some

    inside_one : (s : Stands) → Member s gone → s.of.slot < w.mods
    inside_one s m =
        let f : LinkView → ℕ = linked s.of.slot s.link.index in
        let a = total f in
        let q = member_le f (entered Dead s) (map (entered Dead) gone) (map_member (entered Dead) s gone m) in
        let one : f (entered Dead s) ≡ 1 = rw (eq-eqb s.link.index s.link.index refl, eq-eqb s.of.slot s.of.slot refl) refl in
        below (λ x. let z = h.inside s.of.slot s.link.index x in absurd (omega (arith, a, q, one, z)))
      where
        below : (w.mods ≤ s.of.slot → ⊥) → s.of.slot < w.mods
        below n = omega (arith, n)

pub readers_step : (kept here rest : List Stands) (v w : ReadersView) → ReadersGoing kept (here ++ rest) v → Cleaned (sets_of here) v w → ReadersGoing kept rest w
readers_step kept here rest v w g c = record {
  live = λ f. c.live f ∙ g.live f;
  dead = λ k m d. let q = g.dead k (c.links k m) d in
      (q.0, ⊎_elim (λ l. absurd (c.clean q.0.of.slot (map_member (λ (s : Stands). s.of.slot) q.0 here l) k m d q.2)) (λ r. r) (member_cases q.0 here rest q.1), q.2);
  inside = λ s m. let a = g.inside s (member_right s here rest m) in let e = c.same.mods in omega (arith, a, e);
  low = λ s m. let a = g.low s (member_right s here rest m) in let e = c.same.count in omega (arith, a, e);
  left = λ s m. left_on (sets_of here) s.of.slot s.link.index v w c (g.left s (member_right s here rest m));
  sets = λ m l. subst (λ (z : List ℕ). Member m z) (sym c.same.sets_are) (g.sets m (let e = c.same.mods in omega (arith, l, e)));
  once = λ l. let a = c.once l in let b = g.once l in omega (arith, a, b);
  begun = c.same.begun;
}

-- where nothing goes, the links are those that are kept
pub readers_end : (kept : List Stands) (v : ReadersView) → ReadersGoing kept [] v → (g : LinkView → ℕ) → sum_by g v.links ≡ sum_by g (map (entered In) kept)
readers_end kept v r g = sum_like g (unless_dead g) v.links (λ k m. alive k (λ d. absurd (r.dead k m d).1)) ∙ r.live g
  where
    alive : (k : LinkView) → (k.stage ≡ Dead → ⊥) → g k ≡ unless_dead g k
    alive k n = by k.stage refl
      where
        by : (s : Stage) → k.stage ≡ s → g k ≡ live_part s (g k)
        by Claimed e = refl
        by (UnderWay x) e = refl
        by In e = refl
        by Dead e = absurd (n e)
