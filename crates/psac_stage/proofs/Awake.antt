-- What the blocks of a record read, once slots changed and their readers are marked; and what the record wrote.
use Rattle.std.proofs.Common.{◌≡◌, ◌⊎◌, ℕ, ◌≤◌, ◌<◌, List, [], ◌∷◌, map, Some, None, refl, ap, sym, ◌∙◌, subst, inl, inr, ⊎_elim, arith}
use Rattle.psac_ops.specs.declared.plain.Handle.{Handle}
use Rattle.psac_ops.specs.declared.plain.Plain.{Plain}
use Rattle.psac_ops.specs.Value.{Value}
use Rattle.psac_ops.specs.Named.{value_of}
use Rattle.psac_slots.specs.Handles.{Member}
use Rattle.psac_slots.proofs.Pairs.{member_left, member_right, member_cases, member_map, map_member}
use Rattle.psac_values.specs.declared.view.OwnedView.{OwnedView}
use Rattle.psac_values.specs.declared.view.ValueView.{ValueView}
use Rattle.psac_values.specs.Knowing.{Has}
use Rattle.psac_marks.specs.Passes.{IsBusy}
use Rattle.psac_plain.specs.Opened.{at_slot}
use Rattle.psac_traced.specs.Rec.{writes}
use Rattle.psac_traced.specs.Holds.{EachOf}
use Rattle.psac_record.specs.declared.parts.Seen.{Seen}
use Rattle.psac_record.specs.Kept.{Kept, E, A, W, S, P, R, Stands, stands, made_of, links_of, reads_of, bare}
use Rattle.psac_trace.specs.Rights.{Heap, held, In, Sees, Shares, Tidy}
use Rattle.psac_trace.specs.Raising.{puts}
use Rattle.psac_trace.proofs.Heaps.{in_front, in_back, at_one, in_and_none, handle_by}
use Rattle.psac_repair.specs.Going.{Views}
use Rattle.psac_repair.specs.Linked.{standing}
use Rattle.psac_repair.specs.Marks.{Present}
use Rattle.psac_repair.specs.Seen.{Known}
use Rattle.psac_repair.specs.Stood.{Owned}
use Rattle.psac_repair.specs.Watched.{Watched}
use Rattle.psac_stage.specs.Holding.{value_in, entries, HasFixed}
use Rattle.psac_stage.specs.Recorded.{known_of, seen_of, HasMade, HasNodes, HasLinks}
use Rattle.psac_stage.specs.Staging.{Changes}
use Rattle.psac_stage.proofs.Changing.{member_or}
use Rattle.psac_stage.proofs.Known.{known_entry, known_value, has_is, one_has, value_seen, value_present}
use Rattle.psac_stage.proofs.Paths.{link_here, link_slot}
use Rattle.psac_stage.proofs.Storing.{entries_same, member_before}

-- what a record put, it wrote
pub put_written : (k : Kept) (m : Handle) (x : Plain) → Member {A = Handle × Plain} (m, x) (puts k) → In (writes (bare k)) m
put_written E m x i = absurd i
put_written (A n r) m x i = put_written r m x i
put_written (W n y r) m x (inl e) =
    in_back (writes (bare r)) ((n, value_of y) ∷ []) m (subst (In ((n, value_of y) ∷ [])) (ap (λ (z : Handle × Plain). z.0) e)
    (value_of y, at_one n (value_of y)))
put_written (W n y r) m x (inr i) = in_front (writes (bare r)) ((n, value_of y) ∷ []) m (put_written r m x i)
put_written (S n t r) m x i =
    ⊎_elim
    (λ (j : Member {A = Handle × Plain} (m, x) (puts t)). in_back (writes (bare r)) (writes (bare t)) m (put_written t m x j))
    (λ (j : Member {A = Handle × Plain} (m, x) (puts r)). in_front (writes (bare r)) (writes (bare t)) m (put_written r m x j))
    (member_cases (m, x) (puts t) (puts r) i)
put_written (P n t r) m x i =
    ⊎_elim
    (λ (j : Member {A = Handle × Plain} (m, x) (puts t)). in_back (writes (bare r)) (writes (bare t)) m (put_written t m x j))
    (λ (j : Member {A = Handle × Plain} (m, x) (puts r)). in_front (writes (bare r)) (writes (bare t)) m (put_written r m x j))
    (member_cases (m, x) (puts t) (puts r) i)
put_written (R b t) m x i = put_written t m x i

module _ (k : Kept) (ss : List ℕ) (p q : Views) (a : Changes ss p q) (alone : p.values.known ≡ []) (made : HasMade k p.values) where
  abbrev v : ValueView
  v = p.values

  abbrev u : ValueView
  u = q.values

  pub few_now : (s : ℕ) → entries s u.mine ≤ 1
  few_now s = let e = entries_same v u a.same s in let f = made.once s in omega (arith, e, f)

  pub alone_now : u.known ≡ []
  alone_now = a.same.known ∙ alone

  pub has_now : (m : Handle) → Has v m → Has u m
  has_now m (o, i, e) =
      let f : OwnedView → Handle = λ (w : OwnedView). w.of in
      let b = member_map f o.of u.mine (subst (Member o.of) (sym a.same.slots) (map_member f o v.mine i)) in
      (b.0, b.1, b.2 ∙ e)

  pub has_then : (m : Handle) → Has u m → Has v m
  has_then m (o, i, e) = let b = member_before v u a.same o i in (b.0, b.1, b.2 ∙ e)

  pub tidy_now : Tidy u
  tidy_now =
      record {
        single = λ m n h g e. sym h.2 ∙ one_has u few_now alone_now n g h.0 h.1 (ap (λ (z : Handle). z.slot) h.2 ∙ e);
        apart = λ m n h g. absurd (none n g);
        one = λ m n h g e. absurd (none m h);
        labels = λ e i. absurd (subst (Member e) alone_now i);
      }
    where
      none : (m : Handle) → Shares u m → ⊥
      none m h = subst (Member h.0) alone_now h.1

  pub known_has : (m : Handle) (x : Plain) → known_of m v.mine ≡ Some x → Has v m
  known_has m x e = let o = known_entry m x v.mine e in (o.0, o.1, o.2)

  -- a value that the pass knew it knows, unless its slot changed
  pub still : (m : Handle) (x : Plain) → known_of m v.mine ≡ Some x → (Member m.slot ss → ⊥) → value_in m.slot u.mine ≡ Some x
  still m x e out = a.words m.slot out ∙ known_value m x v.mine (made.once m.slot) e

  pub seen_now : (m : Handle) (x : Plain) → known_of m v.mine ≡ Some x → (y : Value Handle) × Sees u m y
  seen_now m x e =
      let h = has_now m (known_has m x e) in
      elim (member_or m.slot ss) [
        | inl i ↦ (let z = a.has m.slot i in (value_of z.0, value_seen u few_now alone_now m z.0 h z.1))
        | inr out ↦ (value_of x, value_seen u few_now alone_now m x h (still m x e out))
      ]

  -- what the record wrote didn't change
  module _ (fixed : ℕ) (has : HasFixed fixed v) (base : Heap) (inputs : (s : ℕ) → Member s ss → In base (at_slot s) × (s < fixed))
      (fresh : (m : Handle) → In (writes (bare k)) m → held base m ≡ None) where
    pub put_out : (m : Handle) (x : Plain) → Member {A = Handle × Plain} (m, x) (puts k) → Member m.slot ss → ⊥
    put_out m x i j =
        let o = known_entry m x v.mine (made.wrote m x i) in
        let s = ap (λ (z : Handle). z.slot) o.2 in
        let low = (inputs m.slot j).1 in
        let g = ap (λ (z : Handle). z.generation) (sym o.2) ∙ has.first o.0 o.1 (omega (arith, s, low)) in
        let e : m ≡ at_slot m.slot = handle_by m (at_slot m.slot) refl g in
        in_and_none base m (subst (In base) (sym e) (inputs m.slot j).0) (fresh m (put_written k m x i))

    put_seen : (m : Handle) (x : Plain) → Member {A = Handle × Plain} (m, x) (puts k) → Has u m × Sees u m (value_of x)
    put_seen m x i =
        let e = made.wrote m x i in
        let h = has_now m (known_has m x e) in
        (h, value_seen u few_now alone_now m x h (still m x e (put_out m x i)))

    owned_in : (t : Kept) → ((m : Handle) → Member m (made_of t) → Member m (made_of k))
        → ((m : Handle) (x : Plain) → Member {A = Handle × Plain} (m, x) (puts t) → Member {A = Handle × Plain} (m, x) (puts k))
        → Owned u (bare t)
    owned_in E f g = tt
    owned_in (A m r) f g = (has_now m (has_is v m (made.made m (f m (inl refl)))), owned_in r (λ n i. f n (inr i)) g)
    owned_in (W m x r) f g = (let z = put_seen m x (g m x (inl refl)) in (z.0, z.1, owned_in r f (λ n y i. g n y (inr i))))
    owned_in (S n t r) f g = (
      owned_in t (λ m i. f m (member_left m (made_of t) (made_of r) i))
          (λ m x i. g m x (member_left {A = Handle × Plain} (m, x) (puts t) (puts r) i)),
      owned_in r (λ m i. f m (member_right m (made_of t) (made_of r) i))
          (λ m x i. g m x (member_right {A = Handle × Plain} (m, x) (puts t) (puts r) i)),
    )
    owned_in (P n t r) f g = (
      owned_in t (λ m i. f m (member_left m (made_of t) (made_of r) i))
          (λ m x i. g m x (member_left {A = Handle × Plain} (m, x) (puts t) (puts r) i)),
      owned_in r (λ m i. f m (member_right m (made_of t) (made_of r) i))
          (λ m x i. g m x (member_right {A = Handle × Plain} (m, x) (puts t) (puts r) i)),
    )
    owned_in (R b t) f g = owned_in t f g

    pub owned_now : Owned u (bare k)
    owned_now = owned_in k (λ m i. i) (λ m x i. i)

  -- what blocks read
  module _ (nodes : HasNodes k p.marks) (links : HasLinks k p.readers) where
    known_in : (rs : List Seen) → ((s : Seen) → Member s rs → Member s (seen_of k)) → Known u rs
    known_in [] f = tt
    known_in (s ∷ rs) f = (seen_now s.from s.value (made.read s (f s (inl refl))), known_in rs (λ r i. f r (inr i)))

    busy_by : (n : Handle) (s : Seen) → Member (stands n s) (links_of k) → Member s.from.slot ss → IsBusy q.marks n.slot
    busy_by n s i j =
        a.warned s.from.slot j (standing (stands n s)) n (link_here k p.marks nodes p.readers links (stands n s) i) refl refl refl
        (nodes.fits n.slot (link_slot k (stands n s) i))

    present_or : (n : Handle) (rs : List Seen) → ((s : Seen) → Member s rs → Member s (seen_of k))
        → ((s : Seen) → Member s rs → Member (stands n s) (links_of k)) → EachOf (Present u) (reads_of rs) ⊎ IsBusy q.marks n.slot
    present_or n [] f g = inl tt
    present_or n (s ∷ rs) f g =
        elim (member_or s.from.slot ss) [
          | inl i ↦ inr (busy_by n s (g s (inl refl)) i)
          | inr out ↦
              ⊎_elim
              (λ (b : EachOf (Present u) (reads_of rs)). inl
              (value_present u few_now alone_now s.from s.value (still s.from s.value (made.read s (f s (inl refl))) out), b))
              (λ (b : IsBusy q.marks n.slot). inr b)
              (present_or n rs (λ r i. f r (inr i)) (λ r i. g r (inr i)))
        ]

    watched_in : (t : Kept) → ((s : Seen) → Member s (seen_of t) → Member s (seen_of k))
        → ((s : Stands) → Member s (links_of t) → Member s (links_of k)) → Watched u q.marks t
    watched_in E f g = tt
    watched_in (A m r) f g = watched_in r f g
    watched_in (W m x r) f g = watched_in r f g
    watched_in (S n t r) f g = (
      watched_in t (λ s i. f s (member_left s (seen_of t) (seen_of r) i)) (λ s i. g s (member_left s (links_of t) (links_of r) i)),
      watched_in r (λ s i. f s (member_right s (seen_of t) (seen_of r) i)) (λ s i. g s (member_right s (links_of t) (links_of r) i)),
    )
    watched_in (P n t r) f g = (
      watched_in t (λ s i. f s (member_left s (seen_of t) (seen_of r) i)) (λ s i. g s (member_left s (links_of t) (links_of r) i)),
      watched_in r (λ s i. f s (member_right s (seen_of t) (seen_of r) i)) (λ s i. g s (member_right s (links_of t) (links_of r) i)),
    )
    watched_in (R b t) f g =
        let here : (s : Seen) → Member s b.reads → Member s (seen_of k) = λ s i. f s (member_left s b.reads (seen_of t) i) in (
          (
            known_in b.reads here,
            present_or b.node b.reads here
                (λ s i. g (stands b.node s) (member_left (stands b.node s) (map (stands b.node) b.reads) (links_of t)
                (map_member (stands b.node) s b.reads i))),
          ),
          watched_in t (λ s i. f s (member_right s b.reads (seen_of t) i))
              (λ s i. g s (member_right s (map (stands b.node) b.reads) (links_of t) i)),
        )

    pub watched_now : Watched u q.marks k
    watched_now = watched_in k (λ s i. i) (λ s i. i)
