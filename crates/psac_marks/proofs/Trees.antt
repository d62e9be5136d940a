-- What steps make of the tree.
use Rattle.psac_marks.proofs.Terms.{◌≡◌, ◌≢◌, ◌⊎◌, ℕ, ◌+◌, ◌*◌, ◌<◌, ◌≤◌, List, [], ◌∷◌, ◌++◌, map, length, set, Bool, true, refl, sym, ap, ◌∙◌, subst, inl, inr, ⊎_elim, arith, Option, Some, None, cond, none_some, ◌==◌, sum_by-append, eq-eqb, ne_eqb, cases_eq, cases_lt, some, some-injective, get_elem?, at_set, set_here, set_else, Handle, is_prefix, Member, slot_times, times, bit, sum_set, sum_at, all_set, member_left, member_right, map_member, member_times, found, parent_at, parent_word, Place, Grown, Has, HasOwn, Out, held_times, Tree, new_own, hang}
use Rattle.psac_marks.proofs.Parts.{here, times_push}

-- what is out is held
pub out_held : (all : List Grown) (x : Handle) → Out all x → 0 < held_times x.slot all
out_held all x o = let a = member_times x o.1.held o.3 in let b = sum_at (λ (g : Grown). slot_times x.slot g.held) all o.0 o.1 o.2 in omega (arith, a, b)

-- what some pass has it has still, where the changed one has it
pub some_stays : (P : Grown → Type 0) (all : List Grown) (id : ℕ) (g f : Grown) → get_elem? all id ≡ some g → (P g → P f)
    → (j : ℕ) × (k : Grown) × (get_elem? all j ≡ some k) × P k → (j : ℕ) × (k : Grown) × (get_elem? (set all id f) j ≡ some k) × P k
some_stays P all id g f at more o = ⊎_elim
    (λ (e : o.0 ≡ id). (id, f, here all id g f at, more (subst P (some-injective o.1 g (sym o.2 ∙ (ap (get_elem? all) e ∙ at))) o.3)))
    (λ n. (o.0, o.1, set_else all id o.0 f n ∙ o.2, o.3))
    (cases_eq o.0 id)

-- what is out stays so, where a pass holds what it held
pub out_grows : (all : List Grown) (id : ℕ) (g f : Grown) → get_elem? all id ≡ some g → ((x : Handle) → Member x g.held → Member x f.held) → (x : Handle) → Out all x → Out (set all id f) x
out_grows all id g f at more x = some_stays (λ k. Member x k.held) all id g f at (more x)

-- some pass has the node
abbrev pub HasSome : List Grown → ℕ → Type 0
HasSome all x = (j : ℕ) × (g : Grown) × (get_elem? all j ≡ some g) × Has g.places x

-- and some pass has it still, where one has the nodes that it had
pub had_stays : (all : List Grown) (id : ℕ) (g f : Grown) → get_elem? all id ≡ some g → ((x : ℕ) → Has g.places x → Has f.places x) → (x : ℕ) → HasSome all x → HasSome (set all id f) x
had_stays all id g f at more x = some_stays (λ k. Has k.places x) all id g f at (more x)

-- a store beside the parents
pub tree_else : (nodes : ℕ) (parent : ℕ → Option ℕ) (words : List ℕ) (all : List Grown) (i x : ℕ) → ((y : ℕ) → parent_at nodes y ≢ i) → Tree nodes parent words all → Tree nodes parent (set words i x) all
tree_else nodes parent words all i x far h = record {
  hung = λ y lt. set_else words i (parent_at nodes y) x (far y) ∙ h.hung y lt;
  free = h.free;
  parents = h.parents;
  out = h.out;
  had = h.had;
  dropped = h.dropped;
  above = h.above;
  nested = h.nested;
}

module _ (nodes : ℕ) (parent : ℕ → Option ℕ) (words : List ℕ) (all : List Grown) (h : Tree nodes parent words all) (id : ℕ) (g : Grown) (at : get_elem? all id ≡ some g) where
  -- a claim: new nodes are roots
  pub tree_draws : (es : List Handle) (ps : List Place)
      → ((e : Place) → Member e ps → ((x : Handle) × Member x es × (e.node ≡ x) × (e.parent ≡ None)) ⊎ Member e g.places)
      → ((x : Handle) → Member x es → held_times x.slot all ≡ 0)
      → ((x : ℕ) → Has g.places x → Has ps x)
      → ((x : Handle) → Member x es → Has ps x.slot)
      → Tree nodes parent words (set all id (record { own = map new_own es ++ g.own; places = ps; dropped = g.dropped; held = g.held ++ es }))
  tree_draws es ps cases fresh keeps adds =
      let f : Grown = record { own = map new_own es ++ g.own; places = ps; dropped = g.dropped; held = g.held ++ es } in
      let New : Place → Type 0 = λ e. (x : Handle) × Member x es × (e.node ≡ x) × (e.parent ≡ None) in
      let grows : (x : Handle) → Out all x → Out (set all id f) x = out_grows all id g f at (λ x m. member_left x g.held es m) in
      let more : (y : ℕ) → held_times y all ≤ held_times y (set all id f) = λ y.
      let a = sum_set (λ (k : Grown). slot_times y k.held) all id g f at in let b = sum_by-append (λ (k : Handle). cond (k.slot == y) 1 0) g.held es in omega (arith, a, b) in
      -- each place is an old one, or a new one
      let from : (j : ℕ) (u : Grown) (e : Place) → get_elem? (set all id f) j ≡ some u → Member e u.places → ((j ≡ id) × (f ≡ u) × New e) ⊎ ((k : Grown) × (get_elem? all j ≡ some k) × Member e k.places × (u.dropped ≡ k.dropped)) = λ j u e d m. ⊎_elim
      (λ (q : (j ≡ id) × (f ≡ u)). ⊎_elim
      (λ n. inl (q.0, q.1, n))
      (λ o. inr (g, ap (get_elem? all) q.0 ∙ at, o, ap (λ (k : Grown). k.dropped) (sym q.1)))
      (cases e (subst (λ (k : Grown). Member e k.places) (sym q.1) m)))
      (λ (q : (j ≢ id) × (get_elem? all j ≡ some u)). inr (u, q.1, m, refl))
      (at_set all id j f u d) in
      record {
        hung = h.hung;
        free = λ y z. h.free y (let a = more y in omega (arith, a, z));
        parents = λ j u e d m. ⊎_elim
            (λ n. let k = n.2 in ap (λ (x : Handle). parent x.slot) k.2 ∙ (h.free k.0.slot (fresh k.0 k.1) ∙ sym k.3))
            (λ o. h.parents j o.0 e o.1 o.2)
            (from j u e d m);
        out = λ j u e d m. ⊎_elim
            (λ n. let k = n.2 in (id, f, here all id g f at, member_right e.node g.held es (subst (λ x. Member x es) (sym k.2) k.1)))
            (λ o. grows e.node (h.out j o.0 e o.1 o.2))
            (from j u e d m);
        had = λ y p. ⊎_elim
            (λ (q : 0 < held_times y all). had_stays all id g f at keeps y (h.had y q))
            (λ (q : held_times y all ≤ 0).
            let a = sum_set (λ (k : Grown). slot_times y k.held) all id g f at in let b = sum_by-append (λ (k : Handle). cond (k.slot == y) 1 0) g.held es in
            let x = found y es (omega (arith, a, b, p, q)) in (id, f, here all id g f at, subst (Has ps) x.2 (adds x.0 x.1)))
            (cases_lt 0 (held_times y all));
        dropped = λ j u x d p. all_set (λ _ (k : Grown). (y : ℕ) → 0 < times y k.dropped → HasOwn k.own y) all id f
            (λ y q. let o = h.dropped id g y at q in (o.0, member_right o.0 (map new_own es) g.own o.1, o.2))
            (λ i k n e. λ y q. h.dropped i k y e q) j u d x p;
        above = λ j u e p d m kept is. ⊎_elim
            (λ n. absurd (none_some p (sym n.2.3 ∙ is)))
            (λ o. let a = h.above j o.0 e p o.1 o.2 (ap (times e.node.slot) (sym o.3) ∙ kept) is in let b = more p in omega (arith, a, b))
            (from j u e d m);
        nested = λ i j u k e o di dj me mo kept is. ⊎_elim
            (λ n. absurd (none_some o.node.slot (sym n.2.3 ∙ is)))
            (λ old. let kept' = ap (times e.node.slot) (sym old.3) ∙ kept in ⊎_elim
            (λ n. let a = h.above i old.0 e o.node.slot old.1 old.2 kept' is in let z = fresh n.2.0 n.2.1 in let y = ap (λ (x : Handle). held_times x.slot all) n.2.2 in absurd (omega (arith, a, z, y)))
            (λ mine. h.nested i j old.0 mine.0 e o old.1 mine.1 old.2 mine.2 kept' is)
            (from j k o dj mo))
            (from i u e di me);
      }

  -- an own node x has another parent from here on
  pub tree_hangs : (x : ℕ) (par : Option ℕ) (b : List Bool) (ps : List Place) → x < nodes → nodes + 3 * nodes < length words
      → HasOwn g.own x
      → ((e : Place) → Member e ps → (d : Place) × Member d g.places × (e.node ≡ d.node) × (e.domain ≡ d.domain) × (((d.node.slot ≡ x) × (e.parent ≡ par) × (d.domain ≡ b)) ⊎ ((d.node.slot ≢ x) × (e.parent ≡ d.parent))))
      → ((e : Place) → Member e g.places → e.node.slot ≡ x → Out all e.node)
      → Has g.places x
      → ((y : ℕ) → Has g.places y → Has ps y)
      → ((j : ℕ) (u : Grown) (e : Place) → j ≢ id → get_elem? all j ≡ some u → Member e u.places → e.node.slot ≢ x)
      → ((p : ℕ) → par ≡ Some p → (0 < held_times p all) × ((j : ℕ) (u : Grown) (o : Place) → get_elem? all j ≡ some u → Member o u.places → o.node.slot ≡ p → is_prefix o.domain b ≡ true))
      → Tree nodes (λ y. cond (y == x) par (parent y)) (set words (parent_at nodes x) (parent_word par)) (set all id (record { own = map (hang x par) g.own; places = ps; dropped = g.dropped; held = g.held }))
  tree_hangs x par b ps small long own cases outs has keeps alone near =
      let f : Grown = record { own = map (hang x par) g.own; places = ps; dropped = g.dropped; held = g.held } in
      let parent' : ℕ → Option ℕ = λ y. cond (y == x) par (parent y) in
      let at_x : parent' x ≡ par = ap (λ t. cond t par (parent x)) (eq-eqb x x refl) in
      let at_y : (y : ℕ) → y ≢ x → parent' y ≡ parent y = λ y n. ap (λ t. cond t par (parent y)) (ne_eqb y x n) in
      let same : (y : ℕ) → held_times y (set all id f) ≡ held_times y all = λ y. let a = sum_set (λ (k : Grown). slot_times y k.held) all id g f at in omega (arith, a) in
      let Old : ℕ → Grown → Place → Type 0 = λ j u e. (k : Grown) × (d : Place) × (get_elem? all j ≡ some k) × Member d k.places × (u.dropped ≡ k.dropped) × (e.node ≡ d.node) × (e.domain ≡ d.domain)
      × (((d.node.slot ≡ x) × (e.parent ≡ par) × (d.domain ≡ b)) ⊎ ((d.node.slot ≢ x) × (e.parent ≡ d.parent))) in
      let from : (j : ℕ) (u : Grown) (e : Place) → get_elem? (set all id f) j ≡ some u → Member e u.places → Old j u e = λ j u e d m. ⊎_elim
      (λ (q : (j ≡ id) × (f ≡ u)). let c = cases e (subst (λ (k : Grown). Member e k.places) (sym q.1) m) in (g, c.0, ap (get_elem? all) q.0 ∙ at, c.1, ap (λ (k : Grown). k.dropped) (sym q.1), c.2, c.3, c.4))
      (λ (q : (j ≢ id) × (get_elem? all j ≡ some u)). (u, e, q.1, m, refl, refl, refl, inr (alone j u e q.0 q.1 m, refl)))
      (at_set all id j f u d) in
      record {
        hung = λ y lt. ⊎_elim
            (λ (e : y ≡ x). subst (λ z. get_elem? (set words (parent_at nodes x) (parent_word par)) (parent_at nodes z) ≡ some (parent_word (parent' z))) (sym e)
            (set_here words (parent_at nodes x) (parent_word par) (omega (arith, small, long)) ∙ ap (λ o. some (parent_word o)) (sym at_x)))
            (λ (n : y ≢ x). set_else words (parent_at nodes x) (parent_at nodes y) (parent_word par) (λ q. n (omega (arith, q))) ∙ (h.hung y lt ∙ ap (λ o. some (parent_word o)) (sym (at_y y n))))
            (cases_eq y x);
        free = λ y z.
            let none : held_times y all ≡ 0 = sym (same y) ∙ z in
            let n : y ≢ x = λ e. let o = out_held all has.0.node (outs has.0 has.1 has.2) in let s = ap (λ k. held_times k all) (has.2 ∙ sym e) in absurd (omega (arith, o, s, none)) in
            at_y y n ∙ h.free y none;
        parents = λ j u e d m.
            let o = from j u e d m in
            ap (λ (k : Handle). parent' k.slot) o.5 ∙ ⊎_elim
            (λ (q : (o.1.node.slot ≡ x) × (e.parent ≡ par) × (o.1.domain ≡ b)). ap parent' q.0 ∙ (at_x ∙ sym q.1))
            (λ (q : (o.1.node.slot ≢ x) × (e.parent ≡ o.1.parent)). at_y o.1.node.slot q.0 ∙ (h.parents j o.0 o.1 o.2 o.3 ∙ sym q.1))
            o.7;
        out = λ j u e d m. let o = from j u e d m in subst (Out (set all id f)) (sym o.5) (out_grows all id g f at (λ y q. q) o.1.node (h.out j o.0 o.1 o.2 o.3));
        had = λ y p. had_stays all id g f at keeps y (h.had y (let a = same y in omega (arith, a, p)));
        dropped = λ j u y d p. all_set (λ _ (k : Grown). (z : ℕ) → 0 < times z k.dropped → HasOwn k.own z) all id f
            (λ z q. let o = h.dropped id g z at q in (hang x par o.0, map_member (hang x par) o.0 g.own o.1, o.2))
            (λ i k n e. λ z q. h.dropped i k z e q) j u d y p;
        above = λ j u e p d m kept is.
            let o = from j u e d m in
            let kept' : times o.1.node.slot o.0.dropped ≡ 0 = (λ i. times (sym o.5 i).slot (sym o.4 i)) ∙ kept in
            let a : 0 < held_times p all = ⊎_elim
            (λ (q : (o.1.node.slot ≡ x) × (e.parent ≡ par) × (o.1.domain ≡ b)). (near p (sym q.1 ∙ is)).0)
            (λ (q : (o.1.node.slot ≢ x) × (e.parent ≡ o.1.parent)). h.above j o.0 o.1 p o.2 o.3 kept' (sym q.1 ∙ is))
            o.7 in
            let s = same p in omega (arith, a, s);
        nested = λ i j u k e o di dj me mo kept is.
            let oe = from i u e di me in
            let oo = from j k o dj mo in
            let kept' : times oe.1.node.slot oe.0.dropped ≡ 0 = (λ t. times (sym oe.5 t).slot (sym oe.4 t)) ∙ kept in
            let slots : o.node.slot ≡ oo.1.node.slot = ap (λ (y : Handle). y.slot) oo.5 in
            (λ t. is_prefix (oo.6 t) (oe.6 t)) ∙ ⊎_elim
            (λ (q : (oe.1.node.slot ≡ x) × (e.parent ≡ par) × (oe.1.domain ≡ b)). ap (is_prefix oo.1.domain) q.2 ∙ (near o.node.slot (sym q.1 ∙ is)).1 j oo.0 oo.1 oo.2 oo.3 (sym slots))
            (λ (q : (oe.1.node.slot ≢ x) × (e.parent ≡ oe.1.parent)). h.nested i j oe.0 oo.0 oe.1 oo.1 oe.2 oo.2 oe.3 oo.3 kept' (sym q.1 ∙ (is ∙ ap Some slots)))
            oe.7;
      }

  -- an own node is dropped
  pub tree_detaches : (x : ℕ) → HasOwn g.own x → Tree nodes parent words (set all id (record { own = g.own; places = g.places; dropped = g.dropped ++ x ∷ []; held = g.held }))
  tree_detaches x own =
      let f : Grown = record { own = g.own; places = g.places; dropped = g.dropped ++ x ∷ []; held = g.held } in
      let same : (y : ℕ) → held_times y (set all id f) ≡ held_times y all = λ y. let a = sum_set (λ (k : Grown). slot_times y k.held) all id g f at in omega (arith, a) in
      let Old : ℕ → Grown → Type 0 = λ j u. (k : Grown) × (get_elem? all j ≡ some k) × (u.places ≡ k.places) × ((y : ℕ) → times y u.dropped ≡ 0 → times y k.dropped ≡ 0) in
      let from : (j : ℕ) (u : Grown) → get_elem? (set all id f) j ≡ some u → Old j u = all_set Old all id f (g, at, refl, λ y z. let p = times_push y g.dropped x in omega (arith, p, z)) (λ j u n e. (u, e, refl, λ y z. z)) in
      record {
        hung = h.hung;
        free = λ y z. h.free y (sym (same y) ∙ z);
        parents = λ j u e d m. let o = from j u d in h.parents j o.0 e o.1 (subst (Member e) o.2 m);
        out = λ j u e d m. let o = from j u d in out_grows all id g f at (λ y q. q) e.node (h.out j o.0 e o.1 (subst (Member e) o.2 m));
        had = λ y p. had_stays all id g f at (λ z q. q) y (h.had y (let a = same y in omega (arith, a, p)));
        dropped = λ j u y d p. all_set (λ _ (k : Grown). (z : ℕ) → 0 < times z k.dropped → HasOwn k.own z) all id f
            (λ z q. ⊎_elim
            (λ (e : x ≡ z). subst (HasOwn g.own) e own)
            (λ (n : x ≢ z). h.dropped id g z at (let r = times_push z g.dropped x in let o : bit (x == z) ≡ 0 = ap bit (ne_eqb x z n) in omega (arith, r, o, q)))
            (cases_eq x z))
            (λ i k n e. λ z q. h.dropped i k z e q) j u d y p;
        above = λ j u e p d m kept is. let o = from j u d in let a = h.above j o.0 e p o.1 (subst (Member e) o.2 m) (o.3 e.node.slot kept) is in let s = same p in omega (arith, a, s);
        nested = λ i j u k e o di dj me mo kept is. let a = from i u di in let b = from j k dj in h.nested i j a.0 b.0 e o a.1 b.1 (subst (Member e) a.2 me) (subst (Member o) b.2 mo) (a.3 e.node.slot kept) is;
      }
