-- What a repair took off and put in its place, part by part.
use Rattle.std.proofs.Common.{◌≡◌, ℕ, ◌+◌, not, List, [], ◌∷◌, ◌++◌, refl, ap, sym, ◌∙◌, inl, inr, arith}
use Rattle.std.specs.Prelude.{sum_by, filter}
use Rattle.std.proofs.lemmas.List.{append-nil}
use Rattle.std.proofs.lemmas.List.Sums.{sum_by-append, sum_by-cons}
use Rattle.psac_ops.specs.declared.plain.Handle.{Handle}
use Rattle.psac_slots.specs.Claiming.{times}
use Rattle.psac_laws.proofs.Places.{test_or}
use Rattle.psac_marks.specs.declared.view.OwnView.{OwnView}
use Rattle.psac_marks.specs.declared.view.MarksView.{MarksView}
use Rattle.psac_marks.specs.Steps.{goes_over}
use Rattle.psac_marks.proofs.Counted.{times_both, times_in, times_out}
use Rattle.psac_traced.specs.Mending.{Mending}
use Rattle.psac_record.specs.Kept.{Kept, E, A, W, S, P, R, links_of, nodes_in, made_of, bare, added, all_of}
use Rattle.psac_trace.proofs.Growing.{values_then, values_joined}
use Rattle.psac_trace.proofs.Sums.{sum_map}
use Rattle.psac_repair.specs.Divided.{neither, writes_slot, has_node, outside}
use Rattle.psac_repair.specs.Planted.{slots}
use Rattle.psac_repair.specs.Taken.{nodes_up}
use Rattle.psac_repair.specs.Rewired.{reads_in}
use Rattle.psac_repair.specs.Counted.{done}
use Rattle.psac_repair.specs.Exchanged.{ExchangedKept, ExchangedMade, ExchangedWrote, ExchangedParts, ExchangedSides, ExchangedBlock, ExchangedAgain, SwappedThen, SwappedSides, SwappedAgain, ValuesThen, ValuesSides}
use Rattle.psac_repair.proofs.Counting.{all_both, none_done, same_block, other_block}

pub exchanged_kept : ExchangedKept
exchanged_kept k =
    record { nodes = λ g. refl; mods = λ g. refl; links = λ g. refl; created = ap (λ (d : Mending Handle). d.created) (none_done k); dropped = ap (λ (d : Mending Handle). d.dropped) (none_done k) }

pub exchanged_made : ExchangedMade
exchanged_made m k u gone made a =
    record {
      nodes = a.nodes;
      mods = λ g. let x = sum_by-cons g m (made_of u) in let y = sum_by-cons g m (made_of k) in let z = a.mods g in omega (arith, x, y, z);
      links = a.links;
      created = a.created;
      dropped = a.dropped;
    }

pub exchanged_wrote : ExchangedWrote
exchanged_wrote m x y k u gone made a = record { nodes = a.nodes; mods = a.mods; links = a.links; created = a.created; dropped = a.dropped }

-- weights of what several subtrees have
sum_all : {X : Type 0} (f : Kept → List X) (g : X → ℕ) (ks ls : List Kept) → sum_by g (all_of f (ks ++ ls)) ≡ sum_by g (all_of f ks) + sum_by g (all_of f ls)
sum_all f g ks ls = ap (sum_by g) (all_both f ks ls) ∙ sum_by-append g (all_of f ks) (all_of f ls)

pub exchanged_parts : ExchangedParts
exchanged_parts n t k u w gone left made new a b =
    record {
      nodes = λ g.
          let c = sum_by-cons g n (nodes_in u ++ nodes_in w) in
          let d = sum_by-append g (nodes_in u) (nodes_in w) in
          let e = sum_by-cons g n (nodes_in t ++ nodes_in k) in
          let f = sum_by-append g (nodes_in t) (nodes_in k) in
          let h = sum_all nodes_in g gone left in
          let i = sum_all nodes_in g made new in
          let x = a.nodes g in
          let y = b.nodes g in
          omega (arith, c, d, e, f, h, i, x, y);
      mods = λ g.
          let d = sum_by-append g (made_of u) (made_of w) in
          let f = sum_by-append g (made_of t) (made_of k) in
          let h = sum_all made_of g gone left in
          let i = sum_all made_of g made new in
          let x = a.mods g in
          let y = b.mods g in
          omega (arith, d, f, h, i, x, y);
      links = λ g.
          let d = sum_by-append g (links_of u) (links_of w) in
          let f = sum_by-append g (links_of t) (links_of k) in
          let h = sum_all links_of g gone left in
          let i = sum_all links_of g made new in
          let x = a.links g in
          let y = b.links g in
          omega (arith, d, f, h, i, x, y);
      created = ap (λ z. z ++ (done k w).created) a.created ∙ ap (λ z. all_of made_of made ++ z) b.created ∙ sym (all_both made_of made new);
      dropped = ap (λ z. z ++ (done k w).dropped) a.dropped ∙ ap (λ z. all_of made_of gone ++ z) b.dropped ∙ sym (all_both made_of gone left);
    }

pub exchanged_sides : ExchangedSides
exchanged_sides n l k u w gone left made new a b =
    let s = exchanged_parts n l k u w gone left made new a b in
    record { nodes = s.nodes; mods = s.mods; links = s.links; created = s.created; dropped = s.dropped }

pub exchanged_block : ExchangedBlock
exchanged_block b t u gone made a =
    record {
      nodes = λ g.
          let c = sum_by-cons g b.node (nodes_in u) in
          let d = sum_by-cons g b.node (nodes_in t) in
          let x = a.nodes g in
          omega (arith, c, d, x);
      mods = a.mods;
      links = λ g.
          let c = sum_by-append g (reads_in b) (links_of u) in
          let d = sum_by-append g (reads_in b) (links_of t) in
          let x = a.links g in
          omega (arith, c, d, x);
      created = ap (λ (d : Mending Handle). d.created) (same_block b t u) ∙ a.created;
      dropped = ap (λ (d : Mending Handle). d.dropped) (same_block b t u) ∙ a.dropped;
    }

-- one subtree
pub one_added : {X : Type 0} (f : Kept → List X) → f E ≡ [] → (k : Kept) → all_of f (added k []) ≡ f k
one_added f none E = sym none
one_added f none (A m k) = append-nil (f (A m k))
one_added f none (W m x k) = append-nil (f (W m x k))
one_added f none (S n t k) = append-nil (f (S n t k))
one_added f none (P n l k) = append-nil (f (P n l k))
one_added f none (R b t) = append-nil (f (R b t))

pub exchanged_again : ExchangedAgain
exchanged_again b c t u node reads other =
    record {
      nodes = λ g.
          let d = sum_by-cons g c.node (nodes_in u) in
          let e = sum_by-cons g b.node (nodes_in t) in
          let f = ap g node in
          let h = ap (sum_by g) (one_added nodes_in refl t) in
          let i = ap (sum_by g) (one_added nodes_in refl u) in
          omega (arith, d, e, f, h, i);
      mods = λ g.
          let h = ap (sum_by g) (one_added made_of refl t) in
          let i = ap (sum_by g) (one_added made_of refl u) in
          omega (arith, h, i);
      links = λ g.
          let d = sum_by-append g (reads_in c) (links_of u) in
          let e = sum_by-append g (reads_in b) (links_of t) in
          let f = ap (sum_by g) reads in
          let h = ap (sum_by g) (one_added links_of refl t) in
          let i = ap (sum_by g) (one_added links_of refl u) in
          omega (arith, d, e, f, h, i);
      created = ap (λ (d : Mending Handle). d.created) (other_block b c t u other) ∙ sym (one_added made_of refl u);
      dropped = ap (λ (d : Mending Handle). d.dropped) (other_block b c t u other) ∙ sym (one_added made_of refl t);
    }

-- nodes of a pass
pub swapped_then : SwappedThen
swapped_then m n q a b x y one two =
    record {
      held = λ g. let c = one.held g in let d = two.held g in let e = sum_by-append g x y in omega (arith, c, d, e);
      dropped = λ s. let c = one.dropped s in let d = two.dropped s in let e = times_both s a b in omega (arith, c, d, e);
    }

pub swapped_sides : SwappedSides
swapped_sides m a b j l k s t x y one two is =
    record {
      held = λ g.
          let c = one.held g in
          let d = two.held g in
          let e = sum_by-append g x y in
          let f = ap (λ (z : MarksView). sum_by g z.claims.held) is in
          let h = sum_by-append g a.claims.held b.claims.held in
          let z : sum_by g [] ≡ 0 = refl in
          omega (arith, c, d, e, f, h, z);
      dropped = λ z.
          let c = one.dropped z in
          let d = two.dropped z in
          let e = times_both z s t in
          let f = ap (λ (w : MarksView). times z w.dropped) is in
          let h = times_both z a.dropped b.dropped in
          let i = divided z in
          omega (arith, c, d, e, f, h, i);
    }
  where
    divided : (z : ℕ) → times z (filter (λ y. not (goes_over (outside m l k) (has_node k) m y)) m.dropped) + times z (filter (goes_over (outside m l k) (has_node k) m) m.dropped) ≡ times z m.dropped
    divided z =
        elim (test_or (goes_over (outside m l k) (has_node k) m z)) [
          | inl t ↦ (let c = times_out (λ y. not (goes_over (outside m l k) (has_node k) m y)) z m.dropped (ap not t) in let d = times_in (goes_over (outside m l k) (has_node k) m) z m.dropped t in omega (arith, c, d))
          | inr t ↦ (let c = times_in (λ y. not (goes_over (outside m l k) (has_node k) m y)) z m.dropped (ap not t) in let d = times_out (goes_over (outside m l k) (has_node k) m) z m.dropped t in omega (arith, c, d))
        ]

-- children first, or in tree order
up_times : (x : ℕ) (k : Kept) → times x (nodes_up k) ≡ times x (slots k)
up_times x E = refl
up_times x (A m k) = up_times x k
up_times x (W m v k) = up_times x k
up_times x (S n t k) =
    let a = up_times x t in
    let b = up_times x k in
    let c = times_both x (nodes_up t ++ nodes_up k) (n.slot ∷ []) in
    let d = times_both x (nodes_up t) (nodes_up k) in
    let e = times_both x (n.slot ∷ []) (slots t ++ slots k) in
    let f = times_both x (slots t) (slots k) in
    omega (arith, a, b, c, d, e, f)
up_times x (P n t k) =
    let a = up_times x t in
    let b = up_times x k in
    let c = times_both x (nodes_up t ++ nodes_up k) (n.slot ∷ []) in
    let d = times_both x (nodes_up t) (nodes_up k) in
    let e = times_both x (n.slot ∷ []) (slots t ++ slots k) in
    let f = times_both x (slots t) (slots k) in
    omega (arith, a, b, c, d, e, f)
up_times x (R b t) =
    let a = up_times x t in
    let c = times_both x (nodes_up t) (b.node.slot ∷ []) in
    let e = times_both x (b.node.slot ∷ []) (slots t) in
    omega (arith, a, c, e)

pub swapped_again : SwappedAgain
swapped_again m n q t made is more =
    record {
      held = λ g.
          let a = more.held g in
          let b = ap (λ (z : MarksView). sum_by g z.claims.held) is in
          let c = sum_map (λ (o : OwnView). o.node) g made in
          omega (arith, a, b, c);
      dropped = λ x.
          let a = more.dropped x in
          let b = ap (λ (z : MarksView). times x z.dropped) is in
          let c = times_both x m.dropped (nodes_up t) in
          let d = up_times x t in
          omega (arith, a, b, c, d);
    }

-- modifiables
pub values_in_turn : ValuesThen
values_in_turn v u x a b k l one two = values_then v u x a b k l one two

pub values_of_sides : ValuesSides
values_of_sides v a b j l k x y tidy ka kb is un one two = values_joined (neither (bare l) (bare k)) (writes_slot (bare k)) v a b j x y tidy ka kb is un one two
