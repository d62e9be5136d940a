-- When nothing is left to go.
use Rattle.std.proofs.Common.{◌≡◌, ℕ, ◌<◌, List, [], map, drop, length, refl, sym, ap, ◌∙◌, subst, inl, inr, ⊎_elim, arith}
use Rattle.psac_ops.specs.declared.plain.Handle.{Handle}
use Rattle.psac_slots.specs.Handles.{Member}
use Rattle.psac_slots.specs.Claiming as claiming
use Rattle.psac_values.specs.declared.view.KnownView.{KnownView}
use Rattle.psac_values.specs.declared.view.ValueView.{ValueView}
use Rattle.psac_values.specs.Steps as values
use Rattle.psac_values.specs.Steps.{made_handle}
use Rattle.psac_values.specs.Knowing.{Has, Knows}
use Rattle.psac_marks.specs.declared.view.MarksView.{MarksView}
use Rattle.psac_marks.specs.Steps as marks
use Rattle.psac_marks.specs.Passes.{IsDropped, IsBusy}
use Rattle.psac_readers.specs.declared.view.ReadersView.{ReadersView}
use Rattle.psac_readers.specs.Steps as readers
use Rattle.psac_readers.specs.Swept.{AllGiven}
use Rattle.psac_record.specs.Kept.{Stands}
use Rattle.psac_reclaim.specs.Parts.{Outside}
use Rattle.psac_reclaim.specs.Gave.{ValuesGave, MarksGave, SameSets}
use Rattle.psac_reclaim.specs.Going.{ValuesGoing, ReadersGoing, MarksGoing}
use Rattle.psac_reclaim.specs.Owed.{entered, IsNamed, Stand, ValuesLeft, ReadersLeft, MarksLeft, ValuesNone, ReadersNone, MarksNone}
use Rattle.std.specs.Prelude.{cond, sum_by, ◌==◌}
use Rattle.std.proofs.lemmas.Bool.{eq-eqb, eqb-true}
use Rattle.std.proofs.Common.{Bool, true, false}
use Rattle.psac_slots.proofs.Pairs.{member_map}
use Rattle.psac_readers.specs.declared.view.LinkView.{LinkView}
use Rattle.psac_readers.specs.declared.view.Stage.TheVariants.{In}
use Rattle.psac_reclaim.specs.Gave.{out_of}
use Rattle.psac_reclaim.proofs.Lists.{member_le, member_of, this, this_one, this_in}
use Rattle.psac_reclaim.proofs.Cleaning.{swept_claims}
use Rattle.psac_reclaim.proofs.Steps.{readers_end}
use Rattle.psac_reclaim.proofs.Sizes.{sum_ones, links_out, none_in}
use Rattle.psac_readers.proofs.Links.{sum_map}

outside_at : (gone : List Handle) (m : Handle) (s : Handle) → s ≡ m → Outside gone m.slot → Outside gone s.slot
outside_at gone m s e o = subst (λ (x : Handle). Outside gone x.slot) (sym e) o

module _ (kept gone : List Handle) (v u : ValueView) (d : ValuesGave gone (values.rewound v) u) (g : ValuesGoing kept [] u) where
  has_still : (m : Handle) → Has v m → Outside gone m.slot → Has u m
  has_still m h o = (h.0, d.stays h.0 h.1 (outside_at gone m h.0.of h.2 o), h.2)

  knows_still : (m : Handle) (ws : List ℕ) → Knows v m ws → Outside gone m.slot → Knows u m ws
  knows_still m ws k o = ⊎_elim
      (λ h. inl (h.0, d.stays h.0 h.1 (outside_at gone m h.0.of h.2 o), h.2, h.3))
      (λ h. inr (h.0, subst (λ (z : List KnownView). Member h.0 z) (sym d.known) h.1, h.2, h.3))
      k

  values_few : length u.claims.held ≡ length kept
  values_few =
      let x = g.owed.out (λ h. 1) in
      let a = sum_map (made_handle u.fixed) (λ (h : Handle). 1) u.claims.held in
      let b = sum_ones u.claims.held in
      let c = sum_ones kept in
      omega (arith, x, a, b, c)

  pub values_end : claiming.Accounted (claiming.rewound u.claims) → ValuesLeft kept gone v (values.rewound u)
  values_end a = record {
    out = λ f. let x = g.owed.out f in omega (arith, x);
    whole = a;
    list = ap (λ c. drop (claiming.counted c) u.claims.list) g.begun ∙ d.list;
    few = values_few;
    count = d.count;
    mine = d.left;
    has = has_still;
    knows = knows_still;
    known = d.known;
    looks = d.looks;
    begun = (refl, refl, refl);
    fixed = d.fixed;
    branch = d.branch;
  }

module _ (kept : List Stands) (v u : ReadersView) (d : SameSets (readers.rewound v) u) (g : ReadersGoing kept [] u) (h : readers.Holds (readers.rewound u)) where
  links_few : length u.links ≡ length kept
  links_few =
      let x = readers_end kept u g (λ k. 1) in
      let a = sum_map (entered In) (λ (k : LinkView). 1) kept in
      let b = sum_ones u.links in
      let c = sum_ones kept in
      omega (arith, x, a, b, c)

  pub readers_left : claiming.Accounted (claiming.rewound u.claims) → ReadersLeft kept v (readers.rewound u)
  readers_left a = record {
    links = readers_end kept u g;
    once = g.once;
    whole = a;
    holds = h;
    few = links_out (readers.rewound u) h a ∙ links_few;
    count = d.count;
    sets = d.sets_are;
    mods = d.mods;
    shared = d.shared;
    begun = (refl, refl, refl);
    branch = d.branch;
  }

module _ (kept gone : List Handle) (v u : MarksView) (d : MarksGave gone (marks.rewound v) u) (g : MarksGoing kept [] u) (h : marks.Holds (marks.rewound u)) where
  nodes_few : length u.claims.held ≡ length kept
  nodes_few =
      let x = g.owed.out (λ n. 1) in
      let b = sum_ones u.claims.held in
      let c = sum_ones kept in
      omega (arith, x, b, c)

  undropped_all : (x : ℕ) → IsDropped u x → ⊥
  undropped_all x b = absurd (g.owed.alone x b).1

  unmarked_all : (x : ℕ) → IsBusy u x → ⊥
  unmarked_all x b = undropped_all x (g.owed.marks x b)

  in_kept : (n : Handle) → Member n u.claims.held → Member n kept
  in_kept n i =
      let x = g.owed.out (this n) in
      let z = member_le (this n) n u.claims.held i in
      let o = this_one n in
      this_in n kept (omega (arith, x, z, o))

  kept_in : (n : Handle) → Member n kept → Member n u.claims.held
  kept_in n i =
      let x = g.owed.out (this n) in
      let z = member_le (this n) n kept i in
      let o = this_one n in
      this_in n u.claims.held (omega (arith, x, z, o))

  pub marks_end : claiming.Accounted (claiming.rewound u.claims) → MarksLeft kept gone v (marks.rewound u)
  marks_end a = record {
    out = λ f. let x = g.owed.out f in omega (arith, x);
    whole = a;
    list = ap (λ c. drop (claiming.counted c) u.claims.list) g.begun ∙ d.list;
    few = nodes_few;
    count = d.count;
    unmarked = unmarked_all;
    undropped = undropped_all;
    none = (none_in u.marked (λ x p. unmarked_all x (inl p)), none_in u.busy (λ x p. unmarked_all x (inr p)), none_in u.dropped undropped_all);
    own = d.stays;
    own_only = d.own;
    owned = λ n i. h.owned n (kept_in n i);
    alone = λ o i. in_kept o.node (h.out o i);
    shared = d.shared;
    begun = (refl, refl, refl);
    asks = d.asks;
    branch = d.branch;
  }

pub values_none_left : (v : ValueView) → claiming.Accounted (claiming.rewound (values.gave_all (values.rewound v)).claims) → ValuesNone v (values.rewound (values.gave_all (values.rewound v)))
values_none_left v a = record {
  out = refl;
  whole = a;
  list = refl;
  mine = refl;
  known = refl;
  count = refl;
  begun = (refl, refl, refl);
  fixed = refl;
  branch = refl;
}

pub marks_none_left : (v : MarksView) → claiming.Accounted (claiming.rewound (marks.gave_all (marks.rewound v)).claims) → MarksNone v (marks.rewound (marks.gave_all (marks.rewound v)))
marks_none_left v a = record {
  out = refl;
  own = refl;
  marked = (refl, refl, refl);
  whole = a;
  list = refl;
  shared = refl;
  count = refl;
  begun = (refl, refl, refl);
  asks = refl;
  branch = refl;
}

pub readers_none_left : (n : ℕ) (v u : ReadersView) → AllGiven n (readers.rewound v) u → u.claims.held ≡ [] → u.links ≡ [] → claiming.Accounted (claiming.rewound u.claims) → ReadersNone v (readers.rewound u)
readers_none_left n v u g h l a = record {
  links = l;
  out = h;
  whole = a;
  sets = g.sets;
  mods = g.mods;
  shared = g.shared;
  count = ap (λ c. c.count) g.claims ∙ (swept_claims g.gone (readers.rewound v)).2;
  begun = (refl, refl, refl);
  branch = ap (λ c. c.branch) g.claims ∙ (swept_claims g.gone (readers.rewound v)).1;
}

set_is : (m : ℕ) (k : LinkView) → ◌<◌ 0 (cond (k.of == m) 1 0) → k.of ≡ m
set_is m k p = by (k.of == m) refl p
  where
    by : (b : Bool) → (k.of == m) ≡ b → 0 < cond b 1 0 → k.of ≡ m
    by true e p = eqb-true k.of m e
    by false e p = absurd (omega (arith, p))

-- no set of another slot has a link
pub stand_left : (made gone : List Handle) (kept : List Stands) (v w : ValueView) (r u : ReadersView) → ValuesLeft made gone v w → ReadersLeft kept r u → ((s : Stands) → Member s kept → IsNamed v.fixed made s.of) → Stand w u
stand_left made gone kept v w r u a b names k m =
    let f : LinkView → ℕ = λ (y : LinkView). cond (y.of == k.of) 1 0 in
    let q = member_le f k u.links m in
    let e = b.links f in
    let one : f k ≡ 1 = ap {B = ℕ} (λ t. cond t 1 0) (eq-eqb k.of k.of refl) in
    let y = member_of f (map (entered In) kept) (omega (arith, q, e, one)) in
    let s = member_map (entered In) y.0 kept y.1 in
    let same : s.0.of.slot ≡ k.of = ap (λ (x : LinkView). x.of) s.2 ∙ set_is k.of y.0 y.2 in
    ⊎_elim
    (λ (l : s.0.of.slot < v.fixed). inl (let g = a.fixed in omega (arith, l, same, g)))
    (λ (i : Member s.0.of made). inr (s.0.of, out_still s.0.of i, same))
    (names s.0 s.1)
  where
    out_still : (h : Handle) → Member h made → Member h (out_of w)
    out_still h i =
        let x = a.out (this h) in
        let z = member_le (this h) h made i in
        let o = this_one h in
        this_in h (out_of w) (omega (arith, x, z, o))
