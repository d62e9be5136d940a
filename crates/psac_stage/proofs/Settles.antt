-- A pass that regained its tables has what it had, and is at rest.
use Rattle.std.proofs.Common.{◌≡◌, ℕ, ◌+◌, ◌≤◌, ◌==◌, cond, List, map, length, ap, sym, subst, arith}
use Rattle.std.specs.Prelude.{sum_by}
use Rattle.std.proofs.lemmas.List.{length-map}
use Rattle.psac_ops.specs.declared.plain.Handle.{Handle}
use Rattle.psac_slots.specs.Handles.{once_below}
use Rattle.psac_slots.specs.Claiming as claiming
use Rattle.psac_slots.specs.Claiming.{Accounted, times}
use Rattle.psac_slots.specs.declared.view.ClaimView.{ClaimView}
use Rattle.psac_values.specs.declared.view.ValueView.{ValueView}
use Rattle.psac_values.specs.Steps as values
use Rattle.psac_readers.specs.declared.view.LinkView.{LinkView}
use Rattle.psac_readers.specs.declared.view.ReadersView.{ReadersView}
use Rattle.psac_readers.specs.Chained.{named}
use Rattle.psac_readers.specs.Steps as readers
use Rattle.psac_marks.specs.declared.view.MarksView.{MarksView}
use Rattle.psac_marks.specs.Steps as marks
use Rattle.psac_fork.specs.declared.tables.Pass.{Pass}
use Rattle.psac_fork.specs.declared.tables.Tables.{Tables}
use Rattle.psac_inputs.specs.Grid.{Grid}
use Rattle.psac_model.specs.declared.ends.Caps.{Caps}
use Rattle.psac_trace.specs.Grown.{Made, Moves}
use Rattle.psac_stage.specs.Places.{fixed_slots}
use Rattle.psac_stage.specs.Resting.{IsRewound, IsYoung, AllOf, HasAll, IsRested, IsCleared}
use Rattle.psac_stage.specs.Settling.{Settles}
use Rattle.psac_stage.proofs.Clears.{drop_member}
use Rattle.psac_stage.proofs.Counts.{count_most, sum_ones, sum_map}

abbrev after : ℕ → ClaimView → ClaimView
after n c = claiming.rewound (claiming.learned n c)

young_after : (age n : ℕ) (c : ClaimView) → IsYoung age c → IsYoung age (after n c)
young_after age n c y = record { free = λ h i. y.free h (drop_member n c.list h i); out = y.out }

all_after : (g : Grid) (outs : ℕ) (caps : Caps) (age n k l : ℕ) (v : ValueView) (r : ReadersView) (m : MarksView) → AllOf g outs caps age v r m → AllOf g outs caps age (values.rewound (values.learned n v)) (readers.rewound (readers.regained k r)) (marks.rewound (marks.regained l m))
all_after g outs caps age n k l v r m a =
    record {
      mods = record { branch = a.mods.branch; count_is = a.mods.count_is };
      links = record { branch = a.links.branch; count_is = a.links.count_is };
      nodes = record { branch = a.nodes.branch; count_is = a.nodes.count_is };
      young_mods = young_after age n v.claims a.young_mods;
      young_nodes = young_after age l m.claims a.young_nodes;
      fixed = record { fixed_is = a.fixed.fixed_is; once = a.fixed.once; first = a.fixed.first; alone = a.fixed.alone };
      grid = record { cells = a.grid.cells; row_count = a.grid.row_count };
      sets = record { mods_is = a.sets.mods_is; all = a.sets.all; alone = a.sets.alone };
      alone = a.alone;
    }

rewound_now : (n : ℕ) (c d : ClaimView) → d ≡ after n c → Accounted d → IsRewound d
rewound_now n c d e a =
    record {
      drawn = ap (λ (z : ClaimView). z.drawn) e;
      over = ap (λ (z : ClaimView). z.over) e;
      counter = ap (λ (z : ClaimView). z.counter) e;
      whole = a;
    }

module _ (p q : Pass) (s : Settles p q) where
  pub settled_all : (g : Grid) (outs : ℕ) (caps : Caps) (age : ℕ) → HasAll g outs caps age p → HasAll g outs caps age q
  settled_all g outs caps age a =
      let b = all_after g outs caps age s.mods s.links s.nodes p.values.knows p.readers.knows p.marks.knows a in
      subst (λ v. AllOf g outs caps age v q.readers.knows q.marks.knows) (sym s.values)
      (subst (λ r. AllOf g outs caps age (values.rewound (values.learned s.mods p.values.knows)) r q.marks.knows) (sym s.readers)
      (subst (λ m. AllOf g outs caps age (values.rewound (values.learned s.mods p.values.knows)) (readers.rewound (readers.regained s.links p.readers.knows)) m) (sym s.marks) b))

  pub settled_rested : IsRested q
  settled_rested =
      record {
        mods = rewound_now s.mods p.values.knows.claims q.values.knows.claims (ap (λ (v : ValueView). v.claims) s.values) s.whole_mods;
        links = rewound_now s.links p.readers.knows.claims q.readers.knows.claims (ap (λ (v : ReadersView). v.claims) s.readers) s.whole_links;
        nodes = rewound_now s.nodes p.marks.knows.claims q.marks.knows.claims (ap (λ (v : MarksView). v.claims) s.marks) s.whole_nodes;
      }

one_for : LinkView → ℕ
one_for k = k.link

links_named : (l : ℕ) (ks : List LinkView) → times l (map one_for ks) ≡ sum_by (named l) ks
unfolding one_for
links_named l ks = sum_map one_for (λ x. cond (x == l) 1 0) ks

held_most : (most : ℕ) (d : ClaimView) → Accounted d → d.count ≡ most → length d.held ≤ most
held_most most d a e = omega (arith, a.all, e)

-- as many of each kind were made as the table gives at most
module _ (g : Grid) (outs : ℕ) (caps : Caps) (age : ℕ) (t : Tables) (p q z : Pass) (clear : IsCleared (fixed_slots g outs) p) (made : Made) (moves : Moves t p q made) (s : Settles q z) (all : HasAll g outs caps age z) where
  pub mods_fit : length made.mods ≤ caps.mods
  mods_fit =
      let e = moves.values.held (λ (h : Handle). 1) in
      let a = sum_ones q.values.knows.claims.held in
      let b : sum_by (λ (h : Handle). 1) p.values.knows.claims.held ≡ 0 = ap (sum_by (λ (h : Handle). 1)) clear.mods in
      let c = sum_ones made.mods in
      let d : length z.values.knows.claims.held ≡ length q.values.knows.claims.held = ap (λ (v : ValueView). length v.claims.held) s.values in
      let f = held_most caps.mods z.values.knows.claims s.whole_mods all.mods.count_is in
      omega (arith, e, a, b, c, d, f)

  pub nodes_fit : length made.nodes ≤ caps.nodes
  nodes_fit =
      let e = moves.nodes.held (λ (h : Handle). 1) in
      let a = sum_ones q.marks.knows.claims.held in
      let b : sum_by (λ (h : Handle). 1) p.marks.knows.claims.held ≡ 0 = ap (sum_by (λ (h : Handle). 1)) clear.nodes_out in
      let c = sum_ones made.nodes in
      let d : length z.marks.knows.claims.held ≡ length q.marks.knows.claims.held = ap (λ (v : MarksView). length v.claims.held) s.marks in
      let f = held_most caps.nodes z.marks.knows.claims s.whole_nodes all.nodes.count_is in
      omega (arith, e, a, b, c, d, f)

  pub links_fit : length made.links ≤ caps.links
  links_fit =
      let e = moves.links.links (λ (k : LinkView). 1) in
      let a = sum_ones q.readers.knows.links in
      let b : sum_by (λ (k : LinkView). 1) p.readers.knows.links ≡ 0 = ap (sum_by (λ (k : LinkView). 1)) clear.links in
      let c = sum_ones made.links in
      let d : length z.readers.knows.links ≡ length q.readers.knows.links = ap (λ (v : ReadersView). length v.links) s.readers in
      let f : length (map one_for z.readers.knows.links) ≤ caps.links = count_most caps.links (map one_for z.readers.knows.links) (λ l.
      let n = links_named l z.readers.knows.links in
      let h = s.holds.held l in
      let w = s.whole_links.slots l in
      let o : once_below l z.readers.knows.claims.count ≡ once_below l caps.links = ap (once_below l) all.links.count_is in
      omega (arith, n, h, w, o)) in
      let m = length-map z.readers.knows.links one_for in
      omega (arith, e, a, b, c, d, f, m)

-- generations may be older
young_older : (age : ℕ) (c : ClaimView) → IsYoung age c → IsYoung (age + 1) c
young_older age c y =
    record { free = λ h i. let a = y.free h i in omega (arith, a); out = λ h i. let a = y.out h i in omega (arith, a) }

pub all_older : (g : Grid) (outs : ℕ) (caps : Caps) (age : ℕ) (p : Pass) → HasAll g outs caps age p → HasAll g outs caps (age + 1) p
all_older g outs caps age p a =
    record {
      mods = a.mods;
      links = a.links;
      nodes = a.nodes;
      young_mods = young_older age p.values.knows.claims a.young_mods;
      young_nodes = young_older age p.marks.knows.claims a.young_nodes;
      fixed = a.fixed;
      grid = a.grid;
      sets = a.sets;
      alone = a.alone;
    }
