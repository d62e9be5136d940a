-- What giving everything back leaves of a pass.
use Rattle.std.proofs.Common.{◌≡◌, ℕ, suc, zero, pos, ◌+◌, ◌*◌, ◌<◌, ◌==◌, Bool, true, if◌then◌else◌, cond, List, [], ◌∷◌, ◌++◌, map, drop, Some, refl, ap, sym, ◌∙◌, subst, inl, inr, arith}
use Rattle.std.specs.Prelude.{filter, option_and_then}
use Rattle.std.proofs.lemmas.List.Sums.{sum_by-cons}
use Rattle.std.proofs.lemmas.Bool.{lt-ltb, ltb-true}
use Rattle.psac_ops.specs.declared.plain.Handle.{Handle}
use Rattle.psac_ops.specs.declared.plain.Plain.{Plain}
use Rattle.psac_ops.specs.declared.plain.Plain.TheVariants.{Int}
use Rattle.psac_ops.specs.Words.{of_words}
use Rattle.psac_slots.specs.Handles.{Member, later}
use Rattle.psac_slots.specs.Given.{by_slot, only}
use Rattle.psac_slots.specs.Claiming as claiming
use Rattle.psac_slots.specs.declared.view.ClaimView.{ClaimView}
use Rattle.psac_slots.proofs.Pairs.{member_cases, member_filter, member_map}
use Rattle.psac_values.specs.declared.view.OwnedView.{OwnedView}
use Rattle.psac_values.specs.Steps.{is_fixed}
use Rattle.psac_fork.specs.declared.tables.Pass.{Pass}
use Rattle.psac_reclaim.specs.Owed.{ValuesNone, ReadersNone, MarksNone}
use Rattle.psac_inputs.specs.Grid.{Grid, cell}
use Rattle.psac_plain.specs.Opened.{first_output}
use Rattle.psac_model.specs.declared.ends.Caps.{Caps}
use Rattle.psac_laws.proofs.Places.{nat_is, test_or, not_both}
use Rattle.psac_stage.specs.Places.{fixed_slots}
use Rattle.psac_stage.specs.Holding.{words_in, all_known, value_in, entries}
use Rattle.psac_stage.specs.Resting.{IsYoung, HasAll, IsRested, IsCleared}

pub drop_member : {A : Type 0} (n : ℕ) (xs : List A) (x : A) → Member x (drop n xs) → Member x xs
drop_member zero [] x h = h
drop_member zero (y ∷ xs) x h = h
drop_member (suc n) [] x h = h
drop_member (suc n) (y ∷ xs) x h = inr (drop_member n xs x h)

by_slot_member : (n : ℕ) (hs : List Handle) (h : Handle) → Member h (by_slot n hs) → Member h hs
by_slot_member zero hs h i = absurd i
by_slot_member (suc n) hs h i =
    elim (member_cases h (by_slot n hs) (only n hs) i) [
      | inl j ↦ by_slot_member n hs h j
      | inr j ↦ (member_filter (λ (x : Handle). x.slot == n) h hs j).0
    ]

-- what was given back is a generation older
young_given : (age : ℕ) (c d : ClaimView) → IsYoung age c → d.held ≡ [] → d.list ≡ (claiming.rewound c).list ++ map later (by_slot c.count c.held) → IsYoung (age + 1) d
young_given age c d y none is =
    record {
      free = λ h i.
          elim (member_cases h (claiming.rewound c).list (map later (by_slot c.count c.held)) (subst (Member h) is i)) [
            | inl j ↦ (let a = y.free h (drop_member (claiming.counted c.counter) c.list h j) in omega (arith, a))
            | inr j ↦
                (let q = member_map later h (by_slot c.count c.held) j in
                let a = y.out q.0 (by_slot_member c.count c.held q.0 q.1) in
                let e : suc q.0.generation ≡ h.generation = ap (λ (z : Handle). z.generation) q.2 in
                omega (arith, a, e))
          ];
      out = λ h i. absurd (subst (Member h) none i);
    }

fixed_slot : (n : ℕ) (o : OwnedView) → o.of.slot < n → is_fixed n o ≡ true
fixed_slot n o h = lt-ltb o.of.slot n h

-- what is told of a slot stays where its entries do
pub words_filter : (f : OwnedView → Bool) (s : ℕ) (mine : List OwnedView) → ((o : OwnedView) → o.of.slot ≡ s → f o ≡ true) → words_in s (filter f mine) ≡ words_in s mine
words_filter f s [] keep = refl
words_filter f s (o ∷ mine) keep =
    elim (test_or (f o)) [
      | inl t ↦ rw t (ap (λ z. if o.of.slot == s then Some o.words else z) (words_filter f s mine keep))
      | inr t ↦
          elim (test_or (o.of.slot == s)) [
            | inl q ↦ absurd (not_both (keep o (nat_is o.of.slot s q)) t)
            | inr q ↦ rw (t, q) (words_filter f s mine keep)
          ]
    ]

words_fixed : (s n : ℕ) (mine : List OwnedView) → s < n → words_in s (filter (is_fixed n) mine) ≡ words_in s mine
words_fixed s n mine low = words_filter (is_fixed n) s mine (λ o e. fixed_slot n o (omega (arith, e, low)))

value_fixed : (s n : ℕ) (mine : List OwnedView) → s < n → value_in s (filter (is_fixed n) mine) ≡ value_in s mine
value_fixed s n mine low = ap (λ z. option_and_then of_words (option_and_then all_known z)) (words_fixed s n mine low)

pub entries_filter : (f : OwnedView → Bool) (s : ℕ) (mine : List OwnedView) → ((o : OwnedView) → o.of.slot ≡ s → f o ≡ true) → entries s (filter f mine) ≡ entries s mine
entries_filter f s [] keep = refl
entries_filter f s (o ∷ mine) keep =
    let one : OwnedView → ℕ = λ (w : OwnedView). cond (w.of.slot == s) 1 0 in
    let c = sum_by-cons one o mine in
    let r = entries_filter f s mine keep in
    elim (test_or (f o)) [
      | inl t ↦ rw t (let d = sum_by-cons one o (filter f mine) in omega (arith, c, d, r))
      | inr t ↦
          elim (test_or (o.of.slot == s)) [
            | inl q ↦ absurd (not_both (keep o (nat_is o.of.slot s q)) t)
            | inr q ↦ rw t (let z : one o ≡ 0 = ap (λ b. cond b 1 0) q in omega (arith, c, z, r))
          ]
    ]

entries_fixed : (s n : ℕ) (mine : List OwnedView) → s < n → entries s (filter (is_fixed n) mine) ≡ entries s mine
entries_fixed s n mine low = entries_filter (is_fixed n) s mine (λ o e. fixed_slot n o (omega (arith, e, low)))

module _ (g : Grid) (outs : ℕ) (caps : Caps) (age : ℕ) (p q : Pass) (all : HasAll g outs caps age p) (values : ValuesNone p.values.knows q.values.knows) (readers : ReadersNone p.readers.knows q.readers.knows) (marks : MarksNone p.marks.knows q.marks.knows) where
  abbrev fixed : ℕ
  fixed = fixed_slots g outs

  is_mine : q.values.knows.mine ≡ filter (is_fixed fixed) p.values.knows.mine
  is_mine = values.mine ∙ ap (λ n. filter (is_fixed n) p.values.knows.mine) all.fixed.fixed_is

  keeps_value : (s : ℕ) (x : Plain) → s < fixed → value_in s p.values.knows.mine ≡ Some x → value_in s q.values.knows.mine ≡ Some x
  keeps_value s x low h = ap (value_in s) is_mine ∙ value_fixed s fixed p.values.knows.mine low ∙ h

  pub rested : IsRested q
  rested =
      record {
        mods = record { drawn = values.begun.1; over = values.begun.2; counter = values.begun.0; whole = values.whole };
        links = record { drawn = readers.begun.1; over = readers.begun.2; counter = readers.begun.0; whole = readers.whole };
        nodes = record { drawn = marks.begun.1; over = marks.begun.2; counter = marks.begun.0; whole = marks.whole };
      }

  pub cleared : IsCleared fixed q
  cleared =
      record {
        mods = values.out;
        bare = λ o i. ltb-true o.of.slot fixed (member_filter (is_fixed fixed) o p.values.knows.mine (subst (Member o) is_mine i)).1;
        links = readers.links;
        links_out = readers.out;
        nodes = marks.own;
        nodes_out = marks.out;
        marks = marks.marked;
      }

  module _ (inside : (r c : ℕ) (x : Plain) → cell r c g ≡ Some x → r * g.cols + c < fixed) where
    pub has_all : HasAll g outs caps (age + 1) q
    has_all =
        record {
          mods = record { branch = values.branch ∙ all.mods.branch; count_is = values.count ∙ all.mods.count_is };
          links = record { branch = readers.branch ∙ all.links.branch; count_is = readers.count ∙ all.links.count_is };
          nodes = record { branch = marks.branch ∙ all.nodes.branch; count_is = marks.count ∙ all.nodes.count_is };
          young_mods = young_given age p.values.knows.claims q.values.knows.claims all.young_mods values.out values.list;
          young_nodes = young_given age p.marks.knows.claims q.marks.knows.claims all.young_nodes marks.out marks.list;
          fixed = record {
            fixed_is = values.fixed ∙ all.fixed.fixed_is;
            once = λ s low. ap (entries s) is_mine ∙ entries_fixed s fixed p.values.knows.mine low ∙ all.fixed.once s low;
            first = λ o i low. all.fixed.first o (member_filter (is_fixed fixed) o p.values.knows.mine (subst (Member o) is_mine i)).0 low;
            alone = values.known ∙ all.fixed.alone;
          };
          grid = record {
            cells = λ r c x h. keeps_value (r * g.cols + c) x (inside r c x h) (all.grid.cells r c x h);
            row_count = keeps_value (first_output g + outs) (Int (pos g.rows)) (omega arith) all.grid.row_count;
          };
          sets = record {
            mods_is = readers.mods ∙ all.sets.mods_is;
            all = λ m low. subst (λ ms. 0 < claiming.times m ms) (sym readers.sets) (all.sets.all m low);
            alone = readers.shared ∙ all.sets.alone;
          };
          alone = marks.shared ∙ all.alone;
        }
