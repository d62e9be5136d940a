-- The pass of tables that were just made is at rest, and nothing is out.
use Rattle.std.proofs.Common.{◌≡◌, ℕ, zero, suc, ◌+◌, ◌<◌, ◌≤◌, ◌==◌, Bool, true, false, cond, [], ◌∷◌, Some, None, is_some, refl, ap, sym, ◌∙◌, subst, inl, ⊎_elim, arith}
use Rattle.std.specs.Option.{ForSome}
use Rattle.std.proofs.lemmas.Bool.{cases_eq, eq-eqb, lt-ltb, le-ltb}
use Rattle.std.proofs.lemmas.List.Sums.{sum_by_push}
use Rattle.psac_ops.specs.declared.plain.Handle.{Handle}
use Rattle.psac_slots.specs.Handles.{Member, fresh, once_below}
use Rattle.psac_slots.specs.Claiming.{Accounted, times}
use Rattle.psac_slots.specs.Claiming as claiming
use Rattle.psac_slots.specs.declared.view.ClaimView.{ClaimView}
use Rattle.psac_slots.proofs.Pairs.{member_cases, member_left, member_right, map_member}
use Rattle.psac_slots.proofs.Removed.{length-fresh, slots-fresh}
use Rattle.psac_slots.proofs.Sums.{once_below_more}
use Rattle.psac_values.specs.declared.view.OwnedView.{OwnedView}
use Rattle.psac_values.specs.declared.view.ValueView.{ValueView}
use Rattle.psac_values.specs.Steps as values
use Rattle.psac_readers.specs.declared.view.WalkView.{WalkView}
use Rattle.psac_readers.specs.declared.view.ReadersView.{ReadersView}
use Rattle.psac_readers.specs.Chained.{mods_of}
use Rattle.psac_readers.specs.Steps as readers
use Rattle.psac_marks.specs.declared.view.MarksView.{MarksView}
use Rattle.psac_marks.specs.Steps as marks
use Rattle.psac_fork.specs.declared.tables.Pass.{Pass}
use Rattle.psac_fork.specs.declared.tables.Tables.{Tables}
use Rattle.psac_fork.specs.Whole.{IsOf}
use Rattle.psac_record.specs.declared.record.Record.{Record}
use Rattle.psac_model.specs.Fresh.{World}
use Rattle.psac_inputs.specs.Grid.{Grid}
use Rattle.psac_model.specs.declared.ends.Caps.{Caps}
use Rattle.psac_stage.specs.Places.{fixed_slots}
use Rattle.psac_stage.specs.Holding.{entries, HasGrid, HasFixed, IsBare}
use Rattle.psac_stage.specs.Resting.{IsTop, IsRewound, IsYoung, HasAll, IsRested, IsCleared}
use Rattle.psac_stage.specs.Storing.{SameSlots}
use Rattle.psac_engine.specs.Outputs.{HasOutputs}
use Rattle.psac_engine.proofs.Engines.{for_some, some_not}
use Rattle.psac_stage.proofs.Members.{in_counted}
use Rattle.psac_stage.proofs.Storing.{fixed_same, bare_same}

abbrev first_owned : ℕ → OwnedView
first_owned n = record { of = record { slot = n; generation = 0 }; words = Some 0 ∷ Some 0 ∷ Some 0 ∷ [] }

entries_first : (n s : ℕ) → entries s (values.first_mine n) ≡ once_below s n
entries_first zero s = sym (ap (λ (b : Bool). cond b 1 0) (le-ltb s 0 (omega arith)))
entries_first (suc n) s =
    let p = sum_by_push (λ (w : OwnedView). cond (w.of.slot == s) 1 0) (values.first_mine n) (first_owned n) in
    let o = once_below_more s n in
    let r = entries_first n s in
    omega (arith, p, o, r)

owned_first : (n : ℕ) (w : OwnedView) → Member w (values.first_mine n) → (w.of.slot < n) × (w.of.generation ≡ 0)
owned_first zero w m = absurd m
owned_first (suc n) w m = ⊎_elim
    (λ p. let q = owned_first n w p in let l = q.0 in (omega (arith, l), q.1))
    (λ p. ⊎_elim
    (λ (e : first_owned n ≡ w). (let s = ap (λ (x : OwnedView). x.of.slot) e in omega (arith, s), sym (ap (λ (x : OwnedView). x.of.generation) e)))
    (λ b. absurd b)
    p)
    (member_cases w (values.first_mine n) (first_owned n ∷ []) m)

fresh_age : (n : ℕ) (h : Handle) → Member h (fresh n) → h.generation ≤ 1
fresh_age zero h m = absurd m
fresh_age (suc n) h m = ⊎_elim
    (λ p. fresh_age n h p)
    (λ p. ⊎_elim
    (λ (e : record { slot = n; generation = 1 } ≡ h). let g = ap (λ (x : Handle). x.generation) e in omega (arith, g))
    (λ b. absurd b)
    p)
    (member_cases h (fresh n) (record { slot = n; generation = 1 } ∷ []) m)

first_in : (n m : ℕ) → m < n → (e : WalkView) × Member e (readers.first_walk n) × (e.of ≡ m)
first_in zero m l = absurd (omega (arith, l))
first_in (suc n) m l = ⊎_elim
    (λ (e : n ≡ m). (record { of = n; chain = Some [] }, member_right (record { of = n; chain = Some [] }) (readers.first_walk n) (record { of = n; chain = Some [] } ∷ []) (inl refl), e))
    (λ d. let q = first_in n m (let k : n ≡ m → ⊥ = d in omega (arith, l, k)) in (q.0, member_left q.0 (readers.first_walk n) (record { of = n; chain = Some [] } ∷ []) q.1, q.2))
    (cases_eq n m)

sets_first : (n m : ℕ) → m < n → 0 < times m (mods_of (readers.first_walk n))
sets_first n m l =
    let q = first_in n m l in
    let i : Member m (mods_of (readers.first_walk n)) = subst (λ (x : ℕ). Member x (mods_of (readers.first_walk n))) q.2 (map_member (λ (y : WalkView). y.of) q.0 (readers.first_walk n) q.1) in
    in_counted (λ (x : ℕ). x == m) (mods_of (readers.first_walk n)) m i (eq-eqb m m refl)

top_first : (n : ℕ) → IsTop n (claiming.first_view n)
top_first n = record { branch = refl; count_is = refl }

young_first : (n : ℕ) → IsYoung 1 (claiming.first_view n)
young_first n = record { free = λ h m. fresh_age n h m; out = λ h m. absurd m }

whole_first : (n : ℕ) → Accounted (claiming.first_view n)
whole_first n =
    record {
      all = let l = length-fresh n in omega (arith, l);
      slots = λ s. let e = slots-fresh n s in omega (arith, e);
    }

rewound_first : (n : ℕ) → IsRewound (claiming.first_view n)
rewound_first n = record { drawn = refl; over = refl; counter = refl; whole = whole_first n }

fixed_first : (n mods : ℕ) → HasFixed n (values.first_view n mods)
fixed_first n mods =
    record {
      fixed_is = refl;
      once = λ s l. entries_first n s ∙ ap (λ (b : Bool). cond b 1 0) (lt-ltb s n l);
      first = λ w m l. (owned_first n w m).1;
      alone = refl;
    }

bare_first : (n mods : ℕ) → IsBare n (values.first_view n mods)
bare_first n mods w m = (owned_first n w m).0

pub fixed_made : (g : Grid) (outs : ℕ) (caps : Caps) (v : ValueView) → v ≡ values.first_view (fixed_slots g outs) caps.mods → HasFixed (fixed_slots g outs) v
fixed_made g outs caps v e = subst (HasFixed (fixed_slots g outs)) (sym e) (fixed_first (fixed_slots g outs) caps.mods)

-- the tables were made for the grid, and then the grid's words were stored
module _ (g : Grid) (outs : ℕ) (caps : Caps) (v : ValueView) (p : Pass) (same : SameSlots v p.values.knows) (words : HasGrid g outs p.values.knows) (of_values : v ≡ values.first_view (fixed_slots g outs) caps.mods) (of_readers : p.readers.knows ≡ readers.first_view caps.links (fixed_slots g outs + caps.mods)) (of_marks : p.marks.knows ≡ marks.first_view caps.nodes) where
  claims : claiming.first_view caps.mods ≡ p.values.knows.claims
  claims = sym (same.claims ∙ ap (λ (x : ValueView). x.claims) of_values)

  links : claiming.first_view caps.links ≡ p.readers.knows.claims
  links = sym (ap (λ (x : ReadersView). x.claims) of_readers)

  nodes : claiming.first_view caps.nodes ≡ p.marks.knows.claims
  nodes = sym (ap (λ (x : MarksView). x.claims) of_marks)

  pub first_all : HasAll g outs caps 1 p
  first_all =
      record {
        mods = subst (IsTop caps.mods) claims (top_first caps.mods);
        links = subst (IsTop caps.links) links (top_first caps.links);
        nodes = subst (IsTop caps.nodes) nodes (top_first caps.nodes);
        young_mods = subst (IsYoung 1) claims (young_first caps.mods);
        young_nodes = subst (IsYoung 1) nodes (young_first caps.nodes);
        fixed = fixed_same v p.values.knows same (fixed_slots g outs) (subst (HasFixed (fixed_slots g outs)) (sym of_values) (fixed_first (fixed_slots g outs) caps.mods));
        grid = words;
        sets = record {
          mods_is = ap (λ (x : ReadersView). x.mods) of_readers;
          all = λ m l. subst (λ (x : ReadersView). 0 < times m (mods_of x.walk)) (sym of_readers) (sets_first (fixed_slots g outs + caps.mods) m l);
          alone = ap (λ (x : ReadersView). x.shared) of_readers;
        };
        alone = ap (λ (x : MarksView). x.shared) of_marks;
      }

  pub first_rested : IsRested p
  first_rested =
      record {
        mods = subst IsRewound claims (rewound_first caps.mods);
        links = subst IsRewound links (rewound_first caps.links);
        nodes = subst IsRewound nodes (rewound_first caps.nodes);
      }

  pub first_cleared : IsCleared (fixed_slots g outs) p
  first_cleared =
      record {
        mods = sym (ap (λ (c : ClaimView). c.held) claims);
        bare = bare_same v p.values.knows same (fixed_slots g outs) (subst (IsBare (fixed_slots g outs)) (sym of_values) (bare_first (fixed_slots g outs) caps.mods));
        links = ap (λ (x : ReadersView). x.links) of_readers;
        links_out = sym (ap (λ (c : ClaimView). c.held) links);
        nodes = ap (λ (x : MarksView). x.own) of_marks;
        nodes_out = sym (ap (λ (c : ClaimView). c.held) nodes);
        marks = (ap (λ (x : MarksView). x.marked) of_marks, ap (λ (x : MarksView). x.busy) of_marks, ap (λ (x : MarksView). x.dropped) of_marks);
      }

  pub all_opened : (n : ℕ) → outs ≡ n → ForSome (Some p) (λ (q : Pass). HasAll g n caps 1 q)
  all_opened n e = for_some (λ (q : Pass). HasAll g n caps 1 q) p (subst (λ (k : ℕ). HasAll g k caps 1 p) e first_all)

  pub rested_opened : ForSome (Some p) IsRested
  rested_opened = for_some IsRested p first_rested

  pub cleared_opened : (n : ℕ) → outs ≡ n → ForSome (Some p) (λ (q : Pass). is_some {T = Record} None ≡ false → IsCleared (fixed_slots g n) q)
  cleared_opened n e = for_some (λ (q : Pass). is_some {T = Record} None ≡ false → IsCleared (fixed_slots g n) q) p (λ z. subst (λ (k : ℕ). IsCleared (fixed_slots g k) p) e first_cleared)

pub of_opened : (t : Tables) (p : Pass) → IsOf p t → ForSome (Some p) (λ (q : Pass). IsOf q t)
of_opened t p of = for_some (λ (q : Pass). IsOf q t) p of

pub nothing_opened : (w : World) (g : Grid) (p : Pass) → ForSome (Some p) (λ (q : Pass). is_some {T = Record} None ≡ true → HasOutputs w g q.values.knows)
nothing_opened w g p = for_some (λ (q : Pass). is_some {T = Record} None ≡ true → HasOutputs w g q.values.knows) p (λ z. some_not (sym z))
