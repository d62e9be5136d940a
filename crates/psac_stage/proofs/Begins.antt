-- A cleared pass at rest is what a run of main's body begins with.
use Rattle.std.proofs.Common.{◌≡◌, ℕ, ◌+◌, ◌<◌, ◌==◌, List, [], map, length, None, ap, sym, subst, inl, arith}
use Rattle.std.proofs.lemmas.Bool.Decides.{nat_tests}
use Rattle.psac_ops.specs.declared.plain.Handle.{Handle}
use Rattle.psac_slots.specs.Handles.{Member, once_below}
use Rattle.psac_slots.specs.Claiming.{Accounted, times}
use Rattle.psac_slots.specs.declared.view.ClaimView.{ClaimView}
use Rattle.psac_values.specs.declared.view.KnownView.{KnownView}
use Rattle.psac_readers.specs.declared.view.SharedView.{SharedView as SetView}
use Rattle.psac_readers.specs.Chained.{mods_of}
use Rattle.psac_marks.specs.declared.view.OwnView.{OwnView}
use Rattle.psac_marks.specs.declared.view.SharedView.{SharedView as NodeView}
use Rattle.psac_fork.specs.declared.tables.Pass.{Pass}
use Rattle.psac_fork.specs.declared.tables.Tables.{Tables}
use Rattle.psac_fork.specs.Whole.{IsOf}
use Rattle.psac_inputs.specs.Grid.{Grid, IsGrid}
use Rattle.psac_model.specs.declared.ends.Caps.{Caps}
use Rattle.psac_model.specs.Fresh.{World}
use Rattle.psac_laws.specs.Standing.{series_of, params}
use Rattle.psac_laws.proofs.Places.{nat_is, nat_same}
use Rattle.psac_laws.proofs.Rules.{Leaves, leaves}
use Rattle.psac_laws.proofs.Opening.{IsChecked}
use Rattle.psac_plain.specs.Opened.{first_output, output_env, setting_over}
use Rattle.psac_trace.specs.Fit.{AtHand, Fit}
use Rattle.psac_trace.specs.Rights.{Ready}
use Rattle.psac_trace.specs.Running.{Begins}
use Rattle.psac_trace.proofs.Warning.{warns_of_none}
use Rattle.psac_stage.specs.Places.{fixed_slots, base_heap}
use Rattle.psac_stage.specs.Resting.{HasAll, IsRested, IsCleared}
use Rattle.psac_stage.proofs.Members.{counted_in, in_counted}
use Rattle.psac_stage.proofs.Readies.{first_ready, first_tidy}

-- what is counted stands there
pub time_in : (k : ℕ) (xs : List ℕ) → 0 < times k xs → Member k xs
time_in k xs h =
    let r = counted_in (λ x. x == k) xs h in
    subst (λ z. Member z xs) (nat_is r.0 k r.2) r.1

-- the slots of the free list are the table's
pub low_slot : (c : ClaimView) → Accounted c → (h : Handle) → Member h c.list → h.slot < c.count
low_slot c a h i =
    let n = in_counted (λ (x : Handle). x.slot == h.slot) c.list h i (nat_same h.slot) in
    let s = a.slots h.slot in
    below h.slot c.count (omega (arith, n, s))
  where
    below : (k n : ℕ) → 0 < once_below k n → k < n
    below k n h = grind (arith, nat_tests)

module _ (w : World) (g : Grid) (ok : IsGrid g) (checked : IsChecked w) (caps : Caps) (age : ℕ) (t : Tables) (p : Pass) (of : IsOf p t) (rest : HasAll g (length w.main.dests) caps age p) (idle : IsRested p) (clear : IsCleared (fixed_slots g (length w.main.dests)) p) where
  abbrev outs : ℕ
  outs = length w.main.dests

  abbrev fixed : ℕ
  fixed = fixed_slots g outs

  abbrev all : ℕ
  all = fixed + caps.mods

  abbrev pub body_left : Leaves (map series_of w.main.body) (params w.main) []
  body_left = leaves (map series_of w.main.body) (params w.main) [] checked.start.body

  set_at : (s : ℕ) → s < all → AtHand s p.readers.knows
  set_at s low = (subst (λ n. s < n) (sym rest.sets.mods_is) low, inl (time_in s (mods_of p.readers.knows.walk) (rest.sets.all s low)))

  no_set : (f : SetView) → Member f p.readers.knows.shared → ⊥
  no_set f i = subst (Member f) rest.sets.alone i

  no_known : (e : KnownView) → Member e p.values.knows.known → ⊥
  no_known e i = subst (Member e) rest.fixed.alone i

  no_own : (o : OwnView) → Member o p.marks.knows.own → ⊥
  no_own o i = subst (Member o) clear.nodes i

  no_node : (e : NodeView) → Member e p.marks.knows.shared → ⊥
  no_node e i = subst (Member e) rest.alone i

  first_fit : Fit p
  first_fit =
      record {
        sets = record {
          mine = λ m h. let low = clear.bare h.0 h.1 in let e = ap (λ (z : Handle). z.slot) h.2 in set_at m.slot (omega (arith, low, e));
          known = λ e i. absurd (no_known e i);
          spare = λ h i.
              let low = low_slot p.values.knows.claims idle.mods.whole h i in
              set_at (p.values.knows.fixed + h.slot) (omega (arith, low, rest.mods.count_is, rest.fixed.fixed_is));
          labels = λ f i. absurd (no_set f i);
        };
        nodes = record {
          kept = λ o q i k e. absurd (no_own o i);
          dropped = λ x d. absurd (let z : times x p.marks.knows.dropped ≡ 0 = ap (times x) clear.marks.2 in omega (arith, d, z));
          shared = λ e i. absurd (no_node e i);
          labels = λ e i. absurd (no_node e i);
        };
      }

  pub ready : Ready (setting_over g w.texts outs) (params w.main) body_left.end.unwritten (output_env (first_output g) w.main.dests []) p.values.knows (base_heap g w.main.dests)
  ready =
      subst (λ left. Ready (setting_over g w.texts outs) (params w.main) left (output_env (first_output g) w.main.dests []) p.values.knows (base_heap g w.main.dests)) (sym body_left.unwritten)
      (first_ready w g ok checked p.values.knows rest.fixed rest.grid)

  -- a cleared pass begins main's body
  pub begins : Begins (setting_over g w.texts outs) w.program.funcs [] t w.main.body (output_env (first_output g) w.main.dests []) None p
  begins =
      record {
        of = of;
        checked = checked.each;
        room = (idle.mods.over, idle.links.over, idle.nodes.over);
        tidy = first_tidy w g ok checked p.values.knows rest.fixed rest.grid clear.bare;
        fit = first_fit;
        parent = tt;
        needs = (base_heap g w.main.dests, params w.main, body_left.end, body_left.meets, ready);
        -- a first run has no readers to raise
        warns = warns_of_none (setting_over g w.texts outs) w.main.body (output_env (first_output g) w.main.dests []) p (base_heap g w.main.dests, params w.main, body_left.end, body_left.meets, ready);
      }
