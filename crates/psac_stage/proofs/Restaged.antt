-- A pass that keeps a record, before and after a batch was put in.
use Rattle.std.proofs.Common.{◌≡◌, ℕ, suc, ◌+◌, ◌*◌, ◌<◌, ◌==◌, not, List, [], ◌∷◌, ◌++◌, map, refl, ap, sym, ◌∙◌, subst, inl, inr, arith}
use Rattle.std.specs.List.{All}
use Rattle.std.proofs.lemmas.Bool.{eq-eqb, ne_eqb}
use Rattle.psac_slots.specs.Handles.{Member}
use Rattle.psac_slots.specs.Claiming.{times}
use Rattle.psac_readers.specs.Chained.{mods_of}
use Rattle.psac_marks.specs.declared.view.MarksView.{MarksView}
use Rattle.psac_inputs.specs.declared.batch.Edit.{Edit}
use Rattle.psac_inputs.specs.Grid.{Grid}
use Rattle.psac_inputs.specs.Batch.{Batch, batch_net, put_all, IsBatch, GoesInto}
use Rattle.psac_model.specs.declared.ends.Caps.{Caps}
use Rattle.psac_model.specs.Fresh.{when}
use Rattle.psac_plain.specs.Opened.{first_output}
use Rattle.psac_plain.proofs.Cells.{slot_below}
use Rattle.psac_record.specs.Kept.{Kept}
use Rattle.psac_repair.specs.Going.{Views}
use Rattle.psac_stage.specs.Places.{fixed_slots}
use Rattle.psac_stage.specs.Holding.{HasGrid, HasFixed}
use Rattle.psac_stage.specs.Resting.{IsTop, IsYoung, AllOf}
use Rattle.psac_stage.specs.Recorded.{HasNodes, HasLinks}
use Rattle.psac_stage.specs.Staging.{cell_slot, changed, MayChange, Changes}
use Rattle.psac_stage.proofs.Begins.{time_in}
use Rattle.psac_stage.proofs.Paths.{readers_up}
use Rattle.psac_stage.proofs.Storing.{fixed_same, first_put}

-- where a record is kept, all who read a fixed slot can be marked
pub may_here : (g : Grid) (outs : ℕ) (caps : Caps) (age : ℕ) (p : Views) → AllOf g outs caps age p.values p.readers p.marks
    → (k : Kept) → HasNodes k p.marks → HasLinks k p.readers → (s : ℕ) → s < fixed_slots g outs → MayChange s p
may_here g outs caps age p all k nodes links s low =
    record {
      inside = subst (λ n. s < n) (sym all.sets.mods_is) (omega (arith, low));
      walk = time_in s (mods_of p.readers.walk) (all.sets.all s (omega (arith, low)));
      leads = readers_up k p.marks nodes p.readers links s;
    }

-- what the pass has of the grid, after it changed
module _ (g h : Grid) (outs : ℕ) (caps : Caps) (age : ℕ) (ss : List ℕ) (p q : Views) (a : Changes ss p q)
    (first : first_output h ≡ first_output g) (has : HasGrid h outs q.values) where
  fixed_is : fixed_slots h outs ≡ fixed_slots g outs
  fixed_is = ap (λ n. n + (outs + 1)) first

  claims_is : q.marks.claims ≡ p.marks.claims
  claims_is = ap (λ (z : MarksView). z.claims) a.becomes

  pub all_changed : AllOf g outs caps age p.values p.readers p.marks → AllOf h outs caps age q.values q.readers q.marks
  all_changed all =
      record {
        mods = subst (IsTop caps.mods) (sym a.same.claims) all.mods;
        links = subst (IsTop caps.links) (sym a.readers.claims) all.links;
        nodes = subst (IsTop caps.nodes) (sym claims_is) all.nodes;
        young_mods = subst (IsYoung age) (sym a.same.claims) all.young_mods;
        young_nodes = subst (IsYoung age) (sym claims_is) all.young_nodes;
        fixed = subst (λ n. HasFixed n q.values) (sym fixed_is) (fixed_same p.values q.values a.same (fixed_slots g outs) all.fixed);
        grid = has;
        sets = record {
          mods_is = a.readers.mods ∙ all.sets.mods_is ∙ ap (λ n. n + caps.mods) (sym fixed_is);
          all = λ m low. subst (λ ms. 0 < times m ms) (sym a.readers.walk) (all.sets.all m (omega (arith, low, fixed_is)));
          alone = a.readers.shared ∙ all.sets.alone;
        };
        alone = ap (λ (z : MarksView). z.shared) a.becomes ∙ all.alone;
      }

-- each cell lies before the outputs
cells_in : (g : Grid) (room cols : ℕ) → room ≡ g.room → cols ≡ g.cols → (es : List Edit)
    → All (λ e. (e.row < room) × (e.col < cols)) es → (s : ℕ) → Member s (map (cell_slot g) es) → s < first_output g
cells_in g room cols a b [] h s i = absurd i
cells_in g room cols a b (e ∷ es) h s (inl q) =
    let k = h 0 e (omega arith) in
    let low : e.row * g.cols + e.col < first_output g = slot_below g.cols g.room e.row e.col (subst (λ n. e.row < n) a k.0)
    (subst (λ n. e.col < n) b k.1) in
    subst (λ n. n < first_output g) q low
cells_in g room cols a b (e ∷ es) h s (inr i) = cells_in g room cols a b es (λ k d l. h (suc k) d (omega (arith, l))) s i

pub cells_low : (g : Grid) (b : Batch) → IsBatch b → GoesInto b g → (s : ℕ) → Member s (map (cell_slot g) b.edits) → s < first_output g
cells_low g b sound goes s i = cells_in g b.room b.cols goes.room goes.cols b.edits sound.inside s i

-- the number of rows
pub rows_same : (n k s : ℕ) → n ≡ k → [] ≡ when (not (n == k)) s
rows_same n k s e = rw (eq-eqb n k e) refl

pub rows_other : (n k s : ℕ) → (n ≡ k → ⊥) → s ∷ [] ≡ when (not (n == k)) s
rows_other n k s d = rw (ne_eqb n k d) refl

-- all slots that change
pub changed_is : (g h : Grid) (outs rows : ℕ) (b net : Batch) → net ≡ batch_net g b → h ≡ put_all net g → rows ≡ g.rows
    → map (cell_slot g) net.edits ++ when (not (h.rows == rows)) (first_output h + outs) ≡ changed g outs b
changed_is g h outs rows b net is put same =
    let first = first_put net g h put in
    let now = ap (λ (z : Grid). z.rows) put ∙ ap (λ (z : Batch). z.rows) is in
    ap (λ (z : Batch). map (cell_slot g) z.edits ++ when (not (h.rows == rows)) (first_output h + outs)) is
    ∙ ap (λ z. map (cell_slot g) (batch_net g b).edits ++ when (not (z == rows)) (first_output h + outs)) now
    ∙ ap (λ z. map (cell_slot g) (batch_net g b).edits ++ when (not (b.rows == z)) (first_output h + outs)) same
    ∙ ap (λ z. map (cell_slot g) (batch_net g b).edits ++ when (not (b.rows == g.rows)) (z + outs)) first
