-- The handles of an engine: what is told of them, and what becomes of them when the engine changes.
use Rattle.std.proofs.Common.{◌≡◌, ◌⊎◌, ◌+◌, ◌<◌, ℕ, Bool, true, false, List, [], ◌++◌, length, Option, Some, None, Ok, Err, refl, ap, sym, ◌∙◌, subst, inl, inr, arith}
use Rattle.std.specs.Prelude.{option_map, is_some}
use Rattle.psac_ops.specs.declared.plain.Handle.{Handle}
use Rattle.psac_ops.specs.declared.plain.Plain.{Plain}
use Rattle.psac_ops.specs.Named.{value_of}
use Rattle.psac_slots.specs.Claiming.{Accounted}
use Rattle.psac_values.specs.declared.view.ValueView.{ValueView}
use Rattle.psac_values.specs.Knowing.{IsLive}
use Rattle.psac_fork.specs.declared.tables.Pass.{Pass}
use Rattle.psac_inputs.specs.Grid.{Grid, IsGrid}
use Rattle.psac_inputs.specs.Batch.{Batch, put_all}
use Rattle.psac_model.specs.declared.ends.Mode.{Mode}
use Rattle.psac_model.specs.declared.ends.Mode.TheVariants.{Repair, Anew}
use Rattle.psac_model.specs.declared.ends.Work.{Work}
use Rattle.psac_model.specs.Names.{Path, Name, Input, Out, Rows, Made, Heap}
use Rattle.psac_model.specs.Run.{Ran}
use Rattle.psac_model.specs.Fresh.{World, fresh}
use Rattle.psac_model.specs.Redo.{redo, is_inside}
use Rattle.psac_naming.specs.Naming.{IsNamed}
use Rattle.psac_naming.proofs.Namings.{named_left, named_right, named_either}
use Rattle.psac_naming.proofs.Trees.{both_more}
use Rattle.psac_laws.proofs.Opening.{IsChecked}
use Rattle.psac_laws.proofs.Places.{some_is, not_both}
use Rattle.psac_plain.specs.Opened.{at_slot, first_output}
use Rattle.psac_plain.proofs.Beginning.{begin_unused}
use Rattle.psac_traced.specs.Places.{names}
use Rattle.psac_traced.proofs.Places.{names_made, names_under}
use Rattle.psac_record.specs.declared.record.Record.{Record}
use Rattle.psac_record.specs.Shown.{kept_of, rec_of}
use Rattle.psac_repair.specs.Going.{views}
use Rattle.psac_stage.specs.Places.{fixed_slots, opening}
use Rattle.psac_stage.specs.Holding.{HasFixed, HasGrid}
use Rattle.psac_stage.specs.Recorded.{LeftBy, HasMade}
use Rattle.psac_stage.proofs.Placed.{opened_kept, room_kept, cols_kept}
use Rattle.psac_stage.proofs.Starts.{start, opening_is, named_place}
use Rattle.psac_engine.specs.declared.answer.Answer.{Answer}
use Rattle.psac_engine.specs.declared.engine.Engine.{Engine}
use Rattle.psac_engine.specs.declared.held.Held.{Held}
use Rattle.psac_engine.specs.declared.held.Held.TheVariants as told
use Rattle.psac_engine.specs.Engine.{kept_in, world_in}
use Rattle.psac_engine.specs.Held.{made_names, names_in, Names, value_named, Tells, IsOutlived, Rises, Renews, drops_in, drops, GoesOn, is_made, HandlesGo, nothing_dropped}
use Rattle.psac_engine.specs.Looking.{KnownAs, Looks, is_open}
use Rattle.psac_engine.specs.Repaired.{Repaired}
use Rattle.psac_engine.specs.Showing.{OnlyLooked}
use Rattle.psac_engine.proofs.Handles.{Later, later_dead, later_goes, renewed_goes, fixed_same, repaired_goes}
use Rattle.psac_engine.proofs.Helds.{Keeping, all_names, live_of, name_of, known_live, IsTold, IsOut as IsOutput, unwritten}
use Rattle.psac_engine.proofs.Helds as helds
use Rattle.psac_engine.proofs.Kept.{record_out}
use Rattle.psac_engine.proofs.Rising.{rises_same}
use Rattle.psac_engine.proofs.Updates.{starts_same}

-- what an engine keeps, out of its invariant
pub kept_made : (e : Engine) (p : Pass) → e.pass ≡ Some p → (x : Record) → e.kept ≡ Some x
    → LeftBy (world_in e) e.grid (rec_of x) × HasMade (kept_of x) p.values.knows
kept_made e p at x is = let r = record_out (world_in e) e.grid (kept_of x) p (e.stands p at x is) in (r.left_it, r.values)

module _ (e : Engine) (p : Pass) (at : e.pass ≡ Some p) (ok : IsGrid e.grid) (checked : IsChecked (world_in e)) where
  abbrev w : World
  w = world_in e

  abbrev g : Grid
  g = e.grid

  abbrev outs : ℕ
  outs = length w.main.dests

  abbrev v : ValueView
  v = p.values.knows

  pub fixed : HasFixed (fixed_slots g outs) v
  fixed = (e.all p at).fixed

  pub grid : HasGrid g outs v
  grid = (e.all p at).grid

  pub whole : Accounted v.claims
  whole = (e.rested p at).mods.whole

  pub keeping : Keeping w g ok checked v fixed grid whole e.kept
  keeping = by e.kept refl
    where
      by : (o : Option Record) → e.kept ≡ o → Keeping w g ok checked v fixed grid whole o
      by None is = (e.cleared p at (ap is_some is)).mods
      by (Some x) is = kept_made e p at x is

  abbrev All : Handle → Name → Type 0
  All = IsNamed (all_names w g ok checked v fixed grid whole e.kept)

  pub named_all : (m : Handle) (n : Name) → Names e m n → All m n
  named_all m n i = subst (λ z. IsNamed (z ++ made_names e.kept) m n) (opening_is g w.main.dests ok) i

  all_named : (m : Handle) (n : Name) → All m n → Names e m n
  all_named m n i = subst (λ z. IsNamed (z ++ made_names e.kept) m n) (sym (opening_is g w.main.dests ok)) i

  abbrev shut : Handle → Bool
  shut m = is_open (is_some e.kept) (first_output g) outs m.slot

  pub known : (m : Handle) → IsLive m v → shut m ≡ false → (x : Plain) × KnownAs v m x
  known m l s = known_live w g ok checked v fixed grid whole e.kept keeping m l s

  tells_out : (n : Name) → IsOutput w g ok checked v fixed grid whole n → e.kept ≡ None → Tells e n told.Unwritten
  tells_out (Out i) h none = ap (option_map (λ (r : Record). fresh w g)) none
  tells_out (Input r c) h none = absurd h
  tells_out Rows h none = absurd h
  tells_out (Made q) h none = absurd h

  pub named : (m : Handle) (x : Held) → Looks (shut m) m v x → (n : Name) → Names e m n → Tells e n x
  named m (told.Value x) l n i =
      both_more All (Names e) all_named (Some (value_of x)) (value_named g (kept_in e) n)
      (helds.told w g ok checked v fixed grid whole e.kept keeping m n (named_all m n i) l.1 x l.2)
  named m told.Unwritten l n i =
      let u = unwritten w g ok checked v fixed grid whole e.kept m n (named_all m n i) l.1 in
      tells_out n u.1 u.0
  named m told.Stale l n i = absurd (l (live_of w g ok checked v fixed grid whole e.kept keeping m n (named_all m n i)))

  nameless : (m : Handle) → ((n : Name) → Names e m n → ⊥) → IsLive m v → ⊥
  nameless m none l =
      let n = name_of w g ok checked v fixed grid whole e.kept keeping m l in
      none n.0 (all_named m n.0 n.1)

  dead_stale : (m : Handle) (x : Held) → Looks (shut m) m v x → (IsLive m v → ⊥) → x ≡ told.Stale
  dead_stale m (told.Value x) l d = absurd (d l.0)
  dead_stale m told.Unwritten l d = absurd (d l.0)
  dead_stale m told.Stale l d = refl

  pub stale : (m : Handle) (x : Held) → Looks (shut m) m v x → ((n : Name) → Names e m n → ⊥) → x ≡ told.Stale
  stale m x l none = dead_stale m x l (nameless m none)

  outlived_later : (m : Handle) → IsOutlived e m → Later v m
  outlived_later m o =
      let same : o.pass ≡ p = some_is (sym o.had ∙ at) in
      subst (λ (z : Pass). Later z.values.knows m) same (o.of, o.made, o.later)

  pub outlived_dead : (m : Handle) → IsOutlived e m → IsLive m v → ⊥
  outlived_dead m o (inl l) =
      let x = outlived_later m o in
      let s : v.fixed + x.0.slot ≡ m.slot = ap (λ (z : Handle). z.slot) x.1 in
      let low = l.0 in
      omega (arith, s, low)
  outlived_dead m o (inr l) = later_dead v whole m (outlived_later m o) l.0 l.1 l.2

  pub outlived : (m : Handle) (x : Held) → Looks (shut m) m v x → IsOutlived e m → x ≡ told.Stale
  outlived m x l o = dead_stale m x l (outlived_dead m o)

-- the handle of an output
pub out_named : (e : Engine) (ok : IsGrid e.grid) (m : Handle) (i : ℕ) → i < length (world_in e).main.dests
    → m ≡ at_slot (first_output e.grid + i) → Names e m (Out i)
out_named e ok m i low is =
    let ds = (world_in e).main.dests in
    named_left (opening e.grid ds) (made_names e.kept) m (Out i)
    (subst (λ z. IsNamed z m (Out i)) (sym (opening_is e.grid ds ok))
    (subst (λ z. IsNamed (start e.grid ds ok) z (Out i)) (sym is) (named_place e.grid ds ok (Out i) low)))

-- from one engine to another one
module _ (e f : Engine) (p q : Pass) (at : e.pass ≡ Some p) (has : f.pass ≡ Some q) where
  later_outlived : (m : Handle) → Later q.values.knows m → IsOutlived f m
  later_outlived m l = record { pass = q; had = has; of = l.0; made = l.1; later = l.2 }

  outlived_goes : q.values.knows.fixed ≡ p.values.knows.fixed → Rises p.values.knows.claims q.values.knows.claims
      → (m : Handle) → IsOutlived e m → IsOutlived f m
  outlived_goes same rises m o =
      let is : o.pass ≡ p = some_is (sym o.had ∙ at) in
      later_outlived m (later_goes p.values.knows q.values.knows same rises m
      (subst (λ (z : Pass). Later z.values.knows m) is (o.of, o.made, o.later)))

  -- nothing but looks
  pub handles_looked : names_in f ≡ names_in e → OnlyLooked p.values.knows q.values.knows → HandlesGo e f nothing_dropped
  handles_looked same only =
      record {
        fixed = λ m n off i. subst (λ z. IsNamed z m n) (sym same) i;
        made = λ m path i. subst (λ z. IsNamed z m (Made path)) (sym same) i;
        outlived = outlived_goes (ap (λ (z : ValueView). z.fixed) only)
            (rises_same p.values.knows.claims q.values.knows.claims (ap (λ (z : ValueView). z.claims) only));
      }

  -- another grid of the same shape
  module _ (ok : IsGrid e.grid) (now : IsGrid f.grid) (opened : f.grid.opened ≡ e.grid.opened) (room : f.grid.room ≡ e.grid.room)
      (cols : f.grid.cols ≡ e.grid.cols) (world : world_in f ≡ world_in e)
      (fixed : HasFixed (fixed_slots e.grid (length (world_in e).main.dests)) p.values.knows)
      (fixed_now : HasFixed (fixed_slots f.grid (length (world_in e).main.dests)) q.values.knows)
      (whole : Accounted p.values.knows.claims) (whole_now : Accounted q.values.knows.claims)
      (rises : Rises p.values.knows.claims q.values.knows.claims) where
    abbrev over : World
    over = world_in e

    abbrev dests : List ℕ
    dests = over.main.dests

    openings_same : opening f.grid (world_in f).main.dests ≡ opening e.grid dests
    openings_same =
        ap (λ (z : World). opening f.grid z.main.dests) world ∙ opening_is f.grid dests now
        ∙ starts_same over e.grid f.grid ok now opened room cols ∙ sym (opening_is e.grid dests ok)

    slots_same : q.values.knows.fixed ≡ p.values.knows.fixed
    slots_same = fixed_now.fixed_is ∙ fixed_same over e.grid f.grid ok now opened room cols ∙ sym fixed.fixed_is

    -- what the old record made
    abbrev WasMade : Handle → Path → Type 0
    WasMade m path = (x : Record) × (e.kept ≡ Some x) × IsNamed (names [] (rec_of x)) m (Made path)

    was_made : (m : Handle) (path : Path) → Names e m (Made path) → WasMade m path
    was_made m path i = by e.kept refl (named_either (opening e.grid dests) (made_names e.kept) m (Made path) i)
      where
        by : (o : Option Record) → e.kept ≡ o → IsNamed (opening e.grid dests) m (Made path) ⊎ IsNamed (made_names o) m (Made path)
            → WasMade m path
        by o is (inl j) = absurd (begin_unused e.grid dests ok m path (subst (λ z. IsNamed z m (Made path)) (opening_is e.grid dests ok) j))
        by None is (inr j) = absurd j
        by (Some x) is (inr j) = (x, is, j)

    fixed_goes : (m : Handle) (n : Name) → is_made n ≡ false → Names e m n → Names f m n
    fixed_goes m n off i = by e.kept (named_either (opening e.grid dests) (made_names e.kept) m n i)
      where
        by : (o : Option Record) → IsNamed (opening e.grid dests) m n ⊎ IsNamed (made_names o) m n → Names f m n
        by o (inl j) =
            named_left (opening f.grid (world_in f).main.dests) (made_names f.kept) m n
            (subst (λ z. IsNamed z m n) (sym openings_same) j)
        by None (inr j) = absurd j
        by (Some x) (inr j) =
            let u = names_under [] (rec_of x) m n j in
            absurd (let yes : is_made n ≡ true = ap is_made u.1 in not_both yes off)

    -- all that was made went
    pub handles_gone : (drop : Path → Bool) → ((path : Path) → drop path ≡ true)
        → Renews p.values.knows.claims q.values.knows.claims → HandlesGo e f drop
    handles_gone drop all renews =
        record {
          fixed = fixed_goes;
          made = λ m path i.
              let x = was_made m path i in
              subst (λ b. GoesOn b f m path) (sym (all path))
              (later_outlived m (renewed_goes p.values.knows q.values.knows slots_same renews whole (kept_of x.0)
              (kept_made e p at x.0 x.1).1 m (names_made [] (rec_of x.0) m (Made path) x.2)));
          outlived = outlived_goes slots_same rises;
        }

    -- the record was repaired
    pub handles_repaired : (old new : Record) → e.kept ≡ Some old → f.kept ≡ Some new → LeftBy over f.grid (rec_of new)
        → HasMade (kept_of new) q.values.knows → Repaired over f.grid (kept_of old) (kept_of new) (views p) (views q)
        → (drop : Path → Bool) → ((path : Path) → drop path ≡ is_inside (redo (fresh over e.grid).tree (fresh over f.grid).tree) path)
        → HandlesGo e f drop
    handles_repaired old new kept keeps left_now made_now rep drop is =
        record {
          fixed = fixed_goes;
          made = λ m path i.
              let x = was_made m path i in
              let same : x.0 ≡ old = some_is (sym x.1 ∙ kept) in
              let a = kept_made e p at old kept in
              elim (repaired_goes over e.grid f.grid ok now opened room cols (kept_of old) (kept_of new) (views p) (views q) fixed fixed_now
              whole whole_now a.0 left_now a.1 made_now rep m path
              (subst (λ (z : Record). IsNamed (names [] (rec_of z)) m (Made path)) same x.2)) [
                | inl j ↦ subst (λ b. GoesOn b f m path) (sym (is path ∙ j.0))
                    (subst (λ (o : Option Record). IsNamed (opening f.grid (world_in f).main.dests ++ made_names o) m (Made path))
                    (sym keeps)
                    (named_right (opening f.grid (world_in f).main.dests) (names [] (rec_of new)) m (Made path) j.1))
                | inr j ↦ subst (λ b. GoesOn b f m path) (sym (is path ∙ j.0)) (later_outlived m j.1)
              ];
          outlived = outlived_goes slots_same rises;
        }

-- what is dropped

pub drops_error : (o n : Option (Ran Name Heap)) (a : Answer) (path : Path) → drops o n (Err a) path ≡ true
drops_error None n a path = refl
drops_error (Some x) None a path = refl
drops_error (Some x) (Some y) a path = refl

pub drops_anew : (o n : Option (Ran Name Heap)) (work : Work) → work.mode ≡ Anew → (path : Path) → drops o n (Ok work) path ≡ true
drops_anew None n work is path = refl
drops_anew (Some x) None work is path = refl
drops_anew (Some x) (Some y) work is path = ap (λ z. drops_in z (redo x.tree y.tree) path) is

pub drops_repair : (o n : Option (Ran Name Heap)) (x y : Ran Name Heap) (work : Work) → o ≡ Some x → n ≡ Some y → work.mode ≡ Repair
    → (path : Path) → drops o n (Ok work) path ≡ is_inside (redo x.tree y.tree) path
drops_repair o n x y work a b is path = rw (a, b, is) refl

pub mode_or : (m : Mode) → (m ≡ Repair) ⊎ (m ≡ Anew)
mode_or Repair = inl refl
mode_or Anew = inr refl

-- a batch leaves the shape of a grid
pub shape_kept : (g : Grid) (b : Batch) (h : Grid) → h ≡ put_all b g → (h.opened ≡ g.opened) × (h.room ≡ g.room) × (h.cols ≡ g.cols)
shape_kept g b h put = (
  ap (λ (z : Grid). z.opened) put ∙ opened_kept b.edits g,
  ap (λ (z : Grid). z.room) put ∙ room_kept b.edits g,
  ap (λ (z : Grid). z.cols) put ∙ cols_kept b.edits g,
)

-- the slot of an output, by numbers that are the engine's
pub open_same : (e : Engine) (kept : Bool) (first outs s : ℕ) → kept ≡ is_some e.kept → first ≡ first_output e.grid
    → outs ≡ length (world_in e).main.dests
    → is_open kept first outs s ≡ is_open (is_some e.kept) (first_output e.grid) (length (world_in e).main.dests) s
open_same e kept first outs s a b c =
    ap (λ z. is_open z first outs s) a ∙ ap (λ z. is_open (is_some e.kept) z outs s) b
    ∙ ap (λ z. is_open (is_some e.kept) (first_output e.grid) z s) c

pub handles_same : (e : Engine) → HandlesGo e e nothing_dropped
handles_same e = record { fixed = λ m n off i. i; made = λ m path i. i; outlived = λ m o. o }
