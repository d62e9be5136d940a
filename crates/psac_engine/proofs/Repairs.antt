-- A record over one grid, in a pass in which the words of another one were put: where it stands, and the model's commit.
use Rattle.std.proofs.Common.{◌≡◌, ℕ, ◌+◌, ◌≤◌, ◌<◌, List, [], map, length, Contains, refl, ap, subst, arith}
use Rattle.psac_ops.specs.declared.plain.Handle.{Handle}
use Rattle.psac_ops.specs.Named.{same_handle}
use Rattle.psac_slots.specs.Claiming.{Accounted}
use Rattle.psac_values.specs.declared.view.ValueView.{ValueView}
use Rattle.psac_fork.specs.declared.tables.Pass.{Pass}
use Rattle.psac_fork.specs.declared.tables.Tables.{Tables}
use Rattle.psac_inputs.specs.Grid.{Grid}
use Rattle.psac_model.specs.declared.ends.Caps.{Caps}
use Rattle.psac_model.specs.declared.ends.CapKind.{CapKind}
use Rattle.psac_model.specs.declared.ends.End.{End}
use Rattle.psac_model.specs.declared.ends.End.TheVariants.{Done}
use Rattle.psac_model.specs.Tree.{size_of, add_size}
use Rattle.psac_model.specs.Work.{anew_work}
use Rattle.psac_model.specs.Fresh.{World, fresh, outcome, ended, levels}
use Rattle.psac_laws.specs.Standing.{series_of, params}
use Rattle.psac_laws.proofs.Rules.{leaves}
use Rattle.psac_traced.specs.Bodies.{IsCode}
use Rattle.psac_traced.specs.Rec.{Rec}
use Rattle.psac_traced.specs.Places.{Makes}
use Rattle.psac_traced.specs.Mending.{mended, work_of}
use Rattle.psac_traced.specs.Mended.{Mended}
use Rattle.psac_traced.specs.Serial.{Serial}
use Rattle.psac_cut.specs.Within.{cap_of, count_of}
use Rattle.psac_cut_repair.specs.CutMended.{CutMended}
use Rattle.psac_cut_repair.specs.Creates.{cut_drew}
use Rattle.psac_cut_repair.specs.Modes.{work_from}
use Rattle.psac_cut_repair.specs.Update.{Update, IsNew, IsInCaps, Repairs, CutsShort}
use Rattle.psac_record.specs.Kept.{Kept, bare, counts}
use Rattle.psac_trace.specs.Laws.{NewMade}
use Rattle.psac_repair.specs.Laws.{Program}
use Rattle.psac_repair.specs.Stood.{Stood}
use Rattle.psac_repair.proofs.Steps.{made_owned, had_not_lacked}
use Rattle.psac_stage.specs.Places.{fixed_slots, base_heap, run_of}
use Rattle.psac_stage.specs.Recorded.{setting_at, places_at}
use Rattle.psac_engine.specs.Mending.{Staged}
use Rattle.psac_stage.proofs.Grown.{lacked_behind}
use Rattle.psac_stage.proofs.Apart.{makes_member}
use Rattle.psac_stage.proofs.Bounds.{made_high}
use Rattle.psac_stage.proofs.Grounds.{stood}
use Rattle.psac_engine.proofs.Shows.{all_named}
use Rattle.psac_engine.proofs.Updates.{first_same, ground_same, update, is_new, new_serial, new_shows, repaired_work, repaired_outcome, cut_work}

module _ (w : World) (g h : Grid) (caps : Caps) (age : ℕ) (t : Tables) (k : Kept) (p : Pass) (s : Staged w g h caps age t k p) where
  abbrev ds : List ℕ
  ds = w.main.dests

  abbrev old : Rec Handle
  old = bare k

  abbrev v : ValueView
  v = p.values.knows

  -- the program, as the repair sees it
  abbrev pub program : Program
  program = record { setting = setting_at w h; funcs = w.program.funcs; main = w.main.body; checked = s.checked.each; same = refl }

  fixed_is : fixed_slots h (length ds) ≡ fixed_slots g (length ds)
  fixed_is = ap (λ n. n + (length ds + 1)) (first_same w g h s.ok s.now s.opened s.room s.cols)

  -- what the old record made lies behind the inputs and outputs
  pub high : (m : Handle) → Makes old m → fixed_slots g (length ds) ≤ m.slot
  high m i =
      let whole = subst Accounted s.changes.same.claims s.rested.mods.whole in
      let a = made_high k s.before.values s.recorded.values whole m (makes_member old m i) in
      let e = s.had.fixed.fixed_is in
      omega (arith, a, e)

  abbrev pub updated : Update Handle w g h
  updated = update w g h s.ok s.now s.opened s.room s.cols s.rule s.main old s.mendable.once high s.recorded.left_it

  -- the old record stands over the present inputs
  pub placed : Stood (setting_at w h) w.program.funcs (IsCode w.program.funcs w.main.body) v old levels w.main.body (places_at w h)
      (base_heap g ds) (base_heap h ds) (params w.main) (leaves (map series_of w.main.body) (params w.main) [] s.checked.start.body).end
  placed = stood w g h s.opened s.room s.cols s.ok s.now s.checked s.before.values v s.had.fixed s.had.grid s.all.fixed s.all.grid old
      s.recorded.left_it high

  -- what a repair made is new to the model's commit
  pub made_new : (u : ValueView) (new : Rec Handle) → NewMade v u (mended same_handle old new).created → IsNew updated new
  made_new u new n =
      is_new w g h s.ok s.now s.opened s.room s.cols s.rule s.main old s.mendable.once high s.recorded.left_it new n.distinct far
      (λ m i j. had_not_lacked v m (made_owned v old s.mendable.owned m j) (n.lacked m i))
    where
      far : (m : Handle) → Contains (mended same_handle old new).created m → fixed_slots g (length ds) ≤ m.slot
      far m i = let b = lacked_behind (fixed_slots h (length ds)) v s.all.fixed m.slot (n.lacked m i) in omega (arith, b, fixed_is)

  -- by the numbers that main reads, both grids are the same
  abbrev same_numbers : setting_at w h ≡ setting_at w g
  same_numbers = ground_same w g h s.ok s.now s.opened s.room s.cols

  -- the new record comes of the old one over the present inputs, also where the repair was cut short
  abbrev pub Comes : Rec Handle → End → Type 0
  Comes new end = Mended (setting_at w h) w.program.funcs (IsCode w.program.funcs w.main.body) (base_heap h ds) old new end

  abbrev pub ComesCut : Rec Handle → ℕ → Type 0
  ComesCut new n = CutMended (setting_at w h) w.program.funcs (IsCode w.program.funcs w.main.body) (base_heap h ds) old new n

  -- the old record and what was made in its blocks
  abbrev pub Fits : Rec Handle → Type 0
  Fits new = IsInCaps (add_size (counts k) (mended same_handle old new).added) caps

  repairs_now : (new : Rec Handle) (end : End) → Comes new end → Repairs updated new end
  repairs_now new end m =
      subst (λ z. Mended z w.program.funcs (IsCode w.program.funcs w.main.body) (base_heap h ds) old new end) same_numbers m

  cuts_now : (new : Rec Handle) (n : ℕ) → ComesCut new n → CutsShort updated new n
  cuts_now new n m =
      subst (λ z. CutMended z w.program.funcs (IsCode w.program.funcs w.main.body) (base_heap h ds) old new n) same_numbers m

  -- what the model says of the commit
  module _ (new : Rec Handle) (is : IsNew updated new) where
    pub outcome_now : (end : End) → Comes new end → Fits new → outcome w caps h ≡ ended end (fresh w h).tree (fresh w h).heap
    outcome_now end m within =
        repaired_outcome w g h s.ok s.now s.opened s.room s.cols s.rule s.main old s.mendable.once high s.recorded.left_it new is caps end
        (repairs_now new end m) within

    pub cut_now : (n : ℕ) (kind : CapKind) → ComesCut new n
        → cap_of kind caps < count_of kind (add_size (counts k) (cut_drew same_handle old new n))
        → work_from w caps g h ≡ anew_work (size_of (fresh w h).tree)
    cut_now n kind m more =
        cut_work w g h s.ok s.now s.opened s.room s.cols s.rule s.main old s.mendable.once high s.recorded.left_it new is caps n kind
        (cuts_now new n m) more

    module _ (m : Comes new Done) where
      pub shows_now : run_of h ds new ≡ fresh w h
      shows_now =
          new_shows w g h s.ok s.now s.opened s.room s.cols s.rule s.main old s.mendable.once high s.recorded.left_it new is
          (repairs_now new Done m)

      pub serial_now : Serial (all_named w h s.now new) new (base_heap h ds) Done (fresh w h)
      serial_now =
          new_serial w g h s.ok s.now s.opened s.room s.cols s.rule s.main old s.mendable.once high s.recorded.left_it new is Done
          (repairs_now new Done m)

      pub work_now : Fits new → work_from w caps g h ≡ work_of (mended same_handle old new)
      work_now within =
          repaired_work w g h s.ok s.now s.opened s.room s.cols s.rule s.main old s.mendable.once high s.recorded.left_it new is caps
          (repairs_now new Done m) within
