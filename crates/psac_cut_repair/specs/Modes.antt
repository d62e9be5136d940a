-- What the tables told at the end of a repair, and what the model says of that commit. A repair that met a full table drew an index past its room, so
-- the old record and what it drew pass a cap; one that ended, well or at a fault, drew none, so they are within the caps.
use Rattle.std.specs.Prelude.{◌≡◌, ◌<◌, ℕ}
use Rattle.psac_inputs.specs.Grid.{Grid}
use Rattle.psac_model.specs.declared.ends.Caps.{Caps}
use Rattle.psac_model.specs.declared.ends.CapKind.{CapKind}
use Rattle.psac_model.specs.declared.ends.Work.{Work}
use Rattle.psac_model.specs.declared.ends.End.{End}
use Rattle.psac_model.specs.declared.ends.End.TheVariants.{Done}
use Rattle.psac_model.specs.Tree.{size_of, add_size}
use Rattle.psac_model.specs.Fresh.{World, fresh, outcome, ended}
use Rattle.psac_model.specs.Redo.{redo}
use Rattle.psac_model.specs.Work.{work_in, anew_work}
use Rattle.psac_traced.specs.Rec.{Rec, tree_of}
use Rattle.psac_traced.specs.Mending.{mended, work_of}
use Rattle.psac_cut.specs.Within.{IsWithin, count_of, cap_of}
use Rattle.psac_cut_repair.specs.Creates.{creates, mode_from, cut_drew}
use Rattle.psac_cut_repair.specs.Update.{Update, Repairs, CutsShort, IsNew, IsInCaps}

-- the work of a commit that finds the run on the first grid, by the model
abbrev pub work_from : World → Caps → Grid → Grid → Work
work_from w caps g h = work_in (mode_from w caps g h) (redo (fresh w g).tree (fresh w h).tree) (fresh w g).tree (fresh w h).tree

-- a repair that was cut short drew at most what the whole one creates
abbrev pub CutDrawsLess : Type 0 → Type 0
CutDrawsLess M =
    (w : World) (g h : Grid) (u : Update M w g h) (new : Rec M) (n : ℕ) → IsNew u new → CutsShort u new n → IsWithin (cut_drew u.setting.same u.old new n) (creates w g h)

-- where the old record and what it drew pass a cap, the model runs anew
abbrev pub FullRunsAnew : Type 0 → Type 0
FullRunsAnew M =
    (w : World) (g h : Grid) (u : Update M w g h) (new : Rec M) (n : ℕ) (caps : Caps) (kind : CapKind) → IsNew u new → CutsShort u new n → cap_of kind caps < count_of kind (add_size (size_of (tree_of u.old)) (cut_drew u.setting.same u.old new n)) → work_from w caps g h ≡ anew_work (size_of (fresh w h).tree)

-- where a repair is done, and the old record and what it made are within the caps, its work is that of the model
abbrev pub DoneRepairFits : Type 0 → Type 0
DoneRepairFits M =
    (w : World) (g h : Grid) (u : Update M w g h) (new : Rec M) (caps : Caps) → IsNew u new → Repairs u new Done → IsInCaps (add_size (size_of (tree_of u.old)) (mended u.setting.same u.old new).added) caps → work_from w caps g h ≡ work_of (mended u.setting.same u.old new)

-- and where it ended, well or at a fault, the fresh run isn't too large, and ends the same
abbrev pub EndedRepairFits : Type 0 → Type 0
EndedRepairFits M =
    (w : World) (g h : Grid) (u : Update M w g h) (new : Rec M) (end : End) (caps : Caps) → IsNew u new → Repairs u new end → IsInCaps (add_size (size_of (tree_of u.old)) (mended u.setting.same u.old new).added) caps → outcome w caps h ≡ ended end (fresh w h).tree (fresh w h).heap
