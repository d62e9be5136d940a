-- What the model says of the commit that a repair was made for.
use Rattle.std.proofs.Common.{◌≡◌, ◌≤◌, ◌<◌, ℕ, ◌+◌, Bool, true, false, ◌&&◌, nat_lt, nat_le, [], ◌++◌, refl, ap, sym, ◌∙◌, subst, arith}
use Rattle.std.proofs.lemmas.Bool.Decides.{nat_tests}
use Rattle.psac_inputs.specs.Grid.{Grid}
use Rattle.psac_model.specs.declared.ends.Size.{Size}
use Rattle.psac_model.specs.declared.ends.Caps.{Caps}
use Rattle.psac_model.specs.declared.ends.CapKind.{CapKind}
use Rattle.psac_model.specs.declared.ends.CapKind.TheVariants.{Nodes, Mods, Links}
use Rattle.psac_model.specs.declared.ends.End.{End}
use Rattle.psac_model.specs.declared.ends.End.TheVariants.{Done}
use Rattle.psac_model.specs.declared.ends.Work.{Work}
use Rattle.psac_model.specs.Tree.{size_of, add_size}
use Rattle.psac_model.specs.Fresh.{World, fresh, over, nodes_of, judged, ended, setting}
use Rattle.psac_model.specs.Redo.{redo}
use Rattle.psac_model.specs.Work.{fits, repair_of}
use Rattle.psac_laws.proofs.Checked.{is_checked}
use Rattle.psac_traced.specs.Bodies.{itself}
use Rattle.psac_traced.specs.Rec.{Rec, tree_of}
use Rattle.psac_traced.specs.Serial.{Serial}
use Rattle.psac_traced.specs.Places.{names}
use Rattle.psac_traced.specs.Mending.{mended, work_of}
use Rattle.psac_traced.proofs.Bodies.{code_closed}
use Rattle.psac_traced.proofs.Fresh.{fresh_traced, fresh_mended, fresh_repaired}
use Rattle.psac_traced.proofs.Serial.{serial_size}
use Rattle.psac_cut.specs.Within.{IsWithin, count_of, cap_of}
use Rattle.psac_cut_repair.specs.Creates.{creates, cut_drew}
use Rattle.psac_cut_repair.specs.Update.{Update, Code, Repairs, CutsShort, IsNew, IsInCaps}
use Rattle.psac_cut_repair.specs.Modes.{CutDrawsLess, FullRunsAnew, DoneRepairFits, EndedRepairFits}
use Rattle.psac_cut_repair.proofs.Fresh.{cut_within}
use Rattle.psac_cut_repair.proofs.Sizes.{mended_long}

off_two : (a c : Bool) → (a && false && c) ≡ false
off_two true c = refl
off_two false c = refl

off_three : (a b : Bool) → (a && b && false) ≡ false
off_three true true = refl
off_three true false = refl
off_three false b = refl

abbrev node_test : Size → Size → Caps → Bool
node_test old made caps = nat_le (nodes_of old + nodes_of made) caps.nodes

abbrev mod_test : Size → Size → Caps → Bool
mod_test old made caps = nat_le (old.mods + made.mods) caps.mods

abbrev link_test : Size → Size → Caps → Bool
link_test old made caps = nat_le (old.links + made.links) caps.links

-- what passes a cap with a part of it doesn't fit with the whole
too_large : (kind : CapKind) (old some made : Size) (caps : Caps) → IsWithin some made → cap_of kind caps < count_of kind (add_size old some) → fits old made caps ≡ false
too_large Nodes old some made caps h more =
    let n = h.nodes in
    let large : caps.nodes < nodes_of old + nodes_of made = omega arith in
    let t : node_test old made caps ≡ false = grind (arith, nat_tests, large) in
    rw t refl
too_large Mods old some made caps h more =
    let n = h.mods in
    let large : caps.mods < old.mods + made.mods = omega arith in
    let t : mod_test old made caps ≡ false = grind (arith, nat_tests, large) in
    ap (λ b. node_test old made caps && b && link_test old made caps) t ∙ off_two (node_test old made caps) (link_test old made caps)
too_large Links old some made caps h more =
    let n = h.links in
    let large : caps.links < old.links + made.links = omega arith in
    let t : link_test old made caps ≡ false = grind (arith, nat_tests, large) in
    ap (λ b. node_test old made caps && mod_test old made caps && b) t ∙ off_three (node_test old made caps) (mod_test old made caps)

small_enough : (old some made : Size) (caps : Caps) → nodes_of some ≡ nodes_of made → some.mods ≡ made.mods → some.links ≡ made.links → IsInCaps (add_size old some) caps → fits old made caps ≡ true
small_enough old some made caps a b c h =
    let x = h.nodes in
    let y = h.mods in
    let z = h.links in
    let nodes : nodes_of old + nodes_of made ≤ caps.nodes = omega arith in
    let mods : old.mods + made.mods ≤ caps.mods = omega arith in
    let links : old.links + made.links ≤ caps.links = omega arith in
    let i : node_test old made caps ≡ true = grind (arith, nat_tests, nodes) in
    let j : mod_test old made caps ≡ true = grind (arith, nat_tests, mods) in
    let k : link_test old made caps ≡ true = grind (arith, nat_tests, links) in
    rw (i, j, k) refl

none_over : (z most : Size) (caps : Caps) → IsWithin z most → IsInCaps most caps → over z caps ≡ []
none_over z most caps a b =
    let x = a.nodes in
    let y = a.mods in
    let v = a.links in
    let p = b.nodes in
    let q = b.mods in
    let r = b.links in
    let nodes : nodes_of z ≤ caps.nodes = omega arith in
    let mods : z.mods ≤ caps.mods = omega arith in
    let links : z.links ≤ caps.links = omega arith in
    let i : nat_lt caps.nodes (nodes_of z) ≡ false = grind (arith, nat_tests, nodes) in
    let j : nat_lt caps.mods z.mods ≡ false = grind (arith, nat_tests, mods) in
    let k : nat_lt caps.links z.links ≡ false = grind (arith, nat_tests, links) in
    rw (i, j, k) refl

module _ {M : Type 0} (w : World) (g h : Grid) (u : Update M w g h) where
  old_size : size_of (tree_of u.old) ≡ size_of (fresh w g).tree
  old_size =
      let is = fresh_traced w g u.setting u.same u.base u.one u.inputs u.unused u.env u.envs u.heap u.heaps u.old Done u.apart u.outside u.left_it in
      serial_size u.setting (setting w.texts g) u.same refl w.program.funcs (u.base ++ names [] u.old) u.old u.heap Done (fresh w g) is

  pub draws_less : (new : Rec M) (n : ℕ) → IsNew u new → CutsShort u new n → IsWithin (cut_drew u.setting.same u.old new n) (creates w g h)
  draws_less new n is cut =
      cut_within w g h u.whole u.even u.still (is_checked w u.rule u.main) u.setting u.same u.base u.one u.inputs u.unused u.env u.envs u.heap u.other u.heaps u.others (Code u) (code_closed w.program.funcs w.main.body) itself u.old u.apart u.outside u.left_it new n is.distinct is.anew cut

  stands : (new : Rec M) (end : End) → IsNew u new → Repairs u new end → Serial (u.base ++ names [] new) new u.other end (fresh w h)
  stands new end is m =
      fresh_mended w g u.setting u.same u.base u.one u.inputs u.unused u.env u.envs u.heap u.heaps h u.still u.other u.others (Code u) (code_closed w.program.funcs w.main.body) itself u.old new u.apart u.outside u.left_it is.distinct is.anew end m

  repairs : (new : Rec M) → IsNew u new → Repairs u new Done → work_of (mended u.setting.same u.old new) ≡ repair_of (redo (fresh w g).tree (fresh w h).tree) (fresh w g).tree (fresh w h).tree
  repairs new is m =
      (fresh_repaired w g u.setting u.same u.base u.one u.inputs u.unused u.env u.envs u.heap u.heaps h u.still u.other u.others (Code u) (code_closed w.program.funcs w.main.body) itself u.old new u.apart u.outside u.left_it is.distinct is.anew m).work

-- beside the whole repair of the same record
pub draws_less_than_whole : {M : Type 0} (w : World) (g h : Grid) (u : Update M w g h) (new whole : Rec M) (n : ℕ) → IsNew u new → CutsShort u new n → IsNew u whole → Repairs u whole Done → IsWithin (cut_drew u.setting.same u.old new n) (mended u.setting.same u.old whole).added
draws_less_than_whole w g h u new whole n is cut fresh_one m =
    let work = repairs w g h u whole fresh_one m in
    let less = draws_less w g h u new n is cut in
    record {
      nodes = subst (λ z. nodes_of (cut_drew u.setting.same u.old new n) ≤ z) (sym (ap (λ (k : Work). k.nodes) work)) less.nodes;
      mods = subst (λ z. (cut_drew u.setting.same u.old new n).mods ≤ z) (sym (ap (λ (k : Work). k.mods) work)) less.mods;
      links = subst (λ z. (cut_drew u.setting.same u.old new n).links ≤ z) (sym (ap (λ (k : Work). k.links) work)) less.links;
    }

pub cut_draws_less : {M : Type 0} → CutDrawsLess M
cut_draws_less w g h u new n is cut = draws_less w g h u new n is cut

pub full_runs_anew : {M : Type 0} → FullRunsAnew M
full_runs_anew w g h u new n caps kind is cut more =
    let within = draws_less w g h u new n is cut in
    let past = subst (λ z. cap_of kind caps < count_of kind (add_size z (cut_drew u.setting.same u.old new n))) (old_size w g h u) more in
    let off = too_large kind (size_of (fresh w g).tree) (cut_drew u.setting.same u.old new n) (creates w g h) caps within past in
    rw off refl

pub done_repair_fits : {M : Type 0} → DoneRepairFits M
done_repair_fits w g h u new caps is m room =
    let work = repairs w g h u new is m in
    let added = (mended u.setting.same u.old new).added in
    let small = subst (λ z. IsInCaps (add_size z added) caps) (old_size w g h u) room in
    let on = small_enough (size_of (fresh w g).tree) added (creates w g h) caps (ap (λ (k : Work). k.nodes) work) (ap (λ (k : Work). k.mods) work) (ap (λ (k : Work). k.links) work) small in
    rw on (sym work)

pub ended_repair_fits : {M : Type 0} → EndedRepairFits M
ended_repair_fits w g h u new end caps is m room =
    let there = stands w g h u new end is m in
    let size = serial_size u.setting (setting w.texts g) u.same refl w.program.funcs (u.base ++ names [] new) new u.other end (fresh w h) there in
    let long = mended_long u.setting u.same w.program.funcs (Code u) u.other u.old new end m in
    let none = none_over (size_of (tree_of new)) (add_size (size_of (tree_of u.old)) (mended u.setting.same u.old new).added) caps long room in
    ap (λ ks. judged ks (fresh w h)) (ap (λ z. over z caps) (sym size) ∙ none) ∙ ap (λ e. ended e (fresh w h).tree (fresh w h).heap) there.ends
