-- Which answers an outcome allows.
use Rattle.std.proofs.Common.{◌≡◌, ℕ, ◌≤◌, List, [], ◌∷◌, nat_lt, false, Contains, Option, Ok, Err, refl, arith}
use Rattle.std.proofs.lemmas.Bool.Decides.{nat_tests}
use Rattle.psac_inputs.specs.Grid.{Grid}
use Rattle.psac_model.specs.declared.ends.CapKind.{CapKind}
use Rattle.psac_model.specs.declared.ends.End.{End}
use Rattle.psac_model.specs.declared.ends.End.TheVariants.{Done, Stop}
use Rattle.psac_model.specs.declared.ends.FaultKind.{FaultKind}
use Rattle.psac_model.specs.declared.ends.Caps.{Caps}
use Rattle.psac_model.specs.declared.ends.Size.{Size}
use Rattle.psac_model.specs.declared.ends.Work.{Work}
use Rattle.psac_model.specs.Names.{Name, Heap}
use Rattle.psac_model.specs.Tree.{Tree, size_of}
use Rattle.psac_model.specs.Run.{Ran}
use Rattle.psac_model.specs.Fresh.{World, Outcome, Full, Fault, Good, fresh, outcome, judged, ended, over, nodes_of}
use Rattle.psac_engine.specs.declared.answer.Answer.TheVariants as answer
use Rattle.psac_engine.specs.Commit.{Answers, work_after}

-- a size within the caps
pub none_over : (z : Size) (caps : Caps) → nodes_of z ≤ caps.nodes → z.mods ≤ caps.mods → z.links ≤ caps.links → over z caps ≡ []
none_over z caps a b c =
    let n : nat_lt caps.nodes (nodes_of z) ≡ false = grind (arith, nat_tests) in
    let m : nat_lt caps.mods z.mods ≡ false = grind (arith, nat_tests) in
    let l : nat_lt caps.links z.links ≡ false = grind (arith, nat_tests) in
    rw (n, m, l) refl

module _ (caps : Caps) (old : Option (Ran Name Heap)) where
  done_answers : (end : End) (tree : Tree Name) (heap : Heap) (work : Work) → end ≡ Done → work ≡ work_after caps old tree → Answers caps old (ended end tree heap) (Ok work)
  done_answers Done tree heap work e is = is
  done_answers (Stop k n) tree heap work e is = absurd cc

  stop_answers : (end : End) (tree : Tree Name) (heap : Heap) (why : FaultKind) (line : ℕ) → end ≡ Stop why line → Answers caps old (ended end tree heap) (Err (answer.Fault why line))
  stop_answers Done tree heap why line e = absurd cc
  stop_answers (Stop k n) tree heap why line e = (cc, cc)

  good_by : (kinds : List CapKind) (r : Ran Name Heap) (work : Work) → kinds ≡ [] → r.end ≡ Done → work ≡ work_after caps old r.tree → Answers caps old (judged kinds r) (Ok work)
  good_by [] r work none e is = done_answers r.end r.tree r.heap work e is
  good_by (k ∷ ks) r work none e is = absurd cc

  fault_by : (kinds : List CapKind) (r : Ran Name Heap) (why : FaultKind) (line : ℕ) → kinds ≡ [] → r.end ≡ Stop why line → Answers caps old (judged kinds r) (Err (answer.Fault why line))
  fault_by [] r why line none e = stop_answers r.end r.tree r.heap why line e
  fault_by (k ∷ ks) r why line none e = absurd cc

  full_by : (kinds : List CapKind) (r : Ran Name Heap) (which : CapKind) → Contains kinds which → Answers caps old (judged kinds r) (Err (answer.Full which))
  full_by [] r which c = absurd (let low = c.1 in omega (arith, low))
  full_by (k ∷ ks) r which c = c

  module _ (w : World) (g : Grid) where
    pub good_answers : (work : Work) → over (size_of (fresh w g).tree) caps ≡ [] → (fresh w g).end ≡ Done → work ≡ work_after caps old (fresh w g).tree → Answers caps old (outcome w caps g) (Ok work)
    good_answers work none e is = good_by (over (size_of (fresh w g).tree) caps) (fresh w g) work none e is

    pub fault_answers : (why : FaultKind) (line : ℕ) → over (size_of (fresh w g).tree) caps ≡ [] → (fresh w g).end ≡ Stop why line → Answers caps old (outcome w caps g) (Err (answer.Fault why line))
    fault_answers why line none e = fault_by (over (size_of (fresh w g).tree) caps) (fresh w g) why line none e

    pub full_answers : (which : CapKind) → Contains (over (size_of (fresh w g).tree) caps) which → Answers caps old (outcome w caps g) (Err (answer.Full which))
    full_answers which c = full_by (over (size_of (fresh w g).tree) caps) (fresh w g) which c

  -- want of memory may always be answered
  pub wanting : (o : Outcome) → Answers caps old o (Err answer.NoMemory)
  wanting (Full which) = tt
  wanting (Fault why line) = tt
  wanting (Good tree heap) = tt
