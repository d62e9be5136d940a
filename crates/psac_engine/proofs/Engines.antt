-- What an engine's invariant says of the run that it keeps.
use Rattle.std.proofs.Common.{◌≡◌, List, [], ◌∷◌, Option, Some, None, true, false, refl, sym, ◌∙◌, subst}
use Rattle.std.specs.Option.{ForSome}
use Rattle.psac_laws.proofs.Places.{some_is}
use Rattle.psac_inputs.specs.Grid.{Grid}
use Rattle.psac_model.specs.declared.ends.CapKind.{CapKind}
use Rattle.psac_model.specs.declared.ends.Caps.{Caps}
use Rattle.psac_model.specs.declared.ends.End.{End}
use Rattle.psac_model.specs.declared.ends.End.TheVariants.{Done, Stop}
use Rattle.psac_model.specs.Names.{Name, Heap}
use Rattle.psac_model.specs.Tree.{Tree}
use Rattle.psac_model.specs.Run.{Ran}
use Rattle.psac_model.specs.Fresh.{World, Good, fresh, outcome, judged, ended}
use Rattle.psac_engine.specs.Sound.{fresh_over}

pub for_some : {T : Type 0} (P : T → Type 0) (q : T) → P q → ForSome (Some q) P
for_some P q h x e = subst P (some_is e) h

none_is : {T : Type 0} (x : T) → None ≡ Some x → ⊥
none_is x e = cc

pub some_not : {P : Type 0} → true ≡ false → P
some_not e = absurd cc

pub for_none : {T : Type 0} (P : T → Type 0) (o : Option T) → o ≡ None → ForSome o P
for_none P o n x e = absurd (none_is x (sym n ∙ e))

ended_good : (end : End) (t u : Tree Name) (h k : Heap) → ended end t h ≡ Good u k → end ≡ Done
ended_good Done t u h k e = refl
ended_good (Stop why line) t u h k e = absurd cc

judged_good : (kinds : List CapKind) (r : Ran Name Heap) (u : Tree Name) (k : Heap) → judged kinds r ≡ Good u k → (kinds ≡ []) × (r.end ≡ Done)
judged_good [] r u k e = (refl, ended_good r.end r.tree u r.heap k e)
judged_good (x ∷ xs) r u k e = absurd cc

-- a good run has nothing too much, and is done
pub good_means : (w : World) (caps : Caps) (g : Grid) (u : Tree Name) (k : Heap) → outcome w caps g ≡ Good u k → (fresh_over w g caps ≡ []) × ((fresh w g).end ≡ Done)
good_means w caps g u k e = judged_good (fresh_over w g caps) (fresh w g) u k e
