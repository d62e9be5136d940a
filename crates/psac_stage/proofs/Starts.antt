-- The names of the inputs and outputs, and the heap of inputs over their places.
use Rattle.std.proofs.Common.{◌≡◌, ℕ, ◌+◌, if◌then◌else◌, List, [], ◌∷◌, ◌++◌, map, length, Some, refl, ap, sym, ◌∙◌, subst}
use Rattle.psac_ops.specs.declared.plain.Handle.{Handle}
use Rattle.psac_ops.specs.declared.plain.Plain.{Plain}
use Rattle.psac_ops.specs.declared.plain.Plain.TheVariants as plain
use Rattle.psac_ops.specs.Value.{Value}
use Rattle.psac_ops.specs.Named.{cell_value, renamed, same_handle}
use Rattle.psac_inputs.specs.Grid.{Grid, IsGrid}
use Rattle.psac_model.specs.Names.{Name, Input, Out, Rows, Made, Heap, held, same_name}
use Rattle.psac_model.specs.Fresh.{grid_heap}
use Rattle.psac_naming.specs.Alike.{Alike, AlikeRead, Both, Each}
use Rattle.psac_naming.specs.Naming.{Naming, IsNamed, IsOneToOne}
use Rattle.psac_naming.proofs.Namings.{tests_names}
use Rattle.psac_plain.proofs.Beginning as begin
use Rattle.psac_plain.proofs.Beginning.{named_by, begun, begin_linked}
use Rattle.psac_plain.proofs.Linked.{handles_told}
use Rattle.psac_traced.specs.Rec.{held_by}
use Rattle.psac_traced.specs.Renamed.{Heaps, reads_named}
use Rattle.psac_traced.proofs.Alike.{held_alike}
use Rattle.psac_stage.specs.Places.{place_of, opening, base_heap, out_names}
use Rattle.psac_stage.proofs.Entries.{AllIn, all_inputs, cell_inside}

pub held_is : (heap : Heap) (m : Name) → held_by same_name heap m ≡ held heap m
held_is [] m = refl
held_is (pair ∷ heap) m = ap (λ o. if same_name pair.0 m then Some pair.1 else o) (held_is heap m)

cell_alike : (T : Handle → Name → Type 0) (f : Name → Handle) (v : Plain) → Alike T (renamed f (cell_value v)) (cell_value v)
cell_alike T f plain.Nil = tt
cell_alike T f (plain.Bool b) = refl
cell_alike T f (plain.Int i) = refl
cell_alike T f (plain.Text t) = (refl, refl)
cell_alike T f (plain.Ref a) = tt
cell_alike T f (plain.Pair a b) = tt

each_named : (T : Handle → Name → Type 0) (f : Name → Handle) (heap : Heap) → AllIn (λ n y. T (f n) n × Alike T (renamed f y) y) heap → Each (AlikeRead T) (reads_named f heap) heap
each_named T f [] a = tt
each_named T f (p ∷ heap) a = (a.0, each_named T f heap a.1)

map_named : (f : Name → Handle) (ns : List Name) → map (λ n. (f n, n)) ns ≡ named_by f ns
map_named f [] = refl
map_named f (n ∷ ns) = ap (λ z. (f n, n) ∷ z) (map_named f ns)

outs_same : (k : ℕ) (ds : List ℕ) → out_names k ds ≡ begin.out_names k ds
outs_same k [] = refl
outs_same k (d ∷ ds) = ap (λ z. Out k ∷ z) (outs_same (k + 1) ds)

map_same : {A B : Type 0} (f g : A → B) (xs : List A) → ((x : A) → f x ≡ g x) → map f xs ≡ map g xs
map_same f g [] h = refl
map_same f g (x ∷ xs) h = ap (λ z. z ∷ map f xs) (h x) ∙ ap (λ z. g x ∷ z) (map_same f g xs h)

module _ (g : Grid) (ds : List ℕ) (ok : IsGrid g) where
  abbrev pub start : Naming Handle
  start = begun g ds ok

  abbrev pub place : Name → Handle
  place = place_of g (length ds)

  pub place_same : (n : Name) → place n ≡ begin.place_of g ds ok n
  place_same (Input r c) = refl
  place_same (Out i) = refl
  place_same Rows = refl
  place_same (Made p) = refl

  pub opening_is : opening g ds ≡ start
  opening_is =
      let ns = map (λ (pair : Name × Value Name). pair.0) (grid_heap g) in
      map_same (λ n. (place n, n)) (λ n. (begin.place_of g ds ok n, n)) (ns ++ out_names 0 ds) (λ n. ap (λ z. (z, n)) (place_same n))
      ∙ map_named (begin.place_of g ds ok) (ns ++ out_names 0 ds)
      ∙ ap (λ z. named_by (begin.place_of g ds ok) (ns ++ z)) (outs_same 0 ds)

  pub one : IsOneToOne start
  one = (begin_linked g ds ok).one

  pub named_place : (n : Name) → begin.IsOpen g ds ok n → IsNamed start (place n) n
  named_place n h = subst (λ m. IsNamed start m n) (sym (place_same n)) (begin.named_open g ds ok n h)

  pub start_heaps : Heaps (IsNamed start) (base_heap g ds) (grid_heap g)
  start_heaps =
      each_named (IsNamed start) place (grid_heap g)
      (all_inputs (λ n y. IsNamed start (place n) n × Alike (IsNamed start) (renamed place y) y) g
      (named_place Rows tt, refl)
      (λ r c x h.
      let i = cell_inside g ok r c x h in
      (named_place (Input r c) i, cell_alike (IsNamed start) place x)))

  pub start_both : (m : Handle) (n : Name) → IsNamed start m n → Both (Alike (IsNamed start)) (held_by same_handle (base_heap g ds) m) (held (grid_heap g) n)
  start_both m n i =
      subst (Both (Alike (IsNamed start)) (held_by same_handle (base_heap g ds) m)) (held_is (grid_heap g) n)
      (held_alike (IsNamed start) same_handle same_name (tests_names start same_handle same_name one handles_told refl) (base_heap g ds) (grid_heap g) m n start_heaps i)
