-- The outputs of a record of main's body.
use Rattle.std.proofs.Common.{◌≡◌, ℕ, suc, zero, ◌+◌, ◌<◌, ◌==◌, ◌&&◌, Bool, true, false, not, List, [], ◌∷◌, ◌++◌, length, Option, Some, None, slice_get, refl, ap, sym, ◌∙◌, subst}
use Rattle.std.specs.Prelude.{option_map, unwrap_or}
use Rattle.psac_ops.specs.declared.plain.Handle.{Handle}
use Rattle.psac_ops.specs.declared.plain.Plain.{Plain}
use Rattle.psac_ops.specs.Value.{Value, nil, bool, int, text, ref, pair}
use Rattle.psac_ops.specs.Named.{value_of, same_handle}
use Rattle.psac_values.specs.declared.view.ValueView.{ValueView}
use Rattle.psac_inputs.specs.Grid.{Grid, IsGrid}
use Rattle.psac_model.specs.declared.ends.Shown.TheVariants as shown
use Rattle.psac_model.specs.declared.ends.End.{End}
use Rattle.psac_model.specs.Names.{Name, Out, bound, held, same_name}
use Rattle.psac_model.specs.Series.{has}
use Rattle.psac_model.specs.Fresh.{World, fresh}
use Rattle.psac_model.specs.Outputs.{shown_of}
use Rattle.psac_naming.specs.Alike.{Alike, Both}
use Rattle.psac_naming.specs.Naming.{IsNamed}
use Rattle.psac_naming.proofs.Namings.{named_left, tests_names}
use Rattle.psac_laws.specs.Standing.{distinct}
use Rattle.psac_laws.proofs.Opening.{IsChecked}
use Rattle.psac_laws.proofs.Places.{none_some, some_is, nat_same, not_both}
use Rattle.psac_laws.proofs.Rules.{or_left, or_right, not_is}
use Rattle.psac_plain.specs.Opened.{at_slot, first_output, output_env}
use Rattle.psac_plain.proofs.Linked.{handles_told}
use Rattle.psac_plain.proofs.Lists.{get_here}
use Rattle.psac_traced.specs.Rec.{Rec, held_by, writes}
use Rattle.psac_traced.specs.Serial.{Serial}
use Rattle.psac_traced.specs.Places.{names}
use Rattle.psac_traced.proofs.Alike.{held_alike}
use Rattle.psac_trace.specs.Rights.{In}
use Rattle.psac_trace.proofs.Heaps.{held_front}
use Rattle.psac_stage.specs.Places.{base_heap, heap_of}
use Rattle.psac_stage.specs.Holding.{value_in}
use Rattle.psac_engine.specs.Outputs.{plain_shown, HasOutputs}
use Rattle.psac_engine.specs.Running.{HasHeap}
use Rattle.psac_stage.proofs.Starts.{start, named_place, held_is}
use Rattle.psac_engine.proofs.Shows.{all_named}
use Rattle.psac_stage.proofs.Readies.{outputs_stand}

-- a name that stands in a list
has_at : (ds : List ℕ) (i x : ℕ) → slice_get ds i ≡ Some x → has x ds ≡ true
has_at [] i x h = absurd (none_some h)
has_at (d ∷ ds) zero x h = or_left (d == x) (has x ds) (subst (λ z. (d == z) ≡ true) (some_is h) (nat_same d))
has_at (d ∷ ds) (suc i) x h = or_right (d == x) (has x ds) (has_at ds i x h)

and_both : (a b : Bool) → (a && b) ≡ true → (a ≡ true) × (b ≡ true)
and_both true b h = (refl, h)
and_both false b h = absurd cc

-- distinct names stand at one place each
one_place : (ds : List ℕ) (i j x : ℕ) → distinct ds ≡ true → slice_get ds i ≡ Some x → slice_get ds j ≡ Some x → i ≡ j
one_place [] i j x d h k = absurd (none_some h)
one_place (y ∷ ds) zero zero x d h k = refl
one_place (y ∷ ds) zero (suc j) x d h k =
    let a = and_both (not (has y ds)) (distinct ds) d in
    absurd (not_both (has_at ds j y (k ∙ sym h)) (not_is (has y ds) a.0))
one_place (y ∷ ds) (suc i) zero x d h k =
    let a = and_both (not (has y ds)) (distinct ds) d in
    absurd (not_both (has_at ds i y (h ∙ sym k)) (not_is (has y ds) a.0))
one_place (y ∷ ds) (suc i) (suc j) x d h k =
    let a = and_both (not (has y ds)) (distinct ds) d in
    ap suc (one_place ds i j x a.1 h k)

shown_alike : (T : Handle → Name → Type 0) (v : Value Handle) (u : Value Name) → Alike T v u → shown_of v ≡ shown_of u
shown_alike T nil nil h = refl
shown_alike T (bool a) (bool b) h = ap shown.Bool h
shown_alike T (int a) (int b) h = ap shown.Int h
shown_alike T (text i k) (text j l) h = ap (λ z. shown.Text (record { id = z; len = k })) h.0 ∙ ap (λ z. shown.Text (record { id = j; len = z })) h.1
shown_alike T (ref m) (ref n) h = refl
shown_alike T (pair k l) (pair m n) h = refl
shown_alike T _ _ h = absurd h

shown_by : (T : Handle → Name → Type 0) (y : Value Handle) (o : Option (Value Name)) → Both (Alike T) (Some y) o → shown_of y ≡ unwrap_or (option_map shown_of o) shown.Nil
shown_by T y None h = absurd h
shown_by T y (Some u) h = shown_alike T y u h

shown_plain : (o : Option Plain) (y : Value Handle) → option_map value_of o ≡ Some y → option_map plain_shown o ≡ Some (shown_of y)
shown_plain None y h = absurd (none_some h)
shown_plain (Some x) y h = ap (λ z. Some (shown_of z)) (some_is h)

module _ (w : World) (g : Grid) (ok : IsGrid g) (checked : IsChecked w) where
  abbrev ds : List ℕ
  ds = w.main.dests

  dests_distinct : distinct ds ≡ true
  dests_distinct = subst (λ vs. distinct (vs ++ ds) ≡ true) checked.bare checked.start.header

  -- each output is a target of main's body
  pub output_bound : (i : ℕ) → i < length ds → (x : ℕ) × (has x ds ≡ true) × (bound x (output_env (first_output g) ds []) ≡ Some (ref (at_slot (first_output g + i))))
  output_bound i low =
      let e = get_here ds i low in
      let h = has_at ds i e.0 e.1 in
      let s = outputs_stand (first_output g) ds [] e.0 h in
      let same : s.0 ≡ i = one_place ds s.0 i e.0 dests_distinct s.2 e.1 in
      (e.0, h, s.1 ∙ ap (λ k. Some (ref (at_slot (first_output g + k)))) same)

  pub has_outputs : (r : Rec Handle) (end : End) (v : ValueView) → Serial (all_named w g ok r) r (base_heap g ds) end (fresh w g) → ((i : ℕ) → i < length ds → In (writes r) (at_slot (first_output g + i))) → HasHeap w g r v → HasOutputs w g v
  has_outputs r end v s written heap =
      record {
        each = λ i low.
            let m = at_slot (first_output g + i) in
            let T = IsNamed (all_named w g ok r) in
            let y = written i low in
            let here : held_by same_handle (heap_of g ds r) m ≡ Some y.0 = held_front (writes r) (base_heap g ds) m y.0 y.1 in
            let named : T m (Out i) = named_left (start g ds ok) (names [] r) m (Out i) (named_place g ds ok (Out i) low) in
            let both = held_alike T same_handle same_name (tests_names (all_named w g ok r) same_handle same_name s.one handles_told refl) (heap_of g ds r) (fresh w g).heap m (Out i) s.heaps named in
            let at : Both (Alike T) (Some y.0) (held (fresh w g).heap (Out i)) =
            subst (Both (Alike T) (Some y.0)) (held_is (fresh w g).heap (Out i)) (subst (λ o. Both (Alike T) o (held_by same_name (fresh w g).heap (Out i))) here both) in
            shown_plain (value_in m.slot v.mine) y.0 (heap.words m y.0 here) ∙ ap Some (shown_by T y.0 (held (fresh w g).heap (Out i)) at);
      }
