-- What is shown of fixed slots, and of the run that is kept.
use Rattle.std.proofs.Common.{◌≡◌, ℕ, suc, zero, ◌+◌, ◌<◌, List, [], ◌∷◌, ◌++◌, map, length, Option, Some, None, IsSome, is_some, true, false, not, Bool, refl, ap, sym, ◌∙◌, subst, inl, arith}
use Rattle.std.specs.Prelude.{option_map, option_and_then}
use Rattle.std.proofs.lemmas.List.{map-append}
use Rattle.std.proofs.Math.Logic.{∥∥₁_elim}
use Rattle.std.specs.Coded.{Coded-set, coded_ℕ}
use Rattle.psac_ops.specs.declared.plain.Plain.{Plain}
use Rattle.psac_ops.specs.Words.{of_words}
use Rattle.psac_slots.specs.Handles.{Member}
use Rattle.psac_values.specs.declared.view.OwnedView.{OwnedView}
use Rattle.psac_values.specs.declared.view.ValueView.{ValueView}
use Rattle.psac_values.specs.Knowing.{Knows}
use Rattle.psac_values.specs.Steps.{looked}
use Rattle.psac_readers.specs.declared.view.ReadersView.{ReadersView}
use Rattle.psac_marks.specs.declared.view.MarksView.{MarksView}
use Rattle.psac_inputs.specs.Grid.{Grid}
use Rattle.psac_model.specs.declared.ends.Caps.{Caps}
use Rattle.psac_model.specs.declared.ends.Shown.{Shown}
use Rattle.psac_model.specs.declared.ends.Size.{Size}
use Rattle.psac_model.specs.Names.{Name, Heap}
use Rattle.psac_model.specs.Tree.{size_of}
use Rattle.psac_model.specs.Plain.{capped}
use Rattle.psac_model.specs.Run.{Ran}
use Rattle.psac_model.specs.Fresh.{World, fresh}
use Rattle.psac_model.specs.Outputs.{output_shown, outputs_from}
use Rattle.psac_laws.proofs.Places.{some_is, none_some}
use Rattle.psac_plain.specs.Opened.{at_slot, first_output}
use Rattle.psac_trace.proofs.Heaps.{handle_by}
use Rattle.psac_traced.specs.Rec.{Rec, tree_of}
use Rattle.psac_traced.proofs.Sizes.{size_named}
use Rattle.psac_record.specs.declared.record.Record.{Record}
use Rattle.psac_record.specs.Kept.{counts}
use Rattle.psac_record.specs.Shown.{kept_of, rec_of}
use Rattle.psac_engine.specs.Commit.{IsCaps}
use Rattle.psac_engine.specs.Sound.{fresh_over}
use Rattle.psac_ops.specs.declared.plain.Handle.{Handle}
use Rattle.psac_stage.specs.Places.{fixed_slots, name_of}
use Rattle.psac_stage.specs.Holding.{words_in, all_known, value_in, HasFixed}
use Rattle.psac_stage.specs.Resting.{AllOf, IsRewound}
use Rattle.psac_engine.specs.Running.{Shows}
use Rattle.psac_engine.specs.Outputs.{plain_shown, HasOutputs}
use Rattle.psac_engine.specs.Showing.{shown_at, shown_from, HaveValues, OnlyLooked}
use Rattle.psac_stage.proofs.Holding.{then_is, known_is, words_member}
use Rattle.psac_engine.proofs.Uncapped.{uncapped}
use mathlib.Core.Logic.{∥∥₁_map}
use Rattle.std.specs.Option.{ForSome}
use Rattle.psac_record.specs.Kept.{Kept}
use Rattle.psac_record.specs.Shown.{kept_of}
use Rattle.psac_stage.specs.Recorded.{HasMade, Recorded}

-- a fixed slot

-- the pass knows the slot's words, and they are those of a value
pub record Slot (s : ℕ) (v : ValueView) : Type 0 where
  pub words : List ℕ
  pub value : Plain
  pub known : Knows v (at_slot s) words
  pub is : of_words words ≡ Some value
  pub shown : shown_at s v ≡ Some (plain_shown value)

pub slot_known : (n s : ℕ) (v : ValueView) → HasFixed n v → s < n → IsSome (shown_at s v) → Slot s v
slot_known n s v f low some = by_value (value_in s v.mine) refl some
  where
    one : (o : OwnedView) → Member o v.mine → o.of.slot ≡ s → o.of ≡ at_slot s
    one o i e = handle_by o.of (at_slot s) e (f.first o i (omega (arith, e, low)))

    by_value : (o : Option Plain) → value_in s v.mine ≡ o → IsSome (option_map plain_shown o) → Slot s v
    by_value None e h = absurd cc
    by_value (Some x) e h =
        let a = then_is of_words (option_and_then all_known (words_in s v.mine)) x e in
        let b = then_is all_known (words_in s v.mine) a.0 a.1 in
        let c = words_member s v.mine b.0 b.1 in
        record {
          words = a.0;
          value = x;
          known = inl (c.0, c.1, one c.0 c.1 c.2, c.3 ∙ known_is b.0 a.0 b.2);
          is = a.2;
          shown = ap (option_map plain_shown) e;
        }

-- what was read and shown
pub slot_shown : (s : ℕ) (v : ValueView) (slot : Slot s v) (ws : List ℕ) (read : Option Plain) (x : Plain) (told : Shown) → ws ≡ slot.words → read ≡ of_words ws → Some x ≡ read → told ≡ plain_shown x → shown_at s v ≡ Some told
slot_shown s v slot ws read x told words is some shows =
    let same : Some x ≡ Some slot.value = some ∙ is ∙ ap of_words words ∙ slot.is in
    slot.shown ∙ ap (λ z. Some (plain_shown z)) (sym (some_is same)) ∙ ap Some (sym shows)

pub slot_some : (s : ℕ) (v : ValueView) (slot : Slot s v) (ws : List ℕ) (read : Option Plain) → ws ≡ slot.words → read ≡ of_words ws → read ≡ None → ⊥
slot_some s v slot ws read words is none = none_some (sym none ∙ is ∙ ap of_words words ∙ slot.is)

-- several slots

pub shown_more : (s n : ℕ) (v : ValueView) → shown_from s (suc n) v ≡ shown_from s n v ++ shown_at (s + n) v ∷ []
shown_more s zero v = let e : s ≡ s + 0 = omega arith in ap (λ k. shown_at k v ∷ []) e
shown_more s (suc n) v =
    let e : suc s + n ≡ s + suc n = omega arith in
    ap (λ xs. shown_at s v ∷ xs) (shown_more (suc s) n v) ∙ ap (λ k. shown_at s v ∷ (shown_from (suc s) n v ++ shown_at k v ∷ [])) e

pub looked_since : (v u w : ValueView) → OnlyLooked v u → w ≡ looked u → OnlyLooked v w
looked_since v u w only e = e ∙ ap looked only ∙ ap (λ n. record v { looks = n }) (sym (ap (λ (z : ValueView). z.looks) e))

-- a step that only looks leaves what is shown
shown_looked : (s : ℕ) (v u : ValueView) → OnlyLooked v u → shown_at s u ≡ shown_at s v
shown_looked s v u only = ap (λ (z : ValueView). shown_at s z) only

pub shown_next : (first i : ℕ) (v u : ValueView) (told more : List Shown) (x : Shown) → OnlyLooked v u → map (λ y. Some y) told ≡ shown_from first i v → more ≡ told ++ x ∷ [] → shown_at (first + i) u ≡ Some x → map (λ y. Some y) more ≡ shown_from first (suc i) v
shown_next first i v u told more x only before is shows =
    ap (map (λ y. Some y)) is ∙ map-append (λ y. Some y) told (x ∷ []) ∙ ap (λ xs. xs ++ Some x ∷ []) before
    ∙ ap (λ z. shown_from first i v ++ z ∷ []) (sym shows ∙ shown_looked (first + i) v u only) ∙ sym (shown_more first i v)

pub value_looked : (s : ℕ) (v u : ValueView) → OnlyLooked v u → IsSome (shown_at s v) → IsSome (shown_at s u)
value_looked s v u only some = subst (λ o. IsSome o) (sym (shown_looked s v u only)) some

fixed_looks : (n k : ℕ) (v : ValueView) → HasFixed n v → HasFixed n (record v { looks = k })
fixed_looks n k v f = record { fixed_is = f.fixed_is; once = f.once; first = f.first; alone = f.alone }

pub fixed_looked : (n : ℕ) (v u : ValueView) → OnlyLooked v u → HasFixed n v → HasFixed n u
fixed_looked n v u only f = subst (HasFixed n) (sym only) (fixed_looks n u.looks v f)

all_looks : (k : ℕ) (g : Grid) (outs : ℕ) (caps : Caps) (age : ℕ) (v : ValueView) (r : ReadersView) (m : MarksView) → AllOf g outs caps age v r m → AllOf g outs caps age (record v { looks = k }) r m
all_looks k g outs caps age v r m a =
    record {
      mods = a.mods;
      links = a.links;
      nodes = a.nodes;
      young_mods = a.young_mods;
      young_nodes = a.young_nodes;
      fixed = fixed_looks (fixed_slots g outs) k v a.fixed;
      grid = record { cells = a.grid.cells; row_count = a.grid.row_count };
      sets = a.sets;
      alone = a.alone;
    }

pub all_looked : (g : Grid) (outs : ℕ) (caps : Caps) (age : ℕ) (v u : ValueView) (r : ReadersView) (m : MarksView) → OnlyLooked v u → AllOf g outs caps age v r m → AllOf g outs caps age u r m
all_looked g outs caps age v u r m only a = subst (λ z. AllOf g outs caps age z r m) (sym only) (all_looks u.looks g outs caps age v r m a)

pub outputs_looked : (w : World) (g : Grid) (v u : ValueView) → OnlyLooked v u → HasOutputs w g v → HasOutputs w g u
outputs_looked w g v u only h = subst (HasOutputs w g) (sym only) (record { each = h.each })

-- the run that is kept

pub have_outputs : (w : World) (g : Grid) (v : ValueView) (first many : ℕ) → HasOutputs w g v → first ≡ first_output g → many ≡ length w.main.dests → HaveValues first many v
have_outputs w g v first many h at is i low =
    let e : shown_at (first + i) v ≡ Some (output_shown (fresh w g).heap i) = ap (λ k. shown_at (k + i) v) at ∙ h.each i (subst (λ k. i < k) is low) in
    subst (λ o. IsSome o) (sym e) refl

shown_outputs : (v : ValueView) (heap : Heap) (s i : ℕ) (ds : List ℕ) → ((k : ℕ) → k < length ds → shown_at (s + k) v ≡ Some (output_shown heap (i + k))) → shown_from s (length ds) v ≡ map (λ x. Some x) (outputs_from heap i ds)
shown_outputs v heap s i [] h = refl
shown_outputs v heap s i (d ∷ ds) h =
    let a : s + 0 ≡ s = omega arith in
    let b : i + 0 ≡ i = omega arith in
    let here : shown_at s v ≡ Some (output_shown heap i) = ap (λ k. shown_at k v) (sym a) ∙ h 0 (omega arith) ∙ ap (λ k. Some (output_shown heap k)) b in
    let rest = shown_outputs v heap (suc s) (suc i) ds (λ k low.
    let p : suc s + k ≡ s + suc k = omega arith in
    let q : i + suc k ≡ suc i + k = omega arith in
    ap (λ j. shown_at j v) p ∙ h (suc k) (omega (arith, low)) ∙ ap (λ j. Some (output_shown heap j)) q) in
    ap (λ x. x ∷ shown_from (suc s) (length ds) v) here ∙ ap (λ xs. Some (output_shown heap i) ∷ xs) rest

head_is : {A : Type 0} {x y : A} {xs ys : List A} → x ∷ xs ≡ y ∷ ys → (x ≡ y) × (xs ≡ ys)
head_is e = (cc, cc)

all_some : (xs ys : List Shown) → map (λ x. Some x) xs ≡ map (λ x. Some x) ys → xs ≡ ys
all_some [] [] e = refl
all_some [] (y ∷ ys) e = absurd cc
all_some (x ∷ xs) [] e = absurd cc
all_some (x ∷ xs) (y ∷ ys) e =
    let h = head_is e in
    ap (λ z. z ∷ xs) (some_is h.0) ∙ ap (λ zs. y ∷ zs) (all_some xs ys h.1)

-- what is shown of the outputs is what the fresh run shows
pub outputs_told : (w : World) (g : Grid) (v : ValueView) (first many : ℕ) (told : List Shown) → HasOutputs w g v → first ≡ first_output g → many ≡ length w.main.dests → map (λ x. Some x) told ≡ shown_from first many v → told ≡ outputs_from (fresh w g).heap 0 w.main.dests
outputs_told w g v first many told h at is shows =
    all_some told (outputs_from (fresh w g).heap 0 w.main.dests)
    (shows ∙ ap (λ k. shown_from k many v) at ∙ ap (λ n. shown_from (first_output g) n v) is ∙ shown_outputs v (fresh w g).heap (first_output g) 0 w.main.dests (λ k low.
    let z : k ≡ 0 + k = omega arith in
    h.each k low ∙ ap (λ j. Some (output_shown (fresh w g).heap j)) z))

-- and so for the run that is kept
pub outputs_kept : (w : World) (g : Grid) (kept : Option Record) (told : List Shown) → is_some kept ≡ true → told ≡ outputs_from (fresh w g).heap 0 w.main.dests → Some told ≡ option_map (λ (r : Ran Name Heap). outputs_from r.heap 0 w.main.dests) (option_map (λ (k : Record). fresh w g) kept)
outputs_kept w g None told some is = absurd cc
outputs_kept w g (Some k) told some is = ap Some is

shows_size : (w : World) (g : Grid) (caps : Caps) (r : Rec Handle) → Shows w g caps r → size_of (tree_of r) ≡ size_of (fresh w g).tree
shows_size w g caps r s = sym (size_named (name_of g w.main.dests r) r) ∙ ap (λ (z : Ran Name Heap). size_of z.tree) s.run

size_by : (a b : Size) → a.s ≡ b.s → a.p ≡ b.p → a.r ≡ b.r → a.mods ≡ b.mods → a.links ≡ b.links → a ≡ b
size_by a b s p r m l =
    ap (λ x. let z : Size = record { s = x; p = a.p; r = a.r; mods = a.mods; links = a.links } in z) s
    ∙ ap (λ x. let z : Size = record { s = b.s; p = x; r = a.r; mods = a.mods; links = a.links } in z) p
    ∙ ap (λ x. let z : Size = record { s = b.s; p = b.p; r = x; mods = a.mods; links = a.links } in z) r
    ∙ ap (λ x. let z : Size = record { s = b.s; p = b.p; r = b.r; mods = x; links = a.links } in z) m
    ∙ ap (λ x. let z : Size = record { s = b.s; p = b.p; r = b.r; mods = b.mods; links = x } in z) l

-- the size of the record that is kept is the fresh run's
pub size_kept : (w : World) (g : Grid) (caps : Caps) (k : Record) (z : Size) → IsCaps caps → fresh_over w g caps ≡ [] → ∥ Shows w g caps (rec_of k) ∥₁ → z ≡ capped (counts (kept_of k)) → z ≡ size_of (fresh w g).tree
size_kept w g caps k z fit none shows is =
    let each : (f : Size → ℕ) → f (counts (kept_of k)) ≡ f (size_of (fresh w g).tree) = λ f. ∥∥₁_elim shows (Coded-set coded_ℕ _ _) (λ s. ap f (shows_size w g caps (rec_of k) s)) in
    let same = size_by (counts (kept_of k)) (size_of (fresh w g).tree) (each (λ a. a.s)) (each (λ a. a.p)) (each (λ a. a.r)) (each (λ a. a.mods)) (each (λ a. a.links)) in
    is ∙ ap capped same ∙ uncapped (size_of (fresh w g).tree) caps fit none

pub size_told : (w : World) (g : Grid) (kept : Option Record) (k : Record) (z : Size) → kept ≡ Some k → z ≡ size_of (fresh w g).tree → Some z ≡ option_map (λ (r : Ran Name Heap). size_of r.tree) (option_map (λ (x : Record). fresh w g) kept)
size_told w g None k z some is = absurd (none_some some)
size_told w g (Some x) k z some is = ap Some is

pub is_kept : (kept : Option Record) (none : Bool) → is_some kept ≡ not none → none ≡ false → is_some kept ≡ true
is_kept kept none some is = some ∙ ap not is

pub rewound_looked : (v u : ValueView) → OnlyLooked v u → IsRewound v.claims → IsRewound u.claims
rewound_looked v u only h = subst IsRewound (sym (ap (λ (z : ValueView). z.claims) only)) h

-- a record that is kept stands beside a pass that only looked
pub recorded_looked : (w : World) (g : Grid) (k : Kept) (v u : ValueView) (r : ReadersView) (m : MarksView) → OnlyLooked v u → Recorded w g k v r m → Recorded w g k u r m
recorded_looked w g k v u r m only h =
    record {
      left_it = h.left_it;
      fresh = h.fresh;
      values = subst (HasMade k) (sym only)
          (record { out = h.values.out; once = h.values.once; mine = h.values.mine; made = h.values.made; wrote = h.values.wrote; read = h.values.read });
      nodes = h.nodes;
      links = h.links;
    }

pub stands_looked : (w : World) (g : Grid) (kept : Option Record) (v u : ValueView) (r : ReadersView) (m : MarksView) → OnlyLooked v u → ForSome kept (λ (k : Record). ∥ Recorded w g (kept_of k) v r m ∥₁) → ForSome kept (λ (k : Record). ∥ Recorded w g (kept_of k) u r m ∥₁)
stands_looked w g kept v u r m only h = λ k is. ∥∥₁_map (h k is) (recorded_looked w g (kept_of k) v u r m only)
