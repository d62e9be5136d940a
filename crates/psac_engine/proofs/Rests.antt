-- A repair that has nothing to do: its numbers in the model, and the record that it leaves.
use Rattle.std.proofs.Common.{◌≡◌, ℕ, ◌+◌, nat_le, nat_lt, Bool, true, false, if◌then◌else◌, [], ◌∷◌, ◌++◌, length, Some, refl, ap, sym, ◌∙◌, subst, arith}
use Rattle.std.specs.Prelude.{Option, option_map, is_some, Ok}
use Rattle.std.specs.Option.{ForSome}
use Rattle.std.proofs.lemmas.Bool.Decides.{nat_tests, Decides-int_eq}
use Rattle.psac_ops.specs.Table.{same_value, same_bool}
use Rattle.psac_ops.specs.Value.{Value, nil, bool, int, text, ref, pair}
use Rattle.psac_values.specs.Steps.{made_handle}
use Rattle.psac_fork.specs.declared.tables.Pass.{Pass}
use Rattle.psac_fork.specs.declared.tables.Tables.{Tables}
use Rattle.psac_inputs.specs.Grid.{Grid}
use Rattle.psac_model.specs.declared.ends.Caps.{Caps}
use Rattle.psac_model.specs.declared.ends.CapKind.TheVariants.{Nodes, Mods, Links}
use Rattle.psac_model.specs.declared.ends.End.TheVariants.{Done}
use Rattle.psac_model.specs.declared.ends.Mode.TheVariants.{Repair, Anew}
use Rattle.psac_model.specs.declared.ends.Size.{Size}
use Rattle.psac_model.specs.declared.ends.Work.{Work}
use Rattle.psac_model.specs.Names.{Path, Name, Input, Out, Rows, Made, same_name}
use Rattle.psac_model.specs.Tree.{Tree, E, A, W, S, P, R, Reads, size_of, no_size, add_size}
use Rattle.psac_model.specs.Fresh.{World, fresh, outcome, over, nodes_of, when, levels}
use Rattle.psac_model.specs.Redo.{names_inside, made_inside, reads_differ, redo_from, redo}
use Rattle.psac_model.specs.Work.{counted, inside, on_the_way, fits, mode_of, repair_work, work_in}
use Rattle.psac_laws.proofs.Places.{name_same, nat_same, some_is}
use Rattle.psac_plain.proofs.Linked.{handles_told}
use Rattle.psac_traced.specs.Bodies.{IsCode}
use Rattle.psac_traced.specs.Mended.{Mended}
use Rattle.psac_traced.proofs.Holds.{traced_holds}
use Rattle.psac_traced.proofs.Kept.{kept_mended}
use Rattle.psac_record.specs.declared.record.Record.{Record}
use Rattle.psac_record.specs.Kept.{nodes_in, made_of, all_of}
use Rattle.psac_record.specs.Shown.{kept_of, rec_of}
use Rattle.psac_repair.specs.Going.{views}
use Rattle.psac_repair.proofs.Replacing.{taken_same, replaced_kept}
use Rattle.psac_stage.specs.Places.{base_heap}
use Rattle.psac_stage.specs.Recorded.{setting_at, places_at}
use Rattle.psac_stage.proofs.Settles.{all_older}
use Rattle.psac_engine.specs.declared.answer.Answer.{Answer}
use Rattle.psac_engine.specs.Commit.{Answers, work_after, no_work}
use Rattle.psac_engine.specs.Mending.{Keeps, HasRunFrom}
use Rattle.psac_engine.specs.Repaired.{IsSpent, Aged, Repaired, RepairsTo}
use Rattle.psac_engine.proofs.Aging.{aged_none}
use Rattle.psac_engine.proofs.Outcomes.{good_answers}

bool_same : (b : Bool) → same_bool b b ≡ true
bool_same true = refl
bool_same false = refl

value_same : (v : Value Name) → same_value same_name v v ≡ true
value_same nil = refl
value_same (bool b) = bool_same b
value_same (int i) = (Decides-int_eq i i).1 refl
value_same (text a k) = rw (nat_same a) (nat_same k)
value_same (ref m) = name_same m
value_same (pair m n) = rw (name_same m) (name_same n)

-- where no block ran again, nothing was made inside one
made_none : (n : Name) → made_inside [] n ≡ false
made_none (Input r c) = refl
made_none (Out i) = refl
made_none Rows = refl
made_none (Made p) = refl

names_none : (v : Value Name) → names_inside [] v ≡ false
names_none nil = refl
names_none (bool b) = refl
names_none (int i) = refl
names_none (text a k) = refl
names_none (ref m) = made_none m
names_none (pair m n) = rw (made_none m) (made_none n)

reads_none : (rs : Reads Name) → reads_differ [] rs rs ≡ false
reads_none [] = refl
reads_none (r ∷ rs) = rw (value_same r.1, names_none r.1) (reads_none rs)

-- no block runs again between a tree and itself
redo_none : (p : Path) (t : Tree Name) → redo_from p t t [] ≡ []
redo_none p E = refl
redo_none p (A r) = redo_none (p ++ 3 ∷ []) r
redo_none p (W m v r) = redo_none (p ++ 3 ∷ []) r
redo_none p (S t r) = ap (redo_from (p ++ 1 ∷ []) r r) (redo_none (p ++ 0 ∷ []) t) ∙ redo_none (p ++ 1 ∷ []) r
redo_none p (P l r) = ap (redo_from (p ++ 1 ∷ []) r r) (redo_none (p ++ 0 ∷ []) l) ∙ redo_none (p ++ 1 ∷ []) r
redo_none p (R b e reads t) =
    ap (λ d. if d then p ∷ [] else redo_from (p ++ 2 ∷ []) t t []) (reads_none reads) ∙ redo_none (p ++ 2 ∷ []) t

counted_none : (p : Path) (t : Tree Name) → counted (λ q. false) p t ≡ no_size
counted_none p E = refl
counted_none p (A r) = ap (add_size no_size) (counted_none (p ++ 3 ∷ []) r)
counted_none p (W m v r) = counted_none (p ++ 3 ∷ []) r
counted_none p (S t r) =
    ap (λ z. add_size no_size (add_size z (counted (λ q. false) (p ++ 1 ∷ []) r))) (counted_none (p ++ 0 ∷ []) t)
    ∙ ap (λ z. add_size no_size (add_size no_size z)) (counted_none (p ++ 1 ∷ []) r)
counted_none p (P l r) =
    ap (λ z. add_size no_size (add_size z (counted (λ q. false) (p ++ 1 ∷ []) r))) (counted_none (p ++ 0 ∷ []) l)
    ∙ ap (λ z. add_size no_size (add_size no_size z)) (counted_none (p ++ 1 ∷ []) r)
counted_none p (R b e reads t) = ap (add_size no_size) (counted_none (p ++ 2 ∷ []) t)

-- nothing is too much where the list of it is empty
none_over : (a b c : Bool) → (when a Nodes ++ when b Mods ++ when c Links) ≡ [] → (a ≡ false) × (b ≡ false) × (c ≡ false)
none_over true b c e = absurd cc
none_over false true c e = absurd cc
none_over false false true e = absurd cc
none_over false false false e = (refl, refl, refl)

within : (z : Size) (caps : Caps) → over z caps ≡ [] → fits z no_size caps ≡ true
within z caps none =
    let few = none_over (nat_lt caps.nodes (nodes_of z)) (nat_lt caps.mods z.mods) (nat_lt caps.links z.links) none in
    let a = few.0 in
    let b = few.1 in
    let c = few.2 in
    let x : nat_le (nodes_of z + 0) caps.nodes ≡ true = grind (arith, nat_tests, a) in
    let y : nat_le (z.mods + 0) caps.mods ≡ true = grind (arith, nat_tests, b) in
    let l : nat_le (z.links + 0) caps.links ≡ true = grind (arith, nat_tests, c) in
    rw (x, y, l) refl

none_from : (t : Tree Name) (caps : Caps) → over (size_of t) caps ≡ []
    → work_in (mode_of caps (size_of t) (inside (redo t t) t)) (redo t t) t t ≡ no_work
unfolding redo
none_from t caps fit =
    let inner : inside [] t ≡ no_size = counted_none [] t in
    let way : on_the_way [] t ≡ no_size = counted_none [] t in
    ap (λ zs. work_in (mode_of caps (size_of t) (inside zs t)) zs t t) (redo_none [] t)
    ∙ ap (λ z. work_in (mode_of caps (size_of t) z) [] t t) inner
    ∙ ap (λ b. work_in (if b then Repair else Anew) [] t t) (within (size_of t) caps fit)
    ∙ ap (λ z. repair_work [] z (inside [] t) (inside [] t)) way
    ∙ ap (λ z. repair_work [] no_size z z) inner

-- the model's commit over the same grid is a repair of nothing
pub none_after : (w : World) (g : Grid) (caps : Caps) → over (size_of (fresh w g).tree) caps ≡ []
    → no_work ≡ work_after caps (Some (fresh w g)) (fresh w g).tree
none_after w g caps none = sym (none_from (fresh w g).tree caps none)

-- a record that is kept beside a pass at rest
module _ (w : World) (g : Grid) (caps : Caps) (age : ℕ) (t : Tables) (kept : Option Record) (p : Pass) (k : Keeps w g caps age t kept p)
    (r : Record) (is : kept ≡ Some r) where
  some : is_some kept ≡ true
  some = ap is_some is

  answers : (work : Work) → work ≡ no_work → Answers caps (option_map (fresh w) (option_map (λ (x : Record). g) kept)) (outcome w caps g) (Ok work)
  answers work none =
      subst (λ o. Answers caps (option_map (fresh w) (option_map (λ (x : Record). g) o)) (outcome w caps g) (Ok work)) (sym is)
      (good_answers caps (Some (fresh w g)) w g work (k.small some) (k.done some) (none ∙ none_after w g caps (k.small some)))

  -- the commit leaves all as it was
  pub rest_run : (work : Work) → work ≡ no_work → HasRunFrom w (option_map (λ (x : Record). g) kept) g caps (age + 1) p (Ok (work, r))
  rest_run work none =
      (all_older g (length w.main.dests) caps age p k.all, k.shows r is, k.recorded r is, k.outputs some, answers work none)

  rest_mended : Mended (setting_at w g) w.program.funcs (IsCode w.program.funcs w.main.body) (base_heap g w.main.dests) (rec_of r) (rec_of r) Done
  rest_mended =
      kept_mended (setting_at w g) handles_told w.program.funcs (IsCode w.program.funcs w.main.body) (base_heap g w.main.dests) (rec_of r)
      (traced_holds (setting_at w g) w.program.funcs levels w.main.body (places_at w g) (base_heap g w.main.dests) (rec_of r) Done
      (k.recorded r is).left_it)

  -- and the record is repaired from itself
  pub rest_repaired : Repaired w g (kept_of r) (kept_of r) (views p) (views p)
  rest_repaired =
      let o = kept_of r in
      record {
        mended = rest_mended;
        exchanged = (replaced_kept o).exchanged;
        nodes = subst (λ ks. Aged (λ n. n) (all_of nodes_in ks) p.marks.knows.claims p.marks.knows.claims) (sym (taken_same o))
            (aged_none (λ n. n) p.marks.knows.claims k.rested.nodes.whole);
        mods = subst (λ ks. Aged (made_handle p.values.knows.fixed) (all_of made_of ks) p.values.knows.claims p.values.knows.claims) (sym (taken_same o))
            (aged_none (made_handle p.values.knows.fixed) p.values.knows.claims k.rested.mods.whole);
      }

  rest_spent : (work : Work) → IsSpent work (kept_of r) (kept_of r) (views p) (views p)
  rest_spent work = record { looks = omega arith; asks = omega arith }

  pub rest_repairs : (work : Work) → ForSome kept (λ (x : Record). RepairsTo {E = Answer} w g (kept_of x) (views p) (views p) (Ok (work, r)))
  rest_repairs work x at = λ m. subst Told (some_is (sym is ∙ at)) (rest_repaired, rest_spent work)
    where
      Told : Record → Type 0
      Told y = Repaired w g (kept_of y) (kept_of r) (views p) (views p)
          × IsSpent work (kept_of y) (kept_of r) (views p) (views p)
