-- What the run over places leaves tells of the fresh run.
use Rattle.std.proofs.Common.{pos, append_assoc, length-append, IfSome, ◌≡◌, ℕ, suc, ◌+◌, ◌<◌, List, [], ◌∷◌, ◌++◌, length, Option, Some, None, slice_get, refl, ap, sym, ◌∙◌, subst, arith, add-zero, zero-add, option_map, unwrap_or}
use Rattle.std.proofs.lemmas.List.{length-map}
use Rattle.psac_ops.specs.declared.plain.Handle.{Handle}
use Rattle.psac_ops.specs.Value.{Value, nil, bool, int, text, ref, pair}
use Rattle.psac_inputs.specs.Grid.{Grid, IsGrid}
use Rattle.psac_model.specs.declared.ends.End.{End}
use Rattle.psac_model.specs.declared.ends.Size.{Size}
use Rattle.psac_model.specs.declared.ends.Shown.{Shown}
use Rattle.psac_model.specs.declared.ends.Shown.TheVariants as shown
use Rattle.psac_model.specs.Expression.{Setting}
use Rattle.psac_model.specs.Names.{Env, Name, Out, Heap, held}
use Rattle.psac_model.specs.Tree.{add_size, no_size}
use Rattle.psac_model.specs.Run.{run}
use Rattle.psac_syntax.specs.declared.program.Func.{Func}
use Rattle.psac_syntax.specs.declared.program.Program.{Program}
use Rattle.psac_ops.specs.declared.plain.TextId.{TextId}
use Rattle.psac_ops.specs.declared.plain.Plain.{Plain}
use Rattle.psac_syntax.specs.declared.program.Stmt.{Stmt}
use Rattle.psac_plain.specs.declared.begin.Begun.{Begun}
use Rattle.psac_plain.specs.Begins.{Begins}
use Rattle.psac_model.specs.Fresh.{main_of, world_of, World, fresh, grid_heap, main_env, setting, levels}
use Rattle.psac_model.specs.Outputs.{shown_of, output_shown, outputs_from}
use Rattle.psac_model.specs.Plain.{Tells, capped, outputs_at}
use Rattle.psac_naming.specs.Alike.{Alike, Both}
use Rattle.psac_naming.specs.Naming.{Naming, IsNamed, After}
use Rattle.psac_naming.proofs.Namings.{named_left}
use Rattle.psac_naming.proofs.Trees.{trees_size}
use Rattle.psac_naming.proofs.Simulate.{run_alike}
use Rattle.psac_plain.specs.Slots.{Places, joined, slots, env_of, map_plain}
use Rattle.psac_plain.specs.Running.{Ends, places_of}
use Rattle.psac_plain.specs.Opened.{cell_places, output_places, opened_places, first_output, at_slot, output_env, setting_over, places_shown}
use Rattle.psac_plain.proofs.Linked.{Linked, places_keep, handles_told}
use Rattle.psac_plain.proofs.Beginning.{cells_count, outs_count, begun, begin_linked, begin_unused, begin_settings, begin_envs, named_open}

none_add : (a : Size) → add_size no_size a ≡ a
none_add a = rw (zero-add a.s, zero-add a.p, zero-add a.r, zero-add a.mods, zero-add a.links) refl

shown_alike : (T : Handle → Name → Type 0) (v : Option (Value Handle)) (u : Option (Value Name)) → Both (Alike T) v u → unwrap_or (option_map shown_of v) shown.Nil ≡ unwrap_or (option_map shown_of u) shown.Nil
shown_alike T None None h = refl
shown_alike T (Some nil) (Some nil) h = refl
shown_alike T (Some (bool a)) (Some (bool b)) h = ap shown.Bool h
shown_alike T (Some (int a)) (Some (int b)) h = ap shown.Int h
shown_alike T (Some (text i k)) (Some (text j l)) h = ap (λ x. shown.Text (record { id = x; len = k })) h.0 ∙ ap (λ x. shown.Text (record { id = j; len = x })) h.1
shown_alike T (Some (ref m)) (Some (ref n)) h = refl
shown_alike T (Some (pair k l)) (Some (pair m n)) h = refl
shown_alike T _ _ h = absurd h

outputs_alike : (ns : Naming Handle) (places : Places) (heap : Heap) → Linked ns places heap → (k i : ℕ) (ds : List ℕ) → ((j : ℕ) → j < length ds → IsNamed ns (at_slot (k + j)) (Out (i + j))) → places_shown places k ds ≡ outputs_from heap i ds
outputs_alike ns places heap lk k i [] h = refl
outputs_alike ns places heap lk k i (d ∷ ds) h =
    let first : IsNamed ns (at_slot k) (Out i) =
    subst (λ x. IsNamed ns (at_slot x) (Out i)) (add-zero k) (subst (λ x. IsNamed ns (at_slot (k + 0)) (Out x)) (add-zero i) (h 0 (omega arith))) in
    let one = shown_alike (IsNamed ns) (joined (slice_get places k)) (held heap (Out i)) (lk.same (at_slot k) (Out i) first) in
    let rest = outputs_alike ns places heap lk (suc k) (suc i) ds (λ j l.
    let a : k + suc j ≡ suc k + j = omega arith in
    let b : i + suc j ≡ suc i + j = omega arith in
    subst (λ x. IsNamed ns (at_slot x) (Out (suc i + j))) a (subst (λ x. IsNamed ns (at_slot (k + suc j)) (Out x)) b (h (suc j) (omega arith)))) in
    ap (λ x. x ∷ places_shown places (suc k) ds) one ∙ ap (λ xs. output_shown heap i ∷ xs) rest

pub tells : (w : World) (g : Grid) (end : End) (left : Places) (size : Size) → IsGrid g → Ends (run slots (setting_over g w.texts (length w.main.dests)) w.program.funcs levels w.main.body (output_env (first_output g) w.main.dests []) (opened_places g w.main.dests) []) end left no_size size → capped size ≡ size → Tells (fresh w g) w.main.dests end (outputs_at end (places_shown left (first_output g) w.main.dests)) size
unfolding fresh
tells w g end left size ok h fits =
    let ds = w.main.dests in
    let ns = begun g ds ok in
    let r = run slots (setting_over g w.texts (length ds)) w.program.funcs levels w.main.body (output_env (first_output g) ds []) (opened_places g ds) [] in
    let s = fresh w g in
    let a : After Linked [] ns r s =
    run_alike slots Linked places_keep (setting_over g w.texts (length ds)) (setting w.texts g) handles_told refl w.program.funcs levels w.main.body (output_env (first_output g) ds []) (main_env 0 ds []) (opened_places g ds) (grid_heap g) [] ns (begin_settings g ds ok w.texts) (begin_envs g ds ok) (begin_linked g ds ok) (begin_unused g ds ok) in
    let how : end ≡ s.end = h.end ∙ a.ends in
    let out = outputs_alike (ns ++ a.more) r.heap s.heap a.linked (first_output g) 0 ds (λ j l.
    let z : j ≡ 0 + j = omega arith in
    subst (λ x. IsNamed (ns ++ a.more) (at_slot (first_output g + j)) (Out x)) z (named_left ns a.more (at_slot (first_output g + j)) (Out j) (named_open g ds ok (Out j) l))) in
    record {
      how = how;
      which = ap (λ e. outputs_at e (places_shown left (first_output g) ds)) how ∙ ap (λ p. outputs_at s.end (places_shown p (first_output g) ds)) h.heap ∙ ap (outputs_at s.end) out;
      many = sym fits ∙ h.size ∙ ap capped (none_add _) ∙ ap capped (trees_size (IsNamed (ns ++ a.more)) r.tree s.tree a.trees);
    }

-- the setting, the environment and the places, as they are put together
pub begins : (g : Grid) (dests : List ℕ) (texts : List TextId) (b : Begun) (cells outs : List (Option Plain)) (made : Handle) → IsGrid g → places_of cells ≡ cell_places g.cells → env_of b.env.items ≡ output_env (length cells) dests [] → places_of outs ≡ places_of cells ++ output_places dests → made ≡ at_slot (length outs) → places_of b.heap.items ≡ places_of outs ++ Some (int (pos g.rows)) ∷ [] → b.opening.opened ≡ g.opened → b.opening.room ≡ g.room → b.opening.cols ≡ g.cols → b.opening.row_count ≡ made → b.opening.texts.now ≡ texts → Begins g dests texts b
begins g dests texts b cells outs made ok hc he ho hm ha a1 a2 a3 a4 a5 =
    let n : length cells ≡ first_output g = sym (length-map cells map_plain) ∙ ap length hc ∙ cells_count g dests ok in
    let k : length outs ≡ first_output g + length dests =
    omega (arith, n, length-map outs map_plain, ap length ho, length-append (places_of cells) (output_places dests), length-map cells map_plain, outs_count g dests ok) in
    record {
      setting = rw (a4, hm, k, a1, a2, a3, a5) refl;
      env = he ∙ ap (λ x. output_env x dests []) n;
      places =
          ha ∙ ap (λ x. x ++ Some (int (pos g.rows)) ∷ []) (ho ∙ ap (λ x. x ++ output_places dests) hc) ∙ append_assoc (cell_places g.cells) (output_places dests) (Some (int (pos g.rows)) ∷ []);
    }

pub plain_told : (p : Program) (texts : List TextId) (main : Func) (dests : List ℕ) (body : List Stmt) (funcs : List Func) (g : Grid) (o : Setting Handle) (env : Env Handle) (places : Places) (left slice : List (Option Plain)) (end : End) (size : Size) (told : List Shown) (first : ℕ) → IsGrid g → Some main ≡ main_of p → dests ≡ main.dests → body ≡ main.body → funcs ≡ p.funcs → o ≡ setting_over g texts (length dests) → env ≡ output_env (first_output g) dests [] → places ≡ opened_places g dests → Ends (run slots o funcs 300 body env places []) end (places_of left) no_size size → capped size ≡ size → first ≡ first_output g → slice ≡ left → told ≡ outputs_at end (places_shown (places_of slice) first dests) → IfSome (world_of p texts) (λ w. Tells (fresh w g) w.main.dests end told size)
plain_told p texts main dests body funcs g o env places left slice end size told first ok m d y f o1 o2 o3 h fits hf hs ht =
    let w : World = record { program = p; texts = texts; main = main } in
    let r = rw (o1, o2, o3, d, y, f) at h in
    rw (← m, ht, hs, hf, d) (tells w g end (places_of left) size ok r fits)
