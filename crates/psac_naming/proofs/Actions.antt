-- A statement asks for the same under environments and stores that are alike.
use Rattle.std.proofs.Common.{◌≡◌, ℕ, true, false, if◌then◌else◌, ◌==◌, List, [], ◌∷◌, map, Option, Some, None, Ok, refl, ap, subst}
use Rattle.psac_ops.specs.Value.{Value, nil, bool, int, text, ref, pair}
use Rattle.psac_syntax.specs.declared.program.Stmt.{Stmt}
use Rattle.psac_syntax.specs.declared.program.Stmt.TheOpen.{Stmt-F}
use Rattle.psac_syntax.specs.declared.program.ReadItem.{ReadItem}
use Rattle.psac_syntax.specs.declared.program.Func.{Func}
use Rattle.psac_model.specs.Names.{Env, bound, bind}
use Rattle.psac_model.specs.Expression.{Setting, value_of, in_order, or_kind}
use Rattle.psac_model.specs.Tree.{Reads}
use Rattle.psac_model.specs.Run.{Store, Action, Bind, Make, Put, Body, Block, Sides, action_of, read_of, reference, destination, target, as_bool, with_reads, bound_to, call_of, func_named}
use Rattle.psac_naming.specs.Alike.{Agree, Both, Each, Alike, AlikeRead, Envs, Settings, Tests}
use Rattle.psac_naming.proofs.Agrees.{agree_then, in_order_agree, each_same, or_kind_agree}
use Rattle.psac_naming.proofs.Operators.{Same}
use Rattle.psac_naming.proofs.Values.{value_alike, bound_alike}

module _ {M N : Type 0} (T : M → N → Type 0) where
  abbrev pub AlikeAction : Action M → Action N → Type 0
  AlikeAction (Bind x v) (Bind y u) = (x ≡ y) × Alike T v u
  AlikeAction (Make d) (Make e) = d ≡ e
  AlikeAction (Put m v) (Put n u) = T m n × Alike T v u
  AlikeAction (Body b env) (Body c env') = (b ≡ c) × Envs T env env'
  AlikeAction (Block k reads b env) (Block j seen c env') = (k ≡ j) × Each (AlikeRead T) reads seen × (b ≡ c) × Envs T env env'
  AlikeAction (Sides l r) (Sides k s) = (l ≡ k) × (r ≡ s)
  AlikeAction _ _ = ⊥

  target_alike : (v : Value M) (u : Value N) → Alike T v u → Agree T (target v) (target u)
  target_alike nil nil h = refl
  target_alike (bool a) (bool b) h = refl
  target_alike (int a) (int b) h = refl
  target_alike (text i k) (text j l) h = refl
  target_alike (ref m) (ref n) h = h
  target_alike (pair k l) (pair m n) h = refl
  target_alike _ _ h = absurd h

  as_bool_alike : (v : Value M) (u : Value N) → Alike T v u → Agree Same (as_bool v) (as_bool u)
  as_bool_alike nil nil h = refl
  as_bool_alike (bool a) (bool b) h = h
  as_bool_alike (int a) (int b) h = refl
  as_bool_alike (text i k) (text j l) h = refl
  as_bool_alike (ref m) (ref n) h = refl
  as_bool_alike (pair k l) (pair m n) h = refl
  as_bool_alike _ _ h = absurd h

  destination_alike : (env : Env M) (env' : Env N) (d : ℕ) → Envs T env env' → Agree T (destination env d) (destination env' d)
  destination_alike env env' d h =
      agree_then (Alike T) T (or_kind (bound d env)) (or_kind (bound d env')) target target (or_kind_agree (Alike T) (bound d env) (bound d env') (bound_alike T d env env' h)) target_alike

  reference_alike : (env : Env M) (env' : Env N) → Envs T env env' → (d : ℕ) → Agree (Alike T) (reference env d) (reference env' d)
  reference_alike env env' h d =
      agree_then T (Alike T) (destination env d) (destination env' d) (λ m. Ok (ref m)) (λ m. Ok (ref m)) (destination_alike env env' d h) (λ m n r. r)

  pub bind_alike : (x : ℕ) (v : Value M) (u : Value N) (env : Env M) (env' : Env N) → Alike T v u → Envs T env env' → Envs T (bind x v env) (bind x u env')
  bind_alike x v u [] [] k h = ((refl, k), tt)
  bind_alike x v u (a ∷ env) (b ∷ env') k h =
      subst (λ n. Envs T (if a.0 == x then (x, v) ∷ env else a ∷ bind x v env) (if n == x then (x, u) ∷ env' else b ∷ bind x u env')) h.0.0
      (elim (a.0 == x) as (λ t. Envs T (if t then (x, v) ∷ env else a ∷ bind x v env) (if t then (x, u) ∷ env' else b ∷ bind x u env')) [
        | true ↦ ((refl, k), h.1)
        | false ↦ (h.0, bind_alike x v u env env' k h.1)
      ])
  bind_alike x v u [] (b ∷ env') k h = absurd h
  bind_alike x v u (a ∷ env) [] k h = absurd h

  with_reads_alike : (env : Env M) (env' : Env N) (items : List ReadItem) (reads : Reads M) (seen : Reads N) → Envs T env env' → Each (AlikeRead T) reads seen → Envs T (with_reads env items reads) (with_reads env' items seen)
  with_reads_alike env env' [] reads seen h k = h
  with_reads_alike env env' (item ∷ items) [] [] h k = h
  with_reads_alike env env' (item ∷ items) (r ∷ rs) (s ∷ ss) h k =
      with_reads_alike (bind item.bound r.1 env) (bind item.bound s.1 env') items rs ss (bind_alike item.bound r.1 s.1 env env' k.0.1 h) k.1
  with_reads_alike env env' (item ∷ items) [] (s ∷ ss) h k = absurd k
  with_reads_alike env env' (item ∷ items) (r ∷ rs) [] h k = absurd k

  bound_to_alike : (xs : List ℕ) (vs : List (Value M)) (us : List (Value N)) (env : Env M) (env' : Env N) → Each (Alike T) vs us → Envs T env env' → Agree (Envs T) (bound_to xs vs env) (bound_to xs us env')
  bound_to_alike [] [] [] env env' h k = k
  bound_to_alike [] (v ∷ vs) (u ∷ us) env env' h k = refl
  bound_to_alike (x ∷ xs) [] [] env env' h k = refl
  bound_to_alike (x ∷ xs) (v ∷ vs) (u ∷ us) env env' h k =
      bound_to_alike xs vs us (bind x v env) (bind x u env') h.1 (bind_alike x v u env env' h.0 k)
  bound_to_alike xs [] (u ∷ us) env env' h k = absurd h
  bound_to_alike xs (v ∷ vs) [] env env' h k = absurd h

  call_alike : (f : Option Func) (vs ds : List (Value M)) (us es : List (Value N)) → Each (Alike T) vs us → Each (Alike T) ds es → Agree AlikeAction (call_of f vs ds) (call_of f us es)
  call_alike None vs ds us es h k = refl
  call_alike (Some f) vs ds us es h k =
      agree_then (Envs T) AlikeAction (bound_to f.values vs []) (bound_to f.values us []) _ _ (bound_to_alike f.values vs us [] [] h tt) (λ a b i.
      agree_then (Envs T) AlikeAction (bound_to f.dests ds a) (bound_to f.dests es b) _ _ (bound_to_alike f.dests ds es a b k i) (λ c d j. (refl, j)))

  module _ {H K : Type 0} (st : Store M H) (su : Store N K) (w : Setting M) (u : Setting N) (funcs : List Func) (env : Env M) (env' : Env N) (h : H) (k : K) (s : Settings T w u) (tests : Tests T w.same u.same) (e : Envs T env env') (gets : (m : M) (n : N) → T m n → Both (Alike T) (st.get h m) (su.get k n)) where
    read_alike : (item : ReadItem) → Agree (AlikeRead T) (read_of st w env h item) (read_of su u env' k item)
    read_alike item =
        agree_then (Alike T) (AlikeRead T) (value_of w env item.from) (value_of u env' item.from) _ _ (value_alike T w u s tests env env' e item.from) (λ a b i.
        agree_then T (AlikeRead T) (target a) (target b) _ _ (target_alike a b i) (λ m n j.
        agree_then (Alike T) (AlikeRead T) (or_kind (st.get h m)) (or_kind (su.get k n)) _ _
        (or_kind_agree (Alike T) (st.get h m) (su.get k n) (gets m n j)) (λ x y l. (j, l))))

    pub action_alike : (t : Stmt-F Stmt) → Agree AlikeAction (action_of st w funcs env h t) (action_of su u funcs env' k t)
    action_alike (Stmt-F.Let line x a) =
        agree_then (Alike T) AlikeAction (value_of w env a) (value_of u env' a) _ _ (value_alike T w u s tests env env' e a) (λ v v' i. (refl, i))
    action_alike (Stmt-F.New line d) = refl
    action_alike (Stmt-F.Write line d a) =
        agree_then (Alike T) AlikeAction (value_of w env a) (value_of u env' a) _ _ (value_alike T w u s tests env env' e a) (λ v v' i.
        agree_then T AlikeAction (destination env d) (destination env' d) _ _ (destination_alike env env' d e) (λ m n j. (j, i)))
    action_alike (Stmt-F.Read line block items body) =
        agree_then (Each (AlikeRead T)) AlikeAction (in_order (map (read_of st w env h) items)) (in_order (map (read_of su u env' k) items)) _ _
        (in_order_agree (AlikeRead T) (map (read_of st w env h) items) (map (read_of su u env' k) items) (each_same (Agree (AlikeRead T)) (read_of st w env h) (read_of su u env' k) read_alike items))
        (λ reads seen i. (refl, i, refl, with_reads_alike env env' items reads seen e i))
    action_alike (Stmt-F.If line a first second) =
        agree_then (Alike T) AlikeAction (value_of w env a) (value_of u env' a) _ _ (value_alike T w u s tests env env' e a) (λ v v' i.
        agree_then Same AlikeAction (as_bool v) (as_bool v') _ _ (as_bool_alike v v' i) (λ b c j. (ap (λ d. if d then first else second) j, e)))
    action_alike (Stmt-F.Par line left right) = (refl, refl)
    action_alike (Stmt-F.Call line f values dests) =
        agree_then (Each (Alike T)) AlikeAction (in_order (map (value_of w env) values)) (in_order (map (value_of u env') values)) _ _
        (in_order_agree (Alike T) (map (value_of w env) values) (map (value_of u env') values) (each_same (Agree (Alike T)) (value_of w env) (value_of u env') (value_alike T w u s tests env env' e) values)) (λ vs us i.
        agree_then (Each (Alike T)) AlikeAction (in_order (map (reference env) dests)) (in_order (map (reference env') dests)) _ _
        (in_order_agree (Alike T) (map (reference env) dests) (map (reference env') dests) (each_same (Agree (Alike T)) (reference env) (reference env') (reference_alike env env' e) dests)) (λ ds es j.
        call_alike (func_named f funcs) vs ds us es i j))
