-- What reads name, and its values by one look each.
use Rattle.std.proofs.Common.{◌≡◌, ℕ, zero, suc, ◌<◌, arith, List, [], ◌∷◌, length, map, get_or, set, Option, Some, None, Result, Ok, Err, refl, ap, sym, ◌∙◌, subst}
use Rattle.psac_ops.specs.declared.plain.Handle.{Handle}
use Rattle.psac_ops.specs.declared.plain.Plain.{Plain}
use Rattle.psac_ops.specs.Value.{Value}
use Rattle.psac_ops.specs.Named.{value_of as plain_value, same_handle}
use Rattle.psac_ops.specs.Words.{of_words}
use Rattle.psac_ops.specs.Table.{◌>>=◌}
use Rattle.psac_syntax.specs.declared.program.ReadItem.{ReadItem}
use Rattle.psac_values.specs.declared.view.ValueView.{ValueView}
use Rattle.psac_values.specs.Knowing.{Knows}
use Rattle.psac_model.specs.declared.ends.FaultKind.{FaultKind}
use Rattle.psac_model.specs.Names.{Env}
use Rattle.psac_model.specs.Expression.{Setting, value_of, or_kind, in_order}
use Rattle.psac_model.specs.Run.{target, read_of}
use Rattle.psac_laws.proofs.Places.{none_some, some_is}
use Rattle.psac_laws.proofs.Results.{ok_is, ok_then}
use Rattle.psac_traced.specs.Rec.{held_by}
use Rattle.psac_traced.specs.Traced.{listed}
use Rattle.psac_plain.specs.declared.ask.Seen.{Seen}
use Rattle.psac_plain.specs.declared.halt.Halt.{Halt}
use Rattle.psac_plain.specs.declared.halt.Halt.TheVariants as halt
use Rattle.psac_plain.specs.Slots.{Halts}
use Rattle.psac_plain.specs.Running.{reads_view, seen_pair}
use Rattle.psac_trace.specs.Rights.{Heap, Sees}
use Rattle.psac_trace.specs.Asking.{Sought, AllSought, source, sources_in, AllSeen, IsSeen, SeenFirst}
use Rattle.psac_trace.proofs.Results.{target_is}

-- a look at one

module _ (v : ValueView) (m : Handle) (ws : List ℕ) (is : (us : List ℕ) → Knows v m us → ws ≡ us) where
  pub seen_value : (p : Plain) → of_words ws ≡ Some p → (x : Value Handle) → Sees v m x → plain_value p ≡ x
  seen_value p words x s =
      let e : s.1 ≡ p = some_is (sym s.3 ∙ ap of_words (sym (is s.0 s.2)) ∙ words) in
      ap plain_value (sym e) ∙ s.4

  pub never_none : {X : Type 0} (x : Value Handle) → Sees v m x → of_words ws ≡ None → X
  never_none x s words = absurd (none_some (sym words ∙ ap of_words (is s.0 s.2) ∙ s.3))

-- and at each in turn

pub seen_start : (v : ValueView) (ss : List Seen) → SeenFirst v 0 ss ss
seen_start v [] = tt
seen_start v (s ∷ ss) = (refl, seen_start v ss)

pub seen_step : (v : ValueView) (ss rs : List Seen) (i : ℕ) (r s : Seen) → i < length rs → r ≡ get_or rs i r → SeenFirst v i ss rs → IsSeen v r s → SeenFirst v (suc i) ss (set rs i s)
seen_step v [] [] i r s h e f k = absurd (omega arith)
seen_step v [] (x ∷ rs) i r s h e f k = absurd f
seen_step v (y ∷ ss) [] i r s h e f k = absurd f
seen_step v (y ∷ ss) (x ∷ rs) zero r s h e f k = (subst (λ z. IsSeen v z s) (e ∙ f.0) k, f.1)
seen_step v (y ∷ ss) (x ∷ rs) (suc i) r s h e f k = (f.0, seen_step v ss rs i r s (omega arith) e f.1 k)

pub sees_at : (v : ValueView) (ss rs : List Seen) (i : ℕ) (r : Seen) → i < length rs → r ≡ get_or rs i r → SeenFirst v i ss rs → AllSeen v ss → (x : Value Handle) × Sees v r.from x
sees_at v [] [] i r h e f k = absurd (omega arith)
sees_at v [] (x ∷ rs) i r h e f k = absurd f
sees_at v (y ∷ ss) [] i r h e f k = absurd f
sees_at v (y ∷ ss) (x ∷ rs) zero r h e f k = subst (λ (z : Seen). (a : Value Handle) × Sees v z.from a) (sym (e ∙ f.0)) k.0
sees_at v (y ∷ ss) (x ∷ rs) (suc i) r h e f k = sees_at v ss rs i r (omega arith) e f.1 k.1

pub seen_count : (v : ValueView) (n : ℕ) (ss rs : List Seen) → SeenFirst v n ss rs → length rs ≡ length ss
seen_count v n [] [] f = refl
seen_count v n [] (r ∷ rs) f = absurd f
seen_count v n (s ∷ ss) [] f = absurd f
seen_count v zero (s ∷ ss) (r ∷ rs) f = let e = seen_count v zero ss rs f.1 in omega (arith, e)
seen_count v (suc n) (s ∷ ss) (r ∷ rs) f = let e = seen_count v n ss rs f.1 in omega (arith, e)

-- a fault stays

err_bind : {A B : Type 0} (r : Result A FaultKind) (f : A → Result B FaultKind) (k : FaultKind) → r ≡ Err k → (r >>= f) ≡ Err k
err_bind r f k e = ap (λ z. z >>= f) e

err_within : {A B C : Type 0} (y : Result A FaultKind) (g : A → Result B FaultKind) (f : B → Result C FaultKind) (k : FaultKind) → (y >>= g) ≡ Err k → (y >>= λ a. g a >>= f) ≡ Err k
err_within (Ok a) g f k e = err_bind (g a) f k e
err_within (Err j) g f k e = cc

err_is : {A B : Type 0} {j k : FaultKind} → (let r : Result A FaultKind = Err j in r ≡ Err k) → (let r : Result B FaultKind = Err j in r ≡ Err k)
err_is e = cc

err_rest : {A : Type 0} (x : A) (r : Result (List A) FaultKind) (k : FaultKind) → (r >>= λ xs. Ok (x ∷ xs)) ≡ Err k → r ≡ Err k
err_rest x (Ok xs) k e = absurd cc
err_rest x (Err j) k e = cc

-- what is read is what was named, with its value

module _ (w : Setting Handle) (same : w.same ≡ same_handle) (env : Env Handle) (v : ValueView) (heap : Heap) where
  abbrev read : ReadItem → Result (Handle × Value Handle) FaultKind
  read = read_of (listed w) w env heap

  held_at : (item : ReadItem) (m : Handle) → Sought w env v heap item → source w env item ≡ Ok m → (x : Value Handle) × (read item ≡ Ok (m, x)) × Sees v m x
  held_at item m s e =
      let a = ok_then (value_of w env item.from) target m e in
      let k = s m (a.1 ∙ ap (λ z. Ok z) (target_is a.0 m a.2)) in
      let x : held_by w.same heap m ≡ Some k.0 = ap (λ (z : Handle → Handle → _). held_by z heap m) same ∙ k.1 in
      let last : Handle → Option (Value Handle) → Result (Handle × Value Handle) FaultKind = λ n o. or_kind o >>= λ z. Ok (n, z) in
      let at : Handle → Result (Handle × Value Handle) FaultKind = λ n. last n (held_by w.same heap n) in
      let from : Value Handle → Result (Handle × Value Handle) FaultKind = λ u. target u >>= at in
      (k.0, ap (λ z. z >>= from) a.1 ∙ ap (λ z. z >>= at) a.2 ∙ ap (last m) x, k.2)

  pub all_seen : (items : List ReadItem) (ss : List Seen) → AllSought w env v heap items → in_order (map (source w env) items) ≡ Ok (sources_in ss) → AllSeen v ss
  all_seen [] [] s e = tt
  all_seen [] (x ∷ ss) s e = absurd cc
  all_seen (item ∷ items) ss s e =
      let a = ok_then (source w env item) _ (sources_in ss) e in
      let b = ok_then (in_order (map (source w env) items)) _ (sources_in ss) a.2 in
      each ss a.0 b.0 (ok_is b.2) a.1 b.1 (λ rest. all_seen items rest s.1)
    where
      each : (ss : List Seen) (m : Handle) (ms : List Handle) → m ∷ ms ≡ sources_in ss → source w env item ≡ Ok m → in_order (map (source w env) items) ≡ Ok ms → ((rest : List Seen) → in_order (map (source w env) items) ≡ Ok (sources_in rest) → AllSeen v rest) → AllSeen v ss
      each [] m ms q a b more = absurd cc
      each (x ∷ ss) m ms q a b more =
          let first : m ≡ x.from = cc in
          let others : ms ≡ sources_in ss = cc in
          let k = held_at item x.from s.0 (a ∙ ap (λ z. Ok z) first) in
          ((k.0, k.2), more ss (b ∙ ap (λ z. Ok z) others))

  pub all_read : (items : List ReadItem) (ss rs : List Seen) → AllSought w env v heap items → in_order (map (source w env) items) ≡ Ok (sources_in ss) → SeenFirst v (length ss) ss rs → in_order (map read items) ≡ Ok (reads_view rs)
  all_read [] [] [] s e f = refl
  all_read [] [] (r ∷ rs) s e f = absurd f
  all_read [] (x ∷ ss) rs s e f = absurd cc
  all_read (item ∷ items) ss rs s e f =
      let a = ok_then (source w env item) _ (sources_in ss) e in
      let b = ok_then (in_order (map (source w env) items)) _ (sources_in ss) a.2 in
      each ss rs a.0 b.0 (ok_is b.2) a.1 b.1 (λ xs ys. all_read items xs ys s.1) f
    where
      each : (ss rs : List Seen) (m : Handle) (ms : List Handle) → m ∷ ms ≡ sources_in ss → source w env item ≡ Ok m → in_order (map (source w env) items) ≡ Ok ms
          → ((xs ys : List Seen) → in_order (map (source w env) items) ≡ Ok (sources_in xs) → SeenFirst v (length xs) xs ys → in_order (map read items) ≡ Ok (reads_view ys)) → SeenFirst v (length ss) ss rs → in_order (map read (item ∷ items)) ≡ Ok (reads_view rs)
      each [] rs m ms q a b rest f = absurd cc
      each (x ∷ ss) [] m ms q a b rest f = absurd f
      each (x ∷ ss) (r ∷ rs) m ms q a b rest f =
          let first : m ≡ x.from = cc in
          let others : ms ≡ sources_in ss = cc in
          let k = held_at item x.from s.0 (a ∙ ap (λ z. Ok z) first) in
          let one : read item ≡ Ok (seen_pair r) = k.1 ∙ ap (λ (y : Handle). Ok (y, k.0)) (sym f.0.from) ∙ ap (λ (y : Value Handle). Ok (r.from, y)) (sym (f.0.value k.0 k.2)) in
          let more = rest ss rs (b ∙ ap (λ z. Ok z) others) f.1 in
          ap (λ (z : Result (Handle × Value Handle) FaultKind). z >>= λ y. in_order (map read items) >>= λ ys. Ok (y ∷ ys)) one
          ∙ ap (λ (z : Result (List (Handle × Value Handle)) FaultKind). z >>= λ ys. Ok (seen_pair r ∷ ys)) more

  pub reads_stop : (items : List ReadItem) (k : FaultKind) → AllSought w env v heap items → in_order (map (source w env) items) ≡ Err k → in_order (map read items) ≡ Err k
  reads_stop [] k s e = absurd cc
  reads_stop (item ∷ items) k s e = by (source w env item) refl e (reads_stop items k s.1)
    where
      by : (o : Result Handle FaultKind) → source w env item ≡ o → (o >>= λ m. in_order (map (source w env) items) >>= λ ms. Ok (m ∷ ms)) ≡ Err k → (in_order (map (source w env) items) ≡ Err k → in_order (map read items) ≡ Err k) → in_order (map read (item ∷ items)) ≡ Err k
      by (Ok m) is q more =
          let x = held_at item m s.0 is in
          let rest = more (err_rest m (in_order (map (source w env) items)) k q) in
          ap (λ (z : Result (Handle × Value Handle) FaultKind). z >>= λ y. in_order (map read items) >>= λ ys. Ok (y ∷ ys)) x.1
          ∙ err_bind (in_order (map read items)) _ k rest
      by (Err j) is q more = err_bind (read item) _ k (err_within (value_of w env item.from) target _ k (is ∙ err_is q))

  pub reads_halt : (h : Halt) (items : List ReadItem) → AllSought w env v heap items → Halts h (in_order (map (source w env) items)) → Halts h (in_order (map read items))
  reads_halt halt.NoMemory items s e = tt
  reads_halt (halt.Fault k) items s e = reads_stop items k s e
