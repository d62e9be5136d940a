-- Results and lists that a relation ties.
use Rattle.std.proofs.Common.{◌≡◌, suc, List, [], ◌∷◌, length, map, Option, Some, None, Result, Ok, Err, refl, ap}
use Rattle.psac_ops.specs.declared.op.OpFault.{OpFault}
use Rattle.psac_ops.specs.Table.{◌>>=◌}
use Rattle.psac_model.specs.declared.ends.FaultKind.{FaultKind}
use Rattle.psac_model.specs.Expression.{in_order, or_kind, of_op, fault_of}
use Rattle.psac_naming.specs.Alike.{Agree, Both, Each}

pub agree_then : {A B C D E : Type 0} (T : A → B → Type 0) (U : C → D → Type 0) (r : Result A E) (s : Result B E) (f : A → Result C E) (g : B → Result D E) → Agree T r s → ((x : A) (y : B) → T x y → Agree U (f x) (g y)) → Agree U (r >>= f) (s >>= g)
agree_then T U (Ok x) (Ok y) f g h k = k x y h
agree_then T U (Err i) (Err j) f g h k = h
agree_then T U (Ok x) (Err j) f g h k = absurd h
agree_then T U (Err i) (Ok y) f g h k = absurd h

pub in_order_agree : {A B : Type 0} (T : A → B → Type 0) (rs : List (Result A FaultKind)) (ss : List (Result B FaultKind)) → Each (Agree T) rs ss → Agree (Each T) (in_order rs) (in_order ss)
in_order_agree T [] [] h = tt
in_order_agree T (r ∷ rs) (s ∷ ss) h =
    agree_then T (Each T) r s (λ a. in_order rs >>= λ more. Ok (a ∷ more)) (λ b. in_order ss >>= λ more. Ok (b ∷ more)) h.0 (λ a b q.
    agree_then (Each T) (Each T) (in_order rs) (in_order ss) (λ more. Ok (a ∷ more)) (λ more. Ok (b ∷ more)) (in_order_agree T rs ss h.1) (λ more others qs. (q, qs)))
in_order_agree T [] (s ∷ ss) h = absurd h
in_order_agree T (r ∷ rs) [] h = absurd h

pub each_same : {A C D : Type 0} (T : C → D → Type 0) (f : A → C) (g : A → D) → ((x : A) → T (f x) (g x)) → (xs : List A) → Each T (map f xs) (map g xs)
each_same T f g k [] = tt
each_same T f g k (x ∷ xs) = (k x, each_same T f g k xs)

pub each_twice : {I A C D : Type 0} (T : C → D → Type 0) (f : A → C) (g : A → D) (h : I → A) → ((i : I) → T (f (h i)) (g (h i))) → (xs : List I) → Each T (map f (map h xs)) (map g (map h xs))
each_twice T f g h k [] = tt
each_twice T f g h k (x ∷ xs) = (k x, each_twice T f g h k xs)

pub each_length : {A B : Type 0} (T : A → B → Type 0) (xs : List A) (ys : List B) → Each T xs ys → length xs ≡ length ys
each_length T [] [] h = refl
each_length T (x ∷ xs) (y ∷ ys) h = ap suc (each_length T xs ys h.1)
each_length T [] (y ∷ ys) h = absurd h
each_length T (x ∷ xs) [] h = absurd h

pub each_more : {A B : Type 0} (T U : A → B → Type 0) → ((x : A) (y : B) → T x y → U x y) → (xs : List A) (ys : List B) → Each T xs ys → Each U xs ys
each_more T U k [] [] h = tt
each_more T U k (x ∷ xs) (y ∷ ys) h = (k x y h.0, each_more T U k xs ys h.1)
each_more T U k [] (y ∷ ys) h = absurd h
each_more T U k (x ∷ xs) [] h = absurd h

pub of_op_agree : {A B : Type 0} (T : A → B → Type 0) (r : Result A OpFault) (s : Result B OpFault) → Agree T r s → Agree T (of_op r) (of_op s)
of_op_agree T (Ok x) (Ok y) h = h
of_op_agree T (Err x) (Err y) h = ap fault_of h
of_op_agree T (Ok x) (Err y) h = absurd h
of_op_agree T (Err x) (Ok y) h = absurd h

pub or_kind_agree : {A B : Type 0} (T : A → B → Type 0) (a : Option A) (b : Option B) → Both T a b → Agree T (or_kind a) (or_kind b)
or_kind_agree T (Some x) (Some y) h = h
or_kind_agree T None None h = refl
or_kind_agree T (Some x) None h = absurd h
or_kind_agree T None (Some y) h = absurd h
