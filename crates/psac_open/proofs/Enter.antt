-- The texts of a program, one more at a time.
use Rattle.std.proofs.Common.{◌≡◌, ◌∙◌, ℕ, suc, ◌+◌, ◌<◌, List, [], ◌∷◌, ◌++◌, length, take, get_or, Result, Ok, Err, ap, sym, arith}
use Rattle.std.proofs.Math.Seq.{take-suc}
use Rattle.psac_ops.specs.declared.plain.TextId.{TextId}
use Rattle.psac_ops.specs.Table.{◌>>=◌}
use Rattle.psac_inputs.specs.declared.fault.TextFault.{TextFault}
use Rattle.psac_inputs.specs.Texts.{Texts, added, all_added}

abbrev Told : Type 0
Told = Result (List TextId × Texts) TextFault

abbrev put : TextId → List TextId × Texts → Told
put f rest = Ok (f ∷ rest.0, rest.1)

abbrev then_all : List (List ℕ) → TextId × Texts → Told
then_all xs first = all_added xs first.1 >>= put first.0

abbrev put_back : List TextId → Texts → Told
put_back ids t = Ok (ids, t)

ok_is : (a b : List TextId × Texts) → (let r : Told = Ok a in r) ≡ Ok b → a ≡ b
ok_is a b h = cc

rest_more : (r next : Told) (f id : TextId) (ids : List TextId) (t1 t2 : Texts) → ((some : List TextId) → r ≡ Ok (some, t1) → next ≡ Ok (some ++ id ∷ [], t2))
    → (r >>= put f) ≡ Ok (ids, t1) → (next >>= put f) ≡ Ok (ids ++ id ∷ [], t2)
rest_more (Err e) next f id ids t1 t2 go h = absurd cc
rest_more (Ok told) next f id ids t1 t2 go h =
    let pair = ok_is (f ∷ told.0, told.1) (ids, t1) h in
    let front : f ∷ told.0 ≡ ids = ap (λ (p : List TextId × Texts). p.0) pair in
    let back : told.1 ≡ t1 = ap (λ (p : List TextId × Texts). p.1) pair in
    let is : Ok told ≡ Ok (told.0, t1) = ap (λ (t : Texts). put_back told.0 t) back in
    rw (go told.0 is) (ap (λ (xs : List TextId). Ok (xs ++ id ∷ [], t2)) front)

first_more : (r : Result (TextId × Texts) TextFault) (xs : List (List ℕ)) (y : List ℕ) (id : TextId) (ids : List TextId) (t1 t2 : Texts)
    → ((t : Texts) (some : List TextId) → all_added xs t ≡ Ok (some, t1) → all_added (xs ++ y ∷ []) t ≡ Ok (some ++ id ∷ [], t2))
    → (r >>= then_all xs) ≡ Ok (ids, t1)
    → (r >>= then_all (xs ++ y ∷ [])) ≡ Ok (ids ++ id ∷ [], t2)
first_more (Err e) xs y id ids t1 t2 go h = absurd cc
first_more (Ok first) xs y id ids t1 t2 go h = rest_more (all_added xs first.1) (all_added (xs ++ y ∷ []) first.1) first.0 id ids t1 t2 (go first.1) h

pub all_more : (xs : List (List ℕ)) (t : Texts) (ids : List TextId) (t1 : Texts) (y : List ℕ) (id : TextId) (t2 : Texts)
    → all_added xs t ≡ Ok (ids, t1) → added y t1 ≡ Ok (id, t2) → all_added (xs ++ y ∷ []) t ≡ Ok (ids ++ id ∷ [], t2)
all_more [] t ids t1 y id t2 h a =
    let pair = ok_is ([], t) (ids, t1) h in
    let none : [] ≡ ids = ap (λ (p : List TextId × Texts). p.0) pair in
    let same : t ≡ t1 = ap (λ (p : List TextId × Texts). p.1) pair in
    rw (same, a) (ap (λ (xs : List TextId). Ok (xs ++ id ∷ [], t2)) none)
all_more (x ∷ xs) t ids t1 y id t2 h a = first_more (added x t) xs y id ids t1 t2 (λ u some e. all_more xs u some t1 y id t2 e a) h

pub take_one : (xs : List (List ℕ)) (i : ℕ) (y : List ℕ) → i < length xs → y ≡ get_or xs i y → take (i + 1) xs ≡ take i xs ++ y ∷ []
take_one xs i y within is =
    let e : i + 1 ≡ suc i = omega arith in
    rw e (take-suc xs i y within ∙ ap (λ (z : List ℕ). take i xs ++ z ∷ []) (sym is))
