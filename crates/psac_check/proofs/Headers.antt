-- Headers, one after another.
use Rattle.std.proofs.Common.{◌≡◌, ℕ, suc, ◌+◌, ◌<◌, ◌≤◌, ◌==◌, ◌||◌, Bool, true, false, not, List, [], ◌∷◌, ◌++◌, map, length, take, drop, get_or, Option, Some, None, Result, Ok, Err, refl, ap, sym, ◌∙◌, add-one, arith}
use Rattle.std.proofs.lemmas.List.{take_more}
use Rattle.std.proofs.Math.Seq.{drop-cons}
use Rattle.psac_syntax.specs.declared.program.Func.{Func}
use Rattle.psac_model.specs.Series.{Breach, Fault, Rebound, has, unless, first_wrong, so, params_wrong, headers}
use Rattle.psac_check.proofs.Members.{has_append}
use Rattle.psac_check.proofs.Firsts.{first_one}

-- ---- names that follow one another

next : (names more : List ℕ) (i : ℕ) → i < length names → params_wrong (drop i names ++ more) ≡ first_wrong (unless (not (has (get_or names i 0) (drop (i + 1) names) || has (get_or names i 0) more)) Rebound ∷ params_wrong (drop (i + 1) names ++ more) ∷ [])
next names more i h =
    ap (λ z. params_wrong (z ++ more)) (drop-cons names i 0 h ∙ ap (λ n. get_or names i 0 ∷ drop n names) (sym (add-one i)))
    ∙ ap (λ z. first_wrong (unless (not z) Rebound ∷ params_wrong (drop (i + 1) names ++ more) ∷ [])) (has_append (get_or names i 0) (drop (i + 1) names) more)

pub name_passes : (names more : List ℕ) (i : ℕ) → i < length names → (has (get_or names i 0) (drop (i + 1) names) || has (get_or names i 0) more) ≡ false → params_wrong (drop (i + 1) names ++ more) ≡ params_wrong (drop i names ++ more)
name_passes names more i h a = sym (next names more i h ∙ rw a (first_one (params_wrong (drop (i + 1) names ++ more))))

pub name_again : (names more : List ℕ) (i : ℕ) → i < length names → (has (get_or names i 0) (drop (i + 1) names) || has (get_or names i 0) more) ≡ true → Some Rebound ≡ params_wrong (drop i names ++ more)
name_again names more i h a = sym (next names more i h ∙ rw a refl)

-- ---- functions that follow one another

-- in which order names were seen doesn't matter
headers_same : (fs : List Func) (seen other : List ℕ) → ((x : ℕ) → has x seen ≡ has x other) → headers seen fs ≡ headers other fs
headers_same [] seen other h = refl
headers_same (f ∷ fs) seen other h =
    ap (λ z. so (first_wrong (unless (not z) Rebound ∷ params_wrong (f.values ++ f.dests) ∷ [])) f.line (headers (f.name ∷ seen) fs)) (h f.name)
    ∙ ap (λ z. so (first_wrong (unless (not (has f.name other)) Rebound ∷ params_wrong (f.values ++ f.dests) ∷ [])) f.line z) (headers_same fs (f.name ∷ seen) (f.name ∷ other) (λ x. ap (λ z. (f.name == x) || z) (h x)))

turned : (x y : ℕ) (xs : List ℕ) → has x (y ∷ xs) ≡ has x (xs ++ y ∷ [])
turned x y xs = swap (y == x) (has x xs) ∙ sym (has_append x xs (y ∷ []))
  where
    swap : (q a : Bool) → (q || a) ≡ (a || (q || false))
    swap true true = refl
    swap true false = refl
    swap false true = refl
    swap false false = refl

map_push : (xs : List Func) (f : Func) → map (λ (g : Func). g.name) (xs ++ f ∷ []) ≡ map (λ (g : Func). g.name) xs ++ f.name ∷ []
map_push [] f = refl
map_push (x ∷ xs) f = ap (λ z. x.name ∷ z) (map_push xs f)

module _ (funcs : List Func) where
  abbrev seen : ℕ → List ℕ
  seen i = map (λ (f : Func). f.name) (take i funcs)

  abbrev header_wrong : ℕ → Func → Option Breach
  header_wrong i f = first_wrong (unless (not (has f.name (seen i))) Rebound ∷ params_wrong (f.values ++ f.dests) ∷ [])

  pub one_header : (i : ℕ) (f : Func) → i < length funcs → f ≡ get_or funcs i f → headers (map (λ f. f.name) (take i funcs)) (drop i funcs) ≡ so (header_wrong i f) f.line (headers (map (λ f. f.name) (take (i + 1) funcs)) (drop (i + 1) funcs))
  one_header i f h e =
      let names : map (λ (g : Func). g.name) (take (i + 1) funcs) ≡ seen i ++ f.name ∷ [] =
      ap (λ z. map (λ (g : Func). g.name) z) (take_more funcs i f h ∙ ap (λ z. take i funcs ++ z ∷ []) (sym e)) ∙ map_push (take i funcs) f in
      ap (headers (seen i)) (drop-cons funcs i f h ∙ ap (λ z. z ∷ drop (suc i) funcs) (sym e) ∙ ap (λ n. f ∷ drop n funcs) (sym (add-one i)))
      ∙ ap (so (header_wrong i f) f.line) (headers_same (drop (i + 1) funcs) (f.name ∷ seen i) (seen i ++ f.name ∷ []) (λ x. turned x f.name (seen i)) ∙ ap (λ z. headers z (drop (i + 1) funcs)) (sym names))
