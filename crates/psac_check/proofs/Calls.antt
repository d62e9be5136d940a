-- The parts of a call, one after another.
use Rattle.std.proofs.Common.{◌≡◌, ℕ, suc, ◌+◌, ◌<◌, ◌||◌, ◌==◌, Bool, true, false, if◌then◌else◌, List, [], ◌∷◌, ◌++◌, map, length, take, drop, get_or, Option, Some, None, refl, ap, sym, ◌∙◌, add-one, append_assoc, arith}
use Rattle.std.proofs.lemmas.List.{take_more}
use Rattle.std.proofs.Math.Seq.{drop-cons}
use Rattle.psac_syntax.specs.declared.program.Expr.{Expr}
use Rattle.psac_syntax.specs.declared.program.Func.{Func}
use Rattle.psac_model.specs.Series.{Breach, WrittenTwice, WrongSort, UnknownName, Arity, Scope, has, dest_names, unless, first_wrong, expr_wrong, dest_wrong, dests_wrong, call_wrong}
use Rattle.psac_check.proofs.Members.{has_append}

or_yes : (a b : Bool) → b ≡ true → (a || b) ≡ true
or_yes true b h = refl
or_yes false b h = h

or_no : (a b : Bool) → b ≡ false → (a || b) ≡ a
or_no true b h = refl
or_no false b h = h

pub passed_twice : (s : Scope) (w earlier : List ℕ) (d : ℕ) → has d earlier ≡ true → dest_wrong s (w ++ earlier) d ≡ Some WrittenTwice
passed_twice s w earlier d h = rw (has_append d w earlier, or_yes (has d w) (has d earlier) h) refl

pub passed_once : (s : Scope) (w earlier : List ℕ) (d : ℕ) → has d earlier ≡ false → dest_wrong s (w ++ earlier) d ≡ dest_wrong s w d
passed_once s w earlier d h = rw (has_append d w earlier, or_no (has d w) (has d earlier) h) refl

passes : (a b : Option Breach) → None ≡ a → first_wrong (a ∷ b ∷ []) ≡ b
passes None None h = refl
passes None (Some b) h = refl
passes (Some a) b h = cc

stops : (a b : Option Breach) (wrong : Breach) → Some wrong ≡ a → Some wrong ≡ first_wrong (a ∷ b ∷ [])
stops None b wrong h = cc
stops (Some a) b wrong h = h

module _ (s : Scope) (w ds : List ℕ) where
  split : (i : ℕ) → i < length ds → dests_wrong s (w ++ take i ds) (drop i ds) ≡ first_wrong (dest_wrong s (w ++ take i ds) (get_or ds i 0) ∷ dests_wrong s (w ++ take (i + 1) ds) (drop (i + 1) ds) ∷ [])
  split i h =
      let d = get_or ds i 0 in
      let front : (w ++ take i ds) ++ d ∷ [] ≡ w ++ take (i + 1) ds =
      append_assoc w (take i ds) (d ∷ []) ∙ ap (λ z. w ++ z) (sym (take_more ds i 0 h)) in
      ap (dests_wrong s (w ++ take i ds)) (drop-cons ds i 0 h)
      ∙ ap (λ z. first_wrong (dest_wrong s (w ++ take i ds) d ∷ dests_wrong s z (drop (suc i) ds) ∷ [])) front
      ∙ ap (λ n. first_wrong (dest_wrong s (w ++ take i ds) d ∷ dests_wrong s (w ++ take (i + 1) ds) (drop n ds) ∷ [])) (sym (add-one i))

  pub dest_passes : (i : ℕ) → i < length ds → None ≡ dest_wrong s (w ++ take i ds) (get_or ds i 0) → dests_wrong s (w ++ take (i + 1) ds) (drop (i + 1) ds) ≡ dests_wrong s (w ++ take i ds) (drop i ds)
  dest_passes i h n =
      sym (split i h ∙ passes (dest_wrong s (w ++ take i ds) (get_or ds i 0)) (dests_wrong s (w ++ take (i + 1) ds) (drop (i + 1) ds)) n)

  pub dest_stops : (i : ℕ) (wrong : Breach) → i < length ds → Some wrong ≡ dest_wrong s (w ++ take i ds) (get_or ds i 0) → Some wrong ≡ dests_wrong s (w ++ take i ds) (drop i ds)
  dest_stops i wrong h n =
      stops (dest_wrong s (w ++ take i ds) (get_or ds i 0)) (dests_wrong s (w ++ take (i + 1) ds) (drop (i + 1) ds)) wrong n ∙ sym (split i h)

parts : (vs : List (Option Breach)) (a b c : Option Breach) → first_wrong (vs ++ a ∷ b ∷ c ∷ []) ≡ first_wrong (first_wrong (first_wrong vs ∷ a ∷ []) ∷ b ∷ c ∷ [])
parts [] None b c = refl
parts [] (Some a) b c = refl
parts (None ∷ vs) a b c = parts vs a b c
parts (Some v ∷ vs) a b c = refl

-- the values and their number, the destinations, their number
pub call_parts : (s : Scope) (w : List ℕ) (f : Func) (values : List Expr) (dests : List ℕ) → call_wrong s w (Some f) values dests ≡ first_wrong (first_wrong (first_wrong (map (expr_wrong s w) values) ∷ unless (length values == length f.values) Arity ∷ []) ∷ dests_wrong s w dests ∷ unless (length dests == length f.dests) Arity ∷ [])
call_parts s w f values dests = parts (map (expr_wrong s w) values) (unless (length values == length f.values) Arity) (dests_wrong s w dests) (unless (length dests == length f.dests) Arity)
