-- What a repair that was cut short drew, told part by part.
use Rattle.std.proofs.Common.{◌≡◌, ℕ, ◌+◌, Bool, true, false, if◌then◌else◌, refl, ap, arith}
use Rattle.psac_model.specs.declared.ends.Size.{Size}
use Rattle.psac_model.specs.Names.{Env}
use Rattle.psac_model.specs.Tree.{Reads, no_size, add_size}
use Rattle.psac_traced.specs.Rec.{Rec, E, S, P, R}
use Rattle.psac_traced.specs.Mending.{Mending, unlike, mended, anew, below}
use Rattle.psac_cut.specs.Within.{some_mods, drew}
use Rattle.psac_cut_repair.specs.Creates.{cut_drew}
use Rattle.psac_cut_repair.proofs.Walked.{none_mended}

size_is : (s t p q r v m n l k : ℕ) → s ≡ t → p ≡ q → r ≡ v → m ≡ n → l ≡ k → (let z : Size = record { s = s; p = p; r = r; mods = m; links = l } in z ≡ record { s = t; p = q; r = v; mods = n; links = k })
size_is s t p q r v m n l k a b c d e = rw (a, b, c, d, e) refl

both_sizes : (x y : Size) (a b : ℕ) → add_size (add_size x y) (some_mods (a + b)) ≡ add_size (add_size x (some_mods a)) (add_size y (some_mods b))
both_sizes x y a b = size_is _ _ _ _ _ _ _ _ _ _ (omega arith) (omega arith) (omega arith) (omega arith) (omega arith)

module _ {M : Type 0} (same : M → M → Bool) where
  -- nothing where a part wasn't reached
  pub drew_none : (old : Rec M) → cut_drew same old E 0 ≡ no_size
  drew_none old = ap (λ (d : Mending M). add_size d.added (some_mods 0)) (none_mended same old)

  -- of two parts, one behind the other or beside it
  pub drew_both : (t old u new : Rec M) (a b : ℕ) → cut_drew same (S t old) (S u new) (a + b) ≡ add_size (cut_drew same t u a) (cut_drew same old new b)
  drew_both t old u new a b = both_sizes (mended same t u).added (mended same old new).added a b

  pub drew_sides : (l k t u : Rec M) (a b : ℕ) → cut_drew same (P l k) (P t u) (a + b) ≡ add_size (cut_drew same l t a) (cut_drew same k u b)
  drew_sides l k t u a b = both_sizes (mended same l t).added (mended same k u).added a b

  module _ (room level b c : ℕ) (saved kept : Env M) (reads again : Reads M) (t u : Rec M) (n : ℕ) where
    -- what its body drew, of a block that read what is present, and all that was run, of one that didn't
    pub drew_in_block : unlike same reads again ≡ false → cut_drew same (R room b saved reads t) (R level c kept again u) n ≡ cut_drew same t u n
    drew_in_block e = ap (λ z. add_size (if z then anew t u else below (mended same t u)).added (some_mods n)) e

    pub drew_again : unlike same reads again ≡ true → cut_drew same (R room b saved reads t) (R level c kept again u) n ≡ drew u n
    drew_again e = ap (λ z. add_size (if z then anew t u else below (mended same t u)).added (some_mods n)) e
