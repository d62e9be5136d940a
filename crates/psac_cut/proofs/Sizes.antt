-- Sizes of what a run that was cut short drew.
use Rattle.std.proofs.Common.{◌≡◌, ℕ, ◌+◌, ◌≤◌, ◌++◌, length, length-append, ap, sym, ◌∙◌, subst, arith}
use Rattle.psac_model.specs.declared.ends.Size.{Size}
use Rattle.psac_model.specs.declared.ends.End.{End}
use Rattle.psac_model.specs.declared.ends.End.TheVariants.{Done, Stop}
use Rattle.psac_model.specs.Names.{Name, Env, Heap}
use Rattle.psac_model.specs.Tree.{Reads, size_of, add_size, one_s, one_p, one_r, one_mod}
use Rattle.psac_model.specs.Run.{Ran, sequence_by}
use Rattle.psac_traced.specs.Rec.{Rec, E, A, S, P, R, tree_of}
use Rattle.psac_cut.specs.Within.{drew, IsWithin}

-- nothing
pub none_within : (M : Type 0) (n : ℕ) (z : Size) → n ≡ 0 → IsWithin (drew {N = M} E n) z
none_within M n z h = record { nodes = omega arith; mods = omega arith; links = omega arith }

pub vain_within : (M : Type 0) (n : ℕ) (z : Size) → n ≤ 1 → IsWithin (drew {N = M} E n) (add_size one_mod z)
vain_within M n z h = record { nodes = omega arith; mods = omega arith; links = omega arith }

module _ {M : Type 0} where
  -- one more modifiable
  pub made_within : (m : M) (r : Rec M) (n : ℕ) (z : Size) → IsWithin (drew r n) z → IsWithin (drew (A m r) n) (add_size one_mod z)
  made_within m r n z h = record { nodes = omega arith; mods = omega arith; links = omega arith }

  -- a compound statement that is cut short, whatever stands behind it
  pub broken_within : (t : Rec M) (n : ℕ) (e : End) (x : Ran Name Heap) (rest : Heap → Ran Name Heap) → IsWithin (drew t n) (size_of x.tree) → IsWithin (drew (S t E) n) (size_of (sequence_by e x rest).tree)
  broken_within t n Done x rest h = record { nodes = omega arith; mods = omega arith; links = omega arith }
  broken_within t n (Stop k line) x rest h = record { nodes = omega arith; mods = omega arith; links = omega arith }

  -- one that is done, and the rest
  pub done_within : (t r : Rec M) (n : ℕ) (a b : Size) → size_of (tree_of t) ≡ a → IsWithin (drew r n) b → IsWithin (drew (S t r) n) (add_size one_s (add_size a b))
  done_within t r n a b e h =
      subst (λ z. IsWithin (drew (S t r) n) (add_size one_s (add_size z b))) e (record { nodes = omega arith; mods = omega arith; links = omega arith })

  -- both sides
  pub sides_within : (l k : Rec M) (a b n : ℕ) (x y : Size) → a + b ≡ n → IsWithin (drew l a) x → IsWithin (drew k b) y → IsWithin (drew (P l k) n) (add_size one_p (add_size x y))
  sides_within l k a b n x y e h i = record { nodes = omega arith; mods = omega arith; links = omega arith }

  pub right_within : (l k : Rec M) (n : ℕ) (x y : Size) → size_of (tree_of l) ≡ x → IsWithin (drew k n) y → IsWithin (drew (P l k) n) (add_size one_p (add_size x y))
  right_within l k n x y e h =
      subst (λ z. IsWithin (drew (P l k) n) (add_size one_p (add_size z y))) e (record { nodes = omega arith; mods = omega arith; links = omega arith })

  -- a block with some of its reads
  pub block_within : (room block : ℕ) (env : Env M) (seen more reads : Reads M) (t : Rec M) (n links : ℕ) (z : Size) → seen ++ more ≡ reads → length reads ≡ links → IsWithin (drew t n) z → IsWithin (drew (R room block env seen t) n) (add_size (one_r links) z)
  block_within room block env seen more reads t n links z e l h =
      let long : length seen + length more ≡ links = sym (length-append seen more) ∙ ap length e ∙ l in
      record { nodes = omega arith; mods = omega arith; links = omega arith }
