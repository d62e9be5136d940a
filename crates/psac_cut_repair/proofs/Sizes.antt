-- The record that a repair left, also one that stopped, has at most what the old one has and what was made.
use Rattle.std.proofs.Common.{◌≡◌, if◌then◌else◌, List, ◌∷◌, ◌++◌, length, ap, sym, ◌∙◌, subst, inl, inr, arith}
use Rattle.std.proofs.lemmas.List.{length-map}
use Rattle.psac_ops.specs.Value.{Value}
use Rattle.psac_syntax.specs.declared.program.Stmt.{Stmt}
use Rattle.psac_syntax.specs.declared.program.Func.{Func}
use Rattle.psac_model.specs.declared.ends.Size.{Size}
use Rattle.psac_model.specs.declared.ends.End.{End}
use Rattle.psac_model.specs.declared.ends.End.TheVariants.{Done, Stop}
use Rattle.psac_model.specs.Expression.{Setting}
use Rattle.psac_model.specs.Tree.{Reads, size_of, no_size, add_size, one_s, one_p, one_r, one_mod}
use Rattle.psac_naming.specs.Naming.{IsSameTest}
use Rattle.psac_traced.specs.Rec.{Rec, E, A, W, S, P, R, HeapOf, writes, tree_of}
use Rattle.psac_traced.specs.Holds.{read_names}
use Rattle.psac_traced.specs.Mending.{unlike, mended, anew, below}
use Rattle.psac_traced.specs.Mended.{Behind, Mended}
use Rattle.psac_cut.specs.Within.{IsWithin}
use Rattle.psac_cut_repair.proofs.Cutting.{like_itself}

none_long : (z : Size) → IsWithin no_size z
none_long z = record { nodes = omega arith; mods = omega arith; links = omega arith }

one_more : (z a x p : Size) → IsWithin a (add_size x p) → IsWithin (add_size z a) (add_size (add_size z x) p)
one_more z a x p h = record { nodes = omega arith; mods = omega arith; links = omega arith }

two_more : (z a b x y p q : Size) → IsWithin a (add_size x p) → IsWithin b (add_size y q) → IsWithin (add_size z (add_size a b)) (add_size (add_size z (add_size x y)) (add_size p q))
two_more z a b x y p q h k = record { nodes = omega arith; mods = omega arith; links = omega arith }

instead : (z a x : Size) → IsWithin (add_size z a) (add_size (add_size z x) a)
instead z a x = record { nodes = omega arith; mods = omega arith; links = omega arith }

module _ {N : Type 0} where
  same_long : (reads again : Reads N) → read_names reads ≡ read_names again → length reads ≡ length again
  same_long reads again h =
      sym (length-map reads (λ (r : N × Value N). r.0)) ∙ ap length h ∙ length-map again (λ (r : N × Value N). r.0)

module _ {N : Type 0} (w : Setting N) (is : IsSameTest w.same) (funcs : List Func) (Q : List Stmt → Type 0) where
  -- what the old record has, and what was made
  abbrev most : Rec N → Rec N → Size
  most old new = add_size (size_of (tree_of old)) (mended w.same old new).added

  behind_long : (e : End) (more : Type 0) (old new : Rec N) (end : End) → (more → IsWithin (size_of (tree_of new)) (most old new)) → Behind e more new end → IsWithin (size_of (tree_of new)) (most old new)
  behind_long Done more old new end f h = f h
  behind_long (Stop k line) more old new end f h = subst (λ z. IsWithin (size_of (tree_of z)) (most old z)) (sym h.0) (none_long (most old E))

  pub mended_long : (other : HeapOf N) (old new : Rec N) (end : End) → Mended w funcs Q other old new end → IsWithin (size_of (tree_of new)) (most old new)
  mended_long other E E end h = none_long (most E E)
  mended_long other (A m old) (A k new) end h = one_more one_mod (size_of (tree_of new)) (size_of (tree_of old)) (mended w.same old new).added (mended_long other old new end h.1)
  mended_long other (W m v old) (W k u new) end h = mended_long ((k, u) ∷ other) old new end h.2
  mended_long other (S t old) (S u new) end h =
      two_more one_s (size_of (tree_of u)) (size_of (tree_of new)) (size_of (tree_of t)) (size_of (tree_of old)) (mended w.same t u).added (mended w.same old new).added (mended_long other t u h.0 h.1)
      (behind_long h.0 (Mended w funcs Q (writes u ++ other) old new end) old new end (mended_long (writes u ++ other) old new end) h.2)
  mended_long other (P l k) (P t u) end h =
      two_more one_p (size_of (tree_of t)) (size_of (tree_of u)) (size_of (tree_of l)) (size_of (tree_of k)) (mended w.same l t).added (mended w.same k u).added (mended_long other l t h.0 h.2) (mended_long (writes t ++ other) k u h.1 h.3)
  mended_long other (R room b saved reads t) (R level c kept again u) end h =
      let long = same_long reads again h.3 in
      subst (λ n. IsWithin (add_size (one_r n) (size_of (tree_of u))) (most (R room b saved reads t) (R level c kept again u))) long
      (elim h.5 [
        | inl i ↦
            subst (λ z. IsWithin (add_size (one_r (length reads)) (size_of (tree_of u))) (add_size (add_size (one_r (length reads)) (size_of (tree_of t))) (if z then anew t u else below (mended w.same t u)).added)) (sym (ap (λ z. unlike w.same z again) i.0 ∙ like_itself w.same is again))
            (one_more (one_r (length reads)) (size_of (tree_of u)) (size_of (tree_of t)) (mended w.same t u).added (mended_long other t u end i.1))
        | inr i ↦
            subst (λ z. IsWithin (add_size (one_r (length reads)) (size_of (tree_of u))) (add_size (add_size (one_r (length reads)) (size_of (tree_of t))) (if z then anew t u else below (mended w.same t u)).added)) (sym i.0)
            (instead (one_r (length reads)) (size_of (tree_of u)) (size_of (tree_of t)))
      ])
  mended_long other _ _ end h = absurd h
