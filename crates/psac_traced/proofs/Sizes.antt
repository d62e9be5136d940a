-- Sizes of records and of parts of trees.
use Rattle.std.proofs.Common.{◌≡◌, ℕ, ◌+◌, Bool, true, false, [], ◌∷◌, ◌++◌, length, refl, ap, sym, ◌∙◌, append_assoc, append-nil, arith, zero-add}
use Rattle.std.proofs.lemmas.List.{length-map}
use Rattle.psac_model.specs.declared.ends.Size.{Size}
use Rattle.psac_model.specs.Names.{Path, Name}
use Rattle.psac_model.specs.Tree.{Tree, size_of, no_size, add_size, one_s, one_p, one_r, one_mod}
use Rattle.psac_model.specs.Tree as tree
use Rattle.psac_model.specs.Fresh.{nodes_of}
use Rattle.psac_model.specs.Work.{part, counted}
use Rattle.psac_traced.specs.Rec.{Rec, E, A, W, S, P, R, tree_of}
use Rattle.psac_traced.specs.Renamed.{rec_named}

-- a record has the size of its image
pub size_named : {M N : Type 0} (f : M → N) (r : Rec M) → size_of (tree_of (rec_named f r)) ≡ size_of (tree_of r)
size_named f E = refl
size_named f (A m r) = ap (add_size one_mod) (size_named f r)
size_named f (W m v r) = size_named f r
size_named f (S t r) =
    ap (λ z. add_size one_s (add_size z (size_of (tree_of (rec_named f r))))) (size_named f t) ∙ ap (λ z. add_size one_s (add_size (size_of (tree_of t)) z)) (size_named f r)
size_named f (P t r) =
    ap (λ z. add_size one_p (add_size z (size_of (tree_of (rec_named f r))))) (size_named f t) ∙ ap (λ z. add_size one_p (add_size (size_of (tree_of t)) z)) (size_named f r)
size_named f (R room block env reads t) =
    ap (λ n. add_size (one_r n) (size_of (tree_of (rec_named f t)))) (length-map reads _) ∙ ap (add_size (one_r (length reads))) (size_named f t)

pub add_none : (z : Size) → add_size no_size z ≡ z
add_none z = λ i. record { s = zero-add z.s i; p = zero-add z.p i; r = zero-add z.r i; mods = zero-add z.mods i; links = zero-add z.links i }

pub nodes_add : (a b : Size) → nodes_of (add_size a b) ≡ nodes_of a + nodes_of b
nodes_add a b = omega arith

-- a part that isn't counted
pub skipped : (b : Bool) (z x : Size) → b ≡ false → add_size (part b z) x ≡ x
skipped b z x h = rw h (add_none x)

part_add : (b : Bool) (x y : Size) → add_size (part b x) (part b y) ≡ part b (add_size x y)
part_add true x y = refl
part_add false x y = refl

module _ (test : Path → Bool) (p : Path) (g : Path → Bool) (h : (q : Path) → test (p ++ q) ≡ g q) where
  -- what a test from a path on tells of the path, and from a turn on
  pub here : test p ≡ g []
  here = ap test (sym (append-nil p)) ∙ h []

  pub turned : (x : ℕ) (q : Path) → test ((p ++ x ∷ []) ++ q) ≡ g (x ∷ q)
  turned x q = ap test (append_assoc p (x ∷ []) q) ∙ h (x ∷ q)

-- a test that tells the same of a whole tree
pub counted_whole : (b : Bool) (test : Path → Bool) (p : Path) (t : Tree Name) → ((q : Path) → test (p ++ q) ≡ b) → counted test p t ≡ part b (size_of t)
counted_whole true test p tree.E h = refl
counted_whole false test p tree.E h = refl
counted_whole b test p (tree.A t) h =
    ap (λ z. add_size (part z one_mod) (counted test (p ++ 3 ∷ []) t)) (here test p (λ q. b) h)
    ∙ ap (add_size (part b one_mod)) (counted_whole b test (p ++ 3 ∷ []) t (turned test p (λ q. b) h 3))
    ∙ part_add b one_mod (size_of t)
counted_whole b test p (tree.W m v t) h = counted_whole b test (p ++ 3 ∷ []) t (turned test p (λ q. b) h 3)
counted_whole b test p (tree.S t u) h =
    ap (λ z. add_size (part z one_s) (add_size (counted test (p ++ 0 ∷ []) t) (counted test (p ++ 1 ∷ []) u))) (here test p (λ q. b) h)
    ∙ ap (λ z. add_size (part b one_s) (add_size z (counted test (p ++ 1 ∷ []) u))) (counted_whole b test (p ++ 0 ∷ []) t (turned test p (λ q. b) h 0))
    ∙ ap (λ z. add_size (part b one_s) (add_size (part b (size_of t)) z)) (counted_whole b test (p ++ 1 ∷ []) u (turned test p (λ q. b) h 1))
    ∙ ap (add_size (part b one_s)) (part_add b (size_of t) (size_of u))
    ∙ part_add b one_s (add_size (size_of t) (size_of u))
counted_whole b test p (tree.P t u) h =
    ap (λ z. add_size (part z one_p) (add_size (counted test (p ++ 0 ∷ []) t) (counted test (p ++ 1 ∷ []) u))) (here test p (λ q. b) h)
    ∙ ap (λ z. add_size (part b one_p) (add_size z (counted test (p ++ 1 ∷ []) u))) (counted_whole b test (p ++ 0 ∷ []) t (turned test p (λ q. b) h 0))
    ∙ ap (λ z. add_size (part b one_p) (add_size (part b (size_of t)) z)) (counted_whole b test (p ++ 1 ∷ []) u (turned test p (λ q. b) h 1))
    ∙ ap (add_size (part b one_p)) (part_add b (size_of t) (size_of u))
    ∙ part_add b one_p (add_size (size_of t) (size_of u))
counted_whole b test p (tree.R block env reads t) h =
    ap (λ z. add_size (part z (one_r (length reads))) (counted test (p ++ 2 ∷ []) t)) (here test p (λ q. b) h)
    ∙ ap (add_size (part b (one_r (length reads)))) (counted_whole b test (p ++ 2 ∷ []) t (turned test p (λ q. b) h 2))
    ∙ part_add b (one_r (length reads)) (size_of t)
