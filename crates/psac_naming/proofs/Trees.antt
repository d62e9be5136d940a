-- What is alike stays so under more names, and trees that are alike are of one size.
use Rattle.std.proofs.Common.{◌≡◌, length, Option, Some, None, refl, ap, ◌∙◌}
use Rattle.psac_ops.specs.Value.{Value, nil, bool, int, text, ref, pair}
use Rattle.psac_model.specs.Names.{Env}
use Rattle.psac_model.specs.Tree.{Tree, Reads, size_of, add_size, one_s, one_p, one_r, one_mod}
use Rattle.psac_model.specs.Tree as tree
use Rattle.psac_naming.specs.Alike.{Alike, AlikeBound, AlikeRead, Both, Each, Envs, Trees}
use Rattle.psac_naming.proofs.Agrees.{each_more, each_length}

module _ {M N : Type 0} (T U : M → N → Type 0) (k : (m : M) (n : N) → T m n → U m n) where
  pub alike_more : (v : Value M) (u : Value N) → Alike T v u → Alike U v u
  alike_more nil nil h = tt
  alike_more (bool a) (bool b) h = h
  alike_more (int a) (int b) h = h
  alike_more (text i l) (text j m) h = h
  alike_more (ref m) (ref n) h = k m n h
  alike_more (pair a b) (pair c d) h = (k a c h.0, k b d h.1)
  alike_more _ _ h = absurd h

  pub both_more : (v : Option (Value M)) (u : Option (Value N)) → Both (Alike T) v u → Both (Alike U) v u
  both_more (Some v) (Some u) h = alike_more v u h
  both_more None None h = tt
  both_more (Some v) None h = absurd h
  both_more None (Some u) h = absurd h

  pub envs_more : (env : Env M) (env' : Env N) → Envs T env env' → Envs U env env'
  envs_more env env' h = each_more (AlikeBound T) (AlikeBound U) (λ a b i. (i.0, alike_more a.1 b.1 i.1)) env env' h

  pub reads_more : (reads : Reads M) (seen : Reads N) → Each (AlikeRead T) reads seen → Each (AlikeRead U) reads seen
  reads_more reads seen h = each_more (AlikeRead T) (AlikeRead U) (λ a b i. (k a.0 b.0 i.0, alike_more a.1 b.1 i.1)) reads seen h

  pub trees_more : (t : Tree M) (u : Tree N) → Trees T t u → Trees U t u
  trees_more tree.E tree.E h = tt
  trees_more (tree.A t) (tree.A u) h = trees_more t u h
  trees_more (tree.W m v t) (tree.W n w u) h = (k m n h.0, alike_more v w h.1, trees_more t u h.2)
  trees_more (tree.S t more) (tree.S u rest) h = (trees_more t u h.0, trees_more more rest h.1)
  trees_more (tree.P l r) (tree.P m s) h = (trees_more l m h.0, trees_more r s h.1)
  trees_more (tree.R block env reads t) (tree.R again env' seen u) h =
      (h.0, envs_more env env' h.1, reads_more reads seen h.2, trees_more t u h.3)
  trees_more _ _ h = absurd h

module _ {M N : Type 0} (T : M → N → Type 0) where
  pub trees_size : (t : Tree M) (u : Tree N) → Trees T t u → size_of t ≡ size_of u
  trees_size tree.E tree.E h = refl
  trees_size (tree.A t) (tree.A u) h = ap (add_size one_mod) (trees_size t u h)
  trees_size (tree.W m v t) (tree.W n w u) h = trees_size t u h.2
  trees_size (tree.S t more) (tree.S u rest) h =
      ap (λ z. add_size one_s (add_size z (size_of more))) (trees_size t u h.0) ∙ ap (λ z. add_size one_s (add_size (size_of u) z)) (trees_size more rest h.1)
  trees_size (tree.P l r) (tree.P m s) h =
      ap (λ z. add_size one_p (add_size z (size_of r))) (trees_size l m h.0) ∙ ap (λ z. add_size one_p (add_size (size_of m) z)) (trees_size r s h.1)
  trees_size (tree.R block env reads t) (tree.R again env' seen u) h =
      ap (λ n. add_size (one_r n) (size_of t)) (each_length (AlikeRead T) reads seen h.2) ∙ ap (add_size (one_r (length seen))) (trees_size t u h.3)
  trees_size _ _ h = absurd h
