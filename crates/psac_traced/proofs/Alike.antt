-- Heaps and records that are alike.
use Rattle.std.proofs.Common.{◌≡◌, Bool, true, false, if◌then◌else◌, List, [], ◌∷◌, ◌++◌, Some, refl, ap, ◌∙◌, subst}
use Rattle.psac_ops.specs.Value.{Value, nil, bool, int, text, ref, pair}
use Rattle.psac_ops.specs.Named.{renamed}
use Rattle.psac_model.specs.Names.{Env}
use Rattle.psac_model.specs.Tree.{Tree, Reads}
use Rattle.psac_model.specs.Tree as tree
use Rattle.psac_naming.specs.Alike.{Both, Each, Alike, AlikeRead, Envs, Tests, Trees}
use Rattle.psac_traced.specs.Rec.{Rec, E, A, W, S, P, R, HeapOf, held_by, writes, tree_of}
use Rattle.psac_traced.specs.Renamed.{Heaps, Recs, env_named, reads_named, rec_named}

pub each_append : {A B : Type 0} (T : A → B → Type 0) (xs more : List A) (ys rest : List B) → Each T xs ys → Each T more rest → Each T (xs ++ more) (ys ++ rest)
each_append T [] more [] rest h k = k
each_append T (x ∷ xs) more (y ∷ ys) rest h k = (h.0, each_append T xs more ys rest h.1 k)
each_append T [] more (y ∷ ys) rest h k = absurd h
each_append T (x ∷ xs) more [] rest h k = absurd h

module _ {M N : Type 0} (T : M → N → Type 0) where
  pub held_alike : (same : M → M → Bool) (test : N → N → Bool) → Tests T same test → (heap : HeapOf M) (heap' : HeapOf N) (m : M) (n : N) → Heaps T heap heap' → T m n → Both (Alike T) (held_by same heap m) (held_by test heap' n)
  held_alike same test tests [] [] m n h k = tt
  held_alike same test tests (p ∷ heap) (q ∷ heap') m n h k =
      subst (λ b. Both (Alike T) (if same p.0 m then Some p.1 else held_by same heap m) (if b then Some q.1 else held_by test heap' n)) (tests p.0 m q.0 n h.0.0 k)
      (elim (same p.0 m) as (λ b. Both (Alike T) (if b then Some p.1 else held_by same heap m) (if b then Some q.1 else held_by test heap' n)) [ true ↦ h.0.1 | false ↦ held_alike same test tests heap heap' m n h.1 k ])
  held_alike same test tests [] (q ∷ heap') m n h k = absurd h
  held_alike same test tests (p ∷ heap) [] m n h k = absurd h

  pub writes_alike : (r : Rec M) (s : Rec N) → Recs T r s → Heaps T (writes r) (writes s)
  writes_alike E E h = tt
  writes_alike (A m r) (A n s) h = writes_alike r s h.1
  writes_alike (W m v r) (W n u s) h =
      each_append (AlikeRead T) (writes r) ((m, v) ∷ []) (writes s) ((n, u) ∷ []) (writes_alike r s h.2) ((h.0, h.1), tt)
  writes_alike (S t r) (S u s) h =
      each_append (AlikeRead T) (writes r) (writes t) (writes s) (writes u) (writes_alike r s h.1) (writes_alike t u h.0)
  writes_alike (P l r) (P k s) h =
      each_append (AlikeRead T) (writes r) (writes l) (writes s) (writes k) (writes_alike r s h.1) (writes_alike l k h.0)
  writes_alike (R room block env reads t) (R level again env' seen u) h = writes_alike t u h.4
  writes_alike _ _ h = absurd h

  pub heaps_then : (r : Rec M) (s : Rec N) (heap : HeapOf M) (heap' : HeapOf N) → Recs T r s → Heaps T heap heap' → Heaps T (writes r ++ heap) (writes s ++ heap')
  heaps_then r s heap heap' h k = each_append (AlikeRead T) (writes r) heap (writes s) heap' (writes_alike r s h) k

  -- the trees of records that are alike
  pub trees_alike : (r : Rec M) (s : Rec N) → Recs T r s → Trees T (tree_of r) (tree_of s)
  trees_alike E E h = tt
  trees_alike (A m r) (A n s) h = trees_alike r s h.1
  trees_alike (W m v r) (W n u s) h = (h.0, h.1, trees_alike r s h.2)
  trees_alike (S t r) (S u s) h = (trees_alike t u h.0, trees_alike r s h.1)
  trees_alike (P l r) (P k s) h = (trees_alike l k h.0, trees_alike r s h.1)
  trees_alike (R room block env reads t) (R level again env' seen u) h = (h.1, h.2, h.3, trees_alike t u h.4)
  trees_alike _ _ h = absurd h

-- what is tied by a function is its image
module _ {M N : Type 0} (T : M → N → Type 0) (f : M → N) (is : (m : M) (n : N) → T m n → f m ≡ n) where
  pub value_image : (v : Value M) (u : Value N) → Alike T v u → renamed f v ≡ u
  value_image nil nil h = refl
  value_image (bool a) (bool b) h = ap bool h
  value_image (int a) (int b) h = ap int h
  value_image (text i k) (text j l) h = ap (λ z. text z k) h.0 ∙ ap (text j) h.1
  value_image (ref m) (ref n) h = ap ref (is m n h)
  value_image (pair k l) (pair m n) h = ap (λ z. pair z (f l)) (is k m h.0) ∙ ap (pair m) (is l n h.1)
  value_image _ _ h = absurd h

  pub env_image : (env : Env M) (env' : Env N) → Envs T env env' → env_named f env ≡ env'
  env_image [] [] h = refl
  env_image (b ∷ env) (c ∷ env') h =
      ap (λ z. (z, renamed f b.1) ∷ env_named f env) h.0.0 ∙ ap (λ z. (c.0, z) ∷ env_named f env) (value_image b.1 c.1 h.0.1) ∙ ap (λ z. c ∷ z) (env_image env env' h.1)
  env_image [] (c ∷ env') h = absurd h
  env_image (b ∷ env) [] h = absurd h

  pub reads_image : (reads : Reads M) (seen : Reads N) → Each (AlikeRead T) reads seen → reads_named f reads ≡ seen
  reads_image [] [] h = refl
  reads_image (r ∷ reads) (s ∷ seen) h =
      ap (λ z. (z, renamed f r.1) ∷ reads_named f reads) (is r.0 s.0 h.0.0) ∙ ap (λ z. (s.0, z) ∷ reads_named f reads) (value_image r.1 s.1 h.0.1) ∙ ap (λ z. s ∷ z) (reads_image reads seen h.1)
  reads_image [] (s ∷ seen) h = absurd h
  reads_image (r ∷ reads) [] h = absurd h

  pub rec_image : (r : Rec M) (s : Rec N) → Recs T r s → rec_named f r ≡ s
  rec_image E E h = refl
  rec_image (A m r) (A n s) h = ap (λ z. A z (rec_named f r)) (is m n h.0) ∙ ap (A n) (rec_image r s h.1)
  rec_image (W m v r) (W n u s) h =
      ap (λ z. W z (renamed f v) (rec_named f r)) (is m n h.0) ∙ ap (λ z. W n z (rec_named f r)) (value_image v u h.1) ∙ ap (W n u) (rec_image r s h.2)
  rec_image (S t r) (S u s) h = ap (λ z. S z (rec_named f r)) (rec_image t u h.0) ∙ ap (S u) (rec_image r s h.1)
  rec_image (P l r) (P k s) h = ap (λ z. P z (rec_named f r)) (rec_image l k h.0) ∙ ap (P k) (rec_image r s h.1)
  rec_image (R room block env reads t) (R level again env' seen u) h =
      ap (λ z. R z block (env_named f env) (reads_named f reads) (rec_named f t)) h.0 ∙ ap (λ z. R level z (env_named f env) (reads_named f reads) (rec_named f t)) h.1
      ∙ ap (λ z. R level again z (reads_named f reads) (rec_named f t)) (env_image env env' h.2)
      ∙ ap (λ z. R level again env' z (rec_named f t)) (reads_image reads seen h.3)
      ∙ ap (R level again env' seen) (rec_image t u h.4)
  rec_image _ _ h = absurd h

  pub tree_image : (r : Rec M) (t : Tree N) → Trees T (tree_of r) t → tree_of (rec_named f r) ≡ t
  tree_image E tree.E h = refl
  tree_image (A m r) (tree.A t) h = ap tree.A (tree_image r t h)
  tree_image (W m v r) (tree.W n u t) h =
      ap (λ z. tree.W z (renamed f v) (tree_of (rec_named f r))) (is m n h.0) ∙ ap (λ z. tree.W n z (tree_of (rec_named f r))) (value_image v u h.1) ∙ ap (tree.W n u) (tree_image r t h.2)
  tree_image (S a r) (tree.S b t) h = ap (λ z. tree.S z (tree_of (rec_named f r))) (tree_image a b h.0) ∙ ap (tree.S b) (tree_image r t h.1)
  tree_image (P a r) (tree.P b t) h = ap (λ z. tree.P z (tree_of (rec_named f r))) (tree_image a b h.0) ∙ ap (tree.P b) (tree_image r t h.1)
  tree_image (R room block env reads a) (tree.R again env' seen b) h =
      ap (λ z. tree.R z (env_named f env) (reads_named f reads) (tree_of (rec_named f a))) h.0 ∙ ap (λ z. tree.R again z (reads_named f reads) (tree_of (rec_named f a))) (env_image env env' h.1)
      ∙ ap (λ z. tree.R again env' z (tree_of (rec_named f a))) (reads_image reads seen h.2)
      ∙ ap (tree.R again env' seen) (tree_image a b h.3)
  tree_image _ _ h = absurd h
