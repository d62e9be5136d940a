-- Values, environments, reads and trees over two sorts of names, alike but for names that a relation ties.
use Rattle.std.specs.Prelude.{◌≡◌, ℕ, Bool, true, nat_lt, List, [], ◌∷◌, Option, Some, None, Result, Ok, Err}
use Rattle.psac_ops.specs.Value.{Value, nil, bool, int, text, ref, pair}
use Rattle.psac_model.specs.Names.{Env}
use Rattle.psac_model.specs.Expression.{Setting}
use Rattle.psac_model.specs.Tree.{Tree, Reads}
use Rattle.psac_model.specs.Tree as tree

-- two results that are both good and tied, or the same fault
abbrev pub Agree : {A B E : Type 0} → (A → B → Type 0) → Result A E → Result B E → Type 0
Agree T (Ok x) (Ok y) = T x y
Agree T (Err j) (Err k) = j ≡ k
Agree T (Ok x) (Err k) = ⊥
Agree T (Err j) (Ok y) = ⊥

abbrev pub Both : {A B : Type 0} → (A → B → Type 0) → Option A → Option B → Type 0
Both T (Some x) (Some y) = T x y
Both T None None = Unit {0}
Both T (Some x) None = ⊥
Both T None (Some y) = ⊥

-- two lists of one length, tied item by item
abbrev pub Each : {A B : Type 0} → (A → B → Type 0) → List A → List B → Type 0
Each T [] [] = Unit {0}
Each T (x ∷ xs) (y ∷ ys) = T x y × Each T xs ys
Each T [] (y ∷ ys) = ⊥
Each T (x ∷ xs) [] = ⊥

module _ {M N : Type 0} (T : M → N → Type 0) where
  abbrev pub Alike : Value M → Value N → Type 0
  Alike nil nil = Unit {0}
  Alike (bool a) (bool b) = a ≡ b
  Alike (int a) (int b) = a ≡ b
  Alike (text i k) (text j l) = (i ≡ j) × (k ≡ l)
  Alike (ref m) (ref n) = T m n
  Alike (pair k l) (pair m n) = T k m × T l n
  Alike _ _ = ⊥

  abbrev pub AlikeBound : ℕ × Value M → ℕ × Value N → Type 0
  AlikeBound a b = (a.0 ≡ b.0) × Alike a.1 b.1

  -- the same names of the program in the same order, with values that are alike
  abbrev pub Envs : Env M → Env N → Type 0
  Envs = Each AlikeBound

  abbrev pub AlikeRead : M × Value M → N × Value N → Type 0
  AlikeRead a b = T a.0 b.0 × Alike a.1 b.1

  -- trees of one shape
  abbrev pub Trees : Tree M → Tree N → Type 0
  Trees tree.E tree.E = Unit {0}
  Trees (tree.A t) (tree.A u) = Trees t u
  Trees (tree.W m v t) (tree.W n w u) = T m n × Alike v w × Trees t u
  Trees (tree.S t more) (tree.S u rest) = Trees t u × Trees more rest
  Trees (tree.P l r) (tree.P k s) = Trees l k × Trees r s
  Trees (tree.R block env reads t) (tree.R again env' seen u) = (block ≡ again) × Envs env env' × Each AlikeRead reads seen × Trees t u
  Trees _ _ = ⊥

  -- the same numbers and texts, and names of the inputs that are tied
  pub record Settings (w : Setting M) (u : Setting N) : Type 0 where
    pub opened : w.opened ≡ u.opened
    pub room : w.room ≡ u.room
    pub cols : w.cols ≡ u.cols
    pub texts : w.texts ≡ u.texts
    pub cells : (r c : ℕ) → nat_lt r w.room ≡ true → nat_lt c w.cols ≡ true → T (w.cell r c) (u.cell r c)
    pub row_count : T w.row_count u.row_count

  -- two tests for the same name that tell the same of tied names
  abbrev pub Tests : (M → M → Bool) → (N → N → Bool) → Type 0
  Tests same test = (m k : M) (n l : N) → T m n → T k l → same m k ≡ test n l
