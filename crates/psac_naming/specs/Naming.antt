-- Modifiables and the names by paths that they stand for, while a run makes more of them.
use Rattle.std.specs.Prelude.{◌≡◌, Bool, true, List, [], ◌∷◌, ◌++◌, ◌⊎◌}
use Rattle.psac_ops.specs.Value.{Value}
use Rattle.psac_model.specs.Names.{Path, Name, Made, Heap, held}
use Rattle.psac_model.specs.Run.{Store, Ran, by_path_in}
use Rattle.psac_naming.specs.Alike.{Alike, Both, Trees}

-- modifiables with the names that they stand for
abbrev pub Naming : Type 0 → Type 0
Naming M = List (M × Name)

module _ {M : Type 0} where
  abbrev pub IsNamed : Naming M → M → Name → Type 0
  IsNamed [] m n = ⊥
  IsNamed (p ∷ ns) m n = ((p.0 ≡ m) × (p.1 ≡ n)) ⊎ IsNamed ns m n

  -- a modifiable has one name, and a name one modifiable
  abbrev pub IsOneToOne : Naming M → Type 0
  IsOneToOne ns = (m k : M) (n l : Name) → IsNamed ns m n → IsNamed ns k l → (m ≡ k → n ≡ l) × (n ≡ l → m ≡ k)

  -- a test that is true of a modifiable and itself alone
  pub record IsSameTest (same : M → M → Bool) : Type 0 where
    pub itself : (m : M) → same m m ≡ true
    pub alone : (m k : M) → same m k ≡ true → m ≡ k

  -- no name at the path or below it is given yet
  abbrev pub Unused : Path → Naming M → Type 0
  Unused path ns = (m : M) (q : Path) → IsNamed ns m (Made (path ++ q)) → ⊥

-- the name is that of the path, or of one below it
abbrev pub IsUnder : Path → Name → Type 0
IsUnder path n = (q : Path) × (n ≡ Made (path ++ q))

module _ {M H : Type 0} where
  -- the names by paths, where the same side of each par is run first
  abbrev pub names_like : Store M H → Store Name Heap
  names_like st = by_path_in (record { get = held; left_first = st.left_first })

  -- a store that keeps its link to the heap of names: each of its steps keeps it, and a modifiable has its name's value
  pub record Keeps (st : Store M H) (Linked : Naming M → H → Heap → Type 0) : Type 0 where
    pub one : (ns : Naming M) (h : H) (heap : Heap) → Linked ns h heap → IsOneToOne ns
    pub gets : (ns : Naming M) (h : H) (heap : Heap) (m : M) (n : Name) → Linked ns h heap → IsNamed ns m n → Both (Alike (IsNamed ns)) (st.get h m) (held heap n)
    pub puts : (ns : Naming M) (h : H) (heap : Heap) (m : M) (n : Name) (v : Value M) (u : Value Name) → Linked ns h heap → IsNamed ns m n → Alike (IsNamed ns) v u → Linked ns (st.put h m v) ((n, u) ∷ heap)
    pub opens : (ns : Naming M) (h : H) (heap : Heap) (path : Path) → Linked ns h heap → ((m : M) → IsNamed ns m (Made path) → ⊥) → Linked (ns ++ (st.fresh path h, Made path) ∷ []) (st.opened h (st.fresh path h)) heap

  -- what a run leaves beside the run over names by paths: more names, all below its path, the same end, and trees that are alike
  pub record After (Linked : Naming M → H → Heap → Type 0) (path : Path) (ns : Naming M) (r : Ran M H) (s : Ran Name Heap) : Type 0 where
    pub more : Naming M
    pub below : (m : M) (n : Name) → IsNamed more m n → IsUnder path n
    pub linked : Linked (ns ++ more) r.heap s.heap
    pub ends : r.end ≡ s.end
    pub trees : Trees (IsNamed (ns ++ more)) r.tree s.tree
