-- Where no two read blocks of a program have one number, a number is that of one block.
use Rattle.std.proofs.Common.{◌≡◌, ◌≢◌, ℕ, List, [], ◌∷◌, ◌++◌, map, flat_map, find, length, Contains, AllPairs, Some, ◌==◌, if◌then◌else◌, Bool, true, false, refl, ap, sym, ◌∙◌, subst, inl, inr, arith, zero-lt-suc, get_or, eq-or-lt_of_le}
use Rattle.std.proofs.lemmas.List.{length-map, get_or-map, get_or_default}
use Rattle.std.proofs.lemmas.Bool.Decides.{leb_tells}
use Rattle.std.proofs.lemmas.List.Elements.{Contains-append_left, Contains-append_right}
use Rattle.psac_syntax.specs.declared.program.Stmt.{Stmt, out-Stmt, roll-Stmt, map-Stmt}
use Rattle.psac_syntax.specs.declared.program.Stmt.TheOpen.{Stmt-F}
use Rattle.psac_syntax.specs.declared.program.Stmt.TheFolds.{fold-Stmt, fold-roll-Stmt, ind-Stmt}
use Rattle.psac_syntax.specs.declared.program.ReadItem.{ReadItem}
use Rattle.psac_syntax.specs.declared.program.Func.{Func}
use Rattle.psac_syntax.proofs.Folds.{stmt_fold_is, stmt_fold_out}
use Rattle.psac_syntax.specs.declared.program.Program.{Program}
use Rattle.psac_model.specs.Run.{func_named}
use Rattle.psac_model.specs.Fresh.{main_of, is_named_main}
use Rattle.psac_traced.specs.Bodies.{IsCode, IsNumbered, itself, behind, block, first, second, left, right, called}
use Rattle.psac_traced.specs.Blocks.{Block, Found, all_found, found, found_step, found_in, blocks_in, blocks_of, numbers_of}

-- each statement is found as itself
module _ {I : Type 0} (f : Stmt → Found) (h : I → Stmt) (is : (i : I) → (f (h i)).0 ≡ h i) where
  list_itself : (xs : List I) → map (λ (a : Found). a.0) (map f (map h xs)) ≡ map h xs
  list_itself [] = refl
  list_itself (i ∷ xs) = ap (λ z. z ∷ map (λ (a : Found). a.0) (map f (map h xs))) (is i) ∙ ap (λ z. h i ∷ z) (list_itself xs)

  layer_itself : (y : Stmt-F I) → map-Stmt Found Stmt (λ a. a.0) (map-Stmt Stmt Found f (map-Stmt I Stmt h y)) ≡ map-Stmt I Stmt h y
  layer_itself (Stmt-F.Let line x e) = refl
  layer_itself (Stmt-F.New line d) = refl
  layer_itself (Stmt-F.Write line d e) = refl
  layer_itself (Stmt-F.Read line number items body) = ap (Stmt-F.Read line number items) (list_itself body)
  layer_itself (Stmt-F.If line e one other) =
      ap (λ z. Stmt-F.If line e z (map (λ (a : Found). a.0) (map f (map h other)))) (list_itself one) ∙ ap (Stmt-F.If line e (map h one)) (list_itself other)
  layer_itself (Stmt-F.Par line one other) =
      ap (λ z. Stmt-F.Par line z (map (λ (a : Found). a.0) (map f (map h other)))) (list_itself one) ∙ ap (Stmt-F.Par line (map h one)) (list_itself other)
  layer_itself (Stmt-F.Call line g values dests) = refl

folded_itself : (s : Stmt) → (fold-Stmt Found found_step s).0 ≡ s
folded_itself =
    ind-Stmt (λ s. (fold-Stmt Found found_step s).0 ≡ s) (λ x y is.
    let f : Stmt → Found = fold-Stmt Found found_step in
    let P : Stmt-F Stmt → Type 0 = λ z. map-Stmt Found Stmt (λ a. a.0) (map-Stmt Stmt Found f z) ≡ z in
    ap (λ (a : Found). a.0) (fold-roll-Stmt Found found_step x) ∙ ap roll-Stmt (subst P is (layer_itself f (λ i. i.0) (λ i. i.1) y)))

found_itself : (s : Stmt) → (found_in s).0 ≡ s
unfolding found_in
found_itself s = ap (λ (a : Found). a.0) (stmt_fold_is Found found_step s) ∙ folded_itself s

bodies_itself : (body : List Stmt) → map (λ (a : Found). a.0) (map found_in body) ≡ body
bodies_itself [] = refl
bodies_itself (s ∷ body) = ap (λ z. z ∷ map (λ (a : Found). a.0) (map found_in body)) (found_itself s) ∙ ap (λ z. s ∷ z) (bodies_itself body)

all_is : (body : List Stmt) → all_found (map found_in body) ≡ flat_map blocks_in body
all_is [] = refl
all_is (s ∷ body) = ap (λ z. blocks_in s ++ z) (all_is body)

-- the blocks in a statement, by its parts
pub found_out : (s : Stmt) (f : Stmt-F Stmt) → out-Stmt s ≡ f → blocks_in s ≡ found (map-Stmt Stmt Found found_in f)
unfolding found_in
found_out s f is = ap (λ (a : Found). a.1) (stmt_fold_out Found found_step s) ∙ ap (λ z. found (map-Stmt Stmt Found found_in z)) is

pub read_found : (s : Stmt) (line number : ℕ) (items : List ReadItem) (body : List Stmt) → out-Stmt s ≡ Stmt-F.Read line number items body → blocks_in s ≡ (number, items, body) ∷ flat_map blocks_in body
read_found s line number items body is =
    found_out s (Stmt-F.Read line number items body) is ∙ ap (λ z. (number, items, z) ∷ all_found (map found_in body)) (bodies_itself body) ∙ ap (λ z. (number, items, body) ∷ z) (all_is body)

pub two_found : (one other : List Stmt) → all_found (map found_in one) ++ all_found (map found_in other) ≡ flat_map blocks_in one ++ flat_map blocks_in other
two_found one other = ap (λ z. z ++ all_found (map found_in other)) (all_is one) ∙ ap (λ z. flat_map blocks_in one ++ z) (all_is other)

func_listed : (funcs : List Func) (f : ℕ) (g : Func) → func_named f funcs ≡ Some g → (b : Block) → Contains (flat_map blocks_in g.body) b → Contains (blocks_of funcs) b
func_listed [] f g h b k = absurd cc
func_listed (a ∷ funcs) f g h b k = by (a.name == f) refl h (λ e. func_listed funcs f g e b k)
  where
    by : (t : Bool) → (a.name == f) ≡ t → (if a.name == f then Some a else func_named f funcs) ≡ Some g → (func_named f funcs ≡ Some g → Contains (blocks_of funcs) b) → Contains (blocks_of (a ∷ funcs)) b
    by true e i later =
        let is : a ≡ g = (let o : Some a ≡ Some g = ap (λ t. if t then Some a else func_named f funcs) (sym e) ∙ i in cc) in
        Contains-append_left (flat_map blocks_in a.body) (blocks_of funcs) b (subst (λ (z : Func). Contains (flat_map blocks_in z.body) b) (sym is) k)
    by false e i later =
        Contains-append_right (flat_map blocks_in a.body) (blocks_of funcs) b (later (ap (λ t. if t then Some a else func_named f funcs) (sym e) ∙ i))

module _ (funcs : List Func) (whole : List Stmt) (start : (b : Block) → Contains (flat_map blocks_in whole) b → Contains (blocks_of funcs) b) where
  -- the blocks of each body that a run may come to are blocks of the program
  code_listed : (body : List Stmt) → IsCode funcs whole body → (b : Block) → Contains (flat_map blocks_in body) b → Contains (blocks_of funcs) b
  code_listed body itself b h = start b h
  code_listed body (behind s rest c) b h = code_listed (s ∷ rest) c b (Contains-append_right (blocks_in s) (flat_map blocks_in rest) b h)
  code_listed body (block s rest line number items inside is c) b h =
      code_listed (s ∷ rest) c b (Contains-append_left (blocks_in s) (flat_map blocks_in rest) b
      (subst (λ z. Contains z b) (sym (read_found s line number items inside is)) (Contains-append_right ((number, items, inside) ∷ []) (flat_map blocks_in inside) b h)))
  code_listed body (first s rest line e one other is c) b h =
      code_listed (s ∷ rest) c b (Contains-append_left (blocks_in s) (flat_map blocks_in rest) b
      (subst (λ z. Contains z b) (sym (found_out s (Stmt-F.If line e one other) is ∙ two_found one other)) (Contains-append_left (flat_map blocks_in one) (flat_map blocks_in other) b h)))
  code_listed body (second s rest line e one other is c) b h =
      code_listed (s ∷ rest) c b (Contains-append_left (blocks_in s) (flat_map blocks_in rest) b
      (subst (λ z. Contains z b) (sym (found_out s (Stmt-F.If line e one other) is ∙ two_found one other)) (Contains-append_right (flat_map blocks_in one) (flat_map blocks_in other) b h)))
  code_listed body (left s rest line one other is c) b h =
      code_listed (s ∷ rest) c b (Contains-append_left (blocks_in s) (flat_map blocks_in rest) b
      (subst (λ z. Contains z b) (sym (found_out s (Stmt-F.Par line one other) is ∙ two_found one other)) (Contains-append_left (flat_map blocks_in one) (flat_map blocks_in other) b h)))
  code_listed body (right s rest line one other is c) b h =
      code_listed (s ∷ rest) c b (Contains-append_left (blocks_in s) (flat_map blocks_in rest) b
      (subst (λ z. Contains z b) (sym (found_out s (Stmt-F.Par line one other) is ∙ two_found one other)) (Contains-append_right (flat_map blocks_in one) (flat_map blocks_in other) b h)))
  code_listed body (called f g e) b h = func_listed funcs f g e b h

  -- a read block that a run may come to
  pub read_listed : (s : Stmt) (rest : List Stmt) (line number : ℕ) (items : List ReadItem) (body : List Stmt) → IsCode funcs whole (s ∷ rest) → out-Stmt s ≡ Stmt-F.Read line number items body → Contains (blocks_of funcs) (number, items, body)
  read_listed s rest line number items body c is =
      code_listed (s ∷ rest) c (number, items, body) (Contains-append_left (blocks_in s) (flat_map blocks_in rest) (number, items, body)
      (subst (λ z. Contains z (number, items, body)) (sym (read_found s line number items body is)) (0, zero-lt-suc (length (flat_map blocks_in body)), refl)))

-- two of a list with one key, where no two keys are the same
key_once : {X : Type 0} (bs : List X) (key : X → ℕ) → AllPairs (λ m n. m ≢ n) (map key bs) → (x y : X) → key x ≡ key y → Contains bs x → Contains bs y → x ≡ y
key_once bs key distinct x y e h k =
    let lh = h.1 in
    let lk = k.1 in
    let long = length-map bs key in
    let at_x : get_or (map key bs) h.0 (key x) ≡ key x = get_or-map key bs h.0 x (key x) lh ∙ ap key h.2 in
    let at_y : get_or (map key bs) k.0 (key x) ≡ key x = ap (get_or (map key bs) k.0) e ∙ get_or-map key bs k.0 y (key y) lk ∙ ap key k.2 ∙ sym e in
    elim (leb_tells h.0 k.0) [
      | inl i ↦
          elim (eq-or-lt_of_le i.1) [
            | inl same ↦ sym h.2 ∙ get_or_default bs h.0 x y lh ∙ ap (λ n. get_or bs n y) same ∙ k.2
            | inr before ↦ absurd (distinct h.0 k.0 (key x) before (omega arith) (at_x ∙ sym at_y))
          ]
      | inr i ↦ absurd (distinct k.0 h.0 (key x) i.1 (omega arith) (at_y ∙ sym at_x))
    ]

pub numbered : (funcs : List Func) (whole : List Stmt) → ((b : Block) → Contains (flat_map blocks_in whole) b → Contains (blocks_of funcs) b) → AllPairs (λ m n. m ≢ n) (numbers_of funcs) → IsNumbered funcs whole
numbered funcs whole start distinct s t rest more line row number items others body inside c d is eq =
    let one = read_listed funcs whole start s rest line number items body c is in
    let two = read_listed funcs whole start t more row number others inside d eq in
    let same : (number, items, body) ≡ (number, others, inside) = key_once (blocks_of funcs) (λ (b : Block). b.0) distinct (number, items, body) (number, others, inside) refl one two in
    (ap (λ (b : Block). b.1) same, ap (λ (b : Block). b.2) same)

-- main is one of the functions, so a number is that of one block in all that a run of it may come to
find_listed : (test : Func → Bool) (funcs : List Func) (f : Func) → find test funcs ≡ Some f → (b : Block) → Contains (flat_map blocks_in f.body) b → Contains (blocks_of funcs) b
find_listed test [] f h b k = absurd cc
find_listed test (a ∷ funcs) f h b k = by (test a) refl (λ e. find_listed test funcs f e b k)
  where
    by : (t : Bool) → test a ≡ t → (find test funcs ≡ Some f → Contains (blocks_of funcs) b) → Contains (blocks_of (a ∷ funcs)) b
    by true e later =
        let o : Some a ≡ Some f = ap (λ t. if t then Some a else find test funcs) (sym e) ∙ h in
        let is : a ≡ f = cc in
        Contains-append_left (flat_map blocks_in a.body) (blocks_of funcs) b (subst (λ (z : Func). Contains (flat_map blocks_in z.body) b) (sym is) k)
    by false e later =
        Contains-append_right (flat_map blocks_in a.body) (blocks_of funcs) b (later (ap (λ t. if t then Some a else find test funcs) (sym e) ∙ h))

pub main_numbered : (p : Program) (main : Func) → main_of p ≡ Some main → AllPairs (λ m n. m ≢ n) (numbers_of p.funcs) → IsNumbered p.funcs main.body
main_numbered p main h distinct = numbered p.funcs main.body (find_listed (is_named_main p) p.funcs main h) distinct
