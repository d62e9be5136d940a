-- Blocks that are put into a table one after another are all there at the end, where no two have one number.
use Rattle.std.proofs.Common.{◌≡◌, ◌≢◌, ◌⊎◌, ◌<◌, ◌≤◌, ◌+◌, ℕ, zero, suc, List, [], ◌∷◌, ◌++◌, map, flat_map, find, length, take, get_or, slice_get, slice_set, Contains, AllPairs, Some, if◌then◌else◌, Bool, true, false, refl, ap, sym, ◌∙◌, subst, inl, inr, arith, zero-lt-suc, add-one}
use Rattle.std.proofs.lemmas.List.{length-map, get_or-map, flat_map_more, take_all}
use Rattle.std.proofs.lemmas.List.Elements.{Contains-append_left, Contains-append_right}
use Rattle.std.proofs.Math.Seq.{take-suc}
use Rattle.psac_syntax.specs.declared.program.Func.{Func}
use Rattle.psac_syntax.specs.declared.program.Program.{Program}
use Rattle.psac_model.specs.Fresh.{main_of, is_named_main}
use Rattle.psac_plain.proofs.Lists.{get_set_within, get_set_other}
use Rattle.psac_traced.specs.Blocks.{Block, blocks_in, blocks_of, numbers_of}
use Rattle.psac_traced.proofs.Blocks.{read_listed}
use Rattle.psac_repair.specs.declared.world.World.{World}
use Rattle.psac_repair.specs.Indexed.{Code, IsAt, With, WithAll, ArePut, AreIndexed}
use Rattle.psac_repair.specs.Repairing.{IsIndexed}

with_more : (x : Block) (H K : Block → Type 0) → ((b : Block) → H b → K b) → (b : Block) → With x H b → With x K b
with_more x H K more b (inl e) = inl e
with_more x H K more b (inr w) = inr (w.0, more b w.1)

all_more : (xs : List Block) (H K : Block → Type 0) → ((b : Block) → H b → K b) → (b : Block) → WithAll xs H b → WithAll xs K b
all_more [] H K more b h = more b h
all_more (x ∷ xs) H K more b h = all_more xs (With x H) (With x K) (with_more x H K more) b h

all_then : (xs ys : List Block) (H : Block → Type 0) (b : Block) → WithAll (xs ++ ys) H b → WithAll ys (WithAll xs H) b
all_then [] ys H b h = h
all_then (x ∷ xs) ys H b h = all_then xs ys (With x H) b h

pub then_put : (xs ys : List Block) (a b c : List Code) → ArePut xs a b → ArePut ys b c → ArePut (xs ++ ys) a c
then_put xs ys a b c p q x h = q x (all_more ys (WithAll xs (IsAt a)) (IsAt b) p x (all_then xs ys (IsAt a) x h))

-- a block is put into a table that was made longer
module _ (number : ℕ) (code : Code) (old longer : List Code) where
  abbrev Kept : Type 0
  Kept = (n : ℕ) (c : Code) → slice_get old n ≡ Some c → slice_get longer n ≡ Some c

  pub one_put : number < length longer → Kept → ArePut ((number, code.0.now, code.1.now) ∷ []) old (slice_set longer number code)
  one_put within kept b (inl e) =
      let made = get_set_within longer number code within in
      subst (IsAt (slice_set longer number code)) (sym e) (code, made, refl, refl)
  one_put within kept b (inr w) =
      let other : number ≢ b.0 = λ e. w.0 (sym e) in
      let found = w.1 in
      (found.0, get_set_other longer number b.0 code other ∙ kept b.0 found.0 found.1, found.2, found.3)

-- a block stays where no later one has its number
all_kept : (xs : List Block) (H : Block → Type 0) (b : Block) → H b → ((x : Block) → Contains xs x → b.0 ≢ x.0) → WithAll xs H b
all_kept [] H b h apart = h
all_kept (x ∷ xs) H b h apart =
    let here : With x H b = inr (apart x (0, zero-lt-suc (length xs), refl), h) in
    all_kept xs (With x H) b here (λ y k. apart y (Contains-append_right (x ∷ []) xs y k))

module _ {X : Type 0} where
  head_or : (a x : X) (xs : List X) → Contains (a ∷ xs) x → (a ≡ x) ⊎ Contains xs x
  head_or a x xs (zero, h, e) = inl e
  head_or a x xs (suc k, h, e) = inr (k, omega arith, e)

  find_among : (test : X → Bool) (xs : List X) (x : X) → find test xs ≡ Some x → Contains xs x
  find_among test [] x h = absurd cc
  find_among test (a ∷ xs) x h = by (test a) refl (λ e. find_among test xs x e)
    where
      by : (t : Bool) → test a ≡ t → (find test xs ≡ Some x → Contains xs x) → Contains (a ∷ xs) x
      by true e later =
          let o : Some a ≡ Some x = ap (λ t. if t then Some a else find test xs) (sym e) ∙ h in
          (0, zero-lt-suc (length xs), cc)
      by false e later =
          let o : find test xs ≡ Some x = ap (λ t. if t then Some a else find test xs) (sym e) ∙ h in
          Contains-append_right (a ∷ []) xs x (later o)

  module _ (f : X → List Block) where
    all_among : (xs : List X) (x : X) → Contains xs x → (b : Block) → Contains (f x) b → Contains (flat_map f xs) b
    all_among [] x k b h = absurd (omega arith)
    all_among (a ∷ xs) x k b h =
        elim (head_or a x xs k) [
          | inl e ↦ Contains-append_left (f a) (flat_map f xs) b (subst (λ z. Contains (f z) b) (sym e) h)
          | inr later ↦ Contains-append_right (f a) (flat_map f xs) b (all_among xs x later b h)
        ]

    -- a loop that puts the blocks of each of these
    module _ (xs : List X) (i : ℕ) (a b : List Code) (so_far : ArePut (flat_map f (take i xs)) a b) where
      abbrev More : List Code → Type 0
      More c = ArePut (flat_map f (take (i + 1) xs)) a c

      pub one_more : (x : X) → i < length xs → x ≡ get_or xs i x → (c : List Code) → ArePut (f x) b c → More c
      one_more x h e c p =
          let more : take (i + 1) xs ≡ take i xs ++ x ∷ [] = rw (add-one, take-suc xs i x h) (ap (λ z. take i xs ++ z ∷ []) (sym e)) in
          let parts : flat_map f (take i xs) ++ f x ≡ flat_map f (take (i + 1) xs) =
          flat_map_more f [] (take i xs) x ∙ ap (flat_map f) (sym more) in
          subst (λ z. ArePut z a c) parts (then_put (flat_map f (take i xs)) (f x) a b c so_far p)

      pub all_put : length xs ≤ i → ArePut (flat_map f xs) a b
      all_put h = subst (λ z. ArePut (flat_map f z) a b) (take_all i xs h) so_far

abbrev number : Block → ℕ
number b = b.0

abbrev Distinct : List Block → Type 0
Distinct xs = AllPairs (λ m n. m ≢ n) (map number xs)

apart_later : (x : Block) (xs : List Block) → Distinct (x ∷ xs) → (y : Block) → Contains xs y → x.0 ≢ y.0
apart_later x xs distinct y c e =
    let within : suc c.0 < length (map number (x ∷ xs)) = (let lt = c.1 in omega (arith, length-map xs number)) in
    distinct 0 (suc c.0) y.0 (zero-lt-suc c.0) within (e ∙ sym (get_or-map number xs c.0 y y.0 c.1 ∙ ap number c.2))

all_distinct : (xs : List Block) (H : Block → Type 0) → Distinct xs → (b : Block) → Contains xs b → WithAll xs H b
all_distinct [] H distinct b k = absurd (omega arith)
all_distinct (x ∷ xs) H distinct b k =
    let tail : Distinct xs = λ i j d lt h. distinct (suc i) (suc j) d (omega arith) (omega arith) in
    elim (head_or x b xs k) [
      | inl e ↦ subst (WithAll (x ∷ xs) H) e (all_kept xs (With x H) x (inl refl) (apart_later x xs distinct))
      | inr later ↦ all_distinct xs (With x H) tail b later
    ]

module _ (funcs : List Func) (codes : List Code) where
  pub are_indexed : AllPairs (λ m n. m ≢ n) (numbers_of funcs) → ArePut (blocks_of funcs) [] codes → AreIndexed funcs codes
  are_indexed distinct put b k = put b (all_distinct (blocks_of funcs) (IsAt []) distinct b k)

-- the world of a program, with the table of its blocks
module _ (p : Program) (main : Func) (found : main_of p ≡ Some main) (g : World) (codes : List Code) where
  pub is_indexed : g.funcs.now ≡ p.funcs → g.main.now ≡ main.body → g.blocks.now ≡ codes → AreIndexed g.funcs.now codes → IsIndexed g
  is_indexed funcs_are main_is blocks_are indexed s rest line number items body is inside =
      let blocks : Func → List Block = λ f. flat_map blocks_in f.body in
      let named : Contains p.funcs main = find_among (is_named_main p) p.funcs main found in
      let among : Contains g.funcs.now main = subst (λ z. Contains z main) (sym funcs_are) named in
      let start : (b : Block) → Contains (flat_map blocks_in g.main.now) b → Contains (blocks_of g.funcs.now) b =
      λ b h. all_among blocks g.funcs.now main among b (subst (λ z. Contains (flat_map blocks_in z) b) main_is h) in
      let listed = read_listed g.funcs.now g.main.now start s rest line number items body inside is in
      subst (λ z. IsAt z (number, items, body)) (sym blocks_are) (indexed (number, items, body) listed)
