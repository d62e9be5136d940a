-- What the walk over an old record tells of a part of it: what was drawn is at most what stands inside the blocks that are run again in the new
-- tree, and what the new record made is known by its names. Each step of the walk adds up.
use Rattle.std.proofs.Common.{◌≡◌, ℕ, ◌+◌, Bool, true, false, if◌then◌else◌, List, [], ◌∷◌, ◌++◌, length, refl, ap, sym, ◌∙◌, subst, ◌⊎◌, inl, inr, arith, add-zero}
use Rattle.psac_model.specs.declared.ends.Size.{Size}
use Rattle.psac_model.specs.declared.ends.End.{End}
use Rattle.psac_model.specs.declared.ends.End.TheVariants.{Done, Stop}
use Rattle.psac_model.specs.Names.{Path, Name, Made, Env, Heap}
use Rattle.psac_model.specs.Tree.{Tree, Reads, size_of, add_size, one_s, one_p, one_r, one_mod}
use Rattle.psac_model.specs.Tree as tree
use Rattle.psac_model.specs.Run.{Ran, sequence_by}
use Rattle.psac_model.specs.Redo.{is_inside, made_inside, reads_differ, redo_from}
use Rattle.psac_model.specs.Work.{part, counted}
use Rattle.psac_naming.specs.Naming.{IsNamed}
use Rattle.psac_traced.specs.Rec.{Rec, E, A, W, S, P, R, tree_of}
use Rattle.psac_traced.specs.Renamed.{rec_named, reads_named}
use Rattle.psac_traced.specs.Places.{names, Makes}
use Rattle.psac_traced.specs.Mending.{Mending, untouched, unlike, mended, anew, below}
use Rattle.psac_traced.proofs.Places.{names_under, made_named}
use Rattle.psac_traced.proofs.Sizes.{counted_whole}
use Rattle.psac_cut.specs.Within.{some_mods, drew, IsWithin}
use Rattle.psac_cut_repair.specs.Creates.{cut_drew}
use Rattle.psac_cut_repair.proofs.Turned.{IsPart, name_part, redo_grows, block_inside, redo_below}

nothing_within : (n : ℕ) (z : Size) → n ≡ 0 → IsWithin (add_size tree.no_size (some_mods n)) z
nothing_within n z h = record { nodes = omega arith; mods = omega arith; links = omega arith }

more_within : (x y z : Size) → IsWithin x z → IsWithin x (add_size y z)
more_within x y z h = record { nodes = omega arith; mods = omega arith; links = omega arith }

two_within : (x y z a b : Size) (m n : ℕ) → IsWithin (add_size x (some_mods m)) a → IsWithin (add_size y (some_mods n)) b → IsWithin (add_size (add_size x y) (some_mods (m + n))) (add_size z (add_size a b))
two_within x y z a b m n h k = record { nodes = omega arith; mods = omega arith; links = omega arith }

module _ {M : Type 0} (f : M → Name) where
  abbrev pub old_of : Rec M → Tree Name
  old_of r = tree_of (rec_named f r)

module _ {M : Type 0} (f g : M → Name) (O : M → Type 0) where
  -- the old record has it, by the same name
  abbrev pub Kept : M → Type 0
  Kept k = O k × (f k ≡ g k)

  -- so it is, or it was made inside one of these blocks
  abbrev pub Known : List Path → M → Type 0
  Known zs k = Kept k ⊎ (made_inside zs (g k) ≡ true)

  pub known_part : (zs ws : List Path) → IsPart zs ws → (k : M) → Known zs k → Known ws k
  known_part zs ws within k (inl h) = inl h
  known_part zs ws within k (inr h) = inr (name_part zs ws within (g k) h)

module _ {M : Type 0} (same : M → M → Bool) where
  -- where nothing was reached, nothing was run again
  pub none_mended : (r : Rec M) → mended same r E ≡ untouched
  none_mended E = refl
  none_mended (A m r) = refl
  none_mended (W m v r) = refl
  none_mended (S t r) = refl
  none_mended (P l r) = refl
  none_mended (R room b e reads t) = refl

module _ {M : Type 0} (same : M → M → Bool) (f g : M → Name) (O : M → Type 0) where
  pub record Walked (p : Path) (zs : List Path) (r c : Rec M) (n : ℕ) (new : Tree Name) : Type 0 where
    pub within : (test : Path → Bool) → ((q : Path) → is_inside (redo_from p (old_of f r) new zs) q ≡ true → test q ≡ true) → IsWithin (cut_drew same r c n) (counted test p new)
    pub known : (k : M) → Makes c k → Known f g O (redo_from p (old_of f r) new zs) k

  -- what wasn't reached, and a compound statement of which only the node was
  pub walked_none : (p : Path) (zs : List Path) (r : Rec M) (n : ℕ) (new : Tree Name) → n ≡ 0 → Walked p zs r E n new
  walked_none p zs r n new e =
      record {
        within = λ test h. subst (λ (d : Mending M). IsWithin (add_size d.added (some_mods n)) (counted test p new)) (sym (none_mended same r)) (nothing_within n (counted test p new) e);
        known = λ k h. absurd h;
      }

  pub walked_bare : (p : Path) (zs : List Path) (t r : Rec M) (n : ℕ) (new : Tree Name) → n ≡ 0 → Walked p zs (S t r) (S E E) n new
  walked_bare p zs t r n new e =
      record {
        within = λ test h.
            subst (λ (d : Mending M). IsWithin (add_size (add_size d.added (mended same r E).added) (some_mods n)) (counted test p new)) (sym (none_mended same t))
            (subst (λ (d : Mending M). IsWithin (add_size (add_size tree.no_size d.added) (some_mods n)) (counted test p new)) (sym (none_mended same r)) (nothing_within n (counted test p new) e));
        known = λ k h. elim h [ inl i ↦ absurd i | inr i ↦ absurd i ];
      }

  -- behind what was made, and behind what was written
  pub walked_made : (p : Path) (zs : List Path) (m l : M) (r c : Rec M) (n : ℕ) (new : Tree Name) → Kept f g O l → Walked (p ++ 3 ∷ []) zs r c n new → Walked p zs (A m r) (A l c) n (tree.A new)
  walked_made p zs m l r c n new kept w =
      record {
        within = λ test h. more_within (cut_drew same r c n) (part (test p) one_mod) (counted test (p ++ 3 ∷ []) new) (w.within test h);
        known = λ k h. elim h [ inl i ↦ inl (subst (Kept f g O) i kept) | inr i ↦ w.known k i ];
      }

  pub walked_wrote : (p : Path) (zs : List Path) (m l : M) (v x : _) (a : Name) (y : _) (r c : Rec M) (n : ℕ) (new : Tree Name) → Walked (p ++ 3 ∷ []) zs r c n new → Walked p zs (W m v r) (W l x c) n (tree.W a y new)
  walked_wrote p zs m l v x a y r c n new w = record { within = w.within; known = w.known }

  -- two parts, one after the other and beside each other
  pub walked_both : (p : Path) (zs : List Path) (t r u c : Rec M) (a b : ℕ) (one other : Tree Name) → Walked (p ++ 0 ∷ []) zs t u a one → Walked (p ++ 1 ∷ []) (redo_from (p ++ 0 ∷ []) (old_of f t) one zs) r c b other → Walked p zs (S t r) (S u c) (a + b) (tree.S one other)
  walked_both p zs t r u c a b one other x y =
      let ws = redo_from (p ++ 0 ∷ []) (old_of f t) one zs in
      let grows = redo_grows (p ++ 1 ∷ []) (old_of f r) other ws in
      record {
        within = λ test h.
            two_within (mended same t u).added (mended same r c).added (part (test p) one_s) (counted test (p ++ 0 ∷ []) one) (counted test (p ++ 1 ∷ []) other) a b (x.within test (λ q i. h q (grows q i))) (y.within test h);
        known = λ k h.
            elim h [
              | inl i ↦ known_part f g O ws (redo_from (p ++ 1 ∷ []) (old_of f r) other ws) grows k (x.known k i)
              | inr i ↦ y.known k i
            ];
      }

  pub walked_sides : (p : Path) (zs : List Path) (t r u c : Rec M) (a b : ℕ) (one other : Tree Name) → Walked (p ++ 0 ∷ []) zs t u a one → Walked (p ++ 1 ∷ []) (redo_from (p ++ 0 ∷ []) (old_of f t) one zs) r c b other → Walked p zs (P t r) (P u c) (a + b) (tree.P one other)
  walked_sides p zs t r u c a b one other x y =
      let ws = redo_from (p ++ 0 ∷ []) (old_of f t) one zs in
      let grows = redo_grows (p ++ 1 ∷ []) (old_of f r) other ws in
      record {
        within = λ test h.
            two_within (mended same t u).added (mended same r c).added (part (test p) one_p) (counted test (p ++ 0 ∷ []) one) (counted test (p ++ 1 ∷ []) other) a b (x.within test (λ q i. h q (grows q i))) (y.within test h);
        known = λ k h.
            elim h [
              | inl i ↦ known_part f g O ws (redo_from (p ++ 1 ∷ []) (old_of f r) other ws) grows k (x.known k i)
              | inr i ↦ y.known k i
            ];
      }

  -- a part whose rest wasn't reached, whatever stands behind it
  pub walked_broken : (p : Path) (zs : List Path) (t r u : Rec M) (n : ℕ) (e : End) (x : Ran Name Heap) (rest : Heap → Ran Name Heap) → Walked (p ++ 0 ∷ []) zs t u n x.tree → Walked p zs (S t r) (S u E) n (sequence_by e x rest).tree
  walked_broken p zs t r u n Done x rest w =
      let ws = redo_from (p ++ 0 ∷ []) (old_of f t) x.tree zs in
      subst (λ z. Walked p zs (S t r) (S u E) z (tree.S x.tree (rest x.heap).tree)) (add-zero n)
      (walked_both p zs t r u E n 0 x.tree (rest x.heap).tree w (walked_none (p ++ 1 ∷ []) ws r 0 (rest x.heap).tree refl))
  walked_broken p zs t r u n (Stop k line) x rest w =
      let ws = redo_from (p ++ 0 ∷ []) (old_of f t) x.tree zs in
      subst (λ z. Walked p zs (S t r) (S u E) z (tree.S x.tree tree.E)) (add-zero n)
      (walked_both p zs t r u E n 0 x.tree tree.E w (walked_none (p ++ 1 ∷ []) ws r 0 tree.E refl))

  -- a block whose reads are like those before
  pub walked_like : (p : Path) (zs : List Path) (room level b c block : ℕ) (e d : Env M) (d' : Env Name) (reads again : Reads M) (saw : Reads Name) (t u : Rec M) (n : ℕ) (new : Tree Name) → unlike same reads again ≡ false → Walked (p ++ 2 ∷ []) zs t u n new → Walked p zs (R room b e reads t) (R level c d again u) n (tree.R block d' saw new)
  walked_like p zs room level b c block e d d' reads again saw t u n new like w =
      let inner = redo_from (p ++ 2 ∷ []) (old_of f t) new zs in
      let whole : Bool → List Path = λ z. if z then zs ++ p ∷ [] else inner in
      let goes : IsPart inner (whole (reads_differ zs (reads_named f reads) saw)) = elim (reads_differ zs (reads_named f reads) saw) as (λ z. IsPart inner (whole z)) [ true ↦ redo_below p (old_of f t) new zs | false ↦ λ q i. i ] in
      record {
        within = λ test h.
            subst (λ z. IsWithin (add_size (if z then anew t u else below (mended same t u)).added (some_mods n)) (add_size (part (test p) (one_r (length saw))) (counted test (p ++ 2 ∷ []) new))) (sym like)
            (more_within (cut_drew same t u n) (part (test p) (one_r (length saw))) (counted test (p ++ 2 ∷ []) new) (w.within test (λ q i. h q (goes q i))));
        known = λ k h. known_part f g O inner (whole (reads_differ zs (reads_named f reads) saw)) goes k (w.known k h);
      }

  -- a block that is run again
  pub walked_again : (p : Path) (zs : List Path) (room level b c block : ℕ) (e d : Env M) (d' : Env Name) (reads again : Reads M) (saw : Reads Name) (t u : Rec M) (n : ℕ) (new : Tree Name) → unlike same reads again ≡ true → reads_differ zs (reads_named f reads) saw ≡ true → ((m : M) (k : Name) → IsNamed (names (p ++ 2 ∷ []) u) m k → g m ≡ k) → IsWithin (drew u n) (size_of new) → Walked p zs (R room b e reads t) (R level c d again u) n (tree.R block d' saw new)
  walked_again p zs room level b c block e d d' reads again saw t u n new other differs named bound =
      let inner = redo_from (p ++ 2 ∷ []) (old_of f t) new zs in
      let is : zs ++ p ∷ [] ≡ redo_from p (old_of f (R room b e reads t)) (tree.R block d' saw new) zs = ap (λ z. if z then zs ++ p ∷ [] else inner) (sym differs) in
      record {
        within = λ test h.
            (let all : (q : Path) → test ((p ++ 2 ∷ []) ++ q) ≡ true = λ q. h ((p ++ 2 ∷ []) ++ q) (ap (λ z. is_inside z ((p ++ 2 ∷ []) ++ q)) (sym is) ∙ block_inside zs p q) in
            subst (λ z. IsWithin (add_size (if z then anew t u else below (mended same t u)).added (some_mods n)) (add_size (part (test p) (one_r (length saw))) (counted test (p ++ 2 ∷ []) new))) (sym other)
            (more_within (drew u n) (part (test p) (one_r (length saw))) (counted test (p ++ 2 ∷ []) new) (subst (IsWithin (drew u n)) (sym (counted_whole true test (p ++ 2 ∷ []) new all)) bound)));
        known = λ k h.
            (let a = made_named (p ++ 2 ∷ []) u k h in
            let q = names_under (p ++ 2 ∷ []) u k a.0 a.1 in
            let name : g k ≡ Made ((p ++ 2 ∷ []) ++ q.0) = named k a.0 a.1 ∙ q.1 in
            inr (ap (made_inside (redo_from p (old_of f (R room b e reads t)) (tree.R block d' saw new) zs)) name ∙ ap (λ z. is_inside z ((p ++ 2 ∷ []) ++ q.0)) (sym is) ∙ block_inside zs p q.0));
      }
