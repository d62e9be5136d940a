-- Where each record's modifiables are named by their paths, the test for the same modifiable tells of reads what the definition does.
use Rattle.std.proofs.Common.{◌≡◌, Bool, true, false, not, ◌&&◌, ◌||◌, if◌then◌else◌, List, [], ◌∷◌, ◌++◌, length, refl, ap, sym, ◌∙◌, subst, ◌⊎◌, inl, inr, append_assoc, Contains, zero-lt-suc}
use Rattle.std.proofs.lemmas.List.Folds.{list_any-append}
use Rattle.std.proofs.lemmas.List.Elements.{Contains-append_left, Contains-append_right}
use Rattle.psac_ops.specs.Value.{Value, nil, bool, int, text, ref, pair}
use Rattle.psac_ops.specs.Table.{same_value}
use Rattle.psac_ops.specs.Named.{renamed}
use Rattle.psac_model.specs.Names.{Path, Name, Made, same_name}
use Rattle.psac_model.specs.Tree.{Reads}
use Rattle.psac_model.specs.Redo.{is_above, is_inside, made_inside, differ, reads_differ}
use Rattle.psac_naming.specs.Alike.{Alike}
use Rattle.psac_naming.specs.Naming.{IsNamed}
use Rattle.psac_naming.proofs.Namings.{named_left, named_right}
use Rattle.psac_traced.specs.Rec.{Rec, E, A, W, S, P, R}
use Rattle.psac_traced.specs.Renamed.{reads_named}
use Rattle.psac_traced.specs.Places.{names, Makes}
use Rattle.psac_traced.specs.Scoped.{On, Or, ReadsOf, Reading, Scoped}
use Rattle.psac_traced.specs.Mending.{made_by, unlike, mended, anew, below}
use Rattle.psac_traced.specs.Repaired.{Repaired, WhereLike}
use Rattle.psac_traced.specs.Redone.{redone, under, from, Tells}
use Rattle.psac_traced.proofs.Redone.{from_both, from_under}
use Rattle.psac_traced.proofs.Places.{names_under, made_named}
use Rattle.psac_traced.proofs.Scoped.{heap_more}
use Rattle.psac_traced.proofs.Sizes.{here, turned}
use Rattle.psac_traced.proofs.Inside.{or_either, or_right, inside_beyond, inside_from, name_more, name_out, not_true}
use Rattle.psac_traced.proofs.Turns.{inside_root, inside_under, inside_left, inside_right, inside_here}

-- tests: of one modifiable that is the same where the names are and it isn't inside, and of two
kept_one : (a i : Bool) → not (a && not i) ≡ (not a || i)
kept_one true true = refl
kept_one true false = refl
kept_one false i = refl

kept_two : (a i b j : Bool) → not ((a && not i) && (b && not j)) ≡ (not (a && b) || (i || j))
kept_two true true b j = ap (λ c. c) (sym (or_true (not b)))
  where
    or_true : (c : Bool) → (c || true) ≡ true
    or_true true = refl
    or_true false = refl
kept_two true false true true = refl
kept_two true false true false = refl
kept_two true false false j = refl
kept_two false i b j = refl

never : (b : Bool) → b ≡ (b || false)
never true = refl
never false = refl

module _ {M : Type 0} (same : M → M → Bool) (f g : M → Name) (O K : M → Type 0) (zs : List Path) (tells : (h k : M) → O h → K k → same h k ≡ (same_name (f h) (g k) && not (made_inside zs (g k)))) where
  value_told : (v u : Value M) → Alike (On O) v v → Alike (On K) u u → not (same_value same v u) ≡ differ zs (renamed f v) (renamed g u)
  value_told nil nil h k = refl
  value_told (bool a) (bool b) h k = never (not (same_value same (bool a) (bool b)))
  value_told (int a) (int b) h k = never (not (same_value same (int a) (int b)))
  value_told (text a i) (text b j) h k = never (not (same_value same (text a i) (text b j)))
  value_told (ref m) (ref n) h k = ap not (tells m n h.0 k.0) ∙ kept_one (same_name (f m) (g n)) (made_inside zs (g n))
  value_told (pair l m) (pair n o) h k =
      ap (λ b. not (b && same m o)) (tells l n h.0.0 k.0.0) ∙ ap (λ b. not ((same_name (f l) (g n) && not (made_inside zs (g n))) && b)) (tells m o h.1.0 k.1.0)
      ∙ kept_two (same_name (f l) (g n)) (made_inside zs (g n)) (same_name (f m) (g o)) (made_inside zs (g o))
  value_told _ _ h k = refl

  reads_told : (reads again : Reads M) → ReadsOf O reads → ReadsOf K again → unlike same reads again ≡ reads_differ zs (reads_named f reads) (reads_named g again)
  reads_told [] again h k = refl
  reads_told (r ∷ rs) [] h k = refl
  reads_told (r ∷ rs) (s ∷ ss) h k =
      ap (λ b. b || unlike same rs ss) (value_told r.1 s.1 h.0.1 k.0.1) ∙ ap (λ b. differ zs (renamed f r.1) (renamed g s.1) || b) (reads_told rs ss h.1 k.1)

pub made_contains : {M : Type 0} (r : Rec M) (m : M) → Makes r m → Contains (made_by r) m
made_contains E m h = absurd h
made_contains (A k r) m (inl h) = (0, zero-lt-suc (length (made_by r)), h)
made_contains (A k r) m (inr h) = Contains-append_right (k ∷ []) (made_by r) m (made_contains r m h)
made_contains (W k v r) m h = made_contains r m h
made_contains (S t r) m (inl h) = Contains-append_left (made_by t) (made_by r) m (made_contains t m h)
made_contains (S t r) m (inr h) = Contains-append_right (made_by t) (made_by r) m (made_contains r m h)
made_contains (P t r) m (inl h) = Contains-append_left (made_by t) (made_by r) m (made_contains t m h)
made_contains (P t r) m (inr h) = Contains-append_right (made_by t) (made_by r) m (made_contains r m h)
made_contains (R room block env reads t) m h = made_contains t m h

-- the names of an old and of a new record, and the blocks that were run again between them
and_true : (b : Bool) → b ≡ (b && true)
and_true true = refl
and_true false = refl

and_false : (b : Bool) → (b && false) ≡ false
and_false true = refl
and_false false = refl

module _ {M : Type 0} (same : M → M → Bool) (f g : M → Name) (O : M → Type 0) (all : List Path) where
  -- a modifiable that the old record has too: its name is the same, and isn't inside a block that was run again
  abbrev Kept : M → Type 0
  Kept k = O k × (f k ≡ g k) × (made_inside all (g k) ≡ false)

  -- one that was made anew, inside one of these blocks
  abbrev Renewed : List Path → M → Type 0
  Renewed zs k = (O k → ⊥) × (made_inside zs (g k) ≡ true)

  abbrev Known : List Path → M → Type 0
  Known zs k = Kept k ⊎ Renewed zs k

  -- each of these paths is inside one of all the blocks
  abbrev IsPart : List Path → Type 0
  IsPart zs = (q : Path) → is_inside zs q ≡ true → is_inside all q ≡ true

  -- all blocks from a path on
  abbrev IsHere : Path → List Path → Type 0
  IsHere p ws = (q : Path) → is_inside all (p ++ q) ≡ is_inside ws q

  known_more : (zs ws : List Path) (k : M) → Known zs k → Known (zs ++ ws) k
  known_more zs ws k (inl h) = inl h
  known_more zs ws k (inr h) = inr (h.0, name_more zs ws (g k) h.1)

  part_more : (p : Path) (zs ws : List Path) → IsPart zs → IsHere p ws → IsPart (zs ++ from p ws)
  part_more p zs ws part at q h =
      elim (or_either (is_inside zs q) (is_inside (from p ws) q) (sym (list_any-append (λ z. is_above z q) zs (from p ws)) ∙ h)) [
        | inl i ↦ part q i
        | inr i ↦ (let a = inside_from p ws q i in rw a.1 (at a.0 ∙ a.2))
      ]

  -- what the test for the same modifiable tells
  tells_known : ((h k : M) → O h → O k → same h k ≡ same_name (f h) (f k)) → ((h k : M) → same h k ≡ true → h ≡ k) → (zs : List Path) → IsPart zs → (h k : M) → O h → Known zs k → same h k ≡ (same_name (f h) (g k) && not (made_inside zs (g k)))
  tells_known one alone zs part h k o (inl i) =
      one h k o i.0 ∙ ap (λ n. same_name (f h) n) i.1 ∙ and_true (same_name (f h) (g k)) ∙ ap (λ b. same_name (f h) (g k) && not b) (sym (name_out all zs part (g k) i.2))
  tells_known one alone zs part h k o (inr i) =
      not_true (same h k) (λ e. i.0 (subst O (alone h k e) o)) ∙ sym (and_false (same_name (f h) (g k))) ∙ ap (λ b. same_name (f h) (g k) && not b) (sym i.1)

  -- what the new record made is known behind it, where each record's names are those of its paths and nothing of the old one was made anew
  abbrev IsMadeKnown : Path → List Path → Rec M → Rec M → Type 0
  IsMadeKnown p zs r s = ((m : M) → Makes r m → O m) → ((m : M) (n : Name) → IsNamed (names p r) m n → f m ≡ n) → ((m : M) (n : Name) → IsNamed (names p s) m n → g m ≡ n) → ((m : M) → Contains (mended same r s).created m → O m → ⊥) → (k : M) → Makes s k → Known (zs ++ from p (redone same r s)) k

  -- one that both records made at a path
  kept_here : (p : Path) (m n : M) (ws : List Path) → m ≡ n → IsHere p (under 3 ws) → O m → f m ≡ Made p → g n ≡ Made p → Kept n
  kept_here p m n ws e at o x y =
      let out : is_inside all p ≡ false = here (is_inside all) p (is_inside (under 3 ws)) at ∙ inside_root (under 3 ws) in
      (subst O e o, ap f (sym e) ∙ x ∙ sym y, rw y out)

  both_known : (p : Path) (zs : List Path) (t r u s : Rec M) → IsHere p (under 0 (redone same t u) ++ under 1 (redone same r s)) → (IsHere (p ++ 0 ∷ []) (redone same t u) → IsMadeKnown (p ++ 0 ∷ []) zs t u) → ((z : List Path) → IsHere (p ++ 1 ∷ []) (redone same r s) → IsMadeKnown (p ++ 1 ∷ []) z r s) → IsMadeKnown p zs (S t r) (S u s)
  both_known p zs t r u s at left right o x y new k (inl h) =
      let a = redone same t u in
      let b = redone same r s in
      let i = left (λ q. turned (is_inside all) p (is_inside (under 0 a ++ under 1 b)) at 0 q ∙ inside_left a b q)
      (λ m i. o m (inl i))
      (λ m n i. x m n (named_left (names (p ++ 0 ∷ []) t) (names (p ++ 1 ∷ []) r) m n i))
      (λ m n i. y m n (named_left (names (p ++ 0 ∷ []) u) (names (p ++ 1 ∷ []) s) m n i))
      (λ m i. new m (Contains-append_left (mended same t u).created (mended same r s).created m i)) k h in
      subst (λ c. Known c k) (from_both p zs a b) (known_more (zs ++ from (p ++ 0 ∷ []) a) (from (p ++ 1 ∷ []) b) k i)
  both_known p zs t r u s at left right o x y new k (inr h) =
      let a = redone same t u in
      let b = redone same r s in
      let i = right (zs ++ from (p ++ 0 ∷ []) a) (λ q. turned (is_inside all) p (is_inside (under 0 a ++ under 1 b)) at 1 q ∙ inside_right a b q)
      (λ m i. o m (inr i))
      (λ m n i. x m n (named_right (names (p ++ 0 ∷ []) t) (names (p ++ 1 ∷ []) r) m n i))
      (λ m n i. y m n (named_right (names (p ++ 0 ∷ []) u) (names (p ++ 1 ∷ []) s) m n i))
      (λ m i. new m (Contains-append_right (mended same t u).created (mended same r s).created m i)) k h in
      subst (λ c. Known c k) (from_both p zs a b) i

  made_known : (p : Path) (zs : List Path) (r s : Rec M) → Repaired same r s → IsHere p (redone same r s) → IsMadeKnown p zs r s
  made_known p zs E E re at o x y new k h = absurd h
  made_known p zs (A m r) (A n s) re at o x y new k (inl h) =
      inl (subst Kept h (kept_here p m n (redone same r s) re.0 at (o m (inl refl)) (x m (Made p) (inl (refl, refl))) (y n (Made p) (inl (refl, refl)))))
  made_known p zs (A m r) (A n s) re at o x y new k (inr h) =
      subst (λ c. Known (zs ++ c) k) (from_under p 3 (redone same r s))
      (made_known (p ++ 3 ∷ []) zs r s re.1 (λ q. turned (is_inside all) p (is_inside (under 3 (redone same r s))) at 3 q ∙ inside_under 3 (redone same r s) q) (λ l i. o l (inr i)) (λ l z i. x l z (inr i)) (λ l z i. y l z (inr i)) new k h)
  made_known p zs (W m v r) (W n u s) re at o x y new k h =
      subst (λ c. Known (zs ++ c) k) (from_under p 3 (redone same r s))
      (made_known (p ++ 3 ∷ []) zs r s re.2 (λ q. turned (is_inside all) p (is_inside (under 3 (redone same r s))) at 3 q ∙ inside_under 3 (redone same r s) q) o x y new k h)
  made_known p zs (S t r) (S u s) re at o x y new k h =
      both_known p zs t r u s at (λ i. made_known (p ++ 0 ∷ []) zs t u re.0 i) (λ z i. made_known (p ++ 1 ∷ []) z r s re.1 i) o x y new k h
  made_known p zs (P t r) (P u s) re at o x y new k h =
      both_known p zs t r u s at (λ i. made_known (p ++ 0 ∷ []) zs t u re.0 i) (λ z i. made_known (p ++ 1 ∷ []) z r s re.1 i) o x y new k h
  made_known p zs (R room b e reads t) (R level c j again u) re at o x y new k h =
      let ws : Bool → List Path = λ d. if d then [] ∷ [] else under 2 (redone same t u) in
      elim (unlike same reads again) as (λ d. WhereLike d (Repaired same t u) → IsHere p (ws d) → ((m : M) → Contains (if d then anew t u else below (mended same t u)).created m → O m → ⊥) → Known (zs ++ from p (ws d)) k) [
        | true ↦ λ like there fresh.
            (let n = made_named (p ++ 2 ∷ []) u k h in
            let q = names_under (p ++ 2 ∷ []) u k n.0 n.1 in
            let named : g k ≡ Made (p ++ 2 ∷ q.0) = y k n.0 n.1 ∙ q.1 ∙ ap Made (append_assoc p (2 ∷ []) q.0) in
            let in_block : is_inside (zs ++ from p ([] ∷ [])) (p ++ 2 ∷ q.0) ≡ true =
            list_any-append (λ z. is_above z (p ++ 2 ∷ q.0)) zs (from p ([] ∷ [])) ∙ or_right (is_inside zs (p ++ 2 ∷ q.0)) (is_inside (from p ([] ∷ [])) (p ++ 2 ∷ q.0)) (inside_beyond p ([] ∷ []) (2 ∷ q.0) ∙ inside_here 2 q.0) in
            inr (fresh k (made_contains u k h), rw named in_block))
        | false ↦ λ like there fresh.
            subst (λ c. Known (zs ++ c) k) (from_under p 2 (redone same t u))
            (made_known (p ++ 2 ∷ []) zs t u like (λ q. turned (is_inside all) p (is_inside (under 2 (redone same t u))) there 2 q ∙ inside_under 2 (redone same t u) q) o x y fresh k h)
      ] re.4 at new
  made_known p zs _ _ re at o x y new k h = absurd re

  module _ (one : (h k : M) → O h → O k → same h k ≡ same_name (f h) (f k)) (alone : (h k : M) → same h k ≡ true → h ≡ k) where
    -- from a part on: what is known before it, and the reads of both records
    abbrev pub IsTold : Path → List Path → Rec M → Rec M → Type 1
    IsTold p zs r s = (K : M → Type 0) → IsPart zs → ((k : M) → K k → Known zs k) → Reading O r → Scoped K s → ((m : M) → Makes r m → O m) → ((m : M) (n : Name) → IsNamed (names p r) m n → f m ≡ n) → ((m : M) (n : Name) → IsNamed (names p s) m n → g m ≡ n) → ((m : M) → Contains (mended same r s).created m → O m → ⊥) → Tells same f g p zs r s

    both_told : (p : Path) (zs : List Path) (t r u s : Rec M) → IsHere p (under 0 (redone same t u) ++ under 1 (redone same r s)) → Repaired same t u → (IsHere (p ++ 0 ∷ []) (redone same t u) → IsTold (p ++ 0 ∷ []) zs t u) → ((z : List Path) → IsHere (p ++ 1 ∷ []) (redone same r s) → IsTold (p ++ 1 ∷ []) z r s) → IsTold p zs (S t r) (S u s)
    both_told p zs t r u s at re left right K part known old new o x y fresh =
        let a = redone same t u in
        let b = redone same r s in
        let here_left : IsHere (p ++ 0 ∷ []) a = λ q. turned (is_inside all) p (is_inside (under 0 a ++ under 1 b)) at 0 q ∙ inside_left a b q in
        let here_right : IsHere (p ++ 1 ∷ []) b = λ q. turned (is_inside all) p (is_inside (under 0 a ++ under 1 b)) at 1 q ∙ inside_right a b q in
        let ol : (m : M) → Makes t m → O m = λ m i. o m (inl i) in
        let xl : (m : M) (n : Name) → IsNamed (names (p ++ 0 ∷ []) t) m n → f m ≡ n = λ m n i. x m n (named_left (names (p ++ 0 ∷ []) t) (names (p ++ 1 ∷ []) r) m n i) in
        let yl : (m : M) (n : Name) → IsNamed (names (p ++ 0 ∷ []) u) m n → g m ≡ n = λ m n i. y m n (named_left (names (p ++ 0 ∷ []) u) (names (p ++ 1 ∷ []) s) m n i) in
        let fl : (m : M) → Contains (mended same t u).created m → O m → ⊥ = λ m i. fresh m (Contains-append_left (mended same t u).created (mended same r s).created m i) in (
          left here_left K part known old.0 new.0 ol xl yl fl,
          right (zs ++ from (p ++ 0 ∷ []) a) here_right (Or K (Makes u)) (part_more (p ++ 0 ∷ []) zs a part here_left) (λ k i. elim i [ inl j ↦ known_more zs (from (p ++ 0 ∷ []) a) k (known k j) | inr j ↦ made_known (p ++ 0 ∷ []) zs t u re here_left ol xl yl fl k j ]) old.1 new.1
              (λ m i. o m (inr i))
              (λ m n i. x m n (named_right (names (p ++ 0 ∷ []) t) (names (p ++ 1 ∷ []) r) m n i))
              (λ m n i. y m n (named_right (names (p ++ 0 ∷ []) u) (names (p ++ 1 ∷ []) s) m n i))
              (λ m i. fresh m (Contains-append_right (mended same t u).created (mended same r s).created m i)),
        )

    pub told : (p : Path) (zs : List Path) (r s : Rec M) → Repaired same r s → IsHere p (redone same r s) → IsTold p zs r s
    told p zs E E re at K part known old new o x y fresh = tt
    told p zs (A m r) (A n s) re at K part known old new o x y fresh =
        let kept = kept_here p m n (redone same r s) re.0 at (o m (inl refl)) (x m (Made p) (inl (refl, refl))) (y n (Made p) (inl (refl, refl))) in
        told (p ++ 3 ∷ []) zs r s re.1 (λ q. turned (is_inside all) p (is_inside (under 3 (redone same r s))) at 3 q ∙ inside_under 3 (redone same r s) q) (Or K (λ k. n ≡ k)) part (λ k i. elim i [ inl j ↦ known k j | inr j ↦ inl (subst Kept j kept) ]) old new (λ l i. o l (inr i)) (λ l z i. x l z (inr i)) (λ l z i. y l z (inr i)) fresh
    told p zs (W m v r) (W n u s) re at K part known old new o x y fresh =
        told (p ++ 3 ∷ []) zs r s re.2 (λ q. turned (is_inside all) p (is_inside (under 3 (redone same r s))) at 3 q ∙ inside_under 3 (redone same r s) q) K part known old new o x y fresh
    told p zs (S t r) (S u s) re at K part known old new o x y fresh =
        both_told p zs t r u s at re.0 (λ i. told (p ++ 0 ∷ []) zs t u re.0 i) (λ z i. told (p ++ 1 ∷ []) z r s re.1 i) K part known old new o x y fresh
    told p zs (P t r) (P u s) re at K part known old new o x y fresh =
        both_told p zs t r u s at re.0 (λ i. told (p ++ 0 ∷ []) zs t u re.0 i) (λ z i. told (p ++ 1 ∷ []) z r s re.1 i) K part known old new o x y fresh
    told p zs (R room b e reads t) (R level c j again u) re at K part known old new o x y fresh = (
      reads_told same f g O (Known zs) zs (tells_known one alone zs part) reads again old.0 (heap_more K (Known zs) known again new.0),
      let ws : Bool → List Path = λ d. if d then [] ∷ [] else under 2 (redone same t u) in
          elim (unlike same reads again) as (λ d. WhereLike d (Repaired same t u) → IsHere p (ws d) → ((m : M) → Contains (if d then anew t u else below (mended same t u)).created m → O m → ⊥) → WhereLike d (Tells same f g (p ++ 2 ∷ []) zs t u)) [
            | true ↦ λ like there none. tt
            | false ↦ λ like there none.
                told (p ++ 2 ∷ []) zs t u like (λ q. turned (is_inside all) p (is_inside (under 2 (redone same t u))) there 2 q ∙ inside_under 2 (redone same t u) q) K part known old.1 new.1 o x y none
          ] re.4 at fresh,
    )
    told p zs _ _ re at K part known old new o x y fresh = absurd re
