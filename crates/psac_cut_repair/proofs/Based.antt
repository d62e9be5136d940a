-- The steps by which a walk of a repair adds up what it left where it was cut short, each over every heap that has a base.
use Rattle.std.proofs.Common.{◌≡◌, ℕ, ◌+◌, Bool, true, List, ◌∷◌, ◌++◌, [], refl, sym, subst, inl, inr, add-zero}
use Rattle.psac_ops.specs.Value.{Value}
use Rattle.psac_syntax.specs.declared.program.Stmt.{Stmt, out-Stmt}
use Rattle.psac_syntax.specs.declared.program.Stmt.TheOpen.{Stmt-F}
use Rattle.psac_syntax.specs.declared.program.ReadItem.{ReadItem}
use Rattle.psac_syntax.specs.declared.program.Func.{Func}
use Rattle.psac_model.specs.declared.ends.End.{End}
use Rattle.psac_model.specs.declared.ends.End.TheVariants.{Done}
use Rattle.psac_model.specs.Names.{Env}
use Rattle.psac_model.specs.Expression.{Setting}
use Rattle.psac_model.specs.Tree.{Reads}
use Rattle.psac_model.specs.Run.{with_reads}
use Rattle.psac_naming.specs.Naming.{IsSameTest}
use Rattle.psac_traced.specs.Rec.{Rec, E, A, W, S, P, R, HeapOf, writes}
use Rattle.psac_traced.specs.Holds.{read_names, Sees, Holds}
use Rattle.psac_traced.specs.Mending.{unlike}
use Rattle.psac_traced.proofs.Kept.{kept_mended}
use Rattle.psac_cut.specs.CutShort.{cut_short}
use Rattle.psac_cut.specs.Based.{Wider, CutOn}
use Rattle.psac_cut.proofs.Based.{wider_front}
use Rattle.psac_cut_repair.specs.Based.{Comes, CutMends}
use Rattle.psac_cut_repair.proofs.Cutting.{mended_cut}

module _ {N : Type 0} (same : N → N → Bool) (w : Setting N) (alike : w.same ≡ same) (funcs : List Func) (Q : List Stmt → Type 0) where
  sees_wider : (base other : HeapOf N) (reads : Reads N) → Wider same base other → Sees same base reads → Sees same other reads
  sees_wider base other [] wi h = tt
  sees_wider base other (r ∷ reads) wi h = (wi r.0 r.1 h.0, sees_wider base other reads wi h.1)

  sees_there : (base other : HeapOf N) (reads : Reads N) → Wider same base other → Sees same base reads → Sees w.same other reads
  sees_there base other reads wi h = subst (λ z. Sees z other reads) (sym alike) (sees_wider base other reads wi h)

  -- these are the reads and the body of the block with this number
  abbrev pub IsBlock : ℕ → List ReadItem → List Stmt → Type 0
  IsBlock number items first =
      (s : Stmt) (rest : List Stmt) (line : ℕ) (others : List ReadItem) (body : List Stmt) → out-Stmt s ≡ Stmt-F.Read line number others body → Q (s ∷ rest) → (items ≡ others) × (first ≡ body)

  module _ (base : HeapOf N) where
    -- a part that wasn't reached
    pub unreached : (old : Rec N) → CutMends same w funcs Q base old E 0
    unreached old = record { run = λ other wi. refl }

    -- a part that is done, or stopped by itself
    pub ended_part : (old new : Rec N) (end : End) → Comes same w funcs Q base old new end → CutMends same w funcs Q base old new 0
    ended_part old new end m = record { run = λ other wi. mended_cut w funcs Q other old new end (m other wi) }

    -- a part that is kept as it is
    pub kept_part : IsSameTest same → (old : Rec N) → ((other : HeapOf N) → Wider same base other → Holds same other old) → CutMends same w funcs Q base old old 0
    kept_part is old h = ended_part old old Done (λ other wi. kept_mended w (subst IsSameTest (sym alike) is) funcs Q other old (subst (λ z. Holds z other old) (sym alike) (h other wi)))

    -- the rest behind what was made, and behind what was written
    pub behind_made : (m : N) (old new : Rec N) (n : ℕ) → CutMends same w funcs Q base old new n → CutMends same w funcs Q base (A m old) (A m new) n
    behind_made m old new n c = record { run = λ other wi. (refl, c.run other wi) }

    pub behind_wrote : (m : N) (v : Value N) (old new : Rec N) (n : ℕ) → CutMends same w funcs Q ((m, v) ∷ base) old new n → CutMends same w funcs Q base (W m v old) (W m v new) n
    behind_wrote m v old new n c =
        record { run = λ other wi. (refl, refl, c.run ((m, v) ∷ other) (wider_front same ((m, v) ∷ []) base other wi)) }

    -- a part that was cut short, whose rest wasn't reached, and the rest behind a part that is done
    pub in_part : (t old u : Rec N) (n : ℕ) → CutMends same w funcs Q base t u n → CutMends same w funcs Q base (S t old) (S u E) n
    in_part t old u n c = record { run = λ other wi. inl (c.run other wi, refl) }

    pub behind_part : (t old u new : Rec N) (n : ℕ) → Comes same w funcs Q base t u Done → CutMends same w funcs Q (writes u ++ base) old new n → CutMends same w funcs Q base (S t old) (S u new) n
    behind_part t old u new n m c =
        record { run = λ other wi. inr (m other wi, c.run (writes u ++ other) (wider_front same (writes u) base other wi)) }

    -- the left side of a par whose right side wasn't reached, both sides at once, and the right one behind the left one
    pub left_side : (l k t : Rec N) (n : ℕ) → CutMends same w funcs Q base l t n → CutMends same w funcs Q base (P l k) (P t E) n
    left_side l k t n c = record { run = λ other wi. inl (n, 0, c.run other wi, refl, add-zero n) }

    pub both_sides : (l k t u : Rec N) (a b : ℕ) → CutMends same w funcs Q base l t a → CutMends same w funcs Q base k u b → CutMends same w funcs Q base (P l k) (P t u) (a + b)
    both_sides l k t u a b c d = record { run = λ other wi. inl (a, b, c.run other wi, d.run other wi, refl) }

    pub right_side : (l k t u : Rec N) (end : End) (n : ℕ) → Comes same w funcs Q base l t end → CutMends same w funcs Q (writes t ++ base) k u n → CutMends same w funcs Q base (P l k) (P t u) n
    right_side l k t u end n m c =
        record { run = λ other wi. inr (end, m other wi, c.run (writes t ++ other) (wider_front same (writes t) base other wi)) }

    module _ (room number : ℕ) (saved : Env N) (reads : Reads N) where
      -- a block that read what is present
      pub in_block : (t u : Rec N) (n : ℕ) → Sees same base reads → CutMends same w funcs Q base t u n → CutMends same w funcs Q base (R room number saved reads t) (R room number saved reads u) n
      in_block t u n h c = record { run = λ other wi. (refl, refl, refl, refl, sees_there base other reads wi h, inl (refl, c.run other wi)) }

      -- one that read something else, and whose run was cut short
      pub in_rerun : (again : Reads N) (t u : Rec N) (n : ℕ) (items : List ReadItem) (first : List Stmt) → IsBlock number items first → read_names reads ≡ read_names again → Sees same base again → unlike same reads again ≡ true → CutOn same (cut_short w funcs room) first (with_reads saved items again) base u n → CutMends same w funcs Q base (R room number saved reads t) (R room number saved again u) n
      in_rerun again t u n items first is names h other_ones c =
          record {
            run = λ other wi. (
              refl,
              refl,
              refl,
              names,
              sees_there base other again wi h,
              inr (
                subst (λ z. unlike z reads again ≡ true) (sym alike) other_ones,
                λ s rest line others body eq q.
                    (let same = is s rest line others body eq q in
                    subst (λ z. cut_short w funcs room z (with_reads saved others again) other u n) same.1
                    (subst (λ z. cut_short w funcs room first (with_reads saved z again) other u n) same.0 (c.run other wi))),
              ),
            );
          }
