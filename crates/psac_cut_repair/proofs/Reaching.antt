-- A record reads what the heap had where it began, and what it wrote itself.
use Rattle.std.proofs.Common.{◌≡◌, ℕ, Bool, true, false, if◌then◌else◌, List, [], ◌∷◌, ◌++◌, Some, ◌⊎◌, inl, inr, refl}
use Rattle.psac_ops.specs.Value.{Value}
use Rattle.psac_syntax.specs.declared.program.Stmt.{Stmt}
use Rattle.psac_syntax.specs.declared.program.Func.{Func}
use Rattle.psac_model.specs.declared.ends.End.{End}
use Rattle.psac_model.specs.declared.ends.End.TheVariants.{Done}
use Rattle.psac_model.specs.Names.{Env}
use Rattle.psac_model.specs.Expression.{Setting}
use Rattle.psac_model.specs.Tree.{Reads}
use Rattle.psac_traced.specs.Rec.{Rec, E, A, W, S, P, R, HeapOf, held_by, writes}
use Rattle.psac_traced.specs.Traced.{traced}
use Rattle.psac_traced.specs.Holds.{Sees, Holds, EachOf, EachRead}
use Rattle.psac_traced.specs.Parts.{IsClosed}
use Rattle.psac_traced.specs.Mended.{Mended}
use Rattle.psac_traced.proofs.Bodies.{code_closed}
use Rattle.psac_traced.proofs.Holds.{each_read_more, traced_holds}
use Rattle.psac_traced.proofs.Mended.{traced_mended}
use Rattle.psac_cut_repair.specs.Reaching.{In, ReadsIn, RunReadsIn, RepairReadsIn}

module _ {N : Type 0} (same : N → N → Bool) where
  -- a heap behind writes
  pub in_first : (ws heap : HeapOf N) (m : N) → In same ws m → In same (ws ++ heap) m
  in_first [] heap m h = absurd (let e = h.1 in cc)
  in_first (p ∷ ws) heap m h =
      elim (same p.0 m) as (λ b. (x : Value N) × ((if b then Some p.1 else held_by same ws m) ≡ Some x) → (x : Value N) × ((if b then Some p.1 else held_by same (ws ++ heap) m) ≡ Some x)) [
        | true ↦ λ k. k
        | false ↦ in_first ws heap m
      ] h

  pub in_second : (ws heap : HeapOf N) (m : N) → In same heap m → In same (ws ++ heap) m
  in_second [] heap m h = h
  in_second (p ∷ ws) heap m h =
      elim (same p.0 m) as (λ b. (x : Value N) × ((if b then Some p.1 else held_by same (ws ++ heap) m) ≡ Some x)) [
        | true ↦ (p.1, refl)
        | false ↦ in_second ws heap m h
      ]

  pub in_either : (ws heap : HeapOf N) (m : N) → In same (ws ++ heap) m → In same ws m ⊎ In same heap m
  in_either [] heap m h = inr h
  in_either (p ∷ ws) heap m h =
      elim (same p.0 m) as (λ b. (x : Value N) × ((if b then Some p.1 else held_by same (ws ++ heap) m) ≡ Some x) → ((x : Value N) × ((if b then Some p.1 else held_by same ws m) ≡ Some x)) ⊎ In same heap m) [
        | true ↦ λ k. inl k
        | false ↦ in_either ws heap m
      ] h

  sees_in : (ws base : HeapOf N) (reads : Reads N) → Sees same base reads → EachOf (λ m v. In same ws m ⊎ In same base m) reads
  sees_in ws base [] h = tt
  sees_in ws base (r ∷ reads) h = (inr (r.1, h.0), sees_in ws base reads h.1)

  -- a part before the rest of a record, and the rest behind writes
  part_in : (ws more base : HeapOf N) (r : Rec N) → EachRead (λ m v. In same more m ⊎ In same base m) r → EachRead (λ m v. In same (ws ++ more) m ⊎ In same base m) r
  part_in ws more base r h =
      each_read_more (λ m v. In same more m ⊎ In same base m) (λ m v. In same (ws ++ more) m ⊎ In same base m) (λ m v i. elim i [ inl a ↦ inl (in_second ws more m a) | inr a ↦ inr a ]) r h

  rest_in : (ws more base : HeapOf N) (r : Rec N) → EachRead (λ m v. In same ws m ⊎ In same (more ++ base) m) r → EachRead (λ m v. In same (ws ++ more) m ⊎ In same base m) r
  rest_in ws more base r h =
      each_read_more (λ m v. In same ws m ⊎ In same (more ++ base) m) (λ m v. In same (ws ++ more) m ⊎ In same base m) (λ m v i. elim i [
        | inl a ↦ inl (in_first ws more m a)
        | inr a ↦ elim (in_either more base m a) [ inl b ↦ inl (in_second ws more m b) | inr b ↦ inr b ]
      ]) r h

  pub holds_in : (base : HeapOf N) (r : Rec N) → Holds same base r → ReadsIn same base r
  holds_in base E h = tt
  holds_in base (A m r) h = holds_in base r h
  holds_in base (W m v r) h = rest_in (writes r) ((m, v) ∷ []) base r (holds_in ((m, v) ∷ base) r h)
  holds_in base (S t r) h = (part_in (writes r) (writes t) base t (holds_in base t h.0), rest_in (writes r) (writes t) base r (holds_in (writes t ++ base) r h.1))
  holds_in base (P l r) h = (part_in (writes r) (writes l) base l (holds_in base l h.0), rest_in (writes r) (writes l) base r (holds_in (writes l ++ base) r h.1))
  holds_in base (R room block env reads t) h = (sees_in (writes t) base reads h.0, holds_in base t h.1)

pub reads_in : {N : Type 0} → RunReadsIn N
reads_in w funcs room body env base r end t = holds_in w.same base r (traced_holds w funcs room body env base r end t)

-- whatever is said of the statements that left the old record
pub mended_reads_in : {N : Type 0} (w : Setting N) (funcs : List Func) (Q : List Stmt → Type 0) → IsClosed funcs Q → (room : ℕ) (body : List Stmt) (env : Env N) (heap base : HeapOf N) (old new : Rec N) (end : End) → Q body → traced w funcs room body env heap old Done → Mended w funcs Q base old new end → ReadsIn w.same base new
mended_reads_in w funcs Q closed room body env heap base old new end so t m =
    reads_in w funcs room body env base new end (traced_mended w funcs Q closed old new room body env heap base end so t m)

pub mended_reads : {N : Type 0} → RepairReadsIn N
mended_reads w funcs main room body env heap base old new end so t m =
    mended_reads_in w funcs _ (code_closed funcs main) room body env heap base old new end so t m
