-- A new record that comes of an old one over another heap is one that a run may leave there.
use Rattle.std.proofs.Common.{ℕ, List, ◌∷◌, ◌++◌, sym, subst, inl, inr, append_assoc}
use Rattle.psac_syntax.specs.declared.program.Stmt.{Stmt}
use Rattle.psac_syntax.specs.declared.program.Func.{Func}
use Rattle.psac_model.specs.declared.ends.End.{End}
use Rattle.psac_model.specs.declared.ends.End.TheVariants.{Done, Stop}
use Rattle.psac_model.specs.Names.{Env}
use Rattle.psac_model.specs.Expression.{Setting}
use Rattle.psac_model.specs.Tree.{Reads}
use Rattle.psac_model.specs.Run.{with_reads}
use Rattle.psac_traced.specs.Rec.{Rec, E, A, W, S, P, R, HeapOf, writes}
use Rattle.psac_traced.specs.Traced.{goes_on, traced}
use Rattle.psac_traced.specs.Parts.{IsClosed, IsBody}
use Rattle.psac_traced.specs.Mended.{Behind, Mended}
use Rattle.psac_traced.proofs.Again.{traced_again, reads_there}
use Rattle.psac_traced.proofs.Opened.{made_opened, wrote_opened, within_opened, pair_opened, reader_opened, no_pair, no_block}

module _ {N : Type 0} (w : Setting N) (funcs : List Func) (Q : List Stmt → Type 0) (closed : IsClosed funcs Q) where
  -- whatever statements left the old record, the new one is one that they may leave
  abbrev pub Follows : Rec N → Rec N → Type 0
  Follows old new = (room : ℕ) (body : List Stmt) (env : Env N) (heap other : HeapOf N) (end : End) → Q body → traced w funcs room body env heap old Done → Mended w funcs Q other old new end → traced w funcs room body env other new end

  behind : (e : End) (old new : Rec N) → Follows old new → (room : ℕ) (body : List Stmt) (env : Env N) (heap other : HeapOf N) (end : End) → Q body → traced w funcs room body env heap old Done → Behind e (Mended w funcs Q other old new end) new end → goes_on e (traced w funcs room) body env other new end
  behind Done old new go room body env heap other end q t m = go room body env heap other end q t m
  behind (Stop k line) old new go room body env heap other end q t m = m

  within : (t old u new : Rec N) → IsBody t → Follows t u → Follows old new → Follows (S t old) (S u new)
  within t old u new is one more room body env heap other end q k m =
      let o = within_opened w funcs Q closed room body env heap t old is q k in
      o.back other u m.0 new end (one o.inner o.first o.there heap other m.0 o.one_so o.one m.1)
      (behind m.0 old new more o.inner o.rest o.here (writes t ++ heap) (writes u ++ other) end o.more_so o.more m.2)

  reader : (room level b c : ℕ) (saved kept : Env N) (reads again : Reads N) (t old u new : Rec N) → Follows t u → Follows old new → Follows (S (R room b saved reads t) old) (S (R level c kept again u) new)
  reader room level b c saved kept reads again t old u new one more inner body env heap other end q k m =
      let i = m.1 in
      let o = reader_opened w funcs Q closed inner body env heap room b saved reads t old q k in
      let seen = reads_there w saved heap other o.items reads again o.seen i.3 i.4 in
      let inside : traced w funcs room o.first (with_reads saved o.items again) other u m.0 =
      elim i.5 [
        | inl j ↦ one room o.first (with_reads saved o.items again) heap other m.0 (closed.block o.stmt o.rest o.line b o.items o.first o.is o.so) (subst (λ z. traced w funcs room o.first (with_reads saved o.items z) heap t Done) j.0 o.one) j.1
        | inr j ↦ j.1 o.stmt o.rest o.line o.items o.first o.is o.so
      ] in
      let whole = o.back other again u m.0 new end seen inside (behind m.0 old new more room o.rest saved (writes t ++ heap) (writes u ++ other) end (closed.tail o.stmt o.rest o.so) o.more m.2) in
      subst (λ n. traced w funcs inner body env other (S (R n c kept again u) new) end) i.0
      (subst (λ n. traced w funcs inner body env other (S (R room n kept again u) new) end) i.1
      (subst (λ v. traced w funcs inner body env other (S (R room b v again u) new) end) i.2 whole))

  both : (l k old t u new : Rec N) → Follows l t → Follows k u → Follows old new → Follows (S (P l k) old) (S (P t u) new)
  both l k old t u new one two more room body env heap other end q z m =
      let o = pair_opened w funcs Q closed room body env heap l k old q z in
      let i = m.1 in
      let first = one o.inner o.left o.here heap other i.0 o.left_so o.one i.2 in
      let second = two o.inner o.right o.here (writes l ++ heap) (writes t ++ other) i.1 o.right_so o.other i.3 in
      o.back other t u i.0 i.1 new end first second
      (subst (λ e. goes_on e (traced w funcs o.inner) o.rest o.here (writes u ++ (writes t ++ other)) new end) (sym i.4)
      (subst (λ h. goes_on m.0 (traced w funcs o.inner) o.rest o.here h new end) (append_assoc (writes u) (writes t) other)
      (behind m.0 old new more o.inner o.rest o.here (writes k ++ (writes l ++ heap)) ((writes u ++ writes t) ++ other) end o.more_so o.more m.2)))

  pub traced_mended : (old new : Rec N) → Follows old new
  traced_mended E E room body env heap other end q t m = subst (traced w funcs room body env other E) (sym m) (traced_again w funcs room body env heap other E t tt)
  traced_mended (A m old) (A n new) room body env heap other end q t i =
      let o = made_opened w funcs Q closed room body env heap m old q t in
      subst (λ z. traced w funcs room body env other (A z new) end) i.0
      (o.back other new end (traced_mended old new o.inner o.rest o.here heap other end o.more_so o.more i.1))
  traced_mended (W m v old) (W n u new) room body env heap other end q t i =
      let o = wrote_opened w funcs Q closed room body env heap m v old q t in
      let at : Mended w funcs Q ((m, v) ∷ other) old new end = subst (λ z. Mended w funcs Q ((z, v) ∷ other) old new end) (sym i.0) (subst (λ z. Mended w funcs Q ((n, z) ∷ other) old new end) (sym i.1) i.2) in
      subst (λ z. traced w funcs room body env other (W z u new) end) i.0
      (subst (λ z. traced w funcs room body env other (W m z new) end) i.1
      (o.back other new end (traced_mended old new o.inner o.rest o.here ((m, v) ∷ heap) ((m, v) ∷ other) end o.more_so o.more at)))
  traced_mended (S (P l k) old) (S (P t u) new) room body env heap other end q z m = both l k old t u new (traced_mended l t) (traced_mended k u) (traced_mended old new) room body env heap other end q z m
  traced_mended (S (R room b saved reads t) old) (S (R level c kept again u) new) inner body env heap other end q z m =
      reader room level b c saved kept reads again t old u new (traced_mended t u) (traced_mended old new) inner body env heap other end q z m
  traced_mended (S (P l k) old) (S u new) room body env heap other end q z m = absurd m.1
  traced_mended (S (R level b saved reads t) old) (S u new) room body env heap other end q z m = absurd m.1
  traced_mended (S E old) (S u new) room body env heap other end q z m = within E old u new tt (traced_mended E u) (traced_mended old new) room body env heap other end q z m
  traced_mended (S (A n t) old) (S u new) room body env heap other end q z m = within (A n t) old u new tt (traced_mended (A n t) u) (traced_mended old new) room body env heap other end q z m
  traced_mended (S (W n v t) old) (S u new) room body env heap other end q z m = within (W n v t) old u new tt (traced_mended (W n v t) u) (traced_mended old new) room body env heap other end q z m
  traced_mended (S (S a t) old) (S u new) room body env heap other end q z m = within (S a t) old u new tt (traced_mended (S a t) u) (traced_mended old new) room body env heap other end q z m
  traced_mended (P l k) (P t u) room body env heap other end q z m = absurd (no_pair w funcs Q closed room body env heap l k q z)
  traced_mended (R room b saved reads t) (R level c kept again u) inner body env heap other end q z m =
      absurd (no_block w funcs Q closed inner body env heap room b saved reads t q z)
  traced_mended _ _ room body env heap other end q z m = absurd m
