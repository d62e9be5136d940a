-- What words that are present tell of a record and of the heap over which it is mended.
use Rattle.std.proofs.Common.{◌≡◌, List, [], ◌∷◌, Option, Some, ap, sym, ◌∙◌}
use Rattle.psac_ops.specs.Value.{Value}
use Rattle.psac_syntax.specs.declared.program.Stmt.{Stmt}
use Rattle.psac_syntax.specs.declared.program.Func.{Func}
use Rattle.psac_model.specs.declared.ends.End.TheVariants.{Done}
use Rattle.psac_model.specs.Expression.{Setting}
use Rattle.psac_model.specs.Tree.{Reads}
use Rattle.psac_naming.specs.Naming.{IsSameTest}
use Rattle.psac_traced.specs.Rec.{Rec, HeapOf, held_by}
use Rattle.psac_traced.specs.Holds.{read_names, EachOf, EachRead, Sees, Holds}
use Rattle.psac_traced.specs.Mended.{Mended}
use Rattle.psac_traced.proofs.Holds.{Stays, each_read_more, holds_moved}
use Rattle.psac_traced.proofs.Kept.{kept_mended}

-- of what the old heap has, the present words are those of the new one
module _ {N : Type 0} (w : Setting N) (is : IsSameTest w.same) (funcs : List Func) (Q : List Stmt → Type 0) (present : N → Option (Value N)) (heap other : HeapOf N) (agree : (m : N) (v : Value N) → held_by w.same heap m ≡ Some v → present m ≡ held_by w.same other m) where
  -- a record that read what is present is kept
  pub quiet_mended : (r : Rec N) → Holds w.same heap r → EachRead (λ m v. present m ≡ Some v) r → Mended w funcs Q other r r Done
  quiet_mended r h quiet =
      kept_mended w is funcs Q other r
      (holds_moved w.same heap other r (each_read_more (λ m v. present m ≡ Some v) (Stays w.same heap other) (λ m v p k. sym (agree m v k) ∙ p) r quiet) h)

  -- the present words of what a block read are what it reads now
  pub present_seen : (reads again : Reads N) → read_names reads ≡ read_names again → Sees w.same heap reads → EachOf (λ m v. present m ≡ Some v) again → Sees w.same other again
  present_seen [] [] n h k = tt
  present_seen [] (q ∷ qs) n h k = absurd cc
  present_seen (r ∷ rs) [] n h k = absurd cc
  present_seen (r ∷ rs) (q ∷ qs) n h k =
      let head : r.0 ≡ q.0 = cc in
      let tail : read_names rs ≡ read_names qs = cc in
      let had : held_by w.same heap q.0 ≡ Some r.1 = ap (held_by w.same heap) (sym head) ∙ h.0 in
      (sym (agree q.0 r.1 had) ∙ k.0, present_seen rs qs tail h.1 k.1)
