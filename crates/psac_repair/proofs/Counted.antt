-- The numbers of an outcome, from those of its parts.
use Rattle.std.proofs.Common.{◌≡◌, List, [], ◌++◌, Result, Ok, Err, IfOk, if◌then◌else◌, ap, sym, ◌∙◌, subst}
use Rattle.psac_ops.specs.declared.plain.Handle.{Handle}
use Rattle.psac_ops.specs.Named.{same_handle}
use Rattle.psac_traced.specs.Mending.{Mending, mended, untouched, unlike, anew, beside, below}
use Rattle.psac_traced.proofs.Kept.{kept_untouched}
use Rattle.psac_record.specs.declared.parts.Reading.{Reading}
use Rattle.psac_record.specs.Kept.{Kept, S, P, R, bare, reads_of, added}
use Rattle.psac_repair.specs.declared.tally.Tally.{Tally}
use Rattle.psac_repair.specs.declared.outcome.Stop.{Stop}
use Rattle.psac_repair.specs.Tallied.{tally_of}
use Rattle.psac_repair.specs.Taking.{taken}
use Rattle.psac_repair.proofs.Quiet.{like_itself}
use Rattle.psac_repair.proofs.Tells.{same_test}
use Rattle.psac_repair.proofs.Replacing.{taken_same}

-- these are the numbers between both records, and this was taken off
abbrev pub Numbered : Kept → Kept → List Kept → Tally → Type 0
Numbered k new d t = (t ≡ tally_of (mended same_handle (bare k) (bare new))) × (d ≡ taken k new)

pub counts_kept : (k : Kept) (t : Tally) (d : List Kept) → t ≡ tally_of untouched → d ≡ [] → Numbered k k d t
counts_kept k t d e f = (e ∙ ap tally_of (sym (kept_untouched same_handle same_test (bare k))), f ∙ sym (taken_same k))

-- a number of two parts, or of one, below a node
abbrev pub SumOf : Result Tally Stop → Result Tally Stop → Tally → Type 0
SumOf one two t = (x : Tally) × (y : Tally) × (one ≡ Ok x) × (two ≡ Ok y) × ((a b : Mending Handle) → x ≡ tally_of a → y ≡ tally_of b → t ≡ tally_of (below (beside a b)))

abbrev pub OneOf : Result Tally Stop → Tally → Type 0
OneOf told t = (x : Tally) × (told ≡ Ok x) × ((a : Mending Handle) → x ≡ tally_of a → t ≡ tally_of (below a))

module _ (n : Handle) (a b u w new : Kept) (one_off two_off off : List Kept) (one two : Result Tally Stop) (is : off ≡ one_off ++ two_off) where
  both_off : one_off ≡ taken a u → two_off ≡ taken b w → off ≡ taken a u ++ taken b w
  both_off e f = is ∙ ap (λ z. z ++ two_off) e ∙ ap (λ z. taken a u ++ z) f

  pub counts_step : (told : Result Tally Stop) → new ≡ S n u w → IfOk told (SumOf one two) → IfOk one (Numbered a u one_off) → IfOk two (Numbered b w two_off) → IfOk told (Numbered (S n a b) new off)
  counts_step (Ok t) e s x y =
      let c = subst (λ z. IfOk z (Numbered a u one_off)) s.2 x in
      let d = subst (λ z. IfOk z (Numbered b w two_off)) s.3 y in
      subst (λ z. Numbered (S n a b) z off t) (sym e) (s.4 (mended same_handle (bare a) (bare u)) (mended same_handle (bare b) (bare w)) c.0 d.0, both_off c.1 d.1)
  counts_step (Err h) e s x y = tt

  pub counts_sides : (told : Result Tally Stop) → new ≡ P n u w → IfOk told (SumOf one two) → IfOk one (Numbered a u one_off) → IfOk two (Numbered b w two_off) → IfOk told (Numbered (P n a b) new off)
  counts_sides (Ok t) e s x y =
      let c = subst (λ z. IfOk z (Numbered a u one_off)) s.2 x in
      let d = subst (λ z. IfOk z (Numbered b w two_off)) s.3 y in
      subst (λ z. Numbered (P n a b) z off t) (sym e) (s.4 (mended same_handle (bare a) (bare u)) (mended same_handle (bare b) (bare w)) c.0 d.0, both_off c.1 d.1)
  counts_sides (Err h) e s x y = tt

like_mended : (reads : _) (a b : Mending Handle) → (if unlike same_handle reads reads then a else b) ≡ b
like_mended reads a b = ap (λ z. if z then a else b) (like_itself reads)

like_taken : (reads : _) (a b : List Kept) → (if unlike same_handle reads reads then a else b) ≡ b
like_taken reads a b = ap (λ z. if z then a else b) (like_itself reads)

pub counts_block : (c : Reading) (k u new : Kept) (off : List Kept) (inner told : Result Tally Stop) → new ≡ R c u → IfOk told (OneOf inner) → IfOk inner (Numbered k u off) → IfOk told (Numbered (R c k) new off)
counts_block c k u new off inner (Ok t) e s x =
    let d = subst (λ z. IfOk z (Numbered k u off)) s.1 x in
    subst (λ z. Numbered (R c k) z off t) (sym e) (
      s.2 (mended same_handle (bare k) (bare u)) d.0 ∙ ap tally_of (sym (like_mended (reads_of c.reads) (anew (bare k) (bare u)) (below (mended same_handle (bare k) (bare u))))),
      d.1 ∙ sym (like_taken (reads_of c.reads) (added k []) (taken k u)),
    )
counts_block c k u new off inner (Err h) e s x = tt
