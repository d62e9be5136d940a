-- A beginning with one value more.
use Rattle.std.proofs.Common.{◌≡◌, ℕ, ◌==◌, eq-eqb, ⊎_elim, [], ◌∷◌, ◌++◌, MatchBool, subst}
use Rattle.psac_publish.specs.declared.seen.Seen.{Seen}
use Rattle.logbook.specs.Pages.{Book}
use Rattle.psac_publish.specs.History.{Course, Fits, IsOf, Reached, nothing, reached}
use Rattle.psac_publish.proofs.Prefixes.{at_end}

pub when_equal : (found old : ℕ) (X : Type 0) → found ≡ old → MatchBool (found == old) X (Unit {0}) → X
when_equal found old X same told = subst (λ b. MatchBool b X (Unit {0})) (eq-eqb found old same) told

pub more_of : (name : Book) (course : Course) (r : Reached) (e : Seen) → IsOf name course r → Fits course e → IsOf name course (reached r.book (r.log ++ e ∷ []))
more_of name course r e of fits = record {
  named = of.named;
  fits = λ k s at. ⊎_elim (λ here. of.fits k s here) (λ there. subst (Fits course) there.1 fits) (at_end r.log e k s at);
}

pub first_of : (name book : Book) (course : Course) → book ≡ name → Fits course nothing → IsOf name course (reached book (nothing ∷ []))
first_of name book course named fits = record {
  named = named;
  fits = λ k s at. ⊎_elim (λ here. absurd (cc here)) (λ there. subst (Fits course) there.1 fits) (at_end [] nothing k s at);
}
