-- Values that were shown one after another.
use Rattle.std.proofs.Common.{◌≡◌, ◌∙◌, ◌≤◌, IfSome, ℕ, List, [], ◌∷◌, ◌++◌, Option, Some, None, refl, ap, sym, append_assoc}
use Rattle.std.proofs.lemmas.List.{append-nil}
use Rattle.psac_publish.specs.declared.seen.Seen.{Seen}
use Rattle.psac_publish.specs.History.{Course}
use Rattle.psac_watch.specs.Showed.{Follow, IsAt, Showed}

follow_on : (course : Course) (a b c : Option ℕ) (xs ys : List Seen) → Follow course a xs b → Follow course b ys c → Follow course a (xs ++ ys) c
follow_on course a b c [] ys first then_ = rw first then_
follow_on course a b c (x ∷ xs) ys first then_ = (first.0, first.1, follow_on course (Some x.commit) b c xs ys first.2 then_)

-- nothing was shown
pub none_shown : (course : Course) (last : Option ℕ) (seen : Option (List Seen)) → Showed course last last seen seen
none_shown course last None = tt
none_shown course last (Some seen) = record { values = []; grown = sym (append-nil seen); follow = refl }

pub shown_on : (course : Course) (a b c : Option ℕ) (x y z : Option (List Seen)) → Showed course a b x y → Showed course b c y z → Showed course a c x z
shown_on course a b c x y None first then_ = tt
shown_on course a b c x None (Some z) first then_ = absurd then_
shown_on course a b c None (Some y) (Some z) first then_ = absurd first
shown_on course a b c (Some x) (Some y) (Some z) first then_ = record {
  values = first.values ++ then_.values;
  grown = then_.grown ∙ ap (λ (xs : List Seen). xs ++ then_.values) first.grown ∙ append_assoc x first.values then_.values;
  follow = follow_on course a b c first.values then_.values first.follow then_.follow;
}

pub at_some : (last : Option ℕ) (n : ℕ) → last ≡ Some n → IsAt last n
at_some last n is = rw is refl

-- the number of a last value isn't above a greater one
pub up_to : (last : Option ℕ) (m n : ℕ) → IsAt last m → m ≤ n → IfSome last (λ k. k ≤ n)
up_to None m n at up = tt
up_to (Some k) m n at up = rw at up
