-- What a list of subtrees has is what the part has that is taken, and what is left.
use Rattle.std.proofs.Common.{◌≡◌, ◌∙◌, ap, sym, refl, List, [], ◌∷◌, ◌++◌, map, Option, Some, None}
use Rattle.std.proofs.lemmas.Option.{none-some}
use Rattle.std.proofs.lemmas.List.{append_assoc, append-nil}
use Rattle.psac_record.specs.Kept.{Kept, E, A, W, S, P, R, stands, added, all_of, parted, nodes_in, links_of, made_of}

-- a part without what stands in it, and what stands in it
abbrev alone : Kept → Kept
alone E = E
alone (A m rest) = A m E
alone (W m v rest) = W m v E
alone (S node t rest) = S node E E
alone (P node l r) = P node E E
alone (R reading t) = R reading E

abbrev within : Kept → List Kept
within E = []
within (A m rest) = rest ∷ []
within (W m v rest) = rest ∷ []
within (S node t rest) = t ∷ rest ∷ []
within (P node l r) = l ∷ r ∷ []
within (R reading t) = t ∷ []

abbrev placed : List Kept → List Kept → List Kept
placed [] more = more
placed (k ∷ ks) more = added k (placed ks more)

parted_is : (k : Kept) (more : List Kept) → parted (k ∷ more) ≡ Some (alone k, placed (within k) more)
parted_is E more = refl
parted_is (A m rest) more = refl
parted_is (W m v rest) more = refl
parted_is (S node t rest) more = refl
parted_is (P node l r) more = refl
parted_is (R reading t) more = refl

abbrev inside : Option (Kept × List Kept) → Kept × List Kept
inside None = (E, [])
inside (Some p) = p

module _ {X : Type 0} (f : Kept → List X) (none : f E ≡ []) (law : (k : Kept) → f k ≡ f (alone k) ++ all_of f (within k)) where
  all_added : (k : Kept) (more : List Kept) → all_of f (added k more) ≡ f k ++ all_of f more
  all_added E more = ap (λ x. x ++ all_of f more) (sym none)
  all_added (A m rest) more = refl
  all_added (W m v rest) more = refl
  all_added (S node t rest) more = refl
  all_added (P node l r) more = refl
  all_added (R reading t) more = refl

  all_placed : (ks more : List Kept) → all_of f (placed ks more) ≡ all_of f ks ++ all_of f more
  all_placed [] more = refl
  all_placed (k ∷ ks) more =
      all_added k (placed ks more) ∙ ap (λ x. f k ++ x) (all_placed ks more) ∙ sym (append_assoc (f k) (all_of f ks) (all_of f more))

  all_parted : (old new : List Kept) (k : Kept) → parted old ≡ Some (k, new) → all_of f old ≡ f k ++ all_of f new
  all_parted [] new k h = absurd (none-some _ h)
  all_parted (x ∷ more) new k h =
      let e = sym (parted_is x more) ∙ h in
      ap (λ y. y ++ all_of f more) (law x)
      ∙ append_assoc (f (alone x)) (all_of f (within x)) (all_of f more)
      ∙ ap (λ y. f (alone x) ++ y) (sym (all_placed (within x) more))
      ∙ ap (λ o. f (inside o).0 ++ all_of f (inside o).1) e

nodes_law : (k : Kept) → nodes_in k ≡ nodes_in (alone k) ++ all_of nodes_in (within k)
nodes_law E = refl
nodes_law (A m rest) = sym (append-nil (nodes_in rest))
nodes_law (W m v rest) = sym (append-nil (nodes_in rest))
nodes_law (S node t rest) = ap (λ x. node ∷ (nodes_in t ++ x)) (sym (append-nil (nodes_in rest)))
nodes_law (P node l r) = ap (λ x. node ∷ (nodes_in l ++ x)) (sym (append-nil (nodes_in r)))
nodes_law (R reading t) = ap (λ x. reading.node ∷ x) (sym (append-nil (nodes_in t)))

links_law : (k : Kept) → links_of k ≡ links_of (alone k) ++ all_of links_of (within k)
links_law E = refl
links_law (A m rest) = sym (append-nil (links_of rest))
links_law (W m v rest) = sym (append-nil (links_of rest))
links_law (S node t rest) = ap (λ x. links_of t ++ x) (sym (append-nil (links_of rest)))
links_law (P node l r) = ap (λ x. links_of l ++ x) (sym (append-nil (links_of r)))
links_law (R reading t) =
    let own = map (stands reading.node) reading.reads in
    sym (append_assoc own [] (links_of t ++ []) ∙ ap (λ x. own ++ x) (append-nil (links_of t)))

made_law : (k : Kept) → made_of k ≡ made_of (alone k) ++ all_of made_of (within k)
made_law E = refl
made_law (A m rest) = ap (λ x. m ∷ x) (sym (append-nil (made_of rest)))
made_law (W m v rest) = sym (append-nil (made_of rest))
made_law (S node t rest) = ap (λ x. made_of t ++ x) (sym (append-nil (made_of rest)))
made_law (P node l r) = ap (λ x. made_of l ++ x) (sym (append-nil (made_of r)))
made_law (R reading t) = sym (append-nil (made_of t))

pub nodes_parted : (old new : List Kept) (k : Kept) → parted old ≡ Some (k, new) → all_of nodes_in old ≡ nodes_in k ++ all_of nodes_in new
nodes_parted = all_parted nodes_in refl nodes_law

pub links_parted : (old new : List Kept) (k : Kept) → parted old ≡ Some (k, new) → all_of links_of old ≡ links_of k ++ all_of links_of new
links_parted = all_parted links_of refl links_law

pub made_parted : (old new : List Kept) (k : Kept) → parted old ≡ Some (k, new) → all_of made_of old ≡ made_of k ++ all_of made_of new
made_parted = all_parted made_of refl made_law
