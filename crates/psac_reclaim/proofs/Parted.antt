-- What subtrees have is what their first part has, and what is left of them.
use Rattle.std.proofs.Common.{◌≡◌, ◌+◌, ◌<◌, List, [], ◌∷◌, ◌++◌, false, Some, refl, sym, ap, ◌∙◌, subst, arith, append_assoc}
use Rattle.psac_record.specs.Kept.{Kept, E, A, W, S, P, R, added, parted, parts, parts_of_all, made_of, links_of, is_end}
use Rattle.psac_reclaim.specs.Parts.{nodes_of, in_all, made_here, node_here, links_here}

pub record Parted (ks : List Kept) (k : Kept) (rest : List Kept) : Type 0 where
  pub made : in_all made_of ks ≡ made_here k ++ in_all made_of rest
  pub nodes : in_all nodes_of ks ≡ node_here k ++ in_all nodes_of rest
  pub links : in_all links_of ks ≡ links_here k ++ in_all links_of rest
  pub fewer : is_end k ≡ false → parts_of_all rest < parts_of_all ks

added_all : {X : Type 0} (f : Kept → List X) → f E ≡ [] → (k : Kept) (more : List Kept) → in_all f (added k more) ≡ f k ++ in_all f more
added_all f h E more = ap (λ z. z ++ in_all f more) (sym h)
added_all f h (A m rest) more = refl
added_all f h (W m v rest) more = refl
added_all f h (S node t rest) more = refl
added_all f h (P node l r) more = refl
added_all f h (R reading t) more = refl

-- two records in front of others
added_both : {X : Type 0} (f : Kept → List X) → f E ≡ [] → (t rest : Kept) (more : List Kept) → (f t ++ f rest) ++ in_all f more ≡ in_all f (added t (added rest more))
added_both f h t rest more = append_assoc (f t) (f rest) (in_all f more) ∙ sym (added_all f h t (added rest more) ∙ ap (λ z. f t ++ z) (added_all f h rest more))

added_parts : (k : Kept) (more : List Kept) → parts_of_all (added k more) ≡ parts k + parts_of_all more
added_parts E more = omega arith
added_parts (A m rest) more = refl
added_parts (W m v rest) more = refl
added_parts (S node t rest) more = refl
added_parts (P node l r) more = refl
added_parts (R reading t) more = refl

first : {ks : List Kept} {x : Kept × List Kept} (k : Kept) (rest : List Kept) → parted ks ≡ Some x → parted ks ≡ Some (k, rest) → Parted ks x.0 x.1 → Parted ks k rest
first {ks} {x} k rest a b p = let q : x ≡ (k, rest) = cc in subst (λ (y : Kept × List Kept). Parted ks y.0 y.1) q p

pub parted_lists : (ks : List Kept) (k : Kept) (rest : List Kept) → parted ks ≡ Some (k, rest) → Parted ks k rest
parted_lists [] k rest e = absurd (cc)
parted_lists (E ∷ more) k rest e = first {ks = E ∷ more} {x = (E, more)} k rest refl e (record { made = refl; nodes = refl; links = refl; fewer = λ q. absurd (cc) })
parted_lists (A m t ∷ more) k rest e = first {ks = A m t ∷ more} {x = (A m E, added t more)} k rest refl e (record {
  made = ap (λ z. m ∷ z) (sym (added_all made_of refl t more));
  nodes = sym (added_all nodes_of refl t more);
  links = sym (added_all links_of refl t more);
  fewer = λ q. let p = added_parts t more in omega (arith, p);
})
parted_lists (W m v t ∷ more) k rest e = first {ks = W m v t ∷ more} {x = (W m v E, added t more)} k rest refl e (record {
  made = sym (added_all made_of refl t more);
  nodes = sym (added_all nodes_of refl t more);
  links = sym (added_all links_of refl t more);
  fewer = λ q. let p = added_parts t more in omega (arith, p);
})
parted_lists (S node t r ∷ more) k rest e = first {ks = S node t r ∷ more} {x = (S node E E, added t (added r more))} k rest refl e (record {
  made = added_both made_of refl t r more;
  nodes = ap (λ z. node ∷ z) (added_both nodes_of refl t r more);
  links = added_both links_of refl t r more;
  fewer = λ q. let p = added_parts t (added r more) in let s = added_parts r more in omega (arith, p, s);
})
parted_lists (P node t r ∷ more) k rest e = first {ks = P node t r ∷ more} {x = (P node E E, added t (added r more))} k rest refl e (record {
  made = added_both made_of refl t r more;
  nodes = ap (λ z. node ∷ z) (added_both nodes_of refl t r more);
  links = added_both links_of refl t r more;
  fewer = λ q. let p = added_parts t (added r more) in let s = added_parts r more in omega (arith, p, s);
})
parted_lists (R reading t ∷ more) k rest e = first {ks = R reading t ∷ more} {x = (R reading E, added t more)} k rest refl e (record {
  made = sym (added_all made_of refl t more);
  nodes = ap (λ z. reading.node ∷ z) (sym (added_all nodes_of refl t more));
  links = append_assoc (links_here (R reading t)) (links_of t) (in_all links_of more) ∙ ap (λ z. links_here (R reading t) ++ z) (sym (added_all links_of refl t more));
  fewer = λ q. let p = added_parts t more in omega (arith, p);
})
