-- Links that are left and links that stay, part by part.
use Rattle.std.proofs.Common.{◌≡◌, ◌≢◌, ℕ, ◌+◌, ◌≤◌, List, [], ◌∷◌, ◌++◌, map, cond, refl, ap, sym, ◌∙◌, subst, inl, inr, ⊎_elim, arith}
use Rattle.std.specs.Prelude.{sum_by}
use Rattle.std.proofs.lemmas.List.Sums.{sum_by-append, sum_by-cons}
use Rattle.std.proofs.lemmas.Bool.{eq-eqb, ne_eqb}
use Rattle.psac_slots.specs.Handles.{Member}
use Rattle.psac_slots.proofs.Pairs.{member_left, member_right, map_member}
use Rattle.psac_slots.proofs.Sums.{bit}
use Rattle.psac_readers.specs.declared.view.LinkView.{LinkView}
use Rattle.psac_readers.specs.declared.view.ReadersView.{ReadersView}
use Rattle.psac_readers.specs.Chained.{named, alive}
use Rattle.psac_readers.specs.Steps.{die, dying, left}
use Rattle.psac_record.specs.Kept.{Kept, S, Stands, links_of}
use Rattle.psac_repair.specs.Taken.{MayLeave, all_left, indexes}
use Rattle.psac_repair.specs.Linked.{standing, left_link, Distinct, LinksOnce, Linked, Relinked}
use Rattle.psac_repair.proofs.Leaving.{indexes_append}

pub member_sum : {A : Type 0} (g : A → ℕ) (x : A) (xs : List A) → Member x xs → g x ≤ sum_by g xs
member_sum g x [] i = absurd i
member_sum g x (y ∷ ys) i =
    let c = sum_by-cons g y ys in
    ⊎_elim (λ (e : y ≡ x). let d = ap g e in omega (arith, c, d)) (λ (j : Member x ys). let d = member_sum g x ys j in omega (arith, c, d)) i

die_other : (l : ℕ) (k : LinkView) → k.link ≢ l → die l k ≡ k
die_other l k n = ap (λ b. record k { stage = cond b (dying k.stage) k.stage }) (ne_eqb k.link l n)

die_standing : (s : Stands) → die s.link.index (standing s) ≡ left_link s
die_standing s = ap (λ b. record (standing s) { stage = cond b (dying (standing s).stage) (standing s).stage }) (eq-eqb s.link.index s.link.index refl)

pub named_other : (l : ℕ) (k : LinkView) → named l k ≡ 0 → k.link ≢ l
named_other l k z e = let t = ap bit (eq-eqb k.link l e) in omega (arith, z, t)

pub named_here : (s : Stands) → named s.link.index (standing s) ≡ 1
named_here s = ap bit (eq-eqb s.link.index s.link.index refl)

-- where no link has the index nothing changes
none_die : (g : LinkView → ℕ) (l : ℕ) (xs : List LinkView) → sum_by (named l) xs ≡ 0 → sum_by g (map (die l) xs) ≡ sum_by g xs
none_die g l [] z = refl
none_die g l (x ∷ xs) z =
    let a = sum_by-cons (named l) x xs in
    let b = sum_by-cons g x xs in
    let c = sum_by-cons g (die l x) (map (die l) xs) in
    let d = none_die g l xs (omega (arith, a, z)) in
    let e = ap g (die_other l x (named_other l x (omega (arith, a, z)))) in
    omega (arith, b, c, d, e)

one_dies : (g : LinkView → ℕ) (s : Stands) (xs : List LinkView) → Member (standing s) xs → sum_by (named s.link.index) xs ≤ 1 → sum_by g (map (die s.link.index) xs) + g (standing s) ≡ sum_by g xs + g (left_link s)
one_dies g s [] i o = absurd i
one_dies g s (x ∷ xs) i o =
    let l = s.link.index in
    let a = sum_by-cons (named l) x xs in
    let b = sum_by-cons g x xs in
    let c = sum_by-cons g (die l x) (map (die l) xs) in
    let n = named_here s in
    ⊎_elim
    (λ (e : x ≡ standing s).
    let f = ap (named l) e in
    let d = none_die g l xs (omega (arith, a, n, f, o)) in
    let h = ap g (ap (die l) e ∙ die_standing s) in
    let k = ap g e in
    omega (arith, b, c, d, h, k))
    (λ (j : Member (standing s) xs).
    let m = member_sum (named l) (standing s) xs j in
    let d = one_dies g s xs j (omega (arith, a, o)) in
    let h = ap g (die_other l x (named_other l x (omega (arith, a, m, n, o)))) in
    omega (arith, b, c, d, h))
    i

same_named : (l k : ℕ) (xs : List LinkView) → sum_by (named l) (map (die k) xs) ≡ sum_by (named l) xs
same_named l k [] = refl
same_named l k (x ∷ xs) =
    let a = sum_by-cons (named l) x xs in
    let b = sum_by-cons (named l) (die k x) (map (die k) xs) in
    let c = same_named l k xs in
    omega (arith, a, b, c)

pub once_left : (l : ℕ) (r : ReadersView) → LinksOnce r → LinksOnce (left l r)
once_left l r o k = let a = same_named k l r.links in let b = o k in omega (arith, a, b)

stays_live : (l : ℕ) (r : ReadersView) (k : LinkView) → k.link ≢ l → Member k r.links → Member k (left l r).links
stays_live l r k n i = subst (λ z. Member z (map (die l) r.links)) (die_other l k n) (map_member (die l) k r.links i)

not_first : (s t : Stands) (ss : List Stands) → (Member s.link.index (indexes ss) → ⊥) → Member t ss → t.link.index ≢ s.link.index
not_first s t ss out i e = out (subst (λ z. Member z (indexes ss)) e (map_member (λ (z : Stands). z.link.index) t ss i))

alive_here : (s : Stands) → alive s.link.index (standing s) ≡ 1
alive_here s = ap (λ b. cond b 1 0) (eq-eqb s.link.index s.link.index refl)

-- links that are live and differ may be left one after the other
pub may_leave_all : (ss : List Stands) (r : ReadersView) → ((s : Stands) → Member s ss → Member (standing s) r.links) → Distinct (indexes ss) → MayLeave (indexes ss) r
may_leave_all [] r live d = tt
may_leave_all (s ∷ ss) r live d = (
  let a = member_sum (alive s.link.index) (standing s) r.links (live s (inl refl)) in let b = alive_here s in omega (arith, a, b),
  may_leave_all ss (left s.link.index r) (λ t i. stays_live s.link.index r (standing t) (not_first s t ss d.0 i) (live t (inr i))) d.1,
)

pub relinked_none : (r : ReadersView) → Relinked r r [] []
relinked_none r = record { branch = refl; mods = refl; links = λ g. omega arith; keeps = λ k i out. i; walk = λ g. refl; shared = refl }

pub relinked_then : (r q x : ReadersView) (a b c d : List Stands) → Relinked r q a b → Relinked q x c d → Relinked r x (a ++ c) (b ++ d)
relinked_then r q x a b c d one two =
    record {
      branch = two.branch ∙ one.branch;
      mods = two.mods ∙ one.mods;
      links = λ g.
          let e = one.links g in
          let f = two.links g in
          let h = sum_by-append (λ (s : Stands). g (standing s)) a c in
          let i = sum_by-append (λ (s : Stands). g (left_link s)) a c in
          let j = sum_by-append (λ (s : Stands). g (standing s)) b d in
          omega (arith, e, f, h, i, j);
      keeps = λ k i out.
          let front : Member k.link (indexes a) → ⊥ = λ j. out (subst (Member k.link) (sym (indexes_append a c)) (member_left k.link (indexes a) (indexes c) j)) in
          let back : Member k.link (indexes c) → ⊥ = λ j. out (subst (Member k.link) (sym (indexes_append a c)) (member_right k.link (indexes a) (indexes c) j)) in
          two.keeps k (one.keeps k i front) back;
      walk = λ g. two.walk g ∙ one.walk g;
      shared = two.shared ∙ one.shared;
    }

relinked_one : (s : Stands) (r : ReadersView) → Member (standing s) r.links → LinksOnce r → Relinked r (left s.link.index r) (s ∷ []) []
relinked_one s r i o =
    record {
      branch = refl;
      mods = refl;
      links = λ g.
          let a = one_dies g s r.links i (o s.link.index) in
          let b = sum_by-cons (λ (z : Stands). g (standing z)) s [] in
          let c = sum_by-cons (λ (z : Stands). g (left_link z)) s [] in
          omega (arith, a, b, c);
      keeps = λ k j out. stays_live s.link.index r k (λ e. out (inl (sym e))) j;
      walk = λ g. refl;
      shared = refl;
    }

-- all of them are left
pub relinked_left : (ss : List Stands) (r : ReadersView) → ((s : Stands) → Member s ss → Member (standing s) r.links) → Distinct (indexes ss) → LinksOnce r → Relinked r (all_left (indexes ss) r) ss []
relinked_left [] r live d o = relinked_none r
relinked_left (s ∷ ss) r live d o =
    relinked_then r (left s.link.index r) (all_left (indexes ss) (left s.link.index r)) (s ∷ []) [] ss [] (relinked_one s r (live s (inl refl)) o)
    (relinked_left ss (left s.link.index r) (λ t i. stays_live s.link.index r (standing t) (not_first s t ss d.0 i) (live t (inr i))) d.1 (once_left s.link.index r o))

-- a record whose links weren't left stands as it stood
pub linked_on : (r q : ReadersView) (gone made : List Stands) (k : Kept) → Relinked r q gone made → ((l : ℕ) → Member l (indexes gone) → Member l (indexes (links_of k)) → ⊥) → Linked r k → Linked q k
linked_on r q gone made k m apart h =
    record {
      live = λ s i. m.keeps (standing s) (h.live s i) (λ j. apart s.link.index j (map_member (λ (z : Stands). z.link.index) s (links_of k) i));
      once = h.once;
    }

pub distinct_front : (xs ys : List ℕ) → Distinct (xs ++ ys) → Distinct xs
distinct_front [] ys d = tt
distinct_front (x ∷ xs) ys d = (λ i. d.0 (member_left x xs ys i), distinct_front xs ys d.1)

pub distinct_back : (xs ys : List ℕ) → Distinct (xs ++ ys) → Distinct ys
distinct_back [] ys d = d
distinct_back (x ∷ xs) ys d = distinct_back xs ys d.1

pub distinct_apart : (xs ys : List ℕ) → Distinct (xs ++ ys) → (x : ℕ) → Member x xs → Member x ys → ⊥
distinct_apart [] ys d x i j = i
distinct_apart (y ∷ xs) ys d x (inl e) j = d.0 (member_right y xs ys (subst (λ z. Member z ys) (sym e) j))
distinct_apart (y ∷ xs) ys d x (inr i) j = distinct_apart xs ys d.1 x i j

-- the parts of a record, each with its links
module _ (r : ReadersView) (n : _) (t k : Kept) (h : Linked r (S n t k)) where
  parts_once : Distinct (indexes (links_of t) ++ indexes (links_of k))
  parts_once = subst Distinct (indexes_append (links_of t) (links_of k)) h.once

  pub linked_part : Linked r t
  linked_part = record { live = λ s i. h.live s (member_left s (links_of t) (links_of k) i); once = distinct_front (indexes (links_of t)) (indexes (links_of k)) parts_once }

  pub linked_rest : Linked r k
  linked_rest = record { live = λ s i. h.live s (member_right s (links_of t) (links_of k) i); once = distinct_back (indexes (links_of t)) (indexes (links_of k)) parts_once }

  pub links_apart : (l : ℕ) → Member l (indexes (links_of t)) → Member l (indexes (links_of k)) → ⊥
  links_apart = distinct_apart (indexes (links_of t)) (indexes (links_of k)) parts_once

pub may_leave_tree : (r : ReadersView) (k : Kept) → Linked r k → MayLeave (indexes (links_of k)) r
may_leave_tree r k h = may_leave_all (links_of k) r h.live h.once

pub relinked_tree : (r q : ReadersView) (k : Kept) → Linked r k → LinksOnce r → q ≡ all_left (indexes (links_of k)) r → Relinked r q (links_of k) []
relinked_tree r q k h o e = subst (λ z. Relinked r z (links_of k) []) (sym e) (relinked_left (links_of k) r h.live h.once o)
