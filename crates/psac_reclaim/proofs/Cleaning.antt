-- Sets are swept one after another.
use Rattle.std.proofs.Common.{◌≡◌, ◌≢◌, ◌⊎◌, ℕ, ◌+◌, ◌-◌, ◌<◌, ◌≤◌, List, [], ◌∷◌, ◌++◌, Bool, true, false, cond, Some, refl, sym, ap, ◌∙◌, subst, inl, inr, ⊎_elim, arith}
use Rattle.std.specs.Prelude.{sum_by, filter, not, ◌==◌}
use Rattle.std.proofs.lemmas.List.Sums.{sum_by-cons}
use Rattle.std.proofs.lemmas.Bool.{cases_eq, eq-eqb, eqb-true, ne_eqb}
use Rattle.psac_slots.specs.Handles.{Member}
use Rattle.psac_slots.proofs.Pairs.{member_filter, filter_member, member_cases, member_left, member_right}
use Rattle.psac_readers.specs.declared.view.Stage.{Stage}
use Rattle.psac_readers.specs.declared.view.Stage.TheVariants.{Claimed, UnderWay, In, Dead}
use Rattle.psac_readers.specs.declared.view.LinkView.{LinkView}
use Rattle.psac_readers.specs.declared.view.ReadersView.{ReadersView}
use Rattle.psac_readers.specs.Chained.{named, linked, alive, deads, is_dead, is_live, in_set, times, mods_of}
use Rattle.psac_readers.specs.Steps.{swept, swept_one, learned, rewound, other_link}
use Rattle.psac_readers.specs.Swept.{TakenOff}
use Rattle.psac_readers.proofs.Links.{mods_learn, sum_plus, sum_under}
use Rattle.psac_readers.proofs.Sweeping.{swept_rest}
use Rattle.psac_reclaim.specs.Gave.{Cleaned, Clean, Left, SameSets, unless_dead, live_part}
use Rattle.psac_reclaim.proofs.Lists.{member_le, member_of, differs, is_unlike}

-- each link of this number is dead
abbrev pub AllDead : ℕ → List LinkView → Type 0
AllDead l ks = (k : LinkView) → Member k ks → k.link ≡ l → k.stage ≡ Dead

-- what is named and isn't dead
standing : ℕ → LinkView → ℕ
standing l k = cond (k.link == l) (1 - is_dead k.stage) 0

standing_named : (l : ℕ) (k : LinkView) → named l k ≡ deads l k + standing l k
unfolding standing
standing_named l k = by (k.link == l) k.stage
  where
    by : (b : Bool) (s : Stage) → ◌≡◌ {A = ℕ} (cond b 1 0) (cond b (is_dead s) 0 + cond b (1 - is_dead s) 0)
    by true Claimed = refl
    by true (UnderWay n) = refl
    by true In = refl
    by true Dead = refl
    by false s = refl

stands_zero : (l : ℕ) (k : LinkView) → standing l k ≡ 0 → k.link ≡ l → k.stage ≡ Dead
unfolding standing
stands_zero l k z e = by k.stage refl (sym (ap {B = ℕ} (λ b. cond b (1 - is_dead k.stage) 0) (eq-eqb k.link l e)) ∙ z)
  where
    by : (s : Stage) → k.stage ≡ s → ◌≡◌ {A = ℕ} (1 - is_dead s) 0 → k.stage ≡ Dead
    by Claimed p q = absurd (omega (arith, q))
    by (UnderWay n) p q = absurd (omega (arith, q))
    by In p q = absurd (omega (arith, q))
    by Dead p q = p

-- a link that is dead, and stands once, is dead
pub all_dead : (l : ℕ) (ks : List LinkView) → sum_by (named l) ks ≤ 1 → 0 < sum_by (deads l) ks → AllDead l ks
all_dead l ks few some k m e =
    let p = sum_plus (deads l) (standing l) (named l) (standing_named l) ks in
    let q = member_le (standing l) k ks m in
    stands_zero l k (omega (arith, few, some, p, q)) e

dead_filter : (l x : ℕ) (ks : List LinkView) → AllDead l ks → AllDead l (filter (other_link x) ks)
dead_filter l x ks d k m e = d k (member_filter (other_link x) k ks m).0 e

filter_live : (g : LinkView → ℕ) (x : ℕ) (ks : List LinkView) → AllDead x ks → sum_by (unless_dead g) (filter (other_link x) ks) ≡ sum_by (unless_dead g) ks
filter_live g x [] d = refl
filter_live g x (k ∷ ks) d = by (filter_live g x ks (λ y m e. d y (inr m) e)) (d k (inl refl)) (k.link == x) refl
  where
    by : sum_by (unless_dead g) (filter (other_link x) ks) ≡ sum_by (unless_dead g) ks → (k.link ≡ x → k.stage ≡ Dead) → (b : Bool) → (k.link == x) ≡ b → sum_by (unless_dead g) (cond (not b) (k ∷ filter (other_link x) ks) (filter (other_link x) ks)) ≡ sum_by (unless_dead g) (k ∷ ks)
    by r h true is = let c = sum_by-cons (unless_dead g) k ks in let z : unless_dead g k ≡ 0 = ap (λ s. live_part s (g k)) (h (eqb-true k.link x is)) in omega (arith, c, z, r)
    by r h false is = let c = sum_by-cons (unless_dead g) k ks in let e = sum_by-cons (unless_dead g) k (filter (other_link x) ks) in omega (arith, c, e, r)

filter_less : (g : LinkView → ℕ) (x : ℕ) (ks : List LinkView) → sum_by g (filter (other_link x) ks) ≤ sum_by g ks
filter_less g x [] = omega arith
filter_less g x (k ∷ ks) = by (filter_less g x ks) (k.link == x)
  where
    by : sum_by g (filter (other_link x) ks) ≤ sum_by g ks → (b : Bool) → sum_by g (cond (not b) (k ∷ filter (other_link x) ks) (filter (other_link x) ks)) ≤ sum_by g (k ∷ ks)
    by r true = let c = sum_by-cons g k ks in omega (arith, c, r)
    by r false = let c = sum_by-cons g k ks in let e = sum_by-cons g k (filter (other_link x) ks) in omega (arith, c, e, r)

pub swept_live : (g : LinkView → ℕ) (ls : List ℕ) (v : ReadersView) → ((l : ℕ) → 0 < times l ls → AllDead l v.links) → sum_by (unless_dead g) (swept ls v).links ≡ sum_by (unless_dead g) v.links
swept_live g [] v d = refl
swept_live g (l ∷ ls) v d =
    swept_live g ls (swept_one l v) (λ x p. dead_filter x l v.links (d x (times_more x l ls p)))
    ∙ filter_live g l v.links (d l (times_first l ls))
  where
    times_more : (x l : ℕ) (ls : List ℕ) → 0 < times x ls → 0 < times x (l ∷ ls)
    times_more x l ls p = omega (arith, p)

    times_first : (l : ℕ) (ls : List ℕ) → 0 < times l (l ∷ ls)
    times_first l ls = rw (eq-eqb l l refl) (omega arith)

pub swept_less : (g : LinkView → ℕ) (ls : List ℕ) (v : ReadersView) → sum_by g (swept ls v).links ≤ sum_by g v.links
swept_less g [] v = omega arith
swept_less g (l ∷ ls) v = let a = swept_less g ls (swept_one l v) in let b = filter_less g l v.links in omega (arith, a, b)

-- what is left was there, and isn't one of those that went
pub swept_in : (ls : List ℕ) (v : ReadersView) (k : LinkView) → Member k (swept ls v).links → Member k v.links × (times k.link ls ≡ 0)
swept_in [] v k m = (m, refl)
swept_in (l ∷ ls) v k m =
    let r = swept_in ls (swept_one l v) k m in
    let f = member_filter (other_link l) k v.links r.0 in
    let n : ◌≡◌ {A = ℕ} (cond (l == k.link) 1 0) 0 = ap {B = ℕ} (λ b. cond b 1 0) (ne_eqb l k.link (λ e. differs k.link l f.1 (sym e))) in
    let t = r.1 in
    (f.0, omega (arith, t, n))

pub swept_stays : (ls : List ℕ) (v : ReadersView) (k : LinkView) → Member k v.links → times k.link ls ≡ 0 → Member k (swept ls v).links
swept_stays [] v k i z = i
swept_stays (l ∷ ls) v k i z =
    let n : k.link ≢ l = λ e. let t : ◌≡◌ {A = ℕ} (cond (l == k.link) 1 0) 1 = ap {B = ℕ} (λ b. cond b 1 0) (eq-eqb l k.link (sym e)) in absurd (omega (arith, z, t)) in
    swept_stays ls (swept_one l v) k (filter_member (other_link l) k v.links i (is_unlike k.link l n)) (omega (arith, z))

pub swept_claims : (ls : List ℕ) (v : ReadersView) → ((swept ls v).claims.counter ≡ v.claims.counter) × ((swept ls v).claims.branch ≡ v.claims.branch) × ((swept ls v).claims.count ≡ v.claims.count)
swept_claims [] v = (refl, refl, refl)
swept_claims (l ∷ ls) v = swept_claims ls (swept_one l v)

dead_linked : (m : ℕ) (k : LinkView) → k.stage ≡ Dead → m ≡ k.of → ◌≡◌ {A = ℕ} (linked m k.link k) 1
dead_linked m k d e = rw (eq-eqb k.link k.link refl, eq-eqb k.of m (sym e), d) refl

dead_deads : (k : LinkView) → k.stage ≡ Dead → ◌≡◌ {A = ℕ} (deads k.link k) 1
dead_deads k d = rw (eq-eqb k.link k.link refl, d) refl

module _ (v w : ReadersView) (m : ℕ) (once : (l : ℕ) → sum_by (named l) v.links ≤ 1) (t : TakenOff false (rewound v) m w) where
  dead_gone : (l : ℕ) → 0 < times l t.gone → AllDead l v.links
  dead_gone l p = all_dead l v.links (once l) (t.goes refl l p)

  links_now : w.links ≡ (swept t.gone (learned m t.chain (rewound v))).links
  links_now = ap (λ (u : ReadersView). u.links) t.becomes

  start : ReadersView
  start = learned m t.chain (rewound v)

  swept_clean : (k : LinkView) (x : ℕ) → Member k w.links → k.stage ≡ Dead → Member x (m ∷ []) → x ≢ k.of
  swept_clean k x i d r e =
      let same : x ≡ m = ⊎_elim (λ (q : m ≡ x). sym q) (λ (q : ⊥). absurd q) r in
      let there = swept_in t.gone (learned m t.chain (rewound v)) k (subst (λ ks. Member k ks) links_now i) in
      let on = member_le (linked m k.link) k v.links there.0 in
      let one = dead_linked m k d (sym same ∙ e) in
      let set = (t.set k.link).0 in
      let parts = t.parts k.link in
      let zero = there.1 in
      let up = t.stays k.link (omega (arith, on, one, set, parts, zero)) in
      let down = member_le (deads k.link) k v.links there.0 in
      let is = dead_deads k d in
      let few = once k.link in
      let none = all_dead k.link v.links few (omega (arith, down, is)) in
      let q = member_of (alive k.link) v.links up in
      live_not q.0 (none q.0 q.1) q.2
    where
      live_not : (y : LinkView) → (y.link ≡ k.link → y.stage ≡ Dead) → 0 < alive k.link y → ⊥
      live_not y h p = by (y.link == k.link) refl p
        where
          by : (b : Bool) → (y.link == k.link) ≡ b → 0 < cond b (is_live y.stage) 0 → ⊥
          by true is p = let z : is_live y.stage ≡ 0 = ap is_live (h (eqb-true y.link k.link is)) in absurd (omega (arith, p, z))
          by false is p = absurd (omega (arith, p))

  -- what is of another set than a link of this one
  elsewhere : ℕ → LinkView → ℕ
  elsewhere l k = cond (k.link == l) (cond (k.of == m) 0 1) 0

  both_named : (l : ℕ) (k : LinkView) → linked m l k + elsewhere l k ≤ named l k
  unfolding elsewhere
  both_named l k = by (k.link == l) (k.of == m) k.stage
    where
      by : (a b : Bool) (s : Stage) → cond a (cond b (in_set s) 0) 0 + cond a (cond b 0 1) 0 ≤ cond a 1 0
      by true true Claimed = omega arith
      by true true (UnderWay n) = omega arith
      by true true In = omega arith
      by true true Dead = omega arith
      by true false s = omega arith
      by false b s = omega arith

  elsewhere_one : (k : LinkView) → m ≢ k.of → ◌≡◌ {A = ℕ} (elsewhere k.link k) 1
  unfolding elsewhere
  elsewhere_one k n = rw (eq-eqb k.link k.link refl, ne_eqb k.of m (λ e. n (sym e))) refl

  not_gone : (k : LinkView) → Member k v.links → m ≢ k.of → times k.link t.gone ≡ 0
  not_gone k i n =
      let l = k.link in
      let p = t.parts l in
      let s = (t.set l).0 in
      let a = sum_plus (linked m l) (elsewhere l) (λ y. linked m l y + elsewhere l y) (λ y. refl) v.links in
      let b = sum_under (λ y. linked m l y + elsewhere l y) (named l) (both_named l) v.links in
      let c = member_le (elsewhere l) k v.links i in
      let d = elsewhere_one k n in
      let few = once l in
      omega (arith, p, s, a, b, c, d, few)

  pub cleaned_one : Cleaned (m ∷ []) v w
  cleaned_one =
      let u = learned m t.chain (rewound v) in
      let r = swept_rest t.gone (learned m t.chain (rewound v)) in
      let c = swept_claims t.gone (learned m t.chain (rewound v)) in
      record {
        live = λ g. ap (sum_by (unless_dead g)) links_now ∙ swept_live g t.gone (learned m t.chain (rewound v)) dead_gone;
        links = λ k i. (swept_in t.gone (learned m t.chain (rewound v)) k (subst (λ ks. Member k ks) links_now i)).0;
        clean = λ x r k i d. swept_clean k x i d r;
        stays = λ k i n. subst (λ ks. Member k ks) (sym links_now) (swept_stays t.gone (learned m t.chain (rewound v)) k i (not_gone k i (n m (inl refl))));
        once = λ l. let e : sum_by (named l) w.links ≡ sum_by (named l) (swept t.gone (learned m t.chain (rewound v))).links = ap (sum_by (named l)) links_now in let s = swept_less (named l) t.gone (learned m t.chain (rewound v)) in omega (arith, e, s);
        same = record {
          mods = ap (λ (u : ReadersView). u.mods) t.becomes ∙ r.0;
          shared = ap (λ (u : ReadersView). u.shared) t.becomes ∙ r.1;
          sets_are = ap (λ (u : ReadersView). mods_of u.walk) t.becomes ∙ r.2 ∙ mods_learn m t.chain v.walk;
          count = ap (λ (u : ReadersView). u.claims.count) t.becomes ∙ c.2;
          branch = ap (λ (u : ReadersView). u.claims.branch) t.becomes ∙ c.1;
          begun = ap (λ (u : ReadersView). u.claims.counter) t.becomes ∙ c.0;
        };
      }

pub same_sets : (v : ReadersView) → v.claims.counter ≡ Some 0 → SameSets v v
same_sets v b = record { mods = refl; shared = refl; sets_are = refl; count = refl; branch = refl; begun = b }

pub same_then : (v u w : ReadersView) → SameSets v u → SameSets u w → SameSets v w
same_then v u w p q = record {
  mods = q.mods ∙ p.mods;
  shared = q.shared ∙ p.shared;
  sets_are = q.sets_are ∙ p.sets_are;
  count = q.count ∙ p.count;
  branch = q.branch ∙ p.branch;
  begun = q.begun;
}

-- nothing is to be done for a set without dead links
pub cleaned_idle : (m : ℕ) (v : ReadersView) → v.claims.counter ≡ Some 0 → Clean m v → Cleaned (m ∷ []) v v
cleaned_idle m v b c = record {
  live = λ g. refl;
  links = λ k i. i;
  clean = λ x r. ⊎_elim (λ (e : m ≡ x). subst (λ y. Clean y v) e c) (λ (q : ⊥). absurd q) r;
  stays = λ k i n. i;
  once = λ l. omega arith;
  same = same_sets v b;
}

pub cleaned_none : (v : ReadersView) → v.claims.counter ≡ Some 0 → Cleaned [] v v
cleaned_none v b = record {
  live = λ g. refl;
  links = λ k m. m;
  clean = λ m x. absurd x;
  stays = λ k i n. i;
  once = λ l. omega arith;
  same = same_sets v b;
}

pub cleaned_then : (a b : List ℕ) (v u w : ReadersView) → Cleaned a v u → Cleaned b u w → Cleaned (a ++ b) v w
cleaned_then a b v u w p q = record {
  live = λ g. q.live g ∙ p.live g;
  links = λ k m. p.links k (q.links k m);
  clean = λ x m k i d. ⊎_elim (λ l. p.clean x l k (q.links k i) d) (λ r. q.clean x r k i d) (member_cases x a b m);
  stays = λ k i n. q.stays k (p.stays k i (λ x m. n x (member_left x a b m))) (λ x m. n x (member_right x a b m));
  once = λ l. let x = p.once l in let y = q.once l in omega (arith, x, y);
  same = same_then v u w p.same q.same;
}

in_or_out : (m : ℕ) (xs : List ℕ) → Member m xs ⊎ ((x : ℕ) → Member x xs → x ≢ m)
in_or_out m [] = inr (λ x i. absurd i)
in_or_out m (y ∷ xs) = ⊎_elim
    (λ i. inl (inr i))
    (λ n. ⊎_elim (λ (e : y ≡ m). inl (inl e)) (λ (d : y ≢ m). inr (λ x i. ⊎_elim (λ (e : y ≡ x). λ (q : x ≡ m). d (e ∙ q)) (λ r. n x r) i)) (cases_eq y m))
    (in_or_out m xs)

-- a link that was left, or its set swept, still is
pub left_on : (sets : List ℕ) (m l : ℕ) (v w : ReadersView) → Cleaned sets v w → Left m l v → Left m l w
left_on sets m l v w c (inr n) = inr (λ k i d. n k (c.links k i) d)
left_on sets m l v w c (inl h) = ⊎_elim
    (λ i. inr (c.clean m i))
    (λ n. inl (h.0, c.stays h.0 h.1 (λ x i e. n x i (e ∙ h.3)), h.2, h.3, h.4))
    (in_or_out m sets)

-- where a link that was left isn't dead, its set was swept
pub swept_before : (m l : ℕ) (v : ReadersView) → Left m l v → sum_by (deads l) v.links ≡ 0 → Clean m v
swept_before m l v (inr n) z = n
swept_before m l v (inl h) z =
    let a = member_le (deads l) h.0 v.links h.1 in
    let b : deads l h.0 ≡ 1 = subst (λ (x : ℕ). ◌≡◌ {A = ℕ} (deads x h.0) 1) h.2 (dead_deads h.0 h.4) in
    absurd (omega (arith, a, b, z))
