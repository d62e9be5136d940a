-- What the checker's scope and written set say, as what is known and what is unwritten.
use Rattle.std.proofs.Common.{◌≡◌, ℕ, ◌==◌, ◌&&◌, ◌||◌, Bool, true, false, not, if◌then◌else◌, List, [], ◌∷◌, ◌++◌, map, Option, Some, None, refl, ap, sym, ◌∙◌, subst, arith, inl, inr}
use Rattle.std.proofs.lemmas.List.Folds.{list_any-append}
use Rattle.psac_model.specs.Series as rule
use Rattle.psac_model.specs.Series.{Breach, Rebound, WrittenTwice, WrongSort, UnknownName, Scope, Dest, has, all_in, without, dest_names, first_wrong, unless, new_wrong, dest_wrong, dests_wrong}
use Rattle.psac_laws.specs.Standing.{Standing, is_new, with_value, with_dest, settled, distinct, in_both}
use Rattle.psac_laws.proofs.Places.{none_some, nat_is, nat_same, and_is, not_true, test_or, not_both}
use Rattle.psac_laws.proofs.Rules.{or_is, or_not, or_left, not_is, has_both, both_has}

-- membership, as truth values
pub has_append_is : (x : ℕ) (xs ys : List ℕ) → has x (xs ++ ys) ≡ (has x xs || has x ys)
has_append_is x xs ys = list_any-append (λ y. y == x) xs ys

dropped : (q more a b : Bool) → (q ≡ true → a ≡ b) → a ≡ true → (more && not b) ≡ ((q || more) && not b)
dropped q more a b h t = grind arith

taken : (q more a b : Bool) → (q ≡ true → a ≡ b) → a ≡ false → (q || (more && not b)) ≡ ((q || more) && not b)
taken q more a b h t = grind arith

pub has_without_is : (x : ℕ) (xs ys : List ℕ) → has x (without xs ys) ≡ (has x ys && not (has x xs))
has_without_is x xs [] = refl
has_without_is x xs (y ∷ ys) =
    let same : (y == x) ≡ true → has y xs ≡ has x xs = λ e. ap (λ z. has z xs) (nat_is y x e) in
    elim (test_or (has y xs)) [
      | inl t ↦ rw t (has_without_is x xs ys ∙ dropped (y == x) (has x ys) (has y xs) (has x xs) same t)
      | inr t ↦ rw t (ap (λ z. (y == x) || z) (has_without_is x xs ys) ∙ taken (y == x) (has x ys) (has y xs) (has x xs) same t)
    ]

pub same_true : (a b : Bool) → (a ≡ true → b ≡ true) → (b ≡ true → a ≡ true) → a ≡ b
same_true a b f g = grind arith

pub both_true : (a b : Bool) → a ≡ true → b ≡ true → (a && b) ≡ true
both_true a b f g = grind arith

pub has_both_is : (x : ℕ) (xs ys : List ℕ) → has x (in_both xs ys) ≡ (has x xs && has x ys)
has_both_is x xs ys =
    same_true (has x (in_both xs ys)) (has x xs && has x ys)
    (λ t. let b = has_both x xs ys t in both_true (has x xs) (has x ys) b.0 b.1)
    (λ t. let b = and_is (has x xs) (has x ys) t in both_has x xs ys b.0 b.1)

-- faults that aren't there
pub unless_is : (b : Bool) (wrong : Breach) → unless b wrong ≡ None → b ≡ true
unless_is true wrong h = refl
unless_is false wrong h = absurd (none_some (sym h))

pub first_is : (a : Option Breach) (more : List (Option Breach)) → first_wrong (a ∷ more) ≡ None → (a ≡ None) × (first_wrong more ≡ None)
first_is None more h = (refl, h)
first_is (Some b) more h = absurd (none_some (sym h))

pub parts_right : (xs ys : List (Option Breach)) → first_wrong (xs ++ ys) ≡ None → (first_wrong xs ≡ None) × (first_wrong ys ≡ None)
parts_right [] ys h = (refl, h)
parts_right (x ∷ xs) ys h =
    let a = first_is x (xs ++ ys) h in
    let b = parts_right xs ys a.1 in
    (rw a.0 b.0, b.1)

pub new_right : (s : Scope) (x : ℕ) → new_wrong s x ≡ None → (has x s.values ≡ false) × (has x (dest_names s) ≡ false)
new_right s x h = or_not (has x s.values) (has x (dest_names s)) (not_is (has x s.values || has x (dest_names s)) (unless_is _ Rebound h))

third_wrong : (b : Bool) → (if b then Some WrongSort else Some UnknownName) ≡ None → ⊥
third_wrong true h = none_some (sym h)
third_wrong false h = none_some (sym h)

pub dest_right : (s : Scope) (w : List ℕ) (d : ℕ) → dest_wrong s w d ≡ None → (has d (dest_names s) ≡ true) × (has d w ≡ false)
dest_right s w d h =
    elim (test_or (has d w)) [
      | inl t ↦ (let k : Some WrittenTwice ≡ None = rw t at h in absurd (none_some (sym k)))
      | inr t ↦
          elim (test_or (has d (dest_names s))) [
            | inl u ↦ (u, t)
            | inr u ↦ (let k : (if has d s.values then Some WrongSort else Some UnknownName) ≡ None = rw (t, u) at h in absurd (third_wrong (has d s.values) k))
          ]
    ]

-- destinations that are there, unwritten and distinct
pub record Ready (s : Scope) (w ds : List ℕ) : Type 0 where
  pub each : (x : ℕ) → has x ds ≡ true → (has x (dest_names s) ≡ true) × (has x w ≡ false)
  pub once : distinct ds ≡ true

pub dests_right : (s : Scope) (w ds : List ℕ) → dests_wrong s w ds ≡ None → Ready s w ds
dests_right s w [] h = record { each = λ x k. absurd cc; once = refl }
dests_right s w (d ∷ ds) h =
    let a = first_is (dest_wrong s w d) (dests_wrong s (w ++ d ∷ []) ds ∷ []) h in
    let b = first_is (dests_wrong s (w ++ d ∷ []) ds) [] a.1 in
    let one = dest_right s w d a.0 in
    let more = dests_right s (w ++ d ∷ []) ds b.0 in
    let past : (x : ℕ) → has x ds ≡ true → (has x w ≡ false) × (((d == x) || false) ≡ false) = λ x k. or_not (has x w) ((d == x) || false) (sym (has_append_is x w (d ∷ [])) ∙ (more.each x k).1) in
    let gone : has d ds ≡ false = not_true (has d ds) (λ k. not_both (or_left (d == d) false (nat_same d)) (past d k).1) in
    record {
      each = λ x k.
          elim (or_is (d == x) (has x ds) k) [
            | inl q ↦ (subst (λ z. (has z (dest_names s) ≡ true) × (has z w ≡ false)) (nat_is d x q) one)
            | inr q ↦ ((more.each x q).0, (past x q).0)
          ];
      once = rw gone more.once;
    }

-- a scope and its written set say what a standing says
pub record Tells (s : Scope) (w : List ℕ) (st : Standing) : Type 0 where
  pub known : (x : ℕ) → has x st.known ≡ (has x s.values || has x w)
  pub unwritten : (x : ℕ) → has x st.unwritten ≡ (has x (dest_names s) && not (has x w))
  pub within : (x : ℕ) → has x w ≡ true → has x (dest_names s) ≡ true

both_false : (a b : Bool) → a ≡ false → b ≡ false → (not a && not b) ≡ true
both_false a b f g = grind arith

neither : (v d w : Bool) → v ≡ false → d ≡ false → (w ≡ true → d ≡ true) → ((v || w) ≡ false) × ((d && not w) ≡ false)
neither v d w f g h = (grind arith, grind arith)

pub tells_new : (s : Scope) (w : List ℕ) (st : Standing) (x : ℕ) → Tells s w st → new_wrong s x ≡ None → is_new st x ≡ true
tells_new s w st x t h =
    let n = new_right s x h in
    let b = neither (has x s.values) (has x (dest_names s)) (has x w) n.0 n.1 (t.within x) in
    both_false (has x st.known) (has x st.unwritten) (t.known x ∙ b.0) (t.unwritten x ∙ b.1)

value_after : (q v w : Bool) → (q || (v || w)) ≡ ((v || (q || false)) || w)
value_after q v w = grind arith

pub tells_value : (s : Scope) (w : List ℕ) (st : Standing) (x : ℕ) → Tells s w st → Tells (rule.with_value x s) w (with_value x st)
tells_value s w st x t =
    record {
      known = λ y.
          ap (λ z. (x == y) || z) (t.known y)
          ∙ value_after (x == y) (has y s.values) (has y w)
          ∙ ap (λ z. z || has y w) (sym (has_append_is y s.values (x ∷ [])));
      unwritten = t.unwritten;
      within = t.within;
    }

pub names_append : (a b : List Dest) → map (λ (d : Dest). d.0) (a ++ b) ≡ map (λ (d : Dest). d.0) a ++ map (λ (d : Dest). d.0) b
names_append [] b = refl
names_append (d ∷ a) b = ap (λ z. d.0 ∷ z) (names_append a b)

dest_after : (q d w : Bool) → (q ≡ true → w ≡ false) → (q || (d && not w)) ≡ ((d || (q || false)) && not w)
dest_after q d w h = grind arith

pub tells_dest : (s : Scope) (w : List ℕ) (st : Standing) (d line : ℕ) → Tells s w st → new_wrong s d ≡ None → Tells (rule.with_dest d line s) w (with_dest d st)
tells_dest s w st d line t h =
    let n = new_right s d h in
    let names : (y : ℕ) → has y (dest_names (rule.with_dest d line s)) ≡ (has y (dest_names s) || ((d == y) || false)) = λ y. ap (has y) (names_append s.dests ((d, line) ∷ [])) ∙ has_append_is y (dest_names s) (d ∷ []) in
    let unwritten_d : (y : ℕ) → (d == y) ≡ true → has y w ≡ false = λ y q. subst (λ z. has z w ≡ false) (nat_is d y q) (not_true (has d w) (λ k. not_both (t.within d k) n.1)) in
    record {
      known = t.known;
      unwritten = λ y.
          ap (λ z. (d == y) || z) (t.unwritten y)
          ∙ dest_after (d == y) (has y (dest_names s)) (has y w) (unwritten_d y)
          ∙ ap (λ z. z && not (has y w)) (sym (names y));
      within = λ y k. names y ∙ or_left (has y (dest_names s)) ((d == y) || false) (t.within y k);
    }

-- a later written set, and what it leaves unwritten
pub record Later (names w after left : List ℕ) : Type 0 where
  pub unwritten : (x : ℕ) → has x left ≡ (has x names && not (has x after))
  pub grows : (x : ℕ) → has x w ≡ true → has x after ≡ true
  pub within : (x : ℕ) → has x after ≡ true → has x names ≡ true

known_after : (v d w l : Bool) → (w ≡ true → l ≡ true) → (l ≡ true → d ≡ true) → (((d && not w) && not (d && not l)) || (v || w)) ≡ (v || l)
known_after v d w l g i = grind arith

pub tells_settled : (s : Scope) (w after left : List ℕ) (st : Standing) → Tells s w st → Later (dest_names s) w after left → Tells s after (settled left st)
tells_settled s w after left st t l =
    record {
      known = λ x.
          has_append_is x (without left st.unwritten) st.known
          ∙ ap (λ z. z || has x st.known) (has_without_is x left st.unwritten)
          ∙ ap (λ z. (has x st.unwritten && not z) || has x st.known) (l.unwritten x)
          ∙ ap (λ z. (z && not (has x (dest_names s) && not (has x after))) || has x st.known) (t.unwritten x)
          ∙ ap (λ z. ((has x (dest_names s) && not (has x w)) && not (has x (dest_names s) && not (has x after))) || z) (t.known x)
          ∙ known_after (has x s.values) (has x (dest_names s)) (has x w) (has x after) (l.grows x) (l.within x);
      unwritten = l.unwritten;
      within = l.within;
    }

wrote_more : (d w q : Bool) → ((d && not w) && not q) ≡ (d && not (w || q))
wrote_more d w q = grind arith

-- destinations that are written at once
pub later_by : (s : Scope) (w ds : List ℕ) (st : Standing) → Tells s w st → ((x : ℕ) → has x ds ≡ true → has x (dest_names s) ≡ true) → Later (dest_names s) w (w ++ ds) (without ds st.unwritten)
later_by s w ds st t there =
    record {
      unwritten = λ x.
          has_without_is x ds st.unwritten
          ∙ ap (λ z. z && not (has x ds)) (t.unwritten x)
          ∙ wrote_more (has x (dest_names s)) (has x w) (has x ds)
          ∙ ap (λ z. has x (dest_names s) && not z) (sym (has_append_is x w ds));
      grows = λ x k. has_append_is x w ds ∙ or_left (has x w) (has x ds) k;
      within = λ x k.
          elim (or_is (has x w) (has x ds) (sym (has_append_is x w ds) ∙ k)) [
            | inl q ↦ t.within x q
            | inr q ↦ there x q
          ];
    }

written_by_two : (d f g : Bool) → ((d && not f) && (d && not g)) ≡ (d && not (f || (g && not f)))
written_by_two d f g = grind arith

either_of : (f g : Bool) → (f || (g && not f)) ≡ true → g ≡ false → f ≡ true
either_of f g h k = grind arith

-- what two sides wrote
pub later_both : (names w first second one two : List ℕ) → Later names w first one → Later names w second two → Later names w (first ++ without first second) (in_both one two)
later_both names w first second one two f g =
    let union : (x : ℕ) → has x (first ++ without first second) ≡ (has x first || (has x second && not (has x first))) = λ x. has_append_is x first (without first second) ∙ ap (λ z. has x first || z) (has_without_is x first second) in
    record {
      unwritten = λ x.
          has_both_is x one two
          ∙ ap (λ z. z && has x two) (f.unwritten x)
          ∙ ap (λ z. (has x names && not (has x first)) && z) (g.unwritten x)
          ∙ written_by_two (has x names) (has x first) (has x second)
          ∙ ap (λ z. has x names && not z) (sym (union x));
      grows = λ x k. union x ∙ or_left (has x first) (has x second && not (has x first)) (f.grows x k);
      within = λ x k.
          elim (test_or (has x second)) [
            | inl q ↦ g.within x q
            | inr q ↦ f.within x (either_of (has x first) (has x second) (sym (union x) ∙ k) q)
          ];
    }
