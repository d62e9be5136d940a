-- Lists of nodes, places of views, and parts of the rule that a step leaves alone.
use Rattle.psac_marks.proofs.Terms.{◌≡◌, ◌≢◌, ◌⊎◌, ℕ, ◌+◌, List, [], ◌∷◌, ◌++◌, map, set, Bool, true, false, true≢false, refl, sym, ap, ◌∙◌, subst, inl, inr, ⊎_elim, arith, cond, Has, drew, new_own, entry, filter, not, ◌==◌, map-set, sum_by-cons, sum_by_push, eq-eqb, ne_eqb, some, get_elem?, at_map, set_again, Member, times, bit, member_left, member_right, member_cases, member_map, map_member, OwnView, SharedView, MarksView, Place, own_place, shared_place, places, other}
pub use Rattle.psac_slots.proofs.Tables.{set_there as here}

-- a part of the rule stays where what it reads of the view does
pub same_part : {P : Type 0} (f : MarksView → P) (F : List P → Type 0) (views : List MarksView) (id : ℕ) (v w : MarksView) → get_elem? views id ≡ some v → f w ≡ f v → F (map f views) → F (map f (set views id w))
same_part f F views id v w at e h = subst F (sym (map-set f views id w ∙ (ap (λ r. set (map f views) id r) e ∙ set_again (map f views) id (f v) (at_map f views id v at)))) h

-- or becomes that of the new view
pub new_part : {P : Type 0} (f : MarksView → P) (F : List P → Type 0) (views : List MarksView) (id : ℕ) (w : MarksView) → F (set (map f views) id (f w)) → F (map f (set views id w))
new_part f F views id w h = subst F (sym (map-set f views id w)) h

-- a node behind a list
pub times_push : (y : ℕ) (xs : List ℕ) (x : ℕ) → times y (xs ++ x ∷ []) ≡ times y xs + bit (x == y)
times_push y xs x = sum_by_push (λ (z : ℕ). cond (z == y) 1 0) xs x

pub bit_same : (x : ℕ) → bit (x == x) ≡ 1
bit_same x = ap bit (eq-eqb x x refl)

pub bit_other : (x y : ℕ) → x ≢ y → bit (x == y) ≡ 0
bit_other x y n = ap bit (ne_eqb x y n)

in_one : (p : ℕ → Bool) (x y : ℕ) (ys : List ℕ) → p x ≡ true → times x (filter p ys) ≡ times x ys → (b : Bool) → p y ≡ b → times x (cond b (y ∷ filter p ys) (filter p ys)) ≡ times x (y ∷ ys)
in_one p x y ys on r true e = let c = sum_by-cons (λ (z : ℕ). cond (z == x) 1 0) y ys in let d = sum_by-cons (λ (z : ℕ). cond (z == x) 1 0) y (filter p ys) in omega (arith, c, d, r)
in_one p x y ys on r false e = let c = sum_by-cons (λ (z : ℕ). cond (z == x) 1 0) y ys in let t : bit (y == x) ≡ 0 = bit_other y x (λ q. true≢false (sym on ∙ (ap p (sym q) ∙ e))) in omega (arith, c, t, r)

-- a filter keeps all of what it keeps
pub times_in : (p : ℕ → Bool) (x : ℕ) (ys : List ℕ) → p x ≡ true → times x (filter p ys) ≡ times x ys
times_in p x [] on = refl
times_in p x (y ∷ ys) on = in_one p x y ys on (times_in p x ys on) (p y) refl

out_one : (p : ℕ → Bool) (x y : ℕ) (ys : List ℕ) → p x ≡ false → times x (filter p ys) ≡ 0 → (b : Bool) → p y ≡ b → times x (cond b (y ∷ filter p ys) (filter p ys)) ≡ 0
out_one p x y ys off r true e = let d = sum_by-cons (λ (z : ℕ). cond (z == x) 1 0) y (filter p ys) in let t : bit (y == x) ≡ 0 = bit_other y x (λ q. true≢false (sym e ∙ (ap p q ∙ off))) in omega (arith, d, t, r)
out_one p x y ys off r false e = r

-- and none of what it doesn't keep
pub times_out : (p : ℕ → Bool) (x : ℕ) (ys : List ℕ) → p x ≡ false → times x (filter p ys) ≡ 0
times_out p x [] off = refl
times_out p x (y ∷ ys) off = out_one p x y ys off (times_out p x ys off) (p y) refl

-- a list without a node
pub times_gone : (x : ℕ) (ys : List ℕ) → times x (filter (other x) ys) ≡ 0
times_gone x ys = times_out (other x) x ys (ap not (eq-eqb x x refl))

pub times_else : (z x : ℕ) (ys : List ℕ) → z ≢ x → times z (filter (other x) ys) ≡ times z ys
times_else z x ys n = times_in (other x) z ys (ap not (ne_eqb z x n))

-- where the places of a view come from
pub place_own : (v : MarksView) (o : OwnView) → Member o v.own → Member (own_place v.claims.branch o) (places v)
place_own v o m = member_left (own_place v.claims.branch o) (map (own_place v.claims.branch) v.own) (map shared_place v.shared) (map_member (own_place v.claims.branch) o v.own m)

pub place_shared : (v : MarksView) (s : SharedView) → Member s v.shared → Member (shared_place s) (places v)
place_shared v s m = member_right (shared_place s) (map (own_place v.claims.branch) v.own) (map shared_place v.shared) (map_member shared_place s v.shared m)

pub place_cases : (v : MarksView) (e : Place) → Member e (places v) → ((o : OwnView) × Member o v.own × (own_place v.claims.branch o ≡ e)) ⊎ ((s : SharedView) × Member s v.shared × (shared_place s ≡ e))
place_cases v e m = ⊎_elim (λ p. inl (member_map (own_place v.claims.branch) e v.own p)) (λ q. inr (member_map shared_place e v.shared q))
    (member_cases e (map (own_place v.claims.branch) v.own) (map shared_place v.shared) m)

-- what holds of each own place and of each shared one
pub each_place : (v : MarksView) (P : Place → Type 0) → ((o : OwnView) → Member o v.own → P (own_place v.claims.branch o)) → ((s : SharedView) → Member s v.shared → P (shared_place s)) → (e : Place) → Member e (places v) → P e
each_place v P own shared e m = ⊎_elim
    (λ (p : (o : OwnView) × Member o v.own × (own_place v.claims.branch o ≡ e)). subst P p.2 (own p.0 p.1))
    (λ (p : (s : SharedView) × Member s v.shared × (shared_place s ≡ e)). subst P p.2 (shared p.0 p.1))
    (place_cases v e m)

-- and of each node that the view has
pub each_has : (v : MarksView) (P : ℕ → Type 0) → ((o : OwnView) → Member o v.own → P o.node.slot) → ((s : SharedView) → Member s v.shared → P s.node.slot) → (x : ℕ) → Has (places v) x → P x
each_has v P own shared x has = subst P has.2 (each_place v (λ e. P e.node.slot) own shared has.0 has.1)

pub has_own : (v : MarksView) (o : OwnView) → Member o v.own → Has (places v) o.node.slot
has_own v o m = (own_place v.claims.branch o, place_own v o m, refl)

pub has_shared : (v : MarksView) (s : SharedView) → Member s v.shared → Has (places v) s.node.slot
has_shared v s m = (shared_place s, place_shared v s m, refl)

-- what a pass has it has after a claim
pub drew_has : (v : MarksView) (n x : ℕ) → Has (places v) x → Has (places (drew v n)) x
drew_has v n = each_has v (Has (places (drew v n))) (λ o m. has_own (drew v n) o (member_right o (map new_own (entry v.claims.list n)) v.own m)) (has_shared (drew v n))
