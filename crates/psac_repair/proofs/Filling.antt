-- Whether a table is full, and by whom, along the calls of the walk.
use Rattle.std.proofs.Common.{◌≡◌, ℕ, ◌≤◌, ◌<◌, false, List, length, Some, None, ap, sym, ◌∙◌, subst, arith}
use Rattle.psac_ops.specs.declared.plain.Handle.{Handle}
use Rattle.psac_slots.specs.Claiming.{times, joined, left_of, right_of}
use Rattle.psac_slots.specs.declared.view.ClaimView.{ClaimView}
use Rattle.psac_model.specs.declared.ends.CapKind.{CapKind}
use Rattle.psac_traced.specs.Rec.{Rec}
use Rattle.psac_trace.specs.Grown.{Cause, MoreClaims}
use Rattle.psac_trace.proofs.Claims.{drawn_left, drawn_right}
use Rattle.psac_repair.specs.Ended.{Ended, Good, Fault, Other, then_ended, both_ended, untried_ended}
use Rattle.psac_repair.specs.Outcomes.{is_good}
use Rattle.psac_repair.specs.Going.{Views, claims_of, Roomy, IsFull, FullBy, RoomAfter}

-- a cause of one call is that of another one
pub full_by : (p q x y : Views) → ((c : Cause) → IsFull p q c → IsFull x y c) → (e : Ended) → FullBy p q e → FullBy x y e
full_by p q x y f (Good r) h = tt
full_by p q x y f (Fault k n) h = tt
full_by p q x y f (Other None) h = tt
full_by p q x y f (Other (Some c)) h = f c h

-- a call before it claimed nothing
pub full_before : (p x q : Views) → ((c : CapKind) → claims_of c x ≡ claims_of c p) → (e : Ended) → FullBy p q e → FullBy x q e
full_before p x q same =
    full_by p q x q (λ c f.
    let is = same c.which in
    record { list = f.list ∙ ap (λ (z : ClaimView). length z.list) (sym is); past = f.past; drew = subst (λ (z : ClaimView). times c.index z.drawn < times c.index (claims_of c.which q).drawn) (sym is) f.drew })

-- a call before it claimed some, and a call behind it
pub full_then : (p q x : Views) (drew : CapKind → ℕ) → ((c : CapKind) → MoreClaims (claims_of c p) (claims_of c q) (drew c)) → (e : Ended)
    → FullBy q x e → FullBy p x e
full_then p q x drew claims =
    full_by q x p x (λ c f.
    let m = claims c.which in
    let d = m.drew c.index in
    let g = f.drew in
    record { list = f.list ∙ ap (λ (z : List Handle). length z) m.list; past = f.past; drew = omega (arith, d, g) })

-- round a part
pub full_round : (p q : Views) (f : Rec Handle → Rec Handle) (e : Ended) → FullBy p q e → FullBy p q (then_ended f e)
full_round p q f (Good r) h = tt
full_round p q f (Fault k n) h = tt
full_round p q f (Other None) h = tt
full_round p q f (Other (Some c)) h = h

pub full_untried : (p q : Views) (e : Ended) → FullBy p q e → FullBy p q (untried_ended e)
full_untried p q (Good r) h = tt
full_untried p q (Fault k n) h = tt
full_untried p q (Other None) h = tt
full_untried p q (Other (Some c)) h = h

-- both sides
pub full_both : (p j l a k b : Views) → ((c : Cause) → IsFull l a c → IsFull p j c) → ((c : Cause) → IsFull k b c → IsFull p j c)
    → (one two : Ended) → FullBy l a one → FullBy k b two → FullBy p j (both_ended one two)
full_both p j l a k b f g (Good x) (Good y) h i = tt
full_both p j l a k b f g (Good x) (Fault w n) h i = tt
full_both p j l a k b f g (Good x) (Other None) h i = tt
full_both p j l a k b f g (Good x) (Other (Some c)) h i = g c i
full_both p j l a k b f g (Fault w n) (Good y) h i = tt
full_both p j l a k b f g (Fault w n) (Fault u m) h i = tt
full_both p j l a k b f g (Fault w n) (Other None) h i = tt
full_both p j l a k b f g (Fault w n) (Other (Some c)) h i = g c i
full_both p j l a k b f g (Other None) two h i = tt
full_both p j l a k b f g (Other (Some c)) (Good y) h i = f c h
full_both p j l a k b f g (Other (Some c)) (Fault u m) h i = f c h
full_both p j l a k b f g (Other (Some c)) (Other None) h i = tt
full_both p j l a k b f g (Other (Some c)) (Other (Some d)) h i = f c h

-- what is full on a side is full once both are joined
pub full_left : (p l a b j : Views) (c : Cause) → claims_of c.which l ≡ left_of (claims_of c.which p)
    → claims_of c.which j ≡ joined (claims_of c.which a) (claims_of c.which b) → IsFull l a c → IsFull p j c
full_left p l a b j c le je f =
    record {
      list = f.list ∙ ap (λ (z : ClaimView). length z.list) le;
      past = f.past;
      drew = drawn_left (claims_of c.which p) (claims_of c.which a) (claims_of c.which b) (claims_of c.which j) c.index je (subst (λ (z : ClaimView). times c.index z.drawn < times c.index (claims_of c.which a).drawn) le f.drew);
    }

pub full_right : (p l a k b j : Views) (n : ℕ) (c : Cause) → claims_of c.which l ≡ left_of (claims_of c.which p)
    → claims_of c.which k ≡ right_of (claims_of c.which p) → claims_of c.which j ≡ joined (claims_of c.which a) (claims_of c.which b)
    → MoreClaims (claims_of c.which l) (claims_of c.which a) n → IsFull k b c → IsFull p j c
full_right p l a k b j n c le ke je m f =
    record {
      list = f.list ∙ ap (λ (z : ClaimView). length z.list) ke;
      past = f.past;
      drew = drawn_right (claims_of c.which p) (claims_of c.which a) (claims_of c.which b) (claims_of c.which j) c.index je
          (subst (λ (z : ClaimView). times c.index z.drawn ≤ times c.index (claims_of c.which a).drawn) le (m.drew c.index))
          (subst (λ (z : ClaimView). times c.index z.drawn < times c.index (claims_of c.which b).drawn) ke f.drew);
    }

-- no index past the list
pub room_round : (q : Views) (f : Rec Handle → Rec Handle) (e : Ended) → RoomAfter q e → RoomAfter q (then_ended f e)
room_round q f (Good r) h = h
room_round q f (Fault k n) h = h
room_round q f (Other why) h = tt

pub room_untried : (q : Views) (e : Ended) → is_good e ≡ false → RoomAfter q (untried_ended e)
room_untried q (Good r) h = absurd cc
room_untried q (Fault k n) h = tt
room_untried q (Other why) h = tt

pub room_both : (a b j : Views) → (Roomy a → Roomy b → Roomy j) → (one two : Ended) → RoomAfter a one → RoomAfter b two
    → RoomAfter j (both_ended one two)
room_both a b j f (Good x) (Good y) h i = f h i
room_both a b j f (Good x) (Fault w n) h i = f h i
room_both a b j f (Good x) (Other why) h i = tt
room_both a b j f (Fault w n) (Good y) h i = f h i
room_both a b j f (Fault w n) (Fault u m) h i = f h i
room_both a b j f (Fault w n) (Other why) h i = tt
room_both a b j f (Other why) two h i = tt
