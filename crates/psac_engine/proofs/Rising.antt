-- How the generations of a table rise: in a run, where all goes back, and where a repair is done.
use Rattle.std.proofs.Common.{◌≡◌, ◌⊎◌, ◌==◌, ◌<◌, ℕ, zero, suc, false, List, [], ◌∷◌, ◌++◌, map, drop, Result, Ok, Err, refl, ap, sym, ◌∙◌, subst, inl, inr, arith}
use Rattle.std.proofs.lemmas.Bool.Decides.{nat_tests}
use Rattle.psac_ops.specs.declared.plain.Handle.{Handle}
use Rattle.psac_slots.specs.Handles.{Member, later}
use Rattle.psac_slots.specs.Given.{only, by_slot}
use Rattle.psac_slots.specs.Claiming.{Accounted, counted, learned, rewound}
use Rattle.psac_slots.specs.declared.view.ClaimView.{ClaimView}
use Rattle.psac_slots.proofs.Removed.{at_most_once}
use Rattle.psac_slots.proofs.Pairs.{member_left, member_right, filter_member, map_member}
use Rattle.psac_values.specs.declared.view.ValueView.{ValueView}
use Rattle.psac_fork.specs.declared.tables.Pass.{Pass}
use Rattle.psac_model.specs.declared.ends.Mode.TheVariants as mode
use Rattle.psac_model.specs.declared.ends.Work.{Work}
use Rattle.psac_laws.proofs.Places.{nat_same, test_or}
use Rattle.psac_trace.specs.Grown.{MoreClaims}
use Rattle.psac_trace.proofs.Heaps.{handle_or}
use Rattle.psac_reclaim.specs.Owed.{ValuesNone}
use Rattle.psac_stage.specs.Resting.{IsRewound}
use Rattle.psac_stage.specs.Settling.{Settles}
use Rattle.psac_stage.proofs.Bounds.{held_low}
use Rattle.psac_stage.proofs.Clears.{drop_member}
use Rattle.psac_stage.proofs.Members.{in_counted}
use Rattle.psac_engine.specs.Repaired.{Stands, Aged}
use Rattle.psac_engine.specs.Held.{Since, Rises, Renews, Ages}
use Rattle.psac_engine.proofs.Aging.{stays}

pub rises_same : (c d : ClaimView) → d ≡ c → Rises c d
rises_same c d e = λ h i. record { now = h; stands = subst (λ z. Stands z h) (sym e) i; same = refl; late = omega arith }

pub since_then : (c d : ClaimView) (s a : ℕ) → Since c s a → Rises c d → Since d s a
since_then c d s a f g =
    let b = g f.now f.stands in
    let x = f.late in
    let y = b.late in
    record { now = b.now; stands = b.stands; same = b.same ∙ f.same; late = omega (arith, x, y) }

pub rises_then : (c d e : ClaimView) → Rises c d → Rises d e → Rises c e
rises_then c d e f g = λ h i. since_then d e h.slot h.generation (f h i) g

pub renews_then : (c d e : ClaimView) → Renews c d → Rises d e → Renews c e
renews_then c d e f g = λ h i. since_then d e h.slot (suc h.generation) (f h i) g

-- what follows a table that is as this one
pub ages_from : {X E : Type 0} (b c d : ClaimView) (told : Result (Work × X) E) → c ≡ b → Ages c d told → Ages b d told
ages_from b c d told e a = subst (λ z. Ages z d told) e a

-- the same record is told of on
pub ages_ok : {X E F : Type 0} (c d : ClaimView) (told : Result (Work × X) E) (kept : Work × X) → told ≡ Ok kept → Ages c d told
    → (let more : Result (Work × X) F = Ok kept in Ages c d more)
ages_ok c d told kept is a =
    let b = subst (Ages c d) is a in
    record { rises = b.rises; renews = b.renews }

-- a run, behind which the table was regained
pub run_rises : (c q : ClaimView) → Accounted c → (n : ℕ) → MoreClaims c q n → (k : ℕ) (z : ClaimView) → z ≡ rewound (learned k q)
    → Accounted z → Rises c z
run_rises c q whole n made k z settles rest =
    λ h i. record { now = h; stands = stays c q whole n made k z settles rest h i; same = refl; late = omega arith }

-- and what was out is still
pub run_holds : (c q : ClaimView) → Accounted c → (n : ℕ) → MoreClaims c q n → (k : ℕ) (z : ClaimView) → z ≡ rewound (learned k q)
    → Accounted z → (h : Handle) → Member h c.held → Member h z.held
run_holds c q whole n made k z settles rest h i =
    elim (stays c q whole n made k z settles rest h (inr i)) [
      | inl j ↦
          (let listed : z.list ≡ drop k c.list = ap (λ (v : ClaimView). v.list) settles ∙ ap (drop k) made.list in
          let a = in_counted (λ (x : Handle). x.slot == h.slot) c.held h i (nat_same h.slot) in
          let free = drop_member k c.list h (subst (Member h) listed j) in
          let b = in_counted (λ (x : Handle). x.slot == h.slot) c.list h free (nat_same h.slot) in
          let sum = whole.slots h.slot in
          let most = at_most_once h.slot c.count in
          absurd (omega (arith, a, b, sum, most)))
      | inr j ↦ j
    ]

pub settled_rises : (p q z : Pass) → IsRewound p.values.knows.claims → (n : ℕ) → MoreClaims p.values.knows.claims q.values.knows.claims n
    → Settles q z → Rises p.values.knows.claims z.values.knows.claims
settled_rises p q z rested n made s =
    run_rises p.values.knows.claims q.values.knows.claims rested.whole n made s.mods z.values.knows.claims
    (ap (λ (v : ValueView). v.claims) s.values) s.whole_mods

drop_none : {A : Type 0} (xs : List A) → drop 0 xs ≡ xs
drop_none [] = refl
drop_none (x ∷ xs) = refl

slot_member : (n : ℕ) (hs : List Handle) (h : Handle) → Member h hs → h.slot < n → Member h (by_slot n hs)
slot_member zero hs h i low = absurd (omega (arith, low))
slot_member (suc n) hs h i low =
    elim (test_or (h.slot == n)) [
      | inl t ↦ member_right h (by_slot n hs) (only n hs) (filter_member (λ (x : Handle). x.slot == n) h hs i t)
      | inr t ↦
          (let other : h.slot < n = below h.slot n low t in
          member_left h (by_slot n hs) (only n hs) (slot_member n hs h i other))
    ]
  where
    below : (s m : ℕ) → s < suc m → (s == m) ≡ false → s < m
    below s m l t = grind (arith, nat_tests)

-- all that was out went back
module _ (v w : ValueView) (rested : IsRewound v.claims) (none : ValuesNone v w) where
  list_is : w.claims.list ≡ v.claims.list ++ map later (by_slot v.claims.count v.claims.held)
  list_is =
      none.list
      ∙ ap (λ k. drop (counted k) v.claims.list ++ map later (by_slot v.claims.count v.claims.held)) rested.counter
      ∙ ap (λ xs. xs ++ map later (by_slot v.claims.count v.claims.held)) (drop_none v.claims.list)

  pub none_renews : Renews v.claims w.claims
  none_renews h i =
      let back = map later (by_slot v.claims.count v.claims.held) in
      let j = map_member later h (by_slot v.claims.count v.claims.held)
      (slot_member v.claims.count v.claims.held h i (held_low v.claims rested.whole h i)) in
      record {
        now = later h;
        stands = inl (subst (Member (later h)) (sym list_is) (member_right (later h) v.claims.list back j));
        same = refl;
        late = omega arith;
      }

  pub none_rises : Rises v.claims w.claims
  none_rises h (inl i) =
      record {
        now = h;
        stands = inl (subst (Member h) (sym list_is) (member_left h v.claims.list (map later (by_slot v.claims.count v.claims.held)) i));
        same = refl;
        late = omega arith;
      }
  none_rises h (inr i) =
      let s = none_renews h i in
      let a = s.late in
      record { now = s.now; stands = s.stands; same = s.same; late = omega (arith, a) }

member_or : (m : Handle) (xs : List Handle) → Member m xs ⊎ (Member m xs → ⊥)
member_or m [] = inr (λ i. i)
member_or m (x ∷ xs) =
    elim (handle_or x m) [
      | inl e ↦ inl (inl e)
      | inr n ↦
          elim (member_or m xs) [
            | inl i ↦ inl (inr i)
            | inr o ↦ inr (λ j. elim j [ inl e ↦ n.0 e | inr i ↦ o i ])
          ]
    ]

-- a repair is done
pub aged_rises : (name : Handle → Handle) (gone : List Handle) (c d : ClaimView) → Aged name gone c d → Rises c d
aged_rises name gone c d a h i =
    elim (member_or (name h) gone) [
      | inl m ↦ record { now = later h; stands = a.next h i m; same = refl; late = omega arith }
      | inr o ↦ record { now = h; stands = a.same h i o; same = refl; late = omega arith }
    ]

-- a record that is kept beside the work of a repair isn't one of a run anew
pub repair_ages : {X E : Type 0} (c d : ClaimView) (work : Work) (x : X) → work.mode ≡ mode.Repair → Rises c d
    → (let told : Result (Work × X) E = Ok (work, x) in Ages c d told)
repair_ages c d work x is rises =
    record { rises = rises; renews = λ anew. absurd (let e : mode.Repair ≡ mode.Anew = sym is ∙ anew in cc) }

-- a stopped repair, and what is answered to that
pub ages_stop : {X E F : Type 0} (b c d : ClaimView) (stopped : Result (Work × X) F) (why : F) → stopped ≡ Err why
    → (told : Result (Work × X) E) → Ages b c stopped → Rises c d → Ages b d told
ages_stop b c d stopped why is told a rises =
    let x = subst (Ages b c) is a in
    record { rises = rises_then b c d x.rises rises; renews = λ anew. renews_then b c d (x.renews tt) rises }

-- where nothing was out before
pub ages_none : {X E : Type 0} (b c d : ClaimView) (told : Result (Work × X) E) → c ≡ b → b.held ≡ [] → Rises c d → Ages b d told
ages_none b c d told same none rises =
    record {
      rises = subst (λ z. Rises z d) same rises;
      renews = λ anew h i. absurd (subst (Member h) none i);
    }
