-- What the rule of claims gives.
use Rattle.psac_slots.proofs.Terms.{◌≡◌, ℕ, ◌<◌, List, drop, ap, ◌∙◌, arith, sum_by, lt-ltb, le-ltb, ClaimView, Handle, slot_times, Claimed, Promised}
use Rattle.psac_slots.proofs.Sums.{bit, sum_at, sum_two, sum_none}
use Rattle.psac_slots.proofs.Removed.{at_most_once}
use Rattle.psac_slots.proofs.Keeps.{bounded}

pub promised : (count counter head : ℕ) (list : List Handle) (words : List ℕ) (views : List ClaimView) → Claimed count counter head list words views → Promised words views
promised count counter head list words views h = record {
  counter = counter;
  list = list;
  counter_is = h.counter_is;
  no_wrap = let b = bounded count counter head list words views h in let r = h.room in omega (arith, b, r);
  apart = h.apart;
  drawn_once = λ k l. h.drawn k ∙ ap bit (lt-ltb k counter l);
  drawn_below = λ k l. h.drawn k ∙ ap bit (le-ltb k counter l);
  one_holder = λ i j v w s a b n. let t = sum_two (λ (u : ClaimView). slot_times s u.held) views i j v w n a b in let o = h.slots s in let m = at_most_once s count in omega (arith, t, o, m);
  free_once = λ s. let o = h.slots s in let m = at_most_once s count in omega (arith, o, m);
  free_unheld = λ i v s a f. let t = sum_at (λ (u : ClaimView). slot_times s u.held) views i v a in let o = h.slots s in let m = at_most_once s count in omega (arith, t, o, m, f);
}

-- what is free nobody holds
pub unheld : (words : List ℕ) (views : List ClaimView) (p : Promised words views) (s : ℕ) → 0 < slot_times s (drop p.counter p.list) → sum_by (λ (v : ClaimView). slot_times s v.held) views ≡ 0
unheld words views p s free = sum_none (λ (v : ClaimView). slot_times s v.held) views (λ i v e. p.free_unheld i v s e free)
