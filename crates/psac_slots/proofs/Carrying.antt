-- The ring that a pass carries over a rewind and a slot that goes back, and what the latter leaves accounted for.
use Rattle.psac_slots.proofs.Terms.{◌≡◌, ◌≢◌, ◌<◌, [], ◌∷◌, length, cond, sym, ap, ⊎_elim, ◌∙◌, arith, length-append, ◌==◌, sum_by_push, cases_eq, eq-eqb, ne_eqb, ClaimView, Handle, slot_times, removed, Accounted, returned, ℕ, ◌+◌, ◌-◌, ◌≤◌, take, true, counted, turned, rewound}
use Rattle.psac_slots.proofs.Sums.{bit}
use Rattle.psac_slots.proofs.Rewinds.{rest_is}
use Rattle.psac_slots.proofs.Removed.{removed_gone, removed_else, removed_length, at_most_once}

-- the ring of a pass: its size, where its list begins, and how long the list is
abbrev pub Ringed : (count head room : ℕ) → ClaimView → Type 0
Ringed count head room v = (v.live ≡ true) × (v.count ≡ count) × (v.head ≡ head) × (length v.list ≡ room) × (room ≤ count) × (head ≤ count)

module _ (count head room : ℕ) (v : ClaimView) (r : Ringed count head room v) where
  pub ringed_rewound : (gone : ℕ) → length (take (counted v.counter) v.list) ≡ gone → Ringed count (turned count (head + gone)) (room - gone) (rewound v)
  ringed_rewound gone e = let f = rest_is v count head room gone r.3 r.4 r.5 e in (r.0, r.1, λ i. turned (r.1 i) (r.2 i + e i), f.0, f.1, f.3)

  pub ringed_returned : (x : Handle) → room < count → Ringed count head (room + 1) (returned x v)
  ringed_returned x less = (r.0, r.1, r.2, (let a = length-append v.list (x ∷ []) in let b = r.3 in omega (arith, a, b)), omega (arith, less), r.5)

module _ (v : ClaimView) (a : Accounted v) (x : Handle) (has : 0 < slot_times x.slot v.held) where
  -- where a slot is out, the ring has room
  pub has_room : length v.list < v.count
  has_room = let b = removed_length x.slot v.held in let c = a.all in omega (arith, b, c, has)

  -- a slot that goes back is in the list from then on, and not held
  pub accounted_returned : Accounted (returned x v)
  accounted_returned =
      let here = a.slots x.slot in
      let most = at_most_once x.slot v.count in
      record {
        all = let l = length-append v.list (x ∷ []) in let b = removed_length x.slot v.held in let c = a.all in omega (arith, l, b, c, has, here, most);
        slots = λ s. let p = sum_by_push (λ (q : Handle). cond (q.slot == s) 1 0) v.list x in let o = a.slots s in ⊎_elim
            (λ (e : s ≡ x.slot).
            let t : bit (x.slot == s) ≡ 1 = ap bit (eq-eqb x.slot s (sym e)) in
            let g : slot_times s (removed x.slot v.held) ≡ 0 = ap (λ k. slot_times k (removed x.slot v.held)) e ∙ removed_gone x.slot v.held in
            omega (arith, p, o, t, g, ap (λ k. slot_times k v.held) e, at_most_once s v.count, has))
            (λ (n : s ≢ x.slot). let t : bit (x.slot == s) ≡ 0 = ap bit (ne_eqb x.slot s (λ q. n (sym q))) in let g = removed_else s x.slot v.held n in omega (arith, p, o, t, g))
            (cases_eq s x.slot);
      }
