-- Which generations rise where a repair is done and what it took off went back.
use Rattle.std.proofs.Common.{◌≡◌, ◌⊎◌, ℕ, ◌+◌, ◌-◌, ◌<◌, ◌≤◌, List, [], ◌++◌, map, length, drop, cond, ap, sym, ◌∙◌, subst, inl, inr, arith}
use Rattle.std.specs.Prelude.{sum_by, ◌==◌}
use Rattle.std.proofs.lemmas.List.Sums.{sum_by-append}
use Rattle.psac_ops.specs.declared.plain.Handle.{Handle}
use Rattle.psac_ops.specs.Named.{same_handle}
use Rattle.psac_slots.specs.Handles.{Member, later, slot_times, once_below}
use Rattle.psac_slots.specs.Claiming.{Accounted, counted, rewound, learned}
use Rattle.psac_slots.specs.declared.view.ClaimView.{ClaimView}
use Rattle.psac_slots.proofs.Pairs.{member_left, member_right, member_map, map_member}
use Rattle.psac_slots.proofs.Given.{same_slot}
use Rattle.psac_slots.proofs.Removed.{member_times, found, at_most_once}
use Rattle.psac_laws.proofs.Places.{test_or}
use Rattle.psac_plain.proofs.Linked.{handles_told}
use Rattle.psac_trace.specs.Grown.{MoreClaims}
use Rattle.psac_trace.proofs.Leading.{member_sum, sum_member, zero_or}
use Rattle.psac_stage.proofs.Clears.{drop_member}
use Rattle.psac_fork.specs.declared.tables.Pass.{Pass}
use Rattle.psac_fork.specs.declared.tables.Tables.{Tables}
use Rattle.psac_inputs.specs.Grid.{Grid}
use Rattle.psac_marks.specs.declared.view.MarksView.{MarksView}
use Rattle.psac_values.specs.declared.view.ValueView.{ValueView}
use Rattle.psac_values.specs.Knowing.{claimed_as}
use Rattle.psac_values.specs.Steps.{made_handle}
use Rattle.psac_model.specs.declared.ends.Caps.{Caps}
use Rattle.psac_model.specs.declared.ends.CapKind.TheVariants as cap
use Rattle.psac_model.specs.declared.ends.Work.{Work}
use Rattle.psac_model.specs.Fresh.{World}
use Rattle.psac_record.specs.Kept.{Kept, bare, made_of}
use Rattle.psac_repair.specs.Ended.{Good}
use Rattle.psac_repair.specs.Counted.{Spent, done}
use Rattle.psac_repair.specs.Going.{views}
use Rattle.psac_repair.specs.Taking.{taken}
use Rattle.psac_reclaim.specs.Gave.{out_of}
use Rattle.psac_reclaim.specs.Parts.{nodes_of, in_all}
use Rattle.psac_stage.specs.Reclaiming.{IsFresh, Owes, GaveBack}
use Rattle.psac_stage.specs.Resting.{HasAll}
use Rattle.psac_stage.specs.Settling.{Settles}
use Rattle.psac_stage.proofs.Reclaiming.{all_same, all_nodes}
use Rattle.psac_engine.specs.Mending.{Staged, Told}
use Rattle.psac_engine.specs.Repaired.{Stands, Aged, Repaired, IsSpent}
use Rattle.psac_engine.proofs.Dropping.{done_mended, owes}

-- what is counted as the handle is it
same_is : (m x : Handle) → 0 < cond (same_handle x m) 1 0 → x ≡ m
same_is m x i = elim (test_or (same_handle x m)) [
  | inl t ↦ handles_told.alone x m t
  | inr t ↦ absurd
      (let z : 0 < 0 = rw t at i in omega (arith, z))
]

abbrev is_it : Handle → Handle → ℕ
is_it m x = cond (same_handle x m) 1 0

it_is : (m : Handle) → 0 < is_it m m
it_is m = let e : is_it m m ≡ 1 = ap (λ c. cond c 1 0) (handles_told.itself m) in omega (arith, e)

-- what stands in a list of this sum stands in one of these
pub in_sum : (xs ys zs : List Handle) → ((g : Handle → ℕ) → sum_by g xs ≡ sum_by g ys + sum_by g zs) → (m : Handle) → Member m xs → Member m ys ⊎ Member m zs
in_sum xs ys zs sum m i =
    let here = member_sum (is_it m) m xs i (it_is m) in
    let e = sum (is_it m) in
    elim (zero_or (sum_by (is_it m) ys)) [
      | inl none ↦ inr (let b = sum_member (is_it m) zs (omega (arith, here, e, none)) in subst (λ x. Member x zs) (same_is m b.0 b.2) b.1)
      | inr more ↦ inl (let b = sum_member (is_it m) ys more in subst (λ x. Member x ys) (same_is m b.0 b.2) b.1)
    ]

pub in_same : (xs ys : List Handle) → ((g : Handle → ℕ) → sum_by g xs ≡ sum_by g ys) → (m : Handle) → Member m ys → Member m xs
in_same xs ys sum m i =
    let here = member_sum (is_it m) m ys i (it_is m) in
    let e = sum (is_it m) in
    let b = sum_member (is_it m) xs (omega (arith, here, e)) in
    subst (λ x. Member x xs) (same_is m b.0 b.2) b.1

-- a claimed slot, by the handle that it has outside
pub one_made : (m n : ℕ) (x y : Handle) → m ≡ n → made_handle m x ≡ made_handle n y → x ≡ y
one_made m n x y same e =
    let slots = ap (λ (h : Handle). h.slot) e in
    let slot : x.slot ≡ y.slot = omega (arith, slots, same) in
    let generation : x.generation ≡ y.generation = ap (λ (h : Handle). h.generation) e in
    λ i. record { slot = slot i; generation = generation i }

claim_is : (n : ℕ) (x : Handle) → (let h : Handle = record { slot = (n + x.slot) - n; generation = x.generation } in h) ≡ x
claim_is n x =
    let slot : (n + x.slot) - n ≡ x.slot = omega arith in
    λ i. record { slot = slot i; generation = x.generation }

-- a table before a repair, behind it, regained, and once the slots of these went back
module _ (c q : ClaimView) (whole : Accounted c) (n : ℕ) (made : MoreClaims c q n) (k : ℕ) (z : ClaimView) (settles : z ≡ rewound (learned k q))
    (rest : Accounted z) where
  listed : z.list ≡ drop k c.list
  listed = ap (λ (v : ClaimView). v.list) settles ∙ ap (drop k) made.list

  counts : z.count ≡ c.count
  counts = ap (λ (v : ClaimView). v.count) settles ∙ made.count

  holds : z.held ≡ q.held
  holds = ap (λ (v : ClaimView). v.held) settles

  distinct : (s : ℕ) → slot_times s (c.list ++ c.held) ≤ 1
  distinct s =
      let a = sum_by-append (λ (h : Handle). cond (h.slot == s) 1 0) c.list c.held in
      let b = whole.slots s in
      let d = at_most_once s c.count in
      omega (arith, a, b, d)

  both : (h : Handle) → Stands c h → Member h (c.list ++ c.held)
  both h (inl i) = member_left h c.list c.held i
  both h (inr i) = member_right h c.list c.held i

  stood : (x : Handle) → Stands z x → Stands c x
  stood x (inl i) = inl (drop_member k c.list x (subst (Member x) listed i))
  stood x (inr i) = elim (made.held x (subst (Member x) holds i)) [
    | inl j ↦ inr j
    | inr j ↦ inl j
  ]

  found_in : (s : ℕ) → 0 < slot_times s z.list + slot_times s z.held → (x : Handle) × Stands z x × (x.slot ≡ s)
  found_in s more =
      elim (zero_or (slot_times s z.list)) [
        | inl none ↦ (let f = found s z.held (omega (arith, more, none)) in (f.0, inr f.1, f.2))
        | inr some ↦ (let f = found s z.list some in (f.0, inl f.1, f.2))
      ]

  -- each slot is still in the generation that it was in
  pub stays : (h : Handle) → Stands c h → Stands z h
  stays h i =
      let a = member_times h (c.list ++ c.held) (both h i) in
      let b = sum_by-append (λ (x : Handle). cond (x.slot == h.slot) 1 0) c.list c.held in
      let e = whole.slots h.slot in
      let f = rest.slots h.slot in
      let same : once_below h.slot z.count ≡ once_below h.slot c.count = ap (once_below h.slot) counts in
      let x = found_in h.slot (omega (arith, a, b, e, f, same)) in
      subst (Stands z) (same_slot (c.list ++ c.held) x.0 h distinct (both x.0 (stood x.0 x.1)) (both h i) x.2) x.1

  module _ (name : Handle → Handle) (gone kept back : List Handle) (d : ClaimView) (ends : Accounted d)
      (list : d.list ≡ (rewound z).list ++ back) (either : (h : Handle) → Member h z.held → Member (name h) kept ⊎ Member (name h) gone)
      (out : (h : Handle) → Stands c h → Member (name h) kept → Member h d.held)
      (gave : (h : Handle) → Member (name h) gone → Member (later h) back) where
    free : (rewound z).list ≡ z.list
    free = ap (λ o. drop (counted o) z.list) (ap (λ (v : ClaimView). v.counter) settles)

    pub aged : Aged name gone c d
    aged =
        record {
          once = ends;
          next = λ h i m. inl (subst (Member (later h)) (sym list) (member_right (later h) (rewound z).list back (gave h m)));
          same = λ h i off.
              elim (stays h i) [
                | inl j ↦ inl (subst (Member h) (sym list) (member_left h (rewound z).list back (subst (Member h) (sym free) j)))
                | inr j ↦ inr
                    (elim (either h j) [
                      | inl m ↦ out h i m
                      | inr m ↦ absurd (off m)
                    ])
              ];
        }

-- what a repair leaves, once what it took off went back
module _ (w : World) (g h : Grid) (caps : Caps) (age : ℕ) (t : Tables) (k : Kept) (p : Pass) (s : Staged w g h caps age t k p) (q : Pass)
    (new : Kept) (a : Told w h k new (views p) (views q) (Good (bare new))) (z : Pass) (settles : Settles q z)
    (all : HasAll h (length w.main.dests) caps age z) (young : ℕ) (fresh : IsFresh young z) (v : Pass)
    (b : GaveBack new (taken k new) z v) where
  owed : Owes new (taken k new) z
  owed = owes w g h caps age t k p s q new a z settles all young fresh

  nodes_aged : Aged (λ n. n) (in_all nodes_of (taken k new)) p.marks.knows.claims v.marks.knows.claims
  nodes_aged =
      let gone = in_all nodes_of (taken k new) in
      aged p.marks.knows.claims q.marks.knows.claims s.rested.nodes.whole (a.lasting.drew cap.Nodes) (a.lasting.claims cap.Nodes)
      settles.nodes z.marks.knows.claims (ap (λ (m : MarksView). m.claims) settles.marks) settles.whole_nodes
      (λ n. n) gone (nodes_of new) (map later gone) v.marks.knows.claims b.marks.whole b.marks.list
      (λ x i. in_sum z.marks.knows.claims.held (nodes_of new) gone owed.marks.out x i)
      (λ x i m. in_same v.marks.knows.claims.held (nodes_of new) b.marks.out x m)
      (λ x m. map_member later x gone m)

  mods_aged : Aged (made_handle z.values.knows.fixed) (in_all made_of (taken k new)) p.values.knows.claims v.values.knows.claims
  mods_aged =
      let gone = in_all made_of (taken k new) in
      let fixed = z.values.knows.fixed in
      let back : Handle → Handle = λ m. later (claimed_as m z.values.knows) in
      aged p.values.knows.claims q.values.knows.claims s.rested.mods.whole (a.lasting.drew cap.Mods) (a.lasting.claims cap.Mods)
      settles.mods z.values.knows.claims (ap (λ (m : ValueView). m.claims) settles.values) settles.whole_mods
      (made_handle fixed) gone (made_of new) (map back gone) v.values.knows.claims b.values.whole b.values.list
      (λ x i. in_sum (out_of z.values.knows) (made_of new) gone owed.values.out (made_handle fixed x)
      (map_member (made_handle fixed) x z.values.knows.claims.held i))
      (λ x i m.
      let o = in_same (out_of v.values.knows) (made_of new) b.values.out (made_handle fixed x) m in
      let y = member_map (made_handle v.values.knows.fixed) (made_handle fixed x) v.values.knows.claims.held o in
      subst (λ n. Member n v.values.knows.claims.held) (one_made v.values.knows.fixed fixed y.0 x b.values.fixed y.2) y.1)
      (λ x m. subst (λ n. Member (later n) (map back gone)) (claim_is fixed x) (map_member back (made_handle fixed x) gone m))

  fixed_now : z.values.knows.fixed ≡ p.values.knows.fixed
  fixed_now = ap (λ (m : ValueView). m.fixed) settles.values ∙ a.lasting.stays.fixed

  pub repaired_back : Repaired w h k new (views p) (views v)
  repaired_back =
      record {
        mended = done_mended w g h caps age t k p s q new a;
        exchanged = a.replaced.exchanged;
        nodes = subst (λ hs. Aged (λ n. n) hs p.marks.knows.claims v.marks.knows.claims) (sym (all_nodes (taken k new))) nodes_aged;
        mods = subst (λ hs. Aged (made_handle p.values.knows.fixed) hs p.values.knows.claims v.values.knows.claims) (sym (all_same made_of (taken k new)))
            (subst (λ n. Aged (made_handle n) (in_all made_of (taken k new)) p.values.knows.claims v.values.knows.claims) fixed_now mods_aged);
      }

  -- nobody looks or asks where what is gone goes back
  looks_then : v.values.knows.looks ≡ q.values.knows.looks
  looks_then = b.values.looks ∙ ap (λ (m : ValueView). m.looks) settles.values

  asks_then : v.marks.knows.asks ≡ q.marks.knows.asks
  asks_then = b.marks.asks ∙ ap (λ (m : MarksView). m.asks) settles.marks

  pub spent_back : (work : Work) → work.visited ≡ (done k new).visited
      → Spent p.values.knows q.values.knows p.marks.knows q.marks.knows k new → IsSpent work k new (views p) (views v)
  spent_back work visited s =
      let l = s.looks in
      let a = s.asks in
      let lt = looks_then in
      let at = asks_then in
      record { looks = omega (arith, l, lt); asks = omega (arith, a, at, visited) }

-- nothing to do: each generation is what it was
pub aged_none : (name : Handle → Handle) (c : ClaimView) → Accounted c → Aged name [] c c
aged_none name c whole = record { once = whole; next = λ h i m. absurd m; same = λ h i off. i }
