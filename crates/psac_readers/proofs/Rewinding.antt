-- A sole pass sets the counter back.
use Rattle.psac_readers.proofs.Terms.{◌≡◌, ℕ, ◌+◌, ◌≤◌, List, [], map, set, take, drop, length, true, refl, sym, ap, ◌∙◌, subst, arith, Some, none_in, sum_map, sum_by, map-set, some, get_elem?, at_map, set_again, ClaimView, sum_set, sum_at, sum_none, all_set, LinkView, ReadersView, Handle, Member, WalkView, SharedView, named, linked, deads, times, Each, mods_of, claims_of, rights_of, Knows, Placed, Seen, Readable, spent, rewound, regained, Holds}
use Rattle.psac_slots.specs.Claiming as claiming
use Rattle.psac_slots.specs.Handles as handles
use Rattle.psac_slots.proofs.Rewinds as turns
use Rattle.psac_readers.proofs.Keeps.{known_far, beside_at}

module _ (links mods : ℕ) (words : List ℕ) (views : List ReadersView) (h : Readable links mods words views) (id : ℕ) (v : ReadersView) (at : get_elem? views id ≡ some v) where
  -- a pass with the empty branch shares nothing
  pub nothing_shared : v.claims.branch ≡ [] → v.shared ≡ []
  nothing_shared empty = none_in v.shared (λ e m. let l = ((h.rights.own id (rights_of v) (at_map rights_of views id v at)).labels e m).1 in let z = ap length empty in omega (arith, l, z))

  -- what a pass has in a set beyond those of the table
  none_beyond : (m l : ℕ) → mods ≤ m → sum_by (linked m l) v.links ≡ 0
  none_beyond m l far = let a = sum_at (λ (u : ReadersView). sum_by (linked m l) u.links) views id v at in let o = h.sets.counted m l in let z = ap (times l) (h.sets.beyond m far) in omega (arith, a, o, z)

  -- a sole pass has all links that are held
  pub holds_all : v.claims.live ≡ true → v.claims.branch ≡ [] → Holds v
  holds_all live empty = record {
    held = λ l.
        let f : ReadersView → ℕ = λ u. sum_by (named l) u.links in
        let mine = at_map claims_of views id v at in
        let a = sum_set f views id v spent at in
        let b = sum_none f (set views id spent) (all_set (λ _ (u : ReadersView). f u ≡ 0) views id spent refl
        (λ j u n e. ap (sum_by (named l)) ((h.sets.tells j u e).gone (turns.alone links h.counter h.head h.list words (map claims_of views) h.claims id v.claims mine live empty j u.claims n (at_map claims_of views j u e))))) in
        let c = turns.alone_sum links h.counter h.head h.list words (map claims_of views) h.claims id v.claims mine live empty (λ (u : ClaimView). handles.slot_times l u.held) refl (λ u _ d. ap (handles.slot_times l) d) in
        omega (arith, a, b, c, sum_map claims_of (λ (u : ClaimView). handles.slot_times l u.held) views, h.sets.owed l);
    inside = λ m l far. none_beyond m l (let g = (h.sets.tells id v at).mods_is live in omega (arith, g, far));
  }

  -- a link is dead where a sole pass has it as dead
  pub dead_alone : v.claims.live ≡ true → v.claims.branch ≡ [] → (l : ℕ) → sum_by (λ (u : ReadersView). sum_by (deads l) u.links) views ≡ sum_by (deads l) v.links
  dead_alone live empty l =
      let f : ReadersView → ℕ = λ u. sum_by (deads l) u.links in
      let mine = at_map claims_of views id v at in
      let b = sum_none f (set views id spent) (all_set (λ _ (u : ReadersView). f u ≡ 0) views id spent refl
      (λ j u n e. ap (sum_by (deads l)) ((h.sets.tells j u e).gone (turns.alone links h.counter h.head h.list words (map claims_of views) h.claims id v.claims mine live empty j u.claims n (at_map claims_of views j u e))))) in
      omega (arith, sum_set f views id v spent at, b)

  -- one view changes in its claims alone, which hold the same, and one of the words below the sets
  low_store : (w : ReadersView) (i x d front : ℕ) (list : List Handle) → i ≤ links → w.mods ≡ v.mods → w.walk ≡ v.walk → w.shared ≡ v.shared → w.links ≡ v.links → w.claims.live ≡ v.claims.live → w.claims.branch ≡ v.claims.branch → w.claims.held ≡ v.claims.held
      → claiming.Claimed links d front list (set words i x) (set (map claims_of views) id w.claims) → Readable links mods (set words i x) (set views id w)
  low_store w i x d front list low em ew es el ev eb eh cs =
      let t = h.sets.tells id v at in
      let know = known_far links mods words views h id v at i x (λ l. ((λ q. absurd (omega (arith, q, low))), (λ q. absurd (omega (arith, q, low))))) in
      beside_at links mods words views h id v at w i x d front list (λ m lt q. absurd (omega (arith, q, low))) (λ l q. absurd (omega (arith, q, low)))
      (subst (claiming.Claimed links d front list (set words i x)) (sym (map-set claims_of views id w)) cs)
      (λ j. record { live = ev j; branch = eb j; alone = mods_of (ew j); shared = es j })
      (λ l. ap (sum_by (deads l)) el) (λ m l. ap (sum_by (linked m l)) el) (λ l. let s = ap (sum_by (named l)) el in let a = ap (handles.slot_times l) eh in omega (arith, s, a))
      record {
        mods_is = λ l. em ∙ t.mods_is (sym ev ∙ l);
        known = subst (Each (Knows links mods (set words i x) h.sets.next)) (sym el) (know v.links t.known);
        placed = subst (λ (z : List WalkView × List SharedView × List LinkView). Each (Placed (mods_of z.0) z.1) z.2) (λ j. (sym ew j, sym es j, sym el j)) t.placed;
        whole = λ m has l. ap (sum_by (linked m l)) el ∙ t.whole m (subst (λ z. Member m (mods_of z)) ew has) l;
        seen = subst (Each (Seen h.sets.chain)) (sym ew) t.seen;
        gone = λ z. el ∙ t.gone (sym ev ∙ z);
      }
      (λ j u n e p. know u.links p)

  -- a sole pass sets the counter back
  pub rewinds_at : v.claims.live ≡ true → v.claims.branch ≡ [] → v.claims.counter ≡ Some h.counter → Readable links mods (set words 0 0) (set views id (rewound v))
  rewinds_at live empty knows = low_store (rewound v) 0 0 0 (claiming.turned links (h.head + length (take h.counter h.list))) (drop h.counter h.list) (omega arith) refl refl refl refl refl refl refl
      (turns.rewinds_at links h.counter h.head h.list words (map claims_of views) h.claims id v.claims (at_map claims_of views id v at) live empty knows)

  -- and learns it
  pub regains_at : v.claims.live ≡ true → v.claims.branch ≡ [] → Readable links mods words (set views id (regained h.counter v))
  regains_at live empty =
      let same : set words 0 h.counter ≡ words = set_again words 0 h.counter h.claims.counter_is in
      subst (λ ws. Readable links mods ws (set views id (regained h.counter v))) same
      (low_store (regained h.counter v) 0 h.counter h.counter h.head h.list (omega arith) refl refl refl refl refl refl refl
      (subst (λ ws. claiming.Claimed links h.counter h.head h.list ws (set (map claims_of views) id (claiming.learned h.counter v.claims))) (sym same)
      (turns.learns_at links h.counter h.head h.list words (map claims_of views) h.claims id v.claims (at_map claims_of views id v at) live empty)))
