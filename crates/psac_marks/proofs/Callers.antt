-- What a caller needs of claims, raises, forks and joins.
use Rattle.psac_marks.proofs.Terms.{◌≡◌, ℕ, List, [], ◌∷◌, ◌++◌, map, length, Bool, true, false, refl, sym, ap, ◌∙◌, subst, inl, inr, ⊎_elim, arith, Option, Some, None, filter, not, le-ltb, Handle, stem, Member, comes_back as returns, lends, times, stem_push, member_left, member_right, map_member, filter_member, OwnView, SharedView, MarksView, Place, own_place, shared_place, places, ways, now_shared, joined, Owns, Keeps, IsKept, IsBusy, Leads, Claims, took}
use Rattle.psac_marks.proofs.Parts.{each_place, place_own, place_shared}

-- a path stays where nodes and marks only come, and none is dropped
pub leads_on : (v w : MarksView) → ((e : Place) → Member e (places v) → Member e (places w)) → w.dropped ≡ v.dropped → ((x : ℕ) → IsBusy v x → IsBusy w x) → (x : ℕ) (path : List Place) → Leads v x path → Leads w x path
leads_on v w more kept busy x [] l = absurd l
leads_on v w more kept busy x (e ∷ es) l = (l.0, more e l.1, ap (times x) kept ∙ l.2, ⊎_elim (λ r. inl r) (λ q. inr (⊎_elim (λ b. inl (busy x b)) (λ (p : (p : ℕ) × (e.parent ≡ Some p) × Leads v p es). inr (p.0, p.1, leads_on v w more kept busy p.0 es p.2)) q)) l.3)

module _ (v : MarksView) (h : Handle) (par : Option ℕ) (w : MarksView) (c : Claims v h par w) where
  -- after a claim
  pub claimed_own : w.own ≡ record { node = h; parent = par } ∷ v.own
  claimed_own = ap (λ (u : MarksView). u.own) c.becomes

  pub claimed_dropped : w.dropped ≡ v.dropped
  claimed_dropped = ap (λ (u : MarksView). u.dropped) c.becomes

  claimed_places : (e : Place) → Member e (places v) → Member e (places w)
  claimed_places e m = subst (λ (u : MarksView). Member e (places u)) (sym c.becomes)
      (each_place v (λ e. Member e (places (took v c.index h par))) (λ o m. place_own (took v c.index h par) o (inr m)) (place_shared (took v c.index h par)) e m)

  pub claimed_leads : (x : ℕ) (path : List Place) → Leads v x path → Leads w x path
  claimed_leads = leads_on v w claimed_places claimed_dropped (λ x b. subst (λ (u : MarksView). IsBusy u x) (sym c.becomes) b)

  pub owns_claimed : Owns w h
  owns_claimed = subst (λ (os : List OwnView). (o : OwnView) × Member o os × (o.node ≡ h)) (sym claimed_own) (record { node = h; parent = par }, inl refl, refl)

  pub owns_still : (x : Handle) → Owns v x → Owns w x
  owns_still x o = subst (λ (os : List OwnView). (k : OwnView) × Member k os × (k.node ≡ x)) (sym claimed_own) (o.0, inr o.1, o.2)

-- an own node, where none is dropped, is one that may have children
pub keeps_own : (v : MarksView) (h : Handle) → v.dropped ≡ [] → Owns v h → Keeps v h
keeps_own v h kept o = (own_place v.claims.branch o.0, place_own v o.0 o.1, o.2, ap (times h.slot) kept)

-- a root leads up
pub leads_root : (v : MarksView) (h : Handle) → v.dropped ≡ [] → Member (record { node = h; parent = None }) v.own → Leads v h.slot (own_place v.claims.branch (record { node = h; parent = None }) ∷ [])
leads_root v h kept m = (refl, place_own v (record { node = h; parent = None }) m, ap (times h.slot) kept, inl refl)

-- and so does a child of what does
pub leads_child : (v : MarksView) (h : Handle) (p : ℕ) (path : List Place) → IsKept v h.slot → Member (record { node = h; parent = Some p }) v.own → Leads v p path → Leads v h.slot (own_place v.claims.branch (record { node = h; parent = Some p }) ∷ path)
leads_child v h p path kept m l = (refl, place_own v (record { node = h; parent = Some p }) m, kept, inr (inr (p, refl, l)))

-- a child of a root leads up
pub leads_two : (v : MarksView) (top mid : Handle) → v.dropped ≡ [] → Member (record { node = mid; parent = Some top.slot }) v.own → Member (record { node = top; parent = None }) v.own → (path : List Place) × Leads v mid.slot path
leads_two v top mid kept mm mt =
    let ps : List Place = own_place v.claims.branch (record { node = top; parent = None }) ∷ [] in
    (own_place v.claims.branch (record { node = mid; parent = Some top.slot }) ∷ ps, leads_child v mid top.slot ps (ap (times mid.slot) kept) mm (leads_root v top kept mt))

-- and so does a node below that
pub leads_three : (v : MarksView) (top mid low : Handle) → v.dropped ≡ [] → Member (record { node = low; parent = Some mid.slot }) v.own → Member (record { node = mid; parent = Some top.slot }) v.own → Member (record { node = top; parent = None }) v.own
    → (path : List Place) × Leads v low.slot path
leads_three v top mid low kept ml mm mt =
    let up = leads_two v top mid kept mm mt in
    (own_place v.claims.branch (record { node = low; parent = Some mid.slot }) ∷ up.0, leads_child v low mid.slot up.0 (ap (times low.slot) kept) ml up.1)

-- the nodes of a list are the pass's own
pub owns_four : (v : MarksView) (a b c d : OwnView) (os : List OwnView) → v.own ≡ a ∷ b ∷ c ∷ d ∷ os → Owns v a.node × Owns v b.node × Owns v c.node × Owns v d.node
owns_four v a b c d os is =
    let at : (o : OwnView) → Member o (a ∷ b ∷ c ∷ d ∷ os) → Owns v o.node = λ o m. (o, subst (Member o) (sym is) m, refl) in
    (at a (inl refl), at b (inr (inl refl)), at c (inr (inr (inl refl))), at d (inr (inr (inr (inl refl)))))

-- nodes that are shared, and none is dropped
pub leads_shared : (w : MarksView) (b : List Bool) (top mid : Handle) → w.dropped ≡ [] → Member (record { node = mid; parent = Some top.slot; label = b }) w.shared → Member (record { node = top; parent = None; label = b }) w.shared
    → Keeps w mid × ((path : List Place) × Leads w mid.slot path)
leads_shared w b top mid kept mm mt =
    let none : (h : Handle) → IsKept w h.slot = λ h. ap (times h.slot) kept in
    let high : SharedView = record { node = top; parent = None; label = b } in
    let low : SharedView = record { node = mid; parent = Some top.slot; label = b } in (
      (shared_place low, place_shared w low mm, refl, none mid),
      (shared_place low ∷ shared_place high ∷ [], (refl, place_shared w low mm, none mid, inr (inr (top.slot, refl, (refl, place_shared w high mt, none top, inl refl))))),
    )

-- all that is own is shared by a division that shares all
pub all_shared : (f : ℕ → Bool) (v : MarksView) (o : OwnView) → Member o v.own → Member (record { node = o.node; parent = o.parent; label = v.claims.branch }) (now_shared (λ _. true) f v)
all_shared f v o m = member_right (ways.lend v.claims.branch o) v.shared (map (ways.lend v.claims.branch) (filter (lends ways (λ _. true) f) v.own)) (map_member (ways.lend v.claims.branch) o (filter (lends ways (λ _. true) f) v.own) (filter_member (lends ways (λ _. true) f) o v.own m refl))

-- what is shared from the branch on is owned again at the join
pub owns_back : (l r : MarksView) (s : SharedView) (b : List Bool) → Member s l.shared → s.label ≡ b → l.claims.branch ≡ b ++ false ∷ [] → Owns (joined l r) s.node
owns_back l r s b m lb is =
    let t : stem l.claims.branch ≡ b = ap stem is ∙ stem_push b false in
    let on : returns ways (stem l.claims.branch) s ≡ true = ap not (le-ltb (length s.label) (length (stem l.claims.branch)) (let x = ap length lb in let y = ap length t in omega (arith, x, y))) in
    (ways.back s, member_right (ways.back s) (l.own ++ r.own) (map ways.back (filter (returns ways (stem l.claims.branch)) l.shared)) (map_member ways.back s (filter (returns ways (stem l.claims.branch)) l.shared) (filter_member (returns ways (stem l.claims.branch)) s l.shared m on)), refl)

pub owns_left : (l r : MarksView) (h : Handle) → Owns l h → Owns (joined l r) h
owns_left l r h o = (o.0, member_left o.0 (l.own ++ r.own) (map ways.back (filter (returns ways (stem l.claims.branch)) l.shared)) (member_left o.0 l.own r.own o.1), o.2)

pub owns_right : (l r : MarksView) (h : Handle) → Owns r h → Owns (joined l r) h
owns_right l r h o = (o.0, member_left o.0 (l.own ++ r.own) (map ways.back (filter (returns ways (stem l.claims.branch)) l.shared)) (member_right o.0 l.own r.own o.1), o.2)
