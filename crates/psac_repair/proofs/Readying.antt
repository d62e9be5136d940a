-- The sets and nodes of a pass between two calls, on both sides of a par and after the join.
use Rattle.std.proofs.Common.{◌≡◌, ℕ, ◌||◌, ◌&&◌, Bool, true, false, not, List, [], ◌∷◌, ◌++◌, map, refl, ap, sym, ◌∙◌, subst, inl, inr, ⊎_elim}
use Rattle.std.specs.Prelude.{filter}
use Rattle.psac_slots.specs.Branches.{stem}
use Rattle.psac_slots.specs.Handles.{Member}
use Rattle.psac_slots.specs.Divided.{stays, goes}
use Rattle.psac_slots.proofs.Turns.{stem_push}
use Rattle.psac_laws.proofs.Places.{test_or, not_true, not_both}
use Rattle.psac_values.specs.declared.view.ValueView.{ValueView}
use Rattle.psac_values.specs.Steps as values
use Rattle.psac_readers.specs.declared.view.ReadersView.{ReadersView}
use Rattle.psac_readers.specs.Chained as readers_rule
use Rattle.psac_readers.specs.Chained.{mods_of}
use Rattle.psac_readers.specs.Steps as readers
use Rattle.psac_record.specs.Kept.{Kept as Tree, Stands, bare}
use Rattle.psac_trace.specs.Rights.{Kept}
use Rattle.psac_trace.specs.Fit.{SetsReady, is_spare}
use Rattle.psac_trace.proofs.Fitting.{sets_links, sets_left, sets_right, sets_joined}
use Rattle.psac_trace.proofs.Joining.{mods_filter}
use Rattle.psac_repair.specs.Divided.{neither, writes_slot, has_link}
use Rattle.psac_repair.specs.Linked.{Relinked}
use Rattle.psac_repair.specs.LinkLaws.{left_pass, right_pass}
use Rattle.psac_repair.specs.WatchLaws.{left_view, right_view}

filter_same : {A : Type 0} (f g : A → Bool) (xs : List A) → ((x : A) → f x ≡ g x) → filter f xs ≡ filter g xs
filter_same f g [] h = refl
filter_same f g (x ∷ xs) h =
    elim (test_or (g x)) [
      | inl t ↦ (let s : f x ≡ true = h x ∙ t in rw (s, t) (ap (λ z. x ∷ z) (filter_same f g xs h)))
      | inr t ↦ (let s : f x ≡ false = h x ∙ t in rw (s, t) (filter_same f g xs h))
    ]

-- sets, where no slot that a claim may give is one that a side touched
module _ (l k : Tree) (v : ValueView) (r : ReadersView) (same : r.claims.branch ≡ v.claims.branch) (left_aged : (s : ℕ) → writes_slot (bare l) s ≡ true → is_spare v.fixed v.claims.list s ≡ false) (right_aged : (s : ℕ) → writes_slot (bare k) s ≡ true → is_spare v.fixed v.claims.list s ≡ false) (s : SetsReady v r) where
  abbrev Both : ℕ → Bool
  Both = neither (bare l) (bare k)

  abbrev Over : ℕ → Bool
  Over = writes_slot (bare k)

  abbrev More : ℕ → Bool
  More n = Both n || is_spare v.fixed v.claims.list n

  spare_shared : (n : ℕ) → is_spare v.fixed v.claims.list n ≡ true → Both n ≡ true
  spare_shared n e =
      let a : writes_slot (bare l) n ≡ false = not_true (writes_slot (bare l) n) (λ t. not_both e (left_aged n t)) in
      let b : writes_slot (bare k) n ≡ false = not_true (writes_slot (bare k) n) (λ t. not_both e (right_aged n t)) in
      rw (a, b) refl

  or_no : (b : Bool) → (b || false) ≡ b
  or_no true = refl
  or_no false = refl

  or_yes : (b : Bool) → (b || true) ≡ true
  or_yes true = refl
  or_yes false = refl

  more_is : (n : ℕ) → More n ≡ Both n
  more_is n =
      elim (test_or (is_spare v.fixed v.claims.list n)) [
        | inl e ↦ ap (λ b. Both n || b) e ∙ or_yes (Both n) ∙ sym (spare_shared n e)
        | inr e ↦ ap (λ b. Both n || b) e ∙ or_no (Both n)
      ]

  told_is : readers.now_shared Both Over (has_link k) r ≡ readers.now_shared More Over (λ n. false) r
  told_is = ap (λ z. r.shared ++ map (readers_rule.labelled r.claims.branch) z) (filter_same Both More (mods_of r.walk) (λ n. sym (more_is n)))

  stays_is : (n : ℕ) → stays readers_rule.ways Both Over n ≡ stays readers_rule.ways More Over n
  stays_is n = ap (λ b. not b && not (Over n)) (sym (more_is n))

  goes_is : (n : ℕ) → goes readers_rule.ways Both Over n ≡ goes readers_rule.ways More Over n
  goes_is n = ap (λ b. not b && Over n) (sym (more_is n))

  pub ready_left : SetsReady (left_view l k v) (left_pass l k r)
  ready_left =
      sets_links (left_view l k v) (readers.left_of More Over (λ n. false) r) (left_pass l k r) refl
      (λ n h. ⊎_elim
      (λ i. inl (subst (Member n) (mods_filter (stays readers_rule.ways More Over) r.walk ∙ filter_same (stays readers_rule.ways More Over) (stays readers_rule.ways Both Over) (mods_of r.walk) (λ x. sym (stays_is x)) ∙ sym (mods_filter (stays readers_rule.ways Both Over) r.walk)) i))
      (λ i. inr (i.0, subst (Member i.0) (sym told_is) i.1, i.2))
      h)
      told_is refl (sets_left Both Over v r same s)

  pub ready_right : SetsReady (right_view l k v) (right_pass l k r)
  ready_right =
      sets_links (right_view l k v) (readers.right_of More Over (λ n. false) r) (right_pass l k r) refl
      (λ n h. ⊎_elim
      (λ i. inl (subst (Member n) (mods_filter (goes readers_rule.ways More Over) r.walk ∙ filter_same (goes readers_rule.ways More Over) (goes readers_rule.ways Both Over) (mods_of r.walk) (λ x. sym (goes_is x)) ∙ sym (mods_filter (goes readers_rule.ways Both Over) r.walk)) i))
      (λ i. inr (i.0, subst (Member i.0) (sym told_is) i.1, i.2))
      h)
      told_is refl (sets_right Both Over v r same s)

-- and joined
pub ready_joined : (l k : Tree) (v a b j : ValueView) (r x y z : ReadersView) (g m e n : List Stands) → r.claims.branch ≡ v.claims.branch → Kept (left_view l k v) a → Relinked (left_pass l k r) x g m → Relinked (right_pass l k r) y e n → j ≡ values.joined a b → z ≡ readers.joined x y → SetsReady a x → SetsReady b y → SetsReady j z
ready_joined l k v a b j r x y z g m e n same ka mx my is ris sa sb =
    sets_joined a b j x y z r.claims.branch (ap stem ka.branch ∙ stem_push v.claims.branch false ∙ sym same) (ap stem mx.branch ∙ stem_push r.claims.branch false) is ris (my.shared ∙ sym mx.shared) (my.mods ∙ sym mx.mods) sa sb
