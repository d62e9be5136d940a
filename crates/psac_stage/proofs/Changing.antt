-- Slots whose words change, one after another, with the marks of those who read them.
use Rattle.std.proofs.Common.{◌≡◌, ◌⊎◌, ℕ, ◌+◌, ◌*◌, ◌<◌, ◌≤◌, ◌==◌, List, [], ◌∷◌, ◌++◌, map, take, length, Some, slice_get, refl, ap, sym, ◌∙◌, subst, inl, inr, append_assoc}
use Rattle.std.proofs.lemmas.Bool.{eq-eqb}
use Rattle.std.proofs.lemmas.List.{map-append, take_more, take_all}
use Rattle.std.proofs.lemmas.Option.{get_or_from_slice_get, slice_get_within}
use Rattle.psac_slots.specs.Handles.{Member}
use Rattle.psac_slots.proofs.Pairs.{member_left, member_right, member_cases}
use Rattle.psac_values.specs.declared.view.ValueView.{ValueView}
use Rattle.psac_readers.specs.declared.view.WalkView.{WalkView}
use Rattle.psac_readers.specs.declared.view.ReadersView.{ReadersView}
use Rattle.psac_readers.specs.Chained.{mods_of}
use Rattle.psac_readers.specs.Steps as readers
use Rattle.psac_marks.specs.declared.view.MarksView.{MarksView}
use Rattle.psac_marks.specs.Marked.{Place}
use Rattle.psac_marks.specs.Passes.{IsBusy, Leads}
use Rattle.psac_raise.specs.Raise.{LeadUpIn, with_marks, Raised}
use Rattle.psac_raise.proofs.Going.{marks_busy}
use Rattle.psac_ops.specs.declared.plain.Plain.{Plain}
use Rattle.psac_laws.proofs.Places.{nat_is, test_or, not_both}
use Rattle.psac_trace.specs.Raising.{AllBusy}
use Rattle.psac_trace.proofs.Claims.{append_none}
use Rattle.psac_trace.proofs.Leading.{leads_more, lead_up, lead_up_in, busy_on, FewerIn}
use Rattle.psac_repair.specs.Going.{Views}
use Rattle.psac_inputs.specs.declared.batch.Edit.{Edit}
use Rattle.psac_inputs.specs.Grid.{Grid}
use Rattle.psac_stage.specs.Holding.{value_in}
use Rattle.psac_stage.specs.Storing.{Stored}
use Rattle.psac_stage.specs.Staging.{cell_slot, three, MayChange, SameReaders, Changes}
use Rattle.psac_stage.proofs.Storing.{same_none, same_then}

pub same_sets : (r : ReadersView) → SameReaders r r
same_sets r = record { claims = refl; mods = refl; walk = refl; shared = refl; links = refl }

sets_then : (r q x : ReadersView) → SameReaders r q → SameReaders q x → SameReaders r x
sets_then r q x a b =
    record {
      claims = b.claims ∙ a.claims;
      mods = b.mods ∙ a.mods;
      walk = b.walk ∙ a.walk;
      shared = b.shared ∙ a.shared;
      links =
          b.links ∙ a.links;
    }

-- the live links of a set are the same
fewer : (r q : ReadersView) → SameReaders r q → (s : ℕ) → FewerIn r q s
fewer r q a s k i o e = (k, subst (Member k) a.links i, o, e, refl)

more : (r q : ReadersView) → SameReaders r q → (s : ℕ) → FewerIn q r s
more r q a s k i o e = (k, subst (Member k) (sym a.links) i, o, e, refl)

leads_marked : (m n : MarksView) (xs ys : List ℕ) → n ≡ with_marks xs ys m → (x : ℕ) (path : List Place) → Leads m x path → Leads n x path
leads_marked m n xs ys e x path l =
    subst (λ z. Leads z x path) (sym e) (leads_more m (with_marks xs ys m) (λ p i k. i) (λ y k. k) (λ y k b. marks_busy xs ys m y b) x
    path l)

busy_marked : (m n : MarksView) (xs ys : List ℕ) → n ≡ with_marks xs ys m → (x : ℕ) → IsBusy m x → IsBusy n x
busy_marked m n xs ys e x b = subst (λ z. IsBusy z x) (sym e) (marks_busy xs ys m x b)

pub marks_none : (m : MarksView) → m ≡ with_marks [] [] m
marks_none m = sym (ap (λ z. record m { marked = z; busy = m.busy ++ [] }) (append_none m.marked) ∙ ap (λ z. record m { busy = z })
    (append_none m.busy))

marks_then : (m n x : MarksView) (xs ys us vs : List ℕ) → n ≡ with_marks xs ys m → x ≡ with_marks us vs n
    → x ≡ with_marks (xs ++ us) (ys ++ vs) m
marks_then m n x xs ys us vs a b =
    b ∙ ap (with_marks us vs) a ∙ ap (λ z. record m { marked = z; busy = (m.busy ++ ys) ++ vs }) (append_assoc m.marked xs us)
    ∙ ap (λ z. record m { marked = m.marked ++ (xs ++ us); busy = z }) (append_assoc m.busy ys vs)

-- a number stands in a list or not
pub member_or : (s : ℕ) (ss : List ℕ) → Member s ss ⊎ (Member s ss → ⊥)
member_or s [] = inr (λ i. i)
member_or s (k ∷ ss) =
    elim (test_or (k == s)) [
      | inl t ↦ inl (inl (nat_is k s t))
      | inr t ↦ elim (member_or s ss) [
        | inl i ↦ inl (inr i)
        | inr out ↦ inr
            (λ i. elim i [ inl e ↦ not_both (eq-eqb k s e) t | inr j ↦ out j ])
      ]
    ]

-- nothing changes
pub changes_none : (p : Views) → Changes [] p p
changes_none p =
    record {
      same = same_none p.values;
      has = λ s i. absurd i;
      words = λ s h. refl;
      readers = same_sets p.readers;
      marks = [];
      found = [];
      becomes = marks_none p.marks;
      within = λ us f x i. absurd i;
      warned = λ s i. absurd i;
    }

-- one slot
pub changes_one : (s : ℕ) (x : Plain) (v u : ValueView) (r q : ReadersView) (m n : MarksView) (chain : List ℕ)
    → q ≡ readers.learned s chain r → Raised r s m n → Stored s x v u → Changes (s ∷ []) (three v r m) (three u q n)
changes_one s x v u r q m n chain e h w =
    record {
      same = w.same;
      has = λ k i. elim i [ inl o ↦ (x, subst (λ z. value_in z u.mine ≡ Some x) o w.here) | inr j ↦ absurd j ];
      words = λ k out. w.others k (λ i. out (inl (sym i)));
      readers = record {
        claims = ap (λ (z : ReadersView). z.claims) e;
        mods = ap (λ (z : ReadersView). z.mods) e;
        walk = ap (λ (z : ReadersView). mods_of z.walk) e ∙ learned_mods r.walk;
        shared = ap (λ (z : ReadersView). z.shared) e;
        links = ap (λ (z : ReadersView). z.links) e;
      };
      marks = h.marks;
      found = h.found;
      becomes = h.becomes;
      within = λ us f y i. h.within us (f s (inl refl)) y i;
      warned = λ k i. elim i [ inl o ↦ subst (AllBusy r n) o (λ l t. h.warned l t) | inr j ↦ absurd j ];
    }
  where
    learned_mods : (ws : List WalkView) → mods_of (map (readers.learn s chain) ws) ≡ mods_of ws
    learned_mods [] = refl
    learned_mods (e ∷ es) = ap (λ z. e.of ∷ z) (learned_mods es)

module _ (ss : List ℕ) (p q : Views) (a : Changes ss p q) where
  pub may_still : (s : ℕ) → MayChange s p → MayChange s q
  may_still s m =
      record {
        inside = subst (λ n. s < n) (sym a.readers.mods) m.inside;
        walk = subst (Member s) (sym a.readers.walk) m.walk;
        leads = lead_up p.readers q.readers p.marks q.marks s (fewer p.readers q.readers a.readers s)
            (leads_marked p.marks q.marks a.marks a.found a.becomes) m.leads;
      }

  in_still : (us : List ℕ) (s : ℕ) → LeadUpIn p.readers p.marks us s → LeadUpIn q.readers q.marks us s
  in_still us s l = lead_up_in p.readers q.readers p.marks q.marks s (fewer p.readers q.readers a.readers s)
      (leads_marked p.marks q.marks a.marks a.found a.becomes) us l

  module _ (ts : List ℕ) (x : Views) (b : Changes ts q x) where
    -- some slots, and then others
    pub changes_then : Changes (ss ++ ts) p x
    changes_then =
        record {
          same = same_then p.values q.values x.values a.same b.same;
          has = λ s i.
              elim (member_or s ts) [
                | inl j ↦ b.has s j
                | inr out ↦ elim (member_cases s ss ts i) [
                  | inl j ↦ (let z = a.has s j in (z.0, b.words s out ∙ z.1))
                  | inr j ↦ absurd
                      (out j)
                ]
              ];
          words = λ s out. b.words s (λ i. out (member_right s ss ts i)) ∙ a.words s (λ i. out (member_left s ss ts i));
          readers = sets_then p.readers q.readers x.readers a.readers b.readers;
          marks = a.marks ++ b.marks;
          found = a.found ++ b.found;
          becomes = marks_then p.marks q.marks x.marks a.marks a.found b.marks b.found a.becomes b.becomes;
          within = λ us f y i.
              elim (member_cases y a.marks b.marks i) [
                | inl j ↦ a.within us (λ s k. f s (member_left s ss ts k)) y j
                | inr j ↦ b.within us (λ s k. in_still us s (f s (member_right s ss ts k))) y j
              ];
          warned = λ s i.
              elim (member_cases s ss ts i) [
                | inl j ↦ busy_on p.readers p.readers q.marks x.marks s (more p.readers p.readers (same_sets p.readers) s)
                    (busy_marked q.marks x.marks b.marks b.found b.becomes) (a.warned s j)
                | inr j ↦ busy_on p.readers q.readers x.marks x.marks s (more p.readers q.readers a.readers s) (λ y h. h) (b.warned s j)
              ];
        }

-- by other slots, which are the same
pub changes_by : (ss ts : List ℕ) (p q : Views) → ss ≡ ts → Changes ss p q → Changes ts p q
changes_by ss ts p q e a = subst (λ z. Changes z p q) e a

-- the slots of the edits so far
pub slots_more : (g : Grid) (edits : List Edit) (i : ℕ) (e : Edit) (cols : ℕ) → slice_get edits i ≡ Some e → cols ≡ g.cols
    → map (cell_slot g) (take i edits) ++ (e.row * cols + e.col) ∷ [] ≡ map (cell_slot g) (take (i + 1) edits)
slots_more g edits i e cols is same =
    ap (λ n. map (cell_slot g) (take i edits) ++ (e.row * n + e.col) ∷ []) same
    ∙ sym (map-append (cell_slot g) (take i edits) (e ∷ []))
    ∙ ap (map (cell_slot g)) (ap (λ z. take i edits ++ z ∷ []) (sym (get_or_from_slice_get edits i e e is)) ∙ sym
    (take_more edits i e (slice_get_within edits i e is)))

pub slots_all : (g : Grid) (edits : List Edit) (i : ℕ) → length edits ≤ i → map (cell_slot g) (take i edits) ≡ map (cell_slot g) edits
slots_all g edits i over = ap (map (cell_slot g)) (take_all i edits over)

-- a slot that changed alone has its value, and no other slot's words changed
pub stored_by : (s : ℕ) (x : Plain) (p q : Views) → Changes (s ∷ []) p q → value_in s q.values.mine ≡ Some x → Stored s x p.values q.values
stored_by s x p q a has = record { same = a.same; here = has; others = λ k d. a.words k (λ i. elim i [ inl e ↦ d (sym e) | inr j ↦ j ]) }
