-- A run that wrote with other words what others read has woken them.
use Rattle.std.proofs.Common.{◌≡◌, ◌≢◌, ◌⊎◌, ◌==◌, ℕ, List, [], ◌∷◌, Some, refl, ap, sym, ◌∙◌, subst, inl, inr, ⊎_elim}
use Rattle.psac_ops.specs.declared.plain.Handle.{Handle}
use Rattle.psac_ops.specs.declared.plain.Plain.{Plain}
use Rattle.psac_ops.specs.Value.{Value}
use Rattle.psac_ops.specs.Words.{words_of}
use Rattle.psac_slots.specs.Handles.{Member, word_of}
use Rattle.psac_laws.proofs.Places.{nat_is, nat_same, test_or, not_both}
use Rattle.psac_values.specs.declared.view.OwnedView.{OwnedView}
use Rattle.psac_values.specs.declared.view.KnownView.{KnownView}
use Rattle.psac_values.specs.declared.view.ValueView.{ValueView}
use Rattle.psac_values.specs.Steps.{Lacks}
use Rattle.psac_values.specs.Knowing.{Has, Knows, all_words}
use Rattle.psac_readers.specs.declared.view.LinkView.{LinkView}
use Rattle.psac_readers.specs.declared.view.ReadersView.{ReadersView}
use Rattle.psac_marks.specs.declared.view.MarksView.{MarksView}
use Rattle.psac_raise.specs.Raise.{IsSlot}
use Rattle.psac_trace.specs.Rights.{Sees}
use Rattle.psac_trace.specs.Raising.{AllBusy}
use Rattle.psac_trace.proofs.Heaps.{handle_or}
use Rattle.psac_repair.specs.Watched.{Woken}

-- lists of words are the same, or they aren't
words_or : (us ws : List ℕ) → (us ≡ ws) ⊎ (us ≢ ws)
words_or [] [] = inl refl
words_or [] (y ∷ ys) = inr (λ e. absurd cc)
words_or (x ∷ xs) [] = inr (λ e. absurd cc)
words_or (x ∷ xs) (y ∷ ys) =
    elim (test_or (x == y)) [
      | inr d ↦ inr (λ e. let h : x ≡ y = cc in not_both (ap (λ z. x == z) (sym h) ∙ nat_same x) d)
      | inl d ↦
          elim (words_or xs ys) [
            | inl e ↦ inl (ap (λ z. z ∷ xs) (nat_is x y d) ∙ ap (λ z. y ∷ z) e)
            | inr n ↦ inr (λ e. let h : xs ≡ ys = cc in n h)
          ]
    ]

-- all that was written of the modifiable has these words, or something hasn't
others_or : (h : Handle) (us : List ℕ) (ws : List (Handle × Plain)) → ((x : Plain) → Member (h, x) ws → us ≡ words_of x) ⊎ ((x : Plain) × Member (h, x) ws × (us ≢ words_of x))
others_or h us [] = inl (λ x i. absurd i)
others_or h us (w ∷ ws) =
    elim (others_or h us ws) [
      | inr o ↦ inr (o.0, inr o.1, o.2)
      | inl all ↦
          elim (handle_or w.0 h) [
            | inr d ↦ inl (λ x i. ⊎_elim (λ (e : w ≡ (h, x)). absurd (d.0 (ap (λ (z : Handle × Plain). z.0) e))) (λ (j : Member (h, x) ws). all x j) i)
            | inl e ↦
                elim (words_or us (words_of w.1)) [
                  | inl f ↦ inl (λ x i. ⊎_elim (λ (g : w ≡ (h, x)). f ∙ ap (λ (z : Handle × Plain). words_of z.1) g) (λ (j : Member (h, x) ws). all x j) i)
                  | inr f ↦ inr (w.1, inl (ap (λ z. (z, w.1)) e), f)
                ]
          ]
    ]

written_or : (h : Handle) (ws : List (Handle × Plain)) → ((x : Plain) × Member (h, x) ws) ⊎ ((x : Plain) → Member (h, x) ws → ⊥)
written_or h [] = inr (λ x i. i)
written_or h (w ∷ ws) =
    elim (handle_or w.0 h) [
      | inl e ↦ inl (w.1, inl (ap (λ z. (z, w.1)) e))
      | inr d ↦
          elim (written_or h ws) [
            | inl o ↦ inl (o.0, inr o.1)
            | inr none ↦ inr (λ x i. ⊎_elim (λ (e : w ≡ (h, x)). d.0 (ap (λ (z : Handle × Plain). z.0) e)) (λ (j : Member (h, x) ws). none x j) i)
          ]
    ]

-- a modifiable that is lacked isn't seen
pub not_lacked : (v : ValueView) (h : Handle) (us : List ℕ) → Knows v h us → Lacks v h.slot → ⊥
not_lacked v h us k l =
    ⊎_elim
    (λ (a : (w : OwnedView) × Member w v.mine × (w.of ≡ h) × (w.words ≡ all_words us)). l.mine a.0 a.1 (ap (λ (z : Handle). z.slot) a.2))
    (λ (a : (e : KnownView) × Member e v.known × (e.of ≡ h) × (e.words ≡ all_words us)). l.known a.0 a.1 (ap (λ (z : Handle). z.slot) a.2))
    k

module _ (r q : ReadersView) (v u : ValueView) (n : MarksView) (us : List ℕ) (ws : List (Handle × Plain))
    (stays : (m : Handle) (ks : List ℕ) → Knows v m ks → ((x : Plain) → Member (m, x) ws → ⊥) → Knows u m ks)
    (learned : (m : Handle) (ks : List ℕ) → Knows u m ks → Knows v m ks ⊎ (((x : Plain) × Member (m, x) ws × (ks ≡ words_of x)) ⊎ Lacks v m.slot))
    (seen : (m : Handle) (x : Plain) → Member (m, x) ws → (y : Value Handle) × Sees u m y)
    (warned : (m : Handle) (x : Plain) (ks : List ℕ) → Member (m, x) ws → Knows v m ks → ks ≢ words_of x → Has v m × AllBusy q n m.slot)
    (stay : (l : LinkView) (h : Handle) → Member l r.links → l.node ≡ Some (word_of h) → IsSlot h.slot → Member h.slot us → Member l q.links) where
  run_knows : (h : Handle) (x : Value Handle) → Sees v h x → (y : Value Handle) × Sees u h y
  run_knows h x s =
      elim (written_or h ws) [
        | inl o ↦ seen h o.0 o.1
        | inr none ↦ (x, (s.0, s.1, stays h s.0 s.2 none, s.3, s.4))
      ]

  known_back : (h : Handle) (x : Value Handle) (s : Sees v h x) → ((z : Plain) → Member (h, z) ws → s.0 ≡ words_of z) → (y : Value Handle) → Sees u h y → Sees v h y
  known_back h x s all y t =
      elim (learned h t.0 t.2) [
        | inl k ↦ (t.0, t.1, k, t.3, t.4)
        | inr o ↦
            elim o [
              | inl w ↦ (t.0, t.1, subst (Knows v h) (all w.0 w.1 ∙ sym w.2) s.2, t.3, t.4)
              | inr l ↦ absurd (not_lacked v h s.0 s.2 l)
            ]
      ]

  pub woken_run : Woken r v u n us
  woken_run =
      record {
        knows = run_knows;
        same = λ h x s. elim (others_or h s.0 ws) [
          | inl all ↦ inl (known_back h x s all)
          | inr o ↦ (let b = warned h o.0 s.0 o.1 s.2 o.2 in inr (b.0, λ l g i e d w low j. b.1 l g (stay l g i w low j) e d w low))
        ];
      }
