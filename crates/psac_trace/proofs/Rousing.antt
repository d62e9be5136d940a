-- What a warning before a write does to a pass.
use Rattle.std.proofs.lemmas.Grind.{common_steps}
use Rattle.std.proofs.Common.{◌≡◌, ◌≢◌, ℕ, zero, suc, ◌+◌, ◌≤◌, ◌<◌, ◌==◌, drop, map, List, [], ◌∷◌, ◌++◌, Some, refl, ap, sym, ◌∙◌, subst, inl, inr, ⊎_elim, arith}
use Rattle.std.specs.Prelude.{sum_by}
use Rattle.psac_ops.specs.declared.plain.Handle.{Handle}
use Rattle.psac_ops.specs.declared.plain.Plain.{Plain}
use Rattle.psac_ops.specs.Named.{value_of}
use Rattle.psac_ops.specs.Words.{words_of, of_words}
use Rattle.psac_slots.specs.Handles.{Member}
use Rattle.psac_slots.specs.Claiming.{times}
use Rattle.psac_values.specs.declared.view.ValueView.{ValueView}
use Rattle.psac_values.specs.Knowing.{Has, Knows, wrote}
use Rattle.psac_readers.specs.declared.view.ReadersView.{ReadersView}
use Rattle.psac_readers.specs.Chained.{named, mods_of}
use Rattle.psac_readers.specs.Steps as readers
use Rattle.psac_marks.specs.declared.view.MarksView.{MarksView}
use Rattle.psac_fork.specs.declared.tables.Pass.{Pass}
use Rattle.psac_fork.specs.declared.tables.Tables.{Tables}
use Rattle.psac_fork.specs.Whole.{IsOf, HasRoom}
use Rattle.psac_record.specs.Kept.{Stands}
use Rattle.psac_trace.specs.Rights.{Sees, Tidy}
use Rattle.psac_trace.specs.Fit.{Fit}
use Rattle.psac_trace.specs.Grown.{MoreClaims, MoreLinks, as_link, nothing, claims_in, count, Moves}
use Rattle.psac_trace.specs.Raising.{Raises, Roused, AllBusy}
use Rattle.psac_values.specs.Steps.{looked}
use Rattle.psac_readers.specs.declared.view.WalkView.{WalkView}
use Rattle.psac_raise.specs.Raise.{with_marks, Raised}
use Rattle.psac_laws.proofs.Places.{nat_is, nat_same, test_or, not_both}
use Rattle.psac_trace.proofs.Claims.{append_none, claims_same, times_append}
use Rattle.psac_trace.proofs.Growing.{values_looked, nodes_same}
use Rattle.psac_trace.proofs.Fitting.{sets_values, sets_links, rooted_same}
use Rattle.psac_trace.proofs.Moving.{each_cap, BesideValues}
use Rattle.psac_trace.proofs.Views.{kept_looked, wrote_has, wrote_here, value_is}
use Rattle.psac_trace.proofs.Raised.{wrote_knows}

has_walk : (v u : ReadersView) → mods_of u.walk ≡ mods_of v.walk → u.shared ≡ v.shared → (x : ℕ) → readers.Has x v → readers.Has x u
has_walk v u walk shared x h =
    ⊎_elim
    (λ (i : Member x (mods_of v.walk)). inl (subst (Member x) (sym walk) i))
    (λ i. inr (i.0, subst (Member i.0) (sym shared) i.1, i.2))
    h

module _ (t : Tables) (olds : List Handle) (m : Handle) (ws : List ℕ) (p q : Pass) (tidy : Tidy p.values.knows) (fit : Fit p) (r : Roused t olds m ws p q) where
  roused_links : MoreLinks p.readers.knows q.readers.knows []
  roused_links =
      record {
        branch = ap (λ z. z.branch) r.claims;
        mods = r.mods;
        links = λ g. let a = ap (sum_by g) r.links in let b : sum_by (λ (s : Stands). g (as_link s)) [] ≡ 0 = refl in omega (arith, a, b);
        once = λ l h. let a : sum_by (λ (s : Stands). named l (as_link s)) [] ≡ 0 = refl in absurd (omega (arith, a, h));
        walk = λ g. ap (sum_by g) r.walk;
        shared = r.shared;
      }

  pub moves_roused : Moves t p q nothing
  moves_roused =
      let k = kept_looked p.values.knows q.values.knows r.looked tidy in
      let e = r.marks.2 in
      record {
        of = r.of;
        stays = k;
        fit = record {
          sets = sets_values p.values.knows q.values.knows q.readers.knows (λ n h. subst (λ z. Has z n) r.looked.1 h) k.known (ap (λ (z : ValueView). z.claims.list) r.looked.1) k.fixed
              (sets_links p.values.knows p.readers.knows q.readers.knows r.mods (has_walk p.readers.knows q.readers.knows r.walk r.shared) r.shared (ap (λ z. z.branch) r.claims) fit.sets);
          nodes = rooted_same p.marks.knows q.marks.knows (ap (λ (z : MarksView). z.own) e) (ap (λ (z : MarksView). z.shared) e) (ap (λ (z : MarksView). z.dropped) e) (ap (λ (z : MarksView). z.claims.branch) e) fit.nodes;
        };
        claims = each_cap (λ c. MoreClaims (claims_in c p) (claims_in c q) (count c nothing))
            (claims_same p.marks.knows.claims q.marks.knows.claims (ap (λ (z : MarksView). z.claims) e))
            (claims_same p.values.knows.claims q.values.knows.claims (ap (λ (z : ValueView). z.claims) r.looked.1))
            (claims_same p.readers.knows.claims q.readers.knows.claims r.claims);
        values = values_looked p.values.knows q.values.knows r.looked;
        nodes = nodes_same p.marks.knows q.marks.knows (ap (λ (z : MarksView). z.own) e) (ap (λ (z : MarksView). z.claims.held) e) (ap (λ (z : MarksView). z.shared) e) (ap (λ (z : MarksView). z.dropped) e) (ap (λ (z : MarksView). z.claims.branch) e);
        links = roused_links;
        marks = record {
          marked = λ x. let a = ap (λ (z : MarksView). times x z.marked) e in let b = times_append x p.marks.knows.marked r.marks.0 in omega (arith, a, b);
          busy = λ x h.
              let a = ap (λ (z : MarksView). times x z.marked) e in
              let b = times_append x p.marks.knows.marked r.marks.0 in
              let c = ap (λ (z : MarksView). times x z.busy) e in
              let d = times_append x p.marks.knows.busy r.marks.1 in
              ⊎_elim (λ (i : 0 < times x p.marks.knows.marked). inl (omega (arith, a, b, i))) (λ (i : 0 < times x p.marks.knows.busy). inr (omega (arith, c, d, i))) h;
          asks = ap (λ (z : MarksView). z.asks) e;
        };
      }

  pub roused_room : HasRoom p → HasRoom q
  roused_room h = (ap (λ (z : ValueView). z.claims.over) r.looked.1 ∙ h.0, ap (λ z. z.over) r.claims ∙ h.1, ap (λ (z : MarksView). z.claims.over) r.marks.2 ∙ h.2)

  -- and the write
  module _ (x : Plain) (words : ws ≡ words_of x) (us : List ℕ) (back : of_words us ≡ Some x) (mine : Has q.values.knows m) (q' : Pass) (be : BesideValues q q') (wr : q'.values.knows ≡ wrote m.slot us q.values.knows) where
    at_one_put : (n : Handle) (y : Plain) → Member {A = Handle × Plain} (n, y) ((m, x) ∷ []) → (m ≡ n) × (x ≡ y)
    at_one_put n y i = ⊎_elim (λ (e : (m, x) ≡ (n, y)). (ap (λ (z : Handle × Plain). z.0) e, ap (λ (z : Handle × Plain). z.1) e)) (λ (b : ⊥). absurd b) i

    pub raises_put : Raises olds p q' ((m, x) ∷ [])
    raises_put =
        let marks_are = ap (λ z. z.knows) be.marks in
        record {
          warned = λ n y vs o i k d.
              let e = at_one_put n y i in
              let o' = subst (λ z. Member z olds) (sym e.0) o in
              let k' = subst (λ z. Knows p.values.knows z vs) (sym e.0) k in
              let d' : vs ≢ ws = λ z. d (z ∙ words ∙ ap words_of e.1) in
              subst (λ z. AllBusy p.readers.knows q'.marks.knows z) (ap (λ (z : Handle). z.slot) e.0) (subst (λ (z : MarksView). AllBusy p.readers.knows z m.slot) (sym marks_are) (r.warned vs o' k' d'));
          only = λ ns h y less.
              r.only ns (λ o k n. h m x o (inl refl) (n x words)) y (subst (λ (z : MarksView). times y p.marks.knows.marked < times y z.marked) marks_are less);
          stays = λ n vs k away.
              let k' = subst (λ z. Knows z n vs) (sym r.looked.1) k in
              subst (λ z. Knows z n vs) (sym wr) (wrote_knows q.values.knows m us (kept_looked p.values.knows q.values.knows r.looked tidy).tidy mine n vs (λ e. away x (inl (ap (λ z. (z, x)) e))) k');
          owned = λ n y i.
              let e = at_one_put n y i in
              subst (Has q'.values.knows) e.0 (subst (λ z. Has z m) (sym wr) (wrote_has q.values.knows m us (kept_looked p.values.knows q.values.knows r.looked tidy).tidy mine m mine));
          told = λ n y i.
              let e = at_one_put n y i in
              let here = wrote_here q.values.knows m us (kept_looked p.values.knows q.values.knows r.looked tidy).tidy mine x back in
              subst (λ z. Sees q'.values.knows z (value_of y)) e.0
              (subst (λ z. Sees q'.values.knows m (value_of z)) e.1 (subst (λ z. Sees z m (value_of x)) (sym wr) here));
        }

-- members by their places in a list, and by how often they stand there
pub drop_member : {A : Type 0} (x : A) (xs : List A) (i : ℕ) → Member x (drop i xs) → Member x xs
drop_member x [] zero h = absurd h
drop_member x [] (suc i) h = absurd h
drop_member x (y ∷ xs) zero h = h
drop_member x (y ∷ xs) (suc i) h = inr (drop_member x xs i h)

pub time_in : (y : ℕ) (xs : List ℕ) → 0 < times y xs → Member y xs
time_in y [] h = absurd (let z : times y [] ≡ 0 = refl in omega (arith, h, z))
time_in y (x ∷ xs) h =
    elim (test_or (x == y)) [
      | inl e ↦ inl (nat_is x y e)
      | inr e ↦
          (let a = times_append y (x ∷ []) xs in
          let far : times y (x ∷ []) ≡ 0 = other y x (λ z. not_both (ap (λ n. n == y) z ∙ nat_same y) e) in
          inr (time_in y xs (omega (arith, a, far, h))))
    ]
  where
    other : (x y : ℕ) → (y ≡ x → ⊥) → times x (y ∷ []) ≡ 0
    other x y d = grind (arith, common_steps)

one_look : (v u : ValueView) → u ≡ looked v → (n : ℕ) × (n ≤ 1) × (u.looks ≡ v.looks + n)
one_look v u look = let e : u.looks ≡ suc v.looks = ap (λ (z : ValueView). z.looks) look in (1, omega arith, omega (arith, e))

-- with no old destination nothing is done, and with the same words the pass looks
module _ (t : Tables) (olds : List Handle) (m : Handle) (ws : List ℕ) (p q : Pass) (of : IsOf p t) where
  none_more : (n : MarksView) → n ≡ with_marks [] [] n
  none_more n = sym (ap (λ z. record n { marked = z; busy = n.busy ++ [] }) (append_none n.marked) ∙ ap (λ z. record n { busy = z }) (append_none n.busy))

  pub rouse_none : (Member m olds → ⊥) → Roused t olds m ws p p
  rouse_none away =
      record {
        of = of;
        looked = (p.values.knows.looks, refl);
        looks = (0, omega arith, omega arith);
        claims = refl;
        mods = refl;
        walk = refl;
        shared = refl;
        links = refl;
        marks = ([], [], none_more p.marks.knows);
        warned = λ us o k d. absurd (away o);
        only = λ ns h y less. absurd (omega (arith, less));
      }

  module _ (be : BesideValues p q) (before : List ℕ) (words : (us : List ℕ) → Knows p.values.knows m us → before ≡ us) (look : q.values.knows ≡ looked p.values.knows) where
    pub rouse_looked : before ≡ ws → Roused t olds m ws p q
    rouse_looked same =
        let readers_are = ap (λ z. z.knows) be.readers in
        let marks_are = ap (λ z. z.knows) be.marks in
        record {
          of = (be.table ∙ of.0, subst (λ z. z.table ≡ t.readers) (sym be.readers) of.1, subst (λ z. z.table ≡ t.marks) (sym be.marks) of.2);
          looked = (suc p.values.knows.looks, look);
          looks = one_look p.values.knows q.values.knows look;
          claims = ap (λ (z : ReadersView). z.claims) readers_are;
          mods = ap (λ (z : ReadersView). z.mods) readers_are;
          walk = ap (λ (z : ReadersView). mods_of z.walk) readers_are;
          shared = ap (λ (z : ReadersView). z.shared) readers_are;
          links = ap (λ (z : ReadersView). z.links) readers_are;
          marks = ([], [], marks_are ∙ none_more p.marks.knows);
          warned = λ us o k d. absurd (d (sym (words us k) ∙ same));
          only = λ ns h y less. absurd (let z = ap (λ (v : MarksView). times y v.marked) marks_are in omega (arith, less, z));
        }

  -- and else its readers are raised
  learned_mods : (s : ℕ) (chain : List ℕ) (ws : List WalkView) → mods_of (map (readers.learn s chain) ws) ≡ mods_of ws
  learned_mods s chain [] = refl
  learned_mods s chain (e ∷ es) = ap (λ z. e.of ∷ z) (learned_mods s chain es)

  module _ (before : List ℕ) (words : (us : List ℕ) → Knows p.values.knows m us → before ≡ us) (look : q.values.knows ≡ looked p.values.knows) (of_q : IsOf q t) (chain : List ℕ) (sets : q.readers.knows ≡ readers.learned m.slot chain p.readers.knows) (r : Raised p.readers.knows m.slot p.marks.knows q.marks.knows) where
    pub rouse_raised : Member m olds → (before ≡ ws → ⊥)
        → ((x : Plain) → ws ≡ words_of x → of_words before ≡ Some x → ⊥) → Roused t olds m ws p q
    rouse_raised o differ apart =
        record {
          of = of_q;
          looked = (suc p.values.knows.looks, look);
          looks = one_look p.values.knows q.values.knows look;
          claims = ap (λ (z : ReadersView). z.claims) sets;
          mods = ap (λ (z : ReadersView). z.mods) sets;
          walk = ap (λ (z : ReadersView). mods_of z.walk) sets ∙ learned_mods m.slot chain p.readers.knows.walk;
          shared = ap (λ (z : ReadersView). z.shared) sets;
          links = ap (λ (z : ReadersView). z.links) sets;
          marks = (r.marks, r.found, r.becomes);
          warned = λ us i k d n h j at s node low. r.warned n h j at s node low;
          only = λ ns h y less.
              let a = ap (λ (z : MarksView). times y z.marked) r.becomes in
              let b = times_append y p.marks.knows.marked r.marks in
              let other : (x : Plain) → ws ≡ words_of x → Sees p.values.knows m (value_of x) → ⊥ =
              λ x e s. apart x e (ap of_words (words s.0 s.2) ∙ s.3 ∙ ap (λ z. Some z) (value_is s.1 x s.4)) in
              r.within ns (h o (λ k. differ (words ws k)) other) y (time_in y r.marks (omega (arith, a, b, less)));
        }
