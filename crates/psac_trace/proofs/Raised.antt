-- What one call after another raised.
use Rattle.std.specs.Prelude.{cond}
use Rattle.std.proofs.Common.{◌≡◌, ◌≢◌, ◌⊎◌, ◌==◌, false, ℕ, ◌-◌, ◌<◌, Some, None, List, [], ◌∷◌, ◌++◌, map, Some, ap, sym, ◌∙◌, subst, inl, inr, ⊎_elim, arith, append_assoc}
use Rattle.psac_ops.specs.declared.plain.Handle.{Handle}
use Rattle.psac_ops.specs.declared.plain.Plain.{Plain}
use Rattle.psac_ops.specs.Value.{Value}
use Rattle.psac_ops.specs.Named.{value_of, same_handle}
use Rattle.psac_slots.specs.Handles.{Member}
use Rattle.psac_slots.specs.Claiming.{times}
use Rattle.psac_slots.proofs.Pairs.{member_left, member_right, member_cases}
use Rattle.psac_values.specs.declared.view.ValueView.{ValueView}
use Rattle.psac_values.specs.declared.view.OwnedView.{OwnedView}
use Rattle.psac_values.specs.declared.view.KnownView.{KnownView}
use Rattle.psac_values.specs.Knowing.{Has, Knows, all_words}
use Rattle.psac_raise.specs.Raise.{LeadUpIn}
use Rattle.psac_fork.specs.declared.tables.Pass.{Pass}
use Rattle.psac_fork.specs.declared.tables.Tables.{Tables}
use Rattle.psac_traced.specs.Rec.{writes}
use Rattle.psac_traced.specs.Holds.{EachOf, Holds}
use Rattle.psac_record.specs.declared.parts.Seen.{Seen}
use Rattle.psac_record.specs.Kept.{Kept, E, A, W, S, P, R, Stands, stands, links_of, bare, reads_of}
use Rattle.psac_trace.specs.Rights.{Heap, held, In, Within, Sees, Shares, Tidy}
use Rattle.psac_trace.specs.Grown.{MoreMarks, Made, Moves}
use Rattle.psac_trace.specs.Told.{Ended, Good, Fault, Other, Follows}
use Rattle.psac_trace.specs.Raising.{Calm, Only, puts, Raises, RaisesBy}
use Rattle.psac_values.specs.Steps.{Lacks, new_owned}
use Rattle.psac_values.specs.Knowing.{Claims, wrote, rewritten}
use Rattle.psac_slots.proofs.Pairs.{map_member}
use Rattle.psac_laws.proofs.Places.{nat_is, not_true}
use Rattle.psac_trace.specs.Asking.{Looked}
use Rattle.psac_trace.specs.Running.{Opens}
use Rattle.psac_trace.proofs.Moving.{BesideValues}
use Rattle.psac_trace.proofs.Views.{mine_is, known_is}
use Rattle.psac_trace.proofs.Heaps.{Fresh, in_front, in_back, in_and_none, at_one}
use Rattle.psac_trace.proofs.Leading.{leads_on, link_on, link_from, lead_up_in, busy_on, zero_or}

-- what is known of a modifiable, as owned or as shared
pub knows_cases : {X : Type 0} (v : ValueView) (m : Handle) (us : List ℕ) → (Has v m → X) → (Shares v m → X) → Knows v m us → X
knows_cases v m us f g k =
    ⊎_elim
    (λ (a : (w : OwnedView) × Member w v.mine × (w.of ≡ m) × (w.words ≡ all_words us)). f (a.0, a.1, a.2))
    (λ (a : (e : KnownView) × Member e v.known × (e.of ≡ m) × (e.words ≡ all_words us)). g (a.0, a.1, a.2))
    k

-- what a record wrote stands in its writes
pub puts_in : (k : Kept) (m : Handle) (x : Plain) → Member (m, x) (puts k) → In (writes (bare k)) m
puts_in E m x i = absurd i
puts_in (A n rest) m x i = puts_in rest m x i
puts_in (W n v rest) m x i =
    ⊎_elim
    (λ (e : (n, v) ≡ (m, x)). in_back (writes (bare rest)) ((n, value_of v) ∷ []) m (subst (In ((n, value_of v) ∷ [])) (ap (λ (z : Handle × Plain). z.0) e) (value_of v, at_one n (value_of v))))
    (λ (j : Member (m, x) (puts rest)). in_front (writes (bare rest)) ((n, value_of v) ∷ []) m (puts_in rest m x j))
    i
puts_in (S node t rest) m x i =
    ⊎_elim
    (λ (j : Member (m, x) (puts t)). in_back (writes (bare rest)) (writes (bare t)) m (puts_in t m x j))
    (λ (j : Member (m, x) (puts rest)). in_front (writes (bare rest)) (writes (bare t)) m (puts_in rest m x j))
    (member_cases (m, x) (puts t) (puts rest) i)
puts_in (P node l r) m x i =
    ⊎_elim
    (λ (j : Member (m, x) (puts l)). in_back (writes (bare r)) (writes (bare l)) m (puts_in l m x j))
    (λ (j : Member (m, x) (puts r)). in_front (writes (bare r)) (writes (bare l)) m (puts_in r m x j))
    (member_cases (m, x) (puts l) (puts r) i)
puts_in (R reading t) m x i = puts_in t m x i

-- and what it read in a heap that has what it began with and what it wrote
pub seen_in : (base : Heap) (node : Handle) (reads : List Seen) → EachOf (λ m x. held base m ≡ Some x) (reads_of reads) → (s : Stands) → Member s (map (stands node) reads) → In base s.of
seen_in base node [] h s i = absurd i
seen_in base node (r ∷ reads) h s i =
    ⊎_elim
    (λ (e : stands node r ≡ s). subst (In base) (ap (λ (z : Stands). z.of) e) (value_of r.value, h.0))
    (λ (j : Member s (map (stands node) reads)). seen_in base node reads h.1 s j)
    i

pub links_in : (base : Heap) (k : Kept) → Holds same_handle base (bare k) → (s : Stands) → Member s (links_of k) → In (writes (bare k) ++ base) s.of
links_in base E h s i = absurd i
links_in base (A n rest) h s i = links_in base rest h s i
links_in base (W n v rest) h s i =
    subst (λ z. In z s.of) (sym (append_assoc (writes (bare rest)) ((n, value_of v) ∷ []) base)) (links_in ((n, value_of v) ∷ base) rest h s i)
links_in base (S node t rest) h s i =
    subst (λ z. In z s.of) (sym (append_assoc (writes (bare rest)) (writes (bare t)) base))
    (⊎_elim
    (λ (j : Member s (links_of t)). in_back (writes (bare rest)) (writes (bare t) ++ base) s.of (links_in base t h.0 s j))
    (λ (j : Member s (links_of rest)). links_in (writes (bare t) ++ base) rest h.1 s j)
    (member_cases s (links_of t) (links_of rest) i))
links_in base (P node l r) h s i =
    subst (λ z. In z s.of) (sym (append_assoc (writes (bare r)) (writes (bare l)) base))
    (⊎_elim
    (λ (j : Member s (links_of l)). in_back (writes (bare r)) (writes (bare l) ++ base) s.of (links_in base l h.0 s j))
    (λ (j : Member s (links_of r)). links_in (writes (bare l) ++ base) r h.1 s j)
    (member_cases s (links_of l) (links_of r) i))
links_in base (R reading t) h s i =
    ⊎_elim
    (λ (j : Member s (map (stands reading.node) reading.reads)). in_back (writes (bare t)) base s.of (seen_in base reading.node reading.reads h.0 s j))
    (λ (j : Member s (links_of t)). links_in base t h.1 s j)
    (member_cases s (map (stands reading.node) reading.reads) (links_of t) i)

-- nothing was raised, and all words are known as before
pub raises_none : (olds : List Handle) (p q : Pass) → q.marks.knows.marked ≡ p.marks.knows.marked → ((m : Handle) (us : List ℕ) → Knows p.values.knows m us → Knows q.values.knows m us) → Raises olds p q []
raises_none olds p q e f =
    record {
      warned = λ m x us o i. absurd i;
      only = λ ns h y l. absurd (let z = ap (times y) e in omega (arith, z, l));
      stays = λ m us k n. f m us k;
      owned = λ m x i. absurd i;
      told = λ m x i. absurd i;
    }

module _ (olds : List Handle) (t : Tables) (p u q : Pass) (a b : Made) (ws more : List (Handle × Plain)) (ma : Moves t p u a) (mb : Moves t u q b) (ra : Raises olds p u ws)
    (apart : (m : Handle) (x y : Plain) → Member (m, x) ws → Member (m, y) more → ⊥)
    (unread : (m : Handle) (x : Plain) → Member m olds → Member (m, x) more → (s : Stands) → Member s a.links → s.of.slot ≢ m.slot) where
  known_then : (m : Handle) (x : Plain) (us : List ℕ) → Member (m, x) more → Knows p.values.knows m us → Knows u.values.knows m us
  known_then m x us i k = ra.stays m us k (λ y j. apart m y x j i)

  sees_then : (m : Handle) (x : Plain) (y : Value Handle) → Member (m, x) more → Sees p.values.knows m y
      → Sees u.values.knows m y
  sees_then m x y i s = (s.0, s.1, known_then m x s.0 i s.2, s.3, s.4)

  lead_then : (m : Handle) (x : Plain) (ns : List ℕ) → Member m olds → Member (m, x) more → LeadUpIn p.readers.knows p.marks.knows ns m.slot → LeadUpIn u.readers.knows u.marks.knows ns m.slot
  lead_then m x ns o i l =
      lead_up_in p.readers.knows u.readers.knows p.marks.knows u.marks.knows m.slot
      (λ k j s e.
      elim (link_from p.readers.knows u.readers.knows a.links ma.links m.slot k j s e) [
        | inl old ↦ old
        | inr new ↦ absurd (unread m x o i new.0 new.1 new.2)
      ])
      (leads_on p.marks.knows u.marks.knows a.nodes ma.nodes ma.marks) ns l

  pub only_then : Only olds u q more → Only olds p q (ws ++ more)
  only_then ob ns h y l =
      let first = ra.only ns (λ m x o i d. h m x o (member_left (m, x) ws more i) d) y in
      let second = ob ns (λ m x o i d. lead_then m x ns o i (h m x o (member_right (m, x) ws more i) (λ s. d (sees_then m x (value_of x) i s)))) y in
      elim (less_or (times y p.marks.knows.marked) (times y u.marks.knows.marked) (times y q.marks.knows.marked) l) [
        | inl z ↦ first z
        | inr z ↦ second z
      ]
    where
      less_or : (i j k : ℕ) → i < k → (i < j) ⊎ (j < k)
      less_or i j k h = elim (zero_or (j - i)) [ inl z ↦ inr (omega (arith, z, h)) | inr z ↦ inl (omega (arith, z)) ]

  pub raises_then : Raises olds u q more → Raises olds p q (ws ++ more)
  raises_then rb =
      record {
        warned = λ m x us o i k d.
            elim (member_cases (m, x) ws more i) [
              | inl j ↦ (λ n h z s e w low. mb.marks.busy h.slot (ra.warned m x us o j k d n h z s e w low))
              | inr j ↦
                  busy_on p.readers.knows u.readers.knows q.marks.knows q.marks.knows m.slot
                  (λ n z s e. link_on p.readers.knows u.readers.knows a.links ma.links m.slot n z s e)
                  (λ n z. z)
                  (rb.warned m x us o j (known_then m x us j k) d)
            ];
        only = only_then rb.only;
        stays = λ m us k n. rb.stays m us (ra.stays m us k (λ x i. n x (member_left (m, x) ws more i))) (λ x i. n x (member_right (m, x) ws more i));
        owned = λ m x i.
            elim (member_cases (m, x) ws more i) [
              | inl j ↦ mb.stays.mine m (ra.owned m x j)
              | inr j ↦ rb.owned m x j
            ];
        told = λ m x i.
            elim (member_cases (m, x) ws more i) [
              | inl j ↦ (let s = ra.told m x j in (s.0, s.1, rb.stays m s.0 s.2 (λ y k. apart m x y j k), s.3, s.4))
              | inr j ↦ rb.told m x j
            ];
      }

-- what is read and what is written later stand in different slots
pub slots_apart : (v : ValueView) → Tidy v → (n m : Handle) (x : Value Handle) → Sees v n x → Has v m → (n ≡ m → ⊥) → n.slot ≢ m.slot
slots_apart v t n m x s h d e =
    knows_cases v n s.0
    (λ (a : Has v n). d (t.single n m a h e))
    (λ (a : Shares v n). t.apart m n h a (sym e))
    s.2

-- of the rest of a body, behind a part that wrote these
pub record Sequel (base : Heap) (v : ValueView) (ws more : Heap) : Type 0 where
  pub begun : Fresh ws base
  pub fresh : Fresh more (ws ++ base)
  pub sees : Within (ws ++ base) (Sees v)

module _ (base : Heap) (t k : Kept) (q : Pass) (s : Sequel base q.values.knows (writes (bare t)) (writes (bare k))) where
  pub sequel_apart : (m : Handle) (x y : Plain) → Member (m, x) (puts t) → Member (m, y) (puts k) → ⊥
  sequel_apart m x y i j =
      in_and_none (writes (bare t) ++ base) m (in_front (writes (bare t)) base m (puts_in t m x i)) (s.fresh m (puts_in k m y j))

  pub sequel_unread : Tidy q.values.knows → (m : Handle) (x : Plain) → Member (m, x) (puts k) → Has q.values.knows m → (n : Handle) → In (writes (bare t) ++ base) n → n.slot ≢ m.slot
  sequel_unread tidy m x i h n o =
      slots_apart q.values.knows tidy n m o.0 (s.sees n o.0 o.1) h (λ e. in_and_none (writes (bare t) ++ base) m (subst (In (writes (bare t) ++ base)) e o) (s.fresh m (puts_in k m x i)))

-- ends
calm_only : (olds : List Handle) (p q : Pass) → MoreMarks p.marks.knows q.marks.knows → (ws : List (Handle × Plain)) → Only olds p q ws → Calm olds p q
calm_only olds p q grow ws only none y =
    let i = times y p.marks.knows.marked in
    let j = times y q.marks.knows.marked in
    let g = grow.marked y in
    elim (zero_or (j - i)) [
      | inl z ↦ omega (arith, z, g)
      | inr z ↦ absurd (only [] (λ m x o n d. absurd (subst (Member m) none o)) y (omega (arith, z)))
    ]

pub calm_by : (olds : List Handle) (p q : Pass) → MoreMarks p.marks.knows q.marks.knows → (e : Ended Kept) → RaisesBy olds p q e → Calm olds p q
calm_by olds p q grow (Good k) r = calm_only olds p q grow (puts k) r.only
calm_by olds p q grow (Fault k i n) r = calm_only olds p q grow (puts k) r
calm_by olds p q grow (Other k why) r = r

pub calm_then : (olds : List Handle) (p u q : Pass) → Calm olds p u → Calm olds u q → Calm olds p q
calm_then olds p u q a b e y = b e y ∙ a e y

pub raises_follows : (olds : List Handle) (p q : Pass) → MoreMarks p.marks.knows q.marks.knows → (e o : Ended Kept) → Follows e o → RaisesBy olds p q e → RaisesBy olds p q o
raises_follows olds p q grow e (Good k) f r = subst (RaisesBy olds p q) f r
raises_follows olds p q grow e (Fault k i n) f r = subst (RaisesBy olds p q) f r
raises_follows olds p q grow e (Other k (Some c)) f r = subst (RaisesBy olds p q) f r
raises_follows olds p q grow e (Other k None) f r = calm_by olds p q grow e r

-- in front of a part that wrote nothing
pub raises_before : (olds : List Handle) (t : Tables) (p u q : Pass) (a b : Made) (ws : List (Handle × Plain)) → Moves t p u a → Moves t u q b → Raises olds p u [] → ((m : Handle) (x : Plain) → Member m olds → Member (m, x) ws → (s : Stands) → Member s a.links → s.of.slot ≢ m.slot) → Raises olds u q ws → Raises olds p q ws
raises_before olds t p u q a b ws ma mb none unread r = raises_then olds t p u q a b [] ws ma mb none (λ m x y i j. absurd i) unread r

pub only_before : (olds : List Handle) (t : Tables) (p u q : Pass) (a b : Made) (ws : List (Handle × Plain)) → Moves t p u a → Moves t u q b → Raises olds p u [] → ((m : Handle) (x : Plain) → Member m olds → Member (m, x) ws → (s : Stands) → Member s a.links → s.of.slot ≢ m.slot) → Only olds u q ws → Only olds p q ws
only_before olds t p u q a b ws ma mb none unread r = only_then olds t p u q a b [] ws ma mb none (λ m x y i j. absurd i) unread r

-- and in front of a part that marked nothing
pub only_calm : (olds : List Handle) (p u q : Pass) (ws more : List (Handle × Plain)) → Only olds p u ws → ((y : ℕ) → times y q.marks.knows.marked ≡ times y u.marks.knows.marked) → Only olds p q (ws ++ more)
only_calm olds p u q ws more only same ns h y l =
    only ns (λ m x o i d. h m x o (member_left (m, x) ws more i) d) y (let e = same y in omega (arith, l, e))

pub only_none : (olds : List Handle) (p q : Pass) (ws : List (Handle × Plain)) → ((y : ℕ) → times y q.marks.knows.marked ≡ times y p.marks.knows.marked) → Only olds p q ws
only_none olds p q ws same ns h y l = absurd (let e = same y in omega (arith, l, e))

pub raises_opened : (olds : List Handle) (t : Tables) (p u : Pass) (a : Made) → Opens t p u a → Raises olds p u []
raises_opened olds t p u a op = raises_none olds p u op.quiet (λ m us k. subst (λ v. Knows v m us) (sym op.same) k)

pub raises_looked : (olds : List Handle) (p u : Pass) → BesideValues p u → Looked p.values.knows u.values.knows → Raises olds p u []
raises_looked olds p u be l = raises_none olds p u (ap (λ z. z.knows.marked) be.marks) (λ m us k. subst (λ v. Knows v m us) (sym l.1) k)

pub claimed_knows : (v u : ValueView) (m : Handle) → Claims v m u → Lacks v m.slot → (n : Handle) (us : List ℕ) → Knows v n us → Knows u n us
claimed_knows v u m c l n us k =
    ⊎_elim
    (λ (a : (w : OwnedView) × Member w v.mine × (w.of ≡ n) × (w.words ≡ all_words us)). inl (a.0, subst (Member a.0) (sym (mine_is v u m c l)) (member_left a.0 v.mine (new_owned v.fixed c.1 ∷ []) a.1), a.2, a.3))
    (λ (a : (e : KnownView) × Member e v.known × (e.of ≡ n) × (e.words ≡ all_words us)). inr (a.0, subst (Member a.0) (sym (known_is v u m c l)) a.1, a.2, a.3))
    k

pub wrote_knows : (v : ValueView) (m : Handle) (ws : List ℕ) → Tidy v → Has v m → (n : Handle) (us : List ℕ) → (m ≡ n → ⊥) → Knows v n us → Knows (wrote m.slot ws v) n us
wrote_knows v m ws t mine n us d k =
    ⊎_elim
    (λ (a : (w : OwnedView) × Member w v.mine × (w.of ≡ n) × (w.words ≡ all_words us)).
    let far : (a.0.of.slot == m.slot) ≡ false = not_true (a.0.of.slot == m.slot) (λ e. d (t.single m n mine (a.0, a.1, a.2) (sym (nat_is a.0.of.slot m.slot e) ∙ ap (λ (z : Handle). z.slot) a.2))) in
    inl (rewritten m.slot ws a.0, map_member (rewritten m.slot ws) a.0 v.mine a.1, a.2, ap (λ b. cond b (all_words ws) a.0.words) far ∙ a.3))
    (λ (a : (e : KnownView) × Member e v.known × (e.of ≡ n) × (e.words ≡ all_words us)). inr a)
    k
