-- Which reads stand below a node of a record, and what each read of a record tells.
use Rattle.std.proofs.Common.{◌≡◌, ◌≢◌, ◌⊎◌, ℕ, List, [], ◌∷◌, ◌++◌, map, Option, Some, IfSome, refl, sym, subst}
use Rattle.std.proofs.Common.{inl, inr, ⊎_elim}
use Rattle.psac_ops.specs.declared.plain.Handle.{Handle}
use Rattle.psac_ops.specs.Value.{Value}
use Rattle.psac_ops.specs.Named.{value_of}
use Rattle.psac_slots.specs.Handles.{Member}
use Rattle.psac_slots.proofs.Pairs.{member_left, member_right, member_cases}
use Rattle.psac_values.specs.declared.view.ValueView.{ValueView}
use Rattle.psac_marks.specs.declared.view.MarksView.{MarksView}
use Rattle.psac_raise.specs.Raise.{LeadsIn}
use Rattle.psac_model.specs.Tree.{Reads}
use Rattle.psac_traced.specs.Rec as rec
use Rattle.psac_traced.specs.Rec.{Rec}
use Rattle.psac_traced.specs.Holds.{EachOf, EachRead}
use Rattle.psac_record.specs.declared.parts.Seen.{Seen}
use Rattle.psac_record.specs.Kept.{Kept as Tree, E, A, W, S, P, R, Stands, stands, links_of, reads_of, bare}
use Rattle.psac_trace.specs.Rights.{Sees}
use Rattle.psac_repair.specs.Seen.{Known}
use Rattle.psac_repair.specs.Marks.{IsMarked, Nodes}
use Rattle.psac_repair.specs.Planted.{slots, Once}
use Rattle.psac_repair.specs.Watched.{Watched}
use Rattle.psac_repair.specs.Founded.{AllPresent, Founded}
use Rattle.psac_repair.proofs.Rewiring.{led_node, reads_node}

-- the read stands at the node in the slot, or below it
abbrev pub Beneath : Tree → ℕ → Stands → Type 0
Beneath E x s = ⊥
Beneath (A h r) x s = Beneath r x s
Beneath (W h v r) x s = Beneath r x s
Beneath (S n t r) x s = ((n.slot ≡ x) × Member s (links_of t ++ links_of r)) ⊎ (Beneath t x s ⊎ Beneath r x s)
Beneath (P n t r) x s = ((n.slot ≡ x) × Member s (links_of t ++ links_of r)) ⊎ (Beneath t x s ⊎ Beneath r x s)
Beneath (R b t) x s = ((b.node.slot ≡ x) × Member s (links_of (R b t))) ⊎ Beneath t x s

pub beneath_in : (k : Tree) (x : ℕ) (s : Stands) → Beneath k x s → Member x (slots k)
beneath_in E x s b = absurd b
beneath_in (A h r) x s b = beneath_in r x s b
beneath_in (W h v r) x s b = beneath_in r x s b
beneath_in (S n t r) x s (inl b) = inl b.0
beneath_in (S n t r) x s (inr b) =
    inr (⊎_elim (λ (c : Beneath t x s). member_left x (slots t) (slots r) (beneath_in t x s c))
    (λ (c : Beneath r x s). member_right x (slots t) (slots r) (beneath_in r x s c)) b)
beneath_in (P n t r) x s (inl b) = inl b.0
beneath_in (P n t r) x s (inr b) =
    inr (⊎_elim (λ (c : Beneath t x s). member_left x (slots t) (slots r) (beneath_in t x s c))
    (λ (c : Beneath r x s). member_right x (slots t) (slots r) (beneath_in r x s c)) b)
beneath_in (R b t) x s (inl c) = inl c.0
beneath_in (R b t) x s (inr c) = inr (beneath_in t x s c)

-- what doesn't stand below a node leads up past it
pub led_past : (m : MarksView) (ws : List ℕ) (x : ℕ) (k : Tree) → ((y : ℕ) → Member y (slots k) → y ≢ x → Member y ws)
    → (above : Option Handle) → Nodes m above k → IfSome above (λ c. LeadsIn m ws c.slot) → (s : Stands) → Member s
    (links_of k) → (Beneath k x s → ⊥) → LeadsIn m ws s.node.slot
led_past m ws x E all above ns up s i off = absurd i
led_past m ws x (A h r) all above ns up s i off = led_past m ws x r all above ns up s i off
led_past m ws x (W h v r) all above ns up s i off = led_past m ws x r all above ns up s i off
led_past m ws x (S n t r) all above ns up s i off =
    let here : LeadsIn m ws n.slot = led_node m ws above n ns.0 up (all n.slot (inl refl) (λ e. off (inl (e, i)))) in
    ⊎_elim
    (λ (j : Member s (links_of t)). led_past m ws x t (λ y a. all y (inr (member_left y (slots t) (slots r) a)))
    (Some n) ns.1 here s j (λ b. off (inr (inl b))))
    (λ (j : Member s (links_of r)). led_past m ws x r (λ y a. all y (inr (member_right y (slots t) (slots r) a)))
    (Some n) ns.2 here s j (λ b. off (inr (inr b))))
    (member_cases s (links_of t) (links_of r) i)
led_past m ws x (P n t r) all above ns up s i off =
    let here : LeadsIn m ws n.slot = led_node m ws above n ns.0 up (all n.slot (inl refl) (λ e. off (inl (e, i)))) in
    ⊎_elim
    (λ (j : Member s (links_of t)). led_past m ws x t (λ y a. all y (inr (member_left y (slots t) (slots r) a)))
    (Some n) ns.1 here s j (λ b. off (inr (inl b))))
    (λ (j : Member s (links_of r)). led_past m ws x r (λ y a. all y (inr (member_right y (slots t) (slots r) a)))
    (Some n) ns.2 here s j (λ b. off (inr (inr b))))
    (member_cases s (links_of t) (links_of r) i)
led_past m ws x (R b t) all above ns up s i off =
    let here : LeadsIn m ws b.node.slot = led_node m ws above b.node ns.0 up
    (all b.node.slot (inl refl) (λ e. off (inl (e, i)))) in
    ⊎_elim
    (λ (j : Member s (map (stands b.node) b.reads)). subst (λ (z : Handle). LeadsIn m ws z.slot)
    (sym (reads_node b.node b.reads s j)) here)
    (λ (j : Member s (links_of t)). led_past m ws x t (λ y a. all y (inr a)) (Some b.node) ns.1 here s j
    (λ c. off (inr c)))
    (member_cases s (map (stands b.node) b.reads) (links_of t) i)

-- two things of each read together tell a third
of_both : (F G K : Handle → Value Handle → Type 0) → ((m : Handle) (x : Value Handle) → F m x → G m x → K m x) →
    (rs : Reads Handle) → EachOf F rs → EachOf G rs → EachOf K rs
of_both F G K f [] a b = tt
of_both F G K f (r ∷ rs) a b = (f r.0 r.1 a.0 b.0, of_both F G K f rs a.1 b.1)

pub each_both : (F G K : Handle → Value Handle → Type 0) → ((m : Handle) (x : Value Handle) → F m x → G m x → K m x) →
    (r : Rec Handle) → EachRead F r → EachRead G r → EachRead K r
each_both F G K f rec.E a b = tt
each_both F G K f (rec.A m r) a b = each_both F G K f r a b
each_both F G K f (rec.W m v r) a b = each_both F G K f r a b
each_both F G K f (rec.S t r) a b = (each_both F G K f t a.0 b.0, each_both F G K f r a.1 b.1)
each_both F G K f (rec.P t r) a b = (each_both F G K f t a.0 b.0, each_both F G K f r a.1 b.1)
each_both F G K f (rec.R room block env reads t) a b = (of_both F G K f reads a.0 b.0, each_both F G K f t a.1 b.1)

-- of a read by its link
read_of : (Q : Handle → Value Handle → Type 0) (node : Handle) (reads : List Seen) → EachOf Q (reads_of reads) →
    (s : Stands) → Member s (map (stands node) reads) → (x : Value Handle) × Q s.of x
read_of Q node [] a s i = absurd i
read_of Q node (r ∷ rs) a s (inl e) = subst (λ (z : Stands). (x : Value Handle) × Q z.of x) e (value_of r.value, a.0)
read_of Q node (r ∷ rs) a s (inr i) = read_of Q node rs a.1 s i

pub read_at : (Q : Handle → Value Handle → Type 0) (k : Tree) → EachRead Q (bare k) → (s : Stands) → Member s
    (links_of k) → (x : Value Handle) × Q s.of x
read_at Q E a s i = absurd i
read_at Q (A h r) a s i = read_at Q r a s i
read_at Q (W h v r) a s i = read_at Q r a s i
read_at Q (S n t r) a s i =
    ⊎_elim (λ (j : Member s (links_of t)). read_at Q t a.0 s j) (λ (j : Member s (links_of r)). read_at Q r a.1 s j)
    (member_cases s (links_of t) (links_of r) i)
read_at Q (P n t r) a s i =
    ⊎_elim (λ (j : Member s (links_of t)). read_at Q t a.0 s j) (λ (j : Member s (links_of r)). read_at Q r a.1 s j)
    (member_cases s (links_of t) (links_of r) i)
read_at Q (R b t) a s i =
    ⊎_elim (λ (j : Member s (map (stands b.node) b.reads)). read_of Q b.node b.reads a.0 s j)
    (λ (j : Member s (links_of t)). read_at Q t a.1 s j)
    (member_cases s (map (stands b.node) b.reads) (links_of t) i)

-- what the pass knows of each read of a watched record
abbrev pub IsKnown : ValueView → Handle → Value Handle → Type 0
IsKnown v m x = (y : Value Handle) × Sees v m y

known_each : (v : ValueView) (reads : List Seen) → Known v reads → EachOf (IsKnown v) (reads_of reads)
known_each v [] k = tt
known_each v (s ∷ reads) k = (k.0, known_each v reads k.1)

pub watched_known : (v : ValueView) (m : MarksView) (k : Tree) → Watched v m k → EachRead (IsKnown v) (bare k)
watched_known v m E w = tt
watched_known v m (A h r) w = watched_known v m r w
watched_known v m (W h x r) w = watched_known v m r w
watched_known v m (S n t r) w = (watched_known v m t w.0, watched_known v m r w.1)
watched_known v m (P n t r) w = (watched_known v m t w.0, watched_known v m r w.1)
watched_known v m (R b t) w = (known_each v b.reads w.0.0, watched_known v m t w.1)

-- a node over two records, where no slot stands twice: what is beneath it, and beneath a node of either of them
at_top : (g : Handle) (a b : Tree) (s : Stands) → (Member g.slot (slots a ++ slots b) → ⊥) → Beneath (S g a b) g.slot s
    → Member s (links_of a ++ links_of b)
at_top g a b s off (inl z) = z.1
at_top g a b s off (inr z) =
    absurd (off (⊎_elim
    (λ (c : Beneath a g.slot s). member_left g.slot (slots a) (slots b) (beneath_in a g.slot s c))
    (λ (c : Beneath b g.slot s). member_right g.slot (slots a) (slots b) (beneath_in b g.slot s c)) z))

in_first : (g : Handle) (a b : Tree) (y : ℕ) (s : Stands) → Once (S g a b) → Member y (slots a) → Beneath (S g a b) y s
    → Beneath a y s
in_first g a b y s once i (inl z) =
    absurd (once.0 (subst (λ d. Member d (slots a ++ slots b)) (sym z.0) (member_left y (slots a) (slots b) i)))
in_first g a b y s once i (inr (inl c)) = c
in_first g a b y s once i (inr (inr c)) = absurd (once.1 y i (beneath_in b y s c))

in_second : (g : Handle) (a b : Tree) (y : ℕ) (s : Stands) → Once (S g a b) → Member y (slots b) → Beneath (S g a b) y s
    → Beneath b y s
in_second g a b y s once i (inl z) =
    absurd (once.0 (subst (λ d. Member d (slots a ++ slots b)) (sym z.0) (member_right y (slots a) (slots b) i)))
in_second g a b y s once i (inr (inl c)) = absurd (once.1 y (beneath_in a y s c) i)
in_second g a b y s once i (inr (inr c)) = c

-- where this is so of each node of a record k, the record is founded
module _ (F : Handle → Value Handle → Type 0) (v u : ValueView) (m x : MarksView) (k : Tree)
    (one : (g : Handle) (j : Tree) → Member g.slot (slots k) →
    ((s : Stands) → Beneath k g.slot s → Member s (links_of j))
    → EachRead F (bare j) → (IsMarked m g → AllPresent v j → ⊥) → IsMarked x g → AllPresent u j → ⊥) where
  pub founded_by : (j : Tree) → ((y : ℕ) → Member y (slots j) → Member y (slots k)) → Once j
      → ((y : ℕ) (s : Stands) → Member y (slots j) → Beneath k y s → Beneath j y s) → EachRead F (bare j)
      → Founded v m j → Founded u x j
  founded_by E inside once sub told f = tt
  founded_by (A h j) inside once sub told f = founded_by j inside once sub told f
  founded_by (W h y j) inside once sub told f = founded_by j inside once sub told f
  founded_by (S g a b) inside once sub told f = (
    one g (S g a b) (inside g.slot (inl refl)) (λ s q. at_top g a b s once.0 (sub g.slot s (inl refl) q)) told f.0,
    founded_by a (λ y i. inside y (inr (member_left y (slots a) (slots b) i))) once.2
        (λ y s i q. in_first g a b y s once i (sub y s (inr (member_left y (slots a) (slots b) i)) q)) told.0 f.1,
    founded_by b (λ y i. inside y (inr (member_right y (slots a) (slots b) i))) once.3
        (λ y s i q. in_second g a b y s once i (sub y s (inr (member_right y (slots a) (slots b) i)) q)) told.1 f.2,
  )
  founded_by (P g a b) inside once sub told f = (
    one g (P g a b) (inside g.slot (inl refl)) (λ s q. at_top g a b s once.0 (sub g.slot s (inl refl) q)) told f.0,
    founded_by a (λ y i. inside y (inr (member_left y (slots a) (slots b) i))) once.2
        (λ y s i q. in_first g a b y s once i (sub y s (inr (member_left y (slots a) (slots b) i)) q)) told.0 f.1,
    founded_by b (λ y i. inside y (inr (member_right y (slots a) (slots b) i))) once.3
        (λ y s i q. in_second g a b y s once i (sub y s (inr (member_right y (slots a) (slots b) i)) q)) told.1 f.2,
  )
  founded_by (R b a) inside once sub told f = (
    one b.node (R b a) (inside b.node.slot (inl refl))
        (λ s q. elim (sub b.node.slot s (inl refl) q) [
          | inl z ↦ z.1
          | inr z ↦ absurd (once.0 (beneath_in a b.node.slot s z))
        ])
        told f.0,
    founded_by a (λ y i. inside y (inr i)) once.1
        (λ y s i q. elim (sub y s (inr i) q) [
          | inl z ↦ absurd (once.0 (subst (λ d. Member d (slots a)) (sym z.0) i))
          | inr z ↦ z
        ])
        told.1 f.1,
  )
