-- What becomes of the handles of what a record made, where a commit repairs it, and where all goes back.
use Rattle.std.proofs.Common.{◌≡◌, ◌⊎◌, ◌+◌, ◌<◌, ◌≤◌, ◌==◌, ◌&&◌, ℕ, suc, Bool, true, false, if◌then◌else◌, cond, List, [], ◌∷◌, ◌++◌, length, Contains, refl, ap, sym, ◌∙◌, subst, inl, inr, arith}
use Rattle.std.specs.Prelude.{sum_by}
use Rattle.std.proofs.lemmas.List.Sums.{sum_by-cons, sum_by-append}
use Rattle.std.proofs.lemmas.List.Elements.{Contains-append_cases, Contains-push_cases}
use Rattle.psac_ops.specs.declared.plain.Handle.{Handle}
use Rattle.psac_ops.specs.Named.{same_handle}
use Rattle.psac_slots.specs.Handles.{Member, later, slot_times}
use Rattle.psac_slots.specs.Claiming.{Accounted}
use Rattle.psac_slots.specs.declared.view.ClaimView.{ClaimView}
use Rattle.psac_slots.proofs.Pairs.{member_left, member_right}
use Rattle.psac_slots.proofs.Given.{same_slot}
use Rattle.psac_slots.proofs.Removed.{at_most_once}
use Rattle.psac_values.specs.declared.view.ValueView.{ValueView}
use Rattle.psac_values.specs.Steps.{made_handle}
use Rattle.psac_inputs.specs.Grid.{Grid, IsGrid}
use Rattle.psac_model.specs.declared.ends.End.TheVariants.{Done}
use Rattle.psac_model.specs.Names.{Path, Made}
use Rattle.psac_model.specs.Fresh.{World, fresh, setting, levels, main_env, grid_heap}
use Rattle.psac_model.specs.Redo.{redo, is_inside}
use Rattle.psac_naming.specs.Naming.{IsNamed}
use Rattle.psac_naming.proofs.Namings.{named_either}
use Rattle.psac_laws.proofs.Places.{test_or}
use Rattle.psac_plain.specs.Opened.{first_output, output_env, setting_over}
use Rattle.psac_plain.proofs.Beginning.{begin_unused, begin_settings, begin_envs}
use Rattle.psac_plain.proofs.Linked.{handles_told}
use Rattle.psac_traced.specs.Bodies.{IsCode}
use Rattle.psac_traced.specs.Rec as rec
use Rattle.psac_traced.specs.Rec.{Rec}
use Rattle.psac_traced.specs.Renamed.{Heaps}
use Rattle.psac_traced.specs.Traced.{traced}
use Rattle.psac_traced.specs.Places.{names, Makes, HasName}
use Rattle.psac_traced.specs.Serial.{Serial}
use Rattle.psac_traced.specs.Mending.{made_by, unlike, mended, anew, below}
use Rattle.psac_traced.specs.Redone.{redone}
use Rattle.psac_traced.specs.Repaired.{Repaired as Same}
use Rattle.psac_traced.proofs.Dropped.{dropped_made}
use Rattle.psac_traced.proofs.Kept.{mended_repaired}
use Rattle.psac_traced.proofs.Places.{names_made}
use Rattle.psac_record.specs.Kept.{Kept, bare, made_of, all_of}
use Rattle.psac_trace.proofs.Leading.{member_sum, sum_member, zero_or}
use Rattle.psac_repair.specs.Going.{Views}
use Rattle.psac_repair.specs.Taking.{taken, given}
use Rattle.psac_stage.specs.Places.{fixed_slots, base_heap}
use Rattle.psac_stage.specs.Holding.{HasFixed}
use Rattle.psac_stage.specs.Recorded.{setting_at, LeftBy, HasMade}
use Rattle.psac_stage.proofs.Apart.{makes_member}
use Rattle.psac_stage.proofs.Bounds.{out_made, out_high, out_distinct, out_apart}
use Rattle.psac_stage.proofs.Starts.{start, start_heaps}
use Rattle.psac_engine.specs.Repaired.{Stands, Repaired}
use Rattle.psac_engine.specs.Held.{Since, Rises, Renews}
use Rattle.psac_engine.proofs.Aging.{one_made}
use Rattle.psac_engine.proofs.Helds.{member_makes}
use Rattle.psac_engine.proofs.Redoing.{redo_redone, names_went}
use Rattle.psac_engine.proofs.Rising.{since_then}
use Rattle.psac_engine.proofs.Shows.{named_low, shows}
use Rattle.psac_engine.proofs.Updates.{first_same, ground_same, starts_same}

none_contained : (m : Handle) → Contains [] m → ⊥
none_contained m h = let lt = h.1 in omega (arith, lt)

pub contains_member : (xs : List Handle) (m : Handle) → Contains xs m → Member m xs
contains_member [] m h = absurd (none_contained m h)
contains_member (x ∷ xs) m h =
    elim (Contains-append_cases (x ∷ []) xs m h) [
      | inl i ↦ elim (Contains-push_cases [] x m i) [ inl j ↦ absurd (none_contained m j) | inr j ↦ inl j ]
      | inr i ↦ inr (contains_member xs m i)
    ]

-- what was made anew the new record made
created_made : (r s : Rec Handle) (m : Handle) → Contains (mended same_handle r s).created m → Makes s m
created_made (rec.A k r) (rec.A n s) m h = inr (created_made r s m h)
created_made (rec.W k v r) (rec.W n u s) m h = created_made r s m h
created_made (rec.S t r) (rec.S u s) m h =
    elim (Contains-append_cases (mended same_handle t u).created (mended same_handle r s).created m h) [
      | inl i ↦ inl (created_made t u m i)
      | inr i ↦ inr (created_made r s m i)
    ]
created_made (rec.P t r) (rec.P u s) m h =
    elim (Contains-append_cases (mended same_handle t u).created (mended same_handle r s).created m h) [
      | inl i ↦ inl (created_made t u m i)
      | inr i ↦ inr (created_made r s m i)
    ]
created_made (rec.R room b e reads t) (rec.R level c f again u) m h =
    elim (unlike same_handle reads again) as (λ d. Contains (if d then anew t u else below (mended same_handle t u)).created m
    → Makes u m) [
      | true ↦ λ i. member_makes u m (contains_member (made_by u) m i)
      | false ↦ λ i. created_made t u m i
    ] h
created_made _ _ m h = absurd (none_contained m h)

abbrev is_it : Handle → Handle → ℕ
is_it m x = cond (same_handle x m) 1 0

it_is : (m : Handle) → is_it m m ≡ 1
it_is m = ap (λ c. cond c 1 0) (handles_told.itself m)

-- a handle stands no more often than its slot
few_handles : (m : Handle) (xs : List Handle) → sum_by (is_it m) xs ≤ slot_times m.slot xs
few_handles m [] = omega arith
few_handles m (x ∷ xs) =
    let a = sum_by-cons (is_it m) x xs in
    let b = sum_by-cons (λ (h : Handle). cond (h.slot == m.slot) 1 0) x xs in
    let c = few_handles m xs in
    let d : is_it m x ≤ cond (x.slot == m.slot) 1 0 = one_less (x.slot == m.slot) (x.generation == m.generation) in
    omega (arith, a, b, c, d)
  where
    one_less : (p q : Bool) → cond (p && q) 1 0 ≤ cond p 1 0
    one_less true true = omega arith
    one_less true false = omega arith
    one_less false q = omega arith

-- what is counted stands there
sum_in : (m : Handle) (xs : List Handle) → 0 < sum_by (is_it m) xs → Member m xs
sum_in m xs more = let b = sum_member (is_it m) xs more in subst (λ x. Member x xs) (is_same (b.0) b.2) b.1
  where
    is_same : (x : Handle) → 0 < cond (same_handle x m) 1 0 → x ≡ m
    is_same x i = elim (test_or (same_handle x m)) [
      | inl t ↦ handles_told.alone x m t
      | inr t ↦ absurd
          (let z : 0 < 0 = rw t at i in omega (arith, z))
    ]

-- a slot stands in one generation
pub stands_once : (c : ClaimView) → Accounted c → (x y : Handle) → Stands c x → Stands c y → x.slot ≡ y.slot → x ≡ y
stands_once c whole x y i j e = same_slot (c.list ++ c.held) x y distinct (both x i) (both y j) e
  where
    distinct : (s : ℕ) → slot_times s (c.list ++ c.held) ≤ 1
    distinct s =
        let a = sum_by-append (λ (h : Handle). cond (h.slot == s) 1 0) c.list c.held in
        let b = whole.slots s in
        let d = at_most_once s c.count in
        omega (arith, a, b, d)

    both : (h : Handle) → Stands c h → Member h (c.list ++ c.held)
    both h (inl k) = member_left h c.list c.held k
    both h (inr k) = member_right h c.list c.held k

-- the made slot of the handle is in a later generation
abbrev pub Later : ValueView → Handle → Type 0
Later u m = (x : Handle) × (made_handle u.fixed x ≡ m) × Since u.claims x.slot (suc x.generation)

-- such a handle is of nothing that is out
pub later_dead : (u : ValueView) → Accounted u.claims → (m : Handle) → Later u m → (x : Handle) → Member x u.claims.held
    → made_handle u.fixed x ≡ m → ⊥
later_dead u whole m l x i e =
    let same : l.0 ≡ x = one_made u.fixed u.fixed l.0 x refl (l.1 ∙ sym e) in
    let s = l.2 in
    let slot : s.now.slot ≡ x.slot = s.same ∙ ap (λ (z : Handle). z.slot) same in
    let is : s.now ≡ x = stands_once u.claims whole s.now x s.stands (inr i) slot in
    let late = s.late in
    let a : s.now.generation ≡ x.generation = ap (λ (z : Handle). z.generation) is in
    let b : l.0.generation ≡ x.generation = ap (λ (z : Handle). z.generation) same in
    omega (arith, late, a, b)

-- and stays so
pub later_goes : (v u : ValueView) → u.fixed ≡ v.fixed → Rises v.claims u.claims → (m : Handle) → Later v m → Later u m
later_goes v u same rises m l = (
  l.0,
  ap (λ n. made_handle n l.0) same ∙ l.1,
  since_then v.claims u.claims l.0.slot (suc l.0.generation) l.2 rises,
)

-- where what was out is in a later generation
pub renewed_goes : (v u : ValueView) → u.fixed ≡ v.fixed → Renews v.claims u.claims → Accounted v.claims → (k : Kept) → HasMade k v
    → (m : Handle) → Makes (bare k) m → Later u m
renewed_goes v u same renews whole k made m i =
    let x = out_made k v made.out whole m (makes_member (bare k) m i) in
    (x.0, ap (λ n. made_handle n x.0) same ∙ x.2, renews x.0 x.1)

-- two grids of one shape
module _ (w : World) (g h : Grid) (ok : IsGrid g) (now : IsGrid h) (opened : h.opened ≡ g.opened) (room : h.room ≡ g.room)
    (cols : h.cols ≡ g.cols) where
  abbrev ds : List ℕ
  ds = w.main.dests

  abbrev outs : ℕ
  outs = length ds

  pub fixed_same : fixed_slots h outs ≡ fixed_slots g outs
  fixed_same = ap (λ n. n + (outs + 1)) (first_same w g h ok now opened room cols)

  -- a record that was kept, and the one that is kept after a repair
  module _ (k s : Kept) (p q : Views) (fixed : HasFixed (fixed_slots g outs) p.values) (fixed_now : HasFixed (fixed_slots h outs) q.values)
      (whole : Accounted p.values.claims) (whole_now : Accounted q.values.claims) (left_it : LeftBy w g (bare k))
      (left_now : LeftBy w h (bare s)) (made : HasMade k p.values) (made_now : HasMade s q.values) (rep : Repaired w h k s p q) where
    abbrev old : Rec Handle
    old = bare k

    abbrev new : Rec Handle
    new = bare s

    abbrev v : ValueView
    v = p.values

    abbrev u : ValueView
    u = q.values

    abbrev gone : List Handle
    gone = all_of made_of (taken k s)

    slots_same : u.fixed ≡ v.fixed
    slots_same = fixed_now.fixed_is ∙ fixed_same ∙ sym fixed.fixed_is

    same : Same same_handle old new
    same =
        mended_repaired (setting_at w h) handles_told w.program.funcs (IsCode w.program.funcs w.main.body) (base_heap h ds) old new
        rep.mended

    high : (m : Handle) → Makes old m → fixed_slots g outs ≤ m.slot
    high m i =
        let a = out_high k v made.out whole m (makes_member old m i) in
        let e = fixed.fixed_is in
        omega (arith, a, e)

    high_now : (m : Handle) → Makes new m → fixed_slots h outs ≤ m.slot
    high_now m i =
        let a = out_high s u made_now.out whole_now m (makes_member new m i) in
        let e = fixed_now.fixed_is in
        omega (arith, a, e)

    -- of what went, the slot is a generation later
    went_later : (m : Handle) → Makes old m → Member m gone → Later u m
    went_later m i j =
        let x = out_made k v made.out whole m (makes_member old m i) in
        let l = rep.mods.next x.0 (inr x.1) (subst (λ z. Member z gone) (sym x.2) j) in
        (x.0, ap (λ n. made_handle n x.0) slots_same ∙ x.2, record { now = later x.0; stands = l; same = refl; late = omega arith })

    -- what was made anew neither record had
    created_new : (m : Handle) → Contains (mended same_handle old new).created m → HasName (start g ds ok ++ names [] old) m → ⊥
    created_new m c n =
        let mine = created_made old new m c in
        elim (named_either (start g ds ok) (names [] old) m n.0 n.1) [
          | inl i ↦
              (let a = high_now m mine in
              let e = fixed_same in
              named_low w g ok m (n.0, i) (omega (arith, a, e)))
          | inr i ↦
              (let had = names_made [] old m n.0 i in
              let one = it_is m in
              let a = member_sum (is_it m) m (made_of k) (makes_member old m had) (omega (arith, one)) in
              let b = member_sum (is_it m) m (all_of made_of (given k s))
              (subst (Member m) rep.exchanged.created (contains_member (mended same_handle old new).created m c)) (omega (arith, one)) in
              let sum = rep.exchanged.mods (is_it m) in
              let few = few_handles m (made_of s) in
              let once = out_distinct s u made_now.out whole_now m.slot in
              elim (zero_or (sum_by (is_it m) gone)) [
                | inl none ↦ omega (arith, one, a, b, sum, few, once, none)
                | inr more ↦
                    (let l = went_later m had (sum_in m gone more) in
                    let x = out_made s u made_now.out whole_now m (makes_member new m mine) in
                    later_dead u whole_now m l x.0 x.1 x.2)
              ])
        ]

    serial : Serial (start g ds ok ++ names [] old) old (base_heap g ds) Done (fresh w g)
    serial = shows w g ok old Done (out_apart k v made.out whole) high left_it

    serial_now : Serial (start g ds ok ++ names [] new) new (base_heap h ds) Done (fresh w h)
    serial_now =
        subst (λ z. Serial (z ++ names [] new) new (base_heap h ds) Done (fresh w h)) (starts_same w g h ok now opened room cols)
        (shows w h now new Done (out_apart s u made_now.out whole_now) high_now left_now)

    -- main reads by the same numbers
    left_here : traced (setting_over g w.texts outs) w.program.funcs levels w.main.body (output_env (first_output g) ds []) (base_heap h ds)
        new Done
    left_here =
        subst (λ z. traced z w.program.funcs levels w.main.body (output_env (first_output g) ds []) (base_heap h ds) new Done)
        (ground_same w g h ok now opened room cols)
        (subst (λ z. traced (setting_at w h) w.program.funcs levels w.main.body (output_env z ds []) (base_heap h ds) new Done)
        (first_same w g h ok now opened room cols) left_now)

    heaps_now : Heaps (IsNamed (start g ds ok)) (base_heap h ds) (grid_heap h)
    heaps_now =
        subst (λ z. Heaps (IsNamed z) (base_heap h ds) (grid_heap h)) (starts_same w g h ok now opened room cols)
        (start_heaps h ds now)

    redo_is : redo (fresh w g).tree (fresh w h).tree ≡ redone same_handle old new
    redo_is =
        redo_redone (setting_over g w.texts outs) (setting w.texts g) handles_told refl w.program.funcs (start g ds ok)
        (begin_settings g ds ok w.texts) (begin_unused g ds ok) levels w.main.body (output_env (first_output g) ds []) (main_env 0 ds [])
        (base_heap g ds) (base_heap h ds) (grid_heap g) (grid_heap h) old new Done Done (fresh w g) (fresh w h) (begin_envs g ds ok)
        (start_heaps g ds ok) heaps_now left_it left_here serial serial_now same created_new

    -- each made handle is of the same name still, or its block ran again and it is outlived
    pub repaired_goes : (m : Handle) (path : Path) → IsNamed (names [] old) m (Made path)
        → ((is_inside (redo (fresh w g).tree (fresh w h).tree) path ≡ false) × IsNamed (names [] new) m (Made path))
        ⊎ ((is_inside (redo (fresh w g).tree (fresh w h).tree) path ≡ true) × Later u m)
    repaired_goes m path i =
        let is = redo_is in
        elim (names_went same_handle old new same m path i) [
          | inl j ↦ inl (ap (λ zs. is_inside zs path) is ∙ j.0, j.1)
          | inr j ↦ inr (
            ap (λ zs. is_inside zs path) is ∙ j.0,
            went_later m (dropped_made same_handle old new m j.1)
                (subst (Member m) rep.exchanged.dropped (contains_member (mended same_handle old new).dropped m j.1)),
          )
        ]
