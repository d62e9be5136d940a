-- Reads that are unlike by the test for the same modifiable differ by the names too.
use Rattle.std.proofs.Common.{◌≡◌, Bool, true, false, not, ◌&&◌, ◌||◌, List, [], ◌∷◌, refl, ◌⊎◌, inl, inr}
use Rattle.psac_ops.specs.Value.{Value, nil, bool, int, text, ref, pair}
use Rattle.psac_ops.specs.Table.{same_value}
use Rattle.psac_ops.specs.Named.{renamed}
use Rattle.psac_model.specs.Names.{Path, Name, same_name}
use Rattle.psac_model.specs.Tree.{Reads}
use Rattle.psac_model.specs.Redo.{made_inside, differ, reads_differ}
use Rattle.psac_naming.specs.Alike.{Alike}
use Rattle.psac_naming.proofs.Names.{and_is}
use Rattle.psac_traced.specs.Renamed.{reads_named}
use Rattle.psac_traced.specs.Scoped.{On, ReadsOf}
use Rattle.psac_traced.specs.Mending.{unlike}

so_and_not : (b c : Bool) → (not b || c) ≡ false → (b ≡ true) × (c ≡ false)
so_and_not true c h = (refl, h)
so_and_not false c h = absurd cc

none_of : (b c : Bool) → (b || c) ≡ false → (b ≡ false) × (c ≡ false)
none_of true c h = absurd cc
none_of false c h = (refl, h)

true_or : (b : Bool) → (b ≡ true) ⊎ (b ≡ false)
true_or true = inl refl
true_or false = inr refl

module _ {M : Type 0} (same : M → M → Bool) (f g : M → Name) (O K : M → Type 0) (zs : List Path) (tells : (h k : M) → O h → K k → same_name (f h) (g k) ≡ true → made_inside zs (g k) ≡ false → same h k ≡ true) where
  value_stays : (v u : Value M) → Alike (On O) v v → Alike (On K) u u → differ zs (renamed f v) (renamed g u) ≡ false → same_value same v u ≡ true
  value_stays nil nil h k d = refl
  value_stays (bool a) (bool b) h k d = (so_and_not (same_value same (bool a) (bool b)) false d).0
  value_stays (int a) (int b) h k d = (so_and_not (same_value same (int a) (int b)) false d).0
  value_stays (text a i) (text b j) h k d = (so_and_not (same_value same (text a i) (text b j)) false d).0
  value_stays (ref m) (ref n) h k d =
      let i = so_and_not (same_name (f m) (g n)) (made_inside zs (g n)) d in tells m n h.0 k.0 i.0 i.1
  value_stays (pair l m) (pair n o) h k d =
      let i = so_and_not (same_name (f l) (g n) && same_name (f m) (g o)) (made_inside zs (g n) || made_inside zs (g o)) d in
      let a = and_is (same_name (f l) (g n)) (same_name (f m) (g o)) i.0 in
      let b = none_of (made_inside zs (g n)) (made_inside zs (g o)) i.1 in
      rw (tells l n h.0.0 k.0.0 a.0 b.0, tells m o h.1.0 k.1.0 a.1 b.1) refl
  value_stays _ _ h k d = absurd cc

  reads_stay : (reads again : Reads M) → ReadsOf O reads → ReadsOf K again → reads_differ zs (reads_named f reads) (reads_named g again) ≡ false → unlike same reads again ≡ false
  reads_stay [] again h k d = refl
  reads_stay (r ∷ rs) [] h k d = refl
  reads_stay (r ∷ rs) (s ∷ ss) h k d =
      let i = none_of (differ zs (renamed f r.1) (renamed g s.1)) (reads_differ zs (reads_named f rs) (reads_named g ss)) d in
      rw (value_stays r.1 s.1 h.0.1 k.0.1 i.0, reads_stay rs ss h.1 k.1 i.1) refl

  pub unlike_differ : (reads again : Reads M) → ReadsOf O reads → ReadsOf K again → unlike same reads again ≡ true → reads_differ zs (reads_named f reads) (reads_named g again) ≡ true
  unlike_differ reads again h k e =
      elim (true_or (reads_differ zs (reads_named f reads) (reads_named g again))) [
        | inl i ↦ i
        | inr i ↦ absurd (let n = reads_stay reads again h k i in cc)
      ]
