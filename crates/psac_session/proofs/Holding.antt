-- The places of a session, from one naming of handles to another.
use Rattle.std.proofs.Common.{◌≡◌, ◌∙◌, ℕ, zero, suc, ◌==◌, Bool, true, false, if◌then◌else◌, List, [], ◌∷◌, inl, inr, Option, Some, None, refl, sym, ap, map, option_map}
use Rattle.std.specs.Prelude.{replicate, slice_set}
use Rattle.psac_ops.specs.declared.plain.Handle.{Handle}
use Rattle.psac_ops.specs.Named.{same_handle}
use Rattle.psac_model.specs.Names.{Name}
use Rattle.psac_naming.specs.Naming.{Naming, IsNamed}
use Rattle.psac_naming.proofs.Names.{nat_same, nat_is, and_is}
use Rattle.psac_report.specs.Session.{Place, Holding, Gone, gone_stale, place_count}
use Rattle.psac_session.specs.Holding.{name_among, place_of, place_among, places_among, none_held, IsKnown, AreKnown}

handle_is : (g h : Handle) → same_handle g h ≡ true → g ≡ h
handle_is g h same =
    let both = and_is (g.slot == h.slot) (g.generation == h.generation) same in
    ap (λ n. record { slot = n; generation = g.generation }) (nat_is g.slot h.slot both.0)
    ∙ ap (λ n. record { slot = h.slot; generation = n }) (nat_is g.generation h.generation both.1)

handle_same : (h : Handle) → same_handle h h ≡ true
handle_same h = rw (nat_same h.slot, nat_same h.generation) refl

found_at : (b : Bool) (p : Handle × Name) (ns : Naming Handle) (m : Handle) (n : Name) → same_handle p.0 m ≡ b
    → (name_among ns m ≡ Some n → IsNamed ns m n)
    → (if b then Some p.1 else name_among ns m) ≡ Some n → IsNamed (p ∷ ns) m n
found_at true p ns m n same rest is = inl (handle_is p.0 m same, cc)
found_at false p ns m n same rest is = inr (rest is)

-- a name that is found is one of the handle's
pub found : (ns : Naming Handle) (m : Handle) (n : Name) → name_among ns m ≡ Some n → IsNamed ns m n
found [] m n is = absurd (cc)
found (p ∷ ns) m n is = found_at (same_handle p.0 m) p ns m n refl (found ns m n) is

unfound_at : (b : Bool) (p : Handle × Name) (ns : Naming Handle) (m : Handle) (n : Name) → same_handle p.0 m ≡ b
    → (name_among ns m ≡ None → IsNamed ns m n → ⊥)
    → (if b then Some p.1 else name_among ns m) ≡ None → IsNamed (p ∷ ns) m n → ⊥
unfound_at true p ns m n same rest none is = cc
unfound_at false p ns m n same rest none (inl is) =
    let bad : true ≡ false = sym (handle_same m) ∙ ap (λ h. same_handle h m) (sym is.0) ∙ same in cc
unfound_at false p ns m n same rest none (inr is) = rest none is

pub unfound : (ns : Naming Handle) (m : Handle) (n : Name) → name_among ns m ≡ None → IsNamed ns m n → ⊥
unfound [] m n none is = is
unfound (p ∷ ns) m n none is = unfound_at (same_handle p.0 m) p ns m n refl (unfound ns m n) none is

name_by : (ns : Naming Handle) (m : Handle) (n : Name) (x : Option Name) → name_among ns m ≡ x
    → ((k : Name) → IsNamed ns m k → k ≡ n) → IsNamed ns m n → name_among ns m ≡ Some n
name_by ns m n None is only named = absurd (unfound ns m n is named)
name_by ns m n (Some k) is only named = is ∙ ap Some (only k (found ns m k is))

-- the one name that a handle has is found
pub name_is : (ns : Naming Handle) (m : Handle) (n : Name) → ((k : Name) → IsNamed ns m k → k ≡ n) → IsNamed ns m n
    → name_among ns m ≡ Some n
name_is ns m n only named = name_by ns m n (name_among ns m) refl only named

no_name_by : (ns : Naming Handle) (m : Handle) (x : Option Name) → name_among ns m ≡ x
    → ((n : Name) → IsNamed ns m n → ⊥) → name_among ns m ≡ None
no_name_by ns m None is none = is
no_name_by ns m (Some n) is none = absurd (none n (found ns m n is))

-- nor is a name where there is none
pub no_name : (ns : Naming Handle) (m : Handle) → ((n : Name) → IsNamed ns m n → ⊥) → name_among ns m ≡ None
no_name ns m none = no_name_by ns m (name_among ns m) refl none

module _ (ns : Naming Handle) (Outlived : Handle → Type 0) where
  none_known : (n : ℕ) → AreKnown ns Outlived (replicate n None)
  none_known zero = tt
  none_known (suc n) = (tt, none_known n)

  pub begins_known : AreKnown ns Outlived none_held
  unfolding none_held
  begins_known = none_known place_count

  pub known_put : (held : List (Option Handle)) (i : ℕ) (x : Option Handle) → AreKnown ns Outlived held
      → IsKnown ns Outlived x → AreKnown ns Outlived (slice_set held i x)
  known_put [] i x all is = tt
  known_put (y ∷ held) zero x all is = (is, all.1)
  known_put (y ∷ held) (suc i) x all is = (all.0, known_put held i x all.1 is)

  -- a handle that has a name
  pub named_known : (m : Handle) (n : Name) → name_among ns m ≡ Some n → IsKnown ns Outlived (Some m)
  named_known m n is none = absurd (let bad : Some n ≡ None = sym is ∙ none in cc)

no_places_by : (ns : Naming Handle) (n : ℕ) → places_among ns (replicate n None) ≡ replicate n None
no_places_by ns zero = refl
no_places_by ns (suc n) = ap (λ (ps : List (Option Place)). None ∷ ps) (no_places_by ns n)

pub no_places_held : (ns : Naming Handle) → places_among ns none_held ≡ replicate place_count None
unfolding none_held
no_places_held ns = no_places_by ns place_count

-- from names to later ones: what isn't dropped keeps its name, and what is dropped is outlived
pub record Goes (ns fs : Naming Handle) (Old New : Handle → Type 0) (lost : Name → Bool) : Type 0 where
  pub kept : (m : Handle) (n : Name) → name_among ns m ≡ Some n → lost n ≡ false → name_among fs m ≡ Some n
  pub gone : (m : Handle) (n : Name) → name_among ns m ≡ Some n → lost n ≡ true → New m
  pub outlived : (m : Handle) → Old m → New m
  pub unnamed : (m : Handle) → New m → name_among fs m ≡ None

module _ (ns fs : Naming Handle) (Old New : Handle → Type 0) (lost : Name → Bool) (goes : Goes ns fs Old New lost) where
  place_goes_by : (m : Handle) (x : Option Name) (b : Bool) → name_among ns m ≡ x
      → ((n : Name) → x ≡ Some n → lost n ≡ b) → IsKnown ns Old (Some m)
      → place_among fs m ≡ gone_stale lost (place_of x)
  place_goes_by m None b is told known = rw (goes.unnamed m (goes.outlived m (known is))) refl
  place_goes_by m (Some n) true is told known = rw (goes.unnamed m (goes.gone m n is (told n refl)), told n refl) refl
  place_goes_by m (Some n) false is told known = rw (goes.kept m n is (told n refl), told n refl) refl

  abbrev lost_or : Option Name → Bool
  lost_or None = false
  lost_or (Some n) = lost n

  place_goes : (x : Option Handle) → IsKnown ns Old x
      → option_map (place_among fs) x ≡ option_map (gone_stale lost) (option_map (place_among ns) x)
  place_goes None known = refl
  place_goes (Some m) known =
      let x = name_among ns m in
      let told : (n : Name) → x ≡ Some n → lost n ≡ lost_or x = λ n is. sym (ap lost_or is) in
      ap Some (place_goes_by m x (lost_or x) refl told known)

  pub places_go : (held : List (Option Handle)) → AreKnown ns Old held
      → places_among fs held ≡ map (option_map (gone_stale lost)) (places_among ns held)
  places_go [] known = refl
  places_go (x ∷ held) known =
      ap (λ p. p ∷ places_among fs held) (place_goes x known.0) ∙ ap (λ ps. option_map (gone_stale lost) (option_map
      (place_among ns) x) ∷ ps) (places_go held known.1)

  known_goes_by : (m : Handle) (x : Option Name) (b : Bool) → name_among ns m ≡ x
      → ((n : Name) → x ≡ Some n → lost n ≡ b) → IsKnown ns Old (Some m) → IsKnown fs New (Some m)
  known_goes_by m None b is told known = λ none. goes.outlived m (known is)
  known_goes_by m (Some n) true is told known = λ none. goes.gone m n is (told n refl)
  known_goes_by m (Some n) false is told known =
      λ none. absurd (let bad : Some n ≡ None = sym (goes.kept m n is (told n refl)) ∙ none in cc)

  known_goes : (x : Option Handle) → IsKnown ns Old x → IsKnown fs New x
  known_goes None known = tt
  known_goes (Some m) known =
      let x = name_among ns m in
      let told : (n : Name) → x ≡ Some n → lost n ≡ lost_or x = λ n is. sym (ap lost_or is) in
      known_goes_by m x (lost_or x) refl told known

  pub all_known : (held : List (Option Handle)) → AreKnown ns Old held → AreKnown fs New held
  all_known [] known = tt
  all_known (x ∷ held) known = (known_goes x known.0, all_known held known.1)

-- where nothing is lost the places are what they were
stays_by : (lost : Name → Bool) → ((n : Name) → lost n ≡ false) → (p : Option Place)
    → option_map (gone_stale lost) p ≡ p
stays_by lost none None = refl
stays_by lost none (Some Gone) = refl
stays_by lost none (Some (Holding n)) = rw (none n) refl

pub places_stay : (lost : Name → Bool) → ((n : Name) → lost n ≡ false) → (ps : List (Option Place))
    → map (option_map (gone_stale lost)) ps ≡ ps
places_stay lost none [] = refl
places_stay lost none (p ∷ ps) =
    ap (λ q. q ∷ map (option_map (gone_stale lost)) ps) (stays_by lost none p) ∙ ap (λ qs. p ∷ qs) (places_stay lost
    none ps)

-- by tests that tell the same, the same places become stale
same_by : (f g : Name → Bool) → ((n : Name) → f n ≡ g n) → (p : Option Place)
    → option_map (gone_stale f) p ≡ option_map (gone_stale g) p
same_by f g same None = refl
same_by f g same (Some Gone) = refl
same_by f g same (Some (Holding n)) = rw (same n) refl

pub same_stale : (f g : Name → Bool) → ((n : Name) → f n ≡ g n) → (ps : List (Option Place))
    → map (option_map (gone_stale f)) ps ≡ map (option_map (gone_stale g)) ps
same_stale f g same [] = refl
same_stale f g same (p ∷ ps) =
    ap (λ q. q ∷ map (option_map (gone_stale f)) ps) (same_by f g same p) ∙ ap (λ qs. option_map (gone_stale g) p ∷ qs)
    (same_stale f g same ps)
