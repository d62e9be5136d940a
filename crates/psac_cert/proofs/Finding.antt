-- Names that are noted one after another.
use Rattle.std.proofs.Common.{◌≡◌, ◌∙◌, ℕ, suc, ◌+◌, ◌<◌, arith, ◌==◌, ◌&&◌, Bool, true, false, cond, List, [], ◌∷◌, ◌++◌, Option, Some, None, is_some, refl, ap, sym}
use Rattle.std.specs.Prelude.{option_map, unwrap_or}
use Rattle.std.specs.Borrow.{Bor}
use Rattle.std.specs.Map.{lookup}
use Rattle.std.specs.Option.{option_copied}
use Rattle.std.proofs.lemmas.Bool.{eqb-true}
use Rattle.psac_ops.specs.declared.plain.Handle.{Handle}
use Rattle.psac_ops.specs.Named.{same_handle}
use Rattle.psac_model.specs.Names.{Path, Name, Rows, Made}
use Rattle.psac_naming.specs.Naming.{Naming}
use Rattle.psac_traced.specs.Places.{names, name_in}
use Rattle.psac_record.specs.Kept.{Kept, E, A, W, S, P, R, bare, parts}
use Rattle.psac_record.specs.declared.parts.Reading.{Reading}
use Rattle.psac_ops.specs.declared.plain.Plain.{Plain}
use Rattle.psac_cert.specs.declared.names.Place.{Place}
use Rattle.psac_cert.specs.Named.{first_of, found_in, path_at, made_name}

pub first_none : {A : Type 0} (x : Option A) → first_of x None ≡ x
first_none None = refl
first_none (Some x) = refl

first_assoc : {A : Type 0} (x y z : Option A) → first_of (first_of x y) z ≡ first_of x (first_of y z)
first_assoc None y z = refl
first_assoc (Some x) y z = refl

found_cons : (b : Bool) (n : Name) (x y : Option Name) → cond b (Some n) (first_of x y) ≡ first_of (cond b (Some n) x) y
found_cons true n x y = refl
found_cons false n x y = refl

pub found-append : (ns ms : Naming Handle) (h : Handle) → found_in (ns ++ ms) h ≡ first_of (found_in ns h) (found_in ms h)
found-append [] ms h = refl
found-append (p ∷ ns) ms h =
    ap (λ x. cond (same_handle p.0 h) (Some p.1) x) (found-append ns ms h) ∙ found_cons (same_handle p.0 h) p.1 (found_in ns h) (found_in ms h)

first_or : (b : Bool) (n : Name) (x : Option Name) → cond b n (unwrap_or x Rows) ≡ unwrap_or (cond b (Some n) x) Rows
first_or true n x = refl
first_or false n x = refl

-- the first name, or that of the number of rows
pub found_or : (ns : Naming Handle) (h : Handle) → name_in same_handle ns h ≡ unwrap_or (found_in ns h) Rows
found_or [] h = refl
found_or (p ∷ ns) h =
    ap (λ n. cond (same_handle p.0 h) p.1 n) (found_or ns h) ∙ first_or (same_handle p.0 h) p.1 (found_in ns h)

pub both_true : (a b : Bool) → (a && b) ≡ true → (a ≡ true) × (b ≡ true)
both_true true true is = (refl, refl)
both_true true false is = absurd (cc)
both_true false b is = absurd (cc)

-- the same modifiable has the same turns
same_path : (noted : List (Place × Path)) (g h : Handle) → same_handle g h ≡ true → path_at noted h ≡ path_at noted g
same_path noted g h same =
    let both = both_true (g.slot == h.slot) (g.generation == h.generation) same in
    let s = eqb-true g.slot h.slot both.0 in
    let n = eqb-true g.generation h.generation both.1 in
    ap (λ (k : ℕ). lookup (λ (p : Place). (k == p.slot) && (h.generation == p.generation)) noted) (sym s)
    ∙ ap (λ (k : ℕ). lookup (λ (p : Place). (g.slot == p.slot) && (k == p.generation)) noted) (sym n)

kept_by : (b : Bool) (old : Option Path) (path x : Path) → (b ≡ true → old ≡ Some x) → old ≡ first_of old (cond b (Some path) None)
kept_by true old path x is = is refl ∙ ap (λ (y : Option Path). first_of y (Some path)) (sym (is refl))
kept_by false old path x is = sym (first_none old)

kept : (noted : List (Place × Path)) (g h : Handle) (path x : Path) → path_at noted g ≡ Some x
    → path_at noted h ≡ first_of (path_at noted h) (cond (same_handle g h) (Some path) None)
kept noted g h path x is = kept_by (same_handle g h) (path_at noted h) path x (λ same. same_path noted g h same ∙ is)

none_where : (o : Option Path) → is_some o ≡ false → o ≡ None
none_where None is = refl
none_where (Some x) is = absurd (cc)

some_copied : (o : Option (Bor Path)) → is_some (option_copied o) ≡ is_some o
some_copied None = refl
some_copied (Some x) = refl

-- a modifiable that is noted keeps its turns
pub kept_where : (noted : List (Place × Path)) (g h : Handle) (path : Path) (got : Option (Bor Path)) → option_copied got ≡ path_at noted g → is_some got ≡ true
    → path_at noted h ≡ first_of (path_at noted h) (cond (same_handle g h) (Some path) None)
kept_where noted g h path got same is = by (path_at noted g) refl (ap (λ (o : Option Path). is_some o) (sym same) ∙ some_copied got ∙ is)
  where
    by : (o : Option Path) → path_at noted g ≡ o → is_some o ≡ true → path_at noted h ≡ first_of (path_at noted h) (cond (same_handle g h) (Some path) None)
    by None same some = absurd (cc)
    by (Some x) same some = kept noted g h path x same

added_by : (b : Bool) (old new : Option Path) (path : Path) → (b ≡ true → old ≡ None) → new ≡ cond b (Some path) old → new ≡ first_of old (cond b (Some path) None)
added_by true old new path none is = is ∙ ap (λ (y : Option Path). first_of y (Some path)) (sym (none refl))
added_by false old new path none is = is ∙ sym (first_none old)

-- the turns to another are noted
pub noted_where : (old new : List (Place × Path)) (g h : Handle) (path value : Path) (got : Option (Bor Path)) → value ≡ path → option_copied got ≡ path_at old g → is_some got ≡ false
    → path_at new h ≡ cond (same_handle g h) (Some value) (path_at old h)
    → path_at new h ≡ first_of (path_at old h) (cond (same_handle g h) (Some path) None)
noted_where old new g h path value got e same none is =
    let nothing : path_at old g ≡ None = none_where (path_at old g) (ap (λ (o : Option Path). is_some o) (sym same) ∙ some_copied got ∙ none) in
    added_by (same_handle g h) (path_at old h) (path_at new h) path (λ found. same_path old g h found ∙ nothing)
    (is ∙ ap (λ (p : Path). cond (same_handle g h) (Some p) (path_at old h)) e)

made_by_turns : (b : Bool) (path : Path) (a m : Option Path) (new rest : Option Name) → m ≡ first_of a (cond b (Some path) None)
    → new ≡ first_of (option_map Made m) rest → new ≡ first_of (option_map Made a) (cond b (Some (Made path)) rest)
made_by_turns b path (Some x) m new rest d e = e ∙ ap (λ (y : Option Path). first_of (option_map Made y) rest) d
made_by_turns true path None m new rest d e = e ∙ ap (λ (y : Option Path). first_of (option_map Made y) rest) d
made_by_turns false path None m new rest d e = e ∙ ap (λ (y : Option Path). first_of (option_map Made y) rest) d

-- what is noted after a record, of which kind it is
module _ (old new : List (Place × Path)) (path : Path) (k : Kept) where
  abbrev Noted : Type 0
  Noted = (h : Handle) → made_name new h ≡ first_of (made_name old h) (found_in (names path (bare k)) h)

  by_kept : (j : Kept) → k ≡ j → ((h : Handle) → made_name new h ≡ first_of (made_name old h) (found_in (names path (bare j)) h)) → Noted
  by_kept j is told = λ h. told h ∙ ap (λ (x : Kept). first_of (made_name old h) (found_in (names path (bare x)) h)) (sym is)

  pub noted_end : k ≡ E → new ≡ old → Noted
  noted_end is same = by_kept E is (λ h. ap (λ es. made_name es h) same ∙ sym (first_none (made_name old h)))

  pub noted_made : (mid : List (Place × Path)) (g : Handle) (rest : Kept) → k ≡ A g rest
      → ((h : Handle) → path_at mid h ≡ first_of (path_at old h) (cond (same_handle g h) (Some path) None))
      → ((h : Handle) → made_name new h ≡ first_of (made_name mid h) (found_in (names (path ++ 3 ∷ []) (bare rest)) h)) → Noted
  noted_made mid g rest is first then =
      by_kept (A g rest) is (λ h. made_by_turns (same_handle g h) path (path_at old h) (path_at mid h) (made_name new h) (found_in (names (path ++ 3 ∷ []) (bare rest)) h) (first h) (then h))

  pub noted_write : (g : Handle) (v : Plain) (rest : Kept) → k ≡ W g v rest
      → ((h : Handle) → made_name new h ≡ first_of (made_name old h) (found_in (names (path ++ 3 ∷ []) (bare rest)) h)) → Noted
  noted_write g v rest is then = by_kept (W g v rest) is then

  pub noted_block : (reading : Reading) (rest : Kept) → k ≡ R reading rest
      → ((h : Handle) → made_name new h ≡ first_of (made_name old h) (found_in (names (path ++ 2 ∷ []) (bare rest)) h)) → Noted
  noted_block reading rest is then = by_kept (R reading rest) is then

  two : (mid : List (Place × Path)) (l r : Kept) → ((h : Handle) → made_name mid h ≡ first_of (made_name old h) (found_in (names (path ++ 0 ∷ []) (bare l)) h))
      → ((h : Handle) → made_name new h ≡ first_of (made_name mid h) (found_in (names (path ++ 1 ∷ []) (bare r)) h))
      → (h : Handle) → made_name new h ≡ first_of (made_name old h) (found_in (names (path ++ 0 ∷ []) (bare l) ++ names (path ++ 1 ∷ []) (bare r)) h)
  two mid l r first then = λ h.
      let a = found_in (names (path ++ 0 ∷ []) (bare l)) h in
      let b = found_in (names (path ++ 1 ∷ []) (bare r)) h in
      then h ∙ ap (λ (x : Option Name). first_of x b) (first h) ∙ first_assoc (made_name old h) a b
      ∙ ap (λ (x : Option Name). first_of (made_name old h) x) (sym (found-append (names (path ++ 0 ∷ []) (bare l)) (names (path ++ 1 ∷ []) (bare r)) h))

  pub noted_step : (mid : List (Place × Path)) (node : Handle) (l r : Kept) → k ≡ S node l r
      → ((h : Handle) → made_name mid h ≡ first_of (made_name old h) (found_in (names (path ++ 0 ∷ []) (bare l)) h))
      → ((h : Handle) → made_name new h ≡ first_of (made_name mid h) (found_in (names (path ++ 1 ∷ []) (bare r)) h)) → Noted
  noted_step mid node l r is first then = by_kept (S node l r) is (two mid l r first then)

  pub noted_both : (mid : List (Place × Path)) (node : Handle) (l r : Kept) → k ≡ P node l r
      → ((h : Handle) → made_name mid h ≡ first_of (made_name old h) (found_in (names (path ++ 0 ∷ []) (bare l)) h))
      → ((h : Handle) → made_name new h ≡ first_of (made_name mid h) (found_in (names (path ++ 1 ∷ []) (bare r)) h)) → Noted
  noted_both mid node l r is first then = by_kept (P node l r) is (two mid l r first then)

-- what stands in a record's first part has fewer parts
pub falls_one : (k j : Kept) → parts k ≡ suc (parts j) → suc (parts j + parts j) < parts k + parts k
falls_one k j e = omega (arith, e)

pub falls_left : (k l r : Kept) → parts k ≡ suc (parts l + parts r) → suc (parts l + parts l) < parts k + parts k
falls_left k l r e = omega (arith, e)

pub falls_right : (k l r : Kept) → parts k ≡ suc (parts l + parts r) → suc (parts r + parts r) < parts k + parts k
falls_right k l r e = omega (arith, e)
