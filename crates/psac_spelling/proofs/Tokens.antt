-- Lists of tokens, of marks and of pieces.
use Rattle.std.proofs.Common.{◌≡◌, ℕ, ◌<◌, ◌≤◌, Bool, true, false, cond, leb, List, [], ◌∷◌, ◌++◌, append_assoc, map, refl, sym, ap, ◌∙◌}
use Rattle.std.specs.Prelude.{flat_map}
use Rattle.std.proofs.lemmas.List.{map-append}
use Rattle.std.proofs.lemmas.Bool.{lt-ltb, le-leb, leb-true}
use Rattle.psac_syntax.specs.declared.program.Program.{Program}
use Rattle.psac_tokens.specs.declared.token.Token.{Token}
use Rattle.psac_grammar.specs.Marked.{Mark, fine, over, late, Marked, plain, AllFine, token, size_limit, by_size, by_length, by_parens, is_deep, deepened, ends_deep, or_else, begins_with}
use Rattle.psac_spelling.specs.Canonical.{bytes_at, name_text}
use Rattle.psac_spelling.proofs.Pieces as pieces
use Rattle.psac_spelling.proofs.Pieces.{Piece, number, name, text, block}
use Rattle.psac_spelling.proofs.Found.{IsName, IsShown}
use Rattle.psac_spelling.proofs.Replays.{InInt, Replays, carried, IsToken, AreTokens}

-- ---- what pieces and tokens carry

abbrev pub load : Piece → List Piece
load (pieces.plain kind bare) = []
load q = q ∷ []

abbrev pub loads : List Piece → List Piece
loads = flat_map load

abbrev pub cargo : List Marked → List Piece
cargo ms = flat_map carried (plain ms)

flat_map-append : {X A : Type 0} (f : X → List A) (xs ys : List X) → flat_map f (xs ++ ys) ≡ flat_map f xs ++ flat_map f ys
flat_map-append f [] ys = refl
flat_map-append f (x ∷ xs) ys = ap (λ z. f x ++ z) (flat_map-append f xs ys) ∙ sym (append_assoc (f x) (flat_map f xs) (flat_map f ys))

pub loads-append : (ps qs : List Piece) → loads (ps ++ qs) ≡ loads ps ++ loads qs
loads-append ps qs = flat_map-append load ps qs

pub cargo-append : (ms ns : List Marked) → cargo (ms ++ ns) ≡ cargo ms ++ cargo ns
cargo-append ms ns = ap (flat_map carried) (map-append (λ (m : Marked). m.0) ms ns) ∙ flat_map-append carried (plain ms) (plain ns)

pub cargo_deep : (too : Bool) (ms : List Marked) → cargo (ends_deep too ms) ≡ cargo ms
cargo_deep too [] = refl
cargo_deep too (m ∷ []) = refl
cargo_deep too (m ∷ n ∷ ms) = ap (λ z. carried m.0 ++ z) (cargo_deep too (n ∷ ms))

pub cargo_begins : (m : Mark) (ms : List Marked) → cargo (begins_with m ms) ≡ cargo ms
cargo_begins m [] = refl
cargo_begins m (t ∷ ms) = refl

abbrev pub Good : Program → Piece → Type 0
Good p (number n) = InInt n
Good p (name i) = IsName (name_text p i)
Good p (text i) = IsShown (bytes_at p.texts i)
Good p _ = Unit {0}

abbrev pub AllGood : Program → List Piece → Type 0
AllGood p [] = Unit {0}
AllGood p (q ∷ qs) = Good p q × AllGood p qs

pub good_parts : (p : Program) (xs ys : List Piece) → AllGood p (xs ++ ys) → AllGood p xs × AllGood p ys
good_parts p [] ys h = (tt, h)
good_parts p (x ∷ xs) ys h = let r = good_parts p xs ys h.1 in ((h.0, r.0), r.1)

pub replay_good : (p : Program) (qs : List Piece) (ns ts : List (List ℕ)) (r : ℕ) → Replays p ns ts r qs → AllGood p qs
replay_good p [] ns ts r h = tt
replay_good p (number n ∷ qs) ns ts r h = (h.0, replay_good p qs ns ts r h.1)
replay_good p (name i ∷ qs) ns ts r h = (h.0, replay_good p qs _ _ _ h.3)
replay_good p (text i ∷ qs) ns ts r h = (h.0, replay_good p qs _ _ _ h.2)
replay_good p (block i ∷ qs) ns ts r h = (tt, replay_good p qs _ _ _ h.1)
replay_good p (pieces.plain kind bare ∷ qs) ns ts r h = (tt, replay_good p qs ns ts r h)

pub replay_loads : (p : Program) (qs : List Piece) (ns ts : List (List ℕ)) (r : ℕ) → Replays p ns ts r (loads qs) → Replays p ns ts r qs
replay_loads p [] ns ts r h = h
replay_loads p (number n ∷ qs) ns ts r h = (h.0, replay_loads p qs ns ts r h.1)
replay_loads p (name i ∷ qs) ns ts r h = (h.0, h.1, h.2, replay_loads p qs _ _ _ h.3)
replay_loads p (text i ∷ qs) ns ts r h = (h.0, h.1, replay_loads p qs _ _ _ h.2)
replay_loads p (block i ∷ qs) ns ts r h = (h.0, replay_loads p qs _ _ _ h.1)
replay_loads p (pieces.plain kind bare ∷ qs) ns ts r h = replay_loads p qs ns ts r h

-- ---- tokens of two lists of pieces

pub record Cut (ps qs : List Piece) (all : List Token) : Type 0 where
  pub front : List Token
  pub back : List Token
  pub split : all ≡ front ++ back
  pub first : AreTokens ps front
  pub second : AreTokens qs back

pub cut : (ps qs : List Piece) (all : List Token) → AreTokens (ps ++ qs) all → Cut ps qs all
cut [] qs all h = record { front = []; back = all; split = refl; first = tt; second = h }
cut (q ∷ ps) qs [] h = absurd h
cut (q ∷ ps) qs (t ∷ ts) h = let r = cut ps qs ts h.1 in record { front = t ∷ r.front; back = r.back; split = ap (λ (ys : List Token). t ∷ ys) r.split; first = (h.0, r.first); second = r.second }

pub record Head (q : Piece) (qs : List Piece) (all : List Token) : Type 0 where
  pub one : Token
  pub more : List Token
  pub split : all ≡ one ∷ more
  pub is : IsToken q one
  pub rest : AreTokens qs more

pub head : (q : Piece) (qs : List Piece) (all : List Token) → AreTokens (q ∷ qs) all → Head q qs all
head q qs [] h = absurd h
head q qs (t ∷ ts) h = record { one = t; more = ts; split = refl; is = h.0; rest = h.1 }

pub no_more : (all : List Token) → AreTokens [] all → all ≡ []
no_more [] h = refl
no_more (t ∷ ts) h = absurd h

-- ---- marks

abbrev pub fines : List Token → List Marked
fines = map token

pub fines-append : (xs ys : List Token) → fines (xs ++ ys) ≡ fines xs ++ fines ys
fines-append xs ys = map-append token xs ys

pub plain-fines : (ts : List Token) → plain (fines ts) ≡ ts
plain-fines [] = refl
plain-fines (t ∷ ts) = ap (λ (ys : List Token). t ∷ ys) (plain-fines ts)

pub all_fine : (ts : List Token) → AllFine (fines ts)
all_fine [] = tt
all_fine (t ∷ ts) = (refl, all_fine ts)

pub fine_parts : (ms ns : List Marked) → AllFine (ms ++ ns) → AllFine ms × AllFine ns
fine_parts [] ns h = (tt, h)
fine_parts (m ∷ ms) ns h = let r = fine_parts ms ns h.1 in ((h.0, r.0), r.1)

pub not_deep : (ms : List Marked) → ends_deep false ms ≡ ms
not_deep [] = refl
not_deep (m ∷ []) = refl
not_deep (m ∷ n ∷ ms) = ap (λ (r : List Marked). m ∷ r) (not_deep (n ∷ ms))

abbrev pub Some-Marked : List Marked → Type 0
Some-Marked [] = ⊥
Some-Marked (m ∷ ms) = Unit {0}

deepened_fine : (m : Mark) → deepened m ≡ fine → ⊥
deepened_fine fine h = cc
deepened_fine (over w) h = cc
deepened_fine (late w) h = cc

pub deep_fine : (too : Bool) (ms : List Marked) → Some-Marked ms → AllFine (ends_deep too ms) → (too ≡ false) × AllFine ms
deep_fine too [] some h = absurd some
deep_fine true (m ∷ []) some h = absurd (deepened_fine m.1 h.0)
deep_fine false (m ∷ []) some h = (refl, h)
deep_fine too (m ∷ n ∷ ms) some h = let r = deep_fine too (n ∷ ms) tt h.1 in (r.0, (h.0, r.1))

or_fine : (a b : Mark) → or_else a b ≡ fine → (a ≡ fine) × (b ≡ fine)
or_fine fine b h = (refl, h)
or_fine (over w) b h = absurd cc
or_fine (late w) b h = absurd cc

pub begin_fine : (m : Mark) (ms : List Marked) → Some-Marked ms → AllFine (begins_with m ms) → (m ≡ fine) × AllFine ms
begin_fine m [] some h = absurd some
begin_fine m (t ∷ ms) some h = let r = or_fine t.1 m h.0 in (r.1, (r.0, h.1))

pub begin_with_fine : (ms : List Marked) → begins_with fine ms ≡ ms
begin_with_fine [] = refl
begin_with_fine ((t, fine) ∷ ms) = refl
begin_with_fine ((t, over w) ∷ ms) = refl
begin_with_fine ((t, late w) ∷ ms) = refl

pub size_fine : (t : Token) → by_size t ≡ fine → t.over ≡ false
size_fine t h = by t.over refl h
  where
    by : (b : Bool) → t.over ≡ b → (cond b (late (size_limit t.kind)) fine) ≡ fine → t.over ≡ false
    by true is h = absurd cc
    by false is h = is

pub size_is : (t : Token) → t.over ≡ false → by_size t ≡ fine
size_is t h = rw h refl

pub length_fine : (m : Mark) (t : Token) → by_length m t ≡ fine → (t.over ≡ false) × (m ≡ fine)
length_fine m t h = by t.over refl h
  where
    by : (b : Bool) → t.over ≡ b → (cond b (over 6) m) ≡ fine → (t.over ≡ false) × (m ≡ fine)
    by true is h = absurd cc
    by false is h = (is, h)

pub length_is : (m : Mark) (t : Token) → t.over ≡ false → m ≡ fine → by_length m t ≡ fine
length_is m t h is = rw h is

pub parens_is : (p : ℕ) → p < 64 → by_parens p ≡ fine
parens_is p low = rw (lt-ltb p 64 low) refl

pub deep_is : (d : ℕ) → d ≤ 64 → is_deep d ≡ false
deep_is d low = rw (le-leb d 64 low) refl

pub shallow : (d : ℕ) → is_deep d ≡ false → d ≤ 64
shallow d h = by (leb d 64) refl h
  where
    by : (b : Bool) → leb d 64 ≡ b → cond b false true ≡ false → d ≤ 64
    by true is h = leb-true d 64 is
    by false is h = absurd cc
