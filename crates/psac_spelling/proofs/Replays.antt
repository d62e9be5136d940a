-- Names, texts and reads are numbered again as they were.
use Rattle.std.proofs.Common.{◌≡◌, ℕ, ℤ, pos, suc, zero, ◌+◌, ◌-◌, ◌*◌, ◌<◌, ◌^◌, Bool, true, false, cond, List, [], ◌∷◌, ◌++◌, length, refl, sym, ap, ◌∙◌, subst, arith, Option, Some, None}
use Rattle.std.specs.Prelude.{◌==◌, nat_lt, flat_map, slice_get, if◌then◌else◌}
use Rattle.std.specs.Str.{bytes_eq}
use Rattle.std.proofs.lemmas.Bool.{eqb-true, eqb-false, ltb-true}
use Rattle.std.proofs.lemmas.Slice.Eq.{bytes_eq-Decides}
use Rattle.psac_syntax.specs.declared.program.Program.{Program}
use Rattle.psac_tokens.specs.declared.token.Kind.{Kind}
use Rattle.psac_tokens.specs.declared.token.Kind.TheVariants as k
use Rattle.psac_tokens.specs.declared.token.Token.{Token}
use Rattle.psac_tokens.specs.Lex.{Lexeme}
use Rattle.psac_tokens.proofs.Digits.{digits_are, int_after}
use Rattle.psac_tokens.specs.Number.{int_of, number_or_zero, is_over, place_of, with_word, names_with, texts_with, reads_with, text_of, token_of, tokens_after, names_after, texts_after, reads_after}
use Rattle.psac_spelling.specs.Canonical.{bytes_at, name_text, quoted}
use Rattle.psac_spelling.proofs.Pieces.{Piece, number, name, text, block, plain, Bare, kind_of, kind_text, spell, Lexes}
use Rattle.psac_spelling.proofs.Numbers.{value_of}
use Rattle.psac_spelling.proofs.Quotes.{content_is}
use Rattle.psac_spelling.proofs.Found.{IsName, IsShown, Sound, AllSound}

pub record InInt (n : ℤ) : Type 0 where
  pub size : ℕ
  pub is : n ≡ pos size
  pub low : size < 2 ^ 63

-- Behind these names, texts and reads the pieces number theirs as the program has them, up to the end.
abbrev pub Replays : Program → List (List ℕ) → List (List ℕ) → ℕ → List Piece → Type 0
Replays p ns ts r [] = (ns ≡ p.names) × (ts ≡ p.texts) × (r ≡ p.blocks)
Replays p ns ts r (number n ∷ qs) = InInt n × Replays p ns ts r qs
Replays p ns ts r (name i ∷ qs) =
    IsName (name_text p i) × (nat_lt 32 (length (name_text p i)) ≡ false) × (place_of (name_text p i) ns ≡ i) × Replays p (with_word ns (name_text p i)) ts r qs
Replays p ns ts r (text i ∷ qs) = IsShown (bytes_at p.texts i) × (place_of (bytes_at p.texts i) ts ≡ i) × Replays p ns (with_word ts (bytes_at p.texts i)) r qs
Replays p ns ts r (block i ∷ qs) = (r ≡ i) × Replays p ns ts (r + 1) qs
Replays p ns ts r (plain kind bare ∷ qs) = Replays p ns ts r qs

-- ---- what a token carries

abbrev pub carried_by : Kind → Token → List Piece
carried_by k.Int t = number t.number ∷ []
carried_by k.Name t = name t.index ∷ []
carried_by k.Text t = text t.index ∷ []
carried_by k.Read t = block t.index ∷ []
carried_by _ t = []

abbrev pub carried : Token → List Piece
carried t = carried_by t.kind t

-- a name or a number within its limit
abbrev pub FitsAs : Kind → Token → Type 0
FitsAs k.Int t = t.over ≡ false
FitsAs k.Name t = t.over ≡ false
FitsAs _ t = Unit {0}

abbrev pub Fits : Token → Type 0
Fits t = FitsAs t.kind t

abbrev pub NoneOver : List Token → Type 0
NoneOver [] = Unit {0}
NoneOver (t ∷ ts) = Fits t × NoneOver ts

-- ---- words keep their places

same_word : (x y : List ℕ) → bytes_eq x y ≡ true → x ≡ y
same_word x y h = (bytes_eq-Decides x y).0 h

place_cons : (w x : List ℕ) (ns : List (List ℕ)) (b : Bool) → bytes_eq w x ≡ b → place_of w (x ∷ ns) ≡ cond b 0 (suc (place_of w ns))
place_cons w x ns true is = rw is refl
place_cons w x ns false is = rw is (omega arith)

got_at : (w : List ℕ) (ns : List (List ℕ)) → place_of w ns ≡ length ns → slice_get (ns ++ w ∷ []) (place_of w ns) ≡ Some w
got_at w [] h = refl
got_at w (x ∷ ns) h = by (bytes_eq w x) refl (λ g. got_at w ns g) h
  where
    by : (b : Bool) → bytes_eq w x ≡ b → (place_of w ns ≡ length ns → slice_get (ns ++ w ∷ []) (place_of w ns) ≡ Some w) → place_of w (x ∷ ns) ≡ suc (length ns) → slice_get (x ∷ (ns ++ w ∷ [])) (place_of w (x ∷ ns)) ≡ Some w
    by true is rest h = absurd (let e = place_cons w x ns true is in omega arith)
    by false is rest h = let e = place_cons w x ns false is in rw e (rest (omega arith))

got_in : (w : List ℕ) (ns : List (List ℕ)) → (place_of w ns ≡ length ns → ⊥) → slice_get ns (place_of w ns) ≡ Some w
got_in w [] h = absurd (h refl)
got_in w (x ∷ ns) h = by (bytes_eq w x) refl (λ g. got_in w ns g)
  where
    by : (b : Bool) → bytes_eq w x ≡ b → ((place_of w ns ≡ length ns → ⊥) → slice_get ns (place_of w ns) ≡ Some w) → slice_get (x ∷ ns) (place_of w (x ∷ ns)) ≡ Some w
    by true is rest = rw (place_cons w x ns true is) (ap Some (sym (same_word w x is)))
    by false is rest = let e = place_cons w x ns false is in rw e (rest (λ g. h (omega arith)))

pub got_word : (w : List ℕ) (ns : List (List ℕ)) → slice_get (with_word ns w) (place_of w ns) ≡ Some w
got_word w ns = by (place_of w ns == length ns) refl
  where
    by : (b : Bool) → (place_of w ns == length ns) ≡ b → slice_get (if b then ns ++ w ∷ [] else ns) (place_of w ns) ≡ Some w
    by true is = got_at w ns (eqb-true (place_of w ns) (length ns) is)
    by false is = got_in w ns (eqb-false (place_of w ns) (length ns) is)

get_append : (xs ys : List (List ℕ)) (i : ℕ) (w : List ℕ) → slice_get xs i ≡ Some w → slice_get (xs ++ ys) i ≡ Some w
get_append [] ys i w h = absurd cc
get_append (x ∷ xs) ys zero w h = h
get_append (x ∷ xs) ys (suc i) w h = get_append xs ys i w h

kept_word : (v : List ℕ) (ns : List (List ℕ)) (i : ℕ) (w : List ℕ) → slice_get ns i ≡ Some w → slice_get (with_word ns v) i ≡ Some w
kept_word v ns i w h = by (place_of v ns == length ns)
  where
    by : (b : Bool) → slice_get (if b then ns ++ v ∷ [] else ns) i ≡ Some w
    by true = get_append ns (v ∷ []) i w h
    by false = h

kept_name : (kind : Kind) (v : List ℕ) (ns : List (List ℕ)) (i : ℕ) (w : List ℕ) → slice_get ns i ≡ Some w → slice_get (names_with ns kind v) i ≡ Some w
kept_name k.Name v ns i w h = kept_word v ns i w h
kept_name _ v ns i w h = h

kept_text : (kind : Kind) (v : List ℕ) (ns : List (List ℕ)) (i : ℕ) (w : List ℕ) → slice_get ns i ≡ Some w → slice_get (texts_with ns kind v) i ≡ Some w
kept_text k.Text v ns i w h = kept_word (text_of v) ns i w h
kept_text _ v ns i w h = h

kept_names : (xs : List Lexeme) (ns : List (List ℕ)) (i : ℕ) (w : List ℕ) → slice_get ns i ≡ Some w → slice_get (names_after ns xs) i ≡ Some w
kept_names [] ns i w h = h
kept_names (x ∷ xs) ns i w h = kept_names xs (names_with ns x.kind x.text) i w (kept_name x.kind x.text ns i w h)

kept_texts : (xs : List Lexeme) (ns : List (List ℕ)) (i : ℕ) (w : List ℕ) → slice_get ns i ≡ Some w → slice_get (texts_after ns xs) i ≡ Some w
kept_texts [] ns i w h = h
kept_texts (x ∷ xs) ns i w h = kept_texts xs (texts_with ns x.kind x.text) i w (kept_text x.kind x.text ns i w h)

-- ---- the tokens of a program's own text

int_low : (n m : ℕ) (ds : List ℕ) → n < 2 ^ 63 → int_after n ds ≡ Some m → m < 2 ^ 63
int_low n m [] low h = let e : n ≡ m = cc in omega arith
int_low n m (c ∷ cs) low h = by (nat_lt (n * 10 + (c - 48)) (2 ^ 63)) refl (λ l g. int_low (n * 10 + (c - 48)) m cs l g) h
  where
    by : (b : Bool) → nat_lt (n * 10 + (c - 48)) (2 ^ 63) ≡ b → (n * 10 + (c - 48) < 2 ^ 63 → int_after (n * 10 + (c - 48)) cs ≡ Some m → m < 2 ^ 63) → (if b then int_after (n * 10 + (c - 48)) cs else None) ≡ Some m → m < 2 ^ 63
    by true is rest h = rest (ltb-true (n * 10 + (c - 48)) (2 ^ 63) is) h
    by false is rest h = absurd cc

int_in : (ds : List ℕ) (o : Option ℕ) → int_of ds ≡ o → is_over o ≡ false → InInt (number_or_zero o)
int_in ds (Some n) is h = record { size = n; is = refl; low = int_low 0 n ds (omega arith) (digits_are ds ∙ is) }
int_in ds None is h = absurd cc

-- a name and a text stand where their tokens say
abbrev Kept : Program → List (List ℕ) → List (List ℕ) → Kind → List ℕ → Type 0
Kept p ns ts k.Name w = bytes_at p.names (place_of w ns) ≡ w
Kept p ns ts k.Text w = bytes_at p.texts (place_of (text_of w) ts) ≡ text_of w
Kept p ns ts _ w = Unit {0}

at_place : (words : List (List ℕ)) (i : ℕ) (w : List ℕ) → slice_get words i ≡ Some w → bytes_at words i ≡ w
at_place words i w h = rw h refl

kept : (p : Program) (ns ts : List (List ℕ)) (kind : Kind) (w : List ℕ) (xs : List Lexeme) → names_after (names_with ns kind w) xs ≡ p.names → texts_after (texts_with ts kind w) xs ≡ p.texts → Kept p ns ts kind w
kept p ns ts k.Name w xs n t = at_place p.names (place_of w ns) w (subst (λ all. slice_get all (place_of w ns) ≡ Some w) n (kept_names xs (with_word ns w) (place_of w ns) w (got_word w ns)))
kept p ns ts k.Text w xs n t = at_place p.texts (place_of (text_of w) ts) (text_of w) (subst (λ all. slice_get all (place_of (text_of w) ts) ≡ Some (text_of w)) t (kept_texts xs (with_word ts (text_of w)) (place_of (text_of w) ts) (text_of w) (got_word (text_of w) ts)))
kept p ns ts _ w xs n t = tt

one_replays : (p : Program) (ns ts : List (List ℕ)) (r : ℕ) (kind : Kind) (w : List ℕ) (line column : ℕ) (qs : List Piece) → Sound kind w → Fits (token_of ns ts r kind w line column) → Kept p ns ts kind w
    → Replays p (names_with ns kind w) (texts_with ts kind w) (reads_with r kind) qs → Replays p ns ts r (carried (token_of ns ts r kind w line column) ++ qs)
one_replays p ns ts r k.Int w line column qs sound over kept rest = (int_in w (int_of w) refl over, rest)
one_replays p ns ts r k.Name w line column qs sound over kept rest = rw kept (sound, over, refl, rest)
one_replays p ns ts r k.Text w line column qs sound over kept rest = rw kept (sound, refl, rest)
one_replays p ns ts r k.Read w line column qs sound over kept rest = (refl, rest)
one_replays p ns ts r _ w line column qs sound over kept rest = rest

pub replays : (p : Program) (ns ts : List (List ℕ)) (r : ℕ) (xs : List Lexeme) → AllSound xs → NoneOver (tokens_after ns ts r xs) → names_after ns xs ≡ p.names → texts_after ts xs ≡ p.texts → reads_after r xs ≡ p.blocks
    → Replays p ns ts r (flat_map carried (tokens_after ns ts r xs))
replays p ns ts r [] sound over n t b = (n, t, b)
replays p ns ts r (x ∷ xs) sound over n t b =
    one_replays p ns ts r x.kind x.text x.line x.column (flat_map carried (tokens_after (names_with ns x.kind x.text) (texts_with ts x.kind x.text) (reads_with r x.kind) xs)) sound.0 over.0 (kept p ns ts x.kind x.text xs n t)
    (replays p (names_with ns x.kind x.text) (texts_with ts x.kind x.text) (reads_with r x.kind) xs sound.1 over.1 n t b)

-- ---- the tokens of a printed text

abbrev pub Holds : Piece → Token → Type 0
Holds (number n) t = t.number ≡ n
Holds (name i) t = t.index ≡ i
Holds (text i) t = t.index ≡ i
Holds (block i) t = t.index ≡ i
Holds (plain kind bare) t = Unit {0}

pub record IsToken (q : Piece) (t : Token) : Type 0 where
  pub kind : t.kind ≡ kind_of q
  pub fits : t.over ≡ false
  pub holds : Holds q t

abbrev pub AreTokens : List Piece → List Token → Type 0
AreTokens [] [] = Unit {0}
AreTokens [] (t ∷ ts) = ⊥
AreTokens (q ∷ qs) [] = ⊥
AreTokens (q ∷ qs) (t ∷ ts) = IsToken q t × AreTokens qs ts

-- the tokens are the pieces, and then the end
pub record Numbered (qs : List Piece) (all : List Token) : Type 0 where
  pub tokens : List Token
  pub last : Token
  pub split : all ≡ tokens ++ last ∷ []
  pub are : AreTokens qs tokens
  pub ends : last.kind ≡ k.End

-- the program is numbered as it was
pub record Counted (p : Program) (ns ts : List (List ℕ)) (r : ℕ) : Type 0 where
  pub names : ns ≡ p.names
  pub texts : ts ≡ p.texts
  pub reads : r ≡ p.blocks

bare_token : (p : Program) (ns ts : List (List ℕ)) (r : ℕ) (kind : Kind) (bare : Bare kind) (w : List ℕ) (line column : ℕ) (qs : List Piece) → Replays p ns ts r qs
    → IsToken (plain kind bare) (token_of ns ts r kind w line column) × Replays p (names_with ns kind w) (texts_with ts kind w) (reads_with r kind) qs
bare_token p ns ts r k.Int bare w line column qs rest = absurd bare
bare_token p ns ts r k.Name bare w line column qs rest = absurd bare
bare_token p ns ts r k.Text bare w line column qs rest = absurd bare
bare_token p ns ts r k.Read bare w line column qs rest = absurd bare
bare_token p ns ts r _ bare w line column qs rest = (record { kind = refl; fits = refl; holds = tt }, rest)

one_token : (p : Program) (ns ts : List (List ℕ)) (r : ℕ) (q : Piece) (line column : ℕ) (qs : List Piece) → Replays p ns ts r (q ∷ qs)
    → IsToken q (token_of ns ts r (kind_of q) (spell p q) line column) × Replays p (names_with ns (kind_of q) (spell p q)) (texts_with ts (kind_of q) (spell p q)) (reads_with r (kind_of q)) qs
one_token p ns ts r (number n) line column qs h =
    let e = value_of h.0.size h.0.low in
    (rw h.0.is (record { kind = refl; fits = rw e refl; holds = rw e refl }), h.1)
one_token p ns ts r (name i) line column qs h = (record { kind = refl; fits = h.1; holds = h.2 }, h.3)
one_token p ns ts r (text i) line column qs h =
    let bs = bytes_at p.texts i in
    let e : text_of (quoted bs) ≡ bs = content_is bs [] in
    (record { kind = refl; fits = refl; holds = rw e h.1 }, rw e h.2)
one_token p ns ts r (block i) line column qs h = (record { kind = refl; fits = refl; holds = h.0 }, h.1)
one_token p ns ts r (plain kind bare) line column qs h = bare_token p ns ts r kind bare (kind_text kind) line column qs h

ended : (ns ts : List (List ℕ)) (r : ℕ) (kind : Kind) (w : List ℕ) (line column : ℕ) → kind ≡ k.End → Numbered [] (token_of ns ts r kind w line column ∷ [])
ended ns ts r kind w line column is = rw is (record { tokens = []; last = token_of ns ts r k.End w line column; split = refl; are = tt; ends = refl })

pub numbered : (p : Program) (ns ts : List (List ℕ)) (r : ℕ) (qs : List Piece) (xs : List Lexeme) → Lexes p qs xs → Replays p ns ts r qs
    → Numbered qs (tokens_after ns ts r xs) × Counted p (names_after ns xs) (texts_after ts xs) (reads_after r xs)
numbered p ns ts r qs [] l h = absurd l
numbered p ns ts r [] (x ∷ xs) l h =
    rw l.1 (ended ns ts r x.kind x.text x.line x.column l.0, rw l.0 (record { names = h.0; texts = h.1; reads = h.2 }))
numbered p ns ts r (q ∷ qs) (x ∷ xs) l h =
    let one = one_token p ns ts r q x.line x.column qs h in
    let rest = numbered p (names_with ns (kind_of q) (spell p q)) (texts_with ts (kind_of q) (spell p q)) (reads_with r (kind_of q)) qs xs l.2 one.1 in
    rw (l.0, l.1) (
      record { tokens = token_of ns ts r (kind_of q) (spell p q) x.line x.column ∷ rest.0.tokens; last = rest.0.last; split = ap (λ (ys : List Token). token_of ns ts r (kind_of q) (spell p q) x.line x.column ∷ ys) rest.0.split; are = (one.0, rest.0.are); ends = rest.0.ends },
      rest.1,
    )
