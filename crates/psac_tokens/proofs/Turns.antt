-- One token after the other, beside a loop that counts up.
use Rattle.std.proofs.Common.{◌≡◌, ℕ, suc, ◌+◌, ◌-◌, ◌<◌, ◌≤◌, Bool, true, false, cond, eqb, List, [], ◌∷◌, ◌++◌, append_assoc, drop, ◌⊎◌, inl, inr, refl, sym, ap, ◌∙◌, arith}
use Rattle.std.proofs.lemmas.Bool.{eqb-true}
use Rattle.psac_tokens.specs.declared.place.Place.{Place}
use Rattle.psac_tokens.specs.declared.token.Kind.{Kind}
use Rattle.psac_tokens.specs.declared.token.Kind.TheVariants as k
use Rattle.psac_tokens.specs.Lex.{Lexeme, skip, front, lexeme, past, lexemes_from}
use Rattle.psac_tokens.specs.declared.token.Token.{Token}
use Rattle.psac_tokens.specs.Number.{token_of, plain_token, names_with, texts_with, reads_with, tokens_after, names_after, texts_after, reads_after}

not_empty : (b : Bool) (size : ℕ) (more : List Lexeme) → eqb size 0 ≡ b → (size ≡ 0 → ⊥) → cond b [] more ≡ more
not_empty true size more is some = absurd (some (eqb-true size 0 is))
not_empty false size more is some = refl

is_empty : (size : ℕ) (more : List Lexeme) → size ≡ 0 → cond (eqb size 0) [] more ≡ []
is_empty size more none = rw none refl

module _ (n i : ℕ) (z z' : List ℕ) (p p' : Place) (f : Kind × ℕ) (lt : i < n) (z_is : z' ≡ (skip false z p).0) (p_is : p' ≡ (skip false z p).1) (f_is : f ≡ front z') where
  -- a token of some length, and those behind it
  pub goes_on : (f.1 ≡ 0 → ⊥) → lexemes_from (n - i) z p ≡ lexeme f (z', p') ∷ lexemes_from (n - (i + 1)) (drop f.1 z') (past f.1 p')
  unfolding lexemes_from
  goes_on some =
      let k : n - i ≡ suc (n - (i + 1)) = omega arith in
      let more = lexemes_from (n - (i + 1)) (drop f.1 z') (past f.1 p') in
      rw k (rw (← z_is, ← p_is, ← f_is) (ap (λ (r : List Lexeme). lexeme f (z', p') ∷ r) (not_empty (eqb f.1 0) f.1 more refl some)))

  -- a token of no length is the last
  pub ends : f.1 ≡ 0 → lexemes_from (n - i) z p ≡ lexeme f (z', p') ∷ []
  unfolding lexemes_from
  ends none =
      let k : n - i ≡ suc (n - (i + 1)) = omega arith in
      let more = lexemes_from (n - (i + 1)) (drop f.1 z') (past f.1 p') in
      rw k (rw (← z_is, ← p_is, ← f_is) (ap (λ (r : List Lexeme). lexeme f (z', p') ∷ r) (is_empty f.1 more none)))

pub none_left : (n i : ℕ) (z : List ℕ) (p : Place) → n ≤ i → lexemes_from (n - i) z p ≡ []
unfolding lexemes_from
none_left n i z p le = let k : n - i ≡ 0 = omega arith in ap (λ m. lexemes_from m z p) k

-- the last token has no number, and is no name, text or read
pub last_is : (kind : Kind) (names texts : List (List ℕ)) (reads : ℕ) (text : List ℕ) (line column : ℕ) → (kind ≡ k.Unreadable) ⊎ (kind ≡ k.End)
    → (token_of names texts reads kind text line column ≡ plain_token kind line column) × (names_with names kind text ≡ names) × (texts_with texts kind text ≡ texts) × (reads_with reads kind ≡ reads)
last_is kind names texts reads text line column (inl h) = rw h (refl, refl, refl, refl)
last_is kind names texts reads text line column (inr h) = rw h (refl, refl, refl, refl)

-- what was numbered, and what is numbered behind these tokens
pub record Numbers : Type 0 where
  pub names : List (List ℕ)
  pub texts : List (List ℕ)
  pub reads : ℕ

abbrev pub token_behind : Numbers → Lexeme → Token
token_behind n x = token_of n.names n.texts n.reads x.kind x.text x.line x.column

pub record Adds (n m : Numbers) (x : Lexeme) : Type 0 where
  pub names : m.names ≡ names_with n.names x.kind x.text
  pub texts : m.texts ≡ texts_with n.texts x.kind x.text
  pub reads : m.reads ≡ reads_with n.reads x.kind

-- ---- what a turn leaves

pub tokens_on : (n m : Numbers) (x : Lexeme) (xs more : List Lexeme) (found new all : List Token) (made : Token) → Adds n m x → xs ≡ x ∷ more → made ≡ token_behind n x
    → new ≡ found ++ made ∷ [] → found ++ tokens_after n.names n.texts n.reads xs ≡ all → new ++ tokens_after m.names m.texts m.reads more ≡ all
tokens_on n m x xs more found new all made a xs_is made_is new_is so_far =
    rw (new_is, a.names, a.texts, a.reads, made_is) (append_assoc found (token_behind n x ∷ []) (tokens_after (names_with n.names x.kind x.text) (texts_with n.texts x.kind x.text) (reads_with n.reads x.kind) more) ∙ ap (λ ys. found ++ tokens_after n.names n.texts n.reads ys) (sym xs_is) ∙ so_far)

pub names_on : (n m : Numbers) (x : Lexeme) (xs more : List Lexeme) (all : List (List ℕ)) → Adds n m x → xs ≡ x ∷ more → names_after n.names xs ≡ all → names_after m.names more ≡ all
names_on n m x xs more all a xs_is so_far = rw a.names (ap (names_after n.names) (sym xs_is) ∙ so_far)

pub texts_on : (n m : Numbers) (x : Lexeme) (xs more : List Lexeme) (all : List (List ℕ)) → Adds n m x → xs ≡ x ∷ more → texts_after n.texts xs ≡ all → texts_after m.texts more ≡ all
texts_on n m x xs more all a xs_is so_far = rw a.texts (ap (texts_after n.texts) (sym xs_is) ∙ so_far)

pub reads_on : (n m : Numbers) (x : Lexeme) (xs more : List Lexeme) (all : ℕ) → Adds n m x → xs ≡ x ∷ more → reads_after n.reads xs ≡ all → reads_after m.reads more ≡ all
reads_on n m x xs more all a xs_is so_far = rw a.reads (ap (reads_after n.reads) (sym xs_is) ∙ so_far)
