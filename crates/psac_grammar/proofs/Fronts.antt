-- What the answer of a text's tokens tells of their marks.
use Rattle.std.proofs.Common.{◌≡◌, ℕ, suc, ◌+◌, ◌≤◌, Bool, true, false, List, [], ◌∷◌, ◌++◌, length, length-append, Option, Some, None, refl, sym, ap, subst, ◌∙◌, arith}
use Rattle.std.proofs.lemmas.List.{append-nil}
use Rattle.psac_syntax.specs.declared.program.Func.{Func}
use Rattle.psac_tokens.specs.declared.token.Token.{Token}
use Rattle.psac_grammar.specs.Marked.{Mark, fine, over, late, Marked, plain, AllFine}
use Rattle.psac_grammar.specs.Machine.{of_funcs, Behind, behind, Fault, limit, Answer, accepted, failed, Counted, no_limits, late_limits, all_limits, counts_late, counts_over, step, run_with}
use Rattle.psac_grammar.proofs.Runs.{by_late, by_over}
use Rattle.psac_grammar.proofs.Through.{through}
use Rattle.psac_grammar.proofs.Whole.{at_end, lax_end}
use Rattle.psac_grammar.proofs.Fills.{past_lax}
use Rattle.psac_grammar.proofs.Walks.{Short, run_short, left_is}

pub plain-length : (ms : List Marked) (ts : List Token) → length (plain ms ++ ts) ≡ length ms + length ts
plain-length [] ts = omega arith
plain-length (m ∷ ms) ts = omega (arith, plain-length ms ts)

-- the token before: its line, and the limit that is pending
abbrev pub from : Option ℕ → ℕ → Behind
from o line = record { line = line; late = o }

short_more : (n m : ℕ) (a : Answer) → n ≤ m → Short n a → Short m a
short_more n m (accepted ws) le h = tt
short_more n m (failed f left) le h = omega (arith, le, h)

-- ---- no mark but the last one is late

abbrev pub NotLate : Mark → Type 0
NotLate (late w) = ⊥
NotLate fine = Unit {0}
NotLate (over w) = Unit {0}

abbrev pub NoneLate : List Marked → Type 0
NoneLate [] = Unit {0}
NoneLate (m ∷ ms) = NotLate m.1 × NoneLate ms

too_long_over : (ms back : List Marked) → suc (length (plain (ms ++ back) ++ [])) ≤ length back → ⊥
too_long_over ms back h = omega (arith, h, plain-length (ms ++ back) [], length-append ms back)

too_long : (ms back : List Marked) (m : Marked) → suc (length (plain (ms ++ m ∷ back) ++ [])) ≤ length back → ⊥
too_long ms back m h = omega (arith, h, plain-length (ms ++ m ∷ back) [], length-append ms (m ∷ back))

none_late_of : (fs : List Func) (o : Option ℕ) (line : ℕ) (front : List Marked) (m : Marked) (back : List Marked) → Short (length back) (through late_limits (from o line) (front ++ m ∷ back) [] (at_end late_limits fs)) → NoneLate front × (o ≡ None)
none_late_of fs None line [] m back h = (tt, refl)
none_late_of fs (Some w) line [] m back h = absurd (too_long_over [] back h)
none_late_of fs (Some w) line ((u, q) ∷ front) m back h = absurd (too_long front back m h)
none_late_of fs None line ((u, fine) ∷ front) m back h = ((tt, (none_late_of fs None u.line front m back h).0), refl)
none_late_of fs None line ((u, over w) ∷ front) m back h = ((tt, (none_late_of fs None u.line front m back h).0), refl)
none_late_of fs None line ((u, late w) ∷ front) m back h = absurd (let e : Some w ≡ None = (none_late_of fs (Some w) u.line front m back h).1 in cc)

pub none_late : (fs : List Func) (line : ℕ) (front : List Marked) (m : Marked) (back : List Marked) → Short (length back) (through late_limits (from None line) (front ++ m ∷ back) [] (at_end late_limits fs)) → NoneLate front
none_late fs line front m back h = (none_late_of fs None line front m back h).0

-- ---- no mark is exceeded at once

abbrev pub NotOver : Mark → Type 0
NotOver (over w) = ⊥
NotOver fine = Unit {0}
NotOver (late w) = Unit {0}

abbrev pub NoneOver : List Marked → Type 0
NoneOver [] = Unit {0}
NoneOver (m ∷ ms) = NotOver m.1 × NoneOver ms

pub none_over : (fs : List Func) (o : Option ℕ) (line : ℕ) (front back : List Marked) → Short (length back) (through all_limits (from o line) (front ++ back) [] (at_end all_limits fs)) → NoneOver front
none_over fs o line [] back h = tt
none_over fs (Some w) line ((u, q) ∷ front) back h = absurd (too_long_over front back h)
none_over fs None line ((u, fine) ∷ front) back h = (tt, none_over fs None u.line front back h)
none_over fs None line ((u, late w) ∷ front) back h = (tt, none_over fs (Some w) u.line front back h)
none_over fs None line ((u, over w) ∷ front) back h = absurd (too_long_over front back h)

pub none_over_front : (front back : List Marked) → NoneOver (front ++ back) → NoneOver front
none_over_front [] back h = tt
none_over_front (m ∷ front) back h = (h.0, none_over_front front back h.1)

fine_is : (m : Mark) → NotLate m → NotOver m → m ≡ fine
fine_is fine h j = refl
fine_is (over w) h j = absurd j
fine_is (late w) h j = absurd h

pub fine_both : (front : List Marked) → NoneLate front → NoneOver front → AllFine front
fine_both [] h j = tt
fine_both (m ∷ front) h j = (fine_is m.1 h.0 j.0, fine_both front h.1 j.1)

-- ---- tokens that exceed nothing

pub record Passed (c : Counted) (fs : List Func) (line : ℕ) (front back : List Marked) : Type 0 where
  pub at : ℕ
  pub is : through c (from None line) (front ++ back) [] (at_end c fs) ≡ through c (from None at) back [] (at_end c fs)

pub through_fine : (c : Counted) (fs : List Func) (line : ℕ) (front back : List Marked) → AllFine front → Passed c fs line front back
through_fine c fs line [] back all = record { at = line; is = refl }
through_fine c fs line ((u, fine) ∷ front) back all = let y = through_fine c fs u.line front back all.1 in record { at = y.at; is = y.is }
through_fine c fs line ((u, over w) ∷ front) back all = absurd (let e : over w ≡ fine = all.0 in cc)
through_fine c fs line ((u, late w) ∷ front) back all = absurd (let e : late w ≡ fine = all.0 in cc)

-- ---- what is behind a late mark, and behind none

late_end : (fs : List Func) (w line : ℕ) → at_end late_limits fs (from (Some w) line) ≡ failed (limit w line) []
unfolding at_end run_with step
late_end fs w line = refl

pub late_stops : (fs : List Func) (w line : ℕ) (back : List Marked) → through late_limits (from (Some w) line) back [] (at_end late_limits fs) ≡ failed (limit w line) (plain back)
late_stops fs w line [] = late_end fs w line
late_stops fs w line (m ∷ back) = ap (failed (limit w line)) (append-nil (plain (m ∷ back)))

-- The answer leaves no more tokens than there are.
short_late : (b : Bool) (o : Option ℕ) (i : ℕ) (left : List Token) (a : Answer) (n : ℕ) → length left ≤ n → Short n a → Short n (by_late b o i left a)
short_late b None i left a n le h = h
short_late true (Some w) i left a n le h = le
short_late false (Some w) i left a n le h = h

short_over : (b : Bool) (m : Mark) (t : Token) (ts : List Token) (a : Answer) (n : ℕ) → suc (length ts) ≤ n → Short n a → Short n (by_over b m t ts a)
short_over b fine t ts a n le h = h
short_over b (late w) t ts a n le h = h
short_over true (over w) t ts a n le h = le
short_over false (over w) t ts a n le h = h

short_end : (c : Counted) (fs : List Func) (l : Behind) → Short 0 (at_end c fs l)
unfolding at_end
short_end c fs l = run_short c [] l [] (of_funcs fs ∷ [])

pub short_through : (c : Counted) (fs : List Func) (l : Behind) (ms : List Marked) → Short (length ms) (through c l ms [] (at_end c fs))
short_through c fs l [] = short_end c fs l
short_through c fs l ((t, m) ∷ ms) =
    let n : length (plain ms ++ []) ≡ length ms + length {A = Token} [] = plain-length ms [] in
    let le : suc (length (plain ms ++ [])) ≤ suc (length ms) = omega (arith, n) in
    let rest = short_more (length ms) (suc (length ms)) (through c (behind t m) ms [] (at_end c fs)) (omega arith) (short_through c fs (behind t m) ms) in
    short_late (counts_late c) l.late l.line (t ∷ (plain ms ++ [])) _ (suc (length ms)) le (short_over (counts_over c) m t (plain ms ++ []) _ (suc (length ms)) le rest)

fine_end : (fs : List Func) (line : ℕ) → at_end late_limits fs (from None line) ≡ accepted (of_funcs fs ∷ [])
unfolding at_end run_with step
fine_end fs line = refl

no_short : (n : ℕ) (a : Answer) (f : Fault) (left : List Token) → Short n a → a ≡ failed f left → length left ≤ n
no_short n (accepted ws) f left h e = absurd cc
no_short n (failed g xs) f left h e = omega (arith, h, ap length (left_is e))

-- Behind a mark that is not late, no late limit stops the machine at once.
pub goes_past : (fs : List Func) (line : ℕ) (back : List Marked) (f : Fault) (left : List Token) → length left ≡ length back → through late_limits (from None line) back [] (at_end late_limits fs) ≡ failed f left → ⊥
goes_past fs line [] f left n h = let e : accepted (of_funcs fs ∷ []) ≡ failed f left = sym (fine_end fs line) ∙ h in cc
goes_past fs line ((t, m) ∷ back) f left n h = by m h
  where
    long : (m : Mark) → through late_limits (behind t m) back [] (at_end late_limits fs) ≡ failed f left → ⊥
    long m h = let le = no_short (length back) _ f left (short_through late_limits fs (behind t m) back) h in omega (arith, le, n)

    by : (m : Mark) → through late_limits (from None line) ((t, m) ∷ back) [] (at_end late_limits fs) ≡ failed f left → ⊥
    by fine h = long fine h
    by (over w) h = long (over w) h
    by (late w) h = long (late w) h

-- The first of some marked tokens is the one that exceeds the limit at once.
pub over_is : (fs : List Func) (line : ℕ) (t : Token) (m : Mark) (back : List Marked) (w i : ℕ) (left : List Token) → length left ≡ suc (length back)
    → through all_limits (from None line) ((t, m) ∷ back) [] (at_end all_limits fs) ≡ failed (limit w i) left → m ≡ over w
over_is fs line t fine back w i left n h = absurd (let le = no_short (length back) _ (limit w i) left (short_through all_limits fs (behind t fine) back) h in omega (arith, le, n))
over_is fs line t (late v) back w i left n h = absurd (let le = no_short (length back) _ (limit w i) left (short_through all_limits fs (behind t (late v)) back) h in omega (arith, le, n))
over_is fs line t (over v) back w i left n h = let e : v ≡ w = cc in ap over e

-- The first of some marked tokens is the one that exceeds the limit late.
pub late_is : (fs : List Func) (line : ℕ) (t : Token) (m : Mark) (back : List Marked) (w i : ℕ) (left : List Token) → length left ≡ length back
    → through late_limits (from None line) ((t, m) ∷ back) [] (at_end late_limits fs) ≡ failed (limit w i) left → m ≡ late w
late_is fs line t fine back w i left n h = absurd (goes_past fs t.line back (limit w i) left n h)
late_is fs line t (over v) back w i left n h = absurd (goes_past fs t.line back (limit w i) left n h)
late_is fs line t (late v) back w i left n h = let e : failed (limit v t.line) (plain back) ≡ failed (limit w i) left = sym (late_stops fs v t.line back) ∙ h in let d : v ≡ w = cc in ap late d

-- Where no limit counts, a text is accepted.
pub through_lax : (fs : List Func) (l : Behind) (ms : List Marked) → through no_limits l ms [] (at_end no_limits fs) ≡ accepted (of_funcs fs ∷ [])
through_lax fs l [] = lax_end fs l
through_lax fs l ((t, m) ∷ ms) = past_lax l t m (plain ms ++ []) (through no_limits (behind t m) ms [] (at_end no_limits fs)) ∙ through_lax fs (behind t m) ms

pub short_is : (n m : ℕ) (a b : Answer) → n ≡ m → b ≡ a → Short n b → Short m a
short_is n m a b h j s = subst (λ k. Short k a) h (subst (λ r. Short n r) j s)
