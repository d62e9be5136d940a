-- Which token exceeds a limit in a text on which the machine stops at it.
use Rattle.std.proofs.Common.{◌≡◌, ℕ, suc, ◌≤◌, List, [], ◌∷◌, ◌++◌, length, None, sym, ap, subst, ◌∙◌, append_assoc, arith}
use Rattle.psac_syntax.specs.declared.program.Func.{Func}
use Rattle.psac_tokens.specs.declared.token.Token.{Token}
use Rattle.psac_tokens.specs.declared.token.TheConstants.{NOTHING}
use Rattle.psac_grammar.specs.Marked.{Mark, over, late, Marked, plain, AllFine}
use Rattle.psac_grammar.specs.Grammar.{IsText}
use Rattle.psac_grammar.specs.Machine.{Symbol, Item, Behind, nothing_behind, go, stop, limit, failed, Counted, late_limits, all_limits, next, last, first_of, start, begun, step, run_with}
use Rattle.psac_grammar.proofs.Through.{through}
use Rattle.psac_grammar.proofs.Whole.{at_end}
use Rattle.psac_grammar.proofs.Walks.{walk, walk_same, Short, run_short}
use Rattle.psac_grammar.proofs.Fronts.{from, NoneLate, none_late, NoneOver, none_over, none_over_front, fine_both, through_fine, over_is, late_is, short_is}
use Rattle.psac_grammar.proofs.Texts.{answers, CutAt, cut_at, plain-count}

pub limit_stop : (ts : List Token) (t : Token) (c : Counted) (l : Behind) (s : List Symbol) (vs : List Item) (w i : ℕ) → step c l s vs t ≡ stop (limit w i) → run_with c (t ∷ ts) l s vs ≡ failed (limit w i) (t ∷ ts)
unfolding run_with
limit_stop ts t c l s vs w i h = ap (λ r. next r t ts (run_with c ts)) h

pub limit_last : (c : Counted) (l : Behind) (s : List Symbol) (vs : List Item) (w i : ℕ) → step c l s vs NOTHING ≡ stop (limit w i) → run_with c [] l s vs ≡ failed (limit w i) []
unfolding run_with
limit_last c l s vs w i h = ap last h

pub limit_first : (ts : List Token) (c : Counted) (l : Behind) (s : List Symbol) (vs : List Item) (w i : ℕ) → step c l s vs (first_of ts) ≡ stop (limit w i) → run_with c ts l s vs ≡ failed (limit w i) ts
limit_first [] c l s vs w i h = limit_last c l s vs w i h
limit_first (t ∷ ts) c l s vs w i h = limit_stop ts t c l s vs w i h

pub record OverMark (ms : List Marked) (pre : List Token) (t : Token) (w : ℕ) : Type 0 where
  pub front : List Marked
  pub back : List Marked
  pub parts : ms ≡ front ++ (t, over w) ∷ back
  pub first : plain front ≡ pre
  pub fines : AllFine front

-- in a text behind the first part of which the machine stops at the token ahead, that is the one that exceeds the limit
pub over_mark : (pre : List Token) (t : Token) (more : List Token) (ms : List Marked) (fs : List Func) (l k : Behind) (s q : List Symbol) (vs us : List Item) (w i : ℕ) → IsText ms fs → plain ms ≡ pre ++ t ∷ more
    → walk all_limits pre nothing_behind start begun ≡ go l s vs → step all_limits l s vs t ≡ stop (limit w i) → walk late_limits (pre ++ t ∷ []) nothing_behind start begun ≡ go k q us → OverMark ms pre t w
over_mark pre t more ms fs l k s q vs us w i good whole walked stops lates =
    record { front = y.front; back = y.back; parts = subst R m_is y.parts; first = y.first; fines = fines }
  where
    y : CutAt ms pre t more
    y = cut_at ms pre t more whole

    count : length more ≡ length y.back
    count = ap length (sym y.second) ∙ plain-count y.back

    whole2 : plain ms ≡ (pre ++ t ∷ []) ++ more
    whole2 = whole ∙ sym (append_assoc pre (t ∷ []) more)

    All : List Marked → Type 0
    All r = through all_limits (from None 0) r [] (at_end all_limits fs) ≡ failed (limit w i) (t ∷ more)

    all : All (y.front ++ (t, y.mark) ∷ y.back)
    all = subst All y.parts (answers all_limits pre (t ∷ more) ms fs l s vs good whole walked ∙ limit_stop more t all_limits l s vs w i stops)

    Late' : List Marked → Type 0
    Late' r = through late_limits (from None 0) r [] (at_end late_limits fs) ≡ run_with late_limits more k q us

    late' : Late' (y.front ++ (t, y.mark) ∷ y.back)
    late' = subst Late' y.parts (answers late_limits (pre ++ t ∷ []) more ms fs k q us good whole2 lates)

    n_all : length (t ∷ more) ≤ length ((t, y.mark) ∷ y.back)
    n_all = omega (arith, count)

    overs : NoneOver y.front
    overs = none_over fs None 0 y.front ((t, y.mark) ∷ y.back) (subst (λ r. Short (length ((t, y.mark) ∷ y.back)) r) (sym all) n_all)

    lates' : NoneLate y.front
    lates' = none_late fs 0 y.front (t, y.mark) y.back (short_is (length more) (length y.back) _ _ count (sym late') (run_short late_limits more k q us))

    fines : AllFine y.front
    fines = fine_both y.front lates' overs

    m_is : y.mark ≡ over w
    m_is = let z = through_fine all_limits fs 0 y.front ((t, y.mark) ∷ y.back) fines in over_is fs z.at t y.mark y.back w i (t ∷ more) (ap suc count) (sym z.is ∙ all)

    R : Mark → Type 0
    R m = ms ≡ y.front ++ (t, m) ∷ y.back

pub record LateMark (ms : List Marked) (pre : List Token) (t : Token) (more : List Token) (w : ℕ) : Type 0 where
  pub front : List Marked
  pub back : List Marked
  pub parts : ms ≡ front ++ (t, late w) ∷ back
  pub first : plain front ≡ pre
  pub second : plain back ≡ more
  pub fines : AllFine front

-- in a text behind the first part of which the machine stops at the token behind, that is the one that exceeds the limit
pub late_mark : (pre : List Token) (t : Token) (more : List Token) (ms : List Marked) (fs : List Func) (l : Behind) (s : List Symbol) (vs : List Item) (w i : ℕ) → IsText ms fs → plain ms ≡ pre ++ t ∷ more
    → walk all_limits (pre ++ t ∷ []) nothing_behind start begun ≡ go l s vs → run_with late_limits more l s vs ≡ failed (limit w i) more → LateMark ms pre t more w
late_mark pre t more ms fs l s vs w i good whole walked stops =
    record { front = y.front; back = y.back; parts = subst R m_is y.parts; first = y.first; second = y.second; fines = fines }
  where
    y : CutAt ms pre t more
    y = cut_at ms pre t more whole

    count : length more ≡ length y.back
    count = ap length (sym y.second) ∙ plain-count y.back

    whole2 : plain ms ≡ (pre ++ t ∷ []) ++ more
    whole2 = whole ∙ sym (append_assoc pre (t ∷ []) more)

    lates : walk late_limits (pre ++ t ∷ []) nothing_behind start begun ≡ go l s vs
    lates = walk_same all_limits late_limits (pre ++ t ∷ []) nothing_behind l start s begun vs (tt, tt) walked

    Late' : List Marked → Type 0
    Late' r = through late_limits (from None 0) r [] (at_end late_limits fs) ≡ failed (limit w i) more

    late' : Late' (y.front ++ (t, y.mark) ∷ y.back)
    late' = subst Late' y.parts (answers late_limits (pre ++ t ∷ []) more ms fs l s vs good whole2 lates ∙ stops)

    All : List Marked → Type 0
    All r = through all_limits (from None 0) r [] (at_end all_limits fs) ≡ run_with all_limits more l s vs

    all : All ((y.front ++ (t, y.mark) ∷ []) ++ y.back)
    all = subst All (y.parts ∙ sym (append_assoc y.front ((t, y.mark) ∷ []) y.back)) (answers all_limits (pre ++ t ∷ []) more ms fs l s vs good whole2 walked)

    n_late : length more ≤ length y.back
    n_late = omega (arith, count)

    lates' : NoneLate y.front
    lates' = none_late fs 0 y.front (t, y.mark) y.back (subst (λ r. Short (length y.back) r) (sym late') n_late)

    overs : NoneOver (y.front ++ (t, y.mark) ∷ [])
    overs = none_over fs None 0 (y.front ++ (t, y.mark) ∷ []) y.back (short_is (length more) (length y.back) _ _ count (sym all) (run_short all_limits more l s vs))

    fines : AllFine y.front
    fines = fine_both y.front lates' (none_over_front y.front ((t, y.mark) ∷ []) overs)

    m_is : y.mark ≡ late w
    m_is = let z = through_fine late_limits fs 0 y.front ((t, y.mark) ∷ y.back) fines in late_is fs z.at t y.mark y.back w i more count (sym z.is ∙ late')

    R : Mark → Type 0
    R m = ms ≡ y.front ++ (t, m) ∷ y.back

pub late_same : {v w : ℕ} → late v ≡ late w → v ≡ w
late_same h = cc

one_mark : (t : Token) (m q : Mark) (back b : List Marked) → (t, m) ∷ back ≡ (t, q) ∷ b → m ≡ q
one_mark t m q back b h = let e : (t, m) ≡ (t, q) = cc in ap (λ (p : Marked). p.1) e

pub same_mark : (t : Token) (front back f b : List Marked) (m q : Mark) → front ++ (t, m) ∷ back ≡ f ++ (t, q) ∷ b → plain front ≡ plain f → m ≡ q
same_mark t [] back [] b m q h j = one_mark t m q back b h
same_mark t [] back (x ∷ f) b m q h j = absurd cc
same_mark t (x ∷ front) back [] b m q h j = absurd cc
same_mark t (x ∷ front) back (y ∷ f) b m q h j =
    let below : front ++ (t, m) ∷ back ≡ f ++ (t, q) ∷ b = cc in
    let first : plain front ≡ plain f = cc in
    same_mark t front back f b m q below first
