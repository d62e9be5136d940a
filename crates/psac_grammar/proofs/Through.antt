-- How the machine goes over marked tokens.
use Rattle.std.proofs.Common.{◌≡◌, Bool, true, false, not, ◌||◌, List, [], ◌∷◌, ◌++◌, Some, refl, sym, ap, subst, ◌∙◌}
use Rattle.psac_tokens.specs.declared.token.Token.{Token}
use Rattle.psac_grammar.specs.Marked.{Mark, fine, over, late, Marked, plain, ends_deep}
use Rattle.psac_grammar.specs.Machine.{Symbol, Item, Built, take, pass, move, Behind, behind, Answer, Counted, no_limits, late_limits, all_limits, counts_late, first_of, run_with}
use Rattle.psac_grammar.proofs.Runs.{past, takes, passes, too_deep, run_lax, run_five}

-- The answer of tokens of which some may exceed a limit, with those that stand behind them; k answers behind the last one.
abbrev pub through : Counted → Behind → List Marked → List Token → (Behind → Answer) → Answer
through c l [] after k = k l
through c l ((t, m) ∷ ms) after k = past c l t m (plain ms ++ after) (through c (behind t m) ms after k)

pub plain-append : (ms ns : List Marked) (ts : List Token) → plain (ms ++ ns) ++ ts ≡ plain ms ++ (plain ns ++ ts)
plain-append [] ns ts = refl
plain-append (m ∷ ms) ns ts = ap (λ (r : List Token). m.0 ∷ r) (plain-append ms ns ts)

pub through-append : (c : Counted) (l : Behind) (ms ns : List Marked) (after : List Token) (k : Behind → Answer) → through c l (ms ++ ns) after k ≡ through c l ms (plain ns ++ after) (λ l'. through c l' ns after k)
through-append c l [] ns after k = refl
through-append c l ((t, m) ∷ ms) ns after k =
    ap (λ r. past c l t m r (through c (behind t m) (ms ++ ns) after k)) (plain-append ms ns after) ∙ ap (past c l t m (plain ms ++ (plain ns ++ after))) (through-append c (behind t m) ms ns after k)

pub through-same : (c : Counted) (l : Behind) (ms : List Marked) (after : List Token) (k j : Behind → Answer) → ((l' : Behind) → k l' ≡ j l') → through c l ms after k ≡ through c l ms after j
through-same c l [] after k j h = h l
through-same c l ((t, m) ∷ ms) after k j h = ap (past c l t m (plain ms ++ after)) (through-same c (behind t m) ms after k j h)

-- The machine goes over the tokens from one stack to the other.
pub record Follows (c : Counted) (ms : List Marked) (after : List Token) (s : List Symbol) (vs : List Item) (s2 : List Symbol) (v2 : List Item) : Type 0 where
  pub runs : (l : Behind) → run_with c (plain ms ++ after) l s vs ≡ through c l ms after (λ l'. run_with c after l' s2 v2)

pub compose : {c : Counted} (ms ns : List Marked) {after : List Token} {s : List Symbol} (s1 : List Symbol) {s2 : List Symbol} {vs : List Item} (v1 : List Item) {v2 : List Item}
    → Follows c ms (plain ns ++ after) s vs s1 v1 → Follows c ns after s1 v1 s2 v2 → Follows c (ms ++ ns) after s vs s2 v2
compose {c} ms ns {after} {s} s1 {s2} {vs} v1 {v2} h j =
    record {
      runs = λ l.
          ap (λ r. run_with c r l s vs) (plain-append ms ns after) ∙ h.runs l
          ∙ through-same c l ms (plain ns ++ after) (λ l'. run_with c (plain ns ++ after) l' s1 v1) (λ l'. through c l' ns after (λ k. run_with c after k s2 v2)) j.runs
          ∙ sym (through-append c l ms ns after (λ k. run_with c after k s2 v2));
    }

-- one token, and those behind it
pub goes : {c : Counted} {t : Token} {m : Mark} {ms : List Marked} {after : List Token} {x : Symbol} {s s2 : List Symbol} {vs v2 : List Item} {more : List Symbol} {new : List Item}
    → move x t ≡ take m more new → Follows c ms after (more ++ s) (new ++ vs) s2 v2 → Follows c ((t, m) ∷ ms) after (x ∷ s) vs s2 v2
goes {c} {t} {m} {ms} {after} {x} {s} {s2} {vs} {v2} {more} {new} is h =
    record { runs = λ l. takes c t (plain ms ++ after) l x s vs m more new is ∙ ap (past c l t m (plain ms ++ after)) (h.runs (behind t m)) }

pub nothing : {c : Counted} {after : List Token} {s : List Symbol} {vs : List Item} → Follows c [] after s vs s vs
nothing = record { runs = λ l. refl }

ok_is : (c : Counted) (ok : Bool) → ok ≡ true → (not (counts_late c) || ok) ≡ true
ok_is c ok h = rw h (by (counts_late c))
  where
    by : (b : Bool) → (not b || true) ≡ true
    by true = refl
    by false = refl

-- something is passed at the front, or at the end
pub pass_then : {c : Counted} {ms : List Marked} {after : List Token} {x : Symbol} {s s2 : List Symbol} {vs v2 : List Item} (f : List Item → Built) → move x (first_of (plain ms ++ after)) ≡ pass f → (f vs).0 ≡ true
    → Follows c ms after s (f vs).1 s2 v2 → Follows c ms after (x ∷ s) vs s2 v2
pass_then {c} {ms} {after} {x} {s} {s2} {vs} {v2} f is ok h = record { runs = λ l. passes c (plain ms ++ after) l x s vs f is (ok_is c (f vs).0 ok) ∙ h.runs l }

pub then_pass : {c : Counted} {ms : List Marked} {after : List Token} {x : Symbol} {s s2 : List Symbol} {vs v2 : List Item} (f : List Item → Built) → move x (first_of after) ≡ pass f → (f v2).0 ≡ true
    → Follows c ms after s vs (x ∷ s2) v2 → Follows c ms after s vs s2 (f v2).1
then_pass {c} {ms} {after} {x} {s} {s2} {vs} {v2} f is ok h =
    record { runs = λ l. h.runs l ∙ through-same c l ms after (λ l'. run_with c after l' (x ∷ s2) v2) (λ l'. run_with c after l' s2 (f v2).1) (λ l'. passes c after l' x s2 v2 f is (ok_is c (f v2).0 ok)) }

-- ---- an expression that becomes too deep

abbrev NotOver : Mark → Type 0
NotOver (over w) = ⊥
NotOver fine = Unit {0}
NotOver (late w) = Unit {0}

-- There is a last token, and at once it exceeds nothing.
abbrev pub EndsWell : List Marked → Type 0
EndsWell [] = ⊥
EndsWell (m ∷ []) = NotOver m.1
EndsWell (m ∷ n ∷ ms) = EndsWell (n ∷ ms)

pub plain-deep : (too : Bool) (ms : List Marked) → plain (ends_deep too ms) ≡ plain ms
plain-deep too [] = refl
plain-deep too (m ∷ []) = refl
plain-deep too (m ∷ n ∷ ms) = ap (λ (r : List Token). m.0 ∷ r) (plain-deep too (n ∷ ms))

not_deep : (ms : List Marked) → ends_deep false ms ≡ ms
not_deep [] = refl
not_deep (m ∷ []) = refl
not_deep (m ∷ n ∷ ms) = ap (λ (r : List Marked). m ∷ r) (not_deep (n ∷ ms))

through_deep : (c : Counted) (l : Behind) (ms : List Marked) (after : List Token) (k j : Behind → Answer) → EndsWell ms → ((l' : Behind) → k l' ≡ j (record { line = l'.line; late = Some 5 }))
    → through c l ms after k ≡ through c l (ends_deep true ms) after j
through_deep c l [] after k j h same = absurd h
through_deep c l ((t, fine) ∷ []) after k j h same = ap (past c l t fine after) (same (behind t fine))
through_deep c l ((t, late w) ∷ []) after k j h same = ap (past c l t (late w) after) (same (behind t (late w)))
through_deep c l ((t, over w) ∷ []) after k j h same = absurd h
through_deep c l ((t, m) ∷ n ∷ ms) after k j h same =
    ap (λ r. past c l t m (r ++ after) (through c (behind t m) (n ∷ ms) after k)) (sym (plain-deep true (n ∷ ms)))
    ∙ ap (past c l t m (plain (ends_deep true (n ∷ ms)) ++ after)) (through_deep c (behind t m) (n ∷ ms) after k j h same)

-- what is built at the end may be too deep
pub deepens : {c : Counted} (too : Bool) {ms : List Marked} {after : List Token} {x : Symbol} {s s2 : List Symbol} {vs v2 : List Item} (f : List Item → Built) → EndsWell ms → move x (first_of after) ≡ pass f → (f v2).0 ≡ not too
    → Follows c ms after s vs (x ∷ s2) v2 → Follows c (ends_deep too ms) after s vs s2 (f v2).1
deepens {c} false {ms} {after} {x} {s} {s2} {vs} {v2} f some is ok h =
    let P : List Marked → Type 0 = λ r. Follows c r after s vs s2 (f v2).1 in
    subst P (sym (not_deep ms)) (then_pass f is ok h)
deepens {c} true {ms} {after} {x} {s} {s2} {vs} {v2} f some is ok h =
    record {
      runs = λ l.
          ap (λ r. run_with c (r ++ after) l s vs) (plain-deep true ms) ∙ h.runs l
          ∙ through_deep c l ms after (λ l'. run_with c after l' (x ∷ s2) v2) (λ l'. run_with c after l' s2 (f v2).1) some (λ l'. by c l');
    }
  where
    by : (d : Counted) (l' : Behind) → run_with d after l' (x ∷ s2) v2 ≡ run_with d after (record { line = l'.line; late = Some 5 }) s2 (f v2).1
    by no_limits l' = passes no_limits after l' x s2 v2 f is refl ∙ run_lax after l' (record { line = l'.line; late = Some 5 }) s2 (f v2).1
    by late_limits l' = too_deep late_limits after l' x s2 v2 f is ok refl ∙ sym (run_five late_limits after l'.line s2 (f v2).1 refl)
    by all_limits l' = too_deep all_limits after l' x s2 v2 f is ok refl ∙ sym (run_five all_limits after l'.line s2 (f v2).1 refl)
