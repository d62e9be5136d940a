-- Where the machine stops at a limit, a token of the text exceeds it.
use Rattle.std.proofs.Common.{◌≡◌, ℕ, ◌≤◌, true, false, eqb, List, [], ◌∷◌, ◌++◌, length, ◌⊎◌, inl, inr, refl, sym, ap, subst, ◌∙◌, append_assoc}
use Rattle.std.proofs.lemmas.Bool.Decides.{eqb_tells}
use Rattle.std.proofs.lemmas.List.{map-append}
use Rattle.psac_syntax.specs.declared.program.Func.{Func}
use Rattle.psac_tokens.specs.declared.token.Token.{Token}
use Rattle.psac_tokens.specs.Number.{tokens}
use Rattle.psac_grammar.specs.Marked.{over, late, Marked, plain}
use Rattle.psac_grammar.specs.Grammar.{IsText}
use Rattle.psac_grammar.specs.Language.{Begins, EndsNoneTooDeep, Decides, TokenLimitAt, max_bytes}
use Rattle.psac_grammar.specs.Machine.{Symbol, Item, Behind, nothing_behind, behind, Step, go, stop, done, limit, no_limits, late_limits, all_limits, first_of, start, begun, step}
use Rattle.psac_grammar.proofs.Fills.{fill}
use Rattle.psac_grammar.proofs.Walks.{walk, walk-append, walk_one, walk_same, reached}
use Rattle.psac_grammar.proofs.Stops.{NotGo, AtOnce, stops_filled, stops_any}
use Rattle.psac_grammar.proofs.Texts.{Completed, completed, nowhere}
use Rattle.psac_grammar.proofs.Marks.{limit_stop, limit_first, OverMark, over_mark, LateMark, late_mark, late_same, same_mark}

pub at_once_there : (bytes : List ℕ) (w i : ℕ) (pre : List Token) (u : Token) (post : List Token) (l : Behind) (s : List Symbol) (vs : List Item) → length bytes ≤ max_bytes → tokens bytes ≡ pre ++ u ∷ post
    → walk all_limits pre nothing_behind start begun ≡ go l s vs → step all_limits l s vs u ≡ stop (limit w i) → AtOnce l s vs u w i → TokenLimitAt bytes w i
at_once_there bytes w i pre u post l s vs short is walked h a =
    record {
      front = y.front;
      here = u;
      mark = over w;
      back = y.back;
      funcs = x.fs;
      behind = post;
      short = short;
      tokens = is ∙ ap (λ r. r ++ u ∷ post) (sym y.first);
      line_is = a.line;
      grammar = subst (λ r. IsText r x.fs) y.parts x.good;
      limits = y.fines;
      exceeds = inl refl;
    }
  where
    one : List Token
    one = pre ++ u ∷ []

    k : Behind
    k = behind u (over w)

    lax : walk no_limits one nothing_behind start begun ≡ go k a.s2 a.v2
    lax = walk-append no_limits pre (u ∷ []) nothing_behind l start s begun vs (walk_same all_limits no_limits pre nothing_behind l start s begun vs (tt, tt) walked) ∙ walk_one no_limits u l s vs k a.s2 a.v2 a.lax_goes

    lates : walk late_limits one nothing_behind start begun ≡ go k a.s2 a.v2
    lates = walk-append late_limits pre (u ∷ []) nothing_behind l start s begun vs (walk_same all_limits late_limits pre nothing_behind l start s begun vs (tt, tt) walked) ∙ walk_one late_limits u l s vs k a.s2 a.v2 a.late_goes

    x : Completed one (fill a.s2)
    x = completed one k a.s2 a.v2 lax (reached one nothing_behind k a.s2 a.v2 lax)

    y : OverMark x.ms pre u w
    y = over_mark pre u (fill a.s2) x.ms x.fs l k s a.s2 vs a.v2 w i x.good (x.tokens ∙ append_assoc pre (u ∷ []) (fill a.s2)) walked h lates

-- where no text goes on with the next token, the limit on depth goes before the others
deepest : (pre : List Token) (t u : Token) (l : Behind) (s : List Symbol) (vs : List Item) (w i : ℕ) → walk all_limits (pre ++ t ∷ []) nothing_behind start begun ≡ go l s vs → step late_limits l s vs u ≡ stop (limit w i)
    → NotGo (step no_limits l s vs u) → (w ≡ 5) ⊎ EndsNoneTooDeep pre t
deepest pre t u l s vs w i walked stops refused = by (eqb_tells w 5)
  where
    none : (w ≡ 5 → ⊥) → EndsNoneTooDeep pre t
    none other front back fs good first =
        let ms : List Marked = front ++ (t, late 5) ∷ back in
        let whole : plain ms ≡ pre ++ t ∷ plain back = map-append (λ m. m.0) front ((t, late 5) ∷ back) ∙ ap (λ r. r ++ t ∷ plain back) first in
        let y = late_mark pre t (plain back) ms fs l s vs w i good whole walked (limit_first (plain back) late_limits l s vs w i (stops_any l s vs u (first_of (plain back)) w i other stops refused)) in
        other (sym (late_same (same_mark t front back y.front y.back (late 5) (late w) y.parts (first ∙ sym y.first))))

    by : ((eqb w 5 ≡ true) × (w ≡ 5)) ⊎ ((eqb w 5 ≡ false) × (w ≡ 5 → ⊥)) → (w ≡ 5) ⊎ EndsNoneTooDeep pre t
    by (inl x) = inl x.1
    by (inr x) = inr (none x.1)

pub late_there : (bytes : List ℕ) (w i : ℕ) (pre : List Token) (t : Token) (post : List Token) (l : Behind) (s : List Symbol) (vs : List Item) → length bytes ≤ max_bytes → tokens bytes ≡ (pre ++ t ∷ []) ++ post
    → walk all_limits (pre ++ t ∷ []) nothing_behind start begun ≡ go l s vs → i ≡ t.line → step late_limits l s vs (first_of post) ≡ stop (limit w i) → TokenLimitAt bytes w i
late_there bytes w i pre t post l s vs short is walked line stops = by (step no_limits l s vs u) refl
  where
    u : Token
    u = first_of post

    lax : walk no_limits (pre ++ t ∷ []) nothing_behind start begun ≡ go l s vs
    lax = walk_same all_limits no_limits (pre ++ t ∷ []) nothing_behind l start s begun vs (tt, tt) walked

    found : (ms : List Marked) (fs : List Func) (more : List Token) → IsText ms fs → (y : LateMark ms pre t more w) → Decides w pre t post y.back → TokenLimitAt bytes w i
    found ms fs more good y decides =
        record {
          front = y.front;
          here = t;
          mark = late w;
          back = y.back;
          funcs = fs;
          behind = post;
          short = short;
          tokens = is ∙ append_assoc pre (t ∷ []) post ∙ ap (λ r. r ++ t ∷ post) (sym y.first);
          line_is = line;
          grammar = subst (λ r. IsText r fs) y.parts good;
          limits = y.fines;
          exceeds = inr (refl, subst (λ r. Decides w r t post y.back) (sym y.first) decides);
        }

    goes_on : (k : Behind) (q : List Symbol) (us : List Item) → step no_limits l s vs u ≡ go k q us → TokenLimitAt bytes w i
    goes_on k q us at =
        let lax2 = walk-append no_limits (pre ++ t ∷ []) (u ∷ []) nothing_behind l start s begun vs lax ∙ walk_one no_limits u l s vs k q us at in
        let x = completed ((pre ++ t ∷ []) ++ u ∷ []) k q us lax2 (reached ((pre ++ t ∷ []) ++ u ∷ []) nothing_behind k q us lax2) in
        let more : List Token = u ∷ fill q in
        let whole : plain x.ms ≡ pre ++ t ∷ more = x.tokens ∙ append_assoc (pre ++ t ∷ []) (u ∷ []) (fill q) ∙ append_assoc pre (t ∷ []) more in
        let y = late_mark pre t more x.ms x.fs l s vs w i x.good whole walked (limit_stop (fill q) u late_limits l s vs w i stops) in
        found x.ms x.fs more x.good y (inl (fill q, y.second))

    refused : NotGo (step no_limits l s vs u) → TokenLimitAt bytes w i
    refused n =
        let reach = reached (pre ++ t ∷ []) nothing_behind l s vs lax in
        let x = completed (pre ++ t ∷ []) l s vs lax reach in
        let more = fill s in
        let whole : plain x.ms ≡ pre ++ t ∷ more = x.tokens ∙ append_assoc pre (t ∷ []) more in
        let y = late_mark pre t more x.ms x.fs l s vs w i x.good whole walked (limit_first more late_limits l s vs w i (stops_filled l s vs u w i reach stops n)) in
        let nothing = λ (b : Begins (pre ++ t ∷ u ∷ [])). nowhere (pre ++ t ∷ []) u l s vs lax n (subst Begins (sym (append_assoc pre (t ∷ []) (u ∷ []))) b) in
        found x.ms x.fs more x.good y (inr (nothing, deepest pre t u l s vs w i walked stops n))

    by : (r : Step) → step no_limits l s vs u ≡ r → TokenLimitAt bytes w i
    by (go k q us) at = goes_on k q us at
    by (stop f) at = refused (subst NotGo (sym at) tt)
    by (done us) at = refused (subst NotGo (sym at) tt)
