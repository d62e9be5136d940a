-- The machine's moves, as the code meets them.
use Rattle.std.proofs.Common.{◌≡◌, ℕ, ◌<◌, Bool, true, false, cond, not, List, [], ◌∷◌, ◌++◌, length, Some, None, Result, Ok, Err, refl, sym, ap, ◌∙◌, arith, rules}
use denote.Enum.Bare.{same_true}
use Rattle.psac_tokens.specs.contracts.token.Kind.{the_type}
use Rattle.psac_tokens.specs.declared.token.Kind.{Kind}
use Rattle.psac_tokens.specs.declared.token.Token.{Token}
use Rattle.psac_tokens.specs.declared.token.TheConstants.{NOTHING}
use Rattle.psac_grammar.specs.Marked as marked
use Rattle.psac_grammar.specs.Marked.{or_else, fine, over, late}
use Rattle.psac_grammar.specs.Machine.{Symbol, make, one_of, same_kind, Item, Built, take, pass, refuse, move, Behind, behind, settled, exceeds, go, late_of, Ahead, first, rest, all_limits, Answer, last, step, run, run_with}
use Rattle.psac_grammar.proofs.Runs.{takes, passes, too_deep, refuses, past}
use Rattle.psac_lang.specs.declared.fault.Halt.{Halt}
use Rattle.psac_lang.specs.declared.fault.Halt.TheVariants as halt
use Rattle.psac_lang.specs.declared.marks.Mark.{Mark}
use Rattle.psac_lang.specs.declared.marks.Mark.TheVariants.{Fine, Over, Late}
use Rattle.psac_lang.specs.Marks.{mark_of, is_over}
use Rattle.psac_lang.specs.Reads.{Goes, Fails, syntax_halt, limit_halt, taken}

-- ---- one step, and what goes on or fails then

pub fails_from : (e : Halt) (a b : Answer) → a ≡ b → Fails e b → Fails e a
fails_from halt.NoMemory a b h f = tt
fails_from (halt.Syntax line column) a b h f = (f.0, h ∙ f.1)
fails_from (halt.Limit which line) a b h f = (f.0, h ∙ f.1)

pub goes_from : {X : Type 0} (result : Result X Halt) (before middle after : Ahead) (s t : List Symbol) (vs ws : List Item) (s' : X → List Symbol) (vs' : X → List Item) → run before s vs ≡ run middle t ws → Goes result middle after t ws s' vs' → Goes result before after s vs s' vs'
goes_from (Ok v) before middle after s t vs ws s' vs' h f = h ∙ f
goes_from (Err e) before middle after s t vs ws s' vs' h f = fails_from e (run before s vs) (run middle t ws) h f

pub passed_at : (c : Ahead) (x : Symbol) (s : List Symbol) (vs : List Item) (f : List Item → Built) → move x (first c) ≡ pass f → (f vs).0 ≡ true → run c (x ∷ s) vs ≡ run c s (f vs).1
passed_at c x s vs f h ok = passes all_limits c.1 c.0 x s vs f h (rw ok refl)

pub makes : (c : Ahead) (s : List Symbol) (vs : List Item) (f : List Item → Built) → (f vs).0 ≡ true → run c (make f ∷ s) vs ≡ run c s (f vs).1
unfolding move
makes c s vs f ok = passed_at c (make f) s vs f refl ok

pub deep_at : (c : Ahead) (s : List Symbol) (vs : List Item) (f : List Item → Built) (e : Halt) → (f vs).0 ≡ false → e ≡ limit_halt 5 c.0.line → Fails e (run c (make f ∷ s) vs)
unfolding move
deep_at c s vs f e deep fault = rw fault (c.1, too_deep all_limits c.1 c.0 (make f) s vs f refl deep refl)

-- ---- a token is taken

ended_at : (l : Behind) (x : Symbol) (s : List Symbol) (vs : List Item) (m : marked.Mark) (more : List Symbol) (new : List Item) → move x NOTHING ≡ take m more new
    → run (l, []) (x ∷ s) vs ≡ last (settled true l.late l.line (exceeds true m NOTHING (go (behind NOTHING m) (more ++ s) (new ++ vs))))
unfolding run_with step
ended_at l x s vs m more new is = rw is refl

module _ (x : Symbol) (s : List Symbol) (vs : List Item) (more : List Symbol) (new : List Item) where
  pub takes_late : (c : Ahead) (m : marked.Mark) (w : ℕ) (e : Halt) → c.0.late ≡ Some w → e ≡ limit_halt w c.0.line → move x (first c) ≡ take m more new → Fails e (run c (x ∷ s) vs)
  takes_late (l, []) m w e known fault is = rw fault ([], ended_at l x s vs m more new is ∙ rw known refl)
  takes_late (l, (t ∷ ts)) m w e known fault is = rw fault ((t ∷ ts), takes all_limits t ts l x s vs m more new is ∙ rw known refl)

  pub takes_over : (c : Ahead) (w : ℕ) (e : Halt) → c.0.late ≡ None → e ≡ limit_halt w (first c).line → move x (first c) ≡ take (over w) more new → Fails e (run c (x ∷ s) vs)
  takes_over (l, []) w e known fault is = rw fault ([], ended_at l x s vs (over w) more new is ∙ rw known refl)
  takes_over (l, (t ∷ ts)) w e known fault is = rw fault ((t ∷ ts), takes all_limits t ts l x s vs (over w) more new is ∙ rw known refl)

  pub takes_end : (c : Ahead) (m : Mark) (e : Halt) → c.0.late ≡ None → is_over m ≡ false → c.1 ≡ [] → e ≡ syntax_halt NOTHING → move x (first c) ≡ take (mark_of m) more new → Fails e (run c (x ∷ s) vs)
  takes_end (l, []) (Over w) e known fits empty fault is = absurd cc
  takes_end (l, []) Fine e known fits empty fault is = rw fault ([], ended_at l x s vs fine more new is ∙ rw known refl)
  takes_end (l, []) (Late w) e known fits empty fault is = rw fault ([], ended_at l x s vs (marked.late w) more new is ∙ rw known refl)
  takes_end (l, (t ∷ ts)) m e known fits empty fault is = absurd cc

  pub takes_on : (c : Ahead) (m : Mark) (after : Ahead) → c.0.late ≡ None → is_over m ≡ false → after ≡ rest (mark_of m) c → length after.1 < length c.1 → move x (first c) ≡ take (mark_of m) more new
      → run c (x ∷ s) vs ≡ run after (more ++ s) (new ++ vs)
  takes_on (l, []) m after known fits gone less is = absurd (omega arith)
  takes_on (l, (t ∷ ts)) (Over w) after known fits gone less is = absurd cc
  takes_on (l, (t ∷ ts)) Fine after known fits gone less is = rw gone (takes all_limits t ts l x s vs fine more new is ∙ rw known refl)
  takes_on (l, (t ∷ ts)) (Late w) after known fits gone less is = rw gone (takes all_limits t ts l x s vs (marked.late w) more new is ∙ rw known refl)

module _ (x : Symbol) (s : List Symbol) (vs : List Item) (c : Ahead) (is : move x (first c) ≡ refuse) where
  pub refuses_late : (w : ℕ) (e : Halt) → c.0.late ≡ Some w → e ≡ limit_halt w c.0.line → Fails e (run c (x ∷ s) vs)
  refuses_late w e known fault = rw fault (c.1, refuses all_limits c.1 c.0 x s vs is ∙ rw known refl)

  pub refuses_now : (e : Halt) → c.0.late ≡ None → e ≡ syntax_halt (first c) → Fails e (run c (x ∷ s) vs)
  refuses_now e known fault = rw fault (c.1, refuses all_limits c.1 c.0 x s vs is ∙ rw known refl)

pub settles : (c after : Ahead) (m : marked.Mark) → after ≡ rest m c → length after.1 < length c.1 → after.0.late ≡ late_of m
settles (l, []) after m gone less = absurd (omega arith)
settles (l, (t ∷ ts)) after m gone less = rw gone refl

pub not_over : (m : Mark) → ((w : ℕ) → m ≡ Over w → ⊥) → is_over m ≡ false
not_over Fine h = refl
not_over (Late w) h = refl
not_over (Over w) h = absurd (h w refl)

-- ---- tokens of one kind

pub not_true : (b : Bool) → true ≡ not b → b ≡ false
not_true true h = absurd cc
not_true false h = refl

pub not_false : (b : Bool) → false ≡ not b → b ≡ true
not_false true h = refl
not_false false h = absurd cc

module _ (t u : Token) (kind : Kind) (m : marked.Mark) (more : List Symbol) (new : List Item) (same : t ≡ u) where
  pub taken_other : true ≡ not (same_kind t.kind kind) → taken u.kind kind m more new ≡ refuse
  taken_other h = rw (← same) (ap (λ b. cond b (take m more new) refuse) (not_true _ h))

  pub taken_same : false ≡ not (same_kind t.kind kind) → taken u.kind kind m more new ≡ take m more new
  taken_same h = rw (← same) (ap (λ b. cond b (take m more new) refuse) (not_false _ h))

pub kind_is : (k j : Kind) → same_kind j k ≡ true → j ≡ k
kind_is k j h = same_true the_type (search rules) _ _ h

pub one_of_moves : (kind : Kind) (by : Token → marked.Mark) (new : Token → List Item) (t : Token) → move (one_of kind by new) t ≡ taken t.kind kind (by t) [] (new t)
unfolding move
one_of_moves kind by new t = refl

pub or_else-fine : (m : marked.Mark) → or_else m fine ≡ m
or_else-fine fine = refl
or_else-fine (over w) = refl
or_else-fine (late w) = refl

-- ---- two symbols that do the same at the next token

pub both_take : (c : Ahead) (x y : Symbol) (s t : List Symbol) (vs : List Item) (m : marked.Mark) (more other : List Symbol) (new : List Item) → move x (first c) ≡ take m more new → move y (first c) ≡ take m other new → more ++ s ≡ other ++ t
    → run c (x ∷ s) vs ≡ run c (y ∷ t) vs
both_take (l, []) x y s t vs m more other new h j same = ended_at l x s vs m more new h ∙ ap (λ z. last (settled true l.late l.line (exceeds true m NOTHING (go (behind NOTHING m) z (new ++ vs))))) same ∙ sym (ended_at l y t vs m other new j)
both_take (l, (u ∷ ts)) x y s t vs m more other new h j same =
    takes all_limits u ts l x s vs m more new h ∙ ap (λ z. past all_limits l u m ts (run_with all_limits ts (behind u m) z (new ++ vs))) same ∙ sym (takes all_limits u ts l y t vs m other new j)

pub both_refuse : (c : Ahead) (x y : Symbol) (s t : List Symbol) (vs : List Item) → move x (first c) ≡ refuse → move y (first c) ≡ refuse → run c (x ∷ s) vs ≡ run c (y ∷ t) vs
both_refuse c x y s t vs h j = refuses all_limits c.1 c.0 x s vs h ∙ sym (refuses all_limits c.1 c.0 y t vs j)
