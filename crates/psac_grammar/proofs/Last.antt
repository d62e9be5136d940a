-- The last token of a text is taken at the bottom of the stack alone.
use Rattle.std.proofs.Common.{◌≡◌, ℕ, zero, suc, Bool, true, false, cond, List, [], ◌∷◌, ◌⊎◌, inl, inr, refl, sym, ap, ◌∙◌}
use Rattle.psac_tokens.specs.declared.token.Kind.{Kind}
use Rattle.psac_tokens.specs.declared.token.Kind.TheVariants as kinds
use Rattle.psac_tokens.specs.declared.token.Token.{Token}
use Rattle.psac_grammar.specs.Marked.{Mark, by_values}
use Rattle.psac_grammar.specs.Grammar.{start_of, top, NameList, header_values, header_dests, call_dests}
use Rattle.psac_grammar.specs.Machine.{Symbol, one_of, mark, make, level, tail, after_rows, value, values, more_values, names, more_names, more_items, block, statements, functions, same_kind, tails, Item, Move, take, pass, refuse, move, operand, also, values_at, values_on, names_at, names_on, items_on, opens, function_at, Behind, behind, Step, go, stop, done, syntax_at, no_limits, settled, exceeds, after, start, begun, step}
use Rattle.psac_grammar.proofs.Levels.{is_kind}
use Rattle.psac_grammar.proofs.Sorts.{calm, calm_pass}
use Rattle.psac_grammar.proofs.Sound.{lax_settled, lax_exceeds}
use Rattle.psac_grammar.proofs.Fills.{lies, lies_kind, lasts, Deep, bottom, lying, Good, deep, token_first, Reachable, at_start, at_last, between}

abbrev NoTake : Move → Type 0
NoTake (take m more new) = ⊥
NoTake (pass f) = Unit {0}
NoTake refuse = Unit {0}

lasts_calm : (k : Kind) → lasts k ≡ true → calm k ≡ true
lasts_calm kinds.End h = refl
lasts_calm kinds.Unreadable h = refl
lasts_calm _ h = absurd cc

lasts_lies : (k : Kind) → lasts k ≡ true → lies_kind k ≡ false
lasts_lies kinds.End h = refl
lasts_lies kinds.Unreadable h = refl
lasts_lies _ h = absurd cc

operand_last : (k : Kind) (t : Token) (p : ℕ) (more : List Symbol) → lasts k ≡ true → NoTake (operand (start_of k t) t p more)
operand_last kinds.End t p more h = tt
operand_last kinds.Unreadable t p more h = tt
operand_last _ t p more h = absurd cc

value_last : (k : Kind) (t : Token) (m : Mark) (more : List Symbol) → lasts k ≡ true → NoTake (also m (operand (start_of k t) t 0 more))
value_last kinds.End t m more h = tt
value_last kinds.Unreadable t m more h = tt
value_last _ t m more h = absurd cc

values_last : (k : Kind) (t : Token) → lasts k ≡ true → NoTake (values_at k t)
values_last kinds.End t h = tt
values_last kinds.Unreadable t h = tt
values_last _ t h = absurd cc

more_values_last : (k : Kind) (c : ℕ) → lasts k ≡ true → NoTake (values_on k c)
more_values_last kinds.End c h = tt
more_values_last kinds.Unreadable c h = tt
more_values_last _ c h = absurd cc

names_last : (k : Kind) (t : Token) (l : NameList) (n : ℕ) → lasts k ≡ true → NoTake (names_at k t l n)
names_last kinds.End t header_values n h = tt
names_last kinds.End t header_dests n h = tt
names_last kinds.End t call_dests n h = tt
names_last kinds.Unreadable t header_values n h = tt
names_last kinds.Unreadable t header_dests n h = tt
names_last kinds.Unreadable t call_dests n h = tt
names_last _ t l n h = absurd cc

more_names_last : (k : Kind) (l : NameList) (n : ℕ) → lasts k ≡ true → NoTake (names_on k l n)
more_names_last kinds.End header_values n h = tt
more_names_last kinds.End header_dests n h = tt
more_names_last kinds.End call_dests n h = tt
more_names_last kinds.Unreadable header_values n h = tt
more_names_last kinds.Unreadable header_dests n h = tt
more_names_last kinds.Unreadable call_dests n h = tt
more_names_last _ l n h = absurd cc

items_last : (k : Kind) (many b n : ℕ) → lasts k ≡ true → NoTake (items_on k many b n)
items_last kinds.End many b n h = tt
items_last kinds.Unreadable many b n h = tt
items_last _ many b n h = absurd cc

block_last : (k : Kind) (b n : ℕ) → lasts k ≡ true → NoTake (cond (same_kind k kinds.LeftBrace) (opens b n) refuse)
block_last kinds.End b n h = tt
block_last kinds.Unreadable b n h = tt
block_last _ b n h = absurd cc

function_last : (k : Kind) (t : Token) → lasts k ≡ true → NoTake (function_at k t 0)
function_last kinds.End t h = tt
function_last kinds.Unreadable t h = tt
function_last _ t h = absurd cc

one_last : (b : Bool) (k : Kind) (t : Token) (m : Mark) (new : List Item) → same_kind t.kind k ≡ b → lasts t.kind ≡ true → (lies_kind k ≡ true ⊎ lasts k ≡ false) → NoTake (cond b (take m [] new) refuse)
one_last false k t m new is h lie = tt
one_last true k t m new is h (inl lie) = let last' : lasts k ≡ true = ap lasts (sym (is_kind k t is)) ∙ h in let e : true ≡ false = sym lie ∙ lasts_lies k last' in cc
one_last true k t m new is h (inr lie) = let last' : lasts k ≡ true = ap lasts (sym (is_kind k t is)) ∙ h in let e : true ≡ false = sym last' ∙ lie in cc

passed_last : (m : Move) (f : _) → m ≡ pass f → NoTake m
passed_last (take m more new) f h = absurd cc
passed_last (pass g) f h = tt
passed_last refuse f h = tt

lies_last : (x : Symbol) (t : Token) → lies x ≡ true → lasts t.kind ≡ true → NoTake (move x t)
unfolding move
lies_last (one_of k by new) t lie h = one_last (same_kind t.kind k) k t (by t) (new t) refl h (inl lie)
lies_last (level n p) t lie h = operand_last t.kind t p (tails n p) h
lies_last (value c) t lie h = value_last t.kind t (by_values c) (tails top 0) h
lies_last values t lie h = values_last t.kind t h
lies_last (more_values c) t lie h = more_values_last t.kind c h
lies_last (names l n) t lie h = names_last t.kind t l n h
lies_last (more_names l n) t lie h = more_names_last t.kind l n h
lies_last (more_items many b n) t lie h = items_last t.kind many b n h
lies_last (block b n) t lie h = block_last t.kind b n h
lies_last (functions zero) t lie h = absurd cc
lies_last (functions (suc c)) t lie h = passed_last _ _ (calm_pass (functions (suc c)) t refl (lasts_calm t.kind h))
lies_last (make f) t lie h = passed_last _ _ (calm_pass (make f) t refl (lasts_calm t.kind h))
lies_last (tail n p) t lie h = passed_last _ _ (calm_pass (tail n p) t refl (lasts_calm t.kind h))
lies_last (after_rows p) t lie h = passed_last _ _ (calm_pass (after_rows p) t refl (lasts_calm t.kind h))
lies_last (statements b n c) t lie h = passed_last _ _ (calm_pass (statements b n c) t refl (lasts_calm t.kind h))

-- ---- the stack behind a last token

stack_is : {l k : Behind} {s q : List Symbol} {vs ws : List Item} → go l s vs ≡ go k q ws → s ≡ q
stack_is h = cc

no_refusal : (l : Behind) (t : Token) (l' : Behind) (s' : List Symbol) (vs' : List Item) → settled false l.late l.line (stop (syntax_at t)) ≡ go l' s' vs' → ⊥
no_refusal l t l' s' vs' h = let e : stop (syntax_at t) ≡ go l' s' vs' = sym (lax_settled l.late l.line (stop (syntax_at t))) ∙ h in cc

not_taken : (l : Behind) (m : Move) (t : Token) (s : List Symbol) (vs : List Item) (on : List Item → Step) (l' : Behind) (s' : List Symbol) (vs' : List Item) → NoTake m → ((us : List Item) → on us ≡ go l' s' vs' → s' ≡ []) → after no_limits l m t s vs on ≡ go l' s' vs' → s' ≡ []
not_taken l (take m more new) t s vs on l' s' vs' none below h = absurd none
not_taken l (pass f) t s vs on l' s' vs' none below h = below (f vs).1 h
not_taken l refuse t s vs on l' s' vs' none below h = absurd (no_refusal l t l' s' vs' h)

bottom_step : (b : Bool) (l : Behind) (t : Token) (m : Mark) (vs : List Item) (on : List Item → Step) (l' : Behind) (s' : List Symbol) (vs' : List Item) → after no_limits l (cond b (take m [] []) refuse) t [] vs on ≡ go l' s' vs' → s' ≡ []
bottom_step true l t m vs on l' s' vs' h = sym (stack_is (sym (lax_settled l.late l.line (exceeds false m t (go (behind t m) [] vs)) ∙ lax_exceeds m t (go (behind t m) [] vs)) ∙ h))
bottom_step false l t m vs on l' s' vs' h = absurd (no_refusal l t l' s' vs' h)

deep_last : (l : Behind) (s : List Symbol) (vs : List Item) (t : Token) (l' : Behind) (s' : List Symbol) (vs' : List Item) → Deep s → lasts t.kind ≡ true → step no_limits l s vs t ≡ go l' s' vs' → s' ≡ []
unfolding step move
deep_last l _ vs t l' s' vs' bottom last' h = bottom_step (same_kind t.kind kinds.End) l t _ vs _ l' s' vs' h
deep_last l _ vs t l' s' vs' (lying x s lie d) last' h = not_taken l (move x t) t s vs (λ us. step no_limits l s us t) l' s' vs' (lies_last x t lie last') (λ us j. deep_last l s us t l' s' vs' d last' j) h

good_last : (l : Behind) (s : List Symbol) (vs : List Item) (t : Token) (l' : Behind) (s' : List Symbol) (vs' : List Item) → Good s → lasts t.kind ≡ true → step no_limits l s vs t ≡ go l' s' vs' → s' ≡ []
unfolding step move
good_last l _ vs t l' s' vs' (deep s d) last' h = deep_last l s vs t l' s' vs' d last' h
good_last l _ vs t l' s' vs' (token_first k by new s lie g) last' h =
    absurd (by' (cond (same_kind t.kind k) (take (by t) [] (new t)) refuse) (one_last (same_kind t.kind k) k t (by t) (new t) refl last' (inr lie)) (stands' (same_kind t.kind k)) h)
  where
    Stands : Move → Type 0
    Stands (take m more new) = Unit {0}
    Stands (pass f) = ⊥
    Stands refuse = Unit {0}

    stands' : (b : Bool) → Stands (cond b (take (by t) [] (new t)) refuse)
    stands' true = tt
    stands' false = tt

    by' : (m : Move) → NoTake m → Stands m → after no_limits l m t s vs (λ us. step no_limits l s us t) ≡ go l' s' vs' → ⊥
    by' (take m more new) none yes' h = none
    by' (pass f) none yes' h = yes'
    by' refuse none yes' h = no_refusal l t l' s' vs' h

empty_step : (l : Behind) (vs : List Item) (t : Token) (l' : Behind) (s' : List Symbol) (vs' : List Item) → step no_limits l [] vs t ≡ go l' s' vs' → ⊥
unfolding step
empty_step l vs t l' s' vs' h = let e : done vs ≡ go l' s' vs' = sym (lax_settled l.late l.line (done vs)) ∙ h in cc

start_last : (l : Behind) (vs : List Item) (t : Token) (l' : Behind) (s' : List Symbol) (vs' : List Item) → lasts t.kind ≡ true → step no_limits l start vs t ≡ go l' s' vs' → s' ≡ []
unfolding step move
start_last l vs t l' s' vs' last' h = not_taken l (function_at t.kind t 0) t (mark kinds.End ∷ []) vs (λ us. step no_limits l (mark kinds.End ∷ []) us t) l' s' vs' (function_last t.kind t last') (λ us j. deep_last l (mark kinds.End ∷ []) us t l' s' vs' bottom last' j) h

-- Behind a last token nothing is expected.
pub reached_last : (l : Behind) (s : List Symbol) (vs : List Item) (t : Token) (l' : Behind) (s' : List Symbol) (vs' : List Item) → Reachable s vs → lasts t.kind ≡ true → step no_limits l s vs t ≡ go l' s' vs' → s' ≡ []
reached_last l _ _ t l' s' vs' at_start last' h = start_last l begun t l' s' vs' last' h
reached_last l _ vs t l' s' vs' (at_last _) last' h = absurd (empty_step l vs t l' s' vs' h)
reached_last l s vs t l' s' vs' (between _ _ g) last' h = good_last l s vs t l' s' vs' g last' h
