-- How often the parts of a run look.
use Rattle.std.proofs.Common.{◌≡◌, ℕ, ◌+◌, ◌≤◌, List, [], ◌∷◌, map, length, length-append, refl, sym, ◌∙◌, subst, arith}
use Rattle.psac_ops.specs.declared.plain.Handle.{Handle}
use Rattle.psac_ops.specs.declared.plain.Plain.{Plain}
use Rattle.psac_syntax.specs.declared.program.Stmt.{Stmt}
use Rattle.psac_values.specs.declared.view.ValueView.{ValueView}
use Rattle.psac_fork.specs.declared.tables.Pass.{Pass}
use Rattle.psac_fork.specs.declared.tables.Tables.{Tables}
use Rattle.psac_model.specs.Names.{Env}
use Rattle.psac_model.specs.Tree.{Reads}
use Rattle.psac_model.specs.Expression.{Setting}
use Rattle.psac_traced.specs.Traced.{Traces as Tracing}
use Rattle.psac_cut.specs.CutShort.{Cuts}
use Rattle.psac_record.specs.declared.parts.Reading.{Reading}
use Rattle.psac_record.specs.declared.parts.Seen.{Seen as Linked}
use Rattle.psac_record.specs.Kept.{Kept, E, A, W, S, P, R, links_of, stands, reads_of}
use Rattle.psac_trace.specs.Told.{Ended, Good, Fault, Other, what, then_ended, both_ended, Follows}
use Rattle.psac_trace.specs.Looks.{writes_in, Looks}
use Rattle.psac_trace.specs.Running.{LeavesAfter}
use Rattle.psac_trace.proofs.Leaving.{what_then, same_what}

pub looks_follow : (before : ℕ) (v u : ValueView) (f : Kept → Kept) (e o : Ended Kept) → Follows (then_ended f e) o → Looks before v u (f (what e)) → Looks before v u (what o)
looks_follow before v u f e o h = subst (Looks before v u) (sym (what_then f e) ∙ same_what (then_ended f e) o h)

-- nothing was read or written
pub looks_none : (v u : ValueView) (k : Kept) → u.looks ≡ v.looks → length (links_of k) ≡ 0 → Looks 0 v u k
looks_none v u k e n = record { compared = 0; most = omega arith; count = omega (arith, e, n) }

-- a part with one after it
pub looks_then : (before : ℕ) (v u x : ValueView) (j k h : Kept) → length (links_of h) ≡ length (links_of j) + length (links_of k) → writes_in h ≡ writes_in j + writes_in k → Looks before v u j → Looks 0 u x k → Looks before v x h
looks_then before v u x j k h links writes a b =
    let p = a.most in
    let q = b.most in
    let c = a.count in
    let d = b.count in
    record { compared = a.compared + b.compared; most = omega (arith, p, q, writes); count = omega (arith, c, d, links) }

pub looks_step : (before : ℕ) (v u x : ValueView) (node : Handle) (t k : Kept) → Looks before v u t → Looks 0 u x k → Looks before v x (S node t k)
looks_step before v u x node t k = looks_then before v u x t k (S node t k) (length-append (links_of t) (links_of k)) refl

pub looks_end : (before : ℕ) (v u : ValueView) (node : Handle) (t : Kept) → Looks before v u t → Looks before v u (S node t E)
looks_end before v u node t l =
    looks_then before v u u t E (S node t E) (length-append (links_of t) []) (omega arith) l (looks_none u u E refl refl)

-- one side after the other
pub looks_sides : (v u x : ValueView) (node : Handle) (l r : Kept) → Looks 0 v u l → Looks 0 u x r → Looks 0 v x (P node l r)
looks_sides v u x node l r = looks_then 0 v u x l r (P node l r) (length-append (links_of l) (links_of r)) refl

pub looks_left : (v u : ValueView) (node : Handle) (l : Kept) → Looks 0 v u l → Looks 0 v u (P node l E)
looks_left v u node l a = looks_sides v u u node l E a (looks_none u u E refl refl)

-- the right side's looks begin at none, and are added
pub looks_joined : (v l l' k k' j : ValueView) (node : Handle) (a b : Kept) → l.looks ≡ v.looks → k.looks ≡ 0 → j.looks ≡ l'.looks + k'.looks → Looks 0 l l' a → Looks 0 k k' b → Looks 0 v j (P node a b)
looks_joined v l l' k k' j node a b el ek ej x y =
    let n = length-append (links_of a) (links_of b) in
    let p = x.most in
    let q = y.most in
    let c = x.count in
    let d = y.count in
    record { compared = x.compared + y.compared; most = omega (arith, p, q); count = omega (arith, c, d, n, el, ek, ej) }

-- a write looks at most once
pub looks_wrote : (v u x : ValueView) (m : Handle) (y : Plain) (k : Kept) (n : ℕ) → n ≤ 1 → u.looks ≡ v.looks + n → Looks 0 u x k → Looks 0 v x (W m y k)
looks_wrote v u x m y k n few e l =
    let p = l.most in
    let c = l.count in
    record { compared = l.compared + n; most = omega (arith, p, few); count = omega (arith, c, e) }

pub looks_made : (v u x : ValueView) (m : Handle) (k : Kept) → u.looks ≡ v.looks → Looks 0 u x k → Looks 0 v x (A m k)
looks_made v u x m k e l = let c = l.count in record { compared = l.compared; most = l.most; count = omega (arith, c, e) }

pub looks_from : (v u x : ValueView) (k : Kept) → u ≡ v → Looks 0 u x k → Looks 0 v x k
looks_from v u x k e l = subst (λ z. Looks 0 z x k) e l

-- those of the reads came before
read_count : (node : Handle) (saw : List Linked) (reads : Reads Handle) → reads_of saw ≡ reads → length (map (stands node) saw) ≡ length reads
read_count node [] [] e = refl
read_count node [] (r ∷ rs) e = absurd cc
read_count node (s ∷ ss) [] e = absurd cc
read_count node (s ∷ ss) (r ∷ rs) e = let n = read_count node ss rs cc in omega (arith, n)

pub looks_block : (v u : ValueView) (r : Reading) (reads : Reads Handle) (k : Kept) → reads_of r.reads ≡ reads → Looks 0 v u k → Looks (length reads) v u (R r k)
looks_block v u r reads k e l =
    let ls = map (stands r.node) r.reads in
    let n = read_count r.node r.reads reads e in
    let m = length-append ls (links_of k) in
    let c = l.count in
    record { compared = l.compared; most = l.most; count = omega (arith, c, n, m) }

-- what was read before an act is behind it in the whole
pub looks_whole : (before : ℕ) (v u x : ValueView) (k : Kept) → u.looks ≡ v.looks + before → Looks before u x k → Looks 0 v x k
looks_whole before v u x k e l = let c = l.count in record { compared = l.compared; most = l.most; count = omega (arith, c, e) }

-- behind a compound statement
module _ (w : Setting Handle) (deep : Tracing Handle) (first : Cuts Handle) (olds : List Handle) (t : Tables) (node : Handle) (rest : List Stmt) (env : Env Handle) (before : ℕ) (v : ValueView) (u q : Pass) where
  pub looks_after : (e o : Ended Kept) → Looks before v u.values.knows (what e) → LeavesAfter w deep first olds t node e rest env u q o → Looks before v q.values.knows (what o)
  looks_after (Good k) o l h =
      looks_follow before v q.values.knows (S node k) h.0 o h.2
      (looks_step before v u.values.knows q.values.knows node k (what h.0) l h.1.looks)
  looks_after (Fault k i n) o l h =
      subst (λ z. Looks before v q.values.knows (what z)) (sym h.1)
      (subst (λ (z : Pass). Looks before v z.values.knows (S node k E)) (sym h.0) (looks_end before v u.values.knows node k l))
  looks_after (Other k why) o l h =
      subst (λ z. Looks before v q.values.knows (what z)) (sym h.1)
      (subst (λ (z : Pass). Looks before v z.values.knows (S node k E)) (sym h.0) (looks_end before v u.values.knows node k l))

pub what_both : (node : Handle) (one two : Ended Kept) → what (both_ended (P node) one two) ≡ P node (what one) (what two)
what_both node (Good l) (Good r) = refl
what_both node (Good l) (Fault r k n) = refl
what_both node (Good l) (Other r why) = refl
what_both node (Fault l k n) (Good r) = refl
what_both node (Fault l k n) (Fault r j m) = refl
what_both node (Fault l k n) (Other r why) = refl
what_both node (Other l why) e = refl
