-- What each statement of the plain evaluator leaves, put together.
use Rattle.std.proofs.Common.{◌≡◌, ℕ, suc, zero, ◌-◌, ◌≤◌, ◌<◌, List, [], ◌∷◌, ◌++◌, length, drop, take, get_or, Ok, Err, Option, None, refl, ap, sym, ◌∙◌, subst, arith}
use Rattle.std.proofs.lemmas.List.{length-map}
use Rattle.std.proofs.Math.Seq.{take-length}
use Rattle.psac_ops.specs.declared.plain.Handle.{Handle}
use Rattle.psac_ops.specs.declared.plain.Plain.{Plain}
use Rattle.psac_ops.specs.Value.{ref}
use Rattle.psac_ops.specs.Named.{value_of}
use Rattle.psac_syntax.specs.declared.program.Stmt.{Stmt, out-Stmt}
use Rattle.psac_syntax.specs.declared.program.Func.{Func}
use Rattle.psac_model.specs.declared.ends.FaultKind.{FaultKind}
use Rattle.psac_model.specs.declared.ends.FaultKind.TheVariants.{TooDeep}
use Rattle.psac_model.specs.declared.ends.End.{End}
use Rattle.psac_model.specs.declared.ends.End.TheVariants.{Done, Stop}
use Rattle.psac_model.specs.declared.ends.Size.{Size}
use Rattle.psac_plain.specs.declared.binding.Binding.{Binding}
use Rattle.psac_model.specs.Names.{Env, Path, bind}
use Rattle.psac_model.specs.Tree.{Reads, R, add_size, one_s, one_p, one_mod, one_r}
use Rattle.psac_model.specs.Expression.{Setting}
use Rattle.psac_model.specs.Run.{with_reads, Deeper, Action, Bind, Make, Body, Block, Sides, under, both, first_stop, action_of, line_of, act, run, run_none, run_full, run_more}
use Rattle.psac_plain.specs.Slots.{Places, IsKept, slots, env_of, map_plain}
use Rattle.psac_plain.specs.Running.{Ends, GoesOn, places_of, reads_view, seen_pair}
use Rattle.psac_plain.specs.declared.ask.Seen.{Seen}
use Rattle.psac_syntax.specs.declared.program.ReadItem.{ReadItem}
use Rattle.psac_model.specs.Plain.{capped}
use Rattle.psac_plain.proofs.Parts.{ends_here, ends_made, ends_next, ends_block, ends_both}

pub body_splits : (body : List Stmt) (s : Stmt) → 1 ≤ length body → s ≡ get_or body 0 s → body ≡ s ∷ drop 1 body
body_splits [] s h e = absurd (omega arith)
body_splits (t ∷ rest) s h e = ap (λ u. u ∷ rest) (sym e)

-- what `[s, rest @ ..]` leaves as the rest
pub rest_is : (body : List Stmt) → take (length body - 1) (drop 1 body) ≡ drop 1 body
rest_is [] = refl
rest_is (s ∷ rest) =
    let n_is : length (s ∷ rest) - 1 ≡ length rest = omega arith in
    rw n_is (take-length rest)

module _ (w : Setting Handle) (funcs : List Func) where
  -- what is left of the environment serves the rest as the whole did
  pub rest_same : (room : ℕ) (rest : List Stmt) (old new : List Binding) (heap : Places) (path : Path) → IsKept rest old new → run slots w funcs room rest (env_of new) heap path ≡ run slots w funcs room rest (env_of old) heap path
  rest_same room [] old new heap path h =
      run_none slots w funcs room (env_of new) heap path ∙ sym (run_none slots w funcs room (env_of old) heap path)
  rest_same room (s ∷ rest) old new heap path h = ap (λ y. run slots w funcs room (s ∷ rest) (env_of y) heap path) h

  pub goes_on_same : (end : End) (room : ℕ) (rest : List Stmt) (old new : List Binding) (heap : Places) (path : Path) (told : End) (left : Places) (z after : Size) → IsKept rest old new → GoesOn end (run slots w funcs room rest (env_of new) heap path) told heap left z after → GoesOn end (run slots w funcs room rest (env_of old) heap path) told heap left z after
  goes_on_same end room rest old new heap path told left z after h k =
      subst (λ r. GoesOn end r told heap left z after) (rest_same room rest old new heap path h) k

  pub run_empty : (room : ℕ) (body : List Stmt) (env : Env Handle) (heap : Places) (path : Path) (z : Size) → length body < 1 → Ends (run slots w funcs room body env heap path) Done heap z z
  run_empty room [] env heap path z h = rw (run_none slots w funcs room env heap path) (ends_here Done heap z)
  run_empty room (s ∷ rest) env heap path z h = absurd (omega arith)

  pub run_deep : (room : ℕ) (body : List Stmt) (s : Stmt) (line : ℕ) (env : Env Handle) (heap : Places) (path : Path) (z : Size) → room ≡ 0 → body ≡ s ∷ drop 1 body → line ≡ line_of (out-Stmt s) → Ends (run slots w funcs room body env heap path) (Stop TooDeep line) heap z z
  run_deep room body s line env heap path z r b l =
      rw (r, b, l, run_full slots w funcs s (drop 1 body) env heap path) (ends_here (Stop TooDeep (line_of (out-Stmt s))) heap z)

  pub run_stop : (room : ℕ) (body : List Stmt) (s : Stmt) (line : ℕ) (k : FaultKind) (env : Env Handle) (heap : Places) (path : Path) (z : Size) → 0 < room → body ≡ s ∷ drop 1 body → line ≡ line_of (out-Stmt s) → action_of slots w funcs env heap (out-Stmt s) ≡ Err k → Ends (run slots w funcs room body env heap path) (Stop k line) heap z z
  run_stop zero body s line k env heap path z r b l a = absurd (omega arith)
  run_stop (suc n) body s line k env heap path z r b l a =
      rw (b, l, run_more slots w funcs n s (drop 1 body) env heap path, a) (ends_here (Stop k (line_of (out-Stmt s))) heap z)

  pub run_acts : (room : ℕ) (body : List Stmt) (s : Stmt) (a : Action Handle) (env : Env Handle) (heap : Places) (path : Path) (told : End) (left : Places) (z after : Size) → 0 < room → body ≡ s ∷ drop 1 body → action_of slots w funcs env heap (out-Stmt s) ≡ Ok a → Ends (act slots (run slots w funcs (room - 1)) a (drop 1 body) env heap path) told left z after → Ends (run slots w funcs room body env heap path) told left z after
  run_acts zero body s a env heap path told left z after r b e h = absurd (omega arith)
  run_acts (suc n) body s a env heap path told left z after r b e h =
      let n_is : suc n - 1 ≡ n = omega arith in
      rw (b, run_more slots w funcs n s (drop 1 body) env heap path, e) (rw (← n_is) h)

-- one arm of `act` each
module _ (deeper : Deeper Handle Places) (rest : List Stmt) where
  pub at_bind : (env more : List Binding) (x : ℕ) (v : Plain) (heap : Places) (path : Path) (told : End) (left : Places) (z after : Size) → env_of more ≡ bind x (value_of v) (env_of env) → Ends (deeper rest (env_of more) heap path) told left z after → Ends (act slots deeper (Bind x (value_of v)) rest (env_of env) heap path) told left z after
  at_bind env more x v heap path told left z after e h = subst (λ y. Ends (deeper rest y heap path) told left z after) e h

  pub at_make : (env more : List Binding) (x : ℕ) (made : Handle) (heap : List (Option Plain)) (opened : Places) (path : Path) (told : End) (left : Places) (z first after : Size) → made ≡ record { slot = length heap; generation = 0 } → opened ≡ places_of heap ++ None ∷ [] → first ≡ capped (add_size z one_mod) → env_of more ≡ bind x (ref made) (env_of env) → Ends (deeper rest (env_of more) opened (path ++ 3 ∷ [])) told left first after → Ends (act slots deeper (Make x) rest (env_of env) (places_of heap) path) told left z after
  at_make env more x made heap opened path told left z first after m o g e h =
      let m_is : made ≡ record { slot = length (places_of heap); generation = 0 } = m ∙ ap (λ n. record { slot = n; generation = 0 }) (sym (length-map heap map_plain)) in
      ends_made g (rw (← m_is, ← o) (subst (λ y. Ends (deeper rest y opened (path ++ 3 ∷ [])) told left first after) e h))

  pub at_body : (body : List Stmt) (inner env : Env Handle) (heap mid left : Places) (path : Path) (one told : End) (z first between after : Size) → first ≡ capped (add_size z one_s) → Ends (deeper body inner heap (path ++ 0 ∷ [])) one mid first between → GoesOn one (deeper rest env mid (path ++ 1 ∷ [])) told mid left between after → Ends (act slots deeper (Body body inner) rest env heap path) told left z after
  at_body body inner env heap mid left path one told z first between after g h k =
      ends_next (deeper body inner heap (path ++ 0 ∷ [])) (λ y. deeper rest env y (path ++ 1 ∷ [])) one g h k

  pub at_block : (block : ℕ) (reads : Reads Handle) (body : List Stmt) (inner env : Env Handle) (heap mid left : Places) (path : Path) (one told : End) (z first second between after : Size) → first ≡ capped (add_size z one_s) → second ≡ capped (add_size first (one_r (length reads))) → Ends (deeper body inner heap (path ++ 0 ∷ 2 ∷ [])) one mid second between → GoesOn one (deeper rest env mid (path ++ 1 ∷ [])) told mid left between after → Ends (act slots deeper (Block block reads body inner) rest env heap path) told left z after
  at_block block reads body inner env heap mid left path one told z first second between after g f h k =
      ends_next (under (R block env reads) (deeper body inner heap (path ++ 0 ∷ 2 ∷ []))) (λ y. deeper rest env y (path ++ 1 ∷ [])) one g (ends_block block env reads f h) k

  pub at_sides : (lhs rhs : List Stmt) (env : Env Handle) (heap mid end left : Places) (path : Path) (one two told : End) (z first second third between after : Size) → first ≡ capped (add_size z one_s) → second ≡ capped (add_size first one_p) → Ends (deeper lhs env heap (path ++ 0 ∷ 0 ∷ [])) one mid second third → Ends (deeper rhs env mid (path ++ 0 ∷ 1 ∷ [])) two end third between → GoesOn (first_stop one two) (deeper rest env end (path ++ 1 ∷ [])) told end left between after → Ends (act slots deeper (Sides lhs rhs) rest env heap path) told left z after
  at_sides lhs rhs env heap mid end left path one two told z first second third between after g f h i k =
      ends_next (both (deeper lhs env heap (path ++ 0 ∷ 0 ∷ [])) (λ y. deeper rhs env y (path ++ 0 ∷ 1 ∷ []))) (λ y. deeper rest env y (path ++ 1 ∷ [])) (first_stop one two) g
      (ends_both (deeper lhs env heap (path ++ 0 ∷ 0 ∷ [])) (λ y. deeper rhs env y (path ++ 0 ∷ 1 ∷ [])) f h i) k

-- the same of the runs that go so many levels deeper, at every path
module _ (w : Setting Handle) (funcs : List Func) (room : ℕ) (rest : List Stmt) where
  pub at_branch : (body : List Stmt) (inner old new : List Binding) (heap mid left : Places) (one told : End) (z first between after : Size) → first ≡ capped (add_size z one_s) → inner ≡ old → IsKept rest old new → ((path : Path) → Ends (run slots w funcs room body (env_of inner) heap path) one mid first between) → ((path : Path) → GoesOn one (run slots w funcs room rest (env_of new) mid path) told mid left between after) → (path : Path) → Ends (act slots (run slots w funcs room) (Body body (env_of old)) rest (env_of old) heap path) told left z after
  at_branch body inner old new heap mid left one told z first between after g i k b n path =
      at_body (run slots w funcs room) rest body (env_of old) (env_of old) heap mid left path one told z first between after g
      (subst (λ e. Ends (run slots w funcs room body (env_of e) heap (path ++ 0 ∷ [])) one mid first between) i (b (path ++ 0 ∷ [])))
      (goes_on_same w funcs one room rest old new mid (path ++ 1 ∷ []) told left between after k (n (path ++ 1 ∷ [])))

  pub at_called : (body : List Stmt) (inner env : Env Handle) (heap mid left : Places) (one told : End) (z first between after : Size) → first ≡ capped (add_size z one_s) → ((path : Path) → Ends (run slots w funcs room body inner heap path) one mid first between) → ((path : Path) → GoesOn one (run slots w funcs room rest env mid path) told mid left between after) → (path : Path) → Ends (act slots (run slots w funcs room) (Body body inner) rest env heap path) told left z after
  at_called body inner env heap mid left one told z first between after g b n path =
      at_body (run slots w funcs room) rest body inner env heap mid left path one told z first between after g (b (path ++ 0 ∷ [])) (n (path ++ 1 ∷ []))

  pub at_reads : (block : ℕ) (seen sight : List Seen) (items : List ReadItem) (body : List Stmt) (inner old new bound : List Binding) (heap mid left : Places) (one told : End) (count : ℕ) (by z first second between after : Size) → first ≡ capped (add_size z one_s) → second ≡ capped (add_size first by) → by ≡ one_r count → count ≡ length seen → inner ≡ old → sight ≡ seen → env_of bound ≡ with_reads (env_of inner) items (reads_view sight) → IsKept rest old new → ((path : Path) → Ends (run slots w funcs room body (env_of bound) heap path) one mid second between) → ((path : Path) → GoesOn one (run slots w funcs room rest (env_of new) mid path) told mid left between after) → (path : Path) → Ends (act slots (run slots w funcs room) (Block block (reads_view seen) body (with_reads (env_of old) items (reads_view seen))) rest (env_of old) heap path) told left z after
  at_reads block seen sight items body inner old new bound heap mid left one told count by z first second between after g f y c i s e k b n path =
      let env_is : env_of bound ≡ with_reads (env_of old) items (reads_view seen) =
      e ∙ ap (λ x. with_reads (env_of x) items (reads_view sight)) i ∙ ap (λ x. with_reads (env_of old) items (reads_view x)) s in
      let grew : second ≡ capped (add_size first (one_r (length (reads_view seen)))) =
      f ∙ ap (λ x. capped (add_size first x)) (y ∙ ap one_r (c ∙ sym (length-map seen seen_pair))) in
      at_block (run slots w funcs room) rest block (reads_view seen) body (with_reads (env_of old) items (reads_view seen)) (env_of old) heap mid left path one told z first second between after g grew
      (subst (λ x. Ends (run slots w funcs room body x heap (path ++ 0 ∷ 2 ∷ [])) one mid second between) env_is (b (path ++ 0 ∷ 2 ∷ [])))
      (goes_on_same w funcs one room rest old new mid (path ++ 1 ∷ []) told left between after k (n (path ++ 1 ∷ [])))

  pub at_pair : (lhs rhs : List Stmt) (copy slice again old new : List Binding) (heap mid end left : Places) (one two three told : End) (z first second third between after : Size) → first ≡ capped (add_size z one_s) → second ≡ capped (add_size first one_p) → copy ≡ slice → slice ≡ old → again ≡ old → IsKept rest old new → three ≡ first_stop one two → ((path : Path) → Ends (run slots w funcs room lhs (env_of copy) heap path) one mid second third) → ((path : Path) → Ends (run slots w funcs room rhs (env_of again) mid path) two end third between) → ((path : Path) → GoesOn three (run slots w funcs room rest (env_of new) end path) told end left between after) → (path : Path) → Ends (act slots (run slots w funcs room) (Sides lhs rhs) rest (env_of old) heap path) told left z after
  at_pair lhs rhs copy slice again old new heap mid end left one two three told z first second third between after g f c d i k t l r n path =
      at_sides (run slots w funcs room) rest lhs rhs (env_of old) heap mid end left path one two told z first second third between after g f
      (subst (λ e. Ends (run slots w funcs room lhs (env_of e) heap (path ++ 0 ∷ 0 ∷ [])) one mid second third) (c ∙ d) (l (path ++ 0 ∷ 0 ∷ [])))
      (subst (λ e. Ends (run slots w funcs room rhs (env_of e) mid (path ++ 0 ∷ 1 ∷ [])) two end third between) i (r (path ++ 0 ∷ 1 ∷ [])))
      (goes_on_same w funcs (first_stop one two) room rest old new end (path ++ 1 ∷ []) told left between after k
      (subst (λ e. GoesOn e (run slots w funcs room rest (env_of new) end (path ++ 1 ∷ [])) told end left between after) t (n (path ++ 1 ∷ []))))
