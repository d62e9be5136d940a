-- A record that a run left, opened part by part.
use Rattle.std.proofs.Common.{◌≡◌, ℕ, suc, zero, List, [], ◌∷◌, ◌++◌, map, Result, Ok, Err, refl, ap, sym, ◌∙◌, subst, ◌⊎◌, inl, inr}
use Rattle.psac_ops.specs.Value.{Value, ref}
use Rattle.psac_ops.specs.Table.{◌>>=◌}
use Rattle.psac_syntax.specs.declared.program.Stmt.{Stmt, out-Stmt}
use Rattle.psac_syntax.specs.declared.program.Stmt.TheOpen.{Stmt-F}
use Rattle.psac_syntax.specs.declared.program.ReadItem.{ReadItem}
use Rattle.psac_syntax.specs.declared.program.Func.{Func}
use Rattle.psac_model.specs.declared.ends.FaultKind.{FaultKind}
use Rattle.psac_model.specs.declared.ends.End.{End}
use Rattle.psac_model.specs.declared.ends.End.TheVariants.{Done, Stop}
use Rattle.psac_model.specs.Names.{Env, bind}
use Rattle.psac_model.specs.Expression.{Setting, in_order}
use Rattle.psac_model.specs.Tree.{Reads}
use Rattle.psac_model.specs.Run.{Action, Bind, Make, Put, Body, Block, Sides, action_of, read_of, with_reads, line_of, first_stop}
use Rattle.psac_traced.specs.Rec.{Rec, E, A, W, S, P, R, HeapOf, writes}
use Rattle.psac_traced.specs.Traced.{Traces, listed, goes_on, acts, acts_or_stops, traced}
use Rattle.psac_traced.specs.Parts.{IsBody, IsClosed, Onward, Within, Reader, Pair}
use Rattle.psac_traced.proofs.Again.{not_done, first_left}
use Rattle.psac_traced.proofs.Asked.{asked, asked_there, Asked, IsBlock}

module _ {N : Type 0} (w : Setting N) (funcs : List Func) (Q : List Stmt → Type 0) (closed : IsClosed funcs Q) where
  abbrev asks : Env N → HeapOf N → Stmt → Result (Action N) FaultKind
  asks env heap s = action_of (listed w) w funcs env heap (out-Stmt s)

  -- a `let` leaves no part
  abbrev IsPart : Action N → Type 0
  IsPart (Bind x v) = ⊥
  IsPart _ = Unit {0}

  -- the statement that left the first part
  record Opened (room : ℕ) (body : List Stmt) (env : Env N) (heap : HeapOf N) (r : Rec N) : Type 0 where
    inner : ℕ
    stmt : Stmt
    rest : List Stmt
    here : Env N
    so : Q (stmt ∷ rest)
    action : Action N
    is : asks here heap stmt ≡ Ok action
    part : IsPart action
    does : acts inner (traced w funcs inner) action rest here heap r Done
    back : (other : HeapOf N) (s : Rec N) (end : End) → acts_or_stops inner (traced w funcs inner) (asks here other stmt) (line_of (out-Stmt stmt)) rest here other s end → traced w funcs room body env other s end

  bound_there : (env : Env N) (heap other : HeapOf N) (s : Stmt) (x : ℕ) (v : Value N) → asks env heap s ≡ Ok (Bind x v) → asks env other s ≡ Ok (Bind x v)
  bound_there env heap other s x v h = elim (asked_there w funcs env heap other (out-Stmt s) (Bind x v) h) [ inl i ↦ i | inr i ↦ absurd i ]

  opened : (room : ℕ) (body : List Stmt) (env : Env N) (heap : HeapOf N) (r : Rec N) → Q body → traced w funcs room body env heap r Done → (r ≡ E) ⊎ Opened room body env heap r
  unfolding traced
  opened room [] env heap r q t = inl t.0
  opened zero (s ∷ rest) env heap r q t = inl t.0
  opened (suc room) (s ∷ rest) env heap r q t = by (asks env heap s) refl t (λ x v. opened room rest (bind x v env) heap r (closed.tail s rest q))
    where
      by : (o : Result (Action N) FaultKind) → asks env heap s ≡ o → acts_or_stops room (traced w funcs room) o (line_of (out-Stmt s)) rest env heap r Done → ((x : ℕ) (v : Value N) → traced w funcs room rest (bind x v env) heap r Done → (r ≡ E) ⊎ Opened room rest (bind x v env) heap r) → (r ≡ E) ⊎ Opened (suc room) (s ∷ rest) env heap r
      by (Err why) e t deeper = inl t.0
      by (Ok (Bind x v)) e t deeper =
          elim (deeper x v t) [
            | inl i ↦ inl i
            | inr p ↦
                inr (record {
                  inner = p.inner;
                  stmt = p.stmt;
                  rest = p.rest;
                  here = p.here;
                  so = p.so;
                  action = p.action;
                  is = p.is;
                  part = p.part;
                  does = p.does;
                  back = λ other u end k. subst (λ o. acts_or_stops room (traced w funcs room) o (line_of (out-Stmt s)) rest env other u end) (sym (bound_there env heap other s x v e)) (p.back other u end k);
                })
          ]
      by (Ok a) e t deeper =
          inr (record { inner = room; stmt = s; rest = rest; here = env; so = q; action = a; is = e; part = tt; does = t; back = λ other u end k. k })

  -- what a statement that isn't a read asks for, it asks for over another heap
  over : (env : Env N) (heap other : HeapOf N) (s : Stmt) (inner : ℕ) (rest : List Stmt) (r : Rec N) (end : End) (a : Action N) → asks env heap s ≡ Ok a → (IsBlock w funcs env a → ⊥) → acts inner (traced w funcs inner) a rest env other r end → acts_or_stops inner (traced w funcs inner) (asks env other s) (line_of (out-Stmt s)) rest env other r end
  over env heap other s inner rest r end a h only k =
      elim (asked_there w funcs env heap other (out-Stmt s) a h) [
        | inl i ↦ subst (λ o. acts_or_stops inner (traced w funcs inner) o (line_of (out-Stmt s)) rest env other r end) (sym i) k
        | inr i ↦ absurd (only i)
      ]

  body_so : (s : Stmt) (rest : List Stmt) (env : Env N) (heap : HeapOf N) (body : List Stmt) (there : Env N) → Q (s ∷ rest) → asks env heap s ≡ Ok (Body body there) → Q body
  body_so s rest env heap body there q h = by (out-Stmt s) refl (asked w funcs env heap (out-Stmt s) (Body body there) h)
    where
      by : (f : Stmt-F Stmt) → out-Stmt s ≡ f → Asked w funcs env heap f (Body body there) → Q body
      by (Stmt-F.If line e first second) is (inl i) = subst Q i (closed.first s rest line e first second is q)
      by (Stmt-F.If line e first second) is (inr i) = subst Q i (closed.second s rest line e first second is q)
      by (Stmt-F.Call line f values dests) is i = subst Q i.2 (closed.called f i.0 i.1)
      by _ is i = absurd i

  sides_so : (s : Stmt) (rest : List Stmt) (env : Env N) (heap : HeapOf N) (left right : List Stmt) → Q (s ∷ rest) → asks env heap s ≡ Ok (Sides left right) → Q left × Q right
  sides_so s rest env heap left right q h = by (out-Stmt s) refl (asked w funcs env heap (out-Stmt s) (Sides left right) h)
    where
      by : (f : Stmt-F Stmt) → out-Stmt s ≡ f → Asked w funcs env heap f (Sides left right) → Q left × Q right
      by (Stmt-F.Par line one other) is i = (subst Q i.0 (closed.left s rest line one other is q), subst Q i.1 (closed.right s rest line one other is q))
      by _ is i = absurd i

  done_on : (e : End) (inner : ℕ) (rest : List Stmt) (here : Env N) (h : HeapOf N) (r : Rec N) → goes_on e (traced w funcs inner) rest here h r Done → (e ≡ Done) × traced w funcs inner rest here h r Done
  done_on Done inner rest here h r k = (refl, k)
  done_on (Stop why line) inner rest here h r k = not_done why line k.1

  -- a record of statements is no P and no R
  pub no_pair : (room : ℕ) (body : List Stmt) (env : Env N) (heap : HeapOf N) (l k : Rec N) → Q body → traced w funcs room body env heap (P l k) Done → ⊥
  no_pair room body env heap l k q t = elim (opened room body env heap (P l k) q t) [ inl e ↦ absurd cc | inr p ↦ by p p.action p.part p.does ]
    where
      by : (p : Opened room body env heap (P l k)) (a : Action N) → IsPart a → acts p.inner (traced w funcs p.inner) a p.rest p.here heap (P l k) Done → ⊥
      by p (Bind x u) part i = part
      by p (Make d) part i = i
      by p _ part i = i

  pub no_block : (room : ℕ) (body : List Stmt) (env : Env N) (heap : HeapOf N) (level number : ℕ) (saved : Env N) (reads : Reads N) (t : Rec N) → Q body → traced w funcs room body env heap (R level number saved reads t) Done → ⊥
  no_block room body env heap level number saved reads t q k = elim (opened room body env heap (R level number saved reads t) q k) [ inl e ↦ absurd cc | inr p ↦ by p p.action p.part p.does ]
    where
      by : (p : Opened room body env heap (R level number saved reads t)) (a : Action N) → IsPart a → acts p.inner (traced w funcs p.inner) a p.rest p.here heap (R level number saved reads t) Done → ⊥
      by p (Bind x u) part i = part
      by p (Make d) part i = i
      by p _ part i = i

  asks_read : (s : Stmt) (line number : ℕ) (items : List ReadItem) (first : List Stmt) (here : Env N) (heap : HeapOf N) (reads : Reads N) → out-Stmt s ≡ Stmt-F.Read line number items first → in_order (map (read_of (listed w) w here heap) items) ≡ Ok reads → asks here heap s ≡ Ok (Block number reads first (with_reads here items reads))
  asks_read s line number items first here heap reads is h =
      ap (action_of (listed w) w funcs here heap) is ∙ ap (λ o. o >>= λ rs. Ok (Block number rs first (with_reads here items rs))) h

  module _ (room : ℕ) (body : List Stmt) (env : Env N) (heap : HeapOf N) where
    -- the rest behind a `new`
    pub made_opened : (m : N) (r : Rec N) → Q body → traced w funcs room body env heap (A m r) Done → Onward w funcs Q room body env heap (λ h. h) (A m) r
    made_opened m r q t = elim (opened room body env heap (A m r) q t) [ inl e ↦ absurd cc | inr p ↦ by p p.action p.is p.part p.does ]
      where
        by : (p : Opened room body env heap (A m r)) (a : Action N) → asks p.here heap p.stmt ≡ Ok a → IsPart a → acts p.inner (traced w funcs p.inner) a p.rest p.here heap (A m r) Done → Onward w funcs Q room body env heap (λ h. h) (A m) r
        by p (Make d) i part k =
            record {
              inner = p.inner;
              rest = p.rest;
              here = bind d (ref m) p.here;
              more_so = closed.tail p.stmt p.rest p.so;
              more = k;
              back = λ other s end l. p.back other (A m s) end (over p.here heap other p.stmt p.inner p.rest (A m s) end (Make d) i (λ b. b) l);
            }
        by p (Bind x v) i part k = absurd part
        by p _ i part k = absurd k

    -- the rest behind a write
    pub wrote_opened : (m : N) (v : Value N) (r : Rec N) → Q body → traced w funcs room body env heap (W m v r) Done → Onward w funcs Q room body env heap (λ h. (m, v) ∷ h) (W m v) r
    wrote_opened m v r q t = elim (opened room body env heap (W m v r) q t) [ inl e ↦ absurd cc | inr p ↦ by p p.action p.is p.part p.does ]
      where
        by : (p : Opened room body env heap (W m v r)) (a : Action N) → asks p.here heap p.stmt ≡ Ok a → IsPart a → acts p.inner (traced w funcs p.inner) a p.rest p.here heap (W m v r) Done → Onward w funcs Q room body env heap (λ h. (m, v) ∷ h) (W m v) r
        by p (Put n u) i part k =
            record {
              inner = p.inner;
              rest = p.rest;
              here = p.here;
              more_so = closed.tail p.stmt p.rest p.so;
              more = k.2;
              back = λ other s end l. p.back other (W m v s) end (over p.here heap other p.stmt p.inner p.rest (W m v s) end (Put n u) i (λ b. b) (k.0, k.1, l));
            }
        by p (Bind x u) i part k = absurd part
        by p _ i part k = absurd k

    no_reader : (inner : ℕ) (deep : Traces N) (number : ℕ) (reads : Reads N) (first rest : List Stmt) (saved here : Env N) (t r : Rec N) → IsBody t → acts inner deep (Block number reads first saved) rest here heap (S t r) Done → ⊥
    no_reader inner deep number reads first rest saved here (R level c f seen t) r b k = absurd b
    no_reader inner deep number reads first rest saved here _ r b k = k

    no_sides : (inner : ℕ) (deep : Traces N) (left right rest : List Stmt) (here : Env N) (t r : Rec N) → IsBody t → acts inner deep (Sides left right) rest here heap (S t r) Done → ⊥
    no_sides inner deep left right rest here (P l k) r b i = absurd b
    no_sides inner deep left right rest here _ r b i = i

    -- an if or a call, and the rest
    pub within_opened : (t r : Rec N) → IsBody t → Q body → traced w funcs room body env heap (S t r) Done → Within w funcs Q room body env heap t r
    within_opened t r b q k = elim (opened room body env heap (S t r) q k) [ inl e ↦ absurd cc | inr p ↦ by p p.action p.is p.part p.does ]
      where
        by : (p : Opened room body env heap (S t r)) (a : Action N) → asks p.here heap p.stmt ≡ Ok a → IsPart a → acts p.inner (traced w funcs p.inner) a p.rest p.here heap (S t r) Done → Within w funcs Q room body env heap t r
        by p (Body first there) i part d =
            let g = done_on d.0 p.inner p.rest p.here (writes t ++ heap) r d.2 in
            record {
              inner = p.inner;
              first = first;
              there = there;
              rest = p.rest;
              here = p.here;
              one_so = body_so p.stmt p.rest p.here heap first there p.so i;
              more_so = closed.tail p.stmt p.rest p.so;
              one = subst (λ e. traced w funcs p.inner first there heap t e) g.0 d.1;
              more = g.1;
              back = λ other u e s end l m. p.back other (S u s) end (over p.here heap other p.stmt p.inner p.rest (S u s) end (Body first there) i (λ c. c) (e, l, m));
            }
        by p (Block number reads first saved) i part d = absurd (no_reader p.inner (traced w funcs p.inner) number reads first p.rest saved p.here t r b d)
        by p (Sides left right) i part d = absurd (no_sides p.inner (traced w funcs p.inner) left right p.rest p.here t r b d)
        by p (Bind x u) i part d = absurd part
        by p _ i part d = absurd d

    -- both sides of a par, and the rest
    pub pair_opened : (l k r : Rec N) → Q body → traced w funcs room body env heap (S (P l k) r) Done → Pair w funcs Q room body env heap l k r
    pair_opened l k r q t = elim (opened room body env heap (S (P l k) r) q t) [ inl e ↦ absurd cc | inr p ↦ by p p.action p.is p.part p.does ]
      where
        by : (p : Opened room body env heap (S (P l k) r)) (a : Action N) → asks p.here heap p.stmt ≡ Ok a → IsPart a → acts p.inner (traced w funcs p.inner) a p.rest p.here heap (S (P l k) r) Done → Pair w funcs Q room body env heap l k r
        by p (Sides left right) i part d =
            let g = done_on (first_stop d.0 d.1) p.inner p.rest p.here (writes k ++ (writes l ++ heap)) r d.4 in
            let ends = first_left d.0 d.1 g.0 in
            let so = sides_so p.stmt p.rest p.here heap left right p.so i in
            record {
              inner = p.inner;
              left = left;
              right = right;
              rest = p.rest;
              here = p.here;
              left_so = so.0;
              right_so = so.1;
              more_so = closed.tail p.stmt p.rest p.so;
              one = subst (λ e. traced w funcs p.inner left p.here heap l e) ends.0 d.2;
              other = subst (λ e. traced w funcs p.inner right p.here (writes l ++ heap) k e) ends.1 d.3;
              more = g.1;
              back = λ before t u e f s end x y z. p.back before (S (P t u) s) end (over p.here heap before p.stmt p.inner p.rest (S (P t u) s) end (Sides left right) i (λ c. c) (e, f, x, y, z));
            }
        by p (Body first there) i part d =
            let g = done_on d.0 p.inner p.rest p.here (writes (P l k) ++ heap) r d.2 in
            absurd (no_pair p.inner first there heap l k (body_so p.stmt p.rest p.here heap first there p.so i) (subst (λ e. traced w funcs p.inner first there heap (P l k) e) g.0 d.1))
        by p (Bind x u) i part d = absurd part
        by p _ i part d = absurd d

    block_read : (s : Stmt) (rest : List Stmt) (here : Env N) (block : ℕ) (reads : Reads N) (inside : List Stmt) (there : Env N) → asks here heap s ≡ Ok (Block block reads inside there) → (line : ℕ) × (items : List ReadItem) × (out-Stmt s ≡ Stmt-F.Read line block items inside) × (in_order (map (read_of (listed w) w here heap) items) ≡ Ok reads) × (with_reads here items reads ≡ there)
    block_read s rest here block reads inside there h = by (out-Stmt s) refl (asked w funcs here heap (out-Stmt s) (Block block reads inside there) h)
      where
        by : (f : Stmt-F Stmt) → out-Stmt s ≡ f → Asked w funcs here heap f (Block block reads inside there) → (line : ℕ) × (items : List ReadItem) × (out-Stmt s ≡ Stmt-F.Read line block items inside) × (in_order (map (read_of (listed w) w here heap) items) ≡ Ok reads) × (with_reads here items reads ≡ there)
        by (Stmt-F.Read line number items body) is i =
            (line, items, is ∙ ap (λ n. Stmt-F.Read line n items body) i.0 ∙ ap (Stmt-F.Read line block items) i.1, i.2, i.3)
        by _ is i = absurd i

    -- a read block, and the rest
    pub reader_opened : (level number : ℕ) (saved : Env N) (reads : Reads N) (t r : Rec N) → Q body → traced w funcs room body env heap (S (R level number saved reads t) r) Done → Reader w funcs Q room body env heap level number saved reads t r
    reader_opened level number saved reads t r q k = elim (opened room body env heap (S (R level number saved reads t) r) q k) [ inl e ↦ absurd cc | inr p ↦ by p p.action p.is p.part p.does ]
      where
        by : (p : Opened room body env heap (S (R level number saved reads t) r)) (a : Action N) → asks p.here heap p.stmt ≡ Ok a → IsPart a → acts p.inner (traced w funcs p.inner) a p.rest p.here heap (S (R level number saved reads t) r) Done → Reader w funcs Q room body env heap level number saved reads t r
        by p (Block block seen first there) i part d =
            let g = done_on d.4.0 p.inner p.rest p.here (writes t ++ heap) r d.4.2 in
            let asked_so = subst (λ z. asks z heap p.stmt ≡ Ok (Block block seen first there)) d.2 i in
            let b = block_read p.stmt p.rest saved block seen first there asked_so in
            let is : out-Stmt p.stmt ≡ Stmt-F.Read b.0 number b.1 first = b.2 ∙ ap (λ n. Stmt-F.Read b.0 n b.1 first) d.1 in
            let inside = subst (λ e. traced w funcs p.inner first there heap t e) g.0 d.4.1 in
            record {
              stmt = p.stmt;
              line = b.0;
              items = b.1;
              first = first;
              rest = p.rest;
              is = is;
              so = p.so;
              seen = b.3 ∙ ap (λ z. Ok z) d.3;
              one = subst (λ n. traced w funcs n first (with_reads saved b.1 reads) heap t Done) d.0 (subst (λ z. traced w funcs p.inner first z heap t Done) (sym b.4 ∙ ap (with_reads saved b.1) d.3) inside);
              more = subst (λ n. traced w funcs n p.rest saved (writes t ++ heap) r Done) d.0 (subst (λ z. traced w funcs p.inner p.rest z (writes t ++ heap) r Done) d.2 g.1);
              back = λ other again u e s end x y z.
                  (let reads_here = subst (λ v. in_order (map (read_of (listed w) w v other) b.1) ≡ Ok again) (sym d.2) x in
                  let inside_here = subst (λ v. traced w funcs p.inner first (with_reads v b.1 again) other u e) (sym d.2) (subst (λ n. traced w funcs n first (with_reads saved b.1 again) other u e) (sym d.0) y) in
                  let behind_here = subst (λ v. goes_on e (traced w funcs p.inner) p.rest v (writes u ++ other) s end) (sym d.2) (subst (λ n. goes_on e (traced w funcs n) p.rest saved (writes u ++ other) s end) (sym d.0) z) in
                  p.back other (S (R level number saved again u) s) end
                  (subst (λ o. acts_or_stops p.inner (traced w funcs p.inner) o (line_of (out-Stmt p.stmt)) p.rest p.here other (S (R level number saved again u) s) end) (sym (asks_read p.stmt b.0 number b.1 first p.here other again is reads_here))
                  (d.0, refl, d.2, refl, (e, inside_here, behind_here))));
            }
        by p (Body first there) i part d =
            let g = done_on d.0 p.inner p.rest p.here (writes (R level number saved reads t) ++ heap) r d.2 in
            absurd (no_block p.inner first there heap level number saved reads t (body_so p.stmt p.rest p.here heap first there p.so i) (subst (λ e. traced w funcs p.inner first there heap (R level number saved reads t) e) g.0 d.1))
        by p (Bind x u) i part d = absurd part
        by p _ i part d = absurd d
