-- What a tracing run tells, as it is told of a block that ran again.
use Rattle.std.proofs.Common.{◌≡◌, ℕ, ◌+◌, List, length, Option, ap, ◌∙◌, arith}
use Rattle.std.proofs.lemmas.List.{length-map}
use Rattle.psac_ops.specs.declared.plain.Handle.{Handle}
use Rattle.psac_syntax.specs.declared.program.Stmt.{Stmt}
use Rattle.psac_syntax.specs.declared.program.Func.{Func}
use Rattle.psac_fork.specs.declared.tables.Pass.{Pass}
use Rattle.psac_fork.specs.declared.tables.Tables.{Tables}
use Rattle.psac_fork.specs.Whole.{HasRoom}
use Rattle.psac_model.specs.declared.ends.CapKind.{CapKind}
use Rattle.psac_model.specs.declared.ends.CapKind.TheVariants as cap
use Rattle.psac_model.specs.Names.{Env}
use Rattle.psac_model.specs.Expression.{Setting}
use Rattle.psac_model.specs.Tree.{size_of}
use Rattle.psac_cut.specs.CutShort.{cut_short}
use Rattle.psac_cut.specs.Within.{count_of, some_mods}
use Rattle.psac_traced.specs.Rec.{Rec, tree_of}
use Rattle.psac_traced.specs.Traced.{traced}
use Rattle.psac_record.specs.Kept.{Kept, bare, nodes_below}
use Rattle.psac_record.proofs.Listed.{nodes_listed, links_listed, made_listed}
use Rattle.psac_trace.specs.Told as trace
use Rattle.psac_trace.specs.Told.{bared}
use Rattle.psac_trace.specs.Grown.{Made, made_below, count, claims_in, as_own}
use Rattle.psac_trace.specs.Running.{AtMost, Leaves}
use Rattle.psac_trace.proofs.Following.{runs_tell}
use Rattle.psac_repair.specs.Ended.{Ended, Good, Fault, Other}
use Rattle.psac_repair.specs.Wanted.{TellsAll}
use Rattle.psac_repair.proofs.Drawing.{Draw, DrawMost, count_add}

abbrev pub as_ended : trace.Ended (Rec Handle) → Ended
as_ended (trace.Good r) = Good r
as_ended (trace.Fault r k n) = Fault k n
as_ended (trace.Other r why) = Other why

-- a record has as many nodes, modifiables and links as its size says
listed : (par : Option Handle) (k : Kept) (c : CapKind) → count c (made_below par k) ≡ count_of c (size_of (tree_of (bare k)))
listed par k cap.Nodes = length-map (nodes_below par k) as_own ∙ nodes_listed par k
listed par k cap.Mods = made_listed k
listed par k cap.Links = links_listed k

-- so many indexes were drawn: for slots, and past the list
abbrev pub drawn_in : Pass → Made → CapKind → ℕ
drawn_in q made c = count c made + (claims_in c q).over

none_over : (q : Pass) → HasRoom q → (c : CapKind) → (claims_in c q).over ≡ 0
none_over q room cap.Nodes = room.2
none_over q room cap.Mods = room.0
none_over q room cap.Links = room.1

draws_whole : (par : Option Handle) (q : Pass) (k : Kept) (made : Made) → made ≡ made_below par k → HasRoom q
    → Draw (drawn_in q made) (size_of (tree_of (bare k)))
draws_whole par q k made is room c = let a = none_over q room c in let b = ap (count c) is ∙ listed par k c in omega (arith, a, b)

draws_cut : (par : Option Handle) (q : Pass) (k : Kept) (made : Made) → made.mods ≡ (made_below par k).mods
    → AtMost q made (made_below par k) → DrawMost (drawn_in q made) (size_of (tree_of (bare k))) q.values.knows.claims.over
draws_cut par q k made mods most cap.Nodes =
    let a = most.0 in
    let b = listed par k cap.Nodes in
    let d = count_add cap.Nodes (size_of (tree_of (bare k))) (some_mods q.values.knows.claims.over) in
    omega (arith, a, b, d)
draws_cut par q k made mods most cap.Mods = let a = ap (λ (ms : List Handle). length ms) mods in let b = listed par k cap.Mods in omega (arith, a, b)
draws_cut par q k made mods most cap.Links = let a = most.1 in let b = listed par k cap.Links in omega (arith, a, b)

module _ (w : Setting Handle) (funcs : List Func) (room : ℕ) (olds : List Handle) (t : Tables) (body : List Stmt) (env : Env Handle) (par : Option Handle) (p q : Pass) where
  abbrev Ran : trace.Ended Kept → Type 0
  Ran = Leaves w (traced w funcs room) (cut_short w funcs room) olds t body env par p q

  pub tells_all : (e : trace.Ended Kept) (l : Ran e)
      → TellsAll w (traced w funcs room) (cut_short w funcs room) body env p.values.knows q.values.knows (drawn_in q l.made) (as_ended (bared e))
  tells_all (trace.Good k) l base st end meets ready =
      let a = runs_tell w funcs room olds t body env par p q (trace.Good k) l base st end meets ready in
      (a.0, a.1, a.2, a.3, draws_whole par q k l.made l.all l.room)
  tells_all (trace.Fault k i n) l base st end meets ready =
      let a = runs_tell w funcs room olds t body env par p q (trace.Fault k i n) l base st end meets ready in
      (bare k, a.0, a.1, a.2, a.3, draws_whole par q k l.made l.all l.room)
  tells_all (trace.Other k why) l base st end meets ready =
      let a = runs_tell w funcs room olds t body env par p q (trace.Other k why) l base st end meets ready in
      let told = l.tells base st end meets ready in
      (bare k, q.values.knows.claims.over, told.0, a.1, draws_cut par q k l.made l.all.0 l.all.1, told.1)
