-- A place where a block runs again: the tracing run may begin, and what it is to write the old record wrote.
use Rattle.std.proofs.Common.{◌≡◌, ℕ, true, List, ◌∷◌}
use Rattle.psac_ops.specs.declared.plain.Handle.{Handle}
use Rattle.psac_syntax.specs.declared.program.Stmt.{Stmt, out-Stmt}
use Rattle.psac_syntax.specs.declared.program.Stmt.TheOpen.{Stmt-F}
use Rattle.psac_syntax.specs.declared.program.ReadItem.{ReadItem}
use Rattle.psac_syntax.specs.declared.program.Func.{Func}
use Rattle.psac_values.specs.declared.view.ValueView.{ValueView}
use Rattle.psac_model.specs.Names.{Env}
use Rattle.psac_model.specs.Expression.{Setting}
use Rattle.psac_model.specs.Tree.{Reads}
use Rattle.psac_model.specs.Run.{with_reads}
use Rattle.psac_traced.specs.Rec.{Rec, S, R}
use Rattle.psac_traced.specs.Bodies.{IsCode}
use Rattle.psac_traced.specs.Places.{IsApart}
use Rattle.psac_traced.specs.Parts.{IsClosed}
use Rattle.psac_traced.specs.Mending.{unlike}
use Rattle.psac_traced.proofs.Bodies.{code_closed}
use Rattle.psac_ops.specs.Named.{same_handle}
use Rattle.psac_repair.specs.Scope.{GoesAlong, ReadsAlong}
use Rattle.psac_repair.specs.Seen.{Now}
use Rattle.psac_repair.specs.Mends.{Needs}
use Rattle.psac_repair.specs.Laws.{Program, NeedsOf, IsBlock}
use Rattle.psac_repair.specs.Rebuilt.{Begun}
use Rattle.psac_repair.proofs.Along.{goes_along, reads_along}
use Rattle.psac_repair.proofs.Before.{filled}
use Rattle.psac_repair.proofs.Tells.{Numbered, reader_at, begun, ready_redo, meets_redo}
use Rattle.std.proofs.Common.{sym, subst}

module _ (w : Setting Handle) (funcs : List Func) (Q : List Stmt → Type 0) (closed : IsClosed funcs Q) (go : GoesAlong w funcs) (reading : ReadsAlong w) where
  begun_in : (level number : ℕ) (saved : Env Handle) (reads : Reads Handle) (t r : Rec Handle) (apart : IsApart (S (R level number saved reads t) r)) (v : ValueView) (again : Reads Handle) (now : Now v reads again) (other : unlike w.same reads again ≡ true) (items : List ReadItem) (first : List Stmt) (one : Numbered w funcs Q closed go reading level number saved reads t r apart items first) → Needs w funcs Q (S (R level number saved reads t) r) v → Begun w t first (with_reads saved items again) v
  begun_in level number saved reads t r apart v again now other items first one n =
      let o = reader_at w funcs Q closed go reading level number saved reads t r apart v n.0 n.1 n.2 n.3 n.4 n.5 n.6 n.7 in
      let p = o.steps in
      let b = begun w funcs Q closed go reading level number saved reads t r apart v again now other items first one n.0 n.1 n.2 n.3 n.4 n.5 n.6 n.7 o in
      let c = p.begins n.3 reads (o.seq.along n.3 n.7.before) o.seen in
      let f = filled w funcs Q closed go reading t level o.first (with_reads saved o.items reads) n.3 p.names p.inner_end apart.0 o.one in
      record {
        base = n.4;
        st = p.names;
        end = p.inner_end;
        meets = meets_redo w funcs Q closed go reading level number saved reads t r apart v again now other items first one n.0 n.1 n.2 n.3 n.4 n.5 n.6 o;
        ready = ready_redo w funcs Q closed go reading level number saved reads t r apart v again now other items first one n.0 n.1 n.2 n.3 n.4 n.5 n.6 n.7 o;
        wrote = λ m g. f.done m (c.into m (b.out m g));
      }

-- of one program
pub begun_again : (g : Program) (v : ValueView) (level number : ℕ) (saved : Env Handle) (reads again : Reads Handle) (t r : Rec Handle) (items : List ReadItem) (first : List Stmt) → IsApart (S (R level number saved reads t) r) → Now v reads again → unlike same_handle reads again ≡ true → IsBlock g number items first → NeedsOf g (S (R level number saved reads t) r) v → Begun g.setting t first (with_reads saved items again) v
begun_again g v level number saved reads again t r items first apart now other is n =
    let other_one = subst (λ z. unlike z reads again ≡ true) (sym g.same) other in
    begun_in g.setting g.funcs (IsCode g.funcs g.main) (code_closed g.funcs g.main) (goes_along g.setting g.funcs g.checked) (reads_along g.setting) level number saved reads t r apart v again now other_one items first is n

-- the statement that read the block, at which the old record was left
pub block_stmt : (g : Program) (v : ValueView) (level number : ℕ) (saved : Env Handle) (reads : Reads Handle) (t r : Rec Handle) → IsApart (S (R level number saved reads t) r) → NeedsOf g (S (R level number saved reads t) r) v → (s : Stmt) × (more : List Stmt) × (line : ℕ) × (items : List ReadItem) × (body : List Stmt) × (out-Stmt s ≡ Stmt-F.Read line number items body) × IsCode g.funcs g.main (s ∷ more)
block_stmt g v level number saved reads t r apart n =
    let o = reader_at g.setting g.funcs (IsCode g.funcs g.main) (code_closed g.funcs g.main) (goes_along g.setting g.funcs g.checked) (reads_along g.setting) level number saved reads t r apart v n.0 n.1 n.2 n.3 n.4 n.5 n.6 n.7 in
    (o.stmt, o.rest, o.line, o.items, o.first, o.is, o.so)
