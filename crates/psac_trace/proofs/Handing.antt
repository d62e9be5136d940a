-- Where a call of a run stands, and what a claim of nodes hands on to the calls behind it.
use Rattle.std.proofs.Common.{◌≡◌, ℕ, ◌-◌, List, [], ◌∷◌, Option, Result, Ok, Err, IfOk, IfErr, subst, sym}
use Rattle.psac_ops.specs.declared.plain.Handle.{Handle}
use Rattle.psac_syntax.specs.declared.program.Stmt.{Stmt}
use Rattle.psac_syntax.specs.declared.program.Func.{Func}
use Rattle.psac_marks.specs.Passes.{Keeps}
use Rattle.psac_fork.specs.declared.tables.Pass.{Pass}
use Rattle.psac_fork.specs.declared.tables.Tables.{Tables}
use Rattle.psac_model.specs.Fresh.{levels}
use Rattle.psac_model.specs.Names.{Env}
use Rattle.psac_model.specs.Run.{Action}
use Rattle.psac_model.specs.Tree.{Reads}
use Rattle.psac_model.specs.Expression.{Setting}
use Rattle.psac_traced.specs.Traced.{Traces as Tracing}
use Rattle.psac_traced.proofs.Holds.{HoldsHere, traced_holds}
use Rattle.psac_cut.specs.CutShort.{Cuts}
use Rattle.psac_cut.proofs.Cutting.{StartsEmpty, Shortens, cut_none, cut_whole}
use Rattle.psac_record.specs.declared.parts.Reading.{Reading}
use Rattle.psac_trace.specs.declared.halt.Halt.{Halt}
use Rattle.psac_trace.specs.declared.world.World.{World}
use Rattle.psac_record.specs.declared.record.Record.{Record}
use Rattle.psac_record.specs.Kept.{Kept}
use Rattle.psac_trace.specs.Told.{ended_of}
use Rattle.psac_trace.specs.Running.{BeginsAct, LeavesAct, Opens, HaltsFor, nodes_only, read_made, Began}
use Rattle.psac_trace.specs.Worlds.{setting_of, traced_at, cut_at}

-- where a call stands: the parts of its world, what is told of runs from its level on, the rest of its body, and its pass
pub record Site : Type 1 where
  pub w : Setting Handle
  pub funcs : List Func
  pub room : ℕ
  pub deep : Tracing Handle
  pub first : Cuts Handle
  pub none : StartsEmpty first
  pub short : Shortens deep first
  pub holding : HoldsHere w funcs deep
  pub olds : List Handle
  pub t : Tables
  pub rest : List Stmt
  pub env : Env Handle
  pub par : Option Handle
  pub p : Pass

abbrev pub site : World → ℕ → List Stmt → Env Handle → Option Handle → Pass → Site
site g level rest env par p =
    record {
      w = setting_of g;
      funcs = g.funcs.now;
      room = levels - level;
      deep = traced_at g level;
      first = cut_at g level;
      none = cut_none (setting_of g) g.funcs.now (levels - level);
      short = cut_whole (setting_of g) g.funcs.now (levels - level);
      holding = traced_holds (setting_of g) g.funcs.now (levels - level);
      olds = g.olds.now;
      t = g.tables.now;
      rest = rest;
      env = env;
      par = par;
      p = p;
    }

-- a node that was claimed there
pub record Stepped (at : Site) : Type 0 where
  pub node : Handle
  pub pass : Pass
  pub opens : Opens at.t at.p pass (nodes_only ((node, at.par) ∷ []))
  pub keeps : Keeps pass.marks.knows node

-- the nodes and the links of a read block
pub record Opened (at : Site) (level number : ℕ) (reads : Reads Handle) : Type 0 where
  pub node : Handle
  pub reading : Reading
  pub pass : Pass
  pub opens : Opens at.t at.p pass (read_made at.par node reading)
  pub keeps : Keeps pass.marks.knows node
  pub inside : Keeps pass.marks.knows reading.node
  pub began : Began level number at.env reads reading

module _ (at : Site) (q : Pass) where
  open at use {env, par, p, t}

  abbrev pub stepped_on : (r : Result Handle Halt) (node : Handle) → r ≡ Ok node → IfOk r (λ (h : Handle). Opens t p q (nodes_only ((h, par) ∷ [])) × Keeps q.marks.knows h) → Stepped at
  stepped_on r node is s =
      let k = subst (λ z. IfOk z (λ (h : Handle). Opens t p q (nodes_only ((h, par) ∷ [])) × Keeps q.marks.knows h)) is s in
      record { node = node; pass = q; opens = k.0; keeps = k.1 }

  pub stepped_not : (r : Result Handle Halt) (node : Handle) (h : Halt) → r ≡ Err h → IfErr r (HaltsFor t p q (nodes_only ((node, par) ∷ []))) → HaltsFor t p q (nodes_only ((node, par) ∷ [])) h
  stepped_not r node h = subst (λ z. IfErr z (HaltsFor t p q (nodes_only ((node, par) ∷ []))))

  module _ (level number : ℕ) (reads : Reads Handle) (r : Result (Handle × Reading) Halt) where
    abbrev pub opened_on : (node : Handle) (reading : Reading) → r ≡ Ok (node, reading) → IfOk r (λ (x : Handle × Reading). Opens t p q (read_made par x.0 x.1) × Keeps q.marks.knows x.0 × Keeps q.marks.knows x.1.node × Began level number env reads x.1) → Opened at level number reads
    opened_on node reading is s =
        let k = subst (λ z. IfOk z (λ (x : Handle × Reading). Opens t p q (read_made par x.0 x.1) × Keeps q.marks.knows x.0 × Keeps q.marks.knows x.1.node × Began level number env reads x.1)) is s in
        record { node = node; reading = reading; pass = q; opens = k.0; keeps = k.1; inside = k.2; began = k.3 }

    pub opened_not : (h : Halt) → r ≡ Err h → IfErr r (λ (h : Halt). (m : Handle) × (b : Reading) × Began level number env reads b × HaltsFor t p q (read_made par m b) h) → (m : Handle) × (b : Reading) × Began level number env reads b × HaltsFor t p q (read_made par m b) h
    opened_not h = subst (λ z. IfErr z (λ (h : Halt). (m : Handle) × (b : Reading) × Began level number env reads b × HaltsFor t p q (read_made par m b) h))

-- what an action asks for, by another word for it
module _ (at : Site) (a b : Action Handle) (is : a ≡ b) where
  open at use {w, funcs, room, deep, first, olds, t, rest, env, par, p}

  pub acts_begin : BeginsAct w funcs olds t a rest env par p → BeginsAct w funcs olds t b rest env par p
  acts_begin = subst (λ z. BeginsAct w funcs olds t z rest env par p) is

  pub acts_leave : (q : Pass) (r : Result Record Halt) → (k : Kept) × LeavesAct w room deep first olds t b rest env par p q (ended_of k r) → (k : Kept) × LeavesAct w room deep first olds t a rest env par p q (ended_of k r)
  acts_leave q r l = (l.0, subst (λ z. LeavesAct w room deep first olds t z rest env par p q (ended_of l.0 r)) (sym is) l.1)
