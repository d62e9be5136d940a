-- Which commits say that they repaired, and what is told of the record then.
use Rattle.std.proofs.Common.{◌≡◌, ◌⊎◌, ℕ, ◌+◌, ◌*◌, ◌≤◌, List, Option, Some, None, Result, Ok, Err, IfOk, refl}
use Rattle.std.proofs.Common.{ap, sym, ◌∙◌, subst, inl, inr}
use Rattle.std.specs.Prelude.{option_map, is_some, true}
use Rattle.psac_marks.specs.declared.view.MarksView.{MarksView}
use Rattle.psac_values.specs.Steps.{made_handle}
use Rattle.psac_fork.specs.declared.tables.Pass.{Pass}
use Rattle.psac_inputs.specs.Grid.{Grid}
use Rattle.psac_model.specs.declared.ends.Caps.{Caps}
use Rattle.psac_model.specs.declared.ends.Mode.TheVariants as mode
use Rattle.psac_model.specs.declared.ends.Work.{Work}
use Rattle.psac_model.specs.Names.{Name, Heap}
use Rattle.psac_model.specs.Run.{Ran}
use Rattle.psac_model.specs.Tree.{Tree}
use Rattle.psac_model.specs.Fresh.{World, Outcome, Full, Fault, Good, outcome}
use Rattle.psac_record.specs.declared.record.Record.{Record}
use Rattle.psac_record.specs.Kept.{Kept, nodes_in, made_of, all_of}
use Rattle.psac_record.specs.Shown.{kept_of}
use Rattle.psac_repair.specs.Counted.{looks_for}
use Rattle.psac_repair.specs.Going.{Views}
use Rattle.psac_repair.specs.Taking.{taken}
use Rattle.psac_stage.specs.Staging.{Changes}
use Rattle.psac_engine.specs.declared.answer.Answer.{Answer}
use Rattle.psac_engine.specs.Commit.{Answers}
use Rattle.psac_engine.specs.Running.{HasRun}
use Rattle.psac_engine.specs.Repaired.{Aged, Repaired, IsSpent, RepairsTo}

-- where no run is kept the program runs anew
pub none_anew : (caps : Caps) (o : Outcome) (work : Work) → Answers caps None o (Ok work) → work.mode ≡ mode.Anew
none_anew caps (Good tree heap) work a = ap (λ (x : Work). x.mode) a
none_anew caps (Fault why line) work a = absurd a
none_anew caps (Full which) work a = absurd a

-- a commit that keeps a run ended well
pub ended_well : (caps : Caps) (old : Option (Ran Name Heap)) (o : Outcome) (work : Work) → Answers caps old o (Ok work)
    → (t : Tree Name) × (h : Heap) × (o ≡ Good t h)
ended_well caps old (Good tree heap) work a = (tree, heap, refl)
ended_well caps old (Fault why line) work a = absurd a
ended_well caps old (Full which) work a = absurd a

pub run_anew : (w : World) (h : Grid) (caps : Caps) (age : ℕ) (q : Pass) (told : Result (Work × Record) Answer) → HasRun w h caps age q told
    → IfOk told (λ kept. kept.0.mode ≡ mode.Anew)
run_anew w h caps age q (Ok kept) r = none_anew caps (outcome w caps h) kept.0 r.4
run_anew w h caps age q (Err a) r = tt

pub anew_not : (work : Work) → work.mode ≡ mode.Anew → work.mode ≡ mode.Repair → ⊥
anew_not work a b = let e : mode.Anew ≡ mode.Repair = sym a ∙ b in cc

module _ (w : World) (g : Grid) (old : Kept) (p q : Views) where
  pub anew_repairs : (told : Result (Work × Record) Answer) → IfOk told (λ kept. kept.0.mode ≡ mode.Anew) → RepairsTo w g old p q told
  anew_repairs (Ok kept) a = λ is. absurd (anew_not kept.0 a is)
  anew_repairs (Err e) a = tt

  pub repairs_ok : {E : Type 0} (told : Result (Work × Record) E) (kept : Work × Record) → told ≡ Ok kept → RepairsTo w g old p q told
      → kept.0.mode ≡ mode.Repair → Repaired w g old (kept_of kept.1) p q × IsSpent kept.0 old (kept_of kept.1) p q
  repairs_ok told kept is r = subst (RepairsTo w g old p q) is r

-- the same of the tables before a batch was put in
module _ (w : World) (g : Grid) (old : Kept) (x p q : Views) (ss : List ℕ) (c : Changes ss x p) where
  repaired_before : (new : Kept) → Repaired w g old new p q → Repaired w g old new x q
  repaired_before new r =
      record {
        mended = r.mended;
        exchanged = r.exchanged;
        nodes = subst (λ v. Aged (λ n. n) (all_of nodes_in (taken old new)) v q.marks.claims) (ap (λ (m : MarksView). m.claims) c.becomes) r.nodes;
        mods = subst (λ n. Aged (made_handle n) (all_of made_of (taken old new)) x.values.claims q.values.claims) c.same.fixed
            (subst (λ v. Aged (made_handle p.values.fixed) (all_of made_of (taken old new)) v q.values.claims) c.same.claims r.mods);
      }

  spent_before : (work : Work) (new : Kept) → IsSpent work old new p q → IsSpent work old new x q
  spent_before work new s =
      let same : p.marks.asks ≡ x.marks.asks = ap (λ (m : MarksView). m.asks) c.becomes in
      record {
        looks = subst (λ n. q.values.looks ≤ n + looks_for old new) c.same.looks s.looks;
        asks = subst (λ n. q.marks.asks ≤ n + (1 + 4 * work.visited)) same s.asks;
      }

  pub repairs_before : (told : Result (Work × Record) Answer) → RepairsTo w g old p q told → RepairsTo w g old x q told
  repairs_before (Ok kept) r = λ is.
      let s = r is in (repaired_before (kept_of kept.1) s.0, spent_before kept.0 (kept_of kept.1) s.1)
  repairs_before (Err e) r = tt

-- a record is kept or not
pub kept_or : (o : Option Record) → (o ≡ None) ⊎ ((r : Record) × (o ≡ Some r))
kept_or None = inl refl
kept_or (Some r) = inr (r, refl)

pub some_kept : {A B : Type 0} (f : A → B) (o : Option A) → is_some (option_map f o) ≡ true → is_some o ≡ true
some_kept f None e = e
some_kept f (Some r) e = refl

-- what is told with a record is told
pub ok_same : (one two : Work) (r s : Record) → (let a : Result (Work × Record) Answer = Ok (one, r) in a) ≡ Ok (two, s)
    → (let a : Result Work Answer = Ok one in a) ≡ Ok two
ok_same one two r s e = let pairs : (one, r) ≡ (two, s) = cc in ap (λ (x : Work × Record). let a : Result Work Answer = Ok x.0 in a) pairs

pub err_not : (a : Answer) (kept : Work × Record) → (let x : Result (Work × Record) Answer = Err a in x) ≡ Ok kept → ⊥
err_not a kept e = cc
