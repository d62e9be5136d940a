use Rattle.std.proofs.Common.{◌≡◌, ◌+◌, ◌*◌, ◌<◌, ◌∙◌, ap, sym, subst, refl, length, is_some, option_map, true, false, Option, Some, None, Ok, Err, arith, List, inl, inr}
use Rattle.std.specs.Option.{ForSome}
use Rattle.psac_ops.specs.declared.plain.TextId.{TextId}
use Rattle.psac_model.specs.Fresh.{fresh, outcome}
use Rattle.psac_fork.specs.declared.tables.Pass.{Pass}
use Rattle.psac_fork.specs.Whole.{IsOf}
use Rattle.psac_record.specs.declared.record.Record.{Record}
use Rattle.psac_record.specs.Shown.{kept_of, rec_of}
use Rattle.psac_repair.specs.Going.{views}
use Rattle.psac_stage.specs.Places.{fixed_slots}
use Rattle.psac_stage.specs.Recorded.{Recorded}
use Rattle.psac_stage.specs.Resting.{HasAll, IsRested, IsCleared}
use Rattle.psac_engine.specs.Commit.{Answers, no_work}
use Rattle.psac_engine.specs.Running.{Shows}
use Rattle.psac_engine.specs.Repaired.{RepairsTo}
use Rattle.psac_engine.specs.Outputs.{HasOutputs}
use Rattle.psac_engine.specs.Sound.{world_with}
use Rattle.psac_stage.proofs.Settles.{all_older}
use Rattle.std.proofs.lemmas.Grind.{merely}
use Rattle.psac_engine.proofs.Engines.{for_some, for_none, good_means, some_not}
use Rattle.psac_engine.proofs.Keeping.{low, keeps, ran}
use Rattle.psac_engine.proofs.Kept.{answers_kept}
use Rattle.psac_engine.proofs.Modes.{ended_well, none_anew, anew_not, repairs_ok, kept_or, some_kept, ok_same, err_not}
use Rattle.psac_model.specs.declared.ends.Mode.TheVariants as mode
use Rattle.psac_engine.specs.Held.{IsAnew}
use Rattle.psac_engine.proofs.Handling.{handles_gone, handles_repaired, shape_kept, drops_error, drops_anew, drops_repair, mode_or}
use Rattle.psac_engine.proofs.engine.Engine.commit.Goals as goal

pub commit_on-told-requires-clause-keeps : goal.commit_on-told-requires-clause-keeps
commit_on-told-requires-clause-keeps g c κs within =
    let e = c.args.self.now in
    let at = sym c.in-Some.ensures.value in
    let same = c.take-2.ensures.value in
    let few : e.commits < 1000000000 = c.requires.few in
    let texts = c.deref.ensures.value in
    (e.caps, 1 + 2 * e.commits, e.within, low e few at same texts, keeps e few at same texts)

pub invariant_of-self : goal.invariant_of-self
invariant_of-self g c =
    let e = c.args.self.now in
    let w = world_with e.program e.consts.items in
    let h = c.commit_on-told.new.grid in
    let q = c.commit_on-told.result.1 in
    let run = ran e c.requires.few (sym c.in-Some.ensures.value) c.take-2.ensures.value c.deref.ensures.value h q
    c.in-Ok.is c.commit_on-told.ensures.run in
    let outs = length w.main.dests in
    let age = 1 + 2 * e.commits in
    let r = c.in-Ok.record in
    let end = ended_well e.caps (option_map (fresh w) (option_map (λ (r : Record). e.grid) c.take-2.result)) (outcome w e.caps h) c.in-Ok.work run.4 in
    let good = good_means w e.caps h end.0 end.1 end.2 in
    let older : (age + 1) + 1 ≡ 1 + 2 * (e.commits + 1) = omega arith in
    record {
      main = e.main;
      texts = e.texts;
      within = e.within;
      here = refl;
      held = for_some (λ (x : Pass). IsOf x e.tables) q c.commit_on-told.ensures.of;
      all = for_some (λ (x : Pass). HasAll h outs e.caps (1 + 2 * (e.commits + 1)) x) q (subst (λ n. HasAll h outs e.caps n q) older (all_older h outs e.caps (age + 1) q run.0));
      rested = for_some IsRested q c.commit_on-told.ensures.rested;
      cleared = for_some (λ (x : Pass). is_some (Some r) ≡ false → IsCleared (fixed_slots h outs) x) q (λ z. some_not z);
      outputs = for_some (λ (x : Pass). is_some (Some r) ≡ true → HasOutputs w h x.values.knows) q (λ z. run.3);
      small = λ z. good.0;
      done = λ z. good.1;
      stands = for_some (λ (x : Pass). ForSome (Some r) (λ (k : Record). ∥ Recorded w h (kept_of k) x.values.knows x.readers.knows x.marks.knows ∥₁)) q
          (for_some (λ (k : Record). ∥ Recorded w h (kept_of k) q.values.knows q.readers.knows q.marks.knows ∥₁) r (merely run.2));
      shows = for_some (λ (k : Record). ∥ Shows w h e.caps (rec_of k) ∥₁) r run.1;
    }

pub invariant_of-self-in-Err-1 : goal.invariant_of-self-in-Err-1
invariant_of-self-in-Err-1 g c =
    let e = c.args.self.now in
    let w = world_with e.program e.consts.items in
    let h = c.commit_on-told.new.grid in
    let q = c.commit_on-told.result.1 in
    let run = ran e c.requires.few (sym c.in-Some.ensures.value) c.take-2.ensures.value c.deref.ensures.value h q
    c.in-Err.is c.commit_on-told.ensures.run in
    let outs = length w.main.dests in
    let age = 1 + 2 * e.commits in
    let k = c.take-2.new.self in
    let none : k ≡ None = c.take-2.ensures.after in
    let older : (age + 1) + 1 ≡ 1 + 2 * (e.commits + 1) = omega arith in
    record {
      main = e.main;
      texts = e.texts;
      within = e.within;
      here = refl;
      held = for_some (λ (x : Pass). IsOf x e.tables) q c.commit_on-told.ensures.of;
      all = for_some (λ (x : Pass). HasAll h outs e.caps (1 + 2 * (e.commits + 1)) x) q (subst (λ n. HasAll h outs e.caps n q) older run.0);
      rested = for_some IsRested q c.commit_on-told.ensures.rested;
      cleared = for_some (λ (x : Pass). is_some k ≡ false → IsCleared (fixed_slots h outs) x) q (λ z. run.1);
      outputs = for_some (λ (x : Pass). is_some k ≡ true → HasOutputs w h x.values.knows) q (λ z. some_not (sym z ∙ ap is_some none));
      small = λ z. some_not (sym z ∙ ap is_some none);
      done = λ z. some_not (sym z ∙ ap is_some none);
      stands = for_some (λ (x : Pass). ForSome k (λ (r : Record). ∥ Recorded w h (kept_of r) x.values.knows x.readers.knows x.marks.knows ∥₁)) q
          (for_none (λ (r : Record). ∥ Recorded w h (kept_of r) q.values.knows q.readers.knows q.marks.knows ∥₁) k none);
      shows = for_none (λ (x : Record). ∥ Shows w h e.caps (rec_of x) ∥₁) k none;
    }

pub returns-in-Ok-clause-answer : goal.returns-in-Ok-clause-answer
returns-in-Ok-clause-answer g c =
    let e = c.args.self.now in
    let w = world_with e.program e.consts.items in
    let same = c.take-2.ensures.value in
    let h = c.commit_on-told.new.grid in
    let run = ran e c.requires.few (sym c.in-Some.ensures.value) same c.deref.ensures.value h
    c.commit_on-told.result.1 c.in-Ok.is c.commit_on-told.ensures.run in
    answers_kept w e.grid e.caps c.take-2.result e.kept (outcome w e.caps h) (Ok c.in-Ok.work) same run.4

pub returns-in-Err-clause-answer : goal.returns-in-Err-clause-answer
returns-in-Err-clause-answer g c =
    let e = c.args.self.now in
    let w = world_with e.program e.consts.items in
    let same = c.take-2.ensures.value in
    let h = c.commit_on-told.new.grid in
    let run = ran e c.requires.few (sym c.in-Some.ensures.value) same c.deref.ensures.value h
    c.commit_on-told.result.1 c.in-Err.is c.commit_on-told.ensures.run in
    answers_kept w e.grid e.caps c.take-2.result e.kept (outcome w e.caps h) (Err c.in-Err.answer) same run.2

pub returns-in-Ok-clause-repaired : goal.returns-in-Ok-clause-repaired
returns-in-Ok-clause-repaired g c = λ mode.
    let e = c.args.self.now in
    let w = world_with e.program e.consts.items in
    let h = c.commit_on-told.new.grid in
    let p = c.in-Some.pass in
    let q = c.commit_on-told.result.1 in
    let run = ran e c.requires.few (sym c.in-Some.ensures.value) c.take-2.ensures.value c.deref.ensures.value h q
    c.in-Ok.is c.commit_on-told.ensures.run in
    let at = sym c.in-Some.ensures.value in
    let k = c.take-2.result in
    let same = c.take-2.ensures.value in
    let texts = c.deref.ensures.value in
    let told = c.commit_on-told.ensures.repairs e.caps (1 + 2 * e.commits) e.within (low e c.requires.few at same texts)
    (keeps e c.requires.few at same texts) in
    let answer = answers_kept w e.grid e.caps k e.kept (outcome w e.caps h) (Ok c.in-Ok.work) same run.4 in
    elim (kept_or e.kept) [
      | inl none ↦ absurd
          (anew_not c.in-Ok.work (none_anew e.caps (outcome w e.caps h) c.in-Ok.work
          (subst (λ (o : Option Record). Answers e.caps (option_map (λ (r : Record). fresh w e.grid) o) (outcome w e.caps h) (Ok c.in-Ok.work)) none answer)) mode)
      | inr some ↦
          let all = c.commit_on-told.result.0 in
          let To : List TextId → Type 0 =
          λ xs. RepairsTo (world_with e.program xs) h (kept_of some.0) (views p) (views q) all in
          let is = subst To texts (told some.0 (same ∙ some.1)) in
          let both = repairs_ok w h (kept_of some.0) (views p) (views q) all (c.in-Ok.work, c.in-Ok.record)
          c.in-Ok.is is mode in
          record {
            old = some.0;
            new = c.in-Ok.record;
            before = p;
            after = q;
            kept = some.1;
            keeps = refl;
            had = at;
            has = refl;
            repaired = both.0;
            spent = both.1;
          }
    ]

pub returns-in-Ok-clause-idle : goal.returns-in-Ok-clause-idle
returns-in-Ok-clause-idle g c = λ some idle.
    let e = c.args.self.now in
    let w = world_with e.program e.consts.items in
    let told = c.commit_on-told.ensures.idle (ap is_some c.take-2.ensures.value ∙ some_kept (λ (r : Record). fresh w e.grid) e.kept some) idle in
    ok_same c.in-Ok.work no_work c.in-Ok.record told.0 (sym c.in-Ok.is ∙ told.1)

pub returns-in-Err-clause-idle : goal.returns-in-Err-clause-idle
returns-in-Err-clause-idle g c = λ some idle.
    let e = c.args.self.now in
    let w = world_with e.program e.consts.items in
    let told = c.commit_on-told.ensures.idle (ap is_some c.take-2.ensures.value ∙ some_kept (λ (r : Record). fresh w e.grid) e.kept some) idle in
    absurd (err_not c.in-Err.answer (no_work, told.0) (sym c.in-Err.is ∙ told.1))

-- what becomes of handles

pub returns-in-Ok-clause-handles : goal.returns-in-Ok-clause-handles
returns-in-Ok-clause-handles g c =
    let e = c.args.self.now in
    let w = world_with e.program e.consts.items in
    let b = c.args.batch.now in
    let h = c.commit_on-told.new.grid in
    let p = c.in-Some.pass in
    let q = c.commit_on-told.result.1 in
    let r = c.in-Ok.record in
    let work = c.in-Ok.work in
    let run = ran e c.requires.few (sym c.in-Some.ensures.value) c.take-2.ensures.value c.deref.ensures.value h q
    c.in-Ok.is c.commit_on-told.ensures.run in
    let at = sym c.in-Some.ensures.value in
    let k = c.take-2.result in
    let same = c.take-2.ensures.value in
    let texts = c.deref.ensures.value in
    let told = c.commit_on-told.ensures.repairs e.caps (1 + 2 * e.commits) e.within (low e c.requires.few at same texts)
    (keeps e c.requires.few at same texts) in
    let answer = answers_kept w e.grid e.caps k e.kept (outcome w e.caps h) (Ok work) same run.4 in
    let s = shape_kept e.grid b h c.commit_on-told.ensures.grid in
    let ages = c.commit_on-told.ensures.ages in
    let whole = (e.rested p at).mods.whole in
    let fixed = (e.all p at).fixed in
    let anew : work.mode ≡ mode.Anew → IsAnew c.commit_on-told.result.0 = λ is. subst IsAnew (sym c.in-Ok.is) is in
    elim (mode_or work.mode) [
      | inl repair ↦
          elim (kept_or e.kept) [
            | inl none ↦ absurd
                (anew_not work (none_anew e.caps (outcome w e.caps h) work
                (subst (λ (o : Option Record). Answers e.caps (option_map (λ (x : Record). fresh w e.grid) o) (outcome w e.caps h)
                (Ok work)) none answer)) repair)
            | inr some ↦
                (let rep = repairs_ok w h (kept_of some.0) (views p) (views q) c.commit_on-told.result.0 (work, r) c.in-Ok.is
                (subst (λ (xs : List TextId). RepairsTo (world_with e.program xs) h (kept_of some.0) (views p) (views q)
                c.commit_on-told.result.0) texts (told some.0 (same ∙ some.1)))
                repair in
                handles_repaired e _ p q at refl c.rows.ensures.sound c.rows-2.ensures.sound s.0 s.1 s.2 refl fixed run.0.fixed whole
                c.commit_on-told.ensures.rested.mods.whole ages.rises some.0 r some.1 refl run.2.left_it run.2.values rep.0 _
                (drops_repair _ _ (fresh w e.grid) (fresh w h) work (ap (option_map (λ (x : Record). fresh w e.grid)) some.1) refl repair))
          ]
      | inr is ↦
          handles_gone e _ p q at refl c.rows.ensures.sound c.rows-2.ensures.sound s.0 s.1 s.2 refl fixed run.0.fixed whole
          c.commit_on-told.ensures.rested.mods.whole ages.rises _ (drops_anew _ _ work is) (ages.renews (anew is))
    ]

pub returns-in-Err-clause-handles : goal.returns-in-Err-clause-handles
returns-in-Err-clause-handles g c =
    let e = c.args.self.now in
    let b = c.args.batch.now in
    let h = c.commit_on-told.new.grid in
    let p = c.in-Some.pass in
    let q = c.commit_on-told.result.1 in
    let a = c.in-Err.answer in
    let run = ran e c.requires.few (sym c.in-Some.ensures.value) c.take-2.ensures.value c.deref.ensures.value h q
    c.in-Err.is c.commit_on-told.ensures.run in
    let at = sym c.in-Some.ensures.value in
    let s = shape_kept e.grid b h c.commit_on-told.ensures.grid in
    let ages = c.commit_on-told.ensures.ages in
    handles_gone e _ p q at refl c.rows.ensures.sound c.rows-2.ensures.sound s.0 s.1 s.2 refl (e.all p at).fixed run.0.fixed
    (e.rested p at).mods.whole c.commit_on-told.ensures.rested.mods.whole ages.rises _ (drops_error _ _ a)
    (ages.renews (subst IsAnew (sym c.in-Err.is) tt))
