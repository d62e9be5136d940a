use Rattle.std.proofs.Common.{◌≡◌, suc, [], ◌∷◌, ◌++◌, map, drop, slice_index_or, IfOk, IfErr, refl, ap, sym, ◌∙◌, subst, add-one}
use Rattle.psac_ops.specs.declared.plain.Plain.TheVariants.{Nil}
use Rattle.psac_ops.specs.Named.{value_of}
use Rattle.psac_plain.specs.declared.ask.Seen.{Seen}
use Rattle.psac_plain.specs.Running.{reads_view}
use Rattle.psac_readers.specs.declared.readers.Link.{Link}
use Rattle.psac_record.specs.declared.parts.Seen.{Seen as Linked}
use Rattle.psac_record.specs.Kept.{reads_of}
use Rattle.psac_trace.specs.Rights.{Sees}
use Rattle.psac_trace.specs.Running.{Opens, HaltsFor, links_only}
use Rattle.psac_trace.proofs.Reading.{drop_at, some_left, sight_hand, first_sight, reads_push, unlinked, whole_reads, link_next, link_stops, link_lost}
use Rattle.psac_trace.proofs.nodes.linked.Goals as goal

abbrev no_seen : Seen
no_seen = record { from = record { slot = 0; generation = 0 }; value = Nil }

pub entered-entry-requires-clause-hand : goal.entered-entry-requires-clause-hand
entered-entry-requires-clause-hand c =
    let seen = c.args.seen.now in
    let i = c.loop-s.s-index in
    let s = slice_index_or seen i no_seen in
    let op = c.loop-s.invariant.opens in
    let sight = first_sight c.args.pass.values.knows seen i s (drop_at seen i no_seen c.loop-s-test.true) c.loop-s.invariant.sights in
    sight_hand c.loop-s.pass.values.knows c.loop-s.pass.readers.knows op.moves.fit.sets s.from (value_of s.value) (subst (λ z. Sees z s.from (value_of s.value)) (sym op.same) sight.0)

pub returns-in-Err-push-clause-err : goal.returns-in-Err-push-clause-err
returns-in-Err-push-clause-err c =
    let t = c.args.tables.now in
    let seen = c.args.seen.now in
    let i = c.loop-s.s-index in
    let s = slice_index_or seen i no_seen in
    let all = c.loop-s.all.items in
    let saw : Linked = record { from = s.from; link = c.in-Ok.link; value = s.value } in
    let one = subst (λ z. IfOk z (λ (l : Link). Opens t c.loop-s.pass c.entered-entry.result.1 (links_only (record { link = l; of = s.from; node = c.args.node } ∷ [])))) c.in-Ok.is c.entered-entry.ensures.ok in
    let op = link_next t c.args.pass c.loop-s.pass c.entered-entry.result.1 c.args.node all c.loop-s.invariant.opens saw (all ++ saw ∷ []) one refl in
    (all ++ map unlinked (drop i seen), whole_reads all (drop i seen) ∙ c.loop-s.invariant.reads, link_lost t c.args.pass c.entered-entry.result.1 c.args.node all (all ++ saw ∷ []) saw (drop i seen) (some_left seen i no_seen c.loop-s-test.true) refl op)

pub returns-in-Err-clause-err : goal.returns-in-Err-clause-err
returns-in-Err-clause-err c =
    let t = c.args.tables.now in
    let seen = c.args.seen.now in
    let i = c.loop-s.s-index in
    let s = slice_index_or seen i no_seen in
    let all = c.loop-s.all.items in
    let l : Link = record { index = 0 } in
    let stop = subst (λ z. IfErr z (HaltsFor t c.loop-s.pass c.entered-entry.result.1 (links_only (record { link = l; of = s.from; node = c.args.node } ∷ [])))) c.in-Err.is (c.entered-entry.ensures.err l) in
    (all ++ map unlinked (drop i seen), whole_reads all (drop i seen) ∙ c.loop-s.invariant.reads, link_stops t c.args.pass c.loop-s.pass c.entered-entry.result.1 c.args.node all c.loop-s.invariant.opens (record { link = l; of = s.from; node = c.args.node }) (drop i seen) c.in-Err.halt (some_left seen i no_seen c.loop-s-test.true) stop)

pub loop-s-preserved : goal.loop-s-preserved
loop-s-preserved c =
    let t = c.args.tables.now in
    let seen = c.args.seen.now in
    let i = c.loop-s.s-index in
    let s = slice_index_or seen i no_seen in
    let all = c.loop-s.all.items in
    let saw : Linked = record { from = s.from; link = c.in-Ok.link; value = s.value } in
    let more = c.push.new.self.items in
    let is : more ≡ all ++ saw ∷ [] = c.in-Ok-push.ensures.items in
    let one = subst (λ z. IfOk z (λ (l : Link). Opens t c.loop-s.pass c.entered-entry.result.1 (links_only (record { link = l; of = s.from; node = c.args.node } ∷ [])))) c.in-Ok.is c.entered-entry.ensures.ok in
    let rest = drop_at seen i no_seen c.loop-s-test.true in
    rw add-one (record {
      opens = link_next t c.args.pass c.loop-s.pass c.entered-entry.result.1 c.args.node all c.loop-s.invariant.opens saw more one is;
      reads = ap (λ z. reads_of z ++ reads_view (drop (suc i) seen)) is ∙ reads_push all saw (reads_view (drop (suc i) seen)) ∙ ap (λ z. reads_of all ++ reads_view z) (sym rest) ∙ c.loop-s.invariant.reads;
      sights = (first_sight c.args.pass.values.knows seen i s rest c.loop-s.invariant.sights).1;
    })
