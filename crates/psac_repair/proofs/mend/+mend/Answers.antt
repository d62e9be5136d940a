use Rattle.std.proofs.Common.{◌≡◌, ◌+◌, ◌≤◌, length, ap, sym, ◌∙◌, subst, [], ◌∷◌, IfOk, IfSome}
use Rattle.psac_ops.specs.declared.plain.Handle.{Handle}
use Rattle.psac_record.specs.Kept as kept
use Rattle.psac_record.specs.Kept.{S, P, R, bare}
use Rattle.psac_record.specs.Opened.{part_of}
use Rattle.psac_record.specs.Shown.{kept_of}
use Rattle.std.specs.Prelude.{List}
use Rattle.psac_marks.specs.Passes.{Owns, Bare}
use Rattle.psac_record.specs.declared.parts.Seen.{Seen}
use Rattle.psac_repair.specs.Seen.{Known}
use Rattle.psac_repair.specs.Changing.{Changed}
use Rattle.psac_repair.specs.Going.{views, Clears}
use Rattle.psac_repair.specs.WalkLaws.{left_side, right_side}
use Rattle.psac_repair.specs.Ended.{Good}
use Rattle.psac_traced.specs.Rec as rec
use Rattle.psac_repair.specs.Outcomes.{Counts, is_good, end_of}
use Rattle.psac_repair.specs.Marks.{IsMarked}
use Rattle.psac_repair.specs.Repairing.{Begins, Left, BeginsPart, LeftPart, Spares, SparesPart}
use Rattle.psac_repair.proofs.Spending.{pair_bad, untried_bad, stopped_spares, stopped_part, stopped_since}
use Rattle.psac_repair.proofs.Spending.{ended_spares, made_spared, wrote_spared, quiet_spared, quiet_part, body_spared}
use Rattle.psac_repair.proofs.Spending.{step_spared, turn_spared, side_spared, asked_spared, again_spared, block_spared}
use Rattle.psac_repair.proofs.Walking.{part_left, made_begins, made_left, wrote_begins, wrote_left, body_part}
use Rattle.psac_repair.proofs.Walking.{body_begins, body_left, sits_owned, begins_asked, left_asked, left_quiet}
use Rattle.psac_repair.proofs.Walking.{step_begins, step_out, rest_begins, step_undone, step_owned, step_bared}
use Rattle.psac_repair.proofs.Walking.{step_done}
use Rattle.psac_repair.proofs.Walking.{part_begins_asked, part_left_asked, part_begins_looked, part_left_looked}
use Rattle.psac_repair.proofs.Walking.{quiet_sides, quiet_block, same_views}
use Rattle.psac_repair.proofs.Pairing.{seen_present, block_known, changed_looked, inner_begins, block_undone}
use Rattle.psac_repair.proofs.Pairing.{block_owned, block_bared, block_done}
use Rattle.psac_repair.proofs.Pairing.{left_begins, turns_out, right_begins, turns_undone, turns_owned, turns_bared}
use Rattle.psac_repair.proofs.Pairing.{turns_done, mine_begins, theirs_begins, sides_join, sides_undone, sides_owned}
use Rattle.psac_repair.proofs.Pairing.{sides_bared, sides_done}
use Rattle.psac_repair.proofs.Pairing.{left_here, right_here}
use Rattle.psac_repair.proofs.Mended.{joined}
use Rattle.psac_repair.proofs.Redone.{redo_undone}
use denote.Param.Send.{sendable}
use Rattle.psac_fork.proofs.tables.Pass.TheSendSync as pass
use Rattle.psac_repair.proofs.Crossing.{outcome_send}
use Rattle.psac_repair.proofs.mend.+mend.Goals as goal

-- records of statements

pub mend-mend-rest-requires-clause-begins : goal.mend-mend-rest-requires-clause-begins
mend-mend-rest-requires-clause-begins g t c κs within =
    let w = c.args.world.now in
    let p = c.args.pass in
    let is = sym c.apart.ensures ∙ ap part_of c.in-Made.is in
    made_begins w c.in-Made.place.value.modifiable (kept_of c.in-Made.rest) p
    (subst (λ z. Begins w z p) is c.requires.begins)

pub mend-returns-in-Made : goal.mend-returns-in-Made
mend-returns-in-Made g t c =
    let w = c.args.world.now in
    let p = c.args.pass in
    let m = c.in-Made.place.value.modifiable in
    let k = kept_of c.in-Made.rest in
    let one = c.mend-rest in
    let q = one.result.1 in
    let o = c.behind_made.result in
    let is = sym (sym c.apart.ensures ∙ ap part_of c.in-Made.is) in
    let e = c.behind_made.ensures in
    record {
      of = one.ensures.of;
      left = subst (λ z. Left w z p q o) is (made_left w m k p q one.result.0 o e.kept e.end one.ensures.left);
      spares = subst (λ z. Spares w z p q o) is (made_spared w m k p q one.result.0 o e.kept e.end one.ensures.spares);
      counts = subst (λ z. Counts z o) is (e.counts k one.ensures.counts);
    }

pub mend-mend-rest-requires-in-Wrote-clause-begins : goal.mend-mend-rest-requires-in-Wrote-clause-begins
mend-mend-rest-requires-in-Wrote-clause-begins g t c κs within =
    let w = c.args.world.now in
    let p = c.args.pass in
    let is = sym c.apart.ensures ∙ ap part_of c.in-Wrote.is in
    let at = c.in-Wrote.place.value in
    wrote_begins w at.modifiable at.value (kept_of c.in-Wrote.rest) p (subst (λ z. Begins w z p) is c.requires.begins)

pub mend-returns-in-Wrote : goal.mend-returns-in-Wrote
mend-returns-in-Wrote g t c =
    let w = c.args.world.now in
    let p = c.args.pass in
    let at = c.in-Wrote.place.value in
    let m = at.modifiable in
    let x = at.value in
    let k = kept_of c.in-Wrote.rest in
    let one = c.mend-rest-in-Wrote in
    let q = one.result.1 in
    let o = c.behind_wrote.result in
    let is = sym (sym c.apart.ensures ∙ ap part_of c.in-Wrote.is) in
    let e = c.behind_wrote.ensures in
    let r = one.result.0 in
    record {
      of = one.ensures.of;
      left = subst (λ z. Left w z p q o) is (wrote_left w m x k p q r o e.kept e.end one.ensures.left);
      spares = subst (λ z. Spares w z p q o) is (wrote_spared w m x k p q r o e.kept e.end one.ensures.spares);
      counts = subst (λ z. Counts z o) is (e.counts k one.ensures.counts);
    }

pub mend-mend_step-requires-clause-begins : goal.mend-mend_step-requires-clause-begins
mend-mend_step-requires-clause-begins g t c κs within =
    subst (λ z. Begins c.args.world.now z c.args.pass) (sym c.apart.ensures ∙ ap part_of c.in-Step.is) c.requires.begins

pub mend-returns-in-Step : goal.mend-returns-in-Step
mend-returns-in-Step g t c =
    let is = sym (sym c.apart.ensures ∙ ap part_of c.in-Step.is) in
    let o = c.mend_step.result in
    let e = c.mend_step.ensures in
    record {
      of = e.of;
      left = subst (λ z. Left c.args.world.now z c.args.pass o.1 o.0) is e.left;
      spares = subst (λ z. Spares c.args.world.now z c.args.pass o.1 o.0) is e.spares;
      counts = subst (λ z. Counts z o.0) is e.counts;
    }

pub mend-returns-in_default : goal.mend-returns-in_default
mend-returns-in_default g t c =
    let x = c.apart.result in
    let o = c.kept.result in
    let p = c.args.pass in
    let w = c.args.world.now in
    let no = c.in_default in
    let is = c.apart.ensures in
    let same = c.kept.ensures.kept ∙ c.together.ensures in
    let end = c.kept.ensures.end ∙ ap (λ (z : kept.Kept). Good (bare z)) c.together.ensures in
    record {
      of = c.requires.of;
      left = subst (λ z. Left w z p p o) is (part_left w x p o no.not-Made no.not-Wrote no.not-Step same end);
      spares = subst (λ z. Spares w z p p o) is (ended_spares w x p o no.not-Made no.not-Wrote no.not-Step same end);
      counts = subst (λ z. Counts z o) (c.together.ensures ∙ is) c.kept.ensures.counts;
    }

-- a part

pub mend_part-mend_both-requires-clause-begins : goal.mend_part-mend_both-requires-clause-begins
mend_part-mend_both-requires-clause-begins g t c κs within =
    let is = sym c.apart.ensures ∙ ap part_of c.in-Both.is in
    subst (λ z. BeginsPart c.args.world.now z (kept_of c.args.rest.now) c.args.pass) is c.requires.begins

pub mend_part-returns-in-Both : goal.mend_part-returns-in-Both
mend_part-returns-in-Both g t c =
    let is = sym (sym c.apart.ensures ∙ ap part_of c.in-Both.is) in
    let o = c.mend_both.result in
    let e = c.mend_both.ensures in
    record {
      of = e.of;
      left = subst (λ z. LeftPart c.args.world.now z (kept_of c.args.rest.now) c.args.pass o.1 o.0) is e.left;
      spares = subst (λ z. SparesPart c.args.world.now z (kept_of c.args.rest.now) c.args.pass o.1 o.0) is e.spares;
      counts = subst (λ z. Counts z o.0) is e.counts;
    }

pub mend_part-mend_block-requires-clause-begins : goal.mend_part-mend_block-requires-clause-begins
mend_part-mend_block-requires-clause-begins g t c κs within =
    let is = sym c.apart.ensures ∙ ap part_of c.in-Block.is in
    subst (λ z. BeginsPart c.args.world.now z (kept_of c.args.rest.now) c.args.pass) is c.requires.begins

pub mend_part-returns-in-Block : goal.mend_part-returns-in-Block
mend_part-returns-in-Block g t c =
    let is = sym (sym c.apart.ensures ∙ ap part_of c.in-Block.is) in
    let o = c.mend_block.result in
    let e = c.mend_block.ensures in
    record {
      of = e.of;
      left = subst (λ z. LeftPart c.args.world.now z (kept_of c.args.rest.now) c.args.pass o.1 o.0) is e.left;
      spares = subst (λ z. SparesPart c.args.world.now z (kept_of c.args.rest.now) c.args.pass o.1 o.0) is e.spares;
      counts = subst (λ z. Counts z o.0) is e.counts;
    }

pub mend_part-mend-requires-clause-begins : goal.mend_part-mend-requires-clause-begins
mend_part-mend-requires-clause-begins g t c κs within =
    let x = c.apart.result in
    let w = c.args.world.now in
    let p = c.args.pass in
    let rest = kept_of c.args.rest.now in
    let body = body_part x c.in_default.not-Both c.in_default.not-Block in
    subst (λ z. Begins w z p) (sym c.together.ensures)
    (body_begins w (part_of x) rest p body (subst (λ z. BeginsPart w z rest p) (sym c.apart.ensures) c.requires.begins))

pub mend_part-returns-in_default : goal.mend_part-returns-in_default
mend_part-returns-in_default g t c =
    let x = c.apart.result in
    let w = c.args.world.now in
    let p = c.args.pass in
    let rest = kept_of c.args.rest.now in
    let body = body_part x c.in_default.not-Both c.in_default.not-Block in
    let o = c.mend.result.0 in
    let q = c.mend.result.1 in
    record {
      of = c.mend.ensures.of;
      left = subst (λ z. LeftPart w z rest p q o) c.apart.ensures
          (body_left w (part_of x) rest p q o body (subst (λ z. Left w z p q o) c.together.ensures
          c.mend.ensures.left));
      spares = subst (λ z. SparesPart w z rest p q o) c.apart.ensures
          (body_spared w (part_of x) rest p q o body
          (subst (λ z. Spares w z p q o) c.together.ensures c.mend.ensures.spares));
      counts = subst (λ z. Counts z o) (c.together.ensures ∙ c.apart.ensures) c.mend.ensures.counts;
    }

-- a part and the rest behind it

pub mend_step-asked-marked-requires-clause-own : goal.mend_step-asked-marked-requires-clause-own
mend_step-asked-marked-requires-clause-own g t c =
    let b = c.requires.begins in
    sits_owned c.args.pass.marks.knows b.2 c.args.place.value.node c.deref.result.now.node b.3.planted.nodes.0
    (ap (λ z. z.node) c.deref.ensures)

pub mend_step-returns-then-not-marked : goal.mend_step-returns-then-not-marked
mend_step-returns-then-not-marked g t c =
    let w = c.args.world.now in
    let k = S c.args.place.value.node (kept_of c.args.inner) (kept_of c.args.rest) in
    let p = c.args.pass in
    let q = c.asked-marked.result.1 in
    let x = c.together-whole.result in
    let o = c.kept.result in
    let e = c.asked-marked.ensures in
    let is = c.together-whole.ensures in
    let f = c.kept.ensures in
    let top = sym (ap (λ z. z.node.slot ∷ []) c.deref.ensures) in
    let no = c.if-not-marked.true in
    record {
      of = e.of;
      left = left_quiet w k p q e.asks e.closed (λ above ns. e.quiet above k top ns no) x o is f.kept f.end;
      spares = quiet_spared w k p q e.asks e.once e.closed (λ above ns. e.quiet above k top ns no) x o is f.kept f.end;
      counts = subst (λ z. Counts z o) is f.counts;
    }

pub mend_step-mend_part-one-requires-clause-begins : goal.mend_step-mend_part-one-requires-clause-begins
mend_step-mend_part-one-requires-clause-begins g t c κs within =
    let n = c.args.place.value.node in
    let w = c.args.world.now in
    let k = kept_of c.args.inner in
    let r = kept_of c.args.rest in
    let q = c.asked-marked.result.1 in
    step_begins w n k r q (begins_asked w (S n k r) c.args.pass q c.asked-marked.ensures.asks c.requires.begins)

pub mend_step-returns-then-not-is_done : goal.mend_step-returns-then-not-is_done
mend_step-returns-then-not-is_done g t c =
    let n = c.args.place.value.node in
    let w = c.args.world.now in
    let k = kept_of c.args.inner in
    let r = kept_of c.args.rest in
    let p = c.args.pass in
    let q = c.asked-marked.result.1 in
    let one = c.mend_part-one in
    let x = one.result.1 in
    let d = one.result.0 in
    let o = c.in_step in
    let kept = c.kept-then-not-is_done in
    let stop = sym c.if-not-is_done.ensures in
    let bad = ap is_good o.ensures.end ∙ pair_bad rec.S (end_of d) (end_of kept.result) stop in
    record {
      of = one.ensures.of;
      left = left_asked w (S n k r) p q x o.result c.asked-marked.ensures.asks
          (step_out w n k r q x d kept.result o.result stop (bare r) kept.ensures.end o.ensures.end one.ensures.left);
      spares = stopped_spares w x o.result bad (S n k r) p;
      counts = o.ensures.counts k r one.ensures.counts kept.ensures.counts;
    }

pub mend_step-mend-two-requires-clause-begins : goal.mend_step-mend-two-requires-clause-begins
mend_step-mend-two-requires-clause-begins g t c κs within =
    let n = c.args.place.value.node in
    let w = c.args.world.now in
    let k = kept_of c.args.inner in
    let r = kept_of c.args.rest in
    let q = c.asked-marked.result.1 in
    let one = c.mend_part-one in
    let b = begins_asked w (S n k r) c.args.pass q c.asked-marked.ensures.asks c.requires.begins in
    rest_begins w n k r q one.result.1 one.result.0 (sym c.if-not-is_done.ensures) one.ensures.left b

pub mend_step-returns-then-not-is_done-2 : goal.mend_step-returns-then-not-is_done-2
mend_step-returns-then-not-is_done-2 g t c =
    let n = c.args.place.value.node in
    let w = c.args.world.now in
    let k = kept_of c.args.inner in
    let r = kept_of c.args.rest in
    let p = c.args.pass in
    let q = c.asked-marked.result.1 in
    let one = c.mend_part-one in
    let two = c.mend-two in
    let x = two.result.1 in
    let o = c.in_step-whole in
    let bad = sym c.if-not-is_done-2.ensures in
    record {
      of = two.ensures.of;
      left = left_asked w (S n k r) p q x o.result c.asked-marked.ensures.asks
          (step_undone w n k r q one.result.1 one.result.0 (sym c.if-not-is_done.ensures) one.ensures.left
          x two.result.0 o.result o.ensures.end two.ensures.left bad);
      spares = stopped_spares w x o.result bad (S n k r) p;
      counts = o.ensures.counts k r one.ensures.counts two.ensures.counts;
    }

pub mend_step-cleared-requires : goal.mend_step-cleared-requires
mend_step-cleared-requires g t c =
    let n = c.args.place.value.node in
    let w = c.args.world.now in
    let k = kept_of c.args.inner in
    let r = kept_of c.args.rest in
    let q = c.asked-marked.result.1 in
    let one = c.mend_part-one in
    let two = c.mend-two in
    let x = two.result.1 in
    let o = c.in_step-whole in
    let good = sym c.if-not-is_done.ensures in
    let fine = sym c.if-not-is_done-2.ensures in
    let b = begins_asked w (S n k r) c.args.pass q c.asked-marked.ensures.asks c.requires.begins in
    let is = sym (ap (λ z. z.node) c.deref.ensures) in
    record {
      of = two.ensures.of;
      own = subst (λ (z : Handle). Owns x.marks.knows z) is
          (step_owned w n k r q one.result.1 one.result.0 good one.ensures.left
          x two.result.0 o.result o.ensures.end two.ensures.left fine b);
      bare = subst (λ (z : Handle). Bare x.marks.knows z.slot) is
          (step_bared w n k r q one.result.1 one.result.0 good one.ensures.left
          x two.result.0 o.result o.ensures.end two.ensures.left fine b);
    }

pub mend_step-returns : goal.mend_step-returns
mend_step-returns g t c =
    let n = c.args.place.value.node in
    let w = c.args.world.now in
    let k = kept_of c.args.inner in
    let r = kept_of c.args.rest in
    let p = c.args.pass in
    let q = c.asked-marked.result.1 in
    let e = c.asked-marked.ensures in
    let one = c.mend_part-one in
    let two = c.mend-two in
    let x = two.result.1 in
    let o = c.in_step-whole in
    let y = c.cleared.result in
    let good = sym c.if-not-is_done.ensures in
    let fine = sym c.if-not-is_done-2.ensures in
    let is = ap (λ z. z.node) c.deref.ensures in
    let marked = subst (IsMarked p.marks.knows) is (e.marked c.if-not-marked.false) in
    let clears = subst (λ (z : Handle). Clears z (views x) (views y)) is c.cleared.ensures.clears in
    record {
      of = c.cleared.ensures.of;
      left = left_asked w (S n k r) p q y o.result e.asks
          (step_done w n k r q one.result.1 one.result.0 good one.ensures.left
          x two.result.0 o.result o.ensures.end two.ensures.left fine y clears o.ensures.kept);
      spares = step_spared w n k r p q e.asks e.once marked one.result.1 one.result.0 good one.ensures.left
          one.ensures.spares x two.result.0 o.result o.ensures.end two.ensures.left two.ensures.spares
          fine y clears o.ensures.kept;
      counts = o.ensures.counts k r one.ensures.counts two.ensures.counts;
    }

-- a read block

pub mend_block-asked-marked-requires-clause-own : goal.mend_block-asked-marked-requires-clause-own
mend_block-asked-marked-requires-clause-own g t c =
    let b = c.requires.begins in
    sits_owned c.args.pass.marks.knows b.2 c.args.place.value.reading.node c.deref.result.now.reading.node
    b.3.planted.nodes.0 (ap (λ z. z.reading.node) c.deref.ensures)

pub mend_block-returns-then-not-marked : goal.mend_block-returns-then-not-marked
mend_block-returns-then-not-marked g t c =
    let w = c.args.world.now in
    let b = c.args.place.value.reading in
    let k = kept_of c.args.inner in
    let rest = kept_of c.args.rest.now in
    let p = c.args.pass in
    let q = c.asked-marked.result.1 in
    let x = c.together-whole.result in
    let o = c.kept.result in
    let e = c.asked-marked.ensures in
    let is = c.together-whole.ensures in
    let f = c.kept.ensures in
    let top = sym (ap (λ z. z.reading.node.slot ∷ []) c.deref.ensures) in
    let no = c.if-not-marked.true in
    record {
      of = e.of;
      left = quiet_block w b k rest p q e.asks e.closed (λ above ns. e.quiet above (R b k) top ns no)
          x o is f.kept f.end;
      spares = quiet_part w (R b k) p q e.asks e.once e.closed (λ above ns. e.quiet above (R b k) top ns no)
          x o is f.kept f.end rest;
      counts = subst (λ z. Counts z o) is f.counts;
    }

pub mend_block-seen_again-found-requires-clause-known : goal.mend_block-seen_again-found-requires-clause-known
mend_block-seen_again-found-requires-clause-known g t c =
    let b = c.args.place.value.reading in
    let k = kept_of c.args.inner in
    let rest = kept_of c.args.rest.now in
    let w = c.args.world.now in
    let q = c.asked-marked.result.1 in
    let reads = c.as_slice.ensures ∙ ap (λ z. z.reading.reads) c.deref-2.ensures in
    subst (λ (z : List Seen). Known q.values.knows z) (sym reads)
    (block_known w b k rest q (part_begins_asked w (R b k) rest c.args.pass q c.asked-marked.ensures.asks
    c.requires.begins))

pub mend_block-returns-in_default : goal.mend_block-returns-in_default
mend_block-returns-in_default g t c =
    let k = R c.args.place.value.reading (kept_of c.args.inner) in
    let rest = kept_of c.args.rest.now in
    let w = c.args.world.now in
    let p = c.args.pass in
    let q = c.asked-marked.result.1 in
    let found = c.seen_again-found in
    let x = found.result.1 in
    let o = c.no_memory.result in
    let e = c.no_memory.ensures in
    record {
      of = found.ensures.of;
      left = part_left_asked w k rest p q x o c.asked-marked.ensures.asks
          (part_left_looked w k rest q x x o found.ensures.looks (redo_undone w k rest x o e.end));
      spares = stopped_part w x o (ap is_good e.end) k rest p;
      counts = e.counts k;
    }

pub mend_block-redo_block-requires-clause-begins : goal.mend_block-redo_block-requires-clause-begins
mend_block-redo_block-requires-clause-begins g t c κs lives =
    let k = R c.args.place.value.reading (kept_of c.args.inner) in
    let rest = kept_of c.args.rest.now in
    let w = c.args.world.now in
    let q = c.asked-marked.result.1 in
    part_begins_looked w k rest q c.seen_again-found.result.1 c.seen_again-found.ensures.looks
    (part_begins_asked w k rest c.args.pass q c.asked-marked.ensures.asks c.requires.begins)

pub mend_block-redo_block-requires-clause-changed : goal.mend_block-redo_block-requires-clause-changed
mend_block-redo_block-requires-clause-changed g t c κs lives =
    let b = c.args.place.value.reading in
    let w = c.args.world.now in
    let q = c.asked-marked.result.1 in
    let v = q.values.knows in
    let found = c.seen_again-found in
    let again = c.in-Some.again in
    let seen = c.as_slice.result.now in
    let reads : seen ≡ b.reads = c.as_slice.ensures ∙ ap (λ z. z.reading.reads) c.deref-2.ensures in
    let some = subst (λ z. IfOk z (λ f. IfSome f (λ (a : List Seen). Changed v seen a))) c.in-Ok.is
    found.ensures.changed in
    let one = subst (λ z. IfSome z (λ (a : List Seen). Changed v seen a)) c.in-Some.is some in
    changed_looked w q found.result.1 b.reads again found.ensures.looks
    (subst (λ (z : List Seen). Changed v z again) reads one)

pub mend_block-returns-in-Some : goal.mend_block-returns-in-Some
mend_block-returns-in-Some g t c =
    let w = c.args.world.now in
    let b = c.args.place.value.reading in
    let k = kept_of c.args.inner in
    let rest = kept_of c.args.rest.now in
    let p = c.args.pass in
    let q = c.asked-marked.result.1 in
    let e = c.asked-marked.ensures in
    let x = c.seen_again-found.result.1 in
    let f = c.seen_again-found.ensures in
    let o = c.redo_block.result in
    let s = c.redo_block.ensures in
    let reads : c.as_slice.result.now ≡ b.reads = c.as_slice.ensures ∙ ap (λ z. z.reading.reads) c.deref-2.ensures in
    let each = subst (λ (z : List Seen). x.values.knows.looks ≤ q.values.knows.looks + length z) reads f.each in
    let is = ap (λ z. z.reading.node) c.deref.ensures in
    let marked = subst (IsMarked p.marks.knows) is (e.marked c.if-not-marked.false) in
    record {
      of = s.of;
      left = part_left_asked w (R b k) rest p q o.1 o.0 e.asks
          (part_left_looked w (R b k) rest q x o.1 o.0 f.looks s.left);
      spares = again_spared w b k rest p q x e.asks e.once marked f.looks each o.1 o.0 s.spares;
      counts = s.counts;
    }

pub mend_block-mend-body-requires-clause-begins : goal.mend_block-mend-body-requires-clause-begins
mend_block-mend-body-requires-clause-begins g t c κs within =
    let b = c.args.place.value.reading in
    let k = kept_of c.args.inner in
    let rest = kept_of c.args.rest.now in
    let w = c.args.world.now in
    let q = c.asked-marked.result.1 in
    let v = q.values.knows in
    let found = c.seen_again-found in
    let reads : c.as_slice.result.now ≡ b.reads = c.as_slice.ensures ∙ ap (λ z. z.reading.reads) c.deref-2.ensures in
    let seen = seen_present v found.result.0 c.in-Ok.found b.reads c.as_slice.result.now reads c.in-Ok.is
    c.in_default-found.is found.ensures.same in
    inner_begins w b k rest q found.result.1 found.ensures.looks seen
    (part_begins_asked w (R b k) rest c.args.pass q c.asked-marked.ensures.asks c.requires.begins)

pub mend_block-returns-then-not-is_done : goal.mend_block-returns-then-not-is_done
mend_block-returns-then-not-is_done g t c =
    let b = c.args.place.value.reading in
    let k = kept_of c.args.inner in
    let rest = kept_of c.args.rest.now in
    let w = c.args.world.now in
    let p = c.args.pass in
    let q = c.asked-marked.result.1 in
    let found = c.seen_again-found in
    let x = found.result.1 in
    let reads = c.as_slice.ensures ∙ ap (λ z. z.reading.reads) c.deref-2.ensures in
    let seen = seen_present q.values.knows found.result.0 c.in-Ok.found b.reads c.as_slice.result.now reads
    c.in-Ok.is c.in_default-found.is found.ensures.same in
    let one = c.mend-body in
    let o = c.in_block-whole in
    let bad = sym c.if-not-is_done.ensures in
    record {
      of = one.ensures.of;
      left = part_left_asked w (R b k) rest p q one.result.1 o.result c.asked-marked.ensures.asks
          (block_undone w b k rest q x found.ensures.looks seen
          one.result.1 one.result.0 o.result o.ensures.end one.ensures.left bad);
      spares = stopped_part w one.result.1 o.result bad (R b k) rest p;
      counts = o.ensures.counts k one.ensures.counts;
    }

pub mend_block-cleared-requires : goal.mend_block-cleared-requires
mend_block-cleared-requires g t c =
    let b = c.args.place.value.reading in
    let k = kept_of c.args.inner in
    let rest = kept_of c.args.rest.now in
    let w = c.args.world.now in
    let q = c.asked-marked.result.1 in
    let found = c.seen_again-found in
    let x = found.result.1 in
    let reads = c.as_slice.ensures ∙ ap (λ z. z.reading.reads) c.deref-2.ensures in
    let seen = seen_present q.values.knows found.result.0 c.in-Ok.found b.reads c.as_slice.result.now reads
    c.in-Ok.is c.in_default-found.is found.ensures.same in
    let one = c.mend-body in
    let z = one.result.1 in
    let o = c.in_block-whole in
    let fine = sym c.if-not-is_done.ensures in
    let begins = part_begins_asked w (R b k) rest c.args.pass q c.asked-marked.ensures.asks c.requires.begins in
    let is = sym (ap (λ z. z.reading.node) c.deref.ensures) in
    record {
      of = one.ensures.of;
      own = subst (λ (h : Handle). Owns z.marks.knows h) is
          (block_owned w b k rest q x found.ensures.looks seen
          z one.result.0 o.result o.ensures.end one.ensures.left fine begins);
      bare = subst (λ (h : Handle). Bare z.marks.knows h.slot) is
          (block_bared w b k rest q x found.ensures.looks seen
          z one.result.0 o.result o.ensures.end one.ensures.left fine begins);
    }

pub mend_block-returns : goal.mend_block-returns
mend_block-returns g t c =
    let b = c.args.place.value.reading in
    let k = kept_of c.args.inner in
    let rest = kept_of c.args.rest.now in
    let w = c.args.world.now in
    let p = c.args.pass in
    let q = c.asked-marked.result.1 in
    let e = c.asked-marked.ensures in
    let found = c.seen_again-found in
    let f = found.ensures in
    let x = found.result.1 in
    let reads : c.as_slice.result.now ≡ b.reads = c.as_slice.ensures ∙ ap (λ z. z.reading.reads) c.deref-2.ensures in
    let seen = seen_present q.values.knows found.result.0 c.in-Ok.found b.reads c.as_slice.result.now reads
    c.in-Ok.is c.in_default-found.is f.same in
    let each = subst (λ (z : List Seen). x.values.knows.looks ≤ q.values.knows.looks + length z) reads f.each in
    let is = ap (λ z. z.reading.node) c.deref.ensures in
    let marked = subst (IsMarked p.marks.knows) is (e.marked c.if-not-marked.false) in
    let one = c.mend-body in
    let z = one.result.1 in
    let o = c.in_block-whole in
    let fine = sym c.if-not-is_done.ensures in
    let y = c.cleared.result in
    let clears = subst (λ (h : Handle). Clears h (views z) (views y)) is c.cleared.ensures.clears in
    record {
      of = c.cleared.ensures.of;
      left = part_left_asked w (R b k) rest p q y o.result e.asks
          (block_done w b k rest q x f.looks seen
          z one.result.0 o.result o.ensures.end one.ensures.left fine y clears o.ensures.kept);
      spares = block_spared w b k rest p q x e.asks e.once marked f.looks each seen
          z one.result.0 o.result o.ensures.end one.ensures.spares fine y clears o.ensures.kept;
      counts = o.ensures.counts k one.ensures.counts;
    }

-- both sides

pub mend_both-asked-marked-requires-clause-own : goal.mend_both-asked-marked-requires-clause-own
mend_both-asked-marked-requires-clause-own g t c =
    let b = c.requires.begins in
    sits_owned c.args.pass.marks.knows b.2 c.args.place.value.node c.deref.result.now.node b.3.planted.nodes.0
    (ap (λ z. z.node) c.deref.ensures)

pub mend_both-returns-then-not-marked : goal.mend_both-returns-then-not-marked
mend_both-returns-then-not-marked g t c =
    let w = c.args.world.now in
    let n = c.args.place.value.node in
    let l = kept_of c.args.left in
    let k = kept_of c.args.right in
    let rest = kept_of c.args.rest.now in
    let p = c.args.pass in
    let q = c.asked-marked.result.1 in
    let x = c.together-whole.result in
    let o = c.kept.result in
    let e = c.asked-marked.ensures in
    let is = c.together-whole.ensures in
    let f = c.kept.ensures in
    let top = sym (ap (λ z. z.node.slot ∷ []) c.deref.ensures) in
    let no = c.if-not-marked.true in
    record {
      of = e.of;
      left = quiet_sides w n l k rest p q e.asks e.closed (λ above ns. e.quiet above (P n l k) top ns no)
          x o is f.kept f.end;
      spares = quiet_part w (P n l k) p q e.asks e.once e.closed (λ above ns. e.quiet above (P n l k) top ns no)
          x o is f.kept f.end rest;
      counts = subst (λ z. Counts z o) is f.counts;
    }

pub mend_both-mend_sides-requires-clause-begins : goal.mend_both-mend_sides-requires-clause-begins
mend_both-mend_sides-requires-clause-begins g t c κs within =
    let k = P c.args.place.value.node (kept_of c.args.left) (kept_of c.args.right) in
    part_begins_asked c.args.world.now k (kept_of c.args.rest.now) c.args.pass c.asked-marked.result.1
    c.asked-marked.ensures.asks c.requires.begins

pub mend_both-returns-then-pass-lt62 : goal.mend_both-returns-then-pass-lt62
mend_both-returns-then-pass-lt62 g t c =
    let w = c.args.world.now in
    let n = c.args.place.value.node in
    let k = P n (kept_of c.args.left) (kept_of c.args.right) in
    let rest = kept_of c.args.rest.now in
    let p = c.args.pass in
    let q = c.asked-marked.result.1 in
    let e = c.asked-marked.ensures in
    let o = c.mend_sides.result in
    let s = c.mend_sides.ensures in
    let marked = subst (IsMarked p.marks.knows) (ap (λ z. z.node) c.deref.ensures) (e.marked c.if-not-marked.false) in
    record {
      of = s.of;
      left = part_left_asked w k rest p q o.1 o.0 e.asks s.left;
      spares = asked_spared w k rest n p q o.1 o.0 e.asks e.once marked s.spares;
      counts = s.counts;
    }

pub mend_both-mend_in_turn-requires-clause-begins : goal.mend_both-mend_in_turn-requires-clause-begins
mend_both-mend_in_turn-requires-clause-begins g t c κs within =
    let k = P c.args.place.value.node (kept_of c.args.left) (kept_of c.args.right) in
    part_begins_asked c.args.world.now k (kept_of c.args.rest.now) c.args.pass c.asked-marked.result.1
    c.asked-marked.ensures.asks c.requires.begins

pub mend_both-returns : goal.mend_both-returns
mend_both-returns g t c =
    let w = c.args.world.now in
    let n = c.args.place.value.node in
    let k = P n (kept_of c.args.left) (kept_of c.args.right) in
    let rest = kept_of c.args.rest.now in
    let p = c.args.pass in
    let q = c.asked-marked.result.1 in
    let e = c.asked-marked.ensures in
    let o = c.mend_in_turn.result in
    let s = c.mend_in_turn.ensures in
    let marked = subst (IsMarked p.marks.knows) (ap (λ z. z.node) c.deref.ensures) (e.marked c.if-not-marked.false) in
    record {
      of = s.of;
      left = part_left_asked w k rest p q o.1 o.0 e.asks s.left;
      spares = asked_spared w k rest n p q o.1 o.0 e.asks e.once marked s.spares;
      counts = s.counts;
    }

-- both sides in turn

pub mend_in_turn-mend-one-requires-clause-begins : goal.mend_in_turn-mend-one-requires-clause-begins
mend_in_turn-mend-one-requires-clause-begins g t c κs within =
    left_begins c.args.world.now c.args.place.value.node (kept_of c.args.left) (kept_of c.args.right)
    (kept_of c.args.rest.now) c.args.pass c.requires.begins

pub mend_in_turn-returns-then-not-is_done : goal.mend_in_turn-returns-then-not-is_done
mend_in_turn-returns-then-not-is_done g t c =
    let w = c.args.world.now in
    let n = c.args.place.value.node in
    let l = kept_of c.args.left in
    let k = kept_of c.args.right in
    let rest = kept_of c.args.rest.now in
    let p = c.args.pass in
    let one = c.mend-one in
    let d = one.result.0 in
    let q = one.result.1 in
    let o = c.untried in
    let bad = ap is_good o.ensures.end ∙ untried_bad (end_of d) in
    record {
      of = one.ensures.of;
      left = turns_out w n l k rest p q d o.result (sym c.if-not-is_done.ensures) o.ensures.end one.ensures.left;
      spares = stopped_since w q o.result bad 0 n (P n l k) rest p;
      counts = o.ensures.counts (P n l k);
    }

pub mend_in_turn-mend-two-requires-clause-begins : goal.mend_in_turn-mend-two-requires-clause-begins
mend_in_turn-mend-two-requires-clause-begins g t c κs within =
    let l = kept_of c.args.left in
    let k = kept_of c.args.right in
    let one = c.mend-one in
    right_begins c.args.world.now c.args.place.value.node l k (kept_of c.args.rest.now) c.args.pass one.result.1
    one.result.0 (sym c.if-not-is_done.ensures) one.ensures.left c.requires.begins

pub mend_in_turn-returns-then-not-is_done-2 : goal.mend_in_turn-returns-then-not-is_done-2
mend_in_turn-returns-then-not-is_done-2 g t c =
    let w = c.args.world.now in
    let n = c.args.place.value.node in
    let l = kept_of c.args.left in
    let k = kept_of c.args.right in
    let rest = kept_of c.args.rest.now in
    let p = c.args.pass in
    let one = c.mend-one in
    let two = c.mend-two in
    let x = two.result.1 in
    let o = c.in_sides-whole in
    let bad = sym c.if-not-is_done-2.ensures in
    record {
      of = two.ensures.of;
      left = turns_undone w n l k rest p one.result.1 one.result.0 (sym c.if-not-is_done.ensures) one.ensures.left
          x two.result.0 o.result o.ensures.end two.ensures.left bad;
      spares = stopped_since w x o.result bad 0 n (P n l k) rest p;
      counts = o.ensures.counts l k one.ensures.counts two.ensures.counts;
    }

pub mend_in_turn-cleared-requires : goal.mend_in_turn-cleared-requires
mend_in_turn-cleared-requires g t c =
    let w = c.args.world.now in
    let n = c.args.place.value.node in
    let l = kept_of c.args.left in
    let k = kept_of c.args.right in
    let rest = kept_of c.args.rest.now in
    let one = c.mend-one in
    let two = c.mend-two in
    let x = two.result.1 in
    let o = c.in_sides-whole in
    let good = sym c.if-not-is_done.ensures in
    let fine = sym c.if-not-is_done-2.ensures in
    let is = sym (ap (λ z. z.node) c.deref.ensures) in
    record {
      of = two.ensures.of;
      own = subst (λ (z : Handle). Owns x.marks.knows z) is
          (turns_owned w n l k rest c.args.pass one.result.1 one.result.0 good one.ensures.left
          x two.result.0 o.result o.ensures.end two.ensures.left fine c.requires.begins);
      bare = subst (λ (z : Handle). Bare x.marks.knows z.slot) is
          (turns_bared w n l k rest c.args.pass one.result.1 one.result.0 good one.ensures.left
          x two.result.0 o.result o.ensures.end two.ensures.left fine c.requires.begins);
    }

pub mend_in_turn-returns : goal.mend_in_turn-returns
mend_in_turn-returns g t c =
    let w = c.args.world.now in
    let n = c.args.place.value.node in
    let l = kept_of c.args.left in
    let k = kept_of c.args.right in
    let rest = kept_of c.args.rest.now in
    let p = c.args.pass in
    let one = c.mend-one in
    let two = c.mend-two in
    let x = two.result.1 in
    let o = c.in_sides-whole in
    let y = c.cleared.result in
    let good = sym c.if-not-is_done.ensures in
    let fine = sym c.if-not-is_done-2.ensures in
    let clears = subst (λ (z : Handle). Clears z (views x) (views y)) (ap (λ z. z.node) c.deref.ensures)
    c.cleared.ensures.clears in
    record {
      of = c.cleared.ensures.of;
      left = turns_done w n l k rest p one.result.1 one.result.0 good one.ensures.left
          x two.result.0 o.result o.ensures.end two.ensures.left fine y clears o.ensures.kept;
      spares = turn_spared w n l k rest p one.result.1 one.result.0 good one.ensures.left one.ensures.spares
          x two.result.0 o.result o.ensures.end two.ensures.left two.ensures.spares fine y clears o.ensures.kept;
      counts = o.ensures.counts l k one.ensures.counts two.ensures.counts;
    }

-- both sides at once

pub mend_sides-fork_sides-mine-requires-clause-room : goal.mend_sides-fork_sides-mine-requires-clause-room
mend_sides-fork_sides-mine-requires-clause-room g t c = c.requires.begins.3.room

pub mend_sides-fork_sides-mine-requires-clause-rooted : goal.mend_sides-fork_sides-mine-requires-clause-rooted
mend_sides-fork_sides-mine-requires-clause-rooted g t c = c.requires.begins.3.rooted

pub mend_sides-fork_sides-mine-requires-clause-planted : goal.mend_sides-fork_sides-mine-requires-clause-planted
mend_sides-fork_sides-mine-requires-clause-planted g t c =
    let b = c.requires.begins in (b.1, b.2, c.args.place.value.node, b.3.planted)

pub mend_sides-mend_at_once-one-requires-clause-begins : goal.mend_sides-mend_at_once-one-requires-clause-begins
mend_sides-mend_at_once-one-requires-clause-begins g t c κs within =
    let l = kept_of c.args.left in
    let k = kept_of c.args.right in
    let p = c.args.pass in
    let a = c.fork_sides-mine.result.0 in
    let d = c.fork_sides-mine.result.1 in
    let f = c.fork_sides-mine.ensures in
    let mine = same_views (views a) (left_side l k (views p)) f.left_values f.left_readers f.left_marks in
    let theirs = same_views (views d) (right_side l k (views p)) f.right_values f.right_readers f.right_marks in
    let w = c.args.world.now in
    let n = c.args.place.value.node in
    let rest = kept_of c.args.rest.now in
    let b = c.requires.begins in (
      mine_begins w n l k rest p a d mine theirs f.left_room f.right_room b,
      theirs_begins w n l k rest p a d mine theirs f.left_room f.right_room b,
    )

pub mend_sides-join-pass-requires-clause-of : goal.mend_sides-join-pass-requires-clause-of
mend_sides-join-pass-requires-clause-of g t c =
    c.mend_at_once-one.ensures.of

pub mend_sides-join-pass-requires-clause-sides : goal.mend_sides-join-pass-requires-clause-sides
mend_sides-join-pass-requires-clause-sides g t c =
    let l = kept_of c.args.left in
    let k = kept_of c.args.right in
    let p = c.args.pass in
    let a = c.fork_sides-mine.result.0 in
    let d = c.fork_sides-mine.result.1 in
    let f = c.fork_sides-mine.ensures in
    let mine = same_views (views a) (left_side l k (views p)) f.left_values f.left_readers f.left_marks in
    let theirs = same_views (views d) (right_side l k (views p)) f.right_values f.right_readers f.right_marks in
    let one = c.mend_at_once-one.result.0 in
    let two = c.mend_at_once-one.result.1 in
    let s = c.mend_at_once-one.ensures in (
      p.values.knows.claims.branch,
      sides_join c.args.world.now c.args.place.value.node l k (kept_of c.args.rest.now) p a d mine theirs
          f.left_room f.right_room one.1 two.1 one.0 two.0 s.left s.right c.requires.begins,
    )

pub mend_sides-returns-then-not-is_done : goal.mend_sides-returns-then-not-is_done
mend_sides-returns-then-not-is_done g t c =
    let n = c.args.place.value.node in
    let l = kept_of c.args.left in
    let k = kept_of c.args.right in
    let rest = kept_of c.args.rest.now in
    let w = c.args.world.now in
    let p = c.args.pass in
    let a = c.fork_sides-mine.result.0 in
    let d = c.fork_sides-mine.result.1 in
    let f = c.fork_sides-mine.ensures in
    let mine = same_views (views a) (left_side l k (views p)) f.left_values f.left_readers f.left_marks in
    let theirs = same_views (views d) (right_side l k (views p)) f.right_values f.right_readers f.right_marks in
    let one = c.mend_at_once-one.result.0 in
    let two = c.mend_at_once-one.result.1 in
    let s = c.mend_at_once-one.ensures in
    let j = c.join-pass.result in
    let e = c.join-pass.ensures in
    let joins = joined (views one.1) (views two.1) (views j) e.values e.united e.readers e.once e.marks
    e.united_marks e.dropped e.kept in
    let o = c.in_sides-whole in
    let bad = sym c.if-not-is_done.ensures in
    record {
      of = c.join-pass.ensures.of;
      left = sides_undone w n l k rest p a d mine theirs f.left_room f.right_room one.1 two.1 one.0 two.0
          s.left s.right j o.result o.ensures.end joins bad;
      spares = stopped_since w j o.result bad 0 n (P n l k) rest p;
      counts = o.ensures.counts l k s.counts.0 s.counts.1;
    }

pub mend_sides-cleared-requires : goal.mend_sides-cleared-requires
mend_sides-cleared-requires g t c =
    let n = c.args.place.value.node in
    let l = kept_of c.args.left in
    let k = kept_of c.args.right in
    let rest = kept_of c.args.rest.now in
    let w = c.args.world.now in
    let p = c.args.pass in
    let a = c.fork_sides-mine.result.0 in
    let d = c.fork_sides-mine.result.1 in
    let f = c.fork_sides-mine.ensures in
    let mine = same_views (views a) (left_side l k (views p)) f.left_values f.left_readers f.left_marks in
    let theirs = same_views (views d) (right_side l k (views p)) f.right_values f.right_readers f.right_marks in
    let one = c.mend_at_once-one.result.0 in
    let two = c.mend_at_once-one.result.1 in
    let s = c.mend_at_once-one.ensures in
    let j = c.join-pass.result in
    let e = c.join-pass.ensures in
    let joins = joined (views one.1) (views two.1) (views j) e.values e.united e.readers e.once e.marks
    e.united_marks e.dropped e.kept in
    let o = c.in_sides-whole in
    let fine = sym c.if-not-is_done.ensures in
    let is = sym (ap (λ z. z.node) c.deref.ensures) in
    record {
      of = c.join-pass.ensures.of;
      own = subst (λ (z : Handle). Owns j.marks.knows z) is
          (sides_owned w n l k rest p a d mine theirs f.left_room f.right_room one.1 two.1 one.0 two.0
          s.left s.right j o.result o.ensures.end joins fine c.requires.begins);
      bare = subst (λ (z : Handle). Bare j.marks.knows z.slot) is
          (sides_bared w n l k rest p a d mine theirs f.left_room f.right_room one.1 two.1 one.0 two.0
          s.left s.right j o.result o.ensures.end joins fine c.requires.begins);
    }

pub mend_sides-returns : goal.mend_sides-returns
mend_sides-returns g t c =
    let n = c.args.place.value.node in
    let l = kept_of c.args.left in
    let k = kept_of c.args.right in
    let rest = kept_of c.args.rest.now in
    let w = c.args.world.now in
    let p = c.args.pass in
    let a = c.fork_sides-mine.result.0 in
    let d = c.fork_sides-mine.result.1 in
    let f = c.fork_sides-mine.ensures in
    let mine = same_views (views a) (left_side l k (views p)) f.left_values f.left_readers f.left_marks in
    let theirs = same_views (views d) (right_side l k (views p)) f.right_values f.right_readers f.right_marks in
    let one = c.mend_at_once-one.result.0 in
    let two = c.mend_at_once-one.result.1 in
    let s = c.mend_at_once-one.ensures in
    let j = c.join-pass.result in
    let e = c.join-pass.ensures in
    let joins = joined (views one.1) (views two.1) (views j) e.values e.united e.readers e.once e.marks
    e.united_marks e.dropped e.kept in
    let o = c.in_sides-whole in
    let fine = sym c.if-not-is_done.ensures in
    let y = c.cleared.result in
    let clears = subst (λ (z : Handle). Clears z (views j) (views y)) (ap (λ z. z.node) c.deref.ensures)
    c.cleared.ensures.clears in
    record {
      of = c.cleared.ensures.of;
      left = sides_done w n l k rest p a d mine theirs f.left_room f.right_room one.1 two.1 one.0 two.0
          s.left s.right j o.result o.ensures.end joins fine y clears o.ensures.kept;
      spares = side_spared w n l k rest p a d mine theirs one.1 two.1 one.0 two.0 s.spares s.spares_right
          j o.result o.ensures.end joins fine
          (λ us above b. (
            left_here w n l k rest p a d mine theirs f.left_room f.right_room us above b,
            right_here w n l k rest p a d mine theirs f.left_room f.right_room us above b,
          ))
          y clears o.ensures.kept;
      counts = o.ensures.counts l k s.counts.0 s.counts.1;
    }

pub mend_at_once-both-requires-send-A : goal.mend_at_once-both-requires-send-A
mend_at_once-both-requires-send-A g t c κs within = search (sendable, outcome_send, pass.the_send) depth 20

pub mend_at_once-both-requires-send-B : goal.mend_at_once-both-requires-send-B
mend_at_once-both-requires-send-B g t c κs within = search (sendable, outcome_send, pass.the_send) depth 20
