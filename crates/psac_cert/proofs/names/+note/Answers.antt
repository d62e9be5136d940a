use Rattle.std.proofs.Common.{◌≡◌, ◌∙◌, ◌+◌, ◌<◌, List, ℕ, suc, arith, ap, refl, sym}
use Rattle.std.proofs.lemmas.Result.{IfOk-weaker}
use Rattle.psac_traced.specs.Places.{names}
use Rattle.psac_record.specs.Kept.{Kept, parts}
use Rattle.psac_record.specs.Opened.{look_of}
use Rattle.psac_record.specs.Shown.{kept_of, rec_of}
use Rattle.psac_cert.specs.Named.{first_of, found_in, made_name}
use Rattle.psac_cert.proofs.Finding.{falls_one, falls_left, falls_right, noted_end, noted_made, noted_write, noted_step, noted_both, noted_block}
use Rattle.psac_cert.proofs.names.+note.Goals as goal

pub note_all-note_below-requires : goal.note_all-note_below-requires
note_all-note_below-requires t c =
    let less = falls_one (kept_of c.args.tree.now) (kept_of c.in-Made.rest.now) (ap parts (sym c.look.ensures ∙ ap look_of c.in-Made.is)) in
    let d = c.decreases in
    let falls : suc (parts (kept_of c.in-Made.rest.now) + parts (kept_of c.in-Made.rest.now)) < t = omega (arith, less, d) in
    (falls, tt)

pub note_all-note_below-requires-in-Wrote : goal.note_all-note_below-requires-in-Wrote
note_all-note_below-requires-in-Wrote t c =
    let less = falls_one (kept_of c.args.tree.now) (kept_of c.in-Wrote.rest.now) (ap parts (sym c.look.ensures ∙ ap look_of c.in-Wrote.is)) in
    let d = c.decreases in
    let falls : suc (parts (kept_of c.in-Wrote.rest.now) + parts (kept_of c.in-Wrote.rest.now)) < t = omega (arith, less, d) in
    (falls, tt)

pub note_all-note_below-requires-in-Block : goal.note_all-note_below-requires-in-Block
note_all-note_below-requires-in-Block t c =
    let less = falls_one (kept_of c.args.tree.now) (kept_of c.in-Block.inner.now) (ap parts (sym c.look.ensures ∙ ap look_of c.in-Block.is)) in
    let d = c.decreases in
    let falls : suc (parts (kept_of c.in-Block.inner.now) + parts (kept_of c.in-Block.inner.now)) < t = omega (arith, less, d) in
    (falls, tt)

pub note_all-note_below-requires-in-Step : goal.note_all-note_below-requires-in-Step
note_all-note_below-requires-in-Step t c =
    let less = falls_left (kept_of c.args.tree.now) (kept_of c.in-Step.inner.now) (kept_of c.in-Step.rest.now) (ap parts (sym c.look.ensures ∙ ap look_of c.in-Step.is)) in
    let d = c.decreases in
    let falls : suc (parts (kept_of c.in-Step.inner.now) + parts (kept_of c.in-Step.inner.now)) < t = omega (arith, less, d) in
    (falls, tt)

pub note_all-note_below-requires-in-Step-2 : goal.note_all-note_below-requires-in-Step-2
note_all-note_below-requires-in-Step-2 t c =
    let less = falls_right (kept_of c.args.tree.now) (kept_of c.in-Step.inner.now) (kept_of c.in-Step.rest.now) (ap parts (sym c.look.ensures ∙ ap look_of c.in-Step.is)) in
    let d = c.decreases in
    let falls : suc (parts (kept_of c.in-Step.rest.now) + parts (kept_of c.in-Step.rest.now)) < t = omega (arith, less, d) in
    (falls, tt)

pub note_all-note_below-requires-in-Both : goal.note_all-note_below-requires-in-Both
note_all-note_below-requires-in-Both t c =
    let less = falls_left (kept_of c.args.tree.now) (kept_of c.in-Both.left.now) (kept_of c.in-Both.right.now) (ap parts (sym c.look.ensures ∙ ap look_of c.in-Both.is)) in
    let d = c.decreases in
    let falls : suc (parts (kept_of c.in-Both.left.now) + parts (kept_of c.in-Both.left.now)) < t = omega (arith, less, d) in
    (falls, tt)

pub note_all-note_below-requires-in-Both-2 : goal.note_all-note_below-requires-in-Both-2
note_all-note_below-requires-in-Both-2 t c =
    let less = falls_right (kept_of c.args.tree.now) (kept_of c.in-Both.left.now) (kept_of c.in-Both.right.now) (ap parts (sym c.look.ensures ∙ ap look_of c.in-Both.is)) in
    let d = c.decreases in
    let falls : suc (parts (kept_of c.in-Both.right.now) + parts (kept_of c.in-Both.right.now)) < t = omega (arith, less, d) in
    (falls, tt)

pub note_all-returns-in-End-clause-made : goal.note_all-returns-in-End-clause-made
note_all-returns-in-End-clause-made t c =
    noted_end c.args.made.now.entries c.args.made.now.entries c.args.path.now.items (kept_of c.args.tree.now) (sym c.look.ensures ∙ ap look_of c.in-End.is) refl

pub note_all-returns-in_ok-note-in-Made-clause-made : goal.note_all-returns-in_ok-note-in-Made-clause-made
note_all-returns-in_ok-note-in-Made-clause-made t c =
    let first = rw c.as_slice.ensures.value at c.in_ok-note-in-Made.ensures in
    IfOk-weaker c.note_below.result _ _ (λ x told. noted_made c.args.made.now.entries _ c.args.path.now.items (kept_of c.args.tree.now) c.note.new.made.entries c.in-Made.handle (kept_of c.in-Made.rest.now) (sym c.look.ensures ∙ ap look_of c.in-Made.is) first told) c.note_below.ensures.made

pub note_all-returns-in-Wrote-clause-made : goal.note_all-returns-in-Wrote-clause-made
note_all-returns-in-Wrote-clause-made t c =
    IfOk-weaker c.note_below-in-Wrote.result _ _ (λ x told. noted_write c.args.made.now.entries _ c.args.path.now.items (kept_of c.args.tree.now) c.in-Wrote.field-0 c.in-Wrote.field-1 (kept_of c.in-Wrote.rest.now) (sym c.look.ensures ∙ ap look_of c.in-Wrote.is) told) c.note_below-in-Wrote.ensures.made

pub note_all-returns-in-Block-clause-made : goal.note_all-returns-in-Block-clause-made
note_all-returns-in-Block-clause-made t c =
    IfOk-weaker c.note_below-in-Block.result _ _ (λ x told. noted_block c.args.made.now.entries _ c.args.path.now.items (kept_of c.args.tree.now) c.in-Block.field-0.now (kept_of c.in-Block.inner.now) (sym c.look.ensures ∙ ap look_of c.in-Block.is) told) c.note_below-in-Block.ensures.made

pub note_all-returns-in_ok-note_below-in-Step-clause-path : goal.note_all-returns-in_ok-note_below-in-Step-clause-path
note_all-returns-in_ok-note_below-in-Step-clause-path t c =
    IfOk-weaker c.note_below-in-Step-2.result _ _ (λ x told. told ∙ c.in_ok-note_below-in-Step.ensures.path) c.note_below-in-Step-2.ensures.path

pub note_all-returns-in_ok-note_below-in-Step-clause-made : goal.note_all-returns-in_ok-note_below-in-Step-clause-made
note_all-returns-in_ok-note_below-in-Step-clause-made t c =
    IfOk-weaker c.note_below-in-Step-2.result _ _ (λ x told. noted_step c.args.made.now.entries _ c.args.path.now.items (kept_of c.args.tree.now) c.note_below-in-Step.new.made.entries c.in-Step.field-0 (kept_of c.in-Step.inner.now) (kept_of c.in-Step.rest.now) (sym c.look.ensures ∙ ap look_of c.in-Step.is) c.in_ok-note_below-in-Step.ensures.made (rw c.in_ok-note_below-in-Step.ensures.path at told)) c.note_below-in-Step-2.ensures.made

pub note_all-returns-in_ok-note_below-in-Both-clause-path : goal.note_all-returns-in_ok-note_below-in-Both-clause-path
note_all-returns-in_ok-note_below-in-Both-clause-path t c =
    IfOk-weaker c.note_below-in-Both-2.result _ _ (λ x told. told ∙ c.in_ok-note_below-in-Both.ensures.path) c.note_below-in-Both-2.ensures.path

pub note_all-returns-in_ok-note_below-in-Both-clause-made : goal.note_all-returns-in_ok-note_below-in-Both-clause-made
note_all-returns-in_ok-note_below-in-Both-clause-made t c =
    IfOk-weaker c.note_below-in-Both-2.result _ _ (λ x told. noted_both c.args.made.now.entries _ c.args.path.now.items (kept_of c.args.tree.now) c.note_below-in-Both.new.made.entries c.in-Both.field-0 (kept_of c.in-Both.left.now) (kept_of c.in-Both.right.now) (sym c.look.ensures ∙ ap look_of c.in-Both.is) c.in_ok-note_below-in-Both.ensures.made (rw c.in_ok-note_below-in-Both.ensures.path at told)) c.note_below-in-Both-2.ensures.made

pub note_below-returns-clause-made : goal.note_below-returns-clause-made
note_below-returns-clause-made t c =
    λ h. c.in_ok-note_all.ensures.made h ∙ ap (λ (p : List ℕ). first_of (made_name c.args.made.now.entries h) (found_in (names p (rec_of c.args.tree.now)) h)) c.in_ok-push.ensures.items
