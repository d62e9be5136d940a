-- What is written of all commits of a bench is its report.
use Rattle.std.proofs.Common.{◌≡◌, ◌∙◌, ℕ, List, ◌++◌, Option, Some, None, refl, sym, ap}
use Rattle.std.specs.Prelude.{fold, option_map}
use Rattle.std.specs.List.{range_with_len}
use Rattle.psac_syntax.specs.declared.program.Program.{Program}
use Rattle.psac_inputs.specs.Batch.{Batch, empty_batch}
use Rattle.psac_inputs.specs.Grid.{Grid}
use Rattle.psac_inputs.specs.Texts.{Texts}
use Rattle.psac_model.specs.declared.ends.Caps.{Caps}
use Rattle.psac_model.specs.Fresh.{World, world_of}
use Rattle.psac_model.specs.Names.{Name, Heap}
use Rattle.psac_model.specs.Outputs.{outputs_from}
use Rattle.psac_model.specs.Run.{Ran}
use Rattle.psac_report.specs.Report.{Totals, bench_commit, bench_line, bench_report, bench_told, counted_commit, no_totals}
use Rattle.psac_report.specs.Session.{State, begun, committed, outputs_reply, reply_text, shown_now}
use Rattle.psac_script.specs.declared.reply.Reply.{Reply}
use Rattle.psac_script.specs.Replies.{IsTextOfReply, reply_view}
use Rattle.psac_command.specs.declared.bench.Counts.{Counts}
use Rattle.psac_engine.specs.declared.engine.Engine.{Engine}
use Rattle.psac_engine.specs.Engine.{grid_in, kept_in}
use Rattle.psac_session.specs.State.{kept_of, no_places, state_with}

pub begins : (e : Engine) (b : Batch) (texts : Texts) → kept_in e ≡ None → b ≡ empty_batch (grid_in e) → state_with e b texts ≡ begun (grid_in e) texts
unfolding no_places
begins e b texts kept empty = rw (kept, empty) refl

kept_shown : (dests : List ℕ) (kept : Option (Ran Name Heap))
    → option_map (λ r. outputs_from r.heap 0 dests) kept ≡ option_map (λ k. outputs_from k.heap 0 dests) (option_map kept_of kept)
kept_shown dests None = refl
kept_shown dests (Some r) = refl

-- the text of what is shown
pub outputs_are : (w w2 w3 : World) (kept : Option (Ran Name Heap)) (p : Program) (texts : Texts) (reply : Reply) (outputs : List ℕ)
    → w2 ≡ w → w3 ≡ w2 → reply_view reply ≡ outputs_reply (option_map (λ r. outputs_from r.heap 0 w2.main.dests) kept)
    → world_of p w3.texts ≡ Some w3 → IsTextOfReply p texts reply outputs
    → outputs ≡ reply_text w texts (outputs_reply (option_map (λ k. outputs_from k.heap 0 w.main.dests) (option_map kept_of kept)))
outputs_are w w2 w3 kept p texts reply outputs same still shown world is =
    is w3.texts w3 world
    ∙ ap (λ (x : World). reply_text x texts (reply_view reply)) (still ∙ same)
    ∙ ap (reply_text w texts) (shown ∙ ap (λ (x : World). outputs_reply (option_map (λ r. outputs_from r.heap 0 x.main.dests) kept)) same ∙ ap outputs_reply (kept_shown w.main.dests kept))

pub report_is : (w w1 : World) (caps caps1 : Caps) (g : Grid) (texts : Texts) (counts : Counts) (s0 s1 s2 : State) (t1 t2 : Totals) (line outputs text : List ℕ)
    → s0 ≡ begun g texts → counted_commit no_totals (committed w caps s0) ≡ (s1, t1) → w1 ≡ w → caps1 ≡ caps
    → fold (bench_commit w1 caps1 counts.cells) (s1, t1) (range_with_len 1 counts.batches) ≡ (s2, t2)
    → line ≡ bench_line counts.cells counts.batches t2 → outputs ≡ reply_text w s2.texts (outputs_reply (shown_now w s2)) → text ≡ line ++ outputs
    → text ≡ bench_report w caps g texts counts.cells counts.batches
unfolding bench_report
report_is w w1 caps caps1 g texts counts s0 s1 s2 t1 t2 line outputs text start first world most steps line_is outputs_is is =
    let all : fold (bench_commit w caps counts.cells) (s1, t1) (range_with_len 1 counts.batches) ≡ (s2, t2) = rw (← world, ← most) steps in
    let one : counted_commit no_totals (committed w caps (begun g texts)) ≡ (s1, t1) =
    ap (λ (s : State). counted_commit no_totals (committed w caps s)) (sym start) ∙ first in
    let told : text ≡ bench_told w counts.cells counts.batches (s2, t2) = is ∙ rw (line_is, outputs_is) refl in
    told ∙ ap (bench_told w counts.cells counts.batches) (sym (ap (λ (x : State × Totals). fold (bench_commit w caps counts.cells) x (range_with_len 1 counts.batches)) one ∙ all))
