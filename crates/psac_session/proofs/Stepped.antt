-- Steps of a session's state, by its engine, its desk and its texts.
use Rattle.std.proofs.Common.{◌≡◌, ◌∙◌, ℕ, zero, suc, ◌<◌, ◌≤◌, ◌&&◌, Bool, true, false, nat_lt, nat_le, List, [], ◌∷◌, Option, Some, None, Result, Ok, Err, refl, ap, sym, arith, map, option_map, IfOk}
use Rattle.std.specs.Prelude.{replicate}
use Rattle.std.proofs.lemmas.Bool.Decides.{nat_tests}
use Rattle.psac_inputs.specs.Grid.{Grid, has_cell, with_rows}
use Rattle.psac_inputs.specs.Batch.{Batch, empty_batch, put_all}
use Rattle.psac_inputs.specs.Texts.{Texts}
use Rattle.psac_model.specs.declared.ends.CapKind.{CapKind}
use Rattle.psac_model.specs.declared.ends.Caps.{Caps}
use Rattle.psac_model.specs.declared.ends.End.{End}
use Rattle.psac_model.specs.declared.ends.End.TheVariants.{Done, Stop}
use Rattle.psac_model.specs.declared.ends.Work.{Work}
use Rattle.psac_model.specs.Redo.{redo}
use Rattle.psac_model.specs.Work.{anew_work, inside, mode_of, work_in}
use Rattle.psac_model.specs.declared.ends.Mode.{Mode}
use Rattle.psac_model.specs.declared.ends.Mode.TheVariants.{Repair, Anew}
use Rattle.psac_model.specs.Names.{Path, Name, Input, Out, Rows, Made, Heap}
use Rattle.psac_model.specs.Tree.{Tree, size_of}
use Rattle.psac_model.specs.Outputs.{outputs_from}
use Rattle.psac_model.specs.Run.{Ran}
use Rattle.psac_model.specs.Fresh.{World, fresh, judged, outcome, over}
use Rattle.psac_report.specs.Session.{Kept, Place, Reply, RefusedRange, Nothing, Worked, Faulted, TooLarge, State, after_outcome, committed, gone_stale, is_lost, is_made, outputs_reply, place_count, rows_step, shown_now}
use Rattle.psac_engine.specs.declared.answer.Answer.{Answer}
use Rattle.psac_engine.specs.declared.answer.Answer.TheVariants as answer
use Rattle.psac_engine.specs.Commit.{Answers, kept_after}
use Rattle.psac_engine.specs.Held.{drops, drops_in}
use Rattle.psac_stage.proofs.Placed.{cols_kept, room_kept}
use Rattle.psac_session.specs.Replied.{IsReplyTo}
use Rattle.psac_session.specs.Holding.{made_where}
use Rattle.psac_session.specs.State.{kept_of, no_places}
use Rattle.psac_session.proofs.Holding.{same_stale}

has_is : (r c : ℕ) (b : Batch) (g : Grid) → has_cell r c (put_all b g) ≡ (nat_lt r b.rows && nat_lt c g.cols)
has_is r c b g = rw (cols_kept b.edits g) refl

-- a cell of a row below the staged number is there where its column is
pub has_below : (r c rows cols : ℕ) (b : Batch) (g : Grid) → rows ≡ b.rows → cols ≡ g.cols → r < rows → nat_lt c cols ≡ has_cell r c (put_all b g)
has_below r c rows cols b g rows_is cols_is below =
    let low : nat_lt r rows ≡ true = grind (arith, nat_tests) in
    sym (rw (has_is r c b g, ← rows_is, ← cols_is, low) refl)

pub rows_refused : (n room : ℕ) (b : Batch) (g : Grid) (s : State) → room ≡ g.room → room < n → s.staged ≡ put_all b g → rows_step n s ≡ (s, RefusedRange)
rows_refused n room b g s room_is above staged =
    let there : s.staged.room ≡ room = ap (λ (h : Grid). h.room) staged ∙ room_kept b.edits g ∙ sym room_is in
    let high : nat_le n s.staged.room ≡ false = grind (arith, nat_tests) in
    rw high refl

pub rows_staged : (n room : ℕ) (b b' : Batch) (g : Grid) (s : State) → room ≡ g.room → n ≤ room → s.staged ≡ put_all b g → put_all b' g ≡ with_rows n (put_all b g)
    → rows_step n s ≡ (record s { staged = put_all b' g }, Nothing)
rows_staged n room b b' g s room_is within staged set =
    let there : s.staged.room ≡ room = ap (λ (h : Grid). h.room) staged ∙ room_kept b.edits g ∙ sym room_is in
    let low : nat_le n s.staged.room ≡ true = grind (arith, nat_tests) in
    let same : with_rows n s.staged ≡ put_all b' g = ap (with_rows n) staged ∙ sym set in
    let After : Grid → State × Reply = λ h. (record s { staged = h }, Nothing) in
    rw low (ap After same)

-- where no place holds anything, none becomes stale
none_stale : (test : Name → Bool) (n : ℕ) → map (option_map (gone_stale test)) (replicate n None) ≡ replicate n None
none_stale test zero = refl
none_stale test (suc n) = ap (λ (ps : List (Option Place)). None ∷ ps) (none_stale test n)

no_place_stale : (test : Name → Bool) → map (option_map (gone_stale test)) no_places ≡ no_places
unfolding no_places
no_place_stale test = none_stale test place_count

-- what a commit drops is what the definition of a session has as lost
all_made : (n : Name) → is_made n ≡ made_where (λ p. true) n
all_made (Input r c) = refl
all_made (Out i) = refl
all_made Rows = refl
all_made (Made p) = refl

lost_same : (mode : Mode) (zs : List Path) (n : Name) → is_lost mode zs n ≡ made_where (drops_in mode zs) n
lost_same Repair zs (Input r c) = refl
lost_same Repair zs (Out i) = refl
lost_same Repair zs Rows = refl
lost_same Repair zs (Made p) = refl
lost_same Anew zs (Input r c) = refl
lost_same Anew zs (Out i) = refl
lost_same Anew zs Rows = refl
lost_same Anew zs (Made p) = refl

mode_told : (mode : Mode) (zs : List Path) (old new : Tree Name) → (work_in mode zs old new).mode ≡ mode
mode_told Repair zs old new = refl
mode_told Anew zs old new = refl

abbrev kept_run : Ran Name Heap → Result Work Answer → Option (Ran Name Heap)
kept_run r (Ok work) = Some r
kept_run r (Err a) = None

-- after an error everything that was made is lost
dropped_all : (old : Option (Ran Name Heap)) (a : Answer) (n : Name) → is_made n ≡ made_where (drops old None (Err a)) n
dropped_all None a n = all_made n
dropped_all (Some r) a n = all_made n

by_error : (old : Option (Ran Name Heap)) (a : Answer) (places : List (Option Place))
    → map (option_map (gone_stale is_made)) places ≡ map (option_map (gone_stale (made_where (drops old None (Err a))))) places
by_error old a places = same_stale is_made (made_where (drops old None (Err a))) (dropped_all old a) places

-- the places after a commit
abbrev pub places_after : Option (Ran Name Heap) → Option (Ran Name Heap) → Result Work Answer → List (Option Place) → List (Option Place)
places_after old new result places = map (option_map (gone_stale (made_where (drops old new result)))) places

abbrev after : Grid → Texts → Option Kept → List (Option Place) → Reply → State × Reply
after g texts kept places reply = (record { grid = g; texts = texts; kept = kept; staged = g; places = places }, reply)

-- the state after an outcome
by_judged : (caps : Caps) (g : Grid) (texts : Texts) (places : List (Option Place)) (old : Option (Ran Name Heap)) (kinds : List CapKind) (end : End) (tree : Tree Name) (heap : Heap) (result : Result Work Answer) (reply : Reply)
    → Answers caps old (judged kinds (record { tree = tree; heap = heap; end = end })) result → IsReplyTo result reply
    → after_outcome caps (record { grid = g; texts = texts; kept = option_map kept_of old; staged = g; places = places }) (judged kinds (record { tree = tree; heap = heap; end = end }))
    ≡ (let r : Ran Name Heap = record { tree = tree; heap = heap; end = end } in
    after g texts (option_map kept_of (kept_run r result)) (places_after old (kept_run r result) result places) reply)
by_judged caps g texts places old kinds end tree heap (Err answer.NoMemory) reply answers replies = absurd replies
by_judged caps g texts places None [] Done tree heap (Ok work) reply answers replies =
    let same = same_stale is_made (made_where (λ p. true)) all_made places in
    rw (replies, answers) (ap (λ ps. after g texts (Some (record { tree = tree; heap = heap })) ps (Worked (anew_work (size_of tree)))) same)
by_judged caps g texts places (Some old) [] Done tree heap (Ok work) reply answers replies =
    let zs = redo old.tree tree in
    let mode = mode_of caps (size_of old.tree) (inside zs tree) in
    let same = same_stale (is_lost mode zs) (made_where (drops_in mode zs)) (lost_same mode zs) places in
    let told = same ∙ ap (λ m. map (option_map (gone_stale (made_where (drops_in m zs)))) places) (sym (mode_told mode zs old.tree tree)) in
    rw (replies, answers) (ap (λ ps. after g texts (Some (record { tree = tree; heap = heap })) ps (Worked (work_in mode zs old.tree tree))) told)
by_judged caps g texts places old [] Done tree heap (Err (answer.Fault _ _)) reply answers replies = absurd answers
by_judged caps g texts places old [] Done tree heap (Err (answer.Full _)) reply answers replies = absurd answers
by_judged caps g texts places old [] (Stop _ _) tree heap (Ok work) reply answers replies = absurd answers
by_judged caps g texts places old [] (Stop k l) tree heap (Err (answer.Fault k' l')) reply answers replies =
    rw (replies, answers.0, answers.1) (ap (λ ps. after g texts None ps (Faulted k l)) (by_error old (answer.Fault k l) places))
by_judged caps g texts places old [] (Stop k l) tree heap (Err (answer.Full _)) reply answers replies = absurd answers
by_judged caps g texts places old (k ∷ ks) end tree heap (Ok work) reply answers replies = absurd answers
by_judged caps g texts places old (k ∷ ks) end tree heap (Err (answer.Fault _ _)) reply answers replies = absurd answers
by_judged caps g texts places old (k ∷ ks) end tree heap (Err (answer.Full which)) reply answers replies =
    rw replies (ap (λ ps. after g texts None ps TooLarge) (by_error old (answer.Full which) places))

kept_same : (w : World) (g : Grid) (result : Result Work Answer) → kept_after w g result ≡ kept_run (fresh w g) result
kept_same w g (Ok work) = refl
kept_same w g (Err a) = refl

-- the state after a commit
pub commit_goes : (w : World) (caps : Caps) (g0 g g' : Grid) (texts : Texts) (places : List (Option Place)) (old : Option (Ran Name Heap)) (b' : Batch) (kept : Option (Ran Name Heap)) (result : Result Work Answer) (reply : Reply)
    → g' ≡ g → b' ≡ empty_batch g' → Answers caps old (outcome w caps g') result → kept ≡ kept_after w g' result → IsReplyTo result reply
    → committed w caps (record { grid = g0; texts = texts; kept = option_map kept_of old; staged = g; places = places })
    ≡ (let s : State = record { grid = g'; texts = texts; kept = option_map kept_of kept; staged = put_all b' g'; places = places_after old kept result places } in s, reply)
unfolding committed
commit_goes w caps g0 g g' texts places old b' kept result reply same batch answers kept_is replies =
    let r = fresh w g' in
    rw (batch, kept_is, kept_same w g' result, ← same) (by_judged caps g' texts places old (over (size_of r.tree) caps) r.end r.tree r.heap result reply answers replies)

-- and where no place holds anything
pub commit_step : (w : World) (caps : Caps) (g0 g g' : Grid) (texts : Texts) (old : Option (Ran Name Heap)) (b' : Batch) (kept : Option (Ran Name Heap)) (result : Result Work Answer) (reply : Reply)
    → g' ≡ g → b' ≡ empty_batch g' → Answers caps old (outcome w caps g') result → kept ≡ kept_after w g' result → IsReplyTo result reply
    → committed w caps (record { grid = g0; texts = texts; kept = option_map kept_of old; staged = g; places = no_places })
    ≡ (let s : State = record { grid = g'; texts = texts; kept = option_map kept_of kept; staged = put_all b' g'; places = no_places } in s, reply)
commit_step w caps g0 g g' texts old b' kept result reply same batch answers kept_is replies =
    commit_goes w caps g0 g g' texts no_places old b' kept result reply same batch answers kept_is replies
    ∙ ap (λ ps. let s : State = record { grid = g'; texts = texts; kept = option_map kept_of kept; staged = put_all b' g'; places = ps } in (s, reply))
    (no_place_stale (made_where (drops old kept result)))

shown_kept : (w : World) (kept : Option (Ran Name Heap)) → option_map (λ r. outputs_from r.heap 0 w.main.dests) kept ≡ option_map (λ k. outputs_from k.heap 0 w.main.dests) (option_map kept_of kept)
shown_kept w None = refl
shown_kept w (Some r) = refl

-- the state and the reply after what shows the outputs
pub show_step : (w : World) (kept : Option (Ran Name Heap)) (s s' : State) (reply : Reply)
    → s.kept ≡ option_map kept_of kept → reply ≡ outputs_reply (option_map (λ r. outputs_from r.heap 0 w.main.dests) kept) → s' ≡ s
    → ◌≡◌ {A = State × Reply} (s, outputs_reply (shown_now w s)) (s', reply)
show_step w kept s s' reply is shown same = rw (same, shown, is, shown_kept w kept) refl

pub ok_then : {A E : Type 0} (P Q : A → Type 0) (r : Result A E) → ((x : A) → P x → Q x) → IfOk r P → IfOk r Q
ok_then P Q (Ok x) then_ h = then_ x h
ok_then P Q (Err e) then_ h = tt
