-- What the calls of the tracing run owe each other, by what their parts leave.
use Rattle.std.proofs.Common.{◌≡◌, ℕ, suc, zero, ◌≢◌, ⊎_elim, map, ◌+◌, ◌-◌, ◌≤◌, ◌<◌, Bool, true, false, List, [], ◌∷◌, ◌++◌, length, drop, take, get_or, Option, Some, None, Result, Ok, Err, refl, ap, sym, ◌∙◌, subst, arith, append-nil}
use Rattle.std.specs.Prelude.{sum_by}
use Rattle.std.proofs.Math.Seq.{take-length}
use Rattle.psac_ops.specs.declared.plain.Handle.{Handle}
use Rattle.psac_ops.specs.declared.plain.Plain.{Plain}
use Rattle.psac_ops.specs.Value.{Value, ref}
use Rattle.psac_ops.specs.Named.{value_of as plain_value}
use Rattle.psac_ops.specs.Words.{of_words, words_of}
use Rattle.psac_syntax.specs.declared.program.Stmt.{Stmt, out-Stmt}
use Rattle.psac_syntax.specs.declared.program.Func.{Func}
use Rattle.psac_slots.specs.Claiming.{times}
use Rattle.psac_slots.specs.declared.full.Full.{Full}
use Rattle.psac_values.specs.declared.view.ValueView.{ValueView}
use Rattle.psac_values.specs.Steps.{Lacks, left_of, right_of, joined, drew}
use Rattle.psac_values.specs.Knowing.{Has, Claims, United, wrote, three_of}
use Rattle.psac_readers.specs.Steps as readers
use Rattle.psac_readers.specs.Chained.{named}
use Rattle.psac_marks.specs.Steps as marks
use Rattle.psac_marks.specs.Passes.{United as UnitedNodes}
use Rattle.psac_fork.specs.declared.tables.Pass.{Pass}
use Rattle.psac_fork.specs.declared.tables.Tables.{Tables}
use Rattle.psac_fork.specs.Whole.{IsOf, HasRoom}
use Rattle.psac_model.specs.declared.ends.CapKind.TheVariants as cap
use Rattle.psac_model.specs.declared.ends.FaultKind.{FaultKind}
use Rattle.psac_model.specs.declared.ends.FaultKind.TheVariants.{TooDeep}
use Rattle.psac_model.specs.Names.{Env, bind}
use Rattle.psac_model.specs.Tree.{Reads}
use Rattle.psac_model.specs.Expression.{Setting}
use Rattle.psac_model.specs.Run.{Action, Bind, Make, Put, Body, Block, Sides, action_of, line_of}
use Rattle.psac_traced.specs.Rec as rec
use Rattle.psac_traced.specs.Rec.{Rec}
use Rattle.psac_traced.specs.Traced.{Traces as Tracing, listed, acts, traced}
use Rattle.psac_record.specs.declared.record.Record.{Record}
use Rattle.psac_record.specs.declared.parts.Reading.{Reading}
use Rattle.psac_model.specs.Fresh.{levels}
use Rattle.psac_record.specs.Kept.{Kept, E, A, W, S, P, R, bare, env_of, reads_of}
use Rattle.psac_plain.specs.declared.halt.Halt.{Halt as Stopped}
use Rattle.psac_plain.specs.declared.halt.Halt.TheVariants as stop_kind
use Rattle.psac_plain.specs.Slots.{Halts}
use Rattle.psac_trace.specs.declared.halt.Halt.{Halt}
use Rattle.psac_trace.specs.declared.halt.Halt.TheVariants as halt
use Rattle.psac_trace.specs.Rights.{Heap, Sees, Tidy, Kept as Stays}
use Rattle.psac_trace.specs.Asking.{Readable, Looked, looks_for}
use Rattle.psac_trace.specs.Looks.{Looks}
use Rattle.psac_trace.specs.Told.{Ended, Good, Fault, Other, Needs, Tells, ended_of, halted, both_ended, then_ended, bared, Follows, is_other, stop_ended, what}
use Rattle.psac_trace.specs.Divided.{neither, writes_slot, sets_shared}
use Rattle.psac_trace.specs.Fit.{ParentKept, both_have}
use Rattle.psac_trace.specs.Grown.{Made, nothing, followed, made_below, claims_in, Moves, Cause}
use Rattle.psac_trace.specs.Running.{NeedsAct, TellsAct, TellsBoth, RoomAfter, AllMade, FullBy, Begins, Leaves, BeginsAct, LeavesAct, LeavesBoth, BeginsAfter, LeavesAfter, Opens, HaltsFor, nodes_only, read_made, Began}
use Rattle.psac_slots.specs.Handles.{Member}
use Rattle.psac_values.specs.Knowing.{Knows}
use Rattle.psac_record.specs.Kept.{Stands, stands}
use Rattle.psac_trace.specs.Rights.{In, held}
use Rattle.psac_trace.specs.Raising.{Rewrote, Calm, Only, puts, RaisesBy, Warns, Raisable, olds_after}
use Rattle.psac_trace.specs.Running.{WarnsAct}
use Rattle.psac_trace.specs.declared.world.World.{World}
use Rattle.psac_trace.specs.Worlds.{setting_of, BeginsIn, LeavesIn, LeavesActIn}
use Rattle.psac_trace.proofs.Handing.{Site, Stepped, Opened}
use Rattle.psac_trace.specs.Raising.{Roused}
use Rattle.psac_traced.specs.Holds.{EachOf, Holds}
use Rattle.psac_slots.proofs.Pairs.{member_cases}
use Rattle.psac_model.specs.declared.ends.End.TheVariants.{Done}
use Rattle.psac_model.specs.Series.{has, without}
use Rattle.psac_laws.specs.Standing.{Standing, in_both}
use Rattle.psac_laws.proofs.Places.{not_true, not_both}
use Rattle.psac_laws.proofs.Rules.{has_both, without_within, steps}
use Rattle.psac_trace.specs.Rights.{Target, Ready}
use Rattle.psac_trace.specs.Told.{Told}
use Rattle.psac_trace.proofs.Results.{ref_is}
use Rattle.psac_trace.proofs.Claims.{append_none}
use Rattle.psac_trace.proofs.Heaps.{in_back, in_and_none, one_is, Fresh}
use Rattle.psac_trace.proofs.Moves.{narrow, target_narrow, ready_looked, moved_looked, still_looked}
use Rattle.psac_trace.proofs.Moving.{entry_member}
use Rattle.psac_trace.proofs.Raised.{calm_by, calm_then, slots_apart, puts_in}
use Rattle.psac_trace.proofs.Tells.{told_within, gone, put_ready, seq_ready, inner_moved, both_within, first_ready, first_told, second_ready, left_end, right_end}
use Rattle.psac_trace.proofs.Goes.{goes_at, readable}
use Rattle.psac_trace.proofs.Raised.{only_before, only_calm, only_none, raises_none, raises_before, raises_follows, raises_opened, raises_looked, claimed_knows, seen_in, links_in}
use Rattle.psac_trace.proofs.Warning.{warns_bind, warns_make, warns_inner, warns_of_none, target_back, raisable_on, aged_on, saw_at}
use Rattle.psac_trace.proofs.Behind.{Behind, behind_warns, behind_raises}
use Rattle.psac_trace.proofs.Rousing.{moves_roused, roused_room, raises_put}
use Rattle.psac_trace.proofs.Rewriting.{rewrote_same, rewrote_none, rewrote_looked, rewrote_opened, rewrote_claimed, rewrote_wrote, rewrote_then, rewrote_joined}
use Rattle.psac_trace.proofs.Uniting.{calm_joined, warns_left, warns_right, only_joined, raises_joined}
use Rattle.psac_trace.proofs.Claims.{over_past, drawn_more}
use Rattle.psac_trace.proofs.Growing.{keeps_on}
use Rattle.psac_trace.proofs.Moving.{vain_mine, moves_none, moves_then, full_then, full_more, BesideValues, values_room, moves_looked, moves_wrote, moves_claimed, moves_vain, fit_left, fit_right, parent_left, parent_right, room_left, room_right, moves_joined, full_left, full_right, over_joined}
use Rattle.psac_ops.specs.Named.{same_handle}
use Rattle.psac_cut.specs.CutShort.{Cuts, cuts, cut_short}
use Rattle.psac_cut.specs.Based.{CutOn}
use Rattle.psac_cut.proofs.Cutting.{Shortens, act_short}
use Rattle.psac_cut.proofs.Based.{before, vain_new, at_new, at_body, at_block, bare_sides, cut_on_none}
use Rattle.psac_trace.proofs.Asked.{sees_looked}
use Rattle.psac_trace.proofs.Leaving.{Does, does_then, bared_then, bared_both, follows_bared, other_bared, room_over, room_follows, full_follows, full_before, most_is, NoMore, most_front, what_bared, what_then, same_what, all_front, all_follows, inside, step_made, step_end, sides_made, side_made, block_made, all_both, room_both, full_both, room_from, room_then}
use Rattle.psac_trace.proofs.Looking.{what_both, looks_none, looks_from, looks_follow, looks_made, looks_wrote, looks_end, looks_left, looks_sides, looks_joined, looks_block, looks_whole, looks_after}
use Rattle.psac_trace.proofs.Views.{claimed_sees, sees_same, kept_then, three_is}
use Rattle.psac_trace.proofs.Forks.{left_tidy, right_tidy}
use Rattle.psac_trace.proofs.Tells.{told_follows, tells_end, tells_deep, needs_bind, tells_bind, needs_make, tells_make, may_write, needs_put, tells_put, needs_body, needs_body_on, tells_body_on, tells_body_stop, tells_body_cut, needs_block, needs_block_on, tells_block_on, tells_block_stop, tells_block_first, needs_par_on, tells_par_on, tells_par_stop, tells_par_cut, tells_left_out, both_begun, Whole, needs_left, needs_right, tells_forked, needs_first, needs_second, tells_second, both_follows}
use Rattle.psac_trace.proofs.Goes.{needs_readable, needs_act, sights_act, tells_act, tells_fault}

suc_less : (room : ℕ) → 0 < room → suc (room - 1) ≡ room
suc_less zero h = absurd (omega arith)
suc_less (suc n) h = omega arith

-- a call that wants nothing drew nothing in vain
whole_of : (q : Pass) (e : Ended Kept) → RoomAfter q e → Whole q.values.knows (bared e)
whole_of q (Good k) r o = r.0
whole_of q (Fault k i n) r o = r.0
whole_of q (Other k why) r o = absurd cc

act_follows : (w : Setting Handle) (room : ℕ) (deep : Tracing Handle) (first : Cuts Handle) → Shortens deep first → (a : Action Handle) (rest : List Stmt) (env : Env Handle) (v u : ValueView) (e o : Ended (Rec Handle)) → Whole u e → Follows e o → TellsAct w room deep first a rest env v u e → TellsAct w room deep first a rest env v u o
act_follows w room deep first short a rest env v u e o z f t base st mid end more r g =
    told_follows (acts room deep a) (cuts room deep first a) (λ body env heap x last h. act_short room deep first short a body env heap x last h) rest st end.unwritten env v u base e o z f (t base st mid end more r g)

-- a part before the rest
act_then : (w : Setting Handle) (room : ℕ) (deep : Tracing Handle) (first : Cuts Handle) → Shortens deep first → (a : Action Handle) (rest : List Stmt) (env : Env Handle) (v : ValueView) (q : Pass) (f : Kept → Kept) (F : Rec Handle → Rec Handle) (e o : Ended Kept) → ((k : Kept) → bare (f k) ≡ F (bare k)) → RoomAfter q e → Follows (then_ended f e) o → TellsAct w room deep first a rest env v q.values.knows (then_ended F (bared e)) → TellsAct w room deep first a rest env v q.values.knows (bared o)
act_then w room deep first short a rest env v q f F e o s ro fo t =
    act_follows w room deep first short a rest env v q.values.knows (bared (then_ended f e)) (bared o) (whole_of q (then_ended f e) (room_then q f e ro)) (follows_bared (then_ended f e) o fo)
    (subst (TellsAct w room deep first a rest env v q.values.knows) (sym (bared_then f F s e)) t)

-- what was begun is a first part, where no words changed
begun_tells : (w : Setting Handle) (room : ℕ) (deep : Tracing Handle) (first : Cuts Handle) (a : Action Handle) (rest : List Stmt) (env : Env Handle) (v u : ValueView) (r : Rec Handle) (why : Option Cause) → v.claims.over ≡ 0 → u ≡ v → ((base : Heap) → CutOn same_handle (cuts room deep first a) rest env base r 0) → TellsAct w room deep first a rest env v u (Other r why)
begun_tells w room deep first a rest env v u r why o e c base st mid end more x g = (
  subst (CutOn same_handle (cuts room deep first a) rest env base r) (sym (ap (λ (z : ValueView). z.claims.over) e ∙ o)) (c base),
  λ m y h. subst (λ z. Sees z m y) (sym e) (x.sees m y h),
)

-- the halt alone tells what it ends with
pub begins_any : (w : Setting Handle) (funcs : List Func) (olds : List Handle) (t : Tables) (node : Handle) (j k : Kept) (r : Result Record Halt) (rest : List Stmt) (env : Env Handle) (p : Pass) → BeginsAfter w funcs olds t node (ended_of j r) rest env p → BeginsAfter w funcs olds t node (ended_of k r) rest env p
begins_any w funcs olds t node j k (Ok r) rest env p h = h
begins_any w funcs olds t node j k (Err (halt.Fault _ _)) rest env p h = tt
begins_any w funcs olds t node j k (Err (halt.Full _ _)) rest env p h = tt
begins_any w funcs olds t node j k (Err halt.NoMemory) rest env p h = tt

pub after_halt : (w : Setting Handle) (deep : Tracing Handle) (first : Cuts Handle) (olds : List Handle) (t : Tables) (node : Handle) (k : Kept) (h : Halt) (rest : List Stmt) (env : Env Handle) (p : Pass) → LeavesAfter w deep first olds t node (halted k h) rest env p p (halted (S node k E) h)
after_halt w deep first olds t node k (halt.Fault _ _) rest env p = (refl, refl)
after_halt w deep first olds t node k (halt.Full _ _) rest env p = (refl, refl)
after_halt w deep first olds t node k halt.NoMemory rest env p = (refl, refl)

want_words : (p q : Pass) (k : Kept) → q.values.knows ≡ p.values.knows → puts k ≡ [] → Rewrote p.values.knows q.values.knows (puts k)
want_words p q k same none = subst (Rewrote p.values.knows q.values.knows) (sym none) (rewrote_opened p.values.knows q.values.knows same)

-- where slots or memory were wanting for nodes and links
does_want : (g : Kept → Made) (t : Tables) (p q : Pass) (k : Kept) (begun : Made) (h : Halt) → begun.mods ≡ (g k).mods → length begun.nodes ≡ length (g k).nodes → length begun.links ≡ length (g k).links → puts k ≡ [] → HaltsFor t p q begun h → Does g t p q (halted k h)
does_want g t p q k begun (halt.Fault _ _) m n l e w = absurd w
does_want g t p q k begun (halt.Full which at) m n l e w =
    record { made = w.made; moves = w.moves; all = (w.mods ∙ m, (let x = w.most.0 in let y = w.most.1 in (omega (arith, x, n), omega (arith, y, l)))); room = tt; full = w.full; words = want_words p q k w.same e }
does_want g t p q k begun halt.NoMemory m n l e w = record { made = w.made; moves = w.moves; all = (w.mods ∙ m, (let x = w.most.0 in let y = w.most.1 in (omega (arith, x, n), omega (arith, y, l)))); room = tt; full = tt; words = want_words p q k w.same e }

halt_raises : (olds : List Handle) (t : Tables) (p q : Pass) (begun : Made) (k : Kept) (h : Halt) → HaltsFor t p q begun h → RaisesBy olds p q (halted k h)
halt_raises olds t p q begun k (halt.Fault _ _) x = absurd x
halt_raises olds t p q begun k (halt.Full _ _) x = λ e y. ap (times y) x.quiet
halt_raises olds t p q begun k halt.NoMemory x = λ e y. ap (times y) x.quiet

-- before a write the pass has looked
told_looked : (deep : Tracing Handle) (first : Cuts Handle) (body : List Stmt) (st : Standing) (left : List ℕ) (env : Env Handle) (v u x : ValueView) (base : Heap) → Looked v u → (e : Ended (Rec Handle)) → Told deep first body st left env u x base e → Told deep first body st left env v x base e
told_looked deep first body st left env v u x base l (Good r) t = (t.0, moved_looked st left env v u x base (rec.writes r) l t.1, still_looked st left env v u x l t.2)
told_looked deep first body st left env v u x base l (Fault r k n) t = (t.0, t.1, still_looked st left env v u x l t.2)
told_looked deep first body st left env v u x base l (Other r why) t = t

tells_put_looked : (w : Setting Handle) (room : ℕ) (deep : Tracing Handle) (first : Cuts Handle) (rest : List Stmt) (env : Env Handle) (v u x : ValueView) (m : Handle) (y : Value Handle) (e : Ended (Rec Handle)) → Looked v u → TellsAct w room deep first (Put m y) rest env u x e → TellsAct w room deep first (Put m y) rest env v x e
tells_put_looked w room deep first rest env v u x m y e l t base st mid end more r g =
    told_looked (acts room deep (Put m y)) (cuts room deep first (Put m y)) rest st end.unwritten env v u x base l e (t base st mid end more (ready_looked w st end.unwritten env v u base l r) g)

halt_tells_act : (w : Setting Handle) (room : ℕ) (deep : Tracing Handle) (first : Cuts Handle) (a : Action Handle) (rest : List Stmt) (env : Env Handle) (t : Tables) (p q : Pass) (begun : Made) (k : Kept) (h : Halt) → HasRoom p → ((base : Heap) → CutOn same_handle (cuts room deep first a) rest env base (bare k) 0) → HaltsFor t p q begun h → TellsAct w room deep first a rest env p.values.knows q.values.knows (bared (halted k h))
halt_tells_act w room deep first a rest env t p q begun k (halt.Fault _ _) o c x = absurd x
halt_tells_act w room deep first a rest env t p q begun k (halt.Full which at) o c x = begun_tells w room deep first a rest env p.values.knows q.values.knows (bare k) (Some (record { which = which; index = at.index; room = at.room })) o.0 x.same c
halt_tells_act w room deep first a rest env t p q begun k halt.NoMemory o c x = begun_tells w room deep first a rest env p.values.knows q.values.knows (bare k) None o.0 x.same c

-- and no look came
halt_looks : (before : ℕ) (t : Tables) (p q : Pass) (begun : Made) (k : Kept) (h : Halt) → HaltsFor t p q begun h → Looks before p.values.knows p.values.knows k → Looks before p.values.knows q.values.knows (what (halted k h))
halt_looks before t p q begun k (halt.Fault _ _) x l = absurd x
halt_looks before t p q begun k (halt.Full which at) x l = subst (λ z. Looks before p.values.knows z k) (sym x.same) l
halt_looks before t p q begun k halt.NoMemory x l = subst (λ z. Looks before p.values.knows z k) (sym x.same) l

module _ (at : Site) (a : Action Handle) where
  open at use {w, funcs, room, deep, first, none, short, holding, olds, t, rest, env, par, p}

  act_of : (q : Pass) (e : Ended Kept) → Does (made_below par) t p q e → RaisesBy olds p q e → Looks (looks_for a) p.values.knows q.values.knows (what e) → TellsAct w room deep first a rest env p.values.knows q.values.knows (bared e) → LeavesAct w room deep first olds t a rest env par p q e
  act_of q e d r l h = record { made = d.made; moves = d.moves; all = d.all; room = d.room; full = d.full; raises = r; words = d.words; looks = l; tells = h }

  none_looked : (q : Pass) (k : Kept) → looks_for a ≡ 0 → Looks 0 p.values.knows q.values.knows k → Looks (looks_for a) p.values.knows q.values.knows k
  none_looked q k is = subst (λ n. Looks n p.values.knows q.values.knows k) (sym is)

  -- want of memory, before anything was done
  pub leaves_unbound : (x : ℕ) (y : Value Handle) → a ≡ Bind x y → BeginsAct w funcs olds t a rest env par p → LeavesAct w room deep first olds t a rest env par p p (Other E None)
  leaves_unbound x y is b =
      record {
        made = nothing;
        moves = moves_none t p b.of b.tidy b.fit;
        all = most_is p b.room nothing (made_below par E) refl;
        room = tt;
        full = tt;
        raises = λ e y. refl;
        words = rewrote_none p.values.knows;
        looks = none_looked p E (ap looks_for is) (looks_none p.values.knows p.values.knows E refl refl);
        tells = begun_tells w room deep first a rest env p.values.knows p.values.knows rec.E None b.room.0 refl (λ base. before same_handle room deep first rest env base none a);
      }

  -- let
  module _ (x : ℕ) (y : Value Handle) (inner : Env Handle) (is : a ≡ Bind x y) (env_is : inner ≡ bind x y env) where
    pub begins_bind : BeginsAct w funcs olds t a rest env par p → Begins w funcs olds t rest inner par p
    begins_bind b =
        record {
          of = b.of;
          checked = b.checked;
          room = b.room;
          tidy = b.tidy;
          fit = b.fit;
          parent = b.parent;
          needs = subst (λ z. Needs w rest z p.values.knows) (sym env_is) (needs_bind w room deep first rest env p.values.knows x y (subst (λ z. NeedsAct w z rest env p.values.knows) is b.needs));
          warns = subst (λ z. Warns w olds rest z p) (sym env_is) (warns_bind w olds t rest env p x y (subst (λ z. WarnsAct w olds z rest env p) is b.warns));
        }

    pub leaves_bind : (q : Pass) (e : Ended Kept) → Leaves w deep first olds t rest inner par p q e → LeavesAct w room deep first olds t a rest env par p q e
    leaves_bind q e l =
        record {
          made = l.made;
          moves = l.moves;
          all = l.all;
          room = l.room;
          full = l.full;
          raises = l.raises;
          words = l.words;
          looks = none_looked q (what e) (ap looks_for is) l.looks;
          tells = subst (λ z. TellsAct w room deep first z rest env p.values.knows q.values.knows (bared e)) (sym is) (tells_bind w room deep first rest env p.values.knows x y q.values.knows (bared e) (subst (λ z. Tells w deep first rest z p.values.knows q.values.knows (bared e)) env_is l.tells));
        }

  -- new
  module _ (d : ℕ) (m : Handle) (p' : Pass) (b : BeginsAct w funcs olds t a rest env par p) (be : BesideValues p p') (c : Claims p.values.knows m p'.values.knows) (l : Lacks p.values.knows m.slot) (o : p'.values.knows.claims.over ≡ 0) where
    abbrev one_made : Made
    one_made = record { mods = m ∷ []; nodes = []; links = [] }

    claim_moves : Moves t p p' one_made
    claim_moves = moves_claimed t p p' b.of b.tidy b.fit be m c l

    claim_room : HasRoom p'
    claim_room = values_room t p p' b.of b.tidy b.fit be b.room o

    claim_looks : p'.values.knows.looks ≡ p.values.knows.looks
    claim_looks = ap (λ (z : ValueView). z.looks) c.5

    pub leaves_unnamed : a ≡ Make d → LeavesAct w room deep first olds t a rest env par p p' (Other (A m E) None)
    leaves_unnamed is =
        record {
          made = one_made;
          moves = claim_moves;
          all = most_is p' claim_room one_made (made_below par (A m E)) refl;
          room = tt;
          full = tt;
          raises = λ e y. ap (λ z. times y z.knows.marked) be.marks;
          words = rewrote_claimed p.values.knows p'.values.knows m c l;
          looks = none_looked p' (A m E) (ap looks_for is) (looks_none p.values.knows p'.values.knows (A m E) claim_looks refl);
          tells = subst (λ z. TellsAct w room deep first z rest env p.values.knows p'.values.knows (Other (rec.A m rec.E) None)) (sym is) (λ base st mid end more r g. (
            subst (CutOn same_handle (cuts room deep first (Make d)) rest env base (rec.A m rec.E)) (sym o) (at_new same_handle room deep first rest env base d m rec.E 0 (record { run = λ heap wi. none rest (bind d (ref m) env) heap })),
            λ n x e. claimed_sees p.values.knows p'.values.knows m c l n x (r.sees n x e),
          ));
        }

    module _ (inner : Env Handle) (is : a ≡ Make d) (env_is : inner ≡ bind d (ref m) env) where
      pub begins_make : Begins w funcs olds t rest inner par p'
      begins_make =
          record {
            of = claim_moves.of;
            checked = b.checked;
            room = claim_room;
            tidy = claim_moves.stays.tidy;
            fit = claim_moves.fit;
            parent = subst (λ z. ParentKept par z.knows) (sym be.marks) b.parent;
            needs = subst (λ z. Needs w rest z p'.values.knows) (sym env_is) (needs_make w room deep first rest env p.values.knows d m p'.values.knows c l (subst (λ z. NeedsAct w z rest env p.values.knows) is b.needs));
            warns = subst (λ z. Warns w olds rest z p') (sym env_is)
                (warns_make w olds t rest env p d m p' one_made c l (entry_member c.1 p.values.knows.claims.list c.0 c.3) (ap (λ (z : Handle). z.slot) (sym c.4)) claim_moves refl (claimed_knows p.values.knows p'.values.knows m c l)
                (subst (λ z. WarnsAct w olds z rest env p) is b.warns));
          }

      raises_make : (q : Pass) (made : Made) → Moves t p' q made → (e : Ended Kept) → RaisesBy olds p' q e → RaisesBy olds p q (then_ended (A m) e)
      raises_make q made mv (Good k) r =
          raises_before olds t p p' q one_made made (puts k) claim_moves mv (raises_none olds p p' (ap (λ z. z.knows.marked) be.marks) (claimed_knows p.values.knows p'.values.knows m c l)) (λ n x o i s j. absurd j) r
      raises_make q made mv (Fault k i n) r =
          only_before olds t p p' q one_made made (puts k) claim_moves mv (raises_none olds p p' (ap (λ z. z.knows.marked) be.marks) (claimed_knows p.values.knows p'.values.knows m c l)) (λ n x o i s j. absurd j) r
      raises_make q made mv (Other k why) r = calm_then olds p p' q (λ e y. ap (λ z. times y z.knows.marked) be.marks) r

      pub leaves_make : (q : Pass) (e f : Ended Kept) → Leaves w deep first olds t rest inner par p' q e → Follows (then_ended (A m) e) f → LeavesAct w room deep first olds t a rest env par p q f
      leaves_make q e f k h =
          act_of q f (does_then (made_below par) (made_below par) (A m) t p p' q one_made e f (λ x. refl) [] (λ x. refl) claim_moves (rewrote_claimed p.values.knows p'.values.knows m c l) (record { made = k.made; moves = k.moves; all = k.all; room = k.room; full = k.full; words = k.words }) h)
          (raises_follows olds p q (moves_then t p p' q one_made k.made claim_moves k.moves).marks (then_ended (A m) e) f h (raises_make q k.made k.moves e k.raises))
          (none_looked q (what f) (ap looks_for is) (looks_follow 0 p.values.knows q.values.knows (A m) e f h (looks_made p.values.knows p'.values.knows q.values.knows m (what e) claim_looks k.looks)))
          (act_then w room deep first short a rest env p.values.knows q (A m) (rec.A m) e f (λ x. refl) k.room h
          (subst (λ z. TellsAct w room deep first z rest env p.values.knows q.values.knows (then_ended (rec.A m) (bared e))) (sym is) (tells_make w room deep first rest env p.values.knows d m p'.values.knows c l q.values.knows (bared e) (subst (λ z. Tells w deep first rest z p'.values.knows q.values.knows (bared e)) env_is k.tells))))

  -- a claim in vain
  pub leaves_full : (p' : Pass) (at : Full) (d : ℕ) → BeginsAct w funcs olds t a rest env par p → BesideValues p p' → at.room ≡ length p.values.knows.claims.list → at.room ≤ at.index → p'.values.knows ≡ drew p.values.knows at.index → a ≡ Make d → LeavesAct w room deep first olds t a rest env par p p' (halted E (halt.Full cap.Mods at))
  leaves_full p' at d b be list past e is =
      let v = p.values.knows in
      let h : length v.claims.list ≤ at.index = subst (λ z. z ≤ at.index) list past in
      let o : p'.values.knows.claims.over ≡ 1 = ap (λ (z : ValueView). z.claims.over) e ∙ over_past v.claims at.index h ∙ ap (λ n. n + 1) b.room.0 in
      let readers_is = ap (λ z. z.knows.claims.over) be.readers ∙ b.room.1 in
      let marks_is = ap (λ z. z.knows.claims.over) be.marks ∙ b.room.2 in
      let why : Cause = record { which = cap.Mods; index = at.index; room = at.room } in
      record {
        made = nothing;
        moves = moves_vain t p p' b.of b.tidy b.fit be at.index h e;
        all = (refl, (omega (arith, marks_is), omega (arith, readers_is)));
        room = tt;
        looks = none_looked p' E (ap looks_for is) (looks_none v p'.values.knows E (ap (λ (z : ValueView). z.looks) e) refl);
        full = record { list = list; past = past; drew = subst (λ (z : ValueView). times at.index v.claims.drawn < times at.index z.claims.drawn) (sym e) (drawn_more v.claims at.index) };
        raises = λ e y. ap (λ z. times y z.knows.marked) be.marks;
        words = rewrote_same v p'.values.knows (vain_mine v p'.values.knows at.index h e) (ap (λ (z : ValueView). z.known) e);
        tells = subst (λ z. TellsAct w room deep first z rest env v p'.values.knows (Other rec.E (Some why))) (sym is) (λ base st mid end more r g. (
          subst (CutOn same_handle (cuts room deep first (Make d)) rest env base rec.E) (sym o) (vain_new same_handle room deep first rest env base d),
          λ m x i. sees_same v p'.values.knows (vain_mine v p'.values.knows at.index h e) (ap (λ (z : ValueView). z.known) e) m x (r.sees m x i),
        ));
      }

  -- write
  module _ (m : Handle) (x : Plain) (ws : List ℕ) (is : a ≡ Put m (plain_value x)) (words : ws ≡ words_of x) (value : of_words ws ≡ Some x) (b : BeginsAct w funcs olds t a rest env par p) where
    three : of_words (three_of ws) ≡ Some x
    three = ap (λ z. of_words (three_of z)) words ∙ three_is x ∙ sym (ap of_words words) ∙ value

    put_needs : NeedsAct w (Put m (plain_value x)) rest env p.values.knows
    put_needs = subst (λ z. NeedsAct w z rest env p.values.knows) is b.needs

    put_warns : WarnsAct w olds (Put m (plain_value x)) rest env p
    put_warns = subst (λ z. WarnsAct w olds z rest env p) is b.warns

    -- the readers of an old destination can be raised
    pub put_may : Member m olds → Raisable p m
    put_may o =
        let n = put_warns in
        let g = n.goes in
        n.may m o (g.0, g.1, gone w room deep first rest env p.values.knows m x (three_of ws) three b.tidy n.st n.mid n.end g.0 g.1 g.2 n.meets, g.3)

    module _ (p1 : Pass) (ro : Roused t olds m ws p p1) where
      rouse_moves : Moves t p p1 nothing
      rouse_moves = moves_roused t olds m ws p p1 b.tidy b.fit ro

      tidy_on : Tidy p1.values.knows
      tidy_on = rouse_moves.stays.tidy

      needs_on : NeedsAct w (Put m (plain_value x)) rest env p1.values.knows
      needs_on = let n = put_needs in (n.0, n.1, n.2, n.3, n.4, ready_looked w n.1 n.3.unwritten env p.values.knows p1.values.knows n.0 ro.looked n.5, n.6)

      pub put_mine : Has p1.values.knows m
      put_mine = may_write w room deep first rest env p1.values.knows m x (three_of ws) three tidy_on needs_on

      module _ (p' : Pass) (be : BesideValues p1 p') (wr : p'.values.knows ≡ wrote m.slot (three_of ws) p1.values.knows) where
        write_moves : Moves t p1 p' nothing
        write_moves = moves_wrote t p1 p' rouse_moves.of tidy_on rouse_moves.fit be m (three_of ws) put_mine wr

        put_moves : Moves t p p' nothing
        put_moves = moves_then t p p1 p' nothing nothing rouse_moves write_moves

        put_words : Rewrote p.values.knows p'.values.knows ((m, x) ∷ [])
        put_words =
            rewrote_then p.values.knows p1.values.knows p'.values.knows [] ((m, x) ∷ []) rouse_moves.stays write_moves.stays (rewrote_looked p.values.knows p1.values.knows ro.looked)
            (subst (λ z. Rewrote p1.values.knows z ((m, x) ∷ [])) (sym wr) (rewrote_wrote p1.values.knows m x ws words tidy_on put_mine))

        -- the look at the old words, where there was one
        put_looks : p'.values.knows.looks ≡ p.values.knows.looks + ro.looks.0
        put_looks = ap (λ (z : ValueView). z.looks) wr ∙ ro.looks.2

        abbrev written : Kept
        written = W m x E

        put_behind : Behind w olds rest env p p' nothing written
        put_behind =
            let n = put_warns in
            let g = n.goes in
            let r = ready_looked w n.st n.end.unwritten env p.values.knows p1.values.knows n.base ro.looked n.ready in
            let left = without (g.0 ∷ []) n.st.unwritten in
            let o = n.ready.opens g.0 g.1 (gone w room deep first rest env p.values.knows m x (three_of ws) three b.tidy n.st n.mid n.end g.0 g.1 g.2 n.meets) in
            let empty : held n.base m ≡ None = subst (λ z. held n.base z ≡ None) (ref_is (sym o.1 ∙ g.3)) o.2 in
            record {
              aged = n.aged;
              base = n.base;
              mid = n.mid;
              end = n.end;
              meets = n.meets;
              ready = subst (λ z. Ready w n.mid n.end.unwritten env z ((m, plain_value x) ∷ n.base)) (sym wr) (put_ready w room deep first rest env p1.values.knows m x (three_of ws) three tidy_on n.base n.st n.mid n.end n.meets r put_mine g);
              begun = λ k i. subst (λ z. held n.base z ≡ None) (one_is m k (plain_value x) i.0 i.1).0 empty;
              raised = raises_put t olds m ws p p1 b.tidy b.fit ro x words (three_of ws) three put_mine p' be wr;
              linked = λ s i. absurd i;
              may = λ k o z. n.may k o (target_back n.st n.mid left n.end.unwritten env k g.2 (without_within (g.0 ∷ []) n.st.unwritten) z);
            }

        pub begins_put : Begins w funcs olds t rest env par p'
        begins_put =
            record {
              of = put_moves.of;
              checked = b.checked;
              room = values_room t p1 p' rouse_moves.of tidy_on rouse_moves.fit be (roused_room t olds m ws p p1 b.tidy b.fit ro b.room) (ap (λ (z : ValueView). z.claims.over) wr ∙ (roused_room t olds m ws p p1 b.tidy b.fit ro b.room).0);
              tidy = put_moves.stays.tidy;
              fit = put_moves.fit;
              parent = subst (λ z. ParentKept par z.knows) (sym be.marks) (parent_on par rouse_moves b.parent);
              needs = subst (Needs w rest env) (sym wr) (needs_put w room deep first rest env p1.values.knows m x (three_of ws) three tidy_on needs_on);
              warns = behind_warns w olds t rest env p p' nothing written put_moves put_behind;
            }
          where
            parent_on : (par : Option Handle) → Moves t p p1 nothing → ParentKept par p.marks.knows → ParentKept par p1.marks.knows
            parent_on None mv k = tt
            parent_on (Some h) mv k = keeps_on p.marks.knows p1.marks.knows [] mv.nodes h k

        pub leaves_put : (q : Pass) (e f : Ended Kept) → Leaves w deep first olds t rest env par p' q e → Follows (then_ended (W m x) e) f → LeavesAct w room deep first olds t a rest env par p q f
        leaves_put q e f k h =
            act_of q f (does_then (made_below par) (made_below par) (W m x) t p p' q nothing e f (λ z. refl) ((m, x) ∷ []) (λ z. refl) put_moves put_words (record { made = k.made; moves = k.moves; all = k.all; room = k.room; full = k.full; words = k.words }) h)
            (raises_follows olds p q (moves_then t p p' q nothing k.made put_moves k.moves).marks (then_ended (W m x) e) f h (behind_raises w olds t rest env p p' nothing written put_moves put_behind deep first (W m x) (λ z. refl) q k.made k.moves e k.raises k.words k.tells))
            (none_looked q (what f) (ap looks_for is) (looks_follow 0 p.values.knows q.values.knows (W m x) e f h (looks_wrote p.values.knows p'.values.knows q.values.knows m x (what e) ro.looks.0 ro.looks.1 put_looks k.looks)))
            (act_then w room deep first short a rest env p.values.knows q (W m x) (rec.W m (plain_value x)) e f (λ z. refl) k.room h
            (subst (λ z. TellsAct w room deep first z rest env p.values.knows q.values.knows (then_ended (rec.W m (plain_value x)) (bared e))) (sym is)
            (tells_put_looked w room deep first rest env p.values.knows p1.values.knows q.values.knows m (plain_value x) (then_ended (rec.W m (plain_value x)) (bared e)) ro.looked
            (tells_put w room deep first rest env p1.values.knows m x (three_of ws) three tidy_on q.values.knows (bared e) put_mine (subst (λ z. Stays z q.values.knows) wr k.moves.stays) (subst (λ z. Tells w deep first rest env z q.values.knows (bared e)) wr k.tells)))))

-- behind an inner part, whose statement has this node
module _ (at : Site) (node : Handle) (u : Pass) where
  open at use {w, funcs, deep, first, olds, t, rest, env, par, p}

  part_words : (k : Kept) → Rewrote p.values.knows u.values.knows (puts k) → Rewrote p.values.knows u.values.knows (puts (S node k E))
  part_words k = subst (Rewrote p.values.knows u.values.knows) (sym (append_none (puts k)))

  pub does_after : (e : Ended Kept) (q : Pass) (o : Ended Kept) → Does (inside par node) t p u e → LeavesAfter w deep first olds t node e rest env u q o → Does (made_below par) t p q o
  does_after (Good k) q o d l =
      does_then (made_below (Some node)) (made_below par) (S node k) t p u q d.made l.0 o
      (λ z. ap (λ m. followed m (made_below (Some node) z)) d.all ∙ step_made par node k z)
      (puts k) (λ z. refl) d.moves d.words (record { made = l.1.made; moves = l.1.moves; all = l.1.all; room = l.1.room; full = l.1.full; words = l.1.words }) l.2
  does_after (Fault k c n) q o d l =
      subst (Does (made_below par) t p q) (sym l.1)
      (subst (λ z. Does (made_below par) t p z (Fault (S node k E) c n)) (sym l.0)
      (record { made = d.made; moves = d.moves; all = d.all ∙ step_end par node k; room = d.room; full = tt; words = part_words k d.words }))
  does_after (Other k None) q o d l =
      subst (Does (made_below par) t p q) (sym l.1)
      (subst (λ z. Does (made_below par) t p z (Other (S node k E) None)) (sym l.0)
      (record { made = d.made; moves = d.moves; all = subst (NoMore u d.made) (step_end par node k) d.all; room = tt; full = tt; words = part_words k d.words }))
  does_after (Other k (Some c)) q o d l =
      subst (Does (made_below par) t p q) (sym l.1)
      (subst (λ z. Does (made_below par) t p z (Other (S node k E) (Some c))) (sym l.0)
      (record { made = d.made; moves = d.moves; all = subst (NoMore u d.made) (step_end par node k) d.all; room = tt; full = d.full; words = part_words k d.words }))

  -- what was raised up to there, and behind it
  pub raises_after : (made : Made) → Moves t p u made → Calm olds p u → (e : Ended Kept) (q : Pass) (o : Ended Kept) → ((k : Kept) (i : FaultKind) (n : ℕ) → e ≡ Fault k i n → Only olds p u (puts k)) → ((k : Kept) → e ≡ Good k → Behind w olds rest env p u made k) → LeavesAfter w deep first olds t node e rest env u q o → RaisesBy olds p q o
  raises_after made mv calm (Good k) q o only past l =
      raises_follows olds p q (moves_then t p u q made l.1.made mv l.1.moves).marks (then_ended (S node k) l.0) o l.2 (behind_raises w olds t rest env p u made k mv (past k refl) deep first (S node k) (λ z. refl) q l.1.made l.1.moves l.0 l.1.raises l.1.words l.1.tells)
  raises_after made mv calm (Fault k c n) q o only past l =
      subst (RaisesBy olds p q) (sym l.1) (subst (λ z. Only olds p z (puts (S node k E))) (sym l.0) (subst (Only olds p u) (sym (append_none (puts k))) (only k c n refl)))
  raises_after made mv calm (Other k why) q o only past l = subst (RaisesBy olds p q) (sym l.1) (subst (Calm olds p) (sym l.0) calm)

-- a par, behind its node
warns_on : (olds : List Handle) (t : Tables) (rest : List Stmt) (env : Env Handle) (p u : Pass) (a : Made) (ls rs : List Stmt) (w : Setting Handle) → Opens t p u a → a.links ≡ [] → WarnsAct w olds (Sides ls rs) rest env p → WarnsAct w olds (Sides ls rs) rest env u
warns_on olds t rest env p u a ls rs w op none n =
    record {
      aged = aged_on olds t p u a op.moves n.aged;
      base = n.base;
      st = n.st;
      mid = n.mid;
      end = n.end;
      meets = n.meets;
      ready = subst (λ v. Ready w n.st n.end.unwritten env v n.base) (sym op.same) n.ready;
      goes = n.goes;
      saw = tt;
      may = λ m o z. raisable_on t p u a op.moves m (λ s i. absurd (subst (Member s) none i)) (λ us k. subst (λ v. Knows v m us) (sym op.same) k) (n.may m o z);
    }

both_good : (node : Handle) (k : Kept) (two : Ended Kept) → then_ended (P node k) two ≡ both_ended (P node) (Good k) two
both_good node k (Good c) = refl
both_good node k (Fault c i n) = refl
both_good node k (Other c why) = refl

good_is : (k c : Kept) → (let e : Ended Kept = Good k in e ≡ Good c) → k ≡ c
good_is k c h = ap (λ (e : Ended Kept). what e) h

-- if and call
module _ (at : Site) where
  open at use {w, funcs, room, deep, first, none, short, holding, olds, t, rest, env, par, p}

  abbrev v : ValueView
  v = p.values.knows

  module _ (body : List Stmt) (inner : Env Handle) (b : BeginsAct w funcs olds t (Body body inner) rest env par p) where
    pub leaves_no_inner : (q : Pass) (node : Handle) (h : Halt) → HaltsFor t p q (nodes_only ((node, par) ∷ [])) h → LeavesAct w room deep first olds t (Body body inner) rest env par p q (halted (S node E E) h)
    leaves_no_inner q node h x =
        act_of at (Body body inner) q (halted (S node E E) h)
        (does_want (made_below par) t p q (S node E E) (nodes_only ((node, par) ∷ [])) h refl refl refl refl x)
        (halt_raises olds t p q (nodes_only ((node, par) ∷ [])) (S node E E) h x)
        (halt_looks 0 t p q (nodes_only ((node, par) ∷ [])) (S node E E) h x (looks_none v v (S node E E) refl refl))
        (halt_tells_act w room deep first (Body body inner) rest env t p q (nodes_only ((node, par) ∷ [])) (S node E E) h b.room (λ base. at_body same_handle room deep first rest env base body inner rec.E 0 (record { run = λ heap wi. none body inner heap })) x)

    module _ (s : Stepped at) where
      open s use {node, pass as p1, opens as op, keeps as kn}

      pub begins_inner : Begins w funcs olds t body inner (Some node) p1
      begins_inner = record { of = op.moves.of; checked = b.checked; room = op.room; tidy = op.moves.stays.tidy; fit = op.moves.fit; parent = kn; needs = subst (Needs w body inner) (sym op.same) (needs_body w room deep first rest env v body inner b.needs); warns = inner_warns }
        where
          inner_warns : Warns w olds body inner p1
          inner_warns = let n = b.warns in warns_inner w olds t rest env p p1 (nodes_only ((node, par) ∷ [])) body inner n.base n.st n.mid n.end n.meets n.goes b.tidy op.moves op.same (λ s i. absurd i) n.aged n.may

      module _ (u : Pass) (e : Ended Kept) (l : Leaves w deep first olds t body inner (Some node) p1 u e) where
        inner_kept : Stays v u.values.knows
        inner_kept = kept_then v p1.values.knows u.values.knows op.moves.stays l.moves.stays

        inner_told : Tells w deep first body inner v u.values.knows (bared e)
        inner_told = subst (λ z. Tells w deep first body inner z u.values.knows (bared e)) op.same l.tells

        inner_does : Does (inside par node) t p u e
        inner_does =
            record {
              made = followed (nodes_only ((node, par) ∷ [])) l.made;
              moves = moves_then t p p1 u (nodes_only ((node, par) ∷ [])) l.made op.moves l.moves;
              all = all_front (nodes_only ((node, par) ∷ [])) (made_below (Some node)) u l.made e l.all;
              room = l.room;
              full = full_before t p p1 u (nodes_only ((node, par) ∷ [])) e op.moves l.full;
              words = subst (λ z. Rewrote z u.values.knows (puts (what e))) op.same l.words;
            }

        abbrev inner_made : Made
        inner_made = followed (nodes_only ((node, par) ∷ [])) l.made

        inner_moves : Moves t p u inner_made
        inner_moves = moves_then t p p1 u (nodes_only ((node, par) ∷ [])) l.made op.moves l.moves

        inner_behind : (k : Kept) → e ≡ Good k → Behind w olds rest env p u inner_made k
        inner_behind k is =
            let n = b.warns in
            let g = n.goes in
            let told = subst (λ z. Tells w deep first body inner v u.values.knows (bared z)) is inner_told n.base g.names g.end g.meets g.ready in
            let all : l.made ≡ made_below (Some node) k = subst (AllMade (made_below (Some node)) u l.made) is l.all in
            let holds = subst (λ z. Holds z n.base (bare k)) n.ready.same (holding body inner n.base (bare k) Done (told.0.run n.base (λ m x h. h))) in
            record {
              aged = n.aged;
              base = n.base;
              mid = n.mid;
              end = n.end;
              meets = n.meets;
              ready = seq_ready w room deep first rest env v (Body body inner) u.values.knows inner_kept n.base n.st n.mid n.end n.meets n.ready g.left g.within g.settles (rec.writes (bare k)) (inner_moved w room deep first rest env v n.st n.mid n.base body inner g u.values.knows (rec.writes (bare k)) told.1);
              begun = told.0.fresh;
              raised = raises_before olds t p p1 u (nodes_only ((node, par) ∷ [])) l.made (puts k) op.moves l.moves (raises_opened olds t p p1 (nodes_only ((node, par) ∷ [])) op) (λ m x o i s j. absurd j) (subst (RaisesBy olds p1 u) is l.raises);
              linked = λ s i. links_in n.base k holds s (subst (λ (z : Made). Member s z.links) all i);
              may = λ m o z. n.may m o (target_back n.st n.mid g.left n.end.unwritten env m g.settles g.within z);
            }

        inner_only : (k : Kept) (i : FaultKind) (n : ℕ) → e ≡ Fault k i n → Only olds p u (puts k)
        inner_only k i n is =
            only_before olds t p p1 u (nodes_only ((node, par) ∷ [])) l.made (puts k) op.moves l.moves (raises_opened olds t p p1 (nodes_only ((node, par) ∷ [])) op) (λ m x o y s j. absurd j) (subst (RaisesBy olds p1 u) is l.raises)

        pub begins_after_inner : BeginsAfter w funcs olds t node e rest env u
        begins_after_inner = pick e l.room inner_told inner_behind
          where
            pick : (e : Ended Kept) → RoomAfter u e → Tells w deep first body inner v u.values.knows (bared e) → ((k : Kept) → e ≡ Good k → Behind w olds rest env p u inner_made k) → BeginsAfter w funcs olds t node e rest env u
            pick (Good k) r told past =
                record {
                  of = l.moves.of;
                  checked = b.checked;
                  room = r;
                  tidy = l.moves.stays.tidy;
                  fit = l.moves.fit;
                  parent = keeps_on p1.marks.knows u.marks.knows l.made.nodes l.moves.nodes node kn;
                  needs = needs_body_on w room deep first rest env v body inner u.values.knows (bare k) inner_kept b.needs told;
                  warns = behind_warns w olds t rest env p u inner_made k inner_moves (past k refl);
                }
            pick (Fault k c n) r told past = tt
            pick (Other k why) r told past = tt

        pub leaves_inner : (q : Pass) (o : Ended Kept) → LeavesAfter w deep first olds t node e rest env u q o → LeavesAct w room deep first olds t (Body body inner) rest env par p q o
        leaves_inner q o h = act_of at (Body body inner) q o (does_after at node u e q o inner_does h) (raises_after at node u inner_made inner_moves (calm_then olds p p1 u (λ z y. ap (times y) op.quiet) (calm_by olds p1 u l.moves.marks e l.raises)) e q o inner_only inner_behind h) (looks_after w deep first olds t node rest env 0 v u q e o (looks_from v p1.values.knows u.values.knows (what e) op.same l.looks) h) (pick e inner_told h)
          where
            pick : (e : Ended Kept) → Tells w deep first body inner v u.values.knows (bared e) → LeavesAfter w deep first olds t node e rest env u q o → TellsAct w room deep first (Body body inner) rest env v q.values.knows (bared o)
            pick (Good k) told h =
                act_then w room deep first short (Body body inner) rest env v q (S node k) (rec.S (bare k)) h.0 o (λ z. refl) h.1.room h.2
                (tells_body_on w room deep first rest env v body inner u.values.knows q.values.knows (bare k) (bared h.0) inner_kept h.1.moves.stays told h.1.tells)
            pick (Fault k c n) told h =
                subst (λ z. TellsAct w room deep first (Body body inner) rest env v q.values.knows (bared z)) (sym h.1)
                (subst (λ (z : Pass). TellsAct w room deep first (Body body inner) rest env v z.values.knows (Fault (rec.S (bare k) rec.E) c n)) (sym h.0) (tells_body_stop w room deep first rest env v body inner u.values.knows (bare k) c n told))
            pick (Other k why) told h =
                subst (λ z. TellsAct w room deep first (Body body inner) rest env v q.values.knows (bared z)) (sym h.1)
                (subst (λ (z : Pass). TellsAct w room deep first (Body body inner) rest env v z.values.knows (Other (rec.S (bare k) rec.E) why)) (sym h.0) (tells_body_cut w room deep first rest env v body inner u.values.knows (bare k) why told))

  -- read
  module _ (number level : ℕ) (reads : Reads Handle) (body : List Stmt) (inner : Env Handle) (b : BeginsAct w funcs olds t (Block number reads body inner) rest env par p) where
    module _ (r : Reading) (began : Began level number env reads r) (room_is : levels - level ≡ room) where
      bare_is : (k : Kept) → bare (R r k) ≡ rec.R room number env reads (bare k)
      bare_is k =
          ap (λ z. rec.R (levels - z) r.block (env_of r.env) (reads_of r.reads) (bare k)) began.level
          ∙ ap (λ z. rec.R z r.block (env_of r.env) (reads_of r.reads) (bare k)) room_is
          ∙ ap (λ z. rec.R room z (env_of r.env) (reads_of r.reads) (bare k)) began.block
          ∙ ap (λ z. rec.R room number z (reads_of r.reads) (bare k)) began.env
          ∙ ap (λ z. rec.R room number env z (bare k)) began.reads

      begun_block : (base : Heap) → CutOn same_handle (cuts room deep first (Block number reads body inner)) rest env base (rec.S (bare (R r E)) rec.E) 0
      begun_block base = subst (λ x. CutOn same_handle (cuts room deep first (Block number reads body inner)) rest env base (rec.S x rec.E) 0) (sym (bare_is E))
          (at_block same_handle room deep first rest env base number reads body inner reads [] rec.E 0 (append-nil reads) (record { run = λ heap wi. none body inner heap }))

      begun_looks : (node : Handle) → Looks (length reads) v v (S node (R r E) E)
      begun_looks node = looks_end (length reads) v v node (R r E) (looks_block v v r reads E began.reads (looks_none v v E refl refl))

      pub leaves_no_block : (q : Pass) (node : Handle) (h : Halt) → HaltsFor t p q (read_made par node r) h → LeavesAct w room deep first olds t (Block number reads body inner) rest env par p q (halted (S node (R r E) E) h)
      leaves_no_block q node h x =
          act_of at (Block number reads body inner) q (halted (S node (R r E) E) h)
          (does_want (made_below par) t p q (S node (R r E) E) (read_made par node r) h refl refl refl refl x)
          (halt_raises olds t p q (read_made par node r) (S node (R r E) E) h x)
          (halt_looks (length reads) t p q (read_made par node r) (S node (R r E) E) h x (begun_looks node))
          (halt_tells_act w room deep first (Block number reads body inner) rest env t p q (read_made par node r) (S node (R r E) E) h b.room begun_block x)

      -- want of memory for the environment of the block
      pub leaves_unentered : (node : Handle) (p1 : Pass) → Opens t p p1 (read_made par node r) → LeavesAct w room deep first olds t (Block number reads body inner) rest env par p p1 (Other (S node (R r E) E) None)
      leaves_unentered node p1 op =
          record {
            made = read_made par node r;
            moves = op.moves;
            all = most_is p1 op.room (read_made par node r) (read_made par node r) refl;
            room = tt;
            full = tt;
            raises = λ e y. ap (times y) op.quiet;
            words = rewrote_opened p.values.knows p1.values.knows op.same;
            looks = subst (λ z. Looks (length reads) v z (S node (R r E) E)) (sym op.same) (begun_looks node);
            tells = begun_tells w room deep first (Block number reads body inner) rest env v p1.values.knows (rec.S (bare (R r E)) rec.E) None b.room.0 op.same begun_block;
          }

    module _ (s : Opened at level number reads) where
      open s use {node, reading as r, pass as p1, opens as op, keeps as kn, inside as kr, began}

      -- the links that were entered are of what the base has
      read_linked : (base : Heap) → EachOf (λ m x. held base m ≡ Some x) reads → (s : Stands) → Member s (read_made par node r).links → In base s.of
      read_linked base saw s i =
          let ls = map (stands r.node) r.reads in
          seen_in base r.node r.reads (subst (EachOf (λ m x. held base m ≡ Some x)) (sym began.reads) saw) s (subst (Member s) (append_none (ls ++ []) ∙ append_none ls) i)

      pub begins_block : Begins w funcs olds t body inner (Some r.node) p1
      begins_block = record { of = op.moves.of; checked = b.checked; room = op.room; tidy = op.moves.stays.tidy; fit = op.moves.fit; parent = kr; needs = subst (Needs w body inner) (sym op.same) (needs_block w room deep first rest env v number reads body inner b.needs); warns = block_warns }
        where
          block_warns : Warns w olds body inner p1
          block_warns = let n = b.warns in warns_inner w olds t rest env p p1 (read_made par node r) body inner n.base n.st n.mid n.end n.meets n.goes b.tidy op.moves op.same (read_linked n.base n.saw) n.aged n.may

      module _ (u : Pass) (e f : Ended Kept) (fo : Follows (then_ended (R r) e) f) (l : Leaves w deep first olds t body inner (Some r.node) p1 u e) where
        block_kept : Stays v u.values.knows
        block_kept = kept_then v p1.values.knows u.values.knows op.moves.stays l.moves.stays

        block_told : Tells w deep first body inner v u.values.knows (bared e)
        block_told = subst (λ z. Tells w deep first body inner z u.values.knows (bared e)) op.same l.tells

        block_does : Does (inside par node) t p u f
        block_does = does_then (made_below (Some r.node)) (inside par node) (R r) t p p1 u (read_made par node r) e f (block_made par node r) [] (λ z. refl) op.moves (rewrote_opened p.values.knows p1.values.knows op.same) (record { made = l.made; moves = l.moves; all = l.all; room = l.room; full = l.full; words = l.words }) fo

        abbrev all_made : Made
        all_made = followed (read_made par node r) l.made

        block_moves : Moves t p u all_made
        block_moves = moves_then t p p1 u (read_made par node r) l.made op.moves l.moves

        good_then : (e : Ended Kept) (c : Kept) → then_ended (R r) e ≡ Good c → (k : Kept) × (e ≡ Good k) × (R r k ≡ c)
        good_then (Good k) c h = (k, refl, good_is (R r k) c h)
        good_then (Fault k i n) c h = absurd cc
        good_then (Other k why) c h = absurd cc

        stop_then : (e : Ended Kept) (c : Kept) (i : FaultKind) (n : ℕ) → then_ended (R r) e ≡ Fault c i n → (k : Kept) × (e ≡ Fault k i n) × (R r k ≡ c)
        stop_then (Good k) c i n h = absurd cc
        stop_then (Fault k j m) c i n h =
            let kind : j ≡ i = cc in
            let line : m ≡ n = cc in
            (k, ap (λ z. Fault k z m) kind ∙ ap (λ z. Fault k i z) line, ap (λ (z : Ended Kept). what z) h)
        stop_then (Other k why) c i n h = absurd cc

        -- the links that were entered are of nothing that the block wrote
        unread : (e : Ended (Rec Handle)) (k : Kept) → Told deep first body b.warns.goes.names b.warns.goes.end.unwritten inner v u.values.knows b.warns.base e → Fresh (rec.writes (bare k)) b.warns.base → ((m : Handle) (x : Plain) → Member (m, x) (puts k) → Has u.values.knows m) → (m : Handle) (x : Plain) → Member m olds → Member (m, x) (puts k) → (s : Stands) → Member s (read_made par node r).links → s.of.slot ≢ m.slot
        unread e k told fresh owned m x o i s j =
            let n = b.warns in
            let g = n.goes in
            let a = read_linked n.base n.saw s j in
            let sees = told_within deep first body g.names g.end.unwritten inner v u.values.knows n.base e told in
            slots_apart u.values.knows l.moves.stays.tidy s.of m a.0 (sees s.of a.0 a.1) (owned m x i) (λ h. in_and_none n.base m (subst (In n.base) h a) (fresh m (puts_in k m x i)))

        block_only : (c : Kept) (i : FaultKind) (n : ℕ) → f ≡ Fault c i n → Only olds p u (puts c)
        block_only c i m is =
            let n = b.warns in
            let g = n.goes in
            let whole = stop_then e c i m (subst (Follows (then_ended (R r) e)) is fo) in
            let k = whole.0 in
            let told = subst (λ z. Tells w deep first body inner v u.values.knows (bared z)) whole.1 block_told n.base g.names g.end g.meets g.ready in
            let words = subst (λ z. Rewrote p1.values.knows u.values.knows (puts (what z))) whole.1 l.words in
            subst (λ z. Only olds p u (puts z)) whole.2
            (only_before olds t p p1 u (read_made par node r) l.made (puts k) op.moves l.moves (raises_opened olds t p p1 (read_made par node r) op) (unread (Fault (bare k) i m) k told told.0.fresh words.owned) (subst (RaisesBy olds p1 u) whole.1 l.raises))

        block_behind : (c : Kept) → f ≡ Good c → Behind w olds rest env p u all_made c
        block_behind c is =
            let n = b.warns in
            let g = n.goes in
            let whole = good_then e c (subst (Follows (then_ended (R r) e)) is fo) in
            let k = whole.0 in
            let told = subst (λ z. Tells w deep first body inner v u.values.knows (bared z)) whole.1 block_told n.base g.names g.end g.meets g.ready in
            let all : l.made ≡ made_below (Some r.node) k = subst (AllMade (made_below (Some r.node)) u l.made) whole.1 l.all in
            let holds = subst (λ z. Holds z n.base (bare k)) n.ready.same (holding body inner n.base (bare k) Done (told.0.run n.base (λ m x h. h))) in
            let ru = subst (RaisesBy olds p1 u) whole.1 l.raises in
            subst (Behind w olds rest env p u all_made) whole.2
            (record {
              aged = n.aged;
              base = n.base;
              mid = n.mid;
              end = n.end;
              meets = n.meets;
              ready = seq_ready w room deep first rest env v (Block number reads body inner) u.values.knows block_kept n.base n.st n.mid n.end n.meets n.ready g.left g.within g.settles (rec.writes (bare k)) (inner_moved w room deep first rest env v n.st n.mid n.base body inner g u.values.knows (rec.writes (bare k)) told.1);
              begun = told.0.fresh;
              raised = raises_before olds t p p1 u (read_made par node r) l.made (puts k) op.moves l.moves (raises_opened olds t p p1 (read_made par node r) op) (unread (Good (bare k)) k told told.0.fresh ru.owned) ru;
              linked = λ s i. ⊎_elim
                  (λ (j : Member s (read_made par node r).links). in_back (rec.writes (bare k)) n.base s.of (read_linked n.base n.saw s j))
                  (λ (j : Member s l.made.links). links_in n.base k holds s (subst (λ (z : Made). Member s z.links) all j))
                  (member_cases s (read_made par node r).links l.made.links i);
              may = λ m o z. n.may m o (target_back n.st n.mid g.left n.end.unwritten env m g.settles g.within z);
            })

        pub begins_after_block : BeginsAfter w funcs olds t node f rest env u
        begins_after_block = pick e f fo l.room block_told (block_behind)
          where
            pick : (e f : Ended Kept) → Follows (then_ended (R r) e) f → RoomAfter u e → Tells w deep first body inner v u.values.knows (bared e) → ((c : Kept) → f ≡ Good c → Behind w olds rest env p u all_made c) → BeginsAfter w funcs olds t node f rest env u
            pick (Good k) (Good c) fo ro told past =
                record {
                  of = l.moves.of;
                  checked = b.checked;
                  room = ro;
                  tidy = l.moves.stays.tidy;
                  fit = l.moves.fit;
                  parent = keeps_on p1.marks.knows u.marks.knows l.made.nodes l.moves.nodes node kn;
                  needs = needs_block_on w room deep first rest env v number reads body inner u.values.knows (bare k) block_kept b.needs told;
                  warns = behind_warns w olds t rest env p u all_made c block_moves (past c refl);
                }
            pick (Fault k i n) (Good c) fo ro told past = absurd cc
            pick (Other k why) (Good c) fo ro told past = absurd cc
            pick e (Fault c i n) fo ro told past = tt
            pick e (Other c why) fo ro told past = tt

        module _ (room_is : levels - level ≡ room) where
          bare_here : (k : Kept) → bare (R r k) ≡ rec.R room number env reads (bare k)
          bare_here k = bare_is r began room_is k

          block_tells : (q : Pass) (o : Ended Kept) (e : Ended Kept) → Tells w deep first body inner v u.values.knows (bared e) → LeavesAfter w deep first olds t node (then_ended (R r) e) rest env u q o → TellsAct w room deep first (Block number reads body inner) rest env v q.values.knows (bared o)
          block_tells q o (Good k) told h =
              act_then w room deep first short (Block number reads body inner) rest env v q (S node (R r k)) (rec.S (bare (R r k))) h.0 o (λ z. refl) h.1.room h.2
              (subst (λ x. TellsAct w room deep first (Block number reads body inner) rest env v q.values.knows (then_ended (rec.S x) (bared h.0))) (sym (bare_here k))
              (tells_block_on w room deep first rest env v number reads body inner u.values.knows q.values.knows (bare k) (bared h.0) block_kept h.1.moves.stays told h.1.tells))
          block_tells q o (Fault k c n) told h =
              subst (λ z. TellsAct w room deep first (Block number reads body inner) rest env v q.values.knows (bared z)) (sym h.1)
              (subst (λ (z : Pass). TellsAct w room deep first (Block number reads body inner) rest env v z.values.knows (Fault (rec.S (bare (R r k)) rec.E) c n)) (sym h.0)
              (subst (λ x. TellsAct w room deep first (Block number reads body inner) rest env v u.values.knows (Fault (rec.S x rec.E) c n)) (sym (bare_here k))
              (tells_block_stop w room deep first rest env v number reads body inner u.values.knows (bare k) c n told)))
          block_tells q o (Other k why) told h =
              subst (λ z. TellsAct w room deep first (Block number reads body inner) rest env v q.values.knows (bared z)) (sym h.1)
              (subst (λ (z : Pass). TellsAct w room deep first (Block number reads body inner) rest env v z.values.knows (Other (rec.S (bare (R r k)) rec.E) why)) (sym h.0)
              (subst (λ x. TellsAct w room deep first (Block number reads body inner) rest env v u.values.knows (Other (rec.S x rec.E) why)) (sym (bare_here k))
              (tells_block_first w room deep first rest env v number reads body inner short u.values.knows (Other (bare k) why) (λ o. absurd cc) told why)))

          after_tells : (q : Pass) (o : Ended Kept) (f : Ended Kept) → Follows (then_ended (R r) e) f → LeavesAfter w deep first olds t node f rest env u q o → TellsAct w room deep first (Block number reads body inner) rest env v q.values.knows (bared o)
          after_tells q o (Good c) fo h = block_tells q o e block_told (subst (λ z. LeavesAfter w deep first olds t node z rest env u q o) (sym fo) h)
          after_tells q o (Fault c i n) fo h = block_tells q o e block_told (subst (λ z. LeavesAfter w deep first olds t node z rest env u q o) (sym fo) h)
          after_tells q o (Other c (Some why)) fo h = block_tells q o e block_told (subst (λ z. LeavesAfter w deep first olds t node z rest env u q o) (sym fo) h)
          after_tells q o (Other c None) fo h =
              let whole : TellsAct w room deep first (Block number reads body inner) rest env v u.values.knows (Other (rec.S (rec.R room number env reads (what (bared e))) rec.E) None) = tells_block_first w room deep first rest env v number reads body inner short u.values.knows (bared e) (whole_of u e l.room) block_told None in
              let is : rec.R room number env reads (what (bared e)) ≡ bare c = ap (rec.R room number env reads) (what_bared e) ∙ sym (bare_here (what e)) ∙ ap bare (sym (what_then (R r) e) ∙ fo) in
              subst (λ z. TellsAct w room deep first (Block number reads body inner) rest env v q.values.knows (bared z)) (sym h.1)
              (subst (λ (z : Pass). TellsAct w room deep first (Block number reads body inner) rest env v z.values.knows (Other (rec.S (bare c) rec.E) None)) (sym h.0)
              (subst (λ x. TellsAct w room deep first (Block number reads body inner) rest env v u.values.knows (Other (rec.S x rec.E) None)) is whole))

          block_looks : Looks (length reads) v u.values.knows (what f)
          block_looks = looks_follow (length reads) v u.values.knows (R r) e f fo (looks_block v u.values.knows r reads (what e) began.reads (looks_from v p1.values.knows u.values.knows (what e) op.same l.looks))

          pub leaves_block : (q : Pass) (o : Ended Kept) → LeavesAfter w deep first olds t node f rest env u q o → LeavesAct w room deep first olds t (Block number reads body inner) rest env par p q o
          leaves_block q o h = act_of at (Block number reads body inner) q o (does_after at node u f q o block_does h) (raises_after at node u all_made block_moves (calm_then olds p p1 u (λ z y. ap (times y) op.quiet) (calm_by olds p1 u l.moves.marks e l.raises)) f q o (block_only) (block_behind) h) (looks_after w deep first olds t node rest env (length reads) v u q f o block_looks h) (after_tells q o f fo h)

  -- par
  module _ (ls rs : List Stmt) (b : BeginsAct w funcs olds t (Sides ls rs) rest env par p) where
    pub leaves_no_par : (q : Pass) (node : Handle) (h : Halt) → HaltsFor t p q (nodes_only ((node, par) ∷ [])) h → LeavesAct w room deep first olds t (Sides ls rs) rest env par p q (halted (S node E E) h)
    leaves_no_par q node h x =
        act_of at (Sides ls rs) q (halted (S node E E) h)
        (does_want (made_below par) t p q (S node E E) (nodes_only ((node, par) ∷ [])) h refl refl refl refl x)
        (halt_raises olds t p q (nodes_only ((node, par) ∷ [])) (S node E E) h x)
        (halt_looks 0 t p q (nodes_only ((node, par) ∷ [])) (S node E E) h x (looks_none v v (S node E E) refl refl))
        (halt_tells_act w room deep first (Sides ls rs) rest env t p q (nodes_only ((node, par) ∷ [])) (S node E E) h b.room (λ base. bare_sides same_handle room deep first rest env base ls rs) x)

    module _ (s : Stepped at) where
      open s use {node, pass as p1, opens as op, keeps as kn}

      pub begins_par : BeginsAct w funcs olds t (Sides ls rs) rest env (Some node) p1
      begins_par = record { of = op.moves.of; checked = b.checked; room = op.room; tidy = op.moves.stays.tidy; fit = op.moves.fit; parent = kn; sights = tt; needs = subst (NeedsAct w (Sides ls rs) rest env) (sym op.same) b.needs; warns = warns_on olds t rest env p p1 (nodes_only ((node, par) ∷ [])) ls rs w op refl b.warns }

      module _ (u : Pass) (e : Ended Kept) (l : LeavesBoth w room deep first olds t ls rs rest env (Some node) p1 u e) where
        par_kept : Stays v u.values.knows
        par_kept = kept_then v p1.values.knows u.values.knows op.moves.stays l.moves.stays

        par_told : TellsBoth w room deep first ls rs rest env v u.values.knows (bared e)
        par_told = subst (λ z. TellsBoth w room deep first ls rs rest env z u.values.knows (bared e)) op.same l.tells

        par_does : Does (inside par node) t p u e
        par_does =
            record {
              made = followed (nodes_only ((node, par) ∷ [])) l.made;
              moves = moves_then t p p1 u (nodes_only ((node, par) ∷ [])) l.made op.moves l.moves;
              all = all_front (nodes_only ((node, par) ∷ [])) (made_below (Some node)) u l.made e l.all;
              room = l.room;
              full = full_before t p p1 u (nodes_only ((node, par) ∷ [])) e op.moves l.full;
              words = subst (λ z. Rewrote z u.values.knows (puts (what e))) op.same l.words;
            }

        abbrev par_made : Made
        par_made = followed (nodes_only ((node, par) ∷ [])) l.made

        par_moves : Moves t p u par_made
        par_moves = moves_then t p p1 u (nodes_only ((node, par) ∷ [])) l.made op.moves l.moves

        par_behind : (k : Kept) → e ≡ Good k → Behind w olds rest env p u par_made k
        par_behind k is =
            let n = b.warns in
            let g = n.goes in
            let told = subst (λ z. TellsBoth w room deep first ls rs rest env v u.values.knows (bared z)) is par_told n.base n.st n.mid n.end n.meets n.ready g in
            let all : l.made ≡ made_below (Some node) k = subst (AllMade (made_below (Some node)) u l.made) is l.all in
            let runs = told.3.run n.base (λ m x h. h) in
            let both : Holds w.same n.base (rec.P told.0 told.1) = (holding ls env n.base told.0 Done runs.0, holding rs env (rec.writes told.0 ++ n.base) told.1 Done runs.1) in
            let holds = subst (λ z. Holds z n.base (bare k)) n.ready.same (subst (Holds w.same n.base) told.2 both) in
            let within = both_within w room deep first rest env v ls rs n.st n.mid g in
            record {
              aged = n.aged;
              base = n.base;
              mid = n.mid;
              end = n.end;
              meets = n.meets;
              ready = subst (λ z. Ready w n.mid n.end.unwritten env u.values.knows (rec.writes z ++ n.base)) told.2
                  (seq_ready w room deep first rest env v (Sides ls rs) u.values.knows par_kept n.base n.st n.mid n.end n.meets n.ready (in_both g.one g.two) within g.settles (rec.writes told.1 ++ rec.writes told.0) told.4);
              begun = subst (λ z. Fresh (rec.writes z) n.base) told.2 told.3.fresh;
              raised = raises_before olds t p p1 u (nodes_only ((node, par) ∷ [])) l.made (puts k) op.moves l.moves (raises_opened olds t p p1 (nodes_only ((node, par) ∷ [])) op) (λ m x o i s j. absurd j) (subst (RaisesBy olds p1 u) is l.raises);
              linked = λ s i. links_in n.base k holds s (subst (λ (z : Made). Member s z.links) all i);
              may = λ m o z. n.may m o (target_back n.st n.mid (in_both g.one g.two) n.end.unwritten env m g.settles within z);
            }

        par_only : (k : Kept) (i : FaultKind) (n : ℕ) → e ≡ Fault k i n → Only olds p u (puts k)
        par_only k i n is =
            only_before olds t p p1 u (nodes_only ((node, par) ∷ [])) l.made (puts k) op.moves l.moves (raises_opened olds t p p1 (nodes_only ((node, par) ∷ [])) op) (λ m x o y s j. absurd j) (subst (RaisesBy olds p1 u) is l.raises)

        pub begins_after_par : BeginsAfter w funcs olds t node e rest env u
        begins_after_par = pick e l.room par_told par_behind
          where
            pick : (e : Ended Kept) → RoomAfter u e → TellsBoth w room deep first ls rs rest env v u.values.knows (bared e) → ((k : Kept) → e ≡ Good k → Behind w olds rest env p u par_made k) → BeginsAfter w funcs olds t node e rest env u
            pick (Good k) r told past =
                record {
                  of = l.moves.of;
                  checked = b.checked;
                  room = r;
                  tidy = l.moves.stays.tidy;
                  fit = l.moves.fit;
                  parent = keeps_on p1.marks.knows u.marks.knows l.made.nodes l.moves.nodes node kn;
                  needs = needs_par_on w room deep first rest env v ls rs u.values.knows (bare k) par_kept b.needs told;
                  warns = behind_warns w olds t rest env p u par_made k par_moves (past k refl);
                }
            pick (Fault k c n) r told past = tt
            pick (Other k why) r told past = tt

        pub leaves_par : (q : Pass) (o : Ended Kept) → LeavesAfter w deep first olds t node e rest env u q o → LeavesAct w room deep first olds t (Sides ls rs) rest env par p q o
        leaves_par q o h = act_of at (Sides ls rs) q o (does_after at node u e q o par_does h) (raises_after at node u par_made par_moves (calm_then olds p p1 u (λ z y. ap (times y) op.quiet) (calm_by olds p1 u l.moves.marks e l.raises)) e q o par_only par_behind h) (looks_after w deep first olds t node rest env 0 v u q e o (looks_from v p1.values.knows u.values.knows (what e) op.same l.looks) h) (pick e par_told h)
          where
            pick : (e : Ended Kept) → TellsBoth w room deep first ls rs rest env v u.values.knows (bared e) → LeavesAfter w deep first olds t node e rest env u q o → TellsAct w room deep first (Sides ls rs) rest env v q.values.knows (bared o)
            pick (Good k) told h =
                act_then w room deep first short (Sides ls rs) rest env v q (S node k) (rec.S (bare k)) h.0 o (λ z. refl) h.1.room h.2
                (tells_par_on w room deep first rest env v ls rs u.values.knows q.values.knows (bare k) (bared h.0) par_kept h.1.moves.stays told h.1.tells)
            pick (Fault k c n) told h =
                subst (λ z. TellsAct w room deep first (Sides ls rs) rest env v q.values.knows (bared z)) (sym h.1)
                (subst (λ (z : Pass). TellsAct w room deep first (Sides ls rs) rest env v z.values.knows (Fault (rec.S (bare k) rec.E) c n)) (sym h.0) (tells_par_stop w room deep first rest env v ls rs u.values.knows (bare k) c n told))
            pick (Other k why) told h =
                subst (λ z. TellsAct w room deep first (Sides ls rs) rest env v q.values.knows (bared z)) (sym h.1)
                (subst (λ (z : Pass). TellsAct w room deep first (Sides ls rs) rest env v z.values.knows (Other (rec.S (bare k) rec.E) why)) (sym h.0) (tells_par_cut w room deep first rest env v ls rs u.values.knows (bare k) why told))

-- both sides
module _ (at : Site) (ls rs : List Stmt) (b : BeginsAct at.w at.funcs at.olds at.t (Sides ls rs) at.rest at.env at.par at.p) where
  open at use {w, funcs, room, deep, first, none, short, holding, olds, t, rest, env, par, p}

  both_of : (q : Pass) (e : Ended Kept) → Does (made_below par) t p q e → RaisesBy olds p q e → Looks 0 p.values.knows q.values.knows (what e) → TellsBoth w room deep first ls rs rest env p.values.knows q.values.knows (bared e) → LeavesBoth w room deep first olds t ls rs rest env par p q e
  both_of q e d r l h = record { made = d.made; moves = d.moves; all = d.all; room = d.room; full = d.full; raises = r; words = d.words; looks = l; tells = h }

  pub leaves_no_sides : (q : Pass) (node : Handle) (h : Halt) → HaltsFor t p q (nodes_only ((node, par) ∷ [])) h → LeavesBoth w room deep first olds t ls rs rest env par p q (halted (P node E E) h)
  leaves_no_sides q node h x =
      both_of q (halted (P node E E) h)
      (does_want (made_below par) t p q (P node E E) (nodes_only ((node, par) ∷ [])) h refl refl refl refl x)
      (halt_raises olds t p q (nodes_only ((node, par) ∷ [])) (P node E E) h x)
      (halt_looks 0 t p q (nodes_only ((node, par) ∷ [])) (P node E E) h x (looks_none p.values.knows p.values.knows (P node E E) refl refl))
      (halt_tells h x)
    where
      begun : (why : Option Cause) → q.values.knows ≡ p.values.knows → TellsBoth w room deep first ls rs rest env p.values.knows q.values.knows (Other (rec.P rec.E rec.E) why)
      begun why e = both_begun w room deep first rest env p.values.knows ls rs none q.values.knows (ap (λ (z : ValueView). z.claims.over) e ∙ b.room.0) (λ m x s. subst (λ z. Sees z m x) (sym e) s) why

      halt_tells : (h : Halt) → HaltsFor t p q (nodes_only ((node, par) ∷ [])) h → TellsBoth w room deep first ls rs rest env p.values.knows q.values.knows (bared (halted (P node E E) h))
      halt_tells (halt.Fault _ _) x = absurd x
      halt_tells (halt.Full which at) x = begun (Some (record { which = which; index = at.index; room = at.room })) x.same
      halt_tells halt.NoMemory x = begun None x.same

  module _ (s : Stepped at) where
    open s use {node, pass as p1, opens as op, keeps as kn}

    abbrev one_node : Made
    one_node = nodes_only ((node, par) ∷ [])

    needs_here : NeedsAct w (Sides ls rs) rest env p1.values.knows
    needs_here = subst (NeedsAct w (Sides ls rs) rest env) (sym op.same) b.needs

    tidy_here : Tidy p1.values.knows
    tidy_here = op.moves.stays.tidy

    -- both sides, that were begun behind the node
    whole : (j : Pass) (made : Made) (one two o : Ended Kept) → Moves t p1 j made → RaisesBy olds p1 j (both_ended (P node) one two) → AllMade (made_below par) j (followed one_node made) (both_ended (P node) one two) → RoomAfter j (both_ended (P node) one two) → FullBy p1 j (both_ended (P node) one two) → Rewrote p1.values.knows j.values.knows (puts (what one) ++ puts (what two)) → Looks 0 p1.values.knows j.values.knows (P node (what one) (what two)) → TellsBoth w room deep first ls rs rest env p1.values.knows j.values.knows (both_ended rec.P (bared one) (bared two)) → Follows (both_ended (P node) one two) o → LeavesBoth w room deep first olds t ls rs rest env par p j o
    whole j made one two o mv ra all ro fu wo lo tells fo =
        let e = both_ended (P node) one two in
        let told : TellsBoth w room deep first ls rs rest env p1.values.knows j.values.knows (bared e) = subst (TellsBoth w room deep first ls rs rest env p1.values.knows j.values.knows) (sym (bared_both node one two)) tells in
        record {
          made = followed one_node made;
          moves = moves_then t p p1 j one_node made op.moves mv;
          all = all_follows (made_below par) j (followed one_node made) e o fo ro all;
          room = room_follows j e o fo ro;
          full = full_follows p j e o fo (full_before t p p1 j one_node e op.moves fu);
          raises = raises_follows olds p j (moves_then t p p1 j one_node made op.moves mv).marks e o fo (opened e ra);
          words = subst (λ z. Rewrote z j.values.knows (puts (what o))) op.same (subst (λ k. Rewrote p1.values.knows j.values.knows (puts k)) (sym (what_both node one two) ∙ same_what e o fo) wo);
          looks = looks_from p.values.knows p1.values.knows j.values.knows (what o) op.same (subst (Looks 0 p1.values.knows j.values.knows) (sym (what_both node one two) ∙ same_what e o fo) lo);
          tells = subst (λ z. TellsBoth w room deep first ls rs rest env z j.values.knows (bared o)) op.same (both_follows w room deep first rest env p1.values.knows ls rs short j.values.knows (bared e) (bared o) (whole_of j e ro) (follows_bared e o fo) told);
        }
      where
        opened : (e : Ended Kept) → RaisesBy olds p1 j e → RaisesBy olds p j e
        opened (Good k) r = raises_before olds t p p1 j one_node made (puts k) op.moves mv (raises_opened olds t p p1 one_node op) (λ m x y i s n. absurd n) r
        opened (Fault k i n) r = only_before olds t p p1 j one_node made (puts k) op.moves mv (raises_opened olds t p p1 one_node op) (λ m x y i s n. absurd n) r
        opened (Other k why) r = calm_then olds p p1 j (λ z y. ap (times y) op.quiet) r

    warns_here : WarnsAct w olds (Sides ls rs) rest env p1
    warns_here = warns_on olds t rest env p p1 one_node ls rs w op refl b.warns

    first_warns : Warns w olds ls env p1
    first_warns =
        let n = warns_here in
        let g = n.goes in
        let e = left_end w room deep first rest env p1.values.knows ls rs n.st n.mid g in
        record {
          aged = n.aged;
          base = n.base;
          st = n.st;
          end = e.0;
          meets = e.1;
          ready = subst (λ z. Ready w n.st z env p1.values.knows n.base) (sym e.2) (first_ready w room deep first rest env p1.values.knows ls rs n.base n.st n.mid n.end n.meets n.ready g);
          may = λ m o z.
              let y = subst (λ x. Target n.st x env m) e.2 z in
              n.may m o (target_narrow n.st (in_both g.one g.two) n.end.unwritten env m (narrow rest n.st n.mid n.end (in_both g.one g.two) g.settles n.meets) (y.0, y.1, not_true (has y.0 (in_both g.one g.two)) (λ j. not_both (has_both y.0 g.one g.two j).0 y.2), y.3));
        }

    -- on one pass
    pub begins_first : Begins w funcs olds t ls env (Some node) p1
    begins_first = record { of = op.moves.of; checked = b.checked; room = op.room; tidy = tidy_here; fit = op.moves.fit; parent = kn; needs = needs_first w room deep first rest env p1.values.knows ls rs needs_here; warns = first_warns }

    left_words : (u : Pass) (k : Kept) → Rewrote p1.values.knows u.values.knows (puts k) → Rewrote p.values.knows u.values.knows (puts (P node k E))
    left_words u k w = subst (λ z. Rewrote z u.values.knows (puts (P node k E))) op.same (subst (Rewrote p1.values.knows u.values.knows) (sym (append_none (puts k))) w)

    pub leaves_out : (u : Pass) (k : Kept) (r : Result Record Halt) → is_other (ended_of k r) ≡ true → Leaves w deep first olds t ls env (Some node) p1 u (ended_of k r) → LeavesBoth w room deep first olds t ls rs rest env par p u (ended_of (P node k E) r)
    leaves_out u k (Ok r) h l = absurd cc
    leaves_out u k (Err (halt.Fault _ _)) h l = absurd cc
    leaves_out u k (Err (halt.Full which at)) h l =
        record {
          made = followed one_node l.made;
          moves = moves_then t p p1 u one_node l.made op.moves l.moves;
          all = subst (NoMore u (followed one_node l.made)) (side_made par node k) (most_front u one_node l.made (made_below (Some node) k) l.all);
          room = tt;
          full = full_then t p p1 u one_node (record { which = which; index = at.index; room = at.room }) op.moves l.full;
          raises = calm_then olds p p1 u (λ e y. ap (times y) op.quiet) l.raises;
          words = left_words u k l.words;
          looks = looks_from p.values.knows p1.values.knows u.values.knows (P node k E) op.same (looks_left p1.values.knows u.values.knows node k l.looks);
          tells = subst (λ z. TellsBoth w room deep first ls rs rest env z u.values.knows (Other (rec.P (bare k) rec.E) (Some (record { which = which; index = at.index; room = at.room })))) op.same (tells_left_out w room deep first rest env p1.values.knows ls rs tidy_here u.values.knows l.moves.stays none (bare k) (Some (record { which = which; index = at.index; room = at.room })) l.tells);
        }
    leaves_out u k (Err halt.NoMemory) h l =
        record {
          made = followed one_node l.made;
          moves = moves_then t p p1 u one_node l.made op.moves l.moves;
          all = subst (NoMore u (followed one_node l.made)) (side_made par node k) (most_front u one_node l.made (made_below (Some node) k) l.all);
          room = tt;
          full = tt;
          raises = calm_then olds p p1 u (λ e y. ap (times y) op.quiet) l.raises;
          words = left_words u k l.words;
          looks = looks_from p.values.knows p1.values.knows u.values.knows (P node k E) op.same (looks_left p1.values.knows u.values.knows node k l.looks);
          tells = subst (λ z. TellsBoth w room deep first ls rs rest env z u.values.knows (Other (rec.P (bare k) rec.E) None)) op.same (tells_left_out w room deep first rest env p1.values.knows ls rs tidy_here u.values.knows l.moves.stays none (bare k) None l.tells);
        }

    module _ (u : Pass) (one : Ended Kept) (h : is_other one ≡ false) (l : Leaves w deep first olds t ls env (Some node) p1 u one) where
      room_first : (e : Ended Kept) → is_other e ≡ false → RoomAfter u e → HasRoom u
      room_first (Good k) o r = r
      room_first (Fault k c d) o r = r
      room_first (Other k why) o r = absurd cc

      -- behind the left side, where that is done
      second_behind : (k : Kept) → one ≡ Good k → Behind w olds rs env p1 u l.made k
      second_behind k is =
          let n = warns_here in
          let g = n.goes in
          let v = p1.values.knows in
          let told = first_told w room deep first rest env v ls rs tidy_here u.values.knows l.moves.stays (bared one) l.tells n.base n.st n.mid n.end n.meets n.ready g in
          let here : Told deep first ls n.st g.one env v u.values.knows n.base (Good (bare k)) = subst (λ z. Told deep first ls n.st g.one env v u.values.knows n.base (bared z)) is told in
          let e = right_end w room deep first rest env v ls rs n.st n.mid g in
          let all : l.made ≡ made_below (Some node) k = subst (AllMade (made_below (Some node)) u l.made) is l.all in
          let holds = subst (λ z. Holds z n.base (bare k)) n.ready.same (holding ls env n.base (bare k) Done (here.0.run n.base (λ m x h. h))) in
          record {
            aged = n.aged;
            base = n.base;
            mid = n.st;
            end = e.0;
            meets = e.1;
            ready = subst (λ z. Ready w n.st z env u.values.knows (rec.writes (bare k) ++ n.base)) (sym e.2) (second_ready w room deep first rest env v ls rs tidy_here u.values.knows l.moves.stays n.base n.st n.mid n.end n.meets n.ready g (rec.writes (bare k)) here.1);
            begun = here.0.fresh;
            raised = subst (RaisesBy olds p1 u) is l.raises;
            linked = λ s i. links_in n.base k holds s (subst (λ (z : Made). Member s z.links) all i);
            may = λ m o z.
                let y = subst (λ x. Target n.st x env m) e.2 z in
                n.may m o (target_narrow n.st (in_both g.one g.two) n.end.unwritten env m (narrow rest n.st n.mid n.end (in_both g.one g.two) g.settles n.meets) (y.0, y.1, not_true (has y.0 (in_both g.one g.two)) (λ j. not_both (has_both y.0 g.one g.two j).1 y.2), y.3));
          }

      second_warns : (e : Ended Kept) → ((k : Kept) → e ≡ Good k → Behind w olds rs env p1 u l.made k) → Needs w rs env u.values.knows → Warns w (olds_after olds e) rs env u
      second_warns (Good k) past n = behind_warns w olds t rs env p1 u l.made k l.moves (past k refl)
      second_warns (Fault k i c) past n = warns_of_none w rs env u n
      second_warns (Other k why) past n = warns_of_none w rs env u n

      second_needs : Needs w rs env u.values.knows
      second_needs = needs_second w room deep first rest env p1.values.knows ls rs tidy_here u.values.knows l.moves.stays (bared one) (other_bared one ∙ h) needs_here l.tells

      pub begins_second : Begins w funcs (olds_after olds one) t rs env (Some node) u
      begins_second =
          record {
            of = l.moves.of;
            checked = b.checked;
            room = room_first one h l.room;
            tidy = l.moves.stays.tidy;
            fit = l.moves.fit;
            parent = keeps_on p1.marks.knows u.marks.knows l.made.nodes l.moves.nodes node kn;
            needs = second_needs;
            warns = second_warns one second_behind second_needs;
          }

      second_raises : (e two : Ended Kept) (j : Pass) (more : Made) → Moves t u j more → Calm olds p1 u → ((k : Kept) → e ≡ Good k → Behind w olds rs env p1 u l.made k) → RaisesBy olds p1 u e → RaisesBy (olds_after olds e) u j two → Rewrote u.values.knows j.values.knows (puts (what two)) → Tells w deep first rs env u.values.knows j.values.knows (bared two) → RaisesBy olds p1 j (both_ended (P node) e two)
      second_raises (Good k) two j more mv calm past ra r words tells = subst (RaisesBy olds p1 j) (both_good node k two) (behind_raises w olds t rs env p1 u l.made k l.moves (past k refl) deep first (P node k) (λ z. refl) j more mv two r words tells)
      second_raises (Fault k i c) (Good b) j more mv calm past ra r words tells = only_calm olds p1 u j (puts k) (puts b) ra (calm_by [] u j mv.marks (Good b) r refl)
      second_raises (Fault k i c) (Fault b d f) j more mv calm past ra r words tells = only_calm olds p1 u j (puts k) (puts b) ra (calm_by [] u j mv.marks (Fault b d f) r refl)
      second_raises (Fault k i c) (Other b why) j more mv calm past ra r words tells = λ e y. calm_by [] u j mv.marks (Other b why) r refl y ∙ calm e y
      second_raises (Other k why) two j more mv calm past ra r words tells = λ e y. calm_by [] u j mv.marks two r refl y ∙ calm e y

      pub leaves_second : (j : Pass) (two o : Ended Kept) → Leaves w deep first (olds_after olds one) t rs env (Some node) u j two → Follows (both_ended (P node) one two) o → LeavesBoth w room deep first olds t ls rs rest env par p j o
      leaves_second j two o m fo =
          let hr = room_first one h l.room in
          whole j (followed l.made m.made) one two o
          (moves_then t p1 u j l.made m.made l.moves m.moves)
          (second_raises one two j m.made m.moves (calm_by olds p1 u l.moves.marks one l.raises) second_behind l.raises m.raises m.words m.tells)
          (all_both (made_below (Some node)) u j j l.made m.made (P node) (made_below par) one_node (sides_made par node) (λ c. omega arith) one two l.room m.room l.all m.all)
          (room_both j u j (P node) (λ x y. y) one two l.room m.room)
          (full_both p1 j p1 u u j (P node) (λ c f. full_more t p1 u j m.made c m.moves f) (λ c f. full_then t p1 u j l.made c l.moves f) one two l.full m.full)
          (rewrote_then p1.values.knows u.values.knows j.values.knows (puts (what one)) (puts (what two)) l.moves.stays m.moves.stays l.words m.words)
          (looks_sides p1.values.knows u.values.knows j.values.knows node (what one) (what two) l.looks m.looks)
          (tells_second w room deep first rest env p1.values.knows ls rs tidy_here u.values.knows l.moves.stays j.values.knows m.moves.stays (bared one) (bared two) (other_bared one ∙ h) l.tells m.tells)
          fo

    -- on two
    module _ (l k : Pass) (of : IsOf l t × IsOf k t)
        (lv : l.values.knows ≡ left_of (neither ls rs env) (writes_slot rs env) p1.values.knows)
        (kv : k.values.knows ≡ right_of (neither ls rs env) (writes_slot rs env) p1.values.knows)
        (lr : l.readers.knows ≡ readers.left_of (sets_shared ls rs env p1.values.knows) (writes_slot rs env) (λ x. false) p1.readers.knows)
        (kr : k.readers.knows ≡ readers.right_of (sets_shared ls rs env p1.values.knows) (writes_slot rs env) (λ x. false) p1.readers.knows)
        (lm : l.marks.knows ≡ marks.left_of (both_have p1.marks.knows) (λ x. false) p1.marks.knows)
        (km : k.marks.knows ≡ marks.right_of (both_have p1.marks.knows) (λ x. false) p1.marks.knows) where
      pub begins_left : Begins w funcs olds t ls env (Some node) l
      begins_left =
          record {
            of = of.0;
            checked = b.checked;
            room = room_left t p1 l k ls rs env op.moves.fit lv kv lr kr lm km op.room;
            tidy = subst Tidy (sym lv) (left_tidy (neither ls rs env) (writes_slot rs env) p1.values.knows tidy_here);
            fit = fit_left t p1 l k ls rs env op.moves.fit lv kv lr kr lm km;
            parent = parent_left t p1 l k ls rs env op.moves.fit lv kv lr kr lm km node kn;
            needs = subst (Needs w ls env) (sym lv) (needs_left w room deep first rest env p1.values.knows ls rs tidy_here needs_here);
            warns = warns_left w olds p1 l k ls rs rest env op.moves.fit.nodes tidy_here warns_here.aged lv kv lr kr lm km warns_here;
          }

      pub begins_right : Begins w funcs olds t rs env (Some node) k
      begins_right =
          record {
            of = of.1;
            checked = b.checked;
            room = room_right t p1 l k ls rs env op.moves.fit lv kv lr kr lm km;
            tidy = subst Tidy (sym kv) (right_tidy (neither ls rs env) (writes_slot rs env) p1.values.knows tidy_here);
            fit = fit_right t p1 l k ls rs env op.moves.fit lv kv lr kr lm km;
            parent = parent_right t p1 l k ls rs env op.moves.fit lv kv lr kr lm km node kn;
            needs = subst (Needs w rs env) (sym kv) (needs_right w room deep first rest env p1.values.knows ls rs tidy_here needs_here);
            warns = warns_right w olds p1 l k ls rs rest env op.moves.fit.nodes tidy_here warns_here.aged lv kv lr kr lm km warns_here;
          }

      module _ (l' k' : Pass) (one two : Ended Kept) (ll : Leaves w deep first olds t ls env (Some node) l l' one) (lk : Leaves w deep first olds t rs env (Some node) k k' two) where
        pub join_of : IsOf l' t × IsOf k' t
        join_of = (ll.moves.of, lk.moves.of)

        pub join_sides : (c : List Bool) × (l'.values.knows.claims.branch ≡ c ++ false ∷ []) × (k'.values.knows.claims.branch ≡ c ++ true ∷ [])
        join_sides = (p1.values.knows.claims.branch, ll.moves.stays.branch ∙ ap (λ (z : ValueView). z.claims.branch) lv, lk.moves.stays.branch ∙ ap (λ (z : ValueView). z.claims.branch) kv)

        pub leaves_joined : (j : Pass) → IsOf j t → j.values.knows ≡ joined l'.values.knows k'.values.knows → United l'.values.knows k'.values.knows j.values.knows → j.readers.knows ≡ readers.joined l'.readers.knows k'.readers.knows → ((i : ℕ) → sum_by (named i) j.readers.knows.links ≤ 1) → j.marks.knows ≡ marks.joined l'.marks.knows k'.marks.knows → UnitedNodes l'.marks.knows k'.marks.knows j.marks.knows → (o : Ended Kept) → Follows (both_ended (P node) one two) o → LeavesBoth w room deep first olds t ls rs rest env par p j o
        leaves_joined j ofj jv un jr one_each jm unm o fo =
            let over = over_joined t p1 l k ls rs env op.moves.fit lv kv lr kr lm km l' k' j ll.made lk.made ll.moves lk.moves ofj tidy_here jv un jr one_each jm unm in
            let kl = subst (λ z. Stays z l'.values.knows) lv ll.moves.stays in
            let kk = subst (λ z. Stays z k'.values.knows) kv lk.moves.stays in
            whole j (followed ll.made lk.made) one two o
            (moves_joined t p1 l k ls rs env op.moves.fit lv kv lr kr lm km l' k' j ll.made lk.made ll.moves lk.moves ofj tidy_here jv un jr one_each jm unm)
            (raises one two ll.raises lk.raises ll.words lk.words)
            (all_both (made_below (Some node)) l' k' j ll.made lk.made (P node) (made_below par) one_node (sides_made par node) (λ c. let o = over c in omega (arith, o)) one two ll.room lk.room ll.all lk.all)
            (room_both j l' k' (P node) (λ x y. room_from j (λ c. over c ∙ ap (λ n. n + (claims_in c k').over) (room_over l' x c) ∙ ap (λ n. 0 + n) (room_over k' y c))) one two ll.room lk.room)
            (full_both p1 j l l' k k' (P node) (full_left t p1 l k ls rs env op.moves.fit lv kv lr kr lm km l' k' j ll.made lk.made ll.moves lk.moves ofj tidy_here jv un jr one_each jm unm) (full_right t p1 l k ls rs env op.moves.fit lv kv lr kr lm km l' k' j ll.made lk.made ll.moves lk.moves ofj tidy_here jv un jr one_each jm unm) one two ll.full lk.full)
            (rewrote_joined (neither ls rs env) (writes_slot rs env) p1.values.knows tidy_here l'.values.knows k'.values.knows j.values.knows kl kk jv un (puts (what one)) (puts (what two)) (subst (λ z. Rewrote z l'.values.knows (puts (what one))) lv ll.words) (subst (λ z. Rewrote z k'.values.knows (puts (what two))) kv lk.words))
            (looks_joined p1.values.knows l.values.knows l'.values.knows k.values.knows k'.values.knows j.values.knows node (what one) (what two) (ap (λ (z : ValueView). z.looks) lv) (ap (λ (z : ValueView). z.looks) kv) (ap (λ (z : ValueView). z.looks) jv) ll.looks lk.looks)
            (tells_forked w room deep first rest env p1.values.knows ls rs tidy_here l'.values.knows k'.values.knows j.values.knows kl kk jv un short (bared one) (bared two) (whole_of l' one ll.room) (whole_of k' two lk.room) (subst (λ z. Tells w deep first ls env z l'.values.knows (bared one)) lv ll.tells) (subst (λ z. Tells w deep first rs env z k'.values.knows (bared two)) kv lk.tells))
            fo
          where
            sides_calm : Calm olds l l' → Calm olds k k' → Calm olds p1 j
            sides_calm x y = calm_joined w olds p1 l k ls rs rest env op.moves.fit.nodes tidy_here warns_here.aged lv kv lr kr lm km l' k' j jm x y

            only : (a c : Kept) → Only olds l l' (puts a) → Only olds k k' (puts c) → Rewrote l.values.knows l'.values.knows (puts a) → Rewrote k.values.knows k'.values.knows (puts c) → Only olds p1 j (puts a ++ puts c)
            only a c x y wl wk = only_joined w olds p1 l k ls rs rest env op.moves.fit.nodes tidy_here warns_here.aged lv kv lr kr lm km l' k' j ll.moves.stays lk.moves.stays jv un jm (puts a) (puts c) wl.owned wk.owned x y

            raises : (e f : Ended Kept) → RaisesBy olds l l' e → RaisesBy olds k k' f → Rewrote l.values.knows l'.values.knows (puts (what e)) → Rewrote k.values.knows k'.values.knows (puts (what f)) → RaisesBy olds p1 j (both_ended (P node) e f)
            raises (Good a) (Good c) x y wl wk = raises_joined w olds p1 l k ls rs rest env op.moves.fit.nodes tidy_here warns_here.aged lv kv lr kr lm km l' k' j ll.moves.stays lk.moves.stays jv un jm (puts a) (puts c) x y
            raises (Good a) (Fault c i n) x y wl wk = only a c x.only y wl wk
            raises (Good a) (Other c why) x y wl wk = sides_calm (calm_by olds l l' ll.moves.marks (Good a) x) (calm_by olds k k' lk.moves.marks (Other c why) y)
            raises (Fault a i n) (Good c) x y wl wk = only a c x y.only wl wk
            raises (Fault a i n) (Fault c d f) x y wl wk = only a c x y wl wk
            raises (Fault a i n) (Other c why) x y wl wk = sides_calm (calm_by olds l l' ll.moves.marks (Fault a i n) x) (calm_by olds k k' lk.moves.marks (Other c why) y)
            raises (Other a why) f x y wl wk = sides_calm (calm_by olds l l' ll.moves.marks (Other a why) x) (calm_by olds k k' lk.moves.marks f y)

-- a body
module _ (g : World) (env : Env Handle) (par : Option Handle) (p : Pass) where
  abbrev w : Setting Handle
  w = setting_of g

  abbrev funcs : List Func
  funcs = g.funcs.now

  abbrev olds : List Handle
  olds = g.olds.now

  abbrev t : Tables
  t = g.tables.now

  pub leaves_end : (room : ℕ) (body : List Stmt) (k : Kept) → length body < 1 → k ≡ E → Begins w funcs olds t body env par p → Leaves w (traced w funcs room) (cut_short w funcs room) olds t body env par p p (Good k)
  leaves_end room [] k h e b =
      subst (λ z. Leaves w (traced w funcs room) (cut_short w funcs room) olds t [] env par p p (Good z)) (sym e)
      (record { made = nothing; moves = moves_none t p b.of b.tidy b.fit; all = refl; room = b.room; full = tt; raises = raises_none olds p p refl (λ m us k. k); words = rewrote_none p.values.knows; looks = looks_none p.values.knows p.values.knows E refl refl; tells = tells_end w funcs room (cut_short w funcs room) env p.values.knows })
  leaves_end room (s ∷ rest) k h e b = absurd (omega arith)

  body_splits : (body : List Stmt) (s : Stmt) → 1 ≤ length body → s ≡ get_or body 0 s → s ∷ drop 1 body ≡ body
  body_splits [] s h e = absurd (omega arith)
  body_splits (x ∷ rest) s h e = ap (λ u. u ∷ rest) e

  rest_is : (body : List Stmt) → take (length body - 1) (drop 1 body) ≡ drop 1 body
  rest_is [] = refl
  rest_is (s ∷ rest) =
      let n_is : length (s ∷ rest) - 1 ≡ length rest = omega arith in
      rw n_is (take-length rest)

  pub whole_is : (body : List Stmt) (s : Stmt) → 1 ≤ length body → s ≡ get_or body 0 s → s ∷ take (length body - 1) (drop 1 body) ≡ body
  whole_is body s h e = ap (λ b. s ∷ b) (rest_is body) ∙ body_splits body s h e

  pub leaves_deep : (room : ℕ) (body : List Stmt) (s : Stmt) (rest : List Stmt) (n : ℕ) → s ∷ rest ≡ body → room ≡ 0 → n ≡ line_of (out-Stmt s) → Begins w funcs olds t body env par p → Leaves w (traced w funcs room) (cut_short w funcs room) olds t body env par p p (Fault E TooDeep n)
  leaves_deep room body s rest n is z l b =
      record {
        made = nothing;
        moves = moves_none t p b.of b.tidy b.fit;
        all = refl;
        room = b.room;
        full = tt;
        raises = only_none olds p p [] (λ y. refl);
        words = rewrote_none p.values.knows;
        looks = looks_none p.values.knows p.values.knows E refl refl;
        tells = subst (λ k. Tells w (traced w funcs k) (cut_short w funcs k) body env p.values.knows p.values.knows (Fault rec.E TooDeep n)) (sym z)
            (subst (λ x. Tells w (traced w funcs 0) (cut_short w funcs 0) x env p.values.knows p.values.knows (Fault rec.E TooDeep n)) is
            (subst (λ x. Tells w (traced w funcs 0) (cut_short w funcs 0) (s ∷ rest) env p.values.knows p.values.knows (Fault rec.E TooDeep x)) (sym l) (tells_deep w funcs (cut_short w funcs 0) s rest env p.values.knows)));
      }

  module _ (body : List Stmt) (s : Stmt) (rest : List Stmt) (is : s ∷ rest ≡ body) (b : Begins w funcs olds t body env par p) where
    whole_needs : Needs w (s ∷ rest) env p.values.knows
    whole_needs = subst (λ x. Needs w x env p.values.knows) (sym is) b.needs

    pub asks : (heap : Heap) × Readable w env p.values.knows heap (out-Stmt s)
    asks = needs_readable w funcs b.checked s rest env p.values.knows p.values.knows (p.values.knows.looks, refl) whole_needs

    module _ (p' : Pass) (be : BesideValues p p') (l : Looked p.values.knows p'.values.knows) where
      asked_moves : Moves t p p' nothing
      asked_moves = moves_looked t p p' b.of b.tidy b.fit be l

      asked_room : HasRoom p'
      asked_room = values_room t p p' b.of b.tidy b.fit be b.room (ap (λ (z : ValueView). z.claims.over) l.1 ∙ b.room.0)

      leaves_wanting : (room : ℕ) → p'.values.knows.looks ≡ p.values.knows.looks → Leaves w (traced w funcs room) (cut_short w funcs room) olds t body env par p p' (Other E None)
      leaves_wanting room un =
          record {
            made = nothing;
            moves = asked_moves;
            all = most_is p' asked_room nothing (made_below par E) refl;
            room = tt;
            full = tt;
            raises = λ e y. ap (λ z. times y z.knows.marked) be.marks;
            words = rewrote_looked p.values.knows p'.values.knows l;
            looks = looks_none p.values.knows p'.values.knows E un refl;
            tells = λ base st end m r. (subst (CutOn same_handle (cut_short w funcs room) body env base rec.E) (sym asked_room.0) (cut_on_none same_handle w funcs room body env base), λ n x e. sees_looked p.values.knows p'.values.knows n x l (r.sees n x e));
          }

      leaves_fault : (room : ℕ) (k : FaultKind) (n : ℕ) → p'.values.knows.looks ≡ p.values.knows.looks → 0 < room → n ≡ line_of (out-Stmt s) → ((heap : Heap) → Readable w env p.values.knows heap (out-Stmt s) → action_of (listed w) w funcs env heap (out-Stmt s) ≡ Err k) → Leaves w (traced w funcs room) (cut_short w funcs room) olds t body env par p p' (Fault E k n)
      leaves_fault room k n un h li asked =
          record {
            made = nothing;
            moves = asked_moves;
            all = refl;
            room = asked_room;
            full = tt;
            raises = only_none olds p p' [] (λ y. ap (λ z. times y z.knows.marked) be.marks);
            words = rewrote_looked p.values.knows p'.values.knows l;
            looks = looks_none p.values.knows p'.values.knows E un refl;
            tells = subst (λ z. Tells w (traced w funcs z) (cut_short w funcs z) body env p.values.knows p'.values.knows (Fault rec.E k n)) (suc_less room h)
                (subst (λ x. Tells w (traced w funcs (suc (room - 1))) (cut_short w funcs (suc (room - 1))) x env p.values.knows p'.values.knows (Fault rec.E k n)) is
                (subst (λ x. Tells w (traced w funcs (suc (room - 1))) (cut_short w funcs (suc (room - 1))) (s ∷ rest) env p.values.knows p'.values.knows (Fault rec.E k x)) (sym li) (tells_fault w funcs b.checked s rest env p.values.knows p'.values.knows l (room - 1) k asked)));
          }

      pub leaves_stop : (room : ℕ) (h : Stopped) (n : ℕ) (e : Ended Kept) → p'.values.knows.looks ≡ p.values.knows.looks → 0 < room → n ≡ line_of (out-Stmt s) → ((heap : Heap) → Readable w env p.values.knows heap (out-Stmt s) → Halts h (action_of (listed w) w funcs env heap (out-Stmt s))) → e ≡ stop_ended h n → Leaves w (traced w funcs room) (cut_short w funcs room) olds t body env par p p' e
      leaves_stop room (stop_kind.Fault k) n e un h li asked is = subst (Leaves w (traced w funcs room) (cut_short w funcs room) olds t body env par p p') (sym is) (leaves_fault room k n un h li asked)
      leaves_stop room stop_kind.NoMemory n e un h li asked is = subst (Leaves w (traced w funcs room) (cut_short w funcs room) olds t body env par p p') (sym is) (leaves_wanting room un)

      module _ (a : Action Handle) (asked : (heap : Heap) → Readable w env p.values.knows heap (out-Stmt s) → action_of (listed w) w funcs env heap (out-Stmt s) ≡ Ok a) where
        asked_warns : WarnsAct w olds a rest env p'
        asked_warns =
            let n = subst (λ x. Warns w olds x env p) (sym is) b.warns in
            let c = steps s rest n.st n.end n.meets in
            record {
              aged = aged_on olds t p p' nothing asked_moves n.aged;
              base = n.base;
              st = n.st;
              mid = c.mid;
              end = n.end;
              meets = c.rest;
              ready = ready_looked w n.st n.end.unwritten env p.values.knows p'.values.knows n.base l n.ready;
              goes = goes_at w funcs b.checked s rest env p.values.knows p'.values.knows l a asked n.base n.st n.end n.meets n.ready;
              saw = saw_at w funcs env n.base s a n.ready.same (asked n.base (readable w funcs b.checked s rest env p.values.knows p'.values.knows l n.base n.st n.end n.meets n.ready n.base (λ m x e. e)));
              may = λ m o z. raisable_on t p p' nothing asked_moves m (λ y i. absurd i) (λ us k. subst (λ y. Knows y m us) (sym l.1) k) (n.may m o z);
            }

        pub begins_act : BeginsAct w funcs olds t a rest env par p'
        begins_act =
            record {
              of = asked_moves.of;
              checked = b.checked;
              room = asked_room;
              tidy = asked_moves.stays.tidy;
              fit = asked_moves.fit;
              parent = subst (λ z. ParentKept par z.knows) (sym be.marks) b.parent;
              sights = sights_act w funcs b.checked s rest env p.values.knows p'.values.knows l a asked whole_needs;
              needs = needs_act w funcs b.checked s rest env p.values.knows p'.values.knows l a asked whole_needs;
              warns = asked_warns;
            }

        pub leaves_act : (room : ℕ) (q : Pass) (e : Ended Kept) → p'.values.knows.looks ≡ p.values.knows.looks + looks_for a → 0 < room → LeavesAct w (room - 1) (traced w funcs (room - 1)) (cut_short w funcs (room - 1)) olds t a rest env par p' q e → Leaves w (traced w funcs room) (cut_short w funcs room) olds t body env par p q e
        leaves_act room q e saw h k =
            record {
              made = k.made;
              moves = moves_then t p p' q nothing k.made asked_moves k.moves;
              all = k.all;
              room = k.room;
              full = full_before t p p' q nothing e asked_moves k.full;
              raises = looked_raises e k.raises;
              words = rewrote_then p.values.knows p'.values.knows q.values.knows [] (puts (what e)) asked_moves.stays k.moves.stays (rewrote_looked p.values.knows p'.values.knows l) k.words;
              looks = looks_whole (looks_for a) p.values.knows p'.values.knows q.values.knows (what e) saw k.looks;
              tells = subst (λ z. Tells w (traced w funcs z) (cut_short w funcs z) body env p.values.knows q.values.knows (bared e)) (suc_less room h)
                  (subst (λ x. Tells w (traced w funcs (suc (room - 1))) (cut_short w funcs (suc (room - 1))) x env p.values.knows q.values.knows (bared e)) is
                  (tells_act w funcs b.checked s rest env p.values.knows p'.values.knows l a asked (room - 1) q.values.knows (bared e) k.tells));
            }
          where
            looked_raises : (e : Ended Kept) → RaisesBy olds p' q e → RaisesBy olds p q e
            looked_raises (Good c) r = raises_before olds t p p' q nothing k.made (puts c) asked_moves k.moves (raises_looked olds p p' be l) (λ m x o i y j. absurd j) r
            looked_raises (Fault c i n) r = only_before olds t p p' q nothing k.made (puts c) asked_moves k.moves (raises_looked olds p p' be l) (λ m x o i y j. absurd j) r
            looked_raises (Other c why) r = calm_then olds p p' q (λ e y. ap (λ z. times y z.knows.marked) be.marks) r

  -- the same, with what tells the pass in between first
  pub leaves_act_on : (p' q : Pass) (e : Ended Kept) (level : ℕ) (body : List Stmt) (s : Stmt) (rest : List Stmt) (a : Action Handle) → LeavesActIn g (level + 1) a rest env par p' q e → s ∷ rest ≡ body → BeginsIn g body env par p → BesideValues p p' → Looked p.values.knows p'.values.knows → p'.values.knows.looks ≡ p.values.knows.looks + looks_for a → ((heap : Heap) → Readable w env p.values.knows heap (out-Stmt s) → action_of (listed w) w funcs env heap (out-Stmt s) ≡ Ok a) → level < levels → LeavesIn g level body env par p q e
  leaves_act_on p' q e level body s rest a k is b be l saw asked h =
      let next : levels - (level + 1) ≡ levels - level - 1 = omega arith in
      leaves_act body s rest is b p' be l a asked (levels - level) q e saw (omega (arith, h)) (subst (λ z. LeavesAct w z (traced w funcs z) (cut_short w funcs z) olds t a rest env par p' q e) next k)

-- the same, with what tells the pass in between first
pub leaves_make_on : (at : Site) (a : Action Handle) (p' q : Pass) (e f : Ended Kept) (d : ℕ) (m : Handle) (inner : Env Handle) → Leaves at.w at.deep at.first at.olds at.t at.rest inner at.par p' q e → BeginsAct at.w at.funcs at.olds at.t a at.rest at.env at.par at.p → BesideValues at.p p' → Claims at.p.values.knows m p'.values.knows → Lacks at.p.values.knows m.slot → p'.values.knows.claims.over ≡ 0 → a ≡ Make d → inner ≡ bind d (ref m) at.env → Follows (then_ended (A m) e) f → LeavesAct at.w at.room at.deep at.first at.olds at.t a at.rest at.env at.par at.p q f
leaves_make_on at a p' q e f d m inner k b be c l o is env_is h = leaves_make at a d m p' b be c l o inner is env_is q e f k h

pub leaves_put_on : (at : Site) (a : Action Handle) (p1 p' q : Pass) (e f : Ended Kept) (m : Handle) (x : Plain) (ws : List ℕ) → Leaves at.w at.deep at.first at.olds at.t at.rest at.env at.par p' q e → BeginsAct at.w at.funcs at.olds at.t a at.rest at.env at.par at.p → a ≡ Put m (plain_value x) → ws ≡ words_of x → of_words ws ≡ Some x → Roused at.t at.olds m ws at.p p1 → BesideValues p1 p' → p'.values.knows ≡ wrote m.slot (three_of ws) p1.values.knows → Follows (then_ended (W m x) e) f → LeavesAct at.w at.room at.deep at.first at.olds at.t a at.rest at.env at.par at.p q f
leaves_put_on at a p1 p' q e f m x ws k b is words value ro be wr h = leaves_put at a m x ws is words value b p1 ro p' be wr q e f k h
