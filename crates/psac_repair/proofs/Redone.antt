-- What a block that ran again begins with and what it leaves.
use Rattle.std.proofs.Common.{◌≡◌, ℕ, ◌+◌, ◌-◌, ◌<◌, true, length, None, IfOk, List, [], ◌++◌, map, if◌then◌else◌, append-nil, Option, Some, Result, Ok, Err, refl, ap, sym, ◌∙◌, subst, inr, arith}
use Rattle.std.specs.Prelude.{slice_get, sum_by}
use Rattle.std.proofs.lemmas.Option.{slice_get_within}
use Rattle.psac_ops.specs.declared.plain.Handle.{Handle}
use Rattle.psac_ops.specs.declared.plain.Plain.{Plain}
use Rattle.psac_slots.specs.Handles.{Member}
use Rattle.psac_slots.specs.Claiming.{times}
use Rattle.psac_slots.specs.declared.view.ClaimView.{ClaimView}
use Rattle.psac_laws.proofs.Places.{some_is}
use Rattle.psac_values.specs.declared.view.ValueView.{ValueView}
use Rattle.psac_values.specs.declared.view.KnownView.{KnownView}
use Rattle.psac_values.specs.Knowing.{Has, Knows}
use Rattle.psac_readers.specs.declared.view.ReadersView.{ReadersView}
use Rattle.psac_readers.specs.Chained.{named}
use Rattle.psac_marks.specs.declared.view.OwnView.{OwnView}
use Rattle.psac_marks.specs.declared.view.MarksView.{MarksView}
use Rattle.psac_marks.specs.Passes.{Keeps}
use Rattle.psac_marks.specs.Steps.{Lacks, dropping}
use Rattle.psac_fork.specs.declared.tables.Pass.{Pass}
use Rattle.psac_fork.specs.Whole.{IsOf, HasRoom}
use Rattle.psac_model.specs.declared.ends.CapKind.{CapKind}
use Rattle.psac_model.specs.declared.ends.CapKind.TheVariants as cap
use Rattle.psac_model.specs.declared.ends.FaultKind.{FaultKind}
use Rattle.psac_model.specs.Fresh.{levels}
use Rattle.psac_model.specs.Names.{Env}
use Rattle.psac_model.specs.Run.{with_reads}
use Rattle.psac_cut.specs.CutShort.{cut_short}
use Rattle.psac_traced.specs.Rec as rec
use Rattle.psac_traced.specs.Rec.{writes}
use Rattle.psac_traced.specs.Mending.{anew, below as on_the_way, unlike, mended}
use Rattle.psac_traced.specs.Traced.{traced}
use Rattle.psac_ops.specs.Named.{same_handle}
use Rattle.psac_record.specs.declared.parts.Reading.{Reading}
use Rattle.psac_record.specs.declared.parts.Seen.{Seen}
use Rattle.psac_record.specs.declared.record.Record.{Record}
use Rattle.psac_record.specs.Dropped.{dropped_of}
use Rattle.psac_record.specs.Shown.{kept_of, rec_of}
use Rattle.psac_record.specs.Kept.{Kept, E, A, W, S, P, R, bare, env_of, reads_of, links_of, nodes_below, added, all_of, Stands}
use Rattle.psac_trace.specs.Rights.{In, Within, Sees, Target, Tidy, Ready, Shares, Kept as Stays}
use Rattle.psac_trace.specs.declared.halt.Halt.{Halt}
use Rattle.psac_trace.specs.declared.halt.Halt.TheVariants as halt
use Rattle.psac_trace.specs.Told as trace
use Rattle.psac_trace.specs.Told.{bared}
use Rattle.psac_trace.specs.Grown as trace_full
use Rattle.psac_trace.specs.Grown.{as_own, Cause, Made, made_below, count, claims_in}
use Rattle.psac_trace.specs.Grown.{MoreClaims, MoreValues, MoreNodes, MoreMarks, MoreLinks}
use Rattle.psac_trace.specs.Raising.{puts, Rewrote, Only, Raises}
use Rattle.psac_trace.specs.Running.{Begins, Leaves}
use Rattle.psac_trace.proofs.Moving.{each_cap}
use Rattle.psac_trace.proofs.Heaps.{held_front}
use Rattle.psac_trace.proofs.Raised.{knows_cases, puts_in}
use Rattle.psac_repair.specs.declared.world.World.{World}
use Rattle.psac_repair.specs.Indexed.{Code}
use Rattle.psac_repair.specs.declared.outcome.Outcome.{Outcome}
use Rattle.psac_repair.specs.Ended.{Good, Fault, Other, then_ended}
use Rattle.psac_repair.specs.Outcomes.{halted, ended_by, end_of, Counts}
use Rattle.psac_repair.specs.Tallied.{tally_of}
use Rattle.psac_repair.specs.Taken.{indexes, nodes_up}
use Rattle.psac_repair.specs.Planted.{slots, Once, Passed, Replanted}
use Rattle.psac_repair.specs.Linked.{standing, LinksOnce, Linked, Relinked}
use Rattle.psac_repair.specs.Rewired.{reads_in, Relinks, Rewired}
use Rattle.psac_repair.specs.Watched.{Woken, Steady}
use Rattle.psac_repair.specs.WatchLaws.{RunWarns}
use Rattle.psac_repair.specs.Taking.{taken, given}
use Rattle.psac_repair.specs.Wanted.{TellsAll}
use Rattle.psac_repair.specs.Going.{views, claims_of, Lasting, IsFull, FullBy, Beside, Went, After}
use Rattle.psac_repair.specs.Laws.{Program, IsBlock}
use Rattle.psac_repair.specs.Rebuilt.{Begun, Olds, TakenOff, Replaces}
use Rattle.psac_repair.specs.Changing.{Changed}
use Rattle.psac_repair.specs.Repairing.{setting_of, IsIndexed, PartIn, BeforeIn, LeftPart}
use Rattle.psac_repair.proofs.Adding.{changed_adds}
use Rattle.psac_repair.proofs.Begun.{begun_again, block_stmt}
use Rattle.psac_repair.proofs.Grafting.{ready, block_kept, once_made, new_made, passed_again, replanted_again}
use Rattle.psac_repair.proofs.Rerunning.{body_linked, rewired_block, rewired_redone, entered_all, entered_relinked, entered_new}
use Rattle.psac_repair.proofs.Linking.{relinked_then}
use Rattle.psac_repair.proofs.Rewiring.{wrote_slot, index_right, named_more}
use Rattle.psac_repair.proofs.Starting.{left_claims, fit_off, wrote_leads, warns_off, old_put, in_puts}
use Rattle.psac_repair.proofs.Forked.{touch_slot}
use Rattle.psac_repair.proofs.Wakes.{runs_wake, steady_run}
use Rattle.psac_repair.proofs.Exchanging.{swapped_again}
use Rattle.psac_repair.proofs.Owning.{made_after}
use Rattle.psac_repair.proofs.Replacing.{replaced_again}
use Rattle.psac_repair.proofs.Retold.{as_ended, drawn_in, tells_all}
use Rattle.psac_repair.proofs.Layers.{part_wants}

added_links : (k : Kept) → links_of k ≡ all_of links_of (added k [])
added_links E = refl
added_links (A m r) = sym (append-nil (links_of (A m r)))
added_links (W m v r) = sym (append-nil (links_of (W m v r)))
added_links (S n t r) = sym (append-nil (links_of (S n t r)))
added_links (P n t r) = sym (append-nil (links_of (P n t r)))
added_links (R b t) = sym (append-nil (links_of (R b t)))

-- the code of the block
pub code_at : (g : World) (us : List ℕ) (above : Option Handle) (b : Reading) (t rest : Kept) (p : Pass) → BeforeIn g us above (rec.S (bare (R b t)) (bare rest)) (R b t) (views p) → IsIndexed g → (code : Code) × (slice_get g.blocks.now b.block ≡ Some code)
code_at g us above b t rest p bef indexed =
    let a = block_stmt (record { setting = setting_of g; funcs = g.funcs.now; main = g.main.now; checked = bef.checked; same = refl }) p.values.knows (levels - b.level) b.block (env_of b.env) (reads_of b.reads) (bare t) (bare rest) bef.once bef.needs in
    let c = indexed a.0 a.1 a.2 b.block a.3 a.4 a.5 a.6 in
    (c.0, c.1)

relinks_of : (r q : ReadersView) (old new : Kept) (gone made : List Stands) → Rewired r q old new gone made → Relinks r q old gone made
relinks_of r q old new gone made a = record { relinked = a.relinked; once = a.once; gone_is = a.gone_is; entered = a.entered }

module _ (g : World) (us : List ℕ) (above : Option Handle) (b : Reading) (t rest : Kept) (p : Pass) (bef : BeforeIn g us above (rec.S (bare (R b t)) (bare rest)) (R b t) (views p)) (again : List Seen) (ch : Changed p.values.knows b.reads again) (indexed : IsIndexed g) (code : Code) (found : slice_get g.blocks.now b.block ≡ Some code) where
  abbrev program : Program
  program = record { setting = setting_of g; funcs = g.funcs.now; main = g.main.now; checked = bef.checked; same = refl }

  abbrev saved : Env Handle
  saved = env_of b.env

  abbrev now_block : Reading
  now_block = record b { reads = again }

  numbered : IsBlock program b.block code.0.now code.1.now
  numbered s more line others body is so =
      let a = indexed s more line b.block others body is so in
      let same : code ≡ a.0 = some_is (sym found ∙ a.1) in
      (ap (λ (z : Code). z.0.now) same ∙ a.2, ap (λ (z : Code). z.1.now) same ∙ a.3)

  begins : Begun (setting_of g) (bare t) code.1.now (with_reads saved code.0.now (reads_of again)) p.values.knows
  begins = begun_again program p.values.knows (levels - b.level) b.block saved (reads_of b.reads) (reads_of again) (bare t) (bare rest) code.0.now code.1.now bef.once ch.now ch.other numbered bef.needs

  module _ (env : Env Handle) (env_is : env ≡ with_reads saved code.0.now (reads_of again)) (olds : List Handle) (are : Olds olds env t) (q : Pass) (of : IsOf q g.tables.now) (off : TakenOff p q b t) where
    values_is : q.values.knows ≡ p.values.knows
    values_is = ap (λ z. z.knows) off.values

    begins_env : Begun (setting_of g) (bare t) code.1.now env p.values.knows
    begins_env = subst (λ z. Begun (setting_of g) (bare t) code.1.now z p.values.knows) (sym env_is) begins

    claims_is : (c : CapKind) → claims_in c p ≡ claims_in c q
    claims_is = each_cap (λ c. claims_in c p ≡ claims_in c q)
        (sym (ap (λ (z : MarksView). z.claims) off.marks))
        (sym (ap (λ (z : ValueView). z.claims) values_is))
        (sym (ap (λ (z : ReadersView). z.claims) off.left ∙ left_claims (indexes (links_of t)) p.readers.knows))

    room_off : HasRoom q
    room_off = (
      ap (λ (z : ValueView). z.claims.over) values_is ∙ bef.room.0,
      ap (λ (z : ReadersView). z.claims.over) off.left ∙ (ap (λ (z : ClaimView). z.over) (left_claims (indexes (links_of t)) p.readers.knows) ∙ bef.room.1),
      ap (λ (z : MarksView). z.claims.over) off.marks ∙ bef.room.2,
    )

    pub run_begins : Begins (setting_of g) g.funcs.now olds g.tables.now code.1.now env (Some b.node) q
    run_begins =
        record {
          of = of;
          checked = bef.checked;
          room = room_off;
          tidy = subst Tidy (sym values_is) bef.tidy;
          fit = fit_off p q us above b t bef.planted bef.wired bef.ordered off bef.sets bef.rooted bef.unshared;
          parent = subst (λ z. Keeps z b.node) (sym off.marks) (block_kept p.marks.knows us above b t bef.planted);
          needs = (begins_env.base, begins_env.st, begins_env.end, begins_env.meets, subst (λ v. Ready (setting_of g) begins_env.st begins_env.end.unwritten env v begins_env.base) (sym values_is) begins_env.ready);
          warns = warns_off p q us above b t bef.planted bef.wired bef.ordered off (setting_of g) code.1.now env olds are bef.owned.0 (λ s d. bef.aged s (wrote_slot (R b t) s d)) begins_env;
        }

    module _ (n : Pass) (e : trace.Ended Kept) (l : Leaves (setting_of g) (traced (setting_of g) g.funcs.now (levels - b.level)) (cut_short (setting_of g) g.funcs.now (levels - b.level)) olds g.tables.now code.1.now env (Some b.node) q n e) where
      stays : Stays p.values.knows n.values.knows
      stays = subst (λ v. Stays v n.values.knows) values_is l.moves.stays

      more_claims : (c : CapKind) → MoreClaims (claims_in c p) (claims_in c n) (count c l.made)
      more_claims c = subst (λ z. MoreClaims z (claims_in c n) (count c l.made)) (sym (claims_is c)) (l.moves.claims c)

      claims_all : (c : CapKind) → MoreClaims (claims_of c (views p)) (claims_of c (views n)) (count c l.made)
      claims_all = each_cap (λ c. MoreClaims (claims_of c (views p)) (claims_of c (views n)) (count c l.made)) (more_claims cap.Nodes) (more_claims cap.Mods) (more_claims cap.Links)

      none_before : (c : CapKind) → (claims_in c p).over ≡ 0
      none_before = each_cap (λ c. (claims_in c p).over ≡ 0) bef.room.2 bef.room.0 bef.room.1

      indexes_in : (c : CapKind) → length (claims_in c n).drawn ≡ length (claims_in c p).drawn + drawn_in n l.made c
      indexes_in c = let a = (more_claims c).drawn in let o = none_before c in omega (arith, a, o)

      indexes_all : (c : CapKind) → length (claims_of c (views n)).drawn ≡ length (claims_of c (views p)).drawn + drawn_in n l.made c
      indexes_all = each_cap (λ c. length (claims_of c (views n)).drawn ≡ length (claims_of c (views p)).drawn + drawn_in n l.made c) (indexes_in cap.Nodes) (indexes_in cap.Mods) (indexes_in cap.Links)

      -- a table that is full for the run is so for the pass before it
      full_of : (c : Cause) → trace_full.IsFull q n c → IsFull (views p) (views n) c
      full_of c f =
          let before : claims_of c.which (views p) ≡ claims_in c.which q = each_cap (λ k. claims_of k (views p) ≡ claims_in k p) refl refl refl c.which ∙ claims_is c.which in
          let after : claims_of c.which (views n) ≡ claims_in c.which n = each_cap (λ k. claims_of k (views n) ≡ claims_in k n) refl refl refl c.which in
          record {
            list = f.list ∙ ap (λ (z : ClaimView). length z.list) (sym before);
            past = f.past;
            drew = subst (λ (z : ClaimView). times c.index z.drawn < times c.index (claims_of c.which (views n)).drawn) (sym before)
                (subst (λ (z : ClaimView). times c.index (claims_in c.which q).drawn < times c.index z.drawn) (sym after) f.drew);
          }

      -- nodes were made once those of the old record were dropped
      more_nodes : MoreNodes (dropping (nodes_up t) p.marks.knows) n.marks.knows l.made.nodes
      more_nodes =
          made_after p.marks.knows n.marks.knows t b.node.slot l.made.nodes
          (subst (λ z. MoreNodes z n.marks.knows l.made.nodes) off.marks l.moves.nodes)

      abbrev lasting : Lasting (views p) (views n)
      lasting =
          record {
            stays = stays;
            drew = λ c. count c l.made;
            claims = claims_all;
            drawn = drawn_in n l.made;
            indexes = indexes_all;
            mods = l.made.mods;
            values = subst (λ v. MoreValues v n.values.knows l.made.mods) values_is l.moves.values;
            mods_drew = refl;
            nodes = l.made.nodes;
            gone_nodes = slots t;
            swapped = swapped_again p.marks.knows (dropping (nodes_up t) p.marks.knows) n.marks.knows t l.made.nodes refl more_nodes;
            own = more_nodes.own;
            nodes_drew = refl;
            shared = more_nodes.shared;
          }

      -- what the run tells, under an environment and from a view
      abbrev room_left : ℕ
      room_left = levels - b.level

      abbrev RunTells : Env Handle → ValueView → Type 0
      RunTells scope v = TellsAll (setting_of g) (traced (setting_of g) g.funcs.now room_left) (cut_short (setting_of g) g.funcs.now room_left) code.1.now scope v n.values.knows (drawn_in n l.made) (as_ended (bared e))

      tells : PartIn g (bare (R b t)) (bare rest) p.values.knows n.values.knows (drawn_in n l.made) (then_ended (rec.R (levels - b.level) b.block saved (reads_of again)) (as_ended (bared e)))
      tells =
          (changed_adds program p.values.knows (levels - b.level) b.block saved (reads_of b.reads) (reads_of again) (bare t) (bare rest) code.0.now code.1.now bef.once ch.now ch.other numbered).adds n.values.knows (drawn_in n l.made) (as_ended (bared e)) bef.owned.1 stays
          (subst (λ z. RunTells z p.values.knows) env_is (subst (RunTells env) values_is (tells_all (setting_of g) g.funcs.now room_left olds g.tables.now code.1.now env (Some b.node) q n e l)))

      off_once : LinksOnce q.readers.knows
      off_once c =
          let a = named_more p.readers.knows q.readers.knows (links_of t) [] off.relinked c in
          let d = bef.wired.once c in
          let z : sum_by (λ (s : Stands). named c (standing s)) [] ≡ 0 = refl in
          omega (arith, a, d, z)

      -- however it ended
      relinks_any : Relinks p.readers.knows n.readers.knows (R b t) (links_of t) l.made.links
      relinks_any =
          let m = l.moves.links in
          record {
            relinked = subst (λ z. Relinked p.readers.knows n.readers.knows z l.made.links) (append-nil (links_of t)) (relinked_then p.readers.knows q.readers.knows n.readers.knows (links_of t) [] [] l.made.links off.relinked (entered_relinked q.readers.knows n.readers.knows l.made.links m off_once m.once));
            once = entered_all q.readers.knows n.readers.knows l.made.links m off_once m.once;
            gone_is = λ c i. index_right c (reads_in b) (links_of t) i;
            entered = λ c i.
                let a = entered_new q.readers.knows n.readers.knows l.made.links m off_once m.once c i in
                let d = named_more p.readers.knows q.readers.knows (links_of t) [] off.relinked c in
                omega (arith, a, d);
          }

      -- what was recorded
      module _ (u : Kept) (is : l.made ≡ made_below (Some b.node) u) (words : Rewrote p.values.knows n.values.knows (puts u)) (only : Only olds q n (puts u)) (room : HasRoom n) where
        abbrev m : MarksView
        m = p.marks.knows

        abbrev below : List OwnView
        below = map as_own (nodes_below (Some b.node) u)

        nodes : MoreNodes (ready m us above b t bef.planted) n.marks.knows below
        nodes = subst (λ z. MoreNodes z n.marks.knows below) off.marks (subst (MoreNodes q.marks.knows n.marks.knows) (ap (λ (z : Made). z.nodes) is) l.moves.nodes)

        marks : MoreMarks (ready m us above b t bef.planted) n.marks.knows
        marks = subst (λ z. MoreMarks z n.marks.knows) off.marks l.moves.marks

        new : (x : ℕ) → Member x (slots u) → Lacks m x
        new = new_made m (Some b.node) u nodes.lacked

        once : Once u
        once = once_made (Some b.node) u nodes.differ

        within : (x : ℕ) → times x (ready m us above b t bef.planted).marked < times x n.marks.knows.marked → Member x us
        within x more =
            only us
            (λ h c i j k. let a = old_put olds env t are h i in wrote_leads p q us above b t bef.planted bef.wired bef.ordered off h.slot ((h, a.0), a.1, refl))
            x
            (subst (λ (z : MarksView). times x z.marked < times x n.marks.knows.marked) (sym off.marks) more)

        passed : Passed m n.marks.knows us (slots (R b t))
        passed = passed_again m us above b t bef.planted n.marks.knows u again bef.rooted nodes once new marks within

        replanted : Replanted m n.marks.knows us above (R b t) (R now_block u)
        replanted = replanted_again m us above b t bef.planted n.marks.knows u again bef.rooted nodes once new marks within

        links : MoreLinks q.readers.knows n.readers.knows (links_of u)
        links = subst (MoreLinks q.readers.knows n.readers.knows) (ap (λ (z : Made). z.links) is) l.moves.links

        rewired : Rewired p.readers.knows n.readers.knows (R b t) (R now_block u) (links_of t) (links_of u)
        rewired =
            rewired_block p.readers.knows m us above b t bef.planted bef.wired n.readers.knows now_block u (links_of t) (links_of u) (ch.links b.node)
            (rewired_redone p.readers.knows q.readers.knows n.readers.knows t u bef.wired.once off.relinked links links.once)

        relinks : Relinks p.readers.knows n.readers.knows (R b t) (links_of t) (links_of u)
        relinks = relinks_of p.readers.knows n.readers.knows (R b t) (R now_block u) (links_of t) (links_of u) rewired

        was_had : (h : Handle) (c : Plain) (ws : List ℕ) → Member (h, c) (puts u) → Knows p.values.knows h ws → Has p.values.knows h
        was_had h c ws i k =
            knows_cases p.values.knows h ws
            (λ (a : Has p.values.knows h). a)
            (λ (a : Shares p.values.knows h).
            absurd (stays.tidy.apart h h (words.owned h c i) (subst (λ (ks : List KnownView). (y : KnownView) × Member y ks × (y.of ≡ h)) (sym stays.known) a) refl))
            k

        -- what the pass had and the run wrote was to be written, so the old record wrote it
        module _ (spares : (h : Handle) → Has p.values.knows h → In (writes (bare u)) h → Target begins_env.st begins_env.end.unwritten env h) where
          old_wrote : (h : Handle) (c : Plain) → Member (h, c) (puts u) → Has p.values.knows h → In (writes (bare t)) h
          old_wrote h c i k = begins_env.wrote h (spares h k (puts_in u h c i))

          steady : Steady p.values.knows n.values.knows (R b t)
          steady =
              steady_run p.values.knows n.values.knows (puts u) (R b t) words.stays words.learned
              (λ h c i ks k. touch_slot (bare (R b t)) h (inr (old_wrote h c i (was_had h c ks i k))))

          beside : Beside us (R b t) (views p) (views n)
          beside = record { room = room; sets = l.moves.fit.sets; rooted = l.moves.fit.nodes; passed = passed; steady = steady }

          -- and of a record, where it ended well
          module _ (raises : Raises olds q n (puts u)) (sees : Within (writes (bare u) ++ begins_env.base) (Sees n.values.knows)) where
            is_old : (h : Handle) (c : Plain) → Member (h, c) (puts u) → Has p.values.knows h → Member h olds
            is_old h c i k =
                let a = in_puts t h (old_wrote h c i k) in
                let g = spares h k (puts_in u h c i) in
                are.all h a.0 g.0 a.1 g.3

            warns : RunWarns q.readers.knows p.values.knows n.values.knows n.marks.knows (puts u)
            warns =
                record {
                  stays = words.stays;
                  learned = words.learned;
                  seen = λ h c i. let a = puts_in u h c i in (a.0, sees h a.0 (held_front (writes (bare u)) begins_env.base h a.0 a.1));
                  warned = λ h c ws i k d.
                      let a = was_had h c ws i k in
                      (a, raises.warned h c ws (is_old h c i a) i (subst (λ v. Knows v h ws) (sym values_is) k) d);
                }

            woken : Woken p.readers.knows p.values.knows n.values.knows n.marks.knows us
            woken = runs_wake p.readers.knows q.readers.knows p.values.knows n.values.knows m n.marks.knows us above b t (puts u) bef.planted bef.wired off.relinked warns

            went : Went us above (R b t) (R now_block u) (links_of t) (links_of u) (views p) (views n)
            went =
                record {
                  replanted = replanted;
                  rewired = rewired;
                  gone_is = subst (λ z. links_of t ≡ all_of links_of (if z then added t [] else taken t u)) (sym ch.other) (added_links t);
                  made_is = subst (λ z. links_of u ≡ all_of links_of (if z then added u [] else given t u)) (sym ch.other) (added_links u);
                  woken = woken;
                }

    -- the cases
    module _ (n : Pass) where
      abbrev Runs : trace.Ended Kept → Type 0
      Runs = Leaves (setting_of g) (traced (setting_of g) g.funcs.now (levels - b.level)) (cut_short (setting_of g) g.funcs.now (levels - b.level)) olds g.tables.now code.1.now env (Some b.node) q n

      -- what the run was to write, where the pass had it
      abbrev Spares : Kept → Type 0
      Spares u = (h : Handle) → Has p.values.knows h → In (writes (bare u)) h → Target begins_env.st begins_env.end.unwritten env h

      words_on : (e : trace.Ended Kept) → Runs e → Rewrote p.values.knows n.values.knows (puts (trace.what e))
      words_on e l = subst (λ v. Rewrote v n.values.knows (puts (trace.what e))) values_is l.words

      pub after_good : (u : Kept) → Runs (trace.Good u) → After (PartIn g (bare (R b t)) (bare rest)) us above (R b t) (R now_block u) (views p) (views n) (Good (bare (R now_block u)))
      after_good u l =
          let told = l.tells begins_env.base begins_env.st begins_env.end begins_env.meets (subst (λ v. Ready (setting_of g) begins_env.st begins_env.end.unwritten env v begins_env.base) (sym values_is) begins_env.ready) in
          let spares : Spares u = λ h k i. told.1.spares h (subst (λ v. Has v h) (sym values_is) k) i in
          record {
            lasting = lasting n (trace.Good u) l;
            tells = tells n (trace.Good u) l;
            room = l.room;
            full = tt;
            gone = links_of t;
            made = links_of u;
            links_drew = ap (λ z. length z.links) l.all;
            relinks = relinks n (trace.Good u) l u l.all (words_on (trace.Good u) l) l.raises.only l.room;
            beside = beside n (trace.Good u) l u l.all (words_on (trace.Good u) l) l.raises.only l.room spares;
            went = went n (trace.Good u) l u l.all (words_on (trace.Good u) l) l.raises.only l.room spares l.raises told.1.sees;
            replaced = replaced_again b now_block t u (Some b.node) l.made refl (ch.links b.node) ch.other l.all;
          }

      pub after_fault : (u k : Kept) (why : FaultKind) (line : ℕ) → Runs (trace.Fault u why line) → After (PartIn g (bare (R b t)) (bare rest)) us above (R b t) k (views p) (views n) (Fault why line)
      after_fault u k why line l =
          record {
            lasting = lasting n (trace.Fault u why line) l;
            tells = tells n (trace.Fault u why line) l;
            room = l.room;
            full = tt;
            gone = links_of t;
            made = l.made.links;
            links_drew = refl;
            relinks = relinks_any n (trace.Fault u why line) l;
            beside = tt;
            went = tt;
            replaced = tt;
          }

      full_want : (u : Kept) (why : Option Cause) → Runs (trace.Other u why) → FullBy (views p) (views n) (Other why)
      full_want u None l = tt
      full_want u (Some c) l = full_of n (trace.Other u (Some c)) l c l.full

      pub after_want : (u k : Kept) (why : Option Cause) → Runs (trace.Other u why)
          → After (PartIn g (bare (R b t)) (bare rest)) us above (R b t) k (views p) (views n) (Other why)
      after_want u k why l =
          record {
            lasting = lasting n (trace.Other u why) l;
            tells = tells n (trace.Other u why) l;
            room = tt;
            full = full_want u why l;
            gone = links_of t;
            made = l.made.links;
            links_drew = refl;
            relinks = relinks_any n (trace.Other u why) l;
            beside = tt;
            went = tt;
            replaced = tt;
          }

-- what is needed at a block that is taken off
pub block_linked : (g : World) (us : List ℕ) (above : Option Handle) (b : Reading) (t rest : Kept) (p : Pass) → BeforeIn g us above (rec.S (bare (R b t)) (bare rest)) (R b t) (views p) → Linked p.readers.knows t
block_linked g us above b t rest p bef = body_linked p.readers.knows p.marks.knows us above b t bef.planted bef.wired

pub code_within : (g : World) (us : List ℕ) (above : Option Handle) (b : Reading) (t rest : Kept) (p : Pass) → BeforeIn g us above (rec.S (bare (R b t)) (bare rest)) (R b t) (views p) → IsIndexed g → b.block < length g.blocks.now
code_within g us above b t rest p bef indexed = let a = code_at g us above b t rest p bef indexed in slice_get_within g.blocks.now b.block a.0 a.1

-- the numbers and what was taken off
pub redo_counts : (b : Reading) (t : Kept) (again : List Seen) (ran : Result Record Halt) (o : Outcome) → unlike same_handle (reads_of b.reads) (reads_of again) ≡ true → Replaces b again t ran o → Counts (R b t) o
redo_counts b t again (Ok new) o other r =
    let a = r.good new refl in
    let u = kept_of new in
    let same = same_handle in
    let now : Reading = record b { reads = again } in
    let numbers : tally_of (anew (bare t) (bare u)) ≡ tally_of (mended same (bare (R b t)) (bare (R now u))) =
    ap (λ z. tally_of (if z then anew (bare t) (bare u) else on_the_way (mended same (bare t) (bare u)))) (sym other) in
    let off : added t [] ≡ taken (R b t) (R now u) = ap (λ z. if z then added t [] else taken t u) (sym other) in
    subst (λ z. IfOk z (λ y. (y ≡ tally_of (mended same (bare (R b t)) (rec_of o.tree))) × (dropped_of o.dropped ≡ taken (R b t) (kept_of o.tree)))) (sym a.1)
    (subst (λ (z : Kept). (tally_of (anew (bare t) (bare u)) ≡ tally_of (mended same (bare (R b t)) (bare z))) × (dropped_of o.dropped ≡ taken (R b t) z)) (sym a.0) (numbers, r.dropped ∙ off))
redo_counts b t again (Err h) o other r =
    subst (λ z. IfOk z (λ y. (y ≡ tally_of (mended same_handle (bare (R b t)) (rec_of o.tree))) × (dropped_of o.dropped ≡ taken (R b t) (kept_of o.tree)))) (sym (r.bad h refl)) tt

-- memory ran out before anything was done
pub redo_undone : (g : World) (k rest : Kept) (p : Pass) (o : Outcome) → end_of o ≡ Other None → LeftPart g k rest p p o
redo_undone g k rest p o e us above bef =
    let T = PartIn g (bare k) (bare rest) in
    let code : Program = record { setting = setting_of g; funcs = g.funcs.now; main = g.main.now; checked = bef.checked; same = refl } in
    subst (λ z. After T us above k (kept_of o.tree) (views p) (views p) z) (sym e) (part_wants code us above k rest (kept_of o.tree) (views p) bef)

-- the outcome of a run
module _ (g : World) (b : Reading) (t rest : Kept) (p : Pass) (again : List Seen) (ch : Changed p.values.knows b.reads again) (indexed : IsIndexed g) (code : Code) (found : slice_get g.blocks.now b.block ≡ Some code) (env : Env Handle) (env_is : env ≡ with_reads (env_of b.env) code.0.now (reads_of again)) (olds : List Handle) (are : Olds olds env t) (q : Pass) (of : IsOf q g.tables.now) (off : TakenOff p q b t) (n : Pass) where
  abbrev RunsTo : trace.Ended Kept → Type 0
  RunsTo = Leaves (setting_of g) (traced (setting_of g) g.funcs.now (levels - b.level)) (cut_short (setting_of g) g.funcs.now (levels - b.level)) olds g.tables.now code.1.now env (Some b.node) q n

  -- where it halted
  halted_left : (h : Halt) (o : Outcome) → Replaces b again t (Err h) o → (us : List ℕ) (above : Option Handle) → After (PartIn g (bare (R b t)) (bare rest)) us above (R b t) (kept_of o.tree) (views p) (views n) (halted h) → After (PartIn g (bare (R b t)) (bare rest)) us above (R b t) (kept_of o.tree) (views p) (views n) (end_of o)
  halted_left h o r us above a = subst (λ z. After (PartIn g (bare (R b t)) (bare rest)) us above (R b t) (kept_of o.tree) (views p) (views n) (ended_by z (rec_of o.tree))) (sym (r.bad h refl)) a

  pub redo_left : (ran : Result Record Halt) (o : Outcome) → Replaces b again t ran o → (k : Kept) → RunsTo (trace.ended_of k ran) → LeftPart g (R b t) rest p n o
  redo_left (Ok new) o r k l us above bef =
      let a = r.good new refl in
      let T = PartIn g (bare (R b t)) (bare rest) in
      let done = after_good g us above b t rest p bef again ch indexed code found env env_is olds are q of off n (kept_of new) l in
      subst (λ z. After T us above (R b t) (kept_of o.tree) (views p) (views n) (ended_by z (rec_of o.tree))) (sym a.1)
      (subst (λ (z : Kept). After T us above (R b t) z (views p) (views n) (Good (bare z))) (sym a.0) done)
  redo_left (Err (halt.Fault why line)) o r k l us above bef =
      halted_left (halt.Fault why line) o r us above (after_fault g us above b t rest p bef again ch indexed code found env env_is olds are q of off n k (kept_of o.tree) why line l)
  redo_left (Err (halt.Full which at)) o r k l us above bef =
      halted_left (halt.Full which at) o r us above
      (after_want g us above b t rest p bef again ch indexed code found env env_is olds are q of off n k (kept_of o.tree) (Some (record { which = which; index = at.index; room = at.room })) l)
  redo_left (Err halt.NoMemory) o r k l us above bef =
      halted_left halt.NoMemory o r us above (after_want g us above b t rest p bef again ch indexed code found env env_is olds are q of off n k (kept_of o.tree) None l)
