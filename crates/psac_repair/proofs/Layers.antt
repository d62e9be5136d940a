-- The walk, call by call: what each call needs, from what its caller needs, and what the caller leaves, from what its calls leave.
use Rattle.std.proofs.Common.{◌≡◌, ℕ, ◌+◌, ◌-◌, true, false, List, [], ◌∷◌, ◌++◌, Option, Some, None, length, refl, ap, sym, ◌∙◌, subst, inl, inr, ⊎_elim, arith}
use Rattle.psac_ops.specs.declared.plain.Handle.{Handle}
use Rattle.psac_ops.specs.declared.plain.Plain.{Plain}
use Rattle.psac_ops.specs.Named.{value_of}
use Rattle.psac_syntax.specs.declared.program.Stmt.{Stmt}
use Rattle.psac_slots.specs.Handles.{Member}
use Rattle.psac_slots.proofs.Pairs.{member_left, member_right, member_cases}
use Rattle.psac_values.specs.declared.view.ValueView.{ValueView}
use Rattle.psac_marks.specs.declared.view.MarksView.{MarksView}
use Rattle.psac_marks.specs.Steps.{cleared}
use Rattle.psac_marks.specs.Passes.{Owns, Bare}
use Rattle.psac_model.specs.declared.ends.CapKind.{CapKind}
use Rattle.psac_model.specs.declared.ends.CapKind.TheVariants as cap
use Rattle.psac_traced.specs.Rec as rec
use Rattle.psac_traced.specs.Rec.{Rec}
use Rattle.psac_traced.specs.Bodies.{IsCode}
use Rattle.psac_traced.specs.Holds.{EachOf, EachRead}
use Rattle.psac_traced.specs.Parts.{IsClosed, IsBody}
use Rattle.psac_traced.proofs.Bodies.{code_closed}
use Rattle.psac_trace.specs.Rights.{Kept as Stays}
use Rattle.psac_trace.specs.Grown.{MoreClaims, nodes_in as handles_in}
use Rattle.psac_trace.proofs.Claims.{claims_none, claims_then}
use Rattle.psac_trace.proofs.Views.{kept_same, kept_then}
use Rattle.psac_trace.proofs.Growing.{values_none, values_then}
use Rattle.psac_record.specs.declared.parts.Reading.{Reading}
use Rattle.psac_record.specs.Kept.{Kept, E, A, W, S, P, R, Stands, bare, links_of, reads_of, all_of, added, env_of}
use Rattle.psac_repair.specs.Ended.{Ended, Good, Fault, Other, then_ended, both_ended, untried_ended}
use Rattle.psac_repair.specs.Outcomes.{OnGood, is_body, is_good, pair_ended, block_round}
use Rattle.psac_repair.specs.Scope.{GoesAlong, ReadsAlong}
use Rattle.psac_repair.specs.Marks.{Present}
use Rattle.psac_repair.specs.Seen.{Known}
use Rattle.psac_repair.specs.Divided.{writes_slot}
use Rattle.psac_trace.specs.Fit.{Rooted, is_spare}
use Rattle.psac_model.specs.Fresh.{levels}
use Rattle.psac_laws.proofs.Places.{test_or, not_both}
use Rattle.psac_trace.proofs.Heaps.{in_front, in_back}
use Rattle.psac_traced.specs.Rec.{writes}
use Rattle.psac_repair.proofs.Forked.{Touches, touch_slot, slot_touch}
use Rattle.psac_repair.specs.Laws.{Program, TellsOf, PartOf}
use Rattle.psac_repair.specs.Planted.{slots, NoneMarked, Planted, Passed}
use Rattle.psac_repair.specs.Taking.{taken, given}
use Rattle.psac_repair.specs.Taken.{indexes}
use Rattle.psac_repair.specs.Rewired.{Wired, Relinks, Ordered}
use Rattle.psac_repair.specs.Watched.{Woken}
use Rattle.psac_repair.specs.Exchanged.{Replaced}
use Rattle.psac_repair.specs.Going.{Views, claims_of, Lasting, RoomAfter, FullBy, Beside, Went, After, WentBelow, AfterBelow}
use Rattle.psac_repair.specs.WalkLaws as walk
use Rattle.psac_repair.proofs.Adding.{quiet_kept, made_adds, wrote_adds, inner_adds, rest_adds, block_adds, turns_add, untried_adds}
use Rattle.psac_repair.proofs.Drawing.{no_draw, with_none, long_both}
use Rattle.psac_repair.proofs.Filling.{full_then, full_round, full_untried, room_round, room_untried}
use Rattle.psac_trace.proofs.Moving.{each_cap}
use Rattle.psac_repair.proofs.Along.{goes_along, reads_along}
use Rattle.psac_repair.proofs.Tells.{needs_made, needs_wrote, needs_rest, needs_inner, needs_block, tells_stop, tells_cut, tells_nothing, part_nothing, needs_left, needs_second, owned_right}
use Rattle.psac_repair.proofs.Passing.{passed_none, passed_then, passed_cleared}
use Rattle.psac_repair.proofs.Planting.{replanted_kept, planted_made, replanted_made, planted_wrote, replanted_wrote, planted_part, planted_rest, halves_turn, planted_pair, replanted_pair, step_owns, step_bare, replanted_step, planted_inner, block_owns, block_bare, replanted_block}
use Rattle.psac_repair.proofs.Linking.{relinked_none}
use Rattle.psac_repair.proofs.Rewiring.{wired_made, wired_wrote, rewired_made, rewired_wrote, rewired_kept, index_left, rewired_as}
use Rattle.psac_repair.proofs.Wiring.{steps_wire, blocks_wire}
use Rattle.psac_repair.proofs.Wakes.{nothing_woke, outside_woke, steps_watch, steady_part}
use Rattle.psac_repair.proofs.Unread.{unread_behind, unread_beside}
use Rattle.psac_repair.proofs.Owning.{swapped_none, swapped_turn, owned_none, owned_then}
use Rattle.psac_repair.proofs.Replacing.{like_is, taken_same, given_same, both_all}
use Rattle.psac_repair.proofs.Replacing.{replaced_kept, replaced_made, replaced_wrote, replaced_block, replaced_parts, replaced_pair}
use Rattle.psac_repair.proofs.Visiting.{made_unread, unshared_on}
use Rattle.psac_repair.proofs.Dividing.{pair_wired, pair_ordered}
use Rattle.psac_repair.proofs.Visiting.{good_then, bad_told}

-- what lasts

abbrev pub lasting_none : (p : Views) → Stays p.values p.values → Lasting p p
lasting_none p s =
    record {
      stays = s;
      drew = no_draw;
      claims = λ c. claims_none (claims_of c p);
      drawn = no_draw;
      indexes = λ c. omega arith;
      mods = [];
      values = values_none p.values;
      mods_drew = refl;
      nodes = [];
      gone_nodes = [];
      swapped = swapped_none p.marks;
      own = owned_none p.marks;
      nodes_drew = refl;
      shared = refl;
    }

abbrev pub lasting_then : (p q x : Views) → Lasting p q → Lasting q x → Lasting p x
lasting_then p q x a b =
    record {
      stays = kept_then p.values q.values x.values a.stays b.stays;
      drew = λ c. a.drew c + b.drew c;
      claims = λ c. claims_then (claims_of c p) (claims_of c q) (claims_of c x) (a.drew c) (b.drew c) (a.claims c) (b.claims c);
      drawn = λ c. a.drawn c + b.drawn c;
      indexes = λ c. (let d = a.indexes c in let e = b.indexes c in omega (arith, d, e));
      mods = a.mods ++ b.mods;
      values = values_then p.values q.values x.values a.mods b.mods a.stays b.stays a.values b.values;
      mods_drew = long_both (a.drew cap.Mods) (b.drew cap.Mods) a.mods b.mods a.mods_drew b.mods_drew;
      nodes = a.nodes ++ b.nodes;
      gone_nodes = a.gone_nodes ++ b.gone_nodes;
      swapped = swapped_turn p.marks q.marks x.marks a.gone_nodes b.gone_nodes a.nodes b.nodes a.swapped b.swapped;
      own = owned_then p.marks q.marks x.marks a.nodes b.nodes a.own b.own;
      nodes_drew = long_both (a.drew cap.Nodes) (b.drew cap.Nodes) a.nodes b.nodes a.nodes_drew b.nodes_drew;
      shared = b.shared ∙ a.shared;
    }

-- what a call replaced, where something was made or written before
abbrev Replaces : (p q : Views) → Kept → Kept → Lasting p q → Type 0
Replaces p q k u a = Replaced k u a.mods (handles_in a.nodes) a.gone_nodes

made_replaces : (p q : Views) (m : Handle) (k u : Kept) (a : Lasting p q) → Replaces p q k u a → Replaces p q (A m k) (A m u) a
made_replaces p q m k u a = replaced_made a.mods (handles_in a.nodes) a.gone_nodes m k u

wrote_replaces : (p q : Views) (m : Handle) (x : Plain) (k u : Kept) (a : Lasting p q) → Replaces p q k u a
    → Replaces p q (W m x k) (W m x u) a
wrote_replaces p q m x k u a = replaced_wrote a.mods (handles_in a.nodes) a.gone_nodes m x k u

-- and another call behind it
module _ (n : Handle) (t k u w : Kept) (p q x : Views) (a : Lasting p q) (b : Lasting q x) where
  abbrev both : Lasting p x
  both = lasting_then p q x a b

  parts_replace : Replaces p q t u a → Replaces q x k w b → Replaces p x (S n t k) (S n u w) both
  parts_replace = replaced_parts n t k u w a.mods b.mods a.nodes b.nodes a.gone_nodes b.gone_nodes

pub claims_cleared : (n : Handle) (p q : Views) (drew : CapKind → ℕ) → ((c : CapKind) → MoreClaims (claims_of c p) (claims_of c q) (drew c))
    → (c : CapKind) → MoreClaims (claims_of c p) (claims_of c (record q { marks = cleared n.slot q.marks })) (drew c)
claims_cleared n p q drew f cap.Nodes = f cap.Nodes
claims_cleared n p q drew f cap.Mods = f cap.Mods
claims_cleared n p q drew f cap.Links = f cap.Links

-- what is so beside, by the record's nodes and links alone

-- what a part touched the whole touched

pub used_by : (b a : Rec Handle) → ((n : Handle) → Touches b n → Touches a n) → (s : ℕ) → writes_slot b s ≡ true → writes_slot a s ≡ true
used_by b a f s i = let t = slot_touch b s i in subst (λ z. writes_slot a z ≡ true) t.2 (touch_slot a t.0 (f t.0 t.1))

free_by : (a b : Rec Handle) → ((n : Handle) → Touches b n → Touches a n) → (s : ℕ) → writes_slot a s ≡ false → writes_slot b s ≡ false
free_by a b f s e =
    ⊎_elim
    (λ (i : writes_slot b s ≡ true). absurd (not_both (used_by b a f s i) e))
    (λ (i : writes_slot b s ≡ false). i)
    (test_or (writes_slot b s))

pub touch_made : (m : Handle) (r : Kept) (n : Handle) → Touches (bare r) n → Touches (bare (A m r)) n
touch_made m r n (inl i) = inl (inr i)
touch_made m r n (inr i) = inr i

pub touch_wrote : (m : Handle) (x : Plain) (r : Kept) (n : Handle) → Touches (bare r) n → Touches (bare (W m x r)) n
touch_wrote m x r n (inl i) = inl i
touch_wrote m x r n (inr i) = inr (in_front (writes (bare r)) ((m, value_of x) ∷ []) n i)

pub touch_first : (h : Handle) (t r : Kept) (n : Handle) → Touches (bare t) n → Touches (bare (S h t r)) n
touch_first h t r n (inl i) = inl (inl i)
touch_first h t r n (inr i) = inr (in_back (writes (bare r)) (writes (bare t)) n i)

pub touch_second : (h : Handle) (t r : Kept) (n : Handle) → Touches (bare r) n → Touches (bare (S h t r)) n
touch_second h t r n (inl i) = inl (inr i)
touch_second h t r n (inr i) = inr (in_front (writes (bare r)) (writes (bare t)) n i)

beside_as : (us : List ℕ) (k j : Kept) (p q : Views) → slots k ≡ slots j → ((s : ℕ) → writes_slot (bare j) s ≡ false → writes_slot (bare k) s ≡ false) → Beside us k p q → Beside us j p q
beside_as us k j p q same free b =
    record { room = b.room; sets = b.sets; rooted = b.rooted; passed = subst (λ z. Passed p.marks q.marks us z) same b.passed; steady = λ h x s e. b.steady h x s (free h.slot e) }

relinks_as : (k j : Kept) (gone made : List Stands) (p q : Views) → links_of k ≡ links_of j → Relinks p.readers q.readers k gone made → Relinks p.readers q.readers j gone made
relinks_as k j gone made p q links b = record { relinked = b.relinked; once = b.once; gone_is = λ l i. subst (λ z. Member l (indexes z)) links (b.gone_is l i); entered = b.entered }

-- none of what an old record wrote is a slot that a claim may give
aged_on : (v u : ValueView) → u.fixed ≡ v.fixed → u.claims.list ≡ v.claims.list → (s : ℕ) → is_spare v.fixed v.claims.list s ≡ false → is_spare u.fixed u.claims.list s ≡ false
aged_on v u f l s h = subst (λ z. is_spare z u.claims.list s ≡ false) (sym f) (subst (λ z. is_spare v.fixed z s ≡ false) (sym l) h)

both_then : (u : Rec Handle) (e : Ended) → both_ended (Good u) e ≡ then_ended (rec.P u) e
both_then u (Good w) = refl
both_then u (Fault k n) = refl
both_then u (Other why) = refl

pub both_is : (one two : Ended) → both_ended one two ≡ pair_ended rec.P one two
both_is (Good a) (Good b) = refl
both_is (Good a) (Fault k n) = refl
both_is (Good a) (Other why) = refl
both_is (Fault k n) (Good b) = refl
both_is (Fault k n) (Fault j m) = refl
both_is (Fault k n) (Other why) = refl
both_is (Other why) two = refl

-- a node whose children are done is cleared
pub rooted_cleared : (n : Handle) (m : MarksView) → Rooted m → Rooted (cleared n.slot m)
rooted_cleared n m r = record { kept = r.kept; dropped = r.dropped; shared = r.shared; labels = r.labels }

abbrev pub lasting_cleared : (n : Handle) (p q : Views) → Lasting p q → Lasting p (record q { marks = cleared n.slot q.marks })
lasting_cleared n p q l =
    let x : Views = record q { marks = cleared n.slot q.marks } in
    record {
      stays = l.stays;
      drew = l.drew;
      claims = claims_cleared n p q l.drew l.claims;
      drawn = l.drawn;
      indexes = each_cap (λ c. length (claims_of c x).drawn ≡ length (claims_of c p).drawn + l.drawn c) (l.indexes cap.Nodes) (l.indexes cap.Mods) (l.indexes cap.Links);
      mods = l.mods;
      values = l.values;
      mods_drew = l.mods_drew;
      nodes = l.nodes;
      gone_nodes = l.gone_nodes;
      swapped = record { held = l.swapped.held; dropped = l.swapped.dropped };
      own = l.own;
      nodes_drew = l.nodes_drew;
      shared = l.shared;
    }

-- where a side wasn't tried there is no record
none_untried : (X : Type 0) (e : Ended) → OnGood (untried_ended e) X
none_untried X (Good r) = tt
none_untried X (Fault k n) = tt
none_untried X (Other why) = tt

pub woken_cleared : (n : Handle) (us : List ℕ) (p q : Views) → ((x : ℕ) → Member x us → n.slot ≡ x → ⊥) → Woken p.readers p.values q.values q.marks us → Woken p.readers p.values q.values (cleared n.slot q.marks) us
woken_cleared n us p q out a =
    outside_woke p.readers p.values q.values q.marks (cleared n.slot q.marks) us us (λ y i. i)
    (λ y i b. (passed_cleared q.marks us (n.slot ∷ []) n.slot (inl refl)).busy y (λ j. elim j [ inl e ↦ out y i e | inr k ↦ absurd k ]) b) a

-- what a part leaves that isn't done: of what it leaves where it is done, nothing is told
stopped : (T : ValueView → ValueView → (CapKind → ℕ) → Ended → Type 0) (us : List ℕ) (above : Option Handle)
    (k new : Kept) (p q : Views) (e : Ended) → is_good e ≡ false → (l : Lasting p q) → T p.values q.values l.drawn e
    → RoomAfter q e → FullBy p q e → (gone made : List Stands) → l.drew cap.Links ≡ length made
    → Relinks p.readers q.readers k gone made → After T us above k new p q e
stopped T us above k new p q e bad l tells room full gone made drew relinks =
    record {
      lasting = l;
      tells = tells;
      room = room;
      full = full;
      gone = gone;
      made = made;
      links_drew = drew;
      relinks = relinks;
      beside = bad_told (Beside us k p q) e bad;
      went = bad_told (Went us above k new gone made p q) e bad;
      replaced = bad_told (Replaced k new l.mods (handles_in l.nodes) l.gone_nodes) e bad;
    }

module _ (g : Program) where
  abbrev pub Q : List Stmt → Type 0
  Q = IsCode g.funcs g.main

  pub closed : IsClosed g.funcs Q
  closed = code_closed g.funcs g.main

  pub go : GoesAlong g.setting g.funcs
  go = goes_along g.setting g.funcs g.checked

  pub reading : ReadsAlong g.setting
  reading = reads_along g.setting

  abbrev pub Here : List ℕ → Option Handle → Rec Handle → Kept → Views → Type 0
  Here = walk.Here g

  abbrev pub Gone : List ℕ → Option Handle → Kept → Kept → Views → Views → Ended → Type 0
  Gone = walk.Gone g

  abbrev pub PartGone : List ℕ → Option Handle → Kept → Kept → Kept → Views → Views → Ended → Type 0
  PartGone = walk.PartGone g

  -- a record that is kept

  kept_any : (T : ValueView → ValueView → (CapKind → ℕ) → Ended → Type 0) (us : List ℕ) (above : Option Handle) (stood : Rec Handle) (k : Kept) (p : Views)
      → Here us above stood k p → NoneMarked p.marks (slots k) → T p.values p.values no_draw (Good (bare k))
      → After T us above k k p p (Good (bare k))
  kept_any T us above stood k p b none tells =
      record {
        lasting = lasting_none p (kept_same p.values b.tidy);
        tells = tells;
        room = b.room;
        full = tt;
        gone = [];
        made = [];
        links_drew = refl;
        relinks = record { relinked = relinked_none p.readers; once = b.wired.once; gone_is = λ l i. absurd i; entered = λ l i. absurd i };
        beside = record {
          room = b.room;
          sets = b.sets;
          rooted = b.rooted;
          passed = passed_none p.marks us (slots k);
          steady = λ h x c e. (c, λ y d. d);
        };
        went = record {
          replanted = replanted_kept p.marks us above k b.planted none;
          rewired = rewired_kept p.readers k b.wired.linked b.wired.once;
          gone_is = sym (ap (all_of links_of) (taken_same k));
          made_is = sym (ap (all_of links_of) (given_same k));
          woken = nothing_woke p.readers p.values p.marks us;
        };
        replaced = replaced_kept k;
      }

  pub kept_after : (us : List ℕ) (above : Option Handle) (k : Kept) (p : Views) → Here us above (bare k) k p → NoneMarked p.marks (slots k) → EachRead (Present p.values) (bare k) → Gone us above k k p p (Good (bare k))
  kept_after us above k p b none reads =
      kept_any (TellsOf g (bare k)) us above (bare k) k p b none (quiet_kept g p.values (bare k) b.tidy b.once b.owned reads)

  -- both sides of a par, and a read block
  pub kept_pair : (us : List ℕ) (above : Option Handle) (n : Handle) (l k rest : Kept) (p : Views) → Here us above (rec.S (bare (P n l k)) (bare rest)) (P n l k) p → NoneMarked p.marks (slots (P n l k)) → EachRead (Present p.values) (bare (P n l k)) → PartGone us above rest (P n l k) (P n l k) p p (Good (bare (P n l k)))
  kept_pair us above n l k rest p b none reads =
      let same = kept_same p.values b.tidy in
      kept_any (PartOf g (bare (P n l k)) (bare rest)) us above (rec.S (bare (P n l k)) (bare rest)) (P n l k) p b none
      (turns_add g p.values p.values p.values (bare l) (bare k) (bare rest) no_draw no_draw no_draw (Good (bare l)) (Good (bare k)) b.once b.owned.0.1 b.owned.1 same same refl (with_none no_draw)
      (quiet_kept g p.values (bare l) b.tidy b.once.0.0 b.owned.0.0 reads.0)
      (quiet_kept g p.values (bare k) b.tidy b.once.0.1 b.owned.0.1 reads.1))

  pub kept_block : (us : List ℕ) (above : Option Handle) (c : Reading) (t rest : Kept) (p : Views) → Here us above (rec.S (bare (R c t)) (bare rest)) (R c t) p → NoneMarked p.marks (slots (R c t)) → EachRead (Present p.values) (bare (R c t)) → PartGone us above rest (R c t) (R c t) p p (Good (bare (R c t)))
  kept_block us above c t rest p b none reads =
      kept_any (PartOf g (bare (R c t)) (bare rest)) us above (rec.S (bare (R c t)) (bare rest)) (R c t) p b none
      (block_adds g p.values p.values _ _ _ (reads_of c.reads) (bare t) (bare rest) no_draw (Good (bare t)) b.once reads.0 b.owned.1 (kept_same p.values b.tidy)
      (quiet_kept g p.values (bare t) b.tidy b.once.0 b.owned.0 reads.1))

  -- memory was wanting before anything was done

  pub undone_any : (T : ValueView → ValueView → (CapKind → ℕ) → Ended → Type 0) (us : List ℕ) (above : Option Handle) (stood : Rec Handle) (k new : Kept) (p : Views)
      → Here us above stood k p → T p.values p.values no_draw (Other None) → After T us above k new p p (Other None)
  undone_any T us above stood k new p b tells =
      record {
        lasting = lasting_none p (kept_same p.values b.tidy);
        tells = tells;
        room = tt;
        full = tt;
        gone = [];
        made = [];
        links_drew = refl;
        relinks = record { relinked = relinked_none p.readers; once = b.wired.once; gone_is = λ l i. absurd i; entered = λ l i. absurd i };
        beside = tt;
        went = tt;
        replaced = tt;
      }

  pub end_after : (us : List ℕ) (above : Option Handle) (p : Views) → Here us above rec.E E p → Gone us above E E p p (Good rec.E)
  end_after us above p b = kept_after us above E p b (λ x i. absurd i) tt

  -- what was made, and what was written, before the rest

  module _ (us : List ℕ) (above : Option Handle) (m : Handle) (r : Kept) (p : Views) (b : Here us above (bare (A m r)) (A m r) p) where
    pub made_before : Here us above (bare r) r p
    made_before =
        record {
          checked = b.checked;
          room = b.room;
          sets = b.sets;
          rooted = b.rooted;
          tidy = b.tidy;
          owned = b.owned.1;
          once = b.once.1;
          needs = needs_made g.setting g.funcs Q closed go reading p.values m (bare r) b.once b.owned b.needs;
          planted = planted_made p.marks us above m r b.planted;
          unshared = b.unshared;
          wired = wired_made p.readers p.marks us above m r b.wired;
          ordered = b.ordered;
          aged = λ s i. b.aged s (used_by (bare r) (bare (A m r)) (touch_made m r) s i);
          watched = b.watched;
        }

    pub made_after : (u : Kept) (q : Views) (e : Ended) → Gone us above r u p q e → Gone us above (A m r) (A m u) p q (then_ended (rec.A m) e)
    made_after u q e a =
        record {
          lasting = a.lasting;
          tells = made_adds g p.values q.values m (bare r) a.lasting.drawn e b.once b.owned a.tells;
          room = room_round q (rec.A m) e a.room;
          full = full_round p q (rec.A m) e a.full;
          gone = a.gone;
          made = a.made;
          links_drew = a.links_drew;
          relinks = relinks_as r (A m r) a.gone a.made p q refl a.relinks;
          beside = good_then (rec.A m) e (beside_as us r (A m r) p q refl (free_by (bare (A m r)) (bare r) (touch_made m r))) a.beside;
          went = good_then (rec.A m) e (λ (c : Went us above r u a.gone a.made p q). record {
            replanted = replanted_made p.marks q.marks us above m r u c.replanted;
            rewired = rewired_made p.readers q.readers m r u a.gone a.made c.rewired;
            gone_is = c.gone_is;
            made_is = c.made_is;
            woken = c.woken;
          }) a.went;
          replaced = good_then (rec.A m) e (made_replaces p q m r u a.lasting) a.replaced;
        }

  module _ (us : List ℕ) (above : Option Handle) (m : Handle) (x : Plain) (r : Kept) (p : Views) (b : Here us above (bare (W m x r)) (W m x r) p) where
    pub wrote_before : Here us above (bare r) r p
    wrote_before =
        record {
          checked = b.checked;
          room = b.room;
          sets = b.sets;
          rooted = b.rooted;
          tidy = b.tidy;
          owned = b.owned.2;
          once = b.once;
          needs = needs_wrote g.setting g.funcs Q closed go reading p.values m (value_of x) (bare r) b.owned b.needs;
          planted = planted_wrote p.marks us above m x r b.planted;
          unshared = b.unshared;
          wired = wired_wrote p.readers p.marks us above m x r b.wired;
          ordered = b.ordered;
          aged = λ s i. b.aged s (used_by (bare r) (bare (W m x r)) (touch_wrote m x r) s i);
          watched = b.watched;
        }

    pub wrote_after : (u : Kept) (q : Views) (e : Ended) → Gone us above r u p q e → Gone us above (W m x r) (W m x u) p q (then_ended (rec.W m (value_of x)) e)
    wrote_after u q e a =
        record {
          lasting = a.lasting;
          tells = wrote_adds g p.values q.values m (value_of x) (bare r) a.lasting.drawn e b.owned a.lasting.stays a.tells;
          room = room_round q (rec.W m (value_of x)) e a.room;
          full = full_round p q (rec.W m (value_of x)) e a.full;
          gone = a.gone;
          made = a.made;
          links_drew = a.links_drew;
          relinks = relinks_as r (W m x r) a.gone a.made p q refl a.relinks;
          beside = good_then (rec.W m (value_of x)) e (beside_as us r (W m x r) p q refl (free_by (bare (W m x r)) (bare r) (touch_wrote m x r))) a.beside;
          went = good_then (rec.W m (value_of x)) e (λ (c : Went us above r u a.gone a.made p q). record {
            replanted = replanted_wrote p.marks q.marks us above m x r u c.replanted;
            rewired = rewired_wrote p.readers q.readers m x r u a.gone a.made c.rewired;
            gone_is = c.gone_is;
            made_is = c.made_is;
            woken = c.woken;
          }) a.went;
          replaced = good_then (rec.W m (value_of x)) e (wrote_replaces p q m x r u a.lasting) a.replaced;
        }

  -- a part and the rest behind it

  module _ (us : List ℕ) (above : Option Handle) (n : Handle) (t r : Kept) (p : Views) where
    abbrev pub wide : List ℕ
    wide = n.slot ∷ us ++ slots r

    abbrev pub outer : List ℕ
    outer = n.slot ∷ us

    -- what is so beside the first part alone, or beside both, is so beside the whole
    module _ (pl : Planted p.marks us above (S n t r)) (wi : Wired p.readers p.marks us above (S n t r)) (od : Ordered (S n t r)) where
      beside_both : (q x : Views) → Beside wide t p q → Beside outer r q x → Beside us (S n t r) p x
      beside_both q x a b =
          record {
            room = b.room;
            sets = b.sets;
            rooted = b.rooted;
            passed = passed_then p.marks q.marks x.marks us wide outer (slots (S n t r)) (slots t) (slots r) a.passed b.passed
                (λ y i. inr (member_left y (slots t) (slots r) i))
                (λ y i. inr (member_right y (slots t) (slots r) i))
                (λ y i. elim i [
                  | inl e ↦ inr (inl e)
                  | inr j ↦ ⊎_elim (λ (c : Member y us). inl c) (λ (c : Member y (slots r)). inr (inr (member_right y (slots t) (slots r) c))) (member_cases y us (slots r) j)
                ])
                (λ y i. elim i [ inl e ↦ inr (inl e) | inr j ↦ inl j ]);
            steady = steady_part p.values q.values x.values n t r a.steady b.steady;
          }

      below_both : (u w : Kept) (gone made left new : List Stands) (q x : Views) → Stays p.values q.values → Went wide (Some n) t u gone made p q → Went outer (Some n) r w left new q x → WentBelow us n (S n) t r u w (gone ++ left) (made ++ new) p x
      below_both u w gone made left new q x stays a b =
          record {
            halves = halves_turn p.marks us above n t r pl q.marks u a.replanted x.marks w b.replanted;
            rewired = (steps_wire p.readers p.marks us above n t r pl wi od).both q.readers x.readers u w gone left made new a.rewired b.rewired;
            gone_is = both_all links_of (taken t u) (taken r w) gone left a.gone_is b.gone_is;
            made_is = both_all links_of (given t u) (given r w) made new a.made_is b.made_is;
            woken = (steps_watch p.readers p.values p.marks us above n t r pl wi).both q.readers q.values x.values q.marks x.marks u gone made a.rewired stays b.replanted.passed a.woken b.woken;
          }

      -- both parts are done, and the node is cleared
      below_clear : (u w : Kept) (gone made : List Stands) (q : Views) → WentBelow us n (S n) t r u w gone made p q → Went us above (S n t r) (S n u w) gone made p (record q { marks = cleared n.slot q.marks })
      below_clear u w gone made q a =
          record {
            replanted = replanted_step p.marks us above n t r pl q.marks u w a.halves;
            rewired = a.rewired;
            gone_is = a.gone_is;
            made_is = a.made_is;
            woken = woken_cleared n us p q (λ x i e. pl.apart x i (inl e)) a.woken;
          }

      beside_clear : (u w : Kept) (gone made : List Stands) (q : Views) → WentBelow us n (S n) t r u w gone made p q → Beside us (S n t r) p q → Beside us (S n t r) p (record q { marks = cleared n.slot q.marks })
      beside_clear u w gone made q a b =
          record { room = b.room; sets = b.sets; rooted = rooted_cleared n q.marks b.rooted; passed = (replanted_step p.marks us above n t r pl q.marks u w a.halves).passed; steady = b.steady }

    module _ (b : Here us above (bare (S n t r)) (S n t r) p) where
      pub step_before : Here wide (Some n) (rec.S (bare t) (bare r)) t p
      step_before =
          record {
            checked = b.checked;
            room = b.room;
            sets = b.sets;
            rooted = b.rooted;
            tidy = b.tidy;
            owned = b.owned;
            once = b.once;
            needs = b.needs;
            planted = planted_part p.marks us above n t r b.planted;
            unshared = b.unshared;
            wired = (steps_wire p.readers p.marks us above n t r b.planted b.wired b.ordered).part;
            ordered = b.ordered.1;
            aged = λ s i. b.aged s (used_by (bare t) (bare (S n t r)) (touch_first n t r) s i);
            watched = b.watched.0;
          }

      -- where the part stopped
      step_relinks : (gone made : List Stands) (q : Views) → Relinks p.readers q.readers t gone made → Relinks p.readers q.readers (S n t r) gone made
      step_relinks gone made q a = record { relinked = a.relinked; once = a.once; gone_is = λ l i. index_left l (links_of t) (links_of r) (a.gone_is l i); entered = a.entered }

      pub step_stop : (u new : Kept) (q : Views) (e : Ended) → is_good e ≡ false → PartGone wide (Some n) r t u p q e → Gone us above (S n t r) new p q e
      step_stop u new q (Good z) f a = absurd cc
      step_stop u new q (Fault why line) f a =
          let tells = tells_stop g.setting g.funcs Q closed go reading p.values q.values (bare t) (bare r) a.lasting.drawn why line a.tells in
          stopped _ _ _ _ _ _ _ (Fault why line) f a.lasting tells a.room tt a.gone a.made a.links_drew
          (step_relinks a.gone a.made q a.relinks)
      step_stop u new q (Other want) f a =
          let tells = tells_cut g.setting g.funcs Q closed go reading p.values q.values (bare t) (bare r) a.lasting.drawn want a.tells in
          stopped _ _ _ _ _ _ _ (Other want) f a.lasting tells tt a.full a.gone a.made a.links_drew
          (step_relinks a.gone a.made q a.relinks)

      module _ (u : Kept) (q : Views) (a : PartGone wide (Some n) r t u p q (Good (bare u))) where
        -- where it is done the rest begins
        pub rest_before : Here outer (Some n) (bare r) r q
        rest_before =
            let d = b.needs in
            record {
              checked = b.checked;
              room = a.beside.room;
              sets = a.beside.sets;
              rooted = a.beside.rooted;
              tidy = a.lasting.stays.tidy;
              owned = (a.tells d.0 d.1 d.2 d.3 d.4 d.5 d.6 d.7).11;
              once = b.once.1;
              needs = needs_rest g.setting g.funcs Q closed go reading p.values q.values (bare t) (bare r) (bare u) a.lasting.drawn a.tells d;
              planted = planted_rest p.marks us above n t r b.planted q.marks u a.went.replanted;
              unshared = unshared_on p.marks q.marks wide (slots t) a.beside.passed b.unshared;
              wired = (steps_wire p.readers p.marks us above n t r b.planted b.wired b.ordered).rest q.readers q.marks a.gone a.made a.relinks a.beside.passed
                  (made_unread t u r a.made a.went.made_is (unread_behind g.setting g.funcs Q closed go reading g.same p.values q.values t r u a.lasting.drawn b.once b.owned.1 a.lasting.stays d a.tells));
              ordered = b.ordered.2;
              aged = λ s i. aged_on p.values q.values a.lasting.stays.fixed (a.lasting.claims cap.Mods).list s (b.aged s (used_by (bare r) (bare (S n t r)) (touch_second n t r) s i));
              watched = (steps_watch p.readers p.values p.marks us above n t r b.planted b.wired).rest q.values q.marks a.went.woken a.went.replanted.passed b.watched.1;
            }

        pub rest_after : (w : Kept) (x : Views) (e : Ended) → Gone outer (Some n) r w q x e → AfterBelow (TellsOf g (bare (S n t r))) us n (S n) t r u w p x (then_ended (rec.S (bare u)) e)
        rest_after w x e c =
            record {
              lasting = lasting_then p q x a.lasting c.lasting;
              tells = rest_adds g p.values q.values x.values (bare t) (bare r) (bare u) a.lasting.drawn c.lasting.drawn (λ d. a.lasting.drawn d + c.lasting.drawn d) e a.tells c.lasting.stays (λ d. refl) c.tells;
              room = room_round x (rec.S (bare u)) e c.room;
              full = full_round p x (rec.S (bare u)) e (full_then p q x a.lasting.drew a.lasting.claims e c.full);
              gone = a.gone ++ c.gone;
              made = a.made ++ c.made;
              links_drew = long_both (a.lasting.drew cap.Links) (c.lasting.drew cap.Links) a.made c.made a.links_drew c.links_drew;
              relinks = (steps_wire p.readers p.marks us above n t r b.planted b.wired b.ordered).beside q.readers x.readers a.gone c.gone a.made c.made a.relinks c.relinks;
              beside = good_then (rec.S (bare u)) e (beside_both b.planted b.wired b.ordered q x a.beside) c.beside;
              went = good_then (rec.S (bare u)) e (below_both b.planted b.wired b.ordered u w a.gone a.made c.gone c.made q x a.lasting.stays a.went) c.went;
              replaced = good_then (rec.S (bare u)) e (parts_replace n t r u w p q x a.lasting c.lasting a.replaced) c.replaced;
            }

      pub step_owns_it : (u w : Kept) (gone made : List Stands) (q : Views) → WentBelow us n (S n) t r u w gone made p q → Owns q.marks n
      step_owns_it u w gone made q a = step_owns p.marks us above n t r b.planted q.marks u w a.halves

      pub step_bare_it : (u w : Kept) (gone made : List Stands) (q : Views) → WentBelow us n (S n) t r u w gone made p q → Bare q.marks n.slot
      step_bare_it u w gone made q a = step_bare p.marks us above n t r b.planted q.marks u w a.halves

      -- both are done
      pub step_done : (T : ValueView → ValueView → (CapKind → ℕ) → Ended → Type 0) (u w : Kept) (q : Views) (z : Rec Handle)
          → AfterBelow T us n (S n) t r u w p q (Good z)
          → After T us above (S n t r) (S n u w) p (record q { marks = cleared n.slot q.marks }) (Good z)
      step_done T u w q z a =
          record {
            lasting = lasting_cleared n p q a.lasting;
            tells = a.tells;
            room = a.room;
            full = tt;
            gone = a.gone;
            made = a.made;
            links_drew = a.links_drew;
            relinks = a.relinks;
            beside = beside_clear b.planted b.wired b.ordered u w a.gone a.made q a.went a.beside;
            went = below_clear b.planted b.wired b.ordered u w a.gone a.made q a.went;
            replaced = a.replaced;
          }

  -- one of both parts isn't done
  pub below_stop : (T : ValueView → ValueView → (CapKind → ℕ) → Ended → Type 0) (us : List ℕ) (above : Option Handle) (n : Handle) (f : Kept → Kept → Kept) (t r u w new : Kept) (p q : Views) (e : Ended)
      → is_good e ≡ false → AfterBelow T us n f t r u w p q e → After T us above (f t r) new p q e
  below_stop T us above n f t r u w new p q e h a =
      stopped T us above (f t r) new p q e h a.lasting a.tells a.room a.full a.gone a.made a.links_drew a.relinks

  -- the body of an `if` or a `call`, as a part of the body that it stands in

  body_is : (t : Kept) → is_body t ≡ true → IsBody (bare t)
  body_is E h = tt
  body_is (A m t) h = tt
  body_is (W m v t) h = tt
  body_is (S n t r) h = tt
  body_is (P n t r) h = absurd cc
  body_is (R c t) h = absurd cc

  module _ (us : List ℕ) (above : Option Handle) (t r : Kept) (p : Views) (is : is_body t ≡ true) (b : Here us above (rec.S (bare t) (bare r)) t p) where
    pub body_before : Here us above (bare t) t p
    body_before =
        record {
          checked = b.checked;
          room = b.room;
          sets = b.sets;
          rooted = b.rooted;
          tidy = b.tidy;
          owned = b.owned.0;
          once = b.once.0;
          needs = needs_inner g.setting g.funcs Q closed go reading (bare t) (bare r) (body_is t is) b.once p.values b.needs;
          planted = b.planted;
          unshared = b.unshared;
          wired = b.wired;
          ordered = b.ordered;
          aged = b.aged;
          watched = b.watched;
        }

    pub body_after : (u : Kept) (q : Views) (e : Ended) → Gone us above t u p q e → PartGone us above r t u p q e
    body_after u q e a =
        record {
          lasting = a.lasting;
          tells = inner_adds g p.values q.values (bare t) (bare r) a.lasting.drawn e (body_is t is) b.once b.owned.1 a.lasting.stays a.tells;
          room = a.room;
          full = a.full;
          gone = a.gone;
          made = a.made;
          links_drew = a.links_drew;
          relinks = a.relinks;
          beside = a.beside;
          went = a.went;
          replaced = a.replaced;
        }

  -- both sides of a par, the left one first

  module _ (us : List ℕ) (above : Option Handle) (n : Handle) (l k rest : Kept) (p : Views) (b : Here us above (rec.S (bare (P n l k)) (bare rest)) (P n l k) p) where
    pl : Planted p.marks us above (S n l k)
    pl = planted_pair p.marks us above n l k b.planted

    wi : Wired p.readers p.marks us above (S n l k)
    wi = pair_wired p.readers p.marks us above n l k b.wired

    od : Ordered (S n l k)
    od = pair_ordered n l k b.ordered

    pub left_before : Here (wide us above n l k p) (Some n) (bare l) l p
    left_before =
        record {
          checked = b.checked;
          room = b.room;
          sets = b.sets;
          rooted = b.rooted;
          tidy = b.tidy;
          owned = b.owned.0.0;
          once = b.once.0.0;
          needs = needs_left g.setting g.funcs Q closed go reading (bare l) (bare k) (bare rest) b.once p.values b.needs;
          planted = planted_part p.marks us above n l k pl;
          unshared = b.unshared;
          wired = (steps_wire p.readers p.marks us above n l k pl wi od).part;
          ordered = od.1;
          aged = λ s i. b.aged s (used_by (bare l) (bare (S n l k)) (touch_first n l k) s i);
          watched = b.watched.0;
        }

    -- where it isn't done, the right one isn't tried
    pub left_out : (u new : Kept) (q : Views) (e : Ended) → is_good e ≡ false → Gone (wide us above n l k p) (Some n) l u p q e
        → PartGone us above rest (P n l k) new p q (untried_ended e)
    left_out u new q e f a =
        record {
          lasting = a.lasting;
          tells = untried_adds g p.values q.values (bare l) (bare k) (bare rest) a.lasting.drawn e b.once b.owned.0.1 a.lasting.stays f a.tells;
          room = room_untried q e f;
          full = full_untried p q e a.full;
          gone = a.gone;
          made = a.made;
          links_drew = a.links_drew;
          relinks = record { relinked = a.relinks.relinked; once = a.relinks.once; gone_is = λ x i. index_left x (links_of l) (links_of k) (a.relinks.gone_is x i); entered = a.relinks.entered };
          beside = none_untried (Beside us (P n l k) p q) e;
          went = none_untried (Went us above (P n l k) new a.gone a.made p q) e;
          replaced = none_untried (Replaced (P n l k) new a.lasting.mods (handles_in a.lasting.nodes) a.lasting.gone_nodes) e;
        }

    module _ (u : Kept) (q : Views) (a : Gone (wide us above n l k p) (Some n) l u p q (Good (bare u))) where
      pub right_before : Here (outer us above n l k p) (Some n) (bare k) k q
      right_before =
          let d = b.needs in
          record {
            checked = b.checked;
            room = a.beside.room;
            sets = a.beside.sets;
            rooted = a.beside.rooted;
            tidy = a.lasting.stays.tidy;
            owned = owned_right g.setting g.funcs Q closed go reading (bare l) (bare k) (bare rest) b.once p.values q.values a.lasting.stays b.owned.0.1 a.lasting.drawn (Good (bare u)) refl a.tells d;
            once = b.once.0.1;
            needs = needs_second g.setting g.funcs Q closed go reading (bare l) (bare k) (bare rest) b.once p.values q.values a.lasting.stays b.owned.0.1 a.lasting.drawn (Good (bare u)) refl a.tells d;
            planted = planted_rest p.marks us above n l k pl q.marks u a.went.replanted;
            unshared = unshared_on p.marks q.marks (wide us above n l k p) (slots l) a.beside.passed b.unshared;
            wired = (steps_wire p.readers p.marks us above n l k pl wi od).rest q.readers q.marks a.gone a.made a.relinks a.beside.passed
                (made_unread l u k a.made a.went.made_is (unread_beside g.setting g.funcs Q closed go reading g.same p.values q.values l k u (bare rest) a.lasting.drawn b.once b.tidy b.owned.0.0 b.owned.0.1 a.lasting.stays d a.tells));
            ordered = od.2;
            aged = λ s i. aged_on p.values q.values a.lasting.stays.fixed (a.lasting.claims cap.Mods).list s (b.aged s (used_by (bare k) (bare (S n l k)) (touch_second n l k) s i));
            watched = (steps_watch p.readers p.values p.marks us above n l k pl wi).rest q.values q.marks a.went.woken a.went.replanted.passed b.watched.1;
          }

      right_after : (w : Kept) (x : Views) (e : Ended) → Gone (outer us above n l k p) (Some n) k w q x e → AfterBelow (PartOf g (bare (P n l k)) (bare rest)) us n (S n) l k u w p x (then_ended (rec.P (bare u)) e)
      right_after w x e c =
          record {
            lasting = lasting_then p q x a.lasting c.lasting;
            tells = subst (PartOf g (bare (P n l k)) (bare rest) p.values x.values (λ d. a.lasting.drawn d + c.lasting.drawn d)) (both_then (bare u) e)
                (turns_add g p.values q.values x.values (bare l) (bare k) (bare rest) a.lasting.drawn c.lasting.drawn (λ d. a.lasting.drawn d + c.lasting.drawn d) (Good (bare u)) e b.once b.owned.0.1 b.owned.1 a.lasting.stays c.lasting.stays refl (λ d. refl) a.tells c.tells);
            room = room_round x (rec.P (bare u)) e c.room;
            full = full_round p x (rec.P (bare u)) e (full_then p q x a.lasting.drew a.lasting.claims e c.full);
            gone = a.gone ++ c.gone;
            made = a.made ++ c.made;
            links_drew = long_both (a.lasting.drew cap.Links) (c.lasting.drew cap.Links) a.made c.made a.links_drew c.links_drew;
            relinks = (steps_wire p.readers p.marks us above n l k pl wi od).beside q.readers x.readers a.gone c.gone a.made c.made a.relinks c.relinks;
            beside = good_then (rec.P (bare u)) e (beside_both us above n l k p pl wi od q x a.beside) c.beside;
            went = good_then (rec.P (bare u)) e (below_both us above n l k p pl wi od u w a.gone a.made c.gone c.made q x a.lasting.stays a.went) c.went;
            replaced = good_then (rec.P (bare u)) e (parts_replace n l k u w p q x a.lasting c.lasting a.replaced) c.replaced;
          }

      -- the right side isn't done
      pub right_stop : (w new : Kept) (x : Views) (e : Ended) → is_good e ≡ false → Gone (outer us above n l k p) (Some n) k w q x e → PartGone us above rest (P n l k) new p x (then_ended (rec.P (bare u)) e)
      right_stop w new x (Good z) f c = absurd cc
      right_stop w new x (Fault why line) f c =
          let d = right_after w x (Fault why line) c in
          stopped _ _ _ _ _ _ _ (Fault why line) f d.lasting d.tells d.room tt d.gone d.made d.links_drew
          (relinks_as (S n l k) (P n l k) d.gone d.made p x refl d.relinks)
      right_stop w new x (Other want) f c =
          let d = right_after w x (Other want) c in
          stopped _ _ _ _ _ _ _ (Other want) f d.lasting d.tells tt d.full d.gone d.made d.links_drew
          (relinks_as (S n l k) (P n l k) d.gone d.made p x refl d.relinks)

      module _ (w : Kept) (x : Views) (c : Gone (outer us above n l k p) (Some n) k w q x (Good (bare w))) where
        pub pair_owns : Owns x.marks n
        pair_owns = step_owns p.marks us above n l k pl x.marks u w (right_after w x (Good (bare w)) c).went.halves

        pub pair_bare : Bare x.marks n.slot
        pair_bare = step_bare p.marks us above n l k pl x.marks u w (right_after w x (Good (bare w)) c).went.halves

        pub pair_done : PartGone us above rest (P n l k) (P n u w) p (record x { marks = cleared n.slot x.marks }) (Good (bare (P n u w)))
        pair_done =
            let d = right_after w x (Good (bare w)) c in
            let y : Views = record x { marks = cleared n.slot x.marks } in
            let h = below_clear us above n l k p pl wi od u w d.gone d.made x d.went in
            record {
              lasting = lasting_cleared n p x d.lasting;
              tells = d.tells;
              room = d.room;
              full = tt;
              gone = d.gone;
              made = d.made;
              links_drew = d.links_drew;
              relinks = relinks_as (S n l k) (P n l k) d.gone d.made p x refl d.relinks;
              beside = beside_as us (S n l k) (P n l k) p y refl (λ s e. e) (beside_clear us above n l k p pl wi od u w d.gone d.made x d.went d.beside);
              went = record {
                replanted = replanted_pair p.marks y.marks us above n l k u w h.replanted;
                rewired = rewired_as p.readers x.readers (S n l k) (S n u w) (P n l k) (P n u w) d.gone d.made refl refl h.rewired;
                gone_is = h.gone_is;
                made_is = h.made_is;
                woken = h.woken;
              };
              replaced = replaced_pair d.lasting.mods (handles_in d.lasting.nodes) d.lasting.gone_nodes n l k u w d.replaced;
            }

  -- a read block that read what is present

  module _ (us : List ℕ) (above : Option Handle) (c : Reading) (t rest : Kept) (p : Views) (b : Here us above (rec.S (bare (R c t)) (bare rest)) (R c t) p) where
    abbrev pub below_it : List ℕ
    below_it = c.node.slot ∷ us

    -- what is known of its reads
    pub block_knows : Known p.values c.reads
    block_knows = b.watched.0.0

    module _ (present : EachOf (Present p.values) (reads_of c.reads)) where
      pub block_before : Here below_it (Some c.node) (bare t) t p
      block_before =
          record {
            checked = b.checked;
            room = b.room;
            sets = b.sets;
            rooted = b.rooted;
            tidy = b.tidy;
            owned = b.owned.0;
            once = b.once.0;
            needs = needs_block g.setting g.funcs Q closed go reading (levels - c.level) c.block (env_of c.env) (reads_of c.reads) (bare t) (bare rest) b.once p.values (record { names = refl; seen = present }) b.needs;
            planted = planted_inner p.marks us above c t b.planted;
            unshared = b.unshared;
            wired = (blocks_wire p.readers p.marks us above c t b.planted b.wired).body;
            ordered = b.ordered.1;
            aged = b.aged;
            watched = b.watched.1;
          }

      beside_block : (q : Views) → Beside below_it t p q → Beside us (R c t) p q
      beside_block q a =
          record {
            room = a.room;
            sets = a.sets;
            rooted = a.rooted;
            passed = passed_then p.marks p.marks q.marks us us below_it (slots (R c t)) [] (slots t) (passed_none p.marks us []) a.passed (λ x i. absurd i) (λ x i. inr i) (λ x i. inl i) (λ x i. elim i [ inl e ↦ inr (inl e) | inr j ↦ inl j ]);
            steady = a.steady;
          }

      block_relinks : (gone made : List Stands) (q : Views) → Relinks p.readers q.readers t gone made → Relinks p.readers q.readers (R c t) gone made
      block_relinks gone made q a = (blocks_wire p.readers p.marks us above c t b.planted b.wired).beside q.readers gone made a

      block_tells : (u : Kept) (q : Views) (e : Ended) (a : Gone below_it (Some c.node) t u p q e)
          → PartOf g (bare (R c t)) (bare rest) p.values q.values a.lasting.drawn (then_ended (block_round c) e)
      block_tells u q e a = block_adds g p.values q.values (levels - c.level) c.block (env_of c.env) (reads_of c.reads) (bare t) (bare rest) a.lasting.drawn e b.once present b.owned.1 a.lasting.stays a.tells

      pub block_stop : (u new : Kept) (q : Views) (e : Ended) → is_good e ≡ false → Gone below_it (Some c.node) t u p q e → PartGone us above rest (R c t) new p q (then_ended (block_round c) e)
      block_stop u new q (Good z) f a = absurd cc
      block_stop u new q (Fault why line) f a =
          stopped _ _ _ _ _ _ _ (Fault why line) f a.lasting (block_tells u q (Fault why line) a) a.room tt
          a.gone a.made a.links_drew (block_relinks a.gone a.made q a.relinks)
      block_stop u new q (Other want) f a =
          stopped _ _ _ _ _ _ _ (Other want) f a.lasting (block_tells u q (Other want) a) tt a.full
          a.gone a.made a.links_drew (block_relinks a.gone a.made q a.relinks)

      module _ (u : Kept) (q : Views) (a : Gone below_it (Some c.node) t u p q (Good (bare u))) where
        pub block_owns_it : Owns q.marks c.node
        block_owns_it = block_owns p.marks us above c t b.planted q.marks u a.went.replanted

        pub block_bare_it : Bare q.marks c.node.slot
        block_bare_it = block_bare p.marks us above c t b.planted q.marks u a.went.replanted

        pub block_done : PartGone us above rest (R c t) (R c u) p (record q { marks = cleared c.node.slot q.marks }) (Good (bare (R c u)))
        block_done =
            let z = replanted_block p.marks us above c t b.planted q.marks u a.went.replanted in
            let d = beside_block q a.beside in
            record {
              lasting = lasting_cleared c.node p q a.lasting;
              tells = block_tells u q (Good (bare u)) a;
              room = a.room;
              full = tt;
              gone = a.gone;
              made = a.made;
              links_drew = a.links_drew;
              relinks = block_relinks a.gone a.made q a.relinks;
              beside = record { room = d.room; sets = d.sets; rooted = rooted_cleared c.node q.marks d.rooted; passed = z.passed; steady = d.steady };
              went = record {
                replanted = z;
                rewired = (blocks_wire p.readers p.marks us above c t b.planted b.wired).same q.readers u a.gone a.made a.went.rewired;
                gone_is = a.went.gone_is ∙ sym (ap (all_of links_of) (like_is (reads_of c.reads) (added t []) (taken t u)));
                made_is = a.went.made_is ∙ sym (ap (all_of links_of) (like_is (reads_of c.reads) (added u []) (given t u)));
                woken = woken_cleared c.node us p q (λ x i e. b.planted.apart x i (inl e)) (outside_woke p.readers p.values q.values q.marks q.marks below_it us (λ y i. inr i) (λ y i h. h) a.went.woken);
              };
              replaced = replaced_block a.lasting.mods (handles_in a.lasting.nodes) a.lasting.gone_nodes c t u a.replaced;
            }

pub record_wants : walk.RecordWants
record_wants g us above k new p b =
    undone_any g (TellsOf g (bare k)) us above (bare k) k new p b (tells_nothing g.setting g.funcs (Q g) (closed g) (go g) (reading g) p.values (bare k) None)

pub part_wants : walk.PartWants
part_wants g us above k rest new p b =
    undone_any g (PartOf g (bare k) (bare rest)) us above (rec.S (bare k) (bare rest)) k new p b
    (part_nothing g.setting g.funcs (Q g) (closed g) (go g) (reading g) p.values (bare k) (bare rest) None)
