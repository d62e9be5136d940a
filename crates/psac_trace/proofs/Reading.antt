-- Nodes and links that are claimed before a body runs.
use Rattle.std.specs.Prelude.{sum_by}
use Rattle.std.proofs.Common.{◌≡◌, ℕ, zero, suc, ◌+◌, ◌≤◌, ◌<◌, false, List, [], ◌∷◌, ◌++◌, map, length, drop, Option, Some, slice_index_or, refl, ap, sym, ◌∙◌, subst, inl, inr, ⊎_elim, arith, length-append}
use Rattle.psac_ops.specs.declared.plain.Handle.{Handle}
use Rattle.psac_ops.specs.Value.{Value}
use Rattle.psac_ops.specs.Named.{value_of}
use Rattle.psac_slots.specs.Handles.{Member, word_of}
use Rattle.psac_slots.specs.Claiming.{times}
use Rattle.psac_slots.specs.declared.full.Full.{Full}
use Rattle.psac_slots.proofs.Pairs.{member_left, map_member}
use Rattle.psac_values.specs.declared.view.OwnedView.{OwnedView}
use Rattle.psac_values.specs.declared.view.KnownView.{KnownView}
use Rattle.psac_values.specs.declared.view.ValueView.{ValueView}
use Rattle.psac_values.specs.Knowing.{all_words}
use Rattle.psac_readers.specs.declared.view.ReadersView.{ReadersView}
use Rattle.psac_readers.specs.Steps as readers
use Rattle.psac_readers.specs.Chained.{named}
use Rattle.psac_marks.specs.declared.view.OwnView.{OwnView}
use Rattle.psac_marks.specs.declared.view.MarksView.{MarksView}
use Rattle.psac_marks.specs.Marked as marks_rule
use Rattle.psac_marks.specs.Steps as marks
use Rattle.psac_marks.specs.Steps.{Lacks}
use Rattle.psac_marks.specs.Passes.{Claims as ClaimsNode, Keeps, IsKept, slot_of}
use Rattle.psac_fork.specs.declared.tables.Pass.{Pass}
use Rattle.psac_fork.specs.declared.tables.Tables.{Tables}
use Rattle.psac_fork.specs.Whole.{IsOf, HasRoom}
use Rattle.psac_model.specs.declared.ends.CapKind.TheVariants as cap
use Rattle.psac_model.specs.Names.{Env}
use Rattle.psac_model.specs.Tree.{Reads}
use Rattle.psac_traced.specs.Holds.{EachOf}
use Rattle.psac_plain.specs.declared.ask.Seen.{Seen}
use Rattle.psac_plain.specs.declared.binding.Binding.{Binding}
use Rattle.psac_plain.specs.Slots as plain
use Rattle.psac_plain.specs.Running.{reads_view, seen_pair}
use Rattle.psac_record.specs.declared.parts.Seen.{Seen as Linked}
use Rattle.psac_record.specs.declared.parts.Binding.{Binding as Bound}
use Rattle.psac_record.specs.declared.parts.Reading.{Reading}
use Rattle.psac_record.specs.Kept.{Stands, stands, reads_of, env_of}
use Rattle.psac_trace.specs.declared.halt.Halt.{Halt}
use Rattle.psac_trace.specs.declared.halt.Halt.TheVariants as halt
use Rattle.psac_trace.specs.Rights.{Tidy, Sees}
use Rattle.psac_trace.specs.Fit.{Fit, SetsReady, AtHand, ParentKept}
use Rattle.psac_trace.specs.Grown.{Made, nothing, followed, as_own, Moves}
use Rattle.psac_trace.specs.Running.{Opens, HaltsFor, nodes_only, links_only, read_made, Began}
use Rattle.psac_trace.proofs.Claims.{append_none, over_past, drawn_more}
use Rattle.psac_trace.proofs.Growing.{keeps_on}
use Rattle.psac_trace.proofs.Moving.{moves_none, moves_then, full_then, BesideMarks, BesideReaders, marks_room, readers_room, moves_node, moves_no_node, moves_link, moves_no_link}
use Rattle.psac_trace.proofs.Leaving.{most_front}

pub drop_at : {A : Type 0} (xs : List A) (i : ℕ) (d : A) → i < length xs → drop i xs ≡ slice_index_or xs i d ∷ drop (suc i) xs
drop_at [] i d h = absurd (omega arith)
drop_at (x ∷ xs) zero d h = refl
drop_at (x ∷ xs) (suc i) d h = drop_at xs i d (omega arith)

pub some_left : {A : Type 0} (xs : List A) (i : ℕ) (d : A) → i < length xs → 0 < length (drop i xs)
some_left xs i d h = let e = ap length (drop_at xs i d h) in omega (arith, e)

-- a node
module _ (t : Tables) (p q : Pass) (of : IsOf p t) (tidy : Tidy p.values.knows) (fit : Fit p) (room : HasRoom p) (b : BesideMarks p q) where
  pub node_opens : (h : Handle) (par : Option Handle) → ParentKept par p.marks.knows → ClaimsNode p.marks.knows h (slot_of par) q.marks.knows → Lacks p.marks.knows h.slot → q.marks.knows.claims.over ≡ 0 → IsKept q.marks.knows h.slot → Opens t p q (nodes_only ((h, par) ∷ [])) × Keeps q.marks.knows h
  node_opens h par kept c lacks o k =
      let u = q.marks.knows in
      let new : OwnView = record { node = h; parent = slot_of par } in
      let own_is : u.own ≡ new ∷ p.marks.knows.own = ap (λ (z : MarksView). z.own) c.becomes in
      let here : Member new u.own = subst (Member new) (sym own_is) (inl refl) in
      (record { moves = moves_node t p q of tidy fit b h par kept c lacks; same = ap (λ z. z.knows) b.values; quiet = ap (λ (z : MarksView). z.marked) c.becomes; room = marks_room t p q of tidy fit b room o }, (marks_rule.own_place u.claims.branch new, member_left (marks_rule.own_place u.claims.branch new) (map (marks_rule.own_place u.claims.branch) u.own) (map marks_rule.shared_place u.shared) (map_member (marks_rule.own_place u.claims.branch) new u.own here), refl, k))

  pub node_halts : (h : Handle) (par : Option Handle) (at : Full) → at.room ≡ length p.marks.knows.claims.list → at.room ≤ at.index → q.marks.knows ≡ marks.drew p.marks.knows at.index → HaltsFor t p q (nodes_only ((h, par) ∷ [])) (halt.Full cap.Nodes at)
  node_halts h par at list past e =
      let v = p.marks.knows in
      let low : length v.claims.list ≤ at.index = subst (λ z. z ≤ at.index) list past in
      let o : q.marks.knows.claims.over ≡ v.claims.over + 1 = ap (λ (z : MarksView). z.claims.over) e ∙ over_past v.claims at.index low in
      let r = room.2 in
      let readers_is = ap (λ z. z.knows.claims.over) b.readers ∙ room.1 in
      record {
        made = nothing;
        moves = moves_no_node t p q of tidy fit b at.index low e;
        same = ap (λ z. z.knows) b.values;
        quiet = ap (λ (z : MarksView). z.marked) e;
        mods = refl;
        most = (omega (arith, o, r), omega (arith, readers_is));
        full = record { list = list; past = past; drew = subst (λ (z : MarksView). times at.index v.claims.drawn < times at.index z.claims.drawn) (sym e) (drawn_more v.claims at.index) };
      }

-- halts, behind what was made before, and with more begun
pub halts_more : (t : Tables) (p q : Pass) (a b : Made) (h : Halt) → a.mods ≡ b.mods → length a.nodes ≤ length b.nodes → length a.links ≤ length b.links → HaltsFor t p q a h → HaltsFor t p q b h
halts_more t p q a b (halt.Fault _ _) m n l w = absurd w
halts_more t p q a b (halt.Full _ _) m n l w = record { made = w.made; moves = w.moves; same = w.same; quiet = w.quiet; mods = w.mods ∙ m; most = (let x = w.most.0 in let y = w.most.1 in (omega (arith, x, n), omega (arith, y, l))); full = w.full }
halts_more t p q a b halt.NoMemory m n l w = record { made = w.made; moves = w.moves; same = w.same; quiet = w.quiet; mods = w.mods ∙ m; most = (let x = w.most.0 in let y = w.most.1 in (omega (arith, x, n), omega (arith, y, l))); full = w.full }

pub halts_then : (t : Tables) (p u q : Pass) (m a : Made) (h : Halt) → Moves t p u m → u.values.knows ≡ p.values.knows → u.marks.knows.marked ≡ p.marks.knows.marked → HaltsFor t u q a h → HaltsFor t p q (followed m a) h
halts_then t p u q m a (halt.Fault _ _) mv e f w = absurd w
halts_then t p u q m a (halt.Full which at) mv e f w =
    let front = most_front q m w.made a (w.mods, w.most) in
    record { made = followed m w.made; moves = moves_then t p u q m w.made mv w.moves; same = w.same ∙ e; quiet = w.quiet ∙ f; mods = front.0; most = front.1; full = full_then t p u q m (record { which = which; index = at.index; room = at.room }) mv w.full }
halts_then t p u q m a halt.NoMemory mv e f w =
    let front = most_front q m w.made a (w.mods, w.most) in
    record { made = followed m w.made; moves = moves_then t p u q m w.made mv w.moves; same = w.same ∙ e; quiet = w.quiet ∙ f; mods = front.0; most = front.1; full = tt }

-- want of memory
pub memory_halts : (t : Tables) (p q : Pass) (m b : Made) → Opens t p q m → m.mods ≡ b.mods → length m.nodes ≤ length b.nodes → length m.links ≤ length b.links → HaltsFor t p q b halt.NoMemory
memory_halts t p q m b op e n l =
    let on = op.room.2 in
    let ol = op.room.1 in
    record { made = m; moves = op.moves; same = op.same; quiet = op.quiet; mods = e; most = (omega (arith, on, n), omega (arith, ol, l)); full = tt }

-- links

-- a modifiable that the pass sees has its set at hand
pub sight_hand : (v : ValueView) (r : ReadersView) → SetsReady v r → (m : Handle) (x : Value Handle) → Sees v m x → AtHand m.slot r
sight_hand v r s m x k =
    ⊎_elim
    (λ (a : (w : OwnedView) × Member w v.mine × (w.of ≡ m) × (w.words ≡ all_words k.0)). s.mine m (a.0, a.1, a.2))
    (λ (a : (e : KnownView) × Member e v.known × (e.of ≡ m) × (e.words ≡ all_words k.0)).
    let f = s.known a.0 a.1 in
    let slot : a.0.of.slot ≡ m.slot = ap (λ (z : Handle). z.slot) a.2 in
    (subst (λ z. z < r.mods) slot f.0, inr (f.1.0, f.1.1, f.1.2 ∙ slot)))
    k.2

pub first_sight : (v : ValueView) (seen : List Seen) (i : ℕ) (s : Seen) → drop i seen ≡ s ∷ drop (suc i) seen → EachOf (Sees v) (reads_view (drop i seen)) → Sees v s.from (value_of s.value) × EachOf (Sees v) (reads_view (drop (suc i) seen))
first_sight v seen i s e h = subst (λ z. EachOf (Sees v) (reads_view z)) e h

map_push : {A B : Type 0} (f : A → B) (xs : List A) (y : A) → map f (xs ++ y ∷ []) ≡ map f xs ++ f y ∷ []
map_push f [] y = refl
map_push f (x ∷ xs) y = ap (λ z. f x ∷ z) (map_push f xs y)

pub reads_push : (all : List Linked) (s : Linked) (more : Reads Handle) → reads_of (all ++ s ∷ []) ++ more ≡ reads_of all ++ (s.from, value_of s.value) ∷ more
reads_push [] s more = refl
reads_push (x ∷ all) s more = ap (λ z. (x.from, value_of x.value) ∷ z) (reads_push all s more)

-- the reads whose links aren't there yet
abbrev pub unlinked : Seen → Linked
unlinked s = record { from = s.from; link = record { index = 0 }; value = s.value }

pub unlinked_reads : (seen : List Seen) → reads_of (map unlinked seen) ≡ reads_view seen
unlinked_reads [] = refl
unlinked_reads (s ∷ seen) = ap (λ z. seen_pair s ∷ z) (unlinked_reads seen)

pub whole_reads : (all : List Linked) (seen : List Seen) → reads_of (all ++ map unlinked seen) ≡ reads_of all ++ reads_view seen
whole_reads [] seen = unlinked_reads seen
whole_reads (x ∷ all) seen = ap (λ z. (x.from, value_of x.value) ∷ z) (whole_reads all seen)

length_map : {A B : Type 0} (f : A → B) (xs : List A) → length (map f xs) ≡ length xs
length_map f [] = refl
length_map f (x ∷ xs) = ap suc (length_map f xs)

whole_length : (node : Handle) (all : List Linked) (seen : List Seen) → length (map (stands node) (all ++ map unlinked seen)) ≡ length (map (stands node) all) + length seen
whole_length node all seen =
    let a = length_map (stands node) (all ++ map unlinked seen) in
    let b = length-append all (map unlinked seen) in
    let c = length_map unlinked seen in
    let d = length_map (stands node) all in
    omega (arith, a, b, c, d)

module _ (t : Tables) (p q : Pass) (of : IsOf p t) (tidy : Tidy p.values.knows) (fit : Fit p) (room : HasRoom p) (b : BesideReaders p q) where
  pub link_opens : (s : Stands) → readers.Entered p.readers.knows s.of.slot (word_of s.node) s.link.index q.readers.knows → sum_by (named s.link.index) p.readers.knows.links ≡ 0 → ((x : ℕ) → readers.Has x p.readers.knows → readers.Has x q.readers.knows) → q.readers.knows.claims.over ≡ 0 → Opens t p q (links_only (s ∷ []))
  link_opens s e new has o = record { moves = moves_link t p q of tidy fit b s e new has; same = ap (λ z. z.knows) b.values; quiet = ap (λ z. z.knows.marked) b.marks; room = readers_room t p q of tidy fit b room o }

  pub link_halts : (s : Stands) (at : Full) → at.room ≡ length p.readers.knows.claims.list → at.room ≤ at.index → q.readers.knows ≡ readers.drew p.readers.knows at.index → HaltsFor t p q (links_only (s ∷ [])) (halt.Full cap.Links at)
  link_halts s at list past e =
      let v = p.readers.knows in
      let low : length v.claims.list ≤ at.index = subst (λ z. z ≤ at.index) list past in
      let o : q.readers.knows.claims.over ≡ v.claims.over + 1 = ap (λ (z : ReadersView). z.claims.over) e ∙ over_past v.claims at.index low in
      let r = room.1 in
      let marks_is = ap (λ z. z.knows.claims.over) b.marks ∙ room.2 in
      record {
        made = nothing;
        quiet = ap (λ z. z.knows.marked) b.marks;
        moves = moves_no_link t p q of tidy fit b at.index low e;
        same = ap (λ z. z.knows) b.values;
        mods = refl;
        most = (omega (arith, marks_is), omega (arith, o, r));
        full = record { list = list; past = past; drew = subst (λ (z : ReadersView). times at.index v.claims.drawn < times at.index z.claims.drawn) (sym e) (drawn_more v.claims at.index) };
      }

-- the links so far, and one more
module _ (t : Tables) (p u q : Pass) (node : Handle) (all : List Linked) (op : Opens t p u (links_only (map (stands node) all))) where
  pub link_next : (s : Linked) (more : List Linked) → Opens t u q (links_only (stands node s ∷ [])) → more ≡ all ++ s ∷ [] → Opens t p q (links_only (map (stands node) more))
  link_next s more one is =
      let both = moves_then t p u q (links_only (map (stands node) all)) (links_only (stands node s ∷ [])) op.moves one.moves in
      let list : map (stands node) all ++ stands node s ∷ [] ≡ map (stands node) more = sym (map_push (stands node) all s) ∙ ap (map (stands node)) (sym is) in
      record { moves = subst (λ z. Moves t p q (links_only z)) list both; same = one.same ∙ op.same; quiet = one.quiet ∙ op.quiet; room = one.room }

  pub link_stops : (s : Stands) (seen : List Seen) (h : Halt) → 0 < length seen → HaltsFor t u q (links_only (s ∷ [])) h → HaltsFor t p q (links_only (map (stands node) (all ++ map unlinked seen))) h
  link_stops s seen h more w =
      let n = whole_length node all seen in
      let ls = map (stands node) all in
      let a : Made = followed (links_only ls) (links_only (s ∷ [])) in
      let k = length-append ls (s ∷ []) in
      let rest : Made = links_only (map (stands node) (all ++ map unlinked seen)) in
      halts_more t p q a rest h refl (omega arith) (omega (arith, n, k, more)) (halts_then t p u q (links_only ls) (links_only (s ∷ [])) h op.moves op.same op.quiet w)

pub none_linked : (t : Tables) (p : Pass) (node : Handle) (all : List Linked) → all ≡ [] → IsOf p t → Tidy p.values.knows → Fit p → HasRoom p → Opens t p p (links_only (map (stands node) all))
none_linked t p node all e of tidy fit room = subst (λ z. Opens t p p (links_only (map (stands node) z))) (sym e) (record { moves = moves_none t p of tidy fit; same = refl; quiet = refl; room = room })

-- want of memory for a link that was entered
pub link_lost : (t : Tables) (p q : Pass) (node : Handle) (all more : List Linked) (s : Linked) (seen : List Seen) → 0 < length seen → more ≡ all ++ s ∷ [] → Opens t p q (links_only (map (stands node) more)) → HaltsFor t p q (links_only (map (stands node) (all ++ map unlinked seen))) halt.NoMemory
link_lost t p q node all more s seen l is op =
    let n = whole_length node all seen in
    let m = ap (λ z. length (map (stands node) z)) is ∙ length_map (stands node) (all ++ s ∷ []) in
    let k = length-append all (s ∷ []) in
    let d = length_map (stands node) all in
    let rest : Made = links_only (map (stands node) (all ++ map unlinked seen)) in
    memory_halts t p q (links_only (map (stands node) more)) rest op refl (omega arith) (omega (arith, n, m, k, d, l))

-- the environment as a record keeps it
abbrev pub kept_binding : Binding → Bound
kept_binding b = record { name = b.name; made = false; value = b.value }

pub kept_env_is : (env : List Binding) → env_of (map kept_binding env) ≡ plain.env_of env
kept_env_is [] = refl
kept_env_is (b ∷ env) = ap (λ z. (b.name, value_of b.value) ∷ z) (kept_env_is env)

pub env_push : (all : List Bound) (b : Bound) (more : Env Handle) → env_of (all ++ b ∷ []) ++ more ≡ env_of all ++ (b.name, value_of b.value) ∷ more
env_push [] b more = refl
env_push (x ∷ all) b more = ap (λ z. (x.name, value_of x.value) ∷ z) (env_push all b more)

-- what a block would have begun with
abbrev pub unbegun : ℕ → ℕ → List Binding → Handle → List Linked → Reading
unbegun level number env node reads = record { node = node; block = number; level = level; env = map kept_binding env; reads = reads }

pub unbegun_is : (level number : ℕ) (env : List Binding) (saw : Reads Handle) (node : Handle) (reads : List Linked) → reads_of reads ≡ saw → Began level number (plain.env_of env) saw (unbegun level number env node reads)
unbegun_is level number env saw node reads e = record { level = refl; block = refl; env = kept_env_is env; reads = e }

-- a read block: the node of its statement, its own, and its links
module _ (t : Tables) (p p1 p2 p3 : Pass) (par : Option Handle) (node : Handle) (one : Opens t p p1 (nodes_only ((node, par) ∷ []))) where
  links_end : (ls : List Stands) → (ls ++ []) ++ [] ≡ ls
  links_end ls = append_none (ls ++ []) ∙ append_none ls

  module _ (block : Handle) (two : Opens t p1 p2 (nodes_only ((block, Some node) ∷ []))) where
    pub nodes_moved : Moves t p p2 (nodes_only ((node, par) ∷ (block, Some node) ∷ []))
    nodes_moved = moves_then t p p1 p2 (nodes_only ((node, par) ∷ [])) (nodes_only ((block, Some node) ∷ [])) one.moves two.moves

    pub block_opens : (all : List Linked) (r : Reading) → Opens t p2 p3 (links_only (map (stands block) all)) → r.node ≡ block → r.reads ≡ all → Opens t p p3 (read_made par node r)
    block_opens all r op n rs =
        let both = moves_then t p p2 p3 (nodes_only ((node, par) ∷ (block, Some node) ∷ [])) (links_only (map (stands block) all)) nodes_moved op.moves in
        let whole : Handle → List Stands → Made = λ x ls. record { mods = []; nodes = as_own (node, par) ∷ as_own (x, Some node) ∷ []; links = ls } in
        let list : map (stands block) all ≡ (map (stands r.node) r.reads ++ []) ++ [] = ap (λ z. map (stands block) z) (sym rs) ∙ ap (λ z. map (stands z) r.reads) (sym n) ∙ sym (links_end (map (stands r.node) r.reads)) in
        record {
          moves = subst (λ x. Moves t p p3 (whole x ((map (stands r.node) r.reads ++ []) ++ []))) (sym n) (subst (λ ls. Moves t p p3 (whole block ls)) list both);
          same = op.same ∙ two.same ∙ one.same;
          quiet = op.quiet ∙ two.quiet ∙ one.quiet;
          room = op.room;
        }

    pub block_keeps : (all : List Linked) → Opens t p2 p3 (links_only (map (stands block) all)) → (h : Handle) → Keeps p2.marks.knows h → Keeps p3.marks.knows h
    block_keeps all op h k = keeps_on p2.marks.knows p3.marks.knows [] op.moves.nodes h k

    pub node_keeps : (h : Handle) → Keeps p1.marks.knows h → Keeps p2.marks.knows h
    node_keeps h k = keeps_on p1.marks.knows p2.marks.knows (as_own (block, Some node) ∷ []) two.moves.nodes h k

    pub links_halt : (all : List Linked) (r : Reading) (h : Halt) → r.node ≡ block → r.reads ≡ all → HaltsFor t p2 p3 (links_only (map (stands block) all)) h → HaltsFor t p p3 (read_made par node r) h
    links_halt all r h n rs w =
        let a : Made = followed (nodes_only ((node, par) ∷ (block, Some node) ∷ [])) (links_only (map (stands block) all)) in
        let same : length (map (stands block) all) ≡ length ((map (stands r.node) r.reads ++ []) ++ []) = ap length (ap (λ z. map (stands block) z) (sym rs) ∙ ap (λ z. map (stands z) r.reads) (sym n) ∙ sym (links_end (map (stands r.node) r.reads))) in
        halts_more t p p3 a (read_made par node r) h refl (omega arith) (omega (arith, same))
        (halts_then t p p2 p3 (nodes_only ((node, par) ∷ (block, Some node) ∷ [])) (links_only (map (stands block) all)) h nodes_moved (two.same ∙ one.same) (two.quiet ∙ one.quiet) w)

  -- the second node is wanting
  pub block_halt : (r : Reading) (h : Halt) → HaltsFor t p1 p2 (nodes_only ((r.node, Some node) ∷ [])) h → HaltsFor t p p2 (read_made par node r) h
  block_halt r h w =
      let a : Made = followed (nodes_only ((node, par) ∷ [])) (nodes_only ((r.node, Some node) ∷ [])) in
      halts_more t p p2 a (read_made par node r) h refl (omega arith) (omega arith) (halts_then t p p1 p2 (nodes_only ((node, par) ∷ [])) (nodes_only ((r.node, Some node) ∷ [])) h one.moves one.same one.quiet w)

-- the first node is wanting
pub step_halt : (t : Tables) (p q : Pass) (par : Option Handle) (node : Handle) (r : Reading) (h : Halt) → HaltsFor t p q (nodes_only ((node, par) ∷ [])) h → HaltsFor t p q (read_made par node r) h
step_halt t p q par node r h w = halts_more t p q (nodes_only ((node, par) ∷ [])) (read_made par node r) h refl (omega arith) (omega arith) w

pub memory_lost : (t : Tables) (p q : Pass) (m : Made) → Opens t p q m → HaltsFor t p q m halt.NoMemory
memory_lost t p q m op = memory_halts t p q m m op refl (omega arith) (omega arith)
