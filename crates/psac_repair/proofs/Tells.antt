-- Needs and tells, statement by statement.
use Rattle.std.proofs.Common.{◌≡◌, ℕ, true, false, if◌then◌else◌, List, [], ◌∷◌, ◌++◌, map, Some, None, Ok, Option, refl, ap, sym, ◌∙◌, subst, inl, inr, append_assoc, append-nil, add-zero}
use Rattle.psac_ops.specs.declared.plain.Handle.{Handle}
use Rattle.psac_ops.specs.Value.{Value}
use Rattle.psac_ops.specs.Named.{same_handle}
use Rattle.psac_syntax.specs.declared.program.Stmt.{Stmt, out-Stmt}
use Rattle.psac_syntax.specs.declared.program.Stmt.TheOpen.{Stmt-F}
use Rattle.psac_syntax.specs.declared.program.ReadItem.{ReadItem}
use Rattle.psac_syntax.specs.declared.program.Func.{Func}
use Rattle.psac_values.specs.declared.view.ValueView.{ValueView}
use Rattle.psac_values.specs.Knowing.{Has}
use Rattle.psac_model.specs.declared.ends.CapKind.{CapKind}
use Rattle.psac_model.specs.declared.ends.FaultKind.{FaultKind}
use Rattle.psac_model.specs.declared.ends.End.TheVariants.{Done, Stop}
use Rattle.psac_model.specs.Names.{Env}
use Rattle.psac_model.specs.Expression.{Setting, value_of, in_order, or_kind}
use Rattle.psac_model.specs.Tree.{Reads}
use Rattle.psac_model.specs.Run.{read_of, with_reads, target}
use Rattle.psac_laws.specs.Standing.{Standing, series, in_both}
use Rattle.psac_laws.proofs.Places.{none_some}
use Rattle.psac_naming.specs.Naming.{IsSameTest}
use Rattle.psac_traced.specs.Rec.{Rec, E, A, W, S, P, R, writes, held_by}
use Rattle.psac_traced.specs.Traced.{listed, traced}
use Rattle.psac_traced.specs.Holds.{read_names, EachOf, Sees as SeesIn}
use Rattle.psac_traced.specs.Places.{Makes, IsApart}
use Rattle.psac_traced.specs.Parts.{IsClosed, IsBody}
use Rattle.psac_traced.specs.Mending.{Mending, mended, unlike, anew, below}
use Rattle.psac_model.specs.Tree.{add_size}
use Rattle.psac_cut.specs.CutShort.{cut_short}
use Rattle.psac_cut_repair.specs.CutMended.{CutMended}
use Rattle.psac_cut_repair.proofs.Cutting.{mended_cut}
use Rattle.psac_cut_repair.proofs.Walked.{none_mended}
use Rattle.psac_trace.specs.Grown.{Cause}
use Rattle.psac_traced.proofs.Results.{ok_is, ok_then}
use Rattle.psac_traced.proofs.Again.{reads_there}
use Rattle.psac_trace.specs.Rights.{Heap, held, In, Within, Wider, Sees, Target, Ready, Kept}
use Rattle.psac_repair.specs.Ended.{Ended, Good, Fault, Other, then_ended, both_ended, untried_ended, is_other}
use Rattle.psac_repair.specs.Outcomes.{is_good}
use Rattle.psac_trace.specs.Told as trace
use Rattle.psac_trace.specs.Laws.{NewMade}
use Rattle.psac_repair.specs.Wanted.{ToldAll, TellsAll}
use Rattle.psac_trace.proofs.Results.{target_is}
use Rattle.psac_trace.proofs.Views.{kept_then}
use Rattle.psac_trace.proofs.Heaps.{handle_is, handle_same, not_in, held_back, in_either, within_front, within_fresh, fresh_then, fresh_sides}
use Rattle.psac_repair.specs.Scope.{Reads as ReadBegins, Scope, GoesAlong, ReadsAlong, AllInside, Fills}
use Rattle.psac_repair.specs.Seen.{Now}
use Rattle.psac_repair.specs.Stood.{Stood, Owned}
use Rattle.psac_repair.specs.Mends.{Still, ToldCut, Told, Needs, Tells, TellsPart}
use Rattle.psac_repair.proofs.Drawing.{Draw, DrawMost, Sum, no_draw, draw_none, draw_all, draw_both, most_behind, most_stop}
use Rattle.psac_repair.proofs.Fills.{fills_more, scope_left, scope_right, scope_second, fills_second, target_left, target_right, targets_apart}
use Rattle.psac_repair.proofs.Before.{Always, AtReader, AtInner, at_made, at_wrote, AtPair, at_inner, at_reader, at_pair, part_target, filled}
use Rattle.psac_repair.proofs.Steps.{within_base, made_owned, owned_still, made_then, scope_of, has_of, ready_from, made_none, left_of_stood, told_into, stood_made, told_made, stood_wrote, told_wrote, part_end}

pub same_test : IsSameTest same_handle
same_test = record { itself = handle_same; alone = handle_is }

-- the base behind a part that ended so
abbrev pub after_base : Ended → Heap → Heap
after_base (Good new) base = writes new ++ base
after_base e base = base

-- what reads named, the base has
pub each_in : (w : Setting Handle) (env : Env Handle) (heap base : Heap) (items : List ReadItem) (reads : Reads Handle) → in_order (map (read_of (listed w) w env heap) items) ≡ Ok reads → AllInside w env base items → EachOf (λ m x. In base m) reads
each_in w env heap base [] reads h a = subst (EachOf (λ m x. In base m)) (ok_is h) tt
each_in w env heap base (item ∷ items) reads h a =
    let b = ok_then (read_of (listed w) w env heap item) _ reads h in
    let c = ok_then (in_order (map (read_of (listed w) w env heap) items)) _ reads b.2 in
    let e : b.0 ∷ c.0 ≡ reads = ok_is c.2 in
    let f = ok_then (value_of w env item.from) _ b.0 b.1 in
    let g = ok_then (target f.0) _ b.0 f.2 in
    let i = ok_then (or_kind (held_by w.same heap g.0)) _ b.0 g.2 in
    let k : (g.0, i.0) ≡ b.0 = ok_is i.2 in
    let inside : In base g.0 = a.0 g.0 (f.1 ∙ ap Ok (target_is f.0 g.0 g.1)) in
    subst (EachOf (λ m x. In base m)) e (subst (In base) (ap (λ (z : Handle × Value Handle). z.0) k) inside, each_in w env heap base items c.0 c.1 a.1)

in_again : (base : Heap) (reads again : Reads Handle) → read_names reads ≡ read_names again → EachOf (λ m x. In base m) reads → EachOf (λ m x. In base m) again
in_again base [] [] n h = tt
in_again base [] (q ∷ qs) n h = absurd cc
in_again base (r ∷ rs) [] n h = absurd cc
in_again base (r ∷ rs) (q ∷ qs) n h =
    let head : r.0 ≡ q.0 = cc in
    let tail : read_names rs ≡ read_names qs = cc in
    (subst (In base) head h.0, in_again base rs qs tail h.1)

seen_base : (v : ValueView) (base : Heap) → Within base (Sees v) → (again : Reads Handle) → EachOf (λ m x. In base m) again → EachOf (λ m y. (x : Value Handle) → Sees v m x → y ≡ x) again → SeesIn same_handle base again
seen_base v base s [] i n = tt
seen_base v base s (q ∷ qs) i n = (i.0.1 ∙ ap (λ z. Some z) (sym (n.0 i.0.0 (s q.0 i.0.0 i.0.1))), seen_base v base s qs i.1 n.1)

wider_seen : (base other : Heap) → Wider base other → (again : Reads Handle) → SeesIn same_handle base again → SeesIn same_handle other again
wider_seen base other wi [] s = tt
wider_seen base other wi (q ∷ qs) s = (wi q.0 q.1 s.0, wider_seen base other wi qs s.1)

module _ (w : Setting Handle) (funcs : List Func) (Q : List Stmt → Type 0) (closed : IsClosed funcs Q) (go : GoesAlong w funcs) (reading : ReadsAlong w) where
  -- nothing was done
  pub tells_end : (v : ValueView) → Tells w funcs Q E v v no_draw (Good E)
  tells_end v room body env heap base st end s =
      let f = filled w funcs Q closed go reading E room body env heap st end tt (left_of_stood w funcs Q closed go reading v E room body env heap base st end s) in (
        record { run = λ other wi. refl; fresh = λ m i. absurd (none_some i.1) },
        record { fills = record { closed = s.ready.closed; done = f.done; spares = λ m h i. absurd (none_some i.1) }; sees = s.ready.sees; owned = λ m i. absurd (none_some i.1) },
        λ m x h no ma sx. sx,
        made_none v v,
        draw_none w.same E,
      )

  pub needs_made : (v : ValueView) (m : Handle) (r : Rec Handle) → IsApart (A m r) → Owned v (A m r) → Needs w funcs Q (A m r) v → Needs w funcs Q r v
  needs_made v m r apart ow n =
      let o = at_made w funcs Q closed go reading n.0 n.1 n.2 n.3 n.5 n.6 m r apart (left_of_stood w funcs Q closed go reading v (A m r) n.0 n.1 n.2 n.3 n.4 n.5 n.6 n.7) in
      (o.inner, o.rest, o.here, n.3, n.4, o.mid, n.6, stood_made w funcs Q closed go reading n.0 n.1 n.2 n.3 n.4 n.5 n.6 v m r ow.0 n.7 o)

  pub tells_made : (v u : ValueView) (m : Handle) (r : Rec Handle) → IsApart (A m r) → Owned v (A m r) → (drawn : CapKind → ℕ) (e : Ended)
      → Tells w funcs Q r v u drawn e → Tells w funcs Q (A m r) v u drawn (then_ended (A m) e)
  tells_made v u m r apart ow drawn e t room body env heap base st end s =
      let o = at_made w funcs Q closed go reading room body env heap st end m r apart (left_of_stood w funcs Q closed go reading v (A m r) room body env heap base st end s) in
      told_made w funcs Q closed go reading room body env heap base st end v u m r o drawn e (t o.inner o.rest o.here heap base o.mid end (stood_made w funcs Q closed go reading room body env heap base st end v m r ow.0 s o))

  pub needs_wrote : (v : ValueView) (m : Handle) (y : Value Handle) (r : Rec Handle) → Owned v (W m y r) → Needs w funcs Q (W m y r) v → Needs w funcs Q r v
  needs_wrote v m y r ow n =
      let o = at_wrote w funcs Q closed go reading n.0 n.1 n.2 n.3 n.5 n.6 m y r (left_of_stood w funcs Q closed go reading v (W m y r) n.0 n.1 n.2 n.3 n.4 n.5 n.6 n.7) in
      (o.inner, o.rest, o.here, (m, y) ∷ n.3, (m, y) ∷ n.4, o.mid, n.6, stood_wrote w funcs Q closed go reading n.0 n.1 n.2 n.3 n.4 n.5 n.6 v m y r ow.1 ow.2 n.7 o)

  pub tells_wrote : (v u : ValueView) (m : Handle) (y : Value Handle) (r : Rec Handle) → Owned v (W m y r) → Kept v u
      → (drawn : CapKind → ℕ) (e : Ended) → Tells w funcs Q r v u drawn e → Tells w funcs Q (W m y r) v u drawn (then_ended (W m y) e)
  tells_wrote v u m y r ow k drawn e t room body env heap base st end s =
      let o = at_wrote w funcs Q closed go reading room body env heap st end m y r (left_of_stood w funcs Q closed go reading v (W m y r) room body env heap base st end s) in
      told_wrote w funcs Q closed go reading room body env heap base st end v u m y r ow.0 k (scope_of w st end.unwritten env v base s.ready) o drawn e
      (t o.inner o.rest o.here ((m, y) ∷ heap) ((m, y) ∷ base) o.mid end (stood_wrote w funcs Q closed go reading room body env heap base st end v m y r ow.1 ow.2 s o))

  -- a part, and the rest
  pub needs_rest : (v u : ValueView) (part rest new : Rec Handle) (drawn : CapKind → ℕ) → TellsPart w funcs Q part rest v u drawn (Good new)
      → Needs w funcs Q (S part rest) v → Needs w funcs Q rest u
  needs_rest v u part rest new drawn t n =
      let p = t n.0 n.1 n.2 n.3 n.4 n.5 n.6 n.7 in
      (p.0, p.1, p.2, p.3, p.4, p.5, p.6, p.7)

  pub tells_rest : (v u x : ValueView) (part rest new : Rec Handle) (drawn more all : CapKind → ℕ)
      → TellsPart w funcs Q part rest v u drawn (Good new) → Kept u x → Sum drawn more all → (e : Ended) → Tells w funcs Q rest u x more e
      → Tells w funcs Q (S part rest) v x all (then_ended (S new) e)
  tells_rest v u x part rest new drawn more all t k sum e told room body env heap base st end s =
      let p = t room body env heap base st end s in
      p.8 x more all e k sum (told p.0 p.1 p.2 p.3 p.4 p.5 p.6 p.7)

  pub tells_stop : (v u : ValueView) (part rest : Rec Handle) (drawn : CapKind → ℕ) (why : FaultKind) (line : ℕ)
      → TellsPart w funcs Q part rest v u drawn (Fault why line) → Tells w funcs Q (S part rest) v u drawn (Fault why line)
  tells_stop v u part rest drawn why line t room body env heap base st end s = t room body env heap base st end s

  pub tells_cut : (v u : ValueView) (part rest : Rec Handle) (drawn : CapKind → ℕ) (why : Option Cause)
      → TellsPart w funcs Q part rest v u drawn (Other why) → Tells w funcs Q (S part rest) v u drawn (Other why)
  tells_cut v u part rest drawn why t room body env heap base st end s = t room body env heap base st end s

  -- nothing was done
  pub tells_nothing : (v : ValueView) (old : Rec Handle) (why : Option Cause) → Tells w funcs Q old v v no_draw (Other why)
  tells_nothing v old why room body env heap base st end s = (
    E,
    0,
    record { run = λ other wi. refl },
    subst (NewMade v v) (sym (ap (λ (d : Mending Handle). d.created) (none_mended w.same old))) (made_none v v),
    draw_all no_draw (mended w.same old E).added (draw_none w.same old),
    s.ready.sees,
  )

  pub part_nothing : (v : ValueView) (part rest : Rec Handle) (why : Option Cause) → TellsPart w funcs Q part rest v v no_draw (Other why)
  part_nothing v part rest why = tells_nothing v (S part rest) why

  -- an if or a call
  module _ (t r : Rec Handle) (is : IsBody t) (apart : IsApart (S t r)) where
    abbrev inner_at : (v : ValueView) (room : ℕ) (body : List Stmt) (env : Env Handle) (heap base : Heap) (st end : Standing) → Stood w funcs Q v (S t r) room body env heap base st end → AtInner w funcs Q closed go reading t r room body env heap st end
    inner_at v room body env heap base st end s = at_inner w funcs Q closed go reading room body env heap st end t r is apart (left_of_stood w funcs Q closed go reading v (S t r) room body env heap base st end s)

    stood_inner : (v : ValueView) (room : ℕ) (body : List Stmt) (env : Env Handle) (heap base : Heap) (st end : Standing) → Stood w funcs Q v (S t r) room body env heap base st end → (o : AtInner w funcs Q closed go reading t r room body env heap st end) → Stood w funcs Q v t o.inner o.first o.there heap base o.names o.inner_end
    stood_inner v room body env heap base st end s o =
        record {
          so = o.one.so;
          meets = o.one.meets;
          left_it = o.one.left_it;
          before = o.one.before;
          ready = ready_from w o.names o.inner_end.unwritten o.there v base (o.enter base (scope_of w st end.unwritten env v base s.ready)) s.ready.sees
              (λ m g. has_of w st end.unwritten env v base s.ready m (part_target w funcs Q closed go reading st end env o.now o.mid o.here o.left o.seq m (o.out m g)));
          unmade = o.one.unmade;
          unused = λ m i. s.unused m (inl i);
          beside = o.one.beside;
        }

    pub needs_inner : (v : ValueView) → Needs w funcs Q (S t r) v → Needs w funcs Q t v
    needs_inner v n =
        let o = inner_at v n.0 n.1 n.2 n.3 n.4 n.5 n.6 n.7 in
        (o.inner, o.first, o.there, n.3, n.4, o.names, o.inner_end, stood_inner v n.0 n.1 n.2 n.3 n.4 n.5 n.6 n.7 o)

    pub tells_inner : (v u : ValueView) → Owned v r → Kept v u → (drawn : CapKind → ℕ) (e : Ended) → Tells w funcs Q t v u drawn e
        → TellsPart w funcs Q t r v u drawn e
    tells_inner v u ow k drawn e told room body env heap base st end s =
        let o = inner_at v room body env heap base st end s in
        let f = filled w funcs Q closed go reading t o.inner o.first o.there heap o.names o.inner_end apart.0 o.one in
        let g = fills_more Always Always (Makes t) (Makes t) o.now o.names o.left o.inner_end.unwritten o.here o.there heap (writes t) (λ z h. h) (λ z h. h) o.out o.into f in
        part_end w funcs Q closed go reading room body env heap base st end o.now o.mid o.here o.left o.seq t r v u s apart ow k o.inner o.rest (writes t ++ heap) (o.more g) drawn e
        (told_into w funcs Q closed go reading t o.now o.names o.left o.inner_end.unwritten o.here o.there v u base drawn o.out o.into e (told o.inner o.first o.there heap base o.names o.inner_end (stood_inner v room body env heap base st end s o)))

  -- a read block
  module _ (level number : ℕ) (saved : Env Handle) (reads : Reads Handle) (t r : Rec Handle) (apart : IsApart (S (R level number saved reads t) r)) where
    abbrev block : Rec Handle
    block = R level number saved reads t

    abbrev pub reader_at : (v : ValueView) (room : ℕ) (body : List Stmt) (env : Env Handle) (heap base : Heap) (st end : Standing) → Stood w funcs Q v (S block r) room body env heap base st end → AtReader w funcs Q closed go reading level number saved reads t r room body env heap st end
    reader_at v room body env heap base st end s = at_reader w funcs Q closed go reading room body env heap st end level number saved reads t r apart (left_of_stood w funcs Q closed go reading v (S block r) room body env heap base st end s)

    module _ (v : ValueView) (room : ℕ) (body : List Stmt) (env : Env Handle) (heap base : Heap) (st end : Standing) (s : Stood w funcs Q v (S block r) room body env heap base st end) (o : AtReader w funcs Q closed go reading level number saved reads t r room body env heap st end) where
      abbrev scope_here : Scope w o.now end.unwritten saved base
      scope_here = o.seq.along base (scope_of w st end.unwritten env v base s.ready)

      -- the pass knows what the block reads
      pub all_in_base : EachOf (λ m x. In base m) reads
      all_in_base = each_in w saved heap base o.items reads o.seen (o.steps.inside base scope_here)

      same_is : w.same ≡ same_handle
      same_is = s.ready.same

      pub reads_see : (again : Reads Handle) → Now v reads again → SeesIn same_handle base again
      reads_see again n = seen_base v base s.ready.sees again (in_again base reads again n.names all_in_base) n.seen

      reads_over : (again : Reads Handle) → Now v reads again → in_order (map (read_of (listed w) w saved base) o.items) ≡ Ok again
      reads_over again n = reads_there w saved heap base o.items reads again o.seen n.names (subst (λ z. SeesIn z base again) (sym same_is) (reads_see again n))

    pub known_reads : (v : ValueView) → Needs w funcs Q (S block r) v → EachOf (λ m x. (y : Value Handle) × Sees v m y) reads
    known_reads v n =
        let o = reader_at v n.0 n.1 n.2 n.3 n.4 n.5 n.6 n.7 in
        each_of_sees n.4 n.7.ready.sees reads (all_in_base v n.0 n.1 n.2 n.3 n.4 n.5 n.6 n.7 o)
      where
        each_of_sees : (base : Heap) → Within base (Sees v) → (rs : Reads Handle) → EachOf (λ m x. In base m) rs → EachOf (λ m x. (y : Value Handle) × Sees v m y) rs
        each_of_sees base sees [] i = tt
        each_of_sees base sees (q ∷ qs) i = ((i.0.0, sees q.0 i.0.0 i.0.1), each_of_sees base sees qs i.1)

    -- where the reads see the same, the body of the block stands
    module _ (v : ValueView) (now : Now v reads reads) where
      stood_block : (room : ℕ) (body : List Stmt) (env : Env Handle) (heap base : Heap) (st end : Standing) (s : Stood w funcs Q v (S block r) room body env heap base st end) (o : AtReader w funcs Q closed go reading level number saved reads t r room body env heap st end) → Stood w funcs Q v t level o.first (with_reads saved o.items reads) heap base o.steps.names o.steps.inner_end
      stood_block room body env heap base st end s o =
          let sc = scope_here v room body env heap base st end s o in
          let b = o.steps.begins base reads sc (reads_over v room body env heap base st end s o reads now) in
          record {
            so = o.one.so;
            meets = o.one.meets;
            left_it = o.one.left_it;
            before = o.one.before;
            ready = ready_from w o.steps.names o.steps.inner_end.unwritten (with_reads saved o.items reads) v base b.scope s.ready.sees
                (λ m g. has_of w st end.unwritten env v base s.ready m (part_target w funcs Q closed go reading st end env o.now o.steps.mid saved o.steps.left o.seq m (b.out m g)));
            unmade = o.one.unmade;
            unused = λ m i. s.unused m (inl i);
            beside = o.one.beside;
          }

      pub needs_block : Needs w funcs Q (S block r) v → Needs w funcs Q t v
      needs_block n =
          let o = reader_at v n.0 n.1 n.2 n.3 n.4 n.5 n.6 n.7 in
          (level, o.first, with_reads saved o.items reads, n.3, n.4, o.steps.names, o.steps.inner_end, stood_block n.0 n.1 n.2 n.3 n.4 n.5 n.6 n.7 o)

      -- the block round what its body left
      in_block : (like : unlike w.same reads reads ≡ false) (st : Standing) (left : List ℕ) (u : ValueView) (base : Heap) (drawn : CapKind → ℕ)
          → ((other : Heap) → Wider base other → SeesIn w.same other reads) → (e : Ended) → Told w funcs Q st left saved t v u base drawn e
          → Told w funcs Q st left saved block v u base drawn (then_ended (R level number saved reads) e)
      in_block like st left u base drawn sees (Good new) told = (
        record { run = λ other wi. (refl, refl, refl, refl, sees other wi, inl (refl, told.0.run other wi)); fresh = told.0.fresh },
        record { fills = told.1.fills; sees = told.1.sees; owned = told.1.owned },
        told.2,
        subst (λ z. NewMade v u (if z then anew t new else below (mended w.same t new)).created) (sym like) told.3,
        subst (λ z. Draw drawn (if z then anew t new else below (mended w.same t new)).added) (sym like) told.4,
      )
      in_block like st left u base drawn sees (Fault why line) told = (
        R level number saved reads told.0,
        record { run = λ other wi. (refl, refl, refl, refl, sees other wi, inl (refl, told.1.run other wi)); fresh = told.1.fresh },
        told.2,
        told.3,
        subst (λ z. NewMade v u (if z then anew t told.0 else below (mended w.same t told.0)).created) (sym like) told.4,
        subst (λ z. Draw drawn (if z then anew t told.0 else below (mended w.same t told.0)).added) (sym like) told.5,
      )
      in_block like st left u base drawn sees (Other why) told = (
        R level number saved reads told.0,
        told.1,
        record { run = λ other wi. (refl, refl, refl, refl, sees other wi, inl (refl, told.2.run other wi)) },
        subst (λ z. NewMade v u (if z then anew t told.0 else below (mended w.same t told.0)).created) (sym like) told.3,
        subst (λ z. DrawMost drawn (if z then anew t told.0 else below (mended w.same t told.0)).added told.1) (sym like) told.4,
        told.5,
      )

      pub tells_block : unlike w.same reads reads ≡ false → (u : ValueView) → Owned v r → Kept v u → (drawn : CapKind → ℕ) (e : Ended)
          → Tells w funcs Q t v u drawn e → TellsPart w funcs Q block r v u drawn (then_ended (R level number saved reads) e)
      tells_block like u ow k drawn e told room body env heap base st end s =
          let o = reader_at v room body env heap base st end s in
          let p = o.steps in
          let here = with_reads saved o.items reads in
          let b = p.begins base reads (scope_here v room body env heap base st end s o) (reads_over v room body env heap base st end s o reads now) in
          let c = p.begins heap reads (o.seq.along heap s.before) o.seen in
          let f = filled w funcs Q closed go reading t level o.first here heap p.names p.inner_end apart.0 o.one in
          let g = fills_more Always Always (Makes t) (Makes t) o.now p.names p.left p.inner_end.unwritten saved here heap (writes t) (λ z h. h) (λ z h. h) c.out c.into f in
          part_end w funcs Q closed go reading room body env heap base st end o.now p.mid saved p.left o.seq block r v u s apart ow k level o.rest (writes t ++ heap) (o.more g) drawn (then_ended (R level number saved reads) e)
          (in_block like o.now p.left u base drawn
          (λ other wi. subst (λ z. SeesIn z other reads) (sym s.ready.same) (wider_seen base other wi reads (reads_see v room body env heap base st end s o reads now)))
          e
          (told_into w funcs Q closed go reading t o.now p.names p.left p.inner_end.unwritten saved here v u base drawn b.out b.into e (told level o.first here heap base p.names p.inner_end (stood_block room body env heap base st end s o))))

    -- a number is that of one block
    abbrev pub Numbered : List ReadItem → List Stmt → Type 0
    Numbered items first =
        (s : Stmt) (rest : List Stmt) (line : ℕ) (others : List ReadItem) (body : List Stmt) → out-Stmt s ≡ Stmt-F.Read line number others body → Q (s ∷ rest) → (items ≡ others) × (first ≡ body)

    -- the block was run again over reads that are unlike
    module _ (v : ValueView) (again : Reads Handle) (now : Now v reads again) (other_one : unlike w.same reads again ≡ true) (items : List ReadItem) (first : List Stmt) (one : Numbered items first) where
      redone : (st sr : Standing) (left lr : List ℕ) (u : ValueView) (base : Heap) (drawn : CapKind → ℕ)
          → ((other : Heap) → Wider base other → SeesIn w.same other again)
          → ((m : Handle) → Target sr lr (with_reads saved items again) m → Target st left saved m)
          → ((m : Handle) → Target st left saved m → Target sr lr (with_reads saved items again) m) → (e : Ended)
          → ToldAll (traced w funcs level) (cut_short w funcs level) first sr lr (with_reads saved items again) v u base drawn e
          → Told w funcs Q st left saved block v u base drawn (then_ended (R level number saved again) e)
      redone st sr left lr u base drawn sees out into (Good new) told = (
        record {
          run = λ other wi. (
            refl,
            refl,
            refl,
            now.names,
            sees other wi,
            inr (
              other_one,
              λ s rest line others body is so.
                  let i = one s rest line others body is so in
                  subst (λ z. traced w funcs level z (with_reads saved others again) other new Done) i.1 (subst (λ z. traced w funcs level first (with_reads saved z again) other new Done) i.0 (told.0.run other wi)),
            ),
          );
          fresh = told.0.fresh;
        },
        record {
          fills = record { closed = told.1.closed; done = λ m g. told.1.done m (into m g); spares = λ m h i. inl (out m (told.1.spares m h i)) };
          sees = told.1.sees;
          owned = told.1.owned;
        },
        λ m x h no ma sx. told.2 m x h (λ g. no (out m g)) sx,
        subst (λ z. NewMade v u (if z then anew t new else below (mended w.same t new)).created) (sym other_one) told.3,
        subst (λ z. Draw drawn (if z then anew t new else below (mended w.same t new)).added) (sym other_one) told.4,
      )
      redone st sr left lr u base drawn sees out into (Fault why line) told = (
        R level number saved again told.0,
        record {
          run = λ other wi. (
            refl,
            refl,
            refl,
            now.names,
            sees other wi,
            inr (
              other_one,
              λ s rest num others body is so.
                  let i = one s rest num others body is so in
                  subst (λ z. traced w funcs level z (with_reads saved others again) other told.0 (Stop why line)) i.1 (subst (λ z. traced w funcs level first (with_reads saved z again) other told.0 (Stop why line)) i.0 (told.1.run other wi)),
            ),
          );
          fresh = told.1.fresh;
        },
        told.2,
        λ m x h no ma sx. told.3 m x h (λ g. no (out m g)) sx,
        subst (λ z. NewMade v u (if z then anew t told.0 else below (mended w.same t told.0)).created) (sym other_one) told.4,
        subst (λ z. Draw drawn (if z then anew t told.0 else below (mended w.same t told.0)).added) (sym other_one) told.5,
      )
      redone st sr left lr u base drawn sees out into (Other why) told = (
        R level number saved again told.0,
        told.1,
        record {
          run = λ other wi. (
            refl,
            refl,
            refl,
            now.names,
            sees other wi,
            inr (
              other_one,
              λ s rest line others body is so.
                  let i = one s rest line others body is so in
                  subst (λ z. cut_short w funcs level z (with_reads saved others again) other told.0 told.1) i.1
                  (subst (λ z. cut_short w funcs level first (with_reads saved z again) other told.0 told.1) i.0 (told.2.run other wi)),
            ),
          );
        },
        subst (λ z. NewMade v u (if z then anew t told.0 else below (mended w.same t told.0)).created) (sym other_one) told.3,
        subst (λ z. DrawMost drawn (if z then anew t told.0 else below (mended w.same t told.0)).added told.1) (sym other_one) told.4,
        told.5,
      )

      place : (b : ValueView) (room : ℕ) (body : List Stmt) (env : Env Handle) (heap base : Heap) (st end : Standing) → (o : AtReader w funcs Q closed go reading level number saved reads t r room body env heap st end) → (items ≡ o.items) × (first ≡ o.first)
      place b room body env heap base st end o = one o.stmt o.rest o.line o.items o.first o.is o.so

      pub begun : (room : ℕ) (body : List Stmt) (env : Env Handle) (heap base : Heap) (st end : Standing) (s : Stood w funcs Q v (S block r) room body env heap base st end) (o : AtReader w funcs Q closed go reading level number saved reads t r room body env heap st end) → ReadBegins w o.now o.steps.names o.steps.inner_end o.steps.left saved (with_reads saved items again) base
      begun room body env heap base st end s o =
          subst (λ z. ReadBegins w o.now o.steps.names o.steps.inner_end o.steps.left saved (with_reads saved z again) base) (sym (place v room body env heap base st end o).0)
          (o.steps.begins base again (scope_here v room body env heap base st end s o) (reads_over v room body env heap base st end s o again now))

      pub ready_redo : (room : ℕ) (body : List Stmt) (env : Env Handle) (heap base : Heap) (st end : Standing) (s : Stood w funcs Q v (S block r) room body env heap base st end) (o : AtReader w funcs Q closed go reading level number saved reads t r room body env heap st end) → Ready w o.steps.names o.steps.inner_end.unwritten (with_reads saved items again) v base
      ready_redo room body env heap base st end s o =
          let b = begun room body env heap base st end s o in
          ready_from w o.steps.names o.steps.inner_end.unwritten (with_reads saved items again) v base b.scope s.ready.sees
          (λ m g. has_of w st end.unwritten env v base s.ready m (part_target w funcs Q closed go reading st end env o.now o.steps.mid saved o.steps.left o.seq m (b.out m g)))

      pub meets_redo : (room : ℕ) (body : List Stmt) (env : Env Handle) (heap base : Heap) (st end : Standing) (o : AtReader w funcs Q closed go reading level number saved reads t r room body env heap st end) → series first o.steps.names ≡ Some o.steps.inner_end
      meets_redo room body env heap base st end o = subst (λ z. series z o.steps.names ≡ Some o.steps.inner_end) (sym (place v room body env heap base st end o).1) o.steps.meets

      -- the tracing run may begin
      pub needs_redo : Needs w funcs Q (S block r) v → trace.Needs w first (with_reads saved items again) v
      needs_redo n =
          let o = reader_at v n.0 n.1 n.2 n.3 n.4 n.5 n.6 n.7 in
          (n.4, o.steps.names, o.steps.inner_end, meets_redo n.0 n.1 n.2 n.3 n.4 n.5 n.6 o, ready_redo n.0 n.1 n.2 n.3 n.4 n.5 n.6 n.7 o)

      -- and what it tells is told of the block
      pub tells_redo : (u : ValueView) → Owned v r → Kept v u → (drawn : CapKind → ℕ) (e : Ended)
          → TellsAll w (traced w funcs level) (cut_short w funcs level) first (with_reads saved items again) v u drawn e
          → TellsPart w funcs Q block r v u drawn (then_ended (R level number saved again) e)
      tells_redo u ow k drawn e told room body env heap base st end s =
          let o = reader_at v room body env heap base st end s in
          let p = o.steps in
          let b = begun room body env heap base st end s o in
          let here = with_reads saved o.items reads in
          let c = p.begins heap reads (o.seq.along heap s.before) o.seen in
          let f = filled w funcs Q closed go reading t level o.first here heap p.names p.inner_end apart.0 o.one in
          let g = fills_more Always Always (Makes t) (Makes t) o.now p.names p.left p.inner_end.unwritten saved here heap (writes t) (λ z h. h) (λ z h. h) c.out c.into f in
          part_end w funcs Q closed go reading room body env heap base st end o.now p.mid saved p.left o.seq block r v u s apart ow k level o.rest (writes t ++ heap) (o.more g) drawn (then_ended (R level number saved again) e)
          (redone o.now p.names p.left p.inner_end.unwritten u base drawn
          (λ other wi. subst (λ z. SeesIn z other again) (sym s.ready.same) (wider_seen base other wi again (reads_see v room body env heap base st end s o again now)))
          b.out b.into e
          (told base p.names p.inner_end (meets_redo room body env heap base st end o) (ready_redo room body env heap base st end s o)))

  -- a par, its sides one after the other on one pass
  module _ (l k r : Rec Handle) (apart : IsApart (S (P l k) r)) where
    abbrev pub pair_at : (v : ValueView) (room : ℕ) (body : List Stmt) (env : Env Handle) (heap base : Heap) (st end : Standing) → Stood w funcs Q v (S (P l k) r) room body env heap base st end → AtPair w funcs Q closed go reading l k r room body env heap st end
    pair_at v room body env heap base st end s = at_pair w funcs Q closed go reading room body env heap st end l k r apart (left_of_stood w funcs Q closed go reading v (S (P l k) r) room body env heap base st end s)

    module _ (v : ValueView) (room : ℕ) (body : List Stmt) (env : Env Handle) (heap base : Heap) (st end : Standing) (s : Stood w funcs Q v (S (P l k) r) room body env heap base st end) (o : AtPair w funcs Q closed go reading l k r room body env heap st end) where
      abbrev pub sides : List ℕ
      sides = in_both o.parts.one o.parts.two

      pub pair_scope : Scope w o.now end.unwritten o.here base
      pair_scope = o.seq.along base (scope_of w st end.unwritten env v base s.ready)

      pub to_left : (m : Handle) → Target o.now o.parts.one o.here m → Target o.now sides o.here m
      to_left = target_left w o.now o.mid end.unwritten o.here base o.ls o.rs o.parts pair_scope o.seq.narrows

      pub to_right : (m : Handle) → Target o.now o.parts.two o.here m → Target o.now sides o.here m
      to_right = target_right w o.now o.mid end.unwritten o.here base o.ls o.rs o.parts pair_scope o.seq.narrows

      pub to_whole : (m : Handle) → Target o.now sides o.here m → Target st end.unwritten env m
      to_whole = part_target w funcs Q closed go reading st end env o.now o.mid o.here sides o.seq

      pub had : (m : Handle) → Target o.now sides o.here m → Has v m
      had m g = has_of w st end.unwritten env v base s.ready m (to_whole m g)

      pub old_left : Fills Always (Makes l) o.now o.parts.one o.here heap (writes l)
      old_left = subst (λ z. Fills Always (Makes l) o.now z o.here heap (writes l)) o.one_is (filled w funcs Q closed go reading l o.inner o.ls o.here heap o.now o.one_end apart.0.0 o.one)

      pub stood_left : Stood w funcs Q v l o.inner o.ls o.here heap base o.now o.one_end
      stood_left =
          record {
            so = o.one.so;
            meets = o.one.meets;
            left_it = o.one.left_it;
            before = o.one.before;
            ready = ready_from w o.now o.one_end.unwritten o.here v base (subst (λ z. Scope w o.now z o.here base) (sym o.one_is) (scope_left w o.now o.mid end.unwritten o.here base o.ls o.rs o.parts pair_scope o.seq.narrows)) s.ready.sees
                (λ m g. had m (to_left m (subst (λ z. Target o.now z o.here m) o.one_is g)));
            unmade = o.one.unmade;
            unused = λ m i. s.unused m (inl (inl i));
            beside = o.one.beside;
          }

      module _ (u : ValueView) (ku : Kept v u) (ow : Owned v k) where
        -- the right side, where the left one is done
        pub stood_second : (new : Rec Handle) (drawn : CapKind → ℕ) → Told w funcs Q o.now o.parts.one o.here l v u base drawn (Good new)
            → Stood w funcs Q u k o.inner o.rs o.here (writes l ++ heap) (writes new ++ base) o.now o.two_end
        stood_second new drawn told =
            let q = o.other old_left in
            record {
              so = q.so;
              meets = q.meets;
              left_it = q.left_it;
              before = q.before;
              ready = ready_from w o.now o.two_end.unwritten o.here u (writes new ++ base)
                  (subst (λ z. Scope w o.now z o.here (writes new ++ base)) (sym o.two_is) (scope_second w o.now o.mid end.unwritten o.here base o.ls o.rs o.parts pair_scope o.seq.narrows (Has v) (Makes l) (writes new) told.1.fills (λ m g. had m (to_right m g)) (λ m i g. s.beside m (inl (inl i)) (to_whole m (to_right m g)))))
                  told.1.sees
                  (λ m g. ku.mine m (had m (to_right m (subst (λ z. Target o.now z o.here m) o.two_is g))));
              unmade = q.unmade;
              unused = λ m i.
                  let gone : held (writes new) m ≡ None = not_in (writes new) m (λ j. elim (told.1.fills.spares m (made_owned v k ow m i) j) [ inl g ↦ s.beside m (inl (inr i)) (to_whole m (to_left m g)) | inr h ↦ apart.0.2 m h i ]) in
                  held_back (writes new) base m gone ∙ s.unused m (inl (inr i));
              beside = q.beside;
            }

        -- and where it stopped
        pub stood_stopped : Within base (Sees u) → Stood w funcs Q u k o.inner o.rs o.here (writes l ++ heap) base o.now o.two_end
        stood_stopped sees =
            let q = o.other old_left in
            record {
              so = q.so;
              meets = q.meets;
              left_it = q.left_it;
              before = q.before;
              ready = ready_from w o.now o.two_end.unwritten o.here u base
                  (subst (λ z. Scope w o.now z o.here base) (sym o.two_is) (scope_right w o.now o.mid end.unwritten o.here base o.ls o.rs o.parts pair_scope o.seq.narrows))
                  sees
                  (λ m g. ku.mine m (had m (to_right m (subst (λ z. Target o.now z o.here m) o.two_is g))));
              unmade = q.unmade;
              unused = λ m i. s.unused m (inl (inr i));
              beside = q.beside;
            }

        pub owned_second : Still o.now o.parts.one o.here l v u → Owned u k
        owned_second still =
            let f = filled w funcs Q closed go reading k o.inner o.rs o.here (writes l ++ heap) o.now o.two_end apart.0.1 (o.other old_left) in
            owned_still v u ku.mine k (λ m x i h sx. still m x h
            (λ g. elim (f.spares m tt i) [
              | inl a ↦ targets_apart w o.now o.mid end.unwritten o.here base o.ls o.rs o.parts pair_scope o.seq.narrows m g (subst (λ z. Target o.now z o.here m) o.two_is a)
              | inr b ↦ s.beside m (inl (inr b)) (to_whole m (to_left m g))
            ])
            (λ g. elim (f.spares m tt i) [
              | inl a ↦ s.beside m (inl (inl g)) (to_whole m (to_right m (subst (λ z. Target o.now z o.here m) o.two_is a)))
              | inr b ↦ apart.0.2 m g b
            ])
            sx) ow

        module _ (x : ValueView) (kx : Kept u x) where
          pair_still : Still o.now o.parts.one o.here l v u → Still o.now o.parts.two o.here k u x → Still o.now sides o.here (P l k) v x
          pair_still a b m c h free ma sx = b m c (ku.mine m h) (λ g. free (to_right m g)) (λ i. ma (inr i)) (a m c h (λ g. free (to_left m g)) (λ i. ma (inl i)) sx)

          pub told_turn : (drawn more all : CapKind → ℕ) → Sum drawn more all → (one two : Ended)
              → Told w funcs Q o.now o.parts.one o.here l v u base drawn one
              → Told w funcs Q o.now o.parts.two o.here k u x (after_base one base) more two → is_other one ≡ false
              → Told w funcs Q o.now sides o.here (P l k) v x base all (both_ended one two)
          told_turn drawn more all sum (Good a) (Good b) ta tb full =
              let same = append_assoc (writes b) (writes a) base in (
                record { run = λ other wi. (Done, Done, ta.0.run other wi, tb.0.run (writes a ++ other) (within_front (writes a) base other wi), refl); fresh = fresh_then base (writes a) (writes b) ta.0.fresh tb.0.fresh },
                record {
                  fills = fills_second w o.now o.mid end.unwritten o.here base o.ls o.rs o.parts pair_scope o.seq.narrows (Has v) (Makes l) (writes a) ta.1.fills (λ m g. had m (to_right m g)) (λ m i g. s.beside m (inl (inl i)) (to_whole m (to_right m g))) (Has u) (Makes k) (writes b) ku.mine tb.1.fills;
                  sees = λ m c e. tb.1.sees m c (ap (λ h. held h m) (sym same) ∙ e);
                  owned = λ m i. elim (in_either (writes b) (writes a) m i) [ inl j ↦ tb.1.owned m j | inr j ↦ kx.mine m (ta.1.owned m j) ];
                },
                pair_still ta.2 tb.2,
                made_then v u x (mended w.same l a).created (mended w.same k b).created ku kx ta.3 tb.3,
                draw_both drawn more all (mended w.same l a).added (mended w.same k b).added sum ta.4 tb.4,
              )
          told_turn drawn more all sum (Good a) (Fault why line) ta tb full = (
            P a tb.0,
            record { run = λ other wi. (Done, Stop why line, ta.0.run other wi, tb.1.run (writes a ++ other) (within_front (writes a) base other wi), refl); fresh = fresh_then base (writes a) (writes tb.0) ta.0.fresh tb.1.fresh },
            within_base (writes a) base x ta.0.fresh tb.2,
            pair_still ta.2 tb.3,
            made_then v u x (mended w.same l a).created (mended w.same k tb.0).created ku kx ta.3 tb.4,
            draw_both drawn more all (mended w.same l a).added (mended w.same k tb.0).added sum ta.4 tb.5,
          )
          told_turn drawn more all sum (Fault why line) (Good b) ta tb full = (
            P ta.0 b,
            record { run = λ other wi. (Stop why line, Done, ta.1.run other wi, tb.0.run (writes ta.0 ++ other) (within_fresh (writes ta.0) base other ta.1.fresh wi), refl); fresh = fresh_sides base (writes ta.0) (writes b) ta.1.fresh tb.0.fresh },
            within_base (writes b) base x tb.0.fresh tb.1.sees,
            pair_still ta.3 tb.2,
            made_then v u x (mended w.same l ta.0).created (mended w.same k b).created ku kx ta.4 tb.3,
            draw_both drawn more all (mended w.same l ta.0).added (mended w.same k b).added sum ta.5 tb.4,
          )
          told_turn drawn more all sum (Fault why line) (Fault other_why n) ta tb full = (
            P ta.0 tb.0,
            record { run = λ other wi. (Stop why line, Stop other_why n, ta.1.run other wi, tb.1.run (writes ta.0 ++ other) (within_fresh (writes ta.0) base other ta.1.fresh wi), refl); fresh = fresh_sides base (writes ta.0) (writes tb.0) ta.1.fresh tb.1.fresh },
            tb.2,
            pair_still ta.3 tb.3,
            made_then v u x (mended w.same l ta.0).created (mended w.same k tb.0).created ku kx ta.4 tb.4,
            draw_both drawn more all (mended w.same l ta.0).added (mended w.same k tb.0).added sum ta.5 tb.5,
          )
          told_turn drawn more all sum (Good a) (Other want) ta tb full = (
            P a tb.0,
            tb.1,
            record { run = λ other wi. inr (Done, ta.0.run other wi, tb.2.run (writes a ++ other) (within_front (writes a) base other wi)) },
            made_then v u x (mended w.same l a).created (mended w.same k tb.0).created ku kx ta.3 tb.3,
            most_behind drawn more all (mended w.same l a).added (mended w.same k tb.0).added tb.1 sum ta.4 tb.4,
            within_base (writes a) base x ta.0.fresh tb.5,
          )
          -- the right side goes over the base alone where the left one stopped
          told_turn drawn more all sum (Fault why line) (Other want) ta tb full = (
            P ta.0 tb.0,
            tb.1,
            record { run = λ other wi. inr (Stop why line, ta.1.run other wi, tb.2.run (writes ta.0 ++ other) (within_fresh (writes ta.0) base other ta.1.fresh wi)) },
            made_then v u x (mended w.same l ta.0).created (mended w.same k tb.0).created ku kx ta.4 tb.3,
            most_behind drawn more all (mended w.same l ta.0).added (mended w.same k tb.0).added tb.1 sum ta.5 tb.4,
            tb.5,
          )
          told_turn drawn more all sum (Other why) two ta tb full = absurd cc

    pub to_parts : (v : ValueView) (st : Standing) (a b : List ℕ) (env : Env Handle) (old : Rec Handle) (u : ValueView) (base : Heap) (drawn : CapKind → ℕ) (e : Ended)
        → a ≡ b → Told w funcs Q st a env old v u base drawn e → Told w funcs Q st b env old v u base drawn e
    to_parts v st a b env old u base drawn e i t = subst (λ z. Told w funcs Q st z env old v u base drawn e) i t

    pub needs_left : (v : ValueView) → Needs w funcs Q (S (P l k) r) v → Needs w funcs Q l v
    needs_left v n =
        let o = pair_at v n.0 n.1 n.2 n.3 n.4 n.5 n.6 n.7 in
        (o.inner, o.ls, o.here, n.3, n.4, o.now, o.one_end, stood_left v n.0 n.1 n.2 n.3 n.4 n.5 n.6 n.7 o)

    module _ (v u : ValueView) (ku : Kept v u) (ow : Owned v k) (drawn : CapKind → ℕ) where
      -- what the left side tells where it was cut short
      told_alone : (base : Heap) → ToldCut w funcs Q l v u base drawn → ToldCut w funcs Q (S (P l k) r) v u base drawn
      told_alone base told =
          let x = mended w.same l told.0 in
          let y = mended w.same k E in
          let z = mended w.same r E in (
            S (P told.0 E) E,
            told.1,
            record { run = λ other wi. inl (inl (told.1, 0, told.2.run other wi, refl, add-zero told.1), refl) },
            subst (NewMade v u)
                (sym (ap (λ (d : Mending Handle). (x.created ++ y.created) ++ d.created) (none_mended w.same r) ∙ append-nil (x.created ++ y.created) ∙ ap (λ (d : Mending Handle). x.created ++ d.created) (none_mended w.same k) ∙ append-nil x.created))
                told.3,
            most_stop w.same drawn (add_size x.added y.added) r told.1 (most_stop w.same drawn x.added k told.1 told.4),
            told.5,
          )

      left_told : (room : ℕ) (body : List Stmt) (env : Env Handle) (heap base : Heap) (st end : Standing) (s : Stood w funcs Q v (S (P l k) r) room body env heap base st end) (o : AtPair w funcs Q closed go reading l k r room body env heap st end) (one : Ended)
          → Tells w funcs Q l v u drawn one → Told w funcs Q o.now o.parts.one o.here l v u base drawn one
      left_told room body env heap base st end s o one t =
          to_parts v o.now o.one_end.unwritten o.parts.one o.here l u base drawn one o.one_is (t o.inner o.ls o.here heap base o.now o.one_end (stood_left v room body env heap base st end s o))

      -- the right side begins, unless memory or a table ran out
      pub needs_second : (one : Ended) → is_other one ≡ false → Tells w funcs Q l v u drawn one → Needs w funcs Q (S (P l k) r) v
          → Needs w funcs Q k u
      needs_second (Good a) f t n =
          let o = pair_at v n.0 n.1 n.2 n.3 n.4 n.5 n.6 n.7 in
          (o.inner, o.rs, o.here, writes l ++ n.3, writes a ++ n.4, o.now, o.two_end, stood_second v n.0 n.1 n.2 n.3 n.4 n.5 n.6 n.7 o u ku ow a drawn (left_told n.0 n.1 n.2 n.3 n.4 n.5 n.6 n.7 o (Good a) t))
      needs_second (Fault why line) f t n =
          let o = pair_at v n.0 n.1 n.2 n.3 n.4 n.5 n.6 n.7 in
          (o.inner, o.rs, o.here, writes l ++ n.3, n.4, o.now, o.two_end, stood_stopped v n.0 n.1 n.2 n.3 n.4 n.5 n.6 n.7 o u ku ow (left_told n.0 n.1 n.2 n.3 n.4 n.5 n.6 n.7 o (Fault why line) t).2)
      needs_second (Other why) f t n = absurd cc

      pub owned_right : (one : Ended) → is_other one ≡ false → Tells w funcs Q l v u drawn one → Needs w funcs Q (S (P l k) r) v → Owned u k
      owned_right (Good a) f t n =
          let o = pair_at v n.0 n.1 n.2 n.3 n.4 n.5 n.6 n.7 in
          owned_second v n.0 n.1 n.2 n.3 n.4 n.5 n.6 n.7 o u ku ow (left_told n.0 n.1 n.2 n.3 n.4 n.5 n.6 n.7 o (Good a) t).2
      owned_right (Fault why line) f t n =
          let o = pair_at v n.0 n.1 n.2 n.3 n.4 n.5 n.6 n.7 in
          owned_second v n.0 n.1 n.2 n.3 n.4 n.5 n.6 n.7 o u ku ow (left_told n.0 n.1 n.2 n.3 n.4 n.5 n.6 n.7 o (Fault why line) t).3
      owned_right (Other why) f t n = absurd cc

      module _ (x : ValueView) (kx : Kept u x) (rest_owned : Owned v r) (more : CapKind → ℕ) where
        two_told : (room : ℕ) (body : List Stmt) (env : Env Handle) (heap base : Heap) (st end : Standing) (s : Stood w funcs Q v (S (P l k) r) room body env heap base st end) (o : AtPair w funcs Q closed go reading l k r room body env heap st end) (one two : Ended)
            → is_other one ≡ false → Tells w funcs Q l v u drawn one → Tells w funcs Q k u x more two
            → Told w funcs Q o.now o.parts.two o.here k u x (after_base one base) more two
        two_told room body env heap base st end s o (Good a) two f t q =
            to_parts u o.now o.two_end.unwritten o.parts.two o.here k x (writes a ++ base) more two o.two_is (q o.inner o.rs o.here (writes l ++ heap) (writes a ++ base) o.now o.two_end (stood_second v room body env heap base st end s o u ku ow a drawn (left_told room body env heap base st end s o (Good a) t)))
        two_told room body env heap base st end s o (Fault why line) two f t q =
            to_parts u o.now o.two_end.unwritten o.parts.two o.here k x base more two o.two_is (q o.inner o.rs o.here (writes l ++ heap) base o.now o.two_end (stood_stopped v room body env heap base st end s o u ku ow (left_told room body env heap base st end s o (Fault why line) t).2))
        two_told room body env heap base st end s o (Other why) two f t q = absurd cc

        -- both sides in turn
        pub tells_turn : (all : CapKind → ℕ) → Sum drawn more all → (one two : Ended) → is_other one ≡ false
            → Tells w funcs Q l v u drawn one → Tells w funcs Q k u x more two → TellsPart w funcs Q (P l k) r v x all (both_ended one two)
        tells_turn all sum one two f t q room body env heap base st end s =
            let o = pair_at v room body env heap base st end s in
            let lf = old_left v room body env heap base st end s o in
            let rf = subst (λ z. Fills Always (Makes k) o.now z o.here (writes l ++ heap) (writes k)) o.two_is (filled w funcs Q closed go reading k o.inner o.rs o.here (writes l ++ heap) o.now o.two_end apart.0.1 (o.other lf)) in
            let scope = o.seq.along heap s.before in
            let whole = fills_second w o.now o.mid end.unwritten o.here heap o.ls o.rs o.parts scope o.seq.narrows Always (Makes l) (writes l) lf (λ z g. tt) (λ z j g. s.beside z (inl (inl j)) (to_whole v room body env heap base st end s o z (to_right v room body env heap base st end s o z g))) Always (Makes k) (writes k) (λ z i. i) rf in
            part_end w funcs Q closed go reading room body env heap base st end o.now o.mid o.here (in_both o.parts.one o.parts.two) o.seq (P l k) r v x s apart rest_owned (kept_then v u x ku kx) o.inner o.rest ((writes k ++ writes l) ++ heap) (o.more whole) all (both_ended one two)
            (told_turn v room body env heap base st end s o u ku ow x kx drawn more all sum one two (left_told room body env heap base st end s o one t) (two_told room body env heap base st end s o one two f t q) f)

      -- the left side isn't done, and the right one wasn't tried
      pub tells_untried : (one : Ended) → is_good one ≡ false → Tells w funcs Q l v u drawn one
          → TellsPart w funcs Q (P l k) r v u drawn (untried_ended one)
      tells_untried (Good a) f t room body env heap base st end s = absurd cc
      tells_untried (Fault why line) f t room body env heap base st end s =
          let o = pair_at v room body env heap base st end s in
          let told = left_told room body env heap base st end s o (Fault why line) t in
          let draws = draw_all drawn (mended w.same l told.0).added told.5 in
          let cut : (other : Heap) → Wider base other → CutMended w funcs Q other l told.0 0 =
          λ other wi. mended_cut w funcs Q other l told.0 (Stop why line) (told.1.run other wi) in
          told_alone base (told.0, 0, record { run = cut }, told.4, draws, told.2)
      tells_untried (Other want) f t room body env heap base st end s =
          told_alone base (left_told room body env heap base st end s (pair_at v room body env heap base st end s) (Other want) t)
