-- A record reads nothing before it is written, nor beside what writes it.
use Rattle.std.proofs.Common.{◌≡◌, ◌⊎◌, ℕ, true, false, List, [], ◌∷◌, ◌++◌, map, None, refl, ap, sym, ◌∙◌, subst, inl, inr, ⊎_elim, append_assoc}
use Rattle.psac_ops.specs.declared.plain.Handle.{Handle}
use Rattle.psac_ops.specs.Value.{Value}
use Rattle.psac_ops.specs.Named.{same_handle}
use Rattle.psac_syntax.specs.declared.program.Stmt.{Stmt}
use Rattle.psac_syntax.specs.declared.program.Func.{Func}
use Rattle.psac_slots.specs.Handles.{Member}
use Rattle.psac_slots.proofs.Pairs.{member_cases}
use Rattle.psac_values.specs.declared.view.ValueView.{ValueView}
use Rattle.psac_marks.specs.declared.view.MarksView.{MarksView}
use Rattle.psac_model.specs.declared.ends.End.TheVariants.{Done}
use Rattle.psac_model.specs.Names.{Env}
use Rattle.psac_model.specs.Tree.{Reads}
use Rattle.psac_model.specs.Expression.{Setting}
use Rattle.psac_model.specs.Run.{with_reads}
use Rattle.psac_laws.specs.Standing.{Standing, in_both}
use Rattle.psac_laws.proofs.Places.{not_true, none_some}
use Rattle.psac_traced.specs.Rec.{Rec, E, A, W, S, P, R, writes}
use Rattle.psac_traced.specs.Holds.{EachOf, Sees as SeesIn}
use Rattle.psac_traced.specs.Places.{Makes, IsApart}
use Rattle.psac_traced.specs.Parts.{IsClosed, IsBody}
use Rattle.psac_traced.proofs.Holds.{traced_holds}
use Rattle.psac_traced.proofs.Again.{reads_there}
use Rattle.psac_record.specs.declared.parts.Seen.{Seen}
use Rattle.psac_record.specs.Kept as tree
use Rattle.psac_record.specs.Kept.{Kept as Tree, Stands, stands, links_of, reads_of, bare}
use Rattle.psac_trace.specs.Rights.{Heap, held, In, Wider, Sees, Target, Tidy}
use Rattle.psac_trace.proofs.Heaps.{handle_or, in_either, in_front, in_back, not_in, held_back, within_front, within_fresh}
use Rattle.psac_trace.proofs.Raised.{slots_apart}
use Rattle.psac_repair.specs.Scope.{Scope, GoesAlong, ReadsAlong, Fills}
use Rattle.psac_repair.specs.Seen.{Known}
use Rattle.psac_repair.specs.Stood.{Owned}
use Rattle.psac_repair.specs.Mends.{Needs}
use Rattle.psac_repair.specs.Divided.{writes_slot}
use Rattle.psac_repair.specs.Rewired.{Ordered}
use Rattle.psac_repair.specs.Watched.{Watched}
use Rattle.psac_repair.proofs.Fills.{fills_more, fills_second, scope_left, scope_right, scope_second, targets_apart, target_left, target_right}
use Rattle.psac_repair.proofs.Before.{Always, Left, AtPair, at_made, at_wrote, at_inner, at_reader, at_pair, no_pair}
use Rattle.psac_repair.proofs.Before.{no_block, part_target, rest_target, filled, seq_scope, seq_fills, rest_unmade}
use Rattle.psac_repair.proofs.Before.{wrote_fills}
use Rattle.psac_repair.proofs.Steps.{none_of, left_of_stood}
use Rattle.psac_repair.proofs.Tells.{each_in}
use Rattle.psac_repair.proofs.Forked.{Touches, slot_touch, touched_owned}

-- each read is of what was written before it in the record, but for what the other side of a par wrote, or of what the heap has
abbrev ReadsIn : Heap → Rec Handle → Type 0
ReadsIn h E = Unit {0}
ReadsIn h (A m r) = ReadsIn h r
ReadsIn h (W m v r) = ReadsIn ((m, v) ∷ h) r
ReadsIn h (S t r) = ReadsIn h t × ReadsIn (writes t ++ h) r
ReadsIn h (P l k) = ReadsIn h l × ReadsIn h k
ReadsIn h (R room block env reads t) = EachOf (λ m x. In h m) reads × ReadsIn h t

abbrev ReadOf : Reads Handle → Handle → Type 0
ReadOf [] m = ⊥
ReadOf (r ∷ rs) m = (r.0 ≡ m) ⊎ ReadOf rs m

abbrev ReadsOf : Rec Handle → Handle → Type 0
ReadsOf E m = ⊥
ReadsOf (A n r) m = ReadsOf r m
ReadsOf (W n v r) m = ReadsOf r m
ReadsOf (S t r) m = ReadsOf t m ⊎ ReadsOf r m
ReadsOf (P l k) m = ReadsOf l m ⊎ ReadsOf k m
ReadsOf (R room block env reads t) m = ReadOf reads m ⊎ ReadsOf t m

abbrev Sorted : Rec Handle → Type 0
Sorted E = Unit {0}
Sorted (A m r) = Sorted r
Sorted (W m v r) = Sorted r
Sorted (S t r) = ((m : Handle) → ReadsOf t m → Touches r m → ⊥) × Sorted t × Sorted r ×
    ((m : Handle) → Touches t m → Touches r m → ⊥)
Sorted (P l k) = ((m : Handle) → ReadsOf l m → Touches k m → ⊥) × ((m : Handle) → ReadsOf k m → Touches l m → ⊥) × ((m : Handle) → Touches l m → Touches k m → ⊥) × Sorted l × Sorted k
Sorted (R room block env reads t) = ((m : Handle) → ReadOf reads m → Touches t m → ⊥) × Sorted t

read_in : (h : Heap) (reads : Reads Handle) → EachOf (λ m x. In h m) reads → (m : Handle) → ReadOf reads m → In h m
read_in h [] e m i = absurd i
read_in h (r ∷ rs) e m (inl q) = subst (In h) q e.0
read_in h (r ∷ rs) e m (inr i) = read_in h rs e.1 m i

-- more in front
widen : (a b h : Heap) (m : Handle) → In (a ++ h) m → In ((b ++ a) ++ h) m
widen a b h m i =
    elim (in_either a h m i) [
      | inl x ↦ in_front (b ++ a) h m (in_back b a m x)
      | inr x ↦ in_back (b ++ a) h m x
    ]

reads_within : (h : Heap) (r : Rec Handle) → ReadsIn h r → (m : Handle) → ReadsOf r m → In (writes r ++ h) m
reads_within h E e m i = absurd i
reads_within h (A n r) e m i = reads_within h r e m i
reads_within h (W n v r) e m i = subst (λ z. In z m) (sym (append_assoc (writes r) ((n, v) ∷ []) h)) (reads_within ((n, v) ∷ h) r e m i)
reads_within h (S t r) e m (inl i) = widen (writes t) (writes r) h m (reads_within h t e.0 m i)
reads_within h (S t r) e m (inr i) = subst (λ z. In z m) (sym (append_assoc (writes r) (writes t) h)) (reads_within (writes t ++ h) r e.1 m i)
reads_within h (P l k) e m (inl i) = widen (writes l) (writes k) h m (reads_within h l e.0 m i)
reads_within h (P l k) e m (inr i) =
    elim (in_either (writes k) h m (reads_within h k e.1 m i)) [
      | inl x ↦ in_front (writes k ++ writes l) h m (in_front (writes k) (writes l) m x)
      | inr x ↦ in_back (writes k ++ writes l) h m x
    ]
reads_within h (R room block env reads t) e m (inl i) = in_back (writes t) h m (read_in h reads e.0 m i)
reads_within h (R room block env reads t) e m (inr i) = reads_within h t e.1 m i

in_none : (h : Heap) (m : Handle) → In h m → held h m ≡ None → ⊥
in_none h m i n = none_some (sym n ∙ i.1)

module _ (w : Setting Handle) (funcs : List Func) (Q : List Stmt → Type 0) (closed : IsClosed funcs Q) (go : GoesAlong w funcs) (reading : ReadsAlong w) where
  abbrev Here : Rec Handle → ℕ → List Stmt → Env Handle → Heap → Standing → Standing → Type 0
  Here = Left w funcs Q closed go reading

  -- over another heap that has the scope and is a part of the one that the record was left over
  record Over (r : Rec Handle) (st end : Standing) (env : Env Handle) (other : Heap) : Type 0 where
    pub fills : Fills Always (Makes r) st end.unwritten env other (writes r)
    pub reads : ReadsIn other r
    pub sorted : Sorted r

  abbrev Overs : Rec Handle → Type 0
  Overs r = (room : ℕ) (body : List Stmt) (env : Env Handle) (heap other : Heap) (st end : Standing) → IsApart r → Here r room body env heap st end → Scope w st end.unwritten env other → Wider other heap → ((m : Handle) → Makes r m → held other m ≡ None) → Over r st end env other

  -- what the record touches the heap before it has not
  free : (r : Rec Handle) (st end : Standing) (env : Env Handle) (other : Heap) → Fills Always (Makes r) st end.unwritten env other (writes r) → Scope w st end.unwritten env other → ((m : Handle) → Makes r m → held other m ≡ None) → (m : Handle) → Touches r m → held other m ≡ None
  free r st end env other f sc unmade m (inl i) = unmade m i
  free r st end env other f sc unmade m (inr i) =
      elim (f.spares m tt i) [
        | inl t ↦ none_of w st end.unwritten env other sc m t
        | inr k ↦ unmade m k
      ]

  over_end : Overs E
  over_end room body env heap other st end apart l sc wi unmade =
      let f = filled w funcs Q closed go reading E room body env heap st end tt l in
      record { fills = record { closed = sc.closed; done = f.done; spares = λ m h i. absurd (none_some i.1) }; reads = tt; sorted = tt }

  over_made : (m : Handle) (r : Rec Handle) → Overs r → Overs (A m r)
  over_made m r go_on room body env heap other st end apart l sc wi unmade =
      let o = at_made w funcs Q closed go reading room body env heap st end m r apart l in
      let x = go_on o.inner o.rest o.here heap other o.mid end apart.1 o.more (o.along other sc (unmade m (inl refl))) wi (λ k i. unmade k (inr i)) in
      record {
        fills = record {
          closed = x.fills.closed;
          done = λ k t. x.fills.done k (o.out k t);
          spares = λ k h i. elim (x.fills.spares k h i) [ inl t ↦ elim (o.into k t) [ inl a ↦ inl a | inr b ↦ inr (inl b) ] | inr b ↦ inr (inr b) ];
        };
        reads = x.reads;
        sorted = x.sorted;
      }

  over_wrote : (m : Handle) (v : Value Handle) (r : Rec Handle) → Overs r → Overs (W m v r)
  over_wrote m v r go_on room body env heap other st end apart l sc wi unmade =
      let o = at_wrote w funcs Q closed go reading room body env heap st end m v r l in
      let one = wrote_fills w funcs Q closed go reading room body env heap st end m v r o Always (λ z. ⊥) other sc in
      let next = seq_scope w funcs Q closed go reading st end env o.now o.mid o.here o.left o.seq Always (λ z. ⊥) other ((m, v) ∷ []) sc (λ z g. tt) one (λ z e t. e) in
      let out = rest_unmade w funcs Q closed go reading st end env o.now o.mid o.here o.left o.seq Always (λ z. ⊥) (Makes r) other ((m, v) ∷ []) (λ z j. tt) one unmade l.beside (λ z e j. e) in
      let x = go_on o.inner o.rest o.here ((m, v) ∷ heap) ((m, v) ∷ other) o.mid end apart o.more next (within_front ((m, v) ∷ []) other heap wi) out in
      record {
        fills = fills_more Always Always (λ z. ⊥ ⊎ Makes r z) (Makes r) st st end.unwritten end.unwritten env env other (writes r ++ (m, v) ∷ []) (λ z h. h) (λ z i. ⊎_elim (λ (a : ⊥). absurd a) (λ (b : Makes r z). b) i) (λ z t. t) (λ z t. t)
            (seq_fills w funcs Q closed go reading st end env o.now o.mid o.here o.left o.seq Always Always (λ z. ⊥) (Makes r) other ((m, v) ∷ []) (writes r) (λ z h. h) one x.fills);
        reads = x.reads;
        sorted = x.sorted;
      }

  -- a part, and the rest behind it
  record Parted (t r : Rec Handle) (room : ℕ) (body : List Stmt) (env : Env Handle) (heap other : Heap) (st end : Standing) : Type 0 where
    pub reads : ReadsIn other t
    pub sorted : Sorted t
    pub inner : ℕ
    pub rest : List Stmt
    pub here : Env Handle
    pub over : Heap
    pub mid : Standing
    pub more : Here r inner rest here over mid end
    pub scope : Scope w mid end.unwritten here (writes t ++ other)
    pub wider : Wider (writes t ++ other) over
    pub unmade : (m : Handle) → Makes r m → held (writes t ++ other) m ≡ None
    pub targets : (m : Handle) → Target mid end.unwritten here m → Target st end.unwritten env m
    pub joins : Fills Always (Makes r) mid end.unwritten here (writes t ++ other) (writes r) → Fills Always (Makes (S t r)) st end.unwritten env other (writes (S t r))

  abbrev Parts : Rec Handle → Rec Handle → Type 0
  Parts t r = (room : ℕ) (body : List Stmt) (env : Env Handle) (heap other : Heap) (st end : Standing) → IsApart (S t r) → Here (S t r) room body env heap st end → Scope w st end.unwritten env other → Wider other heap → ((m : Handle) → Makes (S t r) m → held other m ≡ None) → Parted t r room body env heap other st end

  -- what a part touched the rest behind it doesn't
  behind_apart : (t r : Rec Handle) (st end mid : Standing) (env here : Env Handle) (over : Heap) → IsApart (S t r) →
      ((m : Handle) → Makes (S t r) m → Target st end.unwritten env m → ⊥) →
      ((m : Handle) → Target mid end.unwritten here m → Target st end.unwritten env m) → Fills Always
      (Makes r) mid end.unwritten here over (writes r) → ((m : Handle) → In (writes t) m → In over m) →
      ((m : Handle) → Touches r m → held over m ≡ None) → (m : Handle) → Touches t m → Touches r m → ⊥
  behind_apart t r st end mid env here over apart beside targets fills has none m (inr i) j = in_none over m (has m i) (none m j)
  behind_apart t r st end mid env here over apart beside targets fills has none m (inl i) (inl j) = apart.2 m i j
  behind_apart t r st end mid env here over apart beside targets fills has none m (inl i) (inr j) =
      elim (fills.spares m tt j) [
        | inl g ↦ beside m (inl i) (targets m g)
        | inr k ↦ apart.2 m i k
      ]

  over_step : (t r : Rec Handle) → Parts t r → Overs r → Overs (S t r)
  over_step t r part go_on room body env heap other st end apart l sc wi unmade =
      let p = part room body env heap other st end apart l sc wi unmade in
      let x = go_on p.inner p.rest p.here p.over (writes t ++ other) p.mid end apart.1 p.more p.scope p.wider p.unmade in
      record {
        fills = p.joins x.fills;
        reads = (p.reads, x.reads);
        sorted = (
          λ m i j. in_none (writes t ++ other) m (reads_within other t p.reads m i) (free r p.mid end p.here (writes t ++ other) x.fills p.scope p.unmade m j),
          p.sorted,
          x.sorted,
          behind_apart t r st end p.mid env p.here (writes t ++ other) apart l.beside p.targets x.fills
              (λ m i. in_front (writes t) other m i)
              (free r p.mid end p.here (writes t ++ other) x.fills p.scope p.unmade),
        );
      }

  part_inner : (t r : Rec Handle) → IsBody t → Overs t → Parts t r
  part_inner t r b one room body env heap other st end apart l sc wi unmade =
      let o = at_inner w funcs Q closed go reading room body env heap st end t r b apart l in
      let f = filled w funcs Q closed go reading t o.inner o.first o.there heap o.names o.inner_end apart.0 o.one in
      let old = fills_more Always Always (Makes t) (Makes t) o.now o.names o.left o.inner_end.unwritten o.here o.there heap (writes t) (λ z h. h) (λ z h. h) o.out o.into f in
      let x = one o.inner o.first o.there heap other o.names o.inner_end apart.0 o.one (o.enter other sc) wi (λ m i. unmade m (inl i)) in
      let new = fills_more Always Always (Makes t) (Makes t) o.now o.names o.left o.inner_end.unwritten o.here o.there other (writes t) (λ z h. h) (λ z h. h) o.out o.into x.fills in
      record {
        reads = x.reads;
        sorted = x.sorted;
        inner = o.inner;
        rest = o.rest;
        here = o.here;
        over = writes t ++ heap;
        mid = o.mid;
        more = o.more old;
        scope = seq_scope w funcs Q closed go reading st end env o.now o.mid o.here o.left o.seq Always (Makes t) other (writes t) sc (λ z g. tt) new (λ m i g. l.beside m (inl i) g);
        wider = within_front (writes t) other heap wi;
        unmade = rest_unmade w funcs Q closed go reading st end env o.now o.mid o.here o.left o.seq Always (Makes t) (Makes r) other (writes t) (λ m i. tt) new (λ m i. unmade m (inr i)) (λ m i. l.beside m (inr i)) apart.2;
        targets = rest_target w funcs Q closed go reading st end env o.now o.mid o.here o.left o.seq;
        joins = λ y. seq_fills w funcs Q closed go reading st end env o.now o.mid o.here o.left o.seq Always Always (Makes t) (Makes r) other (writes t) (writes r) (λ z h. h) new y;
      }

  -- what the other heap has of the reads is what the block saw
  sees_other : (heap other : Heap) (reads : Reads Handle) → Wider other heap → SeesIn same_handle heap reads → EachOf (λ m x. In other m) reads → SeesIn same_handle other reads
  sees_other heap other [] wi s e = tt
  sees_other heap other (r ∷ rs) wi s e = (e.0.1 ∙ sym (wi r.0 e.0.0 e.0.1) ∙ s.0, sees_other heap other rs wi s.1 e.1)

  part_reader : (level number : ℕ) (saved : Env Handle) (reads : Reads Handle) (t r : Rec Handle) → Overs t → Parts (R level number saved reads t) r
  part_reader level number saved reads t r one room body env heap other st end apart l sc wi unmade =
      let o = at_reader w funcs Q closed go reading room body env heap st end level number saved reads t r apart l in
      let s = o.steps in
      let b = s.begins heap reads (o.seq.along heap l.before) o.seen in
      let f = filled w funcs Q closed go reading t level o.first (with_reads saved o.items reads) heap s.names s.inner_end apart.0 o.one in
      let old = fills_more Always Always (Makes t) (Makes t) o.now s.names s.left s.inner_end.unwritten saved (with_reads saved o.items reads) heap (writes t) (λ z h. h) (λ z h. h) b.out b.into f in
      let along = o.seq.along other sc in
      let each = each_in w saved heap other o.items reads o.seen (s.inside other along) in
      let saw : SeesIn same_handle heap reads = subst (λ z. SeesIn z heap reads) sc.same (traced_holds w funcs room body env heap (S (R level number saved reads t) r) Done l.left_it).0.0 in
      let sees : SeesIn w.same other reads = subst (λ z. SeesIn z other reads) (sym sc.same) (sees_other heap other reads wi saw each) in
      let c = s.begins other reads along (reads_there w saved heap other o.items reads reads o.seen refl sees) in
      let x = one level o.first (with_reads saved o.items reads) heap other s.names s.inner_end apart.0 o.one c.scope wi (λ m i. unmade m (inl i)) in
      let new = fills_more Always Always (Makes t) (Makes t) o.now s.names s.left s.inner_end.unwritten saved (with_reads saved o.items reads) other (writes t) (λ z h. h) (λ z h. h) c.out c.into x.fills in
      record {
        reads = (each, x.reads);
        sorted = (λ m i j. in_none other m (read_in other reads each m i) (free t s.names s.inner_end (with_reads saved o.items reads) other x.fills c.scope (λ k h. unmade k (inl h)) m j), x.sorted);
        inner = level;
        rest = o.rest;
        here = saved;
        over = writes t ++ heap;
        mid = s.mid;
        more = o.more old;
        scope = seq_scope w funcs Q closed go reading st end env o.now s.mid saved s.left o.seq Always (Makes t) other (writes t) sc (λ z g. tt) new (λ m i g. l.beside m (inl i) g);
        wider = within_front (writes t) other heap wi;
        unmade = rest_unmade w funcs Q closed go reading st end env o.now s.mid saved s.left o.seq Always (Makes t) (Makes r) other (writes t) (λ m i. tt) new (λ m i. unmade m (inr i)) (λ m i. l.beside m (inr i)) apart.2;
        targets = rest_target w funcs Q closed go reading st end env o.now s.mid saved s.left o.seq;
        joins = λ y. seq_fills w funcs Q closed go reading st end env o.now s.mid saved s.left o.seq Always Always (Makes t) (Makes r) other (writes t) (writes r) (λ z h. h) new y;
      }

  part_pair : (l k r : Rec Handle) → Overs l → Overs k → Parts (P l k) r
  part_pair l k r one two room body env heap other st end apart lf sc wi unmade =
      record {
        reads = (x.reads, y.reads);
        sorted = (
          λ m i j. in_none (writes l ++ other) m (reads_within other l x.reads m i) (free k o.now o.two_end o.here (writes l ++ other) z.fills second unmade_second m j),
          λ m i j. elim (in_either (writes k) other m (reads_within other k y.reads m i)) [
            | inl a ↦ touch_apart m j (inr a)
            | inr a ↦ in_none other m a (free l o.now o.one_end o.here other x.fills first (λ h q. unmade h (inl (inl q))) m j)
          ],
          touch_apart,
          x.sorted,
          y.sorted,
        );
        inner = o.inner;
        rest = o.rest;
        here = o.here;
        over = (writes k ++ writes l) ++ heap;
        mid = o.mid;
        more = o.more old;
        scope = seq_scope w funcs Q closed go reading st end env o.now o.mid o.here (in_both o.parts.one o.parts.two) o.seq Always (λ m. Makes l m ⊎ Makes k m) other (writes k ++ writes l) sc (λ h g. tt) new (λ m i g. lf.beside m (inl i) g);
        wider = within_front (writes k ++ writes l) other heap wi;
        unmade = rest_unmade w funcs Q closed go reading st end env o.now o.mid o.here (in_both o.parts.one o.parts.two) o.seq Always (λ m. Makes l m ⊎ Makes k m) (Makes r) other (writes k ++ writes l) (λ m i. tt) new (λ m i. unmade m (inr i)) (λ m i. lf.beside m (inr i)) apart.2;
        targets = rest_target w funcs Q closed go reading st end env o.now o.mid o.here (in_both o.parts.one o.parts.two) o.seq;
        joins = λ q. seq_fills w funcs Q closed go reading st end env o.now o.mid o.here (in_both o.parts.one o.parts.two) o.seq Always Always (λ m. Makes l m ⊎ Makes k m) (Makes r) other (writes k ++ writes l) (writes r) (λ h i. i) new q;
      }
    where
      o : AtPair w funcs Q closed go reading l k r room body env heap st end
      o = at_pair w funcs Q closed go reading room body env heap st end l k r apart lf

      along : Scope w o.now end.unwritten o.here other
      along = o.seq.along other sc

      before : Scope w o.now end.unwritten o.here heap
      before = o.seq.along heap lf.before

      whole_left : (m : Handle) → Target o.now o.parts.one o.here m → Target st end.unwritten env m
      whole_left m t = part_target w funcs Q closed go reading st end env o.now o.mid o.here (in_both o.parts.one o.parts.two) o.seq m (target_left w o.now o.mid end.unwritten o.here other o.ls o.rs o.parts along o.seq.narrows m t)

      whole_right : (m : Handle) → Target o.now o.parts.two o.here m → Target st end.unwritten env m
      whole_right m t = part_target w funcs Q closed go reading st end env o.now o.mid o.here (in_both o.parts.one o.parts.two) o.seq m (target_right w o.now o.mid end.unwritten o.here other o.ls o.rs o.parts along o.seq.narrows m t)

      -- over the heap that they were left over
      old_left : Fills Always (Makes l) o.now o.parts.one o.here heap (writes l)
      old_left = subst (λ s. Fills Always (Makes l) o.now s o.here heap (writes l)) o.one_is (filled w funcs Q closed go reading l o.inner o.ls o.here heap o.now o.one_end apart.0.0 o.one)

      old_right : Fills Always (Makes k) o.now o.parts.two o.here (writes l ++ heap) (writes k)
      old_right = subst (λ s. Fills Always (Makes k) o.now s o.here (writes l ++ heap) (writes k)) o.two_is (filled w funcs Q closed go reading k o.inner o.rs o.here (writes l ++ heap) o.now o.two_end apart.0.1 (o.other old_left))

      old : Fills Always (λ m. Makes l m ⊎ Makes k m) o.now (in_both o.parts.one o.parts.two) o.here heap (writes k ++ writes l)
      old = fills_second w o.now o.mid end.unwritten o.here heap o.ls o.rs o.parts before o.seq.narrows Always (Makes l) (writes l) old_left (λ m t. tt) (λ m j t. lf.beside m (inl (inl j)) (whole_right m t)) Always (Makes k) (writes k) (λ m i. i) old_right

      -- and over the other one
      first : Scope w o.now o.one_end.unwritten o.here other
      first = subst (λ s. Scope w o.now s o.here other) (sym o.one_is) (scope_left w o.now o.mid end.unwritten o.here other o.ls o.rs o.parts along o.seq.narrows)

      x : Over l o.now o.one_end o.here other
      x = one o.inner o.ls o.here heap other o.now o.one_end apart.0.0 o.one first wi (λ m i. unmade m (inl (inl i)))

      new_left : Fills Always (Makes l) o.now o.parts.one o.here other (writes l)
      new_left = subst (λ s. Fills Always (Makes l) o.now s o.here other (writes l)) o.one_is x.fills

      right_alone : Scope w o.now o.two_end.unwritten o.here other
      right_alone = subst (λ s. Scope w o.now s o.here other) (sym o.two_is) (scope_right w o.now o.mid end.unwritten o.here other o.ls o.rs o.parts along o.seq.narrows)

      y : Over k o.now o.two_end o.here other
      y = two o.inner o.rs o.here (writes l ++ heap) other o.now o.two_end apart.0.1 (o.other old_left) right_alone
          (within_fresh (writes l) other heap (λ m i. free l o.now o.one_end o.here other x.fills first (λ h q. unmade h (inl (inl q))) m (inr i)) wi)
          (λ m i. unmade m (inl (inr i)))

      second : Scope w o.now o.two_end.unwritten o.here (writes l ++ other)
      second = subst (λ s. Scope w o.now s o.here (writes l ++ other)) (sym o.two_is)
          (scope_second w o.now o.mid end.unwritten o.here other o.ls o.rs o.parts along o.seq.narrows Always (Makes l) (writes l) new_left (λ m t. tt) (λ m j t. lf.beside m (inl (inl j)) (whole_right m t)))

      unmade_second : (m : Handle) → Makes k m → held (writes l ++ other) m ≡ None
      unmade_second m i =
          let out : held (writes l) m ≡ None = not_in (writes l) m (λ j. elim (new_left.spares m tt j) [
            | inl t ↦ lf.beside m (inl (inr i)) (whole_left m t)
            | inr q ↦ apart.0.2 m q i
          ]) in
          held_back (writes l) other m out ∙ unmade m (inl (inr i))

      z : Over k o.now o.two_end o.here (writes l ++ other)
      z = two o.inner o.rs o.here (writes l ++ heap) (writes l ++ other) o.now o.two_end apart.0.1 (o.other old_left) second (within_front (writes l) other heap wi) unmade_second

      new_right : Fills Always (Makes k) o.now o.parts.two o.here (writes l ++ other) (writes k)
      new_right = subst (λ s. Fills Always (Makes k) o.now s o.here (writes l ++ other) (writes k)) o.two_is z.fills

      new : Fills Always (λ m. Makes l m ⊎ Makes k m) o.now (in_both o.parts.one o.parts.two) o.here other (writes k ++ writes l)
      new = fills_second w o.now o.mid end.unwritten o.here other o.ls o.rs o.parts along o.seq.narrows Always (Makes l) (writes l) new_left (λ m t. tt) (λ m j t. lf.beside m (inl (inl j)) (whole_right m t)) Always (Makes k) (writes k) (λ m i. i) new_right

      touch_apart : (m : Handle) → Touches l m → Touches k m → ⊥
      touch_apart m (inl a) (inl b) = apart.0.2 m a b
      touch_apart m (inl a) (inr b) = elim (new_right.spares m tt b) [ inl t ↦ lf.beside m (inl (inl a)) (whole_right m t) | inr q ↦ apart.0.2 m a q ]
      touch_apart m (inr a) (inl b) = elim (new_left.spares m tt a) [ inl t ↦ lf.beside m (inl (inr b)) (whole_left m t) | inr q ↦ apart.0.2 m q b ]
      touch_apart m (inr a) (inr b) =
          elim (new_left.spares m tt a) [
            | inl t ↦
                elim (new_right.spares m tt b) [
                  | inl u ↦ targets_apart w o.now o.mid end.unwritten o.here other o.ls o.rs o.parts along o.seq.narrows m t u
                  | inr q ↦ lf.beside m (inl (inr q)) (whole_left m t)
                ]
            | inr q ↦ elim (new_right.spares m tt b) [ inl u ↦ lf.beside m (inl (inl q)) (whole_right m u) | inr p ↦ apart.0.2 m q p ]
          ]

  overs : (r : Rec Handle) → Overs r
  overs E = over_end
  overs (A m r) = over_made m r (overs r)
  overs (W m v r) = over_wrote m v r (overs r)
  overs (S (P l k) r) = over_step (P l k) r (part_pair l k r (overs l) (overs k)) (overs r)
  overs (S (R level number saved reads t) r) = over_step (R level number saved reads t) r (part_reader level number saved reads t r (overs t)) (overs r)
  overs (S E r) = over_step E r (part_inner E r tt (overs E)) (overs r)
  overs (S (A m t) r) = over_step (A m t) r (part_inner (A m t) r tt (overs (A m t))) (overs r)
  overs (S (W m v t) r) = over_step (W m v t) r (part_inner (W m v t) r tt (overs (W m v t))) (overs r)
  overs (S (S a t) r) = over_step (S a t) r (part_inner (S a t) r tt (overs (S a t))) (overs r)
  overs (P l k) = λ room body env heap other st end apart lf. absurd (no_pair w funcs Q closed go reading room body env heap st end l k lf.so lf.meets lf.before lf.left_it)
  overs (R level number saved reads t) = λ room body env heap other st end apart lf. absurd (no_block w funcs Q closed go reading room body env heap st end level number saved reads t lf.so lf.meets lf.before lf.left_it)

  pub sorted : (v : ValueView) (r : Rec Handle) → IsApart r → Needs w funcs Q r v → Sorted r
  sorted v r apart n =
      let l = left_of_stood w funcs Q closed go reading v r n.0 n.1 n.2 n.3 n.4 n.5 n.6 n.7 in
      (overs r n.0 n.1 n.2 n.3 n.3 n.5 n.6 apart l l.before (λ m x e. e) l.unmade).sorted

-- of slots, where the pass knows what was read and has what was touched
read_of_seen : (node : Handle) (reads : List Seen) (s : Stands) → Member s (map (stands node) reads) → ReadOf (reads_of reads) s.of
read_of_seen node [] s i = absurd i
read_of_seen node (r ∷ rs) s (inl e) = inl (ap (λ (z : Stands). z.of) e)
read_of_seen node (r ∷ rs) s (inr i) = inr (read_of_seen node rs s i)

link_read : (k : Tree) (s : Stands) → Member s (links_of k) → ReadsOf (bare k) s.of
link_read tree.E s i = absurd i
link_read (tree.A m k) s i = link_read k s i
link_read (tree.W m x k) s i = link_read k s i
link_read (tree.S n t k) s i = ⊎_elim (λ (j : Member s (links_of t)). inl (link_read t s j)) (λ (j : Member s (links_of k)). inr (link_read k s j)) (member_cases s (links_of t) (links_of k) i)
link_read (tree.P n t k) s i = ⊎_elim (λ (j : Member s (links_of t)). inl (link_read t s j)) (λ (j : Member s (links_of k)). inr (link_read k s j)) (member_cases s (links_of t) (links_of k) i)
link_read (tree.R b t) s i =
    ⊎_elim (λ (j : Member s (map (stands b.node) b.reads)). inl (read_of_seen b.node b.reads s j)) (λ (j : Member s (links_of t)). inr (link_read t s j)) (member_cases s (map (stands b.node) b.reads) (links_of t) i)

known_at : (v : ValueView) (node : Handle) (reads : List Seen) → Known v reads → (s : Stands) → Member s (map (stands node) reads) → (x : Value Handle) × Sees v s.of x
known_at v node [] k s i = absurd i
known_at v node (r ∷ rs) k s (inl e) = subst (λ (z : Stands). (x : Value Handle) × Sees v z.of x) e k.0
known_at v node (r ∷ rs) k s (inr i) = known_at v node rs k.1 s i

link_known : (v : ValueView) (m : MarksView) (k : Tree) → Watched v m k → (s : Stands) → Member s (links_of k) → (x : Value Handle) × Sees v s.of x
link_known v m tree.E h s i = absurd i
link_known v m (tree.A n k) h s i = link_known v m k h s i
link_known v m (tree.W n x k) h s i = link_known v m k h s i
link_known v m (tree.S n t k) h s i = ⊎_elim (λ (j : Member s (links_of t)). link_known v m t h.0 s j) (λ (j : Member s (links_of k)). link_known v m k h.1 s j) (member_cases s (links_of t) (links_of k) i)
link_known v m (tree.P n t k) h s i = ⊎_elim (λ (j : Member s (links_of t)). link_known v m t h.0 s j) (λ (j : Member s (links_of k)). link_known v m k h.1 s j) (member_cases s (links_of t) (links_of k) i)
link_known v m (tree.R b t) h s i =
    ⊎_elim (λ (j : Member s (map (stands b.node) b.reads)). known_at v b.node b.reads h.0.0 s j) (λ (j : Member s (links_of t)). link_known v m t h.1 s j) (member_cases s (map (stands b.node) b.reads) (links_of t) i)

module _ (v : ValueView) (m : MarksView) (tidy : Tidy v) where
  unread_slot : (k : Tree) → Owned v (bare k) → (s : Stands) → ((x : Value Handle) × Sees v s.of x) → (Touches (bare k) s.of → ⊥) → writes_slot (bare k) s.of.slot ≡ false
  unread_slot k own s known out =
      not_true (writes_slot (bare k) s.of.slot) (λ t.
      let n = slot_touch (bare k) s.of.slot t in
      elim (handle_or s.of n.0) [
        | inl e ↦ out (subst (Touches (bare k)) (sym e) n.1)
        | inr d ↦ slots_apart v tidy s.of n.0 known.0 known.1 (touched_owned v (bare k) own n.0 n.1) d.0 (sym n.2)
      ])

  sides_slots : (l k : Tree) → Owned v (bare l) → Owned v (bare k) → ((h : Handle) → Touches (bare l) h → Touches (bare k) h → ⊥) → (s : ℕ) → writes_slot (bare l) s ≡ true → writes_slot (bare k) s ≡ false
  sides_slots l k ol ok out s t =
      not_true (writes_slot (bare k) s) (λ u.
      let a = slot_touch (bare l) s t in
      let b = slot_touch (bare k) s u in
      let same = tidy.single a.0 b.0 (touched_owned v (bare l) ol a.0 a.1) (touched_owned v (bare k) ok b.0 b.1) (a.2 ∙ sym b.2) in
      out a.0 a.1 (subst (Touches (bare k)) (sym same) b.1))

  pub ordered_by : (k : Tree) → Owned v (bare k) → Watched v m k → Sorted (bare k) → Ordered k
  ordered_by tree.E own h s = tt
  ordered_by (tree.A n k) own h s = ordered_by k own.1 h s
  ordered_by (tree.W n x k) own h s = ordered_by k own.2 h s
  ordered_by (tree.S n t k) own h s = (
    λ x i. unread_slot k own.1 x (link_known v m t h.0 x i) (s.0 x.of (link_read t x i)),
    ordered_by t own.0 h.0 s.1,
    ordered_by k own.1 h.1 s.2,
    sides_slots t k own.0 own.1 s.3,
  )
  ordered_by (tree.P n l k) own h s = (
    λ x i. unread_slot k own.1 x (link_known v m l h.0 x i) (s.0 x.of (link_read l x i)),
    λ x i. unread_slot l own.0 x (link_known v m k h.1 x i) (s.1 x.of (link_read k x i)),
    sides_slots l k own.0 own.1 s.2,
    ordered_by l own.0 h.0 s.3,
    ordered_by k own.1 h.1 s.4,
  )
  ordered_by (tree.R b t) own h s = (
    λ x i. unread_slot t own x (known_at v b.node b.reads h.0.0 x i) (s.0 x.of (read_of_seen b.node b.reads x i)),
    ordered_by t own h.1 s.1,
  )
