-- A run writes each modifiable once, and reads what is there at its end.
use Rattle.std.proofs.Common.{◌≡◌, ℕ, List, [], ◌∷◌, ◌++◌, Some, None, ap, sym, ◌∙◌, subst, inl, inr, ⊎_elim, append_assoc}
use Rattle.psac_ops.specs.declared.plain.Handle.{Handle}
use Rattle.psac_ops.specs.declared.plain.Plain.{Plain}
use Rattle.psac_ops.specs.Value.{Value}
use Rattle.psac_ops.specs.Named.{same_handle, value_of}
use Rattle.psac_syntax.specs.declared.program.Stmt.{Stmt}
use Rattle.psac_syntax.specs.declared.program.Func.{Func}
use Rattle.psac_slots.specs.Handles.{Member}
use Rattle.psac_slots.proofs.Pairs.{member_cases}
use Rattle.psac_model.specs.Names.{Env}
use Rattle.psac_model.specs.Expression.{Setting}
use Rattle.psac_model.specs.Run.{with_reads}
use Rattle.psac_model.specs.Tree.{Reads}
use Rattle.psac_laws.specs.Standing.{Standing, in_both}
use Rattle.psac_laws.proofs.Places.{none_some}
use Rattle.psac_traced.specs.Rec as rec
use Rattle.psac_traced.specs.Rec.{Rec, writes}
use Rattle.psac_traced.specs.Holds.{EachOf, Holds}
use Rattle.psac_traced.specs.Places.{Makes, IsApart}
use Rattle.psac_traced.specs.Parts.{IsClosed, IsBody}
use Rattle.psac_record.specs.declared.parts.Seen.{Seen}
use Rattle.psac_record.specs.Kept.{Kept, E, A, W, S, P, R, reads_of, bare}
use Rattle.psac_trace.specs.Rights.{Heap, held, In, Target}
use Rattle.psac_trace.specs.Raising.{puts}
use Rattle.psac_trace.proofs.Heaps.{in_or_not, in_and_none, not_in, held_front, held_back, in_back, in_either, at_one, one_is}
use Rattle.psac_repair.specs.Scope.{GoesAlong, ReadsAlong, Fills}
use Rattle.psac_repair.proofs.Before.{Always, Left, at_made, at_wrote, at_inner, at_reader, at_pair, no_pair, no_block, part_target, filled}
use Rattle.psac_repair.proofs.Fills.{fills_more, fills_second, target_right}
use Rattle.psac_repair.proofs.Steps.{none_of}
use Rattle.psac_stage.specs.Recorded.{seen_of}

-- what is written had no value
abbrev pub Anew : Heap → Rec Handle → Type 0
Anew h rec.E = Unit {0}
Anew h (rec.A m r) = Anew h r
Anew h (rec.W m v r) = (held h m ≡ None) × Anew ((m, v) ∷ h) r
Anew h (rec.S t r) = Anew h t × Anew (writes t ++ h) r
Anew h (rec.P l k) = Anew h l × Anew (writes l ++ h) k
Anew h (rec.R room block env reads t) = Anew h t

none_back : (a h : Heap) (m : Handle) → held (a ++ h) m ≡ None → held h m ≡ None
none_back a h m n = not_in h m (λ i. in_and_none (a ++ h) m (in_back a h m i) n)

pub anew_out : (h : Heap) (r : Rec Handle) → Anew h r → (m : Handle) → In (writes r) m → held h m ≡ None
anew_out h rec.E a m i = absurd (none_some i.1)
anew_out h (rec.A n r) a m i = anew_out h r a m i
anew_out h (rec.W n v r) a m i =
    elim (in_either (writes r) ((n, v) ∷ []) m i) [
      | inl j ↦ none_back ((n, v) ∷ []) h m (anew_out ((n, v) ∷ h) r a.1 m j)
      | inr j ↦ subst (λ z. held h z ≡ None) (one_is n m v j.0 j.1).0 a.0
    ]
anew_out h (rec.S t r) a m i =
    elim (in_either (writes r) (writes t) m i) [
      | inl j ↦ none_back (writes t) h m (anew_out (writes t ++ h) r a.1 m j)
      | inr j ↦ anew_out h t a.0 m j
    ]
anew_out h (rec.P t r) a m i =
    elim (in_either (writes r) (writes t) m i) [
      | inl j ↦ none_back (writes t) h m (anew_out (writes t ++ h) r a.1 m j)
      | inr j ↦ anew_out h t a.0 m j
    ]
anew_out h (rec.R room block env reads t) a m i = anew_out h t a m i

-- a value stays
stays : (h : Heap) (r : Rec Handle) → Anew h r → (m : Handle) (x : Value Handle) → held h m ≡ Some x → held (writes r ++ h) m ≡ Some x
stays h r a m x e =
    ⊎_elim
    (λ (i : In (writes r) m). absurd (none_some (sym (anew_out h r a m i) ∙ e)))
    (λ (n : held (writes r) m ≡ None). held_back (writes r) h m n ∙ e)
    (in_or_not (writes r) m)

whole : (a b h : Heap) (m : Handle) (x : Value Handle) → held (a ++ (b ++ h)) m ≡ Some x → held ((a ++ b) ++ h) m ≡ Some x
whole a b h m x e = ap (λ z. held z m) (append_assoc a b h) ∙ e

-- each write is what its modifiable has at the end
pub put_held : (k : Kept) (h : Heap) → Anew h (bare k) → (m : Handle) (x : Plain) → Member {A = Handle × Plain} (m, x) (puts k)
    → held (writes (bare k) ++ h) m ≡ Some (value_of x)
put_held E h a m x i = absurd i
put_held (A n r) h a m x i = put_held r h a m x i
put_held (W n y r) h a m x (inl e) =
    let one : held ((n, value_of y) ∷ h) n ≡ Some (value_of y) = held_front ((n, value_of y) ∷ []) h n (value_of y)
    (at_one n (value_of y)) in
    let here = whole (writes (bare r)) ((n, value_of y) ∷ []) h n (value_of y)
    (stays ((n, value_of y) ∷ h) (bare r) a.1 n (value_of y) one) in
    subst (λ (z : Handle × Plain). held ((writes (bare r) ++ (n, value_of y) ∷ []) ++ h) z.0 ≡ Some (value_of z.1)) e here
put_held (W n y r) h a m x (inr i) = whole (writes (bare r)) ((n, value_of y) ∷ []) h m (value_of x)
    (put_held r ((n, value_of y) ∷ h) a.1 m x i)
put_held (S n t r) h a m x i =
    whole (writes (bare r)) (writes (bare t)) h m (value_of x) (⊎_elim
    (λ (j : Member {A = Handle × Plain} (m, x) (puts t)). stays (writes (bare t) ++ h) (bare r) a.1 m (value_of x) (put_held t h a.0 m x j))
    (λ (j : Member {A = Handle × Plain} (m, x) (puts r)). put_held r (writes (bare t) ++ h) a.1 m x j)
    (member_cases (m, x) (puts t) (puts r) i))
put_held (P n t r) h a m x i =
    whole (writes (bare r)) (writes (bare t)) h m (value_of x) (⊎_elim
    (λ (j : Member {A = Handle × Plain} (m, x) (puts t)). stays (writes (bare t) ++ h) (bare r) a.1 m (value_of x) (put_held t h a.0 m x j))
    (λ (j : Member {A = Handle × Plain} (m, x) (puts r)). put_held r (writes (bare t) ++ h) a.1 m x j)
    (member_cases (m, x) (puts t) (puts r) i))
put_held (R b t) h a m x i = put_held t h a m x i

-- and so is each read
each_held : (h : Heap) (rs : List Seen) → EachOf (λ m v. held h m ≡ Some v) (reads_of rs) → (s : Seen) → Member s rs
    → held h s.from ≡ Some (value_of s.value)
each_held h [] e s i = absurd i
each_held h (r ∷ rs) e s (inl q) = subst (λ (z : Seen). held h z.from ≡ Some (value_of z.value)) q e.0
each_held h (r ∷ rs) e s (inr i) = each_held h rs e.1 s i

pub read_held : (k : Kept) (h : Heap) → Anew h (bare k) → Holds same_handle h (bare k) → (s : Seen) → Member s (seen_of k)
    → held (writes (bare k) ++ h) s.from ≡ Some (value_of s.value)
read_held E h a o s i = absurd i
read_held (A n r) h a o s i = read_held r h a o s i
read_held (W n y r) h a o s i = whole (writes (bare r)) ((n, value_of y) ∷ []) h s.from (value_of s.value)
    (read_held r ((n, value_of y) ∷ h) a.1 o s i)
read_held (S n t r) h a o s i =
    whole (writes (bare r)) (writes (bare t)) h s.from (value_of s.value) (⊎_elim
    (λ (j : Member s (seen_of t)). stays (writes (bare t) ++ h) (bare r) a.1 s.from (value_of s.value) (read_held t h a.0 o.0 s j))
    (λ (j : Member s (seen_of r)). read_held r (writes (bare t) ++ h) a.1 o.1 s j)
    (member_cases s (seen_of t) (seen_of r) i))
read_held (P n t r) h a o s i =
    whole (writes (bare r)) (writes (bare t)) h s.from (value_of s.value) (⊎_elim
    (λ (j : Member s (seen_of t)). stays (writes (bare t) ++ h) (bare r) a.1 s.from (value_of s.value) (read_held t h a.0 o.0 s j))
    (λ (j : Member s (seen_of r)). read_held r (writes (bare t) ++ h) a.1 o.1 s j)
    (member_cases s (seen_of t) (seen_of r) i))
read_held (R b t) h a o s i =
    ⊎_elim
    (λ (j : Member s b.reads). stays h (bare t) a s.from (value_of s.value) (each_held h b.reads o.0 s j))
    (λ (j : Member s (seen_of t)). read_held t h a o.1 s j)
    (member_cases s b.reads (seen_of t) i)

-- a record that statements left which meet the series rule
module _ (w : Setting Handle) (funcs : List Func) (Q : List Stmt → Type 0) (closed : IsClosed funcs Q) (go : GoesAlong w funcs)
    (reading : ReadsAlong w) where
  abbrev pub Here : Rec Handle → ℕ → List Stmt → Env Handle → Heap → Standing → Standing → Type 0
  Here = Left w funcs Q closed go reading

  abbrev pub Anews : Rec Handle → Type 0
  Anews r = (room : ℕ) (body : List Stmt) (env : Env Handle) (heap : Heap) (st end : Standing) → IsApart r → Here r room body env heap
      st end → Anew heap r

  anew_wrote : (m : Handle) (v : Value Handle) (r : Rec Handle) → Anews r → Anews (rec.W m v r)
  anew_wrote m v r on room body env heap st end apart l =
      let o = at_wrote w funcs Q closed go reading room body env heap st end m v r l in (
        none_of w o.now end.unwritten o.here heap (o.seq.along heap l.before) m (o.d, o.awaits, o.shut, o.is),
        on o.inner o.rest o.here
            ((m, v) ∷ heap) o.mid end apart o.more,
      )

  -- a part of a body
  abbrev Parts : Rec Handle → Rec Handle → Type 0
  Parts t r = (room : ℕ) (body : List Stmt) (env : Env Handle) (heap : Heap) (st end : Standing) → IsApart (rec.S t r) → Here
      (rec.S t r) room body env heap st end → Anew heap (rec.S t r)

  part_inner : (t r : Rec Handle) → IsBody t → Anews t → Anews r → Parts t r
  part_inner t r b one on room body env heap st end apart l =
      let o = at_inner w funcs Q closed go reading room body env heap st end t r b apart l in
      let f = filled w funcs Q closed go reading t o.inner o.first o.there heap o.names o.inner_end apart.0 o.one in
      let old = fills_more Always Always (Makes t) (Makes t) o.now o.names o.left o.inner_end.unwritten o.here o.there heap (writes t)
      (λ z h. h) (λ z h. h) o.out o.into f in (
        one o.inner o.first o.there heap o.names o.inner_end apart.0 o.one,
        on o.inner o.rest o.here (writes t ++ heap) o.mid end
            apart.1 (o.more old),
      )

  part_reader : (level number : ℕ) (saved : Env Handle) (reads : Reads Handle) (t r : Rec Handle) → Anews t → Anews r
      → Parts (rec.R level number saved reads t) r
  part_reader level number saved reads t r one on room body env heap st end apart l =
      let o = at_reader w funcs Q closed go reading room body env heap st end level number saved reads t r apart l in
      let s = o.steps in
      let b = s.begins heap reads (o.seq.along heap l.before) o.seen in
      let there = with_reads saved o.items reads in
      let f = filled w funcs Q closed go reading t level o.first there heap s.names s.inner_end apart.0 o.one in
      let old = fills_more Always Always (Makes t) (Makes t) o.now s.names s.left s.inner_end.unwritten saved there heap (writes t)
      (λ z h. h) (λ z h. h) b.out b.into f in (
        one level o.first there heap s.names s.inner_end apart.0 o.one,
        on level o.rest saved (writes t ++ heap) s.mid end apart.1
            (o.more old),
      )

  part_pair : (a c r : Rec Handle) → Anews a → Anews c → Anews r → Parts (rec.P a c) r
  part_pair a c r one two on room body env heap st end apart l =
      let o = at_pair w funcs Q closed go reading room body env heap st end a c r apart l in
      let before = o.seq.along heap l.before in
      let f = subst (λ s. Fills Always (Makes a) o.now s o.here heap (writes a)) o.one_is
      (filled w funcs Q closed go reading a o.inner o.ls o.here heap o.now o.one_end apart.0.0 o.one) in
      let other = o.other f in
      let g = subst (λ s. Fills Always (Makes c) o.now s o.here (writes a ++ heap) (writes c)) o.two_is
      (filled w funcs Q closed go reading c o.inner o.rs o.here (writes a ++ heap) o.now o.two_end apart.0.1 other) in
      let right : (m : Handle) → Target o.now o.parts.two o.here m → Target st end.unwritten env m =
      λ m t. part_target w funcs Q closed go reading st end env o.now o.mid o.here (in_both o.parts.one o.parts.two) o.seq m
      (target_right w o.now o.mid end.unwritten o.here heap o.ls o.rs o.parts before o.seq.narrows m t) in
      let old = fills_second w o.now o.mid end.unwritten o.here heap o.ls o.rs o.parts before o.seq.narrows Always (Makes a) (writes a)
      f (λ m t. tt) (λ m j t. l.beside m (inl (inl j)) (right m t)) Always (Makes c) (writes c) (λ m i. i) g in (
        (
          one o.inner o.ls o.here heap o.now o.one_end apart.0.0 o.one,
          two o.inner o.rs o.here (writes a ++ heap) o.now o.two_end
              apart.0.1 other,
        ),
        on o.inner o.rest o.here ((writes c ++ writes a) ++ heap) o.mid end apart.1 (o.more old),
      )

  pub anew_all : (r : Rec Handle) → Anews r
  anew_all rec.E room body env heap st end apart l = tt
  anew_all (rec.A m r) room body env heap st end apart l =
      let o = at_made w funcs Q closed go reading room body env heap st end m r apart l in
      anew_all r o.inner o.rest o.here heap o.mid end apart.1 o.more
  anew_all (rec.W m v r) room body env heap st end apart l = anew_wrote m v r (anew_all r) room body env heap st end apart l
  anew_all (rec.S (rec.P a c) r) room body env heap st end apart l = part_pair a c r (anew_all a) (anew_all c) (anew_all r) room body
      env heap st end apart l
  anew_all (rec.S (rec.R level number saved reads t) r) room body env heap st end apart l = part_reader level number saved reads t r
      (anew_all t) (anew_all r) room body env heap st end apart l
  anew_all (rec.S rec.E r) room body env heap st end apart l = part_inner rec.E r tt (anew_all rec.E) (anew_all r) room body env heap
      st end apart l
  anew_all (rec.S (rec.A m t) r) room body env heap st end apart l = part_inner (rec.A m t) r tt (anew_all (rec.A m t)) (anew_all r)
      room body env heap st end apart l
  anew_all (rec.S (rec.W m v t) r) room body env heap st end apart l = part_inner (rec.W m v t) r tt (anew_all (rec.W m v t))
      (anew_all r) room body env heap st end apart l
  anew_all (rec.S (rec.S a t) r) room body env heap st end apart l = part_inner (rec.S a t) r tt (anew_all (rec.S a t)) (anew_all r)
      room body env heap st end apart l
  anew_all (rec.P a c) room body env heap st end apart l = absurd (no_pair w funcs Q closed go reading room body env heap st end a c
      l.so l.meets l.before l.left_it)
  anew_all (rec.R level number saved reads t) room body env heap st end apart l = absurd
      (no_block w funcs Q closed go reading room body env heap st end level number saved reads t l.so l.meets l.before l.left_it)
