-- Below a node that isn't marked nothing is marked, and the record is kept.
use Rattle.std.proofs.Common.{◌≡◌, Bool, true, false, if◌then◌else◌, List, [], Option, Some, arith, refl, ap, sym, subst, inl, inr}
use Rattle.psac_ops.specs.declared.plain.Handle.{Handle}
use Rattle.psac_ops.specs.Named.{same_handle}
use Rattle.psac_syntax.specs.declared.program.Stmt.{Stmt}
use Rattle.psac_syntax.specs.declared.program.Func.{Func}
use Rattle.psac_slots.specs.Claiming.{times}
use Rattle.psac_values.specs.declared.view.ValueView.{ValueView}
use Rattle.psac_marks.specs.declared.view.MarksView.{MarksView}
use Rattle.psac_marks.specs.Steps.{IsClosed as IsMarkClosed}
use Rattle.psac_model.specs.Expression.{Setting}
use Rattle.psac_model.specs.Tree.{Reads}
use Rattle.psac_laws.proofs.Places.{zero_or}
use Rattle.psac_traced.specs.Rec as rec
use Rattle.psac_traced.specs.Rec.{Rec}
use Rattle.psac_traced.specs.Holds.{EachOf, EachRead}
use Rattle.psac_traced.specs.Places.{IsApart}
use Rattle.psac_traced.specs.Parts.{IsClosed, IsBody}
use Rattle.psac_traced.specs.Mending.{Mending, mended, unlike, anew, below}
use Rattle.psac_traced.proofs.Kept.{kept_untouched}
use Rattle.psac_trace.specs.Rights.{Tidy, Kept}
use Rattle.psac_repair.specs.Ended.{Good}
use Rattle.psac_trace.proofs.Views.{kept_same}
use Rattle.psac_record.specs.declared.parts.Reading.{Reading}
use Rattle.psac_record.specs.Kept.{Kept as Tree, E, A, W, S, P, R, bare}
use Rattle.psac_repair.specs.Scope.{GoesAlong, ReadsAlong}
use Rattle.psac_repair.specs.Seen.{Now}
use Rattle.psac_repair.specs.Stood.{Owned}
use Rattle.psac_repair.specs.Marks.{Present, Sits, Nodes, Up, Unmarked}
use Rattle.psac_repair.specs.Mends.{Tells}
use Rattle.psac_repair.proofs.Drawing.{no_draw, with_none}
use Rattle.psac_repair.proofs.Before.{no_pair, no_block}
use Rattle.psac_repair.proofs.Tells.{same_test, tells_end, tells_made, tells_wrote, tells_rest, tells_inner, tells_block, tells_turn}

-- marks
module _ (m : MarksView) (closed : IsMarkClosed m) where
  child_unmarked : (over : Option Handle) (above n : Handle) → Sits m over above → times above.slot m.marked ≡ 0 → Sits m (Some above) n → times n.slot m.marked ≡ 0
  child_unmarked over above n a z s =
      elim (zero_or (times n.slot m.marked)) [
        | inl i ↦ i
        | inr i ↦
            (let up = closed.upwards (record { node = above; parent = _ }) (record { node = n; parent = Some above.slot }) a.0 s.0 refl s.1 (omega (arith, i)) in
            absurd (omega (arith, up, z)))
      ]

  -- below a node that isn't marked none is
  pub below_unmarked : (over : Option Handle) (above : Handle) → Sits m over above → times above.slot m.marked ≡ 0 → (k : Tree) → Nodes m (Some above) k → Unmarked m (Some above) k
  below_unmarked over above a z E ns = tt
  below_unmarked over above a z (A h r) ns = below_unmarked over above a z r ns
  below_unmarked over above a z (W h x r) ns = below_unmarked over above a z r ns
  below_unmarked over above a z (S n t r) ns =
      let c = child_unmarked over above n a z ns.0 in
      (c, below_unmarked (Some above) n ns.0 c t ns.1, below_unmarked (Some above) n ns.0 c r ns.2)
  below_unmarked over above a z (P n t r) ns =
      let c = child_unmarked over above n a z ns.0 in
      (c, below_unmarked (Some above) n ns.0 c t ns.1, below_unmarked (Some above) n ns.0 c r ns.2)
  below_unmarked over above a z (R b t) ns =
      let c = child_unmarked over above b.node a z ns.0 in
      (c, below_unmarked (Some above) b.node ns.0 c t ns.1)

  -- and each read recorded what is present
  pub quiet_reads : (v : ValueView) (above : Option Handle) (k : Tree) → Up v m k → Unmarked m above k → EachRead (Present v) (bare k)
  quiet_reads v above E u n = tt
  quiet_reads v above (A h r) u n = quiet_reads v above r u n
  quiet_reads v above (W h x r) u n = quiet_reads v above r u n
  quiet_reads v above (S k t r) u n = (quiet_reads v (Some k) t u.0 n.1, quiet_reads v (Some k) r u.1 n.2)
  quiet_reads v above (P k t r) u n = (quiet_reads v (Some k) t u.0 n.1, quiet_reads v (Some k) r u.1 n.2)
  quiet_reads v above (R b t) u n =
      (elim u.0 [ inl p ↦ p | inr i ↦ absurd (let z = n.0 in omega (arith, i, z)) ], quiet_reads v (Some b.node) t u.1 n.1)

  -- the same of a subtree whose first node isn't marked
  pub quiet_step : (v : ValueView) (over : Option Handle) (n : Handle) (t r : Tree) → times n.slot m.marked ≡ 0 → Nodes m over (S n t r) → Up v m (S n t r) → EachRead (Present v) (bare (S n t r))
  quiet_step v over n t r z ns u =
      quiet_reads v over (S n t r) u (z, below_unmarked over n ns.0 z t ns.1, below_unmarked over n ns.0 z r ns.2)

  pub quiet_both : (v : ValueView) (over : Option Handle) (n : Handle) (l r : Tree) → times n.slot m.marked ≡ 0 → Nodes m over (P n l r) → Up v m (P n l r) → EachRead (Present v) (bare (P n l r))
  quiet_both v over n l r z ns u =
      quiet_reads v over (P n l r) u (z, below_unmarked over n ns.0 z l ns.1, below_unmarked over n ns.0 z r ns.2)

  pub quiet_block : (v : ValueView) (over : Option Handle) (b : Reading) (t : Tree) → times b.node.slot m.marked ≡ 0 → Nodes m over (R b t) → Up v m (R b t) → EachRead (Present v) (bare (R b t))
  quiet_block v over b t z ns u = quiet_reads v over (R b t) u (z, below_unmarked over b.node ns.0 z t ns.1)

-- reads are like themselves
pub like_itself : (reads : Reads Handle) → unlike same_handle reads reads ≡ false
like_itself reads = by (unlike same_handle reads reads) refl
  where
    rerun_is : (if unlike same_handle reads reads then anew rec.E rec.E else below (mended same_handle rec.E rec.E)).rerun ≡ 0
    rerun_is = ap (λ (d : Mending Handle). d.rerun) (kept_untouched same_handle same_test (rec.R 0 0 [] reads rec.E))

    by : (b : Bool) → unlike same_handle reads reads ≡ b → unlike same_handle reads reads ≡ false
    by false e = e
    by true e =
        let z : 1 ≡ 0 = subst (λ (c : Bool). (if c then anew rec.E rec.E else below (mended same_handle rec.E rec.E)).rerun ≡ 0) e rerun_is in
        absurd (omega (arith, z))

module _ (w : Setting Handle) (is : w.same ≡ same_handle) (funcs : List Func) (Q : List Stmt → Type 0) (closed : IsClosed funcs Q) (go : GoesAlong w funcs) (reading : ReadsAlong w) (v : ValueView) (tidy : Tidy v) where
  same_kept : Kept v v
  same_kept = kept_same v tidy

  pub now_present : (reads : Reads Handle) → EachOf (Present v) reads → Now v reads reads
  now_present reads p = record { names = refl; seen = p }

  abbrev Quiet : Rec Handle → Type 0
  Quiet r = IsApart r → Owned v r → EachRead (Present v) r → Tells w funcs Q r v v no_draw (Good r)

  quiet_inner : (t r : Rec Handle) → IsBody t → Quiet t → Quiet r → Quiet (rec.S t r)
  quiet_inner t r b one more apart ow p =
      tells_rest w funcs Q closed go reading v v v t r t no_draw no_draw no_draw (tells_inner w funcs Q closed go reading t r b apart v v ow.1 same_kept no_draw (Good t) (one apart.0 ow.0 p.0)) same_kept (with_none no_draw) (Good r) (more apart.1 ow.1 p.1)

  -- a record that read what is present is kept
  pub quiet : (r : Rec Handle) → Quiet r
  quiet rec.E apart ow p = tells_end w funcs Q closed go reading v
  quiet (rec.A m r) apart ow p = tells_made w funcs Q closed go reading v v m r apart ow no_draw (Good r) (quiet r apart.1 ow.1 p)
  quiet (rec.W m y r) apart ow p = tells_wrote w funcs Q closed go reading v v m y r ow same_kept no_draw (Good r) (quiet r apart ow.2 p)
  quiet (rec.S (rec.P l k) r) apart ow p =
      tells_rest w funcs Q closed go reading v v v (rec.P l k) r (rec.P l k) no_draw no_draw no_draw
      (tells_turn w funcs Q closed go reading l k r apart v v same_kept ow.0.1 no_draw v same_kept ow.1 no_draw no_draw (with_none no_draw) (Good l) (Good k) refl (quiet l apart.0.0 ow.0.0 p.0.0) (quiet k apart.0.1 ow.0.1 p.0.1))
      same_kept (with_none no_draw) (Good r) (quiet r apart.1 ow.1 p.1)
  quiet (rec.S (rec.R level number saved reads t) r) apart ow p =
      tells_rest w funcs Q closed go reading v v v (rec.R level number saved reads t) r (rec.R level number saved reads t) no_draw no_draw no_draw
      (tells_block w funcs Q closed go reading level number saved reads t r apart v (now_present reads p.0.0) (subst (λ z. unlike z reads reads ≡ false) (sym is) (like_itself reads)) v ow.1 same_kept no_draw (Good t) (quiet t apart.0 ow.0 p.0.1))
      same_kept (with_none no_draw) (Good r) (quiet r apart.1 ow.1 p.1)
  quiet (rec.S rec.E r) apart ow p = quiet_inner rec.E r tt (quiet rec.E) (quiet r) apart ow p
  quiet (rec.S (rec.A m t) r) apart ow p = quiet_inner (rec.A m t) r tt (quiet (rec.A m t)) (quiet r) apart ow p
  quiet (rec.S (rec.W m y t) r) apart ow p = quiet_inner (rec.W m y t) r tt (quiet (rec.W m y t)) (quiet r) apart ow p
  quiet (rec.S (rec.S a t) r) apart ow p = quiet_inner (rec.S a t) r tt (quiet (rec.S a t)) (quiet r) apart ow p
  quiet (rec.P l k) apart ow p = λ room body env heap base st end s. absurd (no_pair w funcs Q closed go reading room body env heap st end l k s.so s.meets s.before s.left_it)
  quiet (rec.R level number saved reads t) apart ow p = λ room body env heap base st end s. absurd (no_block w funcs Q closed go reading room body env heap st end level number saved reads t s.so s.meets s.before s.left_it)
