-- Slots, looks and asks, part by part.
use Rattle.std.proofs.Common.{◌≡◌, ℕ, zero, suc, ◌+◌, ◌<◌, List, [], ◌∷◌, ◌++◌, true, if◌then◌else◌, length, refl, ap, sym, ◌∙◌, arith, append_assoc}
use Rattle.psac_ops.specs.declared.plain.Handle.{Handle}
use Rattle.psac_ops.specs.Named.{same_handle}
use Rattle.psac_model.specs.declared.ends.CapKind.{CapKind}
use Rattle.psac_model.specs.declared.ends.CapKind.TheVariants as cap
use Rattle.psac_values.specs.declared.view.ValueView.{ValueView}
use Rattle.psac_marks.specs.declared.view.MarksView.{MarksView}
use Rattle.psac_traced.specs.Rec as rec
use Rattle.psac_traced.specs.Rec.{Rec}
use Rattle.psac_traced.specs.Mending.{Mending, mended, unlike, untouched, beside, below, visits, anew}
use Rattle.psac_traced.proofs.Kept.{kept_untouched}
use Rattle.psac_record.specs.declared.parts.Reading.{Reading}
use Rattle.psac_record.specs.Kept.{Kept, R, links_of, reads_of, bare, all_of, nodes_below}
use Rattle.psac_record.proofs.Listed.{nodes_listed, links_listed, made_listed}
use Rattle.std.proofs.lemmas.List.{length-map}
use Rattle.psac_trace.specs.Grown.{as_own}
use Rattle.psac_trace.specs.Looks.{writes_in}
use Rattle.psac_repair.specs.Counted.{done, drawn_for, where_any, looks_for, DrawnKept, DrawnParts, DrawnSides, DrawnStopped, DrawnBlock, DrawnAgain, SpentKept, SpentParts, SpentTurns, SpentSides, SpentBlock, SpentAgain}
use Rattle.psac_repair.proofs.Tells.{same_test}
use Rattle.psac_repair.proofs.Quiet.{like_itself}

-- what several lists of subtrees have
pub all_both : {X : Type 0} (f : Kept → List X) (ks ls : List Kept) → all_of f (ks ++ ls) ≡ all_of f ks ++ all_of f ls
all_both f [] ls = refl
all_both f (k ∷ ks) ls = ap (λ z. f k ++ z) (all_both f ks ls) ∙ sym (append_assoc (f k) (all_of f ks) (all_of f ls))

pub none_done : (k : Kept) → done k k ≡ untouched
none_done k = kept_untouched same_handle same_test (bare k)

none_drawn : (c : CapKind) (d : Mending Handle) → d ≡ untouched → drawn_for c d ≡ 0
none_drawn cap.Nodes d e = ap (drawn_for cap.Nodes) e
none_drawn cap.Mods d e = ap (drawn_for cap.Mods) e
none_drawn cap.Links d e = ap (drawn_for cap.Links) e

pub drawn_kept : DrawnKept
drawn_kept c k = none_drawn c (done k k) (none_done k)

drawn_both : (c : CapKind) (a b : Mending Handle) → drawn_for c (below (beside a b)) ≡ drawn_for c a + drawn_for c b
drawn_both cap.Nodes a b = omega arith
drawn_both cap.Mods a b = refl
drawn_both cap.Links a b = refl

pub drawn_parts : DrawnParts
drawn_parts c t k u w = drawn_both c (mended same_handle t u) (mended same_handle k w)

pub drawn_sides : DrawnSides
drawn_sides c l k u w = drawn_both c (mended same_handle l u) (mended same_handle k w)

none_behind : (k : Rec Handle) → mended same_handle k rec.E ≡ untouched
none_behind rec.E = refl
none_behind (rec.A m r) = refl
none_behind (rec.W m v r) = refl
none_behind (rec.S t r) = refl
none_behind (rec.P l r) = refl
none_behind (rec.R room block env reads t) = refl

pub drawn_stopped : DrawnStopped
drawn_stopped c k = none_drawn c (mended same_handle k rec.E) (none_behind k)

drawn_below : (c : CapKind) (a : Mending Handle) → drawn_for c (below a) ≡ drawn_for c a
drawn_below cap.Nodes a = refl
drawn_below cap.Mods a = refl
drawn_below cap.Links a = refl

pub same_block : (b : Reading) (t u : Kept) → done (R b t) (R b u) ≡ below (done t u)
same_block b t u = ap (λ z. if z then anew (bare t) (bare u) else below (done t u)) (like_itself (reads_of b.reads))

pub other_block : (b d : Reading) (t u : Kept) → unlike same_handle (reads_of b.reads) (reads_of d.reads) ≡ true → done (R b t) (R d u) ≡ anew (bare t) (bare u)
other_block b d t u e = ap (λ z. if z then anew (bare t) (bare u) else below (done t u)) e

pub drawn_block : DrawnBlock
drawn_block c b t u = ap (drawn_for c) (same_block b t u) ∙ drawn_below c (done t u)

pub drawn_again : DrawnAgain
drawn_again cap.Nodes above b d t u e = ap (drawn_for cap.Nodes) (other_block b d t u e) ∙ sym (length-map (nodes_below above u) as_own ∙ nodes_listed above u)
drawn_again cap.Mods above b d t u e = ap (drawn_for cap.Mods) (other_block b d t u e) ∙ sym (made_listed u)
drawn_again cap.Links above b d t u e = ap (drawn_for cap.Links) (other_block b d t u e) ∙ sym (links_listed u)

-- looks and asks
pub spent_kept : SpentKept
spent_kept v u m n k e a =
    record { looks = omega (arith, e); asks = (let z = ap (λ (d : Mending Handle). d.visited) (none_done k) in omega (arith, a, z)) }

visits_more : (rerun n : ℕ) → 0 < rerun → visits rerun n ≡ suc n
visits_more zero n h = absurd (omega (arith, h))
visits_more (suc rerun) n h = refl

any_more : (rerun n : ℕ) → 0 < rerun → where_any rerun n ≡ n
any_more zero n h = absurd (omega (arith, h))
any_more (suc rerun) n h = refl

pub spent_parts : SpentParts
spent_parts v u z m x y q n t k a b more e one two =
    let c = visits_more ((done t a).rerun + (done k b).rerun) ((done t a).visited + (done k b).visited) more in
    let f = one.looks in
    let g = two.looks in
    let h = one.asks in
    let i = two.asks in
    record { looks = omega (arith, f, g); asks = omega (arith, c, e, h, i) }

pub spent_turns : SpentTurns
spent_turns v u z m x y q n l k a b more e one two =
    let c = visits_more ((done l a).rerun + (done k b).rerun) ((done l a).visited + (done k b).visited) more in
    let f = one.looks in
    let g = two.looks in
    let h = one.asks in
    let i = two.asks in
    record { looks = omega (arith, f, g); asks = omega (arith, c, e, h, i) }

pub spent_sides : SpentSides
spent_sides v a b j m x y z q n l k c d more e one two is marked =
    let r = visits_more ((done l c).rerun + (done k d).rerun) ((done l c).visited + (done k d).visited) more in
    let f = one.looks in
    let g = two.looks in
    let h = one.asks in
    let i = two.asks in
    let s = ap (λ (w : ValueView). w.looks) is in
    let t = ap (λ (w : MarksView). w.asks) marked in
    record { looks = omega (arith, f, g, s); asks = omega (arith, r, e, h, i, t) }

pub spent_block : SpentBlock
spent_block v u z m x y b t a more e l one =
    let c = ap (λ (d : Mending Handle). d.visited) (same_block b t a) ∙ visits_more (done t a).rerun (done t a).visited more in
    let f : looks_for (R b t) (R b a) ≡ length b.reads + looks_for t a =
    ap (λ w. if w then length b.reads + (length (links_of a) + writes_in a) else where_any (done t a).rerun (length b.reads + looks_for t a)) (like_itself (reads_of b.reads)) ∙ any_more (done t a).rerun (length b.reads + looks_for t a) more in
    let g = one.looks in
    let h = one.asks in
    record { looks = omega (arith, f, g, l); asks = omega (arith, c, e, h) }

pub spent_again : SpentAgain
spent_again v u z m y b c t a other e l run =
    let d = ap (λ (w : Mending Handle). w.visited) (other_block b c t a other) in
    let f : looks_for (R b t) (R c a) ≡ length b.reads + (length (links_of a) + writes_in a) =
    ap (λ w. if w then length b.reads + (length (links_of a) + writes_in a) else where_any (done t a).rerun (length b.reads + looks_for t a)) other in
    record { looks = omega (arith, f, l, run); asks = omega (arith, d, e) }
