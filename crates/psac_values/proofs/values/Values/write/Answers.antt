use Rattle.psac_values.proofs.Terms.{◌≡◌, ℕ, ◌+◌, ◌*◌, [], ◌∷◌, get_or, sym, ap, subst, ◌∙◌, arith, Handle, Member, map_member, OwnedView, ValueView, Has, wrote, put, wrote_word, value_at}
use Rattle.psac_values.proofs.Acts.{writes}
use Rattle.psac_values.proofs.Carrying.{carried, carries_word, rewrites}
use Rattle.psac_values.proofs.values.Values.write.Goals as goal

pub store-requires : goal.store-requires
store-requires c =
    let is = c.pass.view_is in
    let p = c.pass.invariant.1 in
    let t = ap (λ p. p.table) is ∙ (c.requires.table ∙ sym c.self.view_is) in
    let k = subst (λ (v : ValueView). Has v c.args.m) (sym (ap (λ p. p.knows) is)) c.requires.mine in
    let same = ap (λ (h : Handle). h.slot) k.2 in
    (t, omega (arith, ap (λ z. z.words) t, p.words_is, (p.mine k.0 k.1).1, same), writes _ _ _ _ _ c.pass.inside.seat.me.0 c.pass.inside.seat.me.1 p.live k.0 0 _ k.1 (omega arith) (omega (arith, p.count_is, same)))

-- an owned entry stays one, with the same slot, whatever word is put
puts : (s j x : ℕ) (w : OwnedView) (v : ValueView) → Member w v.mine → Member (put s j x w) (wrote_word s j x v).mine
puts s j x w v m = map_member (put s j x) w v.mine m

pub store-requires-2 : goal.store-requires-2
store-requires-2 c =
    let is = c.pass.view_is in
    let p = c.pass.invariant.1 in
    let v = c.pass.inside.seat.me.0 in
    let t = ap (λ p. p.table) is ∙ (c.requires.table ∙ sym c.self.view_is) in
    let k = subst (λ (v : ValueView). Has v c.args.m) (sym (ap (λ p. p.knows) is)) c.requires.mine in
    let same = ap (λ (h : Handle). h.slot) k.2 in
    let n = p.count_is in
    let s = c.store.ensures in
    let e = s.2 k.0.of.slot 0 (omega arith) (omega (arith, n, same)) in
    let has = subst (λ m. Member (put k.0.of.slot 0 (get_or c.args.words 0 0) k.0) m.0.mine) (sym e) (puts k.0.of.slot 0 (get_or c.args.words 0 0) k.0 v k.1) in
    let n' = ap (λ m. m.0.claims.count) e in
    let here : 1 + 2 * c.pass.inside.count + 3 * c.args.m.slot + 1 ≡ value_at c.store.new.seat.me.0.claims.count k.0.of.slot 1 = omega (arith, n, n', same) in
    (s.0 ∙ t, omega (arith, ap (λ z. z.words) t, p.words_is, (p.mine k.0 k.1).1, same), writes _ _ _ _ _ c.store.new.seat.me.0 c.store.new.seat.me.1 (ap (λ m. m.0.claims.live) e ∙ p.live) _ 1 _ has (omega arith) here)

pub store-requires-3 : goal.store-requires-3
store-requires-3 c =
    let is = c.pass.view_is in
    let p = c.pass.invariant.1 in
    let v = c.pass.inside.seat.me.0 in
    let t = ap (λ p. p.table) is ∙ (c.requires.table ∙ sym c.self.view_is) in
    let k = subst (λ (v : ValueView). Has v c.args.m) (sym (ap (λ p. p.knows) is)) c.requires.mine in
    let same = ap (λ (h : Handle). h.slot) k.2 in
    let n = p.count_is in
    let s = c.store.ensures in
    let e = s.2 k.0.of.slot 0 (omega arith) (omega (arith, n, same)) in
    let n' = ap (λ m. m.0.claims.count) e in
    let s2 = c.store-2.ensures in
    let e2 = s2.2 k.0.of.slot 1 (omega arith) (omega (arith, n, n', same)) ∙ ap (λ m. (wrote_word k.0.of.slot 1 (get_or c.args.words 1 0) m.0, m.1)) e in
    let has = subst (λ m. Member (put k.0.of.slot 1 (get_or c.args.words 1 0) (put k.0.of.slot 0 (get_or c.args.words 0 0) k.0)) m.0.mine) (sym e2) (puts k.0.of.slot 1 (get_or c.args.words 1 0) (put k.0.of.slot 0 (get_or c.args.words 0 0) k.0) (wrote_word k.0.of.slot 0 (get_or c.args.words 0 0) v) (puts k.0.of.slot 0 (get_or c.args.words 0 0) k.0 v k.1)) in
    let n2 = ap (λ m. m.0.claims.count) e2 in
    let here : 1 + 2 * c.pass.inside.count + 3 * c.args.m.slot + 2 ≡ value_at c.store-2.new.seat.me.0.claims.count k.0.of.slot 2 = omega (arith, n, n2, same) in
    (s2.0 ∙ (s.0 ∙ t), omega (arith, ap (λ z. z.words) t, p.words_is, (p.mine k.0 k.1).1, same), writes _ _ _ _ _ c.store-2.new.seat.me.0 c.store-2.new.seat.me.1 (ap (λ m. m.0.claims.live) e2 ∙ p.live) _ 2 _ has (omega arith) here)

-- what the three stores leave
left : (c : goal.After-store-3) → c.store-3.new.seat.me
    ≡ (wrote_word c.args.m.slot 2 (get_or c.args.words 2 0) (wrote_word c.args.m.slot 1 (get_or c.args.words 1 0) (wrote_word c.args.m.slot 0 (get_or c.args.words 0 0) c.pass.inside.seat.me.0)), c.pass.inside.seat.me.1)
left c =
    let n = c.pass.invariant.1.count_is in
    let m = c.args.m.slot in
    let e = c.store.ensures.2 m 0 (omega arith) (omega (arith, n)) in
    let e2 = c.store-2.ensures.2 m 1 (omega arith) (omega (arith, n, ap (λ s. s.0.claims.count) e)) ∙ ap (λ s. (wrote_word m 1 (get_or c.args.words 1 0) s.0, s.1)) e in
    c.store-3.ensures.2 m 2 (omega arith) (omega (arith, n, ap (λ s. s.0.claims.count) e2)) ∙ ap (λ s. (wrote_word m 2 (get_or c.args.words 2 0) s.0, s.1)) e2

pub returns-clause-wrote : goal.returns-clause-wrote
returns-clause-wrote c =
    let v = c.pass.inside.seat.me.0 in
    let m = c.args.m.slot in
    let three : wrote_word m 2 (get_or c.args.words 2 0) (wrote_word m 1 (get_or c.args.words 1 0) (wrote_word m 0 (get_or c.args.words 0 0) v)) ≡ wrote m (get_or c.args.words 0 0 ∷ get_or c.args.words 1 0 ∷ get_or c.args.words 2 0 ∷ []) v =
    λ k. record v { mine = rewrites m (get_or c.args.words 0 0) (get_or c.args.words 1 0) (get_or c.args.words 2 0) v.mine (λ w q. (c.pass.invariant.1.mine w q).0) k } in
    ap (λ s. s.0) (left c) ∙ (three ∙ ap (wrote m (get_or c.args.words 0 0 ∷ get_or c.args.words 1 0 ∷ get_or c.args.words 2 0 ∷ [])) (ap (λ p. p.knows) c.pass.view_is))

pub invariant_of-pass : goal.invariant_of-pass
invariant_of-pass c =
    let m = c.args.m.slot in
    let t = c.store-3.ensures.0 ∙ (c.store-2.ensures.0 ∙ c.store.ensures.0) in
    let k = carries_word _ _ _ _ _ _ (carries_word _ _ _ _ _ _ (carries_word _ _ _ _ _ c.pass.inside.seat.me.0 c.pass.invariant.1 m 0 (get_or c.args.words 0 0)) m 1 (get_or c.args.words 1 0)) m 2 (get_or c.args.words 2 0) in
    (ap (λ s. s.1) (left c) ∙ c.pass.invariant.0, carried _ _ _ _ _ _ k _ _ (ap (λ z. z.words) t) (ap (λ s. s.0) (left c)))
