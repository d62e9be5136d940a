use Rattle.psac_readers.proofs.Terms.{◌≡◌, ℕ, ◌<◌, ◌+◌, ◌%◌, [], length, sym, ap, subst, refl, ◌∙◌, arith, mod-lt, within, handle_at, place_is, sum_by, Has, drew, entered, named, Carries, entry, new_link, noded, way}
use Rattle.psac_readers.proofs.Acts.{draws, loads, nodes, swaps, comes}
use Rattle.psac_readers.proofs.Entering.{Got, got, last, carries, F_node, F_swap, still_has}
use Rattle.psac_readers.proofs.readers.Readers.enter.Goals as goal

pub fetch_add-index-requires : goal.fetch_add-index-requires
fetch_add-index-requires c =
    let is = c.pass.view_is in
    let p = c.pass.invariant.1 in
    let t = ap (λ p. p.table) is ∙ (c.requires.table ∙ sym c.self.view_is) in
    (t, omega (arith, ap (λ z. z.words) t, p.words_is), draws _ _ _ _ c.pass.inside.seat.me.0 c.pass.inside.seat.me.1 p.live (ap (λ p. p.knows.claims.over) is ∙ c.requires.room))

pub load-word-requires : goal.load-word-requires
load-word-requires c =
    let p = c.pass.invariant.1 in
    let d = c.fetch_add-index.ensures in
    let t = ap (λ p. p.table) c.pass.view_is ∙ (c.requires.table ∙ sym c.self.view_is) in
    let f = c.from-2.ensures in
    let r = c.if-index-room.false in
    let q = c.from-room.ensures in
    let m = mod-lt (c.from.result + c.fetch_add-index.result) {m = c.from-2.result} (omega (arith, f, r, q, p.room_fits)) in
    (d.0 ∙ t, omega (arith, ap (λ z. z.words) t, p.words_is, m, f), loads _ _ _ _ c.fetch_add-index.new.seat.me.0 c.fetch_add-index.new.seat.me.1 (ap (λ m. m.0.claims.live) d.2 ∙ p.live) _)

pub store-requires : goal.store-requires
store-requires c =
    let v = c.pass.inside.seat.me.0 in
    let p = c.pass.invariant.1 in
    let d = c.fetch_add-index.ensures in
    let l = c.load-word.ensures in
    let n = c.fetch_add-index.result in
    let g = got _ _ n c.load-word.result v _ _ (d.2 ∙ ap (λ z. (drew v n, z)) c.pass.invariant.0) l.2 (place_is _ n _ _ n _ (c.from.ensures ∙ sym p.head_is) refl (c.from-2.ensures ∙ sym p.links_is)) (omega (arith, c.if-index-room.false, c.from-room.ensures, p.room_is)) in
    let t = ap (λ p. p.table) c.pass.view_is ∙ (c.requires.table ∙ sym c.self.view_is) in
    let li = p.links_is in
    let li2 = ap (λ m. m.0.claims.count) g.view in
    let mi2 = ap (λ m. m.0.mods) g.view in
    (l.0 ∙ (d.0 ∙ t), omega (arith, ap (λ z. z.words) t, p.words_is, g.low, li), nodes _ _ _ _ c.load-word.new.seat.me.0 c.load-word.new.seat.me.1 (ap (λ m. m.0.claims.live) g.view ∙ p.live) (new_link (handle_at c.load-word.result)) v.links c.node_word.result _ (ap (λ m. m.0.links) g.view) (omega (arith, li, p.mods_is, li2, mi2)))

pub swap-old-requires : goal.swap-old-requires
swap-old-requires c =
    let v = c.pass.inside.seat.me.0 in
    let p = c.pass.invariant.1 in
    let d = c.fetch_add-index.ensures in
    let l = c.load-word.ensures in
    let n = c.fetch_add-index.result in
    let g = got _ _ n c.load-word.result v _ _ (d.2 ∙ ap (λ z. (drew v n, z)) c.pass.invariant.0) l.2 (place_is _ n _ _ n _ (c.from.ensures ∙ sym p.head_is) refl (c.from-2.ensures ∙ sym p.links_is)) (omega (arith, c.if-index-room.false, c.from-room.ensures, p.room_is)) in
    let t = ap (λ p. p.table) c.pass.view_is ∙ (c.requires.table ∙ sym c.self.view_is) in
    let low = g.low in
    let li = p.links_is in
    let mi = p.mods_is in
    let e3 : c.store.new.seat.me ≡ F_node c.node_word.result c.load-word.new.seat.me = c.store.ensures.2 in
    let v3 = e3 ∙ ap (F_node c.node_word.result) g.view in
    let li3 = ap (λ m. m.0.claims.count) v3 in
    let mi3 = ap (λ m. m.0.mods) v3 in
    let ins = c.requires.inside in
    let im = ap (λ p. p.knows.mods) c.pass.view_is in (
      c.store.ensures.0 ∙ (l.0 ∙ (d.0 ∙ t)),
      omega (arith, ap (λ z. z.words) t, p.words_is, ins, im, mi),
      swaps _ _ _ _ c.store.new.seat.me.0 c.store.new.seat.me.1 (ap (λ m. m.0.claims.live) v3 ∙ p.live) (noded c.node_word.result (new_link (handle_at c.load-word.result))) v.links c.args.m.slot _ _ (ap (λ m. m.0.links) v3) refl (omega (arith, ins, im, mi3))
          (subst (Has c.args.m.slot) (sym (ap (λ m. m.0) v3)) (subst (Has c.args.m.slot) (sym (ap (λ p. p.knows) c.pass.view_is)) c.requires.set)) (omega (arith, li, li3)) (omega arith),
    )

pub store-requires-2 : goal.store-requires-2
store-requires-2 c =
    let v = c.pass.inside.seat.me.0 in
    let p = c.pass.invariant.1 in
    let d = c.fetch_add-index.ensures in
    let l = c.load-word.ensures in
    let n = c.fetch_add-index.result in
    let g = got _ _ n c.load-word.result v _ _ (d.2 ∙ ap (λ z. (drew v n, z)) c.pass.invariant.0) l.2 (place_is _ n _ _ n _ (c.from.ensures ∙ sym p.head_is) refl (c.from-2.ensures ∙ sym p.links_is)) (omega (arith, c.if-index-room.false, c.from-room.ensures, p.room_is)) in
    let t = ap (λ p. p.table) c.pass.view_is ∙ (c.requires.table ∙ sym c.self.view_is) in
    let li = p.links_is in
    let e3 : c.store.new.seat.me ≡ F_node c.node_word.result c.load-word.new.seat.me = c.store.ensures.2 in
    let v3 = e3 ∙ ap (F_node c.node_word.result) g.view in
    let li3 = ap (λ m. m.0.claims.count) v3 in
    let e4 : c.swap-old.new.seat.me ≡ F_swap c.args.m.slot c.swap-old.result c.store.new.seat.me = c.swap-old.ensures.2 c.args.m.slot (omega (arith, li, li3)) in
    let v4 = e4 ∙ ap (F_swap c.args.m.slot c.swap-old.result) v3 in
    let li4 = ap (λ m. m.0.claims.count) v4 in
    let mi4 = ap (λ m. m.0.mods) v4 in (
      c.swap-old.ensures.0 ∙ (c.store.ensures.0 ∙ (l.0 ∙ (d.0 ∙ t))),
      omega (arith, ap (λ z. z.words) t, p.words_is, g.low, li),
      comes _ _ _ _ c.swap-old.new.seat.me.0 c.swap-old.new.seat.me.1 (ap (λ m. m.0.claims.live) v4 ∙ p.live)
          (way c.args.m.slot c.swap-old.result (noded c.node_word.result (new_link (handle_at c.load-word.result)))) v.links c.swap-old.result _ (ap (λ m. m.0.links) v4) refl (omega (arith, li, p.mods_is, li4, mi4)),
    )

-- what the enter leaves
entry_left : (c : goal.After-store-2) → Got c.pass.inside.seat.me.0 c.fetch_add-index.result c.load-word.result c.load-word.new.seat.me
    × (c.store-2.new.seat.me ≡ (entered c.pass.inside.seat.me.0 c.fetch_add-index.result c.args.m.slot c.node_word.result (c.load-word.result % 4294967296), []))
entry_left c =
    let v = c.pass.inside.seat.me.0 in
    let p = c.pass.invariant.1 in
    let n = c.fetch_add-index.result in
    let g = got _ _ n c.load-word.result v _ _ (c.fetch_add-index.ensures.2 ∙ ap (λ z. (drew v n, z)) c.pass.invariant.0) c.load-word.ensures.2 (place_is _ n _ _ n _ (c.from.ensures ∙ sym p.head_is) refl (c.from-2.ensures ∙ sym p.links_is)) (omega (arith, c.if-index-room.false, c.from-room.ensures, p.room_is)) in
    let e3 : c.store.new.seat.me ≡ F_node c.node_word.result c.load-word.new.seat.me = c.store.ensures.2 in
    let li3 = ap (λ m. m.0.claims.count) (e3 ∙ ap (F_node c.node_word.result) g.view) in
    let e4 : c.swap-old.new.seat.me ≡ F_swap c.args.m.slot c.swap-old.result c.store.new.seat.me = c.swap-old.ensures.2 c.args.m.slot (omega (arith, p.links_is, li3)) in
    (g, last v n c.load-word.result c.args.m.slot c.node_word.result c.swap-old.result _ _ _ _ g e3 e4 c.store-2.ensures.2)

pub invariant_of-pass-2 : goal.invariant_of-pass-2
invariant_of-pass-2 c =
    let p = c.pass.invariant.1 in
    let l = entry_left c in
    let tt5 = ap (λ z. z.words) (c.store-2.ensures.0 ∙ (c.swap-old.ensures.0 ∙ (c.store.ensures.0 ∙ (c.load-word.ensures.0 ∙ c.fetch_add-index.ensures.0)))) in
    (ap (λ m. m.1) l.1, subst (λ (x : ℕ × _). Carries c.pass.inside.links c.pass.inside.mods c.pass.inside.head c.pass.inside.room x.0 x.1) (λ j. (sym tt5 j, ap (λ m. m.0) (sym l.1) j)) (carries _ _ _ _ _ c.fetch_add-index.result c.args.m.slot c.node_word.result (c.load-word.result % 4294967296) c.pass.inside.seat.me.0 p (omega (arith, l.0.low, p.links_is))))

pub returns-clause-ok : goal.returns-clause-ok
returns-clause-ok c =
    let n = c.fetch_add-index.result in
    let l = entry_left c in
    let is = ap (λ p. p.knows) c.pass.view_is in
    (n, subst (λ x. n < length x.claims.list) is (omega (arith, c.if-index-room.false, c.from-room.ensures, c.pass.invariant.1.room_is)), (handle_at c.load-word.result, sym (ap (λ x. entry x.claims.list n) is) ∙ l.0.entry, refl), ap (λ m. m.0) l.1 ∙ (λ j. entered (is j) n c.args.m.slot (c.node_word.ensures j) (c.load-word.result % 4294967296)))

pub returns-clause-new : goal.returns-clause-new
returns-clause-new c = subst (λ x. sum_by (named (c.load-word.result % 4294967296)) x.links ≡ 0) (ap (λ p. p.knows) c.pass.view_is) (entry_left c).0.new

pub returns-clause-room : goal.returns-clause-room
returns-clause-room c = let r = returns-clause-ok c in ap (λ v. v.claims.over) r.3 ∙ within r.0 c.args.pass.now.knows.claims.over (length c.args.pass.now.knows.claims.list) r.1 c.requires.room

pub returns-clause-has : goal.returns-clause-has
returns-clause-has c = λ x had. let r = returns-clause-ok c in still_has c.args.pass.now.knows _ r.0 c.args.m.slot _ _ r.3 x had
