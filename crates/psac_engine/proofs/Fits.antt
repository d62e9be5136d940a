-- The old record and what a repair made are within the caps, where no index past a table's list was drawn.
use Rattle.std.proofs.Common.{◌≡◌, ℕ, ◌+◌, ◌<◌, ◌≤◌, List, map, length, refl, ap, ◌∙◌, subst, arith, length-append}
use Rattle.std.specs.Prelude.{sum_by}
use Rattle.std.proofs.lemmas.List.{length-map}
use Rattle.psac_ops.specs.declared.plain.Handle.{Handle}
use Rattle.psac_slots.specs.Claiming.{Accounted, DrewBelow, times}
use Rattle.psac_slots.specs.declared.view.ClaimView.{ClaimView}
use Rattle.psac_values.specs.declared.view.ValueView.{ValueView}
use Rattle.psac_values.specs.Steps.{made_handle}
use Rattle.psac_readers.specs.declared.view.LinkView.{LinkView}
use Rattle.psac_readers.specs.declared.view.ReadersView.{ReadersView}
use Rattle.psac_readers.specs.declared.view.Stage.TheVariants.{In as Live}
use Rattle.psac_marks.specs.declared.view.OwnView.{OwnView}
use Rattle.psac_marks.specs.declared.view.MarksView.{MarksView}
use Rattle.psac_fork.specs.declared.tables.Pass.{Pass}
use Rattle.psac_fork.specs.declared.tables.Tables.{Tables}
use Rattle.psac_inputs.specs.Grid.{Grid}
use Rattle.psac_model.specs.declared.ends.Caps.{Caps}
use Rattle.psac_model.specs.declared.ends.CapKind.{CapKind}
use Rattle.psac_model.specs.declared.ends.CapKind.TheVariants as cap
use Rattle.psac_model.specs.declared.ends.Size.{Size}
use Rattle.psac_model.specs.Tree.{add_size}
use Rattle.psac_model.specs.Fresh.{World, nodes_of}
use Rattle.psac_cut.specs.Within.{cap_of, count_of}
use Rattle.psac_cut_repair.specs.Update.{IsInCaps}
use Rattle.psac_record.specs.Kept.{Kept, E, A, W, S, P, R, Stands, nodes_in, links_of, made_of, counts}
use Rattle.psac_trace.specs.Grown.{Cause, nodes_in as handles_in}
use Rattle.psac_repair.specs.Linked.{Relinked}
use Rattle.psac_repair.specs.Going.{Roomy, IsFull, Lasting, claims_of, views}
use Rattle.psac_repair.proofs.Drawing.{count_add}
use Rattle.psac_repair.proofs.Whole.{drawn_given}
use Rattle.psac_reclaim.specs.Gave.{out_of}
use Rattle.psac_reclaim.specs.Owed.{entered}
use Rattle.psac_reclaim.proofs.Sizes.{links_out}
use Rattle.psac_stage.specs.Resting.{HasAll}
use Rattle.psac_stage.specs.Settling.{Settles}
use Rattle.psac_stage.proofs.Counts.{drawn_long, once_low, sum_ones}
use Rattle.psac_engine.specs.Mending.{Staged}
use Rattle.psac_engine.proofs.Sizes.{mods_count, links_count}

pub nodes_in_count : (k : Kept) → length (nodes_in k) ≡ nodes_of (counts k)
nodes_in_count E = refl
nodes_in_count (A m rest) = nodes_in_count rest ∙ omega arith
nodes_in_count (W m v rest) = nodes_in_count rest
nodes_in_count (S node t rest) =
    let a = nodes_in_count t in
    let b = nodes_in_count rest in
    let c = length-append (nodes_in t) (nodes_in rest) in
    omega (arith, a, b, c)
nodes_in_count (P node l r) =
    let a = nodes_in_count l in
    let b = nodes_in_count r in
    let c = length-append (nodes_in l) (nodes_in r) in
    omega (arith, a, b, c)
nodes_in_count (R reading t) = let a = nodes_in_count t in omega (arith, a)

-- as many as a list has
sum_one : {X : Type 0} (xs : List X) → sum_by (λ (x : X). 1) xs ≡ length xs
sum_one xs = sum_ones xs

-- an index at the room or past it shows that more was drawn than the list has
drawn_most : (n index : ℕ) (c d : ClaimView) → DrewBelow n d → times index c.drawn < times index d.drawn → index < length d.drawn
drawn_most n index c d drew more =
    let low = once_low index n (let a = drew index in omega (arith, a, more)) in
    let long = drawn_long n d.drawn drew in
    omega (arith, low, long)

module _ (w : World) (g h : Grid) (caps : Caps) (age : ℕ) (t : Tables) (k : Kept) (p : Pass) (s : Staged w g h caps age t k p) where
  -- what is out is as much as the old record has
  mods_out : length p.values.knows.claims.held ≡ (counts k).mods
  mods_out =
      let a = s.recorded.values.out (λ (m : Handle). 1) in
      let b = sum_one (out_of s.before.values) in
      let c = sum_one (made_of k) in
      let d = length-map s.before.values.claims.held (made_handle s.before.values.fixed) in
      let e = ap (λ (c : ClaimView). length c.held) s.changes.same.claims in
      omega (arith, a, b, c, d, e, mods_count k)

  nodes_out : length p.marks.knows.claims.held ≡ nodes_of (counts k)
  nodes_out =
      let a = s.recorded.nodes.out (λ (m : Handle). 1) in
      let b = sum_one s.before.marks.claims.held in
      let c = sum_one (nodes_in k) in
      let e = ap (λ (m : MarksView). length m.claims.held) s.changes.becomes in
      omega (arith, a, b, c, e, nodes_in_count k)

  links_in : length s.before.readers.links ≡ (counts k).links
  links_in =
      let a = s.recorded.links.links (λ (l : LinkView). 1) in
      let b = sum_one s.before.readers.links in
      let c = sum_one (map (entered Live) (links_of k)) in
      let d = length-map (links_of k) (entered Live) in
      omega (arith, a, b, c, d, links_count k)

  whole_links : Accounted s.before.readers.claims
  whole_links = subst Accounted s.changes.readers.claims s.rested.links.whole

  links_held : length p.readers.knows.claims.held ≡ (counts k).links
  links_held =
      let a = links_out s.before.readers s.recorded.links.holds whole_links in
      let e = ap (λ (c : ClaimView). length c.held) s.changes.readers.claims in
      omega (arith, a, e, links_in)

  roomy : Roomy (views p)
  roomy = (s.rested.mods.over, s.rested.links.over, s.rested.nodes.over)

  module _ (q z : Pass) (l : Lasting (views p) (views q)) (settles : Settles q z) where
    -- a table that was full
    module _ (c : Cause) (full : IsFull (views p) (views q) c) where
      pub too_full : cap_of c.which caps < count_of c.which (counts k) + l.drawn c.which
      too_full = by c.which c.index c.room full.list full.past full.drew (l.indexes c.which)
        where
          by : (which : CapKind) (index room : ℕ) → room ≡ length (claims_of which (views p)).list → room ≤ index
              → times index (claims_of which (views p)).drawn < times index (claims_of which (views q)).drawn
              → length (claims_of which (views q)).drawn ≡ length (claims_of which (views p)).drawn + l.drawn which
              → cap_of which caps < count_of which (counts k) + l.drawn which
          by cap.Nodes index room is past more e =
              let a = drawn_most settles.nodes index p.marks.knows.claims q.marks.knows.claims settles.drew_nodes more in
              let b = s.rested.nodes.whole.all in
              let z = ap (λ (xs : List ℕ). length xs) s.rested.nodes.drawn in
              omega (arith, is, past, e, a, b, z, s.all.nodes.count_is, nodes_out)
          by cap.Mods index room is past more e =
              let a = drawn_most settles.mods index p.values.knows.claims q.values.knows.claims settles.drew_mods more in
              let b = s.rested.mods.whole.all in
              let z = ap (λ (xs : List ℕ). length xs) s.rested.mods.drawn in
              omega (arith, is, past, e, a, b, z, s.all.mods.count_is, mods_out)
          by cap.Links index room is past more e =
              let a = drawn_most settles.links index p.readers.knows.claims q.readers.knows.claims settles.drew_links more in
              let b = s.rested.links.whole.all in
              let z = ap (λ (xs : List ℕ). length xs) s.rested.links.drawn in
              omega (arith, is, past, e, a, b, z, s.all.links.count_is, links_held)

    -- no index past a list was drawn, and as many slots were claimed as were made
    module _ (gone made : List Stands) (r : Relinked p.readers.knows q.readers.knows gone made) (room : Roomy (views q))
        (all : HasAll h (length w.main.dests) caps age z) (drew : l.drew cap.Links ≡ length made) where
      mods_now : (counts k).mods + length l.mods ≤ caps.mods
      mods_now =
          let a = l.values.held (λ (m : Handle). 1) in
          let b = sum_one q.values.knows.claims.held in
          let c = sum_one p.values.knows.claims.held in
          let d = sum_one l.mods in
          let e = ap (λ (v : ValueView). length v.claims.held) settles.values in
          let f = settles.whole_mods.all in
          omega (arith, a, b, c, d, e, f, all.mods.count_is, mods_out)

      nodes_now : nodes_of (counts k) + length l.nodes ≤ caps.nodes
      nodes_now =
          let a = l.swapped.held (λ (m : Handle). 1) in
          let b = sum_one q.marks.knows.claims.held in
          let c = sum_one p.marks.knows.claims.held in
          let d = sum_one (handles_in l.nodes) in
          let n = length-map l.nodes (λ (o : OwnView). o.node) in
          let e = ap (λ (v : MarksView). length v.claims.held) settles.marks in
          let f = settles.whole_nodes.all in
          omega (arith, a, b, c, d, n, e, f, all.nodes.count_is, nodes_out)

      links_now : (counts k).links + length made ≤ caps.links
      links_now =
          let a = r.links (λ (y : LinkView). 1) in
          let b = sum_one q.readers.knows.links in
          let c = sum_one p.readers.knows.links in
          let d = sum_one gone in
          let n = sum_one made in
          let same = ap (λ (ls : List LinkView). length ls) s.changes.readers.links in
          let e = ap (λ (v : ReadersView). length v.links) settles.readers in
          let f = settles.whole_links.all in
          let o = links_out z.readers.knows settles.holds settles.whole_links in
          omega (arith, a, b, c, d, n, same, e, f, o, all.links.count_is, links_in)

      pub in_caps : (added : Size) → ((c : CapKind) → l.drawn c ≡ count_of c added) → IsInCaps (add_size (counts k) added) caps
      in_caps added draws =
          let given = drawn_given (views p) (views q) l roomy in
          record {
            nodes = (let a = draws cap.Nodes in let b = given cap.Nodes in omega
                (arith, a, b, room.2, l.nodes_drew, nodes_now, count_add cap.Nodes (counts k) added));
            mods = (let a = draws cap.Mods in let b = given cap.Mods in omega
                (arith, a, b, room.0, l.mods_drew, mods_now, count_add cap.Mods (counts k) added));
            links = (let a = draws cap.Links in let b = given cap.Links in omega
                (arith, a, b, room.1, drew, links_now, count_add cap.Links (counts k) added));
          }
