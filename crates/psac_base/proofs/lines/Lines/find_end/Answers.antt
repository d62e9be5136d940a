use Rattle.std.proofs.Common.{◌≡◌, ◌≤◌, length, length-append, arith, rules, inr, ap, ◌∙◌}
use Rattle.psac_base.specs.Feeds.{NoFeed}
use Rattle.psac_base.proofs.LineSteps.{EndsAtEnd-then, Grew-then, NoFeed-join, WasNeeded-then, over_twice}
use Rattle.psac_base.proofs.lines.Lines.find_end.Goals as goal

pub pieces-preserved : goal.pieces-preserved
pieces-preserved g c =
    let bytes = c.pieces.self.bytes.items in
    let next : NoFeed bytes c.pieces.self.seen c.feed_from-self.result = rw c.deref.ensures.value at c.feed_from-self.ensures.none in
    let whole : c.feed_from-self.result ≡ length bytes = omega (arith, c.deref.ensures.len, rw c.deref.ensures.value at c.feed_from-self.ensures.high) in
    let none : NoFeed bytes c.pieces.self.at (length bytes) =
    rw (← whole) (NoFeed-join bytes c.pieces.self.at c.pieces.self.seen c.feed_from-self.result c.pieces.self.searched next) in
    let first = c.args.self.now.bytes.items in
    let behind : length first ≤ length bytes =
    omega (arith, ap length c.pieces.invariant.grew.bytes, length-append first c.pieces.invariant.grew.got) in
    record {
      live = search rules;
      at = c.read_piece.ensures.at ∙ c.pieces.invariant.at;
      grew = Grew-then _ _ _ _ _ _ _ _ _ c.pieces.invariant.grew c.read_piece.ensures.grew;
      later = omega (arith, c.read_piece.ensures.later);
      still = λ over. absurd (over_twice _ _ _ c.if-self.false over c.pieces.invariant.ended);
      lazy = inr (WasNeeded-then first bytes _ c.args.self.now.at _ _ _ _ behind (rw (← c.pieces.invariant.at) none)
          c.read_piece.ensures.grew c.read_piece.ensures.piece);
      ended = EndsAtEnd-then _ _ _ _ _ c.if-self.false c.pieces.invariant.ended c.in_ok-read_piece.ensures.ended;
    }
