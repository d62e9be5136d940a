use Rattle.std.proofs.Common.{◌≡◌, ◌∙◌, ℕ, List, sym, subst}
use Rattle.psac_slots.specs.Passes.{Pass}
use Rattle.psac_values.specs.declared.view.ValueView.{ValueView}
use Rattle.psac_values.specs.Knowing.{Knows}
use Rattle.psac_engine.proofs.Looks.{known_words, known_some, known_told}
use Rattle.psac_engine.proofs.held.look_at.Goals as goal

pub read-words-requires-clause-known : goal.read-words-requires-clause-known
read-words-requires-clause-known c =
    let m = c.args.handle in
    let k = c.requires.known (c.is_live.ensures.live c.if-not-is_live.false) (sym c.is_unwritten.ensures ∙ c.if-is_unwritten.false) in
    subst (λ (z : Pass ValueView). (ws : List ℕ) × Knows z.knows m ws) (sym c.is_live.ensures.same) (known_words c.args.pass.now.knows m k)

pub unreachable-requires : goal.unreachable-requires
unreachable-requires c =
    let m = c.args.handle in
    let ws = c.read-words.result in
    let k = c.requires.known (c.is_live.ensures.live c.if-not-is_live.false) (sym c.is_unwritten.ensures ∙ c.if-is_unwritten.false) in
    let words = subst (λ (z : Pass ValueView). (xs : List ℕ) → Knows z.knows m xs → ws ≡ xs) c.is_live.ensures.same
    c.read-words.ensures.words in
    known_some c.args.pass.now.knows m k ws c.from_words.result words c.from_words.ensures.value c.in_default.is

pub returns-clause-told : goal.returns-clause-told
returns-clause-told c =
    let m = c.args.handle in
    let ws = c.read-words.result in
    let live = c.is_live.ensures.live c.if-not-is_live.false in
    let shut = sym c.is_unwritten.ensures ∙ c.if-is_unwritten.false in
    let words = subst (λ (z : Pass ValueView). (xs : List ℕ) → Knows z.knows m xs → ws ≡ xs) c.is_live.ensures.same
    c.read-words.ensures.words in (
      live,
      shut,
      known_told c.args.pass.now.knows m (c.requires.known live shut) ws c.from_words.result c.in-Some.value words
          c.from_words.ensures.value c.in-Some.is,
    )
