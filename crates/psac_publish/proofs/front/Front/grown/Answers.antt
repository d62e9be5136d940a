use Rattle.std.proofs.Common.{rules, sym, ◌∙◌, ap, ◌≡◌, ◌<◌, ◌++◌, ◌∷◌, [], arith}
use Rattle.psac_publish.specs.History.{Reached, last_commit}
use Rattle.psac_publish.proofs.Adding.{adds}
use Rattle.psac_publish.proofs.Histories.{adds_to, commit_of_last, last_added}
use Rattle.psac_publish.proofs.Fronts.{when_equal}
use Rattle.psac_publish.proofs.front.Front.grown.Goals as goal

pub compare_exchange-found-requires : goal.compare_exchange-found-requires
compare_exchange-found-requires c =
    let h = c.requires.word in
    let offer = c.plain-offer.ensures in
    let pen = c.no_pen-pen.ensures in
    let mine = c.self.inside.token.log in
    let later : last_commit mine < c.args.seen.commit = rw (← c.self.view_is) at c.requires.later in
    let value : last_commit mine ≡ c.self.inside.last.commit = commit_of_last c.self.inside.last mine c.self.invariant.1 in
    let low : c.self.inside.last.commit < c.args.seen.commit = omega arith in
    let book = ap (λ t. t.book) c.again-token.ensures ∙ (ap (λ (r : Reached). r.book) c.self.view_is ∙ sym (ap (λ w. w.book) h)) in (
      ap (λ w. w.tracked) h,
      book,
      pen.0 ∙ book,
      offer.0,
      rw (ap (λ w. w.key) h, pen.1, offer.1, offer.3, ap (λ t. t.log) c.again-token.ensures) (adds mine c.args.seen c.self.inside.last c.self.invariant.1 low),
    )

pub invariant_of-result : goal.invariant_of-result
invariant_of-result c =
    let mine = c.self.inside.token.log in
    let later : last_commit mine < c.args.seen.commit = rw (← c.self.view_is) at c.requires.later in
    let copied = ap (λ t. t.log) c.again-token.ensures in
    let added = when_equal c.compare_exchange-found.result c.self.inside.last.commit _ (search rules) c.compare_exchange-found.ensures.7 in
    let log : c.compare_exchange-found.new.seen.log ≡ mine ++ c.args.seen ∷ [] = rw (copied, c.plain-offer.ensures.1) at added in
    rw log (adds_to mine c.args.seen c.self.invariant.0 later, last_added mine c.args.seen)
