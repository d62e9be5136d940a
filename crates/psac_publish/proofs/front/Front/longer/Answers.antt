use Rattle.std.proofs.Common.{ap, subst, arith, ◌≤◌, List}
use mathlib.Core.List.{IsPrefix}
use Rattle.psac_publish.specs.declared.seen.Seen.{Seen}
use Rattle.psac_publish.proofs.Histories.{begins_later}
use Rattle.psac_publish.proofs.front.Front.longer.Goals as goal

pub returns-then-self-other-clause-this : goal.returns-then-self-other-clause-this
returns-then-self-other-clause-this c =
    let mine = c.self.inside.token.log in
    let theirs = c.other.inside.token.log in
    let both = c.learn.new.self.log in
    let this : IsPrefix mine both = subst (λ (l : List Seen). IsPrefix l both) (ap (λ t. t.log) c.again-both.ensures) c.learn.ensures.2 in
    let history = c.learn.ensures.4.1.history in
    let up : c.self.inside.last.commit ≤ c.other.inside.last.commit = omega (arith, c.if-self-other.true) in
    rw (c.again.ensures, ← c.self.view_is, ← c.other.view_is)
    (begins_later mine theirs both c.self.inside.last c.other.inside.last this c.learn.ensures.3 history c.self.invariant.1 c.other.invariant.1 up)

pub returns-clause-that : goal.returns-clause-that
returns-clause-that c =
    let mine = c.self.inside.token.log in
    let theirs = c.other.inside.token.log in
    let both = c.learn.new.self.log in
    let this : IsPrefix mine both = subst (λ (l : List Seen). IsPrefix l both) (ap (λ t. t.log) c.again-both.ensures) c.learn.ensures.2 in
    let history = c.learn.ensures.4.1.history in
    let up : c.other.inside.last.commit ≤ c.self.inside.last.commit = omega (arith, c.if-self-other.false) in
    rw (c.again-else-self-other.ensures, ← c.self.view_is, ← c.other.view_is)
    (begins_later theirs mine both c.other.inside.last c.self.inside.last c.learn.ensures.3 this history c.other.invariant.1 c.self.invariant.1 up)
