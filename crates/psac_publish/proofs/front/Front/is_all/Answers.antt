use Rattle.std.proofs.Common.{◌≡◌, ◌∙◌, ap, sym, subst, arith, List}
use Rattle.std.proofs.lemmas.Bool.Decides.{nat_tests}
use mathlib.Core.List.{IsPrefix}
use Rattle.psac_publish.specs.declared.seen.Seen.{Seen}
use Rattle.psac_publish.specs.History.{last_commit}
use Rattle.psac_publish.proofs.Histories.{has_all}
use Rattle.psac_publish.proofs.Prefixes.{prefix_then}
use Rattle.psac_publish.proofs.front.Front.is_all.Goals as goal

pub returns : goal.returns
returns c = λ found.
    let mine = c.self.inside.token.log in
    let theirs = c.other.inside.token.log in
    let both = c.learn.new.self.log in
    let all = c.load.new.seen.log in
    let grew : IsPrefix both all = c.load.ensures.5 in
    let first : IsPrefix mine both = subst (λ (l : List Seen). IsPrefix l both) (ap (λ t. t.log) c.again-token.ensures) c.learn.ensures.2 in
    let this : IsPrefix mine all = prefix_then mine both all first grew in
    let that : IsPrefix theirs all = prefix_then theirs both all c.learn.ensures.3 grew in
    let read = c.load.ensures.6.1 in
    let value : c.load.result ≡ last_commit all = read.0 in
    let same : c.load.result ≡ c.self.inside.last.commit = grind (arith, nat_tests) in
    rw (← c.self.view_is, ← c.other.view_is) (has_all mine theirs all c.self.inside.last this that read.1 c.self.invariant.1 (sym value ∙ same))
