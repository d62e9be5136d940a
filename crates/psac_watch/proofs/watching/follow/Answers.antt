use Rattle.std.proofs.Common.{◌≡◌, ◌∙◌, ap, sym, true, Some}
use Rattle.psac_publish.specs.History.{last_commit}
use Rattle.psac_watch.proofs.Ending.{held_or_none}
use Rattle.psac_watch.proofs.Growing.{shown_on, up_to}
use Rattle.psac_watch.proofs.watching.follow.Goals as goal

pub returns-clause-held : goal.returns-clause-held
returns-clause-held g c = record {
  log = c.both-last.new.publisher.published;
  held = held_or_none _ _ _ _ _ _ _ _ _ _ (rw c.requires.begun at c.both-last.ensures.held) c.end_where.ensures.end;
  counted = rw c.last-commits.ensures c.both-last.new.publisher.counted;
}

pub returns-clause-shown : goal.returns-clause-shown
returns-clause-shown g c = shown_on _ _ _ _ _ _ _ c.both-last.ensures.shown c.show-last.ensures.shown

pub returns-clause-last : goal.returns-clause-last
returns-clause-last g c = λ done.
    let known : c.catch_up-known.result ≡ true = c.end_where.ensures.known done in
    let all = c.catch_up-known.ensures.all known in
    let up = up_to _ _ _ c.both-last.ensures.latest c.catch_up-known.ensures.rises in
    c.show-last.ensures.latest (rw c.seen.ensures.commit up) ∙ ap Some (c.seen.ensures.commit ∙ (ap last_commit all ∙ sym c.last-commits.ensures))
