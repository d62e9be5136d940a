use Rattle.std.proofs.Common.{◌∙◌, sym, ap, is_some, map}
use Rattle.psac_tokens.specs.Number.{place_of, with_word}
use Rattle.psac_tokens.proofs.Places.{found, added}
use Rattle.psac_tokens.proofs.distinct.Distinct.place.Goals as goal

pub returns-in-Some-clause-place : goal.returns-in-Some-clause-place
returns-in-Some-clause-place c =
    (found (λ w. w.items) c.args.word.now c.self.inside.words.keys c.in-Some.at (sym c.in-Some.is ∙ c.get_index_of.ensures.index)).0 ∙ ap (place_of c.args.word.now) c.self.view_is

pub returns-in-Some-clause-words : goal.returns-in-Some-clause-words
returns-in-Some-clause-words c =
    sym c.self.view_is ∙ (found (λ w. w.items) c.args.word.now c.self.inside.words.keys c.in-Some.at (sym c.in-Some.is ∙ c.get_index_of.ensures.index)).1 ∙ ap (λ ws. with_word ws c.args.word.now) c.self.view_is

pub returns-clause-place : goal.returns-clause-place
returns-clause-place c =
    c.len-at.ensures.len
    ∙ (added (λ w. w.items) c.args.word.now c.self.inside.words.keys c.in_ok-from_slice.field-0 c.in_ok-from_slice.ensures.items (ap is_some (sym c.in_default.is) ∙ c.get_index_of.ensures.found)).0
    ∙ ap (place_of c.args.word.now) c.self.view_is

pub returns-clause-words : goal.returns-clause-words
returns-clause-words c =
    ap (map (λ w. w.items)) c.in_ok-insert.ensures.keys
    ∙ (added (λ w. w.items) c.args.word.now c.self.inside.words.keys c.in_ok-from_slice.field-0 c.in_ok-from_slice.ensures.items (ap is_some (sym c.in_default.is) ∙ c.get_index_of.ensures.found)).1
    ∙ ap (λ ws. with_word ws c.args.word.now) c.self.view_is
