use Rattle.std.proofs.Common.{rules, arith, ◌≡◌, ◌+◌, ◌++◌, ◌∷◌, [], ◌∙◌, None, length, ap, refl}
use Rattle.std.specs.Prelude.{sum_by}
use Rattle.std.specs.List.{position_from}
use Rattle.std.specs.Str.{bytes_eq}
use Rattle.std.proofs.lemmas.List.{length_push}
use Rattle.std.proofs.lemmas.List.Sums.{sum_by_push}
use Rattle.psac_inputs.specs.Texts.{Texts, text_id}
use Rattle.psac_inputs.specs.TextList.{shown}
use Rattle.psac_inputs.proofs.TextPlaces.{has_room-tells, pushed}
use Rattle.psac_inputs.proofs.interner.Interner.push.Goals as goal

pub returns-clause-ok : goal.returns-clause-ok
returns-clause-ok c =
    let text : c.extend_from_slice.new.self.items ≡ c.args.bytes.now = search rules in
    let none : position_from (bytes_eq c.args.bytes.now) 0 (shown c.self.inside) ≡ None =
    ap (position_from (bytes_eq c.args.bytes.now) 0) c.self.view_is ∙ c.requires.new in
    let new = pushed (λ v. v.items) c.extend_from_slice.new.self c.args.bytes.now c.self.inside.texts.keys c.insert_full.new.self.keys c.in_ok-place.place text none c.in_ok-place.ensures.keys c.in_ok-place.ensures.index in
    new.0 ∙ ap (λ (ts : Texts). ts ++ c.args.bytes.now ∷ []) c.self.view_is

pub returns-clause-id : goal.returns-clause-id
returns-clause-id c =
    let text : c.extend_from_slice.new.self.items ≡ c.args.bytes.now = search rules in
    let none : position_from (bytes_eq c.args.bytes.now) 0 (shown c.self.inside) ≡ None =
    ap (position_from (bytes_eq c.args.bytes.now) 0) c.self.view_is ∙ c.requires.new in
    let new = pushed (λ v. v.items) c.extend_from_slice.new.self c.args.bytes.now c.self.inside.texts.keys c.insert_full.new.self.keys c.in_ok-place.place text none c.in_ok-place.ensures.keys c.in_ok-place.ensures.index in
    let place = new.1 ∙ ap (λ (ts : Texts). length ts) c.self.view_is in
    c.text_id.ensures ∙ ap (λ k. text_id k c.args.bytes.now) place

pub invariant_of-self-2 : goal.invariant_of-self-2
invariant_of-self-2 c =
    let now = returns-clause-ok c in
    let room = has_room-tells c.args.bytes.now c.args.self.now c.requires.room in
    let size : c.self.inside.size ≡ sum_by length c.args.self.now = c.self.invariant.size ∙ ap (sum_by length) c.self.view_is in
    let longer : length (c.args.self.now ++ c.args.bytes.now ∷ []) ≡ length c.args.self.now + 1 = length_push c.args.self.now c.args.bytes.now in
    let larger : sum_by length (c.args.self.now ++ c.args.bytes.now ∷ []) ≡ sum_by length c.args.self.now + length c.args.bytes.now = sum_by_push length c.args.self.now c.args.bytes.now in
    record {
      count = rw now (omega (arith, room.0, longer));
      size = rw (now, larger, size) refl;
      short = omega (arith, size, room.1);
    }
