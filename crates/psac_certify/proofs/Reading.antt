-- A text that was read whole.
use Rattle.std.proofs.Common.{◌≡◌, ◌∙◌, ℕ, List, [], ◌++◌, Option, None, Some}
use Rattle.std.proofs.lemmas.List.{append-nil}
use Rattle.psac_session.specs.Answered.{IsScript}
use Rattle.psac_certify.specs.Given.{IsAllOf}

-- where they are told, the bytes are the script
pub whole_script : (bytes : List ℕ) (left left_now : Option (List ℕ)) (taken taken_now : ℕ)
    → IsAllOf bytes left left_now taken taken_now → IsScript left bytes
whole_script bytes None left_now taken taken_now all = tt
whole_script bytes (Some xs) None taken taken_now all = absurd all.took
whole_script bytes (Some xs) (Some ys) taken taken_now all =
    let took : xs ≡ bytes ++ ys = all.took in
    let none : ys ≡ [] = all.at_end in
    rw none at took ∙ append-nil bytes
