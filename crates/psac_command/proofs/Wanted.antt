-- What words of the command's form ask for, and others.
use Rattle.std.proofs.Common.{◌≡◌, ◌∙◌, ℕ, List, Option, Some, None, IfSome, MatchOption, true, false, refl, sym, ap}
use Rattle.psac_command.specs.declared.words.Words.{Words}
use Rattle.psac_command.specs.Words.{is_taken}
use Rattle.psac_command.specs.Asked.{Asked, Given, asked, asked_by, given_by, in_form, single_asked, single_by, watch_asked, watched_by}
use Rattle.psac_command.specs.Bench.{BenchAsked, bench_asked, bench_by}
use Rattle.psac_command.specs.Views.{words_view}

taken_form : {A : Type 0} → (by : Given → Option A) (words : List (List ℕ)) → is_taken words ≡ true → in_form by words ≡ by (given_by words)
taken_form by words h = rw h refl

refused_form : {A : Type 0} → (by : Given → Option A) (words : List (List ℕ)) → is_taken words ≡ false → in_form by words ≡ None
refused_form by words h = rw h refl

abbrev Told : List (List ℕ) → Option Words → Type 0
Told words found = MatchOption found (is_taken words ≡ false) (λ w. is_taken words ≡ true)

form_is : {A : Type 0} → (by : Given → Option A) (words : List (List ℕ)) (found : Option Words) (w : Words) (r : Option A) → found ≡ Some w → Told words found
    → IfSome found (λ w. words_view w ≡ given_by words) → r ≡ by (words_view w) → r ≡ in_form by words
form_is by words None w r is told texts h = absurd cc
form_is by words (Some x) w r is told texts h =
    let same : x ≡ w = cc in
    h ∙ ap (λ y. by (words_view y)) (sym same) ∙ ap by texts ∙ sym (taken_form by words told)

no_form : {A : Type 0} → (by : Given → Option A) (words : List (List ℕ)) (found : Option Words) → found ≡ None → Told words found → None ≡ in_form by words
no_form by words None is told = sym (refused_form by words told)
no_form by words (Some x) is told = absurd cc

pub asked_is : (words : List (List ℕ)) (found : Option Words) (w : Words) (r : Option Asked) → found ≡ Some w → Told words found → IfSome found (λ w. words_view w ≡ given_by words)
    → r ≡ asked_by (words_view w) → r ≡ asked words
unfolding asked
asked_is words found w r is told texts h = form_is asked_by words found w r is told texts h

pub nothing_is : (words : List (List ℕ)) (found : Option Words) → found ≡ None → Told words found → None ≡ asked words
unfolding asked
nothing_is words found is told = no_form asked_by words found is told

pub watch_is : (words : List (List ℕ)) (found : Option Words) (w : Words) (r : Option Asked) → found ≡ Some w → Told words found → IfSome found (λ w. words_view w ≡ given_by words)
    → r ≡ watched_by (words_view w) → r ≡ watch_asked words
unfolding watch_asked
watch_is words found w r is told texts h = form_is watched_by words found w r is told texts h

pub no_watch_is : (words : List (List ℕ)) (found : Option Words) → found ≡ None → Told words found → None ≡ watch_asked words
unfolding watch_asked
no_watch_is words found is told = no_form watched_by words found is told

pub bench_is : (words : List (List ℕ)) (found : Option Words) (w : Words) (r : Option BenchAsked) → found ≡ Some w → Told words found → IfSome found (λ w. words_view w ≡ given_by words)
    → r ≡ bench_by (words_view w) → r ≡ bench_asked words
unfolding bench_asked
bench_is words found w r is told texts h = form_is bench_by words found w r is told texts h

pub no_bench_is : (words : List (List ℕ)) (found : Option Words) → found ≡ None → Told words found → None ≡ bench_asked words
unfolding bench_asked
no_bench_is words found is told = no_form bench_by words found is told

pub single_is : (name : List ℕ) (words : List (List ℕ)) (found : Option Words) (w : Words) (r : Option Asked) → found ≡ Some w → Told words found
    → IfSome found (λ w. words_view w ≡ given_by words) → r ≡ single_by name (words_view w) → r ≡ single_asked name words
unfolding single_asked
single_is name words found w r is told texts h = form_is (single_by name) words found w r is told texts h

pub no_single_is : (name : List ℕ) (words : List (List ℕ)) (found : Option Words) → found ≡ None → Told words found → None ≡ single_asked name words
unfolding single_asked
no_single_is name words found is told = no_form (single_by name) words found is told
