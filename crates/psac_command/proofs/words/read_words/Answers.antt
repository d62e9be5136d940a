use Rattle.std.proofs.Common.{ap, codes, refl, true, map, string_bytes, List, Option, ◌≡◌, ◌∙◌, ℕ}
use Rattle.clap.specs.Words.{App, Text, app_of, first_of, first_value, found_of, is_simple, is_simple_and_free, matches_of, rows_of}
use Rattle.clap.proofs.OnLiterals.{clap_on_literals}
use Rattle.clap.proofs.WalkLemmas.{first_value-rows}
use Rattle.psac_command.proofs.Takes.{refused_is, refuses_as, taken_is, takes_as}
use Rattle.psac_command.specs.Words.{given, psac_app}
use Rattle.psac_command.specs.Asked.{Given}
use Rattle.psac_command.proofs.words.read_words.Goals as goal

simple_and_free : is_simple_and_free psac_app ≡ true
unfolding clap_on_literals
simple_and_free = refl

simple : is_simple psac_app ≡ true
unfolding clap_on_literals
simple = refl

pub returns-in-Ok-clause-taken : goal.returns-in-Ok-clause-taken
returns-in-Ok-clause-taken c =
    let app : app_of c.in_ok-command.command ≡ psac_app = c.in_ok-command.ensures in
    taken_is _ (takes_as _ psac_app (map string_bytes c.args.words.now) app simple_and_free c.in-Ok.ensures.kinds)

same_texts : (m1 m2 p1 p2 i1 i2 w1 w2 n1 n2 o1 o2 l1 l2 r1 r2 : Option (List ℕ)) → m1 ≡ m2 → p1 ≡ p2 → i1 ≡ i2 → w1 ≡ w2 → n1 ≡ n2 → o1 ≡ o2 → l1 ≡ l2 → r1 ≡ r2
    → (let x : Given = record { mode = m1; program = p1; input = i1; workers = w1; nodes = n1; mods = o1; links = l1; rows = r1 } in x)
    ≡ record { mode = m2; program = p2; input = i2; workers = w2; nodes = n2; mods = o2; links = l2; rows = r2 }
same_texts m1 m2 p1 p2 i1 i2 w1 w2 n1 n2 o1 o2 l1 l2 r1 r2 m p i w n o l r = rw (m, p, i, w, n, o, l, r) refl

pub returns-in-Ok-clause-texts : goal.returns-in-Ok-clause-texts
returns-in-Ok-clause-texts c =
    let app : app_of c.in_ok-command.command ≡ psac_app = c.in_ok-command.ensures in
    let words = map string_bytes c.args.words.now in
    let rows : rows_of (found_of c.in-Ok.matches) ≡ matches_of psac_app words =
    (c.in-Ok.ensures.matches (ap is_simple app ∙ simple)).0 ∙ ap (λ (a : App). matches_of a words) app in
    let text : (id : Text) → first_value (found_of c.in-Ok.matches) id ≡ given id words =
    λ id. first_value-rows (found_of c.in-Ok.matches) id ∙ ap (first_of id) rows in
    same_texts _ _ _ _ _ _ _ _ _ _ _ _ _ _ _ _
    (c.get_str.ensures ∙ text (codes "mode"))
    (c.get_str-in-Ok.ensures ∙ text (codes "program"))
    (c.get_str-in-Ok-2.ensures ∙ text (codes "input"))
    (c.get_str-in-Ok-3.ensures ∙ text (codes "workers"))
    (c.get_str-in-Ok-4.ensures ∙ text (codes "nodes"))
    (c.get_str-in-Ok-5.ensures ∙ text (codes "mods"))
    (c.get_str-in-Ok-6.ensures ∙ text (codes "links"))
    (c.get_str-in-Ok-7.ensures ∙ text (codes "rows"))

pub returns : goal.returns
returns c =
    let app : app_of c.in_ok-command.command ≡ psac_app = c.in_ok-command.ensures in
    record {
      taken = refused_is _ (refuses_as _ psac_app (map string_bytes c.args.words.now) c.in-Err.error app simple_and_free c.in-Err.ensures.kinds
          (λ memory. c.in_default.not-OutOfMemory (c.kind.ensures ∙ memory)));
      texts = tt;
    }
