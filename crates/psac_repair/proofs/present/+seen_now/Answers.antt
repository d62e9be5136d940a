use Rattle.std.proofs.Common.{rules, [], ◌∷◌, ◌++◌, get_or, ap, ◌∙◌, append_assoc}
use Rattle.psac_ops.specs.declared.plain.Plain.TheVariants.{Nil}
use Rattle.psac_record.specs.declared.parts.Seen.{Seen}
use Rattle.psac_repair.proofs.Sighted.{on_ok, known_rest, seen_first}
use Rattle.psac_repair.proofs.present.+seen_now.Goals as goal

abbrev no_seen : Seen
no_seen = record { from = record { slot = 0; generation = 0 }; link = record { index = 0 }; value = Nil }

pub seen_now-requires : goal.seen_now-requires
seen_now-requires t c =
    let look = c.value_now-value.ensures in
    (search rules, (look.table ∙ c.requires.table, known_rest c.args.pass.now.knows c.value_now-value.new.pass.knows c.args.reads.now look.looked c.in-len1-up.len_at_least c.requires.known))

pub returns-clause-seen : goal.returns-clause-seen
returns-clause-seen t c =
    let reads = c.args.reads.now in
    let first = get_or reads 0 no_seen in
    let now : Seen = record { from = first.from; link = first.link; value = c.value_now-value.result } in
    let look = c.value_now-value.ensures in
    on_ok c.seen_now.result
    (λ h. (
      now ∷ h.0,
      h.1 ∙ ap (λ z. z ++ h.0) c.in_ok-push.ensures.ok ∙ append_assoc c.args.all.now (now ∷ []) h.0,
      seen_first c.args.pass.now.knows c.value_now-value.new.pass.knows reads no_seen c.value_now-value.result h.0 look.looked c.in-len1-up.len_at_least look.value h.2,
    ))
    c.seen_now.ensures.seen
