-- A list of texts only grows.
use Rattle.std.proofs.Common.{◌≡◌, ℕ, Bool, true, false, List, [], ◌∷◌, ◌++◌, ◌∙◌, sym, ap, append_assoc, Option, Some, None}
use Rattle.std.specs.Prelude.{Result, Ok, Err, if◌then◌else◌, length, ℤ}
use Rattle.std.specs.List.{position_from}
use Rattle.std.specs.Str.{bytes_eq, is_utf8}
use Rattle.std.proofs.lemmas.List.{append-nil}
use Rattle.psac_base.specs.Number.{int_of}
use Rattle.psac_ops.specs.declared.plain.Plain.{Plain}
use Rattle.psac_ops.specs.declared.plain.Plain.TheVariants as plain
use Rattle.psac_ops.specs.declared.plain.TextId.{TextId}
use Rattle.psac_ops.specs.Table.{◌>>=◌}
use Rattle.psac_inputs.specs.declared.fault.TextFault.{TextFault}
use Rattle.psac_inputs.specs.declared.fault.TextFault.TheVariants.{Utf8, Limit}
use Rattle.psac_inputs.specs.Texts.{Texts, added, field, field_by, has_room, placed, text_id}
use Rattle.psac_inputs.specs.Load.{Begins}

pub begins_same : (ts us : Texts) → us ≡ ts → Begins ts us
begins_same ts us is = ([], is ∙ sym (append-nil ts))

pub begins_then : (a b c : Texts) → Begins a b → Begins b c → Begins a c
begins_then a b c first second = (first.0 ++ second.0, second.1 ∙ ap (λ ts. ts ++ second.0) first.1 ∙ append_assoc a first.0 second.0)

pub ok_second : {A B E : Type 0} (p q : A × B) → ◌≡◌ {A = Result (A × B) E} (Ok p) (Ok q) → p.1 ≡ q.1
ok_second {A} {B} p q is = let same : p ≡ q = cc is in ap (λ (r : A × B). r.1) same

abbrev if_room : Bool → List ℕ → Texts → Result (TextId × Texts) TextFault
if_room room b ts = if room then Ok (text_id (length ts) b, ts ++ b ∷ []) else Err Limit

abbrev as_text : TextId × Texts → Result (Plain × Texts) TextFault
as_text told = Ok (plain.Text told.0, told.1)

placed_begins : (b : List ℕ) (ts : Texts) (o : Option ℕ) (id : TextId) (us : Texts) → placed b ts o ≡ Ok (id, us) → Begins ts us
placed_begins b ts (Some k) id us is = begins_same ts us (sym (ok_second (text_id k b, ts) (id, us) is))
placed_begins b ts None id us is = by (has_room b ts) is
  where
    by : (r : Bool) → if_room r b ts ≡ Ok (id, us) → Begins ts us
    by true is = (b ∷ [], sym (ok_second (text_id (length ts) b, ts ++ b ∷ []) (id, us) is))
    by false is = absurd (cc is)

pub added_begins : (b : List ℕ) (ts : Texts) (id : TextId) (us : Texts) → added b ts ≡ Ok (id, us) → Begins ts us
added_begins b ts id us is = by (is_utf8 b) is
  where
    by : (t : Bool) → (if t then placed b ts (position_from (bytes_eq b) 0 ts) else Err Utf8) ≡ Ok (id, us) → Begins ts us
    by true is = placed_begins b ts (position_from (bytes_eq b) 0 ts) id us is
    by false is = absurd (cc is)

pub field_begins : (b : List ℕ) (ts : Texts) (v : Plain) (us : Texts) → field b ts ≡ Ok (v, us) → Begins ts us
field_begins b ts v us is = by (int_of b) is
  where
    from : (r : Result (TextId × Texts) TextFault) → ((id : TextId) (us : Texts) → r ≡ Ok (id, us) → Begins ts us)
        → (r >>= as_text) ≡ Ok (v, us) → Begins ts us
    from (Ok told) grows is = let same : told.1 ≡ us = ok_second (plain.Text told.0, told.1) (v, us) is in grows told.0 us (ap (λ x. Ok (told.0, x)) same)
    from (Err e) grows is = absurd (cc is)

    by : (o : Option ℤ) → field_by o b ts ≡ Ok (v, us) → Begins ts us
    by (Some i) is = begins_same ts us (sym (ok_second (plain.Int i, ts) (v, us) is))
    by None is = from (added b ts) (λ id us. added_begins b ts id us) is
