-- How a list of texts is kept: in a set, beside their length together.
use Rattle.std.specs.Prelude.{◌≡◌, ◌≤◌, length, map, sum_by}
use Rattle.psac_inputs.specs.Texts.{Texts, most_text_bytes, most_texts}
use Rattle.psac_inputs.specs.declared.interner.Interner.TheInside.{Inside}

abbrev pub shown : Inside → Texts
shown i = map (λ text. text.items) i.texts.keys

pub record IsTextList (i : Inside) : Type 0 where
  pub count : length (shown i) ≤ most_texts
  pub size : i.size ≡ sum_by length (shown i)
  pub short : i.size ≤ most_text_bytes
