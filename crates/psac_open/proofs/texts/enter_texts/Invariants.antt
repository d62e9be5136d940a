use Rattle.std.proofs.Common.{◌≡◌, Ok, length, take}
use Rattle.psac_inputs.specs.Texts.{all_added}
use Rattle.psac_open.proofs.texts.enter_texts.Given as goal

pub record invariant-each (l : goal.Live-each) : Type 0 where
  pub added : all_added (take l.text-index l.consts) l.fn.texts ≡ Ok (l.ids.items, l.texts)
  pub each : length l.ids.items ≡ l.text-index
