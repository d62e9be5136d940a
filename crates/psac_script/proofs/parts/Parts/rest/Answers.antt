use Rattle.std.specs.Option.{option_copied}
use Rattle.psac_script.proofs.LineParts.{joined_left}
use Rattle.psac_script.proofs.parts.Parts.rest.Goals as goal

pub returns : goal.returns
returns c = let left = joined_left (option_copied c.self.inside.left) in cc
