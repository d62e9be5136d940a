use Rattle.std.proofs.Common.{length}
use Rattle.psac_cert.proofs.dictionary.Dictionary.+push_env.Given as goal

abbrev pub decreases-push_env : goal.decreases-push_env
decreases-push_env l = length l.env.now
