-- What is answered to a halt.
use Rattle.psac_trace.specs.declared.halt.Halt.{Halt}
use Rattle.psac_trace.specs.declared.halt.Halt.TheVariants as halt
use Rattle.psac_engine.specs.declared.answer.Answer.{Answer}
use Rattle.psac_engine.specs.declared.answer.Answer.TheVariants as answer

abbrev pub answer_to : Halt → Answer
answer_to (halt.Fault kind line) = answer.Fault kind line
answer_to (halt.Full which at) = answer.Full which
answer_to halt.NoMemory = answer.NoMemory
