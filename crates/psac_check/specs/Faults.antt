-- The checker's faults as those of the series rule.
use Rattle.std.specs.Prelude.{◌≡◌, List, Option, Some, None, Result, Ok, Err, IfSome}
use Rattle.psac_model.specs.Series as rule
use Rattle.psac_check.specs.declared.fault.Breach.{Breach}
use Rattle.psac_check.specs.declared.fault.Breach.TheVariants as b
use Rattle.psac_check.specs.declared.fault.CheckFault.{CheckFault}
use Rattle.psac_check.specs.declared.fault.CheckFault.TheVariants as f

abbrev pub breach_of : Breach → rule.Breach
breach_of b.UnknownName = rule.UnknownName
breach_of b.Rebound = rule.Rebound
breach_of b.ReadBeforeWrite = rule.ReadBeforeWrite
breach_of b.WrittenTwice = rule.WrittenTwice
breach_of b.NotWritten = rule.NotWritten
breach_of b.BranchesDiffer = rule.BranchesDiffer
breach_of b.WrittenInBothSides = rule.WrittenInBothSides
breach_of b.UnknownFunction = rule.UnknownFunction
breach_of b.Arity = rule.Arity
breach_of b.NoMain = rule.NoMain
breach_of b.WrongSort = rule.WrongSort

-- the fault of the rule, and none for want of memory
abbrev pub fault_of : CheckFault → Option rule.Fault
fault_of (f.UnknownName line) = Some (rule.UnknownName, line)
fault_of (f.Rebound line) = Some (rule.Rebound, line)
fault_of (f.ReadBeforeWrite line) = Some (rule.ReadBeforeWrite, line)
fault_of (f.WrittenTwice line) = Some (rule.WrittenTwice, line)
fault_of (f.NotWritten line) = Some (rule.NotWritten, line)
fault_of (f.BranchesDiffer line) = Some (rule.BranchesDiffer, line)
fault_of (f.WrittenInBothSides line) = Some (rule.WrittenInBothSides, line)
fault_of (f.UnknownFunction line) = Some (rule.UnknownFunction, line)
fault_of (f.Arity line) = Some (rule.Arity, line)
fault_of (f.NoMain line) = Some (rule.NoMain, line)
fault_of (f.WrongSort line) = Some (rule.WrongSort, line)
fault_of f.NoMemory = None

-- what a test found wrong
abbrev pub told : Result (Unit {0}) Breach → Option rule.Breach
told (Ok done) = None
told (Err b) = Some (breach_of b)
