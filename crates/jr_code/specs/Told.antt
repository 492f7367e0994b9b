-- What is told of code that isn't taken.
use Rattle.jr_base.specs.declared.number.MethodId.{MethodId}
use Rattle.jr_code.specs.declared.code.Code.{Code}
use Rattle.jr_code.specs.declared.checking.CheckFail.{CheckFail}
use Rattle.jr_code.specs.declared.checking.CheckFail.TheVariants.{Bad, Memory}
use Rattle.jr_code.specs.declared.shapes.Stop.{Stop}
use Rattle.jr_code.specs.declared.shapes.Stop.TheVariants as stops
use Rattle.jr_code.specs.WellFormed.{BadAt}

abbrev pub Told : Code → CheckFail → Type 0
Told code (Bad method at) = BadAt code method at
Told code Memory = Unit {0}

abbrev pub fail_of : MethodId → Stop → CheckFail
fail_of method (stops.Broken at) = Bad method at
fail_of method stops.Memory = Memory
