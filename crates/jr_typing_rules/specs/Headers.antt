-- What holds of a method of a program, but for its body.
use Rattle.std.specs.Prelude.{◌≢◌, ◌≤◌, Some, length}
use Rattle.jr_base.specs.declared.number.MethodId.{MethodId}
use Rattle.jr_base.specs.declared.kind.SlotKind.TheVariants.{Caught}
use Rattle.jr_program.specs.ClauseKinds.{IsClass}
use Rattle.jr_program.specs.Programs.{Program, Method}
use Rattle.jr_program.specs.WellFormed.{NoneCaught, ConstructsFits, most_formals}

-- each part of a well-formed method that its declaration decides
pub record HeaderFits (program : Program) (m : MethodId) (method : Method) : Type 0 where
  pub class : IsClass program method.class
  pub formals : NoneCaught method.formals
  pub few_formals : length method.formals ≤ most_formals
  pub result : method.result ≢ Some Caught
  pub constructs : ConstructsFits program m method method.is_constructor
