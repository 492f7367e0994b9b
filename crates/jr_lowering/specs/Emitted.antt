-- What the functions that emit code are given, in the words of the definitions.
use Rattle.jr_program.specs.Programs.{Program}
use Rattle.jr_lowering.specs.declared.access.Locals.{Locals}
use Rattle.jr_lowering.specs.declared.access.Access.{Access as AccessTree}
use Rattle.jr_lowering.specs.declared.access.Access.TheVariants as accesses
use Rattle.jr_lowering.specs.ExprCode.{Setting, Access, OfLocal, OfStatic, OfField, OfElement}

abbrev pub setting_with : Program → Locals → Setting
setting_with program locals = record { program = program; is_static = locals.is_static; variables = locals.variables }

abbrev pub access_is : AccessTree → Access
access_is (accesses.OfLocal number) = OfLocal number
access_is (accesses.OfStatic at kind) = OfStatic at kind
access_is (accesses.OfField slot kind) = OfField slot kind
access_is (accesses.OfElement element) = OfElement element
