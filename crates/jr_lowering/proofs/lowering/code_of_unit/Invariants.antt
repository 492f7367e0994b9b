use Rattle.std.proofs.Common.{map, take}
use Rattle.jr_program.specs.UnitViews.{program_of}
use Rattle.jr_code.specs.Views.{tables_of}
use Rattle.jr_lowering.specs.ProgramCode.{method_code}
use Rattle.jr_lowering.specs.Encoded.{AreMethods}
use Rattle.jr_lowering.proofs.lowering.code_of_unit.Given as goal

abbrev pub invariant-loop-number : goal.invariant-loop-number
invariant-loop-number l = AreMethods (tables_of l.code) l.code.methods.items (map (method_code (program_of l.unit)) (take l.number (program_of l.unit).methods))
