use Rattle.std.proofs.Common.{map}
use Rattle.jr_ast.specs.Units.{view_class}
use Rattle.jr_unit_parser.proofs.Ends.{answers_on}
use Rattle.jr_unit_parser.proofs.OfUnits.{imports_fail, classes_fail, unit_found}
use Rattle.jr_unit_parser.proofs.OfBodies.{imports_stand}
use Rattle.jr_unit_parser.proofs.parsing.parse.Goals as goal

pub returns-in_err-first : goal.returns-in_err-first
returns-in_err-first c = answers_on c.args.tokens.now c.from_residual.result c.in_err-first.field-0.0 c.from_residual.ensures.1 (imports_fail c.args.tokens.now _ c.in_err-first.ensures)

pub returns-in_err-classes : goal.returns-in_err-classes
returns-in_err-classes c = answers_on c.args.tokens.now c.from_residual-in_err-classes.result c.in_err-classes.field-0.0 c.from_residual-in_err-classes.ensures.1 (classes_fail c.args.tokens.now c.in_ok-first.first c.in_ok-first.ensures _ c.in_err-classes.ensures)

pub returns : goal.returns
returns c = unit_found c.args.tokens.now c.in_ok-first.first _ (map view_class c.in_ok-classes.classes) c.in_ok-first.ensures c.in_ok-classes.ensures

pub classes-requires : goal.classes-requires
classes-requires c = imports_stand c.args.tokens.now c.in_ok-first.first c.in_ok-first.ensures
