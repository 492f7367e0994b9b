use Rattle.std.proofs.Common.{◌-◌, map, length}
use Rattle.jr_ast.specs.Units.{view_class}
use Rattle.jr_unit_parser.specs.Grammar.{ClassAt}
use Rattle.jr_unit_parser.specs.Nesting.{ShallowClass}
use Rattle.jr_unit_parser.specs.Steps as steps
use Rattle.jr_unit_parser.proofs.Rows.{SoFar}
use Rattle.jr_unit_parser.proofs.reader.UnitReader.classes.Given as goal

abbrev pub invariant-loop-at : goal.invariant-loop-at
invariant-loop-at l = SoFar (ClassAt l.self.tokens.now) ShallowClass (steps.class_begins l.self.tokens.now) l.fn.first (map view_class l.found) l.at

abbrev pub decreases-loop-at : goal.decreases-loop-at
decreases-loop-at l = length l.self.tokens.now - l.at
