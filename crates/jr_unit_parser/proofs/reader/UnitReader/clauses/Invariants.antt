use Rattle.std.proofs.Common.{◌-◌, map, length}
use Rattle.jr_ast.specs.Clauses.{view_method_clause}
use Rattle.jr_jml_parser.specs.Grammar.{SpellsMethod}
use Rattle.jr_unit_parser.specs.Nesting.{ShallowClause}
use Rattle.jr_unit_parser.specs.Steps as steps
use Rattle.jr_unit_parser.proofs.Rows.{SoFar}
use Rattle.jr_unit_parser.proofs.reader.UnitReader.clauses.Given as goal

abbrev pub invariant-loop-found : goal.invariant-loop-found
invariant-loop-found l = SoFar (SpellsMethod l.self.tokens.now) ShallowClause (steps.clause_begins l.self.tokens.now) l.fn.first (map view_method_clause l.found) l.at

abbrev pub decreases-loop-found : goal.decreases-loop-found
decreases-loop-found l = length l.self.tokens.now - l.at
