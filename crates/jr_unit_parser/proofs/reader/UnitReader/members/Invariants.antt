use Rattle.std.proofs.Common.{◌-◌, map, length}
use Rattle.jr_ast.specs.Units.{view_member}
use Rattle.jr_unit_parser.specs.Grammar.{MemberAt}
use Rattle.jr_unit_parser.specs.Nesting.{ShallowMember}
use Rattle.jr_unit_parser.specs.Steps as steps
use Rattle.jr_unit_parser.proofs.Rows.{SoFar}
use Rattle.jr_unit_parser.proofs.reader.UnitReader.members.Given as goal

abbrev pub invariant-loop-found : goal.invariant-loop-found
invariant-loop-found l = SoFar (MemberAt l.self.tokens.now) ShallowMember (steps.member_begins l.self.tokens.now) l.fn.first (map view_member l.found) l.at

abbrev pub decreases-loop-found : goal.decreases-loop-found
decreases-loop-found l = length l.self.tokens.now - l.at
