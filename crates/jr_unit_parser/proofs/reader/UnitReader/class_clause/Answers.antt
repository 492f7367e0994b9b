use Rattle.std.proofs.Common.{arith}
use Rattle.jr_ast.specs.Clauses.{view_class_clause}
use Rattle.jr_ast.specs.Units.{view_member}
use Rattle.jr_jml_parser.specs.Grammar.{SpellsClass}
use Rattle.jr_jml_parser.specs.Nesting.{class_nesting}
use Rattle.jr_unit_parser.specs.Grammar.{MemberAt}
use Rattle.jr_unit_parser.specs.Grammar as g
use Rattle.jr_unit_parser.specs.Nesting.{ShallowMember}
use Rattle.jr_unit_parser.proofs.Ends.{hands_on}
use Rattle.jr_unit_parser.proofs.OfMembers.{clause_fails}
use Rattle.jr_unit_parser.proofs.OfUnits.{class_clause_fails}
use Rattle.jr_unit_parser.proofs.reader.UnitReader.class_clause.Goals as goal

pub returns-in_err-clause : goal.returns-in_err-clause
returns-in_err-clause c =
    let ts = c.args.self.now.tokens.now in
    hands_on ts view_member (MemberAt ts) ShallowMember c.args.at c.from_residual.result c.in_err-clause.field-0.0 c.from_residual.ensures.1
    (class_clause_fails ts c.args.at c.requires _ (clause_fails ts view_class_clause (SpellsClass ts) class_nesting _ _ c.in_err-clause.ensures))

pub returns : goal.returns
returns c = record { stands = g.clause c.in_ok-clause.ensures.stands; shallow = omega (arith, c.in_ok-clause.ensures.shallow) }
