use Rattle.std.proofs.Common.{map, sym, arith}
use Rattle.std.specs.Prelude.{All}
use Rattle.jr_ast.specs.Clauses.{view_method_clause}
use Rattle.jr_jml_parser.specs.Grammar.{SpellsMethod}
use Rattle.jr_jml_parser.specs.Nesting.{method_nesting}
use Rattle.jr_unit_parser.specs.Finds.{AllOf}
use Rattle.jr_unit_parser.specs.Nesting.{ShallowClause}
use Rattle.jr_unit_parser.specs.Steps.{clause_begins}
use Rattle.jr_unit_parser.proofs.Ends.{hands_on}
use Rattle.jr_unit_parser.proofs.Rows.{all_fail, all_found, pushed}
use Rattle.jr_unit_parser.proofs.OfMembers.{clause_fails, clause_rows}
use Rattle.jr_unit_parser.proofs.Below.{method_clause_on}
use Rattle.jr_unit_parser.proofs.reader.UnitReader.clauses.Goals as goal

pub returns-in_err-clause : goal.returns-in_err-clause
returns-in_err-clause c =
    let ts = c.args.self.now.tokens.now in
    hands_on ts (map view_method_clause) (AllOf (SpellsMethod ts) (clause_begins ts)) (All ShallowClause) c.args.first c.from_residual.result c.in_err-clause.field-0.0 c.from_residual.ensures.1
    (all_fail ts (SpellsMethod ts) ShallowClause (clause_begins ts) c.args.first c.loop-found.at _ _ c.loop-found.invariant (sym c.loop-found-test.ensures) (clause_fails ts view_method_clause (SpellsMethod ts) method_nesting _ _ c.in_err-clause.ensures))

pub loop-found-smaller : goal.loop-found-smaller
loop-found-smaller c = omega (arith, method_clause_on c.args.self.now.tokens.now c.loop-found.at c.in_ok-clause.behind _ c.in_ok-clause.ensures.stands)

pub loop-found-preserved : goal.loop-found-preserved
loop-found-preserved c =
    let ts = c.args.self.now.tokens.now in
    pushed ts view_method_clause (SpellsMethod ts) ShallowClause (clause_begins ts) (clause_rows ts) c.args.first c.loop-found.at c.in_ok-clause.behind c.loop-found.found c.push.new.self c.in_ok-clause.clause c.loop-found.invariant
    (record { stands = c.in_ok-clause.ensures.stands; shallow = omega (arith, c.in_ok-clause.ensures.shallow) }) c.in_ok-push.ensures.ok

pub returns : goal.returns
returns c =
    let ts = c.args.self.now.tokens.now in
    all_found ts (SpellsMethod ts) ShallowClause (clause_begins ts) _ _ _ c.loop-found.invariant (sym c.loop-found-test.ensures)
