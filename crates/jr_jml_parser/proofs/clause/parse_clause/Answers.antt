use Rattle.std.proofs.Common.{sym, subst}
use Rattle.jr_base.specs.declared.number.Span.{Span}
use Rattle.jr_ast.specs.Expressions.{view_spec}
use Rattle.jr_ast.specs.Clauses.{Assert}
use Rattle.jr_jml_parser.specs.Grammar.{SpellsClause}
use Rattle.jr_jml_parser.specs.Nesting.{clause_nesting}
use Rattle.jr_jml_parser.specs.Answers.{Fits}
use Rattle.jr_jml_parser.proofs.Asserts.{method_fits, assert_fits, class_fits}
use Rattle.jr_jml_parser.proofs.clause.parse_clause.Goals as goal

pub returns-in_ok-clause-in-Requires : goal.returns-in_ok-clause-in-Requires
returns-in_ok-clause-in-Requires c = method_fits _ _ _ _ _ c.in_ok-clause-in-Requires.ensures

pub returns-in_ok-condition-in-Assert : goal.returns-in_ok-condition-in-Assert
returns-in_ok-condition-in-Assert c =
    subst (λ (place : Span). Fits (SpellsClause c.args.tokens.now c.args.at) clause_nesting c.args.depth (Assert place (view_spec c.in_ok-condition-in-Assert.condition)) c.in_ok-condition-in-Assert.behind)
    (sym c.span.ensures) (assert_fits _ _ _ _ _ c.in_ok-condition-in-Assert.ensures)

pub returns-in_ok-clause-in_default : goal.returns-in_ok-clause-in_default
returns-in_ok-clause-in_default c = class_fits _ _ _ _ _ c.in_ok-clause-in_default.ensures
