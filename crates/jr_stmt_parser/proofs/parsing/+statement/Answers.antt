use Rattle.std.proofs.Common.{◌∙◌, ap, arith}
use Rattle.jr_ast.specs.Statements.{view_form}
use Rattle.jr_stmt_parser.proofs.Gives.{exits_in}
use Rattle.jr_stmt_parser.proofs.EachForm.{statement_found, statement_fails}
use Rattle.jr_stmt_parser.proofs.parsing.+statement.Goals as goal

pub returns-in_err-form : goal.returns-in_err-form
returns-in_err-form t c = exits_in _ _ c.from_residual.ensures.1 (λ o w. statement_fails _ _ _ _ (omega arith) (c.in_err-form.ensures o w))

pub returns : goal.returns
returns t c = statement_found _ _ _ _ (omega arith) c.requires.depth (c.in_ok-statement.ensures ∙ ap (view_form c.in_ok-form.form) c.span.ensures) c.in_ok-form.ensures
