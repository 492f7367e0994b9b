use Rattle.std.proofs.Common.{sym, subst}
use Rattle.jr_base.specs.declared.number.Span.{Span}
use Rattle.jr_ast.specs.Clauses.{class_form}
use Rattle.jr_jml_parser.specs.Grammar.{SpellsClass}
use Rattle.jr_jml_parser.specs.Nesting.{class_nesting}
use Rattle.jr_jml_parser.specs.Answers.{Fits}
use Rattle.jr_jml_parser.proofs.Classes.{class_fits}
use Rattle.jr_jml_parser.proofs.clause.parse_class_clause.Goals as goal

pub returns : goal.returns
returns c =
    subst (λ (place : Span). Fits (SpellsClass c.args.tokens.now c.args.at) class_nesting c.args.depth (class_form place c.in_ok-form.form) c.in_ok-form.behind)
    (sym c.span-place.ensures) (class_fits _ _ _ _ _ _ _ c.modifiers-is_static.ensures c.in_ok-form.ensures)
