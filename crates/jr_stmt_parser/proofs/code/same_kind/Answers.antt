use Rattle.std.proofs.Common.{◌∙◌, sym, rules}
use denote.Enum.Bare.{same_true, true_same}
use Rattle.jr_lexer.specs.contracts.kind.Kind.{the_type}
use Rattle.jr_stmt_parser.proofs.code.same_kind.Goals as goal

pub returns : goal.returns
returns c = (λ t. same_true the_type (search rules) _ _ (sym c.eq.ensures ∙ t), λ e. c.eq.ensures ∙ true_same the_type _ _ e)
