use Rattle.std.proofs.Common.{◌≡◌, take}
use Rattle.jr_program.proofs.expr.+copy_expr.Given as goal

abbrev pub invariant-copy_exprs-loop-expr : goal.invariant-copy_exprs-loop-expr
invariant-copy_exprs-loop-expr l = l.copies ≡ take l.expr-index l.all

abbrev pub invariant-copy_suffixes-loop-suffix : goal.invariant-copy_suffixes-loop-suffix
invariant-copy_suffixes-loop-suffix l = l.copies ≡ take l.suffix-index l.all
