use Rattle.std.proofs.Common.{◌≡◌, ◌+◌, map, drop}
use Rattle.jr_program.specs.UnitViews.{program_of}
use Rattle.jr_program.specs.ExprViews.{exprs, view_expr, view_suffix}
use Rattle.jr_lowering.specs.ExprCode.{exprs_size}
use Rattle.jr_lowering.specs.SuffixCode.{suffixes_size}
use Rattle.jr_lowering.proofs.size.+size.Given as goal

abbrev pub invariant-size_of_exprs-loop-expr : goal.invariant-size_of_exprs-loop-expr
invariant-size_of_exprs-loop-expr l = l.total + exprs_size (program_of l.unit) (exprs (map view_expr (drop l.expr-index l.all))) ≡ exprs_size (program_of l.unit) (exprs (map view_expr l.all))

abbrev pub invariant-size_of_suffixes-loop-suffix : goal.invariant-size_of_suffixes-loop-suffix
invariant-size_of_suffixes-loop-suffix l = l.total + suffixes_size (program_of l.unit) (map view_suffix (drop l.suffix-index l.all)) ≡ suffixes_size (program_of l.unit) (map view_suffix l.all)
