use Rattle.std.proofs.Common.{◌≡◌, map, drop}
use Rattle.std.specs.List.{list_all}
use Rattle.jr_program.specs.ExprViews.{exprs, view_expr, view_suffix}
use Rattle.jr_built.specs.Built.{exprs_are_built}
use Rattle.jr_built.specs.Chains.{suffix_is_built}
use Rattle.jr_built.proofs.expr.+built.Given as goal

abbrev pub invariant-are_exprs_built-loop-expr : goal.invariant-are_exprs_built-loop-expr
invariant-are_exprs_built-loop-expr l = exprs_are_built (exprs (map view_expr l.all)) ≡ exprs_are_built (exprs (map view_expr (drop l.expr-index l.all)))

abbrev pub invariant-are_suffixes_built-loop-suffix : goal.invariant-are_suffixes_built-loop-suffix
invariant-are_suffixes_built-loop-suffix l = list_all suffix_is_built (map view_suffix l.all) ≡ list_all suffix_is_built (map view_suffix (drop l.suffix-index l.all))
