use Rattle.std.proofs.Common.{◌≡◌, map, drop}
use Rattle.std.specs.List.{list_all}
use Rattle.jr_program.specs.ClauseViews.{view_suffix}
use Rattle.jr_built.specs.Chains.{suffix_looks_at_the_moment}
use Rattle.jr_built.proofs.clause.+built.Given as goal

abbrev pub invariant-are_suffixes_built-loop-suffix : goal.invariant-are_suffixes_built-loop-suffix
invariant-are_suffixes_built-loop-suffix l =
    list_all suffix_looks_at_the_moment (map view_suffix l.all) ≡ list_all suffix_looks_at_the_moment (map view_suffix (drop l.suffix-index l.all))
