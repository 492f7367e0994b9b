-- What follows a primary, as the walk over it sees it: nothing there keeps the program from being run.
use Rattle.std.specs.Prelude.{Bool, true}
use Rattle.jr_program.specs.ExprViews.{Suffix, Field, Invocation, Element, Length}
use Rattle.jr_program.specs.ClauseViews.{Suffix as ClauseSuffix}
use Rattle.jr_program.specs.ClauseViews as clause
use Rattle.jr_built.specs.Built.{expr_is_built, exprs_are_built, looks_at_the_moment}

abbrev pub suffix_is_built : Suffix → Bool
suffix_is_built (Field f) = true
suffix_is_built (Invocation m es) = exprs_are_built es
suffix_is_built (Element element i) = expr_is_built i
suffix_is_built Length = true

-- in a clause
abbrev pub suffix_looks_at_the_moment : ClauseSuffix → Bool
suffix_looks_at_the_moment (clause.Field f slot) = true
suffix_looks_at_the_moment (clause.Element i) = looks_at_the_moment i
suffix_looks_at_the_moment clause.Length = true
