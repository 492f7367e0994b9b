use Rattle.std.proofs.Common.{◌≡◌, []}
use Rattle.jr_typing_rules.specs.Resolution.{distinct_formals}
use Rattle.jr_names.specs.Tables.{names_alone}
use Rattle.jr_names.proofs.Formals.{formals_from}
use Rattle.jr_names.proofs.heading.distinct_formals.Given as goal

abbrev pub invariant-loop-formal : goal.invariant-loop-formal
invariant-loop-formal l = formals_from (names_alone l.numbers) l.formals l.formal-index l.before l.types ≡ distinct_formals [] l.formals (names_alone l.numbers)
