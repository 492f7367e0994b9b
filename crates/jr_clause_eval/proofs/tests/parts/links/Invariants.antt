use Rattle.std.proofs.Common.{map}
use Rattle.jr_program.specs.ClauseViews.{view_suffix}
use Rattle.jr_clause_eval.specs.Suffixes.{SuffixesHaveClassObjects}
use Rattle.jr_clause_eval.proofs.tests.parts.links.Given as goal

abbrev pub invariant-loop : goal.invariant-loop
invariant-loop l = SuffixesHaveClassObjects (map view_suffix l.suffixes)
