use Rattle.std.proofs.Common.{map, take}
use Rattle.jr_program.specs.ClauseViews.{view_clause}
use Rattle.jr_safepoints.specs.Sorted.{AreSorted}
use Rattle.jr_safepoints.proofs.sorted.sorted.Given as goal

abbrev pub invariant-loop-place : goal.invariant-loop-place
invariant-loop-place l = AreSorted l.wanted (map view_clause (take l.place l.clauses)) l.lists.items
