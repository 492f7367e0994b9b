-- The objects are counted, and so many of them are made.
use Rattle.std.proofs.Common.{◌≡◌}
use Rattle.jr_version_heap.proofs.Firsts.{IsBegun}
use Rattle.jr_version_heap.proofs.heap.VersionHeap.new.Given as goal

abbrev pub invariant-loop-values : goal.invariant-loop-values
invariant-loop-values l = (l.number ≡ l.values-index) × IsBegun l.heap l.first l.values-index
