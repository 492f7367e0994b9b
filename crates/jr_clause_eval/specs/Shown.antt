-- What the two heaps show on which a clause is judged.
use Rattle.jr_meaning.specs.Heap.{Heap}

-- the heap of the moment, and the old one
pub record Shown : Type 0 where
  pub now : Heap
  pub old : Heap
