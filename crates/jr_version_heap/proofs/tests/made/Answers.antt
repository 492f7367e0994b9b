-- The heap has no object at first.
use Rattle.std.proofs.Common.{◌∙◌, ap, arith, ℕ, List}
use Rattle.jr_heap.specs.declared.layout.Place.{Place}
use Rattle.jr_heap.specs.Layout.{find_object}
use Rattle.jr_version_heap.specs.Histories.{VersionsOf}
use Rattle.jr_version_heap.proofs.tests.made.Goals as goal

pub make-requires-clause-absent : goal.make-requires-clause-absent
make-requires-clause-absent c =
    ap (λ (m : VersionsOf). find_object m.layout.objects 5) c.reserve_pins.ensures.same
    ∙ (ap (λ (o : List (ℕ × Place)). find_object o 5) c.reserve.ensures.layout_objects
    ∙ c.in_ok-heap.ensures.layout.others (record { 0 = 5 }) (omega arith))
