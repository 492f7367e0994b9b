-- The first object has another number.
use Rattle.std.proofs.Common.{◌∙◌, ap, arith, ℕ, List}
use Rattle.jr_heap.specs.declared.layout.Place.{Place}
use Rattle.jr_heap.specs.Layout.{find_object}
use Rattle.jr_heap.proofs.tests.shows_newest_values.Goals as goal

pub add-requires-2 : goal.add-requires-2
add-requires-2 g c =
    c.in_ok-add.ensures.made.others (record { 0 = 6 }) (λ e. (omega arith))
    ∙ ap (λ (o : List (ℕ × Place)). find_object o 6) c.new-heap.ensures.objects
