use Rattle.std.proofs.Common.{◌≡◌, map}
use Rattle.std.specs.Vec.Iter.{into_iter_items}
use Rattle.jr_program.specs.UnitViews as unit
use Rattle.jr_typing.specs.MadeViews.{view_class}
use Rattle.jr_typing_rules.specs.Answers.{one_by_one}
use Rattle.jr_safepoints.specs.Assembled.{and_class, view_assembly}
use Rattle.jr_safepoints.specs.Due.{clauses_in}
use Rattle.jr_safepoints.specs.Slotted.{CountsAll}
use Rattle.jr_safepoints.proofs.assembly.Assembly.add_classes.Given as goal

abbrev pub invariant-loop-class : goal.invariant-loop-class
invariant-loop-class l =
    (one_by_one (and_class l.names.names (clauses_in l.owned)) (view_assembly l.self) (map view_class (into_iter_items l.class-iterator))
    ≡ one_by_one (and_class l.names.names (clauses_in l.owned)) (view_assembly l.fn.self) (map view_class l.fn.classes.items))
    × CountsAll (map unit.view_field l.self.fields) l.self.slots
