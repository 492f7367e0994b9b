use Rattle.std.proofs.Common.{◌≡◌, drop, map}
use Rattle.jr_program.specs.UnitViews as unit
use Rattle.jr_typing.specs.MadeViews.{view_field}
use Rattle.jr_typing_rules.specs.Answers.{one_by_one}
use Rattle.jr_safepoints.specs.Assembled.{and_field, view_assembly}
use Rattle.jr_safepoints.specs.Due.{clauses_in}
use Rattle.jr_safepoints.specs.Slotted.{CountsAll}
use Rattle.jr_safepoints.proofs.assembly.Assembly.add_fields.Given as goal

abbrev pub invariant-loop-field : goal.invariant-loop-field
invariant-loop-field l =
    (one_by_one (and_field (clauses_in l.owned)) (view_assembly l.self) (map view_field (drop l.field-index l.all)) ≡ one_by_one (and_field (clauses_in l.owned)) (view_assembly l.initial.self) (map view_field l.all))
    × CountsAll (map unit.view_field l.self.fields) l.self.slots
