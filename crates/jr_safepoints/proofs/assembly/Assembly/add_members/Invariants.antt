use Rattle.std.proofs.Common.{◌≡◌, map}
use Rattle.std.specs.Vec.Iter.{into_iter_items}
use Rattle.jr_program.specs.UnitViews as unit
use Rattle.jr_typing.specs.MadeViews.{view_member}
use Rattle.jr_typing_rules.specs.Answers.{one_by_one}
use Rattle.jr_safepoints.specs.Assembled.{and_member, view_assembly}
use Rattle.jr_safepoints.specs.Due.{clauses_in}
use Rattle.jr_safepoints.specs.Slotted.{CountsAll}
use Rattle.jr_safepoints.proofs.assembly.Assembly.add_members.Given as goal

abbrev pub invariant-loop-member : goal.invariant-loop-member
invariant-loop-member l =
    (one_by_one (and_member (clauses_in l.owned)) (view_assembly l.self) (map view_member (into_iter_items l.member-iterator))
    ≡ one_by_one (and_member (clauses_in l.owned)) (view_assembly l.fn.self) (map view_member l.fn.members.items))
    × CountsAll (map unit.view_field l.self.fields) l.self.slots
