use Rattle.std.proofs.Common.{◌≡◌, drop, map}
use Rattle.jr_typing.specs.MadeViews.{view_member}
use Rattle.jr_typing_rules.specs.Answers.{gather}
use Rattle.jr_typing_rules.specs.Specifications.{member_clauses}
use Rattle.jr_spec_typing.specs.Clauses.{and_clauses, setting_of, view_written}
use Rattle.jr_spec_typing.proofs.written.Written.add_members.Given as goal

abbrev pub invariant-loop-member : goal.invariant-loop-member
invariant-loop-member l =
    and_clauses (view_written l.self) (gather (member_clauses (setting_of l.self.places l.home.names.now.names) l.home.mode l.home.own) (map view_member (drop l.member-index l.all)))
    ≡ and_clauses (view_written l.initial.self) (gather (member_clauses (setting_of l.initial.self.places l.home.names.now.names) l.home.mode l.home.own) (map view_member l.all))
