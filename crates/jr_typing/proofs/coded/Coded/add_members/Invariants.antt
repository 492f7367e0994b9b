use Rattle.std.proofs.Common.{◌≡◌, drop, map}
use Rattle.jr_ast.specs.Units.{view_class, view_member}
use Rattle.jr_typing_rules.specs.Answers.{one_by_one}
use Rattle.jr_typing_rules.specs.Declarations.{makes_member}
use Rattle.jr_typing.specs.MadeViews.{view_coded}
use Rattle.jr_typing.proofs.coded.Coded.add_members.Given as goal

abbrev pub invariant-loop-member : goal.invariant-loop-member
invariant-loop-member l =
    one_by_one (makes_member l.home.names.now (view_class l.home.class.now) l.home.own) (view_coded l.self) (map view_member (drop l.member-index l.all))
    ≡ one_by_one (makes_member l.home.names.now (view_class l.home.class.now) l.home.own) (view_coded l.initial.self) (map view_member l.all)
