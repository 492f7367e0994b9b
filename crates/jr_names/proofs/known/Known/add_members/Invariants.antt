use Rattle.std.proofs.Common.{◌≡◌, drop, map}
use Rattle.jr_ast.specs.Units.{view_member}
use Rattle.jr_typing_rules.specs.Answers.{one_by_one}
use Rattle.jr_typing_rules.specs.Resolution.{and_member}
use Rattle.jr_names.specs.Tables.{names_alone}
use Rattle.jr_names.specs.Views.{view_known}
use Rattle.jr_names.proofs.known.Known.add_members.Given as goal

abbrev pub invariant-loop-member : goal.invariant-loop-member
invariant-loop-member l =
    one_by_one (and_member (names_alone l.numbers)) (view_known l.self) (map view_member (drop l.member-index l.all))
    ≡ one_by_one (and_member (names_alone l.numbers)) (view_known l.initial.self) (map view_member l.all)
