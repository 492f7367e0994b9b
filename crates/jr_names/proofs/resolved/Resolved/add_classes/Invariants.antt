use Rattle.std.proofs.Common.{◌≡◌, drop, map}
use Rattle.jr_ast.specs.Units.{view_class}
use Rattle.jr_typing_rules.specs.Answers.{one_by_one}
use Rattle.jr_typing_rules.specs.Resolution.{and_class}
use Rattle.jr_names.specs.Views.{view_resolved}
use Rattle.jr_names.proofs.resolved.Resolved.add_classes.Given as goal

abbrev pub invariant-loop-class : goal.invariant-loop-class
invariant-loop-class l =
    one_by_one (and_class l.numbers) (view_resolved l.self) (map view_class (drop l.class-index l.all))
    ≡ one_by_one (and_class l.numbers) (view_resolved l.initial.self) (map view_class l.all)
