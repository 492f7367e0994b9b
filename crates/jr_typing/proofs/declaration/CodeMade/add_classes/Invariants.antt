use Rattle.std.proofs.Common.{◌≡◌, drop, map}
use Rattle.jr_ast.specs.Units.{view_class}
use Rattle.jr_typing_rules.specs.Answers.{one_by_one}
use Rattle.jr_typing_rules.specs.Declarations.{makes_class}
use Rattle.jr_typing.specs.MadeViews.{view_code}
use Rattle.jr_typing.proofs.declaration.CodeMade.add_classes.Given as goal

abbrev pub invariant-loop-class : goal.invariant-loop-class
invariant-loop-class l =
    one_by_one (makes_class l.names) (view_code l.self) (map view_class (drop l.class-index l.all))
    ≡ one_by_one (makes_class l.names) (view_code l.initial.self) (map view_class l.all)
