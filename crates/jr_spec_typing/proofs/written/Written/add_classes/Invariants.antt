use Rattle.std.proofs.Common.{◌≡◌, drop, map}
use Rattle.jr_typing.specs.MadeViews.{view_class}
use Rattle.jr_typing_rules.specs.Answers.{gather}
use Rattle.jr_typing_rules.specs.Specifications.{class_clauses}
use Rattle.jr_spec_typing.specs.Clauses.{and_clauses, setting_of, view_written}
use Rattle.jr_spec_typing.proofs.written.Written.add_classes.Given as goal

abbrev pub invariant-loop-class : goal.invariant-loop-class
invariant-loop-class l =
    and_clauses (view_written l.self) (gather (class_clauses (setting_of l.self.places l.names.names)) (map view_class (drop l.class-index l.all)))
    ≡ and_clauses (view_written l.initial.self) (gather (class_clauses (setting_of l.initial.self.places l.names.names)) (map view_class l.all))
