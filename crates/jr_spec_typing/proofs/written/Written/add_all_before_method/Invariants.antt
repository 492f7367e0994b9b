use Rattle.std.proofs.Common.{◌≡◌, drop, map}
use Rattle.jr_ast.specs.Clauses.{view_method_clause}
use Rattle.jr_typing.specs.MadeViews.{view_method}
use Rattle.jr_typing_rules.specs.Answers.{gather}
use Rattle.jr_typing_rules.specs.Specifications.{method_clause}
use Rattle.jr_spec_typing.specs.Clauses.{and_clauses, setting_of, view_written}
use Rattle.jr_spec_typing.proofs.written.Written.add_all_before_method.Given as goal

abbrev pub invariant-loop-clause : goal.invariant-loop-clause
invariant-loop-clause l =
    and_clauses (view_written l.self) (gather (method_clause (setting_of l.self.places l.home.names.now.names) l.home.mode (view_method l.home.method.now)) (map view_method_clause (drop l.clause-index l.all)))
    ≡ and_clauses (view_written l.initial.self) (gather (method_clause (setting_of l.initial.self.places l.home.names.now.names) l.home.mode (view_method l.home.method.now)) (map view_method_clause l.all))
