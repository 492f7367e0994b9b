use Rattle.std.proofs.Common.{◌≡◌, [], drop}
use Rattle.jr_typing.specs.MadeViews.{view_method}
use Rattle.jr_spec_typing.specs.Clauses.{and_clauses, setting_of, view_written}
use Rattle.jr_spec_typing.proofs.Asserting.{clauses_from}
use Rattle.jr_spec_typing.proofs.written.Written.add_asserts.Given as goal

abbrev pub invariant-loop-step : goal.invariant-loop-step
invariant-loop-step l =
    and_clauses (view_written l.self) (clauses_from (setting_of l.self.places l.home.names.now.names) l.home.mode (view_method l.home.method.now) l.environment (drop l.step-index l.steps))
    ≡ and_clauses (view_written l.initial.self) (clauses_from (setting_of l.initial.self.places l.home.names.now.names) l.home.mode (view_method l.home.method.now) [] l.steps)
