use Rattle.std.proofs.Common.{◌≡◌, drop, map}
use Rattle.jr_typing.specs.MadeViews.{view_method}
use Rattle.jr_typing_rules.specs.Modifiers.{is_atomic_kind, places_of}
use Rattle.jr_typing_rules.specs.Specifications.{atomic}
use Rattle.jr_spec_typing.specs.Clauses.{with_clauses, setting_of, view_written}
use Rattle.jr_spec_typing.proofs.written.Written.add_atomics.Given as goal

abbrev pub invariant-loop-modifier : goal.invariant-loop-modifier
invariant-loop-modifier l =
    with_clauses (view_written l.self) (map (atomic (setting_of l.self.places l.home.names.now.names) l.home.mode (view_method l.home.method.now)) (places_of is_atomic_kind (drop l.modifier-index l.modifiers)))
    ≡ with_clauses (view_written l.initial.self) (map (atomic (setting_of l.initial.self.places l.home.names.now.names) l.home.mode (view_method l.home.method.now)) (places_of is_atomic_kind l.modifiers))
