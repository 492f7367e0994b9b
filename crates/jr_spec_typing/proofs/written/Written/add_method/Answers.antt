use Rattle.std.proofs.Common.{ℕ, List, [], map, subst, ap}
use Rattle.jr_names.specs.Answered.{Moves}
use Rattle.jr_typing.specs.MadeViews.{view_method}
use Rattle.jr_typing.specs.Scoped.{asserts_of}
use Rattle.jr_typing_rules.specs.Answers.{all_hold, each, gather}
use Rattle.jr_typing_rules.specs.Modifiers.{OnMethod, is_atomic_kind, modifiers_stand, places_of}
use Rattle.jr_typing_rules.specs.Statements.{Asserted}
use Rattle.jr_typing_rules.specs.Specifications.{method_clause, formal_stands, atomic, assert}
use Rattle.jr_spec_typing.specs.Clauses.{and_clauses, setting_of, view_written}
use Rattle.jr_spec_typing.proofs.Adding.{in_turn, method_added}
use Rattle.jr_spec_typing.proofs.written.Written.add_method.Goals as goal

pub returns : goal.returns
returns c =
    let names = c.args.home.now.names.now.names in
    let mode = c.args.home.now.mode in
    let m = view_method c.args.home.now.method.now in
    let w = view_written c.args.self.now in
    let atomics = λ (source : List ℕ). map (atomic (setting_of source names) mode m) (places_of is_atomic_kind m.source.modifiers) in
    subst (λ (all : List Asserted). Moves view_written (and_clauses w (in_turn (gather (method_clause (setting_of w.source names) mode m) m.source.clauses) (modifiers_stand OnMethod m.source.modifiers)
    (all_hold formal_stands m.source.formals) (atomics w.source) (each (assert (setting_of w.source names) mode m) all))) c.add_asserts.result c.add_asserts.new.self) (ap (asserts_of []) c.as_slice-steps.ensures.value)
    (method_added w (view_written c.add_all_before_method.new.self) (view_written c.add_atomics.new.self) (gather (method_clause (setting_of w.source names) mode m) m.source.clauses)
    (modifiers_stand OnMethod m.source.modifiers) (all_hold formal_stands m.source.formals) atomics
    (λ source. each (assert (setting_of source names) mode m) (asserts_of [] c.as_slice-steps.result.now))
    c.add_asserts.result c.add_asserts.new.self (rw c.as_slice.ensures at c.in_ok-add_all_before_method.ensures) (rw c.as_slice-modifiers.ensures at c.in_ok-modifiers_stand.ensures)
    (rw c.as_slice-2.ensures at c.in_ok-formals_stand.ensures) (rw c.as_slice-modifiers.ensures at c.in_ok-add_atomics.ensures) c.add_asserts.ensures)
