use Rattle.std.proofs.Common.{◌≡◌, [], map, drop}
use Rattle.jr_ast.specs.Statements.{view_part as view_source_part}
use Rattle.jr_program.specs.StatementViews.{view_part}
use Rattle.jr_typing.specs.StatementViews.{parts_printed, view_frame, view_state}
use Rattle.jr_typing.proofs.print.parts.Given as goal

abbrev pub invariant-loop-one : goal.invariant-loop-one
invariant-loop-one l =
    parts_printed (view_frame l.frame) (record { state = view_state l.state; parts = map view_part l.made }) (map view_source_part (drop l.one-index l.all)) ≡ parts_printed (view_frame l.frame) (record { state = view_state l.initial.state; parts = [] }) (map view_source_part l.all)
