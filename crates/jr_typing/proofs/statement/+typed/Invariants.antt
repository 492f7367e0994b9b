use Rattle.std.proofs.Common.{◌≡◌, map, drop}
use Rattle.jr_ast.specs.Statements.{catches, stmts, view_catch as view_source_catch, view_stmt as view_source_stmt}
use Rattle.jr_program.specs.StatementViews.{view_catch, view_stmt}
use Rattle.jr_typing_rules.specs.Statements.{all_caught, all_typed, starts}
use Rattle.jr_typing.specs.StatementViews.{view_frame, view_state}
use Rattle.jr_typing.proofs.Turns.{caught_behind}
use Rattle.jr_typing.proofs.statement.+typed.Given as goal

abbrev pub invariant-all_typed-loop-stmt : goal.invariant-all_typed-loop-stmt
invariant-all_typed-loop-stmt l =
    all_typed (view_frame l.frame) l.in_loop (record { state = view_state l.state; statements = map view_stmt l.made }) (stmts (map view_source_stmt (drop l.stmt-index l.all))) ≡ all_typed (view_frame l.frame) l.in_loop (starts (view_state l.initial.state)) (stmts (map view_source_stmt l.all))

abbrev pub invariant-all_caught-loop-catch : goal.invariant-all_caught-loop-catch
invariant-all_caught-loop-catch l =
    caught_behind (view_frame l.frame) l.in_loop (record { state = view_state l.state; made = map view_catch l.made }) (map view_source_catch (drop l.catch-index l.all)) ≡ all_caught (view_frame l.frame) l.in_loop (view_state l.initial.state) (catches (map view_source_catch l.all))
