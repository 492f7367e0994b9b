use Rattle.std.proofs.Common.{◌≡◌, map, drop}
use Rattle.jr_ast.specs.Statements.{view_declarator}
use Rattle.jr_program.specs.StatementViews.{view_stmt}
use Rattle.jr_typing_rules.specs.Statements.{declares_all, starts}
use Rattle.jr_typing.specs.StatementViews.{view_frame, view_state}
use Rattle.jr_typing.proofs.local.declare_all.Given as goal

abbrev pub invariant-loop-declarator : goal.invariant-loop-declarator
invariant-loop-declarator l =
    declares_all (view_frame l.frame) l.of (record { state = view_state l.state; statements = map view_stmt l.made }) (map view_declarator (drop l.declarator-index l.all)) ≡ declares_all (view_frame l.frame) l.of (starts (view_state l.initial.state)) (map view_declarator l.all)
