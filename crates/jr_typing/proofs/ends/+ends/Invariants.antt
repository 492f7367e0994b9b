use Rattle.std.proofs.Common.{◌≡◌, map, drop}
use Rattle.jr_ast.specs.Statements.{catches, view_catch}
use Rattle.jr_typing_rules.specs.Ends.{all_catches_end}
use Rattle.jr_typing.proofs.ends.+ends.Given as goal

abbrev pub invariant-all_catches_end-loop-catch : goal.invariant-all_catches_end-loop-catch
invariant-all_catches_end-loop-catch l = all_catches_end (catches (map view_catch (drop l.catch-index l.all))) ≡ all_catches_end (catches (map view_catch l.all))
