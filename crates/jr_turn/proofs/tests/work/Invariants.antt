use Rattle.std.proofs.Common.{◌≡◌, None}
use Rattle.jr_turn.proofs.tests.work.Given as goal

abbrev pub invariant-loop-number : goal.invariant-loop-number
invariant-loop-number g l = record {
  turn : l.pass.turn ≡ l.initial.pass.turn;
  out : l.pass.view.out ≡ None;
  ticket : l.pass.view.ticket ≡ None;
  number : l.pass.view.number ≡ l.initial.pass.view.number;
  made : l.pass.view.made ≡ l.initial.pass.view.made;
  joined : l.pass.view.joined ≡ l.initial.pass.view.joined;
}
