use Rattle.std.proofs.Common.{true, false}
use Rattle.jr_monitors.proofs.Depths.{given-back}
use Rattle.jr_monitors.proofs.laws.depths_are_given_back.Goals as goal

pub returns-clause-wait : goal.returns-clause-wait
returns-clause-wait c = λ program world g object depth h held none. given-back g object depth program world h false held none

pub returns-clause-timed_wait : goal.returns-clause-timed_wait
returns-clause-timed_wait c = λ program world g object depth h held none. given-back g object depth program world h true held none
