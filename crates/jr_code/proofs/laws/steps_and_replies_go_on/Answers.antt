use Rattle.jr_code.proofs.Stopping.{after_nothing, after_step, after_reply}
use Rattle.jr_code.proofs.laws.steps_and_replies_go_on.Goals as goal

pub returns : goal.returns
returns c = record { begins = after_nothing; step = after_step; reply = after_reply }
