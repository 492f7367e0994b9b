use Rattle.jr_thread_machine.proofs.Rows.{row_there, no_row_there}
use Rattle.jr_thread_machine.proofs.run.instruction_at.Goals as goal

pub returns-in-Some : goal.returns-in-Some
returns-in-Some c = row_there c.args.method.now c.args.at c.in-Some.instr.now c.decode.result c.in-Some.ensures c.decode.ensures.means c.decode.ensures.row

pub returns-in-None : goal.returns-in-None
returns-in-None c = no_row_there c.args.method.now c.args.at c.in-None.ensures
