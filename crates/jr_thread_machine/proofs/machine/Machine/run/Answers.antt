use Rattle.jr_code.specs.Views.{plain_of}
use Rattle.jr_thread_machine.specs.Machines.{held_of}
use Rattle.jr_thread_machine.proofs.Turns.{turned_twice}
use Rattle.jr_thread_machine.proofs.machine.Machine.run.Goals as goal

pub returns-else-goes_back-clause-turned : goal.returns-else-goes_back-clause-turned
returns-else-goes_back-clause-turned c =
    turned_twice (plain_of c.args.code.now) (held_of c.args.self.now) (held_of c.goes_back.new.self) (held_of c.run_on.new.self) c.goes_back.ensures.turned c.run_on.ensures.turned
