use Rattle.jr_program.specs.UnitViews.{program_of}
use Rattle.jr_code.specs.Views.{plain_of}
use Rattle.jr_thread_machine.proofs.Standing.{held_in, resumed}
use Rattle.jr_thread_machine.proofs.machine.Machine.resume.Goals as goal

pub answer-requires-clause-fits : goal.answer-requires-clause-fits
answer-requires-clause-fits c =
    held_in (program_of c.args.program.now) c.args.self.now c.requires.program (plain_of c.code.result.now) c.code.ensures

pub returns : goal.returns
returns c = λ start replies stands.
    resumed (program_of c.args.program.now) start replies c.args.self.now c.answer.new.self stands c.requires.asked.0 c.requires.asked.1 c.args.reply.now
    (plain_of c.code.result.now) c.code.ensures c.answer.ensures
