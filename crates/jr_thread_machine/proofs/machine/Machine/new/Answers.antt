use Rattle.std.proofs.Common.{[]}
use Rattle.jr_program.specs.UnitViews.{program_of}
use Rattle.jr_code.specs.Views.{plain_of}
use Rattle.jr_thread_machine.specs.Machines.{held_of}
use Rattle.jr_thread_machine.specs.Stages.{HasStarted}
use Rattle.jr_thread_machine.specs.Standing.{StandsFor}
use Rattle.jr_thread_machine.proofs.Standing.{start_in, started}
use Rattle.jr_thread_machine.proofs.Tables.{mapped_ok}
use Rattle.jr_thread_machine.proofs.machine.Machine.new.Goals as goal

pub start-requires : goal.start-requires
start-requires c =
    start_in (program_of c.args.program.now) c.well_formed-2.ensures c.args.start c.requires (plain_of c.code.result.now) c.code.ensures

pub returns : goal.returns
returns c =
    let program = program_of c.args.program.now in
    let code = plain_of c.code.result.now in
    mapped_ok (λ m. HasStarted code c.args.start (held_of m)) (λ m. StandsFor program c.args.start [] m) c.start.result
    (λ m h. started program c.args.start c.requires code c.code.ensures m h) c.start.ensures
