use Rattle.std.proofs.Common.{rules, refl}
use Rattle.jr_program.specs.UnitViews.{program_of}
use Rattle.jr_drive.proofs.turn.SerialRun.new.Goals as goal

pub returns : goal.returns
returns c budget = record {
  under_way = c.runs_begin.ensures.start (program_of c.args.program.now) budget;
  keeps = record { machine = search rules; store = search rules; frames = c.new-3.ensures; steps = refl };
}
