use Rattle.std.proofs.Common.{◌≡◌, ◌+◌, refl}
use Rattle.jr_base.specs.Deed.{deed_of}
use Rattle.jr_program.specs.UnitViews.{program_of}
use Rattle.jr_meaning.specs.History.{world_after, replies_of}
use Rattle.jr_drive.specs.Reached.{first_guest}
use Rattle.jr_drive.proofs.Running.{main_of, keeps-more}
use Rattle.jr_drive.proofs.turn.SerialRun.make.Goals as goal

pub returns-clause-makes : goal.returns-clause-makes
returns-clause-makes c h keeps =
    let program = program_of c.args.program.now in
    let deed = deed_of c.args.action.now in
    record {
      answer = c.in_ok-reply.ensures.reply program (world_after program h) first_guest keeps.store;
      keeps = keeps-more program h deed c.in_ok-reply.reply c.args.self.now (record {
        machine = c.resume.new.self;
        store = c.perform.new.self;
        frames = c.step.new.self;
        values = c.args.self.now.values;
        steps = c.args.self.now.steps + 1;
      }) keeps (c.resume.ensures (main_of program) (replies_of first_guest h) keeps.machine)
          (c.in_ok-reply.ensures.stands program (world_after program h) first_guest keeps.store) c.in_ok-step.ensures.after refl;
    }
