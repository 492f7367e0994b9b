use Rattle.std.proofs.Common.{◌≡◌, ap, ◌∙◌}
use Rattle.jr_program.specs.UnitViews.{program_of}
use Rattle.jr_meaning.specs.History.{replies_of}
use Rattle.jr_thread_machine.specs.Standing.{next_of}
use Rattle.jr_drive.specs.Reached.{first_guest}
use Rattle.jr_drive.proofs.Running.{main_of, next-same}
use Rattle.jr_drive.proofs.turn.SerialRun.next.Goals as goal

pub returns-in_err-action-clause-keeps : goal.returns-in_err-action-clause-keeps
returns-in_err-action-clause-keeps c h keeps = record {
  machine = c.next.ensures.stands (main_of (program_of c.args.program.now)) (replies_of first_guest h) keeps.machine;
  store = keeps.store;
  frames = keeps.frames;
  steps = keeps.steps;
}

pub returns-clause-keeps : goal.returns-clause-keeps
returns-clause-keeps c h keeps = record {
  machine = c.next.ensures.stands (main_of (program_of c.args.program.now)) (replies_of first_guest h) keeps.machine;
  store = keeps.store;
  frames = keeps.frames;
  steps = keeps.steps;
}

pub unreachable-requires : goal.unreachable-requires
unreachable-requires c =
    let program = program_of c.args.program.now in
    let (budget, h, goes) = c.requires.goes_on in
    c.runs_begin.ensures.wants program budget h goes.under_way
    (next-same program h (c.runs_keep_the_rules.ensures.one program c.requires.built budget h goes.under_way.reached)
    ∙ c.in_ok-action.ensures.next (main_of program) (replies_of first_guest h) goes.keeps.machine ∙ ap next_of c.in-Ended.is)

pub returns-clause-next : goal.returns-clause-next
returns-clause-next c budget h goes =
    let program = program_of c.args.program.now in
    record {
      under_way = goes.under_way;
      wants = next-same program h (c.runs_keep_the_rules.ensures.one program c.requires.built budget h goes.under_way.reached)
          ∙ c.in_ok-action.ensures.next (main_of program) (replies_of first_guest h) goes.keeps.machine ∙ ap next_of c.in-Does.is;
    }

pub returns-clause-plain : goal.returns-clause-plain
returns-clause-plain c =
    let (budget, h, goes) = c.requires.goes_on in
    c.actions_are_plain.ensures (program_of c.args.program.now) c.requires.built budget h _ (returns-clause-next c budget h goes)
