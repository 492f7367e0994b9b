use Rattle.std.proofs.Common.{◌≡◌, ◌≤◌, ℕ, true, List}
use Rattle.jr_program.specs.Programs.{Program}
use Rattle.jr_meaning.specs.Event.{Event}
use Rattle.jr_drive.proofs.Reaching.{cut-off}
use Rattle.jr_drive.proofs.laws.runs_keep_the_rules.Goals as goal

pub returns-clause-cut_off : goal.returns-clause-cut_off
returns-clause-cut_off c = cut-off

pub returns-clause-legal : goal.returns-clause-legal
returns-clause-legal c program budget h reached = (c.serial_prefixes_are_right.ensures program budget 0 0 h (cut-off program budget h reached 0)).legal

pub returns-clause-one : goal.returns-clause-one
returns-clause-one c program built budget h reached = c.built_runs_have_one_thread.ensures program built budget h (returns-clause-legal c program budget h reached)

pub returns-clause-few : goal.returns-clause-few
returns-clause-few c program budget h reached = c.budgets_hold.ensures program budget h (returns-clause-legal c program budget h reached)
