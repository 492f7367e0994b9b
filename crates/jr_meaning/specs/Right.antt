-- Right runs.
use Rattle.std.specs.Prelude.{ℕ, List}
use Rattle.jr_base.specs.declared.finish.Finish.{Finish}
use Rattle.jr_program.specs.Programs.{Program}
use Rattle.jr_meaning.specs.Event.{Event}
use Rattle.jr_meaning.specs.History.{IsLegal}
use Rattle.jr_meaning.specs.Verdicts.{IsRight, OwesNothing}
use Rattle.jr_meaning.specs.Finish.{IsTrueFinish}

-- a history and its finish
pub record Run : Type 0 where
  pub history : List Event
  pub finish : Finish

-- The run is one of that program with that budget: its history is legal, its verdicts are right and none is
-- owed, and its finish is the true one.
pub record IsRightRun (program : Program) (budget : ℕ) (run : Run) : Type 0 where
  pub legal : IsLegal program budget run.history
  pub right : IsRight program run.history
  pub nothing_owed : OwesNothing program run.history
  pub finish : IsTrueFinish program budget run.history run.finish
