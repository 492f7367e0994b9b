-- A machine that keeps a state and gets one reply at a time, beside one that is given all replies at once.
use Rattle.std.specs.Prelude.{◌≡◌, ◌++◌}
use Rattle.jr_base.specs.Deed.{Deed}
use Rattle.jr_base.specs.declared.action.Reply.{Reply}
use Rattle.jr_base.specs.Threads.{Next, Tape}
use Rattle.jr_code.specs.Instructions.{Code}
use Rattle.jr_code.specs.Machine.{State, Move, Goes, Asks, Ends, DoesNext}

-- the state is one after these replies: what it does next after others, the start does after both
pub record After (code : Code) (start : State) (replies : Tape) (s : State) : Type 0 where
  pub same : (more : Tape) (what : Next) → DoesNext code s more what → DoesNext code start (replies ++ more) what

-- a move is to make this action
abbrev pub IsAsking : Deed → Move → Type 0
IsAsking deed (Goes s) = ⊥
IsAsking deed (Asks d go) = d ≡ deed
IsAsking deed Ends = ⊥

-- the state after the reply to a move's action
abbrev pub Answered : Move → Reply → State → Type 0
Answered (Goes s) r after = ⊥
Answered (Asks d go) r after = go r ≡ after
Answered Ends r after = ⊥

-- a local step to this state
abbrev pub IsGoing : Move → State → Type 0
IsGoing (Goes s) after = s ≡ after
IsGoing (Asks d go) after = ⊥
IsGoing Ends after = ⊥

abbrev pub IsEnding : Move → Type 0
IsEnding (Goes s) = ⊥
IsEnding (Asks d go) = ⊥
IsEnding Ends = Unit {0}
