-- What a thread does, action by action, over the replies that it had.
pub mod Box
pub mod CaughtIndex
pub mod EveryForm
pub mod EveryLongForm
pub mod OldCount
pub mod ParentsPass
use Rattle.std.specs.Prelude.{ℕ, List, [], ◌∷◌, ◌++◌, Option}
use Rattle.jr_base.specs.Deed.{Deed}
use Rattle.jr_base.specs.declared.number.ClassId.{ClassId}
use Rattle.jr_base.specs.declared.number.FieldId.{FieldId}
use Rattle.jr_base.specs.declared.number.MethodId.{MethodId}
use Rattle.jr_base.specs.declared.number.ClauseId.{ClauseId}
use Rattle.jr_base.specs.declared.number.TextId.{TextId}
use Rattle.jr_base.specs.declared.number.ObjId.{ObjId}
use Rattle.jr_base.specs.declared.number.GuestNo.{GuestNo}
use Rattle.jr_base.specs.declared.action.Body.{Body}
use Rattle.jr_base.specs.declared.action.Reply.{Reply}
use Rattle.jr_program.specs.Programs.{Program}
use Rattle.jr_meaning.specs.Next.{Next, Wants, next}

-- an action, and what was replied to it
pub record Answered : Type 0 where
  pub deed : Deed
  pub reply : Reply

abbrev pub class : ℕ → ClassId
class n = record { 0 = n }

abbrev pub field : ℕ → FieldId
field n = record { 0 = n }

abbrev pub method : ℕ → MethodId
method n = record { 0 = n }

abbrev pub clause : ℕ → ClauseId
clause n = record { 0 = n }

abbrev pub text : ℕ → TextId
text n = record { 0 = n }

abbrev pub object : ℕ → ObjId
object n = record { 0 = n }

abbrev pub guest : ℕ → GuestNo
guest n = record { 0 = n }

-- the next action after each number of these replies, behind those before them
abbrev pub does_from : Program → Option Body → List Reply → List Answered → List Next
does_from program start before [] = next program start before ∷ []
does_from program start before (a ∷ rest) = next program start before ∷ does_from program start (before ++ a.reply ∷ []) rest

abbrev pub does : Program → Option Body → List Answered → List Next
does program start steps = does_from program start [] steps

-- each of these actions, and then the last
abbrev pub each_of : List Answered → Next → List Next
each_of [] last = last ∷ []
each_of (a ∷ steps) last = Wants a.deed ∷ each_of steps last
