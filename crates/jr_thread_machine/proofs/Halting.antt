-- Where a call comes to by instructions that give operands and locals their values.
use Rattle.std.proofs.Common.{◌≡◌, ◌<◌, ◌≤◌, ◌^◌, Bool, true, false, Some, Ok, Err, sym, subst, arith, length}
use Rattle.std.specs.Prelude.{slice_get, MatchBool, Result, OnErr}
use Rattle.jr_code.specs.declared.code.Code.{Code as CodeOfLists}
use Rattle.jr_code.specs.declared.code.MethodCode.{MethodCode as MethodOfLists}
use Rattle.jr_code.specs.declared.instruction.Instruction.{Instruction as Row}
use Rattle.jr_code.specs.Checked.{CodeRight}
use Rattle.jr_code.specs.Decoded.{meaning}
use Rattle.jr_code.specs.Machine.{StackFrame}
use Rattle.jr_code.specs.Views.{tables_of, plain_of}
use Rattle.jr_thread_machine.specs.declared.flow.Flow.TheVariants as flows
use Rattle.jr_thread_machine.specs.declared.frame.Frame.{Frame}
use Rattle.jr_thread_machine.specs.Frames.{frame_of}
use Rattle.jr_thread_machine.specs.Halting.{HaltsAt}
use Rattle.jr_thread_machine.specs.Moves.{Steps}
use Rattle.jr_thread_machine.specs.Steps.{RowAt, Stays, WentOn}
use Rattle.jr_thread_machine.specs.Stopping.{MayStop}
use Rattle.jr_thread_machine.proofs.Rows.{row_inside, stands_there}
use Rattle.jr_thread_machine.proofs.Stepping.{went_on}

pub it_holds : (b : Bool) (P Q : Type 0) → MatchBool b P Q → b ≡ true → P
it_holds true P Q h e = h
it_holds false P Q h e = absurd (cc)

pub it_fails : (b : Bool) (P Q : Type 0) → MatchBool b P Q → b ≡ false → Q
it_fails true P Q h e = absurd (cc)
it_fails false P Q h e = h

pub by_result : (b : Bool) (P Q R S : Type 0) → (P → R) → (Q → S) → MatchBool b P Q → MatchBool b R S
by_result true P Q R S f g h = f h
by_result false P Q R S f g h = g h

pub on_err : {A E : Type 0} (r : Result A E) (P : Type 0) → P → OnErr r P
on_err (Ok a) P p = tt
on_err (Err e) P p = p

module _ (code : CodeOfLists) (method : MethodOfLists) (row : Row) (old new : Frame) (there : slice_get code.methods.items old.method.0 ≡ Some method)
    (row_there : RowAt method old.at row) (few : length method.instrs.items < 2 ^ 32) where
  inside : old.at < length method.instrs.items
  inside = row_inside method old.at row (tables_of code) row_there

  -- it goes on behind such an instruction
  pub goes_behind : CodeRight (plain_of code) → (start : StackFrame) → Stays (plain_of code) start (frame_of old) →
      Steps (plain_of code) (meaning (tables_of code) row) flows.Goes (frame_of old) (frame_of new) → WentOn (plain_of code) (length method.instrs.items) (frame_of old) (frame_of new)
  goes_behind rights start a s =
      went_on (plain_of code) rights (frame_of old) (frame_of new) (meaning (tables_of code) row) a.here (stands_there code old.method method old.at row there row_there)
      (length method.instrs.items) inside s

  -- and halts at any other
  pub halts_there : (new ≡ old) × MayStop row (frame_of old) → 4 ≤ old.stack.spare → HaltsAt code method row new
  halts_there h room =
      let here = inside in
      let P : Frame → Type 0 = λ f. HaltsAt code method row f in
      subst P (sym h.0) (record {
        stands = stands_there code old.method method old.at row there row_there;
        inside = inside;
        fits = omega arith;
        room = room;
        stops = h.1;
      })
