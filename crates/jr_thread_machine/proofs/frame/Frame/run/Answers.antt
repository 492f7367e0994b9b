use Rattle.std.proofs.Common.{length, sym, ap, ◌∙◌, subst}
use Rattle.std.specs.Prelude.{slice_get}
use Rattle.jr_base.specs.declared.number.MethodId.{MethodId}
use Rattle.jr_code.specs.Machine.{StackFrame}
use Rattle.jr_code.specs.Views.{plain_of}
use Rattle.jr_thread_machine.specs.declared.flow.Stop.TheVariants as stops
use Rattle.jr_thread_machine.specs.declared.handlers.Ran.TheVariants as rans
use Rattle.jr_thread_machine.specs.Frames.{frame_of}
use Rattle.jr_thread_machine.specs.Steps.{Stays}
use Rattle.jr_thread_machine.proofs.Halting.{on_err}
use Rattle.jr_thread_machine.proofs.Rows.{stops_there}
use Rattle.jr_thread_machine.proofs.Stepping.{goes_further, goes_on_again, stops_too, stops_after}
use Rattle.jr_thread_machine.proofs.frame.Frame.run.Goals as goal

pub returns-in_err-ran-in-At-clause-err : goal.returns-in_err-ran-in-At-clause-err
returns-in_err-ran-in-At-clause-err c =
    let code = plain_of c.args.code.now in
    let start = frame_of c.args.self.now in
    let come = goes_further code start (frame_of c.loop-instruction.self) (frame_of c.advance.new.self) c.loop-instruction.invariant c.advance.ensures.stays in
    let P : StackFrame → Type 0 = λ f. Stays code start f in
    on_err c.from_residual.result _ (subst P (sym c.in_err-ran-in-At.ensures.err) come)

pub returns-in-Some-2-clause-ok : goal.returns-in-Some-2-clause-ok
returns-in-Some-2-clause-ok c =
    let code = plain_of c.args.code.now in
    let start = frame_of c.args.self.now in
    let mid = frame_of c.advance.new.self in
    let come = goes_further code start (frame_of c.loop-instruction.self) mid c.loop-instruction.invariant c.advance.ensures.stays in
    stops_after code (length c.in-Some.method.now.instrs.items) start mid (frame_of c.stop.new.self)
    c.in_ok-ran-in-At.field-0 c.in-Some-2.ran come c.in_ok-ran-in-At.ensures.ok c.in-Some-2.is

pub loop-instruction-preserved : goal.loop-instruction-preserved
loop-instruction-preserved c =
    let code = plain_of c.args.code.now in
    let start = frame_of c.args.self.now in
    let mid = frame_of c.advance.new.self in
    let come = goes_further code start (frame_of c.loop-instruction.self) mid c.loop-instruction.invariant c.advance.ensures.stays in
    goes_on_again code (length c.in-Some.method.now.instrs.items) start mid (frame_of c.stop.new.self)
    c.in_ok-ran-in-At.field-0 come c.in_ok-ran-in-At.ensures.ok c.in_default-2.is

pub returns-in-Nothing-clause-ok : goal.returns-in-Nothing-clause-ok
returns-in-Nothing-clause-ok c =
    let code = plain_of c.args.code.now in
    let start = frame_of c.args.self.now in
    let mid = frame_of c.advance.new.self in
    let come = goes_further code start (frame_of c.loop-instruction.self) mid c.loop-instruction.invariant c.advance.ensures.stays in
    let there = ap (λ (m : MethodId). slice_get c.args.code.now.methods.items m.0) come.method ∙ c.in-Some.ensures in
    stops_too code start mid mid (rans.Stops stops.Nothing) come (stops_there c.args.code.now c.in-Some.method.now mid mid there c.in-Nothing.ensures.halts)

pub returns-in-NoRoom-clause-err : goal.returns-in-NoRoom-clause-err
returns-in-NoRoom-clause-err c =
    goes_further (plain_of c.args.code.now) (frame_of c.args.self.now) (frame_of c.loop-instruction.self) (frame_of c.advance.new.self)
    c.loop-instruction.invariant c.advance.ensures.stays
