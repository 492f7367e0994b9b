use Rattle.std.proofs.Common.{subst}
use Rattle.jr_base.specs.declared.action.Action.TheVariants as actions
use Rattle.jr_code.specs.declared.instruction.Instruction.{Instruction as Row}
use Rattle.jr_code.specs.declared.instruction.Instruction.TheVariants as rows
use Rattle.jr_code.specs.Decoded.{meaning}
use Rattle.jr_code.specs.Views.{tables_of, plain_of}
use Rattle.jr_thread_machine.specs.declared.flow.Stop.TheVariants as stops
use Rattle.jr_thread_machine.specs.declared.flow.Then.TheVariants as thens
use Rattle.jr_thread_machine.specs.declared.handlers.Ran.TheVariants as rans
use Rattle.jr_thread_machine.specs.Frames.{frame_of}
use Rattle.jr_thread_machine.specs.Halting.{HaltsAt}
use Rattle.jr_thread_machine.proofs.Stepping.{stopped, stops_too}
use Rattle.jr_thread_machine.proofs.frame.Frame.goes_back.Goals as goal

pub returns-in-At-BackTo : goal.returns-in-At-BackTo
returns-in-At-BackTo c =
    let lists = c.args.code.now in
    let code = plain_of lists in
    let method = c.in-Some.method.now in
    let mid = c.advance.new.self in
    let new = c.jump_back.new.self in
    let back = stops.Asks actions.Back thens.Runs in
    let row = rows.BackTo c.in-At-BackTo.to in
    let P : Row → Type 0 = λ row. HaltsAt lists method row mid in
    let there : HaltsAt lists method row mid = subst P c.in-At-BackTo.field-0-is c.in-At-BackTo.ensures.halts in
    let come = c.advance.ensures.stays in
    stops_too code (frame_of c.args.self.now) (frame_of mid) (frame_of new) (rans.Stops back) come
    (stopped code c.requires.right (frame_of mid) (frame_of new) (meaning (tables_of lists) row) come.here there.stands there.fits back (c.jump_back.ensures code))
