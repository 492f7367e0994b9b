use Rattle.std.proofs.Common.{refl}
use Rattle.jr_base.specs.declared.value.Value.TheVariants as values
use Rattle.jr_code.specs.Views.{tables_of}
use Rattle.jr_thread_machine.specs.declared.flow.Flow.TheVariants as flows
use Rattle.jr_thread_machine.specs.Frames.{frame_of}
use Rattle.jr_thread_machine.proofs.Operators.{pushed}
use Rattle.jr_thread_machine.proofs.Tables.{as_row, entry_at}
use Rattle.jr_thread_machine.proofs.frame.Frame.push_long.Goals as goal

pub returns-in-Some : goal.returns-in-Some
returns-in-Some c = λ plain.
    as_row plain _ _ _ _ _ (entry_at _ (tables_of c.args.code.now).longs c.args.place c.in-Some.n.now c.in-Some.ensures)
    (pushed plain (values.Long c.in-Some.n.now) (frame_of c.args.self.now) (frame_of c.long.new.self) flows.Goes refl c.long.ensures)
