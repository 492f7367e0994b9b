use Rattle.jr_code.specs.Instructions.{PutStatic}
use Rattle.jr_thread_machine.proofs.Tables.{as_row, nothing}
use Rattle.jr_thread_machine.proofs.frame.Frame.put_static.Goals as goal

pub returns-in-Some : goal.returns-in-Some
returns-in-Some c = λ plain. as_row plain _ _ _ _ _ (c.in-Some.ensures.1 PutStatic) (c.write_static.ensures plain c.in-Some.ensures.0)

pub returns-in-None : goal.returns-in-None
returns-in-None c = λ plain. nothing plain _ _ (c.in-None.ensures PutStatic)
