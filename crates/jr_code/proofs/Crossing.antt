-- Checked code may be sent to another thread, and be shared by several.
use denote.Param.Send.{IsSend, IsSync}
use Rattle.jr_code.specs.contracts.checking.Checked as Checked
use Rattle.jr_code.proofs.checking.Checked.TheSendSync as checked

pub checked_send : IsSend Checked.the_row
checked_send = checked.the_send

pub checked_sync : IsSync Checked.the_row
checked_sync = checked.the_sync
