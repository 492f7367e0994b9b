-- A program may be sent to another thread, and be shared by several.
use denote.Param.Send.{IsSend, IsSync, sendable}
use Rattle.jr_code.proofs.Crossing.{checked_send, checked_sync}
use Rattle.jr_program.proofs.Crossing.{unit_send, unit_sync}
use Rattle.jr_lowering.specs.contracts.program.Program as Program

pub program_send : IsSend Program.the_row
program_send = search (sendable, unit_send, checked_send) depth 20

pub program_sync : IsSync Program.the_row
program_sync = search (sendable, unit_sync, checked_sync) depth 20
