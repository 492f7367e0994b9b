use denote.Param.Send.{sendable}
use Rattle.std.proofs.Crossing.{crosses}
use Rattle.jr_program.proofs.Crossing.{unit_send, unit_sync}
use Rattle.jr_program.proofs.tests.main_of_shared.Goals as goal

pub shared-unit-requires-send-T : goal.shared-unit-requires-send-T
shared-unit-requires-send-T c κs = search (sendable, crosses, unit_send, unit_sync) depth 20

pub shared-unit-requires-sync-T : goal.shared-unit-requires-sync-T
shared-unit-requires-sync-T c κs = search (sendable, crosses, unit_send, unit_sync) depth 20
