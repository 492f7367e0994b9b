-- Open calls as plain data.
use Rattle.std.specs.Prelude.{List, map, reverse}
use Rattle.jr_meaning.specs.Frames.{Frame}
use Rattle.jr_drive.specs.declared.frames.OpenCall.{OpenCall}

abbrev pub frame_of : OpenCall → Frame
frame_of call = record { method = call.method; this = call.this; arguments = call.arguments.items; call = call.call.0 }

-- the frames of calls of which the newest stands last
abbrev pub frames_open : List OpenCall → List Frame
frames_open calls = reverse (map frame_of calls)
