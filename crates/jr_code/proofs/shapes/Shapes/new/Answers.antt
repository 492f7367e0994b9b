use Rattle.std.proofs.Common.{arith}
use Rattle.jr_code.proofs.Places.{all_unknown}
use Rattle.jr_code.proofs.shapes.Shapes.new.Goals as goal

pub returns : goal.returns
returns c = all_unknown c.new-kinds.result.items c.loop.places.items c.loop.counter c.args.n c.loop.invariant (omega arith)
