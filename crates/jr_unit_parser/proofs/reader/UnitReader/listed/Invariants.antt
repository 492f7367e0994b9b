use Rattle.std.proofs.Common.{◌≡◌, ◌-◌, false, [], length}
use Rattle.jr_reading.specs.Steps as common
use Rattle.jr_unit_parser.specs.Steps as steps
use Rattle.jr_unit_parser.proofs.reader.UnitReader.listed.Given as goal

abbrev pub invariant-loop-turn : goal.invariant-loop-turn
invariant-loop-turn l = common.listed false l.self.tokens.now (steps.formal l.self.tokens.now) (length l.self.tokens.now) [] l.fn.at ≡ common.listed false l.self.tokens.now (steps.formal l.self.tokens.now) (l._turn-end - l._turn) l.found l.at
