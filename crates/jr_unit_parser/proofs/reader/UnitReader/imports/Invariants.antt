use Rattle.std.proofs.Common.{◌≡◌, ◌-◌, length}
use Rattle.jr_unit_parser.specs.Steps as steps
use Rattle.jr_unit_parser.proofs.reader.UnitReader.imports.Given as goal

abbrev pub invariant-loop-turn : goal.invariant-loop-turn
invariant-loop-turn l = steps.imports l.self.tokens.now (length l.self.tokens.now) 0 ≡ steps.imports l.self.tokens.now (l._turn-end - l._turn) l.at
