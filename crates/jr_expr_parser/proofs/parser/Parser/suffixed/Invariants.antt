use Rattle.std.proofs.Common.{◌≡◌, ◌-◌}
use Rattle.jr_expr_parser.specs.Reader as reader
use Rattle.jr_expr_parser.specs.Nests.{inside, view_primary}
use Rattle.jr_expr_parser.proofs.parser.Parser.suffixed.Given as goal

abbrev pub invariant-loop-turn : goal.invariant-loop-turn
invariant-loop-turn g l = inside reader.suffixed l.self.view l.self.room l.self.quantifiers l.start ≡ inside reader.trail l.self.view l.self.room l.self.quantifiers (l._turn-end - l._turn) (view_primary l.primary) l.at
