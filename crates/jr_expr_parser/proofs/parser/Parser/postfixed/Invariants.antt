use Rattle.std.proofs.Common.{◌≡◌, ◌-◌}
use Rattle.jr_expr_parser.specs.Reader as reader
use Rattle.jr_expr_parser.specs.Nests.{inside, view_read}
use Rattle.jr_expr_parser.proofs.parser.Parser.postfixed.Given as goal

abbrev pub invariant-loop-turn : goal.invariant-loop-turn
invariant-loop-turn g l = inside reader.postfixed l.self.view l.self.room l.self.quantifiers l.start ≡ inside reader.behind l.self.view l.self.room (l._turn-end - l._turn) l.start (view_read l.read) l.at
