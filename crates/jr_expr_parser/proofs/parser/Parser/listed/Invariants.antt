use Rattle.std.proofs.Common.{◌≡◌, ◌-◌, [], length}
use Rattle.jr_expr_parser.specs.Reader as reader
use Rattle.jr_expr_parser.specs.Nests.{inside, view_list}
use Rattle.jr_expr_parser.proofs.parser.Parser.listed.Given as goal

abbrev pub invariant-loop-turn : goal.invariant-loop-turn
invariant-loop-turn g l = inside reader.expressions l.self.view l.self.room l.self.quantifiers (length l.self.view.tokens.now) [] l.start ≡ inside reader.expressions l.self.view l.self.room l.self.quantifiers (l._turn-end - l._turn) (view_list l.list) l.at
