use Rattle.std.proofs.Common.{◌≡◌, ◌-◌, ◌*◌, ◌+◌, suc, ℕ}
use Rattle.jr_expr_parser.specs.Reader as reader
use Rattle.jr_expr_parser.specs.Nests.{inside, view_read}
use Rattle.jr_expr_parser.proofs.parser.Parser.+level.Given as goal

abbrev pub invariant-to_the_left-loop-turn : goal.invariant-to_the_left-loop-turn
invariant-to_the_left-loop-turn g l =
    let inner = λ (i : ℕ). inside reader.levels l.self.view l.self.room l.self.quantifiers (15 - l.level) (suc l.level) i in
    inside reader.to_the_left l.self.view l.self.room inner l.level l.start ≡ inside reader.climb l.self.view l.self.room inner (l._turn-end - l._turn) l.level l.start (view_read l.left) l.at

abbrev pub decreases-level : goal.decreases-level
decreases-level g l = 2 * (16 - l.level) + 1

abbrev pub decreases-assigns : goal.decreases-assigns
decreases-assigns g l = 2 * (16 - l.level)

abbrev pub decreases-chooses : goal.decreases-chooses
decreases-chooses g l = 2 * (16 - l.level)

abbrev pub decreases-implies : goal.decreases-implies
decreases-implies g l = 2 * (16 - l.level)

abbrev pub decreases-once : goal.decreases-once
decreases-once g l = 2 * (16 - l.level)

abbrev pub decreases-to_the_left : goal.decreases-to_the_left
decreases-to_the_left g l = 2 * (16 - l.level)
