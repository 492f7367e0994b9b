use Rattle.std.proofs.Common.{arith}
use Rattle.jr_stmt_parser.proofs.Begins.{no_colon_past, no_truth}
use Rattle.jr_stmt_parser.proofs.code.Code.colon_behind.Goals as goal

pub returns-then-at-len : goal.returns-then-at-len
returns-then-at-len c = (λ e. absurd (no_truth e), λ b. absurd (no_colon_past c.args.self.now.tokens.now c.args.at (omega arith) b))
