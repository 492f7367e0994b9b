use Rattle.jr_jml_parser.proofs.Asserts.{assert_deep}
use Rattle.jr_jml_parser.proofs.clause.parse_assert.Goals as goal

pub returns-then-depth-eq-NESTING_LIMIT : goal.returns-then-depth-eq-NESTING_LIMIT
returns-then-depth-eq-NESTING_LIMIT c = assert_deep c.args.tokens.now c.args.at c.in_ok-start.start c.args.depth c.span.result c.if-depth-eq-NESTING_LIMIT.true c.in_ok-start.ensures
