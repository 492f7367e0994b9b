use Rattle.std.proofs.Common.{arith}
use Rattle.jr_expr_parser.specs.Reader as reader
use Rattle.jr_expr_parser.proofs.Unrolled.{reads_level}
use Rattle.jr_expr_parser.proofs.parser.Parser.+level.Goals as goal

pub level-returns-in-Assigns : goal.level-returns-in-Assigns
level-returns-in-Assigns g t c = reads_level c.args.self.now.view.jml c.args.self.now.view.tokens.now c.args.self.now.room (reader.nested c.args.self.now.view.jml c.args.self.now.view.tokens.now c.args.self.now.room) c.args.self.now.quantifiers c.args.level _ _ c.args.at _ (omega arith) c.grouping_of.ensures c.in-Assigns.is c.assigns.ensures

pub level-returns-in-Chooses : goal.level-returns-in-Chooses
level-returns-in-Chooses g t c = reads_level c.args.self.now.view.jml c.args.self.now.view.tokens.now c.args.self.now.room (reader.nested c.args.self.now.view.jml c.args.self.now.view.tokens.now c.args.self.now.room) c.args.self.now.quantifiers c.args.level _ _ c.args.at _ (omega arith) c.grouping_of.ensures c.in-Chooses.is c.chooses.ensures

pub level-returns-in-Implies : goal.level-returns-in-Implies
level-returns-in-Implies g t c = reads_level c.args.self.now.view.jml c.args.self.now.view.tokens.now c.args.self.now.room (reader.nested c.args.self.now.view.jml c.args.self.now.view.tokens.now c.args.self.now.room) c.args.self.now.quantifiers c.args.level _ _ c.args.at _ (omega arith) c.grouping_of.ensures c.in-Implies.is c.implies.ensures

pub level-returns-in-Once : goal.level-returns-in-Once
level-returns-in-Once g t c = reads_level c.args.self.now.view.jml c.args.self.now.view.tokens.now c.args.self.now.room (reader.nested c.args.self.now.view.jml c.args.self.now.view.tokens.now c.args.self.now.room) c.args.self.now.quantifiers c.args.level _ _ c.args.at _ (omega arith) c.grouping_of.ensures c.in-Once.is c.once.ensures

pub level-returns-in-ToTheLeft : goal.level-returns-in-ToTheLeft
level-returns-in-ToTheLeft g t c = reads_level c.args.self.now.view.jml c.args.self.now.view.tokens.now c.args.self.now.room (reader.nested c.args.self.now.view.jml c.args.self.now.view.tokens.now c.args.self.now.room) c.args.self.now.quantifiers c.args.level _ _ c.args.at _ (omega arith) c.grouping_of.ensures c.in-ToTheLeft.is c.to_the_left.ensures
