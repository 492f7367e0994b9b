use Rattle.jr_expr_parser.proofs.Shallow.{reads_shallow}
use Rattle.jr_expr_parser.proofs.parser.Parser.nested.Goals as goal

pub returns-clause-shallow : goal.returns-clause-shallow
returns-clause-shallow g c = reads_shallow c.args.self.now.view.jml c.args.self.now.view.tokens.now c.args.self.now.room c.args.quantifiers c.args.level c.args.at c.nested.result c.requires.level (c.requires.nests.reads c.args.self.now.alloc c.args.self.now.view.tokens c.args.self.now.view.jml c.args.quantifiers c.args.level c.args.at c.nested.result c.nested.ensures)
