use Rattle.std.proofs.Common.{map}
use Rattle.jr_ast.specs.Clauses.{view_method_clause}
use Rattle.jr_ast.specs.Units.{view_method}
use Rattle.jr_unit_parser.specs.Finds.{BodyAt, ShallowBody}
use Rattle.jr_unit_parser.proofs.Ends.{hands_on}
use Rattle.jr_unit_parser.proofs.OfBodies.{body_fails}
use Rattle.jr_unit_parser.proofs.reader.UnitReader.method.Goals as goal

pub returns-in_err-body : goal.returns-in_err-body
returns-in_err-body c =
    let ts = c.args.self.now.tokens.now in
    let clauses = map view_method_clause c.args.clauses in
    hands_on ts view_method (BodyAt ts c.args.first clauses c.args.signature) ShallowBody c.args.at c.from_residual.result c.in_err-body.field-0.0 c.from_residual.ensures.1
    (body_fails ts c.args.first c.args.at clauses c.args.signature _ c.requires c.in_err-body.ensures)
