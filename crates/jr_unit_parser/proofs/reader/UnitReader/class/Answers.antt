use Rattle.std.proofs.Common.{map}
use Rattle.jr_ast.specs.Units.{view_class, view_member}
use Rattle.jr_unit_parser.specs.Grammar.{ClassAt}
use Rattle.jr_unit_parser.specs.Nesting.{ShallowClass}
use Rattle.jr_unit_parser.proofs.Ends.{hands_on}
use Rattle.jr_unit_parser.proofs.OfUnits.{head_fails, members_fail, class_found}
use Rattle.jr_unit_parser.proofs.OfBodies.{first_member}
use Rattle.jr_unit_parser.proofs.reader.UnitReader.class.Goals as goal

pub returns-in_err-head : goal.returns-in_err-head
returns-in_err-head c =
    let ts = c.args.self.now.tokens.now in
    hands_on ts view_class (ClassAt ts) ShallowClass c.args.first c.from_residual.result c.in_err-head.field-0.0 c.from_residual.ensures.1
    (head_fails ts c.args.first _ c.in_err-head.ensures)

pub returns-in_err-members : goal.returns-in_err-members
returns-in_err-members c =
    let ts = c.args.self.now.tokens.now in
    hands_on ts view_class (ClassAt ts) ShallowClass c.args.first c.from_residual-in_err-members.result c.in_err-members.field-0.0 c.from_residual-in_err-members.ensures.1
    (members_fail ts c.args.first c.in_ok-head.at c.in_ok-head.head c.in_ok-head.ensures _ c.in_err-members.ensures.found)

pub returns : goal.returns
returns c = class_found c.args.self.now.tokens.now c.args.first c.in_ok-head.at c.in_ok-members.end c.in_ok-head.head (map view_member c.in_ok-members.members) c.span-place.result c.span-place.ensures c.in_ok-head.ensures c.in_ok-members.ensures.found

pub members-requires : goal.members-requires
members-requires c = first_member c.args.self.now.tokens.now c.args.first c.in_ok-head.at c.in_ok-head.head c.requires c.in_ok-head.ensures
