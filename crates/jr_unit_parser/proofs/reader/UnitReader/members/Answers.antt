use Rattle.std.proofs.Common.{map, sym, ap, not, arith}
use Rattle.std.specs.Prelude.{All}
use Rattle.jr_ast.specs.Units.{view_member}
use Rattle.jr_unit_parser.specs.Finds.{AllOf}
use Rattle.jr_unit_parser.specs.Grammar.{MemberAt}
use Rattle.jr_unit_parser.specs.Nesting.{ShallowMember}
use Rattle.jr_unit_parser.specs.Steps.{member_begins}
use Rattle.jr_unit_parser.proofs.Ends.{hands_on}
use Rattle.jr_unit_parser.proofs.Rows.{all_fail, all_found, pushed, read_so_far}
use Rattle.jr_unit_parser.proofs.OfMembers.{member_rows, member_on}
use Rattle.jr_unit_parser.proofs.OfBodies.{member_behind}
use Rattle.jr_unit_parser.proofs.reader.UnitReader.members.Goals as goal

pub returns-in_err-member-clause-found : goal.returns-in_err-member-clause-found
unfolding member_begins
returns-in_err-member-clause-found c =
    let ts = c.args.self.now.tokens.now in
    hands_on ts (map view_member) (AllOf (MemberAt ts) (member_begins ts)) (All ShallowMember) c.args.first c.from_residual.result c.in_err-member.field-0.0 c.from_residual.ensures.1
    (all_fail ts (MemberAt ts) ShallowMember (member_begins ts) c.args.first c.loop-found.at _ _ c.loop-found.invariant (ap not (sym c.loop-found-test.ensures.value)) c.in_err-member.ensures)

pub loop-found-smaller : goal.loop-found-smaller
loop-found-smaller c = omega (arith, member_on c.args.self.now.tokens.now c.loop-found.at c.in_ok-member.behind _ c.in_ok-member.ensures.stands)

pub loop-found-preserved : goal.loop-found-preserved
loop-found-preserved c =
    let ts = c.args.self.now.tokens.now in
    pushed ts view_member (MemberAt ts) ShallowMember (member_begins ts) (member_rows ts) c.args.first c.loop-found.at c.in_ok-member.behind c.loop-found.found c.push.new.self c.in_ok-member.member c.loop-found.invariant c.in_ok-member.ensures c.in_ok-push.ensures.ok

pub returns-clause-found : goal.returns-clause-found
unfolding member_begins
returns-clause-found c =
    let ts = c.args.self.now.tokens.now in
    all_found ts (MemberAt ts) ShallowMember (member_begins ts) _ _ _ c.loop-found.invariant (ap not (sym c.loop-found-test.ensures.value))

pub member-requires : goal.member-requires
member-requires c = member_behind c.args.self.now.tokens.now c.args.first c.loop-found.at _ c.requires (read_so_far c.loop-found.invariant)
