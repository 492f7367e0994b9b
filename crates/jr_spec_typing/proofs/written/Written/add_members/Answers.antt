use Rattle.std.proofs.Common.{arith}
use Rattle.jr_spec_typing.specs.Clauses.{setting_of, view_written}
use Rattle.jr_spec_typing.proofs.Adding.{moves_out, part_fails, part_goes_on, no_part_left}
use Rattle.jr_typing.specs.MadeViews.{view_member}
use Rattle.jr_typing_rules.specs.Specifications.{member_clauses}
use Rattle.jr_spec_typing.proofs.written.Written.add_members.Goals as goal

pub returns-in_err-add_member : goal.returns-in_err-add_member
returns-in_err-add_member c =
    moves_out _ _ c.from_residual.result _ c.from_residual.ensures.1
    (part_fails (λ source. member_clauses (setting_of source c.args.home.now.names.now.names) c.args.home.now.mode c.args.home.now.own) view_member (view_written c.loop-member.self) c.args.all.now c.member-item.result c.loop-member.member-index _ _ c.loop-member.invariant c.loop-member-test.true c.member-item.is
    c.in_err-add_member.ensures)

pub loop-member-preserved : goal.loop-member-preserved
loop-member-preserved c =
    part_goes_on (λ source. member_clauses (setting_of source c.args.home.now.names.now.names) c.args.home.now.mode c.args.home.now.own) view_member (view_written c.loop-member.self) (view_written c.add_member.new.self) c.args.all.now c.member-item.result c.loop-member.member-index _
    c.loop-member.invariant c.loop-member-test.true c.member-item.is c.in_ok-add_member.ensures

pub returns : goal.returns
returns c = no_part_left (λ source. member_clauses (setting_of source c.args.home.now.names.now.names) c.args.home.now.mode c.args.home.now.own) view_member (view_written c.loop-member.self) c.args.all.now c.loop-member.member-index _ c.loop-member.invariant (omega arith)
