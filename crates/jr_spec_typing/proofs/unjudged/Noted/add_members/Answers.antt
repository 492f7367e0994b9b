use Rattle.std.proofs.Common.{arith}
use Rattle.jr_ast.specs.Units.{view_member}
use Rattle.jr_typing_rules.specs.Notes.{in_member}
use Rattle.jr_spec_typing.specs.Noted.{view_noted}
use Rattle.jr_spec_typing.proofs.Noting.{words_next, no_view_left}
use Rattle.jr_spec_typing.proofs.unjudged.Noted.add_members.Goals as goal

pub loop-member-preserved : goal.loop-member-preserved
loop-member-preserved c =
    words_next (λ x. in_member (view_member x)) (view_noted c.loop-member.self) (view_noted c.add_member.new.self) _ c.args.all.now c.member-item.result c.loop-member.member-index c.loop-member.invariant c.loop-member-test.true c.member-item.is
    c.in_ok-add_member.ensures

pub returns : goal.returns
returns c = no_view_left in_member view_member (view_noted c.loop-member.self) (view_noted c.args.self.now) c.args.all.now c.loop-member.member-index c.loop-member.invariant (omega arith)
