use Rattle.std.proofs.Common.{arith}
use Rattle.jr_ast.specs.Units.{view_class}
use Rattle.jr_typing_rules.specs.Notes.{in_class}
use Rattle.jr_spec_typing.specs.Noted.{view_noted}
use Rattle.jr_spec_typing.proofs.Noting.{words_next, no_view_left}
use Rattle.jr_spec_typing.proofs.unjudged.Noted.add_classes.Goals as goal

pub loop-class-preserved : goal.loop-class-preserved
loop-class-preserved c =
    words_next (λ x. in_class (view_class x)) (view_noted c.loop-class.self) (view_noted c.add_class.new.self) _ c.args.all.now c.class-item.result c.loop-class.class-index c.loop-class.invariant c.loop-class-test.true c.class-item.is
    c.in_ok-add_class.ensures

pub returns : goal.returns
returns c = no_view_left in_class view_class (view_noted c.loop-class.self) (view_noted c.args.self.now) c.args.all.now c.loop-class.class-index c.loop-class.invariant (omega arith)
