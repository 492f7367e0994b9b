use Rattle.std.proofs.Common.{map, arith}
use Rattle.std.specs.Prelude.{All}
use Rattle.std.proofs.lemmas.Bool.{lt-ltb, le-ltb}
use Rattle.jr_ast.specs.Units.{view_class}
use Rattle.jr_unit_parser.specs.Finds.{AllOf}
use Rattle.jr_unit_parser.specs.Grammar.{ClassAt}
use Rattle.jr_unit_parser.specs.Nesting.{ShallowClass}
use Rattle.jr_unit_parser.specs.Steps.{class_begins}
use Rattle.jr_unit_parser.proofs.Ends.{hands_on}
use Rattle.jr_unit_parser.proofs.Rows.{all_fail, all_found, pushed, read_so_far}
use Rattle.jr_unit_parser.proofs.OfUnits.{class_rows, class_on}
use Rattle.jr_unit_parser.proofs.OfBodies as bodies
use Rattle.jr_unit_parser.proofs.reader.UnitReader.classes.Goals as goal

pub returns-in_err-class : goal.returns-in_err-class
unfolding class_begins
returns-in_err-class c =
    let ts = c.args.self.now.tokens.now in
    hands_on ts (map view_class) (AllOf (ClassAt ts) (class_begins ts)) (All ShallowClass) c.args.first c.from_residual.result c.in_err-class.field-0.0 c.from_residual.ensures.1
    (all_fail ts (ClassAt ts) ShallowClass (class_begins ts) c.args.first c.loop-at.at _ _ c.loop-at.invariant (lt-ltb _ _ (omega arith)) c.in_err-class.ensures)

pub loop-at-smaller : goal.loop-at-smaller
loop-at-smaller c = omega (arith, class_on c.args.self.now.tokens.now c.loop-at.at c.in_ok-class.behind _ c.in_ok-class.ensures.stands)

pub loop-at-preserved : goal.loop-at-preserved
loop-at-preserved c =
    let ts = c.args.self.now.tokens.now in
    pushed ts view_class (ClassAt ts) ShallowClass (class_begins ts) (class_rows ts) c.args.first c.loop-at.at c.in_ok-class.behind c.loop-at.found c.push.new.self c.in_ok-class.class c.loop-at.invariant c.in_ok-class.ensures c.in_ok-push.ensures.ok

pub returns : goal.returns
unfolding class_begins
returns c =
    let ts = c.args.self.now.tokens.now in
    all_found ts (ClassAt ts) ShallowClass (class_begins ts) _ _ _ c.loop-at.invariant (le-ltb _ _ (omega arith))

pub class-requires : goal.class-requires
class-requires c = bodies.class_begins c.args.self.now.tokens.now c.args.first c.loop-at.at _ c.requires (read_so_far c.loop-at.invariant)
