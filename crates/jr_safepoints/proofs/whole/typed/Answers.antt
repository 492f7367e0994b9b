use Rattle.jr_ast.specs.Units.{view_unit}
use Rattle.jr_safepoints.proofs.Wholes.{fits, keeps}
use Rattle.jr_safepoints.proofs.whole.typed.Goals as goal

pub new-requires-clause-well_formed : goal.new-requires-clause-well_formed
new-requires-clause-well_formed c =
    fits c.typed_is_well_formed.ensures c.args.source.now (view_unit c.args.unit.now) c.in_ok-parts.parts c.in_ok-parts.ensures c.in_ok-numbered.ensures

pub new-requires-clause-kept : goal.new-requires-clause-kept
new-requires-clause-kept c = keeps c.args.source.now (view_unit c.args.unit.now) c.in_ok-parts.parts c.in_ok-parts.ensures
