use Rattle.jr_program.specs.ClauseViews.{view_clause}
use Rattle.jr_program.proofs.Numbers.{mapped}
use Rattle.jr_program.proofs.unit.TypedUnit.clause.Goals as goal

pub returns : goal.returns
returns c =
    mapped view_clause c.args.self.now.clauses c.args.c.0 c.numbered.result.now c.requires.first
    (cc (c.numbered.ensures, c.self.view_is))
