use Rattle.std.proofs.Common.{arith}
use Rattle.jr_ast.specs.Clauses.{view_method_clause}
use Rattle.jr_typing_rules.specs.Notes.{in_clause}
use Rattle.jr_spec_typing.specs.Noted.{view_noted}
use Rattle.jr_spec_typing.proofs.Noting.{words_next, no_view_left}
use Rattle.jr_spec_typing.proofs.unjudged.Noted.add_clauses.Goals as goal

pub loop-clause-preserved : goal.loop-clause-preserved
loop-clause-preserved c =
    words_next (λ x. in_clause (view_method_clause x)) (view_noted c.loop-clause.self) (view_noted c.add_clause.new.self) _ c.args.all.now c.clause-item.result c.loop-clause.clause-index c.loop-clause.invariant c.loop-clause-test.true c.clause-item.is
    c.in_ok-add_clause.ensures

pub returns : goal.returns
returns c = no_view_left in_clause view_method_clause (view_noted c.loop-clause.self) (view_noted c.args.self.now) c.args.all.now c.loop-clause.clause-index c.loop-clause.invariant (omega arith)
