use Rattle.std.proofs.Common.{map, ap, ◌∙◌}
use Rattle.jr_ast.specs.Units.{view_unit}
use Rattle.jr_program.specs.ClauseViews.{view_clause}
use Rattle.jr_typing.specs.MadeViews.{view_code}
use Rattle.jr_safepoints.proofs.Wholes.{clauses_fail, sites_fail, parts_out}
use Rattle.jr_safepoints.proofs.whole.parts_of.Goals as goal

pub returns : goal.returns
returns c = (
  c.in_ok-names.names,
  view_code c.in_ok-code.code,
  record {
    resolved = c.in_ok-names.ensures;
    coded = c.in_ok-code.ensures;
    claused = c.in_ok-stated.ensures;
    noted = c.in_ok-unjudged.ensures;
    texts = c.in_ok-texts.ensures ∙ ap (λ texts. map (λ t. t.now) texts) c.as_slice.ensures;
    main = c.main-first.ensures;
    put = c.in_ok-assembly.ensures;
  },
)

pub returns-in_err-stated : goal.returns-in_err-stated
returns-in_err-stated c =
    parts_out c.args.source.now (view_unit c.args.unit.now) c.in_err-stated.field-0.0 c.from_residual-in_err-stated.result c.from_residual-in_err-stated.ensures.1
    (clauses_fail c.args.source.now (view_unit c.args.unit.now) c.in_ok-names.names (view_code c.in_ok-code.code) c.in_err-stated.field-0.0 c.in_ok-names.ensures c.in_ok-code.ensures c.in_err-stated.ensures)

pub returns-in_err-assembly : goal.returns-in_err-assembly
returns-in_err-assembly c =
    parts_out c.args.source.now (view_unit c.args.unit.now) c.in_err-assembly.field-0.0 c.from_residual-in_err-assembly.result c.from_residual-in_err-assembly.ensures.1
    (sites_fail c.args.source.now (view_unit c.args.unit.now) c.in_ok-names.names (view_code c.in_ok-code.code) (map view_clause c.in_ok-stated.stated) c.in_err-assembly.field-0.0 c.in_ok-names.ensures
    c.in_ok-code.ensures c.in_ok-stated.ensures c.in_err-assembly.ensures)
