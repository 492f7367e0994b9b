-- Where none of the depth or none of the count is left, the way out alone is to come.
use Rattle.std.proofs.Common.{◌≡◌, [], ◌∷◌, ◌++◌, sym, ap, ◌∙◌, arith}
use Rattle.jr_program.specs.UnitViews.{program_of}
use Rattle.jr_lowering.specs.StatementCode.{exit_code}
use Rattle.jr_lowering.specs.Emitted.{setting_with}
use Rattle.jr_lowering.specs.Ops.{means}
use Rattle.jr_lowering.proofs.Exits.{no_count_code, no_depth_code}
use Rattle.jr_lowering.proofs.exit.put_exits.Goals.{then-loop-depth-test+else-left-gt0, else-loop-depth-test}
use Rattle.jr_lowering.proofs.exit.put_exits.Goals as goal

pub returns-clause-code : goal.returns-clause-code
returns-clause-code c =
    let s = setting_with (program_of c.args.unit.now) c.args.locals in
    let i = means c.args.op in
    let alone : exit_code s c.loop-depth.depth c.loop-depth.left i ≡ i ∷ [] =
    elim c.loop-depth-test.branch [
      | then-loop-depth-test+else-left-gt0 w ↦ no_count_code s c.loop-depth.depth c.loop-depth.left i (omega arith)
      | else-loop-depth-test w ↦ no_depth_code s c.loop-depth.depth c.loop-depth.left i (omega arith)
    ] in
    c.in_ok-next-2.ensures.code ∙ ap (λ op. c.loop-depth.code ++ means op ∷ []) c.loop-depth.invariant.same
    ∙ ap (λ l. c.loop-depth.code ++ l) (sym alone) ∙ c.loop-depth.invariant.code
