use Rattle.std.proofs.Common.{ℕ, ap, sym, ◌∙◌}
use Rattle.jr_code.specs.declared.instr.Instr.{Instr}
use Rattle.jr_code.specs.Coded.{plain}
use Rattle.jr_code.specs.Decoded.{meaning}
use Rattle.jr_code.proofs.Rows.{binary_row}
use Rattle.jr_code.proofs.instruction.Instruction.encode.Goals as goal

pub returns-in-TwoOperands : goal.returns-in-TwoOperands
returns-in-TwoOperands c = λ t.
    let row : ℕ → Instr = λ n. record { code = n; arg = 0 } in
    ap (λ n. plain t (row n)) c.binary_row.ensures ∙ binary_row t 0 c.in-TwoOperands.operator ∙ ap (meaning t) (sym c.in-TwoOperands.is)
