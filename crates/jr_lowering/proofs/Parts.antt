-- The code of what is printed, a part at a time.
use Rattle.std.proofs.Common.{◌≡◌, ℕ, ◌+◌, List, [], ◌∷◌, ◌++◌, sym, ap, ◌∙◌, arith, append-nil}
use Rattle.jr_program.specs.Programs.{Program, Part, Literal, Shown}
use Rattle.jr_lowering.specs.ExprCode.{Setting, expr_size, expr_code}
use Rattle.jr_lowering.specs.StatementCode.{parts_size, parts_code}

pub more_size : (program : Program) (p : Part) (ps : List Part) → parts_size program (p ∷ ps) ≡ parts_size program (p ∷ []) + parts_size program ps
more_size program (Literal text) ps = omega arith
more_size program (Shown e) ps = omega arith

pub more_code : (s : Setting) (p : Part) (ps : List Part) (at : ℕ) →
    parts_code s (p ∷ ps) at ≡ parts_code s (p ∷ []) at ++ parts_code s ps (at + parts_size s.program (p ∷ []))
more_code s (Literal text) ps at = let e : at ≡ at + 0 = omega arith in ap (parts_code s ps) e
more_code s (Shown e) ps at =
    let size : at + expr_size s.program e ≡ at + (expr_size s.program e + 0) = omega arith in
    ap (λ p. expr_code s e at ++ parts_code s ps p) size
    ∙ ap (λ c. c ++ parts_code s ps (at + (expr_size s.program e + 0))) (sym (append-nil (expr_code s e at)))
