-- The code of a primary with suffixes.
use Rattle.std.proofs.Common.{◌≡◌, ℕ, ◌+◌, List, [], ◌∷◌, ◌++◌, refl, sym, ap, ◌∙◌, arith, append_assoc, append-nil}
use Rattle.jr_program.specs.Programs.{Program, Expr}
use Rattle.jr_code.specs.Instructions.{GetElement}
use Rattle.jr_program.specs.ExprViews.{Suffix, Field, Invocation, Element, Length, applied, onto}
use Rattle.jr_lowering.specs.ExprCode.{Setting, expr_size, expr_code}
use Rattle.jr_lowering.specs.SuffixCode.{suffix_size, suffixes_size, suffix_code, suffixes_code}

applied_size : (program : Program) (e : Expr) (s : Suffix) → expr_size program (applied e s) ≡ expr_size program e + suffix_size program s
applied_size program e (Field f) = refl
applied_size program e (Invocation m es) = omega arith
applied_size program e (Element element i) = omega arith
applied_size program e Length = refl

pub onto_size : (program : Program) (e : Expr) (ss : List Suffix) → expr_size program (onto e ss) ≡ expr_size program e + suffixes_size program ss
onto_size program e [] = omega arith
onto_size program e (s ∷ ss) = omega (arith, onto_size program (applied e s) ss, applied_size program e s)

applied_code : (s : Setting) (e : Expr) (x : Suffix) (at : ℕ) → expr_code s (applied e x) at ≡ expr_code s e at ++ suffix_code s x (at + expr_size s.program e)
applied_code s e (Field f) at = refl
applied_code s e (Invocation m es) at = refl
applied_code s e (Element element i) at = append_assoc (expr_code s e at) (expr_code s i (at + expr_size s.program e)) (GetElement element ∷ [])
applied_code s e Length at = refl

pub onto_code : (s : Setting) (e : Expr) (xs : List Suffix) (at : ℕ) → expr_code s (onto e xs) at ≡ expr_code s e at ++ suffixes_code s xs (at + expr_size s.program e)
onto_code s e [] at = sym (append-nil (expr_code s e at))
onto_code s e (x ∷ xs) at =
    let place : at + expr_size s.program (applied e x) ≡ at + expr_size s.program e + suffix_size s.program x = omega (arith, applied_size s.program e x) in
    onto_code s (applied e x) xs at
    ∙ ap (λ c. c ++ suffixes_code s xs (at + expr_size s.program (applied e x))) (applied_code s e x at)
    ∙ append_assoc (expr_code s e at) (suffix_code s x (at + expr_size s.program e)) (suffixes_code s xs (at + expr_size s.program (applied e x)))
    ∙ ap (λ p. expr_code s e at ++ (suffix_code s x (at + expr_size s.program e) ++ suffixes_code s xs p)) place

-- what adds nothing leaves what stood
pub nothing_more : {A : Type 0} (xs : List A) → xs ++ [] ≡ xs
nothing_more xs = append-nil xs
