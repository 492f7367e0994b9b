-- The code of what follows a primary, which an expression has one by one.
use Rattle.std.specs.Prelude.{ℕ, ◌+◌, List, [], ◌∷◌, ◌++◌}
use Rattle.jr_program.specs.Programs.{Program}
use Rattle.jr_program.specs.ExprViews.{Suffix, Field, Invocation, Element, Length}
use Rattle.jr_lowering.specs.ExprCode.{Setting, kind_of_field, expr_size, exprs_size, expr_code, exprs_code}
use Rattle.jr_program.specs.Slots.{slot_of}
use Rattle.jr_code.specs.Instructions.{Instruction, GetField, GetElement, ArrayLength, CallMethodOn}

abbrev pub suffix_size : Program → Suffix → ℕ
suffix_size program (Field f) = 1
suffix_size program (Invocation m es) = exprs_size program es + 1
suffix_size program (Element element i) = expr_size program i + 1
suffix_size program Length = 1

abbrev pub suffixes_size : Program → List Suffix → ℕ
suffixes_size program [] = 0
suffixes_size program (s ∷ ss) = suffix_size program s + suffixes_size program ss

abbrev pub suffix_code : Setting → Suffix → ℕ → List Instruction
suffix_code s (Field f) at = GetField (slot_of s.program f) (kind_of_field s.program f) ∷ []
suffix_code s (Invocation m es) at = exprs_code s es at ++ CallMethodOn m ∷ []
suffix_code s (Element element i) at = expr_code s i at ++ GetElement element ∷ []
suffix_code s Length at = ArrayLength ∷ []

abbrev pub suffixes_code : Setting → List Suffix → ℕ → List Instruction
suffixes_code s [] at = []
suffixes_code s (x ∷ xs) at = suffix_code s x at ++ suffixes_code s xs (at + suffix_size s.program x)
