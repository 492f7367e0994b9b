-- The operators, by level (JLS 15; JML Reference Manual, "Expressions"). 1 binds loosest: assignments 1,
-- `? :` 2, `<==>` 3, `==>` 4, `<==` 5, `||` 6, `&&` 7, `|` 8, `^` 9, `&` 10, `==` 11, order 12, shifts 13,
-- sums 14, products 15, prefixes 16, `++` and `--` behind their operand 17, and primaries 18.
use Rattle.std.specs.Prelude.{ℕ, Bool, true, false, not, cond, if◌then◌else◌, ◌==◌, Option, Some, None}
use Rattle.jr_lexer.specs.declared.kind.Kind.{Kind}
use Rattle.jr_lexer.specs.declared.kind.Kind.TheVariants as k
use Rattle.jr_ast.specs.declared.operator.Prefix.{Prefix}
use Rattle.jr_ast.specs.declared.operator.Prefix.TheVariants as prefixes
use Rattle.jr_ast.specs.declared.operator.Postfix.{Postfix}
use Rattle.jr_ast.specs.declared.operator.Postfix.TheVariants as postfixes
use Rattle.jr_ast.specs.declared.operator.Infix.{Infix}
use Rattle.jr_ast.specs.declared.operator.Infix.TheVariants as infixes
use Rattle.jr_ast.specs.declared.operator.AssignOp.{AssignOp}
use Rattle.jr_ast.specs.declared.operator.AssignOp.TheVariants as assigns
use Rattle.jr_ast.specs.declared.expr.Bound.{Bound}
use Rattle.jr_ast.specs.declared.expr.Bound.TheVariants as bounds
use Rattle.jr_ast.specs.declared.expr.Quantifier.{Quantifier}
use Rattle.jr_ast.specs.declared.expr.Quantifier.TheVariants as quantifiers
use Rattle.jr_expr_parser.specs.declared.operators.Grouping.{Grouping}
use Rattle.jr_expr_parser.specs.declared.operators.Grouping.TheVariants.{Assigns, Chooses, Implies, Once, ToTheLeft}

-- operators before their operand; `++` and `--` in code alone
abbrev pub prefix_of : Bool → Kind → Option Prefix
prefix_of jml k.Minus = Some prefixes.Negate
prefix_of jml k.Plus = Some prefixes.Plus
prefix_of jml k.Not = Some prefixes.Not
prefix_of jml k.Tilde = Some prefixes.Complement
prefix_of jml k.PlusPlus = cond jml None (Some prefixes.Increment)
prefix_of jml k.MinusMinus = cond jml None (Some prefixes.Decrement)
prefix_of jml _ = None

-- operators behind their operand, in code alone
abbrev pub postfix_of : Bool → Kind → Option Postfix
postfix_of jml k.PlusPlus = cond jml None (Some postfixes.Increment)
postfix_of jml k.MinusMinus = cond jml None (Some postfixes.Decrement)
postfix_of jml _ = None

-- operators between two operands, each with its level; those of levels 3, 4 and 5 in clauses alone
abbrev pub infix_of : Bool → Kind → Option (ℕ × Infix)
infix_of jml k.Equivalent = cond jml (Some (3, infixes.Equivalent)) None
infix_of jml k.NotEquivalent = cond jml (Some (3, infixes.NotEquivalent)) None
infix_of jml k.Implies = cond jml (Some (4, infixes.Implies)) None
infix_of jml k.ImpliedBy = cond jml (Some (5, infixes.ImpliedBy)) None
infix_of jml k.OrOr = Some (6, infixes.Or)
infix_of jml k.AndAnd = Some (7, infixes.And)
infix_of jml k.Or = Some (8, infixes.BitOr)
infix_of jml k.Caret = Some (9, infixes.BitXor)
infix_of jml k.And = Some (10, infixes.BitAnd)
infix_of jml k.EqualEqual = Some (11, infixes.Equal)
infix_of jml k.NotEqual = Some (11, infixes.NotEqual)
infix_of jml k.Less = Some (12, infixes.Less)
infix_of jml k.LessEqual = Some (12, infixes.LessEqual)
infix_of jml k.Greater = Some (12, infixes.Greater)
infix_of jml k.GreaterEqual = Some (12, infixes.GreaterEqual)
infix_of jml k.ShiftLeft = Some (13, infixes.ShiftLeft)
infix_of jml k.ShiftRight = Some (13, infixes.ShiftRight)
infix_of jml k.ShiftRightUnsigned = Some (13, infixes.ShiftRightUnsigned)
infix_of jml k.Plus = Some (14, infixes.Add)
infix_of jml k.Minus = Some (14, infixes.Subtract)
infix_of jml k.Star = Some (15, infixes.Multiply)
infix_of jml k.Slash = Some (15, infixes.Divide)
infix_of jml k.Percent = Some (15, infixes.Remainder)
infix_of jml _ = None

-- operators that assign, in code alone
abbrev pub assignment_of : Bool → Kind → Option AssignOp
assignment_of jml k.Equal = cond jml None (Some assigns.Assign)
assignment_of jml k.PlusEqual = cond jml None (Some assigns.Add)
assignment_of jml k.MinusEqual = cond jml None (Some assigns.Subtract)
assignment_of jml k.StarEqual = cond jml None (Some assigns.Multiply)
assignment_of jml k.SlashEqual = cond jml None (Some assigns.Divide)
assignment_of jml k.PercentEqual = cond jml None (Some assigns.Remainder)
assignment_of jml k.AndEqual = cond jml None (Some assigns.BitAnd)
assignment_of jml k.OrEqual = cond jml None (Some assigns.BitOr)
assignment_of jml k.CaretEqual = cond jml None (Some assigns.BitXor)
assignment_of jml k.ShiftLeftEqual = cond jml None (Some assigns.ShiftLeft)
assignment_of jml k.ShiftRightEqual = cond jml None (Some assigns.ShiftRight)
assignment_of jml k.ShiftRightUnsignedEqual = cond jml None (Some assigns.ShiftRightUnsigned)
assignment_of jml _ = None

-- The level of the token as an operator that has an operand on its left: an assignment, `?`, an infix, a
-- postfix; 18 for `.`, `[` and `(`, and 0 for any other.
abbrev pub reach : Kind → ℕ
reach k.Equal = 1
reach k.PlusEqual = 1
reach k.MinusEqual = 1
reach k.StarEqual = 1
reach k.SlashEqual = 1
reach k.PercentEqual = 1
reach k.AndEqual = 1
reach k.OrEqual = 1
reach k.CaretEqual = 1
reach k.ShiftLeftEqual = 1
reach k.ShiftRightEqual = 1
reach k.ShiftRightUnsignedEqual = 1
reach k.Question = 2
reach k.Equivalent = 3
reach k.NotEquivalent = 3
reach k.Implies = 4
reach k.ImpliedBy = 5
reach k.OrOr = 6
reach k.AndAnd = 7
reach k.Or = 8
reach k.Caret = 9
reach k.And = 10
reach k.EqualEqual = 11
reach k.NotEqual = 11
reach k.Less = 12
reach k.LessEqual = 12
reach k.Greater = 12
reach k.GreaterEqual = 12
reach k.ShiftLeft = 13
reach k.ShiftRight = 13
reach k.ShiftRightUnsigned = 13
reach k.Plus = 14
reach k.Minus = 14
reach k.Star = 15
reach k.Slash = 15
reach k.Percent = 15
reach k.PlusPlus = 17
reach k.MinusMinus = 17
reach k.Dot = 18
reach k.OpenBracket = 18
reach k.OpenParen = 18
reach _ = 0

-- how the operators of a level stand between their operands
unfoldable pub grouping_of : ℕ → Grouping
grouping_of l = if l == 1 then Assigns else (if l == 2 then Chooses else (if l == 4 then Implies else (if l == 12 then Once else ToTheLeft)))

-- the bounds of a quantifier's range
abbrev pub bound_of : Kind → Option Bound
bound_of k.Less = Some bounds.Exclusive
bound_of k.LessEqual = Some bounds.Inclusive
bound_of _ = None

abbrev pub quantifier_of : Kind → Option Quantifier
quantifier_of k.BackslashForall = Some quantifiers.ForAll
quantifier_of k.BackslashExists = Some quantifiers.Exists
quantifier_of _ = None

-- What makes an expression that stands before it the operand of another operator than a `-` in front: `++` and
-- `--` behind their operand, in code alone, `.` and `[`.
abbrev pub extends : Bool → Kind → Bool
extends jml k.PlusPlus = not jml
extends jml k.MinusMinus = not jml
extends jml k.Dot = true
extends jml k.OpenBracket = true
extends jml _ = false
