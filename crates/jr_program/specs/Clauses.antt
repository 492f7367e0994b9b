-- The clauses of a program as plain data, with each name resolved.
use Rattle.std.specs.Prelude.{ℕ, ℤ, Bool, List}
use Rattle.jr_base.specs.declared.number.ClassId.{ClassId}
use Rattle.jr_base.specs.declared.number.FieldId.{FieldId}
use Rattle.jr_base.specs.declared.number.MethodId.{MethodId}
use Rattle.jr_base.specs.declared.number.Position.{Position}
use Rattle.jr_base.specs.declared.value.Cell.{Cell}
use Rattle.jr_program.specs.declared.words.ClauseKind.{ClauseKind}
use Rattle.jr_program.specs.declared.words.Mode.{Mode}
use Rattle.jr_arith.specs.declared.operator.Width.{Width}
use Rattle.jr_arith.specs.declared.operator.Unary.{Unary as UnaryOperator}
use Rattle.jr_arith.specs.declared.operator.Binary.{Binary as BinaryOperator}
use Rattle.jr_program.specs.declared.words.Quantifier.{Quantifier}
use Rattle.jr_program.specs.declared.words.Bound.{Bound as BoundKind}

-- an expression of a clause (JML Reference Manual, "Predicates and Specification Expressions"). It reads a
-- heap, and has no effect.
pub data Spec : Type 0 where
  Number : (width : Width) (value : ℤ) → Spec
  Truth : (value : Bool) → Spec
  Null : Spec
  This : Spec
  -- a formal, by its number; in an `assert` a variable in scope, by its number among those behind `this` in
  -- the assert's environment
  Variable : (number : ℕ) → Spec
  -- the variable of a quantifier, by how many quantifiers stand between: the innermost one's is 0
  Bound : (depth : ℕ) → Spec
  -- `\result`
  Result : Spec
  -- A field comes with where it lies, so that a clause is valued without its program: a static one with its
  -- cell, another one with its slot.
  StaticField : (field : FieldId) (at : Cell) → Spec
  FieldOf : (object : Spec) (field : FieldId) (slot : ℕ) → Spec
  ElementOf : (array index : Spec) → Spec
  LengthOf : (array : Spec) → Spec
  -- `C.class`
  ClassObject : (class : ClassId) → Spec
  -- an int as a long, and of a long its low 32 bits (JLS 5.1.2, 5.1.3)
  Convert : (to : Width) (operand : Spec) → Spec
  Unary : (operator : UnaryOperator) (operand : Spec) → Spec
  Binary : (operator : BinaryOperator) (left right : Spec) → Spec
  -- `&&`, `||`, `?:`
  And : (left right : Spec) → Spec
  Or : (left right : Spec) → Spec
  Choice : (condition when_true when_false : Spec) → Spec
  -- `==>`, `<==`
  Implies : (left right : Spec) → Spec
  ImpliedBy : (left right : Spec) → Spec
  -- `\old(e)`
  Old : (value : Spec) → Spec
  -- `\lockset.has(e)`, `\lockset[e]`
  InLockset : (object : Spec) → Spec
  -- A quantifier over the ints between two bounds. The range's further conjuncts are joined by `&&`, and are
  -- `true` where it has none.
  Quantified : (quantifier : Quantifier) (low : Spec) (low_bound : BoundKind) (high : Spec) (high_bound : BoundKind) (conjuncts body : Spec) → Spec

-- What a clause belongs to: `invariant` and `constraint` to a class, `monitors_for` to a field, and each other
-- kind to a method or constructor, an `assert` to the one that it stands in.
pub data Owner : Type 0 where
  OfMethod : (method : MethodId) → Owner
  OfClass : (class : ClassId) → Owner
  OfField : (field : FieldId) → Owner

-- a clause: its kind, what it belongs to, how its arithmetic is meant, whether it speaks of no object, where its
-- keyword stands, and what it states: one condition, the members of a `locks` or `monitors_for` clause, and
-- nothing for `atomic`
pub record Clause : Type 0 where
  pub kind : ClauseKind
  pub owner : Owner
  pub mode : Mode
  pub is_static : Bool
  pub place : Position
  pub states : List Spec
