-- The laws of clauses and blocks that units rest on.
use Rattle.std.proofs.Common.{◌≡◌, ℕ, ◌<◌, ◌≤◌, List, length, arith}
use Rattle.jr_lexer.specs.Token.{Token}
use Rattle.jr_ast.specs.Clauses.{MethodClause, ClassClause}
use Rattle.jr_ast.specs.Statements.{Stmts}
use Rattle.jr_jml_parser.specs.Grammar.{SpellsMethod, SpellsClass}
use Rattle.jr_jml_parser.proofs.Whole as jml
use Rattle.jr_stmt_parser.specs.Grammar.{Block}
use Rattle.jr_stmt_parser.proofs.Laws as stmt

module _ (ts : List Token) where
  pub one_method_clause : (i j m : ℕ) (a b : MethodClause) → SpellsMethod ts i a j → SpellsMethod ts i b m → (a ≡ b) × (j ≡ m)
  one_method_clause i j m a b s t = jml.one_method_clause s t

  pub one_class_clause : (i j m : ℕ) (a b : ClassClause) → SpellsClass ts i a j → SpellsClass ts i b m → (a ≡ b) × (j ≡ m)
  one_class_clause i j m a b s t = jml.one_class_clause s t

  pub method_clause_on : (i j : ℕ) (a : MethodClause) → SpellsMethod ts i a j → (i < j) × (j ≤ length ts)
  method_clause_on i j a s = let p = jml.method_advances s in (omega (arith, p.0), p.1)

  pub class_clause_on : (i j : ℕ) (a : ClassClause) → SpellsClass ts i a j → (i < j) × (j ≤ length ts)
  class_clause_on i j a s = let p = jml.class_advances s in (omega (arith, p.0), p.1)

  pub one_block : (i j m : ℕ) (a b : Stmts) → Block ts i a j → Block ts i b m → (a ≡ b) × (j ≡ m)
  one_block i j m a b s t = stmt.one_block ts i j m a b s t

  pub block_on : (i j : ℕ) (a : Stmts) → Block ts i a j → (i < j) × (j ≤ length ts)
  block_on i j a s = stmt.block_advances s
