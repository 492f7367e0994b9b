-- Where statements begin in a block, and the labels that are left out.
use Rattle.std.specs.Prelude.{◌≡◌, ◌≢◌, ℕ, ◌+◌, false, List, Option, codes}
use Rattle.jr_lexer.specs.declared.kind.Kind.TheVariants as k
use Rattle.jr_lexer.specs.Token.{Token}
use Rattle.jr_lexer.specs.Reading.{text_at}
use Rattle.jr_ast.specs.Expressions.{Expr}
use Rattle.jr_ast.specs.Statements.{Stmt, Stmts, ForInit}
use Rattle.jr_reading.specs.Seen.{seen}
use Rattle.jr_stmt_parser.specs.Grammar.{Expression, Init, Optional, Updates, Label, Statement, Block}

-- Begins ts o at: in the block that is opened at o, a statement begins at the token at, unless the block that
-- it stands in ends there. All that stands before is read: it is in a block, or it is the statement in an
-- `if`, `while`, `do` or `for`, or under the label `commit` (JLS 14.2, 14.7, 14.9, 14.12, 14.13, 14.14).
mutual
  pub data Begins (ts : List Token) (o : ℕ) : ℕ → Type 0 where
    in_block : {i : ℕ} → Inside ts o i → Begins ts o i
    under_if : {i j : ℕ} {e : Expr} → Begins ts o i → seen false ts i ≡ k.If → seen false ts (i + 1) ≡ k.OpenParen → Expression ts (i + 2) e j → seen false ts j ≡ k.CloseParen → Begins ts o (j + 1)
    under_else : {i j m : ℕ} {e : Expr} {a : Stmt} → Begins ts o i → seen false ts i ≡ k.If → seen false ts (i + 1) ≡ k.OpenParen → Expression ts (i + 2) e j → seen false ts j ≡ k.CloseParen → Statement ts (j + 1) a m → seen false ts m ≡ k.Else → Begins ts o (m + 1)
    under_while : {i j : ℕ} {e : Expr} → Begins ts o i → seen false ts i ≡ k.While → seen false ts (i + 1) ≡ k.OpenParen → Expression ts (i + 2) e j → seen false ts j ≡ k.CloseParen → Begins ts o (j + 1)
    under_do : {i : ℕ} → Begins ts o i → seen false ts i ≡ k.Do → Begins ts o (i + 1)
    under_for : {i j m n : ℕ} {init : ForInit} {e : Option Expr} {es : List Expr} → Begins ts o i → seen false ts i ≡ k.For → seen false ts (i + 1) ≡ k.OpenParen → Init ts (i + 2) init j → seen false ts j ≡ k.Semicolon → Optional ts (j + 1) e m → seen false ts m ≡ k.Semicolon → Updates ts (m + 1) es n → seen false ts n ≡ k.CloseParen → Begins ts o (n + 1)
    under_commit : {i : ℕ} → Begins ts o i → Label ts i → Begins ts o (i + 2)

  -- the statements of a block are read up to the token
  pub data Inside (ts : List Token) (o : ℕ) : ℕ → Type 0 where
    opened : seen false ts o ≡ k.OpenBrace → Inside ts o (o + 1)
    block : {i : ℕ} → Begins ts o i → seen false ts i ≡ k.OpenBrace → Inside ts o (i + 1)
    tried : {i : ℕ} → Begins ts o i → seen false ts i ≡ k.Try → seen false ts (i + 1) ≡ k.OpenBrace → Inside ts o (i + 2)
    caught : {i : ℕ} → Tried ts o i → seen false ts i ≡ k.Catch → seen false ts (i + 1) ≡ k.OpenParen → seen false ts (i + 2) ≡ k.Name → seen false ts (i + 3) ≡ k.Name → seen false ts (i + 4) ≡ k.CloseParen → seen false ts (i + 5) ≡ k.OpenBrace → Inside ts o (i + 6)
    synchronized : {i j : ℕ} {e : Expr} → Begins ts o i → seen false ts i ≡ k.Synchronized → seen false ts (i + 1) ≡ k.OpenParen → Expression ts (i + 2) e j → seen false ts j ≡ k.CloseParen → seen false ts (j + 1) ≡ k.OpenBrace → Inside ts o (j + 2)
    more : {i j : ℕ} {a : Stmt} → Inside ts o i → Statement ts i a j → Inside ts o j

  -- `try`, its block and some catches are read up to the token
  pub data Tried (ts : List Token) (o : ℕ) : ℕ → Type 0 where
    body : {i j : ℕ} {ss : Stmts} → Begins ts o i → seen false ts i ≡ k.Try → Block ts (i + 1) ss j → Tried ts o j
    one_more : {i j : ℕ} {ss : Stmts} → Tried ts o i → seen false ts i ≡ k.Catch → seen false ts (i + 1) ≡ k.OpenParen → seen false ts (i + 2) ≡ k.Name → seen false ts (i + 3) ≡ k.Name → seen false ts (i + 4) ≡ k.CloseParen → Block ts (i + 5) ss j → Tried ts o j

-- A label that isn't `commit`: a name with a colon where a statement begins.
pub record OtherLabel (ts : List Token) (o at : ℕ) : Type 0 where
  pub begins : Begins ts o at
  pub name : seen false ts at ≡ k.Name
  pub text : text_at ts at ≢ codes "commit"
  pub colon : seen false ts (at + 1) ≡ k.Colon
