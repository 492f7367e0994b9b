-- Whether a method with a result ends (JLS 8.4.7, cut to the profile): its last statement ends.
use Rattle.std.specs.Prelude.{Bool, true, false, not, ◌&&◌, ◌||◌, Option, Some, None}
use Rattle.jr_ast.specs.Expressions as expressions
use Rattle.jr_ast.specs.Statements.{Stmt, Stmts, Catches, Block, If, IfElse, While, Do, For, Return, Break, ThrowNew, ThrowVariable, Try, Synchronized, Commit, no_stmt, and_stmt, no_catch, and_catch}

-- the literal `true`, without brackets
abbrev pub is_true : expressions.Expr → Bool
is_true (expressions.Boolean at b) = b
is_true _ = false

abbrev pub is_missing_or_true : Option expressions.Expr → Bool
is_missing_or_true (Some e) = is_true e
is_missing_or_true None = true

abbrev mutual
  -- a `break` that leaves the loop of which it is the body
  pub breaks : Stmt → Bool
  breaks (Break at) = true
  breaks (Block at ss) = any_breaks false ss
  breaks (If at e a) = breaks a
  breaks (IfElse at e a b) = breaks a || breaks b
  breaks (Try at ss cs) = any_breaks false ss || any_catch_breaks cs
  breaks (Synchronized at e ss) = any_breaks false ss
  breaks (Commit at s) = breaks s
  breaks _ = false

  pub any_breaks : Bool → Stmts → Bool
  any_breaks before no_stmt = before
  any_breaks before (and_stmt s ss) = any_breaks (before || breaks s) ss

  pub any_catch_breaks : Catches → Bool
  any_catch_breaks no_catch = false
  any_catch_breaks (and_catch c x ss cs) = any_breaks false ss || any_catch_breaks cs

abbrev mutual
  pub ends : Stmt → Bool
  ends (Return at e) = true
  ends (ThrowNew at x) = true
  ends (ThrowVariable at x) = true
  ends (Block at ss) = last_ends false ss
  ends (Synchronized at e ss) = last_ends false ss
  ends (Commit at s) = ends s
  ends (IfElse at e a b) = ends a && ends b
  ends (Try at ss cs) = last_ends false ss && all_catches_end cs
  ends (While at e s) = is_true e && not (breaks s)
  ends (Do at s e) = is_true e && not (breaks s)
  ends (For at i e us s) = is_missing_or_true e && not (breaks s)
  ends _ = false

  -- the last of them ends, or where there is none, what stands before
  pub last_ends : Bool → Stmts → Bool
  last_ends before no_stmt = before
  last_ends before (and_stmt s ss) = last_ends (ends s) ss

  pub all_catches_end : Catches → Bool
  all_catches_end no_catch = true
  all_catches_end (and_catch c x ss cs) = last_ends false ss && all_catches_end cs
