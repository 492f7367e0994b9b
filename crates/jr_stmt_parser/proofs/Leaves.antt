-- Expressions as parts.
use Rattle.std.proofs.Common.{◌≡◌, ℕ, ◌+◌, ◌-◌, ◌≤◌, ◌<◌, false, List, Result, Ok, Err, sym, subst, inl, inr, ◌⊎◌, arith}
use Rattle.jr_base.specs.declared.number.Span.{Span}
use Rattle.jr_base.specs.declared.refusal.Refusal.{Refusal}
use Rattle.jr_base.specs.declared.refusal.Refusal.TheVariants as refusal
use Rattle.jr_base.specs.declared.refusal.Fail.{Fail}
use Rattle.jr_base.specs.declared.refusal.Fail.TheVariants.{Memory, Refused}
use Rattle.jr_lexer.specs.Token.{Token}
use Rattle.jr_ast.specs.declared.expr.Expr.{Expr as ExprTree}
use Rattle.jr_ast.specs.Expressions.{Expr, view_expr}
use Rattle.jr_reading.specs.Seen.{seen}
use Rattle.jr_expr_parser.specs.Nesting.{nesting}
use Rattle.jr_expr_parser.specs.Grammar.{Stands}
use Rattle.jr_expr_parser.specs.Answers as exprs
use Rattle.jr_reading.specs.LeftOut.{LeftOut}
use Rattle.jr_expr_parser.specs.declared.parsing.Level.TheVariants as level
use Rattle.jr_expr_parser.specs.BigLiteral.{is_head, Unnegated, BigLiteralFrom}
use Rattle.jr_expr_parser.proofs.Free.{begins_free}
use Rattle.jr_jml_parser.specs.Grammar.{SpellsAssert}
use Rattle.jr_jml_parser.specs.Nesting.{assert_nesting}
use Rattle.jr_jml_parser.specs.Answers as clauses
use Rattle.jr_jml_parser.proofs.Whole.{one_assert, assert_advances}
use Rattle.jr_stmt_parser.specs.Answers.{LeftOutFrom, BigLiteralIn}
use Rattle.jr_stmt_parser.specs.Gives.{Piece, Found, Refuses, Fails, NoLabel, Gives}
use Rattle.jr_stmt_parser.specs.Pieces.{Fronts, Value, Factor, String, Asserted}
use Rattle.jr_stmt_parser.proofs.Given.{one_tree, advances}

-- an expression of a level
abbrev pub Leaf : List Token → ℕ → ℕ → Piece Expr
Leaf ts level depth l i e j = Stands false ts level i e j × (depth + nesting e ≤ l)

left_out : (ts : List Token) (i : ℕ) (s : Span) → LeftOut ts i s → LeftOutFrom ts NoLabel i s
left_out ts i s x = record { at = x.at; behind = x.behind; span = x.span; word = inl x.word }

big : (ts : List Token) (i : ℕ) (s : Span) → Fronts ts i → BigLiteralFrom false ts i s → BigLiteralIn ts i s
big ts i s front x = inl (record { at = x.at; behind = x.behind; span = x.span; literal = x.literal; number = x.number; before = go x.before })
  where
    go : (x.at ≡ i) ⊎ (is_head (seen false ts (i - 1)) ≡ false → Unnegated false ts x.at) → Unnegated false ts x.at
    go (inl e) = subst (Unnegated false ts) (sym e) (begins_free false ts i front).0
    go (inr y) = y (begins_free false ts i front).1

refused : (ts : List Token) (level depth i : ℕ) (r : Refusal) → Fronts ts i → exprs.Refuses false ts level i depth r → Refuses NoLabel ts depth (Leaf ts level depth) i r
refused ts level depth i (refusal.Syntax s) front h = λ l y m p. h y m p.0
refused ts level depth i (refusal.NotInProfile s) front h = (λ l y m p. h.0 y m p.0, left_out ts i s h.1)
refused ts level depth i (refusal.BigLiteral s) front h = (λ l y m p. h.0 y m p.0, big ts i s front h.1)
refused ts level depth i (refusal.TooDeep s) front h = (λ y m p. h.0 y m p.0 p.1, h.1)
refused ts level depth i _ front h = absurd h

fails : (ts : List Token) (level depth i : ℕ) (f : Fail) → Fronts ts i → exprs.Fails false ts level i depth f → Fails NoLabel ts depth (Leaf ts level depth) i f
fails ts level depth i Memory front h = record { why = tt }
fails ts level depth i (Refused r) front h = record { why = refused ts level depth i r front h }

pub stands : {ts : List Token} {level : ℕ} (depth : ℕ) {i : ℕ} {e : Expr} {j : ℕ} → Stands false ts level i e j → depth + nesting e ≤ 128 → Found (Leaf ts level depth) i e j
stands {ts = ts} {level = level} depth {i = i} {e = e} {j = j} s le = record {
  it = (s, le);
  on = omega (arith, (advances s.spelled).0);
  only = λ l y m p. one_tree false ts level i j m e y s p.0;
}

pub value_gives : (ts : List Token) (depth i : ℕ) (r : Result (ExprTree × ℕ) Fail) → Fronts ts i → exprs.Answers ts level.Any i depth r → Gives view_expr ts depth (Value ts depth) i r
value_gives ts depth i (Ok r) front h = stands depth h.stands h.shallow
value_gives ts depth i (Err f) front h = fails ts 1 depth i f front h

pub factor_gives : (ts : List Token) (depth i : ℕ) (r : Result (ExprTree × ℕ) Fail) → Fronts ts i → exprs.Answers ts level.Product i depth r → Gives view_expr ts depth (Factor ts depth) i r
factor_gives ts depth i (Ok r) front h = stands depth h.stands h.shallow
factor_gives ts depth i (Err f) front h = fails ts 15 depth i f front h

-- where nothing may nest
pub nests_too_deep : (ts : List Token) (level depth i : ℕ) (s : Span) → 128 < depth → Fails NoLabel ts depth (Leaf ts level depth) i (Refused (refusal.TooDeep s))
nests_too_deep ts level depth i s deep = record { why = (λ y m p. let le = p.1 in omega arith, omega arith) }

pub string_too_deep : (ts : List Token) (depth i : ℕ) (s : Span) → 128 < depth → Fails NoLabel ts depth (String ts depth) i (Refused (refusal.TooDeep s))
string_too_deep ts depth i s deep = record { why = (λ y m p. let le = p.1 in omega arith, omega arith) }

-- ---- an `assert` of JML, above which one construct fewer stands than above what it holds

assert_refused : (ts : List Token) (depth i : ℕ) (r : Refusal) → 0 < depth → clauses.Refuses (SpellsAssert ts i) assert_nesting ts i (depth - 1) r → Refuses NoLabel ts depth (Asserted ts depth) i r
assert_refused ts depth i (refusal.Syntax s) above h = λ l y m p. h y m p.0
assert_refused ts depth i (refusal.NotInProfile s) above h = (λ l y m p. h.0 y m p.0, left_out ts i s h.1)
assert_refused ts depth i (refusal.BigLiteral s) above h = (λ l y m p. h.0 y m p.0, inr h.1)
assert_refused ts depth i (refusal.TooDeep s) above h = (λ y m p. h.0 y m p.0 (omega (arith, p.1)), omega (arith, h.1))
assert_refused ts depth i _ above h = absurd h

pub assert_fails : (ts : List Token) (depth i : ℕ) (f : Fail) → 0 < depth → clauses.Fails (SpellsAssert ts i) assert_nesting ts i (depth - 1) f → Fails NoLabel ts depth (Asserted ts depth) i f
assert_fails ts depth i Memory above h = record { why = tt }
assert_fails ts depth i (Refused r) above h = record { why = assert_refused ts depth i r above h }

pub assert_found : (ts : List Token) (depth : ℕ) {i : ℕ} {e : Expr} {j : ℕ} → 0 < depth → clauses.Fits (SpellsAssert ts i) assert_nesting (depth - 1) e j → Found (Asserted ts depth) i e j
assert_found ts depth above h = record {
  it = (h.stands, omega (arith, h.shallow));
  on = omega (arith, (assert_advances h.stands).0);
  only = λ l y m p. one_assert h.stands p.0;
}
