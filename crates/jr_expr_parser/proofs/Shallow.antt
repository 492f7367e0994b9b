-- What is read nests within the room.
use Rattle.std.proofs.Common.{◌≡◌, ℕ, zero, suc, ◌<◌, ◌≤◌, Bool, List, Result, Ok, Err, subst}
use Rattle.std.specs.Prelude.{IfOk}
use Rattle.jr_base.specs.declared.refusal.Fail.{Fail}
use Rattle.jr_lexer.specs.Token.{Token}
use Rattle.jr_ast.specs.Expressions.{Expr}
use Rattle.jr_expr_parser.specs.declared.read.Read.{Read}
use Rattle.jr_expr_parser.specs.Nesting.{nesting}
use Rattle.jr_reading.specs.Outcomes.{Outcome}
use Rattle.jr_expr_parser.specs.Reader.{nested}
use Rattle.jr_expr_parser.proofs.Causes.{Good, Spelt}
use Rattle.jr_expr_parser.proofs.Sound.{read_good}
use Rattle.jr_expr_parser.specs.Nests.{Reads, view_read}

shallow_by : (jml : Bool) (ts : List Token) (room q l i : ℕ) (o : Outcome Expr) (x : Expr × ℕ) → o ≡ Ok x → Good jml ts (Spelt jml ts room q l i) room i o → nesting x.0 < room
shallow_by jml ts room q l i (Ok y) x e h = let same : y ≡ x = cc in subst (λ (y : Expr × ℕ). nesting y.0 < room) same h.1
shallow_by jml ts room q l i (Err f) x e h = absurd cc

pub shallow : (jml : Bool) (ts : List Token) (room q l i : ℕ) (x : Expr × ℕ) → l ≤ 16 → nested jml ts room q l i ≡ Ok x → nesting x.0 < room
unfolding nested
shallow jml ts zero q l i x low e = absurd cc
shallow jml ts (suc room) q l i x low e = shallow_by jml ts (suc room) q l i _ x e (read_good jml ts room q l i low)

pub reads_shallow : (jml : Bool) (ts : List Token) (room q l i : ℕ) (r : Result (Read × ℕ) Fail) → l ≤ 16 → Reads (nested jml ts room q l i) r → IfOk r (λ r. nesting (view_read r.0) < room)
reads_shallow jml ts room q l i (Ok x) low h = shallow jml ts room q l i (view_read x.0, x.1) low h
reads_shallow jml ts room q l i (Err f) low h = tt
