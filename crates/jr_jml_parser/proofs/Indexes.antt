-- Indexes of tokens.
use Rattle.std.proofs.Common.{◌≡◌, ℕ, suc, ◌+◌, ◌-◌, ◌<◌, ◌≤◌, Bool, true, false, List, length, refl, sym, ap, ◌∙◌, subst, inl, arith}
use Rattle.std.specs.Prelude.{◌≢◌, Option, Some, None, slice_get}
use Rattle.std.proofs.lemmas.Option.{slice_get_within}
use Rattle.jr_lexer.specs.declared.kind.Kind.{Kind}
use Rattle.jr_lexer.specs.declared.kind.Kind.TheVariants as k
use Rattle.jr_lexer.specs.Token.{Token}
use Rattle.jr_lexer.specs.Reading.{is_jml, kind_at, jml_at}
use Rattle.jr_expr_parser.specs.BigLiteral.{is_head}
use Rattle.jr_expr_parser.specs.Operators.{reach}
use Rattle.jr_reading.specs.Seen.{seen, seen_as}
use Rattle.jr_reading.specs.Within.{Within}
use Rattle.jr_reading.proofs.Tokens.{seen_taken}
use Rattle.jr_expr_parser.specs.Grammar.{Ends}
use Rattle.jr_expr_parser.specs.Nesting.{nesting}
use Rattle.jr_expr_parser.proofs.Tokens as tokens
use Rattle.jr_ast.specs.Expressions.{Expr}
use Rattle.jr_jml_parser.specs.Grammar.{Expression}
use Rattle.jr_jml_parser.specs.Parts.{Starts}

pub within_is : (kind : Kind) (at : ℕ) → kind ≢ k.End → Within kind at → at < 1048576
within_is k.End at other w = absurd (other refl)
within_is _ at other w = w

pub seen_jml : (ts : List Token) (at : ℕ) → jml_at ts at ≡ true → kind_at ts at ≡ seen true ts at
unfolding seen
seen_jml ts at h = sym (ap (λ (b : Bool). seen_as true b (kind_at ts at)) h)

jml_some : (ts : List Token) (at : ℕ) (o : Option Token) → slice_get ts at ≡ o → is_jml o ≡ true → at < length ts
jml_some ts at None e h = absurd cc
jml_some ts at (Some t) e h = slice_get_within ts at t e

-- an annotation's token stands within the list
pub jml_inside : (ts : List Token) (at : ℕ) → jml_at ts at ≡ true → at < length ts
jml_inside ts at h = jml_some ts at (slice_get ts at) refl h

-- a token that is seen stands within the list
pub seen_inside : (ts : List Token) (at : ℕ) (kind : Kind) → seen true ts at ≡ kind → kind ≢ k.End → at < length ts
seen_inside ts at kind e h = seen_taken true ts at (λ end. h (sym e ∙ end))

pub semicolon_ends : (ts : List Token) (at : ℕ) → seen true ts at ≡ k.Semicolon → Ends true ts 2 at
semicolon_ends ts at h = subst (λ (x : Kind). reach x < 2) (sym h) (omega arith)

pub comma_ends : (ts : List Token) (at : ℕ) → seen true ts at ≡ k.Comma → Ends true ts 2 at
comma_ends ts at h = subst (λ (x : Kind). reach x < 2) (sym h) (omega arith)

-- what stands behind another token than `-` isn't negated
pub behind_other : (ts : List Token) (at : ℕ) (kind : Kind) → seen true ts at ≡ kind → kind ≢ k.Minus → is_head kind ≡ false → Starts ts (at + 1)
behind_other ts at kind e h outside =
    let same : at + 1 - 1 ≡ at = omega arith in
    let before : seen true ts (at + 1 - 1) ≡ kind = ap (seen true ts) same ∙ e in
    record { negated = inl (inl (λ x. h (sym before ∙ x))); outside = ap is_head before ∙ outside }

-- an expression takes a token more than it nests, and ends within the list
pub advances : {ts : List Token} {i j : ℕ} {e : Expr} → Expression ts i e j → (i + suc (nesting e) ≤ j) × (j ≤ length ts)
advances {ts = ts} s = tokens.advances true ts s
