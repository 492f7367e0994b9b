-- How the refusal of a part is that of the whole.
use Rattle.std.proofs.Common.{◌≡◌, ℕ, ◌+◌, ◌-◌, ◌≤◌, true, false, List, length, refl, sym, subst, inl, inr, arith}
use Rattle.std.specs.Prelude.{◌⊎◌}
use Rattle.jr_base.specs.declared.number.Span.{Span}
use Rattle.jr_base.specs.declared.refusal.Refusal.{Refusal}
use Rattle.jr_base.specs.declared.refusal.Refusal.TheVariants as refusal
use Rattle.jr_base.specs.declared.refusal.Fail.{Fail}
use Rattle.jr_base.specs.declared.refusal.Fail.TheVariants.{Memory, Refused}
use Rattle.jr_lexer.specs.Token.{Token}
use Rattle.jr_ast.specs.Expressions.{Expr}
use Rattle.jr_reading.specs.Seen.{seen}
use Rattle.jr_expr_parser.specs.Nesting.{nesting}
use Rattle.jr_reading.specs.Answers.{Nothing}
use Rattle.jr_expr_parser.specs.BigLiteral.{is_head, Unnegated, BigLiteralFrom}
use Rattle.jr_expr_parser.specs.Grammar.{Stands}
use Rattle.jr_reading.specs.LeftOut.{LeftOut}
use Rattle.jr_expr_parser.specs.Answers as expr
use Rattle.jr_jml_parser.specs.Answers.{Refuses, Fails, BigInClause, NotNegated}
use Rattle.jr_jml_parser.specs.Parts.{Starts}
use Rattle.jr_reading.specs.Steps.{refusal_at}
use Rattle.jr_reading.proofs.Told as told

left_out_before : {ts : List Token} {i k : ℕ} {s : Span} → i ≤ k → LeftOut ts k s → LeftOut ts i s
left_out_before b h = record { at = h.at; behind = omega (arith, h.behind); span = h.span; word = h.word }

big_before : {ts : List Token} {i k : ℕ} {s : Span} → i ≤ k → BigInClause ts k s → BigInClause ts i s
big_before b h = record { at = h.at; behind = omega (arith, h.behind); span = h.span; literal = h.literal; number = h.number; before = h.before }

not_negated : (ts : List Token) (i at : ℕ) → Starts ts i → (at ≡ i) ⊎ (is_head (seen true ts (i - 1)) ≡ false → Unnegated true ts at) → NotNegated ts at
not_negated ts i at n (inl e) = subst (NotNegated ts) (sym e) n.negated
not_negated ts i at n (inr h) = inl (h n.outside)

big_of : {ts : List Token} {i k : ℕ} {s : Span} → i ≤ k → Starts ts k → BigLiteralFrom true ts k s → BigInClause ts i s
big_of {ts = ts} {k = k} b n h = record { at = h.at; behind = omega (arith, h.behind); span = h.span; literal = h.literal; number = h.number; before = not_negated ts k h.at n h.before }

-- The refusal of an expression at a later index is one of the whole, where each whole has an expression there
-- that nests no deeper.
pub of_expression : {A : Type 0} (S : A → ℕ → Type 0) (n : A → ℕ) (ts : List Token) (i k d depth : ℕ) (f : Fail)
    → i ≤ k → d + (length ts - k) ≤ depth + (length ts - i) → Starts ts k
    → ((a : A) (j : ℕ) → S a j → (e : Expr) × (m : ℕ) × Stands true ts 2 k e m × (d + nesting e ≤ depth + n a))
    → expr.Fails true ts 2 k d f → Fails S n ts i depth f
of_expression S n ts i k d depth Memory b t s p h = tt
of_expression S n ts i k d depth (Refused (refusal.Syntax x)) b t s p h = λ a j w. let q = p a j w in h q.0 q.1 q.2
of_expression S n ts i k d depth (Refused (refusal.NotInProfile x)) b t s p h = ((λ a j w. let q = p a j w in h.0 q.0 q.1 q.2), left_out_before b h.1)
of_expression S n ts i k d depth (Refused (refusal.BigLiteral x)) b t s p h = ((λ a j w. let q = p a j w in h.0 q.0 q.1 q.2), big_of b s h.1)
of_expression S n ts i k d depth (Refused (refusal.TooDeep x)) b t s p h = ((λ a j w l. let q = p a j w in h.0 q.0 q.1 q.2 (omega (arith, q.3))), omega (arith, h.1))
of_expression S n ts i k d depth (Refused _) b t s p h = h

-- likewise of any part
pub of_part : {A B : Type 0} (P : B → ℕ → Type 0) (o : B → ℕ) (S : A → ℕ → Type 0) (n : A → ℕ) (ts : List Token) (i k d depth : ℕ) (f : Fail)
    → i ≤ k → d + (length ts - k) ≤ depth + (length ts - i)
    → ((a : A) (j : ℕ) → S a j → (b : B) × (m : ℕ) × P b m × (d + o b ≤ depth + n a))
    → Fails P o ts k d f → Fails S n ts i depth f
of_part P o S n ts i k d depth Memory b t p h = tt
of_part P o S n ts i k d depth (Refused (refusal.Syntax x)) b t p h = λ a j w. let q = p a j w in h q.0 q.1 q.2
of_part P o S n ts i k d depth (Refused (refusal.NotInProfile x)) b t p h = ((λ a j w. let q = p a j w in h.0 q.0 q.1 q.2), left_out_before b h.1)
of_part P o S n ts i k d depth (Refused (refusal.BigLiteral x)) b t p h = ((λ a j w. let q = p a j w in h.0 q.0 q.1 q.2), big_before b h.1)
of_part P o S n ts i k d depth (Refused (refusal.TooDeep x)) b t p h = ((λ a j w l. let q = p a j w in h.0 q.0 q.1 q.2 (omega (arith, q.3))), omega (arith, h.1))
of_part P o S n ts i k d depth (Refused _) b t p h = h

-- where nothing stands, each token behind may be named
pub refused_at : {A : Type 0} (S : A → ℕ → Type 0) (n : A → ℕ) (ts : List Token) (i k depth : ℕ) (r : Refusal)
    → i ≤ k → Nothing S → r ≡ refusal_at ts k → Refuses S n ts i depth r
refused_at S n ts i k depth r b none e =
    subst (Refuses S n ts i depth) (sym e) (told.refused_at (Refuses S n ts i depth) ts k (λ s. none)
    (λ j on w. (none, record { at = j; behind = omega (arith, b, on); span = refl; word = inl w })))

pub refused : {A : Type 0} (S : A → ℕ → Type 0) (n : A → ℕ) (ts : List Token) (i k depth : ℕ) (f : Fail)
    → i ≤ k → Nothing S → f ≡ Refused (refusal_at ts k) → Fails S n ts i depth f
refused S n ts i k depth f b none e = subst (Fails S n ts i depth) (sym e) (refused_at S n ts i k depth (refusal_at ts k) b none refl)
