-- `assert`, and which kind of clause stands at an index.
use Rattle.std.proofs.Common.{◌≡◌, ℕ, ◌+◌, ◌<◌, true, false, List, length, refl, sym, ap, ◌∙◌, subst, inl, inr, arith}
use Rattle.std.specs.Prelude.{◌≢◌, ◌⊎◌, Result, Ok, Err}
use Rattle.jr_base.specs.declared.number.Span.{Span}
use Rattle.jr_base.specs.declared.refusal.Refusal.TheVariants as refusal
use Rattle.jr_base.specs.declared.refusal.Fail.{Fail}
use Rattle.jr_base.specs.declared.refusal.Fail.TheVariants.{Refused}
use Rattle.jr_lexer.specs.declared.kind.Kind.{Kind}
use Rattle.jr_lexer.specs.declared.kind.Kind.TheVariants as k
use Rattle.jr_lexer.specs.Token.{Token}
use Rattle.jr_lexer.specs.Reading.{span_at}
use Rattle.jr_ast.specs.declared.expr.SpecExpr.{SpecExpr}
use Rattle.jr_ast.specs.Expressions.{Expr, view_spec}
use Rattle.jr_ast.specs.Clauses.{MethodClause, ClassClause, Clause}
use Rattle.jr_ast.specs.Clauses as c
use Rattle.jr_reading.specs.Seen.{seen}
use Rattle.jr_reading.specs.Limits.{nesting_limit}
use Rattle.jr_expr_parser.specs.Nesting.{nesting}
use Rattle.jr_jml_parser.specs.Grammar.{Condition, SpellsMethod, SpellsClass, SpellsAssert, asserts, SpellsClause, of_method, of_class, assertion}
use Rattle.jr_jml_parser.specs.Nesting.{method_nesting, class_nesting, assert_nesting, clause_nesting}
use Rattle.jr_jml_parser.specs.Answers.{Refuses, Fails, Fits, AnswersAssert}
use Rattle.jr_reading.specs.Steps.{refusal_at}
use Rattle.jr_jml_parser.specs.Takes.{Taken}
use Rattle.jr_jml_parser.specs.Parts.{is_modifier, AnswersCondition, Starts}
use Rattle.jr_jml_parser.proofs.Indexes.{behind_other, seen_inside}
use Rattle.jr_jml_parser.proofs.Refusals.{of_part, refused}
use Rattle.jr_jml_parser.proofs.Methods.{method_word, method_starts, no_method, no_method_word}
use Rattle.jr_jml_parser.proofs.Classes.{class_word, class_starts}

pub assert_starts : {ts : List Token} {i j : ℕ} {e : Expr} → SpellsAssert ts i e j → seen true ts i ≡ k.Assert
assert_starts (asserts h d) = h

pub assert_in : {ts : List Token} {i j : ℕ} {e : Expr} → SpellsAssert ts i e j → Condition ts (i + 1) e j
assert_in (asserts h d) = d

pub assert_open : (ts : List Token) (i depth : ℕ) (f : Fail) → seen true ts i ≢ k.Assert → f ≡ Refused (refusal_at ts i) → Fails (SpellsAssert ts i) assert_nesting ts i depth f
assert_open ts i depth f other is = refused (SpellsAssert ts i) assert_nesting ts i i depth f (omega arith) (λ e j s. other (assert_starts s)) is

inside : (ts : List Token) (i m : ℕ) → Taken k.Assert ts i m → i < length ts
inside ts i m t = seen_inside ts i k.Assert t.is (λ e. cc)

-- below the limit stands no statement that holds anything
pub assert_deep : (ts : List Token) (i m depth : ℕ) (s : Span) → depth ≡ nesting_limit → Taken k.Assert ts i m → Refuses (SpellsAssert ts i) assert_nesting ts i depth (refusal.TooDeep s)
assert_deep ts i m depth s e t = ((λ a j w l. omega arith), omega (arith, inside ts i m t))

pub assert_start : (ts : List Token) (i m : ℕ) → Taken k.Assert ts i m → Starts ts m
assert_start ts i m t = subst (Starts ts) (sym t.next) (behind_other ts i k.Assert t.is (λ x. cc) refl)

pub assert_answers : (ts : List Token) (i m depth : ℕ) (result : Result (SpecExpr × ℕ) Fail) → Taken k.Assert ts i m → AnswersCondition ts m (depth + 1) result → AnswersAssert ts i depth result
assert_answers ts i m depth (Ok r) t w = record { stands = asserts t.is (subst (λ (x : ℕ). Condition ts x (view_spec r.0) r.1) t.next w.stands); shallow = omega (arith, w.shallow) }
assert_answers ts i m depth (Err f) t w =
    of_part (Condition ts m) nesting (SpellsAssert ts i) assert_nesting ts i m (depth + 1) depth f (omega (arith, t.next)) (omega (arith, t.next, inside ts i m t))
    (λ e j s. (e, j, subst (λ (x : ℕ). Condition ts x e j) (sym t.next) (assert_in s), omega arith)) w

-- ---- which kind of clause stands at an index

class_no_method : (x : Kind) → method_word x ≡ true → (is_modifier x ≡ true) ⊎ (class_word x ≡ true) → ⊥
class_no_method k.Requires m (inl h) = cc
class_no_method k.Requires m (inr h) = cc
class_no_method k.Ensures m (inl h) = cc
class_no_method k.Ensures m (inr h) = cc
class_no_method k.When m (inl h) = cc
class_no_method k.When m (inr h) = cc
class_no_method k.Locks m (inl h) = cc
class_no_method k.Locks m (inr h) = cc
class_no_method k.Assignable m (inl h) = cc
class_no_method k.Assignable m (inr h) = cc
class_no_method k.Modifies m (inl h) = cc
class_no_method k.Modifies m (inr h) = cc
class_no_method _ m h = let e : true ≡ false = sym m in cc

class_no_assert : (x : Kind) → x ≡ k.Assert → (is_modifier x ≡ true) ⊎ (class_word x ≡ true) → ⊥
class_no_assert x e (inl h) = let y : true ≡ false = sym h ∙ ap is_modifier e in cc
class_no_assert x e (inr h) = let y : true ≡ false = sym h ∙ ap class_word e in cc

method_no_assert : (x : Kind) → x ≡ k.Assert → method_word x ≡ true → ⊥
method_no_assert x e h = let y : true ≡ false = sym h ∙ ap method_word e in cc

pub only_method : {ts : List Token} {i j : ℕ} {a : Clause} → method_word (seen true ts i) ≡ true → SpellsClause ts i a j → (b : MethodClause) × (a ≡ c.OfMethod b) × SpellsMethod ts i b j
only_method h (of_method {a = b} s) = (b, refl, s)
only_method {ts = ts} h (of_class {i = i} s) = absurd (class_no_method (seen true ts i) h (class_starts s))
only_method {ts = ts} h (assertion {i = i} s) = absurd (method_no_assert (seen true ts i) (assert_starts s) h)

pub only_assert : {ts : List Token} {i j : ℕ} {a : Clause} → seen true ts i ≡ k.Assert → SpellsClause ts i a j → (e : Expr) × (a ≡ c.Assert (span_at ts i) e) × SpellsAssert ts i e j
only_assert {ts = ts} h (of_method {i = i} s) = absurd (method_no_assert (seen true ts i) h (method_starts s))
only_assert {ts = ts} h (of_class {i = i} s) = absurd (class_no_assert (seen true ts i) h (class_starts s))
only_assert h (assertion {e = e} s) = (e, refl, s)

pub only_class : {ts : List Token} {i j : ℕ} {a : Clause} → method_word (seen true ts i) ≡ false → seen true ts i ≢ k.Assert → SpellsClause ts i a j → (b : ClassClause) × (a ≡ c.OfClass b) × SpellsClass ts i b j
only_class h g (of_method s) = absurd (no_method h s)
only_class h g (of_class {a = b} s) = (b, refl, s)
only_class h g (assertion s) = absurd (g (assert_starts s))

-- beside a clause of a class stands no other
pub only_classes : {ts : List Token} {i j m : ℕ} {a : Clause} {b : ClassClause} → SpellsClass ts i b m → SpellsClause ts i a j → (d : ClassClause) × (a ≡ c.OfClass d) × SpellsClass ts i d j
only_classes {ts = ts} s (of_method {i = i} t) = absurd (class_no_method (seen true ts i) (method_starts t) (class_starts s))
only_classes s (of_class {a = d} t) = (d, refl, t)
only_classes {ts = ts} s (assertion {i = i} t) = absurd (class_no_assert (seen true ts i) (assert_starts t) (class_starts s))

pub method_failed : (ts : List Token) (i depth : ℕ) (f : Fail) → method_word (seen true ts i) ≡ true → Fails (SpellsMethod ts i) method_nesting ts i depth f → Fails (SpellsClause ts i) clause_nesting ts i depth f
method_failed ts i depth f h = of_part (SpellsMethod ts i) method_nesting (SpellsClause ts i) clause_nesting ts i i depth depth f (omega arith) (omega arith)
    (λ a j s. let q = only_method h s in (q.0, j, q.2, omega (arith, ap clause_nesting q.1)))

pub assert_failed : (ts : List Token) (i depth : ℕ) (f : Fail) → k.Assert ≡ seen true ts i → Fails (SpellsAssert ts i) assert_nesting ts i depth f → Fails (SpellsClause ts i) clause_nesting ts i depth f
assert_failed ts i depth f h = of_part (SpellsAssert ts i) assert_nesting (SpellsClause ts i) clause_nesting ts i i depth depth f (omega arith) (omega arith)
    (λ a j s. let q = only_assert (sym h) s in (q.0, j, q.2, omega (arith, ap clause_nesting q.1)))

pub class_failed : (ts : List Token) (i depth : ℕ) (f : Fail) → method_word (seen true ts i) ≡ false → seen true ts i ≢ k.Assert → Fails (SpellsClass ts i) class_nesting ts i depth f → Fails (SpellsClause ts i) clause_nesting ts i depth f
class_failed ts i depth f h g = of_part (SpellsClass ts i) class_nesting (SpellsClause ts i) clause_nesting ts i i depth depth f (omega arith) (omega arith)
    (λ a j s. let q = only_class h g s in (q.0, j, q.2, omega (arith, ap clause_nesting q.1)))

pub method_fits : (ts : List Token) (i j depth : ℕ) (a : MethodClause) → Fits (SpellsMethod ts i) method_nesting depth a j → Fits (SpellsClause ts i) clause_nesting depth (c.OfMethod a) j
method_fits ts i j depth a w = record { stands = of_method w.stands; shallow = w.shallow }

pub assert_fits : (ts : List Token) (i j depth : ℕ) (e : Expr) → Fits (SpellsAssert ts i) assert_nesting depth e j → Fits (SpellsClause ts i) clause_nesting depth (c.Assert (span_at ts i) e) j
assert_fits ts i j depth e w = record { stands = assertion w.stands; shallow = w.shallow }

pub class_fits : (ts : List Token) (i j depth : ℕ) (a : ClassClause) → Fits (SpellsClass ts i) class_nesting depth a j → Fits (SpellsClause ts i) clause_nesting depth (c.OfClass a) j
class_fits ts i j depth a w = record { stands = of_class w.stands; shallow = w.shallow }

-- the steps of the functions that read them
pub ruleset clause_steps = (no_method_word, method_failed, assert_failed, class_failed)

pub ruleset assert_steps = (assert_open, assert_deep, assert_start, assert_answers)
