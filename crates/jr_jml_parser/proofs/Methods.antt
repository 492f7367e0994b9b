-- Clauses of methods.
use Rattle.std.proofs.Common.{◌≡◌, ℕ, ◌+◌, ◌≤◌, Bool, true, false, List, refl, sym, ap, ◌∙◌, subst, arith}
use Rattle.std.specs.Prelude.{◌≢◌}
use Rattle.jr_base.specs.declared.refusal.Refusal.{Refusal}
use Rattle.jr_base.specs.declared.refusal.Fail.{Fail}
use Rattle.jr_lexer.specs.declared.kind.Kind.{Kind}
use Rattle.jr_lexer.specs.declared.kind.Kind.TheVariants as k
use Rattle.jr_lexer.specs.Token.{Token}
use Rattle.jr_lexer.specs.Reading.{span_at}
use Rattle.jr_ast.specs.Expressions.{Expr}
use Rattle.jr_ast.specs.Clauses.{MethodClause}
use Rattle.jr_ast.specs.Clauses as c
use Rattle.jr_reading.specs.Seen.{seen}
use Rattle.jr_reading.specs.Limits.{nesting_limit}
use Rattle.jr_expr_parser.specs.Nesting.{nesting}
use Rattle.jr_jml_parser.specs.Grammar.{Condition, Objects, Anything, SpellsMethod, requires, ensures, when, locks, assignable, modifies}
use Rattle.jr_jml_parser.specs.Nesting.{deepest, method_nesting}
use Rattle.jr_jml_parser.specs.Answers.{Refuses, Fails, Fits}
use Rattle.jr_reading.specs.Steps.{refusal_at}
use Rattle.jr_jml_parser.specs.Parts.{Reaches, flat}
use Rattle.jr_jml_parser.proofs.Indexes.{behind_other}
use Rattle.jr_jml_parser.proofs.Refusals.{of_part, refused_at}

-- what stands behind a word, where it begins a clause of a method
abbrev MethodBy : List Token → ℕ → Kind → MethodClause → ℕ → Type 0
MethodBy ts i k.Requires a j = (e : Expr) × (a ≡ c.Requires (span_at ts i) e) × Condition ts (i + 1) e j
MethodBy ts i k.Ensures a j = (e : Expr) × (a ≡ c.Ensures (span_at ts i) e) × Condition ts (i + 1) e j
MethodBy ts i k.When a j = (e : Expr) × (a ≡ c.When (span_at ts i) e) × Condition ts (i + 1) e j
MethodBy ts i k.Locks a j = (es : List Expr) × (a ≡ c.Locks (span_at ts i) es) × Objects ts (i + 1) es j
MethodBy ts i k.Assignable a j = (a ≡ c.Assignable (span_at ts i)) × Anything ts (i + 1) j
MethodBy ts i k.Modifies a j = (a ≡ c.Modifies (span_at ts i)) × Anything ts (i + 1) j
MethodBy ts i _ a j = ⊥

method_by : {ts : List Token} {i j : ℕ} {a : MethodClause} → SpellsMethod ts i a j → MethodBy ts i (seen true ts i) a j
method_by {ts = ts} (requires {i = i} {j = j} {e = e} h d) = subst (λ (x : Kind). MethodBy ts i x (c.Requires (span_at ts i) e) j) (sym h) (e, refl, d)
method_by {ts = ts} (ensures {i = i} {j = j} {e = e} h d) = subst (λ (x : Kind). MethodBy ts i x (c.Ensures (span_at ts i) e) j) (sym h) (e, refl, d)
method_by {ts = ts} (when {i = i} {j = j} {e = e} h d) = subst (λ (x : Kind). MethodBy ts i x (c.When (span_at ts i) e) j) (sym h) (e, refl, d)
method_by {ts = ts} (locks {i = i} {j = j} {es = es} h d) = subst (λ (x : Kind). MethodBy ts i x (c.Locks (span_at ts i) es) j) (sym h) (es, refl, d)
method_by {ts = ts} (assignable {i = i} {j = j} h d) = subst (λ (x : Kind). MethodBy ts i x (c.Assignable (span_at ts i)) j) (sym h) (refl, d)
method_by {ts = ts} (modifies {i = i} {j = j} h d) = subst (λ (x : Kind). MethodBy ts i x (c.Modifies (span_at ts i)) j) (sym h) (refl, d)

pub by_word : (ts : List Token) (i j : ℕ) (a : MethodClause) (x : Kind) → x ≡ seen true ts i → SpellsMethod ts i a j → MethodBy ts i x a j
by_word ts i j a x h s = subst (λ (y : Kind). MethodBy ts i y a j) (sym h) (method_by s)

-- ---- the part behind the word is refused, or fits

pub requires_failed : (ts : List Token) (i depth : ℕ) (f : Fail) → k.Requires ≡ seen true ts i → Fails (Condition ts (i + 1)) nesting ts (i + 1) depth f → Fails (SpellsMethod ts i) method_nesting ts i depth f
requires_failed ts i depth f h = of_part (Condition ts (i + 1)) nesting (SpellsMethod ts i) method_nesting ts i (i + 1) depth depth f (omega arith) (omega arith)
    (λ a j s. let q = by_word ts i j a k.Requires h s in (q.0, j, q.2, omega (arith, ap method_nesting q.1)))

pub ensures_failed : (ts : List Token) (i depth : ℕ) (f : Fail) → k.Ensures ≡ seen true ts i → Fails (Condition ts (i + 1)) nesting ts (i + 1) depth f → Fails (SpellsMethod ts i) method_nesting ts i depth f
ensures_failed ts i depth f h = of_part (Condition ts (i + 1)) nesting (SpellsMethod ts i) method_nesting ts i (i + 1) depth depth f (omega arith) (omega arith)
    (λ a j s. let q = by_word ts i j a k.Ensures h s in (q.0, j, q.2, omega (arith, ap method_nesting q.1)))

pub when_failed : (ts : List Token) (i depth : ℕ) (f : Fail) → k.When ≡ seen true ts i → Fails (Condition ts (i + 1)) nesting ts (i + 1) depth f → Fails (SpellsMethod ts i) method_nesting ts i depth f
when_failed ts i depth f h = of_part (Condition ts (i + 1)) nesting (SpellsMethod ts i) method_nesting ts i (i + 1) depth depth f (omega arith) (omega arith)
    (λ a j s. let q = by_word ts i j a k.When h s in (q.0, j, q.2, omega (arith, ap method_nesting q.1)))

pub locks_failed : (ts : List Token) (i depth : ℕ) (f : Fail) → k.Locks ≡ seen true ts i → Fails (Objects ts (i + 1)) deepest ts (i + 1) depth f → Fails (SpellsMethod ts i) method_nesting ts i depth f
locks_failed ts i depth f h = of_part (Objects ts (i + 1)) deepest (SpellsMethod ts i) method_nesting ts i (i + 1) depth depth f (omega arith) (omega arith)
    (λ a j s. let q = by_word ts i j a k.Locks h s in (q.0, j, q.2, omega (arith, ap method_nesting q.1)))

pub assignable_failed : (ts : List Token) (i depth : ℕ) (f : Fail) → k.Assignable ≡ seen true ts i → Fails (Reaches (Anything ts (i + 1))) flat ts (i + 1) 0 f → Fails (SpellsMethod ts i) method_nesting ts i depth f
assignable_failed ts i depth f h = of_part (Reaches (Anything ts (i + 1))) flat (SpellsMethod ts i) method_nesting ts i (i + 1) 0 depth f (omega arith) (omega arith)
    (λ a j s. let q = by_word ts i j a k.Assignable h s in (tt, j, q.1, omega arith))

pub modifies_failed : (ts : List Token) (i depth : ℕ) (f : Fail) → k.Modifies ≡ seen true ts i → Fails (Reaches (Anything ts (i + 1))) flat ts (i + 1) 0 f → Fails (SpellsMethod ts i) method_nesting ts i depth f
modifies_failed ts i depth f h = of_part (Reaches (Anything ts (i + 1))) flat (SpellsMethod ts i) method_nesting ts i (i + 1) 0 depth f (omega arith) (omega arith)
    (λ a j s. let q = by_word ts i j a k.Modifies h s in (tt, j, q.1, omega arith))

pub requires_fits : (ts : List Token) (i j depth : ℕ) (e : Expr) → k.Requires ≡ seen true ts i → Fits (Condition ts (i + 1)) nesting depth e j → Fits (SpellsMethod ts i) method_nesting depth (c.Requires (span_at ts i) e) j
requires_fits ts i j depth e h w = record { stands = requires (sym h) w.stands; shallow = w.shallow }

pub ensures_fits : (ts : List Token) (i j depth : ℕ) (e : Expr) → k.Ensures ≡ seen true ts i → Fits (Condition ts (i + 1)) nesting depth e j → Fits (SpellsMethod ts i) method_nesting depth (c.Ensures (span_at ts i) e) j
ensures_fits ts i j depth e h w = record { stands = ensures (sym h) w.stands; shallow = w.shallow }

pub when_fits : (ts : List Token) (i j depth : ℕ) (e : Expr) → k.When ≡ seen true ts i → Fits (Condition ts (i + 1)) nesting depth e j → Fits (SpellsMethod ts i) method_nesting depth (c.When (span_at ts i) e) j
when_fits ts i j depth e h w = record { stands = when (sym h) w.stands; shallow = w.shallow }

pub locks_fits : (ts : List Token) (i j depth : ℕ) (es : List Expr) → k.Locks ≡ seen true ts i → Fits (Objects ts (i + 1)) deepest depth es j → Fits (SpellsMethod ts i) method_nesting depth (c.Locks (span_at ts i) es) j
locks_fits ts i j depth es h w = record { stands = locks (sym h) w.stands; shallow = w.shallow }

pub assignable_fits : (ts : List Token) (i j depth : ℕ) → depth ≤ nesting_limit → k.Assignable ≡ seen true ts i → Anything ts (i + 1) j → Fits (SpellsMethod ts i) method_nesting depth (c.Assignable (span_at ts i)) j
assignable_fits ts i j depth d h w = record { stands = assignable (sym h) w; shallow = omega arith }

pub modifies_fits : (ts : List Token) (i j depth : ℕ) → depth ≤ nesting_limit → k.Modifies ≡ seen true ts i → Anything ts (i + 1) j → Fits (SpellsMethod ts i) method_nesting depth (c.Modifies (span_at ts i)) j
modifies_fits ts i j depth d h w = record { stands = modifies (sym h) w; shallow = omega arith }

-- ---- no such word

abbrev pub method_word : Kind → Bool
method_word k.Requires = true
method_word k.Ensures = true
method_word k.When = true
method_word k.Locks = true
method_word k.Assignable = true
method_word k.Modifies = true
method_word _ = false

pub method_starts : {ts : List Token} {i j : ℕ} {a : MethodClause} → SpellsMethod ts i a j → method_word (seen true ts i) ≡ true
method_starts (requires h d) = ap method_word h
method_starts (ensures h d) = ap method_word h
method_starts (when h d) = ap method_word h
method_starts (locks h d) = ap method_word h
method_starts (assignable h d) = ap method_word h
method_starts (modifies h d) = ap method_word h

pub no_method_word : (x : Kind) → x ≢ k.Requires → x ≢ k.Ensures → x ≢ k.When → x ≢ k.Locks → x ≢ k.Assignable → x ≢ k.Modifies → method_word x ≡ false
no_method_word k.Requires a b d e f g = absurd (a refl)
no_method_word k.Ensures a b d e f g = absurd (b refl)
no_method_word k.When a b d e f g = absurd (d refl)
no_method_word k.Locks a b d e f g = absurd (e refl)
no_method_word k.Assignable a b d e f g = absurd (f refl)
no_method_word k.Modifies a b d e f g = absurd (g refl)
no_method_word _ a b d e f g = refl

pub no_method : {ts : List Token} {i j : ℕ} {a : MethodClause} → method_word (seen true ts i) ≡ false → SpellsMethod ts i a j → ⊥
no_method h s = let e : true ≡ false = sym (method_starts s) ∙ h in cc

method_open : (ts : List Token) (i depth : ℕ) (r : Refusal) → method_word (seen true ts i) ≡ false → r ≡ refusal_at ts i → Refuses (SpellsMethod ts i) method_nesting ts i depth r
method_open ts i depth r h is = refused_at (SpellsMethod ts i) method_nesting ts i i depth r (omega arith) (λ a j s. no_method h s) is

pub method_refused : (ts : List Token) (i depth : ℕ) (r : Refusal) (x : Kind) → x ≡ seen true ts i → x ≢ k.Requires → x ≢ k.Ensures → x ≢ k.When → x ≢ k.Locks → x ≢ k.Assignable → x ≢ k.Modifies → r ≡ refusal_at ts i → Refuses (SpellsMethod ts i) method_nesting ts i depth r
method_refused ts i depth r x h a b d e f g is = method_open ts i depth r (subst (λ (y : Kind). method_word y ≡ false) h (no_method_word x a b d e f g)) is

-- the steps of the functions that read them
pub ruleset method_steps = (behind_other, requires_failed, ensures_failed, when_failed, locks_failed, assignable_failed, modifies_failed, assignable_fits, modifies_fits)
