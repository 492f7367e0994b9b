-- At most one clause stands at an index, and it takes more tokens than it nests.
use Rattle.std.proofs.Common.{◌≡◌, ℕ, suc, ◌+◌, ◌<◌, ◌≤◌, Bool, true, false, List, [], ◌∷◌, length, refl, sym, ap, ◌∙◌, subst, arith}
use Rattle.std.specs.Prelude.{◌≢◌}
use Rattle.jr_lexer.specs.declared.kind.Kind.TheVariants as k
use Rattle.jr_lexer.specs.Token.{Token}
use Rattle.jr_lexer.specs.Reading.{jml_at, kind_at, span_at}
use Rattle.jr_ast.specs.Expressions.{Expr}
use Rattle.jr_ast.specs.Clauses.{MethodClause, ClassClause, Clause}
use Rattle.jr_ast.specs.Clauses as c
use Rattle.jr_reading.specs.Seen.{seen, name_at}
use Rattle.jr_reading.specs.Listed.{last, more}
use Rattle.jr_expr_parser.specs.Nesting.{nesting}
use Rattle.jr_jml_parser.specs.Grammar.{Condition, condition, Objects, objects, Anything, end, skip, SpellsMethod, requires, ensures, when, locks, assignable, modifies, Modified, plain, visible, static, Declares, invariant, constraint, monitors_for, SpellsClass, modified, SpellsAssert, asserts, SpellsClause, of_method, of_class, assertion}
use Rattle.jr_jml_parser.specs.Nesting.{deepest, method_nesting, class_nesting, assert_nesting, clause_nesting}
use Rattle.jr_jml_parser.specs.Answers.{OneClause}
use Rattle.jr_jml_parser.specs.Parts.{is_modifier}
use Rattle.jr_jml_parser.proofs.Indexes.{seen_jml, seen_inside, advances}
use Rattle.jr_jml_parser.proofs.Pieces.{standing, before_semicolon, before_comma, Goes, no_more, goes_on, goes_only, objects_in, one_condition}
use Rattle.jr_jml_parser.proofs.Ties.{one_tie, tie_advances}
use Rattle.jr_jml_parser.proofs.Modifiers.{behind_visible, behind_static, at_last}
use Rattle.jr_jml_parser.proofs.Methods as methods
use Rattle.jr_jml_parser.proofs.Classes.{declares_starts, word_plain}
use Rattle.jr_jml_parser.proofs.Classes as classes
use Rattle.jr_jml_parser.proofs.Asserts.{assert_starts, assert_in, only_method, only_classes, only_assert}

-- ---- the parts

goes_end : {ts : List Token} {m j : ℕ} {es : List Expr} → seen true ts m ≡ k.Semicolon → Goes ts m es j → (es ≡ []) × (j ≡ m + 1)
goes_end h (no_more g) = (refl, refl)
goes_end h (goes_on g o) = absurd (let x : k.Semicolon ≡ k.Comma = sym h ∙ g in cc)

one_list : {ts : List Token} {i j m : ℕ} {es fs : List Expr} → Objects ts i es j → Objects ts i fs m → (es ≡ fs) × (j ≡ m)
one_list {ts = ts} {m = m} (objects (last {j = j} {x = e} s) h) o =
    let p = objects_in o in
    let same = standing (before_semicolon s h) p.stands in
    let g = goes_end h (subst (λ (x : ℕ). Goes ts x p.rest m) (sym same.1) p.goes) in
    (sym (p.whole ∙ (ap (λ (x : Expr). x ∷ p.rest) (sym same.0) ∙ ap (λ (x : List Expr). e ∷ x) g.0)), sym g.1)
one_list {ts = ts} {m = m} (objects (more {j = j} {x = e} s h l) stop) o =
    let p = objects_in o in
    let same = standing (before_comma s h) p.stands in
    let g = one_list (objects l stop) (goes_only (subst (λ (x : ℕ). Goes ts x p.rest m) (sym same.1) p.goes) h) in
    (ap (λ (x : List Expr). e ∷ x) g.0 ∙ (ap (λ (x : Expr). x ∷ p.rest) same.0 ∙ sym p.whole), g.1)

anything_at : {ts : List Token} {i m : ℕ} → seen true ts i ≡ k.Semicolon → Anything ts i m → m ≡ i + 1
anything_at e (end h) = refl
anything_at {ts = ts} e (skip {i = i} h g o) = absurd (g (seen_jml ts i h ∙ e))

anything_on : {ts : List Token} {i m : ℕ} → jml_at ts i ≡ true → kind_at ts i ≢ k.Semicolon → Anything ts i m → Anything ts (i + 1) m
anything_on {ts = ts} a b (end {i = i} h) = absurd (b (seen_jml ts i a ∙ h))
anything_on a b (skip h g o) = o

one_anything : {ts : List Token} {i j m : ℕ} → Anything ts i j → Anything ts i m → j ≡ m
one_anything (end h) o = sym (anything_at h o)
one_anything (skip h g d) o = one_anything d (anything_on h g o)

one_modified : {ts : List Token} {i n m : ℕ} {s t : Bool} → Modified ts i s n → Modified ts i t m → is_modifier (seen true ts n) ≡ false → is_modifier (seen true ts m) ≡ false → (s ≡ t) × (n ≡ m)
one_modified plain d a b = let p = at_last a d in (sym p.0, p.1)
one_modified (visible v e) d a b = one_modified e (behind_visible v b d) a b
one_modified (static h e) d a b = let p = behind_static h b d in let q = one_modified e p.2 a b in (sym p.1, q.1)

-- ---- at most one clause

pub one_method_clause : {ts : List Token} {i j m : ℕ} {a b : MethodClause} → SpellsMethod ts i a j → SpellsMethod ts i b m → (a ≡ b) × (j ≡ m)
one_method_clause {ts = ts} {m = m} {b = b} (requires {i = i} h d) s = let q = methods.by_word ts i m b k.Requires (sym h) s in let o = one_condition d q.2 in (ap (c.Requires (span_at ts i)) o.0 ∙ sym q.1, o.1)
one_method_clause {ts = ts} {m = m} {b = b} (ensures {i = i} h d) s = let q = methods.by_word ts i m b k.Ensures (sym h) s in let o = one_condition d q.2 in (ap (c.Ensures (span_at ts i)) o.0 ∙ sym q.1, o.1)
one_method_clause {ts = ts} {m = m} {b = b} (when {i = i} h d) s = let q = methods.by_word ts i m b k.When (sym h) s in let o = one_condition d q.2 in (ap (c.When (span_at ts i)) o.0 ∙ sym q.1, o.1)
one_method_clause {ts = ts} {m = m} {b = b} (locks {i = i} h d) s = let q = methods.by_word ts i m b k.Locks (sym h) s in let o = one_list d q.2 in (ap (c.Locks (span_at ts i)) o.0 ∙ sym q.1, o.1)
one_method_clause {ts = ts} {m = m} {b = b} (assignable {i = i} h d) s = let q = methods.by_word ts i m b k.Assignable (sym h) s in (sym q.0, one_anything d q.1)
one_method_clause {ts = ts} {m = m} {b = b} (modifies {i = i} h d) s = let q = methods.by_word ts i m b k.Modifies (sym h) s in (sym q.0, one_anything d q.1)

one_declaration : {ts : List Token} {s : Bool} {i j m : ℕ} {a b : ClassClause} → Declares ts s i a j → Declares ts s i b m → (a ≡ b) × (j ≡ m)
one_declaration {ts = ts} {s = s} {m = m} {b = b} (invariant {i = i} h d) e = let q = classes.by_word ts s i m b k.Invariant (sym h) e in let o = one_condition d q.2 in (ap (c.Invariant (span_at ts i) s) o.0 ∙ sym q.1, o.1)
one_declaration {ts = ts} {s = s} {m = m} {b = b} (constraint {i = i} h d) e = let q = classes.by_word ts s i m b k.Constraint (sym h) e in let o = one_condition d q.2 in (ap (c.Constraint (span_at ts i) s) o.0 ∙ sym q.1, o.1)
one_declaration {ts = ts} {s = s} {m = m} {b = b} (monitors_for {i = i} {m = n} {j = j} {es = es} p h g t d) e =
    let q = classes.by_word ts s i m b k.MonitorsFor (sym h) e in
    let o = one_list (subst (λ (x : ℕ). Objects ts x es j) (one_tie t q.5) d) q.6 in
    (ap (c.MonitorsFor (span_at ts i) (name_at ts (i + 1))) o.0 ∙ sym q.2, o.1)

pub one_class_clause : {ts : List Token} {i j m : ℕ} {a b : ClassClause} → SpellsClass ts i a j → SpellsClass ts i b m → (a ≡ b) × (j ≡ m)
one_class_clause {ts = ts} (modified {m = n} {is_static = s} d e) (modified {m = o} {j = m} {is_static = t} {a = b} f g) =
    let same = one_modified d f (word_plain (seen true ts n) (declares_starts e)) (word_plain (seen true ts o) (declares_starts g)) in
    one_declaration e (subst (λ (x : Bool). Declares ts x n b m) (sym same.0) (subst (λ (x : ℕ). Declares ts t x b m) (sym same.1) g))

pub one_assert : {ts : List Token} {i j m : ℕ} {a b : Expr} → SpellsAssert ts i a j → SpellsAssert ts i b m → (a ≡ b) × (j ≡ m)
one_assert s t = one_condition (assert_in s) (assert_in t)

one_of_any : {ts : List Token} {i j m : ℕ} {a b : Clause} → SpellsClause ts i a j → SpellsClause ts i b m → (a ≡ b) × (j ≡ m)
one_of_any (of_method s) t = let q = only_method (methods.method_starts s) t in let o = one_method_clause s q.2 in (ap c.OfMethod o.0 ∙ sym q.1, o.1)
one_of_any (of_class s) t = let q = only_classes s t in let o = one_class_clause s q.2 in (ap c.OfClass o.0 ∙ sym q.1, o.1)
one_of_any {ts = ts} (assertion {i = i} s) t = let q = only_assert (assert_starts s) t in let o = one_assert s q.2 in (ap (c.Assert (span_at ts i)) o.0 ∙ sym q.1, o.1)

pub one_clause : OneClause
one_clause ts i j m a b s t = one_of_any s t

-- ---- a clause takes more tokens than it nests

condition_advances : {ts : List Token} {i j : ℕ} {e : Expr} → Condition ts i e j → (i + suc (nesting e) ≤ j) × (j ≤ length ts)
condition_advances {ts = ts} (condition {j = j} s h) = let p = advances s in let inside : j < length ts = seen_inside ts j k.Semicolon h (λ x. cc) in (omega (arith, p.0), omega arith)

objects_advance : {ts : List Token} {i j : ℕ} {es : List Expr} → Objects ts i es j → (i + suc (deepest es) ≤ j) × (j ≤ length ts)
objects_advance {ts = ts} (objects (last {j = j} s) h) = let p = advances s in let inside : j < length ts = seen_inside ts j k.Semicolon h (λ x. cc) in (omega (arith, p.0), omega arith)
objects_advance (objects (more s h l) stop) = let p = advances s in let q = objects_advance (objects l stop) in (omega (arith, p.0, q.0), q.1)

anything_advances : {ts : List Token} {i j : ℕ} → Anything ts i j → (i + 1 ≤ j) × (j ≤ length ts)
anything_advances {ts = ts} (end {i = i} h) = let inside : i < length ts = seen_inside ts i k.Semicolon h (λ x. cc) in (omega arith, omega arith)
anything_advances (skip h g o) = let q = anything_advances o in (omega (arith, q.0), q.1)

pub method_advances : {ts : List Token} {i j : ℕ} {a : MethodClause} → SpellsMethod ts i a j → (i + suc (method_nesting a) ≤ j) × (j ≤ length ts)
method_advances (requires h d) = let p = condition_advances d in (omega (arith, p.0), p.1)
method_advances (ensures h d) = let p = condition_advances d in (omega (arith, p.0), p.1)
method_advances (when h d) = let p = condition_advances d in (omega (arith, p.0), p.1)
method_advances (locks h d) = let p = objects_advance d in (omega (arith, p.0), p.1)
method_advances (assignable h d) = let p = anything_advances d in (omega (arith, p.0), p.1)
method_advances (modifies h d) = let p = anything_advances d in (omega (arith, p.0), p.1)

modifiers_advance : {ts : List Token} {i j : ℕ} {s : Bool} → Modified ts i s j → i ≤ j
modifiers_advance plain = omega arith
modifiers_advance (visible v d) = omega (arith, modifiers_advance d)
modifiers_advance (static h d) = omega (arith, modifiers_advance d)

declaration_advances : {ts : List Token} {s : Bool} {i j : ℕ} {a : ClassClause} → Declares ts s i a j → (i + suc (class_nesting a) ≤ j) × (j ≤ length ts)
declaration_advances (invariant h d) = let p = condition_advances d in (omega (arith, p.0), p.1)
declaration_advances (constraint h d) = let p = condition_advances d in (omega (arith, p.0), p.1)
declaration_advances (monitors_for p h g t d) = let q = objects_advance d in (omega (arith, q.0, tie_advances t), q.1)

pub class_advances : {ts : List Token} {i j : ℕ} {a : ClassClause} → SpellsClass ts i a j → (i + suc (class_nesting a) ≤ j) × (j ≤ length ts)
class_advances (modified d e) = let p = declaration_advances e in (omega (arith, p.0, modifiers_advance d), p.1)

pub assert_advances : {ts : List Token} {i j : ℕ} {e : Expr} → SpellsAssert ts i e j → (i + suc (assert_nesting e) ≤ j) × (j ≤ length ts)
assert_advances (asserts h d) = let p = condition_advances d in (omega (arith, p.0), p.1)

pub clause_advances : {ts : List Token} {i j : ℕ} {a : Clause} → SpellsClause ts i a j → (i + suc (clause_nesting a) ≤ j) × (j ≤ length ts)
clause_advances (of_method s) = method_advances s
clause_advances (of_class s) = class_advances s
clause_advances (assertion s) = assert_advances s
