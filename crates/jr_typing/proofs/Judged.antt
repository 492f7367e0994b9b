-- How many clauses stand before a body.
use Rattle.std.proofs.Common.{◌≡◌, ℕ, ◌+◌, Bool, true, false, cond, List, [], ◌∷◌, length, map, refl, sym, ◌∙◌, arith}
use Rattle.std.specs.Prelude.{count_by}
use Rattle.std.proofs.lemmas.List.Sums.{sum_by-cons}
use Rattle.jr_ast.specs.declared.clause.MethodClause.{MethodClause}
use Rattle.jr_ast.specs.declared.unit.Modifier.{Modifier}
use Rattle.jr_ast.specs.Clauses.{view_method_clause}
use Rattle.jr_typing_rules.specs.Declarations.{is_judged, count_judged}
use Rattle.jr_typing_rules.specs.Modifiers.{is_atomic_kind, places_of}

one_or_none : (b : Bool) (n m : ℕ) → n ≡ m → cond b (n + 1) n ≡ cond b 1 0 + m
one_or_none true n m is = omega arith
one_or_none false n m is = omega arith

pub judged_counted : (cs : List MethodClause) → count_judged (map view_method_clause cs) ≡ count_by (λ (c : MethodClause). is_judged (view_method_clause c)) cs
judged_counted [] = refl
judged_counted (c ∷ cs) =
    one_or_none (is_judged (view_method_clause c)) _ _ (judged_counted cs)
    ∙ sym (sum_by-cons (λ (c : MethodClause). cond (is_judged (view_method_clause c)) 1 0) c cs)

longer : (b : Bool) {A : Type 0} (x : A) (xs : List A) → length (cond b (x ∷ xs) xs) ≡ cond b (length xs + 1) (length xs)
longer true x xs = omega arith
longer false x xs = refl

pub atomic_counted : (ms : List Modifier) → length (places_of is_atomic_kind ms) ≡ count_by (λ (m : Modifier). is_atomic_kind m.kind) ms
atomic_counted [] = refl
atomic_counted (m ∷ ms) =
    longer (is_atomic_kind m.kind) m.place (places_of is_atomic_kind ms)
    ∙ one_or_none (is_atomic_kind m.kind) _ _ (atomic_counted ms)
    ∙ sym (sum_by-cons (λ (m : Modifier). cond (is_atomic_kind m.kind) 1 0) m ms)
