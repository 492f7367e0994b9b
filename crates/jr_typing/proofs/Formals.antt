-- Formals as variables, one by one.
use Rattle.std.proofs.Common.{◌≡◌, ℕ, ◌+◌, ◌<◌, ◌≤◌, List, [], ◌∷◌, ◌++◌, length, drop, map, get_or, slice_get, Option, Some, None, refl, sym, ap, ◌∙◌, append_assoc, append-nil, ⊎_elim, arith}
use Rattle.std.proofs.lemmas.List.{length-append}
use Rattle.std.proofs.lemmas.Option.{slice_get_cases}
use Rattle.jr_ast.specs.declared.unit.Formal.{Formal}
use Rattle.jr_typing_rules.specs.declared.words.ValueType.{ValueType}
use Rattle.jr_typing_rules.specs.Scopes.{Variable}
use Rattle.jr_typing_rules.specs.Declarations.{formal_variables}
use Rattle.jr_names.proofs.Turns.{cut, uncut}
use Rattle.jr_typing.specs.declared.scope.Variable.{Variable as VariableTree}
use Rattle.jr_typing.specs.Headed.{formal_kind}
use Rattle.jr_typing.specs.Views.{view_variable}
use Rattle.jr_typing.proofs.Lists.{map_append}

abbrev pub formal_variable : ℕ → Formal → Option ValueType → Variable
formal_variable n f t = record { name = f.name.text; kind = formal_kind n t }

-- the variables of a list of formals behind those that were made
abbrev pub with_rest : List VariableTree → List Formal → List ValueType → List Variable
with_rest vs fs ts = map view_variable vs ++ formal_variables (length vs) fs (drop (length vs) ts)

next_formal : (n : ℕ) (f : Formal) (fs : List Formal) (ts : List ValueType) → formal_variables n (f ∷ fs) (drop n ts) ≡ formal_variable n f (slice_get ts n) ∷ formal_variables (n + 1) fs (drop (n + 1) ts)
next_formal n f fs ts = ⊎_elim inside past (slice_get_cases ts n).1
  where
    inside : ((t : ValueType) × (n < length ts) × (slice_get ts n ≡ Some t) × (get_or ts n t ≡ t)) → formal_variables n (f ∷ fs) (drop n ts) ≡ formal_variable n f (slice_get ts n) ∷ formal_variables (n + 1) fs (drop (n + 1) ts)
    inside p = rw (cut ts n p.0 p.1, p.2, p.3) refl

    past : (length ts ≤ n) × (slice_get ts n ≡ None) → formal_variables n (f ∷ fs) (drop n ts) ≡ formal_variable n f (slice_get ts n) ∷ formal_variables (n + 1) fs (drop (n + 1) ts)
    past p =
        let now : drop n ts ≡ [] = uncut ts n p.0 in
        let later : drop (n + 1) ts ≡ [] = uncut ts (n + 1) (omega (arith, p.0)) in
        rw (now, later, p.1) refl

-- one formal more is a variable
pub formal_more : (vs : List VariableTree) (v : VariableTree) (fs : List Formal) (d : Formal) (k : ℕ) (ts : List ValueType) (whole : List Variable)
    → with_rest vs (drop k fs) ts ≡ whole → k < length fs
    → view_variable v ≡ formal_variable (length vs) (get_or fs k d) (slice_get ts (length vs))
    → with_rest (vs ++ v ∷ []) (drop (k + 1) fs) ts ≡ whole
formal_more vs v fs d k ts whole so_far below is =
    let longer : length (vs ++ v ∷ []) ≡ length vs + 1 = length-append vs (v ∷ []) in
    ap (λ n. map view_variable (vs ++ v ∷ []) ++ formal_variables n (drop (k + 1) fs) (drop n ts)) longer
    ∙ ap (λ xs. xs ++ formal_variables (length vs + 1) (drop (k + 1) fs) (drop (length vs + 1) ts)) (map_append view_variable vs v)
    ∙ append_assoc (map view_variable vs) (view_variable v ∷ []) (formal_variables (length vs + 1) (drop (k + 1) fs) (drop (length vs + 1) ts))
    ∙ ap (λ x. map view_variable vs ++ x ∷ formal_variables (length vs + 1) (drop (k + 1) fs) (drop (length vs + 1) ts)) is
    ∙ ap (λ xs. map view_variable vs ++ xs) (sym (next_formal (length vs) (get_or fs k d) (drop (k + 1) fs) ts))
    ∙ ap (λ fs. map view_variable vs ++ formal_variables (length vs) fs (drop (length vs) ts)) (sym (cut fs k d below))
    ∙ so_far

-- behind the last formal all are variables
pub all_formals : (vs : List VariableTree) (fs : List Formal) (k : ℕ) (ts : List ValueType) (whole : List Variable)
    → with_rest vs (drop k fs) ts ≡ whole → length fs ≤ k → map view_variable vs ≡ whole
all_formals vs fs k ts whole so_far done =
    sym (append-nil (map view_variable vs))
    ∙ ap (λ fs. map view_variable vs ++ formal_variables (length vs) fs (drop (length vs) ts)) (sym (uncut fs k done))
    ∙ so_far
