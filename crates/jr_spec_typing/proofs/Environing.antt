-- The variables of an environment, where one more is declared or a block is left.
use Rattle.std.proofs.Common.{◌≡◌, ℕ, ◌+◌, ◌<◌, ◌≤◌, List, [], ◌∷◌, ◌++◌, length, get_or, drop, map, take, refl, sym, ap, ◌∙◌}
use Rattle.std.proofs.lemmas.List.{take-map, map-append}
use Rattle.jr_typing_rules.specs.declared.words.VariableKind.{VariableKind}
use Rattle.jr_typing_rules.specs.declared.words.VariableKind.TheVariants as kinds
use Rattle.jr_typing_rules.specs.Scopes.{Variable}
use Rattle.jr_typing_rules.specs.Specifications.{placed, place_after}
use Rattle.jr_names.proofs.Turns.{cut, uncut}
use Rattle.jr_typing.specs.declared.scope.Variable.{Variable as VariableTree}
use Rattle.jr_typing.specs.Views.{view_variable}
use Rattle.jr_spec_typing.specs.Environments.{last_place, and_placed}

pub first_of_view : (k : ℕ) (vs : List VariableTree) → map view_variable (take k vs) ≡ take k (map view_variable vs)
first_of_view k vs = sym (take-map view_variable k vs)

pub next_place : (n : ℕ) (all : List VariableTree) (d : VariableTree) (k : ℕ) (whole : ℕ) → last_place n (map view_variable (drop k all)) ≡ whole → k < length all →
    last_place (place_after n (get_or all k d).kind) (map view_variable (drop (k + 1) all)) ≡ whole
next_place n all d k whole so_far below = sym (ap (λ vs. last_place n (map view_variable vs)) (cut all k d below)) ∙ so_far

pub no_place_left : (n : ℕ) (all : List VariableTree) (k : ℕ) (whole : ℕ) → last_place n (map view_variable (drop k all)) ≡ whole → length all ≤ k → n ≡ whole
no_place_left n all k whole so_far done = sym (ap (λ vs. last_place n (map view_variable vs)) (uncut all k done)) ∙ so_far

last-append : (n : ℕ) (vs : List Variable) (v : Variable) → last_place n (vs ++ v ∷ []) ≡ place_after (last_place n vs) v.kind
last-append n [] v = refl
last-append n (x ∷ vs) v = last-append (place_after n x.kind) vs v

same_after : (n m : ℕ) (kind : VariableKind) → place_after n (placed m kind) ≡ place_after n kind
same_after n m (kinds.Local t p) = refl
same_after n m (kinds.Caught p) = refl
same_after n m kinds.Arguments = refl

-- the variable that is declared stands at the next place
pub placed_last : (vs : List VariableTree) (new v : VariableTree) (next : ℕ) → next ≡ last_place 0 (map view_variable vs) → new.name ≡ v.name → new.kind ≡ placed next v.kind →
    map view_variable (vs ++ new ∷ []) ≡ and_placed (map view_variable vs) (view_variable v)
placed_last vs new v next at name kind =
    map-append view_variable vs (new ∷ []) ∙ ap (λ (x : Variable). map view_variable vs ++ x ∷ []) (rw (name, kind, at) refl)

pub place_behind : (vs : List VariableTree) (new v : VariableTree) (next after : ℕ) → next ≡ last_place 0 (map view_variable vs) → new.kind ≡ placed next v.kind → after ≡ place_after next v.kind →
    after ≡ last_place 0 (map view_variable (vs ++ new ∷ []))
place_behind vs new v next after at kind is =
    let last : last_place 0 (map view_variable (vs ++ new ∷ [])) ≡ place_after (last_place 0 (map view_variable vs)) new.kind =
    ap (last_place 0) (map-append view_variable vs (new ∷ [])) ∙ last-append 0 (map view_variable vs) (view_variable new) in
    is ∙ sym (same_after next next v.kind) ∙ ap (λ k. place_after next k) (sym kind) ∙ ap (λ n. place_after n new.kind) at ∙ sym last
