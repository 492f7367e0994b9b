-- The asserts of a method, step by step.
use Rattle.std.proofs.Common.{◌≡◌, ℕ, zero, suc, ◌+◌, ◌<◌, ◌≤◌, List, [], ◌∷◌, ◌++◌, length, get_or, drop, map, take, refl, sym, ap, ◌∙◌}
use Rattle.jr_ast.specs.Expressions.{view_spec}
use Rattle.jr_base.specs.declared.refusal.Fail.{Fail}
use Rattle.jr_program.specs.Clauses.{Clause}
use Rattle.jr_program.specs.declared.words.Mode.{Mode}
use Rattle.jr_typing_rules.specs.declared.words.VariableKind.{VariableKind}
use Rattle.jr_typing_rules.specs.declared.words.VariableKind.TheVariants as kinds
use Rattle.jr_typing_rules.specs.Answers.{Typing, Good, Bad, ◌>>=◌, each, gather}
use Rattle.jr_typing_rules.specs.Declarations.{MadeMethod}
use Rattle.jr_typing_rules.specs.Scopes.{Variable}
use Rattle.jr_typing_rules.specs.Statements.{Asserted}
use Rattle.jr_typing_rules.specs.Specifications.{Setting, placed, place_after, in_environment, assert}
use Rattle.jr_names.proofs.Turns.{cut, uncut}
use Rattle.jr_names.specs.Answered.{Fails}
use Rattle.jr_typing.specs.declared.scopes.ScopeStep.{ScopeStep}
use Rattle.jr_typing.specs.declared.scopes.ScopeStep.TheVariants.{Declares, Leaves, Asserts}
use Rattle.jr_typing.specs.Scoped.{asserts_of}
use Rattle.jr_typing.specs.Views.{view_variable}
use Rattle.jr_spec_typing.specs.Clauses.{Written, with_clauses, and_clauses}
use Rattle.jr_spec_typing.specs.Environments.{last_place, and_placed, environment_behind, clauses_at}
use Rattle.jr_spec_typing.proofs.Adding.{no_clause, next-part, fails-first, same-fails}

-- ---- environments

same_after : (n m : ℕ) (kind : VariableKind) → place_after n (placed m kind) ≡ place_after n kind
same_after n m (kinds.Local t p) = refl
same_after n m (kinds.Caught p) = refl
same_after n m kinds.Arguments = refl

last-environment : (n m : ℕ) (vs : List Variable) → last_place n (in_environment m vs) ≡ last_place n vs
last-environment n m [] = refl
last-environment n m (v ∷ vs) = ap (λ k. last_place k (in_environment (place_after m v.kind) vs)) (same_after n m v.kind) ∙ last-environment (place_after n v.kind) (place_after m v.kind) vs

placed-environment : (n : ℕ) (vs : List Variable) (v : Variable) →
    in_environment n (vs ++ v ∷ []) ≡ in_environment n vs ++ record { name = v.name; kind = placed (last_place n vs) v.kind } ∷ []
placed-environment n [] v = refl
placed-environment n (x ∷ vs) v = ap (λ es. record { name = x.name; kind = placed n x.kind } ∷ es) (placed-environment (place_after n x.kind) vs v)

environment-declared : (vs : List Variable) (v : Variable) → in_environment 0 (vs ++ v ∷ []) ≡ and_placed (in_environment 0 vs) v
environment-declared vs v =
    placed-environment 0 vs v ∙ ap (λ n. in_environment 0 vs ++ record { name = v.name; kind = placed n v.kind } ∷ []) (sym (last-environment 0 0 vs))

environment-left : (n k : ℕ) (vs : List Variable) → in_environment n (take k vs) ≡ take k (in_environment n vs)
environment-left n zero vs = refl
environment-left n (suc k) [] = refl
environment-left n (suc k) (v ∷ vs) = ap (λ es. record { name = v.name; kind = placed n v.kind } ∷ es) (environment-left (place_after n v.kind) k vs)

-- ---- the clauses of the steps, from an environment on

abbrev pub clauses_from : Setting → Mode → MadeMethod → List Variable → List ScopeStep → Typing (List Clause)
clauses_from setting mode m vs [] = Good []
clauses_from setting mode m vs (s ∷ ss) = clauses_at setting mode m vs s >>= λ cs. clauses_from setting mode m (environment_behind vs s) ss >>= λ ds. Good (cs ++ ds)

alone : {A : Type 0} (t : Typing A) → (t >>= λ x. Good x) ≡ t
alone (Good x) = refl
alone (Bad r) = refl

one-and-more : (t : Typing Clause) (rest : Typing (List Clause)) → (t >>= λ c. rest >>= λ cs. Good (c ∷ cs)) ≡ ((t >>= λ c. Good (c ∷ [])) >>= λ cs. rest >>= λ ds. Good (cs ++ ds))
one-and-more (Good c) rest = refl
one-and-more (Bad r) rest = refl

asserts-from : (setting : Setting) (mode : Mode) (m : MadeMethod) (vs : List Variable) (ss : List ScopeStep) →
    each (assert setting mode m) (asserts_of vs ss) ≡ clauses_from setting mode m (in_environment 0 vs) ss
asserts-from setting mode m vs [] = refl
asserts-from setting mode m vs (Declares v ∷ ss) =
    asserts-from setting mode m (vs ++ view_variable v ∷ []) ss
    ∙ ap (λ e. clauses_from setting mode m e ss) (environment-declared vs (view_variable v))
    ∙ sym (alone (clauses_from setting mode m (and_placed (in_environment 0 vs) (view_variable v)) ss))
asserts-from setting mode m vs (Leaves k ∷ ss) =
    asserts-from setting mode m (take k vs) ss
    ∙ ap (λ e. clauses_from setting mode m e ss) (environment-left 0 k vs)
    ∙ sym (alone (clauses_from setting mode m (take k (in_environment 0 vs)) ss))
asserts-from setting mode m vs (Asserts at e ∷ ss) =
    let a : Asserted = record { place = at; condition = view_spec e.now; variables = vs } in
    ap (λ is. assert setting mode m a >>= λ c. is >>= λ cs. Good (c ∷ cs)) (asserts-from setting mode m vs ss)
    ∙ one-and-more (assert setting mode m a) (clauses_from setting mode m (in_environment 0 vs) ss)

pub asserts_in_turn : (setting : Setting) (mode : Mode) (m : MadeMethod) (ss : List ScopeStep) → clauses_from setting mode m [] ss ≡ each (assert setting mode m) (asserts_of [] ss)
asserts_in_turn setting mode m ss = sym (asserts-from setting mode m [] ss)

-- ---- the turns of a loop over the steps, where places follow from the source

turn : (setting : List ℕ → Setting) (mode : Mode) (m : MadeMethod) (w : Written) (vs : List Variable) (all : List ScopeStep) (x : ScopeStep) (k : ℕ) (whole : Typing Written) →
    and_clauses w (clauses_from (setting w.source) mode m vs (drop k all)) ≡ whole → k < length all → x ≡ get_or all k x →
    and_clauses w (clauses_at (setting w.source) mode m vs x >>= λ cs. clauses_from (setting w.source) mode m (environment_behind vs x) (drop (k + 1) all) >>= λ ds. Good (cs ++ ds)) ≡ whole
turn setting mode m w vs all x k whole so_far below found =
    ap (λ x. and_clauses w (clauses_at (setting w.source) mode m vs x >>= λ cs. clauses_from (setting w.source) mode m (environment_behind vs x) (drop (k + 1) all) >>= λ ds. Good (cs ++ ds))) found
    ∙ sym (ap (λ ss. and_clauses w (clauses_from (setting w.source) mode m vs ss)) (cut all k x below)) ∙ so_far

pub assert_fails : (setting : List ℕ → Setting) (mode : Mode) (m : MadeMethod) (w first : Written) (vs : List Variable) (all : List ScopeStep) (x : ScopeStep) (k : ℕ) (e : Fail) →
    and_clauses w (clauses_from (setting w.source) mode m vs (drop k all)) ≡ and_clauses first (clauses_from (setting first.source) mode m [] all) → k < length all → x ≡ get_or all k x →
    Fails e (and_clauses w (clauses_at (setting w.source) mode m vs x)) → Fails e (and_clauses first (each (assert (setting first.source) mode m) (asserts_of [] all)))
assert_fails setting mode m w first vs all x k e so_far below found h =
    same-fails _ _ e (turn setting mode m w vs all x k _ so_far below found ∙ ap (λ t. and_clauses first t) (asserts_in_turn (setting first.source) mode m all))
    (fails-first w (clauses_at (setting w.source) mode m vs x) _ e h)

pub assert_goes_on : (setting : List ℕ → Setting) (mode : Mode) (m : MadeMethod) (w next : Written) (vs behind : List Variable) (all : List ScopeStep) (x : ScopeStep) (k : ℕ) (whole : Typing Written) →
    and_clauses w (clauses_from (setting w.source) mode m vs (drop k all)) ≡ whole → k < length all → x ≡ get_or all k x → behind ≡ environment_behind vs x →
    and_clauses w (clauses_at (setting w.source) mode m vs x) ≡ Good next → and_clauses next (clauses_from (setting next.source) mode m behind (drop (k + 1) all)) ≡ whole
assert_goes_on setting mode m w next vs behind all x k whole so_far below found after is =
    rw after (next-part w next (clauses_at (setting w.source) mode m vs x) (λ s. clauses_from (setting s) mode m (environment_behind vs x) (drop (k + 1) all)) whole is
    (turn setting mode m w vs all x k whole so_far below found))

pub no_assert_left : (setting : List ℕ → Setting) (mode : Mode) (m : MadeMethod) (w first : Written) (vs : List Variable) (all : List ScopeStep) (k : ℕ) →
    and_clauses w (clauses_from (setting w.source) mode m vs (drop k all)) ≡ and_clauses first (clauses_from (setting first.source) mode m [] all) → length all ≤ k →
    and_clauses first (each (assert (setting first.source) mode m) (asserts_of [] all)) ≡ Good w
no_assert_left setting mode m w first vs all k so_far done =
    sym (ap (λ t. and_clauses first t) (asserts_in_turn (setting first.source) mode m all)) ∙ sym so_far
    ∙ ap (λ ss. and_clauses w (clauses_from (setting w.source) mode m vs ss)) (uncut all k done) ∙ no_clause w
