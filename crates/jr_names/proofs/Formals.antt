-- The formals of a method, one by one.
use Rattle.std.proofs.Common.{◌≡◌, ℕ, ◌+◌, ◌<◌, ◌≤◌, List, [], ◌∷◌, ◌++◌, length, get_or, drop, append_assoc, append-nil, refl, sym, ap, ◌∙◌}
use Rattle.jr_base.specs.declared.refusal.Fail.{Fail}
use Rattle.jr_base.specs.declared.refusal.Fail.TheVariants.{Refused, Memory}
use Rattle.jr_ast.specs.declared.unit.Formal.{Formal}
use Rattle.jr_typing_rules.specs.declared.words.ValueType.{ValueType}
use Rattle.jr_typing_rules.specs.Answers.{Typing, Good, Bad, ◌>>=◌}
use Rattle.jr_typing_rules.specs.Names.{Text, Names}
use Rattle.jr_typing_rules.specs.Resolution.{and_entry, distinct_formals}
use Rattle.jr_typing_rules.specs.Statements.{type_of}
use Rattle.jr_names.specs.Answered.{Fails}
use Rattle.jr_names.proofs.Turns.{cut, uncut}

-- types before those of the rest
abbrev pub behind : List ValueType → Typing (List ValueType) → Typing (List ValueType)
behind made rest = rest >>= λ ts. Good (made ++ ts)

-- the formals from that place on, behind types that are found and names that stand before them
abbrev pub formals_from : Names → List Formal → ℕ → List (Text × Unit {0}) → List ValueType → Typing (List ValueType)
formals_from names all k before made = behind made (distinct_formals before (drop k all) names)

-- the first of the rest
abbrev first_formal : Names → List Formal → ℕ → List (Text × Unit {0}) → Formal → Typing (List ValueType)
first_formal names all k before f =
    type_of names f.type_name >>= λ t. and_entry before f.name tt >>= λ before. distinct_formals before (drop (k + 1) all) names >>= λ ts. Good (t ∷ ts)

turn : (names : Names) (all : List Formal) (d : Formal) (k : ℕ) (before : List (Text × Unit {0})) (made : List ValueType) → k < length all
    → formals_from names all k before made ≡ behind made (first_formal names all k before (get_or all k d))
turn names all d k before made below = ap (λ fs. behind made (distinct_formals before fs names)) (cut all k d below)

pub type_fails : (names : Names) (all : List Formal) (d : Formal) (k : ℕ) (before : List (Text × Unit {0})) (made : List ValueType) (whole : Typing (List ValueType)) (e : Fail)
    → formals_from names all k before made ≡ whole → k < length all → Fails e (type_of names (get_or all k d).type_name) → Fails e whole
type_fails names all d k before made whole Memory so_far below h = tt
type_fails names all d k before made whole (Refused r) so_far below h =
    sym so_far ∙ turn names all d k before made below
    ∙ ap (λ is. behind made (is >>= λ t. and_entry before (get_or all k d).name tt >>= λ before. distinct_formals before (drop (k + 1) all) names >>= λ ts. Good (t ∷ ts))) h

with_type : (names : Names) (all : List Formal) (d : Formal) (k : ℕ) (before : List (Text × Unit {0})) (made : List ValueType) (whole : Typing (List ValueType)) (t : ValueType)
    → formals_from names all k before made ≡ whole → k < length all → type_of names (get_or all k d).type_name ≡ Good t
    → behind made (and_entry before (get_or all k d).name tt >>= λ before. distinct_formals before (drop (k + 1) all) names >>= λ ts. Good (t ∷ ts)) ≡ whole
with_type names all d k before made whole t so_far below is =
    sym (turn names all d k before made below
    ∙ ap (λ is. behind made (is >>= λ t. and_entry before (get_or all k d).name tt >>= λ before. distinct_formals before (drop (k + 1) all) names >>= λ ts. Good (t ∷ ts))) is)
    ∙ so_far

pub name_fails : (names : Names) (all : List Formal) (d : Formal) (k : ℕ) (before : List (Text × Unit {0})) (made : List ValueType) (whole : Typing (List ValueType)) (t : ValueType) (e : Fail)
    → formals_from names all k before made ≡ whole → k < length all → type_of names (get_or all k d).type_name ≡ Good t
    → Fails e (and_entry before (get_or all k d).name tt) → Fails e whole
name_fails names all d k before made whole t Memory so_far below is h = tt
name_fails names all d k before made whole t (Refused r) so_far below is h =
    sym (with_type names all d k before made whole t so_far below is)
    ∙ ap (λ is. behind made (is >>= λ before. distinct_formals before (drop (k + 1) all) names >>= λ ts. Good (t ∷ ts))) h

behind_next : (made : List ValueType) (t : ValueType) (rest : Typing (List ValueType)) → behind made (rest >>= λ ts. Good (t ∷ ts)) ≡ behind (made ++ t ∷ []) rest
behind_next made t (Bad r) = refl
behind_next made t (Good ts) = ap Good (sym (append_assoc made (t ∷ []) ts))

pub formal_goes_on : (names : Names) (all : List Formal) (d : Formal) (k : ℕ) (before next : List (Text × Unit {0})) (made : List ValueType) (whole : Typing (List ValueType)) (t : ValueType)
    → formals_from names all k before made ≡ whole → k < length all → type_of names (get_or all k d).type_name ≡ Good t
    → and_entry before (get_or all k d).name tt ≡ Good next → formals_from names all (k + 1) next (made ++ t ∷ []) ≡ whole
formal_goes_on names all d k before next made whole t so_far below is is_new =
    sym (behind_next made t (distinct_formals next (drop (k + 1) all) names))
    ∙ sym (ap (λ is. behind made (is >>= λ before. distinct_formals before (drop (k + 1) all) names >>= λ ts. Good (t ∷ ts))) is_new)
    ∙ with_type names all d k before made whole t so_far below is

pub no_formal_left : (names : Names) (all : List Formal) (k : ℕ) (before : List (Text × Unit {0})) (made : List ValueType) (whole : Typing (List ValueType))
    → formals_from names all k before made ≡ whole → length all ≤ k → whole ≡ Good made
no_formal_left names all k before made whole so_far done =
    sym so_far ∙ ap (λ fs. behind made (distinct_formals before fs names)) (uncut all k done) ∙ ap Good (append-nil made)

pub first_of_all : (names : Names) (all : List Formal) → formals_from names all 0 [] [] ≡ distinct_formals [] all names
first_of_all names all = whole (distinct_formals [] all names)
  where
    whole : (rest : Typing (List ValueType)) → behind [] rest ≡ rest
    whole (Good ts) = refl
    whole (Bad r) = refl
