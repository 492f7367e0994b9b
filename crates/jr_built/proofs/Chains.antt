-- Whether a primary with suffixes is built, in code and in clauses.
use Rattle.std.proofs.Common.{◌≡◌, ◌&&◌, Bool, true, false, List, [], ◌∷◌, refl, ap, ◌∙◌}
use Rattle.std.specs.List.{list_all}
use Rattle.jr_program.specs.Programs.{Expr}
use Rattle.jr_program.specs.ExprViews.{Suffix, Field, Invocation, Element, Length, applied, onto}
use Rattle.jr_program.specs.Clauses.{Spec}
use Rattle.jr_program.specs.ClauseViews.{Suffix as ClauseSuffix}
use Rattle.jr_program.specs.ClauseViews as clause
use Rattle.jr_built.specs.Built.{expr_is_built, looks_at_the_moment}
use Rattle.jr_built.specs.Chains.{suffix_is_built, suffix_looks_at_the_moment}

and_true : (a : Bool) → a ≡ (a && true)
and_true true = refl
and_true false = refl

and_assoc : (a b c : Bool) → ((a && b) && c) ≡ (a && (b && c))
and_assoc true b c = refl
and_assoc false b c = refl

applied_built : (e : Expr) (s : Suffix) → expr_is_built (applied e s) ≡ (expr_is_built e && suffix_is_built s)
applied_built e (Field f) = and_true (expr_is_built e)
applied_built e (Invocation m es) = refl
applied_built e (Element element i) = refl
applied_built e Length = and_true (expr_is_built e)

pub onto_built : (e : Expr) (ss : List Suffix) → expr_is_built (onto e ss) ≡ (expr_is_built e && list_all suffix_is_built ss)
onto_built e [] = and_true (expr_is_built e)
onto_built e (s ∷ ss) =
    onto_built (applied e s) ss
    ∙ ap (λ b. b && list_all suffix_is_built ss) (applied_built e s)
    ∙ and_assoc (expr_is_built e) (suffix_is_built s) (list_all suffix_is_built ss)

applied_looks : (e : Spec) (s : ClauseSuffix) → looks_at_the_moment (clause.applied e s) ≡ (looks_at_the_moment e && suffix_looks_at_the_moment s)
applied_looks e (clause.Field f slot) = and_true (looks_at_the_moment e)
applied_looks e (clause.Element i) = refl
applied_looks e clause.Length = and_true (looks_at_the_moment e)

pub onto_looks : (e : Spec) (ss : List ClauseSuffix) → looks_at_the_moment (clause.onto e ss) ≡ (looks_at_the_moment e && list_all suffix_looks_at_the_moment ss)
onto_looks e [] = and_true (looks_at_the_moment e)
onto_looks e (s ∷ ss) =
    onto_looks (clause.applied e s) ss
    ∙ ap (λ b. b && list_all suffix_looks_at_the_moment ss) (applied_looks e s)
    ∙ and_assoc (looks_at_the_moment e) (suffix_looks_at_the_moment s) (list_all suffix_looks_at_the_moment ss)
