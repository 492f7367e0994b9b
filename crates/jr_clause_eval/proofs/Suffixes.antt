-- What stands before suffixes, and what they make of it.
use Rattle.std.proofs.Common.{◌≡◌, List, [], ◌∷◌, ◌++◌, map, refl, sym, ap, ◌∙◌, subst}
use Rattle.std.specs.Prelude.{Result, Ok, Err, IfOk}
use Rattle.jr_base.specs.declared.refusal.Memory.{Memory}
use Rattle.jr_base.specs.declared.value.Value.{Value}
use Rattle.jr_program.specs.declared.words.Mode.{Mode}
use Rattle.jr_program.specs.declared.clause.ClauseExpr.{ClauseExpr}
use Rattle.jr_program.specs.declared.clause.ClauseShape.{ClauseShape}
use Rattle.jr_program.specs.declared.clause.ClauseShape.TheVariants as shape
use Rattle.jr_program.specs.declared.clause.ClauseSuffix.{ClauseSuffix}
use Rattle.jr_program.proofs.ClauseEquations.{view_suffixed}
use Rattle.jr_program.specs.Clauses.{Spec}
use Rattle.jr_program.specs.ClauseViews.{Suffix, Field, Element, Length, applied, onto, view_expr, view_shape, view_suffix}
use Rattle.jr_meaning.specs.Worth.{Worth, Has, Undefined, Wide, with_value, Setting, worth}
use Rattle.jr_clause_eval.specs.ClassObjects.{HasClassObjects}
use Rattle.jr_clause_eval.specs.Suffixes.{suffix_worth, suffixes_worth, SuffixHasClassObjects, SuffixesHaveClassObjects}

-- with_value goes on with what went on
with_with : (w : Worth) (f g : Value → Worth) → with_value (with_value w f) g ≡ with_value w (λ v. with_value (f v) g)
with_with (Has v) f g = refl
with_with Undefined f g = refl
with_with Wide f g = refl

with_has : (w : Worth) → with_value w (λ v. Has v) ≡ w
with_has (Has v) = refl
with_has Undefined = refl
with_has Wide = refl

of_applied : (mode : Mode) (s : Setting) (e : Spec) (suffix : Suffix) → worth mode s (applied e suffix) ≡ with_value (worth mode s e) (suffix_worth mode s suffix)
of_applied mode s e (Field f slot) = refl
of_applied mode s e (Element i) = refl
of_applied mode s e Length = refl

pub worth_onto : (mode : Mode) (s : Setting) (e : Spec) (suffixes : List Suffix) → worth mode s (onto e suffixes) ≡ with_value (worth mode s e) (suffixes_worth mode s suffixes)
worth_onto mode s e [] = sym (with_has (worth mode s e))
worth_onto mode s e (suffix ∷ suffixes) =
    worth_onto mode s (applied e suffix) suffixes
    ∙ ap (λ w. with_value w (suffixes_worth mode s suffixes)) (of_applied mode s e suffix)
    ∙ with_with (worth mode s e) (suffix_worth mode s suffix) (suffixes_worth mode s suffixes)

of_applied_objects : (e : Spec) (suffix : Suffix) → HasClassObjects (applied e suffix) → HasClassObjects e × SuffixHasClassObjects suffix
of_applied_objects e (Field f slot) h = (h, tt)
of_applied_objects e (Element i) h = (h.0, h.1)
of_applied_objects e Length h = (h, tt)

pub objects_onto : (e : Spec) (suffixes : List Suffix) → HasClassObjects (onto e suffixes) → HasClassObjects e × SuffixesHaveClassObjects suffixes
objects_onto e [] h = (h, tt)
objects_onto e (suffix ∷ suffixes) h =
    let rest = objects_onto (applied e suffix) suffixes h in
    let first = of_applied_objects e suffix rest.0 in
    (first.0, (first.1, rest.1))

-- a primary with its suffixes
pub suffixed_worth : (mode : Mode) (s : Setting) (x : ClauseShape) (primary : ClauseExpr) (suffixes : List ClauseSuffix) → x ≡ shape.Suffixed primary suffixes
    → worth mode s (view_shape x) ≡ with_value (worth mode s (view_expr primary)) (suffixes_worth mode s (map view_suffix suffixes))
suffixed_worth mode s x primary suffixes is =
    ap (worth mode s) (ap view_shape is ∙ view_suffixed primary suffixes) ∙ worth_onto mode s (view_expr primary) (map view_suffix suffixes)

pub suffixed_objects : (x : ClauseShape) (primary : ClauseExpr) (suffixes : List ClauseSuffix) → x ≡ shape.Suffixed primary suffixes
    → HasClassObjects (view_shape x) → HasClassObjects (view_expr primary) × SuffixesHaveClassObjects (map view_suffix suffixes)
suffixed_objects x primary suffixes is h =
    objects_onto (view_expr primary) (map view_suffix suffixes) (subst HasClassObjects (ap view_shape is ∙ view_suffixed primary suffixes) h)

of_parts_objects : (e : Spec) (suffix : Suffix) → HasClassObjects e → SuffixHasClassObjects suffix → HasClassObjects (applied e suffix)
of_parts_objects e (Field f slot) h first = h
of_parts_objects e (Element i) h first = (h, first)
of_parts_objects e Length h first = h

onto_objects : (e : Spec) (suffixes : List Suffix) → HasClassObjects e → SuffixesHaveClassObjects suffixes → HasClassObjects (onto e suffixes)
onto_objects e [] h rest = h
onto_objects e (suffix ∷ suffixes) h rest = onto_objects (applied e suffix) suffixes (of_parts_objects e suffix h rest.0) rest.1

-- what stands before suffixes has class objects, and they have: so has the whole
objects_of_whole : (whole e : Spec) (suffixes : List Suffix) → whole ≡ onto e suffixes → HasClassObjects e → SuffixesHaveClassObjects suffixes
    → HasClassObjects whole
objects_of_whole whole e suffixes is h rest = subst HasClassObjects (sym is) (onto_objects e suffixes h rest)

pub result_objects : (result : Result ClauseExpr Memory) (e : Spec) (suffixes : List Suffix) → IfOk result (λ x. view_expr x ≡ onto e suffixes)
    → HasClassObjects e → SuffixesHaveClassObjects suffixes → IfOk result (λ x. HasClassObjects (view_expr x))
result_objects (Ok x) e suffixes is h rest = objects_of_whole (view_expr x) e suffixes is h rest
result_objects (Err f) e suffixes is h rest = tt

-- one more suffix
pub one_more_suffix : (before : List ClauseSuffix) (suffix : ClauseSuffix) → SuffixesHaveClassObjects (map view_suffix before)
    → SuffixHasClassObjects (view_suffix suffix) → SuffixesHaveClassObjects (map view_suffix (before ++ suffix ∷ []))
one_more_suffix [] suffix have first = (first, tt)
one_more_suffix (s ∷ ss) suffix have first = (have.0, one_more_suffix ss suffix have.1 first)
