-- Of the names of a source, types ask for the numbers of its classes alone.
use Rattle.std.proofs.Common.{◌≡◌, Bool, true, false, List, [], ◌∷◌, Some, refl, ap, ◌∙◌}
use Rattle.jr_ast.specs.declared.name.ElementType.{ElementType}
use Rattle.jr_ast.specs.declared.name.ElementType.TheVariants as elements
use Rattle.jr_ast.specs.declared.name.TypeName.{TypeName}
use Rattle.jr_ast.specs.declared.name.TypeName.TheVariants as written
use Rattle.jr_ast.specs.declared.unit.Formal.{Formal}
use Rattle.jr_ast.specs.declared.unit.MethodKind.{MethodKind}
use Rattle.jr_ast.specs.declared.unit.MethodKind.TheVariants as kinds
use Rattle.jr_typing_rules.specs.declared.words.ValueType.TheVariants as type_
use Rattle.jr_typing_rules.specs.Answers.{Typing, Good, Bad, ◌>>=◌}
use Rattle.jr_typing_rules.specs.Names.{Text, Names}
use Rattle.jr_typing_rules.specs.Expressions.{element_type}
use Rattle.jr_typing_rules.specs.Resolution.{and_entry, result_type, distinct_formals, formal_types}
use Rattle.jr_typing_rules.specs.Statements.{type_of}
use Rattle.jr_names.specs.Tables.{names_alone}

pub element_by_numbers : (names : Names) (t : ElementType) → element_type names t ≡ element_type (names_alone names.numbers) t
unfolding element_type
element_by_numbers names elements.Int = refl
element_by_numbers names elements.Long = refl
element_by_numbers names elements.Boolean = refl
element_by_numbers names (elements.Class x) = refl

pub type_by_numbers : (names : Names) (t : TypeName) → type_of names t ≡ type_of (names_alone names.numbers) t
type_by_numbers names (written.Single t) = ap (λ is. is >>= λ e. Good (type_.Single e)) (element_by_numbers names t)
type_by_numbers names (written.ArrayOf t) = ap (λ is. is >>= λ e. Good (type_.ArrayOf e)) (element_by_numbers names t)

pub result_by_numbers : (names : Names) (k : MethodKind) → result_type names k ≡ result_type (names_alone names.numbers) k
result_by_numbers names kinds.Constructor = refl
result_by_numbers names kinds.Void = refl
result_by_numbers names (kinds.Valued t) = ap (λ is. is >>= λ t. Good (Some t)) (type_by_numbers names t)

same_next : {A B : Type 0} (is : Typing A) (f g : A → Typing B) → ((a : A) → f a ≡ g a) → (is >>= f) ≡ (is >>= g)
same_next (Good a) f g same = same a
same_next (Bad r) f g same = refl

distinct_by_numbers : (names : Names) (before : List (Text × Unit {0})) (fs : List Formal) → distinct_formals before fs names ≡ distinct_formals before fs (names_alone names.numbers)
distinct_by_numbers names before [] = refl
distinct_by_numbers names before (f ∷ fs) =
    ap (λ is. is >>= λ t. and_entry before f.name tt >>= λ before. distinct_formals before fs names >>= λ ts. Good (t ∷ ts)) (type_by_numbers names f.type_name)
    ∙ same_next (type_of (names_alone names.numbers) f.type_name) _ _ (λ t.
    same_next (and_entry before f.name tt) _ _ (λ before.
    ap (λ is. is >>= λ ts. Good (t ∷ ts)) (distinct_by_numbers names before fs)))

pub formals_by_numbers : (names : Names) (is_main : Bool) (fs : List Formal) → formal_types names is_main fs ≡ formal_types (names_alone names.numbers) is_main fs
formals_by_numbers names true fs = refl
formals_by_numbers names false fs = distinct_by_numbers names [] fs
