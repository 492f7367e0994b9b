-- Types are found by the numbers of classes alone: what the classes declare changes none.
use Rattle.std.proofs.Common.{◌≡◌, Bool, true, false, List, [], ◌∷◌, Some, refl, ap}
use Rattle.jr_ast.specs.declared.name.ElementType.{ElementType}
use Rattle.jr_ast.specs.declared.name.ElementType.TheVariants as element_name
use Rattle.jr_ast.specs.declared.name.TypeName.{TypeName}
use Rattle.jr_ast.specs.declared.name.TypeName.TheVariants as written
use Rattle.jr_ast.specs.declared.unit.Formal.{Formal}
use Rattle.jr_ast.specs.declared.unit.MethodKind.{MethodKind}
use Rattle.jr_ast.specs.declared.unit.MethodKind.TheVariants as kinds
use Rattle.jr_typing_rules.specs.declared.words.ValueType.TheVariants as type
use Rattle.jr_typing_rules.specs.Answers.{Typing, Good, Bad, ◌>>=◌}
use Rattle.jr_typing_rules.specs.Names.{Text, Names}
use Rattle.jr_typing_rules.specs.Expressions.{element_type}
use Rattle.jr_typing_rules.specs.Statements.{type_of}
use Rattle.jr_typing_rules.specs.Resolution.{and_entry, result_type, distinct_formals, formal_types}

-- the names of a program while its classes aren't known
abbrev pub numbers_alone : Names → Names
numbers_alone names = record { numbers = names.numbers; classes = [] }

then-same : {A B : Type 0} (u : Typing A) (f g : A → Typing B) → ((x : A) → f x ≡ g x) → (u >>= f) ≡ (u >>= g)
then-same (Good x) f g same = same x
then-same (Bad r) f g same = refl

same-element : (names : Names) (t : ElementType) → element_type (numbers_alone names) t ≡ element_type names t
unfolding element_type
same-element names element_name.Int = refl
same-element names element_name.Long = refl
same-element names element_name.Boolean = refl
same-element names (element_name.Class x) = refl

pub same-type : (names : Names) (t : TypeName) → type_of (numbers_alone names) t ≡ type_of names t
same-type names (written.Single t) = ap (λ e. e >>= λ e. Good (type.Single e)) (same-element names t)
same-type names (written.ArrayOf t) = ap (λ e. e >>= λ e. Good (type.ArrayOf e)) (same-element names t)

pub same-result : (names : Names) (kind : MethodKind) → result_type (numbers_alone names) kind ≡ result_type names kind
same-result names kinds.Constructor = refl
same-result names kinds.Void = refl
same-result names (kinds.Valued t) = ap (λ e. e >>= λ t. Good (Some t)) (same-type names t)

same-distinct : (names : Names) (before : List (Text × Unit {0})) (fs : List Formal) → distinct_formals before fs (numbers_alone names) ≡ distinct_formals before fs names
same-distinct names before [] = refl
same-distinct names before (f ∷ fs) =
    rw (same-type names f.type_name)
    (then-same (type_of names f.type_name) _ _ λ t. then-same (and_entry before f.name tt) _ _ λ before.
    ap (λ rest. rest >>= λ ts. Good (t ∷ ts)) (same-distinct names before fs))

pub same-formals : (names : Names) (is_main : Bool) (fs : List Formal) → formal_types (numbers_alone names) is_main fs ≡ formal_types names is_main fs
same-formals names true fs = refl
same-formals names false fs = same-distinct names [] fs
