-- Each class that a type of the names speaks of is one that a name stands for.
use Rattle.std.proofs.Common.{◌≡◌, Bool, true, false, cond, not, length, List, [], ◌∷◌, ◌++◌, Option, Some, None, is_none, codes}
use Rattle.std.specs.Str.{bytes_eq}
use Rattle.jr_base.specs.declared.number.ClassId.{ClassId}
use Rattle.jr_base.specs.declared.action.Elem.{Elem}
use Rattle.jr_base.specs.declared.action.Elem.TheVariants as elem
use Rattle.jr_ast.specs.declared.name.ElementType.{ElementType}
use Rattle.jr_ast.specs.declared.name.ElementType.TheVariants as element_name
use Rattle.jr_ast.specs.declared.name.TypeName.{TypeName}
use Rattle.jr_ast.specs.declared.name.TypeName.TheVariants as written
use Rattle.jr_ast.specs.declared.unit.Field.{Field}
use Rattle.jr_ast.specs.declared.unit.FieldDeclarator.{FieldDeclarator}
use Rattle.jr_ast.specs.declared.unit.MethodKind.{MethodKind}
use Rattle.jr_ast.specs.declared.unit.MethodKind.TheVariants as kinds
use Rattle.jr_ast.specs.Units.{Member, Empty, OfField, OfMethod, OfClause}
use Rattle.jr_ast.specs.Units as unit
use Rattle.jr_typing_rules.specs.declared.words.ValueType.{ValueType}
use Rattle.jr_typing_rules.specs.declared.words.ValueType.TheVariants as type
use Rattle.jr_typing_rules.specs.declared.words.FieldEntry.{FieldEntry}
use Rattle.jr_typing_rules.specs.declared.words.MethodEntry.{MethodEntry}
use Rattle.jr_typing_rules.specs.Answers.{Typing, one_by_one}
use Rattle.jr_typing_rules.specs.Modifiers.{has, is_static_kind}
use Rattle.jr_typing_rules.specs.Names.{Text, Names, Class, named}
use Rattle.jr_typing_rules.specs.Expressions.{element_type}
use Rattle.jr_typing_rules.specs.Statements.{type_of}
use Rattle.jr_typing_rules.specs.Resolution.{Known, Resolved, Resolution, numbered, has_own_name, is_first_main, is_library_method, and_entry, field_entry, entry, result_type, formal_types, and_field, and_fields, and_constructor, and_named_method, and_method, and_member, first_known, and_class, resolve}
use Rattle.jr_typing_rules.proofs.Holding.{Holds, holds-next, holds-then, holds-require, holds-found, holds-along, Each, Each-append}
use Rattle.jr_typing_rules.proofs.Known.{entry-added}

-- ---- types

-- a name stands for the class
abbrev pub ElementNames : List (Text × ClassId) → Elem → Type 0
ElementNames numbers (elem.Class c) = (x : Text) × (named x numbers ≡ Some c)
ElementNames numbers _ = Unit {0}

abbrev pub TypeNames : List (Text × ClassId) → ValueType → Type 0
TypeNames numbers type.Null = Unit {0}
TypeNames numbers (type.Single e) = ElementNames numbers e
TypeNames numbers (type.ArrayOf e) = ElementNames numbers e

abbrev pub ResultNames : List (Text × ClassId) → Option ValueType → Type 0
ResultNames numbers None = Unit {0}
ResultNames numbers (Some t) = TypeNames numbers t

pub holds-cond : {A : Type 0} (P : A → Type 0) (b : Bool) (t u : Typing A) → Holds P t → Holds P u → Holds P (cond b t u)
holds-cond P true t u yes_holds no_holds = yes_holds
holds-cond P false t u yes_holds no_holds = no_holds

pub element-names : (names : Names) (t : ElementType) → Holds (ElementNames names.numbers) (element_type names t)
unfolding element_type
element-names names element_name.Int = tt
element-names names element_name.Long = tt
element-names names element_name.Boolean = tt
element-names names (element_name.Class x) =
    let Q = ElementNames names.numbers in
    holds-cond Q (bytes_eq x.text (codes "Object")) _ _ tt
    (holds-cond Q (bytes_eq x.text (codes "Thread")) _ _ tt
    (holds-cond Q (bytes_eq x.text (codes "Runnable")) _ _ tt
    (holds-found Q (named x.text names.numbers) _ _ λ c found. (x.text, found))))

pub type-names : (names : Names) (t : TypeName) → Holds (TypeNames names.numbers) (type_of names t)
type-names names (written.Single t) = holds-then (TypeNames names.numbers) (ElementNames names.numbers) (element_type names t) _ (element-names names t) λ e is. is
type-names names (written.ArrayOf t) = holds-then (TypeNames names.numbers) (ElementNames names.numbers) (element_type names t) _ (element-names names t) λ e is. is

result-names : (names : Names) (kind : MethodKind) → Holds (ResultNames names.numbers) (result_type names kind)
result-names names kinds.Constructor = tt
result-names names kinds.Void = tt
result-names names (kinds.Valued t) = holds-then (ResultNames names.numbers) (TypeNames names.numbers) (type_of names t) _ (type-names names t) λ t is. is

-- ---- tables

pub record ClassNames (numbers : List (Text × ClassId)) (k : Class) : Type 0 where
  pub fields : Each (λ (e : Text × FieldEntry). TypeNames numbers e.1.of) k.fields
  pub methods : Each (λ (e : Text × MethodEntry). ResultNames numbers e.1.result) k.methods

abbrev KnownNames : List (Text × ClassId) → Known → Type 0
KnownNames numbers s = ClassNames numbers s.class

field-names : (numbers : List (Text × ClassId)) (static : Bool) (t : ValueType) → TypeNames numbers t → (s : Known) (d : FieldDeclarator) → KnownNames numbers s →
    Holds (KnownNames numbers) (and_field static t s d)
field-names numbers static t is s d known =
    holds-then (KnownNames numbers) (λ (after : List (Text × FieldEntry)). after ≡ s.class.fields ++ (d.name.text, field_entry s static t) ∷ [])
    (and_entry s.class.fields d.name (field_entry s static t)) _ (entry-added s.class.fields d.name (field_entry s static t)) λ table e. record {
      fields = rw e (Each-append (λ (e : Text × FieldEntry). TypeNames numbers e.1.of) s.class.fields ((d.name.text, field_entry s static t) ∷ []) known.fields (is, tt));
      methods = known.methods;
    }

fields-names : (names : Names) (s : Known) (f : Field) → KnownNames names.numbers s → Holds (KnownNames names.numbers) (and_fields names s f)
fields-names names s f known =
    holds-then (KnownNames names.numbers) (TypeNames names.numbers) (type_of names f.type_name) _ (type-names names f.type_name) λ t is.
    holds-along (λ before s. KnownNames names.numbers s) (and_field (has is_static_kind f.modifiers) t)
    (λ before s d. field-names names.numbers (has is_static_kind f.modifiers) t is s d) [] s known f.declarators

constructor-names : (names : Names) (s : Known) (m : unit.Method) → KnownNames names.numbers s → Holds (KnownNames names.numbers) (and_constructor names s m)
constructor-names names s m known =
    holds-require (KnownNames names.numbers) (is_none s.class.constructor) _ _ λ first.
    holds-next (KnownNames names.numbers) (formal_types names false m.formals) _ λ formals e. record { fields = known.fields; methods = known.methods }

named-names : (names : Names) (s : Known) (m : unit.Method) (is : Bool) → KnownNames names.numbers s → Holds (KnownNames names.numbers) (and_named_method names s m is)
named-names names s m is known =
    let Q = KnownNames names.numbers in
    holds-then Q (ResultNames names.numbers) (result_type names m.kind) _ (result-names names m.kind) λ result r.
    holds-require Q (not (is_library_method s.class.extends_thread m.name.text)) _ _ λ own.
    holds-require Q (is_none (named m.name.text s.class.methods)) _ _ λ new.
    holds-next Q (formal_types names is m.formals) _ λ formals e. record {
      fields = known.fields;
      methods = Each-append (λ (e : Text × MethodEntry). ResultNames names.numbers e.1.result) s.class.methods ((m.name.text, entry s m is result formals) ∷ []) known.methods (r, tt);
    }

method-names : (names : Names) (s : Known) (m : unit.Method) (kind : MethodKind) → KnownNames names.numbers s → Holds (KnownNames names.numbers) (and_method names s m kind)
method-names names s m kinds.Constructor known = constructor-names names s m known
method-names names s m kinds.Void known = named-names names s m (is_first_main s m) known
method-names names s m (kinds.Valued t) known = named-names names s m (is_first_main s m) known

member-names : (names : Names) (s : Known) (m : Member) → KnownNames names.numbers s → Holds (KnownNames names.numbers) (and_member names s m)
member-names names s Empty known = known
member-names names s (OfField f) known = fields-names names s f known
member-names names s (OfMethod m) known = method-names names s m m.kind known
member-names names s (OfClause c) known = known

class-names : (numbers : List (Text × ClassId)) (s : Resolved) (k : unit.Class) → Each (ClassNames numbers) s.classes →
    Holds (λ (after : Resolved). Each (ClassNames numbers) after.classes) (and_class numbers s k)
class-names numbers s k all =
    let names : Names = record { numbers = numbers; classes = [] } in
    let Q = λ (after : Resolved). Each (ClassNames numbers) after.classes in
    holds-require Q (has_own_name numbers (length s.classes) k.name) _ _ λ own.
    holds-then Q (KnownNames numbers) (one_by_one (and_member names) (first_known s k) k.members) _
    (holds-along (λ before s. KnownNames numbers s) (and_member names) (λ before s m. member-names names s m) [] (first_known s k) (record { fields = tt; methods = tt }) k.members)
    λ (known : Known) is. Each-append (ClassNames numbers) s.classes (known.class ∷ []) all (is, tt)

pub resolved-names : (ks : List unit.Class) → Holds (λ (r : Resolution). Each (ClassNames r.names.numbers) r.names.classes) (resolve ks)
unfolding resolve
resolved-names ks =
    let numbers = numbered 0 ks in
    let first : Resolved = record { classes = []; fields = 0; methods = 0; main = None } in
    let Q = λ (r : Resolution). Each (ClassNames r.names.numbers) r.names.classes in
    holds-then Q (λ (s : Resolved). Each (ClassNames numbers) s.classes) (one_by_one (and_class numbers) first ks) _
    (holds-along (λ before (s : Resolved). Each (ClassNames numbers) s.classes) (and_class numbers) (λ before s k. class-names numbers s k) [] first tt ks)
    λ (all : Resolved) is. holds-found Q all.main _ _ λ main found. is
