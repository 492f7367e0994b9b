-- What names, fields and elements denote is right in the program: a value and a variable have the kind of their type, whose
-- class is in the program.
use Rattle.std.proofs.Common.{◌≡◌, Bool, true, false, cond, not, List, Option, Some, None, codes, slice_get, refl, sym, ◌∙◌}
use Rattle.std.specs.Str.{bytes_eq}
use Rattle.jr_base.specs.declared.number.Span.{Span}
use Rattle.jr_base.specs.declared.number.ClassId.{ClassId}
use Rattle.jr_base.specs.declared.number.MethodId.{MethodId}
use Rattle.jr_base.specs.declared.action.Elem.TheVariants as elem
use Rattle.jr_base.specs.declared.refusal.Refusal.TheVariants.{Mismatch}
use Rattle.jr_base.specs.declared.kind.SlotKind.{SlotKind}
use Rattle.jr_base.specs.declared.kind.SlotKind.TheVariants as kinds
use Rattle.jr_ast.specs.declared.name.Name.{Name}
use Rattle.jr_program.specs.ClauseKinds.{IsClass}
use Rattle.jr_program.specs.Programs as parts
use Rattle.jr_program.specs.Programs.{Program, Expr, This, Local, StaticField, FieldOf, method_at}
use Rattle.jr_program.specs.WellFormed.{Scope as Place, HasKind, VariableHas, EffectFits}
use Rattle.jr_typing_rules.specs.declared.words.ValueType.{ValueType}
use Rattle.jr_typing_rules.specs.declared.words.ValueType.TheVariants as type
use Rattle.jr_typing_rules.specs.declared.words.FieldEntry.{FieldEntry}
use Rattle.jr_typing_rules.specs.declared.words.VariableKind.{VariableKind}
use Rattle.jr_typing_rules.specs.declared.words.VariableKind.TheVariants as variable
use Rattle.jr_typing_rules.specs.declared.words.Access.{Access}
use Rattle.jr_typing_rules.specs.declared.words.Access.TheVariants as access
use Rattle.jr_typing_rules.specs.declared.words.Members.{Members}
use Rattle.jr_typing_rules.specs.declared.words.Members.TheVariants as members
use Rattle.jr_typing_rules.specs.Answers.{Good, ◌>>=◌, require}
use Rattle.jr_typing_rules.specs.Types.{kind_of, members_of}
use Rattle.jr_typing_rules.specs.Names.{Text, named}
use Rattle.jr_typing_rules.specs.Scopes.{Scope, Variable, variable_named, own_field}
use Rattle.jr_typing_rules.specs.Denotations.{Denotation, AClass, ALibrary, ASystem, AnOut, AVariable, AValue, ANothing, Value, Target, value_of, variable_of, in_brackets, of_variable, of_own_field, of_library, of_class, of_field_or_class, of_any, simple_name, field_access, accessed, field_of, face_of, element_of, element}
use Rattle.jr_typing_rules.specs.Agreement.{IsTypeIn, AgreesWith}
use Rattle.jr_typing_rules.specs.Headers.{HeaderFits}
use Rattle.jr_typing_rules.proofs.Holding.{Holds, holds-then, holds-require, Each}
use Rattle.jr_typing_rules.proofs.TypesNamed.{holds-cond}
use Rattle.jr_typing_rules.proofs.MadeRight.{kind-not-caught}
use Rattle.jr_typing_rules.proofs.Running.{not-true-false}
use Rattle.jr_typing_rules.proofs.Found.{found-some, find-each}
use Rattle.jr_typing_rules.proofs.FieldsFound.{EntryFits, entry-fits, entry-field, AccessFits, field-access-fits}
use Rattle.jr_typing_rules.proofs.OperatorKinds.{element-kind}

-- ---- what is right

-- a value has the kind of its type, and so has a variable
abbrev pub ValueRight : Place → Value → Type 0
ValueRight s v = HasKind s v.node (kind_of v.of) × IsTypeIn s.program v.of

abbrev pub TargetRight : Place → Target → Type 0
TargetRight s x = VariableHas s x.node (kind_of x.of) × IsTypeIn s.program x.of

abbrev pub Right : Place → Denotation → Type 0
Right s (AVariable t x) = VariableHas s x (kind_of t) × IsTypeIn s.program t
Right s (AValue t e) = HasKind s e (kind_of t) × IsTypeIn s.program t
Right s (ANothing e) = EffectFits s e
Right s (AClass c) = Unit {0}
Right s (ALibrary l) = Unit {0}
Right s (ASystem at) = Unit {0}
Right s (AnOut at) = Unit {0}

-- what a variable in scope holds, by its place
abbrev pub StandsAt : Program → List SlotKind → VariableKind → Type 0
StandsAt program held (variable.Local t place) = (slice_get held place ≡ Some (kind_of t)) × IsTypeIn program t
StandsAt program held (variable.Caught place) = slice_get held place ≡ Some kinds.Caught
StandsAt program held variable.Arguments = Unit {0}

abbrev pub AllStand : Program → List SlotKind → List Variable → Type 0
AllStand program held vs = Each (λ (v : Variable). StandsAt program held v.kind) vs

abbrev pub HeadersFit : Program → Type 0
HeadersFit program = (m : MethodId) (method : parts.Method) → method_at program m ≡ Some method → HeaderFits program m method

-- the place in the program is that of the scope in the source
pub record Around (s : Place) (scope : Scope) : Type 0 where
  pub names : AgreesWith scope.names s.program
  pub headers : HeadersFit s.program
  pub own : IsClass s.program scope.own
  pub static : s.is_static ≡ scope.is_static
  pub variables : AllStand s.program s.kinds scope.variables

-- ---- values and variables

pub value-right : (s : Place) (at : Span) (d : Denotation) → Right s d → Holds (ValueRight s) (value_of at d)
unfolding value_of
value-right s at (AVariable t x) right = right
value-right s at (AValue t e) right = right
value-right s at _ right = tt

pub target-right : (s : Place) (at : Span) (d : Denotation) → Right s d → Holds (TargetRight s) (variable_of at d)
unfolding variable_of
target-right s at (AVariable t x) right = right
target-right s at _ right = tt

pub brackets-right : (s : Place) (at : Span) (d : Denotation) → Right s d → Holds (Right s) (in_brackets at d)
unfolding in_brackets
brackets-right s at (AVariable t x) right = right
brackets-right s at (AValue t e) right = right
brackets-right s at _ right = tt

-- ---- names

pub variable-stands : (s : Place) (scope : Scope) → Around s scope → (x : Text) (v : Variable) → variable_named scope x ≡ Some v → StandsAt s.program s.kinds v.kind
unfolding variable_named
variable-stands s scope around x v found =
    let P = λ (v : Variable). StandsAt s.program s.kinds v.kind in
    found-some P (variable_named scope x) v (find-each P (λ (v : Variable). bytes_eq x v.name) scope.variables around.variables) found

variable-right : (s : Place) (at : Span) (x : Name) (k : VariableKind) → StandsAt s.program s.kinds k → Holds (Right s) (of_variable at x k)
variable-right s at x (variable.Local t place) stands = ((stands.0, kind-not-caught t), stands.1)
variable-right s at x (variable.Caught place) stands = tt
variable-right s at x variable.Arguments stands = tt

own-field-right : (s : Place) (scope : Scope) → Around s scope → (at : Span) (x : Text) (f : FieldEntry) → own_field scope x ≡ Some f → Holds (Right s) (of_own_field scope at f)
own-field-right s scope around at x f found = by f.is_static refl
  where
    fits : EntryFits s.program f
    fits = entry-fits scope.names s.program around.names scope.own x f found

    by : (b : Bool) → f.is_static ≡ b →
        Holds (Right s) (cond b (Good (AVariable f.of (StaticField f.number))) (require (not scope.is_static) (Mismatch at) >>= λ u. Good (AVariable f.of (FieldOf This f.number))))
    by true is = (entry-field s.program f true is fits, fits.of_type)
    by false is =
        holds-require (Right s) (not scope.is_static) _ _ λ instance. (
          ((around.static ∙ not-true-false scope.is_static instance, refl), entry-field s.program f false is fits),
          fits.of_type,
        )

library-right : (s : Place) (x : Name) → Holds (Right s) (of_library x)
library-right s x =
    holds-cond (Right s) (bytes_eq x.text (codes "Object")) _ _ tt
    (holds-cond (Right s) (bytes_eq x.text (codes "Thread")) _ _ tt
    (holds-cond (Right s) (bytes_eq x.text (codes "Runnable")) _ _ tt
    (holds-cond (Right s) (bytes_eq x.text (codes "System")) _ _ tt tt)))

class-right : (s : Place) (c : Option ClassId) (x : Name) → Holds (Right s) (of_class c x)
class-right s (Some c) x = tt
class-right s None x = library-right s x

field-or-class-right : (s : Place) (scope : Scope) → Around s scope → (at : Span) (x : Name) (f : Option FieldEntry) → own_field scope x.text ≡ f →
    Holds (Right s) (of_field_or_class scope at x f)
field-or-class-right s scope around at x (Some f) found = own-field-right s scope around at x.text f found
field-or-class-right s scope around at x None found = class-right s (named x.text scope.names.numbers) x

any-right : (s : Place) (scope : Scope) → Around s scope → (at : Span) (x : Name) (v : Option Variable) → variable_named scope x.text ≡ v → Holds (Right s) (of_any scope at x v)
any-right s scope around at x (Some v) found =
    variable-right s at x v.kind (variable-stands s scope around x.text v found)
any-right s scope around at x None found = field-or-class-right s scope around at x (own_field scope x.text) refl

pub name-right : (s : Place) (scope : Scope) → Around s scope → (at : Span) (x : Name) → Holds (Right s) (simple_name scope at x)
unfolding simple_name
name-right s scope around at x = any-right s scope around at x (variable_named scope x.text) refl

-- ---- what has members is a reference

abbrev pub HasMembers : Members → Type 0
HasMembers members.Nothing = ⊥
HasMembers _ = Unit {0}

pub members-reference : (t : ValueType) → HasMembers (members_of t) → kind_of t ≡ kinds.Ref
members-reference type.Null has = refl
members-reference (type.ArrayOf t) has = refl
members-reference (type.Single elem.Int) has = absurd has
members-reference (type.Single elem.Long) has = absurd has
members-reference (type.Single elem.Bool) has = absurd has
members-reference (type.Single elem.Object) has = refl
members-reference (type.Single elem.Thread) has = refl
members-reference (type.Single elem.Runnable) has = refl
members-reference (type.Single (elem.Class c)) has = refl

-- ---- fields

accessed-right : (s : Place) (at : Span) (a : Access) (m : Denotation) → AccessFits s.program (face_of m) a → Right s m → Holds (Right s) (accessed at a m)
unfolding value_of
accessed-right s at (access.Static f) m fits right = (entry-field s.program f true fits.0 fits.1, fits.1.of_type)
accessed-right s at (access.Out system) m fits right = tt
accessed-right s at access.Length (AVariable t x) fits right = ((rw fits at right.0, refl), tt)
accessed-right s at access.Length (AValue t e) fits right = ((rw fits at right.0, refl), tt)
accessed-right s at access.Length _ fits right = absurd fits
accessed-right s at (access.Field f) (AVariable t x) fits right = ((rw fits.0 at right.0, entry-field s.program f false fits.1 fits.2), fits.2.of_type)
accessed-right s at (access.Field f) (AValue t e) fits right = ((rw fits.0 at right.0, entry-field s.program f false fits.1 fits.2), fits.2.of_type)
accessed-right s at (access.Field f) _ fits right = absurd fits.0

pub field-right : (s : Place) (scope : Scope) → Around s scope → (at : Span) (x : Name) (m : Denotation) → Right s m → Holds (Right s) (field_of scope at x m)
field-right s scope around at x m right =
    holds-then (Right s) (AccessFits s.program (face_of m)) (field_access scope at x (face_of m)) _ (field-access-fits s.program scope around.names at x (face_of m))
    λ a fits. accessed-right s at a m fits right

-- ---- elements

pub element-right : (s : Place) (at : Span) (i : Expr) (v : Value) → HasKind s i kinds.Int → ValueRight s v → Holds (Right s) (element at i v)
element-right s at i v index right = by v.of (members_of v.of) refl right
  where
    by : (t : ValueType) (m : Members) → members_of t ≡ m → HasKind s v.node (kind_of t) × IsTypeIn s.program t → Holds (Right s) (element_of at m v.node i)
    by (type.ArrayOf e) (members.OfArray d) of has =
        let same : e ≡ d = cc in
        rw (sym same) ((has.0, index, element-kind e, has.1), has.1)
    by (type.Single elem.Int) (members.OfArray d) of has = absurd (cc)
    by (type.Single elem.Long) (members.OfArray d) of has = absurd (cc)
    by (type.Single elem.Bool) (members.OfArray d) of has = absurd (cc)
    by (type.Single elem.Object) (members.OfArray d) of has = absurd (cc)
    by (type.Single elem.Thread) (members.OfArray d) of has = absurd (cc)
    by (type.Single elem.Runnable) (members.OfArray d) of has = absurd (cc)
    by (type.Single (elem.Class c)) (members.OfArray d) of has = absurd (cc)
    by type.Null (members.OfArray d) of has = absurd (cc)
    by t _ of has = tt
