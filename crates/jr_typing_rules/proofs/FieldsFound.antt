-- The field that a name stands for is one of the program.
use Rattle.std.proofs.Common.{◌≡◌, Bool, true, false, not, codes, Some, refl, sym, ◌∙◌}
use Rattle.std.specs.Str.{bytes_eq}
use Rattle.jr_base.specs.declared.number.Span.{Span}
use Rattle.jr_base.specs.declared.number.ClassId.{ClassId}
use Rattle.jr_base.specs.declared.action.Elem.TheVariants as elem
use Rattle.jr_base.specs.declared.kind.SlotKind.TheVariants as kind
use Rattle.jr_ast.specs.declared.name.Name.{Name}
use Rattle.jr_program.specs.ClauseKinds.{IsField}
use Rattle.jr_program.specs.Programs.{Program, Field, field_at}
use Rattle.jr_program.specs.Slots.{slot_of}
use Rattle.jr_typing_rules.specs.declared.words.ValueType.{ValueType}
use Rattle.jr_typing_rules.specs.declared.words.ValueType.TheVariants as type
use Rattle.jr_typing_rules.specs.declared.words.FieldEntry.{FieldEntry}
use Rattle.jr_typing_rules.specs.declared.words.Members.TheVariants as members
use Rattle.jr_typing_rules.specs.declared.words.Face.{Face}
use Rattle.jr_typing_rules.specs.declared.words.Face.TheVariants as face
use Rattle.jr_typing_rules.specs.declared.words.Access.{Access}
use Rattle.jr_typing_rules.specs.declared.words.Access.TheVariants as access
use Rattle.jr_typing_rules.specs.Types.{kind_of, members_of}
use Rattle.jr_typing_rules.specs.Names.{Text, Names, field_in}
use Rattle.jr_typing_rules.specs.Scopes.{Scope}
use Rattle.jr_typing_rules.specs.Denotations.{member_access, static_access, field_access}
use Rattle.jr_typing_rules.specs.Agreement.{IsTypeIn, AgreesWith}
use Rattle.jr_typing_rules.proofs.Holding.{Holds, holds-require, holds-found}
use Rattle.jr_typing_rules.proofs.MadeRight.{kind-not-caught}
use Rattle.jr_typing_rules.proofs.Running.{not-true-false}

-- ---- an entry

-- the field of that number is what the entry says, and lies where it says
pub record EntryFits (program : Program) (f : FieldEntry) : Type 0 where
  pub field : Field
  pub at : field_at program f.number ≡ Some field
  pub class : f.class ≡ field.class
  pub static : field.is_static ≡ f.is_static
  pub kind : field.kind ≡ kind_of f.of
  pub slot : f.slot ≡ slot_of program f.number
  pub of_type : IsTypeIn program f.of

pub entry-fits : (names : Names) (program : Program) → AgreesWith names program → (c : ClassId) (x : Text) (f : FieldEntry) → field_in names c x ≡ Some f → EntryFits program f
entry-fits names program agree c x f found =
    let has = agree.fields c x f found in
    record {
      field = has.0;
      at = has.1;
      class = has.2.declared_in ∙ sym has.2.class;
      static = has.2.static;
      kind = has.2.kind;
      slot = agree.slots c x f found;
      of_type = agree.field_types c x f found;
    }

pub entry-field : (program : Program) (f : FieldEntry) (b : Bool) → f.is_static ≡ b → EntryFits program f → IsField program f.number b (kind_of f.of)
entry-field program f b is fits = (fits.field, fits.at, fits.static ∙ is, fits.kind, kind-not-caught f.of)

-- ---- a field behind a dot

-- what stands before the dot is a value of a class, or of an array
abbrev pub IsObject : Face → Type 0
IsObject (face.Value t) = kind_of t ≡ kind.Ref
IsObject (face.Class c) = ⊥
IsObject (face.Library l) = ⊥
IsObject (face.System at) = ⊥
IsObject (face.Out at) = ⊥
IsObject face.Nothing = ⊥

abbrev pub AccessFits : Program → Face → Access → Type 0
AccessFits program m (access.Static f) = (f.is_static ≡ true) × EntryFits program f
AccessFits program m (access.Out at) = Unit {0}
AccessFits program m access.Length = IsObject m
AccessFits program m (access.Field f) = IsObject m × (f.is_static ≡ false) × EntryFits program f

field-found : (names : Names) (program : Program) → AgreesWith names program → (scope : Scope) → scope.names ≡ names → (at : Span) (x : Name) (c : ClassId) (t : ValueType) → kind_of t ≡ kind.Ref →
    Holds (AccessFits program (face.Value t)) (member_access scope at x (members.OfClass c))
field-found names program agree scope same at x c t ref =
    let Q = AccessFits program (face.Value t) in
    holds-found Q (field_in scope.names c x.text) _ _ λ (f : FieldEntry) found.
    holds-require Q (not f.is_static) _ _ λ instance.
    (ref, not-true-false f.is_static instance, entry-fits names program agree c x.text f (rw same at found))

member-access-fits : (program : Program) (scope : Scope) → AgreesWith scope.names program → (at : Span) (x : Name) (t : ValueType) →
    Holds (AccessFits program (face.Value t)) (member_access scope at x (members_of t))
member-access-fits program scope agree at x (type.Single elem.Int) = tt
member-access-fits program scope agree at x (type.Single elem.Long) = tt
member-access-fits program scope agree at x (type.Single elem.Bool) = tt
member-access-fits program scope agree at x (type.Single (elem.Class c)) = field-found scope.names program agree scope refl at x c (type.Single (elem.Class c)) refl
member-access-fits program scope agree at x (type.Single elem.Object) = tt
member-access-fits program scope agree at x (type.Single elem.Thread) = tt
member-access-fits program scope agree at x (type.Single elem.Runnable) = tt
member-access-fits program scope agree at x type.Null = tt
member-access-fits program scope agree at x (type.ArrayOf t) = holds-require (AccessFits program (face.Value (type.ArrayOf t))) (bytes_eq x.text (codes "length")) _ _ λ is. refl

static-access-fits : (program : Program) (scope : Scope) → AgreesWith scope.names program → (at : Span) (x : Name) (c : ClassId) →
    Holds (AccessFits program (face.Class c)) (static_access scope at x c)
static-access-fits program scope agree at x c =
    let Q = AccessFits program (face.Class c) in
    holds-found Q (field_in scope.names c x.text) _ _ λ (f : FieldEntry) found.
    holds-require Q f.is_static _ _ λ is. (is, entry-fits scope.names program agree c x.text f found)

pub field-access-fits : (program : Program) (scope : Scope) → AgreesWith scope.names program → (at : Span) (x : Name) (m : Face) → Holds (AccessFits program m) (field_access scope at x m)
unfolding field_access
field-access-fits program scope agree at x (face.Class c) = static-access-fits program scope agree at x c
field-access-fits program scope agree at x (face.Library l) = tt
field-access-fits program scope agree at x (face.System system) = holds-require (AccessFits program (face.System system)) (bytes_eq x.text (codes "out")) _ _ λ is. tt
field-access-fits program scope agree at x (face.Out system) = tt
field-access-fits program scope agree at x (face.Value t) = member-access-fits program scope agree at x t
field-access-fits program scope agree at x face.Nothing = tt
