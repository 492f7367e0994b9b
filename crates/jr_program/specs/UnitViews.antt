-- The views of a typed unit's parts as plain data, and what a unit keeps.
use Rattle.std.specs.Prelude.{◌≡◌, ◌<◌, ◌≤◌, ◌+◌, ℕ, List, [], ◌∷◌, map, length, slice_get, Some}
use Rattle.jr_base.specs.declared.number.FieldId.{FieldId}
use Rattle.jr_base.specs.declared.number.MethodId.{MethodId}
use Rattle.jr_base.specs.declared.number.ClauseId.{ClauseId}
use Rattle.jr_program.specs.Programs.{Program, Class, Field, Method, Note}
use Rattle.jr_program.specs.Sites.{due_at_site}
use Rattle.jr_program.specs.Slots.{slot_of}
use Rattle.jr_program.specs.StatementViews.{view_stmt}
use Rattle.jr_program.specs.ClauseViews.{view_clause}
use Rattle.jr_program.specs.WellFormed.{WellFormed}
use Rattle.jr_program.specs.declared.words.Site.{Site}
use Rattle.jr_program.specs.declared.words.Site.TheVariants as sites
use Rattle.jr_program.specs.declared.parts.TypedClass.{TypedClass}
use Rattle.jr_program.specs.declared.parts.TypedField.{TypedField}
use Rattle.jr_program.specs.declared.parts.TypedMethod.{TypedMethod}
use Rattle.jr_program.specs.declared.parts.TypedNote.{TypedNote}
use Rattle.jr_program.specs.declared.parts.UnitParts.{UnitParts}

abbrev pub view_class : TypedClass → Class
view_class c = record {
  name = c.name;
  extends_thread = c.extends_thread;
  implements_runnable = c.implements_runnable;
  run = c.run;
  constructor = c.constructor;
}

-- a field's slot and list, and a method's lists, follow from the rest
abbrev pub view_field : TypedField → Field
view_field f = record {
  class = f.class;
  is_static = f.is_static;
  is_volatile = f.is_volatile;
  kind = f.kind;
  constant = f.constant;
}

abbrev pub view_method : TypedMethod → Method
view_method m = record {
  name = m.name;
  class = m.class;
  is_static = m.is_static;
  is_constructor = m.is_constructor;
  is_synchronized = m.is_synchronized;
  is_helper = m.is_helper;
  formals = m.formals;
  locals = m.locals;
  result = m.result;
  body = view_stmt m.body;
}

abbrev pub view_note : TypedNote → Note
view_note n = record { word = n.word; place = n.place }

-- the program that a unit of these parts is
abbrev pub program_of : UnitParts → Program
program_of u = record {
  classes = map view_class u.classes;
  fields = map view_field u.fields;
  methods = map view_method u.methods;
  clauses = map view_clause u.clauses;
  notes = map view_note u.notes;
  texts = u.texts;
  main = u.main;
}

-- the site's number is one of the program's
abbrev pub IsSite : Program → Site → Type 0
IsSite program (sites.Entry m) = m.0 < length program.methods
IsSite program (sites.Commit m) = m.0 < length program.methods
IsSite program (sites.Return m) = m.0 < length program.methods
IsSite program (sites.Access f) = f.0 < length program.fields
IsSite program (sites.Edge m) = m.0 < length program.methods
IsSite program (sites.Assert c) = (0 < c.0) × (c.0 ≤ length program.clauses)

-- ---- what a unit keeps

-- a field of that number keeps its slot, and what is due at its accesses
pub record FieldKeeps (program : Program) (f : FieldId) (field : TypedField) : Type 0 where
  pub slot : field.slot ≡ slot_of program f
  pub access : field.due_at_access ≡ due_at_site program (sites.Access f)

-- a method of that number keeps what is due at its sites
pub record MethodKeeps (program : Program) (m : MethodId) (method : TypedMethod) : Type 0 where
  pub call : method.due_at_call ≡ due_at_site program (sites.Entry m)
  pub commit : method.due_at_commit ≡ due_at_site program (sites.Commit m)
  pub leave : method.due_at_leave ≡ due_at_site program (sites.Return m)
  pub enter : method.due_at_enter ≡ due_at_site program (sites.Edge m)

pub record PartsKeep (parts : UnitParts) : Type 0 where
  pub fields : (f : FieldId) (field : TypedField) → slice_get parts.fields f.0 ≡ Some field → FieldKeeps (program_of parts) f field
  pub methods : (m : MethodId) (method : TypedMethod) → slice_get parts.methods m.0 ≡ Some method → MethodKeeps (program_of parts) m method

-- for each of so many clauses, which count from 1, the list of that clause alone
pub record AreAlone (count : ℕ) (lists : List (List ClauseId)) : Type 0 where
  pub all : length lists ≡ count
  pub each : (k : ℕ) → k < count → slice_get lists k ≡ Some (record { 0 = k + 1 } ∷ [])

-- its program is well formed, its parts keep what follows from it, and the lists of single clauses stand beside them
pub record IsUnit (parts : UnitParts) (alone : List (List ClauseId)) : Type 0 where
  pub well_formed : WellFormed (program_of parts)
  pub keeps : PartsKeep parts
  pub asserts : AreAlone (length parts.clauses) alone
