-- One field more in what is put together.
use Rattle.std.proofs.Common.{◌≡◌, List, [], ◌∷◌, ◌++◌, map, refl, sym, ap, ◌∙◌}
use Rattle.std.specs.List.{count_by}
use Rattle.std.proofs.lemmas.List.{map-append}
use Rattle.jr_program.specs.Clauses.{Clause}
use Rattle.jr_program.specs.Slots.{is_of}
use Rattle.jr_program.specs.UnitViews.{view_class, view_field}
use Rattle.jr_program.specs.declared.parts.TypedField.{TypedField}
use Rattle.jr_typing_rules.specs.Answers.{Good, ◌>>=◌}
use Rattle.jr_typing_rules.specs.Declarations.{MadeField}
use Rattle.jr_typing_rules.specs.Whole.{program_field}
use Rattle.jr_safepoints.specs.Few.{few}
use Rattle.jr_safepoints.specs.Due.{due_at_field}
use Rattle.jr_safepoints.specs.Assembled.{FieldDone, Assembled, field_of, and_field, view_field_done, view_method_done, view_assembly}
use Rattle.jr_safepoints.specs.Slotted.{CountsAll}
use Rattle.jr_safepoints.specs.declared.assembly.Assembly.{Assembly}
use Rattle.jr_safepoints.specs.declared.slots.Slots.{Slots}

pub fields-viewed : (fs : List TypedField) → map field_of (map view_field_done fs) ≡ map view_field fs
fields-viewed [] = refl
fields-viewed (f ∷ fs) = ap (λ xs. view_field f ∷ xs) (fields-viewed fs)

-- the field with its slot and what is due at it
field-done : (old : List TypedField) (f : MadeField) (field : TypedField) → view_field field ≡ program_field f → field.slot ≡ count_by (is_of f.class f.is_static) (map view_field old) →
    view_field_done field ≡ record { field = program_field f; slot = count_by (is_of f.class f.is_static) (map field_of (map view_field_done old)); due = field.due_at_access }
field-done old f field viewed slot = rw (fields-viewed old, viewed, slot) refl

pub field_put : (clauses : List Clause) (old new : Assembly) (f : MadeField) (field : TypedField) → few f.name.place (due_at_field clauses f.number) ≡ Good field.due_at_access →
    view_field field ≡ program_field f → field.slot ≡ count_by (is_of f.class f.is_static) (map view_field old.fields) →
    new.classes ≡ old.classes → new.fields ≡ old.fields ++ field ∷ [] → new.methods ≡ old.methods → and_field clauses (view_assembly old) f ≡ Good (view_assembly new)
field_put clauses old new f field due viewed slot classes fields methods =
    let more : map view_field_done old.fields ++ record { field = program_field f; slot = count_by (is_of f.class f.is_static) (map field_of (map view_field_done old.fields)); due = field.due_at_access } ∷ [] ≡
    map view_field_done new.fields =
    ap (λ d. map view_field_done old.fields ++ d ∷ []) (sym (field-done old.fields f field viewed slot)) ∙ sym (map-append view_field_done old.fields (field ∷ [])) ∙ ap (map view_field_done) (sym fields) in
    rw (due, classes, methods) (ap (λ fs. Good (record { classes = map view_class old.classes; fields = fs; methods = map view_method_done old.methods })) more)

pub field_counted : (old new : List TypedField) (field : TypedField) (slots : Slots) → new ≡ old ++ field ∷ [] → CountsAll (map view_field old ++ view_field field ∷ []) slots → CountsAll (map view_field new) slots
field_counted old new field slots fields counted = rw (fields, map-append view_field old (field ∷ [])) counted
