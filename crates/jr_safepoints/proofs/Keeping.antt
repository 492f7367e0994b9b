-- The parts of a typed program keep what follows from it.
use Rattle.std.proofs.Common.{◌≡◌, ℕ, zero, suc, ◌+◌, List, [], ◌∷◌, ◌++◌, length, map, take, Option, Some, slice_get, refl, sym, ap, ◌∙◌, append_assoc, append-nil, arith}
use Rattle.std.specs.List.{flat_map, count_by}
use Rattle.std.specs.Option.{option_map, option_map_or}
use Rattle.std.proofs.lemmas.List.{take-map}
use Rattle.std.proofs.lemmas.Option.{slice_get-map}
use Rattle.jr_base.specs.declared.number.FieldId.{FieldId}
use Rattle.jr_base.specs.declared.number.MethodId.{MethodId}
use Rattle.jr_program.specs.Clauses.{Clause}
use Rattle.jr_program.specs.Programs.{Program, Field, Note, field_at, method_at}
use Rattle.jr_program.specs.Sites.{due_at_call, due_at_leave}
use Rattle.jr_program.specs.Slots.{is_of, slot_of}
use Rattle.jr_program.specs.UnitViews.{FieldKeeps, MethodKeeps}
use Rattle.jr_program.specs.declared.parts.TypedField.{TypedField}
use Rattle.jr_program.specs.declared.parts.TypedMethod.{TypedMethod}
use Rattle.jr_ast.specs.Units as unit
use Rattle.jr_typing_rules.specs.Answers.{Good}
use Rattle.jr_typing_rules.specs.Resolution.{Resolution}
use Rattle.jr_typing_rules.specs.Declarations.{MadeField, MadeMethod, ClassesMade, code}
use Rattle.jr_typing_rules.specs.Whole.{fields_of, methods_of, program_field, program_method, program_of}
use Rattle.jr_typing_rules.specs.Written.{methods_written_in}
use Rattle.jr_typing_rules.proofs.Holding.{Each, Each-get, Each-placed}
use Rattle.jr_typing_rules.proofs.Made.{FieldsFrom, AllMade, number-placed}
use Rattle.jr_typing_rules.proofs.PartsFit.{from-map}
use Rattle.jr_safepoints.specs.Due.{due_at_field}
use Rattle.jr_safepoints.specs.Assembled.{FieldDone, view_field_done, view_method_done}
use Rattle.jr_safepoints.proofs.Assembling.{IsThere, field_done, fields_done, method_done}

-- ---- fields

-- the field of that number, behind those before it
field-at : (cs : List Clause) (before : List Field) (fs : List MadeField) (k : ℕ) (d : FieldDone) → slice_get (fields_done cs before fs) k ≡ Some d →
    (f : MadeField) × (slice_get fs k ≡ Some f) × (d ≡ field_done cs (before ++ map program_field (take k fs)) f)
field-at cs before [] k d e = absurd (cc)
field-at cs before (f ∷ fs) zero d e =
    let same : d ≡ field_done cs before f = cc in
    (f, refl, same ∙ ap (λ bs. field_done cs bs f) (sym (append-nil before)))
field-at cs before (f ∷ fs) (suc k) d e =
    let there = field-at cs (before ++ program_field f ∷ []) fs k d e in
    (there.0, there.1, there.2 ∙ ap (λ bs. field_done cs bs there.0) (append_assoc before (program_field f ∷ []) (map program_field (take k fs))))

field-number : (n : ℕ) (fs : List MadeField) (k : ℕ) (f : MadeField) → FieldsFrom n fs → slice_get fs k ≡ Some f → f.number.0 ≡ n + k
field-number n [] k f made found = absurd (cc)
field-number n (g ∷ fs) zero f made found = let same : g ≡ f = cc in omega (arith, made.0, ap (λ (f : MadeField). f.number.0) same)
field-number n (g ∷ fs) (suc k) f made found = omega (arith, field-number (n + 1) fs k f made.1 found)

counted-in : Program → FieldId → Field → ℕ
counted-in program f field = count_by (is_of field.class field.is_static) (take f.0 program.fields)

pub field-keeps : (program : Program) (fs : List MadeField) (parts : List TypedField) → program.fields ≡ map program_field fs → FieldsFrom 0 fs → map view_field_done parts ≡ fields_done program.clauses [] fs →
    (f : FieldId) (field : TypedField) → slice_get parts f.0 ≡ Some field → FieldKeeps program f field
unfolding counted-in
field-keeps program fs parts all numbers done f field found =
    let here : slice_get (fields_done program.clauses [] fs) f.0 ≡ Some (view_field_done field) =
    ap (λ ds. slice_get ds f.0) (sym done) ∙ slice_get-map view_field_done parts f.0 ∙ ap (option_map view_field_done) found in
    let made = field-at program.clauses [] fs f.0 (view_field_done field) here in
    let number : made.0.number ≡ f = let n : made.0.number.0 ≡ f.0 = omega (arith, field-number 0 fs f.0 made.0 numbers made.1) in ap (λ n. record { 0 = n }) n in
    let there : field_at program f ≡ Some (program_field made.0) =
    ap (λ xs. slice_get xs f.0) all ∙ slice_get-map program_field fs f.0 ∙ ap (option_map program_field) made.1 in
    let before : take f.0 program.fields ≡ map program_field (take f.0 fs) = ap (take f.0) all ∙ take-map program_field f.0 fs in
    let slot : slot_of program f ≡ counted-in program f (program_field made.0) = ap (λ o. option_map_or (counted-in program f) o 0) there in
    record {
      slot = ap (λ (d : FieldDone). d.slot) made.2 ∙ sym (slot ∙ ap (count_by (is_of made.0.class made.0.is_static)) before);
      access = ap (λ (d : FieldDone). d.due) made.2 ∙ ap (due_at_field program.clauses) number;
    }

-- ---- methods

pub method-keeps : (program : Program) (ms : List MadeMethod) (parts : List TypedMethod) → program.methods ≡ map program_method ms → Each (IsThere program) ms →
    ((k : ℕ) (m : MadeMethod) → slice_get ms k ≡ Some m → m.number.0 ≡ k) → map view_method_done parts ≡ map (method_done program.clauses) ms →
    (m : MethodId) (method : TypedMethod) → slice_get parts m.0 ≡ Some method → MethodKeeps program m method
method-keeps program ms parts all there numbers done m method found =
    let here : slice_get (map (method_done program.clauses) ms) m.0 ≡ Some (view_method_done method) =
    ap (λ ds. slice_get ds m.0) (sym done) ∙ slice_get-map view_method_done parts m.0 ∙ ap (option_map view_method_done) found in
    let made = from-map (method_done program.clauses) ms m.0 (view_method_done method) here in
    let number : made.0.number ≡ m = ap (λ n. record { 0 = n }) (numbers m.0 made.0 made.1) in
    let at : method_at program m ≡ Some (program_method made.0) = ap (method_at program) (sym number) ∙ Each-get (IsThere program) ms m.0 made.0 there made.1 in
    let is : method_done program.clauses made.0 ≡ view_method_done method = made.2 in
    let same : method_done program.clauses (record made.0 { number = m }) ≡ view_method_done method =
    ap (λ n. method_done program.clauses (record made.0 { number = n })) (sym number) ∙ is in
    record {
      call = sym (ap (λ d. d.dues.call) same) ∙ sym (ap (λ o. option_map_or (due_at_call program m) o []) at);
      commit = sym (ap (λ d. d.dues.commit) same);
      leave = sym (ap (λ d. d.dues.leave) same) ∙ sym (ap (λ o. option_map_or (due_at_leave program m) o []) at);
      enter = sym (ap (λ d. d.dues.enter) same);
    }

-- ---- what is made is there

pub methods-there : (r : Resolution) (c : ClassesMade) (all : List Clause) (ns : List Note) (ks : List unit.Class) → AllMade r ks c → Each (IsThere (program_of r c all ns)) (flat_map methods_of c.made)
methods-there r c all ns ks made =
    Each-placed (IsThere (program_of r c all ns)) (flat_map methods_of c.made) λ k m found.
    let number : m.number.0 ≡ k = omega (arith, number-placed r 0 (flat_map methods_of c.made) (flat_map methods_written_in ks) k m made.made found) in
    ap (λ n. slice_get (map program_method (flat_map methods_of c.made)) n) number
    ∙ slice_get-map program_method (flat_map methods_of c.made) k ∙ ap (option_map program_method) found

pub methods-numbered : (r : Resolution) (c : ClassesMade) (ks : List unit.Class) → AllMade r ks c → (k : ℕ) (m : MadeMethod) → slice_get (flat_map methods_of c.made) k ≡ Some m → m.number.0 ≡ k
methods-numbered r c ks made k m found = omega (arith, number-placed r 0 (flat_map methods_of c.made) (flat_map methods_written_in ks) k m made.made found)
