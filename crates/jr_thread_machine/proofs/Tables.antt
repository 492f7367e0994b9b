-- Rows that name what stands in a list of the code.
use Rattle.std.proofs.Common.{◌≡◌, ℕ, List, Option, Some, None, Ok, Err, map, refl, sym, ap, ◌∙◌, subst}
use Rattle.std.specs.Prelude.{slice_get, option_map, MatchOption, Result, IfOk}
use Rattle.std.specs.Option.{option_map_or}
use Rattle.std.proofs.lemmas.Option.{slice_get-map}
use Rattle.jr_base.specs.declared.value.Cell.{Cell}
use Rattle.jr_code.specs.declared.code.Code.{Code as CodeOfLists}
use Rattle.jr_code.specs.declared.code.FieldCode.{FieldCode as FieldOfLists}
use Rattle.jr_code.specs.declared.instruction.Instruction.{Instruction as Row}
use Rattle.jr_code.specs.Decoded.{meaning}
use Rattle.jr_code.specs.Coded.{Tables, entry}
use Rattle.jr_code.specs.Instructions.{Instruction, Unknown, Code}
use Rattle.jr_code.specs.Machine.{StackFrame}
use Rattle.jr_code.specs.Views.{tables_of, field_of}
use Rattle.jr_thread_machine.specs.declared.flow.Flow.{Flow}
use Rattle.jr_thread_machine.specs.declared.flow.Flow.TheVariants as flows
use Rattle.jr_thread_machine.specs.declared.flow.Stop.TheVariants as stops
use Rattle.jr_thread_machine.specs.Moves.{Steps}
use Rattle.jr_thread_machine.specs.Fields.{NoInstanceField, InstanceField, NoStaticField, StaticField, IsNoInstanceField, IsInstanceField, IsNoStaticField, IsStaticField}

pub as_row : (plain : Code) (i j : Instruction) (flow : Flow) (old new : StackFrame) → i ≡ j → Steps plain j flow old new → Steps plain i flow old new
as_row plain i j flow old new e s = let P : Instruction → Type 0 = λ i. Steps plain i flow old new in subst P (sym e) s

-- an instruction that names what isn't there
pub nothing : (plain : Code) (i : Instruction) (f : StackFrame) → i ≡ Unknown → Steps plain i (flows.Stops stops.Nothing) f f
nothing plain i f e = as_row plain i Unknown (flows.Stops stops.Nothing) f f e (record { did = λ below. refl; onward = refl; method = refl })

pub entry_at : {A : Type 0} (row : A → Instruction) (table : List A) (n : ℕ) (x : A) → slice_get table n ≡ Some x → entry row table n ≡ row x
entry_at row table n x e = ap (λ o. option_map_or row o Unknown) e

pub no_entry : {A : Type 0} (row : A → Instruction) (table : List A) (n : ℕ) → slice_get table n ≡ None → entry row table n ≡ Unknown
no_entry row table n e = ap (λ o. option_map_or row o Unknown) e

pub mapped_at : {A B : Type 0} (f : A → B) (xs : List A) (n : ℕ) (x : A) → slice_get xs n ≡ Some x → slice_get (map f xs) n ≡ Some (f x)
mapped_at f xs n x e = slice_get-map f xs n ∙ ap (option_map f) e

pub not_mapped : {A B : Type 0} (f : A → B) (xs : List A) (n : ℕ) → slice_get xs n ≡ None → slice_get (map f xs) n ≡ None
not_mapped f xs n e = slice_get-map f xs n ∙ ap (option_map f) e

-- ---- fields

field_at : (code : CodeOfLists) (place : ℕ) (f : FieldOfLists) → slice_get code.fields.items place ≡ Some f → slice_get (tables_of code).fields place ≡ Some (field_of f)
field_at code place f e = mapped_at field_of code.fields.items place f e

pub instance_at : (code : CodeOfLists) (place : ℕ) (f : FieldOfLists) → slice_get code.fields.items place ≡ Some f → (found : Option ℕ) →
    MatchOption found (IsNoInstanceField (field_of f)) (IsInstanceField (field_of f)) →
    MatchOption found (NoInstanceField (tables_of code) place) (InstanceField (tables_of code) place)
instance_at code place f e None h = λ row. entry_at _ (tables_of code).fields place (field_of f) (field_at code place f e) ∙ h row
instance_at code place f e (Some slot) h = (f.kind, λ row. entry_at _ (tables_of code).fields place (field_of f) (field_at code place f e) ∙ h row)

pub static_at : (code : CodeOfLists) (place : ℕ) (f : FieldOfLists) → slice_get code.fields.items place ≡ Some f → (found : Option Cell) →
    MatchOption found (IsNoStaticField (field_of f)) (IsStaticField (field_of f)) →
    MatchOption found (NoStaticField (tables_of code) place) (StaticField (tables_of code) place)
static_at code place f e None h = λ row. entry_at _ (tables_of code).fields place (field_of f) (field_at code place f e) ∙ h row
static_at code place f e (Some c) h = (f.kind, λ row. entry_at _ (tables_of code).fields place (field_of f) (field_at code place f e) ∙ h row)

pub no_field : (code : CodeOfLists) (place : ℕ) → slice_get code.fields.items place ≡ None → slice_get (tables_of code).fields place ≡ None
no_field code place e = not_mapped field_of code.fields.items place e

pub mapped_ok : {A E : Type 0} (P Q : A → Type 0) (r : Result A E) → ((a : A) → P a → Q a) → IfOk r P → IfOk r Q
mapped_ok P Q (Ok a) f h = f a h
mapped_ok P Q (Err e) f h = tt

-- an instruction, by its row
pub of_row : (plain : Code) (t : Tables) (i row : Row) (flow : Flow) (old new : StackFrame) → i ≡ row → Steps plain (meaning t row) flow old new → Steps plain (meaning t i) flow old new
of_row plain t i row flow old new e s = let P : Row → Type 0 = λ i. Steps plain (meaning t i) flow old new in subst P (sym e) s

pub of_row_ok : {E : Type 0} (plain : Code) (t : Tables) (i row : Row) (r : Result Flow E) (old new : StackFrame) → i ≡ row →
    IfOk r (λ flow. (plain : Code) → Steps plain (meaning t row) flow old new) → IfOk r (λ flow. Steps plain (meaning t i) flow old new)
of_row_ok plain t i row r old new e h =
    mapped_ok (λ flow. (plain : Code) → Steps plain (meaning t row) flow old new) (λ flow. Steps plain (meaning t i) flow old new) r
    (λ flow s. of_row plain t i row flow old new e (s plain)) h

pub as_flow : (plain : Code) (i : Instruction) (a b : Flow) (old new : StackFrame) → a ≡ b → Steps plain i a old new → Steps plain i b old new
as_flow plain i a b old new e s = let P : Flow → Type 0 = λ f. Steps plain i f old new in subst P e s
