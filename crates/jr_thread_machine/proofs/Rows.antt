-- The instruction at a place of a method, by its row.
use Rattle.std.proofs.Common.{◌≡◌, ◌<◌, ◌≤◌, ◌↔◌, ℕ, inl, inr, ⊎_elim, [], map, length, Option, Some, None, sym, ap, ◌∙◌, subst}
use Rattle.std.specs.Prelude.{slice_get, MatchOption, IfSome, IsSome}
use Rattle.std.specs.Option.{option_map_or}
use Rattle.std.proofs.lemmas.List.{length-map}
use Rattle.std.proofs.lemmas.Option.{slice_get_within}
use Rattle.jr_base.specs.declared.number.MethodId.{MethodId}
use Rattle.jr_code.specs.declared.code.Code.{Code as CodeOfLists}
use Rattle.jr_code.specs.declared.code.MethodCode.{MethodCode as MethodOfLists}
use Rattle.jr_code.specs.declared.instr.Instr.{Instr}
use Rattle.jr_code.specs.declared.instruction.Instruction.{Instruction as Row}
use Rattle.jr_code.specs.Coded.{Tables, plain}
use Rattle.jr_code.specs.Decoded.{meaning}
use Rattle.jr_code.specs.Instructions.{MethodCode}
use Rattle.jr_code.specs.Machine.{StackFrame, Runs, Ends, act, method_code_at, instructions_of, regions_of}
use Rattle.jr_code.specs.Views.{tables_of, method_of, plain_of, region_of}
use Rattle.jr_code.proofs.Flows.{no_row}
use Rattle.jr_code.proofs.Leaving.{outside_rows}
use Rattle.jr_thread_machine.specs.declared.flow.Stop.TheVariants as stops
use Rattle.jr_thread_machine.specs.declared.handlers.Ran.TheVariants as rans
use Rattle.jr_thread_machine.specs.Steps.{RowAt, NoRowAt, Stopped}
use Rattle.jr_thread_machine.proofs.Runs.{stepped}
use Rattle.jr_thread_machine.proofs.Tables.{mapped_at, not_mapped}

pub row_there : (m : MethodOfLists) (at : ℕ) (i : Instr) (found : Option Row) → slice_get m.instrs.items at ≡ Some i →
    IfSome found (λ row. (t : Tables) → meaning t row ≡ plain t i) → IsSome found ↔ ((1 ≤ i.code) × (i.code ≤ 93)) →
    MatchOption found (NoRowAt m at) (RowAt m at)
row_there m at i (Some row) e means is = λ t. mapped_at (plain t) m.instrs.items at i e ∙ ap Some (sym (means t))
row_there m at i None e means is = λ t. inr (mapped_at (plain t) m.instrs.items at i e ∙ ap Some (no_row t i (outside_rows i.code (λ h. let k : IsSome {T = Row} None = is.1 h in absurd (cc)))))

pub no_row_there : (m : MethodOfLists) (at : ℕ) → slice_get m.instrs.items at ≡ None → NoRowAt m at
no_row_there m at e = λ t. inl (not_mapped (plain t) m.instrs.items at e)

pub row_inside : (m : MethodOfLists) (at : ℕ) (row : Row) (t : Tables) → RowAt m at row → at < length m.instrs.items
row_inside m at row t r =
    let inside : at < length (map (plain t) m.instrs.items) = slice_get_within (map (plain t) m.instrs.items) at (meaning t row) (r t) in
    subst (λ k. at < k) (length-map m.instrs.items (plain t)) inside

-- ---- the method of a number

method_at : (code : CodeOfLists) (m : MethodId) (method : MethodOfLists) → slice_get code.methods.items m.0 ≡ Some method →
    method_code_at (plain_of code) m ≡ Some (method_of (tables_of code) method)
method_at code m method e = mapped_at (method_of (tables_of code)) code.methods.items m.0 method e

pub instructions_are : (code : CodeOfLists) (m : MethodId) (method : MethodOfLists) → slice_get code.methods.items m.0 ≡ Some method →
    instructions_of (plain_of code) m ≡ (method_of (tables_of code) method).instructions
instructions_are code m method e = ap (λ (o : Option MethodCode). option_map_or (λ (c : MethodCode). c.instructions) o []) (method_at code m method e)

pub regions_are : (code : CodeOfLists) (m : MethodId) (method : MethodOfLists) → slice_get code.methods.items m.0 ≡ Some method →
    regions_of (plain_of code) m ≡ map region_of method.regions.items
regions_are code m method e = ap (λ (o : Option MethodCode). option_map_or (λ (c : MethodCode). c.regions) o []) (method_at code m method e)

pub stands_there : (code : CodeOfLists) (m : MethodId) (method : MethodOfLists) (at : ℕ) (row : Row) → slice_get code.methods.items m.0 ≡ Some method → RowAt method at row →
    slice_get (instructions_of (plain_of code) m) at ≡ Some (meaning (tables_of code) row)
stands_there code m method at row e r = ap (λ l. slice_get l at) (instructions_are code m method e) ∙ r (tables_of code)

-- where no row stands the thread goes no further
pub stops_there : (code : CodeOfLists) (method : MethodOfLists) (old new : StackFrame) → slice_get code.methods.items old.method.0 ≡ Some method → NoRowAt method old.at →
    Stopped (plain_of code) (rans.Stops stops.Nothing) old new
stops_there code method old new e none =
    let same = ap (λ l. slice_get l old.at) (instructions_are code old.method method e) in
    record {
      becomes = λ below.
          ⊎_elim
          (λ h. stepped (plain_of code) (Runs old below) Ends
          (ap (λ o. act (plain_of code) o below old.method old.this old.at old.stack old.locals) (same ∙ h)))
          (λ h. stepped (plain_of code) (Runs old below) Ends
          (ap (λ o. act (plain_of code) o below old.method old.this old.at old.stack old.locals) (same ∙ h)))
          (none (tables_of code));
      fits = tt;
    }
