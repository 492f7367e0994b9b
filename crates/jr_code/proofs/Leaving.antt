-- What the verifier finds at an instruction, and along many.
use Rattle.std.proofs.Common.{◌≡◌, ℕ, zero, suc, ◌+◌, ◌-◌, ◌*◌, ◌<◌, ◌≤◌, ◌⊎◌, List, Option, Some, refl, sym, ap, ◌∙◌, subst, arith, inl, inr, ⊎_elim}
use Rattle.std.specs.Prelude.{slice_get, option_map}
use Rattle.std.proofs.lemmas.Option.{slice_get-map}
use Rattle.std.proofs.Math.Nat.{mul-le-mul_left}
use Rattle.jr_base.specs.declared.kind.SlotKind.{SlotKind}
use Rattle.jr_code.specs.declared.code.Code.{Code as CodeOfLists}
use Rattle.jr_code.specs.declared.code.MethodCode.{MethodCode as MethodOfLists}
use Rattle.jr_code.specs.declared.instr.Instr.{Instr}
use Rattle.jr_code.specs.declared.instruction.Flow.{Flow}
use Rattle.jr_code.specs.declared.instruction.Instruction.{Instruction as Row}
use Rattle.jr_code.specs.Instructions.{MethodCode, Code}
use Rattle.jr_code.specs.Coded.{plain}
use Rattle.jr_code.specs.Decoded.{meaning}
use Rattle.jr_code.specs.Checked.{Effect}
use Rattle.jr_code.specs.Paths.{Reaches}
use Rattle.jr_code.specs.Views.{tables_of, plain_of}
use Rattle.jr_code.specs.WellFormed.{plain_method, BreaksRule, Rule, Operands}
use Rattle.jr_code.specs.Verifier.{SettledAt, SettledBelow, open_places, Extends, LeavesBy, Visited, flow_of_row}
use Rattle.jr_code.proofs.Flows.{flows_as, no_row}
use Rattle.jr_code.proofs.Growth.{from_lower, then_extends, settled_stays}

stands_at : (code : CodeOfLists) (m : MethodOfLists) (at : ℕ) (x : Instr) → slice_get m.instrs.items at ≡ Some x →
    slice_get (plain_method code m).instructions at ≡ Some (plain (tables_of code) x)
stands_at code m at x e = slice_get-map (plain (tables_of code)) m.instrs.items at ∙ ap (option_map (plain (tables_of code))) e

pub at_most_or_above : (n m : ℕ) → (n ≤ m) ⊎ (m < n)
at_most_or_above zero m = inl (omega arith)
at_most_or_above (suc n) zero = inr (omega arith)
at_most_or_above (suc n) (suc m) = ⊎_elim (λ (l : n ≤ m). inl (omega arith)) (λ (l : m < n). inr (omega arith)) (at_most_or_above n m)

pub outside_rows : (n : ℕ) → ((1 ≤ n) × (n ≤ 93) → ⊥) → (n ≡ 0) ⊎ (93 < n)
outside_rows zero h = inl refl
outside_rows (suc n) h = ⊎_elim (λ (l : suc n ≤ 93). absurd (h (omega arith, l))) (λ (l : 93 < suc n). inr l) (at_most_or_above (suc n) 93)

pub no_instruction : (code : CodeOfLists) (m : MethodOfLists) (at : ℕ) (ks : List SlotKind) (x : Instr) → slice_get m.instrs.items at ≡ Some x →
    Reaches (plain_of code) (plain_method code m) at ks → (x.code ≡ 0) ⊎ (93 < x.code) → BreaksRule code m at
no_instruction code m at ks x e path out =
    Rule at (Operands at ks (plain (tables_of code) x) path (stands_at code m at x e)
    (λ after f. subst (λ i. Effect (plain_of code) (plain_method code m) i ks after) (no_row (tables_of code) x out) f))

pub no_effect : (code : CodeOfLists) (m : MethodOfLists) (at : ℕ) (ks : List SlotKind) (x : Instr) (r : Row) → slice_get m.instrs.items at ≡ Some x →
    Reaches (plain_of code) (plain_method code m) at ks → meaning (tables_of code) r ≡ plain (tables_of code) x →
    ((after : List SlotKind) → Effect (plain_of code) (plain_method code m) (meaning (tables_of code) r) ks after → ⊥) → BreaksRule code m at
no_effect code m at ks x r e path means none =
    Rule at (Operands at ks (meaning (tables_of code) r) path (stands_at code m at x e ∙ ap Some (sym means)) none)

pub leaves_by : (code : CodeOfLists) (m : MethodOfLists) (shapes : List (Option (List SlotKind))) (at : ℕ) (before after : List SlotKind) (x : Instr) (r : Row) (flow : Flow) →
    slice_get m.instrs.items at ≡ Some x → slice_get shapes at ≡ Some (Some before) → meaning (tables_of code) r ≡ plain (tables_of code) x →
    Effect (plain_of code) (plain_method code m) (meaning (tables_of code) r) before after → flow ≡ flow_of_row r →
    LeavesBy (plain_of code) (plain_method code m) shapes at flow after
leaves_by code m shapes at before after x r flow e shape means effect f = record {
  instruction = meaning (tables_of code) r;
  leaves = record { before = before; shape = shape; stands = stands_at code m at x e ∙ ap Some (sym means); effect = effect };
  flows = flows_as (tables_of code) (plain_of code) (plain_method code m) r before after effect ∙ sym f;
}

pub before_or_there : (p at : ℕ) → p < at + 1 → (p < at) ⊎ (p ≡ at)
before_or_there zero zero h = inr refl
before_or_there zero (suc at) h = inl (omega arith)
before_or_there (suc p) zero h = absurd (omega arith)
before_or_there (suc p) (suc at) h = ⊎_elim (λ (l : p < at). inl (omega arith)) (λ (e : p ≡ at). inr (ap suc e)) (before_or_there p at (omega arith))

module _ (code : Code) (c : MethodCode) where
  pub swept_extends : (old middle new : List (Option (List SlotKind))) (at next : ℕ) → Extends code c old middle 0 → Visited code c middle at new next → Extends code c old new 0
  swept_extends old middle new at next x v = then_extends code c old middle new 0 x (from_lower code c middle new next 0 (omega arith) v.extends)

  pub swept_settled : (middle new : List (Option (List SlotKind))) (at next : ℕ) → SettledBelow code c middle at → Visited code c middle at new next → SettledBelow code c new next
  swept_settled middle new at next s v p h =
      let ahead = v.ahead in
      ⊎_elim (λ (l : p < at). settled_stays code c middle new p next v.extends h (s p l)) (λ (e : p ≡ at). subst (SettledAt code c new) (sym e) v.settled)
      (before_or_there p at (omega arith))

  pub swept_less : (middle new : List (Option (List SlotKind))) (at next n : ℕ) → at < n → Visited code c middle at new next →
      (n + 1) * open_places new + (n - next) < (n + 1) * open_places middle + (n - at)
  swept_less middle new at next n h v =
      let ahead = v.ahead in
      let fewer = v.extends.fewer in
      ⊎_elim
      (λ (e : next ≡ at + 1). omega (arith, mul-le-mul_left (n + 1) fewer))
      (λ (l : open_places new < open_places middle).
      let more : open_places new + 1 ≤ open_places middle = omega arith in
      omega (arith, mul-le-mul_left (n + 1) more))
      v.progress
