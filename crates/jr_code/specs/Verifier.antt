-- What the verifier's functions keep and find, in the words of the rules.
use Rattle.std.specs.Prelude.{◌≡◌, ◌≢◌, ℕ, ◌+◌, ◌<◌, ◌≤◌, ◌⊎◌, Bool, true, false, List, [], ◌∷◌, length, min, Option, Some, None, slice_get, slice_set}
use Rattle.std.specs.Option.{option_map_or}
use Rattle.jr_base.specs.declared.kind.SlotKind.{SlotKind}
use Rattle.jr_base.specs.declared.kind.SlotKind.TheVariants.{Ref as Reference, Caught as CaughtKind}
use Rattle.jr_code.specs.declared.code.Code.{Code as CodeOfLists}
use Rattle.jr_code.specs.declared.code.MethodCode.{MethodCode as MethodOfLists}
use Rattle.jr_code.specs.declared.code.Region.{Region as RegionOfLists}
use Rattle.jr_code.specs.declared.code.RegionKind.TheVariants.{Exit}
use Rattle.jr_code.specs.declared.shapes.Arrival.{Arrival}
use Rattle.jr_code.specs.declared.shapes.Arrival.TheVariants.{First, Same, Other}
use Rattle.jr_code.specs.declared.shapes.Stop.{Stop}
use Rattle.jr_code.specs.declared.shapes.Stop.TheVariants.{Broken, Memory}
use Rattle.jr_code.specs.declared.instruction.Instruction.{Instruction as Row}
use Rattle.jr_code.specs.declared.instruction.Instruction.TheVariants as rows
use Rattle.jr_code.specs.declared.instruction.Flow.{Flow}
use Rattle.jr_code.specs.declared.instruction.Flow.TheVariants as flows
use Rattle.jr_code.specs.Instructions as i
use Rattle.jr_base.specs.declared.finish.Fault.{Fault}
use Rattle.jr_code.specs.Instructions.{Instruction, Region, MethodCode, Code}
use Rattle.jr_code.specs.Coded.{FieldCode}
use Rattle.jr_code.specs.Checked.{NoneCaught, kinds_pushed, kinds_with, Effect, RightAt, RightKind}
use Rattle.jr_code.specs.Paths.{IsNext, Reaches}
use Rattle.jr_code.specs.WellFormed.{BreaksRule}

-- the kinds change by taking some, topmost last, and giving one or none
abbrev pub Changes : List SlotKind → Option SlotKind → List SlotKind → List SlotKind → Type 0
Changes takes None before after = before ≡ kinds_pushed takes after
Changes [] (Some k) before after = after ≡ k ∷ before
Changes (t ∷ ts) (Some k) before after = (rest : List SlotKind) × (before ≡ kinds_pushed ts (t ∷ rest)) × (after ≡ k ∷ rest)

-- they do, or cannot
abbrev pub HasChanged : List SlotKind → Option SlotKind → List SlotKind → List SlotKind → Bool → Type 0
HasChanged takes gives before after true = Changes takes gives before after
HasChanged takes gives before after false = (other : List SlotKind) → Changes takes gives before other → ⊥

-- a call takes its arguments, topmost last, and gives its result
abbrev pub Calls : List SlotKind → Option SlotKind → List SlotKind → List SlotKind → Type 0
Calls takes outcome before after = (rest : List SlotKind) × (before ≡ kinds_pushed takes rest) × (after ≡ kinds_with outcome rest)

abbrev pub HasCalled : List SlotKind → Option SlotKind → List SlotKind → List SlotKind → Bool → Type 0
HasCalled takes outcome before after true = Calls takes outcome before after
HasCalled takes outcome before after false = (other : List SlotKind) → Calls takes outcome before other → ⊥

-- so many values are taken, of any kinds but that of an exception
abbrev pub TakesValues : ℕ → List SlotKind → List SlotKind → Type 0
TakesValues n before after = (ks : List SlotKind) × (length ks ≡ n) × NoneCaught ks × (before ≡ kinds_pushed ks after)

abbrev pub HasTakenValues : ℕ → List SlotKind → List SlotKind → Bool → Type 0
HasTakenValues n before after true = TakesValues n before after
HasTakenValues n before after false = (other : List SlotKind) → TakesValues n before other → ⊥

-- the kinds after an instruction, or none can stand there
abbrev pub HasEffect : Code → MethodCode → Instruction → List SlotKind → List SlotKind → Bool → Type 0
HasEffect code c i before after true = Effect code c i before after
HasEffect code c i before after false = (other : List SlotKind) → Effect code c i before other → ⊥

-- the kind of a value, and that of an instance field and a static one
abbrev pub value_kind : SlotKind → Option SlotKind
value_kind CaughtKind = None
value_kind k = Some k

abbrev pub instance_kind : Option FieldCode → Option SlotKind
instance_kind None = None
instance_kind (Some f) = option_map_or (λ home. None) f.home (value_kind f.kind)

abbrev pub static_kind : Option FieldCode → Option SlotKind
static_kind None = None
static_kind (Some f) = option_map_or (λ home. value_kind f.kind) f.home None

-- kinds come to a place: the first ones there, the same, or others
abbrev pub HasArrived : List (Option (List SlotKind)) → ℕ → List SlotKind → List (Option (List SlotKind)) → Arrival → Type 0
HasArrived old at ks new First = (slice_get old at ≡ Some None) × (new ≡ slice_set old at (Some ks))
HasArrived old at ks new Same = (slice_get old at ≡ Some (Some ks)) × (new ≡ old)
HasArrived old at ks new Other = (there : List SlotKind) × (slice_get old at ≡ Some (Some there)) × (there ≢ ks) × (new ≡ old)

-- the kinds at a place are these, or it has none
abbrev pub HasRead : List (Option (List SlotKind)) → ℕ → List SlotKind → Bool → Type 0
HasRead shapes at ks true = slice_get shapes at ≡ Some (Some ks)
HasRead shapes at ks false = slice_get shapes at ≡ Some None

abbrev pub IsKnown : List (Option (List SlotKind)) → ℕ → Type 0
IsKnown shapes at = (ks : List SlotKind) × (slice_get shapes at ≡ Some (Some ks))

-- kinds that stand at places stay there
abbrev pub Grown : List (Option (List SlotKind)) → List (Option (List SlotKind)) → Type 0
Grown old new = (at : ℕ) (ks : List SlotKind) → slice_get old at ≡ Some (Some ks) → slice_get new at ≡ Some (Some ks)

-- the kinds at places are those that paths bring
abbrev pub OnPaths : Code → MethodCode → List (Option (List SlotKind)) → Type 0
OnPaths code c shapes = (at : ℕ) (ks : List SlotKind) → slice_get shapes at ≡ Some (Some ks) → Reaches code c at ks

-- the instruction at the place, if a path reaches it, keeps the rules
abbrev pub SettledAt : Code → MethodCode → List (Option (List SlotKind)) → ℕ → Type 0
SettledAt code c shapes at = (ks : List SlotKind) → slice_get shapes at ≡ Some (Some ks) → RightAt code c shapes at

-- how many places have no kinds
abbrev pub open_places : List (Option (List SlotKind)) → ℕ
open_places [] = 0
open_places (None ∷ shapes) = 1 + open_places shapes
open_places (Some ks ∷ shapes) = open_places shapes

-- the kinds found so far, after some more of them; none is new before a place
pub record Extends (code : Code) (c : MethodCode) (old new : List (Option (List SlotKind))) (from : ℕ) : Type 0 where
  pub grown : Grown old new
  pub on_paths : OnPaths code c new
  pub size : length new ≡ length old
  pub below : (at : ℕ) → at < from → slice_get new at ≡ slice_get old at
  pub fewer : open_places new ≤ open_places old

-- kinds stand at a place now; whether they are the first there
pub record Reached (code : Code) (c : MethodCode) (old : List (Option (List SlotKind))) (at : ℕ) (ks : List SlotKind) (new : List (Option (List SlotKind))) (first : Bool) : Type 0 where
  pub extends : Extends code c old new at
  pub stands : slice_get new at ≡ Some (Some ks)
  pub less : first ≡ true → open_places new < open_places old
  pub same : first ≡ false → new ≡ old

-- an instruction whose operands are found, and the kinds after it
pub record Leaves (code : Code) (c : MethodCode) (shapes : List (Option (List SlotKind))) (at : ℕ) (i : Instruction) (after : List SlotKind) : Type 0 where
  pub before : List SlotKind
  pub shape : slice_get shapes at ≡ Some (Some before)
  pub stands : slice_get c.instructions at ≡ Some i
  pub effect : Effect code c i before after

-- where an instruction goes on
abbrev pub flow_of : Instruction → Flow
flow_of (i.Jump to) = flows.Jump to
flow_of (i.JumpIf to) = flows.Branch to
flow_of (i.JumpNot to) = flows.Branch to
flow_of (i.BackTo to) = flows.Back to
flow_of i.ReturnNothing = flows.Ends
flow_of i.ReturnTop = flows.Ends
flow_of (i.ThrowNew fault) = flows.Ends
flow_of (i.ThrowLocal x) = flows.Ends
flow_of _ = flows.Next

abbrev pub flow_of_row : Row → Flow
flow_of_row (rows.Jump to) = flows.Jump to
flow_of_row (rows.JumpIf to) = flows.Branch to
flow_of_row (rows.JumpNot to) = flows.Branch to
flow_of_row (rows.BackTo to) = flows.Back to
flow_of_row rows.ReturnNothing = flows.Ends
flow_of_row rows.ReturnTop = flows.Ends
flow_of_row (rows.ThrowNew fault) = flows.Ends
flow_of_row (rows.ThrowLocal x) = flows.Ends
flow_of_row _ = flows.Next

-- an instruction with this flow
pub record LeavesBy (code : Code) (c : MethodCode) (shapes : List (Option (List SlotKind))) (at : ℕ) (flow : Flow) (after : List SlotKind) : Type 0 where
  pub instruction : Instruction
  pub leaves : Leaves code c shapes at instruction after
  pub flows : flow_of instruction ≡ flow

-- an instruction that goes on at a place
pub record Leads (code : Code) (c : MethodCode) (shapes : List (Option (List SlotKind))) (at : ℕ) (to : ℕ) (after : List SlotKind) : Type 0 where
  pub instruction : Instruction
  pub leaves : Leaves code c shapes at instruction after
  pub next : IsNext at instruction to

-- an instruction is settled, and the verifier goes on behind it, or at an earlier place that it reached first
pub record Visited (code : Code) (c : MethodCode) (old : List (Option (List SlotKind))) (at : ℕ) (new : List (Option (List SlotKind))) (next : ℕ) : Type 0 where
  pub extends : Extends code c old new next
  pub settled : SettledAt code c new at
  pub ahead : next ≤ at + 1
  pub progress : (next ≡ at + 1) ⊎ (open_places new < open_places old)

-- all instructions before a place are settled
abbrev pub SettledBelow : Code → MethodCode → List (Option (List SlotKind)) → ℕ → Type 0
SettledBelow code c shapes from = (at : ℕ) → at < from → SettledAt code c shapes at

-- instructions are settled up to a place, which is no earlier than that end
pub record SweptTo (code : Code) (c : MethodCode) (old new : List (Option (List SlotKind))) (end at : ℕ) : Type 0 where
  pub extends : Extends code c old new 0
  pub settled : SettledBelow code c new at
  pub reached : end ≤ at
  pub inside : at ≤ length old

-- so many operands stand at some place, and at none more
pub record IsDeepest (shapes : List (Option (List SlotKind))) (depth : ℕ) : Type 0 where
  pub most : (at : ℕ) (ks : List SlotKind) → slice_get shapes at ≡ Some (Some ks) → length ks ≤ depth
  pub some : (at : ℕ) × (ks : List SlotKind) × (slice_get shapes at ≡ Some (Some ks)) × (length ks ≡ depth)

-- no path is known to reach a place from one to another
abbrev pub Untouched : List (Option (List SlotKind)) → ℕ → ℕ → Type 0
Untouched shapes from to = (at : ℕ) (ks : List SlotKind) → from ≤ at → at < to → slice_get shapes at ≡ Some (Some ks) → ⊥

abbrev pub IsTouched : List (Option (List SlotKind)) → ℕ → ℕ → ℕ → Type 0
IsTouched shapes from to at = (ks : List SlotKind) × (from ≤ at) × (at < to) × (slice_get shapes at ≡ Some (Some ks))

-- a catch of this number, if it is one, is right
abbrev pub CatchDone : MethodCode → List (Option (List SlotKind)) → ℕ → Type 0
CatchDone c shapes number =
    (r : Region) (fault : Fault) (target : ℕ) → slice_get c.regions number ≡ Some r → r.kind ≡ i.CatchAt fault target →
    RightKind c shapes r.first r.past (i.CatchAt fault target)

-- a handler is reached first now, from that place on
pub record Woken (code : Code) (c : MethodCode) (old new : List (Option (List SlotKind))) (low : ℕ) : Type 0 where
  pub extends : Extends code c old new low
  pub less : open_places new < open_places old
  pub inside : low ≤ length old

-- catches of numbers below one are right, or handlers are reached first now
abbrev pub Caught : Code → MethodCode → List (Option (List SlotKind)) → List (Option (List SlotKind)) → ℕ → Option ℕ → Type 0
Caught code c old new number None = (new ≡ old) × ((k : ℕ) → k < number → CatchDone c new k)
Caught code c old new number (Some low) = Woken code c old new low

-- what is still to be settled: from a place on, or nothing
abbrev pub Pending : Code → MethodCode → List (Option (List SlotKind)) → ℕ → ℕ → Option ℕ → Type 0
Pending code c shapes instructions regions None = SettledBelow code c shapes instructions × ((k : ℕ) → k < regions → CatchDone c shapes k)
Pending code c shapes instructions regions (Some at) = SettledBelow code c shapes at × (at ≤ instructions)

abbrev pub rounds : List (Option (List SlotKind)) → Option ℕ → ℕ
rounds shapes None = 0
rounds shapes (Some at) = open_places shapes + 1

-- the lower of two places
abbrev pub lower_of : Option ℕ → Option ℕ → Option ℕ
lower_of (Some a) (Some b) = Some (min a b)
lower_of (Some a) None = Some a
lower_of None b = b

-- the locals of exits before that number are references, or one is none
abbrev pub ExitsRight : MethodOfLists → ℕ → Type 0
ExitsRight m number = (k : ℕ) (r : RegionOfLists) (x : ℕ) → k < number → slice_get m.regions.items k ≡ Some r → r.kind ≡ Exit x → slice_get m.locals.items x ≡ Some Reference

pub record ExitWrong (m : MethodOfLists) (number : ℕ) : Type 0 where
  pub region : RegionOfLists
  pub place : ℕ
  pub stands : slice_get m.regions.items number ≡ Some region
  pub kind : region.kind ≡ Exit place
  pub wrong : slice_get m.locals.items place ≢ Some Reference

-- why a method isn't found right
abbrev pub Tells : CodeOfLists → MethodOfLists → Stop → Type 0
Tells code m (Broken at) = BreaksRule code m at
Tells code m Memory = Unit {0}
