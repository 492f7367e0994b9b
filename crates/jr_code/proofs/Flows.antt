-- Where instructions go on.
use Rattle.std.proofs.Common.{◌≡◌, ℕ, ◌+◌, ◌<◌, ◌≤◌, ◌⊎◌, Bool, true, false, List, ◌∷◌, Option, Some, None, refl, sym, ap, subst, arith, inl, inr}
use Rattle.std.specs.Prelude.{slice_get, slice_index_or}
use Rattle.std.specs.Option.{option_map_or}
use Rattle.std.proofs.lemmas.List.{get_or_past}
use Rattle.jr_base.specs.declared.kind.SlotKind.{SlotKind}
use Rattle.jr_code.specs.declared.instruction.Flow.{Flow}
use Rattle.jr_code.specs.declared.instruction.Flow.TheVariants as flows
use Rattle.jr_code.specs.declared.instruction.Instruction.{Instruction as Row}
use Rattle.jr_code.specs.declared.instruction.Instruction.TheVariants as rows
use Rattle.jr_code.specs.Instructions.{Instruction, Push, Jump, JumpIf, JumpNot, BackTo, GetField, PutField, GetStatic, PutStatic, GetElement, PutElement, Make, MakeArray, ReturnNothing, ReturnTop, AssertThat, PrintAll, ThrowNew, ThrowLocal, Unknown, MethodCode, Code}
use Rattle.jr_code.specs.Checked.{Effect, GoesTo}
use Rattle.jr_base.specs.Threads.{class_object, cell}
use Rattle.jr_base.specs.declared.number.ObjId.{ObjId}
use Rattle.jr_base.specs.declared.value.Value.TheVariants as values
use Rattle.jr_code.specs.declared.instr.Instr.{Instr}
use Rattle.jr_code.specs.Coded.{Tables, instance_field, static_field, plain}
use Rattle.jr_code.specs.Coded.{rows as rows_of}
use Rattle.jr_code.specs.Decoded.{meaning}
use Rattle.jr_code.specs.Paths.{IsNext, GoesItsWay}
use Rattle.jr_code.specs.WellFormed.{Breaks, Direction}
use Rattle.jr_code.specs.Verifier.{flow_of, flow_of_row, LeavesBy, Leads, Visited, Reached, OnPaths}
use Rattle.jr_code.proofs.Growth.{unchanged, from_lower, then_extends, settled_by}

abbrev pub GoesBy : List (Option (List SlotKind)) → ℕ → Flow → List SlotKind → Type 0
GoesBy shapes at flows.Next after = slice_get shapes (at + 1) ≡ Some (Some after)
GoesBy shapes at (flows.Jump to) after = (at < to) × (slice_get shapes to ≡ Some (Some after))
GoesBy shapes at (flows.Branch to) after = (at < to) × (slice_get shapes to ≡ Some (Some after)) × (slice_get shapes (at + 1) ≡ Some (Some after))
GoesBy shapes at (flows.Back to) after = (to ≤ at) × (slice_get shapes to ≡ Some (Some after))
GoesBy shapes at flows.Ends after = Unit {0}

abbrev pub NextBy : ℕ → Flow → ℕ → Type 0
NextBy at flows.Next next = next ≡ at + 1
NextBy at (flows.Jump to) next = next ≡ to
NextBy at (flows.Branch to) next = (next ≡ to) ⊎ (next ≡ at + 1)
NextBy at (flows.Back to) next = next ≡ to
NextBy at flows.Ends next = ⊥

abbrev pub WayBy : ℕ → Flow → Type 0
WayBy at (flows.Jump to) = at < to
WayBy at (flows.Branch to) = at < to
WayBy at (flows.Back to) = to ≤ at
WayBy at _ = Unit {0}

goes_by : (shapes : List (Option (List SlotKind))) (at : ℕ) (i : Instruction) (after : List SlotKind) → GoesBy shapes at (flow_of i) after → GoesTo shapes at i after
goes_by shapes at (Jump to) after h = h
goes_by shapes at (JumpIf to) after h = h
goes_by shapes at (JumpNot to) after h = h
goes_by shapes at (BackTo to) after h = h
goes_by shapes at ReturnNothing after h = h
goes_by shapes at ReturnTop after h = h
goes_by shapes at (ThrowNew f) after h = h
goes_by shapes at (ThrowLocal x) after h = h
goes_by shapes at _ after h = h

next_by : (at : ℕ) (i : Instruction) (next : ℕ) → NextBy at (flow_of i) next → IsNext at i next
next_by at (Jump to) next h = h
next_by at (JumpIf to) next h = h
next_by at (JumpNot to) next h = h
next_by at (BackTo to) next h = h
next_by at ReturnNothing next h = h
next_by at ReturnTop next h = h
next_by at (ThrowNew f) next h = h
next_by at (ThrowLocal x) next h = h
next_by at _ next h = h

pub way_by : (at : ℕ) (i : Instruction) → GoesItsWay at i → WayBy at (flow_of i)
way_by at (Jump to) h = h
way_by at (JumpIf to) h = h
way_by at (JumpNot to) h = h
way_by at (BackTo to) h = h
way_by at _ h = tt

pub goes_with : (shapes : List (Option (List SlotKind))) (at : ℕ) (i : Instruction) (flow : Flow) (after : List SlotKind) → flow_of i ≡ flow → GoesBy shapes at flow after → GoesTo shapes at i after
goes_with shapes at i flow after e h = goes_by shapes at i after (subst (λ f. GoesBy shapes at f after) (sym e) h)

pub way_with : (at : ℕ) (i : Instruction) (flow : Flow) → flow_of i ≡ flow → GoesItsWay at i → WayBy at flow
way_with at i flow e h = subst (WayBy at) e (way_by at i h)

module _ (code : Code) (c : MethodCode) where
  pub leads : (shapes : List (Option (List SlotKind))) (at to : ℕ) (flow : Flow) (after : List SlotKind) → LeavesBy code c shapes at flow after → NextBy at flow to → Leads code c shapes at to after
  leads shapes at to flow after l n = record {
    instruction = l.instruction;
    leaves = l.leaves;
    next = next_by at l.instruction to (subst (λ f. NextBy at f to) (sym l.flows) n);
  }

  pub visited : (old new : List (Option (List SlotKind))) (at to : ℕ) (flow : Flow) (after : List SlotKind) (first : Bool) → LeavesBy code c old at flow after →
      Reached code c old to after new first → at + 1 ≤ to → GoesBy new at flow after → Visited code c old at new (at + 1)
  visited old new at to flow after first l r h g = record {
    extends = from_lower code c old new to (at + 1) h r.extends;
    settled = settled_by code c old new at to l.instruction after l.leaves r.extends (goes_with new at l.instruction flow after l.flows g);
    ahead = omega arith;
    progress = inl refl;
  }

  pub visited_branch : (old middle new : List (Option (List SlotKind))) (at to : ℕ) (after : List SlotKind) (first second : Bool) → LeavesBy code c old at (flows.Branch to) after →
      Reached code c old to after middle first → Reached code c middle (at + 1) after new second → at < to → Visited code c old at new (at + 1)
  visited_branch old middle new at to after first second l r q h =
      let x = then_extends code c old middle new (at + 1) (from_lower code c old middle to (at + 1) (omega arith) r.extends) q.extends in
      record {
        extends = x;
        settled = settled_by code c old new at (at + 1) l.instruction after l.leaves x
            (goes_with new at l.instruction (flows.Branch to) after l.flows (h, q.extends.grown to after r.stands, q.stands));
        ahead = omega arith;
        progress = inl refl;
      }

  pub visited_back : (old new : List (Option (List SlotKind))) (at to : ℕ) (after : List SlotKind) → LeavesBy code c old at (flows.Back to) after →
      Reached code c old to after new true → to ≤ at → Visited code c old at new to
  visited_back old new at to after l r h = record {
    extends = r.extends;
    settled = settled_by code c old new at to l.instruction after l.leaves r.extends (goes_with new at l.instruction (flows.Back to) after l.flows (h, r.stands));
    ahead = omega arith;
    progress = inr (r.less refl);
  }

  pub visited_again : (old new : List (Option (List SlotKind))) (at to : ℕ) (after : List SlotKind) → LeavesBy code c old at (flows.Back to) after →
      OnPaths code c old → Reached code c old to after new false → to ≤ at → Visited code c old at new (at + 1)
  visited_again old new at to after l sound r h =
      let stands = subst (λ s. slice_get s to ≡ Some (Some after)) (r.same refl) r.stands in
      let x = unchanged code c old (at + 1) sound in
      subst (λ new. Visited code c old at new (at + 1)) (sym (r.same refl)) (record {
        extends = x;
        settled = settled_by code c old old at (at + 1) l.instruction after l.leaves x (goes_with old at l.instruction (flows.Back to) after l.flows (h, stands));
        ahead = omega arith;
        progress = inl refl;
      })

  pub visited_end : (old : List (Option (List SlotKind))) (at : ℕ) (after : List SlotKind) → LeavesBy code c old at flows.Ends after → OnPaths code c old → Visited code c old at old (at + 1)
  visited_end old at after l sound =
      let x = unchanged code c old (at + 1) sound in
      record {
        extends = x;
        settled = settled_by code c old old at (at + 1) l.instruction after l.leaves x (goes_with old at l.instruction flows.Ends after l.flows tt);
        ahead = omega arith;
        progress = inl refl;
      }

  pub visited_none : (old : List (Option (List SlotKind))) (at : ℕ) → OnPaths code c old → slice_get old at ≡ Some None → Visited code c old at old (at + 1)
  visited_none old at sound none = record {
    extends = unchanged code c old (at + 1) sound;
    settled = λ ks here. absurd (cc);
    ahead = omega arith;
    progress = inl refl;
  }

  pub wrong_way : (shapes : List (Option (List SlotKind))) (at : ℕ) (flow : Flow) (after : List SlotKind) → LeavesBy code c shapes at flow after → OnPaths code c shapes →
      (WayBy at flow → ⊥) → Breaks code c at
  wrong_way shapes at flow after l sound never =
      Direction at l.leaves.before l.instruction (sound at l.leaves.before l.leaves.shape) l.leaves.stands (λ h. never (way_with at l.instruction flow l.flows h))

entry_next : {A : Type 0} (code : Code) (c : MethodCode) (row : A → Instruction) (flow : Flow) (o : Option A) (before after : List SlotKind) →
    ((a : A) → flow_of (row a) ≡ flow) → Effect code c (option_map_or row o Unknown) before after → flow_of (option_map_or row o Unknown) ≡ flow
entry_next code c row flow None before after all e = absurd e
entry_next code c row flow (Some a) before after all e = all a

home_next : (code : Code) (c : MethodCode) (home : Option ObjId) (slot : ℕ) (kind : SlotKind) (row : ℕ → SlotKind → Instruction) → ((s : ℕ) (k : SlotKind) → flow_of (row s k) ≡ flows.Next) →
    flow_of (option_map_or (λ (home : ObjId). Unknown) home (row slot kind)) ≡ flows.Next
home_next code c (Some home) slot kind row all = refl
home_next code c None slot kind row all = all slot kind

static_next : (code : Code) (c : MethodCode) (home : Option ObjId) (slot : ℕ) (kind : SlotKind) (row : ObjId → ℕ → SlotKind → Instruction) → ((o : ObjId) (s : ℕ) (k : SlotKind) → flow_of (row o s k) ≡ flows.Next) →
    flow_of (option_map_or (λ home. row home slot kind) home Unknown) ≡ flows.Next
static_next code c None slot kind row all = refl
static_next code c (Some home) slot kind row all = all home slot kind

-- the row tells where an instruction goes on, if it has an effect
pub flows_as : (t : Tables) (code : Code) (c : MethodCode) (r : Row) (before after : List SlotKind) → Effect code c (meaning t r) before after → flow_of (meaning t r) ≡ flow_of_row r
flows_as t code c (rows.PushClass a) before after e = entry_next code c (λ c. Push (values.Ref (class_object c))) flows.Next (slice_get t.classes a) before after (λ a. refl) e
flows_as t code c (rows.PushLong a) before after e = entry_next code c (λ n. Push (values.Long n)) flows.Next (slice_get t.longs a) before after (λ a. refl) e
flows_as t code c (rows.GetField a) before after e = entry_next code c (instance_field GetField) flows.Next (slice_get t.fields a) before after (λ f. home_next code c f.home f.slot f.kind GetField (λ s k. refl)) e
flows_as t code c (rows.PutField a) before after e = entry_next code c (instance_field PutField) flows.Next (slice_get t.fields a) before after (λ f. home_next code c f.home f.slot f.kind PutField (λ s k. refl)) e
flows_as t code c (rows.GetStatic a) before after e =
    entry_next code c (static_field (λ home slot kind. GetStatic (cell home slot) kind)) flows.Next (slice_get t.fields a) before after
    (λ f. static_next code c f.home f.slot f.kind (λ home slot kind. GetStatic (cell home slot) kind) (λ o s k. refl)) e
flows_as t code c (rows.PutStatic a) before after e =
    entry_next code c (static_field (λ home slot kind. PutStatic (cell home slot) kind)) flows.Next (slice_get t.fields a) before after
    (λ f. static_next code c f.home f.slot f.kind (λ home slot kind. PutStatic (cell home slot) kind) (λ o s k. refl)) e
flows_as t code c (rows.GetElement a) before after e = entry_next code c GetElement flows.Next (slice_get t.elems a) before after (λ a. refl) e
flows_as t code c (rows.PutElement a) before after e = entry_next code c PutElement flows.Next (slice_get t.elems a) before after (λ a. refl) e
flows_as t code c (rows.Make a) before after e = entry_next code c Make flows.Next (slice_get t.makes a) before after (λ a. refl) e
flows_as t code c (rows.MakeArray a) before after e = entry_next code c MakeArray flows.Next (slice_get t.elems a) before after (λ a. refl) e
flows_as t code c (rows.AssertThat a) before after e = entry_next code c (λ a. AssertThat a.clause a.scope) flows.Next (slice_get t.asserts a) before after (λ a. refl) e
flows_as t code c (rows.PrintAll a) before after e = entry_next code c PrintAll flows.Next (slice_get t.prints a) before after (λ a. refl) e
flows_as t code c (rows.ThrowNew a) before after e = entry_next code c ThrowNew flows.Ends (slice_get t.faults a) before after (λ a. refl) e
flows_as t code c _ before after e = refl

-- a number that is no row's
pub no_row : (t : Tables) (i : Instr) → (i.code ≡ 0) ⊎ (93 < i.code) → plain t i ≡ Unknown
no_row t i (inl e) = ap (λ n. slice_index_or (Unknown ∷ rows_of t i.arg) n Unknown) e
no_row t i (inr h) = get_or_past (Unknown ∷ rows_of t i.arg) i.code Unknown (omega arith)
