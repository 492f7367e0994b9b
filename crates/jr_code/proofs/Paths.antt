-- What paths bring stands in each right list of kinds, so code that keeps the rules breaks none.
use Rattle.std.proofs.Common.{◌≡◌, ℕ, ◌<◌, ◌≤◌, List, [], ◌∷◌, length, Option, Some, zero, suc, refl, sym, ◌∙◌, subst, arith, ⊎_elim}
use Rattle.std.specs.Prelude.{slice_get}
use Rattle.std.proofs.lemmas.Option.{slice_get_within}
use Rattle.jr_base.specs.declared.kind.SlotKind.{SlotKind}
use Rattle.jr_base.specs.declared.kind.SlotKind.TheVariants.{Caught as CaughtKind}
use Rattle.jr_code.specs.Instructions.{Instruction, Jump, JumpIf, JumpNot, BackTo, ReturnNothing, ReturnTop, ThrowNew, ThrowLocal, CatchAt, Region, MethodCode, Code}
use Rattle.jr_code.specs.Checked.{Effect, GoesTo, RightAt, RightKind, RightRegion, RightRegions, MethodRight}
use Rattle.jr_code.specs.Paths.{IsNext, GoesItsWay, HandledAt, Reaches, Begins, Follows, Catches}
use Rattle.jr_code.specs.WellFormed.{Breaks, Operands, Merge, Direction, RunsOff, NoInstruction, CaughtFormal, CaughtResult, ExitOf, Handler}
use Rattle.jr_code.proofs.Forced.{forced}

-- wherever an instruction goes, the kinds after it stand
pub next_stands : (shapes : List (Option (List SlotKind))) (at next : ℕ) (i : Instruction) (after : List SlotKind) →
    GoesTo shapes at i after → IsNext at i next → slice_get shapes next ≡ Some (Some after)
next_stands shapes at next (Jump to) after g n = rw n g.1
next_stands shapes at next (JumpIf to) after g n = ⊎_elim (λ e. rw e g.1) (λ e. rw e g.2) n
next_stands shapes at next (JumpNot to) after g n = ⊎_elim (λ e. rw e g.1) (λ e. rw e g.2) n
next_stands shapes at next (BackTo to) after g n = rw n g.1
next_stands shapes at next ReturnNothing after g n = absurd n
next_stands shapes at next ReturnTop after g n = absurd n
next_stands shapes at next (ThrowNew fault) after g n = absurd n
next_stands shapes at next (ThrowLocal x) after g n = absurd n
next_stands shapes at next _ after g n = rw n g

pub went_its_way : (shapes : List (Option (List SlotKind))) (at : ℕ) (i : Instruction) (after : List SlotKind) → GoesTo shapes at i after → GoesItsWay at i
went_its_way shapes at (Jump to) after g = g.0
went_its_way shapes at (JumpIf to) after g = g.0
went_its_way shapes at (JumpNot to) after g = g.0
went_its_way shapes at (BackTo to) after g = g.0
went_its_way shapes at _ after g = tt

pub region_right : (c : MethodCode) (shapes : List (Option (List SlotKind))) (rs : List Region) (n : ℕ) (r : Region) →
    RightRegions c shapes rs → slice_get rs n ≡ Some r → RightRegion c shapes r
region_right c shapes [] n r right e = absurd (cc)
region_right c shapes (s ∷ rs) zero r right e = let same : s ≡ r = cc in subst (RightRegion c shapes) same right.0
region_right c shapes (s ∷ rs) (suc n) r right e = region_right c shapes rs n r right.1 e

pub some_one : {A : Type 0} (a b : A) → Some a ≡ Some b → a ≡ b
some_one a b e = cc

module _ (code : Code) (c : MethodCode) (right : MethodRight code c) where
  handler_stands : (at target : ℕ) (ks : List SlotKind) → slice_get right.shapes at ≡ Some (Some ks) → HandledAt c at target →
      (at < target) × (slice_get right.shapes target ≡ Some (Some (CaughtKind ∷ [])))
  handler_stands at target ks here h =
      let r = region_right c right.shapes c.regions h.number h.region right.regions h.stands in
      let k : RightKind c right.shapes h.region.first h.region.past (CatchAt h.fault target) =
      subst (RightKind c right.shapes h.region.first h.region.past) h.catches r in
      k at ks h.first h.past here

  pub stands_on_path : (at : ℕ) (ks : List SlotKind) → Reaches code c at ks → slice_get right.shapes at ≡ Some (Some ks)
  stands_on_path at ks Begins = right.begins
  stands_on_path next after (Follows at _ before _ i path stands effect n) =
      next_stands right.shapes at next i after (forced code c right at before after i (stands_on_path at before path) stands effect) n
  stands_on_path target ks (Catches at _ before path h) = (handler_stands at target before (stands_on_path at before path) h).1

  -- where a path leads, the instruction keeps the rules
  pub right_on_path : (at : ℕ) (ks : List SlotKind) → Reaches code c at ks → RightAt code c right.shapes at
  right_on_path at ks path = right.each at ks (stands_on_path at ks path)

  before_same : (at : ℕ) (ks : List SlotKind) (path : Reaches code c at ks) → (right_on_path at ks path).before ≡ ks
  before_same at ks path =
      let here = right_on_path at ks path in
      some_one here.before ks (some_one (Some here.before) (Some ks) (sym here.shape ∙ stands_on_path at ks path))

  effect_on_path : (at : ℕ) (ks : List SlotKind) (i : Instruction) → Reaches code c at ks → slice_get c.instructions at ≡ Some i →
      (after : List SlotKind) × Effect code c i ks after × GoesTo right.shapes at i after
  effect_on_path at ks i path stands =
      let here = right_on_path at ks path in
      let same : here.instruction ≡ i = some_one here.instruction i (sym here.stands ∙ stands) in (
        here.after,
        subst (λ i. Effect code c i ks here.after) same (subst (λ ks. Effect code c here.instruction ks here.after) (before_same at ks path) here.effect),
        subst (λ i. GoesTo right.shapes at i here.after) same here.goes,
      )

  pub nothing_breaks : (at : ℕ) → Breaks code c at → ⊥
  nothing_breaks at (Operands _ ks i path stands none) = let e = effect_on_path at ks i path stands in none e.0 e.1
  nothing_breaks at (Merge _ ks other path second differ) =
      differ (some_one ks other (some_one (Some ks) (Some other) (sym (stands_on_path at ks path) ∙ stands_on_path at other second)))
  nothing_breaks at (Direction _ ks i path stands wrong) =
      let e = effect_on_path at ks i path stands in wrong (went_its_way right.shapes at i e.0 e.2)
  nothing_breaks at (RunsOff _ next ks after i path stands effect n past) =
      let there = right_on_path next after (Follows at next ks after i path stands effect n) in
      let inside : next < length c.instructions = slice_get_within c.instructions next there.instruction there.stands in
      omega arith
  nothing_breaks at (NoInstruction none) =
      let there = right_on_path 0 [] Begins in
      let stands : slice_get [] 0 ≡ Some there.instruction = subst (λ is. slice_get is 0 ≡ Some there.instruction) none there.stands in
      absurd (cc)
  nothing_breaks at (CaughtFormal h) = h right.formals
  nothing_breaks at (CaughtResult h) = right.result CaughtKind h refl
  nothing_breaks at (ExitOf n r x stands kind wrong) =
      wrong (subst (RightKind c right.shapes r.first r.past) kind (region_right c right.shapes c.regions n r right.regions stands))
  nothing_breaks at (Handler at2 target ks path h wrong) =
      let stands = handler_stands at2 target ks (stands_on_path at2 ks path) h in
      let there = right.each target (CaughtKind ∷ []) stands.1 in
      let inside : target < length c.instructions = slice_get_within c.instructions target there.instruction there.stands in
      let ahead : at2 < target = stands.0 in
      ⊎_elim (λ (e : target ≤ at2). let r : ⊥ = omega arith in r) (λ (e : length c.instructions ≤ target). let r : ⊥ = omega arith in r) wrong
