-- A clause that doesn't look back is worth the same whatever the old heap is.
use Rattle.std.proofs.Common.{◌≡◌, ◌||◌, ℤ, false, List, [], ◌∷◌, slice_get, refl, ap, ◌∙◌}
use Rattle.std.specs.Option.{option_map_or}
use Rattle.std.specs.List.{list_any}
use Rattle.std.proofs.lemmas.Bool.{or_parts, true≢false}
use Rattle.jr_base.specs.declared.finish.Verdict.TheVariants as verdicts
use Rattle.jr_program.specs.declared.words.Mode.{Mode}
use Rattle.jr_program.specs.declared.words.ClauseKind.{ClauseKind}
use Rattle.jr_program.specs.declared.words.ClauseKind.TheVariants as clause_kinds
use Rattle.jr_program.specs.Clauses.{Clause, Spec, Number, Truth, Null, This, Variable, Bound, Result, StaticField, FieldOf, ElementOf, LengthOf, ClassObject, Convert, Unary, Binary, And, Or, Choice, Implies, ImpliedBy, Old, InLockset, Quantified}
use Rattle.jr_meaning.specs.Heap.{Heap}
use Rattle.jr_meaning.specs.Worth.{Setting, worth, with_value, binding, quantified, in_range}
use Rattle.jr_meaning.specs.Due.{has_old, kind_looks_back, looks_back}
use Rattle.jr_meaning.specs.Judge.{clause_value, value_of_kind, verdict_on, all_owned}

-- functions that agree everywhere are one
same-function : {A B : Type 0} {f g : A → B} → ((x : A) → f x ≡ g x) → f ≡ g
same-function h = λ i x. h x i

-- the same with another old heap
abbrev pub with_old : Setting → Heap → Setting
with_old s other = record s { old = other }

module _ (mode : Mode) (other : Heap) where
  pub old-unseen : (s : Setting) (e : Spec) → has_old e ≡ false → worth mode (with_old s other) e ≡ worth mode s e
  old-unseen s (Number w n) h = refl
  old-unseen s (Truth b) h = refl
  old-unseen s Null h = refl
  old-unseen s This h = refl
  old-unseen s (Variable number) h = refl
  old-unseen s (Bound depth) h = refl
  old-unseen s Result h = refl
  old-unseen s (StaticField field at) h = refl
  old-unseen s (FieldOf object field slot) h = rw (old-unseen s object h) refl
  old-unseen s (ElementOf array index) h =
      let parts = or_parts (has_old array) (has_old index) h in rw (old-unseen s array parts.0, old-unseen s index parts.1) refl
  old-unseen s (LengthOf array) h = rw (old-unseen s array h) refl
  old-unseen s (ClassObject class) h = refl
  old-unseen s (Convert w operand) h = rw (old-unseen s operand h) refl
  old-unseen s (Unary operator operand) h = rw (old-unseen s operand h) refl
  old-unseen s (Binary operator left right) h =
      let parts = or_parts (has_old left) (has_old right) h in rw (old-unseen s left parts.0, old-unseen s right parts.1) refl
  old-unseen s (And left right) h =
      let parts = or_parts (has_old left) (has_old right) h in rw (old-unseen s left parts.0, old-unseen s right parts.1) refl
  old-unseen s (Or left right) h =
      let parts = or_parts (has_old left) (has_old right) h in rw (old-unseen s left parts.0, old-unseen s right parts.1) refl
  old-unseen s (Choice condition first second) h =
      let parts = or_parts (has_old condition) (has_old first || has_old second) h in
      let rest = or_parts (has_old first) (has_old second) parts.1 in
      rw (old-unseen s condition parts.0, old-unseen s first rest.0, old-unseen s second rest.1) refl
  old-unseen s (Implies left right) h =
      let parts = or_parts (has_old left) (has_old right) h in rw (old-unseen s left parts.0, old-unseen s right parts.1) refl
  old-unseen s (ImpliedBy left right) h =
      let parts = or_parts (has_old left) (has_old right) h in rw (old-unseen s left parts.0, old-unseen s right parts.1) refl
  old-unseen s (Old e) h = absurd (true≢false h)
  old-unseen s (InLockset object) h = rw (old-unseen s object h) refl
  old-unseen s (Quantified quantifier low low_bound high high_bound conjuncts body) h =
      let parts = or_parts (has_old low) (has_old high || (has_old conjuncts || has_old body)) h in
      let more = or_parts (has_old high) (has_old conjuncts || has_old body) parts.1 in
      let last = or_parts (has_old conjuncts) (has_old body) more.1 in
      let each : (i : ℤ) → in_range quantifier (worth mode (binding (with_old s other) i) conjuncts) (worth mode (binding (with_old s other) i) body)
      ≡ in_range quantifier (worth mode (binding s i) conjuncts) (worth mode (binding s i) body) =
      (λ i. ap (λ w. in_range quantifier w (worth mode (with_old (binding s i) other) body)) (old-unseen (binding s i) conjuncts last.0)
      ∙ ap (λ w. in_range quantifier (worth mode (binding s i) conjuncts) w) (old-unseen (binding s i) body last.1)) in
      rw (old-unseen s low parts.0, old-unseen s high more.0)
      (ap (λ f. with_value (worth mode s low) (λ lo. with_value (worth mode s high) (λ hi. quantified quantifier low_bound high_bound lo hi f))) (same-function each))

  owned-unseen : (s : Setting) (members : List Spec) → list_any has_old members ≡ false → all_owned mode (with_old s other) members ≡ all_owned mode s members
  owned-unseen s [] h = refl
  owned-unseen s (member ∷ members) h =
      let parts = or_parts (has_old member) (list_any has_old members) h in rw (old-unseen s member parts.0, owned-unseen s members parts.1) refl

  condition-unseen : (s : Setting) (conditions : List Spec) → list_any has_old conditions ≡ false →
      option_map_or (λ condition. verdict_on (worth mode (with_old s other) condition)) (slice_get conditions 0) verdicts.Undefined
      ≡ option_map_or (λ condition. verdict_on (worth mode s condition)) (slice_get conditions 0) verdicts.Undefined
  condition-unseen s [] h = refl
  condition-unseen s (condition ∷ conditions) h = let parts = or_parts (has_old condition) (list_any has_old conditions) h in ap verdict_on (old-unseen s condition parts.0)

  kind-unseen : (s : Setting) (kind : ClauseKind) (states : List Spec) → kind_looks_back kind ≡ false → list_any has_old states ≡ false →
      value_of_kind mode (with_old s other) kind states ≡ value_of_kind mode s kind states
  kind-unseen s clause_kinds.MonitorsFor states k h = owned-unseen s states h
  kind-unseen s clause_kinds.Locks states k h = absurd (true≢false k)
  kind-unseen s _ states k h = condition-unseen s states h

pub value-unseen : (other : Heap) (s : Setting) (clause : Clause) → looks_back clause ≡ false → clause_value (with_old s other) clause ≡ clause_value s clause
value-unseen other s clause h =
    let parts = or_parts (kind_looks_back clause.kind) (list_any has_old clause.states) h in
    kind-unseen clause.mode other s clause.kind clause.states parts.0 parts.1
