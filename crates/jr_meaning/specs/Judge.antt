-- What a clause is worth.
use Rattle.std.specs.Prelude.{◌+◌, ◌&&◌, ◌||◌, ℕ, nat_lt, Bool, true, false, not, cond, List, [], ◌∷◌, Option, Some, None, slice_get}
use Rattle.std.specs.Option.{option_map_or}
use Rattle.std.specs.List.{list_any, cons_option}
use Rattle.jr_base.specs.Deed.{Deed, Get, Put}
use Rattle.jr_base.specs.declared.number.ObjId.{ObjId}
use Rattle.jr_base.specs.declared.number.GuestNo.{GuestNo}
use Rattle.jr_base.specs.declared.value.Value.TheVariants as values
use Rattle.jr_base.specs.declared.value.Cell.{Cell}
use Rattle.jr_base.specs.declared.finish.Verdict.{Verdict}
use Rattle.jr_base.specs.declared.finish.Verdict.TheVariants as verdicts
use Rattle.jr_program.specs.declared.words.Mode.{Mode}
use Rattle.jr_program.specs.declared.words.ClauseKind.{ClauseKind}
use Rattle.jr_program.specs.declared.words.ClauseKind.TheVariants.{Locks, MonitorsFor}
use Rattle.jr_program.specs.Clauses.{Clause, Spec}
use Rattle.jr_meaning.specs.Event.{Event, Step, Judged, Wake}
use Rattle.jr_meaning.specs.World.{same_object, same_guest, same_cell}
use Rattle.jr_meaning.specs.Worth.{Worth, Has, Undefined, Wide, Setting, worth, on_old}

-- a clause holds where its condition is true
abbrev pub verdict_on : Worth → Verdict
verdict_on (Has (values.Bool true)) = verdicts.True
verdict_on (Has (values.Bool false)) = verdicts.False
verdict_on (Has _) = verdicts.Undefined
verdict_on Undefined = verdicts.Undefined
verdict_on Wide = verdicts.Wide

-- `monitors_for`: each member is null or owned
abbrev pub if_owned : (ObjId → Bool) → Worth → Verdict → Verdict
if_owned owned (Has (values.Ref object)) rest = cond (owned object) rest verdicts.False
if_owned owned (Has _) rest = rest
if_owned owned Undefined rest = verdicts.Undefined
if_owned owned Wide rest = verdicts.Wide

abbrev pub all_owned : Mode → Setting → List Spec → Verdict
all_owned mode s [] = verdicts.True
all_owned mode s (member ∷ members) = if_owned s.owned (worth mode s member) (all_owned mode s members)

-- `locks`: some member is the entered object
abbrev pub if_entered : Option ObjId → Worth → Verdict → Verdict
if_entered entered (Has (values.Ref object)) rest = cond (option_map_or (same_object object) entered false) verdicts.True rest
if_entered entered (Has _) rest = rest
if_entered entered Undefined rest = verdicts.Undefined
if_entered entered Wide rest = verdicts.Wide

abbrev pub some_entered : Mode → Setting → List Spec → Verdict
some_entered mode s [] = verdicts.False
some_entered mode s (member ∷ members) = if_entered s.environment.entered (worth mode s member) (some_entered mode s members)

-- Of every kind but `atomic`, which looks at no setting: its value is `atomic_value`. The members of `locks` are
-- read on the old heap.
abbrev pub value_of_kind : Mode → Setting → ClauseKind → List Spec → Verdict
value_of_kind mode s MonitorsFor members = all_owned mode s members
value_of_kind mode s Locks members = some_entered mode (on_old s) members
value_of_kind mode s _ conditions = option_map_or (λ condition. verdict_on (worth mode s condition)) (slice_get conditions 0) verdicts.Undefined

-- what a clause is worth in a setting, those of kind `atomic` left aside
abbrev pub clause_value : Setting → Clause → Verdict
clause_value s clause = value_of_kind clause.mode s clause.kind clause.states

-- ---- atomic

-- a read or write of a cell, whatever it was answered
pub record Touch : Type 0 where
  pub guest : GuestNo
  pub cell : Cell
  pub writes : Bool

abbrev pub touch_by : GuestNo → Deed → Option Touch
touch_by g (Get cell) = Some (record { guest = g; cell = cell; writes = false })
touch_by g (Put cell value) = Some (record { guest = g; cell = cell; writes = true })
touch_by g _ = None

-- those after one step and before another, where the first step of the entries is step k
abbrev pub touches_between : ℕ → ℕ → ℕ → List Event → List Touch
touches_between from to k [] = []
touches_between from to k (Step g deed reply ∷ h) =
    cond (nat_lt from k && nat_lt k to) (cons_option (touch_by g deed) (touches_between from to (k + 1) h)) (touches_between from to (k + 1) h)
touches_between from to k (Judged step place value ∷ h) = touches_between from to k h
touches_between from to k (Wake g ∷ h) = touches_between from to k h

-- they are of one cell, and one at least is a write
abbrev pub clash : Touch → Touch → Bool
clash a b = same_cell a.cell b.cell && (a.writes || b.writes)

abbrev pub is_disturbed : GuestNo → List Touch → Bool
is_disturbed g touches =
    list_any (λ (a : Touch). same_guest a.guest g && list_any (λ (b : Touch). not (same_guest b.guest g) && clash a b) touches) touches

-- `atomic`: between the step of the Call and that of the Leave no access of the guest clashed with one of another guest
abbrev pub atomic_value : List Event → GuestNo → ℕ → ℕ → Verdict
atomic_value h g from to = cond (is_disturbed g (touches_between from to 0 h)) verdicts.False verdicts.True
