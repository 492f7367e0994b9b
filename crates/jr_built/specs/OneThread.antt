-- What the one thread of a program asks, and the world that it runs in.
use Rattle.std.specs.Prelude.{◌≡◌, ◌≢◌, Bool, true, false, [], ◌∷◌, Some, None, IsTrue}
use Rattle.std.specs.List.{list_all}
use Rattle.jr_base.specs.Deed.{Deed, New, Enter, Exit, Wait, TimedWait, Resume, Notify, NotifyAll, Start, Join}
use Rattle.jr_base.specs.declared.number.GuestNo.{GuestNo}
use Rattle.jr_base.specs.declared.number.ObjId.{ObjId}
use Rattle.jr_base.specs.declared.action.NewKind.TheVariants.{Thread}
use Rattle.jr_program.specs.declared.words.ClauseKind.TheVariants.{Locks, MonitorsFor, Atomic}
use Rattle.jr_program.specs.Clauses.{Clause}
use Rattle.jr_program.specs.Programs.{Program}
use Rattle.jr_meaning.specs.Due.{looks_back}
use Rattle.jr_meaning.specs.World.{World, free_monitor, is_live}
use Rattle.jr_meaning.specs.Machine.{owns, is_waiter, is_ready}
use Rattle.jr_built.specs.Built.{looks_at_the_moment}

-- it has to do with no monitor and no other thread
abbrev pub IsPlain : Deed → Type 0
IsPlain (New Thread) = ⊥
IsPlain (Enter object way) = ⊥
IsPlain (Exit object) = ⊥
IsPlain (Wait object) = ⊥
IsPlain (TimedWait object) = ⊥
IsPlain (Resume object) = ⊥
IsPlain (Notify object) = ⊥
IsPlain (NotifyAll object) = ⊥
IsPlain (Start object) = ⊥
IsPlain (Join object) = ⊥
IsPlain _ = Unit {0}

-- Main's thread is the only one, live or ended, and each monitor is as at the start: so nobody owns one or waits, and
-- what has to do with no monitor and no thread can be done at once.
pub record HasOneThread (program : Program) (world : World) : Type 0 where
  pub ended : Bool
  pub guests : world.guests ≡ record { object = None; body = Some (record { method = program.main; this = None }); ended = ended } ∷ []
  pub free : (object : ObjId) → world.monitors object ≡ free_monitor
  pub first_alone : (g : GuestNo) → IsTrue (is_live world g) → g ≡ record { 0 = 1 }
  pub nobody_owns : (g : GuestNo) (object : ObjId) → owns world g object ≡ false
  pub nobody_waits : (g : GuestNo) → is_waiter world g ≡ false
  pub ready : (g : GuestNo) (deed : Deed) → IsPlain deed → is_ready world g deed ≡ true

-- What the clause is worth depends on the moment alone: on no earlier step, no older heap and no lockset.
pub record LooksAtTheMoment (clause : Clause) : Type 0 where
  pub no_locks : clause.kind ≢ Locks
  pub no_monitors_for : clause.kind ≢ MonitorsFor
  pub no_atomic : clause.kind ≢ Atomic
  pub looks_not_back : looks_back clause ≡ false
  pub states : list_all looks_at_the_moment clause.states ≡ true
