-- Runs of small programs, and what they are written with.
pub mod AtomicAndWoken
pub mod AtomicAndWokenSeed4
pub mod BoundedBuffer
pub mod BoundedBufferSeed5
pub mod Crossed
pub mod CrossedSeed11
pub mod DeepCalls
pub mod DoubledNone
pub mod Doubling
pub mod EveryClause
pub mod GuardedField
pub mod IllegalNotify
pub mod LeastQuotient
pub mod LockedCount
pub mod LockedCountSeed7
pub mod LocksAndRuns
pub mod LocksAndRunsSeed9
pub mod LocksClause
pub mod LongForms
pub mod LongSum
pub mod LongSumSafe
pub mod LostUpdate
pub mod LostUpdateAtomic
pub mod ManyCells
pub mod ManyMonitors
pub mod ManyThreads
pub mod NestedWait
pub mod NullFormal
pub mod SafeQuotient
pub mod SafeResults
pub mod SpentBudget
pub mod Spinning
pub mod SpuriousBehindBudget
pub mod SpuriousWake
pub mod StuckFormal
pub mod TimedWait
pub mod Timers
pub mod TimersAndSpurious
pub mod TimersSeed5
pub mod WaitForNegativeTime
pub mod WaitForNoTime
pub mod WaitOnce
pub mod WaitOnceSeed3
pub mod WaitWithoutNotify
pub mod WideQuantifier
use Rattle.std.specs.Prelude.{ℕ}
use Rattle.jr_base.specs.Deed.{Deed}
use Rattle.jr_base.specs.declared.action.Reply.{Reply}
use Rattle.jr_base.specs.declared.finish.Verdict.{Verdict}
use Rattle.jr_meaning.specs.Event.{Event, Step, Judged, Wake}

abbrev pub made : ℕ → Deed → Reply → Event
made g deed reply = Step (record { 0 = g }) deed reply

abbrev pub judged : ℕ → ℕ → Verdict → Event
judged k place value = Judged (record { 0 = k }) place value

abbrev pub woke : ℕ → Event
woke g = Wake (record { 0 = g })
