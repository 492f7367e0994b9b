-- What the machine says of a thread.
use Rattle.std.specs.Prelude.{◌≡◌}
use Rattle.jr_base.specs.Deed.{deed_of}
use Rattle.jr_thread_machine.specs.declared.machine.Next.{Next}
use Rattle.jr_thread_machine.specs.declared.machine.Next.TheVariants.{Does, Ended}
use Rattle.jr_thread_machine.specs.declared.stage.Stage.TheVariants as stages
use Rattle.jr_thread_machine.specs.Stages.{Held, IsAt}

-- it stands at that action, or has ended
abbrev pub Says : Next → Held → Type 0
Says (Does action) m = IsAt (deed_of action) m
Says Ended m = m.stage ≡ stages.Over
