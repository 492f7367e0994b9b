-- Which entries start a guest.
use Rattle.std.specs.Prelude.{ℕ}
use Rattle.jr_base.specs.Deed.{Start}
use Rattle.jr_base.specs.declared.action.Reply.TheVariants.{Started}
use Rattle.jr_meaning.specs.Event.{Event, Step}

abbrev pub starts_in : Event → ℕ
starts_in (Step g (Start object) (Started n body)) = 1
starts_in _ = 0
