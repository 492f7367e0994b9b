-- What a local or an operand holds, kept in as little room as a value takes.
use Rattle.std.specs.Prelude.{◌≡◌, refl}
use Rattle.jr_base.specs.declared.value.Value.TheVariants as values
use Rattle.jr_base.specs.Content.{Content, Holds, Caught}
use Rattle.jr_thread_machine.specs.declared.slot.Kept.{Kept}
use Rattle.jr_thread_machine.specs.declared.slot.Kept.TheVariants as kept

abbrev pub content_of : Kept → Content
content_of kept.Null = Holds values.Null
content_of (kept.Ref o) = Holds (values.Ref o)
content_of (kept.Int n) = Holds (values.Int n)
content_of (kept.Long n) = Holds (values.Long n)
content_of (kept.Bool b) = Holds (values.Bool b)
content_of (kept.Caught f) = Caught f

abbrev pub kept_of : Content → Kept
kept_of (Holds values.Null) = kept.Null
kept_of (Holds (values.Ref o)) = kept.Ref o
kept_of (Holds (values.Int n)) = kept.Int n
kept_of (Holds (values.Long n)) = kept.Long n
kept_of (Holds (values.Bool b)) = kept.Bool b
kept_of (Caught f) = kept.Caught f

pub kept_again : (k : Kept) → kept_of (content_of k) ≡ k
kept_again kept.Null = refl
kept_again (kept.Ref o) = refl
kept_again (kept.Int n) = refl
kept_again (kept.Long n) = refl
kept_again (kept.Bool b) = refl
kept_again (kept.Caught f) = refl
