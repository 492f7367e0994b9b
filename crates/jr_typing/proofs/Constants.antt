-- What a long constant may stand for.
use Rattle.std.proofs.Common.{◌≡◌, true}
use Rattle.jr_base.specs.declared.action.Elem.TheVariants as elem
use Rattle.jr_base.specs.declared.kind.SlotKind.TheVariants.{Long}
use Rattle.jr_typing_rules.specs.declared.words.ValueType.{ValueType}
use Rattle.jr_typing_rules.specs.declared.words.ValueType.TheVariants.{Null, Single, ArrayOf}
use Rattle.jr_typing_rules.specs.Types.{long, kind_of}
use Rattle.jr_typing_rules.specs.Names.{Names, is_assignable, is_thread, is_runnable}

-- a long may stand where a long is asked for alone
pub long_alone : (names : Names) (t : ValueType) → is_assignable names long t ≡ true → kind_of t ≡ Long
unfolding is_assignable is_thread is_runnable
long_alone names Null is = absurd (cc)
long_alone names (ArrayOf e) is = absurd (cc)
long_alone names (Single elem.Int) is = absurd (cc)
long_alone names (Single elem.Long) is = cc
long_alone names (Single elem.Bool) is = absurd (cc)
long_alone names (Single elem.Object) is = absurd (cc)
long_alone names (Single elem.Thread) is = absurd (cc)
long_alone names (Single elem.Runnable) is = absurd (cc)
long_alone names (Single (elem.Class c)) is = absurd (cc)
