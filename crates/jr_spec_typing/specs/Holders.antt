-- The code's declarations that have modifiers, as those of the rules.
use Rattle.jr_typing_rules.specs.Modifiers.{Holder, OnClass, OnMethod, OnOther}
use Rattle.jr_spec_typing.specs.declared.modifiers.Holder.{Holder as HolderWord}
use Rattle.jr_spec_typing.specs.declared.modifiers.Holder.TheVariants as holders

abbrev pub view_holder : HolderWord → Holder
view_holder holders.Class = OnClass
view_holder holders.Method = OnMethod
view_holder holders.Other = OnOther
