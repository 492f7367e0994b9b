-- The code's own types as the plain data of the rules.
use Rattle.std.specs.Prelude.{map}
use Rattle.jr_typing_rules.specs.Names.{Class}
use Rattle.jr_typing_rules.specs.Resolution.{Known, Resolved}
use Rattle.jr_names.specs.declared.class.ClassEntry.{ClassEntry}
use Rattle.jr_names.specs.declared.known.Known.{Known as KnownEntry}
use Rattle.jr_names.specs.declared.resolved.Resolved.{Resolved as ResolvedEntry}

abbrev pub view_class : ClassEntry → Class
view_class k = record {
  extends_thread = k.extends_thread;
  implements_runnable = k.implements_runnable;
  fields = k.fields;
  methods = k.methods;
  constructor = k.constructor;
}

abbrev pub view_known : KnownEntry → Known
view_known k = record { own = k.own; class = view_class k.class; fields = k.fields; methods = k.methods; main = k.main }

abbrev pub view_resolved : ResolvedEntry → Resolved
view_resolved r = record { classes = map view_class r.classes; fields = r.fields; methods = r.methods; main = r.main }
