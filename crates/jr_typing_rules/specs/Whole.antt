-- A source as the program that runs, or the refusal of what it breaks: its names, then its code, then its clauses, then
-- how many clauses are due at each site.
use Rattle.std.specs.Prelude.{ℕ, cond, not, ◌&&◌, List, [], ◌∷◌, length, drop, map, Option, Some, None, codes}
use Rattle.std.specs.Option.{option_map}
use Rattle.std.specs.List.{flat_map}
use Rattle.jr_base.specs.declared.number.Span.{Span}
use Rattle.jr_base.specs.declared.number.Position.{Position}
use Rattle.jr_base.specs.declared.number.MethodId.{MethodId}
use Rattle.jr_program.specs.Programs as program
use Rattle.jr_program.specs.Programs.{Program, Note}
use Rattle.jr_program.specs.Clauses.{Clause}
use Rattle.jr_ast.specs.Units as unit
use Rattle.jr_typing_rules.specs.declared.words.MethodEntry.{MethodEntry}
use Rattle.jr_typing_rules.specs.Answers.{Typing, Good, ◌>>=◌}
use Rattle.jr_typing_rules.specs.Types.{kind_of}
use Rattle.jr_typing_rules.specs.Names.{Names, Class, and_then, class_at, method_in}
use Rattle.jr_typing_rules.specs.Modifiers.{has, is_helper_kind, is_synchronized_kind}
use Rattle.jr_typing_rules.specs.Notes.{notes}
use Rattle.jr_typing_rules.specs.Resolution.{Resolution, resolve}
use Rattle.jr_typing_rules.specs.Declarations.{MadeField, MadeMethod, MadeMember, Fields, Method, MadeClass, ClassesMade, code, is_empty}
use Rattle.jr_typing_rules.specs.Specifications.{clauses}
use Rattle.jr_typing_rules.specs.Sites.{sites_fit}

-- ---- what a program keeps of its members

abbrev pub fields_in : MadeMember → List MadeField
fields_in (Fields ms fs) = fs
fields_in _ = []

abbrev pub methods_in : MadeMember → List MadeMethod
methods_in (Method m) = m ∷ []
methods_in _ = []

abbrev pub fields_of : MadeClass → List MadeField
fields_of k = flat_map fields_in k.members

abbrev pub methods_of : MadeClass → List MadeMethod
methods_of k = flat_map methods_in k.members

-- what a thread runs is an instance method without formals (`java.lang.Runnable`)
abbrev pub runs : MethodEntry → Option MethodId
runs m = cond (not m.is_static && is_empty m.formals) (Some m.number) None

abbrev pub number_of : MethodEntry → MethodId
number_of m = m.number

abbrev pub program_class : Names → MadeClass → program.Class
program_class names k = record {
  name = k.source.name.text;
  extends_thread = k.source.extends_thread;
  implements_runnable = k.source.implements_runnable;
  run = and_then (method_in names k.number (codes "run")) runs;
  constructor = option_map number_of (and_then (class_at names k.number) (λ (c : Class). c.constructor));
}

abbrev pub program_field : MadeField → program.Field
program_field f = record {
  class = f.class;
  is_static = f.is_static;
  is_volatile = f.is_volatile;
  kind = kind_of f.of;
  constant = f.constant;
}

abbrev pub method_name : MadeMethod → List ℕ
method_name m = cond m.is_constructor (codes "new") m.source.name.text

abbrev pub program_method : MadeMethod → program.Method
program_method m = record {
  name = method_name m;
  class = m.class;
  is_static = m.is_static;
  is_constructor = m.is_constructor;
  is_synchronized = has is_synchronized_kind m.source.modifiers;
  is_helper = has is_helper_kind m.source.modifiers;
  formals = m.formal_kinds;
  locals = drop (length m.formal_kinds) m.kinds;
  result = option_map kind_of m.result;
  body = m.body;
}

abbrev pub program_of : Resolution → ClassesMade → List Clause → List Note → Program
program_of resolved coded clauses notes = record {
  classes = map (program_class resolved.names) coded.made;
  fields = map program_field (flat_map fields_of coded.made);
  methods = map program_method (flat_map methods_of coded.made);
  clauses = clauses;
  notes = notes;
  texts = coded.counts.texts;
  main = resolved.main;
}

-- the program of a source, where `position` says where a span begins as people count it
unfoldable pub typing : (Span → Position) → List unit.Class → Typing Program
typing position ks =
    resolve ks >>= λ resolved.
    code resolved ks >>= λ coded.
    clauses (record { position = position; names = resolved.names }) coded.made >>= λ all.
    let program = program_of resolved coded all (notes position ks) in
    sites_fit program coded.made >>= λ u. Good program
