-- Both passes over the members of a class agree.
use Rattle.std.proofs.Common.{◌≡◌, ◌+◌, Bool, true, false, not, ◌||◌, List, [], ◌∷◌, ◌++◌, Option, is_none, refl, ap, sym, ◌∙◌, append_assoc, append-nil}
use Rattle.std.specs.List.{flat_map}
use Rattle.std.specs.Str.{bytes_eq}
use Rattle.jr_base.specs.declared.number.ClassId.{ClassId}
use Rattle.jr_base.specs.declared.number.MethodId.{MethodId}
use Rattle.jr_ast.specs.declared.unit.Field.{Field}
use Rattle.jr_ast.specs.declared.unit.MethodKind.{MethodKind}
use Rattle.jr_ast.specs.declared.unit.MethodKind.TheVariants as kinds
use Rattle.jr_ast.specs.Units.{Member, Empty, OfField, OfMethod, OfClause}
use Rattle.jr_ast.specs.Units as unit
use Rattle.jr_typing_rules.specs.Modifiers.{has, is_static_kind, is_synchronized_kind}
use Rattle.jr_typing_rules.specs.Names.{named}
use Rattle.jr_typing_rules.specs.Resolution.{Known, Resolution, looks_like_main, is_first_main, is_library_method, result_type, formal_types, and_fields, and_constructor, and_named_method, and_method, and_member}
use Rattle.jr_typing_rules.specs.Declarations.{Counts, Coded, MadeField, MadeMethod, MadeMember, Fields, Method, Clause, FieldsMade, is_constructor, is_right_constructor, right_declaration, makes_fields, makes_method, makes_member}
use Rattle.jr_typing_rules.specs.Whole.{fields_in, methods_in}
use Rattle.jr_typing_rules.proofs.Holding.{Holds, holds-weaker, holds-next, holds-require}
use Rattle.jr_typing_rules.proofs.Both.{Both, holds-and, holds-when, both-second}
use Rattle.jr_typing_rules.proofs.SameTypes.{numbers_alone}
use Rattle.jr_typing_rules.proofs.Made.{AddsMethod, method-made, flat_map-snoc}
use Rattle.jr_typing_rules.proofs.Running.{entry-runs}
use Rattle.jr_typing_rules.proofs.Known.{both}
use Rattle.jr_typing_rules.proofs.Agreeing.{MembersAgree, named-after, constructor-after}
use Rattle.jr_typing_rules.proofs.AgreeingFields.{DeclaratorsBoth, fields-both}

-- what agrees behind the fields and methods of the classes before
abbrev pub ClassAgrees : Resolution → unit.Class → ClassId → Option MethodId → List MadeField → List MadeMethod → Known → Coded → Type 0
ClassAgrees program k own first fs ms s c =
    MembersAgree program own first k ms (fs ++ flat_map fields_in c.members) (ms ++ flat_map methods_in c.members) c.counts.methods s

with-member : (program : Resolution) (k : unit.Class) (own : ClassId) (first : Option MethodId) (fs : List MadeField) (ms : List MadeMethod) (s : Known) (c after : Coded) (x : MadeMember) →
    after.members ≡ c.members ++ x ∷ [] →
    MembersAgree program own first k ms ((fs ++ flat_map fields_in c.members) ++ fields_in x) ((ms ++ flat_map methods_in c.members) ++ methods_in x) after.counts.methods s →
    ClassAgrees program k own first fs ms s after
with-member program k own first fs ms s c after x e agree =
    rw (
      e,
      flat_map-snoc fields_in c.members x,
      flat_map-snoc methods_in c.members x,
      sym (append_assoc fs (flat_map fields_in c.members) (fields_in x)),
      sym (append_assoc ms (flat_map methods_in c.members) (methods_in x)),
    ) agree

fields-after : (program : Resolution) (own : ClassId) (first : Option MethodId) (k : unit.Class) (done : List MadeMethod) (fs : List MadeField) (ms : List MadeMethod) (counts : Counts) (s after : Known) (t : FieldsMade) →
    DeclaratorsBoth own fs counts s after t → MembersAgree program own first k done fs ms counts.methods s → MembersAgree program own first k done (fs ++ t.made) ms t.counts.methods after
fields-after program own first k done fs ms counts s after t d known = record {
  own_class = d.others.own ∙ known.own_class;
  field_count = d.count;
  method_count = d.others.methods ∙ known.method_count;
  counts = d.counted ∙ known.counts ∙ sym d.others.methods;
  enough = rw d.others.methods known.enough;
  below = rw (d.others.main, d.others.methods) known.below;
  later = rw d.others.main known.later;
  fields = d.entries;
  counted_fields = d.counted_fields;
  field_classes = d.classes;
  methods = rw (d.others.main, d.others.method_table) known.methods;
  constructor = rw (d.others.main, d.others.constructor) known.constructor;
  owners = known.owners;
  constructs = rw d.others.constructor known.constructs;
  runs = rw d.others.method_table known.runs;
}

field-agrees : (program : Resolution) (own : ClassId) (first : Option MethodId) (fs : List MadeField) (ms : List MadeMethod) (k : unit.Class) (s : Known) (c : Coded) (f : Field) →
    ClassAgrees program k own first fs ms s c →
    Both (ClassAgrees program k own first fs ms) (and_fields (numbers_alone program.names) s f) (makes_member program k own c (OfField f))
field-agrees program own first fs ms k s c f known =
    let before = fs ++ flat_map fields_in c.members in
    both-second (DeclaratorsBoth own before c.counts s) (ClassAgrees program k own first fs ms) (and_fields (numbers_alone program.names) s f) (makes_fields program.names own c.counts f) _
    (fields-both own before program.names s c.counts f known.own_class known.field_count known.fields known.counted_fields known.field_classes) λ after t d.
    let next : Coded = record { counts = t.counts; members = c.members ++ Fields f.modifiers t.made ∷ [] } in
    with-member program k own first fs ms after c next (Fields f.modifiers t.made) refl
    (rw (append-nil (ms ++ flat_map methods_in c.members))
    (fields-after program own first k ms before (ms ++ flat_map methods_in c.members) c.counts s after t d known))

-- ---- methods and constructors

neither : (a b : Bool) → not (a || b) ≡ true → (a ≡ false) × (b ≡ false)
neither false false e = (refl, refl)
neither false true e = absurd (cc)
neither true b e = absurd (cc)

pub constructor-modifiers : (k : unit.Class) (m : unit.Method) → m.kind ≡ kinds.Constructor → right_declaration k m m.kind ≡ true →
    (has is_static_kind m.modifiers ≡ false) × (has is_synchronized_kind m.modifiers ≡ false)
constructor-modifiers k m kind right =
    let declared : is_right_constructor k m ≡ true = rw kind at right in
    neither (has is_static_kind m.modifiers) (has is_synchronized_kind m.modifiers)
    (both (bytes_eq m.name.text k.name.text) (not (has is_static_kind m.modifiers || has is_synchronized_kind m.modifiers)) declared).1

-- what is made of a method is rightly declared
pub made-right : (program : Resolution) (k : unit.Class) (own : ClassId) (before : Coded) (m : unit.Method) →
    Holds (λ after. AddsMethod program own before m after × (right_declaration k m m.kind ≡ true)) (makes_method program k own before m)
made-right program k own before m =
    holds-and (AddsMethod program own before m) (λ after. right_declaration k m m.kind ≡ true) (makes_method program k own before m)
    (method-made program k own before m)
    (holds-require (λ after. right_declaration k m m.kind ≡ true) (right_declaration k m m.kind) _ _ λ right. holds-when (right_declaration k m m.kind ≡ true) _ right)

constructor-agrees : (program : Resolution) (own : ClassId) (first : Option MethodId) (fs : List MadeField) (ms : List MadeMethod) (k : unit.Class) (s : Known) (c : Coded) (m : unit.Method) →
    m.kind ≡ kinds.Constructor → ClassAgrees program k own first fs ms s c →
    Both (ClassAgrees program k own first fs ms) (and_constructor (numbers_alone program.names) s m) (makes_method program k own c m)
constructor-agrees program own first fs ms k s c m kind known =
    let Q = λ (after : Known). Holds (ClassAgrees program k own first fs ms after) (makes_method program k own c m) in
    holds-require Q (is_none s.class.constructor) _ _ λ none.
    holds-next Q (formal_types (numbers_alone program.names) false m.formals) _ λ formals f.
    holds-weaker (λ after. AddsMethod program own c m after × (right_declaration k m m.kind ≡ true)) (ClassAgrees program k own first fs ms _) (makes_method program k own c m)
    (made-right program k own c m) λ after a.
    with-member program k own first fs ms _ c after (Method a.0.0) a.0.1
    (rw (append-nil (fs ++ flat_map fields_in c.members), a.0.2)
    (constructor-after program own first k ms (fs ++ flat_map fields_in c.members) (ms ++ flat_map methods_in c.members) c.counts.methods s m a.0.0 formals none
    (ap is_constructor kind) (ap (result_type program.names) kind) (constructor-modifiers k m kind a.1).0 f a.0.4 a.0.5 known))

first-alone : (s : Known) (m : unit.Method) → is_first_main s m ≡ true → is_none s.main ≡ true
first-alone s m e = (both (is_none s.main) (looks_like_main m) e).0

named-agrees : (program : Resolution) (own : ClassId) (first : Option MethodId) (fs : List MadeField) (ms : List MadeMethod) (k : unit.Class) (s : Known) (c : Coded) (m : unit.Method) →
    is_constructor m.kind ≡ false → ClassAgrees program k own first fs ms s c →
    Both (ClassAgrees program k own first fs ms) (and_named_method (numbers_alone program.names) s m (is_first_main s m)) (makes_method program k own c m)
named-agrees program own first fs ms k s c m method known =
    let Q = λ (after : Known). Holds (ClassAgrees program k own first fs ms after) (makes_method program k own c m) in
    holds-next Q (result_type (numbers_alone program.names) m.kind) _ λ result r.
    holds-require Q (not (is_library_method s.class.extends_thread m.name.text)) _ _ λ own_name.
    holds-require Q (is_none (named m.name.text s.class.methods)) _ _ λ new.
    holds-next Q (formal_types (numbers_alone program.names) (is_first_main s m) m.formals) _ λ formals f.
    holds-weaker (λ after. AddsMethod program own c m after × (right_declaration k m m.kind ≡ true)) (ClassAgrees program k own first fs ms _) (makes_method program k own c m)
    (made-right program k own c m) λ after a.
    with-member program k own first fs ms _ c after (Method a.0.0) a.0.1
    (rw (append-nil (fs ++ flat_map fields_in c.members), a.0.2)
    (named-after program own first k ms (fs ++ flat_map fields_in c.members) (ms ++ flat_map methods_in c.members) c.counts.methods s m a.0.0
    (is_first_main s m) result formals (first-alone s m) method r f a.0.4 a.0.5
    (entry-runs (numbers_alone program.names) k s m (is_first_main s m) result formals method a.1 r f) known))

method-agrees : (program : Resolution) (own : ClassId) (first : Option MethodId) (fs : List MadeField) (ms : List MadeMethod) (k : unit.Class) (s : Known) (c : Coded) (m : unit.Method) (kind : MethodKind) →
    m.kind ≡ kind → ClassAgrees program k own first fs ms s c →
    Both (ClassAgrees program k own first fs ms) (and_method (numbers_alone program.names) s m kind) (makes_method program k own c m)
method-agrees program own first fs ms k s c m kinds.Constructor e known = constructor-agrees program own first fs ms k s c m e known
method-agrees program own first fs ms k s c m kinds.Void e known = named-agrees program own first fs ms k s c m (ap is_constructor e) known
method-agrees program own first fs ms k s c m (kinds.Valued t) e known = named-agrees program own first fs ms k s c m (ap is_constructor e) known

pub member-agrees : (program : Resolution) (own : ClassId) (first : Option MethodId) (fs : List MadeField) (ms : List MadeMethod) (k : unit.Class) (s : Known) (c : Coded) (m : Member) →
    ClassAgrees program k own first fs ms s c →
    Both (ClassAgrees program k own first fs ms) (and_member (numbers_alone program.names) s m) (makes_member program k own c m)
member-agrees program own first fs ms k s c Empty known = known
member-agrees program own first fs ms k s c (OfField f) known = field-agrees program own first fs ms k s c f known
member-agrees program own first fs ms k s c (OfMethod m) known = method-agrees program own first fs ms k s c m m.kind refl known
member-agrees program own first fs ms k s c (OfClause q) known =
    let next : Coded = record { counts = record c.counts { clauses = c.counts.clauses + 1 }; members = c.members ++ Clause q ∷ [] } in
    with-member program k own first fs ms s c next (Clause q) refl (rw (append-nil (fs ++ flat_map fields_in c.members), append-nil (ms ++ flat_map methods_in c.members)) known)
