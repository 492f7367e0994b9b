-- What the pass on code makes is right by itself: fields have constants of their kinds, and headers keep their limits.
use Rattle.std.proofs.Common.{◌≡◌, ◌≢◌, ◌==◌, ◌<◌, ◌≤◌, ℕ, zero, suc, ◌+◌, Bool, true, false, List, [], ◌∷◌, ◌++◌, length, map, Option, Some, None, slice_get, refl, arith}
use Rattle.std.specs.List.{flat_map}
use Rattle.std.specs.Option.{option_map}
use Rattle.std.proofs.lemmas.List.{length-append, length-map}
use Rattle.jr_base.specs.declared.number.ClassId.{ClassId}
use Rattle.jr_base.specs.declared.action.Elem.TheVariants as elem
use Rattle.jr_base.specs.declared.kind.SlotKind.TheVariants as kind
use Rattle.jr_ast.specs.declared.unit.Field.{Field}
use Rattle.jr_ast.specs.declared.unit.FieldDeclarator.{FieldDeclarator}
use Rattle.jr_ast.specs.declared.unit.Formal.{Formal}
use Rattle.jr_ast.specs.declared.unit.MethodKind.{MethodKind}
use Rattle.jr_ast.specs.declared.unit.MethodKind.TheVariants as kinds
use Rattle.jr_ast.specs.Units.{Member, Empty, OfField, OfMethod, OfClause}
use Rattle.jr_ast.specs.Units as unit
use Rattle.jr_program.specs.WellFormed.{ConstantHas, NoneCaught, most_formals}
use Rattle.jr_typing_rules.specs.declared.words.ValueType.{ValueType}
use Rattle.jr_typing_rules.specs.declared.words.ValueType.TheVariants as type
use Rattle.jr_typing_rules.specs.Answers.{Good, one_by_one}
use Rattle.jr_typing_rules.specs.Types.{kind_of}
use Rattle.jr_typing_rules.specs.Modifiers.{has, is_static_kind, is_synchronized_kind, is_volatile_kind}
use Rattle.jr_typing_rules.specs.Names.{Text, Names}
use Rattle.jr_typing_rules.specs.Statements.{all_typed, starts, type_of}
use Rattle.jr_typing_rules.specs.Resolution.{Resolution, and_entry, result_type, distinct_formals, formal_types}
use Rattle.jr_typing_rules.specs.Declarations.{Coded, Counts, MadeField, MadeMethod, MadeMember, MadeClass, Fields, Method, Clause, FieldsMade, ClassesMade, no_counts, initial_constant, is_constructor, right_declaration, ends_if_asked, few_formals, frame_of, first_state, made_method, makes_field, makes_fields, makes_method, makes_member, declares_run, makes_class, code}
use Rattle.jr_typing_rules.specs.Whole.{fields_in, methods_in, fields_of, methods_of}
use Rattle.jr_typing_rules.proofs.Holding.{Holds, holds-next, holds-then, holds-require, holds-along, Each, Each-append, Each-weaker, same-some}
use Rattle.jr_typing_rules.proofs.Made.{flat_map-snoc}
use Rattle.jr_typing_rules.proofs.Constants.{initial-has}
use Rattle.jr_typing_rules.proofs.AgreedMembers.{constructor-modifiers}

-- ---- kinds of types

pub kind-not-caught : (t : ValueType) → kind_of t ≢ kind.Caught
kind-not-caught type.Null e = absurd (cc)
kind-not-caught (type.ArrayOf t) e = absurd (cc)
kind-not-caught (type.Single elem.Int) e = absurd (cc)
kind-not-caught (type.Single elem.Long) e = absurd (cc)
kind-not-caught (type.Single elem.Bool) e = absurd (cc)
kind-not-caught (type.Single elem.Object) e = absurd (cc)
kind-not-caught (type.Single elem.Thread) e = absurd (cc)
kind-not-caught (type.Single elem.Runnable) e = absurd (cc)
kind-not-caught (type.Single (elem.Class c)) e = absurd (cc)

result-not-caught : (o : Option ValueType) → option_map kind_of o ≢ Some kind.Caught
result-not-caught None e = absurd (cc)
result-not-caught (Some t) e = kind-not-caught t (same-some (kind_of t) kind.Caught e)

none-caught : (ts : List ValueType) → NoneCaught (map kind_of ts)
none-caught [] = tt
none-caught (t ∷ ts) = (kind-not-caught t, none-caught ts)

-- ---- formals

pub few-none : (o : Option Formal) → Holds (λ u. o ≡ None) (few_formals o)
few-none None = refl
few-none (Some f) = tt

pub none-past : {A : Type 0} (xs : List A) (n : ℕ) → slice_get xs n ≡ None → length xs < n + 1
none-past [] n e = omega arith
none-past (x ∷ xs) zero e = absurd (cc)
none-past (x ∷ xs) (suc n) e = omega (arith, none-past xs n e)

as-many : (names : Names) (before : List (Text × Unit {0})) (fs : List Formal) → Holds (λ (ts : List ValueType). length ts < length fs + 1) (distinct_formals before fs names)
as-many names before [] = omega arith
as-many names before (f ∷ fs) =
    let Q = λ (ts : List ValueType). length ts < length (f ∷ fs) + 1 in
    holds-next Q (type_of names f.type_name) _ λ t e.
    holds-next Q (and_entry before f.name tt) _ λ after new.
    holds-then Q (λ (ts : List ValueType). length ts < length fs + 1) (distinct_formals after fs names) _ (as-many names after fs) λ ts few. omega (arith, few)

no-more : (names : Names) (is_main : Bool) (fs : List Formal) → Holds (λ (ts : List ValueType). length ts < length fs + 1) (formal_types names is_main fs)
no-more names true fs = omega arith
no-more names false fs = as-many names [] fs

-- ---- what is made

pub record FieldRight (classes : ℕ) (f : MadeField) : Type 0 where
  pub class : f.class.0 < classes
  pub constant : ConstantHas f.constant (kind_of f.of)

pub record MethodRight (classes : ℕ) (m : MadeMethod) : Type 0 where
  pub class : m.class.0 < classes
  pub formals : NoneCaught m.formal_kinds
  pub few_formals : length m.formal_kinds ≤ most_formals
  pub result : option_map kind_of m.result ≢ Some kind.Caught
  pub constructs : m.is_constructor ≡ true → (m.is_static ≡ false) × (has is_synchronized_kind m.source.modifiers ≡ false) × (m.result ≡ None)

abbrev MembersRight : ℕ → Coded → Type 0
MembersRight n c = Each (FieldRight n) (flat_map fields_in c.members) × Each (MethodRight n) (flat_map methods_in c.members)

with-member : (n : ℕ) (before : List MadeMember) (x : MadeMember) → Each (FieldRight n) (fields_in x) → Each (MethodRight n) (methods_in x) →
    Each (FieldRight n) (flat_map fields_in before) × Each (MethodRight n) (flat_map methods_in before) →
    Each (FieldRight n) (flat_map fields_in (before ++ x ∷ [])) × Each (MethodRight n) (flat_map methods_in (before ++ x ∷ []))
with-member n before x fields methods all = (
  rw (flat_map-snoc fields_in before x) (Each-append (FieldRight n) (flat_map fields_in before) (fields_in x) all.0 fields),
  rw (flat_map-snoc methods_in before x) (Each-append (MethodRight n) (flat_map methods_in before) (methods_in x) all.1 methods),
)

declarator-right : (n : ℕ) (names : Names) (own : ClassId) (static volatile : Bool) (t : ValueType) → own.0 < n → (s : FieldsMade) (d : FieldDeclarator) → Each (FieldRight n) s.made →
    Holds (λ (after : FieldsMade). Each (FieldRight n) after.made) (makes_field names own static volatile t s d)
declarator-right n names own static volatile t below s d all =
    holds-then (λ (after : FieldsMade). Each (FieldRight n) after.made) (λ v. ConstantHas v (kind_of t)) (initial_constant names t d.constant) _ (initial-has names t d.constant) λ c is.
    Each-append (FieldRight n) s.made (_ ∷ []) all (record { class = below; constant = is }, tt)

fields-right : (n : ℕ) (names : Names) (own : ClassId) (counts : Counts) (f : Field) → own.0 < n →
    Holds (λ (after : FieldsMade). Each (FieldRight n) after.made) (makes_fields names own counts f)
fields-right n names own counts f below =
    holds-next (λ (after : FieldsMade). Each (FieldRight n) after.made) (type_of names f.type_name) _ λ t e.
    holds-along (λ before (s : FieldsMade). Each (FieldRight n) s.made) (makes_field names own (has is_static_kind f.modifiers) (has is_volatile_kind f.modifiers) t)
    (λ before s d. declarator-right n names own (has is_static_kind f.modifiers) (has is_volatile_kind f.modifiers) t below s d) [] (record { counts = counts; made = [] }) tt f.declarators

constructs : (kind : MethodKind) → is_constructor kind ≡ true → kind ≡ kinds.Constructor
constructs kinds.Constructor e = refl
constructs kinds.Void e = absurd (cc)
constructs (kinds.Valued t) e = absurd (cc)

no-result : (names : Names) (kind : MethodKind) (result : Option ValueType) → kind ≡ kinds.Constructor → result_type names kind ≡ Good result → result ≡ None
no-result names kinds.Constructor result e r = let same : Good None ≡ Good result = r in cc
no-result names kinds.Void result e r = absurd (cc)
no-result names (kinds.Valued t) result e r = absurd (cc)

method-right : (n : ℕ) (program : Resolution) (k : unit.Class) (own : ClassId) (before : Coded) (m : unit.Method) → own.0 < n → MembersRight n before →
    Holds (MembersRight n) (makes_method program k own before m)
method-right n program k own before m below all =
    let Q = MembersRight n in
    holds-require Q (right_declaration k m m.kind) _ _ λ right.
    holds-require Q (ends_if_asked m m.kind) _ _ λ ends.
    holds-then Q (λ u. slice_get m.formals most_formals ≡ None) (few_formals (slice_get m.formals most_formals)) _ (few-none (slice_get m.formals most_formals)) λ u none.
    holds-next Q (result_type program.names m.kind) _ λ result r.
    holds-then Q (λ (ts : List ValueType). length ts < length m.formals + 1) (formal_types program.names (program.main.0 == before.counts.methods) m.formals) _
    (no-more program.names (program.main.0 == before.counts.methods) m.formals) λ formals few.
    holds-next Q (all_typed (frame_of program.names own before.counts m result) false (starts (first_state m formals)) m.body) _ λ made b.
    with-member n before.members (Method (made_method own before.counts m result formals made)) tt (
      record {
        class = below;
        formals = none-caught formals;
        few_formals = rw (length-map formals kind_of) (omega (arith, few, none-past m.formals most_formals none));
        result = result-not-caught result;
        constructs = λ is.
            let kind : m.kind ≡ kinds.Constructor = constructs m.kind is in
            let modifiers = constructor-modifiers k m kind right in
            (modifiers.0, modifiers.1, no-result program.names m.kind result kind r);
      },
      tt,
    )
    all

member-right : (n : ℕ) (program : Resolution) (k : unit.Class) (own : ClassId) → own.0 < n → (before : Coded) (m : Member) → MembersRight n before →
    Holds (MembersRight n) (makes_member program k own before m)
member-right n program k own below before Empty all = all
member-right n program k own below before (OfField f) all =
    holds-then (MembersRight n) (λ (after : FieldsMade). Each (FieldRight n) after.made) (makes_fields program.names own before.counts f) _ (fields-right n program.names own before.counts f below)
    λ s right. with-member n before.members (Fields f.modifiers s.made) right tt all
member-right n program k own below before (OfMethod m) all = method-right n program k own before m below all
member-right n program k own below before (OfClause c) all = with-member n before.members (Clause c) tt tt all

-- ---- classes

pub record AllRight (s : ClassesMade) : Type 0 where
  pub fields : Each (FieldRight (length s.made)) (flat_map fields_of s.made)
  pub methods : Each (MethodRight (length s.made)) (flat_map methods_of s.made)

FieldRight-more : (n k : ℕ) (f : MadeField) → n < k + 1 → FieldRight n f → FieldRight k f
FieldRight-more n k f more right = record { class = omega (arith, more, right.class); constant = right.constant }

MethodRight-more : (n k : ℕ) (m : MadeMethod) → n < k + 1 → MethodRight n m → MethodRight k m
MethodRight-more n k m more right = record {
  class = omega (arith, more, right.class);
  formals = right.formals;
  few_formals = right.few_formals;
  result = right.result;
  constructs = right.constructs;
}

class-right : (program : Resolution) (before : List unit.Class) (s : ClassesMade) (k : unit.Class) → AllRight s → Holds AllRight (makes_class program s k)
class-right program before s k all =
    let own : ClassId = record { 0 = length s.made } in
    let n : ℕ = length s.made + 1 in
    holds-require AllRight (declares_run program.names own k) _ _ λ run.
    holds-then AllRight (MembersRight n) (one_by_one (makes_member program k own) (record { counts = s.counts; members = [] }) k.members) _
    (holds-along (λ before (c : Coded). MembersRight n c) (makes_member program k own) (λ before c m. member-right n program k own (omega arith) c m)
    [] (record { counts = s.counts; members = [] }) (tt, tt) k.members) λ (c : Coded) right.
    let new : MadeClass = record { source = k; number = own; members = c.members } in
    let count : length (s.made ++ new ∷ []) ≡ n = length-append s.made (new ∷ []) in
    record {
      fields = rw (count, flat_map-snoc fields_of s.made new)
          (Each-append (FieldRight n) (flat_map fields_of s.made) (fields_of new)
          (Each-weaker (FieldRight (length s.made)) (FieldRight n) (flat_map fields_of s.made) (λ f is. FieldRight-more (length s.made) n f (omega arith) is) all.fields) right.0);
      methods = rw (count, flat_map-snoc methods_of s.made new)
          (Each-append (MethodRight n) (flat_map methods_of s.made) (methods_of new)
          (Each-weaker (MethodRight (length s.made)) (MethodRight n) (flat_map methods_of s.made) (λ m is. MethodRight-more (length s.made) n m (omega arith) is) all.methods) right.1);
    }

pub code-right : (program : Resolution) (ks : List unit.Class) → Holds AllRight (code program ks)
unfolding code
code-right program ks =
    holds-along (λ before s. AllRight s) (makes_class program) (class-right program) [] (record { counts = no_counts; made = [] }) (record { fields = tt; methods = tt }) ks
