-- What the pass on names and the pass on code say of the members of one class: each entry is what is made, at its number.
use Rattle.std.proofs.Common.{◌≡◌, ◌⊎◌, inl, ◌==◌, ◌<◌, ℕ, ◌+◌, Bool, true, false, List, [], ◌∷◌, ◌++◌, length, map, Option, Some, None, is_none, slice_get, refl, ap, sym, ◌∙◌, arith}
use Rattle.std.proofs.lemmas.List.{length-append}
use Rattle.std.proofs.lemmas.Option.{slice_get_within}
use Rattle.jr_base.specs.declared.number.ClassId.{ClassId}
use Rattle.jr_base.specs.declared.number.MethodId.{MethodId}
use Rattle.jr_ast.specs.Units.{Member, Empty, OfField, OfMethod, OfClause}
use Rattle.jr_ast.specs.Units as unit
use Rattle.jr_typing_rules.specs.declared.words.ValueType.{ValueType}
use Rattle.jr_typing_rules.specs.declared.words.MethodEntry.{MethodEntry}
use Rattle.jr_typing_rules.specs.Answers.{Good}
use Rattle.jr_typing_rules.specs.Types.{kind_of}
use Rattle.jr_typing_rules.specs.Modifiers.{has, is_static_kind}
use Rattle.jr_typing_rules.specs.Names.{Text, Class}
use Rattle.jr_typing_rules.specs.Resolution.{Known, Resolution, main_after, result_type, formal_types, entry, with_class}
use Rattle.jr_typing_rules.specs.Declarations.{MadeField, MadeMethod, is_constructor}
use Rattle.jr_typing_rules.proofs.Holding.{Each, Each-append, Each-weaker, same-good}
use Rattle.jr_typing_rules.proofs.SameTypes.{numbers_alone, same-result, same-formals}
use Rattle.jr_typing_rules.proofs.MainNumbers.{is_main_at, MainBelow, MainLater, same-main-at, main-unchanged, main-later-on, main-after-later, main-after-at, main-after-below}
use Rattle.jr_typing_rules.proofs.Made.{IsMade}
use Rattle.jr_typing_rules.proofs.Items.{with-last}
use Rattle.jr_typing_rules.proofs.Running.{RunRight}
use Rattle.jr_typing_rules.proofs.Known.{get-append, get-last}
use Rattle.jr_typing_rules.proofs.AgreeingFields.{FieldsAgree, AreCounted, AreBefore}

-- ---- methods and constructors

pub record MethodMade (program : Resolution) (main : Option MethodId) (own : ClassId) (constructs : Bool) (e : MethodEntry) (m : MadeMethod) : Type 0 where
  pub class : m.class ≡ own
  pub constructor : m.is_constructor ≡ constructs
  pub static : m.is_static ≡ e.is_static
  pub result : m.result ≡ e.result
  pub is_main : e.is_main ≡ is_main_at main e.number.0
  -- the formals of main are none, so they are known once main is
  pub formals : e.is_main ≡ (program.main.0 == e.number.0) → m.formal_kinds ≡ map kind_of e.formals

abbrev pub MethodAgrees : Resolution → Option MethodId → ClassId → Bool → List MadeMethod → MethodEntry → Type 0
MethodAgrees program main own constructs made e = (m : MadeMethod) × (slice_get made e.number.0 ≡ Some m) × MethodMade program main own constructs e m

abbrev pub MethodsAgree : Resolution → Option MethodId → ClassId → List MadeMethod → List (Text × MethodEntry) → Type 0
MethodsAgree program main own made = Each (λ (e : Text × MethodEntry). MethodAgrees program main own false made e.1)

abbrev pub ConstructorAgrees : Resolution → Option MethodId → ClassId → List MadeMethod → Option MethodEntry → Type 0
ConstructorAgrees program main own made None = Unit {0}
ConstructorAgrees program main own made (Some e) = MethodAgrees program main own true made e

MethodAgrees-more : (program : Resolution) (main after : Option MethodId) (own : ClassId) (constructs : Bool) (made more : List MadeMethod) (e : MethodEntry) →
    MainLater main (length made) after → MethodAgrees program main own constructs made e → MethodAgrees program after own constructs (made ++ more) e
MethodAgrees-more program main after own constructs made more e later a = (
  a.0,
  get-append made more e.number.0 a.0 a.1,
  record {
    class = a.2.class;
    constructor = a.2.constructor;
    static = a.2.static;
    result = a.2.result;
    is_main = a.2.is_main ∙ sym (same-main-at main (length made) after e.number.0 later (slice_get_within made e.number.0 a.0 a.1));
    formals = a.2.formals;
  },
)

pub MethodsAgree-more : (program : Resolution) (main after : Option MethodId) (own : ClassId) (made more : List MadeMethod) (table : List (Text × MethodEntry)) →
    MainLater main (length made) after → MethodsAgree program main own made table → MethodsAgree program after own (made ++ more) table
MethodsAgree-more program main after own made more table later =
    Each-weaker (λ (e : Text × MethodEntry). MethodAgrees program main own false made e.1) (λ (e : Text × MethodEntry). MethodAgrees program after own false (made ++ more) e.1) table
    (λ e. MethodAgrees-more program main after own false made more e.1 later)

pub ConstructorAgrees-more : (program : Resolution) (main after : Option MethodId) (own : ClassId) (made more : List MadeMethod) (constructor : Option MethodEntry) →
    MainLater main (length made) after → ConstructorAgrees program main own made constructor → ConstructorAgrees program after own (made ++ more) constructor
ConstructorAgrees-more program main after own made more None later a = tt
ConstructorAgrees-more program main after own made more (Some e) later a = MethodAgrees-more program main after own true made more e later a

-- the constructor that is made of a class is that of its entry
abbrev pub IsNumbered : Option MethodEntry → ℕ → Type 0
IsNumbered None n = ⊥
IsNumbered (Some e) n = e.number.0 ≡ n

abbrev pub ConstructsAt : ClassId → List MadeMethod → Option MethodEntry → Type 0
ConstructsAt own ms constructor = (n : ℕ) (m : MadeMethod) → slice_get ms n ≡ Some m → m.class ≡ own → m.is_constructor ≡ true → IsNumbered constructor n

none-numbered : (o : Option MethodEntry) (n : ℕ) → is_none o ≡ true → IsNumbered o n → ⊥
none-numbered None n none is = is
none-numbered (Some e) n none is = absurd (cc)

-- ---- the members of a class so far, behind the methods and fields of those before it

pub record MembersAgree (program : Resolution) (own : ClassId) (first : Option MethodId) (k : unit.Class) (done : List MadeMethod) (fs : List MadeField) (ms : List MadeMethod) (counted : ℕ) (s : Known) : Type 0 where
  pub own_class : s.own ≡ own
  pub field_count : s.fields ≡ length fs
  pub method_count : s.methods ≡ length ms
  pub counts : counted ≡ s.methods
  pub enough : length done < s.methods + 1
  pub below : MainBelow s.main s.methods
  pub later : MainLater first (length done) s.main
  pub fields : FieldsAgree own fs s.class.fields
  pub counted_fields : AreCounted own fs s.class.fields
  pub field_classes : AreBefore (own.0 + 1) fs
  pub methods : MethodsAgree program s.main own ms s.class.methods
  pub constructor : ConstructorAgrees program s.main own ms s.class.constructor
  pub owners : (n : ℕ) (m : MadeMethod) → slice_get ms n ≡ Some m → (m.class ≡ own) ⊎ (slice_get done n ≡ Some m)
  pub constructs : ConstructsAt own ms s.class.constructor
  pub runs : Each (λ (e : Text × MethodEntry). RunRight k e.0 e.1) s.class.methods

-- one more method or constructor is made
method-after : (program : Resolution) (own : ClassId) (first : Option MethodId) (k : unit.Class) (done : List MadeMethod) (fs : List MadeField) (ms : List MadeMethod) (counted : ℕ) (s : Known) (m : MadeMethod) (class : Class) (is : Bool) →
    (is ≡ true → is_none s.main ≡ true) → class.fields ≡ s.class.fields → MethodsAgree program (main_after s is) own (ms ++ m ∷ []) class.methods →
    ConstructorAgrees program (main_after s is) own (ms ++ m ∷ []) class.constructor → m.class ≡ own → ConstructsAt own (ms ++ m ∷ []) class.constructor →
    Each (λ (e : Text × MethodEntry). RunRight k e.0 e.1) class.methods →
    MembersAgree program own first k done fs ms counted s → MembersAgree program own first k done fs (ms ++ m ∷ []) (counted + 1) (with_class s class is)
method-after program own first k done fs ms counted s m class is only same methods constructor owner constructs runs known = record {
  own_class = known.own_class;
  field_count = known.field_count;
  method_count = omega (arith, known.method_count, length-append ms (m ∷ []));
  counts = omega (arith, known.counts);
  enough = omega (arith, known.enough);
  below = main-after-below s is known.below;
  later = main-later-on first s.main (main_after s is) (length done) s.methods known.enough known.later (main-after-later s is only);
  fields = rw same known.fields;
  counted_fields = rw same known.counted_fields;
  field_classes = known.field_classes;
  methods = methods;
  constructor = constructor;
  owners = with-last (λ n x. (x.class ≡ own) ⊎ (slice_get done n ≡ Some x)) ms m known.owners (inl owner);
  constructs = constructs;
  runs = runs;
}

formals-made : (program : Resolution) (is : Bool) (n number : ℕ) (m : unit.Method) (made : MadeMethod) (formals : List ValueType) → n ≡ number → IsMade program n made m →
    formal_types (numbers_alone program.names) is m.formals ≡ Good formals → is ≡ (program.main.0 == number) → made.formal_kinds ≡ map kind_of formals
formals-made program is n number m made formals same is_made typed right =
    let here : (program.main.0 == n) ≡ is = rw same (sym right) in
    let code : formal_types program.names is m.formals ≡ Good is_made.formals.0 = rw here at is_made.formals.1 in
    let types : is_made.formals.0 ≡ formals = same-good is_made.formals.0 formals (sym code ∙ sym (same-formals program.names is m.formals) ∙ typed) in
    is_made.formals.2 ∙ ap (map kind_of) types

result-made : (program : Resolution) (n : ℕ) (m : unit.Method) (made : MadeMethod) (result : Option ValueType) → IsMade program n made m →
    result_type (numbers_alone program.names) m.kind ≡ Good result → made.result ≡ result
result-made program n m made result is_made typed = same-good made.result result (sym is_made.result ∙ sym (same-result program.names m.kind) ∙ typed)

false-not-true : {A : Type 0} (b : Bool) → b ≡ false → b ≡ true → A
false-not-true true no_more is = absurd (cc)
false-not-true false no_more is = absurd (cc)

from-number : (main after : Option MethodId) (n k : ℕ) → n ≡ k → MainLater main n after → MainLater main k after
from-number main after n k same later = rw same at later

pub named-after : (program : Resolution) (own : ClassId) (first : Option MethodId) (k : unit.Class) (done : List MadeMethod) (fs : List MadeField) (ms : List MadeMethod) (counted : ℕ) (s : Known) (m : unit.Method) (made : MadeMethod)
    (is : Bool) (result : Option ValueType) (formals : List ValueType) → (is ≡ true → is_none s.main ≡ true) → is_constructor m.kind ≡ false →
    result_type (numbers_alone program.names) m.kind ≡ Good result → formal_types (numbers_alone program.names) is m.formals ≡ Good formals → made.class ≡ own → IsMade program counted made m →
    RunRight k m.name.text (entry s m is result formals) → MembersAgree program own first k done fs ms counted s →
    MembersAgree program own first k done fs (ms ++ made ∷ []) (counted + 1) (with_class s (record s.class { methods = s.class.methods ++ (m.name.text, entry s m is result formals) ∷ [] }) is)
named-after program own first k done fs ms counted s m made is result formals only method r f class is_made run known =
    let later : MainLater s.main (length ms) (main_after s is) = from-number s.main (main_after s is) s.methods (length ms) known.method_count (main-after-later s is only) in
    method-after program own first k done fs ms counted s made (record s.class { methods = s.class.methods ++ (m.name.text, entry s m is result formals) ∷ [] }) is only refl
    (Each-append (λ (e : Text × MethodEntry). MethodAgrees program (main_after s is) own false (ms ++ made ∷ []) e.1) s.class.methods ((m.name.text, entry s m is result formals) ∷ [])
    (MethodsAgree-more program s.main (main_after s is) own ms (made ∷ []) s.class.methods later known.methods) (
      (
        made,
        rw known.method_count (get-last ms made),
        record {
          class = class;
          constructor = is_made.constructor ∙ method;
          static = is_made.static;
          result = result-made program counted m made result is_made r;
          is_main = sym (main-after-at s is known.below);
          formals = formals-made program is counted s.methods m made formals known.counts is_made f;
        },
      ),
      tt,
    ))
    (ConstructorAgrees-more program s.main (main_after s is) own ms (made ∷ []) s.class.constructor later known.constructor)
    class
    (with-last (λ n x. x.class ≡ own → x.is_constructor ≡ true → IsNumbered s.class.constructor n) ms made known.constructs
    (λ owner is. false-not-true made.is_constructor (is_made.constructor ∙ method) is))
    (Each-append (λ (e : Text × MethodEntry). RunRight k e.0 e.1) s.class.methods ((m.name.text, entry s m is result formals) ∷ []) known.runs (run, tt))
    known

pub constructor-after : (program : Resolution) (own : ClassId) (first : Option MethodId) (k : unit.Class) (done : List MadeMethod) (fs : List MadeField) (ms : List MadeMethod) (counted : ℕ) (s : Known) (m : unit.Method) (made : MadeMethod)
    (formals : List ValueType) → is_none s.class.constructor ≡ true → is_constructor m.kind ≡ true → result_type program.names m.kind ≡ Good None → has is_static_kind m.modifiers ≡ false →
    formal_types (numbers_alone program.names) false m.formals ≡ Good formals → made.class ≡ own → IsMade program counted made m →
    MembersAgree program own first k done fs ms counted s →
    MembersAgree program own first k done fs (ms ++ made ∷ []) (counted + 1)
    (with_class s (record s.class { constructor = Some (record (entry s m false None formals) { is_static = false }) }) false)
constructor-after program own first k done fs ms counted s m made formals alone kind none static f class is_made known =
    let later : MainLater s.main (length ms) s.main = main-unchanged s.main (length ms) in
    method-after program own first k done fs ms counted s made (record s.class { constructor = Some (record (entry s m false None formals) { is_static = false }) }) false (λ never. absurd (cc)) refl
    (MethodsAgree-more program s.main s.main own ms (made ∷ []) s.class.methods later known.methods) (
      made,
      rw known.method_count (get-last ms made),
      record {
        class = class;
        constructor = is_made.constructor ∙ kind;
        static = is_made.static ∙ static;
        result = same-good made.result None (sym is_made.result ∙ none);
        is_main = sym (main-after-at s false known.below);
        formals = formals-made program false counted s.methods m made formals known.counts is_made f;
      },
    )
    class
    (with-last (λ n x. x.class ≡ own → x.is_constructor ≡ true → s.methods ≡ n) ms made
    (λ n x found owner is. absurd (none-numbered s.class.constructor n alone (known.constructs n x found owner is))) (λ owner is. known.method_count))
    known.runs
    known
