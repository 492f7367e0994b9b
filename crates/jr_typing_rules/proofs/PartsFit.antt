-- The fields, the classes and the headers of methods of an accepted source fit its program.
use Rattle.std.proofs.Common.{◌≡◌, ◌||◌, ◌&&◌, ℕ, zero, suc, Bool, true, false, not, cond, List, [], ◌∷◌, map, Option, Some, None, is_some, codes, slice_get, length, refl, ap, sym, ◌∙◌, arith, option_and_then}
use Rattle.std.specs.List.{flat_map}
use Rattle.std.specs.Map.{lookup}
use Rattle.std.specs.Str.{bytes_eq}
use Rattle.std.specs.Option.{option_map}
use Rattle.std.proofs.lemmas.List.{length-map}
use Rattle.std.proofs.lemmas.Option.{slice_get-map, slice_get_within}
use Rattle.std.proofs.lemmas.Slice.Eq.{bytes_eq-Decides}
use Rattle.jr_base.specs.declared.number.Span.{Span}
use Rattle.jr_base.specs.declared.number.Position.{Position}
use Rattle.jr_base.specs.declared.number.ClassId.{ClassId}
use Rattle.jr_base.specs.declared.number.FieldId.{FieldId}
use Rattle.jr_base.specs.declared.number.MethodId.{MethodId}
use Rattle.jr_ast.specs.Units as unit
use Rattle.jr_program.specs.Clauses.{Clause}
use Rattle.jr_program.specs.Programs as parts
use Rattle.jr_program.specs.Programs.{Program, Note, constructor_of}
use Rattle.jr_program.specs.WellFormed.{FieldFits, ClassFits, RunFits, ConstructorFits, ConstructsFits}
use Rattle.jr_typing_rules.specs.declared.words.MethodEntry.{MethodEntry}
use Rattle.jr_typing_rules.specs.Answers.{Good}
use Rattle.jr_typing_rules.specs.Types.{kind_of}
use Rattle.jr_typing_rules.specs.Notes.{notes}
use Rattle.jr_typing_rules.specs.Modifiers.{has}
use Rattle.jr_typing_rules.specs.Names.{Text, Names, Class, and_then, named, class_at, method_in}
use Rattle.jr_typing_rules.specs.Resolution.{Resolution}
use Rattle.jr_typing_rules.specs.Declarations.{MadeField, MadeMethod, MadeClass, ClassesMade, is_empty, declares_run, code}
use Rattle.jr_typing_rules.specs.Whole.{fields_of, methods_of, runs, program_class, program_field, program_method, program_of, typing}
use Rattle.jr_typing_rules.specs.Headers.{HeaderFits}
use Rattle.jr_typing_rules.specs.Agreement.{HasMethod, HasConstructor, AgreesWith}
use Rattle.jr_typing_rules.proofs.Holding.{holds-good, Each, Each-get, Each-map, Each-weaker, same-some}
use Rattle.jr_typing_rules.proofs.Items.{is-there, same-place}
use Rattle.jr_typing_rules.proofs.MadeRight.{FieldRight, MethodRight, AllRight, code-right}
use Rattle.jr_typing_rules.proofs.Agreeing.{IsNumbered}
use Rattle.jr_typing_rules.proofs.Running.{RunRight, starts_thread, not-true-false}
use Rattle.jr_typing_rules.proofs.Known.{both}
use Rattle.jr_typing_rules.proofs.NamesAgree.{PassesAgree, typing-made, made-agrees, program-agrees}

-- ---- fields

field-fits : (r : Resolution) (c : ClassesMade) (all : List Clause) (ns : List Note) (f : MadeField) → FieldRight (length c.made) f → FieldFits (program_of r c all ns) (program_field f)
field-fits r c all ns f right = record { class = rw (length-map c.made (program_class r.names)) right.class; constant = right.constant }

abbrev pub FieldsFit : Program → Type 0
FieldsFit program = (f : FieldId) (field : parts.Field) → parts.field_at program f ≡ Some field → FieldFits program field

fields-fit-made : (r : Resolution) (c : ClassesMade) (all : List Clause) (ns : List Note) → AllRight c → FieldsFit (program_of r c all ns)
fields-fit-made r c all ns right f field found =
    let fs = flat_map fields_of c.made in
    Each-get (FieldFits (program_of r c all ns)) (map program_field fs) f.0 field
    (Each-map (FieldFits (program_of r c all ns)) program_field fs
    (Each-weaker (FieldRight (length c.made)) (λ f. FieldFits (program_of r c all ns) (program_field f)) fs (field-fits r c all ns) right.fields)) found

pub fields-fit : (position : Span → Position) (ks : List unit.Class) (program : Program) → typing position ks ≡ Good program → FieldsFit program
fields-fit position ks program e =
    holds-good FieldsFit (typing position ks) program
    (typing-made position ks FieldsFit λ r c all er ec.
    fields-fit-made r c all (notes position ks) (holds-good AllRight (code r ks) c (code-right r ks) ec)) e

-- ---- headers of methods

pub from-map : {A B : Type 0} (f : A → B) (xs : List A) (k : ℕ) (y : B) → slice_get (map f xs) k ≡ Some y → (x : A) × (slice_get xs k ≡ Some x) × (f x ≡ y)
from-map f [] k y e = absurd (cc)
from-map f (x ∷ xs) zero y e = (x, refl, cc)
from-map f (x ∷ xs) (suc k) y e = from-map f xs k y e

constructor-numbered : (program : Program) (own : ClassId) (m : MethodId) (o : Option MethodEntry) → HasConstructor program own o → IsNumbered o m.0 → constructor_of program own ≡ Some m
constructor-numbered program own m None has is = absurd is
constructor-numbered program own m (Some e) has is = has.0 ∙ ap (λ n. Some (record { 0 = n })) is

constructs-fit : (program : Program) (m : MethodId) (method : parts.Method) (b : Bool) →
    (b ≡ true → (constructor_of program method.class ≡ Some m) × (method.is_static ≡ false) × (method.is_synchronized ≡ false) × (method.result ≡ None)) → ConstructsFits program m method b
constructs-fit program m method true fits = fits refl
constructs-fit program m method false fits = tt

abbrev pub HeadersFit : Program → Type 0
HeadersFit program = (m : MethodId) (method : parts.Method) → parts.method_at program m ≡ Some method → HeaderFits program m method

header-fits : (r : Resolution) (c : ClassesMade) (all : List Clause) (ns : List Note) (m : MethodId) (made : MadeMethod) → PassesAgree r c → AgreesWith r.names (program_of r c all ns) →
    slice_get (flat_map methods_of c.made) m.0 ≡ Some made → MethodRight (length c.made) made → HeaderFits (program_of r c all ns) m (program_method made)
unfolding class_at
header-fits r c all ns m made (s, classes, main, agree) names found right = record {
  class = rw (length-map c.made (program_class r.names)) right.class;
  formals = right.formals;
  few_formals = right.few_formals;
  result = right.result;
  constructs = constructs-fit (program_of r c all ns) m (program_method made) made.is_constructor λ is.
      let there = is-there s.classes made.class.0 (omega (arith, right.class, agree.count)) in
      let own = same-place s.classes r.names.classes made.class.0 there.0 classes there.1 in
      let number = (agree.tables made.class.0 there.0 there.1).constructs m.0 made found refl is in
      let rules = right.constructs is in (
        constructor-numbered (program_of r c all ns) made.class m there.0.constructor (names.constructors made.class there.0 own) number,
        rules.0,
        rules.1,
        ap (option_map kind_of) rules.2,
      );
}

pub headers-fit-made : (r : Resolution) (c : ClassesMade) (all : List Clause) (ns : List Note) → PassesAgree r c → AgreesWith r.names (program_of r c all ns) → AllRight c →
    HeadersFit (program_of r c all ns)
headers-fit-made r c all ns agree names right m method found =
    let made = from-map program_method (flat_map methods_of c.made) m.0 method found in
    rw (sym made.2)
    (header-fits r c all ns m made.0 agree names made.1 (Each-get (MethodRight (length c.made)) (flat_map methods_of c.made) m.0 made.0 right.methods made.1))

pub headers-fit : (position : Span → Position) (ks : List unit.Class) (program : Program) → typing position ks ≡ Good program → HeadersFit program
headers-fit position ks program e =
    holds-good HeadersFit (typing position ks) program
    (typing-made position ks HeadersFit λ r c all er ec.
    headers-fit-made r c all (notes position ks) (made-agrees ks r c er ec) (program-agrees ks r c all (notes position ks) er ec)
    (holds-good AllRight (code r ks) c (code-right r ks) ec)) e

-- ---- classes

or-false : (a : Bool) → (a || false) ≡ true → a ≡ true
or-false true e = refl
or-false false e = absurd (cc)

empty : {A : Type 0} (xs : List A) → is_empty xs ≡ true → xs ≡ []
empty [] e = refl
empty (x ∷ xs) e = absurd (cc)

never : (thread runnable test : Bool) → ((thread || runnable) ≡ true → test ≡ true) → test ≡ false → runnable ≡ false
never thread false test starts e = refl
never true true test starts e = absurd (cc (starts refl, e))
never false true test starts e = absurd (cc (starts refl, e))

starts-run : (e : MethodEntry) → e.is_static ≡ false → e.formals ≡ [] → (not e.is_static && is_empty e.formals) ≡ true
starts-run e instance none = rw (instance, none) refl

-- what a thread runs of a class, where the names of the class have that `run`
run-fits : (program : Program) (names : Names) (c : ClassId) (k : MadeClass) (o : Option MethodEntry) → (not k.source.implements_runnable || is_some o) ≡ true →
    ((e : MethodEntry) → o ≡ Some e → HasMethod program c false e × (starts_thread k.source ≡ true → (e.is_static ≡ false) × (e.formals ≡ []) × (e.result ≡ None))) →
    RunFits program c (program_class names k) (and_then o runs)
run-fits program names c k None declared entry = not-true-false k.source.implements_runnable (or-false (not k.source.implements_runnable) declared)
run-fits program names c k (Some e) declared entry = by (not e.is_static && is_empty e.formals) refl
  where
    by : (b : Bool) → (not e.is_static && is_empty e.formals) ≡ b → RunFits program c (program_class names k) (cond b (Some e.number) None)
    by true test =
        let halves = both (not e.is_static) (is_empty e.formals) test in
        let facts = entry e refl in
        let has_method = facts.0 in (
          has_method.0,
          has_method.1,
          has_method.2.class,
          has_method.2.static ∙ not-true-false e.is_static halves.0,
          has_method.2.constructor,
          has_method.2.formals ∙ ap (map kind_of) (empty e.formals halves.1),
          λ starts. has_method.2.result ∙ ap (option_map kind_of) (facts.1 starts).2,
        )
    by false test =
        never k.source.extends_thread k.source.implements_runnable (not e.is_static && is_empty e.formals)
        (λ starts. let facts = (entry e refl).1 starts in starts-run e facts.0 facts.1) test

constructor-fits : (program : Program) (c : ClassId) (o : Option MethodId) (k : Option MethodEntry) → o ≡ constructor_of program c → HasConstructor program c k → ConstructorFits program c o
constructor-fits program c o None same has = let none : o ≡ None = same ∙ has in rw none tt
constructor-fits program c o (Some e) same has =
    let number : o ≡ Some e.number = same ∙ has.0 in rw number (has.1.0, has.1.1, has.1.2.class, has.1.2.constructor)

lookup-keyed : {A : Type 0} (P : Text → A → Type 0) (test : Text → Bool) (table : List (Text × A)) (x : A) → Each (λ (e : Text × A). P e.0 e.1) table → lookup test table ≡ Some x →
    (y : Text) × (test y ≡ true) × P y x
lookup-keyed P test [] x all e = absurd (cc)
lookup-keyed P test ((y, entry) ∷ rest) x all e = by (test y) refl (lookup-keyed P test rest x all.1) e
  where
    by : (b : Bool) → test y ≡ b → (lookup test rest ≡ Some x → (y : Text) × (test y ≡ true) × P y x) → cond b (Some entry) (lookup test rest) ≡ Some x →
        (y : Text) × (test y ≡ true) × P y x
    by true is later e = let same : entry ≡ x = cc in (y, is, rw same at all.0)
    by false is later e = later e

turned : (x y : Text) → bytes_eq x y ≡ true → bytes_eq y x ≡ true
turned x y e = (bytes_eq-Decides y x).1 (sym ((bytes_eq-Decides x y).0 e))

run-named : (k : unit.Class) (table : List (Text × MethodEntry)) (e : MethodEntry) → Each (λ (e : Text × MethodEntry). RunRight k e.0 e.1) table → lookup (bytes_eq (codes "run")) table ≡ Some e →
    starts_thread k ≡ true → (e.is_static ≡ false) × (e.formals ≡ []) × (e.result ≡ None)
run-named k table e all found starts =
    let keyed = lookup-keyed (RunRight k) (bytes_eq (codes "run")) table e all found in
    keyed.2 (rw (turned (codes "run") keyed.0 keyed.1, starts) refl)

abbrev pub ClassesFit : Program → Type 0
ClassesFit program = (c : ClassId) (class : parts.Class) → parts.class_at program c ≡ Some class → ClassFits program c class

class-fits : (r : Resolution) (c : ClassesMade) (all : List Clause) (ns : List Note) (n : ClassId) (k : Class) (made : MadeClass) → AgreesWith r.names (program_of r c all ns) →
    slice_get r.names.classes n.0 ≡ Some k → slice_get c.made n.0 ≡ Some made → made.number.0 ≡ n.0 → declares_run r.names made.number made.source ≡ true →
    Each (λ (e : Text × MethodEntry). RunRight made.source e.0 e.1) k.methods → ClassFits (program_of r c all ns) n (program_class r.names made)
unfolding class_at method_in named
class-fits r c all ns n k made names named_class is number declares runs =
    let same : made.number ≡ n = ap (λ n. record { 0 = n }) number in
    let here : slice_get r.names.classes made.number.0 ≡ Some k = rw number named_class in
    record {
      run = run-fits (program_of r c all ns) r.names n made (method_in r.names made.number (codes "run")) declares λ e found. (
        rw same at (names.methods made.number (codes "run") e found),
        run-named made.source k.methods e runs (ap (λ o. and_then o (λ (k : Class). lookup (bytes_eq (codes "run")) k.methods)) (sym here) ∙ found),
      );
      constructor = constructor-fits (program_of r c all ns) n (program_class r.names made).constructor k.constructor
          (sym (ap (option_and_then (λ (class : parts.Class). class.constructor)) (slice_get-map (program_class r.names) c.made n.0 ∙ ap (option_map (program_class r.names)) is)))
          (names.constructors n k named_class);
    }

classes-fit-made : (r : Resolution) (c : ClassesMade) (all : List Clause) (ns : List Note) → PassesAgree r c → AgreesWith r.names (program_of r c all ns) → ClassesFit (program_of r c all ns)
classes-fit-made r c all ns (s, classes, main, agree) names n class found =
    let below = slice_get_within (map (program_class r.names) c.made) n.0 class found in
    let there = is-there s.classes n.0 (omega (arith, below, agree.count, length-map c.made (program_class r.names))) in
    let beside = agree.beside n.0 there.0 there.1 in
    let same : class ≡ program_class r.names beside.0 =
    same-some class (program_class r.names beside.0) (sym found ∙ slice_get-map (program_class r.names) c.made n.0 ∙ ap (option_map (program_class r.names)) beside.1) in
    rw same (class-fits r c all ns n there.0 beside.0 names (same-place s.classes r.names.classes n.0 there.0 classes there.1) beside.1 beside.2 beside.3 beside.4)

pub classes-fit : (position : Span → Position) (ks : List unit.Class) (program : Program) → typing position ks ≡ Good program → ClassesFit program
classes-fit position ks program e =
    holds-good ClassesFit (typing position ks) program
    (typing-made position ks ClassesFit λ r c all er ec.
    classes-fit-made r c all (notes position ks) (made-agrees ks r c er ec) (program-agrees ks r c all (notes position ks) er ec)) e
