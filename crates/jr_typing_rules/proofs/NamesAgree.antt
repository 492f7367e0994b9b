-- The names of an accepted source agree with its program.
use Rattle.std.proofs.Common.{◌≡◌, ◌<◌, ℕ, ◌+◌, Bool, true, false, cond, List, [], ◌∷◌, ◌++◌, length, map, take, Option, Some, None, slice_get, refl, ap, sym, ◌∙◌, arith, option_and_then}
use Rattle.std.specs.List.{flat_map, count_by}
use Rattle.std.specs.Map.{lookup}
use Rattle.std.specs.Str.{bytes_eq}
use Rattle.std.specs.Option.{option_map}
use Rattle.std.proofs.lemmas.List.{length-append, length-map, take-map}
use Rattle.std.proofs.lemmas.List.Sums.{sum_by-cons}
use Rattle.std.proofs.lemmas.Option.{slice_get-map}
use Rattle.jr_base.specs.declared.number.Span.{Span}
use Rattle.jr_base.specs.declared.number.Position.{Position}
use Rattle.jr_base.specs.declared.number.ClassId.{ClassId}
use Rattle.jr_ast.specs.Units as unit
use Rattle.jr_program.specs.Clauses.{Clause}
use Rattle.jr_program.specs.Programs as program
use Rattle.jr_program.specs.Programs.{Program, Note, constructor_of}
use Rattle.jr_base.specs.declared.action.Elem.{Elem}
use Rattle.jr_base.specs.declared.action.Elem.TheVariants as elem
use Rattle.jr_program.specs.ClauseKinds.{IsClass}
use Rattle.jr_program.specs.Slots.{is_of, slot_of}
use Rattle.jr_program.specs.WellFormed.{ElementNamed}
use Rattle.jr_typing_rules.specs.declared.words.ValueType.{ValueType}
use Rattle.jr_typing_rules.specs.declared.words.ValueType.TheVariants as type
use Rattle.jr_typing_rules.specs.declared.words.FieldEntry.{FieldEntry}
use Rattle.jr_typing_rules.specs.declared.words.MethodEntry.{MethodEntry}
use Rattle.jr_typing_rules.specs.Answers.{Good, one_by_one}
use Rattle.jr_typing_rules.specs.Types.{kind_of}
use Rattle.jr_typing_rules.specs.Notes.{notes}
use Rattle.jr_typing_rules.specs.Names.{Text, Class, and_then, named, class_at, field_in, method_in}
use Rattle.jr_typing_rules.specs.Resolution.{Resolved, Resolution, numbered, has_own_name, and_member, first_known, and_class, resolve}
use Rattle.jr_typing_rules.specs.Declarations.{MadeClass, ClassesMade, no_counts, makes_class, code}
use Rattle.jr_typing_rules.specs.Specifications.{clauses}
use Rattle.jr_typing_rules.specs.Sites.{sites_fit}
use Rattle.jr_typing_rules.specs.Whole.{fields_of, methods_of, number_of, program_class, program_field, program_method, program_of, typing}
use Rattle.jr_typing_rules.specs.Agreement.{IsTypeIn, HasField, HasMethod, HasConstructor, AgreesWith}
use Rattle.jr_typing_rules.proofs.Holding.{Holds, holds-good, holds-weaker, holds-next, holds-then, holds-require, holds-found, holds-along, Each, Each-get, same-good}
use Rattle.jr_typing_rules.proofs.Both.{both-along}
use Rattle.jr_typing_rules.proofs.Agreeing.{MethodAgrees, ConstructorAgrees}
use Rattle.jr_typing_rules.proofs.AgreeingFields.{lies, FieldAgrees}
use Rattle.jr_typing_rules.proofs.TypesNamed.{ElementNames, TypeNames, ResultNames, ClassNames, resolved-names}
use Rattle.jr_typing_rules.proofs.Agreed.{TablesAgree, ClassesAgree, class-agrees}

-- ---- both passes

-- what both passes make of a source
abbrev pub PassesAgree : Resolution → ClassesMade → Type 0
PassesAgree r c = (s : Resolved) × (s.classes ≡ r.names.classes) × (s.main ≡ Some r.main) × ClassesAgree r s c

passes-agree : (ks : List unit.Class) → Holds (λ r. Holds (PassesAgree r) (code r ks)) (resolve ks)
unfolding resolve code
passes-agree ks =
    let first : Resolved = record { classes = []; fields = 0; methods = 0; main = None } in
    let start : ClassesMade = record { counts = no_counts; made = [] } in
    let numbers = numbered 0 ks in
    let Q = λ (r : Resolution). Holds (PassesAgree r) (one_by_one (makes_class r) start ks) in
    holds-next Q (one_by_one (and_class numbers) first ks) _ λ (all : Resolved) e.
    holds-found Q all.main _ _ λ main is.
    let r : Resolution = record { names = record { numbers = numbers; classes = all.classes }; main = main } in
    holds-weaker (ClassesAgree r all) (PassesAgree r) (one_by_one (makes_class r) start ks)
    (holds-good (λ s. Holds (ClassesAgree r s) (one_by_one (makes_class r) start ks)) (one_by_one (and_class numbers) first ks) all
    (both-along (ClassesAgree r) (and_class numbers) (makes_class r) (λ s t k. class-agrees r numbers s t k refl) first start
    (record {
      count = refl;
      field_count = refl;
      method_count = refl;
      counts = refl;
      below = tt;
      tables = λ n k found. absurd (cc);
      beside = λ n k found. absurd (cc);
      numbers = λ n k found. absurd (cc);
      owners = λ n m found. absurd (cc);
      field_classes = tt;
    })
    ks) e)
    λ c agree. (all, refl, is, agree)

-- ---- numbers of classes

class-counted : (numbers : List (Text × ClassId)) (before : List unit.Class) (s : Resolved) (k : unit.Class) → length s.classes ≡ length before →
    Holds (λ (after : Resolved). length after.classes ≡ length (before ++ k ∷ [])) (and_class numbers s k)
class-counted numbers before s k counted =
    let Q = λ (after : Resolved). length after.classes ≡ length (before ++ k ∷ []) in
    holds-require Q (has_own_name numbers (length s.classes) k.name) _ _ λ own.
    holds-next Q (one_by_one (and_member (record { numbers = numbers; classes = [] })) (first_known s k) k.members) _ λ known e.
    omega (arith, counted, length-append s.classes (known.class ∷ []), length-append before (k ∷ []))

abbrev pub AreNumbered : List unit.Class → Resolution → Type 0
AreNumbered ks r = (r.names.numbers ≡ numbered 0 ks) × (length r.names.classes ≡ length ks)

pub classes-numbered : (ks : List unit.Class) → Holds (AreNumbered ks) (resolve ks)
unfolding resolve
classes-numbered ks =
    let first : Resolved = record { classes = []; fields = 0; methods = 0; main = None } in
    let P = λ (s : Resolved). length s.classes ≡ length ks in
    holds-then (AreNumbered ks) P (one_by_one (and_class (numbered 0 ks)) first ks) _
    (holds-along (λ (before : List unit.Class) (s : Resolved). length s.classes ≡ length before) (and_class (numbered 0 ks)) (class-counted (numbered 0 ks)) [] first refl ks)
    λ (all : Resolved) counted. holds-found (AreNumbered ks) all.main _ _ λ main is. (refl, counted)

lookup-numbered : (n : ℕ) (test : Text → Bool) (ks : List unit.Class) (c : ClassId) → lookup test (numbered n ks) ≡ Some c → c.0 < n + length ks
lookup-numbered n test [] c e = absurd (cc)
lookup-numbered n test (k ∷ ks) c e = by (test k.name.text) (λ e. omega (arith, lookup-numbered (n + 1) test ks c e)) e
  where
    by : (b : Bool) → (lookup test (numbered (n + 1) ks) ≡ Some c → c.0 < n + length (k ∷ ks)) → cond b (Some (record { 0 = n })) (lookup test (numbered (n + 1) ks)) ≡ Some c →
        c.0 < n + length (k ∷ ks)
    by true later e = let here : ClassId = record { 0 = n } in let same : here ≡ c = cc in omega (arith, ap (λ (c : ClassId). c.0) same)
    by false later e = later e

-- ---- what is found by name

lookup-each : {A : Type 0} (P : A → Type 0) (test : Text → Bool) (table : List (Text × A)) (x : A) → Each (λ (e : Text × A). P e.1) table → lookup test table ≡ Some x → P x
lookup-each P test [] x all e = absurd (cc)
lookup-each P test ((y, entry) ∷ rest) x all e = by (test y) (lookup-each P test rest x all.1) e
  where
    by : (b : Bool) → (lookup test rest ≡ Some x → P x) → cond b (Some entry) (lookup test rest) ≡ Some x → P x
    by true later e = let same : entry ≡ x = cc in rw same at all.0
    by false later e = later e

pub from-some : {A B : Type 0} (o : Option A) (f : A → Option B) (y : B) → and_then o f ≡ Some y → (x : A) × (o ≡ Some x) × (f x ≡ Some y)
from-some (Some x) f y e = (x, refl, e)
from-some None f y e = absurd (cc)

-- ---- the program

has-field : (r : Resolution) (c : ClassesMade) (all : List Clause) (ns : List Note) (own : ClassId) (e : FieldEntry) → FieldAgrees own (flat_map fields_of c.made) e →
    HasField (program_of r c all ns) own e
has-field r c all ns own e a = (
  program_field a.0,
  slice_get-map program_field (flat_map fields_of c.made) e.number.0 ∙ ap (option_map program_field) a.1,
  record { declared_in = a.2.declared_in; class = a.2.class; static = a.2.static; kind = ap kind_of a.2.of },
)

count-map : {A B : Type 0} (p : B → Bool) (f : A → B) (xs : List A) → count_by p (map f xs) ≡ count_by (λ x. p (f x)) xs
count-map p f [] = refl
count-map p f (x ∷ xs) =
    sum_by-cons (λ y. cond (p y) 1 0) (f x) (map f xs) ∙ ap (λ n. cond (p (f x)) 1 0 + n) (count-map p f xs) ∙ sym (sum_by-cons (λ x. cond (p (f x)) 1 0) x xs)

-- the field lies where its entry says
has-slot : (r : Resolution) (c : ClassesMade) (all : List Clause) (ns : List Note) (own : ClassId) (e : FieldEntry) → FieldAgrees own (flat_map fields_of c.made) e →
    e.slot ≡ slot_of (program_of r c all ns) e.number
has-slot r c all ns own e a =
    let fs = flat_map fields_of c.made in
    let found : slice_get (map program_field fs) e.number.0 ≡ Some (program_field a.0) = slice_get-map program_field fs e.number.0 ∙ ap (option_map program_field) a.1 in
    let count : count_by (is_of a.0.class a.0.is_static) (take e.number.0 (map program_field fs)) ≡ count_by (lies a.0.class a.0.is_static) (take e.number.0 fs) =
    ap (count_by (is_of a.0.class a.0.is_static)) (take-map program_field e.number.0 fs) ∙ count-map (is_of a.0.class a.0.is_static) program_field (take e.number.0 fs) in
    let own_count : e.slot ≡ count_by (lies a.0.class a.0.is_static) (take e.number.0 fs) = rw (a.2.class, a.2.static) a.3 in
    rw found (own_count ∙ sym count)

has-method : (r : Resolution) (c : ClassesMade) (all : List Clause) (ns : List Note) (own : ClassId) (constructs : Bool) (e : MethodEntry) →
    MethodAgrees r (Some r.main) own constructs (flat_map methods_of c.made) e → HasMethod (program_of r c all ns) own constructs e
has-method r c all ns own constructs e a = (
  program_method a.0,
  slice_get-map program_method (flat_map methods_of c.made) e.number.0 ∙ ap (option_map program_method) a.1,
  record {
    class = a.2.class;
    constructor = a.2.constructor;
    static = a.2.static;
    formals = a.2.formals a.2.is_main;
    result = ap (option_map kind_of) a.2.result;
  },
)

has-constructor : (r : Resolution) (c : ClassesMade) (all : List Clause) (ns : List Note) (own : ClassId) (o : Option MethodEntry) →
    constructor_of (program_of r c all ns) own ≡ option_map number_of o → ConstructorAgrees r (Some r.main) own (flat_map methods_of c.made) o →
    HasConstructor (program_of r c all ns) own o
has-constructor r c all ns own None e agree = e
has-constructor r c all ns own (Some entry) e agree = (e, has-method r c all ns own true entry agree)

constructor-found : (r : Resolution) (c : ClassesMade) (all : List Clause) (ns : List Note) (own : ClassId) (k : Class) (made : MadeClass) → slice_get r.names.classes own.0 ≡ Some k →
    slice_get c.made own.0 ≡ Some made → made.number.0 ≡ own.0 → constructor_of (program_of r c all ns) own ≡ option_map number_of k.constructor
unfolding class_at
constructor-found r c all ns own k made named_class is number =
    let here : slice_get r.names.classes made.number.0 ≡ Some k = rw number named_class in
    ap (option_and_then (λ (class : program.Class). class.constructor)) (slice_get-map (program_class r.names) c.made own.0 ∙ ap (option_map (program_class r.names)) is)
    ∙ ap (λ o. option_map number_of (and_then o (λ (k : Class). k.constructor))) here

-- ---- types

-- a name stands for classes of the program alone
abbrev pub NamesClasses : Program → List (Text × ClassId) → Type 0
NamesClasses program numbers = (x : Text) (c : ClassId) → named x numbers ≡ Some c → IsClass program c

pub element-in : (program : Program) (numbers : List (Text × ClassId)) → NamesClasses program numbers → (e : Elem) → ElementNames numbers e → ElementNamed program e
element-in program numbers classes (elem.Class c) is = classes is.0 c is.1
element-in program numbers classes elem.Int is = tt
element-in program numbers classes elem.Long is = tt
element-in program numbers classes elem.Bool is = tt
element-in program numbers classes elem.Object is = tt
element-in program numbers classes elem.Thread is = tt
element-in program numbers classes elem.Runnable is = tt

pub type-in : (program : Program) (numbers : List (Text × ClassId)) → NamesClasses program numbers → (t : ValueType) → TypeNames numbers t → IsTypeIn program t
type-in program numbers classes type.Null is = tt
type-in program numbers classes (type.Single e) is = element-in program numbers classes e is
type-in program numbers classes (type.ArrayOf e) is = element-in program numbers classes e is

result-in : (program : Program) (numbers : List (Text × ClassId)) → NamesClasses program numbers → (o : Option ValueType) (t : ValueType) → o ≡ Some t → ResultNames numbers o →
    IsTypeIn program t
result-in program numbers classes o t same is = type-in program numbers classes t (named-result numbers o t same is)
  where
    named-result : (numbers : List (Text × ClassId)) (o : Option ValueType) (t : ValueType) → o ≡ Some t → ResultNames numbers o → TypeNames numbers t
    named-result numbers o t same is = rw same at is

-- ---- the whole

agreed : (ks : List unit.Class) (r : Resolution) (c : ClassesMade) (all : List Clause) (ns : List Note) → AreNumbered ks r → PassesAgree r c →
    Each (ClassNames r.names.numbers) r.names.classes → AgreesWith r.names (program_of r c all ns)
unfolding field_in method_in class_at named
agreed ks r c all ns numbered_classes (s, classes, main, agree) typed =
    let count : length r.names.classes ≡ length c.made = ap length (sym classes) ∙ agree.count in
    let made_count : length (map (program_class r.names) c.made) ≡ length c.made = length-map c.made (program_class r.names) in
    let tables : (n : ClassId) (k : Class) → slice_get r.names.classes n.0 ≡ Some k → TablesAgree r (Some r.main) (flat_map fields_of c.made) (flat_map methods_of c.made) n k =
    λ n k found. rw main at (agree.tables n.0 k (rw classes found)) in
    let is_class : (x : Text) (n : ClassId) → named x r.names.numbers ≡ Some n → IsClass (program_of r c all ns) n =
    λ x n found. rw made_count (omega (arith, lookup-numbered 0 (bytes_eq x) ks n (rw numbered_classes.0 at found), numbered_classes.1, count)) in
    record {
      count = count ∙ sym made_count;
      classes = is_class;
      fields = λ n x e found.
          let class = from-some (slice_get r.names.classes n.0) (λ (k : Class). lookup (bytes_eq x) k.fields) e found in
          has-field r c all ns n e (lookup-each (FieldAgrees n (flat_map fields_of c.made)) (bytes_eq x) class.0.fields e (tables n class.0 class.1).fields class.2);
      slots = λ n x e found.
          let class = from-some (slice_get r.names.classes n.0) (λ (k : Class). lookup (bytes_eq x) k.fields) e found in
          has-slot r c all ns n e (lookup-each (FieldAgrees n (flat_map fields_of c.made)) (bytes_eq x) class.0.fields e (tables n class.0 class.1).fields class.2);
      methods = λ n x e found.
          let class = from-some (slice_get r.names.classes n.0) (λ (k : Class). lookup (bytes_eq x) k.methods) e found in
          has-method r c all ns n false e
          (lookup-each (MethodAgrees r (Some r.main) n false (flat_map methods_of c.made)) (bytes_eq x) class.0.methods e (tables n class.0 class.1).methods class.2);
      constructors = λ n k found.
          let beside = agree.beside n.0 k (rw classes found) in
          has-constructor r c all ns n k.constructor (constructor-found r c all ns n k beside.0 found beside.1 beside.2) (tables n k found).constructor;
      field_types = λ n x e found.
          let class = from-some (slice_get r.names.classes n.0) (λ (k : Class). lookup (bytes_eq x) k.fields) e found in
          let names = Each-get (ClassNames r.names.numbers) r.names.classes n.0 class.0 typed class.1 in
          type-in (program_of r c all ns) r.names.numbers is_class e.of
          (lookup-each (λ (e : FieldEntry). TypeNames r.names.numbers e.of) (bytes_eq x) class.0.fields e names.fields class.2);
      result_types = λ n x e t found is.
          let class = from-some (slice_get r.names.classes n.0) (λ (k : Class). lookup (bytes_eq x) k.methods) e found in
          let names = Each-get (ClassNames r.names.numbers) r.names.classes n.0 class.0 typed class.1 in
          result-in (program_of r c all ns) r.names.numbers is_class e.result t is
          (lookup-each (λ (e : MethodEntry). ResultNames r.names.numbers e.result) (bytes_eq x) class.0.methods e names.methods class.2);
    }

-- what holds of whatever both passes make of a source holds of its program
pub typing-made : (position : Span → Position) (ks : List unit.Class) (Q : Program → Type 0) →
    ((r : Resolution) (c : ClassesMade) (all : List Clause) → resolve ks ≡ Good r → code r ks ≡ Good c → Q (program_of r c all (notes position ks))) → Holds Q (typing position ks)
unfolding typing
typing-made position ks Q made =
    holds-next Q (resolve ks) _ λ r er.
    holds-next Q (code r ks) _ λ c ec.
    holds-next Q (clauses (record { position = position; names = r.names }) c.made) _ λ all ea.
    holds-next Q (sites_fit (program_of r c all (notes position ks)) c.made) _ λ u fit. made r c all er ec

pub made-agrees : (ks : List unit.Class) (r : Resolution) (c : ClassesMade) → resolve ks ≡ Good r → code r ks ≡ Good c → PassesAgree r c
made-agrees ks r c er ec = holds-good (PassesAgree r) (code r ks) c (holds-good (λ r. Holds (PassesAgree r) (code r ks)) (resolve ks) r (passes-agree ks) er) ec

pub program-agrees : (ks : List unit.Class) (r : Resolution) (c : ClassesMade) (all : List Clause) (ns : List Note) → resolve ks ≡ Good r → code r ks ≡ Good c →
    AgreesWith r.names (program_of r c all ns)
program-agrees ks r c all ns er ec = agreed ks r c all ns (holds-good (AreNumbered ks) (resolve ks) r (classes-numbered ks) er) (made-agrees ks r c er ec)
    (holds-good (λ (r : Resolution). Each (ClassNames r.names.numbers) r.names.classes) (resolve ks) r (resolved-names ks) er)

for-same : (s r : Resolution) (program : Program) → s ≡ r → AgreesWith s.names program → AgreesWith r.names program
for-same s r program same agree = rw same at agree

-- the law
pub names-agree : (position : Span → Position) (ks : List unit.Class) (r : Resolution) (program : Program) → resolve ks ≡ Good r → typing position ks ≡ Good program → AgreesWith r.names program
names-agree position ks r program resolved e =
    holds-good (AgreesWith r.names) (typing position ks) program
    (typing-made position ks (AgreesWith r.names) λ s c all er ec.
    for-same s r (program_of s c all (notes position ks)) (same-good s r (sym er ∙ resolved)) (program-agrees ks s c all (notes position ks) er ec)) e
