-- The names of an accepted source agree with its program.
use Rattle.std.proofs.Common.{◌≡◌, ◌<◌, ◌⊎◌, inl, inr, ℕ, ◌+◌, true, List, [], ◌∷◌, ◌++◌, length, Option, Some, slice_get, refl, ap, sym, append-nil, arith}
use Rattle.std.specs.List.{flat_map}
use Rattle.std.proofs.lemmas.List.{length-append}
use Rattle.jr_base.specs.declared.number.ClassId.{ClassId}
use Rattle.jr_base.specs.declared.number.MethodId.{MethodId}
use Rattle.jr_ast.specs.Units as unit
use Rattle.jr_typing_rules.specs.Answers.{one_by_one}
use Rattle.jr_typing_rules.specs.Names.{Text, Names, Class}
use Rattle.jr_typing_rules.specs.Resolution.{Known, Resolved, Resolution, has_own_name, and_member, first_known, and_class}
use Rattle.jr_typing_rules.specs.Declarations.{Coded, MadeField, MadeMethod, MadeClass, ClassesMade, declares_run, makes_member, makes_class}
use Rattle.jr_typing_rules.specs.Whole.{fields_in, methods_in, fields_of, methods_of}
use Rattle.jr_typing_rules.proofs.Holding.{Each, Each-weaker, Holds, holds-require}
use Rattle.jr_typing_rules.proofs.Both.{Both, both-then, both-require, both-along}
use Rattle.jr_typing_rules.proofs.SameTypes.{numbers_alone}
use Rattle.jr_typing_rules.proofs.MainNumbers.{MainBelow, MainLater, main-unchanged}
use Rattle.jr_typing_rules.proofs.Made.{flat_map-snoc}
use Rattle.std.proofs.lemmas.Option.{slice_get_within}
use Rattle.jr_typing_rules.specs.declared.words.MethodEntry.{MethodEntry}
use Rattle.jr_typing_rules.proofs.Items.{with-last}
use Rattle.jr_typing_rules.proofs.Running.{RunRight}
use Rattle.jr_typing_rules.proofs.Known.{get-append, get-last}
use Rattle.jr_typing_rules.proofs.Agreeing.{ConstructsAt, MethodsAgree, MethodsAgree-more, ConstructorAgrees, ConstructorAgrees-more}
use Rattle.jr_typing_rules.proofs.AgreeingFields.{AreBefore, none-lie, FieldsAgree, FieldsAgree-more}
use Rattle.jr_typing_rules.proofs.AgreedMembers.{ClassAgrees, member-agrees}

-- ---- classes

-- the tables of a class agree with what is made
pub record TablesAgree (program : Resolution) (main : Option MethodId) (fs : List MadeField) (ms : List MadeMethod) (own : ClassId) (k : Class) : Type 0 where
  pub fields : FieldsAgree own fs k.fields
  pub methods : MethodsAgree program main own ms k.methods
  pub constructor : ConstructorAgrees program main own ms k.constructor
  pub constructs : ConstructsAt own ms k.constructor

TablesAgree-more : (program : Resolution) (main after : Option MethodId) (fs more : List MadeField) (ms others : List MadeMethod) (own : ClassId) (k : Class) → MainLater main (length ms) after →
    ((n : ℕ) (m : MadeMethod) → slice_get (ms ++ others) n ≡ Some m → m.class ≡ own → slice_get ms n ≡ Some m) → TablesAgree program main fs ms own k → TablesAgree program after (fs ++ more) (ms ++ others) own k
TablesAgree-more program main after fs more ms others own k later before agree = record {
  fields = FieldsAgree-more own fs more k.fields agree.fields;
  methods = MethodsAgree-more program main after own ms others k.methods later agree.methods;
  constructor = ConstructorAgrees-more program main after own ms others k.constructor later agree.constructor;
  constructs = λ n m found owner is. agree.constructs n m (before n m found owner) owner is;
}

-- what is made of a class that has these tables
abbrev pub IsBeside : Resolution → List MadeClass → ℕ → Class → Type 0
IsBeside program made n k =
    (m : MadeClass) × (slice_get made n ≡ Some m) × (m.number.0 ≡ n) × (declares_run program.names m.number m.source ≡ true)
    × Each (λ (e : Text × MethodEntry). RunRight m.source e.0 e.1) k.methods

-- the classes so far
pub record ClassesAgree (program : Resolution) (s : Resolved) (t : ClassesMade) : Type 0 where
  pub count : length s.classes ≡ length t.made
  pub field_count : s.fields ≡ length (flat_map fields_of t.made)
  pub method_count : s.methods ≡ length (flat_map methods_of t.made)
  pub counts : t.counts.methods ≡ s.methods
  pub below : MainBelow s.main s.methods
  pub tables : (c : ℕ) (k : Class) → slice_get s.classes c ≡ Some k →
      TablesAgree program s.main (flat_map fields_of t.made) (flat_map methods_of t.made) (record { 0 = c }) k
  pub beside : (n : ℕ) (k : Class) → slice_get s.classes n ≡ Some k → IsBeside program t.made n k
  pub numbers : (n : ℕ) (k : MadeClass) → slice_get t.made n ≡ Some k → k.number.0 ≡ n
  pub owners : (n : ℕ) (m : MadeMethod) → slice_get (flat_map methods_of t.made) n ≡ Some m → m.class.0 < length t.made
  pub field_classes : AreBefore (length t.made) (flat_map fields_of t.made)

-- a method of an earlier class was made before
older : (own earlier : ClassId) (m : MadeMethod) (P : Type 0) → earlier.0 < own.0 → (m.class ≡ own) ⊎ P → m.class ≡ earlier → P
older own earlier m P below (inl here) owner = absurd (omega (arith, below, ap (λ (c : ClassId). c.0) here, ap (λ (c : ClassId). c.0) owner))
older own earlier m P below (inr before) owner = before

owned : (made : List MadeClass) (new : MadeClass) (m : MadeMethod) (P : Type 0) → (P → m.class.0 < length made) → (m.class ≡ record { 0 = length made }) ⊎ P →
    m.class.0 < length (made ++ new ∷ [])
owned made new m P known (inl here) = omega (arith, ap (λ (c : ClassId). c.0) here, length-append made (new ∷ []))
owned made new m P known (inr before) = omega (arith, known before, length-append made (new ∷ []))

pub class-agrees : (program : Resolution) (numbers : List (Text × ClassId)) (s : Resolved) (t : ClassesMade) (k : unit.Class) → program.names.numbers ≡ numbers → ClassesAgree program s t →
    Both (ClassesAgree program) (and_class numbers s k) (makes_class program t k)
class-agrees program numbers s t k same known =
    let own : ClassId = record { 0 = length t.made } in
    let fs = flat_map fields_of t.made in
    let ms = flat_map methods_of t.made in
    let P = ClassAgrees program k own s.main fs ms in
    let names : Names = record { numbers = numbers; classes = [] } in
    let alone : numbers_alone program.names ≡ names = ap (λ n. record { numbers = n; classes = [] }) same in
    let loop = both-along P (and_member (numbers_alone program.names)) (makes_member program k own) (member-agrees program own s.main fs ms k)
    (first_known s k) (record { counts = t.counts; members = [] })
    (record {
      own_class = ap (λ n. record { 0 = n }) known.count;
      field_count = rw (append-nil fs) known.field_count;
      method_count = rw (append-nil ms) known.method_count;
      counts = known.counts;
      enough = omega (arith, known.method_count);
      below = known.below;
      later = main-unchanged s.main (length ms);
      fields = tt;
      counted_fields = rw (append-nil fs) (λ static. none-lie own static fs known.field_classes);
      field_classes = rw (append-nil fs)
          (Each-weaker (λ (f : MadeField). f.class.0 < length t.made) (λ (f : MadeField). f.class.0 < length t.made + 1) fs (λ f below. omega (arith, below)) known.field_classes);
      methods = tt;
      constructor = tt;
      owners = λ n m found. inr (rw (append-nil ms) at found);
      constructs = λ n m found owner is. absurd (omega (arith, known.owners n m (rw (append-nil ms) at found), ap (λ (c : ClassId). c.0) owner));
      runs = tt;
    })
    k.members in
    holds-require (λ (after : Resolved). Holds (ClassesAgree program after) (makes_class program t k)) (has_own_name numbers (length s.classes) k.name) _ _ λ unique.
    both-require (ClassesAgree program) _ (declares_run program.names own k) _ _ λ run.
    both-then P (ClassesAgree program) (one_by_one (and_member names) (first_known s k) k.members)
    (one_by_one (makes_member program k own) (record { counts = t.counts; members = [] }) k.members) _ _
    (rw alone at loop) λ a c agree. class-after program s t a c k run agree known
  where
    class-after : (program : Resolution) (s : Resolved) (t : ClassesMade) (a : Known) (c : Coded) (k : unit.Class) → declares_run program.names (record { 0 = length t.made }) k ≡ true →
        ClassAgrees program k (record { 0 = length t.made }) s.main (flat_map fields_of t.made) (flat_map methods_of t.made) a c → ClassesAgree program s t →
        ClassesAgree program (record { classes = s.classes ++ a.class ∷ []; fields = a.fields; methods = a.methods; main = a.main })
        (record { counts = c.counts; made = t.made ++ record { source = k; number = record { 0 = length t.made }; members = c.members } ∷ [] })
    class-after program s t a c k run agree known =
        let new : MadeClass = record { source = k; number = record { 0 = length t.made }; members = c.members } in
        let fs = flat_map fields_of t.made in
        let ms = flat_map methods_of t.made in
        let all_fields : flat_map fields_of (t.made ++ new ∷ []) ≡ fs ++ flat_map fields_in c.members = flat_map-snoc fields_of t.made new in
        let all_methods : flat_map methods_of (t.made ++ new ∷ []) ≡ ms ++ flat_map methods_in c.members = flat_map-snoc methods_of t.made new in
        record {
          count = omega (arith, known.count, length-append s.classes (a.class ∷ []), length-append t.made (new ∷ []));
          field_count = rw all_fields agree.field_count;
          method_count = rw all_methods agree.method_count;
          counts = agree.counts;
          below = agree.below;
          tables = rw (all_fields, all_methods)
              (with-last (λ n k. TablesAgree program a.main (fs ++ flat_map fields_in c.members) (ms ++ flat_map methods_in c.members) (record { 0 = n }) k) s.classes a.class
              (λ n k found. TablesAgree-more program s.main a.main fs (flat_map fields_in c.members) ms (flat_map methods_in c.members) (record { 0 = n }) k agree.later
              (λ j m in_all owner. older (record { 0 = length t.made }) (record { 0 = n }) m (slice_get (flat_map methods_of t.made) j ≡ Some m)
              (rw known.count at (slice_get_within s.classes n k found)) (agree.owners j m in_all) owner) (known.tables n k found))
              (rw known.count (record { fields = agree.fields; methods = agree.methods; constructor = agree.constructor; constructs = agree.constructs })));
          beside = with-last (IsBeside program (t.made ++ new ∷ [])) s.classes a.class
              (λ n k found. let b = known.beside n k found in (b.0, get-append t.made (new ∷ []) n b.0 b.1, b.2, b.3, b.4))
              (new, rw known.count (get-last t.made new), sym known.count, run, agree.runs);
          numbers = with-last (λ n (k : MadeClass). k.number.0 ≡ n) t.made new known.numbers refl;
          field_classes = rw (all_fields, length-append t.made (new ∷ [])) agree.field_classes;
          owners = rw all_methods (λ n m found. owned t.made new m (slice_get ms n ≡ Some m) (known.owners n m) (agree.owners n m found));
        }
