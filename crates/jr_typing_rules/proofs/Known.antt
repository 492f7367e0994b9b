-- What the pass on names knows of a source: fields have numbers below their count, and main is a method that is written.
use Rattle.std.proofs.Common.{◌≡◌, ◌<◌, ◌&&◌, ℕ, ◌+◌, zero, suc, Bool, true, false, List, [], ◌∷◌, ◌++◌, length, Option, Some, None, is_none, not, slice_get, refl, ap, sym, ◌∙◌, append_assoc, append-nil, arith}
use Rattle.std.specs.List.{flat_map}
use Rattle.std.proofs.lemmas.List.{length-append}
use Rattle.jr_base.specs.declared.number.ClassId.{ClassId}
use Rattle.jr_base.specs.declared.number.MethodId.{MethodId}
use Rattle.jr_ast.specs.declared.name.Name.{Name}
use Rattle.jr_ast.specs.declared.unit.Field.{Field}
use Rattle.jr_ast.specs.declared.unit.FieldDeclarator.{FieldDeclarator}
use Rattle.jr_ast.specs.declared.unit.MethodKind.{MethodKind}
use Rattle.jr_ast.specs.declared.unit.MethodKind.TheVariants as kinds
use Rattle.jr_ast.specs.Units.{Member, Empty, OfField, OfMethod, OfClause}
use Rattle.jr_ast.specs.Units as unit
use Rattle.jr_typing_rules.specs.declared.words.ValueType.{ValueType}
use Rattle.jr_typing_rules.specs.declared.words.FieldEntry.{FieldEntry}
use Rattle.jr_typing_rules.specs.Answers.{one_by_one}
use Rattle.jr_typing_rules.specs.Modifiers.{has, is_static_kind}
use Rattle.jr_typing_rules.specs.Names.{Text, Names, Class, named}
use Rattle.jr_typing_rules.specs.Statements.{type_of}
use Rattle.jr_typing_rules.specs.Resolution.{Known, Resolved, Resolution, numbered, has_own_name, looks_like_main, is_first_main, main_after, is_library_method, and_entry, field_entry, result_type, formal_types, and_field, and_fields, and_constructor, and_named_method, and_method, and_member, first_known, and_class, resolve}
use Rattle.jr_typing_rules.proofs.Holding.{Holds, holds-weaker, holds-next, holds-then, holds-require, holds-found, holds-along, Each, Each-append, Each-weaker}
use Rattle.jr_typing_rules.specs.Written.{methods_written, methods_written_in, declared, declared_in}
use Rattle.jr_typing_rules.proofs.Made.{flat_map-snoc}

-- ---- main

-- the method of that number is written, and looks like main
abbrev pub MainIn : List unit.Method → Option MethodId → Type 0
MainIn ts None = Unit {0}
MainIn ts (Some m) = (t : unit.Method) × (slice_get ts m.0 ≡ Some t) × (looks_like_main t ≡ true)

pub get-append : {A : Type 0} (xs ys : List A) (k : ℕ) (x : A) → slice_get xs k ≡ Some x → slice_get (xs ++ ys) k ≡ Some x
get-append [] ys k x e = cc
get-append (y ∷ xs) ys zero x e = e
get-append (y ∷ xs) ys (suc k) x e = get-append xs ys k x e

pub get-last : {A : Type 0} (xs : List A) (y : A) → slice_get (xs ++ y ∷ []) (length xs) ≡ Some y
get-last [] y = refl
get-last (x ∷ xs) y = get-last xs y

MainIn-more : (ts more : List unit.Method) (main : Option MethodId) → MainIn ts main → MainIn (ts ++ more) main
MainIn-more ts more None main = tt
MainIn-more ts more (Some m) main = (main.0, get-append ts more m.0 main.0 main.1, main.2)

pub both : (a b : Bool) → (a && b) ≡ true → (a ≡ true) × (b ≡ true)
both true b e = (refl, e)
both false b e = absurd (cc)

main-after : (ts : List unit.Method) (known : Known) (m : unit.Method) (is : Bool) → (is ≡ true → looks_like_main m ≡ true) → known.methods ≡ length ts →
    MainIn ts known.main → MainIn (ts ++ m ∷ []) (main_after known is)
main-after ts known m true looks e main = (m, rw e (get-last ts m), looks refl)
main-after ts known m false looks e main = MainIn-more ts (m ∷ []) known.main main

-- ---- fields

abbrev pub EntriesBelow : ℕ → List (Text × FieldEntry) → Type 0
EntriesBelow n = Each (λ (e : Text × FieldEntry). e.1.number.0 < n)

EntriesBelow-more : (n m : ℕ) (table : List (Text × FieldEntry)) → n < m + 1 → EntriesBelow n table → EntriesBelow m table
EntriesBelow-more n m table more = Each-weaker (λ (e : Text × FieldEntry). e.1.number.0 < n) (λ (e : Text × FieldEntry). e.1.number.0 < m) table (λ e b. omega (arith, b, more))

-- ---- the members of a class so far, behind the methods and fields of those before it
pub record MembersKnown (fields : ℕ) (ts : List unit.Method) (before : List Member) (s : Known) : Type 0 where
  pub counted : s.fields ≡ fields + length (flat_map declared before)
  pub methods : s.methods ≡ length (ts ++ flat_map methods_written before)
  pub entries : EntriesBelow s.fields s.class.fields
  pub main : MainIn (ts ++ flat_map methods_written before) s.main

-- fields of one type
pub record FieldsKnown (start : Known) (before : List FieldDeclarator) (s : Known) : Type 0 where
  pub counted : s.fields ≡ start.fields + length before
  pub methods : s.methods ≡ start.methods
  pub entries : EntriesBelow s.fields s.class.fields
  pub main : s.main ≡ start.main

pub entry-added : {A : Type 0} (table : List (Text × A)) (x : Name) (entry : A) → Holds (λ (after : List (Text × A)). after ≡ table ++ (x.text, entry) ∷ []) (and_entry table x entry)
unfolding and_entry
entry-added table x entry = holds-require (λ after. after ≡ table ++ (x.text, entry) ∷ []) (is_none (named x.text table)) _ _ λ new. refl

field-known : (start : Known) (static : Bool) (t : ValueType) (before : List FieldDeclarator) (s : Known) (d : FieldDeclarator) → FieldsKnown start before s →
    Holds (FieldsKnown start (before ++ d ∷ [])) (and_field static t s d)
field-known start static t before s d known =
    holds-then (FieldsKnown start (before ++ d ∷ [])) (λ (after : List (Text × FieldEntry)). after ≡ s.class.fields ++ (d.name.text, field_entry s static t) ∷ [])
    (and_entry s.class.fields d.name (field_entry s static t)) _ (entry-added s.class.fields d.name (field_entry s static t)) λ table e. record {
      counted = omega (arith, known.counted, length-append before (d ∷ []));
      methods = known.methods;
      entries = rw e (Each-append (λ (e : Text × FieldEntry). e.1.number.0 < s.fields + 1) s.class.fields ((d.name.text, field_entry s static t) ∷ [])
          (EntriesBelow-more s.fields (s.fields + 1) s.class.fields (omega arith) known.entries) (omega arith, tt));
      main = known.main;
    }

fields-known : (names : Names) (s : Known) (f : Field) → EntriesBelow s.fields s.class.fields → Holds (FieldsKnown s f.declarators) (and_fields names s f)
fields-known names s f entries =
    holds-next (FieldsKnown s f.declarators) (type_of names f.type_name) _ λ t e.
    holds-along (FieldsKnown s) (and_field (has is_static_kind f.modifiers) t) (field-known s (has is_static_kind f.modifiers) t) [] s
    (record { counted = omega arith; methods = refl; entries = entries; main = refl }) f.declarators

-- a member without fields and methods
kept : (fields : ℕ) (ts : List unit.Method) (before : List Member) (m : Member) (s : Known) → methods_written m ≡ [] → declared m ≡ [] →
    MembersKnown fields ts before s → MembersKnown fields ts (before ++ m ∷ []) s
kept fields ts before m s none no_field known = record {
  counted = rw (flat_map-snoc declared before m, no_field, append-nil (flat_map declared before)) known.counted;
  methods = rw (flat_map-snoc methods_written before m, none, append-nil (flat_map methods_written before)) known.methods;
  entries = known.entries;
  main = rw (flat_map-snoc methods_written before m, none, append-nil (flat_map methods_written before)) known.main;
}

of_fields : (fields : ℕ) (ts : List unit.Method) (before : List Member) (f : Field) (s after : Known) → FieldsKnown s f.declarators after →
    MembersKnown fields ts before s → MembersKnown fields ts (before ++ OfField f ∷ []) after
of_fields fields ts before f s after more known = record {
  counted = rw (flat_map-snoc declared before (OfField f)) (omega (arith, more.counted, known.counted, length-append (flat_map declared before) f.declarators));
  methods = rw (flat_map-snoc methods_written before (OfField f), append-nil (flat_map methods_written before)) (more.methods ∙ known.methods);
  entries = more.entries;
  main = rw (flat_map-snoc methods_written before (OfField f), append-nil (flat_map methods_written before), more.main) known.main;
}

of_method : (fields : ℕ) (ts : List unit.Method) (before : List Member) (m : unit.Method) (is : Bool) (s after : Known) → (is ≡ true → looks_like_main m ≡ true) →
    after.fields ≡ s.fields → after.class.fields ≡ s.class.fields → after.methods ≡ s.methods + 1 → after.main ≡ main_after s is →
    MembersKnown fields ts before s → MembersKnown fields ts (before ++ OfMethod m ∷ []) after
of_method fields ts before m is s after looks count table methods main known =
    let written : ts ++ flat_map methods_written (before ++ OfMethod m ∷ []) ≡ (ts ++ flat_map methods_written before) ++ m ∷ [] =
    ap (λ end. ts ++ end) (flat_map-snoc methods_written before (OfMethod m)) ∙ sym (append_assoc ts (flat_map methods_written before) (m ∷ [])) in
    record {
      counted = rw (flat_map-snoc declared before (OfMethod m), append-nil (flat_map declared before)) (count ∙ known.counted);
      methods = rw written (omega (arith, methods, known.methods, length-append (ts ++ flat_map methods_written before) (m ∷ [])));
      entries = rw (table, count) known.entries;
      main = rw (written, main) (main-after (ts ++ flat_map methods_written before) s m is looks known.methods known.main);
    }

-- what each of them adds
constructor-known : (names : Names) (fields : ℕ) (ts : List unit.Method) (before : List Member) (s : Known) (m : unit.Method) → MembersKnown fields ts before s →
    Holds (MembersKnown fields ts (before ++ OfMethod m ∷ [])) (and_constructor names s m)
constructor-known names fields ts before s m known =
    let Q = MembersKnown fields ts (before ++ OfMethod m ∷ []) in
    holds-require Q (is_none s.class.constructor) _ _ λ first.
    holds-next Q (formal_types names false m.formals) _ λ formals e.
    of_method fields ts before m false s _ (λ never. absurd (cc)) refl refl refl refl known

named-known : (names : Names) (fields : ℕ) (ts : List unit.Method) (before : List Member) (s : Known) (m : unit.Method) (is : Bool) → (is ≡ true → looks_like_main m ≡ true) →
    MembersKnown fields ts before s → Holds (MembersKnown fields ts (before ++ OfMethod m ∷ [])) (and_named_method names s m is)
named-known names fields ts before s m is looks known =
    let Q = MembersKnown fields ts (before ++ OfMethod m ∷ []) in
    holds-next Q (result_type names m.kind) _ λ result e.
    holds-require Q (not (is_library_method s.class.extends_thread m.name.text)) _ _ λ own.
    holds-require Q (is_none (named m.name.text s.class.methods)) _ _ λ new.
    holds-next Q (formal_types names is m.formals) _ λ formals e.
    of_method fields ts before m is s _ looks refl refl refl refl known

method-known : (names : Names) (fields : ℕ) (ts : List unit.Method) (before : List Member) (s : Known) (m : unit.Method) (kind : MethodKind) → MembersKnown fields ts before s →
    Holds (MembersKnown fields ts (before ++ OfMethod m ∷ [])) (and_method names s m kind)
method-known names fields ts before s m kinds.Constructor known = constructor-known names fields ts before s m known
method-known names fields ts before s m kinds.Void known =
    named-known names fields ts before s m (is_first_main s m) (λ e. (both (is_none s.main) (looks_like_main m) e).1) known
method-known names fields ts before s m (kinds.Valued t) known =
    named-known names fields ts before s m (is_first_main s m) (λ e. (both (is_none s.main) (looks_like_main m) e).1) known

member-known : (names : Names) (fields : ℕ) (ts : List unit.Method) (before : List Member) (s : Known) (m : Member) → MembersKnown fields ts before s →
    Holds (MembersKnown fields ts (before ++ m ∷ [])) (and_member names s m)
member-known names fields ts before s Empty known = kept fields ts before Empty s refl refl known
member-known names fields ts before s (OfField f) known =
    holds-weaker (FieldsKnown s f.declarators) (MembersKnown fields ts (before ++ OfField f ∷ [])) (and_fields names s f) (fields-known names s f known.entries)
    λ after more. of_fields fields ts before f s after more known
member-known names fields ts before s (OfMethod m) known = method-known names fields ts before s m m.kind known
member-known names fields ts before s (OfClause c) known = kept fields ts before (OfClause c) s refl refl known

-- ---- the classes so far

abbrev pub ClassesBelow : ℕ → List Class → Type 0
ClassesBelow n = Each (λ (k : Class). EntriesBelow n k.fields)

pub record AllKnown (before : List unit.Class) (s : Resolved) : Type 0 where
  pub counted : s.fields ≡ length (flat_map declared_in before)
  pub methods : s.methods ≡ length (flat_map methods_written_in before)
  pub entries : ClassesBelow s.fields s.classes
  pub main : MainIn (flat_map methods_written_in before) s.main

class-known : (numbers : List (Text × ClassId)) (before : List unit.Class) (s : Resolved) (k : unit.Class) → AllKnown before s →
    Holds (AllKnown (before ++ k ∷ [])) (and_class numbers s k)
class-known numbers before s k known =
    let Q = AllKnown (before ++ k ∷ []) in
    let ts = flat_map methods_written_in before in
    let names : Names = record { numbers = numbers; classes = [] } in
    holds-require Q (has_own_name numbers (length s.classes) k.name) _ _ λ own.
    holds-then Q (MembersKnown s.fields ts k.members) (one_by_one (and_member names) (first_known s k) k.members) _
    (holds-along (MembersKnown s.fields ts) (and_member names) (member-known names s.fields ts) [] (first_known s k)
    (record { counted = omega arith; methods = rw (append-nil ts) known.methods; entries = tt; main = rw (append-nil ts) known.main }) k.members)
    λ (after : Known) m. record {
      counted = rw (flat_map-snoc declared_in before k) (omega (arith, m.counted, known.counted, length-append (flat_map declared_in before) (declared_in k)));
      methods = rw (flat_map-snoc methods_written_in before k) m.methods;
      entries = Each-append (λ (k : Class). EntriesBelow after.fields k.fields) s.classes (after.class ∷ [])
          (Each-weaker (λ (k : Class). EntriesBelow s.fields k.fields) (λ (k : Class). EntriesBelow after.fields k.fields) s.classes
          (λ k b. EntriesBelow-more s.fields after.fields k.fields (omega (arith, m.counted)) b) known.entries)
          (m.entries, tt);
      main = rw (flat_map-snoc methods_written_in before k) m.main;
    }

-- what the pass on names knows of a source
pub record IsKnown (ks : List unit.Class) (program : Resolution) : Type 0 where
  pub entries : ClassesBelow (length (flat_map declared_in ks)) program.names.classes
  pub main : MainIn (flat_map methods_written_in ks) (Some program.main)

pub names-known : (ks : List unit.Class) → Holds (IsKnown ks) (resolve ks)
unfolding resolve
names-known ks =
    holds-then (IsKnown ks) (AllKnown ks) (one_by_one (and_class (numbered 0 ks)) (record { classes = []; fields = 0; methods = 0; main = None }) ks) _
    (holds-along AllKnown (and_class (numbered 0 ks)) (class-known (numbered 0 ks)) [] (record { classes = []; fields = 0; methods = 0; main = None })
    (record { counted = refl; methods = refl; entries = tt; main = tt }) ks)
    λ (all : Resolved) k. holds-found (IsKnown ks) all.main _ _ λ main e.
    record { entries = rw k.counted at k.entries; main = rw e at k.main }
