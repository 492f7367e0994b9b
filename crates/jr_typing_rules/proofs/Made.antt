-- What the pass on code makes of the members of a source: one method of each that is written, and numbers that count.
use Rattle.std.proofs.Common.{◌≡◌, ◌==◌, ℕ, zero, suc, ◌+◌, Bool, true, false, List, [], ◌∷◌, ◌++◌, length, map, Option, Some, None, slice_get, refl, ap, ◌∙◌, append-nil, arith}
use Rattle.std.specs.List.{flat_map}
use Rattle.std.proofs.lemmas.List.{length-append}
use Rattle.std.proofs.lemmas.Grind.{flat_map-append}
use Rattle.jr_base.specs.declared.number.Span.{Span}
use Rattle.jr_base.specs.declared.number.ClassId.{ClassId}
use Rattle.jr_ast.specs.declared.unit.Field.{Field}
use Rattle.jr_ast.specs.declared.unit.FieldDeclarator.{FieldDeclarator}
use Rattle.jr_ast.specs.Units.{Member, Empty, OfField, OfMethod, OfClause}
use Rattle.jr_ast.specs.Units as unit
use Rattle.std.specs.Option.{option_map}
use Rattle.jr_ast.specs.declared.unit.MethodKind.{MethodKind}
use Rattle.jr_ast.specs.declared.unit.MethodKind.TheVariants as kinds
use Rattle.jr_program.specs.WellFormed.{most_formals, AlwaysEnds, EndsAsItMust}
use Rattle.jr_typing_rules.specs.declared.words.ValueType.{ValueType}
use Rattle.jr_typing_rules.specs.Answers.{Good, one_by_one}
use Rattle.jr_typing_rules.specs.Types.{kind_of}
use Rattle.jr_typing_rules.specs.Modifiers.{has, places_of, is_atomic_kind, is_static_kind, is_volatile_kind}
use Rattle.jr_typing_rules.specs.Resolution.{Resolution, result_type, formal_types}
use Rattle.jr_typing_rules.specs.Names.{Names}
use Rattle.jr_typing_rules.specs.Statements.{Frame, State, Mades, chained, all_typed, starts, type_of, Asserted}
use Rattle.jr_typing_rules.specs.Declarations.{Counts, Coded, MadeField, MadeMethod, MadeMember, MadeClass, Fields, Method, Clause, ClassesMade, FieldsMade, no_counts, initial_constant, right_declaration, ends_if_asked, few_formals, is_constructor, first_state, frame_of, made_method, makes_field, makes_fields, makes_method, makes_member, makes_class, declares_run, code}
use Rattle.jr_typing_rules.specs.Whole.{fields_in, methods_in, fields_of, methods_of}
use Rattle.jr_typing_rules.specs.Written.{methods_written, methods_written_in, declared, declared_in, all_asserts_in, keyword_of, keyword_of_class, keywords_of_member, keywords_in}
use Rattle.jr_typing_rules.proofs.Asserts.{body-adds}
use Rattle.jr_typing_rules.proofs.Ending.{body-ends}
use Rattle.jr_typing_rules.proofs.Holding.{Holds, holds-good, holds-weaker, holds-next, holds-then, holds-require, holds-along}

-- ---- the keywords of the clauses of what is made

abbrev pub made_keywords : MadeMember → List Span
made_keywords (Fields ms fs) = []
made_keywords (Method m) = flat_map keyword_of m.source.clauses ++ places_of is_atomic_kind m.source.modifiers ++ map (λ (a : Asserted). a.place) m.asserts
made_keywords (Clause c) = keyword_of_class c ∷ []

abbrev pub made_keywords_in : MadeClass → List Span
made_keywords_in k = flat_map made_keywords k.members

-- ---- a method that is made

-- it is the n-th method of the program, as it is written
pub record IsMade (program : Resolution) (n : ℕ) (made : MadeMethod) (written : unit.Method) : Type 0 where
  pub source : made.source ≡ written
  pub number : made.number.0 ≡ n
  pub static : made.is_static ≡ has is_static_kind written.modifiers
  pub constructor : made.is_constructor ≡ is_constructor written.kind
  pub result : result_type program.names written.kind ≡ Good made.result
  pub asserts : map (λ (a : Asserted). a.place) made.asserts ≡ all_asserts_in written.body
  pub ends : EndsAsItMust made.body (option_map kind_of made.result)
  pub formals : (ts : List ValueType) × (formal_types program.names (program.main.0 == n) written.formals ≡ Good ts) × (made.formal_kinds ≡ map kind_of ts)

-- a body with a result ends
ends-as-asked : (names : Names) (m : unit.Method) (kind : MethodKind) (result : Option ValueType) (frame : Frame) (state : State) (made : Mades) → ends_if_asked m kind ≡ true →
    result_type names kind ≡ Good result → all_typed frame false (starts state) m.body ≡ Good made → EndsAsItMust (chained made.statements) (option_map kind_of result)
ends-as-asked names m kind None frame state made asked r b = tt
ends-as-asked names m kinds.Constructor (Some t) frame state made asked r b = absurd (cc)
ends-as-asked names m kinds.Void (Some t) frame state made asked r b = absurd (cc)
ends-as-asked names m (kinds.Valued written) (Some t) frame state made asked r b =
    holds-good (λ (made : Mades). AlwaysEnds (chained made.statements)) (all_typed frame false (starts state) m.body) made (body-ends frame state m.body asked) b

-- one more method is made
abbrev pub AddsMethod : Resolution → ClassId → Coded → unit.Method → Coded → Type 0
AddsMethod program own before m after =
    (made : MadeMethod) × (after.members ≡ before.members ++ Method made ∷ [])
    × (after.counts.methods ≡ before.counts.methods + 1) × (after.counts.fields ≡ before.counts.fields)
    × (made.class ≡ own) × IsMade program before.counts.methods made m

pub method-made : (program : Resolution) (k : unit.Class) (own : ClassId) (before : Coded) (m : unit.Method) →
    Holds (AddsMethod program own before m) (makes_method program k own before m)
method-made program k own before m =
    let Q = AddsMethod program own before m in
    holds-require Q (right_declaration k m m.kind) _ _ λ right.
    holds-require Q (ends_if_asked m m.kind) _ _ λ ends.
    holds-next Q (few_formals (slice_get m.formals most_formals)) _ λ u few.
    holds-next Q (result_type program.names m.kind) _ λ result r.
    holds-next Q (formal_types program.names (program.main.0 == before.counts.methods) m.formals) _ λ formals f.
    holds-next Q (all_typed (frame_of program.names own before.counts m result) false (starts (first_state m formals)) m.body) _ λ made b. (
      made_method own before.counts m result formals made,
      refl,
      refl,
      refl,
      refl,
      record {
        source = refl;
        number = refl;
        static = refl;
        constructor = refl;
        result = r;
        asserts = holds-good _ (all_typed (frame_of program.names own before.counts m result) false (starts (first_state m formals)) m.body) made
            (body-adds (frame_of program.names own before.counts m result) false (first_state m formals) m.body refl) b;
        ends = ends-as-asked program.names m m.kind result (frame_of program.names own before.counts m result) (first_state m formals) made ends r b;
        formals = (formals, f, refl);
      },
    )

-- ---- methods in order

abbrev pub MadeFrom : Resolution → ℕ → List MadeMethod → List unit.Method → Type 0
MadeFrom program n [] [] = Unit {0}
MadeFrom program n [] (t ∷ ts) = ⊥
MadeFrom program n (m ∷ ms) [] = ⊥
MadeFrom program n (m ∷ ms) (t ∷ ts) = IsMade program n m t × MadeFrom program (n + 1) ms ts

pub MadeFrom-snoc : (program : Resolution) (n last : ℕ) (ms : List MadeMethod) (ts : List unit.Method) (m : MadeMethod) (t : unit.Method) →
    last ≡ n + length ms → MadeFrom program n ms ts → IsMade program last m t → MadeFrom program n (ms ++ m ∷ []) (ts ++ t ∷ [])
MadeFrom-snoc program n last [] [] m t e made is = let same : last ≡ n = omega (arith, e) in (rw same at is, tt)
MadeFrom-snoc program n last [] (u ∷ us) m t e made is = absurd made
MadeFrom-snoc program n last (l ∷ ls) [] m t e made is = absurd made
MadeFrom-snoc program n last (l ∷ ls) (u ∷ us) m t e made is =
    (made.0, MadeFrom-snoc program (n + 1) last ls us m t (omega (arith, e)) made.1 is)

pub MadeFrom-append : (program : Resolution) (n last : ℕ) (ms ms' : List MadeMethod) (ts ts' : List unit.Method) →
    last ≡ n + length ms → MadeFrom program n ms ts → MadeFrom program last ms' ts' → MadeFrom program n (ms ++ ms') (ts ++ ts')
MadeFrom-append program n last [] ms' [] ts' e made more = let same : last ≡ n = omega (arith, e) in rw same at more
MadeFrom-append program n last [] ms' (t ∷ ts) ts' e made more = absurd made
MadeFrom-append program n last (m ∷ ms) ms' [] ts' e made more = absurd made
MadeFrom-append program n last (m ∷ ms) ms' (t ∷ ts) ts' e made more =
    (made.0, MadeFrom-append program (n + 1) last ms ms' ts ts' (omega (arith, e)) made.1 more)

-- each has its number
pub number-placed : (r : Resolution) (n : ℕ) (ms : List MadeMethod) (ts : List unit.Method) (k : ℕ) (m : MadeMethod) → MadeFrom r n ms ts → slice_get ms k ≡ Some m → m.number.0 ≡ n + k
number-placed r n [] ts k m made found = absurd (cc)
number-placed r n (x ∷ ms) [] k m made found = absurd made
number-placed r n (x ∷ ms) (t ∷ ts) zero m made found = let same : x ≡ m = cc in omega (arith, made.0.number, ap (λ (m : MadeMethod). m.number.0) same)
number-placed r n (x ∷ ms) (t ∷ ts) (suc k) m made found = omega (arith, number-placed r (n + 1) ms ts k m made.1 found)

-- ---- fields in order

abbrev pub FieldsFrom : ℕ → List MadeField → Type 0
FieldsFrom n [] = Unit {0}
FieldsFrom n (f ∷ fs) = (f.number.0 ≡ n) × FieldsFrom (n + 1) fs

pub FieldsFrom-snoc : (n last : ℕ) (fs : List MadeField) (f : MadeField) → last ≡ n + length fs → FieldsFrom n fs → f.number.0 ≡ last → FieldsFrom n (fs ++ f ∷ [])
FieldsFrom-snoc n last [] f e made is = (omega (arith, e, is), tt)
FieldsFrom-snoc n last (l ∷ ls) f e made is = (made.0, FieldsFrom-snoc (n + 1) last ls f (omega (arith, e)) made.1 is)

pub FieldsFrom-append : (n last : ℕ) (fs gs : List MadeField) → last ≡ n + length fs → FieldsFrom n fs → FieldsFrom last gs → FieldsFrom n (fs ++ gs)
FieldsFrom-append n last [] gs e made more = let same : last ≡ n = omega (arith, e) in rw same at more
FieldsFrom-append n last (f ∷ fs) gs e made more = (made.0, FieldsFrom-append (n + 1) last fs gs (omega (arith, e)) made.1 more)

-- ---- members

pub flat_map-snoc : {X A : Type 0} (f : X → List A) (xs : List X) (x : X) → flat_map f (xs ++ x ∷ []) ≡ flat_map f xs ++ f x
flat_map-snoc f xs x = flat_map-append f xs (x ∷ []) ∙ ap (λ end. flat_map f xs ++ end) (append-nil (f x))

-- fields of one declaration: they count from those before it
pub record DeclaratorsMade (start : Counts) (before : List FieldDeclarator) (s : FieldsMade) : Type 0 where
  pub count : length s.made ≡ length before
  pub fields : s.counts.fields ≡ start.fields + length s.made
  pub methods : s.counts.methods ≡ start.methods
  pub numbers : FieldsFrom start.fields s.made

declarator-added : (start : Counts) (before : List FieldDeclarator) (d : FieldDeclarator) (s after : FieldsMade) (f : MadeField) →
    after.counts.fields ≡ s.counts.fields + 1 → after.counts.methods ≡ s.counts.methods → after.made ≡ s.made ++ f ∷ [] → f.number.0 ≡ s.counts.fields →
    DeclaratorsMade start before s → DeclaratorsMade start (before ++ d ∷ []) after
declarator-added start before d s after f fields methods e number made = record {
  count = rw e (omega (arith, made.count, length-append s.made (f ∷ []), length-append before (d ∷ [])));
  fields = rw e (omega (arith, fields, made.fields, length-append s.made (f ∷ [])));
  methods = methods ∙ made.methods;
  numbers = rw e (FieldsFrom-snoc start.fields s.counts.fields s.made f made.fields made.numbers number);
}

declarator-made : (names : Names) (own : ClassId) (static volatile : Bool) (t : ValueType) (start : Counts) (before : List FieldDeclarator) (s : FieldsMade) (d : FieldDeclarator) →
    DeclaratorsMade start before s → Holds (DeclaratorsMade start (before ++ d ∷ [])) (makes_field names own static volatile t s d)
declarator-made names own static volatile t start before s d made =
    holds-next (DeclaratorsMade start (before ++ d ∷ [])) (initial_constant names t d.constant) _ λ c e. declarator-added start before d s _ _ refl refl refl refl made

pub fields-made : (names : Names) (own : ClassId) (counts : Counts) (f : Field) → Holds (DeclaratorsMade counts f.declarators) (makes_fields names own counts f)
fields-made names own counts f =
    holds-next (DeclaratorsMade counts f.declarators) (type_of names f.type_name) _ λ t e.
    holds-along (DeclaratorsMade counts) (makes_field names own (has is_static_kind f.modifiers) (has is_volatile_kind f.modifiers) t)
    (declarator-made names own (has is_static_kind f.modifiers) (has is_volatile_kind f.modifiers) t counts)
    [] (record { counts = counts; made = [] }) (record { count = refl; fields = omega arith; methods = refl; numbers = tt }) f.declarators

-- the members of a class so far
pub record MembersMade (program : Resolution) (start : Counts) (before : List Member) (c : Coded) : Type 0 where
  pub count : length (flat_map fields_in c.members) ≡ length (flat_map declared before)
  pub keywords : flat_map made_keywords c.members ≡ flat_map keywords_of_member before
  pub fields : c.counts.fields ≡ start.fields + length (flat_map fields_in c.members)
  pub methods : c.counts.methods ≡ start.methods + length (flat_map methods_in c.members)
  pub field_numbers : FieldsFrom start.fields (flat_map fields_in c.members)
  pub made : MadeFrom program start.methods (flat_map methods_in c.members) (flat_map methods_written before)

-- one more member, with its fields and methods
member-added : (program : Resolution) (start : Counts) (before : List Member) (m : Member) (c after : Coded) (x : MadeMember) →
    after.members ≡ c.members ++ x ∷ [] →
    after.counts.fields ≡ c.counts.fields + length (fields_in x) → after.counts.methods ≡ c.counts.methods + length (methods_in x) →
    length (fields_in x) ≡ length (declared m) → made_keywords x ≡ keywords_of_member m →
    FieldsFrom c.counts.fields (fields_in x) → MadeFrom program c.counts.methods (methods_in x) (methods_written m) →
    MembersMade program start before c → MembersMade program start (before ++ m ∷ []) after
member-added program start before m c after x e fields methods count keys numbers one made = record {
  keywords = rw (e, flat_map-snoc made_keywords c.members x, flat_map-snoc keywords_of_member before m, keys, made.keywords) refl;
  count = rw (e, flat_map-snoc fields_in c.members x, flat_map-snoc declared before m)
      (omega (arith, count, made.count, length-append (flat_map fields_in c.members) (fields_in x), length-append (flat_map declared before) (declared m)));
  fields = rw (e, flat_map-snoc fields_in c.members x) (omega (arith, fields, made.fields, length-append (flat_map fields_in c.members) (fields_in x)));
  methods = rw (e, flat_map-snoc methods_in c.members x) (omega (arith, methods, made.methods, length-append (flat_map methods_in c.members) (methods_in x)));
  field_numbers = rw (e, flat_map-snoc fields_in c.members x)
      (FieldsFrom-append start.fields c.counts.fields (flat_map fields_in c.members) (fields_in x) made.fields made.field_numbers numbers);
  made = rw (e, flat_map-snoc methods_in c.members x, flat_map-snoc methods_written before m)
      (MadeFrom-append program start.methods c.counts.methods (flat_map methods_in c.members) (methods_in x) (flat_map methods_written before) (methods_written m)
      made.methods made.made one);
}

-- a member of which nothing is made
member-kept : (program : Resolution) (start : Counts) (before : List Member) (m : Member) (c : Coded) → methods_written m ≡ [] → declared m ≡ [] → keywords_of_member m ≡ [] →
    MembersMade program start before c → MembersMade program start (before ++ m ∷ []) c
member-kept program start before m c none no_field no_key made = record {
  keywords = rw (flat_map-snoc keywords_of_member before m, no_key, append-nil (flat_map keywords_of_member before)) made.keywords;
  count = rw (flat_map-snoc declared before m, no_field, append-nil (flat_map declared before)) made.count;
  fields = made.fields;
  methods = made.methods;
  field_numbers = made.field_numbers;
  made = rw (flat_map-snoc methods_written before m, none, append-nil (flat_map methods_written before)) made.made;
}

member-made : (program : Resolution) (k : unit.Class) (own : ClassId) (start : Counts) (before : List Member) (c : Coded) (m : Member) →
    MembersMade program start before c → Holds (MembersMade program start (before ++ m ∷ [])) (makes_member program k own c m)
member-made program k own start before c Empty made = member-kept program start before Empty c refl refl refl made
member-made program k own start before c (OfField f) made =
    holds-then (MembersMade program start (before ++ OfField f ∷ [])) (DeclaratorsMade c.counts f.declarators) (makes_fields program.names own c.counts f) _ (fields-made program.names own c.counts f)
    λ s d. member-added program start before (OfField f) c _ (Fields f.modifiers s.made) refl d.fields (omega (arith, d.methods)) d.count refl d.numbers tt made
member-made program k own start before c (OfMethod m) made =
    holds-weaker (AddsMethod program own c m) _ (makes_method program k own c m) (method-made program k own c m)
    λ after a. member-added program start before (OfMethod m) c after (Method a.0) a.1 (omega (arith, a.3)) a.2 refl (rw (a.5.source, a.5.asserts) refl) tt (a.5, tt) made
member-made program k own start before c (OfClause q) made =
    member-added program start before (OfClause q) c _ (Clause q) refl (omega arith) (omega arith) refl refl tt tt made

-- ---- classes

-- the classes so far
pub record AllMade (program : Resolution) (before : List unit.Class) (s : ClassesMade) : Type 0 where
  pub count : length (flat_map fields_of s.made) ≡ length (flat_map declared_in before)
  pub keywords : flat_map made_keywords_in s.made ≡ flat_map keywords_in before
  pub fields : s.counts.fields ≡ length (flat_map fields_of s.made)
  pub methods : s.counts.methods ≡ length (flat_map methods_of s.made)
  pub field_numbers : FieldsFrom 0 (flat_map fields_of s.made)
  pub made : MadeFrom program 0 (flat_map methods_of s.made) (flat_map methods_written_in before)

class-added : (program : Resolution) (before : List unit.Class) (k : unit.Class) (s after : ClassesMade) (x : MadeClass) (c : Coded) →
    after.made ≡ s.made ++ x ∷ [] → after.counts ≡ c.counts → x.members ≡ c.members →
    MembersMade program s.counts k.members c → AllMade program before s → AllMade program (before ++ k ∷ []) after
class-added program before k s after x c e counts members m made =
    let fs : fields_of x ≡ flat_map fields_in c.members = ap (flat_map fields_in) members in
    let keys : made_keywords_in x ≡ flat_map made_keywords c.members = ap (flat_map made_keywords) members in
    let ms : methods_of x ≡ flat_map methods_in c.members = ap (flat_map methods_in) members in
    record {
      keywords = rw (e, flat_map-snoc made_keywords_in s.made x, flat_map-snoc keywords_in before k, keys, m.keywords, made.keywords) refl;
      count = rw (e, flat_map-snoc fields_of s.made x, fs, flat_map-snoc declared_in before k)
          (omega (arith, m.count, made.count, length-append (flat_map fields_of s.made) (flat_map fields_in c.members), length-append (flat_map declared_in before) (declared_in k)));
      fields = rw (e, counts, flat_map-snoc fields_of s.made x, fs) (omega (arith, m.fields, made.fields, length-append (flat_map fields_of s.made) (flat_map fields_in c.members)));
      methods = rw (e, counts, flat_map-snoc methods_of s.made x, ms) (omega (arith, m.methods, made.methods, length-append (flat_map methods_of s.made) (flat_map methods_in c.members)));
      field_numbers = rw (e, flat_map-snoc fields_of s.made x, fs)
          (FieldsFrom-append 0 s.counts.fields (flat_map fields_of s.made) (flat_map fields_in c.members) (omega (arith, made.fields)) made.field_numbers m.field_numbers);
      made = rw (e, flat_map-snoc methods_of s.made x, flat_map-snoc methods_written_in before k, ms)
          (MadeFrom-append program 0 s.counts.methods (flat_map methods_of s.made) (flat_map methods_in c.members) (flat_map methods_written_in before) (methods_written_in k)
          (omega (arith, made.methods)) made.made m.made);
    }

class-made : (program : Resolution) (before : List unit.Class) (s : ClassesMade) (k : unit.Class) → AllMade program before s →
    Holds (AllMade program (before ++ k ∷ [])) (makes_class program s k)
class-made program before s k made =
    let own : ClassId = record { 0 = length s.made } in
    holds-require (AllMade program (before ++ k ∷ [])) (declares_run program.names own k) _ _ λ run.
    holds-then (AllMade program (before ++ k ∷ [])) (MembersMade program s.counts k.members) (one_by_one (makes_member program k own) (record { counts = s.counts; members = [] }) k.members) _
    (holds-along (MembersMade program s.counts) (makes_member program k own) (member-made program k own s.counts)
    [] (record { counts = s.counts; members = [] }) (record { count = refl; keywords = refl; fields = omega arith; methods = omega arith; field_numbers = tt; made = tt }) k.members)
    λ c m. class-added program before k s _ _ c refl refl refl m made

-- what the pass on code makes of a source
pub code-made : (program : Resolution) (ks : List unit.Class) → Holds (AllMade program ks) (code program ks)
unfolding code
code-made program ks =
    holds-along (AllMade program) (makes_class program) (class-made program) [] (record { counts = no_counts; made = [] })
    (record { count = refl; keywords = refl; fields = refl; methods = refl; field_numbers = tt; made = tt }) ks
