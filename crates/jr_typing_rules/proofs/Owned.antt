-- What each clause belongs to is in the program.
use Rattle.std.proofs.Common.{◌≡◌, ◌<◌, ℕ, zero, suc, Bool, true, false, cond, List, [], ◌∷◌, ◌++◌, map, Option, Some, None, slice_get, refl}
use Rattle.std.specs.List.{flat_map}
use Rattle.std.specs.Map.{lookup}
use Rattle.std.specs.Str.{bytes_eq}
use Rattle.jr_base.specs.declared.number.Span.{Span}
use Rattle.jr_base.specs.declared.number.ClassId.{ClassId}
use Rattle.jr_program.specs.declared.words.ClauseKind.{ClauseKind}
use Rattle.jr_program.specs.declared.words.Mode.{Mode}
use Rattle.jr_program.specs.Clauses.{Clause, Owner, OfMethod, OfClass, OfField}
use Rattle.jr_ast.specs.Expressions.{Expr}
use Rattle.jr_ast.specs.Clauses as source
use Rattle.jr_typing_rules.specs.declared.words.FieldEntry.{FieldEntry}
use Rattle.jr_typing_rules.specs.Answers.{Typing, Good, Bad, ◌>>=◌, each, all_hold, gather}
use Rattle.jr_typing_rules.specs.Names.{Text, Names, Class, and_then, named, class_at, field_in}
use Rattle.jr_typing_rules.specs.Modifiers.{OnClass, OnMethod, OnOther, modifiers_stand, places_of, is_atomic_kind, said_mode, mode_in}
use Rattle.jr_typing_rules.specs.Declarations.{MadeMethod, MadeMember, MadeClass, Fields, Method, Clause as OfClause}
use Rattle.jr_typing_rules.specs.Predicates.{Stand, states_boolean, states_reference}
use Rattle.jr_typing_rules.specs.Specifications.{Setting, one_condition, references, method_clause, atomic, assert, formal_stands, method_clauses, class_clause, member_clauses, class_mode, class_clauses, clauses}
use Rattle.jr_typing_rules.specs.Whole.{methods_in, methods_of}
use Rattle.jr_typing_rules.proofs.Holding.{Holds, holds-next, holds-then, holds-found, Each, Each-append, Each-flat_map, holds-gather, holds-list}
use Rattle.jr_typing_rules.proofs.Known.{EntriesBelow, ClassesBelow}

-- so many methods and fields are there
abbrev pub IsThere : ℕ → ℕ → Owner → Type 0
IsThere methods fields (OfMethod m) = m.0 < methods
IsThere methods fields (OfClass c) = Unit {0}
IsThere methods fields (OfField f) = f.0 < fields

abbrev pub IsOwned : ℕ → ℕ → Clause → Type 0
IsOwned methods fields c = IsThere methods fields c.owner

-- ---- fields by name

lookup-below : (n : ℕ) (test : Text → Bool) (table : List (Text × FieldEntry)) (f : FieldEntry) → EntriesBelow n table → lookup test table ≡ Some f → f.number.0 < n
lookup-below n test [] f all e = absurd (cc)
lookup-below n test ((x, entry) ∷ rest) f all e = by (test x) (lookup-below n test rest f all.1) e
  where
    by : (b : Bool) → (lookup test rest ≡ Some f → f.number.0 < n) → cond b (Some entry) (lookup test rest) ≡ Some f → f.number.0 < n
    by true later e = let same : entry ≡ f = cc in rw same at all.0
    by false later e = later e

class-below : (n : ℕ) (ks : List Class) (c : ℕ) (k : Class) → ClassesBelow n ks → slice_get ks c ≡ Some k → EntriesBelow n k.fields
class-below n [] c k all e = absurd (cc)
class-below n (x ∷ ks) zero k all e = let same : x ≡ k = cc in rw same at all.0
class-below n (x ∷ ks) (suc c) k all e = class-below n ks c k all.1 e

field-below : (n : ℕ) (names : Names) (c : ClassId) (x : Text) (f : FieldEntry) → ClassesBelow n names.classes → field_in names c x ≡ Some f → f.number.0 < n
unfolding field_in class_at named
field-below n names c x f all e = by (slice_get names.classes c.0) refl e
  where
    by : (o : Option Class) → slice_get names.classes c.0 ≡ o → and_then o (λ (k : Class). lookup (bytes_eq x) k.fields) ≡ Some f → f.number.0 < n
    by None _ e = absurd (cc)
    by (Some k) g e = lookup-below n (bytes_eq x) k.fields f (class-below n names.classes c.0 k all g) e

-- ---- clauses

condition-owned : (methods fields : ℕ) (setting : Setting) (owner : Owner) (kind : ClauseKind) (mode : Mode) (stand : Stand) (at : Span) (e : Expr) →
    IsThere methods fields owner → Holds (IsOwned methods fields) (one_condition setting owner kind mode stand at e)
condition-owned methods fields setting owner kind mode stand at e there = holds-next (IsOwned methods fields) (states_boolean stand e) _ λ s ok. there

references-owned : (methods fields : ℕ) (setting : Setting) (owner : Owner) (kind : ClauseKind) (mode : Mode) (stand : Stand) (at : Span) (es : List Expr) →
    IsThere methods fields owner → Holds (IsOwned methods fields) (references setting owner kind mode stand at es)
references-owned methods fields setting owner kind mode stand at es there = holds-next (IsOwned methods fields) (each (states_reference stand) es) _ λ ss ok. there

alone : (methods fields : ℕ) (t : Typing Clause) → Holds (IsOwned methods fields) t → Holds (Each (IsOwned methods fields)) (t >>= λ c. Good (c ∷ []))
alone methods fields (Good c) owned = (owned, tt)
alone methods fields (Bad r) owned = tt

method_clause-owned : (methods fields : ℕ) (setting : Setting) (mode : Mode) (m : MadeMethod) → m.number.0 < methods → (c : source.MethodClause) →
    Holds (Each (IsOwned methods fields)) (method_clause setting mode m c)
method_clause-owned methods fields setting mode m there (source.Requires at e) = alone methods fields _ (condition-owned methods fields setting (OfMethod m.number) _ mode _ at e there)
method_clause-owned methods fields setting mode m there (source.Ensures at e) = alone methods fields _ (condition-owned methods fields setting (OfMethod m.number) _ mode _ at e there)
method_clause-owned methods fields setting mode m there (source.When at e) = alone methods fields _ (condition-owned methods fields setting (OfMethod m.number) _ mode _ at e there)
method_clause-owned methods fields setting mode m there (source.Locks at es) = alone methods fields _ (references-owned methods fields setting (OfMethod m.number) _ mode _ at es there)
method_clause-owned methods fields setting mode m there (source.Assignable at) = tt
method_clause-owned methods fields setting mode m there (source.Modifies at) = tt

always : {A : Type 0} (xs : List A) → Each (λ x. Unit {0}) xs
always [] = tt
always (x ∷ xs) = (tt, always xs)

atomics-owned : (methods fields : ℕ) (setting : Setting) (mode : Mode) (m : MadeMethod) → m.number.0 < methods → (places : List Span) →
    Each (IsOwned methods fields) (map (atomic setting mode m) places)
atomics-owned methods fields setting mode m there [] = tt
atomics-owned methods fields setting mode m there (at ∷ places) = (there, atomics-owned methods fields setting mode m there places)

of_method-owned : (methods fields : ℕ) (setting : Setting) (mode : Mode) (m : MadeMethod) → m.number.0 < methods →
    Holds (Each (IsOwned methods fields)) (method_clauses setting mode m)
of_method-owned methods fields setting mode m there =
    let Q = Each (IsOwned methods fields) in
    holds-then Q Q (gather (method_clause setting mode m) m.source.clauses) _
    (holds-gather (λ c. Unit {0}) (IsOwned methods fields) (method_clause setting mode m) (λ c u. method_clause-owned methods fields setting mode m there c) m.source.clauses (always m.source.clauses))
    λ before owned.
    holds-next Q (modifiers_stand OnMethod m.source.modifiers) _ λ u ok.
    holds-next Q (all_hold formal_stands m.source.formals) _ λ v oks.
    holds-then Q Q (each (assert setting mode m) m.asserts) _
    (holds-list (IsOwned methods fields) (assert setting mode m) (λ a. condition-owned methods fields setting (OfMethod m.number) _ mode _ a.place a.condition there) m.asserts)
    λ asserts more.
    let atomics = map (atomic setting mode m) (places_of is_atomic_kind m.source.modifiers) in
    Each-append (IsOwned methods fields) (before ++ atomics) asserts
    (Each-append (IsOwned methods fields) before atomics owned (atomics-owned methods fields setting mode m there (places_of is_atomic_kind m.source.modifiers))) more

of_class-owned : (methods fields : ℕ) (setting : Setting) (mode : Mode) (own : ClassId) → ClassesBelow fields setting.names.classes → (c : source.ClassClause) →
    Holds (IsOwned methods fields) (class_clause setting mode own c)
of_class-owned methods fields setting mode own below (source.Invariant at static e) = condition-owned methods fields setting (OfClass own) _ mode _ at e tt
of_class-owned methods fields setting mode own below (source.Constraint at static e) = condition-owned methods fields setting (OfClass own) _ mode _ at e tt
of_class-owned methods fields setting mode own below (source.MonitorsFor at x es) =
    holds-found (IsOwned methods fields) (field_in setting.names own x.text) _ _ λ f e.
    references-owned methods fields setting (OfField f.number) _ mode _ at es (field-below fields setting.names own x.text f below e)

of_member-owned : (methods fields : ℕ) (setting : Setting) (mode : Mode) (own : ClassId) → ClassesBelow fields setting.names.classes → (m : MadeMember) →
    Each (λ (m : MadeMethod). m.number.0 < methods) (methods_in m) → Holds (Each (IsOwned methods fields)) (member_clauses setting mode own m)
of_member-owned methods fields setting mode own below (Fields ms fs) there = holds-next (Each (IsOwned methods fields)) (modifiers_stand OnOther ms) _ λ u ok. tt
of_member-owned methods fields setting mode own below (Method m) there = of_method-owned methods fields setting (mode_in mode (said_mode m.source.modifiers)) m there.0
of_member-owned methods fields setting mode own below (OfClause c) there = alone methods fields (class_clause setting mode own c) (of_class-owned methods fields setting mode own below c)

in_class-owned : (methods fields : ℕ) (setting : Setting) → ClassesBelow fields setting.names.classes → (k : MadeClass) →
    Each (λ (m : MadeMethod). m.number.0 < methods) (methods_of k) → Holds (Each (IsOwned methods fields)) (class_clauses setting k)
in_class-owned methods fields setting below k there =
    holds-next (Each (IsOwned methods fields)) (modifiers_stand OnClass k.source.modifiers) _ λ u ok.
    holds-gather (λ m. Each (λ (m : MadeMethod). m.number.0 < methods) (methods_in m)) (IsOwned methods fields) (member_clauses setting (class_mode k) k.number)
    (of_member-owned methods fields setting (class_mode k) k.number below) k.members
    (Each-flat_map (λ (m : MadeMethod). m.number.0 < methods) methods_in k.members there)

-- each clause of a source belongs to what is there
pub clauses-owned : (methods fields : ℕ) (setting : Setting) → ClassesBelow fields setting.names.classes → (ks : List MadeClass) →
    Each (λ (m : MadeMethod). m.number.0 < methods) (flat_map methods_of ks) → Holds (Each (IsOwned methods fields)) (clauses setting ks)
unfolding clauses
clauses-owned methods fields setting below ks there =
    holds-gather (λ k. Each (λ (m : MadeMethod). m.number.0 < methods) (methods_of k)) (IsOwned methods fields) (class_clauses setting) (in_class-owned methods fields setting below) ks
    (Each-flat_map (λ (m : MadeMethod). m.number.0 < methods) methods_of ks there)
