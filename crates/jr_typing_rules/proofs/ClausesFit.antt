-- What each clause states fits where its owner stands.
use Rattle.std.proofs.Common.{◌≡◌, ◌≤◌, Bool, true, false, List, [], ◌∷◌, ◌++◌, length, map, Some, refl, sym}
use Rattle.jr_base.specs.declared.number.Span.{Span}
use Rattle.jr_base.specs.declared.number.ClassId.{ClassId}
use Rattle.jr_base.specs.declared.kind.SlotKind.{SlotKind}
use Rattle.jr_base.specs.declared.kind.SlotKind.TheVariants as slots
use Rattle.jr_program.specs.declared.words.ClauseKind.{ClauseKind}
use Rattle.jr_program.specs.declared.words.ClauseKind.TheVariants as kinds
use Rattle.jr_program.specs.declared.words.Mode.{Mode}
use Rattle.jr_program.specs.ClauseKinds.{IsClass, ClauseScope, SpecHas, AreReferences}
use Rattle.jr_program.specs.Clauses.{Clause, Spec, Owner, OfMethod, OfClass, OfField}
use Rattle.jr_program.specs.Programs as parts
use Rattle.jr_program.specs.Programs.{Program, method_at}
use Rattle.jr_program.specs.WellFormed.{FitsOwner, in_scope, most_in_scope}
use Rattle.jr_ast.specs.Expressions.{Expr}
use Rattle.jr_ast.specs.Clauses as source
use Rattle.jr_typing_rules.specs.declared.words.FieldEntry.{FieldEntry}
use Rattle.jr_typing_rules.specs.Agreement.{AgreesWith}
use Rattle.jr_typing_rules.specs.Answers.{Typing, Good, Bad, ◌>>=◌, each, all_hold, gather}
use Rattle.jr_typing_rules.specs.Names.{field_in}
use Rattle.jr_typing_rules.specs.Modifiers.{OnClass, OnMethod, OnOther, modifiers_stand, places_of, is_atomic_kind, said_mode, mode_in}
use Rattle.jr_typing_rules.specs.Statements.{Asserted}
use Rattle.jr_typing_rules.specs.Declarations.{MadeMethod, MadeMember, MadeClass, Fields, Method, Clause as OfClause}
use Rattle.jr_typing_rules.specs.Predicates.{Stand, states_boolean, states_reference}
use Rattle.jr_typing_rules.specs.Specifications.{Setting, clause_at, stand_in, stand_of_method, stand_at_return, in_environment, one_condition, references, method_clause, atomic, assert, formal_stands, method_clauses, class_clause, member_clauses, class_mode, class_clauses, clauses}
use Rattle.jr_typing_rules.specs.Whole.{methods_in, methods_of, program_method}
use Rattle.jr_typing_rules.proofs.AssertClauses.{assert-stand-fits}
use Rattle.jr_typing_rules.proofs.AssertScopes.{kinds_in}
use Rattle.jr_typing_rules.proofs.Holding.{Holds, holds-next, holds-then, holds-found, Each, Each-append, Each-flat_map, holds-gather, holds-list, always}
use Rattle.jr_typing_rules.proofs.NamedKinds.{ArePlaced}
use Rattle.jr_typing_rules.proofs.PredicateKinds.{scope_for, StandFits, boolean-states, reference-states}

abbrev pub IsFitIn : Program → Clause → Type 0
IsFitIn program c = FitsOwner program c c.owner

-- what is known of a method that is made: it is in the program, its formals have their kinds in their places, and few
-- variables are in scope of each assert
pub record MethodKnown (program : Program) (m : MadeMethod) : Type 0 where
  pub there : method_at program m.number ≡ Some (program_method m)
  pub formals : ArePlaced m.formal_kinds m.formals
  pub few : Each (λ (a : Asserted). in_scope m.is_static (length (kinds_in a.variables)) ≤ most_in_scope) m.asserts

-- ---- one condition, and references

condition-fits : (program : Program) (setting : Setting) (owner : Owner) (kind : ClauseKind) (mode : Mode) (variables : List SlotKind) (stand : Stand) (at : Span) (e : Expr) →
    StandFits program variables 0 stand →
    ((s : Spec) → SpecHas (scope_for program variables 0 stand) s slots.Bool → FitsOwner program (clause_at setting owner kind mode stand.scope.is_static at (s ∷ [])) owner) →
    Holds (IsFitIn program) (one_condition setting owner kind mode stand at e)
condition-fits program setting owner kind mode variables stand at e fits owned =
    holds-then (IsFitIn program) (λ s. SpecHas (scope_for program variables 0 stand) s slots.Bool) (states_boolean stand e) _ (boolean-states program variables stand fits e) owned

are-references : (s : ClauseScope) (es : List Spec) → Each (λ e. SpecHas s e slots.Ref) es → AreReferences s es
are-references s [] all = tt
are-references s (e ∷ es) all = (all.0, are-references s es all.1)

references-fit : (program : Program) (setting : Setting) (owner : Owner) (kind : ClauseKind) (mode : Mode) (variables : List SlotKind) (stand : Stand) (at : Span) (es : List Expr) →
    StandFits program variables 0 stand →
    ((ss : List Spec) → AreReferences (scope_for program variables 0 stand) ss → FitsOwner program (clause_at setting owner kind mode stand.scope.is_static at ss) owner) →
    Holds (IsFitIn program) (references setting owner kind mode stand at es)
references-fit program setting owner kind mode variables stand at es fits owned =
    let s = scope_for program variables 0 stand in
    holds-then (IsFitIn program) (Each (λ e. SpecHas s e slots.Ref)) (each (states_reference stand) es) _
    (holds-list (λ e. SpecHas s e slots.Ref) (states_reference stand) (reference-states program variables stand fits) es) λ ss all.
    owned ss (are-references s ss all)

alone : (program : Program) (t : Typing Clause) → Holds (IsFitIn program) t → Holds (Each (IsFitIn program)) (t >>= λ c. Good (c ∷ []))
alone program (Good c) fits = (fits, tt)
alone program (Bad r) fits = tt

-- ---- clauses of methods

method-stand : (program : Program) (setting : Setting) (m : MadeMethod) → AgreesWith setting.names program → MethodKnown program m →
    StandFits program m.formal_kinds 0 (stand_of_method setting m)
method-stand program setting m names known = record { names = names; placed = known.formals; quantifiers = refl }

return-stand : (program : Program) (setting : Setting) (m : MadeMethod) → AgreesWith setting.names program → MethodKnown program m →
    StandFits program m.formal_kinds 0 (stand_at_return setting m)
return-stand program setting m names known = record { names = names; placed = known.formals; quantifiers = refl }

method_clause-fits : (program : Program) (setting : Setting) (mode : Mode) (m : MadeMethod) → AgreesWith setting.names program → MethodKnown program m → (c : source.MethodClause) →
    Holds (Each (IsFitIn program)) (method_clause setting mode m c)
method_clause-fits program setting mode m names known (source.Requires at e) =
    alone program _ (condition-fits program setting (OfMethod m.number) kinds.Requires mode m.formal_kinds (stand_of_method setting m) at e (method-stand program setting m names known)
    λ s is. (program_method m, known.there, refl, refl, is))
method_clause-fits program setting mode m names known (source.Ensures at e) =
    alone program _ (condition-fits program setting (OfMethod m.number) kinds.Ensures mode m.formal_kinds (stand_at_return setting m) at e (return-stand program setting m names known)
    λ s is. (program_method m, known.there, refl, refl, is))
method_clause-fits program setting mode m names known (source.When at e) =
    alone program _ (condition-fits program setting (OfMethod m.number) kinds.When mode m.formal_kinds (stand_of_method setting m) at e (method-stand program setting m names known)
    λ s is. (program_method m, known.there, refl, refl, is))
method_clause-fits program setting mode m names known (source.Locks at es) =
    alone program _ (references-fit program setting (OfMethod m.number) kinds.Locks mode m.formal_kinds (stand_of_method setting m) at es (method-stand program setting m names known)
    λ ss are. (program_method m, known.there, refl, refl, are))
method_clause-fits program setting mode m names known (source.Assignable at) = tt
method_clause-fits program setting mode m names known (source.Modifies at) = tt

atomics-fit : (program : Program) (setting : Setting) (mode : Mode) (m : MadeMethod) → MethodKnown program m → (places : List Span) → Each (IsFitIn program) (map (atomic setting mode m) places)
atomics-fit program setting mode m known [] = tt
atomics-fit program setting mode m known (at ∷ places) = ((program_method m, known.there, refl, refl, refl), atomics-fit program setting mode m known places)

asserts-fit : (program : Program) (setting : Setting) (mode : Mode) (m : MadeMethod) → AgreesWith setting.names program → MethodKnown program m → (asserts : List Asserted) →
    Each (λ (a : Asserted). in_scope m.is_static (length (kinds_in a.variables)) ≤ most_in_scope) asserts → Holds (Each (IsFitIn program)) (each (assert setting mode m) asserts)
asserts-fit program setting mode m names known [] few = tt
asserts-fit program setting mode m names known (a ∷ rest) few =
    let Q = Each (IsFitIn program) in
    holds-then Q (IsFitIn program) (assert setting mode m a) _
    (condition-fits program setting (OfMethod m.number) kinds.Assert mode (kinds_in a.variables) (stand_in setting m.class m.is_static (in_environment 0 a.variables)) a.place a.condition
    (assert-stand-fits program setting names m a) λ s is. (program_method m, known.there, refl, refl, (kinds_in a.variables, few.0, is))) λ c one.
    holds-then Q Q (each (assert setting mode m) rest) _ (asserts-fit program setting mode m names known rest few.1) λ cs more. (one, more)

of_method-fits : (program : Program) (setting : Setting) (mode : Mode) (m : MadeMethod) → AgreesWith setting.names program → MethodKnown program m →
    Holds (Each (IsFitIn program)) (method_clauses setting mode m)
of_method-fits program setting mode m names known =
    let Q = Each (IsFitIn program) in
    let places = places_of is_atomic_kind m.source.modifiers in
    let atomics = map (atomic setting mode m) places in
    holds-then Q Q (gather (method_clause setting mode m) m.source.clauses) _
    (holds-gather (λ c. Unit {0}) (IsFitIn program) (method_clause setting mode m) (λ c u. method_clause-fits program setting mode m names known c) m.source.clauses (always m.source.clauses))
    λ before fit.
    holds-next Q (modifiers_stand OnMethod m.source.modifiers) _ λ u ok.
    holds-next Q (all_hold formal_stands m.source.formals) _ λ v oks.
    holds-then Q Q (each (assert setting mode m) m.asserts) _ (asserts-fit program setting mode m names known m.asserts known.few) λ asserts more.
    Each-append (IsFitIn program) (before ++ atomics) asserts (Each-append (IsFitIn program) before atomics fit (atomics-fit program setting mode m known places)) more

-- ---- clauses of classes

class-stand : (program : Program) (setting : Setting) (own : ClassId) (static back : Bool) → AgreesWith setting.names program →
    StandFits program [] 0 (record (stand_in setting own static []) { looks_back = back })
class-stand program setting own static back names = record { names = names; placed = tt; quantifiers = refl }

monitors-fit : (program : Program) (setting : Setting) (mode : Mode) (own : ClassId) → AgreesWith setting.names program → (at : Span) (es : List Expr) (f : FieldEntry) (field : parts.Field) →
    parts.field_at program f.number ≡ Some field → field.is_static ≡ f.is_static →
    Holds (IsFitIn program) (references setting (OfField f.number) kinds.MonitorsFor mode (stand_in setting own f.is_static []) at es)
monitors-fit program setting mode own names at es f field found static =
    references-fit program setting (OfField f.number) kinds.MonitorsFor mode [] (stand_in setting own f.is_static []) at es (class-stand program setting own f.is_static false names)
    λ ss are. (field, found, refl, sym static, rw (sym static) at are)

of_class-fits : (program : Program) (setting : Setting) (mode : Mode) (own : ClassId) → AgreesWith setting.names program → IsClass program own → (c : source.ClassClause) →
    Holds (IsFitIn program) (class_clause setting mode own c)
of_class-fits program setting mode own names is (source.Invariant at static e) =
    condition-fits program setting (OfClass own) kinds.Invariant mode [] (stand_in setting own static []) at e (class-stand program setting own static false names) λ s has. (is, refl, has)
of_class-fits program setting mode own names is (source.Constraint at static e) =
    condition-fits program setting (OfClass own) kinds.Constraint mode [] (record (stand_in setting own static []) { looks_back = true }) at e
    (class-stand program setting own static true names) λ s has. (is, refl, has)
of_class-fits program setting mode own names is (source.MonitorsFor at x es) =
    holds-found (IsFitIn program) (field_in setting.names own x.text) _ _ λ f e.
    let field = names.fields own x.text f e in monitors-fit program setting mode own names at es f field.0 field.1 field.2.static

of_member-fits : (program : Program) (setting : Setting) (mode : Mode) (own : ClassId) → AgreesWith setting.names program → IsClass program own → (m : MadeMember) →
    Each (MethodKnown program) (methods_in m) → Holds (Each (IsFitIn program)) (member_clauses setting mode own m)
of_member-fits program setting mode own names is (Fields ms fs) known = holds-next (Each (IsFitIn program)) (modifiers_stand OnOther ms) _ λ u ok. tt
of_member-fits program setting mode own names is (Method m) known = of_method-fits program setting (mode_in mode (said_mode m.source.modifiers)) m names known.0
of_member-fits program setting mode own names is (OfClause c) known = alone program (class_clause setting mode own c) (of_class-fits program setting mode own names is c)

-- the class is in the program, and its methods are known
abbrev pub ClassKnown : Program → MadeClass → Type 0
ClassKnown program k = IsClass program k.number × Each (MethodKnown program) (methods_of k)

in_class-fits : (program : Program) (setting : Setting) → AgreesWith setting.names program → (k : MadeClass) → ClassKnown program k → Holds (Each (IsFitIn program)) (class_clauses setting k)
in_class-fits program setting names k known =
    holds-next (Each (IsFitIn program)) (modifiers_stand OnClass k.source.modifiers) _ λ u ok.
    holds-gather (λ m. Each (MethodKnown program) (methods_in m)) (IsFitIn program) (member_clauses setting (class_mode k) k.number)
    (of_member-fits program setting (class_mode k) k.number names known.0) k.members (Each-flat_map (MethodKnown program) methods_in k.members known.1)

pub all-fit : (program : Program) (setting : Setting) → AgreesWith setting.names program → (ks : List MadeClass) → Each (ClassKnown program) ks → Holds (Each (IsFitIn program)) (clauses setting ks)
unfolding clauses
all-fit program setting names ks known = holds-gather (ClassKnown program) (IsFitIn program) (class_clauses setting) (in_class-fits program setting names) ks known
