-- The clauses of a well-formed program name classes that have objects.
use Rattle.std.proofs.Common.{◌≡◌, ◌<◌, ◌+◌, ◌^◌, Bool, true, false, List, [], ◌∷◌, Some, length, arith}
use Rattle.jr_base.specs.declared.number.ClauseId.{ClauseId}
use Rattle.jr_base.specs.declared.kind.SlotKind.{SlotKind}
use Rattle.jr_program.specs.declared.words.ClauseKind.{ClauseKind}
use Rattle.jr_program.specs.declared.words.ClauseKind.TheVariants as kinds
use Rattle.jr_program.specs.ClauseKinds.{ClauseScope, in_old, in_quantifier, SpecHas, AreReferences, IsCondition, StatesFit}
use Rattle.jr_program.specs.Clauses.{Clause, Owner, OfMethod, OfClass, OfField}
use Rattle.jr_program.specs.Clauses.{Spec, Number, Truth, Null, This, Variable, Bound, Result, StaticField, FieldOf, ElementOf, LengthOf, ClassObject, Convert, Unary, Binary, And, Or, Choice, Implies, ImpliedBy, Old, InLockset, Quantified}
use Rattle.jr_program.specs.Programs.{Program, Method, clause_at}
use Rattle.jr_program.specs.WellFormed.{WellFormed, FitsOwner, FitsMethod, FitsClass, scope_at_call, scope_at_return, scope_without_variables, assert_scope}
use Rattle.jr_clause_eval.specs.ClassObjects.{HasClassObjects, HaveClassObjects}

-- each class of the program has an object
abbrev pub HasObjects : Program → Type 0
HasObjects program = length program.classes + 1 < 2 ^ 32

named : (s : ClauseScope) → HasObjects s.program → (e : Spec) (k : SlotKind) → SpecHas s e k → HasClassObjects e
named s small (Number w n) k has = tt
named s small (Truth b) k has = tt
named s small Null k has = tt
named s small This k has = tt
named s small (Variable number) k has = tt
named s small (Bound depth) k has = tt
named s small Result k has = tt
named s small (StaticField field at) k has = tt
named s small (FieldOf object field slot) k has = named s small object _ has.0
named s small (ElementOf array index) k has = (named s small array _ has.0, named s small index _ has.1)
named s small (LengthOf array) k has = named s small array _ has.0
named s small (ClassObject class) k has = omega (arith, small, has.0)
named s small (Convert w operand) k has = named s small operand _ has.0
named s small (Unary operator operand) k has = named s small operand _ has.0
named s small (Binary operator left right) k has = (named s small left _ has.0, named s small right _ has.1)
named s small (And left right) k has = (named s small left _ has.0, named s small right _ has.1)
named s small (Or left right) k has = (named s small left _ has.0, named s small right _ has.1)
named s small (Choice condition first second) k has = (named s small condition _ has.0, named s small first _ has.1, named s small second _ has.2)
named s small (Implies left right) k has = (named s small left _ has.0, named s small right _ has.1)
named s small (ImpliedBy left right) k has = (named s small left _ has.0, named s small right _ has.1)
named s small (Old value) k has = named (in_old s) small value k has.1
named s small (InLockset object) k has = named s small object _ has.1
named s small (Quantified quantifier low low_bound high high_bound conjuncts body) k has =
    (named s small low _ has.1, named s small high _ has.2, named (in_quantifier s) small conjuncts _ has.3, named (in_quantifier s) small body _ has.4)

references-named : (s : ClauseScope) → HasObjects s.program → (es : List Spec) → AreReferences s es → HaveClassObjects es
references-named s small [] are = tt
references-named s small (e ∷ es) are = (named s small e _ are.0, references-named s small es are.1)

condition-named : (s : ClauseScope) → HasObjects s.program → (es : List Spec) → IsCondition s es → HaveClassObjects es
condition-named s small [] is = absurd is
condition-named s small (e ∷ []) is = (named s small e _ is, tt)
condition-named s small (e ∷ f ∷ es) is = absurd is

nothing-named : (es : List Spec) → es ≡ [] → HaveClassObjects es
nothing-named es none = rw none tt

states-named : (s : ClauseScope) → HasObjects s.program → (kind : ClauseKind) (es : List Spec) → StatesFit s kind es → HaveClassObjects es
states-named s small kinds.Locks es fit = references-named s small es fit
states-named s small kinds.MonitorsFor es fit = references-named s small es fit
states-named s small kinds.Atomic es fit = nothing-named es fit
states-named s small kinds.Requires es fit = condition-named s small es fit
states-named s small kinds.Ensures es fit = condition-named s small es fit
states-named s small kinds.When es fit = condition-named s small es fit
states-named s small kinds.Invariant es fit = condition-named s small es fit
states-named s small kinds.Constraint es fit = condition-named s small es fit
states-named s small kinds.Assert es fit = condition-named s small es fit

of-method-named : (program : Program) → HasObjects program → (method : Method) (kind : ClauseKind) (es : List Spec) → FitsMethod program method kind es → HaveClassObjects es
of-method-named program small method kinds.Ensures es fit = states-named (scope_at_return program method) small kinds.Ensures es fit
of-method-named program small method kinds.Assert es fit = states-named (assert_scope program method.is_static fit.0) small kinds.Assert es fit.2
of-method-named program small method kinds.Locks es fit = states-named (scope_at_call program method) small kinds.Locks es fit
of-method-named program small method kinds.MonitorsFor es fit = states-named (scope_at_call program method) small kinds.MonitorsFor es fit
of-method-named program small method kinds.Atomic es fit = states-named (scope_at_call program method) small kinds.Atomic es fit
of-method-named program small method kinds.Requires es fit = states-named (scope_at_call program method) small kinds.Requires es fit
of-method-named program small method kinds.When es fit = states-named (scope_at_call program method) small kinds.When es fit
of-method-named program small method kinds.Invariant es fit = states-named (scope_at_call program method) small kinds.Invariant es fit
of-method-named program small method kinds.Constraint es fit = states-named (scope_at_call program method) small kinds.Constraint es fit

of-class-named : (program : Program) → HasObjects program → (static : Bool) (kind : ClauseKind) (es : List Spec) → FitsClass program static kind es → HaveClassObjects es
of-class-named program small static kinds.Constraint es fit = states-named (scope_without_variables program static true) small kinds.Constraint es fit
of-class-named program small static kinds.Ensures es fit = states-named (scope_without_variables program static false) small kinds.Ensures es fit
of-class-named program small static kinds.Assert es fit = states-named (scope_without_variables program static false) small kinds.Assert es fit
of-class-named program small static kinds.Locks es fit = states-named (scope_without_variables program static false) small kinds.Locks es fit
of-class-named program small static kinds.MonitorsFor es fit = states-named (scope_without_variables program static false) small kinds.MonitorsFor es fit
of-class-named program small static kinds.Atomic es fit = states-named (scope_without_variables program static false) small kinds.Atomic es fit
of-class-named program small static kinds.Requires es fit = states-named (scope_without_variables program static false) small kinds.Requires es fit
of-class-named program small static kinds.When es fit = states-named (scope_without_variables program static false) small kinds.When es fit
of-class-named program small static kinds.Invariant es fit = states-named (scope_without_variables program static false) small kinds.Invariant es fit

owned-named : (program : Program) → HasObjects program → (clause : Clause) (owner : Owner) → FitsOwner program clause owner → HaveClassObjects clause.states
owned-named program small clause (OfMethod m) fit = of-method-named program small fit.0 clause.kind clause.states fit.4
owned-named program small clause (OfClass c) fit = of-class-named program small clause.is_static clause.kind clause.states fit.2
owned-named program small clause (OfField f) fit = states-named (scope_without_variables program fit.0.is_static false) small kinds.MonitorsFor clause.states fit.4

pub clauses-name-class-objects : (program : Program) → WellFormed program → (c : ClauseId) (clause : Clause) → clause_at program c ≡ Some clause → HaveClassObjects clause.states
clauses-name-class-objects program fits c clause found = owned-named program fits.numbers.classes clause clause.owner (fits.clauses c clause found)
