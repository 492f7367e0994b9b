-- Statements that have no other statement as a part fit their program (JLS 14).
use Rattle.std.proofs.Common.{◌≡◌, Bool, true, false, cond, List, [], ◌∷◌, Option, Some, None, refl}
use Rattle.std.specs.Option.{option_map}
use Rattle.jr_base.specs.declared.number.Span.{Span}
use Rattle.jr_base.specs.declared.action.Elem.TheVariants as elem
use Rattle.jr_base.specs.declared.kind.SlotKind.TheVariants as kinds
use Rattle.jr_ast.specs.Expressions as expressions
use Rattle.jr_ast.specs.Expressions.{place_of}
use Rattle.jr_ast.specs.declared.name.Name.{Name}
use Rattle.jr_program.specs.Programs as program
use Rattle.jr_program.specs.Programs.{Program, Statement, Effect}
use Rattle.jr_program.specs.WellFormed.{Scope as Place, HasKind, EffectFits, EffectsFit, Fits}
use Rattle.jr_program.specs.StatementViews as several
use Rattle.jr_typing_rules.specs.declared.words.ValueType.{ValueType}
use Rattle.jr_typing_rules.specs.declared.words.ValueType.TheVariants as type
use Rattle.jr_typing_rules.specs.declared.words.VariableKind.{VariableKind}
use Rattle.jr_typing_rules.specs.declared.words.VariableKind.TheVariants as variable
use Rattle.jr_typing_rules.specs.declared.words.FieldEntry.{FieldEntry}
use Rattle.jr_typing_rules.specs.Answers.{Typing, Good, Bad, ◌>>=◌, each}
use Rattle.jr_typing_rules.specs.Types.{kind_of, is_reference}
use Rattle.jr_typing_rules.specs.Names.{is_assignable}
use Rattle.jr_typing_rules.specs.Scopes.{Scope, Variable, variable_named, own_field}
use Rattle.jr_typing_rules.specs.Denotations.{Denotation, AClass, ALibrary, ASystem, AnOut, AVariable, AValue, ANothing, value_of}
use Rattle.jr_typing_rules.specs.Expressions.{denotes, value}
use Rattle.jr_typing_rules.specs.Statements.{State, Made, Mades, makes, chained, default_of, value_for, initial_value, effect_of, effect, is_trace, expression_statement, condition, reference, condition_or_true, returns_value, returns, throws_kind, throws_field, throws_found, throws_variable}
use Rattle.jr_typing_rules.proofs.Holding.{Holds, holds-next, holds-then, holds-require, Each}
use Rattle.jr_typing_rules.proofs.OperatorKinds.{assignable-brings, reference-kind}
use Rattle.jr_typing_rules.proofs.Denoted.{ValueRight, Right, Around, StandsAt, value-right, variable-stands}
use Rattle.jr_typing_rules.proofs.Called.{brought-has}
use Rattle.jr_typing_rules.proofs.Evaluated.{IsCondition, IsReference, condition-right, denoted, valued}
use Rattle.jr_typing_rules.proofs.StatesGrow.{Body, place_in, Grows, Stands, Follows, follows-self, around}

-- ---- what is asked of a statement

-- it follows its state, and fits where what stands behind it is part of the body
abbrev pub MadeFits : Body → Bool → State → Made → Type 0
MadeFits w in_loop state made = Follows w state made.state × (Grows made.state w.last → Fits (place_in w in_loop) made.statement)

abbrev pub MadesFit : Body → Bool → State → Mades → Type 0
MadesFit w in_loop state made = Follows w state made.state × (Grows made.state w.last → Each (Fits (place_in w in_loop)) made.statements)

-- what holds under a condition
pub later : {A : Type 0} (C : Type 0) (P : A → Type 0) (t : Typing A) → (C → Holds P t) → Holds (λ x. C → P x) t
later C P (Good x) holds = holds
later C P (Bad r) holds = tt

-- a statement by an answer that leaves the state
pub alone : {A : Type 0} (w : Body) (in_loop : Bool) (state : State) (t : Typing A) (f : A → Statement) → Stands w state →
    (Grows state w.last → Holds (λ x. Fits (place_in w in_loop) (f x)) t) → Holds (MadeFits w in_loop state) (t >>= λ x. makes state (f x))
alone w in_loop state (Good x) f stands fits = (follows-self w state stands, fits)
alone w in_loop state (Bad r) f stands fits = tt

several-fit : (s : Place) (xs : List Statement) → Each (Fits s) xs → Fits s (several.chained xs)
several-fit s [] all = tt
several-fit s (x ∷ xs) all = (all.0, several-fit s xs all.1)

pub chained-fits : (s : Place) (xs : List Statement) → Each (Fits s) xs → Fits s (chained xs)
chained-fits s [] all = tt
chained-fits s (x ∷ []) all = all.0
chained-fits s (x ∷ y ∷ ys) all = (all.0, several-fit s (y ∷ ys) all.1)

-- ---- values

pub value-for-has : (s : Place) (scope : Scope) → Around s scope → (t : ValueType) (e : expressions.Expr) → Holds (λ v. HasKind s v (kind_of t)) (value_for scope t e)
value-for-has s scope around t e =
    let Q = λ (v : program.Expr). HasKind s v (kind_of t) in
    holds-then Q (ValueRight s) (value scope e) _ (valued s scope around e) λ v right.
    holds-require Q (is_assignable scope.names v.of t) _ _ λ may. brought-has s v.of t v.node (assignable-brings scope.names v.of t may) right.0

default-has : (s : Place) (t : ValueType) → HasKind s (default_of (kind_of t)) (kind_of t)
default-has s type.Null = refl
default-has s (type.ArrayOf e) = refl
default-has s (type.Single elem.Int) = (refl, refl)
default-has s (type.Single elem.Long) = (refl, refl)
default-has s (type.Single elem.Bool) = refl
default-has s (type.Single elem.Object) = refl
default-has s (type.Single elem.Thread) = refl
default-has s (type.Single elem.Runnable) = refl
default-has s (type.Single (elem.Class c)) = refl

pub initial-has : (s : Place) (scope : Scope) → Around s scope → (t : ValueType) (o : Option expressions.Expr) → Holds (λ v. HasKind s v (kind_of t)) (initial_value scope t o)
initial-has s scope around t (Some e) = value-for-has s scope around t e
initial-has s scope around t None = default-has s t

pub condition-fits : (s : Place) (scope : Scope) → Around s scope → (e : expressions.Expr) → Holds (IsCondition s) (condition scope e)
unfolding condition
condition-fits s scope around e = condition-right s (place_of e) (value scope e) (valued s scope around e)

pub or-true-fits : (s : Place) (scope : Scope) → Around s scope → (o : Option expressions.Expr) → Holds (λ c. HasKind s c kinds.Bool) (condition_or_true scope o)
or-true-fits s scope around (Some e) =
    holds-then (λ (c : program.Expr). HasKind s c kinds.Bool) (IsCondition s) (condition scope e) _ (condition-fits s scope around e) λ v is. is
or-true-fits s scope around None = refl

pub reference-fits : (s : Place) (scope : Scope) → Around s scope → (e : expressions.Expr) → Holds (IsReference s) (reference scope e)
unfolding reference
reference-fits s scope around e =
    holds-then (IsReference s) (ValueRight s) (value scope e) _ (valued s scope around e) λ v right.
    holds-require (IsReference s) (is_reference v.of) _ _ λ is. rw (reference-kind v.of is) at right.0

-- ---- expressions as statements

-- a value that isn't used
evaluated : (s : Place) (at : Span) (d : Denotation) → Right s d → Holds (EffectFits s) (value_of at d >>= λ v. Good (program.Evaluate v.node))
evaluated s at d right = holds-then (EffectFits s) (ValueRight s) (value_of at d) _ (value-right s at d right) λ v has. (kind_of v.of, has.0)

effect-of : (s : Place) (at : Span) (d : Denotation) → Right s d → Holds (EffectFits s) (effect_of at d)
effect-of s at (ANothing e) right = right
effect-of s at (AVariable t x) right = evaluated s at (AVariable t x) right
effect-of s at (AValue t e) right = evaluated s at (AValue t e) right
effect-of s at (AClass c) right = evaluated s at (AClass c) right
effect-of s at (ALibrary l) right = evaluated s at (ALibrary l) right
effect-of s at (ASystem system) right = evaluated s at (ASystem system) right
effect-of s at (AnOut system) right = evaluated s at (AnOut system) right

effect-fits : (s : Place) (scope : Scope) → Around s scope → (e : expressions.Expr) → Holds (EffectFits s) (effect scope e)
unfolding effect
effect-fits s scope around e = holds-then (EffectFits s) (Right s) (denotes scope e) (effect_of (place_of e)) (denoted s scope around e) (effect-of s (place_of e))

pub effects-fit : (s : Place) (scope : Scope) → Around s scope → (es : List expressions.Expr) → Holds (EffectsFit s) (each (effect scope) es)
effects-fit s scope around [] = tt
effects-fit s scope around (e ∷ es) =
    holds-then (EffectsFit s) (EffectFits s) (effect scope e) _ (effect-fits s scope around e) λ d fits.
    holds-then (EffectsFit s) (EffectsFit s) (each (effect scope) es) _ (effects-fit s scope around es) λ ds all. (fits, all)

pub expression-fits : (s : Place) (scope : Scope) → Around s scope → (e : expressions.Expr) → Holds (Fits s) (expression_statement scope e)
unfolding expression_statement
expression-fits s scope around e = by (is_trace scope e)
  where
    by : (b : Bool) → Holds (Fits s) (cond b (Good program.Skip) (effect scope e >>= λ d. Good (program.Do d)))
    by true = tt
    by false = holds-then (Fits s) (EffectFits s) (effect scope e) _ (effect-fits s scope around e) λ d fits. fits

-- ---- `return` and `throw`

returns-value-fits : (s : Place) (scope : Scope) → Around s scope → (o : Option ValueType) → s.result ≡ option_map kind_of o → (e : expressions.Expr) → Holds (Fits s) (returns_value scope o e)
returns-value-fits s scope around (Some t) same e =
    holds-then (Fits s) (λ (v : program.Expr). HasKind s v (kind_of t)) (value_for scope t e) _ (value-for-has s scope around t e) λ v has. (kind_of t, same, has)
returns-value-fits s scope around None same e = holds-next (Fits s) (value scope e) _ λ v is. tt

pub returns-fits : (s : Place) (scope : Scope) → Around s scope → (o : Option ValueType) → s.result ≡ option_map kind_of o → (at : Span) (e : Option expressions.Expr) →
    Holds (Fits s) (returns scope o at e)
unfolding returns
returns-fits s scope around o same at (Some e) = returns-value-fits s scope around o same e
returns-fits s scope around (Some t) same at None = tt
returns-fits s scope around None same at None = same

pub throws-fits : (s : Place) (scope : Scope) → Around s scope → (x : Name) → Holds (Fits s) (throws_variable scope x)
unfolding throws_variable
throws-fits s scope around x = by (variable_named scope x.text) refl
  where
    of_kind : (k : VariableKind) → StandsAt s.program s.kinds k → Holds (Fits s) (throws_kind x k)
    of_kind (variable.Caught place) stands = stands
    of_kind (variable.Local t place) stands = tt
    of_kind variable.Arguments stands = tt

    of_field : (f : Option FieldEntry) → Holds (Fits s) (throws_field x f)
    of_field (Some f) = tt
    of_field None = tt

    by : (v : Option Variable) → variable_named scope x.text ≡ v → Holds (Fits s) (throws_found scope x v)
    by (Some v) found =
        of_kind v.kind (variable-stands s scope around x.text v found)
    by None found = of_field (own_field scope x.text)
