-- What names stand for in a clause has the kind of its type.
use Rattle.std.proofs.Common.{◌≡◌, ◌<◌, ℕ, ◌+◌, Bool, true, false, cond, not, List, [], ◌∷◌, length, Option, Some, None, refl, ap, ◌∙◌, arith}
use Rattle.std.specs.Str.{bytes_eq}
use Rattle.jr_base.specs.Threads.{class_object, cell}
use Rattle.jr_base.specs.declared.number.Span.{Span}
use Rattle.jr_base.specs.declared.kind.SlotKind.{SlotKind}
use Rattle.jr_base.specs.declared.kind.SlotKind.TheVariants as kind
use Rattle.jr_ast.specs.declared.name.Name.{Name}
use Rattle.jr_program.specs.ClauseKinds.{ClauseScope, SpecHas, IsVariable}
use Rattle.jr_program.specs.Clauses as clause
use Rattle.jr_program.specs.Clauses.{Spec}
use Rattle.jr_typing_rules.specs.declared.words.FieldEntry.{FieldEntry}
use Rattle.jr_typing_rules.specs.declared.words.VariableKind.{VariableKind}
use Rattle.jr_typing_rules.specs.declared.words.VariableKind.TheVariants as variable
use Rattle.jr_typing_rules.specs.declared.words.Access.{Access}
use Rattle.jr_typing_rules.specs.declared.words.Access.TheVariants as access
use Rattle.jr_typing_rules.specs.Agreement.{AgreesWith}
use Rattle.jr_base.specs.declared.refusal.Refusal.TheVariants.{NotHere}
use Rattle.jr_typing_rules.specs.Answers.{Typing, Good, ◌>>=◌, require}
use Rattle.jr_typing_rules.specs.Types.{kind_of}
use Rattle.jr_typing_rules.specs.Names.{Text, named}
use Rattle.jr_typing_rules.specs.Scopes.{Scope, Variable, variable_named, own_field}
use Rattle.jr_typing_rules.specs.Denotations.{Denotation, AClass, ALibrary, ASystem, AnOut, AVariable, AValue, ANothing, of_class, field_access}
use Rattle.jr_typing_rules.specs.Predicates.{Stand, Term, TheClass, TheLibrary, TheSystem, TheOut, TheValue, Stated, face_of, stated, depth_of, of_variable, static_field, field_of_object, of_own_field, of_meaning, of_field_or_class, of_any, of_quantified_or_any, clause_name, accessed, field_of}
use Rattle.jr_typing_rules.proofs.Holding.{Holds, holds-next, holds-then, holds-require, Each}
use Rattle.jr_typing_rules.proofs.Running.{not-true-false}
use Rattle.jr_typing_rules.proofs.Found.{Found, find-each}
use Rattle.jr_typing_rules.proofs.FieldsFound.{EntryFits, entry-fits, entry-field, AccessFits, field-access-fits}

-- ---- terms

-- a value has the kind of its type
abbrev pub StatedHas : ClauseScope → Stated → Type 0
StatedHas s v = SpecHas s v.node (kind_of v.of)

abbrev pub TermHas : ClauseScope → Term → Type 0
TermHas s (TheValue t e) = SpecHas s e (kind_of t)
TermHas s (TheClass c) = Unit {0}
TermHas s (TheLibrary l) = Unit {0}
TermHas s (TheSystem at) = Unit {0}
TermHas s (TheOut at) = Unit {0}

pub as-kind : (s : ClauseScope) (e : Spec) (k j : SlotKind) → k ≡ j → SpecHas s e k → SpecHas s e j
as-kind s e k j same has = rw same at has

stated-has : (s : ClauseScope) (at : Span) (m : Term) → TermHas s m → Holds (StatedHas s) (stated at m)
unfolding stated
stated-has s at (TheValue t e) has = has
stated-has s at (TheClass c) has = tt
stated-has s at (TheLibrary l) has = tt
stated-has s at (TheSystem system) has = tt
stated-has s at (TheOut system) has = tt

pub value-has : (s : ClauseScope) (at : Span) (t : Typing Term) → Holds (TermHas s) t → Holds (StatedHas s) (t >>= stated at)
value-has s at t has = holds-then (StatedHas s) (TermHas s) t (stated at) has λ m is. stated-has s at m is

-- ---- fields

static-has : (s : ClauseScope) (f : FieldEntry) → f.is_static ≡ true → EntryFits s.program f → TermHas s (static_field f)
static-has s f is fits = (
  entry-field s.program f true is fits,
  (
    fits.field,
    fits.at,
    ap (λ c. cell (class_object c) f.slot) fits.class ∙ ap (λ n. cell (class_object fits.field.class) n) fits.slot,
  ),
)

object-has : (s : ClauseScope) (e : Spec) (f : FieldEntry) → f.is_static ≡ false → EntryFits s.program f → SpecHas s e kind.Ref → TermHas s (field_of_object e f)
object-has s e f is fits has = (has, entry-field s.program f false is fits, fits.slot)

-- ---- variables

-- a variable that has a value has the kind of its type in its place
abbrev pub IsPlaced : List SlotKind → VariableKind → Type 0
IsPlaced kinds (variable.Local t place) = IsVariable kinds place (kind_of t)
IsPlaced kinds (variable.Caught place) = Unit {0}
IsPlaced kinds variable.Arguments = Unit {0}

abbrev pub ArePlaced : List SlotKind → List Variable → Type 0
ArePlaced kinds = Each (λ (v : Variable). IsPlaced kinds v.kind)

variable-found : (kinds : List SlotKind) (scope : Scope) (x : Text) → ArePlaced kinds scope.variables → Found (λ (v : Variable). IsPlaced kinds v.kind) (variable_named scope x)
unfolding variable_named
variable-found kinds scope x placed = find-each (λ (v : Variable). IsPlaced kinds v.kind) (λ (v : Variable). bytes_eq x v.name) scope.variables placed

variable-has : (s : ClauseScope) (x : Name) (k : VariableKind) → IsPlaced s.variables k → Holds (TermHas s) (of_variable x k)
variable-has s x (variable.Local t place) placed = placed
variable-has s x (variable.Caught place) placed = tt
variable-has s x variable.Arguments placed = tt

depth-below : (n : ℕ) (qs : List Text) (x : Text) → Found (λ d. d < n + length qs) (depth_of n qs x)
depth-below n [] x = tt
depth-below n (y ∷ ys) x = by (bytes_eq x y) (depth_of (n + 1) ys x) (depth-below (n + 1) ys x)
  where
    further : (o : Option ℕ) → Found (λ d. d < n + 1 + length ys) o → Found (λ d. d < n + length (y ∷ ys)) o
    further (Some d) below = omega (arith, below)
    further None below = tt

    by : (b : Bool) (o : Option ℕ) → Found (λ d. d < n + 1 + length ys) o → Found (λ d. d < n + length (y ∷ ys)) (cond b (Some n) o)
    by true o below = omega arith
    by false o below = further o below

-- ---- a name alone

-- what is asked of the place where a name stands
pub record ScopeFits (s : ClauseScope) (scope : Scope) : Type 0 where
  pub names : AgreesWith scope.names s.program
  pub static : s.is_static ≡ scope.is_static
  pub variables : ArePlaced s.variables scope.variables

own-field-has : (s : ClauseScope) (scope : Scope) → ScopeFits s scope → (x : Name) (f : FieldEntry) → EntryFits s.program f → Holds (TermHas s) (of_own_field scope x f)
own-field-has s scope fits x f entry = by f.is_static refl
  where
    by : (b : Bool) → f.is_static ≡ b →
        Holds (TermHas s) (cond b (Good (static_field f)) (require (not scope.is_static) (NotHere x.place) >>= λ u. Good (field_of_object clause.This f)))
    by true is = static-has s f is entry
    by false is =
        holds-require (TermHas s) (not scope.is_static) _ _ λ instance.
        object-has s clause.This f is entry (fits.static ∙ not-true-false scope.is_static instance, refl)

meaning-has : (s : ClauseScope) (at : Span) (d : Denotation) → Holds (TermHas s) (of_meaning at d)
meaning-has s at (AClass c) = tt
meaning-has s at (ALibrary l) = tt
meaning-has s at (ASystem system) = tt
meaning-has s at (AnOut system) = tt
meaning-has s at (AVariable t v) = tt
meaning-has s at (AValue t e) = tt
meaning-has s at (ANothing e) = tt

field-or-class-has : (s : ClauseScope) (scope : Scope) → ScopeFits s scope → (x : Name) (o : Option FieldEntry) → own_field scope x.text ≡ o → Holds (TermHas s) (of_field_or_class scope x o)
field-or-class-has s scope fits x (Some f) e = own-field-has s scope fits x f (entry-fits scope.names s.program fits.names scope.own x.text f e)
field-or-class-has s scope fits x None e = holds-next (TermHas s) (of_class (named x.text scope.names.numbers) x) _ λ d found. meaning-has s x.place d

any-has : (s : ClauseScope) (scope : Scope) → ScopeFits s scope → (x : Name) (o : Option Variable) → Found (λ (v : Variable). IsPlaced s.variables v.kind) o → Holds (TermHas s) (of_any scope x o)
any-has s scope fits x (Some v) placed = variable-has s x v.kind placed
any-has s scope fits x None placed = field-or-class-has s scope fits x (own_field scope x.text) refl

quantified-or-any-has : (s : ClauseScope) (stand : Stand) → ScopeFits s stand.scope → (x : Name) (o : Option ℕ) → Found (λ n. n < s.quantifiers) o →
    Holds (TermHas s) (of_quantified_or_any stand x o)
quantified-or-any-has s stand fits x (Some n) below = (below, refl)
quantified-or-any-has s stand fits x None below =
    any-has s stand.scope fits x (variable_named stand.scope x.text) (variable-found s.variables stand.scope x.text fits.variables)

fewer : (o : Option ℕ) (n k : ℕ) → 0 + n ≡ k → Found (λ d. d < 0 + n) o → Found (λ d. d < k) o
fewer (Some d) n k same below = omega (arith, same, below)
fewer None n k same below = tt

pub name-has : (s : ClauseScope) (stand : Stand) → ScopeFits s stand.scope → length stand.quantified ≡ s.quantifiers → (x : Name) → Holds (TermHas s) (clause_name stand x)
unfolding clause_name
name-has s stand fits count x =
    quantified-or-any-has s stand fits x (depth_of 0 stand.quantified x.text)
    (fewer (depth_of 0 stand.quantified x.text) (length stand.quantified) s.quantifiers (omega (arith, count)) (depth-below 0 stand.quantified x.text))

-- ---- a field behind a dot

accessed-has : (s : ClauseScope) (at : Span) (a : Access) (m : Term) → AccessFits s.program (face_of m) a → TermHas s m → Holds (TermHas s) (accessed at a m)
unfolding stated
accessed-has s at (access.Static f) m fits has = static-has s f fits.0 fits.1
accessed-has s at (access.Out system) m fits has = tt
accessed-has s at access.Length (TheValue t e) fits has = (as-kind s e (kind_of t) kind.Ref fits has, refl)
accessed-has s at access.Length (TheClass c) fits has = absurd fits
accessed-has s at access.Length (TheLibrary l) fits has = absurd fits
accessed-has s at access.Length (TheSystem system) fits has = absurd fits
accessed-has s at access.Length (TheOut system) fits has = absurd fits
accessed-has s at (access.Field f) (TheValue t e) fits has = object-has s e f fits.1 fits.2 (as-kind s e (kind_of t) kind.Ref fits.0 has)
accessed-has s at (access.Field f) (TheClass c) fits has = absurd fits.0
accessed-has s at (access.Field f) (TheLibrary l) fits has = absurd fits.0
accessed-has s at (access.Field f) (TheSystem system) fits has = absurd fits.0
accessed-has s at (access.Field f) (TheOut system) fits has = absurd fits.0

pub field-has : (s : ClauseScope) (stand : Stand) → ScopeFits s stand.scope → (at : Span) (x : Name) (m : Term) → TermHas s m → Holds (TermHas s) (field_of stand at x m)
field-has s stand fits at x m has =
    holds-then (TermHas s) (AccessFits s.program (face_of m)) (field_access stand.scope at x (face_of m)) _ (field-access-fits s.program stand.scope fits.names at x (face_of m))
    λ a access_fits. accessed-has s at a m access_fits has
