-- What an expression of a clause is worth (JML Reference Manual, "Predicates and Specification Expressions").
-- It has a value, or it is stuck: Undefined where null is dereferenced, a divisor is zero or an index is out of range,
-- and in safe mathematics where a result isn't one of its type (JML Reference Manual, "Arithmetic Modes"); Wide where a
-- quantifier has too many instances. Operands go from left to right, and the first stuck one that is needed decides.
-- That a clause can be stuck is this language's own, as is the number of instances.
use Rattle.std.specs.Prelude.{ℕ, zero, suc, ℤ, pos, ◌+ℤ◌, Bool, true, false, cond, nat_lt, List, ◌∷◌, Option, Some, None, slice_get}
use Rattle.std.specs.Int.{int_gap}
use Rattle.jr_base.specs.declared.number.ObjId.{ObjId}
use Rattle.jr_base.specs.declared.value.Value.{Value}
use Rattle.jr_base.specs.declared.value.Value.TheVariants as values
use Rattle.jr_base.specs.declared.value.Ask.TheVariants as asks
use Rattle.jr_base.specs.declared.value.Seen.{Seen}
use Rattle.jr_base.specs.declared.value.Seen.TheVariants as seen
use Rattle.jr_arith.specs.declared.operator.Unary.{Unary as UnaryOperator}
use Rattle.jr_arith.specs.declared.operator.Binary.{Binary as BinaryOperator}
use Rattle.jr_program.specs.declared.words.Mode.{Mode}
use Rattle.jr_program.specs.declared.words.Mode.TheVariants.{Safe}
use Rattle.jr_program.specs.declared.words.Bound.{Bound as BoundKind}
use Rattle.jr_program.specs.declared.words.Bound.TheVariants.{Inclusive, Exclusive}
use Rattle.jr_program.specs.declared.words.Quantifier.{Quantifier}
use Rattle.jr_program.specs.declared.words.Quantifier.TheVariants.{ForAll, Exists}
use Rattle.jr_arith.specs.Operators.{number as number_value, converted, unary_value, binary_value, unary_fits, binary_fits}
use Rattle.jr_base.specs.Threads.{class_object}
use Rattle.jr_program.specs.Clauses.{Spec, Number, Truth, Null, This, Variable, Bound, Result, StaticField, FieldOf, ElementOf, LengthOf, ClassObject, Convert, Unary, Binary, And, Or, Choice, Implies, ImpliedBy, Old, InLockset, Quantified}
use Rattle.jr_meaning.specs.Objects.{reference}
use Rattle.jr_meaning.specs.Heap.{Heap}

-- ---- how an expression comes out

pub data Worth : Type 0 where
  Has : (value : Value) → Worth
  Undefined : Worth
  Wide : Worth

-- goes on with the value, if there is one
abbrev pub with_value : Worth → (Value → Worth) → Worth
with_value (Has value) go = go value
with_value Undefined go = Undefined
with_value Wide go = Wide

-- of a boolean the first or the second; no other value stands where one is asked for
abbrev pub choose : Value → Worth → Worth → Worth
choose (values.Bool true) first second = first
choose (values.Bool false) first second = second
choose _ first second = Undefined

abbrev pub defined : Option Value → Worth
defined (Some value) = Has value
defined None = Undefined

abbrev pub truth : Bool → Worth
truth b = Has (values.Bool b)

-- in safe mathematics a result must fit
abbrev pub if_fits : Mode → Bool → Worth → Worth
if_fits Safe false result = Undefined
if_fits _ fits result = result

abbrev pub unary_worth : Mode → UnaryOperator → Value → Worth
unary_worth mode operator a = if_fits mode (unary_fits operator a) (Has (unary_value operator a))

abbrev pub binary_worth : Mode → BinaryOperator → Value → Value → Worth
binary_worth mode operator a b = if_fits mode (binary_fits operator a b) (defined (binary_value operator a b))

-- ---- what a clause is judged on

-- `this`, the variables, at a return the result, and at an Enter the entered object
pub record Environment : Type 0 where
  pub this : Option ObjId
  pub variables : List Value
  pub result : Option Value
  pub entered : Option ObjId

-- the environment, the heap that is read, the old heap, which objects the guest owns, and the values of
-- quantified variables, the innermost first
pub record Setting : Type 0 where
  pub environment : Environment
  pub heap : Heap
  pub old : Heap
  pub owned : ObjId → Bool
  pub bound : List ℤ

abbrev pub on_old : Setting → Setting
on_old s = record s { heap = s.old }

abbrev pub binding : Setting → ℤ → Setting
binding s i = record s { bound = i ∷ s.bound }

-- ---- parts

abbrev pub bound_value : Option ℤ → Worth
bound_value (Some i) = Has (values.Int i)
bound_value None = Undefined

abbrev pub worth_seen : Seen → Worth
worth_seen (seen.Value value) = Has value
worth_seen seen.Absent = Undefined

abbrev pub in_slot : Heap → Value → ℕ → Worth
in_slot heap (values.Ref object) slot = worth_seen (heap (asks.Cell (record { obj = object; slot = slot })))
in_slot heap _ slot = Undefined

abbrev pub element_of : Heap → Value → Value → Worth
element_of heap array (values.Int (pos i)) = in_slot heap array i
element_of heap array _ = Undefined

abbrev pub length_of : Heap → Value → Worth
length_of heap (values.Ref object) = worth_seen (heap (asks.Length object))
length_of heap _ = Undefined

-- null is owned by nobody
abbrev pub owned_by : (ObjId → Bool) → Value → Bool
owned_by owned (values.Ref object) = owned object
owned_by owned _ = false

-- ---- quantifiers

-- the first instance, and the number after the last
abbrev pub first_from : BoundKind → ℤ → ℤ
first_from Inclusive low = low
first_from Exclusive low = low +ℤ pos 1

abbrev pub past_to : BoundKind → ℤ → ℤ
past_to Inclusive high = high +ℤ pos 1
past_to Exclusive high = high

-- the most instances that are tried
abbrev pub most_instances : ℕ
most_instances = 4096

-- `true` goes on in a `\forall`, `false` in an `\exists`: the first other one decides
abbrev pub goes_on : Quantifier → Bool
goes_on ForAll = true
goes_on Exists = false

-- of an instance and the rest of them
abbrev pub decide : Quantifier → Worth → Worth → Worth
decide ForAll (Has (values.Bool true)) rest = rest
decide Exists (Has (values.Bool false)) rest = rest
decide quantifier instance rest = instance

-- so many instances, from a number on, in rising order
abbrev pub each_of : Quantifier → ℕ → ℤ → (ℤ → Worth) → Worth
each_of quantifier zero i instance = truth (goes_on quantifier)
each_of quantifier (suc n) i instance = decide quantifier (instance i) (each_of quantifier n (i +ℤ pos 1) instance)

abbrev pub instances : Quantifier → ℕ → ℤ → (ℤ → Worth) → Worth
instances quantifier n first instance = cond (nat_lt most_instances n) Wide (each_of quantifier n first instance)

abbrev pub quantified : Quantifier → BoundKind → BoundKind → Value → Value → (ℤ → Worth) → Worth
quantified quantifier low_bound high_bound (values.Int low) (values.Int high) instance =
    instances quantifier (int_gap (first_from low_bound low) (past_to high_bound high)) (first_from low_bound low) instance
quantified quantifier low_bound high_bound _ _ instance = Undefined

-- an instance outside the range is `true` in a `\forall`, and `false` in an `\exists`
abbrev pub in_range : Quantifier → Worth → Worth → Worth
in_range quantifier conjuncts body = with_value conjuncts (λ b. choose b body (truth (goes_on quantifier)))

-- ---- the whole

abbrev pub worth : Mode → Setting → Spec → Worth
worth mode s (Number w n) = Has (number_value w n)
worth mode s (Truth b) = truth b
worth mode s Null = Has values.Null
worth mode s This = Has (reference s.environment.this)
worth mode s (Variable number) = defined (slice_get s.environment.variables number)
worth mode s (Bound depth) = bound_value (slice_get s.bound depth)
worth mode s Result = defined s.environment.result
worth mode s (StaticField field at) = worth_seen (s.heap (asks.Cell at))
worth mode s (FieldOf object field slot) = with_value (worth mode s object) (λ o. in_slot s.heap o slot)
worth mode s (ElementOf array index) =
    with_value (worth mode s array) (λ a. with_value (worth mode s index) (λ i. element_of s.heap a i))
worth mode s (LengthOf array) = with_value (worth mode s array) (length_of s.heap)
worth mode s (ClassObject class) = Has (values.Ref (class_object class))
worth mode s (Convert w operand) = with_value (worth mode s operand) (λ a. Has (converted w a))
worth mode s (Unary operator operand) = with_value (worth mode s operand) (unary_worth mode operator)
worth mode s (Binary operator left right) =
    with_value (worth mode s left) (λ a. with_value (worth mode s right) (λ b. binary_worth mode operator a b))
worth mode s (And left right) = with_value (worth mode s left) (λ a. choose a (worth mode s right) (truth false))
worth mode s (Or left right) = with_value (worth mode s left) (λ a. choose a (truth true) (worth mode s right))
worth mode s (Choice condition first second) =
    with_value (worth mode s condition) (λ a. choose a (worth mode s first) (worth mode s second))
worth mode s (Implies left right) = with_value (worth mode s left) (λ a. choose a (worth mode s right) (truth true))
worth mode s (ImpliedBy left right) =
    with_value (worth mode s left) (λ a. choose a (truth true) (with_value (worth mode s right) (λ b. choose b (truth false) (truth true))))
worth mode s (Old value) = worth mode (on_old s) value
worth mode s (InLockset object) = with_value (worth mode s object) (λ o. truth (owned_by s.owned o))
worth mode s (Quantified quantifier low low_bound high high_bound conjuncts body) =
    with_value (worth mode s low) (λ lo. with_value (worth mode s high) (λ hi.
    quantified quantifier low_bound high_bound lo hi
    (λ i. in_range quantifier (worth mode (binding s i) conjuncts) (worth mode (binding s i) body))))
