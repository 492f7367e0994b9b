-- The bound on turns and calls is never met: each turn and each call takes a reply. All bounds past the number of
-- replies give the same.
use Rattle.std.proofs.Common.{◌≡◌, ◌≢◌, ℕ, zero, suc, ◌<◌, ◌≤◌, ℤ, pos, negsuc, Bool, true, false, List, [], ◌∷◌, length, Option, Some, None, refl, subst, arith}
use Rattle.std.specs.Option.{option_map_or}
use Rattle.std.specs.Int.{is_negative}
use Rattle.jr_base.specs.Deed.{Deed}
use Rattle.jr_base.specs.Deed as deeds
use Rattle.jr_base.specs.declared.number.ClassId.{ClassId}
use Rattle.jr_base.specs.declared.number.MethodId.{MethodId}
use Rattle.jr_base.specs.declared.number.ObjId.{ObjId}
use Rattle.jr_base.specs.declared.action.Body.{Body}
use Rattle.jr_base.specs.declared.action.Reply.{Reply}
use Rattle.jr_base.specs.declared.action.Reply.TheVariants as replies
use Rattle.jr_base.specs.declared.action.Elem.{Elem}
use Rattle.jr_base.specs.declared.value.Value.{Value}
use Rattle.jr_base.specs.declared.value.Value.TheVariants as values
use Rattle.jr_base.specs.declared.value.Cell.{Cell}
use Rattle.jr_base.specs.declared.finish.Fault.{Fault}
use Rattle.jr_base.specs.declared.finish.Fault.TheVariants as faults
use Rattle.jr_base.specs.declared.kind.SlotKind.{SlotKind}
use Rattle.jr_base.specs.declared.kind.ObjectCall.{ObjectCall}
use Rattle.jr_base.specs.declared.kind.ObjectCall.TheVariants.{Wait, Notify, NotifyAll, Start, Join}
use Rattle.jr_arith.specs.Operators.{number_of, truth_of, binary_value}
use Rattle.jr_base.specs.Faults.{catches}
use Rattle.jr_program.specs.Programs.{Program, Method, constructor_of, method_at}
use Rattle.jr_program.specs.Programs.{Expr, Number, Truth, Null, This, ClassObject, Read, LengthOf, Convert, Unary, Binary, And, Or, Choice, Assign, Compound, PrefixIncrement, PostfixIncrement, ResultOf, NewObject, NewPlain, NewThread, NewArray}
use Rattle.jr_program.specs.Programs.{Variable, Local, StaticField, FieldOf, ElementOf, Call, CallStatic, CallOn, Exprs, no_more, and_then}
use Rattle.jr_program.specs.Programs.{Part, Literal, Shown, Catches, no_catch, or_catch}
use Rattle.jr_program.specs.Programs.{Effect, Evaluate, Invoke, CallObject, WaitFor, Yield, Sleep, Statement, Skip, Then, Declare, Do, If, Loop, DoLoop, Break, Continue, Return, ReturnValue, Throw, ThrowCaught, Try, Synchronized, Commit, Println, Assert}
use Rattle.jr_meaning.specs.Next.{Tape, Variables, Out, Got, Threw, Stops, NoTurns, Going, then_do, ask, throws, if_so, on_object, or_zero_divisor, object_made, read_by, written_by, get, put, Spot, LocalSpot, StaticSpot, FieldSpot, ElementSpot, read_spot, write_spot, Calls, Context, context_of, running, promoted, new_array, construct, eval, locate, invoke, eval_all, shown, Completion, Falls, Breaks, Continues, Returns, on_fall, on_turn, act, one_turn, turns, one_do_turn, do_turns, on_throw, on_leave, unless_illegal, waits_by, call_object, wait_for, perform, perform_all, exec, handle, monitor_of, entering, exiting, result_kind, result_of, end_call, run_body, call_with, bounded_call, call, ending, thread_run}

-- not out of turns, and with at most n replies left
abbrev pub Within : {A : Type 0} → ℕ → Out A → Type 0
Within n (Got value vs tape) = length tape ≤ n
Within n (Threw fault vs tape) = length tape ≤ n
Within n (Stops deed) = Unit {0}
Within n NoTurns = ⊥

-- two ways to come out are one, and it is within n
pub record Same {A : Type 0} (n : ℕ) (o p : Out A) : Type 0 where
  pub one : o ≡ p
  pub within : Within n o

-- over at most k replies two pieces come out the same, and leave no more replies than they were given
abbrev pub SameTo : {A : Type 0} → ℕ → Going A → Going A → Type 0
SameTo k f g = (vs : Variables) (tape : Tape) → length tape ≤ k → Same (length tape) (f vs tape) (g vs tape)

-- ---- combining

widen : {A : Type 0} (m n : ℕ) (o : Out A) → m ≤ n → Within m o → Within n o
widen m n (Got value vs tape) le h = omega arith
widen m n (Threw fault vs tape) le h = omega arith
widen m n (Stops deed) le h = tt
widen m n NoTurns le h = h

same-widen : {A : Type 0} (m n : ℕ) (o p : Out A) → m ≤ n → Same m o p → Same n o p
same-widen m n o p le s = record { one = s.one; within = widen m n o le s.within }

then-own : {A B : Type 0} (n k : ℕ) (o : Out A) (f g : A → Going B) → n ≤ k → Within n o → ((x : A) → SameTo k (f x) (g x)) → Same n (then_do o f) (then_do o g)
then-own n k (Got x vs tape) f g le h rest = same-widen (length tape) n _ _ h (rest x vs tape (omega arith))
then-own n k (Threw fault vs tape) f g le h rest = record { one = refl; within = h }
then-own n k (Stops deed) f g le h rest = record { one = refl; within = tt }
then-own n k NoTurns f g le h rest = absurd h

same-then : {A B : Type 0} (n k : ℕ) (o p : Out A) (f g : A → Going B) → n ≤ k → Same n o p → ((x : A) → SameTo k (f x) (g x)) → Same n (then_do o f) (then_do p g)
same-then n k o p f g le s rest = subst (λ q. Same n (then_do o f) (then_do q g)) s.one (then-own n k o f g le s.within rest)

then-to : {A B : Type 0} (k : ℕ) (e d : Going A) (f g : A → Going B) → SameTo k e d → ((x : A) → SameTo k (f x) (g x)) →
    SameTo k (λ vs tape. then_do (e vs tape) f) (λ vs tape. then_do (d vs tape) g)
then-to k e d f g s rest vs tape le = same-then (length tape) k (e vs tape) (d vs tape) f g le (s vs tape le) rest

got-to : {A : Type 0} (k : ℕ) (x : A) → SameTo k (Got x) (Got x)
got-to k x vs tape le = record { one = refl; within = omega arith }

throws-to : {A : Type 0} (k : ℕ) (fault : Fault) → SameTo {A = A} k (throws fault) (throws fault)
throws-to k fault vs tape le = record { one = refl; within = omega arith }

less-to : {A : Type 0} (j k : ℕ) (f g : Going A) → j ≤ k → SameTo k f g → SameTo j f g
less-to j k f g le s vs tape h = s vs tape (omega arith)

-- an action leaves one reply less
ask-less : {B : Type 0} (k : ℕ) (deed : Deed) (f g : Reply → Going B) → ((reply : Reply) → SameTo k (f reply) (g reply)) → SameTo (suc k) (ask deed f) (ask deed g)
ask-less k deed f g rest vs [] le = record { one = refl; within = tt }
ask-less k deed f g rest vs (reply ∷ tape) le =
    same-widen (length tape) (length (reply ∷ tape)) _ _ (omega arith) (rest reply vs tape (omega arith))

ask-none : {B : Type 0} (deed : Deed) (f g : Reply → Going B) → SameTo zero (ask deed f) (ask deed g)
ask-none deed f g vs [] le = record { one = refl; within = tt }
ask-none deed f g vs (reply ∷ tape) le = absurd (omega arith)

ask-to : {B : Type 0} (k : ℕ) (deed : Deed) (f g : Reply → Going B) → ((reply : Reply) → SameTo k (f reply) (g reply)) → SameTo k (ask deed f) (ask deed g)
ask-to zero deed f g rest = ask-none deed f g
ask-to (suc k) deed f g rest = ask-less k deed f g (λ reply. less-to k (suc k) (f reply) (g reply) (omega arith) (rest reply))

if-to : {A : Type 0} (k : ℕ) (b : Bool) (f f' g g' : Going A) → SameTo k f f' → SameTo k g g' → SameTo k (if_so b f g) (if_so b f' g')
if-to k true f f' g g' s t = s
if-to k false f f' g g' s t = t

-- ---- what no frame plays a part in

object-to : {A : Type 0} (k : ℕ) (value : Value) (f g : ObjId → Going A) → ((o : ObjId) → SameTo k (f o) (g o)) → SameTo k (on_object value f) (on_object value g)
object-to k (values.Ref o) f g s = s o
object-to k values.Null f g s = throws-to k faults.NullPointerException
object-to k (values.Int n) f g s = throws-to k faults.NullPointerException
object-to k (values.Long n) f g s = throws-to k faults.NullPointerException
object-to k (values.Bool b) f g s = throws-to k faults.NullPointerException

divisor-to : (k : ℕ) (o : Option Value) → SameTo k (or_zero_divisor o) (or_zero_divisor o)
divisor-to k (Some value) = got-to k value
divisor-to k None = throws-to k faults.ArithmeticException

read-by-to : (k : ℕ) (reply : Reply) → SameTo k (read_by reply) (read_by reply)
read-by-to k (replies.Value value) = got-to k value
read-by-to k replies.Range = throws-to k faults.ArrayIndexOutOfBoundsException
read-by-to k _ = got-to k (values.Int (pos 0))

written-by-to : (k : ℕ) (reply : Reply) (value : Value) → SameTo k (written_by reply value) (written_by reply value)
written-by-to k replies.Range value = throws-to k faults.ArrayIndexOutOfBoundsException
written-by-to k _ value = got-to k value

get-to : (k : ℕ) (at : Cell) → SameTo k (get at) (get at)
get-to k at = ask-to k (deeds.Get at) read_by read_by (read-by-to k)

put-to : (k : ℕ) (at : Cell) (value : Value) → SameTo k (put at value) (put at value)
put-to k at value = ask-to k (deeds.Put at value) _ _ (λ reply. written-by-to k reply value)

read-spot-to : (k : ℕ) (spot : Spot) → SameTo k (read_spot spot) (read_spot spot)
read-spot-to k (LocalSpot number) vs tape le = record { one = refl; within = omega arith }
read-spot-to k (StaticSpot at) vs tape le = get-to k at vs tape le
read-spot-to k (FieldSpot object slot) vs tape le = object-to k object _ _ (λ o. get-to k _) vs tape le
read-spot-to k (ElementSpot array index) vs tape le = object-to k array _ _ (λ o. get-to k _) vs tape le

write-spot-to : (k : ℕ) (spot : Spot) (value : Value) → SameTo k (write_spot spot value) (write_spot spot value)
write-spot-to k (LocalSpot number) value vs tape le = record { one = refl; within = omega arith }
write-spot-to k (StaticSpot at) value vs tape le = put-to k at value vs tape le
write-spot-to k (FieldSpot object slot) value vs tape le = object-to k object _ _ (λ o. put-to k _ value) vs tape le
write-spot-to k (ElementSpot array index) value vs tape le = object-to k array _ _ (λ o. put-to k _ value) vs tape le

new-array-to : (k : ℕ) (element : Elem) (size : ℤ) → SameTo k (new_array element size) (new_array element size)
new-array-to k element (pos size) = ask-to k _ _ _ (λ reply. got-to k _)
new-array-to k element (negsuc n) = throws-to k faults.NegativeArraySizeException

act-to : {A : Type 0} (k : ℕ) (deed : Deed) (f g : Going A) → SameTo k f g → SameTo k (act deed f) (act deed g)
act-to k deed f g s = ask-to k deed _ _ (λ reply. s)

illegal-to : {A : Type 0} (k : ℕ) (fault : Fault) (reply : Reply) (go : Going A) → SameTo k go go → SameTo k (unless_illegal fault reply go) (unless_illegal fault reply go)
illegal-to k fault replies.Illegal go s = throws-to k fault
illegal-to k fault _ go s = s

done-to : (k : ℕ) → SameTo k (Got (tt {0})) (Got (tt {0}))
done-to k = got-to k (tt {0})

waits-to : (k : ℕ) (deed : Deed) (o : ObjId) → SameTo k (waits_by deed o) (waits_by deed o)
waits-to k deed o = ask-to k _ _ _ (λ reply. illegal-to k _ reply _ (act-to k _ _ _ (done-to k)))

wait-for-to : (k : ℕ) (time : ℤ) (o : ObjId) → SameTo k (wait_for time o) (wait_for time o)
wait-for-to k (pos zero) o = waits-to k _ o
wait-for-to k (pos (suc n)) o = waits-to k _ o
wait-for-to k (negsuc n) o = throws-to k faults.IllegalArgumentException

call-object-to : (k : ℕ) (called : ObjectCall) (o : ObjId) → SameTo k (call_object called o) (call_object called o)
call-object-to k Wait o = waits-to k _ o
call-object-to k Notify o = ask-to k _ _ _ (λ reply. illegal-to k _ reply _ (done-to k))
call-object-to k NotifyAll o = ask-to k _ _ _ (λ reply. illegal-to k _ reply _ (done-to k))
call-object-to k Start o = ask-to k _ _ _ (λ reply. illegal-to k _ reply _ (done-to k))
call-object-to k Join o = act-to k _ _ _ (done-to k)

-- ---- loops

fall-to : (k : ℕ) (way : Completion) (f g : Going Completion) → SameTo k f g → SameTo k (on_fall way f) (on_fall way g)
fall-to k Falls f g s = s
fall-to k Breaks f g s = got-to k Breaks
fall-to k Continues f g s = got-to k Continues
fall-to k (Returns value) f g s = got-to k (Returns value)

turn-to : (k : ℕ) (way : Completion) (f g : Going Completion) → SameTo k f g → SameTo k (on_turn way f) (on_turn way g)
turn-to k Falls f g s = s
turn-to k Breaks f g s = got-to k Falls
turn-to k Continues f g s = s
turn-to k (Returns value) f g s = got-to k (Returns value)

-- one turn, where what follows its Back is the same
one-turn-to : (k : ℕ) (t t' : Going Value) (b b' : Going Completion) (u u' : Going (Unit {0})) (again again' : Going Completion) → SameTo k t t' → SameTo k b b' → SameTo k u u' →
    SameTo k (act deeds.Back again) (act deeds.Back again') →
    SameTo k (one_turn t b u again) (one_turn t' b' u' again')
one-turn-to k t t' b b' u u' again again' st sb su sa =
    then-to k t t' _ _ st (λ x. if-to k (truth_of x) _ _ _ _ (then-to k b b' _ _ sb (λ way. turn-to k way _ _ (then-to k u u' _ _ su (λ done. sa)))) (got-to k Falls))

turns-to : (k m n : ℕ) (t t' : Going Value) (b b' : Going Completion) (u u' : Going (Unit {0})) → k < m → k < n → SameTo k t t' → SameTo k b b' → SameTo k u u' → SameTo k (turns m t b u) (turns n t' b' u')
turns-to k zero n t t' b b' u u' km kn st sb su = absurd (omega arith)
turns-to k (suc m) zero t t' b b' u u' km kn st sb su = absurd (omega arith)
turns-to zero (suc m) (suc n) t t' b b' u u' km kn st sb su = one-turn-to zero t t' b b' u u' _ _ st sb su (ask-none deeds.Back _ _)
turns-to (suc k) (suc m) (suc n) t t' b b' u u' km kn st sb su =
    one-turn-to (suc k) t t' b b' u u' _ _ st sb su (ask-less k deeds.Back _ _ (λ reply. turns-to k m n t t' b b' u u' (omega arith) (omega arith)
    (less-to k (suc k) t t' (omega arith) st) (less-to k (suc k) b b' (omega arith) sb) (less-to k (suc k) u u' (omega arith) su)))

one-do-turn-to : (k : ℕ) (t t' : Going Value) (b b' again again' : Going Completion) → SameTo k t t' → SameTo k b b' → SameTo k (act deeds.Back again) (act deeds.Back again') →
    SameTo k (one_do_turn t b again) (one_do_turn t' b' again')
one-do-turn-to k t t' b b' again again' st sb sa =
    then-to k b b' _ _ sb (λ way. turn-to k way _ _ (then-to k t t' _ _ st (λ x. if-to k (truth_of x) _ _ _ _ sa (got-to k Falls))))

do-turns-to : (k m n : ℕ) (t t' : Going Value) (b b' : Going Completion) → k < m → k < n → SameTo k t t' → SameTo k b b' → SameTo k (do_turns m t b) (do_turns n t' b')
do-turns-to k zero n t t' b b' km kn st sb = absurd (omega arith)
do-turns-to k (suc m) zero t t' b b' km kn st sb = absurd (omega arith)
do-turns-to zero (suc m) (suc n) t t' b b' km kn st sb = one-do-turn-to zero t t' b b' _ _ st sb (ask-none deeds.Back _ _)
do-turns-to (suc k) (suc m) (suc n) t t' b b' km kn st sb =
    one-do-turn-to (suc k) t t' b b' _ _ st sb (ask-less k deeds.Back _ _ (λ reply. do-turns-to k m n t t' b b' (omega arith) (omega arith)
    (less-to k (suc k) t t' (omega arith) st) (less-to k (suc k) b b' (omega arith) sb)))

-- ---- ways out

throw-own : (n k : ℕ) (o : Out Completion) (f g : Fault → Going Completion) → n ≤ k → Within n o → ((fault : Fault) → SameTo k (f fault) (g fault)) → Same n (on_throw o f) (on_throw o g)
throw-own n k (Got way vs tape) f g le h rest = record { one = refl; within = h }
throw-own n k (Threw fault vs tape) f g le h rest = same-widen (length tape) n _ _ h (rest fault vs tape (omega arith))
throw-own n k (Stops deed) f g le h rest = record { one = refl; within = tt }
throw-own n k NoTurns f g le h rest = absurd h

same-throw : (n k : ℕ) (o p : Out Completion) (f g : Fault → Going Completion) → n ≤ k → Same n o p → ((fault : Fault) → SameTo k (f fault) (g fault)) → Same n (on_throw o f) (on_throw p g)
same-throw n k o p f g le s rest = subst (λ q. Same n (on_throw o f) (on_throw q g)) s.one (throw-own n k o f g le s.within rest)

leave-own : (n : ℕ) (object : ObjId) (o : Out Completion) → Within n o → Within n (on_leave object o)
leave-own n object (Got way vs tape) h =
    widen (length tape) n _ h (act-to (length tape) _ _ _ (got-to (length tape) way) vs tape (omega arith)).within
leave-own n object (Threw fault vs tape) h =
    widen (length tape) n _ h (act-to (length tape) _ _ _ (throws-to (length tape) fault) vs tape (omega arith)).within
leave-own n object (Stops deed) h = tt
leave-own n object NoTurns h = h

same-leave : (n : ℕ) (object : ObjId) (o p : Out Completion) → Same n o p → Same n (on_leave object o) (on_leave object p)
same-leave n object o p s =
    subst (λ q. Same n (on_leave object o) (on_leave object q)) s.one (record { one = refl; within = leave-own n object o s.within })

-- ---- two frames of one method that differ in their calls and in their bound on turns

-- what calls do is the same over at most k replies
abbrev pub SameCalls : ℕ → Calls → Calls → Type 0
SameCalls k calls others =
    (m : MethodId) (this : Option ObjId) (arguments : List Value) → SameTo k (calls m this arguments) (others m this arguments)

module _ (program : Program) (method : MethodId) (this : Option ObjId) (k : ℕ) (calls others : Calls) (m n : ℕ) (km : k < m) (kn : k < n) (agree : SameCalls k calls others) where
  abbrev f : Context
  f = context_of program method this calls m

  abbrev g : Context
  g = context_of program method this others n

  made-to : (c : Option MethodId) (o : ObjId) (arguments : List Value) →
      SameTo k (option_map_or (λ constructor. calls constructor (Some o) arguments) c (Got None)) (option_map_or (λ constructor. others constructor (Some o) arguments) c (Got None))
  made-to None o arguments = got-to k None
  made-to (Some constructor) o arguments = agree constructor (Some o) arguments

  construct-to : (class : ClassId) (o : ObjId) (arguments : List Value) → SameTo k (construct f class o arguments) (construct g class o arguments)
  construct-to class o arguments = made-to (constructor_of program class) o arguments

  mutual
    eval-to : (e : Expr) → SameTo k (eval f e) (eval g e)
    eval-to (Number w x) vs tape le = got-to k _ vs tape le
    eval-to (Truth b) vs tape le = got-to k _ vs tape le
    eval-to Null vs tape le = got-to k _ vs tape le
    eval-to This vs tape le = got-to k _ vs tape le
    eval-to (ClassObject class) vs tape le = got-to k _ vs tape le
    eval-to (Read v) vs tape le = then-to k (locate f v) (locate g v) _ _ (locate-to v) (read-spot-to k) vs tape le
    eval-to (LengthOf e) vs tape le =
        then-to k (eval f e) (eval g e) _ _ (eval-to e) (λ array. object-to k array _ _ (λ o. ask-to k _ _ _ (read-by-to k))) vs tape le
    eval-to (Convert w e) vs tape le = then-to k (eval f e) (eval g e) _ _ (eval-to e) (λ x. got-to k _) vs tape le
    eval-to (Unary operator e) vs tape le = then-to k (eval f e) (eval g e) _ _ (eval-to e) (λ x. got-to k _) vs tape le
    eval-to (Binary operator a b) vs tape le =
        then-to k (eval f a) (eval g a) _ _ (eval-to a) (λ x. then-to k (eval f b) (eval g b) _ _ (eval-to b) (λ y. divisor-to k (binary_value operator x y))) vs tape le
    eval-to (And a b) vs tape le =
        then-to k (eval f a) (eval g a) _ _ (eval-to a) (λ x. if-to k (truth_of x) _ _ _ _ (eval-to b) (got-to k _)) vs tape le
    eval-to (Or a b) vs tape le =
        then-to k (eval f a) (eval g a) _ _ (eval-to a) (λ x. if-to k (truth_of x) _ _ _ _ (got-to k _) (eval-to b)) vs tape le
    eval-to (Choice c a b) vs tape le =
        then-to k (eval f c) (eval g c) _ _ (eval-to c) (λ x. if-to k (truth_of x) _ _ _ _ (eval-to a) (eval-to b)) vs tape le
    eval-to (Assign v e) vs tape le =
        then-to k (locate f v) (locate g v) _ _ (locate-to v) (λ spot. then-to k (eval f e) (eval g e) _ _ (eval-to e) (write-spot-to k spot)) vs tape le
    eval-to (Compound operator narrows v e) vs tape le =
        then-to k (locate f v) (locate g v) _ _ (locate-to v) (λ spot.
        then-to k (read_spot spot) (read_spot spot) _ _ (read-spot-to k spot) (λ old.
        then-to k (eval f e) (eval g e) _ _ (eval-to e) (λ x.
        then-to k (or_zero_divisor (binary_value operator (promoted narrows old) x)) _ _ _ (divisor-to k (binary_value operator (promoted narrows old) x)) (λ new. write-spot-to k spot _)))) vs tape le
    eval-to (PrefixIncrement w v by) vs tape le =
        then-to k (locate f v) (locate g v) _ _ (locate-to v) (λ spot.
        then-to k (read_spot spot) (read_spot spot) _ _ (read-spot-to k spot) (λ old. write-spot-to k spot _)) vs tape le
    eval-to (PostfixIncrement w v by) vs tape le =
        then-to k (locate f v) (locate g v) _ _ (locate-to v) (λ spot.
        then-to k (read_spot spot) (read_spot spot) _ _ (read-spot-to k spot) (λ old.
        then-to k _ _ _ _ (write-spot-to k spot _) (λ new. got-to k old))) vs tape le
    eval-to (ResultOf c) vs tape le = then-to k (invoke f c) (invoke g c) _ _ (invoke-to c) (λ result. got-to k _) vs tape le
    eval-to (NewObject class es) vs tape le =
        ask-to k _ _ _ (λ reply.
        then-to k (eval_all f es) (eval_all g es) _ _ (all-to es) (λ arguments.
        then-to k _ _ _ _ (construct-to class (object_made reply) arguments) (λ result. got-to k _))) vs tape le
    eval-to NewPlain vs tape le = ask-to k _ _ _ (λ reply. got-to k _) vs tape le
    eval-to (NewThread e) vs tape le =
        ask-to k _ _ _ (λ reply.
        then-to k (eval f e) (eval g e) _ _ (eval-to e) (λ runnable.
        then-to k _ _ _ _ (put-to k _ runnable) (λ value. got-to k _))) vs tape le
    eval-to (NewArray element e) vs tape le =
        then-to k (eval f e) (eval g e) _ _ (eval-to e) (λ size. new-array-to k element (number_of size)) vs tape le

    locate-to : (v : Variable) → SameTo k (locate f v) (locate g v)
    locate-to (Local number) vs tape le = got-to k _ vs tape le
    locate-to (StaticField field) vs tape le = got-to k _ vs tape le
    locate-to (FieldOf e field) vs tape le = then-to k (eval f e) (eval g e) _ _ (eval-to e) (λ object. got-to k _) vs tape le
    locate-to (ElementOf element a i) vs tape le =
        then-to k (eval f a) (eval g a) _ _ (eval-to a) (λ array. then-to k (eval f i) (eval g i) _ _ (eval-to i) (λ index. got-to k _)) vs tape le

    invoke-to : (c : Call) → SameTo k (invoke f c) (invoke g c)
    invoke-to (CallStatic called es) vs tape le =
        then-to k (eval_all f es) (eval_all g es) _ _ (all-to es) (agree called None) vs tape le
    invoke-to (CallOn e called es) vs tape le =
        then-to k (eval f e) (eval g e) _ _ (eval-to e) (λ receiver.
        then-to k (eval_all f es) (eval_all g es) _ _ (all-to es) (λ arguments. object-to k receiver _ _ (λ o. agree called (Some o) arguments))) vs tape le

    all-to : (es : Exprs) → SameTo k (eval_all f es) (eval_all g es)
    all-to no_more vs tape le = got-to k _ vs tape le
    all-to (and_then e es) vs tape le =
        then-to k (eval f e) (eval g e) _ _ (eval-to e) (λ x. then-to k (eval_all f es) (eval_all g es) _ _ (all-to es) (λ xs. got-to k _)) vs tape le

  shown-to : (parts : List Part) → SameTo k (shown f parts) (shown g parts)
  shown-to [] vs tape le = got-to k _ vs tape le
  shown-to (Literal text ∷ parts) vs tape le = then-to k (shown f parts) (shown g parts) _ _ (shown-to parts) (λ rest. got-to k _) vs tape le
  shown-to (Shown e ∷ parts) vs tape le =
      then-to k (eval f e) (eval g e) _ _ (eval-to e) (λ x. then-to k (shown f parts) (shown g parts) _ _ (shown-to parts) (λ rest. got-to k _)) vs tape le

  perform-to : (effect : Effect) → SameTo k (perform f effect) (perform g effect)
  perform-to (Evaluate e) vs tape le = then-to k (eval f e) (eval g e) _ _ (eval-to e) (λ x. done-to k) vs tape le
  perform-to (Invoke c) vs tape le = then-to k (invoke f c) (invoke g c) _ _ (invoke-to c) (λ result. done-to k) vs tape le
  perform-to (CallObject called e) vs tape le =
      then-to k (eval f e) (eval g e) _ _ (eval-to e) (λ object. object-to k object _ _ (call-object-to k called)) vs tape le
  perform-to (WaitFor e t) vs tape le =
      then-to k (eval f e) (eval g e) _ _ (eval-to e) (λ object.
      then-to k (eval f t) (eval g t) _ _ (eval-to t) (λ time. object-to k object _ _ (wait-for-to k (number_of time)))) vs tape le
  perform-to Yield vs tape le = act-to k _ _ _ (done-to k) vs tape le
  perform-to (Sleep e) vs tape le =
      then-to k (eval f e) (eval g e) _ _ (eval-to e) (λ time. if-to k (is_negative (number_of time)) _ _ _ _ (throws-to k _) (act-to k _ _ _ (done-to k))) vs tape le

  perform-all-to : (effects : List Effect) → SameTo k (perform_all f effects) (perform_all g effects)
  perform-all-to [] vs tape le = done-to k vs tape le
  perform-all-to (effect ∷ effects) vs tape le =
      then-to k (perform f effect) (perform g effect) _ _ (perform-to effect) (λ done. perform-all-to effects) vs tape le

  mutual
    exec-to : (s : Statement) → SameTo k (exec f s) (exec g s)
    exec-to Skip vs tape le = got-to k _ vs tape le
    exec-to (Then a b) vs tape le =
        then-to k (exec f a) (exec g a) _ _ (exec-to a) (λ way. fall-to k way _ _ (exec-to b)) vs tape le
    exec-to (Declare number e) vs tape le = then-to k (eval f e) (eval g e) _ _ (eval-to e) (λ x vs tape le. record { one = refl; within = omega arith }) vs tape le
    exec-to (Do effect) vs tape le = then-to k (perform f effect) (perform g effect) _ _ (perform-to effect) (λ done. got-to k _) vs tape le
    exec-to (If c a b) vs tape le =
        then-to k (eval f c) (eval g c) _ _ (eval-to c) (λ x. if-to k (truth_of x) _ _ _ _ (exec-to a) (exec-to b)) vs tape le
    exec-to (Loop c u b) vs tape le =
        turns-to k m n (eval f c) (eval g c) (exec f b) (exec g b) (perform_all f u) (perform_all g u) km kn (eval-to c) (exec-to b) (perform-all-to u) vs tape le
    exec-to (DoLoop b c) vs tape le =
        do-turns-to k m n (eval f c) (eval g c) (exec f b) (exec g b) km kn (eval-to c) (exec-to b) vs tape le
    exec-to Break vs tape le = got-to k _ vs tape le
    exec-to Continue vs tape le = got-to k _ vs tape le
    exec-to Return vs tape le = got-to k _ vs tape le
    exec-to (ReturnValue e) vs tape le = then-to k (eval f e) (eval g e) _ _ (eval-to e) (λ x. got-to k _) vs tape le
    exec-to (Throw fault) vs tape le = throws-to k fault vs tape le
    exec-to (ThrowCaught number) vs tape le = throws-to k _ vs tape le
    exec-to (Try b cs) vs tape le =
        same-throw (length tape) k (exec f b vs tape) (exec g b vs tape) _ _ le (exec-to b vs tape le) (handle-to cs)
    exec-to (Synchronized e b) vs tape le =
        then-to k (eval f e) (eval g e) _ _ (eval-to e) (λ object. object-to k object _ _ (λ o. act-to k _ _ _ (λ vs tape le.
        same-leave (length tape) o (exec f b vs tape) (exec g b vs tape) (exec-to b vs tape le)))) vs tape le
    exec-to (Commit s) vs tape le = act-to k _ _ _ (exec-to s) vs tape le
    exec-to (Println parts) vs tape le =
        then-to k (shown f parts) (shown g parts) _ _ (shown-to parts) (λ all. act-to k _ _ _ (got-to k _)) vs tape le
    exec-to (Assert clause scope) vs tape le = act-to k _ _ _ (got-to k _) vs tape le

    handle-to : (cs : Catches) (fault : Fault) → SameTo k (handle f cs fault) (handle g cs fault)
    handle-to no_catch fault vs tape le = throws-to k fault vs tape le
    handle-to (or_catch caught number s rest) fault vs tape le =
        if-to k (catches caught fault) _ _ _ _ (λ vs tape le. exec-to s _ tape le) (handle-to rest fault) vs tape le

-- ---- calls

exiting-to : {A : Type 0} (k : ℕ) (monitor : Option ObjId) (f g : Going A) → SameTo k f g → SameTo k (exiting monitor f) (exiting monitor g)
exiting-to k None f g s = s
exiting-to k (Some o) f g s = ask-to k _ _ _ (λ reply. s)

end-own : (n : ℕ) (m : MethodId) (kind : Option SlotKind) (monitor : Option ObjId) (vs : Variables) (o : Out Completion) → Within n o → Within n (end_call m kind monitor vs o)
end-own n m kind monitor vs (Got way inner tape) h =
    let l = length tape in
    widen l n (end_call m kind monitor vs (Got way inner tape)) h (ask-to l _ _ _ (λ reply. exiting-to l monitor _ _ (got-to l (result_of kind way))) vs tape (omega arith)).within
end-own n m kind monitor vs (Threw fault inner tape) h =
    let l = length tape in
    widen l n (end_call m kind monitor vs (Threw fault inner tape)) h (ask-to l _ _ _ (λ reply. exiting-to l monitor _ _ (throws-to l fault)) vs tape (omega arith)).within
end-own n m kind monitor vs (Stops deed) h = tt
end-own n m kind monitor vs NoTurns h = h

same-end : (n : ℕ) (m : MethodId) (kind : Option SlotKind) (monitor : Option ObjId) (vs : Variables) (o p : Out Completion) → Same n o p →
    Same n (end_call m kind monitor vs o) (end_call m kind monitor vs p)
same-end n m kind monitor vs o p s =
    subst (λ q. Same n (end_call m kind monitor vs o) (end_call m kind monitor vs q)) s.one (record { one = refl; within = end-own n m kind monitor vs o s.within })

body-to : (program : Program) (m : MethodId) (this : Option ObjId) (k : ℕ) (calls others : Calls) (a b : ℕ) → k < a → k < b → SameCalls k calls others →
    (method : Option Method) (arguments : List Value) (tape : Tape) → length tape ≤ k →
    Same (length tape) (run_body (context_of program m this calls a) method arguments tape) (run_body (context_of program m this others b) method arguments tape)
body-to program m this k calls others a b ka kb agree None arguments tape le = record { one = refl; within = omega arith }
body-to program m this k calls others a b ka kb agree (Some method) arguments tape le =
    exec-to program m this k calls others a b ka kb agree method.body _ tape le

-- a call takes a reply more than what stands in it
called-to : (program : Program) (m : MethodId) (this : Option ObjId) (k : ℕ) (calls others : Calls) (a b : ℕ) → k < a → k < b → SameCalls k calls others →
    (kind : Option SlotKind) (monitor : Option ObjId) (method : Option Method) (arguments : List Value) →
    SameTo (suc k)
    (ask (deeds.Call m this arguments) (λ reply vs tape. end_call m kind monitor vs (run_body (context_of program m this calls a) method arguments tape)))
    (ask (deeds.Call m this arguments) (λ reply vs tape. end_call m kind monitor vs (run_body (context_of program m this others b) method arguments tape)))
called-to program m this k calls others a b ka kb agree kind monitor method arguments =
    ask-less k _ _ _ (λ reply vs tape le. same-end (length tape) m kind monitor vs _ _ (body-to program m this k calls others a b ka kb agree method arguments tape le))

entering-to : {A : Type 0} (k : ℕ) (monitor : Option ObjId) (f g : Going A) → SameTo k f g → SameTo k (entering monitor f) (entering monitor g)
entering-to k None f g s = s
entering-to k (Some o) f g s = ask-to k _ _ _ (λ reply. s)

call-with-to : (program : Program) (k : ℕ) (calls others : Calls) (a b : ℕ) → k < a → k < b → SameCalls k calls others →
    SameCalls (suc k) (call_with program calls a) (call_with program others b)
call-with-to program k calls others a b ka kb agree m this arguments =
    let monitor = monitor_of (method_at program m) this in
    entering-to (suc k) monitor _ _ (called-to program m this k calls others a b ka kb agree (result_kind (method_at program m)) monitor (method_at program m) arguments)

call-with-none : (program : Program) (calls others : Calls) (a b : ℕ) → SameCalls zero (call_with program calls a) (call_with program others b)
call-with-none program calls others a b m this arguments =
    entering-to zero (monitor_of (method_at program m) this) _ _ (ask-none _ _ _)

-- any two bounds past the number of replies agree
pub bounds-agree : (program : Program) (a b k : ℕ) → k < a → k < b → SameCalls k (bounded_call program a) (bounded_call program b)
bounds-agree program zero b k ka kb m this arguments vs tape le = absurd (omega arith)
bounds-agree program (suc a) zero k ka kb m this arguments vs tape le = absurd (omega arith)
bounds-agree program (suc a) (suc b) zero ka kb m this arguments vs tape le =
    call-with-none program (bounded_call program a) (bounded_call program b) a b m this arguments vs tape le
bounds-agree program (suc a) (suc b) (suc k) ka kb m this arguments vs tape le =
    call-with-to program k (bounded_call program a) (bounded_call program b) a b (omega arith) (omega arith) (bounds-agree program a b k (omega arith) (omega arith)) m this arguments vs tape le

-- a bounded call is the call, where the bound is past the number of replies
pub calls-same : (program : Program) (a k : ℕ) → k < a → SameCalls k (bounded_call program a) (call program)
calls-same program a k ka m this arguments vs tape le =
    bounds-agree program a (suc (length tape)) (length tape) (omega arith) (omega arith) m this arguments vs tape (omega arith)

-- calls are the same as themselves
pub call-to : (program : Program) (k : ℕ) → SameCalls k (call program) (call program)
call-to program k m this arguments vs tape le =
    bounds-agree program (suc (length tape)) (suc (length tape)) (length tape) (omega arith) (omega arith) m this arguments vs tape (omega arith)

-- a call is its monitor, Call, the body, Leave and the monitor, with no bound on calls
pub call-whole : (program : Program) (n : ℕ) (m : MethodId) (this : Option ObjId) (arguments : List Value) (vs : Variables) (tape : Tape) → length tape ≤ n →
    call program m this arguments vs tape ≡ call_with program (call program) n m this arguments vs tape
call-whole program n m this arguments vs [] le =
    (call-with-none program (bounded_call program zero) (call program) zero n m this arguments vs [] (omega arith)).one
call-whole program n m this arguments vs (reply ∷ tape) le =
    let k = length tape in
    (call-with-to program k (bounded_call program (suc k)) (call program) (suc k) n (omega arith) (omega arith) (calls-same program (suc k) k (omega arith)) m this arguments vs (reply ∷ tape) (omega arith)).one

ending-sure : {A : Type 0} (k : ℕ) (o : Out A) → Within k o → ending o ≢ NoTurns
ending-sure k (Got value vs []) h e = cc
ending-sure k (Got value vs (reply ∷ tape)) h e = cc
ending-sure k (Threw fault vs []) h e = cc
ending-sure k (Threw fault vs (reply ∷ tape)) h e = cc
ending-sure k (Stops deed) h e = cc
ending-sure k NoTurns h e = h

pub thread-sure : (program : Program) (start : Option Body) (tape : Tape) → thread_run program start tape ≢ NoTurns
thread-sure program None tape = ending-sure (length tape) (Got (tt {0}) [] tape) (omega arith)
thread-sure program (Some start) tape =
    ending-sure (length tape) (call program start.method start.this [] [] tape) (call-to program (length tape) start.method start.this [] [] tape (omega arith)).within

-- ---- loops, with no bound on turns

module _ (program : Program) (m : MethodId) (this : Option ObjId) (n : ℕ) where
  abbrev context : Context
  context = running program m this n

  eval-same : (k : ℕ) → k < n → (e : Expr) → SameTo k (eval context e) (eval context e)
  eval-same k kn e = eval-to program m this k (call program) (call program) n n kn kn (call-to program k) e

  exec-same : (k : ℕ) → k < n → (s : Statement) → SameTo k (exec context s) (exec context s)
  exec-same k kn s = exec-to program m this k (call program) (call program) n n kn kn (call-to program k) s

  update-same : (k : ℕ) → k < n → (effects : List Effect) → SameTo k (perform_all context effects) (perform_all context effects)
  update-same k kn effects = perform-all-to program m this k (call program) (call program) n n kn kn (call-to program k) effects

  -- a loop is a turn, and then the loop
  pub loop-whole : (c : Expr) (u : List Effect) (b : Statement) (vs : Variables) (tape : Tape) → length tape < n →
      exec context (Loop c u b) vs tape ≡ one_turn (eval context c) (exec context b) (perform_all context u) (exec context (Loop c u b)) vs tape
  loop-whole c u b vs tape lt = (turn-whole (length tape) n lt lt c u b vs tape (omega arith)).one where
    turn-whole : (k a : ℕ) → k < a → k < n → (c : Expr) (u : List Effect) (b : Statement) →
        SameTo k (turns a (eval context c) (exec context b) (perform_all context u)) (one_turn (eval context c) (exec context b) (perform_all context u) (turns n (eval context c) (exec context b) (perform_all context u)))
    turn-whole k zero ka kn c u b = absurd (omega arith)
    turn-whole zero (suc a) ka kn c u b =
        one-turn-to zero _ _ _ _ _ _ _ _ (eval-same zero kn c) (exec-same zero kn b) (update-same zero kn u) (ask-none deeds.Back _ _)
    turn-whole (suc k) (suc a) ka kn c u b =
        one-turn-to (suc k) _ _ _ _ _ _ _ _ (eval-same (suc k) kn c) (exec-same (suc k) kn b) (update-same (suc k) kn u) (ask-less k deeds.Back _ _ (λ reply.
        turns-to k a n _ _ _ _ _ _ (omega arith) (omega arith) (eval-same k (omega arith) c) (exec-same k (omega arith) b) (update-same k (omega arith) u)))

  pub do-loop-whole : (c : Expr) (b : Statement) (vs : Variables) (tape : Tape) → length tape < n →
      exec context (DoLoop b c) vs tape ≡ one_do_turn (eval context c) (exec context b) (exec context (DoLoop b c)) vs tape
  do-loop-whole c b vs tape lt = (turn-whole (length tape) n lt lt c b vs tape (omega arith)).one where
    turn-whole : (k a : ℕ) → k < a → k < n → (c : Expr) (b : Statement) →
        SameTo k (do_turns a (eval context c) (exec context b)) (one_do_turn (eval context c) (exec context b) (do_turns n (eval context c) (exec context b)))
    turn-whole k zero ka kn c b = absurd (omega arith)
    turn-whole zero (suc a) ka kn c b =
        one-do-turn-to zero _ _ _ _ _ _ (eval-same zero kn c) (exec-same zero kn b) (ask-none deeds.Back _ _)
    turn-whole (suc k) (suc a) ka kn c b =
        one-do-turn-to (suc k) _ _ _ _ _ _ (eval-same (suc k) kn c) (exec-same (suc k) kn b) (ask-less k deeds.Back _ _ (λ reply.
        do-turns-to k a n _ _ _ _ (omega arith) (omega arith) (eval-same k (omega arith) c) (exec-same k (omega arith) b)))
