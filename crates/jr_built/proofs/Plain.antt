-- What a built program asks: a piece that stops, stops at an action that has to do with no monitor and no other thread.
use Rattle.std.proofs.Common.{◌≡◌, ℕ, zero, suc, ℤ, pos, negsuc, Bool, true, false, not, ◌&&◌, List, [], ◌∷◌, length, Option, Some, None, slice_set, refl, sym, ap, subst, ◌∙◌}
use Rattle.std.specs.List.{list_all}
use Rattle.std.specs.Option.{option_map_or}
use Rattle.std.specs.Int.{is_negative}
use Rattle.std.proofs.lemmas.Bool.{and_parts, true≢false}
use Rattle.jr_base.specs.Deed.{Deed}
use Rattle.jr_base.specs.Deed as deeds
use Rattle.jr_base.specs.Threads.{Wants, Tape, object_made}
use Rattle.jr_base.specs.declared.number.MethodId.{MethodId}
use Rattle.jr_base.specs.declared.number.ObjId.{ObjId}
use Rattle.jr_base.specs.declared.action.Body.{Body}
use Rattle.jr_base.specs.declared.action.Reply.{Reply}
use Rattle.jr_base.specs.declared.action.Reply.TheVariants as replies
use Rattle.jr_base.specs.declared.action.LeaveHow.TheVariants.{Normal, Abrupt}
use Rattle.jr_base.specs.declared.action.Elem.{Elem}
use Rattle.jr_base.specs.declared.action.NewKind.TheVariants as kinds
use Rattle.jr_base.specs.declared.value.Value.{Value}
use Rattle.jr_base.specs.declared.value.Value.TheVariants as values
use Rattle.jr_base.specs.declared.value.Cell.{Cell}
use Rattle.jr_base.specs.declared.finish.Fault.{Fault}
use Rattle.jr_base.specs.declared.finish.Fault.TheVariants as faults
use Rattle.jr_base.specs.declared.kind.SlotKind.{SlotKind}
use Rattle.jr_base.specs.Content.{Caught}
use Rattle.jr_base.specs.Faults.{catches}
use Rattle.jr_arith.specs.Operators.{number_of, truth_of, binary_value}
use Rattle.jr_program.specs.Programs.{Program, Method, constructor_of, method_at}
use Rattle.jr_program.specs.Programs.{Expr, Number, Truth, Null, This, ClassObject, Read, LengthOf, Convert, Unary, Binary, And, Or, Choice, Assign, Compound, PrefixIncrement, PostfixIncrement, ResultOf, NewObject, NewPlain, NewThread, NewArray}
use Rattle.jr_program.specs.Programs.{Variable, Local, StaticField, FieldOf, ElementOf, Call, CallStatic, CallOn, Exprs, no_more, and_then}
use Rattle.jr_program.specs.Programs.{Part, Literal, Shown, Catches, no_catch, or_catch}
use Rattle.jr_program.specs.Programs.{Effect, Evaluate, Invoke, CallObject, WaitFor, Yield, Sleep, Statement, Skip, Then, Declare, Do, If, Loop, DoLoop, Break, Continue, Return, ReturnValue, Throw, ThrowCaught, Try, Synchronized, Commit, Println, Assert}
use Rattle.jr_meaning.specs.Next.{Variables, start_variables, Out, Got, Threw, Stops, NoTurns, Going, then_do, ask, throws, if_so, on_object, or_zero_divisor, read_by, written_by, get, put, Spot, LocalSpot, StaticSpot, FieldSpot, ElementSpot, read_spot, write_spot, Calls, Context, context_of, promoted, narrowed, incremented, construct, new_array, eval, locate, invoke, eval_all, shown, perform, perform_all, Completion, Falls, Breaks, Continues, Returns, on_fall, on_turn, act, turns, do_turns, on_throw, exec, handle, monitor_of, result_kind, result_of, end_call, run_body, call_with, bounded_call, call, ending, thread_run, next_in, next}
use Rattle.jr_built.specs.Built.{expr_is_built, variable_is_built, call_is_built, exprs_are_built, effect_is_built, part_is_built, statement_is_built, catches_are_built, method_is_built, is_built}
use Rattle.jr_built.specs.OneThread.{IsPlain}
use Rattle.jr_built.proofs.Lists.{passes, built-parts}

-- where the piece stops, it stops at such an action
abbrev pub Plainly : {A : Type 0} → Out A → Type 0
Plainly (Got value variables tape) = Unit {0}
Plainly (Threw fault variables tape) = Unit {0}
Plainly (Stops deed) = IsPlain deed
Plainly NoTurns = Unit {0}

abbrev pub AsksPlainly : {A : Type 0} → Going A → Type 0
AsksPlainly f = (vs : Variables) (tape : Tape) → Plainly (f vs tape)

-- ---- pieces

got-plain : {A : Type 0} (x : A) → AsksPlainly (Got x)
got-plain x vs tape = tt

throws-plain : (A : Type 0) (fault : Fault) → AsksPlainly {A = A} (throws fault)
throws-plain A fault vs tape = tt

then-plain : {A B : Type 0} (o : Out A) (go : A → Going B) → Plainly o → ((x : A) → AsksPlainly (go x)) → Plainly (then_do o go)
then-plain (Got x vs tape) go one two = two x vs tape
then-plain (Threw fault vs tape) go one two = tt
then-plain (Stops deed) go one two = one
then-plain NoTurns go one two = tt

ask-plain : {B : Type 0} (deed : Deed) (go : Reply → Going B) → IsPlain deed → ((reply : Reply) → AsksPlainly (go reply)) → AsksPlainly (ask deed go)
ask-plain deed go plain all vs [] = plain
ask-plain deed go plain all vs (reply ∷ tape) = all reply vs tape

act-plain : {A : Type 0} (deed : Deed) (go : Going A) → IsPlain deed → AsksPlainly go → AsksPlainly (act deed go)
act-plain deed go plain all = ask-plain deed (λ reply. go) plain (λ reply. all)

if-plain : {A : Type 0} (b : Bool) (go other : Going A) → AsksPlainly go → AsksPlainly other → AsksPlainly (if_so b go other)
if-plain true go other one two = one
if-plain false go other one two = two

object-plain : {A : Type 0} (value : Value) (go : ObjId → Going A) → ((o : ObjId) → AsksPlainly (go o)) → AsksPlainly (on_object value go)
object-plain (values.Ref o) go all vs tape = all o vs tape
object-plain values.Null go all vs tape = tt
object-plain (values.Int n) go all vs tape = tt
object-plain (values.Long n) go all vs tape = tt
object-plain (values.Bool b) go all vs tape = tt

divisor-plain : (value : Option Value) → AsksPlainly (or_zero_divisor value)
divisor-plain (Some value) vs tape = tt
divisor-plain None vs tape = tt

read-by-plain : (reply : Reply) → AsksPlainly (read_by reply)
read-by-plain (replies.Value value) vs tape = tt
read-by-plain replies.Range vs tape = tt
read-by-plain _ vs tape = tt

written-by-plain : (reply : Reply) (value : Value) → AsksPlainly (written_by reply value)
written-by-plain replies.Range value vs tape = tt
written-by-plain _ value vs tape = tt

get-plain : (at : Cell) → AsksPlainly (get at)
get-plain at = ask-plain (deeds.Get at) read_by tt read-by-plain

put-plain : (at : Cell) (value : Value) → AsksPlainly (put at value)
put-plain at value = ask-plain (deeds.Put at value) _ tt (λ reply. written-by-plain reply value)

read-spot-plain : (spot : Spot) → AsksPlainly (read_spot spot)
read-spot-plain (LocalSpot number) vs tape = tt
read-spot-plain (StaticSpot at) vs tape = get-plain at vs tape
read-spot-plain (FieldSpot object slot) vs tape = object-plain object _ (λ o. get-plain _) vs tape
read-spot-plain (ElementSpot array index) vs tape = object-plain array _ (λ o. get-plain _) vs tape

write-spot-plain : (spot : Spot) (value : Value) → AsksPlainly (write_spot spot value)
write-spot-plain (LocalSpot number) value vs tape = tt
write-spot-plain (StaticSpot at) value vs tape = put-plain at value vs tape
write-spot-plain (FieldSpot object slot) value vs tape = object-plain object _ (λ o. put-plain _ value) vs tape
write-spot-plain (ElementSpot array index) value vs tape = object-plain array _ (λ o. put-plain _ value) vs tape

new-array-plain : (element : Elem) (size : ℤ) → AsksPlainly (new_array element size)
new-array-plain element (pos size) =
    ask-plain (deeds.New (kinds.Array element size)) (λ reply. Got (values.Ref (object_made reply))) tt (λ reply. got-plain (values.Ref (object_made reply)))
new-array-plain element (negsuc n) = throws-plain Value faults.NegativeArraySizeException

-- ---- expressions

abbrev pub CallPlainly : Calls → Type 0
CallPlainly calls = (m : MethodId) (this : Option ObjId) (arguments : List Value) → AsksPlainly (calls m this arguments)

module _ (f : Context) (calls : CallPlainly f.calls) where
  construct-plain : (c : Option MethodId) (o : ObjId) (arguments : List Value) →
      AsksPlainly (option_map_or (λ constructor. f.calls constructor (Some o) arguments) c (Got None))
  construct-plain None o arguments vs tape = tt
  construct-plain (Some constructor) o arguments vs tape = calls constructor (Some o) arguments vs tape

  mutual
    eval-plain : (e : Expr) → expr_is_built e ≡ true → AsksPlainly (eval f e)
    eval-plain (Number w n) b vs tape = tt
    eval-plain (Truth truth) b vs tape = tt
    eval-plain Null b vs tape = tt
    eval-plain This b vs tape = tt
    eval-plain (ClassObject class) b vs tape = tt
    eval-plain (Read v) b vs tape = then-plain (locate f v vs tape) _ (locate-plain v b vs tape) read-spot-plain
    eval-plain (LengthOf e) b vs tape =
        then-plain (eval f e vs tape) _ (eval-plain e b vs tape) (λ array. object-plain array _ (λ o. ask-plain (deeds.Len o) read_by tt read-by-plain))
    eval-plain (Convert w e) b vs tape = then-plain (eval f e vs tape) _ (eval-plain e b vs tape) (λ x vs tape. tt)
    eval-plain (Unary operator e) b vs tape = then-plain (eval f e vs tape) _ (eval-plain e b vs tape) (λ x vs tape. tt)
    eval-plain (Binary operator l r) b vs tape =
        let both = and_parts (expr_is_built l) (expr_is_built r) b in
        then-plain (eval f l vs tape) _ (eval-plain l both.0 vs tape) (λ x vs tape.
        then-plain (eval f r vs tape) _ (eval-plain r both.1 vs tape) (λ y. divisor-plain (binary_value operator x y)))
    eval-plain (And l r) b vs tape =
        let both = and_parts (expr_is_built l) (expr_is_built r) b in
        then-plain (eval f l vs tape) _ (eval-plain l both.0 vs tape) (λ x. if-plain (truth_of x) _ _ (eval-plain r both.1) (λ vs tape. tt))
    eval-plain (Or l r) b vs tape =
        let both = and_parts (expr_is_built l) (expr_is_built r) b in
        then-plain (eval f l vs tape) _ (eval-plain l both.0 vs tape) (λ x. if-plain (truth_of x) _ _ (λ vs tape. tt) (eval-plain r both.1))
    eval-plain (Choice c l r) b vs tape =
        let both = and_parts (expr_is_built c) (expr_is_built l && expr_is_built r) b in
        let rest = and_parts (expr_is_built l) (expr_is_built r) both.1 in
        then-plain (eval f c vs tape) _ (eval-plain c both.0 vs tape) (λ x. if-plain (truth_of x) _ _ (eval-plain l rest.0) (eval-plain r rest.1))
    eval-plain (Assign v e) b vs tape =
        let both = and_parts (variable_is_built v) (expr_is_built e) b in
        then-plain (locate f v vs tape) _ (locate-plain v both.0 vs tape) (λ spot vs tape.
        then-plain (eval f e vs tape) _ (eval-plain e both.1 vs tape) (write-spot-plain spot))
    eval-plain (Compound operator narrows v e) b vs tape =
        let both = and_parts (variable_is_built v) (expr_is_built e) b in
        then-plain (locate f v vs tape) _ (locate-plain v both.0 vs tape) (λ spot vs tape.
        then-plain (read_spot spot vs tape) _ (read-spot-plain spot vs tape) (λ old vs tape.
        then-plain (eval f e vs tape) _ (eval-plain e both.1 vs tape) (λ x vs tape.
        then-plain (or_zero_divisor (binary_value operator (promoted narrows old) x) vs tape) _ (divisor-plain (binary_value operator (promoted narrows old) x) vs tape) (λ new.
        write-spot-plain spot (narrowed narrows new)))))
    eval-plain (PrefixIncrement w v by) b vs tape =
        then-plain (locate f v vs tape) _ (locate-plain v b vs tape) (λ spot vs tape.
        then-plain (read_spot spot vs tape) _ (read-spot-plain spot vs tape) (λ old. write-spot-plain spot _))
    eval-plain (PostfixIncrement w v by) b vs tape =
        then-plain (locate f v vs tape) _ (locate-plain v b vs tape) (λ spot vs tape.
        then-plain (read_spot spot vs tape) _ (read-spot-plain spot vs tape) (λ old vs tape.
        then-plain (write_spot spot (incremented w old by) vs tape) _ (write-spot-plain spot (incremented w old by) vs tape) (λ new vs tape. tt)))
    eval-plain (ResultOf c) b vs tape = then-plain (invoke f c vs tape) _ (invoke-plain c b vs tape) (λ result vs tape. tt)
    eval-plain (NewObject class es) b vs tape =
        ask-plain (deeds.New (kinds.Object class))
        (λ reply vs tape. then_do (eval_all f es vs tape) (λ arguments vs tape. then_do (construct f class (object_made reply) arguments vs tape) (λ result. Got (values.Ref (object_made reply)))))
        tt (λ reply vs tape.
        then-plain (eval_all f es vs tape) _ (all-plain es b vs tape) (λ arguments vs tape.
        then-plain (construct f class (object_made reply) arguments vs tape) _ (construct-plain (constructor_of f.program class) (object_made reply) arguments vs tape) (λ result vs tape. tt))) vs tape
    eval-plain NewPlain b vs tape =
        ask-plain (deeds.New kinds.Plain) (λ reply. Got (values.Ref (object_made reply))) tt (λ reply. got-plain (values.Ref (object_made reply))) vs tape
    eval-plain (NewThread e) b vs tape = absurd (true≢false (sym b))
    eval-plain (NewArray element e) b vs tape = then-plain (eval f e vs tape) _ (eval-plain e b vs tape) (λ size. new-array-plain element (number_of size))

    locate-plain : (v : Variable) → variable_is_built v ≡ true → AsksPlainly (locate f v)
    locate-plain (Local number) b vs tape = tt
    locate-plain (StaticField field) b vs tape = tt
    locate-plain (FieldOf e field) b vs tape = then-plain (eval f e vs tape) _ (eval-plain e b vs tape) (λ object vs tape. tt)
    locate-plain (ElementOf element a i) b vs tape =
        let both = and_parts (expr_is_built a) (expr_is_built i) b in
        then-plain (eval f a vs tape) _ (eval-plain a both.0 vs tape) (λ array vs tape.
        then-plain (eval f i vs tape) _ (eval-plain i both.1 vs tape) (λ index vs tape. tt))

    invoke-plain : (c : Call) → call_is_built c ≡ true → AsksPlainly (invoke f c)
    invoke-plain (CallStatic m es) b vs tape = then-plain (eval_all f es vs tape) _ (all-plain es b vs tape) (calls m None)
    invoke-plain (CallOn e m es) b vs tape =
        let both = and_parts (expr_is_built e) (exprs_are_built es) b in
        then-plain (eval f e vs tape) _ (eval-plain e both.0 vs tape) (λ receiver vs tape.
        then-plain (eval_all f es vs tape) _ (all-plain es both.1 vs tape) (λ arguments. object-plain receiver _ (λ o. calls m (Some o) arguments)))

    all-plain : (es : Exprs) → exprs_are_built es ≡ true → AsksPlainly (eval_all f es)
    all-plain no_more b vs tape = tt
    all-plain (and_then e es) b vs tape =
        let both = and_parts (expr_is_built e) (exprs_are_built es) b in
        then-plain (eval f e vs tape) _ (eval-plain e both.0 vs tape) (λ x vs tape.
        then-plain (eval_all f es vs tape) _ (all-plain es both.1 vs tape) (λ xs vs tape. tt))

  shown-plain : (parts : List Part) → list_all part_is_built parts ≡ true → AsksPlainly (shown f parts)
  shown-plain [] b vs tape = tt
  shown-plain (Literal text ∷ parts) b vs tape = then-plain (shown f parts vs tape) _ (shown-plain parts b vs tape) (λ rest vs tape. tt)
  shown-plain (Shown e ∷ parts) b vs tape =
      let both = and_parts (expr_is_built e) (list_all part_is_built parts) b in
      then-plain (eval f e vs tape) _ (eval-plain e both.0 vs tape) (λ x vs tape.
      then-plain (shown f parts vs tape) _ (shown-plain parts both.1 vs tape) (λ rest vs tape. tt))

  -- ---- statements

  perform-plain : (effect : Effect) → effect_is_built effect ≡ true → AsksPlainly (perform f effect)
  perform-plain (Evaluate e) b vs tape = then-plain (eval f e vs tape) _ (eval-plain e b vs tape) (λ x vs tape. tt)
  perform-plain (Invoke c) b vs tape = then-plain (invoke f c vs tape) _ (invoke-plain c b vs tape) (λ result vs tape. tt)
  perform-plain (CallObject called e) b vs tape = absurd (true≢false (sym b))
  perform-plain (WaitFor e t) b vs tape = absurd (true≢false (sym b))
  perform-plain Yield b vs tape = act-plain deeds.Back (Got (tt {0})) tt (λ vs tape. tt) vs tape
  perform-plain (Sleep e) b vs tape =
      then-plain (eval f e vs tape) _ (eval-plain e b vs tape) (λ time.
      if-plain (is_negative (number_of time)) _ _ (λ vs tape. tt) (act-plain deeds.Back (Got (tt {0})) tt (λ vs tape. tt)))

  perform-all-plain : (effects : List Effect) → list_all effect_is_built effects ≡ true → AsksPlainly (perform_all f effects)
  perform-all-plain [] b vs tape = tt
  perform-all-plain (effect ∷ effects) b vs tape =
      let both = and_parts (effect_is_built effect) (list_all effect_is_built effects) b in
      then-plain (perform f effect vs tape) _ (perform-plain effect both.0 vs tape) (λ done. perform-all-plain effects both.1)

  fall-plain : (way : Completion) (go : Going Completion) → AsksPlainly go → AsksPlainly (on_fall way go)
  fall-plain Falls go all = all
  fall-plain Breaks go all = got-plain Breaks
  fall-plain Continues go all = got-plain Continues
  fall-plain (Returns value) go all = got-plain (Returns value)

  turn-plain : (way : Completion) (go : Going Completion) → AsksPlainly go → AsksPlainly (on_turn way go)
  turn-plain Falls go all = all
  turn-plain Breaks go all = got-plain Falls
  turn-plain Continues go all = all
  turn-plain (Returns value) go all = got-plain (Returns value)

  turns-plain : (n : ℕ) (test : Going Value) (body : Going Completion) (update : Going (Unit {0})) →
      AsksPlainly test → AsksPlainly body → AsksPlainly update → AsksPlainly (turns n test body update)
  turns-plain zero test body update t b u vs tape = tt
  turns-plain (suc n) test body update t b u vs tape =
      then-plain (test vs tape) _ (t vs tape) (λ x. if-plain (truth_of x) _ _
      (λ vs tape. then-plain (body vs tape) _ (b vs tape) (λ way. turn-plain way _ (λ vs tape.
      then-plain (update vs tape) _ (u vs tape) (λ done. act-plain deeds.Back _ tt (turns-plain n test body update t b u)))))
      (λ vs tape. tt))

  do-turns-plain : (n : ℕ) (test : Going Value) (body : Going Completion) → AsksPlainly test → AsksPlainly body → AsksPlainly (do_turns n test body)
  do-turns-plain zero test body t b vs tape = tt
  do-turns-plain (suc n) test body t b vs tape =
      then-plain (body vs tape) _ (b vs tape) (λ way. turn-plain way _ (λ vs tape.
      then-plain (test vs tape) _ (t vs tape) (λ x. if-plain (truth_of x) _ _ (act-plain deeds.Back _ tt (do-turns-plain n test body t b)) (λ vs tape. tt))))

  throw-plain : (o : Out Completion) (go : Fault → Going Completion) → Plainly o → ((fault : Fault) → AsksPlainly (go fault)) → Plainly (on_throw o go)
  throw-plain (Got way vs tape) go one two = tt
  throw-plain (Threw fault vs tape) go one two = two fault vs tape
  throw-plain (Stops deed) go one two = one
  throw-plain NoTurns go one two = tt

  mutual
    exec-plain : (s : Statement) → statement_is_built s ≡ true → AsksPlainly (exec f s)
    exec-plain Skip b vs tape = tt
    exec-plain (Then s t) b vs tape =
        let both = and_parts (statement_is_built s) (statement_is_built t) b in
        then-plain (exec f s vs tape) _ (exec-plain s both.0 vs tape) (λ way. fall-plain way _ (exec-plain t both.1))
    exec-plain (Declare number e) b vs tape = then-plain (eval f e vs tape) _ (eval-plain e b vs tape) (λ x vs tape. tt)
    exec-plain (Do effect) b vs tape = then-plain (perform f effect vs tape) _ (perform-plain effect b vs tape) (λ done vs tape. tt)
    exec-plain (If c s t) b vs tape =
        let both = and_parts (expr_is_built c) (statement_is_built s && statement_is_built t) b in
        let rest = and_parts (statement_is_built s) (statement_is_built t) both.1 in
        then-plain (eval f c vs tape) _ (eval-plain c both.0 vs tape) (λ x. if-plain (truth_of x) _ _ (exec-plain s rest.0) (exec-plain t rest.1))
    exec-plain (Loop c us s) b vs tape =
        let both = and_parts (expr_is_built c) (list_all effect_is_built us && statement_is_built s) b in
        let rest = and_parts (list_all effect_is_built us) (statement_is_built s) both.1 in
        turns-plain f.turns (eval f c) (exec f s) (perform_all f us) (eval-plain c both.0) (exec-plain s rest.1) (perform-all-plain us rest.0) vs tape
    exec-plain (DoLoop s c) b vs tape =
        let both = and_parts (statement_is_built s) (expr_is_built c) b in
        do-turns-plain f.turns (eval f c) (exec f s) (eval-plain c both.1) (exec-plain s both.0) vs tape
    exec-plain Break b vs tape = tt
    exec-plain Continue b vs tape = tt
    exec-plain Return b vs tape = tt
    exec-plain (ReturnValue e) b vs tape = then-plain (eval f e vs tape) _ (eval-plain e b vs tape) (λ x vs tape. tt)
    exec-plain (Throw fault) b vs tape = tt
    exec-plain (ThrowCaught number) b vs tape = tt
    exec-plain (Try s cs) b vs tape =
        let both = and_parts (statement_is_built s) (catches_are_built cs) b in
        throw-plain (exec f s vs tape) _ (exec-plain s both.0 vs tape) (handle-plain cs both.1)
    exec-plain (Synchronized e s) b vs tape = absurd (true≢false (sym b))
    exec-plain (Commit s) b vs tape = act-plain (deeds.Commit f.method) (exec f s) tt (exec-plain s b) vs tape
    exec-plain (Println parts) b vs tape =
        then-plain (shown f parts vs tape) _ (shown-plain parts b vs tape) (λ all. act-plain (deeds.Print all) (Got Falls) tt (λ vs tape. tt))
    exec-plain (Assert clause scope) b vs [] = tt
    exec-plain (Assert clause scope) b vs (reply ∷ tape) = tt

    handle-plain : (cs : Catches) → catches_are_built cs ≡ true → (fault : Fault) → AsksPlainly (handle f cs fault)
    handle-plain no_catch b fault vs tape = tt
    handle-plain (or_catch caught number s rest) b fault vs tape =
        let both = and_parts (statement_is_built s) (catches_are_built rest) b in
        if-plain (catches caught fault) (λ vs. exec f s (slice_set vs number (Caught fault))) (handle f rest fault)
        (λ vs tape. exec-plain s both.0 (slice_set vs number (Caught fault)) tape) (handle-plain rest both.1 fault) vs tape

-- ---- calls

-- the method of that number, if there is one, is built
abbrev MethodBuilt : Option Method → Type 0
MethodBuilt None = Unit {0}
MethodBuilt (Some method) = method_is_built method ≡ true

-- no call takes a monitor
no-monitor : (method : Option Method) (this : Option ObjId) → MethodBuilt method → monitor_of method this ≡ None
no-monitor None this b = refl
no-monitor (Some method) this b = by method.is_synchronized refl
  where
    by : (is : Bool) → method.is_synchronized ≡ is → monitor_of (Some method) this ≡ None
    by false e = rw e refl
    by true e = absurd (true≢false (sym (and_parts (not method.is_synchronized) (statement_is_built method.body) b).0 ∙ ap not e))

end-plain : (m : MethodId) (kind : Option SlotKind) (vs : Variables) (o : Out Completion) → Plainly o → Plainly (end_call m kind None vs o)
end-plain m kind vs (Got way inner tape) h = ask-plain (deeds.Leave m (Normal (result_of kind way))) (λ reply. Got (result_of kind way)) tt (λ reply. got-plain (result_of kind way)) vs tape
end-plain m kind vs (Threw fault inner tape) h = ask-plain (deeds.Leave m Abrupt) (λ reply. throws fault) tt (λ reply. throws-plain (Option Value) fault) vs tape
end-plain m kind vs (Stops deed) h = h
end-plain m kind vs NoTurns h = tt

body-plain : (f : Context) (calls : CallPlainly f.calls) (method : Option Method) → MethodBuilt method → (arguments : List Value) (tape : Tape) → Plainly (run_body f method arguments tape)
body-plain f calls None b arguments tape = tt
body-plain f calls (Some method) b arguments tape =
    exec-plain f calls method.body (and_parts (not method.is_synchronized) (statement_is_built method.body) b).1 (start_variables method arguments) tape

module _ (program : Program) (built : is_built program ≡ true) where
  method-built : (m : MethodId) → MethodBuilt (method_at program m)
  method-built m = by (method_at program m) refl
    where
      by : (method : Option Method) → method_at program m ≡ method → MethodBuilt method
      by None e = tt
      by (Some method) e = passes method_is_built program.methods m.0 method (built-parts program built).1 e

  call-with-plain : (calls : Calls) (n : ℕ) → CallPlainly calls → CallPlainly (call_with program calls n)
  call-with-plain calls n plain m this arguments = rw (no-monitor (method_at program m) this (method-built m)) (ask-plain (deeds.Call m this arguments)
      (λ reply vs tape. end_call m (result_kind (method_at program m)) None vs (run_body (context_of program m this calls n) (method_at program m) arguments tape))
      tt (λ reply vs tape. end-plain m (result_kind (method_at program m)) vs (run_body (context_of program m this calls n) (method_at program m) arguments tape)
      (body-plain (context_of program m this calls n) plain (method_at program m) (method-built m) arguments tape)))

  bounded-plain : (n : ℕ) → CallPlainly (bounded_call program n)
  bounded-plain zero m this arguments vs tape = tt
  bounded-plain (suc n) m this arguments vs tape = call-with-plain (bounded_call program n) n (bounded-plain n) m this arguments vs tape

  ending-plain : {A : Type 0} (o : Out A) → Plainly o → Plainly (ending o)
  ending-plain (Got value vs []) h = tt
  ending-plain (Got value vs (reply ∷ tape)) h = tt
  ending-plain (Threw fault vs []) h = tt
  ending-plain (Threw fault vs (reply ∷ tape)) h = tt
  ending-plain (Stops deed) h = h
  ending-plain NoTurns h = tt

  run-plain : (start : Option Body) (tape : Tape) → Plainly (thread_run program start tape)
  run-plain None tape = ending-plain (Got (tt {0}) [] tape) tt
  run-plain (Some start) tape =
      ending-plain (call program start.method start.this [] [] tape) (bounded-plain (suc (length tape)) start.method start.this [] [] tape)

  wanted-plain : {A : Type 0} (o : Out A) (deed : Deed) → Plainly o → next_in o ≡ Wants deed → IsPlain deed
  wanted-plain (Got value vs tape) deed h e = cc
  wanted-plain (Threw fault vs tape) deed h e = cc
  wanted-plain (Stops other) deed h e = subst IsPlain (same-deed other deed e) h
    where
      same-deed : (a b : Deed) → Wants a ≡ Wants b → a ≡ b
      same-deed a b e = cc
  wanted-plain NoTurns deed h e = cc

  pub asks-plainly : (start : Option Body) (replies : List Reply) (deed : Deed) → next program start replies ≡ Wants deed → IsPlain deed
  asks-plainly start replies deed e = wanted-plain (thread_run program start replies) deed (run-plain start replies) e
