-- How a statement may complete (JLS 14.1): one that always ends never falls through; no `break` leaves the loop around one
-- without a `break` of its own; and one that fits its place breaks and continues only in a loop, and returns as its
-- method says. So a method with a result returns a value wherever it throws nothing.
use Rattle.std.proofs.Common.{inl, inr, ◌≡◌, ◌≢◌, ℕ, zero, suc, Bool, true, false, List, [], ◌∷◌, Option, Some, None, slice_set, refl, sym, subst}
use Rattle.jr_base.specs.Deed.{Deed}
use Rattle.jr_base.specs.Deed as deeds
use Rattle.jr_base.specs.declared.number.MethodId.{MethodId}
use Rattle.jr_base.specs.declared.number.ObjId.{ObjId}
use Rattle.jr_base.specs.declared.kind.SlotKind.{SlotKind}
use Rattle.jr_base.specs.declared.action.Reply.{Reply}
use Rattle.jr_base.specs.declared.action.Way.TheVariants as ways
use Rattle.jr_base.specs.declared.value.Value.{Value}
use Rattle.jr_base.specs.declared.value.Value.TheVariants as values
use Rattle.jr_base.specs.declared.finish.Fault.{Fault}
use Rattle.jr_base.specs.Content.{Caught}
use Rattle.jr_base.specs.Faults.{catches}
use Rattle.jr_arith.specs.Operators.{truth_of}
use Rattle.jr_program.specs.Programs.{Program, Method, method_at, Truth, Catches, no_catch, or_catch}
use Rattle.jr_program.specs.Programs.{Statement, Skip, Then, Declare, Do, If, Loop, DoLoop, Break, Continue, Return, ReturnValue, Throw, ThrowCaught, Try, Synchronized, Commit, Println, Assert}
use Rattle.jr_program.specs.WellFormed.{Scope, in_body_of_loop, Fits, CatchesFit, scope_of, NoBreak, NoBreakIn, AlwaysEnds, AllEnd, EndsAsItMust, WellFormed}
use Rattle.jr_meaning.specs.Next.{Tape, Variables, start_variables, Out, Got, Threw, Stops, NoTurns, Going, then_do, ask, throws, if_so, on_object, Context, eval, shown, perform, perform_all, Completion, Falls, Breaks, Continues, Returns, on_fall, on_turn, act, turns, do_turns, on_throw, on_leave, exec, handle, run_body}

-- where the piece completes, this holds of how
abbrev pub Completes : (Completion → Type 0) → Out Completion → Type 0
Completes P (Got way vs tape) = P way
Completes P (Threw fault vs tape) = Unit {0}
Completes P (Stops deed) = Unit {0}
Completes P NoTurns = Unit {0}

-- not by falling through
abbrev pub Ends : Completion → Type 0
Ends Falls = ⊥
Ends Breaks = Unit {0}
Ends Continues = Unit {0}
Ends (Returns value) = Unit {0}

-- not by a `break`
abbrev pub Unbroken : Completion → Type 0
Unbroken Falls = Unit {0}
Unbroken Breaks = ⊥
Unbroken Continues = Unit {0}
Unbroken (Returns value) = Unit {0}

-- by `break` and `continue` only in a loop, and by `return` as the method's result says
abbrev pub InPlace : Bool → Option SlotKind → Completion → Type 0
InPlace in_loop result Falls = Unit {0}
InPlace in_loop result Breaks = in_loop ≡ true
InPlace in_loop result Continues = in_loop ≡ true
InPlace in_loop result (Returns None) = result ≡ None
InPlace in_loop result (Returns (Some value)) = Unit {0}

-- ---- pieces

module _ (P : Completion → Type 0) where
  then-completes : {A : Type 0} (o : Out A) (go : A → Going Completion) → ((x : A) (vs : Variables) (tape : Tape) → Completes P (go x vs tape)) → Completes P (then_do o go)
  then-completes (Got x vs tape) go all = all x vs tape
  then-completes (Threw fault vs tape) go all = tt
  then-completes (Stops deed) go all = tt
  then-completes NoTurns go all = tt

  ask-completes : (deed : Deed) (go : Reply → Going Completion) (vs : Variables) (tape : Tape) → ((reply : Reply) (tape : Tape) → Completes P (go reply vs tape)) → Completes P (ask deed go vs tape)
  ask-completes deed go vs [] all = tt
  ask-completes deed go vs (reply ∷ tape) all = all reply tape

  act-completes : (deed : Deed) (go : Going Completion) (vs : Variables) (tape : Tape) → ((tape : Tape) → Completes P (go vs tape)) → Completes P (act deed go vs tape)
  act-completes deed go vs tape all = ask-completes deed (λ reply. go) vs tape (λ reply. all)

  if-completes : (b : Bool) (go other : Going Completion) (vs : Variables) (tape : Tape) → Completes P (go vs tape) → Completes P (other vs tape) → Completes P (if_so b go other vs tape)
  if-completes true go other vs tape one two = one
  if-completes false go other vs tape one two = two

  object-completes : (value : Value) (go : ObjId → Going Completion) (vs : Variables) (tape : Tape) → ((o : ObjId) → Completes P (go o vs tape)) → Completes P (on_object value go vs tape)
  object-completes (values.Ref o) go vs tape all = all o
  object-completes values.Null go vs tape all = tt
  object-completes (values.Int n) go vs tape all = tt
  object-completes (values.Long n) go vs tape all = tt
  object-completes (values.Bool b) go vs tape all = tt

  leave-completes : (object : ObjId) (o : Out Completion) → Completes P o → Completes P (on_leave object o)
  leave-completes object (Got way vs tape) h = act-completes (deeds.Exit object) (Got way) vs tape (λ tape. h)
  leave-completes object (Threw fault vs tape) h = act-completes (deeds.Exit object) (throws fault) vs tape (λ tape. tt)
  leave-completes object (Stops deed) h = tt
  leave-completes object NoTurns h = tt

  throw-completes : (o : Out Completion) (go : Fault → Going Completion) → Completes P o → ((fault : Fault) (vs : Variables) (tape : Tape) → Completes P (go fault vs tape)) → Completes P (on_throw o go)
  throw-completes (Got way vs tape) go h all = h
  throw-completes (Threw fault vs tape) go h all = all fault vs tape
  throw-completes (Stops deed) go h all = tt
  throw-completes NoTurns go h all = tt

  synchronized-completes : (o : Out Value) (body : Going Completion) → ((vs : Variables) (tape : Tape) → Completes P (body vs tape)) →
      Completes P (then_do o (λ object. on_object object (λ o. act (deeds.Enter o ways.Block) (λ vs tape. on_leave o (body vs tape)))))
  synchronized-completes o body all =
      then-completes o _ (λ object vs tape. object-completes object _ vs tape (λ o. act-completes (deeds.Enter o ways.Block) (λ vs tape. on_leave o (body vs tape)) vs tape (λ tape. leave-completes o (body vs tape) (all vs tape))))

-- ---- one statement before another

first-ends : (o : Out Completion) (go : Going Completion) → Completes Ends o → Completes Ends (then_do o (λ way. on_fall way go))
first-ends (Got Falls vs tape) go h = absurd h
first-ends (Got Breaks vs tape) go h = tt
first-ends (Got Continues vs tape) go h = tt
first-ends (Got (Returns value) vs tape) go h = tt
first-ends (Threw fault vs tape) go h = tt
first-ends (Stops deed) go h = tt
first-ends NoTurns go h = tt

fall-ends : (way : Completion) (go : Going Completion) (vs : Variables) (tape : Tape) → Completes Ends (go vs tape) → Completes Ends (on_fall way go vs tape)
fall-ends Falls go vs tape h = h
fall-ends Breaks go vs tape h = tt
fall-ends Continues go vs tape h = tt
fall-ends (Returns value) go vs tape h = tt

-- what holds of both
both-complete : (P : Completion → Type 0) (o : Out Completion) (go : Going Completion) → Completes P o → ((vs : Variables) (tape : Tape) → Completes P (go vs tape)) →
    Completes P (then_do o (λ way. on_fall way go))
both-complete P (Got Falls vs tape) go h all = all vs tape
both-complete P (Got Breaks vs tape) go h all = h
both-complete P (Got Continues vs tape) go h all = h
both-complete P (Got (Returns value) vs tape) go h all = h
both-complete P (Threw fault vs tape) go h all = tt
both-complete P (Stops deed) go h all = tt
both-complete P NoTurns go h all = tt

-- ---- loops

module _ (Q P : Completion → Type 0) (on : (way : Completion) (go : Going Completion) (vs : Variables) (tape : Tape) → Q way → Completes P (go vs tape) → Completes P (on_turn way go vs tape)) where
  body-completes : (o : Out Completion) (go : Going Completion) → Completes Q o → ((vs : Variables) (tape : Tape) → Completes P (go vs tape)) → Completes P (then_do o (λ way. on_turn way go))
  body-completes (Got way vs tape) go h all = on way go vs tape h (all vs tape)
  body-completes (Threw fault vs tape) go h all = tt
  body-completes (Stops deed) go h all = tt
  body-completes NoTurns go h all = tt

  module _ (body : Going Completion) (all : (vs : Variables) (tape : Tape) → Completes Q (body vs tape)) where
    -- where the loop may be left by its condition, or that is `true`
    turns-complete : (n : ℕ) (test : Going Value) (update : Going (Unit {0})) →
        ((go : Going Completion) (vs : Variables) (tape : Tape) → ((vs : Variables) (tape : Tape) → Completes P (go vs tape)) → Completes P (then_do (test vs tape) (λ x. if_so (truth_of x) go (Got Falls)))) →
        (vs : Variables) (tape : Tape) → Completes P (turns n test body update vs tape)
    turns-complete zero test update if-true vs tape = tt
    turns-complete (suc n) test update if-true vs tape = if-true _ vs tape (λ vs tape. body-completes (body vs tape) _ (all vs tape)
        (λ vs tape. then-completes P (update vs tape) _ (λ done vs tape. act-completes P deeds.Back (turns n test body update) vs tape (turns-complete n test update if-true vs))))

    do-turns-complete : (n : ℕ) (test : Going Value) →
        ((go : Going Completion) (vs : Variables) (tape : Tape) → ((vs : Variables) (tape : Tape) → Completes P (go vs tape)) → Completes P (then_do (test vs tape) (λ x. if_so (truth_of x) go (Got Falls)))) →
        (vs : Variables) (tape : Tape) → Completes P (do_turns n test body vs tape)
    do-turns-complete zero test if-true vs tape = tt
    do-turns-complete (suc n) test if-true vs tape =
        body-completes (body vs tape) _ (all vs tape) (λ vs tape. if-true _ vs tape (λ vs tape. act-completes P deeds.Back (do_turns n test body) vs tape (do-turns-complete n test if-true vs)))

-- a condition may be false, where the loop may fall through
may-be-false : (P : Completion → Type 0) → P Falls → (test : Going Value) (go : Going Completion) (vs : Variables) (tape : Tape) → ((vs : Variables) (tape : Tape) → Completes P (go vs tape)) →
    Completes P (then_do (test vs tape) (λ x. if_so (truth_of x) go (Got Falls)))
may-be-false P falls test go vs tape all = then-completes P (test vs tape) _ (λ x vs tape. if-completes P (truth_of x) go (Got Falls) vs tape (all vs tape) falls)

-- a `break` leaves the loop that it stands in, and no other
turn-unbroken : (way : Completion) (go : Going Completion) (vs : Variables) (tape : Tape) → Unit {0} → Completes Unbroken (go vs tape) → Completes Unbroken (on_turn way go vs tape)
turn-unbroken Falls go vs tape u h = h
turn-unbroken Breaks go vs tape u h = tt
turn-unbroken Continues go vs tape u h = h
turn-unbroken (Returns value) go vs tape u h = tt

turn-ends : (way : Completion) (go : Going Completion) (vs : Variables) (tape : Tape) → Unbroken way → Completes Ends (go vs tape) → Completes Ends (on_turn way go vs tape)
turn-ends Falls go vs tape u h = h
turn-ends Breaks go vs tape u h = absurd u
turn-ends Continues go vs tape u h = h
turn-ends (Returns value) go vs tape u h = tt

turn-in-place : (in_loop : Bool) (result : Option SlotKind) (way : Completion) (go : Going Completion) (vs : Variables) (tape : Tape) → InPlace true result way →
    Completes (InPlace in_loop result) (go vs tape) → Completes (InPlace in_loop result) (on_turn way go vs tape)
turn-in-place in_loop result Falls go vs tape u h = h
turn-in-place in_loop result Breaks go vs tape u h = tt
turn-in-place in_loop result Continues go vs tape u h = h
turn-in-place in_loop result (Returns None) go vs tape u h = u
turn-in-place in_loop result (Returns (Some value)) go vs tape u h = tt

-- of anything nothing is said
any-completes : (o : Out Completion) → Completes (λ way. Unit {0}) o
any-completes (Got way vs tape) = tt
any-completes (Threw fault vs tape) = tt
any-completes (Stops deed) = tt
any-completes NoTurns = tt

-- ---- statements

module _ (context : Context) where
  mutual
    unbroken : (s : Statement) → NoBreak s → (vs : Variables) (tape : Tape) → Completes Unbroken (exec context s vs tape)
    unbroken Skip h vs tape = tt
    unbroken (Then a b) h vs tape = both-complete Unbroken (exec context a vs tape) (exec context b) (unbroken a h.0 vs tape) (unbroken b h.1)
    unbroken (Declare number e) h vs tape = then-completes Unbroken (eval context e vs tape) _ (λ x vs tape. tt)
    unbroken (Do effect) h vs tape = then-completes Unbroken (perform context effect vs tape) _ (λ done vs tape. tt)
    unbroken (If c a b) h vs tape = then-completes Unbroken (eval context c vs tape) _ (λ x vs tape. if-completes Unbroken (truth_of x) (exec context a) (exec context b) vs tape (unbroken a h.0 vs tape) (unbroken b h.1 vs tape))
    unbroken (Loop c us b) h vs tape =
        turns-complete (λ way. Unit {0}) Unbroken turn-unbroken (exec context b) (λ vs tape. any-completes (exec context b vs tape)) context.turns (eval context c) (perform_all context us) (may-be-false Unbroken tt (eval context c)) vs tape
    unbroken (DoLoop b c) h vs tape =
        do-turns-complete (λ way. Unit {0}) Unbroken turn-unbroken (exec context b) (λ vs tape. any-completes (exec context b vs tape)) context.turns (eval context c) (may-be-false Unbroken tt (eval context c)) vs tape
    unbroken Break h vs tape = absurd h
    unbroken Continue h vs tape = tt
    unbroken Return h vs tape = tt
    unbroken (ReturnValue e) h vs tape = then-completes Unbroken (eval context e vs tape) _ (λ x vs tape. tt)
    unbroken (Throw fault) h vs tape = tt
    unbroken (ThrowCaught number) h vs tape = tt
    unbroken (Try b cs) h vs tape = throw-completes Unbroken (exec context b vs tape) (handle context cs) (unbroken b h.0 vs tape) (all-unbroken cs h.1)
    unbroken (Synchronized e b) h vs tape = synchronized-completes Unbroken (eval context e vs tape) (exec context b) (unbroken b h)
    unbroken (Commit s) h vs tape = act-completes Unbroken (deeds.Commit context.method) (exec context s) vs tape (unbroken s h vs)
    unbroken (Println parts) h vs tape = then-completes Unbroken (shown context parts vs tape) _ (λ all vs tape. act-completes Unbroken (deeds.Print all) (Got Falls) vs tape (λ tape. tt))
    unbroken (Assert clause scope) h vs tape = act-completes Unbroken _ (Got Falls) vs tape (λ tape. tt)

    all-unbroken : (cs : Catches) → NoBreakIn cs → (fault : Fault) (vs : Variables) (tape : Tape) → Completes Unbroken (handle context cs fault vs tape)
    all-unbroken no_catch h fault vs tape = tt
    all-unbroken (or_catch caught number s rest) h fault vs tape =
        if-completes Unbroken (catches caught fault) (λ vs. exec context s (slice_set vs number (Caught fault))) (handle context rest fault) vs tape
        (unbroken s h.0 (slice_set vs number (Caught fault)) tape) (all-unbroken rest h.1 fault vs tape)

  -- `true` is never false
  is-true : (go : Going Completion) (vs : Variables) (tape : Tape) → ((vs : Variables) (tape : Tape) → Completes Ends (go vs tape)) →
      Completes Ends (then_do (eval context (Truth true) vs tape) (λ x. if_so (truth_of x) go (Got Falls)))
  is-true go vs tape all = all vs tape

  mutual
    pub ends : (s : Statement) → AlwaysEnds s → (vs : Variables) (tape : Tape) → Completes Ends (exec context s vs tape)
    ends Skip h vs tape = absurd h
    ends (Then a b) (inl h) vs tape = first-ends (exec context a vs tape) (exec context b) (ends a h vs tape)
    ends (Then a b) (inr h) vs tape = then-completes Ends (exec context a vs tape) _ (λ way vs tape. fall-ends way (exec context b) vs tape (ends b h vs tape))
    ends (Declare number e) h vs tape = absurd h
    ends (Do effect) h vs tape = absurd h
    ends (If c a b) h vs tape = then-completes Ends (eval context c vs tape) _ (λ x vs tape. if-completes Ends (truth_of x) (exec context a) (exec context b) vs tape (ends a h.0 vs tape) (ends b h.1 vs tape))
    ends (Loop c us b) h vs tape =
        subst (λ c. Completes Ends (turns context.turns (eval context c) (exec context b) (perform_all context us) vs tape)) (sym h.0)
        (turns-complete Unbroken Ends turn-ends (exec context b) (unbroken b h.1) context.turns (eval context (Truth true)) (perform_all context us) is-true vs tape)
    ends (DoLoop b c) h vs tape =
        subst (λ c. Completes Ends (do_turns context.turns (eval context c) (exec context b) vs tape)) (sym h.0)
        (do-turns-complete Unbroken Ends turn-ends (exec context b) (unbroken b h.1) context.turns (eval context (Truth true)) is-true vs tape)
    ends Break h vs tape = absurd h
    ends Continue h vs tape = absurd h
    ends Return h vs tape = tt
    ends (ReturnValue e) h vs tape = then-completes Ends (eval context e vs tape) _ (λ x vs tape. tt)
    ends (Throw fault) h vs tape = tt
    ends (ThrowCaught number) h vs tape = tt
    ends (Try b cs) h vs tape = throw-completes Ends (exec context b vs tape) (handle context cs) (ends b h.0 vs tape) (all-end cs h.1)
    ends (Synchronized e b) h vs tape = synchronized-completes Ends (eval context e vs tape) (exec context b) (ends b h)
    ends (Commit s) h vs tape = act-completes Ends (deeds.Commit context.method) (exec context s) vs tape (ends s h vs)
    ends (Println parts) h vs tape = absurd h
    ends (Assert clause scope) h vs tape = absurd h

    all-end : (cs : Catches) → AllEnd cs → (fault : Fault) (vs : Variables) (tape : Tape) → Completes Ends (handle context cs fault vs tape)
    all-end no_catch h fault vs tape = tt
    all-end (or_catch caught number s rest) h fault vs tape =
        if-completes Ends (catches caught fault) (λ vs. exec context s (slice_set vs number (Caught fault))) (handle context rest fault) vs tape
        (ends s h.0 (slice_set vs number (Caught fault)) tape) (all-end rest h.1 fault vs tape)

  abbrev HereOnly : Scope → Completion → Type 0
  HereOnly scope = InPlace scope.in_loop scope.result

  mutual
    pub in-place : (scope : Scope) (s : Statement) → Fits scope s → (vs : Variables) (tape : Tape) → Completes (HereOnly scope) (exec context s vs tape)
    in-place scope Skip h vs tape = tt
    in-place scope (Then a b) h vs tape = both-complete (HereOnly scope) (exec context a vs tape) (exec context b) (in-place scope a h.0 vs tape) (in-place scope b h.1)
    in-place scope (Declare number e) h vs tape = then-completes (HereOnly scope) (eval context e vs tape) _ (λ x vs tape. tt)
    in-place scope (Do effect) h vs tape = then-completes (HereOnly scope) (perform context effect vs tape) _ (λ done vs tape. tt)
    in-place scope (If c a b) h vs tape = then-completes (HereOnly scope) (eval context c vs tape) _ (λ x vs tape. if-completes (HereOnly scope) (truth_of x) (exec context a) (exec context b) vs tape (in-place scope a h.1 vs tape) (in-place scope b h.2 vs tape))
    in-place scope (Loop c us b) h vs tape =
        turns-complete (HereOnly (in_body_of_loop scope)) (HereOnly scope) (turn-in-place scope.in_loop scope.result) (exec context b) (in-place (in_body_of_loop scope) b h.2)
        context.turns (eval context c) (perform_all context us) (may-be-false (HereOnly scope) tt (eval context c)) vs tape
    in-place scope (DoLoop b c) h vs tape =
        do-turns-complete (HereOnly (in_body_of_loop scope)) (HereOnly scope) (turn-in-place scope.in_loop scope.result) (exec context b) (in-place (in_body_of_loop scope) b h.1)
        context.turns (eval context c) (may-be-false (HereOnly scope) tt (eval context c)) vs tape
    in-place scope Break h vs tape = h
    in-place scope Continue h vs tape = h
    in-place scope Return h vs tape = h
    in-place scope (ReturnValue e) h vs tape = then-completes (HereOnly scope) (eval context e vs tape) _ (λ x vs tape. tt)
    in-place scope (Throw fault) h vs tape = tt
    in-place scope (ThrowCaught number) h vs tape = tt
    in-place scope (Try b cs) h vs tape = throw-completes (HereOnly scope) (exec context b vs tape) (handle context cs) (in-place scope b h.0 vs tape) (all-in-place scope cs h.1)
    in-place scope (Synchronized e b) h vs tape = synchronized-completes (HereOnly scope) (eval context e vs tape) (exec context b) (in-place scope b h.1)
    in-place scope (Commit s) h vs tape = act-completes (HereOnly scope) (deeds.Commit context.method) (exec context s) vs tape (in-place scope s h vs)
    in-place scope (Println parts) h vs tape = then-completes (HereOnly scope) (shown context parts vs tape) _ (λ all vs tape. act-completes (HereOnly scope) (deeds.Print all) (Got Falls) vs tape (λ tape. tt))
    in-place scope (Assert clause numbers) h vs tape = act-completes (HereOnly scope) _ (Got Falls) vs tape (λ tape. tt)

    all-in-place : (scope : Scope) (cs : Catches) → CatchesFit scope cs → (fault : Fault) (vs : Variables) (tape : Tape) → Completes (HereOnly scope) (handle context cs fault vs tape)
    all-in-place scope no_catch h fault vs tape = tt
    all-in-place scope (or_catch caught number s rest) h fault vs tape =
        if-completes (HereOnly scope) (catches caught fault) (λ vs. exec context s (slice_set vs number (Caught fault))) (handle context rest fault) vs tape
        (in-place scope s h.1 (slice_set vs number (Caught fault)) tape) (all-in-place scope rest h.2 fault vs tape)

-- ---- bodies

pub never-falls : (context : Context) (s : Statement) → AlwaysEnds s → (vs rest : Variables) (tape left : Tape) → exec context s vs tape ≢ Got Falls rest left
never-falls context s always vs rest tape left is = subst (Completes Ends) is (ends context s always vs tape)

-- what is left of the ways to complete
only-a-value : (kind : SlotKind) (way : Completion) → Ends way → InPlace false (Some kind) way → (value : Value) × (way ≡ Returns (Some value))
only-a-value kind Falls e p = absurd e
only-a-value kind Breaks e p = cc
only-a-value kind Continues e p = cc
only-a-value kind (Returns None) e p = cc
only-a-value kind (Returns (Some value)) e p = (value, refl)

pub returns-value : (program : Program) → WellFormed program → (m : MethodId) (method : Method) (kind : SlotKind) → method_at program m ≡ Some method → method.result ≡ Some kind →
    (context : Context) (arguments : List Value) (tape : Tape) (way : Completion) (vs : Variables) (rest : Tape) →
    run_body context (Some method) arguments tape ≡ Got way vs rest → (value : Value) × (way ≡ Returns (Some value))
returns-value program fine m method kind at has context arguments tape way vs rest is =
    let fits = fine.methods m method at in
    let always : AlwaysEnds method.body = subst (EndsAsItMust method.body) has fits.ends in
    only-a-value kind way
    (subst (Completes Ends) is (ends context method.body always (start_variables method arguments) tape))
    (subst (λ result. InPlace false result way) has
    (subst (Completes (InPlace false method.result)) is (in-place context (scope_of program m method) method.body fits.body (start_variables method arguments) tape)))
