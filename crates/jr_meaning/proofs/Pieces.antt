-- How a piece of the program comes out over replies. It takes its replies from the front, one for each thing that it
-- does, and what is left plays no part. What it calls it also leaves, so that it ends in the frame in which it began;
-- each Leave closes the newest frame; and who waits takes the monitor again.
use Rattle.std.proofs.Common.{◌≡◌, ℕ, zero, suc, ℤ, pos, negsuc, Bool, true, false, List, [], ◌∷◌, ◌++◌, drop, map, is_some, Option, Some, None, slice_set, refl, sym, ap, subst, ◌∙◌, append_assoc, append-nil}
use Rattle.std.specs.Option.{option_map_or}
use Rattle.std.specs.Int.{is_negative}
use Rattle.jr_base.specs.Deed.{Deed}
use Rattle.jr_base.specs.Deed as deeds
use Rattle.jr_base.specs.declared.number.ClauseId.{ClauseId}
use Rattle.jr_base.specs.declared.number.MethodId.{MethodId}
use Rattle.jr_base.specs.declared.number.ObjId.{ObjId}
use Rattle.jr_base.specs.declared.action.Reply.{Reply}
use Rattle.jr_base.specs.declared.action.Reply.TheVariants as replies
use Rattle.jr_base.specs.declared.action.LeaveHow.{LeaveHow}
use Rattle.jr_base.specs.declared.action.LeaveHow.TheVariants.{Normal, Abrupt}
use Rattle.jr_base.specs.declared.action.Way.TheVariants as ways
use Rattle.jr_base.specs.declared.action.NewKind.TheVariants as kinds
use Rattle.jr_base.specs.declared.action.Elem.{Elem}
use Rattle.jr_base.specs.declared.value.Value.{Value}
use Rattle.jr_base.specs.declared.value.Value.TheVariants as values
use Rattle.jr_base.specs.declared.value.Cell.{Cell}
use Rattle.jr_base.specs.declared.finish.Fault.{Fault}
use Rattle.jr_base.specs.declared.finish.Fault.TheVariants as faults
use Rattle.jr_base.specs.Content.{Caught}
use Rattle.jr_base.specs.declared.kind.ObjectCall.{ObjectCall}
use Rattle.jr_base.specs.declared.kind.ObjectCall.TheVariants.{Wait, Notify, NotifyAll, Start, Join}
use Rattle.jr_arith.specs.Operators.{number_of, truth_of, binary_value}
use Rattle.jr_base.specs.Faults.{catches}
use Rattle.jr_program.specs.Programs.{Program, constructor_of, method_at}
use Rattle.jr_program.specs.Programs.{Expr, Number, Truth, Null, This, ClassObject, Read, LengthOf, Convert, Unary, Binary, And, Or, Choice, Assign, Compound, PrefixIncrement, PostfixIncrement, ResultOf, NewObject, NewPlain, NewThread, NewArray}
use Rattle.jr_program.specs.Programs.{Variable, Local, StaticField, FieldOf, ElementOf, Call, CallStatic, CallOn, Exprs, no_more, and_then}
use Rattle.jr_program.specs.Programs.{Part, Literal, Shown, Catches, no_catch, or_catch}
use Rattle.jr_program.specs.Programs.{Effect, Evaluate, Invoke, CallObject, WaitFor, Yield, Sleep, Statement, Skip, Then, Declare, Do, If, Loop, DoLoop, Break, Continue, Return, ReturnValue, Throw, ThrowCaught, Try, Synchronized, Commit, Println, Assert}
use Rattle.jr_meaning.specs.Objects.{reference}
use Rattle.jr_meaning.specs.Next.{Tape, value_at, Variables, Out, Got, Threw, Stops, NoTurns, Going, then_do, ask, throws, if_so, on_object, or_zero_divisor, object_made, read_by, written_by, get, put, Spot, LocalSpot, StaticSpot, FieldSpot, ElementSpot, read_spot, write_spot, Context, new_array, eval, locate, invoke, eval_all, shown, Completion, Falls, Breaks, Continues, Returns, on_fall, on_turn, act, turns, do_turns, on_throw, on_leave, unless_illegal, waits_by, call_object, wait_for, promoted, narrowed, perform, perform_all, exec, handle, entering, exiting, result_kind}

-- ---- frames

-- the methods of the frames that are open after a deed, the newest first
abbrev pub opened : Deed → List MethodId → List MethodId
opened (deeds.Call m this arguments) ms = m ∷ ms
opened (deeds.Leave m how) ms = drop 1 ms
opened _ ms = ms

abbrev pub opened-by : List Deed → List MethodId → List MethodId
opened-by [] ms = ms
opened-by (d ∷ ds) ms = opened-by ds (opened d ms)

-- a return has a value exactly where its method has a result
abbrev pub HasResult : Program → MethodId → LeaveHow → Type 0
HasResult program m (Normal result) = is_some result ≡ is_some (result_kind (method_at program m))
HasResult program m Abrupt = Unit {0}

-- What is done in the newest frame: a Leave and a Commit are of its method, and a read, a write, an Enter of a
-- `synchronized` statement and an assert are not made outside all frames.
abbrev pub AtTop : Program → Deed → List MethodId → Type 0
AtTop program (deeds.Leave m how) [] = ⊥
AtTop program (deeds.Leave m how) (top ∷ ms) = (top ≡ m) × HasResult program m how
AtTop program (deeds.Commit m) [] = ⊥
AtTop program (deeds.Commit m) (top ∷ ms) = top ≡ m
AtTop program (deeds.Get cell) [] = ⊥
AtTop program (deeds.Put cell value) [] = ⊥
AtTop program (deeds.Enter o ways.Block) [] = ⊥
AtTop program (deeds.Assert clause env) [] = ⊥
AtTop program _ ms = Unit {0}

pub at-top-more : (program : Program) (deed : Deed) (ms more : List MethodId) → AtTop program deed ms → AtTop program deed (ms ++ more)
at-top-more program (deeds.Leave m how) (top ∷ ms) more h = h
at-top-more program (deeds.Commit m) (top ∷ ms) more h = h
at-top-more program (deeds.Get cell) (top ∷ ms) more h = tt
at-top-more program (deeds.Put cell value) (top ∷ ms) more h = tt
at-top-more program (deeds.Enter o ways.Block) (top ∷ ms) more h = tt
at-top-more program (deeds.Enter o ways.Method) ms more h = tt
at-top-more program (deeds.Assert clause env) (top ∷ ms) more h = tt
at-top-more program (deeds.Leave m how) [] more h = absurd h
at-top-more program (deeds.Commit m) [] more h = absurd h
at-top-more program (deeds.Get cell) [] more h = absurd h
at-top-more program (deeds.Put cell value) [] more h = absurd h
at-top-more program (deeds.Enter o ways.Block) [] more h = absurd h
at-top-more program (deeds.Assert clause env) [] more h = absurd h
at-top-more program _ ms more h = tt

pub opened-by-append : (ds es : List Deed) (ms : List MethodId) → opened-by (ds ++ es) ms ≡ opened-by es (opened-by ds ms)
opened-by-append [] es ms = refl
opened-by-append (d ∷ ds) es ms = opened-by-append ds es (opened d ms)

-- ---- deeds

-- over these replies a piece does these things, one for each reply
abbrev pub Makes : {A : Type 0} → Going A → Variables → Tape → Tape → List Deed → Type 0
Makes f vs before [] [] = Unit {0}
Makes f vs before [] (d ∷ ds) = ⊥
Makes f vs before (r ∷ tape) [] = ⊥
Makes f vs before (r ∷ tape) (d ∷ ds) = (f vs before ≡ Stops d) × Makes f vs (before ++ r ∷ []) tape ds

-- after a wait it takes the monitor again
abbrev pub Resumes : {A : Type 0} → Going A → Variables → Tape → Deed → Type 0
Resumes f vs tape (deeds.Wait o) = f vs (tape ++ replies.Unit ∷ []) ≡ Stops (deeds.Resume o)
Resumes f vs tape (deeds.TimedWait o) = f vs (tape ++ replies.Unit ∷ []) ≡ Stops (deeds.Resume o)
Resumes f vs tape _ = Unit {0}

-- where the first stops, behind these replies the second does
abbrev pub StopsAs : {A B : Type 0} → Going A → Variables → Tape → Going B → Variables → Type 0
StopsAs f vs front h ws = (tape : Tape) (deed : Deed) → f vs tape ≡ Stops deed → h ws (front ++ tape) ≡ Stops deed

pub makes-as : {A B : Type 0} (f : Going A) (vs : Variables) (front : Tape) (h : Going B) (ws : Variables) → StopsAs f vs front h ws →
    (before tape : Tape) (ds : List Deed) → Makes f vs before tape ds → Makes h ws (front ++ before) tape ds
makes-as f vs front h ws like before [] [] m = tt
makes-as f vs front h ws like before [] (d ∷ ds) m = m
makes-as f vs front h ws like before (r ∷ tape) [] m = m
makes-as f vs front h ws like before (r ∷ tape) (d ∷ ds) m =
    (like before d m.0, subst (λ b. Makes h ws b tape ds) (sym (append_assoc front before (r ∷ []))) (makes-as f vs front h ws like (before ++ r ∷ []) tape ds m.1))

pub makes-append : {A : Type 0} (h : Going A) (vs : Variables) (before a b : Tape) (ds es : List Deed) → Makes h vs before a ds → Makes h vs (before ++ a) b es →
    Makes h vs before (a ++ b) (ds ++ es)
makes-append h vs before [] b [] es m n = subst (λ t. Makes h vs t b es) (append-nil before) n
makes-append h vs before [] b (d ∷ ds) es m n = absurd m
makes-append h vs before (r ∷ a) b [] es m n = absurd m
makes-append h vs before (r ∷ a) b (d ∷ ds) es m n =
    (m.0, makes-append h vs (before ++ r ∷ []) a b ds es m.1 (subst (λ t. Makes h vs t b es) (sym (append_assoc before (r ∷ []) a)) n))

pub resumes-as : {A B : Type 0} (f : Going A) (vs : Variables) (front : Tape) (h : Going B) (ws : Variables) → StopsAs f vs front h ws →
    (tape : Tape) (deed : Deed) → Resumes f vs tape deed → Resumes h ws (front ++ tape) deed
resumes-as f vs front h ws like tape (deeds.Wait o) e = ap (h ws) (append_assoc front tape (replies.Unit ∷ [])) ∙ like (tape ++ replies.Unit ∷ []) (deeds.Resume o) e
resumes-as f vs front h ws like tape (deeds.TimedWait o) e = ap (h ws) (append_assoc front tape (replies.Unit ∷ [])) ∙ like (tape ++ replies.Unit ∷ []) (deeds.Resume o) e
resumes-as f vs front h ws like tape _ e = tt

-- ---- how a piece comes out

-- these replies were taken, and whatever had followed them, the piece would have come out so
pub record Took {A : Type 0} (f : Going A) (vs : Variables) (tape : Tape) (rest : Tape) (out : Tape → Out A) : Type 0 where
  pub used : Tape
  pub split : tape ≡ used ++ rest
  pub whatever : (other : Tape) → f vs (used ++ other) ≡ out other
  pub does : List Deed
  pub makes : Makes f vs [] used does
  pub level : (ms : List MethodId) → opened-by does ms ≡ ms

-- it stops at that deed, in frames that it opened and did not leave yet, and those that were open before
pub record Stopped {A : Type 0} (program : Program) (own : List MethodId) (f : Going A) (vs : Variables) (tape : Tape) (deed : Deed) : Type 0 where
  pub does : List Deed
  pub makes : Makes f vs [] tape does
  pub inner : List MethodId
  pub opens : (ms : List MethodId) → opened-by does ms ≡ inner ++ ms
  pub at_top : AtTop program deed (inner ++ own)
  pub resumes : Resumes f vs tape deed

module _ (program : Program) (own : List MethodId) where
  abbrev pub Came : {A : Type 0} → Going A → Variables → Tape → Out A → Type 0
  Came f vs tape (Got x inner rest) = Took f vs tape rest (Got x inner)
  Came f vs tape (Threw fault inner rest) = Took f vs tape rest (Threw fault inner)
  Came f vs tape (Stops deed) = Stopped program own f vs tape deed
  Came f vs tape NoTurns = Unit {0}

  abbrev pub Even : {A : Type 0} → Going A → Type 0
  Even f = (vs : Variables) (tape : Tape) → Came f vs tape (f vs tape)

  -- ---- combining

  -- what was done over the first replies, before the piece goes on as another
  pub record Front {A : Type 0} (h : Going A) (vs : Variables) (g : Going A) (inner : Variables) (used : Tape) : Type 0 where
    pub goes : (other : Tape) → h vs (used ++ other) ≡ g inner other
    pub does : List Deed
    pub makes : Makes h vs [] used does
    pub level : (ms : List MethodId) → opened-by does ms ≡ ms

  front-as : {A : Type 0} (h : Going A) (vs : Variables) (g : Going A) (inner : Variables) (used : Tape) → Front h vs g inner used → StopsAs g inner used h vs
  front-as h vs g inner used front tape deed e = front.goes tape ∙ e

  front-makes : {A : Type 0} (h : Going A) (vs : Variables) (g : Going A) (inner : Variables) (used : Tape) (front : Front h vs g inner used) (tape : Tape) (ds : List Deed) →
      Makes g inner [] tape ds → Makes h vs [] (used ++ tape) (front.does ++ ds)
  front-makes h vs g inner used front tape ds m =
      makes-append h vs [] used tape front.does ds front.makes
      (subst (λ t. Makes h vs t tape ds) (append-nil used) (makes-as g inner used h vs (front-as h vs g inner used front) [] tape ds m))

  front-level : {A : Type 0} (h : Going A) (vs : Variables) (g : Going A) (inner : Variables) (used : Tape) (front : Front h vs g inner used) (ds : List Deed) (ms : List MethodId) →
      opened-by (front.does ++ ds) ms ≡ opened-by ds ms
  front-level h vs g inner used front ds ms = opened-by-append front.does ds ms ∙ ap (opened-by ds) (front.level ms)

  -- a piece that goes on as another over what the first took
  pub joined : {B : Type 0} (h : Going B) (vs inner : Variables) (g : Going B) (tape rest : Tape) (used : Tape) →
      tape ≡ used ++ rest → Front h vs g inner used → (o : Out B) → Came g inner rest o → Came h vs tape o
  joined h vs inner g tape rest used split front (Got y last end) t = record {
    used = used ++ t.used;
    split = split ∙ ap (λ r. used ++ r) t.split ∙ sym (append_assoc used t.used end);
    whatever = λ other. ap (h vs) (append_assoc used t.used other) ∙ front.goes (t.used ++ other) ∙ t.whatever other;
    does = front.does ++ t.does;
    makes = front-makes h vs g inner used front t.used t.does t.makes;
    level = λ ms. front-level h vs g inner used front t.does ms ∙ t.level ms;
  }
  joined h vs inner g tape rest used split front (Threw fault last end) t = record {
    used = used ++ t.used;
    split = split ∙ ap (λ r. used ++ r) t.split ∙ sym (append_assoc used t.used end);
    whatever = λ other. ap (h vs) (append_assoc used t.used other) ∙ front.goes (t.used ++ other) ∙ t.whatever other;
    does = front.does ++ t.does;
    makes = front-makes h vs g inner used front t.used t.does t.makes;
    level = λ ms. front-level h vs g inner used front t.does ms ∙ t.level ms;
  }
  joined h vs inner g tape rest used split front (Stops deed) t = record {
    does = front.does ++ t.does;
    makes = subst (λ a. Makes h vs [] a (front.does ++ t.does)) (sym split) (front-makes h vs g inner used front rest t.does t.makes);
    inner = t.inner;
    opens = λ ms. front-level h vs g inner used front t.does ms ∙ t.opens ms;
    at_top = t.at_top;
    resumes = subst (λ a. Resumes h vs a deed) (sym split) (resumes-as g inner used h vs (front-as h vs g inner used front) rest deed t.resumes);
  }
  joined h vs inner g tape rest used split front NoTurns t = tt

  -- a piece in which another runs first, until it comes out
  first-took : {A B : Type 0} (e : Going A) (h : Going B) (vs : Variables) (tape rest : Tape) (out : Tape → Out A) (g : Going B) (inner : Variables) →
      StopsAs e vs [] h vs → (t : Took e vs tape rest out) → ((other : Tape) → h vs (t.used ++ other) ≡ g inner other) → Front h vs g inner t.used
  first-took e h vs tape rest out g inner like t goes =
      record { goes = goes; does = t.does; makes = makes-as e vs [] h vs like [] t.used t.does t.makes; level = t.level }

  first-stopped : {A B : Type 0} (e : Going A) (h : Going B) (vs : Variables) (tape : Tape) (deed : Deed) → StopsAs e vs [] h vs →
      Stopped program own e vs tape deed → Stopped program own h vs tape deed
  first-stopped e h vs tape deed like t = record {
    does = t.does;
    makes = makes-as e vs [] h vs like [] tape t.does t.makes;
    inner = t.inner;
    opens = t.opens;
    at_top = t.at_top;
    resumes = resumes-as e vs [] h vs like tape deed t.resumes;
  }

  then-came : {A B : Type 0} (e : Going A) (g : A → Going B) (vs : Variables) (tape : Tape) (o : Out A) → Came e vs tape o → ((x : A) → Even (g x)) →
      Came (λ vs tape. then_do (e vs tape) g) vs tape (then_do o g)
  then-came e g vs tape (Got x inner rest) t even =
      joined (λ vs tape. then_do (e vs tape) g) vs inner (g x) tape rest t.used t.split
      (first-took e (λ vs tape. then_do (e vs tape) g) vs tape rest (Got x inner) (g x) inner (λ tape deed e. ap (λ o. then_do o g) e) t (λ other. ap (λ o. then_do o g) (t.whatever other)))
      (g x inner rest) (even x inner rest)
  then-came e g vs tape (Threw fault inner rest) t even = record {
    used = t.used;
    split = t.split;
    whatever = λ other. ap (λ o. then_do o g) (t.whatever other);
    does = t.does;
    makes = makes-as e vs [] (λ vs tape. then_do (e vs tape) g) vs (λ tape deed e. ap (λ o. then_do o g) e) [] t.used t.does t.makes;
    level = t.level;
  }
  then-came e g vs tape (Stops deed) t even = first-stopped e (λ vs tape. then_do (e vs tape) g) vs tape deed (λ tape deed e. ap (λ o. then_do o g) e) t
  then-came e g vs tape NoTurns t even = tt

  then-even : {A B : Type 0} (e : Going A) (g : A → Going B) → Even e → ((x : A) → Even (g x)) → Even (λ vs tape. then_do (e vs tape) g)
  then-even e g ee even vs tape = then-came e g vs tape (e vs tape) (ee vs tape) even

  pub got-even : {A : Type 0} (x : A) → Even (Got x)
  got-even x vs tape = record { used = []; split = refl; whatever = λ other. refl; does = []; makes = tt; level = λ ms. refl }

  pub throws-even : {A : Type 0} (fault : Fault) → Even {A = A} (throws fault)
  throws-even fault vs tape = record { used = []; split = refl; whatever = λ other. refl; does = []; makes = tt; level = λ ms. refl }

  -- an action that opens and leaves no frame
  record Plain {B : Type 0} (deed : Deed) (go : Reply → Going B) : Type 0 where
    pub level : (ms : List MethodId) → opened deed ms ≡ ms
    at_top : AtTop program deed own
    resumes : (vs : Variables) → Resumes (ask deed go) vs [] deed

  ask-even : {B : Type 0} (deed : Deed) (g : Reply → Going B) → Plain deed g → ((reply : Reply) → Even (g reply)) → Even (ask deed g)
  ask-even deed g plain even vs [] = record { does = []; makes = tt; inner = []; opens = λ ms. refl; at_top = plain.at_top; resumes = plain.resumes vs }
  ask-even deed g plain even vs (reply ∷ tape) =
      joined (ask deed g) vs vs (g reply) (reply ∷ tape) tape (reply ∷ []) refl
      (record { goes = λ other. refl; does = deed ∷ []; makes = (refl, tt); level = plain.level }) (g reply vs tape) (even reply vs tape)

  if-even : {A : Type 0} (b : Bool) (f g : Going A) → Even f → Even g → Even (if_so b f g)
  if-even true f g s t = s
  if-even false f g s t = t

  act-even : {A : Type 0} (deed : Deed) (f : Going A) → Plain deed (λ reply. f) → Even f → Even (act deed f)
  act-even deed f plain s = ask-even deed _ plain (λ reply. s)

  -- ---- what no frame plays a part in

  object-even : {A : Type 0} (value : Value) (f : ObjId → Going A) → ((o : ObjId) → Even (f o)) → Even (on_object value f)
  object-even (values.Ref o) f s = s o
  object-even values.Null f s = throws-even faults.NullPointerException
  object-even (values.Int n) f s = throws-even faults.NullPointerException
  object-even (values.Long n) f s = throws-even faults.NullPointerException
  object-even (values.Bool b) f s = throws-even faults.NullPointerException

  divisor-even : (o : Option Value) → Even (or_zero_divisor o)
  divisor-even (Some value) = got-even value
  divisor-even None = throws-even faults.ArithmeticException

  read-by-even : (reply : Reply) → Even (read_by reply)
  read-by-even (replies.Value value) = got-even value
  read-by-even replies.Range = throws-even faults.ArrayIndexOutOfBoundsException
  read-by-even _ = got-even (values.Int (pos 0))

  written-by-even : (reply : Reply) (value : Value) → Even (written_by reply value)
  written-by-even replies.Range value = throws-even faults.ArrayIndexOutOfBoundsException
  written-by-even _ value = got-even value

  new-array-even : (element : Elem) (size : ℤ) → Even (new_array element size)
  new-array-even element (pos size) =
      ask-even (deeds.New (kinds.Array element size)) (λ reply. Got (values.Ref (object_made reply))) (record { level = λ ms. refl; at_top = tt; resumes = λ vs. tt }) (λ reply. got-even (values.Ref (object_made reply)))
  new-array-even element (negsuc n) = throws-even faults.NegativeArraySizeException

  illegal-even : {A : Type 0} (fault : Fault) (reply : Reply) (go : Going A) → Even go → Even (unless_illegal fault reply go)
  illegal-even fault replies.Illegal go s = throws-even fault
  illegal-even fault _ go s = s

  done-even : Even (Got (tt {0}))
  done-even = got-even (tt {0})

  waits-even : (deed : Deed) (o : ObjId) →
      Plain deed (λ reply. unless_illegal faults.IllegalMonitorStateException reply (act (deeds.Resume o) (Got (tt {0})))) → Even (waits_by deed o)
  waits-even deed o plain =
      ask-even deed _ plain (λ reply. illegal-even _ reply _ (act-even (deeds.Resume o) _ (record { level = λ ms. refl; at_top = tt; resumes = λ vs. tt }) done-even))

  wait-for-even : (time : ℤ) (o : ObjId) → Even (wait_for time o)
  wait-for-even (pos zero) o = waits-even (deeds.Wait o) o (record { level = λ ms. refl; at_top = tt; resumes = λ vs. refl })
  wait-for-even (pos (suc n)) o = waits-even (deeds.TimedWait o) o (record { level = λ ms. refl; at_top = tt; resumes = λ vs. refl })
  wait-for-even (negsuc n) o = throws-even faults.IllegalArgumentException

  call-object-even : (called : ObjectCall) (o : ObjId) → Even (call_object called o)
  call-object-even Wait o = waits-even (deeds.Wait o) o (record { level = λ ms. refl; at_top = tt; resumes = λ vs. refl })
  call-object-even Notify o =
      ask-even (deeds.Notify o) _ (record { level = λ ms. refl; at_top = tt; resumes = λ vs. tt }) (λ reply. illegal-even _ reply _ done-even)
  call-object-even NotifyAll o =
      ask-even (deeds.NotifyAll o) _ (record { level = λ ms. refl; at_top = tt; resumes = λ vs. tt }) (λ reply. illegal-even _ reply _ done-even)
  call-object-even Start o =
      ask-even (deeds.Start o) _ (record { level = λ ms. refl; at_top = tt; resumes = λ vs. tt }) (λ reply. illegal-even _ reply _ done-even)
  call-object-even Join o = act-even (deeds.Join o) _ (record { level = λ ms. refl; at_top = tt; resumes = λ vs. tt }) done-even

  pub exiting-even : {A : Type 0} (monitor : Option ObjId) (f : Going A) → Even f → Even (exiting monitor f)
  exiting-even None f s = s
  exiting-even (Some o) f s = ask-even (deeds.Exit o) (λ reply. f) (record { level = λ ms. refl; at_top = tt; resumes = λ vs. tt }) (λ reply. s)

  pub entering-even : {A : Type 0} (monitor : Option ObjId) (f : Going A) → Even f → Even (entering monitor f)
  entering-even None f s = s
  entering-even (Some o) f s = ask-even (deeds.Enter o ways.Method) (λ reply. f) (record { level = λ ms. refl; at_top = tt; resumes = λ vs. tt }) (λ reply. s)

  -- ---- loops

  fall-even : (way : Completion) (f : Going Completion) → Even f → Even (on_fall way f)
  fall-even Falls f s = s
  fall-even Breaks f s = got-even Breaks
  fall-even Continues f s = got-even Continues
  fall-even (Returns value) f s = got-even (Returns value)

  turn-even : (way : Completion) (f : Going Completion) → Even f → Even (on_turn way f)
  turn-even Falls f s = s
  turn-even Breaks f s = got-even Falls
  turn-even Continues f s = s
  turn-even (Returns value) f s = got-even (Returns value)

  turns-even : (n : ℕ) (t : Going Value) (b : Going Completion) (u : Going (Unit {0})) → Even t → Even b → Even u → Even (turns n t b u)
  turns-even zero t b u st sb su vs tape = tt
  turns-even (suc n) t b u st sb su vs tape =
      then-even t _ st (λ x. if-even (truth_of x) _ _ (then-even b _ sb (λ way. turn-even way _ (then-even u _ su (λ done. act-even deeds.Back _ (record { level = λ ms. refl; at_top = tt; resumes = λ vs. tt }) (turns-even n t b u st sb su))))) (got-even Falls)) vs tape

  do-turns-even : (n : ℕ) (t : Going Value) (b : Going Completion) → Even t → Even b → Even (do_turns n t b)
  do-turns-even zero t b st sb vs tape = tt
  do-turns-even (suc n) t b st sb vs tape =
      then-even b _ sb (λ way. turn-even way _ (then-even t _ st (λ x. if-even (truth_of x) _ _ (act-even deeds.Back _ (record { level = λ ms. refl; at_top = tt; resumes = λ vs. tt }) (do-turns-even n t b st sb)) (got-even Falls)))) vs tape

  -- ---- ways out

  throw-came : (e : Going Completion) (g : Fault → Going Completion) (vs : Variables) (tape : Tape) (o : Out Completion) → Came e vs tape o → ((fault : Fault) → Even (g fault)) →
      Came (λ vs tape. on_throw (e vs tape) g) vs tape (on_throw o g)
  throw-came e g vs tape (Got way inner rest) t even = record {
    used = t.used;
    split = t.split;
    whatever = λ other. ap (λ o. on_throw o g) (t.whatever other);
    does = t.does;
    makes = makes-as e vs [] (λ vs tape. on_throw (e vs tape) g) vs (λ tape deed e. ap (λ o. on_throw o g) e) [] t.used t.does t.makes;
    level = t.level;
  }
  throw-came e g vs tape (Threw fault inner rest) t even =
      joined (λ vs tape. on_throw (e vs tape) g) vs inner (g fault) tape rest t.used t.split
      (first-took e (λ vs tape. on_throw (e vs tape) g) vs tape rest (Threw fault inner) (g fault) inner (λ tape deed e. ap (λ o. on_throw o g) e) t (λ other. ap (λ o. on_throw o g) (t.whatever other)))
      (g fault inner rest) (even fault inner rest)
  throw-came e g vs tape (Stops deed) t even = first-stopped e (λ vs tape. on_throw (e vs tape) g) vs tape deed (λ tape deed e. ap (λ o. on_throw o g) e) t
  throw-came e g vs tape NoTurns t even = tt

  leave-came : (object : ObjId) (e : Going Completion) (vs : Variables) (tape : Tape) (o : Out Completion) → Came e vs tape o → Came (λ vs tape. on_leave object (e vs tape)) vs tape (on_leave object o)
  leave-came object e vs tape (Got way inner rest) t =
      joined (λ vs tape. on_leave object (e vs tape)) vs inner (act (deeds.Exit object) (Got way)) tape rest t.used t.split
      (first-took e (λ vs tape. on_leave object (e vs tape)) vs tape rest (Got way inner) (act (deeds.Exit object) (Got way)) inner (λ tape deed e. ap (on_leave object) e) t (λ other. ap (on_leave object) (t.whatever other)))
      (act (deeds.Exit object) (Got way) inner rest) (act-even (deeds.Exit object) (Got way) (record { level = λ ms. refl; at_top = tt; resumes = λ vs. tt }) (got-even way) inner rest)
  leave-came object e vs tape (Threw fault inner rest) t =
      joined (λ vs tape. on_leave object (e vs tape)) vs inner (act (deeds.Exit object) (throws fault)) tape rest t.used t.split
      (first-took e (λ vs tape. on_leave object (e vs tape)) vs tape rest (Threw fault inner) (act (deeds.Exit object) (throws fault)) inner (λ tape deed e. ap (on_leave object) e) t (λ other. ap (on_leave object) (t.whatever other)))
      (act (deeds.Exit object) (throws fault) inner rest) (act-even (deeds.Exit object) (throws fault) (record { level = λ ms. refl; at_top = tt; resumes = λ vs. tt }) (throws-even {A = Completion} fault) inner rest)
  leave-came object e vs tape (Stops deed) t = first-stopped e (λ vs tape. on_leave object (e vs tape)) vs tape deed (λ tape deed e. ap (on_leave object) e) t
  leave-came object e vs tape NoTurns t = tt

  -- ---- a frame whose calls take their replies from the front, and leave what they open

  -- what a frame's own deeds need of the frames that are open
  pub record Inside (m : MethodId) : Type 0 where
    pub get : (cell : Cell) → AtTop program (deeds.Get cell) own
    pub put : (cell : Cell) (value : Value) → AtTop program (deeds.Put cell value) own
    pub enter : (o : ObjId) → AtTop program (deeds.Enter o ways.Block) own
    pub commit : AtTop program (deeds.Commit m) own
    pub assert : (clause : ClauseId) (env : List Value) → AtTop program (deeds.Assert clause env) own

  module _ (f : Context) (inside : Inside f.method) (even : (m : MethodId) (this : Option ObjId) (arguments : List Value) → Even (f.calls m this arguments)) where
    get-even : (at : Cell) → Even (get at)
    get-even at = ask-even (deeds.Get at) read_by (record { level = λ ms. refl; at_top = inside.get at; resumes = λ vs. tt }) read-by-even

    put-even : (at : Cell) (value : Value) → Even (put at value)
    put-even at value = ask-even (deeds.Put at value) _ (record { level = λ ms. refl; at_top = inside.put at value; resumes = λ vs. tt }) (λ reply. written-by-even reply value)

    read-spot-even : (spot : Spot) → Even (read_spot spot)
    read-spot-even (LocalSpot number) vs tape = record { used = []; split = refl; whatever = λ other. refl; does = []; makes = tt; level = λ ms. refl }
    read-spot-even (StaticSpot at) vs tape = get-even at vs tape
    read-spot-even (FieldSpot object slot) vs tape = object-even object _ (λ o. get-even _) vs tape
    read-spot-even (ElementSpot array index) vs tape = object-even array _ (λ o. get-even _) vs tape

    write-spot-even : (spot : Spot) (value : Value) → Even (write_spot spot value)
    write-spot-even (LocalSpot number) value vs tape = record { used = []; split = refl; whatever = λ other. refl; does = []; makes = tt; level = λ ms. refl }
    write-spot-even (StaticSpot at) value vs tape = put-even at value vs tape
    write-spot-even (FieldSpot object slot) value vs tape = object-even object _ (λ o. put-even _ value) vs tape
    write-spot-even (ElementSpot array index) value vs tape = object-even array _ (λ o. put-even _ value) vs tape

    made-even : (c : Option MethodId) (o : ObjId) (arguments : List Value) → Even (option_map_or (λ constructor. f.calls constructor (Some o) arguments) c (Got None))
    made-even None o arguments = got-even None
    made-even (Some constructor) o arguments = even constructor (Some o) arguments

    mutual
      eval-even : (e : Expr) → Even (eval f e)
      eval-even (Number w x) vs tape = got-even _ vs tape
      eval-even (Truth b) vs tape = got-even _ vs tape
      eval-even Null vs tape = got-even _ vs tape
      eval-even This vs tape = got-even _ vs tape
      eval-even (ClassObject class) vs tape = got-even _ vs tape
      eval-even (Read v) vs tape = then-even (locate f v) _ (locate-even v) read-spot-even vs tape
      eval-even (LengthOf e) vs tape = then-even (eval f e) _ (eval-even e) (λ array. object-even array _ (λ o. ask-even (deeds.Len o) _ (record { level = λ ms. refl; at_top = tt; resumes = λ vs. tt }) read-by-even)) vs tape
      eval-even (Convert w e) vs tape = then-even (eval f e) _ (eval-even e) (λ x. got-even _) vs tape
      eval-even (Unary operator e) vs tape = then-even (eval f e) _ (eval-even e) (λ x. got-even _) vs tape
      eval-even (Binary operator a b) vs tape =
          then-even (eval f a) _ (eval-even a) (λ x. then-even (eval f b) _ (eval-even b) (λ y. divisor-even (binary_value operator x y))) vs tape
      eval-even (And a b) vs tape = then-even (eval f a) _ (eval-even a) (λ x. if-even (truth_of x) _ _ (eval-even b) (got-even _)) vs tape
      eval-even (Or a b) vs tape = then-even (eval f a) _ (eval-even a) (λ x. if-even (truth_of x) _ _ (got-even _) (eval-even b)) vs tape
      eval-even (Choice c a b) vs tape = then-even (eval f c) _ (eval-even c) (λ x. if-even (truth_of x) _ _ (eval-even a) (eval-even b)) vs tape
      eval-even (Assign v e) vs tape =
          then-even (locate f v) _ (locate-even v) (λ spot. then-even (eval f e) _ (eval-even e) (write-spot-even spot)) vs tape
      eval-even (Compound operator narrows v e) vs tape =
          then-even (locate f v) _ (locate-even v) (λ spot.
          then-even (read_spot spot) _ (read-spot-even spot) (λ old.
          then-even (eval f e) _ (eval-even e) (λ x.
          then-even (or_zero_divisor (binary_value operator (promoted narrows old) x)) _ (divisor-even (binary_value operator (promoted narrows old) x)) (λ new. write-spot-even spot (narrowed narrows new))))) vs tape
      eval-even (PrefixIncrement w v by) vs tape =
          then-even (locate f v) _ (locate-even v) (λ spot. then-even (read_spot spot) _ (read-spot-even spot) (λ old. write-spot-even spot _)) vs tape
      eval-even (PostfixIncrement w v by) vs tape =
          then-even (locate f v) _ (locate-even v) (λ spot.
          then-even (read_spot spot) _ (read-spot-even spot) (λ old. then-even _ _ (write-spot-even spot _) (λ new. got-even old))) vs tape
      eval-even (ResultOf c) vs tape = then-even (invoke f c) _ (invoke-even c) (λ result. got-even _) vs tape
      eval-even (NewObject class es) vs tape =
          ask-even (deeds.New (kinds.Object class)) _ (record { level = λ ms. refl; at_top = tt; resumes = λ vs. tt }) (λ reply.
          then-even (eval_all f es) _ (all-even es) (λ arguments.
          then-even _ _ (made-even (constructor_of f.program class) (object_made reply) arguments) (λ result. got-even _))) vs tape
      eval-even NewPlain vs tape =
          ask-even (deeds.New kinds.Plain) (λ reply. Got (values.Ref (object_made reply))) (record { level = λ ms. refl; at_top = tt; resumes = λ vs. tt }) (λ reply. got-even (values.Ref (object_made reply))) vs tape
      eval-even (NewThread e) vs tape =
          ask-even (deeds.New kinds.Thread) _ (record { level = λ ms. refl; at_top = tt; resumes = λ vs. tt }) (λ reply.
          then-even (eval f e) _ (eval-even e) (λ runnable. then-even _ _ (put-even _ runnable) (λ value. got-even _))) vs tape
      eval-even (NewArray element e) vs tape = then-even (eval f e) _ (eval-even e) (λ size. new-array-even element (number_of size)) vs tape

      locate-even : (v : Variable) → Even (locate f v)
      locate-even (Local number) vs tape = got-even _ vs tape
      locate-even (StaticField field) vs tape = got-even _ vs tape
      locate-even (FieldOf e field) vs tape = then-even (eval f e) _ (eval-even e) (λ object. got-even _) vs tape
      locate-even (ElementOf element a i) vs tape =
          then-even (eval f a) _ (eval-even a) (λ array. then-even (eval f i) _ (eval-even i) (λ index. got-even _)) vs tape

      invoke-even : (c : Call) → Even (invoke f c)
      invoke-even (CallStatic called es) vs tape = then-even (eval_all f es) _ (all-even es) (even called None) vs tape
      invoke-even (CallOn e called es) vs tape =
          then-even (eval f e) _ (eval-even e) (λ receiver. then-even (eval_all f es) _ (all-even es) (λ arguments. object-even receiver _ (λ o. even called (Some o) arguments))) vs tape

      all-even : (es : Exprs) → Even (eval_all f es)
      all-even no_more vs tape = got-even _ vs tape
      all-even (and_then e es) vs tape =
          then-even (eval f e) _ (eval-even e) (λ x. then-even (eval_all f es) _ (all-even es) (λ xs. got-even _)) vs tape

    shown-even : (parts : List Part) → Even (shown f parts)
    shown-even [] vs tape = got-even _ vs tape
    shown-even (Literal text ∷ parts) vs tape = then-even (shown f parts) _ (shown-even parts) (λ rest. got-even _) vs tape
    shown-even (Shown e ∷ parts) vs tape =
        then-even (eval f e) _ (eval-even e) (λ x. then-even (shown f parts) _ (shown-even parts) (λ rest. got-even _)) vs tape

    perform-even : (effect : Effect) → Even (perform f effect)
    perform-even (Evaluate e) vs tape = then-even (eval f e) _ (eval-even e) (λ x. done-even) vs tape
    perform-even (Invoke c) vs tape = then-even (invoke f c) _ (invoke-even c) (λ result. done-even) vs tape
    perform-even (CallObject called e) vs tape = then-even (eval f e) _ (eval-even e) (λ object. object-even object _ (call-object-even called)) vs tape
    perform-even (WaitFor e t) vs tape =
        then-even (eval f e) _ (eval-even e) (λ object. then-even (eval f t) _ (eval-even t) (λ time. object-even object _ (wait-for-even (number_of time)))) vs tape
    perform-even Yield vs tape = act-even deeds.Back (Got (tt {0})) (record { level = λ ms. refl; at_top = tt; resumes = λ vs. tt }) done-even vs tape
    perform-even (Sleep e) vs tape =
        then-even (eval f e) _ (eval-even e) (λ time. if-even (is_negative (number_of time)) _ _ (throws-even _) (act-even deeds.Back _ (record { level = λ ms. refl; at_top = tt; resumes = λ vs. tt }) done-even)) vs tape

    perform-all-even : (effects : List Effect) → Even (perform_all f effects)
    perform-all-even [] vs tape = done-even vs tape
    perform-all-even (effect ∷ effects) vs tape = then-even (perform f effect) _ (perform-even effect) (λ done. perform-all-even effects) vs tape

    mutual
      pub exec-even : (s : Statement) → Even (exec f s)
      exec-even Skip vs tape = got-even _ vs tape
      exec-even (Then a b) vs tape = then-even (exec f a) _ (exec-even a) (λ way. fall-even way _ (exec-even b)) vs tape
      exec-even (Declare number e) vs tape =
          then-even (eval f e) _ (eval-even e) (λ x vs tape. record { used = []; split = refl; whatever = λ other. refl; does = []; makes = tt; level = λ ms. refl }) vs tape
      exec-even (Do effect) vs tape = then-even (perform f effect) _ (perform-even effect) (λ done. got-even _) vs tape
      exec-even (If c a b) vs tape = then-even (eval f c) _ (eval-even c) (λ x. if-even (truth_of x) _ _ (exec-even a) (exec-even b)) vs tape
      exec-even (Loop c u b) vs tape = turns-even f.turns (eval f c) (exec f b) (perform_all f u) (eval-even c) (exec-even b) (perform-all-even u) vs tape
      exec-even (DoLoop b c) vs tape = do-turns-even f.turns (eval f c) (exec f b) (eval-even c) (exec-even b) vs tape
      exec-even Break vs tape = got-even _ vs tape
      exec-even Continue vs tape = got-even _ vs tape
      exec-even Return vs tape = got-even _ vs tape
      exec-even (ReturnValue e) vs tape = then-even (eval f e) _ (eval-even e) (λ x. got-even _) vs tape
      exec-even (Throw fault) vs tape = throws-even fault vs tape
      exec-even (ThrowCaught number) vs tape = record { used = []; split = refl; whatever = λ other. refl; does = []; makes = tt; level = λ ms. refl }
      exec-even (Try b cs) vs tape = throw-came (exec f b) _ vs tape (exec f b vs tape) (exec-even b vs tape) (handle-even cs)
      exec-even (Synchronized e b) vs tape =
          then-even (eval f e) _ (eval-even e) (λ object. object-even object _ (λ o. act-even (deeds.Enter o ways.Block) _ (record { level = λ ms. refl; at_top = inside.enter o; resumes = λ vs. tt }) (λ vs tape.
          leave-came o (exec f b) vs tape (exec f b vs tape) (exec-even b vs tape)))) vs tape
      exec-even (Commit s) vs tape = act-even (deeds.Commit f.method) _ (record { level = λ ms. refl; at_top = inside.commit; resumes = λ vs. tt }) (exec-even s) vs tape
      exec-even (Println parts) vs tape = then-even (shown f parts) _ (shown-even parts) (λ all. act-even (deeds.Print all) _ (record { level = λ ms. refl; at_top = tt; resumes = λ vs. tt }) (got-even _)) vs tape
      exec-even (Assert clause scope) vs [] = record { does = []; makes = tt; inner = []; opens = λ ms. refl; at_top = inside.assert clause (reference f.this ∷ map (value_at vs) scope); resumes = tt }
      exec-even (Assert clause scope) vs (reply ∷ tape) =
          record { used = reply ∷ []; split = refl; whatever = λ other. refl; does = deeds.Assert clause (reference f.this ∷ map (value_at vs) scope) ∷ []; makes = (refl, tt); level = λ ms. refl }

      handle-even : (cs : Catches) (fault : Fault) → Even (handle f cs fault)
      handle-even no_catch fault vs tape = throws-even fault vs tape
      handle-even (or_catch caught number s rest) fault vs tape =
          if-even (catches caught fault) (λ vs. exec f s (slice_set vs number (Caught fault))) (handle f rest fault) (λ vs tape.
          joined (λ vs. exec f s (slice_set vs number (Caught fault))) vs (slice_set vs number (Caught fault)) (exec f s) tape tape [] refl
          (record { goes = λ other. refl; does = []; makes = tt; level = λ ms. refl }) (exec f s (slice_set vs number (Caught fault)) tape) (exec-even s (slice_set vs number (Caught fault)) tape)) (handle-even rest fault) vs tape
