-- A call over replies: what it opens it leaves, and its Leave closes the frame that its Call opened.
use Rattle.std.proofs.Common.{◌≡◌, ℕ, zero, suc, List, [], ◌∷◌, ◌++◌, drop, is_some, Option, Some, None, refl, sym, ap, subst, ◌∙◌, append_assoc, append-nil}
use Rattle.jr_base.specs.Deed.{Deed}
use Rattle.jr_base.specs.Deed as deeds
use Rattle.jr_base.specs.declared.number.MethodId.{MethodId}
use Rattle.jr_base.specs.declared.number.ObjId.{ObjId}
use Rattle.jr_base.specs.declared.action.Reply.{Reply}
use Rattle.jr_base.specs.declared.action.LeaveHow.{LeaveHow}
use Rattle.jr_base.specs.declared.action.LeaveHow.TheVariants.{Normal, Abrupt}
use Rattle.jr_base.specs.declared.value.Value.{Value}
use Rattle.jr_base.specs.declared.kind.SlotKind.{SlotKind}
use Rattle.jr_program.specs.Programs.{Program, Method, method_at}
use Rattle.jr_meaning.specs.Next.{Tape, start_variables, Variables, Out, Got, Threw, Stops, NoTurns, Going, ask, throws, Calls, context_of, Completion, Falls, Breaks, Continues, Returns, exec, monitor_of, exiting, result_kind, result_of, end_call, run_body, call_with, bounded_call}
use Rattle.jr_meaning.proofs.Pieces.{opened-by, HasResult, at-top-more, opened-by-append, Makes, StopsAs, makes-as, makes-append, resumes-as, Stopped, Came, Even, Front, joined, got-even, throws-even, exiting-even, entering-even, exec-even}

abbrev pub EvenCalls : Program → List MethodId → Calls → Type 0
EvenCalls program own calls = (m : MethodId) (this : Option ObjId) (arguments : List Value) → Even program own (calls m this arguments)

has-result : (program : Program) (m : MethodId) (way : Completion) → HasResult program m (Normal (result_of (result_kind (method_at program m)) way))
has-result program m way = by (result_kind (method_at program m)) way
  where
    by : (kind : Option SlotKind) (way : Completion) → is_some (result_of kind way) ≡ is_some kind
    by None way = refl
    by (Some kind) (Returns (Some value)) = refl
    by (Some kind) (Returns None) = refl
    by (Some kind) Falls = refl
    by (Some kind) Breaks = refl
    by (Some kind) Continues = refl

module _ (program : Program) (own : List MethodId) (m : MethodId) (this : Option ObjId) (arguments : List Value) (monitor : Option ObjId) (inner : Variables) (body : Going Completion) where
  -- a call behind its monitor: Call, the body over variables of its own, Leave, the monitor
  abbrev called : Going (Option Value)
  called = ask (deeds.Call m this arguments) (λ reply vs tape. end_call m (result_kind (method_at program m)) monitor vs (body inner tape))

  abbrev after-leave : Out Completion → Going (Option Value)
  after-leave (Got way ws rest) = exiting monitor (Got (result_of (result_kind (method_at program m)) way))
  after-leave (Threw fault ws rest) = exiting monitor (throws fault)
  after-leave (Stops deed) = Got None
  after-leave NoTurns = Got None

  stops-as : (reply : Reply) (vs : Variables) → StopsAs body inner (reply ∷ []) called vs
  stops-as reply vs tape deed e = ap (end_call m (result_kind (method_at program m)) monitor vs) e

  -- what was done from Call on, until the body came out
  body-makes : (reply : Reply) (vs : Variables) (used : Tape) (ds : List Deed) → Makes body inner [] used ds → Makes called vs [] (reply ∷ used) (deeds.Call m this arguments ∷ ds)
  body-makes reply vs used ds made = (refl, makes-as body inner (reply ∷ []) called vs (stops-as reply vs) [] used ds made)

  -- the body came out, and the Leave is next
  at-leave : (reply : Reply) (vs : Variables) (used : Tape) (ds : List Deed) (how : LeaveHow) → Makes body inner [] used ds → ((ms : List MethodId) → opened-by ds ms ≡ ms) →
      HasResult program m how → Stopped program own called vs (reply ∷ used) (deeds.Leave m how)
  at-leave reply vs used ds how made level result = record {
    does = deeds.Call m this arguments ∷ ds;
    makes = body-makes reply vs used ds made;
    inner = m ∷ [];
    opens = λ ms. level (m ∷ ms);
    at_top = (refl, result);
    resumes = tt;
  }

  -- and the Leave was made
  past-leave : (reply : Reply) (vs : Variables) (used : Tape) (ds : List Deed) (how : LeaveHow) (reply2 : Reply) (go : Going (Option Value)) →
      Makes body inner [] used ds → ((ms : List MethodId) → opened-by ds ms ≡ ms) →
      ((other : Tape) → called vs (reply ∷ (used ++ other)) ≡ ask (deeds.Leave m how) (λ reply. go) vs other) → Front program own called vs go vs (reply ∷ (used ++ reply2 ∷ []))
  past-leave reply vs used ds how reply2 go made level goes = record {
    goes = λ other. ap (λ t. called vs (reply ∷ t)) (append_assoc used (reply2 ∷ []) other) ∙ goes (reply2 ∷ other);
    does = deeds.Call m this arguments ∷ (ds ++ deeds.Leave m how ∷ []);
    makes = makes-append called vs [] (reply ∷ used) (reply2 ∷ []) (deeds.Call m this arguments ∷ ds) (deeds.Leave m how ∷ []) (body-makes reply vs used ds made)
        (ap (λ t. called vs (reply ∷ t)) (sym (append-nil used)) ∙ goes [], tt);
    level = λ ms. opened-by-append ds (deeds.Leave m how ∷ []) (m ∷ ms) ∙ ap (drop 1) (level (m ∷ ms));
  }

  left-came : (reply : Reply) (vs : Variables) (tape : Tape) (used rest : Tape) (ds : List Deed) (how : LeaveHow) (go : Going (Option Value)) → tape ≡ used ++ rest →
      Makes body inner [] used ds → ((ms : List MethodId) → opened-by ds ms ≡ ms) → HasResult program m how →
      ((other : Tape) → called vs (reply ∷ (used ++ other)) ≡ ask (deeds.Leave m how) (λ reply. go) vs other) → Even program own go →
      Came program own called vs (reply ∷ tape) (ask (deeds.Leave m how) (λ reply. go) vs rest)
  left-came reply vs tape used [] ds how go split made level result goes even =
      subst (λ t. Stopped program own called vs (reply ∷ t) (deeds.Leave m how)) (sym (split ∙ append-nil used)) (at-leave reply vs used ds how made level result)
  left-came reply vs tape used (reply2 ∷ rest) ds how go split made level result goes even =
      joined program own called vs vs go (reply ∷ tape) rest (reply ∷ (used ++ reply2 ∷ []))
      (ap (λ t. reply ∷ t) (split ∙ sym (append_assoc used (reply2 ∷ []) rest))) (past-leave reply vs used ds how reply2 go made level goes) (go vs rest) (even vs rest)

  call-came : (reply : Reply) (vs : Variables) (tape : Tape) (o : Out Completion) → Came program (m ∷ []) body inner tape o →
      Came program own called vs (reply ∷ tape) (end_call m (result_kind (method_at program m)) monitor vs o)
  call-came reply vs tape (Got way ws rest) t =
      left-came reply vs tape t.used rest t.does (Normal (result_of (result_kind (method_at program m)) way)) (exiting monitor (Got (result_of (result_kind (method_at program m)) way))) t.split t.makes t.level
      (has-result program m way) (λ other. ap (end_call m (result_kind (method_at program m)) monitor vs) (t.whatever other))
      (exiting-even program own monitor (Got (result_of (result_kind (method_at program m)) way)) (got-even program own (result_of (result_kind (method_at program m)) way)))
  call-came reply vs tape (Threw fault ws rest) t =
      left-came reply vs tape t.used rest t.does Abrupt (exiting monitor (throws fault)) t.split t.makes t.level tt
      (λ other. ap (end_call m (result_kind (method_at program m)) monitor vs) (t.whatever other)) (exiting-even program own monitor (throws fault) (throws-even program own {A = Option Value} fault))
  call-came reply vs tape (Stops deed) t = record {
    does = deeds.Call m this arguments ∷ t.does;
    makes = body-makes reply vs tape t.does t.makes;
    inner = t.inner ++ m ∷ [];
    opens = λ ms. t.opens (m ∷ ms) ∙ sym (append_assoc t.inner (m ∷ []) ms);
    at_top = at-top-more program deed (t.inner ++ m ∷ []) own t.at_top;
    resumes = resumes-as body inner (reply ∷ []) called vs (stops-as reply vs) tape deed t.resumes;
  }
  call-came reply vs tape NoTurns t = tt

  call-even : Even program (m ∷ []) body → Even program own called
  call-even even vs [] = record { does = []; makes = tt; inner = []; opens = λ ms. refl; at_top = tt; resumes = tt }
  call-even even vs (reply ∷ tape) = call-came reply vs tape (body inner tape) (even inner tape)

body-even : (program : Program) (own : List MethodId) (m : MethodId) (this : Option ObjId) (calls : Calls) (n : ℕ) → EvenCalls program (m ∷ []) calls →
    (monitor : Option ObjId) (arguments : List Value) (method : Option Method) →
    Even program own (ask (deeds.Call m this arguments) (λ reply vs tape. end_call m (result_kind (method_at program m)) monitor vs (run_body (context_of program m this calls n) method arguments tape)))
body-even program own m this calls n even monitor arguments None =
    call-even program own m this arguments monitor [] (Got Falls) (got-even program (m ∷ []) Falls)
body-even program own m this calls n even monitor arguments (Some method) =
    call-even program own m this arguments monitor (start_variables method arguments) (exec (context_of program m this calls n) method.body)
    (exec-even program (m ∷ []) (context_of program m this calls n)
    (record { get = λ cell. tt; put = λ cell value. tt; enter = λ o. tt; commit = refl; assert = λ clause env. tt }) even method.body)

call-with-even : (program : Program) (own : List MethodId) (calls : Calls) (n : ℕ) → ((inner : List MethodId) → EvenCalls program inner calls) → EvenCalls program own (call_with program calls n)
call-with-even program own calls n even m this arguments =
    entering-even program own (monitor_of (method_at program m) this) _ (body-even program own m this calls n (even (m ∷ [])) (monitor_of (method_at program m) this) arguments (method_at program m))

pub bounded-even : (program : Program) (n : ℕ) (own : List MethodId) → EvenCalls program own (bounded_call program n)
bounded-even program zero own m this arguments vs tape = tt
bounded-even program (suc n) own m this arguments vs tape =
    call-with-even program own (bounded_call program n) n (bounded-even program n) m this arguments vs tape
