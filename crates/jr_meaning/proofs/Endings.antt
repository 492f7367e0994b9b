-- A whole thread over its replies: who wants nothing more has made its End; who waits takes the monitor again; and
-- what is done in a frame is done in the newest one.
use Rattle.std.proofs.Common.{◌≡◌, ◌≢◌, ℕ, suc, ◌<◌, ◌≤◌, List, [], ◌∷◌, ◌++◌, length, Option, Some, None, refl, sym, ap, subst, ◌∙◌, append_assoc, append-nil, arith}
use Rattle.std.proofs.lemmas.List.{length-append}
use Rattle.jr_base.specs.Deed.{Deed}
use Rattle.jr_base.specs.Deed as deeds
use Rattle.jr_base.specs.declared.number.MethodId.{MethodId}
use Rattle.jr_base.specs.declared.number.ObjId.{ObjId}
use Rattle.jr_base.specs.declared.action.Body.{Body}
use Rattle.jr_base.specs.declared.action.Reply.{Reply}
use Rattle.jr_base.specs.declared.action.Reply.TheVariants as replies
use Rattle.jr_base.specs.declared.action.EndHow.TheVariants as ends
use Rattle.jr_base.specs.declared.value.Value.{Value}
use Rattle.jr_program.specs.Programs.{Program}
use Rattle.jr_meaning.specs.Next.{Tape, Out, Got, Threw, Stops, NoTurns, bounded_call, call, ending, Wants, Ended, next_in, next, HasEnded}
use Rattle.jr_meaning.proofs.Bounds.{bounds-agree, thread-sure}
use Rattle.jr_meaning.proofs.Pieces.{opened-by, AtTop, Makes, Resumes, Took, Stopped, Came}
use Rattle.jr_meaning.proofs.Calls.{bounded-even}

short : (a b : Tape) → length a ≤ length (a ++ b)
short [] b = omega arith
short (r ∷ a) b = let h = short a b in omega arith

-- bounds past the number of replies are as none
any-bound : (program : Program) (n : ℕ) (m : MethodId) (this : Option ObjId) (tape : Tape) → length tape < n →
    bounded_call program n m this [] [] tape ≡ call program m this [] [] tape
any-bound program n m this tape few =
    (bounds-agree program n (suc (length tape)) (length tape) few (omega arith) m this [] [] tape (omega arith)).one

-- ---- ends

-- over the replies that a call took it comes out as over all
took-whole : (program : Program) (n : ℕ) (m : MethodId) (this : Option ObjId) (tape rest : Tape) (out : Tape → Out (Option Value)) → length tape < n →
    (t : Took (bounded_call program n m this []) [] tape rest out) → call program m this [] [] t.used ≡ out []
took-whole program n m this tape rest out few t =
    sym (any-bound program n m this t.used (used-less t)) ∙ sym (ap (bounded_call program n m this [] []) (append-nil t.used)) ∙ t.whatever []
  where
    used-less : (t : Took (bounded_call program n m this []) [] tape rest out) → length t.used < n
    used-less t =
        let h = short t.used rest in
        let e = ap length t.split in
        omega arith

ended-by : (program : Program) (start : Body) (n : ℕ) (tape : Tape) → length tape < n → (o : Out (Option Value)) →
    Came program [] (bounded_call program n start.method start.this []) [] tape o → ending o ≢ NoTurns → next_in (ending o) ≡ Ended → HasEnded program (Some start) tape
ended-by program start n tape few (Got x vs []) t sure e = absurd cc
ended-by program start n tape few (Got x vs (reply ∷ rest)) t sure e = record {
  before = t.used;
  how = ends.Normal;
  reply = reply;
  after = rest;
  split = t.split;
  end = ap (λ o. next_in (ending o)) (took-whole program n start.method start.this tape (reply ∷ rest) (Got x vs) few t);
}
ended-by program start n tape few (Threw fault vs []) t sure e = absurd cc
ended-by program start n tape few (Threw fault vs (reply ∷ rest)) t sure e = record {
  before = t.used;
  how = ends.Uncaught fault;
  reply = reply;
  after = rest;
  split = t.split;
  end = ap (λ o. next_in (ending o)) (took-whole program n start.method start.this tape (reply ∷ rest) (Threw fault vs) few t);
}
ended-by program start n tape few (Stops deed) t sure e = absurd cc
ended-by program start n tape few NoTurns t sure e = absurd (sure refl)

-- a thread that wants nothing more has made its End
pub ends-made : (program : Program) (start : Option Body) (replies : List Reply) → next program start replies ≡ Ended → HasEnded program start replies
ends-made program None [] e = absurd cc
ends-made program None (reply ∷ rest) e = record { before = []; how = ends.Normal; reply = reply; after = rest; split = refl; end = refl }
ends-made program (Some start) replies e =
    ended-by program start (suc (length replies)) replies (omega arith) (call program start.method start.this [] [] replies)
    (bounded-even program (suc (length replies)) [] start.method start.this [] [] replies) (thread-sure program (Some start) replies) e

-- ---- what a thread did, and what it does next

-- over these replies a thread does these things, one for each reply
abbrev pub Does : Program → Option Body → Tape → Tape → List Deed → Type 0
Does program start before [] [] = Unit {0}
Does program start before [] (d ∷ ds) = ⊥
Does program start before (r ∷ tape) [] = ⊥
Does program start before (r ∷ tape) (d ∷ ds) = (next program start before ≡ Wants d) × Does program start (before ++ r ∷ []) tape ds

-- what it did left some frames open, and the next deed is done in the newest of these
pub record Next-deed (program : Program) (start : Option Body) (tape : Tape) (deed : Deed) : Type 0 where
  pub does : List Deed
  pub did : Does program start [] tape does
  pub at_top : AtTop program deed (opened-by does [])

makes-does : (program : Program) (start : Body) (n : ℕ) (before tape : Tape) (ds : List Deed) → length (before ++ tape) < n →
    Makes (bounded_call program n start.method start.this []) [] before tape ds → Does program (Some start) before tape ds
makes-does program start n before [] [] few m = tt
makes-does program start n before [] (d ∷ ds) few m = m
makes-does program start n before (r ∷ tape) [] few m = m
makes-does program start n before (r ∷ tape) (d ∷ ds) few m = (
  ap (λ o. next_in (ending o)) (sym (any-bound program n start.method start.this before (let h = short before (r ∷ tape) in omega arith)) ∙ m.0),
  makes-does program start n (before ++ r ∷ []) tape ds (subst (λ t. length t < n) (sym (append_assoc before (r ∷ []) tape)) few) m.1,
)

wanted-same : (d e : Deed) → Wants d ≡ Wants e → d ≡ e
wanted-same d e is = cc

-- what a stopped call shows of its thread
pub record Paused (program : Program) (start : Body) (tape : Tape) (deed : Deed) : Type 0 where
  pub next_deed : Next-deed program (Some start) tape deed
  pub resumes : Resumes (call program start.method start.this []) [] tape deed

resumes-call : (program : Program) (start : Body) (tape : Tape) (deed : Deed) →
    Resumes (bounded_call program (suc (suc (length tape))) start.method start.this []) [] tape deed → Resumes (call program start.method start.this []) [] tape deed
resumes-call program start tape (deeds.Wait o) e =
    sym (any-bound program (suc (suc (length tape))) start.method start.this (tape ++ replies.Unit ∷ []) (omega (arith, length-append tape (replies.Unit ∷ [])))) ∙ e
resumes-call program start tape (deeds.TimedWait o) e =
    sym (any-bound program (suc (suc (length tape))) start.method start.this (tape ++ replies.Unit ∷ []) (omega (arith, length-append tape (replies.Unit ∷ [])))) ∙ e
resumes-call program start tape _ e = tt

paused : (program : Program) (start : Body) (tape : Tape) (deed : Deed) →
    Stopped program [] (bounded_call program (suc (suc (length tape))) start.method start.this []) [] tape deed → Paused program start tape deed
paused program start tape deed t = record {
  next_deed = record {
    does = t.does;
    did = makes-does program start (suc (suc (length tape))) [] tape t.does (omega arith) t.makes;
    at_top = subst (AtTop program deed) (sym (t.opens [])) t.at_top;
  };
  resumes = resumes-call program start tape deed t.resumes;
}

-- a call that is stopped, or a thread that is at its end
data Where (program : Program) (start : Body) (tape : Tape) : Type 0 where
  in_call : (deed : Deed) → call program start.method start.this [] [] tape ≡ Stops deed → Paused program start tape deed → Where program start tape
  at_end : ((deed : Deed) → next program (Some start) tape ≡ Wants deed → (how : _) × (deed ≡ deeds.End how)) → Where program start tape

where-now : (program : Program) (start : Body) (tape : Tape) → Where program start tape
where-now program start tape = by (call program start.method start.this [] [] tape) refl came
  where
    n : ℕ
    n = suc (suc (length tape))

    came : Came program [] (bounded_call program n start.method start.this []) [] tape (call program start.method start.this [] [] tape)
    came = subst (Came program [] (bounded_call program n start.method start.this []) [] tape) (any-bound program n start.method start.this tape (omega arith)) (bounded-even program n [] start.method start.this [] [] tape)

    ends-so : (deed : Deed) (how : _) → Wants (deeds.End how) ≡ Wants deed → deed ≡ deeds.End how
    ends-so deed how e = sym (wanted-same (deeds.End how) deed e)

    by : (o : Out (Option Value)) → call program start.method start.this [] [] tape ≡ o → Came program [] (bounded_call program n start.method start.this []) [] tape o → Where program start tape
    by (Got x vs []) is t = at_end (λ deed e. (ends.Normal, ends-so deed ends.Normal (sym (ap (λ o. next_in (ending o)) is) ∙ e)))
    by (Got x vs (reply ∷ rest)) is t = at_end (λ deed e. let none = sym (ap (λ o. next_in (ending o)) is) ∙ e in cc)
    by (Threw fault vs []) is t = at_end (λ deed e. (ends.Uncaught fault, ends-so deed (ends.Uncaught fault) (sym (ap (λ o. next_in (ending o)) is) ∙ e)))
    by (Threw fault vs (reply ∷ rest)) is t = at_end (λ deed e. let none = sym (ap (λ o. next_in (ending o)) is) ∙ e in cc)
    by (Stops deed) is t = in_call deed is (paused program start tape deed t)
    by NoTurns is t = at_end (λ deed e. let none = sym (ap (λ o. next_in (ending o)) is) ∙ e in cc)

-- ---- waits

pub wait-resumes : (program : Program) (start : Option Body) (replied : List Reply) (object : ObjId) →
    next program start replied ≡ Wants (deeds.Wait object) → next program start (replied ++ replies.Unit ∷ []) ≡ Wants (deeds.Resume object)
wait-resumes program None [] object e = cc
wait-resumes program None (reply ∷ rest) object e = cc
wait-resumes program (Some start) replied object e = by (where-now program start replied)
  where
    by : Where program start replied → next program (Some start) (replied ++ replies.Unit ∷ []) ≡ Wants (deeds.Resume object)
    by (in_call deed is p) =
        let same : deed ≡ deeds.Wait object = wanted-same deed (deeds.Wait object) (sym (ap (λ o. next_in (ending o)) is) ∙ e) in
        ap (λ o. next_in (ending o)) (subst (Resumes (call program start.method start.this []) [] replied) same p.resumes)
    by (at_end all) = let end = all (deeds.Wait object) e in absurd (no-end object end.0 end.1)
      where
        no-end : (object : ObjId) (how : _) → deeds.Wait object ≡ deeds.End how → ⊥
        no-end object how e = cc

pub timed-wait-resumes : (program : Program) (start : Option Body) (replied : List Reply) (object : ObjId) →
    next program start replied ≡ Wants (deeds.TimedWait object) → next program start (replied ++ replies.Unit ∷ []) ≡ Wants (deeds.Resume object)
timed-wait-resumes program None [] object e = cc
timed-wait-resumes program None (reply ∷ rest) object e = cc
timed-wait-resumes program (Some start) replied object e = by (where-now program start replied)
  where
    by : Where program start replied → next program (Some start) (replied ++ replies.Unit ∷ []) ≡ Wants (deeds.Resume object)
    by (in_call deed is p) =
        let same : deed ≡ deeds.TimedWait object = wanted-same deed (deeds.TimedWait object) (sym (ap (λ o. next_in (ending o)) is) ∙ e) in
        ap (λ o. next_in (ending o)) (subst (Resumes (call program start.method start.this []) [] replied) same p.resumes)
    by (at_end all) = let end = all (deeds.TimedWait object) e in absurd (no-end object end.0 end.1)
      where
        no-end : (object : ObjId) (how : _) → deeds.TimedWait object ≡ deeds.End how → ⊥
        no-end object how e = cc

-- ---- frames

-- over no replies a thread has done nothing, and is in no frame
pub frame-at-top : (program : Program) (start : Option Body) (replied : List Reply) (deed : Deed) → next program start replied ≡ Wants deed →
    ((how : _) → deed ≡ deeds.End how → ⊥) → Next-deed program start replied deed
frame-at-top program None [] deed e other = absurd (other ends.Normal (sym (wanted-same (deeds.End ends.Normal) deed e)))
frame-at-top program None (reply ∷ rest) deed e other = cc
frame-at-top program (Some start) replied deed e other = by (where-now program start replied)
  where
    by : Where program start replied → Next-deed program (Some start) replied deed
    by (in_call at is p) = subst (Next-deed program (Some start) replied) (wanted-same at deed (sym (ap (λ o. next_in (ending o)) is) ∙ e)) p.next_deed
    by (at_end all) = let end = all deed e in absurd (other end.0 end.1)
