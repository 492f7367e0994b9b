-- Calls, and what `new` makes, are right in the program where their arguments fit (JLS 15.9, 15.12).
use Rattle.std.proofs.Common.{◌≡◌, ◌==◌, ◌&&◌, ℕ, Bool, true, false, cond, not, List, [], ◌∷◌, ◌++◌, length, map, Option, Some, None, codes, refl, ◌∙◌, arith}
use Rattle.std.specs.Option.{option_map}
use Rattle.std.specs.Str.{bytes_eq}
use Rattle.std.proofs.lemmas.Bool.{eqb-true}
use Rattle.jr_base.specs.declared.number.Span.{Span}
use Rattle.jr_base.specs.declared.number.ClassId.{ClassId}
use Rattle.jr_base.specs.declared.number.MethodId.{MethodId}
use Rattle.jr_base.specs.declared.action.Elem.TheVariants as elem
use Rattle.jr_base.specs.declared.kind.SlotKind.{SlotKind}
use Rattle.jr_base.specs.declared.kind.SlotKind.TheVariants as kinds
use Rattle.jr_base.specs.declared.kind.ObjectCall.{ObjectCall}
use Rattle.jr_base.specs.declared.kind.ObjectCall.TheVariants as calls
use Rattle.jr_base.specs.declared.refusal.Refusal.TheVariants.{Mismatch}
use Rattle.jr_arith.specs.declared.operator.Width.{Width}
use Rattle.jr_ast.specs.declared.name.Name.{Name}
use Rattle.jr_program.specs.ClauseKinds.{IsClass}
use Rattle.jr_program.specs.Programs as parts
use Rattle.jr_program.specs.Programs.{Program, Expr, Call, CallStatic, CallOn, method_at, constructor_of}
use Rattle.jr_program.specs.WellFormed.{Scope as Place, HasKind, CallHas, ExprsHave, EffectFits, ConstructorHas}
use Rattle.jr_typing_rules.specs.declared.words.ValueType.{ValueType}
use Rattle.jr_typing_rules.specs.declared.words.ValueType.TheVariants as type
use Rattle.jr_typing_rules.specs.declared.words.MethodEntry.{MethodEntry}
use Rattle.jr_typing_rules.specs.declared.words.Members.{Members}
use Rattle.jr_typing_rules.specs.declared.words.Members.TheVariants as members
use Rattle.jr_typing_rules.specs.declared.words.Head.{Head}
use Rattle.jr_typing_rules.specs.declared.words.Library.{Library}
use Rattle.jr_typing_rules.specs.declared.words.Library.TheVariants as library
use Rattle.jr_typing_rules.specs.Answers.{Typing, Good, ◌>>=◌, require}
use Rattle.jr_typing_rules.specs.Types.{kind_of, members_of, width_to, long}
use Rattle.jr_typing_rules.specs.Names.{Text, Names, named, class_at, method_in, is_thread, is_assignable}
use Rattle.jr_typing_rules.specs.Scopes.{Scope, own_method}
use Rattle.jr_typing_rules.specs.Denotations.{Denotation, AClass, ALibrary, ASystem, AnOut, AVariable, AValue, ANothing, Value, value_of, face_of, converted, brought, exprs, Callee, OfClass, OfObject, OfMonitor, OfYield, OfSleep, Maker, MakesObject, MakesPlain, MakesThread, Arguments, monitor_call, library_callee, declared_or_library, member_callee, static_callee, callee_of_library, callee_of, own_callee_found, own_callee, own_this, formals_in, constructor_formals, maker, all_fit, fits, passed, all_brought, result_of, formals_of, monitor_formals, monitor_invoked, invoked, called, made_of, made, newly_made}
use Rattle.jr_typing_rules.specs.Agreement.{IsTypeIn, HasConstructor}
use Rattle.jr_typing_rules.proofs.Holding.{Holds, holds-then, holds-require, holds-found, holds-weaker}
use Rattle.jr_typing_rules.proofs.Items.{is-there}
use Rattle.jr_typing_rules.proofs.Known.{both}
use Rattle.jr_typing_rules.proofs.OperatorKinds.{BringsBy, Brings, assignable-brings}
use Rattle.jr_typing_rules.proofs.Running.{not-true-false}
use Rattle.jr_typing_rules.proofs.TypesNamed.{holds-cond}
use Rattle.jr_typing_rules.proofs.Denoted.{Right, Around, HasMembers, members-reference}

-- ---- arguments

converted-has : (s : Place) (w : Option Width) (from to : ValueType) (e : Expr) → BringsBy w from to → HasKind s e (kind_of from) → HasKind s (converted w e) (kind_of to)
converted-has s None from to e brings has = rw brings at has
converted-has s (Some w) from to e brings has = (rw brings.0 at has, brings.1)

-- a value that is brought to a type has its kind
pub brought-has : (s : Place) (from to : ValueType) (e : Expr) → Brings from to → HasKind s e (kind_of from) → HasKind s (brought from to e) (kind_of to)
brought-has s from to e brings has = converted-has s (width_to from to) from to e brings has

-- each argument has the kind of its type
abbrev pub ArgumentsHave : Place → List Head → List Expr → Type 0
ArgumentsHave s [] [] = Unit {0}
ArgumentsHave s [] (e ∷ es) = ⊥
ArgumentsHave s (h ∷ hs) [] = ⊥
ArgumentsHave s (h ∷ hs) (e ∷ es) = HasKind s e (kind_of h.of) × ArgumentsHave s hs es

pub one-more-has : (s : Place) (hs : List Head) (es : List Expr) (h : Head) (e : Expr) → ArgumentsHave s hs es → HasKind s e (kind_of h.of) → ArgumentsHave s (hs ++ h ∷ []) (es ++ e ∷ [])
one-more-has s [] [] h e have has = (has, tt)
one-more-has s [] (f ∷ es) h e have has = absurd have
one-more-has s (g ∷ hs) [] h e have has = absurd have
one-more-has s (g ∷ hs) (f ∷ es) h e have has = (have.0, one-more-has s hs es h e have.1 has)

-- arguments that may stand where their formals are have the kinds of these
all-brought-have : (s : Place) (names : Names) (ts : List ValueType) (hs : List Head) (es : List Expr) → length hs ≡ length ts → ArgumentsHave s hs es →
    Holds (λ u. ExprsHave s (exprs (all_brought ts hs es)) (map kind_of ts)) (all_fit names ts hs)
all-brought-have s names [] [] es same have = refl
all-brought-have s names [] (h ∷ hs) es same have = absurd (omega (arith, same))
all-brought-have s names (t ∷ ts) [] es same have = absurd (omega (arith, same))
all-brought-have s names (t ∷ ts) (h ∷ hs) [] same have = absurd have
all-brought-have s names (t ∷ ts) (h ∷ hs) (e ∷ es) same have =
    let Q = λ (u : Unit {0}). ExprsHave s (exprs (all_brought (t ∷ ts) (h ∷ hs) (e ∷ es))) (map kind_of (t ∷ ts)) in
    holds-require Q (is_assignable names h.of t) _ _ λ may.
    holds-weaker (λ u. ExprsHave s (exprs (all_brought ts hs es)) (map kind_of ts)) Q (all_fit names ts hs) (all-brought-have s names ts hs es (omega (arith, same)) have.1)
    λ u rest. (brought-has s h.of t e (assignable-brings names h.of t may) have.0, rest)

passed-have : (s : Place) (names : Names) (at : Span) (formals : List ValueType) (given : Arguments) → ArgumentsHave s given.heads given.nodes →
    Holds (λ es. ExprsHave s (exprs es) (map kind_of formals)) (passed names at formals given)
unfolding fits
passed-have s names at formals given have =
    let all = all_brought formals given.heads given.nodes in
    holds-then (λ (es : List Expr). ExprsHave s (exprs es) (map kind_of formals)) (λ (u : Unit {0}). ExprsHave s (exprs all) (map kind_of formals)) (fits names at formals given) _
    (holds-require (λ (u : Unit {0}). ExprsHave s (exprs all) (map kind_of formals)) (length given.heads == length formals) _ _
    λ same. all-brought-have s names formals given.heads given.nodes (eqb-true (length given.heads) (length formals) same) have) λ u done. done

-- ---- methods

-- the method may be called, without an object or on one
pub record MayCall (s : Place) (m : MethodEntry) (static : Bool) : Type 0 where
  pub method : parts.Method
  pub there : method_at s.program m.number ≡ Some method
  pub alike : method.is_static ≡ static
  pub constructor : method.is_constructor ≡ false
  pub formals : method.formals ≡ map kind_of m.formals
  pub result : method.result ≡ option_map kind_of m.result
  pub of_type : (t : ValueType) → m.result ≡ Some t → IsTypeIn s.program t

may-call : (s : Place) (scope : Scope) → Around s scope → (c : ClassId) (x : Text) (m : MethodEntry) (b : Bool) → method_in scope.names c x ≡ Some m → m.is_static ≡ b → MayCall s m b
may-call s scope around c x m b found is =
    let there = around.names.methods c x m found in
    record {
      method = there.0;
      there = there.1;
      alike = there.2.static ∙ is;
      constructor = there.2.constructor;
      formals = there.2.formals;
      result = there.2.result;
      of_type = λ t of. around.names.result_types c x m t found of;
    }

-- what stands before the dot has an object as its value
abbrev pub OnObject : Place → Denotation → Type 0
OnObject s d = (at : Span) → Holds (λ (v : Value). HasKind s v.node kinds.Ref) (value_of at d)

abbrev pub CalleeRight : Place → Denotation → Callee → Type 0
CalleeRight s d (OfClass m) = MayCall s m true
CalleeRight s d (OfObject m) = MayCall s m false × OnObject s d
CalleeRight s d (OfMonitor call) = OnObject s d
CalleeRight s d OfYield = Unit {0}
CalleeRight s d OfSleep = Unit {0}

static-callee : (s : Place) (scope : Scope) → Around s scope → (at : Span) (c : ClassId) (x : Text) (d : Denotation) (m : MethodEntry) → method_in scope.names c x ≡ Some m →
    Holds (CalleeRight s d) (static_callee at m)
static-callee s scope around at c x d m found =
    holds-require (CalleeRight s d) (m.is_static && not m.is_main) _ _ λ is. may-call s scope around c x m true found (both m.is_static (not m.is_main) is).0

library-callee : (s : Place) (scope : Scope) (x : Name) (t : ValueType) (d : Denotation) → Holds (λ callee. OnObject s d → CalleeRight s d callee) (library_callee scope x t)
library-callee s scope x t d =
    holds-found (λ (callee : Callee). OnObject s d → CalleeRight s d callee) (monitor_call (is_thread scope.names t) x.text) _ _ λ call found on. on

on-object : (s : Place) (d : Denotation) (t : Typing Callee) → OnObject s d → Holds (λ callee. OnObject s d → CalleeRight s d callee) t → Holds (CalleeRight s d) t
on-object s d t on give = holds-weaker (λ (callee : Callee). OnObject s d → CalleeRight s d callee) (CalleeRight s d) t give λ callee right. right on

member-callee : (s : Place) (scope : Scope) → Around s scope → (at : Span) (x : Name) (t : ValueType) (d : Denotation) (m : Members) → (HasMembers m → OnObject s d) →
    Holds (CalleeRight s d) (member_callee scope at x t m)
member-callee s scope around at x t d (members.OfArray e) on = on-object s d (library_callee scope x t) (on tt) (library-callee s scope x t d)
member-callee s scope around at x t d (members.OfClass c) on = by (method_in scope.names c x.text) refl
  where
    by : (o : Option MethodEntry) → method_in scope.names c x.text ≡ o → Holds (CalleeRight s d) (declared_or_library scope at x t o)
    by (Some m) found =
        holds-require (CalleeRight s d) (not m.is_static) _ _ λ instance. (may-call s scope around c x.text m false found (not-true-false m.is_static instance), on tt)
    by None found = on-object s d (library_callee scope x t) (on tt) (library-callee s scope x t d)
member-callee s scope around at x t d members.OfLibrary on = on-object s d (library_callee scope x t) (on tt) (library-callee s scope x t d)
member-callee s scope around at x t d members.Nothing on = tt

of-library : (s : Place) (x : Name) (d : Denotation) (l : Library) → Holds (CalleeRight s d) (callee_of_library x l)
of-library s x d library.Thread =
    holds-cond (CalleeRight s d) (bytes_eq x.text (codes "yield")) _ _ tt (holds-cond (CalleeRight s d) (bytes_eq x.text (codes "sleep")) _ _ tt tt)
of-library s x d _ = tt

pub callee-right : (s : Place) (scope : Scope) → Around s scope → (at : Span) (x : Name) (d : Denotation) → Right s d → Holds (CalleeRight s d) (callee_of scope at x (face_of d))
unfolding callee_of value_of
callee-right s scope around at x (AVariable t y) right =
    member-callee s scope around at x t (AVariable t y) (members_of t) λ has place. rw (members-reference t has) at right.0
callee-right s scope around at x (AValue t e) right = member-callee s scope around at x t (AValue t e) (members_of t) λ has place. rw (members-reference t has) at right.0
callee-right s scope around at x (AClass c) right =
    holds-found (CalleeRight s (AClass c)) (method_in scope.names c x.text) _ _ λ m found. static-callee s scope around at c x.text (AClass c) m found
callee-right s scope around at x (ALibrary l) right = of-library s x (ALibrary l) l
callee-right s scope around at x (ASystem system) right = tt
callee-right s scope around at x (AnOut system) right = holds-cond (CalleeRight s (AnOut system)) (bytes_eq x.text (codes "print")) _ _ tt tt
callee-right s scope around at x (ANothing e) right = tt

-- ---- a method of the own class

on-this : (s : Place) (scope : Scope) → Around s scope → scope.is_static ≡ false → OnObject s (own_this scope)
unfolding value_of
on-this s scope around instance at = (around.static ∙ instance, refl)

pub own-callee-right : (s : Place) (scope : Scope) → Around s scope → (at : Span) (x : Name) → Holds (CalleeRight s (own_this scope)) (own_callee scope at x)
unfolding own_callee
own-callee-right s scope around at x = by (own_method scope x.text) refl
  where
    d : Denotation
    d = own_this scope

    of_either : (m : MethodEntry) (b : Bool) → own_method scope x.text ≡ Some m → m.is_static ≡ b →
        Holds (CalleeRight s d) (cond b (static_callee at m) (require (not scope.is_static) (Mismatch at) >>= λ u. Good (OfObject m)))
    of_either m true found is = static-callee s scope around at scope.own x.text d m found
    of_either m false found is =
        holds-require (CalleeRight s d) (not scope.is_static) _ _ λ instance.
        (may-call s scope around scope.own x.text m false found is, on-this s scope around (not-true-false scope.is_static instance))

    by : (o : Option MethodEntry) → own_method scope x.text ≡ o → Holds (CalleeRight s d) (own_callee_found scope at x o)
    by (Some m) found = of_either m m.is_static found refl
    by None found =
        holds-then (CalleeRight s d) (λ (callee : Callee). OnObject s d → CalleeRight s d callee) (library_callee scope x (type.Single (elem.Class scope.own))) _
        (library-callee s scope x (type.Single (elem.Class scope.own)) d) λ callee give.
        holds-require (CalleeRight s d) (not scope.is_static) _ _ λ instance. give (on-this s scope around (not-true-false scope.is_static instance))

-- ---- calls

result-right : (s : Place) (o : Option ValueType) (call : Call) → CallHas s call (option_map kind_of o) → ((t : ValueType) → o ≡ Some t → IsTypeIn s.program t) → Right s (result_of o call)
result-right s (Some t) call has types = (has, types t refl)
result-right s None call has types = has

monitor-right : (s : Place) (o : Expr) (call : ObjectCall) (es : List Expr) (b : Bool) → HasKind s o kinds.Ref → ExprsHave s (exprs es) (map kind_of (cond b (long ∷ []) [])) →
    EffectFits s (monitor_invoked call o es)
monitor-right s o call [] b on have = on
monitor-right s o call (e ∷ es) true on have = (on, have.0)
monitor-right s o call (e ∷ es) false on have = absurd have

-- where `wait` alone may have an argument
monitor-either : (s : Place) (o : Expr) (call : ObjectCall) (count : ℕ) (es : List Expr) → HasKind s o kinds.Ref → ExprsHave s (exprs es) (map kind_of (monitor_formals count call)) →
    EffectFits s (monitor_invoked call o es)
monitor-either s o calls.Wait count es on have = monitor-right s o calls.Wait es (count == 1) on have
monitor-either s o calls.Notify count es on have = monitor-right s o calls.Notify es false on have
monitor-either s o calls.NotifyAll count es on have = monitor-right s o calls.NotifyAll es false on have
monitor-either s o calls.Start count es on have = monitor-right s o calls.Start es false on have
monitor-either s o calls.Join count es on have = monitor-right s o calls.Join es false on have

invoked-right : (s : Place) (at : Span) (callee : Callee) (d : Denotation) (count : ℕ) (es : List Expr) → CalleeRight s d callee → ExprsHave s (exprs es) (map kind_of (formals_of count callee)) →
    Holds (Right s) (invoked at callee d es)
invoked-right s at (OfClass m) d count es may have =
    result-right s m.result (CallStatic m.number (exprs es)) (may.method, may.there, may.alike, may.result, rw may.formals have) may.of_type
invoked-right s at (OfObject m) d count es right have =
    let may = right.0 in
    holds-then (Right s) (λ (v : Value). HasKind s v.node kinds.Ref) (value_of at d) _ (right.1 at) λ v on.
    result-right s m.result (CallOn v.node m.number (exprs es)) (may.method, may.there, may.alike, may.result, rw may.formals have, on, may.constructor) may.of_type
invoked-right s at (OfMonitor call) d count es right have =
    holds-then (Right s) (λ (v : Value). HasKind s v.node kinds.Ref) (value_of at d) _ (right at) λ v on. monitor-either s v.node call count es on have
invoked-right s at OfYield d count es right have = tt
invoked-right s at OfSleep d count [] right have = tt
invoked-right s at OfSleep d count (e ∷ []) right have = have.0
invoked-right s at OfSleep d count (e ∷ f ∷ es) right have = tt

pub called-right : (s : Place) (names : Names) (at : Span) (callee : Callee) (d : Denotation) (given : Arguments) → CalleeRight s d callee → ArgumentsHave s given.heads given.nodes →
    Holds (Right s) (called names at callee d given)
called-right s names at callee d given right have =
    let formals = formals_of (length given.heads) callee in
    holds-then (Right s) (λ (es : List Expr). ExprsHave s (exprs es) (map kind_of formals)) (passed names at formals given) _ (passed-have s names at formals given have)
    λ es fit. invoked-right s at callee d (length given.heads) es right fit

-- ---- what `new` makes

-- the constructor of the class, or none, has those formals
abbrev pub MakerRight : Place → Maker → Type 0
MakerRight s (MakesObject c formals) = IsClass s.program c × ConstructorHas s.program (constructor_of s.program c) (λ ks. ks ≡ map kind_of formals)
MakerRight s MakesPlain = Unit {0}
MakerRight s MakesThread = Unit {0}

constructor-has : (s : Place) (scope : Scope) → Around s scope → (c : ClassId) (o : Option MethodEntry) → HasConstructor s.program c o →
    ConstructorHas s.program (constructor_of s.program c) (λ ks. ks ≡ map kind_of (formals_in o))
constructor-has s scope around c None has = rw has refl
constructor-has s scope around c (Some e) has =
    let there = has.1 in
    let constructs = rw there.2.constructor at (around.headers e.number there.0 there.1).constructs in
    rw has.0 (there.0, there.1, constructs.1, constructs.3, there.2.formals)

formals-right : (s : Place) (scope : Scope) → Around s scope → (c : ClassId) → IsClass s.program c →
    ConstructorHas s.program (constructor_of s.program c) (λ ks. ks ≡ map kind_of (constructor_formals scope.names c))
unfolding constructor_formals class_at
formals-right s scope around c is =
    let there = is-there scope.names.classes c.0 (omega (arith, is, around.names.count)) in
    rw there.1 (constructor-has s scope around c there.0.constructor (around.names.constructors c there.0 there.1))

pub maker-right : (s : Place) (scope : Scope) → Around s scope → (at : Span) (x : Name) → Holds (MakerRight s) (maker scope at x)
unfolding maker
maker-right s scope around at x =
    holds-cond (MakerRight s) (bytes_eq x.text (codes "Object")) _ _ tt
    (holds-cond (MakerRight s) (bytes_eq x.text (codes "Thread")) _ _ tt
    (holds-cond (MakerRight s) (bytes_eq x.text (codes "Runnable")) _ _ tt
    (holds-found (MakerRight s) (named x.text scope.names.numbers) _ _ λ c found.
    let is : IsClass s.program c = around.names.classes x.text c found in (is, formals-right s scope around c is))))

constructed : (s : Place) (program : Program) (o : Option MethodId) (formals : List SlotKind) (es : parts.Exprs) → ConstructorHas program o (λ ks. ks ≡ formals) → ExprsHave s es formals →
    ConstructorHas program o (λ ks. ExprsHave s es ks)
constructed s program None formals es has have = rw has have
constructed s program (Some m) formals es has have = (has.0, has.1, has.2, has.3, rw has.4 have)

made-right : (s : Place) (at : Span) (m : Maker) (es : List Expr) → MakerRight s m → ExprsHave s (exprs es) (map kind_of (made_of m)) → Holds (Right s) (made at m es)
made-right s at (MakesObject c formals) es right have = ((constructed s s.program (constructor_of s.program c) (map kind_of formals) (exprs es) right.1 have, refl, right.0), right.0)
made-right s at MakesPlain es right have = (refl, tt)
made-right s at MakesThread [] right have = tt
made-right s at MakesThread (e ∷ []) right have = ((have.0, refl), tt)
made-right s at MakesThread (e ∷ f ∷ es) right have = tt

pub newly-right : (s : Place) (names : Names) (at : Span) (m : Maker) (given : Arguments) → MakerRight s m → ArgumentsHave s given.heads given.nodes → Holds (Right s) (newly_made names at m given)
newly-right s names at m given right have =
    holds-then (Right s) (λ (es : List Expr). ExprsHave s (exprs es) (map kind_of (made_of m))) (passed names at (made_of m) given) _ (passed-have s names at (made_of m) given have)
    λ es fit. made-right s at m es right fit
