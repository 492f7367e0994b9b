-- A method, of which the heading is typed, where its body is typed.
use Rattle.std.proofs.Common.{◌≡◌, ℕ, ◌+◌, List, [], ◌∷◌, ◌++◌, length, map, Bool, false, Option, refl, ap}
use Rattle.std.specs.Borrow.{Bor}
use Rattle.std.proofs.lemmas.List.{map-append}
use Rattle.jr_base.specs.declared.number.ClassId.{ClassId}
use Rattle.jr_base.specs.declared.number.MethodId.{MethodId}
use Rattle.jr_base.specs.declared.kind.SlotKind.{SlotKind}
use Rattle.jr_base.specs.declared.refusal.Fail.{Fail}
use Rattle.jr_base.specs.declared.refusal.Fail.TheVariants.{Refused, Memory}
use Rattle.jr_program.specs.Programs.{Statement}
use Rattle.jr_ast.specs.declared.unit.Formal.{Formal}
use Rattle.jr_ast.specs.Units as unit
use Rattle.jr_typing_rules.specs.declared.words.ValueType.{ValueType}
use Rattle.jr_typing_rules.specs.Answers.{Typing, Good, Bad, ◌>>=◌}
use Rattle.jr_typing_rules.specs.Types.{kind_of}
use Rattle.jr_typing_rules.specs.Modifiers.{has, is_static_kind}
use Rattle.jr_typing_rules.specs.Names.{Names}
use Rattle.jr_typing_rules.specs.Scopes.{Variable}
use Rattle.jr_typing_rules.specs.Statements.{Frame, State, Made, Mades, Asserted, all_typed, as_one, chained, starts}
use Rattle.jr_typing_rules.specs.Declarations.{Counts, Coded, MadeMember, MadeMethod, Method, is_constructor, formal_variables, frame_of, first_state, made_method, clauses_before_body}
use Rattle.jr_names.specs.Answered.{Fails}
use Rattle.jr_typing.specs.declared.coded.Coded.{Coded as CodedTree}
use Rattle.jr_typing.specs.declared.scope.Variable.{Variable as VariableTree}
use Rattle.jr_typing.specs.declared.made.MadeMember.{MadeMember as MemberTree}
use Rattle.jr_typing.specs.declared.made.MadeMember.TheVariants as members
use Rattle.jr_typing.specs.declared.coded.MethodTyped.{MethodTyped as TypedTree}
use Rattle.jr_typing.specs.Headed.{MethodTyped, typed_method, and_headed}
use Rattle.jr_typing.specs.MadeViews.{view_coded, view_member, view_typed}
use Rattle.jr_typing.specs.StatementViews.{body_typed, view_texts}
use Rattle.jr_typing.specs.Views.{view_variable}
use Rattle.jr_typing.proofs.Lists.{map_append}

abbrev pub made_as : unit.Method → MethodId → ClassId → Bool → Bool → Option ValueType → List Variable → List SlotKind → List SlotKind → Bool → Statement → List Asserted → MadeMethod
made_as source number class is_static is_constructor result formals formal_kinds kinds has_commit body asserts = record {
  source = source;
  number = number;
  class = class;
  is_static = is_static;
  is_constructor = is_constructor;
  result = result;
  formals = formals;
  formal_kinds = formal_kinds;
  kinds = kinds;
  has_commit = has_commit;
  body = body;
  asserts = asserts;
}

-- what comes of statements that are made, comes of the one statement that they are
one_goes_on : {A : Type 0} (is : Typing Mades) (m : Made) (then : Made → A) → (is >>= as_one) ≡ Good m
    → (is >>= λ made. Good (then (record { state = made.state; statement = chained made.statements }))) ≡ Good (then m)
one_goes_on (Good made) m then is = ap (λ one. one >>= λ m. Good (then m)) is
one_goes_on (Bad r) m then is = ap (λ one. one >>= λ m. Good (then m)) is

one_fails : {A : Type 0} (is : Typing Mades) (then : Mades → Typing A) (e : Fail) → Fails e (is >>= as_one) → Fails e (is >>= then)
one_fails is then Memory h = tt
one_fails (Good made) then (Refused r) h = absurd (cc)
one_fails (Bad s) then (Refused r) h = ap (λ one. one >>= λ m. Bad s) h

-- the method, of which the body is known as one statement
abbrev pub method_of : ClassId → Counts → unit.Method → Option ValueType → List ValueType → Made → MadeMethod
method_of own counts m result formals made =
    made_as m (record { 0 = counts.methods }) own (has is_static_kind m.modifiers) (is_constructor m.kind) result (formal_variables 0 m.formals formals) (map kind_of formals)
    made.state.kinds made.state.has_commit made.statement made.state.asserts

abbrev pub typed_of : ClassId → Counts → unit.Method → Option ValueType → List ValueType → Made → MethodTyped
typed_of own counts m result formals made = record { method = method_of own counts m result formals made; texts = made.state.texts }

abbrev pub typed_as : MadeMethod → List (List ℕ) → Typing MethodTyped
typed_as method texts = Good (record { method = method; texts = texts })

pub typed_made : (names : Names) (own : ClassId) (counts : Counts) (m : unit.Method) (of : Option ValueType) (types : List ValueType) (frame : Frame) (state : State) (made : Made)
    → frame ≡ frame_of names own counts m of → state ≡ first_state m types → body_typed frame state m.body ≡ Good made
    → typed_method names own counts m of types ≡ Good (typed_of own counts m of types made)
typed_made names own counts m of types frame state made frame_is state_is is =
    one_goes_on (all_typed (frame_of names own counts m of) false (starts (first_state m types)) m.body) made (typed_of own counts m of types) (rw (← frame_is, ← state_is) is)

pub typed_fails : (names : Names) (own : ClassId) (counts : Counts) (m : unit.Method) (of : Option ValueType) (types : List ValueType) (frame : Frame) (state : State) (e : Fail)
    → frame ≡ frame_of names own counts m of → state ≡ first_state m types → Fails e (body_typed frame state m.body)
    → Fails e (typed_method names own counts m of types)
typed_fails names own counts m of types frame state e frame_is state_is is =
    one_fails (all_typed (frame_of names own counts m of) false (starts (first_state m types)) m.body)
    (λ made. Good (record { method = made_method own counts m of types made; texts = made.state.texts }))
    e (rw (← frame_is, ← state_is) is)

-- ---- behind the members before it

regrouped : {A B C : Type 0} (is : Typing A) (f : A → B) (g : B → C) (b : B) → (is >>= λ a. Good (f a)) ≡ Good b → (is >>= λ a. Good (g (f a))) ≡ Good (g b)
regrouped (Good a) f g b is = ap (λ one. one >>= λ b. Good (g b)) is
regrouped (Bad r) f g b is = ap (λ one. one >>= λ b. Good (g b)) is

still_fails : {A B C : Type 0} (is : Typing A) (f : A → B) (g : B → C) (e : Fail) → Fails e (is >>= λ a. Good (f a)) → Fails e (is >>= λ a. Good (g (f a)))
still_fails is f g Memory h = tt
still_fails (Good a) f g (Refused r) h = absurd (cc)
still_fails (Bad s) f g (Refused r) h = ap (λ one. one >>= λ b. Good (g b)) h

abbrev pub and_typed : Coded → unit.Method → MethodTyped → Coded
and_typed before m t = record {
  counts = record before.counts {
    methods = before.counts.methods + 1;
    clauses = before.counts.clauses + clauses_before_body m + length t.method.asserts;
    texts = before.counts.texts ++ t.texts;
  };
  members = before.members ++ Method t.method ∷ [];
}

pub headed_made : (names : Names) (own : ClassId) (before : Coded) (m : unit.Method) (of : Option ValueType) (types : List ValueType) (t : MethodTyped)
    → typed_method names own before.counts m of types ≡ Good t → and_headed names own before m of types ≡ Good (and_typed before m t)
headed_made names own before m of types t is =
    regrouped (all_typed (frame_of names own before.counts m of) false (starts (first_state m types)) m.body)
    (λ made. record { method = made_method own before.counts m of types made; texts = made.state.texts }) (and_typed before m) t is

pub headed_fails : (names : Names) (own : ClassId) (before : Coded) (m : unit.Method) (of : Option ValueType) (types : List ValueType) (e : Fail)
    → Fails e (typed_method names own before.counts m of types) → Fails e (and_headed names own before m of types)
headed_fails names own before m of types e h =
    still_fails (all_typed (frame_of names own before.counts m of) false (starts (first_state m types)) m.body)
    (λ made. record { method = made_method own before.counts m of types made; texts = made.state.texts }) (and_typed before m) e h

-- what is known before a body, where its formals are variables
pub first_known : (m : unit.Method) (types : List ValueType) (formals : List Formal) (vs ws : List VariableTree) (kinds : List SlotKind) (state : State)
    → state ≡ record { variables = map view_variable vs; kinds = kinds; has_commit = false; asserts = []; texts = [] } → vs ≡ ws
    → map view_variable ws ≡ formal_variables 0 formals types → formals ≡ m.formals → kinds ≡ map kind_of types → state ≡ first_state m types
first_known m types formals vs ws kinds state state_is vs_is ws_is formals_is kinds_is = rw (state_is, vs_is, ws_is, formals_is, kinds_is) refl

pub made_alike : (source : unit.Method) (number : MethodId) (class : ClassId) (result : Option ValueType) (kinds : List SlotKind) (has_commit : Bool) (body : Statement) (asserts : List Asserted)
    (s s' k k' : Bool) (fs fs' : List Variable) (ks ks' : List SlotKind) → s ≡ s' → k ≡ k' → fs ≡ fs' → ks ≡ ks'
    → made_as source number class s k result fs ks kinds has_commit body asserts ≡ made_as source number class s' k' result fs' ks' kinds has_commit body asserts
made_alike source number class result kinds has_commit body asserts s s' k k' fs fs' ks ks' s_is k_is fs_is ks_is = rw (s_is, k_is, fs_is, ks_is) refl

abbrev pub coded_of : ℕ → ℕ → ℕ → List (List ℕ) → List MadeMember → Coded
coded_of fields methods clauses texts members = record { counts = record { fields = fields; methods = methods; clauses = clauses; texts = texts }; members = members }

-- what the counts and the members are behind a method
pub method_pushed : (before : CodedTree) (m : unit.Method) (t : TypedTree) (methods clauses : ℕ) (texts : List (Bor (List ℕ))) (all : List MemberTree)
    → methods ≡ before.counts.methods + 1
    → clauses ≡ before.counts.clauses + clauses_before_body m + length (view_typed t).method.asserts
    → texts ≡ before.counts.texts ++ t.texts
    → all ≡ before.members.items ++ members.Method t.method ∷ []
    → and_typed (view_coded before) m (view_typed t) ≡ coded_of before.counts.fields methods clauses (view_texts texts) (map view_member all)
method_pushed before m t methods clauses texts all methods_is clauses_is texts_is all_is =
    rw (methods_is, clauses_is, texts_is, all_is, map-append (λ (t : Bor (List ℕ)). t.now) before.counts.texts t.texts, map_append view_member before.members.items (members.Method t.method)) refl
