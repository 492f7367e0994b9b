-- Each `assert` that is written in a body is kept, in source order.
use Rattle.std.proofs.Common.{◌≡◌, Bool, true, List, [], ◌∷◌, ◌++◌, length, map, not, refl, ap, sym, ◌∙◌, append_assoc, append-nil}
use Rattle.std.specs.Prelude.{nat_le, nat_lt}
use Rattle.std.proofs.lemmas.List.{map-append}
use Rattle.jr_base.specs.declared.number.Span.{Span}
use Rattle.jr_base.specs.declared.kind.SlotKind.{SlotKind}
use Rattle.jr_base.specs.declared.refusal.Refusal.TheVariants.{BadLabel}
use Rattle.jr_program.specs.WellFormed.{most_in_scope, most_parts}
use Rattle.jr_program.specs.Programs as program
use Rattle.jr_ast.specs.declared.name.Name.{Name}
use Rattle.jr_ast.specs.declared.name.TypeName.{TypeName}
use Rattle.jr_ast.specs.Statements as source
use Rattle.jr_typing_rules.specs.declared.words.ValueType.{ValueType}
use Rattle.jr_typing_rules.specs.declared.words.VariableKind.{VariableKind}
use Rattle.jr_typing_rules.specs.Answers.{Typing, Good, Bad, ◌>>=◌, require, each}
use Rattle.jr_typing_rules.specs.Statements.{Frame, State, Made, Mades, Caught, Asserted, scope_in, makes, starts, count_in_scope, has_variable, and_variable, and_local, and_caught, leaves, ends_block, type_of, initial_value, declares, declares_all, local_variables, effect, expression_statement, condition, condition_or_true, reference, returns, fault_of, throws_variable, prints, does_first, typed, all_typed, all_caught}
use Rattle.jr_typing_rules.specs.Written.{asserts_in, all_asserts_in, asserts_in_catches}
use Rattle.jr_typing_rules.proofs.Holding.{Holds, holds-next, holds-then, holds-require, holds-weaker}

-- where the asserts so far stand
abbrev pub spans : State → List Span
spans state = map (λ (a : Asserted). a.place) state.asserts

-- behind the state, these are added
abbrev pub Adds : State → List Span → State → Type 0
Adds state more after = spans after ≡ spans state ++ more

none-added : (state after : State) → spans after ≡ spans state → Adds state [] after
none-added state after e = e ∙ sym (append-nil (spans state))

one-more : (a b c : State) (xs ys : List Span) → Adds a xs b → Adds b ys c → Adds a (xs ++ ys) c
one-more a b c xs ys first second = second ∙ ap (λ s. s ++ ys) first ∙ append_assoc (spans a) xs ys

variable-adds : (frame : Frame) (state : State) (x : Name) (of : VariableKind) (kind : SlotKind) → Holds (λ after. spans after ≡ spans state) (and_variable frame state x of kind)
unfolding and_variable
variable-adds frame state x of kind =
    let Q = λ (after : State). spans after ≡ spans state in
    holds-require Q (not (has_variable state x.text)) _ _ λ new. holds-require Q (nat_lt (count_in_scope frame.is_static state) most_in_scope) _ _ λ few. refl

declares-adds : (frame : Frame) (t : ValueType) (ds : List source.Declarator) (made : Mades) → Holds (λ after. spans after.state ≡ spans made.state) (declares_all frame t made ds)
declares-adds frame t [] made = refl
declares-adds frame t (d ∷ ds) made =
    let Q = λ (after : Mades). spans after.state ≡ spans made.state in
    holds-then Q Q (declares frame t made d) _
    (holds-next Q (initial_value (scope_in frame made.state) t d.initial) _ λ e g.
    holds-then Q (λ after. spans after ≡ spans made.state) (and_local frame made.state d.name t) _ (variable-adds frame made.state d.name _ _) λ state e. e)
    λ one e. holds-weaker (λ after. spans after.state ≡ spans one.state) Q (declares_all frame t one ds) (declares-adds frame t ds one) λ after f. f ∙ e

locals-add : (frame : Frame) (state : State) (t : TypeName) (ds : List source.Declarator) → Holds (λ after. spans after.state ≡ spans state) (local_variables frame state t ds)
unfolding local_variables
locals-add frame state t ds = holds-next (λ after. spans after.state ≡ spans state) (type_of frame.names t) _ λ t g. declares-adds frame t ds (starts state)

-- a statement by an answer that leaves the state
alone : {A : Type 0} (state : State) (t : Typing A) (f : A → program.Statement) → Holds (λ (made : Made). Adds state [] made.state) (t >>= λ x. makes state (f x))
alone state (Good x) f = sym (append-nil (spans state))
alone state (Bad r) f = tt

block : (before state : State) (xs : List Span) (t : Typing Mades) → Holds (λ made. Adds state xs made.state) t → Holds (λ made. Adds state xs made.state) (t >>= ends_block before)
block before state xs (Good made) h = h
block before state xs (Bad r) h = tt

part : (before state : State) (xs : List Span) (t : Typing Made) → Holds (λ made. Adds state xs made.state) t → Holds (λ made. Adds state xs made.state) (t >>= leaves before)
part before state xs (Good made) h = h
part before state xs (Bad r) h = tt

first-adds : (frame : Frame) (state : State) (i : source.ForInit) → Holds (λ made. spans made.state ≡ spans state) (does_first frame state i)
first-adds frame state (source.Declares t ds) = locals-add frame state t ds
first-adds frame state (source.Evaluates es) = holds-next (λ made. spans made.state ≡ spans state) (each (effect (scope_in frame state)) es) _ λ ds e. refl

mutual
  typed-adds : (frame : Frame) (in_loop : Bool) (state : State) (s : source.Stmt) → Holds (λ made. Adds state (asserts_in s) made.state) (typed frame in_loop state s)
  typed-adds frame in_loop state (source.Empty at) = sym (append-nil (spans state))
  typed-adds frame in_loop state (source.Block at ss) = block state state (all_asserts_in ss) (all_typed frame in_loop (starts state) ss) (all-add frame in_loop (starts state) ss)
  typed-adds frame in_loop state (source.Locals at t ds) =
      holds-then (λ made. Adds state [] made.state) (λ made. spans made.state ≡ spans state) (local_variables frame state t ds) _ (locals-add frame state t ds)
      λ made e. none-added state made.state e
  typed-adds frame in_loop state (source.Expression at e) = alone state (expression_statement (scope_in frame state) e) (λ s. s)
  typed-adds frame in_loop state (source.If at e a) =
      let Q = λ (made : Made). Adds state (asserts_in a) made.state in
      holds-next Q (condition (scope_in frame state) e) _ λ c g.
      holds-then Q Q (typed frame in_loop state a >>= leaves state) _ (part state state (asserts_in a) (typed frame in_loop state a) (typed-adds frame in_loop state a)) λ m h. h
  typed-adds frame in_loop state (source.IfElse at e a b) =
      let Q = λ (made : Made). Adds state (asserts_in a ++ asserts_in b) made.state in
      holds-next Q (condition (scope_in frame state) e) _ λ c g.
      holds-then Q (λ (made : Made). Adds state (asserts_in a) made.state) (typed frame in_loop state a >>= leaves state) _
      (part state state (asserts_in a) (typed frame in_loop state a) (typed-adds frame in_loop state a)) λ m h.
      holds-then Q (λ (made : Made). Adds m.state (asserts_in b) made.state) (typed frame in_loop m.state b >>= leaves m.state) _
      (part m.state m.state (asserts_in b) (typed frame in_loop m.state b) (typed-adds frame in_loop m.state b)) λ n k.
      one-more state m.state n.state (asserts_in a) (asserts_in b) h k
  typed-adds frame in_loop state (source.While at e s) =
      let Q = λ (made : Made). Adds state (asserts_in s) made.state in
      holds-next Q (condition (scope_in frame state) e) _ λ c g.
      holds-then Q Q (typed frame true state s >>= leaves state) _ (part state state (asserts_in s) (typed frame true state s) (typed-adds frame true state s)) λ m h. h
  typed-adds frame in_loop state (source.Do at s e) =
      let Q = λ (made : Made). Adds state (asserts_in s) made.state in
      holds-then Q Q (typed frame true state s >>= leaves state) _ (part state state (asserts_in s) (typed frame true state s) (typed-adds frame true state s)) λ m h.
      holds-next Q (condition (scope_in frame m.state) e) _ λ c g. h
  typed-adds frame in_loop state (source.For at i c us s) =
      let Q = λ (made : Made). Adds state (asserts_in s) made.state in
      holds-then Q (λ (made : Mades). spans made.state ≡ spans state) (does_first frame state i) _ (first-adds frame state i) λ i e.
      holds-next Q (condition_or_true (scope_in frame i.state) c) _ λ c g.
      holds-next Q (each (effect (scope_in frame i.state)) us) _ λ us h.
      holds-then Q (λ (made : Made). Adds i.state (asserts_in s) made.state) (typed frame true i.state s >>= leaves state) _
      (part state i.state (asserts_in s) (typed frame true i.state s) (typed-adds frame true i.state s)) λ m k.
      k ∙ ap (λ x. x ++ asserts_in s) e
  typed-adds frame in_loop state (source.Return at e) = alone state (returns (scope_in frame state) frame.result at e) (λ s. s)
  typed-adds frame in_loop state (source.Break at) = alone state (require in_loop (BadLabel at)) (λ u. program.Break)
  typed-adds frame in_loop state (source.Continue at) = alone state (require in_loop (BadLabel at)) (λ u. program.Continue)
  typed-adds frame in_loop state (source.ThrowNew at x) = alone state (fault_of x >>= λ f. Good (program.Throw f)) (λ s. s)
  typed-adds frame in_loop state (source.ThrowVariable at x) = alone state (throws_variable (scope_in frame state) x) (λ s. s)
  typed-adds frame in_loop state (source.Try at ss cs) =
      let Q = λ (made : Made). Adds state (all_asserts_in ss ++ asserts_in_catches cs) made.state in
      holds-then Q (λ (made : Made). Adds state (all_asserts_in ss) made.state) (all_typed frame in_loop (starts state) ss >>= ends_block state) _
      (block state state (all_asserts_in ss) (all_typed frame in_loop (starts state) ss) (all-add frame in_loop (starts state) ss)) λ m h.
      holds-then Q (λ (caught : Caught). Adds m.state (asserts_in_catches cs) caught.state) (all_caught frame in_loop m.state cs) _ (caught-add frame in_loop m.state cs) λ n k.
      one-more state m.state n.state (all_asserts_in ss) (asserts_in_catches cs) h k
  typed-adds frame in_loop state (source.Synchronized at e ss) =
      let Q = λ (made : Made). Adds state (all_asserts_in ss) made.state in
      holds-next Q (reference (scope_in frame state) e) _ λ v g.
      holds-then Q Q (all_typed frame in_loop (starts state) ss >>= ends_block state) _
      (block state state (all_asserts_in ss) (all_typed frame in_loop (starts state) ss) (all-add frame in_loop (starts state) ss)) λ m h. h
  typed-adds frame in_loop state (source.Commit at s) =
      let Q = λ (made : Made). Adds state (asserts_in s) made.state in
      let inner : State = record state { has_commit = true } in
      holds-require Q (not state.has_commit) _ _ λ first.
      holds-then Q Q (typed frame in_loop inner s >>= leaves state) _ (part state inner (asserts_in s) (typed frame in_loop inner s) (typed-adds frame in_loop inner s)) λ m h. h
  typed-adds frame in_loop state (source.Print at ps) =
      let Q = λ (made : Made). Adds state [] made.state in
      holds-require Q (nat_le (length ps) most_parts) _ _ λ few.
      holds-next Q (prints frame (scope_in frame state) (record { texts = state.texts; parts = [] }) ps) _ λ p e. sym (append-nil (spans state))
  typed-adds frame in_loop state (source.Assert at e) = map-append (λ (a : Asserted). a.place) state.asserts _

  all-add : (frame : Frame) (in_loop : Bool) (before : Mades) (ss : source.Stmts) → Holds (λ made. Adds before.state (all_asserts_in ss) made.state) (all_typed frame in_loop before ss)
  all-add frame in_loop before source.no_stmt = sym (append-nil (spans before.state))
  all-add frame in_loop before (source.and_stmt s ss) =
      let Q = λ (made : Mades). Adds before.state (asserts_in s ++ all_asserts_in ss) made.state in
      holds-then Q (λ (made : Made). Adds before.state (asserts_in s) made.state) (typed frame in_loop before.state s) _ (typed-adds frame in_loop before.state s) λ m h.
      let next : Mades = record { state = m.state; statements = before.statements ++ m.statement ∷ [] } in
      holds-weaker (λ made. Adds m.state (all_asserts_in ss) made.state) Q (all_typed frame in_loop next ss) (all-add frame in_loop next ss)
      λ n k. one-more before.state m.state n.state (asserts_in s) (all_asserts_in ss) h k

  caught-add : (frame : Frame) (in_loop : Bool) (state : State) (cs : source.Catches) → Holds (λ caught. Adds state (asserts_in_catches cs) caught.state) (all_caught frame in_loop state cs)
  caught-add frame in_loop state source.no_catch = sym (append-nil (spans state))
  caught-add frame in_loop state (source.and_catch c x ss cs) =
      let Q = λ (caught : Caught). Adds state (all_asserts_in ss ++ asserts_in_catches cs) caught.state in
      holds-next Q (fault_of c) _ λ f g.
      holds-then Q (λ (after : State). spans after ≡ spans state) (and_caught frame state x) _ (variable-adds frame state x _ _) λ inner e.
      holds-then Q (λ (made : Made). Adds inner (all_asserts_in ss) made.state) (all_typed frame in_loop (starts inner) ss >>= ends_block state) _
      (block state inner (all_asserts_in ss) (all_typed frame in_loop (starts inner) ss) (all-add frame in_loop (starts inner) ss)) λ m h.
      holds-then Q (λ (caught : Caught). Adds m.state (asserts_in_catches cs) caught.state) (all_caught frame in_loop m.state cs) _ (caught-add frame in_loop m.state cs) λ n k.
      one-more state m.state n.state (all_asserts_in ss) (asserts_in_catches cs) (h ∙ ap (λ x. x ++ all_asserts_in ss) e) k

-- those of a body, behind no other
pub body-adds : (frame : Frame) (in_loop : Bool) (state : State) (ss : source.Stmts) → spans state ≡ [] → Holds (λ made. spans made.state ≡ all_asserts_in ss) (all_typed frame in_loop (starts state) ss)
body-adds frame in_loop state ss none =
    holds-weaker (λ made. Adds state (all_asserts_in ss) made.state) (λ made. spans made.state ≡ all_asserts_in ss) (all_typed frame in_loop (starts state) ss)
    (all-add frame in_loop (starts state) ss) λ made e. e ∙ ap (λ x. x ++ all_asserts_in ss) none
