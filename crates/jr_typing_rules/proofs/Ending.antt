-- A body that ends by the rules of its source ends by those of its program (JLS 8.4.7, 14.21).
use Rattle.std.proofs.Common.{◌≡◌, ◌||◌, ◌&&◌, inl, inr, Bool, true, false, cond, List, [], ◌∷◌, ◌++◌, length, map, Option, Some, None, is_none, not, refl, ap}
use Rattle.std.specs.Prelude.{nat_le}
use Rattle.jr_base.specs.declared.number.Span.{Span}
use Rattle.jr_base.specs.declared.refusal.Refusal.TheVariants.{Mismatch}
use Rattle.jr_program.specs.Programs as program
use Rattle.jr_program.specs.Programs.{Statement, Effect}
use Rattle.jr_program.specs.WellFormed.{NoBreak, NoBreakIn, AlwaysEnds, AllEnd, most_parts}
use Rattle.jr_ast.specs.Expressions as expressions
use Rattle.jr_ast.specs.Expressions.{place_of}
use Rattle.jr_ast.specs.declared.name.Name.{Name}
use Rattle.jr_ast.specs.declared.name.TypeName.{TypeName}
use Rattle.jr_ast.specs.Statements as source
use Rattle.jr_typing_rules.specs.declared.words.ValueType.{ValueType}
use Rattle.jr_typing_rules.specs.declared.words.FieldEntry.{FieldEntry}
use Rattle.jr_typing_rules.specs.declared.words.VariableKind.{VariableKind}
use Rattle.jr_typing_rules.specs.declared.words.VariableKind.TheVariants as variable
use Rattle.jr_typing_rules.specs.Answers.{Typing, Good, Bad, ◌>>=◌, each}
use Rattle.jr_typing_rules.specs.Scopes.{Scope, Variable, variable_named, own_field}
use Rattle.jr_program.specs.StatementViews as several
use Rattle.jr_typing_rules.specs.Denotations.{Value, value_of}
use Rattle.jr_typing_rules.specs.Expressions.{value}
use Rattle.jr_typing_rules.specs.Ends.{is_true, is_missing_or_true, breaks, any_breaks, any_catch_breaks, ends, last_ends, all_catches_end}
use Rattle.jr_typing_rules.specs.Statements.{Frame, State, Made, Mades, Caught, scope_in, makes, starts, chained, leaves, ends_block, and_local, and_caught, type_of, initial_value, value_for, declares, declares_all, local_variables, effect, is_trace, expression_statement, condition, condition_or_true, reference, returns, returns_value, fault_of, throws_variable, throws_found, throws_kind, throws_field, prints, does_first, typed, all_typed, all_caught}
use Rattle.jr_typing_rules.proofs.Holding.{Holds, holds-next, holds-then, holds-require, holds-weaker, Each, Each-append}

-- ---- blocks

NoBreak-several : (xs : List Statement) → Each NoBreak xs → NoBreak (several.chained xs)
NoBreak-several [] all = tt
NoBreak-several (x ∷ xs) all = (all.0, NoBreak-several xs all.1)

NoBreak-chained : (xs : List Statement) → Each NoBreak xs → NoBreak (chained xs)
NoBreak-chained [] all = tt
NoBreak-chained (x ∷ []) all = all.0
NoBreak-chained (x ∷ y ∷ ys) all = (all.0, NoBreak-several (y ∷ ys) all.1)

ends-several : (xs : List Statement) (x : Statement) → AlwaysEnds x → AlwaysEnds (several.chained (xs ++ x ∷ []))
ends-several [] x e = inl e
ends-several (y ∷ ys) x e = inr (ends-several ys x e)

ends-chained : (xs : List Statement) (x : Statement) → AlwaysEnds x → AlwaysEnds (chained (xs ++ x ∷ []))
ends-chained [] x e = e
ends-chained (y ∷ []) x e = inr (ends-several [] x e)
ends-chained (y ∷ z ∷ zs) x e = inr (ends-several (z ∷ zs) x e)

block : (P : Statement → Type 0) (before : State) (t : Typing Mades) → Holds (λ made. P (chained made.statements)) t → Holds (λ made. P made.statement) (t >>= ends_block before)
block P before (Good made) h = h
block P before (Bad r) h = tt

part : (P : Statement → Type 0) (before : State) (t : Typing Made) → Holds (λ made. P made.statement) t → Holds (λ made. P made.statement) (t >>= leaves before)
part P before (Good made) h = h
part P before (Bad r) h = tt

one : (P : Statement → Type 0) (state : State) (t : Typing Statement) → Holds P t → Holds (λ made. P made.statement) (t >>= makes state)
one P state (Good s) h = h
one P state (Bad r) h = tt

-- ---- statements without parts

declared-plain : (frame : Frame) (t : ValueType) (ds : List source.Declarator) (made : Mades) → Each NoBreak made.statements → Holds (λ after. Each NoBreak after.statements) (declares_all frame t made ds)
declared-plain frame t [] made all = all
declared-plain frame t (d ∷ ds) made all =
    let Q = λ (after : Mades). Each NoBreak after.statements in
    holds-then Q Q (declares frame t made d) _
    (holds-next Q (initial_value (scope_in frame made.state) t d.initial) _ λ e g.
    holds-next Q (and_local frame made.state d.name t) _ λ state h. Each-append NoBreak made.statements (program.Declare (length made.state.kinds) e ∷ []) all (tt, tt))
    λ next plain. declared-plain frame t ds next plain

locals-plain : (frame : Frame) (state : State) (t : TypeName) (ds : List source.Declarator) → Holds (λ after. Each NoBreak after.statements) (local_variables frame state t ds)
unfolding local_variables
locals-plain frame state t ds = holds-next (λ after. Each NoBreak after.statements) (type_of frame.names t) _ λ t g. declared-plain frame t ds (starts state) tt

effects-plain : (ds : List Effect) → Each NoBreak (map program.Do ds)
effects-plain [] = tt
effects-plain (d ∷ ds) = (tt, effects-plain ds)

first-plain : (frame : Frame) (state : State) (i : source.ForInit) → Holds (λ made. Each NoBreak made.statements) (does_first frame state i)
first-plain frame state (source.Declares t ds) = locals-plain frame state t ds
first-plain frame state (source.Evaluates es) = holds-next (λ made. Each NoBreak made.statements) (each (effect (scope_in frame state)) es) _ λ ds e. effects-plain ds

expression-plain : (scope : Scope) (e : expressions.Expr) → Holds NoBreak (expression_statement scope e)
unfolding expression_statement
expression-plain scope e = by (is_trace scope e) (effect scope e)
  where
    by : (b : Bool) (t : Typing Effect) → Holds NoBreak (cond b (Good program.Skip) (t >>= λ d. Good (program.Do d)))
    by true t = tt
    by false (Good d) = tt
    by false (Bad r) = tt

-- what leaves the method
pub record Leaves (s : Statement) : Type 0 where
  pub ends : AlwaysEnds s
  pub stays : NoBreak s

value-leaves : (scope : Scope) (result : Option ValueType) (e : expressions.Expr) → Holds Leaves (returns_value scope result e)
value-leaves scope (Some t) e = holds-next Leaves (value_for scope t e) _ λ v g. record { ends = tt; stays = tt }
value-leaves scope None e = by (value scope e)
  where
    by : (t : Typing Value) → Holds Leaves (t >>= λ v. Bad (Mismatch (place_of e)))
    by (Good v) = tt
    by (Bad r) = tt

returns-leave : (scope : Scope) (result : Option ValueType) (at : Span) (e : Option expressions.Expr) → Holds Leaves (returns scope result at e)
unfolding returns
returns-leave scope result at (Some e) = value-leaves scope result e
returns-leave scope result at None = holds-require Leaves (is_none result) _ _ λ none. record { ends = tt; stays = tt }

throws-leave : (scope : Scope) (x : Name) → Holds Leaves (throws_variable scope x)
unfolding throws_variable
throws-leave scope x = found (variable_named scope x.text)
  where
    of_kind : (k : VariableKind) → Holds Leaves (throws_kind x k)
    of_kind (variable.Caught place) = record { ends = tt; stays = tt }
    of_kind (variable.Local t place) = tt
    of_kind variable.Arguments = tt

    of_field : (f : Option FieldEntry) → Holds Leaves (throws_field x f)
    of_field (Some f) = tt
    of_field None = tt

    found : (v : Option Variable) → Holds Leaves (throws_found scope x v)
    found (Some v) = of_kind v.kind
    found None = of_field (own_field scope x.text)

-- ---- no `break` leaves

neither : (a b : Bool) → (a || b) ≡ false → (a ≡ false) × (b ≡ false)
neither true b e = absurd (cc)
neither false b e = (refl, e)

starts-unbroken : (b : Bool) (ss : source.Stmts) → any_breaks b ss ≡ false → b ≡ false
starts-unbroken b source.no_stmt e = e
starts-unbroken b (source.and_stmt s ss) e = (neither b (breaks s) (starts-unbroken (b || breaks s) ss e)).0

mutual
  unbroken : (frame : Frame) (in_loop : Bool) (state : State) (s : source.Stmt) → breaks s ≡ false → Holds (λ made. NoBreak made.statement) (typed frame in_loop state s)
  unbroken frame in_loop state (source.Empty at) e = tt
  unbroken frame in_loop state (source.Block at ss) e =
      block NoBreak state (all_typed frame in_loop (starts state) ss)
      (holds-weaker (λ made. Each NoBreak made.statements) (λ made. NoBreak (chained made.statements)) (all_typed frame in_loop (starts state) ss) (all-unbroken frame in_loop (starts state) ss e tt)
      λ made all. NoBreak-chained made.statements all)
  unbroken frame in_loop state (source.Locals at t ds) e =
      holds-then (λ (made : Made). NoBreak made.statement) (λ made. Each NoBreak made.statements) (local_variables frame state t ds) _ (locals-plain frame state t ds)
      λ made all. NoBreak-chained made.statements all
  unbroken frame in_loop state (source.Expression at x) e = one NoBreak state (expression_statement (scope_in frame state) x) (expression-plain (scope_in frame state) x)
  unbroken frame in_loop state (source.If at x a) e =
      let Q = λ (made : Made). NoBreak made.statement in
      holds-next Q (condition (scope_in frame state) x) _ λ c g.
      holds-then Q Q (typed frame in_loop state a >>= leaves state) _ (part NoBreak state (typed frame in_loop state a) (unbroken frame in_loop state a e)) λ m h. (h, tt)
  unbroken frame in_loop state (source.IfElse at x a b) e =
      let Q = λ (made : Made). NoBreak made.statement in
      let no = neither (breaks a) (breaks b) e in
      holds-next Q (condition (scope_in frame state) x) _ λ c g.
      holds-then Q Q (typed frame in_loop state a >>= leaves state) _ (part NoBreak state (typed frame in_loop state a) (unbroken frame in_loop state a no.0)) λ m h.
      holds-then Q Q (typed frame in_loop m.state b >>= leaves m.state) _ (part NoBreak m.state (typed frame in_loop m.state b) (unbroken frame in_loop m.state b no.1)) λ n k. (h, k)
  unbroken frame in_loop state (source.While at x s) e =
      let Q = λ (made : Made). NoBreak made.statement in
      holds-next Q (condition (scope_in frame state) x) _ λ c g. holds-next Q (typed frame true state s >>= leaves state) _ λ m h. tt
  unbroken frame in_loop state (source.Do at s x) e =
      let Q = λ (made : Made). NoBreak made.statement in
      holds-next Q (typed frame true state s >>= leaves state) _ λ m h. holds-next Q (condition (scope_in frame m.state) x) _ λ c g. tt
  unbroken frame in_loop state (source.For at i c us s) e =
      let Q = λ (made : Made). NoBreak made.statement in
      holds-then Q (λ made. Each NoBreak made.statements) (does_first frame state i) _ (first-plain frame state i) λ i all.
      holds-next Q (condition_or_true (scope_in frame i.state) c) _ λ c g.
      holds-next Q (each (effect (scope_in frame i.state)) us) _ λ us h.
      holds-next Q (typed frame true i.state s >>= leaves state) _ λ m k.
      NoBreak-chained (i.statements ++ program.Loop c us m.statement ∷ []) (Each-append NoBreak i.statements (program.Loop c us m.statement ∷ []) all (tt, tt))
  unbroken frame in_loop state (source.Return at x) e =
      one NoBreak state (returns (scope_in frame state) frame.result at x)
      (holds-weaker Leaves NoBreak (returns (scope_in frame state) frame.result at x) (returns-leave (scope_in frame state) frame.result at x) λ s l. l.stays)
  unbroken frame in_loop state (source.Break at) e = absurd (cc)
  unbroken frame in_loop state (source.Continue at) e = holds-require (λ (made : Made). NoBreak made.statement) in_loop _ _ λ u. tt
  unbroken frame in_loop state (source.ThrowNew at x) e =
      one NoBreak state (fault_of x >>= λ f. Good (program.Throw f)) (holds-next NoBreak (fault_of x) _ λ f g. tt)
  unbroken frame in_loop state (source.ThrowVariable at x) e =
      one NoBreak state (throws_variable (scope_in frame state) x)
      (holds-weaker Leaves NoBreak (throws_variable (scope_in frame state) x) (throws-leave (scope_in frame state) x) λ s l. l.stays)
  unbroken frame in_loop state (source.Try at ss cs) e =
      let Q = λ (made : Made). NoBreak made.statement in
      let no = neither (any_breaks false ss) (any_catch_breaks cs) e in
      holds-then Q Q (all_typed frame in_loop (starts state) ss >>= ends_block state) _
      (block NoBreak state (all_typed frame in_loop (starts state) ss)
      (holds-weaker (λ made. Each NoBreak made.statements) (λ made. NoBreak (chained made.statements)) (all_typed frame in_loop (starts state) ss) (all-unbroken frame in_loop (starts state) ss no.0 tt)
      λ made all. NoBreak-chained made.statements all)) λ m h.
      holds-then Q (λ (caught : Caught). NoBreakIn caught.catches) (all_caught frame in_loop m.state cs) _ (catches-unbroken frame in_loop m.state cs no.1) λ n k. (h, k)
  unbroken frame in_loop state (source.Synchronized at x ss) e =
      let Q = λ (made : Made). NoBreak made.statement in
      holds-next Q (reference (scope_in frame state) x) _ λ v g.
      holds-then Q Q (all_typed frame in_loop (starts state) ss >>= ends_block state) _
      (block NoBreak state (all_typed frame in_loop (starts state) ss)
      (holds-weaker (λ made. Each NoBreak made.statements) (λ made. NoBreak (chained made.statements)) (all_typed frame in_loop (starts state) ss) (all-unbroken frame in_loop (starts state) ss e tt)
      λ made all. NoBreak-chained made.statements all)) λ m h. h
  unbroken frame in_loop state (source.Commit at s) e =
      let Q = λ (made : Made). NoBreak made.statement in
      let inner : State = record state { has_commit = true } in
      holds-require Q (not state.has_commit) _ _ λ first.
      holds-then Q Q (typed frame in_loop inner s >>= leaves state) _ (part NoBreak state (typed frame in_loop inner s) (unbroken frame in_loop inner s e)) λ m h. h
  unbroken frame in_loop state (source.Print at ps) e =
      let Q = λ (made : Made). NoBreak made.statement in
      holds-require Q (nat_le (length ps) most_parts) _ _ λ few.
      holds-next Q (prints frame (scope_in frame state) (record { texts = state.texts; parts = [] }) ps) _ λ p g. tt
  unbroken frame in_loop state (source.Assert at x) e = tt

  all-unbroken : (frame : Frame) (in_loop : Bool) (before : Mades) (ss : source.Stmts) → any_breaks false ss ≡ false → Each NoBreak before.statements →
      Holds (λ made. Each NoBreak made.statements) (all_typed frame in_loop before ss)
  all-unbroken frame in_loop before source.no_stmt e all = all
  all-unbroken frame in_loop before (source.and_stmt s ss) e all =
      let Q = λ (made : Mades). Each NoBreak made.statements in
      let no : breaks s ≡ false = starts-unbroken (breaks s) ss e in
      let rest : any_breaks false ss ≡ false = rw no at e in
      holds-then Q (λ (made : Made). NoBreak made.statement) (typed frame in_loop before.state s) _ (unbroken frame in_loop before.state s no) λ m h.
      all-unbroken frame in_loop (record { state = m.state; statements = before.statements ++ m.statement ∷ [] }) ss rest (Each-append NoBreak before.statements (m.statement ∷ []) all (h, tt))

  catches-unbroken : (frame : Frame) (in_loop : Bool) (state : State) (cs : source.Catches) → any_catch_breaks cs ≡ false → Holds (λ caught. NoBreakIn caught.catches) (all_caught frame in_loop state cs)
  catches-unbroken frame in_loop state source.no_catch e = tt
  catches-unbroken frame in_loop state (source.and_catch c x ss cs) e =
      let Q = λ (caught : Caught). NoBreakIn caught.catches in
      let no = neither (any_breaks false ss) (any_catch_breaks cs) e in
      holds-next Q (fault_of c) _ λ f g.
      holds-next Q (and_caught frame state x) _ λ inner g.
      holds-then Q (λ (made : Made). NoBreak made.statement) (all_typed frame in_loop (starts inner) ss >>= ends_block state) _
      (block NoBreak state (all_typed frame in_loop (starts inner) ss)
      (holds-weaker (λ made. Each NoBreak made.statements) (λ made. NoBreak (chained made.statements)) (all_typed frame in_loop (starts inner) ss) (all-unbroken frame in_loop (starts inner) ss no.0 tt)
      λ made all. NoBreak-chained made.statements all)) λ m h.
      holds-then Q Q (all_caught frame in_loop m.state cs) _ (catches-unbroken frame in_loop m.state cs no.1) λ n k. (h, k)

-- ---- what ends

both-true : (a b : Bool) → (a && b) ≡ true → (a ≡ true) × (b ≡ true)
both-true true b e = (refl, e)
both-true false b e = absurd (cc)

not-broken : (b : Bool) → not b ≡ true → b ≡ false
not-broken true e = absurd (cc)
not-broken false e = refl

where-true : {A : Type 0} (P : A → Type 0) (b : Bool) (t : Typing A) → (b ≡ true → Holds P t) → Holds (λ x. b ≡ true → P x) t
where-true P b (Good x) h = h
where-true P b (Bad r) h = tt

condition-true : (scope : Scope) (e : expressions.Expr) → is_true e ≡ true → Holds (λ (v : Value). v.node ≡ program.Truth true) (condition scope e)
unfolding condition value_of
condition-true scope (expressions.Boolean at b) e = ap program.Truth e
condition-true scope _ e = absurd (cc)

missing-true : (scope : Scope) (e : Option expressions.Expr) → is_missing_or_true e ≡ true → Holds (λ c. c ≡ program.Truth true) (condition_or_true scope e)
missing-true scope (Some x) e = holds-then (λ c. c ≡ program.Truth true) (λ (v : Value). v.node ≡ program.Truth true) (condition scope x) _ (condition-true scope x e) λ v t. t
missing-true scope None e = refl

mutual
  always : (frame : Frame) (in_loop : Bool) (state : State) (s : source.Stmt) → ends s ≡ true → Holds (λ made. AlwaysEnds made.statement) (typed frame in_loop state s)
  always frame in_loop state (source.Block at ss) e = block AlwaysEnds state (all_typed frame in_loop (starts state) ss) (last frame in_loop (starts state) ss false (λ t. absurd (cc)) e)
  always frame in_loop state (source.IfElse at x a b) e =
      let Q = λ (made : Made). AlwaysEnds made.statement in
      let all = both-true (ends a) (ends b) e in
      holds-next Q (condition (scope_in frame state) x) _ λ c g.
      holds-then Q Q (typed frame in_loop state a >>= leaves state) _ (part AlwaysEnds state (typed frame in_loop state a) (always frame in_loop state a all.0)) λ m h.
      holds-then Q Q (typed frame in_loop m.state b >>= leaves m.state) _ (part AlwaysEnds m.state (typed frame in_loop m.state b) (always frame in_loop m.state b all.1)) λ n k. (h, k)
  always frame in_loop state (source.While at x s) e =
      let Q = λ (made : Made). AlwaysEnds made.statement in
      let all = both-true (is_true x) (not (breaks s)) e in
      holds-then Q (λ (v : Value). v.node ≡ program.Truth true) (condition (scope_in frame state) x) _ (condition-true (scope_in frame state) x all.0) λ c t.
      holds-then Q (λ (made : Made). NoBreak made.statement) (typed frame true state s >>= leaves state) _
      (part NoBreak state (typed frame true state s) (unbroken frame true state s (not-broken (breaks s) all.1))) λ m h. (t, h)
  always frame in_loop state (source.Do at s x) e =
      let Q = λ (made : Made). AlwaysEnds made.statement in
      let all = both-true (is_true x) (not (breaks s)) e in
      holds-then Q (λ (made : Made). NoBreak made.statement) (typed frame true state s >>= leaves state) _
      (part NoBreak state (typed frame true state s) (unbroken frame true state s (not-broken (breaks s) all.1))) λ m h.
      holds-then Q (λ (v : Value). v.node ≡ program.Truth true) (condition (scope_in frame m.state) x) _ (condition-true (scope_in frame m.state) x all.0) λ c t. (t, h)
  always frame in_loop state (source.For at i c us s) e =
      let Q = λ (made : Made). AlwaysEnds made.statement in
      let all = both-true (is_missing_or_true c) (not (breaks s)) e in
      holds-next Q (does_first frame state i) _ λ i g.
      holds-then Q (λ (c : program.Expr). c ≡ program.Truth true) (condition_or_true (scope_in frame i.state) c) _ (missing-true (scope_in frame i.state) c all.0) λ c t.
      holds-next Q (each (effect (scope_in frame i.state)) us) _ λ us h.
      holds-then Q (λ (made : Made). NoBreak made.statement) (typed frame true i.state s >>= leaves state) _
      (part NoBreak state (typed frame true i.state s) (unbroken frame true i.state s (not-broken (breaks s) all.1))) λ m k.
      ends-chained i.statements (program.Loop c us m.statement) (t, k)
  always frame in_loop state (source.Return at x) e =
      one AlwaysEnds state (returns (scope_in frame state) frame.result at x)
      (holds-weaker Leaves AlwaysEnds (returns (scope_in frame state) frame.result at x) (returns-leave (scope_in frame state) frame.result at x) λ s l. l.ends)
  always frame in_loop state (source.ThrowNew at x) e =
      one AlwaysEnds state (fault_of x >>= λ f. Good (program.Throw f)) (holds-next AlwaysEnds (fault_of x) _ λ f g. tt)
  always frame in_loop state (source.ThrowVariable at x) e =
      one AlwaysEnds state (throws_variable (scope_in frame state) x)
      (holds-weaker Leaves AlwaysEnds (throws_variable (scope_in frame state) x) (throws-leave (scope_in frame state) x) λ s l. l.ends)
  always frame in_loop state (source.Try at ss cs) e =
      let Q = λ (made : Made). AlwaysEnds made.statement in
      let all = both-true (last_ends false ss) (all_catches_end cs) e in
      holds-then Q Q (all_typed frame in_loop (starts state) ss >>= ends_block state) _
      (block AlwaysEnds state (all_typed frame in_loop (starts state) ss) (last frame in_loop (starts state) ss false (λ t. absurd (cc)) all.0)) λ m h.
      holds-then Q (λ (caught : Caught). AllEnd caught.catches) (all_caught frame in_loop m.state cs) _ (all-catches frame in_loop m.state cs all.1) λ n k. (h, k)
  always frame in_loop state (source.Synchronized at x ss) e =
      let Q = λ (made : Made). AlwaysEnds made.statement in
      holds-next Q (reference (scope_in frame state) x) _ λ v g.
      holds-then Q Q (all_typed frame in_loop (starts state) ss >>= ends_block state) _
      (block AlwaysEnds state (all_typed frame in_loop (starts state) ss) (last frame in_loop (starts state) ss false (λ t. absurd (cc)) e)) λ m h. h
  always frame in_loop state (source.Commit at s) e =
      let Q = λ (made : Made). AlwaysEnds made.statement in
      let inner : State = record state { has_commit = true } in
      holds-require Q (not state.has_commit) _ _ λ first.
      holds-then Q Q (typed frame in_loop inner s >>= leaves state) _ (part AlwaysEnds state (typed frame in_loop inner s) (always frame in_loop inner s e)) λ m h. h
  always frame in_loop state _ e = absurd (cc)

  -- the last statement of a block ends, or where there is none, what stands before
  last : (frame : Frame) (in_loop : Bool) (before : Mades) (ss : source.Stmts) (b : Bool) → (b ≡ true → AlwaysEnds (chained before.statements)) → last_ends b ss ≡ true →
      Holds (λ made. AlwaysEnds (chained made.statements)) (all_typed frame in_loop before ss)
  last frame in_loop before source.no_stmt b start e = start e
  last frame in_loop before (source.and_stmt s ss) b start e =
      let Q = λ (made : Mades). AlwaysEnds (chained made.statements) in
      holds-then Q (λ (made : Made). ends s ≡ true → AlwaysEnds made.statement) (typed frame in_loop before.state s) _
      (where-true (λ (made : Made). AlwaysEnds made.statement) (ends s) (typed frame in_loop before.state s) (always frame in_loop before.state s)) λ m h.
      last frame in_loop (record { state = m.state; statements = before.statements ++ m.statement ∷ [] }) ss (ends s) (λ t. ends-chained before.statements m.statement (h t)) e

  all-catches : (frame : Frame) (in_loop : Bool) (state : State) (cs : source.Catches) → all_catches_end cs ≡ true → Holds (λ caught. AllEnd caught.catches) (all_caught frame in_loop state cs)
  all-catches frame in_loop state source.no_catch e = tt
  all-catches frame in_loop state (source.and_catch c x ss cs) e =
      let Q = λ (caught : Caught). AllEnd caught.catches in
      let all = both-true (last_ends false ss) (all_catches_end cs) e in
      holds-next Q (fault_of c) _ λ f g.
      holds-next Q (and_caught frame state x) _ λ inner g.
      holds-then Q (λ (made : Made). AlwaysEnds made.statement) (all_typed frame in_loop (starts inner) ss >>= ends_block state) _
      (block AlwaysEnds state (all_typed frame in_loop (starts inner) ss) (last frame in_loop (starts inner) ss false (λ t. absurd (cc)) all.0)) λ m h.
      holds-then Q Q (all_caught frame in_loop m.state cs) _ (all-catches frame in_loop m.state cs all.1) λ n k. (h, k)

-- a body whose last statement ends
pub body-ends : (frame : Frame) (state : State) (ss : source.Stmts) → last_ends false ss ≡ true → Holds (λ made. AlwaysEnds (chained made.statements)) (all_typed frame false (starts state) ss)
body-ends frame state ss e = last frame false (starts state) ss false (λ t. absurd (cc)) e
