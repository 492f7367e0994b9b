-- A statement that is made fits its program, and so does a body (JLS 14).
use Rattle.std.proofs.Common.{Bool, true, false, [], ◌∷◌, ◌++◌, not, refl}
use Rattle.jr_base.specs.declared.kind.SlotKind.TheVariants as kinds
use Rattle.jr_ast.specs.Expressions as expressions
use Rattle.jr_ast.specs.Statements as source
use Rattle.jr_program.specs.Programs as program
use Rattle.jr_program.specs.Programs.{Statement}
use Rattle.jr_program.specs.WellFormed.{HasKind, EffectsFit, Fits, CatchesFit}
use Rattle.jr_typing_rules.specs.Answers.{Typing, Good, Bad, ◌>>=◌, each}
use Rattle.jr_typing_rules.specs.Statements.{State, Made, Mades, Caught, scope_in, starts, leaves, ends_block, and_caught, local_variables, effect, expression_statement, condition, condition_or_true, reference, returns, fault_of, throws_variable, does_first, typed, all_typed, all_caught}
use Rattle.jr_typing_rules.proofs.Holding.{Holds, holds-next, holds-then, holds-require, Each-append}
use Rattle.jr_typing_rules.proofs.Evaluated.{IsCondition, IsReference}
use Rattle.jr_typing_rules.proofs.StatesGrow.{Body, InProgram, place_in, Grows, grows-then, Stands, Follows, follows-self, follows-then, around, Adds, caught-added, left-grows, follows-left, committed}
use Rattle.jr_typing_rules.proofs.SimpleFits.{MadeFits, MadesFit, later, alone, chained-fits, condition-fits, or-true-fits, reference-fits, effects-fit, expression-fits, returns-fits, throws-fits}
use Rattle.jr_typing_rules.proofs.LocalsFit.{locals-fit, first-fits}
use Rattle.jr_typing_rules.proofs.PrintedFits.{printed-fits, asserts-fits}

-- ---- blocks and parts

abbrev CaughtFits : Body → Bool → State → Caught → Type 0
CaughtFits w in_loop state caught = Follows w state caught.state × (Grows caught.state w.last → CatchesFit (place_in w in_loop) caught.catches)

block : (w : Body) (in_loop : Bool) (before state : State) (t : Typing Mades) → Holds (MadesFit w in_loop state) t → Holds (MadeFits w in_loop state) (t >>= ends_block before)
block w in_loop before state (Good made) fits =
    (follows-left w before state made.state fits.0, λ end. chained-fits (place_in w in_loop) made.statements (fits.1 (left-grows before made.state w.last end)))
block w in_loop before state (Bad r) fits = tt

part : (w : Body) (in_loop : Bool) (before state : State) (t : Typing Made) → Holds (MadeFits w in_loop state) t → Holds (MadeFits w in_loop state) (t >>= leaves before)
part w in_loop before state (Good made) fits = (follows-left w before state made.state fits.0, λ end. fits.1 (left-grows before made.state w.last end))
part w in_loop before state (Bad r) fits = tt

-- a condition, where what stands behind it is part of the body
condition-later : (w : Body) → InProgram w → (in_loop : Bool) (state : State) → Stands w state → (e : expressions.Expr) →
    Holds (λ c. Grows state w.last → IsCondition (place_in w in_loop) c) (condition (scope_in w.frame state) e)
condition-later w there in_loop state stands e =
    let s = place_in w in_loop in
    later (Grows state w.last) (IsCondition s) (condition (scope_in w.frame state) e)
    λ grows. condition-fits s (scope_in w.frame state) (around w there in_loop state stands grows) e

-- ---- statements

mutual
  typed-fits : (w : Body) → InProgram w → (in_loop : Bool) (state : State) → Stands w state → (s : source.Stmt) → Holds (MadeFits w in_loop state) (typed w.frame in_loop state s)
  typed-fits w there in_loop state stands (source.Empty at) = (follows-self w state stands, λ end. tt)
  typed-fits w there in_loop state stands (source.Block at ss) =
      block w in_loop state state (all_typed w.frame in_loop (starts state) ss) (all-fit w there in_loop state (starts state) (follows-self w state stands, λ end. tt) ss)
  typed-fits w there in_loop state stands (source.Locals at t ds) =
      holds-then (MadeFits w in_loop state) (MadesFit w in_loop state) (local_variables w.frame state t ds) _ (locals-fit w there in_loop state stands t ds)
      λ made fits. (fits.0, λ end. chained-fits (place_in w in_loop) made.statements (fits.1 end))
  typed-fits w there in_loop state stands (source.Expression at e) =
      alone w in_loop state (expression_statement (scope_in w.frame state) e) (λ s. s) stands
      λ grows. expression-fits (place_in w in_loop) (scope_in w.frame state) (around w there in_loop state stands grows) e
  typed-fits w there in_loop state stands (source.If at e a) =
      let Q = MadeFits w in_loop state in
      holds-then Q (λ c. Grows state w.last → IsCondition (place_in w in_loop) c) (condition (scope_in w.frame state) e) _ (condition-later w there in_loop state stands e) λ c is.
      holds-then Q Q (typed w.frame in_loop state a >>= leaves state) _ (part w in_loop state state (typed w.frame in_loop state a) (typed-fits w there in_loop state stands a)) λ m fits.
      (fits.0, λ end. (is (grows-then state m.state w.last fits.0.0 end), fits.1 end, tt))
  typed-fits w there in_loop state stands (source.IfElse at e a b) =
      let Q = MadeFits w in_loop state in
      holds-then Q (λ c. Grows state w.last → IsCondition (place_in w in_loop) c) (condition (scope_in w.frame state) e) _ (condition-later w there in_loop state stands e) λ c is.
      holds-then Q Q (typed w.frame in_loop state a >>= leaves state) _ (part w in_loop state state (typed w.frame in_loop state a) (typed-fits w there in_loop state stands a)) λ m yes_fits.
      holds-then Q (MadeFits w in_loop m.state) (typed w.frame in_loop m.state b >>= leaves m.state) _
      (part w in_loop m.state m.state (typed w.frame in_loop m.state b) (typed-fits w there in_loop m.state yes_fits.0.1 b)) λ n no_fits. (
        follows-then w state m.state n.state yes_fits.0 no_fits.0,
        λ end.
            let middle = grows-then m.state n.state w.last no_fits.0.0 end in (is (grows-then state m.state w.last yes_fits.0.0 middle), yes_fits.1 middle, no_fits.1 end),
      )
  typed-fits w there in_loop state stands (source.While at e s) =
      let Q = MadeFits w in_loop state in
      holds-then Q (λ c. Grows state w.last → IsCondition (place_in w in_loop) c) (condition (scope_in w.frame state) e) _ (condition-later w there in_loop state stands e) λ c is.
      holds-then Q (MadeFits w true state) (typed w.frame true state s >>= leaves state) _
      (part w true state state (typed w.frame true state s) (typed-fits w there true state stands s)) λ m fits.
      (fits.0, λ end. (is (grows-then state m.state w.last fits.0.0 end), tt, fits.1 end))
  typed-fits w there in_loop state stands (source.Do at s e) =
      let Q = MadeFits w in_loop state in
      holds-then Q (MadeFits w true state) (typed w.frame true state s >>= leaves state) _
      (part w true state state (typed w.frame true state s) (typed-fits w there true state stands s)) λ m fits.
      holds-then Q (λ c. Grows m.state w.last → IsCondition (place_in w in_loop) c) (condition (scope_in w.frame m.state) e) _ (condition-later w there in_loop m.state fits.0.1 e) λ c is.
      (fits.0, λ end. (is end, fits.1 end))
  typed-fits w there in_loop state stands (source.For at i c us s) =
      let Q = MadeFits w in_loop state in
      let here = place_in w in_loop in
      holds-then Q (MadesFit w in_loop state) (does_first w.frame state i) _ (first-fits w there in_loop state stands i) λ i first.
      let scope = scope_in w.frame i.state in
      let within : Grows i.state w.last → _ = around w there in_loop i.state first.0.1 in
      holds-then Q (λ (c : program.Expr). Grows i.state w.last → HasKind here c kinds.Bool) (condition_or_true scope c) _
      (later (Grows i.state w.last) (λ (c : program.Expr). HasKind here c kinds.Bool) (condition_or_true scope c) λ grows. or-true-fits here scope (within grows) c) λ c is.
      holds-then Q (λ us. Grows i.state w.last → EffectsFit here us) (each (effect scope) us) _
      (later (Grows i.state w.last) (EffectsFit here) (each (effect scope) us) λ grows. effects-fit here scope (within grows) us) λ us steps.
      holds-then Q (MadeFits w true i.state) (typed w.frame true i.state s >>= leaves state) _
      (part w true state i.state (typed w.frame true i.state s) (typed-fits w there true i.state first.0.1 s)) λ m fits. (
        follows-then w state i.state m.state first.0 fits.0,
        λ end.
            let middle = grows-then i.state m.state w.last fits.0.0 end in
            chained-fits here (i.statements ++ program.Loop c us m.statement ∷ [])
            (Each-append (Fits here) i.statements (program.Loop c us m.statement ∷ []) (first.1 middle) ((is middle, steps middle, fits.1 end), tt)),
      )
  typed-fits w there in_loop state stands (source.Return at e) =
      alone w in_loop state (returns (scope_in w.frame state) w.frame.result at e) (λ s. s) stands
      λ grows. returns-fits (place_in w in_loop) (scope_in w.frame state) (around w there in_loop state stands grows) w.frame.result refl at e
  typed-fits w there in_loop state stands (source.Break at) =
      holds-require (MadeFits w in_loop state) in_loop _ _ λ loop. (follows-self w state stands, λ end. loop)
  typed-fits w there in_loop state stands (source.Continue at) =
      holds-require (MadeFits w in_loop state) in_loop _ _ λ loop. (follows-self w state stands, λ end. loop)
  typed-fits w there in_loop state stands (source.ThrowNew at x) =
      alone w in_loop state (fault_of x >>= λ f. Good (program.Throw f)) (λ s. s) stands λ grows. holds-next (Fits (place_in w in_loop)) (fault_of x) _ λ f is. tt
  typed-fits w there in_loop state stands (source.ThrowVariable at x) =
      alone w in_loop state (throws_variable (scope_in w.frame state) x) (λ s. s) stands
      λ grows. throws-fits (place_in w in_loop) (scope_in w.frame state) (around w there in_loop state stands grows) x
  typed-fits w there in_loop state stands (source.Try at ss cs) =
      let Q = MadeFits w in_loop state in
      holds-then Q Q (all_typed w.frame in_loop (starts state) ss >>= ends_block state) _
      (block w in_loop state state (all_typed w.frame in_loop (starts state) ss) (all-fit w there in_loop state (starts state) (follows-self w state stands, λ end. tt) ss)) λ m fits.
      holds-then Q (CaughtFits w in_loop m.state) (all_caught w.frame in_loop m.state cs) _ (catches-fit w there in_loop m.state fits.0.1 cs) λ n caught.
      (follows-then w state m.state n.state fits.0 caught.0, λ end. (fits.1 (grows-then m.state n.state w.last caught.0.0 end), caught.1 end))
  typed-fits w there in_loop state stands (source.Synchronized at e ss) =
      let Q = MadeFits w in_loop state in
      let here = place_in w in_loop in
      let scope = scope_in w.frame state in
      holds-then Q (λ v. Grows state w.last → IsReference here v) (reference scope e) _
      (later (Grows state w.last) (IsReference here) (reference scope e) λ grows. reference-fits here scope (around w there in_loop state stands grows) e) λ v is.
      holds-then Q Q (all_typed w.frame in_loop (starts state) ss >>= ends_block state) _
      (block w in_loop state state (all_typed w.frame in_loop (starts state) ss) (all-fit w there in_loop state (starts state) (follows-self w state stands, λ end. tt) ss)) λ m fits.
      (fits.0, λ end. (is (grows-then state m.state w.last fits.0.0 end), fits.1 end))
  typed-fits w there in_loop state stands (source.Commit at s) =
      let Q = MadeFits w in_loop state in
      let inner : State = record state { has_commit = true } in
      let follows = committed w state stands in
      holds-require Q (not state.has_commit) _ _ λ first.
      holds-then Q (MadeFits w in_loop inner) (typed w.frame in_loop inner s >>= leaves state) _
      (part w in_loop state inner (typed w.frame in_loop inner s) (typed-fits w there in_loop inner follows.1 s)) λ m fits.
      (follows-then w state inner m.state follows fits.0, fits.1)
  typed-fits w there in_loop state stands (source.Print at ps) = printed-fits w there in_loop state stands at ps
  typed-fits w there in_loop state stands (source.Assert at e) = asserts-fits w there in_loop state stands at e

  -- statements of a block, behind those that stand before them
  all-fit : (w : Body) → InProgram w → (in_loop : Bool) (state : State) (before : Mades) → MadesFit w in_loop state before → (ss : source.Stmts) →
      Holds (MadesFit w in_loop state) (all_typed w.frame in_loop before ss)
  all-fit w there in_loop state before fit source.no_stmt = fit
  all-fit w there in_loop state before fit (source.and_stmt s ss) =
      holds-then (MadesFit w in_loop state) (MadeFits w in_loop before.state) (typed w.frame in_loop before.state s) _ (typed-fits w there in_loop before.state fit.0.1 s) λ m fits.
      all-fit w there in_loop state (record { state = m.state; statements = before.statements ++ m.statement ∷ [] }) (
        follows-then w state before.state m.state fit.0 fits.0,
        λ end.
            Each-append (Fits (place_in w in_loop)) before.statements (m.statement ∷ []) (fit.1 (grows-then before.state m.state w.last fits.0.0 end)) (fits.1 end, tt),
      ) ss

  catches-fit : (w : Body) → InProgram w → (in_loop : Bool) (state : State) → Stands w state → (cs : source.Catches) → Holds (CaughtFits w in_loop state) (all_caught w.frame in_loop state cs)
  catches-fit w there in_loop state stands source.no_catch = (follows-self w state stands, λ end. tt)
  catches-fit w there in_loop state stands (source.and_catch c x ss cs) =
      let Q = CaughtFits w in_loop state in
      holds-next Q (fault_of c) _ λ fault is.
      holds-then Q (Adds w state kinds.Caught) (and_caught w.frame state x) _ (caught-added w state x stands) λ inner added.
      holds-then Q (MadeFits w in_loop inner) (all_typed w.frame in_loop (starts inner) ss >>= ends_block state) _
      (block w in_loop state inner (all_typed w.frame in_loop (starts inner) ss) (all-fit w there in_loop inner (starts inner) (follows-self w inner added.0.1, λ end. tt) ss)) λ m fits.
      holds-then Q (CaughtFits w in_loop m.state) (all_caught w.frame in_loop m.state cs) _ (catches-fit w there in_loop m.state fits.0.1 cs) λ n caught. (
        follows-then w state m.state n.state (follows-then w state inner m.state added.0 fits.0) caught.0,
        λ end.
            let middle = grows-then m.state n.state w.last caught.0.0 end in (added.1 (grows-then inner m.state w.last fits.0.0 middle), fits.1 middle, caught.1 end),
      )

-- the statements of a body
pub body-fits : (w : Body) → InProgram w → (state : State) → Stands w state → (ss : source.Stmts) → Holds (MadesFit w false state) (all_typed w.frame false (starts state) ss)
body-fits w there state stands ss = all-fit w there false state (starts state) (follows-self w state stands, λ end. tt) ss
