-- The declarations of local variables fit their program, and what a `for` does first (JLS 14.4, 14.14.1).
use Rattle.std.proofs.Common.{Bool, List, [], ◌∷◌, length, map}
use Rattle.jr_ast.specs.Statements as source
use Rattle.jr_ast.specs.declared.name.TypeName.{TypeName}
use Rattle.jr_program.specs.Programs as program
use Rattle.jr_program.specs.Programs.{Program, Statement, Effect}
use Rattle.jr_program.specs.WellFormed.{Scope as Place, HasKind, EffectsFit, Fits}
use Rattle.jr_typing_rules.specs.declared.words.ValueType.{ValueType}
use Rattle.jr_typing_rules.specs.Answers.{each}
use Rattle.jr_typing_rules.specs.Types.{kind_of}
use Rattle.jr_typing_rules.specs.Statements.{State, Mades, scope_in, starts, and_local, type_of, initial_value, declares, declares_all, local_variables, effect, does_first}
use Rattle.jr_typing_rules.specs.Agreement.{IsTypeIn}
use Rattle.jr_typing_rules.proofs.Holding.{Holds, holds-then, Each, Each-append}
use Rattle.jr_typing_rules.proofs.TypesNamed.{TypeNames, type-names}
use Rattle.jr_typing_rules.proofs.MadeRight.{kind-not-caught}
use Rattle.jr_typing_rules.proofs.StatesGrow.{Body, InProgram, place_in, Grows, grows-then, Stands, follows-self, follows-then, around, Adds, local-added}
use Rattle.jr_typing_rules.proofs.NamesAgree.{type-in}
use Rattle.jr_typing_rules.proofs.SimpleFits.{MadesFit, later, initial-has, effects-fit}

declares-fits : (w : Body) → InProgram w → (in_loop : Bool) (state : State) (t : ValueType) → IsTypeIn w.program t → (made : Mades) (d : source.Declarator) → MadesFit w in_loop state made →
    Holds (MadesFit w in_loop state) (declares w.frame t made d)
declares-fits w there in_loop state t of_type made d before =
    let s = place_in w in_loop in
    let scope = scope_in w.frame made.state in
    let Q = MadesFit w in_loop state in
    holds-then Q (λ (e : program.Expr). Grows made.state w.last → HasKind s e (kind_of t)) (initial_value scope t d.initial) _
    (later (Grows made.state w.last) (λ (e : program.Expr). HasKind s e (kind_of t)) (initial_value scope t d.initial)
    λ grows. initial-has s scope (around w there in_loop made.state before.0.1 grows) t d.initial) λ e has.
    holds-then Q (Adds w made.state (kind_of t)) (and_local w.frame made.state d.name t) _ (local-added w made.state d.name t before.0.1 of_type) λ after added. (
      follows-then w state made.state after before.0 added.0,
      λ end.
          let on_the_way = grows-then made.state after w.last added.0.0 end in
          Each-append (Fits s) made.statements (program.Declare (length made.state.kinds) e ∷ []) (before.1 on_the_way)
          ((kind_of t, (added.1 end, kind-not-caught t), has on_the_way), tt),
    )

declares-all-fit : (w : Body) → InProgram w → (in_loop : Bool) (state : State) (t : ValueType) → IsTypeIn w.program t → (ds : List source.Declarator) (made : Mades) → MadesFit w in_loop state made →
    Holds (MadesFit w in_loop state) (declares_all w.frame t made ds)
declares-all-fit w there in_loop state t of_type [] made before = before
declares-all-fit w there in_loop state t of_type (d ∷ ds) made before =
    holds-then (MadesFit w in_loop state) (MadesFit w in_loop state) (declares w.frame t made d) _ (declares-fits w there in_loop state t of_type made d before)
    λ after fits. declares-all-fit w there in_loop state t of_type ds after fits

pub locals-fit : (w : Body) → InProgram w → (in_loop : Bool) (state : State) → Stands w state → (t : TypeName) (ds : List source.Declarator) →
    Holds (MadesFit w in_loop state) (local_variables w.frame state t ds)
unfolding local_variables
locals-fit w there in_loop state stands t ds =
    holds-then (MadesFit w in_loop state) (TypeNames w.frame.names.numbers) (type_of w.frame.names t) _ (type-names w.frame.names t) λ t named.
    declares-all-fit w there in_loop state t (type-in w.program w.frame.names.numbers there.names.classes t named) ds (starts state) (follows-self w state stands, λ end. tt)

-- what a `for` does first
do-all-fit : (s : Place) (ds : List Effect) → EffectsFit s ds → Each (Fits s) (map program.Do ds)
do-all-fit s [] all = tt
do-all-fit s (d ∷ ds) all = (all.0, do-all-fit s ds all.1)

pub first-fits : (w : Body) → InProgram w → (in_loop : Bool) (state : State) → Stands w state → (i : source.ForInit) → Holds (MadesFit w in_loop state) (does_first w.frame state i)
first-fits w there in_loop state stands (source.Declares t ds) = locals-fit w there in_loop state stands t ds
first-fits w there in_loop state stands (source.Evaluates es) =
    let s = place_in w in_loop in
    let scope = scope_in w.frame state in
    holds-then (MadesFit w in_loop state) (λ ds. Grows state w.last → EffectsFit s ds) (each (effect scope) es) _
    (later (Grows state w.last) (EffectsFit s) (each (effect scope) es) λ grows. effects-fit s scope (around w there in_loop state stands grows) es)
    λ ds fit. (follows-self w state stands, λ end. do-all-fit s ds (fit end))
