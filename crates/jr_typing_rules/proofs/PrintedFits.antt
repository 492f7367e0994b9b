-- What is printed fits its program, and so does what an `assert` names.
use Rattle.std.proofs.Common.{◌≡◌, ◌≤◌, ◌||◌, ℕ, ◌+◌, Bool, List, [], ◌∷◌, ◌++◌, length, nat_le, refl, arith}
use Rattle.std.proofs.lemmas.Bool.{leb-true}
use Rattle.std.proofs.lemmas.List.{length-append}
use Rattle.jr_base.specs.declared.number.Span.{Span}
use Rattle.jr_base.specs.declared.kind.SlotKind.{SlotKind}
use Rattle.jr_ast.specs.Expressions as expressions
use Rattle.jr_ast.specs.Expressions.{place_of}
use Rattle.jr_ast.specs.Statements as source
use Rattle.jr_program.specs.Programs as program
use Rattle.jr_program.specs.Programs.{Program, Statement, Effect}
use Rattle.jr_program.specs.WellFormed.{Scope as Place, HasKind, IsText, PartsFit, AreVariables, most_parts}
use Rattle.jr_typing_rules.specs.declared.words.VariableKind.{VariableKind}
use Rattle.jr_typing_rules.specs.declared.words.VariableKind.TheVariants as variable
use Rattle.jr_typing_rules.specs.Types.{kind_of, is_number, is_boolean}
use Rattle.jr_typing_rules.specs.Scopes.{Scope, Variable}
use Rattle.jr_typing_rules.specs.Expressions.{value}
use Rattle.jr_typing_rules.specs.Statements.{State, Asserted, Printed, scope_in, shown, prints, printed, and_place, places_in, asserts}
use Rattle.jr_typing_rules.proofs.Holding.{Holds, holds-then, holds-require, holds-weaker, Each, Each-append}
use Rattle.jr_typing_rules.proofs.MadeRight.{kind-not-caught}
use Rattle.jr_typing_rules.proofs.AssertScopes.{and_kind, kinds_in}
use Rattle.jr_typing_rules.proofs.Known.{get-last}
use Rattle.jr_typing_rules.proofs.Denoted.{ValueRight, Around, StandsAt, AllStand}
use Rattle.jr_typing_rules.proofs.Evaluated.{valued}
use Rattle.jr_typing_rules.proofs.StatesGrow.{Body, InProgram, place_in, Grows, grows-then, Stands, around, fewer, texts-added, asserted}
use Rattle.jr_typing_rules.proofs.Starts.{IsStartOf, start-self, start-then, start-get, start-length}
use Rattle.jr_typing_rules.proofs.SimpleFits.{MadeFits, later}

-- ---- `println`

abbrev PartFits : Place → program.Part → Type 0
PartFits s (program.Literal text) = IsText s.program text
PartFits s (program.Shown e) = (k : SlotKind) × HasKind s e k

parts-fit : (s : Place) (ps : List program.Part) → Each (PartFits s) ps → PartsFit s ps
parts-fit s [] all = tt
parts-fit s (program.Literal text ∷ ps) all = (all.0, parts-fit s ps all.1)
parts-fit s (program.Shown e ∷ ps) all = (all.0, parts-fit s ps all.1)

shown-fits : (s : Place) (scope : Scope) → Around s scope → (e : expressions.Expr) → Holds (PartFits s) (shown scope e)
shown-fits s scope around e =
    holds-then (PartFits s) (ValueRight s) (value scope e) _ (valued s scope around e) λ v right.
    holds-require (PartFits s) (is_number v.of || is_boolean v.of) _ _ λ is. (kind_of v.of, right.0)

-- one part for each that is written, and a text for each literal
record PrintsFit (w : Body) (state : State) (s : Place) (before : Printed) (ps : List source.Part) (after : Printed) : Type 0 where
  texts : IsStartOf before.texts after.texts
  count : length after.parts ≡ length before.parts + length ps
  parts : Grows state w.last → w.frame.texts + length after.texts ≤ length w.program.texts → Each (PartFits s) before.parts → Each (PartFits s) after.parts

abbrev with_text : Body → Printed → List ℕ → Printed
with_text w before bytes = record {
  texts = before.texts ++ bytes ∷ [];
  parts = before.parts ++ program.Literal (record { 0 = w.frame.texts + length before.texts }) ∷ [];
}

prints-text : (w : Body) (in_loop : Bool) (state : State) (before : Printed) (bytes : List ℕ) (ps : List source.Part) (after : Printed) →
    PrintsFit w state (place_in w in_loop) (with_text w before bytes) ps after → PrintsFit w state (place_in w in_loop) before (source.Text bytes ∷ ps) after
prints-text w in_loop state before bytes ps after fit =
    let s = place_in w in_loop in
    let literal = program.Literal (record { 0 = w.frame.texts + length before.texts }) in
    record {
      texts = start-then before.texts (before.texts ++ bytes ∷ []) after.texts (bytes ∷ [], refl) fit.texts;
      count = omega (arith, fit.count, length-append before.parts (literal ∷ []));
      parts = λ grows enough all.
          fit.parts grows enough
          (Each-append (PartFits s) before.parts (literal ∷ []) all
          (omega (arith, enough, start-length (before.texts ++ bytes ∷ []) after.texts fit.texts, length-append before.texts (bytes ∷ [])), tt));
    }

prints-value : (w : Body) (in_loop : Bool) (state : State) (before : Printed) (p : program.Part) (e : expressions.Expr) (ps : List source.Part) (after : Printed) →
    (Grows state w.last → PartFits (place_in w in_loop) p) → PrintsFit w state (place_in w in_loop) (record before { parts = before.parts ++ p ∷ [] }) ps after →
    PrintsFit w state (place_in w in_loop) before (source.Value e ∷ ps) after
prints-value w in_loop state before p e ps after fits fit = record {
  texts = fit.texts;
  count = omega (arith, fit.count, length-append before.parts (p ∷ []));
  parts = λ grows enough all. fit.parts grows enough (Each-append (PartFits (place_in w in_loop)) before.parts (p ∷ []) all (fits grows, tt));
}

prints-fit : (w : Body) → InProgram w → (in_loop : Bool) (state : State) → Stands w state → (ps : List source.Part) (before : Printed) →
    Holds (PrintsFit w state (place_in w in_loop) before ps) (prints w.frame (scope_in w.frame state) before ps)
prints-fit w there in_loop state stands [] before = record { texts = start-self before.texts; count = omega arith; parts = λ grows enough all. all }
prints-fit w there in_loop state stands (source.Text bytes ∷ ps) before =
    let s = place_in w in_loop in
    holds-weaker (PrintsFit w state s (with_text w before bytes) ps) (PrintsFit w state s before (source.Text bytes ∷ ps))
    (prints w.frame (scope_in w.frame state) (with_text w before bytes) ps) (prints-fit w there in_loop state stands ps (with_text w before bytes))
    λ after fit. prints-text w in_loop state before bytes ps after fit
prints-fit w there in_loop state stands (source.Value e ∷ ps) before =
    let s = place_in w in_loop in
    let scope = scope_in w.frame state in
    holds-then (PrintsFit w state s before (source.Value e ∷ ps)) (λ p. Grows state w.last → PartFits s p) (shown scope e) _
    (later (Grows state w.last) (PartFits s) (shown scope e) λ grows. shown-fits s scope (around w there in_loop state stands grows) e) λ p fits.
    let next : Printed = record before { parts = before.parts ++ p ∷ [] } in
    holds-weaker (PrintsFit w state s next ps) (PrintsFit w state s before (source.Value e ∷ ps)) (prints w.frame scope next ps) (prints-fit w there in_loop state stands ps next)
    λ after fit. prints-value w in_loop state before p e ps after fits fit

pub printed-fits : (w : Body) → InProgram w → (in_loop : Bool) (state : State) → Stands w state → (at : Span) (ps : List source.Part) → Holds (MadeFits w in_loop state) (printed w.frame state at ps)
printed-fits w there in_loop state stands at ps =
    let Q = MadeFits w in_loop state in
    let s = place_in w in_loop in
    let none : Printed = record { texts = state.texts; parts = [] } in
    holds-require Q (nat_le (length ps) most_parts) _ _ λ few.
    holds-then Q (PrintsFit w state s none ps) (prints w.frame (scope_in w.frame state) none ps) _ (prints-fit w there in_loop state stands ps none) λ p fit.
    let after : State = record state { texts = p.texts } in
    let follows = texts-added w state p.texts fit.texts stands in (
      follows,
      λ end.
          let enough = start-length p.texts w.last.texts end.texts in (
            parts-fit s p.parts (fit.parts (grows-then state after w.last follows.0 end) (omega (arith, enough, there.texts)) tt),
            omega (arith, fit.count, leb-true (length ps) most_parts few),
          ),
    )

-- ---- `assert`

have-places : (program : Program) (held : List SlotKind) (vs : List Variable) → AllStand program held vs → AreVariables held (places_in vs) (kinds_in vs)
have-places program held [] all = refl
have-places program held (v ∷ vs) all = by v.kind all.0 (have-places program held vs all.1)
  where
    by : (k : VariableKind) → StandsAt program held k → AreVariables held (places_in vs) (kinds_in vs) → AreVariables held (and_place k (places_in vs)) (and_kind k (kinds_in vs))
    by (variable.Local t place) stands rest = ((stands.0, kind-not-caught t), rest)
    by (variable.Caught place) stands rest = rest
    by variable.Arguments stands rest = rest

few-places : (vs : List Variable) → length (places_in vs) ≤ length vs
few-places [] = omega arith
few-places (v ∷ vs) = by v.kind (few-places vs)
  where
    by : (k : VariableKind) → length (places_in vs) ≤ length vs → length (and_place k (places_in vs)) ≤ length (v ∷ vs)
    by (variable.Local t place) few = omega (arith, few)
    by (variable.Caught place) few = omega (arith, few)
    by variable.Arguments few = omega (arith, few)

pub asserts-fits : (w : Body) → InProgram w → (in_loop : Bool) (state : State) → Stands w state → (at : Span) (e : expressions.Expr) → Holds (MadeFits w in_loop state) (asserts w.frame state at e)
asserts-fits w there in_loop state stands at e =
    let x : Asserted = record { place = at; condition = e; variables = state.variables } in
    let after : State = record state { asserts = state.asserts ++ x ∷ [] } in
    let follows = asserted w state x refl stands in (
      follows,
      λ end. (
        kinds_in state.variables,
        have-places w.program w.last.kinds state.variables (stands.known (grows-then state after w.last follows.0 end)),
        fewer w.frame.is_static (length (places_in state.variables)) (length state.variables) (few-places state.variables) stands.few,
        there.asserts (length state.asserts) x (start-get after.asserts w.last.asserts (length state.asserts) x end.asserts (get-last state.asserts x)),
      ),
    )
