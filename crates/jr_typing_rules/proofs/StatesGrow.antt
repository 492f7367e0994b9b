-- How a state grows along the statements of a body, and what holds of each state on the way.
use Rattle.std.proofs.Common.{◌≡◌, ◌<◌, ◌≤◌, ℕ, zero, suc, ◌+◌, Bool, true, false, cond, not, List, [], ◌∷◌, ◌++◌, length, take, Some, nat_lt, slice_get, refl, arith}
use Rattle.std.specs.Option.{option_map}
use Rattle.std.proofs.lemmas.Bool.{ltb-true}
use Rattle.std.proofs.lemmas.List.{length-append, length-take}
use Rattle.jr_base.specs.declared.number.MethodId.{MethodId}
use Rattle.jr_base.specs.declared.kind.SlotKind.{SlotKind}
use Rattle.jr_base.specs.declared.kind.SlotKind.TheVariants as kinds
use Rattle.jr_ast.specs.declared.name.Name.{Name}
use Rattle.jr_program.specs.ClauseKinds.{IsClass}
use Rattle.jr_program.specs.Programs.{Program}
use Rattle.jr_program.specs.WellFormed.{Scope as Place, in_scope, most_in_scope}
use Rattle.jr_typing_rules.specs.declared.words.ValueType.{ValueType}
use Rattle.jr_typing_rules.specs.declared.words.VariableKind.{VariableKind}
use Rattle.jr_typing_rules.specs.declared.words.VariableKind.TheVariants as variable
use Rattle.jr_typing_rules.specs.Types.{kind_of}
use Rattle.jr_typing_rules.specs.Scopes.{Variable}
use Rattle.jr_typing_rules.specs.Statements.{Frame, State, Asserted, scope_in, count_in_scope, has_variable, and_variable, and_local, and_caught, leaving}
use Rattle.jr_typing_rules.specs.Agreement.{IsTypeIn, AgreesWith}
use Rattle.jr_typing_rules.proofs.Holding.{Holds, holds-require, Each, Each-append}
use Rattle.jr_typing_rules.proofs.Known.{get-last}
use Rattle.jr_typing_rules.proofs.AssertScopes.{AssertsAre}
use Rattle.jr_typing_rules.proofs.Denoted.{StandsAt, AllStand, HeadersFit, Around}
use Rattle.jr_typing_rules.proofs.Starts.{IsStartOf, start-self, start-then, start-get}

-- ---- a body

-- a body of a program: its method, what is the same in it, and the state behind it
pub record Body : Type 0 where
  pub program : Program
  pub method : MethodId
  pub frame : Frame
  pub last : State

-- what stands around a statement of it
abbrev pub place_in : Body → Bool → Place
place_in w in_loop = record {
  program = w.program;
  method = w.method;
  is_static = w.frame.is_static;
  kinds = w.last.kinds;
  result = option_map kind_of w.frame.result;
  in_loop = in_loop;
}

-- the program has what the body names
pub record InProgram (w : Body) : Type 0 where
  pub names : AgreesWith w.frame.names w.program
  pub headers : HeadersFit w.program
  pub own : IsClass w.program w.frame.own
  pub asserts : AssertsAre w.program w.method w.frame.is_static w.frame.clauses w.last.asserts
  pub texts : w.frame.texts + length w.last.texts ≤ length w.program.texts

-- ---- growth

pub record Grows (a b : State) : Type 0 where
  pub kinds : IsStartOf a.kinds b.kinds
  pub asserts : IsStartOf a.asserts b.asserts
  pub texts : IsStartOf a.texts b.texts

pub grows-self : (a : State) → Grows a a
grows-self a = record { kinds = start-self a.kinds; asserts = start-self a.asserts; texts = start-self a.texts }

pub grows-then : (a b c : State) → Grows a b → Grows b c → Grows a c
grows-then a b c first second = record {
  kinds = start-then a.kinds b.kinds c.kinds first.kinds second.kinds;
  asserts = start-then a.asserts b.asserts c.asserts first.asserts second.asserts;
  texts = start-then a.texts b.texts c.texts first.texts second.texts;
}

-- ---- states

-- there are not too many variables in scope, and each has its kind at its place behind the body
pub record Stands (w : Body) (state : State) : Type 0 where
  pub few : in_scope w.frame.is_static (length state.variables) ≤ most_in_scope
  pub asserted : Each (λ (a : Asserted). in_scope w.frame.is_static (length a.variables) ≤ most_in_scope) state.asserts
  pub known : Grows state w.last → AllStand w.program w.last.kinds state.variables

-- one state follows the other
abbrev pub Follows : Body → State → State → Type 0
Follows w a b = Grows a b × Stands w b

pub follows-self : (w : Body) (a : State) → Stands w a → Follows w a a
follows-self w a stands = (grows-self a, stands)

pub follows-then : (w : Body) (a b c : State) → Follows w a b → Follows w b c → Follows w a c
follows-then w a b c first second = (grows-then a b c first.0 second.0, second.1)

pub around : (w : Body) → InProgram w → (in_loop : Bool) (state : State) → Stands w state → Grows state w.last → Around (place_in w in_loop) (scope_in w.frame state)
around w there in_loop state stands grows =
    record { names = there.names; headers = there.headers; own = there.own; static = refl; variables = stands.known grows }

-- ---- one more variable

one-more : (static : Bool) (n : ℕ) → nat_lt (cond static n (n + 1)) most_in_scope ≡ true → in_scope static (n + 1) ≤ most_in_scope
one-more true n small = let below : n < 256 = ltb-true n 256 small in omega (arith, below)
one-more false n small = let below : n + 1 < 256 = ltb-true (n + 1) 256 small in omega (arith, below)

-- behind the state, the next place holds values of that kind
abbrev pub Adds : Body → State → SlotKind → State → Type 0
Adds w state kind after = Follows w state after × (Grows after w.last → slice_get w.last.kinds (length state.kinds) ≡ Some kind)

variable-added : (w : Body) (state : State) (x : Name) (of : VariableKind) (kind : SlotKind) → Stands w state →
    (slice_get w.last.kinds (length state.kinds) ≡ Some kind → StandsAt w.program w.last.kinds of) → Holds (Adds w state kind) (and_variable w.frame state x of kind)
unfolding and_variable
variable-added w state x of kind stands at_place =
    let Q = Adds w state kind in
    holds-require Q (not (has_variable state x.text)) _ _ λ new.
    holds-require Q (nat_lt (count_in_scope w.frame.is_static state) most_in_scope) _ _ λ small.
    let added : Variable = record { name = x.text; kind = of } in
    let after : State = record state { variables = state.variables ++ added ∷ []; kinds = state.kinds ++ kind ∷ [] } in
    let grows : Grows state after = record { kinds = (kind ∷ [], refl); asserts = start-self state.asserts; texts = start-self state.texts } in
    let placed : Grows after w.last → slice_get w.last.kinds (length state.kinds) ≡ Some kind =
    λ end. start-get (state.kinds ++ kind ∷ []) w.last.kinds (length state.kinds) kind end.kinds (get-last state.kinds kind) in
    let count : length (state.variables ++ added ∷ []) ≡ length state.variables + 1 = length-append state.variables (added ∷ []) in (
      (
        grows,
        record {
          few = rw count (one-more w.frame.is_static (length state.variables) small);
          asserted = stands.asserted;
          known = λ end.
              Each-append (λ (v : Variable). StandsAt w.program w.last.kinds v.kind) state.variables (added ∷ [])
              (stands.known (grows-then state after w.last grows end)) (at_place (placed end), tt);
        },
      ),
      placed,
    )

pub local-added : (w : Body) (state : State) (x : Name) (t : ValueType) → Stands w state → IsTypeIn w.program t → Holds (Adds w state (kind_of t)) (and_local w.frame state x t)
local-added w state x t stands of_type = variable-added w state x (variable.Local t (length state.kinds)) (kind_of t) stands λ found. (found, of_type)

pub caught-added : (w : Body) (state : State) (x : Name) → Stands w state → Holds (Adds w state kinds.Caught) (and_caught w.frame state x)
caught-added w state x stands = variable-added w state x (variable.Caught (length state.kinds)) kinds.Caught stands λ found. found

-- ---- the end of a block

Each-take : {A : Type 0} (P : A → Type 0) (n : ℕ) (xs : List A) → Each P xs → Each P (take n xs)
Each-take P zero xs all = tt
Each-take P (suc n) [] all = tt
Each-take P (suc n) (x ∷ xs) all = (all.0, Each-take P n xs all.1)

pub fewer : (static : Bool) (n m : ℕ) → n ≤ m → in_scope static m ≤ most_in_scope → in_scope static n ≤ most_in_scope
fewer true n m less few = omega (arith, less, few)
fewer false n m less few = omega (arith, less, few)

taken : {A : Type 0} (n : ℕ) (xs : List A) → length (take n xs) ≤ length xs
taken n xs = omega (arith, length-take n xs)

pub left-grows : (before state : State) (last : State) → Grows (leaving before state) last → Grows state last
left-grows before state last grows = record { kinds = grows.kinds; asserts = grows.asserts; texts = grows.texts }

grows-left : (before a state : State) → Grows a state → Grows a (leaving before state)
grows-left before a state grows = record { kinds = grows.kinds; asserts = grows.asserts; texts = grows.texts }

-- what a block has declared is in scope no more
pub follows-left : (w : Body) (before a state : State) → Follows w a state → Follows w a (leaving before state)
follows-left w before a state follows =
    let stands = follows.1 in (
      grows-left before a state follows.0,
      record {
        few = fewer w.frame.is_static (length (take (length before.variables) state.variables)) (length state.variables) (taken (length before.variables) state.variables) stands.few;
        asserted = stands.asserted;
        known = λ end.
            Each-take (λ (v : Variable). StandsAt w.program w.last.kinds v.kind) (length before.variables) state.variables
            (stands.known (left-grows before state w.last end));
      },
    )

-- ---- labels, texts and asserts

committed-grows : (a b : State) → Grows (record a { has_commit = true }) b → Grows a b
committed-grows a b grows = record { kinds = grows.kinds; asserts = grows.asserts; texts = grows.texts }

pub committed : (w : Body) (a : State) → Stands w a → Follows w a (record a { has_commit = true })
committed w a stands =
    let after : State = record a { has_commit = true } in (
      record { kinds = start-self a.kinds; asserts = start-self a.asserts; texts = start-self a.texts },
      record { few = stands.few; asserted = stands.asserted; known = λ end. stands.known (committed-grows a w.last end) },
    )

pub texts-added : (w : Body) (a : State) (texts : List (List ℕ)) → IsStartOf a.texts texts → Stands w a → Follows w a (record a { texts = texts })
texts-added w a texts more stands =
    let after : State = record a { texts = texts } in
    let grows : Grows a after = record { kinds = start-self a.kinds; asserts = start-self a.asserts; texts = more } in
    (grows, record { few = stands.few; asserted = stands.asserted; known = λ end. stands.known (grows-then a after w.last grows end) })

pub asserted : (w : Body) (a : State) (x : Asserted) → x.variables ≡ a.variables → Stands w a → Follows w a (record a { asserts = a.asserts ++ x ∷ [] })
asserted w a x same stands =
    let after : State = record a { asserts = a.asserts ++ x ∷ [] } in
    let grows : Grows a after = record { kinds = start-self a.kinds; asserts = (x ∷ [], refl); texts = start-self a.texts } in (
      grows,
      record {
        few = stands.few;
        asserted = Each-append (λ (a : Asserted). in_scope w.frame.is_static (length a.variables) ≤ most_in_scope) a.asserts (x ∷ []) stands.asserted (rw same stands.few, tt);
        known = λ end. stands.known (grows-then a after w.last grows end);
      },
    )
