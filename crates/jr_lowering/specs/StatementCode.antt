-- The code of statements: their instructions, and the regions in which a throw is handled or a monitor given back (JLS
-- 14). It is a function of its place, as that of expressions.
use Rattle.std.specs.Prelude.{ℕ, zero, suc, ◌+◌, List, [], ◌∷◌, ◌++◌, map, Option, Some, None}
use Rattle.jr_base.specs.declared.number.TextId.{TextId}
use Rattle.jr_program.specs.Programs.{Program, Part, Literal, Shown, Effect, Evaluate, Invoke, CallObject, WaitFor, Yield, Sleep, Catches, no_catch, or_catch}
use Rattle.jr_program.specs.Programs.{Statement, Skip, Then, Declare, Do, If, Loop, DoLoop, Break, Continue, Return, ReturnValue, Throw, ThrowCaught, Try, Synchronized, Commit, Println, Assert}
use Rattle.jr_code.specs.Instructions.{Instruction, Load, Store, Pop, Dup, Jump, JumpNot, BackTo, EnterMonitor, ExitMonitor, OnObject, WaitForTime, SleepFor, YieldNow, ReturnNothing, ReturnTop, CommitNow, AssertThat, PrintAll, ThrowNew, ThrowLocal, CatchAt, ExitLocal, Region}
pub use Rattle.jr_lowering.specs.declared.statement_size.Around.{Around}
use Rattle.jr_lowering.specs.ExprCode.{Setting, shift, hidden, choice_size, choice_code, expr_size, call_size, expr_code, call_code}

-- ---- effects

abbrev pub effect_size : Program → Effect → ℕ
effect_size program (Evaluate e) = expr_size program e + 1
effect_size program (Invoke call) = call_size program call
effect_size program (CallObject called e) = expr_size program e + 1
effect_size program (WaitFor e t) = expr_size program e + expr_size program t + 1
effect_size program Yield = 1
effect_size program (Sleep e) = expr_size program e + 1

-- what stands as a statement by itself (JLS 14.8)
abbrev pub effect_code : Setting → Effect → ℕ → List Instruction
effect_code s (Evaluate e) at = expr_code s e at ++ Pop ∷ []
effect_code s (Invoke call) at = call_code s call at
effect_code s (CallObject called e) at = expr_code s e at ++ OnObject called ∷ []
effect_code s (WaitFor e t) at = expr_code s e at ++ (expr_code s t (at + expr_size s.program e) ++ WaitForTime ∷ [])
effect_code s Yield at = YieldNow ∷ []
effect_code s (Sleep e) at = expr_code s e at ++ SleepFor ∷ []

abbrev pub effects_size : Program → List Effect → ℕ
effects_size program [] = 0
effects_size program (effect ∷ effects) = effect_size program effect + effects_size program effects

abbrev pub effects_code : Setting → List Effect → ℕ → List Instruction
effects_code s [] at = []
effects_code s (effect ∷ effects) at = effect_code s effect at ++ effects_code s effects (at + effect_size s.program effect)

-- ---- printing

abbrev pub text_of_part : Part → Option TextId
text_of_part (Literal text) = Some text
text_of_part (Shown e) = None

abbrev pub parts_size : Program → List Part → ℕ
parts_size program [] = 0
parts_size program (Literal text ∷ parts) = parts_size program parts
parts_size program (Shown e ∷ parts) = expr_size program e + parts_size program parts

abbrev pub parts_code : Setting → List Part → ℕ → List Instruction
parts_code s [] at = []
parts_code s (Literal text ∷ parts) at = parts_code s parts at
parts_code s (Shown e ∷ parts) at = expr_code s e at ++ parts_code s parts (at + expr_size s.program e)

-- ---- the monitors around a statement

abbrev pub no_monitors : Around
no_monitors = record { in_all = 0; in_loop = 0 }

abbrev pub inside_loop : Around → Around
inside_loop around = record { in_all = around.in_all; in_loop = 0 }

abbrev pub inside_monitor : Around → Around
inside_monitor around = record { in_all = suc around.in_all; in_loop = suc around.in_loop }

-- leaving so many monitors, of which the innermost has this depth less one, and then this instruction
abbrev pub exit_code : Setting → ℕ → ℕ → Instruction → List Instruction
exit_code s depth zero i = i ∷ []
exit_code s zero (suc n) i = i ∷ []
exit_code s (suc depth) (suc n) i = Load (hidden s depth) ∷ (ExitMonitor ∷ exit_code s depth n i)

abbrev pub exit_size : ℕ → ℕ → ℕ
exit_size depth zero = 1
exit_size zero (suc n) = 1
exit_size (suc depth) (suc n) = 2 + exit_size depth n

abbrev mutual
  pub statement_size : Program → Statement → Around → ℕ
  statement_size program Skip around = 0
  statement_size program (Then a b) around = statement_size program a around + statement_size program b around
  statement_size program (Declare number e) around = expr_size program e + 1
  statement_size program (Do effect) around = effect_size program effect
  statement_size program (If e a b) around = choice_size (expr_size program e) (statement_size program a around) (statement_size program b around)
  statement_size program (Loop e us b) around = expr_size program e + 1 + statement_size program b (inside_loop around) + effects_size program us + 1
  statement_size program (DoLoop b e) around = statement_size program b (inside_loop around) + expr_size program e + 1 + 1
  statement_size program Break around = exit_size around.in_all around.in_loop
  statement_size program Continue around = exit_size around.in_all around.in_loop
  statement_size program Return around = exit_size around.in_all around.in_all
  statement_size program (ReturnValue e) around = expr_size program e + exit_size around.in_all around.in_all
  statement_size program (Throw fault) around = 1
  statement_size program (ThrowCaught number) around = 1
  statement_size program (Try b cs) around = statement_size program b around + 1 + catches_size program cs around
  statement_size program (Synchronized e b) around = expr_size program e + 1 + 1 + 1 + statement_size program b (inside_monitor around) + 1 + 1
  statement_size program (Commit b) around = 1 + statement_size program b around
  statement_size program (Println parts) around = parts_size program parts + 1
  statement_size program (Assert clause scope) around = 1

  pub catches_size : Program → Catches → Around → ℕ
  catches_size program no_catch around = 0
  catches_size program (or_catch fault number h rest) around = 1 + statement_size program h around + 1 + catches_size program rest around

abbrev mutual
  -- the instructions of a statement from this place on, where break and continue go to these places
  pub statement_code : Setting → Statement → Around → ℕ → ℕ → ℕ → List Instruction
  statement_code s Skip around at break_to continue_to = []
  statement_code s (Then a b) around at break_to continue_to = statement_code s a around at break_to continue_to ++ statement_code s b around (at + statement_size s.program a around) break_to continue_to
  statement_code s (Declare number e) around at break_to continue_to = expr_code s e at ++ Store (shift s.is_static + number) ∷ []
  statement_code s (Do effect) around at break_to continue_to = effect_code s effect at
  statement_code s (If e a b) around at break_to continue_to =
      let at1 = at + expr_size s.program e in
      choice_code at1 (statement_size s.program a around) (statement_size s.program b around) (expr_code s e at) (statement_code s a around (at1 + 1) break_to continue_to) (statement_code s b around (at1 + 1 + statement_size s.program a around + 1) break_to continue_to)
  statement_code s (Loop e us b) around at break_to continue_to =
      let at1 = at + expr_size s.program e in
      let at2 = at1 + 1 + statement_size s.program b (inside_loop around) in
      let at3 = at2 + effects_size s.program us in
      expr_code s e at ++ (JumpNot (at3 + 1) ∷ (statement_code s b (inside_loop around) (at1 + 1) (at3 + 1) at2
      ++ (effects_code s us at2 ++ BackTo at ∷ [])))
  statement_code s (DoLoop b e) around at break_to continue_to =
      let at1 = at + statement_size s.program b (inside_loop around) in
      let at2 = at1 + expr_size s.program e in
      statement_code s b (inside_loop around) at (at2 + 1 + 1) at1 ++ (expr_code s e at1 ++ (JumpNot (at2 + 1 + 1) ∷ (BackTo at ∷ [])))
  statement_code s Break around at break_to continue_to = exit_code s around.in_all around.in_loop (Jump break_to)
  statement_code s Continue around at break_to continue_to = exit_code s around.in_all around.in_loop (Jump continue_to)
  statement_code s Return around at break_to continue_to = exit_code s around.in_all around.in_all ReturnNothing
  statement_code s (ReturnValue e) around at break_to continue_to = expr_code s e at ++ exit_code s around.in_all around.in_all ReturnTop
  statement_code s (Throw fault) around at break_to continue_to = ThrowNew fault ∷ []
  statement_code s (ThrowCaught number) around at break_to continue_to = ThrowLocal (shift s.is_static + number) ∷ []
  statement_code s (Try b cs) around at break_to continue_to =
      let at1 = at + statement_size s.program b around in
      statement_code s b around at break_to continue_to ++ (Jump (at1 + 1 + catches_size s.program cs around) ∷ catches_code s cs around (at1 + 1) (at1 + 1 + catches_size s.program cs around) break_to continue_to)
  statement_code s (Synchronized e b) around at break_to continue_to =
      let place = hidden s around.in_all in
      expr_code s e at ++ (Dup ∷ (Store place ∷ (EnterMonitor ∷ (statement_code s b (inside_monitor around) (at + expr_size s.program e + 1 + 1 + 1) break_to continue_to
      ++ (Load place ∷ (ExitMonitor ∷ []))))))
  statement_code s (Commit b) around at break_to continue_to = CommitNow ∷ statement_code s b around (at + 1) break_to continue_to
  statement_code s (Println parts) around at break_to continue_to = parts_code s parts at ++ PrintAll (map text_of_part parts) ∷ []
  statement_code s (Assert clause scope) around at break_to continue_to = AssertThat clause (map (λ number. shift s.is_static + number) scope) ∷ []

  -- the handlers of a `try`, each of which goes to its end
  pub catches_code : Setting → Catches → Around → ℕ → ℕ → ℕ → ℕ → List Instruction
  catches_code s no_catch around at end break_to continue_to = []
  catches_code s (or_catch fault number h rest) around at end break_to continue_to =
      let at1 = at + 1 + statement_size s.program h around in
      Store (shift s.is_static + number) ∷ (statement_code s h around (at + 1) break_to continue_to ++ (Jump end ∷ catches_code s rest around (at1 + 1) end break_to continue_to))

-- the regions of the catches of a block
abbrev pub catch_regions : Setting → Catches → Around → ℕ → ℕ → ℕ → List Region
catch_regions s no_catch around first past at = []
catch_regions s (or_catch fault number h rest) around first past at =
    record { first = first; past = past; kind = CatchAt fault at } ∷ catch_regions s rest around first past (at + 1 + statement_size s.program h around + 1)

abbrev mutual
  -- the regions of a statement, inner ones first
  pub statement_regions : Setting → Statement → Around → ℕ → List Region
  statement_regions s Skip around at = []
  statement_regions s (Then a b) around at = statement_regions s a around at ++ statement_regions s b around (at + statement_size s.program a around)
  statement_regions s (Declare number e) around at = []
  statement_regions s (Do effect) around at = []
  statement_regions s (If e a b) around at =
      statement_regions s a around (at + expr_size s.program e + 1) ++ statement_regions s b around (at + expr_size s.program e + 1 + statement_size s.program a around + 1)
  statement_regions s (Loop e us b) around at = statement_regions s b (inside_loop around) (at + expr_size s.program e + 1)
  statement_regions s (DoLoop b e) around at = statement_regions s b (inside_loop around) at
  statement_regions s Break around at = []
  statement_regions s Continue around at = []
  statement_regions s Return around at = []
  statement_regions s (ReturnValue e) around at = []
  statement_regions s (Throw fault) around at = []
  statement_regions s (ThrowCaught number) around at = []
  statement_regions s (Try b cs) around at =
      let at1 = at + statement_size s.program b around in
      statement_regions s b around at ++ (catch_regions s cs around at at1 (at1 + 1) ++ catches_regions s cs around (at1 + 1))
  statement_regions s (Synchronized e b) around at =
      let at3 = at + expr_size s.program e + 1 + 1 + 1 in
      statement_regions s b (inside_monitor around) at3
      ++ record { first = at3; past = at3 + statement_size s.program b (inside_monitor around); kind = ExitLocal (hidden s around.in_all) } ∷ []
  statement_regions s (Commit b) around at = statement_regions s b around (at + 1)
  statement_regions s (Println parts) around at = []
  statement_regions s (Assert clause scope) around at = []

  -- the regions of the handlers themselves
  pub catches_regions : Setting → Catches → Around → ℕ → List Region
  catches_regions s no_catch around at = []
  catches_regions s (or_catch fault number h rest) around at =
      statement_regions s h around (at + 1) ++ catches_regions s rest around (at + 1 + statement_size s.program h around + 1)

-- ---- monitors

-- how many monitors stand in one another
abbrev pub larger : ℕ → ℕ → ℕ
larger zero b = b
larger (suc a) zero = suc a
larger (suc a) (suc b) = suc (larger a b)

abbrev mutual
  pub monitors_in : Statement → ℕ
  monitors_in Skip = 0
  monitors_in (Then a b) = larger (monitors_in a) (monitors_in b)
  monitors_in (Declare number e) = 0
  monitors_in (Do effect) = 0
  monitors_in (If e a b) = larger (monitors_in a) (monitors_in b)
  monitors_in (Loop e us b) = monitors_in b
  monitors_in (DoLoop b e) = monitors_in b
  monitors_in Break = 0
  monitors_in Continue = 0
  monitors_in Return = 0
  monitors_in (ReturnValue e) = 0
  monitors_in (Throw fault) = 0
  monitors_in (ThrowCaught number) = 0
  monitors_in (Try b cs) = larger (monitors_in b) (monitors_in_all cs)
  monitors_in (Synchronized e b) = suc (monitors_in b)
  monitors_in (Commit b) = monitors_in b
  monitors_in (Println parts) = 0
  monitors_in (Assert clause scope) = 0

  pub monitors_in_all : Catches → ℕ
  monitors_in_all no_catch = 0
  monitors_in_all (or_catch fault number h rest) = larger (monitors_in h) (monitors_in_all rest)
