-- The regions of a statement hold none of the places outside of it.
use Rattle.std.proofs.Common.{◌≡◌, ℕ, ◌+◌, ◌<◌, ◌≤◌, ◌⊎◌, inl, inr, Bool, true, false, List, [], ◌∷◌, ◌++◌, Option, refl, sym, ap, ◌∙◌, subst, arith, append_assoc}
use Rattle.std.specs.Prelude.{nat_le, nat_lt, ◌&&◌}
use Rattle.std.proofs.lemmas.Bool.Decides.{nat_tests}
use Rattle.jr_base.specs.declared.number.MethodId.{MethodId}
use Rattle.jr_base.specs.declared.number.ObjId.{ObjId}
use Rattle.jr_base.specs.declared.finish.Fault.{Fault}
use Rattle.jr_program.specs.Programs.{Catches, no_catch, or_catch, Statement, Skip, Then, Declare, Do, If, Loop, DoLoop, Break, Continue, Return, ReturnValue, Throw, ThrowCaught, Try, Synchronized, Commit, Println, Assert}
use Rattle.jr_base.specs.Threads.{Tape}
use Rattle.jr_meaning.specs.Next.{Variables}
use Rattle.jr_code.specs.Instructions.{RegionKind, CatchAt, ExitLocal, Region, Code}
use Rattle.jr_code.specs.Machine.{regions_of, StackFrame, stack_frame, Throws, Goes, choose, holds, handles}
use Rattle.jr_lowering.specs.ExprCode.{Setting, hidden, expr_size}
use Rattle.jr_lowering.specs.StatementCode.{statement_size, catches_size, statement_regions, catches_regions, catch_regions, Around, inside_loop, inside_monitor}
use Rattle.jr_lowering.proofs.Follow.{Hidden, Leads, stay, leads_on, goes}
use Rattle.jr_lowering.proofs.Locals.{whole}
use Rattle.jr_lowering.proofs.Expressions.{with_fault}

-- no region holds a place between lo and hi
abbrev pub Away : ℕ → ℕ → List Region → Type 0
Away lo hi [] = Unit {0}
Away lo hi (r ∷ rs) = ((p : ℕ) → lo ≤ p → p < hi → holds r p ≡ false) × Away lo hi rs

pub away_append : (lo hi : ℕ) (a b : List Region) → Away lo hi a → Away lo hi b → Away lo hi (a ++ b)
away_append lo hi [] b x y = y
away_append lo hi (r ∷ a) b x y = (x.0, away_append lo hi a b x.1 y)

pub away_narrow : (lo hi lo1 hi1 : ℕ) (rs : List Region) → lo ≤ lo1 → hi1 ≤ hi → Away lo hi rs → Away lo1 hi1 rs
away_narrow lo hi lo1 hi1 [] le le' x = tt
away_narrow lo hi lo1 hi1 (r ∷ rs) le le' x = (λ p low high. x.0 p (omega arith) (omega arith), away_narrow lo hi lo1 hi1 rs le le' x.1)

false_left : (a b : Bool) → a ≡ false → (a && b) ≡ false
false_left a b e = ap (λ v. v && b) e

and_false : (a : Bool) → (a && false) ≡ false
and_false true = refl
and_false false = refl

false_right : (a b : Bool) → b ≡ false → (a && b) ≡ false
false_right a b e = ap (λ v. a && v) e ∙ and_false a

pub region_away : (first past : ℕ) (kind : RegionKind) (lo hi : ℕ) → (hi ≤ first) ⊎ (past ≤ lo) → (p : ℕ) → lo ≤ p → p < hi → holds (record { first = first; past = past; kind = kind }) p ≡ false
region_away first past kind lo hi (inl le) p low high =
    let e : nat_le first p ≡ false = grind (arith, nat_tests) in false_left (nat_le first p) (nat_lt p past) e
region_away first past kind lo hi (inr le) p low high =
    let e : nat_lt p past ≡ false = grind (arith, nat_tests) in false_right (nat_le first p) (nat_lt p past) e

-- a smaller piece is apart too
apart : (lo hi at to at1 to1 : ℕ) → at ≤ at1 → to1 ≤ to → (hi ≤ at) ⊎ (to ≤ lo) → (hi ≤ at1) ⊎ (to1 ≤ lo)
apart lo hi at to at1 to1 le le' (inl x) = inl (omega arith)
apart lo hi at to at1 to1 le le' (inr x) = inr (omega arith)

pub catch_away : (s : Setting) (cs : Catches) (c : Around) (first past at lo hi : ℕ) → (hi ≤ first) ⊎ (past ≤ lo) → Away lo hi (catch_regions s cs c first past at)
catch_away s no_catch c first past at lo hi h = tt
catch_away s (or_catch fault number x rest) c first past at lo hi h =
    (region_away first past (CatchAt fault at) lo hi h, catch_away s rest c first past (at + 1 + statement_size s.program x c + 1) lo hi h)

mutual
  -- the regions of a statement are away from the places before it and behind it
  pub statement_away : (s : Setting) (st : Statement) (c : Around) (at lo hi : ℕ) → (hi ≤ at) ⊎ (at + statement_size s.program st c ≤ lo) → Away lo hi (statement_regions s st c at)
  statement_away s Skip c at lo hi h = tt
  statement_away s (Then a b) c at lo hi h =
      away_append lo hi _ _ (statement_away s a c at lo hi (apart lo hi at _ at _ (omega arith) (omega arith) h))
      (statement_away s b c (at + statement_size s.program a c) lo hi (apart lo hi at _ (at + statement_size s.program a c) _ (omega arith) (omega arith) h))
  statement_away s (Declare number e) c at lo hi h = tt
  statement_away s (Do effect) c at lo hi h = tt
  statement_away s (If e a b) c at lo hi h =
      let at1 = at + expr_size s.program e + 1 in
      let at2 = at1 + statement_size s.program a c + 1 in
      away_append lo hi _ _ (statement_away s a c at1 lo hi (apart lo hi at _ at1 _ (omega arith) (omega arith) h))
      (statement_away s b c at2 lo hi (apart lo hi at _ at2 _ (omega arith) (omega arith) h))
  statement_away s (Loop e us b) c at lo hi h =
      let at1 = at + expr_size s.program e + 1 in
      statement_away s b (inside_loop c) at1 lo hi (apart lo hi at _ at1 _ (omega arith) (omega arith) h)
  statement_away s (DoLoop b e) c at lo hi h = statement_away s b (inside_loop c) at lo hi (apart lo hi at _ at _ (omega arith) (omega arith) h)
  statement_away s Break c at lo hi h = tt
  statement_away s Continue c at lo hi h = tt
  statement_away s Return c at lo hi h = tt
  statement_away s (ReturnValue e) c at lo hi h = tt
  statement_away s (Throw fault) c at lo hi h = tt
  statement_away s (ThrowCaught number) c at lo hi h = tt
  statement_away s (Try b cs) c at lo hi h =
      let at1 = at + statement_size s.program b c in
      away_append lo hi _ _ (statement_away s b c at lo hi (apart lo hi at _ at _ (omega arith) (omega arith) h))
      (away_append lo hi _ _ (catch_away s cs c at at1 (at1 + 1) lo hi (apart lo hi at _ at _ (omega arith) (omega arith) h))
      (catches_away s cs c (at1 + 1) lo hi (apart lo hi at _ (at1 + 1) _ (omega arith) (omega arith) h)))
  statement_away s (Synchronized e b) c at lo hi h =
      let ci = inside_monitor c in
      let at3 = at + expr_size s.program e + 1 + 1 + 1 in
      away_append lo hi _ _ (statement_away s b ci at3 lo hi (apart lo hi at _ at3 _ (omega arith) (omega arith) h))
      (region_away at3 (at3 + statement_size s.program b ci) (ExitLocal (hidden s c.in_all)) lo hi (apart lo hi at _ at3 _ (omega arith) (omega arith) h), tt)
  statement_away s (Commit b) c at lo hi h = statement_away s b c (at + 1) lo hi (apart lo hi at _ (at + 1) _ (omega arith) (omega arith) h)
  statement_away s (Println parts) c at lo hi h = tt
  statement_away s (Assert clause scope) c at lo hi h = tt

  pub catches_away : (s : Setting) (cs : Catches) (c : Around) (at lo hi : ℕ) → (hi ≤ at) ⊎ (at + catches_size s.program cs c ≤ lo) → Away lo hi (catches_regions s cs c at)
  catches_away s no_catch c at lo hi h = tt
  catches_away s (or_catch fault number x rest) c at lo hi h =
      let at1 = at + 1 + statement_size s.program x c + 1 in
      away_append lo hi _ _ (statement_away s x c (at + 1) lo hi (apart lo hi at _ (at + 1) _ (omega arith) (omega arith) h))
      (catches_away s rest c at1 lo hi (apart lo hi at _ at1 _ (omega arith) (omega arith) h))

-- the machine passes regions that are away
pub passes : (code : Code) (below : List StackFrame) (m : MethodId) (static : Bool) (this : Option ObjId) (p : ℕ) (fault : Fault) (vs : Variables) (h : Hidden) (t : Tape) (rs after : List Region) → Away p (p + 1) rs → Leads (with_fault code below m static this (rs ++ after) fault vs h p) t (with_fault code below m static this after fault vs h p) t
passes code below m static this p fault vs h t [] after away = stay _ t
passes code below m static this p fault vs h t (r ∷ rs) after away =
    let no_hold : holds r p ≡ false = away.0 p (omega arith) (omega arith) in
    let f = stack_frame m this p [] (whole static this vs h) in
    leads_on (goes code (Throws fault (r ∷ (rs ++ after)) f below) (ap (λ b. choose b (handles r.kind fault (rs ++ after) f below) (Goes (Throws fault (rs ++ after) f below))) no_hold) t)
    (passes code below m static this p fault vs h t rs after away.1)

-- a method's regions: those of a piece stand behind others that are away from it
pub record Sits (all : List Region) (lo hi : ℕ) (rs after : List Region) : Type 0 where
  pub before : List Region
  pub split : all ≡ before ++ (rs ++ after)
  pub away : Away lo hi before

pub sits_first : {all : List Region} {lo hi : ℕ} (lo1 hi1 : ℕ) (ra rb : List Region) {after : List Region} → lo ≤ lo1 → hi1 ≤ hi → Sits all lo hi (ra ++ rb) after → Sits all lo1 hi1 ra (rb ++ after)
sits_first {lo = lo} {hi = hi} lo1 hi1 ra rb {after} le le' s = record { before = s.before; split = s.split ∙ ap (λ l. s.before ++ l) (append_assoc ra rb after); away = away_narrow lo hi lo1 hi1 s.before le le' s.away }

pub sits_in : {all : List Region} {lo hi : ℕ} (lo1 hi1 : ℕ) {rs after : List Region} → lo ≤ lo1 → hi1 ≤ hi → Sits all lo hi rs after → Sits all lo1 hi1 rs after
sits_in {lo = lo} {hi = hi} lo1 hi1 le le' s = record { before = s.before; split = s.split; away = away_narrow lo hi lo1 hi1 s.before le le' s.away }

pub sits_second : {all : List Region} {lo hi : ℕ} (lo1 hi1 : ℕ) (ra rb : List Region) {after : List Region} → lo ≤ lo1 → hi1 ≤ hi → Away lo1 hi1 ra → Sits all lo hi (ra ++ rb) after → Sits all lo1 hi1 rb after
sits_second {lo = lo} {hi = hi} lo1 hi1 ra rb {after} le le' away s = record {
  before = s.before ++ ra;
  split = s.split ∙ ap (λ l. s.before ++ l) (append_assoc ra rb after) ∙ sym (append_assoc s.before ra (rb ++ after));
  away = away_append lo1 hi1 s.before ra (away_narrow lo hi lo1 hi1 s.before le le' s.away) away;
}

-- an exception of an instruction of the piece that none of its own regions holds
pub leaves : {all : List Region} {lo hi : ℕ} {rs after : List Region} (code : Code) (below : List StackFrame) (m : MethodId) (static : Bool) (this : Option ObjId) (p : ℕ) (fault : Fault) (vs : Variables) (h : Hidden) (t : Tape) → all ≡ regions_of code m → lo ≤ p → p < hi → Away p (p + 1) rs → Sits all lo hi rs after → Leads (with_fault code below m static this (regions_of code m) fault vs h p) t (with_fault code below m static this after fault vs h p) t
leaves {lo = lo} {hi = hi} {rs = rs} {after = after} code below m static this p fault vs h t all_is low high away s =
    let start : Leads (with_fault code below m static this (s.before ++ (rs ++ after)) fault vs h p) t (with_fault code below m static this after fault vs h p) t =
    leads_on (passes code below m static this p fault vs h t s.before (rs ++ after) (away_narrow lo hi p (p + 1) s.before low (omega arith) s.away)) (passes code below m static this p fault vs h t rs after away) in
    let P : List Region → Type 0 = λ l. Leads (with_fault code below m static this l fault vs h p) t (with_fault code below m static this after fault vs h p) t in
    subst P (sym s.split ∙ all_is) start
