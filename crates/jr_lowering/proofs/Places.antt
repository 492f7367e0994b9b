-- Instructions at their places, and the lengths of code.
use Rattle.std.proofs.Common.{◌≡◌, ℕ, Bool, true, false, zero, suc, ◌+◌, ◌<◌, List, [], ◌∷◌, ◌++◌, length, Option, Some, None, refl, ap, ◌∙◌, subst, arith, append_assoc, length-append}
use Rattle.std.specs.Prelude.{slice_get}
use Rattle.std.proofs.Math.Seq.{get_or-append_seam}
use Rattle.std.proofs.lemmas.Option.{slice_get-get_or}
use Rattle.jr_base.specs.declared.number.MethodId.{MethodId}
use Rattle.jr_base.specs.declared.value.Value.TheVariants as values
use Rattle.jr_arith.specs.declared.operator.Width.{Width}
use Rattle.jr_arith.specs.declared.operator.Width.TheVariants as width
use Rattle.jr_program.specs.Programs.{Expr, Number, Truth, Null, This, ClassObject, Read, LengthOf, Convert, Unary, Binary, And, Or, Choice, Assign, Compound, PrefixIncrement, PostfixIncrement, ResultOf, NewObject, NewPlain, NewThread, NewArray, Variable, Local, StaticField, FieldOf, ElementOf, Call, CallStatic, CallOn, Exprs, no_more, and_then, Part, Literal, Shown, Catches, no_catch, or_catch, Effect, Evaluate, Invoke, CallObject, WaitFor, Yield, Sleep, Statement, Skip, Then, Declare, Do, If, Loop, DoLoop, Break, Continue, Return, ReturnValue, Throw, ThrowCaught, Try, Synchronized, Commit, Println, Assert, constructor_of}
use Rattle.jr_base.specs.declared.kind.SlotKind.TheVariants.{Ref as Reference}
use Rattle.jr_code.specs.Instructions.{Instruction, Push, JumpNot, Jump, CallMethodOn, PutField}
use Rattle.jr_lowering.specs.ExprCode.{Setting, Access, OfLocal, OfStatic, OfField, OfElement, access_of, copies, copies_size, conversion, conversion_size, choice_size, choice_code, constructor_size, constructor_code, expr_size, spot_size, call_size, exprs_size, expr_code, spot_code, call_code, exprs_code}
use Rattle.jr_lowering.specs.StatementCode.{effect_size, effect_code, effects_size, effects_code, parts_size, parts_code, Around, inside_loop, inside_monitor, exit_code, exit_size, statement_size, catches_size, statement_code, catches_code}

-- these instructions stand at this place
abbrev pub HasAt : List Instruction → ℕ → List Instruction → Type 0
HasAt is at [] = Unit {0}
HasAt is at (i ∷ more) = (slice_get is at ≡ Some i) × HasAt is (at + 1) more

pub has_front : (is : List Instruction) (at : ℕ) (a b : List Instruction) → HasAt is at (a ++ b) → HasAt is at a
has_front is at [] b h = tt
has_front is at (i ∷ a) b h = (h.0, has_front is (at + 1) a b h.1)

pub has_back : (is : List Instruction) (at : ℕ) (a b : List Instruction) (n : ℕ) → length a ≡ n → HasAt is at (a ++ b) → HasAt is (at + n) b
has_back is at [] b n e h = let e' : at ≡ at + n = omega arith in subst (λ m. HasAt is m b) e' h
has_back is at (i ∷ a) b n e h =
    let e' : at + 1 + length a ≡ at + n = omega arith in
    subst (λ m. HasAt is m b) e' (has_back is (at + 1) a b (length a) refl h.1)

pub has_all : (is pre : List Instruction) → HasAt (pre ++ is) (length pre) is
has_all [] pre = tt
has_all (i ∷ is) pre =
    let within : length pre < length (pre ++ i ∷ is) = omega (arith, length-append pre (i ∷ is)) in
    let here = slice_get-get_or (pre ++ i ∷ is) (length pre) i within ∙ ap Some (get_or-append_seam pre i is i) in
    let n : length (pre ++ i ∷ []) ≡ length pre + 1 = omega (arith, length-append pre (i ∷ [])) in
    let rest = has_all is (pre ++ i ∷ []) in
    let rest' = subst (λ l. HasAt l (length (pre ++ i ∷ [])) is) (append_assoc pre (i ∷ []) is) rest in
    (here, subst (λ m. HasAt (pre ++ i ∷ is) m is) n rest')

-- ---- lengths

len1 : (a : List Instruction) (i : Instruction) (n : ℕ) → length a ≡ n → length (a ++ i ∷ []) ≡ n + 1
len1 a i n e = omega (arith, length-append a (i ∷ []))

len2 : (a b : List Instruction) (i : Instruction) (m n : ℕ) → length a ≡ m → length b ≡ n → length (a ++ (b ++ i ∷ [])) ≡ m + n + 1
len2 a b i m n e f = omega (arith, length-append a (b ++ i ∷ []), length-append b (i ∷ []))

pub len_both : (a b : List Instruction) (m n : ℕ) → length a ≡ m → length b ≡ n → length (a ++ b) ≡ m + n
len_both a b m n e f = omega (arith, length-append a b)

choice_len : (at m n : ℕ) (c a b : List Instruction) (k : ℕ) → length c ≡ k → length a ≡ m → length b ≡ n → length (choice_code at m n c a b) ≡ choice_size k m n
choice_len at m n c a b k g e f = omega (arith, length-append c (JumpNot (at + 1 + m + 1) ∷ (a ++ (Jump (at + 1 + m + 1 + n) ∷ b))), length-append a (Jump (at + 1 + m + 1 + n) ∷ b))

constructor_len : (o : Option MethodId) (a : List Instruction) (n : ℕ) → length a ≡ n → length (constructor_code o a) ≡ constructor_size o n
constructor_len None a n e = refl
constructor_len (Some m) a n e = omega (arith, length-append a (CallMethodOn m ∷ []))

pub copies_len : (a : Access) → length (copies a) ≡ copies_size a
copies_len (OfLocal number) = refl
copies_len (OfStatic at kind) = refl
copies_len (OfField slot kind) = refl
copies_len (OfElement element) = refl

assign_len : (a b : List Instruction) (i j : Instruction) (m n : ℕ) → length a ≡ m → length b ≡ n → length (a ++ (b ++ (i ∷ (j ∷ [])))) ≡ m + n + 2
assign_len a b i j m n e f = omega (arith, length-append a (b ++ (i ∷ (j ∷ []))), length-append b (i ∷ (j ∷ [])))

pub conversion_len : (b : Bool) (w : Width) → length (conversion b w) ≡ conversion_size b
conversion_len true w = refl
conversion_len false w = refl

compound_len : (a c v b w : List Instruction) (r o i j : Instruction) (m l p n q : ℕ) → length a ≡ m → length c ≡ l → length v ≡ p → length b ≡ n → length w ≡ q → length (a ++ (c ++ (r ∷ (v ++ (b ++ (o ∷ (w ++ (i ∷ (j ∷ []))))))))) ≡ m + l + 1 + p + n + 1 + q + 2
compound_len a c v b w r o i j m l p n q e g x f y =
    omega (
      arith,
      length-append a (c ++ (r ∷ (v ++ (b ++ (o ∷ (w ++ (i ∷ (j ∷ [])))))))),
      length-append c (r ∷ (v ++ (b ++ (o ∷ (w ++ (i ∷ (j ∷ []))))))),
      length-append v (b ++ (o ∷ (w ++ (i ∷ (j ∷ []))))),
      length-append b (o ∷ (w ++ (i ∷ (j ∷ [])))),
      length-append w (i ∷ (j ∷ [])),
    )

step_len : (a c : List Instruction) (i1 i2 i3 i4 i5 : Instruction) (m l : ℕ) → length a ≡ m → length c ≡ l → length (a ++ (c ++ (i1 ∷ (i2 ∷ (i3 ∷ (i4 ∷ (i5 ∷ []))))))) ≡ m + l + 5
step_len a c i1 i2 i3 i4 i5 m l e f = omega (arith, length-append a (c ++ (i1 ∷ (i2 ∷ (i3 ∷ (i4 ∷ (i5 ∷ [])))))), length-append c (i1 ∷ (i2 ∷ (i3 ∷ (i4 ∷ (i5 ∷ []))))))

mutual
  pub expr_len : (s : Setting) (e : Expr) (at : ℕ) → length (expr_code s e at) ≡ expr_size s.program e
  expr_len s (Number w n) at = refl
  expr_len s (Truth b) at = refl
  expr_len s Null at = refl
  expr_len s This at = refl
  expr_len s (ClassObject class) at = refl
  expr_len s (Read v) at = len1 _ _ _ (spot_len s v at)
  expr_len s (LengthOf e) at = len1 _ _ _ (expr_len s e at)
  expr_len s (Convert w e) at = len1 _ _ _ (expr_len s e at)
  expr_len s (Unary operator e) at = len1 _ _ _ (expr_len s e at)
  expr_len s (Binary operator a b) at = len2 _ _ _ _ _ (expr_len s a at) (expr_len s b (at + expr_size s.program a))
  expr_len s (And a b) at = choice_len (at + expr_size s.program a) _ _ _ _ (Push (values.Bool false) ∷ []) _ (expr_len s a at) (expr_len s b (at + expr_size s.program a + 1)) refl
  expr_len s (Or a b) at = choice_len (at + expr_size s.program a) _ _ _ (Push (values.Bool true) ∷ []) _ _ (expr_len s a at) refl (expr_len s b (at + expr_size s.program a + 1 + 1 + 1))
  expr_len s (Choice c a b) at = choice_len (at + expr_size s.program c) _ _ _ _ _ _ (expr_len s c at) (expr_len s a (at + expr_size s.program c + 1)) (expr_len s b (at + expr_size s.program c + 1 + expr_size s.program a + 1))
  expr_len s (Assign v e) at = assign_len _ _ _ _ _ _ (spot_len s v at) (expr_len s e (at + spot_size s.program v))
  expr_len s (Compound operator narrows v e) at =
      compound_len _ _ _ _ _ _ _ _ _ _ _ _ _ _ (spot_len s v at) (copies_len (access_of s.program v)) (conversion_len narrows width.Long)
      (expr_len s e (at + spot_size s.program v + copies_size (access_of s.program v) + 1 + conversion_size narrows)) (conversion_len narrows width.Int)
  expr_len s (PrefixIncrement w v by) at = step_len _ _ _ _ _ _ _ _ _ (spot_len s v at) (copies_len (access_of s.program v))
  expr_len s (PostfixIncrement w v by) at = step_len _ _ _ _ _ _ _ _ _ (spot_len s v at) (copies_len (access_of s.program v))
  expr_len s (ResultOf c) at = call_len s c at
  expr_len s (NewObject class es) at = let e = constructor_len (constructor_of s.program class) _ _ (exprs_len s es (at + 1 + 1)) in omega (arith, e)
  expr_len s NewPlain at = refl
  expr_len s (NewThread e) at = omega (arith, length-append (expr_code s e (at + 1 + 1)) (PutField 0 Reference ∷ []), expr_len s e (at + 1 + 1))
  expr_len s (NewArray element e) at = len1 _ _ _ (expr_len s e at)

  pub spot_len : (s : Setting) (v : Variable) (at : ℕ) → length (spot_code s v at) ≡ spot_size s.program v
  spot_len s (Local number) at = refl
  spot_len s (StaticField f) at = refl
  spot_len s (FieldOf e f) at = expr_len s e at
  spot_len s (ElementOf element a i) at = len_both _ _ _ _ (expr_len s a at) (expr_len s i (at + expr_size s.program a))

  pub call_len : (s : Setting) (c : Call) (at : ℕ) → length (call_code s c at) ≡ call_size s.program c
  call_len s (CallStatic m es) at = len1 _ _ _ (exprs_len s es at)
  call_len s (CallOn e m es) at = len2 _ _ _ _ _ (expr_len s e at) (exprs_len s es (at + expr_size s.program e))

  pub exprs_len : (s : Setting) (es : Exprs) (at : ℕ) → length (exprs_code s es at) ≡ exprs_size s.program es
  exprs_len s no_more at = refl
  exprs_len s (and_then e es) at = len_both _ _ _ _ (expr_len s e at) (exprs_len s es (at + expr_size s.program e))

pub parts_len : (s : Setting) (parts : List Part) (at : ℕ) → length (parts_code s parts at) ≡ parts_size s.program parts
parts_len s [] at = refl
parts_len s (Literal text ∷ parts) at = parts_len s parts at
parts_len s (Shown e ∷ parts) at = len_both _ _ _ _ (expr_len s e at) (parts_len s parts (at + expr_size s.program e))

pub exit_len : (s : Setting) (depth n : ℕ) (i : Instruction) → length (exit_code s depth n i) ≡ exit_size depth n
exit_len s depth zero i = refl
exit_len s zero (suc n) i = refl
exit_len s (suc depth) (suc n) i = omega (arith, exit_len s depth n i)

loop_len : (c b u : List Instruction) (i j : Instruction) (k m n : ℕ) → length c ≡ k → length b ≡ m → length u ≡ n → length (c ++ (i ∷ (b ++ (u ++ j ∷ [])))) ≡ k + 1 + m + n + 1
loop_len c b u i j k m n g e f = omega (arith, length-append c (i ∷ (b ++ (u ++ j ∷ []))), length-append b (u ++ j ∷ []), length-append u (j ∷ []))

do_len : (b c : List Instruction) (i j : Instruction) (m k : ℕ) → length b ≡ m → length c ≡ k → length (b ++ (c ++ (i ∷ (j ∷ [])))) ≡ m + k + 1 + 1
do_len b c i j m k e g = omega (arith, length-append b (c ++ (i ∷ (j ∷ []))), length-append c (i ∷ (j ∷ [])))

try_len : (a b : List Instruction) (i : Instruction) (m n : ℕ) → length a ≡ m → length b ≡ n → length (a ++ (i ∷ b)) ≡ m + 1 + n
try_len a b i m n e f = omega (arith, length-append a (i ∷ b))

guard_len : (c a : List Instruction) (i j l g h : Instruction) (k m : ℕ) → length c ≡ k → length a ≡ m → length (c ++ (i ∷ (j ∷ (l ∷ (a ++ (g ∷ (h ∷ []))))))) ≡ k + 1 + 1 + 1 + m + 1 + 1
guard_len c a i j l g h k m x y = omega (arith, length-append c (i ∷ (j ∷ (l ∷ (a ++ (g ∷ (h ∷ [])))))), length-append a (g ∷ (h ∷ [])))

pub effect_len : (s : Setting) (effect : Effect) (at : ℕ) → length (effect_code s effect at) ≡ effect_size s.program effect
effect_len s (Evaluate e) at = len1 _ _ _ (expr_len s e at)
effect_len s (Invoke call) at = call_len s call at
effect_len s (CallObject called e) at = len1 _ _ _ (expr_len s e at)
effect_len s (WaitFor e t) at = len2 _ _ _ _ _ (expr_len s e at) (expr_len s t (at + expr_size s.program e))
effect_len s Yield at = refl
effect_len s (Sleep e) at = len1 _ _ _ (expr_len s e at)

pub effects_len : (s : Setting) (effects : List Effect) (at : ℕ) → length (effects_code s effects at) ≡ effects_size s.program effects
effects_len s [] at = refl
effects_len s (effect ∷ effects) at = len_both _ _ _ _ (effect_len s effect at) (effects_len s effects (at + effect_size s.program effect))

mutual
  pub statement_len : (s : Setting) (st : Statement) (c : Around) (at break_to continue_to : ℕ) → length (statement_code s st c at break_to continue_to) ≡ statement_size s.program st c
  statement_len s Skip c at break_to continue_to = refl
  statement_len s (Then a b) c at break_to continue_to = len_both _ _ _ _ (statement_len s a c at break_to continue_to) (statement_len s b c (at + statement_size s.program a c) break_to continue_to)
  statement_len s (Declare number e) c at break_to continue_to = len1 _ _ _ (expr_len s e at)
  statement_len s (Do effect) c at break_to continue_to = effect_len s effect at
  statement_len s (If e a b) c at break_to continue_to = choice_len (at + expr_size s.program e) _ _ _ _ _ _ (expr_len s e at) (statement_len s a c (at + expr_size s.program e + 1) break_to continue_to) (statement_len s b c (at + expr_size s.program e + 1 + statement_size s.program a c + 1) break_to continue_to)
  statement_len s (Loop e us b) c at break_to continue_to =
      let ci = inside_loop c in
      let at1 = at + expr_size s.program e in
      let at2 = at1 + 1 + statement_size s.program b ci in
      let at3 = at2 + effects_size s.program us in
      loop_len _ _ _ _ (_) _ _ _ (expr_len s e at) (statement_len s b ci (at1 + 1) (at3 + 1) at2) (effects_len s us at2)
  statement_len s (DoLoop b e) c at break_to continue_to =
      let ci = inside_loop c in
      let at1 = at + statement_size s.program b ci in
      let at2 = at1 + expr_size s.program e in
      do_len _ _ _ _ _ _ (statement_len s b ci at (at2 + 1 + 1) at1) (expr_len s e at1)
  statement_len s Break c at break_to continue_to = exit_len s c.in_all c.in_loop _
  statement_len s Continue c at break_to continue_to = exit_len s c.in_all c.in_loop _
  statement_len s Return c at break_to continue_to = exit_len s c.in_all c.in_all _
  statement_len s (ReturnValue e) c at break_to continue_to = len_both _ _ _ _ (expr_len s e at) (exit_len s c.in_all c.in_all _)
  statement_len s (Throw fault) c at break_to continue_to = refl
  statement_len s (ThrowCaught number) c at break_to continue_to = refl
  statement_len s (Try b cs) c at break_to continue_to =
      let at1 = at + statement_size s.program b c in
      try_len _ _ _ _ _ (statement_len s b c at break_to continue_to) (catches_len s cs c (at1 + 1) (at1 + 1 + catches_size s.program cs c) break_to continue_to)
  statement_len s (Synchronized e b) c at break_to continue_to = guard_len _ _ _ _ _ _ _ _ _ (expr_len s e at) (statement_len s b (inside_monitor c) (at + expr_size s.program e + 1 + 1 + 1) break_to continue_to)
  statement_len s (Commit b) c at break_to continue_to = let e = statement_len s b c (at + 1) break_to continue_to in omega (arith, e)
  statement_len s (Println parts) c at break_to continue_to = len1 _ _ _ (parts_len s parts at)
  statement_len s (Assert clause scope) c at break_to continue_to = refl

  pub catches_len : (s : Setting) (cs : Catches) (c : Around) (at end break_to continue_to : ℕ) → length (catches_code s cs c at end break_to continue_to) ≡ catches_size s.program cs c
  catches_len s no_catch c at end break_to continue_to = refl
  catches_len s (or_catch fault number h rest) c at end break_to continue_to =
      let at1 = at + 1 + statement_size s.program h c in
      let x = statement_len s h c (at + 1) break_to continue_to in
      let y = catches_len s rest c (at1 + 1) end break_to continue_to in
      omega (arith, x, y, length-append (statement_code s h c (at + 1) break_to continue_to) (Jump end ∷ catches_code s rest c (at1 + 1) end break_to continue_to))
