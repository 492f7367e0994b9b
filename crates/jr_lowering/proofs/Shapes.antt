-- The kinds of the operands at each place of the code of a program that is well formed.
use Rattle.std.proofs.Common.{◌≡◌, ℕ, Bool, true, false, zero, suc, ◌+◌, List, [], ◌∷◌, ◌++◌, length, Option, Some, None, refl, subst, arith, length-append}
use Rattle.std.specs.Prelude.{slice_get}
use Rattle.jr_base.specs.declared.number.MethodId.{MethodId}
use Rattle.jr_base.specs.declared.kind.SlotKind.{SlotKind}
use Rattle.jr_base.specs.declared.kind.SlotKind.TheVariants.{Int, Long, Bool as Boolean, Ref as Reference, Caught as CaughtKind}
use Rattle.jr_program.specs.Programs.{Program, Expr, Number, Truth, Null, This, ClassObject, Read, LengthOf, Convert, Unary, Binary, And, Or, Choice, Assign, Compound, PrefixIncrement, PostfixIncrement, ResultOf, NewObject, NewPlain, NewThread, NewArray, Variable, Local, StaticField, FieldOf, ElementOf, Call, CallStatic, CallOn, Exprs, no_more, and_then, Part, Literal, Shown, Catches, no_catch, or_catch, Effect, Evaluate, Invoke, CallObject, WaitFor, Yield, Sleep, Statement, Skip, Then, Declare, Do, If, Loop, DoLoop, Break, Continue, Return, ReturnValue, Throw, ThrowCaught, Try, Synchronized, Commit, Println, Assert, constructor_of}
use Rattle.jr_lowering.specs.ExprCode.{Access, OfLocal, OfStatic, OfField, OfElement, access_of, copies_size, conversion_size, choice_size, constructor_size, expr_size, spot_size, call_size, exprs_size}
use Rattle.jr_lowering.specs.StatementCode.{effect_size, effects_size, parts_size, Around, inside_loop, inside_monitor, exit_size, statement_size, catches_size}
use Rattle.jr_program.specs.WellFormed.{Scope, in_body_of_loop, EffectFits, EffectsFit, HasKind, VariableHas, CallHas, ConstructorHas, ExprsHave, PartsFit, Fits, CatchesFit}
use Rattle.jr_arith.specs.Kinds.{kind_of_width, kind_converted, unary_kind, left_kind, right_kind, result_kind}
use Rattle.jr_code.specs.Checked.{kinds_pushed}

abbrev pub Shapes : Type 0
Shapes = List (List SlotKind)

-- those of a method, at each place that is reached
abbrev pub Marks : Type 0
Marks = List (Option (List SlotKind))

-- these shapes stand at this place
abbrev pub ShapesAt : Marks → ℕ → Shapes → Type 0
ShapesAt all at [] = Unit {0}
ShapesAt all at (ks ∷ more) = (slice_get all at ≡ Some (Some ks)) × ShapesAt all (at + 1) more

pub shapes_front : (all : Marks) (at : ℕ) (a b : Shapes) → ShapesAt all at (a ++ b) → ShapesAt all at a
shapes_front all at [] b h = tt
shapes_front all at (ks ∷ a) b h = (h.0, shapes_front all (at + 1) a b h.1)

pub shapes_back : (all : Marks) (at : ℕ) (a b : Shapes) (n : ℕ) → length a ≡ n → ShapesAt all at (a ++ b) → ShapesAt all (at + n) b
shapes_back all at [] b n e h = let e' : at ≡ at + n = omega arith in subst (λ m. ShapesAt all m b) e' h
shapes_back all at (ks ∷ a) b n e h =
    let e' : at + 1 + length a ≡ at + n = omega arith in
    subst (λ m. ShapesAt all m b) e' (shapes_back all (at + 1) a b (length a) refl h.1)

-- the kinds of a variable's operands
abbrev pub held_kinds : Access → List SlotKind → List SlotKind
held_kinds (OfLocal number) ks = ks
held_kinds (OfStatic at kind) ks = ks
held_kinds (OfField slot kind) ks = Reference ∷ ks
held_kinds (OfElement element) ks = Int ∷ (Reference ∷ ks)

abbrev pub copies_shapes : Access → List SlotKind → Shapes
copies_shapes (OfLocal number) ks = []
copies_shapes (OfStatic at kind) ks = []
copies_shapes (OfField slot kind) ks = held_kinds (OfField slot kind) ks ∷ []
copies_shapes (OfElement element) ks = held_kinds (OfElement element) ks ∷ []

abbrev pub conversion_shapes : Bool → List SlotKind → Shapes
conversion_shapes true ks = ks ∷ []
conversion_shapes false ks = []

abbrev pub choice_shapes : SlotKind → List SlotKind → Shapes → Shapes → Shapes → Shapes
choice_shapes k ks test left right = test ++ ((Boolean ∷ ks) ∷ (left ++ ((k ∷ ks) ∷ right)))

abbrev pub made_shapes : (program : Program) (o : Option MethodId) (P : List SlotKind → Type 0) → ConstructorHas program o P → ((js : List SlotKind) → P js → List SlotKind → Shapes) → List SlotKind → Shapes
made_shapes program None P has arguments ks = []
made_shapes program (Some m) P has arguments ks =
    (Reference ∷ ks) ∷ (arguments has.0.formals has.4 (Reference ∷ (Reference ∷ ks)) ++ kinds_pushed has.0.formals (Reference ∷ (Reference ∷ ks)) ∷ [])

abbrev mutual
  pub expr_shapes : (s : Scope) (e : Expr) (k : SlotKind) → HasKind s e k → List SlotKind → Shapes
  expr_shapes s (Number w n) k has ks = ks ∷ []
  expr_shapes s (Truth b) k has ks = ks ∷ []
  expr_shapes s Null k has ks = ks ∷ []
  expr_shapes s This k has ks = ks ∷ []
  expr_shapes s (ClassObject class) k has ks = ks ∷ []
  expr_shapes s (Read v) k has ks = spot_shapes s v k has ks ++ held_kinds (access_of s.program v) ks ∷ []
  expr_shapes s (LengthOf e) k has ks = expr_shapes s e Reference has.0 ks ++ (Reference ∷ ks) ∷ []
  expr_shapes s (Convert w e) k has ks = expr_shapes s e (kind_converted w) has.0 ks ++ (kind_converted w ∷ ks) ∷ []
  expr_shapes s (Unary operator e) k has ks = expr_shapes s e (unary_kind operator) has.0 ks ++ (unary_kind operator ∷ ks) ∷ []
  expr_shapes s (Binary operator a b) k has ks =
      let first = left_kind operator in
      let second = right_kind operator in
      expr_shapes s a first has.0 ks ++ (expr_shapes s b second has.1 (first ∷ ks) ++ (second ∷ (first ∷ ks)) ∷ [])
  expr_shapes s (And a b) k has ks = choice_shapes Boolean ks (expr_shapes s a Boolean has.0 ks) (expr_shapes s b Boolean has.1 ks) (ks ∷ [])
  expr_shapes s (Or a b) k has ks = choice_shapes Boolean ks (expr_shapes s a Boolean has.0 ks) (ks ∷ []) (expr_shapes s b Boolean has.1 ks)
  expr_shapes s (Choice c a b) k has ks = choice_shapes k ks (expr_shapes s c Boolean has.0 ks) (expr_shapes s a k has.1 ks) (expr_shapes s b k has.2 ks)
  expr_shapes s (Assign v e) k has ks =
      let held = held_kinds (access_of s.program v) in
      spot_shapes s v k has.0 ks ++ (expr_shapes s e k has.1 (held ks) ++ ((k ∷ held ks) ∷ ((k ∷ held (k ∷ ks)) ∷ [])))
  expr_shapes s (Compound operator narrows v e) k has ks =
      let access = access_of s.program v in
      let held = held_kinds access in
      let first = left_kind operator in
      let second = right_kind operator in
      spot_shapes s v k has.0 ks ++ (copies_shapes access ks ++ (held (held ks) ∷ (conversion_shapes narrows (k ∷ held ks)
      ++ (expr_shapes s e second has.1 (first ∷ held ks) ++ ((second ∷ (first ∷ held ks)) ∷ (conversion_shapes narrows (result_kind operator ∷ held ks)
      ++ ((k ∷ held ks) ∷ ((k ∷ held (k ∷ ks)) ∷ []))))))))
  expr_shapes s (PrefixIncrement w v by) k has ks =
      let access = access_of s.program v in
      let held = held_kinds access in
      spot_shapes s v k has.0 ks ++ (copies_shapes access ks ++ (held (held ks) ∷ ((k ∷ held ks) ∷ ((kind_of_width w ∷ (k ∷ held ks)) ∷ ((k ∷ held ks) ∷ ((k ∷ held (k ∷ ks)) ∷ []))))))
  expr_shapes s (PostfixIncrement w v by) k has ks =
      let access = access_of s.program v in
      let held = held_kinds access in
      spot_shapes s v k has.0 ks ++ (copies_shapes access ks ++ (held (held ks) ∷ ((k ∷ held ks) ∷ ((k ∷ held (k ∷ ks)) ∷ ((kind_of_width w ∷ (k ∷ held (k ∷ ks))) ∷ ((k ∷ held (k ∷ ks)) ∷ []))))))
  expr_shapes s (ResultOf c) k has ks = call_shapes s c (Some k) has ks
  expr_shapes s (NewObject class es) k has ks = ks ∷ made_shapes s.program (constructor_of s.program class) (λ js. ExprsHave s es js) has.0 (λ js h ks. exprs_shapes s es js h ks) ks
  expr_shapes s NewPlain k has ks = ks ∷ []
  expr_shapes s (NewThread e) k has ks = ks ∷ ((Reference ∷ ks) ∷ (expr_shapes s e Reference has.0 (Reference ∷ (Reference ∷ ks)) ++ (Reference ∷ (Reference ∷ (Reference ∷ ks))) ∷ []))
  expr_shapes s (NewArray element e) k has ks = expr_shapes s e Int has.0 ks ++ (Int ∷ ks) ∷ []

  pub spot_shapes : (s : Scope) (v : Variable) (k : SlotKind) → VariableHas s v k → List SlotKind → Shapes
  spot_shapes s (Local number) k has ks = []
  spot_shapes s (StaticField f) k has ks = []
  spot_shapes s (FieldOf e f) k has ks = expr_shapes s e Reference has.0 ks
  spot_shapes s (ElementOf element a i) k has ks = expr_shapes s a Reference has.0 ks ++ expr_shapes s i Int has.1 (Reference ∷ ks)

  pub call_shapes : (s : Scope) (c : Call) (r : Option SlotKind) → CallHas s c r → List SlotKind → Shapes
  call_shapes s (CallStatic m es) r has ks = exprs_shapes s es has.0.formals has.4 ks ++ kinds_pushed has.0.formals ks ∷ []
  call_shapes s (CallOn e m es) r has ks =
      expr_shapes s e Reference has.5 ks ++ (exprs_shapes s es has.0.formals has.4 (Reference ∷ ks) ++ kinds_pushed has.0.formals (Reference ∷ ks) ∷ [])

  pub exprs_shapes : (s : Scope) (es : Exprs) (js : List SlotKind) → ExprsHave s es js → List SlotKind → Shapes
  exprs_shapes s no_more js has ks = []
  exprs_shapes s (and_then e es) [] has ks = []
  exprs_shapes s (and_then e es) (j ∷ js) has ks = expr_shapes s e j has.0 ks ++ exprs_shapes s es js has.1 (j ∷ ks)

-- ---- effects and statements, each of which begins and ends without operands

abbrev pub effect_shapes : (s : Scope) (effect : Effect) → EffectFits s effect → Shapes
effect_shapes s (Evaluate e) has = expr_shapes s e has.0 has.1 [] ++ (has.0 ∷ []) ∷ []
effect_shapes s (Invoke call) has = call_shapes s call None has []
effect_shapes s (CallObject called e) has = expr_shapes s e Reference has [] ++ (Reference ∷ []) ∷ []
effect_shapes s (WaitFor e t) has = expr_shapes s e Reference has.0 [] ++ (expr_shapes s t Long has.1 (Reference ∷ []) ++ (Long ∷ (Reference ∷ [])) ∷ [])
effect_shapes s Yield has = [] ∷ []
effect_shapes s (Sleep e) has = expr_shapes s e Int has [] ++ (Int ∷ []) ∷ []

abbrev pub effects_shapes : (s : Scope) (effects : List Effect) → EffectsFit s effects → Shapes
effects_shapes s [] has = []
effects_shapes s (effect ∷ effects) has = effect_shapes s effect has.0 ++ effects_shapes s effects has.1

abbrev pub parts_shapes : (s : Scope) (parts : List Part) → PartsFit s parts → List SlotKind → Shapes
parts_shapes s [] has ks = []
parts_shapes s (Literal text ∷ parts) has ks = parts_shapes s parts has.1 ks
parts_shapes s (Shown e ∷ parts) has ks = expr_shapes s e has.0.0 has.0.1 ks ++ parts_shapes s parts has.1 (has.0.0 ∷ ks)

-- the kinds of the values that are printed
abbrev pub parts_kinds : (s : Scope) (parts : List Part) → PartsFit s parts → List SlotKind
parts_kinds s [] has = []
parts_kinds s (Literal text ∷ parts) has = parts_kinds s parts has.1
parts_kinds s (Shown e ∷ parts) has = has.0.0 ∷ parts_kinds s parts has.1

abbrev pub exit_shapes : ℕ → ℕ → List SlotKind → Shapes
exit_shapes depth zero ks = ks ∷ []
exit_shapes zero (suc n) ks = ks ∷ []
exit_shapes (suc depth) (suc n) ks = ks ∷ ((Reference ∷ ks) ∷ exit_shapes depth n ks)

abbrev mutual
  pub statement_shapes : (s : Scope) (st : Statement) → Fits s st → Around → Shapes
  statement_shapes s Skip has c = []
  statement_shapes s (Then a b) has c = statement_shapes s a has.0 c ++ statement_shapes s b has.1 c
  statement_shapes s (Declare number e) has c = expr_shapes s e has.0 has.2 [] ++ (has.0 ∷ []) ∷ []
  statement_shapes s (Do effect) has c = effect_shapes s effect has
  statement_shapes s (If e a b) has c = expr_shapes s e Boolean has.0 [] ++ ((Boolean ∷ []) ∷ (statement_shapes s a has.1 c ++ ([] ∷ statement_shapes s b has.2 c)))
  statement_shapes s (Loop e us b) has c =
      expr_shapes s e Boolean has.0 [] ++ ((Boolean ∷ []) ∷ (statement_shapes (in_body_of_loop s) b has.2 (inside_loop c)
      ++ (effects_shapes s us has.1 ++ [] ∷ [])))
  statement_shapes s (DoLoop b e) has c =
      statement_shapes (in_body_of_loop s) b has.1 (inside_loop c) ++ (expr_shapes s e Boolean has.0 [] ++ ((Boolean ∷ []) ∷ ([] ∷ [])))
  statement_shapes s Break has c = exit_shapes c.in_all c.in_loop []
  statement_shapes s Continue has c = exit_shapes c.in_all c.in_loop []
  statement_shapes s Return has c = exit_shapes c.in_all c.in_all []
  statement_shapes s (ReturnValue e) has c = expr_shapes s e has.0 has.2 [] ++ exit_shapes c.in_all c.in_all (has.0 ∷ [])
  statement_shapes s (Throw fault) has c = [] ∷ []
  statement_shapes s (ThrowCaught number) has c = [] ∷ []
  statement_shapes s (Try b cs) has c = statement_shapes s b has.0 c ++ ([] ∷ catches_shapes s cs has.1 c)
  statement_shapes s (Synchronized e b) has c =
      expr_shapes s e Reference has.0 [] ++ ((Reference ∷ []) ∷ ((Reference ∷ (Reference ∷ [])) ∷ ((Reference ∷ []) ∷ (statement_shapes s b has.1 (inside_monitor c)
      ++ ([] ∷ ((Reference ∷ []) ∷ []))))))
  statement_shapes s (Commit b) has c = [] ∷ statement_shapes s b has c
  statement_shapes s (Println parts) has c = parts_shapes s parts has.0 [] ++ kinds_pushed (parts_kinds s parts has.0) [] ∷ []
  statement_shapes s (Assert clause scope) has c = [] ∷ []

  pub catches_shapes : (s : Scope) (cs : Catches) → CatchesFit s cs → Around → Shapes
  catches_shapes s no_catch has c = []
  catches_shapes s (or_catch fault number h rest) has c = (CaughtKind ∷ []) ∷ (statement_shapes s h has.1 c ++ ([] ∷ catches_shapes s rest has.2 c))

-- ---- there are as many shapes as instructions

len1 : (a : Shapes) (i : List SlotKind) (n : ℕ) → length a ≡ n → length (a ++ i ∷ []) ≡ n + 1
len1 a i n e = omega (arith, length-append a (i ∷ []))

len2 : (a b : Shapes) (i : List SlotKind) (m n : ℕ) → length a ≡ m → length b ≡ n → length (a ++ (b ++ i ∷ [])) ≡ m + n + 1
len2 a b i m n e f = omega (arith, length-append a (b ++ i ∷ []), length-append b (i ∷ []))

len_both : (a b : Shapes) (m n : ℕ) → length a ≡ m → length b ≡ n → length (a ++ b) ≡ m + n
len_both a b m n e f = omega (arith, length-append a b)

len_seam : (a b : Shapes) (i : List SlotKind) (m n : ℕ) → length a ≡ m → length b ≡ n → length (a ++ (i ∷ b)) ≡ m + 1 + n
len_seam a b i m n e f = omega (arith, length-append a (i ∷ b))

choice_len : (c a b : Shapes) (i j : List SlotKind) (k m n : ℕ) → length c ≡ k → length a ≡ m → length b ≡ n → length (c ++ (i ∷ (a ++ (j ∷ b)))) ≡ choice_size k m n
choice_len c a b i j k m n g e f = omega (arith, length-append c (i ∷ (a ++ (j ∷ b))), length-append a (j ∷ b))

pub copies_len : (a : Access) (ks : List SlotKind) → length (copies_shapes a ks) ≡ copies_size a
copies_len (OfLocal number) ks = refl
copies_len (OfStatic at kind) ks = refl
copies_len (OfField slot kind) ks = refl
copies_len (OfElement element) ks = refl

assign_len : (a b : Shapes) (i j : List SlotKind) (m n : ℕ) → length a ≡ m → length b ≡ n → length (a ++ (b ++ (i ∷ (j ∷ [])))) ≡ m + n + 2
assign_len a b i j m n e f = omega (arith, length-append a (b ++ (i ∷ (j ∷ []))), length-append b (i ∷ (j ∷ [])))

pub conversion_len : (b : Bool) (ks : List SlotKind) → length (conversion_shapes b ks) ≡ conversion_size b
conversion_len true ks = refl
conversion_len false ks = refl

compound_len : (a c v b w : Shapes) (r o i j : List SlotKind) (m l p n q : ℕ) → length a ≡ m → length c ≡ l → length v ≡ p → length b ≡ n → length w ≡ q → length (a ++ (c ++ (r ∷ (v ++ (b ++ (o ∷ (w ++ (i ∷ (j ∷ []))))))))) ≡ m + l + 1 + p + n + 1 + q + 2
compound_len a c v b w r o i j m l p n q e g x f y =
    omega (
      arith,
      length-append a (c ++ (r ∷ (v ++ (b ++ (o ∷ (w ++ (i ∷ (j ∷ [])))))))),
      length-append c (r ∷ (v ++ (b ++ (o ∷ (w ++ (i ∷ (j ∷ []))))))),
      length-append v (b ++ (o ∷ (w ++ (i ∷ (j ∷ []))))),
      length-append b (o ∷ (w ++ (i ∷ (j ∷ [])))),
      length-append w (i ∷ (j ∷ [])),
    )

step_len : (a c : Shapes) (i1 i2 i3 i4 i5 : List SlotKind) (m l : ℕ) → length a ≡ m → length c ≡ l → length (a ++ (c ++ (i1 ∷ (i2 ∷ (i3 ∷ (i4 ∷ (i5 ∷ []))))))) ≡ m + l + 5
step_len a c i1 i2 i3 i4 i5 m l e f = omega (arith, length-append a (c ++ (i1 ∷ (i2 ∷ (i3 ∷ (i4 ∷ (i5 ∷ [])))))), length-append c (i1 ∷ (i2 ∷ (i3 ∷ (i4 ∷ (i5 ∷ []))))))

made_len : (program : Program) (o : Option MethodId) (P : List SlotKind → Type 0) (has : ConstructorHas program o P) (arguments : (js : List SlotKind) → P js → List SlotKind → Shapes) (n : ℕ) (ks : List SlotKind) → ((js : List SlotKind) (h : P js) (ks : List SlotKind) → length (arguments js h ks) ≡ n) → length (made_shapes program o P has arguments ks) ≡ constructor_size o n
made_len program None P has arguments n ks e = refl
made_len program (Some m) P has arguments n ks e =
    let kk : List SlotKind = Reference ∷ (Reference ∷ ks) in
    omega (arith, length-append (arguments has.0.formals has.4 kk) (kinds_pushed has.0.formals kk ∷ []), e has.0.formals has.4 kk)

mutual
  pub expr_shapes_len : (s : Scope) (e : Expr) (k : SlotKind) (has : HasKind s e k) (ks : List SlotKind) → length (expr_shapes s e k has ks) ≡ expr_size s.program e
  expr_shapes_len s (Number w n) k has ks = refl
  expr_shapes_len s (Truth b) k has ks = refl
  expr_shapes_len s Null k has ks = refl
  expr_shapes_len s This k has ks = refl
  expr_shapes_len s (ClassObject class) k has ks = refl
  expr_shapes_len s (Read v) k has ks = len1 _ _ _ (spot_shapes_len s v k has ks)
  expr_shapes_len s (LengthOf e) k has ks = len1 _ _ _ (expr_shapes_len s e Reference has.0 ks)
  expr_shapes_len s (Convert w e) k has ks = len1 _ _ _ (expr_shapes_len s e _ has.0 ks)
  expr_shapes_len s (Unary operator e) k has ks = len1 _ _ _ (expr_shapes_len s e _ has.0 ks)
  expr_shapes_len s (Binary operator a b) k has ks = len2 _ _ _ _ _ (expr_shapes_len s a _ has.0 ks) (expr_shapes_len s b _ has.1 _)
  expr_shapes_len s (And a b) k has ks = choice_len _ _ (ks ∷ []) _ _ _ _ _ (expr_shapes_len s a _ has.0 ks) (expr_shapes_len s b _ has.1 ks) refl
  expr_shapes_len s (Or a b) k has ks = choice_len _ (ks ∷ []) _ _ _ _ _ _ (expr_shapes_len s a _ has.0 ks) refl (expr_shapes_len s b _ has.1 ks)
  expr_shapes_len s (Choice c a b) k has ks = choice_len _ _ _ _ _ _ _ _ (expr_shapes_len s c _ has.0 ks) (expr_shapes_len s a k has.1 ks) (expr_shapes_len s b k has.2 ks)
  expr_shapes_len s (Assign v e) k has ks = assign_len _ _ _ _ _ _ (spot_shapes_len s v k has.0 ks) (expr_shapes_len s e k has.1 _)
  expr_shapes_len s (Compound operator narrows v e) k has ks = compound_len _ _ _ _ _ _ _ _ _ _ _ _ _ _ (spot_shapes_len s v k has.0 ks) (copies_len (access_of s.program v) ks) (conversion_len narrows _) (expr_shapes_len s e _ has.1 _) (conversion_len narrows _)
  expr_shapes_len s (PrefixIncrement w v by) k has ks = step_len _ _ _ _ _ _ _ _ _ (spot_shapes_len s v k has.0 ks) (copies_len (access_of s.program v) ks)
  expr_shapes_len s (PostfixIncrement w v by) k has ks = step_len _ _ _ _ _ _ _ _ _ (spot_shapes_len s v k has.0 ks) (copies_len (access_of s.program v) ks)
  expr_shapes_len s (ResultOf c) k has ks = call_shapes_len s c (Some k) has ks
  expr_shapes_len s (NewObject class es) k has ks =
      let e = made_len s.program (constructor_of s.program class) (λ js. ExprsHave s es js) has.0 (λ js h ks. exprs_shapes s es js h ks) (exprs_size s.program es) ks (λ js h ks. exprs_shapes_len s es js h ks) in
      omega (arith, e)
  expr_shapes_len s NewPlain k has ks = refl
  expr_shapes_len s (NewThread e) k has ks =
      let kk : List SlotKind = Reference ∷ (Reference ∷ ks) in
      omega (arith, length-append (expr_shapes s e Reference has.0 kk) ((Reference ∷ kk) ∷ []), expr_shapes_len s e Reference has.0 kk)
  expr_shapes_len s (NewArray element e) k has ks = len1 _ _ _ (expr_shapes_len s e Int has.0 ks)

  pub spot_shapes_len : (s : Scope) (v : Variable) (k : SlotKind) (has : VariableHas s v k) (ks : List SlotKind) → length (spot_shapes s v k has ks) ≡ spot_size s.program v
  spot_shapes_len s (Local number) k has ks = refl
  spot_shapes_len s (StaticField f) k has ks = refl
  spot_shapes_len s (FieldOf e f) k has ks = expr_shapes_len s e Reference has.0 ks
  spot_shapes_len s (ElementOf element a i) k has ks = len_both _ _ _ _ (expr_shapes_len s a Reference has.0 ks) (expr_shapes_len s i Int has.1 _)

  pub call_shapes_len : (s : Scope) (c : Call) (r : Option SlotKind) (has : CallHas s c r) (ks : List SlotKind) → length (call_shapes s c r has ks) ≡ call_size s.program c
  call_shapes_len s (CallStatic m es) r has ks = len1 _ _ _ (exprs_shapes_len s es has.0.formals has.4 ks)
  call_shapes_len s (CallOn e m es) r has ks = len2 _ _ _ _ _ (expr_shapes_len s e Reference has.5 ks) (exprs_shapes_len s es has.0.formals has.4 _)

  pub exprs_shapes_len : (s : Scope) (es : Exprs) (js : List SlotKind) (has : ExprsHave s es js) (ks : List SlotKind) → length (exprs_shapes s es js has ks) ≡ exprs_size s.program es
  exprs_shapes_len s no_more js has ks = refl
  exprs_shapes_len s (and_then e es) [] has ks = absurd has
  exprs_shapes_len s (and_then e es) (j ∷ js) has ks = len_both _ _ _ _ (expr_shapes_len s e j has.0 ks) (exprs_shapes_len s es js has.1 (j ∷ ks))

pub parts_shapes_len : (s : Scope) (parts : List Part) (has : PartsFit s parts) (ks : List SlotKind) → length (parts_shapes s parts has ks) ≡ parts_size s.program parts
parts_shapes_len s [] has ks = refl
parts_shapes_len s (Literal text ∷ parts) has ks = parts_shapes_len s parts has.1 ks
parts_shapes_len s (Shown e ∷ parts) has ks = len_both _ _ _ _ (expr_shapes_len s e has.0.0 has.0.1 ks) (parts_shapes_len s parts has.1 _)

pub exit_shapes_len : (depth n : ℕ) (ks : List SlotKind) → length (exit_shapes depth n ks) ≡ exit_size depth n
exit_shapes_len depth zero ks = refl
exit_shapes_len zero (suc n) ks = refl
exit_shapes_len (suc depth) (suc n) ks = omega (arith, exit_shapes_len depth n ks)

loop_len : (c b u : Shapes) (i j : List SlotKind) (k m n : ℕ) → length c ≡ k → length b ≡ m → length u ≡ n → length (c ++ (i ∷ (b ++ (u ++ j ∷ [])))) ≡ k + 1 + m + n + 1
loop_len c b u i j k m n g e f = omega (arith, length-append c (i ∷ (b ++ (u ++ j ∷ []))), length-append b (u ++ j ∷ []), length-append u (j ∷ []))

do_len : (b c : Shapes) (i j : List SlotKind) (m k : ℕ) → length b ≡ m → length c ≡ k → length (b ++ (c ++ (i ∷ (j ∷ [])))) ≡ m + k + 1 + 1
do_len b c i j m k e g = omega (arith, length-append b (c ++ (i ∷ (j ∷ []))), length-append c (i ∷ (j ∷ [])))

guard_len : (c a : Shapes) (i j l g h : List SlotKind) (k m : ℕ) → length c ≡ k → length a ≡ m → length (c ++ (i ∷ (j ∷ (l ∷ (a ++ (g ∷ (h ∷ []))))))) ≡ k + 1 + 1 + 1 + m + 1 + 1
guard_len c a i j l g h k m x y = omega (arith, length-append c (i ∷ (j ∷ (l ∷ (a ++ (g ∷ (h ∷ [])))))), length-append a (g ∷ (h ∷ [])))

pub effect_shapes_len : (s : Scope) (effect : Effect) (has : EffectFits s effect) → length (effect_shapes s effect has) ≡ effect_size s.program effect
effect_shapes_len s (Evaluate e) has = len1 _ _ _ (expr_shapes_len s e has.0 has.1 [])
effect_shapes_len s (Invoke call) has = call_shapes_len s call None has []
effect_shapes_len s (CallObject called e) has = len1 _ _ _ (expr_shapes_len s e Reference has [])
effect_shapes_len s (WaitFor e t) has = len2 _ _ _ _ _ (expr_shapes_len s e Reference has.0 []) (expr_shapes_len s t Long has.1 _)
effect_shapes_len s Yield has = refl
effect_shapes_len s (Sleep e) has = len1 _ _ _ (expr_shapes_len s e Int has [])

pub effects_shapes_len : (s : Scope) (effects : List Effect) (has : EffectsFit s effects) → length (effects_shapes s effects has) ≡ effects_size s.program effects
effects_shapes_len s [] has = refl
effects_shapes_len s (effect ∷ effects) has = len_both _ _ _ _ (effect_shapes_len s effect has.0) (effects_shapes_len s effects has.1)

mutual
  pub statement_shapes_len : (s : Scope) (st : Statement) (has : Fits s st) (c : Around) → length (statement_shapes s st has c) ≡ statement_size s.program st c
  statement_shapes_len s Skip has c = refl
  statement_shapes_len s (Then a b) has c = len_both _ _ _ _ (statement_shapes_len s a has.0 c) (statement_shapes_len s b has.1 c)
  statement_shapes_len s (Declare number e) has c = len1 _ _ _ (expr_shapes_len s e has.0 has.2 [])
  statement_shapes_len s (Do effect) has c = effect_shapes_len s effect has
  statement_shapes_len s (If e a b) has c = choice_len _ _ _ _ _ _ _ _ (expr_shapes_len s e Boolean has.0 []) (statement_shapes_len s a has.1 c) (statement_shapes_len s b has.2 c)
  statement_shapes_len s (Loop e us b) has c = loop_len _ _ _ _ [] _ _ _ (expr_shapes_len s e Boolean has.0 []) (statement_shapes_len (in_body_of_loop s) b has.2 (inside_loop c)) (effects_shapes_len s us has.1)
  statement_shapes_len s (DoLoop b e) has c = do_len _ _ _ _ _ _ (statement_shapes_len (in_body_of_loop s) b has.1 (inside_loop c)) (expr_shapes_len s e Boolean has.0 [])
  statement_shapes_len s Break has c = exit_shapes_len c.in_all c.in_loop []
  statement_shapes_len s Continue has c = exit_shapes_len c.in_all c.in_loop []
  statement_shapes_len s Return has c = exit_shapes_len c.in_all c.in_all []
  statement_shapes_len s (ReturnValue e) has c = len_both _ _ _ _ (expr_shapes_len s e has.0 has.2 []) (exit_shapes_len c.in_all c.in_all (has.0 ∷ []))
  statement_shapes_len s (Throw fault) has c = refl
  statement_shapes_len s (ThrowCaught number) has c = refl
  statement_shapes_len s (Try b cs) has c = len_seam _ _ _ _ _ (statement_shapes_len s b has.0 c) (catches_shapes_len s cs has.1 c)
  statement_shapes_len s (Synchronized e b) has c = guard_len _ _ _ _ _ _ _ _ _ (expr_shapes_len s e Reference has.0 []) (statement_shapes_len s b has.1 (inside_monitor c))
  statement_shapes_len s (Commit b) has c = let e = statement_shapes_len s b has c in omega (arith, e)
  statement_shapes_len s (Println parts) has c = len1 _ _ _ (parts_shapes_len s parts has.0 [])
  statement_shapes_len s (Assert clause scope) has c = refl

  pub catches_shapes_len : (s : Scope) (cs : Catches) (has : CatchesFit s cs) (c : Around) → length (catches_shapes s cs has c) ≡ catches_size s.program cs c
  catches_shapes_len s no_catch has c = refl
  catches_shapes_len s (or_catch fault number h rest) has c =
      let x = statement_shapes_len s h has.1 c in
      let y = catches_shapes_len s rest has.2 c in
      omega (arith, x, y, length-append (statement_shapes s h has.1 c) ([] ∷ catches_shapes s rest has.2 c))
