-- A statement takes a token at least, and behind it another may begin.
use Rattle.std.proofs.Common.{◌≡◌, ℕ, ◌+◌, ◌≤◌, ◌<◌, Bool, true, false, List, Option, refl, sym, ap, ◌∙◌, inl, arith}
use Rattle.jr_lexer.specs.declared.kind.Kind.{Kind}
use Rattle.jr_lexer.specs.declared.kind.Kind.TheVariants as k
use Rattle.jr_lexer.specs.Token.{Token as TokenOf}
use Rattle.jr_ast.specs.declared.name.TypeName.{TypeName}
use Rattle.jr_ast.specs.Expressions.{Expr}
use Rattle.jr_ast.specs.Statements.{Stmt, Stmts, Catches, Declarator, ForInit, Part}
use Rattle.jr_reading.specs.Seen.{seen}
use Rattle.jr_expr_parser.specs.Grammar.{Spells}
use Rattle.jr_reading.specs.Listed as commas
use Rattle.jr_reading.proofs.TypeNames.{type_on}
use Rattle.jr_jml_parser.specs.Grammar.{asserts, condition}
use Rattle.jr_jml_parser.proofs.Whole.{assert_advances}
use Rattle.jr_stmt_parser.specs.Grammar as g
use Rattle.jr_stmt_parser.specs.Pieces.{opens, MayBegin}
use Rattle.jr_stmt_parser.proofs.Begins.{kind_seen}
use Rattle.jr_stmt_parser.proofs.Given.{advances}

module _ (ts : List TokenOf) where
  on : {jml : Bool} {q l i j : ℕ} {e : Expr} → Spells jml ts q l i e j → i < j
  on x = let a = (advances x).0 in omega arith

  declared_on : {i j : ℕ} {x : Declarator} → g.Declared ts i x j → i < j
  declared_on (g.bare n) = omega arith
  declared_on (g.with_value n e x) = let a = on x in omega arith

  declarators_on : {i j : ℕ} {ds : List Declarator} → g.Declarators ts i ds j → i < j
  declarators_on (commas.last x) = declared_on x
  declarators_on (commas.more x c r) = let a = declared_on x in let b = declarators_on r in omega arith

  locals_on : {i j : ℕ} {t : TypeName} {ds : List Declarator} → g.Locals ts i t ds j → i < j
  locals_on (g.locals x y) = let a = type_on ts x in let b = declarators_on y in omega arith

  effects_on : {i j : ℕ} {es : List Expr} → g.Effects ts i es j → i < j
  effects_on (commas.last x) = on x.spelled
  effects_on (commas.more x c r) = let a = on x.spelled in let b = effects_on r in omega arith

  optional_on : {i j : ℕ} {o : Option Expr} → g.Optional ts i o j → i ≤ j
  optional_on g.missing = omega arith
  optional_on (g.given x) = let a = on x in omega arith

  init_on : {i j : ℕ} {x : ForInit} → g.Init ts i x j → i ≤ j
  init_on g.nothing = omega arith
  init_on (g.declares x) = let a = locals_on x in omega arith
  init_on (g.evaluates x) = let a = effects_on x in omega arith

  updates_on : {i j : ℕ} {es : List Expr} → g.Updates ts i es j → i ≤ j
  updates_on g.nothing = omega arith
  updates_on (g.evaluates x) = let a = effects_on x in omega arith

  part_on : {i j : ℕ} {x : Part} → g.PartOf ts i x j → i < j
  part_on (g.text t) = omega arith
  part_on (g.value x) = on x

  added_on : {i j : ℕ} {ps : List Part} → g.Added ts i ps j → i ≤ j
  added_on g.none = omega arith
  added_on (g.one_more c x r) = let a = part_on x in let b = added_on r in omega arith

  printed_on : {i j : ℕ} {ps : List Part} → g.Printed ts i ps j → i ≤ j
  printed_on g.nothing = omega arith
  printed_on (g.value x) = let a = on x in omega arith
  printed_on (g.text t r) = let a = added_on r in omega arith

  mutual
    pub moves : {i j : ℕ} {a : Stmt} → g.Statement ts i a j → i < j
    moves (g.empty w) = omega arith
    moves (g.block x) = block_moves x
    moves (g.locals x z) = let a = locals_on x in omega arith
    moves (g.final_locals w x z) = let a = locals_on x in omega arith
    moves (g.effect x n z) = let a = on x.spelled in omega arith
    moves (g.if_alone w o x z y n) = let a = on x in let b = moves y in omega arith
    moves (g.if_else w o x z y e u) = let a = on x in let b = moves y in let c = moves u in omega arith
    moves (g.while w o x z y) = let a = on x in let b = moves y in omega arith
    moves (g.do_while w y v o x z u) = let a = on x in let b = moves y in omega arith
    moves (g.for w o x y z u v t r) = let a = init_on x in let b = optional_on z in let c = updates_on v in let d = moves r in omega arith
    moves (g.return w x z) = let a = optional_on x in omega arith
    moves (g.break w z) = omega arith
    moves (g.continue w z) = omega arith
    moves (g.throw_variable w n z) = omega arith
    moves (g.throw_new w n x o c z) = omega arith
    moves (g.throw_message w n x o t c z) = omega arith
    moves (g.try w x y) = let a = block_moves x in let b = catches_on y in omega arith
    moves (g.synchronized w o x z y) = let a = on x in let b = block_moves y in omega arith
    moves (g.commit x y n) = let b = moves y in omega arith
    moves (g.print x y le z u) = let a = printed_on y in omega arith
    moves (g.assert x) = let a = (assert_advances x).0 in omega arith

    pub block_moves : {i j : ℕ} {ss : Stmts} → g.Block ts i ss j → i < j
    block_moves (g.braces w x z) = let a = statements_on x in omega arith

    statements_on : {i j : ℕ} {ss : Stmts} → g.Statements ts i ss j → i ≤ j
    statements_on g.none = omega arith
    statements_on (g.one_more x r) = let a = moves x in let b = statements_on r in omega arith

    catches_on : {i j : ℕ} {cs : Catches} → g.CatchesOf ts i cs j → i ≤ j
    catches_on (g.no_more n) = omega arith
    catches_on (g.caught w o a b z y r) = let c = block_moves y in let d = catches_on r in omega arith

  -- ---- what a statement ends with

  behind : (jml : Bool) (a : Kind) (h : ℕ) {j : ℕ} → seen jml ts h ≡ a → opens a ≡ true → h + 1 ≡ j → MayBegin ts j
  behind jml a h w o e = inl (h, e, ap opens (kind_seen jml ts h a w (λ x. let y : false ≡ true = ap opens (sym x) ∙ o in absurd cc)) ∙ o)

  block_ends : {i j : ℕ} {ss : Stmts} → g.Block ts i ss j → MayBegin ts j
  block_ends (g.braces {j = j} w x z) = behind false k.CloseBrace j z refl refl

  catches_end : {i j : ℕ} {cs : Catches} → g.CatchesOf ts i cs j → MayBegin ts i → MayBegin ts j
  catches_end (g.no_more n) m = m
  catches_end (g.caught w o a b z y r) m = catches_end r (block_ends y)

  pub ends : {i j : ℕ} {a : Stmt} → g.Statement ts i a j → MayBegin ts j
  ends (g.empty {i = i} w) = behind false k.Semicolon i w refl refl
  ends (g.block x) = block_ends x
  ends (g.locals {j = j} x z) = behind false k.Semicolon j z refl refl
  ends (g.final_locals {j = j} w x z) = behind false k.Semicolon j z refl refl
  ends (g.effect {j = j} x n z) = behind false k.Semicolon j z refl refl
  ends (g.if_alone w o x z y n) = ends y
  ends (g.if_else w o x z y e u) = ends u
  ends (g.while w o x z y) = ends y
  ends (g.do_while {m = m} w y v o x z u) = behind false k.Semicolon (m + 1) u refl (omega arith)
  ends (g.for w o x y z u v t r) = ends r
  ends (g.return {j = j} w x z) = behind false k.Semicolon j z refl refl
  ends (g.break {i = i} w z) = behind false k.Semicolon (i + 1) z refl (omega arith)
  ends (g.continue {i = i} w z) = behind false k.Semicolon (i + 1) z refl (omega arith)
  ends (g.throw_variable {i = i} w n z) = behind false k.Semicolon (i + 2) z refl (omega arith)
  ends (g.throw_new {i = i} w n x o c z) = behind false k.Semicolon (i + 5) z refl (omega arith)
  ends (g.throw_message {i = i} w n x o t c z) = behind false k.Semicolon (i + 6) z refl (omega arith)
  ends (g.try w x y) = catches_end y (block_ends x)
  ends (g.synchronized w o x z y) = block_ends y
  ends (g.commit x y n) = ends y
  ends (g.print {j = j} x y le z u) = behind false k.Semicolon (j + 1) u refl (omega arith)
  ends (g.assert (asserts w (condition {j = j} x z))) = behind true k.Semicolon j z refl refl
