-- Each form of a statement, as the reader takes it and as the grammar has it.
use Rattle.std.proofs.Common.{◌≡◌, ℕ, suc, ◌+◌, ◌≤◌, ◌<◌, true, false, List, [], length, map, Some, Result, Ok, Err, refl, sym, ap, ◌∙◌, subst, inl, inr, ◌⊎◌, arith}
use Rattle.jr_lexer.specs.declared.kind.Kind.{Kind}
use Rattle.jr_lexer.specs.declared.kind.Kind.TheVariants as k
use Rattle.jr_lexer.specs.Token.{Token as TokenOf}
use Rattle.jr_lexer.specs.Reading.{span_at}
use Rattle.jr_ast.specs.declared.name.Name.{Name}
use Rattle.jr_ast.specs.declared.name.ElementType.{ElementType}
use Rattle.jr_ast.specs.declared.name.TypeName.{TypeName}
use Rattle.jr_ast.specs.Expressions.{Expr}
use Rattle.jr_ast.specs.Statements.{Stmt, Stmts, stmts, Catches, no_catch, and_catch, catches, Catch, Declarator, ForInit, Declares, Evaluates, Part}
use Rattle.jr_ast.specs.Statements as s
use Rattle.jr_reading.specs.Seen.{seen, name_at}
use Rattle.jr_reading.specs.Types.{single, array, element_of}
use Rattle.jr_reading.specs.Listed as commas
use Rattle.jr_expr_parser.specs.Operators.{reach}
use Rattle.jr_expr_parser.specs.Nesting.{nesting as nesting_of_expr}
use Rattle.jr_jml_parser.proofs.Asserts.{assert_starts}
use Rattle.jr_stmt_parser.specs.Grammar as g
use Rattle.jr_stmt_parser.specs.Nesting.{nesting, under, under_declarators, under_init}
use Rattle.jr_base.specs.declared.refusal.Refusal.{Refusal}
use Rattle.jr_base.specs.declared.refusal.Refusal.TheVariants as refusal
use Rattle.jr_base.specs.declared.refusal.Fail.{Fail}
use Rattle.jr_base.specs.declared.refusal.Fail.TheVariants.{Memory, Refused}
use Rattle.jr_ast.specs.declared.stmt.Stmt.{Stmt as StmtTree}
use Rattle.jr_ast.specs.Statements.{view_stmt}
use Rattle.jr_ast.specs.declared.stmt.Form.{Form}
use Rattle.jr_stmt_parser.specs.Answers as answers
use Rattle.jr_stmt_parser.specs.Labels.{Begins, OtherLabel, opened}
use Rattle.jr_stmt_parser.specs.Gives.{Piece, Found, Nothing, Refuses, Fails, GivesIn, GivesStatement, OpensIn}
use Rattle.jr_stmt_parser.specs.Pieces as p
use Rattle.jr_stmt_parser.proofs.Begins.{within}
use Rattle.jr_stmt_parser.proofs.Gives.{found_as, fails_as}
use Rattle.jr_stmt_parser.proofs.Firsts.{starts, begins, begins_not, alone, array_type}
use Rattle.jr_stmt_parser.proofs.Lists.{stops, tk, sn, stopped, standing, first_declared, locals_to, locals_of, effect_to, effect_of, effects_to, effects_of, first_effect, optional_to, optional_of, updates_to, updates_of, parts_to, parts_of}
use Rattle.jr_stmt_parser.proofs.Statements.{each_above, each_shallow, shallow_each, each_under, under_each, block_to, block_of, catches_to, catches_of, seen_other}

pub label_taken : (ts : List TokenOf) (i : ℕ) {j : ℕ} → g.Label ts i → i + 2 ≡ j → (i < j) × (i < length ts)
label_taken ts i x e = (omega arith, within false ts i k.Name x.name (λ e. cc))

module _ (ts : List TokenOf) (d : ℕ) where
  abbrev S : Piece Stmt
  S = p.Inner ts d

  -- a statement that was made
  done : (l i : ℕ) {x y : Stmt} {m j : ℕ} → g.Statement ts i x m → d + nesting x ≤ l → (x ≡ y) × (m ≡ j) → S l i y j
  done l i {x = x} {j = j} a le e = subst (λ y. S l i y j) e.0 (subst (λ j. S l i x j) e.1 (a, le))

  expr_at : {i j m : ℕ} {e : Expr} → i ≡ j → g.Expression ts i e m → g.Expression ts j e m
  expr_at {m = m} {e = e} q x = subst (λ n. g.Expression ts n e m) q x

  stmt_at : {i j m : ℕ} {a : Stmt} → i ≡ j → g.Statement ts i a m → g.Statement ts j a m
  stmt_at {m = m} {a = a} q x = subst (λ n. g.Statement ts n a m) q x

  block_at : {i j m : ℕ} {ss : Stmts} → i ≡ j → g.Block ts i ss m → g.Block ts j ss m
  block_at {m = m} {ss = ss} q x = subst (λ n. g.Block ts n ss m) q x

  name_is : {i j : ℕ} {x : Name} → i ≡ j → name_at ts j ≡ x → name_at ts i ≡ x
  name_is e q = ap (name_at ts) e ∙ q

  pub init_to : {h m : ℕ} {x : ForInit} → d ≤ 128 → p.Init ts (suc d) 128 h x m → g.Init ts h x m × (d + under_init x ≤ 128)
  init_to {h = h} {m = m} fit (inl (s, (q, r))) = subst (λ x. g.Init ts h x m × (d + under_init x ≤ 128)) q (subst (λ m. g.Init ts h (Evaluates []) m) r g.nothing, omega arith)
  init_to {h = h} {m = m} fit (inr (n, inl (b, (x, a, l, (q, r))))) = let w = locals_to ts d fit l in subst (λ x. g.Init ts h x m × (d + under_init x ≤ 128)) q (subst (λ m. g.Init ts h (Declares x.0 x.1) m) r (g.declares w.0), w.1)
  init_to {h = h} {m = m} fit (inr (n, inr (b, (es, a, x, (q, r))))) = let w = effects_to ts d x in subst (λ x. g.Init ts h x m × (d + under_init x ≤ 128)) q (subst (λ m. g.Init ts h (Evaluates es) m) r (g.evaluates w.0), w.1)

  other : (i : ℕ) (a : Kind) → seen false ts i ≡ a → (a ≡ k.Name → ⊥) → g.BeginsPrint ts i → ⊥
  other i a is f b = f (sym is ∙ b.system)

  module _ (fit : d ≤ 128) (i : ℕ) {y : Stmt} {j : ℕ} where
    empties_to : p.Empties ts (suc d) i 128 i y j → S 128 i y j
    empties_to (u, a, (w, _, ea), (q, r)) = done 128 i (g.empty w) (omega arith) (q, ea ∙ r)

    blocks_to : p.Blocks ts (suc d) i 128 i y j → S 128 i y j
    blocks_to (xs, a, x, (q, r)) = let b = block_to ts (suc d) 128 x in let le = each_under d 128 (stmts xs) fit b.1 in done 128 i (g.block b.0) le (q, r)

    declarations_to : p.Declarations ts (suc d) i 128 i y j → S 128 i y j
    declarations_to (x, a, l, (u, b, (z, _, eb), (q, r))) = let w = locals_to ts d fit l in done 128 i (g.locals w.0 z) w.1 (q, eb ∙ r)

    finals_to : p.Finals ts (suc d) i 128 i y j → S 128 i y j
    finals_to (u, a, (f, _, ea), (x, b, l, (v, c, (z, _, ec), (q, r)))) = let w = locals_to ts d fit l in done 128 i (g.final_locals f (subst (λ n. g.Locals ts n x.0 x.1 b) (sym ea) w.0) z) w.1 (q, ec ∙ r)

    evaluations_to : (g.BeginsPrint ts i → ⊥) → p.Evaluations ts (suc d) i 128 i y j → S 128 i y j
    evaluations_to n (e, a, x, (u, b, (z, _, eb), (q, r))) = let w = effect_to ts d x in done 128 i (g.effect w.0 n z) w.1 (q, eb ∙ r)

    ifs_to : p.Ifs ts (suc d) i 128 i y j → S 128 i y j
    ifs_to (u, a, (w, _, ea), (v, b, (o, _, eb), (e, c, (st, le), (x, f, (z, _, ef), (s1, m, (y1, l1), inl (el, (t, n, (_, _, en), (s2, h, (y2, l2), (q, r))))))))) =
        let e2 : b ≡ i + 2 = omega arith in
        done 128 i (g.if_else w (sn ts ea o) (expr_at e2 st.spelled) z (stmt_at (sym ef) y1) el (stmt_at (sym en) y2)) (omega arith) (q, r)
    ifs_to (u, a, (w, _, ea), (v, b, (o, _, eb), (e, c, (st, le), (x, f, (z, _, ef), (s1, m, (y1, l1), inr (n, (q, r))))))) =
        let e2 : b ≡ i + 2 = omega arith in
        done 128 i (g.if_alone w (sn ts ea o) (expr_at e2 st.spelled) z (stmt_at (sym ef) y1) n) (omega arith) (q, r)

    whiles_to : p.Whiles ts (suc d) i 128 i y j → S 128 i y j
    whiles_to (u, a, (w, _, ea), (v, b, (o, _, eb), (e, c, (st, le), (x, f, (z, _, ef), (s1, m, (y1, l1), (q, r)))))) =
        let e2 : b ≡ i + 2 = omega arith in
        done 128 i (g.while w (sn ts ea o) (expr_at e2 st.spelled) z (stmt_at (sym ef) y1)) (omega arith) (q, r)

    dos_to : p.Dos ts (suc d) i 128 i y j → S 128 i y j
    dos_to (u, a, (w, _, ea), (s1, m, (y1, l1), (v, b, (h, _, eb), (v2, c, (o, _, ec), (e, f, (st, le), (v3, t, (z, _, et), (v4, n, (sc, _, en), (q, r)))))))) =
        let e2 : c ≡ m + 2 = omega arith in
        let e3 : f + 2 ≡ j = omega arith in
        done 128 i (g.do_while w (stmt_at (sym ea) y1) h (sn ts eb o) (expr_at e2 st.spelled) z (sn ts et sc)) (omega arith) (q, e3)

    fors_to : p.Fors ts (suc d) i 128 i y j → S 128 i y j
    fors_to (u, a, (w, _, ea), (v, b, (o, _, eb), (x, c, ini, (v2, f, (z, _, ef), (cond, h, opt, (v3, t, (z2, _, et), (es, n, up, (v4, o2, (cl, _, eo), (s1, m, (y1, l1), (q, r)))))))))) =
        let e2 : b ≡ i + 2 = omega arith in
        let x1 = init_to fit ini in
        let x2 = optional_to ts d fit opt in
        let x3 = updates_to ts d fit up in
        let le1 = x1.1 in
        let le2 = x2.1 in
        let le3 = x3.1 in
        done 128 i (g.for w (sn ts ea o) (subst (λ n. g.Init ts n x c) e2 x1.0) z (subst (λ n. g.Optional ts n cond h) (sym ef) x2.0) z2 (subst (λ m. g.Updates ts m es n) (sym et) x3.0) cl (stmt_at (sym eo) y1)) (omega arith) (q, r)

    returns_to : p.Returns ts (suc d) i 128 i y j → S 128 i y j
    returns_to (u, a, (w, _, ea), (o, b, x, (v, c, (z, _, ec), (q, r)))) = let x1 = optional_to ts d fit x in done 128 i (g.return w (subst (λ n. g.Optional ts n o b) (sym ea) x1.0) z) x1.1 (q, ec ∙ r)

    breaks_to : p.Breaks ts (suc d) i 128 i y j → S 128 i y j
    breaks_to (u, a, (w, _, ea), (v, b, (z, _, eb), (q, r))) = let e2 : i + 2 ≡ j = omega arith in done 128 i (g.break w (sn ts ea z)) (omega arith) (q, e2)

    continues_to : p.Continues ts (suc d) i 128 i y j → S 128 i y j
    continues_to (u, a, (w, _, ea), (v, b, (z, _, eb), (q, r))) = let e2 : i + 2 ≡ j = omega arith in done 128 i (g.continue w (sn ts ea z)) (omega arith) (q, e2)

    throws_to : p.Throws ts (suc d) i 128 i y j → S 128 i y j
    throws_to (u, a, (w, _, ea), inl (nw, (v, b, (n, _, eb), (x, c, (x1, f, (nm, _, qn, ef), (v2, h, (o, _, eh), inl (t, (v3, t2, (t', _, et), (v4, o2, (cl, _, eo), (q1, r1)))))), (v5, m, (z, _, em), (q, r)))))) =
        let e2 : i + 2 ≡ b = omega arith in
        let e3 : i + 3 ≡ f = omega arith in
        let e4 : i + 4 ≡ h = omega arith in
        let e5 : i + 5 ≡ t2 = omega arith in
        let e6 : i + 6 ≡ c = omega arith in
        let e7 : i + 7 ≡ j = omega arith in
        done 128 i (g.throw_message w (sn ts ea n) (sn ts e2 nm) (sn ts e3 o) (sn ts e4 t) (sn ts e5 cl) (sn ts e6 z)) (omega arith) (ap (λ x. s.ThrowNew (span_at ts i) x) (name_is e2 qn ∙ q1) ∙ q, e7)
    throws_to (u, a, (w, _, ea), inl (nw, (v, b, (n, _, eb), (x, c, (x1, f, (nm, _, qn, ef), (v2, h, (o, _, eh), inr (t, (v4, o2, (cl, _, eo), (q1, r1))))), (v5, m, (z, _, em), (q, r)))))) =
        let e2 : i + 2 ≡ b = omega arith in
        let e3 : i + 3 ≡ f = omega arith in
        let e4 : i + 4 ≡ h = omega arith in
        let e5 : i + 5 ≡ c = omega arith in
        let e6 : i + 6 ≡ j = omega arith in
        done 128 i (g.throw_new w (sn ts ea n) (sn ts e2 nm) (sn ts e3 o) (sn ts e4 cl) (sn ts e5 z)) (omega arith) (ap (λ x. s.ThrowNew (span_at ts i) x) (name_is e2 qn ∙ q1) ∙ q, e6)
    throws_to (u, a, (w, _, ea), inr (nw, (x, c, (nm, _, qn, ec), (v5, m, (z, _, em), (q, r))))) =
        let e2 : i + 2 ≡ c = omega arith in
        let e3 : i + 3 ≡ j = omega arith in
        done 128 i (g.throw_variable w (sn ts ea nm) (sn ts e2 z)) (omega arith) (ap (λ x. s.ThrowVariable (span_at ts i) x) (name_is ea qn) ∙ q, e3)

    tries_to : p.Tries ts (suc d) i 128 i y j → S 128 i y j
    tries_to (u, a, (w, _, ea), (xs, b, x, (cs, c, (c1, f, x1, (c2, h, x2, (q1, r1))), (q, r)))) =
        let bl = block_to ts (suc d) 128 x in
        let le = each_under d 128 (stmts xs) fit bl.1 in
        let ct = catches_to ts d fit (c1, f, x1, (c2, h, x2, (refl, r1))) in
        let le2 = ct.1 in
        done 128 i (g.try w (block_at (sym ea) bl.0) ct.0) (omega arith) (ap (λ cs. s.Try (span_at ts i) (stmts xs) (catches cs)) q1 ∙ q, r)

    synchronizeds_to : p.Synchronizeds ts (suc d) i 128 i y j → S 128 i y j
    synchronizeds_to (u, a, (w, _, ea), (v, b, (o, _, eb), (e, c, (st, le), (x, f, (z, _, ef), (xs, m, y1, (q, r)))))) =
        let e2 : b ≡ i + 2 = omega arith in
        let bl = block_to ts (suc d) 128 y1 in
        let le2 = each_under d 128 (stmts xs) fit bl.1 in
        done 128 i (g.synchronized w (sn ts ea o) (expr_at e2 st.spelled) z (block_at (sym ef) bl.0)) (omega arith) (q, r)

    asserts_to : p.Asserts ts (suc d) i 128 i y j → S 128 i y j
    asserts_to (e, a, (x, le), (q, r)) = done 128 i (g.assert x) (omega arith) (q, r)

    commits_to : p.Commits ts (suc d) i 128 i y j → S 128 i y j
    commits_to (u, a, (lb, ea), (s1, m, (y1, l1), (n, (q, r)))) = done 128 i (g.commit lb (stmt_at (sym ea) y1) n) (omega arith) (q, r)

    prints_to : p.Prints ts (suc d) i 128 i y j → S 128 i y j
    prints_to (u, a, (b, ea), (ps, c, x, (le, (v, f, (z, _, ef), (v2, h, (sc, _, eh), (q, r)))))) =
        let x1 = parts_to ts d fit x in
        let e2 : c + 2 ≡ j = omega arith in
        done 128 i (g.print b (subst (λ n. g.Printed ts n ps c) (sym ea) x1.0) le z (sn ts ef sc)) x1.1 (q, e2)

    names_to : p.Names ts (suc d) i 128 i y j → S 128 i y j
    names_to (inl (b, x)) = prints_to x
    names_to (inr (n, inl (c, x))) = commits_to x
    names_to (inr (n, inr (c, inl (b, x)))) = declarations_to x
    names_to (inr (n, inr (c, inr (b, x)))) = evaluations_to n x

    pub form_to : (a : Kind) → seen false ts i ≡ a → p.FormBy ts (suc d) a i 128 i y j → S 128 i y j
    form_to k.Semicolon is x = empties_to x
    form_to k.OpenBrace is x = blocks_to x
    form_to k.Int is x = declarations_to x
    form_to k.Long is x = declarations_to x
    form_to k.Boolean is x = declarations_to x
    form_to k.Final is x = finals_to x
    form_to k.If is x = ifs_to x
    form_to k.While is x = whiles_to x
    form_to k.Do is x = dos_to x
    form_to k.For is x = fors_to x
    form_to k.Return is x = returns_to x
    form_to k.Break is x = breaks_to x
    form_to k.Continue is x = continues_to x
    form_to k.Throw is x = throws_to x
    form_to k.Try is x = tries_to x
    form_to k.Synchronized is x = synchronizeds_to x
    form_to k.Name is x = names_to x
    form_to k.End is x = asserts_to x
    form_to _ is x = evaluations_to (other i _ is (λ e. cc)) x

  -- ---- and the other way

  -- a type begins with one of its words, or with a name
  abbrev BeginsType : ℕ → Type 0
  BeginsType i = (seen false ts i ≡ k.Int) ⊎ ((seen false ts i ≡ k.Long) ⊎ ((seen false ts i ≡ k.Boolean) ⊎ (seen false ts i ≡ k.Name)))

  type_kind : (i : ℕ) (a : Kind) (t : ElementType) → seen false ts i ≡ a → element_of a (name_at ts i) ≡ Some t → BeginsType i
  type_kind i k.Int t is e = inl is
  type_kind i k.Long t is e = inr (inl is)
  type_kind i k.Boolean t is e = inr (inr (inl is))
  type_kind i k.Name t is e = inr (inr (inr is))
  type_kind i _ t is e = absurd cc

  abbrev DeclaresAt : ℕ → Type 0
  DeclaresAt i = p.declares (seen false ts i) (seen false ts (i + 1)) (seen false ts (i + 2)) ≡ true

  declares_by : (i : ℕ) (a b c : Kind) → seen false ts i ≡ a → seen false ts (i + 1) ≡ b → seen false ts (i + 2) ≡ c → p.declares a b c ≡ true → DeclaresAt i
  declares_by i a b c x y z e = ap (λ a. p.declares a (seen false ts (i + 1)) (seen false ts (i + 2))) x ∙ (ap (λ b. p.declares a b (seen false ts (i + 2))) y ∙ (ap (λ c. p.declares a b c) z ∙ e))

  locals_kind : {i j : ℕ} {t : TypeName} {ds : List Declarator} → g.Locals ts i t ds j → BeginsType i × DeclaresAt i
  locals_kind {i = i} (g.locals (single {t = t} e) y) = go (type_kind i (seen false ts i) t refl e)
    where
      go : BeginsType i → BeginsType i × DeclaresAt i
      go (inl x) = (inl x, declares_by i k.Int k.Name (seen false ts (i + 2)) x (first_declared ts d y) refl refl)
      go (inr (inl x)) = (inr (inl x), declares_by i k.Long k.Name (seen false ts (i + 2)) x (first_declared ts d y) refl refl)
      go (inr (inr (inl x))) = (inr (inr (inl x)), declares_by i k.Boolean k.Name (seen false ts (i + 2)) x (first_declared ts d y) refl refl)
      go (inr (inr (inr x))) = (inr (inr (inr x)), declares_by i k.Name k.Name (seen false ts (i + 2)) x (first_declared ts d y) refl refl)
  locals_kind {i = i} (g.locals (array {t = t} e o z) y) = go (type_kind i (seen false ts i) t refl e)
    where
      go : BeginsType i → BeginsType i × DeclaresAt i
      go (inl x) = (inl x, declares_by i k.Int k.OpenBracket k.CloseBracket x o z refl)
      go (inr (inl x)) = (inr (inl x), declares_by i k.Long k.OpenBracket k.CloseBracket x o z refl)
      go (inr (inr (inl x))) = (inr (inr (inl x)), declares_by i k.Boolean k.OpenBracket k.CloseBracket x o z refl)
      go (inr (inr (inr x))) = (inr (inr (inr x)), declares_by i k.Name k.OpenBracket k.CloseBracket x o z refl)

  declares_first : (a b c : Kind) → p.declares a b c ≡ true → (a ≡ k.Semicolon → ⊥) × (a ≡ k.Colon → ⊥)
  declares_first a b c e = (λ x. let y : false ≡ true = sym (ap (λ a. p.declares a b c) x) ∙ e in absurd cc, λ x. let y : false ≡ true = sym (ap (λ a. p.declares a b c) x) ∙ e in absurd cc)

  -- behind a name: another, or two brackets
  declares_name : (b c : Kind) → p.declares k.Name b c ≡ true → (b ≡ k.Name) ⊎ ((b ≡ k.OpenBracket) × (c ≡ k.CloseBracket))
  declares_name k.Name c e = inl refl
  declares_name k.OpenBracket k.CloseBracket e = inr (refl, refl)
  declares_name k.OpenBracket _ e = absurd cc
  declares_name _ c e = absurd cc

  -- an expression that a token of the kind ends does not begin where variables are declared
  differs : {a b : Kind} {j m : ℕ} → j ≡ m → seen false ts j ≡ a → seen false ts m ≡ b → (a ≡ b → ⊥) → ⊥
  differs e x y f = f (sym x ∙ (ap (seen false ts) e ∙ y))

  undeclared : {i j : ℕ} {e : Expr} → g.Expression ts i e j → stops (seen false ts j) ≡ true → DeclaresAt i → ⊥
  undeclared {i = i} {j = j} x z b = by (seen false ts i) refl (begins ts x)
    where
      stop_name : (a : Kind) → stops a ≡ true → (a ≡ k.Name → ⊥) × (a ≡ k.OpenBracket → ⊥)
      stop_name a s = (λ e. let y : false ≡ true = sym (ap stops e) ∙ s in absurd cc, λ e. let y : false ≡ true = sym (ap stops e) ∙ s in absurd cc)

      named : seen false ts i ≡ k.Name → (seen false ts (i + 1) ≡ k.Name) ⊎ ((seen false ts (i + 1) ≡ k.OpenBracket) × (seen false ts (i + 2) ≡ k.CloseBracket)) → ⊥
      named n (inl m) = let e = alone ts n (ap reach m) (standing ts z x) in (stop_name (seen false ts j) z).0 (ap (seen false ts) e ∙ m)
      named n (inr (o, c)) = let e = array_type ts i n o c x refl in (stop_name (seen false ts j) z).1 (ap (seen false ts) e ∙ o)

      by : (a : Kind) → seen false ts i ≡ a → starts (seen false ts i) ≡ true → ⊥
      by k.Name is s = named is (declares_name (seen false ts (i + 1)) (seen false ts (i + 2)) (sym (ap (λ a. p.declares a (seen false ts (i + 1)) (seen false ts (i + 2))) is) ∙ b))
      by k.Int is s = let y : false ≡ true = sym (ap starts is) ∙ s in absurd cc
      by k.Long is s = let y : false ≡ true = sym (ap starts is) ∙ s in absurd cc
      by k.Boolean is s = let y : false ≡ true = sym (ap starts is) ∙ s in absurd cc
      by _ is s = let y : false ≡ true = sym (ap (λ a. p.declares a (seen false ts (i + 1)) (seen false ts (i + 2))) is) ∙ b in absurd cc

  init_of : {h m : ℕ} {x : ForInit} (l : ℕ) → g.Init ts h x m → seen false ts m ≡ k.Semicolon → d + under_init x ≤ l → p.Init ts (suc d) l h x m
  init_of l g.nothing z le = inl (z, (refl, refl))
  init_of {h = h} {m = m} l (g.declares {t = t} {ds = ds} x) z le = let b = locals_kind x in inr ((declares_first (seen false ts h) (seen false ts (h + 1)) (seen false ts (h + 2)) b.1).0, inl (b.1, ((t, ds), m, locals_of ts d l x z le, (refl, refl))))
  init_of {h = h} {m = m} l (g.evaluates {es = es} x) z le =
      let f = first_effect ts d x in
      inr (λ e. begins_not ts f.2.spelled e refl, inr (first_undeclared x z, (es, m, effects_of ts d l x (stopped ts m z refl) (λ c. let y : k.Semicolon ≡ k.Comma = sym z ∙ c in absurd cc) le, (refl, refl))))
    where
      first_undeclared : {h m : ℕ} {es : List Expr} → g.Effects ts h es m → seen false ts m ≡ k.Semicolon → DeclaresAt h → ⊥
      first_undeclared (commas.last {j = j} x) z b = undeclared x.spelled (stopped ts j z refl) b
      first_undeclared (commas.more {j = j} x c r) z b = undeclared x.spelled (stopped ts j c refl) b

  -- a form of a kind, of which the token is
  put : (l i : ℕ) (y : Stmt) (j : ℕ) {a b : Kind} → seen false ts i ≡ a → seen false ts i ≡ b → p.FormBy ts (suc d) a i l i y j → p.FormBy ts (suc d) b i l i y j
  put l i y j w is x = subst (λ a. p.FormBy ts (suc d) a i l i y j) (sym w ∙ is) x

  locals_by : (l i : ℕ) {t : TypeName} {ds : List Declarator} {j : ℕ} (a : Kind) → seen false ts i ≡ a → g.Locals ts i t ds j → seen false ts j ≡ k.Semicolon → d + under_declarators ds ≤ l → p.FormBy ts (suc d) a i l i (s.Locals (span_at ts i) t ds) (j + 1)
  locals_by l i {t = t} {ds = ds} {j = j} a is x z le = go (locals_kind x)
    where
      made : p.Declarations ts (suc d) i l i (s.Locals (span_at ts i) t ds) (j + 1)
      made = ((t, ds), j, locals_of ts d l x z le, (tt, j + 1, tk ts j refl z refl, (refl, refl)))

      name_next : DeclaresAt i → seen false ts i ≡ k.Name → (b : Kind) → (b ≡ k.Name → ⊥) → (b ≡ k.OpenBracket → ⊥) → seen false ts (i + 1) ≡ b → ⊥
      name_next b n e f h q = two (declares_name (seen false ts (i + 1)) (seen false ts (i + 2)) (sym (ap (λ a. p.declares a (seen false ts (i + 1)) (seen false ts (i + 2))) n) ∙ b))
        where
          two : (seen false ts (i + 1) ≡ k.Name) ⊎ ((seen false ts (i + 1) ≡ k.OpenBracket) × (seen false ts (i + 2) ≡ k.CloseBracket)) → ⊥
          two (inl m) = f (sym q ∙ m)
          two (inr (o, c)) = h (sym q ∙ o)

      go : BeginsType i × DeclaresAt i → p.FormBy ts (suc d) a i l i (s.Locals (span_at ts i) t ds) (j + 1)
      go (inl w, b) = put l i _ _ w is made
      go (inr (inl w), b) = put l i _ _ w is made
      go (inr (inr (inl w)), b) = put l i _ _ w is made
      go (inr (inr (inr w)), b) = put l i _ _ w is (inr (λ p. name_next b w k.Dot (λ e. cc) (λ e. cc) p.dot, inr (λ c. name_next b w k.Colon (λ e. cc) (λ e. cc) c, inl (b, made))))

  effect_by : (l i : ℕ) {e : Expr} {j : ℕ} (a : Kind) → seen false ts i ≡ a → g.Effect ts i e j → (g.BeginsPrint ts i → ⊥) → seen false ts j ≡ k.Semicolon → d + under e ≤ l → p.FormBy ts (suc d) a i l i (s.Expression (span_at ts i) e) (j + 1)
  effect_by l i {e = e} {j = j} a is x n z le = by a is (sym (ap starts is) ∙ begins ts x.spelled)
    where
      made : p.Evaluations ts (suc d) i l i (s.Expression (span_at ts i) e) (j + 1)
      made = (e, j, effect_of ts d l x (stopped ts j z refl) le, (tt, j + 1, tk ts j refl z refl, (refl, refl)))

      no_colon : seen false ts i ≡ k.Name → seen false ts (i + 1) ≡ k.Colon → ⊥
      no_colon w c = differs (alone ts w (ap reach c) (standing ts (stopped ts j z refl) x.spelled)) z c (λ e. cc)

      by : (a : Kind) → seen false ts i ≡ a → starts a ≡ true → p.FormBy ts (suc d) a i l i (s.Expression (span_at ts i) e) (j + 1)
      by k.Semicolon w t = absurd cc
      by k.OpenBrace w t = absurd cc
      by k.Int w t = absurd cc
      by k.Long w t = absurd cc
      by k.Boolean w t = absurd cc
      by k.Final w t = absurd cc
      by k.If w t = absurd cc
      by k.While w t = absurd cc
      by k.Do w t = absurd cc
      by k.For w t = absurd cc
      by k.Return w t = absurd cc
      by k.Break w t = absurd cc
      by k.Continue w t = absurd cc
      by k.Throw w t = absurd cc
      by k.Try w t = absurd cc
      by k.Synchronized w t = absurd cc
      by k.End w t = absurd cc
      by k.Name w t = inr (n, inr (no_colon w, inr (undeclared x.spelled (stopped ts j z refl), made)))
      by _ w t = made

  -- an expression up to a token
  up_to : {a : Kind} {h m : ℕ} {e : Expr} (l : ℕ) → g.Expression ts h e m → seen false ts m ≡ a → stops a ≡ true → suc d + nesting_of_expr e ≤ l → p.Value ts (suc d) l h e m
  up_to {m = m} l x z s le = (standing ts (stopped ts m z s) x, le)

  pub form_of : (l i : ℕ) {y : Stmt} {j : ℕ} (a : Kind) → seen false ts i ≡ a → g.Statement ts i y j → d + nesting y ≤ l → p.FormBy ts (suc d) a i l i y j
  form_of l i a is (g.empty w) le = put l i _ _ w is (tt, i + 1, tk ts i refl w refl, (refl, refl))
  form_of l i {j = j} a is (g.block {ss = ss} (g.braces w x z)) le =
      let b = block_of ts (suc d) l (g.braces w x z) (under_each d l ss le) in
      put l i _ _ w is (b.0, j, b.2, (ap (λ ss. s.Block (span_at ts i) ss) b.1, refl))
  form_of l i a is (g.locals x z) le = locals_by l i a is x z le
  form_of l i a is (g.final_locals {j = j} {t = t} {ds = ds} w x z) le = put l i _ _ w is (tt, i + 1, tk ts i refl w refl, ((t, ds), j, locals_of ts d l x z le, (tt, j + 1, tk ts j refl z refl, (refl, refl))))
  form_of l i a is (g.effect x n z) le = effect_by l i a is x n z le
  form_of l i a is (g.if_alone {j = j} {m = m} {e = e} {a = b} w o x z y n) le =
      put l i _ _ w is (tt, i + 1, tk ts i refl w refl, (tt, i + 2, tk ts (i + 1) refl o (omega arith), (e, j, up_to l x z refl (omega arith), (tt, j + 1, tk ts j refl z refl, (b, m, (y, omega arith), inr (n, (refl, refl)))))))
  form_of l i a is (g.if_else {j = j} {m = m} {n = n} {e = e} {a = b} {b = c} w o x z y q r) le =
      put l i _ _ w is (tt, i + 1, tk ts i refl w refl, (tt, i + 2, tk ts (i + 1) refl o (omega arith), (e, j, up_to l x z refl (omega arith), (tt, j + 1, tk ts j refl z refl, (b, m, (y, omega arith), inl (q, (tt, m + 1, tk ts m refl q refl, (c, n, (r, omega arith), (refl, refl)))))))))
  form_of l i a is (g.while {j = j} {m = m} {e = e} {a = b} w o x z y) le =
      put l i _ _ w is (tt, i + 1, tk ts i refl w refl, (tt, i + 2, tk ts (i + 1) refl o (omega arith), (e, j, up_to l x z refl (omega arith), (tt, j + 1, tk ts j refl z refl, (b, m, (y, omega arith), (refl, refl))))))
  form_of l i a is (g.do_while {j = j} {m = m} {e = e} {a = b} w y h o x z q) le =
      put l i _ _ w is (tt, i + 1, tk ts i refl w refl, (b, j, (y, omega arith), (tt, j + 1, tk ts j refl h refl, (tt, j + 2, tk ts (j + 1) refl o (omega arith), (e, m, up_to l x z refl (omega arith), (tt, m + 1, tk ts m refl z refl, (tt, m + 2, tk ts (m + 1) refl q (omega arith), (refl, refl))))))))
  form_of l i a is (g.for {j = j} {m = m} {n = n} {o = o'} {init = init} {e = e} {es = es} {a = b} w o x z q z2 u cl r) le =
      put l i _ _ w is (tt, i + 1, tk ts i refl w refl, (tt, i + 2, tk ts (i + 1) refl o (omega arith), (init, j, init_of l x z (omega arith), (tt, j + 1, tk ts j refl z refl, (e, m, optional_of ts d l q z2 (omega arith), (tt, m + 1, tk ts m refl z2 refl, (es, n, updates_of ts d l u cl (omega arith), (tt, n + 1, tk ts n refl cl refl, (b, o', (r, omega arith), (refl, refl))))))))))
  form_of l i a is (g.return {j = j} {e = e} w x z) le = put l i _ _ w is (tt, i + 1, tk ts i refl w refl, (e, j, optional_of ts d l x z le, (tt, j + 1, tk ts j refl z refl, (refl, refl))))
  form_of l i a is (g.break w z) le = put l i _ _ w is (tt, i + 1, tk ts i refl w refl, (tt, i + 2, tk ts (i + 1) refl z (omega arith), (refl, refl)))
  form_of l i a is (g.continue w z) le = put l i _ _ w is (tt, i + 1, tk ts i refl w refl, (tt, i + 2, tk ts (i + 1) refl z (omega arith), (refl, refl)))
  form_of l i a is (g.throw_variable w n z) le = put l i _ _ w is (tt, i + 1, tk ts i refl w refl, inr (λ e. let x : k.Name ≡ k.New = sym n ∙ e in absurd cc, (name_at ts (i + 1), i + 2, (n, (tk ts (i + 1) {j = (i + 1) + 1} refl n refl).1, refl, omega arith), (tt, i + 3, tk ts (i + 2) refl z (omega arith), (refl, refl)))))
  form_of l i a is (g.throw_new w n x o c z) le = put l i _ _ w is (tt, i + 1, tk ts i refl w refl, inl (n, (tt, i + 2, tk ts (i + 1) refl n (omega arith), (name_at ts (i + 2), i + 5, (name_at ts (i + 2), i + 3, (x, (tk ts (i + 2) {j = (i + 2) + 1} refl x refl).1, refl, omega arith), (tt, i + 4, tk ts (i + 3) refl o (omega arith), inr (λ e. let y : k.CloseParen ≡ k.Text = sym c ∙ e in absurd cc, (tt, i + 5, tk ts (i + 4) refl c (omega arith), (refl, refl))))), (tt, i + 6, tk ts (i + 5) refl z (omega arith), (refl, refl))))))
  form_of l i a is (g.throw_message w n x o t c z) le = put l i _ _ w is (tt, i + 1, tk ts i refl w refl, inl (n, (tt, i + 2, tk ts (i + 1) refl n (omega arith), (name_at ts (i + 2), i + 6, (name_at ts (i + 2), i + 3, (x, (tk ts (i + 2) {j = (i + 2) + 1} refl x refl).1, refl, omega arith), (tt, i + 4, tk ts (i + 3) refl o (omega arith), inl (t, (tt, i + 5, tk ts (i + 4) refl t (omega arith), (tt, i + 6, tk ts (i + 5) refl c (omega arith), (refl, refl)))))), (tt, i + 7, tk ts (i + 6) refl z (omega arith), (refl, refl))))))
  form_of l i {j = o'} a is (g.try {j = j} {class = class} {x = v} {ss = ss} {body = body} {cs = cs} w x y) le =
      let b = block_of ts (suc d) l x (under_each d l ss (omega arith)) in
      let c = catches_of ts d l y (omega arith) in
      put l i _ _ w is (tt, i + 1, tk ts i refl w refl, (b.0, j, b.2, (c.0, o', c.2, (ap (λ ss. s.Try (span_at ts i) ss (catches c.0)) b.1 ∙ ap (λ cs. s.Try (span_at ts i) ss cs) c.1, refl))))
  form_of l i {j = o'} a is (g.synchronized {j = j} {e = e} {ss = ss} w o x z y) le =
      let b = block_of ts (suc d) l y (under_each d l ss (omega arith)) in
      put l i _ _ w is (tt, i + 1, tk ts i refl w refl, (tt, i + 2, tk ts (i + 1) refl o (omega arith), (e, j, up_to l x z refl (omega arith), (tt, j + 1, tk ts j refl z refl, (b.0, o', b.2, (ap (λ ss. s.Synchronized (span_at ts i) e ss) b.1, refl))))))
  form_of l i {j = j} a is (g.commit {a = b} x y n) le = put l i _ _ x.name is (inr (λ q. let z : k.Colon ≡ k.Dot = sym x.colon ∙ q.dot in absurd cc, inl (x.colon, (tt, i + 2, (x, refl), (b, j, (y, omega arith), (n, (refl, refl)))))))
  form_of l i a is (g.print {j = j} {ps = ps} x y le8 z u) le = put l i _ _ x.system is (inl (x, (tt, i + 6, (x, refl), (ps, j, parts_of ts d l y z le, (le8, (tt, j + 1, tk ts j refl z refl, (tt, j + 2, tk ts (j + 1) refl u (omega arith), (refl, refl))))))))
  form_of l i {j = j} a is (g.assert {e = e} x) le = put l i _ _ (seen_other ts i k.Assert (assert_starts x) (λ e. cc)) is (e, j, (x, omega arith), (refl, refl))

-- ---- a whole statement

pub statement_found : (ts : List TokenOf) (d n i : ℕ) {x y : Stmt} {j : ℕ} → n ≡ suc d → d ≤ 128 → y ≡ x → Found (p.FormBy ts n (seen false ts i) i) i x j → Found (p.Inner ts d) i y j
statement_found ts d n i {x = x} {y = y} {j = j} e fit q f =
    let g : Found (p.FormBy ts (suc d) (seen false ts i) i) i x j = subst (λ n. Found (p.FormBy ts n (seen false ts i) i) i x j) e f in
    subst (λ y. Found (p.Inner ts d) i y j) (sym q) (found_as (form_to ts d fit i (seen false ts i) refl) (λ l y m r. form_of ts d l i (seen false ts i) refl r.0 r.1) g)

pub statement_fails : {L : ℕ → Type 0} (ts : List TokenOf) (d n i : ℕ) {f : Fail} → n ≡ suc d → Fails L ts n (p.FormBy ts n (seen false ts i) i) i f → Fails L ts (suc d) (p.Inner ts d) i f
statement_fails {L = L} ts d n i {f = f} e x =
    let y : Fails L ts (suc d) (p.FormBy ts (suc d) (seen false ts i) i) i f = subst (λ n. Fails L ts n (p.FormBy ts n (seen false ts i) i) i f) e x in
    fails_as (λ l y m r. form_of ts d l i (seen false ts i) refl r.0 r.1) y

-- a label that is no `commit`
pub label_refused : (ts : List TokenOf) (o depth i : ℕ) {f : Fail} → Begins ts o i → seen false ts i ≡ k.Name → seen false ts (i + 1) ≡ k.Colon → (g.Label ts i → ⊥) → f ≡ Refused (refusal.NotInProfile (span_at ts i)) → Fails (OtherLabel ts o) ts depth (p.Commits ts depth i) i f
label_refused ts o depth i b n c not e = subst (λ f. Fails (OtherLabel ts o) ts depth (p.Commits ts depth i) i f) (sym e) (record {
  why = (λ l y m (u, a, (lb, q), r). not lb, record { at = i; behind = omega arith; span = refl; word = inr (record { begins = b; name = n; text = λ t. not (record { name = n; text = t; colon = c }); colon = c }) });
})

-- ---- a whole block

refuses_block : (ts : List TokenOf) (depth i : ℕ) (r : Refusal) → Refuses (OtherLabel ts i) ts depth (p.Block ts depth) i r → answers.Refuses ts i depth r
refuses_block ts depth i (refusal.Syntax s) x = λ ss j b. none ts depth i x ss j b
  where
    none : (ts : List TokenOf) (depth i : ℕ) → Nothing (p.Block ts depth) i → (ss : Stmts) (j : ℕ) → g.Block ts i ss j → ⊥
    none ts depth i x ss j b = let l = each_above depth ss in let y = block_of ts depth l.0 b l.1 in x l.0 y.0 j y.2
refuses_block ts depth i (refusal.NotInProfile s) x = (λ ss j b. let l = each_above depth ss in let y = block_of ts depth l.0 b l.1 in x.0 l.0 y.0 j y.2, x.1)
refuses_block ts depth i (refusal.BigLiteral s) x = (λ ss j b. let l = each_above depth ss in let y = block_of ts depth l.0 b l.1 in x.0 l.0 y.0 j y.2, x.1)
refuses_block ts depth i (refusal.TooDeep s) x = (λ ss j b e. let y = block_of ts depth 128 b (shallow_each depth ss e) in x.0 y.0 j y.2, x.1)
refuses_block ts depth i _ x = absurd x

pub block_answers : (ts : List TokenOf) (depth i : ℕ) (r : Result (List StmtTree × ℕ) Fail) → GivesIn (OpensIn ts i) (map view_stmt) ts depth (p.Block ts depth) i r → answers.Answers ts i depth r
block_answers ts depth i (Ok r) x = let b = block_to ts depth 128 x.it in record { stands = b.0; shallow = each_shallow depth (stmts (map view_stmt r.0)) b.1 }
block_answers ts depth i (Err Memory) x = tt
block_answers ts depth i (Err (Refused r)) x = refuses_block ts depth i r (x i (λ w. opened w)).why

-- ---- the form of the kind that is seen

pub gives_by : (view : Form → Stmt) (ts : List TokenOf) (depth i : ℕ) (a b : Kind) (r : Result (Form × ℕ) Fail) → b ≡ seen false ts i → b ≡ a → GivesStatement view ts depth (p.FormBy ts depth a i) i r → GivesStatement view ts depth (p.FormBy ts depth (seen false ts i) i) i r
gives_by view ts depth i a b r e q x = subst (λ a. GivesStatement view ts depth (p.FormBy ts depth a i) i r) (sym q ∙ e) x

pub default_by : (view : Form → Stmt) (ts : List TokenOf) (depth i : ℕ) (a : Kind) (r : Result (Form × ℕ) Fail) → a ≡ seen false ts i
    → (a ≡ k.Semicolon → ⊥) → (a ≡ k.OpenBrace → ⊥) → (a ≡ k.Int → ⊥) → (a ≡ k.Long → ⊥) → (a ≡ k.Boolean → ⊥) → (a ≡ k.Final → ⊥) → (a ≡ k.If → ⊥) → (a ≡ k.While → ⊥) → (a ≡ k.Do → ⊥) → (a ≡ k.For → ⊥) → (a ≡ k.Return → ⊥) → (a ≡ k.Break → ⊥) → (a ≡ k.Continue → ⊥) → (a ≡ k.Throw → ⊥) → (a ≡ k.Try → ⊥) → (a ≡ k.Synchronized → ⊥) → (a ≡ k.Name → ⊥) → (a ≡ k.End → ⊥)
    → GivesStatement view ts depth (p.Evaluations ts depth i) i r → GivesStatement view ts depth (p.FormBy ts depth (seen false ts i) i) i r
default_by view ts depth i a r e n1 n2 n3 n4 n5 n6 n7 n8 n9 n10 n11 n12 n13 n14 n15 n16 n17 n18 x = subst (λ a. GivesStatement view ts depth (p.FormBy ts depth a i) i r) e (go a n1 n2 n3 n4 n5 n6 n7 n8 n9 n10 n11 n12 n13 n14 n15 n16 n17 n18)
  where
    go : (a : Kind) → (a ≡ k.Semicolon → ⊥) → (a ≡ k.OpenBrace → ⊥) → (a ≡ k.Int → ⊥) → (a ≡ k.Long → ⊥) → (a ≡ k.Boolean → ⊥) → (a ≡ k.Final → ⊥) → (a ≡ k.If → ⊥) → (a ≡ k.While → ⊥) → (a ≡ k.Do → ⊥) → (a ≡ k.For → ⊥) → (a ≡ k.Return → ⊥) → (a ≡ k.Break → ⊥) → (a ≡ k.Continue → ⊥) → (a ≡ k.Throw → ⊥) → (a ≡ k.Try → ⊥) → (a ≡ k.Synchronized → ⊥) → (a ≡ k.Name → ⊥) → (a ≡ k.End → ⊥) → GivesStatement view ts depth (p.FormBy ts depth a i) i r
    go k.Semicolon n1 n2 n3 n4 n5 n6 n7 n8 n9 n10 n11 n12 n13 n14 n15 n16 n17 n18 = absurd (n1 refl)
    go k.OpenBrace n1 n2 n3 n4 n5 n6 n7 n8 n9 n10 n11 n12 n13 n14 n15 n16 n17 n18 = absurd (n2 refl)
    go k.Int n1 n2 n3 n4 n5 n6 n7 n8 n9 n10 n11 n12 n13 n14 n15 n16 n17 n18 = absurd (n3 refl)
    go k.Long n1 n2 n3 n4 n5 n6 n7 n8 n9 n10 n11 n12 n13 n14 n15 n16 n17 n18 = absurd (n4 refl)
    go k.Boolean n1 n2 n3 n4 n5 n6 n7 n8 n9 n10 n11 n12 n13 n14 n15 n16 n17 n18 = absurd (n5 refl)
    go k.Final n1 n2 n3 n4 n5 n6 n7 n8 n9 n10 n11 n12 n13 n14 n15 n16 n17 n18 = absurd (n6 refl)
    go k.If n1 n2 n3 n4 n5 n6 n7 n8 n9 n10 n11 n12 n13 n14 n15 n16 n17 n18 = absurd (n7 refl)
    go k.While n1 n2 n3 n4 n5 n6 n7 n8 n9 n10 n11 n12 n13 n14 n15 n16 n17 n18 = absurd (n8 refl)
    go k.Do n1 n2 n3 n4 n5 n6 n7 n8 n9 n10 n11 n12 n13 n14 n15 n16 n17 n18 = absurd (n9 refl)
    go k.For n1 n2 n3 n4 n5 n6 n7 n8 n9 n10 n11 n12 n13 n14 n15 n16 n17 n18 = absurd (n10 refl)
    go k.Return n1 n2 n3 n4 n5 n6 n7 n8 n9 n10 n11 n12 n13 n14 n15 n16 n17 n18 = absurd (n11 refl)
    go k.Break n1 n2 n3 n4 n5 n6 n7 n8 n9 n10 n11 n12 n13 n14 n15 n16 n17 n18 = absurd (n12 refl)
    go k.Continue n1 n2 n3 n4 n5 n6 n7 n8 n9 n10 n11 n12 n13 n14 n15 n16 n17 n18 = absurd (n13 refl)
    go k.Throw n1 n2 n3 n4 n5 n6 n7 n8 n9 n10 n11 n12 n13 n14 n15 n16 n17 n18 = absurd (n14 refl)
    go k.Try n1 n2 n3 n4 n5 n6 n7 n8 n9 n10 n11 n12 n13 n14 n15 n16 n17 n18 = absurd (n15 refl)
    go k.Synchronized n1 n2 n3 n4 n5 n6 n7 n8 n9 n10 n11 n12 n13 n14 n15 n16 n17 n18 = absurd (n16 refl)
    go k.Name n1 n2 n3 n4 n5 n6 n7 n8 n9 n10 n11 n12 n13 n14 n15 n16 n17 n18 = absurd (n17 refl)
    go k.End n1 n2 n3 n4 n5 n6 n7 n8 n9 n10 n11 n12 n13 n14 n15 n16 n17 n18 = absurd (n18 refl)
    go _ n1 n2 n3 n4 n5 n6 n7 n8 n9 n10 n11 n12 n13 n14 n15 n16 n17 n18 = x
