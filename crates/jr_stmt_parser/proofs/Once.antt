-- At most one of each stands at an index.
use Rattle.std.proofs.Common.{◌≡◌, ℕ, zero, suc, ◌+◌, ◌≤◌, false, List, ◌∷◌, Result, Ok, refl, sym, ap, ◌∙◌, subst, inl, inr, arith}
use Rattle.jr_lexer.specs.declared.kind.Kind.{Kind}
use Rattle.jr_lexer.specs.declared.kind.Kind.TheVariants as k
use Rattle.jr_lexer.specs.Token.{Token as TokenOf}
use Rattle.jr_base.specs.declared.refusal.Refusal.{Refusal}
use Rattle.jr_ast.specs.declared.name.TypeName.{TypeName}
use Rattle.jr_ast.specs.Statements.{stmts}
use Rattle.jr_reading.specs.Seen.{seen}
use Rattle.jr_jml_parser.proofs.Whole.{one_assert}
use Rattle.jr_stmt_parser.specs.Answers.{OneBlock}
use Rattle.jr_stmt_parser.specs.Gives.{Piece, Then, Just, Split, When, Many, stop, step, Listed}
use Rattle.jr_stmt_parser.specs.Pieces as p
use Rattle.jr_stmt_parser.proofs.Given.{one_tree}
use Rattle.jr_stmt_parser.proofs.Statements.{each_above, block_of}
use Rattle.jr_stmt_parser.proofs.EachForm.{form_of}

-- what stands within a limit is the only such, whatever the limit of another
pub record Once {A : Type 0} (l : ℕ) (P : Piece A) : Type 0 where
  pub same : (i : ℕ) (x : A) (j n : ℕ) (y : A) (m : ℕ) → P l i x j → P n i y m → (x ≡ y) × (j ≡ m)

once_then : {A B : Type 0} {l : ℕ} {P : Piece A} {Q : A → Piece B} → Once l P → ((x : A) → Once l (Q x)) → Once l (Then P Q)
once_then {l = l} {P = P} {Q = Q} p q = record {
  same = λ i x j n y m (a, b, c, d) (e, f, g, h).
      let z = p.same i a b n e f c g in
      (q a).same b x j n y m d (subst (λ b. Q a n b y m) (sym z.1) (subst (λ a. Q a n f y m) (sym z.0) h));
}

once_made : {A : Type 0} {l : ℕ} {x : A} → Once l (Just x)
once_made = record { same = λ i x j n y m a b. (sym a.0 ∙ b.0, sym a.1 ∙ b.1) }

once_when : {A : Type 0} {T : Type 0} {l : ℕ} {P : Piece A} → Once l P → Once l (When T P)
once_when p = record { same = λ i x j n y m a b. p.same i x j n y m a.1 b.1 }

once_split : {A : Type 0} {T : ℕ → Type 0} {l : ℕ} {P Q : Piece A} → Once l P → Once l Q → Once l (Split T P Q)
once_split {T = T} {l = l} {P = P} {Q = Q} p q = record { same = go }
  where
    go : (i : ℕ) (x : _) (j n : ℕ) (y : _) (m : ℕ) → Split T P Q l i x j → Split T P Q n i y m → (x ≡ y) × (j ≡ m)
    go i x j n y m (inl (s, a)) (inl (t, b)) = p.same i x j n y m a b
    go i x j n y m (inl (s, a)) (inr (t, b)) = absurd (t s)
    go i x j n y m (inr (s, a)) (inl (t, b)) = absurd (s t)
    go i x j n y m (inr (s, a)) (inr (t, b)) = q.same i x j n y m a b

once_many : {A : Type 0} {Stop : ℕ → Type 0} {l : ℕ} {Item : Piece A} → Once l Item → Once l (Many Stop Item)
once_many {Stop = Stop} {l = l} {Item = Item} p = record { same = λ i x j n y m a b. go x j n y m a b }
  where
    go : {i : ℕ} (x : List _) (j n : ℕ) (y : List _) (m : ℕ) → Many Stop Item l i x j → Many Stop Item n i y m → (x ≡ y) × (j ≡ m)
    go x j n y m (stop s) (stop t) = (refl, refl)
    go x j n y m (stop s) (step t b r) = absurd (t s)
    go x j n y m (step s a q) (stop t) = absurd (s t)
    go x j n y m (step {i = i} {j = u} {x = e} {xs = es} s a q) (step {j = v} {x = f} {xs = fs} t b r) =
        let z = p.same i e u n f v a b in
        let w = go es j n fs m q (subst (λ v. Many Stop Item n v fs m) (sym z.1) r) in
        (ap (λ e. e ∷ es) z.0 ∙ ap (λ es. f ∷ es) w.0, w.1)

once_listed : {A : Type 0} {l : ℕ} {First : Piece A} {Rest : Piece (List A)} → Once l First → Once l Rest → Once l (Listed First Rest)
once_listed p q = once_then p (λ x. once_then q (λ xs. once_made))

module _ (ts : List TokenOf) (l : ℕ) where
  token : (a : Kind) → Once l (p.Token ts a)
  token a = record { same = λ i x j n y m a b. (refl, sym a.2 ∙ b.2) }

  after : {A : Type 0} {a : Kind} {P : Piece A} → Once l P → Once l (p.After ts a P)
  after {a = a} q = once_then (token a) (λ u. q)

  named : Once l (p.Named ts)
  named = record { same = λ i x j n y m a b. (sym a.2 ∙ b.2, sym a.3 ∙ b.3) }

  both : (x y : TypeName × ℕ) → ◌≡◌ {A = Result (TypeName × ℕ) Refusal} (Ok x) (Ok y) → x ≡ y
  both x y e = cc

  typed : Once l (p.Typed ts)
  typed = record { same = λ i x j n y m a b. let e = both (x, j) (y, m) (sym a ∙ b) in (ap (λ (r : TypeName × ℕ). r.0) e, ap (λ (r : TypeName × ℕ). r.1) e) }

  module _ (d : ℕ) where
    value : Once l (p.Value ts d)
    value = record { same = λ i x j n y m a b. one_tree false ts 1 i j m x y a.0 b.0 }

    factor : Once l (p.Factor ts d)
    factor = record { same = λ i x j n y m a b. one_tree false ts 15 i j m x y a.0 b.0 }

    asserted : Once l (p.Asserted ts d)
    asserted = record { same = λ i x j n y m a b. one_assert a.0 b.0 }

    string : Once l (p.String ts d)
    string = record { same = λ i x j n y m a b. (sym a.3 ∙ b.3, sym a.4 ∙ b.4) }

    declared : Once l (p.Declared ts d)
    declared = once_then named (λ x. once_split (after (once_then value (λ e. once_made))) once_made)

    locals : Once l (p.Locals ts d)
    locals = once_then typed (λ t. once_then (once_listed declared (once_many (after declared))) (λ ds. once_made))

    effect : Once l (p.Effect ts d)
    effect = once_then value (λ e. once_when once_made)

    effects : Once l (p.Effects ts d)
    effects = once_listed effect (once_many (after effect))

    optional : Once l (p.Optional ts d)
    optional = once_split once_made (once_then value (λ e. once_made))

    init : Once l (p.Init ts d)
    init = once_split once_made (once_split (once_then locals (λ x. once_made)) (once_then effects (λ x. once_made)))

    updates : Once l (p.Updates ts d)
    updates = once_split once_made effects

    parts : Once l (p.Parts ts d)
    parts = once_split once_made (once_split (once_listed string (once_many (after (once_split string (once_then factor (λ e. once_made)))))) (once_then value (λ e. once_made)))

    -- ---- with statements inside

    module _ (inner : Once l (p.Inner ts d)) where
      block : Once l (p.Block ts d)
      block = once_then (token k.OpenBrace) (λ u. once_then (once_many inner) (λ ss. after once_made))

      caught : Once l (p.Caught ts d)
      caught = after (after (once_then named (λ x. once_then named (λ y. after (once_then block (λ ss. once_made))))))

      ifs : (h : ℕ) → Once l (p.Ifs ts d h)
      ifs h = after (after (once_then value (λ e. after (once_then inner (λ a. once_split (after (once_then inner (λ b. once_made))) once_made)))))

      names : (h : ℕ) → Once l (p.Names ts d h)
      names h = once_split (once_then (record { same = λ i x j n y m a b. (refl, sym a.1 ∙ b.1) }) (λ u. once_then parts (λ ps. once_when (after (after once_made)))))
          (once_split (once_then (record { same = λ i x j n y m a b. (refl, sym a.1 ∙ b.1) }) (λ u. once_then inner (λ a. once_when once_made)))
          (once_split (once_then locals (λ x. after once_made)) (once_then effect (λ e. after once_made))))

      made : Once l (p.Made ts d)
      made = once_then named (λ x. after (once_split (after (after once_made)) (after once_made)))

      form : (a : Kind) (h : ℕ) → Once l (p.FormBy ts d a h)
      form k.Semicolon h = after once_made
      form k.OpenBrace h = once_then block (λ ss. once_made)
      form k.Int h = once_then locals (λ x. after once_made)
      form k.Long h = once_then locals (λ x. after once_made)
      form k.Boolean h = once_then locals (λ x. after once_made)
      form k.Final h = after (once_then locals (λ x. after once_made))
      form k.If h = ifs h
      form k.While h = after (after (once_then value (λ e. after (once_then inner (λ a. once_made)))))
      form k.Do h = after (once_then inner (λ a. after (after (once_then value (λ e. after (after once_made))))))
      form k.For h = after (after (once_then init (λ x. after (once_then optional (λ e. after (once_then updates (λ es. after (once_then inner (λ a. once_made)))))))))
      form k.Return h = after (once_then optional (λ e. after once_made))
      form k.Break h = after (after once_made)
      form k.Continue h = after (after once_made)
      form k.Throw h = after (once_split (after (once_then made (λ x. after once_made))) (once_then named (λ x. after once_made)))
      form k.Try h = after (once_then block (λ ss. once_then (once_listed caught (once_many caught)) (λ cs. once_made)))
      form k.Synchronized h = after (after (once_then value (λ e. after (once_then block (λ ss. once_made)))))
      form k.Name h = names h
      form k.End h = once_then asserted (λ e. once_made)
      form _ h = once_then effect (λ e. after once_made)

  -- by the room that is left for nesting
  inner : (r d : ℕ) → l ≤ d + r → Once l (p.Inner ts d)
  inner zero d le = record { same = λ i x j n y m a b. (form (suc d) (record { same = λ i x j n y m a b. let lt = a.1 in absurd (omega arith) }) (seen false ts i) i).same i x j n y m (form_of ts d l i (seen false ts i) refl a.0 a.1) (form_of ts d n i (seen false ts i) refl b.0 b.1) }
  inner (suc r) d le = record { same = λ i x j n y m a b. (form (suc d) (inner r (suc d) (omega arith)) (seen false ts i) i).same i x j n y m (form_of ts d l i (seen false ts i) refl a.0 a.1) (form_of ts d n i (seen false ts i) refl b.0 b.1) }

pub one_block : OneBlock
one_block ts i j m a b x y =
    let l = each_above 0 a in
    let n = each_above 0 b in
    let v = block_of ts 0 l.0 x l.1 in
    let w = block_of ts 0 n.0 y n.1 in
    let e = (block ts l.0 0 (inner ts l.0 l.0 0 (omega arith))).same i v.0 j n.0 w.0 m v.2 w.2 in
    (sym v.1 ∙ (ap stmts e.0 ∙ w.1), e.1)
