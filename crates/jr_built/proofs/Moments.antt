-- The clauses of a built program look at the moment alone.
use Rattle.std.proofs.Common.{◌≡◌, ◌≢◌, ◌&&◌, ℕ, zero, suc, true, false, List, [], ◌∷◌, Some, refl, sym, ap, ◌∙◌}
use Rattle.std.specs.List.{list_all, list_any}
use Rattle.std.proofs.lemmas.Bool.{and_parts, or_from, true≢false}
use Rattle.jr_base.specs.declared.number.ClauseId.{ClauseId}
use Rattle.jr_program.specs.declared.words.ClauseKind.{ClauseKind}
use Rattle.jr_program.specs.declared.words.ClauseKind.TheVariants as kinds
use Rattle.jr_program.specs.Clauses.{Spec, Clause}
use Rattle.jr_program.specs.Clauses as specs
use Rattle.jr_program.specs.Programs.{Program, clause_at}
use Rattle.jr_meaning.specs.Due.{has_old, kind_looks_back}
use Rattle.jr_built.specs.Built.{looks_at_the_moment, kind_is_built, clause_is_built, is_built}
use Rattle.jr_built.specs.OneThread.{LooksAtTheMoment}
use Rattle.jr_built.proofs.Lists.{passes, built-parts}

no-old : (e : Spec) → looks_at_the_moment e ≡ true → has_old e ≡ false
no-old (specs.Number w n) m = refl
no-old (specs.Truth b) m = refl
no-old specs.Null m = refl
no-old specs.This m = refl
no-old (specs.Variable number) m = refl
no-old (specs.Bound depth) m = refl
no-old specs.Result m = refl
no-old (specs.StaticField field at) m = refl
no-old (specs.FieldOf object field slot) m = no-old object m
no-old (specs.ElementOf a b) m = let both = and_parts (looks_at_the_moment a) (looks_at_the_moment b) m in or_from _ _ (no-old a both.0) (no-old b both.1)
no-old (specs.LengthOf array) m = no-old array m
no-old (specs.ClassObject class) m = refl
no-old (specs.Convert w operand) m = no-old operand m
no-old (specs.Unary operator operand) m = no-old operand m
no-old (specs.Binary operator a b) m = let both = and_parts (looks_at_the_moment a) (looks_at_the_moment b) m in or_from _ _ (no-old a both.0) (no-old b both.1)
no-old (specs.And a b) m = let both = and_parts (looks_at_the_moment a) (looks_at_the_moment b) m in or_from _ _ (no-old a both.0) (no-old b both.1)
no-old (specs.Or a b) m = let both = and_parts (looks_at_the_moment a) (looks_at_the_moment b) m in or_from _ _ (no-old a both.0) (no-old b both.1)
no-old (specs.Choice c a b) m =
    let both = and_parts (looks_at_the_moment c) (looks_at_the_moment a && looks_at_the_moment b) m in
    let rest = and_parts (looks_at_the_moment a) (looks_at_the_moment b) both.1 in
    or_from _ _ (no-old c both.0) (or_from _ _ (no-old a rest.0) (no-old b rest.1))
no-old (specs.Implies a b) m = let both = and_parts (looks_at_the_moment a) (looks_at_the_moment b) m in or_from _ _ (no-old a both.0) (no-old b both.1)
no-old (specs.ImpliedBy a b) m = let both = and_parts (looks_at_the_moment a) (looks_at_the_moment b) m in or_from _ _ (no-old a both.0) (no-old b both.1)
no-old (specs.Old value) m = absurd (true≢false (sym m))
no-old (specs.InLockset object) m = absurd (true≢false (sym m))
no-old (specs.Quantified quantifier low low_bound high high_bound conjuncts body) m =
    let one = and_parts (looks_at_the_moment low) (looks_at_the_moment high && (looks_at_the_moment conjuncts && looks_at_the_moment body)) m in
    let two = and_parts (looks_at_the_moment high) (looks_at_the_moment conjuncts && looks_at_the_moment body) one.1 in
    let three = and_parts (looks_at_the_moment conjuncts) (looks_at_the_moment body) two.1 in
    or_from _ _ (no-old low one.0) (or_from _ _ (no-old high two.0) (or_from _ _ (no-old conjuncts three.0) (no-old body three.1)))

none-old : (es : List Spec) → list_all looks_at_the_moment es ≡ true → list_any has_old es ≡ false
none-old [] m = refl
none-old (e ∷ es) m =
    let both = and_parts (looks_at_the_moment e) (list_all looks_at_the_moment es) m in
    or_from _ _ (no-old e both.0) (none-old es both.1)

kind-looks-not-back : (kind : ClauseKind) → kind_is_built kind ≡ true → kind_looks_back kind ≡ false
kind-looks-not-back kinds.Locks b = absurd (true≢false (sym b))
kind-looks-not-back kinds.MonitorsFor b = refl
kind-looks-not-back kinds.Atomic b = absurd (true≢false (sym b))
kind-looks-not-back _ b = refl

-- a kind that isn't built is no kind that is
other-kind : (kind other : ClauseKind) → kind_is_built kind ≡ true → kind_is_built other ≡ false → kind ≢ other
other-kind kind other b c e = true≢false (sym b ∙ ap kind_is_built e ∙ c)

at-the-moment : (clause : Clause) → clause_is_built clause ≡ true → LooksAtTheMoment clause
at-the-moment clause b =
    let both = and_parts (kind_is_built clause.kind) (list_all looks_at_the_moment clause.states) b in
    record {
      no_locks = other-kind clause.kind kinds.Locks both.0 refl;
      no_monitors_for = other-kind clause.kind kinds.MonitorsFor both.0 refl;
      no_atomic = other-kind clause.kind kinds.Atomic both.0 refl;
      looks_not_back = or_from _ _ (kind-looks-not-back clause.kind both.0) (none-old clause.states both.1);
      states = both.1;
    }

pub clauses-at-the-moment : (program : Program) → is_built program ≡ true → (c : ClauseId) (clause : Clause) → clause_at program c ≡ Some clause → LooksAtTheMoment clause
clauses-at-the-moment program built c clause at = at-the-moment clause (by c.0 at)
  where
    all : list_all clause_is_built program.clauses ≡ true
    all = (built-parts program built).2

    by : (n : ℕ) → clause_at program (record { 0 = n }) ≡ Some clause → clause_is_built clause ≡ true
    by zero e = cc
    by (suc n) e = passes clause_is_built program.clauses n clause all e
