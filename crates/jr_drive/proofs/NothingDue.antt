-- Where no clause is due.
use Rattle.std.proofs.Common.{◌≡◌, ◌≢◌, ◌==◌, ◌&&◌, ◌+◌, ◌<◌, ◌≤◌, ℕ, zero, suc, Bool, true, false, List, [], ◌∷◌, Option, Some, None, slice_get, length, refl, sym, ap, ◌∙◌, arith}
use Rattle.std.proofs.lemmas.Bool.Decides.{nat_tests}
use Rattle.jr_base.specs.declared.number.ClauseId.{ClauseId}
use Rattle.jr_base.specs.declared.number.MethodId.{MethodId}
use Rattle.jr_base.specs.declared.number.FieldId.{FieldId}
use Rattle.jr_program.specs.declared.words.ClauseKind.{ClauseKind}
use Rattle.jr_program.specs.declared.words.ClauseKind.TheVariants as kinds
use Rattle.jr_program.specs.Clauses.{Clause, Owner, OfMethod, OfClass, OfField}
use Rattle.jr_program.specs.Programs.{Program, method_at, field_at, clause_at}
use Rattle.std.proofs.lemmas.Option.{slice_get_past}
use Rattle.jr_program.specs.declared.words.Site.{Site}
use Rattle.jr_program.specs.declared.words.Site.TheVariants as sites
use Rattle.jr_program.specs.UnitViews.{IsSite}
use Rattle.jr_program.specs.Sites.{due_at_site, same_kind, same_owner, chosen_from, chosen_of, clauses_of}
use Rattle.jr_program.specs.WellFormed.{WellFormed, FitsOwner}

none-from : (chosen : Clause → Bool) (n : ℕ) (clauses : List Clause) → ((k : ℕ) (clause : Clause) → slice_get clauses k ≡ Some clause → chosen clause ≡ false) →
    chosen_from chosen n clauses ≡ []
none-from chosen n [] none = refl
none-from chosen n (c ∷ cs) none = rw (none zero c refl) (none-from chosen (n + 1) cs (λ k clause at. none (suc k) clause at))

-- nothing is due where no clause is chosen
none-of : (program : Program) (chosen : Clause → Bool) → ((c : ClauseId) (clause : Clause) → clause_at program c ≡ Some clause → chosen clause ≡ false) →
    chosen_of program chosen ≡ []
none-of program chosen none = none-from chosen 1 program.clauses (λ k clause at. none (record { 0 = suc k }) clause at)

-- ---- of a kind that no clause has

and-false : (a b : Bool) → b ≡ false → (a && b) ≡ false
and-false true b e = e
and-false false b e = refl

false-and : (a b : Bool) → a ≡ false → (a && b) ≡ false
false-and a b e = rw e refl

no-locks : (kind : ClauseKind) → kind ≢ kinds.Locks → same_kind kind kinds.Locks ≡ false
no-locks kinds.Locks n = absurd (n refl)
no-locks _ n = refl

no-monitors-for : (kind : ClauseKind) → kind ≢ kinds.MonitorsFor → same_kind kind kinds.MonitorsFor ≡ false
no-monitors-for kinds.MonitorsFor n = absurd (n refl)
no-monitors-for _ n = refl

pub no-clause-of-kind : (program : Program) (owner : Owner) (kind : ClauseKind) →
    ((c : ClauseId) (clause : Clause) → clause_at program c ≡ Some clause → same_kind clause.kind kind ≡ false) → clauses_of program owner kind ≡ []
no-clause-of-kind program owner kind none =
    none-of program _ (λ c clause at. and-false (same_owner clause.owner owner) (same_kind clause.kind kind) (none c clause at))

pub no-locks-due : (program : Program) → ((c : ClauseId) (clause : Clause) → clause_at program c ≡ Some clause → clause.kind ≢ kinds.Locks) →
    (m : MethodId) → clauses_of program (OfMethod m) kinds.Locks ≡ []
no-locks-due program none m = no-clause-of-kind program (OfMethod m) kinds.Locks (λ c clause at. no-locks clause.kind (none c clause at))

pub no-monitors-due : (program : Program) → ((c : ClauseId) (clause : Clause) → clause_at program c ≡ Some clause → clause.kind ≢ kinds.MonitorsFor) →
    (f : FieldId) → clauses_of program (OfField f) kinds.MonitorsFor ≡ []
no-monitors-due program none f = no-clause-of-kind program (OfField f) kinds.MonitorsFor (λ c clause at. no-monitors-for clause.kind (none c clause at))

-- ---- of a method or field that isn't in the program

other-number : (a b : ℕ) → (a ≢ b) → (a == b) ≡ false
other-number a b n = grind (arith, nat_tests)

not-below : (a b : ℕ) → (a < b → ⊥) → b ≤ a
not-below a b n = omega arith

found-not-found : {A : Type 0} (found : ℕ → Option A) (a b : ℕ) (x : A) → found a ≡ Some x → found b ≡ None → a ≢ b
found-not-found found a b x at past e = let same : found a ≡ found b = ap found e in cc

owned-elsewhere : (program : Program) (m : MethodId) → method_at program m ≡ None → (clause : Clause) (owner : Owner) → FitsOwner program clause owner →
    same_owner owner (OfMethod m) ≡ false
owned-elsewhere program m past clause (OfMethod other) fits = other-number other.0 m.0 (found-not-found (slice_get program.methods) other.0 m.0 fits.0 fits.1 past)
owned-elsewhere program m past clause (OfClass c) fits = refl
owned-elsewhere program m past clause (OfField f) fits = refl

pub no-clause-of-method : (program : Program) → WellFormed program → (m : MethodId) → method_at program m ≡ None → (kind : ClauseKind) → clauses_of program (OfMethod m) kind ≡ []
no-clause-of-method program well m past kind =
    none-of program _ (λ c clause at. false-and _ (same_kind clause.kind kind) (owned-elsewhere program m past clause clause.owner (well.clauses c clause at)))

of-other-field : (program : Program) (f : FieldId) → field_at program f ≡ None → (clause : Clause) (owner : Owner) → FitsOwner program clause owner →
    same_owner owner (OfField f) ≡ false
of-other-field program f past clause (OfField other) fits = other-number other.0 f.0 (found-not-found (slice_get program.fields) other.0 f.0 fits.0 fits.1 past)
of-other-field program f past clause (OfClass c) fits = refl
of-other-field program f past clause (OfMethod m) fits = refl

pub no-clause-of-field : (program : Program) → WellFormed program → (f : FieldId) → field_at program f ≡ None → (kind : ClauseKind) → clauses_of program (OfField f) kind ≡ []
no-clause-of-field program well f past kind =
    none-of program _ (λ c clause at. false-and _ (same_kind clause.kind kind) (of-other-field program f past clause clause.owner (well.clauses c clause at)))

-- ---- at a site that isn't in the program

abbrev pub IsNoAssert : Site → Type 0
IsNoAssert (sites.Assert c) = ⊥
IsNoAssert _ = Unit {0}

no-method : (program : Program) (m : MethodId) → (m.0 < length program.methods → ⊥) → method_at program m ≡ None
no-method program m past = slice_get_past program.methods m.0 (not-below m.0 (length program.methods) past)

no-field : (program : Program) (f : FieldId) → (f.0 < length program.fields → ⊥) → field_at program f ≡ None
no-field program f past = slice_get_past program.fields f.0 (not-below f.0 (length program.fields) past)

pub nothing_elsewhere : (program : Program) (site : Site) → WellFormed program → IsNoAssert site → (IsSite program site → ⊥) → due_at_site program site ≡ []
nothing_elsewhere program (sites.Entry m) well other past = rw (no-method program m past) refl
nothing_elsewhere program (sites.Commit m) well other past = no-clause-of-method program well m (no-method program m past) kinds.When
nothing_elsewhere program (sites.Return m) well other past = rw (no-method program m past) refl
nothing_elsewhere program (sites.Access f) well other past = no-clause-of-field program well f (no-field program f past) kinds.MonitorsFor
nothing_elsewhere program (sites.Edge m) well other past = no-clause-of-method program well m (no-method program m past) kinds.Locks
nothing_elsewhere program (sites.Assert c) well other past = absurd other
