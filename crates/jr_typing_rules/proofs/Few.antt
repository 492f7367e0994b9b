-- At most 16 clauses are due at each site of an accepted source.
use Rattle.std.proofs.Common.{◌≡◌, ◌==◌, ◌<◌, ◌≤◌, ◌&&◌, ◌⊎◌, inl, inr, ℕ, ◌+◌, zero, suc, Bool, true, false, List, [], ◌∷◌, length, None, refl, ap, arith}
use Rattle.std.specs.Prelude.{nat_le}
use Rattle.std.proofs.lemmas.Bool.Decides.{nat_tests}
use Rattle.std.specs.List.{flat_map}
use Rattle.std.specs.Option.{option_map_or}
use Rattle.std.proofs.lemmas.Bool.{cases_lt, ne_eqb}
use Rattle.std.proofs.lemmas.Option.{slice_get_past}
use Rattle.jr_base.specs.declared.number.MethodId.{MethodId}
use Rattle.jr_base.specs.declared.number.FieldId.{FieldId}
use Rattle.jr_base.specs.declared.number.ClauseId.{ClauseId}
use Rattle.jr_program.specs.declared.words.ClauseKind.{ClauseKind}
use Rattle.jr_program.specs.declared.words.ClauseKind.TheVariants as kinds
use Rattle.jr_program.specs.declared.words.Site.{Site}
use Rattle.jr_program.specs.declared.words.Site.TheVariants as sites
use Rattle.jr_program.specs.Clauses.{Clause, Owner, OfMethod, OfClass, OfField}
use Rattle.jr_program.specs.Programs.{Program, method_at}
use Rattle.jr_program.specs.Sites.{same_owner, same_kind, chosen_from, clauses_of, due_at_site, due_at_call, due_at_leave}
use Rattle.jr_base.specs.declared.refusal.Refusal.TheVariants.{TooManyClauses}
use Rattle.jr_program.specs.WellFormed.{most_due}
use Rattle.jr_ast.specs.Units as unit
use Rattle.jr_typing_rules.specs.Answers.{Typing, Good, Bad, require, all_hold}
use Rattle.jr_typing_rules.specs.Resolution.{Resolution}
use Rattle.jr_typing_rules.specs.Declarations.{MadeField, MadeMethod, MadeMember, MadeClass, Fields, Method as OfMember, Clause as OfClause}
use Rattle.jr_typing_rules.specs.Sites.{few_are_due, few_are_due_in, method_fits, field_fits, member_fits, class_fits, sites_fit}
use Rattle.jr_typing_rules.specs.Whole.{fields_in, methods_in, fields_of, methods_of}
use Rattle.jr_typing_rules.proofs.Holding.{Holds, Each, holds-each, holds-parts}
use Rattle.jr_typing_rules.proofs.Made.{MadeFrom, FieldsFrom}
use Rattle.jr_typing_rules.proofs.Known.{both}
use Rattle.jr_typing_rules.proofs.Owned.{IsThere, IsOwned}

-- ---- what the pass on sites asks

abbrev pub MethodFew : Program → MadeMethod → Type 0
MethodFew program m = few_are_due_in program m.number ≡ true

abbrev pub FieldFew : Program → MadeField → Type 0
FieldFew program f = few_are_due program (sites.Access f.number) ≡ true

no-more : (t : Typing (Unit {0})) → Holds (λ u. Unit {0}) t
no-more (Good u) = tt
no-more (Bad r) = tt

member-few : (program : Program) (m : MadeMember) → Holds (λ u. Each (MethodFew program) (methods_in m)) (member_fits program m)
member-few program (Fields ms fs) = no-more (all_hold (field_fits program) fs)
member-few program (OfMember m) = by (few_are_due_in program m.number) refl
  where
    by : (b : Bool) → few_are_due_in program m.number ≡ b → Holds (λ u. Each (MethodFew program) (methods_in (OfMember m))) (require b (TooManyClauses m.source.name.place))
    by true e = (e, tt)
    by false e = tt
member-few program (OfClause c) = tt

member-fields-few : (program : Program) (m : MadeMember) → Holds (λ u. Each (FieldFew program) (fields_in m)) (member_fits program m)
member-fields-few program (Fields ms fs) = holds-each (FieldFew program) (field_fits program) (λ f. by f (few_are_due program (sites.Access f.number)) refl) fs
  where
    by : (f : MadeField) (b : Bool) → few_are_due program (sites.Access f.number) ≡ b → Holds (λ u. FieldFew program f) (require b (TooManyClauses f.name.place))
    by f true e = e
    by f false e = tt
member-fields-few program (OfMember m) = no-more (method_fits program m)
member-fields-few program (OfClause c) = tt

pub methods-few : (program : Program) (ks : List MadeClass) → Holds (λ u. Each (MethodFew program) (flat_map methods_of ks)) (sites_fit program ks)
unfolding sites_fit
methods-few program ks = holds-parts (MethodFew program) methods_of (class_fits program) (λ k. holds-parts (MethodFew program) methods_in (member_fits program) (member-few program) k.members) ks

pub fields-few : (program : Program) (ks : List MadeClass) → Holds (λ u. Each (FieldFew program) (flat_map fields_of ks)) (sites_fit program ks)
unfolding sites_fit
fields-few program ks = holds-parts (FieldFew program) fields_of (class_fits program) (λ k. holds-parts (FieldFew program) fields_in (member_fits program) (member-fields-few program) k.members) ks

-- ---- each number below the count is a member's

pub method-numbered : (program : Program) (resolved : Resolution) (n : ℕ) (ms : List MadeMethod) (ts : List unit.Method) (k : ℕ) → MadeFrom resolved n ms ts → Each (MethodFew program) ms →
    k < length ms → few_are_due_in program (record { 0 = n + k }) ≡ true
method-numbered program resolved n [] ts k made few below = absurd (omega (arith, below))
method-numbered program resolved n (m ∷ ms) [] k made few below = absurd made
method-numbered program resolved n (m ∷ ms) (t ∷ ts) zero made few below =
    let here : m.number.0 ≡ n + 0 = omega (arith, made.0.number) in
    let same : m.number ≡ record { 0 = n + 0 } = ap (λ n. record { 0 = n }) here in rw same at few.0
method-numbered program resolved n (m ∷ ms) (t ∷ ts) (suc k) made few below =
    let here : n + 1 + k ≡ n + suc k = omega arith in rw here at (method-numbered program resolved (n + 1) ms ts k made.1 few.1 (omega (arith, below)))

pub field-numbered : (program : Program) (n : ℕ) (fs : List MadeField) (k : ℕ) → FieldsFrom n fs → Each (FieldFew program) fs → k < length fs →
    few_are_due program (sites.Access (record { 0 = n + k })) ≡ true
field-numbered program n [] k made few below = absurd (omega (arith, below))
field-numbered program n (f ∷ fs) zero made few below =
    let here : f.number.0 ≡ n + 0 = omega (arith, made.0) in
    let same : f.number ≡ record { 0 = n + 0 } = ap (λ n. record { 0 = n }) here in rw same at few.0
field-numbered program n (f ∷ fs) (suc k) made few below =
    let here : n + 1 + k ≡ n + suc k = omega arith in rw here at (field-numbered program (n + 1) fs k made.1 few.1 (omega (arith, below)))

-- ---- no clause belongs to what isn't there

le : (a b : ℕ) → nat_le a b ≡ true → a ≤ b
le a b e = grind (arith, nat_tests)

few : (program : Program) (site : Site) → few_are_due program site ≡ true → length (due_at_site program site) ≤ most_due
few program site e = le (length (due_at_site program site)) most_due e

none-chosen : (methods fields : ℕ) (chosen : Clause → Bool) (n : ℕ) (cs : List Clause) → ((c : Clause) → IsOwned methods fields c → chosen c ≡ false) → Each (IsOwned methods fields) cs →
    chosen_from chosen n cs ≡ []
none-chosen methods fields chosen n [] never owned = refl
none-chosen methods fields chosen n (c ∷ cs) never owned = rw (never c owned.0) (none-chosen methods fields chosen (n + 1) cs never owned.1)

not-method : (methods fields : ℕ) (m : MethodId) (kind : ClauseKind) → methods ≤ m.0 → (owner : Owner) (k : ClauseKind) → IsThere methods fields owner → (same_owner owner (OfMethod m) && same_kind k kind) ≡ false
not-method methods fields m kind past (OfMethod a) k there = let other : (a.0 == m.0) ≡ false = ne_eqb a.0 m.0 (λ e. omega (arith, e, there, past)) in rw other refl
not-method methods fields m kind past (OfClass c) k there = refl
not-method methods fields m kind past (OfField f) k there = refl

not-field : (methods fields : ℕ) (f : FieldId) (kind : ClauseKind) → fields ≤ f.0 → (owner : Owner) (k : ClauseKind) → IsThere methods fields owner → (same_owner owner (OfField f) && same_kind k kind) ≡ false
not-field methods fields f kind past (OfField a) k there = let other : (a.0 == f.0) ≡ false = ne_eqb a.0 f.0 (λ e. omega (arith, e, there, past)) in rw other refl
not-field methods fields f kind past (OfClass c) k there = refl
not-field methods fields f kind past (OfMethod m) k there = refl

none-of-method : (program : Program) (methods fields : ℕ) (m : MethodId) (kind : ClauseKind) → methods ≤ m.0 → Each (IsOwned methods fields) program.clauses → clauses_of program (OfMethod m) kind ≡ []
none-of-method program methods fields m kind past owned =
    none-chosen methods fields _ 1 program.clauses (λ c there. not-method methods fields m kind past c.owner c.kind there) owned

none-of-field : (program : Program) (methods fields : ℕ) (f : FieldId) (kind : ClauseKind) → fields ≤ f.0 → Each (IsOwned methods fields) program.clauses → clauses_of program (OfField f) kind ≡ []
none-of-field program methods fields f kind past owned =
    none-chosen methods fields _ 1 program.clauses (λ c there. not-field methods fields f kind past c.owner c.kind there) owned

-- ---- each site

both-halves : (a b c d : Bool) → ((a && b) && (c && d)) ≡ true → (a ≡ true) × (b ≡ true) × (c ≡ true) × (d ≡ true)
both-halves a b c d e =
    let halves = both (a && b) (c && d) e in
    let one = both a b halves.0 in let two = both c d halves.1 in (one.0, one.1, two.0, two.1)

-- what holds of a finished program, so that the law follows for each site
pub record SitesKnown (program : Program) : Type 0 where
  pub owned : Each (IsOwned (length program.methods) (length program.fields)) program.clauses
  pub methods : (k : ℕ) → k < length program.methods → few_are_due_in program (record { 0 = k }) ≡ true
  pub fields : (k : ℕ) → k < length program.fields → few_are_due program (sites.Access (record { 0 = k })) ≡ true

none-due : (ds : List ClauseId) → ds ≡ [] → length ds ≤ most_due
none-due ds e = rw e (omega arith)

at-methods : (program : Program) → SitesKnown program → (m : MethodId) →
    (length (due_at_site program (sites.Entry m)) ≤ most_due) × (length (due_at_site program (sites.Commit m)) ≤ most_due)
    × (length (due_at_site program (sites.Return m)) ≤ most_due) × (length (due_at_site program (sites.Edge m)) ≤ most_due)
at-methods program known m = by (cases_lt m.0 (length program.methods))
  where
    by : (m.0 < length program.methods) ⊎ (length program.methods ≤ m.0) →
        (length (due_at_site program (sites.Entry m)) ≤ most_due) × (length (due_at_site program (sites.Commit m)) ≤ most_due)
        × (length (due_at_site program (sites.Return m)) ≤ most_due) × (length (due_at_site program (sites.Edge m)) ≤ most_due)
    by (inl below) =
        let all = both-halves (few_are_due program (sites.Entry m)) (few_are_due program (sites.Commit m)) (few_are_due program (sites.Return m)) (few_are_due program (sites.Edge m)) (known.methods m.0 below) in
        (few program (sites.Entry m) all.0, few program (sites.Commit m) all.1, few program (sites.Return m) all.2, few program (sites.Edge m) all.3)
    by (inr past) =
        let none : method_at program m ≡ None = slice_get_past program.methods m.0 past in
        let entry : due_at_site program (sites.Entry m) ≡ [] = ap (λ o. option_map_or (due_at_call program m) o []) none in
        let leave : due_at_site program (sites.Return m) ≡ [] = ap (λ o. option_map_or (due_at_leave program m) o []) none in (
          none-due (due_at_site program (sites.Entry m)) entry,
          none-due (due_at_site program (sites.Commit m)) (none-of-method program (length program.methods) (length program.fields) m kinds.When past known.owned),
          none-due (due_at_site program (sites.Return m)) leave,
          none-due (due_at_site program (sites.Edge m)) (none-of-method program (length program.methods) (length program.fields) m kinds.Locks past known.owned),
        )

at-field : (program : Program) → SitesKnown program → (f : FieldId) → length (due_at_site program (sites.Access f)) ≤ most_due
at-field program known f = by (cases_lt f.0 (length program.fields))
  where
    by : (f.0 < length program.fields) ⊎ (length program.fields ≤ f.0) → length (due_at_site program (sites.Access f)) ≤ most_due
    by (inl below) = few program (sites.Access f) (known.fields f.0 below)
    by (inr past) = none-due (due_at_site program (sites.Access f)) (none-of-field program (length program.methods) (length program.fields) f kinds.MonitorsFor past known.owned)

pub few-due : (program : Program) → SitesKnown program → (site : Site) → length (due_at_site program site) ≤ most_due
few-due program known (sites.Entry m) = (at-methods program known m).0
few-due program known (sites.Commit m) = (at-methods program known m).1
few-due program known (sites.Return m) = (at-methods program known m).2
few-due program known (sites.Edge m) = (at-methods program known m).3
few-due program known (sites.Access f) = at-field program known f
few-due program known (sites.Assert c) = omega arith
