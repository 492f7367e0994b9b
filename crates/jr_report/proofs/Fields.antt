-- Fields by class and slot, and clauses that belong to nothing.
use Rattle.std.proofs.Common.{◌≡◌, ◌==◌, ◌&&◌, ◌⊎◌, inl, inr, ◌+◌, ◌-◌, ◌≤◌, ◌<◌, ℕ, zero, suc, cond, Bool, true, false, List, [], ◌∷◌, map, drop, length, Some, None, slice_get, refl, ap, sym, ◌∙◌, arith}
use Rattle.std.proofs.lemmas.List.{drop_all}
use Rattle.std.proofs.lemmas.Bool.Decides.{eqb_tells}
use Rattle.std.proofs.lemmas.Option.{slice_get_past}
use Rattle.std.specs.Option.{option_map_or}
use Rattle.jr_base.specs.declared.number.ClassId.{ClassId}
use Rattle.jr_base.specs.declared.number.FieldId.{FieldId}
use Rattle.jr_base.specs.declared.number.ClauseId.{ClauseId}
use Rattle.jr_base.specs.declared.number.MethodId.{MethodId}
use Rattle.jr_program.specs.Clauses.{Clause, Owner, OfMethod, OfClass, OfField}
use Rattle.jr_program.specs.Programs.{Program, Field, method_at, field_at, clause_at, numbered}
use Rattle.jr_program.specs.Sites.{chosen_from, clauses_of, due_at_call, due_at_leave, due_at_site, same_owner, same_kind}
use Rattle.jr_program.specs.Slots.{fields_from, is_of}
use Rattle.jr_program.specs.UnitViews.{view_field, IsSite}
use Rattle.jr_program.specs.declared.parts.TypedField.{TypedField}
use Rattle.jr_program.specs.WellFormed.{WellFormed, FitsOwner}
use Rattle.jr_program.specs.declared.words.ClauseKind.{ClauseKind}
use Rattle.jr_program.specs.declared.words.Site.{Site}
use Rattle.jr_program.specs.declared.words.Site.TheVariants as sites
use Rattle.jr_report.proofs.Pieces.{drop-at}

past : (n len : ℕ) → (n < len → ⊥) → len ≤ n
past n len not = omega (arith, not)

-- ---- fields

pub field-there : (fields : List TypedField) (n : ℕ) → n < length fields → (f : Field) × (slice_get (map view_field fields) n ≡ Some f)
field-there [] n below = absurd (omega (arith, below))
field-there (f ∷ fields) zero below = (view_field f, refl)
field-there (f ∷ fields) (suc n) below = field-there fields n (omega (arith, below))

module _ (class : ClassId) (is_static : Bool) (fields : List Field) where
  abbrev to_come : ℕ → List FieldId
  to_come n = fields_from class is_static n (drop n fields)

  at-field : (n : ℕ) (f : Field) → slice_get fields n ≡ Some f →
      to_come n ≡ cond (is_of class is_static f) (record { 0 = n } ∷ to_come (n + 1)) (to_come (n + 1))
  at-field n f stands = ap (fields_from class is_static n) (drop-at fields n f stands)

  pub field-here : (n left : ℕ) (f : Field) → slice_get fields n ≡ Some f → is_of class is_static f ≡ true → left ≡ 0 → slice_get (to_come n) left ≡ Some (record { 0 = n })
  field-here n left f stands lies none =
      ap (slice_get (to_come n)) none
      ∙ ap (λ l. slice_get l 0) (at-field n f stands ∙ ap (λ b. cond b (record { 0 = n } ∷ to_come (n + 1)) (to_come (n + 1))) lies)

  pub field-passed : (n left : ℕ) (f : Field) → slice_get fields n ≡ Some f → is_of class is_static f ≡ true → 0 < left →
      slice_get (to_come (n + 1)) (left - 1) ≡ slice_get (to_come n) left
  field-passed n zero f stands lies some = absurd (omega (arith, some))
  field-passed n (suc left) f stands lies some =
      let less : suc left - 1 ≡ left = omega arith in
      ap (slice_get (to_come (n + 1))) less
      ∙ sym (ap (λ l. slice_get l (suc left)) (at-field n f stands ∙ ap (λ b. cond b (record { 0 = n } ∷ to_come (n + 1)) (to_come (n + 1))) lies))

  pub field-elsewhere : (n left : ℕ) (f : Field) → slice_get fields n ≡ Some f → is_of class is_static f ≡ false →
      slice_get (to_come (n + 1)) left ≡ slice_get (to_come n) left
  field-elsewhere n left f stands lies =
      sym (ap (λ l. slice_get l left) (at-field n f stands ∙ ap (λ b. cond b (record { 0 = n } ∷ to_come (n + 1)) (to_come (n + 1))) lies))

  pub no-field : (n left : ℕ) → length fields ≤ n → None ≡ slice_get (to_come n) left
  no-field n left past = sym (ap (λ l. slice_get (fields_from class is_static n l) left) (drop_all n fields past))

-- ---- clauses

none-chosen : (chosen : Clause → Bool) (n : ℕ) (cs : List Clause) → ((k : ℕ) (c : Clause) → slice_get cs k ≡ Some c → chosen c ≡ false) → chosen_from chosen n cs ≡ []
none-chosen chosen n [] none = refl
none-chosen chosen n (c ∷ cs) none =
    ap (λ b. cond b (record { 0 = n } ∷ chosen_from chosen (n + 1) cs) (chosen_from chosen (n + 1) cs)) (none 0 c refl)
    ∙ none-chosen chosen (n + 1) cs (λ k x e. none (suc k) x e)

-- no clause belongs to a method that isn't there
module _ (program : Program) (formed : WellFormed program) where
  not-of-method : (m : MethodId) → method_at program m ≡ None → (clause : Clause) (owner : Owner) → FitsOwner program clause owner → same_owner owner (OfMethod m) ≡ false
  not-of-method m none clause (OfClass class) fits = refl
  not-of-method m none clause (OfField field) fits = refl
  not-of-method m none clause (OfMethod other) fits = by (eqb_tells other.0 m.0)
    where
      by : ((other.0 == m.0) ≡ true) × (other.0 ≡ m.0) ⊎ ((other.0 == m.0) ≡ false) × (other.0 ≡ m.0 → ⊥) → (other.0 == m.0) ≡ false
      by (inr (t, apart)) = t
      by (inl (t, e)) =
          let there : slice_get program.methods m.0 ≡ Some fits.0 = ap (slice_get program.methods) (sym e) ∙ fits.1 in
          absurd (cc)

  not-of-field : (f : FieldId) → field_at program f ≡ None → (clause : Clause) (owner : Owner) → FitsOwner program clause owner → same_owner owner (OfField f) ≡ false
  not-of-field f none clause (OfClass class) fits = refl
  not-of-field f none clause (OfMethod method) fits = refl
  not-of-field f none clause (OfField other) fits = by (eqb_tells other.0 f.0)
    where
      by : ((other.0 == f.0) ≡ true) × (other.0 ≡ f.0) ⊎ ((other.0 == f.0) ≡ false) × (other.0 ≡ f.0 → ⊥) → (other.0 == f.0) ≡ false
      by (inr (t, apart)) = t
      by (inl (t, e)) =
          let there : slice_get program.fields f.0 ≡ Some fits.0 = ap (slice_get program.fields) (sym e) ∙ fits.1 in
          absurd (cc)

  of-method-none : (m : MethodId) (kind : ClauseKind) → method_at program m ≡ None → clauses_of program (OfMethod m) kind ≡ []
  of-method-none m kind none = none-chosen _ 1 program.clauses (λ k c e.
      ap (λ b. b && same_kind c.kind kind) (not-of-method m none c c.owner (formed.clauses (record { 0 = suc k }) c e)))

  of-field-none : (f : FieldId) (kind : ClauseKind) → field_at program f ≡ None → clauses_of program (OfField f) kind ≡ []
  of-field-none f kind none = none-chosen _ 1 program.clauses (λ k c e.
      ap (λ b. b && same_kind c.kind kind) (not-of-field f none c c.owner (formed.clauses (record { 0 = suc k }) c e)))

  pub no-call : (m : MethodId) → length program.methods ≤ m.0 → due_at_site program (sites.Entry m) ≡ []
  no-call m past = ap (λ o. option_map_or (due_at_call program m) o []) (slice_get_past program.methods m.0 past)

  pub no-leave : (m : MethodId) → length program.methods ≤ m.0 → due_at_site program (sites.Return m) ≡ []
  no-leave m past = ap (λ o. option_map_or (due_at_leave program m) o []) (slice_get_past program.methods m.0 past)

  pub no-commit : (m : MethodId) → length program.methods ≤ m.0 → due_at_site program (sites.Commit m) ≡ []
  no-commit m past = of-method-none m _ (slice_get_past program.methods m.0 past)

  pub no-edge : (m : MethodId) → length program.methods ≤ m.0 → due_at_site program (sites.Edge m) ≡ []
  no-edge m past = of-method-none m _ (slice_get_past program.methods m.0 past)

  pub no-access : (f : FieldId) → length program.fields ≤ f.0 → due_at_site program (sites.Access f) ≡ []
  no-access f past = of-field-none f _ (slice_get_past program.fields f.0 past)

  -- at a site that isn't the program's nothing is due, but for an assert
  pub elsewhere : (site : Site) → ((c : ClauseId) → site ≡ sites.Assert c → ⊥) → (IsSite program site → ⊥) → due_at_site program site ≡ []
  elsewhere (sites.Entry m) not outside = no-call m (past _ _ outside)
  elsewhere (sites.Commit m) not outside = no-commit m (past _ _ outside)
  elsewhere (sites.Return m) not outside = no-leave m (past _ _ outside)
  elsewhere (sites.Access f) not outside = no-access f (past _ _ outside)
  elsewhere (sites.Edge m) not outside = no-edge m (past _ _ outside)
  elsewhere (sites.Assert c) not outside = absurd (not c refl)

-- a number past all clauses names none
pub no-clause : (program : Program) (c : ClauseId) → (c.0 ≡ 0) ⊎ (length program.clauses < c.0) → clause_at program c ≡ None
no-clause program c (inl e) = ap (numbered program.clauses) e
no-clause program c (inr past) = by c.0 past
  where
    by : (n : ℕ) → length program.clauses < n → numbered program.clauses n ≡ None
    by zero past = refl
    by (suc n) past = slice_get_past program.clauses n (omega (arith, past))
