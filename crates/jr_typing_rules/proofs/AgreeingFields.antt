-- What the pass on names and the pass on code say of the fields of one class: each entry is the field of its number, in its
-- slot.
use Rattle.std.proofs.Common.{◌≡◌, ◌==◌, ◌&&◌, ◌<◌, ℕ, ◌+◌, Bool, true, false, cond, take, List, [], ◌∷◌, ◌++◌, length, Some, slice_get, refl, ap, sym, ◌∙◌, append_assoc, append-nil, arith}
use Rattle.std.specs.Bool.{beq}
use Rattle.std.specs.List.{count_by}
use Rattle.std.proofs.Math.Seq.{take-append_seam}
use Rattle.std.proofs.lemmas.Bool.Decides.{nat_tests}
use Rattle.std.proofs.lemmas.List.{length-append, take-append-le}
use Rattle.std.proofs.lemmas.List.Sums.{sum_by-cons, sum_by_push}
use Rattle.std.proofs.lemmas.Option.{slice_get_within}
use Rattle.jr_base.specs.declared.number.ClassId.{ClassId}
use Rattle.jr_ast.specs.declared.unit.Field.{Field}
use Rattle.jr_ast.specs.declared.unit.FieldDeclarator.{FieldDeclarator}
use Rattle.jr_typing_rules.specs.declared.words.ValueType.{ValueType}
use Rattle.jr_typing_rules.specs.declared.words.FieldEntry.{FieldEntry}
use Rattle.jr_typing_rules.specs.Modifiers.{has, is_static_kind, is_volatile_kind}
use Rattle.jr_typing_rules.specs.Names.{Text, Names}
use Rattle.jr_typing_rules.specs.Statements.{type_of}
use Rattle.jr_typing_rules.specs.Resolution.{Known, and_entry, count_fields, field_entry, and_field, and_fields}
use Rattle.jr_typing_rules.specs.Declarations.{Counts, MadeField, FieldsMade, initial_constant, makes_field, makes_fields}
use Rattle.jr_typing_rules.proofs.Holding.{Holds, holds-next, holds-then, Each, Each-append, Each-weaker}
use Rattle.jr_typing_rules.proofs.Both.{Both, both-same, both-along}
use Rattle.jr_typing_rules.proofs.SameTypes.{numbers_alone, same-type}
use Rattle.jr_typing_rules.proofs.Known.{get-append, get-last, entry-added}

pub record FieldMade (own : ClassId) (e : FieldEntry) (f : MadeField) : Type 0 where
  pub declared_in : e.class ≡ own
  pub class : f.class ≡ own
  pub static : f.is_static ≡ e.is_static
  pub of : f.of ≡ e.of

-- the field is one of that class's static fields, or of its other fields
abbrev pub lies : ClassId → Bool → MadeField → Bool
lies own static f = (f.class.0 == own.0) && beq f.is_static static

-- the field of its number is what the entry says, in the slot behind those before it that lie there too
abbrev pub FieldAgrees : ClassId → List MadeField → FieldEntry → Type 0
FieldAgrees own made e =
    (f : MadeField) × (slice_get made e.number.0 ≡ Some f) × FieldMade own e f × (e.slot ≡ count_by (lies own e.is_static) (take e.number.0 made))

abbrev pub FieldsAgree : ClassId → List MadeField → List (Text × FieldEntry) → Type 0
FieldsAgree own made = Each (λ (e : Text × FieldEntry). FieldAgrees own made e.1)

take-before : {A : Type 0} (xs ys : List A) (n : ℕ) → n < length xs → take n (xs ++ ys) ≡ take n xs
take-before xs ys n below = take-append-le n xs ys (omega (arith, below))

pub FieldsAgree-more : (own : ClassId) (made more : List MadeField) (table : List (Text × FieldEntry)) → FieldsAgree own made table → FieldsAgree own (made ++ more) table
FieldsAgree-more own made more table =
    Each-weaker (λ (e : Text × FieldEntry). FieldAgrees own made e.1) (λ (e : Text × FieldEntry). FieldAgrees own (made ++ more) e.1) table
    (λ e a. (
      a.0,
      get-append made more e.1.number.0 a.0 a.1,
      a.2,
      a.3 ∙ ap (count_by (lies own e.1.is_static)) (sym (take-before made more e.1.number.0 (slice_get_within made e.1.number.0 a.0 a.1))),
    ))

FieldsAgree-snoc : (own : ClassId) (made : List MadeField) (f : MadeField) (table : List (Text × FieldEntry)) (x : Text) (e : FieldEntry) → e.number.0 ≡ length made → FieldMade own e f →
    e.slot ≡ count_by (lies own e.is_static) made → FieldsAgree own made table → FieldsAgree own (made ++ f ∷ []) (table ++ (x, e) ∷ [])
FieldsAgree-snoc own made f table x e number is slot all =
    Each-append (λ (e : Text × FieldEntry). FieldAgrees own (made ++ f ∷ []) e.1) table ((x, e) ∷ []) (FieldsAgree-more own made (f ∷ []) table all) (
      (
        f,
        rw number (get-last made f),
        is,
        rw number (slot ∙ ap (count_by (lies own e.is_static)) (sym (take-append_seam made (f ∷ [])))),
      ),
      tt,
    )

-- as many fields of the class are made as its table has, of either sort
abbrev pub AreCounted : ClassId → List MadeField → List (Text × FieldEntry) → Type 0
AreCounted own made table = (static : Bool) → count_fields static table ≡ count_by (lies own static) made

same-number : (n : ℕ) → (n == n) ≡ true
same-number n = grind (arith, nat_tests)

AreCounted-snoc : (own : ClassId) (made : List MadeField) (f : MadeField) (table : List (Text × FieldEntry)) (x : Text) (e : FieldEntry) → FieldMade own e f →
    AreCounted own made table → AreCounted own (made ++ f ∷ []) (table ++ (x, e) ∷ [])
AreCounted-snoc own made f table x e is counted static =
    let one : beq e.is_static static ≡ lies own static f = rw (is.class, is.static, same-number own.0) refl in
    sum_by_push (λ (e : Text × FieldEntry). cond (beq e.1.is_static static) 1 0) table (x, e)
    ∙ ap (λ n. n + cond (beq e.is_static static) 1 0) (counted static)
    ∙ ap (λ (b : Bool). count_by (lies own static) made + cond b 1 0) one
    ∙ sym (sum_by_push (λ (f : MadeField). cond (lies own static f) 1 0) made f)

-- fields of classes before it
abbrev pub AreBefore : ℕ → List MadeField → Type 0
AreBefore n = Each (λ (f : MadeField). f.class.0 < n)

other-number : (n k : ℕ) → n < k → (n == k) ≡ false
other-number n k less = grind (arith, nat_tests)

pub none-lie : (own : ClassId) (static : Bool) (made : List MadeField) → AreBefore own.0 made → 0 ≡ count_by (lies own static) made
none-lie own static [] before = refl
none-lie own static (f ∷ made) before =
    let other : (f.class.0 == own.0) ≡ false = other-number f.class.0 own.0 before.0 in
    let here : cond {A = ℕ} (lies own static f) 1 0 ≡ 0 = rw other refl in
    let more : count_by (lies own static) (f ∷ made) ≡ cond {A = ℕ} (lies own static f) 1 0 + count_by (lies own static) made = sum_by-cons (λ (f : MadeField). cond (lies own static f) 1 0) f made in
    let rest : 0 ≡ count_by (lies own static) made = none-lie own static made before.1 in
    omega (arith, here, more, rest)

-- all else stays while fields are read
pub record ButFields (start s : Known) : Type 0 where
  pub own : s.own ≡ start.own
  pub methods : s.methods ≡ start.methods
  pub main : s.main ≡ start.main
  pub thread : s.class.extends_thread ≡ start.class.extends_thread
  pub runnable : s.class.implements_runnable ≡ start.class.implements_runnable
  pub method_table : s.class.methods ≡ start.class.methods
  pub constructor : s.class.constructor ≡ start.class.constructor

-- fields of one declaration, behind those that were made before
pub record DeclaratorsBoth (own : ClassId) (done : List MadeField) (counts : Counts) (start s : Known) (t : FieldsMade) : Type 0 where
  pub count : s.fields ≡ length (done ++ t.made)
  pub counted : t.counts.methods ≡ counts.methods
  pub entries : FieldsAgree own (done ++ t.made) s.class.fields
  pub counted_fields : AreCounted own (done ++ t.made) s.class.fields
  pub classes : AreBefore (own.0 + 1) (done ++ t.made)
  pub others : ButFields start s

declarator-after : (own : ClassId) (done : List MadeField) (counts : Counts) (start s after : Known) (t made : FieldsMade) (f : MadeField) (x : Text) (e : FieldEntry) →
    made.made ≡ t.made ++ f ∷ [] → made.counts.methods ≡ t.counts.methods → after.fields ≡ s.fields + 1 → after.class.fields ≡ s.class.fields ++ (x, e) ∷ [] → ButFields s after →
    e.number.0 ≡ s.fields → e.slot ≡ count_fields e.is_static s.class.fields → FieldMade own e f → DeclaratorsBoth own done counts start s t → DeclaratorsBoth own done counts start after made
declarator-after own done counts start s after t made f x e more counted fields table others number slot is known =
    let longer : done ++ (t.made ++ f ∷ []) ≡ (done ++ t.made) ++ f ∷ [] = sym (append_assoc done t.made (f ∷ [])) in
    record {
      count = rw (more, longer) (omega (arith, fields, known.count, length-append (done ++ t.made) (f ∷ [])));
      counted = counted ∙ known.counted;
      entries = rw (more, longer, table) (FieldsAgree-snoc own (done ++ t.made) f s.class.fields x e (number ∙ known.count) is (slot ∙ known.counted_fields e.is_static) known.entries);
      counted_fields = rw (more, longer, table) (AreCounted-snoc own (done ++ t.made) f s.class.fields x e is known.counted_fields);
      classes = rw (more, longer) (Each-append (λ (f : MadeField). f.class.0 < own.0 + 1) (done ++ t.made) (f ∷ []) known.classes (omega (arith, ap (λ (c : ClassId). c.0) is.class), tt));
      others = record {
        own = others.own ∙ known.others.own;
        methods = others.methods ∙ known.others.methods;
        main = others.main ∙ known.others.main;
        thread = others.thread ∙ known.others.thread;
        runnable = others.runnable ∙ known.others.runnable;
        method_table = others.method_table ∙ known.others.method_table;
        constructor = others.constructor ∙ known.others.constructor;
      };
    }

declarator-both : (own : ClassId) (done : List MadeField) (counts : Counts) (names : Names) (static volatile : Bool) (of : ValueType) (start : Known) → start.own ≡ own →
    (s : Known) (t : FieldsMade) (d : FieldDeclarator) → DeclaratorsBoth own done counts start s t →
    Both (DeclaratorsBoth own done counts start) (and_field static of s d) (makes_field names own static volatile of t d)
declarator-both own done counts names static volatile of start same s t d known =
    holds-then (λ (after : Known). Holds (DeclaratorsBoth own done counts start after) (makes_field names own static volatile of t d))
    (λ (after : List (Text × FieldEntry)). after ≡ s.class.fields ++ (d.name.text, field_entry s static of) ∷ [])
    (and_entry s.class.fields d.name (field_entry s static of)) _ (entry-added s.class.fields d.name (field_entry s static of)) λ table e.
    holds-next (DeclaratorsBoth own done counts start _) (initial_constant names of d.constant) _ λ c ok.
    declarator-after own done counts start s _ t _ _ d.name.text (field_entry s static of) refl refl refl e
    (record { own = refl; methods = refl; main = refl; thread = refl; runnable = refl; method_table = refl; constructor = refl }) refl refl
    (record { declared_in = known.others.own ∙ same; class = refl; static = refl; of = refl }) known

pub fields-both : (own : ClassId) (done : List MadeField) (names : Names) (start : Known) (counts : Counts) (f : Field) → start.own ≡ own → start.fields ≡ length done →
    FieldsAgree own done start.class.fields → AreCounted own done start.class.fields → AreBefore (own.0 + 1) done →
    Both (DeclaratorsBoth own done counts start) (and_fields (numbers_alone names) start f) (makes_fields names own counts f)
fields-both own done names start counts f same count entries counted classes =
    both-same (DeclaratorsBoth own done counts start) (type_of (numbers_alone names) f.type_name) (type_of names f.type_name) _ _ (same-type names f.type_name) λ of.
    both-along (DeclaratorsBoth own done counts start) (and_field (has is_static_kind f.modifiers) of)
    (makes_field names own (has is_static_kind f.modifiers) (has is_volatile_kind f.modifiers) of)
    (declarator-both own done counts names (has is_static_kind f.modifiers) (has is_volatile_kind f.modifiers) of start same)
    start (record { counts = counts; made = [] })
    (record {
      count = rw (append-nil done) count;
      counted = refl;
      entries = rw (append-nil done) entries;
      counted_fields = rw (append-nil done) counted;
      classes = rw (append-nil done) classes;
      others = record { own = refl; methods = refl; main = refl; thread = refl; runnable = refl; method_table = refl; constructor = refl };
    })
    f.declarators
