-- What is put together is the program, and it is put together exactly where few enough clauses are due everywhere.
use Rattle.std.proofs.Common.{◌≡◌, ◌&&◌, ℕ, zero, suc, ◌+◌, Bool, true, false, List, [], ◌∷◌, ◌++◌, length, map, take, Option, Some, None, slice_get, refl, sym, ap, ◌∙◌, append_assoc, append-nil, arith}
use Rattle.std.specs.Prelude.{nat_le}
use Rattle.std.specs.List.{flat_map, count_by}
use Rattle.std.specs.Option.{option_map_or}
use Rattle.std.proofs.lemmas.List.{map-append}
use Rattle.std.proofs.lemmas.Grind.{flat_map-append}
use Rattle.jr_base.specs.declared.number.Span.{Span}
use Rattle.jr_base.specs.declared.number.ClauseId.{ClauseId}
use Rattle.jr_base.specs.declared.number.MethodId.{MethodId}
use Rattle.jr_base.specs.declared.refusal.Refusal.{Refusal}
use Rattle.jr_base.specs.declared.refusal.Refusal.TheVariants.{TooManyClauses}
use Rattle.jr_program.specs.declared.words.Site.TheVariants as sites
use Rattle.jr_program.specs.Clauses.{Clause}
use Rattle.jr_program.specs.Programs.{Program, Class, Field, Method as MethodOfProgram, method_at}
use Rattle.jr_program.specs.Sites.{due_at_call, due_at_leave}
use Rattle.jr_program.specs.Slots.{is_of}
use Rattle.jr_program.specs.WellFormed.{most_due}
use Rattle.jr_typing_rules.specs.Answers.{Typing, Good, Bad, ◌>>=◌, require, one_by_one, all_hold}
use Rattle.jr_typing_rules.specs.Names.{Names}
use Rattle.jr_typing_rules.specs.Declarations.{MadeField, MadeMethod, MadeMember, Fields, Method, Clause as OfClause, MadeClass}
use Rattle.jr_typing_rules.specs.Sites.{few_are_due_in, method_fits, field_fits, member_fits, class_fits, sites_fit}
use Rattle.jr_typing_rules.specs.Whole.{fields_in, methods_in, fields_of, methods_of, program_class, program_field, program_method}
use Rattle.jr_typing_rules.proofs.Holding.{Holds, holds-next, holds-then, holds-weaker, holds-along, Each, Each-flat_map}
use Rattle.jr_safepoints.specs.Few.{few}
use Rattle.jr_safepoints.specs.Due.{MethodDues, dues_of, due_at_field, few_in}
use Rattle.jr_safepoints.specs.Assembled.{FieldDone, MethodDone, Assembled, field_of, and_field, and_method, and_member, and_class, nothing, assembled}

-- ---- refused alike

-- what the rules ask of sites, and what puts the program together, are refused alike
abbrev AreAlike : Typing (Unit {0}) → Typing Assembled → Type 0
AreAlike fits done = fits ≡ (done >>= λ a. Good tt)

alike-then : (fits : Typing (Unit {0})) (done : Typing Assembled) (more : Typing (Unit {0})) (rest : Assembled → Typing Assembled) → AreAlike fits done →
    ((b : Assembled) → AreAlike more (rest b)) → AreAlike (fits >>= λ u. more) (done >>= rest)
alike-then fits (Good b) more rest alike others = rw alike (others b)
alike-then fits (Bad r) more rest alike others = rw alike refl

alike-all : {A : Type 0} (P : A → Type 0) (rule : A → Typing (Unit {0})) (step : Assembled → A → Typing Assembled) → ((a : Assembled) (x : A) → P x → AreAlike (rule x) (step a x)) →
    (xs : List A) → Each P xs → (a : Assembled) → AreAlike (all_hold rule xs) (one_by_one step a xs)
alike-all P rule step one [] each a = refl
alike-all P rule step one (x ∷ xs) each a =
    alike-then (rule x) (step a x) (all_hold rule xs) (λ b. one_by_one step b xs) (one a x each.0) (λ b. alike-all P rule step one xs each.1 b)

always : {A : Type 0} (xs : List A) → Each (λ x. Unit {0}) xs
always [] = tt
always (x ∷ xs) = (tt, always xs)

field-alike : (program : Program) (a : Assembled) (f : MadeField) → AreAlike (field_fits program f) (and_field program.clauses a f)
field-alike program a f = by (nat_le (length (due_at_field program.clauses f.number)) most_due)
  where
    by : (b : Bool) → AreAlike (require b (TooManyClauses f.name.place))
        ((require b (TooManyClauses f.name.place) >>= λ u. Good (due_at_field program.clauses f.number)) >>= λ due.
        Good (record {
          classes = a.classes;
          fields = a.fields ++ record { field = program_field f; slot = count_by (is_of f.class f.is_static) (map field_of a.fields); due = due } ∷ [];
          methods = a.methods;
        }))
    by true = refl
    by false = refl

abbrev few-alone : Bool → Span → List ClauseId → Typing (List ClauseId)
few-alone b at due = require b (TooManyClauses at) >>= λ u. Good due

four-alike : (at : Span) (d : MethodDues) (f : MethodDues → Assembled) (b c e g : Bool) →
    AreAlike (require ((b && c) && (e && g)) (TooManyClauses at))
    ((few-alone b at d.call >>= λ call. few-alone c at d.commit >>= λ commit. few-alone e at d.leave >>= λ leave. few-alone g at d.enter >>= λ enter.
    Good (record { call = call; commit = commit; leave = leave; enter = enter })) >>= λ dues. Good (f dues))
four-alike at d f false c e g = refl
four-alike at d f true false e g = refl
four-alike at d f true true false g = refl
four-alike at d f true true true false = refl
four-alike at d f true true true true = refl

-- the method that is made is the program's of its number
abbrev pub IsThere : Program → MadeMethod → Type 0
IsThere program m = method_at program m.number ≡ Some (program_method m)

method-alike : (program : Program) (a : Assembled) (m : MadeMethod) → IsThere program m → AreAlike (method_fits program m) (and_method program.clauses a m)
method-alike program a m there =
    rw there (four-alike m.source.name.place (dues_of program.clauses m.number (program_method m))
    (λ dues. record { classes = a.classes; fields = a.fields; methods = a.methods ++ record { method = program_method m; dues = dues } ∷ [] }) _ _ _ _)

member-alike : (program : Program) (a : Assembled) (m : MadeMember) → Each (IsThere program) (methods_in m) → AreAlike (member_fits program m) (and_member program.clauses a m)
member-alike program a (Fields ms fs) there =
    alike-all (λ f. Unit {0}) (field_fits program) (and_field program.clauses) (λ b f u. field-alike program b f) fs (always fs) a
member-alike program a (Method m) there = method-alike program a m there.0
member-alike program a (OfClause c) there = refl

class-alike : (names : Names) (program : Program) (a : Assembled) (k : MadeClass) → Each (IsThere program) (methods_of k) → AreAlike (class_fits program k) (and_class names program.clauses a k)
class-alike names program a k there =
    alike-all (λ m. Each (IsThere program) (methods_in m)) (member_fits program) (and_member program.clauses) (member-alike program) k.members
    (Each-flat_map (IsThere program) methods_in k.members there) _

pub sites-alike : (names : Names) (program : Program) (ks : List MadeClass) → Each (IsThere program) (flat_map methods_of ks) → AreAlike (sites_fit program ks) (assembled names program.clauses ks)
unfolding sites_fit
sites-alike names program ks there =
    alike-all (λ k. Each (IsThere program) (methods_of k)) (class_fits program) (and_class names program.clauses) (class-alike names program) ks
    (Each-flat_map (IsThere program) methods_of ks there) nothing

-- ---- what is put together

-- a field behind those that stand before it
abbrev pub field_done : List Clause → List Field → MadeField → FieldDone
field_done cs before f = record { field = program_field f; slot = count_by (is_of f.class f.is_static) before; due = due_at_field cs f.number }

abbrev pub fields_done : List Clause → List Field → List MadeField → List FieldDone
fields_done cs before [] = []
fields_done cs before (f ∷ fs) = field_done cs before f ∷ fields_done cs (before ++ program_field f ∷ []) fs

abbrev pub method_done : List Clause → MadeMethod → MethodDone
method_done cs m = record { method = program_method m; dues = dues_of cs m.number (program_method m) }

-- so far it is these
pub record IsDone (cs : List Clause) (classes : List Class) (fields : List MadeField) (methods : List MadeMethod) (a : Assembled) : Type 0 where
  pub classes_done : a.classes ≡ classes
  pub all_fields : a.fields ≡ fields_done cs [] fields
  pub all_methods : a.methods ≡ map (method_done cs) methods

fields-last : (cs : List Clause) (before : List Field) (fs : List MadeField) (f : MadeField) →
    fields_done cs before (fs ++ f ∷ []) ≡ fields_done cs before fs ++ field_done cs (before ++ map program_field fs) f ∷ []
fields-last cs before [] f = ap (λ bs. field_done cs bs f ∷ []) (sym (append-nil before))
fields-last cs before (g ∷ fs) f =
    ap (λ ds. field_done cs before g ∷ ds)
    (fields-last cs (before ++ program_field g ∷ []) fs f
    ∙ ap (λ bs. fields_done cs (before ++ program_field g ∷ []) fs ++ field_done cs bs f ∷ []) (append_assoc before (program_field g ∷ []) (map program_field fs)))

pub fields-same : (cs : List Clause) (before : List Field) (fs : List MadeField) → map field_of (fields_done cs before fs) ≡ map program_field fs
fields-same cs before [] = refl
fields-same cs before (f ∷ fs) = ap (λ xs. program_field f ∷ xs) (fields-same cs (before ++ program_field f ∷ []) fs)

few-done : (at : Span) (due : List ClauseId) → Holds (λ ds. ds ≡ due) (few at due)
few-done at due = by (nat_le (length due) most_due)
  where
    by : (b : Bool) → Holds (λ ds. ds ≡ due) (require b (TooManyClauses at) >>= λ u. Good due)
    by true = refl
    by false = tt

four-done : (at : Span) (d : MethodDues) → Holds (λ dues. dues ≡ d) (few_in at d)
four-done at d =
    let Q = λ (dues : MethodDues). dues ≡ d in
    holds-then Q (λ ds. ds ≡ d.call) (few at d.call) _ (few-done at d.call) λ call e.
    holds-then Q (λ ds. ds ≡ d.commit) (few at d.commit) _ (few-done at d.commit) λ commit f.
    holds-then Q (λ ds. ds ≡ d.leave) (few at d.leave) _ (few-done at d.leave) λ leave g.
    holds-then Q (λ ds. ds ≡ d.enter) (few at d.enter) _ (few-done at d.enter) λ enter h.
    rw (e, f, g, h) refl

field-added : (cs : List Clause) (cls : List Class) (fs : List MadeField) (ms : List MadeMethod) (a : Assembled) (f : MadeField) → IsDone cs cls fs ms a → Holds (IsDone cs cls (fs ++ f ∷ []) ms) (and_field cs a f)
field-added cs cls fs ms a f done =
    holds-then (IsDone cs cls (fs ++ f ∷ []) ms) (λ ds. ds ≡ due_at_field cs f.number) (few f.name.place (due_at_field cs f.number)) _ (few-done f.name.place (due_at_field cs f.number)) λ due e.
    record {
      classes_done = done.classes_done;
      all_fields = rw (e, done.all_fields, fields-same cs [] fs) (sym (fields-last cs [] fs f));
      all_methods = done.all_methods;
    }

method-added : (cs : List Clause) (cls : List Class) (fs : List MadeField) (ms : List MadeMethod) (a : Assembled) (m : MadeMethod) → IsDone cs cls fs ms a →
    Holds (IsDone cs cls fs (ms ++ m ∷ [])) (and_method cs a m)
method-added cs cls fs ms a m done =
    let d = dues_of cs m.number (program_method m) in
    holds-then (IsDone cs cls fs (ms ++ m ∷ [])) (λ dues. dues ≡ d) (few_in m.source.name.place d) _ (four-done m.source.name.place d) λ dues e.
    record {
      classes_done = done.classes_done;
      all_fields = done.all_fields;
      all_methods = rw (e, done.all_methods) (sym (map-append (method_done cs) ms (m ∷ [])));
    }

more-fields : (cs : List Clause) (cls : List Class) (fs gs : List MadeField) (ms ns : List MadeMethod) (a : Assembled) → gs ≡ fs → ns ≡ ms → IsDone cs cls fs ms a → IsDone cs cls gs ns a
more-fields cs cls fs gs ms ns a e f done = rw (e, f) done

member-added : (cs : List Clause) (cls : List Class) (fs : List MadeField) (ms : List MadeMethod) (a : Assembled) (m : MadeMember) → IsDone cs cls fs ms a →
    Holds (IsDone cs cls (fs ++ fields_in m) (ms ++ methods_in m)) (and_member cs a m)
member-added cs cls fs ms a (Fields mods gs) done =
    holds-weaker (IsDone cs cls (fs ++ gs) ms) (IsDone cs cls (fs ++ gs) (ms ++ [])) (one_by_one (and_field cs) a gs)
    (holds-along (λ before. IsDone cs cls (fs ++ before) ms) (and_field cs)
    (λ before b f d. holds-weaker (IsDone cs cls ((fs ++ before) ++ f ∷ []) ms) (IsDone cs cls (fs ++ (before ++ f ∷ [])) ms) (and_field cs b f) (field-added cs cls (fs ++ before) ms b f d)
    λ c e. more-fields cs cls ((fs ++ before) ++ f ∷ []) (fs ++ (before ++ f ∷ [])) ms ms c (sym (append_assoc fs before (f ∷ []))) refl e)
    [] a (more-fields cs cls fs (fs ++ []) ms ms a (append-nil fs) refl done) gs)
    λ b d. more-fields cs cls (fs ++ gs) (fs ++ gs) ms (ms ++ []) b refl (append-nil ms) d
member-added cs cls fs ms a (Method m) done =
    holds-weaker (IsDone cs cls fs (ms ++ m ∷ [])) (IsDone cs cls (fs ++ []) (ms ++ m ∷ [])) (and_method cs a m) (method-added cs cls fs ms a m done)
    λ b d. more-fields cs cls fs (fs ++ []) (ms ++ m ∷ []) (ms ++ m ∷ []) b (append-nil fs) refl d
member-added cs cls fs ms a (OfClause c) done = more-fields cs cls fs (fs ++ []) ms (ms ++ []) a (append-nil fs) (append-nil ms) done

flat-last : {X A : Type 0} (f : X → List A) (before : List A) (xs : List X) (x : X) → before ++ flat_map f (xs ++ x ∷ []) ≡ (before ++ flat_map f xs) ++ f x
flat-last f before xs x =
    ap (λ l. before ++ l) (flat_map-append f xs (x ∷ []) ∙ ap (λ l. flat_map f xs ++ l) (append-nil (f x))) ∙ sym (append_assoc before (flat_map f xs) (f x))

class-added : (names : Names) (cs : List Clause) (before : List MadeClass) (a : Assembled) (k : MadeClass) →
    IsDone cs (map (program_class names) before) (flat_map fields_of before) (flat_map methods_of before) a →
    Holds (IsDone cs (map (program_class names) (before ++ k ∷ [])) (flat_map fields_of (before ++ k ∷ [])) (flat_map methods_of (before ++ k ∷ []))) (and_class names cs a k)
class-added names cs before a k done =
    let cls = map (program_class names) before ++ program_class names k ∷ [] in
    let fs = flat_map fields_of before in
    let ms = flat_map methods_of before in
    let first : Assembled = record { classes = a.classes ++ program_class names k ∷ []; fields = a.fields; methods = a.methods } in
    holds-weaker (IsDone cs cls (fs ++ fields_of k) (ms ++ methods_of k)) _ (one_by_one (and_member cs) first k.members)
    (holds-along (λ members. IsDone cs cls (fs ++ flat_map fields_in members) (ms ++ flat_map methods_in members)) (and_member cs)
    (λ members b m d. holds-weaker (IsDone cs cls ((fs ++ flat_map fields_in members) ++ fields_in m) ((ms ++ flat_map methods_in members) ++ methods_in m))
    (IsDone cs cls (fs ++ flat_map fields_in (members ++ m ∷ [])) (ms ++ flat_map methods_in (members ++ m ∷ []))) (and_member cs b m)
    (member-added cs cls (fs ++ flat_map fields_in members) (ms ++ flat_map methods_in members) b m d)
    λ c e. more-fields cs cls _ _ _ _ c (flat-last fields_in fs members m) (flat-last methods_in ms members m) e)
    [] first
    (record {
      classes_done = ap (λ l. l ++ program_class names k ∷ []) done.classes_done;
      all_fields = done.all_fields ∙ ap (fields_done cs []) (sym (append-nil fs));
      all_methods = done.all_methods ∙ ap (map (method_done cs)) (sym (append-nil ms));
    }) k.members)
    λ b d. record {
      classes_done = d.classes_done ∙ sym (map-append (program_class names) before (k ∷ []));
      all_fields = d.all_fields ∙ ap (fields_done cs []) (sym (flat-last fields_of [] before k));
      all_methods = d.all_methods ∙ ap (map (method_done cs)) (sym (flat-last methods_of [] before k));
    }

pub all-done : (names : Names) (cs : List Clause) (ks : List MadeClass) → Holds (IsDone cs (map (program_class names) ks) (flat_map fields_of ks) (flat_map methods_of ks)) (assembled names cs ks)
all-done names cs ks =
    holds-along (λ before. IsDone cs (map (program_class names) before) (flat_map fields_of before) (flat_map methods_of before)) (and_class names cs) (class-added names cs)
    [] nothing (record { classes_done = refl; all_fields = refl; all_methods = refl }) ks
