-- The coded methods of a program, over lists that grow.
use Rattle.std.proofs.Common.{◌≡◌, ◌≤◌, ℕ, zero, suc, ◌+◌, List, [], ◌∷◌, ◌++◌, length, map, take, drop, Some, slice_get, refl, sym, ap, ◌∙◌, subst, take_all, add-one}
use Rattle.std.specs.List.{repeat}
use Rattle.std.proofs.lemmas.List.{map-append}
use Rattle.jr_base.specs.Spare.{Spare}
use Rattle.jr_base.specs.declared.kind.SlotKind.{SlotKind}
use Rattle.jr_program.specs.Programs.{Program, Method}
use Rattle.jr_program.specs.WellFormed.{WellFormed}
use Rattle.jr_code.specs.declared.code.Code.{Code as CodeOfLists}
use Rattle.jr_code.specs.declared.code.MethodCode.{MethodCode as MethodOfLists}
use Rattle.jr_code.specs.Instructions.{Instruction, Region, MethodCode}
use Rattle.jr_code.specs.Coded.{Tables, Grows, plain}
use Rattle.jr_code.specs.Checked.{CodeRight, this_kind}
use Rattle.jr_code.specs.Views.{tables_of, method_of, plain_of, region_of}
use Rattle.jr_code.specs.WellFormed.{LocalsBegin, WellFormedCode}
use Rattle.jr_code.proofs.WellFormed.{well_formed}
use Rattle.jr_lowering.specs.ProgramCode.{body_code, method_code, code_of}
use Rattle.jr_lowering.specs.Encoded.{AllBegin, AllKnown, AreMethods, KeepsMethods, NoneUnknown}
use Rattle.jr_lowering.proofs.Encodes.{same_over}
use Rattle.jr_lowering.proofs.RightMethods.{code_right}

method_over : (t u : Tables) → Grows t u → (m : MethodOfLists) → NoneUnknown (method_of t m).instructions → method_of t m ≡ method_of u m
method_over t u g m k = ap (λ is. record (method_of t m) { instructions = is }) (same_over t u g m.instrs.items k)

methods_over : (t u : Tables) → Grows t u → (ms : List MethodOfLists) → AllKnown (map (method_of t) ms) → map (method_of t) ms ≡ map (method_of u) ms
methods_over t u g [] k = refl
methods_over t u g (m ∷ ms) k =
    ap (λ c. c ∷ map (method_of t) ms) (method_over t u g m k.0) ∙ ap (λ cs. method_of u m ∷ cs) (methods_over t u g ms k.1)

all_known : (cs : List MethodCode) (c : MethodCode) → AllKnown cs → NoneUnknown c.instructions → AllKnown (cs ++ c ∷ [])
all_known [] c k n = (n, tt)
all_known (d ∷ cs) c k n = (k.0, all_known cs c k.1 n)

all_begin : (ms : List MethodOfLists) (m : MethodOfLists) → AllBegin ms → LocalsBegin m → AllBegin (ms ++ m ∷ [])
all_begin [] m k n = (n, tt)
all_begin (d ∷ ms) m k n = (k.0, all_begin ms m k.1 n)

-- the lists have grown, and a method stands behind the others
pub one_more : (t u : Tables) (ms : List MethodOfLists) (cs : List MethodCode) (m : MethodOfLists) (c : MethodCode) →
    Grows t u → AreMethods t ms cs → method_of u m ≡ c → NoneUnknown c.instructions → LocalsBegin m → AreMethods u (ms ++ m ∷ []) (cs ++ c ∷ [])
one_more t u ms cs m c g a e k b = record {
  same = map-append (method_of u) ms (m ∷ [])
      ∙ ap (λ l. l ++ method_of u m ∷ []) (sym (methods_over t u g ms (subst AllKnown (sym a.same) a.known)) ∙ a.same)
      ∙ ap (λ x. cs ++ x ∷ []) e;
  known = all_known cs c a.known k;
  begin = all_begin ms m a.begin b;
}

-- the items up to the next one
taken_next : {A B : Type 0} (f : A → B) (xs : List A) (n : ℕ) (x : A) → slice_get xs n ≡ Some x → map f (take (suc n) xs) ≡ map f (take n xs) ++ f x ∷ []
taken_next f [] n x e = absurd (cc)
taken_next f (y ∷ xs) zero x e = let same : y ≡ x = cc in ap (λ y. f y ∷ []) same
taken_next f (y ∷ xs) (suc n) x e = ap (λ l. f y ∷ l) (taken_next f xs n x e)

taken : {A B : Type 0} (f : A → B) (xs : List A) (n : ℕ) (x : A) → slice_get xs n ≡ Some x → map f (take (n + 1) xs) ≡ map f (take n xs) ++ f x ∷ []
taken f xs n x e = ap (λ k. map f (take k xs)) (add-one n) ∙ taken_next f xs n x e

again : {A : Type 0} (n : ℕ) (x : A) → repeat (suc n) (x ∷ []) ≡ repeat n (x ∷ []) ++ x ∷ []
again zero x = refl
again (suc n) x = ap (λ l. x ∷ l) (again n x)

-- one more of the same
pub one_again : {A : Type 0} (n : ℕ) (x : A) → repeat (n + 1) (x ∷ []) ≡ repeat n (x ∷ []) ++ x ∷ []
one_again n x = ap (λ k. repeat k (x ∷ [])) (add-one n) ∙ again n x

pub no_methods : (program : Program) (t : Tables) (ms : List MethodOfLists) → ms ≡ [] →
    AreMethods t ms (map (method_code program) (take 0 program.methods))
no_methods program t ms e = subst (λ l. AreMethods t l []) (sym e) (record { same = refl; known = tt; begin = tt })

drop_front : {A : Type 0} (xs ys : List A) → drop (length xs) (xs ++ ys) ≡ ys
drop_front [] ys = refl
drop_front (x ∷ xs) ys = drop_front xs ys

-- a method from its lists
pub method_is : (t : Tables) (m : MethodOfLists) (formals others : List SlotKind) (is : List Instruction) (rs : List Region) →
    m.formals.items ≡ formals → m.locals.items ≡ (this_kind m.is_static ++ formals) ++ others → map (plain t) m.instrs.items ≡ is →
    map region_of m.regions.items ≡ rs → method_of t m ≡ record {
      class = m.class;
      is_static = m.is_static;
      is_synchronized = m.is_synchronized;
      formals = formals;
      result = m.result;
      locals = others;
      instructions = is;
      regions = rs;
    }
method_is t m formals others is rs f l i r =
    let behind : drop (length (this_kind m.is_static ++ m.formals.items)) m.locals.items ≡ others =
    ap (λ k. drop (length (this_kind m.is_static ++ k)) m.locals.items) f
    ∙ ap (drop (length (this_kind m.is_static ++ formals))) l ∙ drop_front (this_kind m.is_static ++ formals) others in
    ap (λ k. record (method_of t m) { formals = k }) f
    ∙ ap (λ k. record (method_of t m) { formals = formals; locals = k }) behind
    ∙ ap (λ k. record (method_of t m) { formals = formals; locals = others; instructions = k }) i
    ∙ ap (λ k. record (method_of t m) { formals = formals; locals = others; instructions = is; regions = k }) r

-- the next method stands behind the others, and the lists have grown
pub next_method : (program : Program) (a b : CodeOfLists) (new : Spare MethodOfLists) (n : ℕ) (m : MethodOfLists) (x : Method) →
    KeepsMethods a b → AreMethods (tables_of a) a.methods.items (map (method_code program) (take n program.methods)) →
    slice_get program.methods n ≡ Some x → method_of (tables_of b) m ≡ method_code program x → NoneUnknown (body_code program x) →
    LocalsBegin m → new.items ≡ b.methods.items ++ m ∷ [] →
    AreMethods (tables_of b) new.items (map (method_code program) (take (n + 1) program.methods))
next_method program a b new n m x k all at e known begin more =
    subst (AreMethods (tables_of b) new.items) (sym (taken (method_code program) program.methods n x at))
    (subst (λ l. AreMethods (tables_of b) l (map (method_code program) (take n program.methods) ++ method_code program x ∷ []))
    (sym (more ∙ ap (λ l. l ++ m ∷ []) k.methods))
    (one_more (tables_of a) (tables_of b) a.methods.items (map (method_code program) (take n program.methods)) m (method_code program x)
    k.grows all e known begin))

begins_at : (ms : List MethodOfLists) → AllBegin ms → (at : ℕ) (m : MethodOfLists) → slice_get ms at ≡ Some m → LocalsBegin m
begins_at [] k at m e = absurd (cc)
begins_at (d ∷ ms) k zero m e = let same : d ≡ m = cc in subst LocalsBegin same k.0
begins_at (d ∷ ms) k (suc at) m e = begins_at ms k.1 at m e

-- where all methods are coded, the code is the program's
pub whole : (program : Program) (code : CodeOfLists) (n : ℕ) → length program.methods ≤ n →
    AreMethods (tables_of code) code.methods.items (map (method_code program) (take n program.methods)) → plain_of code ≡ code_of program
whole program code n all a =
    ap (λ cs. record { methods = cs }) (a.same ∙ ap (map (method_code program)) (take_all n program.methods all))

-- and it keeps the rules
pub whole_is_right : (program : Program) → WellFormed program → (code : CodeOfLists) (cs : List MethodCode) → AreMethods (tables_of code) code.methods.items cs →
    plain_of code ≡ code_of program → WellFormedCode code
whole_is_right program formed code cs a e = well_formed code (begins_at code.methods.items a.begin) (subst CodeRight (sym e) (code_right program formed))
