-- A method whose parts are found right is right.
use Rattle.std.proofs.Common.{◌≡◌, ℕ, zero, suc, ◌<◌, Bool, true, false, List, [], ◌∷◌, ◌++◌, length, map, drop, take, Option, Some, None, refl, sym, ap, ◌∙◌, subst, arith, append_assoc}
use Rattle.std.specs.Prelude.{slice_get, option_map, replicate, IsTrue, ◌-◌}
use Rattle.std.proofs.Math.Seq.{drop-append_seam, take-length}
use Rattle.std.proofs.lemmas.Option.{slice_get-map, slice_get_within}
use Rattle.jr_base.specs.declared.kind.SlotKind.{SlotKind}
use Rattle.jr_base.specs.declared.kind.SlotKind.TheVariants.{Ref as Reference, Caught as CaughtKind}
use Rattle.jr_code.specs.declared.code.Code.{Code as CodeOfLists}
use Rattle.jr_code.specs.declared.code.MethodCode.{MethodCode as MethodOfLists}
use Rattle.jr_code.specs.declared.code.Region.{Region as RegionOfLists}
use Rattle.jr_code.specs.declared.code.RegionKind.{RegionKind as KindOfRegion}
use Rattle.jr_code.specs.declared.code.RegionKind.TheVariants.{Catch, Exit}
use Rattle.jr_code.specs.Instructions.{Region, MethodCode}
use Rattle.jr_code.specs.Checked.{this_kind, kinds_of_locals, NoneCaught, RightKind, RightRegion, RightRegions, MethodRight}
use Rattle.jr_code.specs.Views.{plain_of, region_of, kind_of_region}
use Rattle.jr_code.specs.WellFormed.{LocalsBegin, WellFormedMethod, plain_method, BreaksRule, Rule, NoInstruction, ExitOf}
use Rattle.jr_code.specs.Depth.{IsDepth}
use Rattle.jr_code.specs.Verifier.{OnPaths, Extends, SettledBelow, CatchDone, ExitsRight, ExitWrong, IsDeepest}
use Rattle.jr_code.proofs.Depths.{depth_found}

pub nothing_there : (n at : ℕ) (ks : List SlotKind) → slice_get (replicate n None) at ≡ Some (Some ks) → ⊥
nothing_there zero at ks e = absurd (cc)
nothing_there (suc n) zero ks e = absurd (cc)
nothing_there (suc n) (suc at) ks e = nothing_there n at ks e

pub locals_are : (code : CodeOfLists) (m : MethodOfLists) → LocalsBegin m → kinds_of_locals (plain_method code m) ≡ m.locals.items
locals_are code m l =
    let front = this_kind m.is_static ++ m.formals.items in
    sym (append_assoc (this_kind m.is_static) m.formals.items (drop (length front) m.locals.items))
    ∙ ap (λ o. front ++ o) (ap (drop (length front)) l.split ∙ drop-append_seam front l.others) ∙ sym l.split

pub exit_breaks : (code : CodeOfLists) (m : MethodOfLists) (n : ℕ) → LocalsBegin m → ExitWrong m n → BreaksRule code m 0
exit_breaks code m n l w =
    Rule 0 (ExitOf n (region_of w.region) w.place (slice_get-map region_of m.regions.items n ∙ ap (option_map region_of) w.stands)
    (ap (λ k. kind_of_region k w.region.target) w.kind) (λ e. w.wrong (ap (λ ls. slice_get ls w.place) (sym (locals_are code m l)) ∙ e)))

pub empty_breaks : (code : CodeOfLists) (m : MethodOfLists) → m.instrs.items ≡ [] → BreaksRule code m 0
empty_breaks code m e = Rule 0 (NoInstruction (ap (map _) e))

regions_right : (c : MethodCode) (shapes : List (Option (List SlotKind))) (rs : List Region) →
    ((n : ℕ) (r : Region) → slice_get rs n ≡ Some r → RightRegion c shapes r) → RightRegions c shapes rs
regions_right c shapes [] all = tt
regions_right c shapes (r ∷ rs) all = (all zero r refl, regions_right c shapes rs (λ n s e. all (suc n) s e))

mapped : (o : Option RegionOfLists) (r : Region) → option_map region_of o ≡ Some r → (l : RegionOfLists) × (o ≡ Some l) × (region_of l ≡ r)
mapped None r e = absurd (cc)
mapped (Some l) r e = (l, refl, cc)

kind_right : (code : CodeOfLists) (m : MethodOfLists) (shapes : List (Option (List SlotKind))) (n : ℕ) (l : RegionOfLists) (k : KindOfRegion) → LocalsBegin m →
    slice_get m.regions.items n ≡ Some l → n < length m.regions.items → l.kind ≡ k →
    ExitsRight m (length m.regions.items) → CatchDone (plain_method code m) shapes n → RightKind (plain_method code m) shapes l.first l.past (kind_of_region k l.target)
kind_right code m shapes n l (Catch fault) b e inside k exits done =
    done (region_of l) fault l.target (slice_get-map region_of m.regions.items n ∙ ap (option_map region_of) e) (ap (λ k. kind_of_region k l.target) k)
kind_right code m shapes n l (Exit x) b e inside k exits done = ap (λ ls. slice_get ls x) (locals_are code m b) ∙ exits n l x inside e k

method_right : (code : CodeOfLists) (m : MethodOfLists) (first shapes : List (Option (List SlotKind))) → LocalsBegin m → NoneCaught m.formals.items →
    (m.result ≡ Some CaughtKind → ⊥) → ExitsRight m (length m.regions.items) → length first ≡ length m.instrs.items → slice_get first 0 ≡ Some (Some []) →
    Extends (plain_of code) (plain_method code m) first shapes 0 → SettledBelow (plain_of code) (plain_method code m) shapes (length m.instrs.items) →
    ((k : ℕ) → k < length m.regions.items → CatchDone (plain_method code m) shapes k) →
    (right : MethodRight (plain_of code) (plain_method code m)) × (right.shapes ≡ shapes)
method_right code m first shapes b formals result exits size begins x settled done = (
  record {
    shapes = shapes;
    begins = x.grown 0 [] begins;
    each = λ at ks here.
        let within = slice_get_within shapes at (Some ks) here in
        let same = x.size in
        settled at (omega arith) ks here;
    regions = regions_right (plain_method code m) shapes (plain_method code m).regions
        (λ n r e.
        let l = mapped (slice_get m.regions.items n) r (sym (slice_get-map region_of m.regions.items n) ∙ e) in
        let inside = slice_get_within m.regions.items n l.0 l.1 in
        subst (RightRegion (plain_method code m) shapes) l.2 (kind_right code m shapes n l.0 l.0.kind b l.1 inside refl exits (done n inside)));
    formals = formals;
    result = λ k e c. result (e ∙ ap Some c);
  },
  refl,
)

-- the method keeps the rules, and needs the room that was found
pub well_formed : (code : CodeOfLists) (m : MethodOfLists) (first shapes : List (Option (List SlotKind))) (depth : ℕ) → LocalsBegin m → NoneCaught m.formals.items →
    (m.result ≡ Some CaughtKind → ⊥) → ExitsRight m (length m.regions.items) → length first ≡ length m.instrs.items → slice_get first 0 ≡ Some (Some []) →
    Extends (plain_of code) (plain_method code m) first shapes 0 → SettledBelow (plain_of code) (plain_method code m) shapes (length m.instrs.items) →
    ((k : ℕ) → k < length m.regions.items → CatchDone (plain_method code m) shapes k) → IsDeepest shapes depth →
    WellFormedMethod code m × IsDepth (plain_of code) (plain_method code m) depth
well_formed code m first shapes depth b formals result exits size begins x settled done deepest =
    let r = method_right code m first shapes b formals result exits size begins x settled done in (
      record { locals = b; right = r.0 },
      depth_found (plain_of code) (plain_method code m) r.0 depth (subst (OnPaths (plain_of code) (plain_method code m)) (sym r.1) x.on_paths)
          (subst (λ s. IsDeepest s depth) (sym r.1) deepest),
    )

pub begins_static : (m : MethodOfLists) (r : Bool) → m.is_static ≡ true →
    (r ≡ true → m.locals.items ≡ m.formals.items ++ drop (length m.formals.items) m.locals.items) × ((rest : List SlotKind) → m.locals.items ≡ m.formals.items ++ rest → r ≡ true) →
    (IsTrue r → LocalsBegin m) × (LocalsBegin m → IsTrue r)
begins_static m r e d = (
  λ h. record {
    others = drop (length m.formals.items) m.locals.items;
    split = subst (λ s. m.locals.items ≡ (this_kind s ++ m.formals.items) ++ drop (length m.formals.items) m.locals.items) (sym e) (d.0 h);
  },
  λ b. d.1 b.others (subst (λ s. m.locals.items ≡ (this_kind s ++ m.formals.items) ++ b.others) e b.split),
)

tail_same : (k j : SlotKind) (a b : List SlotKind) → (k ∷ a) ≡ (j ∷ b) → a ≡ b
tail_same k j a b e = cc

pub first_of : (ks : List SlotKind) → slice_get ks 0 ≡ Some Reference → ks ≡ Reference ∷ drop 1 ks
first_of [] e = absurd (cc)
first_of (k ∷ ks) e = let s : k ≡ Reference = cc in ap (λ k. k ∷ ks) s

pub begins_on : (m : MethodOfLists) (r : Bool) (tail : List SlotKind) → m.is_static ≡ false → m.locals.items ≡ Reference ∷ tail →
    (r ≡ true → tail ≡ m.formals.items ++ drop (length m.formals.items) tail) × ((rest : List SlotKind) → tail ≡ m.formals.items ++ rest → r ≡ true) →
    (IsTrue r → LocalsBegin m) × (LocalsBegin m → IsTrue r)
begins_on m r tail e first d = (
  λ h. record {
    others = drop (length m.formals.items) tail;
    split = subst (λ s. m.locals.items ≡ (this_kind s ++ m.formals.items) ++ drop (length m.formals.items) tail) (sym e) (first ∙ ap (λ l. Reference ∷ l) (d.0 h));
  },
  λ b. d.1 b.others (tail_same Reference Reference tail (m.formals.items ++ b.others) (sym first ∙ subst (λ s. m.locals.items ≡ (this_kind s ++ m.formals.items) ++ b.others) e b.split)),
)

pub begins_not : (m : MethodOfLists) → m.is_static ≡ false → (slice_get m.locals.items 0 ≡ Some Reference → ⊥) → LocalsBegin m → ⊥
begins_not m e never b =
    let split : m.locals.items ≡ (Reference ∷ m.formals.items) ++ b.others = subst (λ s. m.locals.items ≡ (this_kind s ++ m.formals.items) ++ b.others) e b.split in
    never (ap (λ l. slice_get l 0) split)

pub whole : (ks : List SlotKind) → take (length ks - 1) (drop 1 ks) ≡ drop 1 ks
whole [] = refl
whole (k ∷ ks) = let n : suc (length ks) - 1 ≡ length ks = omega arith in rw n (take-length ks)

pub no_items : {A : Type 0} (xs : List A) → length xs ≡ 0 → xs ≡ []
no_items [] e = refl
no_items (x ∷ xs) e = absurd (omega arith)
