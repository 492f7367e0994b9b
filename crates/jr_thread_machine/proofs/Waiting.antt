-- The frames of calls that wait, kept outermost first, and of calls that begin.
use Rattle.std.proofs.Common.{◌≡◌, ℕ, zero, suc, ◌+◌, ◌<◌, List, [], ◌∷◌, ◌++◌, Option, Some, true, false, Bool, map, take, drop, reverse, length, refl, sym, ap, ◌∙◌, arith, length-append}
use Rattle.std.specs.Prelude.{slice_get, slice_set}
use Rattle.std.proofs.lemmas.List.{reverse-append, map-append, append_assoc, length-map, drop_at, take_at}
use Rattle.std.proofs.Common.{add-one}
use Rattle.jr_base.specs.declared.number.MethodId.{MethodId}
use Rattle.jr_base.specs.declared.number.ObjId.{ObjId}
use Rattle.jr_base.specs.declared.value.Value.{Value}
use Rattle.jr_base.specs.Content.{Content, Holds, unset}
use Rattle.jr_code.specs.declared.code.MethodCode.{MethodCode as MethodOfLists}
use Rattle.jr_code.specs.Checked.{this_kind}
use Rattle.jr_code.specs.Machine.{StackFrame, stack_frame, taken, this_local, value_of_content}
use Rattle.jr_thread_machine.specs.declared.frame.Frame.{Frame}
use Rattle.jr_thread_machine.specs.Calls.{HasBegun}
use Rattle.jr_thread_machine.specs.Frames.{frame_of}
use Rattle.jr_thread_machine.specs.Moves.{arguments_in}

taken_more : {A : Type 0} (xs : List A) (n : ℕ) (x : A) → slice_get xs n ≡ Some x → take (suc n) xs ≡ take n xs ++ x ∷ []
taken_more [] n x e = absurd (cc)
taken_more (y ∷ xs) zero x e = let same : y ≡ x = cc in ap (λ z. z ∷ []) same
taken_more (y ∷ xs) (suc n) x e = ap (λ l. y ∷ l) (taken_more xs n x e)

-- one call more that waits
pub one_more : (frames : List Frame) (n : ℕ) (x : Frame) → slice_get frames n ≡ Some x →
    reverse (map frame_of (take (n + 1) frames)) ≡ frame_of x ∷ reverse (map frame_of (take n frames))
one_more frames n x e =
    ap (λ k. reverse (map frame_of (take k frames))) (add-one n)
    ∙ ap (λ l. reverse (map frame_of l)) (taken_more frames n x e)
    ∙ ap reverse (map-append frame_of (take n frames) (x ∷ []))
    ∙ reverse-append (map frame_of (take n frames)) (frame_of x ∷ [])

pub at_set : {A : Type 0} (xs : List A) (n : ℕ) (x : A) → n < length xs → slice_get (slice_set xs n x) n ≡ Some x
at_set [] n x h = absurd (omega arith)
at_set (y ∷ xs) zero x h = refl
at_set (y ∷ xs) (suc n) x h = at_set xs n x (omega arith)

pub before_set : {A : Type 0} (xs : List A) (n : ℕ) (x : A) → take n (slice_set xs n x) ≡ take n xs
before_set [] zero x = refl
before_set [] (suc n) x = refl
before_set (y ∷ xs) zero x = refl
before_set (y ∷ xs) (suc n) x = ap (λ l. y ∷ l) (before_set xs n x)

values_held : (values : List Value) → map value_of_content (map Holds values) ≡ values
values_held [] = refl
values_held (v ∷ values) = ap (λ l. v ∷ l) (values_held values)

arguments_stand : (first count : ℕ) (this rest : List Content) (values : List Value) → first ≡ length this → count ≡ length values →
    map value_of_content (take count (drop first (this ++ (map Holds values ++ rest)))) ≡ values
arguments_stand first count this rest values f n =
    ap (λ l. map value_of_content (take count l)) (drop_at this (map Holds values ++ rest) first (sym f))
    ∙ ap (map value_of_content) (take_at (map Holds values) rest count (length-map values Holds ∙ sym n))
    ∙ values_held values

-- what the frame of a call that begins is
pub begun : (m : MethodId) (this : Option ObjId) (c : MethodOfLists) (operands locals : List Content) (first count from : ℕ) (f : StackFrame) →
    f ≡ stack_frame m this 0 [] locals → first ≡ length (this_local c.is_static this) → count ≡ length (taken (length c.formals.items) operands) →
    from ≡ length (this_kind c.is_static) + length c.formals.items →
    locals ≡ (([] ++ this_local c.is_static this) ++ map Holds (taken (length c.formals.items) operands)) ++ map unset (drop from c.locals.items) →
    HasBegun m this c operands f (record { first = first; count = count })
begun m this c operands locals first count from f e h n from_is l =
    let values = taken (length c.formals.items) operands in
    let rest = map unset (drop from c.locals.items) in
    let ordered : locals ≡ this_local c.is_static this ++ (map Holds values ++ rest) =
    l ∙ append_assoc (this_local c.is_static this) (map Holds values) rest in
    let kinds : from ≡ length (this_kind c.is_static ++ c.formals.items) = from_is ∙ sym (length-append (this_kind c.is_static) c.formals.items) in
    record {
      frame = λ t.
          e ∙ ap (stack_frame m this 0 []) (ordered ∙ ap (λ k. this_local c.is_static this ++ (map Holds values ++ map unset (drop k c.locals.items))) kinds);
      arguments =
          ap (λ (f : StackFrame). arguments_in (record { first = first; count = count }) f.locals) e
          ∙ ap (arguments_in (record { first = first; count = count })) ordered
          ∙ arguments_stand first count (this_local c.is_static this) rest values h n;
    }

pub this_counts : (is_static : Bool) (this : Option ObjId) → length (this_local is_static this) ≡ length (this_kind is_static)
this_counts true this = refl
this_counts false this = refl
