-- The coded form of instructions, over lists that grow.
use Rattle.std.proofs.Common.{◌≡◌, ◌≢◌, ℕ, zero, suc, ◌+◌, ◌<◌, ◌≤◌, List, [], ◌∷◌, ◌++◌, length, map, take, get_or, refl, sym, ap, ◌∙◌, subst, arith, take_all, add-one}
use Rattle.std.proofs.lemmas.List.{map-append}
use Rattle.jr_code.specs.declared.code.Code.{Code as CodeOfLists}
use Rattle.jr_code.specs.declared.instr.Instr.{Instr}
use Rattle.jr_code.specs.Instructions.{Instruction, Unknown}
use Rattle.jr_code.specs.Coded.{Tables, Grows, plain}
use Rattle.jr_code.specs.Views.{tables_of}
use Rattle.jr_code.proofs.Tables.{grown}
use Rattle.jr_lowering.specs.declared.op.Op.{Op}
use Rattle.jr_lowering.specs.declared.op.Op.TheVariants as ops
use Rattle.jr_lowering.specs.Ops.{means}
use Rattle.jr_lowering.specs.Encoded.{AreCoded, KeepsMethods, NoneUnknown}

-- what is emitted is known
known : (op : Op) → means op ≢ Unknown
known (ops.PushInt n) = λ e. cc
known (ops.PushLong n) = λ e. cc
known (ops.PushTruth b) = λ e. cc
known ops.PushNull = λ e. cc
known (ops.PushClass class) = λ e. cc
known (ops.Load x) = λ e. cc
known (ops.Store x) = λ e. cc
known ops.Pop = λ e. cc
known ops.Dup = λ e. cc
known ops.Dup2 = λ e. cc
known ops.DupX1 = λ e. cc
known ops.DupX2 = λ e. cc
known (ops.OneOperand operator) = λ e. cc
known (ops.TwoOperands operator) = λ e. cc
known (ops.ConvertTo w) = λ e. cc
known (ops.Jump to) = λ e. cc
known (ops.JumpNot to) = λ e. cc
known (ops.BackTo to) = λ e. cc
known (ops.GetField slot kind) = λ e. cc
known (ops.PutField slot kind) = λ e. cc
known (ops.GetStatic at kind) = λ e. cc
known (ops.PutStatic at kind) = λ e. cc
known (ops.GetElement element) = λ e. cc
known (ops.PutElement element) = λ e. cc
known ops.ArrayLength = λ e. cc
known (ops.Make kind) = λ e. cc
known (ops.MakeArray element) = λ e. cc
known ops.EnterMonitor = λ e. cc
known ops.ExitMonitor = λ e. cc
known (ops.OnObject called) = λ e. cc
known ops.WaitForTime = λ e. cc
known ops.SleepFor = λ e. cc
known ops.YieldNow = λ e. cc
known (ops.CallStaticMethod m) = λ e. cc
known (ops.CallMethodOn m) = λ e. cc
known ops.ReturnNothing = λ e. cc
known ops.ReturnTop = λ e. cc
known ops.CommitNow = λ e. cc
known (ops.AssertThat a) = λ e. cc
known (ops.PrintAll parts) = λ e. cc
known (ops.ThrowNew fault) = λ e. cc
known (ops.ThrowLocal x) = λ e. cc

pub none_unknown : (all : List Op) → NoneUnknown (map means all)
none_unknown [] = tt
none_unknown (op ∷ all) = (known op, none_unknown all)

pub same_over : (t u : Tables) → Grows t u → (coded : List Instr) → NoneUnknown (map (plain t) coded) → map (plain t) coded ≡ map (plain u) coded
same_over t u g [] k = refl
same_over t u g (i ∷ coded) k = ap (λ x. x ∷ map (plain t) coded) (grown t u g i k.0) ∙ ap (λ l. plain u i ∷ l) (same_over t u g coded k.1)

-- coded instructions keep their meaning while the lists grow
pub coded_on : (t u : Tables) (coded : List Instr) (is : List Instruction) → Grows t u → AreCoded t coded is → AreCoded u coded is
coded_on t u coded is g c = record {
  same = sym (same_over t u g coded (subst NoneUnknown (sym c.same) c.known)) ∙ c.same;
  known = c.known;
}

more_known : (is : List Instruction) (i : Instruction) → NoneUnknown is → i ≢ Unknown → NoneUnknown (is ++ i ∷ [])
more_known [] i k n = (n, tt)
more_known (j ∷ is) i k n = (k.0, more_known is i k.1 n)

-- one instruction more
pub coded_more : (t : Tables) (coded : List Instr) (is : List Instruction) (i : Instr) (op : Op) →
    AreCoded t coded is → plain t i ≡ means op → AreCoded t (coded ++ i ∷ []) (is ++ means op ∷ [])
coded_more t coded is i op c e = record {
  same = map-append (plain t) coded (i ∷ []) ∙ ap (λ l. l ++ plain t i ∷ []) c.same ∙ ap (λ x. is ++ x ∷ []) e;
  known = more_known is (means op) c.known (known op);
}

taken_next : (ops : List Op) (n : ℕ) (op : Op) → n < length ops → op ≡ get_or ops n op → map means (take (suc n) ops) ≡ map means (take n ops) ++ means op ∷ []
taken_next [] n op lt e = absurd (omega arith)
taken_next (x ∷ ops) zero op lt e = ap (λ y. means y ∷ []) (sym e)
taken_next (x ∷ ops) (suc n) op lt e = ap (λ l. means x ∷ l) (taken_next ops n op (omega arith) e)

taken : (ops : List Op) (n : ℕ) (op : Op) → n < length ops → op ≡ get_or ops n op → map means (take (n + 1) ops) ≡ map means (take n ops) ++ means op ∷ []
taken ops n op lt e = ap (λ k. map means (take k ops)) (add-one n) ∙ taken_next ops n op lt e

-- the next instruction is coded, and the lists have grown
pub next_coded : (a b : CodeOfLists) (coded new : List Instr) (ops : List Op) (n : ℕ) (i : Instr) (op : Op) →
    KeepsMethods a b → AreCoded (tables_of a) coded (map means (take n ops)) → n < length ops → op ≡ get_or ops n op →
    plain (tables_of b) i ≡ means op → new ≡ coded ++ i ∷ [] → AreCoded (tables_of b) new (map means (take (n + 1) ops))
next_coded a b coded new ops n i op k c lt at e more =
    subst (AreCoded (tables_of b) new) (sym (taken ops n op lt at))
    (subst (λ l. AreCoded (tables_of b) l (map means (take n ops) ++ means op ∷ [])) (sym more)
    (coded_more (tables_of b) coded (map means (take n ops)) i op (coded_on (tables_of a) (tables_of b) coded (map means (take n ops)) k.grows c) e))

pub none_coded : (t : Tables) (ops : List Op) → AreCoded t [] (map means (take 0 ops))
none_coded t ops = record { same = refl; known = tt }

pub all_coded : (t : Tables) (coded : List Instr) (ops : List Op) (n : ℕ) → length ops ≤ n →
    AreCoded t coded (map means (take n ops)) → AreCoded t coded (map means ops)
all_coded t coded ops n le c = subst (λ l. AreCoded t coded (map means l)) (take_all n ops le) c
