-- What rows take and give, and the rows of operators.
use Rattle.std.proofs.Common.{◌≡◌, ℕ, zero, suc, ◌+◌, List, [], ◌∷◌, ◌++◌, Option, Some, None, refl, ap, ◌∙◌, subst, arith}
use Rattle.std.specs.Prelude.{ℤ, slice_get}
use Rattle.std.specs.Option.{option_map_or, option_to_list}
use Rattle.std.proofs.lemmas.List.{append-nil}
use Rattle.jr_base.specs.Threads.{class_object, cell}
use Rattle.jr_base.specs.declared.number.ClassId.{ClassId}
use Rattle.jr_base.specs.declared.number.ObjId.{ObjId}
use Rattle.jr_base.specs.declared.value.Value.TheVariants as values
use Rattle.jr_base.specs.declared.kind.SlotKind.{SlotKind}
use Rattle.jr_base.specs.declared.kind.SlotKind.TheVariants as kind
use Rattle.jr_arith.specs.declared.operator.Width.{Width}
use Rattle.jr_arith.specs.declared.operator.Unary.{Unary as UnaryOperator}
use Rattle.jr_arith.specs.declared.operator.Binary.{Binary as BinaryOperator}
use Rattle.jr_arith.specs.declared.operator.Width.TheVariants.{Int, Long}
use Rattle.jr_arith.specs.declared.operator.Arithmetic.TheVariants.{Add, Subtract, Multiply, Divide, Remainder}
use Rattle.jr_arith.specs.declared.operator.Bitwise.TheVariants.{And, Or, Xor}
use Rattle.jr_arith.specs.declared.operator.Shift.TheVariants.{Left, Right, RightUnsigned}
use Rattle.jr_arith.specs.declared.operator.Comparison.TheVariants.{Less, LessEqual, Greater, GreaterEqual, Equal, NotEqual}
use Rattle.jr_arith.specs.declared.operator.Unary.TheVariants.{Negate, Complement, Not}
use Rattle.jr_arith.specs.declared.operator.Binary.TheVariants as binary
use Rattle.jr_ops.specs.Instructions.{Row, Letters, instruction_rows, kinds_taken, kinds_given}
use Rattle.jr_code.specs.Instructions.{Instruction, Push, GetField, PutField, GetStatic, PutStatic, GetElement, PutElement, Make, MakeArray, AssertThat, PrintAll, ThrowNew, OneOperand, TwoOperands, ConvertTo, Unknown, MethodCode, Code}
use Rattle.jr_code.specs.Coded.{FieldCode, AssertCode, Tables, plain, row_of_binary, row_of_unary, row_of_conversion}
use Rattle.jr_code.specs.Checked.{kinds_pushed, kinds_with, Effect}
use Rattle.jr_code.specs.Letters.{LettersFit}

-- ---- what each row takes and gives

module _ (code : Code) (c : MethodCode) where
  -- what a place in a table leaves, where there is one
  entry_kinds : {A : Type 0} (f : A → Instruction) (o : Option A) (l : Letters) (before after : List SlotKind) → ((x : A) → LettersFit code c (f x) l → Effect code c (f x) before after) → LettersFit code c (option_map_or f o Unknown) l → Effect code c (option_map_or f o Unknown) before after
  entry_kinds f None l before after each h = absurd h
  entry_kinds f (Some x) l before after each h = each x h

  instance_kinds : (row : ℕ → SlotKind → Instruction) (home : Option ObjId) (slot : ℕ) (k : SlotKind) (l : Letters) (before after : List SlotKind) → (LettersFit code c (row slot k) l → Effect code c (row slot k) before after) → LettersFit code c (option_map_or (λ (o : ObjId). Unknown) home (row slot k)) l → Effect code c (option_map_or (λ (o : ObjId). Unknown) home (row slot k)) before after
  instance_kinds row None slot k l before after each h = each h
  instance_kinds row (Some o) slot k l before after each h = absurd h

  static_kinds : (row : ObjId → ℕ → SlotKind → Instruction) (home : Option ObjId) (slot : ℕ) (k : SlotKind) (l : Letters) (before after : List SlotKind) → ((o : ObjId) → LettersFit code c (row o slot k) l → Effect code c (row o slot k) before after) → LettersFit code c (option_map_or (λ (o : ObjId). row o slot k) home Unknown) l → Effect code c (option_map_or (λ (o : ObjId). row o slot k) home Unknown) before after
  static_kinds row None slot k l before after each h = absurd h
  static_kinds row (Some o) slot k l before after each h = each o h

outcome_kinds : (o r : Option SlotKind) (ks : List SlotKind) → o ≡ r → kinds_pushed (option_to_list o ++ []) ks ≡ kinds_with r ks
outcome_kinds None r ks e = ap (λ r. kinds_with r ks) e
outcome_kinds (Some k) r ks e = ap (λ r. kinds_with r ks) e

-- an instruction of this row takes and gives what the row says
abbrev RowHolds : Code → MethodCode → Tables → ℕ → Row → Type 0
RowHolds code c t number row =
    (arg : ℕ) (l : Letters) (ks : List SlotKind) → LettersFit code c (plain t (record { code = number; arg = arg })) l →
    Effect code c (plain t (record { code = number; arg = arg })) (kinds_pushed (kinds_taken l row) ks) (kinds_pushed (kinds_given l row) ks)

abbrev RowsHold : Code → MethodCode → Tables → ℕ → List Row → Type 0
RowsHold code c t number [] = Unit {0}
RowsHold code c t number (row ∷ rows) = RowHolds code c t number row × RowsHold code c t (suc number) rows

row_there : (code : Code) (c : MethodCode) (t : Tables) (number : ℕ) (rows : List Row) → RowsHold code c t number rows → (k : ℕ) (row : Row) → slice_get rows k ≡ Some row → RowHolds code c t (number + k) row
row_there code c t number [] h k row e = absurd (cc)
row_there code c t number (r ∷ rows) h zero row e =
    let same : r ≡ row = cc in
    let here : number ≡ number + 0 = omega arith in
    subst (λ n. RowHolds code c t n row) here (subst (λ r. RowHolds code c t number r) same h.0)
row_there code c t number (r ∷ rows) h (suc k) row e =
    let here : suc number + k ≡ number + suc k = omega arith in
    subst (λ n. RowHolds code c t n row) here (row_there code c t (suc number) rows h.1 k row e)

all_rows_hold : (code : Code) (c : MethodCode) (t : Tables) → RowsHold code c t 1 instruction_rows
unfolding instruction_rows
all_rows_hold code c t = (
  (λ arg l ks h. refl),
  ((
    (λ arg l ks h. refl),
    ((
      (λ arg l ks h. refl),
      ((
        (λ arg l ks h. refl),
        ((
          (λ arg l ks. entry_kinds code c (λ (class : ClassId). Push (values.Ref (class_object class))) _ l _ _ (λ x h. refl)),
          ((
            (λ arg l ks h. (l.x, h, refl)),
            ((
              (λ arg l ks h. (l.x, h, refl)),
              ((
                (λ arg l ks h. (l.x, refl)),
                ((
                  (λ arg l ks h. (l.x, ks, refl, refl)),
                  ((
                    (λ arg l ks h. (l.y, l.x, ks, refl, refl)),
                    ((
                      (λ arg l ks h. (l.y, l.x, ks, refl, refl)),
                      ((
                        (λ arg l ks h. (l.z, l.y, l.x, ks, refl, refl)),
                        ((
                          (λ arg l ks h. (ks, refl, refl)),
                          ((
                            (λ arg l ks h. (ks, refl, refl)),
                            ((
                              (λ arg l ks h. (ks, refl, refl)),
                              ((
                                (λ arg l ks h. (ks, refl, refl)),
                                ((
                                  (λ arg l ks h. (ks, refl, refl)),
                                  ((
                                    (λ arg l ks h. (ks, refl, refl)),
                                    ((
                                      (λ arg l ks h. (ks, refl, refl)),
                                      ((
                                        (λ arg l ks h. (ks, refl, refl)),
                                        ((
                                          (λ arg l ks h. (ks, refl, refl)),
                                          ((
                                            (λ arg l ks h. (ks, refl, refl)),
                                            ((
                                              (λ arg l ks h. (ks, refl, refl)),
                                              ((
                                                (λ arg l ks h. (ks, refl, refl)),
                                                ((
                                                  (λ arg l ks h. (ks, refl, refl)),
                                                  ((
                                                    (λ arg l ks h. (ks, refl, refl)),
                                                    ((
                                                      (λ arg l ks h. (ks, refl, refl)),
                                                      ((
                                                        (λ arg l ks h. (ks, refl, refl)),
                                                        ((
                                                          (λ arg l ks h. (ks, refl, refl)),
                                                          ((
                                                            (λ arg l ks h. (ks, refl, refl)),
                                                            ((
                                                              (λ arg l ks h. (ks, refl, refl)),
                                                              ((
                                                                (λ arg l ks h. (ks, refl, refl)),
                                                                ((
                                                                  (λ arg l ks h. (ks, refl, refl)),
                                                                  ((
                                                                    (λ arg l ks h. (ks, refl, refl)),
                                                                    ((
                                                                      (λ arg l ks h. (ks, refl, refl)),
                                                                      ((
                                                                        (λ arg l ks h. (ks, refl, refl)),
                                                                        ((
                                                                          (λ arg l ks h. (ks, refl, refl)),
                                                                          ((
                                                                            (λ arg l ks h. (ks, refl, refl)),
                                                                            ((
                                                                              (λ arg l ks h. (ks, refl, refl)),
                                                                              ((
                                                                                (λ arg l ks h. refl),
                                                                                ((
                                                                                  (λ arg l ks h. refl),
                                                                                  ((
                                                                                    (λ arg l ks h. refl),
                                                                                    ((
                                                                                      (λ arg l ks h. refl),
                                                                                      ((
                                                                                        (λ arg l ks. entry_kinds code c _ _ l _ _ (λ (f : FieldCode). instance_kinds code c GetField f.home f.slot f.kind l _ _ (λ h. (ks, refl, ap (λ k. k ∷ ks) h.0, h.1)))),
                                                                                        ((
                                                                                          (λ arg l ks. entry_kinds code c _ _ l _ _ (λ (f : FieldCode). instance_kinds code c PutField f.home f.slot f.kind l _ _ (λ h. (ap (λ k. k ∷ (kind.Ref ∷ ks)) h.0, h.1)))),
                                                                                          ((
                                                                                            (λ arg l ks. entry_kinds code c _ _ l _ _ (λ (f : FieldCode). static_kinds code c (λ home slot k. GetStatic (cell home slot) k) f.home f.slot f.kind l _ _ (λ home h. (ap (λ k. k ∷ ks) h.0, h.1)))),
                                                                                            ((
                                                                                              (λ arg l ks. entry_kinds code c _ _ l _ _ (λ (f : FieldCode). static_kinds code c (λ home slot k. PutStatic (cell home slot) k) f.home f.slot f.kind l _ _ (λ home h. (ap (λ k. k ∷ ks) h.0, h.1)))),
                                                                                              ((
                                                                                                (λ arg l ks. entry_kinds code c GetElement _ l _ _ (λ e h. (ks, refl, ap (λ k. k ∷ ks) h))),
                                                                                                ((
                                                                                                  (λ arg l ks. entry_kinds code c PutElement _ l _ _ (λ e h. ap (λ k. k ∷ (kind.Int ∷ (kind.Ref ∷ ks))) h)),
                                                                                                  ((
                                                                                                    (λ arg l ks h. (ks, refl, refl)),
                                                                                                    ((
                                                                                                      (λ arg l ks. entry_kinds code c Make _ l _ _ (λ x h. refl)),
                                                                                                      ((
                                                                                                        (λ arg l ks. entry_kinds code c MakeArray _ l _ _ (λ x h. (ks, refl, refl))),
                                                                                                        ((
                                                                                                          (λ arg l ks h. refl),
                                                                                                          ((
                                                                                                            (λ arg l ks h. refl),
                                                                                                            ((
                                                                                                              (λ arg l ks h. refl),
                                                                                                              ((
                                                                                                                (λ arg l ks h. refl),
                                                                                                                ((
                                                                                                                  (λ arg l ks h. refl),
                                                                                                                  ((
                                                                                                                    (λ arg l ks h. refl),
                                                                                                                    ((
                                                                                                                      (λ arg l ks h. refl),
                                                                                                                      ((
                                                                                                                        (λ arg l ks h. refl),
                                                                                                                        ((
                                                                                                                          (λ arg l ks h. refl),
                                                                                                                          ((
                                                                                                                            (λ arg l ks h. (h.0, ks, h.1, h.2, ap (λ passed. kinds_pushed passed ks) (append-nil l.arguments ∙ h.3), outcome_kinds l.outcome h.0.result ks h.4)),
                                                                                                                            ((
                                                                                                                              (λ arg l ks h. (h.0, ks, h.1, h.2, ap (λ passed. kinds_pushed passed (kind.Ref ∷ ks)) (append-nil l.arguments ∙ h.3), outcome_kinds l.outcome h.0.result ks h.4)),
                                                                                                                              ((
                                                                                                                                (λ arg l ks h. (h, refl)),
                                                                                                                                ((
                                                                                                                                  (λ arg l ks h. (l.x, h, refl)),
                                                                                                                                  ((
                                                                                                                                    (λ arg l ks h. refl),
                                                                                                                                    ((
                                                                                                                                      (λ arg l ks. entry_kinds code c (λ (a : AssertCode). AssertThat a.clause a.scope) _ l _ _ (λ x h. (h, refl))),
                                                                                                                                      ((
                                                                                                                                        (λ arg l ks. entry_kinds code c PrintAll _ l _ _ (λ x h. (l.part_values, h.0, h.1, ap (λ vs. kinds_pushed vs ks) (append-nil l.part_values)))),
                                                                                                                                        ((
                                                                                                                                          (λ arg l ks. entry_kinds code c ThrowNew _ l _ _ (λ x h. refl)),
                                                                                                                                          ((
                                                                                                                                            (λ arg l ks h. (h, refl)),
                                                                                                                                            ((
                                                                                                                                              (λ arg l ks. entry_kinds code c (λ (n : ℤ). Push (values.Long n)) _ l _ _ (λ x h. refl)),
                                                                                                                                              ((
                                                                                                                                                (λ arg l ks h. (ks, refl, refl)),
                                                                                                                                                ((
                                                                                                                                                  (λ arg l ks h. (ks, refl, refl)),
                                                                                                                                                  ((
                                                                                                                                                    (λ arg l ks h. (ks, refl, refl)),
                                                                                                                                                    ((
                                                                                                                                                      (λ arg l ks h. (ks, refl, refl)),
                                                                                                                                                      ((
                                                                                                                                                        (λ arg l ks h. (ks, refl, refl)),
                                                                                                                                                        ((
                                                                                                                                                          (λ arg l ks h. (ks, refl, refl)),
                                                                                                                                                          ((
                                                                                                                                                            (λ arg l ks h. (ks, refl, refl)),
                                                                                                                                                            ((
                                                                                                                                                              (λ arg l ks h. (ks, refl, refl)),
                                                                                                                                                              ((
                                                                                                                                                                (λ arg l ks h. (ks, refl, refl)),
                                                                                                                                                                ((
                                                                                                                                                                  (λ arg l ks h. (ks, refl, refl)),
                                                                                                                                                                  ((
                                                                                                                                                                    (λ arg l ks h. (ks, refl, refl)),
                                                                                                                                                                    ((
                                                                                                                                                                      (λ arg l ks h. (ks, refl, refl)),
                                                                                                                                                                      ((
                                                                                                                                                                        (λ arg l ks h. (ks, refl, refl)),
                                                                                                                                                                        ((
                                                                                                                                                                          (λ arg l ks h. (ks, refl, refl)),
                                                                                                                                                                          ((
                                                                                                                                                                            (λ arg l ks h. (ks, refl, refl)),
                                                                                                                                                                            ((
                                                                                                                                                                              (λ arg l ks h. (ks, refl, refl)),
                                                                                                                                                                              ((
                                                                                                                                                                                (λ arg l ks h. (ks, refl, refl)),
                                                                                                                                                                                ((
                                                                                                                                                                                  (λ arg l ks h. (ks, refl, refl)),
                                                                                                                                                                                  ((
                                                                                                                                                                                    (λ arg l ks h. (ks, refl, refl)),
                                                                                                                                                                                    ((
                                                                                                                                                                                      (λ arg l ks h. (ks, refl, refl)),
                                                                                                                                                                                      ((
                                                                                                                                                                                        (λ arg l ks h. (ks, refl, refl)),
                                                                                                                                                                                        ((
                                                                                                                                                                                          (λ arg l ks h. refl),
                                                                                                                                                                                          (
                                                                                                                                                                                              tt),
                                                                                                                                                                                        )),
                                                                                                                                                                                      )),
                                                                                                                                                                                    )),
                                                                                                                                                                                  )),
                                                                                                                                                                                )),
                                                                                                                                                                              )),
                                                                                                                                                                            )),
                                                                                                                                                                          )),
                                                                                                                                                                        )),
                                                                                                                                                                      )),
                                                                                                                                                                    )),
                                                                                                                                                                  )),
                                                                                                                                                                )),
                                                                                                                                                              )),
                                                                                                                                                            )),
                                                                                                                                                          )),
                                                                                                                                                        )),
                                                                                                                                                      )),
                                                                                                                                                    )),
                                                                                                                                                  )),
                                                                                                                                                )),
                                                                                                                                              )),
                                                                                                                                            )),
                                                                                                                                          )),
                                                                                                                                        )),
                                                                                                                                      )),
                                                                                                                                    )),
                                                                                                                                  )),
                                                                                                                                )),
                                                                                                                              )),
                                                                                                                            )),
                                                                                                                          )),
                                                                                                                        )),
                                                                                                                      )),
                                                                                                                    )),
                                                                                                                  )),
                                                                                                                )),
                                                                                                              )),
                                                                                                            )),
                                                                                                          )),
                                                                                                        )),
                                                                                                      )),
                                                                                                    )),
                                                                                                  )),
                                                                                                )),
                                                                                              )),
                                                                                            )),
                                                                                          )),
                                                                                        )),
                                                                                      )),
                                                                                    )),
                                                                                  )),
                                                                                )),
                                                                              )),
                                                                            )),
                                                                          )),
                                                                        )),
                                                                      )),
                                                                    )),
                                                                  )),
                                                                )),
                                                              )),
                                                            )),
                                                          )),
                                                        )),
                                                      )),
                                                    )),
                                                  )),
                                                )),
                                              )),
                                            )),
                                          )),
                                        )),
                                      )),
                                    )),
                                  )),
                                )),
                              )),
                            )),
                          )),
                        )),
                      )),
                    )),
                  )),
                )),
              )),
            )),
          )),
        )),
      )),
    )),
  )),
)

pub row_holds : (code : Code) (c : MethodCode) (t : Tables) (k : ℕ) (row : Row) → slice_get instruction_rows k ≡ Some row → (arg : ℕ) (l : Letters) (ks : List SlotKind) → LettersFit code c (plain t (record { code = k + 1; arg = arg })) l → Effect code c (plain t (record { code = k + 1; arg = arg })) (kinds_pushed (kinds_taken l row) ks) (kinds_pushed (kinds_given l row) ks)
row_holds code c t k row e =
    let here : 1 + k ≡ k + 1 = omega arith in
    subst (λ n. RowHolds code c t n row) here (row_there code c t 1 instruction_rows (all_rows_hold code c t) k row e)

-- ---- each operator has its row

pub binary_row : (t : Tables) (arg : ℕ) (o : BinaryOperator) → plain t (record { code = row_of_binary o; arg = arg }) ≡ TwoOperands o
binary_row t arg (binary.Arithmetic Add Int) = refl
binary_row t arg (binary.Arithmetic Subtract Int) = refl
binary_row t arg (binary.Arithmetic Multiply Int) = refl
binary_row t arg (binary.Arithmetic Divide Int) = refl
binary_row t arg (binary.Arithmetic Remainder Int) = refl
binary_row t arg (binary.Arithmetic Add Long) = refl
binary_row t arg (binary.Arithmetic Subtract Long) = refl
binary_row t arg (binary.Arithmetic Multiply Long) = refl
binary_row t arg (binary.Arithmetic Divide Long) = refl
binary_row t arg (binary.Arithmetic Remainder Long) = refl
binary_row t arg (binary.Bitwise And Int) = refl
binary_row t arg (binary.Bitwise Or Int) = refl
binary_row t arg (binary.Bitwise Xor Int) = refl
binary_row t arg (binary.Shift Left Int) = refl
binary_row t arg (binary.Shift Right Int) = refl
binary_row t arg (binary.Shift RightUnsigned Int) = refl
binary_row t arg (binary.Bitwise And Long) = refl
binary_row t arg (binary.Bitwise Or Long) = refl
binary_row t arg (binary.Bitwise Xor Long) = refl
binary_row t arg (binary.Shift Left Long) = refl
binary_row t arg (binary.Shift Right Long) = refl
binary_row t arg (binary.Shift RightUnsigned Long) = refl
binary_row t arg (binary.Compare Less Int) = refl
binary_row t arg (binary.Compare LessEqual Int) = refl
binary_row t arg (binary.Compare Greater Int) = refl
binary_row t arg (binary.Compare GreaterEqual Int) = refl
binary_row t arg (binary.Compare Equal Int) = refl
binary_row t arg (binary.Compare NotEqual Int) = refl
binary_row t arg (binary.Compare Less Long) = refl
binary_row t arg (binary.Compare LessEqual Long) = refl
binary_row t arg (binary.Compare Greater Long) = refl
binary_row t arg (binary.Compare GreaterEqual Long) = refl
binary_row t arg (binary.Compare Equal Long) = refl
binary_row t arg (binary.Compare NotEqual Long) = refl
binary_row t arg binary.BothTrue = refl
binary_row t arg binary.EitherTrue = refl
binary_row t arg binary.Differ = refl
binary_row t arg binary.Agree = refl
binary_row t arg binary.SameReference = refl
binary_row t arg binary.OtherReference = refl

pub unary_row : (t : Tables) (arg : ℕ) (o : UnaryOperator) → plain t (record { code = row_of_unary o; arg = arg }) ≡ OneOperand o
unary_row t arg (Negate Int) = refl
unary_row t arg (Complement Int) = refl
unary_row t arg (Negate Long) = refl
unary_row t arg (Complement Long) = refl
unary_row t arg Not = refl

pub conversion_row : (t : Tables) (arg : ℕ) (w : Width) → plain t (record { code = row_of_conversion w; arg = arg }) ≡ ConvertTo w
conversion_row t arg Long = refl
conversion_row t arg Int = refl
