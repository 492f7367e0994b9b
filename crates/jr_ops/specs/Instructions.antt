-- The rows of stack code: what each takes from the stack and gives to it, the topmost last.
use Rattle.std.specs.Prelude.{ℕ, ◌-◌, List, [], ◌∷◌, ◌++◌, Option, length, codes, replicate, flat_map}
use Rattle.std.specs.Option.{option_to_list}
use Rattle.jr_base.specs.declared.kind.SlotKind.{SlotKind}
use Rattle.jr_base.specs.declared.kind.SlotKind.TheVariants.{Int, Long, Bool, Ref}
use Rattle.jr_ops.specs.declared.instruction.OpRow.{OpRow}
use Rattle.jr_ops.specs.declared.instruction.RowKind.{RowKind}
use Rattle.jr_ops.specs.declared.instruction.RowKind.TheVariants.{Nothing as Unused, I, J, B, R, X, Y, Z, Arguments, Outcome, PartValues}
use Rattle.jr_ops.specs.declared.instruction.RowArg.{RowArg}
use Rattle.jr_ops.specs.declared.instruction.RowArg.TheVariants.{Nothing, Number, LongPlace, Class, Local, Target, Field, Made, Element, Method, Asserted, Printed, Thrown}

pub record Row : Type 0 where
  pub name : List ℕ
  pub takes : List RowKind
  pub gives : List RowKind
  pub arg : RowArg

-- unused places stand behind
abbrev pub filled : ℕ → List RowKind → List RowKind
filled n kinds = kinds ++ replicate (n - length kinds) Unused

abbrev pub row : List ℕ → List RowKind → List RowKind → RowArg → Row
row name takes gives arg = record { name = name; takes = filled 3 takes; gives = filled 4 gives; arg = arg }

-- the rows, from number 1 on
unfoldable pub instruction_rows : List Row
instruction_rows =
    -- 1 to 7
    row (codes "int") [] (I ∷ []) Number
    ∷ row (codes "true") [] (B ∷ []) Nothing
    ∷ row (codes "false") [] (B ∷ []) Nothing
    ∷ row (codes "null") [] (R ∷ []) Nothing
    ∷ row (codes "class") [] (R ∷ []) Class
    ∷ row (codes "load") [] (X ∷ []) Local
    ∷ row (codes "store") (X ∷ []) [] Local
    -- 8 to 12
    ∷ row (codes "pop") (X ∷ []) [] Nothing
    ∷ row (codes "dup") (X ∷ []) (X ∷ X ∷ []) Nothing
    ∷ row (codes "dup2") (X ∷ Y ∷ []) (X ∷ Y ∷ X ∷ Y ∷ []) Nothing
    ∷ row (codes "dupx1") (X ∷ Y ∷ []) (Y ∷ X ∷ Y ∷ []) Nothing
    ∷ row (codes "dupx2") (X ∷ Y ∷ Z ∷ []) (Z ∷ X ∷ Y ∷ Z ∷ []) Nothing
    -- 13 to 17
    ∷ row (codes "add") (I ∷ I ∷ []) (I ∷ []) Nothing
    ∷ row (codes "sub") (I ∷ I ∷ []) (I ∷ []) Nothing
    ∷ row (codes "mul") (I ∷ I ∷ []) (I ∷ []) Nothing
    ∷ row (codes "div") (I ∷ I ∷ []) (I ∷ []) Nothing
    ∷ row (codes "rem") (I ∷ I ∷ []) (I ∷ []) Nothing
    -- 18 to 19
    ∷ row (codes "neg") (I ∷ []) (I ∷ []) Nothing
    ∷ row (codes "inv") (I ∷ []) (I ∷ []) Nothing
    -- 20 to 25
    ∷ row (codes "and") (I ∷ I ∷ []) (I ∷ []) Nothing
    ∷ row (codes "or") (I ∷ I ∷ []) (I ∷ []) Nothing
    ∷ row (codes "xor") (I ∷ I ∷ []) (I ∷ []) Nothing
    ∷ row (codes "shl") (I ∷ I ∷ []) (I ∷ []) Nothing
    ∷ row (codes "shr") (I ∷ I ∷ []) (I ∷ []) Nothing
    ∷ row (codes "ushr") (I ∷ I ∷ []) (I ∷ []) Nothing
    -- 26 to 29
    ∷ row (codes "not") (B ∷ []) (B ∷ []) Nothing
    ∷ row (codes "band") (B ∷ B ∷ []) (B ∷ []) Nothing
    ∷ row (codes "bor") (B ∷ B ∷ []) (B ∷ []) Nothing
    ∷ row (codes "bxor") (B ∷ B ∷ []) (B ∷ []) Nothing
    -- 30 to 35
    ∷ row (codes "lt") (I ∷ I ∷ []) (B ∷ []) Nothing
    ∷ row (codes "le") (I ∷ I ∷ []) (B ∷ []) Nothing
    ∷ row (codes "gt") (I ∷ I ∷ []) (B ∷ []) Nothing
    ∷ row (codes "ge") (I ∷ I ∷ []) (B ∷ []) Nothing
    ∷ row (codes "eq") (I ∷ I ∷ []) (B ∷ []) Nothing
    ∷ row (codes "ne") (I ∷ I ∷ []) (B ∷ []) Nothing
    -- 36 to 39
    ∷ row (codes "beq") (B ∷ B ∷ []) (B ∷ []) Nothing
    ∷ row (codes "bne") (B ∷ B ∷ []) (B ∷ []) Nothing
    ∷ row (codes "req") (R ∷ R ∷ []) (B ∷ []) Nothing
    ∷ row (codes "rne") (R ∷ R ∷ []) (B ∷ []) Nothing
    -- 40 to 43
    ∷ row (codes "jump") [] [] Target
    ∷ row (codes "jumpif") (B ∷ []) [] Target
    ∷ row (codes "jumpnot") (B ∷ []) [] Target
    ∷ row (codes "back") [] [] Target
    -- 44 to 47
    ∷ row (codes "getfield") (R ∷ []) (X ∷ []) Field
    ∷ row (codes "putfield") (R ∷ X ∷ []) [] Field
    ∷ row (codes "getstatic") [] (X ∷ []) Field
    ∷ row (codes "putstatic") (X ∷ []) [] Field
    -- 48 to 52
    ∷ row (codes "getelem") (R ∷ I ∷ []) (X ∷ []) Element
    ∷ row (codes "putelem") (R ∷ I ∷ X ∷ []) [] Element
    ∷ row (codes "arraylen") (R ∷ []) (I ∷ []) Nothing
    ∷ row (codes "new") [] (R ∷ []) Made
    ∷ row (codes "newarray") (I ∷ []) (R ∷ []) Element
    -- 53 to 54
    ∷ row (codes "enter") (R ∷ []) [] Nothing
    ∷ row (codes "exit") (R ∷ []) [] Nothing
    -- 55 to 59
    ∷ row (codes "wait") (R ∷ []) [] Nothing
    ∷ row (codes "notify") (R ∷ []) [] Nothing
    ∷ row (codes "notifyall") (R ∷ []) [] Nothing
    ∷ row (codes "start") (R ∷ []) [] Nothing
    ∷ row (codes "join") (R ∷ []) [] Nothing
    -- 60 to 61
    ∷ row (codes "sleep") (I ∷ []) [] Nothing
    ∷ row (codes "yield") [] [] Nothing
    -- 62 to 65
    ∷ row (codes "callstatic") (Arguments ∷ []) (Outcome ∷ []) Method
    ∷ row (codes "callon") (R ∷ Arguments ∷ []) (Outcome ∷ []) Method
    ∷ row (codes "return") [] [] Nothing
    ∷ row (codes "returnvalue") (X ∷ []) [] Nothing
    -- 66 to 70
    ∷ row (codes "commit") [] [] Nothing
    ∷ row (codes "assert") [] [] Asserted
    ∷ row (codes "print") (PartValues ∷ []) [] Printed
    ∷ row (codes "throw") [] [] Thrown
    ∷ row (codes "throwlocal") [] [] Local
    -- 71 to 72
    ∷ row (codes "long") [] (J ∷ []) LongPlace
    ∷ row (codes "widen") (I ∷ []) (J ∷ []) Nothing
    -- 73 to 77
    ∷ row (codes "ladd") (J ∷ J ∷ []) (J ∷ []) Nothing
    ∷ row (codes "lsub") (J ∷ J ∷ []) (J ∷ []) Nothing
    ∷ row (codes "lmul") (J ∷ J ∷ []) (J ∷ []) Nothing
    ∷ row (codes "ldiv") (J ∷ J ∷ []) (J ∷ []) Nothing
    ∷ row (codes "lrem") (J ∷ J ∷ []) (J ∷ []) Nothing
    -- 78 to 79
    ∷ row (codes "lneg") (J ∷ []) (J ∷ []) Nothing
    ∷ row (codes "linv") (J ∷ []) (J ∷ []) Nothing
    -- 80 to 82
    ∷ row (codes "land") (J ∷ J ∷ []) (J ∷ []) Nothing
    ∷ row (codes "lor") (J ∷ J ∷ []) (J ∷ []) Nothing
    ∷ row (codes "lxor") (J ∷ J ∷ []) (J ∷ []) Nothing
    -- 83 to 85
    ∷ row (codes "lshl") (J ∷ I ∷ []) (J ∷ []) Nothing
    ∷ row (codes "lshr") (J ∷ I ∷ []) (J ∷ []) Nothing
    ∷ row (codes "lushr") (J ∷ I ∷ []) (J ∷ []) Nothing
    -- 86 to 91
    ∷ row (codes "llt") (J ∷ J ∷ []) (B ∷ []) Nothing
    ∷ row (codes "lle") (J ∷ J ∷ []) (B ∷ []) Nothing
    ∷ row (codes "lgt") (J ∷ J ∷ []) (B ∷ []) Nothing
    ∷ row (codes "lge") (J ∷ J ∷ []) (B ∷ []) Nothing
    ∷ row (codes "leq") (J ∷ J ∷ []) (B ∷ []) Nothing
    ∷ row (codes "lne") (J ∷ J ∷ []) (B ∷ []) Nothing
    -- 92
    ∷ row (codes "low") (J ∷ []) (I ∷ []) Nothing
    -- 93
    ∷ row (codes "waitfor") (R ∷ J ∷ []) [] Nothing
    ∷ []

-- a row of the code as plain data
abbrev pub row_of : OpRow → Row
row_of r = record { name = r.name.now; takes = r.takes; gives = r.gives; arg = r.arg }

abbrev pub name_of : Row → List ℕ
name_of r = r.name

-- ---- the kinds of a row's operands

-- what the letters and lists of a row are at one place of a code
pub record Letters : Type 0 where
  pub x : SlotKind
  pub y : SlotKind
  pub z : SlotKind
  pub arguments : List SlotKind
  pub outcome : Option SlotKind
  pub part_values : List SlotKind

abbrev pub kinds_for : Letters → RowKind → List SlotKind
kinds_for letters Unused = []
kinds_for letters I = Int ∷ []
kinds_for letters J = Long ∷ []
kinds_for letters B = Bool ∷ []
kinds_for letters R = Ref ∷ []
kinds_for letters X = letters.x ∷ []
kinds_for letters Y = letters.y ∷ []
kinds_for letters Z = letters.z ∷ []
kinds_for letters Arguments = letters.arguments
kinds_for letters Outcome = option_to_list letters.outcome
kinds_for letters PartValues = letters.part_values

-- the kinds that a row takes and gives, the topmost last
abbrev pub kinds_taken : Letters → Row → List SlotKind
kinds_taken letters r = flat_map (kinds_for letters) r.takes

abbrev pub kinds_given : Letters → Row → List SlotKind
kinds_given letters r = flat_map (kinds_for letters) r.gives
