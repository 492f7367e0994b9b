-- The code of methods and of a program.
use Rattle.std.specs.Prelude.{List, [], ◌∷◌, ◌++◌, map, length, Option, Some, None}
use Rattle.std.specs.List.{repeat}
use Rattle.jr_base.specs.declared.kind.SlotKind.{SlotKind}
use Rattle.jr_base.specs.declared.kind.SlotKind.TheVariants as kinds
use Rattle.jr_base.specs.Content.{default_value}
use Rattle.jr_program.specs.Programs.{Program, Method}
use Rattle.jr_code.specs.Instructions.{Instruction, Push, ReturnNothing, ReturnTop, MethodCode, Code}
use Rattle.jr_lowering.specs.ExprCode.{Setting}
use Rattle.jr_lowering.specs.StatementCode.{no_monitors, statement_size, statement_code, statement_regions, monitors_in}

abbrev pub setting_of : Program → Method → Setting
setting_of program method = record { program = program; is_static = method.is_static; variables = length (method.formals ++ method.locals) }

-- the end of a method's body: where the method has a result, its default, which no checked program gives back
abbrev pub end_code : Option SlotKind → List Instruction
end_code None = ReturnNothing ∷ []
end_code (Some k) = Push (default_value k) ∷ (ReturnTop ∷ [])

abbrev pub body_code : Program → Method → List Instruction
body_code program method =
    let s = setting_of program method in
    let n = statement_size program method.body no_monitors in
    statement_code s method.body no_monitors 0 n n ++ end_code method.result

-- Behind the variables stand the objects of the monitors that the body may hold.
abbrev pub method_code : Program → Method → MethodCode
method_code program method = record {
  class = method.class;
  is_static = method.is_static;
  is_synchronized = method.is_synchronized;
  formals = method.formals;
  result = method.result;
  locals = method.locals ++ repeat (monitors_in method.body) (kinds.Ref ∷ []);
  instructions = body_code program method;
  regions = statement_regions (setting_of program method) method.body no_monitors 0;
}

abbrev pub code_of : Program → Code
code_of program = record { methods = map (method_code program) program.methods }
