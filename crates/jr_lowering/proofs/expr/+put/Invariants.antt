use Rattle.std.proofs.Common.{◌≡◌, ◌+◌, ◌++◌, map, drop}
use Rattle.jr_program.specs.UnitViews.{program_of}
use Rattle.jr_program.specs.ExprViews.{exprs, view_expr, view_suffix}
use Rattle.jr_lowering.specs.ExprCode.{exprs_code, exprs_size}
use Rattle.jr_lowering.specs.SuffixCode.{suffixes_code, suffixes_size}
use Rattle.jr_lowering.specs.Emitted.{setting_with}
use Rattle.jr_lowering.proofs.expr.+put.Given as goal

-- what stands and what is still to come are the whole
abbrev pub invariant-put_exprs-loop-expr : goal.invariant-put_exprs-loop-expr
invariant-put_exprs-loop-expr l =
    record {
      code : l.code ++ exprs_code (setting_with (program_of l.unit) l.locals) (exprs (map view_expr (drop l.expr-index l.all))) l.next
          ≡ l.initial.code ++ exprs_code (setting_with (program_of l.unit) l.locals) (exprs (map view_expr l.all)) l.at;
      place : l.next + exprs_size (program_of l.unit) (exprs (map view_expr (drop l.expr-index l.all)))
          ≡ l.at + exprs_size (program_of l.unit) (exprs (map view_expr l.all));
    }

abbrev pub invariant-put_suffixes-loop-suffix : goal.invariant-put_suffixes-loop-suffix
invariant-put_suffixes-loop-suffix l =
    record {
      code : l.code ++ suffixes_code (setting_with (program_of l.unit) l.locals) (map view_suffix (drop l.suffix-index l.all)) l.next
          ≡ l.initial.code ++ suffixes_code (setting_with (program_of l.unit) l.locals) (map view_suffix l.all) l.at;
      place : l.next + suffixes_size (program_of l.unit) (map view_suffix (drop l.suffix-index l.all))
          ≡ l.at + suffixes_size (program_of l.unit) (map view_suffix l.all);
    }
