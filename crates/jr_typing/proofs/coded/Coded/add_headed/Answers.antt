use Rattle.std.proofs.Common.{◌+◌, ap, ◌∙◌}
use Rattle.jr_ast.specs.Units as unit
use Rattle.jr_typing_rules.specs.Answers.{Good}
use Rattle.jr_typing_rules.specs.Declarations.{clauses_before_body}
use Rattle.jr_typing.specs.MadeViews.{view_coded, view_typed}
use Rattle.jr_typing.proofs.Headings.{headed_made, method_pushed}
use Rattle.jr_typing.proofs.coded.Coded.add_headed.Goals as goal

pub returns : goal.returns
returns c =
    let m = unit.view_method c.args.method.now in
    headed_made c.args.home.now.names.now.names c.args.home.now.own (view_coded c.args.self.now) m c.args.of c.args.types.now (view_typed c.in_ok-typed.typed) c.in_ok-typed.ensures
    ∙ ap Good (method_pushed c.args.self.now m c.in_ok-typed.typed _ _ c.append.new.self c.push.new.self.items
    c.in_ok-self-2.ensures
    (c.in_ok-self.ensures ∙ ap (λ n. n + c.in_ok-typed.typed.method.scopes.asserts) c.in_ok-before_body.ensures ∙ ap (λ n. c.args.self.now.counts.clauses + clauses_before_body m + n) c.in_ok-typed.typed.method.scopes.in_scope.count)
    c.in_ok-append.ensures c.in_ok-push.ensures.items)
