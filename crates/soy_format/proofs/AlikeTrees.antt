-- What is written for a tree reads none of its spans.
use Rattle.std.proofs.Common.{◌≡◌, ℕ, Bool, true, false, List, [], ◌∷◌, ◌++◌, map, refl, sym, ap, ◌∙◌}
use Rattle.std.specs.Prelude.{codes}
use Rattle.soy_base.specs.Characters.{line_feed}
use Rattle.soy_tree.specs.Expressions.{Expr, NullLiteral, BoolLiteral, IntLiteral, StringLiteral, Variable, Member}
use Rattle.soy_tree.specs.Expressions.{Index, Minus, Not, Binary, Coalesce, Conditional}
use Rattle.soy_tree.specs.Nodes.{Node, Nodes, Otherwise, Arms, Cases, Arguments, Given, Message, Fallback, MessageBody}
use Rattle.soy_tree.specs.Nodes.{PluralCases, SelectCases, TextNode, Print, If, Switch, For, Let, LetBlock, Call}
use Rattle.soy_tree.specs.Nodes.{MessageNode, no_node, node, no_otherwise, otherwise, no_arm, arm, no_case, case}
use Rattle.soy_tree.specs.Nodes.{no_argument, argument, Plain, Block, message, no_fallback, fallback, Parts, Plural}
use Rattle.soy_tree.specs.Nodes.{Select, no_plural_case, plural_case, no_select_case, select_case}
use Rattle.soy_tree.specs.Trees.{Param, Template, Tree}
use Rattle.soy_format.specs.Levels.{level_of}
use Rattle.soy_format.specs.FormattedExpression.{begins_with_variable, formatted_expr, formatted_values, minus_text}
use Rattle.soy_format.specs.FormattedExpression.{more_values}
use Rattle.soy_format.specs.FormattedBody.{call_close, call_end, formatted_argument, formatted_arguments}
use Rattle.soy_format.specs.FormattedBody.{formatted_arms}
use Rattle.soy_format.specs.FormattedBody.{formatted_cases, formatted_fallback, formatted_message}
use Rattle.soy_format.specs.FormattedBody.{formatted_message_body, formatted_node, formatted_nodes, formatted_otherwise}
use Rattle.soy_format.specs.FormattedBody.{formatted_plural_cases, formatted_select_cases}
use Rattle.soy_format.specs.Formatted.{formatted_template, formatted_templates, formatted_tree, param_line, param_lines}
use Rattle.soy_format.specs.WithoutSpans.{AreAlike, arguments_without_spans, arms_without_spans, body_without_spans}
use Rattle.soy_format.specs.WithoutSpans.{cases_without_spans, expr_without_spans, fallback_without_spans}
use Rattle.soy_format.specs.WithoutSpans.{given_without_spans, message_without_spans, node_without_spans}
use Rattle.soy_format.specs.WithoutSpans.{nodes_without_spans, otherwise_without_spans, param_without_spans}
use Rattle.soy_format.specs.WithoutSpans.{plural_cases_without_spans, select_cases_without_spans}
use Rattle.soy_format.specs.WithoutSpans.{template_without_spans, tree_without_spans}

level_same : (e : Expr) → level_of (expr_without_spans e) ≡ level_of e
level_same (NullLiteral span) = refl
level_same (BoolLiteral b span) = refl
level_same (IntLiteral n span) = refl
level_same (StringLiteral text span) = refl
level_same (Variable name span) = refl
level_same (Member e name takes_null span) = refl
level_same (Index e i takes_null span) = refl
level_same (Minus e span) = refl
level_same (Not e span) = refl
level_same (Binary o a b span) = refl
level_same (Coalesce a b span) = refl
level_same (Conditional c a b span) = refl

minus_same : (e : Expr) → minus_text (expr_without_spans e) ≡ minus_text e
minus_same (NullLiteral span) = refl
minus_same (BoolLiteral b span) = refl
minus_same (IntLiteral n span) = refl
minus_same (StringLiteral text span) = refl
minus_same (Variable name span) = refl
minus_same (Member e name takes_null span) = refl
minus_same (Index e i takes_null span) = refl
minus_same (Minus e span) = refl
minus_same (Not e span) = refl
minus_same (Binary o a b span) = refl
minus_same (Coalesce a b span) = refl
minus_same (Conditional c a b span) = refl

begins_same : (e : Expr) → begins_with_variable (expr_without_spans e) ≡ begins_with_variable e
begins_same (NullLiteral span) = refl
begins_same (BoolLiteral b span) = refl
begins_same (IntLiteral n span) = refl
begins_same (StringLiteral text span) = refl
begins_same (Variable name span) = refl
begins_same (Member e name takes_null span) = rw (level_same e, begins_same e) refl
begins_same (Index e i takes_null span) = rw (level_same e, begins_same e) refl
begins_same (Minus e span) = refl
begins_same (Not e span) = refl
begins_same (Binary o a b span) = rw (level_same a, begins_same a) refl
begins_same (Coalesce a b span) = rw (level_same a, begins_same a) refl
begins_same (Conditional c a b span) = rw (level_same c, begins_same c) refl

expr_same : (e : Expr) → formatted_expr (expr_without_spans e) ≡ formatted_expr e
expr_same (NullLiteral span) = refl
expr_same (BoolLiteral b span) = refl
expr_same (IntLiteral n span) = refl
expr_same (StringLiteral text span) = refl
expr_same (Variable name span) = refl
expr_same (Member e name takes_null span) = rw (level_same e, expr_same e) refl
expr_same (Index e i takes_null span) = rw (level_same e, expr_same e, expr_same i) refl
expr_same (Minus e span) = rw (minus_same e, level_same e, expr_same e) refl
expr_same (Not e span) = rw (level_same e, expr_same e) refl
expr_same (Binary o a b span) = rw (level_same a, expr_same a, level_same b, expr_same b) refl
expr_same (Coalesce a b span) = rw (level_same a, expr_same a, expr_same b) refl
expr_same (Conditional c a b span) = rw (level_same c, expr_same c, expr_same a, expr_same b) refl

more_values_same : (es : List Expr) → more_values (map expr_without_spans es) ≡ more_values es
more_values_same [] = refl
more_values_same (e ∷ es) = rw (expr_same e, more_values_same es) refl

values_same : (es : List Expr) → formatted_values (map expr_without_spans es) ≡ formatted_values es
values_same [] = refl
values_same (e ∷ es) = rw (expr_same e, more_values_same es) refl

end_same : (given : Arguments) → call_end (arguments_without_spans given) ≡ call_end given
end_same no_argument = refl
end_same (argument name given span rest) = refl

close_same : (given : Arguments) → call_close (arguments_without_spans given) ≡ call_close given
close_same no_argument = refl
close_same (argument name given span rest) = refl

mutual
  node_same : (n : Node) → formatted_node (node_without_spans n) ≡ formatted_node n
  node_same (TextNode text span) = refl
  node_same (Print e phname span) = rw (begins_same e, expr_same e) refl
  node_same (If arms other span) = rw (arms_same true arms, otherwise_same _ other) refl
  node_same (Switch e cases other span) = rw (expr_same e, cases_same cases, otherwise_same _ other) refl
  node_same (For name index e body span) = rw (expr_same e, nodes_same body) refl
  node_same (Let name e span) = rw (expr_same e) refl
  node_same (LetBlock name kind body span) = rw (nodes_same body) refl
  node_same (Call name all given span) = rw (end_same given, arguments_same given, close_same given) refl
  node_same (MessageNode m other span) = rw (message_same _ m, fallback_same other) refl

  nodes_same : (ns : Nodes) → formatted_nodes (nodes_without_spans ns) ≡ formatted_nodes ns
  nodes_same no_node = refl
  nodes_same (node n ns) = rw (node_same n, nodes_same ns) refl

  otherwise_same : (command : List ℕ) (o : Otherwise)
      → formatted_otherwise command (otherwise_without_spans o) ≡ formatted_otherwise command o
  otherwise_same command no_otherwise = refl
  otherwise_same command (otherwise body) = rw (nodes_same body) refl

  arms_same : (first : Bool) (arms : Arms) → formatted_arms first (arms_without_spans arms) ≡ formatted_arms first arms
  arms_same first no_arm = refl
  arms_same first (arm e body arms) = rw (expr_same e, nodes_same body, arms_same false arms) refl

  cases_same : (cases : Cases) → formatted_cases (cases_without_spans cases) ≡ formatted_cases cases
  cases_same no_case = refl
  cases_same (case values body cases) = rw (values_same values, nodes_same body, cases_same cases) refl

  arguments_same : (given : Arguments)
      → formatted_arguments (arguments_without_spans given) ≡ formatted_arguments given
  arguments_same no_argument = refl
  arguments_same (argument name given span rest) = rw (argument_same name given, arguments_same rest) refl

  argument_same : (name : List ℕ) (given : Given)
      → formatted_argument name (given_without_spans given) ≡ formatted_argument name given
  argument_same name (Plain e) = rw (expr_same e) refl
  argument_same name (Block kind body) = rw (nodes_same body) refl

  message_same : (word : List ℕ) (m : Message)
      → formatted_message word (message_without_spans m) ≡ formatted_message word m
  message_same word (message desc meaning body span) = rw (body_same body) refl

  fallback_same : (f : Fallback) → formatted_fallback (fallback_without_spans f) ≡ formatted_fallback f
  fallback_same no_fallback = refl
  fallback_same (fallback m) = message_same _ m

  body_same : (b : MessageBody) → formatted_message_body (body_without_spans b) ≡ formatted_message_body b
  body_same (Parts ns) = nodes_same ns
  body_same (Plural e offset cases other) = rw (expr_same e, plural_cases_same cases, body_same other) refl
  body_same (Select e cases other) = rw (expr_same e, select_cases_same cases, body_same other) refl

  plural_cases_same : (cases : PluralCases)
      → formatted_plural_cases (plural_cases_without_spans cases) ≡ formatted_plural_cases cases
  plural_cases_same no_plural_case = refl
  plural_cases_same (plural_case n body cases) = rw (body_same body, plural_cases_same cases) refl

  select_cases_same : (cases : SelectCases)
      → formatted_select_cases (select_cases_without_spans cases) ≡ formatted_select_cases cases
  select_cases_same no_select_case = refl
  select_cases_same (select_case word body cases) = rw (body_same body, select_cases_same cases) refl

params_same : (ps : List Param) → param_lines (map param_without_spans ps) ≡ param_lines ps
params_same [] = refl
params_same (p ∷ ps) = ap (λ (l : List ℕ). param_line p ++ l) (params_same ps)

template_same : (t : Template) → formatted_template (template_without_spans t) ≡ formatted_template t
template_same t = rw (params_same t.params, nodes_same t.body) refl

templates_same : (ts : List Template)
    → formatted_templates (map template_without_spans ts) ≡ formatted_templates ts
templates_same [] = refl
templates_same (t ∷ ts) =
    ap (λ (l : List ℕ). line_feed ∷ (l ++ formatted_templates (map template_without_spans ts))) (template_same t)
    ∙ ap (λ (l : List ℕ). line_feed ∷ (formatted_template t ++ l)) (templates_same ts)

tree_same : (t : Tree) → formatted_tree (tree_without_spans t) ≡ formatted_tree t
tree_same t =
    ap (λ (l : List ℕ). codes "{namespace " ++ (t.namespace ++ (codes "}\n" ++ l))) (templates_same t.templates)

-- trees that are alike are written alike
pub alike_formats : (a b : Tree) → AreAlike a b → formatted_tree a ≡ formatted_tree b
alike_formats a b e = sym (tree_same a) ∙ (ap formatted_tree e ∙ tree_same b)
