-- How the nodes of a body are written in canonical source: one after the other, each command with one space between its
-- parts, and ` /}` where it closes itself.
-- A print is `{e}` where e begins with `$`, else `{print e}`. Attributes stand in the order `desc`, `meaning`; a
-- meaning that is empty, an offset of 0 and a `data="all"` that isn't there are left out, and the kind of a block is always
-- written. A call without arguments closes itself. Each case of a message has one value.
-- Example: the print of 1 is `{print 1}`, and the call of `.a` without arguments `{call a /}`.
use Rattle.std.specs.Prelude.{ℕ, Bool, true, false, ◌==◌, List, [], ◌∷◌, ◌++◌, Option, Some, None, codes, if◌then◌else◌}
use Rattle.std.specs.Fmt.{decimal, signed_decimal}
use Rattle.soy_base.specs.declared.kind.Kind.{Kind}
use Rattle.soy_base.specs.declared.kind.Kind.TheVariants as kind
use Rattle.soy_tree.specs.Types.{Name}
use Rattle.soy_tree.specs.Expressions.{Expr}
use Rattle.soy_tree.specs.Nodes.{Node, Nodes, Otherwise, Arms, Cases, Arguments, Given, Message, Fallback, MessageBody}
use Rattle.soy_tree.specs.Nodes.{PluralCases, SelectCases, TextNode, Print, If, Switch, For, Let, LetBlock, Call}
use Rattle.soy_tree.specs.Nodes.{MessageNode, no_node, node, no_otherwise, otherwise, no_arm, arm, no_case, case}
use Rattle.soy_tree.specs.Nodes.{no_argument, argument, Plain, Block, message, no_fallback, fallback, Parts, Plural}
use Rattle.soy_tree.specs.Nodes.{Select, no_plural_case, plural_case, no_select_case, select_case}
use Rattle.soy_format.specs.FormattedExpression.{begins_with_variable, formatted_expr, formatted_values, variable_text}
use Rattle.soy_format.specs.FormattedString.{formatted_string}
use Rattle.soy_format.specs.FormattedText.{formatted_text}

-- an attribute and its value, after a space
abbrev pub attribute_text : List ℕ → List ℕ → List ℕ
attribute_text name value = codes " " ++ (name ++ (codes "=\"" ++ (value ++ codes "\"")))

abbrev pub kind_name : Kind → List ℕ
kind_name kind.Html = codes "html"
kind_name kind.Attributes = codes "attributes"
kind_name kind.Text = codes "text"

abbrev pub kind_text : Kind → List ℕ
kind_text k = attribute_text (codes "kind") (kind_name k)

-- the start of a print, by whether its expression begins with `$`
abbrev pub print_start : Bool → List ℕ
print_start begins_with_dollar = if begins_with_dollar then codes "{" else codes "{print "

abbrev pub phname_text : Option Name → List ℕ
phname_text None = []
phname_text (Some name) = attribute_text (codes "phname") name

abbrev pub index_text : Option Name → List ℕ
index_text None = []
index_text (Some name) = codes ", " ++ variable_text name

abbrev pub data_text : Bool → List ℕ
data_text all = if all then attribute_text (codes "data") (codes "all") else []

abbrev pub meaning_text : List ℕ → List ℕ
meaning_text [] = []
meaning_text (c ∷ cs) = attribute_text (codes "meaning") (c ∷ cs)

abbrev pub offset_text : ℕ → List ℕ
offset_text offset = if offset == 0 then [] else attribute_text (codes "offset") (decimal offset)

-- a command of a word and an expression
abbrev pub expr_command : List ℕ → Expr → List ℕ
expr_command word e = word ++ (formatted_expr e ++ codes "}")

-- the command of an arm
abbrev pub arm_text : Bool → Expr → List ℕ
arm_text first e = if first then expr_command (codes "{if ") e else expr_command (codes "{elseif ") e

abbrev pub print_text : Expr → Option Name → List ℕ
print_text e phname =
    print_start (begins_with_variable e) ++ (formatted_expr e ++ (phname_text phname ++ codes "}"))

abbrev pub for_text : Name → Option Name → Expr → List ℕ
for_text name index e = codes "{for " ++ (variable_text name ++ (index_text index ++ expr_command (codes " in ") e))

-- the expression of a command that closes itself
abbrev pub value_end : Expr → List ℕ
value_end e = codes ": " ++ (formatted_expr e ++ codes " /}")

abbrev pub let_text : Name → Expr → List ℕ
let_text name e = codes "{let " ++ (variable_text name ++ value_end e)

abbrev pub let_block_text : Name → Kind → List ℕ
let_block_text name k = codes "{let " ++ (variable_text name ++ (kind_text k ++ codes "}"))

abbrev pub call_text : Name → Bool → List ℕ
call_text name all = codes "{call " ++ (name ++ data_text all)

-- the end of a call's command, which closes itself where no param follows, and the command that closes it else
abbrev pub call_end : Arguments → List ℕ
call_end no_argument = codes " /}"
call_end (argument name given span rest) = codes "}"

abbrev pub call_close : Arguments → List ℕ
call_close no_argument = []
call_close (argument name given span rest) = codes "{/call}"

abbrev pub param_text : Name → Expr → List ℕ
param_text name e = codes "{param " ++ (name ++ value_end e)

abbrev pub param_block_text : Name → Kind → List ℕ
param_block_text name k = codes "{param " ++ (name ++ (kind_text k ++ codes "}"))

abbrev pub message_text : List ℕ → List ℕ → List ℕ → List ℕ
message_text word desc meaning = word ++ (attribute_text (codes "desc") desc ++ (meaning_text meaning ++ codes "}"))

abbrev pub plural_text : Expr → ℕ → List ℕ
plural_text e offset = codes "{plural " ++ (formatted_expr e ++ (offset_text offset ++ codes "}"))

abbrev pub case_text : List ℕ → List ℕ
case_text values = codes "{case " ++ (values ++ codes "}")

abbrev mutual
  pub formatted_node : Node → List ℕ
  formatted_node (TextNode text span) = formatted_text text
  formatted_node (Print e phname span) = print_text e phname
  formatted_node (If arms other span) =
      formatted_arms true arms ++ (formatted_otherwise (codes "{else}") other ++ codes "{/if}")
  formatted_node (Switch e cases other span) =
      expr_command (codes "{switch ") e
      ++ (formatted_cases cases ++ (formatted_otherwise (codes "{default}") other ++ codes "{/switch}"))
  formatted_node (For name index e body span) = for_text name index e ++ (formatted_nodes body ++ codes "{/for}")
  formatted_node (Let name e span) = let_text name e
  formatted_node (LetBlock name k body span) = let_block_text name k ++ (formatted_nodes body ++ codes "{/let}")
  formatted_node (Call name all given span) =
      call_text name all ++ (call_end given ++ (formatted_arguments given ++ call_close given))
  formatted_node (MessageNode m other span) =
      formatted_message (codes "{msg") m ++ (formatted_fallback other ++ codes "{/msg}")

  pub formatted_nodes : Nodes → List ℕ
  formatted_nodes no_node = []
  formatted_nodes (node n ns) = formatted_node n ++ formatted_nodes ns

  -- what stands in no other arm or case, after its command
  pub formatted_otherwise : List ℕ → Otherwise → List ℕ
  formatted_otherwise command no_otherwise = []
  formatted_otherwise command (otherwise body) = command ++ formatted_nodes body

  -- arms, by whether the first of them is the first of its if
  pub formatted_arms : Bool → Arms → List ℕ
  formatted_arms first no_arm = []
  formatted_arms first (arm e body arms) = arm_text first e ++ (formatted_nodes body ++ formatted_arms false arms)

  pub formatted_cases : Cases → List ℕ
  formatted_cases no_case = []
  formatted_cases (case values body cases) =
      case_text (formatted_values values) ++ (formatted_nodes body ++ formatted_cases cases)

  pub formatted_arguments : Arguments → List ℕ
  formatted_arguments no_argument = []
  formatted_arguments (argument name given span rest) = formatted_argument name given ++ formatted_arguments rest

  pub formatted_argument : Name → Given → List ℕ
  formatted_argument name (Plain e) = param_text name e
  formatted_argument name (Block k body) = param_block_text name k ++ (formatted_nodes body ++ codes "{/param}")

  pub formatted_message : List ℕ → Message → List ℕ
  formatted_message word (message desc meaning body span) =
      message_text word desc meaning ++ formatted_message_body body

  pub formatted_fallback : Fallback → List ℕ
  formatted_fallback no_fallback = []
  formatted_fallback (fallback m) = formatted_message (codes "{fallbackmsg") m

  pub formatted_message_body : MessageBody → List ℕ
  formatted_message_body (Parts ns) = formatted_nodes ns
  formatted_message_body (Plural e offset cases other) =
      plural_text e offset
      ++ (formatted_plural_cases cases ++ (codes "{default}" ++ (formatted_message_body other ++ codes "{/plural}")))
  formatted_message_body (Select e cases other) =
      expr_command (codes "{select ") e
      ++ (formatted_select_cases cases ++ (codes "{default}" ++ (formatted_message_body other ++ codes "{/select}")))

  pub formatted_plural_cases : PluralCases → List ℕ
  formatted_plural_cases no_plural_case = []
  formatted_plural_cases (plural_case n body cases) =
      case_text (signed_decimal n) ++ (formatted_message_body body ++ formatted_plural_cases cases)

  pub formatted_select_cases : SelectCases → List ℕ
  formatted_select_cases no_select_case = []
  formatted_select_cases (select_case word body cases) =
      case_text (formatted_string word) ++ (formatted_message_body body ++ formatted_select_cases cases)
