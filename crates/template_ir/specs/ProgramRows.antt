-- Worked rows: programs that stand for small trees, written by hand, which the checker runs.
--
-- Each is compiled from the file of a row of what templates give, with its places. The last has every command, in three
-- templates.
-- Example: the program of `{let $b kind="html"}<i>{$x}</i>{/let}{$b}{$b}` has six ops, three of them the block.
use Rattle.std.specs.Prelude.{ℕ, pos, true, false, List, [], ◌∷◌, ◌++◌, Option, Some, None, codes, map}
use Rattle.soy_base.specs.declared.direction.Dir.{Dir}
use Rattle.soy_base.specs.declared.direction.Dir.TheVariants as dir
use Rattle.soy_base.specs.declared.kind.Kind.{Kind}
use Rattle.soy_base.specs.declared.kind.Kind.TheVariants as kind
use Rattle.soy_base.specs.declared.place.Place.{Place}
use Rattle.soy_base.specs.declared.place.Place.TheVariants as place
use Rattle.plural_rules.specs.Category.{category_of}
use Rattle.plural_rules.specs.Condition.{Alternatives}
use Rattle.plural_rules.specs.declared.category.Category.{Category}
use Rattle.plural_rules.specs.declared.category.Category.TheVariants as category
use Rattle.soy_tree.specs.declared.expr.BinaryOp.TheVariants as binary
use Rattle.soy_tree.specs.Types.{Name, SoyType, HtmlType, IntType, ListType, StringType}
use Rattle.soy_tree.specs.Expressions.{Expr, Binary, IntLiteral, StringLiteral}
use Rattle.soy_tree.specs.MessageParts.{MsgParts, no_part, part}
use Rattle.soy_tree.specs.Nodes.{Node, Block, Call, For, If, Let, LetBlock, Parts, Plain, Select, Switch, argument, arm}
use Rattle.soy_tree.specs.Nodes.{case, no_argument, no_arm, no_case, no_select_case, otherwise, select_case}
use Rattle.soy_rules.specs.Templates.{declared}
use Rattle.soy_tree.specs.Trees.{Template, Tree}
use Rattle.soy_tree.specs.Values.{IntValue, ListValue, StringValue, item, no_item}
use Rattle.soy_rules.specs.Val.{Known}
use Rattle.soy_pieces.specs.Giving.{RunEnv}
use Rattle.soy_pieces.specs.Outcome.{Outcome}
use Rattle.soy_pieces.specs.Pieces.{RunContext, template_run}
use Rattle.soy_pieces.specs.RowTrees.{all_nodes, print_node, row_param, site_at, span_at, text_node, variable}
use Rattle.soy_pieces.specs.RunRows.{message_of, number_param, offset_part, row_rules, text_param}
use Rattle.template_ir.specs.Compiles.{other_arm, other_word}
use Rattle.soy_rules.specs.Language.{Language}
use Rattle.template_ir.specs.Ops.{Branch, Choice, Handed, Op, Program, Routine, CallOp, ForOp, HandedBlock, HandedSame}
use Rattle.template_ir.specs.Ops.{HandedValue, IfOp, LetBlockOp, LetOp, NumberOp, PluralOp, PrintOp, SelectOp, StaticOp}
use Rattle.template_ir.specs.Ops.{SwitchOp}
use Rattle.template_ir.specs.declared.op.Block as code_block
use Rattle.template_ir.specs.declared.op.ExactBlock.{ExactBlock}
use Rattle.template_ir.specs.declared.op.NamedBlock.{NamedBlock}
use Rattle.template_ir.specs.declared.op.WordBlock.{WordBlock}

abbrev pub block : ℕ → ℕ → code_block.Block
block first end = record { first = first; end = end }

-- a template of the namespace `t`
abbrev pub routine : List ℕ → Kind → List (Name × SoyType) → code_block.Block → Routine
routine name kind params body =
    record { name = codes "t." ++ name; kind = kind; private = false; params = map row_param params; body = body }

abbrev pub program_of : Dir → List (Category × Alternatives) → List Routine → List Op → Program
program_of direction rules templates ops =
    record { templates = templates; ops = ops; direction = direction; plural = rules; ordinal = rules }

-- the same of the source language
abbrev pub source_program : List (Name × SoyType) → code_block.Block → List Op → Program
source_program params body ops = program_of dir.Ltr [] (routine (codes "m") kind.Html params body ∷ []) ops

abbrev pub language : Dir → List (Category × Alternatives) → Option MsgParts → Language
language direction rules translation =
    record { translation = λ m. translation; direction = direction; plural = rules; ordinal = rules }

abbrev pub source_language : Language
source_language = language dir.Ltr [] None

abbrev pub print_op : List ℕ → Place → Op
print_op name point = PrintOp (variable 0 name) point

-- ---- blocks

-- of `{let $b kind="html"}<i>{$x}</i>{/let}{$b}{$b}`
abbrev pub block_program : Program
block_program = source_program (text_param (codes "x")) (block 3 6)
    (StaticOp (codes "<i>") ∷ print_op (codes "x") place.Text ∷ StaticOp (codes "</i>")
    ∷ LetBlockOp (codes "b") kind.Html (block 0 3)
    ∷ print_op (codes "b") place.Text ∷ print_op (codes "b") place.Text ∷ [])

-- of `{let $b kind="attributes"}class="{$k}" disabled{/let}<input {$b}>`
abbrev pub attributes_program : Program
attributes_program = source_program (text_param (codes "k")) (block 3 7)
    (StaticOp (codes "class=\"") ∷ print_op (codes "k") place.Attr ∷ StaticOp (codes "\" disabled")
    ∷ LetBlockOp (codes "b") kind.Attributes (block 0 3)
    ∷ StaticOp (codes "<input ") ∷ print_op (codes "b") place.Tag ∷ StaticOp (codes ">") ∷ [])

-- ---- calls

abbrev pub handed_value : Name → Expr → List Handed
handed_value name e = record { name = name; by = HandedValue e } ∷ []

-- a call of the template of a number, without blocks
abbrev pub call_op : ℕ → ℕ → Name → Expr → Op
call_op at number name e = CallOp (record {
  template = number;
  given = handed_value name e;
  place = place.Text;
  site = site_at at;
})

abbrev pub one_less : Expr
one_less = Binary binary.Sub (variable 30 (codes "n")) (IntLiteral (pos 1) (span_at 35)) (span_at 30)

abbrev pub if_some : List Branch
if_some = record {
  when = Binary binary.Gt (variable 4 (codes "n")) (IntLiteral (pos 0) (span_at 9)) (span_at 4);
  body = block 0 2;
} ∷ []

-- of `{if $n > 0}a{call m}{param n: $n - 1 /}{/call}{/if}`
abbrev pub calls_program : Program
calls_program = source_program number_param (block 2 3)
    (StaticOp (codes "a") ∷ call_op 12 0 (codes "n") one_less ∷ IfOp if_some None ∷ [])

-- ---- messages

-- the arm of 1
abbrev pub only_one : List ExactBlock
only_one = record { is = pos 1; body = block 0 1 } ∷ []

-- of `{msg desc="d"}{plural $n offset="1"}{case 1}only{default}{$n} in all{/plural}{/msg}`
abbrev pub plural_program : Program
plural_program = source_program number_param (block 3 4)
    (StaticOp (codes "only") ∷ print_op (codes "n") place.Text ∷ StaticOp (codes " in all")
    ∷ PluralOp (variable 0 (codes "n")) 1 false only_one (other_arm (block 1 3) ∷ []) ∷ [])

abbrev pub named_arms : List NamedBlock
named_arms = record { category = category.One; body = block 1 4 } ∷ other_arm (block 4 5) ∷ []

-- of a message whose translation is `{N, plural, offset:1 =1 {only} one {and # more} other {all}}`
abbrev pub offset_program : Program
offset_program = program_of dir.Rtl row_rules (routine (codes "m") kind.Html number_param (block 5 6) ∷ [])
    (StaticOp (codes "only") ∷ StaticOp (codes "and ") ∷ NumberOp place.Text ∷ StaticOp (codes " more")
    ∷ StaticOp (codes "all")
    ∷ PluralOp (variable 0 (codes "n")) 1 false only_one named_arms ∷ [])

abbrev pub offset_language : Language
offset_language = language dir.Rtl row_rules (Some (part offset_part no_part))

-- ---- every command

abbrev pub main_params : List (Name × SoyType)
main_params = (codes "x", StringType) ∷ (codes "n", IntType) ∷ (codes "l", ListType StringType) ∷ []

abbrev pub shown_params : List (Name × SoyType)
shown_params = (codes "p", HtmlType) ∷ (codes "q", StringType) ∷ (codes "n", IntType) ∷ []

abbrev pub one : Expr
one = IntLiteral (pos 1) (span_at 0)

abbrev pub is_one_expr : Expr
is_one_expr = Binary binary.Eq (variable 0 (codes "n")) one (span_at 0)

abbrev pub words : List Expr
words = StringLiteral (codes "7") (span_at 0) ∷ StringLiteral (codes "8") (span_at 0) ∷ []

-- `{if $n == 1}a{else}b{/if}{switch $x}{case '7', '8'}c{default}d{/switch}{for $s, $i in $l}{$i}{$s}{/for}`
-- `{let $k: $n /}{let $t kind="text"}{$k}2{/let}{$t}`, then a call of c with `data="all"` and with
-- `{param p kind="html"}<i>{$x}</i>{/param}{param q kind="text"}{$n}{/param}`, then
-- `{msg}{select $x}{case '7'}P{default}D{/select}{/msg}{call u}{param n: 1 /}{/call}`
abbrev pub main_body : List Node
main_body =
    If (arm is_one_expr (all_nodes (text_node 0 (codes "a") ∷ [])) no_arm)
    (otherwise (all_nodes (text_node 0 (codes "b") ∷ []))) (span_at 0)
    ∷ Switch (variable 0 (codes "x")) (case words (all_nodes (text_node 0 (codes "c") ∷ [])) no_case)
    (otherwise (all_nodes (text_node 0 (codes "d") ∷ []))) (span_at 0)
    ∷ For (codes "s") (Some (codes "i")) (variable 0 (codes "l"))
    (all_nodes (print_node 0 (codes "i") ∷ print_node 0 (codes "s") ∷ [])) (span_at 0)
    ∷ Let (codes "k") (variable 0 (codes "n")) (span_at 0)
    ∷ LetBlock (codes "t") kind.Text (all_nodes (print_node 0 (codes "k") ∷ text_node 0 (codes "2") ∷ [])) (span_at 0)
    ∷ print_node 0 (codes "t")
    ∷ Call (codes "c") true
    (argument (codes "p") (Block kind.Html (all_nodes (text_node 0 (codes "<i>") ∷ print_node 0 (codes "x")
    ∷ text_node 0 (codes "</i>") ∷ []))) (span_at 0)
    (argument (codes "q") (Block kind.Text (all_nodes (print_node 0 (codes "n") ∷ []))) (span_at 0) no_argument))
    (span_at 40)
    ∷ message_of (Select (variable 0 (codes "x"))
    (select_case (codes "7") (Parts (all_nodes (text_node 0 (codes "P") ∷ []))) no_select_case)
    (Parts (all_nodes (text_node 0 (codes "D") ∷ []))))
    ∷ Call (codes "u") false (argument (codes "n") (Plain one) (span_at 0) no_argument) (span_at 60) ∷ []

-- `{$p}{$q}{$n}`
abbrev pub shown_body : List Node
shown_body = print_node 0 (codes "p") ∷ print_node 0 (codes "q") ∷ print_node 0 (codes "n") ∷ []

abbrev pub template : List ℕ → Kind → List (Name × SoyType) → List Node → Template
template name kind params body = record {
  name = name;
  kind = kind;
  private = false;
  params = map row_param params;
  body = all_nodes body;
  span = span_at 0;
}

abbrev pub every_trees : List Tree
every_trees = record {
  namespace = codes "t";
  templates = template (codes "m") kind.Html main_params main_body
      ∷ template (codes "c") kind.Html shown_params shown_body
      ∷ template (codes "u") kind.Text number_param (print_node 0 (codes "n") ∷ []) ∷ [];
} ∷ []

abbrev pub every_places : List Place
every_places =
    place.Text ∷ place.Text ∷ place.Plain ∷ place.Text ∷ place.Text ∷ place.Text ∷ place.Plain ∷ place.Text
    ∷ place.Text ∷ place.Text ∷ place.Text ∷ place.Plain ∷ []

abbrev pub every_branches : List Branch
every_branches = record { when = is_one_expr; body = block 0 1 } ∷ []

abbrev pub every_choices : List Choice
every_choices = record { values = words; body = block 2 3 } ∷ []

abbrev pub every_handed : List Handed
every_handed =
    record { name = codes "p"; by = HandedBlock kind.Html (block 8 11) }
    ∷ record { name = codes "q"; by = HandedBlock kind.Text (block 11 12) }
    ∷ record { name = codes "n"; by = HandedSame } ∷ []

abbrev pub every_words : List WordBlock
every_words = record { is = codes "7"; body = block 12 13 } ∷ []

abbrev pub every_program : Program
every_program = program_of dir.Ltr []
    (routine (codes "m") kind.Html main_params (block 14 23)
    ∷ routine (codes "c") kind.Html shown_params (block 23 26)
    ∷ routine (codes "u") kind.Text number_param (block 26 27) ∷ [])
    (StaticOp (codes "a") ∷ StaticOp (codes "b") ∷ StaticOp (codes "c") ∷ StaticOp (codes "d")
    ∷ print_op (codes "i") place.Text ∷ print_op (codes "s") place.Text
    ∷ print_op (codes "k") place.Plain ∷ StaticOp (codes "2")
    ∷ StaticOp (codes "<i>") ∷ print_op (codes "x") place.Text ∷ StaticOp (codes "</i>")
    ∷ print_op (codes "n") place.Plain
    ∷ StaticOp (codes "P") ∷ StaticOp (codes "D")
    ∷ IfOp every_branches (Some (block 1 2))
    ∷ SwitchOp (variable 0 (codes "x")) every_choices (Some (block 3 4))
    ∷ ForOp (codes "s") (Some (codes "i")) (variable 0 (codes "l")) (block 4 6)
    ∷ LetOp (codes "k") (variable 0 (codes "n"))
    ∷ LetBlockOp (codes "t") kind.Text (block 6 8)
    ∷ print_op (codes "t") place.Text
    ∷ CallOp (record {
      template = 1;
      given = every_handed;
      place = place.Text;
      site = site_at 40;
    })
    ∷ SelectOp (variable 0 (codes "x")) (every_words ++ (other_word (block 13 14) ∷ []))
    ∷ call_op 60 2 (codes "n") one
    ∷ print_op (codes "p") place.Text ∷ print_op (codes "q") place.Text ∷ print_op (codes "n") place.Text
    ∷ print_op (codes "n") place.Plain ∷ [])

abbrev pub every_env : RunEnv
every_env =
    (codes "x", Known (StringValue (codes "7"))) ∷ (codes "n", Known (IntValue (pos 1)))
    ∷ (codes "l", Known (ListValue (item (StringValue (codes "7")) (item (StringValue (codes "8")) no_item)))) ∷ []

abbrev pub every_context : RunContext
every_context = record {
  file = 0;
  namespace = [];
  params = [];
  declared = declared every_trees;
  translation = λ m. None;
  category = λ ordinal n. category_of [] n;
  direction = dir.Ltr;
}

abbrev pub every_outcome : Outcome
every_outcome = template_run every_context (record {
  file = 0;
  namespace = codes "t";
  template = template (codes "m") kind.Html main_params main_body;
}) every_env
