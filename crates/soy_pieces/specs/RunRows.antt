-- Worked rows: what small templates give under data, which the checker computes.
--
-- Each row is one template of kind html, `m` of the namespace `t`, with its parameters and its body, the translation
-- that each message has, if any, and the variables.
-- Example: the body `{let $b kind="html"}<i>{$x}</i>{/let}{$b}{$b}` with x `q` gives the pieces of the block twice.
use Rattle.std.specs.Prelude.{ℕ, ℤ, pos, true, false, List, [], ◌∷◌, Option, Some, None, codes, map}
use Rattle.soy_base.specs.declared.direction.Dir.{Dir}
use Rattle.soy_base.specs.declared.direction.Dir.TheVariants as dir
use Rattle.soy_base.specs.declared.kind.Kind.TheVariants as kind
use Rattle.plural_rules.specs.Category.{category_of}
use Rattle.plural_rules.specs.Condition.{Alternatives, Relation}
use Rattle.plural_rules.specs.declared.category.Category.{Category}
use Rattle.plural_rules.specs.declared.category.Category.TheVariants as category
use Rattle.plural_rules.specs.declared.condition.Comparison.{Comparison}
use Rattle.plural_rules.specs.declared.condition.Operand.TheVariants as operand
use Rattle.soy_base.specs.Piece.{Piece, Static, Value}
use Rattle.soy_tree.specs.declared.expr.BinaryOp.TheVariants as op
use Rattle.soy_tree.specs.Types.{Name, SoyType, IntType, StringType}
use Rattle.soy_tree.specs.Values.{IntValue, StringValue}
use Rattle.soy_rules.specs.Val.{Known}
use Rattle.soy_tree.specs.Expressions.{Binary, IntLiteral}
use Rattle.soy_tree.specs.Nodes.{MessageBody, Node, If, LetBlock, Call, MessageNode, no_node, node, no_otherwise}
use Rattle.soy_tree.specs.Nodes.{no_arm, arm, no_argument, argument, Plain, message, no_fallback, Parts, Plural}
use Rattle.soy_tree.specs.Nodes.{no_plural_case, plural_case}
use Rattle.soy_tree.specs.MessageParts.{MsgPart, MsgParts, NumberPart, PluralPart, TextPart, no_exact_arm, exact_arm}
use Rattle.soy_tree.specs.MessageParts.{no_named_arm, named_arm, no_part, part}
use Rattle.soy_rules.specs.Templates.{Declared, declared}
use Rattle.soy_tree.specs.Trees.{Tree}
use Rattle.soy_pieces.specs.Giving.{RunEnv}
use Rattle.soy_pieces.specs.Outcome.{Outcome, RunEnd, end_of_outcome, pieces_of_outcome}
use Rattle.soy_pieces.specs.Meaning.{meaning}
use Rattle.soy_pieces.specs.Pieces.{RunContext, template_run}
use Rattle.soy_pieces.specs.RowTrees.{all_nodes, print_node, row_param, span_at, text_node, variable}

abbrev pub row_template : List (Name × SoyType) → List Node → Declared
row_template params body = record {
  file = 0;
  namespace = codes "t";
  template = record {
    name = codes "m";
    kind = kind.Html;
    private = false;
    params = map row_param params;
    body = all_nodes body;
    span = span_at 0;
  };
}

-- the file of a row
abbrev pub row_trees : List (Name × SoyType) → List Node → List Tree
row_trees params body = record { namespace = codes "t"; templates = (row_template params body).template ∷ [] } ∷ []

abbrev pub number_param : List (Name × SoyType)
number_param = (codes "n", IntType) ∷ []

abbrev pub text_param : List ℕ → List (Name × SoyType)
text_param name = (name, StringType) ∷ []

-- a direction, rules of categories for ordinals and for counts alike, and the translation of each message
abbrev pub context_of : Dir → List (Category × Alternatives) → Option MsgParts → List (Name × SoyType) → List Node →
    RunContext
context_of direction rules translation params body = record {
  file = 0;
  namespace = [];
  params = [];
  declared = row_template params body ∷ [];
  translation = λ m. translation;
  category = λ ordinal n. category_of rules n;
  direction = direction;
}

abbrev pub row_context : List (Name × SoyType) → List Node → RunContext
row_context = context_of dir.Ltr [] None

abbrev pub row_outcome : List (Name × SoyType) → List Node → RunEnv → Outcome
row_outcome params body env = template_run (row_context params body) (row_template params body) env

abbrev pub pieces_and_end : Outcome → List Piece × RunEnd
pieces_and_end o = (pieces_of_outcome o, end_of_outcome o)

abbrev pub text_env : List ℕ → List ℕ → RunEnv
text_env name text = (name, Known (StringValue text)) ∷ []

abbrev pub number_env : ℤ → RunEnv
number_env n = (codes "n", Known (IntValue n)) ∷ []

-- `{let $b kind="html"}<i>{$x}</i>{/let}{$b}{$b}`
abbrev pub block_body : List Node
block_body =
    LetBlock (codes "b") kind.Html
    (all_nodes (text_node 0 (codes "<i>") ∷ print_node 0 (codes "x") ∷ text_node 0 (codes "</i>") ∷ [])) (span_at 0)
    ∷ print_node 0 (codes "b") ∷ print_node 0 (codes "b") ∷ []

abbrev pub block_twice : List ℕ → Outcome
block_twice text = row_outcome (text_param (codes "x")) block_body (text_env (codes "x") text)

abbrev pub block_pieces : List ℕ → List Piece
block_pieces value = Static (codes "<i>") ∷ Value value ∷ Static (codes "</i>") ∷ []

-- `{let $b kind="attributes"}class="{$k}" disabled{/let}<input {$b}>`
abbrev pub attributes_body : List Node
attributes_body =
    LetBlock (codes "b") kind.Attributes
    (all_nodes (text_node 0 (codes "class=\"") ∷ print_node 0 (codes "k") ∷ text_node 0 (codes "\" disabled") ∷ []))
    (span_at 0)
    ∷ text_node 0 (codes "<input ") ∷ print_node 0 (codes "b") ∷ text_node 0 (codes ">") ∷ []

-- with k `a"b`
abbrev pub attributes_block : Outcome
attributes_block = row_outcome (text_param (codes "k")) attributes_body (text_env (codes "k") (codes "a\"b"))

abbrev pub input_pieces : List Piece
input_pieces =
    Static (codes "<input ") ∷ Static (codes "class=\"") ∷ Value (codes "a&quot;b") ∷ Static (codes "\" disabled")
    ∷ Static (codes ">") ∷ []

-- `{if $n > 0}a{call m}{param n: $n - 1 /}{/call}{/if}`, whose call is at offset 12
abbrev pub calls_body : List Node
calls_body =
    If (arm (Binary op.Gt (variable 4 (codes "n")) (IntLiteral (pos 0) (span_at 9)) (span_at 4))
    (node (text_node 11 (codes "a")) (node (Call (codes "m") false (argument (codes "n")
    (Plain (Binary op.Sub (variable 30 (codes "n")) (IntLiteral (pos 1) (span_at 35)) (span_at 30))) (span_at 20)
    no_argument) (span_at 12)) no_node)) no_arm) no_otherwise (span_at 0) ∷ []

abbrev pub calls : ℤ → Outcome
calls n = row_outcome number_param calls_body (number_env n)

abbrev pub message_of : MessageBody → Node
message_of body = MessageNode (message (codes "d") [] body (span_at 0)) no_fallback (span_at 0)

-- `{msg desc="d"}{plural $n offset="1"}{case 1}only{default}{$n} in all{/plural}{/msg}`
abbrev pub source_body : List Node
source_body =
    message_of (Plural (variable 0 (codes "n")) 1
    (plural_case (pos 1) (Parts (all_nodes (text_node 0 (codes "only") ∷ []))) no_plural_case)
    (Parts (all_nodes (print_node 0 (codes "n") ∷ text_node 0 (codes " in all") ∷ [])))) ∷ []

abbrev pub source_plural : ℤ → Outcome
source_plural n = row_outcome number_param source_body (number_env n)

-- `n = first..last`, or the same of the remainder
abbrev pub within : Option ℕ → ℕ → ℕ → Alternatives
within modulus first last =
    let comparison : Comparison = record { operand = operand.N; modulus = modulus; equal = true } in
    let relation : Relation = record { comparison = comparison; ranges = record { first = first; last = last } ∷ [] } in
    (relation ∷ []) ∷ []

-- zero `n = 0`, one `n = 1`, two `n = 2`, few `n % 100 = 3..10`, many `n % 100 = 11..99`
abbrev pub row_rules : List (Category × Alternatives)
row_rules =
    (category.Zero, within None 0 0) ∷ (category.One, within None 1 1) ∷ (category.Two, within None 2 2)
    ∷ (category.Few, within (Some 100) 3 10) ∷ (category.Many, within (Some 100) 11 99) ∷ []

-- `{msg desc="d"}{plural $n}{case 1}one{default}some{/plural}{/msg}`
abbrev pub plural_source : List Node
plural_source =
    message_of (Plural (variable 0 (codes "n")) 0
    (plural_case (pos 1) (Parts (all_nodes (text_node 0 (codes "one") ∷ []))) no_plural_case)
    (Parts (all_nodes (text_node 0 (codes "some") ∷ [])))) ∷ []

-- the same with a translation from right to left
abbrev pub translated_context : MsgPart → RunContext
translated_context translation =
    context_of dir.Rtl row_rules (Some (part translation no_part)) number_param plural_source

abbrev pub translated : MsgPart → ℤ → Outcome
translated translation n =
    template_run (translated_context translation) (row_template number_param plural_source) (number_env n)

abbrev pub translated_meaning : MsgPart → ℤ → List ℕ
translated_meaning translation n =
    meaning (translated_context translation) (row_template number_param plural_source) (number_env n)

abbrev pub one_text : List ℕ → MsgParts
one_text text = part (TextPart text) no_part

-- `{N, plural, zero {Z} one {O} two {T} few {F} many {M} other {X #}}`
abbrev pub plural_part : MsgPart
plural_part = PluralPart false (codes "N") 0 no_exact_arm
    (named_arm category.Zero (one_text (codes "Z")) (named_arm category.One (one_text (codes "O"))
    (named_arm category.Two (one_text (codes "T")) (named_arm category.Few (one_text (codes "F"))
    (named_arm category.Many (one_text (codes "M"))
    (named_arm category.Other (part (TextPart (codes "X ")) (part NumberPart no_part)) no_named_arm))))))

abbrev pub plural_translation : ℤ → Outcome
plural_translation = translated plural_part

-- `{N, plural, offset:1 =1 {only} one {and # more} other {all}}`
abbrev pub offset_part : MsgPart
offset_part = PluralPart false (codes "N") 1
    (exact_arm (pos 1) (one_text (codes "only")) no_exact_arm)
    (named_arm category.One (part (TextPart (codes "and ")) (part NumberPart (one_text (codes " more"))))
    (named_arm category.Other (one_text (codes "all")) no_named_arm))

abbrev pub offset_translation : ℤ → Outcome
offset_translation = translated offset_part
