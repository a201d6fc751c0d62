-- Formed trees: what every tree of the grammar is.
-- Int literals, plural cases and offsets are from 0 to 9007199254740991. Names are names. No member of a
-- union is a union, and no two text nodes are neighbours.
-- A message holds text, prints and whole tags, or one plural or select, and so does each of its cases; the words of its
-- selects are words other than `other`; it nests at most 63 plurals and selects.
-- Example: a message whose text is `<b` isn't formed, since the tag has no end.
use Rattle.std.specs.Prelude.{ℕ, ◌+◌, ℤ, pos, negsuc, Bool, true, false, not, ◌&&◌, ◌||◌, ◌==◌, nat_le, max, List, []}
use Rattle.std.specs.Prelude.{◌∷◌, Option, Some, None, is_some, IsTrue, bytes_eq, codes}
use Rattle.std.specs.List.{list_all}
use Rattle.std.specs.Char.{is_ascii_alphabetic, is_ascii_digit}
use Rattle.soy_base.specs.Characters.{underscore, minus_sign}
use Rattle.soy_base.specs.Names.{is_name, is_dotted_name}
use Rattle.soy_tree.specs.Types.{SoyType, Members, FieldTypes, ListType, MapType, RecordType, UnionType, no_member}
use Rattle.soy_tree.specs.Types.{member, no_field, field}
use Rattle.soy_base.specs.Limits.{largest}
use Rattle.soy_tree.specs.Expressions.{Expr, IntLiteral, Variable, Member, Index, Minus, Not, Binary, Coalesce}
use Rattle.soy_tree.specs.Expressions.{Conditional}
use Rattle.soy_tree.specs.Nodes.{Node, Nodes, Otherwise, Arms, Cases, Arguments, Given, Message, Fallback, MessageBody}
use Rattle.soy_tree.specs.Nodes.{PluralCases, SelectCases, TextNode, Print, If, Switch, For, Let, LetBlock, Call}
use Rattle.soy_tree.specs.Nodes.{MessageNode, no_node, node, no_otherwise, otherwise, no_arm, arm, no_case, case}
use Rattle.soy_tree.specs.Nodes.{no_argument, argument, Plain, Block, message, no_fallback, fallback, Parts, Plural}
use Rattle.soy_tree.specs.Nodes.{Select, no_plural_case, plural_case, no_select_case, select_case}
use Rattle.soy_tree.specs.MessageText.{message_items, cuts_of}
use Rattle.soy_tree.specs.Trees.{Param, Template, Tree}

abbrev pub is_formed_int : ℤ → Bool
is_formed_int (pos n) = nat_le n largest
is_formed_int (negsuc n) = false

abbrev pub is_formed_expr : Expr → Bool
is_formed_expr (IntLiteral n span) = is_formed_int n
is_formed_expr (Variable name span) = is_name name
is_formed_expr (Member e name takes_null span) = is_formed_expr e && is_name name
is_formed_expr (Index e i takes_null span) = is_formed_expr e && is_formed_expr i
is_formed_expr (Minus e span) = is_formed_expr e
is_formed_expr (Not e span) = is_formed_expr e
is_formed_expr (Binary op a b span) = is_formed_expr a && is_formed_expr b
is_formed_expr (Coalesce a b span) = is_formed_expr a && is_formed_expr b
is_formed_expr (Conditional c a b span) = is_formed_expr c && is_formed_expr a && is_formed_expr b
is_formed_expr _ = true

abbrev pub is_union : SoyType → Bool
is_union (UnionType ts) = true
is_union _ = false

abbrev mutual
  pub is_formed_type : SoyType → Bool
  is_formed_type (ListType t) = is_formed_type t
  is_formed_type (MapType t) = is_formed_type t
  is_formed_type (RecordType fields) = are_formed_fields fields
  is_formed_type (UnionType ts) = are_formed_members ts
  is_formed_type _ = true

  pub are_formed_members : Members → Bool
  are_formed_members no_member = true
  are_formed_members (member t ts) = not (is_union t) && is_formed_type t && are_formed_members ts

  pub are_formed_fields : FieldTypes → Bool
  are_formed_fields no_field = true
  are_formed_fields (field name t fields) = is_name name && is_formed_type t && are_formed_fields fields

abbrev pub is_word_character : ℕ → Bool
is_word_character c = is_ascii_alphabetic c || is_ascii_digit c || c == underscore || c == minus_sign

-- a word of a select's case
abbrev pub is_case_word : List ℕ → Bool
is_case_word [] = false
is_case_word (c ∷ cs) = list_all is_word_character (c ∷ cs) && not (bytes_eq (c ∷ cs) (codes "other"))

abbrev pub if_there : {A : Type 0} → (A → Bool) → Option A → Bool
if_there test None = true
if_there test (Some a) = test a

abbrev pub is_text : Node → Bool
is_text (TextNode text span) = true
is_text _ = false

abbrev pub begins_with_text : Nodes → Bool
begins_with_text no_node = false
begins_with_text (node n ns) = is_text n

-- whether the nodes are texts, prints and whole tags
abbrev pub is_message_text : Nodes → Bool
is_message_text ns = is_some (cuts_of (message_items ns))

abbrev mutual
  -- how many plurals and selects a message nests
  pub nesting : MessageBody → ℕ
  nesting (Parts ns) = 0
  nesting (Plural e offset cases other) = 1 + max (plural_nesting cases) (nesting other)
  nesting (Select e cases other) = 1 + max (select_nesting cases) (nesting other)

  pub plural_nesting : PluralCases → ℕ
  plural_nesting no_plural_case = 0
  plural_nesting (plural_case n body cases) = max (nesting body) (plural_nesting cases)

  pub select_nesting : SelectCases → ℕ
  select_nesting no_select_case = 0
  select_nesting (select_case word body cases) = max (nesting body) (select_nesting cases)

abbrev mutual
  pub is_formed_node : Node → Bool
  is_formed_node (TextNode text span) = true
  is_formed_node (Print e phname span) = is_formed_expr e && if_there is_name phname
  is_formed_node (If arms other span) = are_formed_arms arms && is_formed_otherwise other
  is_formed_node (Switch e cases other span) = is_formed_expr e && are_formed_cases cases && is_formed_otherwise other
  is_formed_node (For name index e body span) =
      is_name name && if_there is_name index && is_formed_expr e && are_formed_nodes body
  is_formed_node (Let name e span) = is_name name && is_formed_expr e
  is_formed_node (LetBlock name kind body span) = is_name name && are_formed_nodes body
  is_formed_node (Call name all given span) = is_dotted_name name && are_formed_arguments given
  is_formed_node (MessageNode m other span) = is_formed_message m && is_formed_fallback other

  pub are_formed_nodes : Nodes → Bool
  are_formed_nodes no_node = true
  are_formed_nodes (node n ns) = is_formed_node n && not (is_text n && begins_with_text ns) && are_formed_nodes ns

  pub is_formed_otherwise : Otherwise → Bool
  is_formed_otherwise no_otherwise = true
  is_formed_otherwise (otherwise body) = are_formed_nodes body

  pub are_formed_arms : Arms → Bool
  are_formed_arms no_arm = true
  are_formed_arms (arm e body arms) = is_formed_expr e && are_formed_nodes body && are_formed_arms arms

  pub are_formed_cases : Cases → Bool
  are_formed_cases no_case = true
  are_formed_cases (case values body cases) =
      list_all is_formed_expr values && are_formed_nodes body && are_formed_cases cases

  pub are_formed_arguments : Arguments → Bool
  are_formed_arguments no_argument = true
  are_formed_arguments (argument name given span rest) =
      is_name name && is_formed_given given && are_formed_arguments rest

  pub is_formed_given : Given → Bool
  is_formed_given (Plain e) = is_formed_expr e
  is_formed_given (Block kind body) = are_formed_nodes body

  pub is_formed_message : Message → Bool
  is_formed_message (message desc meaning body span) = is_formed_body body && nat_le (nesting body) 63

  pub is_formed_fallback : Fallback → Bool
  is_formed_fallback no_fallback = true
  is_formed_fallback (fallback m) = is_formed_message m

  pub is_formed_body : MessageBody → Bool
  is_formed_body (Parts ns) = are_formed_nodes ns && is_message_text ns
  is_formed_body (Plural e offset cases other) =
      is_formed_expr e && nat_le offset largest && are_formed_plural_cases cases && is_formed_body other
  is_formed_body (Select e cases other) = is_formed_expr e && are_formed_select_cases cases && is_formed_body other

  pub are_formed_plural_cases : PluralCases → Bool
  are_formed_plural_cases no_plural_case = true
  are_formed_plural_cases (plural_case n body cases) =
      is_formed_int n && is_formed_body body && are_formed_plural_cases cases

  pub are_formed_select_cases : SelectCases → Bool
  are_formed_select_cases no_select_case = true
  are_formed_select_cases (select_case word body cases) =
      is_case_word word && is_formed_body body && are_formed_select_cases cases

abbrev pub is_formed_param : Param → Bool
is_formed_param p = is_name p.name && is_formed_type p.of

abbrev pub is_formed_template : Template → Bool
is_formed_template t = is_name t.name && list_all is_formed_param t.params && are_formed_nodes t.body

abbrev pub is_formed_tree : Tree → Bool
is_formed_tree t = is_dotted_name t.namespace && list_all is_formed_template t.templates

abbrev pub AreFormed : List Tree → Type 0
AreFormed trees = IsTrue (list_all is_formed_tree trees)
