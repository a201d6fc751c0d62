-- The pieces of the line on which nodes are written in canonical source.
-- Example: the pieces of an `if` around the text `a` are `{if $x}`, `a` and `{/if}`.
use Rattle.std.specs.Prelude.{ℕ, Bool, true, false, ◌&&◌, ◌||◌, ◌==◌, if◌then◌else◌, List, [], ◌∷◌, ◌++◌, codes}
use Rattle.soy_base.specs.Characters.{tab, line_feed, carriage_return, asterisk, slash, left_brace, right_brace}
use Rattle.soy_lexer.specs.declared.token.TokenKind.TheVariants as kind
use Rattle.soy_tree.specs.Types.{Name}
use Rattle.soy_tree.specs.Nodes.{Node, Nodes, Otherwise, Arms, Cases, Arguments, Given, Message, Fallback, MessageBody}
use Rattle.soy_tree.specs.Nodes.{PluralCases, SelectCases, TextNode, Print, If, Switch, For, Let, LetBlock, Call}
use Rattle.soy_tree.specs.Nodes.{MessageNode, no_node, node, no_otherwise, otherwise, no_arm, arm, no_case, case}
use Rattle.soy_tree.specs.Nodes.{no_argument, argument, Plain as PlainGiven, Block, message, no_fallback, fallback}
use Rattle.soy_tree.specs.Nodes.{Parts}
use Rattle.soy_tree.specs.Nodes.{Plural, Select, no_plural_case, plural_case, no_select_case, select_case}
use Rattle.formatted_source.specs.CommandPieces.{arm_piece, braced, call_close_pieces, call_piece, case_piece}
use Rattle.formatted_source.specs.CommandPieces.{close_piece, expr_piece, for_piece, let_block_piece, let_piece}
use Rattle.formatted_source.specs.CommandPieces.{message_piece, param_block_piece, param_piece, plural_case_piece}
use Rattle.formatted_source.specs.CommandPieces.{plural_piece, print_piece, select_case_piece, word_piece}
use Rattle.formatted_source.specs.Pieces.{Piece, Plain, Written}

-- a command for a character that a backslash and a letter name
abbrev pub escape_piece : List ℕ → List ℕ → Piece
escape_piece text symbol = Written text (braced ((kind.Symbol, symbol) ∷ []))

abbrev pub character_piece : ℕ → Piece
character_piece c =
    if c == left_brace then word_piece (codes "{lb}") (codes "lb") else
    if c == right_brace then word_piece (codes "{rb}") (codes "rb") else
    if c == line_feed then escape_piece (codes "{\\n}") (codes "\\n") else
    if c == carriage_return then escape_piece (codes "{\\r}") (codes "\\r") else
    if c == tab then escape_piece (codes "{\\t}") (codes "\\t") else
    Plain c

abbrev pub nil_piece : Piece
nil_piece = word_piece (codes "{nil}") (codes "nil")

abbrev pub break_pieces : Bool → ℕ → List Piece
break_pieces after_slash c = if after_slash && (c == slash || c == asterisk) then nil_piece ∷ [] else []

abbrev pub characters_pieces : Bool → List ℕ → List Piece
characters_pieces after_slash [] = []
characters_pieces after_slash (c ∷ cs) =
    break_pieces after_slash c ++ (character_piece c ∷ characters_pieces (c == slash) cs)

abbrev pub text_pieces : List ℕ → List Piece
text_pieces [] = nil_piece ∷ []
text_pieces (c ∷ cs) = characters_pieces false (c ∷ cs)

abbrev pub else_piece : Piece
else_piece = word_piece (codes "{else}") (codes "else")

abbrev pub default_piece : Piece
default_piece = word_piece (codes "{default}") (codes "default")

abbrev mutual
  pub node_pieces : Node → List Piece
  node_pieces (TextNode text span) = text_pieces text
  node_pieces (Print e phname span) = print_piece e phname ∷ []
  node_pieces (If arms other span) =
      arms_pieces true arms ++ (otherwise_pieces else_piece other ++ (close_piece (codes "{/if}") (codes "if") ∷ []))
  node_pieces (Switch e cases other span) =
      expr_piece (codes "{switch ") (codes "switch") e
      ∷ (cases_pieces cases ++ (otherwise_pieces default_piece other
      ++ (close_piece (codes "{/switch}") (codes "switch") ∷ [])))
  node_pieces (For name index e body span) =
      for_piece name index e ∷ (nodes_pieces body ++ (close_piece (codes "{/for}") (codes "for") ∷ []))
  node_pieces (Let name e span) = let_piece name e ∷ []
  node_pieces (LetBlock name k body span) =
      let_block_piece name k ∷ (nodes_pieces body ++ (close_piece (codes "{/let}") (codes "let") ∷ []))
  node_pieces (Call name all given span) =
      call_piece name all given ∷ (arguments_pieces given ++ call_close_pieces given)
  node_pieces (MessageNode m other span) =
      message_pieces (codes "{msg") (codes "msg") m ++ (fallback_pieces other
      ++ (close_piece (codes "{/msg}") (codes "msg") ∷ []))

  pub nodes_pieces : Nodes → List Piece
  nodes_pieces no_node = []
  nodes_pieces (node n ns) = node_pieces n ++ nodes_pieces ns

  pub otherwise_pieces : Piece → Otherwise → List Piece
  otherwise_pieces command no_otherwise = []
  otherwise_pieces command (otherwise body) = command ∷ nodes_pieces body

  pub arms_pieces : Bool → Arms → List Piece
  arms_pieces first no_arm = []
  arms_pieces first (arm e body arms) = arm_piece first e ∷ (nodes_pieces body ++ arms_pieces false arms)

  pub cases_pieces : Cases → List Piece
  cases_pieces no_case = []
  cases_pieces (case values body cases) = case_piece values ∷ (nodes_pieces body ++ cases_pieces cases)

  pub arguments_pieces : Arguments → List Piece
  arguments_pieces no_argument = []
  arguments_pieces (argument name given span rest) = argument_pieces name given ++ arguments_pieces rest

  pub argument_pieces : Name → Given → List Piece
  argument_pieces name (PlainGiven e) = param_piece name e ∷ []
  argument_pieces name (Block k body) =
      param_block_piece name k ∷ (nodes_pieces body ++ (close_piece (codes "{/param}") (codes "param") ∷ []))

  pub message_pieces : List ℕ → List ℕ → Message → List Piece
  message_pieces start word (message desc meaning body span) = message_piece start word desc meaning ∷ body_pieces body

  pub fallback_pieces : Fallback → List Piece
  fallback_pieces no_fallback = []
  fallback_pieces (fallback m) = message_pieces (codes "{fallbackmsg") (codes "fallbackmsg") m

  pub body_pieces : MessageBody → List Piece
  body_pieces (Parts ns) = nodes_pieces ns
  body_pieces (Plural e offset cases other) =
      plural_piece e offset ∷ (plural_cases_pieces cases
      ++ (default_piece ∷ (body_pieces other ++ (close_piece (codes "{/plural}") (codes "plural") ∷ []))))
  body_pieces (Select e cases other) =
      expr_piece (codes "{select ") (codes "select") e ∷ (select_cases_pieces cases
      ++ (default_piece ∷ (body_pieces other ++ (close_piece (codes "{/select}") (codes "select") ∷ []))))

  pub plural_cases_pieces : PluralCases → List Piece
  plural_cases_pieces no_plural_case = []
  plural_cases_pieces (plural_case n body cases) =
      plural_case_piece n ∷ (body_pieces body ++ plural_cases_pieces cases)

  pub select_cases_pieces : SelectCases → List Piece
  select_cases_pieces no_select_case = []
  select_cases_pieces (select_case word body cases) =
      select_case_piece word ∷ (body_pieces body ++ select_cases_pieces cases)
