-- The pieces of nodes are what is written for them.
use Rattle.std.proofs.Common.{◌≡◌, ℕ, Bool, true, false, ◌==◌, ◌||◌, ◌&&◌, if◌then◌else◌, List, [], ◌∷◌, ◌++◌, refl}
use Rattle.std.proofs.Common.{sym, ap}
use Rattle.std.proofs.Common.{◌∙◌, append_assoc, append-nil}
use Rattle.std.specs.Fmt.{signed_decimal}
use Rattle.std.specs.Prelude.{codes}
use Rattle.soy_tree.specs.Types.{Name}
use Rattle.soy_tree.specs.Expressions.{Expr}
use Rattle.soy_tree.specs.Nodes.{Node, Nodes, Otherwise, Arms, Cases, Arguments, Given, Message, Fallback, MessageBody}
use Rattle.soy_tree.specs.Nodes.{PluralCases, SelectCases, TextNode, Print, If, Switch, For, Let, LetBlock, Call}
use Rattle.soy_tree.specs.Nodes.{MessageNode, no_node, node, no_otherwise, otherwise, no_arm, arm, no_case, case}
use Rattle.soy_tree.specs.Nodes.{no_argument, argument, Plain as PlainGiven, Block, message, no_fallback, fallback}
use Rattle.soy_tree.specs.Nodes.{Parts}
use Rattle.soy_tree.specs.Nodes.{Plural, Select, no_plural_case, plural_case, no_select_case, select_case}
use Rattle.soy_format.specs.FormattedBody.{arm_text, call_close, call_end, call_text, formatted_argument}
use Rattle.soy_format.specs.FormattedBody.{formatted_arguments, formatted_arms, formatted_cases, formatted_fallback}
use Rattle.soy_format.specs.FormattedBody.{formatted_message, formatted_message_body, formatted_node, formatted_nodes}
use Rattle.soy_format.specs.FormattedBody.{formatted_otherwise, formatted_plural_cases, formatted_select_cases}
use Rattle.soy_format.specs.FormattedBody.{case_text, expr_command, for_text, let_block_text, let_text, message_text}
use Rattle.soy_format.specs.FormattedBody.{param_block_text, param_text, plural_text, print_text}
use Rattle.soy_format.specs.FormattedExpression.{formatted_values}
use Rattle.soy_format.specs.FormattedString.{formatted_string}
use Rattle.soy_format.specs.FormattedText.{comment_break, formatted_text, text_character, text_characters}
use Rattle.formatted_source.specs.CommandPieces.{arm_piece, call_close_pieces, close_piece}
use Rattle.formatted_source.specs.NodePieces.{arguments_pieces, argument_pieces, arms_pieces, body_pieces, break_pieces}
use Rattle.formatted_source.specs.NodePieces.{cases_pieces, character_piece, characters_pieces, default_piece}
use Rattle.formatted_source.specs.NodePieces.{else_piece, fallback_pieces, message_pieces, nil_piece, node_pieces}
use Rattle.formatted_source.specs.NodePieces.{nodes_pieces}
use Rattle.formatted_source.specs.NodePieces.{otherwise_pieces, plural_cases_pieces, select_cases_pieces, text_pieces}
use Rattle.formatted_source.specs.Pieces.{Piece, piece_text, pieces_text}

pub pieces_text-append : (ps qs : List Piece) → pieces_text (ps ++ qs) ≡ pieces_text ps ++ pieces_text qs
pieces_text-append [] qs = refl
pieces_text-append (p ∷ ps) qs =
    ap (λ l. piece_text p ++ l) (pieces_text-append ps qs)
    ∙ sym (append_assoc (piece_text p) (pieces_text ps) (pieces_text qs))

-- two parts, each of which is written so
two : (a b x y : List ℕ) → a ≡ x → b ≡ y → a ++ b ≡ x ++ y
two a b x y e f = ap (λ l. l ++ b) e ∙ ap (λ l. x ++ l) f

joined : (ps qs : List Piece) (x y : List ℕ) → pieces_text ps ≡ x → pieces_text qs ≡ y → pieces_text (ps ++ qs) ≡ x ++ y
joined ps qs x y e f = pieces_text-append ps qs ∙ two (pieces_text ps) (pieces_text qs) x y e f

if_text : (t : Bool) (a b : Piece) (x y : List ℕ) → piece_text a ≡ x → piece_text b ≡ y
    → piece_text (if t then a else b) ≡ (if t then x else y)
if_text true a b x y e f = e
if_text false a b x y e f = f

character_text : (c : ℕ) → piece_text (character_piece c) ≡ text_character c
character_text c =
    if_text (c == 123) _ _ _ _ refl (if_text (c == 125) _ _ _ _ refl (if_text (c == 10) _ _ _ _ refl
    (if_text (c == 13) _ _ _ _ refl (if_text (c == 9) _ _ _ _ refl refl))))

break_text : (after_slash : Bool) (c : ℕ) → pieces_text (break_pieces after_slash c) ≡ comment_break after_slash c
break_text after_slash c = over (after_slash && (c == 47 || c == 42))
  where
    over : (t : Bool) → pieces_text (if t then nil_piece ∷ [] else []) ≡ (if t then codes "{nil}" else [])
    over true = refl
    over false = refl

characters_text : (after_slash : Bool) (cs : List ℕ)
    → pieces_text (characters_pieces after_slash cs) ≡ text_characters after_slash cs
characters_text after_slash [] = refl
characters_text after_slash (c ∷ cs) =
    joined (break_pieces after_slash c) (character_piece c ∷ characters_pieces (c == 47) cs)
    (comment_break after_slash c) (text_character c ++ text_characters (c == 47) cs) (break_text after_slash c)
    (two (piece_text (character_piece c)) (pieces_text (characters_pieces (c == 47) cs)) (text_character c)
    (text_characters (c == 47) cs) (character_text c) (characters_text (c == 47) cs))

text_text : (text : List ℕ) → pieces_text (text_pieces text) ≡ formatted_text text
text_text [] = refl
text_text (c ∷ cs) = characters_text false (c ∷ cs)

arm_is : (first : Bool) (e : Expr) → piece_text (arm_piece first e) ≡ arm_text first e
arm_is true e = refl
arm_is false e = refl

close_is : (given : Arguments) → pieces_text (call_close_pieces given) ≡ call_close given
close_is no_argument = refl
close_is (argument name given span rest) = refl

mutual
  node_text : (n : Node) → pieces_text (node_pieces n) ≡ formatted_node n
  node_text (TextNode text span) = text_text text
  node_text (Print e phname span) = append-nil (print_text e phname)
  node_text (If arms other span) =
      joined (arms_pieces true arms) (otherwise_pieces else_piece other ++ (close_piece (codes "{/if}")
      (codes "if") ∷ []))
      (formatted_arms true arms) (formatted_otherwise (codes "{else}") other ++ codes "{/if}") (arms_text true arms)
      (joined (otherwise_pieces else_piece other) (close_piece (codes "{/if}") (codes "if") ∷ [])
      (formatted_otherwise (codes "{else}") other) (codes "{/if}") (otherwise_text else_piece other) refl)
  node_text (Switch e cases other span) =
      ap (λ l. expr_command (codes "{switch ") e ++ l) (joined (cases_pieces cases)
      (otherwise_pieces default_piece other ++ (close_piece (codes "{/switch}") (codes "switch") ∷ []))
      (formatted_cases cases) (formatted_otherwise (codes "{default}") other ++ codes "{/switch}") (cases_text cases)
      (joined (otherwise_pieces default_piece other) (close_piece (codes "{/switch}") (codes "switch") ∷ [])
      (formatted_otherwise (codes "{default}") other) (codes "{/switch}") (otherwise_text default_piece other) refl))
  node_text (For name index e body span) =
      ap (λ l. for_text name index e ++ l) (joined (nodes_pieces body) (close_piece (codes "{/for}")
      (codes "for") ∷ []) (formatted_nodes body)
      (codes "{/for}") (nodes_text body) refl)
  node_text (Let name e span) = append-nil (let_text name e)
  node_text (LetBlock name k body span) =
      ap (λ l. let_block_text name k ++ l) (joined (nodes_pieces body) (close_piece (codes "{/let}")
      (codes "let") ∷ []) (formatted_nodes body)
      (codes "{/let}") (nodes_text body) refl)
  node_text (Call name all given span) =
      append_assoc (call_text name all) (call_end given) (pieces_text (arguments_pieces given ++ call_close_pieces
      given))
      ∙ ap (λ l. call_text name all ++ (call_end given ++ l)) (joined (arguments_pieces given) (call_close_pieces given)
      (formatted_arguments given) (call_close given) (arguments_text given) (close_is given))
  node_text (MessageNode m other span) =
      joined (message_pieces (codes "{msg") (codes "msg") m)
      (fallback_pieces other ++ (close_piece (codes "{/msg}") (codes "msg") ∷ []))
      (formatted_message (codes "{msg") m) (formatted_fallback other ++ codes "{/msg}")
      (message_is (codes "{msg") (codes "msg") m)
      (joined (fallback_pieces other) (close_piece (codes "{/msg}") (codes "msg") ∷ []) (formatted_fallback other)
      (codes "{/msg}") (fallback_text other) refl)

  -- **The pieces of nodes are what is written for them.**
  pub nodes_text : (ns : Nodes) → pieces_text (nodes_pieces ns) ≡ formatted_nodes ns
  nodes_text no_node = refl
  nodes_text (node n ns) =
      joined (node_pieces n) (nodes_pieces ns) (formatted_node n) (formatted_nodes ns) (node_text n) (nodes_text ns)

  otherwise_text : (p : Piece) (other : Otherwise)
      → pieces_text (otherwise_pieces p other) ≡ formatted_otherwise (piece_text p) other
  otherwise_text p no_otherwise = refl
  otherwise_text p (otherwise body) = ap (λ l. piece_text p ++ l) (nodes_text body)

  arms_text : (first : Bool) (arms : Arms) → pieces_text (arms_pieces first arms) ≡ formatted_arms first arms
  arms_text first no_arm = refl
  arms_text first (arm e body arms) =
      two (piece_text (arm_piece first e)) (pieces_text (nodes_pieces body ++ arms_pieces false arms))
      (arm_text first e)
      (formatted_nodes body ++ formatted_arms false arms) (arm_is first e)
      (joined (nodes_pieces body) (arms_pieces false arms) (formatted_nodes body) (formatted_arms false arms)
      (nodes_text body) (arms_text false arms))

  cases_text : (cases : Cases) → pieces_text (cases_pieces cases) ≡ formatted_cases cases
  cases_text no_case = refl
  cases_text (case values body cases) =
      ap (λ l. case_text (formatted_values values) ++ l) (joined (nodes_pieces body) (cases_pieces cases)
      (formatted_nodes body) (formatted_cases cases)
      (nodes_text body) (cases_text cases))

  arguments_text : (given : Arguments) → pieces_text (arguments_pieces given) ≡ formatted_arguments given
  arguments_text no_argument = refl
  arguments_text (argument name given span rest) =
      joined (argument_pieces name given) (arguments_pieces rest) (formatted_argument name given)
      (formatted_arguments rest) (argument_text name given) (arguments_text rest)

  argument_text : (name : Name) (given : Given) → pieces_text (argument_pieces name given)
      ≡ formatted_argument name given
  argument_text name (PlainGiven e) = append-nil (param_text name e)
  argument_text name (Block k body) =
      ap (λ l. param_block_text name k ++ l) (joined (nodes_pieces body) (close_piece (codes "{/param}")
      (codes "param") ∷ [])
      (formatted_nodes body) (codes "{/param}") (nodes_text body) refl)

  message_is : (start word : List ℕ) (m : Message) → pieces_text (message_pieces start word m)
      ≡ formatted_message start m
  message_is start word (message desc meaning body span) =
      ap (λ l. message_text start desc meaning ++ l) (body_text body)

  fallback_text : (other : Fallback) → pieces_text (fallback_pieces other) ≡ formatted_fallback other
  fallback_text no_fallback = refl
  fallback_text (fallback m) = message_is (codes "{fallbackmsg") (codes "fallbackmsg") m

  body_text : (body : MessageBody) → pieces_text (body_pieces body) ≡ formatted_message_body body
  body_text (Parts ns) = nodes_text ns
  body_text (Plural e offset cases other) =
      ap (λ l. plural_text e offset ++ l) (joined (plural_cases_pieces cases)
      (default_piece ∷ (body_pieces other ++ (close_piece (codes "{/plural}") (codes "plural") ∷ [])))
      (formatted_plural_cases cases) (codes "{default}" ++ (formatted_message_body other ++ codes "{/plural}"))
      (plural_cases_text cases) (ap (λ l. codes "{default}" ++ l) (joined (body_pieces other)
      (close_piece (codes "{/plural}") (codes "plural") ∷ []) (formatted_message_body other) (codes "{/plural}")
      (body_text other) refl)))
  body_text (Select e cases other) =
      ap (λ l. expr_command (codes "{select ") e ++ l) (joined (select_cases_pieces cases)
      (default_piece ∷ (body_pieces other ++ (close_piece (codes "{/select}") (codes "select") ∷ [])))
      (formatted_select_cases cases) (codes "{default}" ++ (formatted_message_body other ++ codes "{/select}"))
      (select_cases_text cases) (ap (λ l. codes "{default}" ++ l) (joined (body_pieces other)
      (close_piece (codes "{/select}") (codes "select") ∷ []) (formatted_message_body other) (codes "{/select}")
      (body_text other) refl)))

  plural_cases_text : (cases : PluralCases) → pieces_text (plural_cases_pieces cases) ≡ formatted_plural_cases cases
  plural_cases_text no_plural_case = refl
  plural_cases_text (plural_case n body cases) =
      ap (λ l. case_text (signed_decimal n) ++ l) (joined (body_pieces body) (plural_cases_pieces cases)
      (formatted_message_body body)
      (formatted_plural_cases cases) (body_text body) (plural_cases_text cases))

  select_cases_text : (cases : SelectCases) → pieces_text (select_cases_pieces cases) ≡ formatted_select_cases cases
  select_cases_text no_select_case = refl
  select_cases_text (select_case word body cases) =
      ap (λ l. case_text (formatted_string word) ++ l) (joined (body_pieces body) (select_cases_pieces cases)
      (formatted_message_body body)
      (formatted_select_cases cases) (body_text body) (select_cases_text cases))
