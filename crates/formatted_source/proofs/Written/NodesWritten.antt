-- Nodes, as they are written: pieces of a line.
use Rattle.std.proofs.Common.{◌≡◌, ℕ, ◌==◌, ◌&&◌, not, Bool, true, false, List, [], ◌∷◌, ◌++◌}
use Rattle.std.proofs.Common.{refl, sym}
use Rattle.std.proofs.Common.{subst, ◌∙◌, nat_le}
use Rattle.std.specs.Prelude.{codes}
use Rattle.std.specs.List.{list_all}
use Rattle.soy_base.specs.Among.{lacks}
use Rattle.soy_base.specs.Names.{is_dotted_name, is_name}
use Rattle.soy_tree.specs.Expressions.{Expr}
use Rattle.soy_tree.specs.Formed.{are_formed_arguments, are_formed_arms, are_formed_cases, are_formed_nodes}
use Rattle.soy_tree.specs.Formed.{are_formed_plural_cases, are_formed_select_cases, begins_with_text, if_there}
use Rattle.soy_tree.specs.Formed.{is_case_word, is_formed_body, is_formed_expr, is_formed_fallback, is_formed_given}
use Rattle.soy_tree.specs.Formed.{is_formed_int, is_formed_message, is_formed_node, is_formed_otherwise}
use Rattle.soy_tree.specs.Formed.{is_message_text}
use Rattle.soy_tree.specs.Formed.{is_text, nesting}
use Rattle.soy_base.specs.Limits.{largest}
use Rattle.soy_tree.specs.Nodes.{Node, Nodes, Otherwise, Arms, Cases, Arguments, Given, Message, Fallback, MessageBody}
use Rattle.soy_tree.specs.Nodes.{PluralCases, SelectCases, TextNode, Print, If, Switch, For, Let, LetBlock, Call}
use Rattle.soy_tree.specs.Nodes.{MessageNode, no_node, node, no_otherwise, otherwise, no_arm, arm, no_case, case}
use Rattle.soy_tree.specs.Nodes.{no_argument, argument, Plain as PlainGiven, Block, message, no_fallback, fallback}
use Rattle.soy_tree.specs.Nodes.{Parts}
use Rattle.soy_tree.specs.Nodes.{Plural, Select, no_plural_case, plural_case, no_select_case, select_case}
use Rattle.soy_tree.specs.Types.{Name}
use Rattle.formatted_source.specs.CommandPieces.{arm_piece, call_close_pieces, close_piece}
use Rattle.formatted_source.specs.Lexemes.{Lexeme}
use Rattle.formatted_source.specs.NodePieces.{argument_pieces, arguments_pieces, arms_pieces, body_pieces, cases_pieces}
use Rattle.formatted_source.specs.NodePieces.{default_piece, else_piece, fallback_pieces, message_pieces, node_pieces}
use Rattle.formatted_source.specs.NodePieces.{nodes_pieces, otherwise_pieces, plural_cases_pieces, select_cases_pieces}
use Rattle.formatted_source.specs.Pieces.{Piece, Plain, Written}
use Rattle.formatted_source.specs.SourcedTrees.{are_sourced_arguments, are_sourced_arms, are_sourced_cases}
use Rattle.formatted_source.specs.SourcedTrees.{are_sourced_nodes, are_sourced_plural_cases, are_sourced_select_cases}
use Rattle.formatted_source.specs.SourcedTrees.{has_arm, has_value, is_source_value, is_sourced_body}
use Rattle.formatted_source.specs.SourcedTrees.{is_sourced_fallback, is_sourced_given, is_sourced_message}
use Rattle.formatted_source.specs.SourcedTrees.{is_sourced_node, is_sourced_otherwise}
use Rattle.formatted_source.proofs.Written.CharactersWritten.{call_close_is, default_is, else_is, for_close, if_close}
use Rattle.formatted_source.proofs.Written.CharactersWritten.{let_close}
use Rattle.formatted_source.proofs.Written.CharactersWritten.{msg_close, param_close, plural_close, select_close}
use Rattle.formatted_source.proofs.Written.CharactersWritten.{switch_close}
use Rattle.formatted_source.proofs.Written.CommandsWritten.{IsCommandWord, case_written, elseif_word}
use Rattle.formatted_source.proofs.Written.CommandsWritten.{expr_command_written}
use Rattle.formatted_source.proofs.Written.CommandsWritten.{fallbackmsg_word, for_written, if_word, let_block_written}
use Rattle.formatted_source.proofs.Written.CommandsWritten.{let_written}
use Rattle.formatted_source.proofs.Written.CommandsWritten.{msg_word, param_block_written, param_written}
use Rattle.formatted_source.proofs.Written.CommandsWritten.{plural_case_written}
use Rattle.formatted_source.proofs.Written.CommandsWritten.{select_case_written, select_word, switch_word}
use Rattle.formatted_source.proofs.Conditions.{four, three}
use Rattle.formatted_source.proofs.Written.Names.{both}
use Rattle.formatted_source.proofs.PieceReads.{ArePieces, IsCommand}
use Rattle.formatted_source.proofs.Written.PrintsWritten.{call_written, message_written, plural_written, print_written}
use Rattle.formatted_source.proofs.Written.TextsWritten.{text_are}

-- pieces that stand after any other
abbrev Any : List Piece → Type 0
Any ps = (b : Bool) → ArePieces b ps

-- whether the last of pieces is a `/`
abbrev ends_slash : Bool → List Piece → Bool
ends_slash b [] = b
ends_slash b (Plain c ∷ ps) = ends_slash (c == 47) ps
ends_slash b (Written text ls ∷ ps) = ends_slash false ps

followed : (b : Bool) (ps qs : List Piece) → ArePieces b ps → ArePieces (ends_slash b ps) qs → ArePieces b (ps ++ qs)
followed b [] qs a more = more
followed b (Plain c ∷ ps) qs a more = (a.0, a.1, followed (c == 47) ps qs a.2 more)
followed b (Written text ls ∷ ps) qs a more = (a.0, followed false ps qs a.1 more)

then_any : (b : Bool) (ps qs : List Piece) → ArePieces b ps → Any qs → ArePieces b (ps ++ qs)
then_any b ps qs a more = followed b ps qs a (more (ends_slash b ps))

ends_append : (b : Bool) (ps qs : List Piece) → ends_slash b (ps ++ qs) ≡ ends_slash (ends_slash b ps) qs
ends_append b [] qs = refl
ends_append b (Plain c ∷ ps) qs = ends_append (c == 47) ps qs
ends_append b (Written text ls ∷ ps) qs = ends_append false ps qs

ends_close : (b : Bool) (ps : List Piece) (text name : List ℕ) → ends_slash b (ps ++ (close_piece text name ∷ []))
    ≡ false
ends_close b ps text name = ends_append b ps (close_piece text name ∷ [])

ends_call : (given : Arguments) → ends_slash false (arguments_pieces given ++ call_close_pieces given) ≡ false
ends_call no_argument = refl
ends_call (argument name g span rest) = ends_close false (arguments_pieces (argument name g span rest))
    (codes "{/call}")
    (codes "call")

-- a node that is no text ends with a command
ends_written : (n : Node) → is_text n ≡ false → (b : Bool) → ends_slash b (node_pieces n) ≡ false
ends_written (TextNode text span) h b = cc
ends_written (Print e phname span) h b = refl
ends_written (If arms other span) h b =
    ends_append b (arms_pieces true arms) (otherwise_pieces else_piece other ++ (close_piece (codes "{/if}")
    (codes "if") ∷ []))
    ∙ ends_close (ends_slash b (arms_pieces true arms)) (otherwise_pieces else_piece other) (codes "{/if}") (codes "if")
ends_written (Switch e cases other span) h b =
    ends_append false (cases_pieces cases)
    (otherwise_pieces default_piece other ++ (close_piece (codes "{/switch}") (codes "switch") ∷ []))
    ∙ ends_close (ends_slash false (cases_pieces cases)) (otherwise_pieces default_piece other) (codes "{/switch}")
    (codes "switch")
ends_written (For name index e body span) h b = ends_close false (nodes_pieces body) (codes "{/for}") (codes "for")
ends_written (Let name e span) h b = refl
ends_written (LetBlock name k body span) h b = ends_close false (nodes_pieces body) (codes "{/let}") (codes "let")
ends_written (Call name all given span) h b = ends_call given
ends_written (MessageNode m other span) h b =
    ends_append b (message_pieces (codes "{msg") (codes "msg") m)
    (fallback_pieces other ++ (close_piece (codes "{/msg}") (codes "msg") ∷ []))
    ∙ ends_close (ends_slash b (message_pieces (codes "{msg") (codes "msg") m)) (fallback_pieces other) (codes "{/msg}")
    (codes "msg")

-- where pieces may stand that begin with a text, or don't: a text doesn't stand after a `/`
abbrev MayStand : Bool → Bool → Type 0
MayStand true begins = begins ≡ false
MayStand false begins = Unit {0}

may_stand : (b begins : Bool) → begins ≡ false → MayStand b begins
may_stand true begins e = e
may_stand false begins e = tt

-- a node before others, of which only one is a text
before : (n : Node) (ns : Nodes) → ((b : Bool) → MayStand b (is_text n) → ArePieces b (node_pieces n))
    → ((b : Bool) → MayStand b (begins_with_text ns) → ArePieces b (nodes_pieces ns))
    → not (is_text n && begins_with_text ns) ≡ true → (b : Bool) → MayStand b (is_text n)
    → ArePieces b (node_pieces n ++ nodes_pieces ns)
before n ns own rest apart b stands = over (is_text n) (begins_with_text ns) refl refl apart
  where
    over : (t u : Bool) → is_text n ≡ t → begins_with_text ns ≡ u → not (t && u) ≡ true
        → ArePieces b (node_pieces n ++ nodes_pieces ns)
    over true true e f h = cc
    over t false e f h =
        then_any b (node_pieces n) (nodes_pieces ns) (own b stands) (λ d. rest d (may_stand d (begins_with_text ns) f))
    over false true e f h =
        followed b (node_pieces n) (nodes_pieces ns) (own b stands)
        (subst (λ d. ArePieces d (nodes_pieces ns)) (sym (ends_written n e b)) (rest false tt))

arm_is : (first : Bool) (e : Expr) (more : List Piece) → is_formed_expr e ≡ true → ArePieces false more
    → Any (arm_piece first e ∷ more)
arm_is true e more f a b = (expr_command_written (codes "if") e if_word f, a)
arm_is false e more f a b = (expr_command_written (codes "elseif") e elseif_word f, a)

close_any : (given : Arguments) → Any (call_close_pieces given)
close_any no_argument b = tt
close_any (argument name g span rest) b = (call_close_is, tt)

mutual
  node_are : (m : Bool) (n : Node) → is_formed_node n ≡ true → is_sourced_node m n ≡ true → (b : Bool)
      → MayStand b (is_text n) → ArePieces b (node_pieces n)
  node_are m (TextNode text span) f s true stands = cc
  node_are m (TextNode text span) f s false stands = text_are text s
  node_are m (Print e phname span) f s b stands =
      let fs = both (is_formed_expr e) (if_there is_name phname) f in (print_written e phname fs.0 fs.1, tt)
  node_are m (If arms other span) f s b stands =
      let fs = both (are_formed_arms arms) (is_formed_otherwise other) f in
      let ss = three (has_arm arms) (are_sourced_arms arms) (is_sourced_otherwise other) s in
      then_any b (arms_pieces true arms)
      (otherwise_pieces else_piece other ++ (close_piece (codes "{/if}") (codes "if") ∷ []))
      (arms_are true arms fs.0 ss.1 b)
      (λ d. then_any d (otherwise_pieces else_piece other) (close_piece (codes "{/if}") (codes "if") ∷ [])
      (otherwise_are _ _ else_is other fs.1 ss.2 d) (λ c. (if_close, tt)))
  node_are m (Switch e cases other span) f s b stands =
      let fs = three (is_formed_expr e) (are_formed_cases cases) (is_formed_otherwise other) f in
      let ss = both (are_sourced_cases cases) (is_sourced_otherwise other) s in (
        expr_command_written (codes "switch") e switch_word fs.0,
        then_any false (cases_pieces cases)
            (otherwise_pieces default_piece other ++ (close_piece (codes "{/switch}") (codes "switch") ∷ []))
            (cases_are cases fs.1 ss.0 false)
            (λ d. then_any d (otherwise_pieces default_piece other) (close_piece (codes "{/switch}")
            (codes "switch") ∷ [])
            (otherwise_are _ _ default_is other fs.2 ss.1 d) (λ c. (switch_close, tt))),
      )
  node_are m (For name index e body span) f s b stands =
      let fs = four (is_name name) (if_there is_name index) (is_formed_expr e) (are_formed_nodes body) f in (
        for_written name index e fs.0 fs.1 fs.2,
        then_any false (nodes_pieces body)
            (close_piece (codes "{/for}") (codes "for") ∷ []) (nodes_are false body fs.3 s false tt) (λ c.
            (for_close, tt)),
      )
  node_are m (Let name e span) f s b stands =
      let fs = both (is_name name) (is_formed_expr e) f in (let_written name e fs.0 fs.1, tt)
  node_are m (LetBlock name k body span) f s b stands =
      let fs = both (is_name name) (are_formed_nodes body) f in (
        let_block_written name k fs.0,
        then_any false (nodes_pieces body) (close_piece (codes "{/let}")
            (codes "let") ∷ [])
            (nodes_are false body fs.1 s false tt) (λ c. (let_close, tt)),
      )
  node_are m (Call name all given span) f s b stands =
      let fs = both (is_dotted_name name) (are_formed_arguments given) f in (
        call_written name all given fs.0,
        then_any false (arguments_pieces given) (call_close_pieces given)
            (arguments_are given fs.1 s false) (close_any given),
      )
  node_are m (MessageNode c other span) f s b stands =
      let fs = both (is_formed_message c) (is_formed_fallback other) f in
      let ss = both (is_sourced_message c) (is_sourced_fallback other) s in
      then_any b (message_pieces (codes "{msg") (codes "msg") c)
      (fallback_pieces other ++ (close_piece (codes "{/msg}") (codes "msg") ∷ []))
      (message_are (codes "msg") msg_word c fs.0 ss.0 b)
      (λ d. then_any d (fallback_pieces other) (close_piece (codes "{/msg}") (codes "msg") ∷ [])
      (fallback_are other fs.1 ss.1 d) (λ c. (msg_close, tt)))

  -- **The pieces of the nodes of a text are pieces of a line.**
  pub nodes_are : (m : Bool) (ns : Nodes) → are_formed_nodes ns ≡ true → are_sourced_nodes m ns ≡ true → (b : Bool)
      → MayStand b (begins_with_text ns) → ArePieces b (nodes_pieces ns)
  nodes_are m no_node f s b stands = tt
  nodes_are m (node n ns) f s b stands =
      let fs = three (is_formed_node n) (not (is_text n && begins_with_text ns)) (are_formed_nodes ns) f in
      let ss = both (is_sourced_node m n) (are_sourced_nodes m ns) s in
      before n ns (node_are m n fs.0 ss.0) (nodes_are m ns fs.2 ss.1) fs.1 b stands

  otherwise_are : (text : List ℕ) (ls : List Lexeme) → IsCommand text ls → (other : Otherwise)
      → is_formed_otherwise other ≡ true → is_sourced_otherwise other ≡ true
      → Any (otherwise_pieces (Written text ls) other)
  otherwise_are text ls c no_otherwise f s b = tt
  otherwise_are text ls c (otherwise body) f s b = (c, nodes_are false body f s false tt)

  arms_are : (first : Bool) (arms : Arms) → are_formed_arms arms ≡ true → are_sourced_arms arms ≡ true
      → Any (arms_pieces first arms)
  arms_are first no_arm f s b = tt
  arms_are first (arm e body arms) f s b =
      let fs = three (is_formed_expr e) (are_formed_nodes body) (are_formed_arms arms) f in
      let ss = both (are_sourced_nodes false body) (are_sourced_arms arms) s in
      arm_is first e (nodes_pieces body ++ arms_pieces false arms) fs.0
      (then_any false (nodes_pieces body) (arms_pieces false arms) (nodes_are false body fs.1 ss.0 false tt)
      (arms_are false arms fs.2 ss.1)) b

  cases_are : (cases : Cases) → are_formed_cases cases ≡ true → are_sourced_cases cases ≡ true
      → Any (cases_pieces cases)
  cases_are no_case f s b = tt
  cases_are (case values body cases) f s b =
      let fs = three (list_all is_formed_expr values) (are_formed_nodes body) (are_formed_cases cases) f in
      let ss = three (has_value values) (are_sourced_nodes false body) (are_sourced_cases cases) s in (
        case_written values fs.0,
        then_any false (nodes_pieces body) (cases_pieces cases)
            (nodes_are false body fs.1 ss.1 false tt) (cases_are cases fs.2 ss.2),
      )

  arguments_are : (given : Arguments) → are_formed_arguments given ≡ true → are_sourced_arguments given ≡ true
      → Any (arguments_pieces given)
  arguments_are no_argument f s b = tt
  arguments_are (argument name g span rest) f s b =
      let fs = three (is_name name) (is_formed_given g) (are_formed_arguments rest) f in
      let ss = both (is_sourced_given g) (are_sourced_arguments rest) s in
      then_any b (argument_pieces name g) (arguments_pieces rest) (argument_are name g fs.0 fs.1 ss.0 b)
      (arguments_are rest fs.2 ss.1)

  argument_are : (name : Name) (g : Given) → is_name name ≡ true → is_formed_given g ≡ true → is_sourced_given g ≡ true
      → Any (argument_pieces name g)
  argument_are name (PlainGiven e) is f s b = (param_written name e is f, tt)
  argument_are name (Block k body) is f s b = (
    param_block_written name k is,
    then_any false (nodes_pieces body)
        (close_piece (codes "{/param}") (codes "param") ∷ []) (nodes_are false body f s false tt) (λ c.
        (param_close, tt)),
  )

  message_are : (word : List ℕ) → IsCommandWord word → (m : Message) → is_formed_message m ≡ true
      → is_sourced_message m ≡ true → Any (message_pieces (123 ∷ word) word m)
  message_are word w (message desc meaning body span) f s b =
      let fs = both (is_formed_body body) (nat_le (nesting body) 63) f in
      let ss = three (is_source_value desc) (is_source_value meaning) (is_sourced_body body) s in
      let d = both (lacks (34 ∷ []) desc) (lacks (0 ∷ []) desc) ss.0 in
      let e = both (lacks (34 ∷ []) meaning) (lacks (0 ∷ []) meaning) ss.1 in
      (message_written word desc meaning w d.0 d.1 e.0 e.1, body_are body fs.0 ss.2)

  fallback_are : (other : Fallback) → is_formed_fallback other ≡ true → is_sourced_fallback other ≡ true
      → Any (fallback_pieces other)
  fallback_are no_fallback f s b = tt
  fallback_are (fallback m) f s b = message_are (codes "fallbackmsg") fallbackmsg_word m f s b

  body_are : (body : MessageBody) → is_formed_body body ≡ true → is_sourced_body body ≡ true
      → ArePieces false (body_pieces body)
  body_are (Parts ns) f s =
      let fs = both (are_formed_nodes ns) (is_message_text ns) f in nodes_are true ns fs.0 s false tt
  body_are (Plural e offset cases other) f s =
      let fs = four (is_formed_expr e) (nat_le offset largest) (are_formed_plural_cases cases)
      (is_formed_body other) f in
      let ss = both (are_sourced_plural_cases cases) (is_sourced_body other) s in (
        plural_written e offset fs.0 fs.1,
        then_any false (plural_cases_pieces cases)
            (default_piece ∷ (body_pieces other ++ (close_piece (codes "{/plural}") (codes "plural") ∷ [])))
            (plural_cases_are cases fs.2 ss.0 false)
            (λ d. (
              default_is,
              then_any false (body_pieces other) (close_piece (codes "{/plural}") (codes "plural") ∷ [])
                  (body_are other fs.3 ss.1) (λ c. (plural_close, tt)),
            )),
      )
  body_are (Select e cases other) f s =
      let fs = three (is_formed_expr e) (are_formed_select_cases cases) (is_formed_body other) f in
      let ss = both (are_sourced_select_cases cases) (is_sourced_body other) s in (
        expr_command_written (codes "select") e select_word fs.0,
        then_any false (select_cases_pieces cases)
            (default_piece ∷ (body_pieces other ++ (close_piece (codes "{/select}") (codes "select") ∷ [])))
            (select_cases_are cases fs.1 ss.0 false)
            (λ d. (
              default_is,
              then_any false (body_pieces other) (close_piece (codes "{/select}") (codes "select") ∷ [])
                  (body_are other fs.2 ss.1) (λ c. (select_close, tt)),
            )),
      )

  plural_cases_are : (cases : PluralCases) → are_formed_plural_cases cases ≡ true
      → are_sourced_plural_cases cases ≡ true → Any (plural_cases_pieces cases)
  plural_cases_are no_plural_case f s b = tt
  plural_cases_are (plural_case n body cases) f s b =
      let fs = three (is_formed_int n) (is_formed_body body) (are_formed_plural_cases cases) f in
      let ss = both (is_sourced_body body) (are_sourced_plural_cases cases) s in (
        plural_case_written n fs.0,
        then_any false (body_pieces body) (plural_cases_pieces cases)
            (body_are body fs.1 ss.0) (plural_cases_are cases fs.2 ss.1),
      )

  select_cases_are : (cases : SelectCases) → are_formed_select_cases cases ≡ true
      → are_sourced_select_cases cases ≡ true → Any (select_cases_pieces cases)
  select_cases_are no_select_case f s b = tt
  select_cases_are (select_case word body cases) f s b =
      let fs = three (is_case_word word) (is_formed_body body) (are_formed_select_cases cases) f in
      let ss = both (is_sourced_body body) (are_sourced_select_cases cases) s in (
        select_case_written word,
        then_any false (body_pieces body) (select_cases_pieces cases)
            (body_are body fs.1 ss.0) (select_cases_are cases fs.2 ss.1),
      )
