-- The nodes of a text, as they are written, are read as nodes that are alike.
use Rattle.std.proofs.Common.{◌≡◌, ℕ, ◌+◌, ◌≤◌, ◌&&◌, not, Bool, true, false, List, [], Option, Some, None, refl}
use Rattle.std.proofs.Common.{subst}
use Rattle.std.specs.Prelude.{is_some}
use Rattle.std.specs.List.{list_all}
use Rattle.soy_base.specs.declared.fault.Span.{Span}
use Rattle.soy_base.specs.Names.{is_dotted_name, is_name}
use Rattle.soy_tree.specs.Formed.{are_formed_arguments, are_formed_arms, are_formed_cases, are_formed_nodes}
use Rattle.soy_tree.specs.Formed.{begins_with_text, if_there, is_formed_expr, is_formed_fallback, is_formed_given}
use Rattle.soy_tree.specs.Formed.{is_formed_message, is_formed_node, is_formed_otherwise, is_text}
use Rattle.soy_tree.specs.Nodes.{Node, Nodes, Otherwise, Arms, Cases, Arguments, Given, TextNode, Print, If, Switch}
use Rattle.soy_tree.specs.Nodes.{For}
use Rattle.soy_tree.specs.Nodes.{Let, LetBlock, Call, MessageNode, no_node, node, no_otherwise, otherwise, no_arm, arm}
use Rattle.soy_tree.specs.Nodes.{no_case, case, no_argument, argument, Plain, Block}
use Rattle.soy_tree.specs.Types.{Name}
use Rattle.soy_parser.specs.SpellsTree.{SpellsNode}
use Rattle.formatted_source.specs.EdgedPieces.{edged_pieces}
use Rattle.formatted_source.specs.NodePieces.{argument_pieces, arguments_pieces, arms_pieces, cases_pieces, node_pieces}
use Rattle.formatted_source.specs.NodePieces.{nodes_pieces}
use Rattle.formatted_source.specs.Pieces.{Piece}
use Rattle.formatted_source.specs.SourcedTrees.{are_sourced_arguments, are_sourced_arms, are_sourced_cases}
use Rattle.formatted_source.specs.SourcedTrees.{are_sourced_nodes, has_arm, has_value, is_sourced_given}
use Rattle.formatted_source.specs.SourcedTrees.{is_sourced_node}
use Rattle.formatted_source.specs.SourcedTrees.{is_sourced_otherwise}
use Rattle.formatted_source.specs.TreeLexemes.{line_lexemes}
use Rattle.formatted_source.proofs.BlockEnds.{OtherwiseSpeaks}
use Rattle.formatted_source.proofs.CallNodes.{ArgumentIs, ArgumentsAre, arguments_speak, call_speaks}
use Rattle.formatted_source.proofs.CallNodes.{no_arguments_speak, param_block_speaks, param_speaks}
use Rattle.formatted_source.proofs.Conditions.{four, three}
use Rattle.formatted_source.proofs.EdgedNodes.{edged_nodes, own_pieces}
use Rattle.formatted_source.proofs.Fitting.FittingTrees.{ArgumentsFit, ArmsFit, CasesFit, FirstFits, GivenFits}
use Rattle.formatted_source.proofs.Fitting.FittingTrees.{NodeFits, NodesFit, OtherwiseFits}
use Rattle.formatted_source.proofs.IfNodes.{ArmsAre, MoreArms, arms_speak, first_arm_speaks, if_speaks}
use Rattle.formatted_source.proofs.IfNodes.{no_arms_speak}
use Rattle.formatted_source.proofs.MessagesSpelled.{message_node_spelled}
use Rattle.formatted_source.proofs.Written.Names.{both}
use Rattle.formatted_source.proofs.NodeAlike.{BodyIs, NodeIs}
use Rattle.formatted_source.proofs.NodeLexemes.{all_lexemes}
use Rattle.formatted_source.proofs.NodesPieces.{NodesPieces}
use Rattle.formatted_source.proofs.NodesWalked.{EachSpeaks, body_walked}
use Rattle.formatted_source.proofs.PlainNodes.{call_alone_speaks, for_speaks, let_block_speaks, let_speaks}
use Rattle.formatted_source.proofs.PlainNodes.{print_speaks}
use Rattle.formatted_source.proofs.Speaking.{Speaks}
use Rattle.formatted_source.proofs.SwitchNodes.{CasesAre, any_case_speaks, no_cases_speak, switch_speaks}

-- prints outside of messages have no name
unnamed : (phname : Option Name) → not (is_some phname) ≡ true → None ≡ phname
unnamed None h = refl
unnamed (Some name) h = absurd (cc)

-- the body of a block
own_body : (b : ℕ) (ns : Nodes) → b ≤ 64 → are_formed_nodes ns ≡ true → EachSpeaks SpellsNode b ns
    → Speaks b (all_lexemes [] (nodes_pieces ns)) (BodyIs ns)
own_body b ns le f each = body_walked b ns (nodes_pieces ns) le (own_pieces ns) f each

-- a call, with params or without
any_call : (b : ℕ) (name : Name) (all : Bool) (given : Arguments) (span : Span) → b ≤ 64 → ArgumentsFit (b + 1) given
    → Speaks (b + 1) (all_lexemes [] (arguments_pieces given)) (ArgumentsAre given)
    → Speaks b (all_lexemes [] (node_pieces (Call name all given span))) (NodeIs (Call name all given span))
any_call b name all no_argument span le fit inner = call_alone_speaks b name all span le
any_call b name all (argument first g at rest) span le fit inner =
    call_speaks b name all first g at rest span fit.0 inner

mutual
  node_speaks : (b : ℕ) (n : Node) → is_formed_node n ≡ true → is_sourced_node false n ≡ true → NodeFits b n
      → is_text n ≡ false → Speaks b (all_lexemes [] (node_pieces n)) (NodeIs n)
  node_speaks b (TextNode text span) f s fit k = absurd (cc)
  node_speaks b (Print e phname span) f s fit k =
      let fs = both (is_formed_expr e) (if_there is_name phname) f in
      subst (λ p. Speaks b (all_lexemes [] (node_pieces (Print e p span))) (NodeIs (Print e p span))) (unnamed phname s)
      (print_speaks b e span fs.0 fit)
  node_speaks b (If arms other span) f s fit k =
      let fs = both (are_formed_arms arms) (is_formed_otherwise other) f in
      let ss = three (has_arm arms) (are_sourced_arms arms) (is_sourced_otherwise other) s in
      if_speaks b arms other span fit.0 (all_arms b arms fit.0 ss.0 fs.0 ss.1 fit.1)
      (otherwise_speaks (b + 1) other fit.0 fs.1 ss.2 fit.2)
  node_speaks b (Switch e cases other span) f s fit k =
      let fs = three (is_formed_expr e) (are_formed_cases cases) (is_formed_otherwise other) f in
      let ss = both (are_sourced_cases cases) (is_sourced_otherwise other) s in
      switch_speaks b e cases other span fit.0 fs.0 fit.1 (more_cases (b + 1) cases fit.0 fs.1 ss.0 fit.2)
      (otherwise_speaks (b + 1) other fit.0 fs.2 ss.1 fit.3)
  node_speaks b (For name index e body span) f s fit k =
      let fs = four (is_name name) (if_there is_name index) (is_formed_expr e) (are_formed_nodes body) f in
      for_speaks b name index e body span fit.0 fs.2 fit.1
      (own_body (b + 1) body fit.0 fs.3 (each_speaks (b + 1) body fs.3 s fit.2))
  node_speaks b (Let name e span) f s fit k =
      let fs = both (is_name name) (is_formed_expr e) f in let_speaks b name e span fs.1 fit
  node_speaks b (LetBlock name kind body span) f s fit k =
      let fs = both (is_name name) (are_formed_nodes body) f in
      let_block_speaks b name kind body span fit.0
      (own_body (b + 1) body fit.0 fs.1 (each_speaks (b + 1) body fs.1 s fit.1))
  node_speaks b (Call name all given span) f s fit k =
      let fs = both (is_dotted_name name) (are_formed_arguments given) f in
      any_call b name all given span fit.0 fit.1 (more_arguments (b + 1) given fs.1 s fit.1)
  node_speaks b (MessageNode m other span) f s fit k =
      let fs = both (is_formed_message m) (is_formed_fallback other) f in
      message_node_spelled b m other span fs.0 fs.1 fit.0 fit.1 fit.2

  each_speaks : (b : ℕ) (ns : Nodes) → are_formed_nodes ns ≡ true → are_sourced_nodes false ns ≡ true → NodesFit b ns
      → EachSpeaks SpellsNode b ns
  each_speaks b no_node f s fit = tt
  each_speaks b (node n ns) f s fit =
      let fs = three (is_formed_node n) (not (is_text n && begins_with_text ns)) (are_formed_nodes ns) f in
      let ss = both (is_sourced_node false n) (are_sourced_nodes false ns) s in
      (node_speaks b n fs.0 ss.0 fit.0, each_speaks b ns fs.2 ss.1 fit.1)

  otherwise_speaks : (b : ℕ) (other : Otherwise) → b ≤ 64 → is_formed_otherwise other ≡ true
      → is_sourced_otherwise other ≡ true → OtherwiseFits b other → OtherwiseSpeaks b other
  otherwise_speaks b no_otherwise le f s fit = tt
  otherwise_speaks b (otherwise body) le f s fit = own_body b body le f (each_speaks b body f s fit)

  all_arms : (b : ℕ) (arms : Arms) → b + 1 ≤ 64 → has_arm arms ≡ true → are_formed_arms arms ≡ true
      → are_sourced_arms arms ≡ true → FirstFits b arms
      → Speaks b (all_lexemes [] (arms_pieces true arms)) (ArmsAre arms)
  all_arms b no_arm le some f s fit = absurd (cc)
  all_arms b (arm e body arms) le some f s fit =
      let fs = three (is_formed_expr e) (are_formed_nodes body) (are_formed_arms arms) f in
      let ss = both (are_sourced_nodes false body) (are_sourced_arms arms) s in
      first_arm_speaks b e body arms le fs.0 fit.0
      (own_body (b + 1) body le fs.1 (each_speaks (b + 1) body fs.1 ss.0 fit.1)) (more_arms b arms le fs.2 ss.1 fit.2)

  more_arms : (b : ℕ) (arms : Arms) → b + 1 ≤ 64 → are_formed_arms arms ≡ true → are_sourced_arms arms ≡ true
      → ArmsFit (b + 1) arms → Speaks b (all_lexemes [] (arms_pieces false arms)) (MoreArms arms)
  more_arms b no_arm le f s fit = no_arms_speak b
  more_arms b (arm e body arms) le f s fit =
      let fs = three (is_formed_expr e) (are_formed_nodes body) (are_formed_arms arms) f in
      let ss = both (are_sourced_nodes false body) (are_sourced_arms arms) s in
      arms_speak b e body arms le fs.0 fit.0
      (own_body (b + 1) body le fs.1 (each_speaks (b + 1) body fs.1 ss.0 fit.1)) (more_arms b arms le fs.2 ss.1 fit.2)

  more_cases : (b : ℕ) (cases : Cases) → b ≤ 64 → are_formed_cases cases ≡ true → are_sourced_cases cases ≡ true
      → CasesFit b cases → Speaks b (all_lexemes [] (cases_pieces cases)) (CasesAre cases)
  more_cases b no_case le f s fit = no_cases_speak b
  more_cases b (case values body cases) le f s fit =
      let fs = three (list_all is_formed_expr values) (are_formed_nodes body) (are_formed_cases cases) f in
      let ss = three (has_value values) (are_sourced_nodes false body) (are_sourced_cases cases) s in
      any_case_speaks b values body cases le ss.0 fs.0 fit.0 (own_body b body le fs.1 (each_speaks b body fs.1 ss.1 fit.1))
      (more_cases b cases le fs.2 ss.2 fit.2)

  more_arguments : (b : ℕ) (arguments : Arguments) → are_formed_arguments arguments ≡ true
      → are_sourced_arguments arguments ≡ true → ArgumentsFit b arguments
      → Speaks b (all_lexemes [] (arguments_pieces arguments)) (ArgumentsAre arguments)
  more_arguments b no_argument f s fit = no_arguments_speak b
  more_arguments b (argument name g span rest) f s fit =
      let fs = three (is_name name) (is_formed_given g) (are_formed_arguments rest) f in
      let ss = both (is_sourced_given g) (are_sourced_arguments rest) s in
      arguments_speak b name g span rest (given_speaks b name g fs.1 ss.0 fit.1)
      (more_arguments b rest fs.2 ss.1 fit.2)

  given_speaks : (b : ℕ) (name : Name) (g : Given) → is_formed_given g ≡ true → is_sourced_given g ≡ true
      → GivenFits b g → Speaks b (all_lexemes [] (argument_pieces name g)) (ArgumentIs name g)
  given_speaks b name (Plain e) f s fit = param_speaks b name e f fit
  given_speaks b name (Block kind body) f s fit =
      param_block_speaks b name kind body fit.0
      (own_body (b + 1) body fit.0 f (each_speaks (b + 1) body f s fit.1))

-- **Nodes with their pieces are read as nodes that are alike.**
pub body_spelled : (b : ℕ) (ns : Nodes) (ps : List Piece) → NodesPieces ns ps → are_formed_nodes ns ≡ true
    → are_sourced_nodes false ns ≡ true → NodesFit b ns → b ≤ 64 → Speaks b (all_lexemes [] ps) (BodyIs ns)
body_spelled b ns ps d f s fit le = body_walked b ns ps le d f (each_speaks b ns f s fit)

-- **And so is the line of a body.**
pub line_spelled : (b : ℕ) (ns : Nodes) → are_formed_nodes ns ≡ true → are_sourced_nodes false ns ≡ true
    → NodesFit b ns → b ≤ 64 → Speaks b (line_lexemes (nodes_pieces ns)) (BodyIs ns)
line_spelled b ns f s fit le =
    body_spelled b ns (edged_pieces (nodes_pieces ns)) (edged_nodes ns (nodes_pieces ns) (own_pieces ns)) f s fit le
