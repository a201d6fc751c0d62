-- Translations that fit files fit each message of their templates.
use Rattle.std.proofs.Common.{◌≡◌, ℕ, ◌+◌, true, List, [], ◌∷◌, ◌++◌, Option}
use Rattle.std.specs.Prelude.{nat_le, not, ◌&&◌}
use Rattle.std.specs.List.{list_all}
use Rattle.std.proofs.lemmas.Bool.{and_parts}
use Rattle.soy_base.specs.Names.{is_dotted_name, is_name}
use Rattle.soy_tree.specs.Formed.{are_formed_arguments, are_formed_arms, are_formed_cases, are_formed_nodes}
use Rattle.soy_tree.specs.Formed.{are_formed_plural_cases, are_formed_select_cases, begins_with_text, if_there}
use Rattle.soy_tree.specs.Formed.{is_case_word, is_formed_body, is_formed_expr, is_formed_fallback, is_formed_given}
use Rattle.soy_tree.specs.Formed.{is_formed_int, is_formed_message, is_formed_node, is_formed_otherwise}
use Rattle.soy_tree.specs.Formed.{is_formed_param}
use Rattle.soy_tree.specs.Formed.{is_formed_template, is_formed_tree, is_message_text, is_text, nesting}
use Rattle.soy_base.specs.Limits.{largest}
use Rattle.soy_tree.specs.MessageParts.{MsgParts}
use Rattle.soy_tree.specs.MessageText.{message_items}
use Rattle.soy_tree.specs.Nodes.{Node, Nodes, Otherwise, Arms, Cases, Arguments, Given, Message, Fallback, MessageBody}
use Rattle.soy_tree.specs.Nodes.{PluralCases, SelectCases, TextNode, Print, If, Switch, For, Let, LetBlock, Call}
use Rattle.soy_tree.specs.Nodes.{MessageNode, no_node, node, no_otherwise, otherwise, no_arm, arm, no_case, case}
use Rattle.soy_tree.specs.Nodes.{no_argument, argument, Plain, Block, message, no_fallback, fallback, Parts, Plural}
use Rattle.soy_tree.specs.Nodes.{Select, no_plural_case, plural_case, no_select_case, select_case}
use Rattle.soy_rules.specs.Templates.{Declared, declared_from, declared_in}
use Rattle.soy_tree.specs.Trees.{Template, Tree}
use Rattle.soy_tree.specs.Types.{Name}
use Rattle.msg_extract.specs.Fits.{FitsMessages, FitsTrees}
use Rattle.msg_extract.specs.MessagesIn.{argument_messages, arm_messages, case_messages, fallback_messages}
use Rattle.msg_extract.specs.MessagesIn.{given_messages, messages_in, node_messages, otherwise_messages}
use Rattle.msg_extract.specs.MessagesIn.{template_messages}
use Rattle.soy_meaning.specs.Runs.TranslationFits.{ArgumentsFit, ArmsFit, BodyFits, CasesFit, FallbackFits, GivenFits}
use Rattle.soy_meaning.specs.Runs.TranslationFits.{NodeFits, NodesFit, OtherFits, PluralFits, SelectFits}
use Rattle.soy_meaning.specs.Runs.TranslationFits.{TranslationsFit}
use Rattle.template_ir.specs.CompiledTrees.{ArePatterns, ArgumentPatterns, ArmPatterns, CasePatterns, FallbackPattern}
use Rattle.template_ir.specs.CompiledTrees.{GivenPatterns, NodePatterns, NodesPatterns, OtherPatterns}
use Rattle.template_ir.specs.Placed.{AreTexts}
use Rattle.template_ir.proofs.Demands.{are_texts, some_cuts}
use Rattle.ir_build.specs.Translated.{translated_by}
use Rattle.ir_build.proofs.FittingParts.{message_fitting}

module _ (translation : List ℕ → Option MsgParts) where
  abbrev by_message : Message → Option MsgParts
  by_message = translated_by translation

  fit_split : (ms more : List Message) → FitsMessages translation (ms ++ more)
      → FitsMessages translation ms × FitsMessages translation more
  fit_split [] more h = (tt, h)
  fit_split (m ∷ ms) more h = let r = fit_split ms more h.1 in ((h.0, r.0), r.1)

  -- ---- the texts of messages hold no message

  texts_fit : (ns : Nodes) → AreTexts ns → NodesFit by_message ns
  texts_fit no_node texts = tt
  texts_fit (node (TextNode text span) ns) texts = (tt, texts_fit ns texts)
  texts_fit (node (Print e phname span) ns) texts = (tt, texts_fit ns texts)
  texts_fit (node (If arms other span) ns) texts = absurd texts
  texts_fit (node (Switch e cases other span) ns) texts = absurd texts
  texts_fit (node (For name index e body span) ns) texts = absurd texts
  texts_fit (node (Let name e span) ns) texts = absurd texts
  texts_fit (node (LetBlock name kind body span) ns) texts = absurd texts
  texts_fit (node (Call name all given span) ns) texts = absurd texts
  texts_fit (node (MessageNode m other span) ns) texts = absurd texts

  mutual
    body_fits : (body : MessageBody) → is_formed_body body ≡ true → BodyFits by_message body
    body_fits (Parts ns) formed =
        let f = and_parts (are_formed_nodes ns) (is_message_text ns) formed in
        texts_fit ns (are_texts ns (some_cuts (message_items ns) f.1))
    body_fits (Plural e offset cases other) formed =
        let f = and_parts ((is_formed_expr e && nat_le offset largest) && are_formed_plural_cases cases)
        (is_formed_body other) formed in
        let g = and_parts (is_formed_expr e && nat_le offset largest) (are_formed_plural_cases cases) f.0 in
        (plural_fits cases g.1, body_fits other f.1)
    body_fits (Select e cases other) formed =
        let f = and_parts (is_formed_expr e && are_formed_select_cases cases) (is_formed_body other) formed in
        let g = and_parts (is_formed_expr e) (are_formed_select_cases cases) f.0 in
        (select_fits cases g.1, body_fits other f.1)

    plural_fits : (cases : PluralCases) → are_formed_plural_cases cases ≡ true → PluralFits by_message cases
    plural_fits no_plural_case formed = tt
    plural_fits (plural_case n body cases) formed =
        let f = and_parts (is_formed_int n && is_formed_body body) (are_formed_plural_cases cases) formed in
        let g = and_parts (is_formed_int n) (is_formed_body body) f.0 in
        (body_fits body g.1, plural_fits cases f.1)

    select_fits : (cases : SelectCases) → are_formed_select_cases cases ≡ true → SelectFits by_message cases
    select_fits no_select_case formed = tt
    select_fits (select_case word body cases) formed =
        let f = and_parts (is_case_word word && is_formed_body body) (are_formed_select_cases cases) formed in
        let g = and_parts (is_case_word word) (is_formed_body body) f.0 in
        (body_fits body g.1, select_fits cases f.1)

  -- ---- nodes

  fallback_fits : (other : Fallback) → FitsMessages translation (fallback_messages other)
      → FallbackFits by_message other × FallbackPattern by_message other
  fallback_fits no_fallback h = (tt, tt)
  fallback_fits (fallback m) h = message_fitting m (by_message m) h.0

  mutual
    node_fits : (n : Node) → is_formed_node n ≡ true → FitsMessages translation (node_messages n)
        → NodeFits by_message n × NodePatterns by_message n
    node_fits (TextNode text span) formed h = (tt, tt)
    node_fits (Print e phname span) formed h = (tt, tt)
    node_fits (If arms other span) formed h =
        let f = and_parts (are_formed_arms arms) (is_formed_otherwise other) formed in
        let m = fit_split (arm_messages arms) (otherwise_messages other) h in
        let one = arms_fit arms f.0 m.0 in
        let two = other_fits other f.1 m.1 in ((one.0, two.0), (one.1, two.1))
    node_fits (Switch e cases other span) formed h =
        let f = and_parts (is_formed_expr e && are_formed_cases cases) (is_formed_otherwise other) formed in
        let g = and_parts (is_formed_expr e) (are_formed_cases cases) f.0 in
        let m = fit_split (case_messages cases) (otherwise_messages other) h in
        let one = cases_fit cases g.1 m.0 in
        let two = other_fits other f.1 m.1 in ((one.0, two.0), (one.1, two.1))
    node_fits (For name index e body span) formed h =
        nodes_fit body
        (and_parts ((is_name name && if_there is_name index) && is_formed_expr e) (are_formed_nodes body) formed).1 h
    node_fits (Let name e span) formed h = (tt, tt)
    node_fits (LetBlock name kind body span) formed h =
        nodes_fit body (and_parts (is_name name) (are_formed_nodes body) formed).1 h
    node_fits (Call name all given span) formed h =
        arguments_fit given (and_parts (is_dotted_name name) (are_formed_arguments given) formed).1 h
    node_fits (MessageNode (message desc meaning body within) other span) formed h =
        let f = and_parts (is_formed_message (message desc meaning body within)) (is_formed_fallback other) formed in
        let g = and_parts (is_formed_body body) (nat_le (nesting body) 63) f.0 in
        let one = message_fitting (message desc meaning body within) (by_message (message desc meaning body within))
        h.0 in
        let two = fallback_fits other h.1 in ((one.0, body_fits body g.0, two.0), (one.1, two.1))

    nodes_fit : (ns : Nodes) → are_formed_nodes ns ≡ true → FitsMessages translation (messages_in ns)
        → NodesFit by_message ns × NodesPatterns by_message ns
    nodes_fit no_node formed h = (tt, tt)
    nodes_fit (node n ns) formed h =
        let f = and_parts (is_formed_node n && not (is_text n && begins_with_text ns)) (are_formed_nodes ns) formed in
        let g = and_parts (is_formed_node n) (not (is_text n && begins_with_text ns)) f.0 in
        let m = fit_split (node_messages n) (messages_in ns) h in
        let one = node_fits n g.0 m.0 in
        let two = nodes_fit ns f.1 m.1 in ((one.0, two.0), (one.1, two.1))

    other_fits : (other : Otherwise) → is_formed_otherwise other ≡ true
        → FitsMessages translation (otherwise_messages other)
        → OtherFits by_message other × OtherPatterns by_message other
    other_fits no_otherwise formed h = (tt, tt)
    other_fits (otherwise body) formed h = nodes_fit body formed h

    arms_fit : (arms : Arms) → are_formed_arms arms ≡ true → FitsMessages translation (arm_messages arms)
        → ArmsFit by_message arms × ArmPatterns by_message arms
    arms_fit no_arm formed h = (tt, tt)
    arms_fit (arm e body arms) formed h =
        let f = and_parts (is_formed_expr e && are_formed_nodes body) (are_formed_arms arms) formed in
        let g = and_parts (is_formed_expr e) (are_formed_nodes body) f.0 in
        let m = fit_split (messages_in body) (arm_messages arms) h in
        let one = nodes_fit body g.1 m.0 in
        let two = arms_fit arms f.1 m.1 in ((one.0, two.0), (one.1, two.1))

    cases_fit : (cases : Cases) → are_formed_cases cases ≡ true → FitsMessages translation (case_messages cases)
        → CasesFit by_message cases × CasePatterns by_message cases
    cases_fit no_case formed h = (tt, tt)
    cases_fit (case values body cases) formed h =
        let f = and_parts (list_all is_formed_expr values && are_formed_nodes body) (are_formed_cases cases) formed in
        let g = and_parts (list_all is_formed_expr values) (are_formed_nodes body) f.0 in
        let m = fit_split (messages_in body) (case_messages cases) h in
        let one = nodes_fit body g.1 m.0 in
        let two = cases_fit cases f.1 m.1 in ((one.0, two.0), (one.1, two.1))

    arguments_fit : (given : Arguments) → are_formed_arguments given ≡ true
        → FitsMessages translation (argument_messages given)
        → ArgumentsFit by_message given × ArgumentPatterns by_message given
    arguments_fit no_argument formed h = (tt, tt)
    arguments_fit (argument name given span rest) formed h =
        let f = and_parts (is_name name && is_formed_given given) (are_formed_arguments rest) formed in
        let g = and_parts (is_name name) (is_formed_given given) f.0 in
        let m = fit_split (given_messages given) (argument_messages rest) h in
        let one = given_fits given g.1 m.0 in
        let two = arguments_fit rest f.1 m.1 in ((one.0, two.0), (one.1, two.1))

    given_fits : (given : Given) → is_formed_given given ≡ true → FitsMessages translation (given_messages given)
        → GivenFits by_message given × GivenPatterns by_message given
    given_fits (Plain e) formed h = (tt, tt)
    given_fits (Block kind body) formed h = nodes_fit body formed h

  -- ---- files

  both_fit : (ds es : List Declared) → TranslationsFit by_message ds × ArePatterns by_message ds
      → TranslationsFit by_message es × ArePatterns by_message es
      → TranslationsFit by_message (ds ++ es) × ArePatterns by_message (ds ++ es)
  both_fit [] es h k = k
  both_fit (d ∷ ds) es h k =
      let r = both_fit ds es (h.0.1, h.1.1) k in ((h.0.0, r.0), (h.1.0, r.1))

  templates_fit : (file : ℕ) (namespace : Name) (ts : List Template) → list_all is_formed_template ts ≡ true
      → FitsMessages translation (template_messages ts)
      → TranslationsFit by_message (declared_in file namespace ts) × ArePatterns by_message
      (declared_in file namespace ts)
  templates_fit file namespace [] formed h = (tt, tt)
  templates_fit file namespace (t ∷ ts) formed h =
      let f = and_parts (is_formed_template t) (list_all is_formed_template ts) formed in
      let g = and_parts (is_name t.name && list_all is_formed_param t.params) (are_formed_nodes t.body) f.0 in
      let m = fit_split (messages_in t.body) (template_messages ts) h in
      let one = nodes_fit t.body g.1 m.0 in
      let two = templates_fit file namespace ts f.1 m.1 in ((one.0, two.0), (one.1, two.1))

  pub trees_fit : (file : ℕ) (trees : List Tree) → list_all is_formed_tree trees ≡ true → FitsTrees translation trees
      → TranslationsFit by_message (declared_from file trees) × ArePatterns by_message (declared_from file trees)
  trees_fit file [] formed h = (tt, tt)
  trees_fit file (tree ∷ trees) formed h =
      let f = and_parts (is_formed_tree tree) (list_all is_formed_tree trees) formed in
      let g = and_parts (is_dotted_name tree.namespace) (list_all is_formed_template tree.templates) f.0 in
      both_fit (declared_in file tree.namespace tree.templates) (declared_from (file + 1) trees)
      (templates_fit file tree.namespace tree.templates g.1 h.0) (trees_fit (file + 1) trees f.1 h.1)
