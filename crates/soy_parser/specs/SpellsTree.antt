-- Which commands are a file, and which tree it is: a case for each row of the grammar, on whole lists of commands.
-- `SpellsBody cs ls ns`: the commands cs are the nodes ns, and ls are the numbers of block commands that are open
-- around each of them. A block command is open from the end of its opening command to the end of its closing one.
-- Example: `{if $x}a{else}b{/if}` is one node, at the levels 0, 1, 1, 1 and 1.
use Rattle.std.specs.Prelude.{◌≡◌, ℕ, ℤ, Bool, true, List, [], ◌∷◌, ◌++◌, Option, Some, None}
use Rattle.std.specs.List.{list_all}
use Rattle.soy_base.specs.WhiteSpace.{is_template_space}
use Rattle.soy_base.specs.declared.fault.Span.{Span}
use Rattle.soy_base.specs.declared.kind.Kind.{Kind}
use Rattle.soy_tree.specs.Formed.{is_message_text}
use Rattle.soy_tree.specs.ViewNodes.{view_nodes}
use Rattle.soy_tree.specs.declared.expr.Expr.{Expr}
use Rattle.soy_tree.specs.declared.node.Argument.{Argument}
use Rattle.soy_tree.specs.declared.node.Arm.{Arm}
use Rattle.soy_tree.specs.declared.node.Case.{Case}
use Rattle.soy_tree.specs.declared.node.Form.TheVariants as form
use Rattle.soy_tree.specs.declared.node.Given.TheVariants as given
use Rattle.soy_tree.specs.declared.node.MessageBody.{MessageBody}
use Rattle.soy_tree.specs.declared.node.MessageBody.TheVariants as message_body
use Rattle.soy_tree.specs.declared.node.Node.{Node}
use Rattle.soy_tree.specs.declared.node.PluralCase.{PluralCase}
use Rattle.soy_tree.specs.declared.node.SelectCase.{SelectCase}
use Rattle.soy_tree.specs.declared.soy_type.SoyType.{SoyType}
use Rattle.soy_tree.specs.declared.tree.Param.{Param}
use Rattle.soy_tree.specs.declared.tree.Template.{Template}
use Rattle.soy_tree.specs.declared.tree.Tree.{Tree}
use Rattle.expr_parser.specs.Operands.{joined}
use Rattle.soy_parser.specs.declared.command.Command.{Command}
use Rattle.soy_parser.specs.declared.command.Middle.TheVariants as middle
use Rattle.soy_parser.specs.declared.command.Opening.TheVariants as opening
use Rattle.soy_parser.specs.declared.command.Single.TheVariants as single
use Rattle.soy_parser.specs.declared.command.CommandForm.{CommandForm}
use Rattle.soy_parser.specs.declared.command.CommandForm.TheVariants as says
use Rattle.soy_parser.specs.declared.command.TemplateOpening.{TemplateOpening}
use Rattle.soy_parser.specs.declared.terminal.BlockName.TheVariants as block
use Rattle.soy_parser.specs.Depth.{inside_blocks}
use Rattle.soy_parser.specs.Nodes.{node_of, arm_of, case_of, argument_of, whole_message, plural_cases, select_cases}
use Rattle.soy_parser.specs.Nodes.{text_span, up_to}

-- these commands are white text alone, as may stand before the namespace, before a first case, and beside a plural or
-- select
pub data SpellsWhite : List Command → List ℕ → Type 0 where
  none_ : SpellsWhite [] []
  more_ : (cs : List Command) (ls : List ℕ) (c : Command) (text : List ℕ) → SpellsWhite cs ls → c.form ≡ says.Text text
      → list_all is_template_space text ≡ true → SpellsWhite (cs ++ (c ∷ [])) (ls ++ (0 ∷ []))

-- the text of a text run, a literal or a character command
abbrev pub text_of : CommandForm → Option (List ℕ)
text_of (says.Text text) = Some text
text_of (says.Character text) = Some text
text_of _ = None

-- neighbouring texts, as the one text that they are
pub data SpellsText : List Command → List ℕ → List ℕ → Span → Type 0 where
  first_ : (c : Command) (text : List ℕ) → text_of c.form ≡ Some text → SpellsText (c ∷ []) (0 ∷ []) text c.span
  next_ : (cs : List Command) (ls : List ℕ) (c : Command) (text more : List ℕ) (span : Span)
      → SpellsText cs ls text span
      → text_of c.form ≡ Some more
      → SpellsText (cs ++ (c ∷ [])) (ls ++ (0 ∷ [])) (text ++ more) (text_span text more span c.span)

-- the texts and prints of a message; in `SpellsPrints` the last of them is no text

mutual
  pub data SpellsPrints : List Command → List ℕ → List Node → Type 0 where
    none_ : SpellsPrints [] [] []
    print_ : (cs : List Command) (ls : List ℕ) (ns : List Node) (c : Command) (e : Expr) (phname : Option (List ℕ))
        → SpellsParts cs ls ns → c.form ≡ says.Single (single.MessagePrint e phname)
        → SpellsPrints (cs ++ (c ∷ [])) (ls ++ (0 ∷ [])) (ns ++ (node_of (form.Print e phname) c.span ∷ []))

  pub data SpellsParts : List Command → List ℕ → List Node → Type 0 where
    plain_ : (cs : List Command) (ls : List ℕ) (ns : List Node) → SpellsPrints cs ls ns → SpellsParts cs ls ns
    text_ : (cs ds : List Command) (ls ms : List ℕ) (ns : List Node) (text : List ℕ) (span : Span)
        → SpellsPrints cs ls ns → SpellsText ds ms text span
        → SpellsParts (cs ++ ds) (ls ++ ms) (ns ++ (node_of (form.Text text) span ∷ []))

-- what a message holds: text, prints and whole tags, or one plural or select with white text beside it

mutual
  pub data SpellsMessageBody : List Command → List ℕ → MessageBody → Type 0 where
    parts_ : (cs : List Command) (ls : List ℕ) (ns : List Node) → SpellsParts cs ls ns
        → is_message_text (view_nodes ns) ≡ true → SpellsMessageBody cs ls (message_body.Parts ns)
    choice_ : (cs bs ds : List Command) (ls ks ms : List ℕ) (body : MessageBody)
        → SpellsWhite cs ls → SpellsChoice bs ks body → SpellsWhite ds ms
        → SpellsMessageBody (cs ++ (bs ++ ds)) (ls ++ (ks ++ ms)) body

  pub data SpellsChoice : List Command → List ℕ → MessageBody → Type 0 where
    plural_ : (c d z : Command) (cs bs ds : List Command) (ls ks ms : List ℕ) (e : Expr) (offset : ℕ)
        (cases : List PluralCase) (other : MessageBody)
        → c.form ≡ says.Opens (opening.Plural e offset) → SpellsWhite ds ms → SpellsPluralCases cs ls cases
        → d.form ≡ says.GoesOn middle.Default
        → SpellsMessageBody bs ks other → z.form ≡ says.Closes block.Plural
        → SpellsChoice (c ∷ (ds ++ (cs ++ (d ∷ (bs ++ (z ∷ []))))))
        (0 ∷ inside_blocks 1 (ms ++ (ls ++ (0 ∷ (ks ++ (0 ∷ []))))))
        (message_body.Plural e offset cases other)
    select_ : (c d z : Command) (cs bs ds : List Command) (ls ks ms : List ℕ) (e : Expr)
        (cases : List SelectCase) (other : MessageBody)
        → c.form ≡ says.Opens (opening.Select e) → SpellsWhite ds ms → SpellsSelectCases cs ls cases
        → d.form ≡ says.GoesOn middle.Default
        → SpellsMessageBody bs ks other → z.form ≡ says.Closes block.Select
        → SpellsChoice (c ∷ (ds ++ (cs ++ (d ∷ (bs ++ (z ∷ []))))))
        (0 ∷ inside_blocks 1 (ms ++ (ls ++ (0 ∷ (ks ++ (0 ∷ []))))))
        (message_body.Select e cases other)

  pub data SpellsPluralCases : List Command → List ℕ → List PluralCase → Type 0 where
    no_plural_case_ : SpellsPluralCases [] [] []
    plural_case_ : (cs bs : List Command) (ls ks : List ℕ) (cases : List PluralCase) (c : Command) (values : List ℤ)
        (body : MessageBody)
        → SpellsPluralCases cs ls cases → c.form ≡ says.GoesOn (middle.PluralCase values) → SpellsMessageBody bs ks body
        → SpellsPluralCases (cs ++ (c ∷ bs)) (ls ++ (0 ∷ ks)) (cases ++ plural_cases values body)

  pub data SpellsSelectCases : List Command → List ℕ → List SelectCase → Type 0 where
    no_select_case_ : SpellsSelectCases [] [] []
    select_case_ : (cs bs : List Command) (ls ks : List ℕ) (cases : List SelectCase) (c : Command)
        (values : List (List ℕ))
        (body : MessageBody)
        → SpellsSelectCases cs ls cases → c.form ≡ says.GoesOn (middle.SelectCase values) → SpellsMessageBody bs ks body
        → SpellsSelectCases (cs ++ (c ∷ bs)) (ls ++ (0 ∷ ks)) (cases ++ select_cases values body)

mutual
  -- the nodes of a body, of which the last is no text
  pub data SpellsNodes : List Command → List ℕ → List Node → Type 0 where
    no_node_ : SpellsNodes [] [] []
    node_ : (cs ds : List Command) (ls ms : List ℕ) (ns : List Node) (n : Node) → SpellsBody cs ls ns
        → SpellsNode ds ms n
        → SpellsNodes (cs ++ ds) (ls ++ ms) (ns ++ (n ∷ []))

  pub data SpellsBody : List Command → List ℕ → List Node → Type 0 where
    plain_ : (cs : List Command) (ls : List ℕ) (ns : List Node) → SpellsNodes cs ls ns → SpellsBody cs ls ns
    text_ : (cs ds : List Command) (ls ms : List ℕ) (ns : List Node) (text : List ℕ) (span : Span)
        → SpellsNodes cs ls ns → SpellsText ds ms text span
        → SpellsBody (cs ++ ds) (ls ++ ms) (ns ++ (node_of (form.Text text) span ∷ []))

  -- one node
  pub data SpellsNode : List Command → List ℕ → Node → Type 0 where
    print_ : (c : Command) (e : Expr) → c.form ≡ says.Single (single.Print e)
        → SpellsNode (c ∷ []) (0 ∷ []) (node_of (form.Print e None) c.span)
    let_ : (c : Command) (name : List ℕ) (e : Expr) → c.form ≡ says.Single (single.Let name e)
        → SpellsNode (c ∷ []) (0 ∷ []) (node_of (form.Let name e) c.span)
    call_alone_ : (c : Command) (name : List ℕ) (all : Bool) → c.form ≡ says.Single (single.Call name all)
        → SpellsNode (c ∷ []) (0 ∷ []) (node_of (form.Call name all []) c.span)
    if_ : (z : Command) (cs : List Command) (ls : List ℕ) (arms : List Arm) (start : Span)
        → SpellsArms cs ls arms start → z.form ≡ says.Closes block.If
        → SpellsNode (cs ++ (z ∷ [])) (ls ++ (1 ∷ [])) (node_of (form.If arms None) (joined start z.span))
    if_else_ : (d z : Command) (cs bs : List Command) (ls ks : List ℕ) (arms : List Arm) (body : List Node)
        (start : Span)
        → SpellsArms cs ls arms start → d.form ≡ says.GoesOn middle.Else → SpellsBody bs ks body
        → z.form ≡ says.Closes block.If
        → SpellsNode (cs ++ (d ∷ (bs ++ (z ∷ [])))) (ls ++ inside_blocks 1 (0 ∷ (ks ++ (0 ∷ []))))
        (node_of (form.If arms (Some body)) (joined start z.span))
    switch_ : (c z : Command) (ds cs : List Command) (ms ls : List ℕ) (e : Expr) (cases : List Case)
        → c.form ≡ says.Opens (opening.Switch e) → SpellsWhite ds ms → SpellsCases cs ls cases
        → z.form ≡ says.Closes block.Switch
        → SpellsNode (c ∷ (ds ++ (cs ++ (z ∷ [])))) (0 ∷ inside_blocks 1 (ms ++ (ls ++ (0 ∷ []))))
        (node_of (form.Switch e cases None) (joined c.span z.span))
    switch_default_ : (c d z : Command) (ds cs bs : List Command) (ms ls ks : List ℕ) (e : Expr) (cases : List Case)
        (body : List Node)
        → c.form ≡ says.Opens (opening.Switch e) → SpellsWhite ds ms → SpellsCases cs ls cases
        → d.form ≡ says.GoesOn middle.Default
        → SpellsBody bs ks body → z.form ≡ says.Closes block.Switch
        → SpellsNode (c ∷ (ds ++ (cs ++ (d ∷ (bs ++ (z ∷ []))))))
        (0 ∷ inside_blocks 1 (ms ++ (ls ++ (0 ∷ (ks ++ (0 ∷ []))))))
        (node_of (form.Switch e cases (Some body)) (joined c.span z.span))
    for_ : (c z : Command) (bs : List Command) (ks : List ℕ) (name : List ℕ) (index : Option (List ℕ)) (e : Expr)
        (body : List Node)
        → c.form ≡ says.Opens (opening.For name index e) → SpellsBody bs ks body → z.form ≡ says.Closes block.For
        → SpellsNode (c ∷ (bs ++ (z ∷ []))) (0 ∷ inside_blocks 1 (ks ++ (0 ∷ [])))
        (node_of (form.For name index e body) (joined c.span z.span))
    let_block_ : (c z : Command) (bs : List Command) (ks : List ℕ) (name : List ℕ) (kind : Kind) (body : List Node)
        → c.form ≡ says.Opens (opening.Let name kind) → SpellsBody bs ks body → z.form ≡ says.Closes block.Let
        → SpellsNode (c ∷ (bs ++ (z ∷ []))) (0 ∷ inside_blocks 1 (ks ++ (0 ∷ [])))
        (node_of (form.LetBlock name kind body) (up_to c.span z.span))
    call_ : (c z : Command) (cs : List Command) (ls : List ℕ) (name : List ℕ) (all : Bool) (arguments : List Argument)
        → c.form ≡ says.Opens (opening.Call name all) → SpellsArguments cs ls arguments
        → z.form ≡ says.Closes block.Call
        → SpellsNode (c ∷ (cs ++ (z ∷ []))) (0 ∷ inside_blocks 1 (ls ++ (0 ∷ [])))
        (node_of (form.Call name all arguments) (joined c.span z.span))
    message_ : (c z : Command) (bs : List Command) (ks : List ℕ) (desc meaning : List ℕ) (body : MessageBody)
        → c.form ≡ says.Opens (opening.Message desc meaning) → SpellsMessageBody bs ks body
        → z.form ≡ says.Closes block.Msg
        → SpellsNode (c ∷ (bs ++ (z ∷ []))) (0 ∷ inside_blocks 1 (ks ++ (0 ∷ [])))
        (node_of (form.Message (whole_message desc meaning body c.span) None) (joined c.span z.span))
    message_fallback_ : (c d z : Command) (bs es : List Command) (ks js : List ℕ)
        (desc meaning older older_meaning : List ℕ)
        (body other : MessageBody)
        → c.form ≡ says.Opens (opening.Message desc meaning) → SpellsMessageBody bs ks body
        → d.form ≡ says.GoesOn (middle.Fallback older older_meaning)
        → SpellsMessageBody es js other → z.form ≡ says.Closes block.Msg
        → SpellsNode (c ∷ (bs ++ (d ∷ (es ++ (z ∷ []))))) (0 ∷ inside_blocks 1 (ks ++ (0 ∷ (js ++ (0 ∷ [])))))
        (node_of (form.Message (whole_message desc meaning body c.span)
        (Some (whole_message older older_meaning other d.span)))
        (joined c.span z.span))

  -- an if, up to the end of an arm
  pub data SpellsArms : List Command → List ℕ → List Arm → Span → Type 0 where
    first_arm_ : (c : Command) (bs : List Command) (ks : List ℕ) (e : Expr) (body : List Node)
        → c.form ≡ says.Opens (opening.If e) → SpellsBody bs ks body
        → SpellsArms (c ∷ bs) (0 ∷ inside_blocks 1 ks) (arm_of e body ∷ []) c.span
    next_arm_ : (cs bs : List Command) (ls ks : List ℕ) (arms : List Arm) (start : Span) (d : Command) (e : Expr)
        (body : List Node)
        → SpellsArms cs ls arms start → d.form ≡ says.GoesOn (middle.ElseIf e) → SpellsBody bs ks body
        → SpellsArms (cs ++ (d ∷ bs)) (ls ++ inside_blocks 1 (0 ∷ ks)) (arms ++ (arm_of e body ∷ [])) start

  -- the cases of a switch
  pub data SpellsCases : List Command → List ℕ → List Case → Type 0 where
    no_case_ : SpellsCases [] [] []
    case_ : (cs bs : List Command) (ls ks : List ℕ) (cases : List Case) (c : Command) (values : List Expr)
        (body : List Node)
        → SpellsCases cs ls cases → c.form ≡ says.GoesOn (middle.Case values) → SpellsBody bs ks body
        → SpellsCases (cs ++ (c ∷ bs)) (ls ++ (0 ∷ ks)) (cases ++ (case_of values body ∷ []))

  -- what stands in a call
  pub data SpellsArguments : List Command → List ℕ → List Argument → Type 0 where
    no_argument_ : SpellsArguments [] [] []
    white_ : (cs : List Command) (ls : List ℕ) (arguments : List Argument) (c : Command) (text : List ℕ)
        → SpellsArguments cs ls arguments → c.form ≡ says.Text text → list_all is_template_space text ≡ true
        → SpellsArguments (cs ++ (c ∷ [])) (ls ++ (0 ∷ [])) arguments
    param_ : (cs : List Command) (ls : List ℕ) (arguments : List Argument) (c : Command) (name : List ℕ) (e : Expr)
        → SpellsArguments cs ls arguments → c.form ≡ says.Single (single.Param name e)
        → SpellsArguments (cs ++ (c ∷ [])) (ls ++ (0 ∷ []))
        (arguments ++ (argument_of name (given.Plain e) c.span ∷ []))
    param_block_ : (cs bs : List Command) (ls ks : List ℕ) (arguments : List Argument) (c z : Command) (name : List ℕ)
        (kind : Kind)
        (body : List Node)
        → SpellsArguments cs ls arguments → c.form ≡ says.Opens (opening.Param name kind) → SpellsBody bs ks body
        → z.form ≡ says.Closes block.Param
        → SpellsArguments (cs ++ (c ∷ (bs ++ (z ∷ [])))) (ls ++ (0 ∷ inside_blocks 1 (ks ++ (0 ∷ []))))
        (arguments ++ (argument_of name (given.Block kind body) (up_to c.span z.span) ∷ []))

-- the parameters at the head of a template

abbrev pub as_param : List ℕ → SoyType → Bool → Span → Param
as_param name of required span = record { name = name; of = of; required = required; span = span }

pub data SpellsParams : List Command → List ℕ → List Param → Type 0 where
  none_ : SpellsParams [] [] []
  param_ : (cs : List Command) (ls : List ℕ) (params : List Param) (c : Command) (name : List ℕ) (required : Bool)
      (of : SoyType)
      → SpellsParams cs ls params → c.form ≡ says.TemplateParam name required of
      → SpellsParams (cs ++ (c ∷ [])) (ls ++ (0 ∷ [])) (params ++ (as_param name of required c.span ∷ []))

abbrev pub template_of : TemplateOpening → List Param → List Node → Span → Template
template_of h params body span =
    record { name = h.name; kind = h.kind; private = h.private; params = params; body = body; span = span }

-- the templates of a file, with white text between them
pub data SpellsTemplates : List Command → List ℕ → List Template → Type 0 where
  none_ : SpellsTemplates [] [] []
  white_ : (cs : List Command) (ls : List ℕ) (templates : List Template) (c : Command) (text : List ℕ)
      → SpellsTemplates cs ls templates → c.form ≡ says.Text text → list_all is_template_space text ≡ true
      → SpellsTemplates (cs ++ (c ∷ [])) (ls ++ (0 ∷ [])) templates
  template_ : (cs ps bs : List Command) (ls ms ks : List ℕ) (templates : List Template) (c z : Command)
      (h : TemplateOpening)
      (params : List Param) (body : List Node)
      → SpellsTemplates cs ls templates → c.form ≡ says.Opens (opening.Template h) → SpellsParams ps ms params
      → SpellsBody bs ks body
      → z.form ≡ says.Closes block.Template
      → SpellsTemplates (cs ++ (c ∷ (ps ++ (bs ++ (z ∷ []))))) (ls ++ (0 ∷ inside_blocks 1 (ms ++ (ks ++ (0 ∷ [])))))
      (templates ++ (template_of h params body (up_to c.span z.span) ∷ []))

-- a file, as commands
pub data SpellsTree : List Command → List ℕ → Tree → Type 0 where
  tree_ : (ds cs : List Command) (ms ls : List ℕ) (c : Command) (name : List ℕ) (templates : List Template)
      → SpellsWhite ds ms → c.form ≡ says.Namespace name → SpellsTemplates cs ls templates
      → SpellsTree (ds ++ (c ∷ cs)) (ms ++ (0 ∷ ls)) (record { namespace = name; templates = templates })
