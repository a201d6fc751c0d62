-- What was read of commands is what the machine holds.
use Rattle.std.proofs.Common.{◌≡◌, ℕ, ℤ, Bool, true, false, List, [], ◌∷◌, ◌++◌, length, Option, Some, None}
use Rattle.std.proofs.Common.{refl, sym, ◌∙◌, ap, subst, arith, append_assoc, append-nil, length-append}
use Rattle.std.specs.Prelude.{if◌then◌else◌, ◌&&◌}
use Rattle.soy_base.specs.declared.fault.Span.{Span}
use Rattle.soy_base.specs.declared.kind.Kind.{Kind}
use Rattle.soy_tree.specs.declared.expr.Expr.{Expr}
use Rattle.soy_tree.specs.declared.node.Argument.{Argument}
use Rattle.soy_tree.specs.declared.node.Arm.{Arm}
use Rattle.soy_tree.specs.declared.node.Case.{Case}
use Rattle.soy_tree.specs.declared.node.MessageBody.{MessageBody}
use Rattle.soy_tree.specs.declared.node.Node.{Node}
use Rattle.soy_tree.specs.declared.node.PluralCase.{PluralCase}
use Rattle.soy_tree.specs.declared.node.SelectCase.{SelectCase}
use Rattle.soy_tree.specs.declared.soy_type.SoyType.{SoyType}
use Rattle.soy_tree.specs.declared.tree.Param.{Param}
use Rattle.soy_tree.specs.declared.tree.Template.{Template}
use Rattle.soy_parser.specs.declared.block.Block.{Block}
use Rattle.soy_parser.specs.declared.block.Block.TheVariants as block
use Rattle.soy_parser.specs.declared.block.CommandState.{CommandState}
use Rattle.soy_parser.specs.declared.block.Content.{Content}
use Rattle.soy_parser.specs.declared.block.Content.TheVariants as content
use Rattle.soy_parser.specs.declared.block.Nodes.{Nodes}
use Rattle.soy_parser.specs.declared.block.TextRun.{TextRun}
use Rattle.soy_parser.specs.declared.command.Command.{Command}
use Rattle.soy_parser.specs.declared.command.Middle.{Middle}
use Rattle.soy_parser.specs.declared.command.Middle.TheVariants as middle
use Rattle.soy_parser.specs.declared.command.Opening.{Opening}
use Rattle.soy_parser.specs.declared.command.Opening.TheVariants as opening
use Rattle.soy_parser.specs.declared.command.Single.{Single}
use Rattle.soy_parser.specs.declared.command.Single.TheVariants as single
use Rattle.soy_parser.specs.declared.command.CommandForm.{CommandForm}
use Rattle.soy_parser.specs.declared.command.CommandForm.TheVariants as says
use Rattle.soy_parser.specs.declared.command.TemplateOpening.{TemplateOpening}
use Rattle.soy_parser.specs.declared.terminal.BlockName.{BlockName}
use Rattle.soy_parser.specs.declared.terminal.BlockName.TheVariants as name
use Rattle.soy_parser.specs.CommandSteps.{state, is_white, text_run, with_text, ended, ended_run}
use Rattle.soy_parser.specs.CommandSteps.{adds, begins, begins_parts, single_step, opening_step, with_arm}
use Rattle.soy_parser.specs.CommandSteps.{arm_goes_on, case_goes_on, body_goes_on, closes_body, closed_body}
use Rattle.soy_parser.specs.CommandSteps.{body_closes}
use Rattle.soy_parser.specs.CommandSteps.{is_empty, is_empty_of, template_param_step, body_step, white_step}
use Rattle.soy_parser.specs.CommandSteps.{template_opens}
use Rattle.soy_parser.specs.CommandSteps.{templates_step, argument_single, argument_opens, closed_call, is_call}
use Rattle.soy_parser.specs.CommandSteps.{arguments_step}
use Rattle.soy_parser.specs.CommandSteps.{plural_goes_on, select_goes_on, cases_begin, is_switch, closed_bare_switch}
use Rattle.soy_parser.specs.CommandSteps.{before_cases_step, message_goes_on}
use Rattle.soy_parser.specs.CommandSteps.{fallback_begins, closes_message, closed_message, message_closes, choice_opens}
use Rattle.soy_parser.specs.CommandSteps.{part_single}
use Rattle.soy_parser.specs.CommandSteps.{has_whole_tags, body_of_parts, parts_step, choice_step, step_at, command_step}
use Rattle.soy_parser.specs.CommandSteps.{commands_from, command_run, command_start}
use Rattle.soy_parser.specs.Depth.{inside_blocks}
use Rattle.soy_parser.specs.Nodes.{case_of, plural_cases, select_cases}
use Rattle.soy_parser.specs.SpellsTree.{as_param, SpellsWhite, text_of, SpellsText, SpellsPrints, SpellsParts}
use Rattle.soy_parser.specs.SpellsTree.{SpellsMessageBody}
use Rattle.soy_parser.specs.SpellsTree.{SpellsChoice, SpellsPluralCases, SpellsSelectCases, SpellsNodes, SpellsBody}
use Rattle.soy_parser.specs.SpellsTree.{SpellsNode}
use Rattle.soy_parser.specs.SpellsTree.{SpellsArms, SpellsCases, SpellsArguments, SpellsParams, SpellsTemplates}
use Rattle.soy_parser.specs.SpellsTree.{SpellsTree}
use Rattle.soy_parser.proofs.OfCommands.CommandsComplete.{open_if, open_switch, open_message, open_fallback, open_plural}
use Rattle.soy_parser.proofs.OfCommands.CommandsComplete.{open_select, open_template}

-- what commands spell, at some levels: which those are, completeness says

abbrev pub WhiteOf : List Command → Type 0
WhiteOf cs = (ls : List ℕ) × SpellsWhite cs ls

abbrev pub TextOf : List Command → List ℕ → Span → Type 0
TextOf cs text span = (ls : List ℕ) × SpellsText cs ls text span

abbrev pub PrintsOf : List Command → List Node → Type 0
PrintsOf cs ns = (ls : List ℕ) × SpellsPrints cs ls ns

abbrev pub PartsOf : List Command → List Node → Type 0
PartsOf cs ns = (ls : List ℕ) × SpellsParts cs ls ns

abbrev pub MessageOf : List Command → MessageBody → Type 0
MessageOf cs body = (ls : List ℕ) × SpellsMessageBody cs ls body

abbrev pub ChoiceOf : List Command → MessageBody → Type 0
ChoiceOf cs body = (ls : List ℕ) × SpellsChoice cs ls body

abbrev pub PluralCasesOf : List Command → List PluralCase → Type 0
PluralCasesOf cs cases = (ls : List ℕ) × SpellsPluralCases cs ls cases

abbrev pub SelectCasesOf : List Command → List SelectCase → Type 0
SelectCasesOf cs cases = (ls : List ℕ) × SpellsSelectCases cs ls cases

abbrev pub NodesOf : List Command → List Node → Type 0
NodesOf cs ns = (ls : List ℕ) × SpellsNodes cs ls ns

abbrev pub BodyOf : List Command → List Node → Type 0
BodyOf cs ns = (ls : List ℕ) × SpellsBody cs ls ns

abbrev pub NodeOf : List Command → Node → Type 0
NodeOf cs n = (ls : List ℕ) × SpellsNode cs ls n

abbrev pub ArmsOf : List Command → List Arm → Span → Type 0
ArmsOf cs arms start = (ls : List ℕ) × SpellsArms cs ls arms start

abbrev pub CasesOf : List Command → List Case → Type 0
CasesOf cs cases = (ls : List ℕ) × SpellsCases cs ls cases

abbrev pub ArgumentsOf : List Command → List Argument → Type 0
ArgumentsOf cs arguments = (ls : List ℕ) × SpellsArguments cs ls arguments

abbrev pub ParamsOf : List Command → List Param → Type 0
ParamsOf cs params = (ls : List ℕ) × SpellsParams cs ls params

abbrev pub TemplatesOf : List Command → List Template → Type 0
TemplatesOf cs templates = (ls : List ℕ) × SpellsTemplates cs ls templates

-- what a block holds
pub data Inside : Type 0 where
  ABody : Inside
  ACall : Inside
  ASwitch : Inside
  APlural : Inside
  ASelect : Inside
  AMessage : Inside

-- an if up to the condition of an arm
pub data ArmOpens : List Command → List Arm → Span → Expr → Type 0 where
  first_ : (c : Command) (e : Expr) → c.form ≡ says.Opens (opening.If e) → ArmOpens (c ∷ []) [] c.span e
  next_ : (cs : List Command) (arms : List Arm) (start : Span) (d : Command) (e : Expr) → ArmsOf cs arms start
      → d.form ≡ says.GoesOn (middle.ElseIf e) → ArmOpens (cs ++ (d ∷ [])) arms start e

-- commands lead into these blocks, the innermost of which holds this
pub data Opened : Inside → List Block → List Command → Type 0 where
  template_ : (ds cs ps : List Command) (c d : Command) (n : List ℕ) (templates : List Template) (h : TemplateOpening)
      (params : List Param) → WhiteOf ds → c.form ≡ says.Namespace n → TemplatesOf cs templates
      → d.form ≡ says.Opens (opening.Template h) → ParamsOf ps params
      → Opened ABody (block.Template (open_template n templates h d.span params) ∷ []) (ds ++ (c ∷ (cs ++ (d ∷ ps))))
  arm_ : (bs : List Block) (xs ys zs : List Command) (before : List Node) (arms : List Arm) (start : Span) (e : Expr)
      → Opened ABody bs xs → BodyOf ys before → ArmOpens zs arms start e
      → Opened ABody (block.Arm (open_if before start arms) e ∷ bs) (xs ++ (ys ++ zs))
  else_ : (bs : List Block) (xs ys zs : List Command) (d : Command) (before : List Node) (arms : List Arm)
      (start : Span)
      → Opened ABody bs xs → BodyOf ys before → ArmsOf zs arms start → d.form ≡ says.GoesOn middle.Else
      → Opened ABody (block.Else (open_if before start arms) ∷ bs) (xs ++ (ys ++ (zs ++ (d ∷ []))))
  for_ : (bs : List Block) (xs ys : List Command) (c : Command) (before : List Node) (n : List ℕ)
      (index : Option (List ℕ))
      (e : Expr) → Opened ABody bs xs → BodyOf ys before → c.form ≡ says.Opens (opening.For n index e)
      → Opened ABody (block.For before c.span n index e ∷ bs) (xs ++ (ys ++ (c ∷ [])))
  let_ : (bs : List Block) (xs ys : List Command) (c : Command) (before : List Node) (n : List ℕ) (kind : Kind)
      → Opened ABody bs xs → BodyOf ys before → c.form ≡ says.Opens (opening.Let n kind)
      → Opened ABody (block.Let before c.span n kind ∷ bs) (xs ++ (ys ++ (c ∷ [])))
  call_ : (bs : List Block) (xs ys : List Command) (c : Command) (before : List Node) (n : List ℕ) (all : Bool)
      → Opened ABody bs xs → BodyOf ys before → c.form ≡ says.Opens (opening.Call n all)
      → Opened ACall (block.Call before c.span n all ∷ bs) (xs ++ (ys ++ (c ∷ [])))
  param_ : (bs : List Block) (xs ys : List Command) (c : Command) (arguments : List Argument) (n : List ℕ) (kind : Kind)
      → Opened ACall bs xs → ArgumentsOf ys arguments → c.form ≡ says.Opens (opening.Param n kind)
      → Opened ABody (block.Param arguments c.span n kind ∷ bs) (xs ++ (ys ++ (c ∷ [])))
  switch_ : (bs : List Block) (xs ys : List Command) (c : Command) (before : List Node) (e : Expr)
      → Opened ABody bs xs → BodyOf ys before → c.form ≡ says.Opens (opening.Switch e)
      → Opened ASwitch (block.Switch before c.span e ∷ bs) (xs ++ (ys ++ (c ∷ [])))
  case_ : (bs : List Block) (xs ys ws zs : List Command) (c d : Command) (before : List Node) (e : Expr)
      (cases : List Case)
      (values : List Expr)
      → Opened ABody bs xs → BodyOf ys before → c.form ≡ says.Opens (opening.Switch e) → WhiteOf ws → CasesOf zs cases
      → d.form ≡ says.GoesOn (middle.Case values)
      → Opened ABody (block.Case (open_switch before c.span e cases) values ∷ bs)
      (xs ++ (ys ++ (c ∷ (ws ++ (zs ++ (d ∷ []))))))
  switch_default_ : (bs : List Block) (xs ys ws zs : List Command) (c d : Command) (before : List Node) (e : Expr)
      (cases : List Case)
      → Opened ABody bs xs → BodyOf ys before → c.form ≡ says.Opens (opening.Switch e) → WhiteOf ws → CasesOf zs cases
      → d.form ≡ says.GoesOn middle.Default
      → Opened ABody (block.SwitchDefault (open_switch before c.span e cases) ∷ bs)
      (xs ++ (ys ++ (c ∷ (ws ++ (zs ++ (d ∷ []))))))
  message_ : (bs : List Block) (xs ys : List Command) (c : Command) (before : List Node) (desc meaning : List ℕ)
      → Opened ABody bs xs → BodyOf ys before → c.form ≡ says.Opens (opening.Message desc meaning)
      → Opened AMessage (block.Message (open_message before c.span desc meaning) ∷ bs) (xs ++ (ys ++ (c ∷ [])))
  fallback_ : (bs : List Block) (xs ys zs : List Command) (c d : Command) (before : List Node) (body : MessageBody)
      (desc meaning older older_meaning : List ℕ)
      → Opened ABody bs xs → BodyOf ys before → c.form ≡ says.Opens (opening.Message desc meaning) → MessageOf zs body
      → d.form ≡ says.GoesOn (middle.Fallback older older_meaning)
      → Opened AMessage (block.Fallback (open_message before c.span desc meaning) body
      (open_fallback d.span older older_meaning)
      ∷ bs) (xs ++ (ys ++ (c ∷ (zs ++ (d ∷ [])))))
  plural_ : (bs : List Block) (xs ys : List Command) (c : Command) (e : Expr) (offset : ℕ)
      → Opened AMessage bs xs → WhiteOf ys → c.form ≡ says.Opens (opening.Plural e offset)
      → Opened APlural (block.Plural e offset ∷ bs) (xs ++ (ys ++ (c ∷ [])))
  plural_case_ : (bs : List Block) (xs ys ws zs : List Command) (c d : Command) (e : Expr) (offset : ℕ)
      (cases : List PluralCase) (values : List ℤ)
      → Opened AMessage bs xs → WhiteOf ys → c.form ≡ says.Opens (opening.Plural e offset) → WhiteOf ws
      → PluralCasesOf zs cases → d.form ≡ says.GoesOn (middle.PluralCase values)
      → Opened AMessage (block.PluralCase (open_plural e offset cases) values ∷ bs)
      (xs ++ (ys ++ (c ∷ (ws ++ (zs ++ (d ∷ []))))))
  plural_default_ : (bs : List Block) (xs ys ws zs : List Command) (c d : Command) (e : Expr) (offset : ℕ)
      (cases : List PluralCase)
      → Opened AMessage bs xs → WhiteOf ys → c.form ≡ says.Opens (opening.Plural e offset) → WhiteOf ws
      → PluralCasesOf zs cases → d.form ≡ says.GoesOn middle.Default
      → Opened AMessage (block.PluralDefault (open_plural e offset cases) ∷ bs)
      (xs ++ (ys ++ (c ∷ (ws ++ (zs ++ (d ∷ []))))))
  select_ : (bs : List Block) (xs ys : List Command) (c : Command) (e : Expr)
      → Opened AMessage bs xs → WhiteOf ys → c.form ≡ says.Opens (opening.Select e)
      → Opened ASelect (block.Select e ∷ bs) (xs ++ (ys ++ (c ∷ [])))
  select_case_ : (bs : List Block) (xs ys ws zs : List Command) (c d : Command) (e : Expr) (cases : List SelectCase)
      (values : List (List ℕ))
      → Opened AMessage bs xs → WhiteOf ys → c.form ≡ says.Opens (opening.Select e) → WhiteOf ws
      → SelectCasesOf zs cases → d.form ≡ says.GoesOn (middle.SelectCase values)
      → Opened AMessage (block.SelectCase (open_select e cases) values ∷ bs)
      (xs ++ (ys ++ (c ∷ (ws ++ (zs ++ (d ∷ []))))))
  select_default_ : (bs : List Block) (xs ys ws zs : List Command) (c d : Command) (e : Expr) (cases : List SelectCase)
      → Opened AMessage bs xs → WhiteOf ys → c.form ≡ says.Opens (opening.Select e) → WhiteOf ws
      → SelectCasesOf zs cases → d.form ≡ says.GoesOn middle.Default
      → Opened AMessage (block.SelectDefault (open_select e cases) ∷ bs)
      (xs ++ (ys ++ (c ∷ (ws ++ (zs ++ (d ∷ []))))))

-- nodes, and the text after them

pub record TextAfter (ys : List Command) (items : List Node) (r : TextRun) : Type 0 where
  pub prefix : List Command
  pub back : List Command
  pub whole : ys ≡ prefix ++ back
  pub nodes : NodesOf prefix items
  pub text : TextOf back r.text r.span

abbrev pub BodyAt_run : List Command → List Node → Option TextRun → Type 0
BodyAt_run ys items None = NodesOf ys items
BodyAt_run ys items (Some r) = TextAfter ys items r

abbrev pub BodyAt : List Command → Nodes → Type 0
BodyAt ys nodes = BodyAt_run ys nodes.items nodes.run

pub record TextAfterPrints (ys : List Command) (items : List Node) (r : TextRun) : Type 0 where
  pub prefix : List Command
  pub back : List Command
  pub whole : ys ≡ prefix ++ back
  pub nodes : PrintsOf prefix items
  pub text : TextOf back r.text r.span

abbrev pub PartsAt_run : List Command → List Node → Option TextRun → Type 0
PartsAt_run ys items None = PrintsOf ys items
PartsAt_run ys items (Some r) = TextAfterPrints ys items r

abbrev pub PartsAt : List Command → Nodes → Type 0
PartsAt ys nodes = PartsAt_run ys nodes.items nodes.run

-- what the machine holds after commands

pub record HeldWhite (bs : List Block) (cs : List Command) : Type 0 where
  pub none : bs ≡ []
  pub white : WhiteOf cs

pub record HeldTemplates (bs : List Block) (n : List ℕ) (templates : List Template) (cs : List Command) : Type 0 where
  pub none : bs ≡ []
  pub prefix : List Command
  pub command : Command
  pub back : List Command
  pub whole : cs ≡ prefix ++ (command ∷ back)
  pub white : WhiteOf prefix
  pub is_namespace : command.form ≡ says.Namespace n
  pub are : TemplatesOf back templates

pub record HeldBody (bs : List Block) (nodes : Nodes) (cs : List Command) : Type 0 where
  pub prefix : List Command
  pub back : List Command
  pub whole : cs ≡ prefix ++ back
  pub opened : Opened ABody bs prefix
  pub body : BodyAt back nodes

pub record HeldArguments (bs : List Block) (arguments : List Argument) (cs : List Command) : Type 0 where
  pub prefix : List Command
  pub back : List Command
  pub whole : cs ≡ prefix ++ back
  pub opened : Opened ACall bs prefix
  pub are : ArgumentsOf back arguments

-- what has cases
pub data HasCases : Inside → Type 0 where
  switch_ : HasCases ASwitch
  plural_ : HasCases APlural
  select_ : HasCases ASelect

pub record HeldBeforeCases (bs : List Block) (cs : List Command) : Type 0 where
  pub inside : Inside
  pub has : HasCases inside
  pub prefix : List Command
  pub back : List Command
  pub whole : cs ≡ prefix ++ back
  pub opened : Opened inside bs prefix
  pub white : WhiteOf back

pub record HeldParts (bs : List Block) (nodes : Nodes) (white : Bool) (cs : List Command) : Type 0 where
  pub prefix : List Command
  pub back : List Command
  pub whole : cs ≡ prefix ++ back
  pub opened : Opened AMessage bs prefix
  pub parts : PartsAt back nodes
  pub are_white : white ≡ true → WhiteOf back

pub record HeldChoice (bs : List Block) (body : MessageBody) (cs : List Command) : Type 0 where
  pub prefix : List Command
  pub before : List Command
  pub own : List Command
  pub after : List Command
  pub whole : cs ≡ prefix ++ (before ++ (own ++ after))
  pub opened : Opened AMessage bs prefix
  pub white_before : WhiteOf before
  pub choice : ChoiceOf own body
  pub white_after : WhiteOf after

abbrev pub Held_at : Content → List Block → List Command → Type 0
Held_at content.White bs cs = HeldWhite bs cs
Held_at (content.Templates n templates) bs cs = HeldTemplates bs n templates cs
Held_at (content.Body nodes) bs cs = HeldBody bs nodes cs
Held_at (content.Arguments arguments) bs cs = HeldArguments bs arguments cs
Held_at content.BeforeCases bs cs = HeldBeforeCases bs cs
Held_at (content.Parts nodes white) bs cs = HeldParts bs nodes white cs
Held_at (content.Choice body) bs cs = HeldChoice bs body cs

abbrev pub Fine : Option CommandState → List Command → Type 0
Fine None cs = Unit {0}
Fine (Some s) cs = Held_at s.content s.blocks cs

-- the same, as a fact of its own
pub record IsFine (o : Option CommandState) (cs : List Command) : Type 0 where
  pub fine : Fine o cs

pub moved : {o : Option CommandState} {cs ds : List Command} → IsFine o cs → cs ≡ ds → IsFine o ds
moved {o} f e = record { fine = subst (Fine o) e f.fine }

-- lists that go on

no_white : WhiteOf []
no_white = ([], SpellsWhite.none_)

white_more : (cs : List Command) (c : Command) (text : List ℕ) → WhiteOf cs → c.form ≡ says.Text text
    → is_white text ≡ true →
    WhiteOf (cs ++ (c ∷ []))
white_more cs c text w h s = (w.0 ++ (0 ∷ []), SpellsWhite.more_ cs w.0 c text w.1 h s)

body_of : (ys : List Command) (items : List Node) (run : Option TextRun) → BodyAt_run ys items run →
    BodyOf ys (ended_run items run)
body_of ys items None b = (b.0, SpellsBody.plain_ ys b.0 items b.1)
body_of ys items (Some r) b =
    subst (λ l. BodyOf l (ended_run items (Some r))) (sym b.whole)
    (b.nodes.0 ++ b.text.0, SpellsBody.text_ b.prefix b.back b.nodes.0 b.text.0 items r.text r.span b.nodes.1 b.text.1)

body_text : (ys : List Command) (items : List Node) (run : Option TextRun) (c : Command) (text : List ℕ) →
    BodyAt_run ys items run → text_of c.form ≡ Some text →
    BodyAt_run (ys ++ (c ∷ [])) items (Some (text_run run text c.span))
body_text ys items None c text b h = record {
  prefix = ys;
  back = c ∷ [];
  whole = refl;
  nodes = b;
  text = (0 ∷ [], SpellsText.first_ c text h);
}
body_text ys items (Some r) c text b h = record {
  prefix = b.prefix;
  back = b.back ++ (c ∷ []);
  whole = ap (λ l. l ++ (c ∷ [])) b.whole ∙ append_assoc b.prefix b.back (c ∷ []);
  nodes = b.nodes;
  text = (b.text.0 ++ (0 ∷ []), SpellsText.next_ b.back b.text.0 c r.text text r.span b.text.1 h);
}

parts_at : (ys : List Command) (items : List Node) (run : Option TextRun) → PartsAt_run ys items run →
    PartsOf ys (ended_run items run)
parts_at ys items None b = (b.0, SpellsParts.plain_ ys b.0 items b.1)
parts_at ys items (Some r) b =
    subst (λ l. PartsOf l (ended_run items (Some r))) (sym b.whole)
    (b.nodes.0 ++ b.text.0, SpellsParts.text_ b.prefix b.back b.nodes.0 b.text.0 items r.text r.span b.nodes.1 b.text.1)

parts_text : (ys : List Command) (items : List Node) (run : Option TextRun) (c : Command) (text : List ℕ) →
    PartsAt_run ys items run → text_of c.form ≡ Some text →
    PartsAt_run (ys ++ (c ∷ [])) items (Some (text_run run text c.span))
parts_text ys items None c text b h = record {
  prefix = ys;
  back = c ∷ [];
  whole = refl;
  nodes = b;
  text = (0 ∷ [], SpellsText.first_ c text h);
}
parts_text ys items (Some r) c text b h = record {
  prefix = b.prefix;
  back = b.back ++ (c ∷ []);
  whole = ap (λ l. l ++ (c ∷ [])) b.whole ∙ append_assoc b.prefix b.back (c ∷ []);
  nodes = b.nodes;
  text = (b.text.0 ++ (0 ∷ []), SpellsText.next_ b.back b.text.0 c r.text text r.span b.text.1 h);
}

-- what comes after the commands that were read
on_whole : (cs xs ys zs : List Command) → cs ≡ xs ++ ys → xs ++ (ys ++ zs) ≡ cs ++ zs
on_whole cs xs ys zs e = sym (append_assoc xs ys zs) ∙ ap (λ l. l ++ zs) (sym e)

-- a node is added
adds_fine : (bs : List Block) (xs ys zs : List Command) (before : List Node) (n : Node) → Opened ABody bs xs →
    BodyOf ys before → NodeOf zs n → IsFine (adds bs before n) (xs ++ (ys ++ zs))
adds_fine bs xs ys zs before n o b i = record {
  fine = record {
    prefix = xs;
    back = ys ++ zs;
    whole = refl;
    opened = o;
    body = (b.0 ++ i.0, SpellsNodes.node_ ys zs b.0 i.0 before n b.1 i.1);
  };
}

-- a body begins inside a block
begun : (b : Block) (bs : List Block) (xs : List Command) → Opened ABody (b ∷ bs) xs → IsFine (begins bs b) xs
begun b bs xs o = record {
  fine = record {
    prefix = xs;
    back = [];
    whole = sym (append-nil xs);
    opened = o;
    body = ([], SpellsNodes.no_node_);
  };
}

begun_parts : (b : Block) (bs : List Block) (xs : List Command) → Opened AMessage (b ∷ bs) xs
    → IsFine (begins_parts bs b) xs
begun_parts b bs xs o = record {
  fine = record {
    prefix = xs;
    back = [];
    whole = sym (append-nil xs);
    opened = o;
    parts = ([], SpellsPrints.none_);
    are_white = λ e. no_white;
  };
}

begun_cases : (k : Inside) (b : Block) (bs : List Block) (xs : List Command) → HasCases k → Opened k (b ∷ bs) xs →
    IsFine (state (b ∷ bs) content.BeforeCases) xs
begun_cases k b bs xs has o = record {
  fine = record {
    inside = k;
    has = has;
    prefix = xs;
    back = [];
    whole = sym (append-nil xs);
    opened = o;
    white = no_white;
  };
}

-- in a body

module _ (bs : List Block) (nodes : Nodes) (cs : List Command) (c : Command) (h : HeldBody bs nodes cs) where
  body_is : BodyOf h.back (ended nodes)
  body_is = body_of h.back nodes.items nodes.run h.body

  body_text_fine : (text : List ℕ) → text_of c.form ≡ Some text →
      IsFine (state bs (content.Body (with_text nodes text c.span))) (cs ++ (c ∷ []))
  body_text_fine text e = record {
    fine = record {
      prefix = h.prefix;
      back = h.back ++ (c ∷ []);
      whole = sym (on_whole cs h.prefix h.back (c ∷ []) h.whole);
      opened = h.opened;
      body = body_text h.back nodes.items nodes.run c text h.body e;
    };
  }

  node_fine : (n : Node) → NodeOf (c ∷ []) n → IsFine (adds bs (ended nodes) n) (cs ++ (c ∷ []))
  node_fine n i =
      moved
      (adds_fine bs h.prefix h.back (c ∷ []) (ended nodes) n h.opened (body_of h.back nodes.items nodes.run h.body) i)
      (on_whole cs h.prefix h.back (c ∷ []) h.whole)

  single_fine : (of : Single) → c.form ≡ says.Single of
      → IsFine (single_step bs (ended nodes) of c.span) (cs ++ (c ∷ []))
  single_fine (single.Print e) t = node_fine _ (0 ∷ [], SpellsNode.print_ c e t)
  single_fine (single.Let n e) t = node_fine _ (0 ∷ [], SpellsNode.let_ c n e t)
  single_fine (single.Call n all) t = node_fine _ (0 ∷ [], SpellsNode.call_alone_ c n all t)
  single_fine (single.MessagePrint e phname) t = record { fine = tt }
  single_fine (single.Param n e) t = record { fine = tt }

  opening_fine : (of : Opening) → c.form ≡ says.Opens of → IsFine (opening_step bs (ended nodes) of c.span)
      (cs ++ (c ∷ []))
  opening_fine (opening.If e) t =
      moved
      (begun (block.Arm (open_if (ended nodes) c.span []) e) bs (h.prefix ++ (h.back ++ (c ∷ [])))
      (Opened.arm_ bs h.prefix h.back (c ∷ []) (ended nodes) [] c.span e h.opened
      (body_of h.back nodes.items nodes.run h.body)
      (ArmOpens.first_ c e t)))
      (on_whole cs h.prefix h.back (c ∷ []) h.whole)
  opening_fine (opening.Switch e) t =
      moved
      (begun_cases ASwitch (block.Switch (ended nodes) c.span e) bs (h.prefix ++ (h.back ++ (c ∷ []))) HasCases.switch_
      (Opened.switch_ bs h.prefix h.back c (ended nodes) e h.opened (body_of h.back nodes.items nodes.run h.body) t))
      (on_whole cs h.prefix h.back (c ∷ []) h.whole)
  opening_fine (opening.For n index e) t =
      moved
      (begun (block.For (ended nodes) c.span n index e) bs (h.prefix ++ (h.back ++ (c ∷ [])))
      (Opened.for_ bs h.prefix h.back c (ended nodes) n index e h.opened (body_of h.back nodes.items nodes.run h.body)
      t))
      (on_whole cs h.prefix h.back (c ∷ []) h.whole)
  opening_fine (opening.Let n kind) t =
      moved
      (begun (block.Let (ended nodes) c.span n kind) bs (h.prefix ++ (h.back ++ (c ∷ [])))
      (Opened.let_ bs h.prefix h.back c (ended nodes) n kind h.opened (body_of h.back nodes.items nodes.run h.body) t))
      (on_whole cs h.prefix h.back (c ∷ []) h.whole)
  opening_fine (opening.Call n all) t = record {
    fine = record {
      prefix = h.prefix ++ (h.back ++ (c ∷ []));
      back = [];
      whole = sym (append-nil (h.prefix ++ (h.back ++ (c ∷ []))) ∙ on_whole cs h.prefix h.back (c ∷ []) h.whole);
      opened = Opened.call_ bs h.prefix h.back c (ended nodes) n all h.opened
          (body_of h.back nodes.items nodes.run h.body) t;
      are = ([], SpellsArguments.no_argument_);
    };
  }
  opening_fine (opening.Message desc meaning) t =
      moved
      (begun_parts (block.Message (open_message (ended nodes) c.span desc meaning)) bs
      (h.prefix ++ (h.back ++ (c ∷ [])))
      (Opened.message_ bs h.prefix h.back c (ended nodes) desc meaning h.opened
      (body_of h.back nodes.items nodes.run h.body) t))
      (on_whole cs h.prefix h.back (c ∷ []) h.whole)
  opening_fine (opening.Template of) t = record { fine = tt }
  opening_fine (opening.Param n kind) t = record { fine = tt }
  opening_fine (opening.Plural e offset) t = record { fine = tt }
  opening_fine (opening.Select e) t = record { fine = tt }

-- an arm has its body
arms_more : (zs ys : List Command) (arms : List Arm) (start : Span) (e : Expr) (ns : List Node)
    → ArmOpens zs arms start e →
    BodyOf ys ns → ArmsOf (zs ++ ys) (with_arm (open_if [] start arms) e ns).arms start
arms_more _ ys _ _ _ ns (ArmOpens.first_ c e h) b = (0 ∷ inside_blocks 1 b.0, SpellsArms.first_arm_ c ys b.0 e ns h b.1)
arms_more _ ys _ _ _ ns (ArmOpens.next_ cs arms start d e a h) b =
    subst (λ l. ArmsOf l (with_arm (open_if [] start arms) e ns).arms start) (sym (append_assoc cs (d ∷ []) ys))
    (a.0 ++ inside_blocks 1 (0 ∷ b.0), SpellsArms.next_arm_ cs ys a.0 b.0 arms start d e ns a.1 h b.1)

-- a case has its body
cases_more : (zs ys : List Command) (cases : List Case) (d : Command) (values : List Expr) (ns : List Node)
    → CasesOf zs cases →
    d.form ≡ says.GoesOn (middle.Case values) → BodyOf ys ns
    → CasesOf (zs ++ (d ∷ ys)) (cases ++ (case_of values ns ∷ []))
cases_more zs ys cases d values ns k h b =
    (k.0 ++ (0 ∷ b.0), SpellsCases.case_ zs ys k.0 b.0 cases d values ns k.1 h b.1)

arm_goes_on_fine : (bs : List Block) (xs ys zs : List Command) (before : List Node) (arms : List Arm) (start : Span)
    (m : Middle)
    (d : Command) → Opened ABody bs xs → BodyOf ys before → ArmsOf zs arms start → d.form ≡ says.GoesOn m →
    IsFine (arm_goes_on bs (open_if before start arms) m) (xs ++ (ys ++ (zs ++ (d ∷ []))))
arm_goes_on_fine bs xs ys zs before arms start (middle.ElseIf e) d o b a h =
    begun (block.Arm (open_if before start arms) e) bs (xs ++ (ys ++ (zs ++ (d ∷ []))))
    (Opened.arm_ bs xs ys (zs ++ (d ∷ [])) before arms start e o b (ArmOpens.next_ zs arms start d e a h))
arm_goes_on_fine bs xs ys zs before arms start middle.Else d o b a h =
    begun (block.Else (open_if before start arms)) bs (xs ++ (ys ++ (zs ++ (d ∷ []))))
    (Opened.else_ bs xs ys zs d before arms start o b a h)
arm_goes_on_fine bs xs ys zs before arms start _ d o b a h = record { fine = tt }

case_goes_on_fine : (bs : List Block) (xs ys ws zs : List Command) (c : Command) (before : List Node) (e : Expr)
    (cases : List Case) (m : Middle) (d : Command) → Opened ABody bs xs → BodyOf ys before →
    c.form ≡ says.Opens (opening.Switch e) → WhiteOf ws → CasesOf zs cases → d.form ≡ says.GoesOn m →
    IsFine (case_goes_on bs (open_switch before c.span e cases) m) (xs ++ (ys ++ (c ∷ (ws ++ (zs ++ (d ∷ []))))))
case_goes_on_fine bs xs ys ws zs c before e cases (middle.Case values) d o b hc w k h =
    begun (block.Case (open_switch before c.span e cases) values) bs (xs ++ (ys ++ (c ∷ (ws ++ (zs ++ (d ∷ []))))))
    (Opened.case_ bs xs ys ws zs c d before e cases values o b hc w k h)
case_goes_on_fine bs xs ys ws zs c before e cases middle.Default d o b hc w k h =
    begun (block.SwitchDefault (open_switch before c.span e cases)) bs (xs ++ (ys ++ (c ∷ (ws ++ (zs ++ (d ∷ []))))))
    (Opened.switch_default_ bs xs ys ws zs c d before e cases o b hc w k h)
case_goes_on_fine bs xs ys ws zs c before e cases _ d o b hc w k h = record { fine = tt }

goes_on_fine : (bs : List Block) (xs : List Command) → Opened ABody bs xs → (ys : List Command) (ns : List Node) →
    BodyOf ys ns → (d : Command) (m : Middle) → d.form ≡ says.GoesOn m
    → IsFine (body_goes_on bs ns m) ((xs ++ ys) ++ (d ∷ []))
goes_on_fine _ _ (Opened.template_ ds cs ps c k n templates of params w hc t hk p) ys ns b d m h = record { fine = tt }
goes_on_fine _ _ (Opened.arm_ bs xs us zs before arms start e o v a) ys ns b d m h =
    moved
    (arm_goes_on_fine bs xs us (zs ++ ys) before _ start m d o v (arms_more zs ys arms start e ns a b) h)
    (simp append_assoc)
goes_on_fine _ _ (Opened.else_ bs xs us zs k before arms start o v a hk) ys ns b d m h = record { fine = tt }
goes_on_fine _ _ (Opened.for_ bs xs us c before n index e o v hc) ys ns b d m h = record { fine = tt }
goes_on_fine _ _ (Opened.let_ bs xs us c before n kind o v hc) ys ns b d m h = record { fine = tt }
goes_on_fine _ _ (Opened.param_ bs xs us c arguments n kind o a hc) ys ns b d m h = record { fine = tt }
goes_on_fine _ _ (Opened.case_ bs xs us ws zs c k before e cases values o v hc w a hk) ys ns b d m h =
    moved
    (case_goes_on_fine bs xs us ws (zs ++ (k ∷ ys)) c before e _ m d o v hc w
    (cases_more zs ys cases k values ns a hk b) h)
    (simp append_assoc)
goes_on_fine _ _ (Opened.switch_default_ bs xs us ws zs c k before e cases o v hc w a hk) ys ns b d m h =
    record { fine = tt }

-- the name that closes a block with a body
abbrev body_name : Block → BlockName
body_name (block.Template t) = name.Template
body_name (block.Arm i when) = name.If
body_name (block.Else i) = name.If
body_name (block.For before start variable index of) = name.For
body_name (block.Let before start variable kind) = name.Let
body_name (block.Param arguments start param kind) = name.Param
body_name (block.Case s values) = name.Switch
body_name (block.SwitchDefault s) = name.Switch
body_name _ = name.Other

closes_name : (b : Block) (n : BlockName) → closes_body b n ≡ true → n ≡ body_name b
closes_name (block.Template t) name.Template e = refl
closes_name (block.Arm i when) name.If e = refl
closes_name (block.Else i) name.If e = refl
closes_name (block.For before start variable index of) name.For e = refl
closes_name (block.Let before start variable kind) name.Let e = refl
closes_name (block.Param arguments start param kind) name.Param e = refl
closes_name (block.Case s values) name.Switch e = refl
closes_name (block.SwitchDefault s) name.Switch e = refl
closes_name _ _ e = absurd (cc e)

closed_fine : (b : Block) (bs : List Block) (xs : List Command) → Opened ABody (b ∷ bs) xs → (ys : List Command)
    (ns : List Node) → BodyOf ys ns → (z : Command) → z.form ≡ says.Closes (body_name b) →
    IsFine (closed_body bs b ns z.span) ((xs ++ ys) ++ (z ∷ []))
closed_fine _ _ _ (Opened.template_ ds cs ps c k n templates of params w hc t hk p) ys ns b z h = record {
  fine = record {
    none = refl;
    prefix = ds;
    command = c;
    back = cs ++ (k ∷ (ps ++ (ys ++ (z ∷ []))));
    whole = simp append_assoc;
    white = w;
    is_namespace = hc;
    are = (
      t.0 ++ (0 ∷ inside_blocks 1 (p.0 ++ (b.0 ++ (0 ∷ [])))),
      SpellsTemplates.template_ cs ps ys t.0 p.0 b.0 templates k z of params ns t.1 hk p.1 b.1 h,
    );
  };
}
closed_fine _ _ _ (Opened.arm_ bs xs us zs before arms start e o v a) ys ns b z h =
    let k = arms_more zs ys arms start e ns a b in
    moved
    (adds_fine bs xs us ((zs ++ ys) ++ (z ∷ [])) before _ o v
    (k.0 ++ (1 ∷ []), SpellsNode.if_ z (zs ++ ys) k.0 _ start k.1 h))
    (simp append_assoc)
closed_fine _ _ _ (Opened.else_ bs xs us zs k before arms start o v a hk) ys ns b z h =
    moved
    (adds_fine bs xs us (zs ++ (k ∷ (ys ++ (z ∷ [])))) before _ o v
    (a.0 ++ inside_blocks 1 (0 ∷ (b.0 ++ (0 ∷ []))), SpellsNode.if_else_ k z zs ys a.0 b.0 arms ns start a.1 hk b.1 h))
    (simp append_assoc)
closed_fine _ _ _ (Opened.for_ bs xs us c before n index e o v hc) ys ns b z h =
    moved
    (adds_fine bs xs us (c ∷ (ys ++ (z ∷ []))) before _ o v
    (0 ∷ inside_blocks 1 (b.0 ++ (0 ∷ [])), SpellsNode.for_ c z ys b.0 n index e ns hc b.1 h))
    (simp append_assoc)
closed_fine _ _ _ (Opened.let_ bs xs us c before n kind o v hc) ys ns b z h =
    moved
    (adds_fine bs xs us (c ∷ (ys ++ (z ∷ []))) before _ o v
    (0 ∷ inside_blocks 1 (b.0 ++ (0 ∷ [])), SpellsNode.let_block_ c z ys b.0 n kind ns hc b.1 h))
    (simp append_assoc)
closed_fine _ _ _ (Opened.param_ bs xs us c arguments n kind o a hc) ys ns b z h = record {
  fine = record {
    prefix = xs;
    back = us ++ (c ∷ (ys ++ (z ∷ [])));
    whole = simp append_assoc;
    opened = o;
    are = (
      a.0 ++ (0 ∷ inside_blocks 1 (b.0 ++ (0 ∷ []))),
      SpellsArguments.param_block_ us ys a.0 b.0 arguments c z n kind ns a.1 hc b.1 h,
    );
  };
}
closed_fine _ _ _ (Opened.case_ bs xs us ws zs c k before e cases values o v hc w a hk) ys ns b z h =
    let m = cases_more zs ys cases k values ns a hk b in
    moved
    (adds_fine bs xs us (c ∷ (ws ++ ((zs ++ (k ∷ ys)) ++ (z ∷ [])))) before _ o v (
      0 ∷ inside_blocks 1 (w.0 ++ (m.0 ++ (0 ∷ []))),
      SpellsNode.switch_ c z ws (zs ++ (k ∷ ys)) w.0 m.0 e _ hc w.1 m.1 h,
    ))
    (simp append_assoc)
closed_fine _ _ _ (Opened.switch_default_ bs xs us ws zs c k before e cases o v hc w a hk) ys ns b z h =
    moved
    (adds_fine bs xs us (c ∷ (ws ++ (zs ++ (k ∷ (ys ++ (z ∷ [])))))) before _ o v (
      0 ∷ inside_blocks 1 (w.0 ++ (a.0 ++ (0 ∷ (b.0 ++ (0 ∷ []))))),
      SpellsNode.switch_default_ c k z ws zs ys w.0 a.0 b.0 e cases ns hc w.1 a.1 hk b.1 h,
    ))
    (simp append_assoc)

closes_fine : (bs : List Block) (xs : List Command) → Opened ABody bs xs → (ys : List Command) (ns : List Node) →
    BodyOf ys ns → (z : Command) (n : BlockName) → z.form ≡ says.Closes n →
    IsFine (body_closes bs ns n z.span) ((xs ++ ys) ++ (z ∷ []))
closes_fine [] xs o ys ns b z n h = record { fine = tt }
closes_fine (k ∷ bs) xs o ys ns b z n h = over (closes_body k n) refl
  where
    over : (t : Bool) → closes_body k n ≡ t →
        IsFine (if t then closed_body bs k ns z.span else None) ((xs ++ ys) ++ (z ∷ []))
    over true e = closed_fine k bs xs o ys ns b z (h ∙ ap says.Closes (closes_name k n e))
    over false e = record { fine = tt }

-- a parameter at the head of a template

none_spelled : (cs : List Command) (ls : List ℕ) (ns : List Node) → SpellsNodes cs ls ns → ns ≡ [] → cs ≡ []
none_spelled _ _ _ SpellsNodes.no_node_ e = refl
none_spelled _ _ _ (SpellsNodes.node_ cs ds ls ms ns n s i) e =
    absurd (omega (arith, simp length-append at (ap length e)))

template_param_fine : (bs : List Block) (xs : List Command) → Opened ABody bs xs
    → (c : Command) (n : List ℕ) (required : Bool)
    (of : SoyType) → c.form ≡ says.TemplateParam n required of →
    IsFine (template_param_step bs (as_param n of required c.span)) (xs ++ (c ∷ []))
template_param_fine _ _ (Opened.template_ ds cs ps k d n templates of params w hk t hd p) c m required kind h =
    moved
    (begun (block.Template (open_template n templates of d.span (params ++ (as_param m kind required c.span ∷ [])))) []
    (ds ++ (k ∷ (cs ++ (d ∷ (ps ++ (c ∷ []))))))
    (Opened.template_ ds cs (ps ++ (c ∷ [])) k d n templates of (params ++ (as_param m kind required c.span ∷ [])) w
    hk t hd
    (p.0 ++ (0 ∷ []), SpellsParams.param_ ps p.0 params c m required kind p.1 h)))
    (simp append_assoc)
template_param_fine _ _ (Opened.arm_ bs xs us zs before arms start e o v a) c m required kind h = record { fine = tt }
template_param_fine _ _ (Opened.else_ bs xs us zs k before arms start o v a hk) c m required kind h =
    record { fine = tt }
template_param_fine _ _ (Opened.for_ bs xs us k before n index e o v hc) c m required kind h = record { fine = tt }
template_param_fine _ _ (Opened.let_ bs xs us k before n of o v hc) c m required kind h = record { fine = tt }
template_param_fine _ _ (Opened.param_ bs xs us k arguments n of o a hc) c m required kind h = record { fine = tt }
template_param_fine _ _ (Opened.case_ bs xs us ws zs k d before e cases values o v hc w a hk) c m required kind h =
    record { fine = tt }
template_param_fine _ _ (Opened.switch_default_ bs xs us ws zs k d before e cases o v hc w a hk) c m required kind h =
    record { fine = tt }

empty_back : (ys : List Command) (items : List Node) (run : Option TextRun) → BodyAt_run ys items run →
    is_empty_of items run ≡ true → ys ≡ []
empty_back ys [] None b e = none_spelled ys b.0 [] b.1 refl
empty_back ys [] (Some r) b e = absurd (cc e)
empty_back ys (n ∷ ns) run b e = absurd (cc e)

body_fine : (bs : List Block) (nodes : Nodes) (cs : List Command) (c : Command) (of : CommandForm) → c.form ≡ of →
    HeldBody bs nodes cs → IsFine (body_step bs nodes of c.span) (cs ++ (c ∷ []))
body_fine bs nodes cs c (says.Text text) e h = body_text_fine bs nodes cs c h text (ap text_of e)
body_fine bs nodes cs c (says.Character text) e h = body_text_fine bs nodes cs c h text (ap text_of e)
body_fine bs nodes cs c (says.Namespace n) e h = record { fine = tt }
body_fine bs nodes cs c (says.TemplateParam n required of) e h = over (is_empty nodes) refl
  where
    over : (t : Bool) → is_empty nodes ≡ t →
        IsFine (if t then template_param_step bs (as_param n of required c.span) else None) (cs ++ (c ∷ []))
    over true q =
        let none = empty_back h.back nodes.items nodes.run h.body q in
        moved (template_param_fine bs h.prefix h.opened c n required of e)
        (ap (λ l. l ++ (c ∷ [])) (sym (append-nil h.prefix) ∙ (ap (λ l. h.prefix ++ l) (sym none) ∙ sym h.whole)))
    over false q = record { fine = tt }
body_fine bs nodes cs c (says.Single of) e h = single_fine bs nodes cs c h of e
body_fine bs nodes cs c (says.Opens of) e h = opening_fine bs nodes cs c h of e
body_fine bs nodes cs c (says.GoesOn m) e h =
    moved
    (goes_on_fine bs h.prefix h.opened h.back (ended nodes) (body_of h.back nodes.items nodes.run h.body) c m e)
    (ap (λ l. l ++ (c ∷ [])) (sym h.whole))
body_fine bs nodes cs c (says.Closes n) e h =
    moved
    (closes_fine bs h.prefix h.opened h.back (ended nodes) (body_of h.back nodes.items nodes.run h.body) c n e)
    (ap (λ l. l ++ (c ∷ [])) (sym h.whole))

-- between templates

white_fine : (bs : List Block) (cs : List Command) (c : Command) (of : CommandForm) → c.form ≡ of → HeldWhite bs cs →
    IsFine (white_step bs of c.span) (cs ++ (c ∷ []))
white_fine bs cs c (says.Text text) e h = over (is_white text) refl
  where
    over : (t : Bool) → is_white text ≡ t → IsFine (if t then state bs content.White else None) (cs ++ (c ∷ []))
    over true w = record { fine = record { none = h.none; white = white_more cs c text h.white e w } }
    over false w = record { fine = tt }
white_fine bs cs c (says.Namespace n) e h = record {
  fine = record {
    none = h.none;
    prefix = cs;
    command = c;
    back = [];
    whole = refl;
    white = h.white;
    is_namespace = e;
    are = ([], SpellsTemplates.none_);
  };
}
white_fine bs cs c _ e h = record { fine = tt }

template_opens_fine : (bs : List Block) (n : List ℕ) (templates : List Template) (cs : List Command) (c : Command)
    (of : Opening) →
    c.form ≡ says.Opens of → HeldTemplates bs n templates cs →
    IsFine (template_opens bs n templates of c.span) (cs ++ (c ∷ []))
template_opens_fine bs n templates cs c (opening.Template of) e h =
    subst (λ l. IsFine (template_opens l n templates (opening.Template of) c.span) (cs ++ (c ∷ []))) (sym h.none)
    (moved
    (begun (block.Template (open_template n templates of c.span [])) [] (h.prefix ++ (h.command ∷ (h.back ++ (c ∷ []))))
    (Opened.template_ h.prefix h.back [] h.command c n templates of [] h.white h.is_namespace h.are e
    ([], SpellsParams.none_)))
    (sym (append_assoc h.prefix (h.command ∷ h.back) (c ∷ [])) ∙ ap (λ l. l ++ (c ∷ [])) (sym h.whole)))
template_opens_fine bs n templates cs c _ e h = record { fine = tt }

templates_fine : (bs : List Block) (n : List ℕ) (templates : List Template) (cs : List Command) (c : Command)
    (of : CommandForm) →
    c.form ≡ of → HeldTemplates bs n templates cs → IsFine (templates_step bs n templates of c.span) (cs ++ (c ∷ []))
templates_fine bs n templates cs c (says.Text text) e h = over (is_white text) refl
  where
    over : (t : Bool) → is_white text ≡ t →
        IsFine (if t then state bs (content.Templates n templates) else None) (cs ++ (c ∷ []))
    over true w = record {
      fine = record {
        none = h.none;
        prefix = h.prefix;
        command = h.command;
        back = h.back ++ (c ∷ []);
        whole = ap (λ l. l ++ (c ∷ [])) h.whole ∙ append_assoc h.prefix (h.command ∷ h.back) (c ∷ []);
        white = h.white;
        is_namespace = h.is_namespace;
        are = (h.are.0 ++ (0 ∷ []), SpellsTemplates.white_ h.back h.are.0 templates c text h.are.1 e w);
      };
    }
    over false w = record { fine = tt }
templates_fine bs n templates cs c (says.Opens of) e h = template_opens_fine bs n templates cs c of e h
templates_fine bs n templates cs c _ e h = record { fine = tt }

-- in a call

argument_single_fine : (bs : List Block) (arguments : List Argument) (cs : List Command) (c : Command) (of : Single) →
    c.form ≡ says.Single of → HeldArguments bs arguments cs →
    IsFine (argument_single bs arguments of c.span) (cs ++ (c ∷ []))
argument_single_fine bs arguments cs c (single.Param n e) t h = record {
  fine = record {
    prefix = h.prefix;
    back = h.back ++ (c ∷ []);
    whole = sym (on_whole cs h.prefix h.back (c ∷ []) h.whole);
    opened = h.opened;
    are = (h.are.0 ++ (0 ∷ []), SpellsArguments.param_ h.back h.are.0 arguments c n e h.are.1 t);
  };
}
argument_single_fine bs arguments cs c _ t h = record { fine = tt }

argument_opens_fine : (bs : List Block) (arguments : List Argument) (cs : List Command) (c : Command) (of : Opening) →
    c.form ≡ says.Opens of → HeldArguments bs arguments cs →
    IsFine (argument_opens bs arguments of c.span) (cs ++ (c ∷ []))
argument_opens_fine bs arguments cs c (opening.Param n kind) t h =
    moved
    (begun (block.Param arguments c.span n kind) bs (h.prefix ++ (h.back ++ (c ∷ [])))
    (Opened.param_ bs h.prefix h.back c arguments n kind h.opened h.are t))
    (on_whole cs h.prefix h.back (c ∷ []) h.whole)
argument_opens_fine bs arguments cs c _ t h = record { fine = tt }

closed_call_fine : (bs : List Block) (xs : List Command) → Opened ACall bs xs → (ys : List Command)
    (arguments : List Argument) → ArgumentsOf ys arguments → (z : Command) → z.form ≡ says.Closes name.Call →
    IsFine (closed_call bs arguments z.span) ((xs ++ ys) ++ (z ∷ []))
closed_call_fine _ _ (Opened.call_ bs xs us c before n all o v hc) ys arguments a z h =
    moved
    (adds_fine bs xs us (c ∷ (ys ++ (z ∷ []))) before _ o v
    (0 ∷ inside_blocks 1 (a.0 ++ (0 ∷ [])), SpellsNode.call_ c z ys a.0 n all arguments hc a.1 h))
    (simp append_assoc)

call_name : (n : BlockName) → is_call n ≡ true → n ≡ name.Call
call_name name.Call e = refl
call_name _ e = absurd (cc e)

arguments_fine : (bs : List Block) (arguments : List Argument) (cs : List Command) (c : Command) (of : CommandForm)
    → c.form ≡ of →
    HeldArguments bs arguments cs → IsFine (arguments_step bs arguments of c.span) (cs ++ (c ∷ []))
arguments_fine bs arguments cs c (says.Text text) e h = over (is_white text) refl
  where
    over : (t : Bool) → is_white text ≡ t →
        IsFine (if t then state bs (content.Arguments arguments) else None) (cs ++ (c ∷ []))
    over true w = record {
      fine = record {
        prefix = h.prefix;
        back = h.back ++ (c ∷ []);
        whole = sym (on_whole cs h.prefix h.back (c ∷ []) h.whole);
        opened = h.opened;
        are = (h.are.0 ++ (0 ∷ []), SpellsArguments.white_ h.back h.are.0 arguments c text h.are.1 e w);
      };
    }
    over false w = record { fine = tt }
arguments_fine bs arguments cs c (says.Single of) e h = argument_single_fine bs arguments cs c of e h
arguments_fine bs arguments cs c (says.Opens of) e h = argument_opens_fine bs arguments cs c of e h
arguments_fine bs arguments cs c (says.Closes n) e h = over (is_call n) refl
  where
    over : (t : Bool) → is_call n ≡ t → IsFine (if t then closed_call bs arguments c.span else None) (cs ++ (c ∷ []))
    over true q =
        moved
        (closed_call_fine bs h.prefix h.opened h.back arguments h.are c (e ∙ ap says.Closes (call_name n q)))
        (ap (λ l. l ++ (c ∷ [])) (sym h.whole))
    over false q = record { fine = tt }
arguments_fine bs arguments cs c _ e h = record { fine = tt }

-- before the first case

plural_goes_on_fine : (bs : List Block) (xs ys ws zs : List Command) (c : Command) (e : Expr) (offset : ℕ)
    (cases : List PluralCase) (m : Middle) (d : Command) → Opened AMessage bs xs → WhiteOf ys →
    c.form ≡ says.Opens (opening.Plural e offset) → WhiteOf ws → PluralCasesOf zs cases → d.form ≡ says.GoesOn m →
    IsFine (plural_goes_on bs (open_plural e offset cases) m) (xs ++ (ys ++ (c ∷ (ws ++ (zs ++ (d ∷ []))))))
plural_goes_on_fine bs xs ys ws zs c e offset cases (middle.PluralCase values) d o v hc w k h =
    begun_parts (block.PluralCase (open_plural e offset cases) values) bs (xs ++ (ys ++ (c ∷ (ws ++ (zs ++ (d ∷ []))))))
    (Opened.plural_case_ bs xs ys ws zs c d e offset cases values o v hc w k h)
plural_goes_on_fine bs xs ys ws zs c e offset cases middle.Default d o v hc w k h =
    begun_parts (block.PluralDefault (open_plural e offset cases)) bs (xs ++ (ys ++ (c ∷ (ws ++ (zs ++ (d ∷ []))))))
    (Opened.plural_default_ bs xs ys ws zs c d e offset cases o v hc w k h)
plural_goes_on_fine bs xs ys ws zs c e offset cases _ d o v hc w k h = record { fine = tt }

select_goes_on_fine : (bs : List Block) (xs ys ws zs : List Command) (c : Command) (e : Expr)
    (cases : List SelectCase) (m : Middle) (d : Command) → Opened AMessage bs xs → WhiteOf ys →
    c.form ≡ says.Opens (opening.Select e) → WhiteOf ws → SelectCasesOf zs cases → d.form ≡ says.GoesOn m →
    IsFine (select_goes_on bs (open_select e cases) m) (xs ++ (ys ++ (c ∷ (ws ++ (zs ++ (d ∷ []))))))
select_goes_on_fine bs xs ys ws zs c e cases (middle.SelectCase values) d o v hc w k h =
    begun_parts (block.SelectCase (open_select e cases) values) bs (xs ++ (ys ++ (c ∷ (ws ++ (zs ++ (d ∷ []))))))
    (Opened.select_case_ bs xs ys ws zs c d e cases values o v hc w k h)
select_goes_on_fine bs xs ys ws zs c e cases middle.Default d o v hc w k h =
    begun_parts (block.SelectDefault (open_select e cases)) bs (xs ++ (ys ++ (c ∷ (ws ++ (zs ++ (d ∷ []))))))
    (Opened.select_default_ bs xs ys ws zs c d e cases o v hc w k h)
select_goes_on_fine bs xs ys ws zs c e cases _ d o v hc w k h = record { fine = tt }

cases_begin_fine : (k : Inside) → HasCases k → (bs : List Block) (xs : List Command) → Opened k bs xs
    → (ws : List Command) →
    WhiteOf ws → (d : Command) (m : Middle) → d.form ≡ says.GoesOn m
    → IsFine (cases_begin bs m) ((xs ++ ws) ++ (d ∷ []))
cases_begin_fine _ HasCases.switch_ _ _ (Opened.switch_ bs xs us c before e o v hc) ws w d m h =
    moved (case_goes_on_fine bs xs us ws [] c before e [] m d o v hc w ([], SpellsCases.no_case_) h) (simp append_assoc)
cases_begin_fine _ HasCases.plural_ _ _ (Opened.plural_ bs xs us c e offset o v hc) ws w d m h =
    moved (plural_goes_on_fine bs xs us ws [] c e offset [] m d o v hc w ([], SpellsPluralCases.no_plural_case_) h)
    (simp append_assoc)
cases_begin_fine _ HasCases.select_ _ _ (Opened.select_ bs xs us c e o v hc) ws w d m h =
    moved (select_goes_on_fine bs xs us ws [] c e [] m d o v hc w ([], SpellsSelectCases.no_select_case_) h)
    (simp append_assoc)

closed_bare_fine : (k : Inside) → HasCases k → (bs : List Block) (xs : List Command) → Opened k bs xs
    → (ws : List Command) →
    WhiteOf ws → (z : Command) → z.form ≡ says.Closes name.Switch →
    IsFine (closed_bare_switch bs z.span) ((xs ++ ws) ++ (z ∷ []))
closed_bare_fine _ HasCases.switch_ _ _ (Opened.switch_ bs xs us c before e o v hc) ws w z h =
    moved
    (adds_fine bs xs us (c ∷ (ws ++ ([] ++ (z ∷ [])))) before _ o v
    (0 ∷ inside_blocks 1 (w.0 ++ (0 ∷ [])), SpellsNode.switch_ c z ws [] w.0 [] e [] hc w.1 SpellsCases.no_case_ h))
    (simp append_assoc)
closed_bare_fine _ HasCases.plural_ _ _ (Opened.plural_ bs xs us c e offset o v hc) ws w z h = record { fine = tt }
closed_bare_fine _ HasCases.select_ _ _ (Opened.select_ bs xs us c e o v hc) ws w z h = record { fine = tt }

switch_name : (n : BlockName) → is_switch n ≡ true → n ≡ name.Switch
switch_name name.Switch e = refl
switch_name _ e = absurd (cc e)

before_cases_fine : (bs : List Block) (cs : List Command) (c : Command) (of : CommandForm) → c.form ≡ of
    → HeldBeforeCases bs cs →
    IsFine (before_cases_step bs of c.span) (cs ++ (c ∷ []))
before_cases_fine bs cs c (says.Text text) e h = over (is_white text) refl
  where
    over : (t : Bool) → is_white text ≡ t → IsFine (if t then state bs content.BeforeCases else None) (cs ++ (c ∷ []))
    over true w = record {
      fine = record {
        inside = h.inside;
        has = h.has;
        prefix = h.prefix;
        back = h.back ++ (c ∷ []);
        whole = sym (on_whole cs h.prefix h.back (c ∷ []) h.whole);
        opened = h.opened;
        white = white_more h.back c text h.white e w;
      };
    }
    over false w = record { fine = tt }
before_cases_fine bs cs c (says.GoesOn m) e h =
    moved (cases_begin_fine h.inside h.has bs h.prefix h.opened h.back h.white c m e)
    (ap (λ l. l ++ (c ∷ [])) (sym h.whole))
before_cases_fine bs cs c (says.Closes n) e h = over (is_switch n) refl
  where
    over : (t : Bool) → is_switch n ≡ t → IsFine (if t then closed_bare_switch bs c.span else None) (cs ++ (c ∷ []))
    over true q =
        moved
        (closed_bare_fine h.inside h.has bs h.prefix h.opened h.back h.white c (e ∙ ap says.Closes (switch_name n q)))
        (ap (λ l. l ++ (c ∷ [])) (sym h.whole))
    over false q = record { fine = tt }
before_cases_fine bs cs c _ e h = record { fine = tt }

-- in a message

plural_more : (zs ys : List Command) (cases : List PluralCase) (d : Command) (values : List ℤ) (body : MessageBody) →
    PluralCasesOf zs cases → d.form ≡ says.GoesOn (middle.PluralCase values) → MessageOf ys body →
    PluralCasesOf (zs ++ (d ∷ ys)) (cases ++ plural_cases values body)
plural_more zs ys cases d values body k h b =
    (k.0 ++ (0 ∷ b.0), SpellsPluralCases.plural_case_ zs ys k.0 b.0 cases d values body k.1 h b.1)

select_more : (zs ys : List Command) (cases : List SelectCase) (d : Command) (values : List (List ℕ))
    (body : MessageBody) →
    SelectCasesOf zs cases → d.form ≡ says.GoesOn (middle.SelectCase values) → MessageOf ys body →
    SelectCasesOf (zs ++ (d ∷ ys)) (cases ++ select_cases values body)
select_more zs ys cases d values body k h b =
    (k.0 ++ (0 ∷ b.0), SpellsSelectCases.select_case_ zs ys k.0 b.0 cases d values body k.1 h b.1)

fallback_fine : (bs : List Block) (xs us ys : List Command) (c : Command) (before : List Node) (desc meaning : List ℕ)
    (body : MessageBody) (m : Middle) (d : Command) → Opened ABody bs xs → BodyOf us before →
    c.form ≡ says.Opens (opening.Message desc meaning) → MessageOf ys body → d.form ≡ says.GoesOn m →
    IsFine (fallback_begins bs (open_message before c.span desc meaning) body m d.span)
    (xs ++ (us ++ (c ∷ (ys ++ (d ∷ [])))))
fallback_fine bs xs us ys c before desc meaning body (middle.Fallback older older_meaning) d o v hc b h =
    begun_parts (block.Fallback (open_message before c.span desc meaning) body
    (open_fallback d.span older older_meaning)) bs
    (xs ++ (us ++ (c ∷ (ys ++ (d ∷ [])))))
    (Opened.fallback_ bs xs us ys c d before body desc meaning older older_meaning o v hc b h)
fallback_fine bs xs us ys c before desc meaning body _ d o v hc b h = record { fine = tt }

message_goes_on_fine : (bs : List Block) (xs : List Command) → Opened AMessage bs xs → (ys : List Command)
    (body : MessageBody) → MessageOf ys body → (d : Command) (m : Middle) → d.form ≡ says.GoesOn m →
    IsFine (message_goes_on bs body m d.span) ((xs ++ ys) ++ (d ∷ []))
message_goes_on_fine _ _ (Opened.message_ bs xs us c before desc meaning o v hc) ys body b d m h =
    moved (fallback_fine bs xs us ys c before desc meaning body m d o v hc b h) (simp append_assoc)
message_goes_on_fine _ _ (Opened.fallback_ bs xs us zs c k before first desc meaning older older_meaning o v hc a hk)
    ys body b d
    m h = record { fine = tt }
message_goes_on_fine _ _ (Opened.plural_case_ bs xs us ws zs c k e offset cases values o v hc w a hk) ys body b d m h =
    moved
    (plural_goes_on_fine bs xs us ws (zs ++ (k ∷ ys)) c e offset _ m d o v hc w
    (plural_more zs ys cases k values body a hk b) h)
    (simp append_assoc)
message_goes_on_fine _ _ (Opened.plural_default_ bs xs us ws zs c k e offset cases o v hc w a hk) ys body b d m h =
    record { fine = tt }
message_goes_on_fine _ _ (Opened.select_case_ bs xs us ws zs c k e cases values o v hc w a hk) ys body b d m h =
    moved
    (select_goes_on_fine bs xs us ws (zs ++ (k ∷ ys)) c e _ m d o v hc w
    (select_more zs ys cases k values body a hk b) h)
    (simp append_assoc)
message_goes_on_fine _ _ (Opened.select_default_ bs xs us ws zs c k e cases o v hc w a hk) ys body b d m h =
    record { fine = tt }

-- the name that closes what holds a message
abbrev message_name : Block → BlockName
message_name (block.Message m) = name.Msg
message_name (block.Fallback m body f) = name.Msg
message_name (block.PluralDefault p) = name.Plural
message_name (block.SelectDefault s) = name.Select
message_name _ = name.Other

closes_message_name : (b : Block) (n : BlockName) → closes_message b n ≡ true → n ≡ message_name b
closes_message_name (block.Message m) name.Msg e = refl
closes_message_name (block.Fallback m body f) name.Msg e = refl
closes_message_name (block.PluralDefault p) name.Plural e = refl
closes_message_name (block.SelectDefault s) name.Select e = refl
closes_message_name _ _ e = absurd (cc e)

closed_message_fine : (b : Block) (bs : List Block) (xs : List Command) → Opened AMessage (b ∷ bs) xs
    → (ys : List Command)
    (body : MessageBody) → MessageOf ys body → (z : Command) → z.form ≡ says.Closes (message_name b) →
    IsFine (closed_message bs b body z.span) ((xs ++ ys) ++ (z ∷ []))
closed_message_fine _ _ _ (Opened.message_ bs xs us c before desc meaning o v hc) ys body m z h =
    moved
    (adds_fine bs xs us (c ∷ (ys ++ (z ∷ []))) before _ o v
    (0 ∷ inside_blocks 1 (m.0 ++ (0 ∷ [])), SpellsNode.message_ c z ys m.0 desc meaning body hc m.1 h))
    (simp append_assoc)
closed_message_fine _ _ _ (Opened.fallback_ bs xs us zs c k before first desc meaning older older_meaning o v hc a hk)
    ys body m z
    h =
    moved
    (adds_fine bs xs us (c ∷ (zs ++ (k ∷ (ys ++ (z ∷ []))))) before _ o v (
      0 ∷ inside_blocks 1 (a.0 ++ (0 ∷ (m.0 ++ (0 ∷ [])))),
      SpellsNode.message_fallback_ c k z zs ys a.0 m.0 desc meaning older older_meaning first body hc a.1 hk m.1 h,
    ))
    (simp append_assoc)
closed_message_fine _ _ _ (Opened.plural_case_ bs xs us ws zs c k e offset cases values o v hc w a hk) ys body m z h =
    record { fine = tt }
closed_message_fine _ _ _ (Opened.plural_default_ bs xs us ws zs c k e offset cases o v hc w a hk) ys body m z h =
    record {
      fine = record {
        prefix = xs;
        before = us;
        own = c ∷ (ws ++ (zs ++ (k ∷ (ys ++ (z ∷ [])))));
        after = [];
        whole = simp (append_assoc, append-nil {A = Command});
        opened = o;
        white_before = v;
        choice = (
          0 ∷ inside_blocks 1 (w.0 ++ (a.0 ++ (0 ∷ (m.0 ++ (0 ∷ []))))),
          SpellsChoice.plural_ c k z zs ys ws a.0 m.0 w.0 e offset cases body hc w.1 a.1 hk m.1 h,
        );
        white_after = no_white;
      };
    }
closed_message_fine _ _ _ (Opened.select_case_ bs xs us ws zs c k e cases values o v hc w a hk) ys body m z h =
    record { fine = tt }
closed_message_fine _ _ _ (Opened.select_default_ bs xs us ws zs c k e cases o v hc w a hk) ys body m z h =
    record {
      fine = record {
        prefix = xs;
        before = us;
        own = c ∷ (ws ++ (zs ++ (k ∷ (ys ++ (z ∷ [])))));
        after = [];
        whole = simp (append_assoc, append-nil {A = Command});
        opened = o;
        white_before = v;
        choice = (
          0 ∷ inside_blocks 1 (w.0 ++ (a.0 ++ (0 ∷ (m.0 ++ (0 ∷ []))))),
          SpellsChoice.select_ c k z zs ys ws a.0 m.0 w.0 e cases body hc w.1 a.1 hk m.1 h,
        );
        white_after = no_white;
      };
    }

message_closes_fine : (bs : List Block) (xs : List Command) → Opened AMessage bs xs → (ys : List Command)
    (body : MessageBody) → MessageOf ys body → (z : Command) (n : BlockName) → z.form ≡ says.Closes n →
    IsFine (message_closes bs body n z.span) ((xs ++ ys) ++ (z ∷ []))
message_closes_fine [] xs o ys body m z n h = record { fine = tt }
message_closes_fine (k ∷ bs) xs o ys body m z n h = over (closes_message k n) refl
  where
    over : (t : Bool) → closes_message k n ≡ t →
        IsFine (if t then closed_message bs k body z.span else None) ((xs ++ ys) ++ (z ∷ []))
    over true e = closed_message_fine k bs xs o ys body m z (h ∙ ap says.Closes (closes_message_name k n e))
    over false e = record { fine = tt }

choice_opens_fine : (bs : List Block) (xs ys : List Command) (c : Command) (of : Opening) → c.form ≡ says.Opens of →
    Opened AMessage bs xs → WhiteOf ys → IsFine (choice_opens bs of) (xs ++ (ys ++ (c ∷ [])))
choice_opens_fine bs xs ys c (opening.Plural e offset) h o w =
    begun_cases APlural (block.Plural e offset) bs (xs ++ (ys ++ (c ∷ []))) HasCases.plural_
    (Opened.plural_ bs xs ys c e offset o w h)
choice_opens_fine bs xs ys c (opening.Select e) h o w =
    begun_cases ASelect (block.Select e) bs (xs ++ (ys ++ (c ∷ []))) HasCases.select_
    (Opened.select_ bs xs ys c e o w h)
choice_opens_fine bs xs ys c _ h o w = record { fine = tt }

both_true : (a b : Bool) → (a && b) ≡ true → (a ≡ true) × (b ≡ true)
both_true true true e = (refl, refl)
both_true true false e = absurd (cc e)
both_true false b e = absurd (cc e)

part_single_fine : (bs : List Block) (nodes : Nodes) (white : Bool) (cs : List Command) (c : Command) (of : Single) →
    c.form ≡ says.Single of → HeldParts bs nodes white cs → IsFine (part_single bs (ended nodes) of c.span)
    (cs ++ (c ∷ []))
part_single_fine bs nodes white cs c (single.MessagePrint e phname) t h =
    let p = parts_at h.back nodes.items nodes.run h.parts in
    record {
      fine = record {
        prefix = h.prefix;
        back = h.back ++ (c ∷ []);
        whole = sym (on_whole cs h.prefix h.back (c ∷ []) h.whole);
        opened = h.opened;
        parts = (p.0 ++ (0 ∷ []), SpellsPrints.print_ h.back p.0 (ended nodes) c e phname p.1 t);
        are_white = λ q. absurd (cc q);
      };
    }
part_single_fine bs nodes white cs c _ t h = record { fine = tt }

parts_fine : (bs : List Block) (nodes : Nodes) (white : Bool) (cs : List Command) (c : Command) (of : CommandForm)
    → c.form ≡ of →
    HeldParts bs nodes white cs → IsFine (parts_step bs nodes white of c.span) (cs ++ (c ∷ []))
parts_fine bs nodes white cs c (says.Text text) e h = record {
  fine = record {
    prefix = h.prefix;
    back = h.back ++ (c ∷ []);
    whole = sym (on_whole cs h.prefix h.back (c ∷ []) h.whole);
    opened = h.opened;
    parts = parts_text h.back nodes.items nodes.run c text h.parts (ap text_of e);
    are_white = λ q. let both = both_true white (is_white text) q in white_more h.back c text (h.are_white both.0) e
        both.1;
  };
}
parts_fine bs nodes white cs c (says.Character text) e h = record {
  fine = record {
    prefix = h.prefix;
    back = h.back ++ (c ∷ []);
    whole = sym (on_whole cs h.prefix h.back (c ∷ []) h.whole);
    opened = h.opened;
    parts = parts_text h.back nodes.items nodes.run c text h.parts (ap text_of e);
    are_white = λ q. absurd (cc q);
  };
}
parts_fine bs nodes white cs c (says.Namespace n) e h = record { fine = tt }
parts_fine bs nodes white cs c (says.TemplateParam n required of) e h = record { fine = tt }
parts_fine bs nodes white cs c (says.Single of) e h = part_single_fine bs nodes white cs c of e h
parts_fine bs nodes white cs c (says.Opens of) e h = over white refl
  where
    over : (t : Bool) → white ≡ t → IsFine (if t then choice_opens bs of else None) (cs ++ (c ∷ []))
    over true q =
        moved (choice_opens_fine bs h.prefix h.back c of e h.opened (h.are_white q))
        (on_whole cs h.prefix h.back (c ∷ []) h.whole)
    over false q = record { fine = tt }
parts_fine bs nodes white cs c (says.GoesOn m) e h = over (has_whole_tags nodes) refl
  where
    over : (t : Bool) → has_whole_tags nodes ≡ t →
        IsFine (if t then message_goes_on bs (body_of_parts nodes) m c.span else None) (cs ++ (c ∷ []))
    over true q =
        let p = parts_at h.back nodes.items nodes.run h.parts in
        moved
        (message_goes_on_fine bs h.prefix h.opened h.back (body_of_parts nodes)
        (p.0, SpellsMessageBody.parts_ h.back p.0 (ended nodes) p.1 q) c m e)
        (ap (λ l. l ++ (c ∷ [])) (sym h.whole))
    over false q = record { fine = tt }
parts_fine bs nodes white cs c (says.Closes n) e h = over (has_whole_tags nodes) refl
  where
    over : (t : Bool) → has_whole_tags nodes ≡ t →
        IsFine (if t then message_closes bs (body_of_parts nodes) n c.span else None) (cs ++ (c ∷ []))
    over true q =
        let p = parts_at h.back nodes.items nodes.run h.parts in
        moved
        (message_closes_fine bs h.prefix h.opened h.back (body_of_parts nodes)
        (p.0, SpellsMessageBody.parts_ h.back p.0 (ended nodes) p.1 q) c n e)
        (ap (λ l. l ++ (c ∷ [])) (sym h.whole))
    over false q = record { fine = tt }

-- after a plural or select

choice_message : (body : MessageBody) (us os ws : List Command) → WhiteOf us → ChoiceOf os body → WhiteOf ws →
    MessageOf (us ++ (os ++ ws)) body
choice_message body us os ws u o w =
    (u.0 ++ (o.0 ++ w.0), SpellsMessageBody.choice_ us os ws u.0 o.0 w.0 body u.1 o.1 w.1)

choice_fine : (bs : List Block) (body : MessageBody) (cs : List Command) (c : Command) (of : CommandForm)
    → c.form ≡ of →
    HeldChoice bs body cs → IsFine (choice_step bs body of c.span) (cs ++ (c ∷ []))
choice_fine bs body cs c (says.Text text) e h = over (is_white text) refl
  where
    over : (t : Bool) → is_white text ≡ t → IsFine (if t then state bs (content.Choice body) else None) (cs ++ (c ∷ []))
    over true w = record {
      fine = record {
        prefix = h.prefix;
        before = h.before;
        own = h.own;
        after = h.after ++ (c ∷ []);
        whole = ap (λ l. l ++ (c ∷ [])) h.whole ∙ simp append_assoc;
        opened = h.opened;
        white_before = h.white_before;
        choice = h.choice;
        white_after = white_more h.after c text h.white_after e w;
      };
    }
    over false w = record { fine = tt }
choice_fine bs body cs c (says.GoesOn m) e h =
    moved
    (message_goes_on_fine bs h.prefix h.opened (h.before ++ (h.own ++ h.after)) body
    (choice_message body h.before h.own h.after h.white_before h.choice h.white_after) c m e)
    (ap (λ l. l ++ (c ∷ [])) (sym h.whole))
choice_fine bs body cs c (says.Closes n) e h =
    moved
    (message_closes_fine bs h.prefix h.opened (h.before ++ (h.own ++ h.after)) body
    (choice_message body h.before h.own h.after h.white_before h.choice h.white_after) c n e)
    (ap (λ l. l ++ (c ∷ [])) (sym h.whole))
choice_fine bs body cs c _ e h = record { fine = tt }

-- **A command keeps what was read.**
pub step_fine : (k : Content) (bs : List Block) (cs : List Command) (c : Command) → Held_at k bs cs →
    IsFine (step_at k bs c.form c.span) (cs ++ (c ∷ []))
step_fine content.White bs cs c h = white_fine bs cs c c.form refl h
step_fine (content.Templates n templates) bs cs c h = templates_fine bs n templates cs c c.form refl h
step_fine (content.Body nodes) bs cs c h = body_fine bs nodes cs c c.form refl h
step_fine (content.Arguments arguments) bs cs c h = arguments_fine bs arguments cs c c.form refl h
step_fine content.BeforeCases bs cs c h = before_cases_fine bs cs c c.form refl h
step_fine (content.Parts nodes white) bs cs c h = parts_fine bs nodes white cs c c.form refl h
step_fine (content.Choice body) bs cs c h = choice_fine bs body cs c c.form refl h

-- so do commands one after the other
pub run_held : (cs ds : List Command) (s s' : CommandState) → Held_at s.content s.blocks ds
    → command_run cs s ≡ Some s' →
    Held_at s'.content s'.blocks (ds ++ cs)
run_held [] ds s s' h e =
    subst (λ l. Held_at s'.content s'.blocks l) (sym (append-nil ds)) (subst (λ o. Fine o ds) e h)
run_held (c ∷ cs) ds s s' h e =
    subst (λ l. Held_at s'.content s'.blocks l) (append_assoc ds (c ∷ []) cs)
    (over (command_step s c) e (step_fine s.content s.blocks ds c h) (λ m. run_held cs (ds ++ (c ∷ [])) m s'))
  where
    over : (to : Option CommandState) → commands_from (command_run cs) to ≡ Some s' → IsFine to (ds ++ (c ∷ [])) →
        ((m : CommandState) → Held_at m.content m.blocks (ds ++ (c ∷ [])) → command_run cs m ≡ Some s' →
        Held_at s'.content s'.blocks ((ds ++ (c ∷ [])) ++ cs)) → Held_at s'.content s'.blocks ((ds ++ (c ∷ [])) ++ cs)
    over None q f inside_ = absurd (cc q)
    over (Some m) q f inside_ = inside_ m f.fine q

start_held : Held_at content.White [] []
start_held = record { none = refl; white = no_white }

pub start_run_held : (cs : List Command) (s : CommandState) → command_run cs command_start ≡ Some s →
    Held_at s.content s.blocks cs
start_run_held cs s e = run_held cs [] command_start s start_held e

-- **What was read to the templates of a file is one.**
pub run_tree : (cs : List Command) (n : List ℕ) (templates : List Template) →
    command_run cs command_start ≡ Some (record { blocks = []; content = content.Templates n templates }) →
    (ls : List ℕ) × SpellsTree cs ls (record { namespace = n; templates = templates })
run_tree cs n templates e =
    let h = start_run_held cs _ e in
    subst (λ l. (ls : List ℕ) × SpellsTree l ls (record { namespace = n; templates = templates })) (sym h.whole) (
      h.white.0 ++ (0 ∷ h.are.0),
      SpellsTree.tree_ h.prefix h.back h.white.0 h.are.0 h.command n templates h.white.1 h.is_namespace h.are.1,
    )
