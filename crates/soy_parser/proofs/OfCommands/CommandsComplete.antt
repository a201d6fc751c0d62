-- Commands that are a file are read to their end, at their levels.
use Rattle.std.proofs.Common.{◌≡◌, ℕ, suc, Bool, true, false, List, [], ◌∷◌, ◌++◌, length, Option, Some, None}
use Rattle.std.proofs.Common.{refl, ◌∙◌, ap, subst, arith}
use Rattle.std.specs.Prelude.{if◌then◌else◌, ◌&&◌}
use Rattle.soy_base.specs.declared.fault.Span.{Span}
use Rattle.soy_tree.specs.Formed.{is_message_text}
use Rattle.soy_tree.specs.ViewNodes.{view_nodes}
use Rattle.soy_tree.specs.declared.expr.Expr.{Expr}
use Rattle.soy_tree.specs.declared.node.Argument.{Argument}
use Rattle.soy_tree.specs.declared.node.Arm.{Arm}
use Rattle.soy_tree.specs.declared.node.Case.{Case}
use Rattle.soy_tree.specs.declared.node.Form.TheVariants as form
use Rattle.soy_tree.specs.declared.node.MessageBody.{MessageBody}
use Rattle.soy_tree.specs.declared.node.MessageBody.TheVariants as message_body
use Rattle.soy_tree.specs.declared.node.Node.{Node}
use Rattle.soy_tree.specs.declared.node.PluralCase.{PluralCase}
use Rattle.soy_tree.specs.declared.node.SelectCase.{SelectCase}
use Rattle.soy_tree.specs.declared.tree.Param.{Param}
use Rattle.soy_tree.specs.declared.tree.Template.{Template}
use Rattle.soy_tree.specs.declared.tree.Tree.{Tree}
use Rattle.soy_parser.specs.declared.block.Block.{Block}
use Rattle.soy_parser.specs.declared.block.Block.TheVariants as block
use Rattle.soy_parser.specs.declared.block.CommandState.{CommandState}
use Rattle.soy_parser.specs.declared.block.Content.{Content}
use Rattle.soy_parser.specs.declared.block.Content.TheVariants as content
use Rattle.soy_parser.specs.declared.block.Nodes.{Nodes}
use Rattle.soy_parser.specs.declared.block.OpenFallback.{OpenFallback}
use Rattle.soy_parser.specs.declared.block.OpenIf.{OpenIf}
use Rattle.soy_parser.specs.declared.block.OpenMessage.{OpenMessage}
use Rattle.soy_parser.specs.declared.block.OpenPlural.{OpenPlural}
use Rattle.soy_parser.specs.declared.block.OpenSelect.{OpenSelect}
use Rattle.soy_parser.specs.declared.block.OpenSwitch.{OpenSwitch}
use Rattle.soy_parser.specs.declared.block.OpenTemplate.{OpenTemplate}
use Rattle.soy_parser.specs.declared.block.TextRun.{TextRun}
use Rattle.soy_parser.specs.declared.command.Command.{Command}
use Rattle.soy_parser.specs.declared.command.Middle.{Middle}
use Rattle.soy_parser.specs.declared.command.Middle.TheVariants as middle
use Rattle.soy_parser.specs.declared.command.CommandForm.{CommandForm}
use Rattle.soy_parser.specs.declared.command.CommandForm.TheVariants as says
use Rattle.soy_parser.specs.declared.command.TemplateOpening.{TemplateOpening}
use Rattle.soy_parser.specs.declared.terminal.BlockName.{BlockName}
use Rattle.soy_parser.specs.declared.terminal.BlockName.TheVariants as name
use Rattle.soy_parser.specs.CommandSteps.{is_white, nodes_with, no_nodes, with_text, ended, has_whole_tags}
use Rattle.soy_parser.specs.CommandSteps.{body_of_parts}
use Rattle.soy_parser.specs.CommandSteps.{with_arm, with_case, arm_goes_on}
use Rattle.soy_parser.specs.CommandSteps.{case_goes_on}
use Rattle.soy_parser.specs.CommandSteps.{plural_goes_on, select_goes_on, message_goes_on, message_closes}
use Rattle.soy_parser.specs.CommandSteps.{closes_body, closed_body, body_closes, closed_if, closed_switch, body_step}
use Rattle.soy_parser.specs.CommandSteps.{parts_step, step_at, command_step, command_start}
use Rattle.soy_parser.specs.Depth.{inside_blocks}
use Rattle.soy_parser.specs.Nodes.{node_of}
use Rattle.soy_parser.specs.SpellsTree.{SpellsWhite, text_of, SpellsText, SpellsPrints, SpellsParts, SpellsMessageBody}
use Rattle.soy_parser.specs.SpellsTree.{SpellsChoice, SpellsPluralCases, SpellsSelectCases, SpellsNodes, SpellsBody}
use Rattle.soy_parser.specs.SpellsTree.{SpellsNode}
use Rattle.soy_parser.specs.SpellsTree.{SpellsArms, SpellsCases, SpellsArguments, SpellsParams, SpellsTemplates}
use Rattle.soy_parser.specs.SpellsTree.{SpellsTree}
use Rattle.soy_parser.proofs.OfCommands.CommandRunning.{Goes, none_goes, step_goes, then_goes, inside_goes}

abbrev pub at : List Block → Content → CommandState
at blocks content = record { blocks = blocks; content = content }

-- a command does what it says
form_step : (s : CommandState) (c : Command) (of : CommandForm) (to : Option CommandState) → c.form ≡ of →
    step_at s.content s.blocks of c.span ≡ to → command_step s c ≡ to
form_step s c of to h e = ap (λ t. step_at s.content s.blocks t c.span) h ∙ e

-- one command at the level of the blocks
one_goes : (bs : List Block) (k : Content) (c : Command) (s' : CommandState) → command_step (at bs k) c ≡ Some s' →
    Goes (length bs) (at bs k) (c ∷ []) (0 ∷ []) s'
one_goes bs k c s' e = step_goes (length bs) 0 (at bs k) c s' e (omega arith)

-- and one further in
further_goes : (bs : List Block) (s : CommandState) (c : Command) (s' : CommandState)
    → length s.blocks ≡ suc (length bs) →
    command_step s c ≡ Some s' → Goes (length bs) s (c ∷ []) (1 ∷ []) s'
further_goes bs s c s' long e = step_goes (length bs) 1 s c s' e (long ∙ omega arith)

-- a command and what follows inside its block
opens_goes : (bs : List Block) (k : Content) (c : Command) (m s' : CommandState) (cs : List Command) (ls : List ℕ) →
    command_step (at bs k) c ≡ Some m → Goes (suc (length bs)) m cs ls s' →
    Goes (length bs) (at bs k) (c ∷ cs) (0 ∷ inside_blocks 1 ls) s'
opens_goes bs k c m s' cs ls e g = then_goes (one_goes bs k c m e) (inside_goes g)

-- white text where it stands alone
white_goes : (bs : List Block) (k : Content) →
    ((text : List ℕ) (span : Span) → is_white text ≡ true → step_at k bs (says.Text text) span ≡ Some (at bs k)) →
    (cs : List Command) (ls : List ℕ) → SpellsWhite cs ls → Goes (length bs) (at bs k) cs ls (at bs k)
white_goes bs k stays _ _ SpellsWhite.none_ = none_goes (length bs) (at bs k)
white_goes bs k stays _ _ (SpellsWhite.more_ cs ls c text s h w) =
    then_goes (white_goes bs k stays cs ls s)
    (one_goes bs k c (at bs k) (form_step (at bs k) c (says.Text text) (Some (at bs k)) h (stays text c.span w)))

when_true : (b : Bool) (to : Option CommandState) → b ≡ true → (if b then to else None) ≡ to
when_true b to h = rw h refl

-- a text goes on

text_same : (t u : List ℕ) → Some t ≡ Some u → t ≡ u
text_same t u e = ap unwrap e
  where
    unwrap : Option (List ℕ) → List ℕ
    unwrap None = t
    unwrap (Some x) = x

text_step : (bs : List Block) (nodes : Nodes) (of : CommandForm) (text : List ℕ) (span : Span)
    → text_of of ≡ Some text →
    body_step bs nodes of span ≡ Some (at bs (content.Body (with_text nodes text span)))
text_step bs nodes (says.Text t) text span h =
    ap (λ l. Some (at bs (content.Body (with_text nodes l span)))) (text_same t text h)
text_step bs nodes (says.Character t) text span h =
    ap (λ l. Some (at bs (content.Body (with_text nodes l span)))) (text_same t text h)
text_step bs nodes _ text span h = absurd (cc h)

abbrev run_of : List ℕ → Span → Option TextRun
run_of text span = Some (record { text = text; span = span })

text_goes : (bs : List Block) (items : List Node) (cs : List Command) (ls text : List ℕ) (span : Span) →
    SpellsText cs ls text span →
    Goes (length bs) (at bs (content.Body (nodes_with items None))) cs ls
    (at bs (content.Body (nodes_with items (run_of text span))))
text_goes bs items _ _ _ _ (SpellsText.first_ c text h) =
    one_goes bs (content.Body (nodes_with items None)) c _ (text_step bs (nodes_with items None) c.form text c.span h)
text_goes bs items _ _ _ _ (SpellsText.next_ cs ls c text more span s h) =
    then_goes (text_goes bs items cs ls text span s)
    (one_goes bs (content.Body (nodes_with items (run_of text span))) c _
    (text_step bs (nodes_with items (run_of text span)) c.form more c.span h))

-- the same in a message

record PartsGo (bs : List Block) (cs : List Command) (ls : List ℕ) (ns : List Node) : Type 0 where
  pub nodes : Nodes
  pub white : Bool
  pub ends : ended nodes ≡ ns
  pub goes : Goes (length bs) (at bs (content.Parts no_nodes true)) cs ls (at bs (content.Parts nodes white))

record PrintsGo (bs : List Block) (cs : List Command) (ls : List ℕ) (ns : List Node) : Type 0 where
  pub white : Bool
  pub goes : Goes (length bs) (at bs (content.Parts no_nodes true)) cs ls
      (at bs (content.Parts (nodes_with ns None) white))

record PartStep (bs : List Block) (nodes : Nodes) (white : Bool) (of : CommandForm) (text : List ℕ)
    (span : Span) : Type 0 where
  pub white_then : Bool
  pub is : parts_step bs nodes white of span ≡ Some (at bs (content.Parts (with_text nodes text span) white_then))

part_step : (bs : List Block) (nodes : Nodes) (white : Bool) (of : CommandForm) (text : List ℕ) (span : Span) →
    text_of of ≡ Some text → PartStep bs nodes white of text span
part_step bs nodes white (says.Text t) text span h = record {
  white_then = white && is_white t;
  is = ap (λ l. Some (at bs (content.Parts (with_text nodes l span) (white && is_white t)))) (text_same t text h);
}
part_step bs nodes white (says.Character t) text span h = record {
  white_then = false;
  is = ap (λ l. Some (at bs (content.Parts (with_text nodes l span) false))) (text_same t text h);
}
part_step bs nodes white _ text span h = absurd (cc h)

record RunGo (bs : List Block) (items : List Node) (white : Bool) (cs : List Command) (ls text : List ℕ)
    (span : Span) : Type 0
  where
    pub white_then : Bool
    pub goes : Goes (length bs) (at bs (content.Parts (nodes_with items None) white)) cs ls
        (at bs (content.Parts (nodes_with items (run_of text span)) white_then))

run_goes : (bs : List Block) (items : List Node) (white : Bool) (cs : List Command) (ls text : List ℕ) (span : Span) →
    SpellsText cs ls text span → RunGo bs items white cs ls text span
run_goes bs items white _ _ _ _ (SpellsText.first_ c text h) =
    let p = part_step bs (nodes_with items None) white c.form text c.span h in
    record {
      white_then = p.white_then;
      goes = one_goes bs (content.Parts (nodes_with items None) white) c _ p.is;
    }
run_goes bs items white _ _ _ _ (SpellsText.next_ cs ls c text more span s h) =
    let r = run_goes bs items white cs ls text span s in
    let p = part_step bs (nodes_with items (run_of text span)) r.white_then c.form more c.span h in
    record {
      white_then = p.white_then;
      goes = then_goes r.goes (one_goes bs (content.Parts (nodes_with items (run_of text span)) r.white_then) c _ p.is);
    }

mutual
  prints_go : (bs : List Block) (cs : List Command) (ls : List ℕ) (ns : List Node) → SpellsPrints cs ls ns →
      PrintsGo bs cs ls ns
  prints_go bs _ _ _ SpellsPrints.none_ =
      record { white = true; goes = none_goes (length bs) (at bs (content.Parts no_nodes true)) }
  prints_go bs _ _ _ (SpellsPrints.print_ cs ls ns c e phname s h) =
      let p = parts_go bs cs ls ns s in
      record {
        white = false;
        goes = then_goes p.goes (one_goes bs (content.Parts p.nodes p.white) c _
            (form_step (at bs (content.Parts p.nodes p.white)) c _ _ h
            (ap (λ l. Some (at bs (content.Parts (nodes_with (l ++ (node_of (form.Print e phname) c.span ∷ [])) None)
            false)))
            p.ends)));
      }

  parts_go : (bs : List Block) (cs : List Command) (ls : List ℕ) (ns : List Node) → SpellsParts cs ls ns
      → PartsGo bs cs ls ns
  parts_go bs _ _ _ (SpellsParts.plain_ cs ls ns s) =
      let p = prints_go bs cs ls ns s in
      record { nodes = nodes_with ns None; white = p.white; ends = refl; goes = p.goes }
  parts_go bs _ _ _ (SpellsParts.text_ cs ds ls ms ns text span s t) =
      let p = prints_go bs cs ls ns s in
      let r = run_goes bs ns p.white ds ms text span t in
      record {
        nodes = nodes_with ns (run_of text span);
        white = r.white_then;
        ends = refl;
        goes = then_goes p.goes r.goes;
      }

-- the end of a body

record BodyGoes (bs : List Block) (cs : List Command) (ls : List ℕ) (ns : List Node) : Type 0 where
  pub nodes : Nodes
  pub ends : ended nodes ≡ ns
  pub goes : Goes (length bs) (at bs (content.Body no_nodes)) cs ls (at bs (content.Body nodes))

-- a block closes after its body
closes_step : (bs : List Block) (b : Block) (nodes : Nodes) (ns : List Node) (z : Command) (n : BlockName)
    (to : Option CommandState) → ended nodes ≡ ns → z.form ≡ says.Closes n → closes_body b n ≡ true →
    closed_body bs b ns z.span ≡ to → command_step (at (b ∷ bs) (content.Body nodes)) z ≡ to
closes_step bs b nodes ns z n to ends h closes e =
    form_step (at (b ∷ bs) (content.Body nodes)) z (says.Closes n) to h
    (ap (λ l. body_closes (b ∷ bs) l n z.span) ends ∙ (when_true (closes_body b n) (closed_body bs b ns z.span) closes
    ∙ e))

-- a body inside a block, and the end of the block
body_closed : (bs : List Block) (b : Block) (cs : List Command) (ls : List ℕ) (ns : List Node) (z : Command)
    (n : BlockName)
    (s' : CommandState) → BodyGoes (b ∷ bs) cs ls ns → z.form ≡ says.Closes n → closes_body b n ≡ true →
    closed_body bs b ns z.span ≡ Some s' →
    Goes (suc (length bs)) (at (b ∷ bs) (content.Body no_nodes)) (cs ++ (z ∷ [])) (ls ++ (0 ∷ [])) s'
body_closed bs b cs ls ns z n s' g h closes e =
    then_goes g.goes
    (one_goes (b ∷ bs) (content.Body g.nodes) z s' (closes_step bs b g.nodes ns z n (Some s') g.ends h closes e))

-- what a message holds has come

record HasMessage (b : Block) (bs : List Block) (body : MessageBody) (s : CommandState) : Type 0 where
  pub long : length s.blocks ≡ suc (length bs)
  pub goes_on : (m : Middle) (span : Span) → step_at s.content s.blocks (says.GoesOn m) span ≡
      message_goes_on (b ∷ bs) body m span
  pub closes : (n : BlockName) (span : Span) → step_at s.content s.blocks (says.Closes n) span ≡
      message_closes (b ∷ bs) body n span

record MessageGoes (b : Block) (bs : List Block) (cs : List Command) (ls : List ℕ) (body : MessageBody) : Type 0 where
  pub to : CommandState
  pub goes : Goes (suc (length bs)) (at (b ∷ bs) (content.Parts no_nodes true)) cs ls to
  pub has : HasMessage b bs body to

has_parts : (b : Block) (bs : List Block) (nodes : Nodes) (white : Bool) (ns : List Node) → ended nodes ≡ ns →
    is_message_text (view_nodes ns) ≡ true
    → HasMessage b bs (message_body.Parts ns) (at (b ∷ bs) (content.Parts nodes white))
has_parts b bs nodes white ns ends whole =
    let tags : has_whole_tags nodes ≡ true = ap (λ l. is_message_text (view_nodes l)) ends ∙ whole in
    record {
      long = refl;
      goes_on = λ m span. when_true (has_whole_tags nodes) (message_goes_on (b ∷ bs) (body_of_parts nodes) m span) tags
          ∙ ap (λ l. message_goes_on (b ∷ bs) (message_body.Parts l) m span) ends;
      closes = λ n span. when_true (has_whole_tags nodes) (message_closes (b ∷ bs) (body_of_parts nodes) n span) tags
          ∙ ap (λ l. message_closes (b ∷ bs) (message_body.Parts l) n span) ends;
    }

-- white text in a message leaves room for a plural or select
record WhiteGo (bs : List Block) (cs : List Command) (ls : List ℕ) : Type 0 where
  pub nodes : Nodes
  pub goes : Goes (length bs) (at bs (content.Parts no_nodes true)) cs ls (at bs (content.Parts nodes true))

white_parts : (bs : List Block) (cs : List Command) (ls : List ℕ) → SpellsWhite cs ls → WhiteGo bs cs ls
white_parts bs _ _ SpellsWhite.none_ =
    record { nodes = no_nodes; goes = none_goes (length bs) (at bs (content.Parts no_nodes true)) }
white_parts bs _ _ (SpellsWhite.more_ cs ls c text s h w) =
    let g = white_parts bs cs ls s in
    record {
      nodes = with_text g.nodes text c.span;
      goes = then_goes g.goes (one_goes bs (content.Parts g.nodes true) c _
          (form_step (at bs (content.Parts g.nodes true)) c (says.Text text) _ h
          (ap (λ t. Some (at bs (content.Parts (with_text g.nodes text c.span) t))) w)));
    }

-- the cases of a plural or select so far

record HasPlural (bs : List Block) (p : OpenPlural) (s : CommandState) : Type 0 where
  pub long : length s.blocks ≡ suc (length bs)
  pub goes_on : (m : Middle) (span : Span) → step_at s.content s.blocks (says.GoesOn m) span ≡ plural_goes_on bs p m

record PluralGoes (bs : List Block) (from : CommandState) (cs : List Command) (ls : List ℕ) (p : OpenPlural) : Type 0
  where
    pub to : CommandState
    pub goes : Goes (suc (length bs)) from cs ls to
    pub has : HasPlural bs p to

record HasSelect (bs : List Block) (p : OpenSelect) (s : CommandState) : Type 0 where
  pub long : length s.blocks ≡ suc (length bs)
  pub goes_on : (m : Middle) (span : Span) → step_at s.content s.blocks (says.GoesOn m) span ≡ select_goes_on bs p m

record SelectGoes (bs : List Block) (from : CommandState) (cs : List Command) (ls : List ℕ) (p : OpenSelect) : Type 0
  where
    pub to : CommandState
    pub goes : Goes (suc (length bs)) from cs ls to
    pub has : HasSelect bs p to

abbrev pub open_plural : Expr → ℕ → List PluralCase → OpenPlural
open_plural e offset cases = record { selector = e; offset = offset; cases = cases }

abbrev pub open_select : Expr → List SelectCase → OpenSelect
open_select e cases = record { selector = e; cases = cases }

-- a command at a state in so many blocks
at_goes : (n : ℕ) (s : CommandState) (c : Command) (s' : CommandState) → length s.blocks ≡ n
    → command_step s c ≡ Some s' →
    Goes n s (c ∷ []) (0 ∷ []) s'
at_goes n s c s' long e = step_goes n 0 s c s' e (long ∙ omega arith)

white_stays : (bs : List Block) (text : List ℕ) (span : Span) → is_white text ≡ true →
    step_at content.BeforeCases bs (says.Text text) span ≡ Some (at bs content.BeforeCases)
white_stays bs text span w = when_true (is_white text) (Some (at bs content.BeforeCases)) w

choice_stays : (bs : List Block) (body : MessageBody) (text : List ℕ) (span : Span) → is_white text ≡ true →
    step_at (content.Choice body) bs (says.Text text) span ≡ Some (at bs (content.Choice body))
choice_stays bs body text span w = when_true (is_white text) (Some (at bs (content.Choice body))) w

mutual
  message_goes : (b : Block) (bs : List Block) (cs : List Command) (ls : List ℕ) (body : MessageBody) →
      SpellsMessageBody cs ls body → MessageGoes b bs cs ls body
  message_goes b bs _ _ _ (SpellsMessageBody.parts_ cs ls ns s whole) =
      let p = parts_go (b ∷ bs) cs ls ns s in
      record {
        to = at (b ∷ bs) (content.Parts p.nodes p.white);
        goes = p.goes;
        has = has_parts b bs p.nodes p.white ns p.ends whole;
      }
  message_goes b bs _ _ _ (SpellsMessageBody.choice_ cs os ds ls ks ms body w s v) =
      let g = white_parts (b ∷ bs) cs ls w in
      record {
        to = at (b ∷ bs) (content.Choice body);
        goes = then_goes g.goes (then_goes (choice_goes (b ∷ bs) g.nodes os ks body s)
            (white_goes (b ∷ bs) (content.Choice body) (choice_stays (b ∷ bs) body) ds ms v));
        has = record { long = refl; goes_on = λ m span. refl; closes = λ n span. refl };
      }

  choice_goes : (bs : List Block) (nodes : Nodes) (cs : List Command) (ls : List ℕ) (body : MessageBody) →
      SpellsChoice cs ls body →
      Goes (length bs) (at bs (content.Parts nodes true)) cs ls (at bs (content.Choice body))
  choice_goes bs nodes _ _ _ (SpellsChoice.plural_ c d z cs os ds ls ks ms e offset cases other hc w s hd so hz) =
      let open_ = block.Plural e offset in
      let g = plural_cases_go bs e offset cs ls cases s in
      let default_ = block.PluralDefault (open_plural e offset cases) in
      let m = message_goes default_ bs os ks other so in
      opens_goes bs (content.Parts nodes true) c (at (open_ ∷ bs) content.BeforeCases) (at bs (content.Choice _)) _ _
      (form_step (at bs (content.Parts nodes true)) c _ _ hc refl)
      (then_goes (white_goes (open_ ∷ bs) content.BeforeCases (white_stays (open_ ∷ bs)) ds ms w)
      (then_goes g.goes
      (then_goes {cs = d ∷ []} {ls = 0 ∷ []} (at_goes (suc (length bs)) g.to d _ g.has.long
      (form_step g.to d _ _ hd (g.has.goes_on middle.Default d.span)))
      (then_goes m.goes (at_goes (suc (length bs)) m.to z _ m.has.long
      (form_step m.to z _ _ hz (m.has.closes name.Plural z.span)))))))
  choice_goes bs nodes _ _ _ (SpellsChoice.select_ c d z cs os ds ls ks ms e cases other hc w s hd so hz) =
      let open_ = block.Select e in
      let g = select_cases_go bs e cs ls cases s in
      let default_ = block.SelectDefault (open_select e cases) in
      let m = message_goes default_ bs os ks other so in
      opens_goes bs (content.Parts nodes true) c (at (open_ ∷ bs) content.BeforeCases) (at bs (content.Choice _)) _ _
      (form_step (at bs (content.Parts nodes true)) c _ _ hc refl)
      (then_goes (white_goes (open_ ∷ bs) content.BeforeCases (white_stays (open_ ∷ bs)) ds ms w)
      (then_goes g.goes
      (then_goes {cs = d ∷ []} {ls = 0 ∷ []} (at_goes (suc (length bs)) g.to d _ g.has.long
      (form_step g.to d _ _ hd (g.has.goes_on middle.Default d.span)))
      (then_goes m.goes (at_goes (suc (length bs)) m.to z _ m.has.long
      (form_step m.to z _ _ hz (m.has.closes name.Select z.span)))))))

  plural_cases_go : (bs : List Block) (e : Expr) (offset : ℕ) (cs : List Command) (ls : List ℕ)
      (cases : List PluralCase) →
      SpellsPluralCases cs ls cases →
      PluralGoes bs (at (block.Plural e offset ∷ bs) content.BeforeCases) cs ls (open_plural e offset cases)
  plural_cases_go bs e offset _ _ _ SpellsPluralCases.no_plural_case_ = record {
    to = at (block.Plural e offset ∷ bs) content.BeforeCases;
    goes = none_goes (suc (length bs)) (at (block.Plural e offset ∷ bs) content.BeforeCases);
    has = record { long = refl; goes_on = λ m span. refl };
  }
  plural_cases_go bs e offset _ _ _ (SpellsPluralCases.plural_case_ cs os ls ks cases c values body s h so) =
      let g = plural_cases_go bs e offset cs ls cases s in
      let case_ = block.PluralCase (open_plural e offset cases) values in
      let m = message_goes case_ bs os ks body so in
      record {
        to = m.to;
        goes = then_goes g.goes
            (then_goes {cs = c ∷ []} {ls = 0 ∷ []} (at_goes (suc (length bs)) g.to c _ g.has.long
            (form_step g.to c _ _ h (g.has.goes_on (middle.PluralCase values) c.span))) m.goes);
        has = record { long = m.has.long; goes_on = λ n span. m.has.goes_on n span };
      }

  select_cases_go : (bs : List Block) (e : Expr) (cs : List Command) (ls : List ℕ) (cases : List SelectCase) →
      SpellsSelectCases cs ls cases →
      SelectGoes bs (at (block.Select e ∷ bs) content.BeforeCases) cs ls (open_select e cases)
  select_cases_go bs e _ _ _ SpellsSelectCases.no_select_case_ = record {
    to = at (block.Select e ∷ bs) content.BeforeCases;
    goes = none_goes (suc (length bs)) (at (block.Select e ∷ bs) content.BeforeCases);
    has = record { long = refl; goes_on = λ m span. refl };
  }
  select_cases_go bs e _ _ _ (SpellsSelectCases.select_case_ cs os ls ks cases c values body s h so) =
      let g = select_cases_go bs e cs ls cases s in
      let case_ = block.SelectCase (open_select e cases) values in
      let m = message_goes case_ bs os ks body so in
      record {
        to = m.to;
        goes = then_goes g.goes
            (then_goes {cs = c ∷ []} {ls = 0 ∷ []} (at_goes (suc (length bs)) g.to c _ g.has.long
            (form_step g.to c _ _ h (g.has.goes_on (middle.SelectCase values) c.span))) m.goes);
        has = record { long = m.has.long; goes_on = λ n span. m.has.goes_on n span };
      }

-- the arms of an if so far

record HasArms (bs : List Block) (i : OpenIf) (s : CommandState) : Type 0 where
  pub long : length s.blocks ≡ suc (length bs)
  pub goes_on : (m : Middle) (span : Span) → step_at s.content s.blocks (says.GoesOn m) span ≡ arm_goes_on bs i m
  pub closes : (span : Span) → step_at s.content s.blocks (says.Closes name.If) span ≡ closed_if bs i None span

record ArmsGo (bs : List Block) (from : CommandState) (cs : List Command) (ls : List ℕ) (i : OpenIf) : Type 0 where
  pub to : CommandState
  pub goes : Goes (length bs) from cs ls to
  pub has : HasArms bs i to

abbrev pub open_if : List Node → Span → List Arm → OpenIf
open_if before start arms = record { before = before; start = start; arms = arms }

has_arm : (bs : List Block) (i : OpenIf) (when : Expr) (nodes : Nodes) (ns : List Node) → ended nodes ≡ ns →
    HasArms bs (with_arm i when ns) (at (block.Arm i when ∷ bs) (content.Body nodes))
has_arm bs i when nodes ns ends = record {
  long = refl;
  goes_on = λ m span. ap (λ l. arm_goes_on bs (with_arm i when l) m) ends;
  closes = λ span. ap (λ l. closed_if bs (with_arm i when l) None span) ends;
}

-- the cases of a switch so far

record HasCases (bs : List Block) (o : OpenSwitch) (s : CommandState) : Type 0 where
  pub long : length s.blocks ≡ suc (length bs)
  pub goes_on : (m : Middle) (span : Span) → step_at s.content s.blocks (says.GoesOn m) span ≡ case_goes_on bs o m
  pub closes : (span : Span) → step_at s.content s.blocks (says.Closes name.Switch) span ≡ closed_switch bs o None span

record CasesGo (bs : List Block) (from : CommandState) (cs : List Command) (ls : List ℕ) (o : OpenSwitch) : Type 0 where
  pub to : CommandState
  pub goes : Goes (suc (length bs)) from cs ls to
  pub has : HasCases bs o to

abbrev pub open_switch : List Node → Span → Expr → List Case → OpenSwitch
open_switch before start e cases = record { before = before; start = start; subject = e; cases = cases }

has_case : (bs : List Block) (o : OpenSwitch) (values : List Expr) (nodes : Nodes) (ns : List Node) → ended nodes ≡ ns →
    HasCases bs (with_case o values ns) (at (block.Case o values ∷ bs) (content.Body nodes))
has_case bs o values nodes ns ends = record {
  long = refl;
  goes_on = λ m span. ap (λ l. case_goes_on bs (with_case o values l) m) ends;
  closes = λ span. ap (λ l. closed_switch bs (with_case o values l) None span) ends;
}

argument_stays : (bs : List Block) (arguments : List Argument) (text : List ℕ) (span : Span) → is_white text ≡ true →
    step_at (content.Arguments arguments) bs (says.Text text) span ≡ Some (at bs (content.Arguments arguments))
argument_stays bs arguments text span w = when_true (is_white text) (Some (at bs (content.Arguments arguments))) w

abbrev pub open_message : List Node → Span → List ℕ → List ℕ → OpenMessage
open_message before start desc meaning = record { before = before; start = start; desc = desc; meaning = meaning }

abbrev pub open_fallback : Span → List ℕ → List ℕ → OpenFallback
open_fallback start desc meaning = record { start = start; desc = desc; meaning = meaning }

-- the state after a node
abbrev with_node : List Block → List Node → Node → CommandState
with_node bs before n = at bs (content.Body (nodes_with (before ++ (n ∷ [])) None))

mutual
  nodes_go : (bs : List Block) (cs : List Command) (ls : List ℕ) (ns : List Node) → SpellsNodes cs ls ns →
      Goes (length bs) (at bs (content.Body no_nodes)) cs ls (at bs (content.Body (nodes_with ns None)))
  nodes_go bs _ _ _ SpellsNodes.no_node_ = none_goes (length bs) (at bs (content.Body no_nodes))
  nodes_go bs _ _ _ (SpellsNodes.node_ cs ds ls ms ns n s i) =
      let g = body_goes bs cs ls ns s in
      then_goes g.goes
      (subst (λ l. Goes (length bs) (at bs (content.Body g.nodes)) ds ms (with_node bs l n)) g.ends
      (node_goes bs g.nodes ds ms n i))

  body_goes : (bs : List Block) (cs : List Command) (ls : List ℕ) (ns : List Node) → SpellsBody cs ls ns →
      BodyGoes bs cs ls ns
  body_goes bs _ _ _ (SpellsBody.plain_ cs ls ns s) =
      record { nodes = nodes_with ns None; ends = refl; goes = nodes_go bs cs ls ns s }
  body_goes bs _ _ _ (SpellsBody.text_ cs ds ls ms ns text span s t) = record {
    nodes = nodes_with ns (run_of text span);
    ends = refl;
    goes = then_goes (nodes_go bs cs ls ns s) (text_goes bs ns ds ms text span t);
  }

  node_goes : (bs : List Block) (nodes : Nodes) (cs : List Command) (ls : List ℕ) (n : Node) → SpellsNode cs ls n →
      Goes (length bs) (at bs (content.Body nodes)) cs ls (with_node bs (ended nodes) n)
  node_goes bs nodes _ _ _ (SpellsNode.print_ c e h) =
      one_goes bs (content.Body nodes) c _ (form_step (at bs (content.Body nodes)) c _ _ h refl)
  node_goes bs nodes _ _ _ (SpellsNode.let_ c n e h) =
      one_goes bs (content.Body nodes) c _ (form_step (at bs (content.Body nodes)) c _ _ h refl)
  node_goes bs nodes _ _ _ (SpellsNode.call_alone_ c n all h) =
      one_goes bs (content.Body nodes) c _ (form_step (at bs (content.Body nodes)) c _ _ h refl)
  node_goes bs nodes _ _ _ (SpellsNode.if_ z cs ls arms start s h) =
      let g = arms_go bs nodes cs ls arms start s in
      then_goes g.goes (further_goes bs g.to z _ g.has.long (form_step g.to z _ _ h (g.has.closes z.span)))
  node_goes bs nodes _ _ _ (SpellsNode.if_else_ d z cs os ls ks arms body start s hd so hz) =
      let g = arms_go bs nodes cs ls arms start s in
      let i = open_if (ended nodes) start arms in
      then_goes g.goes
      (inside_goes
      (then_goes {cs = d ∷ []} {ls = 0 ∷ []}
      (at_goes (suc (length bs)) g.to d (at (block.Else i ∷ bs) (content.Body no_nodes))
      g.has.long (form_step g.to d _ _ hd (g.has.goes_on middle.Else d.span)))
      (body_closed bs (block.Else i) os ks body z name.If _ (body_goes (block.Else i ∷ bs) os ks body so) hz refl
      refl)))
  node_goes bs nodes _ _ _ (SpellsNode.switch_ c z ds cs ms ls e cases hc w s hz) =
      let open_ = block.Switch (ended nodes) c.span e in
      let g = cases_go bs (ended nodes) c.span e cs ls cases s in
      opens_goes bs (content.Body nodes) c (at (open_ ∷ bs) content.BeforeCases) (with_node bs (ended nodes) _) _ _
      (form_step (at bs (content.Body nodes)) c _ _ hc refl)
      (then_goes (white_goes (open_ ∷ bs) content.BeforeCases (white_stays (open_ ∷ bs)) ds ms w)
      (then_goes g.goes
      (at_goes (suc (length bs)) g.to z _ g.has.long (form_step g.to z _ _ hz (g.has.closes z.span)))))
  node_goes bs nodes _ _ _ (SpellsNode.switch_default_ c d z ds cs os ms ls ks e cases body hc w s hd so hz) =
      let open_ = block.Switch (ended nodes) c.span e in
      let default_ = block.SwitchDefault (open_switch (ended nodes) c.span e cases) in
      let g = cases_go bs (ended nodes) c.span e cs ls cases s in
      opens_goes bs (content.Body nodes) c (at (open_ ∷ bs) content.BeforeCases) (with_node bs (ended nodes) _) _ _
      (form_step (at bs (content.Body nodes)) c _ _ hc refl)
      (then_goes (white_goes (open_ ∷ bs) content.BeforeCases (white_stays (open_ ∷ bs)) ds ms w)
      (then_goes g.goes
      (then_goes {cs = d ∷ []} {ls = 0 ∷ []}
      (at_goes (suc (length bs)) g.to d (at (default_ ∷ bs) (content.Body no_nodes))
      g.has.long (form_step g.to d _ _ hd (g.has.goes_on middle.Default d.span)))
      (body_closed bs default_ os ks body z name.Switch _ (body_goes (default_ ∷ bs) os ks body so) hz refl refl))))
  node_goes bs nodes _ _ _ (SpellsNode.for_ c z os ks n index e body hc so hz) =
      let open_ = block.For (ended nodes) c.span n index e in
      opens_goes bs (content.Body nodes) c (at (open_ ∷ bs) (content.Body no_nodes)) (with_node bs (ended nodes) _) _ _
      (form_step (at bs (content.Body nodes)) c _ _ hc refl)
      (body_closed bs open_ os ks body z name.For _ (body_goes (open_ ∷ bs) os ks body so) hz refl refl)
  node_goes bs nodes _ _ _ (SpellsNode.let_block_ c z os ks n kind body hc so hz) =
      let open_ = block.Let (ended nodes) c.span n kind in
      opens_goes bs (content.Body nodes) c (at (open_ ∷ bs) (content.Body no_nodes)) (with_node bs (ended nodes) _) _ _
      (form_step (at bs (content.Body nodes)) c _ _ hc refl)
      (body_closed bs open_ os ks body z name.Let _ (body_goes (open_ ∷ bs) os ks body so) hz refl refl)
  node_goes bs nodes _ _ _ (SpellsNode.call_ c z cs ls n all arguments hc s hz) =
      let open_ = block.Call (ended nodes) c.span n all in
      opens_goes bs (content.Body nodes) c (at (open_ ∷ bs) (content.Arguments [])) (with_node bs (ended nodes) _) _ _
      (form_step (at bs (content.Body nodes)) c _ _ hc refl)
      (then_goes (arguments_go (open_ ∷ bs) cs ls arguments s)
      (one_goes (open_ ∷ bs) (content.Arguments arguments) z _
      (form_step (at (open_ ∷ bs) (content.Arguments arguments)) z _ _ hz refl)))
  node_goes bs nodes _ _ _ (SpellsNode.message_ c z os ks desc meaning body hc so hz) =
      let open_ = block.Message (open_message (ended nodes) c.span desc meaning) in
      let m = message_goes open_ bs os ks body so in
      opens_goes bs (content.Body nodes) c (at (open_ ∷ bs) (content.Parts no_nodes true))
      (with_node bs (ended nodes) _) _ _
      (form_step (at bs (content.Body nodes)) c _ _ hc refl)
      (then_goes m.goes
      (at_goes (suc (length bs)) m.to z _ m.has.long (form_step m.to z _ _ hz (m.has.closes name.Msg z.span))))
  node_goes bs nodes _ _ _ (SpellsNode.message_fallback_ c d z os es ks js desc meaning older older_meaning body other
      hc so hd se
      hz) =
      let first_ = open_message (ended nodes) c.span desc meaning in
      let m = message_goes (block.Message first_) bs os ks body so in
      let fallback_ = block.Fallback first_ body (open_fallback d.span older older_meaning) in
      let k = message_goes fallback_ bs es js other se in
      opens_goes bs (content.Body nodes) c (at (block.Message first_ ∷ bs) (content.Parts no_nodes true))
      (with_node bs (ended nodes) _) _ _
      (form_step (at bs (content.Body nodes)) c _ _ hc refl)
      (then_goes m.goes
      (then_goes {cs = d ∷ []} {ls = 0 ∷ []} (at_goes (suc (length bs)) m.to d _ m.has.long
      (form_step m.to d _ _ hd (m.has.goes_on (middle.Fallback older older_meaning) d.span)))
      (then_goes k.goes
      (at_goes (suc (length bs)) k.to z _ k.has.long (form_step k.to z _ _ hz (k.has.closes name.Msg z.span))))))

  arms_go : (bs : List Block) (nodes : Nodes) (cs : List Command) (ls : List ℕ) (arms : List Arm) (start : Span) →
      SpellsArms cs ls arms start →
      ArmsGo bs (at bs (content.Body nodes)) cs ls (open_if (ended nodes) start arms)
  arms_go bs nodes _ _ _ _ (SpellsArms.first_arm_ c os ks e body h so) =
      let i = open_if (ended nodes) c.span [] in
      let g = body_goes (block.Arm i e ∷ bs) os ks body so in
      record {
        to = at (block.Arm i e ∷ bs) (content.Body g.nodes);
        goes = opens_goes bs (content.Body nodes) c (at (block.Arm i e ∷ bs) (content.Body no_nodes)) _ os ks
            (form_step (at bs (content.Body nodes)) c _ _ h refl) g.goes;
        has = has_arm bs i e g.nodes body g.ends;
      }
  arms_go bs nodes _ _ _ _ (SpellsArms.next_arm_ cs os ls ks arms start d e body s h so) =
      let a = arms_go bs nodes cs ls arms start s in
      let i = open_if (ended nodes) start arms in
      let g = body_goes (block.Arm i e ∷ bs) os ks body so in
      record {
        to = at (block.Arm i e ∷ bs) (content.Body g.nodes);
        goes = then_goes a.goes
            (inside_goes (then_goes {cs = d ∷ []} {ls = 0 ∷ []} (at_goes (suc (length bs)) a.to d
            (at (block.Arm i e ∷ bs) (content.Body no_nodes)) a.has.long
            (form_step a.to d _ _ h (a.has.goes_on (middle.ElseIf e) d.span))) g.goes));
        has = has_arm bs i e g.nodes body g.ends;
      }

  cases_go : (bs : List Block) (before : List Node) (start : Span) (e : Expr) (cs : List Command) (ls : List ℕ)
      (cases : List Case) → SpellsCases cs ls cases →
      CasesGo bs (at (block.Switch before start e ∷ bs) content.BeforeCases) cs ls (open_switch before start e cases)
  cases_go bs before start e _ _ _ SpellsCases.no_case_ = record {
    to = at (block.Switch before start e ∷ bs) content.BeforeCases;
    goes = none_goes (suc (length bs)) (at (block.Switch before start e ∷ bs) content.BeforeCases);
    has = record { long = refl; goes_on = λ m span. refl; closes = λ span. refl };
  }
  cases_go bs before start e _ _ _ (SpellsCases.case_ cs os ls ks cases c values body s h so) =
      let a = cases_go bs before start e cs ls cases s in
      let o = open_switch before start e cases in
      let g = body_goes (block.Case o values ∷ bs) os ks body so in
      record {
        to = at (block.Case o values ∷ bs) (content.Body g.nodes);
        goes = then_goes a.goes
            (then_goes {cs = c ∷ []} {ls = 0 ∷ []} (at_goes (suc (length bs)) a.to c
            (at (block.Case o values ∷ bs) (content.Body no_nodes)) a.has.long
            (form_step a.to c _ _ h (a.has.goes_on (middle.Case values) c.span))) g.goes);
        has = has_case bs o values g.nodes body g.ends;
      }

  arguments_go : (bs : List Block) (cs : List Command) (ls : List ℕ) (arguments : List Argument) →
      SpellsArguments cs ls arguments →
      Goes (length bs) (at bs (content.Arguments [])) cs ls (at bs (content.Arguments arguments))
  arguments_go bs _ _ _ SpellsArguments.no_argument_ = none_goes (length bs) (at bs (content.Arguments []))
  arguments_go bs _ _ _ (SpellsArguments.white_ cs ls arguments c text s h w) =
      then_goes (arguments_go bs cs ls arguments s)
      (one_goes bs (content.Arguments arguments) c _
      (form_step (at bs (content.Arguments arguments)) c _ _ h (argument_stays bs arguments text c.span w)))
  arguments_go bs _ _ _ (SpellsArguments.param_ cs ls arguments c n e s h) =
      then_goes (arguments_go bs cs ls arguments s)
      (one_goes bs (content.Arguments arguments) c _ (form_step (at bs (content.Arguments arguments)) c _ _ h refl))
  arguments_go bs _ _ _ (SpellsArguments.param_block_ cs os ls ks arguments c z n kind body s hc so hz) =
      let open_ = block.Param arguments c.span n kind in
      then_goes (arguments_go bs cs ls arguments s)
      (opens_goes bs (content.Arguments arguments) c (at (open_ ∷ bs) (content.Body no_nodes))
      (at bs (content.Arguments _)) _ _
      (form_step (at bs (content.Arguments arguments)) c _ _ hc refl)
      (body_closed bs open_ os ks body z name.Param _ (body_goes (open_ ∷ bs) os ks body so) hz refl refl))

-- templates and files

abbrev pub open_template : List ℕ → List Template → TemplateOpening → Span → List Param → OpenTemplate
open_template namespace templates h start params =
    record { namespace = namespace; templates = templates; head = h; start = start; params = params }

params_go : (bs : List Block) (namespace : List ℕ) (templates : List Template) (h : TemplateOpening) (start : Span)
    (cs : List Command) (ls : List ℕ) (params : List Param) → SpellsParams cs ls params →
    Goes (suc (length bs)) (at (block.Template (open_template namespace templates h start []) ∷ bs)
    (content.Body no_nodes)) cs ls
    (at (block.Template (open_template namespace templates h start params) ∷ bs) (content.Body no_nodes))
params_go bs namespace templates h start _ _ _ SpellsParams.none_ = none_goes (suc (length bs)) _
params_go bs namespace templates h start _ _ _ (SpellsParams.param_ cs ls params c n required of s hc) =
    let open_ = block.Template (open_template namespace templates h start params) in
    then_goes (params_go bs namespace templates h start cs ls params s)
    (one_goes (open_ ∷ bs) (content.Body no_nodes) c _
    (form_step (at (open_ ∷ bs) (content.Body no_nodes)) c _ _ hc refl))

templates_stay : (namespace : List ℕ) (templates : List Template) (text : List ℕ) (span : Span) → is_white text ≡ true →
    step_at (content.Templates namespace templates) [] (says.Text text) span
    ≡ Some (at [] (content.Templates namespace templates))
templates_stay namespace templates text span w =
    when_true (is_white text) (Some (at [] (content.Templates namespace templates))) w

templates_go : (namespace : List ℕ) (cs : List Command) (ls : List ℕ) (templates : List Template) →
    SpellsTemplates cs ls templates →
    Goes 0 (at [] (content.Templates namespace [])) cs ls (at [] (content.Templates namespace templates))
templates_go namespace _ _ _ SpellsTemplates.none_ = none_goes 0 (at [] (content.Templates namespace []))
templates_go namespace _ _ _ (SpellsTemplates.white_ cs ls templates c text s h w) =
    then_goes (templates_go namespace cs ls templates s)
    (one_goes [] (content.Templates namespace templates) c _
    (form_step (at [] (content.Templates namespace templates)) c _ _ h
    (templates_stay namespace templates text c.span w)))
templates_go namespace _ _ _ (SpellsTemplates.template_ cs ps os ls ms ks templates c z h params body s hc sp so hz) =
    let open_ = block.Template (open_template namespace templates h c.span params) in
    then_goes (templates_go namespace cs ls templates s)
    (opens_goes [] (content.Templates namespace templates) c
    (at (block.Template (open_template namespace templates h c.span []) ∷ []) (content.Body no_nodes))
    (at [] (content.Templates namespace _)) _ _
    (form_step (at [] (content.Templates namespace templates)) c _ _ hc refl)
    (then_goes (params_go [] namespace templates h c.span ps ms params sp)
    (body_closed [] open_ os ks body z name.Template _ (body_goes (open_ ∷ []) os ks body so) hz refl refl)))

start_stays : (text : List ℕ) (span : Span) → is_white text ≡ true →
    step_at content.White [] (says.Text text) span ≡ Some (at [] content.White)
start_stays text span w = when_true (is_white text) (Some (at [] content.White)) w

-- **Commands that are a file are read to its templates, at their levels.**
pub tree_goes : (cs : List Command) (ls : List ℕ) (tree : Tree) → SpellsTree cs ls tree →
    Goes 0 command_start cs ls (at [] (content.Templates tree.namespace tree.templates))
tree_goes _ _ _ (SpellsTree.tree_ ds cs ms ls c n templates w h s) =
    then_goes (white_goes [] content.White start_stays ds ms w)
    (then_goes {cs = c ∷ []} {ls = 0 ∷ []} (one_goes [] content.White c (at [] (content.Templates n []))
    (form_step (at [] content.White) c _ _ h refl))
    (templates_go n cs ls templates s))
