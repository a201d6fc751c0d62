-- A command has a step only where its head is admitted.
use Rattle.std.proofs.Common.{◌≡◌, Bool, true, false, List, [], ◌∷◌, Option, Some, None, refl}
use Rattle.std.specs.Prelude.{if◌then◌else◌, ◌&&◌}
use Rattle.soy_base.specs.declared.fault.Span.{Span}
use Rattle.soy_tree.specs.declared.node.MessageBody.{MessageBody}
use Rattle.soy_tree.specs.declared.node.Node.{Node}
use Rattle.soy_tree.specs.declared.tree.Param.{Param}
use Rattle.soy_parser.specs.declared.block.Block.{Block}
use Rattle.soy_parser.specs.declared.block.Block.TheVariants as block
use Rattle.soy_parser.specs.declared.block.CommandState.{CommandState}
use Rattle.soy_parser.specs.declared.block.Content.{Content}
use Rattle.soy_parser.specs.declared.block.Content.TheVariants as content
use Rattle.soy_parser.specs.declared.block.Nodes.{Nodes}
use Rattle.soy_parser.specs.declared.command.Middle.{Middle}
use Rattle.soy_parser.specs.declared.command.Middle.TheVariants as middle
use Rattle.soy_parser.specs.declared.command.Opening.TheVariants as opening
use Rattle.soy_parser.specs.declared.command.Single.TheVariants as single
use Rattle.soy_parser.specs.declared.command.CommandForm.{CommandForm}
use Rattle.soy_parser.specs.declared.command.CommandForm.TheVariants as says
use Rattle.soy_parser.specs.declared.head.HeadKind.TheVariants as kind
use Rattle.soy_parser.specs.declared.terminal.BlockName.{BlockName}
use Rattle.soy_parser.specs.declared.terminal.BlockName.TheVariants as name
use Rattle.soy_parser.specs.CommandSteps.{ended, is_empty, closes_body, closed_body, body_closes, body_goes_on}
use Rattle.soy_parser.specs.CommandSteps.{template_param_step, closes_message, closed_message, message_closes}
use Rattle.soy_parser.specs.CommandSteps.{message_goes_on}
use Rattle.soy_parser.specs.CommandSteps.{cases_begin, closed_bare_switch, is_switch, is_call, closed_call}
use Rattle.soy_parser.specs.CommandSteps.{choice_opens}
use Rattle.soy_parser.specs.CommandSteps.{has_whole_tags, body_of_parts, step_at}
use Rattle.soy_parser.specs.FileSteps.{middle_kind, form_kind, body_admits, message_admits, cases_admit, top_admits}
use Rattle.soy_parser.specs.FileSteps.{is_template}
use Rattle.soy_parser.specs.FileSteps.{in_body_admits, in_parts_admits, admits_at}
use Rattle.soy_parser.specs.SpellsTree.{as_param}

-- it isn't a text, which has no head
abbrev pub HasHead : CommandForm → Type 0
HasHead (says.Text text) = ⊥
HasHead _ = Unit {0}

-- a step that is taken where a test holds
pub if_some : (b : Bool) (to : Option CommandState) (m : CommandState) → (if b then to else None) ≡ Some m → b ≡ true
if_some true to m h = refl
if_some false to m h = absurd (cc h)

pub if_step : (b : Bool) (to : Option CommandState) (m : CommandState) → (if b then to else None) ≡ Some m → to ≡ Some m
if_step true to m h = h
if_step false to m h = absurd (cc h)

closes_body_admits : (b : Block) (n : BlockName) → closes_body b n ≡ true → body_admits b (kind.Closes n) ≡ true
closes_body_admits (block.Arm i when) n e = e
closes_body_admits (block.Case s values) n e = e
closes_body_admits _ n e = e

closes_message_admits : (b : Block) (n : BlockName) → closes_message b n ≡ true → message_admits b (kind.Closes n)
    ≡ true
closes_message_admits (block.Message m) n e = e
closes_message_admits (block.PluralCase p values) n e = e
closes_message_admits (block.SelectCase s values) n e = e
closes_message_admits _ n e = e

body_goes_admits : (bs : List Block) (ns : List Node) (m : Middle) (to : CommandState)
    → body_goes_on bs ns m ≡ Some to →
    top_admits body_admits bs (middle_kind m) ≡ true
body_goes_admits (block.Arm i when ∷ bs) ns (middle.ElseIf e) to h = refl
body_goes_admits (block.Arm i when ∷ bs) ns middle.Else to h = refl
body_goes_admits (block.Arm i when ∷ bs) ns _ to h = absurd (cc h)
body_goes_admits (block.Case s values ∷ bs) ns (middle.Case next) to h = refl
body_goes_admits (block.Case s values ∷ bs) ns middle.Default to h = refl
body_goes_admits (block.Case s values ∷ bs) ns _ to h = absurd (cc h)
body_goes_admits _ ns m to h = absurd (cc h)

body_closes_admits : (bs : List Block) (ns : List Node) (n : BlockName) (span : Span) (to : CommandState) →
    body_closes bs ns n span ≡ Some to → top_admits body_admits bs (kind.Closes n) ≡ true
body_closes_admits [] ns n span to h = absurd (cc h)
body_closes_admits (b ∷ bs) ns n span to h =
    closes_body_admits b n (if_some (closes_body b n) (closed_body bs b ns span) to h)

message_goes_admits : (bs : List Block) (body : MessageBody) (m : Middle) (span : Span) (to : CommandState) →
    message_goes_on bs body m span ≡ Some to → top_admits message_admits bs (middle_kind m) ≡ true
message_goes_admits (block.Message o ∷ bs) body (middle.Fallback desc meaning) span to h = refl
message_goes_admits (block.Message o ∷ bs) body _ span to h = absurd (cc h)
message_goes_admits (block.PluralCase p values ∷ bs) body (middle.PluralCase next) span to h = refl
message_goes_admits (block.PluralCase p values ∷ bs) body middle.Default span to h = refl
message_goes_admits (block.PluralCase p values ∷ bs) body _ span to h = absurd (cc h)
message_goes_admits (block.SelectCase s values ∷ bs) body (middle.SelectCase next) span to h = refl
message_goes_admits (block.SelectCase s values ∷ bs) body middle.Default span to h = refl
message_goes_admits (block.SelectCase s values ∷ bs) body _ span to h = absurd (cc h)
message_goes_admits _ body m span to h = absurd (cc h)

message_closes_admits : (bs : List Block) (body : MessageBody) (n : BlockName) (span : Span) (to : CommandState) →
    message_closes bs body n span ≡ Some to → top_admits message_admits bs (kind.Closes n) ≡ true
message_closes_admits [] body n span to h = absurd (cc h)
message_closes_admits (b ∷ bs) body n span to h =
    closes_message_admits b n (if_some (closes_message b n) (closed_message bs b body span) to h)

cases_begin_admits : (bs : List Block) (m : Middle) (to : CommandState) → cases_begin bs m ≡ Some to →
    top_admits cases_admit bs (middle_kind m) ≡ true
cases_begin_admits (block.Switch before start e ∷ bs) (middle.Case values) to h = refl
cases_begin_admits (block.Switch before start e ∷ bs) middle.Default to h = refl
cases_begin_admits (block.Switch before start e ∷ bs) _ to h = absurd (cc h)
cases_begin_admits (block.Plural e offset ∷ bs) (middle.PluralCase values) to h = refl
cases_begin_admits (block.Plural e offset ∷ bs) middle.Default to h = refl
cases_begin_admits (block.Plural e offset ∷ bs) _ to h = absurd (cc h)
cases_begin_admits (block.Select e ∷ bs) (middle.SelectCase values) to h = refl
cases_begin_admits (block.Select e ∷ bs) middle.Default to h = refl
cases_begin_admits (block.Select e ∷ bs) _ to h = absurd (cc h)
cases_begin_admits _ m to h = absurd (cc h)

bare_switch_admits : (bs : List Block) (n : BlockName) (span : Span) (to : CommandState) → is_switch n ≡ true →
    closed_bare_switch bs span ≡ Some to → top_admits cases_admit bs (kind.Closes n) ≡ true
bare_switch_admits (block.Switch before start e ∷ bs) name.Switch span to q h = refl
bare_switch_admits (block.Switch before start e ∷ bs) _ span to q h = absurd (cc q)
bare_switch_admits _ n span to q h = absurd (cc h)

template_param_admits : (bs : List Block) (p : Param) (to : CommandState) → template_param_step bs p ≡ Some to →
    top_admits is_template bs kind.TemplateParam ≡ true
template_param_admits (block.Template t ∷ bs) p to h = refl
template_param_admits _ p to h = absurd (cc h)

pub both : (a b : Bool) → a ≡ true → b ≡ true → (a && b) ≡ true
both a b e f = rw (e, f) refl

no_choice : {to : CommandState} → None ≡ Some to → ⊥
no_choice h = cc h

-- the kinds of heads that go on with a block are asked of that block
middle_in_body : (bs : List Block) (nodes : Nodes) (m : Middle) → top_admits body_admits bs (middle_kind m) ≡ true →
    in_body_admits bs nodes (middle_kind m) ≡ true
middle_in_body bs nodes (middle.ElseIf e) h = h
middle_in_body bs nodes middle.Else h = h
middle_in_body bs nodes (middle.Case values) h = h
middle_in_body bs nodes (middle.PluralCase values) h = h
middle_in_body bs nodes (middle.SelectCase values) h = h
middle_in_body bs nodes middle.Default h = h
middle_in_body bs nodes (middle.Fallback desc meaning) h = h

middle_in_parts : (bs : List Block) (nodes : Nodes) (white : Bool) (m : Middle) → has_whole_tags nodes ≡ true →
    top_admits message_admits bs (middle_kind m) ≡ true → in_parts_admits bs nodes white (middle_kind m) ≡ true
middle_in_parts bs nodes white (middle.ElseIf e) w h = both _ _ w h
middle_in_parts bs nodes white middle.Else w h = both _ _ w h
middle_in_parts bs nodes white (middle.Case values) w h = both _ _ w h
middle_in_parts bs nodes white (middle.PluralCase values) w h = both _ _ w h
middle_in_parts bs nodes white (middle.SelectCase values) w h = both _ _ w h
middle_in_parts bs nodes white middle.Default w h = both _ _ w h
middle_in_parts bs nodes white (middle.Fallback desc meaning) w h = both _ _ w h

body_step_admits : (bs : List Block) (nodes : Nodes) (of : CommandForm) (span : Span) (to : CommandState) → HasHead of →
    step_at (content.Body nodes) bs of span ≡ Some to → in_body_admits bs nodes (form_kind of) ≡ true
body_step_admits bs nodes (says.Text text) span to i h = absurd i
body_step_admits bs nodes (says.Character text) span to i h = refl
body_step_admits bs nodes (says.Namespace n) span to i h = absurd (cc h)
body_step_admits bs nodes (says.TemplateParam n required of) span to i h =
    let p = as_param n of required span in
    both _ _ (if_some (is_empty nodes) (template_param_step bs p) to h)
    (template_param_admits bs p to (if_step (is_empty nodes) (template_param_step bs p) to h))
body_step_admits bs nodes (says.Single (single.Print e)) span to i h = refl
body_step_admits bs nodes (says.Single (single.Let n e)) span to i h = refl
body_step_admits bs nodes (says.Single (single.Call n all)) span to i h = refl
body_step_admits bs nodes (says.Single _) span to i h = absurd (cc h)
body_step_admits bs nodes (says.Opens (opening.If e)) span to i h = refl
body_step_admits bs nodes (says.Opens (opening.Switch e)) span to i h = refl
body_step_admits bs nodes (says.Opens (opening.For n index e)) span to i h = refl
body_step_admits bs nodes (says.Opens (opening.Let n of)) span to i h = refl
body_step_admits bs nodes (says.Opens (opening.Call n all)) span to i h = refl
body_step_admits bs nodes (says.Opens (opening.Message desc meaning)) span to i h = refl
body_step_admits bs nodes (says.Opens _) span to i h = absurd (cc h)
body_step_admits bs nodes (says.GoesOn m) span to i h =
    middle_in_body bs nodes m (body_goes_admits bs (ended nodes) m to h)
body_step_admits bs nodes (says.Closes n) span to i h = body_closes_admits bs (ended nodes) n span to h

parts_step_admits : (bs : List Block) (nodes : Nodes) (white : Bool) (of : CommandForm) (span : Span)
    (to : CommandState) →
    HasHead of → step_at (content.Parts nodes white) bs of span ≡ Some to →
    in_parts_admits bs nodes white (form_kind of) ≡ true
parts_step_admits bs nodes white (says.Text text) span to i h = absurd i
parts_step_admits bs nodes white (says.Character text) span to i h = refl
parts_step_admits bs nodes white (says.Namespace n) span to i h = absurd (cc h)
parts_step_admits bs nodes white (says.TemplateParam n required of) span to i h = absurd (cc h)
parts_step_admits bs nodes white (says.Single (single.MessagePrint e phname)) span to i h = refl
parts_step_admits bs nodes white (says.Single _) span to i h = absurd (cc h)
parts_step_admits bs nodes white (says.Opens (opening.Plural e offset)) span to i h =
    if_some white (choice_opens bs (opening.Plural e offset)) to h
parts_step_admits bs nodes white (says.Opens (opening.Select e)) span to i h =
    if_some white (choice_opens bs (opening.Select e)) to h
parts_step_admits bs nodes white (says.Opens (opening.Template of)) span to i h =
    absurd (no_choice (if_step white None to h))
parts_step_admits bs nodes white (says.Opens (opening.If e)) span to i h =
    absurd (no_choice (if_step white None to h))
parts_step_admits bs nodes white (says.Opens (opening.Switch e)) span to i h =
    absurd (no_choice (if_step white None to h))
parts_step_admits bs nodes white (says.Opens (opening.For n index e)) span to i h =
    absurd (no_choice (if_step white None to h))
parts_step_admits bs nodes white (says.Opens (opening.Let n of)) span to i h =
    absurd (no_choice (if_step white None to h))
parts_step_admits bs nodes white (says.Opens (opening.Call n all)) span to i h =
    absurd (no_choice (if_step white None to h))
parts_step_admits bs nodes white (says.Opens (opening.Param n of)) span to i h =
    absurd (no_choice (if_step white None to h))
parts_step_admits bs nodes white (says.Opens (opening.Message desc meaning)) span to i h =
    absurd (no_choice (if_step white None to h))
parts_step_admits bs nodes white (says.GoesOn m) span to i h =
    middle_in_parts bs nodes white m (if_some (has_whole_tags nodes)
    (message_goes_on bs (body_of_parts nodes) m span) to h)
    (message_goes_admits bs (body_of_parts nodes) m span to
    (if_step (has_whole_tags nodes) (message_goes_on bs (body_of_parts nodes) m span) to h))
parts_step_admits bs nodes white (says.Closes n) span to i h =
    both _ _ (if_some (has_whole_tags nodes) (message_closes bs (body_of_parts nodes) n span) to h)
    (message_closes_admits bs (body_of_parts nodes) n span to
    (if_step (has_whole_tags nodes) (message_closes bs (body_of_parts nodes) n span) to h))

cases_step_admits : (bs : List Block) (of : CommandForm) (span : Span) (to : CommandState) → HasHead of →
    step_at content.BeforeCases bs of span ≡ Some to → top_admits cases_admit bs (form_kind of) ≡ true
cases_step_admits bs (says.Text text) span to i h = absurd i
cases_step_admits bs (says.GoesOn m) span to i h = cases_begin_admits bs m to h
cases_step_admits bs (says.Closes n) span to i h =
    bare_switch_admits bs n span to (if_some (is_switch n) (closed_bare_switch bs span) to h)
    (if_step (is_switch n) (closed_bare_switch bs span) to h)
cases_step_admits bs _ span to i h = absurd (cc h)

choice_step_admits : (bs : List Block) (body : MessageBody) (of : CommandForm) (span : Span) (to : CommandState)
    → HasHead of →
    step_at (content.Choice body) bs of span ≡ Some to → top_admits message_admits bs (form_kind of) ≡ true
choice_step_admits bs body (says.Text text) span to i h = absurd i
choice_step_admits bs body (says.GoesOn m) span to i h = message_goes_admits bs body m span to h
choice_step_admits bs body (says.Closes n) span to i h = message_closes_admits bs body n span to h
choice_step_admits bs body _ span to i h = absurd (cc h)

call_admits : (n : BlockName) (bs : List Block) (k : Content) → is_call n ≡ true →
    admits_at (content.Arguments []) bs (kind.Closes n) ≡ true
call_admits name.Call bs k e = refl
call_admits _ bs k e = absurd (cc e)

-- **A command with a step has an admitted head.**
pub step_admits : (k : Content) (bs : List Block) (of : CommandForm) (span : Span) (to : CommandState) → HasHead of →
    step_at k bs of span ≡ Some to → admits_at k bs (form_kind of) ≡ true
step_admits content.White bs (says.Text text) span to i h = absurd i
step_admits content.White bs (says.Namespace n) span to i h = refl
step_admits content.White bs _ span to i h = absurd (cc h)
step_admits (content.Templates n templates) bs (says.Text text) span to i h = absurd i
step_admits (content.Templates n templates) bs (says.Opens (opening.Template of)) span to i h = refl
step_admits (content.Templates n templates) bs _ span to i h = absurd (cc h)
step_admits (content.Body nodes) bs of span to i h = body_step_admits bs nodes of span to i h
step_admits (content.Arguments arguments) bs (says.Text text) span to i h = absurd i
step_admits (content.Arguments arguments) bs (says.Single (single.Param n e)) span to i h = refl
step_admits (content.Arguments arguments) bs (says.Opens (opening.Param n of)) span to i h = refl
step_admits (content.Arguments arguments) bs (says.Closes n) span to i h =
    call_admits n bs (content.Arguments arguments) (if_some (is_call n) (closed_call bs arguments span) to h)
step_admits (content.Arguments arguments) bs _ span to i h = absurd (cc h)
step_admits content.BeforeCases bs of span to i h = cases_step_admits bs of span to i h
step_admits (content.Parts nodes white) bs of span to i h = parts_step_admits bs nodes white of span to i h
step_admits (content.Choice body) bs of span to i h = choice_step_admits bs body of span to i h
