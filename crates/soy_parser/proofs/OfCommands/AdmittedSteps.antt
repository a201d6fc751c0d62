-- Where a head is admitted, each command with a head of its kind has a step.
use Rattle.std.proofs.Common.{◌≡◌, ℕ, Bool, true, false, List, [], ◌∷◌, Option, Some, None, refl, sym}
use Rattle.std.proofs.Common.{subst}
use Rattle.std.specs.Prelude.{if◌then◌else◌, ◌&&◌}
use Rattle.soy_base.specs.declared.fault.Span.{Span}
use Rattle.soy_tree.specs.declared.node.Argument.{Argument}
use Rattle.soy_tree.specs.declared.node.MessageBody.{MessageBody}
use Rattle.soy_tree.specs.declared.node.Node.{Node}
use Rattle.soy_tree.specs.declared.tree.Param.{Param}
use Rattle.soy_tree.specs.declared.tree.Template.{Template}
use Rattle.soy_parser.specs.declared.block.Block.{Block}
use Rattle.soy_parser.specs.declared.block.Block.TheVariants as block
use Rattle.soy_parser.specs.declared.block.CommandState.{CommandState}
use Rattle.soy_parser.specs.declared.block.Content.{Content}
use Rattle.soy_parser.specs.declared.block.Content.TheVariants as content
use Rattle.soy_parser.specs.declared.block.Nodes.{Nodes}
use Rattle.soy_parser.specs.declared.command.Command.{Command}
use Rattle.soy_parser.specs.declared.command.Middle.{Middle}
use Rattle.soy_parser.specs.declared.command.Middle.TheVariants as middle
use Rattle.soy_parser.specs.declared.command.Opening.{Opening}
use Rattle.soy_parser.specs.declared.command.Opening.TheVariants as opening
use Rattle.soy_parser.specs.declared.command.Single.{Single}
use Rattle.soy_parser.specs.declared.command.Single.TheVariants as single
use Rattle.soy_parser.specs.declared.command.CommandForm.{CommandForm}
use Rattle.soy_parser.specs.declared.command.CommandForm.TheVariants as says
use Rattle.soy_parser.specs.declared.head.HeadKind.{HeadKind}
use Rattle.soy_parser.specs.declared.head.HeadKind.TheVariants as kind
use Rattle.soy_parser.specs.declared.terminal.BlockName.{BlockName}
use Rattle.soy_parser.specs.declared.terminal.BlockName.TheVariants as name
use Rattle.soy_parser.specs.CommandSteps.{ended, is_empty, closes_body, closed_body, body_closes, body_goes_on}
use Rattle.soy_parser.specs.CommandSteps.{template_param_step}
use Rattle.soy_parser.specs.CommandSteps.{closes_message, closed_message, message_closes, message_goes_on, cases_begin}
use Rattle.soy_parser.specs.CommandSteps.{closed_call}
use Rattle.soy_parser.specs.CommandSteps.{has_whole_tags, body_of_parts, step_at}
use Rattle.soy_parser.specs.CommandSteps.{command_step, command_run}
use Rattle.soy_parser.specs.CommandSteps.{command_start}
use Rattle.soy_parser.specs.FileSteps.{middle_kind, opening_kind, single_kind, form_kind, body_admits, message_admits}
use Rattle.soy_parser.specs.FileSteps.{cases_admit}
use Rattle.soy_parser.specs.FileSteps.{top_admits, is_template, in_body_admits, in_parts_admits, admits_at, admits}
use Rattle.soy_parser.specs.SpellsTree.{as_param}
use Rattle.soy_parser.proofs.OfCommands.Admits.{HasHead}
use Rattle.soy_parser.proofs.OfCommands.CommandsSound.{Inside, ABody, ACall, ASwitch, APlural, ASelect, AMessage, Opened}
use Rattle.soy_parser.proofs.OfCommands.CommandsSound.{Held_at}
use Rattle.soy_parser.proofs.OfCommands.CommandsSound.{start_run_held}

pub record HasStep (o : Option CommandState) : Type 0 where
  pub to : CommandState
  pub is : o ≡ Some to

stepped : (m : CommandState) → HasStep (Some m)
stepped m = record { to = m; is = refl }

when : (b : Bool) (o : Option CommandState) → b ≡ true → HasStep o → HasStep (if b then o else None)
when b o e h = record { to = h.to; is = subst (λ c. (if c then o else None) ≡ Some h.to) (sym e) h.is }

first_true : (a b : Bool) → (a && b) ≡ true → a ≡ true
first_true true b e = refl
first_true false b e = absurd (cc e)

second_true : (a b : Bool) → (a && b) ≡ true → b ≡ true
second_true true b e = e
second_true false b e = absurd (cc e)

-- the kinds of heads with which a block goes on or ends
abbrev goes_on : HeadKind → Bool
goes_on kind.ElseIf = true
goes_on kind.Else = true
goes_on kind.Case = true
goes_on kind.PluralCase = true
goes_on kind.SelectCase = true
goes_on kind.Default = true
goes_on kind.Fallback = true
goes_on (kind.Closes n) = true
goes_on _ = false

-- no block admits another

of_body : (b : Block) (k : HeadKind) → body_admits b k ≡ true → goes_on k ≡ true
of_body (block.Arm i when) kind.ElseIf e = refl
of_body (block.Arm i when) kind.Else e = refl
of_body (block.Arm i when) (kind.Closes n) e = refl
of_body (block.Arm i when) _ e = absurd (cc e)
of_body (block.Case s values) kind.Case e = refl
of_body (block.Case s values) kind.Default e = refl
of_body (block.Case s values) (kind.Closes n) e = refl
of_body (block.Case s values) _ e = absurd (cc e)
of_body _ (kind.Closes n) e = refl
of_body _ _ e = absurd (cc e)

of_message : (b : Block) (k : HeadKind) → message_admits b k ≡ true → goes_on k ≡ true
of_message (block.Message m) kind.Fallback e = refl
of_message (block.Message m) (kind.Closes n) e = refl
of_message (block.Message m) _ e = absurd (cc e)
of_message (block.PluralCase p values) kind.PluralCase e = refl
of_message (block.PluralCase p values) kind.Default e = refl
of_message (block.PluralCase p values) (kind.Closes n) e = refl
of_message (block.PluralCase p values) _ e = absurd (cc e)
of_message (block.SelectCase s values) kind.SelectCase e = refl
of_message (block.SelectCase s values) kind.Default e = refl
of_message (block.SelectCase s values) (kind.Closes n) e = refl
of_message (block.SelectCase s values) _ e = absurd (cc e)
of_message _ (kind.Closes n) e = refl
of_message _ _ e = absurd (cc e)

of_cases : (b : Block) (k : HeadKind) → cases_admit b k ≡ true → goes_on k ≡ true
of_cases (block.Switch before start s) kind.Case e = refl
of_cases (block.Switch before start s) kind.Default e = refl
of_cases (block.Switch before start s) (kind.Closes n) e = refl
of_cases (block.Switch before start s) _ e = absurd (cc e)
of_cases (block.Plural s offset) kind.PluralCase e = refl
of_cases (block.Plural s offset) kind.Default e = refl
of_cases (block.Plural s offset) _ e = absurd (cc e)
of_cases (block.Select s) kind.SelectCase e = refl
of_cases (block.Select s) kind.Default e = refl
of_cases (block.Select s) _ e = absurd (cc e)
of_cases _ _ e = absurd (cc e)

of_top : (admit : Block → HeadKind → Bool) → ((b : Block) (k : HeadKind) → admit b k ≡ true → goes_on k ≡ true) →
    (bs : List Block) (k : HeadKind) → top_admits admit bs k ≡ true → goes_on k ≡ true
of_top admit only [] k e = absurd (cc e)
of_top admit only (b ∷ bs) k e = only b k e

in_body : (bs : List Block) (k : HeadKind) → top_admits body_admits bs k ≡ true → goes_on k ≡ true
in_body bs k e = of_top body_admits of_body bs k e

in_message : (bs : List Block) (k : HeadKind) → top_admits message_admits bs k ≡ true → goes_on k ≡ true
in_message bs k e = of_top message_admits of_message bs k e

in_cases : (bs : List Block) (k : HeadKind) → top_admits cases_admit bs k ≡ true → goes_on k ≡ true
in_cases bs k e = of_top cases_admit of_cases bs k e

clash : {b : Bool} → b ≡ false → b ≡ true → ⊥
clash e f = cc (e, f)

single_no : (of : Single) → goes_on (single_kind of) ≡ false
single_no (single.Print e) = refl
single_no (single.MessagePrint e phname) = refl
single_no (single.Let n e) = refl
single_no (single.Call n all) = refl
single_no (single.Param n e) = refl

opening_no : (of : Opening) → goes_on (opening_kind of) ≡ false
opening_no (opening.Template h) = refl
opening_no (opening.If e) = refl
opening_no (opening.Switch e) = refl
opening_no (opening.For n index e) = refl
opening_no (opening.Let n of) = refl
opening_no (opening.Call n all) = refl
opening_no (opening.Param n of) = refl
opening_no (opening.Message desc meaning) = refl
opening_no (opening.Plural e offset) = refl
opening_no (opening.Select e) = refl

-- in a body

closed_steps : (b : Block) (n : BlockName) → closes_body b n ≡ true → (bs : List Block) (ns : List Node) (span : Span) →
    HasStep (closed_body bs b ns span)
closed_steps (block.Template t) n e bs ns span = stepped _
closed_steps (block.Arm i when) n e bs ns span = stepped _
closed_steps (block.Else i) n e bs ns span = stepped _
closed_steps (block.For before start variable index of) n e bs ns span = stepped _
closed_steps (block.Let before start variable kind) n e bs ns span = stepped _
closed_steps (block.Param arguments start param kind) n e bs ns span = stepped _
closed_steps (block.Case s values) n e bs ns span = stepped _
closed_steps (block.SwitchDefault s) n e bs ns span = stepped _
closed_steps _ n e bs ns span = absurd (cc e)

admits_closes : (b : Block) (n : BlockName) → body_admits b (kind.Closes n) ≡ true → closes_body b n ≡ true
admits_closes (block.Arm i when) n e = e
admits_closes (block.Case s values) n e = e
admits_closes _ n e = e

body_closes_steps : (bs : List Block) (ns : List Node) (n : BlockName) (span : Span) →
    top_admits body_admits bs (kind.Closes n) ≡ true → HasStep (body_closes bs ns n span)
body_closes_steps [] ns n span e = absurd (cc e)
body_closes_steps (b ∷ bs) ns n span e =
    let c = admits_closes b n e in when (closes_body b n) (closed_body bs b ns span) c (closed_steps b n c bs ns span)

body_goes_steps : (bs : List Block) (ns : List Node) (m : Middle) → top_admits body_admits bs (middle_kind m) ≡ true →
    HasStep (body_goes_on bs ns m)
body_goes_steps (block.Arm i when ∷ bs) ns (middle.ElseIf e) h = stepped _
body_goes_steps (block.Arm i when ∷ bs) ns middle.Else h = stepped _
body_goes_steps (block.Arm i when ∷ bs) ns _ h = absurd (cc h)
body_goes_steps (block.Case s values ∷ bs) ns (middle.Case next) h = stepped _
body_goes_steps (block.Case s values ∷ bs) ns middle.Default h = stepped _
body_goes_steps (block.Case s values ∷ bs) ns _ h = absurd (cc h)
body_goes_steps [] ns m h = absurd (cc h)
body_goes_steps (b ∷ bs) ns (middle.ElseIf e) h = absurd (cc h)
body_goes_steps (b ∷ bs) ns middle.Else h = absurd (cc h)
body_goes_steps (b ∷ bs) ns (middle.Case values) h = absurd (cc h)
body_goes_steps (b ∷ bs) ns (middle.PluralCase values) h = absurd (cc h)
body_goes_steps (b ∷ bs) ns (middle.SelectCase values) h = absurd (cc h)
body_goes_steps (b ∷ bs) ns middle.Default h = absurd (cc h)
body_goes_steps (b ∷ bs) ns (middle.Fallback desc meaning) h = absurd (cc h)

middle_of_body : (bs : List Block) (nodes : Nodes) (m : Middle) → in_body_admits bs nodes (middle_kind m) ≡ true →
    top_admits body_admits bs (middle_kind m) ≡ true
middle_of_body bs nodes (middle.ElseIf e) h = h
middle_of_body bs nodes middle.Else h = h
middle_of_body bs nodes (middle.Case values) h = h
middle_of_body bs nodes (middle.PluralCase values) h = h
middle_of_body bs nodes (middle.SelectCase values) h = h
middle_of_body bs nodes middle.Default h = h
middle_of_body bs nodes (middle.Fallback desc meaning) h = h

template_param_steps : (bs : List Block) (p : Param) → top_admits is_template bs kind.TemplateParam ≡ true →
    HasStep (template_param_step bs p)
template_param_steps (block.Template t ∷ bs) p e = stepped _
template_param_steps _ p e = absurd (cc e)

body_steps : (bs : List Block) (nodes : Nodes) (of : CommandForm) (span : Span) → HasHead of →
    in_body_admits bs nodes (form_kind of) ≡ true → HasStep (step_at (content.Body nodes) bs of span)
body_steps bs nodes (says.Text text) span i e = absurd i
body_steps bs nodes (says.Character text) span i e = stepped _
body_steps bs nodes (says.Namespace n) span i e = absurd (clash refl (in_body bs kind.Namespace e))
body_steps bs nodes (says.TemplateParam n required of) span i e =
    when (is_empty nodes) _ (first_true (is_empty nodes) _ e)
    (template_param_steps bs (as_param n of required span) (second_true (is_empty nodes) _ e))
body_steps bs nodes (says.Single (single.Print x)) span i e = stepped _
body_steps bs nodes (says.Single (single.Let n x)) span i e = stepped _
body_steps bs nodes (says.Single (single.Call n all)) span i e = stepped _
body_steps bs nodes (says.Single (single.MessagePrint x phname)) span i e =
    absurd (clash refl (in_body bs kind.MessagePrint e))
body_steps bs nodes (says.Single (single.Param n x)) span i e = absurd (clash refl (in_body bs kind.Param e))
body_steps bs nodes (says.Opens (opening.If x)) span i e = stepped _
body_steps bs nodes (says.Opens (opening.Switch x)) span i e = stepped _
body_steps bs nodes (says.Opens (opening.For n index x)) span i e = stepped _
body_steps bs nodes (says.Opens (opening.Let n of)) span i e = stepped _
body_steps bs nodes (says.Opens (opening.Call n all)) span i e = stepped _
body_steps bs nodes (says.Opens (opening.Message desc meaning)) span i e = stepped _
body_steps bs nodes (says.Opens (opening.Template h)) span i e = absurd (clash refl (in_body bs kind.Template e))
body_steps bs nodes (says.Opens (opening.Param n of)) span i e = absurd (clash refl (in_body bs kind.Param e))
body_steps bs nodes (says.Opens (opening.Plural x offset)) span i e = absurd (clash refl (in_body bs kind.Plural e))
body_steps bs nodes (says.Opens (opening.Select x)) span i e = absurd (clash refl (in_body bs kind.Select e))
body_steps bs nodes (says.GoesOn m) span i e = body_goes_steps bs (ended nodes) m (middle_of_body bs nodes m e)
body_steps bs nodes (says.Closes n) span i e = body_closes_steps bs (ended nodes) n span e

-- in a message

closed_message_steps : (b : Block) (n : BlockName) → closes_message b n ≡ true → (bs : List Block) (body : MessageBody)
    (span : Span) → HasStep (closed_message bs b body span)
closed_message_steps (block.Message m) n e bs body span = stepped _
closed_message_steps (block.Fallback m first f) n e bs body span = stepped _
closed_message_steps (block.PluralDefault p) n e bs body span = stepped _
closed_message_steps (block.SelectDefault s) n e bs body span = stepped _
closed_message_steps _ n e bs body span = absurd (cc e)

message_admits_closes : (b : Block) (n : BlockName) → message_admits b (kind.Closes n) ≡ true
    → closes_message b n ≡ true
message_admits_closes (block.Message m) n e = e
message_admits_closes (block.PluralCase p values) n e = e
message_admits_closes (block.SelectCase s values) n e = e
message_admits_closes _ n e = e

message_closes_steps : (bs : List Block) (body : MessageBody) (n : BlockName) (span : Span) →
    top_admits message_admits bs (kind.Closes n) ≡ true → HasStep (message_closes bs body n span)
message_closes_steps [] body n span e = absurd (cc e)
message_closes_steps (b ∷ bs) body n span e =
    let c = message_admits_closes b n e in
    when (closes_message b n) (closed_message bs b body span) c (closed_message_steps b n c bs body span)

message_goes_steps : (bs : List Block) (body : MessageBody) (m : Middle) (span : Span) →
    top_admits message_admits bs (middle_kind m) ≡ true → HasStep (message_goes_on bs body m span)
message_goes_steps (block.Message o ∷ bs) body (middle.Fallback desc meaning) span h = stepped _
message_goes_steps (block.Message o ∷ bs) body _ span h = absurd (cc h)
message_goes_steps (block.PluralCase p values ∷ bs) body (middle.PluralCase next) span h = stepped _
message_goes_steps (block.PluralCase p values ∷ bs) body middle.Default span h = stepped _
message_goes_steps (block.PluralCase p values ∷ bs) body _ span h = absurd (cc h)
message_goes_steps (block.SelectCase s values ∷ bs) body (middle.SelectCase next) span h = stepped _
message_goes_steps (block.SelectCase s values ∷ bs) body middle.Default span h = stepped _
message_goes_steps (block.SelectCase s values ∷ bs) body _ span h = absurd (cc h)
message_goes_steps [] body m span h = absurd (cc h)
message_goes_steps (b ∷ bs) body (middle.ElseIf e) span h = absurd (cc h)
message_goes_steps (b ∷ bs) body middle.Else span h = absurd (cc h)
message_goes_steps (b ∷ bs) body (middle.Case values) span h = absurd (cc h)
message_goes_steps (b ∷ bs) body (middle.PluralCase values) span h = absurd (cc h)
message_goes_steps (b ∷ bs) body (middle.SelectCase values) span h = absurd (cc h)
message_goes_steps (b ∷ bs) body middle.Default span h = absurd (cc h)
message_goes_steps (b ∷ bs) body (middle.Fallback desc meaning) span h = absurd (cc h)

middle_of_parts : (bs : List Block) (nodes : Nodes) (white : Bool) (m : Middle) →
    in_parts_admits bs nodes white (middle_kind m) ≡ true →
    (has_whole_tags nodes && top_admits message_admits bs (middle_kind m)) ≡ true
middle_of_parts bs nodes white (middle.ElseIf e) h = h
middle_of_parts bs nodes white middle.Else h = h
middle_of_parts bs nodes white (middle.Case values) h = h
middle_of_parts bs nodes white (middle.PluralCase values) h = h
middle_of_parts bs nodes white (middle.SelectCase values) h = h
middle_of_parts bs nodes white middle.Default h = h
middle_of_parts bs nodes white (middle.Fallback desc meaning) h = h

-- no message admits such a head
not_in_parts : (bs : List Block) (nodes : Nodes) (k : HeadKind) → goes_on k ≡ false →
    (has_whole_tags nodes && top_admits message_admits bs k) ≡ true → ⊥
not_in_parts bs nodes k f e = clash f (in_message bs k (second_true (has_whole_tags nodes) _ e))

parts_steps : (bs : List Block) (nodes : Nodes) (white : Bool) (of : CommandForm) (span : Span) → HasHead of →
    in_parts_admits bs nodes white (form_kind of) ≡ true → HasStep (step_at (content.Parts nodes white) bs of span)
parts_steps bs nodes white (says.Text text) span i e = absurd i
parts_steps bs nodes white (says.Character text) span i e = stepped _
parts_steps bs nodes white (says.Namespace n) span i e = absurd (not_in_parts bs nodes kind.Namespace refl e)
parts_steps bs nodes white (says.TemplateParam n required of) span i e =
    absurd (not_in_parts bs nodes kind.TemplateParam refl e)
parts_steps bs nodes white (says.Single (single.MessagePrint x phname)) span i e = stepped _
parts_steps bs nodes white (says.Single (single.Print x)) span i e = absurd (not_in_parts bs nodes kind.Print refl e)
parts_steps bs nodes white (says.Single (single.Let n x)) span i e = absurd (not_in_parts bs nodes kind.Let refl e)
parts_steps bs nodes white (says.Single (single.Call n all)) span i e = absurd (not_in_parts bs nodes kind.Call refl e)
parts_steps bs nodes white (says.Single (single.Param n x)) span i e = absurd (not_in_parts bs nodes kind.Param refl e)
parts_steps bs nodes white (says.Opens (opening.Plural x offset)) span i e = when white _ e (stepped _)
parts_steps bs nodes white (says.Opens (opening.Select x)) span i e = when white _ e (stepped _)
parts_steps bs nodes white (says.Opens (opening.Template h)) span i e =
    absurd (not_in_parts bs nodes kind.Template refl e)
parts_steps bs nodes white (says.Opens (opening.If x)) span i e = absurd (not_in_parts bs nodes kind.If refl e)
parts_steps bs nodes white (says.Opens (opening.Switch x)) span i e = absurd (not_in_parts bs nodes kind.Switch refl e)
parts_steps bs nodes white (says.Opens (opening.For n index x)) span i e =
    absurd (not_in_parts bs nodes kind.For refl e)
parts_steps bs nodes white (says.Opens (opening.Let n of)) span i e = absurd (not_in_parts bs nodes kind.Let refl e)
parts_steps bs nodes white (says.Opens (opening.Call n all)) span i e = absurd (not_in_parts bs nodes kind.Call refl e)
parts_steps bs nodes white (says.Opens (opening.Param n of)) span i e = absurd (not_in_parts bs nodes kind.Param refl e)
parts_steps bs nodes white (says.Opens (opening.Message desc meaning)) span i e =
    absurd (not_in_parts bs nodes kind.Message refl e)
parts_steps bs nodes white (says.GoesOn m) span i e =
    let both = middle_of_parts bs nodes white m e in
    when (has_whole_tags nodes) _ (first_true (has_whole_tags nodes) _ both)
    (message_goes_steps bs (body_of_parts nodes) m span (second_true (has_whole_tags nodes) _ both))
parts_steps bs nodes white (says.Closes n) span i e =
    when (has_whole_tags nodes) _ (first_true (has_whole_tags nodes) _ e)
    (message_closes_steps bs (body_of_parts nodes) n span (second_true (has_whole_tags nodes) _ e))

choice_steps : (bs : List Block) (body : MessageBody) (of : CommandForm) (span : Span) → HasHead of →
    top_admits message_admits bs (form_kind of) ≡ true → HasStep (step_at (content.Choice body) bs of span)
choice_steps bs body (says.Text text) span i e = absurd i
choice_steps bs body (says.GoesOn m) span i e = message_goes_steps bs body m span e
choice_steps bs body (says.Closes n) span i e = message_closes_steps bs body n span e
choice_steps bs body (says.Character text) span i e = absurd (clash refl (in_message bs kind.Character e))
choice_steps bs body (says.Namespace n) span i e = absurd (clash refl (in_message bs kind.Namespace e))
choice_steps bs body (says.TemplateParam n required of) span i e =
    absurd (clash refl (in_message bs kind.TemplateParam e))
choice_steps bs body (says.Single of) span i e = absurd (clash (single_no of) (in_message bs (single_kind of) e))
choice_steps bs body (says.Opens of) span i e = absurd (clash (opening_no of) (in_message bs (opening_kind of) e))

-- before the first case

begin_steps : (bs : List Block) (m : Middle) → top_admits cases_admit bs (middle_kind m) ≡ true
    → HasStep (cases_begin bs m)
begin_steps (block.Switch before start s ∷ bs) (middle.Case values) e = stepped _
begin_steps (block.Switch before start s ∷ bs) middle.Default e = stepped _
begin_steps (block.Switch before start s ∷ bs) _ e = absurd (cc e)
begin_steps (block.Plural s offset ∷ bs) (middle.PluralCase values) e = stepped _
begin_steps (block.Plural s offset ∷ bs) middle.Default e = stepped _
begin_steps (block.Plural s offset ∷ bs) _ e = absurd (cc e)
begin_steps (block.Select s ∷ bs) (middle.SelectCase values) e = stepped _
begin_steps (block.Select s ∷ bs) middle.Default e = stepped _
begin_steps (block.Select s ∷ bs) _ e = absurd (cc e)
begin_steps _ m e = absurd (cc e)

switch_steps : (bs : List Block) (n : BlockName) (span : Span) → top_admits cases_admit bs (kind.Closes n) ≡ true →
    HasStep (step_at content.BeforeCases bs (says.Closes n) span)
switch_steps (block.Switch before start s ∷ bs) name.Switch span e = stepped _
switch_steps (block.Switch before start s ∷ bs) _ span e = absurd (cc e)
switch_steps _ n span e = absurd (cc e)

cases_steps : (bs : List Block) (of : CommandForm) (span : Span) → HasHead of
    → top_admits cases_admit bs (form_kind of) ≡ true →
    HasStep (step_at content.BeforeCases bs of span)
cases_steps bs (says.Text text) span i e = absurd i
cases_steps bs (says.GoesOn m) span i e = begin_steps bs m e
cases_steps bs (says.Closes n) span i e = switch_steps bs n span e
cases_steps bs (says.Character text) span i e = absurd (clash refl (in_cases bs kind.Character e))
cases_steps bs (says.Namespace n) span i e = absurd (clash refl (in_cases bs kind.Namespace e))
cases_steps bs (says.TemplateParam n required of) span i e = absurd (clash refl (in_cases bs kind.TemplateParam e))
cases_steps bs (says.Single of) span i e = absurd (clash (single_no of) (in_cases bs (single_kind of) e))
cases_steps bs (says.Opens of) span i e = absurd (clash (opening_no of) (in_cases bs (opening_kind of) e))

-- what is innermost, by what the blocks hold

-- a message goes on or ends with this
pub data MessageTop : List Block → Type 0 where
  default_ : (bs : List Block) → top_admits message_admits bs kind.Default ≡ true → MessageTop bs
  msg_ : (bs : List Block) → top_admits message_admits bs (kind.Closes name.Msg) ≡ true → MessageTop bs
  plural_ : (bs : List Block) → top_admits message_admits bs (kind.Closes name.Plural) ≡ true → MessageTop bs
  select_ : (bs : List Block) → top_admits message_admits bs (kind.Closes name.Select) ≡ true → MessageTop bs

abbrev pub TopIs : Inside → List Block → Type 0
TopIs ABody bs = Unit {0}
TopIs ACall bs = (arguments : List Argument) (span : Span) → HasStep (closed_call bs arguments span)
TopIs ASwitch bs = top_admits cases_admit bs kind.Default ≡ true
TopIs APlural bs = top_admits cases_admit bs kind.Default ≡ true
TopIs ASelect bs = top_admits cases_admit bs kind.Default ≡ true
TopIs AMessage bs = MessageTop bs

pub top_is : (k : Inside) (bs : List Block) (xs : List Command) → Opened k bs xs → TopIs k bs
top_is _ _ _ (Opened.template_ ds cs ps c d n templates h params w hc t hd p) = tt
top_is _ _ _ (Opened.arm_ bs xs ys zs before arms start e o b a) = tt
top_is _ _ _ (Opened.else_ bs xs ys zs d before arms start o b a hd) = tt
top_is _ _ _ (Opened.for_ bs xs ys c before n index e o b hc) = tt
top_is _ _ _ (Opened.let_ bs xs ys c before n kind o b hc) = tt
top_is _ _ _ (Opened.call_ bs xs ys c before n all o b hc) = λ arguments span. stepped _
top_is _ _ _ (Opened.param_ bs xs ys c arguments n kind o a hc) = tt
top_is _ _ _ (Opened.switch_ bs xs ys c before e o b hc) = refl
top_is _ _ _ (Opened.case_ bs xs ys ws zs c d before e cases values o b hc w a hd) = tt
top_is _ _ _ (Opened.switch_default_ bs xs ys ws zs c d before e cases o b hc w a hd) = tt
top_is _ _ _ (Opened.message_ bs xs ys c before desc meaning o b hc) = MessageTop.msg_ _ refl
top_is _ _ _ (Opened.fallback_ bs xs ys zs c d before first desc meaning older older_meaning o b hc a hd) =
    MessageTop.msg_ _ refl
top_is _ _ _ (Opened.plural_ bs xs ys c e offset o v hc) = refl
top_is _ _ _ (Opened.plural_case_ bs xs ys ws zs c d e offset cases values o v hc w a hd) = MessageTop.default_ _ refl
top_is _ _ _ (Opened.plural_default_ bs xs ys ws zs c d e offset cases o v hc w a hd) = MessageTop.plural_ _ refl
top_is _ _ _ (Opened.select_ bs xs ys c e o v hc) = refl
top_is _ _ _ (Opened.select_case_ bs xs ys ws zs c d e cases values o v hc w a hd) = MessageTop.default_ _ refl
top_is _ _ _ (Opened.select_default_ bs xs ys ws zs c d e cases o v hc w a hd) = MessageTop.select_ _ refl

call_steps : (bs : List Block) (arguments : List Argument) (of : CommandForm) (span : Span) → HasHead of →
    admits_at (content.Arguments arguments) bs (form_kind of) ≡ true → HasStep (closed_call bs arguments span) →
    HasStep (step_at (content.Arguments arguments) bs of span)
call_steps bs arguments (says.Text text) span i e h = absurd i
call_steps bs arguments (says.Single (single.Param n x)) span i e h = stepped _
call_steps bs arguments (says.Single (single.Print x)) span i e h = absurd (cc e)
call_steps bs arguments (says.Single (single.MessagePrint x phname)) span i e h = absurd (cc e)
call_steps bs arguments (says.Single (single.Let n x)) span i e h = absurd (cc e)
call_steps bs arguments (says.Single (single.Call n all)) span i e h = absurd (cc e)
call_steps bs arguments (says.Opens (opening.Param n of)) span i e h = stepped _
call_steps bs arguments (says.Opens _) span i e h = absurd (cc e)
call_steps bs arguments (says.GoesOn (middle.ElseIf x)) span i e h = absurd (cc e)
call_steps bs arguments (says.GoesOn middle.Else) span i e h = absurd (cc e)
call_steps bs arguments (says.GoesOn (middle.Case values)) span i e h = absurd (cc e)
call_steps bs arguments (says.GoesOn (middle.PluralCase values)) span i e h = absurd (cc e)
call_steps bs arguments (says.GoesOn (middle.SelectCase values)) span i e h = absurd (cc e)
call_steps bs arguments (says.GoesOn middle.Default) span i e h = absurd (cc e)
call_steps bs arguments (says.GoesOn (middle.Fallback desc meaning)) span i e h = absurd (cc e)
call_steps bs arguments (says.Closes name.Call) span i e h = h
call_steps bs arguments (says.Closes _) span i e h = absurd (cc e)
call_steps bs arguments (says.Character text) span i e h = absurd (cc e)
call_steps bs arguments (says.Namespace n) span i e h = absurd (cc e)
call_steps bs arguments (says.TemplateParam n required of) span i e h = absurd (cc e)

-- in white text alone, and between templates

white_steps : (bs : List Block) (of : CommandForm) (span : Span) → HasHead of
    → admits_at content.White bs (form_kind of)
    ≡ true →
    HasStep (step_at content.White bs of span)
white_steps bs (says.Text text) span i e = absurd i
white_steps bs (says.Namespace n) span i e = stepped _
white_steps bs (says.Character text) span i e = absurd (cc e)
white_steps bs (says.TemplateParam n required of) span i e = absurd (cc e)
white_steps bs (says.Single (single.Print x)) span i e = absurd (cc e)
white_steps bs (says.Single (single.MessagePrint x phname)) span i e = absurd (cc e)
white_steps bs (says.Single (single.Let n x)) span i e = absurd (cc e)
white_steps bs (says.Single (single.Call n all)) span i e = absurd (cc e)
white_steps bs (says.Single (single.Param n x)) span i e = absurd (cc e)
white_steps bs (says.Opens (opening.Template h)) span i e = absurd (cc e)
white_steps bs (says.Opens (opening.If x)) span i e = absurd (cc e)
white_steps bs (says.Opens (opening.Switch x)) span i e = absurd (cc e)
white_steps bs (says.Opens (opening.For n index x)) span i e = absurd (cc e)
white_steps bs (says.Opens (opening.Let n of)) span i e = absurd (cc e)
white_steps bs (says.Opens (opening.Call n all)) span i e = absurd (cc e)
white_steps bs (says.Opens (opening.Param n of)) span i e = absurd (cc e)
white_steps bs (says.Opens (opening.Message desc meaning)) span i e = absurd (cc e)
white_steps bs (says.Opens (opening.Plural x offset)) span i e = absurd (cc e)
white_steps bs (says.Opens (opening.Select x)) span i e = absurd (cc e)
white_steps bs (says.GoesOn (middle.ElseIf x)) span i e = absurd (cc e)
white_steps bs (says.GoesOn middle.Else) span i e = absurd (cc e)
white_steps bs (says.GoesOn (middle.Case values)) span i e = absurd (cc e)
white_steps bs (says.GoesOn (middle.PluralCase values)) span i e = absurd (cc e)
white_steps bs (says.GoesOn (middle.SelectCase values)) span i e = absurd (cc e)
white_steps bs (says.GoesOn middle.Default) span i e = absurd (cc e)
white_steps bs (says.GoesOn (middle.Fallback desc meaning)) span i e = absurd (cc e)
white_steps bs (says.Closes n) span i e = absurd (cc e)

templates_steps : (bs : List Block) (n : List ℕ) (ts : List Template) (of : CommandForm) (span : Span) → HasHead of →
    admits_at (content.Templates n ts) bs (form_kind of) ≡ true → HasStep (step_at (content.Templates n ts) bs of span)
templates_steps bs n ts (says.Text text) span i e = absurd i
templates_steps bs n ts (says.Opens (opening.Template h)) span i e = stepped _
templates_steps bs n ts (says.Namespace m) span i e = absurd (cc e)
templates_steps bs n ts (says.Character text) span i e = absurd (cc e)
templates_steps bs n ts (says.TemplateParam m required of) span i e = absurd (cc e)
templates_steps bs n ts (says.Single (single.Print x)) span i e = absurd (cc e)
templates_steps bs n ts (says.Single (single.MessagePrint x phname)) span i e = absurd (cc e)
templates_steps bs n ts (says.Single (single.Let m x)) span i e = absurd (cc e)
templates_steps bs n ts (says.Single (single.Call m all)) span i e = absurd (cc e)
templates_steps bs n ts (says.Single (single.Param m x)) span i e = absurd (cc e)
templates_steps bs n ts (says.Opens _) span i e = absurd (cc e)
templates_steps bs n ts (says.GoesOn (middle.ElseIf x)) span i e = absurd (cc e)
templates_steps bs n ts (says.GoesOn middle.Else) span i e = absurd (cc e)
templates_steps bs n ts (says.GoesOn (middle.Case values)) span i e = absurd (cc e)
templates_steps bs n ts (says.GoesOn (middle.PluralCase values)) span i e = absurd (cc e)
templates_steps bs n ts (says.GoesOn (middle.SelectCase values)) span i e = absurd (cc e)
templates_steps bs n ts (says.GoesOn middle.Default) span i e = absurd (cc e)
templates_steps bs n ts (says.GoesOn (middle.Fallback desc meaning)) span i e = absurd (cc e)
templates_steps bs n ts (says.Closes m) span i e = absurd (cc e)

held_steps : (k : Content) (bs : List Block) (cs : List Command) → Held_at k bs cs → (of : CommandForm) (span : Span)
    → HasHead of →
    admits_at k bs (form_kind of) ≡ true → HasStep (step_at k bs of span)
held_steps content.White bs cs h of span i e = white_steps bs of span i e
held_steps (content.Templates n ts) bs cs h of span i e = templates_steps bs n ts of span i e
held_steps (content.Body nodes) bs cs h of span i e = body_steps bs nodes of span i e
held_steps (content.Arguments arguments) bs cs h of span i e =
    let top = top_is ACall bs h.prefix h.opened in call_steps bs arguments of span i e (top arguments span)
held_steps content.BeforeCases bs cs h of span i e = cases_steps bs of span i e
held_steps (content.Parts nodes white) bs cs h of span i e = parts_steps bs nodes white of span i e
held_steps (content.Choice body) bs cs h of span i e = choice_steps bs body of span i e

-- **A command whose head is admitted has a step.**
pub admitted_steps : (cs : List Command) (s : CommandState) → command_run cs command_start ≡ Some s
    → (of : CommandForm) (span : Span) →
    HasHead of → admits s (form_kind of) ≡ true → HasStep (command_step s (record { form = of; span = span }))
admitted_steps cs s r of span i e = held_steps s.content s.blocks cs (start_run_held cs s r) of span i e
