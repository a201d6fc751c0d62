-- What was read of commands can be completed to a file: further commands close what is open.
use Rattle.std.proofs.Common.{◌≡◌, ℕ, Bool, true, List, [], ◌∷◌, ◌++◌, Option, Some, None, refl}
use Rattle.std.proofs.Common.{sym, ◌∙◌, ap, subst}
use Rattle.std.specs.Prelude.{if◌then◌else◌, codes}
use Rattle.soy_base.specs.declared.fault.Span.{Span}
use Rattle.soy_tree.specs.declared.node.Argument.{Argument}
use Rattle.soy_tree.specs.declared.node.MessageBody.{MessageBody}
use Rattle.soy_tree.specs.declared.node.MessageBody.TheVariants as message_body
use Rattle.soy_tree.specs.declared.tree.Template.{Template}
use Rattle.soy_tree.specs.declared.tree.Tree.{Tree}
use Rattle.soy_parser.specs.declared.block.Block.{Block}
use Rattle.soy_parser.specs.declared.block.CommandState.{CommandState}
use Rattle.soy_parser.specs.declared.block.Content.{Content}
use Rattle.soy_parser.specs.declared.block.Content.TheVariants as content
use Rattle.soy_parser.specs.declared.block.Nodes.{Nodes}
use Rattle.soy_parser.specs.declared.command.Command.{Command}
use Rattle.soy_parser.specs.declared.command.Middle.{Middle}
use Rattle.soy_parser.specs.declared.command.Middle.TheVariants as middle
use Rattle.soy_parser.specs.declared.command.CommandForm.{CommandForm}
use Rattle.soy_parser.specs.declared.command.CommandForm.TheVariants as says
use Rattle.soy_parser.specs.declared.terminal.BlockName.{BlockName}
use Rattle.soy_parser.specs.declared.terminal.BlockName.TheVariants as name
use Rattle.soy_parser.specs.CommandSteps.{nodes_with, no_nodes, with_text, has_whole_tags, body_of_parts}
use Rattle.soy_parser.specs.CommandSteps.{message_goes_on}
use Rattle.soy_parser.specs.CommandSteps.{message_closes, step_at, commands_from, command_run}
use Rattle.soy_parser.specs.CommandSteps.{command_start}
use Rattle.soy_parser.specs.SpellsTree.{SpellsTree}
use Rattle.soy_parser.proofs.OfCommands.CommandRunning.{run_append}
use Rattle.soy_parser.proofs.OfCommands.CommandsComplete.{at, tree_goes}
use Rattle.soy_parser.proofs.OfCommands.CommandsSound.{Inside, ABody, ACall, ASwitch, APlural, ASelect, AMessage, Opened}
use Rattle.soy_parser.proofs.OfCommands.CommandsSound.{HasCases}
use Rattle.soy_parser.proofs.OfCommands.CommandsSound.{Held_at}
use Rattle.soy_parser.proofs.MessageItems.{parts_end}
use Rattle.soy_parser.proofs.OfCommands.CommandsSound.{HeldParts, start_run_held, run_tree}

abbrev pub no_span : Span
no_span = record { start = 0; end = 0 }

abbrev pub written : CommandForm → Command
written of = record { form = of; span = no_span }

-- it names a block
abbrev pub IsBlock : BlockName → Type 0
IsBlock name.Other = ⊥
IsBlock _ = Unit {0}

-- commands that close what is open, for which there are tokens
pub data IsWritten : CommandForm → Type 0 where
  text_ : (text : List ℕ) → IsWritten (says.Text text)
  default_ : IsWritten (says.GoesOn middle.Default)
  closes_ : (n : BlockName) → IsBlock n → IsWritten (says.Closes n)
  namespace_ : IsWritten (says.Namespace (codes "x"))

pub data AllWritten : List Command → Type 0 where
  none_ : AllWritten []
  more_ : (of : CommandForm) (cs : List Command) → IsWritten of → AllWritten cs → AllWritten (written of ∷ cs)

-- further commands lead to the templates of a file
pub record Ends (s : CommandState) : Type 0 where
  pub more : List Command
  pub are : AllWritten more
  pub namespace : List ℕ
  pub templates : List Template
  pub runs : command_run more s ≡ Some (at [] (content.Templates namespace templates))

then_ends : (s m : CommandState) (of : CommandForm) → IsWritten of
    → step_at s.content s.blocks of no_span ≡ Some m → Ends m
    → Ends s
then_ends s m of w e h = record {
  more = written of ∷ h.more;
  are = AllWritten.more_ of h.more w h.are;
  namespace = h.namespace;
  templates = h.templates;
  runs = ap (commands_from (command_run h.more)) e ∙ h.runs;
}

-- a message's content, as what follows it sees it
pub record IsMessage (bs : List Block) (body : MessageBody) (s : CommandState) : Type 0 where
  pub goes_on : (m : Middle) (span : Span) → step_at s.content s.blocks (says.GoesOn m) span ≡ message_goes_on bs body
      m span
  pub closes : (n : BlockName) (span : Span) → step_at s.content s.blocks (says.Closes n) span ≡ message_closes bs body
      n span

-- whatever a block holds, it can be closed
abbrev pub EndsAt : Inside → List Block → Type 0
EndsAt ABody bs = (nodes : Nodes) → Ends (at bs (content.Body nodes))
EndsAt ACall bs = (arguments : List Argument) → Ends (at bs (content.Arguments arguments))
EndsAt ASwitch bs = Ends (at bs content.BeforeCases)
EndsAt APlural bs = Ends (at bs content.BeforeCases)
EndsAt ASelect bs = Ends (at bs content.BeforeCases)
EndsAt AMessage bs = (body : MessageBody) (s : CommandState) → IsMessage bs body s → Ends s

choice_is : (bs : List Block) (body : MessageBody) → IsMessage bs body (at bs (content.Choice body))
choice_is bs body = record { goes_on = λ m span. refl; closes = λ n span. refl }

-- a message without nodes
nothing_is : (bs : List Block) → IsMessage bs (message_body.Parts []) (at bs (content.Parts no_nodes true))
nothing_is bs = record { goes_on = λ m span. refl; closes = λ n span. refl }

opened_ends : (k : Inside) (bs : List Block) (xs : List Command) → Opened k bs xs → EndsAt k bs
opened_ends _ _ _ (Opened.template_ ds cs ps c d n templates h params w hc t hd p) = λ nodes. record {
  more = written (says.Closes name.Template) ∷ [];
  are = AllWritten.more_ _ [] (IsWritten.closes_ name.Template tt) AllWritten.none_;
  namespace = n;
  templates = _;
  runs = refl;
}
opened_ends _ _ _ (Opened.arm_ bs xs ys zs before arms start e o b a) =
    λ nodes. then_ends _ _ (says.Closes name.If) (IsWritten.closes_ name.If tt) refl
    (opened_ends ABody bs xs o (nodes_with _ None))
opened_ends _ _ _ (Opened.else_ bs xs ys zs d before arms start o b a hd) =
    λ nodes. then_ends _ _ (says.Closes name.If) (IsWritten.closes_ name.If tt) refl
    (opened_ends ABody bs xs o (nodes_with _ None))
opened_ends _ _ _ (Opened.for_ bs xs ys c before n index e o b hc) =
    λ nodes. then_ends _ _ (says.Closes name.For) (IsWritten.closes_ name.For tt) refl
    (opened_ends ABody bs xs o (nodes_with _ None))
opened_ends _ _ _ (Opened.let_ bs xs ys c before n kind o b hc) =
    λ nodes. then_ends _ _ (says.Closes name.Let) (IsWritten.closes_ name.Let tt) refl
    (opened_ends ABody bs xs o (nodes_with _ None))
opened_ends _ _ _ (Opened.call_ bs xs ys c before n all o b hc) =
    λ arguments. then_ends _ _ (says.Closes name.Call) (IsWritten.closes_ name.Call tt) refl
    (opened_ends ABody bs xs o (nodes_with _ None))
opened_ends _ _ _ (Opened.param_ bs xs ys c arguments n kind o a hc) =
    λ nodes. then_ends _ _ (says.Closes name.Param) (IsWritten.closes_ name.Param tt) refl (opened_ends ACall bs xs o _)
opened_ends _ _ _ (Opened.switch_ bs xs ys c before e o b hc) =
    then_ends _ _ (says.Closes name.Switch) (IsWritten.closes_ name.Switch tt) refl
    (opened_ends ABody bs xs o (nodes_with _ None))
opened_ends _ _ _ (Opened.case_ bs xs ys ws zs c d before e cases values o b hc w a hd) =
    λ nodes. then_ends _ _ (says.Closes name.Switch) (IsWritten.closes_ name.Switch tt) refl
    (opened_ends ABody bs xs o (nodes_with _ None))
opened_ends _ _ _ (Opened.switch_default_ bs xs ys ws zs c d before e cases o b hc w a hd) =
    λ nodes. then_ends _ _ (says.Closes name.Switch) (IsWritten.closes_ name.Switch tt) refl
    (opened_ends ABody bs xs o (nodes_with _ None))
opened_ends _ _ _ (Opened.message_ bs xs ys c before desc meaning o b hc) =
    λ body s is. then_ends s _ (says.Closes name.Msg) (IsWritten.closes_ name.Msg tt) (is.closes name.Msg no_span)
    (opened_ends ABody bs xs o (nodes_with _ None))
opened_ends _ _ _ (Opened.fallback_ bs xs ys zs c d before first desc meaning older older_meaning o b hc a hd) =
    λ body s is. then_ends s _ (says.Closes name.Msg) (IsWritten.closes_ name.Msg tt) (is.closes name.Msg no_span)
    (opened_ends ABody bs xs o (nodes_with _ None))
opened_ends _ _ _ (Opened.plural_ bs xs ys c e offset o v hc) =
    then_ends _ _ (says.GoesOn middle.Default) IsWritten.default_ refl
    (then_ends _ _ (says.Closes name.Plural) (IsWritten.closes_ name.Plural tt) refl
    (opened_ends AMessage bs xs o _ _ (choice_is bs _)))
opened_ends _ _ _ (Opened.plural_case_ bs xs ys ws zs c d e offset cases values o v hc w a hd) =
    λ body s is. then_ends s _ (says.GoesOn middle.Default) IsWritten.default_ (is.goes_on middle.Default no_span)
    (then_ends _ _ (says.Closes name.Plural) (IsWritten.closes_ name.Plural tt) refl
    (opened_ends AMessage bs xs o _ _ (choice_is bs _)))
opened_ends _ _ _ (Opened.plural_default_ bs xs ys ws zs c d e offset cases o v hc w a hd) =
    λ body s is. then_ends s _ (says.Closes name.Plural) (IsWritten.closes_ name.Plural tt)
    (is.closes name.Plural no_span)
    (opened_ends AMessage bs xs o _ _ (choice_is bs _))
opened_ends _ _ _ (Opened.select_ bs xs ys c e o v hc) =
    then_ends _ _ (says.GoesOn middle.Default) IsWritten.default_ refl
    (then_ends _ _ (says.Closes name.Select) (IsWritten.closes_ name.Select tt) refl
    (opened_ends AMessage bs xs o _ _ (choice_is bs _)))
opened_ends _ _ _ (Opened.select_case_ bs xs ys ws zs c d e cases values o v hc w a hd) =
    λ body s is. then_ends s _ (says.GoesOn middle.Default) IsWritten.default_ (is.goes_on middle.Default no_span)
    (then_ends _ _ (says.Closes name.Select) (IsWritten.closes_ name.Select tt) refl
    (opened_ends AMessage bs xs o _ _ (choice_is bs _)))
opened_ends _ _ _ (Opened.select_default_ bs xs ys ws zs c d e cases o v hc w a hd) =
    λ body s is. then_ends s _ (says.Closes name.Select) (IsWritten.closes_ name.Select tt)
    (is.closes name.Select no_span)
    (opened_ends AMessage bs xs o _ _ (choice_is bs _))

-- texts and prints of a message, whose tags are whole
parts_is : (bs : List Block) (nodes : Nodes) (white : Bool) → has_whole_tags nodes ≡ true →
    IsMessage bs (body_of_parts nodes) (at bs (content.Parts nodes white))
parts_is bs nodes white e = record {
  goes_on = λ m span. ap (λ b. if b then message_goes_on bs (body_of_parts nodes) m span else None) e;
  closes = λ n span. ap (λ b. if b then message_closes bs (body_of_parts nodes) n span else None) e;
}

parts_ends : (bs : List Block) (nodes : Nodes) (white : Bool) (cs : List Command) → HeldParts bs nodes white cs →
    Ends (at bs (content.Parts nodes white))
parts_ends bs nodes white cs h =
    let e = parts_end h.back nodes.items nodes.run no_span h.parts in
    then_ends (at bs (content.Parts nodes white)) _ (says.Text e.text) (IsWritten.text_ e.text) refl
    (opened_ends AMessage bs h.prefix h.opened (body_of_parts (with_text nodes e.text no_span)) _
    (parts_is bs (with_text nodes e.text no_span) _ e.whole))

cases_ends : (k : Inside) → HasCases k → (bs : List Block) → EndsAt k bs → Ends (at bs content.BeforeCases)
cases_ends _ HasCases.switch_ bs e = e
cases_ends _ HasCases.plural_ bs e = e
cases_ends _ HasCases.select_ bs e = e

-- **What is held can be completed.**
pub held_ends : (k : Content) (bs : List Block) (cs : List Command) → Held_at k bs cs → Ends (at bs k)
held_ends content.White bs cs h =
    subst (λ l. Ends (at l content.White)) (sym h.none)
    (record {
      more = written (says.Namespace (codes "x")) ∷ [];
      are = AllWritten.more_ _ [] IsWritten.namespace_ AllWritten.none_;
      namespace = codes "x";
      templates = [];
      runs = refl;
    })
held_ends (content.Templates n templates) bs cs h =
    subst (λ l. Ends (at l (content.Templates n templates))) (sym h.none)
    (record { more = []; are = AllWritten.none_; namespace = n; templates = templates; runs = refl })
held_ends (content.Body nodes) bs cs h = opened_ends ABody bs h.prefix h.opened nodes
held_ends (content.Arguments arguments) bs cs h = opened_ends ACall bs h.prefix h.opened arguments
held_ends content.BeforeCases bs cs h = cases_ends h.inside h.has bs (opened_ends h.inside bs h.prefix h.opened)
held_ends (content.Parts nodes white) bs cs h = parts_ends bs nodes white cs h
held_ends (content.Choice body) bs cs h = opened_ends AMessage bs h.prefix h.opened body _ (choice_is bs body)

-- further commands complete these to a file
pub record CompletesTree (cs : List Command) : Type 0 where
  pub more : List Command
  pub levels : List ℕ
  pub tree : Tree
  pub spells : SpellsTree (cs ++ more) levels tree

-- commands for which there are tokens complete these to a file
pub record EndsTree (cs : List Command) : Type 0 where
  pub more : List Command
  pub are : AllWritten more
  pub levels : List ℕ
  pub tree : Tree
  pub spells : SpellsTree (cs ++ more) levels tree

pub run_ends : (cs : List Command) (s : CommandState) → command_run cs command_start ≡ Some s → EndsTree cs
run_ends cs s e =
    let h = held_ends s.content s.blocks cs (start_run_held cs s e) in
    let t = run_tree (cs ++ h.more) h.namespace h.templates
    (run_append cs h.more command_start ∙ (ap (commands_from (command_run h.more)) e ∙ h.runs)) in
    record {
      more = h.more;
      are = h.are;
      levels = t.0;
      tree = record { namespace = h.namespace; templates = h.templates };
      spells = t.1;
    }

-- **Where there is a state after commands, some file begins with them,**
pub run-CompletesTree : (cs : List Command) (s : CommandState) → command_run cs command_start ≡ Some s
    → CompletesTree cs
run-CompletesTree cs s e =
    let h = run_ends cs s e in record { more = h.more; levels = h.levels; tree = h.tree; spells = h.spells }

pub record IsRun (cs : List Command) : Type 0 where
  pub state : CommandState
  pub is : command_run cs command_start ≡ Some state

-- **and where some file begins with commands, there is one.**
pub CompletesTree-run : (cs : List Command) → CompletesTree cs → IsRun cs
CompletesTree-run cs c =
    over (command_run cs command_start) refl
    (sym (run_append cs c.more command_start) ∙ (tree_goes (cs ++ c.more) c.levels c.tree c.spells).runs)
  where
    over : {s : CommandState} → (to : Option CommandState) → command_run cs command_start ≡ to →
        commands_from (command_run c.more) to ≡ Some s → IsRun cs
    over None e h = absurd (cc h)
    over (Some m) e h = record { state = m; is = e }
