-- **Where the machine of files has a state after tokens, some file begins with them; and what it has read as a whole
-- file is
-- one.**
use Rattle.std.proofs.Common.{◌≡◌, ℕ, true, List, [], ◌∷◌, ◌++◌, Option, Some, None, refl, sym, ◌∙◌, ap}
use Rattle.std.proofs.Common.{subst, append_assoc}
use Rattle.std.specs.Prelude.{codes}
use Rattle.soy_lexer.specs.declared.token.Token.{Token}
use Rattle.soy_tree.specs.declared.node.MessageBody.{MessageBody}
use Rattle.soy_tree.specs.declared.tree.Template.{Template}
use Rattle.soy_tree.specs.declared.tree.Tree.{Tree}
use Rattle.expr_parser.specs.Operands.{joined}
use Rattle.soy_parser.specs.declared.block.Block.{Block}
use Rattle.soy_parser.specs.declared.block.CommandState.{CommandState}
use Rattle.soy_parser.specs.declared.block.Content.{Content}
use Rattle.soy_parser.specs.declared.block.Content.TheVariants as content
use Rattle.soy_parser.specs.declared.command.Command.{Command}
use Rattle.soy_parser.specs.declared.command.Middle.TheVariants as middle
use Rattle.soy_parser.specs.declared.command.CommandForm.TheVariants as says
use Rattle.soy_parser.specs.declared.head.Head.{Head}
use Rattle.soy_parser.specs.declared.head.Head.TheVariants as head
use Rattle.soy_parser.specs.declared.head.HeadKind.{HeadKind}
use Rattle.soy_parser.specs.declared.head.HeadKind.TheVariants as kind
use Rattle.soy_parser.specs.declared.spot.CommandSpot.{CommandSpot}
use Rattle.soy_parser.specs.declared.spot.CommandSpot.TheVariants as where_
use Rattle.soy_parser.specs.declared.spot.DottedUse.TheVariants as dotted
use Rattle.soy_parser.specs.declared.spot.FileState.{FileState}
use Rattle.soy_parser.specs.declared.terminal.BlockName.TheVariants as name
use Rattle.soy_parser.specs.declared.terminal.CommandTerminal.TheVariants as terminal
use Rattle.soy_parser.specs.declared.terminal.CommandWord.TheVariants as word
use Rattle.soy_parser.specs.CommandSteps.{commands_from, command_run, command_start}
use Rattle.soy_parser.specs.CommandTerminals.{command_terminal_of}
use Rattle.soy_parser.specs.FileRuns.{file_run}
use Rattle.soy_parser.specs.FileSteps.{admits, admits_at, head_kind, file_start, tree_of, whole_at}
use Rattle.soy_parser.specs.FileSteps.{whole_file}
use Rattle.soy_parser.specs.SpellsCommand.{SpellsCommand}
use Rattle.soy_parser.specs.SpellsHead.{SpellsHead, bare_head}
use Rattle.soy_parser.proofs.OfCommands.AdmittedSteps.{MessageTop, top_is, admitted_steps}
use Rattle.soy_parser.proofs.OfCommands.CommandRunning.{run_append}
use Rattle.soy_parser.proofs.OfCommands.CommandsComplete.{at}
use Rattle.soy_parser.proofs.OfCommands.CommandsEnd.{run_ends}
use Rattle.soy_parser.proofs.OfCommands.CommandsSound.{Inside, ACall, ASwitch, APlural, ASelect, AMessage, Opened}
use Rattle.soy_parser.proofs.OfCommands.CommandsSound.{HasCases}
use Rattle.soy_parser.proofs.OfCommands.CommandsSound.{Held_at, run_tree}
use Rattle.soy_parser.proofs.OfCommands.CommandsSound as commands
use Rattle.soy_parser.proofs.OfFiles.FilesComplete.{said_fits, spelled_is_head}
use Rattle.soy_parser.proofs.OfFiles.FilesSound.{Heard, HeldOpened, HeldInside, start_run_held}
use Rattle.soy_parser.proofs.OfFiles.FilesSound as files
use Rattle.soy_parser.proofs.OfHeads.HeadsBegun.{DottedBegins, Begun}
use Rattle.soy_parser.proofs.OfHeads.HeadsEnd.{Completes, begun_ends, head_ends}
use Rattle.soy_parser.proofs.OfCommands.WrittenTokens.{word_token, closing_token, closing_is, default_is, namespace_is}
use Rattle.soy_parser.proofs.OfCommands.WrittenTokens.{Speaks, speaks_append, speaks_one, all_spoken, SpelledFile}
use Rattle.soy_parser.proofs.OfCommands.WrittenTokens.{file_spelled}

-- further tokens complete these to a file
pub record CompletesFile (ts : List Token) : Type 0 where
  pub more : List Token
  pub tree : Tree
  pub spelled : SpelledFile (ts ++ more) tree

shorter : (ts us : List Token) → CompletesFile (ts ++ us) → CompletesFile ts
shorter ts us c = record {
  more = us ++ c.more;
  tree = c.tree;
  spelled = subst (λ l. SpelledFile l c.tree) (append_assoc ts us c.more) c.spelled;
}

-- between commands
heard_completes : (s : CommandState) (ts : List Token) → Heard s ts → CompletesFile ts
heard_completes s ts h =
    let e = run_ends h.commands s h.runs in
    let q = all_spoken e.more e.are in
    record {
      more = q.tokens;
      tree = e.tree;
      spelled = file_spelled (ts ++ q.tokens) (h.commands ++ e.more) e.levels e.tree
          (speaks_append ts q.tokens h.commands e.more h.speaks q.speaks) e.spells;
    }

-- in a command
inside_completes : (s : CommandState) (prefix : List Token) (begin : Token) (own : List Token) (k : HeadKind)
    → Heard s prefix →
    command_terminal_of begin ≡ terminal.Begin → Completes own k → admits s k ≡ true →
    CompletesFile (prefix ++ (begin ∷ own))
inside_completes s prefix begin own k heard begins c ok =
    let of = c.of in
    let fits = said_fits c.head_ c.attributes (command_terminal_of c.close) c.said
    (spelled_is_head c.head_tokens of.depths of.words c.head_ of.spells) c.ends in
    let span = joined begin.span c.close.span in
    let said : Command = record { form = c.said; span = span } in
    let step = admitted_steps heard.commands s heard.runs c.said span fits.1
    (subst (λ k. admits s k ≡ true) (sym (fits.0 ∙ of.kind_is)) ok) in
    let own_tokens = begin ∷ (c.head_tokens ++ (c.attribute_tokens ++ (c.close ∷ []))) in
    let spoken : Speaks own_tokens (said ∷ []) =
    speaks_one own_tokens _ _ said
    (SpellsCommand.command_ begin c.close c.head_tokens c.attribute_tokens of.depths of.words c.head_ c.attributes
    c.said
    begins of.spells c.spells c.ends) in
    let next : Heard step.to (prefix ++ own_tokens) = record {
      commands = heard.commands ++ (said ∷ []);
      speaks = speaks_append prefix own_tokens heard.commands (said ∷ []) heard.speaks spoken;
      runs = run_append heard.commands (said ∷ []) command_start
          ∙ (ap (commands_from (command_run (said ∷ []))) heard.runs ∙ ap (commands_from (command_run [])) step.is);
    } in
    shorter (prefix ++ (begin ∷ own)) c.more
    (subst (λ l. CompletesFile l)
    (ap (λ l. prefix ++ (begin ∷ l)) (sym c.whole) ∙ sym (append_assoc prefix (begin ∷ own) c.more))
    (heard_completes step.to (prefix ++ own_tokens) next))

-- directly after a `{`

-- a token with which a command may begin
record CanBegin (k : Content) (bs : List Block) : Type 0 where
  pub kind_ : HeadKind
  pub first : Token
  pub ends : Completes (first ∷ []) kind_
  pub admitted : admits_at k bs kind_ ≡ true

bare_ends : (t : Token) (h : Head) → bare_head (command_terminal_of t) ≡ Some h → Completes (t ∷ []) (head_kind h)
bare_ends t h e =
    head_ends (t ∷ []) h (head_kind h)
    (record { depths = _; words = _; spells = SpellsHead.bare_ t h e; kind_is = refl })

template_is : command_terminal_of (word_token (codes "template")) ≡ terminal.Word word.Template
unfolding lib.Utf8.encode
template_is = refl

nil_is : bare_head (command_terminal_of (word_token (codes "nil"))) ≡ Some (head.Whole (says.Character []))
unfolding lib.Utf8.encode
nil_is = refl

bare_begins : (k : Content) (bs : List Block) (t : Token) (h : Head) → bare_head (command_terminal_of t) ≡ Some h →
    admits_at k bs (head_kind h) ≡ true → CanBegin k bs
bare_begins k bs t h e ok = record { kind_ = head_kind h; first = t; ends = bare_ends t h e; admitted = ok }

choice_begins : (body : MessageBody) (bs : List Block) → MessageTop bs → CanBegin (content.Choice body) bs
choice_begins body _ (MessageTop.default_ bs e) =
    bare_begins (content.Choice body) bs (word_token (codes "default")) (head.Whole (says.GoesOn middle.Default))
    default_is e
choice_begins body _ (MessageTop.msg_ bs e) =
    bare_begins (content.Choice body) bs (closing_token name.Msg) (head.Whole (says.Closes name.Msg))
    (closing_is name.Msg tt) e
choice_begins body _ (MessageTop.plural_ bs e) =
    bare_begins (content.Choice body) bs (closing_token name.Plural) (head.Whole (says.Closes name.Plural))
    (closing_is name.Plural tt) e
choice_begins body _ (MessageTop.select_ bs e) =
    bare_begins (content.Choice body) bs (closing_token name.Select) (head.Whole (says.Closes name.Select))
    (closing_is name.Select tt) e

cases_default : (k : Inside) → HasCases k → (bs : List Block) (xs : List Command) → Opened k bs xs →
    admits_at content.BeforeCases bs kind.Default ≡ true
cases_default _ HasCases.switch_ bs xs o = top_is ASwitch bs xs o
cases_default _ HasCases.plural_ bs xs o = top_is APlural bs xs o
cases_default _ HasCases.select_ bs xs o = top_is ASelect bs xs o

can_begin : (k : Content) (bs : List Block) (cs : List Command) → Held_at k bs cs → CanBegin k bs
can_begin content.White bs cs h =
    record {
      kind_ = kind.Namespace;
      first = word_token (codes "namespace");
      ends = begun_ends _ _ _ (Begun.dotted_first_ (word_token (codes "namespace") ∷ []) dotted.Namespace kind.Namespace
          (DottedBegins.namespace_ (word_token (codes "namespace")) namespace_is));
      admitted = refl;
    }
can_begin (content.Templates n ts) bs cs h =
    record {
      kind_ = kind.Template;
      first = word_token (codes "template");
      ends = begun_ends _ _ _ (Begun.template_ (word_token (codes "template")) template_is);
      admitted = refl;
    }
can_begin (content.Body nodes) bs cs h =
    bare_begins (content.Body nodes) bs (word_token (codes "nil")) (head.Whole (says.Character [])) nil_is refl
can_begin (content.Arguments arguments) bs cs h =
    bare_begins (content.Arguments arguments) bs (closing_token name.Call) (head.Whole (says.Closes name.Call))
    (closing_is name.Call tt) refl
can_begin content.BeforeCases bs cs h =
    bare_begins content.BeforeCases bs (word_token (codes "default")) (head.Whole (says.GoesOn middle.Default))
    default_is
    (cases_default h.inside h.has bs h.prefix h.opened)
can_begin (content.Parts nodes white) bs cs h =
    bare_begins (content.Parts nodes white) bs (word_token (codes "nil")) (head.Whole (says.Character [])) nil_is refl
can_begin (content.Choice body) bs cs h = choice_begins body bs (top_is AMessage bs h.prefix h.opened)

opened_completes : (s : CommandState) (prefix : List Token) (begin : Token) → Heard s prefix →
    command_terminal_of begin ≡ terminal.Begin → CompletesFile (prefix ++ (begin ∷ []))
opened_completes s prefix begin heard begins =
    let c = can_begin s.content s.blocks heard.commands (commands.start_run_held heard.commands s heard.runs) in
    shorter (prefix ++ (begin ∷ [])) (c.first ∷ [])
    (subst (λ l. CompletesFile l) (sym (append_assoc prefix (begin ∷ []) (c.first ∷ [])))
    (inside_completes s prefix begin (c.first ∷ []) c.kind_ heard begins c.ends c.admitted))

held_completes : (at : CommandSpot) (s : CommandState) (ts : List Token) → files.Held_at at s ts → CompletesFile ts
held_completes where_.Between s ts h = heard_completes s ts h
held_completes (where_.Opened from) s ts h =
    subst (λ l. CompletesFile l) (sym h.whole) (opened_completes s h.prefix h.begin h.heard h.begins)
held_completes (where_.Inside from at) s ts h =
    subst (λ l. CompletesFile l) (sym h.whole)
    (inside_completes s h.prefix h.begin h.own h.kind_ h.heard h.begins
    (begun_ends at h.own h.kind_ h.begun) h.admitted)

-- **Some file begins with what is read.**
pub run-CompletesFile : (ts : List Token) (st : FileState) → file_run ts file_start ≡ Some st → CompletesFile ts
run-CompletesFile ts st e = held_completes st.spot st.commands ts (start_run_held ts st e)

-- a whole file

abbrev IfWhole : Option Tree → List Token → Type 0
IfWhole None ts = Unit {0}
IfWhole (Some tree) ts = SpelledFile ts tree

templates_whole : (n : List ℕ) (templates : List Template) (bs : List Block) (ts : List Token) →
    Heard (at bs (content.Templates n templates)) ts → SpelledFile ts (record { namespace = n; templates = templates })
templates_whole n templates bs ts h =
    let held = commands.start_run_held h.commands (at bs (content.Templates n templates)) h.runs in
    let t = run_tree h.commands n templates
    (subst (λ l. command_run h.commands command_start ≡ Some (at l (content.Templates n templates))) held.none h.runs)
    in
    file_spelled ts h.commands t.0 (record { namespace = n; templates = templates }) h.speaks t.1

whole_of : (k : Content) (bs : List Block) (ts : List Token) → Heard (at bs k) ts → IfWhole (tree_of k) ts
whole_of (content.Templates n templates) bs ts h = templates_whole n templates bs ts h
whole_of content.White bs ts h = tt
whole_of (content.Body nodes) bs ts h = tt
whole_of (content.Arguments arguments) bs ts h = tt
whole_of content.BeforeCases bs ts h = tt
whole_of (content.Parts nodes white) bs ts h = tt
whole_of (content.Choice body) bs ts h = tt

held_whole : (p : CommandSpot) (s : CommandState) (ts : List Token) → files.Held_at p s ts →
    IfWhole (whole_at p s.content) ts
held_whole where_.Between s ts h = whole_of s.content s.blocks ts h
held_whole (where_.Opened from) s ts h = tt
held_whole (where_.Inside from p) s ts h = tt

-- **What is read as a whole is spelled.**
pub whole_file-SpelledFile : (ts : List Token) (st : FileState) (tree : Tree) → file_run ts file_start ≡ Some st →
    whole_file st ≡ Some tree → SpelledFile ts tree
whole_file-SpelledFile ts st tree e f =
    subst (λ o. IfWhole o ts) f (held_whole st.spot st.commands ts (start_run_held ts st e))
