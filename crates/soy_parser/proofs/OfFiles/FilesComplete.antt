-- **Each command that is spelled is read, and so is each file.**
use Rattle.std.proofs.Common.{◌≡◌, ℕ, ◌+◌, Bool, true, false, List, [], ◌∷◌, ◌++◌, length, Option, Some, None}
use Rattle.std.proofs.Common.{option_map, refl, sym, ◌∙◌, ap, subst, arith}
use Rattle.std.specs.Prelude.{unwrap_or}
use Rattle.soy_lexer.specs.declared.token.Token.{Token}
use Rattle.soy_tree.specs.declared.expr.Expr.{Expr}
use Rattle.soy_tree.specs.declared.tree.Tree.{Tree}
use Rattle.expr_parser.specs.Operands.{joined}
use Rattle.soy_parser.specs.declared.attributes.Attributes.{Attributes}
use Rattle.soy_parser.specs.declared.block.CommandState.{CommandState}
use Rattle.soy_parser.specs.declared.block.Content.TheVariants as content
use Rattle.soy_parser.specs.declared.command.Command.{Command}
use Rattle.soy_parser.specs.declared.command.Middle.TheVariants as middle
use Rattle.soy_parser.specs.declared.command.Opening.TheVariants as opening
use Rattle.soy_parser.specs.declared.command.CommandForm.{CommandForm}
use Rattle.soy_parser.specs.declared.command.CommandForm.TheVariants as says
use Rattle.soy_parser.specs.declared.head.Head.{Head}
use Rattle.soy_parser.specs.declared.head.Head.TheVariants as head
use Rattle.soy_parser.specs.declared.spot.FileState.{FileState}
use Rattle.soy_parser.specs.declared.terminal.BlockName.TheVariants as name
use Rattle.soy_parser.specs.declared.terminal.CommandTerminal.{CommandTerminal}
use Rattle.soy_parser.specs.declared.terminal.CommandTerminal.TheVariants as terminal
use Rattle.soy_parser.specs.declared.terminal.CommandWord.TheVariants as word
use Rattle.soy_parser.proofs.OfCommands.CommandLevels.{levels_from, command_levels}
use Rattle.soy_parser.specs.CommandSteps.{command_step, commands_from, command_run, command_start}
use Rattle.soy_parser.specs.CommandTerminals.{command_terminal_of}
use Rattle.soy_parser.specs.Depth.{inside_blocks}
use Rattle.soy_parser.specs.FileRuns.{file_run, file_depths, file_words}
use Rattle.soy_parser.specs.FileSteps.{admits, between_step, taken, form_kind, head_kind, file_start, whole_file}
use Rattle.soy_parser.specs.Heads.{form_at, plain_form, slash_form}
use Rattle.soy_parser.specs.SpellsCommand.{SpellsCommand, SpellsCommands}
use Rattle.soy_parser.specs.SpellsFile.{SpellsFile}
use Rattle.soy_parser.specs.SpellsHead.{SpellsHead, bare_head, expr_head}
use Rattle.soy_parser.proofs.OfCommands.Admits.{step_admits}
use Rattle.soy_parser.proofs.OfCommands.Admits as admit
use Rattle.soy_parser.proofs.AttributesComplete.{between, attributes_lead, end_step}
use Rattle.soy_parser.proofs.OfCommands.CommandsComplete.{at, tree_goes}
use Rattle.soy_parser.proofs.OfFiles.FileRunning.{Leads, none_leads, then_leads, step_leads}
use Rattle.soy_parser.proofs.OfHeads.HeadsComplete.{opened}
use Rattle.soy_parser.proofs.OfHeads.HeadsRead.{head_leads, none_then}

-- it says no text
abbrev pub IsHead : Head → Type 0
IsHead (head.Whole of) = admit.HasHead of
IsHead _ = Unit {0}

abbrev pub IfHead : Option Head → Type 0
IfHead None = Unit {0}
IfHead (Some h) = IsHead h

-- what is said is of the kind of the head
abbrev pub Fits : Head → Option CommandForm → Type 0
Fits h None = Unit {0}
Fits h (Some of) = (form_kind of ≡ head_kind h) × admit.HasHead of

map_fits : {A : Type 0} (h : Head) (f : A → CommandForm)
    → ((x : A) → (form_kind (f x) ≡ head_kind h) × admit.HasHead (f x)) →
    (o : Option A) → Fits h (option_map f o)
map_fits h f fits None = tt
map_fits h f fits (Some x) = fits x

plain_fits : (h : Head) (a : Attributes) → IsHead h → Fits h (plain_form h a)
plain_fits (head.Whole of) a i = (refl, i)
plain_fits (head.Alone of) a i = tt
plain_fits (head.Template n) a i = (refl, tt)
plain_fits (head.MessagePrint e) a i = (refl, tt)
plain_fits (head.Let n) a i = map_fits (head.Let n) (λ kind. says.Opens (opening.Let n kind))
    (λ kind. (refl, tt)) a.kind
plain_fits (head.Param n) a i =
    map_fits (head.Param n) (λ kind. says.Opens (opening.Param n kind)) (λ kind. (refl, tt)) a.kind
plain_fits (head.Call n) a i = (refl, tt)
plain_fits head.Message a i =
    map_fits head.Message (λ desc. says.Opens (opening.Message desc (unwrap_or a.meaning []))) (λ desc. (refl, tt))
    a.desc
plain_fits head.Fallback a i =
    map_fits head.Fallback (λ desc. says.GoesOn (middle.Fallback desc (unwrap_or a.meaning []))) (λ desc. (refl, tt))
    a.desc
plain_fits (head.Plural e) a i = (refl, tt)

slash_fits : (h : Head) (a : Attributes) → Fits h (slash_form h a)
slash_fits (head.Alone of) a = (refl, tt)
slash_fits (head.Call n) a = (refl, tt)
slash_fits _ a = tt

form_fits : (h : Head) (a : Attributes) (m : CommandTerminal) → IsHead h → Fits h (form_at h a m)
form_fits h a terminal.End i = plain_fits h a i
form_fits h a terminal.SlashEnd i = slash_fits h a
form_fits h a _ i = tt

pub said_fits : (h : Head) (a : Attributes) (m : CommandTerminal) (of : CommandForm) → IsHead h
    → form_at h a m ≡ Some of →
    (form_kind of ≡ head_kind h) × admit.HasHead of
said_fits h a m of i e = subst (Fits h) e (form_fits h a m i)

-- a head says no text

pub bare_is_head : (m : CommandTerminal) → IfHead (bare_head m)
bare_is_head (terminal.Word word.Space) = tt
bare_is_head (terminal.Word word.Nil) = tt
bare_is_head (terminal.Word word.LeftBrace) = tt
bare_is_head (terminal.Word word.RightBrace) = tt
bare_is_head (terminal.Word word.NoBreakSpace) = tt
bare_is_head (terminal.Word word.Else) = tt
bare_is_head (terminal.Word word.Default) = tt
bare_is_head (terminal.Word word.Msg) = tt
bare_is_head (terminal.Word word.FallbackMsg) = tt
bare_is_head terminal.LineFeed = tt
bare_is_head terminal.CarriageReturn = tt
bare_is_head terminal.Tab = tt
bare_is_head (terminal.Close name.Other) = tt
bare_is_head (terminal.Close n) = tt
bare_is_head _ = tt

expr_is_head : (m : CommandTerminal) (e : Expr) → IfHead (expr_head m e)
expr_is_head (terminal.Word word.Print) e = tt
expr_is_head (terminal.Word word.If) e = tt
expr_is_head (terminal.Word word.ElseIf) e = tt
expr_is_head (terminal.Word word.Switch) e = tt
expr_is_head (terminal.Word word.Plural) e = tt
expr_is_head (terminal.Word word.Select) e = tt
expr_is_head _ e = tt

pub spelled_is_head : (ts : List Token) (ds : List ℕ) (ws : List Bool) (h : Head) → SpellsHead ts ds ws h → IsHead h
spelled_is_head _ _ _ _ (SpellsHead.bare_ t h e) = subst IfHead e (bare_is_head (command_terminal_of t))
spelled_is_head _ _ _ _ (SpellsHead.expression_ t ts ds x h p e) =
    subst IfHead e (expr_is_head (command_terminal_of t) x.expr)
spelled_is_head _ _ _ _ (SpellsHead.printed_ ts ds x p) = tt
spelled_is_head _ _ _ _ (SpellsHead.message_printed_ ts ds x p) = tt
spelled_is_head _ _ _ _ (SpellsHead.message_print_ t ts ds x ht p) = tt
spelled_is_head _ _ _ _ (SpellsHead.case_ t ts ds values ht p) = tt
spelled_is_head _ _ _ _ (SpellsHead.plural_case_ t ts values ht p) = tt
spelled_is_head _ _ _ _ (SpellsHead.select_case_ t ts values ht p) = tt
spelled_is_head _ _ _ _ (SpellsHead.for_ t i ts us ds n index x ht v hi p) = tt
spelled_is_head _ _ _ _ (SpellsHead.let_ t v colon ts ds x ht hv hc p) = tt
spelled_is_head _ _ _ _ (SpellsHead.let_block_ t v ht hv) = tt
spelled_is_head _ _ _ _ (SpellsHead.call_ t ts us n ht d p) = tt
spelled_is_head _ _ _ _ (SpellsHead.param_ t n colon w ts ds x ht hn hc p) = tt
spelled_is_head _ _ _ _ (SpellsHead.param_block_ t n w ht hn) = tt
spelled_is_head _ _ _ _ (SpellsHead.namespace_ t ts n ht p) = tt
spelled_is_head _ _ _ _ (SpellsHead.template_ t n w ts ht d hn) = tt
spelled_is_head _ _ _ _ (SpellsHead.template_param_ sign t n colon w ts us ds ws required x hs ht q hn hc p) = tt

-- **A command with a step is read.**
pub command_leads : (ts : List Token) (ds : List ℕ) (ws : List Bool) (c : Command) → SpellsCommand ts ds ws c →
    (s m : CommandState) → command_step s c ≡ Some m → Leads (length s.blocks) (between s) ts ds ws (between m)
command_leads _ _ _ _ (SpellsCommand.text_ t h) s m e =
    step_leads (length s.blocks) 0 false (between s) t (between m) (ap (between_step s t) h ∙ ap taken e) refl refl
command_leads _ _ _ _ (SpellsCommand.command_ b z ts us ds ws h a of hb p q hz) s m e =
    let fits = said_fits h a (command_terminal_of z) of (spelled_is_head ts ds ws h p) hz in
    let ok = subst (λ k. admits s k ≡ true) fits.0
    (step_admits s.content s.blocks of (joined b.span z.span) m fits.1 e) in
    let g = head_leads s b.span ts ds ws h p ok in
    let k = attributes_lead s b.span h g.to g.has us a q in
    let first = step_leads (length s.blocks) 0 false (between s) b (opened s b.span) (ap (between_step s b) hb) refl
    refl in
    let last = step_leads (length s.blocks) 0 false k.to z (between m) (end_step s m b.span h a k.to z of k.has hz e)
    (ap (λ (c : CommandState). length c.blocks + 0) k.has.commands_are) refl in
    then_leads {ts = b ∷ []} {ds = 0 ∷ []} {ws = false ∷ []} first
    (then_leads g.leads (none_then {us = z ∷ []} k.leads last))

-- inside no block
inside_none : (ds : List ℕ) → inside_blocks 0 ds ≡ ds
inside_none [] = refl
inside_none (d ∷ ds) =
    let e : 0 + d ≡ d = omega arith in ap (λ k. k ∷ inside_blocks 0 ds) e ∙ ap (λ l. d ∷ l) (inside_none ds)

inside_leads : {n : ℕ} {a b : FileState} {ts : List Token} {ds : List ℕ} {ws : List Bool} (level : ℕ) → n ≡ level →
    Leads n a ts ds ws b → Leads 0 a ts (inside_blocks level ds) ws b
inside_leads {n} {a} {b} {ts} {ds} {ws} level e p = record {
  runs = p.runs;
  deep = p.deep ∙ (ap (λ k. inside_blocks k ds) e ∙ sym (inside_none (inside_blocks level ds)));
  words = p.words;
}

abbrev first_of : List ℕ → ℕ
first_of [] = 0
first_of (l ∷ ls) = l

abbrev rest_of : List ℕ → List ℕ
rest_of [] = []
rest_of (l ∷ ls) = ls

-- **So are commands that are read one after the other.**
pub commands_lead : (ts : List Token) (ds : List ℕ) (ws : List Bool) (cs : List Command) (ls : List ℕ) →
    SpellsCommands ts ds ws cs ls → (s m : CommandState) → command_run cs s ≡ Some m → command_levels cs s ≡ ls →
    Leads 0 (between s) ts ds ws (between m)
commands_lead _ _ _ _ _ SpellsCommands.none_ s m e long =
    subst (λ k. Leads 0 (between s) [] [] [] (between k)) (same e) (none_leads 0 (between s))
  where
    unwrap : Option CommandState → CommandState
    unwrap None = s
    unwrap (Some k) = k

    same : Some s ≡ Some m → s ≡ m
    same q = ap unwrap q
commands_lead _ _ _ _ _ (SpellsCommands.more_ ts us ds es ws vs c cs level levels p q) s m e long =
    over (command_step s c) refl e (ap rest_of long) (λ k. commands_lead us es vs cs levels q k m)
  where
    over : (to : Option CommandState) → command_step s c ≡ to → commands_from (command_run cs) to ≡ Some m →
        levels_from (command_levels cs) to ≡ levels →
        ((k : CommandState) → command_run cs k ≡ Some m → command_levels cs k ≡ levels →
        Leads 0 (between k) us es vs (between m)) →
        Leads 0 (between s) (ts ++ us) (inside_blocks level ds ++ es) (ws ++ vs) (between m)
    over None h r l inside_ = absurd (cc r)
    over (Some k) h r l inside_ =
        then_leads (inside_leads level (ap first_of long) (command_leads ts ds ws c p s k h)) (inside_ k r l)

-- **A file is read to its tree.**
pub record ReadFile (ts : List Token) (ds : List ℕ) (ws : List Bool) (tree : Tree) : Type 0 where
  pub state : FileState
  pub runs : file_run ts file_start ≡ Some state
  pub depths_are : ds ≡ file_depths ts file_start
  pub words_are : ws ≡ file_words ts file_start
  pub finishes : whole_file state ≡ Some tree

pub file_leads : (ts : List Token) (ds : List ℕ) (ws : List Bool) (tree : Tree) → SpellsFile ts ds ws tree →
    ReadFile ts ds ws tree
file_leads ts ds ws tree f =
    let g = tree_goes f.commands f.levels tree f.are in
    let to = at [] (content.Templates tree.namespace tree.templates) in
    let p = commands_lead ts ds ws f.commands f.levels f.spell command_start to g.runs (g.deep ∙ inside_none f.levels)
    in
    record {
      state = between to;
      runs = p.runs;
      depths_are = sym (p.deep ∙ inside_none ds);
      words_are = sym p.words;
      finishes = refl;
    }
