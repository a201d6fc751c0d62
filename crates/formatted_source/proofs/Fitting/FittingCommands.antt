-- The commands of a text fit the limit on depth as they are written: so does each of their expressions and types, inside
-- the blocks around the command.
use Rattle.std.proofs.Common.{ℕ, ◌≤◌, Bool, List, [], ◌∷◌, ◌++◌, Option, Some, None, subst, arith}
use Rattle.std.specs.Prelude.{option_map, unwrap_or}
use Rattle.soy_lexer.specs.declared.token.Token.{Token}
use Rattle.soy_tree.specs.ViewExpressions.{view_expr, view_exprs}
use Rattle.soy_tree.specs.ViewTypes.{view_type}
use Rattle.soy_tree.specs.declared.expr.Expr.{Expr}
use Rattle.expr_parser.specs.Depths.{AreWithin}
use Rattle.expr_parser.specs.ParsesType.{NameTypes}
use Rattle.soy_parser.specs.declared.attributes.Attributes.{Attributes}
use Rattle.soy_parser.specs.declared.command.Command.{Command}
use Rattle.soy_parser.specs.declared.command.CommandForm.{CommandForm}
use Rattle.soy_parser.specs.declared.command.CommandForm.TheVariants as says
use Rattle.soy_parser.specs.declared.command.Middle.{Middle}
use Rattle.soy_parser.specs.declared.command.Middle.TheVariants as middle
use Rattle.soy_parser.specs.declared.command.Opening.{Opening}
use Rattle.soy_parser.specs.declared.command.Opening.TheVariants as opening
use Rattle.soy_parser.specs.declared.command.Single.{Single}
use Rattle.soy_parser.specs.declared.command.Single.TheVariants as single
use Rattle.soy_parser.specs.declared.head.Head.{Head}
use Rattle.soy_parser.specs.declared.head.Head.TheVariants as head
use Rattle.soy_parser.specs.declared.terminal.BlockName.TheVariants as block
use Rattle.soy_parser.specs.declared.terminal.CommandTerminal.{CommandTerminal}
use Rattle.soy_parser.specs.declared.terminal.CommandTerminal.TheVariants as terminal
use Rattle.soy_parser.specs.declared.terminal.CommandWord.TheVariants as word
use Rattle.soy_parser.specs.CommandTerminals.{command_terminal_of}
use Rattle.soy_parser.specs.Depth.{inside_blocks, none_deep}
use Rattle.soy_parser.specs.Heads.{form_at, plain_form, slash_form}
use Rattle.soy_parser.specs.SpellsCommand.{SpellsCommand, SpellsCommands}
use Rattle.soy_parser.specs.SpellsHead.{SpellsHead, SpellsValues, bare_head, expr_head}
use Rattle.formatted_source.proofs.CommandWords.{command_words, head_names, type_names}
use Rattle.formatted_source.proofs.Fitting.FittingTrees.{ExprFits, ValuesFit}
use Rattle.formatted_source.proofs.Fitting.FittingTypes.{TypeFits, type_fits}
use Rattle.formatted_source.proofs.ReadParts.{written_within}
use Rattle.formatted_source.proofs.TypesSpelled.{names_before}

abbrev pub SingleFits : ℕ → Single → Type 0
SingleFits blocks (single.Print e) = ExprFits blocks (view_expr e)
SingleFits blocks (single.MessagePrint e phname) = ExprFits blocks (view_expr e)
SingleFits blocks (single.Let n e) = ExprFits blocks (view_expr e)
SingleFits blocks (single.Call n all) = Unit {0}
SingleFits blocks (single.Param n e) = ExprFits blocks (view_expr e)

abbrev pub OpeningFits : ℕ → Opening → Type 0
OpeningFits blocks (opening.If e) = ExprFits blocks (view_expr e)
OpeningFits blocks (opening.Switch e) = ExprFits blocks (view_expr e)
OpeningFits blocks (opening.For n index e) = ExprFits blocks (view_expr e)
OpeningFits blocks (opening.Plural e offset) = ExprFits blocks (view_expr e)
OpeningFits blocks (opening.Select e) = ExprFits blocks (view_expr e)
OpeningFits blocks _ = Unit {0}

abbrev pub MiddleFits : ℕ → Middle → Type 0
MiddleFits blocks (middle.ElseIf e) = ExprFits blocks (view_expr e)
MiddleFits blocks (middle.Case values) = ValuesFit blocks (view_exprs values)
MiddleFits blocks _ = Unit {0}

-- what a command says fits
abbrev pub FormFits : ℕ → CommandForm → Type 0
FormFits blocks (says.Single of) = SingleFits blocks of
FormFits blocks (says.Opens of) = OpeningFits blocks of
FormFits blocks (says.GoesOn m) = MiddleFits blocks m
FormFits blocks (says.TemplateParam name required of) = TypeFits blocks (view_type of)
FormFits blocks _ = Unit {0}

abbrev HeadFits : ℕ → Head → Type 0
HeadFits blocks (head.Whole of) = FormFits blocks of
HeadFits blocks (head.Alone of) = SingleFits blocks of
HeadFits blocks (head.MessagePrint e) = ExprFits blocks (view_expr e)
HeadFits blocks (head.Plural e) = ExprFits blocks (view_expr e)
HeadFits blocks _ = Unit {0}

abbrev HeadFitsIf : ℕ → Option Head → Type 0
HeadFitsIf blocks None = Unit {0}
HeadFitsIf blocks (Some h) = HeadFits blocks h

-- parts of depths
within_left : (blocks : ℕ) (ds es : List ℕ) → AreWithin blocks (ds ++ es) → AreWithin blocks ds
within_left blocks [] es w = tt
within_left blocks (d ∷ ds) es w = (w.0, within_left blocks ds es w.1)

within_right : (blocks : ℕ) (ds es : List ℕ) → AreWithin blocks (ds ++ es) → AreWithin blocks es
within_right blocks [] es w = w
within_right blocks (d ∷ ds) es w = within_right blocks ds es w.1

out_of_blocks : (level : ℕ) (ds : List ℕ) → AreWithin 0 (inside_blocks level ds) → AreWithin level ds
out_of_blocks level [] w = tt
out_of_blocks level (d ∷ ds) w = (omega (arith, w.0), out_of_blocks level ds w.1)

bare_fits : (blocks : ℕ) (m : CommandTerminal) → HeadFitsIf blocks (bare_head m)
bare_fits blocks (terminal.Word word.Space) = tt
bare_fits blocks (terminal.Word word.Nil) = tt
bare_fits blocks (terminal.Word word.LeftBrace) = tt
bare_fits blocks (terminal.Word word.RightBrace) = tt
bare_fits blocks (terminal.Word word.NoBreakSpace) = tt
bare_fits blocks (terminal.Word word.Else) = tt
bare_fits blocks (terminal.Word word.Default) = tt
bare_fits blocks (terminal.Word word.Msg) = tt
bare_fits blocks (terminal.Word word.FallbackMsg) = tt
bare_fits blocks (terminal.Word _) = tt
bare_fits blocks (terminal.Close block.Other) = tt
bare_fits blocks (terminal.Close _) = tt
bare_fits blocks _ = tt

expr_fits : (blocks : ℕ) (m : CommandTerminal) (e : Expr) → ExprFits blocks (view_expr e)
    → HeadFitsIf blocks (expr_head m e)
expr_fits blocks (terminal.Word word.Print) e f = f
expr_fits blocks (terminal.Word word.If) e f = f
expr_fits blocks (terminal.Word word.ElseIf) e f = f
expr_fits blocks (terminal.Word word.Switch) e f = f
expr_fits blocks (terminal.Word word.Plural) e f = f
expr_fits blocks (terminal.Word word.Select) e f = f
expr_fits blocks (terminal.Word _) e f = tt
expr_fits blocks _ e f = tt

values_more : (blocks : ℕ) (values : List Expr) (e : Expr) → ValuesFit blocks (view_exprs values)
    → ExprFits blocks (view_expr e) → ValuesFit blocks (view_exprs (values ++ (e ∷ [])))
values_more blocks [] e h f = (f, tt)
values_more blocks (v ∷ values) e h f = (h.0, values_more blocks values e h.1 f)

values_fit : (blocks : ℕ) (ts : List Token) (ds : List ℕ) (values : List Expr) → AreWithin blocks ds
    → SpellsValues ts ds values → ValuesFit blocks (view_exprs values)
values_fit blocks _ _ _ w (SpellsValues.one_ ts ds x s) = (written_within blocks ts ds x s w, tt)
values_fit blocks _ _ _ w (SpellsValues.more_ ts us ds es values comma x s c r) =
    values_more blocks values x.expr (values_fit blocks ts ds values (within_left blocks ds (0 ∷ es) w) s)
    (written_within blocks us es x r (within_right blocks ds (0 ∷ es) w).1)

head_fits : (blocks : ℕ) (ts : List Token) (ds : List ℕ) (ws : List Bool) (h : Head) → AreWithin blocks ds
    → NameTypes ts ws [] → SpellsHead ts ds ws h → HeadFits blocks h
head_fits blocks _ _ _ _ w n (SpellsHead.bare_ t h e) =
    subst (HeadFitsIf blocks) e (bare_fits blocks (command_terminal_of t))
head_fits blocks _ _ _ _ w n (SpellsHead.printed_ ts ds x s) = written_within blocks ts ds x s w
head_fits blocks _ _ _ _ w n (SpellsHead.message_printed_ ts ds x s) = written_within blocks ts ds x s w
head_fits blocks _ _ _ _ w n (SpellsHead.message_print_ t ts ds x e s) = written_within blocks ts ds x s w.1
head_fits blocks _ _ _ _ w n (SpellsHead.expression_ t ts ds x h s e) =
    subst (HeadFitsIf blocks) e (expr_fits blocks (command_terminal_of t) x.expr (written_within blocks ts ds x s w.1))
head_fits blocks _ _ _ _ w n (SpellsHead.case_ t ts ds values e s) = values_fit blocks ts ds values w.1 s
head_fits blocks _ _ _ _ w n (SpellsHead.plural_case_ t ts values e s) = tt
head_fits blocks _ _ _ _ w n (SpellsHead.select_case_ t ts values e s) = tt
head_fits blocks _ _ _ _ w n (SpellsHead.for_ t i ts us ds name index x e v k s) =
    written_within blocks us ds x s (within_right blocks (none_deep (t ∷ ts)) (0 ∷ ds) w).1
head_fits blocks _ _ _ _ w n (SpellsHead.let_ t v colon ts ds x e k c s) = written_within blocks ts ds x s w.1.1.1
head_fits blocks _ _ _ _ w n (SpellsHead.let_block_ t v e k) = tt
head_fits blocks _ _ _ _ w n (SpellsHead.call_ t ts us name e d s) = tt
head_fits blocks _ _ _ _ w n (SpellsHead.param_ t name colon o ts ds x e k c s) =
    written_within blocks ts ds x s w.1.1.1
head_fits blocks _ _ _ _ w n (SpellsHead.param_block_ t name o e k) = tt
head_fits blocks _ _ _ _ w n (SpellsHead.namespace_ t ts name e s) = tt
head_fits blocks _ _ _ _ w n (SpellsHead.template_ t name o ts e d k) = tt
head_fits blocks _ _ _ _ w n (SpellsHead.template_param_ sign t name colon o ts us ds ws required x a e q k c s) =
    type_fits blocks us ds ws x (within_right blocks (none_deep (sign ∷ (t ∷ ts))) (0 ∷ (0 ∷ ds)) w).1.1
    (type_names sign t name colon ts us ws n) s

abbrev FormFitsIf : ℕ → Option CommandForm → Type 0
FormFitsIf blocks None = Unit {0}
FormFitsIf blocks (Some of) = FormFits blocks of

made_fits : {A : Type 0} (blocks : ℕ) (make : A → CommandForm) (o : Option A) → ((a : A) → FormFits blocks (make a))
    → FormFitsIf blocks (option_map make o)
made_fits blocks make None f = tt
made_fits blocks make (Some a) f = f a

plain_fits : (blocks : ℕ) (h : Head) (a : Attributes) → HeadFits blocks h → FormFitsIf blocks (plain_form h a)
plain_fits blocks (head.Whole of) a f = f
plain_fits blocks (head.Alone of) a f = tt
plain_fits blocks (head.Template n) a f = tt
plain_fits blocks (head.MessagePrint e) a f = f
plain_fits blocks (head.Let n) a f = made_fits blocks (λ k. says.Opens (opening.Let n k)) a.kind (λ k. tt)
plain_fits blocks (head.Param n) a f = made_fits blocks (λ k. says.Opens (opening.Param n k)) a.kind (λ k. tt)
plain_fits blocks (head.Call n) a f = tt
plain_fits blocks head.Message a f =
    made_fits blocks (λ desc. says.Opens (opening.Message desc (unwrap_or a.meaning []))) a.desc (λ d. tt)
plain_fits blocks head.Fallback a f =
    made_fits blocks (λ desc. says.GoesOn (middle.Fallback desc (unwrap_or a.meaning []))) a.desc (λ d. tt)
plain_fits blocks (head.Plural e) a f = f

slash_fits : (blocks : ℕ) (h : Head) (a : Attributes) → HeadFits blocks h → FormFitsIf blocks (slash_form h a)
slash_fits blocks (head.Alone of) a f = f
slash_fits blocks (head.Call n) a f = tt
slash_fits blocks (head.Whole of) a f = tt
slash_fits blocks (head.Template n) a f = tt
slash_fits blocks (head.MessagePrint e) a f = tt
slash_fits blocks (head.Let n) a f = tt
slash_fits blocks (head.Param n) a f = tt
slash_fits blocks head.Message a f = tt
slash_fits blocks head.Fallback a f = tt
slash_fits blocks (head.Plural e) a f = tt

said_fits : (blocks : ℕ) (h : Head) (a : Attributes) (m : CommandTerminal) → HeadFits blocks h
    → FormFitsIf blocks (form_at h a m)
said_fits blocks h a terminal.End f = plain_fits blocks h a f
said_fits blocks h a terminal.SlashEnd f = slash_fits blocks h a f
said_fits blocks h a _ f = tt

-- a command that stands inside so many blocks
pub record CommandFits (blocks : ℕ) (of : CommandForm) : Type 0 where
  pub level : blocks ≤ 64
  pub form : FormFits blocks of

command_fits : (blocks : ℕ) (ts rest : List Token) (ds : List ℕ) (ws : List Bool) (c : Command) → AreWithin blocks ds
    → NameTypes ts ws rest → SpellsCommand ts ds ws c → CommandFits blocks c.form
command_fits blocks _ rest _ _ _ w n (SpellsCommand.text_ t e) = record { level = omega (arith, w.0); form = tt }
command_fits blocks _ rest _ _ _ w n (SpellsCommand.command_ opening_ close ts us ds ws h a of e s b i) = record {
  level = omega (arith, w.0);
  form = subst (FormFitsIf blocks) i (said_fits blocks h a (command_terminal_of close)
      (head_fits blocks ts ds ws h (within_left blocks ds (none_deep (us ++ (close ∷ []))) w.1)
      (head_names opening_ close ts us rest ds ws h a of s b i n) s));
}

-- **The commands of a text fit, each inside the blocks around it.**
abbrev pub AllFit : List Command → List ℕ → Type 0
AllFit [] [] = Unit {0}
AllFit [] (l ∷ ls) = ⊥
AllFit (c ∷ cs) [] = ⊥
AllFit (c ∷ cs) (l ∷ ls) = CommandFits l c.form × AllFit cs ls

pub commands_fit : (ts rest : List Token) (ds : List ℕ) (ws : List Bool) (cs : List Command) (ls : List ℕ)
    → AreWithin 0 ds → NameTypes ts ws rest → SpellsCommands ts ds ws cs ls → AllFit cs ls
commands_fit _ rest _ _ _ _ w n SpellsCommands.none_ = tt
commands_fit _ rest _ _ _ _ w n (SpellsCommands.more_ ts us ds es ws vs c cs level levels s r) =
    let parts = names_before ts us ws vs rest (command_words ts ds ws c s) n in (
      command_fits level ts (us ++ rest) ds ws c
          (out_of_blocks level ds (within_left 0 (inside_blocks level ds) es w)) parts.0 s,
      commands_fit us rest es vs cs levels (within_right 0 (inside_blocks level ds) es w) parts.1 r,
    )
