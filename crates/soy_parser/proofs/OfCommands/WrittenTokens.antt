-- Tokens for the commands that close what is open; and the commands that tokens spell, whatever the blocks around them.
use Rattle.std.proofs.Common.{◌≡◌, ℕ, suc, Bool, false, List, [], ◌∷◌, ◌++◌, length, Option, Some, None}
use Rattle.std.proofs.Common.{refl, sym, ◌∙◌, ap, subst, arith, append_assoc, append-nil}
use Rattle.std.specs.Prelude.{codes}
use Rattle.soy_lexer.specs.declared.token.Token.{Token}
use Rattle.soy_lexer.specs.declared.token.TokenKind.{TokenKind}
use Rattle.soy_lexer.specs.declared.token.TokenKind.TheVariants as token_kind
use Rattle.soy_tree.specs.declared.tree.Tree.{Tree}
use Rattle.soy_parser.specs.declared.block.CommandState.{CommandState}
use Rattle.soy_parser.specs.declared.command.Command.{Command}
use Rattle.soy_parser.specs.declared.command.Middle.TheVariants as middle
use Rattle.soy_parser.specs.declared.command.CommandForm.{CommandForm}
use Rattle.soy_parser.specs.declared.command.CommandForm.TheVariants as says
use Rattle.soy_parser.specs.declared.head.Head.TheVariants as head
use Rattle.soy_parser.specs.declared.terminal.BlockName.{BlockName}
use Rattle.soy_parser.specs.declared.terminal.BlockName.TheVariants as name
use Rattle.soy_parser.specs.declared.terminal.CommandTerminal.TheVariants as terminal
use Rattle.soy_parser.specs.declared.terminal.CommandWord.TheVariants as word
use Rattle.soy_parser.proofs.OfCommands.CommandLevels.{command_levels, levels_from}
use Rattle.soy_parser.specs.CommandSteps.{command_step, commands_from, command_run, command_start}
use Rattle.soy_parser.specs.CommandTerminals.{command_terminal_of}
use Rattle.soy_parser.specs.Depth.{inside_blocks}
use Rattle.soy_parser.specs.Heads.{no_attributes, SpellsAttributes}
use Rattle.soy_parser.specs.SpellsCommand.{SpellsCommand, SpellsCommands}
use Rattle.soy_parser.specs.SpellsFile.{SpellsFile}
use Rattle.soy_parser.specs.SpellsHead.{SpellsHead, SpellsDotted, bare_head}
use Rattle.soy_parser.specs.SpellsTree.{SpellsTree}
use Rattle.soy_parser.proofs.OfCommands.CommandsComplete.{tree_goes}
use Rattle.soy_parser.proofs.OfCommands.CommandsEnd.{no_span, written, IsBlock, IsWritten, AllWritten}

abbrev pub token : TokenKind → List ℕ → Token
token k text = record { kind = k; span = no_span; text = text }

abbrev pub begin_token : Token
begin_token = token token_kind.Begin (codes "{")

abbrev pub end_token : Token
end_token = token token_kind.End (codes "}")

abbrev pub word_token : List ℕ → Token
word_token text = token token_kind.Word text

abbrev pub symbol_token : List ℕ → Token
symbol_token text = token token_kind.Symbol text

-- it is spelled by tokens
pub record SpelledCommand (c : Command) : Type 0 where
  pub tokens : List Token
  pub depths : List ℕ
  pub words : List Bool
  pub spells : SpellsCommand tokens depths words c

abbrev closing_text : BlockName → List ℕ
closing_text name.Template = codes "template"
closing_text name.If = codes "if"
closing_text name.Switch = codes "switch"
closing_text name.For = codes "for"
closing_text name.Let = codes "let"
closing_text name.Call = codes "call"
closing_text name.Param = codes "param"
closing_text name.Msg = codes "msg"
closing_text name.Plural = codes "plural"
closing_text name.Select = codes "select"
closing_text name.Other = []

abbrev pub closing_token : BlockName → Token
closing_token n = token token_kind.BeginClose (closing_text n)

pub closing_is : (n : BlockName) → IsBlock n →
    bare_head (command_terminal_of (closing_token n)) ≡ Some (head.Whole (says.Closes n))
unfolding lib.Utf8.encode
closing_is name.Template i = refl
closing_is name.If i = refl
closing_is name.Switch i = refl
closing_is name.For i = refl
closing_is name.Let i = refl
closing_is name.Call i = refl
closing_is name.Param i = refl
closing_is name.Msg i = refl
closing_is name.Plural i = refl
closing_is name.Select i = refl
closing_is name.Other i = absurd i

pub default_is : bare_head (command_terminal_of (word_token (codes "default")))
    ≡ Some (head.Whole (says.GoesOn middle.Default))
unfolding lib.Utf8.encode
default_is = refl

pub namespace_is : command_terminal_of (word_token (codes "namespace")) ≡ terminal.Word word.Namespace
unfolding lib.Utf8.encode
namespace_is = refl

spelled_end : (of : CommandForm) (ts : List Token) (ds : List ℕ) (ws : List Bool)
    → SpellsHead ts ds ws (head.Whole of) →
    SpelledCommand (written of)
spelled_end of ts ds ws p = record {
  tokens = begin_token ∷ (ts ++ (end_token ∷ []));
  depths = 0 ∷ (ds ++ (0 ∷ []));
  words = false ∷ (ws ++ (false ∷ []));
  spells = SpellsCommand.command_ begin_token end_token ts [] ds ws (head.Whole of) no_attributes of refl p
      (SpellsAttributes.none_ (head.Whole of)) refl;
}

pub written_spelled : (of : CommandForm) → IsWritten of → SpelledCommand (written of)
written_spelled _ (IsWritten.text_ text) = record {
  tokens = token token_kind.Text text ∷ [];
  depths = 0 ∷ [];
  words = false ∷ [];
  spells = SpellsCommand.text_ (token token_kind.Text text) refl;
}
written_spelled _ IsWritten.default_ =
    spelled_end _ _ _ _ (SpellsHead.bare_ (word_token (codes "default")) _ default_is)
written_spelled _ (IsWritten.closes_ n i) = spelled_end _ _ _ _ (SpellsHead.bare_ (closing_token n) _ (closing_is n i))
written_spelled _ IsWritten.namespace_ =
    spelled_end _ _ _ _
    (SpellsHead.namespace_ (word_token (codes "namespace")) (word_token (codes "x") ∷ []) (codes "x") namespace_is
    (SpellsDotted.one_ (word_token (codes "x")) _ refl))

-- the commands that tokens spell
pub data Speaks : List Token → List Command → Type 0 where
  none_ : Speaks [] []
  more_ : (ts us : List Token) (ds : List ℕ) (ws : List Bool) (c : Command) (cs : List Command)
      → SpellsCommand ts ds ws c
      → Speaks us cs → Speaks (ts ++ us) (c ∷ cs)

pub speaks_append : (ts us : List Token) (cs ds : List Command) → Speaks ts cs → Speaks us ds
    → Speaks (ts ++ us) (cs ++ ds)
speaks_append _ us _ ds Speaks.none_ q = q
speaks_append _ us _ ds (Speaks.more_ vs ts es ws c cs p r) q =
    subst (λ l. Speaks l (c ∷ (cs ++ ds))) (sym (append_assoc vs ts us))
    (Speaks.more_ vs (ts ++ us) es ws c (cs ++ ds) p (speaks_append ts us cs ds r q))

pub speaks_one : (ts : List Token) (ds : List ℕ) (ws : List Bool) (c : Command) → SpellsCommand ts ds ws c →
    Speaks ts (c ∷ [])
speaks_one ts ds ws c p = subst (λ l. Speaks l (c ∷ [])) (append-nil ts) (Speaks.more_ ts [] ds ws c [] p Speaks.none_)

pub record Spoken (cs : List Command) : Type 0 where
  pub tokens : List Token
  pub speaks : Speaks tokens cs

pub all_spoken : (cs : List Command) → AllWritten cs → Spoken cs
all_spoken _ AllWritten.none_ = record { tokens = []; speaks = Speaks.none_ }
all_spoken _ (AllWritten.more_ of cs w all) =
    let p = written_spelled of w in
    let q = all_spoken cs all in
    record {
      tokens = p.tokens ++ q.tokens;
      speaks = Speaks.more_ p.tokens q.tokens p.depths p.words (written of) cs p.spells q.speaks;
    }

-- with the blocks around each of the commands
record WithLevels (ts : List Token) (cs : List Command) (ls : List ℕ) : Type 0 where
  pub depths : List ℕ
  pub words : List Bool
  pub spell : SpellsCommands ts depths words cs ls

with_levels : (ts : List Token) (cs : List Command) → Speaks ts cs → (ls : List ℕ) → length ls ≡ length cs →
    WithLevels ts cs ls
with_levels _ _ Speaks.none_ [] e = record { depths = []; words = []; spell = SpellsCommands.none_ }
with_levels _ _ Speaks.none_ (l ∷ ls) e = absurd (cc e)
with_levels _ _ (Speaks.more_ ts us ds ws c cs p q) [] e = absurd (cc e)
with_levels _ _ (Speaks.more_ ts us ds ws c cs p q) (l ∷ ls) e =
    let r = with_levels us cs q ls (omega (arith, e)) in
    record {
      depths = inside_blocks l ds ++ r.depths;
      words = ws ++ r.words;
      spell = SpellsCommands.more_ ts us ds r.depths ws r.words c cs l ls p r.spell;
    }

levels_length : (cs : List Command) (s m : CommandState) → command_run cs s ≡ Some m →
    length (command_levels cs s) ≡ length cs
levels_length [] s m e = refl
levels_length (c ∷ cs) s m e = ap (λ n. suc n) (over (command_step s c) e (λ k. levels_length cs k m))
  where
    over : (to : Option CommandState) → commands_from (command_run cs) to ≡ Some m →
        ((k : CommandState) → command_run cs k ≡ Some m → length (command_levels cs k) ≡ length cs) →
        length (levels_from (command_levels cs) to) ≡ length cs
    over None q inside_ = absurd (cc q)
    over (Some k) q inside_ = inside_ k q

inside_length : (n : ℕ) (ls : List ℕ) → length (inside_blocks n ls) ≡ length ls
inside_length n [] = refl
inside_length n (l ∷ ls) = ap (λ k. suc k) (inside_length n ls)

-- commands that are a file, as tokens
pub record SpelledFile (ts : List Token) (tree : Tree) : Type 0 where
  pub depths : List ℕ
  pub words : List Bool
  pub spells : SpellsFile ts depths words tree

pub file_spelled : (ts : List Token) (cs : List Command) (ls : List ℕ) (tree : Tree) → Speaks ts cs
    → SpellsTree cs ls tree →
    SpelledFile ts tree
file_spelled ts cs ls tree p t =
    let g = tree_goes cs ls tree t in
    let long = sym (inside_length 0 ls) ∙ (ap length (sym g.deep) ∙ levels_length cs command_start _ g.runs) in
    let r = with_levels ts cs p ls long in
    record {
      depths = r.depths;
      words = r.words;
      spells = record { commands = cs; levels = ls; spell = r.spell; are = t };
    }
