-- Which tokens are a command: a text, or a `{` with a head, attributes and an end; and which are a list of commands.
-- Example: `{if $x}a{/if}` is three commands, at the levels 0, 1 and 1.
use Rattle.std.specs.Prelude.{◌≡◌, ℕ, Bool, false, List, [], ◌∷◌, ◌++◌, Some}
use Rattle.soy_lexer.specs.declared.token.Token.{Token}
use Rattle.expr_parser.specs.Operands.{joined}
use Rattle.soy_parser.specs.declared.attributes.Attributes.{Attributes}
use Rattle.soy_parser.specs.declared.command.Command.{Command}
use Rattle.soy_parser.specs.declared.command.CommandForm.{CommandForm}
use Rattle.soy_parser.specs.declared.command.CommandForm.TheVariants as says
use Rattle.soy_parser.specs.declared.head.Head.{Head}
use Rattle.soy_parser.specs.declared.terminal.CommandTerminal.TheVariants as terminal
use Rattle.soy_parser.specs.CommandTerminals.{command_terminal_of}
use Rattle.soy_parser.specs.Depth.{none_deep, inside_blocks}
use Rattle.soy_parser.specs.TypeWords.{no_words}
use Rattle.soy_parser.specs.Heads.{SpellsAttributes, form_at}
use Rattle.soy_parser.specs.SpellsHead.{SpellsHead}

pub data SpellsCommand : List Token → List ℕ → List Bool → Command → Type 0 where
  text_ : (t : Token) → command_terminal_of t ≡ terminal.Text
      → SpellsCommand (t ∷ []) (0 ∷ []) (false ∷ []) (record { form = says.Text t.text; span = t.span })
  command_ : (opening close : Token) (ts us : List Token) (ds : List ℕ) (ws : List Bool) (h : Head) (a : Attributes)
      (of : CommandForm)
      → command_terminal_of opening ≡ terminal.Begin → SpellsHead ts ds ws h → SpellsAttributes h us a
      → form_at h a (command_terminal_of close) ≡ Some of
      → SpellsCommand (opening ∷ (ts ++ (us ++ (close ∷ []))))
      (0 ∷ (ds ++ none_deep (us ++ (close ∷ []))))
      (false ∷ (ws ++ no_words (us ++ (close ∷ []))))
      (record { form = of; span = joined opening.span close.span })

-- a list of commands, each with the number of block commands that are open around it
pub data SpellsCommands : List Token → List ℕ → List Bool → List Command → List ℕ → Type 0 where
  none_ : SpellsCommands [] [] [] [] []
  more_ : (ts us : List Token) (ds es : List ℕ) (ws vs : List Bool) (c : Command) (cs : List Command) (level : ℕ)
      (levels : List ℕ)
      → SpellsCommand ts ds ws c → SpellsCommands us es vs cs levels
      → SpellsCommands (ts ++ us) (inside_blocks level ds ++ es) (ws ++ vs) (c ∷ cs) (level ∷ levels)
