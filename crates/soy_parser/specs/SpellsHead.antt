-- Which tokens are the head of a command, after its `{` and before its attributes, and what it says: a case for each
-- row of the grammar, on whole lists of tokens.
-- `SpellsHead ts ds ws h`: the tokens ts spell the head h, the depths at them inside the open blocks are ds, and ws are
-- true at the words that stand as types.
-- Example: `for $x in $list` is a head with the depths 0, 0, 0 and 1.
use Rattle.std.specs.Prelude.{◌≡◌, ℕ, ℤ, pos, Bool, true, false, List, [], ◌∷◌, ◌++◌, Option, Some, None, codes}
use Rattle.soy_lexer.specs.CommandSegment.{number_after}
use Rattle.soy_lexer.specs.LongestToken.{is_int}
use Rattle.soy_lexer.specs.declared.token.Token.{Token}
use Rattle.soy_tree.specs.Formed.{is_case_word}
use Rattle.soy_tree.specs.declared.expr.Expr.{Expr}
use Rattle.expr_parser.specs.declared.operand.Operand.{Operand}
use Rattle.expr_parser.specs.declared.type_frame.TypeOperand.{TypeOperand}
use Rattle.expr_parser.specs.SpellsExpr.{SpellsExpr}
use Rattle.expr_parser.specs.SpellsType.{SpellsType}
use Rattle.soy_parser.specs.declared.command.Middle.TheVariants as middle
use Rattle.soy_parser.specs.declared.command.Opening.TheVariants as opening
use Rattle.soy_parser.specs.declared.command.Single.TheVariants as single
use Rattle.soy_parser.specs.declared.command.CommandForm.TheVariants as says
use Rattle.soy_parser.specs.declared.head.Head.{Head}
use Rattle.soy_parser.specs.declared.head.Head.TheVariants as head
use Rattle.soy_parser.specs.declared.terminal.BlockName.TheVariants as block
use Rattle.soy_parser.specs.declared.terminal.CommandTerminal.{CommandTerminal}
use Rattle.soy_parser.specs.declared.terminal.CommandTerminal.TheVariants as terminal
use Rattle.soy_parser.specs.declared.terminal.CommandWord.{CommandWord}
use Rattle.soy_parser.specs.declared.terminal.CommandWord.TheVariants as word
use Rattle.soy_parser.specs.CommandTerminals.{command_terminal_of}
use Rattle.soy_parser.specs.Depth.{none_deep}
use Rattle.soy_parser.specs.TypeWords.{no_words}
use Rattle.soy_base.specs.Characters.{no_break_space, carriage_return, full_stop}

-- a head of one token
abbrev pub bare_head : CommandTerminal → Option Head
bare_head (terminal.Word word.Space) = Some (head.Whole (says.Character (codes " ")))
bare_head (terminal.Word word.Nil) = Some (head.Whole (says.Character []))
bare_head (terminal.Word word.LeftBrace) = Some (head.Whole (says.Character (codes "{")))
bare_head (terminal.Word word.RightBrace) = Some (head.Whole (says.Character (codes "}")))
bare_head (terminal.Word word.NoBreakSpace) = Some (head.Whole (says.Character (no_break_space ∷ [])))
bare_head terminal.LineFeed = Some (head.Whole (says.Character (10 ∷ [])))
bare_head terminal.CarriageReturn = Some (head.Whole (says.Character (carriage_return ∷ [])))
bare_head terminal.Tab = Some (head.Whole (says.Character (9 ∷ [])))
bare_head (terminal.Word word.Else) = Some (head.Whole (says.GoesOn middle.Else))
bare_head (terminal.Word word.Default) = Some (head.Whole (says.GoesOn middle.Default))
bare_head (terminal.Word word.Msg) = Some head.Message
bare_head (terminal.Word word.FallbackMsg) = Some head.Fallback
bare_head (terminal.Close block.Other) = None
bare_head (terminal.Close name) = Some (head.Whole (says.Closes name))
bare_head _ = None

-- a head of a word and an expression
abbrev pub expr_head : CommandTerminal → Expr → Option Head
expr_head (terminal.Word word.Print) e = Some (head.Whole (says.Single (single.Print e)))
expr_head (terminal.Word word.If) e = Some (head.Whole (says.Opens (opening.If e)))
expr_head (terminal.Word word.ElseIf) e = Some (head.Whole (says.GoesOn (middle.ElseIf e)))
expr_head (terminal.Word word.Switch) e = Some (head.Whole (says.Opens (opening.Switch e)))
expr_head (terminal.Word word.Plural) e = Some (head.Plural e)
expr_head (terminal.Word word.Select) e = Some (head.Whole (says.Opens (opening.Select e)))
expr_head _ e = None

-- these tokens are names joined by `.`
pub data SpellsDotted : List Token → List ℕ → Type 0 where
  one_ : (name : Token) (w : CommandWord) → command_terminal_of name ≡ terminal.Word w
      → SpellsDotted (name ∷ []) name.text
  more_ : (ts : List Token) (text : List ℕ) (dot name : Token) (w : CommandWord) → SpellsDotted ts text
      → command_terminal_of dot ≡ terminal.Dot → command_terminal_of name ≡ terminal.Word w
      → SpellsDotted (ts ++ (dot ∷ (name ∷ []))) (text ++ (full_stop ∷ name.text))

-- the values of a case, joined by `,`

pub data SpellsValues : List Token → List ℕ → List Expr → Type 0 where
  one_ : (ts : List Token) (ds : List ℕ) (x : Operand) → SpellsExpr 9 ts ds x → SpellsValues ts ds (x.expr ∷ [])
  more_ : (ts us : List Token) (ds es : List ℕ) (values : List Expr) (comma : Token) (x : Operand)
      → SpellsValues ts ds values
      → command_terminal_of comma ≡ terminal.Comma → SpellsExpr 9 us es x
      → SpellsValues (ts ++ (comma ∷ us)) (ds ++ (0 ∷ es)) (values ++ (x.expr ∷ []))

pub data SpellsInts : List Token → List ℤ → Type 0 where
  one_ : (t : Token) → command_terminal_of t ≡ terminal.Int → is_int t.text ≡ true
      → SpellsInts (t ∷ []) (pos (number_after 0 t.text) ∷ [])
  more_ : (ts : List Token) (values : List ℤ) (comma t : Token) → SpellsInts ts values
      → command_terminal_of comma ≡ terminal.Comma → command_terminal_of t ≡ terminal.Int → is_int t.text ≡ true
      → SpellsInts (ts ++ (comma ∷ (t ∷ []))) (values ++ (pos (number_after 0 t.text) ∷ []))

pub data SpellsCaseWords : List Token → List (List ℕ) → Type 0 where
  one_ : (t : Token) → command_terminal_of t ≡ terminal.Str → is_case_word t.text ≡ true
      → SpellsCaseWords (t ∷ []) (t.text ∷ [])
  more_ : (ts : List Token) (values : List (List ℕ)) (comma t : Token) → SpellsCaseWords ts values
      → command_terminal_of comma ≡ terminal.Comma → command_terminal_of t ≡ terminal.Str → is_case_word t.text ≡ true
      → SpellsCaseWords (ts ++ (comma ∷ (t ∷ []))) (values ++ (t.text ∷ []))

-- a leading dot may stand before a name
pub data SpellsDot : List Token → Type 0 where
  without_ : SpellsDot []
  with_ : (t : Token) → command_terminal_of t ≡ terminal.Dot → SpellsDot (t ∷ [])

-- and a question mark after the word of a parameter that isn't required
pub data SpellsRequired : List Token → Bool → Type 0 where
  required_ : SpellsRequired [] true
  optional_ : (t : Token) → command_terminal_of t ≡ terminal.Question → SpellsRequired (t ∷ []) false

-- the variable of a loop, and that of its index
pub data SpellsVariables : List Token → List ℕ → Option (List ℕ) → Type 0 where
  one_ : (v : Token) → command_terminal_of v ≡ terminal.Variable → SpellsVariables (v ∷ []) v.text None
  two_ : (v comma i : Token) → command_terminal_of v ≡ terminal.Variable → command_terminal_of comma ≡ terminal.Comma
      → command_terminal_of i ≡ terminal.Variable → SpellsVariables (v ∷ (comma ∷ (i ∷ []))) v.text (Some i.text)

pub data SpellsHead : List Token → List ℕ → List Bool → Head → Type 0 where
  bare_ : (t : Token) (h : Head) → bare_head (command_terminal_of t) ≡ Some h
      → SpellsHead (t ∷ []) (0 ∷ []) (false ∷ []) h
  printed_ : (ts : List Token) (ds : List ℕ) (x : Operand) → SpellsExpr 9 ts ds x
      → SpellsHead ts ds (no_words ts) (head.Whole (says.Single (single.Print x.expr)))
  message_printed_ : (ts : List Token) (ds : List ℕ) (x : Operand) → SpellsExpr 9 ts ds x
      → SpellsHead ts ds (no_words ts) (head.MessagePrint x.expr)
  message_print_ : (t : Token) (ts : List Token) (ds : List ℕ) (x : Operand)
      → command_terminal_of t ≡ terminal.Word word.Print → SpellsExpr 9 ts ds x
      → SpellsHead (t ∷ ts) (0 ∷ ds) (false ∷ no_words ts) (head.MessagePrint x.expr)
  expression_ : (t : Token) (ts : List Token) (ds : List ℕ) (x : Operand) (h : Head)
      → SpellsExpr 9 ts ds x → expr_head (command_terminal_of t) x.expr ≡ Some h
      → SpellsHead (t ∷ ts) (0 ∷ ds) (false ∷ no_words ts) h
  case_ : (t : Token) (ts : List Token) (ds : List ℕ) (values : List Expr)
      → command_terminal_of t ≡ terminal.Word word.Case → SpellsValues ts ds values
      → SpellsHead (t ∷ ts) (0 ∷ ds) (false ∷ no_words ts) (head.Whole (says.GoesOn (middle.Case values)))
  plural_case_ : (t : Token) (ts : List Token) (values : List ℤ)
      → command_terminal_of t ≡ terminal.Word word.Case → SpellsInts ts values
      → SpellsHead (t ∷ ts) (none_deep (t ∷ ts)) (no_words (t ∷ ts))
      (head.Whole (says.GoesOn (middle.PluralCase values)))
  select_case_ : (t : Token) (ts : List Token) (values : List (List ℕ))
      → command_terminal_of t ≡ terminal.Word word.Case → SpellsCaseWords ts values
      → SpellsHead (t ∷ ts) (none_deep (t ∷ ts)) (no_words (t ∷ ts))
      (head.Whole (says.GoesOn (middle.SelectCase values)))
  for_ : (t i : Token) (ts us : List Token) (ds : List ℕ) (name : List ℕ) (index : Option (List ℕ)) (x : Operand)
      → command_terminal_of t ≡ terminal.Word word.For → SpellsVariables ts name index
      → command_terminal_of i ≡ terminal.Word word.In → SpellsExpr 9 us ds x
      → SpellsHead (t ∷ (ts ++ (i ∷ us))) (none_deep (t ∷ ts) ++ (0 ∷ ds)) (no_words (t ∷ (ts ++ (i ∷ us))))
      (head.Whole (says.Opens (opening.For name index x.expr)))
  let_ : (t v colon : Token) (ts : List Token) (ds : List ℕ) (x : Operand)
      → command_terminal_of t ≡ terminal.Word word.Let → command_terminal_of v ≡ terminal.Variable
      → command_terminal_of colon ≡ terminal.Colon → SpellsExpr 9 ts ds x
      → SpellsHead (t ∷ (v ∷ (colon ∷ ts))) (0 ∷ (0 ∷ (0 ∷ ds))) (no_words (t ∷ (v ∷ (colon ∷ ts))))
      (head.Alone (single.Let v.text x.expr))
  let_block_ : (t v : Token) → command_terminal_of t ≡ terminal.Word word.Let
      → command_terminal_of v ≡ terminal.Variable
      → SpellsHead (t ∷ (v ∷ [])) (0 ∷ (0 ∷ [])) (false ∷ (false ∷ [])) (head.Let v.text)
  call_ : (t : Token) (ts us : List Token) (name : List ℕ)
      → command_terminal_of t ≡ terminal.Word word.Call → SpellsDot ts → SpellsDotted us name
      → SpellsHead (t ∷ (ts ++ us)) (none_deep (t ∷ (ts ++ us))) (no_words (t ∷ (ts ++ us))) (head.Call name)
  param_ : (t name colon : Token) (w : CommandWord) (ts : List Token) (ds : List ℕ) (x : Operand)
      → command_terminal_of t ≡ terminal.Word word.Param → command_terminal_of name ≡ terminal.Word w
      → command_terminal_of colon ≡ terminal.Colon → SpellsExpr 9 ts ds x
      → SpellsHead (t ∷ (name ∷ (colon ∷ ts))) (0 ∷ (0 ∷ (0 ∷ ds))) (no_words (t ∷ (name ∷ (colon ∷ ts))))
      (head.Alone (single.Param name.text x.expr))
  param_block_ : (t name : Token) (w : CommandWord) → command_terminal_of t ≡ terminal.Word word.Param
      → command_terminal_of name ≡ terminal.Word w
      → SpellsHead (t ∷ (name ∷ [])) (0 ∷ (0 ∷ [])) (false ∷ (false ∷ [])) (head.Param name.text)
  namespace_ : (t : Token) (ts : List Token) (name : List ℕ)
      → command_terminal_of t ≡ terminal.Word word.Namespace → SpellsDotted ts name
      → SpellsHead (t ∷ ts) (none_deep (t ∷ ts)) (no_words (t ∷ ts)) (head.Whole (says.Namespace name))
  template_ : (t name : Token) (w : CommandWord) (ts : List Token)
      → command_terminal_of t ≡ terminal.Word word.Template → SpellsDot ts → command_terminal_of name ≡ terminal.Word w
      → SpellsHead (t ∷ (ts ++ (name ∷ []))) (none_deep (t ∷ (ts ++ (name ∷ [])))) (no_words (t ∷ (ts ++ (name ∷ []))))
      (head.Template name.text)
  template_param_ : (sign t name colon : Token) (w : CommandWord) (ts us : List Token) (ds : List ℕ) (ws : List Bool)
      (required : Bool) (x : TypeOperand)
      → command_terminal_of sign ≡ terminal.At → command_terminal_of t ≡ terminal.Word word.Param
      → SpellsRequired ts required → command_terminal_of name ≡ terminal.Word w
      → command_terminal_of colon ≡ terminal.Colon
      → SpellsType us ds ws x
      → SpellsHead (sign ∷ (t ∷ (ts ++ (name ∷ (colon ∷ us)))))
      (none_deep (sign ∷ (t ∷ ts)) ++ (0 ∷ (0 ∷ ds)))
      (no_words (sign ∷ (t ∷ ts)) ++ (false ∷ (false ∷ ws)))
      (head.Whole (says.TemplateParam name.text required x.of))
