-- Which tokens are a type, and which one: a case for each row of the grammar, on whole lists of tokens. Any word
-- stands as a type; which words name one is TypeTerminals.
-- `SpellsType ts ds ws x`: the tokens ts spell the type x, the depths at them are ds, and ws are true at the words
-- that stand as types. The nodes of a type are its names, `list` and `map` above their item type, a record above the
-- types of its fields, and a union above its members, from its first `|` on.
-- Example: `list<int>|null` is a union of a list and null, with the depths 1, 1, 2, 2, 3, 3 and the words `list`,
-- `int`, `null`.
use Rattle.std.specs.Prelude.{◌≡◌, ℕ, max, Bool, true, false, List, [], ◌∷◌, ◌++◌}
use Rattle.soy_lexer.specs.declared.token.Token.{Token}
use Rattle.soy_tree.specs.declared.soy_type.Field.{Field}
use Rattle.soy_tree.specs.declared.soy_type.SoyType.{SoyType}
use Rattle.expr_parser.specs.declared.type_frame.TypeOperand.{TypeOperand}
use Rattle.expr_parser.specs.declared.type_terminal.TypeName.{TypeName}
use Rattle.expr_parser.specs.declared.type_terminal.TypeName.TheVariants as name
use Rattle.expr_parser.specs.declared.type_terminal.TypeTerminal.TheVariants as terminal
use Rattle.expr_parser.specs.Depths.{beside}
use Rattle.expr_parser.specs.TypeOperands.{named, listed, mapped, recorded, united, field}
use Rattle.expr_parser.specs.TypeTerminals.{type_terminal_of}

mutual
  -- a type that is no union
  pub data SpellsMember : List Token → List ℕ → List Bool → TypeOperand → Type 0 where
    name_ : (t : Token) (n : TypeName) → type_terminal_of t ≡ terminal.Word n
        → SpellsMember (t ∷ []) (beside 0 (0 ∷ [])) (true ∷ []) (named n)
    list_ : (t less greater : Token) (ts : List Token) (ds : List ℕ) (ws : List Bool) (x : TypeOperand)
        → type_terminal_of t ≡ terminal.Word name.List → type_terminal_of less ≡ terminal.Less →
        type_terminal_of greater ≡ terminal.Greater
        → SpellsType ts ds ws x
        → SpellsMember (t ∷ (less ∷ (ts ++ (greater ∷ [])))) (beside 0 (0 ∷ (0 ∷ (ds ++ (x.height ∷ [])))))
        (true ∷ (false ∷ (ws ++ (false ∷ [])))) (listed x)
    map_ : (t less key comma greater : Token) (ts : List Token) (ds : List ℕ) (ws : List Bool) (x : TypeOperand)
        → type_terminal_of t ≡ terminal.Word name.Map → type_terminal_of less ≡ terminal.Less →
        type_terminal_of key ≡ terminal.Word name.Str
        → type_terminal_of comma ≡ terminal.Comma → type_terminal_of greater ≡ terminal.Greater → SpellsType ts ds ws x
        → SpellsMember (t ∷ (less ∷ (key ∷ (comma ∷ (ts ++ (greater ∷ []))))))
        (beside 0 (0 ∷ (0 ∷ (0 ∷ (0 ∷ (ds ++ (x.height ∷ [])))))))
        (true ∷ (false ∷ (false ∷ (false ∷ (ws ++ (false ∷ [])))))) (mapped x)
    record_ : (opening close : Token) (ts : List Token) (ds : List ℕ) (ws : List Bool) (fields : List Field) (h : ℕ)
        → type_terminal_of opening ≡ terminal.OpenBracket → type_terminal_of close ≡ terminal.CloseBracket
        → SpellsFields ts ds ws fields h
        → SpellsMember (opening ∷ (ts ++ (close ∷ []))) (beside 0 (0 ∷ []) ++ (ds ++ beside h (0 ∷ [])))
        (false ∷ (ws ++ (false ∷ []))) (recorded fields h)

  -- the fields of a record, with the depths in it and the nodes on the longest branch of their types
  pub data SpellsFields : List Token → List ℕ → List Bool → List Field → ℕ → Type 0 where
    one_ : (key colon : Token) (n : TypeName) (ts : List Token) (ds : List ℕ) (ws : List Bool) (x : TypeOperand)
        → type_terminal_of key ≡ terminal.Word n → type_terminal_of colon ≡ terminal.Colon → SpellsType ts ds ws x
        → SpellsFields (key ∷ (colon ∷ ts)) (beside 0 (0 ∷ (0 ∷ ds))) (false ∷ (false ∷ ws))
        (field key.text x.of ∷ []) x.height
    more_ : (comma key colon : Token) (n : TypeName) (ts us : List Token) (ds es : List ℕ) (ws vs : List Bool)
        (fields : List Field) (h : ℕ) (x : TypeOperand)
        → type_terminal_of comma ≡ terminal.Comma → type_terminal_of key ≡ terminal.Word n →
        type_terminal_of colon ≡ terminal.Colon
        → SpellsFields ts ds ws fields h → SpellsType us es vs x
        → SpellsFields (ts ++ (comma ∷ (key ∷ (colon ∷ us)))) (ds ++ beside h (0 ∷ (0 ∷ (0 ∷ es))))
        (ws ++ (false ∷ (false ∷ (false ∷ vs))))
        (fields ++ (field key.text x.of ∷ [])) (max h x.height)

  -- members joined by `|`, with the nodes on the longest branch of them
  pub data SpellsMembers : List Token → List ℕ → List Bool → List SoyType → ℕ → Type 0 where
    first_ : (ts : List Token) (ds : List ℕ) (ws : List Bool) (x : TypeOperand) → SpellsMember ts ds ws x
        → SpellsMembers ts ds ws (x.of ∷ []) x.height
    next_ : (bar : Token) (ts us : List Token) (ds es : List ℕ) (ws vs : List Bool) (members : List SoyType) (h : ℕ)
        (x : TypeOperand)
        → type_terminal_of bar ≡ terminal.Bar → SpellsMembers ts ds ws members h → SpellsMember us es vs x
        → SpellsMembers (ts ++ (bar ∷ us)) (ds ++ beside h (0 ∷ es)) (ws ++ (false ∷ vs)) (members ++ (x.of ∷ []))
        (max h x.height)

  pub data SpellsType : List Token → List ℕ → List Bool → TypeOperand → Type 0 where
    alone_ : (ts : List Token) (ds : List ℕ) (ws : List Bool) (x : TypeOperand) → SpellsMember ts ds ws x →
        SpellsType ts ds ws x
    union_ : (bar : Token) (ts us : List Token) (ds es : List ℕ) (ws vs : List Bool) (members : List SoyType) (h : ℕ)
        (x : TypeOperand)
        → type_terminal_of bar ≡ terminal.Bar → SpellsMembers ts ds ws members h → SpellsMember us es vs x
        → SpellsType (ts ++ (bar ∷ us)) (ds ++ beside h (0 ∷ es)) (ws ++ (false ∷ vs)) (united members h x)
