-- The words of a command's tokens that stand as types: one for each token, and each names a type before what follows.
use Rattle.std.proofs.Common.{◌≡◌, ℕ, Bool, true, false, if◌then◌else◌, List, [], ◌∷◌, ◌++◌, length, Some, None}
use Rattle.std.proofs.Common.{refl, sym, ap, subst, ◌∙◌, arith, append_assoc, length-append}
use Rattle.std.specs.Prelude.{codes}
use Rattle.std.specs.Str.{bytes_eq}
use Rattle.soy_lexer.specs.declared.token.Token.{Token}
use Rattle.soy_lexer.specs.declared.token.TokenKind.{TokenKind}
use Rattle.soy_lexer.specs.declared.token.TokenKind.TheVariants as kind
use Rattle.expr_parser.specs.ParsesType.{NamesTypeIf, NameTypes}
use Rattle.expr_parser.specs.TypeTerminals.{begins_with_less, is_less, type_terminal, type_terminal_of, word_names_type}
use Rattle.soy_parser.specs.declared.attributes.AttributeName.{AttributeName}
use Rattle.soy_parser.specs.declared.attributes.Attributes.{Attributes}
use Rattle.soy_parser.specs.declared.command.Command.{Command}
use Rattle.soy_parser.specs.declared.command.CommandForm.{CommandForm}
use Rattle.soy_parser.specs.declared.head.Head.{Head}
use Rattle.soy_parser.specs.declared.terminal.CommandTerminal.{CommandTerminal}
use Rattle.soy_parser.specs.declared.terminal.CommandTerminal.TheVariants as terminal
use Rattle.soy_parser.specs.CommandTerminals.{command_symbol, command_terminal, command_terminal_of}
use Rattle.soy_parser.specs.Heads.{SpellsAttributes, attribute_name, form_at}
use Rattle.soy_parser.specs.SpellsCommand.{SpellsCommand}
use Rattle.soy_parser.specs.SpellsHead.{SpellsHead}
use Rattle.soy_parser.specs.TypeWords.{no_words}
use Rattle.formatted_source.proofs.TypesSpelled.{names_before, type_words}

-- as many words as tokens

pub none_words : (ts : List Token) → length (no_words ts) ≡ length ts
none_words [] = refl
none_words (t ∷ ts) = omega (arith, none_words ts)

head_words : (ts : List Token) (ds : List ℕ) (ws : List Bool) (h : Head) → SpellsHead ts ds ws h
    → length ws ≡ length ts
head_words _ _ _ _ (SpellsHead.bare_ t h e) = refl
head_words _ _ _ _ (SpellsHead.printed_ ts ds x s) = none_words ts
head_words _ _ _ _ (SpellsHead.message_printed_ ts ds x s) = none_words ts
head_words _ _ _ _ (SpellsHead.message_print_ t ts ds x e s) = none_words (t ∷ ts)
head_words _ _ _ _ (SpellsHead.expression_ t ts ds x h s e) = none_words (t ∷ ts)
head_words _ _ _ _ (SpellsHead.case_ t ts ds values e s) = none_words (t ∷ ts)
head_words _ _ _ _ (SpellsHead.plural_case_ t ts values e s) = none_words (t ∷ ts)
head_words _ _ _ _ (SpellsHead.select_case_ t ts values e s) = none_words (t ∷ ts)
head_words _ _ _ _ (SpellsHead.for_ t i ts us ds name index x e v k s) = none_words (t ∷ (ts ++ (i ∷ us)))
head_words _ _ _ _ (SpellsHead.let_ t v colon ts ds x e k c s) = none_words (t ∷ (v ∷ (colon ∷ ts)))
head_words _ _ _ _ (SpellsHead.let_block_ t v e k) = refl
head_words _ _ _ _ (SpellsHead.call_ t ts us name e d s) = none_words (t ∷ (ts ++ us))
head_words _ _ _ _ (SpellsHead.param_ t name colon o ts ds x e k c s) = none_words (t ∷ (name ∷ (colon ∷ ts)))
head_words _ _ _ _ (SpellsHead.param_block_ t name o e k) = refl
head_words _ _ _ _ (SpellsHead.namespace_ t ts name e s) = none_words (t ∷ ts)
head_words _ _ _ _ (SpellsHead.template_ t name o ts e d k) = none_words (t ∷ (ts ++ (name ∷ [])))
head_words _ _ _ _ (SpellsHead.template_param_ sign t name colon o ts us ds ws required x a e q k c s) =
    omega (
      arith,
      length-append (no_words (sign ∷ (t ∷ ts))) (false ∷ (false ∷ ws)),
      length-append (sign ∷ (t ∷ ts)) (name ∷ (colon ∷ us)),
      none_words (sign ∷ (t ∷ ts)),
      type_words us ds ws x s,
    )

pub command_words : (ts : List Token) (ds : List ℕ) (ws : List Bool) (c : Command) → SpellsCommand ts ds ws c
    → length ws ≡ length ts
command_words _ _ _ _ (SpellsCommand.text_ t e) = refl
command_words _ _ _ _ (SpellsCommand.command_ opening_ close ts us ds ws h a of e s b i) =
    omega (
      arith,
      length-append ws (no_words (us ++ (close ∷ []))),
      length-append ts (us ++ (close ∷ [])),
      none_words (us ++ (close ∷ [])),
      head_words ts ds ws h s,
    )

-- no `<` begins attributes or the end of a command

chosen : (P : CommandTerminal → Type 0) (t : Bool) (m n : CommandTerminal) → P m → P n → P (if t then m else n)
chosen P true m n one two = one
chosen P false m n one two = two

-- what holds of each symbol
of_symbols : (P : CommandTerminal → Type 0) → P terminal.Dot → P terminal.Comma → P terminal.Colon
    → P terminal.Question → P terminal.Equals → P terminal.At → P terminal.LineFeed → P terminal.CarriageReturn
    → P terminal.Tab → P terminal.Other → (text : List ℕ) → P (command_symbol text)
of_symbols P dot comma colon question equals at feed return tab other text =
    chosen P (bytes_eq text (codes ".")) terminal.Dot _ dot
    (chosen P (bytes_eq text (codes ",")) terminal.Comma _ comma
    (chosen P (bytes_eq text (codes ":")) terminal.Colon _ colon
    (chosen P (bytes_eq text (codes "?")) terminal.Question _ question
    (chosen P (bytes_eq text (codes "=")) terminal.Equals _ equals
    (chosen P (bytes_eq text (codes "@")) terminal.At _ at
    (chosen P (bytes_eq text (codes "\\n")) terminal.LineFeed _ feed
    (chosen P (bytes_eq text (codes "\\r")) terminal.CarriageReturn _ return
    (chosen P (bytes_eq text (codes "\\t")) terminal.Tab terminal.Other tab other))))))))

symbol_ends_none : (h : Head) (a : Attributes) (bytes : List ℕ) → form_at h a (command_symbol bytes) ≡ None
symbol_ends_none h a = of_symbols (λ m. form_at h a m ≡ None) refl refl refl refl refl refl refl refl refl refl

end_plain : (h : Head) (a : Attributes) (of : CommandForm) (k : TokenKind) (bytes : List ℕ)
    → form_at h a (command_terminal k bytes) ≡ Some of → is_less (type_terminal k bytes) ≡ false
end_plain h a of kind.Symbol bytes e = absurd (cc (e, symbol_ends_none h a bytes))
end_plain h a of kind.Text bytes e = refl
end_plain h a of kind.Begin bytes e = refl
end_plain h a of kind.BeginClose bytes e = refl
end_plain h a of kind.Word bytes e = refl
end_plain h a of kind.Variable bytes e = refl
end_plain h a of kind.Int bytes e = refl
end_plain h a of kind.Str bytes e = refl
end_plain h a of kind.Attribute bytes e = refl
end_plain h a of kind.End bytes e = refl
end_plain h a of kind.SlashEnd bytes e = refl

symbol_names_none : (bytes : List ℕ) → attribute_name (command_symbol bytes) ≡ None
symbol_names_none = of_symbols (λ m. attribute_name m ≡ None) refl refl refl refl refl refl refl refl refl refl

name_plain : (n : AttributeName) (k : TokenKind) (bytes : List ℕ) → attribute_name (command_terminal k bytes) ≡ Some n
    → is_less (type_terminal k bytes) ≡ false
name_plain n kind.Symbol bytes e = absurd (cc (e, symbol_names_none bytes))
name_plain n kind.Text bytes e = refl
name_plain n kind.Begin bytes e = refl
name_plain n kind.BeginClose bytes e = refl
name_plain n kind.Word bytes e = refl
name_plain n kind.Variable bytes e = refl
name_plain n kind.Int bytes e = refl
name_plain n kind.Str bytes e = refl
name_plain n kind.Attribute bytes e = refl
name_plain n kind.End bytes e = refl
name_plain n kind.SlashEnd bytes e = refl

attributes_plain : (h : Head) (us : List Token) (a : Attributes) (rest : List Token) → SpellsAttributes h us a
    → begins_with_less rest ≡ false → begins_with_less (us ++ rest) ≡ false
attributes_plain _ _ _ rest (SpellsAttributes.none_ h) none = none
attributes_plain _ _ _ rest (SpellsAttributes.more_ h ts a b name equals value n s e may q v w) none =
    subst (λ l. begins_with_less l ≡ false) (sym (append_assoc ts (name ∷ (equals ∷ (value ∷ []))) rest))
    (attributes_plain h ts a ((name ∷ (equals ∷ (value ∷ []))) ++ rest) s (name_plain n name.kind _ e))

-- where no `<` follows, words name types as they do before nothing
less_same : (ts rest : List Token) → begins_with_less rest ≡ false
    → begins_with_less (ts ++ []) ≡ begins_with_less (ts ++ rest)
less_same [] rest none = sym none
less_same (t ∷ ts) rest none = refl

named_same : (w : Bool) (t : Token) (us vs : List Token) → begins_with_less us ≡ begins_with_less vs
    → NamesTypeIf w t vs → NamesTypeIf w t us
named_same true t us vs e is = ap (λ b. word_names_type (type_terminal_of t) b) e ∙ is
named_same false t us vs e is = tt

pub names_alone : (ts rest : List Token) (ws : List Bool) → begins_with_less rest ≡ false → NameTypes ts ws rest
    → NameTypes ts ws []
names_alone [] rest ws none h = tt
names_alone (t ∷ ts) rest [] none h = tt
names_alone (t ∷ ts) rest (w ∷ ws) none h =
    (named_same w t (ts ++ []) (ts ++ rest) (less_same ts rest none) h.0, names_alone ts rest ws none h.1)

-- **The words of a command's head name types before nothing.**
pub head_names : (opening close : Token) (ts us rest : List Token) (ds : List ℕ) (ws : List Bool) (h : Head)
    (a : Attributes) (of : CommandForm) → SpellsHead ts ds ws h → SpellsAttributes h us a
    → form_at h a (command_terminal_of close) ≡ Some of
    → NameTypes (opening ∷ (ts ++ (us ++ (close ∷ [])))) (false ∷ (ws ++ no_words (us ++ (close ∷ [])))) rest
    → NameTypes ts ws []
head_names opening close ts us rest ds ws h a of s b i names =
    let parts = names_before ts (us ++ (close ∷ [])) ws (no_words (us ++ (close ∷ []))) rest (head_words ts ds ws h s)
    names.1 in
    names_alone ts ((us ++ (close ∷ [])) ++ rest) ws
    (subst (λ l. begins_with_less l ≡ false) (sym (append_assoc us (close ∷ []) rest))
    (attributes_plain h us a (close ∷ rest) b (end_plain h a of close.kind _ i))) parts.0

-- and so do those of its type
pub type_names : (sign t name colon : Token) (ts us : List Token) (ws : List Bool)
    → NameTypes (sign ∷ (t ∷ (ts ++ (name ∷ (colon ∷ us))))) (no_words (sign ∷ (t ∷ ts)) ++ (false ∷ (false ∷ ws))) []
    → NameTypes us ws []
type_names sign t name colon ts us ws names =
    (names_before (sign ∷ (t ∷ ts)) (name ∷ (colon ∷ us)) (no_words (sign ∷ (t ∷ ts))) (false ∷ (false ∷ ws)) []
    (none_words (sign ∷ (t ∷ ts))) names).1.1.1
