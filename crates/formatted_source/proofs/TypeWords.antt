-- The lexemes of tokens that the grammar of types knows: each of its words and symbols is written in one way.
use Rattle.std.proofs.Common.{◌≡◌, ℕ, ◌<◌, ◌⊎◌, inl, inr, nat_lt, Bool, true, false, List, [], ◌∷◌}
use Rattle.std.proofs.Common.{◌++◌}
use Rattle.std.proofs.Common.{length, length-append, if◌then◌else◌, refl, sym, ap, subst, ◌∙◌, arith}
use Rattle.std.specs.Prelude.{codes, encode_utf8, encode_utf8_all}
use Rattle.std.specs.List.{list_all}
use Rattle.std.specs.Str.{bytes_eq}
use Rattle.std.proofs.lemmas.Bool.Decides.{nat_tests}
use Rattle.std.proofs.lemmas.Slice.Eq.{bytes_eq-Decides}
use Rattle.std.proofs.lemmas.Str.{encode_ascii, inside_one, len_utf8_bounds, length-encode}
use Rattle.soy_lexer.specs.declared.token.Token.{Token}
use Rattle.soy_lexer.specs.declared.token.TokenKind.{TokenKind}
use Rattle.soy_lexer.specs.declared.token.TokenKind.TheVariants as kind
use Rattle.expr_parser.specs.declared.type_terminal.TypeName.{TypeName}
use Rattle.expr_parser.specs.declared.type_terminal.TypeName.TheVariants as name
use Rattle.expr_parser.specs.declared.type_terminal.TypeTerminal.{TypeTerminal}
use Rattle.expr_parser.specs.declared.type_terminal.TypeTerminal.TheVariants as terminal
use Rattle.expr_parser.specs.TypeTerminals.{type_name, type_symbol, type_terminal, type_terminal_of}
use Rattle.formatted_source.specs.Lexemes.{Lexeme, lexeme}
use Rattle.formatted_source.proofs.Written.Names.{both}

-- a text whose bytes are ASCII is these bytes
pub ascii_text : (text bs : List ℕ) → encode_utf8_all text ≡ bs → list_all (λ b. nat_lt b 128) bs ≡ true → text ≡ bs
ascii_text [] [] e all = refl
ascii_text [] (b ∷ bs) e all = absurd (cc)
ascii_text (c ∷ cs) [] e all =
    absurd (omega (
      arith,
      ap length e,
      length-append (encode_utf8 c) (encode_utf8_all cs),
      length-encode c,
      (len_utf8_bounds c).0,
    ))
ascii_text (c ∷ cs) (b ∷ bs) e all =
    let parts = both (nat_lt b 128) (list_all (λ b. nat_lt b 128) bs) all in
    let low : b < 128 = grind (arith, nat_tests, parts.0) in
    let some : 0 < length (encode_utf8 c) = omega (arith, length-encode c, (len_utf8_bounds c).0) in
    let same : c ≡ b = inside_one c (encode_utf8_all cs) (b ∷ bs) 0 (sym e) some low in
    let alone : encode_utf8 c ≡ b ∷ [] = ap encode_utf8 same ∙ encode_ascii b low in
    let whole : b ∷ encode_utf8_all cs ≡ b ∷ bs = sym (ap (λ l. l ++ encode_utf8_all cs) alone) ∙ e in
    let rest : encode_utf8_all cs ≡ bs = cc in
    let more : cs ≡ bs = ascii_text cs bs rest parts.1 in
    ap (λ d. d ∷ cs) same ∙ ap (λ l. b ∷ l) more

-- one test of a chain of them
tested : {A : Type 0} (text word : List ℕ) (t : Bool) (m other n : A) → bytes_eq text word ≡ t
    → (if t then m else other) ≡ n → ((m ≡ n) × (text ≡ word)) ⊎ (other ≡ n)
tested text word true m other n is e = inl (e, (bytes_eq-Decides text word).0 is)
tested text word false m other n is e = inr e

abbrev pub name_text : TypeName → List ℕ
name_text name.Null = codes "null"
name_text name.Bool = codes "bool"
name_text name.Int = codes "int"
name_text name.Str = codes "string"
name_text name.Html = codes "html"
name_text name.Attributes = codes "attributes"
name_text name.List = codes "list"
name_text name.Map = codes "map"
name_text name.Unknown = []

abbrev pub IsKnown : TypeName → Type 0
IsKnown name.Unknown = ⊥
IsKnown _ = Unit {0}

known_by : (m n : TypeName) (text word : List ℕ) → m ≡ n → text ≡ word → name_text m ≡ word → text ≡ name_text n
known_by m n text word same is word_is = is ∙ (sym word_is ∙ ap name_text same)

-- a word that names a type
name_bytes : (text : List ℕ) (n : TypeName) → type_name text ≡ n → IsKnown n → text ≡ name_text n
name_bytes text n e known =
    elim (tested text (codes "null") (bytes_eq text (codes "null")) name.Null _ n refl e) [
      | inl p ↦ known_by name.Null n text (codes "null") p.0 p.1 refl
      | inr q ↦ elim (tested text (codes "bool") (bytes_eq text (codes "bool")) name.Bool _ n refl q) [
        | inl p ↦ known_by name.Bool n text (codes "bool") p.0 p.1 refl
        | inr q ↦ elim (tested text (codes "int") (bytes_eq text (codes "int")) name.Int _ n refl q) [
          | inl p ↦ known_by name.Int n text (codes "int") p.0 p.1 refl
          | inr q ↦ elim (tested text (codes "string") (bytes_eq text (codes "string")) name.Str _ n refl q) [
            | inl p ↦ known_by name.Str n text (codes "string") p.0 p.1 refl
            | inr q ↦ elim (tested text (codes "html") (bytes_eq text (codes "html")) name.Html _ n refl q) [
              | inl p ↦ known_by name.Html n text (codes "html") p.0 p.1 refl
              | inr q ↦ elim (tested text (codes "attributes") (bytes_eq text
                  (codes "attributes")) name.Attributes _ n refl q) [
                    | inl p ↦ known_by name.Attributes n text (codes "attributes") p.0 p.1 refl
                    | inr q ↦ elim (tested text (codes "list") (bytes_eq text (codes "list")) name.List _ n refl q) [
                      | inl p ↦ known_by name.List n text (codes "list") p.0 p.1 refl
                      | inr q ↦ elim (tested text (codes "map") (bytes_eq text
                          (codes "map")) name.Map name.Unknown n refl q) [
                            | inl p ↦ known_by name.Map n text (codes "map") p.0 p.1 refl
                            | inr q ↦ absurd (subst IsKnown (sym q) known)
                          ]
                    ]
                  ]
            ]
          ]
        ]
      ]
    ]

abbrev pub symbol_text : TypeTerminal → List ℕ
symbol_text terminal.Less = codes "<"
symbol_text terminal.Greater = codes ">"
symbol_text terminal.Comma = codes ","
symbol_text terminal.Colon = codes ":"
symbol_text terminal.Bar = codes "|"
symbol_text terminal.OpenBracket = codes "["
symbol_text terminal.CloseBracket = codes "]"
symbol_text (terminal.Word n) = []
symbol_text terminal.Other = []

abbrev pub IsSymbol : TypeTerminal → Type 0
IsSymbol terminal.Other = ⊥
IsSymbol (terminal.Word n) = ⊥
IsSymbol _ = Unit {0}

symbol_by : (m n : TypeTerminal) (text word : List ℕ) → m ≡ n → text ≡ word → symbol_text m ≡ word
    → text ≡ symbol_text n
symbol_by m n text word same is word_is = is ∙ (sym word_is ∙ ap symbol_text same)

symbol_bytes : (text : List ℕ) (n : TypeTerminal) → type_symbol text ≡ n → IsSymbol n → text ≡ symbol_text n
symbol_bytes text n e known =
    elim (tested text (codes "<") (bytes_eq text (codes "<")) terminal.Less _ n refl e) [
      | inl p ↦ symbol_by terminal.Less n text (codes "<") p.0 p.1 refl
      | inr q ↦ elim (tested text (codes ">") (bytes_eq text (codes ">")) terminal.Greater _ n refl q) [
        | inl p ↦ symbol_by terminal.Greater n text (codes ">") p.0 p.1 refl
        | inr q ↦ elim (tested text (codes ",") (bytes_eq text (codes ",")) terminal.Comma _ n refl q) [
          | inl p ↦ symbol_by terminal.Comma n text (codes ",") p.0 p.1 refl
          | inr q ↦ elim (tested text (codes ":") (bytes_eq text (codes ":")) terminal.Colon _ n refl q) [
            | inl p ↦ symbol_by terminal.Colon n text (codes ":") p.0 p.1 refl
            | inr q ↦ elim (tested text (codes "|") (bytes_eq text (codes "|")) terminal.Bar _ n refl q) [
              | inl p ↦ symbol_by terminal.Bar n text (codes "|") p.0 p.1 refl
              | inr q ↦ elim (tested text (codes "[") (bytes_eq text (codes "[")) terminal.OpenBracket _ n refl q) [
                | inl p ↦ symbol_by terminal.OpenBracket n text (codes "[") p.0 p.1 refl
                | inr q ↦ elim (tested text (codes "]") (bytes_eq text (codes "]")) terminal.CloseBracket
                    terminal.Other n
                    refl q) [
                      | inl p ↦ symbol_by terminal.CloseBracket n text (codes "]") p.0 p.1 refl
                      | inr q ↦ absurd (subst IsSymbol (sym q) known)
                    ]
              ]
            ]
          ]
        ]
      ]
    ]

names_ascii : (n : TypeName) → list_all (λ b. nat_lt b 128) (name_text n) ≡ true
names_ascii name.Null = refl
names_ascii name.Bool = refl
names_ascii name.Int = refl
names_ascii name.Str = refl
names_ascii name.Html = refl
names_ascii name.Attributes = refl
names_ascii name.List = refl
names_ascii name.Map = refl
names_ascii name.Unknown = refl

symbols_ascii : (m : TypeTerminal) → list_all (λ b. nat_lt b 128) (symbol_text m) ≡ true
symbols_ascii terminal.Less = refl
symbols_ascii terminal.Greater = refl
symbols_ascii terminal.Comma = refl
symbols_ascii terminal.Colon = refl
symbols_ascii terminal.Bar = refl
symbols_ascii terminal.OpenBracket = refl
symbols_ascii terminal.CloseBracket = refl
symbols_ascii (terminal.Word n) = refl
symbols_ascii terminal.Other = refl

not_word : (m : TypeTerminal) (n : TypeName) → IsSymbol m → terminal.Word n ≡ m → ⊥
not_word m n s e = subst IsSymbol (sym e) s

not_other : (m : TypeTerminal) → IsSymbol m → terminal.Other ≡ m → ⊥
not_other m s e = subst IsSymbol (sym e) s

abbrev IsWord : TypeTerminal → Type 0
IsWord (terminal.Word n) = Unit {0}
IsWord _ = ⊥

abbrev lexeme_of : TokenKind → List ℕ → Lexeme
lexeme_of k text = (k, text)

pair_is : (k l : TokenKind) (text word : List ℕ) → k ≡ l → text ≡ word → ◌≡◌ {A = Lexeme} (k, text) (l, word)
pair_is k l text word e f =
    let first : ◌≡◌ {A = Lexeme} (k, text) (l, text) = ap (λ (x : TokenKind). lexeme_of x text) e in
    first ∙ ap (λ (x : List ℕ). lexeme_of l x) f

-- no symbol is a word
if_word : (t : Bool) (m else_ : TypeTerminal) → (IsWord m → ⊥) → (IsWord else_ → ⊥) → IsWord (if t then m else else_)
    → ⊥
if_word true m else_ one two w = one w
if_word false m else_ one two w = two w

symbol_no_word : (text : List ℕ) → IsWord (type_symbol text) → ⊥
symbol_no_word text =
    if_word (bytes_eq text (codes "<")) terminal.Less _ (λ w. w) (if_word (bytes_eq text
    (codes ">")) terminal.Greater _ (λ w. w)
    (if_word (bytes_eq text (codes ",")) terminal.Comma _ (λ w. w) (if_word (bytes_eq text
    (codes ":")) terminal.Colon _ (λ w. w)
    (if_word (bytes_eq text (codes "|")) terminal.Bar _ (λ w. w)
    (if_word (bytes_eq text (codes "[")) terminal.OpenBracket _ (λ w. w)
    (if_word (bytes_eq text (codes "]")) terminal.CloseBracket terminal.Other (λ w. w) (λ w. w)))))))

-- the lexeme of a symbol
symbol_by_kind : (k : TokenKind) (text : List ℕ) (m : TypeTerminal) → type_terminal k (encode_utf8_all text) ≡ m
    → IsSymbol m → (k ≡ kind.Symbol) × (text ≡ symbol_text m)
symbol_by_kind kind.Symbol text m e s =
    (refl, ascii_text text (symbol_text m) (symbol_bytes (encode_utf8_all text) m e s) (symbols_ascii m))
symbol_by_kind kind.Word text m e s = absurd (not_word m (type_name (encode_utf8_all text)) s e)
symbol_by_kind kind.Text text m e s = absurd (not_other m s e)
symbol_by_kind kind.Begin text m e s = absurd (not_other m s e)
symbol_by_kind kind.BeginClose text m e s = absurd (not_other m s e)
symbol_by_kind kind.Variable text m e s = absurd (not_other m s e)
symbol_by_kind kind.Int text m e s = absurd (not_other m s e)
symbol_by_kind kind.Str text m e s = absurd (not_other m s e)
symbol_by_kind kind.Attribute text m e s = absurd (not_other m s e)
symbol_by_kind kind.End text m e s = absurd (not_other m s e)
symbol_by_kind kind.SlashEnd text m e s = absurd (not_other m s e)

pub symbol_lexeme : (t : Token) (m : TypeTerminal) → type_terminal_of t ≡ m → IsSymbol m
    → lexeme t ≡ (kind.Symbol, symbol_text m)
symbol_lexeme t m e s =
    let p = symbol_by_kind t.kind t.text m e s in
    pair_is t.kind kind.Symbol t.text (symbol_text m) p.0 p.1

-- and of a word
word_by_kind : (k : TokenKind) (text : List ℕ) (n : TypeName) → type_terminal k (encode_utf8_all text) ≡ terminal.Word n
    → (k ≡ kind.Word) × (type_name (encode_utf8_all text) ≡ n)
word_by_kind kind.Word text n e = (refl, cc)
word_by_kind kind.Symbol text n e =
    absurd (symbol_no_word (encode_utf8_all text) (subst IsWord (sym e) tt))
word_by_kind kind.Text text n e = cc
word_by_kind kind.Begin text n e = cc
word_by_kind kind.BeginClose text n e = cc
word_by_kind kind.Variable text n e = cc
word_by_kind kind.Int text n e = cc
word_by_kind kind.Str text n e = cc
word_by_kind kind.Attribute text n e = cc
word_by_kind kind.End text n e = cc
word_by_kind kind.SlashEnd text n e = cc

-- a word that names a type
pub name_lexeme : (t : Token) (n : TypeName) → type_terminal_of t ≡ terminal.Word n → IsKnown n
    → lexeme t ≡ (kind.Word, name_text n)
name_lexeme t n e known =
    let p = word_by_kind t.kind t.text n e in
    pair_is t.kind kind.Word t.text (name_text n) p.0
    (ascii_text t.text (name_text n) (name_bytes (encode_utf8_all t.text) n p.1 known) (names_ascii n))

-- any word
pub word_lexeme : (t : Token) (n : TypeName) → type_terminal_of t ≡ terminal.Word n → lexeme t ≡ (kind.Word, t.text)
word_lexeme t n e = let p = word_by_kind t.kind t.text n e in pair_is t.kind kind.Word t.text t.text p.0 refl
