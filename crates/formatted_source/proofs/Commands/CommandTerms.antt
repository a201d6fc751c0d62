-- What the lexemes of commands are to the grammar.
use Rattle.std.proofs.Common.{◌≡◌, ℕ, ◌≤◌, Bool, true, false, List, [], ◌∷◌, ◌++◌, Some, refl}
use Rattle.std.proofs.Common.{sym, ap, subst}
use Rattle.std.proofs.Common.{◌∙◌, arith, append_assoc, append-nil}
use Rattle.std.specs.Prelude.{encode_utf8_all}
use Rattle.soy_lexer.specs.declared.token.Token.{Token}
use Rattle.soy_lexer.specs.declared.token.TokenKind.{TokenKind}
use Rattle.soy_lexer.specs.declared.token.TokenKind.TheVariants as kind
use Rattle.expr_parser.specs.Depths.{AreWithin}
use Rattle.expr_parser.specs.ParsesType.{NamesTypeIf, NameTypes}
use Rattle.expr_parser.specs.TypeTerminals.{begins_with_less, is_less, type_terminal}
use Rattle.soy_parser.specs.declared.command.Command.{Command}
use Rattle.soy_parser.specs.declared.command.CommandForm.{CommandForm}
use Rattle.soy_parser.specs.declared.head.Head.{Head}
use Rattle.soy_parser.specs.declared.attributes.Attributes.{Attributes}
use Rattle.soy_parser.specs.declared.terminal.CommandTerminal.{CommandTerminal}
use Rattle.soy_parser.specs.CommandTerminals.{command_terminal, command_terminal_of}
use Rattle.soy_parser.specs.Depth.{inside_blocks, none_deep}
use Rattle.soy_parser.specs.Heads.{SpellsAttributes, form_at, no_attributes}
use Rattle.soy_parser.specs.SpellsCommand.{SpellsCommand}
use Rattle.soy_parser.specs.SpellsHead.{SpellsHead}
use Rattle.soy_parser.specs.TypeWords.{no_words}
use Rattle.formatted_source.specs.CommandPieces.{begin_lexeme}
use Rattle.formatted_source.specs.Lexemes.{Lexeme, lexeme, lexemes}
use Rattle.formatted_source.proofs.LexemeLists.{alone, begun, split}

-- what a lexeme is to a command, and so a token of it
abbrev pub lexeme_command : Lexeme → CommandTerminal
lexeme_command l = command_terminal l.0 (encode_utf8_all l.1)

pub command-lexeme : (t : Token) (l : Lexeme) → t.kind ≡ l.0 → t.text ≡ l.1 → command_terminal_of t ≡ lexeme_command l
command-lexeme t l k e = ap (λ x. command_terminal x (encode_utf8_all t.text)) k
    ∙ ap (λ x. command_terminal l.0 (encode_utf8_all x)) e

-- tokens outside of expressions and types lie no deeper than the blocks around them, and name no types

pub within_none : (blocks : ℕ) (ts : List Token) → blocks ≤ 64 → AreWithin blocks (none_deep ts)
within_none blocks [] le = tt
within_none blocks (t ∷ ts) le = (omega (arith, le), within_none blocks ts le)

pub within_append : (blocks : ℕ) (ds es : List ℕ) → AreWithin blocks ds → AreWithin blocks es
    → AreWithin blocks (ds ++ es)
within_append blocks [] es a b = b
within_append blocks (d ∷ ds) es a b = (a.0, within_append blocks ds es a.1 b)

pub within_inside : (blocks : ℕ) (ds : List ℕ) → AreWithin blocks ds → AreWithin 0 (inside_blocks blocks ds)
within_inside blocks [] a = tt
within_inside blocks (d ∷ ds) a = (omega (arith, a.0), within_inside blocks ds a.1)

pub names_none : (ts rest : List Token) → NameTypes ts (no_words ts) rest
names_none [] rest = tt
names_none (t ∷ ts) rest = (tt, names_none ts rest)

-- as many words as tokens
abbrev pub SameLength : List Token → List Bool → Type 0
SameLength [] [] = Unit {0}
SameLength [] (w ∷ ws) = ⊥
SameLength (t ∷ ts) [] = ⊥
SameLength (t ∷ ts) (w ∷ ws) = SameLength ts ws

pub same_none : (ts : List Token) → SameLength ts (no_words ts)
same_none [] = tt
same_none (t ∷ ts) = same_none ts

pub same_append : (ts us : List Token) (ws vs : List Bool) → SameLength ts ws → SameLength us vs
    → SameLength (ts ++ us) (ws ++ vs)
same_append [] us [] vs a b = b
same_append [] us (w ∷ ws) vs a b = absurd a
same_append (t ∷ ts) us [] vs a b = absurd a
same_append (t ∷ ts) us (w ∷ ws) vs a b = same_append ts us ws vs a b

pub names_append : (ts us : List Token) (ws vs : List Bool) (rest : List Token) → NameTypes ts ws (us ++ rest)
    → NameTypes us vs rest → SameLength ts ws → NameTypes (ts ++ us) (ws ++ vs) rest
names_append [] us [] vs rest a b s = b
names_append [] us (w ∷ ws) vs rest a b s = absurd s
names_append (t ∷ ts) us [] vs rest a b s = absurd s
names_append (t ∷ ts) us (w ∷ ws) vs rest a b s =
    (subst (λ l. NamesTypeIf w t l) (sym (append_assoc ts us rest)) a.0, names_append ts us ws vs rest a.1 b s)

-- the words of types are asked of these tokens before a rest that begins with no `<`
abbrev pub Names : List Token → List Bool → Type 0
Names ts words = (rest : List Token) → begins_with_less rest ≡ false → NameTypes ts words rest

-- a head, of which something holds
pub record HeadSpelled (blocks : ℕ) (ts : List Token) (Q : Head → Type 0) : Type 0 where
  pub head : Head
  pub depths : List ℕ
  pub words : List Bool
  pub spells : SpellsHead ts depths words head
  pub said : Q head
  pub within : AreWithin blocks depths
  pub names : Names ts words
  pub each : SameLength ts words

-- attributes of a head, with which a command that ends so says something
pub record FormSaid (h : Head) (vs : List Token) (end : CommandTerminal) (P : CommandForm → Type 0) : Type 0 where
  pub attributes : Attributes
  pub spells : SpellsAttributes h vs attributes
  pub form : CommandForm
  pub is : form_at h attributes end ≡ Some form
  pub said : P form

-- a command, of which something holds
pub record CommandSpelled (blocks : ℕ) (ts : List Token) (P : CommandForm → Type 0) : Type 0 where
  pub command : Command
  pub depths : List ℕ
  pub words : List Bool
  pub spells : SpellsCommand ts depths words command
  pub said : P command.form
  pub within : AreWithin blocks depths
  pub names : Names ts words
  pub each : SameLength ts words
  pub starts : (rest : List Token) → begins_with_less (ts ++ rest) ≡ false

-- no `<` begins a text, a `{`, a word, `}` or `/}`
abbrev pub is_plain_kind : TokenKind → Bool
is_plain_kind kind.Symbol = false
is_plain_kind _ = true

plain_by : (k : TokenKind) (bytes : List ℕ) → is_plain_kind k ≡ true → is_less (type_terminal k bytes) ≡ false
plain_by kind.Text bytes h = refl
plain_by kind.Begin bytes h = refl
plain_by kind.BeginClose bytes h = refl
plain_by kind.Word bytes h = refl
plain_by kind.Variable bytes h = refl
plain_by kind.Int bytes h = refl
plain_by kind.Str bytes h = refl
plain_by kind.Attribute bytes h = refl
plain_by kind.Symbol bytes h = cc
plain_by kind.End bytes h = refl
plain_by kind.SlashEnd bytes h = refl

pub plain_starts : (t : Token) (l : Lexeme) (rest : List Token) → t.kind ≡ l.0 → is_plain_kind l.0 ≡ true
    → begins_with_less (t ∷ rest) ≡ false
plain_starts t l rest k h = plain_by t.kind (encode_utf8_all t.text) (ap is_plain_kind k ∙ h)

-- attributes begin with a word, and what follows them is an end
abbrev pub BeginPlain : List Lexeme → Type 0
BeginPlain [] = Unit {0}
BeginPlain (l ∷ ls) = is_plain_kind l.0 ≡ true

attributes_start : (vs : List Token) (ms : List Lexeme) (close : Token) (end : Lexeme) (rest : List Token)
    → lexemes vs ≡ ms → BeginPlain ms → close.kind ≡ end.0 → is_plain_kind end.0 ≡ true
    → begins_with_less ((vs ++ (close ∷ [])) ++ rest) ≡ false
attributes_start [] [] close end rest e b k h = plain_starts close end rest k h
attributes_start [] (m ∷ ms) close end rest e b k h = absurd (cc)
attributes_start (v ∷ vs) [] close end rest e b k h = absurd (cc)
attributes_start (v ∷ vs) (m ∷ ms) close end rest e b k h =
    let first : lexeme v ≡ m = cc in
    plain_starts v m ((vs ++ (close ∷ [])) ++ rest) (ap (λ (p : Lexeme). p.0) first) b

-- **A command by the lexemes of its head and its attributes.**
pub command_spelled : (blocks : ℕ) (ts : List Token) (ls ms : List Lexeme) (end : Lexeme) (Q : Head → Type 0)
    (P : CommandForm → Type 0) → blocks ≤ 64 → is_plain_kind end.0 ≡ true → BeginPlain ms
    → ((us : List Token) → lexemes us ≡ ls → HeadSpelled blocks us Q)
    → ((h : Head) → Q h → (vs : List Token) → lexemes vs ≡ ms → FormSaid h vs (lexeme_command end) P)
    → lexemes ts ≡ begin_lexeme ∷ ((ls ++ ms) ++ (end ∷ [])) → CommandSpelled blocks ts P
command_spelled blocks ts ls ms end Q P le plain begins heads forms e =
    let o = begun ts begin_lexeme ((ls ++ ms) ++ (end ∷ [])) e in
    let whole = split o.rest (ls ++ ms) (end ∷ []) o.rests in
    let parts = split whole.first ls ms whole.firsts in
    let z = alone whole.second end whole.seconds in
    let h = heads parts.first parts.firsts in
    let f = forms h.head h.said parts.second parts.seconds in
    let is : command_terminal_of z.token ≡ lexeme_command end = command-lexeme z.token end z.kind_is z.text_is in
    let are : ts ≡ o.token ∷ (parts.first ++ (parts.second ++ (z.token ∷ []))) =
    o.are ∙ ap (λ l. o.token ∷ l) (whole.are ∙ (ap (λ l. whole.first ++ l) z.are
    ∙ (ap (λ l. l ++ (z.token ∷ [])) parts.are ∙ append_assoc parts.first parts.second (z.token ∷ [])))) in
    let last : List Token = parts.second ++ (z.token ∷ []) in
    let depths : List ℕ = 0 ∷ (h.depths ++ none_deep (parts.second ++ (z.token ∷ []))) in
    let words : List Bool = false ∷ (h.words ++ no_words (parts.second ++ (z.token ∷ []))) in
    let c : CommandSpelled blocks (o.token ∷ (parts.first ++ (parts.second ++ (z.token ∷ [])))) P = record {
      command = record { form = f.form; span = record { start = o.token.span.start; end = z.token.span.end } };
      depths = 0 ∷ (h.depths ++ none_deep (parts.second ++ (z.token ∷ [])));
      words = false ∷ (h.words ++ no_words (parts.second ++ (z.token ∷ [])));
      spells = SpellsCommand.command_ o.token z.token parts.first parts.second h.depths h.words h.head f.attributes
          f.form (command-lexeme o.token begin_lexeme o.kind_is o.text_is) h.spells f.spells
          (ap (form_at h.head f.attributes) is ∙ f.is);
      said = f.said;
      within = (
        omega (arith, le),
        within_append blocks h.depths (none_deep (parts.second ++ (z.token ∷ []))) h.within
            (within_none blocks (parts.second ++ (z.token ∷ [])) le),
      );
      names = λ rest none. (
        tt,
        names_append parts.first (parts.second ++ (z.token ∷ [])) h.words
            (no_words (parts.second ++ (z.token ∷ []))) rest
            (h.names ((parts.second ++ (z.token ∷ [])) ++ rest)
            (attributes_start parts.second ms z.token end rest parts.seconds begins z.kind_is plain))
            (names_none (parts.second ++ (z.token ∷ [])) rest) h.each,
      );
      each = same_append parts.first (parts.second ++ (z.token ∷ [])) h.words
          (no_words (parts.second ++ (z.token ∷ []))) h.each (same_none (parts.second ++ (z.token ∷ [])));
      starts = λ rest. plain_starts o.token begin_lexeme ((parts.first ++ (parts.second ++ (z.token ∷ []))) ++ rest)
          o.kind_is refl;
    } in
    subst (λ l. CommandSpelled blocks l P) (sym are) c

-- a command without attributes, whose head is all that it says
pub record IsWhole (h : Head) (end : CommandTerminal) (P : CommandForm → Type 0) : Type 0 where
  pub form : CommandForm
  pub is : form_at h no_attributes end ≡ Some form
  pub said : P form

pub bare_spelled : (blocks : ℕ) (ts : List Token) (ls : List Lexeme) (end : Lexeme) (P : CommandForm → Type 0)
    → blocks ≤ 64 → is_plain_kind end.0 ≡ true
    → ((us : List Token) → lexemes us ≡ ls → HeadSpelled blocks us (λ h. IsWhole h (lexeme_command end) P))
    → lexemes ts ≡ begin_lexeme ∷ (ls ++ (end ∷ [])) → CommandSpelled blocks ts P
bare_spelled blocks ts ls end P le plain heads e =
    command_spelled blocks ts ls [] end (λ h. IsWhole h (lexeme_command end) P) P le plain tt heads
    (λ h w vs none. subst (λ l. FormSaid h l (lexeme_command end) P) (sym (no_tokens vs none)) (record {
      attributes = no_attributes;
      spells = SpellsAttributes.none_ h;
      form = w.form;
      is = w.is;
      said = w.said;
    }))
    (e ∙ ap (λ l. begin_lexeme ∷ (l ++ (end ∷ []))) (sym (append-nil ls)))
  where
    no_tokens : (vs : List Token) → lexemes vs ≡ [] → vs ≡ []
    no_tokens [] e = refl
    no_tokens (v ∷ vs) e = absurd (cc)
