-- Whole commands, as they are written outside of commands: a `{`, a part or the close of a block, and an end.
use Rattle.std.proofs.Common.{◌≡◌, ℕ, Bool, true, false, List, [], ◌∷◌, ◌++◌, refl, sym, subst, append_assoc}
use Rattle.std.specs.Prelude.{codes}
use Rattle.soy_lexer.specs.CommandSegment.{command_segment, opened_segment}
use Rattle.soy_lexer.specs.Found.Found.{Begins}
use Rattle.soy_lexer.specs.Segment.Segment.{CommandToken}
use Rattle.soy_lexer.specs.TextSegment.{text_segment}
use Rattle.soy_lexer.specs.declared.token.TokenKind.TheVariants as kind
use Rattle.formatted_source.specs.CommandLexemes.{HasLexemes, ends_name}
use Rattle.formatted_source.specs.CommandPieces.{begin_lexeme, end_lexeme, slash_end_lexeme}
use Rattle.formatted_source.specs.Lexemes.{Lexeme}
use Rattle.formatted_source.proofs.ReadTexts.{Outside, Opened, Inside, Reads, opened_reads, reads_append}
use Rattle.formatted_source.proofs.Runs.{RunLexemes, no_run}

-- a written command has these lexemes, wherever it stands outside of commands and whatever follows it
abbrev pub IsRead : List ℕ → List Lexeme → Type 0
IsRead written ls =
    (white : Bool) (run rest : List ℕ) (before : List Lexeme) → RunLexemes run before
    → Reads (Outside white) run (written ++ rest) (before ++ ls) (Outside false) [] rest

-- a `{` begins a command before a text
abbrev pub MayBegin : List ℕ → Type 0
MayBegin text =
    ((white : Bool)
    → text_segment white (123 ∷ text) ≡ Begins (CommandToken kind.Begin (123 ∷ []) (123 ∷ [])) text)

-- and the text goes on as in a command
abbrev pub Opens : List ℕ → Type 0
Opens inner =
    (rest : List ℕ) → MayBegin (inner ++ rest) × (opened_segment (inner ++ rest) ≡ command_segment (inner ++ rest))

-- from a `{` on, up to an end
begun_command : (test : List ℕ → Bool) (inner end : List ℕ) (ls : List Lexeme) (l last : Lexeme) → Opens inner
    → HasLexemes test inner (l ∷ ls) → ((rest : List ℕ) → test (end ++ rest) ≡ true)
    → ((rest : List ℕ) → Reads Inside [] (end ++ rest) (last ∷ []) (Outside false) [] rest)
    → IsRead (123 ∷ (inner ++ end)) (begin_lexeme ∷ (l ∷ (ls ++ (last ∷ []))))
begun_command test inner end ls l last opens part ends closes white run rest before runs =
    let opened = opens (end ++ rest) in
    let reads : Reads Opened [] (inner ++ (end ++ rest)) (l ∷ (ls ++ (last ∷ []))) (Outside false) [] rest =
    reads_append Opened Inside (Outside false) [] (inner ++ (end ++ rest)) (end ++ rest) rest [] [] (l ∷ ls) (last ∷ [])
    (opened_reads (inner ++ (end ++ rest)) (end ++ rest) l ls (l ∷ ls) opened.1 refl (part (end ++ rest) (ends rest)))
    (closes rest) in
    subst (λ text. Reads (Outside white) run (123 ∷ text) (before ++ (begin_lexeme ∷ (l ∷ (ls ++ (last ∷ [])))))
    (Outside false) [] rest) (sym (append_assoc inner end rest))
    (Reads.token_ (Outside white) (Outside false) run (123 ∷ (inner ++ (end ++ rest))) (123 ∷ []) (123 ∷ [])
    (inner ++ (end ++ rest)) kind.Begin before (l ∷ (ls ++ (last ∷ []))) [] rest (opened.0 white) runs reads)

brace_reads : (rest : List ℕ) → Reads Inside [] (125 ∷ rest) (end_lexeme ∷ []) (Outside false) [] rest
brace_reads rest =
    Reads.token_ Inside (Outside false) [] (125 ∷ rest) (125 ∷ []) (125 ∷ []) rest kind.End [] [] [] rest refl no_run
    (Reads.here_ (Outside false) [] rest)

slash_reads : (rest : List ℕ)
    → Reads Inside [] (32 ∷ 47 ∷ 125 ∷ rest) (slash_end_lexeme ∷ []) (Outside false) [] rest
slash_reads rest =
    Reads.skipped_ Inside (Outside false) [] (32 ∷ 47 ∷ 125 ∷ rest) (32 ∷ []) (47 ∷ 125 ∷ rest)
    (slash_end_lexeme ∷ []) [] rest refl
    (Reads.token_ Inside (Outside false) [] (47 ∷ 125 ∷ rest) (47 ∷ 125 ∷ []) (47 ∷ 125 ∷ []) rest kind.SlashEnd [] []
    [] rest refl no_run (Reads.here_ (Outside false) [] rest))

-- a command that ends with `}`
pub command_read : (test : List ℕ → Bool) (inner : List ℕ) (l : Lexeme) (ls : List Lexeme) → Opens inner
    → HasLexemes test inner (l ∷ ls) → ((rest : List ℕ) → test (125 ∷ rest) ≡ true)
    → IsRead (123 ∷ (inner ++ codes "}")) (begin_lexeme ∷ (l ∷ (ls ++ (end_lexeme ∷ []))))
command_read test inner l ls opens part ends =
    begun_command test inner (codes "}") ls l end_lexeme opens part ends brace_reads

-- and one that ends with ` /}`
pub alone_read : (inner : List ℕ) (l : Lexeme) (ls : List Lexeme) → Opens inner
    → HasLexemes ends_name inner (l ∷ ls)
    → IsRead (123 ∷ (inner ++ codes " /}")) (begin_lexeme ∷ (l ∷ (ls ++ (slash_end_lexeme ∷ []))))
alone_read inner l ls opens part =
    begun_command ends_name inner (codes " /}") ls l slash_end_lexeme opens part (λ rest. refl) slash_reads

-- the close of a block
abbrev pub close_lexemes : List ℕ → List Lexeme
close_lexemes name = begin_lexeme ∷ ((kind.BeginClose, name) ∷ (end_lexeme ∷ []))

pub close_read : (name : List ℕ) → ((rest : List ℕ) → MayBegin (47 ∷ (name ++ (125 ∷ rest))))
    → ((rest : List ℕ) → opened_segment (47 ∷ (name ++ (125 ∷ rest)))
    ≡ Begins (CommandToken kind.BeginClose (47 ∷ name) name) (125 ∷ rest))
    → IsRead (123 ∷ 47 ∷ (name ++ (125 ∷ []))) (close_lexemes name)
close_read name may found white run rest before runs =
    subst (λ text. Reads (Outside white) run (123 ∷ 47 ∷ text) (before ++ close_lexemes name) (Outside false) [] rest)
    (sym (append_assoc name (125 ∷ []) rest))
    (Reads.token_ (Outside white) (Outside false) run (123 ∷ 47 ∷ (name ++ (125 ∷ rest))) (123 ∷ []) (123 ∷ [])
    (47 ∷ (name ++ (125 ∷ rest))) kind.Begin before ((kind.BeginClose, name) ∷ (end_lexeme ∷ [])) [] rest
    (may rest white) runs
    (Reads.token_ Opened (Outside false) [] (47 ∷ (name ++ (125 ∷ rest))) (47 ∷ name) name (125 ∷ rest)
    kind.BeginClose [] (end_lexeme ∷ []) [] rest (found rest) no_run (brace_reads rest)))

-- for a text that begins so, by each white space before it
pub begins_both : (text : List ℕ)
    → text_segment true (123 ∷ text) ≡ Begins (CommandToken kind.Begin (123 ∷ []) (123 ∷ [])) text
    → text_segment false (123 ∷ text) ≡ Begins (CommandToken kind.Begin (123 ∷ []) (123 ∷ [])) text → MayBegin text
begins_both text one two true = one
begins_both text one two false = two
