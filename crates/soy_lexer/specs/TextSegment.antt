-- What text outside of commands begins with: a comment, a literal, the `{` of a command, or one character of a text
-- run.
--
-- A `//` begins a comment where white space or the file's start stands directly before it, so `http://` begins none. No
-- token begins at a comment or literal without its end, at a `{` that white space or another `{` follows, or at a `}`.
use Rattle.std.specs.Prelude.{ℕ, List, [], ◌∷◌, ◌++◌, Bool, true, false, ◌==◌, ◌||◌, not, if◌then◌else◌, Option, None}
use Rattle.std.specs.Prelude.{Some, option_map, unwrap_or, codes}
use Rattle.std.specs.Option.{option_or}
use Rattle.soy_base.specs.WhiteSpace.{is_template_space, is_line_break}
use Rattle.soy_base.specs.Characters.{left_brace, right_brace}
use Rattle.soy_base.specs.Cuts.{after_prefix, cut, prefix_while, after_while}
use Rattle.soy_lexer.specs.CommandSegment.{command_segment, opened_segment}
use Rattle.soy_lexer.specs.Found.{Found, begins}
use Rattle.soy_lexer.specs.declared.mode.Mode.{Mode}
use Rattle.soy_lexer.specs.Segment.Segment.{TextCharacter, Skipped, Literal, CommandToken}
use Rattle.soy_lexer.specs.Found.Found.{Fails}
use Rattle.soy_lexer.specs.declared.mode.Mode.TheVariants.{Outside, Opened, Inside}
use Rattle.soy_lexer.specs.declared.token.TokenKind.TheVariants as kind

abbrev pub closed_comment : Option (List ℕ × List ℕ) → Found
closed_comment None = Fails 0
closed_comment (Some parts) = begins (Skipped (codes "/*" ++ (parts.0 ++ codes "*/"))) parts.1

-- `/* .. */`
abbrev pub block_comment : List ℕ → Option Found
block_comment text = option_map (λ inner. closed_comment (cut (codes "*/") inner)) (after_prefix (codes "/*") text)

abbrev pub continues_line : ℕ → Bool
continues_line c = not (is_line_break c)

-- `//` up to the next line break
abbrev pub line_comment : Bool → List ℕ → Option Found
line_comment false text = None
line_comment true text =
    option_map (λ inner. begins (Skipped (codes "//" ++ prefix_while continues_line inner))
    (after_while continues_line inner)) (after_prefix (codes "//") text)

abbrev pub closed_literal : Option (List ℕ × List ℕ) → Found
closed_literal None = Fails 0
closed_literal (Some parts) = begins (Literal parts.0) parts.1

-- `{literal}` up to the next `{/literal}`
abbrev pub literal_segment : List ℕ → Option Found
literal_segment text =
    option_map (λ inner. closed_literal (cut (codes "{/literal}") inner)) (after_prefix (codes "{literal}") text)

-- whether a `{` before this text begins a command
abbrev pub may_begin : List ℕ → Bool
may_begin [] = true
may_begin (c ∷ cs) = not (is_template_space c || c == left_brace)

-- a `{`, or one character of a run
abbrev pub plain_segment : List ℕ → Found
plain_segment [] = Fails 0
plain_segment (c ∷ cs) =
    if c == left_brace then (if may_begin cs then begins (CommandToken kind.Begin (c ∷ []) (c ∷ [])) cs else Fails 0)
    else if c == right_brace then Fails 0
    else begins (TextCharacter c) cs

abbrev pub text_segment : Bool → List ℕ → Found
text_segment white text =
    unwrap_or (option_or (block_comment text) (option_or (line_comment white text) (literal_segment text)))
    (plain_segment text)

-- what a text begins with in this mode
abbrev pub segment_of : Mode → List ℕ → Found
segment_of (Outside white) text = text_segment white text
segment_of Opened text = opened_segment text
segment_of Inside text = command_segment text
