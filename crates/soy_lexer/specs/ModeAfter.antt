-- The mode in which a reader is after a segment: whether it is outside of commands, with white space or the file's
-- start directly before the rest or not; in a command, directly after its `{`; or in a command, further on.
--
-- After the `{` of `{a}` the mode is Opened, after `a` Inside, and after `}` Outside, with no white space before the
-- rest.
use Rattle.std.specs.Prelude.{false}
use Rattle.soy_base.specs.WhiteSpace.{is_template_space}
use Rattle.soy_lexer.specs.Segment.{Segment}
use Rattle.soy_lexer.specs.Segment.Segment.{TextCharacter, Skipped, Literal, CommandToken}
use Rattle.soy_lexer.specs.declared.mode.Mode.{Mode}
use Rattle.soy_lexer.specs.declared.mode.Mode.TheVariants.{Outside, Opened, Inside}
use Rattle.soy_lexer.specs.declared.token.TokenKind.{TokenKind}
use Rattle.soy_lexer.specs.declared.token.TokenKind.TheVariants as kind

abbrev pub mode_after_token : TokenKind → Mode
mode_after_token kind.Begin = Opened
mode_after_token kind.End = Outside false
mode_after_token kind.SlashEnd = Outside false
mode_after_token _ = Inside

-- what is skipped is a comment in text, and white space in a command
abbrev pub mode_after_skipped : Mode → Mode
mode_after_skipped (Outside white) = Outside false
mode_after_skipped Opened = Inside
mode_after_skipped Inside = Inside

abbrev pub mode_after : Mode → Segment → Mode
mode_after mode (TextCharacter c) = Outside (is_template_space c)
mode_after mode (Skipped text) = mode_after_skipped mode
mode_after mode (Literal text) = Outside false
mode_after mode (CommandToken kind text value) = mode_after_token kind
