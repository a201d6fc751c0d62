-- Characters by their names, each the number of its code point in Unicode.
--
-- A name is Unicode's, in the form that programmers use where that is another: slash for SOLIDUS, colon for COLON.
-- Example: `less_than` is the character `<`.
use Rattle.std.specs.Prelude.{ℕ}

abbrev pub null : ℕ
null = 0x00

abbrev pub tab : ℕ
tab = 0x09

abbrev pub line_feed : ℕ
line_feed = 0x0a

abbrev pub form_feed : ℕ
form_feed = 0x0c

abbrev pub carriage_return : ℕ
carriage_return = 0x0d

abbrev pub space : ℕ
space = 0x20

abbrev pub exclamation_mark : ℕ
exclamation_mark = 0x21

abbrev pub double_quote : ℕ
double_quote = 0x22

abbrev pub number_sign : ℕ
number_sign = 0x23

abbrev pub dollar_sign : ℕ
dollar_sign = 0x24

abbrev pub percent_sign : ℕ
percent_sign = 0x25

abbrev pub ampersand : ℕ
ampersand = 0x26

abbrev pub single_quote : ℕ
single_quote = 0x27

abbrev pub left_parenthesis : ℕ
left_parenthesis = 0x28

abbrev pub right_parenthesis : ℕ
right_parenthesis = 0x29

abbrev pub asterisk : ℕ
asterisk = 0x2a

abbrev pub comma : ℕ
comma = 0x2c

abbrev pub minus_sign : ℕ
minus_sign = 0x2d

abbrev pub full_stop : ℕ
full_stop = 0x2e

abbrev pub slash : ℕ
slash = 0x2f

abbrev pub colon : ℕ
colon = 0x3a

abbrev pub semicolon : ℕ
semicolon = 0x3b

abbrev pub less_than : ℕ
less_than = 0x3c

abbrev pub equals_sign : ℕ
equals_sign = 0x3d

abbrev pub greater_than : ℕ
greater_than = 0x3e

abbrev pub question_mark : ℕ
question_mark = 0x3f

abbrev pub backslash : ℕ
backslash = 0x5c

abbrev pub underscore : ℕ
underscore = 0x5f

abbrev pub backtick : ℕ
backtick = 0x60

abbrev pub left_brace : ℕ
left_brace = 0x7b

abbrev pub right_brace : ℕ
right_brace = 0x7d

abbrev pub no_break_space : ℕ
no_break_space = 0xa0

abbrev pub line_separator : ℕ
line_separator = 0x2028

abbrev pub paragraph_separator : ℕ
paragraph_separator = 0x2029
