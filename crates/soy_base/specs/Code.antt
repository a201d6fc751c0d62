-- The numbers and words of refusals.
--
-- Each code has one number and one word. The numbers 10 and above 33 aren't used. The word is the
-- code's own name but for `Mistyped`, whose word is Type, and `NotJson`, whose word is Data.
-- Example: a file that is too long is refused with 2 and TooLarge.
use Rattle.std.specs.Prelude.{ℕ, List, codes}
use Rattle.soy_base.specs.declared.code.Code.{Code}
use Rattle.soy_base.specs.declared.code.Code.TheVariants.{NotUtf8, TooLarge, Lex, Syntax, Nesting, Twice, Unknown}
use Rattle.soy_base.specs.declared.code.Code.TheVariants.{Mistyped, Argument, Place, Mixed, EndState, InName, States}
use Rattle.soy_base.specs.declared.code.Code.TheVariants.{Ampersand, Reference, Script, UriStart, Kind, Bundle, Icu}
use Rattle.soy_base.specs.declared.code.Code.TheVariants.{Rule, Placeholder, Selector, IdClash, NotJson, DataType}
use Rattle.soy_base.specs.declared.code.Code.TheVariants.{Entry, TooDeep, Step, TooLong}

-- the number of a code
abbrev pub code_number : Code → ℕ
code_number NotUtf8 = 1
code_number TooLarge = 2
code_number Lex = 3
code_number Syntax = 4
code_number Nesting = 5
code_number Twice = 6
code_number Unknown = 7
code_number Mistyped = 8
code_number Argument = 9
code_number Place = 11
code_number Mixed = 12
code_number EndState = 13
code_number InName = 14
code_number States = 15
code_number Ampersand = 16
code_number Reference = 17
code_number Script = 18
code_number UriStart = 19
code_number Kind = 20
code_number Bundle = 21
code_number Icu = 22
code_number Rule = 23
code_number Placeholder = 24
code_number Selector = 25
code_number IdClash = 26
code_number NotJson = 27
code_number DataType = 28
code_number Entry = 29
code_number TooDeep = 31
code_number Step = 32
code_number TooLong = 33

-- the word of a code, in ASCII
abbrev pub code_word : Code → List ℕ
code_word NotUtf8 = codes "NotUtf8"
code_word TooLarge = codes "TooLarge"
code_word Lex = codes "Lex"
code_word Syntax = codes "Syntax"
code_word Nesting = codes "Nesting"
code_word Twice = codes "Twice"
code_word Unknown = codes "Unknown"
code_word Mistyped = codes "Type"
code_word Argument = codes "Argument"
code_word Place = codes "Place"
code_word Mixed = codes "Mixed"
code_word EndState = codes "EndState"
code_word InName = codes "InName"
code_word States = codes "States"
code_word Ampersand = codes "Ampersand"
code_word Reference = codes "Reference"
code_word Script = codes "Script"
code_word UriStart = codes "UriStart"
code_word Kind = codes "Kind"
code_word Bundle = codes "Bundle"
code_word Icu = codes "Icu"
code_word Rule = codes "Rule"
code_word Placeholder = codes "Placeholder"
code_word Selector = codes "Selector"
code_word IdClash = codes "IdClash"
code_word NotJson = codes "Data"
code_word DataType = codes "DataType"
code_word Entry = codes "Entry"
code_word TooDeep = codes "TooDeep"
code_word Step = codes "Step"
code_word TooLong = codes "TooLong"
