-- The lines that the program writes for people, as UTF-8 bytes.
--
-- A refusal is shown by what it speaks of, a colon, a space, the number of its code in decimal
-- digits, a space and the code's word. What it speaks of is a file with a position, a template, or
-- the command that doesn't show what is too long.
-- Example: `t.zz: 29 Entry`.
use Rattle.std.specs.Prelude.{ℕ, ◌+◌, List, [], ◌∷◌, ◌++◌, codes}
use Rattle.std.specs.Fmt.{decimal}
use Rattle.soy_base.specs.declared.code.Code.{Code}
use Rattle.soy_base.specs.declared.code.Code.TheVariants.{TooLarge, Entry, TooLong}
use Rattle.soy_base.specs.declared.fault.Fault.{Fault}
use Rattle.soy_base.specs.Code.{code_number, code_word}
use Rattle.soy_base.specs.Position.{breaks_within, characters_before}
use Rattle.soy_top.specs.Words.{Word}

abbrev pub refusal_line : List ℕ → Code → List ℕ
refusal_line subject code =
    subject ++ (codes ": " ++ (decimal (code_number code) ++ (codes " " ++ code_word code)))

-- the file is longer than its limit, which is shown at its first line and column
abbrev pub too_large_line : Word → List ℕ
too_large_line file = refusal_line (file ++ codes ":1:1") TooLarge

-- the fault of a file, shown at its line and column
abbrev pub fault_line : Word → List ℕ → Fault → List ℕ
fault_line file bytes fault =
    refusal_line (file ++ (codes ":" ++ (decimal (breaks_within bytes fault.at + 1)
    ++ (codes ":" ++ decimal (characters_before bytes fault.at + 1))))) fault.code

-- the template may not be rendered
abbrev pub entry_line : Word → List ℕ
entry_line template = refusal_line template Entry

-- the page is too long to be shown
abbrev pub too_long_line : List ℕ
too_long_line = refusal_line (codes "preview") TooLong

-- the file could not be read
abbrev pub read_line : Word → List ℕ
read_line file = file ++ codes ": read fault"

-- a line with its line feed
abbrev pub ended : List ℕ → List ℕ
ended line = line ++ (10 ∷ [])

-- the usage text, whose seven lines each end with a line feed
abbrev pub usage_text : List ℕ
usage_text =
    codes "usage: soyc render TEMPLATE DATA BUNDLE FILE..\nsoyc check BUNDLE FILE..\nsoyc extract FILE..\nsoyc gen NUMBER\nsoyc play SCRIPT BUNDLE BUNDLE FILE..\nsoyc preview TEMPLATE DATA BUNDLE FILE..\nsoyc format FILE\n"
