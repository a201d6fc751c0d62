-- The bidirectional class of a character.
--
-- The rows stand in an order, each with the characters that it covers: ranges of code points, or general
-- categories. The first row that covers a character gives its class, and a character that no row covers is ON.
-- So U+2070, a number by its category, is EN and not L, and U+0661, inside the Arabic block, is AN and not AL.
--
-- The names and the meaning of the classes are those of UAX #9, table 4. The rows are this project's own table,
-- written after the property Bidi_Class; where the two differ, the rows decide.
use Rattle.std.specs.Prelude.{ℕ, Bool, true, false, ◌&&◌, nat_le, List, [], ◌∷◌, if◌then◌else◌}
use Rattle.std.specs.List.{list_any}
use Rattle.ucd_category.specs.declared.GeneralCategory.{GeneralCategory}
use Rattle.ucd_category.specs.declared.GeneralCategory.TheVariants.{UppercaseLetter, LowercaseLetter, TitlecaseLetter}
use Rattle.ucd_category.specs.declared.GeneralCategory.TheVariants.{ModifierLetter, OtherLetter, NonspacingMark}
use Rattle.ucd_category.specs.declared.GeneralCategory.TheVariants.{SpacingMark, EnclosingMark, DecimalNumber}
use Rattle.ucd_category.specs.declared.GeneralCategory.TheVariants.{LetterNumber, OtherNumber}
use Rattle.ucd_category.specs.GeneralCategory.{general_category, general_category_eq}
use Rattle.bidi_class.specs.declared.class.Class.{Class}
use Rattle.bidi_class.specs.declared.class.Class.TheVariants.{L, R, AL, EN, ES, ET, AN, CS, NSM, BN, B, S, WS, ON, LRE}
use Rattle.bidi_class.specs.declared.class.Class.TheVariants.{LRO, RLE, RLO, PDF, LRI, RLI, FSI, PDI}

-- the characters of a row
pub data Characters : Type 0 where
  -- ranges of code points, each from its first to its last
  Points : List (ℕ × ℕ) → Characters
  -- all characters of some general categories
  Categories : List GeneralCategory → Characters

-- a range of one code point
abbrev pub only : ℕ → ℕ × ℕ
only c = (c, c)

-- the range holds the code point
abbrev pub is_in : ℕ → ℕ × ℕ → Bool
is_in c range = nat_le range.0 c && nat_le c range.1

-- the category is one of these
abbrev pub is_one_of : GeneralCategory → List GeneralCategory → Bool
is_one_of category categories = list_any (general_category_eq category) categories

-- the code point is among the characters of a row
abbrev pub is_covered : Characters → ℕ → Bool
is_covered (Points ranges) c = list_any (is_in c) ranges
is_covered (Categories categories) c = is_one_of (general_category c) categories

-- the class that the first of the rows gives that covers the character, or ON
abbrev pub first_class : List (Class × Characters) → ℕ → Class
first_class [] c = ON
first_class (row ∷ rows) c = if is_covered row.1 c then row.0 else first_class rows c

-- Mn and Me
abbrev pub mark_categories : List GeneralCategory
mark_categories = NonspacingMark ∷ EnclosingMark ∷ []

-- the categories of letters and of numbers, and Mc
abbrev pub letter_categories : List GeneralCategory
letter_categories =
    UppercaseLetter ∷ LowercaseLetter ∷ TitlecaseLetter ∷ ModifierLetter ∷ OtherLetter ∷ DecimalNumber ∷ LetterNumber
    ∷ OtherNumber ∷ SpacingMark ∷ []

-- the table
abbrev pub class_rows : List (Class × Characters)
class_rows =
    (B, Points (only 0x000A ∷ only 0x000D ∷ (0x001C, 0x001E) ∷ only 0x0085 ∷ only 0x2029 ∷ []))
    ∷ (S, Points (only 0x0009 ∷ only 0x000B ∷ only 0x001F ∷ []))
    ∷ (
      WS,
      Points (only 0x000C ∷ only 0x0020 ∷ only 0x1680 ∷ (0x2000, 0x200A) ∷ only 0x2028 ∷ only 0x205F
          ∷ only 0x3000 ∷ []),
    )
    ∷ (
      CS,
      Points (only 0x002C ∷ (0x002E, 0x002F) ∷ only 0x003A ∷ only 0x00A0 ∷ only 0x060C ∷ only 0x202F
          ∷ only 0x2044 ∷ []),
    )
    ∷ (ES, Points (only 0x002B ∷ only 0x002D ∷ (0x207A, 0x207B) ∷ only 0x2212 ∷ []))
    ∷ (
      ET,
      Points ((0x0023, 0x0025) ∷ (0x00A2, 0x00A5) ∷ (0x00B0, 0x00B1) ∷ only 0x066A ∷ (0x2030, 0x2034)
          ∷ (0x20A0, 0x20CF) ∷ only 0x212E ∷ only 0x2213 ∷ []),
    )
    ∷ (
      EN,
      Points ((0x0030, 0x0039) ∷ (0x00B2, 0x00B3) ∷ only 0x00B9 ∷ (0x06F0, 0x06F9) ∷ only 0x2070
          ∷ (0x2074, 0x2079) ∷ (0x2080, 0x2089) ∷ []),
    )
    ∷ (AN, Points ((0x0600, 0x0605) ∷ (0x0660, 0x0669) ∷ (0x066B, 0x066C) ∷ only 0x06DD ∷ []))
    ∷ (LRE, Points (only 0x202A ∷ []))
    ∷ (RLE, Points (only 0x202B ∷ []))
    ∷ (PDF, Points (only 0x202C ∷ []))
    ∷ (LRO, Points (only 0x202D ∷ []))
    ∷ (RLO, Points (only 0x202E ∷ []))
    ∷ (LRI, Points (only 0x2066 ∷ []))
    ∷ (RLI, Points (only 0x2067 ∷ []))
    ∷ (FSI, Points (only 0x2068 ∷ []))
    ∷ (PDI, Points (only 0x2069 ∷ []))
    ∷ (L, Points (only 0x200E ∷ []))
    ∷ (R, Points (only 0x200F ∷ []))
    ∷ (AL, Points (only 0x061C ∷ []))
    ∷ (
      BN,
      Points ((0x0000, 0x0008) ∷ (0x000E, 0x001B) ∷ (0x007F, 0x0084) ∷ (0x0086, 0x009F) ∷ only 0x00AD
          ∷ (0x200B, 0x200D) ∷ (0x2060, 0x2064) ∷ only 0xFEFF ∷ []),
    )
    ∷ (ON, Points ((0x00BC, 0x00BE) ∷ []))
    ∷ (NSM, Categories mark_categories)
    ∷ (
      R,
      Points ((0x0590, 0x05FF) ∷ (0x07C0, 0x085F) ∷ (0xFB1D, 0xFB4F) ∷ (0x10800, 0x10CFF) ∷ (0x10D40, 0x10EBF)
          ∷ (0x10F00, 0x10F2F) ∷ (0x10F70, 0x10FFF) ∷ (0x1E800, 0x1EC6F) ∷ (0x1ECC0, 0x1ECFF) ∷ (0x1ED50, 0x1EDFF)
          ∷ (0x1EF00, 0x1EFFF) ∷ []),
    )
    ∷ (
      AL,
      Points ((0x0600, 0x07BF) ∷ (0x0860, 0x08FF) ∷ (0xFB50, 0xFDCF) ∷ (0xFDF0, 0xFDFF) ∷ (0xFE70, 0xFEFF)
          ∷ (0x10D00, 0x10D3F) ∷ (0x10EC0, 0x10EFF) ∷ (0x10F30, 0x10F6F) ∷ (0x1EC70, 0x1ECBF) ∷ (0x1ED00, 0x1ED4F)
          ∷ (0x1EE00, 0x1EEFF) ∷ []),
    )
    ∷ (L, Categories letter_categories)
    ∷ []

-- the class of a character
unfoldable pub bidi_class : ℕ → Class
bidi_class c = first_class class_rows c

-- the class is that of an initiator: LRI, RLI or FSI (UAX #9, BD8 and its like)
abbrev pub begins_isolate : Class → Bool
begins_isolate LRI = true
begins_isolate RLI = true
begins_isolate FSI = true
begins_isolate _ = false
