-- The classes of the blocks, by steps.
use Rattle.std.proofs.Common.{◌≡◌, ℕ, ◌≤◌, nat_lt, List, [], ◌∷◌, if◌then◌else◌}
use Rattle.std.proofs.lemmas.Bool.Decides.{nat_tests}
use Rattle.ucd_category.specs.declared.GeneralCategory.{GeneralCategory}
use Rattle.ucd_category.specs.GeneralCategory.{general_category}
use Rattle.bidi_class.specs.declared.class.Class.{Class}
use Rattle.bidi_class.specs.declared.class.Class.TheVariants.{L, R, AL, EN, ES, ET, AN, CS, BN, B, WS, ON, LRE, LRO}
use Rattle.bidi_class.specs.declared.class.Class.TheVariants.{RLE, RLO, PDF, LRI, RLI, FSI, PDI}
use Rattle.bidi_class.specs.Class.{bidi_class, class_rows}
use Rattle.bidi_class.specs.CategoryClass.{unless_mark, category_class}
use Rattle.bidi_class.proofs.Runs.{first_class-class_by_runs}

-- what the table says of the characters of a run
pub data Step : Type 0 where
  -- they are all of one class
  All : Class → Step
  -- those that are no marks are of one class
  Letters : Class → Step
  -- only their category tells
  Any : Step

-- the class by a step of a character of a category
abbrev pub step_class : Step → GeneralCategory → Class
step_class (All class) category = class
step_class (Letters class) category = unless_mark class category
step_class Any category = category_class category

-- the class by the first step that ends past the character
abbrev pub class_by_steps : List (ℕ × Step) → ℕ → Class
class_by_steps [] c = bidi_class c
class_by_steps (step ∷ steps) c = if nat_lt c step.0 then step_class step.1 (general_category c)
    else class_by_steps steps c

-- where the runs of the steps end
abbrev pub ends : List (ℕ × Step) → List ℕ
ends [] = []
ends (step ∷ steps) = step.0 ∷ ends steps

-- 0080 to 058F: Latin, Greek, Cyrillic and Armenian
abbrev pub latin_steps : List (ℕ × Step)
latin_steps =
    (0x0085, All BN) ∷ (0x0086, All B) ∷ (0x00A0, All BN) ∷ (0x00A1, All CS) ∷ (0x00A2, Any) ∷ (0x00A6, All ET)
    ∷ (0x00AD, Any)
    ∷ (0x00AE, All BN) ∷ (0x00B0, Any) ∷ (0x00B2, All ET) ∷ (0x00B4, All EN) ∷ (0x00B9, Any) ∷ (0x00BA, All EN)
    ∷ (0x00BC, Any)
    ∷ (0x00BF, All ON) ∷ (0x0590, Any) ∷ []

-- the table's classes are those of the steps
pub latin : (c : ℕ) → 0x0080 ≤ c → bidi_class c ≡ class_by_steps latin_steps c
unfolding bidi_class
latin c above =
    first_class-class_by_runs class_rows 0x0080 (ends latin_steps) c above

pub ruleset latin_classes = (nat_tests, latin)

-- 0590 to 08FF: Hebrew, Arabic and their neighbors
abbrev pub right_to_left_steps : List (ℕ × Step)
right_to_left_steps =
    (0x0600, Letters R) ∷ (0x0606, All AN) ∷ (0x060C, Letters AL) ∷ (0x060D, All CS) ∷ (0x061C, Letters AL)
    ∷ (0x061D, All AL) ∷ (0x0660, Letters AL)
    ∷ (0x066A, All AN) ∷ (0x066B, All ET) ∷ (0x066D, All AN) ∷ (0x06DD, Letters AL) ∷ (0x06DE, All AN)
    ∷ (0x06F0, Letters AL) ∷ (0x06FA, All EN)
    ∷ (0x07C0, Letters AL) ∷ (0x0860, Letters R) ∷ (0x0900, Letters AL) ∷ []

-- the table's classes are those of the steps
pub right_to_left : (c : ℕ) → 0x0590 ≤ c → bidi_class c ≡ class_by_steps right_to_left_steps c
unfolding bidi_class
right_to_left c above =
    first_class-class_by_runs class_rows 0x0590 (ends right_to_left_steps) c above

pub ruleset right_to_left_classes = (nat_tests, right_to_left)

-- 2000 to 202F: spaces, marks and embeddings
abbrev pub spaces_steps : List (ℕ × Step)
spaces_steps =
    (0x200B, All WS) ∷ (0x200E, All BN) ∷ (0x200F, All L) ∷ (0x2010, All R) ∷ (0x2028, Any) ∷ (0x2029, All WS)
    ∷ (0x202A, All B)
    ∷ (0x202B, All LRE) ∷ (0x202C, All RLE) ∷ (0x202D, All PDF) ∷ (0x202E, All LRO) ∷ (0x202F, All RLO)
    ∷ (0x2030, All CS) ∷ []

-- the table's classes are those of the steps
pub spaces : (c : ℕ) → 0x2000 ≤ c → bidi_class c ≡ class_by_steps spaces_steps c
unfolding bidi_class
spaces c above =
    first_class-class_by_runs class_rows 0x2000 (ends spaces_steps) c above

pub ruleset spaces_classes = (nat_tests, spaces)

-- 2030 to 206F: punctuation and isolates
abbrev pub punctuation_steps : List (ℕ × Step)
punctuation_steps =
    (0x2035, All ET) ∷ (0x2044, Any) ∷ (0x2045, All CS) ∷ (0x205F, Any) ∷ (0x2060, All WS) ∷ (0x2065, All BN)
    ∷ (0x2066, Any)
    ∷ (0x2067, All LRI) ∷ (0x2068, All RLI) ∷ (0x2069, All FSI) ∷ (0x206A, All PDI) ∷ (0x2070, Any) ∷ []

-- the table's classes are those of the steps
pub punctuation : (c : ℕ) → 0x2030 ≤ c → bidi_class c ≡ class_by_steps punctuation_steps c
unfolding bidi_class
punctuation c above =
    first_class-class_by_runs class_rows 0x2030 (ends punctuation_steps) c above

pub ruleset punctuation_classes = (nat_tests, punctuation)

-- 2070 to 2213: superscripts, currencies and operators
abbrev pub symbols_steps : List (ℕ × Step)
symbols_steps =
    (0x2071, All EN) ∷ (0x2074, Any) ∷ (0x207A, All EN) ∷ (0x207C, All ES) ∷ (0x2080, Any) ∷ (0x208A, All EN)
    ∷ (0x20A0, Any)
    ∷ (0x20D0, All ET) ∷ (0x212E, Any) ∷ (0x212F, All ET) ∷ (0x2212, Any) ∷ (0x2213, All ES) ∷ (0x2214, All ET) ∷ []

-- the table's classes are those of the steps
pub symbols : (c : ℕ) → 0x2070 ≤ c → bidi_class c ≡ class_by_steps symbols_steps c
unfolding bidi_class
symbols c above =
    first_class-class_by_runs class_rows 0x2070 (ends symbols_steps) c above

pub ruleset symbols_classes = (nat_tests, symbols)

-- FB1D to FEFF: presentation forms
abbrev pub presentation_steps : List (ℕ × Step)
presentation_steps =
    (0xFB50, Letters R) ∷ (0xFDD0, Letters AL) ∷ (0xFDF0, Any) ∷ (0xFE00, Letters AL) ∷ (0xFE70, Any)
    ∷ (0xFEFF, Letters AL) ∷ (0xFF00, All BN) ∷ []

-- the table's classes are those of the steps
pub presentation : (c : ℕ) → 0xFB1D ≤ c → bidi_class c ≡ class_by_steps presentation_steps c
unfolding bidi_class
presentation c above =
    first_class-class_by_runs class_rows 0xFB1D (ends presentation_steps) c above

pub ruleset presentation_classes = (nat_tests, presentation)

-- 10800 to 10FFF: right-to-left scripts of the supplementary plane
abbrev pub old_scripts_steps : List (ℕ × Step)
old_scripts_steps =
    (0x10D00, Letters R) ∷ (0x10D40, Letters AL) ∷ (0x10EC0, Letters R) ∷ (0x10F00, Letters AL) ∷ (0x10F30, Letters R)
    ∷ (0x10F70, Letters AL) ∷ (0x11000, Letters R) ∷ []

-- the table's classes are those of the steps
pub old_scripts : (c : ℕ) → 0x10800 ≤ c → bidi_class c ≡ class_by_steps old_scripts_steps c
unfolding bidi_class
old_scripts c above =
    first_class-class_by_runs class_rows 0x10800 (ends old_scripts_steps) c above

pub ruleset old_scripts_classes = (nat_tests, old_scripts)

-- 1E800 to 1EFFF: right-to-left scripts and mathematical letters
abbrev pub new_scripts_steps : List (ℕ × Step)
new_scripts_steps =
    (0x1EC70, Letters R) ∷ (0x1ECC0, Letters AL) ∷ (0x1ED00, Letters R) ∷ (0x1ED50, Letters AL) ∷ (0x1EE00, Letters R)
    ∷ (0x1EF00, Letters AL) ∷ (0x1F000, Letters R) ∷ []

-- the table's classes are those of the steps
pub new_scripts : (c : ℕ) → 0x1E800 ≤ c → bidi_class c ≡ class_by_steps new_scripts_steps c
unfolding bidi_class
new_scripts c above =
    first_class-class_by_runs class_rows 0x1E800 (ends new_scripts_steps) c above

pub ruleset new_scripts_classes = (nat_tests, new_scripts)

-- 0900 to 1FFF: scripts of India and of other places
abbrev pub indic_steps : List (ℕ × Step)
indic_steps = (0x1680, Any) ∷ (0x1681, All WS) ∷ (0x2000, Any) ∷ []

-- the table's classes are those of the steps
pub indic : (c : ℕ) → 0x0900 ≤ c → bidi_class c ≡ class_by_steps indic_steps c
unfolding bidi_class
indic c above = first_class-class_by_runs class_rows 0x0900 (ends indic_steps) c above

pub ruleset indic_classes = (nat_tests, indic)

-- 2214 to FB1C: symbols and East Asian scripts
abbrev pub east_asian_steps : List (ℕ × Step)
east_asian_steps = (0x3000, Any) ∷ (0x3001, All WS) ∷ (0xFB1D, Any) ∷ []

-- the table's classes are those of the steps
pub east_asian : (c : ℕ) → 0x2214 ≤ c → bidi_class c ≡ class_by_steps east_asian_steps c
unfolding bidi_class
east_asian c above = first_class-class_by_runs class_rows 0x2214 (ends east_asian_steps) c above

pub ruleset east_asian_classes = (nat_tests, east_asian)

-- FF00 to 107FF: only the category tells
pub forms : (c : ℕ) → 0xFF00 ≤ c → bidi_class c ≡ class_by_steps ((0x10800, Any) ∷ []) c
unfolding bidi_class
forms c above = first_class-class_by_runs class_rows 0xFF00 (0x10800 ∷ []) c above

-- 11000 to 1E7FF: only the category tells
pub supplementary : (c : ℕ) → 0x11000 ≤ c → bidi_class c ≡ class_by_steps ((0x1E800, Any) ∷ []) c
unfolding bidi_class
supplementary c above = first_class-class_by_runs class_rows 0x11000 (0x1E800 ∷ []) c above

-- 1F000 to 10FFFF: only the category tells
pub pictures : (c : ℕ) → 0x1F000 ≤ c → bidi_class c ≡ class_by_steps ((0x110000, Any) ∷ []) c
unfolding bidi_class
pictures c above = first_class-class_by_runs class_rows 0x1F000 (0x110000 ∷ []) c above

pub ruleset other_classes = (nat_tests, forms, supplementary, pictures)
