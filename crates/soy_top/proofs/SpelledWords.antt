-- Words that ask for something are the command with its words.
use Rattle.std.proofs.Common.{◌≡◌, ℕ, Bool, true, false, cond, List, [], ◌∷◌, Option, Some, None, option_map, refl, sym}
use Rattle.std.proofs.Common.{subst, codes, ap, ◌∙◌}
use Rattle.std.specs.Prelude.{IfSome, IsTrue, if◌then◌else◌}
use Rattle.std.specs.Str.{bytes_eq}
use Rattle.std.proofs.lemmas.Slice.Eq.{bytes_eq-Decides}
use Rattle.soy_top.specs.Asked.{Asked, Render, Check, Extract, Gen, Play, Preview, Format, has_file_count, render_asked}
use Rattle.soy_top.specs.Asked.{check_asked, extract_asked, gen_asked, play_asked, preview_asked, format_asked}
use Rattle.soy_top.specs.Asked.{number_of, asked_by_words}
use Rattle.soy_top.specs.Commands.IsGenerated.{AreGen}
use Rattle.soy_top.specs.Words.{Word}

-- the words of what is asked
abbrev pub IsSpelled : List Word → Asked → Type 0
IsSpelled words (Render template json bundle files) =
    (words ≡ codes "render" ∷ template ∷ json ∷ bundle ∷ files) × IsTrue (has_file_count files)
IsSpelled words (Check bundle files) = (words ≡ codes "check" ∷ bundle ∷ files) × IsTrue (has_file_count files)
IsSpelled words (Extract files) = (words ≡ codes "extract" ∷ files) × IsTrue (has_file_count files)
IsSpelled words (Gen number) = AreGen words number
IsSpelled words (Play script first second files) =
    (words ≡ codes "play" ∷ script ∷ first ∷ second ∷ files) × IsTrue (has_file_count files)
IsSpelled words (Preview template json bundle files) =
    (words ≡ codes "preview" ∷ template ∷ json ∷ bundle ∷ files) × IsTrue (has_file_count files)
IsSpelled words (Format file) = words ≡ codes "format" ∷ file ∷ []

counted : (words : List Word) (asked : Asked) (files : List Word) (b : Bool) → has_file_count files ≡ b
    → (IsTrue (has_file_count files) → IsSpelled words asked) → IfSome (cond b (Some asked) None) (IsSpelled words)
counted words asked files true is h = h is
counted words asked files false is h = tt

render_spelled : (words : List Word) → IfSome (render_asked words) (IsSpelled (codes "render" ∷ words))
render_spelled [] = tt
render_spelled (t ∷ []) = tt
render_spelled (t ∷ j ∷ []) = tt
render_spelled (t ∷ j ∷ b ∷ files) =
    counted _ (Render t j b files) files (has_file_count files) refl (λ few. (refl, few))

check_spelled : (words : List Word) → IfSome (check_asked words) (IsSpelled (codes "check" ∷ words))
check_spelled [] = tt
check_spelled (b ∷ files) = counted _ (Check b files) files (has_file_count files) refl (λ few. (refl, few))

extract_spelled : (files : List Word) → IfSome (extract_asked files) (IsSpelled (codes "extract" ∷ files))
extract_spelled files = counted _ (Extract files) files (has_file_count files) refl (λ few. (refl, few))

number_spelled : (digits : Word) (n : Option ℕ) → number_of digits ≡ n
    → IfSome (option_map Gen n) (IsSpelled (codes "gen" ∷ digits ∷ []))
number_spelled digits None is = tt
number_spelled digits (Some n) is = (digits, refl, is)

gen_spelled : (words : List Word) → IfSome (gen_asked words) (IsSpelled (codes "gen" ∷ words))
gen_spelled [] = tt
gen_spelled (digits ∷ []) = number_spelled digits (number_of digits) refl
gen_spelled (number ∷ other ∷ words) = tt

play_spelled : (words : List Word) → IfSome (play_asked words) (IsSpelled (codes "play" ∷ words))
play_spelled [] = tt
play_spelled (s ∷ []) = tt
play_spelled (s ∷ a ∷ []) = tt
play_spelled (s ∷ a ∷ b ∷ files) =
    counted _ (Play s a b files) files (has_file_count files) refl (λ few. (refl, few))

preview_spelled : (words : List Word) → IfSome (preview_asked words) (IsSpelled (codes "preview" ∷ words))
preview_spelled [] = tt
preview_spelled (t ∷ []) = tt
preview_spelled (t ∷ j ∷ []) = tt
preview_spelled (t ∷ j ∷ b ∷ files) =
    counted _ (Preview t j b files) files (has_file_count files) refl (λ few. (refl, few))

format_spelled : (words : List Word) → IfSome (format_asked words) (IsSpelled (codes "format" ∷ words))
format_spelled [] = tt
format_spelled (file ∷ []) = refl
format_spelled (file ∷ other ∷ words) = tt

-- what is asked by the words of a command, and else by those of the others
choice : (command name : Word) (words : List Word) (b : Bool) (x y : Option Asked) → bytes_eq command name ≡ b
    → IfSome x (IsSpelled (name ∷ words)) → IfSome y (IsSpelled (command ∷ words))
    → IfSome (cond b x y) (IsSpelled (command ∷ words))
choice command name words true x y e p q =
    subst (λ c. IfSome x (IsSpelled (c ∷ words))) (sym ((bytes_eq-Decides command name).0 e)) p
choice command name words false x y e p q = q

module _ (command : Word) (words : List Word) where
  by_name : (name : Word) (x y : Option Asked) → IfSome x (IsSpelled (name ∷ words))
      → IfSome y (IsSpelled (command ∷ words))
      → IfSome (cond (bytes_eq command name) x y) (IsSpelled (command ∷ words))
  by_name name x y p q = choice command name words (bytes_eq command name) x y refl p q

spelled_by : (words : List Word) → IfSome (asked_by_words words) (IsSpelled words)
spelled_by [] = tt
spelled_by (command ∷ words) =
    by_name command words (codes "render") _ _ (render_spelled words)
    (by_name command words (codes "check") _ _ (check_spelled words)
    (by_name command words (codes "extract") _ _ (extract_spelled words)
    (by_name command words (codes "gen") _ _ (gen_spelled words)
    (by_name command words (codes "play") _ _ (play_spelled words)
    (by_name command words (codes "preview") _ _ (preview_spelled words)
    (by_name command words (codes "format") _ _ (format_spelled words) tt))))))

pub spelled-asked : (words : List Word) (asked : Asked) → asked_by_words words ≡ Some asked → IsSpelled words asked
spelled-asked words asked is = subst (λ o. IfSome o (IsSpelled words)) is (spelled_by words)

-- ---- so spelled words ask for it

module _ (words : List Word) where
  pub render_asks : (template json bundle : Word) (files : List Word)
      → words ≡ codes "render" ∷ template ∷ json ∷ bundle ∷ files → IsTrue (has_file_count files)
      → asked_by_words words ≡ Some (Render template json bundle files)
  render_asks template json bundle files is few =
      ap asked_by_words is ∙ ap (λ b. if b then Some (Render template json bundle files) else None) few

  pub preview_asks : (template json bundle : Word) (files : List Word)
      → words ≡ codes "preview" ∷ template ∷ json ∷ bundle ∷ files → IsTrue (has_file_count files)
      → asked_by_words words ≡ Some (Preview template json bundle files)
  preview_asks template json bundle files is few =
      ap asked_by_words is ∙ ap (λ b. if b then Some (Preview template json bundle files) else None) few

  pub check_asks : (bundle : Word) (files : List Word) → words ≡ codes "check" ∷ bundle ∷ files
      → IsTrue (has_file_count files) → asked_by_words words ≡ Some (Check bundle files)
  check_asks bundle files is few =
      ap asked_by_words is ∙ ap (λ b. if b then Some (Check bundle files) else None) few

  pub extract_asks : (files : List Word) → words ≡ codes "extract" ∷ files → IsTrue (has_file_count files)
      → asked_by_words words ≡ Some (Extract files)
  extract_asks files is few = ap asked_by_words is ∙ ap (λ b. if b then Some (Extract files) else None) few

  pub gen_asks : (number : ℕ) → AreGen words number → asked_by_words words ≡ Some (Gen number)
  gen_asks number are = ap asked_by_words are.1 ∙ ap (option_map Gen) are.2

  pub play_asks : (script first second : Word) (files : List Word)
      → words ≡ codes "play" ∷ script ∷ first ∷ second ∷ files → IsTrue (has_file_count files)
      → asked_by_words words ≡ Some (Play script first second files)
  play_asks script first second files is few =
      ap asked_by_words is ∙ ap (λ b. if b then Some (Play script first second files) else None) few

  pub format_asks : (file : Word) → words ≡ codes "format" ∷ file ∷ [] → asked_by_words words ≡ Some (Format file)
  format_asks file is = ap asked_by_words is
