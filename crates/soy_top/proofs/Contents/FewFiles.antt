-- What the words ask for has at most 64 template files that are accepted together.
use Rattle.std.proofs.Common.{◌≡◌, ℕ, ◌≤◌, Bool, true, false, cond, ◌&&◌, List, [], ◌∷◌, length, Option, Some, None}
use Rattle.std.proofs.Common.{option_map, refl, sym, subst, arith, codes, nat_lt, nat_le}
use Rattle.std.specs.Str.{bytes_eq}
use Rattle.std.proofs.lemmas.Bool.{leb-true}
use Rattle.soy_top.specs.Asked.{Asked, Render, Check, Extract, Gen, Play, Preview, has_file_count, with_files}
use Rattle.soy_top.specs.Asked.{render_asked, check_asked, number_of, gen_asked, play_asked}
use Rattle.soy_top.specs.Asked.{preview_asked, format_asked, asked_by_words, source_files}
use Rattle.soy_top.specs.Words.{Word}

both_hold : (a b : Bool) → (a && b) ≡ true → (a ≡ true) × (b ≡ true)
both_hold true b h = (refl, h)
both_hold false b h = let e : false ≡ true = h in cc

abbrev AreFew : Option Asked → Type 0
AreFew None = Unit {0}
AreFew (Some asked) = length (source_files asked) ≤ 64

counted : (asked : Asked) (files : List Word) (b : Bool) → source_files asked ≡ files → has_file_count files ≡ b
    → AreFew (cond b (Some asked) None)
counted asked files true are e =
    let most = leb-true (length files) 64 (both_hold (nat_lt 0 (length files)) (nat_le (length files) 64) e).1 in
    subst (λ fs. length fs ≤ 64) (sym are) most
counted asked files false are e = tt

with_few : (asked : Asked) (files : List Word) → source_files asked ≡ files → AreFew (with_files asked files)
with_few asked files are = counted asked files (has_file_count files) are refl

chosen : (b : Bool) (x y : Option Asked) → AreFew x → AreFew y → AreFew (cond b x y)
chosen true x y p q = p
chosen false x y p q = q

render_few : (words : List Word) → AreFew (render_asked words)
render_few [] = tt
render_few (t ∷ []) = tt
render_few (t ∷ j ∷ []) = tt
render_few (t ∷ j ∷ b ∷ files) = with_few (Render t j b files) files refl

check_few : (words : List Word) → AreFew (check_asked words)
check_few [] = tt
check_few (b ∷ files) = with_few (Check b files) files refl

number_few : (n : Option ℕ) → AreFew (option_map Gen n)
number_few None = tt
number_few (Some n) = omega arith

gen_few : (words : List Word) → AreFew (gen_asked words)
gen_few [] = tt
gen_few (number ∷ []) = number_few (number_of number)
gen_few (number ∷ other ∷ words) = tt

play_few : (words : List Word) → AreFew (play_asked words)
play_few [] = tt
play_few (s ∷ []) = tt
play_few (s ∷ a ∷ []) = tt
play_few (s ∷ a ∷ b ∷ files) = with_few (Play s a b files) files refl

preview_few : (words : List Word) → AreFew (preview_asked words)
preview_few [] = tt
preview_few (t ∷ []) = tt
preview_few (t ∷ j ∷ []) = tt
preview_few (t ∷ j ∷ b ∷ files) = with_few (Preview t j b files) files refl

format_few : (words : List Word) → AreFew (format_asked words)
format_few [] = tt
format_few (file ∷ []) = omega arith
format_few (file ∷ other ∷ words) = tt

asked_few : (words : List Word) → AreFew (asked_by_words words)
asked_few [] = tt
asked_few (command ∷ words) =
    chosen (bytes_eq command (codes "render")) _ _ (render_few words)
    (chosen (bytes_eq command (codes "check")) _ _ (check_few words)
    (chosen (bytes_eq command (codes "extract")) _ _ (with_few (Extract words) words refl)
    (chosen (bytes_eq command (codes "gen")) _ _ (gen_few words)
    (chosen (bytes_eq command (codes "play")) _ _ (play_few words)
    (chosen (bytes_eq command (codes "preview")) _ _ (preview_few words)
    (chosen (bytes_eq command (codes "format")) _ _ (format_few words) tt))))))

pub few-files : (words : List Word) (asked : Asked) → Some asked ≡ asked_by_words words
    → length (source_files asked) ≤ 64
few-files words asked is = subst AreFew (sym is) (asked_few words)
