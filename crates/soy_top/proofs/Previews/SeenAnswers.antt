-- What is answered by a page that is shown: by what is gathered of it, and never the usage text.
use Rattle.std.proofs.Common.{◌≡◌, ◌≤◌, ◌<◌, ℕ, Bool, true, false, List, length, ap}
use Rattle.std.specs.Prelude.{if◌then◌else◌}
use Rattle.std.proofs.lemmas.Bool.{le-ltb, lt-ltb}
use Rattle.soy_base.specs.declared.direction.Dir.{Dir}
use Rattle.soy_pieces.specs.Outcome.{RunEnd, StopsAt, WholeRun}
use Rattle.soy_top.specs.Answer.{Refused, Usage, seen_lines, seen_page}
use Rattle.soy_top.specs.Line.{too_long_line}
use Rattle.soy_top.specs.SeenText.{is_too_long}
use Rattle.soy_top.specs.Words.{Word}

module _ (names : List Word) (contents : List (List ℕ)) (context : Dir) (text : List ℕ) where
  -- a page that isn't too long is answered by its end
  pub seen_short : (end : RunEnd) → length text ≤ 1048576
      → seen_page names contents context text end ≡ seen_lines names contents context text end
  seen_short end few =
      ap (λ long. if long then Refused too_long_line else seen_lines names contents context text end)
      (le-ltb 1048576 (length text) few)

  -- and one that is, by that alone
  pub seen_long : (end : RunEnd) → 1048576 < length text
      → seen_page names contents context text end ≡ Refused too_long_line
  seen_long end many =
      ap (λ long. if long then Refused too_long_line else seen_lines names contents context text end)
      (lt-ltb 1048576 (length text) many)

  lines_not_usage : (end : RunEnd) → seen_lines names contents context text end ≡ Usage → ⊥
  lines_not_usage WholeRun e = cc
  lines_not_usage (StopsAt site) e = cc

  by_length : (end : RunEnd) (long : Bool)
      → (if long then Refused too_long_line else seen_lines names contents context text end) ≡ Usage → ⊥
  by_length end true e = cc
  by_length end false e = lines_not_usage end e

  pub seen_not_usage : (end : RunEnd) → seen_page names contents context text end ≡ Usage → ⊥
  seen_not_usage end e = by_length end (is_too_long text) e
