-- A `format` is refused exactly where its file is over the limit or deserves a fault by itself.
use Rattle.std.proofs.Common.{◌≡◌, ◌≤◌, ◌<◌, ℕ, Bool, true, false, cond, List, [], ◌∷◌, length, Option, Some, None}
use Rattle.std.proofs.Common.{refl, sym, ap, ◌∙◌, subst, nat_lt}
use Rattle.std.specs.Prelude.{is_some, unwrap_or, Result, Ok, Err}
use Rattle.std.specs.Option.{option_map_or}
use Rattle.std.proofs.lemmas.Bool.{le-ltb, lt-ltb, ltb-false, ltb-true}
use Rattle.soy_base.specs.declared.fault.Fault.{Fault}
use Rattle.soy_front.specs.Deserves.{Deserves}
use Rattle.soy_front.specs.Sources.{source_answer}
use Rattle.soy_front.proofs.SourceLaws.{deserved, only}
use Rattle.soy_io.specs.FileOf.{Files, file_of}
use Rattle.soy_top.specs.Answer.{Answer, Read, Refused, Usage, answer, asked_answer, tree_answer}
use Rattle.soy_top.specs.Asked.{Format}
use Rattle.soy_top.specs.Commands.IsRefusedFormat.{AreFormat, IsRefusedFormat}
use Rattle.soy_top.specs.Commands.IsRefusedFormat.IsRefusedFormat.{Faulty, Large}
use Rattle.soy_top.specs.Line.{fault_line, too_large_line}
use Rattle.soy_top.specs.Words.{Word}
use Rattle.soy_top.proofs.SpelledWords.{format_asks}
use Rattle.soy_tree.specs.declared.tree.Tree.{Tree}

-- lines of one refusal are the same
line_same : (line other : List ℕ) → ◌≡◌ {A = Answer} (Refused line) (Refused other) → other ≡ line
line_same line other e = cc

-- the answer to a `format` by whether its file is over the limit, and by what the library holds of the name
module _ (name : Word) where
  abbrev by_size : List ℕ → Bool → Answer
  by_size bytes over =
      option_map_or (λ file. Refused (too_large_line file)) (cond over (Some name) None)
      (tree_answer name bytes (source_answer bytes))

  abbrev by_file : Option (List ℕ) → Answer
  by_file o =
      let bytes : List ℕ = unwrap_or o [] in
      option_map_or Read (cond (is_some o) None (Some name)) (by_size bytes (nat_lt 1048576 (length bytes)))

module _ (files : Files) (words : List Word) (name : Word) (is : AreFormat words name) where
  answer_by_file : answer files words ≡ by_file name (file_of files name)
  answer_by_file = ap (λ o. option_map_or (asked_answer files) o Usage) (format_asks words name is)

  module _ (line : List ℕ) where
    tree_refused : (bytes : List ℕ) (read : Result Tree Fault) → file_of files name ≡ Some bytes
        → length bytes ≤ 1048576 → source_answer bytes ≡ read → tree_answer name bytes read ≡ Refused line
        → IsRefusedFormat files words line
    tree_refused bytes (Ok tree) held within reads h = cc
    tree_refused bytes (Err fault) held within reads h =
        Faulty name bytes fault is held within (subst (Deserves bytes) reads (deserved bytes))
        (line_same (fault_line name bytes fault) line h)

    size_refused : (bytes : List ℕ) (over : Bool) → file_of files name ≡ Some bytes
        → nat_lt 1048576 (length bytes) ≡ over → by_size name bytes over ≡ Refused line
        → IsRefusedFormat files words line
    size_refused bytes true held e h =
        Large name bytes is held (ltb-true 1048576 (length bytes) e) (line_same (too_large_line name) line h)
    size_refused bytes false held e h =
        tree_refused bytes (source_answer bytes) held (ltb-false 1048576 (length bytes) e) refl h

    file_refused : (o : Option (List ℕ)) → file_of files name ≡ o → by_file name o ≡ Refused line
        → IsRefusedFormat files words line
    file_refused None held h = cc
    file_refused (Some bytes) held h = size_refused bytes (nat_lt 1048576 (length bytes)) held refl h

-- **a refusal of a `format` is that of its file**
pub format_refused : (files : Files) (words : List Word) (name : Word) (line : List ℕ) → AreFormat words name
    → answer files words ≡ Refused line → IsRefusedFormat files words line
format_refused files words name line is h =
    file_refused files words name is line (file_of files name) refl (sym (answer_by_file files words name is) ∙ h)

-- **and it is the answer**
pub refused_format : (files : Files) (words : List Word) (line : List ℕ) → IsRefusedFormat files words line
    → answer files words ≡ Refused line
refused_format files words line (Large name bytes is held over line_is) =
    answer_by_file files words name is
    ∙ (ap (by_file name) held
    ∙ (ap (by_size name bytes) (lt-ltb 1048576 (length bytes) over) ∙ ap Refused (sym line_is)))
refused_format files words line (Faulty name bytes fault is held within has line_is) =
    answer_by_file files words name is
    ∙ (ap (by_file name) held
    ∙ (ap (by_size name bytes) (le-ltb 1048576 (length bytes) within)
    ∙ (ap (tree_answer name bytes) (only bytes (Err fault) has) ∙ ap Refused (sym line_is))))
