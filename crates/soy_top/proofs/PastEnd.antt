-- An offset past the end of a text is at the line and column of its end.
use Rattle.std.proofs.Common.{◌≡◌, ℕ, zero, suc, ◌+◌, ◌-◌, ◌<◌, ◌≤◌, ◌==◌, ◌||◌, ◌&&◌, not, nat_lt, min, Bool}
use Rattle.std.proofs.Common.{true, false, cond, List, length, take, drop, count_by, refl, sym, ap, subst, ◌∙◌}
use Rattle.std.proofs.Common.{arith, add-zero}
use Rattle.std.proofs.Common.{length-drop, slice_index, ◌++◌, codes}
use Rattle.std.proofs.lemmas.Bool.{ltb-true, ltb-false}
use Rattle.std.proofs.lemmas.List.{get_or_past, take_all}
use Rattle.std.specs.Fmt.{decimal}
use Rattle.soy_base.proofs.Lines.{breaks_within-more}
use Rattle.soy_base.specs.Position.{is_break_end, breaks_within, line_start, begins_character, characters_before}
use Rattle.soy_base.specs.declared.fault.Fault.{Fault}
use Rattle.soy_top.specs.Line.{refusal_line, fault_line}
use Rattle.soy_top.specs.Numbered.{numbered, numbered_line}
use Rattle.soy_top.specs.Words.{Word}

module _ (text : List ℕ) where
  -- no line break ends past the end
  past_byte : (at : ℕ) → length text ≤ at → is_break_end text at ≡ false
  past_byte at h =
      ap (λ b. (b == 10) || ((b == 13) && not (slice_index text (at + 1) == 10))) (get_or_past text at 0 h)

  breaks_past : (k : ℕ) → breaks_within text (length text + k) ≡ breaks_within text (length text)
  breaks_past zero = ap (breaks_within text) (add-zero (length text))
  breaks_past (suc k) =
      let further : length text + suc k ≡ length text + k + 1 = omega arith in
      ap (breaks_within text) further
      ∙ (breaks_within-more text (length text + k)
      ∙ (ap (λ b. breaks_within text (length text + k) + cond b 1 0) (past_byte (length text + k) (omega arith))
      ∙ (add-zero (breaks_within text (length text + k)) ∙ breaks_past k)))

  start_past : (k : ℕ) → line_start text (length text + k) ≡ line_start text (length text)
  unfolding line_start
  start_past zero = ap (line_start text) (add-zero (length text))
  start_past (suc k) =
      let further : length text + suc k ≡ suc (length text + k) = omega arith in
      ap (line_start text) further
      ∙ (ap (λ b. cond b (suc (length text + k)) (line_start text (length text + k)))
      (past_byte (length text + k) (omega arith))
      ∙ start_past k)

  rest_of_line : (start most : ℕ) → length text ≤ most → take (most - start) (drop start text) ≡ drop start text
  rest_of_line start most h = take_all (most - start) (drop start text) (omega (arith, h, length-drop start text))

  characters_past : (k : ℕ) → characters_before text (length text + k) ≡ characters_before text (length text)
  characters_past k =
      ap (λ start. count_by begins_character (take (length text + k - start) (drop start text))) (start_past k)
      ∙ ap (count_by begins_character)
      (rest_of_line (line_start text (length text)) (length text + k) (omega arith)
      ∙ sym (rest_of_line (line_start text (length text)) (length text) (omega arith)))

  module _ (f : ℕ → ℕ) (past : (k : ℕ) → f (length text + k) ≡ f (length text)) where
    same_by : (at : ℕ) (b : Bool) → nat_lt (length text) at ≡ b → f (min at (length text)) ≡ f at
    same_by at true e =
        let over : length text < at = ltb-true (length text) at e in
        let there : length text + (at - length text) ≡ at = omega (arith, over) in
        let end : min at (length text) ≡ length text = omega (arith, over) in
        ap f end ∙ (sym (past (at - length text)) ∙ ap f there)
    same_by at false e =
        let below : at ≤ length text = ltb-false (length text) at e in
        let same : min at (length text) ≡ at = omega (arith, below) in
        ap f same

  same_breaks : (at : ℕ) → breaks_within text (min at (length text)) ≡ breaks_within text at
  same_breaks at = same_by (breaks_within text) breaks_past at (nat_lt (length text) at) refl

  same_characters : (at : ℕ) → characters_before text (min at (length text)) ≡ characters_before text at
  same_characters at = same_by (characters_before text) characters_past at (nat_lt (length text) at) refl

-- the line of a fault is that of the fault at the end of the file, where it would lie past that
pub line-within : (name : Word) (bytes : List ℕ) (fault : Fault)
    → fault_line name bytes (record { code = fault.code; file = fault.file; at = min fault.at (length bytes) })
    ≡ fault_line name bytes fault
line-within name bytes fault =
    ap (λ n. refusal_line (name ++ (codes ":" ++ (decimal (n + 1)
    ++ (codes ":" ++ decimal (characters_before bytes (min fault.at (length bytes)) + 1))))) fault.code)
    (same_breaks bytes fault.at)
    ∙ ap (λ n. refusal_line (name ++ (codes ":" ++ (decimal (breaks_within bytes fault.at + 1)
    ++ (codes ":" ++ decimal (n + 1))))) fault.code) (same_characters bytes fault.at)

-- the line of a fault in a file of its number, by the file's name and bytes
pub numbered-shown : (P : List ℕ → Type 0) (names : List Word) (contents : List (List ℕ)) (name : Word)
    (bytes : List ℕ) (fault given : Fault) → name ≡ numbered fault.file names → bytes ≡ numbered fault.file contents
    → given ≡ record { code = fault.code; file = fault.file; at = min fault.at (length bytes) }
    → P (fault_line name bytes given) → P (numbered_line names contents fault)
numbered-shown P names contents name bytes fault given named held is h =
    subst P (ap (fault_line name bytes) is ∙ (line-within name bytes fault
    ∙ (ap (λ n. fault_line n bytes fault) named
    ∙ ap (λ bs. fault_line (numbered fault.file names) bs fault) held))) h
