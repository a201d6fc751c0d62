-- The reply of a fault in a file, by its text.
use Rattle.std.proofs.Common.{◌≡◌, ℕ, ◌-◌, List, [], ◌∷◌, ◌++◌}
use Rattle.std.proofs.Common.{length, sym, subst, ap, ◌∙◌, arith, length-append, append_assoc}
use Rattle.soy_base.specs.declared.code.Code.{Code}
use Rattle.soy_top.specs.Line.{ended, refusal_line}
use Rattle.soyc_c.specs.FaultNumbers.{FaultNumbers}
use Rattle.soyc_c.specs.FaultParts.{Absent, FaultParts, line_parts, parts_in}
use Rattle.soyc_c.specs.SlotReply.{SlotReply, fault_reply}
use Rattle.soyc_c.specs.declared.text_parts.TextParts.{TextParts}

abbrev pub reply_of : ℕ → List ℕ → FaultNumbers → FaultParts → SlotReply
reply_of status err fault parts = record { status = status; err = err; fault = fault; parts = parts }

module _ (about detail text old : List ℕ) (code : Code) (is_line : old ≡ ended (refusal_line about code))
    (is_text : text ≡ old ++ detail) where
  pub whole_text : text ≡ refusal_line about code ++ (10 ∷ detail)
  whole_text =
      is_text ∙ (ap (λ o. o ++ detail) is_line ∙ append_assoc (refusal_line about code) (10 ∷ []) detail)

  detail_length : length text - length old ≡ length detail
  detail_length = omega (arith, ap length is_text, length-append old detail)

  -- its parts are those of the line and what goes with it
  pub file_reply : (status : ℕ) (numbers : FaultNumbers) (parts : TextParts)
      → (length text - length old ≡ length detail → length text ≡ length (refusal_line about code ++ (10 ∷ detail))
      → parts_in (refusal_line about code ++ (10 ∷ detail)) parts ≡ line_parts (refusal_line about code) code Absent detail)
      → reply_of status text numbers (parts_in text parts)
      ≡ fault_reply status (refusal_line about code) code Absent detail numbers
  file_reply status numbers parts are =
      ap (λ t. reply_of status t numbers (parts_in t parts)) whole_text
      ∙ ap (reply_of status (refusal_line about code ++ (10 ∷ detail)) numbers)
      (are detail_length (ap length whole_text))
