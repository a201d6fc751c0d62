-- A text is a pattern, or none.
use Rattle.std.proofs.Common.{ℕ, List, refl, ◌⊎◌, inl, inr}
use Rattle.soy_rules.specs.IcuText.{IsPattern}
use Rattle.soy_tree.specs.MessageParts.{MsgParts}
use Rattle.icu_text.specs.declared.parse.Outcome.{Outcome}
use Rattle.icu_text.specs.declared.parse.Outcome.TheVariants.{Done, Refused}
use Rattle.icu_text.specs.ParsesMessage.{IsNoPattern}
use Rattle.icu_text.specs.PatternReading.{pattern_start, reading}
use Rattle.icu_text.proofs.PatternExact.{Answers, read-Answers}

pub pattern_or_none : (text : List ℕ)
    → ((parts : MsgParts) × IsPattern text parts) ⊎ ((offset : ℕ) × IsNoPattern text offset)
pattern_or_none text = at (reading text pattern_start) (read-Answers text (reading text pattern_start) refl)
  where
    at : (o : Outcome) → Answers text o
        → ((parts : MsgParts) × IsPattern text parts) ⊎ ((offset : ℕ) × IsNoPattern text offset)
    at (Done parts) is = inl (_, is)
    at (Refused left) is = inr (_, is.1)
