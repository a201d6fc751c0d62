-- What `parse_message` answers for a text: the parts of the pattern that it is; or, where it is none, the length in
-- bytes of its longest prefix with which some pattern begins. Example: `a {N}` has the parts `a ` and the argument N,
-- and `a {N!}` is refused with 4.
use Rattle.std.specs.Prelude.{◌≡◌, ℕ, List, [], ◌∷◌, ◌++◌, Result, Ok, Err}
use Rattle.soy_base.specs.ByteLength.{byte_len}
use Rattle.soy_base.specs.declared.memory.Refusal.{Refusal}
use Rattle.soy_base.specs.declared.memory.Refusal.TheVariants as refusal
use Rattle.soy_tree.specs.declared.bundle.MsgPart as code
use Rattle.soy_tree.specs.MessageParts.{MsgParts}
use Rattle.soy_tree.specs.ViewMessageParts.{view_parts}
use Rattle.soy_rules.specs.IcuText.{IsPattern}
use Rattle.icu_text.specs.BeginsPattern.{BeginsPattern}

-- no pattern goes on with the rest
abbrev pub NoneGoesOn : List ℕ → List ℕ → Type 0
NoneGoesOn prefix [] = Unit {0}
NoneGoesOn prefix (c ∷ rest) = BeginsPattern (prefix ++ c ∷ []) → ⊥

pub record IsNoPattern (text : List ℕ) (offset : ℕ) : Type 0 where
  pub none : (parts : MsgParts) → IsPattern text parts → ⊥
  pub prefix : List ℕ
  pub rest : List ℕ
  pub whole : text ≡ prefix ++ rest
  pub begins : BeginsPattern prefix
  pub longest : NoneGoesOn prefix rest
  pub offset_is : byte_len prefix ≡ offset

abbrev pub ParsesMessage : List ℕ → Result (List code.MsgPart) (Refusal ℕ) → Type 0
ParsesMessage text (Ok parts) = IsPattern text (view_parts parts)
ParsesMessage text (Err (refusal.Because offset)) = IsNoPattern text offset
ParsesMessage text (Err refusal.OutOfMemory) = Unit {0}
