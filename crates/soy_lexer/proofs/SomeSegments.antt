-- Every text has segments: each one has a character at least, so the rest is shorter.
use Rattle.std.proofs.Common.{◌++◌, ◌≡◌, ℕ, zero, suc, true, ◌+◌, ◌<◌, ◌≤◌, ◌⊎◌, List, [], ◌∷◌, length, Option, None}
use Rattle.std.proofs.Common.{Some, refl, ◌∙◌, ap, inl, inr, subst, arith, length-append}
use Rattle.soy_lexer.specs.AllSourceText.{all_source_text}
use Rattle.soy_base.specs.ByteLength.{byte_len}
use Rattle.soy_lexer.specs.Segment.{Segment, source_text}
use Rattle.soy_lexer.specs.Found.{Found}
use Rattle.soy_lexer.specs.ModeAfter.{mode_after}
use Rattle.soy_lexer.specs.declared.mode.Mode.{Mode}
use Rattle.soy_lexer.specs.Found.Found.{Begins, Fails}
use Rattle.soy_lexer.specs.declared.mode.Mode.TheVariants.{Outside}
use Rattle.soy_lexer.specs.Segments.{Segments}
use Rattle.soy_lexer.specs.Segments.Segments.{Ended, Stopped, Goes}
use Rattle.soy_lexer.specs.TextSegment.{segment_of}
use Rattle.soy_lexer.specs.Tokens.{Tokens, FirstFault, tokens_of}
use Rattle.soy_lexer.specs.declared.token.Token.{Token}
use Rattle.soy_base.proofs.Texts.{byte_len-append}
use Rattle.soy_lexer.proofs.SourceTexts.{Stands, segment_stands}

pub record HasSegments (offset : ℕ) (mode : Mode) (text : List ℕ) : Type 0 where
  pub segments : List Segment
  pub stop : Option ℕ
  pub are : Segments offset mode text segments stop

-- a segment, which other text follows, is what stands there
pub begins_stands : (mode : Mode) (text : List ℕ) (p : Segment) (rest : List ℕ) → segment_of mode text ≡ Begins p rest
    → Stands text (Begins p rest)
begins_stands mode text p rest e = subst (λ f. Stands text f) e (segment_stands mode text)

-- so the rest is shorter
pub rest_shorter : (mode : Mode) (text : List ℕ) (p : Segment) (rest : List ℕ) → segment_of mode text ≡ Begins p rest
    → length rest < length text
rest_shorter mode text p rest e =
    let stands = begins_stands mode text p rest e in
    omega (arith, ap length stands.0, length-append (source_text p) rest, stands.1)

-- the segments of a text from what it begins with and the segments of shorter texts
from_found : (n offset : ℕ) (mode : Mode) (c : ℕ) (cs : List ℕ) → length (c ∷ cs) ≤ suc n →
    ((offset : ℕ) (mode : Mode) (text : List ℕ) → length text ≤ n → HasSegments offset mode text) →
    (f : Found) → segment_of mode (c ∷ cs) ≡ f → HasSegments offset mode (c ∷ cs)
from_found n offset mode c cs h next (Fails further) e =
    record { segments = []; stop = Some (offset + further); are = Stopped offset mode c cs further e }
from_found n offset mode c cs h next (Begins p rest) e =
    let others = next (offset + byte_len (source_text p)) (mode_after mode p) rest
    (omega (arith, rest_shorter mode (c ∷ cs) p rest e)) in
    record {
      segments = p ∷ others.segments;
      stop = others.stop;
      are = Goes offset mode c cs p rest others.segments others.stop e others.are;
    }

-- a text that is no longer than this has segments
segments_within : (n offset : ℕ) (mode : Mode) (text : List ℕ) → length text ≤ n → HasSegments offset mode text
segments_within n offset mode [] h = record { segments = []; stop = None; are = Ended offset mode }
segments_within zero offset mode (c ∷ cs) h = absurd (omega arith)
segments_within (suc n) offset mode (c ∷ cs) h =
    from_found n offset mode c cs h (segments_within n) (segment_of mode (c ∷ cs)) refl

-- segments up to the end give tokens, and others a fault
from_stop : (text : List ℕ) (ps : List Segment) (stop : Option ℕ) → Segments 0 (Outside true) text ps stop →
    ((tokens : List Token) × Tokens text tokens) ⊎ ((offset : ℕ) × FirstFault text offset)
from_stop text ps None whole = inl (tokens_of 0 [] ps, record { segments = ps; whole = whole; tokens_are = refl })
from_stop text ps (Some offset) prefix = inr (offset, record { segments = ps; prefix = prefix })

-- a text has tokens, or a first fault
pub tokens_or_fault : (text : List ℕ) → ((tokens : List Token) × Tokens text tokens)
    ⊎ ((offset : ℕ) × FirstFault text offset)
tokens_or_fault text =
    let all = segments_within (length text) 0 (Outside true) text (omega arith) in
    from_stop text all.segments all.stop all.are

-- segments up to the end of a text are the text
pub whole_source_text : (offset : ℕ) (mode : Mode) (text : List ℕ) (ps : List Segment) (stop : Option ℕ)
    → Segments offset mode text ps stop → stop ≡ None →
    text ≡ all_source_text ps
whole_source_text _ _ _ _ _ (Ended offset mode) e = refl
whole_source_text _ _ _ _ _ (Stopped offset mode c cs further f) e = absurd (cc)
whole_source_text _ _ _ _ _ (Goes offset mode c cs p rest ps stop f d) e =
    (begins_stands mode (c ∷ cs) p rest f).0
    ∙ ap (λ l. source_text p ++ l)
    (whole_source_text (offset + byte_len (source_text p)) (mode_after mode p) rest ps stop d e)

-- an offset where no token begins is within the text
pub stop_within : (offset : ℕ) (mode : Mode) (text : List ℕ) (ps : List Segment) (stop : Option ℕ)
    → Segments offset mode text ps stop → (stopped : ℕ) →
    stop ≡ Some stopped → stopped ≤ offset + byte_len text
stop_within _ _ _ _ _ (Ended offset mode) stopped e = absurd (cc)
stop_within _ _ _ _ _ (Stopped offset mode c cs further f) stopped e =
    let same : offset + further ≡ stopped = cc in
    let within : further ≤ byte_len (c ∷ cs) = subst (λ x. Stands (c ∷ cs) x) f (segment_stands mode (c ∷ cs)) in
    omega (arith, same, within)
stop_within _ _ _ _ _ (Goes offset mode c cs p rest ps stop f d) stopped e =
    let stands = begins_stands mode (c ∷ cs) p rest f in
    omega (
      arith,
      stop_within (offset + byte_len (source_text p)) (mode_after mode p) rest ps stop d stopped e,
      ap
          byte_len stands.0,
      byte_len-append (source_text p) rest,
    )

-- the first offset where no token begins is within the text
pub fault_within : (text : List ℕ) (offset : ℕ) → FirstFault text offset → offset ≤ byte_len text
fault_within text offset first =
    omega (arith, stop_within 0 (Outside true) text first.segments (Some offset) first.prefix offset refl)
