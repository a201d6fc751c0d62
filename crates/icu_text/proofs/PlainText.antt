-- Characters of a text, quoted or not, along the machine.
use Rattle.std.proofs.Common.{◌≡◌, ℕ, ◌==◌, true, false, List, [], ◌∷◌, ◌++◌, refl}
use Rattle.std.proofs.Common.{sym, ◌∙◌, ap, append_assoc, append-nil, arith}
use Rattle.std.proofs.lemmas.Bool.Decides.{nat_tests}
use Rattle.soy_base.specs.Characters.{single_quote}
use Rattle.soy_tree.specs.MessageParts.{MsgPart}
use Rattle.soy_rules.specs.IcuText.{PatternMode, AtTop, InPlural, InSelect, is_quotable, begins_quotable}
use Rattle.soy_rules.specs.IcuText.{begins_with_quote, is_plain, Quoted, unclosed, closed, doubled, character}
use Rattle.icu_text.specs.declared.state.Frame.{Frame}
use Rattle.icu_text.specs.declared.state.Frame.TheVariants as frame
use Rattle.icu_text.specs.PatternStates.{Quoting}
use Rattle.icu_text.specs.PatternStates as expected
use Rattle.icu_text.specs.PatternStates.{PatternState}
use Rattle.icu_text.specs.PatternSteps.{pattern_mode, plain_next, add_next, whole_pattern}
use Rattle.icu_text.proofs.CharacterTests.{equal_or, not_that}
use Rattle.icu_text.proofs.PatternRunning.{at, in_text, parsed}

abbrev pub quoting_in : List Frame → List MsgPart × List ℕ → Quoting → PatternState
quoting_in fs l q = at fs (expected.Text l.0 l.1 q)

-- a plain character is added
abbrev Adds : List Frame → List MsgPart → List ℕ → ℕ → Type 0
Adds fs ps t c = is_plain (pattern_mode fs) c ≡ true → plain_next fs ps t c ≡ add_next fs ps t expected.Unquoted c

pub plain_adds : (fs : List Frame) (ps : List MsgPart) (t : List ℕ) (c : ℕ) → Adds fs ps t c
plain_adds [] ps t c =
    equal_or (Adds [] ps t) c 39 (λ e. absurd (cc e))
    (λ a. equal_or (Adds [] ps t) c 123 (λ e. absurd (cc e))
    (λ b. equal_or (Adds [] ps t) c 125 (λ e. refl)
    (λ d. equal_or (Adds [] ps t) c 35 (λ e. refl) (λ f. λ e. rw (a, b, d, f) refl))))
plain_adds (frame.Plural plural key ∷ fs) ps t c =
    equal_or (Adds (frame.Plural plural key ∷ fs) ps t) c 39 (λ e. absurd (cc e))
    (λ a. equal_or (Adds (frame.Plural plural key ∷ fs) ps t) c 123 (λ e. absurd (cc e))
    (λ b. equal_or (Adds (frame.Plural plural key ∷ fs) ps t) c 125 (λ e. absurd (cc e))
    (λ d. equal_or (Adds (frame.Plural plural key ∷ fs) ps t) c 35 (λ e. absurd (cc e))
    (λ f. λ e. rw (a, b, d, f) refl))))
plain_adds (frame.Select select word ∷ fs) ps t c =
    equal_or (Adds (frame.Select select word ∷ fs) ps t) c 39 (λ e. absurd (cc e))
    (λ a. equal_or (Adds (frame.Select select word ∷ fs) ps t) c 123 (λ e. absurd (cc e))
    (λ b. equal_or (Adds (frame.Select select word ∷ fs) ps t) c 125 (λ e. absurd (cc e))
    (λ d. equal_or (Adds (frame.Select select word ∷ fs) ps t) c 35 (λ e. refl) (λ f. λ e. rw (a, b, d, f) refl))))

-- an apostrophe that doesn't quote
lone_end : (fs : List Frame) (l : List MsgPart × List ℕ)
    → whole_pattern (quoting_in fs l expected.Apostrophe) ≡ whole_pattern (in_text fs (l.0, l.1 ++ single_quote ∷ []))
lone_end [] l = refl
lone_end (f ∷ fs) l = refl

pub lone_on : (text : List ℕ) (fs : List Frame) (l : List MsgPart × List ℕ) → begins_with_quote text ≡ false
    → begins_quotable (pattern_mode fs) text ≡ false
    → parsed text (quoting_in fs l expected.Apostrophe) ≡ parsed text (in_text fs (l.0, l.1 ++ single_quote ∷ []))
lone_on [] fs l e f = lone_end fs l
lone_on (c ∷ cs) fs l e f = rw (e, f) refl

-- and one that does
quotable_quote : (at : PatternMode) → is_quotable at 39 ≡ false
quotable_quote AtTop = refl
quotable_quote InPlural = refl
quotable_quote InSelect = refl

pub quote_on : (text : List ℕ) (fs : List Frame) (l : List MsgPart × List ℕ)
    → begins_quotable (pattern_mode fs) text ≡ true
    → parsed text (quoting_in fs l expected.Apostrophe) ≡ parsed text (quoting_in fs l expected.Quoted)
quote_on [] fs l h = absurd (cc h)
quote_on (c ∷ cs) fs l h =
    let no : (c == 39) ≡ false = not_that (is_quotable (pattern_mode fs)) 39
    (quotable_quote (pattern_mode fs)) c h in rw (no, h) refl

quoted_end : (fs : List Frame) (l : List MsgPart × List ℕ)
    → whole_pattern (quoting_in fs l expected.Quoted) ≡ whole_pattern (in_text fs l)
quoted_end [] l = refl
quoted_end (f ∷ fs) l = refl

closed_end : (fs : List Frame) (l : List MsgPart × List ℕ)
    → whole_pattern (quoting_in fs l expected.QuotedApostrophe) ≡ whole_pattern (in_text fs l)
closed_end [] l = refl
closed_end (f ∷ fs) l = refl

closed_on : (rest : List ℕ) (fs : List Frame) (l : List MsgPart × List ℕ) → begins_with_quote rest ≡ false
    → parsed rest (quoting_in fs l expected.QuotedApostrophe) ≡ parsed rest (in_text fs l)
closed_on [] fs l h = closed_end fs l
closed_on (c ∷ cs) fs l h = rw h refl

-- quoted text
pub quoted_on : (text chars after : List ℕ) → Quoted text chars after → (fs : List Frame) (l : List MsgPart × List ℕ)
    → parsed text (quoting_in fs l expected.Quoted) ≡ parsed after (in_text fs (l.0, l.1 ++ chars))
quoted_on _ _ _ unclosed fs l = quoted_end fs l ∙ ap (λ t. parsed [] (in_text fs (l.0, t))) (sym (append-nil l.1))
quoted_on _ _ _ (closed rest h) fs l =
    closed_on rest fs l h ∙ ap (λ t. parsed rest (in_text fs (l.0, t))) (sym (append-nil l.1))
quoted_on _ _ _ (doubled text chars rest q) fs l =
    quoted_on text chars rest q fs (l.0, l.1 ++ single_quote ∷ [])
    ∙ ap (λ t. parsed rest (in_text fs (l.0, t))) (append_assoc l.1 (single_quote ∷ []) chars)
quoted_on _ _ _ (character c text chars rest other q) fs l =
    let no : (c == 39) ≡ false = grind (arith, nat_tests, other) in
    rw no (quoted_on text chars rest q fs (l.0, l.1 ++ c ∷ []) ∙ ap (λ t. parsed rest (in_text fs (l.0, t)))
    (append_assoc l.1 (c ∷ []) chars))
