-- The machine along a text: one character, white space, and a text after another.
use Rattle.std.proofs.Common.{◌≡◌, ℕ, true, List, [], ◌∷◌, ◌++◌, Option, Some, None, refl, ◌∙◌, ap, IsTrue}
use Rattle.std.specs.List.{list_all}
use Rattle.soy_base.specs.WhiteSpace.{is_template_space}
use Rattle.soy_tree.specs.MessageParts.{MsgPart}
use Rattle.icu_text.specs.declared.state.Frame.{Frame}
use Rattle.icu_text.specs.PatternStates.{Expected}
use Rattle.icu_text.specs.PatternStates as expected
use Rattle.icu_text.specs.PatternStates.{PatternState}
use Rattle.icu_text.specs.PatternSteps.{pattern_next, whole_pattern}
use Rattle.icu_text.specs.PatternReading.{pattern_run, pattern_run_from}
use Rattle.icu_text.proofs.CharacterTests.{and_left, and_right}

abbrev pub at : List Frame → Expected → PatternState
at fs x = record { frames = fs; expected = x }

-- in a text, of which these parts and this text after them were read
abbrev pub in_text : List Frame → List MsgPart × List ℕ → PatternState
in_text fs l = at fs (expected.Text l.0 l.1 expected.Unquoted)

abbrev pub parsed_from : (PatternState → Option (List MsgPart)) → Option PatternState → Option (List MsgPart)
parsed_from go_on None = None
parsed_from go_on (Some s) = go_on s

-- the parts of a text that is read on from a state, if it ends where one may
abbrev pub parsed : List ℕ → PatternState → Option (List MsgPart)
parsed [] s = whole_pattern s
parsed (c ∷ cs) s = parsed_from (parsed cs) (pattern_next s c)

-- a character leads on
pub step : (c : ℕ) (text : List ℕ) (s to : PatternState) → pattern_next s c ≡ Some to
    → parsed (c ∷ text) s ≡ parsed text to
step c text s to e = ap (parsed_from (parsed text)) e

-- white space that changes nothing
pub stays : (s : PatternState) → ((c : ℕ) → is_template_space c ≡ true → pattern_next s c ≡ Some s)
    → (white text : List ℕ)
    → IsTrue (list_all is_template_space white) → parsed (white ++ text) s ≡ parsed text s
stays s next [] text h = refl
stays s next (c ∷ white) text h =
    step c (white ++ text) s s (next c (and_left (is_template_space c) (list_all is_template_space white) h))
    ∙ stays s next white text (and_right (is_template_space c) (list_all is_template_space white) h)

-- white space that leads on, where what follows it goes on alike
pub through : (s to : PatternState) → ((c : ℕ) → is_template_space c ≡ true → pattern_next s c ≡ Some to)
    → ((c : ℕ) → is_template_space c ≡ true → pattern_next to c ≡ Some to) → (white text : List ℕ)
    → IsTrue (list_all is_template_space white) → parsed text s ≡ parsed text to
    → parsed (white ++ text) s ≡ parsed text to
through s to first next [] text h e = e
through s to first next (c ∷ white) text h e =
    step c (white ++ text) s to (first c (and_left (is_template_space c) (list_all is_template_space white) h))
    ∙ stays to next white text (and_right (is_template_space c) (list_all is_template_space white) h)

-- a text after another
pub run_parsed : (ts us : List ℕ) (s to : PatternState) → pattern_run ts s ≡ Some to
    → parsed (ts ++ us) s ≡ parsed us to
run_parsed [] us s to e = ap (parsed us) (same e)
  where
    unwrap : Option PatternState → PatternState
    unwrap None = s
    unwrap (Some x) = x

    same : Some s ≡ Some to → s ≡ to
    same e = ap unwrap e
run_parsed (c ∷ ts) us s to e = over (pattern_next s c) e (λ m. run_parsed ts us m to)
  where
    over : (next : Option PatternState) → pattern_run_from (pattern_run ts) next ≡ Some to
        → ((m : PatternState) → pattern_run ts m ≡ Some to → parsed (ts ++ us) m ≡ parsed us to)
        → parsed_from (parsed (ts ++ us)) next ≡ parsed us to
    over None e inside = absurd (cc e)
    over (Some m) e inside = inside m e

-- a state after a text
pub record IsRun (text : List ℕ) (s : PatternState) : Type 0 where
  pub state : PatternState
  pub is : pattern_run text s ≡ Some state

pub parsed_run : (ts us : List ℕ) (s : PatternState) (ps : List MsgPart) → parsed (ts ++ us) s ≡ Some ps → IsRun ts s
parsed_run [] us s ps e = record { state = s; is = refl }
parsed_run (c ∷ ts) us s ps e = over (pattern_next s c) refl e (λ m. parsed_run ts us m ps)
  where
    over : (next : Option PatternState) → pattern_next s c ≡ next → parsed_from (parsed (ts ++ us)) next ≡ Some ps
        → ((m : PatternState) → parsed (ts ++ us) m ≡ Some ps → IsRun ts m) → IsRun (c ∷ ts) s
    over None f e inside = absurd (cc e)
    over (Some m) f e inside =
        let r = inside m e in record { state = r.state; is = ap (pattern_run_from (pattern_run ts)) f ∙ r.is }
