-- The name of an argument and the word of a choice, along the machine.
use Rattle.std.proofs.Common.{◌≡◌, ℕ, true, false, List, [], ◌∷◌, ◌++◌, refl, sym, ◌∙◌, ap}
use Rattle.std.proofs.Common.{append_assoc, append-nil, IsTrue}
use Rattle.std.specs.Prelude.{codes}
use Rattle.std.specs.List.{list_all}
use Rattle.soy_base.specs.Characters.{comma}
use Rattle.soy_base.specs.Names.{is_name, begins_name, continues_name}
use Rattle.soy_base.specs.WhiteSpace.{is_template_space}
use Rattle.soy_tree.specs.MessageParts.{MsgPart}
use Rattle.soy_rules.specs.IcuText.{IsSpacedName, IsSpacedKeyword}
use Rattle.icu_text.specs.PatternStates.{Argument}
use Rattle.icu_text.specs.declared.state.ChoiceKind.{ChoiceKind}
use Rattle.icu_text.specs.declared.state.ChoiceKind.TheVariants as choice
use Rattle.icu_text.specs.declared.state.Frame.{Frame}
use Rattle.icu_text.specs.PatternStates as expected
use Rattle.icu_text.specs.PatternSteps.{opened, may_be_ordinal}
use Rattle.icu_text.proofs.CharacterTests.{and_left, and_right, not_white, white_fails}
use Rattle.icu_text.proofs.PatternRunning.{at, parsed, stays, through}

pub joined_three : (a b c d : List ℕ) → (a ++ (b ++ c)) ++ d ≡ a ++ (b ++ (c ++ d))
joined_three a b c d = append_assoc a (b ++ c) d ∙ ap (λ l. a ++ l) (append_assoc b c d)

name_more : (more : List ℕ) → IsTrue (list_all continues_name more)
    → (tail : List ℕ) (fs : List Frame) (before : List MsgPart) (name : List ℕ)
    → parsed (more ++ tail) (at fs (expected.NameCharacter before name)) ≡ parsed tail
    (at fs (expected.NameCharacter before (name ++ more)))
name_more [] h tail fs before name =
    ap (λ n. parsed tail (at fs (expected.NameCharacter before n))) (sym (append-nil name))
name_more (c ∷ more) h tail fs before name =
    let continues : continues_name c ≡ true = and_left (continues_name c) (list_all continues_name more) h in
    rw continues (name_more more (and_right (continues_name c) (list_all continues_name more) h) tail fs before
    (name ++ c ∷ [])
    ∙ ap (λ n. parsed tail (at fs (expected.NameCharacter before n))) (append_assoc name (c ∷ []) more))

name_on : (name : List ℕ) → IsTrue (is_name name) → (tail : List ℕ) (fs : List Frame) (before : List MsgPart)
    → parsed (name ++ tail) (at fs (expected.Name before)) ≡ parsed tail (at fs (expected.NameCharacter before name))
name_on [] h tail fs before = absurd (cc h)
name_on (c ∷ cs) h tail fs before =
    let begins : begins_name c ≡ true = and_left (begins_name c) (list_all continues_name cs) h in
    let no_white : is_template_space c ≡ false = not_white begins_name refl refl refl refl c begins in
    rw (no_white, begins) (name_more cs (and_right (begins_name c) (list_all continues_name cs) h) tail fs before
    (c ∷ []))

name_end_on : (white : List ℕ) → IsTrue (list_all is_template_space white) → (d : ℕ) (tail : List ℕ)
    → continues_name d ≡ false
    → (fs : List Frame) (a : Argument)
    → parsed (white ++ d ∷ tail) (at fs (expected.NameCharacter a.before a.name)) ≡ parsed (d ∷ tail)
    (at fs (expected.NameEnd a))
name_end_on white h d tail ends fs a =
    through (at fs (expected.NameCharacter a.before a.name)) (at fs (expected.NameEnd a))
    (λ c w. let no : continues_name c ≡ false = white_fails continues_name refl refl refl refl c w in rw (no, w) refl)
    (λ c w. rw w refl) white (d ∷ tail) h (rw ends refl)

pub spaced_name_on : (text name : List ℕ) → IsSpacedName text name → (d : ℕ) (tail : List ℕ) → continues_name d ≡ false
    → (fs : List Frame) (before : List MsgPart)
    → parsed (text ++ d ∷ tail) (at fs (expected.Name before)) ≡ parsed (d ∷ tail)
    (at fs (expected.NameEnd (record { before = before; name = name })))
spaced_name_on text name s d tail ends fs before =
    ap (λ l. parsed (l ++ d ∷ tail) (at fs (expected.Name before))) s.whole
    ∙ (ap (λ l. parsed l (at fs (expected.Name before))) (joined_three s.before name s.after (d ∷ tail))
    ∙ (stays (at fs (expected.Name before)) (λ c w. rw w refl) s.before (name ++ (s.after ++ d ∷ tail)) s.white_before
    ∙ (name_on name s.is (s.after ++ d ∷ tail) fs before
    ∙ name_end_on s.after s.white_after d tail ends fs (record { before = before; name = name }))))

abbrev pub kind_word : ChoiceKind → List ℕ
kind_word choice.Plural = codes "plural"
kind_word choice.Ordinal = codes "selectordinal"
kind_word choice.Select = codes "select"

kind_on : (kind : ChoiceKind) (tail : List ℕ) (fs : List Frame) (a : Argument)
    → parsed (kind_word kind ++ tail) (at fs (expected.Choice a)) ≡ parsed tail
    (at fs (expected.ChoiceLetter a kind []))
kind_on choice.Plural tail fs a = refl
kind_on choice.Ordinal tail fs a = refl
kind_on choice.Select tail fs a = refl

no_ordinal : (kind : ChoiceKind) (c : ℕ) → is_template_space c ≡ true → may_be_ordinal kind c ≡ false
no_ordinal choice.Plural c w = refl
no_ordinal choice.Ordinal c w = refl
no_ordinal choice.Select c w = white_fails (may_be_ordinal choice.Select) refl refl refl refl c w

comma_on : (kind : ChoiceKind) (tail : List ℕ) (fs : List Frame) (a : Argument)
    → parsed (comma ∷ tail) (at fs (expected.ChoiceLetter a kind [])) ≡ parsed (comma ∷ tail)
    (at fs (expected.ChoiceEnd a kind))
comma_on choice.Plural tail fs a = refl
comma_on choice.Ordinal tail fs a = refl
comma_on choice.Select tail fs a = refl

kind_end_on : (kind : ChoiceKind) (white : List ℕ) → IsTrue (list_all is_template_space white)
    → (tail : List ℕ) (fs : List Frame) (a : Argument)
    → parsed (white ++ comma ∷ tail) (at fs (expected.ChoiceLetter a kind [])) ≡ parsed tail (at fs (opened a kind))
kind_end_on kind white h tail fs a =
    through (at fs (expected.ChoiceLetter a kind [])) (at fs (expected.ChoiceEnd a kind))
    (λ c w. let no : may_be_ordinal kind c ≡ false = no_ordinal kind c w in rw (no, w) refl)
    (λ c w. rw w refl) white (comma ∷ tail) h (comma_on kind tail fs a)

last_on : (kind : ChoiceKind) (white : List ℕ) → IsTrue (list_all is_template_space white)
    → (tail : List ℕ) (fs : List Frame) (a : Argument)
    → parsed (white ++ tail) (at fs (opened a kind)) ≡ parsed tail (at fs (opened a kind))
last_on choice.Plural white h tail fs a = stays (at fs (opened a choice.Plural)) (λ c w. rw w refl) white tail h
last_on choice.Ordinal white h tail fs a = stays (at fs (opened a choice.Ordinal)) (λ c w. rw w refl) white tail h
last_on choice.Select white h tail fs a = stays (at fs (opened a choice.Select)) (λ c w. rw w refl) white tail h

pub joined_word : (a b c d tail : List ℕ)
    → (a ++ (b ++ (c ++ comma ∷ d))) ++ tail ≡ a ++ (b ++ (c ++ comma ∷ (d ++ tail)))
joined_word a b c d tail =
    append_assoc a (b ++ (c ++ comma ∷ d)) tail ∙ ap (λ l. a ++ l) (joined_three b c (comma ∷ d) tail)

pub choice_on : (kind : ChoiceKind) (text : List ℕ) → IsSpacedKeyword text (kind_word kind)
    → (tail : List ℕ) (fs : List Frame) (a : Argument)
    → parsed (text ++ tail) (at fs (expected.NameEnd a)) ≡ parsed tail (at fs (opened a kind))
choice_on kind text s tail fs a =
    ap (λ l. parsed (l ++ tail) (at fs (expected.NameEnd a))) s.whole
    ∙ (ap (λ l. parsed l (at fs (expected.Choice a))) (joined_word s.before (kind_word kind) s.after s.last tail)
    ∙ (stays (at fs (expected.Choice a)) (λ c w. rw w refl) s.before
    (kind_word kind ++ (s.after ++ comma ∷ (s.last ++ tail))) s.white_before
    ∙ (kind_on kind (s.after ++ comma ∷ (s.last ++ tail)) fs a
    ∙ (kind_end_on kind s.after s.white_after (s.last ++ tail) fs a
    ∙ last_on kind s.last s.white_last tail fs a))))
