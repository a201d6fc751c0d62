-- What the machine reads to an end is a pattern: what follows a character may follow where it stands.
use Rattle.std.proofs.Common.{◌≡◌, ℕ, suc, true}
use Rattle.std.proofs.Common.{List, [], ◌∷◌, ◌++◌, refl, sym, ◌∙◌, ap, subst}
use Rattle.std.specs.List.{list_all}
use Rattle.soy_base.specs.Characters.{left_brace, right_brace, number_sign}
use Rattle.soy_base.specs.WhiteSpace.{is_template_space}
use Rattle.soy_tree.specs.MessageParts.{MsgPart, MsgParts, NumberPart}
use Rattle.soy_tree.specs.MessageParts.{part}
use Rattle.soy_rules.specs.IcuText as icu
use Rattle.soy_rules.specs.IcuText.{PatternMode, AtTop, InPlural, InSelect, is_quotable, is_plain, Reads, with_text}
use Rattle.soy_rules.specs.IcuText.{IsArgument, IsSpacedName, IsSpacedKeyword, IsNumber, Key, Exact, Named, IsKey}
use Rattle.soy_rules.specs.IcuText.{IsWord, IsPattern, plural_keyword, IsOffset}
use Rattle.icu_text.specs.declared.state.OpenPlural.{OpenPlural}
use Rattle.icu_text.specs.declared.state.OpenSelect.{OpenSelect}
use Rattle.icu_text.specs.declared.state.Frame.{Frame}
use Rattle.icu_text.specs.PatternSteps.{finished}
use Rattle.icu_text.proofs.CharacterTests.{and_both}
use Rattle.icu_text.proofs.KeptArms.{arm_key_of}
use Rattle.icu_text.proofs.ReadParts.{after_parts, finished_then, texts_join}
use Rattle.icu_text.proofs.PatternComplete.{no_text}
use Rattle.icu_text.proofs.PatternLeft.{After, IsText}
use Rattle.icu_text.proofs.PatternLeft.{IsHead, ArmsLeft, WordsLeft}
use Rattle.icu_text.proofs.PatternLeft.{KeyEndLeft, WordEndLeft}

-- white space before what may follow

pub spaced : {A : List ℕ → Type 0} (c : ℕ) {text : List ℕ} → is_template_space c ≡ true → After A text
    → After A (c ∷ text)
spaced c w a = record {
  white = c ∷ a.white;
  tail = a.tail;
  whole = ap (λ l. c ∷ l) a.whole;
  is_white = and_both (is_template_space c) (list_all is_template_space a.white) w a.is_white;
  left = a.left;
}

pub unspaced : {A : List ℕ → Type 0} {text : List ℕ} → A text → After A text
unspaced {text = text} h = record { white = []; tail = text; whole = refl; is_white = refl; left = h }

-- a text, by what it begins with

pub more_text : {at : PatternMode} {n : ℕ} {E : MsgParts → List ℕ → Type 0} (l : List MsgPart × List ℕ)
    (chars text after : List ℕ)
    → ((ps : MsgParts) (rest : List ℕ) → Reads at n after ps rest → Reads at n text (with_text chars ps) rest)
    → IsText at n E (l.0, l.1 ++ chars) after → IsText at n E l text
more_text {E = E} l chars text after reads t = record {
  parts = with_text chars t.parts;
  rest = t.rest;
  reads = reads t.parts t.rest t.reads;
  ends = subst (λ ps. E (after_parts l.0 ps) t.rest) (texts_join l.1 chars t.parts) t.ends;
}

pub number_text : {n : ℕ} {E : MsgParts → List ℕ → Type 0} (l : List MsgPart × List ℕ) (text : List ℕ)
    → IsText InPlural n E (finished l.0 l.1 ++ NumberPart ∷ [], []) text → IsText InPlural n E l (number_sign ∷ text)
number_text {E = E} l text t = record {
  parts = part NumberPart t.parts;
  rest = t.rest;
  reads = icu.number text t.rest t.parts t.reads;
  ends = subst (λ ps. E ps t.rest) (finished_then l.0 l.1 NumberPart t.parts tt) t.ends;
}

pub head_text : {at : PatternMode} {n : ℕ} {E : MsgParts → List ℕ → Type 0} (l : List MsgPart × List ℕ) (text : List ℕ)
    → IsHead n (IsText at (suc n) E) (finished l.0 l.1) text → IsText at (suc n) E l (left_brace ∷ text)
head_text {E = E} l text h =
    let t = h.follows in
    record {
      parts = part h.argument t.parts;
      rest = t.rest;
      reads = icu.argument text h.rest t.rest h.argument t.parts h.is t.reads;
      ends = subst (λ ps. E ps t.rest) (finished_then l.0 l.1 h.argument t.parts (no_text h.is)) t.ends;
    }

-- an arm, by its key

pub arm_left : (fs : List Frame) (n : ℕ) (out : List MsgPart) (p : OpenPlural) (text : List ℕ) (key : Key)
    (tail : List ℕ)
    → IsKey text key → KeyEndLeft fs n out p (arm_key_of key) tail → ArmsLeft fs n out p (text ++ tail)
arm_left fs n out p text key tail k e =
    let b = e.left in
    let t = b.left in
    let x = t.ends in
    let a = x.left in
    let m = a.left in
    let inside : Reads InPlural n b.tail t.parts (right_brace ∷ (a.white ++ a.tail)) =
    subst (λ l. Reads InPlural n b.tail t.parts (right_brace ∷ l)) a.whole
    (subst (λ l. Reads InPlural n b.tail t.parts l) x.whole t.reads) in
    record {
      arms = (key, t.parts) ∷ m.arms;
      rest = m.rest;
      reads = subst (λ l. icu.PluralArms n (text ++ l) ((key, t.parts) ∷ m.arms) (right_brace ∷ m.rest))
          (sym (e.whole ∙ ap (λ l. e.white ++ l) b.whole))
          (icu.plural_arm text e.white b.tail a.white a.tail (right_brace ∷ m.rest) key t.parts m.arms k e.is_white
          inside a.is_white m.reads);
      other = m.other;
      follows = m.follows;
    }

pub word_left : (fs : List Frame) (n : ℕ) (out : List MsgPart) (s : OpenSelect) (word tail : List ℕ)
    → IsWord word → WordEndLeft fs n out s word tail → WordsLeft fs n out s (word ++ tail)
word_left fs n out s word tail k e =
    let b = e.left in
    let t = b.left in
    let x = t.ends in
    let a = x.left in
    let m = a.left in
    let inside : Reads InSelect n b.tail t.parts (right_brace ∷ (a.white ++ a.tail)) =
    subst (λ l. Reads InSelect n b.tail t.parts (right_brace ∷ l)) a.whole
    (subst (λ l. Reads InSelect n b.tail t.parts l) x.whole t.reads) in
    record {
      arms = (word, t.parts) ∷ m.arms;
      rest = m.rest;
      reads = subst (λ l. icu.WordArms n (word ++ l) ((word, t.parts) ∷ m.arms) (right_brace ∷ m.rest))
          (sym (e.whole ∙ ap (λ l. e.white ++ l) b.whole))
          (icu.word_arm word e.white b.tail a.white a.tail (right_brace ∷ m.rest) t.parts m.arms k e.is_white inside
          a.is_white m.reads);
      other = m.other;
      follows = m.follows;
    }
