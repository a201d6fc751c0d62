-- A pattern that names what its message has fits the message.
use Rattle.std.proofs.Common.{◌≡◌, ℕ, Bool, true, false, List, Option, Some, None, if◌then◌else◌, refl}
use Rattle.std.proofs.Common.{ap, ◌∙◌}
use Rattle.std.specs.Prelude.{is_some, ◌&&◌}
use Rattle.std.specs.Option.{option_or}
use Rattle.soy_base.specs.Among.{is_among}
use Rattle.soy_base.specs.declared.code.Code.{Code}
use Rattle.soy_base.specs.declared.code.Code.TheVariants as code
use Rattle.soy_base.specs.declared.fault.Span.{Span}
use Rattle.soy_tree.specs.MessageParts.{MsgPart, MsgParts, ExactArms, NamedArms, SelectArms, TextPart, Placeholder}
use Rattle.soy_tree.specs.MessageParts.{NumberPart, PluralPart, SelectPart, no_part, part, no_exact_arm, exact_arm}
use Rattle.soy_tree.specs.MessageParts.{no_named_arm, named_arm, no_select_arm, select_arm}
use Rattle.soy_tree.specs.Nodes.{Message, MessageBody, message}
use Rattle.soy_rules.specs.Placeholders.{Use, body_uses}
use Rattle.soy_tree.specs.Types.{Name}
use Rattle.msg_extract.specs.Catalogue.{listed}
use Rattle.msg_extract.specs.Fits as extract
use Rattle.msg_extract.specs.Fits.{exact_fault, named_fault, part_fault, parts_fault, select_fault, unless_among}
use Rattle.msg_extract.specs.declared.catalogue.Listed.{Listed}
use Rattle.soy_pieces.specs.Branch.{selector}
use Rattle.soy_rules.specs.Placeholders.{uses_of}
use Rattle.soy_meaning.specs.Runs.TranslationFits.{FitsMessage, exact_fit, has_other, has_other_word, named_fit}
use Rattle.soy_meaning.specs.Runs.TranslationFits.{part_fits}
use Rattle.soy_meaning.specs.Runs.TranslationFits.{parts_fit, select_fit}
use Rattle.template_ir.specs.CompiledTrees.{IsPatternThere}
use Rattle.template_ir.proofs.Patterns.{AreWhole, ExactWhole, IsWhole, NamedWhole, WordsWhole, pattern_whole}
use Rattle.ir_build.proofs.FittingNames.{selector_there}

both : (t u : Bool) → t ≡ true → u ≡ true → (t && u) ≡ true
both t u h k = ap (λ b. b && u) h ∙ k

neither : {A : Type 0} (one other : Option A) → option_or one other ≡ None → (one ≡ None) × (other ≡ None)
neither None other h = (refl, h)
neither (Some x) other h = let no : ⊥ = cc in absurd no

is_named : (names : List Name) (name : Name) (fault : Code) → unless_among names name fault ≡ None
    → is_among names name ≡ true
is_named names name fault h = by_test (is_among names name) h
  where
    by_test : (t : Bool) → ◌≡◌ {A = Option Code} (if t then None else Some fault) None → t ≡ true
    by_test true k = refl
    by_test false k = let no : ⊥ = cc in absurd no

module _ (desc meaning : List ℕ) (body : MessageBody) (span : Span) where
  abbrev row : Listed
  row = listed (message desc meaning body span)

  abbrev uses : List Use
  uses = body_uses body

  mutual
    part_fitting : (here : Bool) (p : MsgPart) → IsWhole here p → part_fault row p ≡ None → part_fits uses p ≡ true
    part_fitting here (TextPart text) whole none = refl
    part_fitting here (Placeholder name) whole none = refl
    part_fitting here NumberPart whole none = refl
    part_fitting here (PluralPart ordinal name offset exact named) whole none =
        let one = neither (unless_among row.plurals name code.Selector)
        (option_or (exact_fault row exact) (named_fault row named)) none in
        let two = neither (exact_fault row exact) (named_fault row named) one.1 in
        both (is_some (selector true name uses uses) && has_other named) (exact_fit uses exact && named_fit uses named)
        (both (is_some (selector true name uses uses)) (has_other named)
        (selector_there true uses name (is_named row.plurals name code.Selector one.0)) whole.3)
        (both (exact_fit uses exact) (named_fit uses named) (exact_fitting exact whole.1 two.0)
        (named_fitting named whole.2 two.1))
    part_fitting here (SelectPart name arms) whole none =
        let one = neither (unless_among row.selects name code.Selector) (select_fault row arms) none in
        both (is_some (selector false name uses uses) && has_other_word arms) (select_fit uses arms)
        (both (is_some (selector false name uses uses)) (has_other_word arms)
        (selector_there false uses name (is_named row.selects name code.Selector one.0)) whole.1)
        (select_fitting arms whole.0 one.1)

    parts_fitting : (here : Bool) (ps : MsgParts) → AreWhole here ps → parts_fault row ps ≡ None
        → parts_fit uses ps ≡ true
    parts_fitting here no_part whole none = refl
    parts_fitting here (part p ps) whole none =
        let one = neither (part_fault row p) (parts_fault row ps) none in
        both (part_fits uses p) (parts_fit uses ps) (part_fitting here p whole.0 one.0)
        (parts_fitting here ps whole.1 one.1)

    exact_fitting : (arms : ExactArms) → ExactWhole arms → exact_fault row arms ≡ None → exact_fit uses arms ≡ true
    exact_fitting no_exact_arm whole none = refl
    exact_fitting (exact_arm n ps arms) whole none =
        let one = neither (parts_fault row ps) (exact_fault row arms) none in
        both (parts_fit uses ps) (exact_fit uses arms) (parts_fitting true ps whole.0 one.0)
        (exact_fitting arms whole.1 one.1)

    named_fitting : (arms : NamedArms) → NamedWhole arms → named_fault row arms ≡ None → named_fit uses arms ≡ true
    named_fitting no_named_arm whole none = refl
    named_fitting (named_arm of ps arms) whole none =
        let one = neither (parts_fault row ps) (named_fault row arms) none in
        both (parts_fit uses ps) (named_fit uses arms) (parts_fitting true ps whole.0 one.0)
        (named_fitting arms whole.1 one.1)

    select_fitting : (arms : SelectArms) → WordsWhole arms → select_fault row arms ≡ None → select_fit uses arms ≡ true
    select_fitting no_select_arm whole none = refl
    select_fitting (select_arm word ps arms) whole none =
        let one = neither (parts_fault row ps) (select_fault row arms) none in
        both (parts_fit uses ps) (select_fit uses arms) (parts_fitting false ps whole.0 one.0)
        (select_fitting arms whole.1 one.1)

  found_fitting : (found : Option MsgParts) → extract.FitsMessage (message desc meaning body span) found
      → FitsMessage (body_uses body) found × IsPatternThere found
  found_fitting None h = (tt, tt)
  found_fitting (Some parts) h =
      (parts_fitting false parts (pattern_whole h.text parts h.pattern) h.names, (h.text, h.pattern))

-- a translation that fits a message
pub message_fitting : (m : Message) (found : Option MsgParts) → extract.FitsMessage m found
    → FitsMessage (uses_of m) found × IsPatternThere found
message_fitting (message desc meaning body span) found h = found_fitting desc meaning body span found h
