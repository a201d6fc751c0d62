-- The ops of a translation pass their checks.
use Rattle.std.proofs.Common.{◌≡◌, ℕ, ◌+◌, ◌≤◌, Bool, true, false, List, [], ◌∷◌, ◌++◌, Option, Some, None}
use Rattle.std.proofs.Common.{if◌then◌else◌, length, map, take, refl, sym, ap, ◌∙◌, arith}
use Rattle.std.specs.Prelude.{bytes_eq, codes, is_some, nat_le, ◌&&◌, ◌||◌}
use Rattle.std.specs.Option.{option_or}
use Rattle.std.proofs.lemmas.Bool.{and_parts}
use Rattle.plural_rules.specs.Category.{is_same}
use Rattle.plural_rules.specs.declared.category.Category.TheVariants as category
use Rattle.soy_base.specs.declared.place.Place.{Place}
use Rattle.soy_base.specs.declared.place.Placing.TheVariants.{Takes}
use Rattle.soy_base.specs.declared.place.ValueClass.TheVariants as class
use Rattle.html_state.specs.TakesClass.{takes_class}
use Rattle.soy_tree.specs.Expressions.{Expr}
use Rattle.soy_base.specs.Limits.{largest}
use Rattle.soy_tree.specs.MessageParts.{MsgPart, MsgParts, ExactArms, NamedArms, SelectArms, TextPart, Placeholder}
use Rattle.soy_tree.specs.MessageParts.{NumberPart, PluralPart, SelectPart, no_part, part, no_exact_arm, exact_arm}
use Rattle.soy_tree.specs.MessageParts.{no_named_arm, named_arm, no_select_arm, select_arm}
use Rattle.soy_tree.specs.MessageText.{MessageItem, Character, Printed, Cut, TextCut, PrintCut, TagCut}
use Rattle.soy_rules.specs.Placeholders.{Use, name_of}
use Rattle.soy_tree.specs.Types.{Name}
use Rattle.soy_rules.specs.TypeOf.{Scope, is_int, is_string}
use Rattle.soy_pieces.specs.Branch.{selector}
use Rattle.soy_meaning.specs.Walks.Holes.{hole_count}
use Rattle.soy_meaning.specs.Paths.PathParts.{hole}
use Rattle.soy_meaning.specs.Paths.Plan.{Plan, Hole, Then}
use Rattle.soy_pieces.specs.Site.{Site}
use Rattle.soy_meaning.specs.Paths.PlanOfParts.{cut_plan, exact_plans, named_plans, part_plan, parts_plan}
use Rattle.soy_rules.specs.Placeholders.{cut_of_role}
use Rattle.soy_meaning.specs.Paths.PlanOfParts.{printed_classes, select_arm_plans, tag_plan, text_plan}
use Rattle.soy_rules.specs.Placeholders.{placeholder_cut}
use Rattle.soy_meaning.specs.Runs.TranslationFits.{exact_fit, has_other, has_other_word, named_fit, part_fits}
use Rattle.soy_meaning.specs.Runs.TranslationFits.{parts_fit}
use Rattle.soy_meaning.specs.Runs.TranslationFits.{select_fit}
use Rattle.soy_meaning.proofs.Paths.SomePaths.{part_path, text_path}
use Rattle.soy_meaning.proofs.Typing.TypedNodes.{CutPrintable, ItemsPrintable, UsesPrintable}
use Rattle.template_ir.specs.HoleCounts.{exact_holes, part_holes, parts_holes}
use Rattle.template_ir.specs.Ops.{NumberOp, Op, PluralOp, PrintOp, Routine, SelectOp}
use Rattle.template_ir.specs.Sound.{are_sound_arms, has_named_other, has_word_other, is_sound_expr}
use Rattle.template_ir.specs.Sound.{is_sound_plural, is_sound_select}
use Rattle.template_ir.specs.StandFor.{StandsCut, StandsExact, StandsNamed, StandsOp, StandsPart, StandsParts}
use Rattle.template_ir.specs.StandFor.{StandsSelected, StandsTag, StandsWords, place_of}
use Rattle.template_ir.specs.declared.op.ExactBlock.{ExactBlock}
use Rattle.template_ir.specs.declared.op.NamedBlock.{NamedBlock}
use Rattle.template_ir.specs.declared.op.WordBlock.{WordBlock}
use Rattle.template_ir.proofs.Counts.{all_holes, exact_count, part_count, parts_count, text_count}
use Rattle.template_ir.proofs.Forward.{op_forward, parts_forward, tag_forward}
use Rattle.template_ir.proofs.Patterns.{AreWhole, ExactWhole, IsWhole, NamedWhole, WordsWhole}
use Rattle.template_ir.proofs.SelectedUses.{IsSelector, UsesSelect, selector_typed}
use Rattle.template_ir.proofs.SoundOps.{Passes, block_sound, both_true, checks, end_passes, expr_sound, nothing_passes}
use Rattle.template_ir.proofs.SoundOps.{op_passes, op_within, passes_if, print_sound, text_sound}
use Rattle.template_ir.proofs.TakenClasses.{AllTaken, Taken, all_from, arms_taken, first_taken, hole_taken}
use Rattle.template_ir.proofs.TakenClasses.{second_taken, taken_from, taken_split}

same_length : (a : ℕ) → a ≤ a
same_length a = omega arith

pub up_to : {a b c : ℕ} → a ≤ b → b ≤ c → a ≤ c
up_to h k = omega (arith, h, k)

-- ---- what placeholders print

printable_if : (test : Bool) (one other : Option Cut) (scope : Scope) → CutPrintable one scope
    → CutPrintable other scope → CutPrintable (if test then option_or one other else other) scope
printable_if true None other scope h k = k
printable_if true (Some cut) other scope h k = h
printable_if false one other scope h k = k

printable_cut : (name : Name) (all uses : List Use) (scope : Scope) → UsesPrintable uses scope
    → CutPrintable (placeholder_cut name all uses) scope
printable_cut name all [] scope h = tt
printable_cut name all (u ∷ uses) scope h =
    printable_if (bytes_eq (name_of all u.base u.content) name) (cut_of_role u.role) (placeholder_cut name all uses)
    scope h.0 (printable_cut name all uses scope h.1)

module _ (templates : List Routine) (places : List Place) (ops : List Op) (uses : List Use) (scope : Scope) (at : Site)
    (printable : UsesPrintable uses scope) (selects : UsesSelect uses scope) where
  abbrev Pass : ℕ → ℕ → Bool → Type 0
  Pass from end number = Passes templates places ops from end number scope

  tag_sound : (text : List ℕ) (tag : List MessageItem) → ItemsPrintable tag scope → (first from past end : ℕ)
      (number : Bool) → Taken places (tag_plan scope at text tag) first
      → StandsTag places ops text tag first from past → past ≤ end → Pass past end number → Pass from end number
  tag_sound text [] typed first from past end number taken h l rest =
      text_sound templates places ops text from past end number scope h l rest
  tag_sound text (Character c span ∷ tag) typed first from past end number taken h l rest =
      tag_sound (text ++ (c ∷ [])) tag typed first from past end number taken h l rest
  tag_sound text (Printed e phname span ∷ tag) typed first from past end number taken h l rest =
      let before : Plan = text_plan at text in
      let print : Plan = Hole at (printed_classes e scope) in
      let behind : Plan = tag_plan scope at [] tag in
      let none : hole_count before ≡ 0 = text_count at text in
      let there : Taken places (Then print behind) first =
      taken_from places (Then print behind) (first + hole_count before) first (omega (arith, none))
      (second_taken places before (Then print behind) first (text_path at text) taken) in
      let late : h.1 ≤ end = up_to (tag_forward places ops [] tag (first + 1) h.1 past h.4) l in
      let later : h.0 ≤ end = up_to (op_forward places ops (PrintOp e (place_of places first)) h.0 h.1 h.3) late in
      text_sound templates places ops text from h.0 end number scope h.2 later
      (print_sound templates places ops e first h.0 h.1 end number scope typed.0
      (hole_taken places at (printed_classes e scope) first (first_taken places print behind first there)) h.3 late
      (tag_sound [] tag typed.1 (first + 1) h.1 past end number
      (second_taken places print behind first (record { parts = _; path = hole }) there) h.4 l rest))

  cut_sound : (cut : Option Cut) → CutPrintable cut scope → (first from past end : ℕ) (number : Bool)
      → Taken places (cut_plan scope at cut) first → StandsCut places ops cut first from past → past ≤ end
      → Pass past end number → Pass from end number
  cut_sound None typed first from past end number taken h l rest =
      nothing_passes templates places ops from past end number scope h rest
  cut_sound (Some (TextCut text)) typed first from past end number taken h l rest =
      nothing_passes templates places ops from past end number scope h rest
  cut_sound (Some (PrintCut e phname span)) typed first from past end number taken h l rest =
      print_sound templates places ops e first from past end number scope typed
      (hole_taken places at (printed_classes e scope) first taken) h l rest
  cut_sound (Some (TagCut tag)) typed first from past end number taken h l rest =
      tag_sound [] tag typed first from past end number taken h l rest

  -- ---- plurals and selects

  abbrev ExactSound : ℕ → List ExactBlock → Type 0
  ExactSound before blocks =
      are_sound_arms (take before (checks templates places ops)) true (map (λ (arm : ExactBlock). arm.body) blocks)
      scope
      ≡ true

  abbrev NamedSound : ℕ → List NamedBlock → Type 0
  NamedSound before blocks =
      are_sound_arms (take before (checks templates places ops)) true (map (λ (arm : NamedBlock). arm.body) blocks)
      scope
      ≡ true

  abbrev WordsSound : ℕ → List WordBlock → Type 0
  WordsSound before blocks =
      are_sound_arms (take before (checks templates places ops)) false (map (λ (arm : WordBlock). arm.body) blocks)
      scope
      ≡ true

  plural_sound : (chosen : Option Expr) → is_some chosen ≡ true → IsSelector true chosen scope → (ordinal : Bool)
      (offset : ℕ) → nat_le offset largest ≡ true → (from past end : ℕ) (number : Bool)
      (Exact : List ExactBlock → Type 0) (Named : List NamedBlock → Type 0)
      → ((blocks : List ExactBlock) → Exact blocks → from ≤ length ops → ExactSound from blocks)
      → ((blocks : List NamedBlock) → Named blocks → from ≤ length ops → NamedSound from blocks)
      → ((blocks : List NamedBlock) → Named blocks → has_named_other blocks ≡ true)
      → StandsSelected places ops chosen (λ e. (numbers : List ExactBlock) × (categories : List NamedBlock)
      × Exact numbers × Named categories
      × StandsOp places ops (PluralOp e offset ordinal numbers categories) from past) from past
      → past ≤ end → Pass past end number → Pass from end number
  plural_sound None there typed ordinal offset within from past end number Exact Named exact named other h l rest =
      let no : ⊥ = cc in absurd no
  plural_sound (Some e) there typed ordinal offset within from past end number Exact Named exact named other h l rest =
      let o : Op = PluralOp e offset ordinal h.0 h.1 in
      let inside : from ≤ length ops = op_within templates places ops o from past h.4 in
      let ms = take from (checks templates places ops) in
      op_passes templates places ops o from past end number scope scope h.4 l
      (passes_if (is_sound_plural ms e offset h.0 h.1 scope) scope
      (both_true _ _ (both_true _ _ (both_true _ _ (both_true (is_sound_expr is_int e scope) (nat_le offset largest)
      (expr_sound is_int e scope typed) within) (other h.1 h.3)) (exact h.0 h.2 inside)) (named h.1 h.3 inside))) rest

  select_sound : (chosen : Option Expr) → is_some chosen ≡ true → IsSelector false chosen scope
      → (from past end : ℕ) (number : Bool) (Words : List WordBlock → Type 0)
      → ((blocks : List WordBlock) → Words blocks → from ≤ length ops → WordsSound from blocks)
      → ((blocks : List WordBlock) → Words blocks → has_word_other blocks ≡ true)
      → StandsSelected places ops chosen (λ e. (words : List WordBlock) × Words words
      × StandsOp places ops (SelectOp e words) from past) from past
      → past ≤ end → Pass past end number → Pass from end number
  select_sound None there typed from past end number Words words other h l rest = let no : ⊥ = cc in absurd no
  select_sound (Some e) there typed from past end number Words words other h l rest =
      let o : Op = SelectOp e h.0 in
      let inside : from ≤ length ops = op_within templates places ops o from past h.2 in
      let ms = take from (checks templates places ops) in
      op_passes templates places ops o from past end number scope scope h.2 l
      (passes_if (is_sound_select ms e h.0 scope) scope
      (both_true _ _ (both_true (is_sound_expr is_string e scope) (has_word_other h.0) (expr_sound is_string e scope
      typed) (other h.0 h.1)) (words h.0 h.1 inside))) rest

  or_either : (t u v w : Bool) → t ≡ v → (u ≡ true → w ≡ true) → (t || u) ≡ true → (v || w) ≡ true
  or_either true u v w e f h = ap (λ b. b || w) (sym e)
  or_either false u v w e f h = ap (λ b. b || w) (sym e) ∙ f h

  -- the arm other is there in the blocks too
  named_other : (arms : NamedArms) → has_other arms ≡ true → (blocks : List NamedBlock) (first before : ℕ)
      → StandsNamed places ops uses arms blocks first before → has_named_other blocks ≡ true
  named_other no_named_arm has blocks first before h = let no : ⊥ = cc in absurd no
  named_other (named_arm k ps arms) has [] first before h = absurd h
  named_other (named_arm k ps arms) has (b ∷ blocks) first before h =
      or_either (is_same k category.Other) (has_other arms) (is_same b.category category.Other) (has_named_other blocks)
      (ap (λ z. is_same z category.Other) (sym h.0))
      (λ later. named_other arms later blocks (first + parts_holes uses ps) before h.3) has

  word_other : (arms : SelectArms) → has_other_word arms ≡ true → (blocks : List WordBlock) (first before : ℕ)
      → StandsWords places ops uses arms blocks first before → has_word_other blocks ≡ true
  word_other no_select_arm has blocks first before h = let no : ⊥ = cc in absurd no
  word_other (select_arm word ps arms) has [] first before h = absurd h
  word_other (select_arm word ps arms) has (b ∷ blocks) first before h =
      or_either (bytes_eq word (codes "other")) (has_other_word arms) (bytes_eq b.is (codes "other"))
      (has_word_other blocks) (ap (λ z. bytes_eq z (codes "other")) (sym h.0))
      (λ later. word_other arms later blocks (first + parts_holes uses ps) before h.3) has

  -- ---- parts

  mutual
    part_sound : (p : MsgPart) → part_fits uses p ≡ true → (number : Bool) → IsWhole number p
        → (first from past end : ℕ) → Taken places (part_plan uses scope at p) first
        → StandsPart places ops uses p first from past → past ≤ end → Pass past end number → Pass from end number
    part_sound (TextPart text) fits number numbered first from past end taken h l rest =
        text_sound templates places ops text from past end number scope h l rest
    part_sound (Placeholder name) fits number numbered first from past end taken h l rest =
        cut_sound (placeholder_cut name uses uses) (printable_cut name uses uses scope printable) first from past end
        number taken h l rest
    part_sound NumberPart fits number numbered first from past end taken h l rest =
        let takes = and_parts (takes_class (Takes (place_of places first)) class.Int) true
        (hole_taken places at (class.Int ∷ []) first taken) in
        op_passes templates places ops (NumberOp (place_of places first)) from past end number scope scope h l
        (passes_if (number && takes_class (Takes (place_of places first)) class.Int) scope
        (both_true number (takes_class (Takes (place_of places first)) class.Int) numbered takes.0)) rest
    part_sound (PluralPart ordinal name offset exact named) fits number numbered first from past end taken h l rest =
        let parts = and_parts (is_some (selector true name uses uses) && has_other named) (exact_fit uses exact
        && named_fit uses named) fits in
        let head = and_parts (is_some (selector true name uses uses)) (has_other named) parts.0 in
        let fit = and_parts (exact_fit uses exact) (named_fit uses named) parts.1 in
        let ones = exact_plans uses scope at exact in
        let others = named_plans uses scope at named in
        let split = taken_split places ones others first (arms_taken places at (ones ++ others) first taken) in
        let behind : AllTaken places others (first + exact_holes uses exact) =
        all_from places others (first + all_holes ones) (first + exact_holes uses exact)
        (ap (λ k. first + k) (exact_count uses scope at exact)) split.1 in
        plural_sound (selector true name uses uses) head.0 (selector_typed true name uses uses scope selects) ordinal
        offset numbered.0 from past end number
        (λ blocks. StandsExact places ops uses exact blocks first from)
        (λ blocks. StandsNamed places ops uses named blocks (first + exact_holes uses exact) from)
        (λ blocks stands inside. exact_sound exact fit.0 numbered.1 first from split.0 inside blocks stands)
        (λ blocks stands inside. named_sound named fit.1 numbered.2 (first + exact_holes uses exact) from behind inside
        blocks stands)
        (λ blocks stands. named_other named head.1 blocks (first + exact_holes uses exact) from stands) h l rest
    part_sound (SelectPart name arms) fits number numbered first from past end taken h l rest =
        let parts = and_parts (is_some (selector false name uses uses) && has_other_word arms) (select_fit uses arms)
        fits in
        let head = and_parts (is_some (selector false name uses uses)) (has_other_word arms) parts.0 in
        let all = arms_taken places at (select_arm_plans uses scope at arms) first taken in
        select_sound (selector false name uses uses) head.0 (selector_typed false name uses uses scope selects) from
        past end number (λ blocks. StandsWords places ops uses arms blocks first from)
        (λ blocks stands inside. words_sound arms parts.1 numbered.0 first from all inside blocks stands)
        (λ blocks stands. word_other arms head.1 blocks first from stands) h l rest

    pub parts_sound : (ps : MsgParts) → parts_fit uses ps ≡ true → (number : Bool) → AreWhole number ps
        → (first from past end : ℕ) → Taken places (parts_plan uses scope at ps) first
        → StandsParts places ops uses ps first from past → past ≤ end → Pass past end number → Pass from end number
    parts_sound no_part fits number numbered first from past end taken h l rest =
        nothing_passes templates places ops from past end number scope h rest
    parts_sound (part p ps) fits number numbered first from past end taken h l rest =
        let fit = and_parts (part_fits uses p) (parts_fit uses ps) fits in
        let one : Plan = part_plan uses scope at p in
        let two : Plan = parts_plan uses scope at ps in
        let middle : h.0 ≤ end = up_to (parts_forward places ops uses ps (first + part_holes uses p) h.0 past h.2) l in
        part_sound p fit.0 number numbered.0 first from h.0 end (first_taken places one two first taken) h.1 middle
        (parts_sound ps fit.1 number numbered.1 (first + part_holes uses p) h.0 past end
        (taken_from places two (first + hole_count one) (first + part_holes uses p)
        (ap (λ k. first + k) (part_count uses scope at p))
        (second_taken places one two first (part_path uses scope at p fit.0) taken)) h.2 l rest)

    exact_sound : (arms : ExactArms) → exact_fit uses arms ≡ true → ExactWhole arms → (first before : ℕ)
        → AllTaken places (exact_plans uses scope at arms) first → before ≤ length ops → (blocks : List ExactBlock)
        → StandsExact places ops uses arms blocks first before → ExactSound before blocks
    exact_sound no_exact_arm fits numbered first before taken l [] h = refl
    exact_sound no_exact_arm fits numbered first before taken l (b ∷ blocks) h = absurd h
    exact_sound (exact_arm n ps arms) fits numbered first before taken l [] h = absurd h
    exact_sound (exact_arm n ps arms) fits numbered first before taken l (b ∷ blocks) h =
        let fit = and_parts (parts_fit uses ps) (exact_fit uses arms) fits in
        both_true _ _
        (block_sound templates places ops b.body before true scope
        (parts_forward places ops uses ps first b.body.first b.body.end h.2) h.1 l
        (parts_sound ps fit.0 true numbered.0 first b.body.first b.body.end b.body.end taken.0 h.2
        (same_length b.body.end) (end_passes templates places ops b.body.end true scope)))
        (exact_sound arms fit.1 numbered.1 (first + parts_holes uses ps) before
        (all_from places (exact_plans uses scope at arms) (first + hole_count (parts_plan uses scope at ps))
        (first + parts_holes uses ps) (ap (λ k. first + k) (parts_count uses scope at ps)) taken.1) l blocks h.3)

    named_sound : (arms : NamedArms) → named_fit uses arms ≡ true → NamedWhole arms → (first before : ℕ)
        → AllTaken places (named_plans uses scope at arms) first → before ≤ length ops → (blocks : List NamedBlock)
        → StandsNamed places ops uses arms blocks first before → NamedSound before blocks
    named_sound no_named_arm fits numbered first before taken l [] h = refl
    named_sound no_named_arm fits numbered first before taken l (b ∷ blocks) h = absurd h
    named_sound (named_arm k ps arms) fits numbered first before taken l [] h = absurd h
    named_sound (named_arm k ps arms) fits numbered first before taken l (b ∷ blocks) h =
        let fit = and_parts (parts_fit uses ps) (named_fit uses arms) fits in
        both_true _ _
        (block_sound templates places ops b.body before true scope
        (parts_forward places ops uses ps first b.body.first b.body.end h.2) h.1 l
        (parts_sound ps fit.0 true numbered.0 first b.body.first b.body.end b.body.end taken.0 h.2
        (same_length b.body.end) (end_passes templates places ops b.body.end true scope)))
        (named_sound arms fit.1 numbered.1 (first + parts_holes uses ps) before
        (all_from places (named_plans uses scope at arms) (first + hole_count (parts_plan uses scope at ps))
        (first + parts_holes uses ps) (ap (λ k. first + k) (parts_count uses scope at ps)) taken.1) l blocks h.3)

    words_sound : (arms : SelectArms) → select_fit uses arms ≡ true → WordsWhole arms → (first before : ℕ)
        → AllTaken places (select_arm_plans uses scope at arms) first → before ≤ length ops
        → (blocks : List WordBlock) → StandsWords places ops uses arms blocks first before → WordsSound before blocks
    words_sound no_select_arm fits numbered first before taken l [] h = refl
    words_sound no_select_arm fits numbered first before taken l (b ∷ blocks) h = absurd h
    words_sound (select_arm word ps arms) fits numbered first before taken l [] h = absurd h
    words_sound (select_arm word ps arms) fits numbered first before taken l (b ∷ blocks) h =
        let fit = and_parts (parts_fit uses ps) (select_fit uses arms) fits in
        both_true _ _
        (block_sound templates places ops b.body before false scope
        (parts_forward places ops uses ps first b.body.first b.body.end h.2) h.1 l
        (parts_sound ps fit.0 false numbered.0 first b.body.first b.body.end b.body.end taken.0 h.2
        (same_length b.body.end) (end_passes templates places ops b.body.end false scope)))
        (words_sound arms fit.1 numbered.1 (first + parts_holes uses ps) before
        (all_from places (select_arm_plans uses scope at arms) (first + hole_count (parts_plan uses scope at ps))
        (first + parts_holes uses ps) (ap (λ k. first + k) (parts_count uses scope at ps)) taken.1) l blocks h.3)
