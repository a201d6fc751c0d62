-- The canonical text of a formed message without repeated cases is made of its parts alone.
use Rattle.std.proofs.Common.{◌≡◌, ◌≢◌, ℕ, ◌==◌, ◌&&◌, ◌||◌, not, Bool, true, false, List, [], ◌∷◌, ◌++◌, Option, Some}
use Rattle.std.proofs.Common.{None, refl, sym, ◌∙◌, ap, subst, append_assoc, append-nil, bytes_eq, nat_le}
use Rattle.std.specs.Prelude.{if◌then◌else◌}
use Rattle.std.specs.Prelude.{codes, ℤ}
use Rattle.std.specs.List.{list_all, list_any}
use Rattle.std.specs.Fmt.{signed_decimal}
use Rattle.std.proofs.lemmas.Slice.Eq.{bytes_eq-Decides}
use Rattle.plural_rules.specs.declared.category.Category.{Category}
use Rattle.plural_rules.specs.declared.category.Category.TheVariants as category
use Rattle.soy_base.specs.Characters.{left_brace, right_brace, space, equals_sign}
use Rattle.soy_tree.specs.Types.{Name}
use Rattle.soy_base.specs.Limits.{largest}
use Rattle.soy_tree.specs.Nodes.{MessageBody, PluralCases, SelectCases, Parts, Plural, Select, no_plural_case}
use Rattle.soy_tree.specs.Nodes.{plural_case, no_select_case, select_case}
use Rattle.soy_tree.specs.MessageText.{Cut, TextCut, PrintCut, TagCut, cuts_of, message_items}
use Rattle.soy_tree.specs.MessageParts.{MsgPart, MsgParts, ExactArms, NamedArms, SelectArms, TextPart, Placeholder}
use Rattle.soy_tree.specs.MessageParts.{NumberPart, PluralPart, SelectPart, no_part, part, no_exact_arm, exact_arm}
use Rattle.soy_tree.specs.MessageParts.{no_named_arm, named_arm, no_select_arm, select_arm}
use Rattle.soy_rules.specs.BaseNames.{base_of_expr, base_of_print, base_of_tag}
use Rattle.soy_rules.specs.Placeholders.{Use, ExprContent, TagContent, name_of, body_uses}
use Rattle.soy_tree.specs.Formed.{is_formed_expr, is_formed_int, is_case_word, are_formed_nodes, is_word_character}
use Rattle.soy_tree.specs.Formed.{is_message_text, is_formed_body, are_formed_plural_cases, are_formed_select_cases}
use Rattle.soy_rules.specs.IcuText.{Key, Exact, Named, is_int_among, exact_arms, named_arms, select_arms, with_text}
use Rattle.msg_extract.specs.Canonical.CanonicalText.{text_of_items, written_text, written_name, written_cuts}
use Rattle.msg_extract.specs.Canonical.CanonicalText.{written_found}
use Rattle.msg_extract.specs.Canonical.CanonicalText.{written_offset, written_case, written_body, written_plural_cases}
use Rattle.msg_extract.specs.Canonical.CanonicalText.{written_select_cases, canonical_text}
use Rattle.msg_extract.specs.Canonical.SourceParts.{cut_parts, found_parts, body_parts, plural_case_parts}
use Rattle.msg_extract.specs.Canonical.SourceParts.{select_case_parts}
use Rattle.msg_extract.specs.Canonical.SourceParts.{source_parts}
use Rattle.msg_extract.specs.Canonical.RepeatedCases.{has_distinct_cases, are_distinct_plural_cases}
use Rattle.msg_extract.specs.Canonical.RepeatedCases.{are_distinct_select_cases}
use Rattle.msg_extract.proofs.MessageCuts.{Holds, AreCuts, text_cuts}
use Rattle.msg_extract.proofs.JoinedTests.{and_left, and_right}
use Rattle.msg_extract.proofs.Texts.CanonicalReads.{three_parts, four_parts, cuts_weaker}

-- a case that isn't the last is followed by a space
abbrev followed : List ℕ → List ℕ → List ℕ
followed word text = if bytes_eq word (codes "other") then text else space ∷ text

-- parts as a canonical text writes them
abbrev mutual
  part_text : Bool → MsgPart → List ℕ
  part_text in_plural (TextPart text) = written_text in_plural text
  part_text in_plural (Placeholder name) = written_name name
  part_text in_plural NumberPart = []
  part_text in_plural (PluralPart ordinal name offset exact named) =
      left_brace ∷ (name ++ (codes ", plural, " ++ (written_offset offset ++ (exact_text exact
      ++ (named_text named ++ right_brace ∷ [])))))
  part_text in_plural (SelectPart name arms) =
      left_brace ∷ (name ++ (codes ", select, " ++ (select_text arms ++ right_brace ∷ [])))

  parts_text : Bool → MsgParts → List ℕ
  parts_text in_plural no_part = []
  parts_text in_plural (part p ps) = part_text in_plural p ++ parts_text in_plural ps

  exact_text : ExactArms → List ℕ
  exact_text no_exact_arm = []
  exact_text (exact_arm n ps arms) =
      written_case (equals_sign ∷ signed_decimal n) (parts_text true ps) ++ (space ∷ exact_text arms)

  named_text : NamedArms → List ℕ
  named_text no_named_arm = []
  named_text (named_arm category ps arms) = written_case (codes "other") (parts_text true ps) ++ named_text arms

  select_text : SelectArms → List ℕ
  select_text no_select_arm = []
  select_text (select_arm word ps arms) =
      written_case word (parts_text false ps) ++ followed word (select_text arms)

abbrev begins_with_text_part : MsgParts → Bool
begins_with_text_part no_part = false
begins_with_text_part (part (TextPart text) ps) = true
begins_with_text_part (part (Placeholder name) ps) = false
begins_with_text_part (part NumberPart ps) = false
begins_with_text_part (part (PluralPart ordinal name offset exact named) ps) = false
begins_with_text_part (part (SelectPart name arms) ps) = false

-- text before parts that begin otherwise
text_first : (flag : Bool) (text : List ℕ) (ps : MsgParts) → begins_with_text_part ps ≡ false
    → written_text flag text ++ parts_text flag ps ≡ parts_text flag (with_text text ps)
text_first flag [] ps h = refl
text_first flag (c ∷ cs) no_part h = refl
text_first flag (c ∷ cs) (part (TextPart text) ps) h = absurd (cc h)
text_first flag (c ∷ cs) (part (Placeholder name) ps) h = refl
text_first flag (c ∷ cs) (part NumberPart ps) h = refl
text_first flag (c ∷ cs) (part (PluralPart ordinal name offset exact named) ps) h = refl
text_first flag (c ∷ cs) (part (SelectPart name arms) ps) h = refl

module _ (uses : List Use) where
  other_first : (cuts : List Cut) → AreCuts false cuts → begins_with_text_part (cut_parts uses cuts) ≡ false
  other_first [] h = refl
  other_first (TextCut items ∷ cuts) h = absurd h
  other_first (PrintCut e phname span ∷ cuts) h = refl
  other_first (TagCut tag ∷ cuts) h = refl

  cuts_text : (flag : Bool) (cuts : List Cut) → AreCuts true cuts
      → written_cuts uses flag cuts ≡ parts_text flag (cut_parts uses cuts)
  cuts_text flag [] h = refl
  cuts_text flag (TextCut items ∷ cuts) h =
      ap (λ t. written_text flag (text_of_items items) ++ t) (cuts_text flag cuts (cuts_weaker uses false cuts h))
      ∙ text_first flag (text_of_items items) (cut_parts uses cuts) (other_first cuts h)
  cuts_text flag (PrintCut e phname span ∷ cuts) h =
      ap (λ t. written_name (name_of uses (base_of_print e phname) (ExprContent e)) ++ t) (cuts_text flag cuts h.1)
  cuts_text flag (TagCut tag ∷ cuts) h =
      ap (λ t. written_name (name_of uses (base_of_tag tag) (TagContent tag)) ++ t) (cuts_text flag cuts h.1)

  found_text : (flag : Bool) (found : Option (List Cut)) → Holds (AreCuts true) found
      → written_found uses flag found ≡ parts_text flag (found_parts uses found)
  found_text flag None h = refl
  found_text flag (Some cuts) h = cuts_text flag cuts h

  -- the arm for other is the only one for a category
  other_arm : (cases : PluralCases) (ps : MsgParts)
      → named_text (named_arms [] (plural_case_parts uses cases ++ (Named category.Other, ps) ∷ []))
      ≡ written_case (codes "other") (parts_text true ps)
  other_arm no_plural_case ps = append-nil (written_case (codes "other") (parts_text true ps))
  other_arm (plural_case n body cases) ps = other_arm cases ps

-- a case's word isn't `other`
not_other : (word : List ℕ) → is_case_word word ≡ true → bytes_eq word (codes "other") ≡ false
not_other [] h = absurd (cc h)
not_other (c ∷ cs) h =
    off (bytes_eq (c ∷ cs) (codes "other")) (and_right (list_all is_word_character (c ∷ cs))
    (not (bytes_eq (c ∷ cs) (codes "other"))) h)
  where
    off : (b : Bool) → not b ≡ true → b ≡ false
    off true e = absurd (cc e)
    off false e = refl

equal_bytes : (a b : List ℕ) → bytes_eq a b ≡ true → bytes_eq b a ≡ true
equal_bytes a b h = (bytes_eq-Decides b a).1 (sym ((bytes_eq-Decides a b).0 h))

other_than_word : (word : List ℕ) → is_case_word word ≡ true → bytes_eq (codes "other") word ≡ false
other_than_word word h = by_value (bytes_eq (codes "other") word) refl
  where
    by_value : (b : Bool) → bytes_eq (codes "other") word ≡ b → b ≡ false
    by_value true e = absurd (cc (equal_bytes (codes "other") word e, not_other word h))
    by_value false e = refl

not_true : (a : Bool) → not a ≡ true → a ≡ false
not_true true e = absurd (cc e)
not_true false e = refl

neither : (a b : Bool) → a ≡ false → b ≡ false → (a || b) ≡ false
neither true b e f = absurd (cc e)
neither false b e f = f

module _ (uses : List Use) where
  mutual
    pub body_text : (flag : Bool) (body : MessageBody) → is_formed_body body ≡ true → has_distinct_cases body ≡ true
        → written_body uses flag body ≡ parts_text flag (body_parts uses body)
    body_text flag (Parts ns) f d =
        found_text uses flag (cuts_of (message_items ns))
        (text_cuts ns (and_left (are_formed_nodes ns) (is_message_text ns) f))
    body_text flag (Plural e offset cases other) f d =
        let parts = four_parts (is_formed_expr e) (nat_le offset largest) (are_formed_plural_cases cases)
        (is_formed_body other) f in
        let apart = and_left (are_distinct_plural_cases [] cases) (has_distinct_cases other) d in
        let rest = and_right (are_distinct_plural_cases [] cases) (has_distinct_cases other) d in
        let name : Name = name_of uses (base_of_expr e) (ExprContent e) in
        let arms : List (Key × MsgParts) =
        plural_case_parts uses cases ++ (Named category.Other, body_parts uses other) ∷ [] in
        let last : List ℕ = written_case (codes "other") (written_body uses true other) in
        let named : last ≡ named_text (named_arms [] arms) =
        ap (written_case (codes "other")) (body_text true other parts.3 rest)
        ∙ sym (other_arm uses cases (body_parts uses other)) in
        let exact : written_plural_cases uses cases ≡ exact_text (exact_arms [] arms) =
        plural_text [] cases (body_parts uses other) parts.2 apart in
        ap (λ t. left_brace ∷ (name ++ (codes ", plural, " ++ (written_offset offset ++ (t ++
        (last ++ right_brace ∷ [])))))) exact
        ∙ (ap (λ t. left_brace ∷ (name ++ (codes ", plural, " ++ (written_offset offset ++
        (exact_text (exact_arms [] arms) ++ (t ++ right_brace ∷ [])))))) named
        ∙ sym (append-nil (part_text flag
        (PluralPart false name offset (exact_arms [] arms) (named_arms [] arms)))))
    body_text flag (Select e cases other) f d =
        let parts = three_parts (is_formed_expr e) (are_formed_select_cases cases) (is_formed_body other) f in
        let apart = and_left (are_distinct_select_cases [] cases) (has_distinct_cases other) d in
        let rest = and_right (are_distinct_select_cases [] cases) (has_distinct_cases other) d in
        let name : Name = name_of uses (base_of_expr e) (ExprContent e) in
        let arms : List (List ℕ × MsgParts) =
        select_case_parts uses cases ++ (codes "other", body_parts uses other) ∷ [] in
        let last : List ℕ = written_case (codes "other") (written_body uses false other) in
        let all : written_select_cases uses cases ++ last ≡ select_text (select_arms [] arms) =
        select_cases_text [] cases other parts.1 apart refl (body_text false other parts.2 rest) in
        ap (λ t. left_brace ∷ (name ++ (codes ", select, " ++ t)))
        (sym (append_assoc (written_select_cases uses cases) last (right_brace ∷ [])))
        ∙ (ap (λ t. left_brace ∷ (name ++ (codes ", select, " ++ (t ++ right_brace ∷ [])))) all
        ∙ sym (append-nil (part_text flag (SelectPart name (select_arms [] arms)))))

    plural_text : (before : List ℤ) (cases : PluralCases) (ps : MsgParts) → are_formed_plural_cases cases ≡ true
        → are_distinct_plural_cases before cases ≡ true
        → written_plural_cases uses cases
        ≡ exact_text (exact_arms before (plural_case_parts uses cases ++ (Named category.Other, ps) ∷ []))
    plural_text before no_plural_case ps f d = refl
    plural_text before (plural_case n body cases) ps f d =
        let parts = three_parts (is_formed_int n) (is_formed_body body) (are_formed_plural_cases cases) f in
        let apart = three_parts (not (is_int_among n before)) (has_distinct_cases body)
        (are_distinct_plural_cases (n ∷ before) cases) d in
        let new : is_int_among n before ≡ false = not_true (is_int_among n before) apart.0 in
        rw (new, body_text true body parts.1 apart.1, plural_text (n ∷ before) cases ps parts.2 apart.2) refl

    select_cases_text : (before : List (List ℕ)) (cases : SelectCases) (other : MessageBody)
        → are_formed_select_cases cases ≡ true → are_distinct_select_cases before cases ≡ true
        → list_any (bytes_eq (codes "other")) before ≡ false
        → written_body uses false other ≡ parts_text false (body_parts uses other)
        → written_select_cases uses cases ++ written_case (codes "other") (written_body uses false other)
        ≡ select_text (select_arms before (select_case_parts uses cases ++ (codes "other", body_parts uses other) ∷ []))
    select_cases_text before no_select_case other f d h same =
        rw (h, same) (sym (append-nil (written_case (codes "other") (parts_text false (body_parts uses other)))))
    select_cases_text before (select_case word body cases) other f d h same =
        let parts = three_parts (is_case_word word) (is_formed_body body) (are_formed_select_cases cases) f in
        let apart = three_parts (not (list_any (bytes_eq word) before)) (has_distinct_cases body)
        (are_distinct_select_cases (word ∷ before) cases) d in
        let new : list_any (bytes_eq word) before ≡ false = not_true (list_any (bytes_eq word) before) apart.0 in
        let more = select_cases_text (word ∷ before) cases other parts.2 apart.2
        (neither (bytes_eq (codes "other") word) (list_any (bytes_eq (codes "other")) before)
        (other_than_word word parts.0) h) same in
        let last : List ℕ = written_case (codes "other") (written_body uses false other) in
        append_assoc (written_case word (written_body uses false body)) (space ∷ written_select_cases uses cases) last
        ∙ rw (new, not_other word parts.0, body_text false body parts.1 apart.1, sym more) refl

pub text_of_parts : (body : MessageBody) → is_formed_body body ≡ true → has_distinct_cases body ≡ true
    → canonical_text body ≡ parts_text false (source_parts body)
text_of_parts body f d = body_text (body_uses body) false body f d

pub equal_texts : (a b : MessageBody) → is_formed_body a ≡ true → is_formed_body b ≡ true
    → has_distinct_cases a ≡ true → has_distinct_cases b ≡ true → source_parts a ≡ source_parts b
    → canonical_text a ≡ canonical_text b
equal_texts a b f g d e same =
    text_of_parts a f d ∙ (ap (parts_text false) same ∙ sym (text_of_parts b g e))
