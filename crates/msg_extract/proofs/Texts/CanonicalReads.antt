-- The canonical text of a formed message is a pattern whose parts are those of its source.
use Rattle.std.proofs.Common.{◌≡◌, ℕ, zero, suc, ◌+◌, ◌%◌, ◌<◌, ◌≤◌, max, nat_le, ◌==◌, ◌&&◌, ◌||◌, not, Bool, true}
use Rattle.std.proofs.Common.{false, List, [], ◌∷◌, ◌++◌, length, Option, Some, None, refl, sym, ◌∙◌, ap, subst}
use Rattle.std.proofs.Common.{append_assoc, append-nil, IsTrue, arith, bytes_eq}
use Rattle.std.specs.Prelude.{codes, ℤ, pos, negsuc}
use Rattle.std.specs.Char.{is_ascii_digit}
use Rattle.std.specs.Fmt.{decimal, digit_glyph, signed_decimal}
use Rattle.std.specs.List.{list_all, list_any}
use Rattle.std.proofs.lemmas.Bool.{leb-true}
use Rattle.std.proofs.lemmas.Bool.Decides.{nat_tests}
use Rattle.std.proofs.lemmas.Fmt.{decimal_is_IsNumeral}
use Rattle.plural_rules.specs.declared.category.Category.TheVariants as category
use Rattle.soy_base.specs.Characters.{left_brace, right_brace, space, equals_sign}
use Rattle.soy_base.specs.Names.{is_name}
use Rattle.soy_tree.specs.Types.{Name}
use Rattle.soy_base.specs.Limits.{largest}
use Rattle.soy_tree.specs.Nodes.{MessageBody, PluralCases, SelectCases, Parts, Plural, Select, no_plural_case}
use Rattle.soy_tree.specs.Nodes.{plural_case, no_select_case, select_case}
use Rattle.soy_tree.specs.MessageText.{Cut, TextCut, PrintCut, TagCut, cuts_of, message_items}
use Rattle.soy_tree.specs.MessageParts.{MsgParts, Placeholder, no_part, part}
use Rattle.soy_rules.specs.BaseNames.{base_of_expr, base_of_print, base_of_tag}
use Rattle.soy_rules.specs.Placeholders.{Use, ExprContent, TagContent, name_of, body_uses}
use Rattle.soy_tree.specs.Formed.{is_formed_expr, is_formed_int, is_word_character, is_case_word, are_formed_nodes}
use Rattle.soy_tree.specs.Formed.{is_message_text, nesting, plural_nesting, select_nesting, is_formed_body}
use Rattle.soy_tree.specs.Formed.{are_formed_plural_cases, are_formed_select_cases}
use Rattle.soy_rules.specs.IcuText as icu
use Rattle.soy_rules.specs.IcuText.{PatternMode, AtTop, InPlural, InSelect, begins_with_quote, Reads, IsArgument}
use Rattle.soy_rules.specs.IcuText.{IsSpacedName, IsSpacedKeyword, IsNumber, IsOffset, IsKey, IsWord, Key, Exact, Named}
use Rattle.soy_rules.specs.IcuText.{PluralArms, WordArms, is_other, exact_arms, named_arms, select_arms, with_text}
use Rattle.soy_rules.specs.IcuText.{IsPattern}
use Rattle.msg_extract.specs.Canonical.CanonicalText.{is_in_plural, text_of_items, written_text, written_name}
use Rattle.msg_extract.specs.Canonical.CanonicalText.{written_cuts}
use Rattle.msg_extract.specs.Canonical.CanonicalText.{written_found, written_offset, written_case, written_body}
use Rattle.msg_extract.specs.Canonical.CanonicalText.{written_plural_cases, written_select_cases, canonical_text}
use Rattle.msg_extract.specs.Canonical.SourceParts.{cut_parts, found_parts, body_parts, plural_case_parts}
use Rattle.msg_extract.specs.Canonical.SourceParts.{select_case_parts}
use Rattle.msg_extract.specs.Canonical.SourceParts.{source_parts}
use Rattle.msg_extract.proofs.Naming.MessageNames.{base_tag, name_is}
use Rattle.msg_extract.proofs.MessageCuts.{Holds, AreCuts, text_cuts, expr_base}
use Rattle.msg_extract.proofs.JoinedTests.{and_left, and_right}
use Rattle.msg_extract.proofs.Decimals.{decimal_passes}
use Rattle.msg_extract.proofs.Texts.WrittenText.{text_reads}

spaced_name : (name : Name) → IsTrue (is_name name) → IsSpacedName name name
spaced_name name h =
    record { before = []; after = []; white_before = refl; white_after = refl; is = h; whole = sym (append-nil name) }

module _ (uses : List Use) where
  name_reads : (mode : PatternMode) (n : ℕ) (name : Name) → IsTrue (is_name name) → (rest end : List ℕ) (ps : MsgParts)
      → Reads mode (suc n) rest ps end
      → Reads mode (suc n) (written_name name ++ rest) (part (Placeholder name) ps) end
  name_reads mode n name h rest end ps r =
      subst (λ t. Reads mode (suc n) (left_brace ∷ t) (part (Placeholder name) ps) end)
      (sym (append_assoc name (right_brace ∷ []) rest))
      (icu.argument (name ++ right_brace ∷ rest) rest end (Placeholder name) ps
      (icu.placeholder name (right_brace ∷ rest) name (spaced_name name h)) r)

  cuts_no_quote : (flag : Bool) (cuts : List Cut) → AreCuts false cuts → (rest : List ℕ)
      → begins_with_quote rest ≡ false
      → begins_with_quote (written_cuts uses flag cuts ++ rest) ≡ false
  cuts_no_quote flag [] h rest q = q
  cuts_no_quote flag (TextCut items ∷ cuts) h rest q = absurd h
  cuts_no_quote flag (PrintCut e phname span ∷ cuts) h rest q = refl
  cuts_no_quote flag (TagCut tag ∷ cuts) h rest q = refl

  pub cuts_weaker : (first : Bool) (cuts : List Cut) → AreCuts first cuts → AreCuts true cuts
  cuts_weaker true cuts h = h
  cuts_weaker false [] h = tt
  cuts_weaker false (TextCut items ∷ cuts) h = absurd h
  cuts_weaker false (PrintCut e phname span ∷ cuts) h = h
  cuts_weaker false (TagCut tag ∷ cuts) h = h

  cuts_reads : (mode : PatternMode) (n : ℕ) (cuts : List Cut) → AreCuts true cuts → (rest : List ℕ)
      → begins_with_quote rest ≡ false
      → Reads mode (suc n) (written_cuts uses (is_in_plural mode) cuts ++ rest) (cut_parts uses cuts) rest
  cuts_reads mode n [] h rest q = icu.stop rest
  cuts_reads mode n (TextCut items ∷ cuts) h rest q =
      subst (λ t. Reads mode (suc n) t (cut_parts uses (TextCut items ∷ cuts)) rest)
      (sym (append_assoc (written_text (is_in_plural mode) (text_of_items items))
      (written_cuts uses (is_in_plural mode) cuts)
      rest))
      (text_reads mode (suc n) (written_cuts uses (is_in_plural mode) cuts ++ rest) (cut_parts uses cuts) rest
      (cuts_no_quote (is_in_plural mode) cuts h rest q)
      (cuts_reads mode n cuts (cuts_weaker false cuts h) rest q) (text_of_items items))
  cuts_reads mode n (PrintCut e phname span ∷ cuts) h rest q =
      let name : Name = name_of uses (base_of_print e phname) (ExprContent e) in
      subst (λ t. Reads mode (suc n) t (cut_parts uses (PrintCut e phname span ∷ cuts)) rest)
      (sym (append_assoc (written_name name) (written_cuts uses (is_in_plural mode) cuts) rest))
      (name_reads mode n name (name_is uses (base_of_print e phname) (ExprContent e) h.0)
      (written_cuts uses (is_in_plural mode) cuts ++ rest) rest (cut_parts uses cuts)
      (cuts_reads mode n cuts h.1 rest q))
  cuts_reads mode n (TagCut tag ∷ cuts) h rest q =
      let name : Name = name_of uses (base_of_tag tag) (TagContent tag) in
      subst (λ t. Reads mode (suc n) t (cut_parts uses (TagCut tag ∷ cuts)) rest)
      (sym (append_assoc (written_name name) (written_cuts uses (is_in_plural mode) cuts) rest))
      (name_reads mode n name (name_is uses (base_of_tag tag) (TagContent tag) (base_tag tag h.0))
      (written_cuts uses (is_in_plural mode) cuts ++ rest) rest (cut_parts uses cuts)
      (cuts_reads mode n cuts h.1 rest q))

  found_reads : (mode : PatternMode) (n : ℕ) (found : Option (List Cut)) → Holds (AreCuts true) found → (rest : List ℕ)
      → begins_with_quote rest ≡ false
      → Reads mode (suc n) (written_found uses (is_in_plural mode) found ++ rest) (found_parts uses found) rest
  found_reads mode n None h rest q = icu.stop rest
  found_reads mode n (Some cuts) h rest q = cuts_reads mode n cuts h rest q

-- numbers

digit_of : (n : ℕ) → is_ascii_digit (digit_glyph false (n % 10)) ≡ true
digit_of n = grind (arith, nat_tests)

number_is : (n : ℕ) → n ≤ largest → IsNumber (decimal n) n
number_is n h =
    let d = decimal_is_IsNumeral n (omega (arith, h)) in
    record {
      digits = decimal_passes is_ascii_digit digit_of n;
      some = λ e. absurd (omega (arith, d.0.0, ap length e));
      value = d.1;
      within = h;
    }

int_key : (n : ℤ) → is_formed_int n ≡ true → IsKey (equals_sign ∷ signed_decimal n) (Exact n)
int_key (pos n) h = icu.exact [] (decimal n) n refl (number_is n (leb-true n largest h))
int_key (negsuc n) h = absurd (cc h)

offset_is : (offset : ℕ) → offset ≤ largest → IsOffset (written_offset offset) offset
offset_is zero h = icu.none
offset_is (suc n) h = rw (none n) (icu.given [] (decimal (suc n)) (space ∷ []) (suc n) refl (number_is (suc n) h) refl)
  where
    none : (n : ℕ) → (suc n == 0) ≡ false
    none n = grind (arith, nat_tests)

word_is : (word : List ℕ) → is_case_word word ≡ true → IsWord word
word_is [] h = absurd (cc h)
word_is (c ∷ cs) h = record {
  characters = and_left (list_all is_word_character (c ∷ cs))
      (not (bytes_eq (c ∷ cs) (codes "other"))) h;
  some = λ e. cc e;
}

other_last : (arms : List (Key × MsgParts)) (ps : MsgParts)
    → list_any is_other (arms ++ (Named category.Other, ps) ∷ []) ≡ true
other_last [] ps = refl
other_last (arm ∷ arms) ps =
    last (is_other arm) (list_any is_other (arms ++ (Named category.Other, ps) ∷ [])) (other_last arms ps)
  where
    last : (a b : Bool) → b ≡ true → (a || b) ≡ true
    last true b e = refl
    last false b e = e

other_word_last : (arms : List (List ℕ × MsgParts)) (ps : MsgParts)
    → list_any (λ arm. bytes_eq arm.0 (codes "other")) (arms ++ (codes "other", ps) ∷ []) ≡ true
other_word_last [] ps = refl
other_word_last (arm ∷ arms) ps = last (bytes_eq arm.0 (codes "other"))
    (list_any (λ (a : List ℕ × MsgParts). bytes_eq a.0 (codes "other")) (arms ++ (codes "other", ps) ∷ []))
    (other_word_last arms ps)
  where
    last : (a b : Bool) → b ≡ true → (a || b) ≡ true
    last true b e = refl
    last false b e = e

plural_spaced : IsSpacedKeyword (codes ", plural, ") (codes "plural")
plural_spaced = record {
  before = codes " ";
  after = [];
  last = codes " ";
  white_before = refl;
  white_after = refl;
  white_last = refl;
  whole = refl;
}

select_spaced : IsSpacedKeyword (codes ", select, ") (codes "select")
select_spaced = record {
  before = codes " ";
  after = [];
  last = codes " ";
  white_before = refl;
  white_after = refl;
  white_last = refl;
  whole = refl;
}

-- a case's text, and what follows it
case_then : (key text rest : List ℕ)
    → written_case key text ++ rest ≡ key ++ (space ∷ (left_brace ∷ (text ++ right_brace ∷ rest)))
case_then key text rest =
    append_assoc key (space ∷ (left_brace ∷ (text ++ right_brace ∷ []))) rest
    ∙ ap (λ t. key ++ (space ∷ (left_brace ∷ t))) (append_assoc text (right_brace ∷ []) rest)

pub three_parts : (a b c : Bool) → (a && b && c) ≡ true → (a ≡ true) × (b ≡ true) × (c ≡ true)
three_parts true true true e = (refl, refl, refl)
three_parts true true false e = absurd (cc e)
three_parts true false true e = absurd (cc e)
three_parts true false false e = absurd (cc e)
three_parts false b true e = absurd (cc e)
three_parts false b false e = absurd (cc e)

pub four_parts : (a b c d : Bool) → (a && b && c && d) ≡ true → (a ≡ true) × (b ≡ true) × (c ≡ true) × (d ≡ true)
four_parts a b c true e = let p = three_parts a b c (and_left (a && b && c) true e) in (p.0, p.1, p.2, refl)
four_parts a b c false e = absurd (cc (and_right (a && b && c) false e))

below : (a b n : ℕ) → 1 + max a b < suc n → (a < n) × (b < n)
below a b n h = (omega (arith, h), omega (arith, h))

below_both : (a b n : ℕ) → max a b < n → (a < n) × (b < n)
below_both a b n h = (omega (arith, h), omega (arith, h))

module _ (uses : List Use) where
  mutual
    pub body_reads : (mode : PatternMode) (n : ℕ) (body : MessageBody) → is_formed_body body ≡ true → nesting body < n
        → (rest : List ℕ) → begins_with_quote rest ≡ false
        → Reads mode n (written_body uses (is_in_plural mode) body ++ rest) (body_parts uses body) rest
    body_reads mode zero body f h rest q = absurd (omega (arith, h))
    body_reads mode (suc n) (Parts ns) f h rest q =
        found_reads uses mode n (cuts_of (message_items ns))
        (text_cuts ns (and_left (are_formed_nodes ns) (is_message_text ns) f)) rest q
    body_reads mode (suc n) (Plural e offset cases other) f h rest q =
        let b = below (plural_nesting cases) (nesting other) n h in
        let name : Name = name_of uses (base_of_expr e) (ExprContent e) in
        let parts = four_parts (is_formed_expr e) (nat_le offset largest) (are_formed_plural_cases cases)
        (is_formed_body other) f in
        let within : offset ≤ largest = leb-true offset largest parts.1 in
        let arms =
        plural_reads n cases other parts.2 b.0 (λ end p. body_reads InPlural n other parts.3 b.1 end p) rest in
        let inside : List ℕ = written_plural_cases uses cases ++
        (written_case (codes "other") (written_body uses true other) ++ right_brace ∷ []) in
        subst (λ t. Reads mode (suc n) (left_brace ∷ t) (body_parts uses (Plural e offset cases other)) rest)
        (sym (append_assoc name (codes ", plural, " ++ (written_offset offset ++ inside)) rest
        ∙ ap (λ t. name ++ (codes ", plural, " ++ t)) (append_assoc (written_offset offset) inside rest)))
        (icu.argument _ rest rest _ no_part
        (icu.plural name (codes ", plural, ") (written_offset offset) (inside ++ rest) (right_brace ∷ rest) name false
        offset
        (plural_case_parts uses cases ++ (Named category.Other, body_parts uses other) ∷ [])
        (spaced_name name (name_is uses (base_of_expr e) (ExprContent e) (expr_base e parts.0))) plural_spaced
        (offset_is offset within) arms
        (other_last (plural_case_parts uses cases) (body_parts uses other))) (icu.stop rest))
    body_reads mode (suc n) (Select e cases other) f h rest q =
        let b = below (select_nesting cases) (nesting other) n h in
        let name : Name = name_of uses (base_of_expr e) (ExprContent e) in
        let parts = three_parts (is_formed_expr e) (are_formed_select_cases cases) (is_formed_body other) f in
        let arms =
        select_reads n cases other parts.1 b.0 (λ end p. body_reads InSelect n other parts.2 b.1 end p) rest in
        let inside : List ℕ = written_select_cases uses cases ++
        (written_case (codes "other") (written_body uses false other) ++ right_brace ∷ []) in
        subst (λ t. Reads mode (suc n) (left_brace ∷ t) (body_parts uses (Select e cases other)) rest)
        (sym (append_assoc name (codes ", select, " ++ inside) rest))
        (icu.argument _ rest rest _ no_part
        (icu.select name (codes ", select, ") (inside ++ rest) (right_brace ∷ rest) name
        (select_case_parts uses cases ++ (codes "other", body_parts uses other) ∷ [])
        (spaced_name name (name_is uses (base_of_expr e) (ExprContent e) (expr_base e parts.0))) select_spaced arms
        (other_word_last (select_case_parts uses cases) (body_parts uses other))) (icu.stop rest))

    plural_reads : (n : ℕ) (cases : PluralCases) (other : MessageBody) → are_formed_plural_cases cases ≡ true
        → plural_nesting cases < n
        → ((end : List ℕ) → begins_with_quote end ≡ false → Reads InPlural n (written_body uses true other ++ end)
        (body_parts uses other) end)
        → (rest : List ℕ)
        → PluralArms n ((written_plural_cases uses cases ++
        (written_case (codes "other") (written_body uses true other) ++ right_brace ∷ [])) ++ rest)
        (plural_case_parts uses cases ++ (Named category.Other, body_parts uses other) ∷ []) (right_brace ∷ rest)
    plural_reads n no_plural_case other f h k rest =
        subst (λ t. PluralArms n t ((Named category.Other, body_parts uses other) ∷ []) (right_brace ∷ rest))
        (sym (append_assoc (written_case (codes "other") (written_body uses true other)) (right_brace ∷ []) rest
        ∙ case_then (codes "other") (written_body uses true other) (right_brace ∷ rest)))
        (icu.plural_arm (codes "other") (space ∷ [])
        (written_body uses true other ++ right_brace ∷ (right_brace ∷ rest)) [] (right_brace ∷ rest)
        (right_brace ∷ rest)
        (Named category.Other) (body_parts uses other) [] (icu.named category.Other) refl
        (k (right_brace ∷ (right_brace ∷ rest)) refl) refl (icu.no_more (right_brace ∷ rest)))
    plural_reads n (plural_case m body cases) other f h k rest =
        let b = below_both (nesting body) (plural_nesting cases) n h in
        let parts = three_parts (is_formed_int m) (is_formed_body body) (are_formed_plural_cases cases) f in
        let key : List ℕ = equals_sign ∷ signed_decimal m in
        let text : List ℕ = written_body uses true body in
        let last : List ℕ = written_case (codes "other") (written_body uses true other) ++ right_brace ∷ [] in
        let tail : List ℕ = (written_plural_cases uses cases ++ last) ++ rest in
        subst (λ t. PluralArms n t ((Exact m, body_parts uses body) ∷
        (plural_case_parts uses cases ++ (Named category.Other, body_parts uses other) ∷ [])) (right_brace ∷ rest))
        (sym (ap (λ t. t ++ rest) (append_assoc (written_case key text) (space ∷ written_plural_cases uses cases) last)
        ∙ (append_assoc (written_case key text) (space ∷ (written_plural_cases uses cases ++ last)) rest ∙ case_then key
        text (space ∷ tail))))
        (icu.plural_arm key (space ∷ []) (text ++ right_brace ∷ (space ∷ tail)) (space ∷ []) tail (right_brace ∷ rest)
        (Exact m) (body_parts uses body)
        (plural_case_parts uses cases ++ (Named category.Other, body_parts uses other) ∷ []) (int_key m parts.0) refl
        (body_reads InPlural n body parts.1 b.0 (right_brace ∷ (space ∷ tail)) refl) refl
        (plural_reads n cases other parts.2 b.1 k rest))

    select_reads : (n : ℕ) (cases : SelectCases) (other : MessageBody) → are_formed_select_cases cases ≡ true
        → select_nesting cases < n
        → ((end : List ℕ) → begins_with_quote end ≡ false → Reads InSelect n (written_body uses false other ++ end)
        (body_parts uses other) end)
        → (rest : List ℕ)
        → WordArms n ((written_select_cases uses cases ++
        (written_case (codes "other") (written_body uses false other) ++ right_brace ∷ [])) ++ rest)
        (select_case_parts uses cases ++ (codes "other", body_parts uses other) ∷ []) (right_brace ∷ rest)
    select_reads n no_select_case other f h k rest =
        subst (λ t. WordArms n t ((codes "other", body_parts uses other) ∷ []) (right_brace ∷ rest))
        (sym (append_assoc (written_case (codes "other") (written_body uses false other)) (right_brace ∷ []) rest
        ∙ case_then (codes "other") (written_body uses false other) (right_brace ∷ rest)))
        (icu.word_arm (codes "other") (space ∷ []) (written_body uses false other ++ right_brace ∷ (right_brace ∷ rest))
        [] (right_brace ∷ rest) (right_brace ∷ rest)
        (body_parts uses other) [] (record { characters = refl; some = λ e. cc e }) refl
        (k (right_brace ∷ (right_brace ∷ rest)) refl) refl (icu.no_more_words (right_brace ∷ rest)))
    select_reads n (select_case word body cases) other f h k rest =
        let b = below_both (nesting body) (select_nesting cases) n h in
        let parts = three_parts (is_case_word word) (is_formed_body body) (are_formed_select_cases cases) f in
        let text : List ℕ = written_body uses false body in
        let last : List ℕ = written_case (codes "other") (written_body uses false other) ++ right_brace ∷ [] in
        let tail : List ℕ = (written_select_cases uses cases ++ last) ++ rest in
        subst (λ t. WordArms n t ((word, body_parts uses body) ∷
        (select_case_parts uses cases ++ (codes "other", body_parts uses other) ∷ [])) (right_brace ∷ rest))
        (sym (ap (λ t. t ++ rest) (append_assoc (written_case word text) (space ∷ written_select_cases uses cases) last)
        ∙ (append_assoc (written_case word text) (space ∷ (written_select_cases uses cases ++ last)) rest ∙ case_then
        word text (space ∷ tail))))
        (icu.word_arm word (space ∷ []) (text ++ right_brace ∷ (space ∷ tail)) (space ∷ []) tail (right_brace ∷ rest)
        (body_parts uses body)
        (select_case_parts uses cases ++ (codes "other", body_parts uses other) ∷ []) (word_is word parts.0) refl
        (body_reads InSelect n body parts.1 b.0 (right_brace ∷ (space ∷ tail)) refl) refl
        (select_reads n cases other parts.2 b.1 k rest))

pub canonical_reads : (body : MessageBody) → is_formed_body body ≡ true → nesting body ≤ 63
    → IsPattern (canonical_text body) (source_parts body)
canonical_reads body f h =
    subst (λ t. Reads AtTop 64 t (source_parts body) []) (append-nil (canonical_text body))
    (body_reads (body_uses body) AtTop 64 body f (omega (arith, h)) [] refl)
