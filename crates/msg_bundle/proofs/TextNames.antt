-- The names that a canonical text has, by which formed messages of one text have the same names.
-- A reader goes over the text: an apostrophe with one after it is text, and with another character it begins a run; a
-- brace in a text begins a name, behind which a comma and the letter p or s say that it is a selector's.
use Rattle.std.proofs.Common.{◌≡◌, ℕ, suc, ◌==◌, ◌&&◌, ◌||◌, not, Bool, true, false, List, [], ◌∷◌, ◌++◌, Option, Some}
use Rattle.std.proofs.Common.{None}
use Rattle.std.proofs.Common.{map, refl, sym, ap, ◌∙◌, IsTrue, append_assoc, append-nil, arith, nat_le}
use Rattle.std.specs.Prelude.{codes, if◌then◌else◌}
use Rattle.std.specs.List.{list_all}
use Rattle.std.specs.Fmt.{decimal, digit_glyph, signed_decimal}
use Rattle.std.specs.Prelude.{ℤ, pos, negsuc, ◌%◌}
use Rattle.std.proofs.lemmas.List.{map-append}
use Rattle.std.proofs.lemmas.Bool.Decides.{nat_tests}
use Rattle.soy_base.specs.Characters.{single_quote, left_brace, right_brace, comma, space, equals_sign}
use Rattle.soy_base.specs.Names.{begins_name, continues_name, is_name}
use Rattle.soy_tree.specs.Types.{Name}
use Rattle.soy_base.specs.Limits.{largest}
use Rattle.soy_tree.specs.Nodes.{MessageBody, PluralCases, SelectCases, Parts, Plural, Select, no_plural_case}
use Rattle.soy_tree.specs.Nodes.{plural_case, no_select_case, select_case}
use Rattle.soy_tree.specs.MessageText.{Cut, TextCut, PrintCut, TagCut, cuts_of, message_items}
use Rattle.soy_rules.specs.BaseNames.{base_of_expr, base_of_print, base_of_tag}
use Rattle.soy_rules.specs.Placeholders.{Role, Use, AsPlaceholder, AsPlural, AsSelect, ExprContent, TagContent}
use Rattle.soy_rules.specs.Placeholders.{name_of, body_uses, cut_uses, found_uses, plural_uses, select_uses}
use Rattle.soy_tree.specs.Formed.{is_formed_expr, is_formed_int, is_word_character, is_case_word, are_formed_nodes}
use Rattle.soy_tree.specs.Formed.{is_message_text, is_formed_body, are_formed_plural_cases, are_formed_select_cases}
use Rattle.soy_rules.specs.IcuText.{begins_with_quote}
use Rattle.msg_extract.specs.Canonical.CanonicalText.{is_special, text_of_items, written_text, written_run}
use Rattle.msg_extract.specs.Canonical.CanonicalText.{written_name}
use Rattle.msg_extract.specs.Canonical.CanonicalText.{written_cuts, written_found, written_offset, written_case}
use Rattle.msg_extract.specs.Canonical.CanonicalText.{written_body}
use Rattle.msg_extract.specs.Canonical.CanonicalText.{written_plural_cases, written_select_cases, canonical_text}
use Rattle.msg_extract.specs.Catalogue.{is_of_kind, names_after, role_names, with_name}
use Rattle.msg_extract.specs.declared.role_names.NameKind.{NameKind}
use Rattle.msg_extract.specs.declared.role_names.NameKind.TheVariants as kind
use Rattle.msg_extract.proofs.Decimals.{decimal_passes}
use Rattle.msg_extract.proofs.JoinedTests.{and_left, and_right, holds_or}
use Rattle.msg_extract.proofs.MessageCuts.{AreCuts, Holds, expr_base, text_cuts}
use Rattle.msg_extract.proofs.Naming.MessageNames.{base_tag, name_is}

-- where the reader is: in text; after an apostrophe of it; in a run; after an apostrophe of it; in a name; behind a
-- name and a comma; between arms
data Mode : Type 0 where
  InText : Mode
  AfterQuote : Mode
  InRun : Mode
  AfterRunQuote : Mode
  InName : Name → Mode
  AfterName : Name → Mode
  InArms : Mode

abbrev Found : Type 0
Found = List (NameKind × Name)

abbrev text_next : ℕ → Mode
text_next c =
    if c == single_quote then AfterQuote
    else (if c == left_brace then InName [] else (if c == right_brace then InArms else InText))

abbrev mode_after : Mode → ℕ → Mode
mode_after InText c = text_next c
mode_after AfterQuote c = if c == single_quote then InText else InRun
mode_after InRun c = if c == single_quote then AfterRunQuote else InRun
mode_after AfterRunQuote c = if c == single_quote then InRun else text_next c
mode_after (InName name) c =
    if c == right_brace then InText else (if c == comma then AfterName name else InName (name ++ c ∷ []))
mode_after (AfterName name) c = if c == space then AfterName name else InArms
mode_after InArms c = if c == left_brace || c == right_brace then InText else InArms

abbrev found_at : Mode → ℕ → Found
found_at (InName name) c = if c == right_brace then (kind.Placeholder, name) ∷ [] else []
found_at (AfterName name) c =
    if c == 112 then (kind.Plural, name) ∷ [] else (if c == 115 then (kind.Select, name) ∷ [] else [])
found_at _ c = []

abbrev found : Mode → List ℕ → Found
found mode [] = []
found mode (c ∷ cs) = found_at mode c ++ found (mode_after mode c) cs

-- ---- texts

quote_apart : (flag : Bool) (c : ℕ) → is_special flag c ≡ true → (c == single_quote) ≡ false
quote_apart flag c h = grind (arith, nat_tests)

left_apart : (flag : Bool) (c : ℕ) → is_special flag c ≡ false → (c == left_brace) ≡ false
left_apart flag c h = grind (arith, nat_tests)

right_apart : (flag : Bool) (c : ℕ) → is_special flag c ≡ false → (c == right_brace) ≡ false
right_apart flag c h = grind (arith, nat_tests)

plain_step : (c : ℕ) (cs : List ℕ) → (c == single_quote) ≡ false → (c == left_brace) ≡ false
    → (c == right_brace) ≡ false → found InText (c ∷ cs) ≡ found InText cs
plain_step c cs q l r = rw (q, l, r) refl

run_closes : (rest : List ℕ) → begins_with_quote rest ≡ false → found AfterRunQuote rest ≡ found InText rest
run_closes [] q = refl
run_closes (c ∷ cs) q = rw q refl

module _ (flag : Bool) (rest : List ℕ) (no_quote : begins_with_quote rest ≡ false) where
  mutual
    text_found : (text : List ℕ) → found InText (written_text flag text ++ rest) ≡ found InText rest
    text_found [] = refl
    text_found (c ∷ cs) =
        holds_or _ (is_special flag c) (λ s. rw (s, quote_apart flag c s) (run_found cs))
        (λ s. holds_or _ (c == single_quote) (λ q. rw (s, q) (text_found cs))
        (λ q. rw (s, q) (plain_step c (written_text flag cs ++ rest) q (left_apart flag c s) (right_apart flag c s)
        ∙ text_found cs)))

    run_found : (text : List ℕ) → found InRun (written_run flag text ++ rest) ≡ found InText rest
    run_found [] = run_closes rest no_quote
    run_found (c ∷ cs) =
        holds_or _ (is_special flag c) (λ s. rw (s, quote_apart flag c s) (run_found cs))
        (λ s. holds_or _ (c == single_quote) (λ q. rw (s, q) (run_found cs))
        (λ q. rw (s, q) (run_closes (c ∷ (written_text flag cs ++ rest)) q
        ∙ plain_step c (written_text flag cs ++ rest) q (left_apart flag c s) (right_apart flag c s)
        ∙ text_found cs)))

-- ---- names

abbrev is_inside : ℕ → Bool
is_inside c = not (c == right_brace || c == comma)

inside : (c : ℕ) → continues_name c ≡ true → is_inside c ≡ true
inside c h = grind (arith, nat_tests)

all_inside : (name : List ℕ) → list_all continues_name name ≡ true → list_all is_inside name ≡ true
all_inside [] h = refl
all_inside (c ∷ cs) h =
    let here : is_inside c ≡ true = inside c (and_left (continues_name c) (list_all continues_name cs) h) in
    rw here (all_inside cs (and_right (continues_name c) (list_all continues_name cs) h))

name_inside : (name : List ℕ) → IsTrue (is_name name) → list_all is_inside name ≡ true
name_inside [] h = refl
name_inside (c ∷ cs) h =
    let begins : begins_name c ≡ true = and_left (begins_name c) (list_all continues_name cs) h in
    let here : is_inside c ≡ true = inside c (rw begins refl) in
    rw here (all_inside cs (and_right (begins_name c) (list_all continues_name cs) h))

not_right : (c : ℕ) → is_inside c ≡ true → (c == right_brace) ≡ false
not_right c h = grind (arith, nat_tests)

not_comma : (c : ℕ) → is_inside c ≡ true → (c == comma) ≡ false
not_comma c h = grind (arith, nat_tests)

in_name : (name done rest : List ℕ) → list_all is_inside name ≡ true
    → found (InName done) (name ++ rest) ≡ found (InName (done ++ name)) rest
in_name [] done rest h = ap (λ n. found (InName n) rest) (sym (append-nil done))
in_name (c ∷ cs) done rest h =
    let here : is_inside c ≡ true = and_left (is_inside c) (list_all is_inside cs) h in
    rw (not_right c here, not_comma c here) (in_name cs (done ++ c ∷ []) rest
    (and_right (is_inside c) (list_all is_inside cs) h)
    ∙ ap (λ n. found (InName n) rest) (append_assoc done (c ∷ []) cs))

-- ---- keys

abbrev is_braceless : ℕ → Bool
is_braceless c = not (c == left_brace || c == right_brace)

in_arms : (text rest : List ℕ) → list_all is_braceless text ≡ true → found InArms (text ++ rest) ≡ found InArms rest
in_arms [] rest h = refl
in_arms (c ∷ cs) rest h =
    skip (c == left_brace || c == right_brace) (and_left (is_braceless c) (list_all is_braceless cs) h) refl
    (in_arms cs rest (and_right (is_braceless c) (list_all is_braceless cs) h))
  where
    skip : (b : Bool) → not b ≡ true → (c == left_brace || c == right_brace) ≡ b
        → found InArms (cs ++ rest) ≡ found InArms rest → found InArms (c ∷ (cs ++ rest)) ≡ found InArms rest
    skip true n e k = absurd (cc n)
    skip false n e k = rw e k

digit_braceless : (n : ℕ) → is_braceless (digit_glyph false (n % 10)) ≡ true
digit_braceless n = grind (arith, nat_tests)

decimal_braceless : (n : ℕ) → list_all is_braceless (decimal n) ≡ true
decimal_braceless n = decimal_passes is_braceless digit_braceless n

int_braceless : (n : ℤ) → list_all is_braceless (equals_sign ∷ signed_decimal n) ≡ true
int_braceless (pos n) = decimal_braceless n
int_braceless (negsuc n) = decimal_braceless (suc n)

word_character : (c : ℕ) → is_word_character c ≡ true → is_braceless c ≡ true
word_character c h = grind (arith, nat_tests)

characters_braceless : (word : List ℕ) → list_all is_word_character word ≡ true → list_all is_braceless word ≡ true
characters_braceless [] h = refl
characters_braceless (c ∷ cs) h =
    let here : is_braceless c ≡ true =
    word_character c (and_left (is_word_character c) (list_all is_word_character cs) h) in
    rw here (characters_braceless cs (and_right (is_word_character c) (list_all is_word_character cs) h))

word_braceless : (word : List ℕ) → is_case_word word ≡ true → list_all is_braceless word ≡ true
word_braceless [] h = refl
word_braceless (c ∷ cs) h = characters_braceless (c ∷ cs) (and_left (list_all is_word_character (c ∷ cs)) _ h)

offset_found : (offset : ℕ) (rest : List ℕ) → found InArms (written_offset offset ++ rest) ≡ found InArms rest
offset_found offset rest =
    holds_or _ (offset == 0) (λ e. rw e refl)
    (λ e. rw e (ap (λ t. found InArms (codes "offset:" ++ t)) (append_assoc (decimal offset) (space ∷ []) rest)
    ∙ in_arms (decimal offset) (space ∷ rest) (decimal_braceless offset)))

case_then : (key text rest : List ℕ)
    → written_case key text ++ rest ≡ key ++ (space ∷ (left_brace ∷ (text ++ right_brace ∷ rest)))
case_then key text rest =
    append_assoc key (space ∷ (left_brace ∷ (text ++ right_brace ∷ []))) rest
    ∙ ap (λ t. key ++ (space ∷ (left_brace ∷ t))) (append_assoc text (right_brace ∷ []) rest)

-- a case: what its text has, and then what follows
case_found : (key text rest : List ℕ) (names : Found) → list_all is_braceless key ≡ true
    → ((end : List ℕ) → begins_with_quote end ≡ false → found InText (text ++ end) ≡ names ++ found InText end)
    → found InArms (written_case key text ++ rest) ≡ names ++ found InArms rest
case_found key text rest names h k =
    ap (found InArms) (case_then key text rest)
    ∙ in_arms key (space ∷ (left_brace ∷ (text ++ right_brace ∷ rest))) h
    ∙ k (right_brace ∷ rest) refl

-- ---- messages

abbrev kind_of : Role → NameKind
kind_of (AsPlaceholder cut) = kind.Placeholder
kind_of (AsPlural e) = kind.Plural
kind_of (AsSelect e) = kind.Select

abbrev named : List Use → Use → NameKind × Name
named all u = (kind_of u.role, name_of all u.base u.content)

three_parts : (a b c : Bool) → (a && b && c) ≡ true → (a ≡ true) × (b ≡ true) × (c ≡ true)
three_parts true true true e = (refl, refl, refl)
three_parts true true false e = absurd (cc e)
three_parts true false true e = absurd (cc e)
three_parts true false false e = absurd (cc e)
three_parts false b true e = absurd (cc e)
three_parts false b false e = absurd (cc e)

four_parts : (a b c d : Bool) → (a && b && c && d) ≡ true → (a ≡ true) × (b ≡ true) × (c ≡ true) × (d ≡ true)
four_parts a b c true e = let p = three_parts a b c (and_left (a && b && c) true e) in (p.0, p.1, p.2, refl)
four_parts a b c false e = absurd (cc (and_right (a && b && c) false e))

weaker : (cuts : List Cut) → AreCuts false cuts → AreCuts true cuts
weaker [] h = tt
weaker (TextCut items ∷ cuts) h = absurd h
weaker (PrintCut e phname span ∷ cuts) h = h
weaker (TagCut tag ∷ cuts) h = h

module _ (all : List Use) where
  abbrev names : List Use → Found
  names us = map (named all) us

  one_name : (name rest : List ℕ) → IsTrue (is_name name)
      → found InText (written_name name ++ rest) ≡ (kind.Placeholder, name) ∷ found InText rest
  one_name name rest h =
      ap (λ t. found (InName []) t) (append_assoc name (right_brace ∷ []) rest)
      ∙ in_name name [] (right_brace ∷ rest) (name_inside name h)

  cuts_no_quote : (flag : Bool) (cuts : List Cut) → AreCuts false cuts → (rest : List ℕ)
      → begins_with_quote rest ≡ false → begins_with_quote (written_cuts all flag cuts ++ rest) ≡ false
  cuts_no_quote flag [] h rest q = q
  cuts_no_quote flag (TextCut items ∷ cuts) h rest q = absurd h
  cuts_no_quote flag (PrintCut e phname span ∷ cuts) h rest q = refl
  cuts_no_quote flag (TagCut tag ∷ cuts) h rest q = refl

  cuts_found : (flag : Bool) (cuts : List Cut) → AreCuts true cuts → (rest : List ℕ) → begins_with_quote rest ≡ false
      → found InText (written_cuts all flag cuts ++ rest) ≡ names (cut_uses cuts) ++ found InText rest
  cuts_found flag [] h rest q = refl
  cuts_found flag (TextCut items ∷ cuts) h rest q =
      ap (found InText) (append_assoc (written_text flag (text_of_items items)) (written_cuts all flag cuts) rest)
      ∙ text_found flag (written_cuts all flag cuts ++ rest) (cuts_no_quote flag cuts h rest q) (text_of_items items)
      ∙ cuts_found flag cuts (weaker cuts h) rest q
  cuts_found flag (PrintCut e phname span ∷ cuts) h rest q =
      let name : Name = name_of all (base_of_print e phname) (ExprContent e) in
      ap (found InText) (append_assoc (written_name name) (written_cuts all flag cuts) rest)
      ∙ one_name name (written_cuts all flag cuts ++ rest) (name_is all (base_of_print e phname) (ExprContent e) h.0)
      ∙ ap (λ more. (kind.Placeholder, name) ∷ more) (cuts_found flag cuts h.1 rest q)
  cuts_found flag (TagCut tag ∷ cuts) h rest q =
      let name : Name = name_of all (base_of_tag tag) (TagContent tag) in
      ap (found InText) (append_assoc (written_name name) (written_cuts all flag cuts) rest)
      ∙ one_name name (written_cuts all flag cuts ++ rest)
      (name_is all (base_of_tag tag) (TagContent tag) (base_tag tag h.0))
      ∙ ap (λ more. (kind.Placeholder, name) ∷ more) (cuts_found flag cuts h.1 rest q)

  some_found : (flag : Bool) (cuts : Option (List Cut)) → Holds (AreCuts true) cuts → (rest : List ℕ)
      → begins_with_quote rest ≡ false
      → found InText (written_found all flag cuts ++ rest) ≡ names (found_uses cuts) ++ found InText rest
  some_found flag None h rest q = refl
  some_found flag (Some cuts) h rest q = cuts_found flag cuts h rest q

  -- names of two parts, one behind the other
  behind : (us vs : List Use) (rest : Found) → names us ++ (names vs ++ rest) ≡ names (us ++ vs) ++ rest
  behind us vs rest =
      sym (append_assoc (names us) (names vs) rest) ∙ ap (λ fs. fs ++ rest) (sym (map-append (named all) us vs))

  -- the last case, and the brace behind it
  last_found : (text rest : List ℕ) (us : List Use)
      → ((end : List ℕ) → begins_with_quote end ≡ false → found InText (text ++ end) ≡ names us ++ found InText end)
      → found InArms ((written_case (codes "other") text ++ right_brace ∷ []) ++ rest) ≡ names us ++ found InText rest
  last_found text rest us k =
      ap (found InArms) (append_assoc (written_case (codes "other") text) (right_brace ∷ []) rest)
      ∙ case_found (codes "other") text (right_brace ∷ rest) (names us) refl k

  mutual
    body_found : (flag : Bool) (body : MessageBody) → is_formed_body body ≡ true → (rest : List ℕ)
        → begins_with_quote rest ≡ false
        → found InText (written_body all flag body ++ rest) ≡ names (body_uses body) ++ found InText rest
    body_found flag (Parts ns) f rest q =
        some_found flag (cuts_of (message_items ns))
        (text_cuts ns (and_left (are_formed_nodes ns) (is_message_text ns) f)) rest q
    body_found flag (Plural e offset cases other) f rest q =
        let name : Name = name_of all (base_of_expr e) (ExprContent e) in
        let parts = four_parts (is_formed_expr e) (nat_le offset largest) (are_formed_plural_cases cases)
        (is_formed_body other) f in
        let last : List ℕ = written_case (codes "other") (written_body all true other) ++ right_brace ∷ [] in
        let arms : List ℕ = written_plural_cases all cases ++ last in
        ap (λ t. found (InName []) t) (append_assoc name (codes ", plural, " ++ (written_offset offset ++ arms)) rest)
        ∙ in_name name [] (codes ", plural, " ++ ((written_offset offset ++ arms) ++ rest))
        (name_inside name (name_is all (base_of_expr e) (ExprContent e) (expr_base e parts.0)))
        ∙ ap (λ more. (kind.Plural, name) ∷ more)
        (ap (found InArms) (append_assoc (written_offset offset) arms rest)
        ∙ offset_found offset (arms ++ rest)
        ∙ ap (found InArms) (append_assoc (written_plural_cases all cases) last rest)
        ∙ plural_found cases parts.2 (last ++ rest)
        ∙ ap (λ more. names (plural_uses cases) ++ more)
        (last_found (written_body all true other) rest (body_uses other) (body_found true other parts.3))
        ∙ behind (plural_uses cases) (body_uses other) (found InText rest))
    body_found flag (Select e cases other) f rest q =
        let name : Name = name_of all (base_of_expr e) (ExprContent e) in
        let parts = three_parts (is_formed_expr e) (are_formed_select_cases cases) (is_formed_body other) f in
        let last : List ℕ = written_case (codes "other") (written_body all false other) ++ right_brace ∷ [] in
        ap (λ t. found (InName []) t)
        (append_assoc name (codes ", select, " ++ (written_select_cases all cases ++ last)) rest)
        ∙ in_name name [] (codes ", select, " ++ ((written_select_cases all cases ++ last) ++ rest))
        (name_inside name (name_is all (base_of_expr e) (ExprContent e) (expr_base e parts.0)))
        ∙ ap (λ more. (kind.Select, name) ∷ more)
        (ap (found InArms) (append_assoc (written_select_cases all cases) last rest)
        ∙ select_found cases parts.1 (last ++ rest)
        ∙ ap (λ more. names (select_uses cases) ++ more)
        (last_found (written_body all false other) rest (body_uses other) (body_found false other parts.2))
        ∙ behind (select_uses cases) (body_uses other) (found InText rest))

    plural_found : (cases : PluralCases) → are_formed_plural_cases cases ≡ true → (rest : List ℕ)
        → found InArms (written_plural_cases all cases ++ rest) ≡ names (plural_uses cases) ++ found InArms rest
    plural_found no_plural_case f rest = refl
    plural_found (plural_case n body cases) f rest =
        let parts = three_parts (is_formed_int n) (is_formed_body body) (are_formed_plural_cases cases) f in
        let key : List ℕ = equals_sign ∷ signed_decimal n in
        ap (found InArms)
        (append_assoc (written_case key (written_body all true body)) (space ∷ written_plural_cases all cases) rest)
        ∙ case_found key (written_body all true body) (space ∷ (written_plural_cases all cases ++ rest))
        (names (body_uses body)) (int_braceless n) (body_found true body parts.1)
        ∙ ap (λ more. names (body_uses body) ++ more) (plural_found cases parts.2 rest)
        ∙ behind (body_uses body) (plural_uses cases) (found InArms rest)

    select_found : (cases : SelectCases) → are_formed_select_cases cases ≡ true → (rest : List ℕ)
        → found InArms (written_select_cases all cases ++ rest) ≡ names (select_uses cases) ++ found InArms rest
    select_found no_select_case f rest = refl
    select_found (select_case word body cases) f rest =
        let parts = three_parts (is_case_word word) (is_formed_body body) (are_formed_select_cases cases) f in
        ap (found InArms)
        (append_assoc (written_case word (written_body all false body)) (space ∷ written_select_cases all cases) rest)
        ∙ case_found word (written_body all false body) (space ∷ (written_select_cases all cases ++ rest))
        (names (body_uses body)) (word_braceless word parts.0) (body_found false body parts.1)
        ∙ ap (λ more. names (body_uses body) ++ more) (select_found cases parts.2 rest)
        ∙ behind (body_uses body) (select_uses cases) (found InArms rest)

-- a canonical text has the names of its message
text_names : (body : MessageBody) → is_formed_body body ≡ true
    → found InText (canonical_text body) ≡ map (named (body_uses body)) (body_uses body)
text_names body f =
    ap (found InText) (sym (append-nil (canonical_text body)))
    ∙ body_found (body_uses body) false body f [] refl
    ∙ append-nil (map (named (body_uses body)) (body_uses body))

-- ---- the names of a kind

abbrev is_same_kind : NameKind → NameKind → Bool
is_same_kind kind.Placeholder kind.Placeholder = true
is_same_kind kind.Plural kind.Plural = true
is_same_kind kind.Select kind.Select = true
is_same_kind _ _ = false

abbrev after : NameKind → List Name → Found → List Name
after of names [] = names
after of names (f ∷ fs) = after of (if is_same_kind of f.0 then with_name names f.1 else names) fs

kinds : (of : NameKind) (role : Role) → is_of_kind of role ≡ is_same_kind of (kind_of role)
kinds kind.Placeholder (AsPlaceholder cut) = refl
kinds kind.Placeholder (AsPlural e) = refl
kinds kind.Placeholder (AsSelect e) = refl
kinds kind.Plural (AsPlaceholder cut) = refl
kinds kind.Plural (AsPlural e) = refl
kinds kind.Plural (AsSelect e) = refl
kinds kind.Select (AsPlaceholder cut) = refl
kinds kind.Select (AsPlural e) = refl
kinds kind.Select (AsSelect e) = refl

after_uses : (of : NameKind) (all : List Use) (names : List Name) (us : List Use)
    → names_after of all names us ≡ after of names (map (named all) us)
after_uses of all names [] = refl
after_uses of all names (u ∷ us) =
    after_uses of all (if is_of_kind of u.role then with_name names (name_of all u.base u.content) else names) us
    ∙ ap (λ b. after of (if b then with_name names (name_of all u.base u.content) else names) (map (named all) us))
    (kinds of u.role)

-- **messages of one canonical text have the same names**
pub same_names : (of : NameKind) (body other : MessageBody) → is_formed_body body ≡ true → is_formed_body other ≡ true
    → canonical_text body ≡ canonical_text other → role_names of (body_uses body) ≡ role_names of (body_uses other)
same_names of body other f g same =
    after_uses of (body_uses body) [] (body_uses body)
    ∙ ap (after of []) (sym (text_names body f) ∙ ap (found InText) same ∙ text_names other g)
    ∙ sym (after_uses of (body_uses other) [] (body_uses other))
