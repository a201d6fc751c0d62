-- The names of placeholders and selectors are names.
use Rattle.std.proofs.Common.{◌≡◌, ℕ, ◌+◌, ◌%◌, ◌==◌, ◌&&◌, ◌||◌, Bool, true, false, List, [], ◌∷◌, ◌++◌, map, length}
use Rattle.std.proofs.Common.{refl, sym, subst, IsTrue, arith, if◌then◌else◌, bytes_eq}
use Rattle.std.specs.Prelude.{codes}
use Rattle.std.specs.Char.{is_ascii_alphabetic, is_ascii_digit, is_ascii_lowercase, is_ascii_uppercase}
use Rattle.std.specs.Char.{is_ascii_whitespace, to_ascii_lowercase, to_ascii_uppercase}
use Rattle.std.specs.Fmt.{decimal, digit_glyph}
use Rattle.std.specs.List.{list_all, list_any}
use Rattle.std.proofs.lemmas.Bool.{eqb-true}
use Rattle.std.proofs.lemmas.Bool.Decides.{nat_tests}
use Rattle.soy_base.specs.Characters.{slash, greater_than, underscore}
use Rattle.soy_base.specs.Names.{is_name, begins_name, continues_name}
use Rattle.soy_tree.specs.Types.{Name}
use Rattle.soy_tree.specs.MessageText.{MessageItem, Character, Printed, begins_with_letter, goes_on_as_tag}
use Rattle.soy_rules.specs.BaseNames.{upper_name, base_of_name, own_names, own_name, upper_character, shown_name}
use Rattle.soy_rules.specs.BaseNames.{leading_name, lone_tags, is_closed_tag, base_of_tag}
use Rattle.soy_rules.specs.Placeholders.{Use, Content, numbered_name, free_number, numbered, named_contents}
use Rattle.soy_rules.specs.Placeholders.{content_name, contents_after, name_of}
use Rattle.msg_extract.proofs.JoinedTests.{holds_or, and_left, and_right, and_both, all_append}
use Rattle.msg_extract.proofs.Decimals.{decimal_passes}

-- characters

digit_continues : (c : ℕ) → is_ascii_digit c ≡ true → continues_name c ≡ true
digit_continues c h = grind (arith, nat_tests, h)

begins_continues : (c : ℕ) → begins_name c ≡ true → continues_name c ≡ true
begins_continues c h = rw h refl

upper_begins : (c : ℕ) → begins_name c ≡ true → begins_name (to_ascii_uppercase c) ≡ true
upper_begins c h = grind (arith, nat_tests, h)

upper_continues : (c : ℕ) → continues_name c ≡ true → continues_name (to_ascii_uppercase c) ≡ true
upper_continues c h = grind (arith, nat_tests, h)

letter_begins : (c : ℕ) → is_ascii_alphabetic c ≡ true → begins_name (upper_character (to_ascii_lowercase c)) ≡ true
letter_begins c h = grind (arith, nat_tests, h)

character_continues : (c : ℕ) → continues_name (upper_character c) ≡ true
character_continues c =
    holds_or _ (is_ascii_alphabetic c || is_ascii_digit c)
    (λ h. rw h (upper_continues c (grind (arith, nat_tests, h))))
    (λ h. rw h refl)

letter_stays : (c : ℕ) → is_ascii_alphabetic c ≡ true
    → (is_ascii_whitespace c || c == slash || c == greater_than) ≡ false
letter_stays c h = grind (arith, nat_tests, h)

-- numbers

digit_of : (n : ℕ) → is_ascii_digit (digit_glyph false (n % 10)) ≡ true
digit_of n = grind (arith, nat_tests)

decimal_continues : (n : ℕ) → IsTrue (list_all continues_name (decimal n))
decimal_continues = decimal_passes continues_name (λ n. digit_continues (digit_glyph false (n % 10)) (digit_of n))

-- what goes on after a name is a name
name_more : (name more : List ℕ) → IsTrue (is_name name) → IsTrue (list_all continues_name more)
    → IsTrue (is_name (name ++ more))
name_more [] more h m = absurd (cc h)
name_more (c ∷ cs) more h m =
    and_both (begins_name c) (list_all continues_name (cs ++ more))
    (and_left (begins_name c) (list_all continues_name cs) h)
    (all_append continues_name cs more (and_right (begins_name c) (list_all continues_name cs) h) m)

name_continues : (name : List ℕ) → IsTrue (is_name name) → IsTrue (list_all continues_name name)
name_continues [] h = refl
name_continues (c ∷ cs) h =
    and_both (continues_name c) (list_all continues_name cs)
    (begins_continues c (and_left (begins_name c) (list_all continues_name cs) h))
    (and_right (begins_name c) (list_all continues_name cs) h)

-- base names

upper_all : (after : Bool) (cs : List ℕ) → IsTrue (list_all continues_name cs)
    → IsTrue (list_all continues_name (upper_name after cs))
upper_all after [] h = refl
upper_all after (c ∷ cs) h =
    let rest : IsTrue (list_all continues_name (upper_name (is_ascii_lowercase c || is_ascii_digit c) cs)) =
    upper_all (is_ascii_lowercase c || is_ascii_digit c) cs
    (and_right (continues_name c) (list_all continues_name cs) h) in
    let all : IsTrue
    (list_all continues_name (to_ascii_uppercase c ∷ upper_name (is_ascii_lowercase c || is_ascii_digit c) cs)) =
    and_both (continues_name (to_ascii_uppercase c))
    (list_all continues_name (upper_name (is_ascii_lowercase c || is_ascii_digit c) cs))
    (upper_continues c (and_left (continues_name c) (list_all continues_name cs) h)) rest in
    holds_or _ (after && is_ascii_uppercase c) (λ e. rw e all) (λ e. rw e all)

pub base_name : (name : List ℕ) → IsTrue (is_name name) → IsTrue (is_name (base_of_name name))
base_name [] h = absurd (cc h)
base_name (c ∷ cs) h =
    and_both (begins_name (to_ascii_uppercase c))
    (list_all continues_name (upper_name (is_ascii_lowercase c || is_ascii_digit c) cs))
    (upper_begins c (and_left (begins_name c) (list_all continues_name cs) h))
    (upper_all (is_ascii_lowercase c || is_ascii_digit c) cs (and_right (begins_name c) (list_all continues_name cs) h))

-- tags

abbrev AreNames : List (List ℕ × List ℕ) → Type 0
AreNames rows = IsTrue (list_all (λ (row : List ℕ × List ℕ). is_name row.1) rows)

shown_map : (cs : List ℕ) → IsTrue (list_all continues_name (map upper_character cs))
shown_map [] = refl
shown_map (c ∷ cs) = and_both (continues_name (upper_character c)) (list_all continues_name (map upper_character cs))
    (character_continues c) (shown_map cs)

own_shown : (tag : List ℕ) (rows : List (List ℕ × List ℕ)) → AreNames rows → IsTrue (is_name (map upper_character tag))
    → IsTrue (is_name (shown_name tag (own_name tag rows)))
own_shown tag [] h m = m
own_shown tag (row ∷ rows) h m =
    holds_or _ (bytes_eq row.0 tag)
    (λ e. rw e (and_left (is_name row.1) (list_all (λ (r : List ℕ × List ℕ). is_name r.1) rows) h))
    (λ e. rw e (own_shown tag rows (and_right (is_name row.1) (list_all (λ (r : List ℕ × List ℕ). is_name r.1) rows) h)
    m))

are_names : AreNames own_names
are_names = refl

letter_name : (c : ℕ) (cs : List ℕ) → is_ascii_alphabetic c ≡ true
    → IsTrue (is_name (map upper_character (map to_ascii_lowercase (c ∷ cs))))
letter_name c cs h =
    and_both (begins_name (upper_character (to_ascii_lowercase c)))
    (list_all continues_name (map upper_character (map to_ascii_lowercase cs)))
    (letter_begins c h) (shown_map (map to_ascii_lowercase cs))

or_false : (a : Bool) → (a || false) ≡ true → a ≡ true
or_false true h = refl
or_false false h = h

shown_letter : (items : List MessageItem) → begins_with_letter items ≡ true
    → IsTrue (is_name (shown_name (map to_ascii_lowercase (leading_name items))
    (own_name (map to_ascii_lowercase (leading_name items)) own_names)))
shown_letter [] h = absurd (cc h)
shown_letter (Printed e phname span ∷ rest) h = absurd (cc h)
shown_letter (Character d span ∷ rest) h =
    rw (letter_stays d h) (own_shown (map to_ascii_lowercase (d ∷ leading_name rest)) own_names are_names
    (letter_name d (leading_name rest) h))

-- the items of a tag, whose name begins with a letter
abbrev pub IsTag : List MessageItem → Type 0
IsTag [] = ⊥
IsTag (first ∷ more) = goes_on_as_tag more ≡ true

pub base_tag : (tag : List MessageItem) → IsTag tag → IsTrue (is_name (base_of_tag tag))
base_tag [] h = absurd h
base_tag (first ∷ []) h = absurd (cc h)
base_tag (first ∷ (Printed e phname span ∷ rest)) h = absurd (cc h)
base_tag (first ∷ (Character c span ∷ rest)) h =
    holds_or _ (c == slash)
    (λ e. let no_letter : is_ascii_alphabetic c ≡ false = subst (λ d. is_ascii_alphabetic d ≡ false)
    (sym (eqb-true c 47 e)) refl in
    let letter : begins_with_letter rest ≡ true = rw (e, no_letter) at h in
    rw e (name_continues (shown_name (map to_ascii_lowercase (leading_name rest))
    (own_name (map to_ascii_lowercase (leading_name rest)) own_names)) (shown_letter rest letter)))
    (λ e. let letter : is_ascii_alphabetic c ≡ true = or_false (is_ascii_alphabetic c) (rw e at h) in
    rw e (chosen (list_any (bytes_eq (map to_ascii_lowercase (leading_name (Character c span ∷ rest)))) lone_tags ||
    is_closed_tag (first ∷ (Character c span ∷ rest)))
    (shown_name (map to_ascii_lowercase (leading_name (Character c span ∷ rest)))
    (own_name (map to_ascii_lowercase (leading_name (Character c span ∷ rest))) own_names))
    (shown_letter (Character c span ∷ rest) letter)))
  where
    chosen : (t : Bool) (shown : List ℕ) → IsTrue (is_name shown)
        → IsTrue (is_name (if t then shown else codes "START_" ++ shown))
    chosen true shown h = h
    chosen false shown h = name_continues shown h

-- names of contents

abbrev AreNamed : List (Content × Name) → Type 0
AreNamed rows = IsTrue (list_all (λ (row : Content × Name). is_name row.1) rows)

numbered_named : (base : Name) → IsTrue (is_name base) → (uses : List Use) (n : ℕ) (contents : List Content)
    → AreNamed (numbered base uses n contents)
numbered_named base h uses n [] = refl
numbered_named base h uses n (content ∷ contents) =
    let free : ℕ = free_number (length uses) base n uses in
    and_both (is_name (numbered_name base free))
    (list_all (λ (row : Content × Name). is_name row.1) (numbered base uses (free + 1) contents))
    (name_more base (underscore ∷ decimal free) h (decimal_continues free))
    (numbered_named base h uses (free + 1) contents)

named_named : (base : Name) → IsTrue (is_name base) → (uses : List Use) (contents : List Content)
    → AreNamed (named_contents base uses contents)
named_named base h uses [] = refl
named_named base h uses (content ∷ []) = and_both (is_name base) true h refl
named_named base h uses (c ∷ (d ∷ contents)) = numbered_named base h uses 1 (c ∷ (d ∷ contents))

content_named : (content : Content) (base : Name) → IsTrue (is_name base) → (rows : List (Content × Name))
    → AreNamed rows → IsTrue (is_name (content_name content base rows))
content_named content base h [] r = h
content_named content base h (row ∷ rows) r =
    holds_or _ (Rattle.soy_rules.specs.Placeholders.is_same_content row.0 content)
    (λ e. rw e (and_left (is_name row.1) (list_all (λ (q : Content × Name). is_name q.1) rows) r))
    (λ e. rw e (content_named content base h rows
    (and_right (is_name row.1) (list_all (λ (q : Content × Name). is_name q.1) rows) r)))

pub name_is : (uses : List Use) (base : Name) (content : Content) → IsTrue (is_name base)
    → IsTrue (is_name (name_of uses base content))
name_is uses base content h =
    content_named content base h (named_contents base uses (contents_after [] base uses))
    (named_named base h uses (contents_after [] base uses))
