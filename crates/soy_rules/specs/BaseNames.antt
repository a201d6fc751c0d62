-- The base names of prints, selectors and tags of a message.
-- The base name of a print with `phname` is made from that name, of a variable or a `.x` access from the last name, and
-- of any other expression it is XXX. A name is written in upper case, with `_` put before each upper-case letter that
-- follows a lower-case letter or a digit. A tag's is made from its name: START_ and END_ stand before those of start
-- and end tags, but not before that of br, hr, img, input, wbr and of a tag that ends in `/>`.
-- Example: `{$a.userName}` has USER_NAME, `<a href="/x">` START_LINK, `<br>` BREAK, and `<my-tag/>` MY_TAG.
use Rattle.std.specs.Prelude.{ℕ, Bool, false, ◌&&◌, ◌||◌, ◌==◌, List, [], ◌∷◌, ◌++◌, map, reverse, Option, Some, None}
use Rattle.std.specs.Prelude.{if◌then◌else◌, bytes_eq, codes}
use Rattle.std.specs.List.{list_any}
use Rattle.std.specs.Char.{is_ascii_alphabetic, is_ascii_digit, is_ascii_lowercase, is_ascii_uppercase}
use Rattle.std.specs.Char.{is_ascii_whitespace, to_ascii_lowercase, to_ascii_uppercase}
use Rattle.soy_base.specs.Characters.{slash, greater_than, underscore}
use Rattle.soy_tree.specs.Types.{Name}
use Rattle.soy_tree.specs.Expressions.{Expr, Variable, Member}
use Rattle.soy_tree.specs.MessageText.{MessageItem, Character, Printed}

-- a name in upper case; `after` says that a lower-case letter or a digit stands before it
abbrev pub upper_name : Bool → List ℕ → List ℕ
upper_name after [] = []
upper_name after (c ∷ cs) =
    let rest : List ℕ = to_ascii_uppercase c ∷ upper_name (is_ascii_lowercase c || is_ascii_digit c) cs in
    if after && is_ascii_uppercase c then underscore ∷ rest else rest

abbrev pub base_of_name : List ℕ → List ℕ
base_of_name = upper_name false

abbrev pub base_of_expr : Expr → List ℕ
base_of_expr (Variable name span) = base_of_name name
base_of_expr (Member e name takes_null span) = base_of_name name
base_of_expr _ = codes "XXX"

abbrev pub base_of_print : Expr → Option Name → List ℕ
base_of_print e None = base_of_expr e
base_of_print e (Some phname) = base_of_name phname

-- names of tags that have a name of their own in a message
abbrev pub own_names : List (List ℕ × List ℕ)
own_names =
    (codes "a", codes "LINK") ∷
    (codes "b", codes "BOLD") ∷
    (codes "i", codes "ITALIC") ∷
    (codes "em", codes "EMPHASIS") ∷
    (codes "br", codes "BREAK") ∷
    (codes "li", codes "ITEM") ∷
    (codes "ol", codes "ORDERED_LIST") ∷
    (codes "ul", codes "UNORDERED_LIST") ∷
    (codes "p", codes "PARAGRAPH") ∷
    (codes "img", codes "IMAGE") ∷
    []

abbrev pub lone_tags : List (List ℕ)
lone_tags = codes "br" ∷ codes "hr" ∷ codes "img" ∷ codes "input" ∷ codes "wbr" ∷ []

abbrev pub own_name : List ℕ → List (List ℕ × List ℕ) → Option (List ℕ)
own_name tag [] = None
own_name tag (row ∷ rows) = if bytes_eq row.0 tag then Some row.1 else own_name tag rows

abbrev pub upper_character : ℕ → ℕ
upper_character c = if is_ascii_alphabetic c || is_ascii_digit c then to_ascii_uppercase c else underscore

abbrev pub shown_name : List ℕ → Option (List ℕ) → List ℕ
shown_name tag None = map upper_character tag
shown_name tag (Some name) = name

-- whether the items of a tag are those of an end tag
abbrev pub is_end_tag : List MessageItem → Bool
is_end_tag (first ∷ (Character c span ∷ rest)) = c == slash
is_end_tag _ = false

-- the characters up to the first white space of HTML, `/`, `>` or print
abbrev pub leading_name : List MessageItem → List ℕ
leading_name [] = []
leading_name (Printed e phname span ∷ rest) = []
leading_name (Character c span ∷ rest) =
    if is_ascii_whitespace c || c == slash || c == greater_than then [] else c ∷ leading_name rest

-- the name of a tag, in lower case
abbrev pub tag_name : List MessageItem → List ℕ
tag_name (first ∷ (second ∷ rest)) =
    map to_ascii_lowercase (leading_name (if is_end_tag (first ∷ (second ∷ rest)) then rest else second ∷ rest))
tag_name _ = []

abbrev pub begins_as_closed : List MessageItem → Bool
begins_as_closed (last ∷ (Character c span ∷ rest)) = c == slash
begins_as_closed _ = false

-- whether the items of a tag end in `/>`
abbrev pub is_closed_tag : List MessageItem → Bool
is_closed_tag tag = begins_as_closed (reverse tag)

abbrev pub base_of_tag : List MessageItem → List ℕ
base_of_tag tag =
    let name : List ℕ = tag_name tag in
    let shown : List ℕ = shown_name name (own_name name own_names) in
    if is_end_tag tag
    then codes "END_" ++ shown
    else (if list_any (bytes_eq name) lone_tags || is_closed_tag tag then shown else codes "START_" ++ shown)
