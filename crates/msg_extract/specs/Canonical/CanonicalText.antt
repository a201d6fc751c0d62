-- The canonical text of a message, which is ICU text.
-- A maximal run of special characters and apostrophes that begins with a special one is written between apostrophes,
-- each apostrophe in it twice; an apostrophe outside such a run is written twice, and other text as it stands. Special
-- are `{` and `}`, and directly in a plural's case `#` too. A placeholder is its name in braces; a plural or select has
-- its name, its word, a plural its offset where that isn't 0, and its cases in order, the default last. Example: `it's
-- {lb}a{rb}` is written `it''s '{'a'}'`.
use Rattle.std.specs.Prelude.{ℕ, Bool, true, false, ◌&&◌, ◌||◌, ◌==◌, List, [], ◌∷◌, ◌++◌, Option, Some, None}
use Rattle.std.specs.Prelude.{if◌then◌else◌, codes}
use Rattle.std.specs.Fmt.{decimal, signed_decimal}
use Rattle.soy_base.specs.Characters.{single_quote, left_brace, right_brace, number_sign, equals_sign, space}
use Rattle.soy_tree.specs.Types.{Name}
use Rattle.soy_tree.specs.Nodes.{MessageBody, PluralCases, SelectCases, Parts, Plural, Select, no_plural_case}
use Rattle.soy_tree.specs.Nodes.{plural_case, no_select_case, select_case}
use Rattle.soy_tree.specs.MessageText.{MessageItem, Character, Printed, Cut, TextCut, PrintCut, TagCut, cuts_of}
use Rattle.soy_tree.specs.MessageText.{message_items}
use Rattle.soy_rules.specs.BaseNames.{base_of_expr, base_of_print, base_of_tag}
use Rattle.soy_rules.specs.Placeholders.{Use, ExprContent, TagContent, name_of, body_uses}
use Rattle.soy_rules.specs.IcuText.{PatternMode, AtTop, InPlural, InSelect}

-- whether a text stands directly in a plural's case
abbrev pub is_in_plural : PatternMode → Bool
is_in_plural AtTop = false
is_in_plural InPlural = true
is_in_plural InSelect = false

-- whether a character has to be quoted; the flag says that it stands directly in a plural's case
abbrev pub is_special : Bool → ℕ → Bool
is_special in_plural c = c == left_brace || c == right_brace || in_plural && c == number_sign

abbrev mutual
  -- text outside a run
  pub written_text : Bool → List ℕ → List ℕ
  written_text in_plural [] = []
  written_text in_plural (c ∷ cs) =
      if is_special in_plural c then single_quote ∷ (c ∷ written_run in_plural cs)
      else (if c == single_quote then single_quote ∷ (single_quote ∷ written_text in_plural cs)
      else c ∷ written_text in_plural cs)

  -- text in a run
  pub written_run : Bool → List ℕ → List ℕ
  written_run in_plural [] = single_quote ∷ []
  written_run in_plural (c ∷ cs) =
      if is_special in_plural c then c ∷ written_run in_plural cs
      else (if c == single_quote then single_quote ∷ (single_quote ∷ written_run in_plural cs)
      else single_quote ∷ (c ∷ written_text in_plural cs))

-- the characters of a text
abbrev pub text_of_items : List MessageItem → List ℕ
text_of_items [] = []
text_of_items (Character c span ∷ items) = c ∷ text_of_items items
text_of_items (Printed e phname span ∷ items) = text_of_items items

abbrev pub written_name : Name → List ℕ
written_name name = left_brace ∷ (name ++ right_brace ∷ [])

abbrev pub written_offset : ℕ → List ℕ
written_offset offset = if offset == 0 then [] else codes "offset:" ++ (decimal offset ++ space ∷ [])

-- a key, and the text of its case in braces
abbrev pub written_case : List ℕ → List ℕ → List ℕ
written_case key text = key ++ (space ∷ (left_brace ∷ (text ++ right_brace ∷ [])))

module _ (uses : List Use) where
  abbrev pub written_cuts : Bool → List Cut → List ℕ
  written_cuts in_plural [] = []
  written_cuts in_plural (TextCut items ∷ cuts) =
      written_text in_plural (text_of_items items) ++ written_cuts in_plural cuts
  written_cuts in_plural (PrintCut e phname span ∷ cuts) =
      written_name (name_of uses (base_of_print e phname) (ExprContent e)) ++ written_cuts in_plural cuts
  written_cuts in_plural (TagCut tag ∷ cuts) =
      written_name (name_of uses (base_of_tag tag) (TagContent tag)) ++ written_cuts in_plural cuts

  abbrev pub written_found : Bool → Option (List Cut) → List ℕ
  written_found in_plural None = []
  written_found in_plural (Some cuts) = written_cuts in_plural cuts

  abbrev mutual
    pub written_body : Bool → MessageBody → List ℕ
    written_body in_plural (Parts ns) = written_found in_plural (cuts_of (message_items ns))
    written_body in_plural (Plural e offset cases other) =
        left_brace ∷ (name_of uses (base_of_expr e) (ExprContent e) ++ (codes ", plural, " ++ (written_offset offset
        ++ (written_plural_cases cases
        ++ (written_case (codes "other") (written_body true other) ++ right_brace ∷ [])))))
    written_body in_plural (Select e cases other) =
        left_brace ∷ (name_of uses (base_of_expr e) (ExprContent e) ++ (codes ", select, "
        ++ (written_select_cases cases
        ++ (written_case (codes "other") (written_body false other) ++ right_brace ∷ []))))

    -- cases, each with a space after it
    pub written_plural_cases : PluralCases → List ℕ
    written_plural_cases no_plural_case = []
    written_plural_cases (plural_case n body cases) =
        written_case (equals_sign ∷ signed_decimal n) (written_body true body) ++ (space ∷ written_plural_cases cases)

    pub written_select_cases : SelectCases → List ℕ
    written_select_cases no_select_case = []
    written_select_cases (select_case word body cases) =
        written_case word (written_body false body) ++ (space ∷ written_select_cases cases)

abbrev pub canonical_text : MessageBody → List ℕ
canonical_text body = written_body (body_uses body) false body
