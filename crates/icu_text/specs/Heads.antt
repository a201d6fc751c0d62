-- What is read after a brace that opens an argument: a name and the brace after it, or a name and the word of a choice
-- up to the comma after it, each with what follows; or else the text from where no argument goes on.
-- Example: of `N, plural, ` the name N and the word `plural` are read, and of `N, plurals` the text `s` is left.
use Rattle.std.specs.Prelude.{ℕ, List, [], ◌∷◌, ◌==◌, if◌then◌else◌, codes, Result, Ok, Err}
use Rattle.std.specs.Str.{chars}
use Rattle.soy_base.specs.Characters.{right_brace, comma}
use Rattle.soy_base.specs.Cuts.{after_while, prefix_while}
use Rattle.soy_base.specs.Names.{begins_name, continues_name}
use Rattle.soy_base.specs.WhiteSpace.{is_template_space}
use Rattle.icu_text.specs.declared.state.ChoiceKind.{ChoiceKind}
use Rattle.icu_text.specs.declared.state.ChoiceKind.TheVariants as choice
use Rattle.icu_text.specs.declared.scan.Letters.{Letters}
use Rattle.icu_text.specs.declared.scan.Letters.TheVariants as letters
use Rattle.icu_text.specs.declared.head.Head.{Head}
use Rattle.icu_text.specs.declared.head.Head.TheVariants as head

-- what follows letters, or the text from where they don't stand
abbrev pub letters_read : List ℕ → List ℕ → Result (List ℕ) (List ℕ)
letters_read [] cs = Ok cs
letters_read (l ∷ ls) [] = Err []
letters_read (l ∷ ls) (c ∷ cs) = if c == l then letters_read ls cs else Err (c ∷ cs)

abbrev pub view_letters : Letters → Result (List ℕ) (List ℕ)
view_letters (letters.Read rest) = Ok (chars rest.now)
view_letters (letters.Stuck rest) = Err (chars rest.now)

pub data ReadHead : Type 0 where
  PlaceholderHead : List ℕ → List ℕ → ReadHead
  ChoiceHead : ChoiceKind → List ℕ → List ℕ → ReadHead
  StuckHead : List ℕ → ReadHead

abbrev pub view_head : Head → ReadHead
view_head (head.Placeholder name rest) = PlaceholderHead (chars name.now) (chars rest.now)
view_head (head.Choice kind name rest) = ChoiceHead kind (chars name.now) (chars rest.now)
view_head (head.Stuck rest) = StuckHead (chars rest.now)

abbrev pub comma_read : ChoiceKind → List ℕ → List ℕ → ReadHead
comma_read kind name [] = StuckHead []
comma_read kind name (c ∷ cs) = if c == comma then ChoiceHead kind name cs else StuckHead (c ∷ cs)

abbrev pub kind_end_read : ChoiceKind → List ℕ → List ℕ → ReadHead
kind_end_read kind name cs = comma_read kind name (after_while is_template_space cs)

abbrev pub kind_read : ChoiceKind → List ℕ → Result (List ℕ) (List ℕ) → ReadHead
kind_read kind name (Ok cs) = kind_end_read kind name cs
kind_read kind name (Err cs) = StuckHead cs

-- `select` may go on as `selectordinal`
abbrev pub select_read : List ℕ → List ℕ → ReadHead
select_read name [] = StuckHead []
select_read name (c ∷ cs) =
    if c == 111 then kind_read choice.Ordinal name (letters_read (codes "rdinal") cs)
    else kind_end_read choice.Select name (c ∷ cs)

abbrev pub select_word_read : List ℕ → Result (List ℕ) (List ℕ) → ReadHead
select_word_read name (Ok cs) = select_read name cs
select_word_read name (Err cs) = StuckHead cs

abbrev pub choice_read : List ℕ → List ℕ → ReadHead
choice_read name [] = StuckHead []
choice_read name (c ∷ cs) =
    if c == 112 then kind_read choice.Plural name (letters_read (codes "lural") cs)
    else (if c == 115 then select_word_read name (letters_read (codes "elect") cs)
    else StuckHead (c ∷ cs))

abbrev pub name_end_read : List ℕ → List ℕ → ReadHead
name_end_read name [] = StuckHead []
name_end_read name (c ∷ cs) =
    if c == right_brace then PlaceholderHead name cs
    else (if c == comma then choice_read name (after_while is_template_space cs)
    else StuckHead (c ∷ cs))

abbrev pub name_read : List ℕ → ReadHead
name_read [] = StuckHead []
name_read (c ∷ cs) =
    if begins_name c
    then name_end_read (prefix_while continues_name (c ∷ cs))
    (after_while is_template_space (after_while continues_name (c ∷ cs)))
    else StuckHead (c ∷ cs)

abbrev pub head_read : List ℕ → ReadHead
head_read cs = name_read (after_while is_template_space cs)
