-- What is read where a word of a select is expected: a word and the brace of its arm, or the brace that ends the
-- select, each with what follows; or else the text from where no select goes on.
-- Example: of ` gift {a}` the word `gift` is read, and `a}` follows.
use Rattle.std.specs.Prelude.{ℕ, List, [], ◌∷◌, ◌==◌, if◌then◌else◌}
use Rattle.std.specs.Str.{chars}
use Rattle.soy_base.specs.Characters.{left_brace, right_brace}
use Rattle.soy_base.specs.Cuts.{after_while, prefix_while}
use Rattle.soy_base.specs.WhiteSpace.{is_template_space}
use Rattle.soy_tree.specs.Formed.{is_word_character}
use Rattle.icu_text.specs.declared.word.Word.{Word}
use Rattle.icu_text.specs.declared.word.Word.TheVariants as word

pub data ReadWord : Type 0 where
  WordRead : List ℕ → List ℕ → ReadWord
  -- the text from the brace that ends the select, and what follows it
  SelectEnd : List ℕ → List ℕ → ReadWord
  StuckWord : List ℕ → ReadWord

abbrev pub view_word : Word → ReadWord
view_word (word.Arm w rest) = WordRead (chars w.now) (chars rest.now)
view_word (word.End text rest) = SelectEnd (chars text.now) (chars rest.now)
view_word (word.Stuck rest) = StuckWord (chars rest.now)

abbrev pub word_end_read : List ℕ → List ℕ → ReadWord
word_end_read w [] = StuckWord []
word_end_read w (c ∷ cs) = if c == left_brace then WordRead w cs else StuckWord (c ∷ cs)

-- a word of a text, if one may begin with this character
abbrev pub word_from : ℕ → List ℕ → ReadWord
word_from c text =
    if is_word_character c
    then word_end_read (prefix_while is_word_character text)
    (after_while is_template_space (after_while is_word_character text))
    else StuckWord text

abbrev pub word_at : List ℕ → ReadWord
word_at [] = StuckWord []
word_at (c ∷ cs) = if c == right_brace then SelectEnd (c ∷ cs) cs else word_from c (c ∷ cs)

abbrev pub word_read : List ℕ → ReadWord
word_read cs = word_at (after_while is_template_space cs)
