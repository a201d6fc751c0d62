-- How a text is read piece by piece: what a piece adds to what was read, and what of the text follows it; or else the
-- text from where no pattern goes on.
-- Example: of `a {N}b` the pieces are `a `, the argument N and `b`.
use Rattle.std.specs.Prelude.{ℕ, nat_le, Bool, true, false, not, List, [], ◌∷◌, ◌++◌, ◌==◌, length}
use Rattle.std.specs.Prelude.{if◌then◌else◌, Result, Ok, Err}
use Rattle.std.specs.Str.{chars}
use Rattle.plural_rules.specs.declared.category.Category.TheVariants as category
use Rattle.soy_base.specs.Characters.{single_quote, left_brace, right_brace, number_sign}
use Rattle.soy_base.specs.Cuts.{after_while, is_nil, prefix_while}
use Rattle.soy_base.specs.WhiteSpace.{is_template_space}
use Rattle.soy_tree.specs.MessageParts.{Placeholder, NumberPart}
use Rattle.soy_tree.specs.ViewMessageParts.{parts_of}
use Rattle.soy_rules.specs.IcuText.{is_plain, is_quotable}
use Rattle.icu_text.specs.declared.state.ChoiceKind.{ChoiceKind}
use Rattle.icu_text.specs.declared.state.ChoiceKind.TheVariants as choice
use Rattle.icu_text.specs.declared.state.OpenPlural.{OpenPlural}
use Rattle.icu_text.specs.declared.state.OpenSelect.{OpenSelect}
use Rattle.icu_text.specs.declared.state.Frame.{Frame}
use Rattle.icu_text.specs.declared.state.Frame.TheVariants as frame
use Rattle.icu_text.specs.declared.reader.Reader.{Reader}
use Rattle.icu_text.specs.declared.reader.Next.{Next}
use Rattle.icu_text.specs.declared.reader.Next.TheVariants as next
use Rattle.icu_text.specs.FirstArms.{has_category, has_word}
use Rattle.icu_text.specs.PatternStates as state
use Rattle.icu_text.specs.PatternStates.{PatternState, Quoting}
use Rattle.icu_text.specs.PatternSteps.{finished, new_plural, new_select, pattern_mode, plural_part, select_part}
use Rattle.icu_text.specs.PatternSteps.{with_arm, with_offset, with_word}
use Rattle.icu_text.specs.Heads.{ReadHead, PlaceholderHead, ChoiceHead, StuckHead, head_read}
use Rattle.icu_text.specs.Keys.{ReadKey, ArmRead, PluralEnd, StuckKey, ReadFirstKey, OffsetRead, KeyRead}
use Rattle.icu_text.specs.Keys.{first_key_read, key_read, number_read}
use Rattle.icu_text.specs.Words.{ReadWord, WordRead, SelectEnd, StuckWord, word_read}
use Rattle.std.specs.Prelude.{codes}

abbrev pub Piece : Type 0
Piece = Result (Reader × List ℕ) (List ℕ)

abbrev pub view_piece : Reader → Next → Piece
view_piece r (next.On rest) = Ok (r, chars rest.now)
view_piece r (next.Stuck rest) = Err (chars rest.now)

-- what was read, as the state of the machine that takes a character a step
abbrev pub quoting_of : Bool → Quoting
quoting_of true = state.Quoted
quoting_of false = state.Unquoted

abbrev pub text_state : Reader → PatternState
text_state r = record { frames = r.frames; expected = state.Text r.parts r.text (quoting_of r.quoted) }

-- nothing was read within these frames
abbrev pub blank : List Frame → Reader
blank fs = record { frames = fs; parts = []; text = []; quoted = false }

abbrev pub added : Reader → ℕ → Reader
added r c = record r { text = r.text ++ c ∷ [] }

abbrev pub flushed : Reader → Reader
flushed r = record r { parts = finished r.parts r.text; text = [] }

abbrev pub without_text : Reader → Reader
without_text r = record r { parts = []; text = [] }

-- arms

abbrev pub end_plural_piece : Reader → OpenPlural → List ℕ → List ℕ → Piece
end_plural_piece r p text rest =
    if has_category category.Other p.named then Ok (record r { parts = p.before ++ plural_part p ∷ [] }, rest)
    else Err text

abbrev pub key_piece : Reader → OpenPlural → ReadKey → Piece
key_piece r p (ArmRead k rest) = Ok (record r { frames = frame.Plural p k ∷ r.frames }, rest)
key_piece r p (PluralEnd text rest) = end_plural_piece r p text rest
key_piece r p (StuckKey rest) = Err rest

abbrev pub offset_piece : Reader → OpenPlural → Result (ℕ × List ℕ) (List ℕ) → Piece
offset_piece r p (Ok n) = key_piece r (with_offset p n.0) (key_read n.1)
offset_piece r p (Err rest) = Err rest

abbrev pub first_key_piece : Reader → OpenPlural → ReadFirstKey → Piece
first_key_piece r p (OffsetRead rest) = offset_piece r p (number_read (after_while is_template_space rest))
first_key_piece r p (KeyRead k) = key_piece r p k

abbrev pub end_select_piece : Reader → OpenSelect → List ℕ → List ℕ → Piece
end_select_piece r s text rest =
    if has_word (codes "other") s.arms then Ok (record r { parts = s.before ++ select_part s ∷ [] }, rest)
    else Err text

abbrev pub word_piece : Reader → OpenSelect → ReadWord → Piece
word_piece r s (WordRead w rest) = Ok (record r { frames = frame.Select s w ∷ r.frames }, rest)
word_piece r s (SelectEnd text rest) = end_select_piece r s text rest
word_piece r s (StuckWord rest) = Err rest

-- arguments

abbrev pub choice_piece : Reader → ChoiceKind → List ℕ → List ℕ → Piece
choice_piece r choice.Plural name rest =
    first_key_piece (record r { parts = [] }) (new_plural false (record { before = r.parts; name = name }))
    (first_key_read rest)
choice_piece r choice.Ordinal name rest =
    first_key_piece (record r { parts = [] }) (new_plural true (record { before = r.parts; name = name }))
    (first_key_read rest)
choice_piece r choice.Select name rest =
    word_piece (record r { parts = [] }) (new_select (record { before = r.parts; name = name })) (word_read rest)

abbrev pub head_piece : Reader → ReadHead → Piece
head_piece r (PlaceholderHead name rest) = Ok (record r { parts = r.parts ++ Placeholder name ∷ [] }, rest)
head_piece r (ChoiceHead kind name rest) = choice_piece r kind name rest
head_piece r (StuckHead rest) = Err rest

-- of the text from a brace, and what follows the brace
abbrev pub brace_piece : Reader → List ℕ → List ℕ → Piece
brace_piece r text rest =
    if nat_le (length r.frames) 63 then head_piece (flushed r) (head_read rest) else Err text

-- what follows a closing brace
abbrev pub close_at : List Frame → Reader → List ℕ → Piece
close_at [] r cs = Ok (added r right_brace, cs)
close_at (frame.Plural p k ∷ fs) r cs =
    key_piece (without_text (record r { frames = fs })) (with_arm p k (parts_of (finished r.parts r.text)))
    (key_read cs)
close_at (frame.Select s w ∷ fs) r cs =
    word_piece (without_text (record r { frames = fs })) (with_word s w (parts_of (finished r.parts r.text)))
    (word_read cs)

abbrev pub close_piece : Reader → List ℕ → Piece
close_piece r cs = close_at r.frames r cs

abbrev pub number_sign_at : List Frame → Reader → List ℕ → Piece
number_sign_at [] r cs = Ok (added r number_sign, cs)
number_sign_at (frame.Plural p k ∷ fs) r cs =
    Ok (record r { parts = finished r.parts r.text ++ NumberPart ∷ []; text = [] }, cs)
number_sign_at (frame.Select s w ∷ fs) r cs = Ok (added r number_sign, cs)

abbrev pub number_sign_piece : Reader → List ℕ → Piece
number_sign_piece r cs = number_sign_at r.frames r cs

-- apostrophes

abbrev pub apostrophe_piece : Reader → List ℕ → Piece
apostrophe_piece r [] = Ok (added r single_quote, [])
apostrophe_piece r (c ∷ cs) =
    if c == single_quote then Ok (added r single_quote, cs)
    else (if is_quotable (pattern_mode r.frames) c then Ok (record r { quoted = true }, c ∷ cs)
    else Ok (added r single_quote, c ∷ cs))

abbrev pub after_quote_piece : Reader → List ℕ → Piece
after_quote_piece r [] = Ok (record r { quoted = false }, [])
after_quote_piece r (c ∷ cs) =
    if c == single_quote then Ok (added r single_quote, cs) else Ok (record r { quoted = false }, c ∷ cs)

abbrev pub quote_piece : Reader → List ℕ → Piece
quote_piece r [] = Ok (r, [])
quote_piece r (c ∷ cs) = after_quote_piece r cs

abbrev pub is_quoted : ℕ → Bool
is_quoted c = not (c == single_quote)

abbrev pub quoted_piece : Reader → List ℕ → Piece
quoted_piece r cs =
    quote_piece (record r { text = r.text ++ prefix_while is_quoted cs }) (after_while is_quoted cs)

-- any

abbrev pub special_piece : Reader → List ℕ → Piece
special_piece r [] = Err []
special_piece r (c ∷ cs) =
    if c == single_quote then apostrophe_piece r cs
    else (if c == left_brace then brace_piece r (c ∷ cs) cs
    else (if c == right_brace then close_piece r cs
    else (if c == number_sign then number_sign_piece r cs
    else Ok (added r c, cs))))

abbrev pub plain_piece : Reader → List ℕ → List ℕ → Piece
plain_piece r run rest = if is_nil run then special_piece r rest else Ok (record r { text = r.text ++ run }, rest)

abbrev pub piece : Reader → List ℕ → Piece
piece r cs =
    if r.quoted then quoted_piece r cs
    else plain_piece r (prefix_while (is_plain (pattern_mode r.frames)) cs)
    (after_while (is_plain (pattern_mode r.frames)) cs)
