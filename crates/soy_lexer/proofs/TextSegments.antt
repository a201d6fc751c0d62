-- What text outside of commands begins with, by what stands at its start.
use Rattle.std.proofs.Common.{◌≡◌, ℕ, List, [], ◌∷◌, ◌++◌, true, Option, None, Some, Result, option_map, codes, refl}
use Rattle.std.proofs.Common.{sym, ap, subst, ◌∙◌, append_assoc}
use Rattle.std.specs.Str.{chars}
use Rattle.std.proofs.lemmas.List.{append_cancel_right}
use Rattle.soy_base.specs.declared.memory.Refusal.{Refusal}
use Rattle.soy_base.specs.Characters.{left_brace}
use Rattle.soy_base.specs.Cuts.{after_prefix, cut, prefix_while, after_while}
use Rattle.soy_lexer.specs.Found.{Found, begins}
use Rattle.soy_lexer.specs.Found.Found.{Begins, Fails}
use Rattle.soy_lexer.specs.Segment.Segment.{Skipped, CommandToken}
use Rattle.soy_lexer.specs.ReadsSegment.{ReadsSegment}
use Rattle.soy_lexer.specs.ReadsSegmentIf.{ReadsSegmentIf}
use Rattle.soy_lexer.specs.TextSegment.{continues_line, line_comment, may_begin, plain_segment}
use Rattle.soy_lexer.specs.declared.source_segment.FirstSegment.{FirstSegment}
use Rattle.soy_lexer.specs.declared.token.TokenKind.TheVariants as kind
use Rattle.soy_base.proofs.Texts.{after_prefix-whole, cut-whole}
use Rattle.soy_lexer.proofs.SourceTexts.{IsCut}
use Rattle.soy_lexer.proofs.CommandSegments.{while-whole}

-- the delimiters, as characters
pub comment_opens : chars (codes "/*") ≡ codes "/*"
unfolding chars
comment_opens = refl

pub comment_closes : chars (codes "*/") ≡ codes "*/"
unfolding chars
comment_closes = refl

pub line_opens : chars (codes "//") ≡ codes "//"
unfolding chars
line_opens = refl

pub literal_opens : chars (codes "{literal}") ≡ codes "{literal}"
unfolding chars
literal_opens = refl

pub literal_closes : chars (codes "{/literal}") ≡ codes "{/literal}"
unfolding chars
literal_closes = refl

-- a segment that begins with a prefix
module _ (prefix source_text : List ℕ) (same : chars source_text ≡ prefix) (segment : List ℕ → Found) (text : List ℕ)
  where
    -- without the prefix no segment is found
    pub without_prefix : (r : Option (Result FirstSegment (Refusal ℕ))) → None ≡ after_prefix (chars source_text) text
        → r ≡ None →
        ReadsSegmentIf (option_map segment (after_prefix prefix text)) r
    without_prefix r none is = rw is (ap (option_map segment) (ap (λ l. after_prefix l text) (sym same) ∙ sym none))

    -- the prefix is the one of the definition
    opened : (inner : List ℕ) → Some inner ≡ after_prefix (chars source_text) text
        → after_prefix prefix text ≡ Some inner
    opened inner some = ap (λ l. after_prefix l text) (sym same) ∙ sym some

    -- the text is the prefix and what follows
    pub after_it : (inner : List ℕ) → Some inner ≡ after_prefix (chars source_text) text → text ≡ prefix ++ inner
    after_it inner some = after_prefix-whole prefix text inner (opened inner some)

    -- and the segment is what is found there
    pub with_prefix : (inner : List ℕ) (r : Result FirstSegment (Refusal ℕ))
        → Some inner ≡ after_prefix (chars source_text) text → ReadsSegment (segment inner) r →
        ReadsSegmentIf (option_map segment (after_prefix prefix text)) (Some r)
    with_prefix inner r some h = (segment inner, ap (option_map segment) (opened inner some), h)

-- a segment that goes on to a delimiter
module _ (delimiter source_text : List ℕ) (same : chars source_text ≡ delimiter) (prefix inner text : List ℕ)
    (whole : text ≡ prefix ++ inner) where
  -- without the delimiter the definition cuts nothing
  pub no_delimiter : None ≡ cut (chars source_text) inner → cut delimiter inner ≡ None
  no_delimiter none = ap (λ l. cut l inner) (sym same) ∙ sym none

  -- and else it cuts at the same offset
  pub cut_there : (a rest : List ℕ) → Some (a, rest) ≡ cut (chars source_text) inner
      → cut delimiter inner ≡ Some (a, rest)
  cut_there a rest some = ap (λ l. cut l inner) (sym same) ∙ sym some

  -- the text is the prefix up to the delimiter and what follows
  pub up_to_delimiter : (a rest : List ℕ) → Some (a, rest) ≡ cut (chars source_text) inner
      → text ≡ (prefix ++ (a ++ delimiter)) ++ rest
  up_to_delimiter a rest some =
      let parts : inner ≡ a ++ (delimiter ++ rest) = subst (λ o. IsCut delimiter inner o) (cut_there a rest some)
      (cut-whole delimiter inner) in
      whole ∙ (ap (λ l. prefix ++ l) (parts ∙ sym (append_assoc a delimiter rest))
      ∙ sym (append_assoc prefix (a ++ delimiter) rest))

  -- so what stands before the rest is that prefix
  pub before_delimiter : (a rest segment : List ℕ) → Some (a, rest) ≡ cut (chars source_text) inner
      → text ≡ segment ++ rest
      → segment ≡ prefix ++ (a ++ delimiter)
  before_delimiter a rest segment some is =
      append_cancel_right segment (prefix ++ (a ++ delimiter)) rest (sym is ∙ up_to_delimiter a rest some)

-- a line comment
pub line_prefix : (text inner rest : List ℕ) → Some inner ≡ after_prefix (chars (codes "//")) text
    → rest ≡ after_while continues_line inner →
    text ≡ (codes "//" ++ prefix_while continues_line inner) ++ rest
line_prefix text inner rest some is =
    after_it (codes "//") (codes "//") line_opens (λ inner. Fails 0) text inner some
    ∙ ap (λ l. codes "//" ++ l) (while-whole continues_line inner
    ∙ ap (λ l. prefix_while continues_line inner ++ l) (sym is))

-- and the segment is that comment
pub line_steps : (text inner rest segment : List ℕ) (r : Result FirstSegment (Refusal ℕ))
    → Some inner ≡ after_prefix (chars (codes "//")) text → rest ≡ after_while continues_line inner →
    text ≡ segment ++ rest → ReadsSegment (begins (Skipped segment) rest) r
    → ReadsSegmentIf (line_comment true text) (Some r)
line_steps text inner rest segment r some is whole h =
    let same : segment ≡ codes "//" ++ prefix_while continues_line inner =
    append_cancel_right segment (codes "//" ++ prefix_while continues_line inner) rest
    (sym whole ∙ line_prefix text inner rest some is) in
    with_prefix (codes "//") (codes "//") line_opens
    (λ inner. begins (Skipped (codes "//" ++ prefix_while continues_line inner)) (after_while continues_line inner))
    text inner r some
    (subst (λ f. ReadsSegment f r) (ap (λ p. begins (Skipped p) rest) same
    ∙ ap (λ l. begins (Skipped (codes "//" ++ prefix_while continues_line inner)) l) is) h)

-- the `{` of a command
pub brace_begins : (text command_token value rest : List ℕ) → text ≡ left_brace ∷ rest → text ≡ command_token ++ rest
    → value ≡ command_token → true ≡ may_begin rest →
    plain_segment text ≡ Begins (CommandToken kind.Begin command_token value) rest
brace_begins text command_token value rest is whole same may =
    let one : command_token ≡ left_brace
    ∷ [] = append_cancel_right command_token (left_brace ∷ []) rest (sym whole ∙ is) in
    rw (same, one, is, ← may) refl
