-- A static character in the name of a tag, in a tag, and at its end.
use Rattle.std.proofs.Common.{◌≡◌, ℕ, Bool, true, false, ◌==◌, List, [], ◌∷◌, ◌++◌, refl, ap, ◌∙◌, Option, Some, None}
use Rattle.std.proofs.Common.{Result, Ok, Err, if◌then◌else◌}
use Rattle.std.specs.Char.{to_ascii_lowercase}
use Rattle.soy_base.specs.Characters.{greater_than, slash}
use Rattle.soy_base.specs.declared.code.Code.{Code}
use Rattle.soy_base.specs.declared.code.Code.TheVariants as code
use Rattle.html_state.specs.ElementNamed.{element_named}
use Rattle.html_state.specs.EndsName.{ends_name}
use Rattle.html_state.specs.Kept.{name_with}
use Rattle.html_state.specs.RowNext.{after_tag, in_tag, is_refused, opened, row_next}
use Rattle.html_state.specs.TagRowNext.{past_name, tag_row_next}
use Rattle.html_state.specs.Texts.{and_then}
use Rattle.html_state.specs.declared.row.HtmlRow.{HtmlRow}
use Rattle.html_state.specs.declared.row.HtmlRow.TheVariants as row
use Rattle.html_state.specs.declared.row.State.{State}
use Rattle.html_state.specs.declared.row.Tag.{Tag}
use Rattle.html_state.specs.declared.row.Tag.TheVariants as tag
use Rattle.html_state.specs.declared.row.TagKind.{TagKind}
use Rattle.html_state.specs.declared.row.TagKind.TheVariants as kind
use Rattle.html_state.specs.declared.row.TagRow.{TagRow}
use Rattle.html_state.specs.declared.row.TagRow.TheVariants as tag_row
use Rattle.bidi_order.specs.MarkupTokens.{MarkupToken, PageReading, TagReading, character_read, tag_read, no_tag}
use Rattle.bidi_order.specs.MarkupTokens.{tag_token}
use Rattle.stable_bidi.proofs.KnownPage.{AtRow, AtTagRow, IsOpened, Known, reading, tag_of}
use Rattle.html_state.specs.declared.row.AttributeValue.{AttributeValue}
use Rattle.html_state.specs.declared.row.Quote.{Quote}
use Rattle.stable_bidi.proofs.AttributeValues.{quoted_on, unquoted_on}
use Rattle.stable_bidi.proofs.RowReads.{AreStaticTokens, RowStep, RowStepsTo, name_read, nothing_read}
use Rattle.stable_bidi.proofs.RowReads.{reference_after, row_steps_if}
use Rattle.stable_bidi.proofs.TagReads.{TagStep, TagStepsTo, known_tag}
use Rattle.stable_bidi.proofs.TagSteps.{tag_steps}

module _ (s : State) (c : ℕ) (k : Known) (x y : List ℕ) where
  -- ---- the end of a tag

  -- a static `<` makes a static tag
  tag_static : (how : TagKind) (t : TagReading) → k.opening ≡ None → AreStaticTokens (tag_token how t k.opening)
  tag_static kind.Start t none = (none, tt)
  tag_static kind.End t none = (tt, tt)

  -- the token of a tag doesn't go by the value of its last attribute
  same_tag : (how : TagKind) (now : Known) (u v : List ℕ)
      → tag_token how (tag_of now v) k.opening ≡ tag_token how (tag_of now u) k.opening
  same_tag kind.Start now u v = refl
  same_tag kind.End now u v = refl

  -- a tag has ended, of which this is known but for the value of its last attribute
  tag_ended : (before after : HtmlRow) (how : TagKind) (now : Known) (u v : List ℕ)
      → character_read before after None c (reading s k x)
      ≡ (tag_token how (tag_of now u) k.opening, record (reading s k x) { tag = no_tag })
      → character_read before after None c (reading s k y)
      ≡ (tag_token how (tag_of now v) k.opening, record (reading s k y) { tag = no_tag })
      → AtRow after [] [] [] → IsOpened after k.opening → k.opening ≡ None
      → k.reference ≡ reference_after before after k.reference c → RowStep s before after c k x y
  tag_ended before after how now u v one other at opened none pending = record {
    tokens = tag_token how (tag_of now u) k.opening;
    are = tag_static how (tag_of now u) none;
    next = record { name = []; attribute = []; dir = None; reference = k.reference; opening = k.opening };
    x_after = [];
    y_after = [];
    one = one;
    other = other ∙ ap (λ (ts : List MarkupToken). (ts, record (reading s k y) { tag = no_tag }))
        (same_tag how now u v);
    at = at;
    opened = opened;
    pending = pending;
  }

  -- the end of a tag directly behind its name
  name_ended : (how : TagKind) (n : List ℕ) → k.opening ≡ None
      → RowStep s (row.TagName how n) (after_tag (tag.Named how n)) c k x y
  name_ended kind.End n none =
      tag_ended (row.TagName kind.End n) row.Data kind.End k x y refl refl tt tt none refl
  name_ended kind.Start n none =
      elim (element_named n) as (λ o. RowStep s (row.TagName kind.Start n) (opened o) c k x y) [
        | None ↦ tag_ended (row.TagName kind.Start n) row.Data kind.Start k x y refl refl tt tt none refl
        | Some e ↦ tag_ended (row.TagName kind.Start n) (row.Within e) kind.Start k x y refl refl tt none none refl
      ]

  -- the end of a tag behind an attribute
  tag_end : (how : TagKind) (n : List ℕ) (inner : TagRow) → k.opening ≡ None → TagStep inner None c k x y
      → RowStep s (row.InTag (tag.Named how n) inner) (after_tag (tag.Named how n)) c k x y
  tag_end how n inner none step = by how
    where
      now : Known
      now = known_tag k step.attribute_after step.dir_after

      one_read : (how : TagKind) → ◌≡◌ {A = List MarkupToken × PageReading}
          (tag_token how (tag_read inner None c (tag_of k x)) k.opening, record (reading s k x) { tag = no_tag })
          (tag_token how (tag_of now step.x_after) k.opening, record (reading s k x) { tag = no_tag })
      one_read how =
          ap (λ (t : TagReading). (tag_token how t k.opening, record (reading s k x) { tag = no_tag })) step.one

      other_read : (how : TagKind) → ◌≡◌ {A = List MarkupToken × PageReading}
          (tag_token how (tag_read inner None c (tag_of k y)) k.opening, record (reading s k y) { tag = no_tag })
          (tag_token how (tag_of now step.y_after) k.opening, record (reading s k y) { tag = no_tag })
      other_read how =
          ap (λ (t : TagReading). (tag_token how t k.opening, record (reading s k y) { tag = no_tag })) step.other

      by : (how : TagKind) → RowStep s (row.InTag (tag.Named how n) inner) (after_tag (tag.Named how n)) c k x y
      by kind.End =
          tag_ended (row.InTag (tag.Named kind.End n) inner) row.Data kind.End now step.x_after step.y_after
          (one_read kind.End) (other_read kind.End) tt tt none refl
      by kind.Start =
          let before : HtmlRow = row.InTag (tag.Named kind.Start n) inner in
          elim (element_named n) as (λ o. RowStep s before (opened o) c k x y) [
            | None ↦ tag_ended before row.Data kind.Start now step.x_after step.y_after (one_read kind.Start)
                (other_read kind.Start) tt tt none refl
            | Some e ↦ tag_ended before (row.Within e) kind.Start now step.x_after step.y_after
                (one_read kind.Start) (other_read kind.Start) tt none none refl
          ]

  -- ---- in a tag

  -- past white space, `/` or `>`
  pub past_step : (before : HtmlRow) (around : Tag)
      → RowStep s before (row.InTag around tag_row.SelfClosing) c k x y
      → RowStep s before (after_tag around) c k x y
      → RowStep s before (row.InTag around tag_row.BeforeName) c k x y
      → RowStep s before (in_tag around (past_name c)) c k x y
  past_step before around closing end within =
      choose (c == slash) (Some tag_row.SelfClosing) _ closing
      (choose (c == greater_than) None (Some tag_row.BeforeName) end within)
    where
      choose : (b : Bool) (one other : Option TagRow) → RowStep s before (in_tag around one) c k x y
          → RowStep s before (in_tag around other) c k x y
          → RowStep s before (in_tag around (if b then one else other)) c k x y
      choose true one other first second = first
      choose false one other first second = second

  -- in a name
  pub name_step : (how : TagKind) (n : List ℕ) → k.opening ≡ None
      → RowStepsTo s c k x y (row.TagName how n) (row_next true (row.TagName how n) c)
  name_step how n none =
      let before : HtmlRow = row.TagName how n in
      row_steps_if s c k x y before (ends_name c) _ (Ok (row.TagName how (name_with n c)))
      (row_steps_if s c k x y before (is_refused how n) (Err code.InName) _ tt
      (past_step before (tag.Named how n)
      (nothing_read s c k x y before (row.InTag (tag.Named how n) tag_row.SelfClosing) (λ z. refl) tt none refl)
      (name_ended how n none)
      (nothing_read s c k x y before (row.InTag (tag.Named how n) tag_row.BeforeName) (λ z. refl) tt none refl)))
      (name_read s c k x y before (row.TagName how (name_with n c)) (k.name ++ to_ascii_lowercase c ∷ [])
      (λ z. refl) tt none refl)

  -- within a tag
  tag_on : (how : TagKind) (n : List ℕ) (inner now : TagRow) → k.opening ≡ None → TagStep inner (Some now) c k x y
      → RowStep s (row.InTag (tag.Named how n) inner) (row.InTag (tag.Named how n) now) c k x y
  tag_on how n inner now none step = record {
    tokens = [];
    are = tt;
    next = known_tag k step.attribute_after step.dir_after;
    x_after = step.x_after;
    y_after = step.y_after;
    one = ap (λ (t : TagReading). ([], record (reading s k x) { tag = t })) step.one;
    other = ap (λ (t : TagReading). ([], record (reading s k y) { tag = t })) step.other;
    at = step.at;
    opened = none;
    pending = refl;
  }

  -- at any row of a tag
  pub in_tag_step : (how : TagKind) (n : List ℕ) (inner : TagRow) → k.opening ≡ None → AtTagRow inner k.attribute x y
      → RowStepsTo s c k x y (row.InTag (tag.Named how n) inner)
      (row_next true (row.InTag (tag.Named how n) inner) c)
  in_tag_step how n inner none at = on (tag_row_next true inner c) (tag_steps c k x y inner at)
    where
      on : (o : Result (Option TagRow) Code) → TagStepsTo c k x y inner o
          → RowStepsTo s c k x y (row.InTag (tag.Named how n) inner)
          (and_then (λ following. Ok (in_tag (tag.Named how n) following)) o)
      on (Err fault) step = tt
      on (Ok None) step = tag_end how n inner none step
      on (Ok (Some now)) step = tag_on how n inner now none step

  -- ---- while a reference in a value isn't decided, the row stays

  -- in quotes
  pub quoted_stays : (how : TagKind) (n : List ℕ) (q : Quote) (v : AttributeValue) → k.opening ≡ None
      → AtTagRow (tag_row.Quoted q v) k.attribute x y
      → RowStep s (row.InTag (tag.Named how n) (tag_row.Quoted q v)) (row.InTag (tag.Named how n) (tag_row.Quoted q v))
      c k x y
  quoted_stays how n q v none at =
      tag_on how n (tag_row.Quoted q v) (tag_row.Quoted q v) none (quoted_on c k x y q v v refl at)

  -- without quotes
  pub unquoted_stays : (how : TagKind) (n : List ℕ) (v : AttributeValue) → k.opening ≡ None
      → AtTagRow (tag_row.Unquoted v) k.attribute x y
      → RowStep s (row.InTag (tag.Named how n) (tag_row.Unquoted v)) (row.InTag (tag.Named how n) (tag_row.Unquoted v))
      c k x y
  unquoted_stays how n v none at =
      tag_on how n (tag_row.Unquoted v) (tag_row.Unquoted v) none (unquoted_on c k x y v v at)
