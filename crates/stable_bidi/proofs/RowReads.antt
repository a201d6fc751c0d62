-- A static character, read by two pages that know the value of an attribute apart, as its name isn't `dir`: what they
-- give and know after it, and the lemmas by which a step of each row is made.
use Rattle.std.proofs.Common.{◌≡◌, ℕ, Bool, true, false, List, [], ◌∷◌, refl, Option, None, Result, Ok, Err}
use Rattle.std.proofs.Common.{if◌then◌else◌}
use Rattle.soy_base.specs.declared.code.Code.{Code}
use Rattle.html_state.specs.RowNext.{opened}
use Rattle.html_state.specs.declared.row.HtmlRow.{HtmlRow}
use Rattle.html_state.specs.declared.row.HtmlRow.TheVariants as row
use Rattle.html_state.specs.declared.row.State.{State}
use Rattle.bidi_order.specs.MarkupTokens.{MarkupToken, character_read, labelled_characters, named_tag, text_pending}
use Rattle.stable_bidi.proofs.KnownPage.{AtRow, IsOpened, Known, reading}
use Rattle.stable_bidi.specs.TokenParts.{IsStaticToken}

-- tokens of static text
abbrev pub AreStaticTokens : List MarkupToken → Type 0
AreStaticTokens [] = Unit {0}
AreStaticTokens (t ∷ ts) = IsStaticToken t × AreStaticTokens ts

-- what may be a reference after a character, by the row before it and the row after it
abbrev pub reference_after : HtmlRow → HtmlRow → Option (List ℕ) → ℕ → Option (List ℕ)
reference_after row.Data after pending c = text_pending pending c
reference_after row.TagOpen row.Data pending c = text_pending pending c
reference_after row.TagOpen row.TagOpen pending c = text_pending pending c
reference_after _ _ pending c = pending

-- a character between two rows: both pages give the same tokens, of static text, and know the same after it but for the
-- value of an attribute
pub record RowStep (s : State) (before after : HtmlRow) (c : ℕ) (k : Known) (x y : List ℕ) : Type 0 where
  pub tokens : List MarkupToken
  pub are : AreStaticTokens tokens
  pub next : Known
  pub x_after : List ℕ
  pub y_after : List ℕ
  pub one : character_read before after None c (reading s k x) ≡ (tokens, reading s next x_after)
  pub other : character_read before after None c (reading s k y) ≡ (tokens, reading s next y_after)
  pub at : AtRow after next.attribute x_after y_after
  pub opened : IsOpened after next.opening
  pub pending : next.reference ≡ reference_after before after k.reference c

-- characters of static text
pub static_characters : (cs : List ℕ) → AreStaticTokens (labelled_characters None cs)
static_characters [] = tt
static_characters (c ∷ cs) = (refl, static_characters cs)

module _ (s : State) (c : ℕ) (k : Known) (x y : List ℕ) where
  -- a step to the row to which the table leads; none is asked where the character is a fault
  abbrev pub RowStepsTo : HtmlRow → Result HtmlRow Code → Type 0
  RowStepsTo before (Ok after) = RowStep s before after c k x y
  RowStepsTo before (Err fault) = Unit {0}

  -- a choice of the table
  pub row_steps_if : (before : HtmlRow) (b : Bool) (one other : Result HtmlRow Code) → RowStepsTo before one
      → RowStepsTo before other → RowStepsTo before (if b then one else other)
  row_steps_if before true one other first second = first
  row_steps_if before false one other first second = second

  -- a choice of rows
  pub row_step_if : (before : HtmlRow) (b : Bool) (one other : HtmlRow) → RowStep s before one c k x y
      → RowStep s before other c k x y → RowStep s before (if b then one else other) c k x y
  row_step_if before true one other first second = first
  row_step_if before false one other first second = second

  -- nothing is read
  pub nothing_read : (before after : HtmlRow)
      → ((z : List ℕ) → character_read before after None c (reading s k z) ≡ ([], reading s k z))
      → AtRow after k.attribute x y → IsOpened after k.opening
      → k.reference ≡ reference_after before after k.reference c → RowStep s before after c k x y
  nothing_read before after reads at opened pending = record {
    tokens = [];
    are = tt;
    next = k;
    x_after = x;
    y_after = y;
    one = reads x;
    other = reads y;
    at = at;
    opened = opened;
    pending = pending;
  }

  -- the name of a tag is read, so far or whole
  pub name_read : (before after : HtmlRow) (name : List ℕ)
      → ((z : List ℕ) → character_read before after None c (reading s k z)
      ≡ ([], record (reading s k z) { tag = named_tag name }))
      → AtRow after [] [] [] → IsOpened after k.opening
      → k.reference ≡ reference_after before after k.reference c → RowStep s before after c k x y
  name_read before after name reads at opened pending = record {
    tokens = [];
    are = tt;
    next = record { name = name; attribute = []; dir = None; reference = k.reference; opening = k.opening };
    x_after = [];
    y_after = [];
    one = reads x;
    other = reads y;
    at = at;
    opened = opened;
    pending = pending;
  }
