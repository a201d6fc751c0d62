-- A static character at the rows of a tag that stand before, in and after the name of an attribute.
use Rattle.std.proofs.Common.{◌≡◌, ℕ, zero, suc, Bool, true, false, ◌==◌, inl, List, [], ◌∷◌, ◌++◌, take, refl, ap}
use Rattle.std.proofs.Common.{◌∙◌, Option, Some, None, Ok, Err, if◌then◌else◌}
use Rattle.std.specs.Char.{to_ascii_lowercase}
use Rattle.soy_base.specs.Characters.{equals_sign, greater_than, slash}
use Rattle.soy_base.specs.declared.code.Code.TheVariants as code
use Rattle.html_state.specs.AttributeNamed.{attribute_named}
use Rattle.html_state.specs.EndsName.{ends_name}
use Rattle.html_state.specs.Kept.{name_with}
use Rattle.html_state.specs.TagRowNext.{before_name, past_name, tag_row_next}
use Rattle.html_state.specs.declared.row.TagRow.{TagRow}
use Rattle.html_state.specs.declared.row.TagRow.TheVariants as tag_row
use Rattle.bidi_order.specs.MarkupTokens.{tag_read}
use Rattle.stable_bidi.proofs.KnownPage.{AtTagRow, Known, tag_of}
use Rattle.stable_bidi.proofs.TagReads.{TagStep, TagStepsTo, attribute_ends, known_tag, name_begins, same_tag_known}
use Rattle.stable_bidi.proofs.TagReads.{tag_steps_if}

-- the first characters of a text, and more, cut once or twice
taken : (m : ℕ) (one two : List ℕ) → take m (take m one ++ two) ≡ take m (one ++ two)
taken zero one two = refl
taken (suc m) [] two = refl
taken (suc m) (z ∷ one) two = ap (λ l. z ∷ l) (taken m one two)

module _ (c : ℕ) (k : Known) (x y : List ℕ) where
  -- past white space, `/` or `>`
  past_steps : (inner : TagRow) → TagStep inner (Some tag_row.SelfClosing) c k x y → TagStep inner None c k x y
      → TagStep inner (Some tag_row.BeforeName) c k x y → TagStep inner (past_name c) c k x y
  past_steps inner closing end before =
      choose (c == slash) closing (choose (c == greater_than) end before)
    where
      choose : (b : Bool) {one other : Option TagRow} → TagStep inner one c k x y → TagStep inner other c k x y
          → TagStep inner (if b then one else other) c k x y
      choose true first second = first
      choose false first second = second

  -- nothing but the beginning of a name changes what is known of a tag at this row
  pub record ReadsNames (inner : TagRow) : Type 0 where
    pub closing : (z : List ℕ) → tag_read inner (Some tag_row.SelfClosing) c (tag_of k z) ≡ tag_of k z
    pub end : (z : List ℕ) → tag_read inner None c (tag_of k z) ≡ tag_of k z
    pub before : (z : List ℕ) → tag_read inner (Some tag_row.BeforeName) c (tag_of k z) ≡ tag_of k z
    pub begins : (n z : List ℕ) → tag_read inner (Some (tag_row.AttributeName n)) c (tag_of k z)
        ≡ tag_of (known_tag k (to_ascii_lowercase c ∷ []) k.dir) []

  -- past such a row
  past_unread : (inner : TagRow) → ReadsNames inner → TagStep inner (past_name c) c k x y
  past_unread inner reads =
      past_steps inner
      (same_tag_known c k x y inner (Some tag_row.SelfClosing) (reads.closing x) (reads.closing y) tt)
      (same_tag_known c k x y inner None (reads.end x) (reads.end y) tt)
      (same_tag_known c k x y inner (Some tag_row.BeforeName) (reads.before x) (reads.before y) tt)

  -- before a name
  pub before_name_steps : (inner : TagRow) → ReadsNames inner → TagStepsTo c k x y inner (before_name c)
  before_name_steps inner reads =
      tag_steps_if c k x y inner (ends_name c) (Ok (past_name c)) _ (past_unread inner reads)
      (tag_steps_if c k x y inner (c == equals_sign) (Err code.InName)
      (Ok (Some (tag_row.AttributeName (name_with [] c)))) tt
      (name_begins c k x y inner (name_with [] c) (reads.begins (name_with [] c)) refl))

  -- before a name
  pub reads_before : ReadsNames tag_row.BeforeName
  reads_before = record { closing = λ z. refl; end = λ z. refl; before = λ z. refl; begins = λ n z. refl }

  -- behind a quoted value
  pub reads_quoted : ReadsNames tag_row.AfterQuoted
  reads_quoted = record { closing = λ z. refl; end = λ z. refl; before = λ z. refl; begins = λ n z. refl }

  -- behind a `/`
  pub reads_closing : ReadsNames tag_row.SelfClosing
  reads_closing = record { closing = λ z. refl; end = λ z. refl; before = λ z. refl; begins = λ n z. refl }

  -- behind a block of attributes
  reads_printed : ReadsNames tag_row.AfterPrinted
  reads_printed = record { closing = λ z. refl; end = λ z. refl; before = λ z. refl; begins = λ n z. refl }

  -- after a block of attributes
  pub printed_steps : TagStepsTo c k x y tag_row.AfterPrinted (tag_row_next true tag_row.AfterPrinted c)
  printed_steps =
      tag_steps_if c k x y tag_row.AfterPrinted (ends_name c) (Ok (past_name c)) (Err code.InName)
      (past_unread tag_row.AfterPrinted reads_printed) tt

  -- in a name
  pub name_steps : (n : List ℕ) → AtTagRow (tag_row.AttributeName n) k.attribute x y
      → TagStepsTo c k x y (tag_row.AttributeName n) (tag_row_next true (tag_row.AttributeName n) c)
  name_steps n at =
      let inner : TagRow = tag_row.AttributeName n in
      let valued_row : TagRow = tag_row.BeforeValue (attribute_named n) in
      tag_steps_if c k x y inner (ends_name c) (Ok (past_name c)) _
      (past_steps inner (attribute_ends c k x y inner (Some tag_row.SelfClosing) [] [] (inl refl) refl refl tt)
      (attribute_ends c k x y inner None [] [] (inl refl) refl refl tt)
      (attribute_ends c k x y inner (Some tag_row.BeforeName) [] [] (inl refl) refl refl tt))
      (tag_steps_if c k x y inner (c == equals_sign) (Ok (Some valued_row))
      (Ok (Some (tag_row.AttributeName (name_with n c))))
      (same_tag_known c k x y inner (Some valued_row) refl refl (at.0, ap attribute_named at.1))
      (record {
        attribute_after = k.attribute ++ to_ascii_lowercase c ∷ [];
        dir_after = k.dir;
        x_after = x;
        y_after = y;
        one = refl;
        other = refl;
        at = (
          at.0,
          ap (λ (l : List ℕ). name_with l c) at.1 ∙ taken 17 k.attribute (to_ascii_lowercase c ∷ []),
        );
      }))
