-- A static text at any state: two pages that know the value of an attribute apart, as its name isn't `dir`, give the
-- same tokens of it and know the same after it but for such a value.
use Rattle.std.proofs.Common.{◌≡◌, ℕ, List, [], ◌∷◌, ◌++◌, refl, ap, ◌∙◌, Option, Some, None, Result, Ok, Err}
use Rattle.soy_base.specs.declared.code.Code.{Code}
use Rattle.html_state.specs.AfterAll.{after_all}
use Rattle.html_state.specs.Next.{next}
use Rattle.html_state.specs.declared.row.State.{State}
use Rattle.bidi_order.specs.MarkupTokens.{MarkupToken, PageReading, character_read, next_by_label, read_all}
use Rattle.stable_bidi.proofs.KnownPage.{Good, Known, reading}
use Rattle.stable_bidi.proofs.CharacterSteps.{CharacterRead, character_step}
use Rattle.stable_bidi.proofs.RowReads.{AreStaticTokens, RowStep}

-- the text has a fault, up to which both pages give the same tokens; or it has none, and they know the same after it
pub data TextRead (s : State) (k : Known) (x y text : List ℕ) : Type 0 where
  Stops : (tokens : List MarkupToken) → AreStaticTokens tokens
      → read_all None (reading s k x) text ≡ (tokens, None) → read_all None (reading s k y) text ≡ (tokens, None)
      → TextRead s k x y text
  Goes : (tokens : List MarkupToken) → AreStaticTokens tokens → (u : State) (now : Known) (x' y' : List ℕ)
      → read_all None (reading s k x) text ≡ (tokens, Some (reading u now x'))
      → read_all None (reading s k y) text ≡ (tokens, Some (reading u now y'))
      → Good u now x' y' → after_all next s text ≡ Ok u → TextRead s k x y text

-- two lists of static tokens
static_tokens-append : (one other : List MarkupToken) → AreStaticTokens one → AreStaticTokens other
    → AreStaticTokens (one ++ other)
static_tokens-append [] other are is = is
static_tokens-append (t ∷ one) other are is = (are.0, static_tokens-append one other are.1 is)

-- a text with one more character before it
pub read_more : (label : Option ℕ) (r : PageReading) (c : ℕ) (cs : List ℕ) (u : State)
    (tokens : List MarkupToken) (after : PageReading) → next_by_label label r.state c ≡ Ok u
    → character_read r.state.row u.row label c r ≡ (tokens, after)
    → read_all label r (c ∷ cs) ≡ (
      tokens ++ (read_all label (record after { state = u }) cs).0,
      (read_all label (record after { state = u }) cs).1,
    )
read_more label r c cs u tokens after is reads = rw (is, reads, read_all) refl

-- a text that begins with a fault
pub stops_at : (label : Option ℕ) (r : PageReading) (c : ℕ) (cs : List ℕ) (fault : Code)
    → next_by_label label r.state c ≡ Err fault → read_all label r (c ∷ cs) ≡ ([], None)
stops_at label r c cs fault is = rw (is, read_all) refl

-- what is read of a text, behind tokens
abbrev pub tokens_before : List MarkupToken → List MarkupToken × Option PageReading
    → List MarkupToken × Option PageReading
tokens_before tokens more = (tokens ++ more.0, more.1)

-- any text, a character at a time
pub text_read : (text : List ℕ) (s : State) (k : Known) (x y : List ℕ) → Good s k x y → TextRead s k x y text
text_read [] s k x y good = Goes [] tt s k x y refl refl good refl
text_read (c ∷ text) s k x y good =
    by (next s c) refl (λ u k x y good. text_read text u k x y good)
  where
    by : (o : Result State Code) → next s c ≡ o
        → ((u : State) (k : Known) (x y : List ℕ) → Good u k x y → TextRead u k x y text)
        → TextRead s k x y (c ∷ text)
    by (Err fault) is more = Stops [] tt (stops_at None (reading s k x) c text fault is)
        (stops_at None (reading s k y) c text fault is)
    by (Ok u) is more =
        let read : CharacterRead s u c k x y = character_step s u c k x y good is in
        let step : RowStep s s.row u.row c k x y = read.step in
        let one = read_more None (reading s k x) c text u step.tokens (reading s step.next step.x_after) is step.one in
        let other = read_more None (reading s k y) c text u step.tokens (reading s step.next step.y_after) is
        step.other in
        elim (more u step.next step.x_after step.y_after read.good) [
          | Stops tokens are first second ↦ Stops (step.tokens ++ tokens)
              (static_tokens-append step.tokens tokens step.are are)
              (one ∙ ap (tokens_before step.tokens) first) (other ∙ ap (tokens_before step.tokens) second)
          | Goes tokens are v now x' y' first second fine after ↦ Goes (step.tokens ++ tokens)
              (static_tokens-append step.tokens tokens step.are are) v now x' y'
              (one ∙ ap (tokens_before step.tokens) first) (other ∙ ap (tokens_before step.tokens) second) fine
              (rw is after)
        ]
