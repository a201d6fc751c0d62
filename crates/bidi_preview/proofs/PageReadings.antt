-- One more character of a page: the tokens that it gives stand before those of the rest.
use Rattle.std.proofs.Common.{◌≡◌, ℕ, List, [], ◌∷◌, ◌++◌, refl, sym, ap, ◌∙◌, Option, Some, None, Result, Ok, Err}
use Rattle.std.proofs.lemmas.List.{append-nil}
use Rattle.soy_base.specs.declared.code.Code.{Code}
use Rattle.html_state.specs.declared.row.State.{State}
use Rattle.soy_base.specs.Piece.Piece.{Static}
use Rattle.html_state.specs.Next.{next, text_end}
use Rattle.bidi_order.specs.MarkupTokens.{MarkupToken, PageReading, character_read, first_reading, read_all}
use Rattle.bidi_order.specs.MarkupTokens.{tokens_from}
use Rattle.bidi_order.specs.MarkupTokens.{tokens_of}
use Rattle.bidi_preview.specs.AutoDirections.{OpenName, answers_from}
use Rattle.bidi_preview.specs.ReadingSteps.{GivesRest}
use Rattle.std.proofs.Common.{Bool, true, false}

pub reads_more : (before after : PageReading) (now : State) (c : ℕ) (tokens : List MarkupToken) (text : List ℕ)
    → next before.state c ≡ Ok now
    → (tokens, after) ≡ character_read before.state.row now.row None c before
    → (read_all None before (c ∷ text)).0 ≡ tokens ++ (read_all None (record after { state = now }) text).0
reads_more before after now c tokens text is gives =
    ap (λ (o : Result State Code). (elim o as (λ (x : Result State Code). List MarkupToken × Option PageReading) [
      | Ok state ↦
          let read = character_read before.state.row state.row None c before in
          let more = read_all None (record read.1 { state = state }) text in
          (read.0 ++ more.0, more.1)
      | Err code ↦ ([], None)
    ]).0) is
    ∙ sym (ap (λ (p : List MarkupToken × PageReading). p.0 ++ (read_all None (record p.1 { state = now }) text).0)
    gives)

pub reads_none : (before : PageReading) (code : Code) (c : ℕ) (text : List ℕ) → next before.state c ≡ Err code
    → (read_all None before (c ∷ text)).0 ≡ []
reads_none before code c text is =
    ap (λ (o : Result State Code). (elim o as (λ (x : Result State Code). List MarkupToken × Option PageReading) [
      | Ok state ↦
          let read = character_read before.state.row state.row None c before in
          let more = read_all None (record read.1 { state = state }) text in
          (read.0 ++ more.0, more.1)
      | Err code ↦ ([], None)
    ]).0) is

-- the tokens of a page that is one static text
pub tokens_whole : (text : List ℕ) → tokens_of (Static text ∷ []) ≡ (read_all None first_reading text).0
tokens_whole text = ap (λ l. (read_all None first_reading text).0 ++ l) (nothing (read_all None first_reading text).1)
    ∙ append-nil (read_all None first_reading text).0
  where
    ended : (e : Result State Code) (now : PageReading)
        → ◌≡◌ {A = List MarkupToken} (elim e [ Ok state ↦ tokens_from 0 now [] | Err code ↦ [] ]) []
    ended (Ok state) now = refl
    ended (Err code) now = refl

    nothing : (o : Option PageReading) → ◌≡◌ {A = List MarkupToken} (elim o [
      | None ↦ []
      | Some now ↦ elim (text_end now.state) [ Ok state ↦ tokens_from 0 now [] | Err code ↦ [] ]
    ]) []
    nothing None = refl
    nothing (Some now) = ended (text_end now.state) now

-- ---- one more character of a page that is read for its directions, or for its lines

pub gives : (more : Bool) (before after : PageReading) (c : ℕ) (tokens : List MarkupToken) (rest later : List ℕ)
    → more ≡ true → rest ≡ c ∷ later → GivesRest more before c tokens after
    → (read_all None before rest).0 ≡ tokens ++ (read_all None after later).0
gives true before after c tokens rest later is there given =
    ap (λ l. (read_all None before l).0) there ∙ given later
gives false before after c tokens rest later is there given = absurd (cc)

pub finds_more : (more : Bool) (before after : PageReading) (c : ℕ) (tokens : List MarkupToken) (rest later : List ℕ)
    (opened now : List OpenName) (answers found : List (Option Bool))
    → more ≡ true → rest ≡ c ∷ later → GivesRest more before c tokens after
    → ((ts : List MarkupToken) → answers_from now found ts ≡ answers_from opened answers (tokens ++ ts))
    → answers_from now found (read_all None after later).0 ≡ answers_from opened answers (read_all None before rest).0
finds_more more before after c tokens rest later opened now answers found is there given reads =
    reads (read_all None after later).0
    ∙ ap (answers_from opened answers) (sym (gives more before after c tokens rest later is there given))

pub ends_page : (more : Bool) (before after : PageReading) (c : ℕ) (tokens : List MarkupToken) (rest later : List ℕ)
    → more ≡ false → rest ≡ c ∷ later → GivesRest more before c tokens after → (read_all None before rest).0 ≡ []
ends_page true before after c tokens rest later is there given = absurd (cc)
ends_page false before after c tokens rest later is there given =
    ap (λ l. (read_all None before l).0) there ∙ given later
