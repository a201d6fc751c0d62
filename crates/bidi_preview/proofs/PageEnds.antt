-- A page at its start and at its end: the directions that were found, and the texts of its lines.
use Rattle.std.proofs.Common.{◌≡◌, ℕ, Bool, true, List, [], ◌∷◌, map, sym, ap, subst, ◌∙◌, Option, None, Result, Ok}
use Rattle.std.proofs.Common.{Err}
use Rattle.std.specs.Result.{IfOk}
use Rattle.soy_base.specs.declared.direction.Dir.{Dir}
use Rattle.soy_base.specs.Piece.Piece.{Static}
use Rattle.bidi_order.specs.Lines.{direction_level, lines, lines_of_tokens}
use Rattle.bidi_order.specs.MarkupTokens.{MarkupToken, PageReading, first_reading, read_all, tokens_of}
use Rattle.bidi_preview.specs.AutoDirections.{OpenName, answers_from, auto_directions, or_left}
use Rattle.bidi_preview.specs.PageSteps.{GoOn, PageSoFar, page_texts, with_rest}
use Rattle.bidi_preview.specs.ReadingSteps.{GivesRest}
use Rattle.bidi_preview.specs.Seen.{seen, shown_lines}
use Rattle.bidi_preview.proofs.FoundDirections.{found}
use Rattle.bidi_preview.proofs.PageLines.{ReadSoFar, lines_more}
use Rattle.bidi_preview.proofs.PageReadings.{gives, tokens_whole}

pub if_ok_then : {X E : Type 0} (P Q : X → Type 0) (r : Result X E) → ((x : X) → P x → Q x) → IfOk r P → IfOk r Q
if_ok_then P Q (Ok x) then_so is = then_so x is
if_ok_then P Q (Err e) then_so is = tt

pub directions_end : (opened : List OpenName) (answers : List (Option Bool)) (tokens all : List MarkupToken)
    (directions : List Bool) → tokens ≡ [] → answers_from opened answers tokens ≡ answers_from [] [] all
    → directions ≡ map or_left answers → directions ≡ auto_directions [] all
directions_end opened answers tokens all directions none so_far here =
    here ∙ ap (map or_left) (ap (answers_from opened answers) (sym none) ∙ so_far) ∙ found all

pub lines_end : (context : ℕ) (p : PageSoFar) (tokens : List MarkupToken) (texts all : List (List ℕ)) → tokens ≡ []
    → page_texts context p tokens ≡ all → texts ≡ with_rest p ([], []) → texts ≡ all
lines_end context p tokens texts all none so_far here = here ∙ ap (page_texts context p) (sym none) ∙ so_far

abbrev pub first_page : Dir → List Bool → PageSoFar
first_page context directions = record {
  opened = [];
  directions = directions;
  base = direction_level context;
  characters = [];
  texts = [];
}

pub lines_start : (page : List ℕ) (context : Dir) (directions : List Bool)
    → page_texts (direction_level context) (first_page context directions) (read_all None first_reading page).0
    ≡ seen page context
unfolding seen lines
lines_start page context directions =
    ap (λ ts. shown_lines (lines_of_tokens (direction_level context) ts)) (sym (tokens_whole page))

-- one more character of a page that is read for its lines
pub reads_on : (more : Bool) (before after : PageReading) (c : ℕ) (tokens : List MarkupToken) (rest later : List ℕ)
    (context was : Dir) (texts : List (List ℕ)) (p now : PageSoFar)
    → more ≡ true → rest ≡ c ∷ later → GivesRest more before c tokens after → was ≡ context
    → GoOn (direction_level was) p tokens now
    → ReadSoFar (direction_level context) texts p (read_all None before rest).0
    → ReadSoFar (direction_level context) texts now (read_all None after later).0
reads_on more before after c tokens rest later context was texts p now is there given same goes so_far =
    lines_more (direction_level context) texts p now tokens (read_all None after later).0 (read_all None before rest).0
    (gives more before after c tokens rest later is there given)
    (subst (λ (d : Dir). GoOn (direction_level d) p tokens now) same goes) so_far

-- before the first character
pub begins_page : (page : List ℕ) (context : Dir) (directions : List Bool) (p : PageSoFar) (reading : PageReading)
    (text : List ℕ) → reading ≡ first_reading → text ≡ page → p ≡ first_page context directions
    → directions ≡ auto_directions [] (tokens_of (Static page ∷ []))
    → ReadSoFar (direction_level context) (seen page context) p (read_all None reading text).0
begins_page page context directions p reading text first all is known =
    let there : ReadSoFar (direction_level context) (seen page context) (first_page context directions)
    (read_all None first_reading page).0 =
    (lines_start page context directions, known ∙ ap (auto_directions []) (tokens_whole page)) in
    subst (λ (q : PageSoFar). ReadSoFar (direction_level context) (seen page context) q (read_all None reading text).0)
    (sym is)
    (subst (λ (r : PageReading). ReadSoFar (direction_level context) (seen page context) (first_page context directions)
    (read_all None r text).0) (sym first)
    (subst (λ (t : List ℕ). ReadSoFar (direction_level context) (seen page context) (first_page context directions)
    (read_all None first_reading t).0) (sym all) there))
