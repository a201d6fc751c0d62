-- A page that is rendered keeps its markup and its visual order whatever its values hold.
use Rattle.std.proofs.Common.{◌≡◌, inl, inr, ℕ, zero, suc, List, [], ◌∷◌, Option, Some, refl, sym}
use Rattle.std.proofs.Common.{subst}
use Rattle.std.specs.Prelude.{IfSome, Ok, slice_get}
use Rattle.std.specs.Str.{IsUtf8, chars}
use Rattle.ir_build.proofs.FittingTrees.{trees_fit}
use Rattle.html_state.specs.AfterPieces.{after_piece}
use Rattle.soy_base.specs.Piece.{Static}
use Rattle.html_state.specs.Start.{start}
use Rattle.html_state.specs.declared.row.State.{State}
use Rattle.msg_extract.specs.LanguageOf.{language_of}
use Rattle.msg_extract.specs.Translations.{translation_of}
use Rattle.soy_base.specs.declared.kind.Kind.{Kind}
use Rattle.soy_base.specs.declared.kind.Kind.TheVariants as kind
use Rattle.soy_front.specs.FrontAnswer.{DeserveFront}
use Rattle.soy_front.proofs.DataFits.{having_fit, read_have}
use Rattle.soy_front.proofs.FormedSources.{trees_formed}
use Rattle.soy_front.proofs.FrontAnswers.{answered_deserved}
use Rattle.soy_front.proofs.LanguageOf.{language_fits}
use Rattle.soy_io.specs.FileOf.{Files}
use Rattle.soy_meaning.specs.Walks.AcceptedTrees.{AcceptedTrees}
use Rattle.soy_pieces.specs.Giving.{RunEnv}
use Rattle.soy_pieces.specs.Meaning.{joined_pieces}
use Rattle.soy_pieces.specs.Outcome.{end_of_outcome}
use Rattle.soy_meaning.specs.Walks.PageMachine.{page_machine}
use Rattle.soy_pieces.specs.Pieces.{RunContext}
use Rattle.soy_meaning.specs.Paths.PlanOfNodes.{trees_plan}
use Rattle.soy_meaning.specs.Walks.States.{IsMember}
use Rattle.soy_meaning.specs.Runs.TranslationFits.{TranslationsFit}
use Rattle.soy_meaning.specs.Runs.TypedData.{AreTypedTrees, FitsData}
use Rattle.soy_meaning.specs.Walks.Walk.{walked}
use Rattle.soy_meaning.proofs.Walks.PageStates.{page_compares}
use Rattle.soy_meaning.proofs.Typing.TypedRuns.{typed_runs_alike}
use Rattle.soy_meaning.proofs.Walks.Exact.{accepted_when_walked}
use Rattle.soy_top.specs.MarkupKept.{MarkupIsKept}
use Rattle.soy_top.specs.OrderKept.{OrderIsKept, page_lines}
use Rattle.soy_top.specs.OtherData.{IsOtherData}
use Rattle.soy_top.specs.Commands.OneText.{IsOneText}
use Rattle.soy_top.specs.Rendered.{Rendered, known_rendered, page_outcome, page_pieces, page_text}
use Rattle.soy_top.specs.Words.{Word}
use Rattle.soy_top.proofs.Options.{if_so, none_some, some_same}
use Rattle.soy_top.proofs.PageParts.{PageParts, rendered_parts}
use Rattle.soy_tree.specs.Formed.{AreFormed}
use Rattle.soy_rules.specs.Templates.{declared}
use Rattle.soy_tree.specs.Trees.{Tree}
use Rattle.soy_tree.specs.Values.{Value}
use Rattle.soy_tree.specs.ViewTrees.{view_trees}
use Rattle.stable_bidi.specs.PagesAlike.{PagesAlike}
use Rattle.stable_bidi.proofs.PageLines as bidi
use Rattle.stable_bidi.proofs.TypedPages.{typed_pages}
use Rattle.stable_bidi.proofs.VisualOrders.{same_visual_order}
use Rattle.stable_html.proofs.SameMarkups.{template_bytes, template_roles, template_text, templates_same}
use Rattle.soy_rules.specs.Language.{Language}
use Rattle.soy_pieces.specs.LanguageContext.{language_context}
use Rattle.soy_pieces.specs.InputEnv.{input_env, names_of}

-- ---- the template of a number is one of all

is_member : {A : Type 0} (xs : List A) (number : ℕ) (x : A) → slice_get xs number ≡ Some x → IsMember x xs
is_member [] number x is = absurd (none_some x is)
is_member (first ∷ xs) zero x is = inl (sym (some_same first x is))
is_member (first ∷ xs) (suc number) x is = inr (is_member xs number x is)

-- ---- the page

module _ (page : Rendered) (parts : PageParts page) where
  abbrev trees : List Tree
  trees = view_trees page.accepted.files.trees

  abbrev language : Language
  language = language_of page.accepted.language

  abbrev context : RunContext
  context = language_context language (declared trees)

  -- the variables of the template under some data
  abbrev env : Value → RunEnv
  env v = input_env (names_of page.entry.template.params) v

  -- the files and the bundle deserve what they are accepted as, so the trees are typed, the translations fit them, and
  -- all paths of the trees are accepted
  deserved : DeserveFront page.contents parts.bundle page.accepted
  deserved = answered_deserved page.contents parts.bundle page.accepted parts.front

  formed : AreFormed trees
  formed = trees_formed page.contents page.accepted.files.trees deserved.files.have

  typed : AreTypedTrees trees
  typed = record { demands = deserved.files.demands; formed = formed }

  fitting : TranslationsFit language.translation (declared trees)
  fitting =
      (trees_fit (translation_of page.accepted.language.messages) 0 trees formed
      (language_fits parts.bundle page.accepted.files.rows page.accepted.language trees deserved.brings
      deserved.files.catalogue formed)).0

  accepted : AcceptedTrees language.translation trees
  accepted =
      accepted_when_walked page_machine page_compares (trees_plan language.translation trees) (walked [] [])
      page.accepted.walk deserved.walk

  member : IsMember page.entry (declared trees)
  member = is_member (declared trees) parts.number page.entry parts.found

  -- the data that were read fit the template
  read_fits : FitsData page.entry (env page.input)
  read_fits =
      having_fit page.entry page.input
      (read_have trees parts.number page.entry parts.json page.input typed.demands parts.found parts.reads) parts.short

  other_fits : (other : Value) → IsOtherData page other → FitsData page.entry (env other)
  other_fits other is = having_fit page.entry other is.have is.short

  -- both runs end whole, or at one call
  ends_alike : (other : Value) → IsOtherData page other
      → end_of_outcome (page_outcome page page.input) ≡ end_of_outcome (page_outcome page other)
  ends_alike other is =
      (typed_runs_alike context trees refl typed fitting page.entry (env page.input) (env other) member read_fits
      (other_fits other is) is.choices).ends

  pub markup_kept : MarkupIsKept page
  markup_kept other is = record {
    same = templates_same context trees refl typed fitting accepted page.entry member (env page.input) (env other)
        read_fits (other_fits other is) is.choices;
    inner_roles = template_roles context trees refl typed fitting accepted page.entry member (env page.input) read_fits;
    other_inner_roles = template_roles context trees refl typed fitting accepted page.entry member (env other)
        (other_fits other is);
    ends = ends_alike other is;
  }

  pub order_kept : OrderIsKept page
  order_kept html other is =
      let one = page_pieces page page.input in
      let two = page_pieces page other in
      let alike = subst (λ (k : Kind). PagesAlike (start k) one two) html
      (typed_pages context trees page.entry refl member typed fitting accepted (env page.input) (env other) read_fits
      (other_fits other is) is.choices) in
      record {
        same = λ direction. same_visual_order (page_lines direction page page.input) (page_lines direction page other)
            (bidi.page_lines direction one two alike);
        ends = ends_alike other is;
      }

  -- **an html page, taken as one text, is read without a fault**, as a preview asks
  pub page_one_text : page.entry.template.kind ≡ kind.Html → (last : State)
      × (after_piece (start kind.Html) (Static (joined_pieces (page_pieces page page.input))) ≡ Ok last)
  page_one_text html =
      template_text context trees refl typed fitting accepted page.entry member (env page.input) read_fits html

  -- and so are the characters of its bytes
  pub page_bytes : page.entry.template.kind ≡ kind.Html → (given : List ℕ) → IsUtf8 given → given ≡ page_text page
      → (last : State) × (after_piece (start kind.Html) (Static (chars given)) ≡ Ok last)
  page_bytes html given utf8 is =
      template_bytes context trees refl typed fitting accepted page.entry member (env page.input) read_fits html given
      utf8 is

-- **other data with the same choices give the same markup**
pub same_markup : (held : Option Files) (words : List Word) → IfSome (known_rendered held words) MarkupIsKept
same_markup held words =
    if_so (known_rendered held words) PageParts MarkupIsKept (rendered_parts held words) markup_kept

-- **and an html page the same visual order**
pub same_order : (held : Option Files) (words : List Word)
    → IfSome (known_rendered held words) OrderIsKept
same_order held words =
    if_so (known_rendered held words) PageParts OrderIsKept (rendered_parts held words) order_kept

-- **an html page, taken as one text, is read without a fault**
pub one_text : (held : Option Files) (words : List Word) → IfSome (known_rendered held words) IsOneText
one_text held words =
    if_so (known_rendered held words) PageParts IsOneText (rendered_parts held words)
    (λ page parts. record { characters = page_one_text page parts; bytes = page_bytes page parts })
