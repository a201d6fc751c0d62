-- One static character at any state: two pages that know the value of an attribute apart, as its name isn't `dir`, give
-- the same tokens and know the same after it but for such a value.
use Rattle.std.proofs.Common.{◌≡◌, ◌⊎◌, ℕ, true, ◌==◌, inl, inr, List, refl, sym, ap, subst, ◌∙◌, Result, Ok, Err}
use Rattle.std.proofs.lemmas.Bool.{cases_Bool, both_ways}
use Rattle.soy_base.specs.Characters.{ampersand}
use Rattle.soy_base.specs.declared.code.Code.{Code}
use Rattle.html_state.specs.Next.{begun_reference, has_references, is_decided, next}
use Rattle.html_state.specs.declared.row.HtmlRow.{HtmlRow}
use Rattle.html_state.specs.declared.row.Reference.{Reference}
use Rattle.html_state.specs.declared.row.State.{State}
use Rattle.stable_bidi.proofs.KnownPage.{Good, IsPending, Known}
use Rattle.stable_bidi.proofs.NextStates.{NextIs, next_is}
use Rattle.stable_bidi.proofs.NextStates.NextIs.{Moved, Stayed}
use Rattle.stable_bidi.proofs.PendingReferences.{and_no, pending_next}
use Rattle.stable_bidi.proofs.RowReads.{RowStep}
use Rattle.stable_bidi.proofs.RowSteps.{row_stays, row_steps}

-- a row to which a character moves has decided, or a reference may be pending in it
decided_next : (now : HtmlRow) (r : Reference) (c : ℕ) → r ≡ begun_reference now c
    → (is_decided r ≡ true) ⊎ (has_references now ≡ true)
decided_next now r c is =
    elim (cases_Bool (has_references now)) [
      | inl has ↦ inr has
      | inr none ↦ inl (ap is_decided is ∙ rw (none, and_no (c == ampersand)) refl)
    ]

-- a step of the row, and what both pages know at the state after it
pub record CharacterRead (s u : State) (c : ℕ) (k : Known) (x y : List ℕ) : Type 0 where
  pub step : RowStep s s.row u.row c k x y
  pub good : Good u step.next step.x_after step.y_after

-- a step of the row where a character is no fault
abbrev StepOn : State → ℕ → Known → List ℕ → List ℕ → Result HtmlRow Code → Type 0
StepOn s c k x y (Ok after) = RowStep s s.row after c k x y
StepOn s c k x y (Err fault) = Unit {0}

-- a static character that is no fault
pub character_step : (s u : State) (c : ℕ) (k : Known) (x y : List ℕ) → Good s k x y → next s c ≡ Ok u
    → CharacterRead s u c k x y
character_step s u c k x y good moves = by (next_is s u c moves)
  where
    finished : (step : RowStep s s.row u.row c k x y) → (is_decided u.reference ≡ true) ⊎ (has_references u.row ≡ true)
        → CharacterRead s u c k x y
    finished step decided = record {
      step = step;
      good = record {
        at = step.at;
        opened = step.opened;
        pending = subst (IsPending u.row u.reference) (sym step.pending)
            (pending_next s u k.reference c good.pending good.decided moves);
        decided = decided;
      };
    }

    by : NextIs s.row s.reference c u → CharacterRead s u c k x y
    by (Moved row_is reference_is) =
        finished (subst (StepOn s c k x y) row_is (row_steps s c k x y s.row good.at good.opened))
        (decided_next u.row u.reference c reference_is)
    by (Stayed row_is undecided) =
        elim good.decided [
          | inl decided ↦ absurd (both_ways _ undecided decided)
          | inr has ↦ finished (subst (λ r. RowStep s s.row r c k x y) (sym row_is)
              (row_stays s c k x y s.row good.at good.opened has))
              (inr (ap has_references row_is ∙ has))
        ]
