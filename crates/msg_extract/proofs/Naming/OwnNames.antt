-- The parts of a message's source name what the message has.
use Rattle.std.proofs.Common.{◌≡◌, ℕ, ℤ, ◌==◌, Bool, true, false, ◌||◌, List, [], ◌∷◌, ◌++◌, Option, Some, None}
use Rattle.std.proofs.Common.{refl, sym, ap, ◌∙◌}
use Rattle.std.proofs.Common.{arith, bytes_eq, subst}
use Rattle.std.specs.Prelude.{codes, if◌then◌else◌}
use Rattle.std.specs.Option.{option_or}
use Rattle.std.proofs.lemmas.Bool.Decides.{nat_tests}
use Rattle.plural_rules.specs.Category.{is_same}
use Rattle.plural_rules.specs.declared.category.Category.{Category}
use Rattle.plural_rules.specs.declared.category.Category.TheVariants as category
use Rattle.soy_base.specs.Among.{is_among}
use Rattle.soy_base.specs.declared.fault.Span.{Span}
use Rattle.soy_base.specs.declared.code.Code.{Code}
use Rattle.soy_base.specs.declared.code.Code.TheVariants as code
use Rattle.soy_tree.specs.Types.{Name}
use Rattle.soy_tree.specs.Nodes.{Message, MessageBody, PluralCases, SelectCases, Parts, Plural, Select, no_plural_case}
use Rattle.soy_tree.specs.Nodes.{plural_case, no_select_case, select_case, message}
use Rattle.soy_tree.specs.MessageText.{Cut, TextCut, PrintCut, TagCut, cuts_of, message_items}
use Rattle.soy_tree.specs.MessageParts.{MsgParts, TextPart, Placeholder, NumberPart, PluralPart, SelectPart, no_part}
use Rattle.soy_tree.specs.MessageParts.{part}
use Rattle.soy_rules.specs.BaseNames.{base_of_expr}
use Rattle.soy_rules.specs.Placeholders.{Role, Use, AsPlaceholder, AsPlural, AsSelect, ExprContent, body_uses, cut_uses}
use Rattle.soy_rules.specs.Placeholders.{found_uses, name_of, plural_uses, select_uses}
use Rattle.soy_rules.specs.IcuText.{Key, Exact, Named, exact_arms, is_int_among, named_arms, select_arms, with_text}
use Rattle.std.specs.List.{list_any}
use Rattle.msg_extract.specs.Catalogue.{is_of_kind, listed, names_after, with_name}
use Rattle.msg_extract.specs.Fits.{exact_fault, named_fault, part_fault, parts_fault, select_fault, unless_among}
use Rattle.msg_extract.specs.Canonical.SourceParts.{body_parts, cut_parts, found_parts, plural_case_parts}
use Rattle.msg_extract.specs.Canonical.SourceParts.{select_case_parts}
use Rattle.msg_extract.specs.Canonical.CanonicalText.{text_of_items}
use Rattle.msg_extract.specs.declared.catalogue.Listed.{Listed}
use Rattle.msg_extract.specs.declared.role_names.NameKind.{NameKind}
use Rattle.msg_extract.specs.declared.role_names.NameKind.TheVariants as kind
use Rattle.msg_extract.proofs.JoinedTests.{holds_or}

-- names that are added stay

number_same : (n : ℕ) → (n == n) ≡ true
number_same n = grind (arith, nat_tests)

text_same : (text : List ℕ) → bytes_eq text text ≡ true
text_same [] = refl
text_same (c ∷ cs) = rw (number_same c, text_same cs) refl

among_behind : (names more : List Name) (name : Name) → is_among names name ≡ true
    → is_among (names ++ more) name ≡ true
among_behind [] more name h = absurd (cc h)
among_behind (n ∷ names) more name h = first (bytes_eq name n) (is_among names name) h (among_behind names more name)
  where
    first : (a b : Bool) → (a || b) ≡ true → (b ≡ true → is_among (names ++ more) name ≡ true)
        → (a || is_among (names ++ more) name) ≡ true
    first true b h on = refl
    first false b h on = on h

among_last : (names : List Name) (name : Name) → is_among (names ++ (name ∷ [])) name ≡ true
among_last [] name = rw (text_same name) refl
among_last (n ∷ names) name = either (bytes_eq name n) (among_last names name)
  where
    either : (a : Bool) {b : Bool} → b ≡ true → (a || b) ≡ true
    either true h = refl
    either false h = h

with_name_has : (names : List Name) (name : Name) → is_among (with_name names name) name ≡ true
with_name_has names name =
    holds_or _ (is_among names name) (λ h. rw h h) (λ h. rw h (among_last names name))

with_name_keeps : (names : List Name) (name other : Name) → is_among names other ≡ true
    → is_among (with_name names name) other ≡ true
with_name_keeps names name other h =
    holds_or _ (is_among names name) (λ e. rw e h) (λ e. rw e (among_behind names (name ∷ []) other h))

module _ (of : NameKind) (all : List Use) where
  abbrev step : List Name → Use → List Name
  step names u = if is_of_kind of u.role then with_name names (name_of all u.base u.content) else names

  step_keeps : (names : List Name) (u : Use) (other : Name) → is_among names other ≡ true
      → is_among (step names u) other ≡ true
  step_keeps names u other h =
      holds_or _ (is_of_kind of u.role)
      (λ e. rw e (with_name_keeps names (name_of all u.base u.content) other h)) (λ e. rw e h)

  after_keeps : (names : List Name) (uses : List Use) (other : Name) → is_among names other ≡ true
      → is_among (names_after of all names uses) other ≡ true
  after_keeps names [] other h = h
  after_keeps names (u ∷ uses) other h = after_keeps (step names u) uses other (step_keeps names u other h)

  step_has : (names : List Name) (u : Use) → is_of_kind of u.role ≡ true
      → is_among (step names u) (name_of all u.base u.content) ≡ true
  step_has names u e = rw e (with_name_has names (name_of all u.base u.content))

  after_has : (names : List Name) (u : Use) (uses : List Use) → is_of_kind of u.role ≡ true
      → is_among (names_after of all names (u ∷ uses)) (name_of all u.base u.content) ≡ true
  after_has names u uses e = after_keeps (step names u) uses (name_of all u.base u.content) (step_has names u e)

-- whether uses name what the source has

abbrev role_fault : Listed → Role → Name → Option Code
role_fault source (AsPlaceholder cut) name = unless_among source.placeholders name code.Placeholder
role_fault source (AsPlural e) name = unless_among source.plurals name code.Selector
role_fault source (AsSelect e) name = unless_among source.selects name code.Selector

abbrev AreNamed : Listed → List Use → List Use → Type 0
AreNamed source all [] = Unit {0}
AreNamed source all (u ∷ us) =
    (role_fault source u.role (name_of all u.base u.content) ≡ None) × AreNamed source all us

all_named : (source : Listed) (all us : List Use) (p l s : List Name)
    → source.placeholders ≡ names_after kind.Placeholder all p us
    → source.plurals ≡ names_after kind.Plural all l us
    → source.selects ≡ names_after kind.Select all s us
    → AreNamed source all us
all_named source all [] p l s e f g = tt
all_named source all (u ∷ us) p l s e f g = (
  here u.role refl,
  all_named source all us (step kind.Placeholder all p u) (step kind.Plural all l u) (step kind.Select all s u) e f g,
)
  where
    among : (names : List Name) (name : Name) (fault : Code) → is_among names name ≡ true
        → unless_among names name fault ≡ None
    among names name fault h = rw h refl

    here : (r : Role) → u.role ≡ r → role_fault source r (name_of all u.base u.content) ≡ None
    here (AsPlaceholder cut) is = among source.placeholders (name_of all u.base u.content) code.Placeholder
        (rw e (after_has kind.Placeholder all p u us (rw is refl)))
    here (AsPlural x) is = among source.plurals (name_of all u.base u.content) code.Selector
        (rw f (after_has kind.Plural all l u us (rw is refl)))
    here (AsSelect x) is = among source.selects (name_of all u.base u.content) code.Selector
        (rw g (after_has kind.Select all s u us (rw is refl)))

module _ (source : Listed) (all : List Use) where
  named_left : (us vs : List Use) → AreNamed source all (us ++ vs) → AreNamed source all us
  named_left [] vs h = tt
  named_left (u ∷ us) vs h = (h.0, named_left us vs h.1)

  named_right : (us vs : List Use) → AreNamed source all (us ++ vs) → AreNamed source all vs
  named_right [] vs h = h
  named_right (u ∷ us) vs h = named_right us vs h.1

  both_none : (x y : Option Code) → x ≡ None → y ≡ None → option_or x y ≡ None
  both_none x y e f = rw (e, f) refl

  text_fault : (text : List ℕ) (ps : MsgParts) → parts_fault source (with_text text ps) ≡ parts_fault source ps
  text_fault [] ps = refl
  text_fault (c ∷ cs) no_part = refl
  text_fault (c ∷ cs) (part (TextPart text) ps) = refl
  text_fault (c ∷ cs) (part (Placeholder name) ps) = refl
  text_fault (c ∷ cs) (part NumberPart ps) = refl
  text_fault (c ∷ cs) (part (PluralPart ordinal name by exact named) ps) = refl
  text_fault (c ∷ cs) (part (SelectPart name arms) ps) = refl

  cuts_fault : (cuts : List Cut) → AreNamed source all (cut_uses cuts)
      → parts_fault source (cut_parts all cuts) ≡ None
  cuts_fault [] h = refl
  cuts_fault (TextCut items ∷ cuts) h = text_fault (text_of_items items) (cut_parts all cuts) ∙ cuts_fault cuts h
  cuts_fault (PrintCut e phname span ∷ cuts) h = both_none _ _ h.0 (cuts_fault cuts h.1)
  cuts_fault (TagCut tag ∷ cuts) h = both_none _ _ h.0 (cuts_fault cuts h.1)

  found_fault : (found : Option (List Cut)) → AreNamed source all (found_uses found)
      → parts_fault source (found_parts all found) ≡ None
  found_fault None h = refl
  found_fault (Some cuts) h = cuts_fault cuts h

  abbrev AreFine : {K : Type 0} → List (K × MsgParts) → Type 0
  AreFine [] = Unit {0}
  AreFine (arm ∷ arms) = (parts_fault source arm.1 ≡ None) × AreFine arms

  with_last : {K : Type 0} (arms : List (K × MsgParts)) (arm : K × MsgParts) → AreFine arms
      → parts_fault source arm.1 ≡ None → AreFine (arms ++ (arm ∷ []))
  with_last [] arm h last = (last, tt)
  with_last (a ∷ arms) arm h last = (h.0, with_last arms arm h.1 last)

  exact_fine : (before : List ℤ) (arms : List (Key × MsgParts)) → AreFine arms
      → exact_fault source (exact_arms before arms) ≡ None
  exact_fine before [] h = refl
  exact_fine before ((Exact n, ps) ∷ arms) h =
      holds_or _ (is_int_among n before) (λ e. rw e (exact_fine before arms h.1))
      (λ e. rw e (both_none _ _ h.0 (exact_fine (n ∷ before) arms h.1)))
  exact_fine before ((Named c, ps) ∷ arms) h = exact_fine before arms h.1

  named_fine : (before : List Category) (arms : List (Key × MsgParts)) → AreFine arms
      → named_fault source (named_arms before arms) ≡ None
  named_fine before [] h = refl
  named_fine before ((Exact n, ps) ∷ arms) h = named_fine before arms h.1
  named_fine before ((Named c, ps) ∷ arms) h =
      holds_or _ (list_any (is_same c) before) (λ e. rw e (named_fine before arms h.1))
      (λ e. rw e (both_none _ _ h.0 (named_fine (c ∷ before) arms h.1)))

  select_fine : (before : List (List ℕ)) (arms : List (List ℕ × MsgParts)) → AreFine arms
      → select_fault source (select_arms before arms) ≡ None
  select_fine before [] h = refl
  select_fine before (arm ∷ arms) h =
      holds_or _ (list_any (bytes_eq arm.0) before) (λ e. rw e (select_fine before arms h.1))
      (λ e. rw e (both_none _ _ h.0 (select_fine (arm.0 ∷ before) arms h.1)))

  alone : (x : Option Code) → x ≡ None → option_or x None ≡ None
  alone x e = rw e refl

  mutual
    body_fault : (body : MessageBody) → AreNamed source all (body_uses body)
        → parts_fault source (body_parts all body) ≡ None
    body_fault (Parts ns) h = found_fault (cuts_of (message_items ns)) h
    body_fault (Plural e offset cases other) h =
        let fine = with_last (plural_case_parts all cases) (Named category.Other, body_parts all other)
        (plural_fine cases (named_left (plural_uses cases) (body_uses other) h.1))
        (body_fault other (named_right (plural_uses cases) (body_uses other) h.1)) in
        alone _ (both_none _ _ h.0 (both_none _ _
        (exact_fine [] (plural_case_parts all cases ++ (Named category.Other, body_parts all other) ∷ []) fine)
        (named_fine [] (plural_case_parts all cases ++ (Named category.Other, body_parts all other) ∷ []) fine)))
    body_fault (Select e cases other) h =
        let fine = with_last (select_case_parts all cases) (codes "other", body_parts all other)
        (select_fine_cases cases (named_left (select_uses cases) (body_uses other) h.1))
        (body_fault other (named_right (select_uses cases) (body_uses other) h.1)) in
        alone _ (both_none _ _ h.0
        (select_fine [] (select_case_parts all cases ++ (codes "other", body_parts all other) ∷ []) fine))

    plural_fine : (cases : PluralCases) → AreNamed source all (plural_uses cases)
        → AreFine (plural_case_parts all cases)
    plural_fine no_plural_case h = tt
    plural_fine (plural_case n body cases) h = (
      body_fault body (named_left (body_uses body) (plural_uses cases) h),
      plural_fine cases (named_right (body_uses body) (plural_uses cases) h),
    )

    select_fine_cases : (cases : SelectCases) → AreNamed source all (select_uses cases)
        → AreFine (select_case_parts all cases)
    select_fine_cases no_select_case h = tt
    select_fine_cases (select_case word body cases) h = (
      body_fault body (named_left (body_uses body) (select_uses cases) h),
      select_fine_cases cases (named_right (body_uses body) (select_uses cases) h),
    )

-- a message's own parts name what it has
pub own_names : (desc meaning : List ℕ) (body : MessageBody) (span : Span)
    → parts_fault (listed (message desc meaning body span)) (body_parts (body_uses body) body) ≡ None
own_names desc meaning body span =
    body_fault (listed (message desc meaning body span)) (body_uses body) body
    (all_named (listed (message desc meaning body span)) (body_uses body) (body_uses body) [] [] [] refl refl refl)
