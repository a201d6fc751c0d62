-- What a translation gives stands where the walk says.
use Rattle.std.proofs.Common.{◌≡◌, ℕ, ◌+◌, ℤ, pos, Bool, true, false, List, [], ◌∷◌, ◌++◌, inl, inr, Option, Some}
use Rattle.std.proofs.Common.{None, refl, ap, arith}
use Rattle.std.specs.Prelude.{◌-ℤ◌, bytes_eq, codes, is_some, ◌&&◌, ◌||◌}
use Rattle.std.proofs.lemmas.Bool.{and_parts}
use Rattle.plural_rules.specs.Category.{is_same}
use Rattle.plural_rules.specs.declared.category.Category.{Category}
use Rattle.plural_rules.specs.declared.category.Category.TheVariants as category
use Rattle.soy_base.specs.declared.kind.Kind.{Kind}
use Rattle.soy_base.specs.declared.place.Place.{Place}
use Rattle.soy_base.specs.declared.place.ValueClass.TheVariants as class
use Rattle.soy_base.specs.Piece.{Piece}
use Rattle.soy_tree.specs.Expressions.{Expr}
use Rattle.soy_tree.specs.MessageParts.{MsgPart, MsgParts, ExactArms, NamedArms, SelectArms, TextPart, Placeholder}
use Rattle.soy_tree.specs.MessageParts.{NumberPart, PluralPart, SelectPart, no_part, part, no_exact_arm, exact_arm}
use Rattle.soy_tree.specs.MessageParts.{no_named_arm, named_arm, no_select_arm, select_arm}
use Rattle.soy_tree.specs.MessageText.{MessageItem, Character, Printed, Cut, TextCut, PrintCut, TagCut}
use Rattle.soy_rules.specs.Placeholders.{Use}
use Rattle.soy_rules.specs.Templates.{Declared}
use Rattle.soy_rules.specs.TypeOf.{Scope}
use Rattle.soy_rules.specs.Val.{is_same_int, val}
use Rattle.soy_tree.specs.Values as values
use Rattle.soy_tree.specs.Values.{IntValue}
use Rattle.soy_pieces.specs.Branch.{int_of, selector, word_of}
use Rattle.soy_meaning.specs.Paths.Filled.{filled_end, filled_pieces}
use Rattle.soy_meaning.specs.Walks.FourPoints.{AcceptedPaths}
use Rattle.soy_meaning.specs.Runs.GivenAt.{HasPlaceholderOf, cut_prints, tag_prints}
use Rattle.soy_meaning.specs.Walks.Holes.{hole_count}
use Rattle.soy_pieces.specs.Giving.{RunEnv, StateSoFar}
use Rattle.soy_pieces.specs.Outcome.{Outcome}
use Rattle.soy_meaning.specs.Walks.PageMachine.{page_machine}
use Rattle.soy_meaning.specs.Paths.PathParts.{empty_path}
use Rattle.soy_pieces.specs.Pieces.{RunContext, context_in}
use Rattle.soy_meaning.specs.Paths.Plan.{Plan, Hole, Then}
use Rattle.soy_pieces.specs.Site.{Site}
use Rattle.soy_meaning.specs.Paths.PlanOfParts.{cut_plan, exact_plans, named_plans, part_plan, parts_plan}
use Rattle.soy_rules.specs.Placeholders.{placeholder_cut}
use Rattle.soy_meaning.specs.Paths.PlanOfParts.{printed_classes, select_arm_plans, tag_plan, text_plan}
use Rattle.soy_meaning.specs.Walks.States.{IsMember}
use Rattle.soy_meaning.specs.Runs.TranslationFits.{exact_fit, has_other, has_other_word, named_fit, part_fits}
use Rattle.soy_meaning.specs.Runs.TranslationFits.{parts_fit}
use Rattle.soy_meaning.specs.Runs.TranslationFits.{select_fit}
use Rattle.soy_meaning.proofs.Runs.Goings.{HasClass}
use Rattle.soy_meaning.proofs.Members.{mem_left, mem_right}
use Rattle.soy_meaning.proofs.Runs.RunBindings.{val_runs}
use Rattle.template_ir.specs.HoleCounts.{exact_holes, part_holes, parts_holes}
use Rattle.template_ir.specs.Placed.{CutPlaced, ExactPlaced, NamedPlaced, PartPlaced, PartsPlaced, Picks}
use Rattle.template_ir.specs.Placed.{PrintPlaced, SelectedPlaced, TagPlaced, WordsPlaced}
use Rattle.template_ir.proofs.Counts.{all_holes, exact_count, part_count, parts_count, text_count}
use Rattle.template_ir.proofs.PlacedHoles.{AfterEach, Afterwards, AllGood, At, after_arms, after_then, print_placed}
use Rattle.template_ir.proofs.PlacedHoles.{text_placed, value_placed}
use Rattle.template_ir.proofs.SeenHoles.{AllSeen, Seen, all_at, all_split, arms_seen, first_seen, second_seen}
use Rattle.template_ir.proofs.SeenHoles.{seen_same}

pub picks : (t : Bool) (X Y : Type 0) → (t ≡ true → X) → Y → Picks t X Y
picks true X Y f y = f refl
picks false X Y f y = y

picks_first : (t : Bool) (X Y : Type 0) → X → (t ≡ false → Y) → Picks t X Y
picks_first true X Y x f = x
picks_first false X Y x f = f refl

or_second : (t u : Bool) → (t || u) ≡ true → t ≡ false → u ≡ true
or_second false u h e = h
or_second true u h e = let no : ⊥ = cc in absurd no

module _ (c : RunContext) (whole : Plan) (accepted : AcceptedPaths page_machine whole) (places : List Place)
    (called : Site → Declared → RunEnv → Outcome) (Opened : ℕ → RunEnv → Type 0) (of : Declared) (kind : Kind)
    (uses : List Use) (scope : Scope) (at : Site) (env : RunEnv) (good : AllGood c whole accepted places env)
    (has : (e : Expr) → HasPlaceholderOf uses e → HasClass (val e env) (printed_classes e scope)) where
  abbrev own : RunContext
  own = context_in c of

  abbrev SeenHere : Plan → List Piece → ℕ → Type 0
  SeenHere p before hole = Seen c.direction whole places kind p before hole

  abbrev AllHere : List Plan → List Piece → ℕ → Type 0
  AllHere ps before hole = AllSeen c.direction whole places kind ps before hole

  abbrev AfterHere : Plan → List Piece → (StateSoFar → Type 0) → Type 0
  AfterHere p before Next = Afterwards c whole accepted places kind p before Next

  abbrev AfterAll : List Plan → List Piece → (StateSoFar → Type 0) → Type 0
  AfterAll ps before Next = AfterEach c whole accepted places kind ps before Next

  abbrev Here : List Piece → StateSoFar
  Here before = At c whole accepted places kind before

  -- an expression that a placeholder prints
  printed_here : (e : Expr) → HasClass (val e env) (printed_classes e scope) → (before : List Piece) (hole : ℕ)
      → SeenHere (Hole at (printed_classes e scope)) before hole → (Next : StateSoFar → Type 0)
      → AfterHere (Hole at (printed_classes e scope)) before Next
      → PrintPlaced own places called Opened (val e env) hole (Here before) Next
  printed_here e fits before hole seen Next after =
      print_placed c whole accepted places called Opened of at (printed_classes e scope) kind before hole seen Next
      after
      (val e env) (val_runs c whole (Unit {0}) (λ at. Unit {0}) e env good) fits

  tag_placed : (text : List ℕ) (tag : List MessageItem)
      → ((e : Expr) → IsMember e (tag_prints tag) → HasClass (val e env) (printed_classes e scope))
      → (before : List Piece) (hole : ℕ) → SeenHere (tag_plan scope at text tag) before hole
      → (Next : StateSoFar → Type 0) → AfterHere (tag_plan scope at text tag) before Next
      → TagPlaced own places called Opened env text tag hole (Here before) Next
  tag_placed text [] fits before hole seen Next after =
      text_placed c whole accepted places at text kind before Next after
  tag_placed text (Character x span ∷ rest) fits before hole seen Next after =
      tag_placed (text ++ (x ∷ [])) rest fits before hole seen Next after
  tag_placed text (Printed e phname span ∷ rest) fits before hole seen Next after =
      let first : Plan = text_plan at text in
      let print : Plan = Hole at (printed_classes e scope) in
      let last : Plan = tag_plan scope at [] rest in
      let zero_ : hole_count first ≡ 0 = text_count at text in
      text_placed c whole accepted places at text kind before _
      (λ f fills path.
      let middle : List Piece = filled_pieces c.direction f kind before in
      let there : SeenHere (Then print last) middle hole =
      seen_same c.direction whole places kind (Then print last) middle (hole + hole_count first) hole
      (omega (arith, zero_)) (second_seen c.direction whole places kind first (Then print last) before hole seen f fills
      path) in
      let next : AfterHere (Then print last) middle Next =
      after_then c whole accepted places kind first (Then print last) before Next after f fills path in
      printed_here e (fits e (inl refl)) middle hole
      (first_seen c.direction whole places kind print last middle hole there) _
      (λ g more way. tag_placed [] rest (λ d member. fits d (inr member))
      (filled_pieces c.direction g kind middle) (hole + 1)
      (second_seen c.direction whole places kind print last middle hole there g more way) Next
      (after_then c whole accepted places kind print last middle Next next g more way)))

  cut_placed : (cut : Option Cut)
      → ((e : Expr) → IsMember e (cut_prints cut) → HasClass (val e env) (printed_classes e scope))
      → (before : List Piece) (hole : ℕ) → SeenHere (cut_plan scope at cut) before hole
      → (Next : StateSoFar → Type 0) → AfterHere (cut_plan scope at cut) before Next
      → CutPlaced own places called Opened env cut hole (Here before) Next
  cut_placed None fits before hole seen Next after = after filled_end tt empty_path
  cut_placed (Some (TextCut text)) fits before hole seen Next after = after filled_end tt empty_path
  cut_placed (Some (PrintCut e phname span)) fits before hole seen Next after =
      printed_here e (fits e (inl refl)) before hole seen Next after
  cut_placed (Some (TagCut tag)) fits before hole seen Next after =
      tag_placed [] tag fits before hole seen Next after

  selected_placed : (found : Option Expr) → is_some found ≡ true → (Arms : values.Value → Type 0) (Next : Type 0)
      → ((v : values.Value) → Arms v) → SelectedPlaced own places called Opened env found Arms Next
  selected_placed None there Arms Next arms = let no : ⊥ = cc in absurd no
  selected_placed (Some e) there Arms Next arms = arms _

  mutual
    part_placed : (p : MsgPart) → part_fits uses p ≡ true → (n : ℤ) (before : List Piece) (hole : ℕ)
        → SeenHere (part_plan uses scope at p) before hole → (Next : StateSoFar → Type 0)
        → AfterHere (part_plan uses scope at p) before Next
        → PartPlaced own places called Opened uses env p hole n (Here before) Next
    part_placed (TextPart text) fits n before hole seen Next after =
        text_placed c whole accepted places at text kind before Next after
    part_placed (Placeholder name) fits n before hole seen Next after =
        cut_placed (placeholder_cut name uses uses) (λ e member. has e (name, member)) before hole seen Next after
    part_placed NumberPart fits n before hole seen Next after =
        value_placed c whole accepted places called Opened of at (class.Int ∷ []) kind before hole seen Next after
        (IntValue n) (inl refl)
    part_placed (PluralPart ordinal name offset exact named) fits n before hole seen Next after =
        let parts = and_parts (is_some (selector true name uses uses) && has_other named) (exact_fit uses exact
        && named_fit uses named) fits in
        let head = and_parts (is_some (selector true name uses uses)) (has_other named) parts.0 in
        let rest = and_parts (exact_fit uses exact) (named_fit uses named) parts.1 in
        let ones : List Plan = exact_plans uses scope at exact in
        let others : List Plan = named_plans uses scope at named in
        let all : AllHere (ones ++ others) before hole =
        arms_seen c.direction whole places kind at (ones ++ others) before hole seen in
        let each : AfterAll (ones ++ others) before Next =
        after_arms c whole accepted places kind at (ones ++ others) before Next after in
        let split = all_split c.direction whole places kind ones others before hole all in
        let named_seen : AllHere others before (hole + exact_holes uses exact) =
        all_at c.direction whole places kind others before (hole + all_holes ones) (hole + exact_holes uses exact)
        (ap (λ k. hole + k) (exact_count uses scope at exact)) split.1 in
        let named_after : AfterAll others before Next = λ p member. each p (mem_right p ones others member) in
        selected_placed (selector true name uses uses) head.0 _ (Next (Here before))
        (λ v. exact_placed exact rest.0 (int_of v) (int_of v -ℤ pos offset) before hole split.0 Next
        (λ p member. each p (mem_left p ones others member)) _
        (named_placed named rest.1 (own.category ordinal (int_of v -ℤ pos offset)) (int_of v -ℤ pos offset) before
        (hole + exact_holes uses exact) named_seen Next named_after _
        (other_placed named head.1 rest.1 (int_of v -ℤ pos offset) before (hole + exact_holes uses exact) named_seen
        Next named_after _)))
    part_placed (SelectPart name arms) fits n before hole seen Next after =
        let parts = and_parts (is_some (selector false name uses uses) && has_other_word arms) (select_fit uses arms)
        fits in
        let head = and_parts (is_some (selector false name uses uses)) (has_other_word arms) parts.0 in
        let ps : List Plan = select_arm_plans uses scope at arms in
        let all : AllHere ps before hole = arms_seen c.direction whole places kind at ps before hole seen in
        let each : AfterAll ps before Next = after_arms c whole accepted places kind at ps before Next after in
        selected_placed (selector false name uses uses) head.0 _ (Next (Here before))
        (λ v. words_placed arms parts.1 (word_of v) before hole all Next each _
        (last_word arms head.1 parts.1 before hole all Next each _))

    pub parts_placed : (ps : MsgParts) → parts_fit uses ps ≡ true → (n : ℤ) (before : List Piece) (hole : ℕ)
        → SeenHere (parts_plan uses scope at ps) before hole → (Next : StateSoFar → Type 0)
        → AfterHere (parts_plan uses scope at ps) before Next
        → PartsPlaced own places called Opened uses env ps hole n (Here before) Next
    parts_placed no_part fits n before hole seen Next after = after filled_end tt empty_path
    parts_placed (part p ps) fits n before hole seen Next after =
        let fit = and_parts (part_fits uses p) (parts_fit uses ps) fits in
        let one : Plan = part_plan uses scope at p in
        let two : Plan = parts_plan uses scope at ps in
        part_placed p fit.0 n before hole (first_seen c.direction whole places kind one two before hole seen) _
        (λ f fills path. parts_placed ps fit.1 n (filled_pieces c.direction f kind before) (hole + part_holes uses p)
        (seen_same c.direction whole places kind two (filled_pieces c.direction f kind before) (hole + hole_count one)
        (hole + part_holes uses p) (ap (λ k. hole + k) (part_count uses scope at p))
        (second_seen c.direction whole places kind one two before hole seen f fills path)) Next
        (after_then c whole accepted places kind one two before Next after f fills path))

    exact_placed : (arms : ExactArms) → exact_fit uses arms ≡ true → (n rest : ℤ) (before : List Piece) (hole : ℕ)
        → AllHere (exact_plans uses scope at arms) before hole → (Next : StateSoFar → Type 0)
        → AfterAll (exact_plans uses scope at arms) before Next → (Last : Type 0) → Last
        → ExactPlaced own places called Opened uses env n rest arms hole (Here before) Next Last
    exact_placed no_exact_arm fits n rest before hole seen Next after Last last = last
    exact_placed (exact_arm m ps arms) fits n rest before hole seen Next after Last last =
        let fit = and_parts (parts_fit uses ps) (exact_fit uses arms) fits in
        picks (is_same_int m n) _ _
        (λ holds. parts_placed ps fit.0 rest before hole seen.0 Next (after (parts_plan uses scope at ps) (inl refl)))
        (exact_placed arms fit.1 n rest before (hole + parts_holes uses ps)
        (all_at c.direction whole places kind (exact_plans uses scope at arms) before
        (hole + hole_count (parts_plan uses scope at ps)) (hole + parts_holes uses ps)
        (ap (λ k. hole + k) (parts_count uses scope at ps)) seen.1) Next (λ p member. after p (inr member)) Last last)

    named_placed : (arms : NamedArms) → named_fit uses arms ≡ true → (wanted : Category) (rest : ℤ)
        (before : List Piece) (hole : ℕ) → AllHere (named_plans uses scope at arms) before hole
        → (Next : StateSoFar → Type 0) → AfterAll (named_plans uses scope at arms) before Next → (Last : Type 0) → Last
        → NamedPlaced own places called Opened uses env wanted rest arms hole (Here before) Next Last
    named_placed no_named_arm fits wanted rest before hole seen Next after Last last = last
    named_placed (named_arm k ps arms) fits wanted rest before hole seen Next after Last last =
        let fit = and_parts (parts_fit uses ps) (named_fit uses arms) fits in
        picks (is_same k wanted) _ _
        (λ holds. parts_placed ps fit.0 rest before hole seen.0 Next (after (parts_plan uses scope at ps) (inl refl)))
        (named_placed arms fit.1 wanted rest before (hole + parts_holes uses ps)
        (all_at c.direction whole places kind (named_plans uses scope at arms) before
        (hole + hole_count (parts_plan uses scope at ps)) (hole + parts_holes uses ps)
        (ap (λ k. hole + k) (parts_count uses scope at ps)) seen.1) Next (λ p member. after p (inr member)) Last last)

    -- of arms with the arm other
    other_placed : (arms : NamedArms) → has_other arms ≡ true → named_fit uses arms ≡ true → (rest : ℤ)
        (before : List Piece) (hole : ℕ) → AllHere (named_plans uses scope at arms) before hole
        → (Next : StateSoFar → Type 0) → AfterAll (named_plans uses scope at arms) before Next → (Last : Type 0)
        → NamedPlaced own places called Opened uses env category.Other rest arms hole (Here before) Next Last
    other_placed no_named_arm there fits rest before hole seen Next after Last = let no : ⊥ = cc in absurd no
    other_placed (named_arm k ps arms) there fits rest before hole seen Next after Last =
        let fit = and_parts (parts_fit uses ps) (named_fit uses arms) fits in
        picks_first (is_same k category.Other) _ _
        (parts_placed ps fit.0 rest before hole seen.0 Next (after (parts_plan uses scope at ps) (inl refl)))
        (λ fails. other_placed arms (or_second (is_same k category.Other) (has_other arms) there fails) fit.1 rest
        before (hole + parts_holes uses ps)
        (all_at c.direction whole places kind (named_plans uses scope at arms) before
        (hole + hole_count (parts_plan uses scope at ps)) (hole + parts_holes uses ps)
        (ap (λ k. hole + k) (parts_count uses scope at ps)) seen.1) Next (λ p member. after p (inr member)) Last)

    words_placed : (arms : SelectArms) → select_fit uses arms ≡ true → (word : List ℕ) (before : List Piece)
        (hole : ℕ) → AllHere (select_arm_plans uses scope at arms) before hole → (Next : StateSoFar → Type 0)
        → AfterAll (select_arm_plans uses scope at arms) before Next → (Last : Type 0) → Last
        → WordsPlaced own places called Opened uses env word arms hole (Here before) Next Last
    words_placed no_select_arm fits word before hole seen Next after Last last = last
    words_placed (select_arm is ps arms) fits word before hole seen Next after Last last =
        let fit = and_parts (parts_fit uses ps) (select_fit uses arms) fits in
        picks (bytes_eq is word) _ _
        (λ holds. parts_placed ps fit.0 (pos 0) before hole seen.0 Next
        (after (parts_plan uses scope at ps) (inl refl)))
        (words_placed arms fit.1 word before (hole + parts_holes uses ps)
        (all_at c.direction whole places kind (select_arm_plans uses scope at arms) before
        (hole + hole_count (parts_plan uses scope at ps)) (hole + parts_holes uses ps)
        (ap (λ k. hole + k) (parts_count uses scope at ps)) seen.1) Next (λ p member. after p (inr member)) Last last)

    last_word : (arms : SelectArms) → has_other_word arms ≡ true → select_fit uses arms ≡ true
        → (before : List Piece) (hole : ℕ) → AllHere (select_arm_plans uses scope at arms) before hole
        → (Next : StateSoFar → Type 0) → AfterAll (select_arm_plans uses scope at arms) before Next → (Last : Type 0)
        → WordsPlaced own places called Opened uses env (codes "other") arms hole (Here before) Next Last
    last_word no_select_arm there fits before hole seen Next after Last = let no : ⊥ = cc in absurd no
    last_word (select_arm is ps arms) there fits before hole seen Next after Last =
        let fit = and_parts (parts_fit uses ps) (select_fit uses arms) fits in
        picks_first (bytes_eq is (codes "other")) _ _
        (parts_placed ps fit.0 (pos 0) before hole seen.0 Next (after (parts_plan uses scope at ps) (inl refl)))
        (λ fails. last_word arms (or_second (bytes_eq is (codes "other")) (has_other_word arms) there fails) fit.1
        before (hole + parts_holes uses ps)
        (all_at c.direction whole places kind (select_arm_plans uses scope at arms) before
        (hole + hole_count (parts_plan uses scope at ps)) (hole + parts_holes uses ps)
        (ap (λ k. hole + k) (parts_count uses scope at ps)) seen.1) Next (λ p member. after p (inr member)) Last)
