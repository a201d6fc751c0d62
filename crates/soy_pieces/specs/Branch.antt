-- What a translation gives: the branch that data choose.
--
-- A plural takes the arm of its number, else the arm of the category of the number without the offset, else the arm
-- other; `#` is the number without the offset. A select takes the arm of its word, else the arm other. A selector is
-- valued once. A placeholder gives the print, or the texts and prints of the tag, that it stands for in the source.
-- Example: in `{N, plural, offset:1 =1 {you} other {you and #}}` the number 3 gives `you and ` and the value 2.
use Rattle.std.specs.Prelude.{ℕ, ◌+◌, ℤ, pos, ◌-ℤ◌, Bool, true, false, List, [], ◌∷◌, ◌++◌, Option, Some, None}
use Rattle.std.specs.Prelude.{if◌then◌else◌, bytes_eq, codes}
use Rattle.std.specs.Option.{option_or}
use Rattle.soy_base.specs.declared.direction.Dir.{Dir}
use Rattle.plural_rules.specs.Category.{is_same}
use Rattle.plural_rules.specs.declared.category.Category.{Category}
use Rattle.plural_rules.specs.declared.category.Category.TheVariants as category
use Rattle.soy_tree.specs.Types.{Name}
use Rattle.soy_tree.specs.Values.{Value, IntValue, StringValue}
use Rattle.soy_rules.specs.Val.{is_same_int, operand, val}
use Rattle.soy_rules.specs.Cost.{cost}
use Rattle.soy_tree.specs.Expressions.{Expr}
use Rattle.soy_tree.specs.MessageText.{MessageItem, Character, Printed, Cut, PrintCut, TagCut}
use Rattle.soy_rules.specs.Placeholders.{Role, AsPlural, AsSelect, Use, name_of}
use Rattle.soy_tree.specs.MessageParts.{MsgPart, MsgParts, ExactArms, NamedArms, SelectArms, TextPart, Placeholder}
use Rattle.soy_tree.specs.MessageParts.{NumberPart, PluralPart, SelectPart, no_part, part, no_exact_arm, exact_arm}
use Rattle.soy_tree.specs.MessageParts.{no_named_arm, named_arm, no_select_arm, select_arm}
use Rattle.soy_pieces.specs.Giving.{Means, RunEnv, printed_means, text_means, value_means, with_choice}
use Rattle.soy_pieces.specs.Giving.{with_cost}
use Rattle.soy_pieces.specs.Outcome.{ArmTaken}
use Rattle.soy_rules.specs.Placeholders.{placeholder_cut}

-- ---- selectors

abbrev pub selector_of_role : Bool → Role → Option Expr
selector_of_role of_plural (AsPlural e) = if of_plural then Some e else None
selector_of_role of_plural (AsSelect e) = if of_plural then None else Some e
selector_of_role of_plural _ = None

-- the selector of this name, of a plural or of a select
abbrev pub selector : Bool → Name → List Use → List Use → Option Expr
selector of_plural name all [] = None
selector of_plural name all (u ∷ uses) =
    if bytes_eq (name_of all u.base u.content) name
    then option_or (selector_of_role of_plural u.role) (selector of_plural name all uses)
    else selector of_plural name all uses

abbrev pub int_of : Value → ℤ
int_of (IntValue n) = n
int_of _ = pos 0

abbrev pub word_of : Value → List ℕ
word_of (StringValue word) = word
word_of _ = []

-- ---- the arm that is chosen, by its number from 0

abbrev pub PartMeans : Type 0
PartMeans = ℤ → Means

abbrev pub exact_of : ℤ → ℕ → List (ℤ × PartMeans) → Option (ℕ × PartMeans)
exact_of n k [] = None
exact_of n k (row ∷ rows) = if is_same_int row.0 n then Some (k, row.1) else exact_of n (k + 1) rows

abbrev pub named_of : Category → ℕ → List (Category × PartMeans) → Option (ℕ × PartMeans)
named_of wanted k [] = None
named_of wanted k (row ∷ rows) = if is_same row.0 wanted then Some (k, row.1) else named_of wanted (k + 1) rows

abbrev pub select_of : List ℕ → ℕ → List (List ℕ × PartMeans) → Option (ℕ × PartMeans)
select_of word k [] = None
select_of word k (row ∷ rows) = if bytes_eq row.0 word then Some (k, row.1) else select_of word (k + 1) rows

abbrev pub arm_means : Option (ℕ × PartMeans) → PartMeans
arm_means None n so_far next = next so_far
arm_means (Some arm) n so_far next = with_choice (ArmTaken (Some arm.0)) (arm.1 n so_far next)

abbrev pub row_count : {A : Type 0} → List A → ℕ
row_count [] = 0
row_count (row ∷ rows) = 1 + row_count rows

-- ---- parts

-- the direction of the bundle, and the category of a number by its rules, for ordinals or for counts
module _ (context : Dir) (category_of : Bool → ℤ → Category) (uses : List Use) (env : RunEnv) where
  abbrev pub print_means : Expr → Means
  print_means e so_far next = with_cost (cost e env) (printed_means context (val e env) so_far next)

  -- the texts and prints of a tag, behind this text
  abbrev pub tag_means : List ℕ → List MessageItem → Means
  tag_means text [] so_far next = text_means text so_far next
  tag_means text (Character c span ∷ rest) so_far next = tag_means (text ++ (c ∷ [])) rest so_far next
  tag_means text (Printed e phname span ∷ rest) so_far next =
      text_means text so_far (λ now. print_means e now (λ after. tag_means [] rest after next))

  abbrev pub cut_means : Option Cut → Means
  cut_means (Some (PrintCut e phname span)) = print_means e
  cut_means (Some (TagCut tag)) = tag_means [] tag
  cut_means _ = λ so_far next. next so_far

  abbrev pub plural_means : Bool → Option Expr → ℕ → List (ℤ × PartMeans) → List (Category × PartMeans) → Means
  plural_means ordinal None offset exact named so_far next = next so_far
  plural_means ordinal (Some e) offset exact named so_far next =
      let n : ℤ = int_of (operand (val e env)) in
      let rest : ℤ = n -ℤ pos offset in
      let by_category : Option (ℕ × PartMeans) =
      option_or (named_of (category_of ordinal rest) (row_count exact) named)
      (named_of category.Other (row_count exact) named) in
      with_cost (cost e env) (arm_means (option_or (exact_of n 0 exact) by_category) rest so_far next)

  abbrev pub select_means : Option Expr → List (List ℕ × PartMeans) → Means
  select_means None arms so_far next = next so_far
  select_means (Some e) arms so_far next =
      let chosen : Option (ℕ × PartMeans) =
      option_or (select_of (word_of (operand (val e env))) 0 arms) (select_of (codes "other") 0 arms) in
      with_cost (cost e env) (arm_means chosen (pos 0) so_far next)

  abbrev mutual
    -- the number is what `#` stands for
    pub part_means : MsgPart → PartMeans
    part_means (TextPart text) n = text_means text
    part_means (Placeholder name) n = cut_means (placeholder_cut name uses uses)
    part_means NumberPart n = value_means context (IntValue n)
    part_means (PluralPart ordinal name offset exact named) n =
        plural_means ordinal (selector true name uses uses) offset (exact_rows exact) (named_rows named)
    part_means (SelectPart name arms) n = select_means (selector false name uses uses) (select_rows arms)

    pub parts_means : MsgParts → PartMeans
    parts_means no_part n so_far next = next so_far
    parts_means (part p ps) n so_far next = part_means p n so_far (λ now. parts_means ps n now next)

    pub exact_rows : ExactArms → List (ℤ × PartMeans)
    exact_rows no_exact_arm = []
    exact_rows (exact_arm n ps arms) = (n, parts_means ps) ∷ exact_rows arms

    pub named_rows : NamedArms → List (Category × PartMeans)
    named_rows no_named_arm = []
    named_rows (named_arm category ps arms) = (category, parts_means ps) ∷ named_rows arms

    pub select_rows : SelectArms → List (List ℕ × PartMeans)
    select_rows no_select_arm = []
    select_rows (select_arm word ps arms) = (word, parts_means ps) ∷ select_rows arms
