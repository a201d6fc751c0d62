-- What a program gives: the pieces of a template of it under data, with costs, and its end.
--
-- An op means what it gives from the variables, and the variables after it; its meaning is made from those of the ops
-- before it, among which the blocks stand that it names. The ops of a block give what they give one after the other,
-- and nothing that is bound there stays bound. A block of kind html or attributes is bound as what it gives, and its
-- print gives that; one of kind text is gathered where it stands. A call is opened, or, where it would stand more than
-- 100 calls deep, the run stops there. A number is that of the plural in whose arm an op stands.
-- An outcome's choices are left out here. Its work is one for each op, each turn of a loop and each end of a block.
-- Where a program names what it hasn't, as a template, nothing is given, or null: so there is a run of any parts.
-- Example: the ops `Static "a"` and `Print $x`, the block of both, with x the string `<`, give the static piece `a` at
-- no cost, and then the value of `<` at the cost 1.
use Rattle.std.specs.Prelude.{ℕ, zero, suc, ◌+◌, ◌-◌, ℤ, pos, ◌-ℤ◌, Bool, List, [], ◌∷◌, Option, Some, None}
use Rattle.std.specs.Prelude.{if◌then◌else◌, bytes_eq, codes, drop, option_map, slice_get, take, unwrap_or}
use Rattle.std.specs.Option.{option_or}
use Rattle.soy_base.specs.declared.direction.Dir.{Dir}
use Rattle.soy_base.specs.declared.kind.Kind.{Kind}
use Rattle.soy_base.specs.declared.kind.Kind.TheVariants as kind
use Rattle.soy_base.specs.declared.place.Place.{Place}
use Rattle.plural_rules.specs.Category.{category_of, is_same}
use Rattle.plural_rules.specs.declared.category.Category.{Category}
use Rattle.plural_rules.specs.declared.category.Category.TheVariants as category
use Rattle.soy_base.specs.Piece.{Static, Value}
use Rattle.soy_tree.specs.Types.{Name}
use Rattle.soy_tree.specs.Values.{Items, IntValue, NullValue, StringValue, no_item, item}
use Rattle.soy_tree.specs.Values as values
use Rattle.soy_rules.specs.Val.{Binding, BlockOf, Known, binding, is_same_int, is_truthy, val, value_text}
use Rattle.soy_rules.specs.Cost.{cost}
use Rattle.soy_pieces.specs.Branch.{int_of, word_of}
use Rattle.soy_pieces.specs.EscapedAt.{escaped_at}
use Rattle.soy_pieces.specs.Meaning.{bound_as}
use Rattle.soy_pieces.specs.Giving.{BoundBlock, RunEnv, value_class, with_cost}
use Rattle.soy_pieces.specs.Outcome.{GivesPiece, Outcome, RunEnds, Spent, StopsAt, WholeRun, continued_by, gathered}
use Rattle.soy_pieces.specs.Outcome.{gives_nothing, none_spent, spent_first}
use Rattle.soy_pieces.specs.Pieces.{is_one, listed_items, valued, with_index, call_limit}
use Rattle.soy_pieces.specs.Site.{Site}
use Rattle.template_ir.specs.Ops.{Branch, Callee, Choice, Handed, HandedBy, Op, Program, Routine, CallOp, ForOp}
use Rattle.template_ir.specs.Ops.{HandedBlock, HandedSame, HandedValue, IfOp, LetBlockOp, LetOp, NumberOp, PluralOp}
use Rattle.template_ir.specs.Ops.{PrintOp, SelectOp, StaticOp, SwitchOp}
use Rattle.soy_base.specs.Table.{table}
use Rattle.template_ir.specs.declared.op.Block.{Block}
use Rattle.template_ir.specs.declared.op.ExactBlock.{ExactBlock}
use Rattle.template_ir.specs.declared.op.NamedBlock.{NamedBlock}
use Rattle.template_ir.specs.declared.op.WordBlock.{WordBlock}
use Rattle.soy_pieces.specs.InputEnv.{input_env, names_of}

-- what an op means: from the number and the variables, what it gives, and the variables after it
abbrev pub OpMeans : Type 0
OpMeans = ℤ → RunEnv → Outcome × RunEnv

-- one step, in which so many nodes of expressions are valued
abbrev pub one_step : ℕ → Spent
one_step cost = record { cost = cost; work = 1; choices = [] }

-- ---- values

abbrev pub value_at : Dir → Place → values.Value → List ℕ
value_at context point v = unwrap_or (escaped_at point (value_class v) (value_text v) context) []

abbrev pub value_gives : Dir → Place → values.Value → Outcome
value_gives context point v = GivesPiece none_spent (Value (value_at context point v)) gives_nothing

abbrev pub print_gives : Dir → Place → Binding BoundBlock → Outcome
print_gives context point (Known v) = value_gives context point v
print_gives context point (BlockOf block) = block.outcome

-- an empty text gives no piece
abbrev pub text_gives : List ℕ → Outcome
text_gives [] = gives_nothing
text_gives (c ∷ text) = GivesPiece none_spent (Static (c ∷ text)) gives_nothing

-- ---- blocks

abbrev pub ops_give : List OpMeans → ℤ → RunEnv → Outcome
ops_give [] n env = RunEnds (one_step 0) WholeRun
ops_give (m ∷ ms) n env = continued_by (m n env).0 (ops_give ms n (m n env).1)

-- the meanings of the ops of a block
abbrev pub part_of : {A : Type 0} → List A → Block → List A
part_of ms b = take (b.end - b.first) (drop b.first ms)

abbrev pub block_gives : List OpMeans → Block → ℤ → RunEnv → Outcome
block_gives ms b n env = ops_give (part_of ms b) n env

-- a block, if there is one; in it `#` stands for no number
abbrev pub rest_gives : List OpMeans → Option Block → RunEnv → Outcome
rest_gives ms None env = gives_nothing
rest_gives ms (Some b) env = block_gives ms b (pos 0) env

-- what is given where a block of this kind, with this outcome, is bound: what is spent on its text
abbrev pub bound_gives : Kind → Outcome → Outcome
bound_gives kind.Text o = gathered [] o (λ text. gives_nothing)
bound_gives kind o = gives_nothing

-- ---- control flow

abbrev pub branches_give : List OpMeans → List Branch → Option Block → RunEnv → Outcome
branches_give ms [] other env = rest_gives ms other env
branches_give ms (b ∷ branches) other env =
    with_cost (cost b.when env)
    (if is_truthy (val b.when env) then block_gives ms b.body (pos 0) env
    else branches_give ms branches other env)

abbrev pub choices_give : List OpMeans → values.Value → List Choice → Option Block → RunEnv → Outcome
choices_give ms v [] other env = rest_gives ms other env
choices_give ms v (c ∷ choices) other env =
    with_cost (is_one v c.values env).1
    (if (is_one v c.values env).0 then block_gives ms c.body (pos 0) env
    else choices_give ms v choices other env)

-- a body for each item, the items counted from n
abbrev pub turns_give : (RunEnv → Outcome) → Name → Option Name → RunEnv → ℕ → Items → Outcome
turns_give body name index env n no_item = RunEnds (one_step 0) WholeRun
turns_give body name index env n (item v vs) =
    spent_first (one_step 0)
    (continued_by (body (with_index index n ((name, Known v) ∷ env))) (turns_give body name index env (n + 1) vs))

-- ---- arms of messages

abbrev pub exact_block : ℤ → List ExactBlock → Option Block
exact_block n [] = None
exact_block n (arm ∷ arms) = if is_same_int arm.is n then Some arm.body else exact_block n arms

abbrev pub named_block : Category → List NamedBlock → Option Block
named_block wanted [] = None
named_block wanted (arm ∷ arms) = if is_same arm.category wanted then Some arm.body else named_block wanted arms

abbrev pub word_block : List ℕ → List WordBlock → Option Block
word_block word [] = None
word_block word (arm ∷ arms) = if bytes_eq arm.is word then Some arm.body else word_block word arms

abbrev pub arm_gives : List OpMeans → Option Block → ℤ → RunEnv → Outcome
arm_gives ms None n env = gives_nothing
arm_gives ms (Some b) n env = block_gives ms b n env

-- the category of a number, by the rules for ordinals or by those for counts
abbrev pub category_in : Program → Bool → ℤ → Category
category_in p ordinal n = category_of (if ordinal then p.ordinal else p.plural) n

-- the arm of a plural for a number, which without the offset is `rest`
abbrev pub plural_block : Program → Bool → List ExactBlock → List NamedBlock → ℤ → ℤ → Option Block
plural_block p ordinal exact named n rest =
    option_or (exact_block n exact)
    (option_or (named_block (category_in p ordinal rest) named) (named_block category.Other named))

abbrev pub select_block : List ℕ → List WordBlock → Option Block
select_block word arms = option_or (word_block word arms) (word_block (codes "other") arms)

-- ---- calls

-- what one parameter is handed, and what is given before it is there
abbrev pub handed_binding : List OpMeans → Name → HandedBy → RunEnv → Binding BoundBlock
handed_binding ms name (HandedValue e) env = val e env
handed_binding ms name (HandedBlock kind b) env = bound_as kind (block_gives ms b (pos 0) env)
handed_binding ms name HandedSame env = binding name env

abbrev pub handed_gives : List OpMeans → HandedBy → RunEnv → Outcome
handed_gives ms (HandedValue e) env = with_cost (cost e env) gives_nothing
handed_gives ms (HandedBlock kind b) env = bound_gives kind (block_gives ms b (pos 0) env)
handed_gives ms HandedSame env = gives_nothing

abbrev pub all_handed_give : List OpMeans → List Handed → RunEnv → Outcome
all_handed_give ms [] env = gives_nothing
all_handed_give ms (h ∷ handed) env = continued_by (handed_gives ms h.by env) (all_handed_give ms handed env)

-- the callee's variables, each before those that were handed before it
abbrev pub handed_env : List OpMeans → List Handed → RunEnv → RunEnv → RunEnv
handed_env ms [] env inner = inner
handed_env ms (h ∷ handed) env inner =
    handed_env ms handed env ((h.name, handed_binding ms h.name h.by env) ∷ inner)

-- a call of a template of this kind, with its outcome
abbrev pub opened_gives : Dir → Place → Option Kind → Outcome → Outcome
opened_gives context point None o = value_gives context point NullValue
opened_gives context point (Some kind.Text) o =
    gathered [] o (λ text. value_gives context point (StringValue text))
opened_gives context point (Some kind) o = o

abbrev pub kind_of_template : Program → ℕ → Option Kind
kind_of_template p number = option_map (λ r. r.kind) (slice_get p.templates number)

-- ---- ops

module _ (p : Program) (called : Site → ℕ → RunEnv → Outcome) where
  abbrev pub call_gives : List OpMeans → Callee → RunEnv → Outcome
  call_gives ms c env =
      continued_by (all_handed_give ms c.given env)
      (opened_gives p.direction c.place (kind_of_template p c.template)
      (called c.site c.template (handed_env ms c.given env [])))

  abbrev pub plural_gives : List OpMeans → ℤ → ℕ → Bool → List ExactBlock → List NamedBlock → RunEnv → Outcome
  plural_gives ms n offset ordinal exact named env =
      arm_gives ms (plural_block p ordinal exact named n (n -ℤ pos offset)) (n -ℤ pos offset) env

  -- from the meanings of the ops before it
  abbrev pub op_gives : List OpMeans → Op → OpMeans
  op_gives ms (StaticOp text) n env = (spent_first (one_step 0) (text_gives text), env)
  op_gives ms (PrintOp e point) n env =
      (spent_first (one_step (cost e env)) (print_gives p.direction point (val e env)), env)
  op_gives ms (NumberOp point) n env = (spent_first (one_step 0) (value_gives p.direction point (IntValue n)), env)
  op_gives ms (IfOp branches other) n env = (spent_first (one_step 0) (branches_give ms branches other env), env)
  op_gives ms (SwitchOp e choices other) n env = (
    spent_first (one_step (cost e env)) (choices_give ms (valued e env) choices other env),
    env,
  )
  op_gives ms (ForOp name index e body) n env = (
    spent_first (one_step (cost e env))
        (turns_give (block_gives ms body (pos 0)) name index env 0 (listed_items (valued e env))),
    env,
  )
  op_gives ms (LetOp name e) n env =
      (RunEnds (one_step (cost e env)) WholeRun, (name, val e env) ∷ env)
  op_gives ms (LetBlockOp name kind b) n env = (
    spent_first (one_step 0) (bound_gives kind (block_gives ms b (pos 0) env)),
    (name, bound_as kind (block_gives ms b (pos 0) env)) ∷ env,
  )
  op_gives ms (CallOp c) n env = (spent_first (one_step 0) (call_gives ms c env), env)
  op_gives ms (PluralOp e offset ordinal exact named) n env = (
    spent_first (one_step (cost e env)) (plural_gives ms (int_of (valued e env)) offset ordinal exact named env),
    env,
  )
  op_gives ms (SelectOp e arms) n env = (
    spent_first (one_step (cost e env)) (arm_gives ms (select_block (word_of (valued e env)) arms) (pos 0) env),
    env,
  )

-- ---- templates

abbrev pub body_there : Option Routine → Block
body_there None = record { first = 0; end = 0 }
body_there (Some r) = r.body

-- the template of a number, where so many more calls may be opened
unfoldable pub called_at : Program → ℕ → Site → ℕ → RunEnv → Outcome
called_at p zero at number env = RunEnds none_spent (StopsAt at)
called_at p (suc left) at number env =
    block_gives (table (op_gives p (called_at p left)) p.ops) (body_there (slice_get p.templates number)) (pos 0) env

-- the meanings of all ops, where so many more calls may be opened
unfoldable pub all_give : Program → ℕ → List OpMeans
all_give p left = table (op_gives p (called_at p left)) p.ops

-- what a template gives under variables
abbrev pub template_gives : Program → ℕ → RunEnv → Outcome
template_gives p number env =
    block_gives (all_give p call_limit) (body_there (slice_get p.templates number)) (pos 0) env

-- ---- data

abbrev pub names_there : Option Routine → List Name
names_there None = []
names_there (Some r) = names_of r.params

-- what a program gives for a template of it under data
abbrev pub run : Program → ℕ → values.Value → Outcome
run p number input = template_gives p number (input_env (names_there (slice_get p.templates number)) input)
