-- A run of trees that is as the checks leave it: the place of each value is the one that is kept for its hole.
--
-- It is said as the run goes: of each value, that the pieces of its frame so far give it the place of its hole; of each
-- frame within, that it is so too; and of what comes next, where something does. Of a call also, that no name is given
-- twice, and that the callee's variables are what is given and what is handed on. Of a message in the source, that it
-- is texts and prints, and that no case is of the word that stands for the default.
-- Example: of `<a href="{$u}">` with the places UriStart, that `$u` is valued at UriStart.
use Rattle.std.specs.Prelude.{◌≡◌, ℕ, ◌+◌, ℤ, pos, Bool, true, false, List, [], ◌∷◌, ◌++◌, Option, Some, None, Ok, zero}
use Rattle.std.specs.Prelude.{suc, ◌-ℤ◌, bytes_eq, codes, if◌then◌else◌, slice_get}
use Rattle.soy_rules.specs.Bodies.{names_given}
use Rattle.template_ir.specs.Compiles.{callee_number, handed_on_names, params_there}
use Rattle.plural_rules.specs.Category.{is_same}
use Rattle.plural_rules.specs.declared.category.Category.{Category}
use Rattle.plural_rules.specs.declared.category.Category.TheVariants as category
use Rattle.soy_base.specs.declared.kind.Kind.{Kind}
use Rattle.soy_base.specs.declared.kind.Kind.TheVariants as kind
use Rattle.soy_base.specs.declared.place.Place.{Place}
use Rattle.soy_base.specs.declared.place.Placing.TheVariants.{Takes}
use Rattle.soy_base.specs.Piece.{Static, Value}
use Rattle.html_state.specs.Start.{start}
use Rattle.soy_tree.specs.Types.{Name}
use Rattle.soy_tree.specs.Expressions.{Expr}
use Rattle.soy_tree.specs.MessageParts.{MsgPart, MsgParts, ExactArms, NamedArms, SelectArms, TextPart, Placeholder}
use Rattle.soy_tree.specs.MessageParts.{NumberPart, PluralPart, SelectPart, no_part, part, no_exact_arm, exact_arm}
use Rattle.soy_tree.specs.MessageParts.{no_named_arm, named_arm, no_select_arm, select_arm}
use Rattle.soy_tree.specs.MessageText.{MessageItem, Character, Printed, Cut, PrintCut, TagCut}
use Rattle.soy_rules.specs.Placeholders.{Use, placeholder_cut, uses_of}
use Rattle.soy_pieces.specs.Branch.{int_of, selector, word_of}
use Rattle.soy_tree.specs.Nodes.{Node, Nodes, Otherwise, Arms, Cases, Arguments, Given, TextNode, Print, If, Switch}
use Rattle.soy_tree.specs.Nodes.{For, Let, LetBlock, Call, MessageNode, no_node, node, no_otherwise, otherwise, no_arm}
use Rattle.soy_tree.specs.Nodes.{arm, no_case, case, no_argument, argument, Plain, Block, Message, MessageBody}
use Rattle.soy_tree.specs.Nodes.{PluralCases, SelectCases, message, Parts, Plural, Select, no_plural_case, plural_case}
use Rattle.soy_tree.specs.Nodes.{no_select_case, select_case}
use Rattle.soy_rules.specs.Templates.{Declared, callee}
use Rattle.soy_rules.specs.Val.{Binding, BlockOf, Known, binding, is_same_int, is_truthy, val, value_text}
use Rattle.soy_tree.specs.Values.{IntValue, Items, NullValue, StringValue, no_item, item}
use Rattle.soy_tree.specs.Values as values
use Rattle.soy_pieces.specs.EscapedAt.{value_form}
use Rattle.soy_pieces.specs.Meaning.{bound_as, joined_pieces}
use Rattle.soy_pieces.specs.Giving.{BoundBlock, RunEnv, StateSoFar, placing_so_far, read_outcome, read_piece}
use Rattle.soy_pieces.specs.Giving.{value_class}
use Rattle.soy_pieces.specs.Outcome.{Outcome, WholeRun, end_of_outcome, pieces_of_outcome}
use Rattle.soy_pieces.specs.Pieces.{ChosenText, GivenArguments, RunContext, TheFallback, TheOwn, TheSource, callee_env}
use Rattle.soy_pieces.specs.Pieces.{chosen_text, frame_outcome, given_binding, is_one, listed_items, param_binding}
use Rattle.soy_pieces.specs.Pieces.{called_within, context_in, valued, with_index, call_limit}
use Rattle.soy_pieces.specs.Site.{Site, starts_at}
use Rattle.template_ir.specs.HoleCounts.{arm_holes, body_holes, case_holes, exact_holes, given_holes, node_holes}
use Rattle.template_ir.specs.HoleCounts.{nodes_holes, part_holes, parts_holes, plural_holes, select_holes, source_holes}
use Rattle.template_ir.specs.HoleCounts.{translation_holes}
use Rattle.template_ir.specs.StandFor.{place_of}

-- the one or the other fact
abbrev pub Picks : Bool → Type 0 → Type 0 → Type 0
Picks true X Y = X
Picks false X Y = Y

abbrev pub TextPlaced : List ℕ → StateSoFar → (StateSoFar → Type 0) → Type 0
TextPlaced [] so_far Next = Next so_far
TextPlaced (c ∷ text) so_far Next = Next (read_piece so_far (Static (c ∷ text)))

-- a name that nothing is given under yet
abbrev pub IsFresh : Name → GivenArguments → Type 0
IsFresh name before = (x : Name) → bytes_eq name x ≡ true → given_binding x before ≡ None

abbrev pub has_name : Name → List Name → Bool
has_name x [] = false
has_name x (n ∷ names) = if bytes_eq n x then true else has_name x names

-- the variables of a callee: what is given, and what is handed on under these names
abbrev pub BindsGiven : List Name → GivenArguments → RunEnv → RunEnv → Type 0
BindsGiven same given inner env =
    ((x : Name) → has_name x same ≡ true → given_binding x given ≡ None)
    × ((x : Name) → binding x inner
    ≡ param_binding (given_binding x given) (if has_name x same then binding x env else Known NullValue))

-- texts and prints alone, as a message's text is
abbrev pub AreTexts : Nodes → Type 0
AreTexts no_node = Unit {0}
AreTexts (node (TextNode text span) ns) = AreTexts ns
AreTexts (node (Print e phname span) ns) = AreTexts ns
AreTexts (node _ ns) = ⊥

-- no case is of the word that stands for the default
abbrev pub HasNoOther : SelectCases → Type 0
HasNoOther no_select_case = Unit {0}
HasNoOther (select_case is body cases) = (bytes_eq is (codes "other") ≡ false) × HasNoOther cases

-- past a block of this kind, which is bound to a name
abbrev pub BoundPlaced : Kind → Outcome → Type 0 → Type 0
BoundPlaced kind.Text o Next = end_of_outcome o ≡ WholeRun → Next
BoundPlaced kind o Next = Next

abbrev pub TurnsPlaced : (RunEnv → StateSoFar → (StateSoFar → Type 0) → Type 0) → Name → Option Name → RunEnv → ℕ →
    Items → StateSoFar → (StateSoFar → Type 0) → Type 0
TurnsPlaced Body name index env n no_item so_far Next = Next so_far
TurnsPlaced Body name index env n (item v vs) so_far Next =
    Body (with_index index n ((name, Known v) ∷ env)) so_far
    (λ now. TurnsPlaced Body name index env (n + 1) vs now Next)

module _ (c : RunContext) (places : List Place) (called : Site → Declared → RunEnv → Outcome)
    (Opened : ℕ → RunEnv → Type 0) where
  abbrev pub ValuePlaced : values.Value → ℕ → StateSoFar → (StateSoFar → Type 0) → Type 0
  ValuePlaced v hole so_far Next =
      (placing_so_far so_far ≡ Ok (Takes (place_of places hole)))
      × Next (read_piece so_far (Value (value_form (placing_so_far so_far) (value_class v) (value_text v) c.direction)))

  abbrev pub PrintPlaced : Binding BoundBlock → ℕ → StateSoFar → (StateSoFar → Type 0) → Type 0
  PrintPlaced (Known v) hole so_far Next = ValuePlaced v hole so_far Next
  PrintPlaced (BlockOf block) hole so_far Next =
      end_of_outcome block.outcome ≡ WholeRun → Next (read_outcome so_far block.outcome)

  abbrev pub CalledPlaced : Kind → Outcome → ℕ → StateSoFar → (StateSoFar → Type 0) → Type 0
  CalledPlaced kind.Text o hole so_far Next = end_of_outcome o ≡ WholeRun →
      ValuePlaced (StringValue (joined_pieces (pieces_of_outcome o))) hole so_far Next
  CalledPlaced kind o hole so_far Next = end_of_outcome o ≡ WholeRun → Next (read_outcome so_far o)

  -- the number of the template, and the names under which the caller's variables are handed on
  abbrev pub OpenedPlaced : Site → Option Declared → ℕ → List Name → GivenArguments → Bool → RunEnv → ℕ → StateSoFar →
      (StateSoFar → Type 0) → Type 0
  OpenedPlaced at None number same given all env hole so_far Next = ValuePlaced NullValue hole so_far Next
  OpenedPlaced at (Some d) number same given all env hole so_far Next =
      BindsGiven same given (callee_env d.template.params given all c.params env) env
      × Opened number (callee_env d.template.params given all c.params env)
      × CalledPlaced d.template.kind (called at d (callee_env d.template.params given all c.params env)) hole so_far
      Next

  -- ---- translations

  abbrev pub TagPlaced : RunEnv → List ℕ → List MessageItem → ℕ → StateSoFar → (StateSoFar → Type 0) → Type 0
  TagPlaced env text [] hole so_far Next = TextPlaced text so_far Next
  TagPlaced env text (Character x span ∷ rest) hole so_far Next = TagPlaced env (text ++ (x ∷ [])) rest hole so_far Next
  TagPlaced env text (Printed e phname span ∷ rest) hole so_far Next =
      TextPlaced text so_far (λ now. PrintPlaced (val e env) hole now (λ after. TagPlaced env [] rest (hole + 1) after
      Next))

  abbrev pub CutPlaced : RunEnv → Option Cut → ℕ → StateSoFar → (StateSoFar → Type 0) → Type 0
  CutPlaced env (Some (PrintCut e phname span)) hole so_far Next = PrintPlaced (val e env) hole so_far Next
  CutPlaced env (Some (TagCut tag)) hole so_far Next = TagPlaced env [] tag hole so_far Next
  CutPlaced env _ hole so_far Next = Next so_far

  -- by the value of a selector, if there is one
  abbrev pub SelectedPlaced : RunEnv → Option Expr → (values.Value → Type 0) → Type 0 → Type 0
  SelectedPlaced env None Arms Next = Next
  SelectedPlaced env (Some e) Arms Next = Arms (valued e env)

  module _ (uses : List Use) (env : RunEnv) where
    abbrev mutual
      -- the number is what `#` stands for
      pub PartPlaced : MsgPart → ℕ → ℤ → StateSoFar → (StateSoFar → Type 0) → Type 0
      PartPlaced (TextPart text) hole n so_far Next = TextPlaced text so_far Next
      PartPlaced (Placeholder name) hole n so_far Next = CutPlaced env (placeholder_cut name uses uses) hole so_far Next
      PartPlaced NumberPart hole n so_far Next = ValuePlaced (IntValue n) hole so_far Next
      PartPlaced (PluralPart ordinal name offset exact named) hole n so_far Next =
          SelectedPlaced env (selector true name uses uses) (λ v.
          ExactPlaced (int_of v) (int_of v -ℤ pos offset) exact hole so_far Next
          (NamedPlaced (c.category ordinal (int_of v -ℤ pos offset)) (int_of v -ℤ pos offset) named
          (hole + exact_holes uses exact) so_far Next
          (NamedPlaced category.Other (int_of v -ℤ pos offset) named (hole + exact_holes uses exact) so_far Next
          (Next so_far)))) (Next so_far)
      PartPlaced (SelectPart name arms) hole n so_far Next =
          SelectedPlaced env (selector false name uses uses) (λ v.
          WordsPlaced (word_of v) arms hole so_far Next
          (WordsPlaced (codes "other") arms hole so_far Next (Next so_far))) (Next so_far)

      pub PartsPlaced : MsgParts → ℕ → ℤ → StateSoFar → (StateSoFar → Type 0) → Type 0
      PartsPlaced no_part hole n so_far Next = Next so_far
      PartsPlaced (part p ps) hole n so_far Next =
          PartPlaced p hole n so_far (λ now. PartsPlaced ps (hole + part_holes uses p) n now Next)

      pub ExactPlaced : ℤ → ℤ → ExactArms → ℕ → StateSoFar → (StateSoFar → Type 0) → Type 0 → Type 0
      ExactPlaced n rest no_exact_arm hole so_far Next Last = Last
      ExactPlaced n rest (exact_arm m ps arms) hole so_far Next Last =
          Picks (is_same_int m n) (PartsPlaced ps hole rest so_far Next)
          (ExactPlaced n rest arms (hole + parts_holes uses ps) so_far Next Last)

      pub NamedPlaced : Category → ℤ → NamedArms → ℕ → StateSoFar → (StateSoFar → Type 0) → Type 0 → Type 0
      NamedPlaced wanted rest no_named_arm hole so_far Next Last = Last
      NamedPlaced wanted rest (named_arm of ps arms) hole so_far Next Last =
          Picks (is_same of wanted) (PartsPlaced ps hole rest so_far Next)
          (NamedPlaced wanted rest arms (hole + parts_holes uses ps) so_far Next Last)

      pub WordsPlaced : List ℕ → SelectArms → ℕ → StateSoFar → (StateSoFar → Type 0) → Type 0 → Type 0
      WordsPlaced word no_select_arm hole so_far Next Last = Last
      WordsPlaced word (select_arm is ps arms) hole so_far Next Last =
          Picks (bytes_eq is word) (PartsPlaced ps hole (pos 0) so_far Next)
          (WordsPlaced word arms (hole + parts_holes uses ps) so_far Next Last)

  -- ---- nodes

  abbrev mutual
    pub NodePlaced : Node → ℕ → RunEnv → StateSoFar → (RunEnv → StateSoFar → Type 0) → Type 0
    NodePlaced (TextNode text span) hole env so_far Next = TextPlaced text so_far (Next env)
    NodePlaced (Print e phname span) hole env so_far Next = PrintPlaced (val e env) hole so_far (Next env)
    NodePlaced (If arms other span) hole env so_far Next =
        ArmsPlaced arms (OtherPlaced other (hole + arm_holes c.translation arms) env so_far (Next env)) hole env so_far
        (Next env)
    NodePlaced (Switch e cases other span) hole env so_far Next =
        CasesPlaced (valued e env) cases
        (OtherPlaced other (hole + case_holes c.translation cases) env so_far (Next env)) hole env so_far (Next env)
    NodePlaced (For name index e body span) hole env so_far Next =
        TurnsPlaced (λ inner now After. NodesPlaced body hole inner now (λ within past. After past)) name index env 0
        (listed_items (valued e env)) so_far (Next env)
    NodePlaced (Let name e span) hole env so_far Next = Next ((name, val e env) ∷ env) so_far
    NodePlaced (LetBlock name kind body span) hole env so_far Next =
        NodesPlaced body hole env (Ok (start kind)) (λ inner now. Unit {0})
        × BoundPlaced kind (frame_outcome c called kind body env)
        (Next ((name, bound_as kind (frame_outcome c called kind body env)) ∷ env) so_far)
    NodePlaced (Call name all given span) hole env so_far Next =
        ArgumentsPlaced given [] (hole + 1) env (λ arguments.
        OpenedPlaced (starts_at c.file span) (callee c.declared c.namespace name)
        (callee_number c.declared c.namespace name)
        (handed_on_names all c.params (names_given given) (params_there (callee c.declared c.namespace name)))
        arguments all env hole so_far (Next env))
    NodePlaced (MessageNode m other span) hole env so_far Next =
        MessagePlaced (chosen_text c.translation m other) m hole env so_far (Next env)

    pub NodesPlaced : Nodes → ℕ → RunEnv → StateSoFar → (RunEnv → StateSoFar → Type 0) → Type 0
    NodesPlaced no_node hole env so_far Next = Next env so_far
    NodesPlaced (node n ns) hole env so_far Next =
        NodePlaced n hole env so_far (λ inner now. NodesPlaced ns (hole + node_holes c.translation n) inner now Next)

    pub OtherPlaced : Otherwise → ℕ → RunEnv → StateSoFar → (StateSoFar → Type 0) → Type 0
    OtherPlaced no_otherwise hole env so_far Next = Next so_far
    OtherPlaced (otherwise body) hole env so_far Next = NodesPlaced body hole env so_far (λ inner now. Next now)

    pub ArmsPlaced : Arms → Type 0 → ℕ → RunEnv → StateSoFar → (StateSoFar → Type 0) → Type 0
    ArmsPlaced no_arm Other hole env so_far Next = Other
    ArmsPlaced (arm e body arms) Other hole env so_far Next =
        Picks (is_truthy (val e env)) (NodesPlaced body hole env so_far (λ inner now. Next now))
        (ArmsPlaced arms Other (hole + nodes_holes c.translation body) env so_far Next)

    pub CasesPlaced : values.Value → Cases → Type 0 → ℕ → RunEnv → StateSoFar → (StateSoFar → Type 0) → Type 0
    CasesPlaced v no_case Other hole env so_far Next = Other
    CasesPlaced v (case es body cases) Other hole env so_far Next =
        Picks (is_one v es env).0 (NodesPlaced body hole env so_far (λ inner now. Next now))
        (CasesPlaced v cases Other (hole + nodes_holes c.translation body) env so_far Next)

    pub ArgumentsPlaced : Arguments → GivenArguments → ℕ → RunEnv → (GivenArguments → Type 0) → Type 0
    ArgumentsPlaced no_argument before hole env Next = Next before
    ArgumentsPlaced (argument name given span rest) before hole env Next =
        IsFresh name before × GivenPlaced given hole env (λ bound.
        ArgumentsPlaced rest (before ++ ((name, bound) ∷ [])) (hole + given_holes c.translation given) env Next)

    pub GivenPlaced : Given → ℕ → RunEnv → (Binding BoundBlock → Type 0) → Type 0
    GivenPlaced (Plain e) hole env Next = Next (val e env)
    GivenPlaced (Block kind body) hole env Next =
        NodesPlaced body hole env (Ok (start kind)) (λ inner now. Unit {0})
        × BoundPlaced kind (frame_outcome c called kind body env)
        (Next (bound_as kind (frame_outcome c called kind body env)))

    pub MessagePlaced : ChosenText → Message → ℕ → RunEnv → StateSoFar → (StateSoFar → Type 0) → Type 0
    MessagePlaced TheSource (message desc meaning body span) hole env so_far Next =
        SourcePlaced body hole env so_far Next
    MessagePlaced (TheOwn parts) m hole env so_far Next =
        PartsPlaced (uses_of m) env parts (hole + source_holes c.translation m) (pos 0) so_far Next
    MessagePlaced (TheFallback other parts) m hole env so_far Next =
        PartsPlaced (uses_of other) env parts
        (hole + (source_holes c.translation m + translation_holes c.translation m)) (pos 0) so_far Next

    pub SourcePlaced : MessageBody → ℕ → RunEnv → StateSoFar → (StateSoFar → Type 0) → Type 0
    SourcePlaced (Parts ns) hole env so_far Next =
        AreTexts ns × NodesPlaced ns hole env so_far (λ inner now. Next now)
    SourcePlaced (Plural e offset cases other) hole env so_far Next =
        PluralPlaced (int_of (valued e env)) cases
        (SourcePlaced other (hole + plural_holes c.translation cases) env so_far Next) hole env so_far Next
    SourcePlaced (Select e cases other) hole env so_far Next =
        HasNoOther cases × SelectPlaced (word_of (valued e env)) cases
        (SourcePlaced other (hole + select_holes c.translation cases) env so_far Next) hole env so_far Next

    pub PluralPlaced : ℤ → PluralCases → Type 0 → ℕ → RunEnv → StateSoFar → (StateSoFar → Type 0) → Type 0
    PluralPlaced n no_plural_case Last hole env so_far Next = Last
    PluralPlaced n (plural_case m body cases) Last hole env so_far Next =
        Picks (is_same_int m n) (SourcePlaced body hole env so_far Next)
        (PluralPlaced n cases Last (hole + body_holes c.translation body) env so_far Next)

    pub SelectPlaced : List ℕ → SelectCases → Type 0 → ℕ → RunEnv → StateSoFar → (StateSoFar → Type 0) → Type 0
    SelectPlaced word no_select_case Last hole env so_far Next = Last
    SelectPlaced word (select_case is body cases) Last hole env so_far Next =
        Picks (bytes_eq is word) (SourcePlaced body hole env so_far Next)
        (SelectPlaced word cases Last (hole + body_holes c.translation body) env so_far Next)

-- ---- templates

-- how many holes stand before those of a template, by its number
abbrev pub holes_before : (Message → Option MsgParts) → List Declared → ℕ → ℕ
holes_before translation [] n = 0
holes_before translation (d ∷ ds) zero = 0
holes_before translation (d ∷ ds) (suc n) =
    nodes_holes translation d.template.body + holes_before translation ds n

-- the template of a number, by what calls in it mean
abbrev pub PlacedAt : RunContext → List Place → (Site → Declared → RunEnv → Outcome) → (ℕ → RunEnv → Type 0) →
    Option Declared → ℕ → RunEnv → Type 0
PlacedAt c places called Opened None hole env = Unit {0}
PlacedAt c places called Opened (Some d) hole env =
    NodesPlaced (context_in c d) places called Opened d.template.body hole env (Ok (start d.template.kind))
    (λ inner now. Unit {0})

-- the same, where so many more calls may be opened
unfoldable pub TemplatePlaced : RunContext → List Place → ℕ → ℕ → RunEnv → Type 0
TemplatePlaced c places zero number env = Unit {0}
TemplatePlaced c places (suc left) number env =
    PlacedAt c places (called_within c left) (TemplatePlaced c places left) (slice_get c.declared number)
    (holes_before c.translation c.declared number) env

-- an entry
abbrev pub EntryPlaced : RunContext → List Place → ℕ → RunEnv → Type 0
EntryPlaced c places number env =
    PlacedAt c places (called_within c call_limit) (TemplatePlaced c places call_limit) (slice_get c.declared number)
    (holes_before c.translation c.declared number) env
