-- The messages of trees without spans are those of the trees, without spans, and their catalogue has the same rows; its
-- fault is the same but for its position.
use Rattle.std.proofs.Common.{◌≡◌, ℕ, ◌+◌, List, [], ◌∷◌, ◌++◌, map, Option, Some, None, refl}
use Rattle.std.proofs.Common.{ap, ◌∙◌}
use Rattle.std.specs.Prelude.{Result, Ok, Err, if◌then◌else◌}
use Rattle.std.proofs.lemmas.List.{map-append}
use Rattle.soy_base.specs.declared.code.Code.TheVariants as code
use Rattle.soy_base.specs.declared.fault.Fault.{Fault}
use Rattle.soy_tree.specs.Nodes.{Node, Nodes, Otherwise, Arms, Cases, Arguments, Given, Message, TextNode}
use Rattle.soy_tree.specs.Nodes.{Print, If, Switch, For, Let, LetBlock, Call, MessageNode, no_node, node, no_otherwise}
use Rattle.soy_tree.specs.Nodes.{otherwise, no_arm, arm, no_case, case, no_argument, argument, Plain, Block, message}
use Rattle.soy_tree.specs.Nodes.{no_fallback, fallback}
use Rattle.soy_rules.specs.Placeholders.{AsPlaceholder, AsPlural, AsSelect, Role, Use, body_uses, name_of}
use Rattle.soy_tree.specs.Trees.{Template, Tree}
use Rattle.soy_tree.specs.Types.{Name}
use Rattle.msg_extract.specs.Catalogue.{all_listed, catalogue_of, find_listed, is_of_kind, is_same_listed, listed}
use Rattle.msg_extract.specs.Catalogue.{listed_after, names_after, then_listed, trees_listed, with_listed, with_name}
use Rattle.msg_extract.specs.MessagesIn.{argument_messages, arm_messages, case_messages}
use Rattle.msg_extract.specs.MessagesIn.{given_messages, messages_in, node_messages, otherwise_messages}
use Rattle.msg_extract.specs.MessagesIn.{template_messages, tree_messages}
use Rattle.msg_extract.specs.declared.catalogue.Listed.{Listed}
use Rattle.msg_extract.specs.declared.role_names.NameKind.{NameKind}
use Rattle.msg_extract.specs.declared.role_names.NameKind.TheVariants as kind
use Rattle.alike_files.specs.WithoutPositions.{result_without_position}
use Rattle.soy_format.specs.WithoutSpans.{arguments_without_spans, arms_without_spans, cases_without_spans}
use Rattle.soy_format.specs.WithoutSpans.{given_without_spans, message_without_spans}
use Rattle.soy_format.specs.WithoutSpans.{node_without_spans, nodes_without_spans, otherwise_without_spans}
use Rattle.soy_format.specs.WithoutSpans.{template_without_spans, tree_without_spans}
use Rattle.alike_files.proofs.CanonicalTexts.{canonical_same}
use Rattle.alike_files.proofs.ExpressionValues.{through_if}
use Rattle.alike_files.proofs.PlaceholderNames.{body_uses_same, content_without_spans, name_of_same, role_without_spans}
use Rattle.alike_files.proofs.PlaceholderNames.{uses_without_spans}

abbrev messages_without_spans : List Message → List Message
messages_without_spans = map message_without_spans

-- ---- the messages of trees

mutual
  node_messages_same : (n : Node) → node_messages (node_without_spans n) ≡ messages_without_spans (node_messages n)
  node_messages_same (TextNode text span) = refl
  node_messages_same (Print e phname span) = refl
  node_messages_same (If arms other span) =
      rw (
        arm_messages_same arms,
        other_messages_same other,
        map-append message_without_spans (arm_messages arms) (otherwise_messages other),
      ) refl
  node_messages_same (Switch e cases other span) =
      rw (
        case_messages_same cases,
        other_messages_same other,
        map-append message_without_spans (case_messages cases) (otherwise_messages other),
      ) refl
  node_messages_same (For name index e body span) = messages_same body
  node_messages_same (Let name e span) = refl
  node_messages_same (LetBlock name kind body span) = messages_same body
  node_messages_same (Call name all given span) = argument_messages_same given
  node_messages_same (MessageNode m no_fallback span) = refl
  node_messages_same (MessageNode m (fallback second) span) = refl

  messages_same : (ns : Nodes) → messages_in (nodes_without_spans ns) ≡ messages_without_spans (messages_in ns)
  messages_same no_node = refl
  messages_same (node n ns) =
      rw (node_messages_same n, messages_same ns, map-append message_without_spans (node_messages n) (messages_in ns))
      refl

  other_messages_same : (o : Otherwise)
      → otherwise_messages (otherwise_without_spans o) ≡ messages_without_spans (otherwise_messages o)
  other_messages_same no_otherwise = refl
  other_messages_same (otherwise body) = messages_same body

  arm_messages_same : (arms : Arms)
      → arm_messages (arms_without_spans arms) ≡ messages_without_spans (arm_messages arms)
  arm_messages_same no_arm = refl
  arm_messages_same (arm e body arms) =
      rw (
        messages_same body,
        arm_messages_same arms,
        map-append message_without_spans (messages_in body) (arm_messages arms),
      ) refl

  case_messages_same : (cases : Cases)
      → case_messages (cases_without_spans cases) ≡ messages_without_spans (case_messages cases)
  case_messages_same no_case = refl
  case_messages_same (case values body cases) =
      rw (
        messages_same body,
        case_messages_same cases,
        map-append message_without_spans (messages_in body) (case_messages cases),
      ) refl

  argument_messages_same : (given : Arguments)
      → argument_messages (arguments_without_spans given) ≡ messages_without_spans (argument_messages given)
  argument_messages_same no_argument = refl
  argument_messages_same (argument name given span rest) =
      rw (
        given_messages_same given,
        argument_messages_same rest,
        map-append message_without_spans (given_messages given) (argument_messages rest),
      ) refl

  given_messages_same : (given : Given)
      → given_messages (given_without_spans given) ≡ messages_without_spans (given_messages given)
  given_messages_same (Plain e) = refl
  given_messages_same (Block kind body) = messages_same body

template_messages_same : (ts : List Template)
    → template_messages (map template_without_spans ts) ≡ messages_without_spans (template_messages ts)
template_messages_same [] = refl
template_messages_same (t ∷ ts) =
    rw (
      messages_same t.body,
      template_messages_same ts,
      map-append message_without_spans (messages_in t.body) (template_messages ts),
    ) refl

-- **the messages of a file**
pub tree_messages_same : (tree : Tree)
    → tree_messages (tree_without_spans tree) ≡ map message_without_spans (tree_messages tree)
tree_messages_same tree = template_messages_same tree.templates

-- ---- the row of a message

of_kind_same : (of : NameKind) (r : Role) → is_of_kind of (role_without_spans r) ≡ is_of_kind of r
of_kind_same kind.Placeholder (AsPlaceholder cut) = refl
of_kind_same kind.Placeholder (AsPlural e) = refl
of_kind_same kind.Placeholder (AsSelect e) = refl
of_kind_same kind.Plural (AsPlaceholder cut) = refl
of_kind_same kind.Plural (AsPlural e) = refl
of_kind_same kind.Plural (AsSelect e) = refl
of_kind_same kind.Select (AsPlaceholder cut) = refl
of_kind_same kind.Select (AsPlural e) = refl
of_kind_same kind.Select (AsSelect e) = refl

step_same : (of : NameKind) (all : List Use) (names : List Name) (u : Use)
    → (if is_of_kind of (role_without_spans u.role)
    then with_name names (name_of (uses_without_spans all) u.base (content_without_spans u.content)) else names)
    ≡ (if is_of_kind of u.role then with_name names (name_of all u.base u.content) else names)
step_same of all names u = rw (of_kind_same of u.role, name_of_same all u.base u.content) refl

names_same : (of : NameKind) (all : List Use) (names : List Name) (uses : List Use)
    → names_after of (uses_without_spans all) names (uses_without_spans uses) ≡ names_after of all names uses
names_same of all names [] = refl
names_same of all names (u ∷ uses) =
    ap (λ l. names_after of (uses_without_spans all) l (uses_without_spans uses)) (step_same of all names u)
    ∙ names_same of all (if is_of_kind of u.role then with_name names (name_of all u.base u.content) else names) uses

-- **the row**
pub row_same : (m : Message) → listed (message_without_spans m) ≡ listed m
row_same (message desc meaning body span) =
    rw (
      canonical_same body,
      body_uses_same body,
      names_same kind.Placeholder (body_uses body) [] (body_uses body),
      names_same kind.Plural (body_uses body) [] (body_uses body),
      names_same kind.Select (body_uses body) [] (body_uses body),
    ) refl

-- ---- the rows of all

after_same : (done : List Listed) (file : ℕ) (m : Message) (o : Option Listed)
    → listed_after done file (message_without_spans m) o ≡ result_without_position (listed_after done file m o)
after_same done file m None = ap (λ l. Ok (done ++ (l ∷ []))) (row_same m)
after_same done file (message desc meaning body span) (Some l) =
    let clash : ℕ → Result (List Listed) Fault =
    λ at. Err (record { code = code.IdClash; file = file; at = at }) in
    ap (λ (k : Listed). if is_same_listed l k then Ok done else clash 0) (row_same (message desc meaning body span))
    ∙ through_if result_without_position (is_same_listed l (listed (message desc meaning body span))) (Ok done)
    (clash span.start)

with_row_same : (done : List Listed) (file : ℕ) (m : Message)
    → with_listed done file (message_without_spans m) ≡ result_without_position (with_listed done file m)
with_row_same done file m =
    ap (λ (k : Listed). listed_after done file (message_without_spans m) (find_listed k.id done)) (row_same m)
    ∙ after_same done file m (find_listed (listed m).id done)

then_same : (r s : Result (List Listed) Fault) (next other : List Listed → Result (List Listed) Fault)
    → s ≡ result_without_position r → ((done : List Listed) → other done ≡ result_without_position (next done))
    → then_listed s other ≡ result_without_position (then_listed r next)
then_same (Ok done) s next other e h = rw e (h done)
then_same (Err fault) s next other e h = rw e refl

rows_same : (done : List Listed) (file : ℕ) (ms : List Message)
    → all_listed done file (map message_without_spans ms) ≡ result_without_position (all_listed done file ms)
rows_same done file [] = refl
rows_same done file (m ∷ ms) =
    then_same (with_listed done file m) _ _ _ (with_row_same done file m) (λ now. rows_same now file ms)

trees_rows_same : (done : List Listed) (file : ℕ) (trees : List Tree)
    → trees_listed done file (map tree_without_spans trees) ≡ result_without_position (trees_listed done file trees)
trees_rows_same done file [] = refl
trees_rows_same done file (tree ∷ trees) =
    rw (tree_messages_same tree)
    (then_same (all_listed done file (tree_messages tree)) _ _ _ (rows_same done file (tree_messages tree))
    (λ now. trees_rows_same now (file + 1) trees))

-- **the catalogue**
pub catalogue_same : (trees : List Tree)
    → catalogue_of (map tree_without_spans trees) ≡ result_without_position (catalogue_of trees)
catalogue_same = trees_rows_same [] 0
