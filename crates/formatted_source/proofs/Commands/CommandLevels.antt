-- Each command of a tree has one level.
use Rattle.std.proofs.Common.{◌≡◌, ℕ, List, [], ◌∷◌, ◌++◌, length, refl, arith, length-append}
use Rattle.soy_base.specs.declared.fault.Span.{Span}
use Rattle.soy_tree.specs.declared.node.Argument.{Argument}
use Rattle.soy_tree.specs.declared.node.Arm.{Arm}
use Rattle.soy_tree.specs.declared.node.Case.{Case}
use Rattle.soy_tree.specs.declared.node.MessageBody.{MessageBody}
use Rattle.soy_tree.specs.declared.node.Node.{Node}
use Rattle.soy_tree.specs.declared.node.PluralCase.{PluralCase}
use Rattle.soy_tree.specs.declared.node.SelectCase.{SelectCase}
use Rattle.soy_tree.specs.declared.tree.Param.{Param}
use Rattle.soy_tree.specs.declared.tree.Template.{Template}
use Rattle.soy_parser.specs.declared.command.Command.{Command}
use Rattle.soy_parser.specs.Depth.{inside_blocks}
use Rattle.soy_parser.specs.SpellsTree.{SpellsText, SpellsWhite, SpellsPrints, SpellsParts, SpellsMessageBody}
use Rattle.soy_parser.specs.SpellsTree.{SpellsChoice, SpellsPluralCases, SpellsSelectCases, SpellsNodes, SpellsBody}
use Rattle.soy_parser.specs.SpellsTree.{SpellsNode, SpellsArms, SpellsCases, SpellsArguments, SpellsParams}
use Rattle.soy_parser.specs.SpellsTree.{SpellsTemplates}

abbrev pub Even : List Command → List ℕ → Type 0
Even cs ls = length ls ≡ length cs

even_append : (cs ds : List Command) (ls ms : List ℕ) → Even cs ls → Even ds ms → Even (cs ++ ds) (ls ++ ms)
even_append cs ds ls ms a b = omega (arith, a, b, length-append cs ds, length-append ls ms)

length_inside : (b : ℕ) (ls : List ℕ) → length (inside_blocks b ls) ≡ length ls
length_inside b [] = refl
length_inside b (l ∷ ls) = omega (arith, length_inside b ls)

even_inside : (cs : List Command) (ls : List ℕ) → Even cs ls → Even cs (inside_blocks 1 ls)
even_inside cs ls a = omega (arith, a, length_inside 1 ls)

even_one : (c : Command) (l : ℕ) (cs : List Command) (ls : List ℕ) → Even cs ls → Even (c ∷ cs) (l ∷ ls)
even_one c l cs ls a = omega (arith, a)

-- one more command at the end
even_last : (cs : List Command) (ls : List ℕ) (c : Command) (l : ℕ) → Even cs ls
    → Even (cs ++ (c ∷ [])) (ls ++ (l ∷ []))
even_last cs ls c l a = even_append cs (c ∷ []) ls (l ∷ []) a refl

-- a command before others, and a last one
even_ended : (d z : Command) (bs : List Command) (ks : List ℕ) → Even bs ks
    → Even (d ∷ (bs ++ (z ∷ []))) (0 ∷ (ks ++ (0 ∷ [])))
even_ended d z bs ks a = even_one d 0 (bs ++ (z ∷ [])) (ks ++ (0 ∷ [])) (even_last bs ks z 0 a)

even_block : (c z : Command) (bs : List Command) (ks : List ℕ) → Even bs ks
    → Even (c ∷ (bs ++ (z ∷ []))) (0 ∷ inside_blocks 1 (ks ++ (0 ∷ [])))
even_block c z bs ks a =
    even_one c 0 (bs ++ (z ∷ [])) (inside_blocks 1 (ks ++ (0 ∷ [])))
    (even_inside (bs ++ (z ∷ [])) (ks ++ (0 ∷ [])) (even_last bs ks z 0 a))

-- a command, white text, cases, and what stands after these
even_cases : (c : Command) (ds cs bs : List Command) (ms ls ks : List ℕ) → Even ds ms → Even cs ls → Even bs ks
    → Even (c ∷ (ds ++ (cs ++ bs))) (0 ∷ inside_blocks 1 (ms ++ (ls ++ ks)))
even_cases c ds cs bs ms ls ks w s b =
    even_one c 0 (ds ++ (cs ++ bs)) (inside_blocks 1 (ms ++ (ls ++ ks)))
    (even_inside (ds ++ (cs ++ bs)) (ms ++ (ls ++ ks))
    (even_append ds (cs ++ bs) ms (ls ++ ks) w (even_append cs bs ls ks s b)))

pub white_even : (cs : List Command) (ls : List ℕ) → SpellsWhite cs ls → Even cs ls
white_even _ _ SpellsWhite.none_ = refl
white_even _ _ (SpellsWhite.more_ cs ls c text s e w) = even_last cs ls c 0 (white_even cs ls s)

pub text_even : (cs : List Command) (ls : List ℕ) (text : List ℕ) (span : Span) → SpellsText cs ls text span
    → Even cs ls
text_even _ _ _ _ (SpellsText.first_ c text e) = refl
text_even _ _ _ _ (SpellsText.next_ cs ls c text more span s e) = even_last cs ls c 0 (text_even cs ls text span s)

mutual
  pub prints_even : (cs : List Command) (ls : List ℕ) (ns : List Node) → SpellsPrints cs ls ns → Even cs ls
  prints_even _ _ _ SpellsPrints.none_ = refl
  prints_even _ _ _ (SpellsPrints.print_ cs ls ns c e phname s f) = even_last cs ls c 0 (parts_even cs ls ns s)

  pub parts_even : (cs : List Command) (ls : List ℕ) (ns : List Node) → SpellsParts cs ls ns → Even cs ls
  parts_even _ _ _ (SpellsParts.plain_ cs ls ns s) = prints_even cs ls ns s
  parts_even _ _ _ (SpellsParts.text_ cs ds ls ms ns text span s t) =
      even_append cs ds ls ms (prints_even cs ls ns s) (text_even ds ms text span t)

mutual
  pub message_even : (cs : List Command) (ls : List ℕ) (body : MessageBody) → SpellsMessageBody cs ls body → Even cs ls
  message_even _ _ _ (SpellsMessageBody.parts_ cs ls ns s e) = parts_even cs ls ns s
  message_even _ _ _ (SpellsMessageBody.choice_ cs bs ds ls ks ms body w c v) =
      even_append cs (bs ++ ds) ls (ks ++ ms) (white_even cs ls w)
      (even_append bs ds ks ms (choice_even bs ks body c) (white_even ds ms v))

  pub choice_even : (cs : List Command) (ls : List ℕ) (body : MessageBody) → SpellsChoice cs ls body → Even cs ls
  choice_even _ _ _ (SpellsChoice.plural_ c d z cs bs ds ls ks ms e offset cases other f w s g b h) =
      even_cases c ds cs (d ∷ (bs ++ (z ∷ []))) ms ls (0 ∷ (ks ++ (0 ∷ []))) (white_even ds ms w)
      (plural_even cs ls cases s) (even_ended d z bs ks (message_even bs ks other b))
  choice_even _ _ _ (SpellsChoice.select_ c d z cs bs ds ls ks ms e cases other f w s g b h) =
      even_cases c ds cs (d ∷ (bs ++ (z ∷ []))) ms ls (0 ∷ (ks ++ (0 ∷ []))) (white_even ds ms w)
      (select_even cs ls cases s) (even_ended d z bs ks (message_even bs ks other b))

  pub plural_even : (cs : List Command) (ls : List ℕ) (cases : List PluralCase) → SpellsPluralCases cs ls cases
      → Even cs ls
  plural_even _ _ _ SpellsPluralCases.no_plural_case_ = refl
  plural_even _ _ _ (SpellsPluralCases.plural_case_ cs bs ls ks cases c values body s f b) =
      even_append cs (c ∷ bs) ls (0 ∷ ks) (plural_even cs ls cases s) (even_one c 0 bs ks (message_even bs ks body b))

  pub select_even : (cs : List Command) (ls : List ℕ) (cases : List SelectCase) → SpellsSelectCases cs ls cases
      → Even cs ls
  select_even _ _ _ SpellsSelectCases.no_select_case_ = refl
  select_even _ _ _ (SpellsSelectCases.select_case_ cs bs ls ks cases c values body s f b) =
      even_append cs (c ∷ bs) ls (0 ∷ ks) (select_even cs ls cases s) (even_one c 0 bs ks (message_even bs ks body b))

mutual
  pub nodes_even : (cs : List Command) (ls : List ℕ) (ns : List Node) → SpellsNodes cs ls ns → Even cs ls
  nodes_even _ _ _ SpellsNodes.no_node_ = refl
  nodes_even _ _ _ (SpellsNodes.node_ cs ds ls ms ns n s t) =
      even_append cs ds ls ms (body_even cs ls ns s) (node_even ds ms n t)

  pub body_even : (cs : List Command) (ls : List ℕ) (ns : List Node) → SpellsBody cs ls ns → Even cs ls
  body_even _ _ _ (SpellsBody.plain_ cs ls ns s) = nodes_even cs ls ns s
  body_even _ _ _ (SpellsBody.text_ cs ds ls ms ns text span s t) =
      even_append cs ds ls ms (nodes_even cs ls ns s) (text_even ds ms text span t)

  pub node_even : (cs : List Command) (ls : List ℕ) (n : Node) → SpellsNode cs ls n → Even cs ls
  node_even _ _ _ (SpellsNode.print_ c e f) = refl
  node_even _ _ _ (SpellsNode.let_ c name e f) = refl
  node_even _ _ _ (SpellsNode.call_alone_ c name all f) = refl
  node_even _ _ _ (SpellsNode.if_ z cs ls arms start s f) = even_last cs ls z 1 (arms_even cs ls arms start s)
  node_even _ _ _ (SpellsNode.if_else_ d z cs bs ls ks arms body start s f b g) =
      even_append cs (d ∷ (bs ++ (z ∷ []))) ls (inside_blocks 1 (0 ∷ (ks ++ (0 ∷ [])))) (arms_even cs ls arms start s)
      (even_inside (d ∷ (bs ++ (z ∷ []))) (0 ∷ (ks ++ (0 ∷ []))) (even_ended d z bs ks (body_even bs ks body b)))
  node_even _ _ _ (SpellsNode.switch_ c z ds cs ms ls e cases f w s g) =
      even_cases c ds cs (z ∷ []) ms ls (0 ∷ []) (white_even ds ms w) (cases_even cs ls cases s) refl
  node_even _ _ _ (SpellsNode.switch_default_ c d z ds cs bs ms ls ks e cases body f w s g b h) =
      even_cases c ds cs (d ∷ (bs ++ (z ∷ []))) ms ls (0 ∷ (ks ++ (0 ∷ []))) (white_even ds ms w)
      (cases_even cs ls cases s) (even_ended d z bs ks (body_even bs ks body b))
  node_even _ _ _ (SpellsNode.for_ c z bs ks name index e body f b g) = even_block c z bs ks (body_even bs ks body b)
  node_even _ _ _ (SpellsNode.let_block_ c z bs ks name kind body f b g) =
      even_block c z bs ks (body_even bs ks body b)
  node_even _ _ _ (SpellsNode.call_ c z cs ls name all arguments f s g) =
      even_block c z cs ls (arguments_even cs ls arguments s)
  node_even _ _ _ (SpellsNode.message_ c z bs ks desc meaning body f b g) =
      even_block c z bs ks (message_even bs ks body b)
  node_even _ _ _ (SpellsNode.message_fallback_ c d z bs es ks js desc meaning older older_meaning body other f b g s h)
      =
      even_one c 0 (bs ++ (d ∷ (es ++ (z ∷ [])))) (inside_blocks 1 (ks ++ (0 ∷ (js ++ (0 ∷ [])))))
      (even_inside (bs ++ (d ∷ (es ++ (z ∷ [])))) (ks ++ (0 ∷ (js ++ (0 ∷ []))))
      (even_append bs (d ∷ (es ++ (z ∷ []))) ks (0 ∷ (js ++ (0 ∷ []))) (message_even bs ks body b)
      (even_ended d z es js (message_even es js other s))))

  pub arms_even : (cs : List Command) (ls : List ℕ) (arms : List Arm) (start : Span) → SpellsArms cs ls arms start
      → Even cs ls
  arms_even _ _ _ _ (SpellsArms.first_arm_ c bs ks e body f b) =
      even_one c 0 bs (inside_blocks 1 ks) (even_inside bs ks (body_even bs ks body b))
  arms_even _ _ _ _ (SpellsArms.next_arm_ cs bs ls ks arms start d e body s f b) =
      even_append cs (d ∷ bs) ls (inside_blocks 1 (0 ∷ ks)) (arms_even cs ls arms start s)
      (even_inside (d ∷ bs) (0 ∷ ks) (even_one d 0 bs ks (body_even bs ks body b)))

  pub cases_even : (cs : List Command) (ls : List ℕ) (cases : List Case) → SpellsCases cs ls cases → Even cs ls
  cases_even _ _ _ SpellsCases.no_case_ = refl
  cases_even _ _ _ (SpellsCases.case_ cs bs ls ks cases c values body s f b) =
      even_append cs (c ∷ bs) ls (0 ∷ ks) (cases_even cs ls cases s) (even_one c 0 bs ks (body_even bs ks body b))

  pub arguments_even : (cs : List Command) (ls : List ℕ) (arguments : List Argument) → SpellsArguments cs ls arguments
      → Even cs ls
  arguments_even _ _ _ SpellsArguments.no_argument_ = refl
  arguments_even _ _ _ (SpellsArguments.white_ cs ls arguments c text s f w) =
      even_last cs ls c 0 (arguments_even cs ls arguments s)
  arguments_even _ _ _ (SpellsArguments.param_ cs ls arguments c name e s f) =
      even_last cs ls c 0 (arguments_even cs ls arguments s)
  arguments_even _ _ _ (SpellsArguments.param_block_ cs bs ls ks arguments c z name kind body s f b g) =
      even_append cs (c ∷ (bs ++ (z ∷ []))) ls (0 ∷ inside_blocks 1 (ks ++ (0 ∷ []))) (arguments_even cs ls arguments s)
      (even_block c z bs ks (body_even bs ks body b))

pub params_even : (cs : List Command) (ls : List ℕ) (params : List Param) → SpellsParams cs ls params → Even cs ls
params_even _ _ _ SpellsParams.none_ = refl
params_even _ _ _ (SpellsParams.param_ cs ls params c name required of s f) =
    even_last cs ls c 0 (params_even cs ls params s)

pub templates_even : (cs : List Command) (ls : List ℕ) (templates : List Template) → SpellsTemplates cs ls templates
    → Even cs ls
templates_even _ _ _ SpellsTemplates.none_ = refl
templates_even _ _ _ (SpellsTemplates.white_ cs ls templates c text s f w) =
    even_last cs ls c 0 (templates_even cs ls templates s)
templates_even _ _ _ (SpellsTemplates.template_ cs ps bs ls ms ks templates c z h params body s f p b g) =
    even_append cs (c ∷ (ps ++ (bs ++ (z ∷ [])))) ls (0 ∷ inside_blocks 1 (ms ++ (ks ++ (0 ∷ []))))
    (templates_even cs ls templates s)
    (even_cases c ps bs (z ∷ []) ms ks (0 ∷ []) (params_even ps ms params p) (body_even bs ks body b) refl)
