-- The ops of nodes pass their checks, where the nodes are typed and the places are those that the walk gives.
use Rattle.std.proofs.Common.{◌≡◌, ℕ, ◌+◌, ◌≤◌, Bool, true, false, List, [], ◌∷◌, ◌++◌, Option, Some, None, Ok}
use Rattle.std.proofs.Common.{if◌then◌else◌, length, map, take, refl, sym, ap, ◌∙◌, arith}
use Rattle.std.specs.Prelude.{bytes_eq, codes, nat_le, not, slice_get, ◌&&◌}
use Rattle.std.specs.List.{list_all}
use Rattle.std.proofs.lemmas.Bool.{and_parts}
use Rattle.soy_base.specs.declared.fault.Span.{Span}
use Rattle.soy_base.specs.declared.place.Place.{Place}
use Rattle.soy_base.specs.declared.place.Placing.TheVariants.{Takes}
use Rattle.html_state.specs.TakesClass.{takes_class}
use Rattle.soy_rules.specs.Accepts.{accepts}
use Rattle.soy_rules.specs.Bodies.{Around, loop_scope, names_given, param_of}
use Rattle.soy_base.specs.Among.{is_among}
use Rattle.soy_tree.specs.Expressions.{Expr}
use Rattle.soy_tree.specs.Formed.{is_formed_expr}
use Rattle.soy_base.specs.Limits.{largest}
use Rattle.soy_rules.specs.Members.{is_simple}
use Rattle.soy_tree.specs.MessageParts.{MsgParts}
use Rattle.soy_rules.specs.Narrowing.{narrowed}
use Rattle.soy_tree.specs.Nodes.{Node, Nodes, Otherwise, Arms, Cases, Arguments, Given, Message, Fallback, MessageBody}
use Rattle.soy_tree.specs.Nodes.{PluralCases, SelectCases, TextNode, Print, If, Switch, For, Let, LetBlock, Call}
use Rattle.soy_tree.specs.Nodes.{MessageNode, no_node, node, no_otherwise, otherwise, no_arm, arm, no_case, case}
use Rattle.soy_tree.specs.Nodes.{no_argument, argument, Plain, Block, message, no_fallback, fallback, Parts, Plural}
use Rattle.soy_tree.specs.Nodes.{Select, no_plural_case, plural_case, no_select_case, select_case}
use Rattle.soy_rules.specs.Templates.{Declared, callee, kind_type, param_type}
use Rattle.soy_tree.specs.Trees.{Param}
use Rattle.soy_tree.specs.Types.{Name, SoyType, ListType}
use Rattle.soy_rules.specs.TypeOf.{Scope, is_int, is_string, type_of}
use Rattle.soy_meaning.specs.Walks.FourPoints.{takes_classes}
use Rattle.soy_meaning.specs.Walks.Holes.{hole_count}
use Rattle.soy_meaning.specs.Paths.PathParts.{IsPath, empty_path, hole, passed_by}
use Rattle.soy_pieces.specs.Pieces.{chosen_after, chosen_of, fallback_text}
use Rattle.soy_meaning.specs.Paths.Plan.{Plan, Hole}
use Rattle.soy_pieces.specs.Site.{Site, starts_at}
use Rattle.soy_meaning.specs.Paths.PlanOfNodes.{PlanContext, arm_plans, argument_frames, body_plan, body_scope}
use Rattle.soy_meaning.specs.Paths.PlanOfNodes.{called_classes, case_plans, closes_at, fallback_plans, given_frame}
use Rattle.soy_meaning.specs.Paths.PlanOfNodes.{kind_class, node_plan, nodes_plan, other_plan, plural_plans, scope_past}
use Rattle.soy_meaning.specs.Paths.PlanOfNodes.{select_plans, translated_plan, translation_plans, with_variable}
use Rattle.soy_rules.specs.Placeholders.{uses_of}
use Rattle.soy_meaning.specs.Paths.PlanOfParts.{parts_plan, printed_classes}
use Rattle.soy_meaning.specs.Runs.TranslationFits.{ArgumentsFit, ArmsFit, BodyFits, CasesFit, FallbackFits, FitsMessage}
use Rattle.soy_meaning.specs.Runs.TranslationFits.{GivenFits, NodeFits, NodesFit, OtherFits, PluralFits, SelectFits}
use Rattle.soy_meaning.proofs.Typing.CheckedTrees.{around_template}
use Rattle.soy_meaning.proofs.Typing.PrintableUses.{message_printable}
use Rattle.soy_meaning.proofs.Paths.SomePaths.{node_path}
use Rattle.soy_meaning.proofs.Typing.TypedNodes.{ArgumentsTyped, ArmsTyped, BodyTyped, CalleeTakes, CasesTyped}
use Rattle.soy_meaning.proofs.Typing.TypedNodes.{FallbackTyped, GivenTaken, GivenTyped, MessageTyped, NodeTyped}
use Rattle.soy_meaning.proofs.Typing.TypedNodes.{NodesTyped, OtherTyped, PluralTyped, SelectTyped}
use Rattle.template_ir.specs.CompiledTrees.{ArgumentPatterns, ArmPatterns, CasePatterns, FallbackPattern, GivenPatterns}
use Rattle.template_ir.specs.CompiledTrees.{IsPatternThere, NodePatterns, NodesPatterns, OtherPatterns}
use Rattle.template_ir.specs.Compiles.{CompileContext, StandsArms, StandsCases, StandsGiven, StandsHanded}
use Rattle.template_ir.specs.Compiles.{StandsMessage, StandsNode, StandsNodes, StandsOther, StandsPluralCases}
use Rattle.template_ir.specs.Compiles.{StandsSelectCases, StandsSource, callee_number, context_of_template}
use Rattle.template_ir.specs.Compiles.{handed_on_names, other_arm, other_word, params_there, same_handed}
use Rattle.soy_rules.specs.Language.{Language}
use Rattle.template_ir.specs.HoleCounts.{arm_holes, body_holes, case_holes, given_holes, node_holes, nodes_holes}
use Rattle.template_ir.specs.HoleCounts.{plural_holes, select_holes, translated_holes, translation_holes}
use Rattle.template_ir.specs.Ops.{Branch, CallOp, Callee, Choice, ForOp, Handed, HandedBlock, HandedBy, HandedSame}
use Rattle.template_ir.specs.Ops.{HandedValue, IfOp, LetBlockOp, LetOp, Op, PluralOp, Routine, SelectOp, SwitchOp}
use Rattle.template_ir.specs.Placed.{AreTexts}
use Rattle.template_ir.specs.Sound.{OpCheck, any_type, are_sound_arms, are_sound_handed, are_sound_values, fits_param}
use Rattle.template_ir.specs.Sound.{goes_on, handed_names, has_required, has_word_other, is_sound_block}
use Rattle.template_ir.specs.Sound.{is_sound_branch, is_sound_call, is_sound_choice, is_sound_expr, is_sound_given}
use Rattle.template_ir.specs.Sound.{is_sound_plural, is_sound_rest, is_sound_select, scope_bound, scope_of_turn}
use Rattle.template_ir.specs.Sound.{scope_there}
use Rattle.template_ir.specs.StandFor.{StandsParts, place_of}
use Rattle.template_ir.specs.declared.op.Block as code_block
use Rattle.template_ir.specs.declared.op.ExactBlock.{ExactBlock}
use Rattle.template_ir.specs.declared.op.WordBlock.{WordBlock}
use Rattle.template_ir.proofs.CheckedTemplates.{AreApart}
use Rattle.template_ir.proofs.Counts.{arm_count, body_count, case_count, given_count, node_count, nodes_count}
use Rattle.template_ir.proofs.Counts.{plural_count, select_count}
use Rattle.template_ir.proofs.Demands.{AreSimple, ArgumentsDemand, ArmsDemand, BodyDemands, CasesDemand}
use Rattle.template_ir.proofs.Demands.{FallbackDemands, GivenDemands, MessageDemands, NodeDemands, NodesDemand}
use Rattle.template_ir.proofs.Demands.{OtherDemands, PluralDemands, SelectDemands}
use Rattle.template_ir.proofs.Forward.{nodes_forward, source_forward}
use Rattle.template_ir.proofs.Patterns.{whole_anywhere, pattern_whole}
use Rattle.template_ir.proofs.SelectedUses.{message_selects}
use Rattle.template_ir.proofs.SoundCalls.{all_named, among_neither, given_not_on, itself_among, later_free, or_later}
use Rattle.template_ir.proofs.SoundCalls.{required_given, same_sound, stands_names}
use Rattle.template_ir.proofs.SoundOps.{Passes, block_sound, both_true, checks, end_passes, expr_sound, nothing_passes}
use Rattle.template_ir.proofs.SoundOps.{op_passes, op_within, passes_if, print_sound, text_sound}
use Rattle.template_ir.proofs.SoundParts.{parts_sound, up_to}
use Rattle.template_ir.proofs.TakenClasses.{AllTaken, Taken, all_from, arms_taken, body_taken, first_taken, frame_taken}
use Rattle.template_ir.proofs.TakenClasses.{hole_taken, last_taken, second_taken, taken_from}

to_itself : (a : ℕ) → a ≤ a
to_itself a = omega arith

values_sound : (values : List Expr) (scope : Scope) → AreSimple values scope → are_sound_values values scope ≡ true
values_sound [] scope h = refl
values_sound (e ∷ values) scope h = both_true _ _ (expr_sound is_simple e scope h.0) (values_sound values scope h.1)

turn_scope : (name : Name) (index : Option Name) (e : Expr) (scope : Scope) (each : SoyType)
    → scope_there (loop_scope name index e scope (ListType each))
    ≡ Some (body_scope name index (Ok (ListType each)) scope)
turn_scope name None e scope each = refl
turn_scope name (Some index) e scope each = refl

-- the default of a select behind its words
last_word_there : (words : List WordBlock) (b : code_block.Block)
    → has_word_other (words ++ (other_word b ∷ [])) ≡ true
last_word_there [] b = refl
last_word_there (w ∷ words) b =
    or_later (bytes_eq w.is (codes "other")) (has_word_other (words ++ (other_word b ∷ []))) (last_word_there words b)

words_and_last : (ms : List OpCheck) (words : List WordBlock) (b : code_block.Block) (scope : Scope)
    → are_sound_arms ms false (map (λ (arm : WordBlock). arm.body) words) scope ≡ true
    → is_sound_block ms b false scope ≡ true
    → are_sound_arms ms false (map (λ (arm : WordBlock). arm.body) (words ++ (other_word b ∷ []))) scope ≡ true
words_and_last ms [] b scope h k = both_true _ _ k refl
words_and_last ms (w ∷ words) b scope h k =
    let parts = and_parts (is_sound_block ms w.body false scope)
    (are_sound_arms ms false (map (λ (arm : WordBlock). arm.body) words) scope) h in
    both_true _ _ parts.0 (words_and_last ms words b scope parts.1 k)

-- a template of a program, for the one that is declared
pub record IsRoutineOf (e : Declared) (found : Option Routine) : Type 0 where
  pub routine : Routine
  pub is : found ≡ Some routine
  pub kind : routine.kind ≡ e.template.kind
  pub params : routine.params ≡ e.template.params

module _ (l : Language) (all : List Declared) (places : List Place) (templates : List Routine) (ops : List Op)
    (routines : (namespace name : Name) (e : Declared) → callee all namespace name ≡ Some e
    → IsRoutineOf e (slice_get templates (callee_number all namespace name)))
    (apart : (namespace name : Name) (e : Declared) → callee all namespace name ≡ Some e
    → AreApart e.template.params [])
    (d : Declared) where
  abbrev cc : CompileContext
  cc = context_of_template l all places ops d

  abbrev pc : PlanContext
  pc = record { file = d.file; namespace = d.namespace; declared = all; translation = l.translation }

  abbrev around : Around
  around = around_template all d

  abbrev Pass : ℕ → ℕ → Bool → Scope → Type 0
  Pass = Passes templates places ops

  abbrev before_ : ℕ → List OpCheck
  before_ n = take n (checks templates places ops)

  -- ---- calls

  same_of_call : (name : Name) (hands : Bool) (given : Arguments) (scope : Scope) (ms : List OpCheck)
      (found : Option Declared) → callee all d.namespace name ≡ found
      → CalleeTakes found given hands d.template.params scope
      → are_sound_handed ms (params_there found)
      (map same_handed (handed_on_names hands d.template.params (names_given given) (params_there found))) scope ≡ true
  same_of_call name hands given scope ms None is takes = absurd takes
  same_of_call name hands given scope ms (Some e) is takes =
      let free : AreApart e.template.params [] = apart d.namespace name e is in
      same_sound hands d.template.params given ms scope e.template.params e.template.params [] free
      (all_named e.template.params free) takes

  call_sound : (name : Name) (hands : Bool) (given : Arguments) (site : Site) (scope : Scope) (ms : List OpCheck)
      (point : Place) (handed : List Handed) (found : Option Declared) → callee all d.namespace name ≡ found
      → CalleeTakes found given hands d.template.params scope
      → takes_classes (Takes point) (called_classes found) ≡ true
      → handed_names handed
      ≡ names_given given ++ handed_on_names hands d.template.params (names_given given) (params_there found)
      → are_sound_handed ms (params_there found) handed scope ≡ true
      → is_sound_call ms (slice_get templates (callee_number all d.namespace name))
      (record { template = callee_number all d.namespace name; given = handed; place = point; site = site }) scope
      ≡ true
  call_sound name hands given site scope ms point handed None is takes classes names sound = absurd takes
  call_sound name hands given site scope ms point handed (Some e) is takes classes names sound =
      let r : IsRoutineOf e (slice_get templates (callee_number all d.namespace name)) = routines d.namespace name e is
      in
      let free : AreApart e.template.params [] = apart d.namespace name e is in
      let c : Callee =
      record { template = callee_number all d.namespace name; given = handed; place = point; site = site } in
      let one = and_parts (takes_class (Takes point) (kind_class e.template.kind)) true classes in
      ap (λ f. is_sound_call ms f c scope) r.is
      ∙ both_true _ _
      (both_true _ _ (ap (λ k. takes_class (Takes point) (kind_class k)) r.kind ∙ one.0)
      (ap (λ ps. are_sound_handed ms ps handed scope) r.params ∙ sound))
      (ap (λ ps. has_required ps (handed_names handed)) r.params
      ∙ (ap (has_required e.template.params) names
      ∙ required_given hands d.template.params given ms scope e.template.params e.template.params
      (all_named e.template.params free) takes))

  -- what is given is passed by
  given_passed : (given : Given) (span : Span) (scope : Scope) → IsPath (given_frame pc given span scope) []
  given_passed (Plain e) span scope = empty_path
  given_passed (Block kind body) span scope = passed_by

  -- ---- texts and prints of a message

  texts_sound : (ns : Nodes) → AreTexts ns → (first from past end : ℕ) (number : Bool) (scope : Scope)
      → Taken places (nodes_plan pc ns scope) first → NodesTyped around ns scope
      → StandsNodes cc ns first from past → past ≤ end → Pass past end number scope → Pass from end number scope
  texts_sound no_node texts first from past end number scope taken typed h le rest =
      nothing_passes templates places ops from past end number scope h rest
  texts_sound (node (TextNode text span) ns) texts first from past end number scope taken typed h le rest =
      let one : Plan = node_plan pc (TextNode text span) scope in
      let two : Plan = nodes_plan pc ns scope in
      let middle : h.0 ≤ end = up_to (nodes_forward cc ns (first + 0) h.0 past h.2) le in
      text_sound templates places ops text from h.0 end number scope h.1 middle
      (texts_sound ns texts (first + 0) h.0 past end number scope
      (taken_from places two (first + hole_count one) (first + 0)
      (ap (λ k. first + k) (node_count pc (TextNode text span) scope))
      (second_taken places one two first (node_path pc (TextNode text span) scope) taken)) typed.1 h.2 le rest)
  texts_sound (node (Print e phname span) ns) texts first from past end number scope taken typed h le rest =
      let one : Plan = node_plan pc (Print e phname span) scope in
      let two : Plan = nodes_plan pc ns scope in
      let middle : h.0 ≤ end = up_to (nodes_forward cc ns (first + 1) h.0 past h.2) le in
      print_sound templates places ops e first from h.0 end number scope typed.0
      (hole_taken places (starts_at d.file span) (printed_classes e scope) first
      (first_taken places one two first taken)) h.1 middle
      (texts_sound ns texts (first + 1) h.0 past end number scope
      (second_taken places one two first (node_path pc (Print e phname span) scope) taken) typed.1 h.2 le rest)
  texts_sound (node (If arms other span) ns) texts first from past end number scope taken typed h le rest =
      absurd texts
  texts_sound (node (Switch e cases other span) ns) texts first from past end number scope taken typed h le rest =
      absurd texts
  texts_sound (node (For name index e body span) ns) texts first from past end number scope taken typed h le rest =
      absurd texts
  texts_sound (node (Let name e span) ns) texts first from past end number scope taken typed h le rest = absurd texts
  texts_sound (node (LetBlock name kind body span) ns) texts first from past end number scope taken typed h le rest =
      absurd texts
  texts_sound (node (Call name hands given span) ns) texts first from past end number scope taken typed h le rest =
      absurd texts
  texts_sound (node (MessageNode m other span) ns) texts first from past end number scope taken typed h le rest =
      absurd texts

  -- ---- which text of a message

  module _ (desc meaning : List ℕ) (body : MessageBody) (within : Span) (first from past end : ℕ) (number : Bool)
      (scope : Scope) (at : Site) (le : past ≤ end) (rest : Pass past end number scope)
      (source : StandsSource cc body first from past → Pass from end number scope) where
    abbrev own : Message
    own = message desc meaning body within

    translated_sound : (m : Message) → MessageTyped around m scope → MessageDemands around m scope → (parts : MsgParts)
        → IsPatternThere (Some parts) → FitsMessage (uses_of m) (Some parts) → (start_ : ℕ)
        → Taken places (parts_plan (uses_of m) scope at parts) start_
        → StandsParts places ops (uses_of m) parts start_ from past → Pass from end number scope
    translated_sound m typed demands parts pattern fit start_ taken h =
        parts_sound templates places ops (uses_of m) scope at (message_printable around m scope typed)
        (message_selects around m scope demands) parts fit number
        (whole_anywhere number parts (pattern_whole pattern.0 parts pattern.1)) start_ from past end taken h le
        rest

    fallback_sound : (other : Message) → MessageTyped around other scope → MessageDemands around other scope
        → (found : Option MsgParts) → IsPatternThere found → FitsMessage (uses_of other) found
        → AllTaken places (translated_plan (uses_of other) scope at found)
        (first + (body_holes l.translation body + translation_holes l.translation own))
        → StandsMessage cc (chosen_after other found) own first from past → Pass from end number scope
    fallback_sound other typed demands None pattern fit taken h = source h
    fallback_sound other typed demands (Some parts) pattern fit taken h =
        translated_sound other typed demands parts pattern fit
        (first + (body_holes l.translation body + translation_holes l.translation own)) taken.0 h

    chosen_sound : (found : Option MsgParts) → l.translation own ≡ found → (other : Fallback)
        → AllTaken places (translated_plan (uses_of own) scope at found ++ fallback_plans pc other scope at)
        (first + body_holes l.translation body)
        → IsPatternThere found → FallbackPattern l.translation other → FitsMessage (uses_of own) found
        → FallbackFits l.translation other → MessageTyped around own scope
        → MessageDemands around own scope → FallbackTyped around other scope → FallbackDemands around other scope
        → StandsMessage cc (chosen_of found (fallback_text l.translation other)) own first from past
        → Pass from end number scope
    chosen_sound None is no_fallback taken pattern other_pattern fit other_fit typed demands other_typed other_demands h
        = source h
    chosen_sound None is (fallback other) taken pattern other_pattern fit other_fit typed demands other_typed
        other_demands h =
        let none : translation_holes l.translation own ≡ 0 = ap (translated_holes (uses_of own)) is in
        fallback_sound other other_typed other_demands (l.translation other) other_pattern other_fit
        (all_from places (translation_plans pc other scope at) (first + body_holes l.translation body)
        (first + (body_holes l.translation body + translation_holes l.translation own)) (omega (arith, none)) taken) h
    chosen_sound (Some parts) is other taken pattern other_pattern fit other_fit typed demands other_typed other_demands
        h =
        translated_sound own typed demands parts pattern fit (first + body_holes l.translation body) taken.0 h

  -- ---- nodes

  mutual
    node_sound : (n : Node) (first from past end : ℕ) (number : Bool) (scope : Scope)
        → Taken places (node_plan pc n scope) first → NodePatterns l.translation n
        → NodeFits l.translation n → NodeTyped around n scope
        → NodeDemands around n scope → StandsNode cc n first from past → past ≤ end
        → Pass past end number (scope_past n scope) → Pass from end number scope
    node_sound (TextNode text span) first from past end number scope taken patterns fit typed demands h le rest =
        text_sound templates places ops text from past end number scope h le rest
    node_sound (Print e phname span) first from past end number scope taken patterns fit typed demands h le rest =
        print_sound templates places ops e first from past end number scope typed
        (hole_taken places (starts_at d.file span) (printed_classes e scope) first taken) h le rest
    node_sound (If arms other span) first from past end number scope taken patterns fit typed demands h le rest =
        let ps : List Plan = arm_plans pc arms scope in
        let last : Plan = other_plan pc other scope in
        let split = last_taken places ps last first (arm_holes l.translation arms) (arm_count pc arms scope)
        (arms_taken places (starts_at d.file span) (ps ++ (last ∷ [])) first taken) in
        let inside : from ≤ length ops = op_within templates places ops (IfOp h.0 h.1) from past h.4 in
        op_passes templates places ops (IfOp h.0 h.1) from past end number scope scope h.4 le
        (passes_if _ scope
        (both_true (list_all (is_sound_branch (before_ from) scope) h.0) (is_sound_rest (before_ from) h.1 scope)
        (arms_sound arms first from scope split.0 patterns.0 fit.0 typed.0 demands.0 inside h.0 h.2)
        (other_sound other (first + arm_holes l.translation arms) from scope split.1 patterns.1 fit.1 typed.1 demands.1
        inside h.1
        h.3))) rest
    node_sound (Switch e cases other span) first from past end number scope taken patterns fit typed demands h le rest =
        let ps : List Plan = case_plans pc cases scope in
        let last : Plan = other_plan pc other scope in
        let split = last_taken places ps last first (case_holes l.translation cases) (case_count pc cases scope)
        (arms_taken places (starts_at d.file span) (ps ++ (last ∷ [])) first taken) in
        let inside : from ≤ length ops = op_within templates places ops (SwitchOp e h.0 h.1) from past h.4 in
        op_passes templates places ops (SwitchOp e h.0 h.1) from past end number scope scope h.4 le
        (passes_if _ scope
        (both_true _ _
        (both_true (is_sound_expr is_simple e scope) (list_all (is_sound_choice (before_ from) scope) h.0)
        (expr_sound is_simple e scope demands.0)
        (cases_sound cases first from scope split.0 patterns.0 fit.0 typed.0 demands.1 inside h.0 h.2))
        (other_sound other (first + case_holes l.translation cases) from scope split.1 patterns.1 fit.1 typed.1
        demands.2 inside
        h.1 h.3))) rest
    node_sound (For name index e body span) first from past end number scope taken patterns fit typed demands h le rest
        =
        let within : Scope = body_scope name index (type_of e scope) scope in
        let o : Op = ForOp name index e h.0 in
        let inside : from ≤ length ops = op_within templates places ops o from past h.3 in
        let there : scope_of_turn name index e scope (type_of e scope) ≡ Some within =
        ap (scope_of_turn name index e scope) typed.0.typed
        ∙ (turn_scope name index e scope typed.0.each
        ∙ ap (λ r. Some (body_scope name index r scope)) (sym typed.0.typed)) in
        op_passes templates places ops o from past end number scope scope h.3 le
        (passes_if _ scope
        (both_true (is_formed_expr e)
        (goes_on (is_sound_block (before_ from) h.0 false) (scope_of_turn name index e scope (type_of e scope)))
        typed.0.formed
        (ap (goes_on (is_sound_block (before_ from) h.0 false)) there
        ∙ block_sound templates places ops h.0 from false within
        (nodes_forward cc body first h.0.first h.0.end h.2) h.1 inside
        (nodes_sound body first h.0.first h.0.end h.0.end false within
        (body_taken places (starts_at d.file span) (nodes_plan pc body within) first taken) patterns fit typed.1 demands
        h.2
        (to_itself h.0.end) (λ s. end_passes templates places ops h.0.end false s))))) rest
    node_sound (Let name e span) first from past end number scope taken patterns fit typed demands h le rest =
        op_passes templates places ops (LetOp name e) from past end number scope
        (with_variable name (type_of e scope) scope) h le
        (ap (λ b. if b then scope_bound name (type_of e scope) scope else None) typed.formed
        ∙ (ap (λ r. scope_bound name r scope) typed.typed
        ∙ ap (λ r. Some (with_variable name r scope)) (sym typed.typed))) rest
    node_sound (LetBlock name kind body span) first from past end number scope taken patterns fit typed demands h le
        rest =
        let o : Op = LetBlockOp name kind h.0 in
        let inside : from ≤ length ops = op_within templates places ops o from past h.3 in
        op_passes templates places ops o from past end number scope ((name, kind_type kind) ∷ scope) h.3 le
        (ap (λ b. if b then Some ((name, kind_type kind) ∷ scope) else None)
        (block_sound templates places ops h.0 from false scope
        (nodes_forward cc body first h.0.first h.0.end h.2) h.1 inside
        (nodes_sound body first h.0.first h.0.end h.0.end false scope
        (frame_taken places (closes_at d.file span) kind (nodes_plan pc body scope) first taken) patterns fit typed
        demands h.2
        (to_itself h.0.end) (λ s. end_passes templates places ops h.0.end false s)))) rest
    node_sound (Call name hands given span) first from past end number scope taken patterns fit typed demands h le rest
        =
        let site : Site = starts_at d.file span in
        let found : Option Declared = callee all d.namespace name in
        let one : Plan = Hole site (called_classes found) in
        let frames : Plan = argument_frames pc given scope in
        let same : List Name = handed_on_names hands d.template.params (names_given given) (params_there found) in
        let o : Op = CallOp (record {
          template = callee_number all d.namespace name;
          given = h.0;
          place = place_of places first;
          site = site;
        }) in
        let inside : from ≤ length ops = op_within templates places ops o from past h.2 in
        op_passes templates places ops o from past end number scope scope h.2 le
        (passes_if _ scope
        (call_sound name hands given site scope (before_ from) (place_of places first) h.0 found refl typed.0
        (hole_taken places site (called_classes found) first (first_taken places one frames first taken))
        (stands_names cc given same h.0 (first + 1) from h.1)
        (arguments_sound given given hands (params_there found) (params_there found) [] (first + 1) from scope
        (second_taken places one frames first (record { parts = _; path = hole }) taken) patterns fit typed.1 demands
        inside
        (λ x there. there) h.0 h.1
        (same_of_call name hands given scope (before_ from) found refl typed.0)))) rest
    node_sound (MessageNode (message desc meaning body within) other span) first from past end number scope taken
        patterns fit typed demands h le rest =
        let at : Site = starts_at d.file span in
        let m : Message = message desc meaning body within in
        let source : Plan = body_plan pc body scope at in
        let behind : List Plan = translation_plans pc m scope at ++ fallback_plans pc other scope at in
        let every : AllTaken places (source ∷ behind) first =
        arms_taken places at (source ∷ behind) first taken in
        chosen_sound desc meaning body within first from past end number scope at le rest
        (λ stands. source_sound body first from past end number scope at every.0 fit.1 typed.0 demands.0 stands le rest)
        (l.translation m) refl other
        (all_from places behind (first + hole_count source) (first + body_holes l.translation body)
        (ap (λ k. first + k) (body_count pc body scope at)) every.1) patterns.0 patterns.1 fit.0 fit.2 typed.0 demands.0
        typed.1 demands.1 h

    pub nodes_sound : (ns : Nodes) (first from past end : ℕ) (number : Bool) (scope : Scope)
        → Taken places (nodes_plan pc ns scope) first → NodesPatterns l.translation ns
        → NodesFit l.translation ns → NodesTyped around ns scope
        → NodesDemand around ns scope → StandsNodes cc ns first from past → past ≤ end
        → ((s : Scope) → Pass past end number s) → Pass from end number scope
    nodes_sound no_node first from past end number scope taken patterns fit typed demands h le rest =
        nothing_passes templates places ops from past end number scope h (rest scope)
    nodes_sound (node n ns) first from past end number scope taken patterns fit typed demands h le rest =
        let one : Plan = node_plan pc n scope in
        let two : Plan = nodes_plan pc ns (scope_past n scope) in
        let middle : h.0 ≤ end =
        up_to (nodes_forward cc ns (first + node_holes l.translation n) h.0 past h.2) le in
        node_sound n first from h.0 end number scope (first_taken places one two first taken) patterns.0 fit.0 typed.0
        demands.0
        h.1 middle
        (nodes_sound ns (first + node_holes l.translation n) h.0 past end number (scope_past n scope)
        (taken_from places two (first + hole_count one) (first + node_holes l.translation n)
        (ap (λ k. first + k) (node_count pc n scope))
        (second_taken places one two first (node_path pc n scope) taken)) patterns.1 fit.1 typed.1 demands.1 h.2 le
        rest)

    other_sound : (other : Otherwise) (first before : ℕ) (scope : Scope) → Taken places (other_plan pc other scope)
        first
        → OtherPatterns l.translation other
        → OtherFits l.translation other → OtherTyped around other scope → OtherDemands around other scope
        → before ≤ length ops → (b : Option code_block.Block) → StandsOther cc other b first before
        → is_sound_rest (before_ before) b scope ≡ true
    other_sound no_otherwise first before scope taken patterns fit typed demands inside None h = refl
    other_sound no_otherwise first before scope taken patterns fit typed demands inside (Some b) h = absurd h
    other_sound (otherwise body) first before scope taken patterns fit typed demands inside None h = absurd h
    other_sound (otherwise body) first before scope taken patterns fit typed demands inside (Some b) h =
        block_sound templates places ops b before false scope (nodes_forward cc body first b.first b.end h.1) h.0 inside
        (nodes_sound body first b.first b.end b.end false scope taken patterns fit typed demands h.1 (to_itself b.end)
        (λ s. end_passes templates places ops b.end false s))

    arms_sound : (arms : Arms) (first before : ℕ) (scope : Scope) → AllTaken places (arm_plans pc arms scope) first
        → ArmPatterns l.translation arms
        → ArmsFit l.translation arms → ArmsTyped around arms scope → ArmsDemand around arms scope
        → before ≤ length ops → (branches : List Branch) → StandsArms cc arms branches first before
        → list_all (is_sound_branch (before_ before) scope) branches ≡ true
    arms_sound no_arm first before scope taken patterns fit typed demands inside [] h = refl
    arms_sound no_arm first before scope taken patterns fit typed demands inside (b ∷ branches) h = absurd h
    arms_sound (arm e body arms) first before scope taken patterns fit typed demands inside [] h = absurd h
    arms_sound (arm e body arms) first before scope taken patterns fit typed demands inside (b ∷ branches) h =
        let p : Plan = nodes_plan pc body (narrowed e scope) in
        both_true _ _
        (ap (λ z. is_sound_expr any_type z scope && is_sound_block (before_ before) b.body false (narrowed z scope)) h.0
        ∙ both_true (is_sound_expr any_type e scope) (is_sound_block (before_ before) b.body false (narrowed e scope))
        (expr_sound any_type e scope
        (record { of = demands.0.of; formed = demands.0.formed; typed = demands.0.typed; passes = refl }))
        (block_sound templates places ops b.body before false (narrowed e scope)
        (nodes_forward cc body first b.body.first b.body.end h.2) h.1 inside
        (nodes_sound body first b.body.first b.body.end b.body.end false (narrowed e scope) taken.0 patterns.0 fit.0
        typed.0
        demands.1 h.2 (to_itself b.body.end) (λ s. end_passes templates places ops b.body.end false s))))
        (arms_sound arms (first + nodes_holes l.translation body) before scope
        (all_from places (arm_plans pc arms scope) (first + hole_count p) (first + nodes_holes l.translation body)
        (ap (λ k. first + k) (nodes_count pc body (narrowed e scope))) taken.1) patterns.1 fit.1 typed.1 demands.2
        inside branches
        h.3)

    cases_sound : (cases : Cases) (first before : ℕ) (scope : Scope) → AllTaken places (case_plans pc cases scope) first
        → CasePatterns l.translation cases
        → CasesFit l.translation cases → CasesTyped around cases scope → CasesDemand around cases scope
        → before ≤ length ops → (choices : List Choice) → StandsCases cc cases choices first before
        → list_all (is_sound_choice (before_ before) scope) choices ≡ true
    cases_sound no_case first before scope taken patterns fit typed demands inside [] h = refl
    cases_sound no_case first before scope taken patterns fit typed demands inside (b ∷ choices) h = absurd h
    cases_sound (case values body cases) first before scope taken patterns fit typed demands inside [] h = absurd h
    cases_sound (case values body cases) first before scope taken patterns fit typed demands inside (b ∷ choices) h =
        let p : Plan = nodes_plan pc body scope in
        both_true _ _
        (both_true (are_sound_values b.values scope) (is_sound_block (before_ before) b.body false scope)
        (ap (λ es. are_sound_values es scope) h.0 ∙ values_sound values scope demands.0)
        (block_sound templates places ops b.body before false scope
        (nodes_forward cc body first b.body.first b.body.end h.2) h.1 inside
        (nodes_sound body first b.body.first b.body.end b.body.end false scope taken.0 patterns.0 fit.0 typed.0
        demands.1 h.2 (to_itself b.body.end) (λ s. end_passes templates places ops b.body.end false s))))
        (cases_sound cases (first + nodes_holes l.translation body) before scope
        (all_from places (case_plans pc cases scope) (first + hole_count p) (first + nodes_holes l.translation body)
        (ap (λ k. first + k) (nodes_count pc body scope)) taken.1) patterns.1 fit.1 typed.1 demands.2 inside choices
        h.3)

    -- what a call gives; behind it stands what is handed on
    arguments_sound : (args every : Arguments) (hands : Bool) (ps params : List Param) (names : List Name)
        (first before : ℕ) (scope : Scope) → Taken places (argument_frames pc args scope) first
        → ArgumentPatterns l.translation args
        → ArgumentsFit l.translation args → ArgumentsTyped around args scope
        → ArgumentsDemand around args names params scope → before ≤ length ops
        → ((x : Name) → is_among (names_given args) x ≡ true → is_among (names_given every) x ≡ true)
        → (handed : List Handed)
        → StandsGiven cc args (handed_on_names hands d.template.params (names_given every) ps) handed first before
        → are_sound_handed (before_ before) params
        (map same_handed (handed_on_names hands d.template.params (names_given every) ps)) scope ≡ true
        → are_sound_handed (before_ before) params handed scope ≡ true
    arguments_sound no_argument every hands ps params names first before scope taken patterns fit typed demands inside
        there handed h last = ap (λ hs. are_sound_handed (before_ before) params hs scope) h ∙ last
    arguments_sound (argument name given span rest) every hands ps params names first before scope taken patterns fit
        typed demands inside there [] h last = absurd h
    arguments_sound (argument name given span rest) every hands ps params names first before scope taken patterns fit
        typed demands inside there (one ∷ handed) h last =
        let same : List Name = handed_on_names hands d.template.params (names_given every) ps in
        let frame : Plan = given_frame pc given span scope in
        let frames : Plan = argument_frames pc rest scope in
        let fits : fits_param (λ to. is_sound_given (before_ before) one.name one.by to scope)
        (param_of one.name params) ≡ true =
        ap (λ n. fits_param (λ to. is_sound_given (before_ before) n one.by to scope) (param_of n params)) h.0
        ∙ (ap (fits_param (λ to. is_sound_given (before_ before) name one.by to scope)) demands.0.named
        ∙ given_sound given one.by name (param_type demands.0.param) span first before scope
        (first_taken places frame frames first taken) patterns.0 fit.0 typed.0 demands.1 demands.0.takes inside h.1) in
        let alone : not (is_among (handed_names handed) one.name) ≡ true =
        ap (λ n. not (is_among (handed_names handed) n)) h.0
        ∙ (ap (λ ns. not (is_among ns name))
        (stands_names cc rest same handed (first + given_holes l.translation given) before h.2)
        ∙ ap not
        (among_neither name (names_given rest) same
        (later_free around rest (name ∷ names) params scope demands.2 name (itself_among name names))
        (given_not_on hands d.template.params every name (there name (itself_among name (names_given rest))) ps))) in
        both_true _ _ (both_true _ _ fits alone)
        (arguments_sound rest every hands ps params (name ∷ names) (first + given_holes l.translation given) before
        scope
        (taken_from places frames (first + hole_count frame) (first + given_holes l.translation given)
        (ap (λ k. first + k) (given_count pc given span scope))
        (second_taken places frame frames first (record { parts = []; path = given_passed given span scope }) taken))
        patterns.1 fit.1 typed.1 demands.2 inside
        (λ x k. there x (or_later (bytes_eq x name) (is_among (names_given rest) x) k)) handed h.2 last)

    given_sound : (given : Given) (by : HandedBy) (name : Name) (to : SoyType) (span : Span) (first before : ℕ)
        (scope : Scope) → Taken places (given_frame pc given span scope) first → GivenPatterns l.translation given
        → GivenFits l.translation given
        → GivenTyped around given scope → GivenDemands around given scope → GivenTaken given to scope
        → before ≤ length ops → StandsHanded cc given by first before
        → is_sound_given (before_ before) name by to scope ≡ true
    given_sound (Plain e) (HandedValue g) name to span first before scope taken patterns fit typed demands takes inside
        h =
        ap (λ z. is_sound_expr (accepts to) z scope) h
        ∙ expr_sound (accepts to) e scope
        (record { of = takes.of; formed = takes.formed; typed = takes.typed; passes = takes.takes })
    given_sound (Plain e) (HandedBlock of b) name to span first before scope taken patterns fit typed demands takes
        inside h =
        absurd h
    given_sound (Plain e) HandedSame name to span first before scope taken patterns fit typed demands takes inside h =
        absurd h
    given_sound (Block kind body) (HandedBlock of b) name to span first before scope taken patterns fit typed demands
        takes inside h =
        both_true (is_sound_block (before_ before) b false scope) (accepts to (kind_type of))
        (block_sound templates places ops b before false scope (nodes_forward cc body first b.first b.end h.2) h.1
        inside
        (nodes_sound body first b.first b.end b.end false scope
        (frame_taken places (closes_at d.file span) kind (nodes_plan pc body scope) first taken) patterns fit typed
        demands h.2
        (to_itself b.end) (λ s. end_passes templates places ops b.end false s)))
        (ap (λ k. accepts to (kind_type k)) h.0 ∙ takes)
    given_sound (Block kind body) (HandedValue g) name to span first before scope taken patterns fit typed demands
        takes inside h = absurd h
    given_sound (Block kind body) HandedSame name to span first before scope taken patterns fit typed demands takes
        inside h =
        absurd h

    source_sound : (body : MessageBody) (first from past end : ℕ) (number : Bool) (scope : Scope) (at : Site)
        → Taken places (body_plan pc body scope at) first → BodyFits l.translation body → BodyTyped around body scope
        → BodyDemands around body scope → StandsSource cc body first from past → past ≤ end
        → Pass past end number scope → Pass from end number scope
    source_sound (Parts ns) first from past end number scope at taken fit typed demands h le rest =
        texts_sound ns demands.0 first from past end number scope taken typed h le rest
    source_sound (Plural e offset cases other) first from past end number scope at taken fit typed demands h le rest =
        let ps : List Plan = plural_plans pc cases scope at in
        let last : Plan = body_plan pc other scope at in
        let split = last_taken places ps last first (plural_holes l.translation cases) (plural_count pc cases scope at)
        (arms_taken places at (ps ++ (last ∷ [])) first taken) in
        let o : Op = PluralOp e offset false h.0 (other_arm h.1 ∷ []) in
        let inside : from ≤ length ops = op_within templates places ops o from past h.5 in
        op_passes templates places ops o from past end number scope scope h.5 le
        (passes_if (is_sound_plural (before_ from) e offset h.0 (other_arm h.1 ∷ []) scope) scope
        (both_true _ _ (both_true _ _ (both_true _ _ (both_true (is_sound_expr is_int e scope) (nat_le offset largest)
        (expr_sound is_int e scope demands.0) demands.1) refl)
        (plural_cases_sound cases first from scope at split.0 fit.0 typed.0 demands.2 inside h.0 h.2))
        (both_true _ _
        (block_sound templates places ops h.1 from true scope
        (source_forward cc other (first + plural_holes l.translation cases) h.1.first h.1.end h.4) h.3 inside
        (source_sound other (first + plural_holes l.translation cases) h.1.first h.1.end h.1.end true scope at split.1
        fit.1 typed.1 demands.3 h.4 (to_itself h.1.end) (end_passes templates places ops h.1.end true scope))) refl)))
        rest
    source_sound (Select e cases other) first from past end number scope at taken fit typed demands h le rest =
        let ps : List Plan = select_plans pc cases scope at in
        let last : Plan = body_plan pc other scope at in
        let split = last_taken places ps last first (select_holes l.translation cases) (select_count pc cases scope at)
        (arms_taken places at (ps ++ (last ∷ [])) first taken) in
        let o : Op = SelectOp e (h.0 ++ (other_word h.1 ∷ [])) in
        let inside : from ≤ length ops = op_within templates places ops o from past h.5 in
        op_passes templates places ops o from past end number scope scope h.5 le
        (passes_if (is_sound_select (before_ from) e (h.0 ++ (other_word h.1 ∷ [])) scope) scope
        (both_true _ _ (both_true (is_sound_expr is_string e scope) (has_word_other (h.0 ++ (other_word h.1 ∷ [])))
        (expr_sound is_string e scope demands.0) (last_word_there h.0 h.1))
        (words_and_last (before_ from) h.0 h.1 scope
        (select_cases_sound cases first from scope at split.0 fit.0 typed.0 demands.2 inside h.0 h.2)
        (block_sound templates places ops h.1 from false scope
        (source_forward cc other (first + select_holes l.translation cases) h.1.first h.1.end h.4) h.3 inside
        (source_sound other (first + select_holes l.translation cases) h.1.first h.1.end h.1.end false scope at split.1
        fit.1 typed.1 demands.3 h.4 (to_itself h.1.end) (end_passes templates places ops h.1.end false scope)))))) rest

    plural_cases_sound : (cases : PluralCases) (first before : ℕ) (scope : Scope) (at : Site)
        → AllTaken places (plural_plans pc cases scope at) first → PluralFits l.translation cases
        → PluralTyped around cases scope → PluralDemands around cases scope → before ≤ length ops
        → (blocks : List ExactBlock) → StandsPluralCases cc cases blocks first before
        → are_sound_arms (before_ before) true (map (λ (arm : ExactBlock). arm.body) blocks) scope ≡ true
    plural_cases_sound no_plural_case first before scope at taken fit typed demands inside [] h = refl
    plural_cases_sound no_plural_case first before scope at taken fit typed demands inside (b ∷ blocks) h = absurd h
    plural_cases_sound (plural_case n body cases) first before scope at taken fit typed demands inside [] h = absurd h
    plural_cases_sound (plural_case n body cases) first before scope at taken fit typed demands inside (b ∷ blocks) h =
        let p : Plan = body_plan pc body scope at in
        both_true _ _
        (block_sound templates places ops b.body before true scope
        (source_forward cc body first b.body.first b.body.end h.2) h.1 inside
        (source_sound body first b.body.first b.body.end b.body.end true scope at taken.0 fit.0 typed.0 demands.0 h.2
        (to_itself b.body.end) (end_passes templates places ops b.body.end true scope)))
        (plural_cases_sound cases (first + body_holes l.translation body) before scope at
        (all_from places (plural_plans pc cases scope at) (first + hole_count p)
        (first + body_holes l.translation body) (ap (λ k. first + k) (body_count pc body scope at)) taken.1) fit.1
        typed.1 demands.1 inside blocks h.3)

    select_cases_sound : (cases : SelectCases) (first before : ℕ) (scope : Scope) (at : Site)
        → AllTaken places (select_plans pc cases scope at) first → SelectFits l.translation cases
        → SelectTyped around cases scope → SelectDemands around cases scope → before ≤ length ops
        → (blocks : List WordBlock) → StandsSelectCases cc cases blocks first before
        → are_sound_arms (before_ before) false (map (λ (arm : WordBlock). arm.body) blocks) scope ≡ true
    select_cases_sound no_select_case first before scope at taken fit typed demands inside [] h = refl
    select_cases_sound no_select_case first before scope at taken fit typed demands inside (b ∷ blocks) h = absurd h
    select_cases_sound (select_case word body cases) first before scope at taken fit typed demands inside [] h =
        absurd h
    select_cases_sound (select_case word body cases) first before scope at taken fit typed demands inside (b ∷ blocks)
        h =
        let p : Plan = body_plan pc body scope at in
        both_true _ _
        (block_sound templates places ops b.body before false scope
        (source_forward cc body first b.body.first b.body.end h.2) h.1 inside
        (source_sound body first b.body.first b.body.end b.body.end false scope at taken.0 fit.0 typed.0 demands.0 h.2
        (to_itself b.body.end) (end_passes templates places ops b.body.end false scope)))
        (select_cases_sound cases (first + body_holes l.translation body) before scope at
        (all_from places (select_plans pc cases scope at) (first + hole_count p)
        (first + body_holes l.translation body) (ap (λ k. first + k) (body_count pc body scope at)) taken.1) fit.1
        typed.1 demands.1 inside blocks h.3)
