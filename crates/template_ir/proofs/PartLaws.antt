-- What a program gives for translations is what they give, where the places are those of the holes.
use Rattle.std.proofs.Common.{◌≡◌, ◌+◌, ◌≤◌, ℕ, ℤ, pos, Bool, true, false, List, [], ◌∷◌, ◌++◌, Option, Some, None}
use Rattle.std.proofs.Common.{if◌then◌else◌, refl, sym, ap, ◌∙◌, arith, take, bytes_eq}
use Rattle.std.specs.Prelude.{◌-ℤ◌, codes}
use Rattle.std.specs.Option.{option_or}
use Rattle.soy_base.specs.declared.place.Place.{Place}
use Rattle.plural_rules.specs.Category.{is_same}
use Rattle.plural_rules.specs.declared.category.Category.{Category}
use Rattle.plural_rules.specs.declared.category.Category.TheVariants as category
use Rattle.soy_rules.specs.Cost.{cost}
use Rattle.soy_tree.specs.Expressions.{Expr}
use Rattle.soy_tree.specs.MessageParts.{MsgPart, MsgParts, ExactArms, NamedArms, SelectArms, TextPart, Placeholder}
use Rattle.soy_tree.specs.MessageParts.{NumberPart, PluralPart, SelectPart, no_part, part, no_exact_arm, exact_arm}
use Rattle.soy_tree.specs.MessageParts.{no_named_arm, named_arm, no_select_arm, select_arm}
use Rattle.soy_tree.specs.MessageText.{MessageItem, Character, Printed, Cut, PrintCut, TagCut, TextCut}
use Rattle.soy_rules.specs.Placeholders.{Use}
use Rattle.soy_rules.specs.Templates.{Declared}
use Rattle.soy_rules.specs.Val.{is_same_int}
use Rattle.soy_tree.specs.Values.{IntValue}
use Rattle.soy_pieces.specs.Branch.{PartMeans, arm_means, cut_means, exact_of, exact_rows, int_of, named_of}
use Rattle.soy_pieces.specs.Branch.{named_rows}
use Rattle.soy_pieces.specs.Branch.{part_means, parts_means, plural_means, row_count, select_means, select_of}
use Rattle.soy_pieces.specs.Branch.{select_rows}
use Rattle.soy_pieces.specs.Branch.{selector, tag_means, word_of}
use Rattle.soy_pieces.specs.Giving.{RunEnv, StateSoFar}
use Rattle.soy_pieces.specs.Outcome.{ArmTaken, Outcome, continued_by}
use Rattle.soy_pieces.specs.Pieces.{RunContext, valued}
use Rattle.soy_pieces.specs.Site.{Site}
use Rattle.soy_rules.specs.Placeholders.{placeholder_cut}
use Rattle.soy_pieces.proofs.Outcomes.{first_none}
use Rattle.template_ir.specs.HoleCounts.{exact_holes, part_holes, parts_holes}
use Rattle.template_ir.specs.Ops.{NumberOp, PluralOp, PrintOp, Program, SelectOp}
use Rattle.template_ir.specs.Run.{OpMeans, arm_gives, block_gives, category_in, exact_block, named_block, ops_give}
use Rattle.template_ir.specs.Run.{plural_gives, select_block, value_gives, word_block}
use Rattle.template_ir.specs.StandFor.{StandsCut, StandsExact, StandsNamed, StandsOp, StandsPart, StandsParts}
use Rattle.template_ir.specs.StandFor.{StandsSelected}
use Rattle.template_ir.specs.StandFor.{StandsTag, StandsWords, place_of}
use Rattle.template_ir.specs.declared.op.Block as code_block
use Rattle.template_ir.specs.declared.op.ExactBlock.{ExactBlock}
use Rattle.template_ir.specs.declared.op.NamedBlock.{NamedBlock}
use Rattle.template_ir.specs.declared.op.WordBlock.{WordBlock}
use Rattle.template_ir.proofs.Core.{all_means, costed, free_step, from_here, op_first, print_law, text_law, value_same}
use Rattle.template_ir.proofs.Forward.{op_forward, parts_forward, tag_forward}
use Rattle.template_ir.proofs.Matching.{EnvsMatch, cost_match, operand_match}
use Rattle.template_ir.specs.Placed.{CutPlaced, ExactPlaced, NamedPlaced, PartPlaced, PartsPlaced, Picks}
use Rattle.template_ir.specs.Placed.{SelectedPlaced, TagPlaced, WordsPlaced}
use Rattle.template_ir.proofs.Plain.{Same, plain, same_free}
use Rattle.soy_base.proofs.Tables.{part_none, part_take}

pub no_later : {a b c : ℕ} → a ≤ b → b ≤ c → a ≤ c
no_later h k = omega (arith, h, k)

by_selector : (X : Option Expr → Type 0) → X None → ((e : Expr) → X (Some e)) → (chosen : Option Expr) → X chosen
by_selector X none some None = none
by_selector X none some (Some e) = some e

module _ (c : RunContext) (p : Program) (places : List Place) (called : Site → Declared → RunEnv → Outcome)
    (opens : Site → ℕ → RunEnv → Outcome) (Opened : ℕ → RunEnv → Type 0)
    (direction : p.direction ≡ c.direction) where
  -- at the end of a block
  pub end_of_block : (end : ℕ) (k : ℤ) (other : RunEnv) (a z : Outcome) → Same a z
      → Same a (from_here c p places called opens Opened direction end end k other z)
  end_of_block end k other a z h =
      h ∙ (sym (same_free (record { cost = 0; work = 1; choices = [] }) z refl)
      ∙ ap (λ ms. plain (continued_by (ops_give ms k other) z))
      (sym (part_none (all_means c p places called opens Opened direction) end end (omega arith))))

  -- a body as a block, where it goes on as its ops do
  pub as_block : (b : code_block.Block) (before : ℕ) → b.end ≤ before → (k : ℤ) (other : RunEnv) (a z : Outcome)
      → Same a (from_here c p places called opens Opened direction b.first b.end k other z)
      → Same a
      (continued_by (block_gives (take before (all_means c p places called opens Opened direction)) b k other) z)
  as_block b before l k other a z h =
      h
      ∙ ap (λ ms. plain (continued_by (ops_give ms k other) z))
      (sym (part_take (all_means c p places called opens Opened direction) before b.first b.end l))

  pub goes_here : (at past end : ℕ) (k : ℤ) (other : RunEnv) (rest a : Outcome) → past ≡ at
      → Same a (from_here c p places called opens Opened direction past end k other rest)
      → Same a (from_here c p places called opens Opened direction at end k other rest)
  goes_here at past end k other rest a h same =
      same ∙ ap (λ n. plain (from_here c p places called opens Opened direction n end k other rest)) h

  -- an arm that is chosen, or the search goes on
  arm_or : (before : ℕ) (other : RunEnv) (r : ℤ) (so_far : StateSoFar) (on : StateSoFar → Outcome) (z : Outcome)
      (t u : Bool) → t ≡ u → (X Y : Type 0) → Picks t X Y → (i : ℕ) (m : PartMeans) (e e' : Option (ℕ × PartMeans))
      (b0 : code_block.Block) (b b' : Option code_block.Block)
      → (X → Same (m r so_far on) (continued_by (block_gives (take before
      (all_means c p places called opens Opened direction)) b0 r other) z))
      → (Y → Same (arm_means (option_or e e') r so_far on) (continued_by (arm_gives (take before
      (all_means c p places called opens Opened direction)) (option_or b b') r other) z))
      → Same (arm_means (option_or (if t then Some (i, m) else e) e') r so_far on)
      (continued_by (arm_gives (take before (all_means c p places called opens Opened direction))
      (option_or (if u then Some b0 else b) b') r other) z)
  arm_or before other r so_far on z true true same X Y h i m e e' b0 b b' f g =
      same_free (record { cost = 0; work = 1; choices = ArmTaken (Some i) ∷ [] }) (m r so_far on) refl ∙ f h
  arm_or before other r so_far on z true false same X Y h i m e e' b0 b b' f g = let no : ⊥ = cc in absurd no
  arm_or before other r so_far on z false true same X Y h i m e e' b0 b b' f g = let no : ⊥ = cc in absurd no
  arm_or before other r so_far on z false false same X Y h i m e e' b0 b b' f g = g h

  -- the same where the search is the last
  arm_last : (before : ℕ) (other : RunEnv) (r : ℤ) (so_far : StateSoFar) (on : StateSoFar → Outcome) (z : Outcome)
      (t u : Bool) → t ≡ u → (X Y : Type 0) → Picks t X Y → (i : ℕ) (m : PartMeans) (e : Option (ℕ × PartMeans))
      (b0 : code_block.Block) (b : Option code_block.Block)
      → (X → Same (m r so_far on) (continued_by (block_gives (take before
      (all_means c p places called opens Opened direction)) b0 r other) z))
      → (Y → Same (arm_means e r so_far on) (continued_by (arm_gives (take before
      (all_means c p places called opens Opened direction)) b r other) z))
      → Same (arm_means (if t then Some (i, m) else e) r so_far on)
      (continued_by (arm_gives (take before (all_means c p places called opens Opened direction))
      (if u then Some b0 else b) r other) z)
  arm_last before other r so_far on z true true same X Y h i m e b0 b f g =
      same_free (record { cost = 0; work = 1; choices = ArmTaken (Some i) ∷ [] }) (m r so_far on) refl ∙ f h
  arm_last before other r so_far on z true false same X Y h i m e b0 b f g = let no : ⊥ = cc in absurd no
  arm_last before other r so_far on z false true same X Y h i m e b0 b f g = let no : ⊥ = cc in absurd no
  arm_last before other r so_far on z false false same X Y h i m e b0 b f g = g h

  tag_law : (uses : List Use) (text : List ℕ) (tag : List MessageItem) (hole at past : ℕ)
      → StandsTag places p.ops text tag hole at past → (end : ℕ) (k : ℤ) (rest : Outcome) → past ≤ end
      → (env other : RunEnv) → EnvsMatch env other
      → (so_far : StateSoFar) (on : StateSoFar → Outcome) (Next : StateSoFar → Type 0)
      → TagPlaced c places called Opened env text tag hole so_far Next
      → ((now : StateSoFar) → Next now
      → Same (on now) (from_here c p places called opens Opened direction past end k other rest))
      → Same (tag_means c.direction c.category uses env text tag so_far on)
      (from_here c p places called opens Opened direction at end k other rest)
  tag_law uses text [] hole at past h end k rest l env other all so_far on Next placed next =
      text_law c p places called opens Opened direction text at past end k rest h l other so_far on Next placed next
  tag_law uses text (Character x span ∷ tag) hole at past h end k rest l env other all so_far on Next placed next =
      tag_law uses (text ++ (x ∷ [])) tag hole at past h end k rest l env other all so_far on Next placed next
  tag_law uses text (Printed e phname span ∷ tag) hole at past h end k rest l env other all so_far on Next placed
      next =
      let late : h.1 ≤ end = no_later (tag_forward places p.ops [] tag (hole + 1) h.1 past h.4) l in
      let later : h.0 ≤ end = no_later (op_forward places p.ops (PrintOp e (place_of places hole)) h.0 h.1 h.3) late in
      text_law c p places called opens Opened direction text at h.0 end k rest h.2 later other so_far _ _ placed
      (λ now x. print_law c p places called opens Opened direction e hole h.0 h.1 end k rest h.3 late env other all now
      (λ after. tag_means c.direction c.category uses env [] tag after on)
      (λ after. TagPlaced c places called Opened env [] tag (hole + 1) after Next) x
      (λ after y. tag_law uses [] tag (hole + 1) h.1 past h.4 end k rest l env other all after on Next y next))

  cut_law : (uses : List Use) (cut : Option Cut) (hole at past : ℕ)
      → StandsCut places p.ops cut hole at past → (end : ℕ) (k : ℤ) (rest : Outcome) → past ≤ end
      → (env other : RunEnv) → EnvsMatch env other
      → (so_far : StateSoFar) (on : StateSoFar → Outcome) (Next : StateSoFar → Type 0)
      → CutPlaced c places called Opened env cut hole so_far Next
      → ((now : StateSoFar) → Next now
      → Same (on now) (from_here c p places called opens Opened direction past end k other rest))
      → Same (cut_means c.direction c.category uses env cut so_far on)
      (from_here c p places called opens Opened direction at end k other rest)
  cut_law uses None hole at past h end k rest l env other all so_far on Next placed next =
      goes_here at past end k other rest (on so_far) h (next so_far placed)
  cut_law uses (Some (TextCut text)) hole at past h end k rest l env other all so_far on Next placed next =
      goes_here at past end k other rest (on so_far) h (next so_far placed)
  cut_law uses (Some (PrintCut e phname span)) hole at past h end k rest l env other all so_far on Next placed next =
      print_law c p places called opens Opened direction e hole at past end k rest h l env other all so_far on Next
      placed next
  cut_law uses (Some (TagCut tag)) hole at past h end k rest l env other all so_far on Next placed next =
      tag_law uses [] tag hole at past h end k rest l env other all so_far on Next placed next

  module _ (categories : (ordinal : Bool) (n : ℤ) → category_in p ordinal n ≡ c.category ordinal n) (uses : List Use)
      (env other : RunEnv) (all : EnvsMatch env other) where
    mutual
      part_law : (q : MsgPart) (hole at past : ℕ) → StandsPart places p.ops uses q hole at past
          → (end : ℕ) (k : ℤ) (rest : Outcome) → past ≤ end
          → (so_far : StateSoFar) (on : StateSoFar → Outcome) (Next : StateSoFar → Type 0)
          → PartPlaced c places called Opened uses env q hole k so_far Next
          → ((now : StateSoFar) → Next now
          → Same (on now) (from_here c p places called opens Opened direction past end k other rest))
          → Same (part_means c.direction c.category uses env q k so_far on)
          (from_here c p places called opens Opened direction at end k other rest)
      part_law (TextPart text) hole at past h end k rest l so_far on Next placed next =
          text_law c p places called opens Opened direction text at past end k rest h l other so_far on Next placed next
      part_law (Placeholder name) hole at past h end k rest l so_far on Next placed next =
          cut_law uses (placeholder_cut name uses uses) hole at past h end k rest l env other all so_far on Next placed
          next
      part_law NumberPart hole at past h end k rest l so_far on Next placed next =
          let z : Outcome = from_here c p places called opens Opened direction past end k other rest in
          free_step (part_means c.direction c.category uses env NumberPart k so_far on)
          (value_gives p.direction (place_of places hole) (IntValue k)) z
          (value_same c p places called opens Opened direction (IntValue k) hole so_far on Next z placed next)
          ∙ ap plain
          (sym (op_first c p places called opens Opened direction (NumberOp (place_of places hole)) at past end k other
          rest h l))
      part_law (PluralPart ordinal name offset exact named) hole at past h end k rest l so_far on Next placed next =
          let ms : List OpMeans = take at (all_means c p places called opens Opened direction) in
          let z : Outcome = from_here c p places called opens Opened direction past end k other rest in
          by_selector (λ chosen.
          StandsSelected places p.ops chosen (λ e. (numbers : List ExactBlock) × (named_blocks : List NamedBlock)
          × StandsExact places p.ops uses exact numbers hole at
          × StandsNamed places p.ops uses named named_blocks (hole + exact_holes uses exact) at
          × StandsOp places p.ops (PluralOp e offset ordinal numbers named_blocks) at past) at past
          → SelectedPlaced c places called Opened env chosen (λ v.
          ExactPlaced c places called Opened uses env (int_of v) (int_of v -ℤ pos offset) exact hole so_far Next
          (NamedPlaced c places called Opened uses env (c.category ordinal (int_of v -ℤ pos offset))
          (int_of v -ℤ pos offset) named (hole + exact_holes uses exact) so_far Next
          (NamedPlaced c places called Opened uses env category.Other (int_of v -ℤ pos offset) named
          (hole + exact_holes uses exact) so_far Next (Next so_far)))) (Next so_far)
          → Same (plural_means c.direction c.category uses env ordinal chosen offset
          (exact_rows c.direction c.category uses env exact) (named_rows c.direction c.category uses env named) so_far
          on)
          (from_here c p places called opens Opened direction at end k other rest))
          (λ h placed. goes_here at past end k other rest (on so_far) h (next so_far placed))
          (λ e h placed.
          let n : ℤ = int_of (valued e env) in
          let r : ℤ = n -ℤ pos offset in
          costed (cost e env) (cost e other) _
          (plural_gives p opens ms (int_of (valued e other)) offset ordinal h.0 h.1 other) z
          (cost_match env other all e)
          (exact_law exact h.0 hole at h.2 n r 0
          (option_or (named_of (c.category ordinal r) (row_count (exact_rows c.direction c.category uses env exact))
          (named_rows c.direction c.category uses env named))
          (named_of category.Other (row_count (exact_rows c.direction c.category uses env exact))
          (named_rows c.direction c.category uses env named)))
          (option_or (named_block (c.category ordinal r) h.1) (named_block category.Other h.1)) so_far on Next z _
          (λ x. named_law named h.1 (hole + exact_holes uses exact) at h.3 (c.category ordinal r) r
          (row_count (exact_rows c.direction c.category uses env exact))
          (named_of category.Other (row_count (exact_rows c.direction c.category uses env exact))
          (named_rows c.direction c.category uses env named)) (named_block category.Other h.1) so_far on Next z _
          (λ y. last_named named h.1 (hole + exact_holes uses exact) at h.3 r
          (row_count (exact_rows c.direction c.category uses env exact)) so_far on Next z y next) x next) placed next
          ∙ (ap (λ q. plain (continued_by (arm_gives ms (option_or (exact_block n h.0)
          (option_or (named_block q h.1) (named_block category.Other h.1))) r other) z)) (sym (categories ordinal r))
          ∙ ap (λ v. plain (continued_by (plural_gives p opens ms (int_of v) offset ordinal h.0 h.1 other) z))
          (operand_match env other all e)))
          ∙ ap plain
          (sym (op_first c p places called opens Opened direction (PluralOp e offset ordinal h.0 h.1) at past end k
          other
          rest h.4 l)))
          (selector true name uses uses) h placed
      part_law (SelectPart name arms) hole at past h end k rest l so_far on Next placed next =
          let ms : List OpMeans = take at (all_means c p places called opens Opened direction) in
          let z : Outcome = from_here c p places called opens Opened direction past end k other rest in
          by_selector (λ chosen.
          StandsSelected places p.ops chosen (λ e. (words : List WordBlock)
          × StandsWords places p.ops uses arms words hole at
          × StandsOp places p.ops (SelectOp e words) at past) at
          past
          → SelectedPlaced c places called Opened env chosen (λ v.
          WordsPlaced c places called Opened uses env (word_of v) arms hole so_far Next
          (WordsPlaced c places called Opened uses env (codes "other") arms hole so_far Next (Next so_far))) (Next
          so_far)
          → Same (select_means c.direction c.category uses env chosen (select_rows c.direction c.category uses env arms)
          so_far on)
          (from_here c p places called opens Opened direction at end k other rest))
          (λ h placed. goes_here at past end k other rest (on so_far) h (next so_far placed))
          (λ e h placed.
          costed (cost e env) (cost e other) _
          (arm_gives ms (select_block (word_of (valued e other)) h.0) (pos 0) other) z (cost_match env other all e)
          (words_law arms h.0 hole at h.1 (word_of (valued e env)) 0
          (select_of (codes "other") 0 (select_rows c.direction c.category uses env arms))
          (word_block (codes "other") h.0) so_far on Next z _
          (λ y. last_word arms h.0 hole at h.1 0 so_far on Next z y next) placed next
          ∙ ap (λ v. plain (continued_by (arm_gives ms (select_block (word_of v) h.0) (pos 0) other) z))
          (operand_match env other all e))
          ∙ ap plain
          (sym (op_first c p places called opens Opened direction (SelectOp e h.0) at past end k other rest h.2 l)))
          (selector false name uses uses) h placed

      pub parts_law : (ps : MsgParts) (hole at past : ℕ) → StandsParts places p.ops uses ps hole at past
          → (end : ℕ) (k : ℤ) (rest : Outcome) → past ≤ end
          → (so_far : StateSoFar) (on : StateSoFar → Outcome) (Next : StateSoFar → Type 0)
          → PartsPlaced c places called Opened uses env ps hole k so_far Next
          → ((now : StateSoFar) → Next now
          → Same (on now) (from_here c p places called opens Opened direction past end k other rest))
          → Same (parts_means c.direction c.category uses env ps k so_far on)
          (from_here c p places called opens Opened direction at end k other rest)
      parts_law no_part hole at past h end k rest l so_far on Next placed next =
          goes_here at past end k other rest (on so_far) h (next so_far placed)
      parts_law (part q ps) hole at past h end k rest l so_far on Next placed next =
          part_law q hole at h.0 h.1 end k rest
          (no_later (parts_forward places p.ops uses ps (hole + part_holes uses q) h.0 past h.2) l) so_far
          (λ now. parts_means c.direction c.category uses env ps k now on)
          (λ now. PartsPlaced c places called Opened uses env ps (hole + part_holes uses q) k now Next) placed
          (λ now x. parts_law ps (hole + part_holes uses q) h.0 past h.2 end k rest l now on Next x next)

      exact_law : (arms : ExactArms) (blocks : List ExactBlock) (hole before : ℕ)
          → StandsExact places p.ops uses arms blocks hole before → (n r : ℤ) (i : ℕ)
          → (e : Option (ℕ × PartMeans)) (b : Option code_block.Block)
          → (so_far : StateSoFar) (on : StateSoFar → Outcome) (Next : StateSoFar → Type 0) (z : Outcome) (Last : Type 0)
          → (Last → Same (arm_means e r so_far on)
          (continued_by (arm_gives (take before (all_means c p places called opens Opened direction)) b r other) z))
          → ExactPlaced c places called Opened uses env n r arms hole so_far Next Last
          → ((now : StateSoFar) → Next now → Same (on now) z)
          → Same
          (arm_means (option_or (exact_of n i (exact_rows c.direction c.category uses env arms)) e) r so_far on)
          (continued_by (arm_gives (take before (all_means c p places called opens Opened direction))
          (option_or (exact_block n blocks) b) r other) z)
      exact_law no_exact_arm [] hole before h n r i e b so_far on Next z Last last placed next = last placed
      exact_law no_exact_arm (x ∷ blocks) hole before h n r i e b so_far on Next z Last last placed next = absurd h
      exact_law (exact_arm m ps arms) [] hole before h n r i e b so_far on Next z Last last placed next = absurd h
      exact_law (exact_arm m ps arms) (x ∷ blocks) hole before h n r i e b so_far on Next z Last last placed next =
          arm_or before other r so_far on z (is_same_int m n) (is_same_int x.is n)
          (ap (λ y. is_same_int y n) (sym h.0)) _ _ placed i (parts_means c.direction c.category uses env ps)
          (exact_of n (i + 1) (exact_rows c.direction c.category uses env arms)) e x.body (exact_block n blocks) b
          (λ here. as_block x.body before h.1 r other (parts_means c.direction c.category uses env ps r so_far on) z
          (parts_law ps hole x.body.first x.body.end h.2 x.body.end r z (omega arith) so_far on Next here
          (λ now y. end_of_block x.body.end r other (on now) z (next now y))))
          (λ there. exact_law arms blocks (hole + parts_holes uses ps) before h.3 n r (i + 1) e b so_far on Next z Last
          last there next)

      named_law : (arms : NamedArms) (blocks : List NamedBlock) (hole before : ℕ)
          → StandsNamed places p.ops uses arms blocks hole before → (wanted : Category) (r : ℤ) (i : ℕ)
          → (e : Option (ℕ × PartMeans)) (b : Option code_block.Block)
          → (so_far : StateSoFar) (on : StateSoFar → Outcome) (Next : StateSoFar → Type 0) (z : Outcome) (Last : Type 0)
          → (Last → Same (arm_means e r so_far on)
          (continued_by (arm_gives (take before (all_means c p places called opens Opened direction)) b r other) z))
          → NamedPlaced c places called Opened uses env wanted r arms hole so_far Next Last
          → ((now : StateSoFar) → Next now → Same (on now) z)
          → Same
          (arm_means (option_or (named_of wanted i (named_rows c.direction c.category uses env arms)) e) r so_far on)
          (continued_by (arm_gives (take before (all_means c p places called opens Opened direction))
          (option_or (named_block wanted blocks) b) r other) z)
      named_law no_named_arm [] hole before h wanted r i e b so_far on Next z Last last placed next = last placed
      named_law no_named_arm (x ∷ blocks) hole before h wanted r i e b so_far on Next z Last last placed next = absurd h
      named_law (named_arm m ps arms) [] hole before h wanted r i e b so_far on Next z Last last placed next = absurd h
      named_law (named_arm m ps arms) (x ∷ blocks) hole before h wanted r i e b so_far on Next z Last last placed next =
          arm_or before other r so_far on z (is_same m wanted) (is_same x.category wanted)
          (ap (λ y. is_same y wanted) (sym h.0)) _ _ placed i (parts_means c.direction c.category uses env ps)
          (named_of wanted (i + 1) (named_rows c.direction c.category uses env arms)) e x.body (named_block wanted
          blocks)
          b
          (λ here. as_block x.body before h.1 r other (parts_means c.direction c.category uses env ps r so_far on) z
          (parts_law ps hole x.body.first x.body.end h.2 x.body.end r z (omega arith) so_far on Next here
          (λ now y. end_of_block x.body.end r other (on now) z (next now y))))
          (λ there. named_law arms blocks (hole + parts_holes uses ps) before h.3 wanted r (i + 1) e b so_far on Next z
          Last last there next)

      -- the arm other, behind which nothing is given
      last_named : (arms : NamedArms) (blocks : List NamedBlock) (hole before : ℕ)
          → StandsNamed places p.ops uses arms blocks hole before → (r : ℤ) (i : ℕ)
          → (so_far : StateSoFar) (on : StateSoFar → Outcome) (Next : StateSoFar → Type 0) (z : Outcome)
          → NamedPlaced c places called Opened uses env category.Other r arms hole so_far Next (Next so_far)
          → ((now : StateSoFar) → Next now → Same (on now) z)
          → Same
          (arm_means (named_of category.Other i (named_rows c.direction c.category uses env arms)) r so_far on)
          (continued_by (arm_gives (take before (all_means c p places called opens Opened direction))
          (named_block category.Other blocks) r other) z)
      last_named no_named_arm [] hole before h r i so_far on Next z placed next =
          next so_far placed ∙ ap plain (sym (first_none z))
      last_named no_named_arm (x ∷ blocks) hole before h r i so_far on Next z placed next = absurd h
      last_named (named_arm m ps arms) [] hole before h r i so_far on Next z placed next = absurd h
      last_named (named_arm m ps arms) (x ∷ blocks) hole before h r i so_far on Next z placed next =
          arm_last before other r so_far on z (is_same m category.Other) (is_same x.category category.Other)
          (ap (λ y. is_same y category.Other) (sym h.0)) _ _ placed i (parts_means c.direction c.category uses env ps)
          (named_of category.Other (i + 1) (named_rows c.direction c.category uses env arms)) x.body
          (named_block category.Other blocks)
          (λ here. as_block x.body before h.1 r other (parts_means c.direction c.category uses env ps r so_far on) z
          (parts_law ps hole x.body.first x.body.end h.2 x.body.end r z (omega arith) so_far on Next here
          (λ now y. end_of_block x.body.end r other (on now) z (next now y))))
          (λ there. last_named arms blocks (hole + parts_holes uses ps) before h.3 r (i + 1) so_far on Next z there
          next)

      words_law : (arms : SelectArms) (blocks : List WordBlock) (hole before : ℕ)
          → StandsWords places p.ops uses arms blocks hole before → (word : List ℕ) (i : ℕ)
          → (e : Option (ℕ × PartMeans)) (b : Option code_block.Block)
          → (so_far : StateSoFar) (on : StateSoFar → Outcome) (Next : StateSoFar → Type 0) (z : Outcome) (Last : Type 0)
          → (Last → Same (arm_means e (pos 0) so_far on)
          (continued_by (arm_gives (take before (all_means c p places called opens Opened direction)) b (pos 0) other)
          z))
          → WordsPlaced c places called Opened uses env word arms hole so_far Next Last
          → ((now : StateSoFar) → Next now → Same (on now) z)
          → Same
          (arm_means (option_or (select_of word i (select_rows c.direction c.category uses env arms)) e) (pos 0)
          so_far on)
          (continued_by (arm_gives (take before (all_means c p places called opens Opened direction))
          (option_or (word_block word blocks) b) (pos 0) other) z)
      words_law no_select_arm [] hole before h word i e b so_far on Next z Last last placed next = last placed
      words_law no_select_arm (x ∷ blocks) hole before h word i e b so_far on Next z Last last placed next = absurd h
      words_law (select_arm m ps arms) [] hole before h word i e b so_far on Next z Last last placed next = absurd h
      words_law (select_arm m ps arms) (x ∷ blocks) hole before h word i e b so_far on Next z Last last placed next =
          arm_or before other (pos 0) so_far on z (bytes_eq m word) (bytes_eq x.is word)
          (ap (λ y. bytes_eq y word) (sym h.0)) _ _ placed i (parts_means c.direction c.category uses env ps)
          (select_of word (i + 1) (select_rows c.direction c.category uses env arms)) e x.body (word_block word
          blocks) b
          (λ here. as_block x.body before h.1 (pos 0) other
          (parts_means c.direction c.category uses env ps (pos 0) so_far on) z
          (parts_law ps hole x.body.first x.body.end h.2 x.body.end (pos 0) z (omega arith) so_far on Next here
          (λ now y. end_of_block x.body.end (pos 0) other (on now) z (next now y))))
          (λ there. words_law arms blocks (hole + parts_holes uses ps) before h.3 word (i + 1) e b so_far on Next z Last
          last there next)

      last_word : (arms : SelectArms) (blocks : List WordBlock) (hole before : ℕ)
          → StandsWords places p.ops uses arms blocks hole before → (i : ℕ)
          → (so_far : StateSoFar) (on : StateSoFar → Outcome) (Next : StateSoFar → Type 0) (z : Outcome)
          → WordsPlaced c places called Opened uses env (codes "other") arms hole so_far Next (Next so_far)
          → ((now : StateSoFar) → Next now → Same (on now) z)
          → Same
          (arm_means (select_of (codes "other") i (select_rows c.direction c.category uses env arms)) (pos 0) so_far on)
          (continued_by (arm_gives (take before (all_means c p places called opens Opened direction))
          (word_block (codes "other") blocks) (pos 0) other) z)
      last_word no_select_arm [] hole before h i so_far on Next z placed next =
          next so_far placed ∙ ap plain (sym (first_none z))
      last_word no_select_arm (x ∷ blocks) hole before h i so_far on Next z placed next = absurd h
      last_word (select_arm m ps arms) [] hole before h i so_far on Next z placed next = absurd h
      last_word (select_arm m ps arms) (x ∷ blocks) hole before h i so_far on Next z placed next =
          arm_last before other (pos 0) so_far on z (bytes_eq m (codes "other")) (bytes_eq x.is (codes "other"))
          (ap (λ y. bytes_eq y (codes "other")) (sym h.0)) _ _ placed i (parts_means c.direction c.category uses env ps)
          (select_of (codes "other") (i + 1) (select_rows c.direction c.category uses env arms)) x.body
          (word_block (codes "other") blocks)
          (λ here. as_block x.body before h.1 (pos 0) other
          (parts_means c.direction c.category uses env ps (pos 0) so_far on) z
          (parts_law ps hole x.body.first x.body.end h.2 x.body.end (pos 0) z (omega arith) so_far on Next here
          (λ now y. end_of_block x.body.end (pos 0) other (on now) z (next now y))))
          (λ there. last_word arms blocks (hole + parts_holes uses ps) before h.3 (i + 1) so_far on Next z there next)
