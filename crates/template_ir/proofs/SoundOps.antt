-- A block passes the checks of a program's ops where each of its ops does, in the scope behind those before it.
use Rattle.std.proofs.Common.{◌≡◌, ℕ, zero, suc, ◌+◌, ◌≤◌, Bool, true, false, List, [], ◌∷◌, Some}
use Rattle.std.proofs.Common.{length, take, refl, sym, ap, ◌∙◌, subst, arith}
use Rattle.std.specs.Prelude.{nat_le, slice_get, ◌&&◌}
use Rattle.std.proofs.lemmas.Bool.{le-leb}
use Rattle.std.proofs.lemmas.List.{length-take-le}
use Rattle.soy_base.specs.declared.place.Place.{Place}
use Rattle.soy_base.specs.declared.place.Placing.TheVariants.{Takes}
use Rattle.soy_rules.specs.Bodies.{is_printed}
use Rattle.soy_tree.specs.Expressions.{Expr}
use Rattle.soy_tree.specs.Formed.{is_formed_expr}
use Rattle.soy_tree.specs.Types.{SoyType}
use Rattle.soy_rules.specs.TypeOf.{Scope, type_of}
use Rattle.soy_meaning.specs.Walks.FourPoints.{takes_classes}
use Rattle.soy_meaning.specs.Paths.PlanOfParts.{printed_classes}
use Rattle.soy_meaning.proofs.Typing.TypedNodes.{IsPrintable}
use Rattle.template_ir.specs.Ops.{Op, PrintOp, Routine, StaticOp}
use Rattle.template_ir.specs.Sound.{OpCheck, are_sound_ops, goes_on, is_sound_block, is_sound_expr, op_check, scope_if}
use Rattle.template_ir.specs.Sound.{type_passes}
use Rattle.template_ir.specs.StandFor.{StandsOp, StandsPrint, StandsText, place_of}
use Rattle.soy_base.specs.Table.{table}
use Rattle.template_ir.specs.declared.op.Block as code_block
use Rattle.template_ir.proofs.Demands.{HasTypeOf}
use Rattle.soy_base.proofs.Tables.{get_table, length_table, part, part_cons, part_none, part_take}

pub both_true : (t u : Bool) → t ≡ true → u ≡ true → (t && u) ≡ true
both_true t u h k = ap (λ b. b && u) h ∙ k

pub passes_if : (t : Bool) (scope : Scope) → t ≡ true → scope_if t scope ≡ Some scope
passes_if t scope h = ap (λ b. scope_if b scope) h

pub expr_sound : (test : SoyType → Bool) (e : Expr) (scope : Scope) → HasTypeOf test e scope
    → is_sound_expr test e scope ≡ true
expr_sound test e scope h =
    both_true (is_formed_expr e) (type_passes test (type_of e scope)) h.formed
    (ap (type_passes test) h.typed ∙ h.passes)

got_within : {A : Type 0} (xs : List A) (n : ℕ) (x : A) → slice_get xs n ≡ Some x → suc n ≤ length xs
got_within [] n x h = let no : ⊥ = cc in absurd no
got_within (y ∷ xs) zero x h = omega arith
got_within (y ∷ xs) (suc n) x h = let more = got_within xs n x h in omega (arith, more)

module _ (templates : List Routine) (places : List Place) (ops : List Op) where
  abbrev pub checks : List OpCheck
  checks = table (op_check templates) ops

  -- the ops from a position up to an end
  abbrev pub Passes : ℕ → ℕ → Bool → Scope → Type 0
  Passes at end number scope = are_sound_ops (part checks at end) number scope ≡ true

  pub end_passes : (end : ℕ) (number : Bool) (scope : Scope) → Passes end end number scope
  end_passes end number scope =
      ap (λ cs. are_sound_ops cs number scope) (part_none checks end end (omega arith))

  pub nothing_passes : (at past end : ℕ) (number : Bool) (scope : Scope) → past ≡ at → Passes past end number scope
      → Passes at end number scope
  nothing_passes at past end number scope h rest = subst (λ n. Passes n end number scope) h rest

  pub op_passes : (o : Op) (at past end : ℕ) (number : Bool) (scope next : Scope) → StandsOp places ops o at past
      → past ≤ end → op_check templates (take at checks) o number scope ≡ Some next → Passes past end number next
      → Passes at end number scope
  op_passes o at past end number scope next h l check rest =
      let one : past ≡ at + 1 = h.1 in
      let made = get_table (op_check templates) ops at o h.0 in
      let cons = part_cons checks at end (op_check templates (take at checks) o) made (omega (arith, one, l)) in
      ap (λ cs. are_sound_ops cs number scope) cons
      ∙ (ap (goes_on (λ s. are_sound_ops (part checks (at + 1) end) number s)) check
      ∙ (ap (λ n. are_sound_ops (part checks n end) number next) (sym one) ∙ rest))

  -- the checks before an op, of blocks that end there
  pub op_within : (o : Op) (at past : ℕ) → StandsOp places ops o at past → at ≤ length ops
  op_within o at past h = let l = got_within ops at o h.0 in omega (arith, l)

  pub block_sound : (b : code_block.Block) (before : ℕ) (number : Bool) (scope : Scope) → b.first ≤ b.end
      → b.end ≤ before → before ≤ length ops → Passes b.first b.end number scope
      → is_sound_block (take before checks) b number scope ≡ true
  block_sound b before number scope l m k h =
      let all : length checks ≡ length ops = length_table (op_check templates) ops in
      let n : length (take before checks) ≡ before = length-take-le before checks (omega (arith, k, all)) in
      both_true (nat_le b.first b.end && nat_le b.end (length (take before checks)))
      (are_sound_ops (part (take before checks) b.first b.end) number scope)
      (both_true (nat_le b.first b.end) (nat_le b.end (length (take before checks))) (le-leb b.first b.end l)
      (ap (λ k. nat_le b.end k) n ∙ le-leb b.end before m))
      (ap (λ cs. are_sound_ops cs number scope) (part_take checks before b.first b.end m) ∙ h)

  pub body_sound : (b : code_block.Block) (scope : Scope) → b.first ≤ b.end → b.end ≤ length ops
      → Passes b.first b.end false scope → is_sound_block checks b false scope ≡ true
  body_sound b scope l m h =
      let all : length checks ≡ length ops = length_table (op_check templates) ops in
      both_true (nat_le b.first b.end && nat_le b.end (length checks))
      (are_sound_ops (part checks b.first b.end) false scope)
      (both_true (nat_le b.first b.end) (nat_le b.end (length checks)) (le-leb b.first b.end l)
      (le-leb b.end (length checks) (omega (arith, m, all)))) h

  -- ---- texts and prints

  pub text_sound : (text : List ℕ) (at past end : ℕ) (number : Bool) (scope : Scope) → StandsText places ops text at
      past
      → past ≤ end → Passes past end number scope → Passes at end number scope
  text_sound [] at past end number scope h l rest = nothing_passes at past end number scope h rest
  text_sound (c ∷ text) at past end number scope h l rest =
      op_passes (StaticOp (c ∷ text)) at past end number scope scope h l refl rest

  pub print_sound : (e : Expr) (hole at past end : ℕ) (number : Bool) (scope : Scope) → IsPrintable e scope
      → takes_classes (Takes (place_of places hole)) (printed_classes e scope) ≡ true
      → StandsPrint places ops e hole at past → past ≤ end → Passes past end number scope → Passes at end number scope
  print_sound e hole at past end number scope typed takes h l rest =
      op_passes (PrintOp e (place_of places hole)) at past end number scope scope h l
      (passes_if _ scope
      (both_true (is_sound_expr is_printed e scope)
      (takes_classes (Takes (place_of places hole)) (printed_classes e scope))
      (expr_sound is_printed e scope
      (record { of = typed.of; formed = typed.formed; typed = typed.typed; passes = typed.printed })) takes)) rest
