-- Expressions under variables that match: the same values, and blocks that give the same.
use Rattle.std.proofs.Common.{◌≡◌, ℕ, ◌+◌, Bool, true, false, not, ◌∷◌, refl, ap, ◌∙◌, if◌then◌else◌}
use Rattle.std.specs.Prelude.{bytes_eq}
use Rattle.soy_tree.specs.Types.{Name}
use Rattle.soy_tree.specs.Values.{Value, BoolValue}
use Rattle.soy_tree.specs.Expressions.{Expr, NullLiteral, BoolLiteral, IntLiteral, StringLiteral, Variable, Member}
use Rattle.soy_tree.specs.Expressions.{Index, Minus, Not, Binary, Coalesce, Conditional}
use Rattle.soy_rules.specs.Val.{Binding, Known, BlockOf, binding, val, operand, is_truthy, is_null, member_value}
use Rattle.soy_rules.specs.Val.{index_value, negated, binary_value}
use Rattle.soy_rules.specs.Cost.{cost, right_cost}
use Rattle.soy_pieces.specs.Giving.{BoundBlock, RunEnv}
use Rattle.template_ir.proofs.Plain.{Same}

abbrev pub Matches : Binding BoundBlock → Binding BoundBlock → Type 0
Matches (Known v) (Known w) = v ≡ w
Matches (BlockOf a) (BlockOf b) = Same a.outcome b.outcome
Matches _ _ = ⊥

abbrev pub EnvsMatch : RunEnv → RunEnv → Type 0
EnvsMatch env other = (name : Name) → Matches (binding name env) (binding name other)

same_operand : (a b : Binding BoundBlock) → Matches a b → operand a ≡ operand b
same_operand (Known v) (Known w) h = h
same_operand (Known v) (BlockOf b) h = absurd h
same_operand (BlockOf a) (Known w) h = absurd h
same_operand (BlockOf a) (BlockOf b) h = refl

same_truth : (a b : Binding BoundBlock) → Matches a b → is_truthy a ≡ is_truthy b
same_truth (Known v) (Known w) h = ap (λ (x : Value). is_truthy {A = BoundBlock} (Known x)) h
same_truth (Known v) (BlockOf b) h = absurd h
same_truth (BlockOf a) (Known w) h = absurd h
same_truth (BlockOf a) (BlockOf b) h = refl

same_null : (a b : Binding BoundBlock) → Matches a b → is_null a ≡ is_null b
same_null (Known v) (Known w) h = ap (λ (x : Value). is_null {A = BoundBlock} (Known x)) h
same_null (Known v) (BlockOf b) h = absurd h
same_null (BlockOf a) (Known w) h = absurd h
same_null (BlockOf a) (BlockOf b) h = refl

match_if : (t u : Bool) (a b c d : Binding BoundBlock) → t ≡ u → Matches a c → Matches b d
    → Matches (if t then a else b) (if u then c else d)
match_if true true a b c d e h k = h
match_if true false a b c d e h k = let no : ⊥ = cc in absurd no
match_if false true a b c d e h k = let no : ⊥ = cc in absurd no
match_if false false a b c d e h k = k

cost_if : (t u : Bool) (m n k l : ℕ) → t ≡ u → m ≡ k → n ≡ l → (if t then m else n) ≡ (if u then k else l)
cost_if t u m n k l e f g = rw (e, f, g) refl

-- one more variable
pub match_more : (name : Name) (a b : Binding BoundBlock) (env other : RunEnv) → Matches a b → EnvsMatch env other
    → EnvsMatch ((name, a) ∷ env) ((name, b) ∷ other)
match_more name a b env other h k wanted =
    match_if (bytes_eq name wanted) (bytes_eq name wanted) a (binding wanted env) b (binding wanted other) refl h
    (k wanted)

module _ (env other : RunEnv) (all : EnvsMatch env other) where
  pub val_match : (e : Expr) → Matches (val e env) (val e other)
  val_match (NullLiteral span) = refl
  val_match (BoolLiteral b span) = refl
  val_match (IntLiteral n span) = refl
  val_match (StringLiteral text span) = refl
  val_match (Variable name span) = all name
  val_match (Member e name takes_null span) =
      ap (member_value name) (same_operand (val e env) (val e other) (val_match e))
  val_match (Index e i takes_null span) =
      ap (λ v. index_value v (operand (val i env))) (same_operand (val e env) (val e other) (val_match e))
      ∙ ap (λ v. index_value (operand (val e other)) v) (same_operand (val i env) (val i other) (val_match i))
  val_match (Minus e span) = ap negated (same_operand (val e env) (val e other) (val_match e))
  val_match (Not e span) = ap (λ b. BoolValue (not b)) (same_truth (val e env) (val e other) (val_match e))
  val_match (Binary op a b span) =
      ap (λ v. binary_value op v (operand (val b env))) (same_operand (val a env) (val a other) (val_match a))
      ∙ ap (λ v. binary_value op (operand (val a other)) v) (same_operand (val b env) (val b other) (val_match b))
  val_match (Coalesce a b span) =
      match_if (is_null (val a env)) (is_null (val a other)) (val b env) (val a env) (val b other) (val a other)
      (same_null (val a env) (val a other) (val_match a)) (val_match b) (val_match a)
  val_match (Conditional c a b span) =
      match_if (is_truthy (val c env)) (is_truthy (val c other)) (val a env) (val b env) (val a other) (val b other)
      (same_truth (val c env) (val c other) (val_match c)) (val_match a) (val_match b)

  pub operand_match : (e : Expr) → operand (val e env) ≡ operand (val e other)
  operand_match e = same_operand (val e env) (val e other) (val_match e)

  pub truth_match : (e : Expr) → is_truthy (val e env) ≡ is_truthy (val e other)
  truth_match e = same_truth (val e env) (val e other) (val_match e)

  null_match : (e : Expr) → is_null (val e env) ≡ is_null (val e other)
  null_match e = same_null (val e env) (val e other) (val_match e)

  pub cost_match : (e : Expr) → cost e env ≡ cost e other
  cost_match (NullLiteral span) = refl
  cost_match (BoolLiteral b span) = refl
  cost_match (IntLiteral n span) = refl
  cost_match (StringLiteral text span) = refl
  cost_match (Variable name span) = refl
  cost_match (Member e name takes_null span) = ap (λ n. 1 + n) (cost_match e)
  cost_match (Index e i takes_null span) =
      ap (λ n. 1 + (n + cost i env)) (cost_match e) ∙ ap (λ n. 1 + (cost e other + n)) (cost_match i)
  cost_match (Minus e span) = ap (λ n. 1 + n) (cost_match e)
  cost_match (Not e span) = ap (λ n. 1 + n) (cost_match e)
  cost_match (Binary op a b span) =
      ap (λ n. 1 + (n + right_cost op (is_truthy (val a env)) (cost b env))) (cost_match a)
      ∙ (ap (λ t. 1 + (cost a other + right_cost op t (cost b env))) (truth_match a)
      ∙ ap (λ n. 1 + (cost a other + right_cost op (is_truthy (val a other)) n)) (cost_match b))
  cost_match (Coalesce a b span) =
      ap (λ n. 1 + (n + (if is_null (val a env) then cost b env else 0))) (cost_match a)
      ∙ ap (λ n. 1 + (cost a other + n))
      (cost_if (is_null (val a env)) (is_null (val a other)) (cost b env) 0 (cost b other) 0 (null_match a)
      (cost_match b) refl)
  cost_match (Conditional c a b span) =
      ap (λ n. 1 + (n + (if is_truthy (val c env) then cost a env else cost b env))) (cost_match c)
      ∙ ap (λ n. 1 + (cost c other + n))
      (cost_if (is_truthy (val c env)) (is_truthy (val c other)) (cost a env) (cost b env) (cost a other)
      (cost b other) (truth_match c) (cost_match a) (cost_match b))
