-- What a program gives for texts, prints and control flow is what the trees give, where the places are those of the
-- holes.
use Rattle.std.proofs.Common.{◌≡◌, ◌+◌, ◌≤◌, ℕ, ℤ, List, [], ◌∷◌}
use Rattle.std.proofs.Common.{refl, sym, ap, ◌∙◌, arith, take}
use Rattle.soy_base.specs.declared.place.Place.{Place}
use Rattle.soy_base.specs.Piece.{Piece, Static, Value}
use Rattle.soy_tree.specs.Types.{Name}
use Rattle.soy_rules.specs.Cost.{cost}
use Rattle.soy_tree.specs.Expressions.{Expr}
use Rattle.soy_rules.specs.Templates.{Declared}
use Rattle.soy_rules.specs.Val.{Binding, BlockOf, Known, val, value_text}
use Rattle.soy_tree.specs.Values.{Items, no_item, item}
use Rattle.soy_tree.specs.Values as values
use Rattle.soy_pieces.specs.EscapedAt.{value_form}
use Rattle.soy_pieces.specs.Giving.{BoundBlock, RunEnv, StateSoFar, placing_so_far, printed_means}
use Rattle.soy_pieces.specs.Giving.{read_outcome, read_piece, text_means, value_class, value_means, with_cost}
use Rattle.soy_pieces.specs.Outcome.{GivesPiece, Outcome, RunEnds, Spent, WholeRun}
use Rattle.soy_pieces.specs.Outcome.{StopsAt, continued_by, end_of_outcome, gives_nothing, none_spent, spent_first}
use Rattle.soy_pieces.specs.Pieces.{RunContext}
use Rattle.soy_pieces.specs.Site.{Site}
use Rattle.soy_pieces.proofs.Outcomes.{first_followed, first_none, followed_joined}
use Rattle.template_ir.specs.Compiles.{CompileContext}
use Rattle.template_ir.specs.Ops.{LetOp, Op, PrintOp, Program, StaticOp}
use Rattle.template_ir.specs.Run.{OpMeans, one_step, op_gives, ops_give, print_gives}
use Rattle.template_ir.specs.Run.{value_at, value_gives}
use Rattle.template_ir.specs.StandFor.{StandsOp, StandsText, place_of}
use Rattle.soy_base.specs.Table.{table}
use Rattle.template_ir.proofs.Matching.{EnvsMatch, Matches, cost_match, match_more, val_match}
use Rattle.template_ir.specs.Placed.{PrintPlaced, TextPlaced}
use Rattle.template_ir.specs.Placed.{ValuePlaced}
use Rattle.template_ir.proofs.Plain.{Same, plain, plain_spent, same_first, same_free}
use Rattle.soy_base.proofs.Tables.{get_table, part, part_cons}

-- ---- outcomes

-- a step of this cost, and what is given in it, before what comes next
pub costed : (m n : ℕ) (a o z : Outcome) → m ≡ n → Same a (continued_by o z)
    → Same (with_cost m a) (continued_by (spent_first (one_step n) o) z)
costed m n a o z h k =
    same_first (record { cost = m; work = 0; choices = [] }) (one_step n) a (continued_by o z) h k
    ∙ ap plain (sym (first_followed (one_step n) o z))

pub free_step : (a o z : Outcome) → Same a (continued_by o z) → Same a (continued_by (spent_first (one_step 0) o) z)
free_step a o z k =
    k ∙ (sym (same_free (one_step 0) (continued_by o z) refl) ∙ ap plain (sym (first_followed (one_step 0) o z)))

abbrev pub first_spent : Outcome → ℕ
first_spent (RunEnds s end) = s.cost
first_spent (GivesPiece s piece o) = s.cost

abbrev pub past_piece : Outcome → Outcome
past_piece (RunEnds s end) = RunEnds s end
past_piece (GivesPiece s piece o) = o

abbrev with_rest : Outcome → Outcome → Outcome
with_rest rest (RunEnds s end) = RunEnds s end
with_rest rest (GivesPiece s piece o) = GivesPiece s piece rest

-- the one, and where it ends whole what comes next
pub same_then : (a b x y : Outcome) → Same a b → (end_of_outcome a ≡ WholeRun → Same x y)
    → Same (continued_by a x) (continued_by b y)
same_then (RunEnds s WholeRun) (RunEnds t WholeRun) x y h k = same_first s t x y (ap first_spent h) (k refl)
same_then (RunEnds s WholeRun) (RunEnds t (StopsAt call)) x y h k = let no : ⊥ = cc in absurd no
same_then (RunEnds s (StopsAt call)) (RunEnds t WholeRun) x y h k = let no : ⊥ = cc in absurd no
same_then (RunEnds s (StopsAt call)) (RunEnds t (StopsAt other)) x y h k = h
same_then (RunEnds s end) (GivesPiece t piece o) x y h k = let no : ⊥ = cc in absurd no
same_then (GivesPiece s piece o) (RunEnds t end) x y h k = let no : ⊥ = cc in absurd no
same_then (GivesPiece s piece o) (GivesPiece t other q) x y h k =
    ap (GivesPiece (plain_spent s) piece) (same_then o q x y (ap past_piece h) k)
    ∙ ap (with_rest (plain (continued_by q y))) h

pub given_piece : (s : Spent) (piece : Piece) (rest z : Outcome) → s.cost ≡ 0 → Same rest z
    → Same (GivesPiece s piece rest) (continued_by (GivesPiece none_spent piece gives_nothing) z)
given_piece s piece rest z h k =
    ap (λ n. GivesPiece (record { cost = n; work = 0; choices = [] }) piece (plain rest)) h
    ∙ (ap (GivesPiece none_spent piece) k ∙ ap (λ o. GivesPiece none_spent piece (plain o)) (sym (first_none z)))

module _ (c : RunContext) (p : Program) (places : List Place) (called : Site → Declared → RunEnv → Outcome)
    (opens : Site → ℕ → RunEnv → Outcome) (Opened : ℕ → RunEnv → Type 0)
    (direction : p.direction ≡ c.direction) where
  abbrev pub context : CompileContext
  context = record {
    file = c.file;
    namespace = c.namespace;
    params = c.params;
    declared = c.declared;
    translation = c.translation;
    places = places;
    ops = p.ops;
  }

  abbrev pub all_means : List OpMeans
  all_means = table (op_gives p opens) p.ops

  -- the ops from a position up to an end, and then the rest
  abbrev pub from_here : ℕ → ℕ → ℤ → RunEnv → Outcome → Outcome
  from_here at end k env rest = continued_by (ops_give (part all_means at end) k env) rest

  -- an op, and the ops behind it
  pub op_first : (o : Op) (at past end : ℕ) (k : ℤ) (env : RunEnv) (rest : Outcome) → StandsOp places p.ops o at past
      → past ≤ end → from_here at end k env rest
      ≡ continued_by (op_gives p opens (take at all_means) o k env).0
      (from_here past end k (op_gives p opens (take at all_means) o k env).1 rest)
  op_first o at past end k env rest h l =
      let one : past ≡ at + 1 = h.1 in
      let made = get_table (op_gives p opens) p.ops at o h.0 in
      let means : OpMeans = op_gives p opens (take at all_means) o in
      ap (λ ms. continued_by (ops_give ms k env) rest) (part_cons all_means at end means made (omega (arith, one, l)))
      ∙ (followed_joined (means k env).0 (ops_give (part all_means (at + 1) end) k (means k env).1) rest
      ∙ ap (λ n. continued_by (means k env).0 (from_here n end k (means k env).1 rest)) (sym one))

  -- ---- values

  pub value_same : (v : values.Value) (hole : ℕ) (so_far : StateSoFar) (on : StateSoFar → Outcome)
      (Next : StateSoFar → Type 0) (z : Outcome) → ValuePlaced c places called Opened v hole so_far Next
      → ((now : StateSoFar) → Next now → Same (on now) z)
      → Same (value_means c.direction v so_far on) (continued_by (value_gives p.direction (place_of places hole) v) z)
  value_same v hole so_far on Next z h next =
      let form : value_form (placing_so_far so_far) (value_class v) (value_text v) c.direction
      ≡ value_at p.direction (place_of places hole) v =
      ap (λ x. value_form x (value_class v) (value_text v) c.direction) h.0
      ∙ ap (λ d. value_at d (place_of places hole) v) (sym direction) in
      let now : StateSoFar =
      read_piece so_far (Value (value_form (placing_so_far so_far) (value_class v) (value_text v) c.direction)) in
      ap (λ text. GivesPiece none_spent (Value text) (plain (on now))) form
      ∙ given_piece none_spent (Value (value_at p.direction (place_of places hole) v)) (on now) z refl (next now h.1)

  pub print_same : (a b : Binding BoundBlock) → Matches a b → (hole : ℕ) (so_far : StateSoFar)
      (on : StateSoFar → Outcome) (Next : StateSoFar → Type 0) (z : Outcome)
      → PrintPlaced c places called Opened a hole so_far Next → ((now : StateSoFar) → Next now → Same (on now) z)
      → Same (printed_means c.direction a so_far on) (continued_by (print_gives p.direction (place_of places hole) b) z)
  print_same (Known v) (Known w) same hole so_far on Next z h next =
      value_same v hole so_far on Next z h next
      ∙ ap (λ x. plain (continued_by (value_gives p.direction (place_of places hole) x) z)) same
  print_same (Known v) (BlockOf b) same hole so_far on Next z h next = absurd same
  print_same (BlockOf a) (Known w) same hole so_far on Next z h next = absurd same
  print_same (BlockOf a) (BlockOf b) same hole so_far on Next z h next =
      same_then a.outcome b.outcome (on (read_outcome so_far a.outcome)) z same
      (λ whole. next (read_outcome so_far a.outcome) (h whole))

  -- ---- nodes

  -- what comes next goes on as the ops behind
  abbrev pub GoesOn : (RunEnv → StateSoFar → Type 0) → (RunEnv → StateSoFar → Outcome) → ℕ → ℕ → ℤ → Outcome → Type 0
  GoesOn Next next past end k rest = (env other : RunEnv) (now : StateSoFar) → EnvsMatch env other → Next env now
      → Same (next env now) (from_here past end k other rest)

  pub text_law : (text : List ℕ) (at past end : ℕ) (k : ℤ) (rest : Outcome) → StandsText places p.ops text at past
      → past ≤ end → (other : RunEnv) (so_far : StateSoFar) (on : StateSoFar → Outcome) (Next : StateSoFar → Type 0)
      → TextPlaced text so_far Next → ((now : StateSoFar) → Next now → Same (on now) (from_here past end k other rest))
      → Same (text_means text so_far on) (from_here at end k other rest)
  text_law [] at past end k rest h l other so_far on Next placed next =
      next so_far placed ∙ ap (λ n. plain (from_here n end k other rest)) h
  text_law (x ∷ text) at past end k rest h l other so_far on Next placed next =
      let now : StateSoFar = read_piece so_far (Static (x ∷ text)) in
      free_step (text_means (x ∷ text) so_far on) (GivesPiece none_spent (Static (x ∷ text)) gives_nothing)
      (from_here past end k other rest)
      (given_piece (record { cost = 0; work = 1; choices = [] }) (Static (x ∷ text)) (on now)
      (from_here past end k other rest) refl (next now placed))
      ∙ ap plain (sym (op_first (StaticOp (x ∷ text)) at past end k other rest h l))

  pub print_law : (e : Expr) (hole at past end : ℕ) (k : ℤ) (rest : Outcome)
      → StandsOp places p.ops (PrintOp e (place_of places hole)) at past → past ≤ end
      → (env other : RunEnv) → EnvsMatch env other → (so_far : StateSoFar) (on : StateSoFar → Outcome)
      (Next : StateSoFar → Type 0) → PrintPlaced c places called Opened (val e env) hole so_far Next
      → ((now : StateSoFar) → Next now → Same (on now) (from_here past end k other rest))
      → Same (with_cost (cost e env) (printed_means c.direction (val e env) so_far on)) (from_here at end k other rest)
  print_law e hole at past end k rest h l env other all so_far on Next placed next =
      costed (cost e env) (cost e other) (printed_means c.direction (val e env) so_far on)
      (print_gives p.direction (place_of places hole) (val e other)) (from_here past end k other rest)
      (cost_match env other all e)
      (print_same (val e env) (val e other) (val_match env other all e) hole so_far on Next
      (from_here past end k other rest) placed next)
      ∙ ap plain (sym (op_first (PrintOp e (place_of places hole)) at past end k other rest h l))

  pub let_law : (name : Name) (e : Expr) (at past end : ℕ) (k : ℤ) (rest : Outcome)
      → StandsOp places p.ops (LetOp name e) at past → past ≤ end → (env other : RunEnv) → EnvsMatch env other
      → (so_far : StateSoFar) (next : RunEnv → StateSoFar → Outcome) (Next : RunEnv → StateSoFar → Type 0)
      → Next ((name, val e env) ∷ env) so_far → GoesOn Next next past end k rest
      → Same (with_cost (cost e env) (next ((name, val e env) ∷ env) so_far)) (from_here at end k other rest)
  let_law name e at past end k rest h l env other all so_far next Next placed goes =
      let z : Outcome = from_here past end k ((name, val e other) ∷ other) rest in
      same_first (record { cost = cost e env; work = 0; choices = [] }) (one_step (cost e other))
      (next ((name, val e env) ∷ env) so_far) z (cost_match env other all e)
      (goes ((name, val e env) ∷ env) ((name, val e other) ∷ other) so_far
      (match_more name (val e env) (val e other) env other (val_match env other all e) all) placed)
      ∙ ap plain (sym (op_first (LetOp name e) at past end k other rest h l))
