use Rattle.std.proofs.Common.{◌≡◌, ◌++◌, drop, map}
use Rattle.soy_tree.specs.ViewNodes.{view_plural_cases, view_select_cases}
use Rattle.msg_extract.specs.Canonical.Pieces.{plural_case_pieces, select_case_pieces}
use Rattle.msg_extract.specs.Views.ViewPieces.{view_piece}
use Rattle.msg_extract.proofs.piece.+pieces.Given as goal

abbrev pub invariant-push_plural_cases-loop-case : goal.invariant-push_plural_cases-loop-case
invariant-push_plural_cases-loop-case l =
    map view_piece l.pieces ++ plural_case_pieces (view_plural_cases (drop l.case-index l.cases))
    ≡ map view_piece l.initial.pieces ++ plural_case_pieces (view_plural_cases l.cases)

abbrev pub invariant-push_select_cases-loop-case : goal.invariant-push_select_cases-loop-case
invariant-push_select_cases-loop-case l =
    map view_piece l.pieces ++ select_case_pieces (view_select_cases (drop l.case-index l.cases))
    ≡ map view_piece l.initial.pieces ++ select_case_pieces (view_select_cases l.cases)
