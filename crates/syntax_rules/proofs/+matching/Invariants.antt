use Rattle.std.proofs.Common.{◌≡◌, ◌≤◌, length, map, drop}
use Rattle.scheme_data.specs.Forms.{form, forms}
use Rattle.syntax_rules.specs.Matching.{matches, all_match, every}
use Rattle.syntax_rules.specs.TreeViews.{the_pattern, in_turn}
use Rattle.syntax_rules.specs.Trees.{Patterns}
use Rattle.syntax_rules.proofs.+matching.Given as goal

abbrev pub invariant-matching::each_matches-loop-d : goal.invariant-matching::each_matches-loop-d
invariant-matching::each_matches-loop-d l = every (matches (the_pattern l.p)) (forms (map form l.ds)) ≡ every (matches (the_pattern l.p)) (forms (map form (drop l.d-index l.ds)))

abbrev pub invariant-matching::first_match-loop-i : goal.invariant-matching::first_match-loop-i
invariant-matching::first_match-loop-i l = record {
  fits : length l.ps ≤ length l.ds;
  so_far : (rest : Patterns) → all_match (in_turn (map the_pattern l.ps) rest) (forms (map form l.ds))
      ≡ all_match (in_turn (map the_pattern (drop l.i l.ps)) rest) (forms (map form (drop l.i l.ds)));
}
