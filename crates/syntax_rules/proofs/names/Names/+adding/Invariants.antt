use Rattle.std.proofs.Common.{◌≡◌, ◌≤◌, ◌++◌, length, map, drop}
use Rattle.scheme_data.specs.Forms.{form, forms}
use Rattle.syntax_rules.specs.Patterns.{names_in, paths_in, are_apart}
use Rattle.syntax_rules.proofs.names.Names.+adding.Given as goal

abbrev pub invariant-add_all-loop-i : goal.invariant-add_all-loop-i
invariant-add_all-loop-i l =
    let whole = forms (map form (drop l.initial.first l.ds)) in
    let rest = forms (map form (drop l.i l.ds)) in
    record {
      within : l.i ≤ length l.ds;
      apart : are_apart l.initial.self.table (names_in l.literals whole) ≡ are_apart l.self.table (names_in l.literals rest);
      names : l.self.table ++ names_in l.literals rest ≡ l.initial.self.table ++ names_in l.literals whole;
      paths : l.self.paths ++ paths_in l.literals l.path l.i rest ≡ l.initial.self.paths ++ paths_in l.literals l.path l.first whole;
    }
