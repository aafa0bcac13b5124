-- The letters with which names of a kind begin, before `_`.
use Rattle.std.specs.Prelude.{ℕ, nat_eq, Bool, ◌||◌}

abbrev pub begins_names : ℕ → Bool
begins_names b =
    nat_eq b 115 || (nat_eq b 99 || (nat_eq b 105 || (nat_eq b 118 || (nat_eq b 117 || (nat_eq b 112 || (nat_eq b 113 || (nat_eq b 101 || nat_eq b 102)))))))
