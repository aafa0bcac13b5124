-- Where lines stand, and the work that is left there.
use Rattle.std.proofs.Common.{◌≡◌, ℕ, zero, suc, ◌+◌, ◌-◌, ◌*◌, ◌<◌, ◌≤◌, List, [], ◌∷◌, length, Option, Some, None, slice_get, ap, ◌∙◌, arith}
use Rattle.std.specs.Option.{option_map}
use Rattle.std.proofs.lemmas.Nat.{mul-le}
use Rattle.std.proofs.lemmas.Option.{slice_get-map}
use Rattle.c_tree.specs.declared.function.CFun.{CFun}
use Rattle.c_machine.specs.declared.program.Instr.{Instr}
use Rattle.c_machine.specs.declared.program.Instr.TheVariants as instr
use Rattle.c_machine.specs.declared.program.Line.{Line}
use Rattle.c_machine.specs.declared.program.Function.{Function}
use Rattle.c_machine.specs.declared.stepping.Frame.{Frame as Waiter}
use Rattle.c_machine.specs.Steps.{Config, line_in, line_at}
use Rattle.c_machine.specs.Decoded.{line, code_of, function_of, function_names}
use Rattle.c_machine.proofs.Means.{decoded, statements_in, names_in, steps_by, steps_from, left_in, left_at, steps_at, weight, steps_in, total, turn_weight, work}

-- Functions ---------------------------------------------------------------------------------

pub function_there : (fs : List CFun) (k : ℕ) (f : CFun) → slice_get fs k ≡ Some f → slice_get (decoded fs) k ≡ Some (function_of (function_names fs) f)
function_there fs k f e = slice_get-map (function_of (function_names fs)) fs k ∙ ap (option_map (function_of (function_names fs))) e

abbrev pub lines_in : List CFun → CFun → List Line
lines_in fs f = code_of (names_in f) (function_names fs) (statements_in f)

pub line_there : (fs : List CFun) (k pc : ℕ) (f : CFun) → slice_get fs k ≡ Some f → line_at (decoded fs) k pc ≡ slice_get (lines_in fs f) pc
line_there fs k pc f e = ap (λ m. line_in m pc) (function_there fs k f e)

pub left_there : (fs : List CFun) (k pc : ℕ) (f : CFun) → slice_get fs k ≡ Some f → left_at (decoded fs) k pc ≡ length (lines_in fs f) - pc
left_there fs k pc f e = ap (λ m. left_in m pc) (function_there fs k f e)

-- less is left farther on
pub left_less : (funs : List Function) (k near far : ℕ) → near ≤ far → left_at funs k far ≤ left_at funs k near
left_less funs k near far le = each (slice_get funs k)
  where
    each : (f : Option Function) → left_in f far ≤ left_in f near
    each None = omega arith
    each (Some f) = omega arith

pub give_there : (fs : List CFun) (k : ℕ) (f : CFun) → slice_get fs k ≡ Some f → line_at (decoded fs) k 0 ≡ Some (line instr.Give 1)
give_there fs k f e = line_there fs k 0 f e

-- Work --------------------------------------------------------------------------------------

steps_by_le : (i : Instr) (n : ℕ) → steps_by i n ≤ 2 * n + 1
steps_by_le (instr.Does to a) n = omega arith
steps_by_le (instr.Call to g args) n = omega arith
steps_by_le instr.Turn n = omega arith
steps_by_le instr.Give n = omega arith
steps_by_le instr.Stop n = omega arith

pub steps_le : (l : Option Line) (n : ℕ) → steps_from l n ≤ 2 * n + 1
steps_le None n = omega arith
steps_le (Some l) n = steps_by_le l.instr n

pub steps_here : (funs : List Function) (k pc : ℕ) (l : Option Line) → line_at funs k pc ≡ l → steps_at funs k pc ≡ steps_from l (left_at funs k pc)
steps_here funs k pc l e = ap (λ j. steps_from j (left_at funs k pc)) e

pub within_total : (funs : List Function) (k : ℕ) (f : Function) → slice_get funs k ≡ Some f → length f.code ≤ total funs
unfolding total
within_total [] k f e = absurd (cc)
within_total (g ∷ funs) zero f e = let same : g ≡ f = cc in let l : length g.code ≡ length f.code = ap (λ (h : Function). length h.code) same in omega arith
within_total (g ∷ funs) (suc k) f e = let le = within_total funs k f e in omega arith

-- a step weighs something, and no more than a turn does for each step of a function
pub some_weight : (funs : List Function) (rs : List Waiter) → 0 < weight funs rs
unfolding weight
some_weight funs [] = omega arith
some_weight funs (r ∷ rs) = omega arith

most_weight : (funs : List Function) (rs : List Waiter) → weight funs rs ≤ 2 * total funs + 2
unfolding weight
most_weight funs [] = omega arith
most_weight funs (r ∷ rs) = omega arith

pub heavier : (w a b x : ℕ) → x < w → a < b → w * a + x < w * b
heavier w a b x lt le = let m : w * suc a ≤ w * b = mul-le w (suc a) w b (omega arith) le in grind arith

pub weighs_less : (funs : List Function) (rs : List Waiter) (n m : ℕ) → n < m → weight funs rs * n + steps_in funs rs < weight funs rs * m + steps_in funs rs
weighs_less funs rs n m lt = before (weight funs rs * n) (weight funs rs * m) (steps_in funs rs) (heavier (weight funs rs) n m 0 (some_weight funs rs) lt)
  where
    before : (x y r : ℕ) → x + 0 < y → x + r < y + r
    before x y r lt = omega arith

pub as_heavy : (w a b : ℕ) → a ≤ b → w * a ≤ w * b
as_heavy w a b le = mul-le w a w b (omega arith) le

pub within_turn : (funs : List Function) (rs : List Waiter) (n : ℕ) → n < 2 * total funs + 1 → weight funs rs * n < turn_weight funs
unfolding turn_weight
within_turn funs rs n lt =
    let m = mul-le (weight funs rs) n (2 * total funs + 2) n (most_weight funs rs) (omega arith) in
    let k = heavier (2 * total funs + 2) n (2 * total funs + 1) 0 (omega arith) lt in
    omega (arith, m, k)

pub work_falls : (funs : List Function) (c d : Config) → d.turns ≡ c.turns → weight funs d.frames * steps_at funs d.fun d.pc + steps_in funs d.frames < weight funs c.frames * steps_at funs c.fun c.pc + steps_in funs c.frames → work funs d < work funs c
unfolding work
work_falls funs c d e lt = below (d.turns * turn_weight funs) (c.turns * turn_weight funs) _ _ (ap (λ t. t * turn_weight funs) e) lt
  where
    below : (m n x y : ℕ) → m ≡ n → x < y → m + x < n + y
    below m n x y e lt = omega arith
