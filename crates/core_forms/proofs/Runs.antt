-- Rewritings that are carried out, and what they say of the definition.
use Rattle.std.proofs.Common.{ℕ, suc, zero, List, [], ◌∷◌, ◌++◌, Option, Some, None}
use Rattle.std.specs.Prelude.{codes}
use Rattle.syntax_rules.specs.Trees.{Macro}
use Rattle.core_forms.specs.Mid.{Mid, raw}
use Rattle.core_forms.specs.Rewriting.{Progress, still, moves, stops, step}
use Rattle.core_forms.specs.Modules.{Top, form, defined, TopTree, TopProgress, rests, goes, ends, top_step, tops_step, Scanned, scanned, bad, scan_module, finished_tops, start}
use Rattle.core_forms.specs.declared.counting.Counts.{Counts}
use Rattle.core_forms.specs.declared.error.ExpandErr.{ExpandErr}
use Rattle.core_forms.specs.declared.error.ExpandErr.TheVariants as fault
use Rattle.core_forms.proofs.Texts.{source, parens, decimal, sort_text, binder_text, tops_text, fault_text}

pub data Outcome : Type 0 where
  whole : Option (List TopTree) → Outcome
  stopped : ExpandErr → Outcome
  cut : Outcome

-- at most so many replacements
abbrev pub run_on : List Top → (List Macro → Counts → List Top → Outcome) → TopProgress (List Top) → Outcome
run_on ts further rests = whole (finished_tops ts)
run_on ts further (ends f) = stopped f
run_on ts further (goes ks n us) = further ks n us

abbrev pub run : ℕ → List Macro → Counts → List Top → Outcome
run zero ks n ts = cut
run (suc i) ks n ts = run_on ts (run i) (tops_step ks n ts)

abbrev pub run_scanned : Scanned → Outcome
run_scanned (bad at) = stopped (fault.BadRules at)
run_scanned (scanned ks ts) = run 200 ks start ts

abbrev pub outcome_text : Outcome → List (List ℕ)
outcome_text (whole None) = codes "unfinished" ∷ []
outcome_text (whole (Some ts)) = tops_text ts
outcome_text (stopped f) = fault_text f ∷ []
outcome_text cut = codes "cut" ∷ []

-- the core forms of a source, or what refuses it
abbrev pub expanded : List ℕ → List (List ℕ)
expanded bs = outcome_text (run_scanned (scan_module (source bs)))

-- One replacement, where so many lists may still stand in each other and so much was counted: of the last form of a source.
abbrev pub progress_text : Progress Mid → List ℕ
progress_text still = codes "still"
progress_text (moves n m) = codes "moves"
progress_text (stops f) = fault_text f

abbrev pub last_step : ℕ → Counts → List Macro → List Top → List ℕ
last_step room n ks [] = codes "none"
last_step room n ks (form d ∷ []) = progress_text (step ks room [] n (raw d))
last_step room n ks (t ∷ ts) = last_step room n ks ts

abbrev pub scanned_step : ℕ → Counts → Scanned → List ℕ
scanned_step room n (bad at) = codes "bad"
scanned_step room n (scanned ks ts) = last_step room n ks ts

abbrev pub counts : ℕ → ℕ → Counts
counts expansions filled = record { expansions = expansions; filled = filled; names = 0 }

abbrev pub stepped : ℕ → Counts → List ℕ → List ℕ
stepped room n bs = scanned_step room n (scan_module (source bs))

-- one replacement of the last form of a source at top level, where so much was counted
abbrev pub became : List Top → List ℕ
became (defined sort x w m ∷ []) = parens (sort_text sort ∷ binder_text x ∷ codes "_" ∷ []) ++ codes " in " ++ decimal w
became ts = codes "moves"

abbrev pub top_progress_text : TopProgress (List Top) → List ℕ
top_progress_text rests = codes "still"
top_progress_text (goes ks n ts) = became ts
top_progress_text (ends f) = fault_text f

abbrev pub last_top_step : Counts → List Macro → List Top → List ℕ
last_top_step n ks [] = codes "none"
last_top_step n ks (t ∷ []) = top_progress_text (top_step ks n t)
last_top_step n ks (t ∷ ts) = last_top_step n ks ts

abbrev pub scanned_top_step : Counts → Scanned → List ℕ
scanned_top_step n (bad at) = codes "bad"
scanned_top_step n (scanned ks ts) = last_top_step n ks ts

abbrev pub top_stepped : Counts → List ℕ → List ℕ
top_stepped n bs = scanned_top_step n (scan_module (source bs))
