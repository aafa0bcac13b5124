-- A function's lines do its statements.
use Rattle.std.proofs.Common.{◌≡◌, ℕ, zero, suc, ◌+◌, ◌≤◌, true, List, [], ◌∷◌, Some, slice_get, drop, refl, sym, ap, subst, ◌∙◌, arith}
use Rattle.c_tree.specs.declared.tree.CTy.{CTy}
use Rattle.c_tree.specs.declared.tree.CVar.{CVar}
use Rattle.c_tree.specs.Code.{Code, done, assign, call, return, test, loop, ended, goto, catch, protect}
use Rattle.c_tree.specs.Layout.{size}
use Rattle.c_meaning.specs.Execution.{Names, position_of}
use Rattle.c_meaning.specs.Plain.{Signature, code_fits}
use Rattle.c_machine.specs.declared.program.Target.TheVariants as target
use Rattle.c_machine.specs.declared.program.Instr.{Instr}
use Rattle.c_machine.specs.declared.program.Instr.TheVariants as instr
use Rattle.c_machine.specs.declared.program.Line.{Line}
use Rattle.c_machine.specs.Decoded.{line, lines, first_of, last_of, code_of, call_of, expr_instr}
use Rattle.c_machine.proofs.Means.{Shape, Straight, Looped, shape_of, statements_of, last_in, first_left, Leads, LeadsAll, AllFit}

record Front {A : Type 0} (xs : List A) (k : ℕ) (y : A) (ys : List A) : Type 0 where
  first : slice_get xs k ≡ Some y
  rest : drop (suc k) xs ≡ ys

front : {A : Type 0} (xs : List A) (k : ℕ) (y : A) (ys : List A) → drop k xs ≡ y ∷ ys → Front xs k y ys
front [] zero y ys e = absurd (cc)
front [] (suc k) y ys e = absurd (cc)
front (x ∷ xs) zero y ys e =
    let head : x ≡ y = cc in
    let tail : xs ≡ ys = cc in
    record { first = ap Some head; rest = tail }
front (x ∷ xs) (suc k) y ys e = let r = front xs k y ys e in record { first = r.first; rest = r.rest }

-- Places ------------------------------------------------------------------------------------

first_from : (c : Code) (at on : ℕ) → at ≤ on → at ≤ first_of c at on
first_from done at on le = le
first_from (assign x e rest) at on le = omega arith
first_from (call c rest) at on le = omega arith
first_from (return e rest) at on le = omega arith
first_from (test e a b rest) at on le = omega arith
first_from (loop l body rest) at on le = omega arith
first_from (ended body l rest) at on le = omega arith
first_from (goto l rest) at on le = omega arith
first_from (catch k r body rest) at on le = omega arith
first_from (protect a b rest) at on le = omega arith

-- code that fills what lies between two places begins at the first
first_between : (c : Code) (at on : ℕ) → on ≡ at + size c → first_of c at on ≡ at
first_between done at on e = omega arith
first_between (assign x e rest) at on h = refl
first_between (call c rest) at on h = refl
first_between (return e rest) at on h = refl
first_between (test e a b rest) at on h = refl
first_between (loop l body rest) at on h = refl
first_between (ended body l rest) at on h = refl
first_between (goto l rest) at on h = refl
first_between (catch k r body rest) at on h = refl
first_between (protect a b rest) at on h = refl

-- Code --------------------------------------------------------------------------------------

module _ (names funs : Names) (code : List Line) where
  -- where the lines of code stand, they do it, and others follow
  record Laid (c : Code) (at on : ℕ) (others : List Line) : Type 0 where
    leads : Leads names funs code c (first_of c at on) on
    rest : drop (at + size c) code ≡ others

  ended_at : (n m : ℕ) (others : List Line) → drop n code ≡ others → n ≡ m → drop m code ≡ others
  ended_at n m others h e = ap (λ k. drop k code) (sym e) ∙ h

  lines_lead : (c : Code) (at on : ℕ) (others : List Line) → drop at code ≡ lines names funs c at on others → at + size c ≤ on → Laid c at on others
  unfolding Leads
  lines_lead done at on others h le = record { leads = refl; rest = ended_at at (at + 0) others h (omega arith) }
  lines_lead (assign x e rest) at on others h le =
      let next = first_of rest (suc at) on in
      let f = front code at (line (expr_instr names funs (target.Local (position_of x names)) e) next) (lines names funs rest (suc at) on others) h in
      let r = lines_lead rest (suc at) on others f.rest (omega arith) in
      let ahead = first_from rest (suc at) on (omega arith) in
      record {
        leads = (next, record { there = f.first; ahead = ahead }, r.leads);
        rest = ended_at (suc at + size rest) (at + size (assign x e rest)) others r.rest (omega arith);
      }
  lines_lead (call c rest) at on others h le =
      let next = first_of rest (suc at) on in
      let f = front code at (line (call_of names funs target.Nowhere c.callee c.args) next) (lines names funs rest (suc at) on others) h in
      let r = lines_lead rest (suc at) on others f.rest (omega arith) in
      let ahead = first_from rest (suc at) on (omega arith) in
      record {
        leads = (next, record { there = f.first; ahead = ahead }, r.leads);
        rest = ended_at (suc at + size rest) (at + size (call c rest)) others r.rest (omega arith);
      }
  lines_lead (return e rest) at on others h le =
      let next = first_of rest (suc at) on in
      let f = front code at (line (expr_instr names funs target.Caller e) next) (lines names funs rest (suc at) on others) h in
      let r = lines_lead rest (suc at) on others f.rest (omega arith) in
      let ahead = first_from rest (suc at) on (omega arith) in
      record {
        leads = (next, record { there = f.first; ahead = ahead }, r.leads);
        rest = ended_at (suc at + size rest) (at + size (return e rest)) others r.rest (omega arith);
      }
  lines_lead (test e a b rest) at on others h le =
      let m = suc at + size a in
      let k = m + size b in
      let after = first_of rest k on in
      let other = first_of b m after in
      let next = first_of a (suc at) after in
      let behind = lines names funs rest k on others in
      let second = lines names funs b m after behind in
      let f = front code at (line (expr_instr names funs (target.Test other) e) next) (lines names funs a (suc at) after second) h in
      let far = first_from rest k on (omega arith) in
      let p = lines_lead a (suc at) after second f.rest (omega (arith, far)) in
      let q = lines_lead b m after behind p.rest (omega (arith, far)) in
      let r = lines_lead rest k on others q.rest (omega arith) in
      let ahead = first_from a (suc at) after (omega (arith, far)) in
      let ahead_too = first_from b m after (omega (arith, far)) in
      record {
        leads = (next, other, after, record { there = f.first; ahead = omega (arith, ahead, ahead_too) }, p.leads, q.leads, r.leads);
        rest = ended_at (k + size rest) (at + size (test e a b rest)) others r.rest (omega arith);
      }
  lines_lead (loop l body rest) at on others h le =
      let k = suc at + size body in
      let after = first_of rest k on in
      let behind = lines names funs rest k on others in
      let f = front code at (line instr.Turn (first_of body (suc at) after)) (lines names funs body (suc at) after behind) h in
      let far = first_from rest k on (omega arith) in
      let q = lines_lead body (suc at) after behind f.rest (omega (arith, far)) in
      let r = lines_lead rest k on others q.rest (omega arith) in
      record { leads = tt; rest = ended_at (k + size rest) (at + size (loop l body rest)) others r.rest (omega arith) }
  lines_lead (ended body l rest) at on others h le =
      let k = suc at + size body in
      let after = first_of rest k on in
      let behind = lines names funs rest k on others in
      let f = front code at (line instr.Stop (first_of body (suc at) after)) (lines names funs body (suc at) after behind) h in
      let far = first_from rest k on (omega arith) in
      let q = lines_lead body (suc at) after behind f.rest (omega (arith, far)) in
      let r = lines_lead rest k on others q.rest (omega arith) in
      record { leads = tt; rest = ended_at (k + size rest) (at + size (ended body l rest)) others r.rest (omega arith) }
  lines_lead (goto l rest) at on others h le =
      let f = front code at (line instr.Stop (first_of rest (suc at) on)) (lines names funs rest (suc at) on others) h in
      let r = lines_lead rest (suc at) on others f.rest (omega arith) in
      record { leads = tt; rest = ended_at (suc at + size rest) (at + size (goto l rest)) others r.rest (omega arith) }
  lines_lead (catch x y body rest) at on others h le =
      let k = suc at + size body in
      let after = first_of rest k on in
      let behind = lines names funs rest k on others in
      let f = front code at (line instr.Stop (first_of body (suc at) after)) (lines names funs body (suc at) after behind) h in
      let far = first_from rest k on (omega arith) in
      let q = lines_lead body (suc at) after behind f.rest (omega (arith, far)) in
      let r = lines_lead rest k on others q.rest (omega arith) in
      record { leads = tt; rest = ended_at (k + size rest) (at + size (catch x y body rest)) others r.rest (omega arith) }
  lines_lead (protect a b rest) at on others h le =
      let m = suc at + size a in
      let k = m + size b in
      let after = first_of rest k on in
      let behind = lines names funs rest k on others in
      let second = lines names funs b m after behind in
      let f = front code at (line instr.Stop (first_of a (suc at) after)) (lines names funs a (suc at) after second) h in
      let far = first_from rest k on (omega arith) in
      let p = lines_lead a (suc at) after second f.rest (omega (arith, far)) in
      let q = lines_lead b m after behind p.rest (omega (arith, far)) in
      let r = lines_lead rest k on others q.rest (omega arith) in
      record { leads = tt; rest = ended_at (k + size rest) (at + size (protect a b rest)) others r.rest (omega arith) }

  -- the last instruction stands behind the code
  last_leads : (c : Code) (at on next : ℕ) (last : Instr) → drop at code ≡ lines names funs c at on (line last next ∷ []) → on ≡ at + size c → LeadsAll names funs code last (c ∷ []) at
  unfolding LeadsAll
  last_leads c at on next last h e =
      let r = lines_lead c at on (line last next ∷ []) h (omega arith) in
      let f = front code (at + size c) (line last next) [] r.rest in
      (on, subst (λ n. Leads names funs code c n on) (first_between c at on e) r.leads, (next, ap (slice_get code) e ∙ f.first))

-- Functions ---------------------------------------------------------------------------------

pub statements_back : (c : Code) (l : List ℕ) (body : Code) → shape_of c ≡ Looped l body → c ≡ loop l body done
statements_back done l body h = absurd (cc)
statements_back (assign x e rest) l body h = absurd (cc)
statements_back (call c rest) l body h = absurd (cc)
statements_back (return e rest) l body h = absurd (cc)
statements_back (test e a b rest) l body h = absurd (cc)
statements_back (loop m c done) l body h =
    let label : m ≡ l = cc in
    let block : c ≡ body = cc in
    ap (λ n. loop n c done) label ∙ ap (λ d. loop l d done) block
statements_back (loop m c (assign x e rest)) l body h = absurd (cc)
statements_back (loop m c (call d rest)) l body h = absurd (cc)
statements_back (loop m c (return e rest)) l body h = absurd (cc)
statements_back (loop m c (test e a b rest)) l body h = absurd (cc)
statements_back (loop m c (loop n d rest)) l body h = absurd (cc)
statements_back (loop m c (ended d n rest)) l body h = absurd (cc)
statements_back (loop m c (goto n rest)) l body h = absurd (cc)
statements_back (loop m c (catch x y d rest)) l body h = absurd (cc)
statements_back (loop m c (protect d e rest)) l body h = absurd (cc)
statements_back (ended d n rest) l body h = absurd (cc)
statements_back (goto n rest) l body h = absurd (cc)
statements_back (catch x y d rest) l body h = absurd (cc)
statements_back (protect d e rest) l body h = absurd (cc)

pub straight_back : (c d : Code) → shape_of c ≡ Straight d → d ≡ c
straight_back done d h = cc
straight_back (assign x e rest) d h = cc
straight_back (call c rest) d h = cc
straight_back (return e rest) d h = cc
straight_back (test e a b rest) d h = cc
straight_back (loop m c done) d h = absurd (cc)
straight_back (loop m c (assign x e rest)) d h = cc
straight_back (loop m c (call e rest)) d h = cc
straight_back (loop m c (return e rest)) d h = cc
straight_back (loop m c (test e a b rest)) d h = cc
straight_back (loop m c (loop n e rest)) d h = cc
straight_back (loop m c (ended e n rest)) d h = cc
straight_back (loop m c (goto n rest)) d h = cc
straight_back (loop m c (catch x y e rest)) d h = cc
straight_back (loop m c (protect a b rest)) d h = cc
straight_back (ended e n rest) d h = cc
straight_back (goto n rest) d h = cc
straight_back (catch x y e rest) d h = cc
straight_back (protect a b rest) d h = cc

-- checked statements are no loop
pub straight : (sigs : List Signature) (vars : List CVar) (t : CTy) (c : Code) → code_fits sigs vars t c ≡ true → shape_of c ≡ Straight c
straight sigs vars t done h = refl
straight sigs vars t (assign x e rest) h = refl
straight sigs vars t (call c rest) h = refl
straight sigs vars t (return e rest) h = refl
straight sigs vars t (test e a b rest) h = refl
straight sigs vars t (loop l body rest) h = absurd (cc)
straight sigs vars t (ended body l rest) h = absurd (cc)
straight sigs vars t (goto l rest) h = absurd (cc)
straight sigs vars t (catch k r body rest) h = absurd (cc)
straight sigs vars t (protect a b rest) h = absurd (cc)

stops : (sigs : List Signature) (vars : List CVar) (t : CTy) (c : Code) → code_fits sigs vars t c ≡ true → last_of c ≡ instr.Stop
stops sigs vars t done h = refl
stops sigs vars t (assign x e rest) h = refl
stops sigs vars t (call c rest) h = refl
stops sigs vars t (return e rest) h = refl
stops sigs vars t (test e a b rest) h = refl
stops sigs vars t (loop l body rest) h = absurd (cc)
stops sigs vars t (ended body l rest) h = absurd (cc)
stops sigs vars t (goto l rest) h = absurd (cc)
stops sigs vars t (catch k r body rest) h = absurd (cc)
stops sigs vars t (protect a b rest) h = absurd (cc)

-- what stands at the places where a function and a block begin
abbrev LeadsIn : Names → Names → Code → List Code → ℕ → Type 0
LeadsIn names funs c left at = LeadsAll names funs (code_of names funs c) (last_in (shape_of c)) left at

pub main_leads : (names funs : Names) (sigs : List Signature) (vars : List CVar) (t : CTy) (c : Code) → code_fits sigs vars t c ≡ true → LeadsIn names funs c (c ∷ []) 1
main_leads names funs sigs vars t c h =
    let s = straight sigs vars t c h in
    let last : last_of c ≡ last_in (shape_of c) = stops sigs vars t c h ∙ sym (ap last_in s) in
    let end = suc (size c) in
    let lead = last_leads names funs (code_of names funs c) c 1 end end (last_of c) refl (omega arith) in
    subst (λ (i : Instr). LeadsAll names funs (code_of names funs c) i (c ∷ []) 1) last lead

pub turn_leads : (names funs : Names) (l : List ℕ) (body c : Code) → c ≡ loop l body done → LeadsIn names funs c [] 1
unfolding LeadsAll
turn_leads names funs l body c e =
    let end = suc (size (loop l body done)) in
    let next = first_of body 2 end in
    subst (λ (d : Code). LeadsIn names funs d [] 1) (sym e) (next, refl)

pub block_leads : (names funs : Names) (l : List ℕ) (body c : Code) → c ≡ loop l body done → LeadsIn names funs c (body ∷ []) 2
block_leads names funs l body c e =
    let end = suc (size (loop l body done)) in
    let lead : LeadsIn names funs (loop l body done) (body ∷ []) 2 = last_leads names funs (code_of names funs (loop l body done)) body 2 end end instr.Turn refl (omega arith) in
    subst (λ (d : Code). LeadsIn names funs d (body ∷ []) 2) (sym e) lead

-- where a function begins
pub first_leads : (names funs : Names) (sigs : List Signature) (vars : List CVar) (t : CTy) (c : Code) (shape : Shape) → shape_of c ≡ shape → code_fits sigs vars t (statements_of shape) ≡ true → LeadsIn names funs c (first_left shape) 1
first_leads names funs sigs vars t c (Straight d) e h =
    let same = straight_back c d e in
    subst (λ (x : Code). LeadsIn names funs c (x ∷ []) 1) (sym same) (main_leads names funs sigs vars t c (ap (code_fits sigs vars t) (sym same) ∙ h))
first_leads names funs sigs vars t c (Looped l body) e h = turn_leads names funs l body c (statements_back c l body e)

pub first_fits : (sigs : List Signature) (vars : List CVar) (t : CTy) (shape : Shape) → code_fits sigs vars t (statements_of shape) ≡ true → AllFit sigs vars t (first_left shape)
first_fits sigs vars t (Straight c) h = (h, tt)
first_fits sigs vars t (Looped l c) h = tt
