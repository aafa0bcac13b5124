use Rattle.std.proofs.Common.{ℕ, ◌≤◌, List, [], refl, ap, sym, subst, arith}
use Rattle.c_tree.specs.Functions.{items_of}
use Rattle.c_meaning.specs.Program.{cm}
use Rattle.c_machine.specs.declared.stepping.Frame.{Frame}
use Rattle.c_machine.specs.declared.stepping.Regs.{Regs}
use Rattle.c_machine.specs.Steps.{config_of}
use Rattle.c_machine.proofs.Runs.{MeansIn, begins, begun, main_within, seen_through, line_is_there, step_needs, step_goes, step_falls, step_ends, step_cannot_write, step_lacks_memory, ran_ok, ran_err}
use Rattle.c_machine.proofs.machine.Machine.run.Goals as goal

-- over two steps
both_later : {a b d : ℕ} → a ≤ b → b ≤ d → a ≤ d
both_later h k = omega arith

pub function_at-requires : goal.function_at-requires
function_at-requires g c =
    let d = seen_through c.self.inside.program c.args.self.now c.self.inside.functions c.as_slice-funs.result.now c.self.inside.main c.self.view_is c.as_slice-funs.ensures c.self.invariant in
    main_within c.args.self.now.items c.as_slice-funs.result.now c.self.inside.main d

pub steps-init : goal.steps-init
steps-init g c =
    let d = seen_through c.self.inside.program c.args.self.now c.self.inside.functions c.as_slice-funs.result.now c.self.inside.main c.self.view_is c.as_slice-funs.ensures c.self.invariant in
    let items = c.args.self.now.items in
    let w = cm (items_of items) c.args.input.now c.args.args.now c.args.turns in
    let f = c.function_at.result.now in
    let m = begins items c.as_slice-funs.result.now c.self.inside.main f c.args.input.now c.args.args.now c.args.turns d c.function_at.ensures in
    let h = c.in_ok-stacks.ensures {u = tt} in
    let regs : Regs = record { fun = c.self.inside.main; pc = 1; base = 0; turns = c.args.turns } in
    let slots = c.in_ok-stacks.stacks.slots.items in
    let es = h.slots in
    let ef = h.frames in
    let m2 = subst (λ (l : List ℕ). MeansIn items (record { fun = c.self.inside.main; pc = 1; base = 0; turns = c.args.turns; slots = l; frames = []; value = 0 }) [] w) (sym es) m in
    let m3 = subst (λ (l : List Frame). MeansIn items (record { fun = c.self.inside.main; pc = 1; base = 0; turns = c.args.turns; slots = slots; frames = l; value = 0 }) [] w) (sym ef) m2 in
    record {
      goes = begun items (config_of regs c.in_ok-stacks.stacks 0) w (g.K.Sink.written c.args.out.now) m3;
      later = omega arith;
    }

pub fetch-instr-requires : goal.fetch-instr-requires
fetch-instr-requires g c =
    let d = seen_through c.self.inside.program c.args.self.now c.self.inside.functions c.as_slice-funs.result.now c.self.inside.main c.self.view_is c.as_slice-funs.ensures c.self.invariant in
    let goes = c.steps.invariant.goes in
    line_is_there c.args.self.now.items c.as_slice-funs.result.now c.self.inside.main (config_of c.steps.regs c.steps.stacks c.steps.acc.value) goes.output _ d goes.means

pub step-requires : goal.step-requires
step-requires g c =
    let d = seen_through c.self.inside.program c.args.self.now c.self.inside.functions c.as_slice-funs.result.now c.self.inside.main c.self.view_is c.as_slice-funs.ensures c.self.invariant in
    let items = c.args.self.now.items in
    let w = cm (items_of items) c.args.input.now c.args.args.now c.args.turns in
    let now = config_of c.steps.regs c.steps.stacks c.steps.acc.value in
    let fetched = config_of c.fetch-instr.new.regs c.steps.stacks c.steps.acc.value in
    let is = ap (λ (r : Regs). config_of r c.steps.stacks c.steps.acc.value) c.fetch-instr.ensures.regs in
    let first = g.K.Sink.written c.args.out.now in
    let before = g.K.Sink.written c.steps.out in
    step_needs items c.as_slice-funs.result.now c.self.inside.main d now fetched w first before c.steps.invariant.goes c.fetch-instr.result.now c.fetch-instr.new.regs.pc c.fetch-instr.ensures.line is

pub steps-smaller : goal.steps-smaller
steps-smaller g c =
    let d = seen_through c.self.inside.program c.args.self.now c.self.inside.functions c.as_slice-funs.result.now c.self.inside.main c.self.view_is c.as_slice-funs.ensures c.self.invariant in
    let items = c.args.self.now.items in
    let w = cm (items_of items) c.args.input.now c.args.args.now c.args.turns in
    let now = config_of c.steps.regs c.steps.stacks c.steps.acc.value in
    let fetched = config_of c.fetch-instr.new.regs c.steps.stacks c.steps.acc.value in
    let is = ap (λ (r : Regs). config_of r c.steps.stacks c.steps.acc.value) c.fetch-instr.ensures.regs in
    let first = g.K.Sink.written c.args.out.now in
    let before = g.K.Sink.written c.steps.out in
    step_falls items c.as_slice-funs.result.now c.self.inside.main d now fetched w first before c.steps.invariant.goes c.fetch-instr.result.now c.fetch-instr.new.regs.pc c.fetch-instr.ensures.line is (config_of c.step.new.regs c.step.new.stacks c.step.new.acc.value) c.step.new.acc.end (g.K.Sink.written c.step.new.out) (c.in-Going.ensures {u = tt}).does

pub steps-preserved : goal.steps-preserved
steps-preserved g c =
    let d = seen_through c.self.inside.program c.args.self.now c.self.inside.functions c.as_slice-funs.result.now c.self.inside.main c.self.view_is c.as_slice-funs.ensures c.self.invariant in
    let items = c.args.self.now.items in
    let w = cm (items_of items) c.args.input.now c.args.args.now c.args.turns in
    let now = config_of c.steps.regs c.steps.stacks c.steps.acc.value in
    let fetched = config_of c.fetch-instr.new.regs c.steps.stacks c.steps.acc.value in
    let is = ap (λ (r : Regs). config_of r c.steps.stacks c.steps.acc.value) c.fetch-instr.ensures.regs in
    let first = g.K.Sink.written c.args.out.now in
    let before = g.K.Sink.written c.steps.out in
    let h = c.in-Going.ensures {u = tt} in
    record {
      goes = step_goes items c.as_slice-funs.result.now c.self.inside.main d now fetched w first before c.steps.invariant.goes c.fetch-instr.result.now c.fetch-instr.new.regs.pc c.fetch-instr.ensures.line is (config_of c.step.new.regs c.step.new.stacks c.step.new.acc.value) c.step.new.acc.end (g.K.Sink.written c.step.new.out) h.does;
      later = omega (arith, h.later, c.steps.invariant.later);
    }

pub returns-in-Over-clause-told : goal.returns-in-Over-clause-told
returns-in-Over-clause-told g c =
    let d = seen_through c.self.inside.program c.args.self.now c.self.inside.functions c.as_slice-funs.result.now c.self.inside.main c.self.view_is c.as_slice-funs.ensures c.self.invariant in
    let items = c.args.self.now.items in
    let w = cm (items_of items) c.args.input.now c.args.args.now c.args.turns in
    let now = config_of c.steps.regs c.steps.stacks c.steps.acc.value in
    let fetched = config_of c.fetch-instr.new.regs c.steps.stacks c.steps.acc.value in
    let is = ap (λ (r : Regs). config_of r c.steps.stacks c.steps.acc.value) c.fetch-instr.ensures.regs in
    let first = g.K.Sink.written c.args.out.now in
    let before = g.K.Sink.written c.steps.out in
    let e = step_ends items c.as_slice-funs.result.now c.self.inside.main d now fetched w first before c.steps.invariant.goes c.fetch-instr.result.now c.fetch-instr.new.regs.pc c.fetch-instr.ensures.line is (config_of c.step.new.regs c.step.new.stacks c.step.new.acc.value) c.step.new.acc.end (g.K.Sink.written c.step.new.out) (c.in-Over.ensures {u = tt}).does in
    ran_ok first (g.K.Sink.written c.step.new.out) w c.step.new.acc.end e.told

pub returns-in-Over-clause-end : goal.returns-in-Over-clause-end
returns-in-Over-clause-end g c =
    let d = seen_through c.self.inside.program c.args.self.now c.self.inside.functions c.as_slice-funs.result.now c.self.inside.main c.self.view_is c.as_slice-funs.ensures c.self.invariant in
    let items = c.args.self.now.items in
    let w = cm (items_of items) c.args.input.now c.args.args.now c.args.turns in
    let now = config_of c.steps.regs c.steps.stacks c.steps.acc.value in
    let fetched = config_of c.fetch-instr.new.regs c.steps.stacks c.steps.acc.value in
    let is = ap (λ (r : Regs). config_of r c.steps.stacks c.steps.acc.value) c.fetch-instr.ensures.regs in
    let first = g.K.Sink.written c.args.out.now in
    let before = g.K.Sink.written c.steps.out in
    (step_ends items c.as_slice-funs.result.now c.self.inside.main d now fetched w first before c.steps.invariant.goes c.fetch-instr.result.now c.fetch-instr.new.regs.pc c.fetch-instr.ensures.line is (config_of c.step.new.regs c.step.new.stacks c.step.new.acc.value) c.step.new.acc.end (g.K.Sink.written c.step.new.out) (c.in-Over.ensures {u = tt}).does).is

pub returns-in-WriteFault-clause-told : goal.returns-in-WriteFault-clause-told
returns-in-WriteFault-clause-told g c =
    let d = seen_through c.self.inside.program c.args.self.now c.self.inside.functions c.as_slice-funs.result.now c.self.inside.main c.self.view_is c.as_slice-funs.ensures c.self.invariant in
    let items = c.args.self.now.items in
    let w = cm (items_of items) c.args.input.now c.args.args.now c.args.turns in
    let now = config_of c.steps.regs c.steps.stacks c.steps.acc.value in
    let fetched = config_of c.fetch-instr.new.regs c.steps.stacks c.steps.acc.value in
    let is = ap (λ (r : Regs). config_of r c.steps.stacks c.steps.acc.value) c.fetch-instr.ensures.regs in
    let first = g.K.Sink.written c.args.out.now in
    let before = g.K.Sink.written c.steps.out in
    ran_err first (g.K.Sink.written c.step.new.out) w _ (step_cannot_write items c.as_slice-funs.result.now c.self.inside.main d now fetched w first before c.steps.invariant.goes c.fetch-instr.result.now c.fetch-instr.new.regs.pc c.fetch-instr.ensures.line is (config_of c.step.new.regs c.step.new.stacks c.step.new.acc.value) c.step.new.acc.end (g.K.Sink.written c.step.new.out) (c.in-WriteFault.ensures {u = tt}).does)

pub returns-in-Memory-clause-told : goal.returns-in-Memory-clause-told
returns-in-Memory-clause-told g c =
    let d = seen_through c.self.inside.program c.args.self.now c.self.inside.functions c.as_slice-funs.result.now c.self.inside.main c.self.view_is c.as_slice-funs.ensures c.self.invariant in
    let items = c.args.self.now.items in
    let w = cm (items_of items) c.args.input.now c.args.args.now c.args.turns in
    let now = config_of c.steps.regs c.steps.stacks c.steps.acc.value in
    let fetched = config_of c.fetch-instr.new.regs c.steps.stacks c.steps.acc.value in
    let is = ap (λ (r : Regs). config_of r c.steps.stacks c.steps.acc.value) c.fetch-instr.ensures.regs in
    let first = g.K.Sink.written c.args.out.now in
    let before = g.K.Sink.written c.steps.out in
    ran_err first (g.K.Sink.written c.step.new.out) w _ (step_lacks_memory items c.as_slice-funs.result.now c.self.inside.main d now fetched w first before c.steps.invariant.goes c.fetch-instr.result.now c.fetch-instr.new.regs.pc c.fetch-instr.ensures.line is (config_of c.step.new.regs c.step.new.stacks c.step.new.acc.value) c.step.new.acc.end (g.K.Sink.written c.step.new.out) (c.in-Memory.ensures {u = tt}).does)

pub returns-in_err-stacks-clause-same : goal.returns-in_err-stacks-clause-same
returns-in_err-stacks-clause-same g c = refl

pub returns-in-Over-clause-same : goal.returns-in-Over-clause-same
returns-in-Over-clause-same g c = refl

pub returns-in-WriteFault-clause-same : goal.returns-in-WriteFault-clause-same
returns-in-WriteFault-clause-same g c = refl

pub returns-in-Memory-clause-same : goal.returns-in-Memory-clause-same
returns-in-Memory-clause-same g c = refl

pub returns-in-Over-clause-later : goal.returns-in-Over-clause-later
returns-in-Over-clause-later g c = both_later c.steps.invariant.later (c.in-Over.ensures {u = tt}).later

pub returns-in-WriteFault-clause-later : goal.returns-in-WriteFault-clause-later
returns-in-WriteFault-clause-later g c = both_later c.steps.invariant.later (c.in-WriteFault.ensures {u = tt}).later

pub returns-in-Memory-clause-later : goal.returns-in-Memory-clause-later
returns-in-Memory-clause-later g c = both_later c.steps.invariant.later (c.in-Memory.ensures {u = tt}).later

pub returns-in-Memory-clause-fault : goal.returns-in-Memory-clause-fault
returns-in-Memory-clause-fault g c e = absurd (cc)
