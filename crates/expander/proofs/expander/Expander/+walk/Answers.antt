use Rattle.std.proofs.Common.{Ok, Err, ap, ◌∙◌, arith}
use Rattle.std.proofs.lemmas.Result.{err_from_is_err_and}
use Rattle.scheme_data.specs.Forms.{form}
use Rattle.core_forms.specs.Mid.{raw}
use Rattle.core_forms.specs.Scope.{entered}
use Rattle.core_forms.specs.Rewriting.{Walked}
use Rattle.core_forms.specs.Code.{data_of}
use Rattle.core_forms.specs.Working.{kind_head, kind_binders}
use Rattle.expansion_steps.specs.Heads.{macros_of}
use Rattle.expander.specs.Walks.{NextLeads}
use Rattle.expander.proofs.Arounds.{same_self, same_on, around_by}
use Rattle.expander.proofs.MadeWalks.{outer_walked, whole_walked, whole_halts}
use Rattle.expander.proofs.FirstWalks.{not_empty, sequence_first, sequence_first_halts, sequence_halts, sequence_walked}
use Rattle.expander.proofs.NodeWalks.{on_any, inner_on, leave_fits, left_scope, ends_there, goes_on}
use Rattle.expander.proofs.EntryWalks.{form_on, next_on, rest_on, some_inside, some_less, inside_more, inside_stop, first_stop}
use Rattle.expander.proofs.expander.Expander.+walk.Goals as goal

pub walk_parts-parts-init : goal.walk_parts-parts-init
walk_parts-parts-init t c = record { around = same_self c.args.self.now; fits = c.requires.fits; onward = λ s xs n whole left e p. p }

pub walk_node-walk_parts-requires : goal.walk_node-walk_parts-requires
walk_node-walk_parts-requires t c = (omega arith, c.requires.outer)

pub walk_node-walk_parts-requires-2 : goal.walk_node-walk_parts-requires-2
walk_node-walk_parts-requires-2 t c = (omega arith, c.requires.inner)

pub walk_node-returns-in_err-walk_parts-clause-walked : goal.walk_node-returns-in_err-walk_parts-clause-walked
walk_node-returns-in_err-walk_parts-clause-walked t c = let r = err_from_is_err_and c.from_residual.result c.from_residual.ensures.1 in
    rw (r.1, r.2) (whole_halts (macros_of c.args.self.now.macros) c.args.room c.args.self.now.scope c.args.self.now.counts c.args.node.at (kind_head c.args.node.kind) (kind_binders c.args.node.kind) c.args.node.outer c.args.node.inner c.in_err-walk_parts.field-0.0 (outer_walked (macros_of c.args.self.now.macros) c.args.room c.args.self.now.scope c.args.self.now.counts c.args.node.at (kind_head c.args.node.kind) (kind_binders c.args.node.kind) c.args.node.outer c.args.node.inner (Err c.in_err-walk_parts.field-0.0) _ c.walk_parts.new.done c.walk_parts.new.self.counts c.new-parts.ensures c.in_err-walk_parts.ensures.walked))

pub walk_node-returns-in_err-walk_parts-2-clause-walked : goal.walk_node-returns-in_err-walk_parts-2-clause-walked
walk_node-returns-in_err-walk_parts-2-clause-walked t c = let r = err_from_is_err_and c.from_residual-in_err-walk_parts-2.result c.from_residual-in_err-walk_parts-2.ensures.1 in
    rw (r.1, r.2) (whole_halts (macros_of c.args.self.now.macros) c.args.room c.args.self.now.scope c.args.self.now.counts c.args.node.at (kind_head c.args.node.kind) (kind_binders c.args.node.kind) c.args.node.outer c.args.node.inner c.in_err-walk_parts-2.field-0.0 (inner_on (macros_of c.args.self.now.macros) (macros_of c.enter_kind.new.self.macros) c.args.room c.args.self.now.scope c.enter_kind.new.self.scope c.args.self.now.counts c.walk_parts.new.self.counts c.enter_kind.new.self.counts c.walk_parts-2.new.self.counts (kind_binders c.args.node.kind) _ c.args.node.inner (Err c.in_err-walk_parts-2.field-0.0) c.walk_parts.new.done c.walk_parts-2.new.done
    (ap macros_of (c.enter_kind.ensures.macros ∙ c.in_ok-walk_parts.ensures.around.macros)) c.enter_kind.ensures.counts (c.in_ok-count.ensures.entered ∙ ap (entered (kind_binders c.args.node.kind)) c.in_ok-walk_parts.ensures.around.scope)
    (outer_walked (macros_of c.args.self.now.macros) c.args.room c.args.self.now.scope c.args.self.now.counts c.args.node.at (kind_head c.args.node.kind) (kind_binders c.args.node.kind) c.args.node.outer c.args.node.inner (Ok tt) _ c.walk_parts.new.done c.walk_parts.new.self.counts c.new-parts.ensures c.in_ok-walk_parts.ensures.walked) c.in_err-walk_parts-2.ensures.walked))

pub walk_node-returns-clause-walked : goal.walk_node-returns-clause-walked
walk_node-returns-clause-walked t c = whole_walked (macros_of c.args.self.now.macros) c.args.room c.args.self.now.scope c.args.self.now.counts c.args.node.at (kind_head c.args.node.kind) (kind_binders c.args.node.kind) c.args.node.outer c.args.node.inner c.assemble.result c.walk_parts-2.new.done c.walk_parts-2.new.self.counts (inner_on (macros_of c.args.self.now.macros) (macros_of c.enter_kind.new.self.macros) c.args.room c.args.self.now.scope c.enter_kind.new.self.scope c.args.self.now.counts c.walk_parts.new.self.counts c.enter_kind.new.self.counts c.walk_parts-2.new.self.counts (kind_binders c.args.node.kind) _ c.args.node.inner (Ok tt) c.walk_parts.new.done c.walk_parts-2.new.done
    (ap macros_of (c.enter_kind.ensures.macros ∙ c.in_ok-walk_parts.ensures.around.macros)) c.enter_kind.ensures.counts (c.in_ok-count.ensures.entered ∙ ap (entered (kind_binders c.args.node.kind)) c.in_ok-walk_parts.ensures.around.scope)
    (outer_walked (macros_of c.args.self.now.macros) c.args.room c.args.self.now.scope c.args.self.now.counts c.args.node.at (kind_head c.args.node.kind) (kind_binders c.args.node.kind) c.args.node.outer c.args.node.inner (Ok tt) _ c.walk_parts.new.done c.walk_parts.new.self.counts c.new-parts.ensures c.in_ok-walk_parts.ensures.walked) c.in_ok-walk_parts-2.ensures.walked) c.assemble.ensures

pub walk_node-leave-requires : goal.walk_node-leave-requires
walk_node-leave-requires t c = leave_fits c.in_ok-count.count (kind_binders c.args.node.kind) c.args.self.now.scope c.walk_parts-2.new.self.scope c.in_ok-count.ensures.count (c.in_ok-walk_parts-2.ensures.around.scope ∙ c.in_ok-count.ensures.entered ∙ ap (entered (kind_binders c.args.node.kind)) c.in_ok-walk_parts.ensures.around.scope)

pub walk_node-returns-clause-around : goal.walk_node-returns-clause-around
walk_node-returns-clause-around t c = on_any c.assemble.result _ (record {
  macros = c.in_ok-walk_parts-2.ensures.around.macros ∙ c.enter_kind.ensures.macros ∙ c.in_ok-walk_parts.ensures.around.macros;
  scope = left_scope c.in_ok-count.count (kind_binders c.args.node.kind) c.args.self.now.scope c.walk_parts-2.new.self.scope c.leave.new.self c.in_ok-count.ensures.count (c.in_ok-walk_parts-2.ensures.around.scope ∙ c.in_ok-count.ensures.entered ∙ ap (entered (kind_binders c.args.node.kind)) c.in_ok-walk_parts.ensures.around.scope) c.leave.ensures;
})

pub walk_rest-looks-init : goal.walk_rest-looks-init
walk_rest-looks-init t c = record { around = same_self c.args.self.now; onward = λ n whole p. p }

pub walk_sequence-returns-in_err-formed-clause-walked : goal.walk_sequence-returns-in_err-formed-clause-walked
walk_sequence-returns-in_err-formed-clause-walked t c = let r = err_from_is_err_and c.from_residual.result c.from_residual.ensures.1 in
    rw (r.1, r.2) (sequence_first_halts (macros_of c.args.self.now.macros) c.args.room c.args.self.now.scope c.args.self.now.counts c.args.at (form c.args.first) (data_of c.args.forms) c.in_err-formed.field-0.0 c.open_form.new.self.counts c.in_err-formed.ensures.leads)

pub walk_sequence-returns-in_err-expr-clause-walked : goal.walk_sequence-returns-in_err-expr-clause-walked
walk_sequence-returns-in_err-expr-clause-walked t c = let r = err_from_is_err_and c.from_residual-in_err-expr.result c.from_residual-in_err-expr.ensures.1 in
    rw (r.1, r.2) (sequence_first_halts (macros_of c.args.self.now.macros) c.args.room c.args.self.now.scope c.args.self.now.counts c.args.at (form c.args.first) (data_of c.args.forms) c.in_err-expr.field-0.0 c.walk_form.new.self.counts (form_on c.args.self.now c.open_form.new.self c.args.room (λ r after. Walked (macros_of c.args.self.now.macros) c.args.room c.args.self.now.scope c.args.self.now.counts (raw (form c.args.first)) r after) c.in_ok-formed.formed c.open_form.new.self.counts (Err c.in_err-expr.field-0.0) c.walk_form.new.self.counts c.open_form.ensures.around c.in_ok-formed.ensures.leads c.in_err-expr.ensures.walked))

pub walk_sequence-returns-in_err-walk_rest-clause-walked : goal.walk_sequence-returns-in_err-walk_rest-clause-walked
walk_sequence-returns-in_err-walk_rest-clause-walked t c = let r = err_from_is_err_and c.from_residual-in_err-walk_rest.result c.from_residual-in_err-walk_rest.ensures.1 in
    rw (r.1, r.2) (sequence_halts (macros_of c.args.self.now.macros) c.args.room c.args.self.now.scope c.args.self.now.counts c.args.at (form c.args.first) (data_of c.args.forms) c.in_err-walk_rest.field-0.0 (rest_on c.args.self.now c.walk_form.new.self c.args.room c.walk_form.new.self.counts c.args.at (data_of c.args.forms) c.push.new.self c.walk_rest.new.parts (Err c.in_err-walk_rest.field-0.0) c.walk_rest.new.self.counts (same_on c.args.self.now c.open_form.new.self c.walk_form.new.self c.open_form.ensures.around c.in_ok-expr.ensures.around) c.in_err-walk_rest.ensures.walked
    c.args.self.now.counts _ (sequence_first (macros_of c.args.self.now.macros) c.args.room c.args.self.now.scope c.args.self.now.counts c.args.at (form c.args.first) (data_of c.args.forms) c.walk_form.new.self.counts c.in_ok-expr.expr c.new-parts.result c.push.new.self c.new-parts.ensures (c.in_ok-push.ensures {u = tt}).ok (form_on c.args.self.now c.open_form.new.self c.args.room (λ r after. Walked (macros_of c.args.self.now.macros) c.args.room c.args.self.now.scope c.args.self.now.counts (raw (form c.args.first)) r after) c.in_ok-formed.formed c.open_form.new.self.counts (Ok c.in_ok-expr.expr) c.walk_form.new.self.counts c.open_form.ensures.around c.in_ok-formed.ensures.leads c.in_ok-expr.ensures.walked))))

pub walk_sequence-returns-clause-walked : goal.walk_sequence-returns-clause-walked
walk_sequence-returns-clause-walked t c = sequence_walked (macros_of c.args.self.now.macros) c.args.room c.args.self.now.scope c.args.self.now.counts c.args.at (form c.args.first) (data_of c.args.forms) c.assemble.result c.walk_rest.new.parts c.walk_rest.new.self.counts (rest_on c.args.self.now c.walk_form.new.self c.args.room c.walk_form.new.self.counts c.args.at (data_of c.args.forms) c.push.new.self c.walk_rest.new.parts (Ok tt) c.walk_rest.new.self.counts (same_on c.args.self.now c.open_form.new.self c.walk_form.new.self c.open_form.ensures.around c.in_ok-expr.ensures.around) c.in_ok-walk_rest.ensures.walked
    c.args.self.now.counts _ (sequence_first (macros_of c.args.self.now.macros) c.args.room c.args.self.now.scope c.args.self.now.counts c.args.at (form c.args.first) (data_of c.args.forms) c.walk_form.new.self.counts c.in_ok-expr.expr c.new-parts.result c.push.new.self c.new-parts.ensures (c.in_ok-push.ensures {u = tt}).ok (form_on c.args.self.now c.open_form.new.self c.args.room (λ r after. Walked (macros_of c.args.self.now.macros) c.args.room c.args.self.now.scope c.args.self.now.counts (raw (form c.args.first)) r after) c.in_ok-formed.formed c.open_form.new.self.counts (Ok c.in_ok-expr.expr) c.walk_form.new.self.counts c.open_form.ensures.around c.in_ok-formed.ensures.leads c.in_ok-expr.ensures.walked))) c.assemble.ensures

pub walk_rest-returns-in_err-formed-clause-walked : goal.walk_rest-returns-in_err-formed-clause-walked
walk_rest-returns-in_err-formed-clause-walked t c = let r = err_from_is_err_and c.from_residual.result c.from_residual.ensures.1 in
    rw (r.1, r.2) (λ n whole q. around_by (λ ks s. NextLeads (macros_of ks) c.args.room s c.looks.self.counts c.args.at (data_of c.looks.forms) (Err c.in_err-formed.field-0.0) c.next.new.self.counts) c.args.self.now c.looks.self c.looks.invariant.around c.in_err-formed.ensures.leads n whole c.looks.parts (c.looks.invariant.onward n whole q))

pub walk_rest-returns-in_err-expr-clause-walked : goal.walk_rest-returns-in_err-expr-clause-walked
walk_rest-returns-in_err-expr-clause-walked t c = let r = err_from_is_err_and c.from_residual-in_err-expr.result c.from_residual-in_err-expr.ensures.1 in
    rw (r.1, r.2) (λ n whole q. (next_on c.args.self.now c.looks.self c.next.new.self c.args.room c.looks.self.counts c.args.at (data_of c.looks.forms) c.in_ok-formed.field-0 c.next.new.self.counts (Err c.in_err-expr.field-0.0) c.walk_form.new.self.counts c.looks.invariant.around c.in_ok-formed.ensures.around c.in_ok-formed.ensures.leads c.in_err-expr.ensures.walked n whole c.looks.parts (c.looks.invariant.onward n whole q)))

pub walk_rest-returns-then-is_empty-clause-walked : goal.walk_rest-returns-then-is_empty-clause-walked
walk_rest-returns-then-is_empty-clause-walked t c = λ n whole q. ends_there (macros_of c.args.self.now.macros) c.args.room c.args.self.now.scope n whole c.args.at c.walk_form.new.self.counts c.push.new.self c.in_ok-formed.field-0.left (c.is_empty.ensures.0 c.if-is_empty.true) ((next_on c.args.self.now c.looks.self c.next.new.self c.args.room c.looks.self.counts c.args.at (data_of c.looks.forms) c.in_ok-formed.field-0 c.next.new.self.counts (Ok c.in_ok-expr.expr) c.walk_form.new.self.counts c.looks.invariant.around c.in_ok-formed.ensures.around c.in_ok-formed.ensures.leads c.in_ok-expr.ensures.walked n whole c.looks.parts (c.looks.invariant.onward n whole q)) c.push.new.self (c.in_ok-push.ensures {u = tt}).ok)

pub walk_rest-looks-preserved : goal.walk_rest-looks-preserved
walk_rest-looks-preserved t c = record {
  around = same_on c.args.self.now c.next.new.self c.walk_form.new.self (same_on c.args.self.now c.looks.self c.next.new.self c.looks.invariant.around c.in_ok-formed.ensures.around) c.in_ok-expr.ensures.around;
  onward = λ n whole q. goes_on (macros_of c.args.self.now.macros) c.args.room c.args.self.now.scope n whole c.args.at c.walk_form.new.self.counts c.push.new.self c.in_ok-formed.field-0.left (λ e. not_empty c.is_empty.result (c.is_empty.ensures.1 e) c.if-is_empty.false) ((next_on c.args.self.now c.looks.self c.next.new.self c.args.room c.looks.self.counts c.args.at (data_of c.looks.forms) c.in_ok-formed.field-0 c.next.new.self.counts (Ok c.in_ok-expr.expr) c.walk_form.new.self.counts c.looks.invariant.around c.in_ok-formed.ensures.around c.in_ok-formed.ensures.leads c.in_ok-expr.ensures.walked n whole c.looks.parts (c.looks.invariant.onward n whole q)) c.push.new.self (c.in_ok-push.ensures {u = tt}).ok);
}

pub walk_entry-returns-in-Form-clause-walked : goal.walk_entry-returns-in-Form-clause-walked
walk_entry-returns-in-Form-clause-walked t c = rw c.in-Form.is c.walk_form.ensures.walked

pub walk_entry-returns-in-Sequence-clause-walked : goal.walk_entry-returns-in-Sequence-clause-walked
walk_entry-returns-in-Sequence-clause-walked t c = rw c.in-Sequence.is c.walk_sequence.ensures.walked

pub walk_parts-parts-preserved : goal.walk_parts-parts-preserved
walk_parts-parts-preserved t c = record {
  around = same_on c.args.self.now c.first_part.new.self c.walk_entry.new.self (same_on c.args.self.now c.parts.self c.first_part.new.self c.parts.invariant.around c.in_ok-room.ensures.around) c.in_ok-expr.ensures.around;
  fits = (some_less c.args.room c.parts.parts c.first_part.new.parts c.in_ok-room.field-0 c.in-Some.field-0 c.in-Some.is c.in_ok-room.ensures.left).fits;
  onward = λ s xs n whole left e p. inside_more c.args.self.now c.parts.self c.first_part.new.self c.args.room s xs n whole left c.parts.parts c.first_part.new.parts c.parts.done c.parts.invariant.around e (c.parts.invariant.onward s xs n whole left e p) c.in-Some.field-0 c.first_part.new.self.counts c.in_ok-expr.expr c.walk_entry.new.self.counts _ c.in_ok-room.ensures.around (some_inside (macros_of c.parts.self.macros) c.args.room c.parts.self.scope c.parts.self.counts c.parts.parts c.in_ok-room.field-0 c.in-Some.field-0 c.first_part.new.parts c.first_part.new.self.counts c.in-Some.is c.in_ok-room.ensures.leads) c.in_ok-expr.ensures.walked (c.in_ok-push.ensures {u = tt}).ok;
}

pub walk_parts-returns-in_err-expr-clause-walked : goal.walk_parts-returns-in_err-expr-clause-walked
walk_parts-returns-in_err-expr-clause-walked t c = let r = err_from_is_err_and c.from_residual-in_err-expr.result c.from_residual-in_err-expr.ensures.1 in
    rw (r.1, r.2) (λ s xs n whole left e p. inside_stop c.args.self.now c.parts.self c.first_part.new.self c.args.room s xs n whole left c.parts.parts c.first_part.new.parts c.parts.done c.parts.invariant.around e (c.parts.invariant.onward s xs n whole left e p) c.in-Some.field-0 c.first_part.new.self.counts c.in_err-expr.field-0.0 c.walk_entry.new.self.counts c.in_ok-room.ensures.around (some_inside (macros_of c.parts.self.macros) c.args.room c.parts.self.scope c.parts.self.counts c.parts.parts c.in_ok-room.field-0 c.in-Some.field-0 c.first_part.new.parts c.first_part.new.self.counts c.in-Some.is c.in_ok-room.ensures.leads) c.in_err-expr.ensures.walked)

pub walk_parts-returns-in_err-room-clause-walked : goal.walk_parts-returns-in_err-room-clause-walked
walk_parts-returns-in_err-room-clause-walked t c = let r = err_from_is_err_and c.from_residual.result c.from_residual.ensures.1 in
    rw (r.1, r.2) (λ s xs n whole left e p. first_stop c.args.self.now c.parts.self c.first_part.new.self c.args.room s xs n whole left c.parts.parts c.first_part.new.parts c.parts.done c.parts.invariant.around e (c.parts.invariant.onward s xs n whole left e p) c.in_err-room.field-0.0 c.first_part.new.self.counts c.in_err-room.ensures.leads)
