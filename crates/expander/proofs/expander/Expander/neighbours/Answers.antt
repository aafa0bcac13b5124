use Rattle.std.proofs.Common.{◌∙◌, refl}
use Rattle.scheme_data.specs.Forms.{form, next}
use Rattle.core_forms.specs.Rewriting.{here}
use Rattle.core_forms.specs.Code.{data_of}
use Rattle.expansion_steps.specs.Heads.{macros_of}
use Rattle.expander.specs.Groups.{group_mid}
use Rattle.expander.proofs.Groups.{stays_self, stays_on, group_without_end, group_closed, group_on, neighbour_by}
use Rattle.expander.proofs.expander.Expander.neighbours.Goals as goal

pub looks-init : goal.looks-init
looks-init c = record { path = λ s i room. here; stays = stays_self c.args.group.now c.args.self.now.scope c.requires.named; macros = refl }

pub returns-in_default-clause-grouped : goal.returns-in_default-clause-grouped
returns-in_default-clause-grouped c = λ s i room. group_without_end (macros_of c.args.self.now.macros) s c.args.self.now.counts (group_mid c.args.group.now (data_of c.args.forms)) c.looks.self.counts c.looks.group c.looks.forms (c.looks.invariant.path s i) c.in_default.ensures.0 room

pub returns-in-Body-clause-grouped : goal.returns-in-Body-clause-grouped
returns-in-Body-clause-grouped c = λ s i. group_closed (macros_of c.args.self.now.macros) s c.args.self.now.counts (group_mid c.args.group.now (data_of c.args.forms)) c.looks.self.counts c.looks.group c.looks.forms (c.looks.invariant.path s i)
    c.in-Some.form c.pop.new.self c.in-Some.ensures c.neighbour.new.group c.neighbour.new.self.counts c.in_ok-others.field-0 c.in-Body.body c.in-Body.is
    (neighbour_by c.looks.self.macros c.args.self.now.macros s c.looks.self.counts (group_mid c.looks.group (next (form c.in-Some.form) (data_of c.pop.new.self))) c.neighbour.new.group c.in_ok-others.field-0 c.neighbour.new.self.counts c.looks.invariant.macros
    (c.in_ok-others.ensures.turns s (c.looks.invariant.stays.inner s i)))

pub looks-preserved : goal.looks-preserved
looks-preserved c = record {
  path = λ s i. group_on (macros_of c.args.self.now.macros) s c.args.self.now.counts (group_mid c.args.group.now (data_of c.args.forms)) c.looks.self.counts c.looks.group c.looks.forms (c.looks.invariant.path s i)
      c.in-Some.form c.pop.new.self c.in-Some.ensures c.neighbour.new.group c.neighbour.new.self.counts c.in_ok-others.field-0 c.in-More.others c.in-More.is
      (neighbour_by c.looks.self.macros c.args.self.now.macros s c.looks.self.counts (group_mid c.looks.group (next (form c.in-Some.form) (data_of c.pop.new.self))) c.neighbour.new.group c.in_ok-others.field-0 c.neighbour.new.self.counts c.looks.invariant.macros
      (c.in_ok-others.ensures.turns s (c.looks.invariant.stays.inner s i)));
  stays = stays_on c.args.group.now c.looks.group c.neighbour.new.group c.args.self.now.scope c.looks.self.scope c.neighbour.new.self.scope c.looks.invariant.stays c.in_ok-others.ensures.stays;
  macros = c.neighbour.ensures.macros ∙ c.looks.invariant.macros;
}
