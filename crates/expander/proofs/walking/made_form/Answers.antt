use Rattle.expander.proofs.EntryWalks.{leaf_leads, constant_leads, quoted_leads, made_node_leads}
use Rattle.expander.proofs.walking.made_form.Goals as goal

pub returns-in-Leaf-clause-leads : goal.returns-in-Leaf-clause-leads
returns-in-Leaf-clause-leads c = rw c.in-Leaf.is (leaf_leads c.args.room c.in-Leaf.expr)

pub returns-in-Constant-clause-leads : goal.returns-in-Constant-clause-leads
returns-in-Constant-clause-leads c = rw c.in-Constant.is (constant_leads c.args.room c.in-Constant.at c.in-Constant.datum c.nests_within.result c.leaf.result c.leaf.ensures c.nests_within.ensures)

pub returns-in-Quoted-clause-leads : goal.returns-in-Quoted-clause-leads
returns-in-Quoted-clause-leads c = rw c.in-Quoted.is (quoted_leads c.args.room c.in-Quoted.at c.in-Quoted.datum c.quotes_within.result c.leaf-in-Quoted.result c.leaf-in-Quoted.ensures c.quotes_within.ensures)

pub returns-in-Node-clause-leads : goal.returns-in-Node-clause-leads
returns-in-Node-clause-leads c = rw c.in-Node.is (made_node_leads c.args.room c.in-Node.node c.node_form.result c.node_form.ensures.leads)
