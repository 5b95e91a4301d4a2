use Rattle.ts_node.proofs.FormLemmas.{form_leaf, form_extra, form_reduced, form_accepted, form_remade, form_children}
use Rattle.ts_node.proofs.laws.made_nodes_are_in_form.Goals as goal

pub returns : goal.returns
returns c = record {
  leaf = form_leaf;
  extra = form_extra;
  reduced = form_reduced;
  accepted = form_accepted;
  remade = form_remade;
  children = form_children;
}
