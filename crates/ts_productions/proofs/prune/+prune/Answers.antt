use Rattle.std.proofs.Common.{◌∙◌, sym, ap, subst, refl, List, [], true, false, take, ◌+◌}
use Rattle.ts_rules.specs.FirstSights.{Each, end}
use Rattle.ts_rules.specs.declared.tree.Tree.{Tree}
use Rattle.ts_rules.specs.declared.tree.Tree.TheVariants as tree
use Rattle.ts_productions.specs.Thin.{IsThinTree}
use Rattle.ts_productions.proofs.ThinLemmas.{thin_empty, thin_seq, thin_choice, thin_group, each_next, each_all, branches_begin, branches_next, branches_all, branch_pushed, branch_skipped, branch_first}
use Rattle.ts_productions.proofs.prune.+prune.Goals as goal

pub pruned-returns-then-is_empty : goal.pruned-returns-then-is_empty
pruned-returns-then-is_empty t c = thin_empty c.args.tree.now (c.is_empty.ensures c.if-is_empty.true)

pub pruned-returns-in_ok-pruned_members-in-Seq : goal.pruned-returns-in_ok-pruned_members-in-Seq
pruned-returns-in_ok-pruned_members-in-Seq t c =
    subst (λ (u : Tree). IsThinTree u (tree.Seq c.in_ok-pruned_members-in-Seq.field-0)) (ap tree.Seq c.as_slice.ensures ∙ sym c.in-Seq.is)
    (thin_seq c.as_slice.result.now c.in_ok-pruned_members-in-Seq.field-0 c.in_ok-pruned_members-in-Seq.ensures)

pub pruned-returns-in_ok-pruned_branches-in-Choice : goal.pruned-returns-in_ok-pruned_branches-in-Choice
pruned-returns-in_ok-pruned_branches-in-Choice t c =
    subst (λ (u : Tree). IsThinTree u (tree.Choice c.in_ok-pruned_branches-in-Choice.field-0)) (ap tree.Choice c.as_slice-in-Choice.ensures ∙ sym c.in-Choice.is)
    (thin_choice c.as_slice-in-Choice.result.now c.in_ok-pruned_branches-in-Choice.field-0 c.in_ok-pruned_branches-in-Choice.ensures)

pub push_branch-returns-then-not-is_empty : goal.push_branch-returns-then-not-is_empty
push_branch-returns-then-not-is_empty t c ts before =
    branch_pushed ts c.args.branch.now c.in_ok-small.small c.args.branches.now (record { found = c.push.new.self; has_blank = c.args.branches.now.has_blank }) before c.in_ok-small.ensures c.in_ok-push.ensures.ok refl

pub push_branch-returns-then-branches : goal.push_branch-returns-then-branches
push_branch-returns-then-branches t c ts before = branch_skipped ts c.args.branch.now c.args.branches.now before (c.is_empty.ensures c.if-not-is_empty.false) c.if-branches.true

pub push_branch-returns : goal.push_branch-returns
push_branch-returns t c ts before =
    branch_first ts c.args.branch.now c.args.branches.now (record { found = c.push-2.new.self; has_blank = true }) before (c.is_empty.ensures c.if-not-is_empty.false) c.in_ok-push-2.ensures.ok

pub pruned_branches-loop-branch-init : goal.pruned_branches-loop-branch-init
pruned_branches-loop-branch-init t c = branches_begin (record { found = c.new.result; has_blank = false }) c.new.ensures refl

pub pruned_branches-loop-branch-preserved : goal.pruned_branches-loop-branch-preserved
pruned_branches-loop-branch-preserved t c =
    branches_next c.args.inner.now c.loop-branch.branch-index c.branch-item.result c.loop-branch.branches c.push_branch.new.branches c.loop-branch-test.true c.branch-item.is c.loop-branch.invariant c.in_ok-push_branch.ensures

pub pruned_branches-returns : goal.pruned_branches-returns
pruned_branches-returns t c = branches_all c.args.inner.now c.loop-branch.branches c.loop-branch.branch-index c.loop-branch-test.false c.loop-branch.invariant

pub pruned_group-returns : goal.pruned_group-returns
pruned_group-returns t c =
    subst (λ (u : Tree). IsThinTree (tree.Group c.args.prec.now c.args.assoc.now c.args.inner.now) (tree.Group c.args.prec.now c.args.assoc.now u)) (sym c.in_ok-new.ensures)
    (thin_group c.args.prec.now c.args.assoc.now c.args.inner.now c.in_ok-inner.inner c.in_ok-inner.ensures)

pub pruned_members-loop-member-init : goal.pruned_members-loop-member-init
pruned_members-loop-member-init t c = subst (λ (us : List Tree). Each IsThinTree [] us) (sym c.in_ok-found.ensures) end

pub pruned_members-loop-member-preserved : goal.pruned_members-loop-member-preserved
pruned_members-loop-member-preserved t c =
    subst (λ (us : List Tree). Each IsThinTree (take (c.loop-member.member-index + 1) c.args.members.now) us) (sym c.in_ok-push.ensures.ok)
    (each_next c.args.members.now c.loop-member.found c.loop-member.member-index c.member-item.result c.in_ok-small.small c.loop-member-test.true c.member-item.is c.loop-member.invariant c.in_ok-small.ensures)

pub pruned_members-returns : goal.pruned_members-returns
pruned_members-returns t c = each_all c.args.members.now c.loop-member.found c.loop-member.member-index c.loop-member-test.false c.loop-member.invariant
