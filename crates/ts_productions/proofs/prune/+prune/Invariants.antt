use Rattle.std.proofs.Common.{take}
use Rattle.ts_rules.specs.FirstSights.{Each}
use Rattle.ts_productions.specs.Thin.{IsThinTree, AreBranches}
use Rattle.ts_productions.proofs.prune.+prune.Given as goal

abbrev pub invariant-pruned_members-loop-member : goal.invariant-pruned_members-loop-member
invariant-pruned_members-loop-member l = Each IsThinTree (take l.member-index l.members) l.found

abbrev pub invariant-pruned_branches-loop-branch : goal.invariant-pruned_branches-loop-branch
invariant-pruned_branches-loop-branch l = AreBranches (take l.branch-index l.inner) l.branches
