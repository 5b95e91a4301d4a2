use Rattle.std.proofs.Common.{◌≡◌, ◌++◌, drop, length}
use Rattle.ts_rules.specs.Alternatives.{alternatives_each, choice_of}
use Rattle.ts_rules.proofs.walk.+walk.Given as goal

abbrev pub invariant-member_alternatives-loop-member : goal.invariant-member_alternatives-loop-member
invariant-member_alternatives-loop-member l =
    (length l.parts ≡ l.member-index) × (alternatives_each l.inner l.around ≡ l.parts ++ alternatives_each (drop l.member-index l.inner) l.around)

abbrev pub invariant-branch_alternatives-loop-branch : goal.invariant-branch_alternatives-loop-branch
invariant-branch_alternatives-loop-branch l = choice_of l.inner l.around ≡ l.found ++ choice_of (drop l.branch-index l.inner) l.around
