use Rattle.std.proofs.Common.{◌^◌, subst, sym, ◌≤◌, length, List}
use Rattle.ts_base.specs.Bytes.{Bytes}
use Rattle.ts_query_names.specs.Lent.{mentions_told}
use Rattle.ts_query_names.specs.Mentions.{kinds_named, any_captures}
use Rattle.ts_query_names.proofs.NameLemmas.{few_kinds, few_names}
use Rattle.ts_query_names.proofs.lookup.numbers_of.Goals as goal

pub invariant_of-result : goal.invariant_of-result
invariant_of-result c = record {
  few_kinds = few_kinds c.in_ok-kinds.kinds.keys (kinds_named (mentions_told c.args.mentions.now)) (2 ^ 32) c.in_ok-kinds.ensures c.requires.few_kinds;
  few_captures = few_names c.in_ok-captures.captures.keys (any_captures (mentions_told c.args.mentions.now)) (2 ^ 16) c.in_ok-captures.ensures c.requires.few_captures;
  few_fields = subst (λ (names : List Bytes). length names ≤ 2 ^ 16) (sym c.as_slice.ensures) c.requires.few_fields;
}
