use Rattle.std.proofs.Common.{◌≡◌, ℕ, ◌+◌, ◌/◌, ◌≤◌, ◌<◌, ◌^◌, arith, subst, length, not, nat_eq, take}
use Rattle.std.specs.Prelude.{if◌then◌else◌}
use Rattle.std.proofs.lemmas.Int.{ints}
use Rattle.spec_grammar.specs.Symbols.{start_symbol, count_productions, all_productions}
use Rattle.spec_trees.specs.Made.{repetition_form, of_rule}
use Rattle.ts_node.specs.Entries.{form_is}
use Rattle.ts_node.proofs.ProductionLemmas.{count_within, count_all, entry_is}
use Rattle.ts_node.proofs.productions.entry_at.Goals as goal

pub overflow_cast-count : goal.overflow_cast-count
overflow_cast-count c =
    let k : c.len-count.result ≡ length c.args.rule.now.productions = c.len-count.ensures in
    let w : count_productions (take c.args.r c.args.flat.now.rules) + length c.args.rule.now.productions ≤ count_productions c.args.flat.now.rules = count_within c.args.flat.now.rules c.args.r c.args.rule.now c.requires.rule in
    let b : length (all_productions c.args.flat.now) < 2 ^ 32 = c.requires.productions in
    grind (arith, k, w, b, count_all c.args.flat.now)

pub overflow_cast-i : goal.overflow_cast-i
overflow_cast-i c =
    let w : count_productions (take c.args.r c.args.flat.now.rules) + length c.args.rule.now.productions ≤ count_productions c.args.flat.now.rules = count_within c.args.flat.now.rules c.args.r c.args.rule.now c.requires.rule in
    let b : length (all_productions c.args.flat.now) < 2 ^ 32 = c.requires.productions in
    let i : c.args.i < length c.args.rule.now.productions = c.requires.production in
    grind (arith, w, b, i, count_all c.args.flat.now)

pub returns : goal.returns
returns c =
    let l : c.len.result ≡ length c.args.flat.now.tokens = c.len.ensures in
    let k : c.len-count.result ≡ length c.args.rule.now.productions = c.len-count.ensures in
    let n : c.len.result + 1 + c.args.r ≡ start_symbol c.args.flat.now + c.args.r = omega (arith, l) in
    let f : form_is c.form_at.result ≡ (if not (nat_eq c.args.rule.now.owner.0 (c.len.result + 1 + c.args.r)) then repetition_form (c.len-count.result / 2) c.args.i else of_rule) = c.form_at.ensures in
    let f1 : form_is c.form_at.result ≡ (if not (nat_eq c.args.rule.now.owner.0 (start_symbol c.args.flat.now + c.args.r)) then repetition_form (c.len-count.result / 2) c.args.i else of_rule) =
    subst (λ (s : ℕ). form_is c.form_at.result ≡ (if not (nat_eq c.args.rule.now.owner.0 s) then repetition_form (c.len-count.result / 2) c.args.i else of_rule)) n f in
    let f2 : form_is c.form_at.result ≡ (if not (nat_eq c.args.rule.now.owner.0 (start_symbol c.args.flat.now + c.args.r)) then repetition_form (length c.args.rule.now.productions / 2) c.args.i else of_rule) =
    subst (λ (m : ℕ). form_is c.form_at.result ≡ (if not (nat_eq c.args.rule.now.owner.0 (start_symbol c.args.flat.now + c.args.r)) then repetition_form (m / 2) c.args.i else of_rule)) k f1 in
    entry_is c.args.flat.now c.args.r c.args.i c.args.rule.now c.get.result.now _ c.requires.rule c.get.ensures n f2 (omega (arith, ints)) (omega (arith, ints))
