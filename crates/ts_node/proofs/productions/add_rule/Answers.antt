use Rattle.std.proofs.Common.{◌≡◌, ℕ, ◌+◌, ◌++◌, ◌∷◌, [], List, arith, sym, subst, take}
use Rattle.spec_grammar.specs.Symbols.{count_productions}
use Rattle.ts_node.specs.declared.productions.Entry.{Entry}
use Rattle.ts_node.specs.Entries.{AreUpTo}
use Rattle.ts_node.proofs.ProductionLemmas.{push_entry}
use Rattle.ts_node.proofs.productions.add_rule.Goals as goal

pub loop-i-preserved : goal.loop-i-preserved
loop-i-preserved c =
    let before : ℕ = count_productions (take c.args.r c.args.flat.now.rules) in
    let o : c.push.new.self ≡ c.loop-i.entries ++ c.entry_at.result ∷ [] = c.in_ok-push.ensures.ok in
    let q : before + c.loop-i.i + 1 ≡ before + (c.loop-i.i + 1) = omega arith in
    let p : AreUpTo c.args.flat.now (before + c.loop-i.i + 1) (c.loop-i.entries ++ c.entry_at.result ∷ []) = push_entry _ _ _ _ c.loop-i.invariant c.entry_at.ensures in
    subst (λ (es : List Entry). AreUpTo c.args.flat.now (before + (c.loop-i.i + 1)) es) (sym o)
    (subst (λ (n : ℕ). AreUpTo c.args.flat.now n (c.loop-i.entries ++ c.entry_at.result ∷ [])) q p)
