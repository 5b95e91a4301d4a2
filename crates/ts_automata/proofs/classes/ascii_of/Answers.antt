use Rattle.std.proofs.Common.{◌∷◌, [], ℕ, sym, subst, length-append, arith}
use Rattle.ts_automata.proofs.SetLemmas.{each_more}
use Rattle.ts_automata.specs.Classes.{IsClassOf}
use Rattle.ts_automata.proofs.classes.ascii_of.Goals as goal

pub loop-c-preserved : goal.loop-c-preserved
loop-c-preserved c =
    let inv = c.loop-c.invariant in
    let x = c.class_by_search.result in
    rw c.in_ok-push.ensures.items (record {
      count = omega (arith, length-append c.loop-c.ascii.items (x ∷ []), inv.count);
      each = each_more (λ a k. IsClassOf c.args.bounds.now a k) c.loop-c.ascii.items x inv.each (subst (λ (n : ℕ). IsClassOf c.args.bounds.now n x) (sym inv.count) c.class_by_search.ensures);
    })
