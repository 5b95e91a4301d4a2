use Rattle.std.proofs.Common.{◌≡◌, ◌∙◌, sym, true, false, arith}
use Rattle.ts_core.specs.declared.action.Action.TheVariants.{Shift, Reduce, Accept}
use Rattle.ts_places.proofs.NothingLemmas.{over_nothing, no_steps_wanted}
use Rattle.ts_places.proofs.nothing.is_over_nothing.Goals as goal

pub wanted-requires : goal.wanted-requires
wanted-requires c = let r = c.requires in let q = r.3 c.in-Reduce.number c.in-Reduce.is in (r.0, r.1, q.0, q.1, r.2, q.2)

pub returns-in-Reduce : goal.returns-in-Reduce
returns-in-Reduce c = λ t size setting has.
    let q = has c.in-Reduce.number c.in-Reduce.is in
    let w = c.wanted.ensures t size q.0 q.1 setting q.2 in (
      (λ h. over_nothing t c.args.action c.in-Reduce.number q.0 q.1 c.in-Reduce.is q.2 c.wanted.result w (grind arith)),
      (λ o. let e = no_steps_wanted t c.args.action c.in-Reduce.number q.0 q.1 c.in-Reduce.is q.2 c.wanted.result w o in grind arith),
    )

pub returns-in-Shift : goal.returns-in-Shift
returns-in-Shift c = λ t size setting has. ((λ h. absurd (let f : false ≡ true = h in cc)), (λ o. absurd (let f : Shift c.in-Shift.field-0 ≡ Reduce o.number = sym c.in-Shift.is ∙ o.is in cc)))

pub returns-in-Accept : goal.returns-in-Accept
returns-in-Accept c = λ t size setting has. ((λ h. absurd (let f : false ≡ true = h in cc)), (λ o. absurd (let f : Accept ≡ Reduce o.number = sym c.in-Accept.is ∙ o.is in cc)))
