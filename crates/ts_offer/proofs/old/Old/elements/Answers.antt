use Rattle.std.proofs.Common.{◌≡◌, ◌∙◌, sym, ap, subst, Option, Some, None, vec_capacity, arith}
use Rattle.spec_trees.specs.Trees.{symbol_of, state_of}
use Rattle.ts_offer.specs.declared.offering.Offering.{Offering}
use Rattle.ts_offer.specs.declared.way.Turn.{Turn}
use Rattle.ts_offer.specs.Ways.{HasRunAt}
use Rattle.ts_offer.proofs.StopLemmas.{none_named}
use Rattle.ts_offer.proofs.WayLemmas.{later_way}
use Rattle.ts_offer.proofs.old.Old.elements.Goals.{in-Some, in-None}
use Rattle.ts_offer.proofs.old.Old.elements.Goals as goal

pub go_to-requires : goal.go_to-requires
go_to-requires c =
    later_way c.self.inside.way.root.now (vec_capacity c.self.inside.way.turns) c.self.inside.way.turns.items c.self.inside.least c.max-self-inside.result c.self.invariant (omega (arith, c.max-self-inside.ensures))

pub returns-clause-none : goal.returns-clause-none
returns-clause-none c le =
    let least : c.self.inside.least ≡ c.args.self.now.least = ap (λ (o : Offering). o.least) c.self.view_is in
    none_named c.args.self.now.tree c.self.inside.way.root.now c.go_to.new.self.root.now (vec_capacity c.go_to.new.self.turns) c.go_to.new.self.turns.items c.args.place c.max-self-inside.result c.args.state c.args.symbol.0 c.go_to.result c.innermost.result c.match-innermost.result
    (ap (λ (o : Offering). o.tree) c.self.view_is) c.go_to.ensures.root (omega (arith, c.max-self-inside.ensures, least, le))
    c.go_to.ensures.way c.go_to.ensures.next c.go_to.ensures.last c.innermost.ensures.last
    (λ t is at from begins named below run none. elim c.match-innermost.branch [
      | in-Some b ↦
          let q : Some b.in-Some.turn ≡ Some t = sym b.in-Some.is ∙ is in
          let d : b.in-Some.turn ≡ t = cc in
          let i = b.result-is in
          let r : b.elements_in.result ≡ None = cc in
          b.elements_in.ensures.none at from (ap (λ (x : Turn). x.begins) d ∙ begins) (ap (λ (x : Turn). symbol_of x.node.now) d ∙ named) (ap (λ (x : Turn). state_of x.node.now) d ∙ below)
          (subst (λ (x : Turn). HasRunAt x.node.now at c.args.place from) (sym d) run) r
      | in-None b ↦ absurd (let q : ◌≡◌ {A = Option Turn} None (Some t) = sym b.in-None.is ∙ is in cc)
    ])
