use Rattle.std.proofs.Common.{ap, subst, refl, Option}
use Rattle.spec_trees.specs.declared.tree.Tree.{Tree}
use Rattle.spec_reuse.specs.Offered.{IsTopmost}
use Rattle.ts_offer.specs.declared.offering.Offering.{Offering}
use Rattle.ts_docs.specs.Reuse.{IsReusableIfAny}
use Rattle.ts_offer.specs.Answers.{IsStretchAt}
use Rattle.ts_docs.proofs.LentLemmas.{node_is, honest_lent, lent}
use Rattle.ts_docs.proofs.ReuseLemmas.{offered, reparsed_is}
use Rattle.ts_docs.proofs.parsing.reparsed.Goals as goal

pub parse_with-requires : goal.parse_with-requires
parse_with-requires g c κs =
    let text = g.X.Text.Content.bytes c.args.text.now in
    let kept = subst (λ (m : Option Tree). IsReusableIfAny c.args.table.now text m) c.in-Some.is c.requires.kept in (
      (refl, tt),
      (
        c.requires.made,
        (
          c.requires.within,
          (
            ap (λ (o : Offering). o.least) c.in_ok-offers-in-Some.ensures,
            (
              (λ place state t top. offered c.args.table.now text c.in-Some.tree t place state kept (subst (λ (o : Offering). IsTopmost o.tree place state t) c.in_ok-offers-in-Some.ensures top)),
              λ place state symbol s lies.
                  let w : IsStretchAt c.in-Some.tree place state symbol s = subst (λ (o : Offering). IsStretchAt o.tree place state symbol s) c.in_ok-offers-in-Some.ensures lies in
                  let named = c.states_are_named.ensures.names c.args.table.now c.stands.ensures in
                  let node = node_is c.sound_trees_offer_stretches.ensures c.args.table.now.grammar named.0 text c.in-Some.tree c.nodes.ensures.whole place state symbol s w in
                  lent c.sound_trees_offer_stretches.ensures c.reductions_append_elements.ensures.steps c.args.table.now c.stands.ensures.fit text c.in-Some.tree c.nodes.ensures.whole kept named.0 named.1 place state symbol s w
                  (c.sections_stand.ensures w.node w.from w.to node),
            ),
          ),
        ),
      ),
    )

pub returns-in_ok-result-in-Some-clause-reparsed : goal.returns-in_ok-result-in-Some-clause-reparsed
returns-in_ok-result-in-Some-clause-reparsed g c =
    let text = g.X.Text.Content.bytes c.args.text.now in
    let kept = subst (λ (m : Option Tree). IsReusableIfAny c.args.table.now text m) c.in-Some.is c.requires.kept in
    let named = c.states_are_named.ensures.names c.args.table.now c.stands.ensures in
    reparsed_is c.args.table.now text c.in_ok-result-in-Some.result named.0 named.1 c.in_ok-result-in-Some.ensures.form c.in_ok-result-in-Some.ensures.own
    (λ states are. c.in_ok-result-in-Some.ensures.fresh states are
    (λ place state t top. c.sound_trees_offer_honestly.ensures c.args.table.now.grammar states text c.in-Some.tree t place state (kept.sound states are)
    (subst (λ (o : Offering). IsTopmost o.tree place state t) c.in_ok-offers-in-Some.ensures top))
    (λ place state symbol s lies. honest_lent c.sound_trees_offer_stretches.ensures c.args.table.now.grammar states text c.in-Some.tree c.nodes.ensures.whole place state symbol s
    (subst (λ (o : Offering). IsStretchAt o.tree place state symbol s) c.in_ok-offers-in-Some.ensures lies) (kept.sound states are)))

pub returns-in_ok-result-in-None-clause-reparsed : goal.returns-in_ok-result-in-None-clause-reparsed
returns-in_ok-result-in-None-clause-reparsed g c =
    let text = g.X.Text.Content.bytes c.args.text.now in
    let named = c.states_are_named.ensures.names c.args.table.now c.stands.ensures in
    reparsed_is c.args.table.now text c.in_ok-result-in-None.result named.0 named.1 c.in_ok-result-in-None.ensures.form c.in_ok-result-in-None.ensures.own
    (λ states are. c.in_ok-result-in-None.ensures.fresh states are (λ place state t none. absurd none) (λ place state symbol s none. absurd none))
