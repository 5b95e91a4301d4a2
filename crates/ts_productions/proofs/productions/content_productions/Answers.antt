use Rattle.std.proofs.Common.{◌≡◌, ◌∙◌, sym, ap, subst}
use Rattle.ts_rules.specs.Alternatives.{Alternatives}
use Rattle.ts_rules.specs.Productions.{filled, again}
use Rattle.ts_productions.specs.Roots.{whole}
use Rattle.ts_productions.specs.Thin.{IsThin}
use Rattle.ts_productions.proofs.ProductionLemmas.{few_part, thin_productions}
use Rattle.ts_productions.proofs.ThinLemmas.{thin_again}
use Rattle.ts_productions.proofs.productions.content_productions.Goals as goal

pub productions_of-requires-2-clause-few : goal.productions_of-requires-2-clause-few
productions_of-requires-2-clause-few c =
    let more : c.as_slice-3.result.now ≡ again c.args.repetition c.in_ok-once.once = c.as_slice-3.ensures ∙ c.in_ok-more.ensures ∙ ap (again c.args.repetition) c.as_slice.ensures in
    let thin : IsThin (again c.args.repetition (filled (whole c.args.content.now))) c.as_slice-3.result.now =
    subst (λ (xs : Alternatives). IsThin (again c.args.repetition (filled (whole c.args.content.now))) xs) (sym more) (thin_again c.args.repetition (filled (whole c.args.content.now)) c.in_ok-once.once c.in_ok-once.ensures) in
    few_part c.args.sources.now (again c.args.repetition (filled (whole c.args.content.now))) c.as_slice-3.result.now thin.has c.requires.again

pub returns : goal.returns
returns c =
    let once : c.as_slice-2.result.now ≡ c.in_ok-once.once = c.as_slice-2.ensures in
    let more : c.as_slice-3.result.now ≡ again c.args.repetition c.in_ok-once.once = c.as_slice-3.ensures ∙ c.in_ok-more.ensures ∙ ap (again c.args.repetition) c.as_slice.ensures in
    let thin_once : IsThin (filled (whole c.args.content.now)) c.as_slice-2.result.now =
    subst (λ (xs : Alternatives). IsThin (filled (whole c.args.content.now)) xs) (sym once) c.in_ok-once.ensures in
    let thin_more : IsThin (again c.args.repetition (filled (whole c.args.content.now))) c.as_slice-3.result.now =
    subst (λ (xs : Alternatives). IsThin (again c.args.repetition (filled (whole c.args.content.now))) xs) (sym more) (thin_again c.args.repetition (filled (whole c.args.content.now)) c.in_ok-once.once c.in_ok-once.ensures) in
    record {
      once = c.in_ok-found.found;
      more = c.in_ok-rest.rest;
      is = c.in_ok-append.ensures;
      are_once = thin_productions c.args.sources.now c.requires.ordered (filled (whole c.args.content.now)) c.as_slice-2.result.now c.in_ok-found.found thin_once c.in_ok-found.ensures;
      are_more = thin_productions c.args.sources.now c.requires.ordered (again c.args.repetition (filled (whole c.args.content.now))) c.as_slice-3.result.now c.in_ok-rest.rest thin_more c.in_ok-rest.ensures;
    }
