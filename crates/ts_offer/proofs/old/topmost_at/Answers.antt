use Rattle.std.proofs.Common.{◌≡◌, ◌∙◌, sym, subst, arith, Option, option_copied}
use Rattle.std.proofs.lemmas.Bool.{false≢true}
use Rattle.spec_reuse.specs.Offered.{IsFit}
use Rattle.ts_offer.specs.declared.way.Ahead.{Ahead}
use Rattle.ts_offer.specs.Ways.{LeadsTo, IsNext}
use Rattle.ts_offer.proofs.TopLemmas.{root_answer, ahead_here, ahead_later}
use Rattle.ts_offer.proofs.old.topmost_at.Goals as goal

pub returns-then-takes_root : goal.returns-then-takes_root
returns-then-takes_root c =
    let r = c.takes_root.ensures.0 c.if-takes_root.true in
    root_answer c.args.root.now c.args.place c.args.state c.nodes.ensures.whole r.0 r.1

pub returns-then-ahead-place : goal.returns-then-ahead-place
returns-then-ahead-place c =
    let unfit : c.args.place ≡ 0 → IsFit c.args.state c.args.root.now → ⊥ = λ z f. false≢true (sym c.if-takes_root.false ∙ c.takes_root.ensures.1 (z, f)) in
    let next : IsNext c.args.root.now c.args.place c.in-Some.ahead = subst (λ (o : Option Ahead). LeadsTo c.args.root.now c.args.place o) c.in-Some.is c.requires.next in
    ahead_here c.args.root.now c.args.place c.args.state c.in-Some.ahead (option_copied c.topmost.result) unfit next (omega (arith, c.if-ahead-place.true)) c.topmost.ensures

pub returns-else-ahead-place : goal.returns-else-ahead-place
returns-else-ahead-place c =
    let unfit : c.args.place ≡ 0 → IsFit c.args.state c.args.root.now → ⊥ = λ z f. false≢true (sym c.if-takes_root.false ∙ c.takes_root.ensures.1 (z, f)) in
    let next : IsNext c.args.root.now c.args.place c.in-Some.ahead = subst (λ (o : Option Ahead). LeadsTo c.args.root.now c.args.place o) c.in-Some.is c.requires.next in
    ahead_later c.args.root.now c.args.place c.args.state c.in-Some.ahead unfit next (λ e. omega (arith, c.if-ahead-place.false, e))
