use Rattle.std.proofs.Common.{◌≡◌, ◌∙◌, sym, refl, ◌≤◌, ◌<◌, true, false, length, arith}
use Rattle.ts_lexer.proofs.MarkLemmas.{keyword_found, keyword_not, keyword_none}
use Rattle.ts_lexer.proofs.marking.has_keyword.Goals as goal

pub returns-then-found : goal.returns-then-found
returns-then-found c g valid is m =
    let below : c.loop-part.part < length c.args.rules.now.kinds.items = omega (arith, c.loop-part-test.true, c.len-part-end.ensures, c.args.rules.now.kinds.ok.0) in (
      (λ _. keyword_found g c.args.rules.now valid c.args.marks.now c.loop-part.part c.index.result.now c.is_marked-marked.result is m below c.index.ensures c.is_marked-marked.ensures
          (sym c.both_hold-found.ensures ∙ c.if-found.true)),
      (λ _. refl),
    )

pub loop-part-preserved : goal.loop-part-preserved
loop-part-preserved c g valid is m =
    let below : c.loop-part.part < length c.args.rules.now.kinds.items = omega (arith, c.loop-part-test.true, c.len-part-end.ensures, c.args.rules.now.kinds.ok.0) in
    keyword_not g c.args.rules.now valid c.args.marks.now c.loop-part.part c.index.result.now c.is_marked-marked.result is m below c.index.ensures c.is_marked-marked.ensures
    (sym c.both_hold-found.ensures ∙ c.if-found.false) (c.loop-part.invariant g valid is m)

pub returns : goal.returns
returns c g valid is m =
    let past : length c.args.rules.now.kinds.items ≤ c.loop-part.part = omega (arith, c.loop-part-test.false, c.len-part-end.ensures, c.args.rules.now.kinds.ok.0) in (
      (λ x. absurd (let e : false ≡ true = x in cc)),
      (λ h. absurd (keyword_none g c.args.rules.now valid c.loop-part.part is past (c.loop-part.invariant g valid is m) h)),
    )
