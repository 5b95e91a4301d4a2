use Rattle.std.proofs.Common.{◌≡◌, sym, subst, refl, ℕ, List, length, Some, slice_get, arith}
use Rattle.std.proofs.lemmas.Option.{slice_get_read}
use Rattle.ts_query_syntax.specs.declared.read_query.ReadQuery.{ReadQuery}
use Rattle.ts_loading.specs.Reading.{AreLoadedAs}
use Rattle.ts_loading.proofs.LoopLemmas.{read_none}
use Rattle.ts_loading.proofs.loading.read_all.Goals as goal

pub loop-number-init : goal.loop-number-init
loop-number-init g c = (
  omega arith,
  subst (λ (qs : List ReadQuery). AreLoadedAs c.args.grammar.now c.args.hosts.now c.args.texts.now 0 qs (g.P.Patterns.sources c.args.patterns.now) (g.P.Patterns.sources c.args.patterns.now)) (sym c.requires.empty)
      (read_none c.args.grammar.now c.args.hosts.now c.args.texts.now (g.P.Patterns.sources c.args.patterns.now)),
)

pub loop-number-preserved : goal.loop-number-preserved
loop-number-preserved g c =
    let inv = c.loop-number.invariant in
    let texts = c.args.texts.now in
    let i = c.loop-number.number in
    let at : slice_get texts i ≡ Some c.index-texts-number.result = slice_get_read texts (length texts) i c.index-texts-number.result refl c.loop-number-test.true c.index-texts-number.is in
    let before = inv.0 in
    let later = c.read_one.ensures.later in (
      omega (arith, before, later),
      c.in-Ok.ensures.read texts (g.P.Patterns.sources c.args.patterns.now) at inv.1,
    )

pub returns-in-Err-clause-cause : goal.returns-in-Err-clause-cause
returns-in-Err-clause-cause g c =
    let inv = c.loop-number.invariant in
    let texts = c.args.texts.now in
    let i = c.loop-number.number in
    let at : slice_get texts i ≡ Some c.index-texts-number.result = slice_get_read texts (length texts) i c.index-texts-number.result refl c.loop-number-test.true c.index-texts-number.is in
    c.in-Err.ensures.cause texts (g.P.Patterns.sources c.args.patterns.now) (g.P.Patterns.refusals c.args.patterns.now) at inv.1 inv.0

pub returns-clause-read : goal.returns-clause-read
returns-clause-read g c =
    let past = c.loop-number-test.false in
    let most = c.loop-number.auto.number-end in
    let whole : c.loop-number.number ≡ length c.args.texts.now = omega (arith, past, most) in
    let inv = c.loop-number.invariant in
    subst (λ (n : ℕ). AreLoadedAs c.args.grammar.now c.args.hosts.now c.args.texts.now n c.loop-number.queries (g.P.Patterns.sources c.args.patterns.now) (g.P.Patterns.sources c.loop-number.patterns)) whole inv.1
