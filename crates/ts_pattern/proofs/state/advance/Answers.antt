use Rattle.std.proofs.Common.{ℕ, ◌==◌, ◌&&◌, Option, ap, subst, ◌∙◌, if◌then◌else◌}
use Rattle.ts_pattern.specs.declared.sight.Flaw.TheVariants.{Syntax, Unsupported}
use Rattle.ts_pattern.specs.declared.sight.Sight.{Sight}
use Rattle.ts_pattern.specs.declared.sign.Sign.{Sign}
use Rattle.ts_pattern.specs.declared.level.Level.{Level}
use Rattle.ts_pattern.specs.Characters.{IsSightWithin}
use Rattle.ts_pattern.specs.Signs.{IsSight}
use Rattle.ts_pattern.specs.States.{IsTakenBy}
use Rattle.ts_pattern.proofs.StateLemmas.{advanced, stops_at_flaw, stops_at_token}
use Rattle.ts_pattern.proofs.state.advance.Goals as goal

pub returns-in-Wrong : goal.returns-in-Wrong
returns-in-Wrong c =
    let w = c.args.text.now in
    let s = c.args.state in
    stops_at_flaw c.args.ignore_case w s c.requires.state c.in-Wrong.flaw c.in-Wrong.place (subst (λ (x : Sight Sign). IsSight w s.at x) c.in-Wrong.is c.in_ok-flaw.ensures.value)

pub returns-in-Some : goal.returns-in-Some
returns-in-Some c =
    let w = c.args.text.now in
    let s = c.args.state in
    let h = c.requires.state in
    let seen = subst (λ (x : Sight Sign). IsSight w s.at x) c.in-Sees.is c.in_ok-flaw.ensures.value in
    let ends = subst (λ (x : Sight Sign). IsSightWithin w s.at x) c.in-Sees.is c.in_ok-flaw.ensures.within in
    let t = subst (λ (o : Option Level). IsTakenBy c.args.ignore_case c.in-Sees.sign s.level s.outer o c.take.new.outer) c.in-Some.is c.in_ok-level-in-Sees.ensures in (
      advanced c.args.ignore_case w s h c.in-Sees.sign c.in-Sees.next t.0 c.in-Some.level c.take.new.outer c.is_quantifier-is_quantifier.result seen t.1
          (t.2 h.inner h.round h.level h.outer) (c.is_quantifier-is_quantifier.ensures c.args.ignore_case t.0 t.1) ends.1,
      ends.0,
    )

pub returns-in-None : goal.returns-in-None
returns-in-None c =
    let w = c.args.text.now in
    let s = c.args.state in
    let h = c.requires.state in
    let seen = subst (λ (x : Sight Sign). IsSight w s.at x) c.in-Sees.is c.in_ok-flaw.ensures.value in
    let t = subst (λ (o : Option Level). IsTakenBy c.args.ignore_case c.in-Sees.sign s.level s.outer o c.take.new.outer) c.in-None.is c.in_ok-level-in-Sees.ensures in
    stops_at_token c.args.ignore_case w s h c.in-Sees.sign c.in-Sees.next t.0 c.take.new.outer c.misplaced-flaw.result seen t.1 (t.2 h.inner h.round h.level h.outer)
    (c.misplaced-flaw.ensures ∙ ap (λ (n : ℕ). if s.quantified && (n == 63) then Unsupported else Syntax) c.peek.ensures.value)
