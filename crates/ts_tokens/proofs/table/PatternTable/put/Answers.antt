use Rattle.std.proofs.Common.{◌≡◌, ◌∙◌, sym, ap, subst, refl, Bool, cond, Some}
use Rattle.std.specs.Str.{bytes_eq}
use Rattle.indexmap.specs.IndexMap.{get}
use Rattle.ts_base.specs.Bytes.{Bytes}
use Rattle.ts_pattern.specs.Reads.{Reads}
use Rattle.ts_tokens.specs.Patterns.{TakesIn}
use Rattle.ts_tokens.proofs.TableLemmas.{learns_plain, learns_ignoring}
use Rattle.ts_tokens.proofs.table.PatternTable.put.Goals as goal

pub returns-then-ignore_case : goal.returns-then-ignore_case
returns-then-ignore_case c =
    let old = c.args.self.now in
    let key : c.in_ok-text.text ≡ c.args.text.now = c.in_ok-text.ensures ∙ c.text.ensures in
    let reads = subst (λ (b : Bool). Reads c.args.text.now b c.args.re) c.if-ignore_case.true c.requires in
    subst (λ (b : Bool). TakesIn old (record { plain = old.plain; ignoring_case = c.insert.new.self }) (c.args.text.now, b)) (sym c.if-ignore_case.true)
    (learns_ignoring old (record { plain = old.plain; ignoring_case = c.insert.new.self }) c.args.text.now c.args.re refl
    (λ q. c.in_ok-insert.ensures.updates.0 q ∙ ap (λ (k : Bytes). cond (bytes_eq k q) (Some c.args.re) (get bytes_eq old.ignoring_case q)) key) reads)

pub returns : goal.returns
returns c =
    let old = c.args.self.now in
    let key : c.in_ok-text.text ≡ c.args.text.now = c.in_ok-text.ensures ∙ c.text.ensures in
    let reads = subst (λ (b : Bool). Reads c.args.text.now b c.args.re) c.if-ignore_case.false c.requires in
    subst (λ (b : Bool). TakesIn old (record { plain = c.insert-2.new.self; ignoring_case = old.ignoring_case }) (c.args.text.now, b)) (sym c.if-ignore_case.false)
    (learns_plain old (record { plain = c.insert-2.new.self; ignoring_case = old.ignoring_case }) c.args.text.now c.args.re refl
    (λ q. c.in_ok-insert-2.ensures.updates.0 q ∙ ap (λ (k : Bytes). cond (bytes_eq k q) (Some c.args.re) (get bytes_eq old.plain q)) key) reads)
